use Rattle.std.proofs.Common.{◌∙◌, ◌++◌, ap₂, codes, inl, inr}
use Rattle.std.proofs.lemmas.Result.{IfOk-weaker}
use Rattle.pest_doc.proofs.messages.has_none_named.Goals as goal

pub returns-in-Some : goal.returns-in-Some
returns-in-Some c =
    let near = c.in-Some.near.now in
    let shown = ap₂ (λ f r. f ++ (codes " has no rule " ++ (r ++ (codes "; there is " ++ (near ++ codes "\n"))))) c.in_ok-file.ensures c.in_ok-shown.ensures in
    IfOk-weaker c.format.result _ _
    (λ message written. inr (near, rw c.in-Some.is at c.in_ok-near.ensures, written ∙ shown))
    c.format.ensures.ok

pub returns : goal.returns
returns c =
    let shown = ap₂ (λ f r. f ++ (codes " has no rule " ++ (r ++ codes "\n"))) c.in_ok-file.ensures c.in_ok-shown.ensures in
    IfOk-weaker c.format-in-None.result _ _ (λ message written. inl (written ∙ shown)) c.format-in-None.ensures.ok
