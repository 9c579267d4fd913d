-- Rules in which each tag has become a call of a wrapper.
use Rattle.std.specs.Prelude.{[], ◌∷◌, ◌++◌, length}
use Rattle.base_language.specs.Language.Text.{Text}
use Rattle.base_language.specs.Language.Expression.{Expression, Ident, PosPred, NegPred, Seq, Choice, Opt, Rep, RepOnce, RepExact, RepMin, RepMax, RepMinMax, Push, NodeTag, RestoreOnErr, Rule, Normal, Grammar}
use Rattle.matcher_support.specs.Names.{wrapper_name}

-- the rule of a tag, which matches as the tagged expression, and gives a token as a rule does
abbrev pub wrapper : Text → Expression → Rule
wrapper n e = record { name = n; type_of = Normal; body = e }

-- an expression and the wrappers that were made so far, once the tagged expression is wrapped
abbrev pub with_wrapper : Text → Expression × Grammar → Expression × Grammar
with_wrapper t w =
    let n = wrapper_name (length w.1) t in
    (Ident n, w.1 ++ wrapper n w.0 ∷ [])

-- an expression whose tags are calls, and all wrappers, after those that were made before
abbrev pub wrapped : Expression → Grammar → Expression × Grammar
wrapped (PosPred e) ws = let x = wrapped e ws in (PosPred x.0, x.1)
wrapped (NegPred e) ws = let x = wrapped e ws in (NegPred x.0, x.1)
wrapped (Seq a b) ws = let x = wrapped a ws in let y = wrapped b x.1 in (Seq x.0 y.0, y.1)
wrapped (Choice a b) ws = let x = wrapped a ws in let y = wrapped b x.1 in (Choice x.0 y.0, y.1)
wrapped (Opt e) ws = let x = wrapped e ws in (Opt x.0, x.1)
wrapped (Rep e) ws = let x = wrapped e ws in (Rep x.0, x.1)
wrapped (RepOnce e) ws = let x = wrapped e ws in (RepOnce x.0, x.1)
wrapped (RepExact e i) ws = let x = wrapped e ws in (RepExact x.0 i, x.1)
wrapped (RepMin e i) ws = let x = wrapped e ws in (RepMin x.0 i, x.1)
wrapped (RepMax e i) ws = let x = wrapped e ws in (RepMax x.0 i, x.1)
wrapped (RepMinMax e i j) ws = let x = wrapped e ws in (RepMinMax x.0 i j, x.1)
wrapped (Push e) ws = let x = wrapped e ws in (Push x.0, x.1)
wrapped (NodeTag e t) ws = with_wrapper t (wrapped e ws)
wrapped (RestoreOnErr e) ws = let x = wrapped e ws in (RestoreOnErr x.0, x.1)
wrapped e ws = (e, ws)

-- rules whose tags are calls, and all wrappers, after those that were made before
abbrev pub wrapped_rules : Grammar → Grammar → Grammar × Grammar
wrapped_rules [] ws = ([], ws)
wrapped_rules (r ∷ rs) ws =
    let x = wrapped r.body ws in let y = wrapped_rules rs x.1 in
    (record r { body = x.0 } ∷ y.0, y.1)

-- the wrappers of a grammar's tags, and then its rules, which call them
abbrev pub wrapped_grammar : Grammar → Grammar
wrapped_grammar g = let x = wrapped_rules g [] in x.1 ++ x.0
