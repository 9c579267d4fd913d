-- Helps of errors.
use Rattle.std.proofs.Common.{◌≡◌, ◌∙◌, ◌+◌, ◌<◌, ℕ, List, [], ◌∷◌, ◌++◌, Bor, Err, IfOk, IfSome, None, Ok, Option, Result, Some, ap, ap₂, get_or, length, map, string_bytes, sym, take}
use Rattle.std.proofs.lemmas.List.{map-append, take_more}
use Rattle.std.specs.Prelude.{IsSomeAnd, codes}
use Rattle.lint_findings.specs.Helps.{IsHelpOf, IsSuggestion}
use Rattle.lint_findings.specs.declared.codes.Code.{Code}
use Rattle.lint_findings.specs.declared.codes.Code.TheVariants as code
use Rattle.lint_hints.specs.Hints.{IsReplacement}
use Rattle.lint_hints.specs.declared.help.Fix.{Fix}
use Rattle.lint_hints.specs.declared.help.Help.{Help}

-- a suggestion is a help for an undefined name
pub suggested : {E : Type 0} (c : Code) (result : Result (Option Help) E) → IfOk result (λ help. IfSome help IsSuggestion) → IfOk result (IsHelpOf c)
suggested c (Ok help) s = λ e. s
suggested c (Err x) s = tt

-- and another code needs none
pub unsuggested : {E : Type 0} (c : Code) (result : Result (Option Help) E) → (c ≡ code.UndefinedRule → ⊥) → IfOk result (IsHelpOf c)
unsuggested c (Ok help) n = λ e. absurd (n e)
unsuggested c (Err x) n = tt

-- the message has the text of the fix
pub suggests : (fix : Option Fix) (message : List ℕ) (start end : ℕ) (name : List ℕ) → IsSomeAnd fix (IsReplacement start end name) → message ≡ codes "did you mean `" ++ (name ++ codes "`?")
    → IsSomeAnd fix (λ f. message ≡ codes "did you mean `" ++ (string_bytes f.replacement ++ codes "`?"))
suggests None message start end name h e = absurd h
suggests (Some f) message start end name h e = e ∙ ap (λ t. codes "did you mean `" ++ (t ++ codes "`?")) (sym h.written)

-- one name more of a list's elements
pub one_name_more : {X : Type 0} (f : X → List ℕ) (xs : List X) (i : ℕ) (d : X) (old new : List (Bor (List ℕ))) (n : Bor (List ℕ)) → i < length xs → new ≡ old ++ n ∷ [] → n.now ≡ f (get_or xs i d)
    → map (λ name. name.now) old ≡ map f (take i xs) → map (λ name. name.now) new ≡ map f (take (i + 1) xs)
one_name_more f xs i d old new n h e a o =
    let now : Bor (List ℕ) → List ℕ = λ name. name.now in
    ap (map now) e
    ∙ (map-append now old (n ∷ [])
    ∙ (ap₂ ◌++◌ o (ap (λ t. t ∷ []) a)
    ∙ sym (ap (map f) (take_more xs i d h) ∙ map-append f (take i xs) (get_or xs i d ∷ []))))
