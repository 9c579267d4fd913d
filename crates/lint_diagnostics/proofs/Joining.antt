-- Starts, and those that a text states.
use Rattle.std.proofs.Common.{◌≡◌, ◌∙◌, ◌+◌, ◌<◌, ◌==◌, ℕ, Bor, List, [], ◌∷◌, ◌++◌, ap, append_assoc, arith, chars, eqb-true, false, get_or, length, map, refl, sym, take, true}
use Rattle.std.proofs.lemmas.List.{map-append, take_more}
use Rattle.base_language.specs.Language.Text.{Text}
use Rattle.front_names.specs.Builtins.{name_of}
use Rattle.front_names.specs.declared.builtin.Builtin.TheVariants.{Soi}
use Rattle.lint_findings.specs.Fragments.{fragment_of}
use Rattle.lint_findings.specs.Starts.{names_of}
use Rattle.lint_findings.specs.declared.fragments.Fragment as code_fragment
use Rattle.lint_warnings.specs.Lists.{texts_of}
use Rattle.lint_warnings.proofs.Sets.{name_characters}
use Rattle.lint_diagnostics.specs.Diagnosis.{all_starts}

-- none is stated, or some
pub none_stated : (starts : List Text) (stated : List code_fragment.Fragment) → (length stated == 0) ≡ true → starts ≡ all_starts starts (names_of (map fragment_of stated))
none_stated starts [] h = refl
none_stated starts (n ∷ ns) h = let z = eqb-true (length (n ∷ ns)) 0 h in absurd (omega arith)

-- one name more
pub one_stated : (stated : List code_fragment.Fragment) (i : ℕ) (name : code_fragment.Fragment) (starts : List Text) (old new : List (Bor (List ℕ))) → i < length stated → name ≡ get_or stated i name → new ≡ old ++ name.text ∷ []
    → texts_of old ≡ starts ++ names_of (map fragment_of (take i stated)) → texts_of new ≡ starts ++ names_of (map fragment_of (take (i + 1) stated))
one_stated stated i name starts old new h e n o =
    let now : Bor (List ℕ) → Text = λ t. chars t.now in
    let of : List code_fragment.Fragment → List Text = λ fs. names_of (map fragment_of fs) in
    let more : of (take (i + 1) stated) ≡ of (take i stated) ++ chars name.text.now ∷ [] =
    ap of (take_more stated i name h ∙ ap (λ f. take i stated ++ f ∷ []) (sym e))
    ∙ ap names_of (map-append fragment_of (take i stated) (name ∷ [])) ∙ map-append (λ f. chars f.text) (map fragment_of (take i stated)) (fragment_of name ∷ []) in
    ap texts_of n ∙ map-append now old (name.text ∷ []) ∙ ap (λ ts. ts ++ chars name.text.now ∷ []) o ∙ append_assoc starts (of (take i stated)) (chars name.text.now ∷ []) ∙ ap (λ ts. starts ++ ts) (sym more)

pub some_stated : (starts : List Text) (stated : List code_fragment.Fragment) (old new : List (Bor (List ℕ))) (last : Bor (List ℕ)) → (length stated == 0) ≡ false → new ≡ old ++ last ∷ [] → last.now ≡ name_of Soi
    → texts_of old ≡ starts ++ names_of (map fragment_of stated) → texts_of new ≡ all_starts starts (names_of (map fragment_of stated))
some_stated starts [] old new last h e s o = absurd (let z : true ≡ false = h in cc)
some_stated starts (n ∷ ns) old new last h e s o =
    let now : Bor (List ℕ) → Text = λ t. chars t.now in
    ap texts_of e ∙ map-append now old (last ∷ []) ∙ ap (λ ts. ts ++ chars last.now ∷ []) o ∙ ap (λ t. (starts ++ names_of (map fragment_of (n ∷ ns))) ++ t ∷ []) (name_characters Soi last.now s)
