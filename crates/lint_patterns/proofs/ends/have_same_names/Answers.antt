use Rattle.std.proofs.Common.{◌∙◌, Bor, List, ℕ, sym}
use Rattle.std.proofs.lemmas.Map.Lookups.{hash_set_eq_decides}
use Rattle.std.specs.Cmp.Lexicographic.{on_texts_equal}
use Rattle.lint_patterns.proofs.ends.have_same_names.Goals as goal

pub returns : goal.returns
returns c = λ h name.
    let f : Bor (List ℕ) → List ℕ = λ text. text.now in
    (hash_set_eq_decides (on_texts_equal f) c.args.names.now c.args.others.now).0 (sym c.eq.ensures ∙ h) (record { ref_ptr = (0, 0); now = name })
