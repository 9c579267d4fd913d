use Rattle.std.proofs.Common.{List, ℕ, None, subst, sym}
use Rattle.std.proofs.lemmas.Grind.{merely}
use Rattle.server_features.specs.Facts.{IsStated}
use Rattle.server_features.proofs.notes.GrammarNotes.of_no_rules.Goals as goal

pub invariant_of-result : goal.invariant_of-result
invariant_of-result c = record { stated = merely (subst (λ (t : List ℕ). IsStated t None) (sym c.in_ok-text.ensures.ok) c.requires) }
