use Rattle.std.proofs.Common.{List, ℕ, Some, subst, sym}
use Rattle.std.proofs.lemmas.Grind.{merely}
use Rattle.front_analysis.specs.Names.{grammar_of}
use Rattle.server_features.specs.Facts.{IsStated, IsTableOf}
use Rattle.server_features.proofs.notes.GrammarNotes.of_rules.Goals as goal

pub invariant_of-result : goal.invariant_of-result
invariant_of-result c =
    let rules = c.args.rules.value.items in
    let table = c.in_ok-table.table in
    let is_table : IsTableOf (grammar_of rules) table = rw c.deref.ensures.value at c.in_ok-table.ensures in
    record { stated = merely (subst (λ (t : List ℕ). IsStated t (Some table)) (sym c.in_ok-text.ensures.ok) (grammar_of rules, c.requires, is_table)) }
