use Rattle.std.proofs.Common.{◌≡◌, ◌∙◌, ℕ, ◌≤◌, Bool, Bor, Some, arith, false, get_or, length, subst, sym}
use Rattle.std.proofs.lemmas.Option.{slice_get_within, unwrap_or-slice_get}
use Rattle.std.specs.Bool.{Decides}
use Rattle.std.specs.Slice.{IsItemAt}
use Rattle.front_analysis.proofs.Roots.{nullable_nodes}
use Rattle.front_analysis.specs.Names.{grammar_of}
use Rattle.front_analysis.specs.declared.analysis.Analysis.{Analysis}
use Rattle.base_language.specs.Language.WellFormed.{IsNullable}
use Rattle.doc_diagram.proofs.Lending.{lent}
use Rattle.front_spanned.specs.Erasure.{without_spans}
use Rattle.front_spanned.specs.Nodes.{view}
use Rattle.doc_pages.specs.Nullability.{DecidesNullable}
use Rattle.doc_pages.proofs.first_sets.is_nullable.Goals as goal

-- the flag of a body's node is the answer
at_root : (a : Analysis) (number : ℕ) (root : Bor ℕ) (answer : Bool) → IsItemAt a.grammar.table.roots.items number (Some root)
    → answer ≡ get_or a.facts.nullable.items root.now false → DecidesNullable a number answer
at_root a number root answer lent_root e = λ rule h at.
    let rules = a.grammar.rules.now in
    let place = lent a.grammar.table.roots.items number (Some root) lent_root in
    let node = h.resolved.tabled.roots.lie number root.now rule at place in
    let flags = a.facts.nullable.items in
    subst (λ b. Decides b (IsNullable (grammar_of rules) (without_spans (view rule.node))))
    (unwrap_or-slice_get flags root.now false ∙ sym e)
    (nullable_nodes rules a.facts.table flags h.facts.tabled h.facts.nullable root.now (view rule.node) node)

-- a rule has a body
no_root : (a : Analysis) (number : ℕ) (answer : Bool) → length a.grammar.table.roots.items ≤ number → DecidesNullable a number answer
no_root a number answer past = λ rule h at.
    let rules = a.grammar.rules.now in
    absurd (omega (arith, past, h.resolved.tabled.roots.alike, slice_get_within rules number rule at))

pub returns-in-Some : goal.returns-in-Some
returns-in-Some c =
    at_root c.args.analysis.now c.args.rule c.in-Some.root c.is_node_nullable.result
    (subst (λ roots. IsItemAt roots c.args.rule (Some c.in-Some.root)) c.deref.ensures.value c.in-Some.ensures.lookup)
    c.is_node_nullable.ensures

pub returns-in-None : goal.returns-in-None
returns-in-None c =
    no_root c.args.analysis.now c.args.rule false
    (subst (λ roots. length roots ≤ c.args.rule) c.deref.ensures.value c.in-None.ensures.lookup.3)
