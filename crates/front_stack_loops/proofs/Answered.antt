-- Every question has flags that are its answers, and so it is settled which rules reach themselves.
use Rattle.std.proofs.Common.{◌≡◌, ◌↔◌, ℕ, List, Bool, true, slice_get, ◌∙◌, ap}
use Rattle.base_language.specs.Language.Text.{Text}
use Rattle.base_language.specs.Language.Expression.{last_place}
use Rattle.base_graphs.proofs.Found as least
use Rattle.base_graphs.specs.Least.{is_set_at}
use Rattle.front_spanned.specs.declared.node.ParserRule.{ParserRule}
use Rattle.front_stack_domain.specs.Recursion.{ReachesByCalls}
use Rattle.front_stack_loops.specs.Answers.{answer, at_place}
use Rattle.front_analysis.specs.Names.{grammar_of}
use Rattle.front_stack_loops.specs.Names.{kind_in}
use Rattle.front_stack_loops.specs.Kinds.{AreTabled}
use Rattle.front_stack_loops.specs.declared.facts.Question.{Question}
use Rattle.front_stack_loops.specs.declared.facts.Question.TheVariants as asks
use Rattle.front_stack_loops.specs.declared.table.PassNode.{PassNode}
use Rattle.front_stack_loops.proofs.LeadingLemmas.{back_told, set_place}
use Rattle.front_stack_loops.proofs.Reached.{back, leads_back}

abbrev pub answered : (q : Question) (ns : List PassNode) (roots : List ℕ) → least.AreFound (answer q roots) ns
answered q ns roots = least.found (answer q roots) ns

module _ (rules : List ParserRule) (ns : List PassNode) (roots : List ℕ) (tabled : AreTabled rules (kind_in (grammar_of rules)) ns roots) where
  abbrev back_at : ℕ → Bool
  back_at r = at_place (is_set_at (answered (asks.LeadsTo r) ns roots).flags) (slice_get roots r)

  -- whether the rule that a name means reaches itself
  abbrev pub recursive : Text → Bool
  recursive n = at_place back_at (last_place (grammar_of rules) n)

  pub recursive_reaches : (n : Text) → (recursive n ≡ true) ↔ ReachesByCalls (grammar_of rules) n n
  recursive_reaches n = (
    (λ f.
        let (r, l, on) = set_place back_at (last_place (grammar_of rules) n) f in
        let a = answered (asks.LeadsTo r) ns roots in
        back rules ns roots tabled n r l ((back_told ns roots r a.flags a.sound a.closed).0 on)),
    (λ k.
        let (r, l, b) = leads_back rules ns roots tabled n k in
        let a = answered (asks.LeadsTo r) ns roots in
        ap (at_place back_at) l ∙ (back_told ns roots r a.flags a.sound a.closed).1 b),
  )
