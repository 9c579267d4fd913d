-- The table of rules is as it should be.
use Rattle.std.proofs.Common.{◌≡◌, ℕ, suc, List, Bool, true, false, ◌&&◌, not, ◌⊎◌, inl, inr, refl}
use Rattle.base_language.specs.Language.Expression.{whitespace, comment}
use Rattle.front_spanned.specs.declared.node.ParserRule.{ParserRule}
use Rattle.front_analysis.specs.Facts.{AreNullable}
use Rattle.front_stack_domain.specs.Reports.{SkippingAltersStack, skips_in}
use Rattle.front_stack_loops.specs.Answers.{AreSound, AreClosed}
use Rattle.front_stack_loops.specs.Certain.{IsTableOf}
use Rattle.front_stack_loops.specs.Expressions.{name_flag}
use Rattle.front_stack_loops.specs.Leading.{AreCalls}
use Rattle.front_analysis.specs.Names.{grammar_of}
use Rattle.front_stack_loops.specs.Names.{kind_in}
use Rattle.front_stack_loops.specs.Kinds.{AreTabled}
use Rattle.front_stack_loops.specs.Table.{nodes_of}
use Rattle.front_stack_loops.specs.declared.facts.Question.TheVariants as asks
use Rattle.front_stack_loops.specs.declared.table.PassNode.{PassNode}
use Rattle.front_stack_loops.specs.declared.table.Table.{Table}
use Rattle.front_stack_loops.proofs.Answering as answering
use Rattle.front_stack_loops.proofs.FlagLemmas.{sound_answers}
use Rattle.front_stack_domain.specs.Turns.{most_stacks}
use Rattle.front_stack_loops.proofs.Least as least
use Rattle.front_stack_loops.proofs.Ordered.{bodies_inside, in_order}

-- what is found out of a table
pub record IsFound (rules : List ParserRule) (t : Table) : Type 0 where
  pub tabled : AreTabled rules (kind_in (grammar_of rules)) (nodes_of t) t.roots.items
  pub skips : t.skips ≡ skips_in (grammar_of rules)
  pub nullable : AreNullable rules t.nullable.items
  pub calls : AreCalls (nodes_of t) t.roots.items t.recursive.items t.ranks.items
  pub calm : SkippingAltersStack (grammar_of rules) → ⊥
  pub limit : t.limit ≡ suc most_stacks
  pub turns : t.turns ≡ 64

pub as_it_should : (rules : List ParserRule) (t : Table) → IsFound rules t → IsTableOf rules t
as_it_should rules t h = record {
  tabled = h.tabled;
  ordered = in_order rules t h.tabled h.calls.ranked;
  exact = h.calls.exact;
  inside = bodies_inside rules (kind_in (grammar_of rules)) t h.tabled;
  skips = h.skips;
  nullable = h.nullable;
  calm = h.calm;
  limit = h.limit;
  turns = h.turns;
}

both_off : (a b : Bool) → (not a && not b) ≡ true → (a ≡ false) × (b ≡ false)
both_off false false h = (refl, refl)
both_off false true h = cc
both_off true b h = cc

one_on : (a b : Bool) → (not a && not b) ≡ false → (a ≡ true) ⊎ (b ≡ true)
one_on true b h = inl refl
one_on false true h = inr refl
one_on false false h = cc

module _ (rules : List ParserRule) (ns : List PassNode) (roots : List ℕ) (tabled : AreTabled rules (kind_in (grammar_of rules)) ns roots) (flags : List Bool)
    (sound : AreSound asks.AltersStack ns roots flags) (closed : AreClosed asks.AltersStack ns roots flags) where
  abbrev off : Bool
  off = not (name_flag (grammar_of rules) roots flags whitespace) && not (name_flag (grammar_of rules) roots flags comment)

  -- what is skipped leaves the stack alone, or changes it, as the flags say
  pub is_calm : off ≡ true → SkippingAltersStack (grammar_of rules) → ⊥
  is_calm h =
      let (a, b) = both_off (name_flag (grammar_of rules) roots flags whitespace) (name_flag (grammar_of rules) roots flags comment) h in
      answering.calm rules ns roots tabled flags (sound_answers asks.AltersStack ns roots flags sound closed) a b

  pub is_changed : off ≡ false → SkippingAltersStack (grammar_of rules)
  is_changed h = elim (one_on (name_flag (grammar_of rules) roots flags whitespace) (name_flag (grammar_of rules) roots flags comment) h) [
    | inl a ↦ inl (least.changes_name rules ns roots tabled flags sound whitespace a)
    | inr b ↦ inr (least.changes_name rules ns roots tabled flags sound comment b)
  ]
