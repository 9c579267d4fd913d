-- Rules that are read from a text have names without `#`, and keep them.
use Rattle.std.proofs.Common.{subst, sym, ℕ, List}
use Rattle.std.proofs.lemmas.List.Elements.{All-from_recursion}
use Rattle.std.specs.Borrow.{Bor}
use Rattle.std.specs.List.{All, AllByRecursion}
use Rattle.std.specs.Str.{IsUtf8}
use Rattle.base_language.specs.Language.Expression.{Expression, Grammar, RuleType}
use Rattle.base_language.specs.Language.State.{Trees}
use Rattle.base_language.specs.Rewritings.Rewriting.{EachBody, also_rule, no_rules}
use Rattle.front_optimizer.specs.Passes.{IsOptimized}
use Rattle.front_reader.specs.Reading.{ReadsRules, end_of_input, grammar_doc, documented, defined, line_doc, normal, modified}
use Rattle.front_spanned.specs.Erasure.{rules_without_spans}
use Rattle.front_spanned.specs.Spanned.{SpannedRule}
use Rattle.front_grammar.proofs.Naming.{rule_named}
use Rattle.matcher_support.specs.Spliced.{HasNoMark}
use Rattle.pest_meta.specs.Spelling.{AreReadAsRules, HasTrees, IsAnsweredBy, SpellsGrammar}
use Rattle.pest_meta.specs.Written.{IsWritten}
use Rattle.test_calling.proofs.NamesInTrees.{HoldNames, names_hold}

abbrev AreUnmarked : Grammar → Type 0
AreUnmarked rules = AllByRecursion HasNoMark rules

-- 1. where they are read
read_unmarked : {text : List ℕ} {us : Trees} {rs : List SpannedRule} → ReadsRules text us rs → HoldNames text us → AreUnmarked (rules_without_spans rs)
unfolding rule_named
read_unmarked end_of_input h = tt
read_unmarked (grammar_doc d) h = read_unmarked d h.2
read_unmarked (documented line_doc d) h = read_unmarked d h.2
read_unmarked (defined (normal b) d) h = (h.1.0, read_unmarked d h.2)
read_unmarked (defined (modified m b) d) h = (h.1.0, read_unmarked d h.2)

-- 2. along changes of bodies
unmarked_on : {P : RuleType → Expression → Expression → Type 0} {g h : Grammar} → EachBody P g h → AreUnmarked g → AreUnmarked h
unmarked_on no_rules a = tt
unmarked_on (also_rule x e) a = (a.0, unmarked_on e a.1)

optimized_unmarked : (g answer : Grammar) → IsOptimized g answer → AreUnmarked g → AreUnmarked answer
optimized_unmarked g answer o a =
    let p = o.passes in
    unmarked_on o.lists (unmarked_on p.factors (unmarked_on p.joins (unmarked_on p.unrolls (unmarked_on p.skips (unmarked_on p.rotates a)))))

-- 3. of a text, as it is written, and of its answer
module _ (text : List ℕ) (utf8 : IsUtf8 text) where
  given : (trees : Trees) (rules : Grammar) → HasTrees text trees → AreReadAsRules text trees rules → AreUnmarked rules
  given trees rules h give = subst AreUnmarked (sym give.same) (read_unmarked give.reads (names_hold text utf8 trees h))

  pub spelled_unmarked : (rules : Grammar) → SpellsGrammar text rules → All HasNoMark rules
  spelled_unmarked rules s = All-from_recursion HasNoMark rules (given s.trees rules s.of_text s.give)

  pub written_unmarked : (rules : Grammar) → IsWritten text rules → All HasNoMark rules
  written_unmarked rules w =
      let a = w.accepted in
      All-from_recursion HasNoMark rules (unmarked_on w.written_out (given a.trees w.spelled a.of_text a.accepted.give))

  pub answer_unmarked : (builtins : List (Bor (List ℕ))) (answer : Grammar) → IsAnsweredBy text builtins answer → All HasNoMark answer
  answer_unmarked builtins answer a =
      All-from_recursion HasNoMark answer (optimized_unmarked a.spelled answer a.optimized (given a.trees a.spelled a.of_text a.accepted.give))
