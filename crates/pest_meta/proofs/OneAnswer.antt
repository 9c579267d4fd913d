-- A text has one answer at most.
use Rattle.std.proofs.Common.{◌≡◌, ℕ, List, sym, ◌∙◌, subst, map}
use Rattle.std.specs.Borrow.{Bor}
use Rattle.base_language.specs.Language.Expression.{Grammar}
use Rattle.front_names.specs.GrammarNames.{AreWrittenAt, calls, definitions, first_calls}
use Rattle.front_optimizer.specs.Passes.{IsOptimized}
use Rattle.front_optimizer.proofs.OneResult.{optimized_once}
use Rattle.pest_meta.specs.Spelling.{IsAnsweredBy, SpellsGrammar}
use Rattle.pest_meta.proofs.Spelled.{spells_once, trees_once}

spelled : (text : List ℕ) (builtins : List (Bor (List ℕ))) (answer : Grammar) → (a : IsAnsweredBy text builtins answer) → SpellsGrammar text a.spelled
spelled text builtins answer a = record { trees = a.trees; of_text = a.of_text; give = a.accepted.give }

pub one_list_of_builtins : (text : List ℕ) (builtins others : List (Bor (List ℕ))) (answer rules : Grammar) → IsAnsweredBy text builtins answer → IsAnsweredBy text others rules → map (λ t. t.now) builtins ≡ map (λ t. t.now) others
one_list_of_builtins text builtins others answer rules a b =
    let same = trees_once text a.trees b.trees a.of_text b.of_text in
    subst (λ us. AreWrittenAt (first_calls (definitions text us) (calls text us)) builtins) same a.uses ∙ sym b.uses

pub one_list_of_rules : (text : List ℕ) (builtins others : List (Bor (List ℕ))) (answer rules : Grammar) → IsAnsweredBy text builtins answer → IsAnsweredBy text others rules → answer ≡ rules
one_list_of_rules text builtins others answer rules a b =
    let same = spells_once text a.spelled b.spelled (spelled text builtins answer a) (spelled text others rules b) in
    optimized_once (subst (λ g. IsOptimized g answer) same a.optimized) b.optimized
