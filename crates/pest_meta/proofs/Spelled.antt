-- A text has one list of trees at most, and is read in one way at most.
use Rattle.std.proofs.Common.{◌≡◌, ◌≢◌, ℕ, List, [], Option, Some, None, MatchOption, Result, Ok, Err, IfOk, false, ◌⊎◌, alloc_error, refl, sym, ap, subst, inl, inr, ◌∙◌}
use Rattle.std.specs.Borrow.{Bor}
use Rattle.base_ast.specs.Optimized.{optimized_rules_of}
use Rattle.base_ast.specs.declared.optimized.OptimizedRule.{OptimizedRule}
use Rattle.base_language.specs.Language.Expression.{Grammar}
use Rattle.front_optimizer.specs.Passes.{IsOptimized}
use Rattle.base_language.specs.Language.State.{Classes, State, Trees, Success, Failure}
use Rattle.base_language.specs.Pieces.NamedTrees.{named}
use Rattle.base_language.specs.Pieces.Saying.{AreErrorsFor}
use Rattle.base_language.specs.declared.grammar.Rule.{Rule}
use Rattle.base_language.specs.declared.grammar.Rule.TheVariants as rule_is
use Rattle.base_language.specs.declared.runtime.errors.Error.{Error}
use Rattle.base_language.specs.declared.runtime.faults.Fault as code
use Rattle.base_language.specs.declared.runtime.faults.Fault.TheVariants as fault_is
use Rattle.base_language.proofs.OneOutcome.{same, same_trees}
use Rattle.front_spanned.specs.Erasure.{rules_without_spans}
use Rattle.front_spanned.specs.Spanned.{SpannedRule}
use Rattle.front_nodes.specs.Forests.{forest_text, forest_trees}
use Rattle.front_nodes.specs.declared.forest.Forest.{Forest}
use Rattle.front_reader.specs.Flaws.{Flaw, first_flaw}
use Rattle.front_reader.specs.Reading.{ReadsRules}
use Rattle.front_reader.specs.Refusals.{IsReadAs, first_flaw_in, IsReadRefusal, ReportsFlaw}
use Rattle.front_reader.proofs.Uniqueness.{rules_once}
use Rattle.front_grammar.specs.MetaGrammar.{meta_grammar}
use Rattle.front_syntax.specs.Parses.{IsOfAGrammar, FailsAt, ParseRefuses}
use Rattle.front_names.specs.GrammarNames.{AreWrittenAt, forest_complaints, forest_first_calls, IsNameRefusal}
use Rattle.front_stack_loops.specs.Certain.{AreReports}
use Rattle.front_validator.specs.Reported.{AreReported}
use Rattle.front_validator.proofs.NothingElse.{nothing_else}
use Rattle.pest_meta.specs.Findings.{AreErrorsOfFindings}
use Rattle.pest_meta.proofs.ReportsAgree.{reports_agree}
use Rattle.pest_meta.specs.Promises.{OfRead}
use Rattle.front_optimizer.specs.Written.{AreWrittenOut}
use Rattle.base_language.specs.Rewritings.Rewriting.{SameOutcomes}
use Rattle.std.specs.declared.alloc.Global.{Global}
use Rattle.std.specs.declared.vec.Vec.{Vec}
use Rattle.pest_meta.specs.WithSpans.{SpellsWithSpans}
use Rattle.pest_meta.specs.Written.{IsWritten, SpellsAccepted}
use Rattle.pest_meta.specs.Spelling.{AreAccepted, AreFlawed, AreRejected, AreReadAsRules, HasAnswer, HasRefusal, HasTrees, HaveFindings, IsAnswer, IsAnsweredBy, complaints_in, HasWrongRules, IsMisnamed, IsNoGrammar, IsRefusal, IsRefusedGrammar, SpellsGrammar}

-- no property name stands for anything
abbrev pub empty_classes : Classes
empty_classes n c = false

failure_is_none : {t : State} {us : Trees} → Failure ≡ Success t us → ⊥
failure_is_none h = cc

pub trees_once : (text : List ℕ) (us vs : Trees) → HasTrees text us → HasTrees text vs → us ≡ vs
trees_once text us vs h k = same_trees (same meta_grammar empty_classes (h empty_classes).1 (k empty_classes).1)

-- if the text fails, it has none
pub fails_so : (text : List ℕ) (place : ℕ) (us : Trees) → FailsAt rule_is.grammar_rules text place → HasTrees text us → ⊥
fails_so text place us f h = failure_is_none (same meta_grammar empty_classes (f empty_classes).0 (h empty_classes).1)

-- trees with a flaw give no rules
some_is_none : (f : Flaw) → Some f ≡ None → ⊥
some_is_none f h = cc

pub flawed_give_none : (text : List ℕ) (trees : Trees) (errors : List (Error Rule)) (rules : Grammar) → AreFlawed text trees errors → AreReadAsRules text trees rules → ⊥
flawed_give_none text trees errors rules f g = some_is_none f.flaw (sym f.first ∙ g.flawless)

pub spells_once : (text : List ℕ) (rules others : Grammar) → SpellsGrammar text rules → SpellsGrammar text others → rules ≡ others
spells_once text rules others s t =
    let trees = trees_once text s.trees t.trees s.of_text t.of_text in
    let read = rules_once (subst (λ us. ReadsRules text us s.give.read) trees s.give.reads) t.give.reads in
    s.give.same ∙ ap rules_without_spans read ∙ sym t.give.same

pub trees_or_fails : (text : List ℕ) (trees : Trees) (errors : List (Error Rule)) → HasTrees text trees → IsNoGrammar text errors → ⊥
trees_or_fails text trees errors h n = fails_so text n.says.place trees n.says.fails h

-- accepted trees are not refused for what is found in their rules
accepted_or_found : (text : List ℕ) (trees : Trees) (rules : Grammar) (errors : List (Error Rule)) → AreAccepted text trees rules → HaveFindings text trees errors → ⊥
accepted_or_found text trees rules errors a h =
    let read = rules_once h.give.reads a.give.reads in
    let found = subst (λ rs. AreErrorsOfFindings rs errors) read h.tell in
    let none = reports_agree a.give.read found.endless a.no_reports found.reports in
    h.some (nothing_else a.give.read [] errors a.nothing_found (subst (λ spans. AreReported a.give.read spans errors) none found.tell))

-- nor for anything else
answered_or_refused : (text : List ℕ) (builtins : List (Bor (List ℕ))) (answer : Grammar) (errors : List (Error Rule)) → IsAnsweredBy text builtins answer → IsRefusedGrammar text errors → ⊥
answered_or_refused text builtins answer errors a r = go r.why
  where
    trees : r.trees ≡ a.trees
    trees = trees_once text r.trees a.trees r.of_text a.of_text

    rules : AreFlawed text r.trees errors ⊎ HaveFindings text r.trees errors → ⊥
    rules (inl f) = flawed_give_none text a.trees errors a.spelled (subst (λ us. AreFlawed text us errors) trees f) a.accepted.give
    rules (inr h) = accepted_or_found text a.trees a.spelled errors a.accepted (subst (λ us. HaveFindings text us errors) trees h)

    go : IsMisnamed text r.trees errors ⊎ HasWrongRules text r.trees errors → ⊥
    go (inl m) = m.some (subst (λ us. complaints_in text us ≡ []) (sym trees) a.well_named)
    go (inr i) = rules i.why

pub not_both : (text : List ℕ) → HasAnswer text → HasRefusal text → ⊥
not_both text (builtins, answer, a) (errors, inl n) = trees_or_fails text a.trees errors a.of_text n
not_both text (builtins, answer, a) (errors, inr r) = answered_or_refused text builtins answer errors a r

-- if there is an answer, the stack pass reports nothing
pub answered_without_reports : (text : List ℕ) (builtins : List (Bor (List ℕ))) (answer : Grammar) → IsAnsweredBy text builtins answer → OfRead text (λ rules. AreReports rules [])
answered_without_reports text builtins answer a trees rules h d =
    let same = trees_once text trees a.trees h a.of_text in
    let read = rules_once (subst (λ us. ReadsRules text us rules) same d) a.accepted.give.reads in
    subst (λ rs. AreReports rs []) (sym read) a.accepted.no_reports

-- what is refused before anything is read is no grammar
pub no_grammar : (text : List ℕ) (fault : code.Fault) → ParseRefuses rule_is.grammar_rules text fault → IsRefusal text fault
no_grammar text (fault_is.Memory e) h = tt
no_grammar text (fault_is.Grammar errors) h =
    inl (record { says = h; none = λ rules s. fails_so text h.place s.trees h.fails s.of_text })

-- what is refused when it is read has a flaw
pub flawed : (text : List ℕ) (us : Trees) (errors : List (Error Rule)) (o : Option Flaw) → first_flaw text us ≡ o → MatchOption o ⊥ (λ flaw. ReportsFlaw flaw errors) → AreFlawed text us errors
flawed text us errors None e k = absurd k
flawed text us errors (Some flaw) e k = record { flaw = flaw; first = e; tells = k }

pub has_flaw : (forest : Forest) (fault : code.Fault) → IsReadRefusal (first_flaw_in forest) fault → AreRejected (forest_text forest) (named (forest_trees forest)) fault
has_flaw forest (fault_is.Memory e) k = tt
has_flaw forest (fault_is.Grammar errors) k =
    inl (flawed (forest_text forest) (named (forest_trees forest)) errors.items (first_flaw_in forest) refl k)

-- what memory alone may refuse
pub memory_rejects : (text : List ℕ) (us : Trees) (fault : code.Fault) → fault ≡ fault_is.Memory alloc_error → AreRejected text us fault
memory_rejects text us fault e = rw e tt

-- what is read gives rules
abbrev pub given : (forest : Forest) (read : List SpannedRule) (rules : Grammar) → first_flaw_in forest ≡ None → IsReadAs forest read → rules ≡ rules_without_spans read → AreReadAsRules (forest_text forest) (named (forest_trees forest)) rules
given forest read rules f r s = record { flawless = f; read = read; reads = r; same = s }

-- what is refused for its names
pub misnamed : (text : List ℕ) (forest : Forest) (fault : code.Fault) → forest_text forest ≡ text → IsOfAGrammar forest → IsNameRefusal (forest_complaints forest) fault → IsRefusal text fault
misnamed text forest (fault_is.Memory e) t h k = tt
misnamed text forest (fault_is.Grammar errors) t h k =
    let same : forest_complaints forest ≡ complaints_in text (named (forest_trees forest)) = ap (λ v. complaints_in v (named (forest_trees forest))) t in
    let of_text : HasTrees text (named (forest_trees forest)) = subst (λ v. HasTrees v (named (forest_trees forest))) t h in
    let some : complaints_in text (named (forest_trees forest)) ≢ [] = subst (λ cs. cs ≢ []) same k.0 in
    let tell = subst (λ cs. AreErrorsFor cs errors.items) same k.1 in
    inr (record { trees = named (forest_trees forest); of_text = of_text; why = inl (record { some = some; tell = tell }) })

-- what is refused for its rules, if there is nothing to say of its names
pub rejected : (text : List ℕ) (forest : Forest) (fault : code.Fault) → forest_text forest ≡ text → IsOfAGrammar forest → forest_complaints forest ≡ []
    → AreRejected (forest_text forest) (named (forest_trees forest)) fault → IsRefusal text fault
rejected text forest (fault_is.Memory e) t h n k = tt
rejected text forest (fault_is.Grammar errors) t h n k =
    subst (λ v. IsRefusal v (fault_is.Grammar errors)) t
    (inr (record { trees = named (forest_trees forest); of_text = h; why = inr (record { well_named = n; why = k }) }))

-- what is answered
pub answered : (text : List ℕ) (forest : Forest) (builtins : List (Bor (List ℕ))) (rules : Grammar) (answer : List OptimizedRule)
    → forest_text forest ≡ text → IsOfAGrammar forest
    → forest_complaints forest ≡ [] → AreWrittenAt (forest_first_calls forest) builtins
    → AreAccepted (forest_text forest) (named (forest_trees forest)) rules → IsOptimized rules (optimized_rules_of answer)
    → IsAnswer text builtins answer
answered text forest builtins rules answer t h e u a o =
    subst (λ v. IsAnswer v builtins answer) t (record {
      trees = named (forest_trees forest);
      of_text = h;
      well_named = e;
      uses = u;
      spelled = rules;
      accepted = a;
      optimized = o;
    })

-- the answer for a text that spells rules with spans
pub spelled_answer : (text : List ℕ) (builtins : List (Bor (List ℕ))) (rules : List SpannedRule) (answer : List OptimizedRule)
    → SpellsWithSpans text builtins rules → IsOptimized (rules_without_spans rules) (optimized_rules_of answer) → IsAnswer text builtins answer
spelled_answer text builtins rules answer s o = record {
  trees = s.trees;
  of_text = s.of_text;
  well_named = s.well_named;
  uses = s.uses;
  spelled = rules_without_spans rules;
  accepted = s.accepted;
  optimized = o;
}

-- such a text spells accepted rules
pub spells_accepted : (text : List ℕ) (builtins : List (Bor (List ℕ))) (rules : List SpannedRule)
    → SpellsWithSpans text builtins rules → SpellsAccepted text (rules_without_spans rules)
spells_accepted text builtins rules s =
    record { trees = s.trees; of_text = s.of_text; well_named = s.well_named; accepted = s.accepted }

-- accepted rules with counted repetitions written out, if there are some
pub written : {E : Type 0} (text : List ℕ) (spelled : Grammar) (answer : Result (Vec OptimizedRule Global) E)
    → SpellsAccepted text spelled → IfOk answer (λ rules. AreWrittenOut spelled (optimized_rules_of rules.items))
    → IfOk answer (λ rules. SameOutcomes spelled (optimized_rules_of rules.items))
    → IfOk answer (λ rules. IsWritten text (optimized_rules_of rules.items))
written text spelled (Ok rules) a w o = record { spelled = spelled; accepted = a; written_out = w; outcomes = o }
written text spelled (Err e) a w o = o

-- the optimized rules of rules with spans, if there are some
pub optimized_spans : {E : Type 0} (rules : List SpannedRule) (plain : Grammar) (answer : Result (Vec OptimizedRule Global) E)
    → plain ≡ rules_without_spans rules → IfOk answer (λ answer. IsOptimized plain (optimized_rules_of answer.items))
    → IfOk answer (λ answer. IsOptimized (rules_without_spans rules) (optimized_rules_of answer.items))
optimized_spans rules plain answer e o = subst (λ g. IfOk answer (λ answer. IsOptimized g (optimized_rules_of answer.items))) e o

-- they are the answer for the text that spells the rules
pub optimized_answer : {E : Type 0} (rules : List SpannedRule) (answer : Result (Vec OptimizedRule Global) E)
    → IfOk answer (λ answer. IsOptimized (rules_without_spans rules) (optimized_rules_of answer.items))
    → IfOk answer (λ answer. (text : List ℕ) (builtins : List (Bor (List ℕ))) → SpellsWithSpans text builtins rules → IsAnswer text builtins answer.items)
optimized_answer rules (Ok answer) o = λ text builtins s. spelled_answer text builtins rules answer.items s o
optimized_answer rules (Err x) o = tt
