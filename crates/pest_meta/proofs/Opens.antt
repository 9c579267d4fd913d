-- Why a text is not opened, and the errors with which it is refused for that.
use Rattle.std.proofs.Common.{◌≡◌, ◌≢◌, ◌∙◌, ◌++◌, ℕ, List, [], ◌∷◌, Err, Global, IfErr, IfOk, None, Ok, Result, Vec, alloc_error, inl, inr, map, refl, subst, sym}
use Rattle.std.specs.Borrow.{Bor}
use Rattle.std.specs.List.{All}
use Rattle.base_language.specs.Pieces.NamedTrees.{named}
use Rattle.base_language.specs.Pieces.Saying.{AreErrorsFor, piece_of}
use Rattle.base_language.specs.declared.grammar.Rule.{Rule}
use Rattle.base_language.specs.declared.grammar.Rule.TheVariants as rule_is
use Rattle.base_language.specs.declared.runtime.errors.Error.{Error}
use Rattle.base_language.specs.Pieces.Faults.{IsMemory}
use Rattle.base_language.specs.declared.runtime.faults.Fault as code
use Rattle.base_language.specs.declared.runtime.faults.Fault.TheVariants as fault_is
use Rattle.front_names.specs.GrammarNames.{AreWrittenAt, forest_complaints, forest_first_calls}
use Rattle.front_names.specs.NameFindings.{AreNameFindings}
use Rattle.front_names.specs.Names.{AreIn}
use Rattle.front_names.specs.declared.findings.NameError as names
use Rattle.front_names.specs.declared.findings.NameError.TheVariants as names_are
use Rattle.front_names.specs.declared.findings.NameFinding.{NameFinding}
use Rattle.front_names.proofs.Told.{complaints_in_text, finding_places, places_told}
use Rattle.front_nodes.specs.Forests.{forest_text, forest_trees}
use Rattle.front_nodes.specs.declared.forest.Forest.{Forest}
use Rattle.front_reader.specs.Refusals.{IsReadAs, first_flaw_in}
use Rattle.front_reader.specs.Views.{IsFirst, flaw_of}
use Rattle.front_reader.specs.declared.rules.flaws.ReadError as read
use Rattle.front_reader.specs.declared.rules.flaws.ReadError.TheVariants as read_is
use Rattle.front_spanned.specs.Erasure.{rules_without_spans}
use Rattle.front_spanned.specs.Spanned.{SpannedRule}
use Rattle.front_stack_loops.specs.Certain.{AreReports}
use Rattle.front_syntax.specs.Parses.{IsOfAGrammar, IsRefused}
use Rattle.front_validator.specs.Findings.{Finding}
use Rattle.front_validator.specs.Reported.{AreReported}
use Rattle.front_validator.specs.Reporting.{findings_of}
use Rattle.front_validator.specs.declared.problems.RuleFinding.{RuleFinding}
use Rattle.front_validator.proofs.NothingElse.{none_endless}
use Rattle.front_validator.proofs.PlacedLemmas.{InText, all_found_in}
use Rattle.base_language.specs.Language.WellFormed.{IsWellFormed}
use Rattle.pest_meta.specs.Findings.{AreErrorsOfFindings, AreFindings}
use Rattle.pest_meta.specs.Opening.{AreErrorsOf, HasFlaw, HasNameFindings, HasRuleFindings, IsOpenError, IsUnvalidatedError, of_names, of_read}
use Rattle.pest_meta.specs.declared.opened.OpenError.{OpenError}
use Rattle.pest_meta.specs.declared.opened.OpenError.TheVariants as error_is
use Rattle.pest_meta.specs.Spelling.{AreAccepted, IsNoGrammar, IsRefusal, IsRefusedWith}
use Rattle.pest_meta.proofs.InText.{reports_in, rules_in}
use Rattle.pest_meta.specs.WithSpans.{SpellsWithSpans}
use Rattle.pest_meta.proofs.Spelled.{fails_so, given}

-- the one element of a list is its last
pub one_popped : {A : Type 0} (all rest : List A) (last one : A) → all ≡ rest ++ last ∷ [] → all ≡ one ∷ [] → all ≡ last ∷ []
one_popped all [] last one e h = e
one_popped all (x ∷ []) last one e h = let wrong = sym e ∙ h in cc
one_popped all (x ∷ (y ∷ rest)) last one e h = let wrong = sym e ∙ h in cc

pub none_popped : {A : Type 0} (all : List A) (one : A) → all ≡ [] → all ≡ one ∷ [] → ⊥
none_popped all one e h = let wrong = sym e ∙ h in cc

-- 1. why trees are not opened
pub no_grammar_so : (text : List ℕ) (errors : List (Error Rule)) (error : Error Rule) → errors ≡ error ∷ [] → IsRefused rule_is.grammar_rules text errors → IsNoGrammar text (error ∷ [])
no_grammar_so text errors error e h = record {
  says = subst (IsRefused rule_is.grammar_rules text) e h;
  none = λ rules s. fails_so text h.place s.trees h.fails s.of_text;
}

module _ (text : List ℕ) (forest : Forest) (same : forest_text forest ≡ text) (whole : IsOfAGrammar forest) where
  pub names_refuse : (error : names.NameError) → AreNameFindings (forest_complaints forest) error → IsUnvalidatedError text (of_names error)
  names_refuse (names_are.Memory e) k = tt
  names_refuse (names_are.Found findings) k =
      subst (λ v. HasNameFindings v findings.items) same
      (record { trees = named (forest_trees forest); of_text = whole; some = k.0; told = k.1 })

  module _ (well_named : forest_complaints forest ≡ []) where
    pub flaw_refuses : (error : read.ReadError) → IsFirst (first_flaw_in forest) error → IsUnvalidatedError text (of_read error)
    flaw_refuses (read_is.Memory e) k = tt
    flaw_refuses (read_is.Found flaw) k =
        subst (λ v. HasFlaw v flaw) same
        (record { trees = named (forest_trees forest); of_text = whole; well_named = well_named; first = k })

    module _ (rules : List SpannedRule) (flawless : first_flaw_in forest ≡ None) (reads : IsReadAs forest rules) where
      pub rules_refuse : (findings : List RuleFinding) → findings ≢ [] → AreFindings rules (findings_of findings) → HasRuleFindings text findings
      rules_refuse findings some all =
          subst (λ v. HasRuleFindings v findings) same (record {
            trees = named (forest_trees forest);
            of_text = whole;
            well_named = well_named;
            rules = rules_without_spans rules;
            give = given forest rules (rules_without_spans rules) flawless reads refl;
            some = some;
            all = all;
          })

-- a text that is not opened even so is not opened
pub unvalidated : (text : List ℕ) (error : OpenError) → IsUnvalidatedError text error → IsOpenError text error
unvalidated text (error_is.Memory e) h = h
unvalidated text (error_is.Syntax error) h = h
unvalidated text (error_is.Names findings) h = h
unvalidated text (error_is.Flaw flaw) h = h
unvalidated text (error_is.Rules findings) h = absurd h

-- 2. if nothing is found
reported_none : (rules : List SpannedRule) (found : AreFindings rules []) → AreReported rules found.endless []
reported_none rules found = record { findings = []; complete = found.complete; told = tt }

pub none_found : (forest : Forest) (rules : List SpannedRule) (found : List Finding) → first_flaw_in forest ≡ None → IsReadAs forest rules → found ≡ [] → AreFindings rules found
    → IsWellFormed (rules_without_spans rules) → AreAccepted (forest_text forest) (named (forest_trees forest)) (rules_without_spans rules)
none_found forest rules found flawless reads none all well_formed =
    let nothing = subst (AreFindings rules) none all in
    let reported = reported_none rules nothing in
    let silent = none_endless rules nothing.endless reported in
    record {
      give = given forest rules (rules_without_spans rules) flawless reads refl;
      no_reports = subst (AreReports rules) silent nothing.reports;
      nothing_found = subst (λ spans. AreReported rules spans []) silent reported;
      well_formed = well_formed;
    }

-- accepted rules, with spans
pub spells_with_spans : (text : List ℕ) (forest : Forest) (builtins : List (Bor (List ℕ))) (rules : List SpannedRule)
    → forest_text forest ≡ text → IsOfAGrammar forest → forest_complaints forest ≡ [] → AreWrittenAt (forest_first_calls forest) builtins
    → IsReadAs forest rules → AreAccepted (forest_text forest) (named (forest_trees forest)) (rules_without_spans rules)
    → SpellsWithSpans text builtins rules
spells_with_spans text forest builtins rules t h e u r a =
    subst (λ v. SpellsWithSpans v builtins rules) t (record {
      trees = named (forest_trees forest);
      of_text = h;
      well_named = e;
      uses = u;
      read = r;
      accepted = a;
    })

-- 3. the errors of what is found
some_told : (findings : List RuleFinding) (errors : List (Error Rule)) → findings ≢ [] → AreErrorsFor (findings_of findings) errors → errors ≢ []
some_told [] errors some told = λ e. some refl
some_told (f ∷ findings) [] some told = absurd told
some_told (f ∷ findings) (x ∷ errors) some told = λ e. cc

told_rules : (rules : List SpannedRule) (found : List Finding) (errors : List (Error Rule)) → AreFindings rules found → AreErrorsFor found errors → AreErrorsOfFindings rules errors
told_rules rules found errors all told = record {
  endless = all.endless;
  reports = all.reports;
  tell = record { findings = found; complete = all.complete; told = told };
}

-- errors that tell of the reason why a text is not opened are those with which it is refused
pub refused_with : (text : List ℕ) (error : OpenError) (errors : List (Error Rule)) → IsOpenError text error → AreErrorsOf error errors → IsRefusedWith text errors
refused_with text (error_is.Memory e) errors o made = absurd made
refused_with text (error_is.Syntax error) errors o made = inl (subst (IsNoGrammar text) (sym made) o)
refused_with text (error_is.Names findings) errors o told = inr (record {
  trees = o.trees;
  of_text = o.of_text;
  why = inl (record { some = o.some; tell = subst (λ cs. AreErrorsFor cs errors) o.told told });
})
refused_with text (error_is.Flaw flaw) errors o told = inr (record {
  trees = o.trees;
  of_text = o.of_text;
  why = inr (record { well_named = o.well_named; why = inl (record { flaw = flaw_of flaw; first = o.first; tells = told }) });
})
refused_with text (error_is.Rules findings) errors o told = inr (record {
  trees = o.trees;
  of_text = o.of_text;
  why = inr (record {
    well_named = o.well_named;
    why = inr (record {
      rules = o.rules;
      give = o.give;
      some = some_told findings.items errors o.some told;
      tell = told_rules o.give.read (findings_of findings.items) errors o.all told;
    });
  });
})

pub all_refused : {E : Type 0} (text : List ℕ) (error : OpenError) (result : Result (Vec (Error Rule) Global) E) → IsOpenError text error → IfOk result (λ errors. AreErrorsOf error errors.items)
    → IfOk result (λ errors. IsRefusedWith text errors.items)
all_refused text error (Ok errors) o made = refused_with text error errors.items o made
all_refused text error (Err e) o made = tt

-- 4. findings stand in the text
pub names_in_text : (text : List ℕ) (findings : List NameFinding) → HasNameFindings text findings → AreIn text (map (λ finding. piece_of finding.span) findings)
names_in_text text findings h =
    subst (AreIn text) (finding_places findings) (subst (λ cs. AreIn text (places_told cs)) (sym h.told) (complaints_in_text text h.trees))

pub findings_in_text : (text : List ℕ) (findings : List RuleFinding) → HasRuleFindings text findings → All (InText text) (findings_of findings)
findings_in_text text findings h =
    let are = rules_in text h.give.reads in
    all_found_in text h.give.read are h.all.endless (findings_of findings) (reports_in text h.give.read are h.all.endless h.all.reports) h.all.complete

-- 5. what memory alone may refuse
pub memory_refuses : (text : List ℕ) (fault : code.Fault) → IsMemory fault → IsRefusal text fault
memory_refuses text (fault_is.Memory e) h = tt
memory_refuses text (fault_is.Grammar errors) h = absurd h

pub memory_only : {X : Type 0} (result : Result X code.Fault) → IfErr result (λ fault. fault ≡ fault_is.Memory alloc_error) → IfErr result IsMemory
memory_only (Ok x) h = tt
memory_only (Err fault) h = rw h tt
