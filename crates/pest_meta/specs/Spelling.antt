-- The grammar that a text spells, and the answer for the text.
use Rattle.std.specs.Prelude.{◌≡◌, ◌≢◌, ◌⊎◌, ℕ, List, [], Some, None, ⊤}
use Rattle.std.specs.Borrow.{Bor}
use Rattle.base_language.specs.Language.Expression.{Grammar}
use Rattle.base_language.specs.Pieces.Saying.{Complaint, AreErrorsFor}
use Rattle.base_language.specs.Language.State.{Trees}
use Rattle.base_language.specs.Language.WellFormed.{IsWellFormed}
use Rattle.base_language.specs.declared.grammar.Rule.{Rule}
use Rattle.base_language.specs.declared.grammar.Rule.TheVariants as rule_is
use Rattle.base_language.specs.declared.runtime.errors.Error.{Error}
use Rattle.base_language.specs.declared.runtime.faults.Fault as code
use Rattle.base_language.specs.declared.runtime.faults.Fault.TheVariants as fault_is
use Rattle.base_ast.specs.Optimized.{optimized_rules_of}
use Rattle.base_ast.specs.declared.optimized.OptimizedRule.{OptimizedRule}
use Rattle.front_names.specs.GrammarNames.{AreWrittenAt, calls, definitions, first_calls, name_complaints}
use Rattle.front_spanned.specs.Erasure.{rules_without_spans}
use Rattle.front_spanned.specs.Spanned.{SpannedRule}
use Rattle.front_optimizer.specs.Passes.{IsOptimized}
use Rattle.front_reader.specs.Flaws.{Flaw, first_flaw}
use Rattle.front_reader.specs.Reading.{ReadsRules}
use Rattle.front_reader.specs.Refusals.{ReportsFlaw}
use Rattle.front_grammar.specs.Outcomes as parsed
use Rattle.front_syntax.specs.Parses.{IsRefused}
use Rattle.front_stack_loops.specs.Certain.{AreReports}
use Rattle.front_validator.specs.Reported.{AreReported}
use Rattle.pest_meta.specs.Findings.{AreErrorsOfFindings}

-- the trees of a text, which the meta-grammar gives for the whole of it
abbrev pub HasTrees : List ℕ → Trees → Type 0
HasTrees text trees = parsed.Spells rule_is.grammar_rules text trees

-- trees of a text have no flaw and are read as these rules, spans left out
pub record AreReadAsRules (text : List ℕ) (trees : Trees) (rules : Grammar) : Type 0 where
  pub flawless : first_flaw text trees ≡ None
  pub read : List SpannedRule
  pub reads : ReadsRules text trees read
  pub same : rules ≡ rules_without_spans read

-- the text spells these rules: its trees give them
pub record SpellsGrammar (text : List ℕ) (rules : Grammar) : Type 0 where
  pub trees : Trees
  pub of_text : HasTrees text trees
  pub give : AreReadAsRules text trees rules

-- the text spells no rules
abbrev pub SpellsNone : List ℕ → Type 0
SpellsNone text = (rules : Grammar) → SpellsGrammar text rules → ⊥

-- trees of a text give these rules, the stack pass reports nothing of them, nothing else is found in them,
-- and they are well-formed
pub record AreAccepted (text : List ℕ) (trees : Trees) (rules : Grammar) : Type 0 where
  pub give : AreReadAsRules text trees rules
  pub no_reports : AreReports give.read []
  pub nothing_found : AreReported give.read [] []
  pub well_formed : IsWellFormed rules

-- trees of a text have a flaw, and one error reports the first
pub record AreFlawed (text : List ℕ) (trees : Trees) (errors : List (Error Rule)) : Type 0 where
  pub flaw : Flaw
  pub first : first_flaw text trees ≡ Some flaw
  pub tells : ReportsFlaw flaw errors

-- trees of a text give rules in which something is found, reports of the stack pass among it, and the
-- errors report it
pub record HaveFindings (text : List ℕ) (trees : Trees) (errors : List (Error Rule)) : Type 0 where
  pub rules : Grammar
  pub give : AreReadAsRules text trees rules
  pub some : errors ≢ []
  pub tell : AreErrorsOfFindings give.read errors

-- why trees of a text are not accepted: an allocation failed, or they have a flaw, or something is found in
-- their rules
abbrev pub AreRejected : List ℕ → Trees → code.Fault → Type 0
AreRejected text trees (fault_is.Memory e) = ⊤
AreRejected text trees (fault_is.Grammar errors) = AreFlawed text trees errors.items
    ⊎ HaveFindings text trees errors.items

-- the diagnostics about names in trees of a text: keywords, names defined twice, undefined names
abbrev pub complaints_in : List ℕ → Trees → List Complaint
complaints_in text trees = name_complaints (definitions text trees) (calls text trees)

-- the rules that the text spells are accepted, and optimized; its names are in order, and the builtins are
-- those that it calls, each once, in the order of their first calls
pub record IsAnsweredBy (text : List ℕ) (builtins : List (Bor (List ℕ))) (answer : Grammar) : Type 0 where
  pub trees : Trees
  pub of_text : HasTrees text trees
  pub well_named : complaints_in text trees ≡ []
  pub uses : AreWrittenAt (first_calls (definitions text trees) (calls text trees)) builtins
  pub spelled : Grammar
  pub accepted : AreAccepted text trees spelled
  pub optimized : IsOptimized spelled answer

-- so it is with the rules of a list of code
abbrev pub IsAnswer : List ℕ → List (Bor (List ℕ)) → List OptimizedRule → Type 0
IsAnswer text builtins rules = IsAnsweredBy text builtins (optimized_rules_of rules)

-- the text is no grammar: one syntax error reports the furthest position of a failure
pub record IsNoGrammar (text : List ℕ) (errors : List (Error Rule)) : Type 0 where
  pub says : IsRefused rule_is.grammar_rules text errors
  pub none : SpellsNone text

-- the errors are those of the names in a text's trees
pub record IsMisnamed (text : List ℕ) (trees : Trees) (errors : List (Error Rule)) : Type 0 where
  pub some : complaints_in text trees ≢ []
  pub tell : AreErrorsFor (complaints_in text trees) errors

-- the names in a text's trees are in order, and the errors report the first flaw, or all findings
pub record HasWrongRules (text : List ℕ) (trees : Trees) (errors : List (Error Rule)) : Type 0 where
  pub well_named : complaints_in text trees ≡ []
  pub why : AreFlawed text trees errors ⊎ HaveFindings text trees errors

-- the text is a grammar that is refused: for its names, or else for its rules
pub record IsRefusedGrammar (text : List ℕ) (errors : List (Error Rule)) : Type 0 where
  pub trees : Trees
  pub of_text : HasTrees text trees
  pub why : IsMisnamed text trees errors ⊎ HasWrongRules text trees errors

-- the text is refused with these errors, either as no grammar, or as a grammar that is refused
abbrev pub IsRefusedWith : List ℕ → List (Error Rule) → Type 0
IsRefusedWith text errors = IsNoGrammar text errors ⊎ IsRefusedGrammar text errors

-- why a text has no answer: an allocation failed, or the text is refused with errors
abbrev pub IsRefusal : List ℕ → code.Fault → Type 0
IsRefusal text (fault_is.Memory e) = ⊤
IsRefusal text (fault_is.Grammar errors) = IsRefusedWith text errors.items

-- there is an answer for the text
abbrev pub HasAnswer : List ℕ → Type 0
HasAnswer text = (builtins : List (Bor (List ℕ))) × (answer : Grammar) × IsAnsweredBy text builtins answer

-- there is a reason to refuse the text
abbrev pub HasRefusal : List ℕ → Type 0
HasRefusal text = (errors : List (Error Rule)) × IsRefusedWith text errors
