-- A fault of a text is told as what is wrong with it.
use Rattle.std.proofs.Common.{◌≡◌, ◌⊎◌, ℕ, List, inl, inr, refl, subst, sym}
use Rattle.base_language.specs.Language.State.{Trees}
use Rattle.base_language.specs.Pieces.MetaRules.{name_of}
use Rattle.base_language.specs.Pieces.NamedTrees.{named}
use Rattle.base_language.specs.declared.grammar.Rule.{Rule}
use Rattle.base_language.specs.declared.grammar.Rule.TheVariants as rule_is
use Rattle.base_language.specs.declared.runtime.errors.Error.{Error}
use Rattle.base_language.specs.declared.runtime.faults.Fault as code
use Rattle.base_language.specs.declared.runtime.faults.Fault.TheVariants as fault_is
use Rattle.format_json.specs.RuleNames.{IsOfNoRule}
use Rattle.format_json.specs.declared.refusal.RefusalLocation.{RefusalLocation}
use Rattle.format_json.specs.declared.refusal.RefusalLocation.TheVariants as place_is
use Rattle.format_json.specs.declared.refusal.RefusalReason.{RefusalReason}
use Rattle.format_json.specs.declared.refusal.RefusalReason.TheVariants as json_why
use Rattle.front_names.specs.GrammarNames.{IsNameRefusal, forest_complaints}
use Rattle.front_nodes.specs.Forests.{forest_text, forest_trees}
use Rattle.front_nodes.specs.declared.forest.Forest.{Forest}
use Rattle.front_reader.specs.Refusals.{first_flaw_in, IsReadRefusal}
use Rattle.front_syntax.specs.Parses.{IsOfAGrammar, ParseRefuses}
use Rattle.pest_meta.proofs.Spelled.{fails_so, flawed}
use Rattle.pest_meta.specs.Spelling.{AreFlawed, AreRejected, HaveFindings, IsMisnamed, IsNoGrammar, IsRefusal, IsRefusedWith}
use Rattle.pest_meta_c.specs.Outcomes.{IsFaultRefusal, IsRefusalOf, RefusesWith}
use Rattle.format_json.specs.declared.refusal.Refusal.{Refusal}
use Rattle.format_json.specs.declared.refusal.Refusal.TheVariants as refusal_is
use Rattle.pest_meta_c.specs.Refusals.{HasNoTokens, IsNoJson, OfTrees, ReportsSuch}
use Rattle.pest_meta_c.specs.declared.outcome.CallError as why
use Rattle.pest_meta_c.specs.declared.outcome.CallError.TheVariants as why_is

-- this holds of a fault's errors, if it has some
abbrev pub OfErrors : (List (Error Rule) → Type 0) → code.Fault → Type 0
OfErrors Such (fault_is.Memory e) = Unit {0}
OfErrors Such (fault_is.Grammar errors) = Such errors.items

pub told_such : (text : List ℕ) (Such : List (Error Rule) → Type 0) (fault : code.Fault) (told : why.CallError) → OfErrors Such fault → IsFaultRefusal rule_is.grammar_rules text fault told → RefusesWith (ReportsSuch text Such) told
told_such text Such (fault_is.Memory e) told h t = subst (RefusesWith (ReportsSuch text Such)) (sym t) tt
told_such text Such (fault_is.Grammar errors) why_is.Memory h t = tt
told_such text Such (fault_is.Grammar errors) (why_is.Refused json) h t = record { errors = errors.items; such = h; told = t }

-- a text that is no grammar
no_trees : (text : List ℕ) (fault : code.Fault) → ParseRefuses rule_is.grammar_rules text fault → OfErrors (IsNoGrammar text) fault
no_trees text (fault_is.Memory e) h = tt
no_trees text (fault_is.Grammar errors) h = record { says = h; none = λ rules s. fails_so text h.place s.trees h.fails s.of_text }

pub no_grammar : (text : List ℕ) (fault : code.Fault) (told : why.CallError) → ParseRefuses rule_is.grammar_rules text fault → IsFaultRefusal rule_is.grammar_rules text fault told → RefusesWith (ReportsSuch text (IsNoGrammar text)) told
no_grammar text fault told h t = told_such text (IsNoGrammar text) fault told (no_trees text fault h) t

-- which is one way to be refused, whatever would be said of its trees
pub without_trees : (text : List ℕ) (Refused : Trees → List (Error Rule) → Type 0) (told : why.CallError) → RefusesWith (ReportsSuch text (IsNoGrammar text)) told → RefusesWith (ReportsSuch text (OfTrees Refused text)) told
without_trees text Refused why_is.Memory t = tt
without_trees text Refused (why_is.Refused json) t = record { errors = t.errors; such = inl t.such; told = t.told }

-- what is to be said of its names
named_wrong : (forest : Forest) (fault : code.Fault) → IsOfAGrammar forest → IsNameRefusal (forest_complaints forest) fault → OfErrors (OfTrees (IsMisnamed (forest_text forest)) (forest_text forest)) fault
named_wrong forest (fault_is.Memory e) h k = tt
named_wrong forest (fault_is.Grammar errors) h k = inr (named (forest_trees forest), h, record { some = k.0; tell = k.1 })

pub misnamed : (text : List ℕ) (forest : Forest) (fault : code.Fault) → forest_text forest ≡ text → IsOfAGrammar forest → IsNameRefusal (forest_complaints forest) fault → OfErrors (OfTrees (IsMisnamed text) text) fault
misnamed text forest fault same h k = subst (λ v. OfErrors (OfTrees (IsMisnamed v) v) fault) same (named_wrong forest fault h k)

-- what is wrong with its rules
abbrev pub HaveWrongRules : List ℕ → Trees → List (Error Rule) → Type 0
HaveWrongRules text trees errors = AreFlawed text trees errors ⊎ HaveFindings text trees errors

read_wrong : (forest : Forest) (fault : code.Fault) → IsOfAGrammar forest → AreRejected (forest_text forest) (named (forest_trees forest)) fault → OfErrors (OfTrees (HaveWrongRules (forest_text forest)) (forest_text forest)) fault
read_wrong forest (fault_is.Memory e) h k = tt
read_wrong forest (fault_is.Grammar errors) h k = inr (named (forest_trees forest), h, k)

pub rejected : (text : List ℕ) (forest : Forest) (fault : code.Fault) → forest_text forest ≡ text → IsOfAGrammar forest → AreRejected (forest_text forest) (named (forest_trees forest)) fault → OfErrors (OfTrees (HaveWrongRules text) text) fault
rejected text forest fault same h k = subst (λ v. OfErrors (OfTrees (HaveWrongRules v) v) fault) same (read_wrong forest fault h k)

unread : (forest : Forest) (fault : code.Fault) → IsOfAGrammar forest → IsReadRefusal (first_flaw_in forest) fault → OfErrors (OfTrees (AreFlawed (forest_text forest)) (forest_text forest)) fault
unread forest (fault_is.Memory e) h k = tt
unread forest (fault_is.Grammar errors) h k =
    inr (named (forest_trees forest), h, flawed (forest_text forest) (named (forest_trees forest)) errors.items (first_flaw_in forest) refl k)

pub not_read : (text : List ℕ) (forest : Forest) (fault : code.Fault) → forest_text forest ≡ text → IsOfAGrammar forest → IsReadRefusal (first_flaw_in forest) fault → OfErrors (OfTrees (AreFlawed text) text) fault
not_read text forest fault same h k = subst (λ v. OfErrors (OfTrees (AreFlawed v) v) fault) same (unread forest fault h k)

-- why there is no whole answer
pub refused : (text : List ℕ) (fault : code.Fault) → IsRefusal text fault → OfErrors (IsRefusedWith text) fault
refused text (fault_is.Memory e) h = tt
refused text (fault_is.Grammar errors) h = h

-- a text that doesn't begin with what a rule matches
pub no_match : (text name : List ℕ) (rule : Rule) (fault : code.Fault) (told : why.CallError) → name_of rule ≡ name → ParseRefuses rule text fault → IsFaultRefusal rule text fault told → RefusesWith (HasNoTokens text name) told
no_match text name rule (fault_is.Memory e) told n h t = subst (RefusesWith (HasNoTokens text name)) (sym t) tt
no_match text name rule (fault_is.Grammar errors) why_is.Memory n h t = tt
no_match text name rule (fault_is.Grammar errors) (why_is.Refused json) n h t =
    inr (record { rule = rule; named = n; errors = errors.items; refused = h; told = t })

-- a name that no rule has
pub unknown : (text name : List ℕ) (told : why.CallError) → IsOfNoRule name → IsRefusalOf place_is.Whole json_why.UnknownRule told → RefusesWith (HasNoTokens text name) told
unknown text name why_is.Memory none t = tt
unknown text name (why_is.Refused json) none t = inl (record { none = none; written = t })

-- JSON that is refused
pub no_json : (Refuses : List ℕ → Refusal → Type 0) (text : List ℕ) (place : RefusalLocation) (reason : RefusalReason) (told : why.CallError) → Refuses text (refusal_is.Text place reason) → IsRefusalOf place reason told → RefusesWith (IsNoJson Refuses text) told
no_json Refuses text place reason why_is.Memory r t = tt
no_json Refuses text place reason (why_is.Refused json) r t = (place, reason, r, t)
