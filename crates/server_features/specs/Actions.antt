-- Code actions.
use Rattle.std.specs.Prelude.{◌≡◌, ◌-◌, ◌==◌, ◌++◌, ◌||◌, ℕ, List, [], ◌∷◌, Bool, MatchBool, None, Option, Some, codes, false, is_none, length, string_bytes}
use Rattle.lint_findings.specs.declared.diagnostic.Diagnostic.{Diagnostic}
use Rattle.server_features.specs.Diagnostics.{diagnostic_data, extent_of}
use Rattle.server_features.specs.Formatting.{do_touch}
use Rattle.server_features.specs.Remedies.{IsRemedyBy}
use Rattle.server_features.specs.declared.remedies.Remedy.{Remedy}
use Rattle.server_protocol.specs.Asked.{lists_in}
use Rattle.server_protocol.specs.Changes.{asked_range}
use Rattle.server_protocol.specs.Values.{workspace_edit_data}
use Rattle.server_protocol.specs.declared.messages.Answer.{Answer}
use Rattle.server_protocol.specs.declared.messages.Answer.TheVariants as answer
use Rattle.server_protocol.specs.declared.messages.ErrorCode.TheVariants.{InvalidParams}
use Rattle.lint_diagnostics.specs.Diagnosis.{IsDiagnosis}
use Rattle.lint_diagnostics.specs.Fixing.{IsMended}
use Rattle.server_requests.specs.Locations.{edit_at}
use Rattle.server_requests.specs.Names.{IsAskedExtent}
use Rattle.server_requests.specs.declared.context.Context.{Context}
use Rattle.server_symbols.specs.declared.tokens.Extent.{Extent}
use Rattle.serde_json.specs.Data.{Data, array, boolean, item, member, no_items, no_members, object, string}
use Rattle.serde_json.specs.Find.{pointer}
use Rattle.serde_json.specs.View.{items_of, view}

-- whether quick fixes are asked for
abbrev pub is_asked_for : Data → Bool
is_asked_for params = is_none (pointer (codes "/context/only") params)
    || lists_in (codes "/context/only") (codes "quickfix") params

abbrev pub remedy_data : Context → Remedy → Data
remedy_data context remedy = workspace_edit_data context.uri.now
    (item (edit_at context (string_bytes remedy.replacement) remedy.extent) no_items)

-- a diagnostic in a document, as it is published
abbrev pub reported_data : Context → Diagnostic → Data
reported_data context diagnostic = diagnostic_data context.client.has_related context.client.encoding
    context.text.now context.uri.now diagnostic

-- the action of a diagnostic's remedy
abbrev pub action_data : Context → Diagnostic → Remedy → Data
action_data context diagnostic remedy = object
    (member (codes "diagnostics") (array (item (reported_data context diagnostic) no_items))
    (member (codes "edit") (remedy_data context remedy)
    (member (codes "isPreferred") (boolean remedy.is_preferred)
    (member (codes "kind") (string (codes "quickfix"))
    (member (codes "title") (string (string_bytes remedy.title)) no_members)))))

abbrev pub actions_by : Context → Diagnostic → Option Remedy → List Data
actions_by context diagnostic None = []
actions_by context diagnostic (Some remedy) = action_data context diagnostic remedy ∷ []

-- the action of the remedy of a diagnostic, if it has one
abbrev pub IsActionFor : Context → Diagnostic → List Data → Type 0
IsActionFor context diagnostic values = (remedy : Option Remedy)
    × IsRemedyBy context diagnostic diagnostic.help remedy × (values ≡ actions_by context diagnostic remedy)

-- a diagnostic that touches an extent adds its action, and another one nothing
abbrev pub AddsAction : Context → Extent → Diagnostic → List Data → List Data → Type 0
AddsAction context extent diagnostic old new = (values : List Data)
    × MatchBool (do_touch extent (extent_of diagnostic.start diagnostic.end))
    (IsActionFor context diagnostic values) (values ≡ [])
    × (new ≡ old ++ values)

-- the first actions of diagnostics that touch an extent, at most a given number
abbrev pub AreActionsOf : Context → Extent → ℕ → List Diagnostic → List Data → Type 0
AreActionsOf context extent room [] values = values ≡ []
AreActionsOf context extent room (diagnostic ∷ diagnostics) values =
    MatchBool (room == 0) (values ≡ []) ((first : List Data) × (others : List Data)
    × AddsAction context extent diagnostic [] first
    × AreActionsOf context extent (room - length first) diagnostics others × (values ≡ first ++ others))

-- the first 20 actions of the diagnostics of a document's text
pub record AreActionsAt (context : Context) (extent : Extent) (v : Data) : Type 0 where
  pub diagnostics : List Diagnostic
  pub of_text : ∥ IsDiagnosis [] context.text.now diagnostics ∥₁
  pub values : List Data
  pub actions : AreActionsOf context extent 20 diagnostics values
  pub value : v ≡ array (items_of values)

-- whether the action that applies all safe fixes is asked for
abbrev pub asks_to_fix_all : Data → Bool
asks_to_fix_all params = lists_in (codes "/context/only") (codes "source.fixAll") params

-- the action that replaces a document's text by another
abbrev pub fix_all_data : Context → List ℕ → Data
fix_all_data context fixed = object
    (member (codes "edit") (workspace_edit_data context.uri.now
    (item (edit_at context fixed (extent_of 0 (length context.text.now))) no_items))
    (member (codes "kind") (string (codes "source.fixAll"))
    (member (codes "title") (string (codes "Apply all safe fixes")) no_members)))

-- no action, or the one that replaces a document's text by itself with safe fixes
pub data FixesAll (context : Context) (v : Data) : Type 0 where
  nothing : v ≡ array no_items → FixesAll context v
  fixes : (fixed : List ℕ) → IsMended false [] context.text.now fixed
      → v ≡ array (item (fix_all_data context fixed) no_items) → FixesAll context v

-- the actions that are asked for: of the range in parameters, or of the whole text
abbrev pub AreAsked : Context → Extent → Data → Data → Type 0
AreAsked context extent params v = MatchBool (asks_to_fix_all params) (FixesAll context v)
    (MatchBool (is_asked_for params) (AreActionsAt context extent v) (v ≡ array no_items))

-- the actions for the range in parameters
abbrev pub AreActions : Context → Data → Answer → Type 0
AreActions context params (answer.Result v) = (extent : Extent) × IsAskedExtent context params extent
    × AreAsked context extent params (view v)
AreActions context params (answer.Error code reason) = (asked_range params ≡ None) × (code ≡ InvalidParams)
