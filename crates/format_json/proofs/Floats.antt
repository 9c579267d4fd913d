-- What is written has no floats, so its text is what the library's clause says.
use Rattle.std.proofs.Common.{◌≡◌, ℕ, ℤ, pos, negsuc, Bool, false, ◌||◌, Option, Some, None, List, [], ◌∷◌, ◌++◌, Bor, String, Global, map, refl}
use Rattle.std.proofs.lemmas.Bool.{or_from}
use Rattle.serde_json.specs.Data.{Data}
use Rattle.serde_json.specs.Find.{is_float, of_integer}
use Rattle.serde_json.specs.View.{items_of}
use Rattle.serde_json.specs.Written.{has_float, items_have_float, members_have_float}
use Rattle.base_language.specs.Pieces.PrintedError.{error_line}
use Rattle.base_language.specs.declared.grammar.Rule.{Rule}
use Rattle.base_language.specs.declared.runtime.errors.Error.{Error}
use Rattle.base_language.specs.declared.runtime.errors.ErrorVariant.{ErrorVariant}
use Rattle.base_language.specs.declared.runtime.errors.ErrorVariant.TheVariants.{ParsingError, CustomError}
use Rattle.base_language.specs.declared.runtime.errors.InputLocation.{InputLocation}
use Rattle.base_language.specs.declared.runtime.errors.InputLocation.TheVariants as location
use Rattle.base_language.specs.declared.runtime.errors.LineColLocation.{LineColLocation}
use Rattle.base_language.specs.declared.runtime.errors.LineColLocation.TheVariants as line_col
use Rattle.base_language.proofs.Basics.{first_of_neither, second_of_neither}
use Rattle.base_ast.specs.declared.ast.Rule as bare_rule
use Rattle.base_ast.specs.declared.ast.Expr as bare
use Rattle.base_ast.specs.declared.optimized.OptimizedExpr as optimized
use Rattle.base_ast.specs.declared.optimized.OptimizedRule.{OptimizedRule}
use Rattle.format_json.specs.Errors.{answer_data, error_data, error_members, errors_data, line_col_data, location_data, message_members, names_data, rule_names_data}
use Rattle.format_json.specs.Format.{end_data, nodes_of, optimized_nodes_of, optimized_rules_data, place_data, rules_data, text_data, texts_data}
use Rattle.format_json.specs.Refusals.{message_data, refusal_data}
use Rattle.format_json.specs.declared.refusal.RefusalLocation.{RefusalLocation}
use Rattle.format_json.specs.declared.refusal.RefusalLocation.TheVariants as place
use Rattle.format_json.specs.declared.refusal.RefusalReason.{RefusalReason}
use Rattle.format_json.specs.Refusals.{message_of}
use Rattle.format_json.specs.Tokens.{event_data, tokens_data}
use Rattle.front_syntax.specs.declared.events.TokenEvent.{TokenEvent}
use Rattle.front_syntax.specs.declared.events.TokenEvent.TheVariants as event

pub then_free : (a b : Bool) → a ≡ false → b ≡ false → (a || (b || false)) ≡ false
then_free a b h k = or_from a (b || false) h (or_from b false k refl)

pub append_free : (ds es : List Data) → items_have_float (items_of ds) ≡ false → items_have_float (items_of es) ≡ false → items_have_float (items_of (ds ++ es)) ≡ false
append_free [] es h k = k
append_free (d ∷ ds) es h k = or_from (has_float d) _ (first_of_neither (has_float d) _ h) (append_free ds es (second_of_neither (has_float d) _ h) k)

pub map_free : {A : Type 0} (f : A → Data) → ((x : A) → has_float (f x) ≡ false) → (xs : List A) → items_have_float (items_of (map f xs)) ≡ false
map_free f h [] = refl
map_free f h (x ∷ xs) = or_from (has_float (f x)) _ (h x) (map_free f h xs)

texts_free : (ss : List (String Global)) → items_have_float (items_of (map text_data ss)) ≡ false
texts_free ss = map_free text_data (λ s. refl) ss

pub place_float : (z : ℤ) → is_float (of_integer z) ≡ false
place_float (pos n) = refl
place_float (negsuc n) = refl

pub end_free : (j : Option ℤ) → has_float (end_data j) ≡ false
end_free None = refl
end_free (Some z) = place_float z

pub one_free : (a b : Bool) → a ≡ false → b ≡ false → ((a || (b || false)) || false) ≡ false
one_free a b h k = or_from (a || (b || false)) false (then_free a b h k) refl

skip_free : (a : Bool) → a ≡ false → ((a || false) || false) ≡ false
skip_free a h = or_from (a || false) false (or_from a false h refl) refl

pub nodes_free : (e : bare.Expr) → items_have_float (items_of (nodes_of e)) ≡ false
nodes_free (bare.Str s) = refl
nodes_free (bare.Insens s) = refl
nodes_free (bare.Range s t) = refl
nodes_free (bare.Ident s) = refl
nodes_free (bare.PeekSlice i j) = one_free (has_float (place_data i)) (has_float (end_data j)) (place_float i) (end_free j)
nodes_free (bare.PosPred' p x) = nodes_free x
nodes_free (bare.NegPred' p x) = nodes_free x
nodes_free (bare.Opt' p x) = nodes_free x
nodes_free (bare.Rep' p x) = nodes_free x
nodes_free (bare.RepOnce' p x) = nodes_free x
nodes_free (bare.Push' p x) = nodes_free x
nodes_free (bare.PushLiteral s) = refl
nodes_free (bare.NodeTag' p x s) = nodes_free x
nodes_free (bare.Seq' p x q y) = append_free (nodes_of x) (nodes_of y) (nodes_free x) (nodes_free y)
nodes_free (bare.Choice' p x q y) = append_free (nodes_of x) (nodes_of y) (nodes_free x) (nodes_free y)
nodes_free (bare.RepExact' p x n) = nodes_free x
nodes_free (bare.RepMin' p x n) = nodes_free x
nodes_free (bare.RepMax' p x n) = nodes_free x
nodes_free (bare.RepMinMax' p x m n) = nodes_free x
nodes_free (bare.Skip ss) = skip_free (has_float (texts_data ss.items)) (texts_free ss.items)

pub optimized_nodes_free : (e : optimized.OptimizedExpr) → items_have_float (items_of (optimized_nodes_of e)) ≡ false
optimized_nodes_free (optimized.Str s) = refl
optimized_nodes_free (optimized.Insens s) = refl
optimized_nodes_free (optimized.Range s t) = refl
optimized_nodes_free (optimized.Ident s) = refl
optimized_nodes_free (optimized.PeekSlice i j) = one_free (has_float (place_data i)) (has_float (end_data j)) (place_float i) (end_free j)
optimized_nodes_free (optimized.PosPred' p x) = optimized_nodes_free x
optimized_nodes_free (optimized.NegPred' p x) = optimized_nodes_free x
optimized_nodes_free (optimized.Opt' p x) = optimized_nodes_free x
optimized_nodes_free (optimized.Rep' p x) = optimized_nodes_free x
optimized_nodes_free (optimized.RepOnce' p x) = optimized_nodes_free x
optimized_nodes_free (optimized.Push' p x) = optimized_nodes_free x
optimized_nodes_free (optimized.PushLiteral s) = refl
optimized_nodes_free (optimized.NodeTag' p x s) = optimized_nodes_free x
optimized_nodes_free (optimized.RestoreOnErr' p x) = optimized_nodes_free x
optimized_nodes_free (optimized.Seq' p x q y) = append_free (optimized_nodes_of x) (optimized_nodes_of y) (optimized_nodes_free x) (optimized_nodes_free y)
optimized_nodes_free (optimized.Choice' p x q y) = append_free (optimized_nodes_of x) (optimized_nodes_of y) (optimized_nodes_free x) (optimized_nodes_free y)
optimized_nodes_free (optimized.Skip ss) = skip_free (has_float (texts_data ss.items)) (texts_free ss.items)

pub rules_without_floats : (rules : List bare_rule.Rule) → has_float (rules_data rules) ≡ false
rules_without_floats rules = map_free _ (λ r. or_from _ false (nodes_free r.expr) refl) rules

pub optimized_without_floats : (rules : List OptimizedRule) → has_float (optimized_rules_data rules) ≡ false
optimized_without_floats rules = map_free _ (λ r. or_from _ false (optimized_nodes_free r.expr) refl) rules

pub names_without_floats : (names : List (Bor (List ℕ))) → has_float (names_data names) ≡ false
names_without_floats names = map_free _ (λ name. refl) names

rule_names_free : (rules : List Rule) → has_float (rule_names_data rules) ≡ false
rule_names_free rules = map_free _ (λ rule. refl) rules

pub answer_without_floats : (builtins : List (Bor (List ℕ))) (rules : List OptimizedRule) → has_float (answer_data builtins rules) ≡ false
answer_without_floats builtins rules = then_free (has_float (names_data builtins)) (has_float (optimized_rules_data rules)) (names_without_floats builtins) (optimized_without_floats rules)

location_free : (l : InputLocation) → has_float (location_data l) ≡ false
location_free (location.Pos p) = refl
location_free (location.Span p) = refl

line_col_free : (l : LineColLocation) → has_float (line_col_data l) ≡ false
line_col_free (line_col.Pos p) = refl
line_col_free (line_col.Span p q) = refl

said_free : (expected : List Rule) (variant : ErrorVariant) (line : List ℕ) (l : InputLocation) (p : LineColLocation) → members_have_float (error_members expected variant (message_members line (line_col_data p) (location_data l))) ≡ false
said_free expected ParsingError line l p = or_from (has_float (rule_names_data expected)) _ (rule_names_free expected) (then_free (has_float (line_col_data p)) (has_float (location_data l)) (line_col_free p) (location_free l))
said_free expected (CustomError m) line l p = then_free (has_float (line_col_data p)) (has_float (location_data l)) (line_col_free p) (location_free l)

pub errors_without_floats : (expected : List Rule) (errors : List (Error Rule)) → has_float (errors_data expected errors) ≡ false
errors_without_floats expected errors = map_free (error_data expected) (λ e. said_free expected e.variant (error_line e) e.location e.line_col) errors

said_at_free : (p : RefusalLocation) (message : List ℕ) → has_float (message_data p message) ≡ false
said_at_free (place.Text l c) m = refl
said_at_free place.Whole m = refl
said_at_free (place.Rule r) m = refl
said_at_free (place.Node r n) m = refl

pub refusal_without_floats : (p : RefusalLocation) (why : RefusalReason) → has_float (refusal_data p why) ≡ false
refusal_without_floats p why = said_at_free p (message_of why)

event_free : (e : TokenEvent) → has_float (event_data e) ≡ false
event_free (event.Start rule place partner) = refl
event_free (event.End place partner) = refl

pub tokens_without_floats : (events : List TokenEvent) → has_float (tokens_data events) ≡ false
tokens_without_floats events = map_free event_data event_free events
