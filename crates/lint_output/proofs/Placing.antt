-- What holds at locations that are found holds at those of the text.
use Rattle.std.proofs.Common.{◌≡◌, ◌∙◌, ◌++◌, Bool, List, ℕ, Err, IfOk, Ok, Result, ap, append_assoc, codes, false, string_bytes, subst, sym}
use Rattle.serde_json.specs.Data.{Data, array}
use Rattle.serde_json.specs.Written.{has_float}
use Rattle.lint_findings.specs.Codes.{code_name, severity_name}
use Rattle.lint_findings.specs.declared.diagnostic.Diagnostic.{Diagnostic}
use Rattle.lint_output.specs.Annotations.{located_command, message_text, place_text, property}
use Rattle.lint_output.specs.Json.{json_line, line_data, located_line, related_data}
use Rattle.lint_output.specs.Locations.{location_at}
use Rattle.lint_output.specs.Prints.{IsAnnotation, IsBlock, IsPlacedBlock, block, heading, top_lines}
use Rattle.lint_output.specs.Sarif.{fixes_of, located_data, result_data}
use Rattle.lint_output.specs.declared.lines.Location.{Location}
use Rattle.lint_output.proofs.Floats.{line_without_floats}

-- at two locations
pub placed_twice : {X E : Type 0} (result : Result X E) (P : Type 0) (R : Location → Location → X → Type 0) (first last start end_ : Location) → IfOk result (R first last) → (P → first ≡ start) → (P → last ≡ end_)
    → IfOk result (λ x. P → R start end_ x)
placed_twice (Ok x) P R first last start end_ h same then = λ p. subst (λ l. R start l x) (then p) (subst (λ l. R l last x) (same p) h)
placed_twice (Err e) P R first last start end_ h same then = tt

-- a result of a log
pub placed_result : {X E : Type 0} (result : Result X E) (shown : X → Data) (P : Type 0) (name text : List ℕ) (d : Diagnostic) (fixes : Data) (first last : Location) → IfOk result (λ x. shown x ≡ located_data name d fixes first last)
    → (P → fixes ≡ array (fixes_of name text d.help)) → (P → first ≡ location_at text d.start) → (P → last ≡ location_at text d.end) → IfOk result (λ x. P → shown x ≡ result_data name text d)
placed_result (Ok x) shown P name text d fixes first last h mends start end_ = λ p.
    let all = array (fixes_of name text d.help) in
    h ∙ ap (λ f. located_data name d f first last) (mends p) ∙ ap (λ l. located_data name d all l last) (start p) ∙ ap (λ l. located_data name d all (location_at text d.start) l) (end_ p)
placed_result (Err e) shown P name text d fixes first last h mends start end_ = tt

-- a line of JSON
pub line_text : {X E : Type 0} (result : Result X E) (bytes : X → List ℕ) (P : Type 0) (name text : List ℕ) (d : Diagnostic) (related value : Data) (first last : Location) → value ≡ located_line name d related first last
    → (P → related ≡ related_data text d.related.items) → (P → first ≡ location_at text d.start) → (P → last ≡ location_at text d.end) → IfOk result (λ x. has_float value ≡ false → bytes x ≡ json_line value)
    → IfOk result (λ x. P → bytes x ≡ json_line (line_data name text d))
line_text (Ok x) bytes P name text d related value first last e parts start end_ h = λ p.
    let same : value ≡ line_data name text d = e ∙ ap (λ r. located_line name d r first last) (parts p) ∙ ap (λ l. located_line name d (related_data text d.related.items) l last) (start p) ∙ ap (λ l. located_line name d (related_data text d.related.items) (location_at text d.start) l) (end_ p) in
    h (ap has_float same ∙ line_without_floats name text d) ∙ ap json_line same
line_text (Err e) bytes P name text d related value first last same parts start end_ h = tt

-- a block
pub placed_block : {X E : Type 0} (result : Result X E) (bytes : X → List ℕ) (P : Type 0) (colour : Bool) (name : List ℕ) (d : Diagnostic) (found there : Location) (rest : List ℕ) → IfOk result (λ x. bytes x ≡ block colour name d found rest)
    → (P → found ≡ there) → IfOk result (λ x. P → IsPlacedBlock colour name d there (bytes x))
placed_block (Ok x) bytes P colour name d found there rest h same = λ p. subst (λ l. IsPlacedBlock colour name d l (bytes x)) (same p) (rest, h)
placed_block (Err e) bytes P colour name d found there rest h same = tt

-- it has the shape of a block
pub shaped_block : {X E : Type 0} (result : Result X E) (bytes : X → List ℕ) (colour : Bool) (name : List ℕ) (d : Diagnostic) (first : Location) (rest : List ℕ) → IfOk result (λ x. bytes x ≡ block colour name d first rest)
    → IfOk result (λ x. IsBlock colour d (bytes x))
shaped_block (Ok x) bytes colour name d first rest h =
    let top = top_lines name (string_bytes d.message) first in
    (top ++ rest, h ∙ ap (λ t. heading colour d.severity ++ (codes "[" ++ (code_name d.code ++ (codes "]: " ++ t)))) (sym (append_assoc top rest (codes "\n"))))
shaped_block (Err e) bytes colour name d first rest h = tt

-- and a command that of an annotation
regrouped : (a b c d e f g n : List ℕ) → a ++ (b ++ (c ++ (d ++ (e ++ (f ++ (g ++ n)))))) ≡ (a ++ (b ++ (c ++ (d ++ (e ++ (f ++ g)))))) ++ n
regrouped a b c d e f g n = simp append_assoc

pub shaped_command : {X E : Type 0} (result : Result X E) (bytes : X → List ℕ) (name : List ℕ) (d : Diagnostic) (first last : Location) → IfOk result (λ x. bytes x ≡ located_command name d first last) → IfOk result (λ x. IsAnnotation d (bytes x))
shaped_command (Ok x) bytes name d first last h = (
  property name ++ (codes "," ++ (place_text first last ++ (codes ",title=" ++ (property (code_name d.code) ++ (codes "::" ++ message_text d))))),
  h ∙ ap (λ t. codes "::" ++ (severity_name d.severity ++ (codes " file=" ++ t))) (regrouped (property name) (codes ",") (place_text first last) (codes ",title=") (property (code_name d.code)) (codes "::") (message_text d) (codes "\n")),
)
shaped_command (Err e) bytes name d first last h = tt
