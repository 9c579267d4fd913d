-- What is logged of files, one after another.
use Rattle.std.proofs.Common.{◌≡◌, ◌∙◌, ℕ, ◌+◌, ◌<◌, ◌≤◌, List, [], ◌∷◌, ◌++◌, false, length, drop, get_or, map, max, sym, ap, append_assoc, append-nil, string_bytes, subst, take, arith, refl}
use Rattle.std.proofs.lemmas.Bool.{or_from}
use Rattle.std.proofs.lemmas.List.{map-append, take_more}
use Rattle.std.proofs.lemmas.Slice.Zip.{all_zipped_more}
use Rattle.std.specs.List.{AllZip}
use Rattle.serde_json.specs.Data.{Data}
use Rattle.serde_json.specs.View.{items_of, view}
use Rattle.serde_json.specs.declared.value.Value.{Value}
use Rattle.serde_json.specs.Written.{has_float, items_have_float}
use Rattle.lint_findings.specs.declared.diagnostic.Diagnostic.{Diagnostic}
use Rattle.lint_output.specs.Sarif.{IsRule, result_data}
use Rattle.lint_findings.specs.declared.codes.Code.{Code}
use Rattle.lint_findings.specs.declared.facts.Facts.{Facts}
use Rattle.lint_output.proofs.Floats.{append_free, results_free, rule_free}
use Rattle.pest_lint.specs.Logs.{AreLogged, AreRules, Logs, Part, all_results, highest_part, read, results_of, unread}
use Rattle.pest_lint.specs.Shows.{AreShown, Asked, IsReadable, status_of}
use Rattle.pest_lint.specs.declared.lint.Source.{Source}
use Rattle.pest_lint.proofs.Printing.{zip_end, zip_next}

-- a file's diagnostics are logged, and of one that can't be read nothing
pub read_logged : (asked : Asked) (source : Source) (name text : List ℕ) (ds : List Diagnostic) (status : ℕ) (old new : List Data) → IsReadable source → name ≡ string_bytes source.name → text ≡ source.bytes.items
    → AreShown asked text ds → status ≡ status_of asked ds → new ≡ old ++ map (result_data name text) ds → (added : List Data) × Logs asked source added status × (new ≡ old ++ added)
read_logged asked source name text ds status old new readable called same d whole e = (
  results_of source ds,
  subst (λ n. Logs asked source (results_of source ds) n) (sym whole) (read ds readable (subst (λ t. AreShown asked t ds) same d)),
  subst (λ n. new ≡ old ++ map (result_data n source.bytes.items) ds) called (subst (λ t. new ≡ old ++ map (result_data name t) ds) same e),
)

pub unread_logged : (asked : Asked) (source : Source) (old : List Data) → (IsReadable source → ⊥) → (added : List Data) × Logs asked source added 3 × (old ≡ old ++ added)
unread_logged asked source old refuse = ([], unread refuse, sym (append-nil old))

-- with the files that are left all are logged
abbrev pub GoesOn : Asked → List Source → ℕ → ℕ → List Data → Type 0
GoesOn asked sources i status logged = (parts : List Part) (n : ℕ) (all : List Data)
    → AllZip (λ source part. Logs asked source part.results part.status) (drop i sources) parts
    → n ≡ max status (highest_part parts) → all ≡ logged ++ all_results parts → AreLogged asked sources n all

pub begins : (asked : Asked) (sources : List Source) → GoesOn asked sources 0 0 []
begins asked sources parts n all each whole same = record { parts = parts; each = each; whole = omega arith; in_order = same }

pub one_more : (asked : Asked) (sources : List Source) (i : ℕ) (source : Source) (status one more : ℕ) (logged next : List Data) → source ≡ get_or sources i source → i < length sources → more ≡ max status one
    → (added : List Data) × Logs asked source added one × (next ≡ logged ++ added) → GoesOn asked sources i status logged → GoesOn asked sources (i + 1) more next
one_more asked sources i source status one more logged next at h highest p before parts n all each whole same =
    before (record { results = p.0; status = one } ∷ parts) n all
    (zip_next _ sources i source _ parts at h p.1 each)
    (omega (arith, whole, highest))
    (same ∙ ap (λ t. t ++ all_results parts) p.2 ∙ append_assoc logged p.0 (all_results parts))

pub ends : (asked : Asked) (sources : List Source) (i status : ℕ) (logged : List Data) → length sources ≤ i → GoesOn asked sources i status logged → AreLogged asked sources status logged
ends asked sources i status logged h before = before [] status logged (zip_end _ sources i h) (omega arith) (sym (append-nil logged))

-- results have no floats
part_free : (asked : Asked) (source : Source) (results : List Data) (status : ℕ) → Logs asked source results status → items_have_float (items_of results) ≡ false
part_free asked source _ _ (unread refuse) = refl
part_free asked source _ _ (read ds readable d) = results_free (string_bytes source.name) source.bytes.items ds

all_free : (asked : Asked) (sources : List Source) (parts : List Part) → AllZip (λ source part. Logs asked source part.results part.status) sources parts → items_have_float (items_of (all_results parts)) ≡ false
all_free asked [] [] h = refl
all_free asked [] (p ∷ ps) h = absurd h
all_free asked (s ∷ ss) [] h = absurd h
all_free asked (s ∷ ss) (p ∷ ps) h = append_free p.results (all_results ps) (part_free asked s p.results p.status h.0) (all_free asked ss ps h.1)

pub logged_free : (asked : Asked) (sources : List Source) (status : ℕ) (results : List Data) → AreLogged asked sources status results → items_have_float (items_of results) ≡ false
logged_free asked sources status results h = ap (λ t. items_have_float (items_of t)) h.in_order ∙ all_free asked sources h.parts h.each

-- rules have none either
pub rules_free : (codes : List Code) (rules : List Data) → AreRules codes rules → items_have_float (items_of rules) ≡ false
rules_free [] [] h = refl
rules_free [] (r ∷ rs) h = absurd h
rules_free (k ∷ ks) [] h = absurd h
rules_free (k ∷ ks) (r ∷ rs) h = or_from (has_float r) _ (rule_free k h.0.0 r h.0.1) (rules_free ks rs h.1)

-- the rule of one code more
pub one_rule_more : (table : List Facts) (i : ℕ) (facts : Facts) (old new : List Value) (rule : Value) (page : List ℕ) → i < length table
    → AreRules (map (λ f. f.code) (take i table)) (map view old) → IsRule (get_or table i facts).code page (view rule) → new ≡ old ++ rule ∷ []
    → AreRules (map (λ f. f.code) (take (i + 1) table)) (map view new)
one_rule_more table i facts old new rule page l before of e =
    let P : Code → Data → Type 0 = λ k r. (p : List ℕ) × IsRule k p r in
    let code : Facts → Code = λ f. f.code in
    let values : map view new ≡ map view old ++ view rule ∷ [] = ap (map view) e ∙ map-append view old (rule ∷ []) in
    let more : map code (take (i + 1) table) ≡ map code (take i table) ++ (get_or table i facts).code ∷ [] =
    ap (map code) (take_more table i facts l) ∙ map-append code (take i table) (get_or table i facts ∷ []) in
    subst (λ rs. AllZip P (map code (take (i + 1) table)) rs) (sym values)
    (subst (λ ks. AllZip P ks (map view old ++ view rule ∷ [])) (sym more)
    (all_zipped_more P (map code (take i table)) (map view old) (get_or table i facts).code (view rule) before (page, of)))
