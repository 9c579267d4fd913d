-- Lists that hold place by place.
use Rattle.std.proofs.Common.{◌≡◌, ℕ, ◌+◌, ◌<◌, ◌≤◌, List, [], ◌∷◌, ◌++◌, length, drop, get_or, map, suc, sym, ap, ◌∙◌, refl, Result, Ok, Err, IfOk, Vec, Global, add-one, append-nil, drop-cons, subst, take}
use Rattle.std.proofs.lemmas.Grind.{flat_map-append}
use Rattle.std.proofs.lemmas.List.{drop_all, take_all, take_more}
use Rattle.std.specs.List.{AllZip}
use Rattle.std.specs.Prelude.{flat_map}
use Rattle.lint_findings.specs.Codes.{Warning, severity_of, spans_of, warning}
use Rattle.lint_findings.specs.Reports.{ReportsWarning}
use Rattle.lint_findings.specs.declared.codes.Code.{Code}
use Rattle.lint_findings.specs.declared.codes.Code.TheVariants as code
use Rattle.lint_findings.specs.declared.codes.Severity.TheVariants as severity
use Rattle.lint_findings.specs.declared.diagnostic.Diagnostic.{Diagnostic}
use Rattle.base_language.specs.Pieces.Saying.{Span, piece_of}
use Rattle.base_language.specs.declared.runtime.places.Span as code_span
use Rattle.base_language.specs.Language.Text.{Text}
use Rattle.front_spanned.specs.Spanned.{SpannedRule}

-- one more item of a list, and none
pub zip_next : {X Y : Type 0} (R : X → Y → Type 0) (xs : List X) (i : ℕ) (x : X) (y : Y) (ys : List Y) → x ≡ get_or xs i x → i < length xs → R x y → AllZip R (drop (i + 1) xs) ys
    → AllZip R (drop i xs) (y ∷ ys)
zip_next R xs i x y ys e h r rest =
    let next : drop i xs ≡ x ∷ drop (i + 1) xs = rw add-one (drop-cons xs i x h ∙ ap (λ z. z ∷ drop (suc i) xs) (sym e)) in
    subst (λ zs. AllZip R zs (y ∷ ys)) (sym next) (r, rest)

pub zip_end : {X Y : Type 0} (R : X → Y → Type 0) (xs : List X) (i : ℕ) → length xs ≤ i → AllZip R (drop i xs) []
zip_end R xs i h = subst (λ zs. AllZip R zs []) (sym (drop_all i xs h)) tt

-- both lists go on
pub zip_both : {X Y : Type 0} (R : X → Y → Type 0) (xs zs : List X) (ys ws : List Y) → AllZip R xs ys → AllZip R zs ws → AllZip R (xs ++ zs) (ys ++ ws)
zip_both R [] zs [] ws h k = k
zip_both R [] zs (y ∷ ys) ws h k = absurd h
zip_both R (x ∷ xs) zs [] ws h k = absurd h
zip_both R (x ∷ xs) zs (y ∷ ys) ws h k = (h.0, zip_both R xs zs ys ws h.1 k)

-- images of the first
pub zip_map : {W X Y : Type 0} (R : X → Y → Type 0) (f : W → X) (ws : List W) (ys : List Y) → AllZip (λ w y. R (f w) y) ws ys → AllZip R (map f ws) ys
zip_map R f [] [] h = tt
zip_map R f [] (y ∷ ys) h = absurd h
zip_map R f (w ∷ ws) [] h = absurd h
zip_map R f (w ∷ ws) (y ∷ ys) h = (h.0, zip_map R f ws ys h.1)

-- one more code
pub next_code : (f : Code → List Warning) (codes : List Code) (i : ℕ) (d : Code) (diagnostics : List Diagnostic) → i < length codes → AllZip ReportsWarning (flat_map f (take i codes) ++ f (get_or codes i d)) diagnostics
    → AllZip ReportsWarning (flat_map f (take (i + 1) codes)) diagnostics
next_code f codes i d diagnostics h all =
    let x = get_or codes i d in
    let more : flat_map f (take (i + 1) codes) ≡ flat_map f (take i codes) ++ f x =
    ap (flat_map f) (take_more codes i d h)
    ∙ (flat_map-append f (take i codes) (x ∷ []) ∙ ap (λ l. flat_map f (take i codes) ++ l) (append-nil (f x)))
    in
    subst (λ ws. AllZip ReportsWarning ws diagnostics) (sym more) all

pub codes_done : (f : Code → List Warning) (codes : List Code) (i : ℕ) (diagnostics : List Diagnostic) → length codes ≤ i → AllZip ReportsWarning (flat_map f (take i codes)) diagnostics
    → AllZip ReportsWarning (flat_map f codes) diagnostics
codes_done f codes i diagnostics h all = subst (λ cs. AllZip ReportsWarning (flat_map f cs) diagnostics) (take_all i codes h) all

-- rules have no warnings of an error's code
pub no_spans : (c : Code) (starts : List Text) (rules : List SpannedRule) → severity_of c ≡ severity.Error → spans_of c starts rules ≡ []
no_spans code.Syntax starts rules h = refl
no_spans _ starts rules h = cc

-- the warnings of a code, span by span
pub reported_code : {E : Type 0} (c : Code) (spans : List code_span.Span) (pieces : List Span) (result : Result (Vec Diagnostic Global) E) → map piece_of spans ≡ pieces
    → IfOk result (λ diagnostics. AllZip (λ span. ReportsWarning (warning c (piece_of span))) spans diagnostics.items)
    → IfOk result (λ diagnostics. AllZip ReportsWarning (map (warning c) pieces) diagnostics.items)
reported_code c spans pieces (Ok diagnostics) e h =
    let mapped = zip_map (λ span. ReportsWarning (warning c span)) piece_of spans diagnostics.items h in
    subst (λ ps. AllZip ReportsWarning (map (warning c) ps) diagnostics.items) e (zip_map ReportsWarning (warning c) (map piece_of spans) diagnostics.items mapped)
reported_code c spans pieces (Err error) e h = tt
