-- What is printed of diagnostics and of files, one after another.
use Rattle.std.proofs.Common.{◌≡◌, ℕ, zero, suc, ◌+◌, ◌<◌, ◌≤◌, List, [], ◌∷◌, ◌++◌, All, Bool, true, false, ◌||◌, Option, Some, None, filter, if◌then◌else◌, length, not, drop, take, get_or, sym, ap, ◌∙◌, add-one, append_assoc, append-nil, drop-cons, string_bytes, subst, arith, refl}
use Rattle.std.proofs.lemmas.List.{drop_all, take_all, take_more}
use Rattle.std.proofs.lemmas.List.Elements.{All-append}
use Rattle.std.proofs.lemmas.Map.Views.{any-filter_same}
use Rattle.std.specs.List.{AllZip, list_any}
use Rattle.std.specs.Io.KnownBytes.{Appends}
use Rattle.lint_findings.specs.Reports.{is_error}
use Rattle.lint_findings.specs.declared.diagnostic.Diagnostic.{Diagnostic}
use Rattle.lint_output.specs.declared.Style.{Style}
use Rattle.pest_lint.specs.Shows.{ArePrinted, AreShown, Asked, Gains, IsReadable, ShowsText, counts, has_one_of, is_shown, read, status_of, unread}
use Rattle.pest_lint.specs.declared.lint.Source.{Source}

-- two gains in turn, and none
pub both_gains : (a b c : Option (List ℕ)) (xs ys : List ℕ) → Appends a b xs → Appends b c ys → Appends a c (xs ++ ys)
both_gains None b c xs ys h k = tt
both_gains (Some a) None c xs ys h k = absurd h
both_gains (Some a) (Some b) None xs ys h k = absurd k
both_gains (Some a) (Some b) (Some c) xs ys h k = k ∙ (ap (λ t. t ++ ys) h ∙ append_assoc a xs ys)

pub no_gain : (a : Option (List ℕ)) → Appends a a []
no_gain None = tt
no_gain (Some a) = sym (append-nil a)

-- one more of a list, and none
pub zip_next : {X Y : Type 0} (R : X → Y → Type 0) (xs : List X) (i : ℕ) (x : X) (y : Y) (ys : List Y) → x ≡ get_or xs i x → i < length xs → R x y → AllZip R (drop (i + 1) xs) ys
    → AllZip R (drop i xs) (y ∷ ys)
zip_next R xs i x y ys e h r rest =
    let next : drop i xs ≡ x ∷ drop (i + 1) xs = rw add-one (drop-cons xs i x h ∙ ap (λ z. z ∷ drop (suc i) xs) (sym e)) in
    subst (λ zs. AllZip R zs (y ∷ ys)) (sym next) (r, rest)

pub zip_end : {X Y : Type 0} (R : X → Y → Type 0) (xs : List X) (i : ℕ) → length xs ≤ i → AllZip R (drop i xs) []
zip_end R xs i h = subst (λ zs. AllZip R zs []) (sym (drop_all i xs h)) tt

-- what holds of each of the first, and of the next
single : {X : Type 0} (P : X → Type 0) (x : X) → P x → (k : ℕ) (d : X) → k < length (x ∷ []) → P (get_or (x ∷ []) k d)
single P x p zero d h = p
single P x p (suc k) d h = absurd (omega arith)

pub all_more : {X : Type 0} (P : X → Type 0) (xs : List X) (i : ℕ) (x : X) → i < length xs → x ≡ get_or xs i x → All P (take i xs) → P x → All P (take (i + 1) xs)
all_more P xs i x h at k p =
    let more : take (i + 1) xs ≡ take i xs ++ x ∷ [] = take_more xs i x h ∙ ap (λ y. take i xs ++ y ∷ []) (sym at) in
    subst (λ ys. All P ys) (sym more) (All-append P (take i xs) (x ∷ []) k (single P x p))

pub all_of : {X : Type 0} (P : X → Type 0) (xs : List X) (i : ℕ) → length xs ≤ i → All P (take i xs) → All P xs
all_of P xs i h k = subst (λ ys. All P ys) (take_all i xs h) k

-- a status of 0 is that of no error
one_clean : (deny e one more : Bool) → ((deny || (e || one)) || more) ≡ false → (e ≡ false) × (more ≡ false)
one_clean true e one more h = cc
one_clean false true one more h = cc
one_clean false false true more h = cc
one_clean false false false more h = (refl, h)

none_counts : (asked : Asked) (ds : List Diagnostic) → list_any (counts asked) ds ≡ false → list_any is_error ds ≡ false
none_counts asked [] h = refl
none_counts asked (d ∷ ds) h =
    let p = one_clean asked.deny (is_error d) (has_one_of asked.denied d) (list_any (counts asked) ds) h in
    rw (p.0) (none_counts asked ds p.1)

zero_none : (b : Bool) → ◌≡◌ {A = ℕ} (if b then 1 else 0) 0 → b ≡ false
zero_none true h = absurd (omega arith)
zero_none false h = refl

pub no_errors : (asked : Asked) (ds : List Diagnostic) → status_of asked ds ≡ 0 → list_any is_error ds ≡ false
no_errors asked ds h = none_counts asked ds (zero_none (list_any (counts asked) ds) h)

-- errors are shown
always_shown : (b c : Bool) → b ≡ true → (b || not c) ≡ true
always_shown true c h = refl
always_shown false c h = cc

pub errors_shown : (asked : Asked) (ds : List Diagnostic) → list_any is_error (filter (is_shown asked) ds) ≡ list_any is_error ds
errors_shown asked ds = any-filter_same is_error (is_shown asked) true (λ d e. always_shown (is_error d) (has_one_of asked.allowed d) e) ds

-- the status by whether one counts
pub found_status : (asked : Asked) (ds : List Diagnostic) (b : Bool) → b ≡ list_any (counts asked) ds → b ≡ true → ◌≡◌ {A = ℕ} 1 (status_of asked ds)
found_status asked ds b e h = subst (λ (x : Bool). ◌≡◌ {A = ℕ} 1 (if x then 1 else 0)) (sym h ∙ e) refl

pub clean_status : (asked : Asked) (ds : List Diagnostic) (b : Bool) → b ≡ list_any (counts asked) ds → b ≡ false → ◌≡◌ {A = ℕ} 0 (status_of asked ds)
clean_status asked ds b e h = subst (λ (x : Bool). ◌≡◌ {A = ℕ} 0 (if x then 1 else 0)) (sym h ∙ e) refl

-- a file's text is shown, and of one that can't be read nothing
pub shown_text : (asked : Asked) (style : Style) (source : Source) (name text : List ℕ) (status : ℕ) (old new : Option (List ℕ)) → IsReadable source → name ≡ string_bytes source.name → text ≡ source.bytes.items
    → (bytes : List ℕ) × ShowsText asked style name text bytes status × Appends old new bytes → Gains asked style source status old new
shown_text asked style source name text status old new readable called same h =
    (h.0, read h.0 status readable (subst (λ n. ShowsText asked style n source.bytes.items h.0 status) called (subst (λ t. ShowsText asked style name t h.0 status) same h.1)), h.2)

pub shown_unread : (asked : Asked) (style : Style) (source : Source) (old : Option (List ℕ)) → (IsReadable source → ⊥) → Gains asked style source 3 old old
shown_unread asked style source old refuse = ([], unread refuse, no_gain old)

-- the diagnostics of a text are printed, all of them
pub text_shown : (asked : Asked) (style : Style) (name text : List ℕ) (ds : List Diagnostic) (status : ℕ) (old new : Option (List ℕ)) → AreShown asked text ds → status ≡ status_of asked ds
    → (bytes : List ℕ) × ArePrinted style name text ds bytes × Appends old new bytes → (bytes : List ℕ) × ShowsText asked style name text bytes status × Appends old new bytes
text_shown asked style name text ds status old new d whole h = (h.0, record { diagnostics = ds; diagnosis = d; printed = h.1; whole = whole }, h.2)
