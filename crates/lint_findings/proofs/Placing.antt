-- Fragments of a text, and the comment among lines that names starts.
use Rattle.std.proofs.Common.{◌≡◌, ◌∙◌, ◌+◌, ◌<◌, ◌≤◌, ◌⊎◌, ℕ, Bool, List, None, Option, Some, [], ◌∷◌, ◌++◌, append_assoc, cond, drop, false, find, get_or, length, map, filter, true, refl, ap, sym, arith, inl, inr}
use Rattle.std.specs.List.{onto_first, slice_split}
use Rattle.std.proofs.lemmas.List.{drop_more, map-append}
use Rattle.std.proofs.Math.ListN.{get_or-map}
use Rattle.lint_findings.specs.Fragments.{Fragment, fragment_of, placed_from, trimmed}
use Rattle.lint_findings.specs.Starts.{has_starts}
use Rattle.lint_findings.specs.declared.fragments.Fragment as code

abbrev pub first_comment : List Fragment → Option Fragment
first_comment lines = find has_starts lines

-- one line more
pub first_comment-found : (line : Fragment) (lines : List Fragment) → has_starts line ≡ true → first_comment (line ∷ lines) ≡ Some line
first_comment-found line lines h = ap (λ b. cond b (Some line) (first_comment lines)) h

pub first_comment-next : (line : Fragment) (lines : List Fragment) → has_starts line ≡ false → first_comment (line ∷ lines) ≡ first_comment lines
first_comment-next line lines h = ap (λ b. cond b (Some line) (first_comment lines)) h

-- if the lines from one on have the comment, so have that line and those behind it
pub next_line : (lines : List code.Fragment) (i : ℕ) (line : code.Fragment) → i < length lines → line ≡ get_or lines i line
    → first_comment (map fragment_of (drop i lines)) ≡ first_comment (map fragment_of lines)
    → first_comment (fragment_of line ∷ map fragment_of (drop (i + 1) lines)) ≡ first_comment (map fragment_of lines)
next_line lines i line l is e =
    ap (λ x. first_comment (fragment_of x ∷ map fragment_of (drop (i + 1) lines))) is ∙ ap (λ ls. first_comment (map fragment_of ls)) (sym (drop_more lines i line l)) ∙ e

-- how long parts are, with a byte behind each
abbrev pub long : List (List ℕ) → ℕ
long [] = 0
long (t ∷ ts) = length t + 1 + long ts

long-onto : (x n : ℕ) (ts : List (List ℕ)) → long ts ≡ n + 1 → long (onto_first x ts) ≡ n + 2
long-onto x n [] e = absurd (omega (arith, e))
long-onto x n (t ∷ ts) e = omega (arith, e)

long-more : (b : Bool) (x n : ℕ) (ts : List (List ℕ)) → long ts ≡ n + 1 → long (cond b ([] ∷ ts) (onto_first x ts)) ≡ n + 2
long-more true x n ts e = omega (arith, e)
long-more false x n ts e = long-onto x n ts e

pub long-split : (p : ℕ → Bool) (xs : List ℕ) → long (slice_split p xs) ≡ length xs + 1
long-split p [] = refl
long-split p (x ∷ xs) = let h = long-more (p x) x (length xs) (slice_split p xs) (long-split p xs) in h ∙ omega arith

-- parts that are left end where the whole does; behind the last one nothing is known
abbrev pub Ends : ℕ → List (List ℕ) → ℕ → Type 0
Ends at parts end = (parts ≡ []) ⊎ (at + long parts ≡ end + 1)

pub part_fits : (at end : ℕ) (t : List ℕ) (ts parts : List (List ℕ)) → parts ≡ t ∷ ts → Ends at parts end → at + length t ≤ end
part_fits at end t ts parts e (inl none) = absurd (let z = sym none ∙ e in cc)
part_fits at end t ts parts e (inr h) = omega (arith, h, ap long e)

-- the next part begins one byte behind a part
pub next_ends : (at next end : ℕ) (t : List ℕ) (ts parts : List (List ℕ)) → parts ≡ t ∷ ts → Ends at parts end → (at + length t + 1 ≤ end → next ≡ at + length t + 1) → Ends next ts end
next_ends at next end t ts parts e (inl none) n = absurd (let z = sym none ∙ e in cc)
next_ends at next end t [] parts e (inr h) n = inl refl
next_ends at next end t (u ∷ us) parts e (inr h) n =
    let total : at + (length t + 1 + long (u ∷ us)) ≡ end + 1 = ap (λ k. at + k) (sym (ap long e)) ∙ h in
    let k : next ≡ at + length t + 1 = n (omega (arith, total)) in
    inr (omega (arith, total, k))

pub next_placed : (at next end : ℕ) (t : List ℕ) (ts parts : List (List ℕ)) → parts ≡ t ∷ ts → Ends at parts end → (at + length t + 1 ≤ end → next ≡ at + length t + 1)
    → placed_from at parts ≡ record { start = at; text = t } ∷ placed_from next ts
next_placed at next end t ts parts e (inl none) n = absurd (let z = sym none ∙ e in cc)
next_placed at next end t [] parts e (inr h) n = ap (placed_from at) e
next_placed at next end t (u ∷ us) parts e (inr h) n =
    let total : at + (length t + 1 + long (u ∷ us)) ≡ end + 1 = ap (λ k. at + k) (sym (ap long e)) ∙ h in
    let k : next ≡ at + length t + 1 = n (omega (arith, total)) in
    ap (placed_from at) e ∙ ap (λ i. record { start = at; text = t } ∷ placed_from i (u ∷ us)) (sym k)

keep_if : {X Y : Type 0} (f : X → Y) (b : Bool) (x : X) (xs : List X) (ys : List Y) → map f xs ≡ ys → map f (cond b (x ∷ xs) xs) ≡ cond b (f x ∷ ys) ys
keep_if f true x xs ys e = ap (λ t. f x ∷ t) e
keep_if f false x xs ys e = e

-- a filter of what is viewed
pub filter-map : (p : Fragment → Bool) (xs : List code.Fragment) → map fragment_of (filter (λ x. p (fragment_of x)) xs) ≡ filter p (map fragment_of xs)
filter-map p [] = refl
filter-map p (x ∷ xs) = keep_if fragment_of (p (fragment_of x)) x (filter (λ y. p (fragment_of y)) xs) (filter p (map fragment_of xs)) (filter-map p xs)

-- one part more
pub more_whole : (items items' : List code.Fragment) (f : code.Fragment) (at next : ℕ) (t : List ℕ) (ts parts : List (List ℕ)) (all : List Fragment) → items' ≡ items ++ f ∷ [] → fragment_of f ≡ trimmed (record { start = at; text = t })
    → placed_from at parts ≡ record { start = at; text = t } ∷ placed_from next ts → map fragment_of items ++ map trimmed (placed_from at parts) ≡ all → map fragment_of items' ++ map trimmed (placed_from next ts) ≡ all
more_whole items items' f at next t ts parts all i v p h =
    let rest = map trimmed (placed_from next ts) in
    ap (λ xs. map fragment_of xs ++ rest) i ∙ ap (λ xs. xs ++ rest) (map-append fragment_of items (f ∷ [])) ∙ append_assoc (map fragment_of items) (fragment_of f ∷ []) rest
    ∙ ap (λ x. map fragment_of items ++ x ∷ rest) v ∙ ap (λ ps. map fragment_of items ++ map trimmed ps) (sym p) ∙ h

-- a fragment by its index, viewed
pub viewed_at : (xs : List code.Fragment) (i : ℕ) (x : code.Fragment) → x ≡ get_or xs i x → fragment_of x ≡ get_or (map fragment_of xs) i (fragment_of x)
viewed_at xs i x e = ap fragment_of e ∙ sym (get_or-map fragment_of xs i x)

-- the first answer of which a test holds, from one item on and behind it
pub find_here : {X A : Type 0} (g : X → A) (f : A → Bool) (xs : List X) (i : ℕ) (d : X) (first : Option A) → i < length xs → f (g (get_or xs i d)) ≡ true → find f (map g (drop i xs)) ≡ first → Some (g (get_or xs i d)) ≡ first
find_here g f xs i d first h t e =
    let x = get_or xs i d in
    sym (ap (λ b. cond b (Some (g x)) (find f (map g (drop (i + 1) xs)))) t) ∙ ap (λ ys. find f (map g ys)) (sym (drop_more xs i d h)) ∙ e

pub find_behind : {X A : Type 0} (g : X → A) (f : A → Bool) (xs : List X) (i : ℕ) (d : X) (first : Option A) → i < length xs → f (g (get_or xs i d)) ≡ false → find f (map g (drop i xs)) ≡ first → find f (map g (drop (i + 1) xs)) ≡ first
find_behind g f xs i d first h t e =
    let x = get_or xs i d in
    sym (ap (λ b. cond b (Some (g x)) (find f (map g (drop (i + 1) xs)))) t) ∙ ap (λ ys. find f (map g ys)) (sym (drop_more xs i d h)) ∙ e
