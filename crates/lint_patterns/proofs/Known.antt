-- Keys of the alternatives so far.
use Rattle.std.proofs.Common.{◌≡◌, ◌∙◌, ℕ, ◌<◌, List, [], ◌∷◌, ◌++◌, Bool, true, false, ◌&&◌, ◌||◌, if◌then◌else◌, cond, Vec, Global, refl, sym, ap, ap₂, length, nat_eq, arith}
use Rattle.std.specs.Prelude.{not}
use Rattle.std.specs.HashSet as bag
use Rattle.std.proofs.lemmas.Bool.{false_from_ne_true, leb-false, leb-true}
use Rattle.std.proofs.lemmas.List.Folds.{list_any-append}
use lib.Pointwise.{pointwise}
use Rattle.base_language.specs.Language.Expression.{Expression}
use Rattle.base_language.specs.Rewritings.Equality.{expression_eq, expression_eq-Decides}
use Rattle.lint_patterns.specs.Duplicates.{is_among, is_compared, is_plain, is_short}
use Rattle.lint_patterns.specs.Keys.{key}
use Rattle.lint_patterns.specs.DuplicateLists.{KeySet, KnowsKeys, same_key}
use Rattle.lint_patterns.proofs.Unique.{same_keys}
use Rattle.front_spanned.specs.Erasure.{without_spans}
use Rattle.front_spanned.specs.Spanned.{Spanned}

pub or_none : (b : Bool) → (b || false) ≡ b
or_none true = refl
or_none false = refl

among_more : (xs : List Spanned) (x : Spanned) (e : Expression) → is_among (xs ++ x ∷ []) e ≡ (is_among xs e || expression_eq (without_spans x) e)
among_more xs x e =
    list_any-append (λ y. expression_eq (without_spans y) e) xs (x ∷ [])
    ∙ ap (λ b. is_among xs e || b) (or_none (expression_eq (without_spans x) e))

pub cond_or : (b h : Bool) → cond b true h ≡ (h || b)
cond_or true true = refl
cond_or true false = refl
cond_or false true = refl
cond_or false false = refl

-- an expression that is not compared is none of those that are
pub no_match : (a e : Expression) → is_compared a ≡ false → is_compared e ≡ true → expression_eq a e ≡ false
no_match a e h k = false_from_ne_true (expression_eq a e) (λ m.
    let same : a ≡ e = (expression_eq-Decides a e).0 m in
    let z : true ≡ false = sym k ∙ (ap is_compared (sym same) ∙ h) in
    cc)

pub known_still : (xs : List Spanned) (x : Spanned) (set : KeySet) → is_compared (without_spans x) ≡ false → KnowsKeys xs set → KnowsKeys (xs ++ x ∷ []) set
known_still xs x set h known = λ e k i j.
    known e k i j ∙ sym (among_more xs x e ∙ (ap (λ b. is_among xs e || b) (no_match (without_spans x) e h j) ∙ or_none (is_among xs e)))

pub known_more : (xs : List Spanned) (x : Spanned) (old new : KeySet) (k : Vec ℕ Global) → k.items ≡ key (without_spans x) → bag.Updates same_key old new k true → KnowsKeys xs old → KnowsKeys (xs ++ x ∷ []) new
known_more xs x old new k h updates known = λ e q i j.
    let test : same_key k q ≡ expression_eq (without_spans x) e = ap₂ (λ m n. pointwise nat_eq m n) h i ∙ same_keys (without_spans x) e in
    updates.0 q ∙ (ap₂ (λ b c. cond b true c) test (known e q i j) ∙ (cond_or (expression_eq (without_spans x) e) (is_among xs e) ∙ sym (among_more xs x e)))

pub plain_uncompared : (e : Expression) → is_plain e ≡ true → is_compared e ≡ false
plain_uncompared e h = ap (λ b. (if b then false else true) && is_short e) h

pub and_false : (b : Bool) → (b && false) ≡ false
and_false true = refl
and_false false = refl

pub long_uncompared : (e : Expression) → 256 < length (key e) → is_compared e ≡ false
long_uncompared e h =
    let s : is_short e ≡ false = false_from_ne_true (is_short e) (λ m. let l = leb-true (length (key e)) 256 m in omega arith) in
    ap (λ b. (if is_plain e then false else true) && b) s ∙ and_false (if is_plain e then false else true)

not_long : (e : Expression) → (256 < length (key e) → ⊥) → is_short e ≡ true
not_long e short = elim (is_short e) as (λ b. is_short e ≡ b → b ≡ true) [ true ↦ λ m. refl | false ↦ λ m. absurd (short (leb-false (length (key e)) 256 m)) ] refl

pub short_compared : (e : Expression) → is_plain e ≡ false → (256 < length (key e) → ⊥) → is_compared e ≡ true
short_compared e h short =
    let s : is_short e ≡ true = not_long e short in
    ap₂ (λ b c. (if b then false else true) && c) h s

pub not_false : (b : Bool) → not b ≡ false → b ≡ true
not_false true h = refl
not_false false h = sym h

pub not_true : (b : Bool) → not b ≡ true → b ≡ false
not_true true h = sym h
not_true false h = refl

-- whether an alternative is there, by the answer of an insertion
pub there_if_old : (xs : List Spanned) (e : Expression) (set : KeySet) (k : Vec ℕ Global) (is_new : Bool) → KnowsKeys xs set → k.items ≡ key e → is_compared e ≡ true → is_new ≡ not (bag.contains same_key set k)
    → is_new ≡ false → is_among xs e ≡ true
there_if_old xs e set k is_new known h j added old = sym (known e k h j) ∙ not_false (bag.contains same_key set k) (sym added ∙ old)

pub missing_if_new : (xs : List Spanned) (e : Expression) (set : KeySet) (k : Vec ℕ Global) (is_new : Bool) → KnowsKeys xs set → k.items ≡ key e → is_compared e ≡ true → is_new ≡ not (bag.contains same_key set k)
    → is_new ≡ true → is_among xs e ≡ false
missing_if_new xs e set k is_new known h j added new = sym (known e k h j) ∙ not_true (bag.contains same_key set k) (sym added ∙ new)
