-- Why bytes are refused.
use Rattle.std.proofs.Common.{◌≡◌, sym, ◌∙◌, ap, ap₂, subst, ℕ, zero, suc, ◌<◌, ◌≤◌, ◌^◌, ◌==◌, false, List, [], ◌∷◌, ◌++◌, All, Result, Ok, Err, IfErr, String, Global, append-nil, append_assoc, arith, drop, flat_map, length, length-append, string_bytes, take}
use Rattle.std.proofs.Math.Seq.{take-append_seam}
use Rattle.std.proofs.lemmas.List.Elements.{All-append}
use Rattle.std.proofs.Math.ListN.{drop_of_length-le}
use Rattle.std.proofs.lemmas.Str.{IsUtf8-string_bytes}
use Rattle.std.specs.Prelude.{IsErrAnd}
use Rattle.std.specs.Str.{IsUtf8}
use Rattle.base_ast.specs.declared.ast.RuleType.{RuleType}
use Rattle.base_ast.specs.declared.ast.RuleType.TheVariants.{Normal, Silent, Atomic, CompoundAtomic, NonAtomic}
use Rattle.base_ast.specs.declared.optimized.OptimizedExpr.{OptimizedExpr}
use Rattle.base_ast.specs.declared.optimized.OptimizedRule.{OptimizedRule}
use Rattle.format_binary.specs.Format.{list_bytes, optimized_expression_bytes, optimized_rules_bytes, size_bytes, text_bytes, type_byte}
use Rattle.format_binary.specs.Indices.{HasIndices}
use Rattle.format_binary.specs.Fronts.{AreOfNoRules, BeginsWithExpression, BeginsWithRule, BeginsWithText, BeginsWithTexts, BeginsWithType, Rules, Texts, item_bytes, rule_item}
use Rattle.format_binary.specs.declared.input.BinaryRefusal.{BinaryRefusal}
use Rattle.format_binary.specs.declared.input.BinaryRefusal.TheVariants.{Form}
use Rattle.format_binary.proofs.Decoding.{after_text, size_back, size_in, size_long, size_tail, text_tail}

pub head_is : {b c : ℕ} {xs ys : List ℕ} → b ∷ xs ≡ c ∷ ys → c ≡ b
head_is e = cc

pub tail_is : {b c : ℕ} {xs ys : List ℕ} → b ∷ xs ≡ c ∷ ys → xs ≡ ys
tail_is e = cc

-- a refusal shows what holds of the bytes, whatever the reason
pub no_err : {T P : Type 0} (r : Result T BinaryRefusal) → P → IfErr r (λ why. why ≡ Form → P)
no_err (Ok v) h = tt
no_err (Err why) h = λ e. h

pub never_err : {T P : Type 0} (r : Result T BinaryRefusal) → P → IfErr r (λ why. P)
never_err (Ok v) h = tt
never_err (Err why) h = h

-- the reason is that of a part
pub same_err : {T P : Type 0} (r : Result T BinaryRefusal) (was : BinaryRefusal) → IsErrAnd r (λ why. why ≡ was) → (was ≡ Form → P) → IfErr r (λ why. why ≡ Form → P)
same_err (Ok v) was i h = tt
same_err (Err why) was i h = λ e. h (sym i ∙ e)

-- a text in memory has a size
pub small_text : (s : String Global) → length (string_bytes s) < 2 ^ 64
small_text s = omega (arith, s.bytes.ok, s.bytes.small)

pub size_short : (old : List ℕ) → length old < 8 → BeginsWithText old → ⊥
size_short old short b =
    let s = string_bytes b.value in
    let whole = ap length b.same in
    let parts = length-append (text_bytes s) b.rest in
    let part = length-append (size_bytes (length s)) s in
    let eight = size_long (length s) in
    omega (arith, short, whole, parts, part, eight)

-- the bytes behind a size are those of the text, and what is behind it
text_behind : (old new : List ℕ) (n : ℕ) (s t : List ℕ) → n < 2 ^ 64 → length s < 2 ^ 64 → old ≡ size_bytes n ++ new → old ≡ text_bytes s ++ t → (n ≡ length s) × (new ≡ s ++ t)
text_behind old new n s t small less e f =
    let g : size_bytes n ++ new ≡ size_bytes (length s) ++ (s ++ t) = sym e ∙ (f ∙ append_assoc (size_bytes (length s)) s t) in
    (sym (size_back n new small) ∙ (ap size_in g ∙ size_back (length s) (s ++ t) less), sym (size_tail n new) ∙ (ap (drop 8) g ∙ size_tail (length s) (s ++ t)))

-- bytes that end within a text
pub text_cut : (old new : List ℕ) (n : ℕ) → n < 2 ^ 64 → old ≡ size_bytes n ++ new → length new < n → BeginsWithText old → ⊥
text_cut old new n small e cut b =
    let s = string_bytes b.value in
    let p = text_behind old new n s b.rest small (small_text b.value) e b.same in
    let q = ap length p.1 in
    let parts = length-append s b.rest in
    omega (arith, cut, p.0, q, parts)

-- bytes that are no text
pub text_wrong : (old new bytes rest : List ℕ) (n : ℕ) → n < 2 ^ 64 → old ≡ size_bytes n ++ new → new ≡ bytes ++ rest → length bytes ≡ n → (IsUtf8 bytes → ⊥) → BeginsWithText old → ⊥
text_wrong old new bytes rest n small e f long wrong b =
    let s = string_bytes b.value in
    let p = text_behind old new n s b.rest small (small_text b.value) e b.same in
    let front : bytes ≡ s = sym (take-append_seam bytes rest) ∙ (ap₂ take (long ∙ p.0) (sym f ∙ p.1) ∙ take-append_seam s b.rest) in
    wrong (subst IsUtf8 (sym front) (IsUtf8-string_bytes b.value))

-- a text at the front is no other
pub text_ends : (old new t : List ℕ) (s u : String Global) → old ≡ text_bytes (string_bytes s) ++ new → old ≡ text_bytes (string_bytes u) ++ t → new ≡ t
text_ends old new t s u e f = sym (text_tail (string_bytes s) new (small_text s)) ∙ (ap after_text (sym e ∙ f) ∙ text_tail (string_bytes u) t (small_text u))

-- lists of items
module _ {A : Type 0} (item : A → List ℕ) where
  pub list_short : (old : List ℕ) → length old < 8 → (xs : List A) (t : List ℕ) → old ≡ list_bytes item xs ++ t → ⊥
  list_short old short xs t e =
      let whole = ap length e in
      let parts = length-append (list_bytes item xs) t in
      let part = length-append (size_bytes (length xs)) (flat_map item xs) in
      let eight = size_long (length xs) in
      omega (arith, short, whole, parts, part, eight)

  -- the bytes behind a count are those of a given number of items, and what is behind them
  pub list_behind : (old new : List ℕ) (n : ℕ) → n < 2 ^ 64 → old ≡ size_bytes n ++ new → (xs : List A) (t : List ℕ) → length xs < 2 ^ 64 → old ≡ list_bytes item xs ++ t
      → (length xs ≡ n) × (new ≡ flat_map item xs ++ t)
  list_behind old new n small e xs t less f =
      let m = length xs in
      let g : size_bytes n ++ new ≡ size_bytes m ++ (flat_map item xs ++ t) = sym e ∙ (f ∙ append_assoc (size_bytes m) (flat_map item xs) t) in
      (sym (size_back m (flat_map item xs ++ t) less) ∙ (ap size_in (sym g) ∙ size_back n new small), sym (size_tail n new) ∙ (ap (drop 8) g ∙ size_tail m (flat_map item xs ++ t)))

  -- if some items are left, one stands at the front
  pub one_left : (xs : List A) (k : ℕ) (rest t : List ℕ) → k < length xs → rest ≡ flat_map item (drop k xs) ++ t
      → (x : A) × (rest ≡ item x ++ (flat_map item (drop (suc k) xs) ++ t))
  one_left [] k rest t l e = absurd (omega (arith, l))
  one_left (x ∷ xs) zero rest t l e = (x, e ∙ append_assoc (item x) (flat_map item xs) t)
  one_left (x ∷ xs) (suc k) rest t l e = one_left xs k rest t (omega (arith, l)) e

  -- the others are left once one was read
  pub left_behind : (xs : List A) (k : ℕ) (rest new t : List ℕ) → k < length xs → rest ≡ flat_map item (drop k xs) ++ t → ((x : A) (u : List ℕ) → rest ≡ item x ++ u → new ≡ u)
      → new ≡ flat_map item (drop (suc k) xs) ++ t
  left_behind xs k rest new t l e ends = let q = one_left xs k rest t l e in ends q.0 (flat_map item (drop (suc k) xs) ++ t) q.1

  -- no item is left
  pub none_left : (xs : List A) (k : ℕ) (rest t : List ℕ) → length xs ≤ k → rest ≡ flat_map item (drop k xs) ++ t → rest ≡ t
  none_left xs k rest t l e = e ∙ ap (λ ys. flat_map item ys ++ t) (drop_of_length-le xs l)

-- lists of texts
pub texts_short : (old : List ℕ) → length old < 8 → BeginsWithTexts old → ⊥
texts_short old short b = list_short item_bytes old short b.value.items b.rest b.same

pub texts_behind : (old new : List ℕ) (n : ℕ) → n < 2 ^ 64 → old ≡ size_bytes n ++ new → (ss : Texts) (t : List ℕ) → old ≡ list_bytes item_bytes ss.items ++ t
    → (length ss.items ≡ n) × (new ≡ flat_map item_bytes ss.items ++ t)
texts_behind old new n small e ss t f = list_behind item_bytes old new n small e ss.items t (omega (arith, ss.ok, ss.small)) f

-- bytes of a given number of texts, of which one cannot be read
pub text_left_wrong : {W : Type 0} (old rest : List ℕ) (n k : ℕ) → k < n → ((ss : Texts) (t : List ℕ) → old ≡ list_bytes item_bytes ss.items ++ t → (length ss.items ≡ n) × (rest ≡ flat_map item_bytes (drop k ss.items) ++ t))
    → (W → BeginsWithText rest → ⊥) → W → BeginsWithTexts old → ⊥
text_left_wrong old rest n k l left wrong w b =
    let p = left b.value b.rest b.same in
    let q = one_left item_bytes b.value.items k rest b.rest (omega (arith, l, p.0)) p.1 in
    wrong w (record { value = q.0; rest = flat_map item_bytes (drop (suc k) b.value.items) ++ b.rest; same = q.1 })

-- the same of rules
pub rules_short : (old : List ℕ) → length old < 8 → AreOfNoRules old
rules_short old short rs e = list_short rule_item old short rs.items [] (e ∙ sym (append-nil (list_bytes rule_item rs.items)))

pub rules_behind : (old new : List ℕ) (n : ℕ) → n < 2 ^ 64 → old ≡ size_bytes n ++ new → (rs : Rules) → old ≡ optimized_rules_bytes rs.items → (length rs.items ≡ n) × (new ≡ flat_map rule_item rs.items ++ [])
rules_behind old new n small e rs f = list_behind rule_item old new n small e rs.items [] (omega (arith, rs.ok, rs.small)) (f ∙ sym (append-nil (list_bytes rule_item rs.items)))

abbrev pub RulesLeft : List ℕ → List ℕ → ℕ → ℕ → Type 0
RulesLeft old rest n k = (rs : Rules) → old ≡ optimized_rules_bytes rs.items → (length rs.items ≡ n) × (rest ≡ flat_map rule_item (drop k rs.items) ++ [])

pub rule_left_wrong : {W : Type 0} (old rest : List ℕ) (n k : ℕ) → k < n → RulesLeft old rest n k → (W → BeginsWithRule rest → ⊥) → W → AreOfNoRules old
rule_left_wrong old rest n k l left wrong w rs e =
    let p = left rs e in
    let q = one_left rule_item rs.items k rest [] (omega (arith, l, p.0)) p.1 in
    wrong w (record { value = q.0; rest = flat_map rule_item (drop (suc k) rs.items) ++ []; same = q.1 })

pub more_left : (old rest : List ℕ) (n k : ℕ) → n ≤ k → RulesLeft old rest n k → (rest ≡ [] → ⊥) → AreOfNoRules old
more_left old rest n k l left more rs e = let p = left rs e in more (none_left rule_item rs.items k rest [] (omega (arith, l, p.0)) p.1)

one_within : (r : OptimizedRule) → HasIndices r.expr → All (λ q. HasIndices q.expr) (r ∷ [])
one_within r i zero d l = i
one_within r i (suc k) d l = absurd (omega (arith, l))

-- indices fit in one rule more
pub indices_more : (rs new : List OptimizedRule) (r : OptimizedRule) → new ≡ rs ++ r ∷ [] → All (λ q. HasIndices q.expr) rs → HasIndices r.expr → All (λ q. HasIndices q.expr) new
indices_more rs new r e h i = subst (All (λ q. HasIndices q.expr)) (sym e) (All-append (λ q. HasIndices q.expr) rs (r ∷ []) h (one_within r i))

pub not_empty : (xs : List ℕ) → (length xs == 0) ≡ false → xs ≡ [] → ⊥
not_empty [] h e = cc
not_empty (x ∷ xs) h e = cc

-- the parts of a rule
module _ (old mid : List ℕ) (s : String Global) (e : old ≡ text_bytes (string_bytes s) ++ mid) where
  type_at : (r : OptimizedRule) (rest : List ℕ) → old ≡ rule_item r ++ rest → mid ≡ type_byte r.ty ∷ (optimized_expression_bytes r.expr ++ rest)
  type_at r rest f = text_ends old mid (type_byte r.ty ∷ (optimized_expression_bytes r.expr ++ rest)) s r.name e (f ∙ append_assoc (item_bytes r.name) (type_byte r.ty ∷ optimized_expression_bytes r.expr) rest)

  pub type_front : BeginsWithRule old → BeginsWithType mid
  type_front b = record { value = b.value.ty; rest = optimized_expression_bytes b.value.expr ++ b.rest; same = type_at b.value b.rest b.same }

  module _ (ty : RuleType) (behind : List ℕ) (f : mid ≡ type_byte ty ∷ behind) where
    body_at : (r : OptimizedRule) (rest : List ℕ) → old ≡ rule_item r ++ rest → behind ≡ optimized_expression_bytes r.expr ++ rest
    body_at r rest g = tail_is (sym f ∙ type_at r rest g)

    pub body_front : BeginsWithRule old → BeginsWithExpression behind
    body_front b = record { value = b.value.expr; rest = b.rest; same = body_at b.value b.rest b.same }

    pub rule_end : (new : List ℕ) → ((x : OptimizedExpr) (rest : List ℕ) → behind ≡ optimized_expression_bytes x ++ rest → new ≡ rest) → (r : OptimizedRule) (rest : List ℕ) → old ≡ rule_item r ++ rest → new ≡ rest
    rule_end new ends r rest g = ends r.expr rest (body_at r rest g)

pub name_front : (old : List ℕ) → BeginsWithRule old → BeginsWithText old
name_front old b = record { value = b.value.name; rest = type_byte b.value.ty ∷ (optimized_expression_bytes b.value.expr ++ b.rest); same = b.same ∙ append_assoc (item_bytes b.value.name) (type_byte b.value.ty ∷ optimized_expression_bytes b.value.expr) b.rest }

-- types
pub no_type : (old : List ℕ) → old ≡ [] → BeginsWithType old → ⊥
no_type old e b = (let h : ◌≡◌ {A = List ℕ} [] (type_byte b.value ∷ b.rest) = sym e ∙ b.same in cc)

type_small : (ty : RuleType) → type_byte ty < 5
type_small Normal = omega arith
type_small Silent = omega arith
type_small Atomic = omega arith
type_small CompoundAtomic = omega arith
type_small NonAtomic = omega arith

pub type_unknown : (old mid : List ℕ) (b : ℕ) → old ≡ b ∷ mid → 5 ≤ b → BeginsWithType old → ⊥
type_unknown old mid b e l f =
    let h : type_byte f.value ≡ b = head_is (sym e ∙ f.same) in
    let k = type_small f.value in
    omega (arith, l, h, k)
