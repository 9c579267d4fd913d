-- Tables of tests do what the tests do.
use Rattle.std.proofs.Common.{◌≡◌, refl, sym, ◌∙◌, ap, subst, ℕ, zero, suc, ◌+◌, ◌*◌, ◌/◌, ◌%◌, ◌<◌, ◌≤◌, ◌==◌, List, [], ◌∷◌, Bool, true, false, ◌&&◌, ◌||◌, not, None, Some, arith, drop, get_or, length, nat_lt, if◌then◌else◌, eqb-true}
use Rattle.std.proofs.lemmas.Bool.{and_parts}
use Rattle.std.proofs.lemmas.List.{get_or-drop}
use Rattle.std.specs.List.{filter}
use Rattle.std.specs.Prelude.{max}
use Rattle.matcher_code.specs.Lists.{CodeLists, is_covered}
use Rattle.matcher_code.specs.declared.code.Op.{Op}
use Rattle.matcher_code.specs.declared.code.Op.TheVariants as op
use Rattle.matcher_code.specs.declared.fused.Fused.TheVariants as fused
use Rattle.matcher_code.specs.Fused.{IsFusedAt, by_entry}
use Rattle.matcher_code.specs.Reading.{char_len, entry, flag}
use Rattle.matcher_code.specs.Sets.{flag_of}
use Rattle.matcher_code.specs.Steps.{Config, apply_op, branch, jump, op_at, rest_of, step, steps}
use Rattle.matcher_code.proofs.Fusing.{byte_len, step_at}
use Rattle.front_code.proofs.ByteLemmas.{has_byte_sets, byte_set_at}

-- an operation that tests the next character, or notes a failure
pub data Kind : Op → Type 0 where
  tests : (set next fail : ℕ) → Kind (op.IsOne set next fail)
  notes : (next : ℕ) → Kind (op.Note next)
  other : (o : Op) → Kind o

unfoldable pub kind_of : (o : Op) → Kind o
kind_of (op.IsOne set next fail) = tests set next fail
kind_of (op.Note next) = notes next
kind_of o = other o

-- a list has a number; the numbers from one on
unfoldable pub has : ℕ → List ℕ → Bool
has k [] = false
has k (x ∷ xs) = x == k || has k xs

unfoldable pub counted : ℕ → ℕ → List ℕ
counted k zero = []
counted k (suc n) = k ∷ counted (suc k) n

has_counted : (n k i : ℕ) → i < n → has (k + i) (counted k n) ≡ true
unfolding has counted
has_counted zero k i l = absurd (omega (arith, l))
has_counted (suc n) k zero l = grind arith
has_counted (suc n) k (suc i) l =
    let z : suc k + i ≡ k + suc i = omega arith in
    let h : has (k + suc i) (counted (suc k) n) ≡ true = subst (λ j. has j (counted (suc k) n) ≡ true) z (has_counted n (suc k) i (omega (arith, l))) in
    grind (arith, h)

has_filtered : (test : ℕ → Bool) (k : ℕ) (ks : List ℕ) → has k ks ≡ true → test k ≡ true → has k (filter test ks) ≡ true
unfolding has
has_filtered test k [] h t = h
has_filtered test k (x ∷ xs) h t = here (λ z. has_filtered test k xs z t) (test x) refl (x == k) refl
  where
    here : (has k xs ≡ true → has k (filter test xs) ≡ true) → (a : Bool) → test x ≡ a → (b : Bool) → (x == k) ≡ b → has k (filter test (x ∷ xs)) ≡ true
    here rec true e true f = grind (arith, e, f)
    here rec true e false f = let r = rec (grind (arith, h, f)) in grind (arith, e, f, r)
    here rec false e true f = let z : x ≡ k = grind (arith, f) in absurd (grind (arith, e, t, z))
    here rec false e false f = let r = rec (grind (arith, h, f)) in grind (arith, e, r)

and_false : (y : Bool) → (y && false) ≡ false
and_false true = refl
and_false false = refl

-- the number of a failure that is noted or not
abbrev bit : Bool → ℕ
bit b = if b then 1 else 0

module _ (code : CodeLists) (os : List Op) (rs : List (List (ℕ × ℕ))) (ts : List ℕ) (ops : code.ops ≡ os) (byte_sets : has_byte_sets rs code.byte_sets ≡ true) (tables : code.tables ≡ ts) where
  -- a set has a byte of ASCII; 128 stands for the end
  abbrev in_set : ℕ → ℕ → Bool
  in_set set k = nat_lt k 128 && is_covered (get_or rs set []) k

  -- the entries of a table for some bytes are those of an operation
  unfoldable pub entries : Bool → ℕ → List ℕ → List ℕ → Bool
  entries noted p table [] = true
  entries noted p table (k ∷ ks) = get_or table k 0 == bit noted + p * 2 && entries noted p table ks

  -- so are they of the operations after the tests of those bytes, of at most a given number of tests
  unfoldable pub by_kind : {o : Op} → Kind o → (Bool → ℕ → List ℕ → Bool) → Bool → ℕ → List ℕ → List ℕ → Bool
  by_kind (tests set next fail) goes noted p table ks =
      nat_lt set (length rs) && (goes noted next (filter (in_set set) ks) && goes noted fail (filter (λ i. not (in_set set i)) ks))
  by_kind (notes next) goes noted p table ks = goes true next ks
  by_kind (other o) goes noted p table ks = entries noted p table ks

  unfoldable pub checks : ℕ → Bool → ℕ → List ℕ → List ℕ → Bool
  checks n noted p table [] = true
  checks zero noted p table (k ∷ ks) = entries noted p table (k ∷ ks)
  checks (suc n) noted p table (k ∷ ks) =
      by_kind (kind_of (get_or os p op.Lose)) (λ b q ls. checks n b q table ls) noted p table (k ∷ ks)

  abbrev all_bytes : List ℕ
  all_bytes = counted 0 129

  -- the table at a place has the entries of the tests from an operation on
  unfoldable pub has_entries : {o : Op} → Kind o → ℕ → Bool
  has_entries (tests set next fail) place =
      nat_lt (place + 128) (length ts)
      && by_kind (tests set next fail) (λ b q ls. checks 24 b q (drop place ts) ls) false 0 (drop place ts) all_bytes
  has_entries (notes next) place = false
  has_entries (other o) place = false

  -- the class of the next character
  abbrev IsHead : List ℕ → ℕ → Type 0
  IsHead [] k = k ≡ 128
  IsHead (b ∷ bs) k = (k ≡ b) × (b < 128)

  char_len_of : (set b : ℕ) (bs : List ℕ) → set < length rs → b < 128 → (x : Bool) → is_covered (get_or rs set []) b ≡ x → char_len code set (b ∷ bs) ≡ bit x
  char_len_of set b bs l m x q =
      let f : flag code set b ≡ flag_of (get_or rs set []) b = byte_set_at rs code.byte_sets byte_sets set l b (omega (arith, m)) in
      let z : nat_lt b 128 ≡ true = grind (arith, m) in
      byte_len code set b bs (bit x) (f ∙ (ap (λ y. if y then (if is_covered (get_or rs set []) b then 1 else 0) else 5) z ∙ ap bit q)) (small x)
    where
      small : (y : Bool) → bit y ≤ 1
      small true = omega arith
      small false = omega arith

  by_char : (set k : ℕ) → set < length rs → (rest : List ℕ) → IsHead rest k → (char_len code set rest == 0) ≡ not (in_set set k)
  by_char set k l [] h = subst (λ j. true ≡ not (in_set set j)) (sym h) refl
  by_char set k l (b ∷ bs) h = subst (λ j. (char_len code set (b ∷ bs) == 0) ≡ not (in_set set j)) (sym h.0) (here (is_covered (get_or rs set []) b) refl)
    where
      here : (x : Bool) → is_covered (get_or rs set []) b ≡ x → (char_len code set (b ∷ bs) == 0) ≡ not (in_set set b)
      here true q =
          let z : nat_lt b 128 ≡ true = grind (arith, h.1) in
          ap (λ n. n == 0) (char_len_of set b bs l h.1 true q)
          ∙ (ap (λ y. not (y && true)) (sym z) ∙ ap (λ y. not (nat_lt b 128 && y)) (sym q))
      here false q =
          ap (λ n. n == 0) (char_len_of set b bs l h.1 false q)
          ∙ (ap not (sym (and_false (nat_lt b 128))) ∙ ap (λ y. not (nat_lt b 128 && y)) (sym q))

  module _ (text : List ℕ) (c : Config) (k : ℕ) (head : IsHead (rest_of code text c) k) where
    -- the configuration after tests, which have noted a failure or not
    abbrev land : Bool → ℕ → Config
    land noted p = if noted then apply_op code text (op.Note p) c else jump p c

    abbrev Reaches : Bool → ℕ → List ℕ → Type 0
    Reaches noted p table = (m : ℕ) × (by_entry code text (Some (get_or table k 0)) c ≡ steps code text m (land noted p))

    turned : (b : Bool) (next fail : ℕ) → (if not b then fail else next) ≡ (if b then next else fail)
    turned true next fail = refl
    turned false next fail = refl

    tested_at : (p set next fail : ℕ) → op_at code [] p ≡ op.IsOne set next fail → set < length rs → (d : Config) → d.pc ≡ p → rest_of code text d ≡ rest_of code text c
        → step code text d ≡ jump (if in_set set k then next else fail) d
    tested_at p set next fail h l d e r =
        step_at code text p (op.IsOne set next fail) d e h
        ∙ (ap (λ rest. branch code text (char_len code set rest == 0) fail next d) r
        ∙ (ap (λ b. branch code text b fail next d) (by_char set k l (rest_of code text c) head)
        ∙ ap (λ q. jump q d) (turned (in_set set k) next fail)))

    lands : (p set next fail : ℕ) → op_at code [] p ≡ op.IsOne set next fail → set < length rs → (noted : Bool)
        → step code text (land noted p) ≡ land noted (if in_set set k then next else fail)
    lands p set next fail h l true = tested_at p set next fail h l (land true p) refl refl
    lands p set next fail h l false = tested_at p set next fail h l (land false p) refl refl

    twice : (a b : ℕ) → max (max a b) b ≡ max a b
    twice a b = omega arith

    noted_at : (p next : ℕ) → op_at code [] p ≡ op.Note next → (noted : Bool) → step code text (land noted p) ≡ land true next
    noted_at p next h true = step_at code text p (op.Note next) (land true p) refl h ∙ ap (λ m. record c { pc = next; furthest = m }) (twice c.furthest c.at)
    noted_at p next h false = step_at code text p (op.Note next) (land false p) refl h

    entered : (noted : Bool) (p : ℕ) (table ks : List ℕ) → entries noted p table ks ≡ true → has k ks ≡ true → get_or table k 0 ≡ bit noted + p * 2
    unfolding entries has
    entered noted p table [] e h = absurd (cc)
    entered noted p table (i ∷ ks) e h = here (λ f z. entered noted p table ks f z) (i == k) refl
      where
        both : ((get_or table i 0 == bit noted + p * 2) ≡ true) × (entries noted p table ks ≡ true)
        both = and_parts (get_or table i 0 == bit noted + p * 2) (entries noted p table ks) e

        here : (entries noted p table ks ≡ true → has k ks ≡ true → get_or table k 0 ≡ bit noted + p * 2) → (b : Bool) → (i == k) ≡ b → get_or table k 0 ≡ bit noted + p * 2
        here rec true q = ap (λ j. get_or table j 0) (sym (eqb-true i k q)) ∙ eqb-true (get_or table i 0) (bit noted + p * 2) both.0
        here rec false q = rec both.1 (grind (arith, h, q))

    ends : (noted : Bool) (p : ℕ) → by_entry code text (Some (bit noted + p * 2)) c ≡ land noted p
    ends true p =
        let z : (1 + p * 2) % 2 ≡ 1 = omega arith in
        let y : (1 + p * 2) / 2 ≡ p = omega arith in
        ap (λ n. if n == 1 then apply_op code text (op.Note ((1 + p * 2) / 2)) c else jump ((1 + p * 2) / 2) c) z ∙ ap (λ q. apply_op code text (op.Note q) c) y
    ends false p =
        let z : (0 + p * 2) % 2 ≡ 0 = omega arith in
        let y : (0 + p * 2) / 2 ≡ p = omega arith in
        ap (λ n. if n == 1 then apply_op code text (op.Note ((0 + p * 2) / 2)) c else jump ((0 + p * 2) / 2) c) z ∙ ap (λ q. jump q c) y

    ended : (noted : Bool) (p : ℕ) (table ks : List ℕ) → entries noted p table ks ≡ true → has k ks ≡ true → Reaches noted p table
    ended noted p table ks e h = (0, ap (λ n. by_entry code text (Some n) c) (entered noted p table ks e h) ∙ ends noted p)

    -- the tests of a table go on so from an operation that tests
    after_test : (set next fail : ℕ) (goes : Bool → ℕ → List ℕ → Bool) (noted : Bool) (p : ℕ) (table ks : List ℕ)
        → ((b : Bool) (q : ℕ) (ls : List ℕ) → goes b q ls ≡ true → has k ls ≡ true → Reaches b q table)
        → op_at code [] p ≡ op.IsOne set next fail → by_kind (tests set next fail) goes noted p table ks ≡ true → has k ks ≡ true
        → (m : ℕ) × (by_entry code text (Some (get_or table k 0)) c ≡ steps code text (suc m) (land noted p))
    unfolding by_kind
    after_test set next fail goes noted p table ks rec h e m = here (in_set set k) refl
      where
        first : (nat_lt set (length rs) ≡ true) × ((goes noted next (filter (in_set set) ks) && goes noted fail (filter (λ i. not (in_set set i)) ks)) ≡ true)
        first = and_parts (nat_lt set (length rs)) (goes noted next (filter (in_set set) ks) && goes noted fail (filter (λ i. not (in_set set i)) ks)) e

        second : (goes noted next (filter (in_set set) ks) ≡ true) × (goes noted fail (filter (λ i. not (in_set set i)) ks) ≡ true)
        second = and_parts (goes noted next (filter (in_set set) ks)) (goes noted fail (filter (λ i. not (in_set set i)) ks)) first.1

        less : set < length rs
        less = grind (arith, first.0)

        lander : (b : Bool) → in_set set k ≡ b → step code text (land noted p) ≡ land noted (if b then next else fail)
        lander b q = lands p set next fail h less noted ∙ ap (λ x. land noted (if x then next else fail)) q

        on : (q : ℕ) → step code text (land noted p) ≡ land noted q → Reaches noted q table
            → (n : ℕ) × (by_entry code text (Some (get_or table k 0)) c ≡ steps code text (suc n) (land noted p))
        on q z r = (r.0, r.1 ∙ ap (steps code text r.0) (sym z))

        here : (b : Bool) → in_set set k ≡ b
            → (n : ℕ) × (by_entry code text (Some (get_or table k 0)) c ≡ steps code text (suc n) (land noted p))
        here true q = on next (lander true q) (rec noted next (filter (in_set set) ks) second.0 (has_filtered (in_set set) k ks m q))
        here false q =
            on fail (lander false q) (rec noted fail (filter (λ i. not (in_set set i)) ks) second.1 (has_filtered (λ i. not (in_set set i)) k ks m (ap not q)))

    by_kinds : {o : Op} (d : Kind o) (goes : Bool → ℕ → List ℕ → Bool) (noted : Bool) (p : ℕ) (table ks : List ℕ)
        → ((b : Bool) (q : ℕ) (ls : List ℕ) → goes b q ls ≡ true → has k ls ≡ true → Reaches b q table)
        → op_at code [] p ≡ o → by_kind d goes noted p table ks ≡ true → has k ks ≡ true → Reaches noted p table
    unfolding by_kind
    by_kinds (tests set next fail) goes noted p table ks rec h e m =
        let r = after_test set next fail goes noted p table ks rec h e m in (suc r.0, r.1)
    by_kinds (notes next) goes noted p table ks rec h e m =
        let r = rec true next ks e m in (suc r.0, r.1 ∙ ap (steps code text r.0) (sym (noted_at p next h noted)))
    by_kinds (other o) goes noted p table ks rec h e m = ended noted p table ks e m

    sound : (n : ℕ) (noted : Bool) (p : ℕ) (table ks : List ℕ) → checks n noted p table ks ≡ true → has k ks ≡ true → Reaches noted p table
    unfolding checks has
    sound n noted p table [] e h = absurd (cc)
    sound zero noted p table (i ∷ ks) e h = ended noted p table (i ∷ ks) e h
    sound (suc n) noted p table (i ∷ ks) e h =
        by_kinds (kind_of (get_or os p op.Lose)) (λ b q ls. checks n b q table ls) noted p table (i ∷ ks) (λ b q ls f m. sound n b q table ls f m)
        (ap (λ l. get_or l p op.Lose) ops) e h

  pub are_tests : (pc place : ℕ) {o : Op} (d : Kind o) → op_at code [] pc ≡ o → has_entries d place ≡ true → IsFusedAt code pc (fused.Tests place)
  unfolding has_entries by_kind
  are_tests pc place (notes next) h e = absurd (cc)
  are_tests pc place (other o) h e = absurd (cc)
  are_tests pc place (tests set next fail) h e = record {
    can = let z : place + 128 < length ts = grind (arith, both.0) in let y = ap length tables in omega (arith, z, y);
    same = λ text c q. by_rest text c q (rest_of code text c) refl;
  }
    where
      table : List ℕ
      table = drop place ts

      goes : Bool → ℕ → List ℕ → Bool
      goes = λ b q ls. checks 24 b q (drop place ts) ls

      both : (nat_lt (place + 128) (length ts) ≡ true) × (by_kind (tests set next fail) (λ b q ls. checks 24 b q (drop place ts) ls) false 0 (drop place ts) all_bytes ≡ true)
      both = and_parts (nat_lt (place + 128) (length ts)) (by_kind (tests set next fail) (λ b q ls. checks 24 b q (drop place ts) ls) false 0 (drop place ts) all_bytes) e

      in_table : (k : ℕ) → get_or code.tables (place + k) 0 ≡ get_or (drop place ts) k 0
      in_table k = ap (λ l. get_or l (place + k) 0) tables ∙ sym (get_or-drop place ts k 0)

      run : (text : List ℕ) (c : Config) → c.pc ≡ pc → (k : ℕ) → IsHead (rest_of code text c) k → k < 129
          → (n : ℕ) × (by_entry code text (Some (get_or code.tables (place + k) 0)) c ≡ steps code text (suc n) c)
      run text c q k head l =
          let here : has k all_bytes ≡ true = subst (λ j. has j (counted 0 129) ≡ true) (let z : 0 + k ≡ k = omega arith in z) (has_counted 129 0 k l) in
          let r = after_test text c k head set next fail (λ b x ls. checks 24 b x (drop place ts) ls) false pc (drop place ts) all_bytes
          (λ b x ls f m. sound text c k head 24 b x (drop place ts) ls f m) h both.1 here in
          (r.0, ap (λ n. by_entry code text (Some n) c) (in_table k) ∙ (r.1 ∙ ap (λ x. steps code text (suc r.0) (record c { pc = x })) (sym q)))

      by_rest : (text : List ℕ) (c : Config) → c.pc ≡ pc → (rest : List ℕ) → rest_of code text c ≡ rest
          → (n : ℕ) × (by_entry code text (entry code place (rest_of code text c)) c ≡ steps code text (suc n) c)
      by_rest text c q [] w =
          let r = run text c q 128 (subst (λ (rest : List ℕ). IsHead rest 128) (sym w) refl) (omega arith) in
          (r.0, ap (λ rest. by_entry code text (entry code place rest) c) w ∙ r.1)
      by_rest text c q (b ∷ bs) w = here (nat_lt b 128) refl
        where
          here : (x : Bool) → nat_lt b 128 ≡ x → (n : ℕ) × (by_entry code text (entry code place (rest_of code text c)) c ≡ steps code text (suc n) c)
          here true z =
              let l : b < 128 = grind (arith, z) in
              let r = run text c q b (subst (λ (rest : List ℕ). IsHead rest b) (sym w) (refl, l)) (omega (arith, l)) in
              (r.0, ap (λ rest. by_entry code text (entry code place rest) c) w ∙ (ap (λ y. by_entry code text (if y then Some (get_or code.tables (place + b) 0) else None) c) z ∙ r.1))
          here false z =
              (0, ap (λ rest. by_entry code text (entry code place rest) c) w ∙ ap (λ y. by_entry code text (if y then Some (get_or code.tables (place + b) 0) else None) c) z)
