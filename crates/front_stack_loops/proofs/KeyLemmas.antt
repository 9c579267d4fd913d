-- A key tells the node and the stack.
use Rattle.std.proofs.Common.{◌≡◌, ℕ, ◌+◌, ◌*◌, ◌<◌, ◌≤◌, Bool, true, false, refl, sym, ◌∙◌, ap, arith, Some, cond, nat_eq, eqb-true}
use Rattle.std.specs.HashMap.{HashMap, get}
use Rattle.std.specs.declared.hash.FoldHasher.{FoldHasher}
use Rattle.std.specs.declared.hash.BuildHasherDefault.{BuildHasherDefault}
use Rattle.front_stack_domain.specs.Stack.{AbstractStack}
use Rattle.front_stack_domain.specs.Reading as says
use Rattle.front_stack_domain.specs.Marks.{room, marks_of}
use Rattle.front_stack_loops.specs.Keys.{base_number, bit, key_of}
use Rattle.front_stack_domain.specs.Views.{base_of, stack_of, reading_of}
use Rattle.front_stack_domain.specs.declared.stack.Base as code_base
use Rattle.front_stack_domain.specs.declared.stack.Base.TheVariants as base
use Rattle.front_stack_domain.specs.declared.stack.Stack.{Stack}
use Rattle.front_stack_domain.specs.declared.reading.Reading.{Reading}
use Rattle.front_stack_domain.proofs.MarkLemmas.{room_grows}

base_small : (b : code_base.Base) → base_number b < 3
base_small base.Empty = omega arith
base_small base.Blank = omega arith
base_small base.Any = omega arith

bit_small : (b : Bool) → bit b < 2
bit_small true = omega arith
bit_small false = omega arith

same_base : (b c : code_base.Base) → base_number b ≡ base_number c → base_of b ≡ base_of c
same_base base.Empty base.Empty e = refl
same_base base.Blank base.Blank e = refl
same_base base.Any base.Any e = refl
same_base base.Empty base.Blank e = absurd (omega arith)
same_base base.Empty base.Any e = absurd (omega arith)
same_base base.Blank base.Empty e = absurd (omega arith)
same_base base.Blank base.Any e = absurd (omega arith)
same_base base.Any base.Empty e = absurd (omega arith)
same_base base.Any base.Blank e = absurd (omega arith)

same_bit : (b c : Bool) → bit b ≡ bit c → b ≡ c
same_bit true true e = refl
same_bit false false e = refl
same_bit true false e = absurd (omega arith)
same_bit false true e = absurd (omega arith)

-- the parts of a number whose digits are small
parts : (n m b c k l u v i j : ℕ) → b < 3 → c < 3 → k < 16 → l < 16 → u < 256 → v < 256 → i < 2 → j < 2
    → n * 32768 + (b * 8192 + (k * 512 + (u * 2 + i))) ≡ m * 32768 + (c * 8192 + (l * 512 + (v * 2 + j)))
    → (n ≡ m) × (b ≡ c) × (k ≡ l) × (u ≡ v) × (i ≡ j)
parts n m b c k l u v i j hb hc hk hl hu hv hi hj e =
    let i1 : i ≡ j = omega arith in
    let u1 : u ≡ v = omega arith in
    let k1 : k ≡ l = omega arith in
    let b1 : b ≡ c = omega arith in
    (omega arith, b1, k1, u1, i1)

pub same_key : (n m : ℕ) (s t : Stack) → key_of n s ≡ key_of m t → (n ≡ m) × (stack_of s ≡ stack_of t)
same_key n m s t e =
    let f = room_grows s.count 8 s.few in
    let g = room_grows t.count 8 t.few in
    let few : s.count ≤ 8 = s.few in
    let few' : t.count ≤ 8 = t.few in
    let small : s.marks < room s.count = s.small in
    let small' : t.marks < room t.count = t.small in
    let p = parts n m (base_number s.base) (base_number t.base) s.count t.count s.marks t.marks (bit s.intact) (bit t.intact)
    (base_small s.base) (base_small t.base) (omega arith) (omega arith) (omega arith) (omega arith) (bit_small s.intact) (bit_small t.intact) e in
    let b = same_base s.base t.base p.1 in
    let i = same_bit s.intact t.intact p.4 in
    let ms : marks_of s.count s.marks ≡ marks_of t.count t.marks = ap (λ k. marks_of k s.marks) p.2 ∙ ap (λ v. marks_of t.count v) p.3 in
    (p.0, λ x. record { base = b x; marks = ms x; intact = i x })

-- one more reading is remembered
pub remembered : (old new : HashMap ℕ Reading (BuildHasherDefault FoldHasher)) (meaning : ℕ → AbstractStack → says.Reading) (key node : ℕ) (s : Stack) (r : Reading)
    → key ≡ key_of node s
    → ((k : ℕ) → get nat_eq new k ≡ cond (nat_eq key k) (Some r) (get nat_eq old k))
    → ((k : ℕ) (q : Reading) → get nat_eq old k ≡ Some q → (n : ℕ) (t : Stack) → key_of n t ≡ k → reading_of q ≡ meaning n (stack_of t))
    → reading_of r ≡ meaning node (stack_of s)
    → (k : ℕ) (q : Reading) → get nat_eq new k ≡ Some q → (n : ℕ) (t : Stack) → key_of n t ≡ k → reading_of q ≡ meaning n (stack_of t)
remembered old new meaning key node s r is u h e k q g n t j = go (nat_eq key k) refl (sym (u k) ∙ g)
  where
    taken : Some r ≡ Some q → r ≡ q
    taken i = cc

    go : (b : Bool) → nat_eq key k ≡ b → cond b (Some r) (get nat_eq old k) ≡ Some q → reading_of q ≡ meaning n (stack_of t)
    go true x i =
        let same = same_key node n s t (sym is ∙ (eqb-true key k x ∙ sym j)) in
        sym (ap reading_of (taken i)) ∙ (e ∙ (ap (λ m. meaning m (stack_of s)) same.0 ∙ ap (meaning n) same.1))
    go false x i = h k q i n t j
