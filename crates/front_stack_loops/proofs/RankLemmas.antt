-- Ranks of nodes, and rules that reach themselves.
use Rattle.std.proofs.Common.{◌≡◌, ◌↔◌, ℕ, zero, suc, ◌+◌, ◌<◌, ◌≤◌, ◌⊎◌, inl, inr, List, [], ◌∷◌, ◌++◌, Option, Some, None, Bool, true, false, slice_get, length, unwrap_or, replicate, refl, sym, ◌∙◌, ap, subst, arith}
use Rattle.std.proofs.lemmas.Option.{slice_get_within, slice_get_past}
use Rattle.base_graphs.specs.Least.{is_set_at}
use Rattle.base_graphs.proofs.FlagLists.{set_before, set_last}
use Rattle.front_stack_loops.specs.Leading.{IsOperandOf, LeadsToCall, to_call, by_body, by_operand, LeadsBack, rank_in, PartsFall, BodyFalls, CallFalls, AreRanked, AreCalls, AreRaised, bit}
use Rattle.front_stack_loops.specs.Table.{called_by, parts_of}
use Rattle.front_stack_loops.specs.declared.table.PassNode.{PassNode}
use Rattle.front_stack_loops.specs.declared.table.Parts.{Parts}
use Rattle.front_stack_loops.specs.declared.table.Parts.TheVariants as parts
use Rattle.front_stack_loops.specs.declared.table.NodeKind.TheVariants as is
use Rattle.front_stack_loops.proofs.LeadingLemmas.{call_kind}

pub operand_falls : (ranks : List ℕ) (i : ℕ) (ps : Parts) → PartsFall ranks i ps → (j : ℕ) → IsOperandOf j ps → rank_in ranks j ≤ rank_in ranks i
operand_falls ranks i parts.Nothing h j o = absurd o
operand_falls ranks i (parts.Inside k required optional endless) h j o = subst (λ m. rank_in ranks m ≤ rank_in ranks i) (sym o) h
operand_falls ranks i (parts.Both k l choice) h j (inl o) = subst (λ m. rank_in ranks m ≤ rank_in ranks i) (sym o) h.0
operand_falls ranks i (parts.Both k l choice) h j (inr o) = subst (λ m. rank_in ranks m ≤ rank_in ranks i) (sym o) h.1

off_or_on : (b : Bool) → (b ≡ true) ⊎ (b ≡ false)
off_or_on true = inl refl
off_or_on false = inr refl

module _ (ns : List PassNode) (roots : List ℕ) (recursive : List Bool) (ranks : List ℕ) (ranked : AreRanked ns roots recursive ranks) where
  pub body_falls : (i : ℕ) (n : PassNode) (r j : ℕ) → slice_get ns i ≡ Some n → n.kind ≡ is.Call r → slice_get roots r ≡ Some j → BodyFalls roots recursive ranks i r j
  body_falls i n r j at k root = subst (CallFalls roots recursive ranks i) (ap called_by k) (ranked i n at).call j root

  -- where calls of a rule are followed, its body has a lower rank than what leads to it
  falls : {i r : ℕ} → LeadsToCall ns roots i r → is_set_at recursive r ≡ false → (j : ℕ) → slice_get roots r ≡ Some j → rank_in ranks j < rank_in ranks i
  falls (to_call {i = i} {r = r} {n = n} at k) off j root = (body_falls i n r j at k root).below off
  falls (by_body {i = i} {j = m} {r = q} {n = n} at k body l) off j root =
      let a = (body_falls i n q m at k body).never_above in
      let b = falls l off j root in omega arith
  falls (by_operand {i = i} {j = m} {n = n} at o l) off j root =
      let a = operand_falls ranks i (parts_of n.kind) (ranked i n at).operands m o in
      let b = falls l off j root in omega arith

  -- flags that are right where they are set are right everywhere
  pub all_exact : ((r : ℕ) → slice_get recursive r ≡ Some true → LeadsBack ns roots r) → AreCalls ns roots recursive ranks
  all_exact f = record {
    exact = λ r. ((λ h. f r (set_got (slice_get recursive r) h)), (λ h. elim (off_or_on (is_set_at recursive r)) [ inl e ↦ e | inr e ↦ absurd (no_back r e h) ]));
    ranked = ranked;
  }
    where
      set_got : (o : Option Bool) → unwrap_or o false ≡ true → o ≡ Some true
      set_got None h = cc
      set_got (Some b) h = ap (λ c. Some c) h

      no_back : (r : ℕ) → is_set_at recursive r ≡ false → LeadsBack ns roots r → ⊥
      no_back r off (j, root, l) = let a = falls l off j root in omega arith

pub less_or_not : (m n : ℕ) → (m < n) ⊎ (n ≤ m)
less_or_not m zero = inr (omega arith)
less_or_not zero (suc n) = inl (omega arith)
less_or_not (suc m) (suc n) = elim (less_or_not m n) [ inl a ↦ inl (omega arith) | inr b ↦ inr (omega arith) ]

-- whatever rule one node leads to, the other one leads to
abbrev Below : List PassNode → List ℕ → ℕ → ℕ → Type 0
Below ns roots j i = (s : ℕ) → LeadsToCall ns roots j s → LeadsToCall ns roots i s

-- some rules have been sought
pub record AreSought (ns : List PassNode) (roots : List ℕ) (count : ℕ) (recursive : List Bool) (ranks : List ℕ) : Type 0 where
  pub told : length recursive ≡ count
  pub right : (r : ℕ) → r < count → (is_set_at recursive r ≡ true) ↔ LeadsBack ns roots r
  pub alike : length ranks ≡ length ns
  pub low : (i : ℕ) → rank_in ranks i ≤ count
  pub never_above : (i j : ℕ) → Below ns roots j i → rank_in ranks j ≤ rank_in ranks i
  pub below : (i j r : ℕ) → Below ns roots j i → r < count → LeadsToCall ns roots i r → (LeadsToCall ns roots j r → ⊥) → rank_in ranks j < rank_in ranks i

rank_zero : (n i : ℕ) → rank_in (replicate n 0) i ≡ 0
rank_zero zero i = refl
rank_zero (suc n) zero = refl
rank_zero (suc n) (suc i) = rank_zero n i

pub none_sought : (ns : List PassNode) (roots : List ℕ) (recursive : List Bool) (ranks : List ℕ) → recursive ≡ [] → ranks ≡ replicate (length ns) 0 → length ranks ≡ length ns → AreSought ns roots 0 recursive ranks
none_sought ns roots recursive ranks e f l = record {
  told = ap length e;
  right = λ r h. absurd (omega arith);
  alike = l;
  low = λ i. let a = zero_at i in omega arith;
  never_above = λ i j h. let a = zero_at i in let b = zero_at j in omega arith;
  below = λ i j r h k. absurd (omega arith);
}
  where
    zero_at : (i : ℕ) → rank_in ranks i ≡ 0
    zero_at i = ap (λ l. rank_in l i) f ∙ rank_zero (length ns) i

bit_most : (b : Bool) → bit b ≤ 1
bit_most true = omega arith
bit_most false = omega arith

bit_more : (b c : Bool) → (b ≡ true → c ≡ true) → bit b ≤ bit c
bit_more true c f = let e = ap bit (f refl) in omega arith
bit_more false c f = omega arith

bit_less : (b c : Bool) → (b ≡ true → ⊥) → c ≡ true → bit b < bit c
bit_less true c f e = absurd (f refl)
bit_less false c f e = let d = ap bit e in omega arith

pub last_or_before : (r n : ℕ) → r < n + 1 → (r < n) ⊎ (r ≡ n)
last_or_before r zero h = inr (omega arith)
last_or_before zero (suc n) h = inl (omega arith)
last_or_before (suc r) (suc n) h = elim (last_or_before r n (omega arith)) [ inl a ↦ inl (omega arith) | inr b ↦ inr (ap suc b) ]

-- one rule more was sought
pub one_sought : (ns : List PassNode) (roots : List ℕ) (count : ℕ) (recursive more : List Bool) (ranks raised : List ℕ) (flags : List Bool) (b : Bool) → AreSought ns roots count recursive ranks
    → more ≡ recursive ++ b ∷ [] → length more ≡ count + 1 → (b ≡ true) ↔ LeadsBack ns roots count → AreRaised ranks flags raised → length flags ≡ length ns
    → ((i : ℕ) → is_set_at flags i ≡ true → LeadsToCall ns roots i count) → ((i : ℕ) → LeadsToCall ns roots i count → is_set_at flags i ≡ true) → AreSought ns roots (count + 1) more raised
one_sought ns roots count recursive more ranks raised flags b s e len exact up l sound complete = record {
  told = len;
  right = λ r h. elim (last_or_before r count h) [
    | inl a ↦ subst (λ c. (c ≡ true) ↔ LeadsBack ns roots r) (sym (ap (λ l. is_set_at l r) e ∙ set_before recursive b r (let t = s.told in omega arith))) (s.right r a)
    | inr a ↦ subst (λ m. (is_set_at more m ≡ true) ↔ LeadsBack ns roots m) (sym a) (subst (λ c. (c ≡ true) ↔ LeadsBack ns roots count) (sym own) exact)
  ];
  alike = up.alike ∙ l;
  low = λ i. let a = up.each i in let c = s.low i in let d = bit_most (is_set_at flags i) in omega arith;
  never_above = λ i j h. let a = up.each i in let c = up.each j in let d = s.never_above i j h in let f = more_bits i j h in omega arith;
  below = λ i j r h k x y. elim (last_or_before r count k) [
    | inl z ↦ let a = up.each i in let c = up.each j in let d = s.below i j r h z x y in let f = more_bits i j h in omega arith
    | inr z ↦ let a = up.each i in let c = up.each j in let d = s.never_above i j h in
        let f = bit_less (is_set_at flags j) (is_set_at flags i) (λ g. y (subst (LeadsToCall ns roots j) (sym z) (sound j g))) (complete i (subst (LeadsToCall ns roots i) z x)) in omega arith
  ];
}
  where
    own : is_set_at more count ≡ b
    own = ap (λ l. is_set_at l count) e ∙ (ap (is_set_at (recursive ++ b ∷ [])) (sym s.told) ∙ set_last recursive b)

    more_bits : (i j : ℕ) → Below ns roots j i → bit (is_set_at flags j) ≤ bit (is_set_at flags i)
    more_bits i j h = bit_more (is_set_at flags j) (is_set_at flags i) (λ g. complete i (h count (sound j g)))

-- all rules have been sought
pub all_sought : (ns : List PassNode) (roots : List ℕ) (recursive : List Bool) (ranks : List ℕ) → AreSought ns roots (length roots) recursive ranks → AreCalls ns roots recursive ranks
all_sought ns roots recursive ranks s = record {
  exact = λ r. (
    (λ h. elim (less_or_not r (length roots)) [ inl w ↦ (s.right r w).0 h | inr w ↦ absurd (none_past r w h) ]),
    (λ h. (s.right r (slice_get_within roots r h.0 h.1)).1 h),
  );
  ranked = λ i n at. record {
    few = s.low i;
    operands = operands i (parts_of n.kind) (λ j o. s.never_above i j (λ q l. by_operand at o l));
    call = call i n at (called_by n.kind) refl;
  };
}
  where
    none_past : (r : ℕ) → length roots ≤ r → is_set_at recursive r ≡ true → ⊥
    none_past r w h = let e = ap (λ (o : Option Bool). unwrap_or o false) (slice_get_past recursive r (let t = s.told in omega arith)) in let f = sym e ∙ h in cc

    operands : (i : ℕ) (ps : Parts) → ((j : ℕ) → IsOperandOf j ps → rank_in ranks j ≤ rank_in ranks i) → PartsFall ranks i ps
    operands i parts.Nothing f = tt
    operands i (parts.Inside j required optional endless) f = f j refl
    operands i (parts.Both j k choice) f = (f j (inl refl), f k (inr refl))

    call : (i : ℕ) (n : PassNode) → slice_get ns i ≡ Some n → (o : Option ℕ) → called_by n.kind ≡ o → CallFalls roots recursive ranks i o
    call i n at None e = tt
    call i n at (Some r) e = λ j root.
        let inner : Below ns roots j i = λ q l. by_body at (call_kind n.kind r e) root l in record {
          never_above = s.never_above i j inner;
          below = λ off. s.below i j r inner (slice_get_within roots r j root) (to_call at (call_kind n.kind r e)) (λ l. let on = (s.right r (slice_get_within roots r j root)).1 (j, root, l) in let f = sym off ∙ on in cc);
        }

-- one number more
abbrev pub AreRaisedTo : ℕ → List ℕ → List Bool → List ℕ → Type 0
AreRaisedTo n ranks flags raised = (i : ℕ) → i < n → rank_in raised i ≡ rank_in ranks i + bit (is_set_at flags i)

rank_before : (xs : List ℕ) (x i : ℕ) → i < length xs → rank_in (xs ++ x ∷ []) i ≡ rank_in xs i
rank_before [] x i h = absurd (omega arith)
rank_before (y ∷ xs) x zero h = refl
rank_before (y ∷ xs) x (suc i) h = rank_before xs x i (omega arith)

rank_last : (xs : List ℕ) (x : ℕ) → rank_in (xs ++ x ∷ []) (length xs) ≡ x
rank_last [] x = refl
rank_last (y ∷ xs) x = rank_last xs x

pub raised_more : (n : ℕ) (ranks : List ℕ) (flags : List Bool) (raised more : List ℕ) (x : ℕ) → length raised ≡ n → AreRaisedTo n ranks flags raised → more ≡ raised ++ x ∷ []
    → x ≡ rank_in ranks n + bit (is_set_at flags n) → AreRaisedTo (n + 1) ranks flags more
raised_more n ranks flags raised more x l h e v i k = elim (last_or_before i n k) [
  | inl a ↦ ap (λ z. rank_in z i) e ∙ (rank_before raised x i (omega arith) ∙ h i a)
  | inr a ↦ ap (λ z. rank_in z i) e ∙ (ap (rank_in (raised ++ x ∷ [])) (a ∙ sym l) ∙ (rank_last raised x ∙ (v ∙ ap (λ m. rank_in ranks m + bit (is_set_at flags m)) (sym a))))
]

rank_past : (xs : List ℕ) (i : ℕ) → length xs ≤ i → rank_in xs i ≡ 0
rank_past xs i h = ap (λ (o : Option ℕ). unwrap_or o 0) (slice_get_past xs i h)

pub raised_all : (ranks : List ℕ) (flags : List Bool) (raised : List ℕ) → length ranks ≡ length flags → length raised ≡ length flags → AreRaisedTo (length flags) ranks flags raised → AreRaised ranks flags raised
raised_all ranks flags raised k l h = record {
  alike = l;
  each = λ i. elim (less_or_not i (length flags)) [
    | inl a ↦ h i a
    | inr b ↦ let c = rank_past raised i (omega arith) in let d = rank_past ranks i (omega arith) in
        let e = ap bit (ap (λ (o : Option Bool). unwrap_or o false) (slice_get_past flags i b)) in omega arith
  ];
}

pub set_where : (bs : List Bool) (r : ℕ) (b : Bool) → slice_get bs r ≡ Some b → is_set_at bs r ≡ b
set_where bs r b h = ap (λ (o : Option Bool). unwrap_or o false) h
