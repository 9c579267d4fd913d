-- Which rules lead to which, and back.
use Rattle.std.proofs.Common.{◌≡◌, ℕ, zero, suc, ◌⊎◌, ◌+◌, inl, inr, List, [], ◌∷◌, ◌++◌, Option, Some, None, Bool, true, false, slice_get, replicate, length, refl, sym, ◌∙◌, ap, subst}
use Rattle.std.proofs.Math.ListN.{set}
use Rattle.std.proofs.lemmas.List.{length_push}
use Rattle.base_graphs.specs.Least.{is_set_at}
use Rattle.front_stack_loops.specs.Leading.{IsOperandOf, LeadsToCall, to_call, by_body, by_operand, LeadsFrom, LeadsBack, Owns, AreOwned, AreLinks, AreLed, IsOnward, owner_in, leader_in, turned}
use Rattle.front_stack_loops.specs.Table.{called_by, parts_of}
use Rattle.base_graphs.specs.declared.links.Link.{Link}
use Rattle.front_stack_loops.specs.declared.table.PassNode.{PassNode}
use Rattle.front_stack_loops.specs.declared.table.Parts.{Parts}
use Rattle.base_graphs.proofs.LeastLemmas.{set_or_one}
use Rattle.front_stack_loops.proofs.LeadingLemmas.{call_kind}

owner_set : (owners : List (Option ℕ)) (i r j s : ℕ) → owner_in (set owners i (Some r)) j ≡ Some s → ((j ≡ i) × (r ≡ s)) ⊎ (owner_in owners j ≡ Some s)
owner_set [] i r j s h = inr h
owner_set (o ∷ os) zero r zero s h = inl (refl, (let e : Some r ≡ Some s = h in cc))
owner_set (o ∷ os) zero r (suc j) s h = inr h
owner_set (o ∷ os) (suc i) r zero s h = inr h
owner_set (o ∷ os) (suc i) r (suc j) s h = elim (owner_set os i r j s h) [ inl e ↦ inl (ap suc e.0, e.1) | inr e ↦ inr e ]

module _ (ns : List PassNode) (roots : List ℕ) where
  -- what a body leads to, a node that calls it leads to
  through : {i q r : ℕ} → LeadsToCall ns roots i q → LeadsFrom ns roots q r → LeadsToCall ns roots i r
  through (to_call at k) (j, root, l) = by_body at k root l
  through (by_body at k root more) l = by_body at k root (through more l)
  through (by_operand at o more) l = by_operand at o (through more l)

  trans : (p q r : ℕ) → LeadsFrom ns roots p q → LeadsFrom ns roots q r → LeadsFrom ns roots p r
  trans p q r (j, root, l) m = (j, root, through l m)

  pub none_owned : (owners : List (Option ℕ)) (n : ℕ) → owners ≡ replicate n None → AreOwned ns roots owners
  none_owned owners n e i r h = absurd (clash (owner_in owners i) h (ap (λ os. owner_in os i) e ∙ none n i))
    where
      none : (n i : ℕ) → owner_in (replicate n None) i ≡ None
      none zero i = refl
      none (suc n) zero = refl
      none (suc n) (suc i) = none n i

      clash : (o : Option ℕ) → o ≡ Some r → o ≡ None → ⊥
      clash o h k = let z : Some r ≡ None = sym h ∙ k in cc

  pub one_owned : (owners : List (Option ℕ)) (i r : ℕ) → AreOwned ns roots owners → Owns ns roots r i → AreOwned ns roots (set owners i (Some r))
  one_owned owners i r all own j s h = elim (owner_set owners i r j s h) [
    | inl e ↦ subst (λ q. Owns ns roots q j) e.1 (subst (Owns ns roots r) (sym e.0) own)
    | inr e ↦ all j s e
  ]

  pub root_owned : (r j : ℕ) → slice_get roots r ≡ Some j → Owns ns roots r j
  root_owned r j root s l = (j, root, l)

  part_owned : (r i j : ℕ) (n : PassNode) → slice_get ns i ≡ Some n → IsOperandOf j (parts_of n.kind) → Owns ns roots r i → Owns ns roots r j
  part_owned r i j n at o own s l = own s (by_operand at o l)

  pub parts_owned : (owners : List (Option ℕ)) (i r : ℕ) (n : PassNode) (ps : Parts) → AreOwned ns roots owners → owner_in owners i ≡ Some r → slice_get ns i ≡ Some n → parts_of n.kind ≡ ps → (j : ℕ) → IsOperandOf j ps → Owns ns roots r j
  parts_owned owners i r n ps all o at e j h = part_owned r i j n at (subst (IsOperandOf j) (sym e) h) (all i r o)

  pub owned_link : (owners : List (Option ℕ)) (i r s : ℕ) (n : PassNode) → AreOwned ns roots owners → slice_get ns i ≡ Some n → owner_in owners i ≡ Some r → called_by n.kind ≡ Some s → LeadsFrom ns roots r s
  owned_link owners i r s n all at o c = all i r o s (to_call at (call_kind n.kind s c))

  pub one_link : (links : List Link) (l : Link) → AreLinks ns roots links → LeadsFrom ns roots l.source l.target → AreLinks ns roots (links ++ l ∷ [])
  one_link [] l all one zero m e = let f : l ≡ m = some_same l m e in subst (λ z. LeadsFrom ns roots z.source z.target) f one
    where
      some_same : (l m : Link) → Some l ≡ Some m → l ≡ m
      some_same l m e = cc
  one_link [] l all one (suc k) m e = cc
  one_link (x ∷ xs) l all one zero m e = all zero m e
  one_link (x ∷ xs) l all one (suc k) m e = one_link xs l (λ k m e. all (suc k) m e) one k m e

  one_reached : (leaders : List ℕ) (flags : List Bool) (q r : ℕ) → AreLed ns roots true leaders flags → LeadsFrom ns roots q r → IsOnward leaders flags q r → AreLed ns roots true leaders (set flags r true)
  one_reached leaders flags q r all link on s h = elim (set_or_one flags r s h) [
    | inl e ↦ subst (λ z. LeadsFrom ns roots (leader_in leaders z) z) (sym e) (go on.known)
    | inr e ↦ all s e
  ]
    where
      go : (q ≡ leader_in leaders r) ⊎ (is_set_at flags q ≡ true) → LeadsFrom ns roots (leader_in leaders r) r
      go (inl e) = subst (λ z. LeadsFrom ns roots z r) e link
      go (inr e) = subst (λ z. LeadsFrom ns roots z r) on.same (trans (leader_in leaders q) q r (all q e) link)

  one_returning : (leaders : List ℕ) (flags : List Bool) (q r : ℕ) → AreLed ns roots false leaders flags → LeadsFrom ns roots q r → IsOnward leaders flags r q → AreLed ns roots false leaders (set flags q true)
  one_returning leaders flags q r all link on s h = elim (set_or_one flags q s h) [
    | inl e ↦ subst (λ z. LeadsFrom ns roots z (leader_in leaders z)) (sym e) (go on.known)
    | inr e ↦ all s e
  ]
    where
      go : (r ≡ leader_in leaders q) ⊎ (is_set_at flags r ≡ true) → LeadsFrom ns roots q (leader_in leaders q)
      go (inl e) = subst (LeadsFrom ns roots q) e link
      go (inr e) = subst (LeadsFrom ns roots q) on.same (trans q r (leader_in leaders r) link (all r e))

  pub one_led : (down : Bool) (leaders : List ℕ) (flags : List Bool) (l : Link) → AreLed ns roots down leaders flags → LeadsFrom ns roots l.source l.target
      → IsOnward leaders flags (turned down l).source (turned down l).target → AreLed ns roots down leaders (set flags (turned down l).target true)
  one_led true leaders flags l all link on = one_reached leaders flags l.source l.target all link on
  one_led false leaders flags l all link on = one_returning leaders flags l.source l.target all link on

  -- a rule is reached from its leader, which is that rule or is reached from it
  pub back_by_leader : (leaders : List ℕ) (reached returning : List Bool) (r : ℕ) → AreLed ns roots true leaders reached → AreLed ns roots false leaders returning
      → is_set_at reached r ≡ true → (leader_in leaders r ≡ r) ⊎ (is_set_at returning r ≡ true) → LeadsBack ns roots r
  back_by_leader leaders reached returning r down up h (inl e) = subst (λ z. LeadsFrom ns roots z r) e (down r h)
  back_by_leader leaders reached returning r down up h (inr e) = trans r (leader_in leaders r) r (up r e) (down r h)

-- of a given number of rules those whose flag is set reach themselves
pub record AreBack (ns : List PassNode) (roots : List ℕ) (count : ℕ) (flags : List Bool) : Type 0 where
  pub told : length flags ≡ count
  pub right : (r : ℕ) → slice_get flags r ≡ Some true → LeadsBack ns roots r

pub none_back : (ns : List PassNode) (roots : List ℕ) (flags : List Bool) → flags ≡ [] → AreBack ns roots 0 flags
none_back ns roots flags e = record {
  told = ap length e;
  right = λ r h. (let f : slice_get [] r ≡ Some true = ap (λ bs. slice_get bs r) (sym e) ∙ h in cc);
}

last_flag : (flags : List Bool) (b : Bool) (r : ℕ) → slice_get (flags ++ b ∷ []) r ≡ Some true → ((r ≡ length flags) × (b ≡ true)) ⊎ (slice_get flags r ≡ Some true)
last_flag [] b zero h = inl (refl, (let e : Some b ≡ Some true = h in cc))
last_flag [] b (suc r) h = cc
last_flag (c ∷ cs) b zero h = inr h
last_flag (c ∷ cs) b (suc r) h = elim (last_flag cs b r h) [ inl e ↦ inl (ap suc e.0, e.1) | inr e ↦ inr e ]

pub one_back : (ns : List PassNode) (roots : List ℕ) (count : ℕ) (flags more : List Bool) (b : Bool) → AreBack ns roots count flags → (b ≡ true → LeadsBack ns roots count)
    → more ≡ flags ++ b ∷ [] → AreBack ns roots (count + 1) more
one_back ns roots count flags more b all one e = record {
  told = ap length e ∙ (length_push flags b ∙ ap (λ n. n + 1) all.told);
  right = λ r h. elim (last_flag flags b r (ap (λ bs. slice_get bs r) (sym e) ∙ h)) [
    | inl f ↦ subst (LeadsBack ns roots) (sym (f.0 ∙ all.told)) (one f.1)
    | inr f ↦ all.right r f
  ];
}
