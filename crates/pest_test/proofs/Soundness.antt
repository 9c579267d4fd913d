-- Events that a walk follows are those of its trees.
use Rattle.std.proofs.Common.{not, true≢false, ◌≡◌, ◌∙◌, ℕ, suc, ◌+◌, List, [], ◌∷◌, ◌++◌, Bool, true, false, append_assoc, append-nil, ap, codes, refl, subst, sym}
use Rattle.base_language.specs.Language.State.{Trees, None', Tree}
use Rattle.base_language.specs.Language.Text.{Text}
use Rattle.matcher_code.specs.Reached.{count_of}
use Rattle.matcher_engine.specs.Walks.{Enters, Leaves, Visit, Visited, visited, visits}
use Rattle.pest_test.specs.Agreement.{Agree}
use Rattle.pest_test.specs.Agreement.Agree.{none, tree, left_out}
use Rattle.pest_test.specs.Walking.{FollowAll, Follows}
use Rattle.pest_test.specs.Walking.FollowAll.{more, none as followed}
use Rattle.pest_test.specs.Walking.Follows.{enters, leaves, enters_end, leaves_end}
use Rattle.pest_test.specs.declared.expected.Event.{Event}
use Rattle.pest_test.specs.declared.expected.Event.TheVariants.{Leave}

-- the first events agree with trees, and the others are followed by visits
record Split (text : List ℕ) (us : Trees) (vs : List Visit) (events : List Event) : Type 0 where
  before : List Event
  after : List Event
  whole : events ≡ before ++ after
  agree : Agree text before us
  follow : FollowAll text after false vs

-- a visit out of a tree follows a leave
leave_first : (text : List ℕ) (t : Visited) (events : List Event) (vs : List Visit) → FollowAll text events false (Leaves t ∷ vs)
    → (rest : List Event) × (events ≡ Leave ∷ rest) × FollowAll text rest false vs
leave_first text t events vs (more (leaves _ rest) follow) = (rest, refl, follow)

no_entry : (text : List ℕ) (events left : List Event) (after : Bool) (t : Visited) → Follows text events true (Enters t) left after → ⊥
no_entry text events left after t f = elim f [ ]

-- a tree that is left out holds no other
ends_at_once : (text : List ℕ) (rule : Text → ℕ) (n d : ℕ) (inner : Trees) (t : Visited) (events : List Event) (vs : List Visit)
    → FollowAll text events true (visits rule n d inner ++ Leaves t ∷ vs) → (inner ≡ None') × FollowAll text events false vs
ends_at_once text rule n d None' t events vs (more (leaves_end _ _) follow) = (refl, follow)
ends_at_once text rule n d (Tree r i j inner others) t events vs (more f follow) = absurd (no_entry text events _ _ _ f)

module _ (text : List ℕ) (rule : Text → ℕ) where
  split : (n d : ℕ) (us : Trees) (events : List Event) (vs : List Visit) → FollowAll text events false (visits rule n d us ++ vs)
      → Split text us vs events
  split n d None' events vs follow = record { before = []; after = events; whole = refl; agree = none; follow = follow }
  split n d (Tree r i j inner others) _ vs (more (enters t event events is) follow) =
      let behind = visits rule (suc n + count_of inner) d others in
      let i_ = split (suc n) (suc d) inner events (Leaves (visited rule n d r i j inner) ∷ (behind ++ vs))
      (subst (FollowAll text events false) (append_assoc (visits rule (suc n) (suc d) inner) (Leaves (visited rule n d r i j inner) ∷ behind) vs) follow) in
      let left = leave_first text _ i_.after (behind ++ vs) i_.follow in
      let o = split (suc n + count_of inner) d others left.0 vs left.2 in
      record {
        before = event ∷ i_.before ++ Leave ∷ o.before;
        after = o.after;
        whole = ap (λ x. event ∷ x) (i_.whole ∙ (ap (λ x. i_.before ++ x) (left.1 ∙ ap (λ x. Leave ∷ x) o.whole) ∙ sym (append_assoc i_.before (Leave ∷ o.before) o.after)));
        agree = tree event is i_.agree o.agree;
        follow = o.follow;
      }
  split n d (Tree r i j inner others) events vs (more (enters_end t _ e) follow) =
      let behind = visits rule (suc n + count_of inner) d others in
      let ended = ends_at_once text rule (suc n) (suc d) inner _ events (behind ++ vs)
      (subst (FollowAll text events true) (append_assoc (visits rule (suc n) (suc d) inner) (Leaves (visited rule n d r i j inner) ∷ behind) vs) follow) in
      let o = split (suc n + count_of inner) d others events vs ended.1 in
      record {
        before = o.before;
        after = o.after;
        whole = o.whole;
        agree = subst (λ q. Agree text o.before (Tree q i j inner others)) (sym e)
            (subst (λ q. Agree text o.before (Tree (codes "EOI") i j q others)) (sym ended.0) (left_out i j o.agree));
        follow = o.follow;
      }

  nothing_left : (events : List Event) → FollowAll text events false [] → events ≡ []
  nothing_left events followed = refl

  -- all events are those of the trees
  pub all_agree : (us : Trees) (events : List Event) → FollowAll text events false (visits rule 0 0 us) → Agree text events us
  all_agree us events follow =
      let s = split 0 0 us events [] (subst (FollowAll text events false) (sym (append-nil (visits rule 0 0 us))) follow) in
      subst (λ es. Agree text es us) (sym (s.whole ∙ (ap (λ es. s.before ++ es) (nothing_left s.after s.follow) ∙ append-nil s.before))) s.agree

-- a walk that has ended follows no event
pub all_followed : (text : List ℕ) (events : List Event) (inside : Bool) (left : List Visit) → events ≡ [] → inside ≡ false → left ≡ []
    → FollowAll text events inside left
all_followed text events inside left empty out ended =
    subst (λ es. FollowAll text es inside left) (sym empty)
    (subst (λ b. FollowAll text [] b left) (sym out) (subst (FollowAll text [] false) (sym ended) followed))

pub outside : (b : Bool) → not b ≡ true → b ≡ false
outside false h = refl
outside true h = absurd (true≢false (sym h))
