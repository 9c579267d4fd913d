-- Where trees have no flaw: nor has what stands in them.
use Rattle.std.proofs.Common.{◌≡◌, ℕ, List, Option, Some, None, false, refl}
use Rattle.std.specs.Option.{option_or}
use Rattle.base_language.specs.Language.Text.{Text}
use Rattle.base_language.specs.Language.State.{Trees, None', Tree, joined}
use Rattle.front_reader.specs.Flaws.{Flaw, own_flaw, closes, first_flaw}

-- where neither of two has a flaw
pub none_left : (a b : Option Flaw) → option_or a b ≡ None → a ≡ None
none_left None b h = refl
none_left (Some f) b h = h

pub none_right : (a b : Option Flaw) → option_or a b ≡ None → b ≡ None
none_right None b h = h
none_right (Some f) b h = cc

module _ (text : List ℕ) where
  -- the first tree by itself
  pub own_none : (r : Text) (i j : ℕ) (inner us : Trees) → first_flaw text (Tree r i j inner us) ≡ None
      → own_flaw text r i j inner us ≡ None
  own_none r i j inner us h = none_left _ _ h

  -- the trees in it, and those behind it
  pub inner_none : (r : Text) (i j : ℕ) (inner us : Trees) → first_flaw text (Tree r i j inner us) ≡ None
      → first_flaw text inner ≡ None
  inner_none r i j inner us h = none_left _ _ (none_right (own_flaw text r i j inner us) _ h)

  pub behind_none : (r : Text) (i j : ℕ) (inner us : Trees) → first_flaw text (Tree r i j inner us) ≡ None
      → first_flaw text us ≡ None
  behind_none r i j inner us h = none_right (first_flaw text inner) _ (none_right (own_flaw text r i j inner us) _ h)

  -- a number is judged by whether a closing brace is behind it
  own_flaw-behind : (r : Text) (i j : ℕ) (inner us vs : Trees) → closes us ≡ closes vs
      → own_flaw text r i j inner us ≡ own_flaw text r i j inner vs
  unfolding own_flaw
  own_flaw-behind r i j inner us vs h = rw h refl

  closes-joined : (us vs : Trees) → closes vs ≡ false → closes us ≡ closes (joined us vs)
  closes-joined None' vs h = rw h refl
  closes-joined (Tree r i j inner us) vs h = refl

  -- a front of trees without a flaw
  pub front_none : (us vs : Trees) → closes vs ≡ false → first_flaw text (joined us vs) ≡ None
      → first_flaw text us ≡ None
  front_none None' vs c h = refl
  front_none (Tree r i j inner us) vs c h =
      let own = none_left (own_flaw text r i j inner (joined us vs)) _ h in
      let same = own_flaw-behind r i j inner us (joined us vs) (closes-joined us vs c) in
      rw (same, own, inner_none _ _ _ inner (joined us vs) h, front_none us vs c (behind_none _ _ _ inner (joined us vs) h)) refl
