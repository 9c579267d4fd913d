-- Refusals of a value, and of the list that it is in.
use Rattle.std.proofs.Common.{◌≡◌, ◌<◌, ℕ, Some, List, map, length, get_or, slice_get, take, inr, ap, ◌∙◌, sym, subst}
use Rattle.std.proofs.lemmas.List.{take-map}
use Rattle.std.proofs.lemmas.Option.{slice_get-get_or, slice_get-map}
use Rattle.std.proofs.lemmas.Simd.{map-map}
use Rattle.std.specs.Option.{option_map}
use Rattle.serde_json.specs.Data.{Data, array}
use Rattle.serde_json.specs.Find.{get}
use Rattle.serde_json.specs.Read.{read}
use Rattle.serde_json.specs.View.{items_of, view}
use Rattle.serde_json.specs.declared.value.Value.{Value}
use Rattle.std.specs.Prelude.{codes}
use Rattle.format_json.specs.Reading.{Members, members_of}
use Rattle.format_json.specs.Refusals.{IsRefusedText, Refuses, RefusesValue, in_rule}
use Rattle.format_json.specs.Unread.{IsUnreadBody, IsUnreadRule}
use Rattle.format_json.specs.declared.refusal.Refusal.{Refusal}
use Rattle.format_json.specs.declared.refusal.RefusalReason.TheVariants as is
use Rattle.format_json.specs.declared.refusal.Unread.{Unread}
use Rattle.format_json.specs.declared.refusal.Unread.TheVariants as unread

-- a body that is not read is of a rule that is not read
pub of_body : {E : Type 0} (nodes : E → List Data) (d : Data) (ds : List Data) (why : Unread) → get (codes "expr") d ≡ Some (array (items_of ds)) → IsUnreadBody nodes ds why → IsUnreadRule nodes d why
of_body nodes d ds unread.Memory e h = tt
of_body nodes d ds (unread.Reason is.Body) e h = inr (ds, e, h)
of_body nodes d ds (unread.Reason is.Left) e h = (ds, e, h)
of_body nodes d ds (unread.At n why) e h = (ds, e, h)
of_body nodes d ds (unread.Reason _) e h = absurd h

module _ {R E : Type 0} (members : R → Members) (nodes : E → List Data) (text : List ℕ) (ds : List Data) (rules : List R) (value : Data) (n : ℕ)
    (lists : read text ≡ Some (array (items_of ds))) (before : map members_of (take n ds) ≡ map members rules) (there : slice_get ds n ≡ Some value) where
  here : (why : Unread) → IsUnreadRule nodes value why → Refuses members nodes text (in_rule why n)
  here unread.Memory h = tt
  here (unread.Reason why) h = record { ds = ds; lists = lists; rules = rules; before = before; value = value; there = there; unread = h }
  here (unread.At node why) h = record { ds = ds; lists = lists; rules = rules; before = before; value = value; there = there; unread = h }

  -- the first value that is refused refuses the text
  pub of_value : (r : Refusal) → RefusesValue nodes value n r → Refuses members nodes text r
  of_value r h = subst (λ x. Refuses members nodes text x) (sym h.1) (here h.0 h.2)

-- the same of the values of a list, of which those before were read
pub in_list : {R E : Type 0} (members : R → Members) (nodes : E → List Data) (text : List ℕ) (values : List Value) (rules : List R) (v : Value) (n : ℕ) (r : Refusal)
    → read text ≡ Some (array (items_of (map view values))) → map members rules ≡ map (λ x. members_of (view x)) (take n values) → n < length values → v ≡ get_or values n v
    → RefusesValue nodes (view v) n r → Refuses members nodes text r
in_list members nodes text values rules v n r lists before within there h =
    let first : map members_of (take n (map view values)) ≡ map members rules =
    ap (map members_of) (take-map view n values) ∙ (map-map members_of view (take n values) ∙ sym before) in
    let place : slice_get values n ≡ Some v = slice_get-get_or values n v within ∙ ap Some (sym there) in
    of_value members nodes text (map view values) rules (view v) n lists first (slice_get-map view values n ∙ ap (option_map view) place) r h

-- a refusal in a rule is one of a text
some_rule : (text : List ℕ) (why : Unread) (n : ℕ) → IsRefusedText text (in_rule why n)
some_rule text unread.Memory n = tt
some_rule text (unread.Reason why) n = tt
some_rule text (unread.At node why) n = tt

pub of_text : {E : Type 0} (nodes : E → List Data) (text : List ℕ) (d : Data) (n : ℕ) (r : Refusal) → RefusesValue nodes d n r → IsRefusedText text r
of_text nodes text d n r h = subst (λ x. IsRefusedText text x) (sym h.1) (some_rule text h.0 n)
