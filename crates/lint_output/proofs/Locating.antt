-- Locations of bytes, one after another.
use Rattle.std.proofs.Common.{⊎_elim, ◌≡◌, ◌≢◌, ◌∙◌, ℕ, ◌+◌, ◌*◌, ◌/◌, ◌-◌, ◌<◌, ◌≤◌, ◌%◌, min, List, [], ◌∷◌, ◌++◌, Some, arith, length, get_or, take, sym, ap, subst}
use Rattle.std.specs.List.{count_by, slice_get}
use Rattle.std.proofs.lemmas.List.{take_all}
use Rattle.std.proofs.lemmas.Option.{get_or_from_slice_get, slice_get-get_or}
use Rattle.std.proofs.Math.ListN.{get_or-append, length-append}
use Rattle.std.proofs.Math.Nat.{mul-mod_right}
use Rattle.std.proofs.Math.Seq.{get_or-append_seam}
use Rattle.base_language.specs.Pieces.LineColumn.{is_line_feed, last_line}
use Rattle.base_language.proofs.Surveys.{order}
use Rattle.lint_output.specs.Locations.{AreCheckpoints, IsIndexOf, begins_character, location_at}
use Rattle.lint_output.specs.declared.lines.LineIndex.{LineIndex}
use Rattle.lint_output.specs.declared.lines.Location.{Location}

-- one more checkpoint, or none
each_more : (text : List ℕ) (at : ℕ) (location : Location) (old : List Location) → 256 * length old ≡ at → location ≡ location_at text at
    → ((k : ℕ) → k < length old → slice_get old k ≡ Some (location_at text (256 * k)))
    → (k : ℕ) → k < length (old ++ location ∷ []) → slice_get (old ++ location ∷ []) k ≡ Some (location_at text (256 * k))
each_more text at location old exact here each k h =
    slice_get-get_or (old ++ location ∷ []) k location h ∙ ap Some (⊎_elim last low (order (length old) k))
  where
    low : k < length old → get_or (old ++ location ∷ []) k location ≡ location_at text (256 * k)
    low l = get_or-append old (location ∷ []) location k l ∙ get_or_from_slice_get old k (location_at text (256 * k)) location (each k l)

    last : length old ≤ k → get_or (old ++ location ∷ []) k location ≡ location_at text (256 * k)
    last l =
        let n : k ≡ length old = omega (arith, h, length-append old (location ∷ [])) in
        subst (λ (j : ℕ). get_or (old ++ location ∷ []) j location ≡ location_at text (256 * j)) (sym n) (get_or-append_seam old location [] location ∙ here ∙ ap (location_at text) (sym exact))

pub one_checkpoint : (text : List ℕ) (at : ℕ) (location : Location) (old new : List Location) → at % 256 ≡ 0 → new ≡ old ++ location ∷ [] → location ≡ location_at text at
    → AreCheckpoints text at old → AreCheckpoints text (at + 1) new
one_checkpoint text at location old new even e here h =
    let enough = h.enough in
    let few = h.few in
    let n = length-append old (location ∷ []) in
    let exact : 256 * length old ≡ at = omega arith in
    subst (AreCheckpoints text (at + 1)) (sym e)
    (record { enough = omega arith; few = omega arith; each = each_more text at location old exact here h.each })

pub no_checkpoint : (text : List ℕ) (at : ℕ) (old : List Location) → at % 256 ≢ 0 → AreCheckpoints text at old → AreCheckpoints text (at + 1) old
no_checkpoint text at old odd h =
    let enough = h.enough in
    let few = h.few in
    let other : 256 * length old ≢ at = λ e. odd (ap (λ x. x % 256) (sym e) ∙ mul-mod_right 256 (length old)) in
    record { enough = omega arith; few = omega arith; each = h.each }

-- a place behind the text is its end
cut_taken : (text : List ℕ) (place : ℕ) → take (min place (length text)) text ≡ take place text
cut_taken text place = ⊎_elim within behind (order place (length text))
  where
    within : place ≤ length text → take (min place (length text)) text ≡ take place text
    within h = let n : min place (length text) ≡ place = omega arith in ap (λ n. take n text) n

    behind : length text < place → take (min place (length text)) text ≡ take place text
    behind h = let n : min place (length text) ≡ length text = omega arith in ap (λ n. take n text) n ∙ take_all (length text) text (omega arith) ∙ sym (take_all place text (omega arith))

pub cut_location : (text : List ℕ) (place last : ℕ) → last ≡ min place (length text) → location_at text last ≡ location_at text place
cut_location text place last e =
    let f : List ℕ → Location = λ t. record { line = 1 + count_by is_line_feed t; column = 1 + count_by begins_character (last_line t); line_start = length t - length (last_line t) } in
    ap f (ap (λ n. take n text) e ∙ cut_taken text place)

-- the checkpoint before a place
pub checkpoint_of : (text : List ℕ) (checkpoints : List Location) (last : ℕ) (first : Location) → AreCheckpoints text (length text + 1) checkpoints → last ≤ length text
    → get_or checkpoints (last / 256) first ≡ location_at text (last / 256 * 256)
checkpoint_of text checkpoints last first h within =
    let enough = h.enough in
    let low : last / 256 < length checkpoints = omega arith in
    let place : 256 * (last / 256) ≡ last / 256 * 256 = omega arith in
    get_or_from_slice_get checkpoints (last / 256) _ first (h.each (last / 256) low) ∙ ap (location_at text) place

-- the location at the end of the way from a checkpoint
pub located : (text bytes : List ℕ) (index : LineIndex) (location : Location) (position last at : ℕ) → bytes ≡ text → last ≡ min position (length bytes) → at ≡ last
    → (IsIndexOf bytes index → location ≡ location_at bytes at) → IsIndexOf text index → location ≡ location_at text position
located text bytes index location position last at same cut end found indexed =
    let here : IsIndexOf text index → location ≡ location_at text at = subst (λ (t : List ℕ). IsIndexOf t index → location ≡ location_at t at) same found in
    let n : last ≡ min position (length text) = subst (λ (t : List ℕ). ◌≡◌ {A = ℕ} last (min position (length t))) same cut in
    here indexed ∙ ap (location_at text) end ∙ cut_location text position last n
