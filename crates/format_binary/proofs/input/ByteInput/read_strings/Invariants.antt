use Rattle.std.proofs.Common.{◌≡◌, ◌++◌, ℕ, List, drop, flat_map, length, string_bytes}
use Rattle.format_binary.specs.Format.{list_bytes, size_bytes, text_bytes}
use Rattle.format_binary.specs.Fronts.{Texts, item_bytes}
use Rattle.format_binary.proofs.input.ByteInput.read_strings.Given as goal

-- what is read are the texts so far, and the others of a list are left, if the bytes are that
abbrev pub invariant-loop-place : goal.invariant-loop-place
invariant-loop-place l = record {
  read : l.fn.self.rest.now ≡ (size_bytes l.count ++ flat_map (λ text. text_bytes (string_bytes text)) l.texts.items) ++ l.self.rest.now;
  count : length l.texts.items ≡ l.place;
  left : (ss : Texts) (t : List ℕ) → l.fn.self.rest.now ≡ list_bytes item_bytes ss.items ++ t → (length ss.items ≡ l.count) × (l.self.rest.now ≡ flat_map item_bytes (drop l.place ss.items) ++ t);
}
