-- The comments of a gap.
use Rattle.std.specs.Prelude.{◌≡◌, ◌≤◌, ◌<◌, ◌+◌, ◌==◌, ◌&&◌, ◌||◌, ℕ, List, [], ◌∷◌, Bool, false, true, slice_index}
use Rattle.format_grammar.specs.declared.gaps.Comment.{Comment}

-- whether a comment begins at a byte outside of comments, by two slashes or a slash and a star
abbrev pub starts_comment : List ℕ → ℕ → Bool
starts_comment bytes at = slice_index bytes at == 47
    && (slice_index bytes (at + 1) == 47 || slice_index bytes (at + 1) == 42)

-- no comment begins between two bytes
abbrev pub HasNone : List ℕ → ℕ → ℕ → Type 0
HasNone bytes from to = (k : ℕ) → from ≤ k → k < to → starts_comment bytes k ≡ false

-- comments follow each other between two bytes, and no other one begins between them
abbrev pub AreComments : List ℕ → ℕ → List Comment → ℕ → Type 0
AreComments bytes from [] to = (from ≤ to) × HasNone bytes from to
AreComments bytes from (comment ∷ comments) to = (from ≤ comment.start) × HasNone bytes from comment.start
    × (starts_comment bytes comment.start ≡ true) × (comment.start ≤ comment.end)
    × AreComments bytes comment.end comments to
