-- The comments of a gap, which is the text between two tokens.
use Rattle.std.specs.Prelude.{ℕ, ◌+◌, ◌-◌, ◌^◌, ◌==◌, ◌&&◌, ◌||◌, List, [], ◌∷◌, ◌++◌, Bool, true, false, not, min, if◌then◌else◌}
use Rattle.format_grammar.specs.declared.contents.GapState.{GapState}
use Rattle.format_grammar.specs.declared.contents.GapState.TheVariants.{Outside, AfterSlash, InLine, InBlock, InBlockAfterSlash, InBlockAfterStar}

-- a space, a tab, or a carriage return
abbrev pub is_blank : ℕ → Bool
is_blank c = c == 32 || (c == 9 || c == 13)

-- a blank or a line feed
abbrev pub is_white : ℕ → Bool
is_white c = is_blank c || c == 10

-- blanks and line feeds alone
abbrev pub is_all_white : List ℕ → Bool
is_all_white [] = true
is_all_white (c ∷ cs) = is_white c && is_all_white cs

abbrev pub begins_with_line_feed : List ℕ → Bool
begins_with_line_feed [] = false
begins_with_line_feed (c ∷ cs) = c == 10

-- a byte before others, unless it is a blank at the end of a line
abbrev pub with_byte : ℕ → List ℕ → List ℕ
with_byte c cs = if is_blank c && begins_with_line_feed cs then cs else c ∷ cs

-- lines without the blanks at their ends
abbrev pub trimmed : List ℕ → List ℕ
trimmed [] = []
trimmed (c ∷ cs) = with_byte c (trimmed cs)

-- a piece before a line end, without the blanks at the ends of its lines
abbrev pub trimmed_line : List ℕ → List ℕ
trimmed_line cs = trimmed (cs ++ 10 ∷ [])

-- the first byte of a text, or 0
abbrev pub first : List ℕ → ℕ
first [] = 0
first (c ∷ cs) = c

-- one more; counts are kept in 64 bits
abbrev pub one_more : ℕ → ℕ
one_more n = min (n + 1) (2 ^ 64 - 1)

-- the closings of a text by its first two bytes, and by those of the text from the third and the second on
abbrev pub closings_at : ℕ → ℕ → ℕ → ℕ → ℕ
closings_at c d third second =
    if c == 42 && d == 47 then one_more third
    else (if c == 47 && d == 42 && not (third == 0) then third - 1 else second)

-- how many of the block comments that are open before a text are closed in it; one that begins in it and is
-- left open is none, as the second one of `/* /*/`
abbrev mutual
  pub closings : List ℕ → ℕ
  closings [] = 0
  closings (c ∷ cs) = closings_at c (first cs) (closings_of_rest cs) (closings cs)

  pub closings_of_rest : List ℕ → ℕ
  closings_of_rest [] = 0
  closings_of_rest (c ∷ cs) = closings cs

-- each byte of a text with the closings of what follows it
abbrev pub marked : List ℕ → List (ℕ × ℕ)
marked [] = []
marked (c ∷ cs) = (c, closings cs) ∷ marked cs

-- the state after a slash outside of comments
abbrev pub after_slash : ℕ → GapState
after_slash c = if c == 47 then InLine else if c == 42 then InBlock 0 else Outside

abbrev pub within_block : ℕ → ℕ → GapState
within_block n c = if c == 47 then InBlockAfterSlash n else if c == 42 then InBlockAfterStar n else InBlock n

abbrev pub after_block : ℕ → GapState
after_block n = if n == 0 then Outside else InBlock (n - 1)

-- the state after a byte of a gap, by the closings of what follows; a block comment begins within another one
-- only if it is closed
abbrev pub state_after : GapState → ℕ → ℕ → GapState
state_after Outside c n = if c == 47 then AfterSlash else Outside
state_after AfterSlash c n = after_slash c
state_after InLine c n = if c == 10 then Outside else InLine
state_after (InBlock k) c n = within_block k c
state_after (InBlockAfterSlash k) c n =
    if c == 42 && not (n == 0) then InBlock (one_more k) else within_block k c
state_after (InBlockAfterStar k) c n = if c == 47 then after_block k else within_block k c

-- white space outside of comments means nothing
abbrev pub is_kept : GapState → ℕ → Bool
is_kept Outside c = not (is_white c)
is_kept _ c = true

-- the bytes that are kept of a gap from a state on
abbrev pub kept_from : GapState → List (ℕ × ℕ) → List ℕ
kept_from place [] = []
kept_from place (m ∷ ms) = if is_kept place m.0
    then m.0 ∷ kept_from (state_after place m.0 m.1) ms
    else kept_from (state_after place m.0 m.1) ms

-- the comments of a gap, without the blanks at the ends of their lines, and the words that have no token of
-- their own
abbrev pub comments_of : List ℕ → List ℕ
comments_of gap = kept_from Outside (marked (trimmed_line gap))

-- whether a line ends with a blank
abbrev pub has_blank_end : List ℕ → Bool
has_blank_end [] = false
has_blank_end (c ∷ cs) = is_blank c && begins_with_line_feed cs || has_blank_end cs
