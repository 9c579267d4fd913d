-- Positions within comments.
use Rattle.std.specs.Prelude.{◌≡◌, ◌<◌, ◌≤◌, ◌-◌, ℕ, List, [], ◌∷◌, drop, get_or, length}
use Rattle.matcher_code.specs.Comments.{closings}
use Rattle.matcher_code.specs.declared.comments.Closings.{Closings}

module _ (opening closing text : List ℕ) where
  -- the comment that goes on at a position ends at another one
  pub record IsEnd (from end : ℕ) : Type 0 where
    pub behind : from ≤ end
    pub within : end ≤ length text
    pub others : List (List ℕ)
    pub first : closings opening closing 0 (drop from text) ≡ drop end text ∷ others

  -- a given number of texts close comments around a position, and the one of that number, from the outermost
  -- on, ends there
  pub record IsAround (number at : ℕ) (c : Closings) : Type 0 where
    pub all : c.count ≡ length (closings opening closing 0 (drop at text))
    pub behind : 0 < number → number ≤ c.count → at ≤ c.end
    pub within : 0 < number → number ≤ c.count → c.end ≤ length text
    pub ends : 0 < number → number ≤ c.count
        → get_or (closings opening closing 0 (drop at text)) (c.count - number) [] ≡ drop c.end text

abbrev pub no_closings : Closings
no_closings = record { count = 0; end = 0 }
