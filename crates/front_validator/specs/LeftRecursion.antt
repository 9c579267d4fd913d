-- Left recursion, as the validator searches it: depth first from the body of a rule in the order of the
-- text, and through the rules called.
use Rattle.std.specs.Prelude.{◌≡◌, ◌⊎◌, ℕ, List, [], ◌∷◌, ◌++◌, Option, Some, None, slice_get, flat_map}
use Rattle.std.specs.List.{Contains}
use Rattle.std.specs.Str.{encode_utf8_all}
use Rattle.base_language.specs.Pieces.Saying.{written}
use Rattle.base_language.specs.Language.Text.{Text}
use Rattle.base_language.specs.Language.Expression.{Expression, Ident, Grammar, last_place}
use Rattle.base_language.specs.Language.WellFormed.{IsNullable, CannotFail}
use Rattle.front_names.specs.Messages.{arrow, left_recursion}
use Rattle.front_spanned.specs.Erasure.{without_spans, rules_without_spans}
use Rattle.front_spanned.specs.Spanned.{Span, Spanned, Leaf, One, Two, Unary, Binary, Seq, Choice, SpannedRule}
use Rattle.front_validator.specs.Walk.{without}

-- a call of the first rule of a trail: the indices of the rules of the trail, and the span of the call
pub record Closed : Type 0 where
  pub trail : List ℕ
  pub call : Span

-- an expression without operands that is no name
abbrev pub IsNoName : Expression → Type 0
IsNoName (Ident n) = ⊥
IsNoName _ = Unit {0}

-- the name of a rule, if there is one, in bytes
abbrev pub name_at : Option SpannedRule → List ℕ
name_at None = []
name_at (Some r) = encode_utf8_all r.name

module _ (rules : List SpannedRule) where
  abbrev pub said : Grammar
  said = rules_without_spans rules

  -- a call of this name means the rule at this index, the last of the name
  abbrev pub Means : Text → ℕ → Type 0
  Means n k = last_place said n ≡ Some k

  -- an expression may take nothing or cannot fail, where a call of v may not, and can
  abbrev pub Passes : Text → Spanned → Type 0
  Passes v x = IsNullable (without v said) (without_spans x) ⊎ CannotFail (without v said) (without_spans x)

  -- `Walks start trail v x found`: the walk over x, a part of the body of the rule v at the end of the trail,
  -- comes first to this call of `start`, or to none
  pub data Walks (start : ℕ) : List ℕ → Text → Spanned → Option Closed → Type 0 where
    walks_over : {c : List ℕ} {v : Text} {s : Span} {e : Expression} → IsNoName e
        → Walks start c v (Leaf s e) None
    walks_closing : {c : List ℕ} {v n : Text} {s : Span} → Means n start
        → Walks start c v (Leaf s (Ident n)) (Some (record { trail = c; call = s }))
    walks_outside : {c : List ℕ} {v n : Text} {s : Span} → last_place said n ≡ None
        → Walks start c v (Leaf s (Ident n)) None
    walks_again : {c : List ℕ} {v n : Text} {s : Span} {k : ℕ} → Means n k → (k ≡ start → ⊥) → Contains c k
        → Walks start c v (Leaf s (Ident n)) None
    walks_into : {c : List ℕ} {v n : Text} {s : Span} {k : ℕ} {r : SpannedRule} {o : Option Closed}
        → Means n k → (k ≡ start → ⊥) → (Contains c k → ⊥) → slice_get rules k ≡ Some r
        → Walks start (c ++ k ∷ []) r.name r.body o
        → Walks start c v (Leaf s (Ident n)) o
    walks_inside : {c : List ℕ} {v : Text} {s : Span} {f : Unary} {x : Spanned} {o : Option Closed}
        → Walks start c v x o → Walks start c v (One s f x) o
    walks_first : {c : List ℕ} {v : Text} {s : Span} {f : Binary} {x y : Spanned} {z : Closed}
        → Walks start c v x (Some z) → Walks start c v (Two s f x y) (Some z)
    walks_second : {c : List ℕ} {v : Text} {s : Span} {x y : Spanned} {z : Closed}
        → Walks start c v x None → Passes v x → Walks start c v y (Some z)
        → Walks start c v (Two s Seq x y) (Some z)
    walks_neither : {c : List ℕ} {v : Text} {s : Span} {x y : Spanned}
        → Walks start c v x None → (Passes v x → Walks start c v y None)
        → Walks start c v (Two s Seq x y) None
    walks_other : {c : List ℕ} {v : Text} {s : Span} {x y : Spanned} {o : Option Closed}
        → Walks start c v x None → Walks start c v y o → Walks start c v (Two s Choice x y) o

  -- the names of the rules of a trail, with an arrow after every name
  abbrev pub arrows : List ℕ → List ℕ
  arrows trail = flat_map (λ k. name_at (slice_get rules k) ++ arrow) trail

  -- the message of a call that closes a trail: the call as it is written, and the names of the trail up
  -- to that of the first rule again
  abbrev pub trail_message : SpannedRule → Closed → List ℕ
  trail_message first closed =
      left_recursion (written closed.call) (arrows closed.trail ++ encode_utf8_all first.name)
