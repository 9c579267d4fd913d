-- Comments in order.
use Rattle.std.proofs.Common.{◌≡◌, ℕ, ◌<◌, ◌≤◌, List, [], ◌∷◌, ◌++◌, arith, inl, inr, true}
use Rattle.base_language.proofs.Surveys.{order}
use Rattle.format_grammar.specs.Gaps.{AreComments, HasNone, starts_comment}
use Rattle.format_grammar.specs.declared.gaps.Comment.{Comment}

pub none_here : (bytes : List ℕ) (m : ℕ) → HasNone bytes m m
none_here bytes m = λ k l r. absurd (omega (arith, l, r))

none_through : (bytes : List ℕ) (l m n : ℕ) → HasNone bytes l m → HasNone bytes m n → HasNone bytes l n
none_through bytes l m n g h = λ k a b. elim (order m k) [ inl below ↦ h k below b | inr above ↦ g k a above ]

pub up_to_later : (bytes : List ℕ) (from m n : ℕ) (cs : List Comment) → AreComments bytes from cs m → m ≤ n → HasNone bytes m n
    → AreComments bytes from cs n
up_to_later bytes from m n [] h l none = (omega (arith, h.0, l), none_through bytes from m n h.1 none)
up_to_later bytes from m n (c ∷ cs) h l none = (h.0, h.1, h.2, h.3, up_to_later bytes c.end m n cs h.4 l none)

pub one_comment_more : (bytes : List ℕ) (from m : ℕ) (cs : List Comment) (c : Comment) → AreComments bytes from cs m
    → m ≡ c.start → starts_comment bytes c.start ≡ true → c.start ≤ c.end → AreComments bytes from (cs ++ c ∷ []) c.end
one_comment_more bytes from m [] c h e starts l = (
  omega (arith, h.0, e),
  λ k a b. h.1 k a (omega (arith, b, e)),
  starts,
  l,
  (omega arith, none_here bytes c.end),
)
one_comment_more bytes from m (d ∷ ds) c h e starts l =
    (h.0, h.1, h.2, h.3, one_comment_more bytes d.end m ds c h.4 e starts l)
