-- What is joined, and what is skipped to, is one at most.
use Rattle.std.proofs.Common.{◌≡◌, refl, sym, ◌∙◌, ap, subst, List, codes}
use Rattle.base_language.specs.Language.Text.{Text}
use Rattle.base_language.specs.Language.Expression.{Expression, Str, Insens, Ident, NegPred, Seq, Rep, Skip, RuleType, Grammar}
use Rattle.base_language.specs.Rewritings.Rewriting.{Within, here, in_rep, in_neg_pred, in_seq_left, in_seq_right, in_choice_left, in_choice_right, IsDone, Joins, join_literals, join_insensitive, SkipsUntil, skip_until, Strings, one, named, more}
use Rattle.base_language.proofs.Basics.{same_some}
use Rattle.front_optimizer.proofs.OneEnd.{one_end}

-- 1. literals
in_literal : {y : RuleType} {t : Text} {b : Expression} → Within (Joins y) (Str t) b → ⊥
in_literal (here j) = elim j [ ]

in_insensitive : {y : RuleType} {t : Text} {b : Expression} → Within (Joins y) (Insens t) b → ⊥
in_insensitive (here j) = elim j [ ]

joins_alone : (y : RuleType) (a b c : Expression) → Joins y a b → Within (Joins y) a c → b ≡ c
joins_alone y _ _ _ join_literals (here join_literals) = refl
joins_alone y _ _ _ join_literals (in_seq_left w) = absurd (in_literal w)
joins_alone y _ _ _ join_literals (in_seq_right w) = absurd (in_literal w)
joins_alone y _ _ _ join_insensitive (here join_insensitive) = refl
joins_alone y _ _ _ join_insensitive (in_seq_left w) = absurd (in_insensitive w)
joins_alone y _ _ _ join_insensitive (in_seq_right w) = absurd (in_insensitive w)

pub one_joining : (y : RuleType) (a b c : Expression) → IsDone (Joins y) a b → IsDone (Joins y) a c → b ≡ c
one_joining y a b c = one_end (Joins y) (joins_alone y)

-- 2. strings
abbrev pub inner : Expression → Expression
inner (Rep (Seq (NegPred c) d)) = c
inner e = e

module _ (g : Grammar) where
  one_list : {e : Expression} {ts us : List Text} → Strings g e ts → Strings g e us → ts ≡ us
  one_list one one = refl
  one_list (named h d) (named {ts = us} i f) =
      let q = same_some (sym h ∙ i) in
      one_list d (subst (λ r. Strings g r.body us) (sym q) f)
  one_list (more k s t) (more l u v) =
      let p = one_list s u in
      let q = one_list t v in cc

  no_turn_in : {y : RuleType} {e b : Expression} {ts : List Text} → Strings g e ts → Within (SkipsUntil g y) e b → ⊥
  no_turn_in one (here r) = elim r [ ]
  no_turn_in (named h d) (here r) = elim r [ ]
  no_turn_in (more l s t) (here r) = elim r [ ]
  no_turn_in (more l s t) (in_choice_left w) = no_turn_in s w
  no_turn_in (more l s t) (in_choice_right w) = no_turn_in t w

  in_name : {y : RuleType} {t : Text} {x : Expression} → Within (SkipsUntil g y) (Ident t) x → ⊥
  in_name (here r) = elim r [ ]

  within_turn : {y : RuleType} {c b : Expression} {ts : List Text} {t : Text} → Strings g c ts → Within (SkipsUntil g y) (Seq (NegPred c) (Ident t)) b → ⊥
  within_turn s (here r) = elim r [ ]
  within_turn s (in_seq_left (here r)) = elim r [ ]
  within_turn s (in_seq_left (in_neg_pred w)) = no_turn_in s w
  within_turn s (in_seq_right w) = in_name w

  -- what a turn is, and what it becomes
  record Turn (a b : Expression) : Type 0 where
    until : Expression
    strings : List Text
    is : a ≡ Rep (Seq (NegPred until) (Ident (codes "ANY")))
    becomes : b ≡ Skip strings
    found : Strings g until strings

  turn : {y : RuleType} {a b : Expression} → SkipsUntil g y a b → Turn a b
  turn (skip_until {c} {ts} s) = record { until = c; strings = ts; is = refl; becomes = refl; found = s }

  same_turn : {a b c : Expression} → Turn a b → Turn a c → b ≡ c
  same_turn s t =
      let e : s.until ≡ t.until = ap inner (sym s.is ∙ t.is) in
      let k = one_list (subst (λ x. Strings g x s.strings) e s.found) t.found in
      s.becomes ∙ ap Skip k ∙ sym t.becomes

  skips_alone : (y : RuleType) (a b c : Expression) → SkipsUntil g y a b → Within (SkipsUntil g y) a c → b ≡ c
  skips_alone y _ _ _ r (here q) = same_turn (turn r) (turn q)
  skips_alone y _ _ _ (skip_until s) (in_rep w) = absurd (within_turn s w)
  skips_alone y _ _ _ r _ = elim r [ ]

pub one_skipping : (g : Grammar) (y : RuleType) (a b c : Expression) → IsDone (SkipsUntil g y) a b → IsDone (SkipsUntil g y) a c → b ≡ c
one_skipping g y a b c = one_end (SkipsUntil g y) (skips_alone g y)
