-- Left recursion as a relation between names.
use Rattle.std.specs.Prelude.{◌≡◌, ◌⊎◌, ℕ, [], ◌∷◌, Some, bytes_eq, if◌then◌else◌}
use Rattle.base_language.specs.Language.Text.{Text}
use Rattle.base_language.specs.Language.Expression.{Expression, Ident, PosPred, NegPred, Seq, Choice, Opt, Rep, RepOnce, RepExact, RepMin, RepMax, RepMinMax, Push, RestoreOnErr, Rule, Grammar, rule_of, NodeTag}
use Rattle.base_language.specs.Language.WellFormed.{IsNullable, CannotFail}

-- the other rules
abbrev pub without : Text → Grammar → Grammar
without n [] = []
without n (r ∷ g) = if bytes_eq r.name n then without n g else (r ∷ without n g)

-- `Walked g v e n`: in the body of v, of which e is a part, the walk over e comes to a call of n.
-- The right side of `~` is walked where the left is nullable or can't fail, a call of v counting as neither.
module _ (g : Grammar) (v : Text) where
  pub data Walked : Expression → Text → Type 0 where
    w_name : {n : Text} → Walked (Ident n) n
    w_first : {a b : Expression} {n : Text} → Walked a n → Walked (Seq a b) n
    w_second : {a b : Expression} {n : Text} → IsNullable (without v g) a ⊎ CannotFail (without v g) a
        → Walked b n → Walked (Seq a b) n
    w_pos_pred : {e : Expression} {n : Text} → Walked e n → Walked (PosPred e) n
    w_neg_pred : {e : Expression} {n : Text} → Walked e n → Walked (NegPred e) n
    w_left : {a b : Expression} {n : Text} → Walked a n → Walked (Choice a b) n
    w_right : {a b : Expression} {n : Text} → Walked b n → Walked (Choice a b) n
    w_opt : {e : Expression} {n : Text} → Walked e n → Walked (Opt e) n
    w_rep : {e : Expression} {n : Text} → Walked e n → Walked (Rep e) n
    w_rep_once : {e : Expression} {n : Text} → Walked e n → Walked (RepOnce e) n
    w_rep_exact : {e : Expression} {n : Text} {i : ℕ} → Walked e n → Walked (RepExact e i) n
    w_rep_min : {e : Expression} {n : Text} {i : ℕ} → Walked e n → Walked (RepMin e i) n
    w_rep_max : {e : Expression} {n : Text} {i : ℕ} → Walked e n → Walked (RepMax e i) n
    w_rep_min_max : {e : Expression} {n : Text} {i j : ℕ} → Walked e n → Walked (RepMinMax e i j) n
    w_push : {e : Expression} {n : Text} → Walked e n → Walked (Push e) n
    w_tag : {e : Expression} {n t : Text} → Walked e n → Walked (NodeTag e t) n
    w_restore : {e : Expression} {n : Text} → Walked e n → Walked (RestoreOnErr e) n

-- the walk from n comes to k, directly or by way of others
pub data WalkLeads (g : Grammar) : Text → Text → Type 0 where
  w_at_once : {n k : Text} {r : Rule} → rule_of g n ≡ Some r → Walked g n r.body k → WalkLeads g n k
  w_by_way : {n j k : Text} → WalkLeads g n j → WalkLeads g j k → WalkLeads g n k
