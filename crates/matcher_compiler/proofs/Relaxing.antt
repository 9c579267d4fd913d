-- Exact code does what other code does.
use Rattle.std.proofs.Common.{refl, ℕ, inl, inr, Bool, true, false, List}
use Rattle.base_language.specs.Language.Expression.{Grammar}
use Rattle.base_language.specs.Language.Meaning.{Task}
use Rattle.base_language.specs.Language.State.{Classes}
use Rattle.base_language.specs.Language.Text.{Text}
use Rattle.matcher_code.specs.Lists.{CodeLists}
use Rattle.matcher_code.specs.Laid as lay
use Rattle.matcher_code.specs.Laid.{Enters, EntersTurn, HasTrivia, HasTable, HasTest, Lays}
use Rattle.matcher_code.specs.declared.state.Places.{Places}
use Rattle.matcher_code.specs.Reached.{MayAsk}
use Rattle.matcher_program.specs.declared.form.Program.{Program}
use Rattle.matcher_compiler.specs.Compiled.{IsCodeOf}

module _ (exact : Bool) (g : Grammar) (classes : Classes) (code : CodeLists) where
  enters : (k : Task) (l j w : ℕ) → Enters exact g classes code k l j w → Enters false g classes code k l j w
  enters k l j w (inl e) = inl e
  enters k l j w (inr t) = inr (record {
    set = t.set;
    ranges = t.ranges;
    noted = t.noted;
    allowed = refl;
    miss = t.miss;
    tested = t.tested;
    is = t.is;
    fails = t.fails;
    goes = t.goes;
  })

  enters_turn : (k : Task) (l j w : ℕ) → EntersTurn exact g classes code k l j w → EntersTurn false g classes code k l j w
  enters_turn k l j w (inl e) = inl (enters k l j w e)
  enters_turn k l j w (inr t) = inr t

  table : (k : Task) (l first j n w : ℕ) → HasTable exact g classes code k l first j n w → HasTable false g classes code k l first j n w
  table k l first j n w t = record {
    table = t.table;
    set = t.set;
    ranges = t.ranges;
    noted = t.noted;
    allowed = refl;
    switched = t.switched;
    is = t.is;
    fails = t.fails;
    branches = t.branches;
  }

  may_ask : (b : Bool) (text : List ℕ) (asked : Places) → MayAsk false text asked → MayAsk b text asked
  may_ask true text asked h = tt
  may_ask false text asked h = h

  trivia : (number : Text → ℕ) (q k : Task) (l j n : ℕ) → HasTrivia exact g classes code number q k l j n → HasTrivia false g classes code number q k l j n
  trivia number q k l j n x =
      record { behind = x.behind; skips = x.skips; goes = λ text s c at asks. x.goes text s c at (may_ask exact text c.asked asks) }

  module _ (number : Text → ℕ) (laid : List lay.Point) (rank : ℕ) where
    pub lays : {k : Task} {l n w : ℕ} → Lays exact g classes code number laid rank k l n w → Lays false g classes code number laid rank k l n w
    lays (lay.leaf f failures has performs) = lay.leaf f failures has performs
    lays (lay.read f free reads has performs) = lay.read f free reads has performs
    lays (lay.nothing t) = lay.nothing t
    lays (lay.call r first last counts h t i a p z) = lay.call r first last counts h t i a p z
    lays (lay.sub r first last h t a p z) = lay.sub r first last h t a p z
    lays (lay.in_place r h t p) = lay.in_place r h t p
    lays (lay.tag p) = lay.tag p
    lays (lay.restore p) = lay.restore p
    lays (lay.pos_pred first last a p z) = lay.pos_pred first last a p z
    lays (lay.push first last a p z) = lay.push first last a p z
    lays (lay.neg_pred first last a p z) = lay.neg_pred first last a p z
    lays (lay.seq j k a b c) = lay.seq j k a b c
    lays (lay.tried_seq first j k last t a b c z) = lay.tried_seq first j k last t a b c z
    lays (lay.trivia_seq j k a b c) = lay.trivia_seq j k a (trivia number _ _ _ _ _ b) c
    lays (lay.set_seq k t b c) = lay.set_seq k t (trivia number _ _ _ _ _ b) c
    lays (lay.choice j first second u a p b q) = lay.choice j first second u (enters _ _ _ _ a) p (enters _ _ _ _ b) q
    lays (lay.switched_choice j first second u a p b q) = lay.switched_choice j first second u (table _ _ _ _ _ _ a) p (enters _ _ _ _ b) q
    lays (lay.opt first u a p) = lay.opt first u (enters _ _ _ _ a) p
    lays (lay.tight_rep first t e u a p) = lay.tight_rep first t e u (enters_turn _ _ _ _ a) p
    lays (lay.rep start turn trivia first last u a x y p q z) = lay.rep start turn trivia first last u (enters _ _ _ _ a) x y p q z
    lays (lay.tight_turns first t e u a p) = lay.tight_turns first t e u (enters_turn _ _ _ _ a) p
    lays (lay.turns trivia first last a p q z) = lay.turns trivia first last a p q z
    lays (lay.called_seq start j k first turn end a b q y x z) = lay.called_seq start j k first turn end a b q y x z
    lays (lay.called_rep first turn a x) = lay.called_rep first turn a x
    lays (lay.called_turns first x) = lay.called_turns first x
    lays (lay.rep_once p) = lay.rep_once p
    lays (lay.rep_min_max p) = lay.rep_min_max p
    lays (lay.skips p) = lay.skips p
    lays (lay.routine first last a p z) = lay.routine first last a p z

pub relaxed : (exact : Bool) (p : Program) (code : CodeLists) → IsCodeOf exact p code → IsCodeOf false p code
relaxed exact p code h = record {
  ends = h.ends;
  points = h.points;
  laid = λ classes fits k l n w x. lays exact _ classes code _ h.points x.rank (h.laid classes fits k l n w x);
  entries = h.entries;
}
