-- Fixes, and the errors behind them.
use Rattle.std.proofs.Common.{◌≡◌, ℕ, ◌+◌, ◌-◌, ◌<◌, ◌≤◌, Bool, List, Option, arith, length, nat_lt, string_bytes, subst, sym, true}
use Rattle.lint_findings.specs.Fixes.{AreFixed, IsApplied, IsBehind, IsErrorOf, IsFixed, IsFurther, is_allowed, more}
use Rattle.std.proofs.lemmas.Bool.{ltb-true}
use Rattle.base_language.specs.declared.grammar.Rule.{Rule}
use Rattle.base_language.specs.declared.grammar.Rule.TheVariants.{grammar_rules}
use Rattle.base_language.specs.declared.runtime.errors.Error.{Error}
use Rattle.lint_hints.specs.declared.help.Fix.{Fix}
use Rattle.front_syntax.specs.Parses.{FailsAt, IsRefused, IsSyntaxError}

-- a byte after a replacement, by subtractions
pub behind_fix : (error : ℕ) (fix : Fix) (place written : ℕ) → fix.start ≤ place → written ≤ place - fix.start → written ≡ length (string_bytes fix.replacement)
    → error < fix.end + (place - fix.start - written) → IsBehind error fix place
behind_fix error fix place written after fits same further = record {
  behind = place - fix.start - written;
  of_fixed = omega (arith, after, fits, same);
  further = further;
}

-- the rest after a subtraction
pub below_sum : (error end behind : ℕ) → nat_lt (error - end) behind ≡ true → error < end + behind
below_sum error end behind h =
    let less : error - end < behind = ltb-true (error - end) behind h in
    omega (arith, less)

-- a refused text fails where its error is
pub fails_there : (text : List ℕ) (errors : List (Error Rule)) (place : ℕ) → IsRefused grammar_rules text errors → ((t : List ℕ) (p : ℕ) → IsSyntaxError t p errors → place ≡ p)
    → FailsAt grammar_rules text place
fails_there text errors place refused told = subst (FailsAt grammar_rules text) (sym (told text refused.place refused.says)) refused.fails

-- a fix, from its parts
pub fixed_by : (takes : Bool) (text next : List ℕ) (fix : Fix) (error : ℕ) (left : Option ℕ) → FailsAt grammar_rules text error → is_allowed takes fix.applicability ≡ true
    → IsApplied text fix next → IsErrorOf next left → IsFurther error fix left → IsFixed takes text next × IsErrorOf next left
fixed_by takes text next fix error left fails allowed applied again further = (
  record {
    error = error;
    fails = fails;
    fix = fix;
    allowed = allowed;
    applied = applied;
    left = left;
    read_again = again;
    further = further;
  },
  again,
)

-- one fix more
pub one_more : (takes : Bool) (text earlier last : List ℕ) (count n : ℕ) → AreFixed takes text n earlier → n ≡ count → IsFixed takes earlier last
    → AreFixed takes text (count + 1) last
one_more takes text earlier last count n h e f = subst (λ m. AreFixed takes text (m + 1) last) e (more n earlier last h f)
