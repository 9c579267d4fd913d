-- The facts on builtins, copies, options and turns, and on tokens of `$` rules.
use Rattle.std.proofs.Common.{refl}
use Rattle.base_language.specs.Language.State.{Classes}
use Rattle.base_language.specs.Language.Expression.{whitespace, comment}
use Rattle.base_language.specs.Language.Builtins.{builtins, property_names, general_categories, binary_properties, scripts}
use Rattle.base_language.specs.Language.Meaning.{str, call, other, seq, seq_first, seq_second, opt, opt_none, rep, rep_none, rep_exact, rep_min, turn_none, skips, atomic, compound_atomic, between}
use Rattle.test_calling.specs.SmallGrammars.{CompoundInsideAtomic, CompoundComments}
use Rattle.test_calling.specs.SingleParts.{OnlyAtTheStart, HexDigits, AsksTheSet, TwoCopies, Options, LaterTurnsFail}

module _ (classes : Classes) where
  pub only_at_the_start : OnlyAtTheStart classes
  unfolding builtins
  only_at_the_start = record { before_text = other refl refl; behind = other refl refl; at_the_end = other refl refl }

  pub hex_digits : HexDigits classes
  unfolding builtins
  hex_digits = record { digit = other refl refl; small = other refl refl; capital = other refl refl; past_f = other refl refl; at_the_end = other refl refl }

  pub asks_the_set : AsksTheSet classes
  unfolding builtins property_names general_categories binary_properties scripts
  asks_the_set = record {
    among = λ h. other refl (rw h refl);
    not_among = λ h. other refl (rw h refl);
    at_the_end = other refl refl;
  }

  pub two_copies : TwoCopies classes
  two_copies = record {
    exactly = rep_exact (seq_second str atomic str);
    at_least = rep_min (seq_second str atomic (seq_first str));
    exactly_of_three = rep_exact (seq str atomic str);
    at_least_of_three = rep_min (seq str atomic (seq str atomic (rep str (turn_none atomic str))));
  }

  pub options : Options classes
  options = record { succeeds = opt str; fails = opt_none str }

  pub later_turns_fail : LaterTurnsFail classes
  unfolding whitespace comment
  later_turns_fail = record {
    taken = rep (seq str atomic str) (turn_none atomic (seq_second str atomic str));
    skipped = call refl (rep str (turn_none
        (skips (seq (rep (call refl str) (turn_none between (call refl str))) between (rep_none (seq_first (other refl refl)))))
        str));
  }

  pub compound_inside_atomic : CompoundInsideAtomic classes
  unfolding whitespace comment
  compound_inside_atomic = call refl (call refl str)

  pub compound_comments : CompoundComments classes
  unfolding whitespace comment
  compound_comments = record {
    declared = call refl (seq str
        (skips (seq (rep_none (other refl refl)) between
        (rep (seq (call refl (seq str compound_atomic (call refl str))) between (rep_none (other refl refl)))
        (turn_none between (seq_first (call refl (seq_first str)))))))
        str);
    plain = call refl (seq str
        (skips (seq (rep_none (other refl refl)) between
        (rep (seq (call refl (seq str atomic (call refl str))) between (rep_none (other refl refl)))
        (turn_none between (seq_first (call refl (seq_first str)))))))
        str);
  }
