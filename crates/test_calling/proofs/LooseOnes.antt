-- The facts on the meaning in which a failure leaves a stack.
use Rattle.std.proofs.Common.{refl}
use Rattle.base_language.specs.Language.State.{Classes}
use Rattle.base_language.specs.Language.Expression.{whitespace, comment}
use Rattle.base_language.specs.Language.Builtins.{builtins, property_names, general_categories, binary_properties, scripts}
use Rattle.base_language.specs.Language.Meaning.{other, right, restore, call, rep_once, seq, str, skips, rep_none, seq_first, between}
use Rattle.base_language.specs.Language.LooseMeaning.{loose_other, loose_right, loose_restore, loose_rep_exact, loose_call, loose_rep_once, loose_seq, loose_str, loose_skips, loose_rep_none, loose_seq_first, loose_between}
use Rattle.test_calling.specs.LooseRuns.{FailuresLose, GoesOnFromWhatIsLeft, RepeatsInBoth}

module _ (classes : Classes) where
  pub failures_lose : FailuresLose classes
  unfolding builtins
  failures_lose = record {
    pop = loose_other refl refl;
    pop_all = loose_other refl refl;
    peek = loose_other refl refl;
    one_copy = loose_rep_exact (loose_other refl refl);
  }

  pub goes_on : GoesOnFromWhatIsLeft classes
  unfolding builtins
  goes_on = record {
    loosely = loose_right (loose_other refl refl) (loose_other refl refl);
    strictly = right (other refl refl) (other refl refl);
    wrapped = loose_right (loose_restore (loose_other refl refl)) (loose_other refl refl);
    wrapped_strictly = right (restore (other refl refl)) (other refl refl);
  }

  pub repeats_in_both : RepeatsInBoth classes
  unfolding whitespace comment builtins property_names general_categories binary_properties scripts
  repeats_in_both = record {
    strictly = call refl (rep_once (seq str (skips (seq (rep_none (other refl refl)) between (rep_none (seq_first (other refl refl))))) (rep_none str)));
    loosely = loose_call refl (loose_rep_once (loose_seq loose_str (loose_skips (loose_seq (loose_rep_none (loose_other refl refl)) loose_between (loose_rep_none (loose_seq_first (loose_other refl refl))))) (loose_rep_none loose_str)));
  }
