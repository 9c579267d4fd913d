-- The status of files, one after another.
use Rattle.std.proofs.Common.{◌≡◌, ◌≢◌, ◌≤◌, ◌<◌, ◌⊎◌, ◌∙◌, ◌+◌, ℕ, List, [], ◌∷◌, ◌++◌, append-nil, arith, codes, drop, get_or, inl, inr, length, max, refl, subst, sym, take, take-append-drop}
use Rattle.std.proofs.lemmas.List.{take_all, take_more}
use Rattle.std.specs.Prelude.{IsUtf8, String, string_bytes}
use Rattle.std.specs.declared.alloc.Global.{Global}
use Rattle.format_grammar.specs.declared.LineEnds.{LineEnds}
use Rattle.pest_fmt.specs.Files.AreOfNames.{more, none}
use Rattle.pest_fmt.specs.Files.{AreOfNames, IsOfFile, IsOfName, IsOfRun, IsTargetFor}
use Rattle.pest_fmt.specs.declared.arguments.Target.{Target}
use Rattle.program_support.specs.Statuses.{status_code}
use Rattle.program_support.specs.declared.status.Status.{Status}

pub target_for : (asked target : Target) (name other : List ℕ) → name ≡ other → IsTargetFor asked name target → IsTargetFor asked other target
target_for asked target name other same h = subst (λ (n : List ℕ). IsTargetFor asked n target) same h

module _ (line_ends : LineEnds) (asked : Target) (names : List (String Global)) where
  -- one more file
  pub one_more : (i : ℕ) (d : String Global) (target : Target) (so_far one status : Status) → i < length names → AreOfNames line_ends asked (take i names) so_far
      → IsTargetFor asked (string_bytes (get_or names i d)) target → IsOfFile line_ends target one → status_code status ≡ max (status_code so_far) (status_code one)
      → AreOfNames line_ends asked (take (i + 1) names) status
  one_more i d target so_far one status lt before for_it of_it worse =
      subst (λ ns. AreOfNames line_ends asked ns status) (sym (take_more names i d lt))
      (more (get_or names i d) one status before (target, for_it, of_it) worse)

  -- all files
  pub whole : (i : ℕ) (status : Status) → length names ≤ i → AreOfNames line_ends asked (take i names) status → IsOfRun line_ends asked names status
  whole i status le are = record {
    done = names;
    left = [];
    whole = sym (append-nil names);
    are = subst (λ ns. AreOfNames line_ends asked ns status) (take_all i names le) are;
    ended = inl refl;
  }

  -- those up to one that can't be written
  pub cut : (i : ℕ) (status : Status) → status_code status ≡ 4 → AreOfNames line_ends asked (take i names) status → IsOfRun line_ends asked names status
  cut i status four are = record {
    done = take i names;
    left = drop i names;
    whole = sym (take-append-drop i names);
    are = are;
    ended = inr four;
  }
