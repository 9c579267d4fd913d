-- A table where calls of a rule count as neither.
use Rattle.std.specs.Prelude.{◌≡◌, ℕ, List, Bool, map, nat_eq, if◌then◌else◌}
use Rattle.front_analysis.specs.RightAnswers.{AreSound, AreClosed}
use Rattle.front_analysis.specs.declared.kind_table.NodeKind.{NodeKind}
use Rattle.front_analysis.specs.declared.kind_table.NodeKind.TheVariants as is
use Rattle.front_analysis.specs.declared.kind_table.Question.TheVariants as asks
use Rattle.front_analysis.specs.declared.kind_table.KindTable.{KindTable}

abbrev pub without_kind : ℕ → NodeKind → NodeKind
without_kind r (is.Call n) = if nat_eq n r then is.Taking else is.Call n
without_kind r (is.EndCall n) = if nat_eq n r then is.End else is.EndCall n
without_kind r k = k

pub record IsWithout (r : ℕ) (old new : KindTable) : Type 0 where
  pub kinds : new.kinds.items ≡ map (without_kind r) old.kinds.items
  pub roots : new.roots.items ≡ old.roots.items

-- these nodes may take nothing where calls of the rule count as neither
pub record AreAnswersWithout (r : ℕ) (old : KindTable) (answers : List Bool) : Type 0 where
  pub table : KindTable
  pub without_it : IsWithout r old table
  pub sound : AreSound asks.TakesNothing table answers
  pub closed : AreClosed asks.TakesNothing table answers
