-- Programs in sections.
use Rattle.std.specs.Prelude.{ℕ, List, if◌then◌else◌}
use Rattle.matcher_code.specs.Bytecodes.{sets_in}
use Rattle.matcher_code.specs.Lists.{CodeLists}
use Rattle.matcher_code.specs.Operations.{ops_in}
use Rattle.matcher_code.specs.Words.{pairs_in, parts_in, words_in}
use Rattle.matcher_code.specs.declared.ranges.RangeList.{RangeList}
use Rattle.format_code.specs.Sections.{section}

-- the lists of the program in some bytes
abbrev pub lists_at : List ℕ → CodeLists
lists_at bytes = record {
  ops = ops_in (section bytes 0);
  byte_sets = section bytes 1;
  sets = sets_in (section bytes 5) (parts_in (words_in (section bytes 3)) (pairs_in (section bytes 4)));
  tables = words_in (section bytes 2);
  texts = parts_in (words_in (section bytes 6)) (section bytes 7);
  lists = parts_in (words_in (section bytes 8)) (words_in (section bytes 9));
}

-- the byte that says whether ranges are in order
abbrev pub order_of : RangeList → ℕ
order_of r = if r.is_sorted then 1 else 0
