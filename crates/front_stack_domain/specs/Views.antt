-- Views of the code's values.
use Rattle.std.specs.Prelude.{Option}
use Rattle.std.specs.Option.{option_map}
use Rattle.front_stack_domain.specs.Marks.{marks_of}
use Rattle.front_stack_domain.specs.Stack as is
use Rattle.front_stack_domain.specs.Stack.{AbstractStack}
use Rattle.front_stack_domain.specs.Reading as says
use Rattle.front_stack_domain.specs.declared.stack.Base as code_base
use Rattle.front_stack_domain.specs.declared.stack.Base.TheVariants as base
use Rattle.front_stack_domain.specs.declared.stack.Stack.{Stack}
use Rattle.front_stack_domain.specs.declared.reading.Reading.{Reading}
use Rattle.front_stack_domain.specs.declared.reading.Walk.{Walk}

abbrev pub base_of : code_base.Base → is.Base
base_of base.Empty = is.Empty
base_of base.Blank = is.Blank
base_of base.Any = is.Any

abbrev pub stack_of : Stack → AbstractStack
stack_of s = record { base = base_of s.base; marks = marks_of s.count s.marks; intact = s.intact }

abbrev pub possible : Option Stack → Option AbstractStack
possible o = option_map stack_of o

abbrev pub reading_of : Reading → says.Reading
reading_of r = record { ok = possible r.ok; err = possible r.err; still = r.still }

abbrev pub walk_of : Walk → says.Walk
walk_of w = record { here = possible w.here; failing = w.failing; still = w.still }
