-- Which fault it is.
use Rattle.std.specs.Prelude.{⊤}
use Rattle.base_language.specs.declared.runtime.faults.Fault.{Fault}
use Rattle.base_language.specs.declared.runtime.faults.Fault.TheVariants.{Memory, Grammar}

-- memory was refused
abbrev pub IsMemory : Fault → Type 0
IsMemory (Memory e) = ⊤
IsMemory (Grammar errors) = ⊥
