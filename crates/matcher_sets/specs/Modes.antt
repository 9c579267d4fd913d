-- Modes of the code.
use Rattle.base_language.specs.Language.State as language
use Rattle.base_language.specs.Language.State.{AtomicMode, CompoundAtomicMode, NonAtomicMode}
use Rattle.matcher_sets.specs.declared.modes.Atomicity.{Atomicity}
use Rattle.matcher_sets.specs.declared.modes.Atomicity.TheVariants as mode

-- a mode of the code, as one of the language
abbrev pub mode_of : Atomicity → language.Mode
mode_of mode.NonAtomic = NonAtomicMode
mode_of mode.Atomic = AtomicMode
mode_of mode.CompoundAtomic = CompoundAtomicMode
