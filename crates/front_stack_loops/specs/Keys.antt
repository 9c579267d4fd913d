-- The numbers under which readings are remembered.
use Rattle.std.specs.Prelude.{ℕ, ◌+◌, ◌*◌, Bool, true, false}
use Rattle.front_stack_domain.specs.declared.stack.Base as code_base
use Rattle.front_stack_domain.specs.declared.stack.Base.TheVariants as base
use Rattle.front_stack_domain.specs.declared.stack.Stack.{Stack}

abbrev pub base_number : code_base.Base → ℕ
base_number base.Empty = 0
base_number base.Blank = 1
base_number base.Any = 2

abbrev pub bit : Bool → ℕ
bit true = 1
bit false = 0

-- the number under which a reading is remembered
abbrev pub key_of : ℕ → Stack → ℕ
key_of node s = node * 32768 + (base_number s.base * 8192 + (s.count * 512 + (s.marks * 2 + bit s.intact)))
