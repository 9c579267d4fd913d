-- The starts that the loop search remembers.
use Rattle.std.specs.Prelude.{Bool, List, map}
use Rattle.front_stack_domain.specs.Views.{stack_of}
use Rattle.front_stack_domain.specs.declared.stack.Stack.{Stack}

abbrev pub itself : Bool → Bool
itself b = b

-- the marks of the starts
abbrev pub marks_in : List Stack → List (List Bool)
marks_in ss = map (λ s. (stack_of s).marks) ss
