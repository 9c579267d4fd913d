-- The messages of errors in the names and the rules of a grammar.
use Rattle.std.specs.Prelude.{ℕ, List, [], ◌++◌, codes}
use Rattle.front_names.specs.declared.messages.NameProblem.{NameProblem}
use Rattle.front_names.specs.declared.messages.NameProblem.TheVariants as problem_is

-- the text before the name
abbrev pub prefix : NameProblem → List ℕ
prefix problem_is.RustKeyword = []
prefix problem_is.PestKeyword = []
prefix problem_is.AlreadyDefined = codes "rule "
prefix problem_is.Undefined = codes "rule "

-- the text after the name
abbrev pub suffix : NameProblem → List ℕ
suffix problem_is.RustKeyword = codes " is a rust keyword"
suffix problem_is.PestKeyword = codes " is a pest keyword"
suffix problem_is.AlreadyDefined = codes " already defined"
suffix problem_is.Undefined = codes " is undefined"

-- the message about a name
abbrev pub about : NameProblem → List ℕ → List ℕ
about problem name = prefix problem ++ name ++ suffix problem

-- that the subject is repeated without end, since it always succeeds
abbrev pub cannot_fail : List ℕ → List ℕ
cannot_fail subject = subject ++ codes " cannot fail and will repeat infinitely"

-- that the subject may be repeated without end, since it may take nothing
abbrev pub non_progressing : List ℕ → List ℕ
non_progressing subject = subject ++ codes " is non-progressing and will repeat infinitely"

-- the subject of messages about the body of a repetition
abbrev pub repeated_expression : List ℕ
repeated_expression = codes "expression inside repetition"

-- that the alternatives after one are never tried
abbrev pub unreachable_choices : List ℕ
unreachable_choices = codes "expression cannot fail; following choices cannot be reached"

-- that a tag marks no token
abbrev pub tag_on_silent_rule : List ℕ
tag_on_silent_rule = codes "tags on silent rules will not appear in the output"

abbrev pub tag_on_builtin : List ℕ
tag_on_builtin = codes "tags on built-in rules will not appear in the output"

-- what separates the names of a cycle of calls
abbrev pub arrow : List ℕ
arrow = codes " -> "

-- that the rule of the name `call` comes back to itself, by calls of the rules whose names are `cycle`
abbrev pub left_recursion : List ℕ → List ℕ → List ℕ
left_recursion call cycle = codes "rule " ++ (call ++ (codes " is left-recursive (" ++ (cycle
    ++ codes "); pest::pratt_parser might be useful in this case")))
