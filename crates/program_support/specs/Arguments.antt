-- The arguments that commands take.
use Rattle.std.specs.Prelude.{◌≡◌, ℕ, false, List, Option, Some, None, map}
use Rattle.clap.specs.Simple.{app_of}
use Rattle.clap.specs.Walk.{Rule, rule_of}
use Rattle.clap.specs.declared.builder.action.ArgAction.{ArgAction}
use Rattle.clap.specs.declared.builder.action.ArgAction.TheVariants.{Append, SetTrue}
use Rattle.clap.specs.declared.builder.arg.Arg.{Arg}
use Rattle.clap.specs.declared.builder.command.Command.{Command}

-- an argument's name, that of its option, and what a use of it does, if it does not just set its value
abbrev pub Form : Type 0
Form = List ℕ × Option (List ℕ) × Option ArgAction

abbrev pub form_of_rule : Rule → Form
form_of_rule rule = (rule.id, rule.long, rule.action)

abbrev pub form_of : Arg → Form
form_of argument = form_of_rule (rule_of argument)

-- an argument of this form, which subcommands do not share
abbrev pub HasForm : Form → Arg → Type 0
HasForm form argument = (form_of argument ≡ form) × (argument.global ≡ false)

-- the arguments of a command, in order
abbrev pub arguments_of : Command → List Form
arguments_of command = map form_of_rule (app_of command).top.rules

-- `--NAME`, without a value, with one, and with one each time
abbrev pub flag : List ℕ → Form
flag name = (name, Some name, Some SetTrue)

abbrev pub option : List ℕ → Form
option name = (name, Some name, None)

abbrev pub options : List ℕ → Form
options name = (name, Some name, Some Append)

-- an argument without a name on the command line, and several
abbrev pub positional : List ℕ → Form
positional name = (name, None, None)

abbrev pub positionals : List ℕ → Form
positionals name = (name, None, Some Append)
