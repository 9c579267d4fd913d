-- The tools and their names.
use Rattle.std.specs.Prelude.{ℕ, List, codes}
use Rattle.pest.specs.declared.tools.Tool.{Tool}
use Rattle.pest.specs.declared.tools.Tool.TheVariants as is

-- the name of a tool's command
abbrev pub command_name : Tool → List ℕ
command_name is.Check = codes "check"
command_name is.Lint = codes "lint"
command_name is.Fmt = codes "fmt"
command_name is.Run = codes "run"
command_name is.Doc = codes "doc"
command_name is.Lsp = codes "lsp"
command_name is.Test = codes "test"
command_name is.Example = codes "example"

-- the name of a tool's own program
abbrev pub program_name : Tool → List ℕ
program_name is.Check = codes "pest-check"
program_name is.Lint = codes "pest-lint"
program_name is.Fmt = codes "pest-fmt"
program_name is.Run = codes "pest-run"
program_name is.Doc = codes "pest-doc"
program_name is.Lsp = codes "pest-language-server"
program_name is.Test = codes "pest-test"
program_name is.Example = codes "pest-example"
