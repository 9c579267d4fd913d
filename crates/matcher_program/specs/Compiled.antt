-- Compiled rules and their source.
use Rattle.std.specs.Prelude.{◌≡◌, List, map}
use Rattle.base_language.specs.Language.Text.{Text}
use Rattle.base_language.specs.Language.Expression.{Expression, Grammar}
use Rattle.matcher_program.specs.declared.form.Form.{Form}
use Rattle.matcher_program.specs.declared.form.Property.{Property}
use Rattle.matcher_program.specs.Programs.{IsBound, expression_of}

abbrev pub names_in : Grammar → List Text
names_in g = map (λ r. r.name) g

-- the form represents the expression, and its names mean what they are resolved to
pub record Compiles (g : Grammar) (ps : List Property) (e : Expression) (f : Form) : Type 0 where
  pub says : expression_of (names_in g) f ≡ e
  pub bound : IsBound g (names_in g) ps f
