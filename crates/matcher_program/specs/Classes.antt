-- Sets that fit properties.
use Rattle.std.specs.Prelude.{List, [], ◌∷◌, false, bytes_eq, if◌then◌else◌}
use Rattle.base_ast.specs.Ast.{text_of}
use Rattle.base_language.specs.Language.State.{Classes}
use Rattle.matcher_program.specs.declared.form.Property.{Property}
use Rattle.matcher_program.specs.Programs.{is_in_ranges}

-- sets that fit properties, if any do: of each name that of the first property
abbrev pub classes_in : List Property → Classes
classes_in [] n c = false
classes_in (p ∷ ps) n c =
    if bytes_eq (text_of p.name) n then is_in_ranges p.ranges.items c else classes_in ps n c
