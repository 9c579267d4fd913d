-- Kinds of builtins, by their names.
use Rattle.std.proofs.Common.{◌≡◌, Bool, true, false, Some, None, if◌then◌else◌, refl, sym, ◌∙◌, ap}
use Rattle.base_language.specs.Language.Text.{Text}
use Rattle.base_language.specs.Language.Builtins.{Property, builtin_of, builtins, general_categories, binary_properties, is_one_of, property_names, scripts}
use Rattle.base_language.specs.Language.Expression.{whitespace, comment}
use Rattle.front_names.proofs.BuiltinLemmas.{named_meaning, other_meaning}
use Rattle.front_names.specs.Builtins.{builtin_names, meaning_of, name_of}
use Rattle.front_names.specs.declared.builtin.Builtin.{Builtin}
use Rattle.front_stack_loops.specs.Names.{builtin_kind}
use Rattle.front_stack_loops.specs.declared.table.NodeKind.{NodeKind}
use Rattle.front_stack_loops.specs.declared.table.NodeKind.TheVariants as is

property_kind : (b : Bool) (n : Text) → builtin_kind (if b then Some (Property n) else None) ≡ is.Leaf
property_kind true n = refl
property_kind false n = refl

-- the name of a builtin of code
pub listed_kind : (b : Builtin) (n : Text) (k : NodeKind) → n ≡ name_of b → k ≡ builtin_kind (Some (meaning_of b)) → k ≡ builtin_kind (builtin_of n)
listed_kind b n k e h = h ∙ sym (ap builtin_kind (ap builtin_of e ∙ named_meaning b))

-- any other name
pub other_kind : (n : Text) → is_one_of builtin_names n ≡ false → is.Leaf ≡ builtin_kind (builtin_of n)
other_kind n h = sym (ap builtin_kind (other_meaning n h) ∙ property_kind (is_one_of property_names n) n)

pub whitespace_kind : builtin_kind (builtin_of whitespace) ≡ is.Leaf
unfolding whitespace builtins property_names general_categories binary_properties scripts
whitespace_kind = refl

pub comment_kind : builtin_kind (builtin_of comment) ≡ is.Leaf
unfolding comment builtins property_names general_categories binary_properties scripts
comment_kind = refl
