use Rattle.std.proofs.Common.{◌≡◌, ◌++◌, string_bytes}
use Rattle.std.specs.List.{flat_map}
use Rattle.doc_markup.specs.Escape.{visible_character}
use Rattle.doc_markup.proofs.escape.push_visible.Given as goal

abbrev pub invariant-loop-character : goal.invariant-loop-character
invariant-loop-character l =
    string_bytes l.page ≡ string_bytes l.fn.page ++ flat_map visible_character l.yielded
