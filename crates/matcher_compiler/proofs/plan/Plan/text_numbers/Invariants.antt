use Rattle.std.proofs.Common.{List, map, take}
use Rattle.base_ast.specs.Ast.{text_of}
use Rattle.matcher_code.specs.Lists.{CodeLists}
use Rattle.matcher_code.specs.Laid as lay
use Rattle.matcher_program.specs.declared.form.Program.{Program}
use Rattle.matcher_compiler.specs.Plans.{AreTexts, IsLater, Meets}
use Rattle.matcher_compiler.proofs.plan.Plan.text_numbers.Given as goal

abbrev pub invariant-loop-text : goal.invariant-loop-text
invariant-loop-text l = record {
  later : (p : Program) → IsLater p l.fn.self l.self;
  means : (p : Program) (code : CodeLists) (laid : List lay.Point) → Meets p l.self code laid
      → AreTexts code l.numbers.items (map text_of (take l.text-index l.texts.items));
}
