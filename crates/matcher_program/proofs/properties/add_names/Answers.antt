use Rattle.std.proofs.Common.{◌≡◌, ◌++◌, ap, ◌∙◌}
use Rattle.base_ast.specs.Optimized.{optimized_expression_of}
use Rattle.matcher_program.specs.Forming.{own_call}
use Rattle.matcher_program.proofs.Gathering.{no_text, one_text, part_gathered, texts}
use Rattle.matcher_program.proofs.properties.add_names.Goals as goal
use Rattle.matcher_program.proofs.properties.add_names.Goals.{in-Ident+in_ok-push-2, in_default-part}

pub parts-preserved : goal.parts-preserved
parts-preserved c =
    let before = c.parts.names.items in
    let more : texts c.match-part.names.items ≡ texts before ++ own_call (optimized_expression_of c.in-Some.part.now) = elim c.match-part.branch [
      | in-Ident+in_ok-push-2 w ↦ one_text before c.match-part.names.items w.as_str.result w.in-Ident.name c.in-Some.part.now (ap (λ v. v.items) w.names-is ∙ w.in_ok-push-2.ensures.items) w.in-Ident.is w.as_str.ensures.value
      | in_default-part w ↦ no_text before c.match-part.names.items c.in-Some.part.now (ap (λ v. v.items) w.names-is) w.in_default-part.not-Ident
    ] in
    part_gathered (texts before) (texts c.match-part.names.items) _ c.parts.waiting.items c.pop.new.self.items c.put_operands.new.waiting.items c.in-Some.part more c.in-Some.ensures.items c.in_ok-put_operands.ensures.calls c.parts.invariant
