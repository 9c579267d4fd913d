use Rattle.std.proofs.Common.{◌∙◌, ap, length, sym}
use Rattle.std.proofs.lemmas.List.{length-map}
use Rattle.base_ast.specs.Optimized.{optimized_rule_of}
use Rattle.format_binary.specs.Format.{type_byte}
use Rattle.matcher_engine.proofs.block.making.compile_block.Goals as goal

pub returns-in-Ok-clause-compiled : goal.returns-in-Ok-clause-compiled
returns-in-Ok-clause-compiled g c =
    let rules = c.args.rules.now in
    record {
      program = c.in_ok-program.program;
      means = c.in_ok-program.ensures.means;
      fits = c.in_ok-program.ensures.fits;
      code = c.in-Ok.ensures.code;
      count = ap length c.in-Ok.ensures.rules.types
          ∙ (length-map rules (λ r. type_byte r.ty) ∙ sym (length-map rules optimized_rule_of));
    }
