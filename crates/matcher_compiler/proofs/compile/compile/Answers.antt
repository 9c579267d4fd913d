use Rattle.matcher_code.specs.Lists.{lists_of}
use Rattle.matcher_compiler.proofs.Relaxing.{relaxed}
use Rattle.matcher_compiler.proofs.compile.compile.Goals as goal

pub returns-clause-is : goal.returns-clause-is
returns-clause-is c = relaxed _ c.args.program.now (lists_of c.in_ok-code.code) c.in_ok-code.ensures.is
