use Rattle.std.proofs.Common.{◌≡◌, ◌∙◌, subst, sym, true}
use Rattle.matcher_code.specs.Lists.{lists_of}
use Rattle.matcher_compiler.specs.Compiled.{IsCodeOf}
use Rattle.matcher_compiler.specs.Exact.{is_exact}
use Rattle.matcher_compiler.proofs.compile.compile_for_names.Goals as goal

pub returns-then-is_exact-clause-is : goal.returns-then-is_exact-clause-is
returns-then-is_exact-clause-is c =
    let e : is_exact (lists_of c.in_ok-code.code) ≡ true = sym c.is_exact.ensures ∙ c.if-is_exact.true in
    subst (λ b. IsCodeOf b c.args.program.now (lists_of c.in_ok-code.code)) e c.in_ok-code.ensures.is
