use Rattle.std.proofs.Common.{[], ◌∷◌, ap, get_or, map, subst}
use Rattle.matcher_code.specs.Lists.{lists_of}
use Rattle.matcher_code.specs.Reading.{char_len}
use Rattle.matcher_compiler.specs.Compiled.{AreMet}
use Rattle.matcher_compiler.proofs.Finishing.{meets_plan}
use Rattle.matcher_compiler.proofs.compile.finish.Goals as goal

pub returns-clause-meets : goal.returns-clause-meets
returns-clause-meets c = λ p.
    let met = subst (λ ps. AreMet (lists_of c.in_ok-code.code) ps c.args.plan.demands.items) c.as_slice-made.ensures.value
    (subst (λ ds. AreMet (lists_of c.in_ok-code.code) c.as_slice-made.result.now ds) c.as_slice-wanted.ensures.value c.in_ok-code.ensures.met) in
    meets_plan p c.args.plan (lists_of c.in_ok-code.code) c.in_ok-code.ensures.ends met
    (λ set b bs h k. ap (λ z. char_len (lists_of z) set (b ∷ bs)) c.in_ok-code.ensures.same)
    (λ i h. ap (λ z. get_or (map (λ v. v.items) z.texts.items) i []) c.in_ok-code.ensures.same)
    (λ i h. ap (λ z. get_or (map (λ v. v.items) z.lists.items) i []) c.in_ok-code.ensures.same)
