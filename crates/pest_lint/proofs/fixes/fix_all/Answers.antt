use Rattle.std.proofs.Common.{◌<◌, arith, get_or, length, rules, subst}
use Rattle.lint_warnings.specs.Lists.{texts_of}
use Rattle.pest_lint.specs.Fixing.{IsKept}
use Rattle.pest_lint.proofs.Keeping.{one_more_kept}
use Rattle.pest_lint.proofs.fixes.fix_all.Goals as goal

pub loop-source-preserved : goal.loop-source-preserved
loop-source-preserved c =
    let n = c.loop-source.source-index in
    let d = c.source-item.result in
    let inside : n < length c.loop-source.sources = omega arith in
    let takes = c.args.options.takes_unsafe in
    let starts = texts_of c.args.options.starts.now in
    let kept : IsKept takes starts (get_or c.loop-source.sources n d) c.fix_file.new.source = subst (λ s. IsKept takes starts s c.fix_file.new.source) (search rules) c.in_ok-fix_file.ensures in
    let more = one_more_kept takes starts c.args.sources.now c.loop-source.sources n d c.fix_file.new.source inside c.loop-source.invariant.made c.loop-source.invariant.others kept in
    record { made = more.0; others = more.1 }
