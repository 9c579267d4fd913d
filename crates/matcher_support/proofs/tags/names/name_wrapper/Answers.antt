use Rattle.std.proofs.Common.{◌∙◌, ap, ◌<◌, ◌^◌, arith}
use Rattle.std.specs.Str.{chars}
use Rattle.matcher_support.proofs.Reading.{named_text}
use Rattle.matcher_support.proofs.tags.names.name_wrapper.Goals as goal

pub returns : goal.returns
returns c =
    let small : c.args.number < 2 ^ 64 = omega arith in
    ap chars c.in_ok-name.ensures.ok ∙ named_text c.args.number c.args.tag.now small
