use Rattle.std.proofs.Common.{None, codes, subst}
use Rattle.std.specs.Str.Parse.{ParsesUnsigned}
use Rattle.std.specs.Str.Pattern.{RFindsText, SplitsAroundMatch}
use Rattle.pest_language_server.proofs.Lengths.{lacks_name, parsed_says}
use Rattle.pest_language_server.proofs.frames.content_length.Goals as goal

pub returns-in_default-rsplit_once : goal.returns-in_default-rsplit_once
returns-in_default-rsplit_once c =
    lacks_name c.args.line.now (subst (λ s. RFindsText (codes "Content-Length:") s None) c.in-Ok.ensures.cases.0 c.in_default-rsplit_once.ensures.cases)

pub returns : goal.returns
returns c =
    let split = subst (λ s. SplitsAroundMatch (RFindsText (codes "Content-Length:")) s c.in-Some._front.now c.in-Some.value.now) c.in-Ok.ensures.cases.0 c.in-Some.ensures.cases in
    let parsed = subst (λ t. ParsesUnsigned 64 10 t c.parse.result) c.trim.ensures.trim c.parse.ensures.value.0 in
    rw c.ok.ensures.value (parsed_says c.args.line.now c.in-Some._front.now c.in-Some.value.now c.parse.result c.in-Ok.ensures.cases.1 split parsed)
