use Rattle.std.proofs.Common.{◌≡◌, ◌∷◌, ◌++◌, ap, sym, ◌∙◌, encode_utf8_all, map-id, rules}
use Rattle.std.proofs.Math.Utf8.{encode}
use Rattle.std.proofs.Output.{has_written_append, has_written_of_eq}
use Rattle.std.proofs.lemmas.Iterator.{YieldsList-from_chars}
use Rattle.std.proofs.lemmas.Iterator.Consumers.{YieldsList-end}
use Rattle.std.specs.List.{flat_map}
use Rattle.std.specs.Str.{chars}
use Rattle.base_ast.specs.Printing.{escaped}
use Rattle.base_ast.proofs.Literals.{literal_more, literal_end}
use Rattle.base_ast.proofs.printing.fmt_literal.Goals as goal

pub loop-c-preserved : goal.loop-c-preserved
loop-c-preserved g c plain =
    has_written_of_eq _ _ _ _ _ (literal_more c.args.quote c.loop-c.yielded _) (has_written_append _ _ _ _ _ _ (c.loop-c.invariant plain) (search rules))

pub returns : goal.returns
returns g c plain ok =
    let end = YieldsList-end (YieldsList-from_chars c.args.text.now c.utf8.text cc) c.loop-c.yielded _ c.loop-c.yielded_by _ _ c.in-None.is c.next.ensures.steps in
    let all : c.loop-c.yielded ≡ chars c.args.text.now = sym (map-id c.loop-c.yielded) ∙ end.0 in
    has_written_of_eq _ _ _ _ _ (ap (λ cs. encode_utf8_all (c.args.quote ∷ flat_map (escaped c.args.quote) cs) ++ encode c.args.quote) all ∙ literal_end c.args.quote (chars c.args.text.now)) (has_written_append _ _ _ _ _ _ (c.loop-c.invariant plain) (search rules))
