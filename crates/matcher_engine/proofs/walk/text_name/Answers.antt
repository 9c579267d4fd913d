use Rattle.std.proofs.Common.{◌∙◌, ap, arith, chars, codes, sym}
use Rattle.std.proofs.lemmas.List.{get_or_past, length-map}
use Rattle.matcher_program.specs.ExpectedNames.{name_texts}
use Rattle.matcher_engine.proofs.Known.{eoi_text}
use Rattle.matcher_engine.proofs.walk.text_name.Goals as goal

pub returns-in-None : goal.returns-in-None
returns-in-None c =
    ap chars c.name.ensures
    ∙ eoi_text
    ∙ sym (get_or_past (name_texts c.args.names.now) c.args.rule (codes "EOI") (omega (arith, c.in-None.ensures.lookup.3, length-map c.args.names.now (λ w. chars w.now))))
