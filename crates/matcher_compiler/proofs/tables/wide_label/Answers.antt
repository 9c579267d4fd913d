use Rattle.std.proofs.Common.{◌≡◌, ◌∙◌, refl, inr, drop, false, nat_eq}
use Rattle.base_language.specs.Language.Matching.{begins}
use Rattle.matcher_code.specs.Lists.{lists_of}
use Rattle.matcher_code.specs.Reading.{text_of}
use Rattle.matcher_compiler.proofs.tables.wide_label.Goals as goal

pub returns-then-begins_in_ascii : goal.returns-then-begins_in_ascii
returns-then-begins_in_ascii c = λ e b h. inr (λ text k g.
    let z : begins nat_eq (text_of (lists_of c.args.code.now) c.in-Text.text) (drop k.at text) ≡ false =
    c.begins_in_ascii.ensures c.if-begins_in_ascii.true b (drop k.at text) h g in
    let q = e ∙ c.in-Text.is in
    rw (q, z) refl)
