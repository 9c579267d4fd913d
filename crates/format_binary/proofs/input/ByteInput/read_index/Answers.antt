use Rattle.std.proofs.Common.{◌∙◌, ap, rules, FitsSigned}
use Rattle.std.proofs.lemmas.Int.{to_z-of_z}
use Rattle.std.specs.Int.{w32}
use Rattle.format_binary.specs.Format.{index_bytes}
use Rattle.format_binary.proofs.Reading.{front}
use Rattle.format_binary.proofs.input.ByteInput.read_index.Goals as goal

pub returns-in-Some-clause-read : goal.returns-in-Some-clause-read
returns-in-Some-clause-read c =
    let fits : FitsSigned w32 c.index_of.result = search rules in
    front 4 _ _ c.in-Some.bytes.now _ c.in-Some.ensures.cases.0 c.in-Some.ensures.cases.1
    (ap index_bytes (to_z-of_z w32 c.index_of.result fits) ∙ c.index_of.ensures)
