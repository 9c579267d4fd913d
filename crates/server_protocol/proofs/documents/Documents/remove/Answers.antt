use Rattle.std.proofs.Common.{arith}
use Rattle.std.proofs.lemmas.Map.Text.{text_keys}
use Rattle.server_protocol.proofs.documents.Documents.remove.Goals as goal

pub returns-clause-others : goal.returns-clause-others
returns-clause-others c = λ q e. grind (arith, text_keys)
