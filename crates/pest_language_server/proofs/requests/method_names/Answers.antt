use Rattle.std.proofs.Common.{refl}
use Rattle.pest_language_server.proofs.requests.method_names.Goals as goal

pub returns : goal.returns
returns c = refl
