use Rattle.std.proofs.Common.{◌≡◌, true, false, bytes_eq, codes, refl}
use Rattle.serde_json.specs.View.{view}
use Rattle.pest_language_server.proofs.Phases.{answers_first}
use Rattle.pest_language_server.proofs.server.Server.answer_first.Goals as goal

pub returns-then-not-is_initialize-clause-phase : goal.returns-then-not-is_initialize-clause-phase
returns-then-not-is_initialize-clause-phase c = let e : bytes_eq c.args.method.now (codes "initialize") ≡ false = cc in rw e c.requires

pub returns-then-not-is_initialize-clause-answer : goal.returns-then-not-is_initialize-clause-answer
returns-then-not-is_initialize-clause-answer c = let e : bytes_eq c.args.method.now (codes "initialize") ≡ false = cc in rw e refl

pub returns-clause-phase : goal.returns-clause-phase
returns-clause-phase c = let e : bytes_eq c.args.method.now (codes "initialize") ≡ true = cc in rw e refl

pub returns-clause-answer : goal.returns-clause-answer
returns-clause-answer c = let e : bytes_eq c.args.method.now (codes "initialize") ≡ true = cc in answers_first c.args.self.now.client c.args.self.now.documents c.args.method.now (view c.args.params.now) c.initialize_answer.result e c.initialize_answer.ensures
