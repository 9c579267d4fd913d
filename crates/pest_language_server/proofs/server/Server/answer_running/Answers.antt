use Rattle.std.proofs.Common.{◌≡◌, ◌∙◌, true, false, bytes_eq, codes, refl, rules}
use Rattle.pest_language_server.proofs.Phases.{answers_running, answers_shutdown}
use Rattle.serde_json.specs.Data.{null}
use Rattle.serde_json.specs.View.{view}
use Rattle.serde_json.specs.declared.value.Value.{Null, the_lemmas}
use Rattle.pest_language_server.proofs.server.Server.answer_running.Goals as goal

pub returns-then-is_shutdown-clause-phase : goal.returns-then-is_shutdown-clause-phase
returns-then-is_shutdown-clause-phase c = let e : bytes_eq c.args.method.now (codes "shutdown") ≡ true = cc in rw e refl

pub returns-then-is_shutdown-clause-answer : goal.returns-then-is_shutdown-clause-answer
returns-then-is_shutdown-clause-answer c =
    let e : bytes_eq c.args.method.now (codes "shutdown") ≡ true = cc in
    let n : view Null ≡ null = search (rules, the_lemmas) in
    answers_shutdown c.args.self.now.client c.args.self.now.documents c.args.method.now (view c.args.params.now) Null e n

pub returns-then-is_initialize-clause-phase : goal.returns-then-is_initialize-clause-phase
returns-then-is_initialize-clause-phase c = let e : bytes_eq c.args.method.now (codes "shutdown") ≡ false = cc in rw e c.requires

pub returns-then-is_initialize-clause-answer : goal.returns-then-is_initialize-clause-answer
returns-then-is_initialize-clause-answer c =
    let e : bytes_eq c.args.method.now (codes "shutdown") ≡ false = cc in
    let f : bytes_eq c.args.method.now (codes "initialize") ≡ true = cc in rw (e, f) refl

pub returns-clause-phase : goal.returns-clause-phase
returns-clause-phase c = let e : bytes_eq c.args.method.now (codes "shutdown") ≡ false = cc in rw e (c.answer_open.ensures.phase ∙ c.requires)

pub returns-clause-answer : goal.returns-clause-answer
returns-clause-answer c =
    let e : bytes_eq c.args.method.now (codes "shutdown") ≡ false = cc in
    let f : bytes_eq c.args.method.now (codes "initialize") ≡ false = cc in
    answers_running c.args.self.now.client c.args.self.now.documents c.args.method.now (view c.args.params.now) c.answer_open.result e f c.answer_open.ensures.answer
