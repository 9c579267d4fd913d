use Rattle.std.proofs.Common.{◌≡◌, true, false, bytes_eq, codes, sym}
use Rattle.serde_json.specs.View.{view}
use Rattle.pest_language_server.proofs.Opening.{opens_document, opens_nothing, opens_workspace}
use Rattle.pest_language_server.proofs.server.Server.answer_open.Goals as goal

pub returns-then-is_workspace_symbol-clause-answer : goal.returns-then-is_workspace_symbol-clause-answer
returns-then-is_workspace_symbol-clause-answer c =
    let e : bytes_eq c.args.method.now (codes "workspace/symbol") ≡ true = cc in
    opens_workspace c.args.self.now.client c.args.self.now.documents c.args.method.now (view c.args.params.now) c.workspace_symbols.result e c.workspace_symbols.ensures

pub returns-in-Some-clause-answer : goal.returns-in-Some-clause-answer
returns-in-Some-clause-answer c =
    let e : bytes_eq c.args.method.now (codes "workspace/symbol") ≡ false = cc in
    opens_document c.args.self.now.client c.args.self.now.documents c.args.method.now c.in-Some.request (view c.args.params.now) c.answer_for_document.result e (sym c.in-Some.ensures) c.answer_for_document.ensures.answer

pub returns-in-None-clause-answer : goal.returns-in-None-clause-answer
returns-in-None-clause-answer c =
    let e : bytes_eq c.args.method.now (codes "workspace/symbol") ≡ false = cc in
    opens_nothing c.args.self.now.client c.args.self.now.documents c.args.method.now (view c.args.params.now) _ e (sym c.in-None.ensures)
