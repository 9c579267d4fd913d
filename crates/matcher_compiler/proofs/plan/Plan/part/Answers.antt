use Rattle.std.proofs.Common.{◌≡◌, ◌<◌, arith, get_or, length, subst, sym}
use Rattle.std.specs.Prelude.{OnOk}
use Rattle.std.proofs.lemmas.Grind.{common_steps}
use Rattle.base_language.specs.Language.Meaning.{Run}
use Rattle.matcher_sets.specs.Modes.{mode_of}
use Rattle.matcher_compiler.specs.Plans.{IsBoundPart, LaysAt, task_in}
use Rattle.matcher_compiler.proofs.Calling.{body_said}
use Rattle.matcher_compiler.proofs.plan.Plan.part.Goals as goal

pub returns-in-Form-clause-lays : goal.returns-in-Form-clause-lays
returns-in-Form-clause-lays c = subst (λ q. OnOk c.form.result (LaysAt c.args.program.now c.form.new.self (task_in c.args.program.now q (mode_of c.args.point.at.mode)) c.args.point.at)) (sym c.in-Form.is) c.form.ensures.lays

pub returns-in-OnceOrMore-clause-lays : goal.returns-in-OnceOrMore-clause-lays
returns-in-OnceOrMore-clause-lays c = subst (λ q. OnOk c.once_and_turns.result (LaysAt c.args.program.now c.once_and_turns.new.self (task_in c.args.program.now q (mode_of c.args.point.at.mode)) c.args.point.at)) (sym c.in-OnceOrMore.is) c.once_and_turns.ensures.lays

pub returns-in-Repetition-clause-lays : goal.returns-in-Repetition-clause-lays
returns-in-Repetition-clause-lays c = subst (λ q. OnOk c.turns.result (LaysAt c.args.program.now c.turns.new.self (task_in c.args.program.now q (mode_of c.args.point.at.mode)) c.args.point.at)) (sym c.in-Repetition.is) c.turns.ensures.lays

pub returns-in-Rule-clause-lays : goal.returns-in-Rule-clause-lays
returns-in-Rule-clause-lays c = subst (λ q. OnOk c.call.result (LaysAt c.args.program.now c.call.new.self (task_in c.args.program.now q (mode_of c.args.point.at.mode)) c.args.point.at)) (sym c.in-Rule.is) c.call.ensures.lays

pub returns-in-Trivia-clause-lays : goal.returns-in-Trivia-clause-lays
returns-in-Trivia-clause-lays c = subst (λ q. OnOk c.trivia.result (LaysAt c.args.program.now c.trivia.new.self (task_in c.args.program.now q (mode_of c.args.point.at.mode)) c.args.point.at)) (sym c.in-Trivia.is) c.trivia.ensures.lays

pub returns-in-Skipped-clause-lays : goal.returns-in-Skipped-clause-lays
returns-in-Skipped-clause-lays c = subst (λ q. OnOk c.plan_skipping.result (LaysAt c.args.program.now c.plan_skipping.new.self (task_in c.args.program.now q (mode_of c.args.point.at.mode)) c.args.point.at)) (sym c.in-Skipped.is) c.plan_skipping.ensures.lays

pub returns-in-Blanks-clause-lays : goal.returns-in-Blanks-clause-lays
returns-in-Blanks-clause-lays c = subst (λ q. OnOk c.blanks.result (LaysAt c.args.program.now c.blanks.new.self (task_in c.args.program.now q (mode_of c.args.point.at.mode)) c.args.point.at)) (sym c.in-Blanks.is) c.blanks.ensures.lays

pub returns-in-BlankCall-clause-lays : goal.returns-in-BlankCall-clause-lays
returns-in-BlankCall-clause-lays c = subst (λ q. OnOk c.blank_call.result (LaysAt c.args.program.now c.blank_call.new.self (task_in c.args.program.now q (mode_of c.args.point.at.mode)) c.args.point.at)) (sym c.in-BlankCall.is) c.blank_call.ensures.lays

pub returns-in-Comments-clause-lays : goal.returns-in-Comments-clause-lays
returns-in-Comments-clause-lays c = subst (λ q. OnOk c.comments.result (LaysAt c.args.program.now c.comments.new.self (task_in c.args.program.now q (mode_of c.args.point.at.mode)) c.args.point.at)) (sym c.in-Comments.is) c.comments.ensures.lays

pub returns-in-Comment-clause-lays : goal.returns-in-Comment-clause-lays
returns-in-Comment-clause-lays c = subst (λ q. OnOk c.comment.result (LaysAt c.args.program.now c.comment.new.self (task_in c.args.program.now q (mode_of c.args.point.at.mode)) c.args.point.at)) (sym c.in-Comment.is) c.comment.ensures.lays

pub returns-in-CommentCall-clause-lays : goal.returns-in-CommentCall-clause-lays
returns-in-CommentCall-clause-lays c = subst (λ q. OnOk c.comment_call.result (LaysAt c.args.program.now c.comment_call.new.self (task_in c.args.program.now q (mode_of c.args.point.at.mode)) c.args.point.at)) (sym c.in-CommentCall.is) c.comment_call.ensures.lays

pub returns-in-Stay-clause-lays : goal.returns-in-Stay-clause-lays
returns-in-Stay-clause-lays c = subst (λ q. OnOk c.stay_between.result (LaysAt c.args.program.now c.args.self.now (task_in c.args.program.now q (mode_of c.args.point.at.mode)) c.args.point.at)) (sym c.in-Stay.is) c.stay_between.ensures.lays

pub returns-in-Some-clause-lays : goal.returns-in-Some-clause-lays
returns-in-Some-clause-lays c =
    let within : c.in-Body.rule < length c.args.program.now.rules.items = grind (arith, common_steps) in
    let is : c.in-Some.program_rule.now ≡ get_or c.args.program.now.rules.items c.in-Body.rule c.in-Some.program_rule.now = grind (arith, common_steps) in
    let e = body_said c.args.program.now c.in-Body.rule c.in-Some.program_rule.now within is in
    subst (λ q. OnOk c.form-in-Some.result (LaysAt c.args.program.now c.form-in-Some.new.self (task_in c.args.program.now q (mode_of c.args.point.at.mode)) c.args.point.at)) (sym c.in-Body.is)
    (subst (λ b. OnOk c.form-in-Some.result (LaysAt c.args.program.now c.form-in-Some.new.self (Run (mode_of c.args.point.at.mode) b) c.args.point.at)) (sym e) c.form-in-Some.ensures.lays)

pub call-requires-clause-within : goal.call-requires-clause-within
call-requires-clause-within c = subst (IsBoundPart c.args.program.now) c.in-Rule.is c.requires.bound
