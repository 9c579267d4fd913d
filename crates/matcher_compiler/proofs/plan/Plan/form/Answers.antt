use Rattle.std.proofs.Common.{◌∙◌, FitsSigned, ap, ap₂, chars, rules, subst, sym}
use Rattle.std.proofs.lemmas.Int.{to_z-of_z}
use Rattle.std.specs.Int.{w32}
use Rattle.std.specs.Prelude.{OnOk}
use Rattle.base_language.specs.Language.Expression.{Choice, Insens, NegPred, NodeTag, Opt, PosPred, Push, PushLiteral, Rep, RepOnce, RestoreOnErr, Seq, Str}
use Rattle.base_language.specs.Language.Meaning.{Run}
use Rattle.matcher_sets.specs.Modes.{mode_of}
use Rattle.matcher_program.specs.Programs.{IsRuleOf, name_at, names_of}
use Rattle.matcher_sets.specs.Forms.{IsBoundIn, grammar_in, said}
use Rattle.matcher_compiler.proofs.Naming.{rule_within}
use Rattle.matcher_compiler.specs.Plans.{LaysAt}
use Rattle.matcher_compiler.proofs.plan.Plan.form.Goals as goal

pub returns-in-Str-clause-lays : goal.returns-in-Str-clause-lays
returns-in-Str-clause-lays c =
    subst (λ x. OnOk c.literal.result (LaysAt c.args.program.now c.literal.new.self (Run (mode_of c.args.at.mode) (said c.args.program.now x)) c.args.at)) (sym c.in-Str.is)
    (subst (λ x. OnOk c.literal.result (LaysAt c.args.program.now c.literal.new.self (Run (mode_of c.args.at.mode) (Str (chars x))) c.args.at)) c.as_str.ensures.value c.literal.ensures.lays)

pub returns-in-Insens-clause-lays : goal.returns-in-Insens-clause-lays
returns-in-Insens-clause-lays c =
    subst (λ x. OnOk c.literal_in_any_case.result (LaysAt c.args.program.now c.literal_in_any_case.new.self (Run (mode_of c.args.at.mode) (said c.args.program.now x)) c.args.at)) (sym c.in-Insens.is)
    (subst (λ x. OnOk c.literal_in_any_case.result (LaysAt c.args.program.now c.literal_in_any_case.new.self (Run (mode_of c.args.at.mode) (Insens (chars x))) c.args.at)) c.as_str-in-Insens.ensures.value c.literal_in_any_case.ensures.lays)

pub returns-in-Newline-clause-lays : goal.returns-in-Newline-clause-lays
returns-in-Newline-clause-lays c =
    subst (λ x. OnOk c.newline.result (LaysAt c.args.program.now c.newline.new.self (Run (mode_of c.args.at.mode) (said c.args.program.now x)) c.args.at)) (sym c.in-Newline.is) c.newline.ensures.lays

pub returns-in-Start-clause-lays : goal.returns-in-Start-clause-lays
returns-in-Start-clause-lays c =
    subst (λ x. OnOk c.start.result (LaysAt c.args.program.now c.start.new.self (Run (mode_of c.args.at.mode) (said c.args.program.now x)) c.args.at)) (sym c.in-Start.is) c.start.ensures.lays

pub returns-in-End-clause-lays : goal.returns-in-End-clause-lays
returns-in-End-clause-lays c =
    subst (λ x. OnOk c.end_of_text.result (LaysAt c.args.program.now c.end_of_text.new.self (Run (mode_of c.args.at.mode) (said c.args.program.now x)) c.args.at)) (sym c.in-End.is) c.end_of_text.ensures.lays

pub call-requires-clause-within : goal.call-requires-clause-within
call-requires-clause-within c =
    let p = c.args.program.now in
    let meant : IsRuleOf (grammar_in p) (name_at (names_of p.rules.items) c.in-Call.rule) c.in-Call.rule = subst (IsBoundIn p) c.in-Call.is c.requires.bound in
    rule_within p.rules.items _ c.in-Call.rule meant

pub returns-in-Call-clause-lays : goal.returns-in-Call-clause-lays
returns-in-Call-clause-lays c =
    subst (λ x. OnOk c.call.result (LaysAt c.args.program.now c.call.new.self (Run (mode_of c.args.at.mode) (said c.args.program.now x)) c.args.at)) (sym c.in-Call.is) c.call.ensures.lays

pub returns-in-PosPred-clause-lays : goal.returns-in-PosPred-clause-lays
returns-in-PosPred-clause-lays c =
    subst (λ x. OnOk c.ahead.result (LaysAt c.args.program.now c.ahead.new.self (Run (mode_of c.args.at.mode) (said c.args.program.now x)) c.args.at)) (sym c.in-PosPred.is)
    (subst (λ x. OnOk c.ahead.result (LaysAt c.args.program.now c.ahead.new.self (Run (mode_of c.args.at.mode) (PosPred (said c.args.program.now x))) c.args.at)) c.deref.ensures c.ahead.ensures.lays)

pub returns-in-NegPred-clause-lays : goal.returns-in-NegPred-clause-lays
returns-in-NegPred-clause-lays c =
    subst (λ x. OnOk c.not_ahead.result (LaysAt c.args.program.now c.not_ahead.new.self (Run (mode_of c.args.at.mode) (said c.args.program.now x)) c.args.at)) (sym c.in-NegPred.is)
    (subst (λ x. OnOk c.not_ahead.result (LaysAt c.args.program.now c.not_ahead.new.self (Run (mode_of c.args.at.mode) (NegPred (said c.args.program.now x))) c.args.at)) c.deref-in-NegPred.ensures c.not_ahead.ensures.lays)

pub returns-in-Seq-clause-lays : goal.returns-in-Seq-clause-lays
returns-in-Seq-clause-lays c =
    subst (λ x. OnOk c.two.result (LaysAt c.args.program.now c.two.new.self (Run (mode_of c.args.at.mode) (said c.args.program.now x)) c.args.at)) (sym c.in-Seq.is)
    (subst (λ x. OnOk c.two.result (LaysAt c.args.program.now c.two.new.self (Run (mode_of c.args.at.mode) (Seq (said c.args.program.now c.in-Seq.first.value) (said c.args.program.now x))) c.args.at)) c.deref-in-Seq-2.ensures (subst (λ x. OnOk c.two.result (LaysAt c.args.program.now c.two.new.self (Run (mode_of c.args.at.mode) (Seq (said c.args.program.now x) (said c.args.program.now c.deref-in-Seq-2.result.now))) c.args.at)) c.deref-in-Seq.ensures c.two.ensures.lays))

pub alternatives-requires-clause-same : goal.alternatives-requires-clause-same
alternatives-requires-clause-same c =
    let p = c.args.program.now in
    ap (said p) c.in-Choice.is ∙ ap₂ (λ a b. Choice (said p a) (said p b)) (sym c.deref-in-Choice.ensures) (sym c.deref-in-Choice-2.ensures)

pub returns-in-Opt-clause-lays : goal.returns-in-Opt-clause-lays
returns-in-Opt-clause-lays c =
    subst (λ x. OnOk c.option.result (LaysAt c.args.program.now c.option.new.self (Run (mode_of c.args.at.mode) (said c.args.program.now x)) c.args.at)) (sym c.in-Opt.is)
    (subst (λ x. OnOk c.option.result (LaysAt c.args.program.now c.option.new.self (Run (mode_of c.args.at.mode) (Opt (said c.args.program.now x))) c.args.at)) c.deref-in-Opt.ensures c.option.ensures.lays)

pub returns-in-Rep-clause-lays : goal.returns-in-Rep-clause-lays
returns-in-Rep-clause-lays c =
    subst (λ x. OnOk c.turns.result (LaysAt c.args.program.now c.turns.new.self (Run (mode_of c.args.at.mode) (said c.args.program.now x)) c.args.at)) (sym c.in-Rep.is)
    (subst (λ x. OnOk c.turns.result (LaysAt c.args.program.now c.turns.new.self (Run (mode_of c.args.at.mode) (Rep (said c.args.program.now x))) c.args.at)) c.deref-in-Rep.ensures c.turns.ensures.lays)

pub returns-in-RepOnce-clause-lays : goal.returns-in-RepOnce-clause-lays
returns-in-RepOnce-clause-lays c =
    subst (λ x. OnOk c.once_or_more.result (LaysAt c.args.program.now c.once_or_more.new.self (Run (mode_of c.args.at.mode) (said c.args.program.now x)) c.args.at)) (sym c.in-RepOnce.is)
    (subst (λ x. OnOk c.once_or_more.result (LaysAt c.args.program.now c.once_or_more.new.self (Run (mode_of c.args.at.mode) (RepOnce (said c.args.program.now x))) c.args.at)) c.deref-in-RepOnce.ensures c.once_or_more.ensures.lays)

pub returns-in-Tag-clause-lays : goal.returns-in-Tag-clause-lays
returns-in-Tag-clause-lays c =
    subst (λ x. OnOk c.tag.result (LaysAt c.args.program.now c.tag.new.self (Run (mode_of c.args.at.mode) (said c.args.program.now x)) c.args.at)) (sym c.in-Tag.is)
    (subst (λ x. OnOk c.tag.result (LaysAt c.args.program.now c.tag.new.self (Run (mode_of c.args.at.mode) (NodeTag (said c.args.program.now c.in-Tag.body.value) (chars x))) c.args.at)) c.as_str-in-Tag.ensures.value (subst (λ x. OnOk c.tag.result (LaysAt c.args.program.now c.tag.new.self (Run (mode_of c.args.at.mode) (NodeTag (said c.args.program.now x) (chars c.as_str-in-Tag.result.now))) c.args.at)) c.deref-in-Tag.ensures c.tag.ensures.lays))

pub returns-in-Restore-clause-lays : goal.returns-in-Restore-clause-lays
returns-in-Restore-clause-lays c =
    subst (λ x. OnOk c.restore.result (LaysAt c.args.program.now c.restore.new.self (Run (mode_of c.args.at.mode) (said c.args.program.now x)) c.args.at)) (sym c.in-Restore.is)
    (subst (λ x. OnOk c.restore.result (LaysAt c.args.program.now c.restore.new.self (Run (mode_of c.args.at.mode) (RestoreOnErr (said c.args.program.now x))) c.args.at)) c.deref-in-Restore.ensures c.restore.ensures.lays)

pub returns-in-Skip-clause-lays : goal.returns-in-Skip-clause-lays
returns-in-Skip-clause-lays c =
    subst (λ x. OnOk c.search.result (LaysAt c.args.program.now c.search.new.self (Run (mode_of c.args.at.mode) (said c.args.program.now x)) c.args.at)) (sym c.in-Skip.is) c.search.ensures.lays

pub returns-in-Push-clause-lays : goal.returns-in-Push-clause-lays
returns-in-Push-clause-lays c =
    subst (λ x. OnOk c.push.result (LaysAt c.args.program.now c.push.new.self (Run (mode_of c.args.at.mode) (said c.args.program.now x)) c.args.at)) (sym c.in-Push.is)
    (subst (λ x. OnOk c.push.result (LaysAt c.args.program.now c.push.new.self (Run (mode_of c.args.at.mode) (Push (said c.args.program.now x))) c.args.at)) c.deref-in-Push.ensures c.push.ensures.lays)

pub returns-in-PushLiteral-clause-lays : goal.returns-in-PushLiteral-clause-lays
returns-in-PushLiteral-clause-lays c =
    subst (λ x. OnOk c.push_literal.result (LaysAt c.args.program.now c.push_literal.new.self (Run (mode_of c.args.at.mode) (said c.args.program.now x)) c.args.at)) (sym c.in-PushLiteral.is)
    (subst (λ x. OnOk c.push_literal.result (LaysAt c.args.program.now c.push_literal.new.self (Run (mode_of c.args.at.mode) (PushLiteral (chars x))) c.args.at)) c.as_str-in-PushLiteral.ensures.value c.push_literal.ensures.lays)

pub returns-in-Peek-clause-lays : goal.returns-in-Peek-clause-lays
returns-in-Peek-clause-lays c =
    subst (λ x. OnOk c.peek.result (LaysAt c.args.program.now c.peek.new.self (Run (mode_of c.args.at.mode) (said c.args.program.now x)) c.args.at)) (sym c.in-Peek.is) c.peek.ensures.lays

pub returns-in-Pop-clause-lays : goal.returns-in-Pop-clause-lays
returns-in-Pop-clause-lays c =
    subst (λ x. OnOk c.pop.result (LaysAt c.args.program.now c.pop.new.self (Run (mode_of c.args.at.mode) (said c.args.program.now x)) c.args.at)) (sym c.in-Pop.is) c.pop.ensures.lays

pub returns-in-Discard-clause-lays : goal.returns-in-Discard-clause-lays
returns-in-Discard-clause-lays c =
    subst (λ x. OnOk c.discard.result (LaysAt c.args.program.now c.discard.new.self (Run (mode_of c.args.at.mode) (said c.args.program.now x)) c.args.at)) (sym c.in-Discard.is) c.discard.ensures.lays

pub returns-in-PeekAll-clause-lays : goal.returns-in-PeekAll-clause-lays
returns-in-PeekAll-clause-lays c =
    subst (λ x. OnOk c.peek_all.result (LaysAt c.args.program.now c.peek_all.new.self (Run (mode_of c.args.at.mode) (said c.args.program.now x)) c.args.at)) (sym c.in-PeekAll.is) c.peek_all.ensures.lays

pub returns-in-PopAll-clause-lays : goal.returns-in-PopAll-clause-lays
returns-in-PopAll-clause-lays c =
    subst (λ x. OnOk c.pop_all.result (LaysAt c.args.program.now c.pop_all.new.self (Run (mode_of c.args.at.mode) (said c.args.program.now x)) c.args.at)) (sym c.in-PopAll.is) c.pop_all.ensures.lays

pub returns-in-PeekSlice-clause-lays : goal.returns-in-PeekSlice-clause-lays
returns-in-PeekSlice-clause-lays c =
    let small : FitsSigned w32 c.in-PeekSlice.from = search rules in
    subst (λ x. OnOk c.slice.result (LaysAt c.args.program.now c.slice.new.self (Run (mode_of c.args.at.mode) (said c.args.program.now x)) c.args.at)) (sym c.in-PeekSlice.is)
    (rw (to_z-of_z w32 c.in-PeekSlice.from small) at c.slice.ensures.lays)
