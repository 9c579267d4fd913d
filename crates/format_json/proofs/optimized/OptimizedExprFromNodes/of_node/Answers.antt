use Rattle.format_json.proofs.Lacking.{no_counted, optimized_missing}
use Rattle.format_json.proofs.optimized.OptimizedExprFromNodes.of_node.Goals as goal

pub returns-in_err-one_operand-in-PosPred-clause-refused : goal.returns-in_err-one_operand-in-PosPred-clause-refused
returns-in_err-one_operand-in-PosPred-clause-refused c = optimized_missing _ _ _ _ c.in_err-one_operand-in-PosPred.field-0.0 c.in-PosPred.is c.from_residual-in_err-one_operand-in-PosPred.ensures.1 c.in_err-one_operand-in-PosPred.ensures.refused

pub returns-in_err-one_operand-in-NegPred-clause-refused : goal.returns-in_err-one_operand-in-NegPred-clause-refused
returns-in_err-one_operand-in-NegPred-clause-refused c = optimized_missing _ _ _ _ c.in_err-one_operand-in-NegPred.field-0.0 c.in-NegPred.is c.from_residual-in_err-one_operand-in-NegPred.ensures.1 c.in_err-one_operand-in-NegPred.ensures.refused

pub returns-in_err-one_operand-in-Opt-clause-refused : goal.returns-in_err-one_operand-in-Opt-clause-refused
returns-in_err-one_operand-in-Opt-clause-refused c = optimized_missing _ _ _ _ c.in_err-one_operand-in-Opt.field-0.0 c.in-Opt.is c.from_residual-in_err-one_operand-in-Opt.ensures.1 c.in_err-one_operand-in-Opt.ensures.refused

pub returns-in_err-one_operand-in-Rep-clause-refused : goal.returns-in_err-one_operand-in-Rep-clause-refused
returns-in_err-one_operand-in-Rep-clause-refused c = optimized_missing _ _ _ _ c.in_err-one_operand-in-Rep.field-0.0 c.in-Rep.is c.from_residual-in_err-one_operand-in-Rep.ensures.1 c.in_err-one_operand-in-Rep.ensures.refused

pub returns-in_err-one_operand-in-RepOnce-clause-refused : goal.returns-in_err-one_operand-in-RepOnce-clause-refused
returns-in_err-one_operand-in-RepOnce-clause-refused c = optimized_missing _ _ _ _ c.in_err-one_operand-in-RepOnce.field-0.0 c.in-RepOnce.is c.from_residual-in_err-one_operand-in-RepOnce.ensures.1 c.in_err-one_operand-in-RepOnce.ensures.refused

pub returns-in_err-one_operand-in-Push-clause-refused : goal.returns-in_err-one_operand-in-Push-clause-refused
returns-in_err-one_operand-in-Push-clause-refused c = optimized_missing _ _ _ _ c.in_err-one_operand-in-Push.field-0.0 c.in-Push.is c.from_residual-in_err-one_operand-in-Push.ensures.1 c.in_err-one_operand-in-Push.ensures.refused

pub returns-in_err-one_operand-in-NodeTag-clause-refused : goal.returns-in_err-one_operand-in-NodeTag-clause-refused
returns-in_err-one_operand-in-NodeTag-clause-refused c = optimized_missing _ _ _ _ c.in_err-one_operand-in-NodeTag.field-0.0 c.in-NodeTag.is c.from_residual-in_err-one_operand-in-NodeTag.ensures.1 c.in_err-one_operand-in-NodeTag.ensures.refused

pub returns-in_err-one_operand-in-RestoreOnErr-clause-refused : goal.returns-in_err-one_operand-in-RestoreOnErr-clause-refused
returns-in_err-one_operand-in-RestoreOnErr-clause-refused c = optimized_missing _ _ _ _ c.in_err-one_operand-in-RestoreOnErr.field-0.0 c.in-RestoreOnErr.is c.from_residual-in_err-one_operand-in-RestoreOnErr.ensures.1 c.in_err-one_operand-in-RestoreOnErr.ensures.refused

pub returns-in_err-left-in-Seq-clause-refused : goal.returns-in_err-left-in-Seq-clause-refused
returns-in_err-left-in-Seq-clause-refused c = optimized_missing _ _ _ _ c.in_err-left-in-Seq.field-0.0 c.in-Seq.is c.from_residual-in_err-left-in-Seq.ensures.1 c.in_err-left-in-Seq.ensures.refused

pub returns-in_err-left-in-Choice-clause-refused : goal.returns-in_err-left-in-Choice-clause-refused
returns-in_err-left-in-Choice-clause-refused c = optimized_missing _ _ _ _ c.in_err-left-in-Choice.field-0.0 c.in-Choice.is c.from_residual-in_err-left-in-Choice.ensures.1 c.in_err-left-in-Choice.ensures.refused

pub returns-in-RepExact-clause-refused : goal.returns-in-RepExact-clause-refused
returns-in-RepExact-clause-refused c = no_counted c.args.node.now _ c.in-RepExact.is
