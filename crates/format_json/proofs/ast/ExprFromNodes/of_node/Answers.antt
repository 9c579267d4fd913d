use Rattle.std.proofs.Common.{rules}
use Rattle.format_json.specs.Format.{nodes_of}
use Rattle.format_json.proofs.Lacking.{bare_missing, no_wrappers}
use Rattle.format_json.proofs.ReadNodes.{of_one, of_two}
use Rattle.format_json.proofs.Turns.{in_turn_last}
use Rattle.format_json.proofs.ast.ExprFromNodes.of_node.Goals as goal
use Rattle.format_json.proofs.ast.ExprFromNodes.of_node.Goals.{in-Str+in_ok-from_str-in-Str, in-Insens+in_ok-from_str-in-Insens, in-Range+in_ok-low-in-Range+in_ok-from_str-in-Range, in-Ident+in_ok-from_str-in-Ident, in-PeekSlice, in-PosPred+in_ok-one_operand-in-PosPred, in-NegPred+in_ok-one_operand-in-NegPred, in-Seq+in_ok-left-in-Seq, in-Choice+in_ok-left-in-Choice, in-Opt+in_ok-one_operand-in-Opt, in-Rep+in_ok-one_operand-in-Rep, in-RepOnce+in_ok-one_operand-in-RepOnce, in-RepExact+in_ok-one_operand-in-RepExact, in-RepMin+in_ok-one_operand-in-RepMin, in-RepMax+in_ok-one_operand-in-RepMax, in-RepMinMax+in_ok-one_operand-in-RepMinMax, in-Skip+in_ok-copies-in-Skip, in-Push+in_ok-one_operand-in-Push, in-PushLiteral+in_ok-from_str-in-PushLiteral, in-NodeTag+in_ok-tag-in-NodeTag+in_ok-one_operand-in-NodeTag}

pub returns-in_err-one_operand-in-PosPred-clause-refused : goal.returns-in_err-one_operand-in-PosPred-clause-refused
returns-in_err-one_operand-in-PosPred-clause-refused c = bare_missing _ _ _ _ c.in_err-one_operand-in-PosPred.field-0.0 c.in-PosPred.is c.from_residual-in_err-one_operand-in-PosPred.ensures.1 c.in_err-one_operand-in-PosPred.ensures.refused

pub returns-in_err-one_operand-in-NegPred-clause-refused : goal.returns-in_err-one_operand-in-NegPred-clause-refused
returns-in_err-one_operand-in-NegPred-clause-refused c = bare_missing _ _ _ _ c.in_err-one_operand-in-NegPred.field-0.0 c.in-NegPred.is c.from_residual-in_err-one_operand-in-NegPred.ensures.1 c.in_err-one_operand-in-NegPred.ensures.refused

pub returns-in_err-one_operand-in-Opt-clause-refused : goal.returns-in_err-one_operand-in-Opt-clause-refused
returns-in_err-one_operand-in-Opt-clause-refused c = bare_missing _ _ _ _ c.in_err-one_operand-in-Opt.field-0.0 c.in-Opt.is c.from_residual-in_err-one_operand-in-Opt.ensures.1 c.in_err-one_operand-in-Opt.ensures.refused

pub returns-in_err-one_operand-in-Rep-clause-refused : goal.returns-in_err-one_operand-in-Rep-clause-refused
returns-in_err-one_operand-in-Rep-clause-refused c = bare_missing _ _ _ _ c.in_err-one_operand-in-Rep.field-0.0 c.in-Rep.is c.from_residual-in_err-one_operand-in-Rep.ensures.1 c.in_err-one_operand-in-Rep.ensures.refused

pub returns-in_err-one_operand-in-RepOnce-clause-refused : goal.returns-in_err-one_operand-in-RepOnce-clause-refused
returns-in_err-one_operand-in-RepOnce-clause-refused c = bare_missing _ _ _ _ c.in_err-one_operand-in-RepOnce.field-0.0 c.in-RepOnce.is c.from_residual-in_err-one_operand-in-RepOnce.ensures.1 c.in_err-one_operand-in-RepOnce.ensures.refused

pub returns-in_err-one_operand-in-RepExact-clause-refused : goal.returns-in_err-one_operand-in-RepExact-clause-refused
returns-in_err-one_operand-in-RepExact-clause-refused c = bare_missing _ _ _ _ c.in_err-one_operand-in-RepExact.field-0.0 c.in-RepExact.is c.from_residual-in_err-one_operand-in-RepExact.ensures.1 c.in_err-one_operand-in-RepExact.ensures.refused

pub returns-in_err-one_operand-in-RepMin-clause-refused : goal.returns-in_err-one_operand-in-RepMin-clause-refused
returns-in_err-one_operand-in-RepMin-clause-refused c = bare_missing _ _ _ _ c.in_err-one_operand-in-RepMin.field-0.0 c.in-RepMin.is c.from_residual-in_err-one_operand-in-RepMin.ensures.1 c.in_err-one_operand-in-RepMin.ensures.refused

pub returns-in_err-one_operand-in-RepMax-clause-refused : goal.returns-in_err-one_operand-in-RepMax-clause-refused
returns-in_err-one_operand-in-RepMax-clause-refused c = bare_missing _ _ _ _ c.in_err-one_operand-in-RepMax.field-0.0 c.in-RepMax.is c.from_residual-in_err-one_operand-in-RepMax.ensures.1 c.in_err-one_operand-in-RepMax.ensures.refused

pub returns-in_err-one_operand-in-RepMinMax-clause-refused : goal.returns-in_err-one_operand-in-RepMinMax-clause-refused
returns-in_err-one_operand-in-RepMinMax-clause-refused c = bare_missing _ _ _ _ c.in_err-one_operand-in-RepMinMax.field-0.0 c.in-RepMinMax.is c.from_residual-in_err-one_operand-in-RepMinMax.ensures.1 c.in_err-one_operand-in-RepMinMax.ensures.refused

pub returns-in_err-one_operand-in-Push-clause-refused : goal.returns-in_err-one_operand-in-Push-clause-refused
returns-in_err-one_operand-in-Push-clause-refused c = bare_missing _ _ _ _ c.in_err-one_operand-in-Push.field-0.0 c.in-Push.is c.from_residual-in_err-one_operand-in-Push.ensures.1 c.in_err-one_operand-in-Push.ensures.refused

pub returns-in_err-one_operand-in-NodeTag-clause-refused : goal.returns-in_err-one_operand-in-NodeTag-clause-refused
returns-in_err-one_operand-in-NodeTag-clause-refused c = bare_missing _ _ _ _ c.in_err-one_operand-in-NodeTag.field-0.0 c.in-NodeTag.is c.from_residual-in_err-one_operand-in-NodeTag.ensures.1 c.in_err-one_operand-in-NodeTag.ensures.refused

pub returns-in_err-left-in-Seq-clause-refused : goal.returns-in_err-left-in-Seq-clause-refused
returns-in_err-left-in-Seq-clause-refused c = bare_missing _ _ _ _ c.in_err-left-in-Seq.field-0.0 c.in-Seq.is c.from_residual-in_err-left-in-Seq.ensures.1 c.in_err-left-in-Seq.ensures.refused

pub returns-in_err-left-in-Choice-clause-refused : goal.returns-in_err-left-in-Choice-clause-refused
returns-in_err-left-in-Choice-clause-refused c = bare_missing _ _ _ _ c.in_err-left-in-Choice.field-0.0 c.in-Choice.is c.from_residual-in_err-left-in-Choice.ensures.1 c.in_err-left-in-Choice.ensures.refused

pub returns-in-RestoreOnErr-clause-refused : goal.returns-in-RestoreOnErr-clause-refused
returns-in-RestoreOnErr-clause-refused c = rw c.in-RestoreOnErr.is (no_wrappers _)

-- what is read is made of the operands that are taken
pub returns-clause-expr : goal.returns-clause-expr
returns-clause-expr c =
    elim c.match-node.branch [
      | in-Str+in_ok-from_str-in-Str w ↦ search rules
      | in-Insens+in_ok-from_str-in-Insens w ↦ search rules
      | in-Range+in_ok-low-in-Range+in_ok-from_str-in-Range w ↦ search rules
      | in-Ident+in_ok-from_str-in-Ident w ↦ search rules
      | in-PeekSlice w ↦ search rules
      | in-PosPred+in_ok-one_operand-in-PosPred w ↦ rw (w.result-is, w.operands-is) (of_one nodes_of _ _ _ _ _ w.in-PosPred.is w.in_ok-one_operand-in-PosPred.ensures.taken)
      | in-NegPred+in_ok-one_operand-in-NegPred w ↦ rw (w.result-is, w.operands-is) (of_one nodes_of _ _ _ _ _ w.in-NegPred.is w.in_ok-one_operand-in-NegPred.ensures.taken)
      | in-Seq+in_ok-left-in-Seq w ↦ rw (w.result-is, w.operands-is) (of_two nodes_of _ _ _ _ _ _ w.in-Seq.is w.in_ok-left-in-Seq.ensures.taken)
      | in-Choice+in_ok-left-in-Choice w ↦ rw (w.result-is, w.operands-is) (of_two nodes_of _ _ _ _ _ _ w.in-Choice.is w.in_ok-left-in-Choice.ensures.taken)
      | in-Opt+in_ok-one_operand-in-Opt w ↦ rw (w.result-is, w.operands-is) (of_one nodes_of _ _ _ _ _ w.in-Opt.is w.in_ok-one_operand-in-Opt.ensures.taken)
      | in-Rep+in_ok-one_operand-in-Rep w ↦ rw (w.result-is, w.operands-is) (of_one nodes_of _ _ _ _ _ w.in-Rep.is w.in_ok-one_operand-in-Rep.ensures.taken)
      | in-RepOnce+in_ok-one_operand-in-RepOnce w ↦ rw (w.result-is, w.operands-is) (of_one nodes_of _ _ _ _ _ w.in-RepOnce.is w.in_ok-one_operand-in-RepOnce.ensures.taken)
      | in-RepExact+in_ok-one_operand-in-RepExact w ↦ rw (w.result-is, w.operands-is) (of_one nodes_of _ _ _ _ _ w.in-RepExact.is w.in_ok-one_operand-in-RepExact.ensures.taken)
      | in-RepMin+in_ok-one_operand-in-RepMin w ↦ rw (w.result-is, w.operands-is) (of_one nodes_of _ _ _ _ _ w.in-RepMin.is w.in_ok-one_operand-in-RepMin.ensures.taken)
      | in-RepMax+in_ok-one_operand-in-RepMax w ↦ rw (w.result-is, w.operands-is) (of_one nodes_of _ _ _ _ _ w.in-RepMax.is w.in_ok-one_operand-in-RepMax.ensures.taken)
      | in-RepMinMax+in_ok-one_operand-in-RepMinMax w ↦ rw (w.result-is, w.operands-is) (of_one nodes_of _ _ _ _ _ w.in-RepMinMax.is w.in_ok-one_operand-in-RepMinMax.ensures.taken)
      | in-Skip+in_ok-copies-in-Skip w ↦ search rules
      | in-Push+in_ok-one_operand-in-Push w ↦ rw (w.result-is, w.operands-is) (of_one nodes_of _ _ _ _ _ w.in-Push.is w.in_ok-one_operand-in-Push.ensures.taken)
      | in-PushLiteral+in_ok-from_str-in-PushLiteral w ↦ search rules
      | in-NodeTag+in_ok-tag-in-NodeTag+in_ok-one_operand-in-NodeTag w ↦ search (rules, in_turn_last)
    ]
