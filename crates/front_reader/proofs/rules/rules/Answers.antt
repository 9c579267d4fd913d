use Rattle.std.proofs.Common.{[], ◌∷◌, refl, append-nil}
use Rattle.std.proofs.lemmas.Result.{err_from_is_err_and}
use Rattle.front_spanned.specs.Nodes.{rule_view}
use Rattle.front_reader.proofs.FlawsInOrder.{first_in}
use Rattle.front_reader.proofs.TreesStandInText.{stand_behind}
use Rattle.front_reader.proofs.ReadRules.{left, nothing, init_reads, rule_first, other_first, rule_views-push}
use Rattle.front_reader.proofs.rules.rules.Goals as goal

pub loop-tree-init : goal.loop-tree-init
loop-tree-init c = record {
  shape = left c.requires.shape;
  nested = c.requires.nested;
  empty = c.new-levels.ensures.items;
  flaws = refl;
  reads = λ rs d. rw c.new.ensures.items (init_reads c.requires.shape d);
}

pub rule-requires-clause-shape : goal.rule-requires-clause-shape
rule-requires-clause-shape c =
    let f = rule_first (rw (c.in-Some.ensures, c.in-grammar_rule.is) at c.loop-tree.invariant.shape) in
    f.inside

pub returns-in_err-one : goal.returns-in_err-one
returns-in_err-one c =
    let f = rule_first (rw (c.in-Some.ensures, c.in-grammar_rule.is) at c.loop-tree.invariant.shape) in
    let p = err_from_is_err_and c.from_residual.result c.from_residual.ensures.1 in
    rw (p.1, p.2, c.loop-tree.invariant.flaws, c.in-Some.ensures, c.in-grammar_rule.is, f.flaw) (first_in _ _ _ c.in_err-one.ensures.answers)

pub loop-tree-preserved-in-Continue-branch-3 : goal.loop-tree-preserved-in-Continue-branch-3
loop-tree-preserved-in-Continue-branch-3 c =
    let f = rule_first (rw (c.in-Some.ensures, c.in-grammar_rule.is) at c.loop-tree.invariant.shape) in
    let e = rw c.in-Some-2.is at c.in_ok-one.ensures.answers in
    record {
      shape = f.behind;
      nested = stand_behind (rw c.in-Some.ensures at c.loop-tree.invariant.nested);
      empty = c.in_ok-one.ensures.empty;
      flaws = rw (c.loop-tree.invariant.flaws, c.in-Some.ensures, c.in-grammar_rule.is, f.flaw, e.0) refl;
      reads = λ rs d. rw (c.in_ok-push.ensures.pushed, rule_views-push) (c.loop-tree.invariant.reads (rule_view c.in-Some-2.one ∷ rs) (rw (c.in-Some.ensures, c.in-grammar_rule.is) (f.definition (rule_view c.in-Some-2.one) e.1 rs d)));
    }

pub loop-tree-preserved-in_default-2 : goal.loop-tree-preserved-in_default-2
loop-tree-preserved-in_default-2 c =
    let f = rule_first (rw (c.in-Some.ensures, c.in-grammar_rule.is) at c.loop-tree.invariant.shape) in
    let e = rw c.in_default-2.is at c.in_ok-one.ensures.answers in
    record {
      shape = f.behind;
      nested = stand_behind (rw c.in-Some.ensures at c.loop-tree.invariant.nested);
      empty = c.in_ok-one.ensures.empty;
      flaws = rw (c.loop-tree.invariant.flaws, c.in-Some.ensures, c.in-grammar_rule.is, f.flaw, e.0) refl;
      reads = λ rs d. c.loop-tree.invariant.reads rs (rw (c.in-Some.ensures, c.in-grammar_rule.is) (f.comment e.1 rs d));
    }

pub loop-tree-preserved : goal.loop-tree-preserved
loop-tree-preserved c =
    let f = other_first c.in-Some.tree.rule (rw c.in-Some.ensures at c.loop-tree.invariant.shape) refl c.in_default-rule.not-grammar_rule in
    record {
      shape = f.behind;
      nested = stand_behind (rw c.in-Some.ensures at c.loop-tree.invariant.nested);
      empty = c.loop-tree.invariant.empty;
      flaws = rw (c.loop-tree.invariant.flaws, c.in-Some.ensures) f.flaw;
      reads = λ rs d. c.loop-tree.invariant.reads rs (rw c.in-Some.ensures (f.reads rs d));
    }

pub returns : goal.returns
returns c =
    let r = c.loop-tree.invariant.reads [] (rw c.in_default.ensures nothing) in
    (rw (c.loop-tree.invariant.flaws, c.in_default.ensures) refl, rw c.into_inner.ensures (rw append-nil at r))
