use Rattle.std.proofs.Common.{map}
use Rattle.lint_patterns.proofs.SameBodies.{known_more, known_still, missing_if_new, same_spans, spans_if_missing, spans_if_there, there_if_old}
use Rattle.front_spanned.specs.Nodes.{piece_of, rule_view}
use Rattle.lint_patterns.proofs.bodies.add_where_same.Goals as goal

pub returns-in_ok-push : goal.returns-in_ok-push
returns-in_ok-push c =
    let r = rule_view c.args.rule.now in
    let has = rw c.in-Some.is at c.in_ok-key.ensures in
    record {
      spans = λ earlier knows.
          spans_if_there c.args.found.now.items c.push.new.self.items earlier c.args.rule.now c.in_ok-push.ensures.items has.1
          (there_if_old earlier r c.args.seen.now c.in-Some.key c.in_ok-is_new.is_new knows has.0 has.1 c.in_ok-is_new.ensures.added c.if-not-is_new.true);
      known = λ earlier knows. known_more earlier r c.args.seen.now c.insert.new.self c.in-Some.key has.0 c.in_ok-is_new.ensures.updates knows;
    }

pub returns-else-not-is_new : goal.returns-else-not-is_new
returns-else-not-is_new c =
    let r = rule_view c.args.rule.now in
    let has = rw c.in-Some.is at c.in_ok-key.ensures in
    record {
      spans = λ earlier knows.
          spans_if_missing (map piece_of c.args.found.now.items) earlier r has.1
          (missing_if_new earlier r c.args.seen.now c.in-Some.key c.in_ok-is_new.is_new knows has.0 has.1 c.in_ok-is_new.ensures.added c.if-not-is_new.false);
      known = λ earlier knows. known_more earlier r c.args.seen.now c.insert.new.self c.in-Some.key has.0 c.in_ok-is_new.ensures.updates knows;
    }

pub returns-in_default : goal.returns-in_default
returns-in_default c =
    let r = rule_view c.args.rule.now in
    let other = rw c.in_default.is at c.in_ok-key.ensures in
    record {
      spans = λ earlier knows. same_spans (map piece_of c.args.found.now.items) earlier r other;
      known = λ earlier knows. known_still earlier r c.args.seen.now other knows;
    }
