use Rattle.std.proofs.Common.{◌≡◌, ◌∙◌, sym, ap, ◌&&◌, true, false, rules}
use Rattle.front_stack_domain.specs.Marks.{marks_of}
use Rattle.front_stack_domain.specs.Stack.{all_blank, both_marks}
use Rattle.front_stack_domain.specs.Views.{stack_of}
use Rattle.front_stack_domain.proofs.MarkLemmas.{length-marks_of, other_counts, joined_is, joined_other}
use Rattle.front_stack_domain.proofs.stack.Stack.join.Goals as goal

pub returns-then-self-other : goal.returns-then-self-other
returns-then-self-other c =
    let e : c.args.self.count ≡ c.args.other.count = c.if-self-other.true in
    let i : c.if-self.result ≡ (c.args.self.intact && c.args.other.intact) = search rules in
    joined_is (stack_of c.args.self) (stack_of c.args.other) _ _ _
    (length-marks_of _ _ ∙ e ∙ sym (length-marks_of _ _))
    c.join.ensures
    (c.both.ensures.marks ∙ ap (λ n. both_marks (marks_of c.args.self.count c.args.self.marks) (marks_of n c.args.other.marks)) e)
    i

pub returns-then-is_blank-2 : goal.returns-then-is_blank-2
returns-then-is_blank-2 c =
    let b : (all_blank (stack_of c.args.self) && all_blank (stack_of c.args.other)) ≡ true = search rules in
    c.blank.ensures ∙ joined_other (stack_of c.args.self) (stack_of c.args.other) true (other_counts _ _ _ _ c.if-self-other.false) b

pub returns : goal.returns
returns c =
    let b : (all_blank (stack_of c.args.self) && all_blank (stack_of c.args.other)) ≡ false = search rules in
    c.unknown.ensures ∙ joined_other (stack_of c.args.self) (stack_of c.args.other) false (other_counts _ _ _ _ c.if-self-other.false) b
