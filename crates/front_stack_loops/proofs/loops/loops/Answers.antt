use Rattle.std.proofs.Common.{◌≡◌, ◌∙◌, sym, ap, arith, suc, ◌-◌, ◌+◌, [], ◌∷◌, ◌⊎◌, inl, inr, reverse, None, Some, true, false}
use Rattle.std.proofs.lemmas.Bool.{not-false, not-true}
use Rattle.front_stack_domain.specs.Stack.{are_among}
use Rattle.front_stack_domain.specs.Walks.{settled}
use Rattle.front_stack_loops.specs.Searching.{marks_in}
use Rattle.front_stack_domain.specs.Views.{reading_of, stack_of, possible}
use Rattle.front_stack_loops.proofs.Searched.{among_reverse, marks_more, stopped, found, goes_on}
use Rattle.front_stack_loops.proofs.loops.loops.Goals as goal
use Rattle.front_stack_loops.proofs.loops.loops.Goals.{then-not-after, else-not-after+else-has_marks_of}

pub returns-in_default : goal.returns-in_default
returns-in_default c =
    let v = c.loop-done.invariant in
    let one : c.args.turns - c.loop-done.done ≡ suc (c.args.turns - (c.loop-done.done + 1)) = omega arith in
    let none : settled (reading_of c.in_ok-reading.reading) ≡ None = sym c.sure_stack.ensures ∙ ap possible c.in_default.is in record {
      value = λ meaning h i. stopped (meaning c.args.body) (c.args.turns - (c.loop-done.done + 1)) (c.args.turns - c.loop-done.done) (reverse (marks_in c.loop-done.starts.items)) (stack_of c.loop-done.start) (reading_of c.in_ok-reading.reading)
          one (c.in_ok-reading.ensures.value meaning h (v.kept meaning h i)) none ∙ v.value meaning h i;
      kept = λ meaning h i. c.in_ok-reading.ensures.kept meaning h (v.kept meaning h i);
    }

pub returns-then-has_marks_of : goal.returns-then-has_marks_of
returns-then-has_marks_of c =
    let v = c.loop-done.invariant in
    let one : c.args.turns - c.loop-done.done ≡ suc (c.args.turns - (c.loop-done.done + 1)) = omega arith in
    let b = stack_of c.in-Some.after in
    let some : settled (reading_of c.in_ok-reading.reading) ≡ Some b = sym c.sure_stack.ensures ∙ ap possible c.in-Some.is in
    let again : are_among (reverse (marks_in c.loop-done.starts.items)) b.marks ≡ true = among_reverse (marks_in c.loop-done.starts.items) b.marks ∙ (sym (c.has_marks_of.ensures ∙ ap (λ l. are_among (marks_in l) b.marks) c.deref.ensures.value) ∙ c.if-has_marks_of.true) in record {
      value = λ meaning h i. found (meaning c.args.body) (c.args.turns - (c.loop-done.done + 1)) (c.args.turns - c.loop-done.done) (reverse (marks_in c.loop-done.starts.items)) (stack_of c.loop-done.start) (reading_of c.in_ok-reading.reading)
          one (c.in_ok-reading.ensures.value meaning h (v.kept meaning h i)) b some (not-false _ c.if-not-after.false) again ∙ v.value meaning h i;
      kept = λ meaning h i. c.in_ok-reading.ensures.kept meaning h (v.kept meaning h i);
    }

pub loop-done-preserved : goal.loop-done-preserved
loop-done-preserved c =
    let v = c.loop-done.invariant in
    let one : c.args.turns - c.loop-done.done ≡ suc (c.args.turns - (c.loop-done.done + 1)) = omega arith in
    let b = stack_of c.in-Some.after in
    let starts = reverse (marks_in c.loop-done.starts.items) in
    let front = reverse (marks_in c.if-not-after.starts.items) in
    let some : settled (reading_of c.in_ok-reading.reading) ≡ Some b = sym c.sure_stack.ensures ∙ ap possible c.in-Some.is in
    let kept : ((b.intact ≡ false) × (front ≡ [])) ⊎ ((b.intact ≡ true) × (are_among starts b.marks ≡ false) × (front ≡ starts)) = elim c.if-not-after.branch [
      | then-not-after w ↦ inl (not-true _ w.if-not-after.true, ap (λ v. reverse (marks_in v.items)) w.starts-is ∙ ap (λ l. reverse (marks_in l)) w.new-starts-then-not-after.ensures.items)
      | else-not-after+else-has_marks_of w ↦ inr (not-false _ w.if-not-after.false, among_reverse (marks_in c.loop-done.starts.items) b.marks ∙ (sym (w.has_marks_of.ensures ∙ ap (λ l. are_among (marks_in l) b.marks) w.deref.ensures.value) ∙ w.if-has_marks_of.false), ap (λ v. reverse (marks_in v.items)) w.starts-is)
    ] in
    let pushed = c.in_ok-push-2.ensures.items in
    let more : reverse (marks_in c.push-in-loop-done.new.self.items) ≡ (stack_of c.made_intact-start-in-loop-done.result).marks ∷ front = ap (λ l. reverse (marks_in l)) pushed ∙ marks_more c.if-not-after.starts.items c.made_intact-start-in-loop-done.result in record {
      kept = λ meaning h i. c.in_ok-reading.ensures.kept meaning h (v.kept meaning h i);
      value = λ meaning h i. goes_on (meaning c.args.body) (c.args.turns - (c.loop-done.done + 1)) (c.args.turns - c.loop-done.done) starts (stack_of c.loop-done.start) (reading_of c.in_ok-reading.reading)
          one (c.in_ok-reading.ensures.value meaning h (v.kept meaning h i)) b _ front _ some c.made_intact-start-in-loop-done.ensures kept more ∙ v.value meaning h i;
    }
