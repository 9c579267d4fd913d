use Rattle.std.proofs.Common.{◌≡◌, ◌∙◌, sym, ap, subst, arith, ℕ, ◌-◌, ◌+◌, [], ◌∷◌, ◌++◌, length}
use Rattle.std.proofs.lemmas.List.{length_push}
use Rattle.front_stack_domain.specs.Reading as says
use Rattle.front_stack_loops.specs.Table.{IsMeaning}
use Rattle.front_stack_loops.specs.Memory.{Meaning, IsRight}
use Rattle.front_stack_loops.specs.Following.{IsForeseen, IsRun, IsTrace, copy_step, times}
use Rattle.front_stack_domain.specs.Views.{walk_of}
use Rattle.front_stack_loops.proofs.Counts.{times_more}
use Rattle.front_stack_loops.proofs.Follow.{Each, each_more, traced_all}
use Rattle.front_stack_loops.proofs.reader.follow.Goals as goal

pub returns : goal.returns
returns c =
    let v = c.loop-done.invariant in
    let e : c.loop-done.done ≡ c.args.series.count = omega arith in record {
      value = λ meaning h i. v.value meaning h i ∙ ap (λ n. times n (copy_step c.args.table.now meaning c.args.series.body c.args.series.required) (walk_of c.args.start)) e;
      kept = v.kept;
      trace = λ meaning h i. traced_all (copy_step c.args.table.now meaning c.args.series.body c.args.series.required) (walk_of c.args.start) _ c.args.series.count (v.count ∙ e) (v.each meaning h i);
    }

pub returns-in-Some : goal.returns-in-Some
returns-in-Some c =
    let v = c.loop-done.invariant in
    let done = c.loop-done.done in
    let items = c.loop-done.trace.items in
    let f : Meaning → says.Walk → says.Walk = λ meaning. copy_step c.args.table.now meaning c.args.series.body c.args.series.required in
    let left : ℕ = c.args.series.count - done in
    let known : IsForeseen items (walk_of c.loop-done.walk) left c.in-Some.last = subst (λ ws. IsForeseen ws (walk_of c.loop-done.walk) left c.in-Some.last) c.deref.ensures.value c.in-Some.ensures.known in
    let all : done + left ≡ c.args.series.count = omega arith in
    let run : (meaning : Meaning) → IsMeaning c.args.table.now meaning → IsRight meaning c.args.memory.now → IsRun (f meaning) (walk_of c.args.start) items (walk_of c.loop-done.walk) = λ meaning h i.
    record { each = v.each meaning h i; here = v.value meaning h i ∙ ap (λ n. times n (f meaning) (walk_of c.args.start)) (sym v.count) } in record {
      value = λ meaning h i. known.value (f meaning) (walk_of c.args.start) (run meaning h i)
          ∙ (ap (times left (f meaning)) (v.value meaning h i) ∙ (sym (times_more done left (f meaning) (walk_of c.args.start)) ∙ ap (λ n. times n (f meaning) (walk_of c.args.start)) all));
      kept = v.kept;
      trace = λ meaning h i. subst (λ n. IsTrace (f meaning) n (walk_of c.args.start) items) (ap (λ n. n + left) v.count ∙ all) (known.trace (f meaning) (walk_of c.args.start) (run meaning h i));
    }

pub loop-done-preserved : goal.loop-done-preserved
loop-done-preserved c =
    let v = c.loop-done.invariant in
    let step = c.in_ok-walk.ensures in
    let items : c.push.new.self.items ≡ c.loop-done.trace.items ++ c.loop-done.walk ∷ [] = c.in_ok-push.ensures.items in record {
      count = ap length items ∙ (length_push c.loop-done.trace.items c.loop-done.walk ∙ ap (λ n. n + 1) v.count);
      kept = λ meaning h i. step.kept meaning h (v.kept meaning h i);
      value = λ meaning h i. step.value meaning h (v.kept meaning h i) ∙ (ap (copy_step c.args.table.now meaning c.args.series.body c.args.series.required) (v.value meaning h i) ∙ sym (times_more c.loop-done.done 1 (copy_step c.args.table.now meaning c.args.series.body c.args.series.required) (walk_of c.args.start)));
      each = λ meaning h i. subst (Each (copy_step c.args.table.now meaning c.args.series.body c.args.series.required) (walk_of c.args.start)) (sym items) (each_more (copy_step c.args.table.now meaning c.args.series.body c.args.series.required) (walk_of c.args.start) c.loop-done.trace.items c.loop-done.walk c.loop-done.done v.count (v.each meaning h i) (v.value meaning h i));
    }
