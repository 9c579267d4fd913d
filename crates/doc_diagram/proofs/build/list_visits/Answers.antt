use Rattle.std.proofs.Common.{◌≡◌, ◌<◌, ap, arith}
use Rattle.doc_diagram.specs.Marks.{diagram_marks}
use Rattle.doc_diagram.specs.Steps.{size}
use Rattle.doc_diagram.proofs.Walking.{some_size, split_more, split_sizes, visited_load, visited_more, visited_sizes}
use Rattle.doc_diagram.proofs.build.list_visits.Goals as goal

pub loop-next-smaller-in-Seq-1 : goal.loop-next-smaller-in-Seq-1
loop-next-smaller-in-Seq-1 c =
    let s = split_sizes _ _ _ c.in-Some.next c.deref.result c.deref-in-Tilde-Seq.result _ _ c.in-Some.ensures.items c.in_ok-push_both-in-Tilde-Seq.ensures (ap size c.in-Tilde-Seq.is-1) c.deref.ensures c.deref-in-Tilde-Seq.ensures in
    omega (arith, s)

pub loop-next-preserved-in-Seq-1 : goal.loop-next-preserved-in-Seq-1
loop-next-preserved-in-Seq-1 c =
    let s = split_sizes _ _ _ c.in-Some.next c.deref.result c.deref-in-Tilde-Seq.result _ _ c.in-Some.ensures.items c.in_ok-push_both-in-Tilde-Seq.ensures (ap size c.in-Tilde-Seq.is-1) c.deref.ensures c.deref-in-Tilde-Seq.ensures in
    record {
      marks = λ n. split_more n _ _ _ c.in-Some.next c.deref.result c.deref-in-Tilde-Seq.result _ _ _ _ c.in-Some.ensures.items c.in_ok-push_both-in-Tilde-Seq.ensures (ap (diagram_marks n) c.in-Tilde-Seq.is-1) c.deref.ensures c.deref-in-Tilde-Seq.ensures (c.loop-next.invariant.marks n);
      work = omega (arith, s);
    }

pub loop-next-smaller-in-Choice-1 : goal.loop-next-smaller-in-Choice-1
loop-next-smaller-in-Choice-1 c =
    let s = split_sizes _ _ _ c.in-Some.next c.deref-in-Bar-Choice.result c.deref-in-Bar-Choice-2.result _ _ c.in-Some.ensures.items c.in_ok-push_both-in-Bar-Choice.ensures (ap size c.in-Bar-Choice.is-1) c.deref-in-Bar-Choice.ensures c.deref-in-Bar-Choice-2.ensures in
    omega (arith, s)

pub loop-next-preserved-in-Choice-1 : goal.loop-next-preserved-in-Choice-1
loop-next-preserved-in-Choice-1 c =
    let s = split_sizes _ _ _ c.in-Some.next c.deref-in-Bar-Choice.result c.deref-in-Bar-Choice-2.result _ _ c.in-Some.ensures.items c.in_ok-push_both-in-Bar-Choice.ensures (ap size c.in-Bar-Choice.is-1) c.deref-in-Bar-Choice.ensures c.deref-in-Bar-Choice-2.ensures in
    record {
      marks = λ n. split_more n _ _ _ c.in-Some.next c.deref-in-Bar-Choice.result c.deref-in-Bar-Choice-2.result _ _ _ _ c.in-Some.ensures.items c.in_ok-push_both-in-Bar-Choice.ensures (ap (diagram_marks n) c.in-Bar-Choice.is-1) c.deref-in-Bar-Choice.ensures c.deref-in-Bar-Choice-2.ensures (c.loop-next.invariant.marks n);
      work = omega (arith, s);
    }

pub loop-next-smaller : goal.loop-next-smaller
loop-next-smaller c =
    let s = visited_sizes _ _ c.in-Some.next c.in-Some.ensures.items in
    let p = some_size c.in-Some.next.now in
    omega (arith, s, p)

pub loop-next-preserved : goal.loop-next-preserved
loop-next-preserved c =
    let s = visited_sizes _ _ c.in-Some.next c.in-Some.ensures.items in
    let l = visited_load _ _ c.in-Some.next c.in_ok-push-in_default-2.ensures.items in
    record {
      marks = λ n. visited_more n _ _ c.in-Some.next _ _ _ c.in-Some.ensures.items c.in_ok-push-in_default-2.ensures.items (c.loop-next.invariant.marks n);
      work = omega (arith, s, l);
    }
