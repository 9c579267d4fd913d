use Rattle.std.proofs.Common.{rules, ◌≡◌, ◌+◌, ◌-◌, ◌∙◌, [], ap, ap₂, arith, drop, false, length, nat_le, suc, subst, sym, take, true, vec_len}
use Rattle.std.proofs.lemmas.List.{nil_from_length}
use Rattle.matcher_engine.specs.Walks.{Visited, entered, visited_of, visits_left}
use Rattle.matcher_program.specs.ExpectedNames.{name_texts}
use Rattle.matcher_engine.specs.declared.walk.VisitedTree.{VisitedTree}
use Rattle.matcher_engine.specs.declared.walk.TreeWalk.{TreeWalk}
use Rattle.matcher_engine.proofs.Walking.{Goes, enters_next, last_goes, leaves_last, open_trees}
use Rattle.matcher_engine.proofs.walk.TreeWalk.next_visit.Goals as goal
use Rattle.matcher_engine.proofs.walk.TreeWalk.next_visit.Goals.{in-Some+else-after-self, in_default}

-- the last tree that was opened goes on
abbrev GoesOn : TreeWalk → Type 0
GoesOn w = Goes (suc w.number) (open_trees w.pending.items)

pub returns-then-after-self : goal.returns-then-after-self
returns-then-after-self c =
    let w = c.args.self.now in
    let last = c.in-Some.last.now in
    let item = rw c.deref.ensures.value at c.in-Some.ensures.item in
    let long : vec_len w.pending ≡ length w.pending.items = search rules in
    let over : nat_le last.node.after w.number ≡ true = grind (arith, c.if-after-self.true) in
    leaves_last (name_texts w.names.now) (drop w.number w.trees.now) w.number w.pending.items c.pop.new.self.items last item.3.0 item.1 (c.pop.ensures.rest ∙ ap (λ n. take (n - 1) w.pending.items) long) over

pub returns : goal.returns
returns c =
    let w = c.match-last.self in
    let t : VisitedTree = record { rule = c.text_name.result; node = c.in-Some-get.node.now; number = w.number; depth = c.len.result } in
    let same : c.args.self.now ≡ w = elim c.match-last.branch [ in-Some+else-after-self b ↦ sym b.self-is | in_default b ↦ sym b.self-is ] in
    let goes : GoesOn c.args.self.now =
    elim c.match-last.branch [
      | in-Some+else-after-self b ↦
          (let old = c.args.self.now in
          let item = rw c.deref.ensures.value at b.in-Some.ensures.item in
          let on : nat_le b.in-Some.last.now.node.after old.number ≡ false = grind (arith, b.if-after-self.false) in
          last_goes old.number old.pending.items b.in-Some.last.now item.3.0 item.1 on)
      | in_default b ↦
          (let none = rw c.deref.ensures.value at b.in_default.ensures.item in
          let empty : c.args.self.now.pending.items ≡ [] = nil_from_length _ (omega (arith, none.3)) in
          subst (λ is. Goes (suc c.args.self.now.number) (open_trees is)) (sym empty) tt)
    ] in
    let long : vec_len w.pending ≡ length w.pending.items = search rules in
    let lookup = c.in-Some-get.ensures.lookup in
    let is : visited_of t ≡ entered (name_texts w.names.now) t.node w.number (length w.pending.items) =
    ap₂ (λ r d. (let v : Visited = record { rule = r; node = t.node; number = w.number; depth = d } in v)) c.text_name.ensures (c.len.ensures ∙ long) in
    ap visits_left same
    ∙ enters_next (name_texts w.names.now) w.trees.now w.number (w.number + 1) w.pending.items c.push.new.self.items t (subst GoesOn same goes) lookup.3.0 lookup.1 is c.in_ok-push.ensures.items (omega arith)
