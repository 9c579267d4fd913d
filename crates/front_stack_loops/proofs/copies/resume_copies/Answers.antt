use Rattle.std.proofs.Common.{◌≡◌, ◌<◌, ◌∙◌, sym, ap, subst, refl, if◌then◌else◌, arith}
use Rattle.front_stack_domain.specs.Views.{walk_of}
use Rattle.front_stack_loops.specs.Following.{IsForeseen}
use Rattle.front_stack_loops.specs.declared.copies.Copies.{Copies}
use Rattle.front_stack_loops.proofs.Repeated.{copies_go_on, copy_leads, fewer_left, goes_on_by, kind_foreseen}
use Rattle.front_stack_loops.proofs.Work.{where_ok}
use Rattle.front_stack_loops.proofs.copies.resume_copies.Goals as goal
use Rattle.front_stack_loops.proofs.copies.resume_copies.Goals.{then-required, else-required, then-required-2, else-required-2}

pub returns-in_default : goal.returns-in_default
returns-in_default c =
    let left_is : c.if-required.left ≡ (if c.args.copy.required then c.args.copy.copies.required else c.args.copy.copies.optional) = elim c.if-required.branch [
      | then-required w ↦ w.left-is ∙ sym (ap (λ b. if b then c.args.copy.copies.required else c.args.copy.copies.optional) w.if-required.true)
      | else-required w ↦ w.left-is ∙ sym (ap (λ b. if b then c.args.copy.copies.required else c.args.copy.copies.optional) w.if-required.false)
    ] in
    let some : 0 < c.if-required.left = c.in_default.ensures.unknown in
    where_ok c.next_copy.result (λ q g. goes_on_by c.args.table.now _ _ _ _ _ _ _ _ _ _ _ q
    (λ meaning f. copy_leads c.args.table.now meaning c.args.copy.copies c.args.copy.required c.args.copy.from c.after_copy-copies.result _ _ _ c.if-required.left c.after_copy-copies.ensures left_is some f) (omega arith) g) c.next_copy.ensures

pub returns : goal.returns
returns c =
    let tab = c.args.table.now in
    let was : Copies = c.args.copy.copies in
    let is : Copies = c.if-required-2.copies in
    let w = c.after_copy-copies.result in
    let v = c.in-Some.walk in
    let behind : Copies = record was { walk = v; trace = c.new.result } in
    let left_is : c.if-required.left ≡ (if c.args.copy.required then was.required else was.optional) = elim c.if-required.branch [
      | then-required x ↦ x.left-is ∙ sym (ap (λ b. if b then was.required else was.optional) x.if-required.true)
      | else-required x ↦ x.left-is ∙ sym (ap (λ b. if b then was.required else was.optional) x.if-required.false)
    ] in
    let past : is ≡ (if c.args.copy.required then record behind { required = 0 } else record behind { optional = 0 }) = elim c.if-required-2.branch [
      | then-required-2 x ↦ x.copies-is ∙ sym (ap (λ b. if b then record behind { required = 0 } else record behind { optional = 0 }) x.if-required-2.true)
      | else-required-2 x ↦ x.copies-is ∙ sym (ap (λ b. if b then record behind { required = 0 } else record behind { optional = 0 }) x.if-required-2.false)
    ] in
    let known : IsForeseen was.trace.items (walk_of w) c.if-required.left v = subst (λ l. IsForeseen l (walk_of w) c.if-required.left v) c.deref.ensures.value c.in-Some.ensures.known in
    let fewer = fewer_left tab was is behind c.args.copy.required v refl past in
    where_ok c.next_copy-2.result (λ q g. copies_go_on tab _ _ _ _ _ was is _ _ q (λ meaning f. kind_foreseen tab meaning was is behind c.args.copy.required c.args.copy.from w v _ _ _ c.if-required.left c.after_copy-copies.ensures left_is known refl past c.new.ensures.items f) fewer g) c.next_copy-2.ensures
