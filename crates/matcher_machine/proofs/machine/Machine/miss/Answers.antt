use Rattle.std.proofs.Common.{◌≡◌, ◌∙◌, ◌==◌, ℕ, List, ap, ap₂, if◌then◌else◌, map, refl, reverse, sym}
use Rattle.matcher_code.specs.declared.code.Op.TheVariants as op
use Rattle.matcher_code.specs.Steps.{apply_op, insert_rule, one_place}
use Rattle.matcher_machine.specs.Machines.{config, frame_of}
use Rattle.matcher_machine.specs.Stacks.{texts_in}
use Rattle.matcher_machine.specs.declared.stack.TextStack.{TextStack}
use Rattle.matcher_machine.proofs.Following.{none_missed, frames_more}
use Rattle.matcher_machine.proofs.Stacking.{same_parts}
use Rattle.matcher_machine.proofs.machine.Machine.miss.Goals as goal

pub returns : goal.returns
returns c code text pc =
    let m = c.args.self.now in
    let new = c.expect_here.new.self in
    let at = c.args.at in
    let a = c.reach.ensures in
    let e = c.in_ok-expect_here.ensures in
    let names : new.names.items ≡ (if at == m.asked then insert_rule m.names.items c.args.rule else m.names.items) =
    e.expected ∙ ap₂ (λ (n : ℕ) (ns : List ℕ). if at == n then insert_rule ns c.args.rule else ns) a.asked (ap (λ v. v.items) a.names) in
    let stack : new.stack ≡ m.stack = e.stack ∙ a.stack in
    let frames : new.frames ≡ m.frames = e.frames ∙ a.frames in
    same_parts (apply_op code text (op.Miss c.args.rule c.args.next) (config code text m pc at)) (config code text new c.args.next at) refl refl
    (frames_more code text m c.args.rule (at == m.asked) new.names.items names
    ∙ (ap (λ v. map (frame_of code text m.stack new.names.items) (reverse v.items)) (sym frames)
    ∙ ap (λ (st : TextStack). map (frame_of code text st new.names.items) (reverse new.frames.items)) (sym stack)))
    (ap (λ v. v.items) (sym (e.trees ∙ a.trees))) (ap (λ (st : TextStack). texts_in code text st) (sym stack))
    (sym (e.furthest ∙ a.furthest)) (ap one_place (sym (e.asked ∙ a.asked))) (sym names) (none_missed (one_place m.asked) c.args.rule at)
