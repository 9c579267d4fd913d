use Rattle.std.proofs.Common.{◌≡◌, ◌∙◌, subst, refl, rules, ◌<◌, [], length, append-nil}
use Rattle.front_stack_loops.specs.Table.{nodes_of}
use Rattle.front_stack_loops.specs.declared.waiting.ReadTask.TheVariants as next
use Rattle.front_stack_loops.proofs.Awaiting.{ReadSoFar, read_begun, read_done, read_on}
use Rattle.front_stack_loops.proofs.reader.read.Goals as goal

pub steps-init : goal.steps-init
steps-init c =
    let w : c.args.node < length (nodes_of c.args.table.now) = search rules in read_begun c.args.table.now _ c.args.node c.args.stack _ c.new-waiting.ensures.items w

pub returns-in-None : goal.returns-in-None
returns-in-None c =
    let none_left : c.pop.new.self.items ≡ [] = c.in-None.ensures.rest ∙ rw c.in-None.ensures.cases.0 refl in
    read_done c.args.table.now _ _ c.args.node c.args.stack _ _ c.in-Done.reading c.steps.invariant c.in-Done.is (c.in-None.ensures.items ∙ (append-nil c.pop.new.self.items ∙ none_left))

pub steps-preserved-in-Read : goal.steps-preserved-in-Read
steps-preserved-in-Read c = read_on c.args.table.now _ _ _ c.args.node c.args.stack _ _ _ _ (subst (λ p. ReadSoFar c.args.table.now c.args.memory.now c.steps.memory c.args.node c.args.stack p c.steps.waiting.items) c.in-Read.is c.steps.invariant) c.in_ok-next-in-Read.ensures

pub steps-preserved : goal.steps-preserved
steps-preserved c = read_on c.args.table.now _ _ _ c.args.node c.args.stack _ _ _ _ (subst (λ ws. ReadSoFar c.args.table.now c.args.memory.now c.steps.memory c.args.node c.args.stack (next.Done c.in-Done.reading) ws) c.in-Some.ensures.items
    (subst (λ p. ReadSoFar c.args.table.now c.args.memory.now c.steps.memory c.args.node c.args.stack p c.steps.waiting.items) c.in-Done.is c.steps.invariant)) c.in_ok-next-in-Some.ensures
