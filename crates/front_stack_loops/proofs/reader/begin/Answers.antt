use Rattle.std.proofs.Common.{◌≡◌, ◌∙◌, sym, ap, subst, refl, Some, true, false}
use Rattle.front_stack_domain.specs.Reading.{surely, top_reading}
use Rattle.front_stack_loops.specs.Table.{Called, Inside, LeadsTo, HasOrderedOperands, call_reading, followed_at}
use Rattle.front_stack_domain.specs.Views.{stack_of}
use Rattle.front_stack_loops.specs.declared.waiting.How.TheVariants as how
use Rattle.front_stack_loops.proofs.Awaiting.{done_at_once, leaf_done, level_called, wait_first, wait_inside, wait_last}
use Rattle.front_stack_loops.proofs.Work.{not_followed, where_ok}
use Rattle.front_stack_loops.proofs.Repeated.{repeat_begun}
use Rattle.front_stack_loops.proofs.reader.begin.Goals as goal

pub returns-in-Still : goal.returns-in-Still
returns-in-Still c = leaf_done c.args.table.now _ c.args.node c.args.stack _ _ _ c.kind_at.ensures.means c.in-Still.is _ (λ meaning. c.surely.ensures)

pub returns-in-Leaf : goal.returns-in-Leaf
returns-in-Leaf c = leaf_done c.args.table.now _ c.args.node c.args.stack _ _ _ c.kind_at.ensures.means c.in-Leaf.is _ (λ meaning. c.maybe.ensures)

pub returns-in-Peek : goal.returns-in-Peek
returns-in-Peek c = leaf_done c.args.table.now _ c.args.node c.args.stack _ _ _ c.kind_at.ensures.means c.in-Peek.is _ (λ meaning. c.top.ensures)

pub returns-in-Pop : goal.returns-in-Pop
returns-in-Pop c = leaf_done c.args.table.now _ c.args.node c.args.stack _ _ _ c.kind_at.ensures.means c.in-Pop.is _ (λ meaning. c.top-in-Pop.ensures ∙ ap (top_reading (stack_of c.args.stack).marks (stack_of c.args.stack).base) c.without_top.ensures)

pub returns-in-Drop : goal.returns-in-Drop
returns-in-Drop c = leaf_done c.args.table.now _ c.args.node c.args.stack _ _ _ c.kind_at.ensures.means c.in-Drop.is _ (λ meaning. c.drop_top.ensures)

pub returns-in-PeekAll : goal.returns-in-PeekAll
returns-in-PeekAll c = leaf_done c.args.table.now _ c.args.node c.args.stack _ _ _ c.kind_at.ensures.means c.in-PeekAll.is _ (λ meaning. c.peek_all.ensures)

pub returns-in-PopAll : goal.returns-in-PopAll
returns-in-PopAll c = leaf_done c.args.table.now _ c.args.node c.args.stack _ _ _ c.kind_at.ensures.means c.in-PopAll.is _ (λ meaning. c.pop_all.ensures)

pub returns-in-PushLiteral : goal.returns-in-PushLiteral
returns-in-PushLiteral c = leaf_done c.args.table.now _ c.args.node c.args.stack _ _ _ c.kind_at.ensures.means c.in-PushLiteral.is _ (λ meaning. c.surely-in-PushLiteral.ensures ∙ ap surely c.with_mark.ensures)

pub returns-in-Tag : goal.returns-in-Tag
returns-in-Tag c = wait_inside c.args.table.now _ c.args.node c.args.stack _ _ c.kind_at.ensures.means c.in-Tag.is (c.kind_at.ensures.ordered c.requires.ordered) how.Same c.in-Tag.body (λ lies. lies) (λ meaning. refl) _ _ c.wait-in-Tag.result c.wait-in-Tag.ensures

pub returns-in-Some : goal.returns-in-Some
returns-in-Some c = done_at_once c.args.table.now _ _ c.args.node c.args.stack _ _ (λ meaning h i. (i, c.in-Some.ensures meaning i))

pub returns-in-None : goal.returns-in-None
returns-in-None c = leaf_done c.args.table.now _ c.args.node c.args.stack _ _ _ c.kind_at.ensures.means c.in-Call.is _
    (λ meaning. c.anything.ensures ∙ not_followed meaning (stack_of c.args.stack) (followed_at c.args.table.now c.in-Call.rule) c.followed_body.result c.followed_body.ensures c.in-None.is)

pub returns-in-Some-followed_body : goal.returns-in-Some-followed_body
returns-in-Some-followed_body c =
    let tab = c.args.table.now in
    let to : followed_at tab c.in-Call.rule ≡ Some c.in-Some-followed_body.body = sym c.followed_body.ensures ∙ c.in-Some-followed_body.is in
    let lies : Called tab c.args.node c.in-Some-followed_body.body = subst (LeadsTo tab c.args.node) to (subst (HasOrderedOperands tab c.args.node) c.in-Call.is (c.kind_at.ensures.ordered c.requires.ordered)) in
    where_ok c.wait.result (λ q g. wait_last tab _ c.args.node c.args.stack _ _ c.kind_at.ensures.means c.in-Call.is how.Same c.in-Some-followed_body.body _ _ q
    (λ meaning. sym (ap (λ o. call_reading meaning o (stack_of c.args.stack)) to)) lies.within (level_called tab c.args.node c.in-Some-followed_body.body lies) g) c.wait.ensures

pub returns-in-PosPred : goal.returns-in-PosPred
returns-in-PosPred c = wait_inside c.args.table.now _ c.args.node c.args.stack _ _ c.kind_at.ensures.means c.in-PosPred.is (c.kind_at.ensures.ordered c.requires.ordered) how.Ahead c.in-PosPred.body (λ lies. lies) (λ meaning. refl) _ _ c.wait-in-PosPred.result c.wait-in-PosPred.ensures

pub returns-in-NegPred : goal.returns-in-NegPred
returns-in-NegPred c = wait_inside c.args.table.now _ c.args.node c.args.stack _ _ c.kind_at.ensures.means c.in-NegPred.is (c.kind_at.ensures.ordered c.requires.ordered) how.NotAhead c.in-NegPred.body (λ lies. lies) (λ meaning. refl) _ _ c.wait-in-NegPred.result c.wait-in-NegPred.ensures

pub returns-in-Opt : goal.returns-in-Opt
returns-in-Opt c = wait_inside c.args.table.now _ c.args.node c.args.stack _ _ c.kind_at.ensures.means c.in-Opt.is (c.kind_at.ensures.ordered c.requires.ordered) how.Optional c.in-Opt.body (λ lies. lies) (λ meaning. refl) _ _ c.wait-in-Opt.result c.wait-in-Opt.ensures

pub returns-in-Push : goal.returns-in-Push
returns-in-Push c = wait_inside c.args.table.now _ c.args.node c.args.stack _ _ c.kind_at.ensures.means c.in-Push.is (c.kind_at.ensures.ordered c.requires.ordered) how.Pushed c.in-Push.body (λ lies. lies) (λ meaning. refl) _ _ c.wait-in-Push.result c.wait-in-Push.ensures

pub returns-in-Seq : goal.returns-in-Seq
returns-in-Seq c =
    let tab = c.args.table.now in
    where_ok c.wait-in-Seq.result (λ q g. wait_first tab _ c.args.node c.args.stack _ _ c.kind_at.ensures.means c.in-Seq.is c.in-Seq.first c.in-Seq.second false _ _ q (λ meaning. refl)
    (subst (HasOrderedOperands tab c.args.node) c.in-Seq.is (c.kind_at.ensures.ordered c.requires.ordered)) g) c.wait-in-Seq.ensures

pub returns-in-Choice : goal.returns-in-Choice
returns-in-Choice c =
    let tab = c.args.table.now in
    where_ok c.wait-in-Choice.result (λ q g. wait_first tab _ c.args.node c.args.stack _ _ c.kind_at.ensures.means c.in-Choice.is c.in-Choice.first c.in-Choice.second true _ _ q (λ meaning. refl)
    (subst (HasOrderedOperands tab c.args.node) c.in-Choice.is (c.kind_at.ensures.ordered c.requires.ordered)) g) c.wait-in-Choice.ensures

pub returns-in-Repeat : goal.returns-in-Repeat
returns-in-Repeat c =
    let tab = c.args.table.now in
    let inside : Inside tab c.args.node c.in-Repeat.body = subst (HasOrderedOperands tab c.args.node) c.in-Repeat.is (c.kind_at.ensures.ordered c.requires.ordered) in
    let all = c.all_copies-copies.ensures in
    where_ok c.next_copy.result (λ q g. repeat_begun tab _ _ c.args.node c.args.stack _ _ c.kind_at.ensures.means c.in-Repeat.is c.in-Repeat.body c.all_copies-copies.result _ _ q inside all.body all.none all.few all.all g) c.next_copy.ensures
