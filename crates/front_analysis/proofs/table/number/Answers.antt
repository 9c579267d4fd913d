use Rattle.std.proofs.Common.{◌≡◌, ◌∙◌, ◌+◌, ◌++◌, ◌∷◌, [], ap, arith, length, replicate, sym, subst}
use Rattle.std.proofs.lemmas.List.{append_assoc, length_push, replicate_more}
use Rattle.front_spanned.specs.Nodes.{view_at, piece_of}
use Rattle.front_analysis.specs.Nodes.{postorder, size}
use Rattle.front_analysis.specs.Layout.{AreNumbered, AreLaidOut, all_below, forwards, rule_numbers}
use Rattle.front_analysis.proofs.LayoutLemmas.{laid_more, laid_all, length-postorder}
use Rattle.front_analysis.proofs.table.number.Goals as goal

pub returns-clause-nodes : goal.returns-clause-nodes
returns-clause-nodes c = λ done h.
    let t = piece_of c.args.span.now in
    let x = view_at t c.args.expr.now in
    let waiting = c.push_operands.new.waiting.items in
    let inside = forwards c.reverse_nodes.new.inside.items in
    let e : all_below waiting ++ x ∷ [] ≡ postorder x = c.in_ok-push_operands.ensures t ∙ ap (λ z. all_below z ++ postorder x) c.requires.waiting in
    let f : inside ++ x ∷ [] ≡ postorder x = ap (λ z. z ++ x ∷ []) c.in_ok-reverse_nodes.ensures.nodes ∙ e in
    let all : done ++ postorder x ≡ (done ++ inside) ++ x ∷ [] = ap (λ z. done ++ z) (sym f) ∙ sym (append_assoc done inside (x ∷ [])) in
    let front : AreLaidOut (done ++ inside) = subst (λ z. AreLaidOut (done ++ z)) (sym c.in_ok-reverse_nodes.ensures.nodes) (laid_all done h.laid_out waiting) in
    let inner = c.in_ok-add_nodes.ensures.nodes done h front in
    subst (λ z. AreNumbered z c.add_node.new.nodes.items) (sym all)
    (c.in_ok-add_node.ensures.nodes (done ++ inside) inner (laid_more done h.laid_out x (done ++ inside) x [] all))

pub returns-clause-rules : goal.returns-clause-rules
returns-clause-rules c =
    let t = piece_of c.args.span.now in
    let x = view_at t c.args.expr.now in
    let k = c.args.rule in
    let old = rule_numbers c.args.nodes.now.items in
    let inside = forwards c.reverse_nodes.new.inside.items in
    let e : all_below c.push_operands.new.waiting.items ++ x ∷ [] ≡ postorder x =
    c.in_ok-push_operands.ensures t ∙ ap (λ z. all_below z ++ postorder x) c.requires.waiting in
    let f : inside ++ x ∷ [] ≡ postorder x = ap (λ z. z ++ x ∷ []) c.in_ok-reverse_nodes.ensures.nodes ∙ e in
    let count : length inside + 1 ≡ size x = (let a = length_push inside x in let b = ap (λ z. length z) f in let d = length-postorder x in omega arith) in
    c.in_ok-add_node.ensures.rules ∙ (ap (λ z. z ++ k ∷ []) c.in_ok-add_nodes.ensures.rules
    ∙ (append_assoc old (replicate (length inside) k) (k ∷ []) ∙ (ap (λ z. old ++ z) (replicate_more (length inside) k)
    ∙ ap (λ n. old ++ replicate n k) count)))
