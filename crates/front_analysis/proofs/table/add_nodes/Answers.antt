use Rattle.std.proofs.Common.{◌≡◌, ◌∙◌, ◌++◌, ◌∷◌, [], ap, length, replicate, sym, subst, refl}
use Rattle.std.proofs.lemmas.List.{append_assoc, append-nil}
use Rattle.front_spanned.specs.Nodes.{view}
use Rattle.front_analysis.specs.Layout.{AreNumbered, forwards, rule_numbers}
use Rattle.front_analysis.proofs.LayoutLemmas.{forwards_push}
use Rattle.front_analysis.proofs.RuleNumbers.{numbers_step}
use Rattle.front_analysis.proofs.table.add_nodes.Goals as goal

pub loop-next-init : goal.loop-next-init
loop-next-init c = (λ done h laid. (done, refl, h), refl)

pub loop-next-preserved : goal.loop-next-preserved
loop-next-preserved c =
    let n = c.in-Some.next in
    let others = forwards c.pop.new.self.items in
    let f : forwards c.loop-next.inside.items ≡ view n.now ∷ others = ap (λ z. forwards z) c.in-Some.ensures.items ∙ forwards_push c.pop.new.self.items n in (
      λ done h laid.
          let (now, e, a) = c.loop-next.invariant.0 done h laid in
          let g : now ++ view n.now ∷ others ≡ done ++ forwards c.args.inside.now.items = ap (λ z. now ++ z) (sym f) ∙ e in
          (now ++ view n.now ∷ [], append_assoc now (view n.now ∷ []) others ∙ g, c.in_ok-add_node.ensures.nodes now a (laid now (view n.now) others (sym g))),
      numbers_step (rule_numbers c.loop-next.nodes.items) (rule_numbers c.add_node.new.nodes.items)
          (rule_numbers c.args.nodes.now.items ++ replicate (length (forwards c.args.inside.now.items)) c.args.rule)
          (length (forwards c.loop-next.inside.items)) (length others) c.args.rule
          c.in_ok-add_node.ensures.rules (ap (λ z. length z) f) c.loop-next.invariant.1,
    )

pub returns-clause-nodes : goal.returns-clause-nodes
returns-clause-nodes c = λ done h laid.
    let (now, e, a) = c.loop-next.invariant.0 done h laid in
    let none_left : c.pop.new.self.items ≡ [] = c.in_default.ensures.rest ∙ rw c.in_default.ensures.cases.0 refl in
    let empty : forwards c.loop-next.inside.items ≡ [] = ap (λ z. forwards z) (c.in_default.ensures.items ∙ (append-nil c.pop.new.self.items ∙ none_left)) in
    let same = sym (append-nil now) ∙ (ap (λ z. now ++ z) (sym empty) ∙ e) in
    subst (λ z. AreNumbered z c.loop-next.nodes.items) same a

pub returns-clause-rules : goal.returns-clause-rules
returns-clause-rules c =
    let none_left : c.pop.new.self.items ≡ [] = c.in_default.ensures.rest ∙ rw c.in_default.ensures.cases.0 refl in
    let empty : forwards c.loop-next.inside.items ≡ [] = ap (λ z. forwards z) (c.in_default.ensures.items ∙ (append-nil c.pop.new.self.items ∙ none_left)) in
    let now = rule_numbers c.loop-next.nodes.items in
    sym (append-nil now) ∙ (ap (λ z. now ++ replicate (length z) c.args.rule) (sym empty) ∙ c.loop-next.invariant.1)

pub returns-clause-none : goal.returns-clause-none
returns-clause-none c = c.in_default.ensures.rest ∙ rw c.in_default.ensures.cases.0 refl
