use Rattle.std.proofs.Common.{[], ◌++◌, ◌∷◌, ◌∙◌, List, subst, sym}
use Rattle.std.proofs.lemmas.List.{get_or_default}
use Rattle.std.proofs.lemmas.List.Elements.{All-push, All-same, All-set}
use Rattle.std.proofs.lemmas.List.Quantifiers.{Any-push, any-set}
use Rattle.std.specs.Global.{Vec}
use Rattle.std.specs.List.{All, Any}
use Rattle.doc_pages.proofs.Warned.{any_after_set, any_of_more}
use Rattle.doc_pages.specs.Warnings.{IsWarning, Says}
use Rattle.doc_pages.specs.declared.warnings.RuleWarning.{RuleWarning}
use Rattle.doc_pages.proofs.warnings.add_warning.Goals as goal

pub returns-in_ok-push-clause-definite : goal.returns-in_ok-push-clause-definite
returns-in_ok-push-clause-definite c = λ rules warned before.
    let others = c.in-Some.others.now in
    let P : Vec RuleWarning → Type 0 = λ warnings. All (IsWarning rules) warnings.items in
    let here : P others = subst P (sym c.in-Some.ensures.item.1) (before c.args.rule others c.in-Some.ensures.item.3.0) in
    All-set P c.args.warnings.now.items c.args.rule c.push.new.self
    (All-same (IsWarning rules) c.push.new.self.items (others.items ++ c.args.warning ∷ []) c.in_ok-push.ensures.items
    (All-push (IsWarning rules) others.items c.args.warning here warned))
    before

pub returns-in_ok-push-clause-kept : goal.returns-in_ok-push-clause-kept
returns-in_ok-push-clause-kept c = λ kind piece before.
    let P : Vec RuleWarning → Type 0 = λ warnings. Any (Says kind piece) warnings.items in
    let lists = c.args.warnings.now.items in
    let others = c.in-Some.others.now in
    let item = c.in-Some.ensures.item in
    any_after_set P lists c.args.rule c.push.new.self item.3.0
    (λ held.
    subst (λ (items : List RuleWarning). Any (Says kind piece) items) (sym c.in_ok-push.ensures.items)
    (any_of_more (Says kind piece) others.items c.args.warning
    (subst P (get_or_default lists c.args.rule c.push.new.self others item.3.0 ∙ sym item.1) held)))
    before

pub returns-in_ok-push-clause-added : goal.returns-in_ok-push-clause-added
returns-in_ok-push-clause-added c = λ l kind piece said.
    any-set (λ (warnings : Vec RuleWarning). Any (Says kind piece) warnings.items) c.args.warnings.now.items c.args.rule
    c.push.new.self l
    (subst (λ (items : List RuleWarning). Any (Says kind piece) items) (sym c.in_ok-push.ensures.items)
    (Any-push (Says kind piece) c.in-Some.others.now.items c.args.warning said))
