use Rattle.std.proofs.Common.{◌≡◌, ◌∷◌, refl, sym, subst, true, false, Some, None, [], rules, vec_len}
use Rattle.std.specs.Str.{chars}
use Rattle.std.proofs.lemmas.Map.Text.{hash_map_updates_str}
use Rattle.base_language.specs.Language.Expression.{Ident}
use Rattle.front_optimizer.specs.Bodies.{met_at}
use Rattle.front_optimizer.proofs.NamedStrings.{named_so, missing_so}
use Rattle.front_optimizer.proofs.Looking.{Looking, Marks, Settled, begins, all_known, nothing, no_rule, one_deeper, one_known, ended, met_still, met_here}
use Rattle.front_optimizer.proofs.strings.look_through.Goals as goal

pub names-init : goal.names-init
names-init c =
    let bs = c.as_str-name.result.now in
    let marks : Marks c.args.names.now.met c.insert.new.self bs false = λ q. hash_map_updates_str bs c.args.names.now.met c.insert.new.self _ c.in_ok-insert.ensures.updates q in (
      (λ g h r.
          let d = named_so c.args.bodies.now g h bs (c.args.name.now, sym c.as_str-name.ensures.value) c.in-Some.body.now c.in-Some.ensures.value in
          let settled : Settled g c.args.names.now.met (vec_len c.args.names.now.known) = record { have = r.have; have_none = r.have_none } in
          rw (c.in_ok-push.ensures.items, c.new-callers.ensures.items)
          (subst (λ x. Looking g c.insert.new.self (vec_len c.args.names.now.known) (record { name = c.as_str-name.result; behind = None } ∷ []) (Some c.in-Some.body) (Ident (chars x))) c.as_str-name.ensures.value
          (begins g (record { name = c.as_str-name.result; behind = None }) c.in-Some.body d.rule settled refl d.defined d.body marks))),
      met_still c.args.names.now.met c.insert.new.self bs false marks,
      subst (λ x. met_at c.insert.new.self x ≡ None → ⊥) c.as_str-name.ensures.value (met_here c.args.names.now.met c.insert.new.self bs false marks),
    )

pub returns-in-Nothing-clause-right : goal.returns-in-Nothing-clause-right
returns-in-Nothing-clause-right c = λ g h r.
    let s = nothing g c.in-Some-rest.expr (rw c.in-Some-rest.is at c.names.invariant.0 g h r) c.in-Nothing.ensures in
    record { have = s.have; have_none = s.have_none }

pub names-preserved-in-Strings : goal.names-preserved-in-Strings
names-preserved-in-Strings c =
    ((λ g h r. all_known g c.in-Some-rest.expr (rw c.in-Some-rest.is at c.names.invariant.0 g h r) c.in-Strings.ensures), c.names.invariant.1, c.names.invariant.2)

pub returns-in_default-get-clause-right : goal.returns-in_default-get-clause-right
returns-in_default-get-clause-right c = λ g h r.
    let s = no_rule g c.in-Some-rest.expr c.in-Name.name.now c.in-Name.behind (rw c.in-Some-rest.is at c.names.invariant.0 g h r) c.in-Name.ensures
    (missing_so c.args.bodies.now g h c.in-Name.name.now c.in-Name.ensures.spelled c.in_default-get.ensures.value) in
    record { have = s.have; have_none = s.have_none }

pub names-preserved-in-Name : goal.names-preserved-in-Name
names-preserved-in-Name c =
    let bs = c.in-Name.name.now in
    let marks : Marks c.names.names.met c.insert-in-Name.new.self bs false = λ q. hash_map_updates_str bs c.names.names.met c.insert-in-Name.new.self _ c.in_ok-insert-in-Name.ensures.updates q in (
      (λ g h r.
          let d = named_so c.args.bodies.now g h bs c.in-Name.ensures.spelled c.in-Some-get.body.now c.in-Some-get.ensures.value in
          rw c.in_ok-push-in-Name.ensures.items
          (one_deeper g c.in-Some-rest.expr c.in-Some-get.body (record { name = c.in-Name.name; behind = c.in-Name.behind }) d.rule
          (rw c.in-Some-rest.is at c.names.invariant.0 g h r) c.in-Name.ensures d.defined d.body marks)),
      (λ q i. met_still c.names.names.met c.insert-in-Name.new.self bs false marks q (c.names.invariant.1 q i)),
      met_still c.names.names.met c.insert-in-Name.new.self bs false marks _ c.names.invariant.2,
    )

pub names-preserved : goal.names-preserved
names-preserved c =
    let bs = c.in-Some-pop.field-0.name.now in
    let marks : Marks c.names.names.met c.insert-in-Some-pop.new.self bs true = λ q. hash_map_updates_str bs c.names.names.met c.insert-in-Some-pop.new.self _ c.in_ok-insert-in-Some-pop.ensures.updates q in (
      (λ g h r.
          let before = rw (c.in-None.is, c.in-Some-pop.ensures.items) at c.names.invariant.0 g h r in
          rw c.in_ok-push-in-Some-pop.ensures.len (one_known g c.in-Some-pop.field-0 before marks)),
      (λ q i. met_still c.names.names.met c.insert-in-Some-pop.new.self bs true marks q (c.names.invariant.1 q i)),
      met_still c.names.names.met c.insert-in-Some-pop.new.self bs true marks _ c.names.invariant.2,
    )

pub returns-in-None-pop-clause-right : goal.returns-in-None-pop-clause-right
returns-in-None-pop-clause-right c = λ g h r.
    let empty : c.names.callers.items ≡ [] = search rules in
    let s = ended g (rw empty at c.names.invariant.0 g h r) in
    record { have = s.have; have_none = s.have_none }
