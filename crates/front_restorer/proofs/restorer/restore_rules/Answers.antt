use Rattle.std.proofs.Common.{◌≡◌, false, rules, subst, length, arith}
use Rattle.std.proofs.lemmas.List.{with_items_is}
use Rattle.base_ast.specs.Optimized.{optimized_rules_of}
use Rattle.front_restorer.specs.Restoring.{AreQuiet, restored_rules_by}
use Rattle.front_restorer.specs.KnownChanges.{KnowsChanges, changes_stack}
use Rattle.front_restorer.proofs.Restoring.{each_restored, rules_same}
use Rattle.front_restorer.proofs.Quiet.{quiet_restored, quiet_erased, quiet_whole}
use Rattle.front_restorer.proofs.restorer.restore_rules.Goals as goal

pub returns-then-not-any_changes-clause-restores : goal.returns-then-not-any_changes-clause-restores
returns-then-not-any_changes-clause-restores c =
    rw c.into_inner.ensures (quiet_restored c.args.rules.items (subst AreQuiet c.deref.ensures.value (c.in_ok-any_changes.ensures c.if-not-any_changes.true)))

pub returns-then-not-any_changes-clause-erased : goal.returns-then-not-any_changes-clause-erased
returns-then-not-any_changes-clause-erased c =
    rw c.into_inner.ensures (quiet_erased c.args.rules.items (subst AreQuiet c.deref.ensures.value (c.in_ok-any_changes.ensures c.if-not-any_changes.true)))

pub returns-clause-restores : goal.returns-clause-restores
returns-clause-restores c = λ h.
    let rs = c.args.rules.items in
    let p = changes_stack c.in_ok-changes.changes in
    let count : length c.restore_all.new.rules ≡ c.args.rules.len = omega arith in
    let all : c.into_inner-2.result.items ≡ c.restore_all.new.rules = rw c.into_inner-2.ensures (with_items_is c.args.rules c.restore_all.new.rules count) in
    let made : optimized_rules_of c.restore_all.new.rules ≡ restored_rules_by p (optimized_rules_of rs) = rw c.deref_mut.ensures.value at c.in_ok-restore_all.ensures in
    let tells = subst (λ qs. KnowsChanges c.in_ok-changes.changes (optimized_rules_of qs)) c.deref-2.ensures.value c.in_ok-changes.ensures.tells in
    rw (all, made) (each_restored p (optimized_rules_of rs) tells rs h)

pub returns-clause-erased : goal.returns-clause-erased
returns-clause-erased c =
    let rs = c.args.rules.items in
    let p = changes_stack c.in_ok-changes.changes in
    let count : length c.restore_all.new.rules ≡ c.args.rules.len = omega arith in
    let all : c.into_inner-2.result.items ≡ c.restore_all.new.rules = rw c.into_inner-2.ensures (with_items_is c.args.rules c.restore_all.new.rules count) in
    let made : optimized_rules_of c.restore_all.new.rules ≡ restored_rules_by p (optimized_rules_of rs) = rw c.deref_mut.ensures.value at c.in_ok-restore_all.ensures in
    rw (all, made) (rules_same p (optimized_rules_of rs))

pub returns-then-not-any_changes-clause-whole : goal.returns-then-not-any_changes-clause-whole
returns-then-not-any_changes-clause-whole c =
    rw c.into_inner.ensures (quiet_whole c.args.rules.items (subst AreQuiet c.deref.ensures.value (c.in_ok-any_changes.ensures c.if-not-any_changes.true)))

pub returns-clause-whole : goal.returns-clause-whole
returns-clause-whole c =
    let rs = c.args.rules.items in
    let p = changes_stack c.in_ok-changes.changes in
    let count : length c.restore_all.new.rules ≡ c.args.rules.len = omega arith in
    let all : c.into_inner-2.result.items ≡ c.restore_all.new.rules = rw c.into_inner-2.ensures (with_items_is c.args.rules c.restore_all.new.rules count) in
    let made : optimized_rules_of c.restore_all.new.rules ≡ restored_rules_by p (optimized_rules_of rs) = rw c.deref_mut.ensures.value at c.in_ok-restore_all.ensures in
    let tells = subst (λ qs. KnowsChanges c.in_ok-changes.changes (optimized_rules_of qs)) c.deref-2.ensures.value c.in_ok-changes.ensures.tells in
    record { changes = p; decides = tells; are_restored = rw all made }
