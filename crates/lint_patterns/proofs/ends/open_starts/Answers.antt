use Rattle.std.proofs.Common.{◌≡◌, ◌∙◌, ◌&&◌, ◌==◌, [], ap, length, refl, sym}
use Rattle.std.specs.Prelude.{nat_lt}
use Rattle.std.proofs.lemmas.List.{length-map}
use Rattle.front_spanned.specs.Nodes.{rule_views}
use Rattle.lint_warnings.specs.Lists.{texts_of}
use Rattle.lint_warnings.specs.Rules.{is_needed}
use Rattle.lint_patterns.proofs.Asking.{one_entry, starts_found}
use Rattle.lint_patterns.proofs.ends.open_starts.Goals as goal

pub returns : goal.returns
returns c =
    let rules = rule_views c.args.rules.now in
    let f = is_needed [] rules in
    let known = c.in_ok-called.ensures in
    let same : length c.args.rules.now ≡ length rules = rw length-map refl in
    let many : nat_lt 1 (length c.args.rules.now) ≡ nat_lt 1 (length rules) = ap (λ n. nat_lt 1 n) same in
    let only = one_entry f rules c.in_ok-entries.entries.items (nat_lt 1 (length c.args.rules.now)) (c.in_ok-entries.ensures f known) many in
    starts_found (texts_of c.args.starts.now) rules c.in_ok-called.called c.in_ok-asking.asking c.is_only_entry-is_only.result c.open_among.result
    (sym c.in_ok-wants_fronts.ensures ∙ c.if-branch.false) known c.in_ok-asking.ensures
    (c.is_only_entry-is_only.ensures ∙ (ap (λ l. nat_lt 1 (length c.args.rules.now) && length l == 1) c.deref.ensures.value ∙ only))
    c.open_among.ensures
