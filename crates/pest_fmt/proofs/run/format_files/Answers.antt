use Rattle.std.proofs.Common.{◌≡◌, ◌∙◌, ◌+◌, ℕ, ap, arith, refl, rules, string_bytes, sym, true≢false}
use Rattle.pest_fmt.specs.Files.AreOfNames.{none}
use Rattle.pest_fmt.specs.Files.{AreOfNames, IsTargetFor}
use Rattle.pest_fmt.specs.declared.arguments.Delivery.{Delivery}
use Rattle.program_support.specs.Statuses.{status_code}
use Rattle.pest_fmt.proofs.Running.{cut, one_more, target_for}
use Rattle.pest_fmt.proofs.run.format_files.Goals.{in-Unwritable, in_default}
use Rattle.pest_fmt.proofs.run.format_files.Goals as goal

pub loop-name-init : goal.loop-name-init
loop-name-init c = record { known = (omega arith, λ e. omega (arith, e)); each = none; none = λ e. refl }

pub loop-name-preserved : goal.loop-name-preserved
loop-name-preserved c =
    let own = c.for_name-delivery.ensures in
    let name_is = c.as_str-name.ensures.value ∙ ap string_bytes c.name-item.is in
    record {
      known = search rules;
      each = one_more c.args.options.line_ends c.args.delivery.target c.args.names.now c.loop-name.name-index c.name-item.result c.for_name-delivery.result.target c.loop-name.status c.in_ok-one.one c.worse-status.result c.loop-name-test.true
          c.loop-name.invariant.each
          (target_for c.args.delivery.target c.for_name-delivery.result.target _ _ name_is
          (record { input = own.input; file = λ n. ap (λ (d : Delivery). d.target) (own.file n); other = λ n. ap (λ (d : Delivery). d.target) (own.other n) }))
          c.in_ok-one.ensures.status c.worse-status.ensures;
      none = λ e. absurd (omega (arith, e));
    }

pub returns-then-not-matches-clause-each : goal.returns-then-not-matches-clause-each
returns-then-not-matches-clause-each c =
    let own = c.for_name-delivery.ensures in
    let name_is = c.as_str-name.ensures.value ∙ ap string_bytes c.name-item.is in
    let four : status_code c.in_ok-one.one ≡ 4 = elim c.match-matches.branch [
      | in-Unwritable w ↦ ap status_code w.in-Unwritable.is
      | in_default w ↦ absurd (true≢false (sym c.if-matches.true ∙ w.matches-is))
    ] in
    let known = c.loop-name.invariant.known.0 in
    let worse = c.worse-status.ensures in
    let highest : status_code c.worse-status.result ≡ 4 = omega (arith, four, known, worse) in
    let more = one_more c.args.options.line_ends c.args.delivery.target c.args.names.now c.loop-name.name-index c.name-item.result c.for_name-delivery.result.target c.loop-name.status c.in_ok-one.one c.worse-status.result c.loop-name-test.true
    c.loop-name.invariant.each
    (target_for c.args.delivery.target c.for_name-delivery.result.target _ _ name_is
    (record { input = own.input; file = λ n. ap (λ (d : Delivery). d.target) (own.file n); other = λ n. ap (λ (d : Delivery). d.target) (own.other n) }))
    c.in_ok-one.ensures.status worse in
    cut c.args.options.line_ends c.args.delivery.target c.args.names.now (c.loop-name.name-index + 1) c.worse-status.result highest more
