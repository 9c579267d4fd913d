use Rattle.std.proofs.Common.{◌≡◌, ℕ, ◌+◌, ◌/◌, ◌%◌, ◌^◌, ◌<◌, ◌≤◌, length, ap, ◌∙◌, arith}
use Rattle.std.specs.Fmt.{decimal}
use Rattle.std.proofs.lemmas.Fmt.{decimal_step, decimal_digit, decimal_nonempty, length-decimal-le}
use Rattle.std.proofs.lemmas.List.{length_push}
use Rattle.base_language.proofs.runtime.layout.digit_count.Goals as goal

-- without its last digit a number has one digit fewer
length-decimal_step : (n : ℕ) → 10 ≤ n → n < 2 ^ 64 → length (decimal n) ≡ length (decimal (n / 10)) + 1
length-decimal_step n low high = ap length (decimal_step n low high) ∙ length_push (decimal (n / 10)) (48 + n % 10)

pub overflow_add-count : goal.overflow_add-count
overflow_add-count c =
    let long = length-decimal-le 20 c.args.number (omega arith) (omega arith) (omega arith) in
    omega (arith, c.loop-rest.invariant, decimal_nonempty c.loop-rest.rest (omega arith))

pub loop-rest-preserved : goal.loop-rest-preserved
loop-rest-preserved c = omega (arith, c.loop-rest.invariant, length-decimal_step c.loop-rest.rest (omega arith) (omega arith))

pub returns : goal.returns
returns c = omega (arith, c.loop-rest.invariant, ap length (decimal_digit c.loop-rest.rest (omega arith)))
