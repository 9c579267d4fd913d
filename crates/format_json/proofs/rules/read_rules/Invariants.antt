use Rattle.std.proofs.Common.{◌≡◌, map, take}
use Rattle.serde_json.specs.View.{view}
use Rattle.format_json.specs.Reading.{members_of, members_of_rule}
use Rattle.format_json.proofs.rules.read_rules.Given as goal

-- what is read are the values so far
abbrev pub invariant-loop-place : goal.invariant-loop-place
invariant-loop-place l =
    map members_of_rule l.rules.value.items ≡ map (λ v. members_of (view v)) (take l.place l.value-items)
