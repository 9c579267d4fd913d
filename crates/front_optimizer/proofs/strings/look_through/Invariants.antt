use Rattle.std.proofs.Common.{◌+◌, ◌-◌, ◌*◌, ◌^◌, List, ℕ, length, string_bytes, vec_len}
use Rattle.std.specs.Str.{chars}
use Rattle.base_language.specs.Language.Expression.{Grammar, Ident}
use Rattle.front_optimizer.specs.Bodies.{HoldsBodies, AreRight, IsMet}
use Rattle.front_optimizer.proofs.Looking.{Looking, left_over}
use Rattle.front_optimizer.proofs.strings.look_through.Given as goal

abbrev pub invariant-names : goal.invariant-names
invariant-names l =
    ((g : Grammar) → HoldsBodies l.bodies g → AreRight l.fn.names g
    → Looking g l.names.met (vec_len l.names.known) l.callers.items l.rest (Ident (chars (string_bytes l.fn.name))))
    × ((q : List ℕ) → IsMet l.fn.names q → IsMet l.names q)
    × IsMet l.names (string_bytes l.fn.name)

abbrev pub decreases-names : goal.decreases-names
decreases-names l = 2 ^ 68 * (2 ^ 64 - length l.names.known.items) + 2 * (2 ^ 64 - length l.callers.items) + left_over l.rest
