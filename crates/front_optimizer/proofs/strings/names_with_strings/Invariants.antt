use Rattle.std.specs.List.{All}
use Rattle.base_language.specs.Language.Expression.{Grammar}
use Rattle.front_optimizer.specs.Bodies.{HoldsBodies, AreRight}
use Rattle.front_optimizer.proofs.NamesKnown.{KeyIsMet}
use Rattle.front_optimizer.proofs.strings.names_with_strings.Given as goal

abbrev pub invariant-loop-name : goal.invariant-loop-name
invariant-loop-name l =
    ((g : Grammar) → HoldsBodies l.bodies g → AreRight l.names g)
    × All (λ k. KeyIsMet l.names k.now) l.yielded
