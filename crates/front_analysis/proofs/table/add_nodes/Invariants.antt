use Rattle.std.proofs.Common.{◌≡◌, ◌++◌, List, length, replicate, vec_len}
use Rattle.front_spanned.specs.Spanned.{Spanned}
use Rattle.front_analysis.specs.Layout.{AreNumbered, AreLaidOut, forwards, rule_numbers}
use Rattle.front_analysis.proofs.table.add_nodes.Given as goal

abbrev pub invariant-loop-next : goal.invariant-loop-next
invariant-loop-next l =
    ((done : List Spanned) → AreNumbered done l.fn.nodes.items → AreLaidOut (done ++ forwards l.fn.inside.items)
    → (now : List Spanned) × (now ++ forwards l.inside.items ≡ done ++ forwards l.fn.inside.items)
    × AreNumbered now l.nodes.items)
    × (rule_numbers l.nodes.items ++ replicate (length (forwards l.inside.items)) l.fn.rule
    ≡ rule_numbers l.fn.nodes.items ++ replicate (length (forwards l.fn.inside.items)) l.fn.rule)

abbrev pub decreases-loop-next : goal.decreases-loop-next
decreases-loop-next l = vec_len l.inside
