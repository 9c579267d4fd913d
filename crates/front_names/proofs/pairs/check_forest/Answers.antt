use Rattle.std.proofs.Common.{◌≡◌, [], map, rules, arith}
use Rattle.std.proofs.lemmas.Grind.{common_steps}
use Rattle.base_language.specs.Pieces.Saying.{piece_of, written}
use Rattle.front_names.specs.GrammarNames.{forest_definitions, forest_calls}
use Rattle.front_names.proofs.Told.{none_told}
use Rattle.front_names.proofs.pairs.check_forest.Goals as goal

pub returns-clause-no_complaints : goal.returns-clause-no_complaints
returns-clause-no_complaints c =
    let d : map piece_of c.deref.result.now ≡ forest_definitions c.args.forest.now = search rules in
    let e : map piece_of c.deref-2.result.now ≡ forest_calls c.args.forest.now = search rules in
    let none : c.in_ok-findings.findings.items ≡ [] = first_of (search rules, grind (arith, common_steps)) in
    none_told c.in_ok-findings.findings.items _ (rw (d, e) at c.in_ok-findings.ensures.told) none

pub returns-clause-builtins : goal.returns-clause-builtins
returns-clause-builtins c =
    let d : map piece_of c.deref.result.now ≡ forest_definitions c.args.forest.now = search rules in
    let e : map piece_of c.in_ok-calls.calls.items ≡ forest_calls c.args.forest.now = search rules in
    let calls : c.deref-3.result.now ≡ c.in_ok-calls.calls.items = search rules in
    rw (calls, d, e) at (c.in_ok-first_calls.ensures (map written (map piece_of c.deref.result.now)) c.in_ok-findings.ensures.known)
