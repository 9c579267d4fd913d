use Rattle.std.proofs.Common.{◌++◌, ◌∷◌, ◌≡◌, [], arith, rules}
use Rattle.pest_language_server.proofs.Reading.{line_ends, line_goes, line_is_cut, line_is_full}
use Rattle.pest_language_server.proofs.frames.read_line.Goals as goal

pub returns-in-None : goal.returns-in-None
returns-in-None g c =
    line_is_cut _ _ _ c.loop-input.line.items c.loop-input.invariant.0 c.loop-input.invariant.2 (omega arith) (rw c.in-None.is at c.in_ok-next.ensures)

pub returns-then-byte-eq10 : goal.returns-then-byte-eq10
returns-then-byte-eq10 g c =
    let pushed : c.push.new.self.items ≡ c.loop-input.line.items ++ c.in-Some.byte ∷ [] = search rules in
    line_ends _ _ _ c.loop-input.line.items c.loop-input.invariant.0 c.loop-input.invariant.2 c.in-Some.byte c.push.new.self.items (omega arith) pushed c.if-byte-eq10.true (rw c.in-Some.is at c.in_ok-next.ensures)

pub loop-input-preserved : goal.loop-input-preserved
loop-input-preserved g c =
    let pushed : c.push.new.self.items ≡ c.loop-input.line.items ++ c.in-Some.byte ∷ [] = search rules in
    line_goes _ _ _ c.loop-input.line.items c.loop-input.invariant.0 c.loop-input.invariant.2 c.in-Some.byte c.push.new.self.items (omega arith) pushed c.if-byte-eq10.false (rw c.in-Some.is at c.in_ok-next.ensures)

pub returns : goal.returns
returns g c = line_is_full _ _ c.loop-input.line.items c.loop-input.invariant.0 c.loop-input.invariant.1 (omega arith) c.loop-input.invariant.2
