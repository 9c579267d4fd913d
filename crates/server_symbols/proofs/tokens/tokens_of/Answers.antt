use Rattle.server_symbols.proofs.Lexing.{lexes_all, lexes_on}
use Rattle.std.proofs.Common.{arith}
use Rattle.server_symbols.proofs.tokens.tokens_of.Goals as goal

pub loop-start-preserved : goal.loop-start-preserved
loop-start-preserved c =
    (c.next_at-class.ensures.within, lexes_on c.as_bytes-bytes.result.now c.loop-start.start c.loop-start.tokens.items c.loop-start.invariant.1 c.next_at-class.result.0 c.next_at-class.result.1 c.push_token.new.tokens.items c.in_ok-push_token.ensures c.loop-start-test.true c.next_at-class.ensures.next)

pub returns : goal.returns
returns c =
    rw c.as_bytes-bytes.ensures.value at (lexes_all c.as_bytes-bytes.result.now c.loop-start.start c.loop-start.tokens.items c.loop-start.invariant.1 (omega arith))
