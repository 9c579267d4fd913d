use Rattle.format_grammar.proofs.Readings.{only_if}
use Rattle.format_grammar.proofs.is_same_grammar.Goals as goal

pub returns-clause-rules : goal.returns-clause-rules
returns-clause-rules c =
    let same = rw (c.as_bytes-bytes.ensures.value, c.as_bytes-other_bytes.ensures.value) at c.is_same.ensures.tokens in
    only_if c.is_same.result _ _ (λ t. c.same_tokens_have_the_same_rules.ensures _ _ _ _ c.utf8.text c.utf8.other c.requires.text c.requires.other t) same
