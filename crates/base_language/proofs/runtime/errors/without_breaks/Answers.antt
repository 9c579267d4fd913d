use Rattle.std.proofs.Common.{rules, tests}
use Rattle.std.proofs.lemmas.Iterator.{YieldsList-from_chars, text_from_collect}
use Rattle.std.proofs.lemmas.Iterator.Consumers.{YieldsList-at, YieldsList-from_chain, YieldsList-from_filter}
use Rattle.std.proofs.lemmas.Str.{chars-append}
use Rattle.base_language.specs.Pieces.PrintedError.{is_printed}
use Rattle.base_language.proofs.runtime.errors.without_breaks.Goals as goal

pub returns : goal.returns
returns c =
    let before = c.args.before.now in
    let after = c.args.after.now in
    rw (chars-append before after c.utf8.before)
    (text_from_collect _ c.collect.ensures.ran
    (YieldsList-from_filter _ is_printed
    (YieldsList-at c.filter.ensures.source
    (YieldsList-from_chain
    (YieldsList-at c.chain.ensures.first (YieldsList-from_chars before c.utf8.before (cc)))
    (YieldsList-at c.chain.ensures.second (YieldsList-from_chars after c.utf8.after (cc)))
    c.chain.ensures.first_done (cc)))
    c.filter.ensures.closure (λ x r q k. search (rules, tests))))
