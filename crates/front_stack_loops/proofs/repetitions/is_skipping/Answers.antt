use Rattle.std.proofs.Common.{◌≡◌, ◌∙◌, ◌||◌, sym, ap, is_some}
use Rattle.base_language.specs.Language.Expression.{rule_of, whitespace, comment, last_place}
use Rattle.front_analysis.specs.Names.{grammar_of}
use Rattle.front_analysis.proofs.Resolved.{is_named}
use Rattle.front_stack_loops.proofs.repetitions.is_skipping.Goals as goal

pub returns-then-is_defined : goal.returns-then-is_defined
returns-then-is_defined c = λ rs known.
    let w : c.is_defined.result ≡ is_some (rule_of (grammar_of rs) whitespace) = c.is_defined.ensures rs known ∙ (ap (λ n. is_some (last_place (grammar_of rs) n)) c.whitespace_name.ensures.named ∙ is_named rs whitespace) in
    c.if-is_defined.true ∙ sym (ap (λ z. z || is_some (rule_of (grammar_of rs) comment)) (sym w ∙ c.if-is_defined.true))

pub returns-else-is_defined : goal.returns-else-is_defined
returns-else-is_defined c = λ rs known.
    let w : c.is_defined.result ≡ is_some (rule_of (grammar_of rs) whitespace) = c.is_defined.ensures rs known ∙ (ap (λ n. is_some (last_place (grammar_of rs) n)) c.whitespace_name.ensures.named ∙ is_named rs whitespace) in
    let v : c.is_defined-else-is_defined.result ≡ is_some (rule_of (grammar_of rs) comment) = c.is_defined-else-is_defined.ensures rs known ∙ (ap (λ n. is_some (last_place (grammar_of rs) n)) c.comment_name.ensures.named ∙ is_named rs comment) in
    v ∙ sym (ap (λ z. z || is_some (rule_of (grammar_of rs) comment)) (sym w ∙ c.if-is_defined.false))
