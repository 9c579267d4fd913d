use Rattle.std.proofs.Common.{Option, Some, None, IfSome}
use Rattle.matcher_terminals.specs.Exposed.{exposed}
use Rattle.pest_run.proofs.missing.missing_after.Goals as goal

if_so : {A : Type 0} (P Q : A → Type 0) (o : Option A) → ((a : A) → P a → Q a) → IfSome o P → IfSome o Q
if_so P Q None f p = p
if_so P Q (Some a) f p = f a p

pub returns-in-Ok-missing_message : goal.returns-in-Ok-missing_message
returns-in-Ok-missing_message c = λ g of fails.
    if_so _ _ c.in-Ok-missing_message.line
    (λ line says. record { furthest = c.args.furthest; fails = fails; failure = c.in-Ok.failure; found = c.in-Ok.ensures.found (exposed g) of; says = says })
    c.in-Ok-missing_message.ensures
