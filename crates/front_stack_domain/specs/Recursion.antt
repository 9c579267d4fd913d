-- Recursive rules, which reach themselves by calls.
use Rattle.std.specs.Prelude.{◌≡◌, Some, Bool, true}
use Rattle.base_language.specs.Language.Text.{Text}
use Rattle.base_language.specs.Language.Expression.{Ident, Part, Rule, Grammar, rule_of}

module _ (g : Grammar) where
  -- the body of the rule that a name means calls another name, wherever in the body (in predicates and `PUSH`
  -- too), or calls one that reaches it
  pub data ReachesByCalls : Text → Text → Type 0 where
    by_call : {n c : Text} {r : Rule} → rule_of g n ≡ Some r → Part r.body (Ident c) → ReachesByCalls n c
    by_calls : {n c d : Text} {r : Rule} → rule_of g n ≡ Some r → Part r.body (Ident c) → ReachesByCalls c d
        → ReachesByCalls n d

-- no call of a rule that reaches itself is followed
abbrev pub LeavesOutRecursion : (Text → Bool) → Grammar → Type 0
LeavesOutRecursion recursive g = (n : Text) → ReachesByCalls g n n → recursive n ≡ true
