use Rattle.std.proofs.Common.{◌≡◌, List, [], ◌∷◌, ◌++◌, Bool, ◌||◌, ◌⊎◌, inl, inr, append_assoc, ap, sym, ◌∙◌, Box, Global}
use Rattle.std.proofs.Math.Bool.{or_assoc}
use Rattle.base_language.specs.Language.Text.{Text}
use Rattle.base_ast.specs.Ast.{text_of}
use Rattle.base_ast.specs.Optimized.{optimized_expression_of}
use Rattle.base_ast.specs.declared.optimized.OptimizedExpr.{OptimizedExpr}
use Rattle.base_ast.specs.declared.optimized.OptimizedExpr as code
use Rattle.front_restorer.specs.Calls.{names_in}
use Rattle.front_restorer.specs.Changing.{changes_by, is_changer}
use Rattle.front_restorer.specs.Summaries.{numbers_if_known}
use Rattle.front_restorer.specs.Turns.{changes_in_turn, names_in_turn}
use Rattle.front_restorer.proofs.Looking.{noted_first}
use Rattle.front_restorer.proofs.Turns.{changes_in_turn_last, names_in_turn_last}
use Rattle.front_restorer.proofs.summaries.look.Goals.{then-is_changing, else-is_changing}
use Rattle.front_restorer.proofs.summaries.look.Goals as goal

abbrev changes_of : OptimizedExpr → Bool
changes_of x = changes_by is_changer (optimized_expression_of x)

abbrev names_of : OptimizedExpr → List Text
names_of x = names_in (optimized_expression_of x)

-- a pair says what its sides say
both : (x : OptimizedExpr) (a b : Box OptimizedExpr Global) → (x ≡ code.Seq a b) ⊎ (x ≡ code.Choice a b)
    → (names_of x ≡ names_of a.value ++ names_of b.value) × (changes_of x ≡ (changes_of a.value || changes_of b.value))
both x a b (inl h) = (ap names_of h, ap changes_of h)
both x a b (inr h) = (ap names_of h, ap changes_of h)

pub parts-preserved-in-Ident-1 : goal.parts-preserved-in-Ident-1
parts-preserved-in-Ident-1 c =
    let own = is_changer (text_of c.in-Ident.name) in
    let was = c.parts.is_changing in
    let next = optimized_expression_of c.in-Some.next.now in
    let rest = c.pop.new.self.items in
    let flag : c.if-is_changing.is_changing ≡ (was || own) = elim c.if-is_changing.branch [
      | then-is_changing w ↦ w.is_changing-is ∙ (w.if-is_changing.true ∙ sym (ap (λ b. b || own) w.if-is_changing.true))
      | else-is_changing w ↦ w.is_changing-is ∙ (w.is_changer_name-is_changing.ensures ∙ sym (ap (λ b. b || own) w.if-is_changing.false))
    ] in
    let turn : changes_in_turn c.parts.waiting.items ≡ (changes_by is_changer next || changes_in_turn rest) = ap changes_in_turn c.in-Some.ensures.items ∙ changes_in_turn_last rest c.in-Some.next in
    let names : names_in_turn c.parts.waiting.items ≡ names_in next ++ names_in_turn rest = ap names_in_turn c.in-Some.ensures.items ∙ names_in_turn_last rest c.in-Some.next in
    let numbers = numbers_if_known c.args.names in
    let own_names = names_in next ++ names_in_turn rest in
    record {
      changes = ap (λ b. b || (changes_by is_changer next || changes_in_turn rest)) flag
          ∙ (or_assoc was own (changes_by is_changer next || changes_in_turn rest)
          ∙ (ap (λ b. was || (own || b)) (sym turn) ∙ (rw c.in-Ident.is at c.parts.invariant.changes)));
      numbers = ap (λ xs. xs ++ numbers own_names) c.in_ok-push_number-in-Ident.ensures
          ∙ (append_assoc c.parts.numbers.items (numbers (text_of c.in-Ident.name ∷ [])) (numbers own_names)
          ∙ (ap (λ ns. c.parts.numbers.items ++ ns) (noted_first c.args.names (text_of c.in-Ident.name) own_names)
          ∙ (ap (λ ns. c.parts.numbers.items ++ numbers (text_of c.in-Ident.name ∷ ns)) (sym names) ∙ (rw c.in-Ident.is at c.parts.invariant.numbers))));
    }

pub parts-preserved : goal.parts-preserved
parts-preserved c =
    let was = c.parts.is_changing in
    let left = c.in-Seq.left.value in
    let right = c.in-Seq.right.value in
    let rest = c.parts.waiting.items in
    let numbers = c.parts.numbers.items in
    let of = numbers_if_known c.args.names in
    let pair = both c.parts.here.now c.in-Seq.left c.in-Seq.right c.in-Seq.is in
    let first = c.deref-here-else-is_right_settled.ensures in
    let second = c.deref-else-is_right_settled.ensures in
    let items = c.in_ok-push-in-Seq.ensures.items in
    let changes : changes_in_turn c.push.new.self.items ≡ (changes_of right || changes_in_turn rest)
    = ap changes_in_turn items ∙ (changes_in_turn_last rest c.deref-else-is_right_settled.result ∙ ap (λ x. changes_of x || changes_in_turn rest) second) in
    let names : names_in_turn c.push.new.self.items ≡ names_of right ++ names_in_turn rest
    = ap names_in_turn items ∙ (names_in_turn_last rest c.deref-else-is_right_settled.result ∙ ap (λ x. names_of x ++ names_in_turn rest) second) in
    record {
      changes = ap (λ x. was || (changes_of x || changes_in_turn c.push.new.self.items)) first
          ∙ (ap (λ b. was || (changes_of left || b)) changes
          ∙ (ap (λ b. was || b) (sym (or_assoc (changes_of left) (changes_of right) (changes_in_turn rest)))
          ∙ (ap (λ b. was || (b || changes_in_turn rest)) (sym pair.1) ∙ c.parts.invariant.changes)));
      numbers = ap (λ x. numbers ++ of (names_of x ++ names_in_turn c.push.new.self.items)) first
          ∙ (ap (λ ns. numbers ++ of (names_of left ++ ns)) names
          ∙ (ap (λ ns. numbers ++ of ns) (sym (append_assoc (names_of left) (names_of right) (names_in_turn rest)))
          ∙ (ap (λ ns. numbers ++ of (ns ++ names_in_turn rest)) (sym pair.0) ∙ c.parts.invariant.numbers)));
    }
