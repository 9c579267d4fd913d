-- Rules in which no `PUSH`, `PUSH_LITERAL`, `POP`, `POP_ALL` or `DROP` is met change nothing, and are restored as they are.
use Rattle.std.proofs.Common.{◌≡◌, List, [], ◌∷◌, Option, Some, None, Bool, true, false, if◌then◌else◌, bytes_eq, refl, sym, ◌∙◌, ap, ap₂, subst, String, Global}
use Rattle.std.specs.Bool.{Decides}
use Rattle.std.proofs.lemmas.List.Elements.{All-head, All-tail}
use Rattle.std.proofs.lemmas.Bool.{or_left, or_parts, or_right}
use Rattle.base_language.specs.Language.Text.{Text}
use Rattle.base_language.specs.Language.Expression.{Expression, Ident, PosPred, NegPred, Seq, Choice, Opt, Rep, RepOnce, Push, RestoreOnErr, Rule, Grammar, rule_of, or_else, NodeTag}
use Rattle.base_language.specs.Rewritings.Wrapping.{ChangesStack, changes_push, changes_push_literal, changes_pop, changes_pop_all, changes_drop, changes_rule, changes_pos_pred, changes_neg_pred, changes_seq_left, changes_seq_right, changes_left, changes_right, changes_opt, changes_rep, changes_rep_once, changes_rep_exact, changes_rep_min, changes_rep_max, changes_rep_min_max, EachRestored, changes_tag}
use Rattle.base_ast.specs.Ast.{text_of}
use Rattle.base_ast.specs.Optimized.{optimized_rule_of, optimized_rules_of}
use Rattle.base_ast.specs.declared.optimized.OptimizedRule.{OptimizedRule}
use Rattle.front_restorer.specs.Changing.{changes_by, is_changer, wrapped_by, restored_by}
use Rattle.front_restorer.specs.Restoring.{AreQuiet, AreRestored, IsQuiet, AreSameErased, HaveNoWrappers, restored_rules_by}
use Rattle.front_restorer.proofs.Changers.{changer_changes, pop_named, pop_all_named, drop_named}
use Rattle.front_restorer.proofs.Restoring.{each_restored, rules_same}

-- what changes nothing is restored as it is
module _ (p : Text → Bool) where
  wrapped_stays : (a b : Expression) → a ≡ b → changes_by p b ≡ false → wrapped_by p a ≡ b
  wrapped_stays a b h k = ap (wrapped_by p) h ∙ ap (λ t. if t then RestoreOnErr b else b) k

  pub restored_stays : (e : Expression) → changes_by p e ≡ false → restored_by p e ≡ e
  restored_stays (PosPred e) h = ap PosPred (restored_stays e h)
  restored_stays (NegPred e) h = ap NegPred (restored_stays e h)
  restored_stays (Push e) h = cc
  restored_stays (NodeTag e t) h = ap (λ x. NodeTag x t) (restored_stays e h)
  restored_stays (Seq a b) h = let k = or_parts (changes_by p a) (changes_by p b) h in ap₂ Seq (restored_stays a k.0) (restored_stays b k.1)
  restored_stays (Choice a b) h = let k = or_parts (changes_by p a) (changes_by p b) h in ap₂ Choice (wrapped_stays (restored_by p a) a (restored_stays a k.0) k.0) (wrapped_stays (restored_by p b) b (restored_stays b k.1) k.1)
  restored_stays (Opt e) h = ap Opt (wrapped_stays (restored_by p e) e (restored_stays e h) h)
  restored_stays (Rep e) h = ap Rep (wrapped_stays (restored_by p e) e (restored_stays e h) h)
  restored_stays (RepOnce e) h = ap RepOnce (wrapped_stays (restored_by p e) e (restored_stays e h) h)
  restored_stays _ h = refl

rules_stay : (rs : List OptimizedRule) → AreQuiet rs → restored_rules_by is_changer (optimized_rules_of rs) ≡ optimized_rules_of rs
rules_stay [] a = refl
rules_stay (r ∷ rs) a =
    ap₂ (λ x y. x ∷ y) (ap (λ b. record (optimized_rule_of r) { body = b }) (restored_stays is_changer (optimized_rule_of r).body (All-head IsQuiet r rs a))) (rules_stay rs (All-tail IsQuiet r rs a))

-- the rule of a name is one of them
quiet_rule : (rs : List OptimizedRule) → AreQuiet rs → (n : Text) (q : Rule) → rule_of (optimized_rules_of rs) n ≡ Some q → changes_by is_changer q.body ≡ false
quiet_rule [] a n q e = cc
quiet_rule (r ∷ rs) a n q e = go (rule_of (optimized_rules_of rs) n) refl (λ k. quiet_rule rs (All-tail IsQuiet r rs a) n q k) (bytes_eq (text_of r.name) n) e
  where
    go : (o : Option Rule) → rule_of (optimized_rules_of rs) n ≡ o → (rule_of (optimized_rules_of rs) n ≡ Some q → changes_by is_changer q.body ≡ false) → (t : Bool)
        → or_else o (if t then Some (optimized_rule_of r) else None) ≡ Some q → changes_by is_changer q.body ≡ false
    go (Some x) h k t f = k (h ∙ f)
    go None h k true f = let same : optimized_rule_of r ≡ q = cc in subst (λ (z : Rule). changes_by is_changer z.body ≡ false) same (All-head IsQuiet r rs a)
    go None h k false f = cc

module _ (rs : List OptimizedRule) (quiet : AreQuiet rs) where
  abbrev g : Grammar
  g = optimized_rules_of rs

  shown : {e : Expression} → ChangesStack g e → changes_by is_changer e ≡ true
  shown changes_push = refl
  shown changes_push_literal = refl
  shown (changes_tag d) = shown d
  shown (changes_pop {n = n} b) = pop_named n b
  shown (changes_pop_all {n = n} b) = pop_all_named n b
  shown (changes_drop {n = n} b) = drop_named n b
  shown (changes_rule {n = n} {r = r} e d) = let on = shown d in let off = quiet_rule rs quiet n r e in cc
  shown (changes_pos_pred d) = shown d
  shown (changes_neg_pred d) = shown d
  shown (changes_seq_left {a = a} {b = b} d) = or_left (changes_by is_changer a) (changes_by is_changer b) (shown d)
  shown (changes_seq_right {a = a} {b = b} d) = or_right (changes_by is_changer a) (changes_by is_changer b) (shown d)
  shown (changes_left {a = a} {b = b} d) = or_left (changes_by is_changer a) (changes_by is_changer b) (shown d)
  shown (changes_right {a = a} {b = b} d) = or_right (changes_by is_changer a) (changes_by is_changer b) (shown d)
  shown (changes_opt d) = shown d
  shown (changes_rep d) = shown d
  shown (changes_rep_once d) = shown d
  shown (changes_rep_exact d) = shown d
  shown (changes_rep_min d) = shown d
  shown (changes_rep_max d) = shown d
  shown (changes_rep_min_max d) = shown d

  decides : (n : String Global) → Decides (is_changer (text_of n)) (ChangesStack g (Ident (text_of n)))
  decides n = (
    changer_changes g (text_of n),
    (λ d. shown d),
  )

  pub quiet_restored : HaveNoWrappers g → EachRestored g g
  quiet_restored h = subst (EachRestored g) (rules_stay rs quiet) (each_restored is_changer g decides rs h)

  pub quiet_erased : AreSameErased g g
  quiet_erased = subst (AreSameErased g) (rules_stay rs quiet) (rules_same is_changer g)

  pub quiet_whole : AreRestored g g
  quiet_whole = record { changes = is_changer; decides = decides; are_restored = sym (rules_stay rs quiet) }
