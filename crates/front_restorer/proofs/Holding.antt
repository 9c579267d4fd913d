-- Grammars whose rules have the same bodies, and maps that hold them.
use Rattle.std.proofs.Common.{◌≡◌, ℕ, List, [], ◌∷◌, map, Option, Some, None, Bool, true, false, cond, if◌then◌else◌, bytes_eq, refl, sym, ◌∙◌, ap, subst, String, Global, string_bytes}
use Rattle.std.specs.Bool.{Decides}
use Rattle.std.specs.List.{AllByRecursion, IsDistinct}
use Rattle.std.specs.Map.{lookup, keys_of}
use Rattle.std.specs.Option.{option_map}
use Rattle.std.specs.String.{string_eq}
use Rattle.std.proofs.lemmas.Bool.Decides.{same_from_decides}
use Rattle.std.proofs.lemmas.Slice.Eq.{bytes_eq-Decides}
use Rattle.std.proofs.lemmas.Str.{IsUtf8-string_bytes}
use Rattle.base_language.specs.Language.Expression.{Expression, Rule, Grammar, rule_of, or_else, last_place}
use Rattle.base_language.specs.Rewritings.Wrapping.{ChangesStack, changes_push, changes_push_literal, changes_pop, changes_pop_all, changes_drop, changes_rule, changes_pos_pred, changes_neg_pred, changes_seq_left, changes_seq_right, changes_left, changes_right, changes_opt, changes_rep, changes_rep_once, changes_rep_exact, changes_rep_min, changes_rep_max, changes_rep_min_max, changes_tag}
use Rattle.base_ast.specs.Ast.{text_of}
use Rattle.base_ast.specs.Optimized.{optimized_expression_of, optimized_rule_of, optimized_rules_of}
use Rattle.base_ast.specs.declared.optimized.OptimizedExpr as code
use Rattle.base_ast.specs.declared.optimized.OptimizedRule.{OptimizedRule}
use Rattle.base_ast.proofs.Characters.{bytes_text_eq}
use Rattle.front_restorer.specs.Bodies.{NamedBody, named_body, rule_with, grammar_with, body_in, SameBodies}
use Rattle.front_restorer.specs.KnownChanges.{KnowsChanges}
use Rattle.front_restorer.specs.declared.changes.Changes.{Changes}
use Rattle.front_restorer.proofs.Naming.{Named, absent, named, resolved}
use Rattle.front_restorer.proofs.Said.{IsSaid, said}

abbrev body_of : Rule → Expression
body_of r = r.body

found : (o : Option Rule) (b : Expression) → option_map body_of o ≡ Some b → (q : Rule) × (o ≡ Some q) × (q.body ≡ b)
found None b h = cc
found (Some q) b h = (q, refl, cc)

-- the bodies that names mean call by texts of strings
abbrev BodiesAreSaid : Grammar → Type 0
BodiesAreSaid g = (n : String Global) (r : Rule) → rule_of g (text_of n) ≡ Some r → IsSaid r.body

named_said : (bs : List NamedBody) → BodiesAreSaid (grammar_with bs)
named_said bs n r e = go (last_place (grammar_with bs) (text_of n)) (resolved bs (text_of n))
  where
    go : (o : Option ℕ) → Named bs (text_of n) o → IsSaid r.body
    go o (absent a) = cc
    go o (named b at a) = let same : rule_with b ≡ r = cc in subst (λ (q : Rule). IsSaid q.body) same (said b.1)

moved_said : (g h : Grammar) → SameBodies g h → BodiesAreSaid g → BodiesAreSaid h
moved_said g h same f n r e =
    let (q, at, k) = found (rule_of g (text_of n)) r.body (same n ∙ ap (option_map body_of) e) in
    subst IsSaid k (f n q at)

moved : (g h : Grammar) → SameBodies g h → BodiesAreSaid g → {e : Expression} → ChangesStack g e → IsSaid e → ChangesStack h e
moved g h same f changes_push s = changes_push
moved g h same f changes_push_literal s = changes_push_literal
moved g h same f (changes_tag d) s = changes_tag (moved g h same f d s)
moved g h same f (changes_pop b) s = changes_pop b
moved g h same f (changes_pop_all b) s = changes_pop_all b
moved g h same f (changes_drop b) s = changes_drop b
moved g h same f (changes_rule {n = n} {r = r} e d) (s, k) =
    let own : rule_of g (text_of s) ≡ Some r = sym (ap (rule_of g) k) ∙ e in
    let (q, at, i) = found (rule_of h (text_of s)) r.body (sym (same s) ∙ ap (option_map body_of) own) in
    changes_rule (ap (rule_of h) k ∙ at) (subst (ChangesStack h) (sym i) (moved g h same f d (f s r own)))
moved g h same f (changes_pos_pred d) s = changes_pos_pred (moved g h same f d s)
moved g h same f (changes_neg_pred d) s = changes_neg_pred (moved g h same f d s)
moved g h same f (changes_seq_left d) s = changes_seq_left (moved g h same f d s.0)
moved g h same f (changes_seq_right d) s = changes_seq_right (moved g h same f d s.1)
moved g h same f (changes_left d) s = changes_left (moved g h same f d s.0)
moved g h same f (changes_right d) s = changes_right (moved g h same f d s.1)
moved g h same f (changes_opt d) s = changes_opt (moved g h same f d s)
moved g h same f (changes_rep d) s = changes_rep (moved g h same f d s)
moved g h same f (changes_rep_once d) s = changes_rep_once (moved g h same f d s)
moved g h same f (changes_rep_exact d) s = changes_rep_exact (moved g h same f d s)
moved g h same f (changes_rep_min d) s = changes_rep_min (moved g h same f d s)
moved g h same f (changes_rep_max d) s = changes_rep_max (moved g h same f d s)
moved g h same f (changes_rep_min_max d) s = changes_rep_min_max (moved g h same f d s)

-- what is told of rules is told of all rules with the same bodies
pub tells_moved : (c : Changes) (bs : List NamedBody) (h : Grammar) → SameBodies (grammar_with bs) h → KnowsChanges c (grammar_with bs) → KnowsChanges c h
tells_moved c bs h same t n =
    let back : SameBodies h (grammar_with bs) = λ s. sym (same s) in (
      (λ k. moved (grammar_with bs) h same (named_said bs) ((t n).0 k) (n, refl)),
      (λ d. (t n).1 (moved h (grammar_with bs) back (moved_said (grammar_with bs) h same (named_said bs)) d (n, refl))),
    )

same_or_else : (a b : Option Rule) (t : Bool) (r q : Rule) → option_map body_of a ≡ option_map body_of b → r.body ≡ q.body
    → option_map body_of (or_else a (if t then Some r else None)) ≡ option_map body_of (or_else b (if t then Some q else None))
same_or_else (Some x) (Some y) t r q h k = h
same_or_else (Some x) None t r q h k = cc
same_or_else None (Some y) t r q h k = cc
same_or_else None None true r q h k = ap Some k
same_or_else None None false r q h k = refl

-- rules by name and body are the rules, but for their types
pub of_rules : (rs : List OptimizedRule) → SameBodies (grammar_with (map named_body rs)) (optimized_rules_of rs)
of_rules [] n = refl
of_rules (r ∷ rs) n = same_or_else (rule_of (grammar_with (map named_body rs)) (text_of n)) (rule_of (optimized_rules_of rs) (text_of n)) (bytes_eq (text_of r.name) (text_of n)) (rule_with (named_body r)) (optimized_rule_of r) (of_rules rs n) refl

bytes_eq_swapped : (t u : List ℕ) → bytes_eq t u ≡ bytes_eq u t
bytes_eq_swapped t u =
    let d = bytes_eq-Decides u t in
    let e : Decides (bytes_eq u t) (t ≡ u) = ((λ h. sym (d.0 h)), (λ h. d.1 (sym h))) in
    same_from_decides _ _ (bytes_eq-Decides t u) e

tested : (n k : String Global) → bytes_eq (string_bytes n) (string_bytes k) ≡ bytes_eq (text_of k) (text_of n)
tested n k = bytes_text_eq (string_bytes n) (string_bytes k) (IsUtf8-string_bytes n) (IsUtf8-string_bytes k) ∙ bytes_eq_swapped (text_of n) (text_of k)

no_other : (es : List NamedBody) (k : String Global) → AllByRecursion (λ y. string_eq k y ≡ false) (keys_of es) → rule_of (grammar_with es) (text_of k) ≡ None
no_other [] k h = refl
no_other (e ∷ es) k h =
    ap (λ o. or_else o (if bytes_eq (text_of e.0) (text_of k) then Some (rule_with e) else None)) (no_other es k h.1)
    ∙ ap (λ b. or_else None (if b then Some (rule_with e) else None)) (sym (tested k e.0) ∙ h.0)

none_behind : (o : Option Rule) → option_map body_of o ≡ option_map body_of (or_else o None)
none_behind None = refl
none_behind (Some r) = refl

one_entry : (e : NamedBody) (n : String Global) (g : Grammar) (o : Option code.OptimizedExpr) (t u : Bool) → t ≡ u → bytes_eq (text_of e.0) (text_of n) ≡ u → (text_of e.0 ≡ text_of n → rule_of g (text_of n) ≡ None)
    → option_map optimized_expression_of o ≡ body_in g n
    → option_map optimized_expression_of (cond t (Some e.1) o) ≡ option_map body_of (or_else (rule_of g (text_of n)) (if u then Some (rule_with e) else None))
one_entry e n g o true true h i f r = sym (ap (λ q. option_map body_of (or_else q (Some (rule_with e)))) (f ((bytes_eq-Decides (text_of e.0) (text_of n)).0 i)))
one_entry e n g o false false h i f r = r ∙ none_behind (rule_of g (text_of n))
one_entry e n g o true false h i f r = cc
one_entry e n g o false true h i f r = cc

-- a list of distinct names finds the same body from its start as from its end
pub of_entries : (es : List NamedBody) → IsDistinct string_eq (keys_of es) → (n : String Global)
    → option_map optimized_expression_of (lookup (λ k. bytes_eq (string_bytes n) (string_bytes k)) es) ≡ body_in (grammar_with es) n
unfolding IsDistinct
of_entries [] d n = refl
of_entries (e ∷ es) d n =
    one_entry e n (grammar_with es) (lookup (λ k. bytes_eq (string_bytes n) (string_bytes k)) es) (bytes_eq (string_bytes n) (string_bytes e.0)) (bytes_eq (text_of e.0) (text_of n)) (tested n e.0) refl
    (λ same. ap (rule_of (grammar_with es)) (sym same) ∙ no_other es e.0 d.0) (of_entries es d.1 n)
