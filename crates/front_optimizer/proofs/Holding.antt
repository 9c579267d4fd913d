-- A map of bodies, filled rule by rule.
use Rattle.std.proofs.Common.{◌≡◌, refl, sym, ◌∙◌, ap, ℕ, ◌+◌, ◌<◌, cond, List, [], ◌∷◌, ◌++◌, take, get_or, length, Option, Some, None, Bool, true, false, if◌then◌else◌, bytes_eq, string_bytes, Global}
use Rattle.std.proofs.lemmas.List.{map-append, take_more}
use Rattle.base_ast.specs.declared.ast.Rule as code_rule
use Rattle.std.specs.Option.{option_map}
use Rattle.std.specs.HashMap.{HashMap, get_by_text}
use Rattle.std.specs.declared.string.String.{String}
use Rattle.base_language.specs.Language.Text.{Text}
use Rattle.base_language.specs.Language.Expression.{Rule, Grammar, rule_of, or_else}
use Rattle.base_ast.specs.Ast.{expression_of, text_of, rule_of_code, rules_of}
use Rattle.base_ast.proofs.Characters.{string_eq-text_of}
use Rattle.base_ast.specs.declared.ast.Expr.{Expr}
use Rattle.front_optimizer.specs.Bodies.{HoldsBodies}

or_else_assoc : (a b c : Option Rule) → or_else (or_else a b) c ≡ or_else a (or_else b c)
or_else_assoc (Some r) b c = refl
or_else_assoc None b c = refl

or_else_none : (a : Option Rule) → or_else a None ≡ a
or_else_none (Some r) = refl
or_else_none None = refl

abbrev at_name : Rule → Text → Option Rule
at_name r n = if bytes_eq r.name n then Some r else None

rule_of-last : (g : Grammar) (r : Rule) (n : Text) → rule_of (g ++ (r ∷ [])) n ≡ or_else (at_name r n) (rule_of g n)
rule_of-last [] r n = sym (or_else_none (at_name r n))
rule_of-last (q ∷ g) r n = ap (λ a. or_else a (at_name q n)) (rule_of-last g r n) ∙ or_else_assoc (at_name r n) (rule_of g n) (at_name q n)

one_or_other : (t : Bool) (x : Expr) (r : Rule) (o : Option Expr) (q : Option Rule) → expression_of x ≡ r.body → option_map expression_of o ≡ option_map (λ (r : Rule). r.body) q
    → option_map expression_of (cond t (Some x) o) ≡ option_map (λ (r : Rule). r.body) (or_else (if t then Some r else None) q)
one_or_other true x r o q h i = ap Some h
one_or_other false x r o q h i = i

pub one_more_body : {S : Type 0} (m k : HashMap (String Global) Expr S) (g : Grammar) (r : Rule) (name : String Global) (x : Expr) → HoldsBodies m g
    → ((bs : List ℕ) → get_by_text k bs ≡ cond (bytes_eq (string_bytes name) bs) (Some x) (get_by_text m bs)) → expression_of x ≡ r.body → text_of name ≡ r.name → HoldsBodies k (g ++ (r ∷ []))
one_more_body m k g r name x h u e f = λ n.
    let same : bytes_eq (string_bytes name) (string_bytes n) ≡ bytes_eq r.name (text_of n) = string_eq-text_of name n ∙ ap (λ t. bytes_eq t (text_of n)) f in
    let found = one_or_other (bytes_eq r.name (text_of n)) x r (get_by_text m (string_bytes n)) (rule_of g (text_of n)) e (h n) in
    ap (option_map expression_of) (u (string_bytes n) ∙ ap (λ t. cond t (Some x) (get_by_text m (string_bytes n))) same) ∙ (found ∙ ap (option_map (λ (r : Rule). r.body)) (sym (rule_of-last g r (text_of n))))

-- the rules up to one more
pub one_rule_more : (rs : List code_rule.Rule) (i : ℕ) (d : code_rule.Rule) → i < length rs → d ≡ get_or rs i d → rules_of (take (i + 1) rs) ≡ rules_of (take i rs) ++ (rule_of_code d ∷ [])
one_rule_more rs i d h e = ap rules_of (take_more rs i d h) ∙ (map-append rule_of_code (take i rs) (get_or rs i d ∷ []) ∙ ap (λ r. rules_of (take i rs) ++ (rule_of_code r ∷ [])) (sym e))
