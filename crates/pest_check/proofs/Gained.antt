-- The lines of rules, one after another, and what a writer gains.
use Rattle.std.proofs.Common.{◌≡◌, refl, sym, ◌∙◌, ap, ap₂, ℕ, ◌+◌, ◌<◌, ◌≤◌, List, [], ◌∷◌, ◌++◌, append_assoc, append-nil, take, length, get_or, Option, Some, None, Result, Ok, Err, OnOk, subst, string_bytes, codes, lit<}
use Rattle.std.proofs.Math.Utf8.{encodes}
use Rattle.std.proofs.lemmas.List.{map-append, take_all, take_more}
use Rattle.std.proofs.lemmas.Str.{encode_ascii, encodes-append}
use Rattle.std.specs.Io.KnownBytes.{Appends, Keeps}
use Rattle.base_language.specs.Language.Expression.{RuleType, Normal, Silent, Atomic, CompoundAtomic, NonAtomic, Rule, Grammar}
use Rattle.base_language.specs.Language.Text.{Text}
use Rattle.base_ast.specs.Ast.{rule_type_of, text_of}
use Rattle.base_ast.specs.Optimized.{optimized_expression_of, optimized_rule_of, optimized_rules_of}
use Rattle.base_ast.specs.Printing.{printed}
use Rattle.base_ast.specs.declared.optimized.OptimizedExpr.{OptimizedExpr}
use Rattle.base_ast.specs.declared.optimized.OptimizedRule.{OptimizedRule}
use Rattle.base_ast.proofs.Characters.{encodes-text_of}
use Rattle.pest_meta.specs.ReadsBack.{grammar_text, modifier, rule_line}

-- what is kept behind a gain
pub Appends-kept : (a b c : Option (List ℕ)) (xs : List ℕ) → Appends a b xs → Keeps b c → Appends a c xs
Appends-kept None b c xs h k = tt
Appends-kept (Some a) None c xs h k = absurd h
Appends-kept (Some a) (Some b) None xs h k = absurd k
Appends-kept (Some a) (Some b) (Some c) xs h k = k ∙ h

-- a rule type's sign is the same in bytes
encodes-modifier : (t : RuleType) → encodes (modifier t) ≡ modifier t
encodes-modifier Normal = refl
encodes-modifier Silent = rw (encode_ascii 95 (lit< tt)) refl
encodes-modifier Atomic = rw (encode_ascii 64 (lit< tt)) refl
encodes-modifier CompoundAtomic = rw (encode_ascii 36 (lit< tt)) refl
encodes-modifier NonAtomic = rw (encode_ascii 33 (lit< tt)) refl

-- a name, a sign and an expression as a line, in bytes
encodes-line : (n m e : Text) → encodes m ≡ m
    → encodes (n ++ codes " = " ++ m ++ codes "{ " ++ e ++ codes " }\n")
    ≡ encodes n ++ (codes " = " ++ (m ++ (codes "{ " ++ (encodes e ++ codes " }\n"))))
encodes-line n m e h = simp (append_assoc, encodes-append, encode_ascii 32 (lit< tt), encode_ascii 61 (lit< tt), encode_ascii 123 (lit< tt), encode_ascii 125 (lit< tt), encode_ascii 10 (lit< tt), h)

-- a line as it is written: a name, a sign, and an expression
abbrev line_bytes : List ℕ → List ℕ → OptimizedExpr → List ℕ
line_bytes name sign expr =
    name ++ (codes " = " ++ (sign ++ (codes "{ " ++ (encodes (printed (optimized_expression_of expr)) ++ codes " }\n"))))

-- a rule's line, in bytes
encodes-rule_line : (r : OptimizedRule)
    → encodes (rule_line (optimized_rule_of r)) ≡ line_bytes (string_bytes r.name) (modifier (rule_type_of r.ty)) r.expr
encodes-rule_line r =
    let sign = modifier (rule_type_of r.ty) in
    encodes-line (text_of r.name) sign (printed (optimized_expression_of r.expr)) (encodes-modifier (rule_type_of r.ty))
    ∙ ap (λ t. line_bytes t sign r.expr) (encodes-text_of r.name)

-- one rule more
grammar_text-more : (rules : Grammar) (r : Rule) → grammar_text (rules ++ r ∷ []) ≡ grammar_text rules ++ rule_line r
grammar_text-more [] r = append-nil (rule_line r)
grammar_text-more (x ∷ rules) r =
    ap (λ t. rule_line x ++ t) (grammar_text-more rules r) ∙ sym (append_assoc (rule_line x) (grammar_text rules) (rule_line r))

-- rules up to one more, in bytes
encodes-grammar_text : (rules : List OptimizedRule) (i : ℕ) (r : OptimizedRule) → i < length rules → r ≡ get_or rules i r
    → encodes (grammar_text (optimized_rules_of (take i rules))) ++ encodes (rule_line (optimized_rule_of r))
    ≡ encodes (grammar_text (optimized_rules_of (take (i + 1) rules)))
encodes-grammar_text rules i r h e =
    let before = optimized_rules_of (take i rules) in
    let one : take (i + 1) rules ≡ take i rules ++ r ∷ [] = take_more rules i r h ∙ ap (λ x. take i rules ++ x ∷ []) (sym e) in
    let more : optimized_rules_of (take (i + 1) rules) ≡ before ++ optimized_rule_of r ∷ [] = ap optimized_rules_of one ∙ map-append optimized_rule_of (take i rules) (r ∷ []) in
    sym (encodes-append (grammar_text before) (rule_line (optimized_rule_of r)))
    ∙ ap encodes (sym (grammar_text-more before (optimized_rule_of r)) ∙ ap grammar_text (sym more))

-- a rule's line behind those of the rules before it
pub one_line_more : (old new : List ℕ) (rules : List OptimizedRule) (i : ℕ) (r : OptimizedRule) (sign : List ℕ)
    → i < length rules → r ≡ get_or rules i r → sign ≡ modifier (rule_type_of r.ty)
    → old ≡ encodes (grammar_text (optimized_rules_of (take i rules)))
    → new ≡ old ++ line_bytes (string_bytes r.name) sign r.expr
    → new ≡ encodes (grammar_text (optimized_rules_of (take (i + 1) rules)))
one_line_more old new rules i r sign h e m before gained =
    let line : line_bytes (string_bytes r.name) sign r.expr ≡ encodes (rule_line (optimized_rule_of r)) =
    ap (λ s. line_bytes (string_bytes r.name) s r.expr) m ∙ sym (encodes-rule_line r) in
    gained ∙ (ap₂ ◌++◌ before line ∙ encodes-grammar_text rules i r h e)

-- all rules' lines
pub all_lines : (text : List ℕ) (rules : List OptimizedRule) (i : ℕ) → length rules ≤ i
    → text ≡ encodes (grammar_text (optimized_rules_of (take i rules))) → text ≡ encodes (grammar_text (optimized_rules_of rules))
all_lines text rules i h before = before ∙ ap (λ rs. encodes (grammar_text (optimized_rules_of rs))) (take_all i rules h)
