-- Rules that are asked for.
use Rattle.std.proofs.Common.{◌≡◌, ◌≢◌, ℕ, ◌+◌, ◌<◌, ◌≤◌, List, [], ◌∷◌, Option, Some, None, true, false, ap, arith, bytes_eq, get_or, length, refl, subst, sym, take, ◌∙◌}
use Rattle.std.proofs.lemmas.List.{get_or-map, length-map, take_all}
use Rattle.std.proofs.lemmas.List.Elements.{All-push}
use Rattle.std.proofs.lemmas.Slice.Eq.{bytes_eq-Decides}
use Rattle.std.proofs.lemmas.Str.{IsUtf8-string_bytes}
use Rattle.std.specs.Borrow.{Bor}
use Rattle.std.specs.Option.{option_copied, option_map}
use Rattle.std.specs.Prelude.{MatchOption, slice_get, string_bytes}
use Rattle.std.specs.Str.{IsUtf8, chars}
use Rattle.base_ast.proofs.Characters.{bytes_text_eq}
use Rattle.base_ast.specs.Ast.{rule_of_code, rules_of}
use Rattle.base_ast.specs.declared.ast.Rule as code
use Rattle.doc_pages.proofs.Gaining.{rules_more}
use Rattle.doc_pages.specs.Documents.{HasNoneNamed, IsOneNamed}

-- the first of all rules
pub first_asked : (rules : List code.Rule) (found : Option (Bor code.Rule))
    → option_copied found ≡ slice_get rules 0
    → MatchOption found (rules_of rules ≡ []) (λ r. slice_get (rules_of rules) 0 ≡ Some (rule_of_code r.now))
first_asked [] None e = refl
first_asked (x ∷ xs) None e = cc
first_asked [] (Some r) e = cc
first_asked (x ∷ xs) (Some r) e = ap (option_map rule_of_code) (sym e)

-- a rule with a name
pub named_here : (rules : List code.Rule) (i : ℕ) (r : code.Rule) (name : List ℕ) → i < length rules
    → r ≡ get_or rules i r → bytes_eq (string_bytes r.name) name ≡ true
    → IsOneNamed name (rules_of rules) (rule_of_code r)
named_here rules i r name l is same = (
  (i, (omega (arith, l, length-map rules rule_of_code)), get_or-map rule_of_code rules i r (rule_of_code r) l ∙ ap rule_of_code (sym is)),
  ap chars ((bytes_eq-Decides (string_bytes r.name) name).0 same),
)

-- one rule more without it
pub none_more : (rules : List code.Rule) (i : ℕ) (r : code.Rule) (name : List ℕ) → i < length rules
    → r ≡ get_or rules i r → IsUtf8 name → bytes_eq (string_bytes r.name) name ≡ false
    → HasNoneNamed name (rules_of (take i rules)) → HasNoneNamed name (rules_of (take (i + 1) rules))
none_more rules i r name l is u differs none =
    let other : (rule_of_code r).name ≢ chars name =
    λ same. let t = bytes_text_eq (string_bytes r.name) name (IsUtf8-string_bytes r.name) u in
    let equal = (bytes_eq-Decides (chars (string_bytes r.name)) (chars name)).1 same in
    absurd (let bad : true ≡ false = sym equal ∙ sym t ∙ differs in cc)
    in
    subst (λ rs. HasNoneNamed name rs) (sym (rules_more rules i r l is))
    (All-push (λ x. x.name ≢ chars name) (rules_of (take i rules)) (rule_of_code r) none other)

-- no rule at all has it
pub none_named : (rules : List code.Rule) (i : ℕ) (name : List ℕ) → length rules ≤ i
    → HasNoneNamed name (rules_of (take i rules)) → HasNoneNamed name (rules_of rules)
none_named rules i name l none = subst (λ rs. HasNoneNamed name (rules_of rs)) (take_all i rules l) none
