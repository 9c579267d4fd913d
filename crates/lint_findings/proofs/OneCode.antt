-- The code of a message, by how it ends.
use Rattle.std.proofs.Common.{◌≡◌, ◌∙◌, ℕ, ◌+◌, ◌-◌, ◌≤◌, List, ◌++◌, ap, append_assoc, arith, codes, drop, if◌then◌else◌, length, length-append, lit≤, string_bytes, sym, take}
use Rattle.std.specs.Prelude.{bytes_eq}
use Rattle.std.specs.List.{join_by}
use Rattle.std.proofs.Math.Seq.{drop-append-add, drop-append_seam, take-append_seam}
use Rattle.front_names.specs.Messages.{about, arrow, left_recursion}
use Rattle.front_names.specs.declared.messages.NameProblem.TheVariants as name_is
use Rattle.front_reader.specs.declared.rules.flaws.Cause.TheVariants as cause_is
use Rattle.front_validator.specs.Problems.{subject}
use Rattle.front_validator.specs.declared.problems.RuleProblem.TheVariants as rule_is
use Rattle.lint_findings.specs.OneCode.{IsCoded, of_flaw, of_name, of_rule}
use Rattle.lint_findings.specs.Problems.{name_code}
use Rattle.lint_findings.specs.declared.codes.Code.{Code}
use Rattle.lint_findings.specs.declared.codes.Code.TheVariants as code

-- 1. the last eight bytes
abbrev ending : List ℕ → List ℕ
ending m = drop (length m - 8) m

tail_end : (a b : List ℕ) → 8 ≤ length b → ending (a ++ b) ≡ ending b
tail_end a b h =
    let n : length (a ++ b) - 8 ≡ length a + (length b - 8) = omega (arith, length-append a b, h) in
    ap (λ k. drop k (a ++ b)) n ∙ drop-append-add a b (length b - 8)

-- 2. the name in the message that it is undefined
abbrev name_in : List ℕ → List ℕ
name_in m = take (length m - 18) (drop 5 m)

named : (name : List ℕ) → name_in (about name_is.Undefined name) ≡ name
named name =
    let rule : List ℕ = codes "rule " in
    let rest : List ℕ = codes " is undefined" in
    let whole : about name_is.Undefined name ≡ rule ++ (name ++ rest) = append_assoc rule name rest in
    let n : length (rule ++ (name ++ rest)) - 18 ≡ length name = omega (arith, length-append rule (name ++ rest), length-append name rest) in
    ap name_in whole
    ∙ (ap (λ m. take (length (rule ++ (name ++ rest)) - 18) m) (drop-append_seam rule (name ++ rest))
    ∙ (ap (λ k. take k (name ++ rest)) n ∙ take-append_seam name rest))

-- 3. the code
abbrev by_ending : List ℕ → List ℕ → Code
by_ending e m =
    if bytes_eq e (codes " keyword") then code.ReservedName
    else if bytes_eq e (codes " defined") then code.DuplicateRule
    else if bytes_eq e (codes "ndefined") then name_code name_is.Undefined (name_in m)
    else if bytes_eq e (codes "finitely") then code.EndlessRepetition
    else if bytes_eq e (codes " reached") then code.UnreachableChoice
    else if bytes_eq e (codes "his case") then code.LeftRecursion
    else if bytes_eq e (codes "e output") then code.TagWithoutToken
    else if bytes_eq e (codes "ar value") then code.EscapeValue
    else if bytes_eq e (codes " 0 times") then code.ZeroRepetition
    else code.NumberRange

abbrev read_code : List ℕ → Code
read_code m = by_ending (ending m) m

ends : (a b : List ℕ) → 8 ≤ length b → read_code (a ++ b) ≡ by_ending (ending b) (a ++ b)
ends a b h = ap (λ e. by_ending e (a ++ b)) (tail_end a b h)

recursive_ends : (call cycle : List ℕ) → read_code (left_recursion call cycle) ≡ code.LeftRecursion
recursive_ends call cycle =
    let last : List ℕ = codes "); pest::pratt_parser might be useful in this case" in
    let third : List ℕ = codes " is left-recursive (" ++ (cycle ++ last) in
    let long : 8 ≤ length (cycle ++ last) = omega (arith, length-append cycle last) in
    let longer : 8 ≤ length third = omega (arith, length-append (codes " is left-recursive (") (cycle ++ last)) in
    let longest : 8 ≤ length (call ++ third) = omega (arith, length-append call third) in
    let e : ending (left_recursion call cycle) ≡ ending last =
    tail_end (codes "rule ") (call ++ third) longest
    ∙ (tail_end call third longer ∙ (tail_end (codes " is left-recursive (") (cycle ++ last) long ∙ tail_end cycle last (lit≤ tt)))
    in
    ap (λ x. by_ending x (left_recursion call cycle)) e

pub is_read : (m : List ℕ) (c : Code) → IsCoded m c → c ≡ read_code m
is_read m c (of_name name_is.RustKeyword name e d) = d ∙ sym (ap read_code e ∙ ends name (codes " is a rust keyword") (lit≤ tt))
is_read m c (of_name name_is.PestKeyword name e d) = d ∙ sym (ap read_code e ∙ ends name (codes " is a pest keyword") (lit≤ tt))
is_read m c (of_name name_is.AlreadyDefined name e d) = d ∙ sym (ap read_code e ∙ ends (codes "rule " ++ name) (codes " already defined") (lit≤ tt))
is_read m c (of_name name_is.Undefined name e d) =
    d ∙ sym (ap read_code e ∙ (ends (codes "rule " ++ name) (codes " is undefined") (lit≤ tt) ∙ ap (name_code name_is.Undefined) (named name)))
is_read m c (of_flaw cause_is.NoScalarValue e d) = d ∙ sym (ap read_code e)
is_read m c (of_flaw cause_is.PastI32 e d) = d ∙ sym (ap read_code e)
is_read m c (of_flaw cause_is.PastU32 e d) = d ∙ sym (ap read_code e)
is_read m c (of_flaw cause_is.ZeroTimes e d) = d ∙ sym (ap read_code e)
is_read m c (of_rule (rule_is.CannotFail body) written e d) = d ∙ sym (ap read_code e ∙ ends (subject body) (codes " cannot fail and will repeat infinitely") (lit≤ tt))
is_read m c (of_rule (rule_is.NonProgressing body) written e d) =
    d ∙ sym (ap read_code e ∙ ends (subject body) (codes " is non-progressing and will repeat infinitely") (lit≤ tt))
is_read m c (of_rule rule_is.UnreachableChoices written e d) = d ∙ sym (ap read_code e)
is_read m c (of_rule (rule_is.LeftRecursion names) written e d) =
    d ∙ sym (ap read_code e ∙ recursive_ends written (join_by string_bytes arrow names.items))
is_read m c (of_rule rule_is.TagOnSilentRule written e d) = d ∙ sym (ap read_code e)
is_read m c (of_rule rule_is.TagOnBuiltin written e d) = d ∙ sym (ap read_code e)
