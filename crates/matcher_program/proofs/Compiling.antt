-- Names that are looked up.
use Prim.Native.Nat.{zero}
use Rattle.std.proofs.Common.{◌≡◌, refl, sym, ◌∙◌, ap, ap₂, subst, ℕ, suc, ◌+◌, ◌<◌, List, [], ◌∷◌, Bool, true, false, Option, Some, None, if◌then◌else◌, length, drop, get_or, bytes_eq, arith, map, ◌++◌, ◌==◌, ◌||◌, ◌&&◌, ◌≤◌, take, eqb-true}
use Rattle.std.specs.Prelude.{IsUtf8, chars, encode_utf8}
use Rattle.std.proofs.lemmas.List.{get_or-map, length-map}
use Rattle.base_ast.specs.Ast.{text_of}
use Rattle.base_ast.specs.declared.optimized.OptimizedRule.{OptimizedRule}
use Rattle.base_ast.specs.Optimized.{optimized_rule_of, optimized_rules_of}
use Rattle.base_language.specs.Language.Text.{Text}
use Rattle.base_language.specs.Rewritings.Equality.{text_eq-Decides}
use Rattle.base_language.specs.Language.Expression.{Grammar, Rule, rule_of}
use Rattle.std.proofs.lemmas.Str.{chars_past_char}
use Rattle.std.proofs.lemmas.List.{length-append}
use Rattle.base_language.specs.Language.Expression as spec
use Rattle.base_language.specs.Language.Expression.{Ident, whitespace, comment}
use Rattle.std.specs.Borrow.{Bor}
use Rattle.std.proofs.Math.Seq.{drop-cons}
use Rattle.matcher_program.proofs.Decoding.{chars_empty, decoded, decoded_chars}
use Rattle.std.specs.declared.string.String.{String}
use Rattle.std.specs.declared.alloc.Global.{Global}
use Rattle.std.proofs.lemmas.Bool.{and_parts}
use Rattle.base_language.specs.Language.Builtins.{Named, Property as PropertyOf, builtin_of, builtins, looked_up, is_one_of, property_names, general_categories, binary_properties, scripts}
use Rattle.matcher_program.specs.declared.form.Property.{Property}
use Rattle.matcher_program.specs.declared.form.Class.{Class}
use Rattle.front_names.specs.CharSets.{set_name}
use Rattle.front_names.specs.declared.char_set.CharSet.{CharSet}
use Rattle.matcher_program.specs.declared.form.ProgramRule.{ProgramRule}
use Rattle.matcher_program.specs.declared.form.Form.TheVariants as form
use Rattle.matcher_program.specs.Compiled.{Compiles, names_in}
use Rattle.matcher_program.specs.Programs.{IsNumberOf, IsPropertyOf, IsProgramRule, IsRuleOf, IsSkippedRule, IsSound, class_name, grammar_of, name_at, names_of, grammar_rule}

-- the last rule of a name, with none of that name behind it
pub last_rule : (g : Grammar) (i : ℕ) (d : Rule) (n : Text) → i < length g → rule_of (drop (suc i) g) n ≡ None → bytes_eq (get_or g i d).name n ≡ true → rule_of g n ≡ Some (get_or g i d)
last_rule [] i d n l u h = absurd (omega (arith, l))
last_rule (r ∷ g) zero d n l u h = rw (u, h) refl
last_rule (r ∷ g) (suc i) d n l u h =
    let x = last_rule g i d n (omega (arith, l)) u h in
    rw x refl

pub no_rule_yet : (g : Grammar) (i : ℕ) (d : Rule) (n : Text) → i < length g → rule_of (drop (suc i) g) n ≡ None → bytes_eq (get_or g i d).name n ≡ false → rule_of (drop i g) n ≡ None
no_rule_yet [] i d n l u h = absurd (omega (arith, l))
no_rule_yet (r ∷ g) zero d n l u h = rw (u, h) refl
no_rule_yet (r ∷ g) (suc i) d n l u h = no_rule_yet g i d n (omega (arith, l)) u h

drop_all : (g : Grammar) → drop (length g) g ≡ []
drop_all [] = refl
drop_all (r ∷ g) = drop_all g

pub none_at_end : {A : Type 0} (rule_from : A → Rule) (rs : List A) (k : ℕ) (n : Text) → k ≡ length rs → rule_of (drop k (map rule_from rs)) n ≡ None
none_at_end rule_from rs k n e =
    let l : k ≡ length (map rule_from rs) = e ∙ sym (length-map rs rule_from) in
    rw (l, drop_all (map rule_from rs)) refl

-- one rule more was looked at
module _ {A : Type 0} (rule_from : A → Rule) (rs : List A) (below next : ℕ) (rule : A) (n : Text) (e : next + 1 ≡ below) (l : next < length rs) (is : rule ≡ get_or rs next rule) (u : rule_of (drop below (map rule_from rs)) n ≡ None) where
  within : next < length (map rule_from rs)
  within = omega (arith, l, length-map rs rule_from)

  at_next : get_or (map rule_from rs) next (rule_from rule) ≡ rule_from rule
  at_next = get_or-map rule_from rs next rule (rule_from rule) l ∙ ap rule_from (sym is)

  behind : rule_of (drop (suc next) (map rule_from rs)) n ≡ None
  behind = let k : suc next ≡ below = omega (arith, e) in rw k u

  pub not_that_name : bytes_eq (rule_from rule).name n ≡ false → rule_of (drop next (map rule_from rs)) n ≡ None
  not_that_name h = no_rule_yet (map rule_from rs) next (rule_from rule) n within behind (rw at_next h)

  same_at : (d : Rule) → get_or (map rule_from rs) next d ≡ rule_from rule
  same_at d = get_or-map rule_from rs next rule d l ∙ ap rule_from (sym is)

  pub that_name : bytes_eq (rule_from rule).name n ≡ true → IsRuleOf (map rule_from rs) n next
  that_name h = record {
    within = within;
    meant = λ d. last_rule (map rule_from rs) next d n within behind (rw (same_at d) h);
    named = λ d. ap (λ r. r.name) (same_at d) ∙ (text_eq-Decides (rule_from rule).name n).0 h;
  }

-- a text of one character
pub one_character : (bs given r left : List ℕ) (c : ℕ) (empty : Bool) → IsUtf8 bs → given ≡ bs → given ≡ encode_utf8 c ++ r → left ≡ r → empty ≡ (length left == 0) → empty ≡ true → chars bs ≡ c ∷ []
one_character bs given r left c empty u g e l m t =
    let z : length left ≡ 0 = eqb-true (length left) 0 (sym m ∙ t) in
    chars_past_char bs r c u (sym g ∙ e) ∙ ap (λ cs. c ∷ cs) (chars_empty r (ap length (sym l) ∙ z))

-- names that are bound
pub call_compiles : (g : Grammar) (ps : List Property) (n : Text) (i : ℕ) → IsRuleOf g n i → Compiles g ps (Ident n) (form.Call i)
call_compiles g ps n i h =
    let d : Rule = record { name = []; type_of = spec.Normal; body = Ident [] } in
    let k : name_at (names_in g) i ≡ n = get_or-map (λ r. r.name) g i d [] h.within ∙ h.named d in
    record { says = ap Ident k; bound = subst (λ m. IsRuleOf g m i) (sym k) h }

pub set_compiles : (s : CharSet) (k : Class) → class_name k ≡ set_name s → (g : Grammar) (ps : List Property) → rule_of g (set_name s) ≡ None → Compiles g ps (Ident (set_name s)) (form.One k)
set_compiles s k e g ps h = record { says = ap Ident e; bound = subst (λ m. rule_of g m ≡ None) (sym e) h }

-- property names
abbrev no_builtin : List Named → Text → Bool
no_builtin [] n = true
no_builtin (b ∷ bs) n = if bytes_eq b.name n then false else no_builtin bs n

abbrev pub each : (Text → Bool) → List Text → Bool
each f [] = true
each f (t ∷ ts) = f t && each f ts

pub each_of : (f : Text → Bool) (ts : List Text) (n : Text) → each f ts ≡ true → is_one_of ts n ≡ true → f n ≡ true
each_of f [] n h e = cc
each_of f (t ∷ ts) n h e = go (bytes_eq t n) refl e (λ k. each_of f ts n (and_parts (f t) (each f ts) h).1 k)
  where
    go : (b : Bool) → bytes_eq t n ≡ b → (b || is_one_of ts n) ≡ true → (is_one_of ts n ≡ true → f n ≡ true) → f n ≡ true
    go true x y ih = subst (λ m. f m ≡ true) ((text_eq-Decides t n).0 x) (and_parts (f t) (each f ts) h).0
    go false x y ih = ih y

property_of : (bs : List Named) (n : Text) → no_builtin bs n ≡ true → is_one_of property_names n ≡ true → looked_up bs n ≡ Some (PropertyOf n)
property_of [] n h e = rw e refl
property_of (b ∷ bs) n h e = go (bytes_eq b.name n) h (λ k. property_of bs n k e)
  where
    go : (q : Bool) → (if q then false else no_builtin bs n) ≡ true → (no_builtin bs n ≡ true → looked_up bs n ≡ Some (PropertyOf n)) → (if q then Some b.builtin else looked_up bs n) ≡ Some (PropertyOf n)
    go true x ih = cc
    go false x ih = ih x

no_builtins : each (no_builtin builtins) property_names ≡ true
unfolding builtins property_names general_categories binary_properties scripts
no_builtins = refl

-- the names in code are those of the definitions
plain_names : each (λ n. bytes_eq (decoded n) n) property_names ≡ true
unfolding property_names general_categories binary_properties scripts
plain_names = refl

all_plain : (ts : List Text) → each (λ n. bytes_eq (decoded n) n) ts ≡ true → map chars ts ≡ ts
all_plain [] h = refl
all_plain (t ∷ ts) h =
    let b = and_parts (bytes_eq (decoded t) t) (each (λ n. bytes_eq (decoded n) n) ts) h in
    ap₂ (λ x xs. x ∷ xs) (sym (decoded_chars t) ∙ (text_eq-Decides (decoded t) t).0 b.0) (all_plain ts b.1)

written_names : (names : List (Bor (List ℕ))) → map (λ p. chars p.now) names ≡ map chars (map (λ p. p.now) names)
written_names [] = refl
written_names (p ∷ names) = ap (λ xs. chars p.now ∷ xs) (written_names names)

pub are_property_names : (names : List (Bor (List ℕ))) → map (λ p. p.now) names ≡ property_names → map (λ p. chars p.now) names ≡ property_names
are_property_names names e = written_names names ∙ (ap (map chars) e ∙ all_plain property_names plain_names)

-- one name more was looked at
pub next_name : (names : List (Bor (List ℕ))) (i : ℕ) (d : Bor (List ℕ)) (n : Text) → i < length names → is_one_of (map (λ p. chars p.now) (drop i names)) n ≡ (bytes_eq (chars (get_or names i d).now) n || is_one_of (map (λ p. chars p.now) (drop (suc i) names)) n)
next_name names i d n l = ap (λ xs. is_one_of (map (λ p. chars p.now) xs) n) (drop-cons names i d l)

pub is_property_of : (n : Text) → is_one_of property_names n ≡ true → builtin_of n ≡ Some (PropertyOf n)
is_property_of n e = property_of builtins n (each_of (no_builtin builtins) property_names n no_builtins e) e

pub property_compiles : (ps : List Property) (name : String Global) (n : Text) (i : ℕ) → text_of name ≡ n → IsNumberOf ps n i → is_one_of property_names n ≡ true → (g : Grammar) → rule_of g n ≡ None → Compiles g ps (Ident n) (form.Property name i)
property_compiles ps name n i k h e g u = record {
  says = ap Ident k;
  bound = subst (λ m. IsPropertyOf g ps m i) (sym k) (record { number = h; unnamed = u; is = is_property_of n e });
}

-- program rules that say what the rules say
numbers_named : (N : List Text) (g : Grammar) (rs : List ProgramRule) → map (grammar_rule N) rs ≡ g → names_of rs ≡ names_in g
numbers_named N g [] e = ap names_in e
numbers_named N g (r ∷ rs) e = ap (λ xs. text_of r.name ∷ xs) (numbers_named N (map (grammar_rule N) rs) rs refl) ∙ ap names_in e

pub rules_mean : (g : Grammar) (rs : List ProgramRule) → map (grammar_rule (names_in g)) rs ≡ g → grammar_of rs ≡ g
rules_mean g rs e = ap (λ N. map (grammar_rule N) rs) (numbers_named (names_in g) g rs e) ∙ e

pub program_sound : (g : Grammar) (ps : List Property) (rs : List ProgramRule) (white blank : Option ℕ) → map (grammar_rule (names_in g)) rs ≡ g → ((i : ℕ) (d : ProgramRule) → i < length rs → IsProgramRule g (names_in g) ps (get_or rs i d)) → IsSkippedRule g whitespace white → IsSkippedRule g comment blank → IsSound rs ps white blank
program_sound g ps rs white blank e program_rules w c =
    let m = rules_mean g rs e in
    let n = numbers_named (names_in g) g rs e in
    record {
      rules = λ i d l. subst (λ h. IsProgramRule h (names_of rs) ps (get_or rs i d)) (sym m) (subst (λ N. IsProgramRule g N ps (get_or rs i d)) (sym n) (program_rules i d l));
      whitespace_is = subst (λ h. IsSkippedRule h whitespace white) (sym m) w;
      comment_is = subst (λ h. IsSkippedRule h comment blank) (sym m) c;
    }

-- one program rule more
pub more_program_rules : (g : Grammar) (ps : List Property) (rs more : List ProgramRule) (program_rule : ProgramRule) → more ≡ rs ++ program_rule ∷ [] → IsProgramRule g (names_in g) ps program_rule → ((i : ℕ) (d : ProgramRule) → i < length rs → IsProgramRule g (names_in g) ps (get_or rs i d)) → (i : ℕ) (d : ProgramRule) → i < length more → IsProgramRule g (names_in g) ps (get_or more i d)
more_program_rules g ps rs more program_rule e h f i d l = rw e (go rs i (λ k d. f k d) (let n = ap length e ∙ length-append rs (program_rule ∷ []) in omega (arith, n, l)))
  where
    go : (xs : List ProgramRule) (i : ℕ) → ((i : ℕ) (d : ProgramRule) → i < length xs → IsProgramRule g (names_in g) ps (get_or xs i d)) → i < length xs + 1 → IsProgramRule g (names_in g) ps (get_or (xs ++ program_rule ∷ []) i d)
    go [] zero f l = h
    go [] (suc i) f l = absurd (omega (arith, l))
    go (x ∷ xs) zero f l = f zero d (omega arith)
    go (x ∷ xs) (suc i) f l = go xs i (λ k d l. f (suc k) d (omega (arith, l))) (omega (arith, l))

-- the names that are skipped
pub white_chars : chars whitespace ≡ whitespace
unfolding whitespace
white_chars = sym (decoded_chars (87 ∷ 72 ∷ 73 ∷ 84 ∷ 69 ∷ 83 ∷ 80 ∷ 65 ∷ 67 ∷ 69 ∷ []))

pub comment_chars : chars comment ≡ comment
unfolding comment
comment_chars = sym (decoded_chars (67 ∷ 79 ∷ 77 ∷ 77 ∷ 69 ∷ 78 ∷ 84 ∷ []))

pub blank_then : (n : Text) → bytes_eq n (chars whitespace) ≡ true → true ≡ (bytes_eq n whitespace || bytes_eq n comment)
blank_then n h = let k = rw white_chars at h in rw k refl

pub blank_else : (n : Text) (b : Bool) → bytes_eq n (chars whitespace) ≡ false → b ≡ bytes_eq n (chars comment) → b ≡ (bytes_eq n whitespace || bytes_eq n comment)
blank_else n b h e =
    let k = rw white_chars at h in
    let m = rw comment_chars at e in
    rw k m

-- all rules were compiled
all_taken : (rs : List OptimizedRule) (k : ℕ) → length rs ≤ k → take k rs ≡ rs
all_taken [] zero l = refl
all_taken [] (suc k) l = refl
all_taken (r ∷ rs) zero l = absurd (omega (arith, l))
all_taken (r ∷ rs) (suc k) l = ap (λ xs. r ∷ xs) (all_taken rs k (omega (arith, l)))

pub all_program_rules : (rules : List OptimizedRule) (k : ℕ) (rs : List ProgramRule) → length rules ≤ k → map (grammar_rule (names_in (optimized_rules_of rules))) rs ≡ map optimized_rule_of (take k rules) → map (grammar_rule (names_in (optimized_rules_of rules))) rs ≡ optimized_rules_of rules
all_program_rules rules k rs l e = e ∙ ap (map optimized_rule_of) (all_taken rules k l)
