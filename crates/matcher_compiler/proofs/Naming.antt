-- The last program rule of a name, by a search from the end.
use Rattle.std.proofs.Common.{◌≡◌, ◌∙◌, ap, refl, sym, subst, Bool, Option, if◌then◌else◌, ℕ, zero, ◌+◌, ◌<◌, suc, List, [], ◌∷◌, None, Some, arith, bytes_eq, drop, false, get_or, length, map, true}
use Rattle.std.proofs.lemmas.List.{get_or-map, length-map}
use Rattle.std.proofs.lemmas.Slice.Eq.{bytes_eq-Decides}
use Rattle.base_ast.specs.Ast.{text_of}
use Rattle.base_language.specs.Language.Expression.{Grammar, Rule, last_place, rule_of}
use Rattle.base_language.specs.Language.Text.{Text}
use Rattle.matcher_program.specs.declared.form.ProgramRule.{ProgramRule}
use Rattle.matcher_program.specs.Programs.{IsRuleOf, grammar_of, name_at, names_of, grammar_rule}
use Rattle.matcher_sets.specs.Forms.{no_rule}
use Rattle.matcher_compiler.specs.Names.{IsLast}

last_found : (g : Grammar) (i : ℕ) (d : Rule) (n : Text) → i < length g → last_place (drop (suc i) g) n ≡ None → bytes_eq (get_or g i d).name n ≡ true → last_place g n ≡ Some i
last_found [] i d n l u h = absurd (omega (arith, l))
last_found (r ∷ g) zero d n l u h = rw (u, h) refl
last_found (r ∷ g) (suc i) d n l u h =
    let x = last_found g i d n (omega (arith, l)) u h in
    rw x refl

none_yet : (g : Grammar) (i : ℕ) (d : Rule) (n : Text) → i < length g → last_place (drop (suc i) g) n ≡ None → bytes_eq (get_or g i d).name n ≡ false → last_place (drop i g) n ≡ None
none_yet [] i d n l u h = absurd (omega (arith, l))
none_yet (r ∷ g) zero d n l u h = rw (u, h) refl
none_yet (r ∷ g) (suc i) d n l u h = none_yet g i d n (omega (arith, l)) u h

drop_all : (g : Grammar) → drop (length g) g ≡ []
drop_all [] = refl
drop_all (r ∷ g) = drop_all g

pub none_at_end : (program_rules : List ProgramRule) (k : ℕ) (n : Text) → k ≡ length program_rules → last_place (drop k (grammar_of program_rules)) n ≡ None
none_at_end program_rules k n e =
    let l : k ≡ length (grammar_of program_rules) = e ∙ sym (length-map program_rules (grammar_rule (names_of program_rules))) in
    rw (l, drop_all (grammar_of program_rules)) refl

-- one program rule more was looked at
module _ (program_rules : List ProgramRule) (below next : ℕ) (program_rule : ProgramRule) (n : Text) (e : next + 1 ≡ below) (l : next < length program_rules) (is : program_rule ≡ get_or program_rules next program_rule) (u : last_place (drop below (grammar_of program_rules)) n ≡ None) where
  within : next < length (grammar_of program_rules)
  within = omega (arith, l, length-map program_rules (grammar_rule (names_of program_rules)))

  at_next : get_or (grammar_of program_rules) next (grammar_rule (names_of program_rules) program_rule) ≡ grammar_rule (names_of program_rules) program_rule
  at_next = get_or-map (grammar_rule (names_of program_rules)) program_rules next program_rule (grammar_rule (names_of program_rules) program_rule) l ∙ ap (grammar_rule (names_of program_rules)) (sym is)

  after : last_place (drop (suc next) (grammar_of program_rules)) n ≡ None
  after = let k : suc next ≡ below = omega (arith, e) in rw k u

  pub not_that_name : bytes_eq (text_of program_rule.name) n ≡ false → last_place (drop next (grammar_of program_rules)) n ≡ None
  not_that_name h = none_yet (grammar_of program_rules) next (grammar_rule (names_of program_rules) program_rule) n within after (ap (λ r. bytes_eq r.name n) at_next ∙ h)

  pub that_name : bytes_eq (text_of program_rule.name) n ≡ true → last_place (grammar_of program_rules) n ≡ Some next
  that_name h = last_found (grammar_of program_rules) next (grammar_rule (names_of program_rules) program_rule) n within after (ap (λ r. bytes_eq r.name n) at_next ∙ h)

  pub that_rule : text_of program_rule.name ≡ n → IsLast program_rules next
  that_rule h =
      let named : name_at (names_of program_rules) next ≡ n = get_or-map (λ r. text_of r.name) program_rules next program_rule [] l ∙ (ap (λ r. text_of r.name) (sym is) ∙ h) in
      ap (last_place (grammar_of program_rules)) named ∙ that_name ((bytes_eq-Decides (text_of program_rule.name) n).1 h)

-- what the place of a name says of the rule of the name
pub record IsPlaceOf (g : Grammar) (n : Text) (i : ℕ) : Type 0 where
  pub within : i < length g
  pub meant : (d : Rule) → rule_of g n ≡ Some (get_or g i d)
  pub named : (d : Rule) → (get_or g i d).name ≡ n

abbrev pub Says : Grammar → Text → Option ℕ → Type 0
Says g n None = rule_of g n ≡ None
Says g n (Some i) = IsPlaceOf g n i

first_says : (r : Rule) (g : Grammar) (n : Text) → rule_of g n ≡ None → (b : Bool) → bytes_eq r.name n ≡ b
    → Says (r ∷ g) n (if b then Some 0 else None)
first_says r g n u true e =
    record { within = omega arith; meant = λ d. rw (u, e) refl; named = λ d. (bytes_eq-Decides r.name n).0 e }
first_says r g n u false e = rw (u, e) refl

more_says : (r : Rule) (g : Grammar) (n : Text) (o : Option ℕ) → Says g n o
    → Says (r ∷ g) n (elim o [ Some k ↦ Some (suc k) | None ↦ (if bytes_eq r.name n then Some 0 else None) ])
more_says r g n (Some k) h =
    record { within = omega (arith, h.within); meant = λ d. rw (h.meant d) refl; named = λ d. h.named d }
more_says r g n None h = first_says r g n h (bytes_eq r.name n) refl

pub places_say : (g : Grammar) (n : Text) → Says g n (last_place g n)
places_say [] n = refl
places_say (r ∷ g) n = more_says r g n (last_place g n) (places_say g n)

pub place_of_last : (g : Grammar) (n : Text) (i : ℕ) → last_place g n ≡ Some i → IsPlaceOf g n i
place_of_last g n i e = subst (Says g n) e (places_say g n)

pub meant_of : (g : Grammar) (n : Text) (i : ℕ) → last_place g n ≡ Some i → IsRuleOf g n i
meant_of g n i e =
    let x = place_of_last g n i e in record { within = x.within; meant = x.meant; named = x.named }

-- a rule of a name has a program rule
pub rule_within : (program_rules : List ProgramRule) (n : Text) (i : ℕ) → IsRuleOf (grammar_of program_rules) n i → i < length program_rules
rule_within program_rules n i h = omega (arith, h.within, length-map program_rules (grammar_rule (names_of program_rules)))

-- the name of a program rule, and that of its rule
program_rule_name : (names : List Text) (program_rules : List ProgramRule) (i : ℕ) (d : Rule) → i < length program_rules
    → get_or (map (λ r. text_of r.name) program_rules) i [] ≡ (get_or (map (grammar_rule names) program_rules) i d).name
program_rule_name names [] i d l = absurd (omega (arith, l))
program_rule_name names (r ∷ program_rules) zero d l = refl
program_rule_name names (r ∷ program_rules) (suc i) d l = program_rule_name names program_rules i d (omega (arith, l))

-- the last program rule of the name of a program rule
module _ (program_rules : List ProgramRule) (rule last : ℕ) (e : last_place (grammar_of program_rules) (name_at (names_of program_rules) rule) ≡ Some last) where
  pub last_within : last < length program_rules
  last_within = rule_within program_rules (name_at (names_of program_rules) rule) last (meant_of (grammar_of program_rules) (name_at (names_of program_rules) rule) last e)

  pub last_named : name_at (names_of program_rules) last ≡ name_at (names_of program_rules) rule
  last_named =
      program_rule_name (names_of program_rules) program_rules last no_rule last_within
      ∙ (place_of_last (grammar_of program_rules) (name_at (names_of program_rules) rule) last e).named no_rule

  pub last_is : IsLast program_rules last
  last_is = ap (last_place (grammar_of program_rules)) last_named ∙ e
