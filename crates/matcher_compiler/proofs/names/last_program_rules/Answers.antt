use Rattle.std.proofs.Common.{◌≡◌, ◌∙◌, ap, refl, sym, subst, inl, inr, ℕ, List, ◌+◌, ◌-◌, ◌<◌, ◌≤◌, Bool, true, false, Option, None, Some, [], get_or, length, bytes_eq, chars, string_bytes, arith, rules, if◌then◌else◌}
use Rattle.std.specs.HashMap.{get_by_text}
use Rattle.std.specs.Str.{IsUtf8}
use Rattle.std.proofs.Math.ListN.{length-set, set}
use Rattle.std.proofs.lemmas.Bool.{cases_lt}
use Rattle.std.proofs.lemmas.Grind.{common_steps}
use Rattle.std.proofs.lemmas.List.{get_or-map, get_or-set_other, get_or-set_same}
use Rattle.std.proofs.lemmas.Map.Text.{hash_map_updates_text}
use Rattle.std.proofs.lemmas.Slice.Eq.{bytes_eq-Decides}
use Rattle.std.proofs.lemmas.Str.{IsUtf8-string_bytes}
use Rattle.base_ast.specs.Ast.{text_of}
use Rattle.base_ast.proofs.Characters.{bytes_text_eq}
use Rattle.base_language.specs.Language.Expression.{last_place}
use Rattle.matcher_program.specs.declared.form.ProgramRule.{ProgramRule}
use Rattle.matcher_program.specs.Programs.{grammar_of, name_at, names_of}
use Rattle.matcher_compiler.proofs.Naming.{not_that_name, that_name}
use Rattle.matcher_compiler.proofs.names.last_program_rules.Goals as goal

-- one program rule more has its last program rule
more : (program_rules : List ProgramRule) (old : List ℕ) (below next v : ℕ) → next + 1 ≡ below → below ≤ length program_rules → length old ≡ length program_rules
    → ((i : ℕ) → below ≤ i → i < length program_rules → last_place (grammar_of program_rules) (name_at (names_of program_rules) i) ≡ Some (get_or old i 0))
    → last_place (grammar_of program_rules) (name_at (names_of program_rules) next) ≡ Some v
    → (i : ℕ) → next ≤ i → i < length program_rules → last_place (grammar_of program_rules) (name_at (names_of program_rules) i) ≡ Some (get_or (set old next v) i 0)
more program_rules old below next v at w long before here i h m = elim (cases_lt i below) [
  | inl k ↦
      let j : next ≡ i = omega (arith, h, k, at) in
      subst (λ x. last_place (grammar_of program_rules) (name_at (names_of program_rules) x) ≡ Some (get_or (set old next v) x 0)) j
      (here ∙ ap Some (sym (get_or-set_same old next v 0 (omega (arith, at, w, long)))))
  | inr k ↦ before i k m ∙ ap Some (sym (get_or-set_other old next i v 0 (λ q. omega (arith, q, k, at))))
]

program_rule_named : (program_rules : List ProgramRule) (next : ℕ) (program_rule : ProgramRule) → next < length program_rules → program_rule ≡ get_or program_rules next program_rule → name_at (names_of program_rules) next ≡ text_of program_rule.name
program_rule_named program_rules next program_rule l is = get_or-map (λ r. text_of r.name) program_rules next program_rule [] l ∙ ap (λ r. text_of r.name) (sym is)

-- a map that has something at one key, and nothing at another
apart : (b : Bool) (fresh name : List ℕ) (f : List ℕ → Option ℕ) (v : ℕ) → bytes_eq fresh name ≡ b → f fresh ≡ Some v → f name ≡ None → b ≡ false
apart false fresh name f v e x y = refl
apart true fresh name f v e x y =
    let same : fresh ≡ name = (bytes_eq-Decides fresh name).0 e in
    let z : Some v ≡ None = sym x ∙ (ap f same ∙ y) in cc

pub loop-below-preserved-in-Some : goal.loop-below-preserved-in-Some
loop-below-preserved-in-Some c =
    let program_rules = c.as_slice-program_rules.result.now in
    let w = c.loop-below.invariant in
    let next = c.loop-below.below - 1 in
    let program_rule = c.index-program_rules-below.result in
    let fresh = string_bytes program_rule.name in
    let at : next + 1 ≡ c.loop-below.below = omega (arith, c.loop-below-test.true) in
    let l : next < length program_rules = omega (arith, w.within, c.loop-below-test.true) in
    let there : get_by_text c.loop-below.later fresh ≡ Some c.in-Some.last.now = grind (arith, common_steps) in
    let valid = IsUtf8-string_bytes program_rule.name in
    record {
      within = omega (arith, w.within);
      long = omega (arith, length-set {A = ℕ}, w.long);
      none = λ name u e.
          let other = apart (bytes_eq fresh name) fresh name (λ k. get_by_text c.loop-below.later k) c.in-Some.last.now refl there e in
          not_that_name program_rules c.loop-below.below next program_rule (chars name) at l c.index-program_rules-below.is (w.none name u e) (sym (bytes_text_eq fresh name valid u) ∙ other);
      found = w.found;
      last = more program_rules c.loop-below.lasts.items c.loop-below.below next c.in-Some.last.now at w.within w.long w.last
          (ap (last_place (grammar_of program_rules)) (program_rule_named program_rules next program_rule l c.index-program_rules-below.is) ∙ w.found fresh c.in-Some.last.now valid there);
    }

-- what a map has at a key, after another key was set
set_none : (b : Bool) (n : ℕ) (o : Option ℕ) → (if b then Some n else o) ≡ None → (b ≡ false) × (o ≡ None)
set_none true n o e = absurd (cc)
set_none false n o e = (refl, e)

pub loop-below-preserved : goal.loop-below-preserved
loop-below-preserved c =
    let program_rules = c.as_slice-program_rules.result.now in
    let w = c.loop-below.invariant in
    let next = c.loop-below.below - 1 in
    let program_rule = c.index-program_rules-below.result in
    let fresh = string_bytes program_rule.name in
    let bs = string_bytes c.in_ok-key-in-None.key in
    let at : next + 1 ≡ c.loop-below.below = omega (arith, c.loop-below-test.true) in
    let l : next < length program_rules = omega (arith, w.within, c.loop-below-test.true) in
    let key : bs ≡ fresh = search rules in
    let absent : get_by_text c.loop-below.later fresh ≡ None = grind (arith, common_steps) in
    let valid = IsUtf8-string_bytes program_rule.name in
    let here : last_place (grammar_of program_rules) (chars fresh) ≡ Some next
    = that_name program_rules c.loop-below.below next program_rule (chars fresh) at l c.index-program_rules-below.is (w.none fresh valid absent) ((bytes_eq-Decides (chars fresh) (chars fresh)).1 refl) in
    let updates = λ (name : List ℕ). hash_map_updates_text bs c.loop-below.later c.insert.new.self _ c.in_ok-insert-in-None.ensures.updates name in
    let same : (name : List ℕ) → IsUtf8 name → bytes_eq bs name ≡ bytes_eq (text_of program_rule.name) (chars name)
    = λ name u. ap (λ z. bytes_eq z name) key ∙ bytes_text_eq fresh name valid u in
    record {
      within = omega (arith, w.within);
      long = omega (arith, length-set {A = ℕ}, w.long);
      none = λ name u e.
          let x = set_none (bytes_eq bs name) _ _ (sym (updates name) ∙ e) in
          not_that_name program_rules c.loop-below.below next program_rule (chars name) at l c.index-program_rules-below.is (w.none name u x.1) (sym (same name u) ∙ x.0);
      found = λ name i u e. set_some program_rules (bytes_eq bs name) next i fresh name _ (ap (λ z. bytes_eq z name) (sym key)) (sym (updates name) ∙ e) here (w.found name i u);
      last = more program_rules c.loop-below.lasts.items c.loop-below.below next next at w.within w.long w.last
          (ap (last_place (grammar_of program_rules)) (program_rule_named program_rules next program_rule l c.index-program_rules-below.is) ∙ here);
    }
  where
    set_some : (program_rules : List ProgramRule) (b : Bool) (n i : ℕ) (fresh name : List ℕ) (o : Option ℕ) → bytes_eq fresh name ≡ b → (if b then Some n else o) ≡ Some i
        → last_place (grammar_of program_rules) (chars fresh) ≡ Some n → (o ≡ Some i → last_place (grammar_of program_rules) (chars name) ≡ Some i) → last_place (grammar_of program_rules) (chars name) ≡ Some i
    set_some program_rules true n i fresh name o f e here old =
        ap (λ k. last_place (grammar_of program_rules) (chars k)) (sym ((bytes_eq-Decides fresh name).0 f)) ∙ (here ∙ e)
    set_some program_rules false n i fresh name o f e here old = old e
