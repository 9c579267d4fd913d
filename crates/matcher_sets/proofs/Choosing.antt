-- Ranges of choices.
use Rattle.matcher_code.specs.Lists.{is_covered}
use Rattle.std.proofs.Common.{◌≡◌, inl, inr, refl, subst, sym, ◌∙◌, ℕ, ◌<◌, List, [], Bool, true, false, ◌||◌}
use Rattle.base_language.specs.Language.Expression.{Choice}
use Rattle.matcher_program.specs.declared.form.Form.{Form}
use Rattle.matcher_program.specs.declared.form.Program.{Program}
use Rattle.matcher_sets.specs.Differences.{AreSides, ByMore, ByRanges}
use Rattle.matcher_sets.specs.Forms.{IsBoundIn, said}
use Rattle.matcher_sets.proofs.Ranging.{or_none}

-- a fact of forms and sets that a choice has for both sets if its alternatives have it
abbrev pub IsJoined : Program → (Form → (ℕ → Bool) → Type 0) → Type 0
IsJoined p P = (f left right : Form) (h k : ℕ → Bool) → said p f ≡ Choice (said p left) (said p right) → P left h → P right k → P f (λ x. h x || k x)

-- the form has the characters of its rest, and those in the ranges
pub record IsRest (P : Form → (ℕ → Bool) → Type 0) (form rest : Form) (ranges : List (ℕ × ℕ)) : Type 0 where
  pub matches : (h : ℕ → Bool) → P rest h
      → (k : ℕ → Bool) × P form k × ((x : ℕ) → x < 1114112 → k x ≡ (h x || is_covered ranges x))

pub no_rest : (P : Form → (ℕ → Bool) → Type 0) (form : Form) → IsRest P form form []
no_rest P form = record { matches = λ h m. (h, m, λ x l. sym (or_none (h x))) }

moves : (a b c n : Bool) → n ≡ (c || b) → ((a || b) || c) ≡ (a || n)
moves true b c n e = refl
moves false true true n e = sym e
moves false true false n e = sym e
moves false false true n e = sym e
moves false false false n e = sym e

passes : (a b c n : Bool) → n ≡ (c || a) → ((a || b) || c) ≡ (b || n)
passes true true c n e = refl
passes true false true n e = sym e
passes true false false n e = sym e
passes false true c n e = refl
passes false false true n e = sym e
passes false false false n e = sym e

swap : (a b : Bool) → (a || b) ≡ (b || a)
swap true true = refl
swap true false = refl
swap false true = refl
swap false false = refl

module _ (p : Program) (P : Form → (ℕ → Bool) → Type 0) (form rest : Form) (old new : List (ℕ × ℕ)) (i : IsRest P form rest old) where
  -- one alternative less
  one_less : IsJoined p P → (left right : Form) → ByMore (P right) old new → said p rest ≡ Choice (said p left) (said p right) → IsRest P form left new
  one_less joined left right r same = record {
    matches = λ h m.
        let k = i.matches (λ x. h x || r.characters x) (joined rest left right h r.characters same m r.holds) in
        (k.0, k.1, λ x l. k.2 x l ∙ moves (h x) (r.characters x) (is_covered old x) (is_covered new x) (r.adds x l));
  }

  one_less_on_the_right : IsJoined p P → (left right : Form) → ByMore (P left) old new → said p rest ≡ Choice (said p left) (said p right) → IsRest P form right new
  one_less_on_the_right joined left right r same = record {
    matches = λ h m.
        let k = i.matches (λ x. r.characters x || h x) (joined rest left right r.characters h same r.holds m) in
        (k.0, k.1, λ x l. k.2 x l ∙ passes (r.characters x) (h x) (is_covered old x) (is_covered new x) (r.adds x l));
  }

  -- on either side
  pub one_less_of_two : IsJoined p P → (left right one other : Form) → AreSides left right one other → ByMore (P one) old new → said p rest ≡ Choice (said p left) (said p right) → IsRest P form other new
  one_less_of_two joined left right one other (inl (a, b)) r same =
      subst (λ f. IsRest P form f new) (sym b) (one_less joined left right (subst (λ f. ByMore (P f) old new) a r) same)
  one_less_of_two joined left right one other (inr (a, b)) r same =
      subst (λ f. IsRest P form f new) (sym b) (one_less_on_the_right joined left right (subst (λ f. ByMore (P f) old new) a r) same)

  -- the last alternative
  pub last_one : ByMore (P rest) old new → ByRanges (P form) new
  last_one r =
      let k = i.matches r.characters r.holds in
      record { characters = k.0; holds = k.1; covers = λ x l. r.adds x l ∙ (swap (is_covered old x) (r.characters x) ∙ sym (k.2 x l)) }

pub bound_sides : (p : Program) (left right one other : Form) → AreSides left right one other → IsBoundIn p left → IsBoundIn p right → IsBoundIn p one × IsBoundIn p other
bound_sides p left right one other (inl (a, b)) l r = (subst (IsBoundIn p) (sym a) r, subst (IsBoundIn p) (sym b) l)
bound_sides p left right one other (inr (a, b)) l r = (subst (IsBoundIn p) (sym a) l, subst (IsBoundIn p) (sym b) r)
