-- Expressions that take all characters of a set.
use Rattle.std.proofs.Common.{◌≡◌, refl, sym, ◌∙◌, ap, ap₂, subst, ℕ, suc, ◌<◌, ◌≤◌, ◌&&◌, ◌||◌, List, [], ◌∷◌, Bool, true, false, inl, inr, arith, map, nat_eq, if◌then◌else◌}
use Rattle.std.specs.Prelude.{Err, IfOk, IfSome, None, Ok, Option, Result, Some, not}
use Rattle.std.proofs.Math.Bool.{and-true}
use Rattle.std.proofs.Math.Utf8.{scalar, scalars}
use Rattle.std.proofs.lemmas.Bool.{and_parts, cases_lt, ne_eqb}
use Rattle.std.proofs.lemmas.Str.{IsUtf8-string_bytes, scalars-chars}
use Rattle.std.specs.String.{string_bytes}
use Rattle.std.specs.declared.alloc.Global.{Global}
use Rattle.std.specs.declared.string.String.{String}
use Rattle.std.specs.declared.vec.Vec.{Vec}
use Rattle.base_ast.specs.Ast.{text_of}
use Rattle.base_language.specs.Language.Expression.{Rep, Seq, Skip}
use Rattle.base_language.specs.Language.Matching.{any_begins, begins, distance}
use Rattle.base_language.specs.Language.Meaning as by
use Rattle.base_language.specs.Language.Meaning.{Does, Run, Task}
use Rattle.base_language.specs.Language.State.{Mode, None', Success, moved}
use Rattle.base_language.specs.Language.Text.{Text}
use Rattle.matcher_code.specs.Lists.{is_covered}
use Rattle.matcher_code.specs.Laid.{IsSilent, span_of}
use Rattle.matcher_code.proofs.Characters.{span_of_set}
use Rattle.matcher_code.proofs.CharacterSets.{below}
use Rattle.matcher_program.specs.declared.form.Form.{Form}
use Rattle.matcher_program.specs.declared.form.Program.{Program}
use Rattle.matcher_sets.specs.declared.modes.Atomicity.{Atomicity}
use Rattle.matcher_sets.specs.Differences.{HasRanges, HasRefused}
use Rattle.matcher_sets.specs.Forms.{grammar_in, said}
use Rattle.matcher_sets.specs.Modes.{mode_of}
use Rattle.matcher_sets.specs.Ranges.{Covers}
use Rattle.matcher_sets.proofs.Excluding.{other_matches}
use Rattle.matcher_compiler.specs.Plans.{IsTightIn, TakesSpanIn}

-- the repetition of a form of one character
pub same_span : (p : Program) (m : Atomicity) (f : Form) (ranges : List (ℕ × ℕ)) → IsTightIn p m → HasRanges p f ranges
    → TakesSpanIn p (Run (mode_of m) (Rep (said p f))) ranges
same_span p m f ranges tight has classes fits =
    let x = has classes fits in record {
      characters = x.characters;
      covers = x.covers;
      takes = span_of_set (grammar_in p) classes (mode_of m) (said p f) x.characters (tight classes) (x.holds m);
    }

-- the repetition of such a form behind a refusal of others
pub other_span : (p : Program) (m : Atomicity) (a b : Form) (others ranges rest : List (ℕ × ℕ)) → IsTightIn p m → HasRefused p a others → HasRanges p b ranges
    → Covers rest (λ c. not (is_covered others c) && is_covered ranges c)
    → TakesSpanIn p (Run (mode_of m) (Rep (Seq (said p a) (said p b)))) rest
other_span p m a b others ranges rest tight refused has covers classes fits =
    let x = refused classes fits in
    let y = has classes fits in record {
      characters = λ c. not (x.characters c) && y.characters c;
      covers = λ c l. covers c l ∙ ap₂ (λ i j. not i && j) (x.covers c l) (y.covers c l);
      takes = span_of_set (grammar_in p) classes (mode_of m) (Seq (said p a) (said p b)) (λ c. not (x.characters c) && y.characters c) (tight classes)
          (other_matches (grammar_in p) classes (mode_of m) (said p a) (said p b) x.characters y.characters (tight classes) (x.holds m) (y.holds m));
    }

-- whether a text begins with a character that no text has is told by that character alone
begins_alone : (t : Text) (c : ℕ) (u : Text) → scalars t ≡ true → 1114112 ≤ c → begins nat_eq t (c ∷ u) ≡ begins nat_eq t (c ∷ [])
begins_alone [] c u h l = refl
begins_alone (x ∷ t) c u h l =
    let k = below x (and_parts (scalar x) (scalars t) h).0 in
    let z : nat_eq x c ≡ false = ne_eqb x c (λ e. omega (arith, k, l, e)) in
    ap (λ b. b && begins nat_eq t u) z ∙ sym (ap (λ b. b && begins nat_eq t []) z)

any_alone : (texts : List (String Global)) (c : ℕ) (u : Text) → 1114112 ≤ c → any_begins (map text_of texts) (c ∷ u) ≡ any_begins (map text_of texts) (c ∷ [])
any_alone [] c u l = refl
any_alone (s ∷ texts) c u l =
    ap₂ (λ a b. a || b) (begins_alone (text_of s) c u (scalars-chars (string_bytes s) (IsUtf8-string_bytes s)) l) (any_alone texts c u l)

-- the search for the first of some texts of one character
module _ (texts : List (String Global)) (others : List (ℕ × ℕ))
    (same : (c : ℕ) (u : Text) → c < 1114112 → any_begins (map text_of texts) (c ∷ u) ≡ is_covered others c) where
  alone : (c : ℕ) (u : Text) → any_begins (map text_of texts) (c ∷ u) ≡ any_begins (map text_of texts) (c ∷ [])
  alone c u = elim (cases_lt c 1114112) [ inl l ↦ same c u l ∙ sym (same c [] l) | inr l ↦ any_alone texts c u l ]

  goes : (a b : Bool) (n d : ℕ) → a ≡ b → n ≡ d → (if a then 0 else suc n) ≡ (if not b then suc d else 0)
  goes true b n d e f = ap (λ x. if not x then suc d else 0) e
  goes false b n d e f = ap suc f ∙ ap (λ x. if not x then suc d else 0) e

  distance_of : (cs : Text) → distance (map text_of texts) cs ≡ span_of (λ c. not (any_begins (map text_of texts) (c ∷ []))) cs
  distance_of [] = refl
  distance_of (c ∷ cs) =
      goes (any_begins (map text_of texts) (c ∷ cs)) (any_begins (map text_of texts) (c ∷ [])) (distance (map text_of texts) cs)
      (span_of (λ x. not (any_begins (map text_of texts) (x ∷ []))) cs) (alone c cs) (distance_of cs)

  pub searched_span : (all rest : List (ℕ × ℕ)) → ((c : ℕ) → c < 1114112 → is_covered all c ≡ true) → Covers rest (λ c. not (is_covered others c) && is_covered all c)
      → (p : Program) (m : Mode) → TakesSpanIn p (Run m (Skip (map text_of texts))) rest
  searched_span all rest whole covers p m classes fits = record {
    characters = λ c. not (any_begins (map text_of texts) (c ∷ []));
    covers = λ c l. covers c l ∙ (ap₂ (λ a b. not a && b) (sym (same c [] l)) (whole c l) ∙ and-true (not (any_begins (map text_of texts) (c ∷ []))));
    takes = λ s. subst (λ n. (d : Does (grammar_in p) classes (Run m (Skip (map text_of texts))) s (Success (moved n s) None')) × IsSilent d) (distance_of s.rest) (by.skip, λ place. refl);
  }

or_true : (b : Bool) → (b || true) ≡ true
or_true true = refl
or_true false = refl

-- a search for an empty text takes nothing
begins_empty : (t u : Text) → begins nat_eq t [] ≡ true → begins nat_eq t u ≡ true
begins_empty [] u h = refl
begins_empty (x ∷ t) u h = cc

any_empty : (ts : List Text) (u : Text) → any_begins ts [] ≡ true → any_begins ts u ≡ true
any_empty [] u h = cc
any_empty (t ∷ ts) u h = go (begins nat_eq t []) refl h (any_empty ts u)
  where
    go : (b : Bool) → begins nat_eq t [] ≡ b → (b || any_begins ts []) ≡ true → (any_begins ts [] ≡ true → any_begins ts u ≡ true)
        → (begins nat_eq t u || any_begins ts u) ≡ true
    go true e k ih = ap (λ b. b || any_begins ts u) (begins_empty t u e)
    go false e k ih = ap (λ b. begins nat_eq t u || b) (ih k) ∙ or_true (begins nat_eq t u)

no_distance : (ts : List Text) → any_begins ts [] ≡ true → (cs : Text) → distance ts cs ≡ span_of (λ c. false) cs
no_distance ts h [] = refl
no_distance ts h (c ∷ cs) = ap (λ b. if b then 0 else suc (distance ts cs)) (any_empty ts (c ∷ cs) h)

pub nothing_searched : (ts : List Text) (ranges : List (ℕ × ℕ)) → any_begins ts [] ≡ true → ranges ≡ [] → (p : Program) (m : Mode)
    → TakesSpanIn p (Run m (Skip ts)) ranges
nothing_searched ts ranges h e p m classes fits = record {
  characters = λ c. false;
  covers = λ c l. ap (λ rs. is_covered rs c) e;
  takes = λ s. subst (λ n. (d : Does (grammar_in p) classes (Run m (Skip ts)) s (Success (moved n s) None')) × IsSilent d) (no_distance ts h s.rest) (by.skip, λ place. refl);
}

-- so it is in a program and a mode
pub search_in : {E : Type 0} (p : Program) (m : Mode) (texts : List (String Global)) (r : Result (Option (Vec (ℕ × ℕ) Global)) E)
    → IfOk r (λ made. IfSome made (λ ranges. (p : Program) (m : Mode) → TakesSpanIn p (Run m (Skip (map text_of texts))) ranges.items))
    → IfOk r (λ made. IfSome made (λ ranges. TakesSpanIn p (Run m (Skip (map text_of texts))) ranges.items))
search_in p m texts (Ok (Some x)) h = h p m
search_in p m texts (Ok None) h = tt
search_in p m texts (Err x) h = tt
