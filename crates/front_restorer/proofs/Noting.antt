-- Numbers that are noted behind one another are those of an expression's names.
use Rattle.std.proofs.Common.{◌≡◌, ◌+◌, List, [], ◌∷◌, ◌++◌, Some, take, drop, slice_get, length, refl, sym, ◌∙◌, ap, subst, arith}
use Rattle.std.proofs.lemmas.List.{append_assoc, length-append, length-map, length-take-le, map-append, take-append-drop}
use Rattle.std.proofs.lemmas.List.Folds.{drop_split}
use Rattle.base_language.specs.Language.Text.{Text}
use Rattle.base_language.specs.Language.Expression.{Expression, Str, Insens, Range, Ident, PeekSlice, PosPred, NegPred, Seq, Choice, Opt, Rep, RepOnce, RepExact, RepMin, RepMax, RepMinMax, Skip, Push, RestoreOnErr, PushLiteral, NodeTag}
use Rattle.front_restorer.specs.Calls.{names_in, AreNumbersOf}
use Rattle.front_restorer.specs.Names.{Numbers, number_of, numbers_of}
use Rattle.front_restorer.specs.Summaries.{IsSummaryOf}
use Rattle.front_restorer.specs.declared.names.Names.{Names}
use Rattle.front_restorer.specs.declared.summaries.Summary.{Summary}

got_here : {A : Type 0} (xs ys : List A) (x : A) → slice_get (xs ++ (x ∷ ys)) (length xs) ≡ Some x
got_here [] ys x = refl
got_here (z ∷ xs) ys x = got_here xs ys x

module _ (names : Names) where
  abbrev numbers : List Text → Numbers
  numbers ns = numbers_of names ns

  abbrev Behind : Numbers → Expression → Numbers → Type 0
  Behind before e behind = AreNumbersOf names (before ++ (numbers (names_in e) ++ behind)) e (length before)

  both : (a b : Expression) (before behind : Numbers) → ((qs : Numbers) → Behind before a qs) → ((qs : Numbers) → Behind qs b behind)
      → AreNumbersOf names (before ++ (numbers (names_in a ++ names_in b) ++ behind)) a (length before)
      × AreNumbersOf names (before ++ (numbers (names_in a ++ names_in b) ++ behind)) b (length before + length (names_in a))
  both a b before behind f k =
      let whole = before ++ (numbers (names_in a ++ names_in b) ++ behind) in
      let parts : numbers (names_in a ++ names_in b) ++ behind ≡ numbers (names_in a) ++ (numbers (names_in b) ++ behind)
      = ap (λ qs. qs ++ behind) (map-append (number_of names) (names_in a) (names_in b)) ∙ append_assoc (numbers (names_in a)) (numbers (names_in b)) behind in
      let first : before ++ (numbers (names_in a) ++ (numbers (names_in b) ++ behind)) ≡ whole = ap (λ qs. before ++ qs) (sym parts) in
      let second : (before ++ numbers (names_in a)) ++ (numbers (names_in b) ++ behind) ≡ whole = append_assoc before (numbers (names_in a)) (numbers (names_in b) ++ behind) ∙ first in
      let place : length (before ++ numbers (names_in a)) ≡ length before + length (names_in a)
      = length-append before (numbers (names_in a)) ∙ ap (λ n. length before + n) (length-map (names_in a) (number_of names)) in (
        subst (λ qs. AreNumbersOf names qs a (length before)) first (f (numbers (names_in b) ++ behind)),
        subst (λ i. AreNumbersOf names whole b i) place (subst (λ qs. AreNumbersOf names qs b (length (before ++ numbers (names_in a)))) second (k (before ++ numbers (names_in a)))),
      )

  behind_all : (e : Expression) (before behind : Numbers) → Behind before e behind
  behind_all (Ident n) before behind = got_here before behind (number_of names n)
  behind_all (PosPred e) before behind = behind_all e before behind
  behind_all (NegPred e) before behind = behind_all e before behind
  behind_all (Push e) before behind = behind_all e before behind
  behind_all (NodeTag e t) before behind = behind_all e before behind
  behind_all (Opt e) before behind = behind_all e before behind
  behind_all (Rep e) before behind = behind_all e before behind
  behind_all (RepOnce e) before behind = behind_all e before behind
  behind_all (Seq a b) before behind = both a b before behind (λ qs. behind_all a before qs) (λ qs. behind_all b qs behind)
  behind_all (Choice a b) before behind = both a b before behind (λ qs. behind_all a before qs) (λ qs. behind_all b qs behind)
  behind_all (RepExact e i) before behind = tt
  behind_all (RepMin e i) before behind = tt
  behind_all (RepMax e i) before behind = tt
  behind_all (RepMinMax e i j) before behind = tt
  behind_all (RestoreOnErr e) before behind = tt
  behind_all (Str t) before behind = tt
  behind_all (Insens t) before behind = tt
  behind_all (Range t u) before behind = tt
  behind_all (PeekSlice i j) before behind = tt
  behind_all (Skip ts) before behind = tt
  behind_all (PushLiteral t) before behind = tt

  -- what is noted of an expression stands from a place on
  pub noted_from : (e : Expression) (qs : Numbers) (s : Summary) → IsSummaryOf names e qs s → AreNumbersOf names qs e s.start
  noted_from e qs s h =
      let ns = numbers_of names (names_in e) in
      let rest : drop s.start qs ≡ ns ++ drop s.end qs = drop_split qs s.start s.end h.within.start ∙ ap (λ xs. xs ++ drop s.end qs) h.numbers in
      let whole : take s.start qs ++ (ns ++ drop s.end qs) ≡ qs = ap (λ xs. take s.start qs ++ xs) (sym rest) ∙ take-append-drop s.start qs in
      let place : length (take s.start qs) ≡ s.start = length-take-le s.start qs (let a = h.within.start in let b = h.within.end in omega arith) in
      subst (λ i. AreNumbersOf names qs e i) place (subst (λ rs. AreNumbersOf names rs e (length (take s.start qs))) whole (behind_all e (take s.start qs) (drop s.end qs)))
