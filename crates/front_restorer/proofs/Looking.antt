-- What is noted of expressions, piece by piece.
use Rattle.std.proofs.Common.{◌≡◌, ◌<◌, ◌≤◌, ◌-◌, ℕ, zero, suc, subst, map, take, drop, ◌⊎◌, inl, inr, length, slice_get, slice_range, arith, List, [], ◌∷◌, ◌++◌, Option, Some, None, Bool, true, false, ◌||◌, refl, sym, ◌∙◌, ap, ap₂}
use Rattle.std.specs.Borrow.{Bor}
use Rattle.std.specs.List.{list_any}
use Rattle.std.proofs.lemmas.List.{length_push, length-append, length-drop, length-map, map-append, take_all, take-append-le, drop-append-le}
use Rattle.std.proofs.Math.Seq.{drop-append_seam}
use Rattle.std.proofs.lemmas.List.Folds.{list_any-append}
use Rattle.std.proofs.lemmas.Option.{slice_get_within}
use Rattle.std.proofs.Math.Bool.{or-false}
use Rattle.base_language.specs.Language.Text.{Text}
use Rattle.base_language.specs.Language.Expression.{Expression}
use Rattle.base_language.proofs.Basics.{got_more, got_alike}
use Rattle.base_ast.specs.Ast.{text_of}
use Rattle.base_ast.specs.Optimized.{optimized_expression_of}
use Rattle.base_ast.specs.declared.optimized.OptimizedExpr as code
use Rattle.base_ast.specs.declared.optimized.OptimizedRule.{OptimizedRule}
use Rattle.front_restorer.specs.Bodies.{NamedBody, named_body}
use Rattle.front_restorer.specs.Calls.{name_changes, names_in, number_changes}
use Rattle.front_restorer.specs.Changing.{changes_by, is_changer}
use Rattle.front_restorer.specs.Names.{Numbers, numbers_of}
use Rattle.front_restorer.specs.Summaries.{AreSummariesOf, AreWithin, IsSummaryOf, IsWithin, numbers_if_known, shows}
use Rattle.front_restorer.specs.declared.names.Names.{Names}
use Rattle.front_restorer.specs.declared.summaries.Summaries.{Summaries}
use Rattle.front_restorer.specs.declared.summaries.Summary.{Summary}

-- what is noted of a name, and then of others
pub noted_first : (names : Option (Bor Names)) (n : Text) (ns : List Text) → numbers_if_known names (n ∷ []) ++ numbers_if_known names ns ≡ numbers_if_known names (n ∷ ns)
noted_first (Some names) n ns = refl
noted_first None n ns = refl

module _ (names : Names) (p : ℕ → Bool) where
  abbrev flagged : List Text → Bool
  flagged ns = list_any (number_changes p) (numbers_of names ns)

  both : (a b c d : Bool) (ms ns : List Text) → a ≡ (b || flagged ms) → c ≡ (d || flagged ns) → (a || c) ≡ ((b || d) || flagged (ms ++ ns))
  both a b c d ms ns e f =
      let parts : flagged (ms ++ ns) ≡ (flagged ms || flagged ns) = ap (list_any (number_changes p)) (map-append _ ms ns) ∙ list_any-append (number_changes p) (numbers_of names ms) (numbers_of names ns) in
      ap (λ x. x || c) e ∙ (ap (λ x. (b || flagged ms) || x) f ∙ (shuffled b (flagged ms) d (flagged ns) ∙ ap (λ x. (b || d) || x) (sym parts)))
    where
      shuffled : (a b c d : Bool) → ((a || b) || (c || d)) ≡ ((a || c) || (b || d))
      shuffled true b c d = refl
      shuffled false true true d = refl
      shuffled false true false d = refl
      shuffled false false c d = refl

  -- an expression changes the stack by itself, or names a rule that is flagged
  pub split : (x : code.OptimizedExpr) → changes_by (name_changes names p) (optimized_expression_of x)
      ≡ (changes_by is_changer (optimized_expression_of x) || flagged (names_in (optimized_expression_of x)))
  split (code.Str s) = refl
  split (code.Insens s) = refl
  split (code.Range s t) = refl
  split (code.Ident s) = ap (λ b. is_changer (text_of s) || b) (sym (or-false _))
  split (code.PeekSlice i j) = refl
  split (code.Skip ss) = refl
  split (code.PosPred' p x) = split x
  split (code.NegPred' p x) = split x
  split (code.Seq' p x q y) = both _ _ _ _ (names_in (optimized_expression_of x)) (names_in (optimized_expression_of y)) (split x) (split y)
  split (code.Choice' p x q y) = both _ _ _ _ (names_in (optimized_expression_of x)) (names_in (optimized_expression_of y)) (split x) (split y)
  split (code.Opt' p x) = split x
  split (code.Rep' p x) = split x
  split (code.RepOnce' p x) = split x
  split (code.Push' p x) = refl
  split (code.PushLiteral s) = refl
  split (code.NodeTag' p x t) = split x
  split (code.RestoreOnErr' p x) = refl

  -- what is noted of an expression shows whether it changes the stack
  pub shown : (x : code.OptimizedExpr) (qs : Numbers) (s : Summary) → IsSummaryOf names (optimized_expression_of x) qs s
      → shows qs p s ≡ changes_by (name_changes names p) (optimized_expression_of x)
  shown x qs s h = ap (λ b. b || list_any (number_changes p) (slice_range qs s.start s.end)) h.changes
      ∙ (ap (λ rs. changes_by is_changer (optimized_expression_of x) || list_any (number_changes p) rs) h.numbers ∙ sym (split x))

-- what has been noted stays, where more is noted behind it
range_kept : (qs more : Numbers) (i j : ℕ) → i ≤ j → j ≤ length qs → slice_range (qs ++ more) i j ≡ slice_range qs i j
range_kept qs more i j h k = ap (λ xs. take (j - i) xs) (drop-append-le i qs more (omega arith)) ∙ take-append-le (j - i) (drop i qs) more (let l = length-drop i qs in omega arith)

within_kept : (qs more : Numbers) (s : Summary) → IsWithin qs s → IsWithin (qs ++ more) s
within_kept qs more s h = record { start = h.start; end = (let a = h.end in let l = length-append qs more in omega arith) }

pub kept : (names : Names) (qs new more : Numbers) → new ≡ qs ++ more → (e : Expression) (s : Summary) → IsSummaryOf names e qs s → IsSummaryOf names e new s
kept names qs new more h e s n = subst (λ rs. IsSummaryOf names e rs s) (sym h) (record {
  changes = n.changes;
  within = within_kept qs more s n.within;
  numbers = range_kept qs more s.start s.end n.within.start n.within.end ∙ n.numbers;
})

-- what is noted last
range_last : (qs more : Numbers) → slice_range (qs ++ more) (length qs) (length (qs ++ more)) ≡ more
range_last qs more =
    let d : drop (length qs) (qs ++ more) ≡ more = drop-append_seam qs more in
    ap (λ xs. take (length (qs ++ more) - length qs) xs) d ∙ take_all (length (qs ++ more) - length qs) more (let l = length-append qs more in omega arith)

pub noted_last : (names : Names) (e : Expression) (qs new : Numbers) (s : Summary) → new ≡ qs ++ numbers_of names (names_in e) → s.changes ≡ changes_by is_changer e
    → s.start ≡ length qs → s.end ≡ length new → IsSummaryOf names e new s
noted_last names e qs new s h c i j = record {
  changes = c;
  within = record {
    start = (let l = length-append qs (numbers_of names (names_in e)) in let k = ap (λ xs. length xs) h in omega arith);
    end = omega arith;
  };
  numbers = ap₂ (slice_range new) i j ∙ (ap (λ xs. slice_range xs (length qs) (length xs)) h ∙ range_last qs (numbers_of names (names_in e)));
}

got_mapped : {A B : Type 0} (f : A → B) (xs : List A) (i : ℕ) (x : A) → slice_get xs i ≡ Some x → slice_get (map f xs) i ≡ Some (f x)
got_mapped f [] i x e = cc
got_mapped f (y ∷ xs) zero x e = cc
got_mapped f (y ∷ xs) (suc i) x e = got_mapped f xs i x e

module _ (names : Names) where
  -- one body more is noted
  pub one_more : (bs : List NamedBody) (n m : Summaries) (b : NamedBody) (s : Summary) → AreSummariesOf names bs n → m.shares.items ≡ n.shares.items ++ s ∷ []
      → ((e : Expression) (t : Summary) → IsSummaryOf names e n.numbers.items t → IsSummaryOf names e m.numbers.items t)
      → IsSummaryOf names (optimized_expression_of b.1) m.numbers.items s → AreSummariesOf names (bs ++ b ∷ []) m
  one_more bs n m b s h e keeps f = record {
    alike = (let x = length_push n.shares.items s in let y = length_push bs b in let l = h.alike in let d = ap (λ z. length z) e in omega arith);
    noted = λ i c t at here. go i c t (got_more bs b i c at) (got_more n.shares.items s i t (sym (ap (λ z. slice_get z i) e) ∙ here));
  }
    where
      go : (i : ℕ) (c : NamedBody) (t : Summary) → (slice_get bs i ≡ Some c) ⊎ ((i ≡ length bs) × (b ≡ c)) → (slice_get n.shares.items i ≡ Some t) ⊎ ((i ≡ length n.shares.items) × (s ≡ t))
          → IsSummaryOf names (optimized_expression_of c.1) m.numbers.items t
      go i c t (inl x) (inl y) = keeps (optimized_expression_of c.1) t (h.noted i c t x y)
      go i c t (inr x) (inr y) = subst (IsSummaryOf names (optimized_expression_of c.1) m.numbers.items) y.1 (subst (λ (z : NamedBody). IsSummaryOf names (optimized_expression_of z.1) m.numbers.items s) x.1 f)
      go i c t (inl x) (inr y) = absurd (let a = slice_get_within bs i c x in let l = h.alike in let z = y.0 in omega arith)
      go i c t (inr x) (inl y) = absurd (let a = slice_get_within n.shares.items i t y in let l = h.alike in let z = x.0 in omega arith)

  -- the shares of bodies stand in the list
  pub are_within : (bs : List NamedBody) (n : Summaries) → AreSummariesOf names bs n → AreWithin n
  are_within bs n h i s at = let (b, here) = got_alike n.shares.items bs i s at h.alike in (h.noted i b s here at).within

  -- the share of a body shows whether it changes the stack
  pub shown_at : (bs : List NamedBody) (n : Summaries) (p : ℕ → Bool) (i : ℕ) (b : NamedBody) (s : Summary) → AreSummariesOf names bs n → slice_get bs i ≡ Some b → slice_get n.shares.items i ≡ Some s
      → shows n.numbers.items p s ≡ changes_by (name_changes names p) (optimized_expression_of b.1)
  shown_at bs n p i b s h at here = shown names p b.1 n.numbers.items s (h.noted i b s at here)

  -- what is noted of the body of a rule
  pub noted_at : (rs : List OptimizedRule) (n : Summaries) (i : ℕ) (r : OptimizedRule) (s : Summary) → AreSummariesOf names (map named_body rs) n → slice_get rs i ≡ Some r → slice_get n.shares.items i ≡ Some s
      → IsSummaryOf names (optimized_expression_of r.expr) n.numbers.items s
  noted_at rs n i r s h at here = h.noted i (named_body r) s (got_mapped named_body rs i r at) here

  pub noted_within : (rs : List OptimizedRule) (n : Summaries) (i : ℕ) (r : OptimizedRule) → AreSummariesOf names (map named_body rs) n → slice_get rs i ≡ Some r → i < length n.shares.items
  noted_within rs n i r h at = let a = slice_get_within rs i r at in let l = h.alike in let m = length-map rs named_body in omega arith

-- the next one of a list
pub next_of : {A : Type 0} (xs : List A) (i : ℕ) (x : A) (ys : List A) → drop i xs ≡ x ∷ ys → (slice_get xs i ≡ Some x) × (drop (suc i) xs ≡ ys)
next_of [] zero x ys e = cc
next_of [] (suc i) x ys e = cc
next_of (z ∷ xs) zero x ys e = (cc, cc)
next_of (z ∷ xs) (suc i) x ys e = next_of xs i x ys e
