-- The numbers of names that are read on from a place, where more stands around what is at hand.
use Rattle.std.proofs.Common.{◌≡◌, ℕ, ◌+◌, List, [], ◌∷◌, ◌++◌, length, refl, sym, ◌∙◌, ap, subst, arith, append_assoc}
use Rattle.std.proofs.lemmas.List.{append-nil, length-append}
use Rattle.base_language.specs.Language.Text.{Text}
use Rattle.base_language.specs.Language.Expression.{Expression, Ident, PosPred, NegPred, Seq, Choice, Opt, Rep, RepOnce, Push, NodeTag}
use Rattle.base_ast.specs.Rebuilding.{filled}
use Rattle.base_ast.specs.declared.optimized.OptimizedExpr.{OptimizedExpr}
use Rattle.base_ast.specs.declared.rebuilt.Step.{Step}
use Rattle.base_ast.specs.declared.rebuilt.Step.TheVariants as is
use Rattle.base_ast.proofs.Rebuilding.{filled-last, same_outside}
use Rattle.front_restorer.specs.Frames.{names_around, names_beside, names_left, names_to_meet}
use Rattle.front_restorer.specs.Calls.{names_in}
use Rattle.front_restorer.specs.KnownChanges.{AreNumbers, IsNext, HasNumbersFrom, ReadsOn}
use Rattle.front_restorer.specs.declared.frames.RestorerFrame.{RestorerFrame}
use Rattle.front_restorer.specs.declared.frames.RestoredExpr.{RestoredExpr}
use Rattle.front_restorer.specs.declared.frames.FrameOperator.{FrameOperator}
use Rattle.front_restorer.specs.declared.frames.FrameOperator.TheVariants as sign
use Rattle.front_restorer.specs.declared.changes.Changes.{Changes}

-- names beside others stand behind them
beside-append : (s : FrameOperator) (ns ms : List Text) → names_beside s (ns ++ ms) ≡ ns ++ names_beside s ms
beside-append (sign.FirstOfSeq right) ns ms = append_assoc ns ms _
beside-append (sign.FirstOfChoice right) ns ms = append_assoc ns ms _
beside-append _ ns ms = refl

around-append : (os : List RestorerFrame) (ns : List Text) → filled names_around os ns ≡ ns ++ filled names_around os []
around-append [] ns = sym (append-nil ns)
around-append (a ∷ os) ns = ap (names_around a) (around-append os ns) ∙ beside-append a.sign ns (filled names_around os [])

module _ (c : Changes) where
  numbers_to : (ns ms : List Text) (i j k : ℕ) → AreNumbers c ns i j → AreNumbers c ms j k → AreNumbers c (ns ++ ms) i k
  numbers_to [] ms i j k h f = subst (λ n. AreNumbers c ms n k) (sym h) f
  numbers_to (n ∷ ns) ms i j k h f = (h.0, numbers_to ns ms (i + 1) j k h.1 f)

  both : (a b : Expression) (i : ℕ) → AreNumbers c (names_in a) i (i + length (names_in a))
      → AreNumbers c (names_in b) (i + length (names_in a)) (i + length (names_in a) + length (names_in b))
      → AreNumbers c (names_in a ++ names_in b) i (i + length (names_in a ++ names_in b))
  both a b i h f =
      let end : i + length (names_in a) + length (names_in b) ≡ i + length (names_in a ++ names_in b) = omega (arith, length-append (names_in a) (names_in b)) in
      subst (AreNumbers c (names_in a ++ names_in b) i) end (numbers_to (names_in a) (names_in b) i (i + length (names_in a)) (i + length (names_in a) + length (names_in b)) h f)

  none : (i : ℕ) → AreNumbers c [] i (i + 0)
  none i = omega arith

  -- what is noted of an expression from a place on are the numbers of its names
  pub numbers_from : (e : Expression) (i : ℕ) → HasNumbersFrom c e i → AreNumbers c (names_in e) i (i + length (names_in e))
  numbers_from (Ident n) i h = (h, refl)
  numbers_from (PosPred e) i h = numbers_from e i h
  numbers_from (NegPred e) i h = numbers_from e i h
  numbers_from (Push e) i h = numbers_from e i h
  numbers_from (NodeTag e t) i h = numbers_from e i h
  numbers_from (Opt e) i h = numbers_from e i h
  numbers_from (Rep e) i h = numbers_from e i h
  numbers_from (RepOnce e) i h = numbers_from e i h
  numbers_from (Seq a b) i h = both a b i (numbers_from a i h.0) (numbers_from b (i + length (names_in a)) h.1)
  numbers_from (Choice a b) i h = both a b i (numbers_from a i h.0) (numbers_from b (i + length (names_in a)) h.1)
  numbers_from _ i h = none i

  -- what stands first is noted at the place
  pub next_of : (ns ms : List Text) (i k : ℕ) → AreNumbers c (ns ++ ms) i k → IsNext c ns i
  next_of [] ms i k h = tt
  next_of (n ∷ ns) ms i k h = h.0

  pub next_around : (os : List RestorerFrame) (ns : List Text) (i k : ℕ) → AreNumbers c (filled names_around os ns) i k → IsNext c ns i
  next_around os ns i k h = next_of ns (filled names_around os []) i k (subst (λ ms. AreNumbers c ms i k) (around-append os ns) h)

  -- names are read on, whatever stands around them
  pub on_around : (os : List RestorerFrame) (ns ms : List Text) (i j k : ℕ) → ReadsOn c ns i ms j → AreNumbers c (filled names_around os ns) i k → AreNumbers c (filled names_around os ms) j k
  on_around os ns ms i j k r h =
      subst (λ xs. AreNumbers c xs j k) (sym (around-append os ms)) (r (filled names_around os []) k (subst (λ xs. AreNumbers c xs i k) (around-append os ns) h))

  -- an operand is gone into
  pub into : (step : Step OptimizedExpr RestorerFrame RestoredExpr) (os ns : List RestorerFrame) (a : RestorerFrame) (x : OptimizedExpr) (i k : ℕ) → step ≡ is.Inside a x → ns ≡ os ++ (a ∷ [])
      → AreNumbers c (filled names_around os (names_left step)) i k → AreNumbers c (filled names_around ns (names_to_meet x)) i k
  into step os ns a x i k h g n =
      let same : filled names_around os (names_left step) ≡ filled names_around ns (names_to_meet x)
      = ap (λ s. filled names_around os (names_left s)) h
      ∙ (sym (filled-last names_around os a (names_to_meet x)) ∙ ap (λ xs. filled names_around xs (names_to_meet x)) (sym g)) in
      subst (λ xs. AreNumbers c xs i k) same n

  -- an operand is restored
  pub out : (step next : Step OptimizedExpr RestorerFrame RestoredExpr) (os ns : List RestorerFrame) (a : RestorerFrame) (r : RestoredExpr) (i k : ℕ) → step ≡ is.Made r → os ≡ ns ++ (a ∷ []) → names_left next ≡ names_around a []
      → AreNumbers c (filled names_around os (names_left step)) i k → AreNumbers c (filled names_around ns (names_left next)) i k
  out step next os ns a r i k h g e n =
      let same : filled names_around ns (names_left next) ≡ filled names_around os (names_left step)
      = same_outside names_to_meet (λ q. []) names_around step next os ns a r (filled names_around os (names_left step)) h g e refl in
      subst (λ xs. AreNumbers c xs i k) (sym same) n
