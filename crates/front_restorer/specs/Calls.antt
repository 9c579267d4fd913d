-- The names that occur in expressions, and the rules that they mean.
use Rattle.std.specs.Prelude.{◌≡◌, ⊤, ℕ, ◌+◌, List, [], ◌∷◌, ◌++◌, Option, Some, None, Bool, false, ◌||◌, slice_get, length}
use Rattle.base_language.specs.Language.Text.{Text}
use Rattle.base_language.specs.Language.Expression.{Expression, Ident, PosPred, NegPred, Seq, Choice, Opt, Rep, RepOnce, Push, NodeTag}
use Rattle.front_restorer.specs.Changing.{is_changer}
use Rattle.front_restorer.specs.Names.{Numbers, number_of}
use Rattle.front_restorer.specs.declared.names.Names.{Names}

abbrev pub number_changes : (ℕ → Bool) → Option ℕ → Bool
number_changes p None = false
number_changes p (Some i) = p i

-- whether a name is that of a builtin that changes the stack, or of a rule that does
abbrev pub name_changes : Names → (ℕ → Bool) → Text → Bool
name_changes names p n = is_changer n || number_changes p (number_of names n)

-- the names that occur in an expression, not below a wrapper, in order
abbrev pub names_in : Expression → List Text
names_in (Ident n) = n ∷ []
names_in (PosPred e) = names_in e
names_in (NegPred e) = names_in e
names_in (Push e) = names_in e
names_in (NodeTag e t) = names_in e
names_in (Seq a b) = names_in a ++ names_in b
names_in (Choice a b) = names_in a ++ names_in b
names_in (Opt e) = names_in e
names_in (Rep e) = names_in e
names_in (RepOnce e) = names_in e
names_in _ = []

-- the numbers from an index on are those of the names that occur in an expression
abbrev pub AreNumbersOf : Names → Numbers → Expression → ℕ → Type 0
AreNumbersOf names qs (Ident n) i = slice_get qs i ≡ Some (number_of names n)
AreNumbersOf names qs (PosPred e) i = AreNumbersOf names qs e i
AreNumbersOf names qs (NegPred e) i = AreNumbersOf names qs e i
AreNumbersOf names qs (Push e) i = AreNumbersOf names qs e i
AreNumbersOf names qs (NodeTag e t) i = AreNumbersOf names qs e i
AreNumbersOf names qs (Seq a b) i = AreNumbersOf names qs a i
    × AreNumbersOf names qs b (i + length (names_in a))
AreNumbersOf names qs (Choice a b) i = AreNumbersOf names qs a i
    × AreNumbersOf names qs b (i + length (names_in a))
AreNumbersOf names qs (Opt e) i = AreNumbersOf names qs e i
AreNumbersOf names qs (Rep e) i = AreNumbersOf names qs e i
AreNumbersOf names qs (RepOnce e) i = AreNumbersOf names qs e i
AreNumbersOf names qs _ i = ⊤
