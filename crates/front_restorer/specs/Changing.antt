-- Expressions that change the stack, and restored ones, given the names that change the stack.
use Rattle.std.specs.Prelude.{◌≡◌, ⊤, Bool, true, false, ◌||◌, if◌then◌else◌, bytes_eq, codes}
use Rattle.base_language.specs.Language.Text.{Text}
use Rattle.base_language.specs.Language.Expression.{Expression, Ident, PosPred, NegPred, Seq, Choice, Opt, Rep, RepOnce, RepExact, RepMin, RepMax, RepMinMax, Push, PushLiteral, RestoreOnErr, Part, NodeTag}

-- the builtins that count as changing the stack
abbrev pub is_changer : Text → Bool
is_changer n = bytes_eq n (codes "POP") || (bytes_eq n (codes "POP_ALL") || bytes_eq n (codes "DROP"))

-- whether an expression changes the stack, not below a wrapper
abbrev pub changes_by : (Text → Bool) → Expression → Bool
changes_by p (Ident n) = p n
changes_by p (Push e) = true
changes_by p (PushLiteral t) = true
changes_by p (NodeTag e t) = changes_by p e
changes_by p (PosPred e) = changes_by p e
changes_by p (NegPred e) = changes_by p e
changes_by p (Seq a b) = changes_by p a || changes_by p b
changes_by p (Choice a b) = changes_by p a || changes_by p b
changes_by p (Opt e) = changes_by p e
changes_by p (Rep e) = changes_by p e
changes_by p (RepOnce e) = changes_by p e
changes_by p (RepExact e i) = changes_by p e
changes_by p (RepMin e i) = changes_by p e
changes_by p (RepMax e i) = changes_by p e
changes_by p (RepMinMax e i j) = changes_by p e
changes_by p _ = false

-- the answer whether an expression changes the stack is right
abbrev pub IsRightAbout : (Text → Bool) → Bool → Expression → Type 0
IsRightAbout p b e = b ≡ changes_by p e

-- an expression, in a wrapper if the expression changes the stack
abbrev pub wrapped_by : (Text → Bool) → Expression → Expression
wrapped_by p e = if changes_by p e then RestoreOnErr e else e

-- from the inside out, operands of `?`, `*` and `+` and both sides of `|` are wrapped
abbrev pub restored_by : (Text → Bool) → Expression → Expression
restored_by p (PosPred e) = PosPred (restored_by p e)
restored_by p (NegPred e) = NegPred (restored_by p e)
restored_by p (Push e) = Push (restored_by p e)
restored_by p (NodeTag e t) = NodeTag (restored_by p e) t
restored_by p (Seq a b) = Seq (restored_by p a) (restored_by p b)
restored_by p (Choice a b) = Choice (wrapped_by p (restored_by p a)) (wrapped_by p (restored_by p b))
restored_by p (Opt e) = Opt (wrapped_by p (restored_by p e))
restored_by p (Rep e) = Rep (wrapped_by p (restored_by p e))
restored_by p (RepOnce e) = RepOnce (wrapped_by p (restored_by p e))
restored_by p e = e

-- no `~` and no `|`
abbrev pub IsNoPair : Expression → Type 0
IsNoPair (Seq a b) = ⊥
IsNoPair (Choice a b) = ⊥
IsNoPair _ = ⊤

-- no part is a wrapper
abbrev pub HasNoWrappers : Expression → Type 0
HasNoWrappers e = (x : Expression) → Part e (RestoreOnErr x) → ⊥

-- every wrapper of the first occurs in the second, with all below it
abbrev pub KeepsWrappers : Expression → Expression → Type 0
KeepsWrappers a b = (x : Expression) → Part a (RestoreOnErr x) → Part b (RestoreOnErr x)
