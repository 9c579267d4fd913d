-- Expressions whose names are texts of strings.
use Rattle.std.proofs.Common.{◌≡◌, Bool, true, false, if◌then◌else◌, refl, String, Global}
use Rattle.base_language.specs.Language.Text.{Text}
use Rattle.base_language.specs.Language.Expression.{Expression, Ident, PosPred, NegPred, Seq, Choice, Opt, Rep, RepOnce, RepExact, RepMin, RepMax, RepMinMax, Push, RestoreOnErr, NodeTag}
use Rattle.base_ast.specs.Ast.{text_of}
use Rattle.base_ast.specs.Optimized.{optimized_expression_of}
use Rattle.base_ast.specs.declared.optimized.OptimizedExpr as code
use Rattle.front_restorer.specs.Changing.{changes_by, wrapped_by, restored_by}

abbrev pub IsSaid : Expression → Type 0
IsSaid (Ident n) = (s : String Global) × (n ≡ text_of s)
IsSaid (PosPred e) = IsSaid e
IsSaid (NegPred e) = IsSaid e
IsSaid (Seq a b) = IsSaid a × IsSaid b
IsSaid (Choice a b) = IsSaid a × IsSaid b
IsSaid (Opt e) = IsSaid e
IsSaid (Rep e) = IsSaid e
IsSaid (RepOnce e) = IsSaid e
IsSaid (RepExact e i) = IsSaid e
IsSaid (RepMin e i) = IsSaid e
IsSaid (RepMax e i) = IsSaid e
IsSaid (RepMinMax e i j) = IsSaid e
IsSaid (Push e) = IsSaid e
IsSaid (NodeTag e t) = IsSaid e
IsSaid (RestoreOnErr e) = IsSaid e
IsSaid _ = Unit {0}

pub said : (x : code.OptimizedExpr) → IsSaid (optimized_expression_of x)
said (code.Str s) = tt
said (code.Insens s) = tt
said (code.Range s t) = tt
said (code.Ident s) = (s, refl)
said (code.PeekSlice i j) = tt
said (code.Skip ss) = tt
said (code.PosPred' p x) = said x
said (code.NegPred' p x) = said x
said (code.Seq' p x q y) = (said x, said y)
said (code.Choice' p x q y) = (said x, said y)
said (code.Opt' p x) = said x
said (code.Rep' p x) = said x
said (code.RepOnce' p x) = said x
said (code.Push' p x) = said x
said (code.PushLiteral s) = tt
said (code.NodeTag' p x t) = said x
said (code.RestoreOnErr' p x) = said x

module _ (p : Text → Bool) where
  wrapped_said : (e : Expression) → IsSaid e → IsSaid (wrapped_by p e)
  wrapped_said e h = go (changes_by p e)
    where
      go : (b : Bool) → IsSaid (if b then RestoreOnErr e else e)
      go true = h
      go false = h

  -- what is restored calls by the same names
  pub restored_said : (e : Expression) → IsSaid e → IsSaid (restored_by p e)
  restored_said (PosPred e) h = restored_said e h
  restored_said (NegPred e) h = restored_said e h
  restored_said (Push e) h = restored_said e h
  restored_said (NodeTag e t) h = restored_said e h
  restored_said (Seq a b) h = (restored_said a h.0, restored_said b h.1)
  restored_said (Choice a b) h = (wrapped_said (restored_by p a) (restored_said a h.0), wrapped_said (restored_by p b) (restored_said b h.1))
  restored_said (Opt e) h = wrapped_said (restored_by p e) (restored_said e h)
  restored_said (Rep e) h = wrapped_said (restored_by p e) (restored_said e h)
  restored_said (RepOnce e) h = wrapped_said (restored_by p e) (restored_said e h)
  restored_said _ h = h
