use Rattle.std.proofs.Common.{ap, refl}
use Rattle.base_ast.specs.Ast.{text_of}
use Rattle.base_language.specs.Language.Expression as bare
use Rattle.front_spanned.specs.Nodes.{view_at}
use Rattle.front_spanned.specs.Spanned as spanned
use Rattle.front_analysis.proofs.shapes.destructure.Goals as goal

pub returns-in-Str : goal.returns-in-Str
returns-in-Str c = (bare.Str (text_of c.in-Str.field-0), tt, (λ t. ap (view_at t) c.in-Str.is))

pub returns-in-Insens : goal.returns-in-Insens
returns-in-Insens c = (bare.Insens (text_of c.in-Insens.field-0), tt, (λ t. ap (view_at t) c.in-Insens.is))

pub returns-in-Range : goal.returns-in-Range
returns-in-Range c = (bare.Range (text_of c.in-Range.field-0) (text_of c.in-Range.field-1), tt, (λ t. ap (view_at t) c.in-Range.is))

pub returns-in-Ident : goal.returns-in-Ident
returns-in-Ident c = (bare.Ident (text_of c.in-Ident.field-0), tt, (λ t. ap (view_at t) c.in-Ident.is))

pub returns-in-PeekSlice : goal.returns-in-PeekSlice
returns-in-PeekSlice c = (bare.PeekSlice c.in-PeekSlice.field-0 c.in-PeekSlice.field-1, tt, (λ t. ap (view_at t) c.in-PeekSlice.is))

pub returns-in-PosPred : goal.returns-in-PosPred
returns-in-PosPred c = (spanned.PosPred, (λ t. rw c.deref.ensures (ap (view_at t) c.in-PosPred.is)), refl)

pub returns-in-NegPred : goal.returns-in-NegPred
returns-in-NegPred c = (spanned.NegPred, (λ t. rw c.deref-in-NegPred.ensures (ap (view_at t) c.in-NegPred.is)), refl)

pub returns-in-Opt : goal.returns-in-Opt
returns-in-Opt c = (spanned.Opt, (λ t. rw c.deref-in-Opt.ensures (ap (view_at t) c.in-Opt.is)), refl)

pub returns-in-Push : goal.returns-in-Push
returns-in-Push c = (spanned.Push, (λ t. rw c.deref-in-Push.ensures (ap (view_at t) c.in-Push.is)), refl)

pub returns-in-Rep : goal.returns-in-Rep
returns-in-Rep c = (spanned.Rep, (λ t. rw c.deref-in-Rep.ensures (ap (view_at t) c.in-Rep.is)), refl)

pub returns-in-RepOnce : goal.returns-in-RepOnce
returns-in-RepOnce c = (spanned.RepOnce, (λ t. rw c.deref-in-RepOnce.ensures (ap (view_at t) c.in-RepOnce.is)), refl)

pub returns-in-RepExact : goal.returns-in-RepExact
returns-in-RepExact c = ((spanned.RepExact c.in-RepExact.count), (λ t. rw c.deref-in-RepExact.ensures (ap (view_at t) c.in-RepExact.is)), refl)

pub returns-in-RepMin : goal.returns-in-RepMin
returns-in-RepMin c = ((spanned.RepMin c.in-RepMin.count), (λ t. rw c.deref-in-RepMin.ensures (ap (view_at t) c.in-RepMin.is)), refl)

pub returns-in-RepMax : goal.returns-in-RepMax
returns-in-RepMax c = ((spanned.RepMax c.in-RepMax.count), (λ t. rw c.deref-in-RepMax.ensures (ap (view_at t) c.in-RepMax.is)), refl)

pub returns-in-RepMinMax : goal.returns-in-RepMinMax
returns-in-RepMinMax c = ((spanned.RepMinMax c.in-RepMinMax.low c.in-RepMinMax.high), (λ t. rw c.deref-in-RepMinMax.ensures (ap (view_at t) c.in-RepMinMax.is)), refl)

pub returns-in-PushLiteral : goal.returns-in-PushLiteral
returns-in-PushLiteral c = (bare.PushLiteral (text_of c.in-PushLiteral.field-0), tt, (λ t. ap (view_at t) c.in-PushLiteral.is))

pub returns-in-NodeTag : goal.returns-in-NodeTag
returns-in-NodeTag c = (spanned.Tag (text_of c.in-NodeTag.field-1), (λ t. rw c.deref-in-NodeTag.ensures (ap (view_at t) c.in-NodeTag.is)), refl)
