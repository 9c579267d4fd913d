-- Flags that tell which nodes lead to a call of a rule.
use Rattle.std.proofs.Common.{◌≡◌, ◌↔◌, ℕ, inl, inr, List, Option, Some, None, Bool, true, nat_eq, slice_get, refl, sym, ◌∙◌, ap}
use Rattle.std.specs.Cmp.{unsigned_Decides}
use Rattle.std.proofs.lemmas.Bool.{or_cases, or_left, or_right}
use Rattle.front_spanned.specs.Spanned.{Unary, PosPred, NegPred, Opt, Rep, RepOnce, RepExact, RepMin, RepMax, RepMinMax, Push, Tag, Binary, Seq, Choice}
use Rattle.base_graphs.specs.Least.{follows, is_set_at}
use Rattle.front_analysis.specs.Shapes.{sign_of, joint_of}
use Rattle.front_stack_loops.specs.Answers.{answer, at_place, leading, some_part, Holds, AreSound, AreClosed}
use Rattle.front_stack_loops.specs.Leading.{IsOperandOf, LeadsToCall, to_call, by_body, by_operand, LeadsBack}
use Rattle.front_stack_loops.specs.Kinds.{wrap_kind, both_kind}
use Rattle.front_stack_loops.specs.Table.{called_by, parts_of}
use Rattle.front_stack_loops.specs.declared.facts.Question.TheVariants as asks
use Rattle.front_stack_loops.specs.declared.table.NodeKind.{NodeKind}
use Rattle.front_stack_loops.specs.declared.table.NodeKind.TheVariants as is
use Rattle.front_stack_loops.specs.declared.table.PassNode.{PassNode}
use Rattle.front_stack_loops.specs.declared.table.Parts.{Parts}
use Rattle.front_stack_loops.specs.declared.table.Parts.TheVariants as parts

pub call_kind : (k : NodeKind) (r : ℕ) → called_by k ≡ Some r → k ≡ is.Call r
call_kind (is.Call s) r h = cc
call_kind is.Still r h = cc
call_kind is.Leaf r h = cc
call_kind is.Peek r h = cc
call_kind is.Pop r h = cc
call_kind is.Drop r h = cc
call_kind is.PeekAll r h = cc
call_kind is.PopAll r h = cc
call_kind (is.PushLiteral b) r h = cc
call_kind (is.PosPred j) r h = cc
call_kind (is.NegPred j) r h = cc
call_kind (is.Opt j) r h = cc
call_kind (is.Push j) r h = cc
call_kind (is.Tag j) r h = cc
call_kind (is.Seq j k) r h = cc
call_kind (is.Choice j k) r h = cc
call_kind (is.Repeat j required optional endless) r h = cc

-- a node with operands calls nothing itself
pub no_call : (k : NodeKind) (j : ℕ) → IsOperandOf j (parts_of k) → called_by k ≡ None
no_call (is.Call s) j h = absurd h
no_call is.Still j h = refl
no_call is.Leaf j h = refl
no_call is.Peek j h = refl
no_call is.Pop j h = refl
no_call is.Drop j h = refl
no_call is.PeekAll j h = refl
no_call is.PopAll j h = refl
no_call (is.PushLiteral b) j h = refl
no_call (is.PosPred i) j h = refl
no_call (is.NegPred i) j h = refl
no_call (is.Opt i) j h = refl
no_call (is.Push i) j h = refl
no_call (is.Tag i) j h = refl
no_call (is.Seq i k) j h = refl
no_call (is.Choice i k) j h = refl
no_call (is.Repeat i required optional endless) j h = refl

pub set_place : (p : ℕ → Bool) (o : Option ℕ) → at_place p o ≡ true → (j : ℕ) × (o ≡ Some j) × (p j ≡ true)
set_place p None h = cc
set_place p (Some j) h = (j, refl, h)

set_part : (p : ℕ → Bool) (ps : Parts) → some_part p ps ≡ true → (j : ℕ) × IsOperandOf j ps × (p j ≡ true)
set_part p parts.Nothing h = cc
set_part p (parts.Inside j required optional endless) h = (j, refl, h)
set_part p (parts.Both j k choice) h = elim (or_cases (p j) (p k) h) [ inl a ↦ (j, inl refl, a) | inr b ↦ (k, inr refl, b) ]

part_set : (p : ℕ → Bool) (ps : Parts) (j : ℕ) → IsOperandOf j ps → p j ≡ true → some_part p ps ≡ true
part_set p parts.Nothing j h e = absurd h
part_set p (parts.Inside k required optional endless) j h e = ap p (sym h) ∙ e
part_set p (parts.Both k l choice) j (inl h) e = or_left (p k) (p l) (ap p (sym h) ∙ e)
part_set p (parts.Both k l choice) j (inr h) e = or_right (p k) (p l) (ap p (sym h) ∙ e)

-- the operands of nodes
pub wrap_operand : (j : ℕ) (f : Unary) → IsOperandOf j (parts_of (wrap_kind (sign_of f) j))
wrap_operand j PosPred = refl
wrap_operand j NegPred = refl
wrap_operand j Opt = refl
wrap_operand j Push = refl
wrap_operand j (Tag t) = refl
wrap_operand j Rep = refl
wrap_operand j RepOnce = refl
wrap_operand j (RepExact n) = refl
wrap_operand j (RepMin n) = refl
wrap_operand j (RepMax n) = refl
wrap_operand j (RepMinMax m n) = refl

pub both_operands : (j k : ℕ) (f : Binary) → IsOperandOf j (parts_of (both_kind (joint_of f) j k)) × IsOperandOf k (parts_of (both_kind (joint_of f) j k))
both_operands j k Seq = (inl refl, inr refl)
both_operands j k Choice = (inl refl, inr refl)

module _ (ns : List PassNode) (roots : List ℕ) (r : ℕ) where
  lead_on : (p : ℕ → Bool) (i : ℕ) (n : PassNode) → slice_get ns i ≡ Some n → ((j : ℕ) → p j ≡ true → LeadsToCall ns roots j r) → (o : Option ℕ) → called_by n.kind ≡ o
      → leading roots p r o (parts_of n.kind) ≡ true → LeadsToCall ns roots i r
  lead_on p i n at g None e h = let (j, o, f) = set_part p (parts_of n.kind) h in by_operand at o (g j f)
  lead_on p i n at g (Some s) e h = elim (or_cases (nat_eq s r) (at_place p (slice_get roots s)) h) [
    | inl f ↦ to_call at (call_kind n.kind s e ∙ ap is.Call ((unsigned_Decides s r).0 f))
    | inr f ↦ let (j, root, on) = set_place p (slice_get roots s) f in by_body at (call_kind n.kind s e) root (g j on)
  ]

  -- what the least answer says
  pub holds_leads : {i : ℕ} → Holds (asks.LeadsTo r) ns roots i → LeadsToCall ns roots i r
  holds_leads (follows {i = i} {a = n} p at f g) = lead_on p i n at (λ j h. holds_leads (g j h)) (called_by n.kind) refl f

  module _ (flags : List Bool) (closed : AreClosed (asks.LeadsTo r) ns roots flags) where
    by_calling : (n : PassNode) (o : Option ℕ) → called_by n.kind ≡ o → leading roots (is_set_at flags) r o (parts_of n.kind) ≡ true → answer (asks.LeadsTo r) roots (is_set_at flags) n ≡ true
    by_calling n o e h = ap (λ q. leading roots (is_set_at flags) r q (parts_of n.kind)) e ∙ h

    -- all that lead there are told, where the flags are closed
    pub leads_set : {i s : ℕ} → LeadsToCall ns roots i s → s ≡ r → is_set_at flags i ≡ true
    leads_set (to_call {i = i} {r = s} {n = n} at k) e =
        closed i n at (by_calling n (Some s) (ap called_by k) (or_left (nat_eq s r) (at_place (is_set_at flags) (slice_get roots s)) ((unsigned_Decides s r).1 e)))
    leads_set (by_body {i = i} {j = j} {r = q} {n = n} at k root l) e =
        closed i n at (by_calling n (Some q) (ap called_by k) (or_right (nat_eq q r) (at_place (is_set_at flags) (slice_get roots q)) (ap (at_place (is_set_at flags)) root ∙ leads_set l e)))
    leads_set (by_operand {i = i} {j = j} {n = n} at o l) e =
        closed i n at (by_calling n None (no_call n.kind j o) (part_set (is_set_at flags) (parts_of n.kind) j o (leads_set l e)))

-- the flag of a body tells whether its rule reaches itself
pub back_told : (ns : List PassNode) (roots : List ℕ) (r : ℕ) (flags : List Bool) → AreSound (asks.LeadsTo r) ns roots flags → AreClosed (asks.LeadsTo r) ns roots flags
    → (at_place (is_set_at flags) (slice_get roots r) ≡ true) ↔ LeadsBack ns roots r
back_told ns roots r flags sound closed = (
  (λ h. let (j, root, f) = set_place (is_set_at flags) (slice_get roots r) h in (j, root, holds_leads ns roots r (sound.right j f))),
  (λ h. ap (at_place (is_set_at flags)) h.1 ∙ leads_set ns roots r flags closed h.2 refl),
)
