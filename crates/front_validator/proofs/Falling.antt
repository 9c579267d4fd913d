-- Where numbers fall along left calls, no left call comes back.
use Rattle.std.proofs.Common.{◌≡◌, ℕ, ◌+◌, ◌<◌, List, Option, Some, Bool, true, false, if◌then◌else◌, slice_get, nat_eq, sym, ◌∙◌, subst, arith}
use Rattle.base_language.specs.Language.Text.{Text}
use Rattle.base_language.specs.Language.Expression.{Expression, Rule, Grammar, rule_of, last_place}
use Rattle.base_language.specs.Language.WellFormed.{LeftCalls, left_name, left_first, left_second, left_pos_pred, left_neg_pred, left_left, left_right, left_opt, left_rep, left_rep_once, left_rep_exact, left_rep_min, left_rep_max, left_rep_min_max, left_push, left_restore, Leads, at_once, by_way, left_tag}
use Rattle.base_language.proofs.Basics.{got_alike}
use Rattle.front_spanned.specs.Nodes.{view}
use Rattle.front_spanned.specs.declared.node.ParserRule.{ParserRule}
use Rattle.front_analysis.specs.Names.{grammar_of, rule_said, is_end}
use Rattle.front_analysis.specs.NameKinds.{kind_in, name_kind}
use Rattle.front_analysis.specs.Kinds.{Represents, counted, repeated, wrap_kind}
use Rattle.front_analysis.specs.Facts.{AreFacts}
use Rattle.front_validator.specs.Cycles.{rank_at, Falls, AllFall, NoneRises, FallsFrom}
use Rattle.front_analysis.specs.declared.facts.Facts.{Facts}
use Rattle.front_analysis.specs.declared.kind_table.NodeKind.{NodeKind}
use Rattle.front_analysis.specs.declared.kinds.Wrap.TheVariants as wraps
use Rattle.front_analysis.proofs.Tying.{says}
use Rattle.front_analysis.proofs.Resolved.{Named, absent, named, resolved}
use Rattle.front_analysis.proofs.Answering.{same_rule, no_rule}

pub data Root (rules : List ParserRule) (facts : Facts) (n : Text) : Option ℕ → ℕ → Type 0 where
  root : {r j : ℕ} (rule : ParserRule) → rule_of (grammar_of rules) n ≡ Some (rule_said rule) → slice_get facts.table.roots.items r ≡ Some j → Represents (kind_in (grammar_of rules)) facts.table.kinds.items j (rule_said rule).body → Root rules facts n (Some r) j

-- `bound n` is the number below which those have to be to which the left calls of a node of the number n lead
module _ (rules : List ParserRule) (facts : Facts) (order : List ℕ) (right : AreFacts rules facts) (bound : ℕ → ℕ) (carry : (a m b : ℕ) → a < bound m → m < b → a < b)
    (fall : (i : ℕ) (k : NodeKind) → slice_get facts.table.kinds.items i ≡ Some k → Falls facts order (bound (rank_at order i)) k) where
  abbrev G : Grammar
  G = grammar_of rules

  abbrev Lies : ℕ → Expression → Type 0
  Lies i e = Represents (kind_in G) facts.table.kinds.items i e

  -- the left calls of this node lead below b
  abbrev FallsAt : ℕ → ℕ → Type 0
  FallsAt i b = (k : NodeKind) → slice_get facts.table.kinds.items i ≡ Some k → Falls facts order b k

  -- the body of the rule of a name
  abbrev IsRoot : Text → ℕ → Type 0
  IsRoot n j = Root rules facts n (last_place G n) j

  pub has_root : (n : Text) (r : Rule) → rule_of G n ≡ Some r → (j : ℕ) × IsRoot n j
  has_root n r e = go (last_place G n) (resolved rules n)
    where
      go : (o : Option ℕ) → Named rules n o → (j : ℕ) × Root rules facts n o j
      go o (absent h) = absurd (no_rule (sym h ∙ e))
      go o (named {r = k} rule at h) = let (j, got) = got_alike rules facts.table.roots.items k rule at (sym right.table.alike) in
          (j, root rule h got (says (kind_in G) facts.table.kinds.items j (view rule.node) (right.table.stand k j rule at got)))

  pub body_lies : (n : Text) (o : Option ℕ) (j : ℕ) (r : Rule) → rule_of G n ≡ Some r → Root rules facts n o j → Lies j r.body
  body_lies n o j r e (root rule h got lies) = subst (λ z. Lies j z.body) (same_rule h e) lies

  name_falls : (n : Text) (o : Option ℕ) (b j : ℕ) → Root rules facts n o j → (e : Bool) → Falls facts order b (name_kind e o) → rank_at order j < b
  name_falls n o b j (root rule h got lies) true f = f j got
  name_falls n o b j (root rule h got lies) false f = f j got

  counted_falls : (b j n : ℕ) → Falls facts order b (wrap_kind (counted n) j) → rank_at order j < b
  counted_falls b j n f = go (nat_eq n 0) f
    where
      go : (z : Bool) → Falls facts order b (wrap_kind (if z then wraps.Free else wraps.Inside) j) → rank_at order j < b
      go true f = f
      go false f = f

  repeated_falls : (b j n : ℕ) → Falls facts order b (wrap_kind (repeated n) j) → rank_at order j < b
  repeated_falls b j n f = go (nat_eq n 0) f
    where
      go : (z : Bool) → Falls facts order b (wrap_kind (if z then wraps.Again else wraps.OnceAgain) j) → rank_at order j < b
      go true f = f
      go false f = f

  down : (b j k : ℕ) → rank_at order k < bound (rank_at order j) → rank_at order j < b → rank_at order k < b
  down b j k g h = carry (rank_at order k) (rank_at order j) b g h

  left_falls : {e : Expression} {n : Text} → LeftCalls G e n → (i : ℕ) → Lies i e → (b : ℕ) → FallsAt i b → (j : ℕ) → IsRoot n j → rank_at order j < b
  left_falls (left_name {n = n}) i s b f j r = name_falls n (last_place G n) b j r (is_end n) (f _ s)
  left_falls (left_first l) i s b f j r = down b s.0 j (left_falls l s.0 s.5 (bound (rank_at order s.0)) (fall s.0) j r) (f _ s.4).0
  left_falls (left_second d l) i s b f j r = down b s.1 j (left_falls l s.1 s.6 (bound (rank_at order s.1)) (fall s.1) j r) ((f _ s.4).1 ((right.nullable s.0 _ s.5).1 d))
  left_falls (left_left l) i s b f j r = down b s.0 j (left_falls l s.0 s.5 (bound (rank_at order s.0)) (fall s.0) j r) (f _ s.4).0
  left_falls (left_right l) i s b f j r = down b s.1 j (left_falls l s.1 s.6 (bound (rank_at order s.1)) (fall s.1) j r) (f _ s.4).1
  left_falls (left_pos_pred l) i s b f j r = down b s.0 j (left_falls l s.0 s.3 (bound (rank_at order s.0)) (fall s.0) j r) (f _ s.2)
  left_falls (left_neg_pred l) i s b f j r = down b s.0 j (left_falls l s.0 s.3 (bound (rank_at order s.0)) (fall s.0) j r) (f _ s.2)
  left_falls (left_opt l) i s b f j r = down b s.0 j (left_falls l s.0 s.3 (bound (rank_at order s.0)) (fall s.0) j r) (f _ s.2)
  left_falls (left_rep l) i s b f j r = down b s.0 j (left_falls l s.0 s.3 (bound (rank_at order s.0)) (fall s.0) j r) (f _ s.2)
  left_falls (left_rep_once l) i s b f j r = down b s.0 j (left_falls l s.0 s.3 (bound (rank_at order s.0)) (fall s.0) j r) (f _ s.2)
  left_falls (left_rep_max l) i s b f j r = down b s.0 j (left_falls l s.0 s.3 (bound (rank_at order s.0)) (fall s.0) j r) (f _ s.2)
  left_falls (left_push l) i s b f j r = down b s.0 j (left_falls l s.0 s.3 (bound (rank_at order s.0)) (fall s.0) j r) (f _ s.2)
  left_falls (left_tag l) i s b f j r = down b s.0 j (left_falls l s.0 s.3 (bound (rank_at order s.0)) (fall s.0) j r) (f _ s.2)
  left_falls (left_rep_exact {i = n} l) i s b f j r = down b s.0 j (left_falls l s.0 s.3 (bound (rank_at order s.0)) (fall s.0) j r) (counted_falls b s.0 n (f _ s.2))
  left_falls (left_rep_min {i = n} l) i s b f j r = down b s.0 j (left_falls l s.0 s.3 (bound (rank_at order s.0)) (fall s.0) j r) (repeated_falls b s.0 n (f _ s.2))
  left_falls (left_rep_min_max {i = n} l) i s b f j r = down b s.0 j (left_falls l s.0 s.3 (bound (rank_at order s.0)) (fall s.0) j r) (counted_falls b s.0 n (f _ s.2))
  left_falls (left_restore l) i s b f j r = absurd s

  begins_at : {n k : Text} → Leads G n k → (r : Rule) × (rule_of G n ≡ Some r)
  begins_at (at_once {r = r} e w) = (r, e)
  begins_at (by_way a b) = begins_at a

  leads_fall : {n k : Text} → Leads G n k → (i : ℕ) → IsRoot n i → (b : ℕ) → FallsAt i b → (j : ℕ) → IsRoot k j → rank_at order j < b
  leads_fall (at_once {n = n} {r = r} e l) i h b f j g = left_falls l i (body_lies n (last_place G n) i r e h) b f j g
  leads_fall (by_way {j = m} x y) i h b f j g = let (r, e) = begins_at y in let (k, z) = has_root m r e in
      down b k j (leads_fall y k z (bound (rank_at order k)) (fall k) j g) (leads_fall x i h b f k z)

  never : (a : ℕ) → a < a → ⊥
  never a h = omega arith

  -- none comes back to a rule at whose left calls the numbers fall
  pub no_cycle_of : (n : Text) → ((i : ℕ) → IsRoot n i → FallsAt i (rank_at order i)) → Leads G n n → ⊥
  no_cycle_of n f l = let (r, e) = begins_at l in let (i, h) = has_root n r e in never (rank_at order i) (leads_fall l i h (rank_at order i) (f i h) i h)

pub no_cycle : (rules : List ParserRule) (facts : Facts) (order : List ℕ) → AreFacts rules facts → AllFall facts order → (n : Text) → Leads (grammar_of rules) n n → ⊥
no_cycle rules facts order right fall n l = no_cycle_of rules facts order right (λ m. m) (λ a m b h k. below a m b h k) fall n (λ i h k e. fall i k e) l
  where
    below : (a m b : ℕ) → a < m → m < b → a < b
    below a m b h k = omega arith

-- where the numbers do not rise, and fall at the left calls of a rule, none comes back to it
pub no_cycle_from : (rules : List ParserRule) (facts : Facts) (levels : List ℕ) → AreFacts rules facts → NoneRises facts levels → (n : Text) (place : ℕ) → last_place (grammar_of rules) n ≡ Some place → FallsFrom facts levels place → Leads (grammar_of rules) n n → ⊥
no_cycle_from rules facts levels right rises n place at falls l = no_cycle_of rules facts levels right (λ m. m + 1) (λ a m b h k. within a m b h k) rises n (λ i h. from (last_place (grammar_of rules) n) at i h) l
  where
    within : (a m b : ℕ) → a < m + 1 → m < b → a < b
    within a m b h k = omega arith

    from : (o : Option ℕ) → o ≡ Some place → (i : ℕ) → Root rules facts n o i → (k : NodeKind) → slice_get facts.table.kinds.items i ≡ Some k → Falls facts levels (rank_at levels i) k
    from o e i (root {r = r} rule h got lies) k here = let same : r ≡ place = cc in falls i k (subst (λ z. slice_get facts.table.roots.items z ≡ Some i) same got) here
