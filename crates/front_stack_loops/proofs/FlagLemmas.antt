-- More flags give more answers.
use Rattle.std.proofs.Common.{◌≡◌, ℕ, List, Option, Some, None, Bool, true, false, ◌&&◌, ◌||◌, nat_eq, slice_get, refl}
use Rattle.base_graphs.proofs.LeastLemmas.{settled}
use Rattle.front_stack_loops.specs.Answers.{at_place, changing_kind, still_kind, some_part, leading, answer, AreSound, AreClosed, AreAnswers}
use Rattle.front_stack_loops.specs.Table.{called_by, parts_of}
use Rattle.front_stack_loops.specs.declared.facts.Question.{Question}
use Rattle.front_stack_loops.specs.declared.facts.Question.TheVariants as asks
use Rattle.front_stack_loops.specs.declared.table.NodeKind.{NodeKind}
use Rattle.front_stack_loops.specs.declared.table.NodeKind.TheVariants as is
use Rattle.front_stack_loops.specs.declared.table.PassNode.{PassNode}
use Rattle.front_stack_loops.specs.declared.table.Parts.{Parts}
use Rattle.front_stack_loops.specs.declared.table.Parts.TheVariants as parts

or_more : (a b c d : Bool) → (a ≡ true → c ≡ true) → (b ≡ true → d ≡ true) → (a || b) ≡ true → (c || d) ≡ true
or_more true b true d f g h = refl
or_more true b false d f g h = let e = f refl in cc
or_more false b true d f g h = refl
or_more false b false d f g h = g h

and_more : (a b c d : Bool) → (a ≡ true → c ≡ true) → (b ≡ true → d ≡ true) → (a && b) ≡ true → (c && d) ≡ true
and_more true b true d f g h = g h
and_more true b false d f g h = f refl
and_more false b c d f g h = cc

place_more : (p r : ℕ → Bool) → ((j : ℕ) → p j ≡ true → r j ≡ true) → (o : Option ℕ) → at_place p o ≡ true → at_place r o ≡ true
place_more p r f None h = h
place_more p r f (Some j) h = f j h

module _ (roots : List ℕ) (p r : ℕ → Bool) (f : (j : ℕ) → p j ≡ true → r j ≡ true) where
  changing_more : (k : NodeKind) → changing_kind roots p k ≡ true → changing_kind roots r k ≡ true
  changing_more (is.Call n) h = place_more p r f (slice_get roots n) h
  changing_more (is.Tag j) h = f j h
  changing_more (is.Opt j) h = f j h
  changing_more (is.Repeat j a b c) h = f j h
  changing_more (is.Seq j k) h = or_more (p j) (p k) (r j) (r k) (f j) (f k) h
  changing_more (is.Choice j k) h = or_more (p j) (p k) (r j) (r k) (f j) (f k) h
  changing_more _ h = h

  still_more : (k : NodeKind) → still_kind roots p k ≡ true → still_kind roots r k ≡ true
  still_more (is.Call n) h = place_more p r f (slice_get roots n) h
  still_more (is.Push j) h = f j h
  still_more (is.Tag j) h = f j h
  still_more (is.Repeat j a b c) h = or_more (nat_eq a 0) (p j) (nat_eq a 0) (r j) (λ e. e) (f j) h
  still_more (is.Seq j k) h = and_more (p j) (p k) (r j) (r k) (f j) (f k) h
  still_more (is.Choice j k) h = or_more (p j) (p k) (r j) (r k) (f j) (f k) h
  still_more _ h = h

  part_more : (ps : Parts) → some_part p ps ≡ true → some_part r ps ≡ true
  part_more parts.Nothing h = h
  part_more (parts.Inside j required optional endless) h = f j h
  part_more (parts.Both j k choice) h = or_more (p j) (p k) (r j) (r k) (f j) (f k) h

  leading_more : (s : ℕ) (o : Option ℕ) (ps : Parts) → leading roots p s o ps ≡ true → leading roots r s o ps ≡ true
  leading_more s None ps h = part_more ps h
  leading_more s (Some q) ps h = or_more (nat_eq q s) (at_place p (slice_get roots q)) (nat_eq q s) (at_place r (slice_get roots q)) (λ e. e) (place_more p r f (slice_get roots q)) h

  answer_more : (q : Question) (n : PassNode) → answer q roots p n ≡ true → answer q roots r n ≡ true
  answer_more asks.AltersStack n h = changing_more n.kind h
  answer_more asks.MayBeStill n h = still_more n.kind h
  answer_more (asks.LeadsTo s) n h = leading_more s (called_by n.kind) (parts_of n.kind) h

-- flags that are right and closed are answers
pub sound_answers : (q : Question) (ns : List PassNode) (roots : List ℕ) (flags : List Bool) → AreSound q ns roots flags → AreClosed q ns roots flags → AreAnswers q ns roots flags
sound_answers q ns roots flags sound closed = settled (answer q roots) ns flags (λ p r f n h. answer_more roots p r f q n h) sound closed
