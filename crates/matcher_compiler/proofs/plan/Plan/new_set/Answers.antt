use Rattle.std.proofs.Common.{◌≡◌, ◌∙◌, ◌<◌, ◌≤◌, [], refl, arith, length, subst, sym}
use Rattle.std.specs.Prelude.{is_ok}
use Rattle.std.proofs.lemmas.Grind.{common_steps}
use Rattle.matcher_code.specs.Lists.{lists_of}
use Rattle.matcher_code.specs.Sets.{IsSetOf}
use Rattle.matcher_compiler.specs.declared.sets.KnownSet.{KnownSet}
use Rattle.matcher_compiler.proofs.Sharing.{known_kept, known_pushed}
use Rattle.matcher_compiler.proofs.Growing.{grown, no_more, none}
use Rattle.matcher_compiler.proofs.plan.Plan.new_set.Goals as goal

pub invariant_of-self-2-clause-are_known : goal.invariant_of-self-2-clause-are_known
invariant_of-self-2-clause-are_known c =
    let old = c.args.self.now in
    let l : length old.sets.ranges.items ≤ length c.add_set.new.code.ranges.items = grind (arith, common_steps) in
    let n : c.in_ok-number.number < length c.add_set.new.code.ranges.items = grind (arith, common_steps) in
    let s : c.in_ok-copy.copy.items ≡ c.args.ranges.items = grind (arith, common_steps) in
    let x : KnownSet = record { ranges = c.in_ok-copy.copy; number = c.in_ok-number.number } in
    known_pushed c.add_set.new.code old.known.items c.push.new.self.items x (is_ok c.push.result) c.push.ensures.items
    (record { within = n; is = subst (IsSetOf (lists_of c.add_set.new.code) c.in_ok-number.number) (sym s) c.in_ok-number.ensures.means })
    (known_kept old.sets c.add_set.new.code old.known.items l c.in_ok-number.ensures.keeps old.are_known)

pub returns-clause-later : goal.returns-clause-later
returns-clause-later c = λ p.
    let l : length c.args.self.now.sets.ranges.items ≤ length c.add_set.new.code.ranges.items = grind (arith, common_steps) in
    grown p c.args.self.now _ [] [] (no_more c.args.self.now.points.items _ refl) (no_more c.args.self.now.demands.items _ refl) l c.in_ok-number.ensures.keeps (λ i h. (h, refl)) (λ i h. (h, refl)) refl (none p)

pub returns-clause-means : goal.returns-clause-means
returns-clause-means c = λ p code laid m b bs h u.
    let l : c.in_ok-number.number < length c.add_set.new.code.ranges.items = grind (arith, common_steps) in
    m.sets c.in_ok-number.number b bs l h ∙ c.in_ok-number.ensures.means b bs h u
