use Rattle.std.proofs.Common.{◌≡◌, ◌∙◌, sym, ap, refl, arith, suc, ◌-◌, ◌+◌, [], ◌∷◌, ◌++◌, reverse, None, Some, true, false, append-nil}
use Rattle.std.proofs.lemmas.List.{map_push}
use Rattle.front_stack_domain.specs.Stack.{is_among}
use Rattle.front_stack_domain.specs.Reading.{onward, turns, Endless}
use Rattle.front_stack_loops.specs.Following.{seen_stacks}
use Rattle.front_stack_domain.specs.Reported.{turn_starts}
use Rattle.front_stack_domain.specs.Views.{reading_of, stack_of, walk_of, possible}
use Rattle.front_stack_loops.proofs.Follow.{turns_none, starts_none, turns_again, starts_again, turn_on, start_on, over_value, starts_over, among_reverse, seen_more}
use Rattle.front_stack_loops.proofs.reader.turn.Goals as goal

pub returns : goal.returns
returns c =
    let v = c.loop-taken.invariant in
    let over : c.args.table.now.limit - c.loop-taken.taken ≡ 0 = omega arith in record {
      value = λ meaning h i. over_value c.args.table.now.limit (meaning c.args.body) (c.args.table.now.limit - c.loop-taken.taken) _ _ (walk_of c.loop-taken.walk) _ over c.unknown.ensures ∙ v.value meaning h i;
      kept = v.kept;
      starts = λ meaning h i. sym (ap (λ l. seen_stacks c.loop-taken.seen.items ++ l) (starts_over c.args.table.now.limit (meaning c.args.body) (c.args.table.now.limit - c.loop-taken.taken) (reverse (seen_stacks c.loop-taken.seen.items)) (possible c.loop-taken.next) over) ∙ append-nil (seen_stacks c.loop-taken.seen.items)) ∙ v.starts meaning h i;
    }

pub returns-in_default : goal.returns-in_default
returns-in_default c =
    let none : possible c.args.start.here ≡ None = ap possible c.in_default.is in record {
      value = λ meaning h i. sym (ap (λ q. onward c.args.table.now.limit (meaning c.args.body) Endless q (walk_of c.args.start)) none);
      kept = λ meaning h i. i;
      starts = λ meaning h i. ap seen_stacks c.requires.none ∙ sym (ap (turn_starts (meaning c.args.body) c.args.table.now.limit []) none ∙ starts_none c.args.table.now.limit (meaning c.args.body) c.args.table.now.limit []);
    }

pub returns-in_default-next : goal.returns-in_default-next
returns-in_default-next c =
    let v = c.loop-taken.invariant in
    let limit = c.args.table.now.limit in
    let seen = reverse (seen_stacks c.loop-taken.seen.items) in
    let none : possible c.loop-taken.next ≡ None = ap possible c.in_default-next.is in record {
      value = λ meaning h i. sym (ap (λ q. turns limit (meaning c.args.body) (limit - c.loop-taken.taken) seen q (walk_of c.loop-taken.walk)) none ∙ turns_none limit (meaning c.args.body) (limit - c.loop-taken.taken) seen (walk_of c.loop-taken.walk) (omega arith)) ∙ v.value meaning h i;
      kept = v.kept;
      starts = λ meaning h i. sym (ap (λ q. seen_stacks c.loop-taken.seen.items ++ turn_starts (meaning c.args.body) (limit - c.loop-taken.taken) seen q) none ∙ (ap (λ l. seen_stacks c.loop-taken.seen.items ++ l) (starts_none limit (meaning c.args.body) (limit - c.loop-taken.taken) seen) ∙ append-nil _)) ∙ v.starts meaning h i;
    }

pub returns-then-is_among : goal.returns-then-is_among
returns-then-is_among c =
    let v = c.loop-taken.invariant in
    let limit = c.args.table.now.limit in
    let seen = reverse (seen_stacks c.loop-taken.seen.items) in
    let a = stack_of c.in-Some-next.stack in
    let here : possible c.loop-taken.next ≡ Some a = ap possible c.in-Some-next.is in
    let again : is_among seen a ≡ true = among_reverse (seen_stacks c.loop-taken.seen.items) a ∙ (sym (c.is_among.ensures ∙ ap (λ l. is_among (seen_stacks l) a) c.deref.ensures.value) ∙ c.if-is_among.true) in record {
      value = λ meaning h i. sym (ap (λ q. turns limit (meaning c.args.body) (limit - c.loop-taken.taken) seen q (walk_of c.loop-taken.walk)) here ∙ turns_again limit (meaning c.args.body) (limit - c.loop-taken.taken) seen a (walk_of c.loop-taken.walk) (omega arith) again) ∙ v.value meaning h i;
      kept = v.kept;
      starts = λ meaning h i. sym (ap (λ q. seen_stacks c.loop-taken.seen.items ++ turn_starts (meaning c.args.body) (limit - c.loop-taken.taken) seen q) here ∙ (ap (λ l. seen_stacks c.loop-taken.seen.items ++ l) (starts_again limit (meaning c.args.body) (limit - c.loop-taken.taken) seen a again) ∙ append-nil _)) ∙ v.starts meaning h i;
    }

pub loop-taken-preserved : goal.loop-taken-preserved
loop-taken-preserved c =
    let v = c.loop-taken.invariant in
    let limit = c.args.table.now.limit in
    let ss = c.loop-taken.seen.items in
    let s = c.in-Some-next.stack in
    let a = stack_of s in
    let r = c.in_ok-reading.reading in
    let here : possible c.loop-taken.next ≡ Some a = ap possible c.in-Some-next.is in
    let fresh : is_among (reverse (seen_stacks ss)) a ≡ false = among_reverse (seen_stacks ss) a ∙ (sym (c.is_among.ensures ∙ ap (λ l. is_among (seen_stacks l) a) c.deref.ensures.value) ∙ c.if-is_among.false) in
    let items : c.push.new.self.items ≡ ss ++ s ∷ [] = c.in_ok-push.ensures.items in
    let shifted : reverse (seen_stacks c.push.new.self.items) ≡ a ∷ reverse (seen_stacks ss) = ap (λ l. reverse (seen_stacks l)) items ∙ seen_more ss s in
    let one : limit - c.loop-taken.taken ≡ suc (limit - (c.loop-taken.taken + 1)) = omega arith in record {
      kept = λ meaning h i. c.in_ok-reading.ensures.kept meaning h (v.kept meaning h i);
      value = λ meaning h i.
          turn_on limit (meaning c.args.body) (limit - (c.loop-taken.taken + 1)) (limit - c.loop-taken.taken) (reverse (seen_stacks ss)) _ a (walk_of c.loop-taken.walk) (walk_of c.after_turn-walk.result) (possible c.loop-taken.next) (possible r.ok) (reading_of r)
          one fresh here shifted (c.in_ok-reading.ensures.value meaning h (v.kept meaning h i)) refl c.after_turn-walk.ensures ∙ v.value meaning h i;
      starts = λ meaning h i.
          start_on limit (meaning c.args.body) (limit - (c.loop-taken.taken + 1)) (limit - c.loop-taken.taken) (seen_stacks ss) (seen_stacks c.push.new.self.items) (reverse (seen_stacks ss)) _ a (possible c.loop-taken.next) (possible r.ok) (reading_of r)
          one fresh here shifted (c.in_ok-reading.ensures.value meaning h (v.kept meaning h i)) refl (ap seen_stacks items ∙ map_push stack_of ss s) ∙ v.starts meaning h i;
    }
