use Rattle.std.proofs.Common.{◌≡◌, ℕ, List, [], ◌∷◌, ◌++◌, map, take, refl, ap, sym, ◌∙◌, rules, arith}
use Rattle.std.specs.Str.{chars}
use Rattle.std.proofs.lemmas.List.{map-id}
use Rattle.std.proofs.lemmas.Iterator.{YieldsList-from_chars, YieldsList-from_take}
use Rattle.std.proofs.lemmas.Iterator.Consumers.{YieldsList-at, YieldsList-end}
use Rattle.std.proofs.Output.{has_written_append, has_written_of_eq}
use Rattle.std.proofs.lemmas.Bool.Decides.{nat_tests}
use Rattle.base_language.specs.Pieces.PrintedError.{blank_under}
use Rattle.base_language.proofs.runtime.layout.write_blanks.Goals as goal
use Rattle.base_language.proofs.runtime.layout.write_blanks.Goals.{then-c-eq9, else-c-eq9}

-- one character more
one_more : (cs : List ℕ) (c : ℕ) (t : List ℕ) → t ≡ blank_under c ∷ [] → map blank_under cs ++ t ≡ map blank_under (cs ++ (c ∷ []))
one_more [] c t h = h
one_more (d ∷ cs) c t h = ap (λ x. blank_under d ∷ x) (one_more cs c t h)

-- under a tab and under all else
under_tab : (c : ℕ) → c ≡ 9 → 9 ∷ [] ≡ blank_under c ∷ []
under_tab c h = rw h refl

under_other : (c : ℕ) → (c ≡ 9 → ⊥) → 32 ∷ [] ≡ blank_under c ∷ []
under_other c h = grind (arith, nat_tests)

pub loop-c-preserved : goal.loop-c-preserved
loop-c-preserved g c plain =
    let before = c.loop-c.invariant plain in
    let one = c.write_str.ensures.writes before.plain (search rules) in
    let blank : c.if-c-eq9.write_str.now ≡ blank_under c.in-Some.c ∷ [] = elim c.if-c-eq9.branch [
      | then-c-eq9 w ↦ rw w.write_str-is (under_tab c.in-Some.c w.if-c-eq9.true)
      | else-c-eq9 w ↦ rw w.write_str-is (under_other c.in-Some.c w.if-c-eq9.false)
    ] in
    has_written_of_eq _ _ _ _ _ (one_more c.loop-c.yielded c.in-Some.c _ blank) (has_written_append _ _ _ _ _ _ before one)

pub returns : goal.returns
returns g c = λ plain _.
    let line = c.args.line.now in
    let items = YieldsList-at (cc) (YieldsList-from_take c.args.count (YieldsList-at c.take-c-items.ensures.source (YieldsList-from_chars line c.utf8.line (cc))) c.take-c-items.ensures.count) in
    let all = YieldsList-end items c.loop-c.yielded _ c.loop-c.yielded_by _ _ c.in-None.is c.next.ensures.steps in
    let same : map blank_under c.loop-c.yielded ≡ map blank_under (take c.args.count (chars line)) = ap (map blank_under) (sym (map-id c.loop-c.yielded) ∙ all.0) in
    has_written_of_eq _ _ _ _ _ same (c.loop-c.invariant plain)
