-- Tables by their columns.
use Rattle.std.proofs.Common.{rules, ◌≡◌, refl, true, false, ap, subst, sym, ◌∙◌, ℕ, ◌+◌, ◌<◌, ◌≤◌, List, [], ◌∷◌, None, Some, Option, arith, drop, get_or, inl, inr}
use Rattle.std.proofs.lemmas.Bool.{cases_lt}
use Rattle.matcher_code.specs.Lists.{CodeLists}
use Rattle.matcher_code.specs.declared.code.Op.TheVariants as op
use Rattle.matcher_code.specs.Laid.{Excludes, Leads, Moves, Notes, Skips, at_label, head_of, label_for}
use Rattle.matcher_code.specs.Reading.{flag, target}
use Rattle.matcher_code.specs.Steps.{Config, apply_op, jump}
use Rattle.matcher_compiler.specs.Plans.{ContinuesAs}
use Rattle.matcher_compiler.specs.declared.points.Branch.{Branch}

-- a table has the labels for one byte more
pub one_more : (code : CodeLists) (x : Branch) (from byte : ℕ)
    → ((b : ℕ) → from ≤ b → b < byte → ContinuesAs code x (Some b) (label_for code x.table (Some b)))
    → ContinuesAs code x (Some byte) (label_for code x.table (Some byte))
    → (b : ℕ) → from ≤ b → b < byte + 1 → ContinuesAs code x (Some b) (label_for code x.table (Some b))
one_more code x from byte before last b h k = elim (cases_lt b byte) [
  | inl l ↦ before b h l
  | inr m ↦
      let same : byte ≡ b = omega arith in
      subst (λ n. ContinuesAs code x (Some n) (label_for code x.table (Some n))) same last
]

led : (code : CodeLists) (table b : ℕ) (bs : List ℕ) → head_of bs ≡ Some b → target code table bs ≡ label_for code table (Some b)
led code table b [] h = absurd (search (rules, h))
led code table b (a ∷ bs) h = ap (λ (o : Option ℕ). label_for code table o) h

-- an operation that is a table goes on where that leads
pub leads_by_table : (code : CodeLists) (table l b : ℕ) → at_label code l ≡ op.Switch table → Moves code (Some b) l (label_for code table (Some b))
leads_by_table code table l b e text c h =
    ap (λ o. apply_op code text o (jump l c)) e ∙ ap (λ t. jump t c) (led code table b (drop c.at text) h)

abbrev some_flag : (code : CodeLists) (set : ℕ) → Option ℕ → ℕ
some_flag code set None = 0
some_flag code set (Some b) = flag code set b

-- where the flag of the first byte is 0, no character of the set is next
excluded : (code : CodeLists) (set b : ℕ) → flag code set b ≡ 0 → Excludes code set (Some b)
excluded code set b e [] h = refl
excluded code set b e (a ∷ bs) h =
    let z : flag code set a ≡ 0 = ap (λ (o : Option ℕ). some_flag code set o) h ∙ e in
    rw z refl

-- a label to which the second alternative leads, where no failure is recorded
pub plain_label : (code : CodeLists) (x : Branch) (b t : ℕ) → x.noted ≡ false → flag code x.set b ≡ 0
    → Skips code (Some b) x.second t → ContinuesAs code x (Some b) t
plain_label code x b t plain none leads =
    inr (excluded code x.set b none, subst (λ n. Leads code (Some b) n x.second x.next x.on_fail t) (sym plain) leads)

-- a label where a failure is recorded, and to which the second alternative leads
pub noted_label : (code : CodeLists) (x : Branch) (b t : ℕ) → x.noted ≡ true → flag code x.set b ≡ 0
    → Notes code (Some b) x.second x.next x.on_fail t → ContinuesAs code x (Some b) t
noted_label code x b t noted none leads =
    inr (excluded code x.set b none, subst (λ n. Leads code (Some b) n x.second x.next x.on_fail t) (sym noted) leads)
