use Rattle.std.proofs.Common.{◌≡◌, ◌∙◌, ◌++◌, List, ap, drop, refl, subst, sym, ℕ}
use Rattle.std.specs.Int.{to_le_bytes, w64}
use Rattle.std.proofs.lemmas.Bool.Decides.{Decides-eqb}
use Rattle.std.proofs.lemmas.Slice.Eq.{starts_is}
use Rattle.matcher_engine.specs.Blocks.{IsWhole, head, checksum_of}
use Rattle.matcher_engine.proofs.block.head.with_head.Goals as goal

-- a head, the checksum and the sections are a whole block
whole : (sections : List ℕ) → IsWhole ((head ++ to_le_bytes w64 (checksum_of sections)) ++ sections)
whole sections =
    let checksum = to_le_bytes w64 (checksum_of sections) in
    record { head = refl; checksum = (starts_is Decides-eqb (checksum ++ sections) checksum _ refl).1 sections refl }

-- the parts of the block
module _ (block front both checksum sections : List ℕ) (e1 : front ≡ head) (e2 : both ≡ front ++ checksum) (e3 : block ≡ both ++ sections) where
  parts : block ≡ (head ++ checksum) ++ sections
  parts = e3 ∙ ap (λ xs. xs ++ sections) (e2 ∙ ap (λ xs. xs ++ checksum) e1)

pub returns-clause-whole : goal.returns-clause-whole
returns-clause-whole c =
    let sections = c.args.sections.now in
    let front = c.in_ok-extend_from_slice.ensures.items ∙ ap (λ xs. xs ++ head) c.new-block.ensures.items in
    let checksum = c.in_ok-extend_from_slice-2.ensures.items ∙ ap (λ bs. c.extend_from_slice.new.self.items ++ bs) c.to_le_bytes.ensures in
    let e = parts c.extend_from_slice-3.new.self.items c.extend_from_slice.new.self.items c.extend_from_slice-2.new.self.items (to_le_bytes w64 c.checksum_of.result) sections front checksum c.in_ok-extend_from_slice-3.ensures.items in
    subst IsWhole (sym (e ∙ ap (λ n. (head ++ to_le_bytes w64 n) ++ sections) c.checksum_of.ensures)) (whole sections)

pub returns-clause-sections : goal.returns-clause-sections
returns-clause-sections c =
    let sections = c.args.sections.now in
    let front = c.in_ok-extend_from_slice.ensures.items ∙ ap (λ xs. xs ++ head) c.new-block.ensures.items in
    let checksum = c.in_ok-extend_from_slice-2.ensures.items ∙ ap (λ bs. c.extend_from_slice.new.self.items ++ bs) c.to_le_bytes.ensures in
    ap (drop 16) (parts c.extend_from_slice-3.new.self.items c.extend_from_slice.new.self.items c.extend_from_slice-2.new.self.items (to_le_bytes w64 c.checksum_of.result) sections front checksum c.in_ok-extend_from_slice-3.ensures.items)
