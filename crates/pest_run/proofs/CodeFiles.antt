-- Files of compiled grammars, and why they are not run.
use Rattle.std.proofs.Common.{◌≡◌, ◌∙◌, refl, sym, ℕ, List, true, false, codes, nat_eq}
use Rattle.std.specs.List.{starts_with}
use Rattle.std.proofs.lemmas.Bool.{true≢false}
use Rattle.std.proofs.lemmas.Bool.Decides.{Decides-eqb}
use Rattle.std.proofs.lemmas.Slice.Eq.{starts_is}
use Rattle.matcher_engine.specs.Blocks.{HasFlaw, IsBlock, IsWhole, head, mark}
use Rattle.matcher_engine.specs.declared.block.head.BlockFlaw.{BlockFlaw}
use Rattle.matcher_engine.specs.declared.block.head.BlockFlaw.TheVariants as flaw
use Rattle.pest_run.specs.Codes.{why_refused}

-- a block begins as one of any version
pub begins_marked : (block : List ℕ) → IsBlock block → starts_with nat_eq block mark ≡ true
begins_marked block h = (starts_is Decides-eqb block mark _ refl).1 _ ((starts_is Decides-eqb block head _ refl).0 h)

-- a whole block has no flaw
pub no_flaw : (block : List ℕ) (why : BlockFlaw) → IsWhole block → HasFlaw block why → ⊥
no_flaw block flaw.NoBlock w h = true≢false (sym (begins_marked block w.head) ∙ h)
no_flaw block flaw.OtherVersion w h = true≢false (sym w.head ∙ h.1)
no_flaw block flaw.Changed w h = true≢false (sym w.checksum ∙ h.1)

pub none_why : (block : List ℕ) → starts_with nat_eq block mark ≡ false → codes "it is no compiled grammar" ≡ why_refused block
none_why block h = rw h refl

pub other_why : (block : List ℕ) → starts_with nat_eq block mark ≡ true → starts_with nat_eq block head ≡ false
    → codes "it was compiled by another version: compile the grammar again" ≡ why_refused block
other_why block h k = rw (h, k) refl

pub changed_why : (block : List ℕ) → IsBlock block → codes "it was changed after it was compiled: compile the grammar again" ≡ why_refused block
changed_why block h = let k = begins_marked block h in rw (k, h) refl
