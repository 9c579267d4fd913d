-- Blocks of rules.
use Rattle.std.specs.Prelude.{◌≡◌, ◌<◌, ◌*◌, ◌^◌, ◌%◌, ℕ, Bool, List, [], ◌∷◌, bit_xor, drop, false, fold, get_or, length, map, nat_eq, string_bytes, true}
use Rattle.std.specs.Int.{to_le_bytes, w64}
use Rattle.std.specs.List.{starts_with}
use Rattle.base_ast.specs.declared.optimized.OptimizedRule.{OptimizedRule}
use Rattle.base_language.specs.Language.Expression.{Grammar}
use Rattle.base_language.specs.Language.State.{Classes}
use Rattle.format_binary.specs.Format.{type_byte}
use Rattle.format_code.specs.Codes.{lists_at}
use Rattle.format_code.specs.Sections.{section}
use Rattle.matcher_compiler.specs.Compiled.{IsCodeOf}
use Rattle.matcher_compiler.specs.Extents.{IsFitting}
use Rattle.matcher_machine.specs.Kinds.{IsFramed}
use Rattle.matcher_engine.specs.declared.block.head.BlockFlaw.{BlockFlaw}
use Rattle.matcher_engine.specs.declared.block.head.BlockFlaw.TheVariants as flaw
use Rattle.matcher_program.specs.Programs.{Fits}
use Rattle.matcher_program.specs.declared.form.Program.{Program}
use Rattle.matcher_sets.specs.Forms.{grammar_in}

-- `pest`, with which the blocks of all versions begin
abbrev pub mark : List ℕ
mark = 112 ∷ 101 ∷ 115 ∷ 116 ∷ []

-- `pest`, and the version
abbrev pub head : List ℕ
head = 112 ∷ 101 ∷ 115 ∷ 116 ∷ 3 ∷ 0 ∷ 0 ∷ 0 ∷ []

abbrev pub IsBlock : List ℕ → Type 0
IsBlock block = starts_with nat_eq block head ≡ true

-- the checksum of bytes: FNV-1a of 64 bits
abbrev pub next_checksum : ℕ → ℕ → ℕ
next_checksum checksum byte = bit_xor checksum byte * 1099511628211 % 2 ^ 64

unfoldable pub checksum_of : List ℕ → ℕ
checksum_of bytes = fold next_checksum 14695981039346656037 bytes

-- the head goes on with the checksum of what follows it
abbrev pub has_checksum : List ℕ → Bool
has_checksum block = starts_with nat_eq (drop 8 block) (to_le_bytes w64 (checksum_of (drop 16 block)))

-- a block of this version, as it was made
pub record IsWhole (block : List ℕ) : Type 0 where
  pub head : IsBlock block
  pub checksum : has_checksum block ≡ true

-- why bytes are no whole block: they do not begin as one, or they are one of another version, or
-- their checksum is another
abbrev pub HasFlaw : List ℕ → BlockFlaw → Type 0
HasFlaw block flaw.NoBlock = starts_with nat_eq block mark ≡ false
HasFlaw block flaw.OtherVersion =
    (starts_with nat_eq block mark ≡ true) × (starts_with nat_eq block head ≡ false)
HasFlaw block flaw.Changed = IsBlock block × (has_checksum block ≡ false)

-- the sections after the head: code for matches, code for names, the names of rules as sections, and the
-- types of rules
abbrev pub part_of : List ℕ → ℕ → List ℕ
part_of block k = section (drop 16 block) k

-- the number of operations of code for matches
abbrev pub operations_in : List ℕ → ℕ
operations_in block = length (lists_at (part_of block 0)).ops

-- the names of rules, and the numbers of their types
pub record HasRules (block : List ℕ) (rules : List OptimizedRule) : Type 0 where
  pub names : (k : ℕ) → k < length rules
      → section (part_of block 2) k ≡ get_or (map (λ r. string_bytes r.name) rules) k []
  pub types : part_of block 3 ≡ map (λ r. type_byte r.ty) rules

-- the code in the block is that of a program; code for matches fits its size, uses the stack only if the
-- program does, and each operation pops a frame that is meant for it
pub record HasCode (block : List ℕ) (p : Program) : Type 0 where
  pub head : IsBlock block
  pub plain : IsCodeOf false p (lists_at (part_of block 0))
  pub exact : IsCodeOf true p (lists_at (part_of block 1))
  pub fits : IsFitting p (lists_at (part_of block 0))
  pub framed : IsFramed (lists_at (part_of block 0))

-- the code in the block is that of a grammar, with these sets of characters, and it has a type for each rule
pub record IsBlockOf (g : Grammar) (classes : Classes) (block : List ℕ) : Type 0 where
  pub program : Program
  pub means : grammar_in program ≡ g
  pub fits : Fits program.properties.items classes
  pub code : HasCode block program
  pub count : length (part_of block 3) ≡ length g
