-- Programs of operations that are those of rules.
use Rattle.std.specs.Prelude.{◌≡◌, ◌<◌, ◌+◌, ℕ, Bool, List, [], get_or, length, map}
use Rattle.base_language.specs.Language.Expression.{Ident}
use Rattle.base_language.specs.Language.Meaning.{Run}
use Rattle.base_language.specs.Language.State.{Classes, NonAtomicMode}
use Rattle.matcher_code.specs.Lists.{CodeLists}
use Rattle.matcher_code.specs.declared.code.Op.TheVariants as op
use Rattle.matcher_code.specs.Laid as lay
use Rattle.matcher_code.specs.Laid.{AreLaid, HasOutcome, IsPoint, at_label, skip_set}
use Rattle.matcher_program.specs.declared.form.Program.{Program}
use Rattle.matcher_program.specs.Programs.{Fits, name_at, names_of}
use Rattle.matcher_compiler.specs.declared.plan.Plan.{Plan}
use Rattle.matcher_compiler.specs.declared.points.Demand.{Demand}
use Rattle.matcher_compiler.specs.declared.points.Point.{Point}
use Rattle.matcher_compiler.specs.Names.{number_in}
use Rattle.matcher_sets.specs.Forms.{grammar_in}
use Rattle.matcher_compiler.specs.Plans.{IsMet, Meets, laid_point}

-- the first three operations
pub record HasEnds (code : CodeLists) : Type 0 where
  pub fail : at_label code 0 ≡ op.Fail
  pub halt : at_label code 1 ≡ op.Halt
  pub lose : at_label code 2 ≡ op.Lose

-- the program has what is demanded
abbrev pub AreMet : CodeLists → List Point → List Demand → Type 0
AreMet code points demands = (p : Program) (i : ℕ) (d : Demand) → i < length demands
    → IsMet p code (map (laid_point p) points) (get_or demands i d)

-- a plan without points and demands
pub record IsEmpty (plan : Plan) : Type 0 where
  pub points : plan.points.items ≡ []
  pub demands : plan.demands.items ≡ []

-- a program that meets the plan has a point for a call of each of the first rules from outside
abbrev pub HasEntries : Program → Plan → ℕ → Type 0
HasEntries p plan n = (code : CodeLists) (laid : List lay.Point) → Meets p plan code laid → (i : ℕ) → i < n
    → IsPoint laid (Run NonAtomicMode (Ident (name_at (names_of p.rules.items) i))) (i + 3) 1 2

-- the program has code for the body of each rule in each mode in which it is called, and a call of each rule
-- from outside begins at the label after three more than its index; exact code records each name that is
-- expected
pub record IsCodeOf (exact : Bool) (p : Program) (code : CodeLists) : Type 0 where
  pub ends : HasEnds code
  pub points : List lay.Point
  pub laid : (classes : Classes) → Fits p.properties.items classes
      → AreLaid exact (grammar_in p) classes code (number_in (grammar_in p)) points
  pub entries : (i : ℕ) → i < length p.rules.items
      → IsPoint points (Run NonAtomicMode (Ident (name_at (names_of p.rules.items) i))) (i + 3) 1 2
