-- Plans of programs: points and demands, and what a program does that meets them.
use Rattle.std.specs.Prelude.{◌≡◌, ◌<◌, ℕ, suc, Bool, List, [], ◌∷◌, IfSome, None, Option, get_or, length, map, All, IsUtf8, chars, ⊤}
use Rattle.base_language.specs.Language.Expression.{Expression, Grammar, Ident, Rep, Seq, comment, rule_of, whitespace}
use Rattle.base_language.specs.Language.Meaning.{Does, Run, Skipping, Task, once_or_more, skipped}
use Rattle.base_language.specs.Language.State as language
use Rattle.base_language.specs.Language.Text.{Text}
use Rattle.base_language.specs.Language.State.{Between, Classes, Failure, NonAtomicMode, State}
use Rattle.matcher_code.specs.Lists.{CodeLists, lists_of}
use Rattle.matcher_code.specs.declared.code.Code.{Code}
use Rattle.matcher_code.specs.declared.code.Op.TheVariants as op
use Rattle.matcher_code.specs.Failures.{in_silence}
use Rattle.matcher_code.specs.Reading.{char_len, text_of}
use Rattle.matcher_code.specs.Sets.{IsSetOf}
use Rattle.matcher_program.specs.declared.form.Program.{Program}
use Rattle.matcher_program.specs.Programs.{Fits, name_at, names_of}
use Rattle.matcher_code.specs.Laid as lay
use Rattle.matcher_code.specs.Laid.{Branches, Continues, Enters, FailsOutside, HasOutcome, GoesOn, HasTable, Hits, IsPart, IsPoint, IsSilent, IsTight, Lays, Moves, Notes, TakesNone, TakesOne, at_label, skip_set}
use Rattle.matcher_compiler.specs.declared.plan.Plan.{Plan}
use Rattle.matcher_compiler.specs.declared.plan.Skips.{Skips}
use Rattle.matcher_compiler.specs.declared.plan.Skips.TheVariants as skips
use Rattle.matcher_sets.specs.declared.first_sets.FirstSet.{FirstSet}
use Rattle.matcher_sets.specs.declared.modes.Atomicity.{Atomicity}
use Rattle.matcher_compiler.specs.declared.points.Branch.{Branch}
use Rattle.matcher_compiler.specs.declared.points.Demand.{Demand}
use Rattle.matcher_compiler.specs.declared.points.Demand.TheVariants as demand
use Rattle.matcher_compiler.specs.declared.points.Part.{Part}
use Rattle.matcher_compiler.specs.declared.points.Part.TheVariants as part
use Rattle.matcher_compiler.specs.declared.points.TaskLabels.{TaskLabels}
use Rattle.matcher_compiler.specs.declared.points.Point.{Point}
use Rattle.matcher_sets.specs.Modes.{mode_of}
use Rattle.matcher_compiler.specs.Exact.{IsAllowed, is_exact}
use Rattle.matcher_compiler.specs.Names.{number_in}
use Rattle.matcher_sets.specs.Forms.{IsBoundIn, grammar_in, no_rule, said}
use Rattle.matcher_sets.specs.Ranges.{Covers}

-- the body of the rule of a number
abbrev pub body_in : Program → ℕ → Expression
body_in p i = (get_or (grammar_in p) i no_rule).body

-- the parts of the implicit skipping: blanks, and a comment with blanks after it
abbrev pub blanks : Expression
blanks = Rep (Ident whitespace)

abbrev pub one_comment : Expression
one_comment = Seq (Ident comment) blanks

-- the task of a part in a mode; the parts of the implicit skipping have their own
abbrev pub task_in : Program → Part → language.Mode → Task
task_in p (part.Form f) m = Run m (said p f.now)
task_in p (part.OnceOrMore f) m = Run m (once_or_more (said p f.now))
task_in p (part.Repetition f) m = Run m (Rep (said p f.now))
task_in p (part.Body i) m = Run m (body_in p i)
task_in p (part.Rule i) m = Run m (Ident (name_at (names_of p.rules.items) i))
task_in p part.Trivia m = Skipping m
task_in p part.Skipped m = Run Between skipped
task_in p part.Blanks m = Run Between blanks
task_in p part.BlankCall m = Run Between (Ident whitespace)
task_in p part.Comments m = Run Between (Rep one_comment)
task_in p part.Comment m = Run Between one_comment
task_in p part.CommentCall m = Run Between (Ident comment)
task_in p part.Stay m = Skipping Between

-- the names in a part mean what they are resolved to, and there is such a rule
abbrev pub IsBoundPart : Program → Part → Type 0
IsBoundPart p (part.Form f) = IsBoundIn p f.now
IsBoundPart p (part.OnceOrMore f) = IsBoundIn p f.now
IsBoundPart p (part.Repetition f) = IsBoundIn p f.now
IsBoundPart p (part.Body i) = i < length p.rules.items
IsBoundPart p (part.Rule i) = i < length p.rules.items
IsBoundPart p _ = ⊤

-- a point of a program
abbrev pub laid_point : Program → Point → lay.Point
laid_point p x = record {
  task = task_in p x.part (mode_of x.at.mode);
  label = x.at.label;
  next = x.at.next;
  on_fail = x.at.on_fail;
  rank = x.at.rank;
}

-- a point, of the same rank or a lower one
abbrev pub IsPointOf : Program → List lay.Point → Point → Type 0
IsPointOf p laid x =
    IsPart laid (suc x.at.rank) (task_in p x.part (mode_of x.at.mode)) x.at.label x.at.next x.at.on_fail

-- nothing is skipped in the mode
abbrev pub IsTightIn : Program → Atomicity → Type 0
IsTightIn p m = (classes : Classes) → IsTight (grammar_in p) classes (mode_of m)

-- a choice goes on at a label for a first byte; its table has such labels
abbrev pub ContinuesAs : CodeLists → Branch → Option ℕ → ℕ → Type 0
ContinuesAs code b first_set t = Continues code first_set b.set b.noted b.first b.second b.next b.on_fail t

-- where the second alternative of a choice leads on to a label, if to one, its table may have another label,
-- before which a failure is recorded
abbrev pub IsNoted : CodeLists → Branch → Option ℕ → ℕ → Type 0
IsNoted code b next t = (first_set : Option ℕ) → IfSome next (Moves code first_set b.second)
    → Notes code first_set b.second b.next b.on_fail t

abbrev pub HasBranch : CodeLists → Branch → Type 0
HasBranch code b = Branches code b.table b.set b.noted b.first b.second b.next b.on_fail

-- the program has what is demanded
abbrev pub IsMet : Program → CodeLists → List lay.Point → Demand → Type 0
IsMet p code laid (demand.Operation l o) = at_label code l ≡ o
IsMet p code laid (demand.Body i m first last point) =
    IsPoint laid (Run (mode_of m) (body_in p i)) first last 0
IsMet p code laid (demand.Skipping first last point) = IsPoint laid (Run Between skipped) first last 0
IsMet p code laid (demand.GoesOn l) = GoesOn code l
IsMet p code laid (demand.Branch b) = HasBranch code b × IsAllowed code b.noted

-- the program has the points, what is demanded, the sets, the texts and the lists of a plan
pub record Meets (p : Program) (plan : Plan) (code : CodeLists) (laid : List lay.Point) : Type 0 where
  pub fail : at_label code 0 ≡ op.Fail
  pub points : (i : ℕ) (d : Point) → i < length plan.points.items
      → IsPointOf p laid (get_or plan.points.items i d)
  pub demands : (i : ℕ) (d : Demand) → i < length plan.demands.items
      → IsMet p code laid (get_or plan.demands.items i d)
  pub sets : (set b : ℕ) (bs : List ℕ) → set < length plan.sets.ranges.items → b < 256
      → char_len code set (b ∷ bs) ≡ char_len (lists_of plan.sets) set (b ∷ bs)
  pub texts : (i : ℕ) → i < length plan.texts.items
      → get_or code.texts i [] ≡ get_or (map (λ v. v.items) plan.texts.items) i []
  pub lists : (i : ℕ) → i < length plan.lists.items
      → get_or code.lists i [] ≡ get_or (map (λ v. v.items) plan.lists.items) i []

-- the texts of some numbers, as characters
pub record AreTexts (code : CodeLists) (numbers : List ℕ) (ts : List Text) : Type 0 where
  pub valid : All IsUtf8 (map (text_of code) numbers)
  pub same : map chars (map (text_of code) numbers) ≡ ts

-- a task takes all characters of the ranges that follow, and no others
pub record TakesSpan (p : Program) (classes : Classes) (k : Task) (ranges : List (ℕ × ℕ)) : Type 0 where
  pub characters : ℕ → Bool
  pub covers : Covers ranges characters
  pub takes : HasOutcome (grammar_in p) classes k (skip_set characters) in_silence

abbrev pub TakesSpanIn : Program → Task → List (ℕ × ℕ) → Type 0
TakesSpanIn p k ranges = (classes : Classes) → Fits p.properties.items classes → TakesSpan p classes k ranges

-- so do the blanks of the implicit skipping
abbrev pub AreBlanks : Program → List (ℕ × ℕ) → Type 0
AreBlanks p ranges = TakesSpanIn p (Run Between blanks) ranges

-- they take the characters of a set
pub record IsBlankSet (p : Program) (sets : Code) (set : ℕ) : Type 0 where
  pub ranges : List (ℕ × ℕ)
  pub within : set < length sets.ranges.items
  pub is : IsSetOf (lists_of sets) set ranges
  pub blank : AreBlanks p ranges

-- a set has no characters
pub record IsEmptySet (sets : Code) (set : ℕ) : Type 0 where
  pub within : set < length sets.ranges.items
  pub is : IsSetOf (lists_of sets) set []

-- what the implicit skipping takes: nothing, the characters of a set, or these and comments; of calls of the
-- rules nothing is said
abbrev pub SkipsAs : Program → Code → Skips → Type 0
SkipsAs p sets skips.Nothing = (classes : Classes) → IsTight (grammar_in p) classes NonAtomicMode
SkipsAs p sets (skips.Blanks set) = (rule_of (grammar_in p) comment ≡ None) × IsBlankSet p sets set
SkipsAs p sets (skips.Comments set) = IsBlankSet p sets set
SkipsAs p sets (skips.Calls set) = IsEmptySet sets set

abbrev pub IsReady : Program → Plan → Type 0
IsReady p plan = SkipsAs p plan.sets plan.skips

-- the names in all points mean what they are resolved to
abbrev pub AreBound : Program → Plan → Type 0
AreBound p plan = (i : ℕ) (d : Point) → i < length plan.points.items
    → IsBoundPart p (get_or plan.points.items i d).part

-- the later plan has the points of the earlier one, and demands no less
pub record IsLater (p : Program) (old new : Plan) : Type 0 where
  pub kept : (i : ℕ) (d : Point) → i < length old.points.items
      → (i < length new.points.items) × (get_or new.points.items i d ≡ get_or old.points.items i d)
  pub met : (code : CodeLists) (laid : List lay.Point) → Meets p new code laid → Meets p old code laid
  pub bound : AreBound p old → AreBound p new
  pub ready : IsReady p old → IsReady p new

-- a program that meets the plan has code for the task at the place
abbrev pub LaysAt : Program → Plan → Task → TaskLabels → Type 0
LaysAt p plan k at = (classes : Classes) → Fits p.properties.items classes
    → (code : CodeLists) (laid : List lay.Point) → Meets p plan code laid
    → Lays (is_exact code) (grammar_in p) classes code (number_in (grammar_in p)) laid at.rank k
    at.label at.next at.on_fail

-- so it goes on from the place to the task at a label
abbrev pub EntersAt : Program → Plan → Task → TaskLabels → ℕ → Type 0
EntersAt p plan k at first = (classes : Classes) → Fits p.properties.items classes
    → (code : CodeLists) (laid : List lay.Point) → Meets p plan code laid
    → Enters (is_exact code) (grammar_in p) classes code k at.label first at.on_fail

-- where no character of a FIRST set is next, the task fails, and records a failure there or none
abbrev pub FailsWithout : Program → Task → FirstSet → Type 0
FailsWithout p k h = (classes : Classes) → Fits p.properties.items classes
    → FailsOutside (grammar_in p) classes k h.ranges.items h.noted

-- so the task takes nothing then, and does not fail
abbrev pub TakesNoneIn : Program → Task → FirstSet → Type 0
TakesNoneIn p k h = (classes : Classes) → Fits p.properties.items classes
    → TakesNone (grammar_in p) classes k h.ranges.items h.noted

-- so a table at the place leads on to the task at a label, or, where that fails, to another label
abbrev pub BranchesAt : Program → Plan → Task → TaskLabels → (first second : ℕ) → Type 0
BranchesAt p plan k at first second = (classes : Classes) → Fits p.properties.items classes
    → (code : CodeLists) (laid : List lay.Point) → Meets p plan code laid
    → HasTable (is_exact code) (grammar_in p) classes code k at.label first second at.next at.on_fail

-- where a character of the ranges is next, the task takes it alone, and records no failure
abbrev pub TakesOneIn : Program → Task → List (ℕ × ℕ) → Type 0
TakesOneIn p k ranges = (classes : Classes) → Fits p.properties.items classes
    → TakesOne (grammar_in p) classes k ranges

-- a character of the second ranges is one of the first, and before it a task fails, and records no failure
abbrev pub FailsBefore : Program → Task → List (ℕ × ℕ) → List (ℕ × ℕ) → Type 0
FailsBefore p k ranges rest = (classes : Classes) → Fits p.properties.items classes → (s : State)
    → Hits rest s.rest
    → Hits ranges s.rest × ((d : Does (grammar_in p) classes k s Failure) × IsSilent d)

-- so it goes on from the place to a point that does the task
pub record IsEntered (g : Grammar) (classes : Classes) (code : CodeLists) (laid : List lay.Point) (k : Task)
    (at : TaskLabels) : Type 0 where
  pub first : ℕ
  pub entered : Enters (is_exact code) g classes code k at.label first at.on_fail
  pub point : IsPart laid at.rank k first at.next at.on_fail

abbrev pub BeginsAt : Program → Plan → Task → TaskLabels → Type 0
BeginsAt p plan k at = (classes : Classes) → Fits p.properties.items classes
    → (code : CodeLists) (laid : List lay.Point) → Meets p plan code laid
    → IsEntered (grammar_in p) classes code laid k at

-- so it has code for the task of a point
abbrev pub LaysPoint : Program → Plan → Point → Type 0
LaysPoint p plan x = LaysAt p plan (task_in p x.part (mode_of x.at.mode)) x.at

-- there are points for two parts, one after the other with the skipping between them
pub record AreParts (p : Program) (laid : List lay.Point) (first second : Part) (at : TaskLabels) : Type 0
  where
    pub behind : ℕ
    pub begin : ℕ
    pub left : IsPart laid at.rank (task_in p first (mode_of at.mode)) at.label behind 0
    pub skipping : IsPart laid at.rank (Skipping (mode_of at.mode)) behind begin 0
    pub right : IsPart laid at.rank (task_in p second (mode_of at.mode)) begin at.next 0

-- a program that meets the plan has them
abbrev pub HasParts : Program → Plan → Part → Part → TaskLabels → Type 0
HasParts p plan first second at = (code : CodeLists) (laid : List lay.Point) → Meets p plan code laid
    → AreParts p laid first second at

-- so it has code for the turns of a repetition, of which the first begins at a label
abbrev pub HasTurns : Program → Plan → Expression → TaskLabels → ℕ → Type 0
HasTurns p plan e at start = (classes : Classes) (code : CodeLists) (laid : List lay.Point)
    → Meets p plan code laid
    → Enters (is_exact code) (grammar_in p) classes code (Run (mode_of at.mode) e) at.label start at.next
    → Lays (is_exact code) (grammar_in p) classes code (number_in (grammar_in p)) laid at.rank
    (Run (mode_of at.mode) (Rep e)) at.label at.next at.on_fail
