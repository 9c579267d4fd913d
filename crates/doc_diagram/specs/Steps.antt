-- The walk that builds boxes: what its steps are to show, and how much work they are.
use Rattle.std.specs.Prelude.{◌≡◌, ◌<◌, ℕ, ◌+◌, ◌*◌, List, [], ◌∷◌, ◌++◌, Option}
use Rattle.std.specs.Borrow.{Bor}
use Rattle.std.specs.List.{flat_map}
use Rattle.base_ast.specs.declared.ast.Expr.{Expr, Str, Insens, Range, Ident, PeekSlice, PosPred', NegPred', Seq', Choice', Opt', Rep', RepOnce', RepExact', RepMin', RepMax', RepMinMax', Skip, Push', PushLiteral, NodeTag'}
use Rattle.doc_diagram.specs.Labels.{caption_text}
use Rattle.doc_diagram.specs.Marks.{Mark, box_marks, content_marks, diagram_marks}
use Rattle.doc_diagram.specs.declared.build.BoxBuilder.{BoxBuilder}
use Rattle.doc_diagram.specs.declared.build.BuildStep.{BuildStep}
use Rattle.doc_diagram.specs.declared.build.BuildStep.TheVariants as step

-- the number of an expression's parts
abbrev pub size : Expr → ℕ
size (PosPred' p x) = size x + 1
size (NegPred' p x) = size x + 1
size (Seq' p x q y) = size x + size y + 1
size (Choice' p x q y) = size x + size y + 1
size (Opt' p x) = size x + 1
size (Rep' p x) = size x + 1
size (RepOnce' p x) = size x + 1
size (RepExact' p x n) = size x + 1
size (RepMin' p x m) = size x + 1
size (RepMax' p x n) = size x + 1
size (RepMinMax' p x m n) = size x + 1
size (Push' p x) = size x + 1
size (NodeTag' p x t) = size x + 1
size _ = 1

abbrev pub all_sizes : List (Bor Expr) → ℕ
all_sizes [] = 0
all_sizes (e ∷ es) = size e.now + all_sizes es

abbrev pub step_load : BuildStep → ℕ
step_load (step.Visit e) = 4 * size e.now
step_load _ = 1

abbrev pub load : List BuildStep → ℕ
load [] = 0
load (s ∷ ss) = step_load s + load ss

module _ (number_of : List ℕ → Option ℕ) where
  abbrev pub step_marks : BuildStep → List Mark
  step_marks (step.Visit e) = diagram_marks number_of e.now
  step_marks (step.Enclose content caption n) = content_marks content (caption_text caption)
  step_marks step.Bypass = []

  -- the last step is run first
  abbrev pub in_turn : List BuildStep → List Mark
  in_turn [] = []
  in_turn (s ∷ ss) = in_turn ss ++ step_marks s

  -- a step is run that is to show marks and is so much work: the boxes and the steps that are left show them
  pub record IsRun (old new : BoxBuilder) (marks : List Mark) (work : ℕ) : Type 0 where
    pub shown : flat_map box_marks new.layout.boxes.items ++ in_turn new.steps.items
        ≡ flat_map box_marks old.layout.boxes.items ++ (marks ++ in_turn old.steps.items)
    pub lighter : load new.steps.items < work + load old.steps.items
