use Rattle.std.proofs.Common.{◌∷◌, ◌++◌, [], None, lit<}
use Rattle.std.proofs.lemmas.Str.Pattern.{strip_prefix_char}
use Rattle.doc_diagram.proofs.labels.strip_parentheses.Goals as goal

pub returns-in-None : goal.returns-in-None
returns-in-None c = λ inner e.
    absurd (strip_prefix_char 40 c.args.text.now None c.in-None.ensures.cases (lit< tt) (inner ++ 41 ∷ []) e)
