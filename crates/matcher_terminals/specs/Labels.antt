-- What is told of the names that are expected by exposed rules.
use Rattle.std.specs.Prelude.{List, [], ◌∷◌, ◌++◌, ◌&&◌, if◌then◌else◌, length, nat_lt, not}
use Rattle.base_language.specs.Language.Builtins.{is_one_of}
use Rattle.base_language.specs.Language.Text.{Text}
use Rattle.matcher_terminals.specs.Exposed.{is_trivia}
use Rattle.matcher_terminals.specs.Tried.{label_of}

-- a label more, if there are fewer than 20, and it is not among these
abbrev pub with_label : List Text → Text → List Text
with_label labels label =
    if nat_lt (length labels) 20 && not (is_one_of labels label) then labels ++ label ∷ [] else labels

-- the labels of names after these
abbrev pub with_labels : List Text → List Text → List Text
with_labels labels [] = labels
with_labels labels (n ∷ names) = with_labels (with_label labels (label_of n)) names

-- the names but for whitespace and comments, which may stand anywhere
abbrev pub without_trivia : List Text → List Text
without_trivia [] = []
without_trivia (n ∷ names) = if is_trivia n then without_trivia names else n ∷ without_trivia names

abbrev pub or_all : (some all : List Text) → List Text
or_all [] all = all
or_all some all = some

-- the labels of names, each once; whitespace and comments are told if nothing else is
abbrev pub labels_of : List Text → List Text
labels_of names = with_labels [] (or_all (without_trivia names) names)
