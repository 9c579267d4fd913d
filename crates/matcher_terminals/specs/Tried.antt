-- The terminals that were tried where a match got no further.
use Rattle.std.specs.Prelude.{◌≡◌, ℕ, max, List, [], ◌++◌, Bool, true, false, ◌||◌, Option, Some, None, map, nat_eq}
use Rattle.std.specs.Char.{eq_ignore_ascii_case}
use Rattle.base_language.specs.Language.Text.{Text}
use Rattle.base_language.specs.Language.Expression.{Str, Insens, Range, PeekSlice, Grammar, Rule, RuleType, Silent}
use Rattle.base_language.specs.Language.Expected.{expected_at, told}
use Rattle.base_language.specs.Language.FurthestFailure.{furthest, place_of}
use Rattle.base_language.specs.Language.Matching.{character_outcome, range_set, slice_outcome, text_outcome}
use Rattle.base_language.specs.Language.State.{Classes, Outcome, State, Trees}
use Rattle.base_language.specs.Language.Meaning.{Does, Task, str, insens, range, slice, skip, call, other, pos_pred, neg_pred, push, restore, seq, seq_first, seq_second, left, right, opt, opt_none, rep_none, turn, turn_none, rep_exact, rep_max, rep_min_max, skips, atomic, compound_atomic, between, rep, rep_once, rep_min, push_literal, tag}
use Rattle.base_ast.specs.Printing.{printed}
use Rattle.front_names.specs.Names.{is_builtin}
use Rattle.matcher_support.specs.Names.{tag_in}
use Rattle.matcher_support.specs.Spliced.{with_trees}
use Rattle.matcher_terminals.specs.Exposed.{is_trivia, token_type}

-- a rule that is one token: an atomic one, one that is marked `!`, and those of whitespace and comments
abbrev pub gives_tokens : RuleType → Bool
gives_tokens Silent = false
gives_tokens ty = true

abbrev pub is_token : Rule → Bool
is_token r = gives_tokens (token_type (is_trivia r.name) r.type_of)

-- the terminals that fail at a position, as they are written, in the order in which they are tried; none
-- below a `!`. A token that fails there stands for its parts
abbrev pub tried_at : {g : Grammar} {classes : Classes} {k : Task} {s : State} {o : Outcome}
    → ℕ → Does g classes k s o → List Text
tried_at place (str {t = t} {s = s}) = told true (printed (Str t)) place s (text_outcome nat_eq t s) []
tried_at place (insens {t = t} {s = s}) =
    told true (printed (Insens t)) place s (text_outcome eq_ignore_ascii_case t s) []
tried_at place (range {a = a} {b = b} {s = s}) =
    told true (printed (Range a b)) place s (character_outcome (range_set a b) s) []
tried_at place (slice {i = i} {j = j} {s = s}) =
    told true (printed (PeekSlice i j)) place s (slice_outcome i j s) []
tried_at place skip = []
tried_at place (call {n = n} {s = s} {o = o} {r = r} h d) =
    told (is_builtin n || is_token r) n place s o (tried_at place d)
tried_at place (other {n = n} {s = s} {o = o} h b) = told (is_builtin n) n place s o []
tried_at place (pos_pred d) = tried_at place d
tried_at place (neg_pred d) = []
tried_at place (push d) = tried_at place d
tried_at place push_literal = []
tried_at place (tag d) = tried_at place d
tried_at place (restore d) = tried_at place d
tried_at place (seq a k b) = tried_at place a ++ (tried_at place k ++ tried_at place b)
tried_at place (seq_first a) = tried_at place a
tried_at place (seq_second a k b) = tried_at place a ++ (tried_at place k ++ tried_at place b)
tried_at place (left a) = tried_at place a
tried_at place (right a b) = tried_at place a ++ tried_at place b
tried_at place (opt a) = tried_at place a
tried_at place (opt_none a) = tried_at place a
tried_at place (rep a b) = tried_at place a ++ tried_at place b
tried_at place (rep_none a) = tried_at place a
tried_at place (turn k a b) = tried_at place k ++ (tried_at place a ++ tried_at place b)
tried_at place (turn_none k a) = tried_at place k ++ tried_at place a
tried_at place (rep_once d) = tried_at place d
tried_at place (rep_exact d) = tried_at place d
tried_at place (rep_min d) = tried_at place d
tried_at place (rep_max d) = tried_at place d
tried_at place (rep_min_max d) = tried_at place d
tried_at place (skips d) = tried_at place d
tried_at place atomic = []
tried_at place compound_atomic = []
tried_at place between = []

-- the greatest position at which one of them fails, below a `!` or not
abbrev pub furthest_try : {g : Grammar} {classes : Classes} {k : Task} {s : State} {o : Outcome}
    → Does g classes k s o → ℕ
furthest_try (str {t = t} {s = s}) = place_of true s (text_outcome nat_eq t s)
furthest_try (insens {t = t} {s = s}) = place_of true s (text_outcome eq_ignore_ascii_case t s)
furthest_try (range {a = a} {b = b} {s = s}) = place_of true s (character_outcome (range_set a b) s)
furthest_try (slice {i = i} {j = j} {s = s}) = place_of true s (slice_outcome i j s)
furthest_try skip = 0
furthest_try (call {n = n} {s = s} {o = o} {r = r} h d) =
    max (place_of (is_builtin n || is_token r) s o) (furthest_try d)
furthest_try (other {n = n} {s = s} {o = o} h b) = place_of (is_builtin n) s o
furthest_try (pos_pred d) = furthest_try d
furthest_try (neg_pred d) = furthest_try d
furthest_try (push d) = furthest_try d
furthest_try push_literal = 0
furthest_try (tag d) = furthest_try d
furthest_try (restore d) = furthest_try d
furthest_try (seq a k b) = max (furthest_try a) (max (furthest_try k) (furthest_try b))
furthest_try (seq_first a) = furthest_try a
furthest_try (seq_second a k b) = max (furthest_try a) (max (furthest_try k) (furthest_try b))
furthest_try (left a) = furthest_try a
furthest_try (right a b) = max (furthest_try a) (furthest_try b)
furthest_try (opt a) = furthest_try a
furthest_try (opt_none a) = furthest_try a
furthest_try (rep a b) = max (furthest_try a) (furthest_try b)
furthest_try (rep_none a) = furthest_try a
furthest_try (turn k a b) = max (furthest_try k) (max (furthest_try a) (furthest_try b))
furthest_try (turn_none k a) = max (furthest_try k) (furthest_try a)
furthest_try (rep_once d) = furthest_try d
furthest_try (rep_exact d) = furthest_try d
furthest_try (rep_min d) = furthest_try d
furthest_try (rep_max d) = furthest_try d
furthest_try (rep_min_max d) = furthest_try d
furthest_try (skips d) = furthest_try d
furthest_try atomic = 0
furthest_try compound_atomic = 0
furthest_try between = 0

-- what is told of a name that is expected by exposed rules: a terminal as it is written, or the rule itself
abbrev pub tag_or : Option Text → Text → Text
tag_or (Some t) n = t
tag_or None n = n

abbrev pub label_of : Text → Text
label_of n = tag_or (tag_in n) n

-- a task has, by these rules, the outcome o with other trees; what is expected there are these terminals, and
-- its furthest failure is at this position
pub record Tells (g : Grammar) (classes : Classes) (k : Task) (s : State) (o : Outcome)
    (tried : ℕ → List Text) (place : ℕ) : Type 0 where
  pub trees : Trees
  pub found : Does g classes k s (with_trees trees o)
  pub names : (at : ℕ) → map label_of (expected_at at found) ≡ tried at
  pub same_place : furthest found ≡ place

-- two derivations have the same outcome but for trees. What is expected in the second one are the terminals
-- that the first one tries, at each position, and their furthest failures are at one position
pub record IsToldOf {g h : Grammar} {classes : Classes} {k l : Task} {s : State} {o p : Outcome}
    (d : Does g classes k s o) (e : Does h classes l s p) : Type 0 where
  pub alike : (trees : Trees) × (p ≡ with_trees trees o)
  pub names : (at : ℕ) → map label_of (expected_at at e) ≡ tried_at at d
  pub same_place : furthest e ≡ furthest_try d
