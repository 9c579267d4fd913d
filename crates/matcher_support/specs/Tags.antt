-- Tags of the trees of a match.
use Rattle.std.specs.Prelude.{ℕ, Bool, true, false, Option, Some, None, if◌then◌else◌}
use Rattle.base_language.specs.Language.Text.{Text}
use Rattle.base_language.specs.Language.Expression.{Grammar, Rule}
use Rattle.base_language.specs.Language.State.{Classes, Mode, State, Trees, None', Tree, Outcome, Success, Failure}
use Rattle.base_language.specs.Language.Meaning.{Does, Task, str, insens, range, slice, skip, call, other, pos_pred, neg_pred, push, restore, seq, seq_first, seq_second, left, right, opt, opt_none, rep_none, turn, turn_none, rep_exact, rep_max, rep_min_max, skips, atomic, compound_atomic, between, gives_token, seen_from, rep, rep_once, rep_min, push_literal, tag}
use Rattle.base_language.specs.Pieces.TokenTrees.{TokenTrees, NoTokens, Token, followed_by}

-- trees with the names of their rules, and with their tags
abbrev pub TaggedTrees : Type 0
TaggedTrees = TokenTrees (Text × Option Text)

-- the trees without their tags
abbrev pub untagged : TaggedTrees → Trees
untagged NoTokens = None'
untagged (Token r i j inner others) = Tree r.0 i j (untagged inner) (untagged others)

-- the trees, none of them with a tag
abbrev pub without_tags : Trees → TaggedTrees
without_tags None' = NoTokens
without_tags (Tree n i j inner others) = Token (n, None) i j (without_tags inner) (without_tags others)

abbrev pub has_trees : TaggedTrees → Bool
has_trees NoTokens = false
has_trees (Token r i j inner others) = true

-- the last of the trees gets a tag in place of its own; if there is no tree, nothing does
abbrev pub with_tag : Text → TaggedTrees → TaggedTrees
with_tag t NoTokens = NoTokens
with_tag t (Token r i j inner others) =
    if has_trees others then Token r i j inner (with_tag t others) else Token (r.0, Some t) i j inner others

-- trees, and then one without a tag: `inside` gives the trees inside it
abbrev pub with_tree : Text → ℕ → ℕ → (TaggedTrees → TaggedTrees) → TaggedTrees → TaggedTrees
with_tree n i j inside us = followed_by us (Token (n, None) i j (inside NoTokens) NoTokens)

-- the trees of an outcome
abbrev pub trees_in : Outcome → Trees
trees_in Failure = None'
trees_in (Success t us) = us

-- a call gives a tree of its own round those of the body, or these alone
abbrev pub called : Rule → Mode → State → Outcome → (TaggedTrees → TaggedTrees) → TaggedTrees → TaggedTrees
called r m s Failure body us = us
called r m s (Success t vs) body us =
    if gives_token r.type_of m then with_tree r.name s.position t.position body us else body us

-- The trees of a match, after those that precede it inside the same tree. If a tagged expression has
-- matched, the last tree so far gets the tag, if the mode gives tokens.
abbrev pub tagged : {g : Grammar} {classes : Classes} {k : Task} {s : State} {o : Outcome}
    → Does g classes k s o → TaggedTrees → TaggedTrees
tagged str us = us
tagged insens us = us
tagged range us = us
tagged slice us = us
tagged skip us = us
tagged (call {m = m} {s = s} {o = o} {r = r} h d) us = called r m s o (tagged d) us
tagged (other {o = o} h b) us = followed_by us (without_tags (trees_in o))
tagged (pos_pred d) us = us
tagged (neg_pred d) us = us
tagged (push d) us = tagged d us
tagged push_literal us = us
tagged (tag {m = m} {t = t} d) us = if seen_from m then with_tag t (tagged d us) else tagged d us
tagged (restore d) us = tagged d us
tagged (seq a k b) us = tagged b (tagged k (tagged a us))
tagged (seq_first a) us = us
tagged (seq_second a k b) us = us
tagged (left a) us = tagged a us
tagged (right a b) us = tagged b us
tagged (opt a) us = tagged a us
tagged (opt_none a) us = us
tagged (rep a b) us = tagged b (tagged a us)
tagged (rep_none a) us = us
tagged (turn k a b) us = tagged b (tagged a (tagged k us))
tagged (turn_none k a) us = us
tagged (rep_once d) us = tagged d us
tagged (rep_exact d) us = tagged d us
tagged (rep_min d) us = tagged d us
tagged (rep_max d) us = tagged d us
tagged (rep_min_max d) us = tagged d us
tagged (skips d) us = tagged d us
tagged atomic us = us
tagged compound_atomic us = us
tagged between us = us
