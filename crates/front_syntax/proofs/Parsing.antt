-- From a run of a rule to what the text spells.
use Rattle.std.proofs.Common.{◌≡◌, refl, sym, ◌∙◌, ap, subst, ℕ, List, [], Option, Some, None, Result, Ok, Err, IfOk, Vec, Global, length, map, chars, false, arith}
use Rattle.std.specs.Str.{IsCharBoundary, IsUtf8}
use Rattle.std.specs.declared.alloc.AllocError.{AllocError}
use Rattle.base_language.specs.Language.Expected.{expected_at}
use Rattle.base_language.specs.Language.FurthestFailure.{furthest}
use Rattle.base_language.specs.Language.Places.{IsStateIn}
use Rattle.base_language.specs.Language.State.{Classes, Trees, Failure, Success}
use Rattle.base_language.specs.Language.Text.{Text}
use Rattle.base_language.specs.Pieces.NamedTrees.{named}
use Rattle.base_language.specs.Pieces.TokenTrees.{TokenTrees, AreNested}
use Rattle.base_language.specs.declared.grammar.Rule.{Rule}
use Rattle.base_language.specs.declared.runtime.faults.Fault.{Fault}
use Rattle.base_language.specs.declared.runtime.faults.Fault.TheVariants as fault_is
use Rattle.base_language.proofs.ExpectedOnce.{one_list}
use Rattle.base_language.proofs.FailurePlaces.{one_place}
use Rattle.base_language.proofs.FailuresStand.{stands_at}
use Rattle.base_language.proofs.InBytes.{ends_within, nested_bytes, on_bytes}
use Rattle.base_language.proofs.OneOutcome.{same}
use Rattle.base_language.proofs.PairLemmas.{AreNested-wider}
use Rattle.base_language.proofs.TreesAreNested.{fits}
use Rattle.front_grammar.specs.MetaGrammar.{meta_grammar}
use Rattle.front_grammar.specs.Outcomes.{Recognizes, Spells, start_of}
use Rattle.front_code.specs.Numbers.{number_of}
use Rattle.front_code.specs.Runs.{HasEnded, IsMatch, IsParseOf, IsRunOf, Parses}
use Rattle.front_code.specs.declared.runs.RuleRun.{RuleRun}
use Rattle.front_code.proofs.TreeNames.{numbered}
use Rattle.matcher_code.specs.Steps.{insert_rules}
use Rattle.front_syntax.specs.declared.events.TokenEvent.{TokenEvent}
use Rattle.front_syntax.specs.TokenEvents.{IsWhole, named_events}
use Rattle.front_syntax.specs.ExpectedRules.{AreExpected, ExpectsNothing, rules_named}
use Rattle.front_syntax.specs.Parses.{AreTokensOf, FailsAt, IsSyntaxErrorOrMemory, ParseRefuses}
use Rattle.front_syntax.specs.Nodes.{AreNodesOf, AreSpelledNodes}
use Rattle.front_syntax.proofs.Building.{all_built}
use Rattle.front_syntax.proofs.TokenEventLists.{events-whole}

no_classes : Classes
no_classes n c = false

stands_first : (text : List ℕ) → IsStateIn (chars text) (start_of text)
stands_first text = record { front = []; split = refl; size = refl }

module _ (rule : Rule) (text : List ℕ) (run : RuleRun) where
  match_nodes : (end : ℕ) (classes : Classes) (x : IsMatch rule text run end classes) → AreNodesOf run.trees.items x.trees
  match_nodes end classes x = record { numbered = numbered classes x.found; same = x.nodes }

  pub spelled_nodes : (end : ℕ) → run.end ≡ Some end → IsParseOf rule text run → AreSpelledNodes rule text run.trees.items
  spelled_nodes end e h =
      let x : (classes : Classes) → IsMatch rule text run end classes = subst (Parses rule text run) e h in
      let us = (x no_classes).trees in
      let here = match_nodes end no_classes (x no_classes) in
      record {
        trees = us;
        spelled = λ classes.
            (let y = x classes in
            let one : y.trees ≡ us = sym (all_built run.trees.items y.trees (match_nodes end classes y)) ∙ all_built run.trees.items us here in
            (y.state, subst (λ vs. Recognizes rule text classes (Success y.state vs)) one y.found));
        are_nodes = here;
      }

  pub fails_at : run.end ≡ None → IsParseOf rule text run → FailsAt rule text run.furthest
  fails_at e h classes =
      let x = subst (Parses rule text run) e h in
      ((x classes).found, (x classes).furthest)

pub tokens_whole : (rule : Rule) (text : List ℕ) (es : List TokenEvent) → AreTokensOf rule text es → IsWhole 0 (named_events es)
tokens_whole rule text es t = subst (λ l. IsWhole 0 l) (sym t.2) (events-whole 0 t.0)

-- the places of what a text spells, and of a failure
pub nested_in_text : (rule : Rule) (text : List ℕ) (trees : TokenTrees Rule) → IsUtf8 text → Spells rule text (named trees) → AreNested text trees 0 (length text)
nested_in_text rule text trees utf8 s =
    let x = s no_classes in
    let f = fits (chars text) x.1 (stands_first text) in
    AreNested-wider text trees 0 x.0.position 0 (length text) (nested_bytes text utf8 trees 0 x.0.position f.1) (omega arith) (ends_within text utf8 x.0 f.0)

pub fails_on_character : (rule : Rule) (text : List ℕ) (place : ℕ) → IsUtf8 text → FailsAt rule text place → IsCharBoundary text place
fails_on_character rule text place utf8 f =
    let x = f no_classes in
    let p = on_bytes text utf8 (furthest x.0) (stands_at (chars text) x.0 (stands_first text)) in
    rw (← x.1) at p

pub refuses : (rule : Rule) (text : List ℕ) (place : ℕ) (fault : Fault) → FailsAt rule text place → IsSyntaxErrorOrMemory text place fault → ParseRefuses rule text fault
refuses rule text place (fault_is.Memory e) f h = tt
refuses rule text place (fault_is.Grammar errors) f h = record { place = place; fails = f; says = h }

-- what is expected
module _ (rule : Rule) (text : List ℕ) where
  pub nothing_where_it_fails : (place : ℕ) (rules : List Rule) → FailsAt rule text place → ExpectsNothing rule text rules
  nothing_where_it_fails place rules f classes t us d = let e = same meta_grammar classes (f classes).0 d in cc

  pub no_failure : (us : Trees) (rules : List Rule) → Spells rule text us → AreExpected rule text rules
  no_failure us rules s classes d = let e = same meta_grammar classes (s classes).1 d in cc

  -- the names of a run that fails
  names_where_it_fails : (place : ℕ) (run : RuleRun) (end : Option ℕ) (classes : Classes) (d : Recognizes rule text classes Failure) → HasEnded rule text place run end
      → run.names.items ≡ insert_rules [] (map number_of (expected_at place d))
  names_where_it_fails place run (Some end) classes d h = let e = same meta_grammar classes (h classes).found d in cc
  names_where_it_fails place run None classes d h =
      (h classes).names ∙ ap (λ names. insert_rules [] (map number_of names)) (one_list meta_grammar classes place (h classes).found d)

  pub nothing_if_ok : (place : ℕ) (result : Result (Vec Rule Global) AllocError) → FailsAt rule text place → IfOk result (λ rules. ExpectsNothing rule text rules.items)
  nothing_if_ok place (Ok rules) f = nothing_where_it_fails place rules.items f
  nothing_if_ok place (Err e) f = tt

  pub expected_if_ok : (place : ℕ) (run : RuleRun) (result : Result (Vec Rule Global) AllocError) → FailsAt rule text place → IsRunOf rule text place run
      → ((names : List Text) → run.names.items ≡ insert_rules [] (map number_of names) → IfOk result (λ rules. rules.items ≡ rules_named names)) → IfOk result (λ rules. AreExpected rule text rules.items)
  expected_if_ok place run (Ok rules) f h told = λ classes d.
      (let e : place ≡ furthest d = (f classes).1 ∙ one_place meta_grammar classes (f classes).0 d in
      told (expected_at place d) (names_where_it_fails place run run.end classes d h) ∙ ap (λ n. rules_named (expected_at n d)) e)
  expected_if_ok place run (Err e) f h told = tt
