-- Matches by wrapped rules show the tagged trees of the plain ones.
use Rattle.std.proofs.Common.{◌≡◌, ◌<◌, ◌+◌, ◌^◌, refl, sym, ◌∙◌, ap, subst, [], ◌++◌, Option, Some, None, length, arith}
use Rattle.std.specs.List.{AllByRecursion}
use Rattle.std.proofs.lemmas.List.Elements.{recursion_from_All}
use Rattle.base_language.specs.Language.Text.{Text}
use Rattle.base_language.specs.Language.Expression.{Grammar, Rule, Ident, rule_of}
use Rattle.base_language.specs.Language.State.{Classes, State, NonAtomicMode, Outcome, Success, Failure}
use Rattle.base_language.specs.Language.Meaning.{Does, Run}
use Rattle.base_language.proofs.OneOutcome.{same}
use Rattle.matcher_support.specs.Names.{tag_in}
use Rattle.matcher_support.specs.Wrapped.{wrapped_rules, wrapped_grammar}
use Rattle.matcher_support.specs.Tags.{tagged}
use Rattle.matcher_support.specs.Spliced.{CanWrap, HasNoMark, Shows}
use Rattle.matcher_support.proofs.Made.{Knows, MadeRules, made_rules}
use Rattle.matcher_support.proofs.Finding.{rule_of_both, absent, absent_wrapper, own, knows_before, unmarked}
use Rattle.matcher_support.proofs.BuiltinNames.{builtin_unmarked, stay_other}
use Rattle.matcher_support.proofs.Wraps.{run, ident}
use Rattle.matcher_support.proofs.Showing.{AreWrapped, IsWrappedAs, shows}

module _ (g : Grammar) (classes : Classes) (c : CanWrap g) where
  pub names : AllByRecursion HasNoMark g
  names = recursion_from_All HasNoMark g c.names

  result : Grammar × Grammar
  result = wrapped_rules g []

  made' : MadeRules g [] (wrapped_rules g [])
  made' = made_rules g []

  few : 0 + length (made_rules g []).more < 2 ^ 64
  few = let e : length (wrapped_rules g []).1 ≡ length (made_rules g []).more = ap length (made_rules g []).split in omega (arith, c.few, e)

  knows : Knows (wrapped_grammar g) (made_rules g []).more
  knows =
      let m = made_rules g [] in
      subst (λ u. Knows (u ++ (wrapped_rules g []).0) m.more) (sym m.split)
      (knows_before 0 m.more (wrapped_rules g []).0 m.more (λ n t h. m.none n (absent g n t names h)) m.numbered few
      (own 0 m.more m.numbered few))

  pub others : (n : Text) → rule_of g n ≡ None → tag_in n ≡ None → rule_of (wrapped_grammar g) n ≡ None
  others n e h =
      let m = made_rules g [] in
      let a : rule_of (wrapped_rules g []).1 n ≡ None = ap (λ u. rule_of u n) m.split ∙ absent_wrapper 0 m.more n m.numbered few h in
      rule_of_both (wrapped_rules g []).1 (wrapped_rules g []).0 n ∙ rw (m.none n e) a

  pub rules : (n : Text) (r : Rule) → rule_of g n ≡ Some r → IsWrappedAs (wrapped_grammar g) n r
  rules n r e =
      let m = made_rules g [] in
      let x = m.found (wrapped_grammar g) n r c.few knows e in
      record {
        body = x.body;
        found = rule_of_both (wrapped_rules g []).1 (wrapped_rules g []).0 n ∙ rw x.found refl;
        name = unmarked g n r names e;
        wraps = x.wraps;
      }

  are_wrapped : AreWrapped g (wrapped_grammar g) classes
  are_wrapped = record {
    rules = rules;
    others = others;
    builtins = λ m n s o p e. builtin_unmarked classes m n s o p e;
    tokens = λ m n s o us e. stay_other classes m n s o e us;
  }

  pub shows_tags : (n : Text) (s : State) (o : Outcome) (d : Does g classes (Run NonAtomicMode (Ident n)) s o)
      → Shows (wrapped_grammar g) classes (Run NonAtomicMode (Ident n)) s o (tagged d)
  shows_tags n s o d = shows g (wrapped_grammar g) classes are_wrapped d (run (ident tt))

  pub fails_alike : (n : Text) (s : State) (o : Outcome) → Does g classes (Run NonAtomicMode (Ident n)) s o
      → Does (wrapped_grammar g) classes (Run NonAtomicMode (Ident n)) s Failure → o ≡ Failure
  fails_alike n s Failure d e = refl
  fails_alike n s (Success t us) d e = let h = same (wrapped_grammar g) classes (shows_tags n s (Success t us) d).found e in cc

  -- a name that no wrapped rule has is that of no rule
  pub unknown_alike : (n : Text) → rule_of (wrapped_grammar g) n ≡ None → rule_of g n ≡ None
  unknown_alike n h = go (rule_of g n) refl
    where
      go : (o : Option Rule) → rule_of g n ≡ o → rule_of g n ≡ None
      go None e = e
      go (Some r) e = let f = (rules n r e).found in cc
