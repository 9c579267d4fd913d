-- What is expected by exposed rules are the terminals that the rules themselves try.
use Rattle.std.proofs.Common.{◌≡◌, refl, sym, ◌∙◌, ap, subst, [], ◌∷◌, if◌then◌else◌, Bool, true, false, Option, Some, None, bytes_eq, codes, map}
use Rattle.std.proofs.lemmas.Slice.Eq.{bytes_eq-Decides}
use Rattle.base_language.specs.Language.Text.{Text}
use Rattle.base_language.specs.Language.Builtins.{Builtin, One, Property, Newline, Soi, Eoi, Peek, Pop, Drop, PeekAll, PopAll, builtins, builtin_of, property_names, general_categories, binary_properties, scripts}
use Rattle.base_language.specs.Language.Expression.{Grammar, Ident, Rule, comment, or_else, rule_of, whitespace}
use Rattle.base_language.specs.Language.FurthestFailure.{is_eoi}
use Rattle.base_language.specs.Language.Matching.{end_outcome, named_outcome, other_outcome}
use Rattle.base_language.specs.Language.Meaning.{Does, Run, skipped}
use Rattle.base_language.specs.Language.State.{AtomicMode, Between, Classes, CompoundAtomicMode, Failure, Mode, NonAtomicMode, None', Outcome, State, Success, Tree, Trees}
use Rattle.front_names.specs.Names.{is_builtin}
use Rattle.matcher_support.specs.Names.{tag_in}
use Rattle.matcher_support.specs.Spliced.{CanWrap, with_trees}
use Rattle.matcher_support.proofs.BuiltinNames.{builtin_unmarked}
use Rattle.matcher_support.proofs.Finding.{absent}
use Rattle.matcher_support.proofs.Naming.{unmarked_comment, unmarked_whitespace}
use Rattle.matcher_support.proofs.WrappedRules as wrapped_rules
use Rattle.matcher_support.proofs.Wraps.{Wraps, skipping_wraps}
use Rattle.matcher_support.proofs.Wraps as w
use Rattle.matcher_terminals.specs.Exposed.{exposed, labelled, labelled_rule}
use Rattle.matcher_terminals.specs.Tried.{Tells, furthest_try, tried_at}
use Rattle.matcher_terminals.proofs.Trying.{Alike, AreExposed, IsExposedAs, run, seen_mode, tells}

abbrev labelled_option : Option Rule → Option Rule
labelled_option None = None
labelled_option (Some r) = Some (labelled_rule r)

next_rule : (o : Option Rule) (r : Rule) (b : Bool) → or_else (labelled_option o) (if b then Some (labelled_rule r) else None)
    ≡ labelled_option (or_else o (if b then Some r else None))
next_rule (Some q) r b = refl
next_rule None r true = refl
next_rule None r false = refl

rule_labelled : (g : Grammar) (n : Text) → rule_of (map labelled_rule g) n ≡ labelled_option (rule_of g n)
rule_labelled [] n = refl
rule_labelled (r ∷ g) n = rw (rule_labelled g n) (next_rule (rule_of g n) r (bytes_eq r.name n))

whitespace_is_none : is_builtin whitespace ≡ false
unfolding whitespace builtins property_names general_categories binary_properties scripts
whitespace_is_none = refl

comment_is_none : is_builtin comment ≡ false
unfolding comment builtins property_names general_categories binary_properties scripts
comment_is_none = refl

end_is_one : is_builtin (codes "EOI") ≡ true
unfolding builtins
end_is_one = refl

skipped_alike : labelled skipped ≡ skipped
skipped_alike = rw (whitespace_is_none, comment_is_none) refl

no_end : (n : Text) → is_builtin n ≡ false → is_eoi n ≡ false
no_end n e = go (is_eoi n) refl
  where
    go : (b : Bool) → is_eoi n ≡ b → is_eoi n ≡ false
    go false i = i
    go true i =
        let q : n ≡ codes "EOI" = (bytes_eq-Decides n (codes "EOI")).0 i in
        let k : true ≡ false = sym end_is_one ∙ (ap is_builtin (sym q) ∙ e) in cc

-- builtins in Atomic and in CompoundAtomic
record AlikeThere (classes : Classes) (b : Option Builtin) (s : State) (o : Outcome) : Type 0 where
  trees : Trees
  is : named_outcome classes CompoundAtomicMode b s ≡ Some (with_trees trees o)

as_they_are : (classes : Classes) (b : Option Builtin) (s : State) (o : Outcome) → named_outcome classes CompoundAtomicMode b s ≡ Some o → AlikeThere classes b s o
as_they_are classes b s Failure e = record { trees = None'; is = e }
as_they_are classes b s (Success t us) e = record { trees = us; is = e }

ends : (classes : Classes) (s : State) (u : Text) (o : Outcome) → s.rest ≡ u → Some (end_outcome AtomicMode u s) ≡ Some o → AlikeThere classes (Some Eoi) s o
ends classes s [] Failure q e = cc
ends classes s [] (Success t us) q e =
    let k : s ≡ t = cc in
    record { trees = Tree (codes "EOI") s.position s.position None' None'; is = ap (λ u. Some (end_outcome CompoundAtomicMode u s)) q ∙ ap (λ v. Some (Success v (Tree (codes "EOI") s.position s.position None' None'))) k }
ends classes s (c ∷ u) Failure q e = record { trees = None'; is = ap (λ v. Some (end_outcome CompoundAtomicMode v s)) q }
ends classes s (c ∷ u) (Success t us) q e = cc

named_alike : (classes : Classes) (b : Option Builtin) (s : State) (o : Outcome) → named_outcome classes AtomicMode b s ≡ Some o → AlikeThere classes b s o
named_alike classes None s o e = cc
named_alike classes (Some (One set)) s o e = as_they_are classes (Some (One set)) s o e
named_alike classes (Some (Property n)) s o e = as_they_are classes (Some (Property n)) s o e
named_alike classes (Some Newline) s o e = as_they_are classes (Some Newline) s o e
named_alike classes (Some Soi) s o e = as_they_are classes (Some Soi) s o e
named_alike classes (Some Eoi) s o e = ends classes s s.rest o refl e
named_alike classes (Some Peek) s o e = as_they_are classes (Some Peek) s o e
named_alike classes (Some Pop) s o e = as_they_are classes (Some Pop) s o e
named_alike classes (Some Drop) s o e = as_they_are classes (Some Drop) s o e
named_alike classes (Some PeekAll) s o e = as_they_are classes (Some PeekAll) s o e
named_alike classes (Some PopAll) s o e = as_they_are classes (Some PopAll) s o e

same_mode : (classes : Classes) (m : Mode) (n : Text) (s : State) (o : Outcome) → other_outcome classes m n s ≡ Some o → Alike classes m n s o
same_mode classes m n s Failure e = record { trees = None'; is = e }
same_mode classes m n s (Success t us) e = record { trees = us; is = e }

others_alike : (classes : Classes) (m : Mode) (n : Text) (s : State) (o : Outcome) → other_outcome classes m n s ≡ Some o → Alike classes (seen_mode m) n s o
others_alike classes NonAtomicMode n s o e = same_mode classes NonAtomicMode n s o e
others_alike classes AtomicMode n s o e =
    let x = named_alike classes (builtin_of n) s o e in
    record { trees = x.trees; is = x.is }
others_alike classes CompoundAtomicMode n s o e = same_mode classes CompoundAtomicMode n s o e
others_alike classes Between n s o e = same_mode classes Between n s o e

module _ (g : Grammar) (classes : Classes) (c : CanWrap (map labelled_rule g)) where
  found_labelled : (n : Text) (r : Rule) → rule_of g n ≡ Some r → rule_of (map labelled_rule g) n ≡ Some (labelled_rule r)
  found_labelled n r e = rule_labelled g n ∙ ap labelled_option e

  unmarked_name : (n : Text) (r : Rule) → rule_of g n ≡ Some r → tag_in n ≡ None
  unmarked_name n r e = go (tag_in n) refl
    where
      go : (o : Option Text) → tag_in n ≡ o → tag_in n ≡ None
      go None i = i
      go (Some t) i =
          let k : None ≡ Some (labelled_rule r) =
          sym (absent (map labelled_rule g) n t (wrapped_rules.names (map labelled_rule g) classes c) i) ∙ found_labelled n r e in cc

  exposed_rule : (n : Text) (r : Rule) → rule_of g n ≡ Some r → IsExposedAs (exposed g) n r
  exposed_rule n r e =
      let x = wrapped_rules.rules (map labelled_rule g) classes c n (labelled_rule r) (found_labelled n r e) in
      record { body = x.body; found = x.found; name = unmarked_name n r e; wraps = x.wraps }

  are_exposed : AreExposed g (exposed g) classes
  are_exposed = record {
    rules = exposed_rule;
    others = λ n e q. wrapped_rules.others (map labelled_rule g) classes c n (rule_labelled g n ∙ ap labelled_option e) q;
    builtins = λ m n s o p e. builtin_unmarked classes m n s o p e;
    skips = subst (λ e. Wraps (exposed g) Between e skipped) (sym skipped_alike) (skipping_wraps (exposed g) Between unmarked_whitespace unmarked_comment);
    alike = others_alike classes;
    ends = no_end;
  }

  pub tells_tried : (n : Text) (s : State) (o : Outcome) → is_builtin n ≡ false → (d : Does g classes (Run NonAtomicMode (Ident n)) s o)
      → Tells (exposed g) classes (Run NonAtomicMode (Ident n)) s o (λ at. tried_at at d) (furthest_try d)
  tells_tried n s o e d = tells g (exposed g) classes are_exposed d (run {m = NonAtomicMode} (rw e (w.ident tt)))
