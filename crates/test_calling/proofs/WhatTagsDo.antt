-- The facts on tags and literal pushes.
use Rattle.std.proofs.Common.{◌≡◌, refl, ◌∷◌}
use Rattle.base_language.specs.Language.Text.{Text}
use Rattle.base_language.specs.Language.Expression.{Expression, Grammar, PushLiteral, NodeTag, whitespace, comment}
use Rattle.base_language.specs.Language.State.{Classes, Mode, State, Outcome}
use Rattle.base_language.specs.Language.Builtins.{builtins}
use Rattle.base_language.specs.Language.Meaning.{Matches, str, call, other, seq, seq_second, right, push_literal, tag, atomic, compound_atomic}
use Rattle.base_language.specs.Language.LooseMeaning.{loose_other, loose_push_literal, loose_tag}
use Rattle.test_calling.specs.SmallGrammars.{ends_at}
use Rattle.test_calling.specs.TagsAndPushes.{LiteralPushes, TagsMeanNothing}
use Rattle.test_calling.proofs.WhatIsExpected.{expects}

module _ (classes : Classes) where
  nothing_else : (g : Grammar) (t : Text) (m : Mode) (s : State) (o : Outcome) → Matches g classes (PushLiteral t) m s o → o ≡ ends_at (record { position = s.position; rest = s.rest; stack = t ∷ s.stack })
  nothing_else g t m s _ push_literal = refl

  pub literal_pushes : LiteralPushes classes
  unfolding builtins
  literal_pushes = record {
    pushes = push_literal;
    the_empty_text = push_literal;
    nothing_else = nothing_else;
    popped = seq push_literal atomic (other refl refl);
    given_back = right (seq_second push_literal atomic str) (other refl refl);
    no_tree = call refl (seq push_literal compound_atomic (call refl str));
    loosely = loose_push_literal;
  }

  untagged : (g : Grammar) (e : Expression) (t : Text) (m : Mode) (s : State) (o : Outcome) → Matches g classes (NodeTag e t) m s o → Matches g classes e m s o
  untagged g e t m s o (tag d) = d

  pub tags_mean_nothing : TagsMeanNothing classes
  unfolding builtins whitespace comment
  tags_mean_nothing = record {
    same_outcomes = λ g e t m s o. (untagged g e t m s o, λ d. tag d);
    same_trees = call refl (tag (call refl str));
    fails = call refl (tag (call refl str));
    loses = λ t. loose_tag (loose_other refl refl);
    expected = λ t. expects (call refl (seq_second str compound_atomic (tag (call refl str)))) refl;
  }
