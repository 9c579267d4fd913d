-- Texts of grammars with equal tokens are read as the same rules.
use Rattle.std.proofs.Common.{◌≡◌, sym, ◌∙◌, ap, subst, ℕ, List, Bool, true, false, None, Result, Ok, Err, IfOk}
use Rattle.std.specs.Str.{IsUtf8}
use Rattle.base_language.specs.Language.Expression.{Grammar}
use Rattle.base_language.specs.Language.State.{Classes, Trees, None', Outcome, Success, Failure}
use Rattle.base_language.specs.declared.grammar.Rule.{Rule}
use Rattle.base_language.specs.declared.grammar.Rule.TheVariants.{grammar_rules}
use Rattle.base_language.proofs.OneOutcome as once
use Rattle.front_grammar.specs.MetaGrammar.{meta_grammar}
use Rattle.front_grammar.specs.Outcomes.{Spells}
use Rattle.front_grammar.specs.Shape.{AreGrammarTrees}
use Rattle.front_syntax.specs.declared.events.TokenEvent.{TokenEvent}
use Rattle.front_reader.specs.Flaws.{first_flaw}
use Rattle.front_reader.specs.Reading.{ReadsRules}
use Rattle.format_grammar.specs.Formatting.{AreTokens, SameTokens}
use Rattle.format_grammar.specs.Reading.{IsReadAs, SameRules}
use Rattle.format_grammar.proofs.LeafTokens.{grammar}
use Rattle.format_grammar.proofs.SimilarReading.{rules_same, flawless_same}
use Rattle.format_grammar.proofs.SimilarTrees.{similar_trees}

no_classes : Classes
no_classes n c = false

abbrev trees_in : Outcome → Trees
trees_in (Success t us) = us
trees_in Failure = None'

spelled_once : (rule : Rule) (text : List ℕ) (us vs : Trees) → Spells rule text us → Spells rule text vs → us ≡ vs
spelled_once rule text us vs s t =
    ap trees_in (once.same meta_grammar no_classes (s no_classes).1 (t no_classes).1)

HaveShape : Type 0
HaveShape = (text : List ℕ) (us : Trees) → IsUtf8 text → Spells grammar_rules text us → AreGrammarTrees text us

-- a text of the tokens of another is read as all rules that this is read as
read_again : HaveShape → (text other : List ℕ) (events others : List TokenEvent) → IsUtf8 text → AreTokens text events → AreTokens other others
    → SameTokens text events other others → (rules : Grammar) → IsReadAs text rules → IsReadAs other rules
unfolding HaveShape
read_again shape text other events others utf8 of_text of_other same rules h =
    let similar = similar_trees text other events others of_text.0 of_other.0 of_text.2 of_other.2
    (grammar text (shape text of_text.0 utf8 of_text.1)) same in
    let e = spelled_once grammar_rules text h.trees of_text.0 h.spelled of_text.1 in
    let read = rules_same text other (subst (λ (us : Trees). ReadsRules text us h.spanned) e h.read) similar in
    record {
      trees = of_other.0;
      spelled = of_other.1;
      spanned = read.rules;
      read = read.reads;
      flawless = flawless_same text other similar (subst (λ (us : Trees). first_flaw text us ≡ None) e h.flawless);
      same = h.same ∙ read.same;
    }

pub same_rules : ((text : List ℕ) (us : Trees) → IsUtf8 text → Spells grammar_rules text us → AreGrammarTrees text us)
    → (text other : List ℕ) (events others : List TokenEvent) → IsUtf8 text → IsUtf8 other → AreTokens text events → AreTokens other others
    → SameTokens text events other others → SameRules text other
unfolding HaveShape
same_rules shape text other events others utf8 utf8' of_text of_other same = record {
  same = λ rules. (
    read_again shape text other events others utf8 of_text of_other same rules,
    read_again shape other text others events utf8' of_other of_text (sym same) rules,
  );
}

-- a test that holds only if one fact holds, holds only if another one does
pub only_if : {E : Type 0} (r : Result Bool E) (P Q : Type 0) → (P → Q) → IfOk r (λ b. b ≡ true → P) → IfOk r (λ b. b ≡ true → Q)
only_if (Ok b) P Q f h = λ e. f (h e)
only_if (Err x) P Q f h = h
