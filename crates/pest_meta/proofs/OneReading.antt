-- A text is read in one way at most, up to nesting.
use Rattle.std.proofs.Common.{◌≡◌, sym, ◌∙◌, ap, refl, subst, [], ◌∷◌, false, codes}
use Rattle.base_language.specs.Language.Expression.{Expression, Ident, NegPred, Opt, Grammar}
use Rattle.base_language.proofs.OneOutcome.{same, same_trees}
use Rattle.front_grammar.specs.MetaGrammar.{meta_grammar}
use Rattle.front_spanned.specs.Erasure.{rules_without_spans}
use Rattle.front_reader.specs.Reading.{ReadsRules}
use Rattle.front_reader.proofs.Uniqueness.{rules_once}
use Rattle.pest_meta.specs.Nesting.{nested_rules}
use Rattle.pest_meta.specs.ReadsBack.{rule_x, ReadsAsOne, PredicateBeforeQuestionMark}
use Rattle.pest_meta.proofs.WholeGrammar.{reads_back}

pub reads_as_one : ReadsAsOne
reads_as_one text g h i j =
    let x = i.spelled (λ n c. false) in
    let y = j.spelled (λ n c. false) in
    let trees : i.trees ≡ j.trees = same_trees (same meta_grammar (λ n c. false) x.1 y.1) in
    let rules : i.said ≡ j.said = rules_once (subst (λ us. ReadsRules text us i.said) trees i.read) j.read in
    sym i.same ∙ ap (λ rs. nested_rules (rules_without_spans rs)) rules ∙ j.same

first_body : Grammar → Expression
first_body [] = Ident []
first_body (r ∷ rs) = r.body

-- a predicate over an option is no option of a predicate
differ : nested_rules (rule_x (NegPred (Opt (Ident (codes "e")))) ∷ []) ≡ nested_rules (rule_x (Opt (NegPred (Ident (codes "e")))) ∷ []) → ⊥
unfolding first_body
differ h = let i : NegPred (Opt (Ident (codes "e"))) ≡ Opt (NegPred (Ident (codes "e"))) = ap first_body h in cc

pub predicate_before_question_mark : PredicateBeforeQuestionMark
predicate_before_question_mark = record {
  without = λ text utf8 split.
      let read = reads_back (NegPred (Opt (Ident (codes "e")))) text refl utf8 split in
      (read, λ other. differ (reads_as_one text _ _ read other));
  with_parentheses = λ text utf8 split. reads_back (Opt (NegPred (Ident (codes "e")))) text refl utf8 split;
}
