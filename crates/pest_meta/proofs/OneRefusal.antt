-- A text is refused with one list of errors at most, by what they say and where.
use Rattle.std.proofs.Common.{◌≡◌, ℕ, List, [], ◌∷◌, ◌⊎◌, inl, inr, sym, ap, subst, ◌∙◌}
use Rattle.base_language.specs.Language.State.{Trees}
use Rattle.base_language.specs.Pieces.LineColumn.{line_column}
use Rattle.base_language.specs.Pieces.PrintedError.{message_of, printed_line}
use Rattle.base_language.specs.declared.grammar.Rule.{Rule}
use Rattle.base_language.specs.declared.runtime.errors.Error.{Error}
use Rattle.base_language.specs.declared.runtime.errors.InputLocation.TheVariants as at
use Rattle.base_language.specs.declared.runtime.errors.LineColLocation.TheVariants as in_lines
use Rattle.base_language.proofs.FailurePlaces.{one_place}
use Rattle.front_reader.specs.Flaws.{Flaw}
use Rattle.front_reader.specs.Refusals.{cause_message, ReportsFlaw}
use Rattle.front_reader.proofs.Uniqueness.{rules_once}
use Rattle.front_grammar.specs.MetaGrammar.{meta_grammar}
use Rattle.front_syntax.specs.Parses.{FailsAt, IsSyntaxError}
use Rattle.base_language.specs.declared.grammar.Rule.TheVariants as rule_is
use Rattle.front_validator.specs.Alike.{AreAlike, IsAlike}
use Rattle.front_validator.specs.Reported.{AreReported}
use Rattle.front_validator.proofs.OneFindingList.{one_list_of_errors, says_alike, tell_alike}
use Rattle.pest_meta.specs.Findings.{AreErrorsOfFindings}
use Rattle.pest_meta.specs.Spelling.{AreFlawed, complaints_in, HaveFindings, HasWrongRules, IsMisnamed, IsNoGrammar, IsRefusedWith}
use Rattle.pest_meta.proofs.OneReportList.{one_list_of_reports}
use Rattle.pest_meta.proofs.OneText.{rules_stand}
use Rattle.pest_meta.proofs.Spelled.{empty_classes, flawed_give_none, trees_once, trees_or_fails}

-- 1. one error each
alike_ones : (errors others : List (Error Rule)) (e f : Error Rule) → errors ≡ e ∷ [] → others ≡ f ∷ [] → IsAlike e f → AreAlike errors others
alike_ones errors others e f a b h =
    subst (λ es. AreAlike es others) (sym a) (subst (λ fs. AreAlike (e ∷ []) fs) (sym b) (h, tt))

same_syntax : (text : List ℕ) (i j : ℕ) (errors others : List (Error Rule)) → i ≡ j → IsSyntaxError text i errors → IsSyntaxError text j others → AreAlike errors others
same_syntax text i j errors others same a b = alike_ones errors others a.error b.error a.one b.one (record {
  message = ap message_of (a.variant ∙ sym b.variant);
  location = a.location ∙ ap at.Pos same ∙ sym b.location;
  line_col = a.line_col ∙ ap (λ n. in_lines.Pos (line_column text n)) same ∙ sym b.line_col;
  line = a.line ∙ ap (printed_line text) same ∙ sym b.line;
})

one_failure : (text : List ℕ) (i j : ℕ) → FailsAt rule_is.grammar_rules text i → FailsAt rule_is.grammar_rules text j → i ≡ j
one_failure text i j a b =
    let (d, p) = a empty_classes in
    let (e, q) = b empty_classes in
    p ∙ one_place meta_grammar empty_classes d e ∙ sym q

no_grammar_once : (text : List ℕ) (errors others : List (Error Rule)) → IsNoGrammar text errors → IsNoGrammar text others → AreAlike errors others
no_grammar_once text errors others a b =
    same_syntax text a.says.place b.says.place errors others (one_failure text a.says.place b.says.place a.says.fails b.says.fails) a.says.says b.says.says

same_flaw : (f h : Flaw) (errors others : List (Error Rule)) → f ≡ h → ReportsFlaw f errors → ReportsFlaw h others → AreAlike errors others
same_flaw f h errors others same a b =
    let c = subst (λ z. ReportsFlaw z errors) same a in
    alike_ones errors others c.error b.error c.one b.one (says_alike (record { message = cause_message h.cause; span = h.span }) c.error b.error c.says b.says)

-- 2. of one list of trees
module _ (text : List ℕ) (trees : Trees) (errors others : List (Error Rule)) where
  misnamed_once : IsMisnamed text trees errors → IsMisnamed text trees others → AreAlike errors others
  misnamed_once a b = tell_alike (complaints_in text trees) errors others a.tell b.tell

  flawed_once : AreFlawed text trees errors → AreFlawed text trees others → AreAlike errors others
  flawed_once a b =
      let e = sym a.first ∙ b.first in
      let same : a.flaw ≡ b.flaw = cc in
      same_flaw a.flaw b.flaw errors others same a.tells b.tells

  findings_once : HaveFindings text trees errors → HaveFindings text trees others → AreAlike errors others
  findings_once a b =
      let read = rules_once a.give.reads b.give.reads in
      let told = subst (λ rs. AreErrorsOfFindings rs errors) read a.tell in
      let endless = one_list_of_reports text b.give.read (rules_stand text b.give.reads) told.endless b.tell.endless told.reports b.tell.reports in
      one_list_of_errors b.give.read b.tell.endless errors others (subst (λ us. AreReported b.give.read us errors) endless told.tell) b.tell.tell

  pub names_first : IsMisnamed text trees errors → HasWrongRules text trees others → ⊥
  names_first a b = a.some b.well_named

  wrong_rules_once : AreFlawed text trees errors ⊎ HaveFindings text trees errors → AreFlawed text trees others ⊎ HaveFindings text trees others → AreAlike errors others
  wrong_rules_once (inl a) (inl b) = flawed_once a b
  wrong_rules_once (inl a) (inr b) = absurd (flawed_give_none text trees errors b.rules a b.give)
  wrong_rules_once (inr a) (inl b) = absurd (flawed_give_none text trees others a.rules b a.give)
  wrong_rules_once (inr a) (inr b) = findings_once a b

refused_once : (text : List ℕ) (trees : Trees) (errors others : List (Error Rule)) → IsMisnamed text trees errors ⊎ HasWrongRules text trees errors → IsMisnamed text trees others ⊎ HasWrongRules text trees others → AreAlike errors others
refused_once text trees errors others (inl a) (inl b) = misnamed_once text trees errors others a b
refused_once text trees errors others (inl a) (inr b) = absurd (names_first text trees errors others a b)
refused_once text trees errors others (inr a) (inl b) = absurd (names_first text trees others errors b a)
refused_once text trees errors others (inr a) (inr b) = wrong_rules_once text trees errors others a.why b.why

-- 3. of a text
pub one_refusal : (text : List ℕ) (errors others : List (Error Rule)) → IsRefusedWith text errors → IsRefusedWith text others → AreAlike errors others
one_refusal text errors others (inl a) (inl b) = no_grammar_once text errors others a b
one_refusal text errors others (inl a) (inr b) = absurd (trees_or_fails text b.trees errors b.of_text a)
one_refusal text errors others (inr a) (inl b) = absurd (trees_or_fails text a.trees others a.of_text b)
one_refusal text errors others (inr a) (inr b) =
    let same = trees_once text a.trees b.trees a.of_text b.of_text in
    refused_once text b.trees errors others (subst (λ us. IsMisnamed text us errors ⊎ HasWrongRules text us errors) same a.why) b.why
