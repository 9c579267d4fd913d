-- Rules that are read from a text are parts of it.
use Rattle.std.proofs.Common.{◌≡◌, ◌∙◌, ℕ, List, IfSome, Option, ap, refl}
use Rattle.std.proofs.lemmas.List.Elements.{All-cons, All-nil}
use Rattle.base_language.specs.Language.State.{Trees}
use Rattle.front_reader.specs.Reading.{Category, Postfixed, Reads, ReadsRule, ReadsRules, bare, barred, choice, defined, documented, done, end_of_input, grammar_doc, grouped, leaf, line_doc, literally_pushed, modified, more, neg_pred, normal, one_alternative, one_term, pos_pred, pushed, sequence, tagged, unbarred}
use Rattle.front_reader.proofs.NodesStandInTrees.{span_of-placed}
use Rattle.front_spanned.specs.Spanned.{Span, Spanned, SpannedRule, placed, span_of}
use Rattle.lint_findings.specs.Allowances.{ArePartsOf}
use Rattle.lint_findings.proofs.Allowed.{IsPartOf}

module _ (text : List ℕ) where
  placed_text : (t : Span) (x : Spanned) → t.text ≡ text → (span_of (placed t x)).text ≡ text
  placed_text t x e = ap (λ (s : Span). s.text) (span_of-placed t x) ∙ e

  postfixed_text : {x y : Spanned} {us : Trees} → Postfixed text x us y → (span_of x).text ≡ text → (span_of y).text ≡ text
  postfixed_text done e = e
  postfixed_text (more p d) e = postfixed_text d refl

  reads_text : {category : Category} {us : Trees} {x : Spanned} → Reads text category us x → (span_of x).text ≡ text
  reads_text (barred d) = reads_text d
  reads_text (unbarred d) = reads_text d
  reads_text (one_alternative d) = reads_text d
  reads_text (choice a b d e) = refl
  reads_text (one_term d) = reads_text d
  reads_text (sequence a b k l d e) = refl
  reads_text (tagged d) = refl
  reads_text (pos_pred d) = refl
  reads_text (neg_pred d) = refl
  reads_text (bare d p) = postfixed_text p (reads_text d)
  reads_text (grouped {x = x} {y = y} d p) = placed_text _ y (postfixed_text p (placed_text _ x (reads_text d)))
  reads_text (leaf t) = refl
  reads_text (pushed d) = refl
  reads_text literally_pushed = refl

  rule_text : {us : Trees} {rule : Option SpannedRule} → ReadsRule text us rule → IfSome rule (IsPartOf text)
  rule_text line_doc = tt
  rule_text (normal d) = (refl, reads_text d)
  rule_text (modified m d) = (refl, reads_text d)

  pub rules_text : {us : Trees} {rules : List SpannedRule} → ReadsRules text us rules → ArePartsOf text rules
  rules_text end_of_input = All-nil (IsPartOf text)
  rules_text (grammar_doc d) = rules_text d
  rules_text (documented h d) = rules_text d
  rules_text (defined {r = r} {rs = rs} h d) = All-cons (IsPartOf text) r rs (rule_text h) (rules_text d)
