use Rattle.std.proofs.Common.{List, [], ◌∷◌, refl, ◌≡◌, ◌∙◌, sym, ap, subst, ◌++◌}
use Rattle.std.proofs.lemmas.List.{append_assoc}
use Rattle.front_validator.specs.Reporting.{AreSpans, findings_of}
use Rattle.front_validator.proofs.EmptyLemmas.{empty_well_formed}
use Rattle.front_validator.proofs.reported.all_findings.Goals as goal

-- lists that are put one behind another
in_turn : {A : Type 0} (us es bs cs ds ts p q r s t : List A) → p ≡ us ++ es → q ≡ p ++ bs → r ≡ q ++ cs → s ≡ r ++ ds → t ≡ s ++ ts → t ≡ us ++ (es ++ (bs ++ (cs ++ (ds ++ ts))))
in_turn us es bs cs ds ts p q r s t a b c d e =
    e ∙ (ap (λ z. z ++ ts) (d ∙ ap (λ z. z ++ ds) (c ∙ ap (λ z. z ++ cs) (b ∙ ap (λ z. z ++ bs) a))) ∙ simp append_assoc)

-- where lists are empty together, those before the last are
without_last : {A : Type 0} (us bs cs ds ts : List A) → us ++ (bs ++ (cs ++ (ds ++ ts))) ≡ [] → us ++ (bs ++ (cs ++ ds)) ≡ []
without_last [] [] [] [] ts h = refl
without_last [] [] [] (d ∷ ds) ts h = cc
without_last [] [] (c ∷ cs) ds ts h = cc
without_last [] (b ∷ bs) cs ds ts h = cc
without_last (u ∷ us) bs cs ds ts h = cc

-- where three lists are empty together, two of them are
without_second : {A : Type 0} (us es bs : List A) → us ++ (es ++ bs) ≡ [] → us ++ bs ≡ []
without_second [] [] bs h = h
without_second [] (e ∷ es) bs h = cc
without_second (u ∷ us) es bs h = cc

pub returns-clause-found : goal.returns-clause-found
returns-clause-found c =
    let rs = c.args.groundwork.now.grammar.rules.now in
    let right = c.requires.groundwork.facts in
    let spans : AreSpans rs c.in_ok-spans.spans.items = c.in_ok-spans.ensures rs c.requires.groundwork.resolved.tabled in
    let fs = findings_of c.in_ok-found.found.items in
    let js = findings_of c.in_ok-known.known.items in
    let gs = findings_of c.in_ok-choices.choices.items in
    let hs = findings_of c.in_ok-skips.skips.items in
    let ks = findings_of c.in_ok-recursions.recursions.items in
    let ts = findings_of c.in_ok-tags.tags.items in
    record {
      repetitions = fs;
      choices = gs;
      skips = hs;
      recursions = ks;
      of_repetitions = c.in_ok-found.ensures rs right (subst (AreSpans rs) (sym c.as_slice.ensures.value) spans);
      of_choices = c.in_ok-choices.ensures rs right (subst (AreSpans rs) (sym c.as_slice-2.ensures.value) spans);
      of_skips = c.in_ok-skips.ensures;
      of_recursions = c.in_ok-recursions.ensures.exact;
      of_cycles = c.in_ok-recursions.ensures.none;
      only_of_cycles = c.in_ok-recursions.ensures.some;
      all = rw (← c.in_ok-known.ensures, ← c.in_ok-tags.ensures) (in_turn fs js gs hs ks ts _ _ _ _ _ c.in_ok-found-2.ensures c.in_ok-found-3.ensures c.in_ok-found-4.ensures c.in_ok-found-5.ensures c.in_ok-found-6.ensures);
    }

pub returns-clause-accepted : goal.returns-clause-accepted
returns-clause-accepted c = λ e.
    let rs = c.args.groundwork.now.grammar.rules.now in
    let right = c.requires.groundwork.facts in
    let spans : AreSpans rs c.in_ok-spans.spans.items = c.in_ok-spans.ensures rs c.requires.groundwork.resolved.tabled in
    let fs = findings_of c.in_ok-found.found.items in
    let js = findings_of c.in_ok-known.known.items in
    let gs = findings_of c.in_ok-choices.choices.items in
    let hs = findings_of c.in_ok-skips.skips.items in
    let ks = findings_of c.in_ok-recursions.recursions.items in
    let ts = findings_of c.in_ok-tags.tags.items in
    let all = in_turn fs js gs hs ks ts _ _ _ _ (findings_of c.in_ok-found-6.found.items) c.in_ok-found-2.ensures c.in_ok-found-3.ensures c.in_ok-found-4.ensures c.in_ok-found-5.ensures c.in_ok-found-6.ensures in
    empty_well_formed rs c.args.groundwork.now.facts right fs gs hs ks
    (c.in_ok-found.ensures rs right (subst (AreSpans rs) (sym c.as_slice.ensures.value) spans)) c.in_ok-skips.ensures c.in_ok-recursions.ensures.none (without_last fs gs hs ks ts (without_second fs js (gs ++ (hs ++ (ks ++ ts))) (sym all ∙ e)))
