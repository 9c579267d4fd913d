use Rattle.std.proofs.Common.{◌≡◌, ◌∙◌, ℕ, ◌-◌, List, [], ◌++◌, ap, drop, refl, sym, take}
use Rattle.std.proofs.lemmas.List.{take-append-drop}
use Rattle.program_support.specs.Excerpts.{IsPartOf}
use Rattle.program_support.proofs.excerpt.part.Goals as goal

-- a range of a text is a part of it
range_is_part : (text part : List ℕ) (i j : ℕ) → part ≡ take (j - i) (drop i text) → IsPartOf text part
range_is_part text part i j e = record {
  before = take i text;
  after = drop (j - i) (drop i text);
  whole = sym (take-append-drop i text)
      ∙ ap (λ t. take i text ++ t) (sym (take-append-drop (j - i) (drop i text)) ∙ ap (λ t. t ++ drop (j - i) (drop i text)) (sym e));
}

pub returns-in-Some : goal.returns-in-Some
returns-in-Some c = range_is_part c.args.text.now c.in-Some.part.now c.args.start c.args.end c.in-Some.ensures.cases.0

pub returns-in-None : goal.returns-in-None
returns-in-None c = record { before = []; after = c.args.text.now; whole = refl }
