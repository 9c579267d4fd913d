-- Strokes of a rail, one after another.
use Rattle.std.proofs.Common.{◌≡◌, ◌∙◌, List, [], ◌∷◌, ◌++◌, ap, append_assoc, append-nil, fold, refl, sym}
use Rattle.std.proofs.lemmas.List.{flat_map_more}
use Rattle.std.proofs.lemmas.List.Sums.{fold_push}
use Rattle.std.specs.List.{flat_map}
use Rattle.doc_markup.specs.declared.tokens.Markup.{Markup}
use Rattle.doc_diagram.specs.Rails.{GainsRail, Stroke, end_of, rail_end, rail_start, stroke_tokens}
use Rattle.doc_diagram.specs.declared.boxes.Point.{Point}

-- a rail that is not ended
pub record HasBegun (from at : Point) (old new : List Markup) : Type 0 where
  pub strokes : List Stroke
  pub drawn : new ≡ old ++ (rail_start from ++ flat_map stroke_tokens strokes)
  pub leads : fold end_of from strokes ≡ at

pub begun : (from : Point) (old new : List Markup) → new ≡ old ++ rail_start from → HasBegun from from old new
begun from old new e = record { strokes = []; drawn = e ∙ ap (λ t. old ++ t) (sym (append-nil (rail_start from))); leads = refl }

pub one_stroke : (from at : Point) (old a b : List Markup) (s : Stroke) → HasBegun from at old a
    → b ≡ a ++ stroke_tokens s → HasBegun from (end_of at s) old b
one_stroke from at old a b s h e = record {
  strokes = h.strokes ++ s ∷ [];
  drawn = e ∙ ap (λ t. t ++ stroke_tokens s) h.drawn
      ∙ append_assoc old (rail_start from ++ flat_map stroke_tokens h.strokes) (stroke_tokens s)
      ∙ ap (λ t. old ++ t) (flat_map_more stroke_tokens (rail_start from) h.strokes s);
  leads = fold_push end_of from h.strokes s ∙ ap (λ p. end_of p s) h.leads;
}

pub ended : (from at to : Point) (old a b : List Markup) → HasBegun from at old a → b ≡ a ++ rail_end → at ≡ to
    → GainsRail from to old b
ended from at to old a b h e leads = record {
  strokes = h.strokes;
  drawn = e ∙ ap (λ t. t ++ rail_end) h.drawn
      ∙ append_assoc old (rail_start from ++ flat_map stroke_tokens h.strokes) rail_end
      ∙ ap (λ t. old ++ t) (append_assoc (rail_start from) (flat_map stroke_tokens h.strokes) rail_end);
  leads = h.leads ∙ leads;
}
