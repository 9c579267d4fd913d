use Rattle.std.proofs.Common.{◌≡◌, ◌∙◌, ℕ, ◌<◌, List, ap, arith, get_or, length, map, refl, subst, sym}
use Rattle.std.proofs.lemmas.List.{get_or-map, length-map, take_all}
use Rattle.std.specs.List.{All, Contains}
use Rattle.base_language.specs.declared.runtime.places.Span as code_span
use Rattle.base_language.specs.Pieces.Saying.{piece_of}
use Rattle.doc_pages.proofs.Warned.{one_warned_more}
use Rattle.doc_pages.specs.Warnings.{Warns}
use Rattle.doc_pages.proofs.warnings.add_warnings.Goals as goal

mapped : {A B : Type 0} (f : A → B) (xs : List A) (k : ℕ) (x : A) → k < length xs → x ≡ get_or xs k x → Contains (map f xs) (f x)
mapped f xs k x h e =
    (k, subst (λ n. k < n) (sym (length-map xs f)) h, get_or-map f xs k x (f x) h ∙ ap f (sym e))

pub loop-part-preserved : goal.loop-part-preserved
loop-part-preserved c =
    let part = c.part-item.result in
    record {
      alike = c.in_ok-add_warning.ensures.alike ∙ c.loop-part.invariant.alike;
      definite = λ rules said before.
          c.in_ok-add_warning.ensures.definite rules
          (said _ (record {
            piece = piece_of part;
            among = mapped piece_of c.args.parts.now c.loop-part.part-index part c.loop-part-test.true c.part-item.is;
            text = c.as_str.ensures;
            says = refl;
          }))
          (c.loop-part.invariant.definite rules said before);
      kept = λ kind piece held.
          c.in_ok-add_warning.ensures.kept kind piece (c.loop-part.invariant.kept kind piece held);
      added = λ some alike.
          one_warned_more c.loop-part.warnings.items _ c.args.code c.args.parts.now c.loop-part.part-index part
          c.loop-part-test.true c.part-item.is c.in_ok-add_warning.ensures.kept (c.loop-part.invariant.added some alike)
          (c.in_ok-add_warning.ensures.added (omega (arith, some, alike, c.loop-part.invariant.alike)) c.args.code
          (piece_of part) (c.as_str.ensures, refl));
    }

pub returns-clause-added : goal.returns-clause-added
returns-clause-added c = λ some alike.
    subst (λ (parts : List code_span.Span). All (Warns c.loop-part.warnings.items c.args.code) (map piece_of parts))
    (take_all c.loop-part.part-index c.args.parts.now c.loop-part-test.false) (c.loop-part.invariant.added some alike)
