use Rattle.std.proofs.Common.{◌≡◌, ◌∙◌, ◌*◌, List, ℕ, [], ◌∷◌, ◌++◌, ap, ap₂, append-nil, arith, flat_map, get_or, length, length-append}
use Rattle.std.proofs.lemmas.Grind.{common_steps, flat_map-append}
use Rattle.matcher_code.specs.declared.code.Op.TheVariants as op
use Rattle.matcher_code.specs.Words.{words_in}
use Rattle.matcher_code.specs.Operations.{op_of, ops_in}
use Rattle.matcher_code.proofs.Pieces.{ops_more}
use Rattle.format_code.proofs.operations.op_pieces.Goals as goal

-- the bytes of pieces and of one more
one_more : (ps : List (List (List ℕ))) (p : List (List ℕ))
    → flat_map (λ x. x) (flat_map (λ x. x) (ps ++ p ∷ [])) ≡ flat_map (λ x. x) (flat_map (λ x. x) ps) ++ flat_map (λ x. x) p
one_more ps p =
    ap (flat_map (λ x. x)) (flat_map-append (λ x. x) ps (p ∷ []) ∙ ap (λ q. flat_map (λ x. x) ps ++ q) (append-nil p))
    ∙ flat_map-append (λ x. x) (flat_map (λ x. x) ps) p

pub loop-op-preserved : goal.loop-op-preserved
loop-op-preserved c =
    let i = c.loop-op.op-index in
    let before = c.loop-op.invariant in
    let xs = flat_map (λ x. x) (flat_map (λ x. x) c.loop-op.pieces.items) in
    let ys = flat_map (λ x. x) c.piece_of.result in
    let means : op_of (words_in ys) ≡ get_or c.args.ops.now i op.Fail =
    ap op_of c.piece_of.ensures.words ∙ c.words_of.ensures.same in
    let both = ap (λ ps. flat_map (λ x. x) (flat_map (λ x. x) ps)) c.in_ok-push.ensures.items ∙ one_more c.loop-op.pieces.items c.piece_of.result in
    let more = ap ops_in both ∙ (ops_more i xs ys before.1 c.piece_of.ensures.size
    ∙ ap₂ (λ os o. os ++ o ∷ []) before.0 means) in
    (more ∙ grind (arith, common_steps), ap length both ∙ (length-append xs ys ∙ omega (arith, before.1, c.piece_of.ensures.size)))
