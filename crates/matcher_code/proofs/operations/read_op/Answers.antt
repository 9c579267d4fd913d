use Rattle.std.proofs.Common.{◌≡◌, ◌∙◌, ◌/◌, [], ◌∷◌, ap, ap₂, get_or, sym}
use Rattle.std.specs.Int.{from_le_bytes, w32}
use Rattle.std.specs.Simd.{first_chunks}
use Rattle.matcher_code.specs.Operations.{op_of}
use Rattle.matcher_code.proofs.Pieces.{five_words}
use Rattle.matcher_code.proofs.operations.read_op.Goals as goal

pub returns : goal.returns
returns c =
    let piece = c.args.piece.now in
    let long = c.told-piece in
    let front : c.as_chunks.result.0.now ≡ first_chunks 4 5 piece =
    c.as_chunks.ensures.front ∙ ap (λ n. first_chunks 4 (n / 4) piece) long in
    let a = c.from_le_bytes.ensures ∙ ap (λ xs. from_le_bytes w32 (get_or xs 0 [])) front in
    let b = c.from_le_bytes-2.ensures ∙ ap (λ xs. from_le_bytes w32 (get_or xs 1 [])) front in
    let d = c.from_le_bytes-3.ensures ∙ ap (λ xs. from_le_bytes w32 (get_or xs 2 [])) front in
    let e = c.from_le_bytes-4.ensures ∙ ap (λ xs. from_le_bytes w32 (get_or xs 3 [])) front in
    let f = c.from_le_bytes-5.ensures ∙ ap (λ xs. from_le_bytes w32 (get_or xs 4 [])) front in
    let rest = ap₂ (λ x xs. x ∷ xs) d (ap₂ (λ x xs. x ∷ xs) e (ap (λ x. x ∷ []) f)) in
    let all = ap₂ (λ x xs. x ∷ xs) a (ap₂ (λ x xs. x ∷ xs) b rest) in
    c.op_of.ensures ∙ (ap op_of all ∙ sym (ap op_of (five_words piece long)))
