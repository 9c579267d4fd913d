-- What is still to be written, with one piece more.
use Rattle.std.proofs.Common.{◌≡◌, ◌≤◌, ℕ, ◌+◌, List, [], ◌∷◌, ◌++◌, refl, sym, ap, ◌∙◌, append-nil, append_assoc, arith}
use Rattle.base_ast.specs.PrintedBytes.{ByPlace}
use Rattle.base_ast.specs.Pieces.{piece_bytes, piece_load, in_turn, load, Puts}
use Rattle.base_ast.specs.declared.printing.pieces.Piece.{Piece}

module _ {E : Type 0} (bytes : E → ByPlace) (heft : E → ℕ) where
  pub in_turn-last : (ps : List (Piece E)) (p : Piece E) → in_turn bytes (ps ++ (p ∷ [])) ≡ piece_bytes bytes p ++ in_turn bytes ps
  in_turn-last [] p = sym (append-nil (piece_bytes bytes p))
  in_turn-last (q ∷ ps) p = ap (λ t. t ++ piece_bytes bytes q) (in_turn-last ps p) ∙ append_assoc (piece_bytes bytes p) (in_turn bytes ps) (piece_bytes bytes q)

  pub load-last : (ps : List (Piece E)) (p : Piece E) → load heft (ps ++ (p ∷ [])) ≡ piece_load heft p + load heft ps
  load-last [] p = refl
  load-last (q ∷ ps) p = let rest = load-last ps p in omega (arith, rest)

  -- one piece
  pub puts_one : (ps qs : List (Piece E)) (p : Piece E) → qs ≡ ps ++ (p ∷ []) → Puts bytes heft ps qs (piece_bytes bytes p) (piece_load heft p)
  puts_one ps qs p h =
      let loads = ap (load heft) h ∙ load-last ps p in
      record { first = ap (in_turn bytes) h ∙ in_turn-last ps p; bounded = omega (arith, loads) }

  -- one after another: what is put last is written first
  pub puts_then : (ps qs rs : List (Piece E)) (t u : List ℕ) (m n : ℕ) → Puts bytes heft ps qs t m → Puts bytes heft qs rs u n → Puts bytes heft ps rs (u ++ t) (n + m)
  puts_then ps qs rs t u m n h k =
      let one = h.bounded in
      let two = k.bounded in
      record { first = k.first ∙ (ap (λ l. u ++ l) h.first ∙ sym (append_assoc u t (in_turn bytes ps))); bounded = omega (arith, one, two) }

  -- the same text in another form, and no more of it
  pub puts_as : (ps qs : List (Piece E)) (t u : List ℕ) (m n : ℕ) → t ≡ u → m ≤ n → Puts bytes heft ps qs t m → Puts bytes heft ps qs u n
  puts_as ps qs t u m n same less h =
      let one = h.bounded in
      record { first = h.first ∙ ap (λ l. l ++ in_turn bytes ps) same; bounded = omega (arith, less, one) }

  -- a piece is written: what was done, and what is left
  pub one_piece_more : (done all : List ℕ) (ps qs : List (Piece E)) (p : Piece E) → done ++ in_turn bytes ps ≡ all → ps ≡ qs ++ (p ∷ []) → (done ++ piece_bytes bytes p) ++ in_turn bytes qs ≡ all
  one_piece_more done all ps qs p h i =
      append_assoc done (piece_bytes bytes p) (in_turn bytes qs) ∙ (ap (λ t. done ++ t) (sym (in_turn-last qs p)) ∙ (ap (λ x. done ++ in_turn bytes x) (sym i) ∙ h))

  -- a piece is taken apart: what stands in it is to be written in its place
  pub one_piece_apart : (done all : List ℕ) (ps qs rs : List (Piece E)) (p : Piece E) (t : List ℕ) (m : ℕ) → done ++ in_turn bytes ps ≡ all → ps ≡ qs ++ (p ∷ []) → Puts bytes heft qs rs t m → t ≡ piece_bytes bytes p → done ++ in_turn bytes rs ≡ all
  one_piece_apart done all ps qs rs p t m h i k e =
      ap (λ l. done ++ l) (k.first ∙ (ap (λ l. l ++ in_turn bytes qs) e ∙ (sym (in_turn-last qs p) ∙ ap (in_turn bytes) (sym i)))) ∙ h

  -- a piece less is to be written
  pub load_of_one_less : (ps qs : List (Piece E)) (p q : Piece E) → ps ≡ qs ++ (p ∷ []) → p ≡ q → load heft ps ≡ piece_load heft q + load heft qs
  load_of_one_less ps qs p q h i = ap (load heft) h ∙ (load-last qs p ∙ ap (λ x. piece_load heft x + load heft qs) i)
