-- A line that is written text by text.
use Rattle.std.proofs.Common.{◌≡◌, ◌∙◌, ap, sym, subst, ℕ, ◌+◌, ◌<◌, ◌≤◌, List, [], ◌∷◌, ◌++◌, Option, Some, None, length, drop, get_or, add-one, append_assoc, drop-cons, Result, Ok, Err, OnOk}
use Rattle.std.proofs.lemmas.List.{drop_all}
use Rattle.std.specs.Borrow.{Bor}
use Rattle.std.specs.Io.KnownBytes.{Appends}
use Rattle.program_support.specs.Lines.{line_of}

-- two gains in turn
Appends-then : (a b c : Option (List ℕ)) (xs ys zs : List ℕ) → xs ++ ys ≡ zs → Appends a b xs → Appends b c ys → Appends a c zs
Appends-then None b c xs ys zs e h k = tt
Appends-then (Some a) None c xs ys zs e h k = absurd h
Appends-then (Some a) (Some b) None xs ys zs e h k = absurd k
Appends-then (Some a) (Some b) (Some c) xs ys zs e h k = k ∙ (ap (λ t. t ++ ys) h ∙ (append_assoc a xs ys ∙ ap (λ t. a ++ t) e))

-- one text more of a line
pub one_text : (texts : List (Bor (List ℕ))) (i : ℕ) (d : Bor (List ℕ)) (old new final : Option (List ℕ)) → i < length texts
    → Appends old new (get_or texts i d).now → Appends new final (line_of (drop (i + 1) texts)) → Appends old final (line_of (drop i texts))
one_text texts i d old new final h gained rest =
    let next : (get_or texts i d).now ++ line_of (drop (i + 1) texts) ≡ line_of (drop i texts) = rw add-one (ap line_of (sym (drop-cons texts i d h))) in
    Appends-then old new final _ _ _ next gained rest

-- the line break behind all texts
pub line_break : (texts : List (Bor (List ℕ))) (i : ℕ) (old new : Option (List ℕ)) → length texts ≤ i → Appends old new (10 ∷ []) → Appends old new (line_of (drop i texts))
line_break texts i old new h gained = subst (λ ts. Appends old new (line_of ts)) (sym (drop_all i texts h)) gained

-- what follows if a call succeeds
pub on_ok : {X E : Type 0} (r : Result X E) (P Q : Type 0) → (P → Q) → OnOk r P → OnOk r Q
on_ok (Ok x) P Q f h = f h
on_ok (Err e) P Q f h = tt
