-- Repetitions of which the optimizer makes many copies.
use Rattle.std.specs.Prelude.{ℕ, ◌+◌, ◌*◌, List, [], ◌∷◌, ◌++◌, if◌then◌else◌, nat_lt, flat_map, map}
use Rattle.front_spanned.specs.Spanned.{Span, Spanned, SpannedRule, Leaf, One, Two, Unary, RepExact, RepMin, RepMax, RepMinMax, span_of}

-- how often what is repeated stands where the count is written out: `e{2,}` is `e ~ e ~ e*`
abbrev pub copies_by : Unary → ℕ
copies_by (RepExact n) = n
copies_by (RepMin m) = m + 1
copies_by (RepMax n) = n
copies_by (RepMinMax m n) = n
copies_by _ = 1

-- the outermost nodes that make 10,000 copies or more, in an expression of which `n` copies are made
abbrev pub crowded : ℕ → Spanned → List Spanned
crowded n (Leaf s e) = []
crowded n (One s f x) = if nat_lt (n * copies_by f) 10000 then crowded (n * copies_by f) x else One s f x ∷ []
crowded n (Two s f x y) = crowded n x ++ crowded n y

-- their spans in a body, and in all rules
abbrev pub many_in : Spanned → List Span
many_in body = map span_of (crowded 1 body)

abbrev pub many_copies : List SpannedRule → List Span
many_copies rules = flat_map (λ r. many_in r.body) rules

-- the number of nodes
abbrev pub size : Spanned → ℕ
size (Leaf s e) = 1
size (One s f x) = 1 + size x
size (Two s f x y) = 1 + (size x + size y)
