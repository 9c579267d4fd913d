-- The printed text of an expression before what follows it, by computation alone: so no proof puts texts together or takes them apart.
-- That it is the printed text and then what follows is one lemma, `append-printed_at`.
use Rattle.std.proofs.Common.{◌≡◌, refl, ◌∙◌, ap, ℕ, ℤ, [], ◌∷◌, ◌++◌, Option, codes, append_assoc}
use Rattle.std.specs.List.{flat_map}
use Rattle.std.specs.Fmt.{decimal, signed_decimal}
use Rattle.base_language.specs.Language.Text.{Text}
use Rattle.base_language.specs.Language.Expression.{Expression, Str, Insens, Range, Ident, PeekSlice, PosPred, NegPred, Seq, Choice, Opt, Rep, RepOnce, RepExact, RepMin, RepMax, RepMinMax, Skip, Push, RestoreOnErr, PushLiteral, NodeTag}
use Rattle.base_ast.specs.Printing.{escaped, literal, parenthesized}
use Rattle.base_ast.specs.Printing.{Place, Alone, AfterTilde, AfterBar, BeforePostfix, inside_wrapper, slice_end, printed_at, predicate_at, bound_literal}

-- the characters of a literal
abbrev pub escapes_before : ℕ → Text → Text → Text
escapes_before q [] K = K
escapes_before q (c ∷ t) K = escaped q c ++ escapes_before q t K

abbrev pub literal_before : Text → Text → Text
literal_before t K = 34 ∷ escapes_before 34 t (34 ∷ K)

abbrev pub bound_before : Text → Text → Text
bound_before [] K = 39 ∷ 39 ∷ K
bound_before (c ∷ t) K = 39 ∷ escaped 39 c ++ (39 ∷ K)

abbrev pub range_before : Text → Text → Text → Text
range_before t u K = bound_before t (46 ∷ 46 ∷ bound_before u K)

abbrev pub slice_before : ℤ → Option ℤ → Text → Text
slice_before i j K = codes "PEEK[" ++ (signed_decimal i ++ (46 ∷ 46 ∷ (slice_end j ++ (93 ∷ K))))

abbrev pub predicate_before : Place → (Text → Text) → Text → Text
predicate_before BeforePostfix F K = 40 ∷ F (41 ∷ K)
predicate_before _ F K = F K

-- a tag before what it is on
abbrev pub tagged_before : Text → (Text → Text) → Text → Text
tagged_before t F K = 35 ∷ (t ++ (32 ∷ 61 ∷ 32 ∷ F K))

abbrev pub printed_before : Place → Expression → Text → Text
printed_before k (Str t) K = literal_before t K
printed_before k (Insens t) K = 94 ∷ literal_before t K
printed_before k (Range t u) K = 40 ∷ range_before t u (41 ∷ K)
printed_before k (Ident n) K = n ++ K
printed_before k (PeekSlice i j) K = slice_before i j K
printed_before k (PosPred e) K = predicate_before k (λ L. 38 ∷ printed_before Alone e L) K
printed_before k (NegPred e) K = predicate_before k (λ L. 33 ∷ printed_before Alone e L) K
printed_before AfterTilde (Seq a b) K = printed_before Alone a (32 ∷ 126 ∷ 32 ∷ printed_before AfterTilde b K)
printed_before _ (Seq a b) K = 40 ∷ printed_before Alone a (32 ∷ 126 ∷ 32 ∷ printed_before AfterTilde b (41 ∷ K))
printed_before AfterBar (Choice a b) K = printed_before Alone a (32 ∷ 124 ∷ 32 ∷ printed_before AfterBar b K)
printed_before _ (Choice a b) K = 40 ∷ printed_before Alone a (32 ∷ 124 ∷ 32 ∷ printed_before AfterBar b (41 ∷ K))
printed_before k (Opt e) K = printed_before BeforePostfix e (63 ∷ K)
printed_before k (Rep e) K = printed_before BeforePostfix e (42 ∷ K)
printed_before k (RepOnce e) K = printed_before BeforePostfix e (43 ∷ K)
printed_before k (RepExact e i) K = printed_before BeforePostfix e (123 ∷ (decimal i ++ (125 ∷ K)))
printed_before k (RepMin e i) K = printed_before BeforePostfix e (123 ∷ (decimal i ++ (44 ∷ 125 ∷ K)))
printed_before k (RepMax e i) K = printed_before BeforePostfix e (123 ∷ 44 ∷ (decimal i ++ (125 ∷ K)))
printed_before k (RepMinMax e i j) K = printed_before BeforePostfix e (123 ∷ (decimal i ++ (44 ∷ 32 ∷ (decimal j ++ (125 ∷ K)))))
printed_before k (Skip ts) K = printed_at k (Skip ts) ++ K
printed_before k (Push e) K = codes "PUSH(" ++ printed_before Alone e (41 ∷ K)
printed_before k (PushLiteral t) K = codes "PUSH_LITERAL(" ++ literal_before t (41 ∷ K)
printed_before k (NodeTag e t) K = 40 ∷ tagged_before t (λ L. printed_before Alone e L) (41 ∷ K)
printed_before k (RestoreOnErr e) K = printed_before (inside_wrapper k) e K

pub append-escapes : (q : ℕ) (t K : Text) → flat_map (escaped q) t ++ K ≡ escapes_before q t K
append-escapes q [] K = refl
append-escapes q (c ∷ t) K = append_assoc (escaped q c) (flat_map (escaped q) t) K ∙ ap (λ x. escaped q c ++ x) (append-escapes q t K)

-- one text and then another; what is known of the first alone, and of both
pub more : (A B : Text) (F : Text → Text) → ((K : Text) → A ++ K ≡ F K) → (K : Text) → (A ++ B) ++ K ≡ F (B ++ K)
more A B F h K = append_assoc A B K ∙ h (B ++ K)

pub both : (A B : Text) (F G : Text → Text) → ((K : Text) → A ++ K ≡ F K) → ((K : Text) → B ++ K ≡ G K) → (K : Text) → (A ++ B) ++ K ≡ F (G K)
both A B F G h k K = more A B F h K ∙ ap F (k K)

-- a sign between two texts
linked : (c : ℕ) (A B : Text) (F G : Text → Text) → ((K : Text) → A ++ K ≡ F K) → ((K : Text) → B ++ K ≡ G K) → (K : Text) → (A ++ (32 ∷ c ∷ 32 ∷ []) ++ B) ++ K ≡ F (32 ∷ c ∷ 32 ∷ G K)
linked c A B F G h k K = both (A ++ (32 ∷ c ∷ 32 ∷ [])) B (λ L. F (32 ∷ c ∷ 32 ∷ L)) G (more A (32 ∷ c ∷ 32 ∷ []) F h) k K

-- digits between two signs
pub counted : (A S N T : Text) (F : Text → Text) → ((K : Text) → A ++ K ≡ F K) → (K : Text) → (A ++ S ++ N ++ T) ++ K ≡ F (S ++ (N ++ (T ++ K)))
counted A S N T F h K = more (A ++ S ++ N) T (λ L. F (S ++ (N ++ L))) (more (A ++ S) N (λ L. F (S ++ L)) (more A S F h)) K

enclosed : (A : Text) (F : Text → Text) → ((K : Text) → A ++ K ≡ F K) → (K : Text) → parenthesized A ++ K ≡ 40 ∷ F (41 ∷ K)
enclosed A F h K = ap (λ x. 40 ∷ x) (append_assoc A (41 ∷ []) K ∙ h (41 ∷ K))

append-literal : (t K : Text) → literal 34 t ++ K ≡ literal_before t K
append-literal t K = ap (λ x. 34 ∷ x) (append_assoc (flat_map (escaped 34) t) (34 ∷ []) K ∙ append-escapes 34 t (34 ∷ K))

append-bound_literal : (t K : Text) → bound_literal t ++ K ≡ bound_before t K
append-bound_literal [] K = refl
append-bound_literal (c ∷ t) K = ap (λ x. 39 ∷ x) (append_assoc (escaped 39 c) (39 ∷ []) K)

append-predicate_at : (k : Place) (c : ℕ) (A : Text) (F : Text → Text) → ((K : Text) → A ++ K ≡ F K) → (K : Text) → predicate_at k (c ∷ A) ++ K ≡ predicate_before k (λ L. c ∷ F L) K
append-predicate_at BeforePostfix c A F h K = enclosed (c ∷ A) (λ L. c ∷ F L) (λ L. ap (λ x. c ∷ x) (h L)) K
append-predicate_at Alone c A F h K = ap (λ x. c ∷ x) (h K)
append-predicate_at AfterTilde c A F h K = ap (λ x. c ∷ x) (h K)
append-predicate_at AfterBar c A F h K = ap (λ x. c ∷ x) (h K)

append-tagged : (t A : Text) (F : Text → Text) → ((K : Text) → A ++ K ≡ F K) → (K : Text) → (codes "#" ++ t ++ codes " = " ++ A) ++ K ≡ tagged_before t F K
append-tagged t A F h K =
    both (codes "#" ++ t ++ codes " = ") A (λ L. 35 ∷ (t ++ (32 ∷ 61 ∷ 32 ∷ L))) F (more (codes "#" ++ t) (codes " = ") (λ L. 35 ∷ (t ++ L)) (λ L. refl)) h K

pub append-printed_at : (k : Place) (e : Expression) (K : Text) → printed_at k e ++ K ≡ printed_before k e K
append-printed_at k (Str t) K = append-literal t K
append-printed_at k (Insens t) K = ap (λ x. 94 ∷ x) (append-literal t K)
append-printed_at k (Range t u) K =
    enclosed _ (λ L. range_before t u L)
    (both (bound_literal t ++ codes "..") (bound_literal u) (λ L. bound_before t (46 ∷ 46 ∷ L)) (λ L. bound_before u L) (more (bound_literal t) (codes "..") (λ L. bound_before t L) (append-bound_literal t)) (append-bound_literal u)) K
append-printed_at k (Ident n) K = refl
append-printed_at k (PeekSlice i j) K = counted (codes "PEEK[" ++ signed_decimal i) (codes "..") (slice_end j) (codes "]") (λ L. codes "PEEK[" ++ (signed_decimal i ++ L)) (λ L. refl) K
append-printed_at k (PosPred e) K = append-predicate_at k 38 (printed_at Alone e) (λ L. printed_before Alone e L) (append-printed_at Alone e) K
append-printed_at k (NegPred e) K = append-predicate_at k 33 (printed_at Alone e) (λ L. printed_before Alone e L) (append-printed_at Alone e) K
append-printed_at AfterTilde (Seq a b) K = linked 126 (printed_at Alone a) (printed_at AfterTilde b) _ _ (append-printed_at Alone a) (append-printed_at AfterTilde b) K
append-printed_at _ (Seq a b) K = enclosed _ _ (linked 126 (printed_at Alone a) (printed_at AfterTilde b) (λ L. printed_before Alone a L) (λ L. printed_before AfterTilde b L) (append-printed_at Alone a) (append-printed_at AfterTilde b)) K
append-printed_at AfterBar (Choice a b) K = linked 124 (printed_at Alone a) (printed_at AfterBar b) _ _ (append-printed_at Alone a) (append-printed_at AfterBar b) K
append-printed_at _ (Choice a b) K = enclosed _ _ (linked 124 (printed_at Alone a) (printed_at AfterBar b) (λ L. printed_before Alone a L) (λ L. printed_before AfterBar b L) (append-printed_at Alone a) (append-printed_at AfterBar b)) K
append-printed_at k (Opt e) K = both _ (63 ∷ []) (λ L. printed_before BeforePostfix e L) (λ L. 63 ∷ L) (append-printed_at BeforePostfix e) (λ L. refl) K
append-printed_at k (Rep e) K = both _ (42 ∷ []) (λ L. printed_before BeforePostfix e L) (λ L. 42 ∷ L) (append-printed_at BeforePostfix e) (λ L. refl) K
append-printed_at k (RepOnce e) K = both _ (43 ∷ []) (λ L. printed_before BeforePostfix e L) (λ L. 43 ∷ L) (append-printed_at BeforePostfix e) (λ L. refl) K
append-printed_at k (RepExact e i) K = counted (printed_at BeforePostfix e) (codes "{") (decimal i) (codes "}") (λ L. printed_before BeforePostfix e L) (append-printed_at BeforePostfix e) K
append-printed_at k (RepMin e i) K = counted (printed_at BeforePostfix e) (codes "{") (decimal i) (codes ",}") (λ L. printed_before BeforePostfix e L) (append-printed_at BeforePostfix e) K
append-printed_at k (RepMax e i) K = counted (printed_at BeforePostfix e) (codes "{,") (decimal i) (codes "}") (λ L. printed_before BeforePostfix e L) (append-printed_at BeforePostfix e) K
append-printed_at k (RepMinMax e i j) K =
    let P = printed_at BeforePostfix e in
    more (P ++ codes "{" ++ decimal i ++ codes ", " ++ decimal j) (codes "}") (λ L. printed_before BeforePostfix e (123 ∷ (decimal i ++ (44 ∷ 32 ∷ (decimal j ++ L)))))
    (more (P ++ codes "{" ++ decimal i ++ codes ", ") (decimal j) (λ L. printed_before BeforePostfix e (123 ∷ (decimal i ++ (44 ∷ 32 ∷ L)))) (counted P (codes "{") (decimal i) (codes ", ") (λ L. printed_before BeforePostfix e L) (append-printed_at BeforePostfix e))) K
append-printed_at k (Skip ts) K = refl
append-printed_at k (Push e) K = ap (λ x. codes "PUSH(" ++ x) (append_assoc (printed_at Alone e) (41 ∷ []) K ∙ append-printed_at Alone e (41 ∷ K))
append-printed_at k (PushLiteral t) K = ap (λ x. codes "PUSH_LITERAL(" ++ x) (append_assoc (literal 34 t) (41 ∷ []) K ∙ append-literal t (41 ∷ K))
append-printed_at k (NodeTag e t) K = enclosed (codes "#" ++ t ++ codes " = " ++ printed_at Alone e) (λ L. tagged_before t (λ M. printed_before Alone e M) L) (append-tagged t (printed_at Alone e) (λ M. printed_before Alone e M) (append-printed_at Alone e)) K
append-printed_at k (RestoreOnErr e) K = append-printed_at (inside_wrapper k) e K
