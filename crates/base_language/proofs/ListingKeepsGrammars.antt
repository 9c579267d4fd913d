-- The listing, and the wrappers of the restorer, keep a grammar well-formed and plain, and keep it a grammar.
use Rattle.std.proofs.Common.{◌≡◌, ℕ, Bool, true, false, if◌then◌else◌, sym, subst, refl}
use Rattle.base_language.specs.Language.Text.{Text}
use Rattle.base_language.specs.Language.Expression.{Grammar, Expression, Str, Insens, Range, Ident, PeekSlice, Skip, PosPred, NegPred, Seq, Choice, Opt, Rep, RepOnce, RepExact, RepMin, RepMax, RepMinMax, Push, RestoreOnErr, RuleType, PushLiteral, NodeTag}
use Rattle.base_language.specs.Rewritings.Equality.{expression_eq, expression_eq-Decides}
use Rattle.base_language.specs.Rewritings.Rewriting.{here, in_pos_pred, in_neg_pred, in_seq_left, in_seq_right, in_choice_left, in_choice_right, in_opt, in_rep, in_rep_once, in_rep_exact, in_rep_min, in_rep_max, in_rep_min_max, in_push, in_restore, Many, no_step, one_step, EachBody, in_tag}
use Rattle.base_language.specs.Language.Grammar.{IsGrammar}
use Rattle.base_language.specs.Rewritings.Erased.{erased}
use Rattle.base_language.specs.Rewritings.Listing.{listed, listed_sequence, EachListed}
use Rattle.base_language.specs.Rewritings.Wrapping.{Wraps, leaves, RestoresTo, restores_str, restores_insens, restores_range, restores_name, restores_slice, restores_skip, restores_pos_pred, restores_neg_pred, restores_push, restores_seq, restores_choice, restores_opt, restores_rep, restores_rep_once, EachRestored, restores_push_literal, restores_tag}
use Rattle.base_language.specs.Rewritings.Wrapping as spec
use Rattle.base_language.specs.Language.WellFormed.{IsNullable, nullable_rep, nullable_seq, nullable_restore, LeftCalls, left_first, left_second, left_rep, left_restore, IsWellFormed, HasReadableCounts, NamesHaveReadableCounts, IsPlain}
use Rattle.base_language.proofs.Everywhere.{Condition, HoldsHere, Everywhere, everywhere}
use Rattle.base_language.proofs.BodiesKeepGrammars.{bounding, IsClosed, KeepsAtRoot, names_still_readable, still_well_formed, still_plain, still_readable, still_grammar}
use Rattle.base_language.proofs.StepsKeepOutcomes.{each_body}
use Rattle.base_language.proofs.RewritingAnywhere.{along, after}

-- the listing, or a wrapper, at a root
pub data Finishes : Expression → Expression → Type 0 where
  lists : {x y : Expression} → Finishes (Seq (Rep (Seq x y)) x) (Seq x (Rep (Seq y x)))
  wraps : {e : Expression} → Finishes e (RestoreOnErr e)

module _ (f : Grammar) where
  nullable_here : {a b : Expression} → Finishes a b → IsNullable f b → IsNullable f a
  nullable_here lists (nullable_seq n m) = nullable_seq nullable_rep n
  nullable_here wraps (nullable_restore n) = n

  left_here : {a b : Expression} {k : Text} → Finishes a b → LeftCalls f b k → LeftCalls f a k
  left_here lists (left_first l) = left_second nullable_rep l
  left_here lists (left_second n (left_rep (left_first l))) = left_first (left_rep (left_second n l))
  left_here lists (left_second n (left_rep (left_second m l))) = left_second nullable_rep l
  left_here wraps (left_restore l) = l

parts_here : (g : Grammar) (c : Condition) → IsClosed g c → {a b : Expression} → Finishes a b → Everywhere c a → Everywhere c b
parts_here g c closed lists h = (h.1, (closed.swapped _ _ h.0.0, (h.0.1.1, h.1)))
parts_here g c closed wraps h = h

-- nothing is asked of counts
abbrev Any : ℕ → ℕ → Type 0
Any i j = Unit {0}

abbrev Finish : RuleType → Expression → Expression → Type 0
Finish y = Finishes

finishes : (g : Grammar) → KeepsAtRoot g Finish Any
finishes g = record {
  nullable = λ f y a b w h. nullable_here f w;
  left = λ f y a b n. left_here f;
  parts = λ c closed y a b. parts_here g c closed;
}

any_bounds : (e : Expression) → Everywhere (bounding Any) e
any_bounds e = everywhere (bounding Any) e (λ p i. here_too p)
  where
    here_too : (p : Expression) → HoldsHere (bounding Any) p
    here_too (RepMin e i) = (tt, tt)
    here_too _ = tt

-- the listing is reached by listing at one place after another
abbrev To : Expression → Expression → Type 0
To a b = Many Finishes a b

if_same : (x y z : Expression) → To (Seq (Rep (Seq x y)) z) (if expression_eq x z then Seq x (Rep (Seq y x)) else Seq (Rep (Seq x y)) z)
if_same x y z = go (expression_eq x z) (expression_eq-Decides x z).0
  where
    go : (b : Bool) → (b ≡ true → x ≡ z) → To (Seq (Rep (Seq x y)) z) (if b then Seq x (Rep (Seq y x)) else Seq (Rep (Seq x y)) z)
    go true e = subst (λ w. To (Seq (Rep (Seq x y)) w) (Seq x (Rep (Seq y x)))) (e refl) (one_step (here lists) no_step)
    go false e = no_step

at_sequence : (a b : Expression) → To (Seq a b) (listed_sequence a b)
at_sequence (Rep (Seq x y)) z = if_same x y z
at_sequence _ b = no_step

reaches_listed : (e : Expression) → To e (listed e)
reaches_listed (PosPred e) = along Finishes PosPred (λ x y w. in_pos_pred w) (reaches_listed e)
reaches_listed (NegPred e) = along Finishes NegPred (λ x y w. in_neg_pred w) (reaches_listed e)
reaches_listed (Seq a b) =
    after Finishes (along Finishes (λ x. Seq x b) (λ x y w. in_seq_left w) (reaches_listed a))
    (after Finishes (along Finishes (Seq (listed a)) (λ x y w. in_seq_right w) (reaches_listed b)) (at_sequence (listed a) (listed b)))
reaches_listed (Choice a b) =
    after Finishes (along Finishes (λ x. Choice x b) (λ x y w. in_choice_left w) (reaches_listed a))
    (along Finishes (Choice (listed a)) (λ x y w. in_choice_right w) (reaches_listed b))
reaches_listed (Opt e) = along Finishes Opt (λ x y w. in_opt w) (reaches_listed e)
reaches_listed (Rep e) = along Finishes Rep (λ x y w. in_rep w) (reaches_listed e)
reaches_listed (RepOnce e) = along Finishes RepOnce (λ x y w. in_rep_once w) (reaches_listed e)
reaches_listed (RepExact e i) = along Finishes (λ x. RepExact x i) (λ x y w. in_rep_exact w) (reaches_listed e)
reaches_listed (RepMin e i) = along Finishes (λ x. RepMin x i) (λ x y w. in_rep_min w) (reaches_listed e)
reaches_listed (RepMax e i) = along Finishes (λ x. RepMax x i) (λ x y w. in_rep_max w) (reaches_listed e)
reaches_listed (RepMinMax e i j) = along Finishes (λ x. RepMinMax x i j) (λ x y w. in_rep_min_max w) (reaches_listed e)
reaches_listed (Push e) = along Finishes Push (λ x y w. in_push w) (reaches_listed e)
reaches_listed (NodeTag e t) = along Finishes (λ x. NodeTag x t) (λ x y w. in_tag w) (reaches_listed e)
reaches_listed (RestoreOnErr e) = along Finishes RestoreOnErr (λ x y w. in_restore w) (reaches_listed e)
reaches_listed _ = no_step

-- what the restorer makes is reached by wrapping at one place after another
module _ (g : Grammar) where
  wrapping : {a b : Expression} → Wraps g a b → To a b
  wrapping (spec.wraps x) = one_step (here wraps) no_step
  wrapping (leaves x) = no_step

  restoring : {a b : Expression} → RestoresTo g a b → To a b
  restoring restores_str = no_step
  restoring restores_insens = no_step
  restoring restores_range = no_step
  restoring restores_name = no_step
  restoring restores_slice = no_step
  restoring restores_skip = no_step
  restoring (restores_pos_pred d) = along Finishes PosPred (λ x y w. in_pos_pred w) (restoring d)
  restoring (restores_neg_pred d) = along Finishes NegPred (λ x y w. in_neg_pred w) (restoring d)
  restoring (restores_push d) = along Finishes Push (λ x y w. in_push w) (restoring d)
  restoring restores_push_literal = no_step
  restoring (restores_tag {t = t} d) = along Finishes (λ x. NodeTag x t) (λ x y w. in_tag w) (restoring d)
  restoring (restores_seq {b = b} {c = c} d e) =
      after Finishes (along Finishes (λ x. Seq x c) (λ x y w. in_seq_left w) (restoring d))
      (along Finishes (Seq b) (λ x y w. in_seq_right w) (restoring e))
  restoring (restores_choice {c = c} {d = a} d v e w) =
      after Finishes (along Finishes (λ x. Choice x a) (λ x y w. in_choice_left w) (after Finishes (restoring d) (wrapping v)))
      (along Finishes (Choice c) (λ x y w. in_choice_right w) (after Finishes (restoring e) (wrapping w)))
  restoring (restores_opt d v) = along Finishes Opt (λ x y w. in_opt w) (after Finishes (restoring d) (wrapping v))
  restoring (restores_rep d v) = along Finishes Rep (λ x y w. in_rep w) (after Finishes (restoring d) (wrapping v))
  restoring (restores_rep_once d v) = along Finishes RepOnce (λ x y w. in_rep_once w) (after Finishes (restoring d) (wrapping v))

-- whatever has wrappers is reached from what is left without them, by wrapping at one place after another
reaches_wrapped : (e : Expression) → To (erased e) e
reaches_wrapped (RestoreOnErr e) = after Finishes (reaches_wrapped e) (one_step (here wraps) no_step)
reaches_wrapped (PosPred e) = along Finishes PosPred (λ x y w. in_pos_pred w) (reaches_wrapped e)
reaches_wrapped (NegPred e) = along Finishes NegPred (λ x y w. in_neg_pred w) (reaches_wrapped e)
reaches_wrapped (Seq a b) =
    after Finishes (along Finishes (λ x. Seq x (erased b)) (λ x y w. in_seq_left w) (reaches_wrapped a))
    (along Finishes (Seq a) (λ x y w. in_seq_right w) (reaches_wrapped b))
reaches_wrapped (Choice a b) =
    after Finishes (along Finishes (λ x. Choice x (erased b)) (λ x y w. in_choice_left w) (reaches_wrapped a))
    (along Finishes (Choice a) (λ x y w. in_choice_right w) (reaches_wrapped b))
reaches_wrapped (Opt e) = along Finishes Opt (λ x y w. in_opt w) (reaches_wrapped e)
reaches_wrapped (Rep e) = along Finishes Rep (λ x y w. in_rep w) (reaches_wrapped e)
reaches_wrapped (RepOnce e) = along Finishes RepOnce (λ x y w. in_rep_once w) (reaches_wrapped e)
reaches_wrapped (RepExact e i) = along Finishes (λ x. RepExact x i) (λ x y w. in_rep_exact w) (reaches_wrapped e)
reaches_wrapped (RepMin e i) = along Finishes (λ x. RepMin x i) (λ x y w. in_rep_min w) (reaches_wrapped e)
reaches_wrapped (RepMax e i) = along Finishes (λ x. RepMax x i) (λ x y w. in_rep_max w) (reaches_wrapped e)
reaches_wrapped (RepMinMax e i j) = along Finishes (λ x. RepMinMax x i j) (λ x y w. in_rep_min_max w) (reaches_wrapped e)
reaches_wrapped (Push e) = along Finishes Push (λ x y w. in_push w) (reaches_wrapped e)
reaches_wrapped (NodeTag e t) = along Finishes (λ x. NodeTag x t) (λ x y w. in_tag w) (reaches_wrapped e)
reaches_wrapped (Str t) = no_step
reaches_wrapped (Insens t) = no_step
reaches_wrapped (Range t u) = no_step
reaches_wrapped (Ident n) = no_step
reaches_wrapped (PeekSlice i j) = no_step
reaches_wrapped (Skip ts) = no_step
reaches_wrapped (PushLiteral t) = no_step

abbrev pub Finished : Grammar → Grammar → Type 0
Finished g h = EachBody (λ y. Many Finishes) g h

abbrev Listed : RuleType → Expression → Expression → Type 0
Listed y a b = b ≡ listed a

abbrev Finishing : RuleType → Expression → Expression → Type 0
Finishing y = Many Finishes

pub listing_finishes : (g h : Grammar) → EachListed g h → Finished g h
listing_finishes g h e = each_body Listed Finishing (λ y a b i. subst (To a) (sym i) (reaches_listed a)) e

pub restoring_finishes : (g h : Grammar) → EachRestored g h → Finished g h
restoring_finishes g h e = each_body (λ y. RestoresTo g) Finishing (λ y a b d. restoring g d) e

-- a listing with wrappers wherever they stand
abbrev pub ListsWithoutWrappers : RuleType → Expression → Expression → Type 0
ListsWithoutWrappers y a b = erased b ≡ listed a

pub wrapped_listing_finishes : (g h : Grammar) → EachBody ListsWithoutWrappers g h → Finished g h
wrapped_listing_finishes g h e =
    each_body ListsWithoutWrappers Finishing (λ y a b i. after Finishes (subst (To a) (sym i) (reaches_listed a)) (reaches_wrapped b)) e

pub finished_well_formed : (g h : Grammar) → Finished g h → IsWellFormed g → IsWellFormed h
finished_well_formed g h e w = still_well_formed g Finish Any (finishes g) h e (λ n r i. any_bounds r.body) w

pub finished_plain : (g h : Grammar) → Finished g h → IsPlain g → IsPlain h
finished_plain g h e = still_plain g Finish Any (finishes g) h e

pub finished_grammar : (g h : Grammar) → Finished g h → IsGrammar g → IsGrammar h
finished_grammar g h e = still_grammar g Finish Any (finishes g) e

pub finished_readable : (g h : Grammar) → Finished g h → HasReadableCounts g → HasReadableCounts h
finished_readable g h e = still_readable g Finish Any (finishes g) e

pub finished_names_readable : (g h : Grammar) → Finished g h → NamesHaveReadableCounts g → NamesHaveReadableCounts h
finished_names_readable g h e = names_still_readable g Finish Any (finishes g) h e
