-- Where literals are joined at each node from the leaves up, no two are left.
use Rattle.std.proofs.Common.{◌≡◌, refl, subst}
use Rattle.base_language.specs.Language.Expression.{Expression, Str, Insens, Range, Ident, PeekSlice, PosPred, NegPred, Seq, Choice, Opt, Rep, RepOnce, RepExact, RepMin, RepMax, RepMinMax, Skip, Push, RestoreOnErr, Atomic, Part, whole, of_seq_left, of_seq_right, of_choice_left, of_choice_right, of_pos_pred, of_neg_pred, of_opt, of_rep, of_rep_once, of_rep_exact, of_rep_min, of_rep_max, of_rep_min_max, of_push, of_restore, PushLiteral, NodeTag, of_tag}
use Rattle.base_language.specs.Language.Text.{Text}
use Rattle.base_language.specs.Rewritings.Rewriting.{IsDone, Many, no_step, one_step, here, Joins, join_literals, join_insensitive, Nowhere}
use Rattle.base_ast.specs.Ast.{rule_type_of}
use Rattle.base_ast.specs.declared.ast.RuleType as code
use Rattle.base_ast.specs.declared.ast.RuleType.TheVariants as is
use Rattle.front_optimizer.specs.Here.{joined_here}
use Rattle.front_optimizer.specs.Traversals.{BottomUp, left, Above}
use Rattle.front_optimizer.specs.Traversals as trav
use Rattle.front_optimizer.proofs.Operands.{Operands, no_operands}
use Rattle.front_optimizer.proofs.Chains as chains

abbrev pub Joined : Expression → Expression → Type 0
Joined a b = joined_here a ≡ b

joins : (a : Expression) → Many (Joins Atomic) a (joined_here a)
joins (Seq (Str a) (Str b)) = one_step (here join_literals) no_step
joins (Seq (Insens a) (Insens b)) = one_step (here join_insensitive) no_step
joins _ = no_step

pub reached : {a b : Expression} → BottomUp Joined a b → Many (Joins Atomic) a b
reached d = chains.bottom_up_many (Joins Atomic) Joined (λ a b h. subst (Many (Joins Atomic) a) h (joins a)) d

abbrev Free : Expression → Type 0
Free e = Nowhere (Joins Atomic) e

sequence : (a b : Expression) → ((q : Expression) → Joins Atomic (Seq a b) q → ⊥) → Free a → Free b → Free (Seq a b)
sequence a b n u v p q whole j = n q j
sequence a b n u v p q (of_seq_left k) j = u p q k j
sequence a b n u v p q (of_seq_right k) j = v p q k j

literal : {s : Text} → Free (Str s)
literal p q whole j = elim j [ ]

insensitive : {s : Text} → Free (Insens s)
insensitive p q whole j = elim j [ ]

pair : (a b : Expression) → Free a → Free b → Free (joined_here (Seq a b))
pair (Str s) (Str t) u v = literal
pair (Insens s) (Insens t) u v = insensitive
pair a b u v = sequence a b (λ q j. elim j [ ]) u v

at_node : (a : Expression) → Operands Free a → Free (joined_here a)
at_node (Seq a b) u p q k j = pair a b u.0 u.1 p q k j
at_node (Str s) u p q whole j = elim j [ ]
at_node (Insens s) u p q whole j = elim j [ ]
at_node (Range s w) u p q whole j = elim j [ ]
at_node (Ident s) u p q whole j = elim j [ ]
at_node (PeekSlice m n) u p q whole j = elim j [ ]
at_node (Skip ss) u p q whole j = elim j [ ]
at_node (PushLiteral s) u p q whole j = elim j [ ]
at_node (Choice a b) u p q whole j = elim j [ ]
at_node (Choice a b) u p q (of_choice_left k) j = u.0 p q k j
at_node (Choice a b) u p q (of_choice_right k) j = u.1 p q k j
at_node (PosPred e) u p q whole j = elim j [ ]
at_node (PosPred e) u p q (of_pos_pred k) j = u p q k j
at_node (NegPred e) u p q whole j = elim j [ ]
at_node (NegPred e) u p q (of_neg_pred k) j = u p q k j
at_node (Opt e) u p q whole j = elim j [ ]
at_node (Opt e) u p q (of_opt k) j = u p q k j
at_node (Rep e) u p q whole j = elim j [ ]
at_node (Rep e) u p q (of_rep k) j = u p q k j
at_node (RepOnce e) u p q whole j = elim j [ ]
at_node (RepOnce e) u p q (of_rep_once k) j = u p q k j
at_node (RepExact e m) u p q whole j = elim j [ ]
at_node (RepExact e m) u p q (of_rep_exact k) j = u p q k j
at_node (RepMin e m) u p q whole j = elim j [ ]
at_node (RepMin e m) u p q (of_rep_min k) j = u p q k j
at_node (RepMax e m) u p q whole j = elim j [ ]
at_node (RepMax e m) u p q (of_rep_max k) j = u p q k j
at_node (RepMinMax e m n) u p q whole j = elim j [ ]
at_node (RepMinMax e m n) u p q (of_rep_min_max k) j = u p q k j
at_node (Push e) u p q whole j = elim j [ ]
at_node (Push e) u p q (of_push k) j = u p q k j
at_node (NodeTag e t) u p q whole j = elim j [ ]
at_node (NodeTag e t) u p q (of_tag k) j = u p q k j
at_node (RestoreOnErr e) u p q whole j = elim j [ ]
at_node (RestoreOnErr e) u p q (of_restore k) j = u p q k j

mutual
  free : {a b : Expression} → BottomUp Joined a b → Free b
  free (left {m = m} d r) = subst Free r (at_node m (operands d))

  operands : {a b : Expression} → Above Joined a b → Operands Free b
  operands (trav.Above.leaf h) = no_operands Free _ h
  operands (trav.Above.seq d e) = (free d, free e)
  operands (trav.Above.choice d e) = (free d, free e)
  operands (trav.Above.pos_pred d) = free d
  operands (trav.Above.neg_pred d) = free d
  operands (trav.Above.opt d) = free d
  operands (trav.Above.rep d) = free d
  operands (trav.Above.rep_once d) = free d
  operands (trav.Above.rep_exact d) = free d
  operands (trav.Above.rep_min d) = free d
  operands (trav.Above.rep_max d) = free d
  operands (trav.Above.rep_min_max d) = free d
  operands (trav.Above.push d) = free d
  operands (trav.Above.tag d) = free d

pub all_joined : {a b : Expression} → BottomUp Joined a b → IsDone (Joins Atomic) a b
all_joined d = record { reached = reached d; nowhere = free d }

-- in other types nothing is joined
pub nothing_joined : (y : code.RuleType) (a : Expression) → (y ≡ is.Atomic → ⊥) → IsDone (Joins (rule_type_of y)) a a
nothing_joined y a n = record { reached = no_step; nowhere = at y n }
  where
    at : (y : code.RuleType) → (y ≡ is.Atomic → ⊥) → (p q : Expression) → Part a p → Joins (rule_type_of y) p q → ⊥
    at is.Normal n p q k s = elim s [ ]
    at is.Silent n p q k s = elim s [ ]
    at is.Atomic n p q k s = n refl
    at is.CompoundAtomic n p q k s = elim s [ ]
    at is.NonAtomic n p q k s = elim s [ ]
