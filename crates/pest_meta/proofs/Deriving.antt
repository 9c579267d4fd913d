-- Derivations over the meta-grammar, whatever the classes are, from a position with an empty stack.
use Rattle.std.proofs.Common.{◌≡◌, refl, sym, ℕ, ◌+◌, [], ◌∷◌, Bool, true, false, not, ◌&&◌, nat_eq}
use Rattle.base_language.specs.Language.Text.{Text}
use Rattle.base_language.specs.Language.Expression.{Expression, Str, Range, Ident, Seq, Rep, RepOnce, RepMinMax, Opt, NegPred, Choice, whitespace, comment}
use Rattle.base_language.specs.Language.State.{Classes, State, Mode, NonAtomicMode, AtomicMode, CompoundAtomicMode, Between, Trees, None', Outcome, Success, Failure, joined}
use Rattle.base_language.specs.Language.Matching.{text_outcome, character_outcome, range_set}
use Rattle.base_language.specs.Language.Meaning as meaning
use Rattle.base_language.specs.Language.Meaning.{Does, Task, Run, Turns, Skipping, body_mode, with_token, once_or_more, from_to, not_ahead, skipped}
use Rattle.base_language.specs.Pieces.MetaRules.{name_of}
use Rattle.base_language.specs.declared.grammar.Rule.{Rule}
use Rattle.base_language.specs.declared.grammar.Rule.TheVariants as is
use Rattle.front_grammar.specs.MetaGrammar.{meta_grammar, rule_at, body_of}
use Rattle.front_grammar.specs.Rules.{is_defined}
use Rattle.front_grammar.proofs.Lookup.{defined_rule}
use Rattle.front_grammar.proofs.FirstCharacters.{fails_at_once, may_begin}
use Rattle.front_grammar.proofs.Names.{ran_whitespace, ran_comment}

-- a position, and what is left behind it
abbrev pub at : ℕ → Text → State
at p t = record { position = p; rest = t; stack = [] }

-- the task from s has the outcome o, whatever the classes are
abbrev pub Gives : Task → State → Outcome → Type 0
Gives k s o = (classes : Classes) → Does meta_grammar classes k s o

-- a rule in NonAtomic, by its name
abbrev pub Calls : Rule → State → Outcome → Type 0
Calls r s o = Gives (Run NonAtomicMode (Ident (name_of r))) s o

-- what is skipped
abbrev pub Skips : State → ℕ → Text → Type 0
Skips s q K = Gives (Skipping NonAtomicMode) s (Success (at q K) None')

pub str : {m : Mode} {t : Text} {s : State} → Gives (Run m (Str t)) s (text_outcome nat_eq t s)
str = λ z. meaning.str

pub range : {m : Mode} {a b : Text} {s : State} → Gives (Run m (Range a b)) s (character_outcome (range_set a b) s)
range = λ z. meaning.range

-- a call, by the number of its rule
pub call : {m : Mode} {s : State} {o : Outcome} (r : Rule) → is_defined r ≡ true → Gives (Run (body_mode (rule_at r) m) (body_of r)) s o → Gives (Run m (Ident (name_of r))) s (with_token (rule_at r) m s o)
call r h d = λ z. meaning.call (defined_rule r h) (d z)

pub neg_pred : {m : Mode} {e : Expression} {s : State} {o : Outcome} → Gives (Run m e) s o → Gives (Run m (NegPred e)) s (not_ahead s o)
neg_pred d = λ z. meaning.neg_pred (d z)

pub seq : {m : Mode} {a b : Expression} {s t u v : State} {us vs ws : Trees} → Gives (Run m a) s (Success t us) → Gives (Skipping m) t (Success u vs) → Gives (Run m b) u (Success v ws) → Gives (Run m (Seq a b)) s (Success v (joined us (joined vs ws)))
seq a k b = λ z. meaning.seq (a z) (k z) (b z)

pub seq_first : {m : Mode} {a b : Expression} {s : State} → Gives (Run m a) s Failure → Gives (Run m (Seq a b)) s Failure
seq_first a = λ z. meaning.seq_first (a z)

pub seq_second : {m : Mode} {a b : Expression} {s t u : State} {us vs : Trees} → Gives (Run m a) s (Success t us) → Gives (Skipping m) t (Success u vs) → Gives (Run m b) u Failure → Gives (Run m (Seq a b)) s Failure
seq_second a k b = λ z. meaning.seq_second (a z) (k z) (b z)

pub left : {m : Mode} {a b : Expression} {s t : State} {us : Trees} → Gives (Run m a) s (Success t us) → Gives (Run m (Choice a b)) s (Success t us)
left a = λ z. meaning.left (a z)

pub right : {m : Mode} {a b : Expression} {s : State} {o : Outcome} → Gives (Run m a) s Failure → Gives (Run m b) s o → Gives (Run m (Choice a b)) s o
right a b = λ z. meaning.right (a z) (b z)

pub opt : {m : Mode} {e : Expression} {s t : State} {us : Trees} → Gives (Run m e) s (Success t us) → Gives (Run m (Opt e)) s (Success t us)
opt a = λ z. meaning.opt (a z)

pub opt_none : {m : Mode} {e : Expression} {s : State} → Gives (Run m e) s Failure → Gives (Run m (Opt e)) s (Success s None')
opt_none a = λ z. meaning.opt_none (a z)

pub rep : {m : Mode} {e : Expression} {s t u : State} {us vs : Trees} → Gives (Run m e) s (Success t us) → Gives (Turns m e) t (Success u vs) → Gives (Run m (Rep e)) s (Success u (joined us vs))
rep a b = λ z. meaning.rep (a z) (b z)

pub rep_none : {m : Mode} {e : Expression} {s : State} → Gives (Run m e) s Failure → Gives (Run m (Rep e)) s (Success s None')
rep_none a = λ z. meaning.rep_none (a z)

pub turn : {m : Mode} {e : Expression} {s t u v : State} {us vs ws : Trees} → Gives (Skipping m) s (Success t us) → Gives (Run m e) t (Success u vs) → Gives (Turns m e) u (Success v ws) → Gives (Turns m e) s (Success v (joined us (joined vs ws)))
turn k a b = λ z. meaning.turn (k z) (a z) (b z)

pub turn_none : {m : Mode} {e : Expression} {s t : State} {us : Trees} → Gives (Skipping m) s (Success t us) → Gives (Run m e) t Failure → Gives (Turns m e) s (Success s None')
turn_none k a = λ z. meaning.turn_none (k z) (a z)

pub rep_once : {m : Mode} {e : Expression} {s : State} {o : Outcome} → Gives (Run m (once_or_more e)) s o → Gives (Run m (RepOnce e)) s o
rep_once a = λ z. meaning.rep_once (a z)

pub rep_min_max : {m : Mode} {e : Expression} {i j : ℕ} {s : State} {o : Outcome} → Gives (Run m (from_to e i j)) s o → Gives (Run m (RepMinMax e i j)) s o
rep_min_max a = λ z. meaning.rep_min_max (a z)

pub skips : {s : State} {o : Outcome} → Gives (Run Between skipped) s o → Gives (Skipping NonAtomicMode) s o
skips a = λ z. meaning.skips (a z)

pub atomic : {s : State} → Gives (Skipping AtomicMode) s (Success s None')
atomic = λ z. meaning.atomic

pub compound_atomic : {s : State} → Gives (Skipping CompoundAtomicMode) s (Success s None')
compound_atomic = λ z. meaning.compound_atomic

pub between : {s : State} → Gives (Skipping Between) s (Success s None')
between = λ z. meaning.between

-- a character that begins no blank and no comment
abbrev pub is_solid : ℕ → Bool
is_solid c = not (may_begin is.WHITESPACE c) && not (may_begin is.COMMENT c)

solid_blank : (b d : Bool) → (not b && not d) ≡ true → b ≡ false
solid_blank true d h = sym h
solid_blank false d h = refl

solid_comment : (b d : Bool) → (not b && not d) ≡ true → d ≡ false
solid_comment true d h = absurd (let i : false ≡ true = h in cc)
solid_comment false true h = sym h
solid_comment false false h = refl

-- a rule that can't begin with the next character
pub fails : (r : Rule) (c : ℕ) (K : Text) (p : ℕ) → may_begin r c ≡ false → Calls r (at p (c ∷ K)) Failure
fails r c K p h = λ z. (fails_at_once r c z (at p (c ∷ K)) K 0 _ h refl refl).found

no_blank : (c : ℕ) (K : Text) (p : ℕ) → is_solid c ≡ true → Gives (Run Between (Ident whitespace)) (at p (c ∷ K)) Failure
no_blank c K p h = λ z.
    let i = solid_blank _ (may_begin is.COMMENT c) h in
    (ran_whitespace {q = 0} (fails_at_once is.WHITESPACE c z (at p (c ∷ K)) K 0 0 i refl refl)).found

no_comment : (c : ℕ) (K : Text) (p : ℕ) → is_solid c ≡ true → Gives (Run Between (Ident comment)) (at p (c ∷ K)) Failure
no_comment c K p h = λ z.
    let i = solid_comment (may_begin is.WHITESPACE c) _ h in
    (ran_comment {q = 0} (fails_at_once is.COMMENT c z (at p (c ∷ K)) K 0 0 i refl refl)).found

a_blank : (K : Text) (p : ℕ) → Gives (Run Between (Ident whitespace)) (at p (32 ∷ K)) (Success (at (p + 1) K) None')
unfolding whitespace comment
a_blank K p = call is.WHITESPACE refl (left (left str))

-- nothing is skipped, or one blank
pub stays : (c : ℕ) (K : Text) (p : ℕ) → is_solid c ≡ true → Skips (at p (c ∷ K)) p (c ∷ K)
stays c K p h = skips (seq (rep_none (no_blank c K p h)) between (rep_none (seq_first (no_comment c K p h))))

pub one_blank : (c : ℕ) (K : Text) (p : ℕ) → is_solid c ≡ true → Skips (at p (32 ∷ c ∷ K)) (p + 1) (c ∷ K)
one_blank c K p h =
    skips (seq (rep (a_blank (c ∷ K) p) (turn_none between (no_blank c K (p + 1) h))) between (rep_none (seq_first (no_comment c K (p + 1) h))))

-- a line feed too
pub a_line_feed : (K : Text) (p : ℕ) → Gives (Run Between (Ident whitespace)) (at p (10 ∷ K)) (Success (at (p + 1) K) None')
unfolding whitespace comment
a_line_feed K p = call is.WHITESPACE refl (right (right str str) (call is.newline refl (left str)))

pub one_line_feed : (c : ℕ) (K : Text) (p : ℕ) → is_solid c ≡ true → Skips (at p (10 ∷ c ∷ K)) (p + 1) (c ∷ K)
one_line_feed c K p h =
    skips (seq (rep (a_line_feed (c ∷ K) p) (turn_none between (no_blank c K (p + 1) h))) between (rep_none (seq_first (no_comment c K (p + 1) h))))
