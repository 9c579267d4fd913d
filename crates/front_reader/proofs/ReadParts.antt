-- What holds of every part of what is read, if it holds of what each tree gives.
use Rattle.std.proofs.Common.{◌≡◌, ℕ, List, [], ◌∷◌, Option, Some, false, codes, refl}
use Rattle.std.proofs.lemmas.List.Elements.{All-nil, All-cons, All-contains}
use Rattle.std.specs.List.{All}
use Rattle.base_language.specs.Language.Text.{Text}
use Rattle.base_language.specs.Language.Expression as bare
use Rattle.base_language.specs.Language.Expression.{Expression, Rule, Part, whole, of_pos_pred, of_neg_pred, of_seq_left, of_seq_right, of_choice_left, of_choice_right, of_opt, of_rep, of_rep_once, of_rep_exact, of_rep_min, of_rep_max, of_rep_min_max, of_push, of_tag}
use Rattle.base_language.specs.Language.State.{Trees, None', Tree, joined}
use Rattle.base_language.specs.Language.WellFormed.{InSomeRule}
use Rattle.front_spanned.specs.Erasure.{round, between, without_spans, rules_without_spans}
use Rattle.front_spanned.specs.Spanned.{Span, Spanned, Leaf, One, Two, Unary, PosPred, NegPred, Opt, Rep, RepOnce, RepExact, RepMin, RepMax, RepMinMax, Push, Tag, Binary, Seq, Choice, placed, SpannedRule}
use Rattle.front_reader.specs.Flaws.{closes}
use Rattle.front_reader.specs.Reading.{Category, Postfix, Postfixed, done, more, Terminal, identifier, string, insensitive, range, slice, slice_from, slice_to, slice_between, Reads, barred, unbarred, one_alternative, choice, one_term, sequence, tagged, pos_pred, neg_pred, bare, grouped, leaf, pushed, literally_pushed, literal_value, tag_name, ReadsRule, line_doc, normal, modified, ReadsRules, end_of_input, grammar_doc, documented, defined}

-- a condition on trees that is handed down: to what a tree holds, to what is behind it, and to trees before an operator
pub record IsHandedDown (C : Trees → Type 0) : Type 0 where
  pub inner : (r : Text) (i j : ℕ) (us vs : Trees) → C (Tree r i j us vs) → C us
  pub behind : (r : Text) (i j : ℕ) (us vs : Trees) → C (Tree r i j us vs) → C vs
  pub front : (us vs : Trees) → closes vs ≡ false → C (joined us vs) → C us

-- a condition on expressions that trees give: on what has no operands, round an operand, and between two
pub record IsGiven (text : List ℕ) (C : Trees → Type 0) (P : Expression → Type 0) : Type 0 where
  pub terminal : {r : Text} {i j : ℕ} {us : Trees} {e : Expression} (vs : Trees) → Terminal text r i j us e → C (Tree r i j us vs) → P e
  pub postfix : {r : Text} {us : Trees} {f : Unary} → Postfix text r us f → C us → (e : Expression) → P (round f e)
  pub positive : (e : Expression) → P (bare.PosPred e)
  pub negative : (e : Expression) → P (bare.NegPred e)
  pub push : (e : Expression) → P (bare.Push e)
  pub literal_push : {i j : ℕ} {us : Trees} (vs : Trees) → C (Tree (codes "string") i j us vs) → P (bare.PushLiteral (literal_value text us))
  pub tag : {i j : ℕ} (us : Trees) → C (Tree (codes "tag_id") i j None' us) → (e : Expression) → P (bare.NodeTag e (tag_name text i j))
  pub between_two : (f : Binary) (a b : Expression) → P (between f a b)

module _ (P : Expression → Type 0) where
  -- it holds of every part
  abbrev pub Throughout : Expression → Type 0
  Throughout e = (p : Expression) → Part e p → P p

  one : (f : Unary) (e : Expression) → P (round f e) → Throughout e → Throughout (round f e)
  one PosPred e c k p whole = c
  one PosPred e c k p (of_pos_pred d) = k p d
  one NegPred e c k p whole = c
  one NegPred e c k p (of_neg_pred d) = k p d
  one Opt e c k p whole = c
  one Opt e c k p (of_opt d) = k p d
  one Rep e c k p whole = c
  one Rep e c k p (of_rep d) = k p d
  one RepOnce e c k p whole = c
  one RepOnce e c k p (of_rep_once d) = k p d
  one (RepExact i) e c k p whole = c
  one (RepExact i) e c k p (of_rep_exact d) = k p d
  one (RepMin i) e c k p whole = c
  one (RepMin i) e c k p (of_rep_min d) = k p d
  one (RepMax i) e c k p whole = c
  one (RepMax i) e c k p (of_rep_max d) = k p d
  one (RepMinMax i j) e c k p whole = c
  one (RepMinMax i j) e c k p (of_rep_min_max d) = k p d
  one Push e c k p whole = c
  one Push e c k p (of_push d) = k p d
  one (Tag t) e c k p whole = c
  one (Tag t) e c k p (of_tag d) = k p d

  two : (f : Binary) (a b : Expression) → P (between f a b) → Throughout a → Throughout b → Throughout (between f a b)
  two Seq a b c k l p whole = c
  two Seq a b c k l p (of_seq_left d) = k p d
  two Seq a b c k l p (of_seq_right d) = l p d
  two Choice a b c k l p whole = c
  two Choice a b c k l p (of_choice_left d) = k p d
  two Choice a b c k l p (of_choice_right d) = l p d

  -- a node says the same wherever it stands
  moved : (t : Span) (x : Spanned) → Throughout (without_spans x) → Throughout (without_spans (placed t x))
  moved t (Leaf s e) k = k
  moved t (One s f x) k = k
  moved t (Two s f x y) k = k

module _ (text : List ℕ) (C : Trees → Type 0) (P : Expression → Type 0) (c : IsHandedDown C) (g : IsGiven text C P) where
  rest : (us vs : Trees) → C (joined us vs) → C vs
  rest None' vs h = h
  rest (Tree r i j inner us) vs h = rest us vs (c.behind r i j inner (joined us vs) h)

  postfixed_so : {x y : Spanned} {us : Trees} → Postfixed text x us y → C us → Throughout P (without_spans x) → Throughout P (without_spans y)
  postfixed_so done h k = k
  postfixed_so (more {x = x} {inner = inner} {us = us} {f = f} p d) h k =
      postfixed_so d (c.behind _ _ _ inner us h) (one P f (without_spans x) (g.postfix p (c.inner _ _ _ inner us h) (without_spans x)) k)

  -- an expression without operands has one part, itself
  alone : {r : Text} {i j : ℕ} {us : Trees} {e : Expression} → Terminal text r i j us e → (vs : Trees) → C (Tree r i j us vs) → Throughout P e
  alone t vs h = go t (g.terminal vs t h)
    where
      go : {r : Text} {i j : ℕ} {us : Trees} {e : Expression} → Terminal text r i j us e → P e → Throughout P e
      go identifier k p whole = k
      go string k p whole = k
      go insensitive k p whole = k
      go range k p whole = k
      go slice k p whole = k
      go slice_from k p whole = k
      go slice_to k p whole = k
      go slice_between k p whole = k

  -- and so has a literal push
  literal_so : {i j : ℕ} (us vs : Trees) → C (Tree (codes "string") i j us vs) → Throughout P (bare.PushLiteral (literal_value text us))
  literal_so us vs h p whole = g.literal_push vs h

  -- the trees in brackets of some kind
  bracketed : (r q : Text) (i j k l : ℕ) (inner us : Trees) → C (Tree r i j None' (Tree q k l inner us)) → C inner
  bracketed r q i j k l inner us h = c.inner _ _ _ inner us (c.behind _ _ _ None' _ h)

  reads_so : {category : Category} {us : Trees} {x : Spanned} → Reads text category us x → C us → Throughout P (without_spans x)
  reads_so (barred {us = us} d) h = reads_so d (c.behind _ _ _ None' us h)
  reads_so (unbarred d) h = reads_so d h
  reads_so (one_alternative d) h = reads_so d h
  reads_so (choice i j {us} {vs} d e) h =
      two P Choice _ _ (g.between_two Choice _ _) (reads_so d (c.front us _ refl h)) (reads_so e (c.behind _ _ _ None' vs (rest us _ h)))
  reads_so (one_term {us = us} d) h = reads_so d (c.inner _ _ _ us None' h)
  reads_so (sequence i j k l {us} {vs} d e) h =
      two P Seq _ _ (g.between_two Seq _ _) (reads_so d (c.front us _ refl h)) (reads_so e (bracketed _ _ _ _ _ _ vs None' (rest us _ h)))
  reads_so (tagged {us = us} {tag_at = i} {tag_to = j} d) h =
      one P (Tag (tag_name text i j)) _ (g.tag _ h _) (reads_so d (c.behind _ _ _ None' us (c.behind _ _ _ None' _ h)))
  reads_so (pos_pred {us = us} d) h = one P PosPred _ (g.positive _) (reads_so d (c.behind _ _ _ None' us h))
  reads_so (neg_pred {us = us} d) h = one P NegPred _ (g.negative _) (reads_so d (c.behind _ _ _ None' us h))
  reads_so (bare {inner = inner} {us = us} (leaf t) q) h = postfixed_so q (c.behind _ _ _ inner us h) (alone t us h)
  reads_so (bare {inner = inner} {us = us} (pushed {inner = body} {us = vs} d) q) h =
      postfixed_so q (c.behind _ _ _ inner us h) (one P Push _ (g.push _) (reads_so d (bracketed _ _ _ _ _ _ body _ (c.inner _ _ _ inner us h))))
  reads_so (bare {inner = inner} {us = us} (literally_pushed {us = vs}) q) h =
      postfixed_so q (c.behind _ _ _ inner us h) (literal_so vs _ (c.behind _ _ _ None' _ (c.inner _ _ _ inner us h)))
  reads_so (grouped {inner = inner} {us = us} {x = x} {y = y} d q) h =
      let behind = c.behind _ _ _ None' us (c.behind _ _ _ inner _ (c.behind _ _ _ None' _ h)) in
      moved P _ y (postfixed_so q behind (moved P _ x (reads_so d (bracketed _ _ _ _ _ _ inner _ h))))
  reads_so (leaf t) h = alone t None' h
  reads_so (literally_pushed {us = us}) h = literal_so us _ (c.behind _ _ _ None' _ (c.inner _ _ _ _ _ h))
  reads_so (pushed {inner = body} d) h = one P Push _ (g.push _) (reads_so d (bracketed _ _ _ _ _ _ body _ (c.inner _ _ _ _ _ h)))

  -- it holds throughout the body of a rule
  abbrev InBody : Rule → Type 0
  InBody r = Throughout P r.body

  rule_so : {us : Trees} {r : SpannedRule} → ReadsRule text us (Some r) → C us → Throughout P (without_spans r.body)
  rule_so (normal {body = body} d) h = reads_so d (bracketed _ _ _ _ _ _ body _ (c.behind _ _ _ None' _ (c.behind _ _ _ None' _ h)))
  rule_so (modified {body = body} m d) h = reads_so d (bracketed _ _ _ _ _ _ body _ (c.behind _ _ _ None' _ (c.behind _ _ _ None' _ (c.behind _ _ _ None' _ h))))

  rules_so : {us : Trees} {rs : List SpannedRule} → ReadsRules text us rs → C us → All InBody (rules_without_spans rs)
  rules_so end_of_input h = All-nil InBody
  rules_so (grammar_doc {inner = inner} {us = us} d) h = rules_so d (c.behind _ _ _ inner us h)
  rules_so (documented {inner = inner} {us = us} e d) h = rules_so d (c.behind _ _ _ inner us h)
  rules_so (defined {inner = inner} {us = us} e d) h =
      All-cons InBody _ _ (rule_so e (c.inner _ _ _ inner us h)) (rules_so d (c.behind _ _ _ inner us h))

  -- it holds of every part of every rule
  pub parts_so : {us : Trees} {rs : List SpannedRule} → ReadsRules text us rs → C us
      → (p : Expression) → InSomeRule (rules_without_spans rs) p → P p
  parts_so {rs = rs} d h p i = All-contains InBody (rules_without_spans rs) i.0 (rules_so d h) i.1 p i.2
