-- What is read stands where its trees do.
use Rattle.std.proofs.Common.{◌≡◌, ◌≤◌, ℕ, List, refl, ap, ◌∙◌, arith}
use Rattle.std.specs.Prelude.{codes}
use Rattle.base_language.specs.Language.State.{Trees, None', Tree, joined}
use Rattle.front_reader.specs.Pieces.{NestedInBytes}
use Rattle.front_reader.specs.Reading.{Category, Reads, Postfixed, done, more, barred, unbarred, one_alternative, choice, one_term, sequence, tagged, pos_pred, neg_pred, bare, grouped, leaf, pushed, literally_pushed}
use Rattle.front_spanned.specs.Spanned.{Span, Spanned, Leaf, One, Two, span_of, start_of, end_of, placed, ending}
use Rattle.front_grammar.specs.Shape.{Lone}
use Rattle.front_reader.proofs.TreesStandInText.{nested_order}

pub span_of-placed : (t : Span) (x : Spanned) → span_of (placed t x) ≡ t
span_of-placed t (Leaf s e) = refl
span_of-placed t (One s f x) = refl
span_of-placed t (Two s f x y) = refl

-- a node of the text that stands between i and j
pub record Within (text : List ℕ) (x : Spanned) (i j : ℕ) : Type 0 where
  pub same_text : (span_of x).text ≡ text
  pub after : i ≤ start_of x
  pub order : start_of x ≤ end_of x
  pub before : end_of x ≤ j

module _ (text : List ℕ) where
  -- trees in front of others
  pub nested_joined : (us vs : Trees) (i j : ℕ) → NestedInBytes text (joined us vs) i j
      → (k : ℕ) × NestedInBytes text us i k × NestedInBytes text vs k j
  nested_joined None' vs i j h = (i, omega arith, h)
  nested_joined (Tree r a b inner us) vs i j h =
      let s = nested_joined us vs b j h.4 in
      (s.0, (h.0, h.1, h.2, h.3, s.1), s.2)

  pub postfixed_within : {x y : Spanned} {us : Trees} → Postfixed text x us y → (i k j : ℕ)
      → Within text x i k → NestedInBytes text us k j → Within text y i j
  postfixed_within done i k j w h = record { same_text = w.same_text; after = w.after; order = w.order; before = omega (arith, w.before, h) }
  postfixed_within (more {r = r} {from = a} {to = b} {inner = inner} p d) i k j w h =
      let o = nested_order text inner a b h.3 in
      postfixed_within d i b j (record { same_text = refl; after = w.after; order = omega (arith, w.order, w.before, h.0, o); before = omega arith }) h.4

  wider : {x : Spanned} (i k l j : ℕ) → Within text x k l → i ≤ k → l ≤ j → Within text x i j
  wider i k l j w h m = record { same_text = w.same_text; after = omega (arith, w.after, h); order = w.order; before = omega (arith, w.before, m) }

  pub reads_within : {category : Category} {us : Trees} {x : Spanned} → Reads text category us x → (i j : ℕ)
      → NestedInBytes text us i j → Within text x i j
  reads_within (barred {bar_to = b} d) i j h = wider i b j j (reads_within d b j h.4) (omega (arith, h.0, h.3)) (omega arith)
  reads_within (unbarred d) i j h = reads_within d i j h
  reads_within (one_alternative d) i j h = reads_within d i j h
  reads_within (choice a b {us = us} {vs = vs} d e) i j h =
      let s = nested_joined us (Lone (codes "choice_operator") a b vs) i j h in
      let w = reads_within d i s.0 s.1 in
      let v = reads_within e b j s.2.4 in
      record { same_text = refl; after = w.after; order = omega (arith, w.order, w.before, s.2.0, s.2.3, v.after, v.order); before = v.before }
  reads_within (one_term {from = a} {to = b} d) i j h = wider i a b j (reads_within d a b h.3) h.0 h.4
  reads_within (sequence a b k l {us = us} {vs = vs} d e) i j h =
      let s = nested_joined us (Lone (codes "sequence_operator") a b (Tree (codes "term") k l vs None')) i j h in
      let w = reads_within d i s.0 s.1 in
      let t = s.2.4 in
      let v = reads_within e k l t.3 in
      record { same_text = refl; after = w.after; order = omega (arith, w.order, w.before, s.2.0, s.2.3, t.0, v.after, v.order); before = omega (arith, v.before, t.4) }
  reads_within (tagged {tag_at = a} {tag_to = b} {equals_at = k} {equals_to = l} d) i j h =
      let t = h.4 in
      let w = reads_within d l j t.4 in
      record { same_text = refl; after = h.0; order = omega (arith, h.3, t.0, t.3, w.after, w.order); before = w.before }
  reads_within (pos_pred {sign_at = a} {sign_to = b} d) i j h =
      let w = reads_within d b j h.4 in
      record { same_text = refl; after = h.0; order = omega (arith, h.3, w.after, w.order); before = w.before }
  reads_within (neg_pred {sign_at = a} {sign_to = b} d) i j h =
      let w = reads_within d b j h.4 in
      record { same_text = refl; after = h.0; order = omega (arith, h.3, w.after, w.order); before = w.before }
  reads_within (bare {to = b} d p) i j h = postfixed_within p i b j (reads_within d i b (h.0, h.1, h.2, h.3, omega arith)) h.4
  reads_within (grouped {open_at = a} {open_to = b} {body_at = k} {body_to = l} {close_at = m} {close_to = n} {x = x} {y = y} d p) i j h =
      let t = h.4 in
      let u = t.4 in
      let w = reads_within d k l t.3 in
      let e = span_of-placed (record (span_of x) { end = n }) x in
      let v : Within text (ending n x) k n = record {
        same_text = ap (λ (s : Span). s.text) e ∙ w.same_text;
        after = rw (ap (λ (s : Span). s.start) e) w.after;
        order = rw (ap (λ (s : Span). s.start) e, ap (λ (s : Span). s.end) e) (omega (arith, w.order, w.before, u.0, u.3));
        before = rw (ap (λ (s : Span). s.end) e) (omega arith);
      } in
      let z = postfixed_within p k n j v u.4 in
      let f = span_of-placed (record (span_of y) { start = a }) y in
      record {
        same_text = ap (λ (s : Span). s.text) f ∙ z.same_text;
        after = rw (ap (λ (s : Span). s.start) f) h.0;
        order = rw (ap (λ (s : Span). s.start) f, ap (λ (s : Span). s.end) f) (omega (arith, h.3, t.0, z.after, z.order));
        before = rw (ap (λ (s : Span). s.end) f) z.before;
      }
  reads_within (leaf {from = a} {to = b} {inner = inner} t) i j h = record { same_text = refl; after = h.0; order = nested_order text inner a b h.3; before = h.4 }
  reads_within (pushed {from = a} {to = b} {open_to = l} {body_at = m} {body_to = n} {close_at = c} {close_to = e} {us = us} d) i j h =
      let t = h.3 in
      let u = t.4 in
      let v = u.4 in
      let w = reads_within d m n u.3 in
      record { same_text = refl; after = h.0; order = omega (arith, t.0, t.3, u.0, w.after, w.order); before = omega (arith, w.before, v.0, v.3, nested_order text us e b v.4, h.4) }
  reads_within (literally_pushed {from = a} {to = b} {open_to = l} {string_at = m} {string_to = n} {close_at = c} {close_to = e} {us = us}) i j h =
      let t = h.3 in
      let u = t.4 in
      let v = u.4 in
      record { same_text = refl; after = omega (arith, h.0, t.0, t.3, u.0); order = nested_order text us m n u.3; before = omega (arith, v.0, v.3, v.4, h.4) }
