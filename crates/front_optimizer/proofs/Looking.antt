-- Names that are looked through, one below another.
use Rattle.std.proofs.Common.{◌≡◌, refl, sym, ◌∙◌, subst, ℕ, ◌+◌, ◌≤◌, cond, List, [], ◌∷◌, ◌++◌, Option, Some, None, Bool, true, false, arith, ◌⊎◌, inl, inr}
use Rattle.std.specs.Str.{chars, bytes_eq}
use Rattle.std.specs.HashMap.{HashMap}
use Rattle.std.proofs.lemmas.Slice.Eq.{bytes_eq-Decides}
use denote.Ref.{Bor}
use Rattle.base_language.specs.Language.Text.{Text}
use Rattle.base_language.specs.Language.Expression.{Expression, Ident, Rule, Grammar, rule_of}
use Rattle.base_ast.specs.Ast.{expression_of}
use Rattle.base_ast.specs.declared.ast.Expr.{Expr}
use Rattle.front_optimizer.specs.declared.strings.Caller.{Caller}
use Rattle.front_optimizer.specs.Bodies as within
use Rattle.front_optimizer.specs.Bodies.{Needs, the_name, StringsWithin, HasStrings, HasNoStrings, RestHas, RestHasNone, RestNeeds, met_at, KnownHave, FindsName}
use Rattle.front_optimizer.proofs.NamedStrings.{Path, at_once, by_way, higher, no_cycle, needed_strings, of_body, no_rule_none}

-- the name is one of the callers'
pub data Looks (n : List ℕ) : List Caller → Type 0 where
  it : {c : Caller} {cs : List Caller} → n ≡ c.name.now → Looks n (c ∷ cs)
  later : {c : Caller} {cs : List Caller} → Looks n cs → Looks n (c ∷ cs)

looks_more : {n : List ℕ} {cs : List Caller} (c : Caller) → Looks n cs → Looks n (cs ++ (c ∷ []))
looks_more c (it h) = it h
looks_more c (later l) = later (looks_more c l)

looks_last : {n : List ℕ} (cs : List Caller) (c : Caller) → n ≡ c.name.now → Looks n (cs ++ (c ∷ []))
looks_last [] c h = it h
looks_last (d ∷ cs) c h = later (looks_last cs c h)

looks_or_last : {n : List ℕ} (cs : List Caller) (c : Caller) → Looks n (cs ++ (c ∷ [])) → Looks n cs ⊎ (n ≡ c.name.now)
looks_or_last [] c (it h) = inr h
looks_or_last [] c (later l) = elim l [ ]
looks_or_last (d ∷ cs) c (it h) = inl (it h)
looks_or_last {n = n} (d ∷ cs) c (later l) = elim (looks_or_last cs c l) as (λ x. Looks n (d ∷ cs) ⊎ (n ≡ c.name.now)) [ inl k ↦ inl (later k) | inr h ↦ inr h ]

-- an expression calls a name, which is looked through, and goes on behind it
pub record Calls (g : Grammar) (known : ℕ) (whole : Expression) (n : Text) (behind : Option (Bor Expr)) : Type 0 where
  pub gives : (k : ℕ) → known ≤ k → HasStrings g k (Ident n) → RestHas g k behind → HasStrings g k whole
  pub needed : Needs whole n
  pub behind_needed : (j : Text) → RestNeeds behind j → Needs whole j
  pub behind_fails : RestHasNone g behind → HasNoStrings g whole

-- from an expression by way of the callers to another
pub data Linked (g : Grammar) (known : ℕ) : Expression → List Caller → Expression → Type 0 where
  nobody : {w : Expression} → Linked g known w [] w
  through : {w v : Expression} {c : Caller} {cs : List Caller} {r : Rule} → Calls g known w (chars c.name.now) c.behind → rule_of g (chars c.name.now) ≡ Some r → Linked g known r.body cs v → Linked g known w (c ∷ cs) v

module _ (g : Grammar) where
  more_known : {i j : ℕ} {w v : Expression} {cs : List Caller} → i ≤ j → Linked g i w cs v → Linked g j w cs v
  more_known h nobody = nobody
  more_known h (through c d l) = through (record { gives = λ k i. c.gives k (omega arith); needed = c.needed; behind_needed = c.behind_needed; behind_fails = c.behind_fails }) d (more_known h l)

  linked_more : {known : ℕ} {w v : Expression} {cs : List Caller} (c : Caller) {r : Rule} → Linked g known w cs v → Calls g known v (chars c.name.now) c.behind → rule_of g (chars c.name.now) ≡ Some r → Linked g known w (cs ++ (c ∷ [])) r.body
  linked_more c nobody k h = through k h nobody
  linked_more c (through b d l) k h = through b d (linked_more c l k h)

  pub record IsLast (known : ℕ) (w : Expression) (cs : List Caller) (c : Caller) (v : Expression) : Type 0 where
    pub whole : Expression
    pub rule : Rule
    pub linked : Linked g known w cs whole
    pub calls : Calls g known whole (chars c.name.now) c.behind
    pub defined : rule_of g (chars c.name.now) ≡ Some rule
    pub at : v ≡ rule.body

  linked_last : {known : ℕ} {w v : Expression} (cs : List Caller) (c : Caller) → Linked g known w (cs ++ (c ∷ [])) v → IsLast known w cs c v
  linked_last [] c (through k h nobody) = record { whole = _; rule = _; linked = nobody; calls = k; defined = h; at = refl }
  linked_last (b ∷ cs) c (through k h l) = let i = linked_last cs c l in record { whole = i.whole; rule = i.rule; linked = through k h i.linked; calls = i.calls; defined = i.defined; at = i.at }

  none_above : {known : ℕ} {w v : Expression} {cs : List Caller} → Linked g known w cs v → HasNoStrings g v → HasNoStrings g w
  none_above nobody n = n
  none_above (through k h l) n = λ ts s. let d = needed_strings g s k.needed in none_above l n d.0 (of_body g h d.1)

  reaches : {known : ℕ} {w v : Expression} {cs : List Caller} → Linked g known w cs v → (n j : Text) (r : Rule) → rule_of g n ≡ Some r → w ≡ r.body → Needs v j → Path g n j
  reaches nobody n j r h e v = at_once h (subst (λ x. Needs x j) e v)
  reaches (through {c = c} {r = q} k i l) n j r h e v = by_way h (subst (λ x. Needs x (chars c.name.now)) e k.needed) (reaches l (chars c.name.now) j q i refl v)

  path_from : {known : ℕ} {w v : Expression} {cs : List Caller} {n : List ℕ} {j : Text} → Linked g known w cs v → Looks n cs → Needs v j → Path g (chars n) j
  path_from {j = j} (through k h l) (it e) w = subst (λ x. Path g (chars x) j) (sym e) (reaches l _ j _ h refl w)
  path_from (through k h l) (later m) w = path_from l m w
  path_from nobody m w = elim m [ ]

-- the second map has the name marked, and is the first else
abbrev pub Marks : {S : Type 0} → HashMap (Bor (List ℕ)) Bool S → HashMap (Bor (List ℕ)) Bool S → List ℕ → Bool → Type 0
Marks m n bs b = (q : List ℕ) → met_at n q ≡ cond (bytes_eq bs q) (Some b) (met_at m q)

-- where the looking stands: some names are known, others are looked through, and something is left
module _ (g : Grammar) where
  pub record IsAt (known : ℕ) (rest : Option (Bor Expr)) (whole : Expression) : Type 0 where
    pub gives : (k : ℕ) → known ≤ k → RestHas g k rest → HasStrings g k whole
    pub needed : (j : Text) → RestNeeds rest j → Needs whole j
    pub fails : RestHasNone g rest → HasNoStrings g whole

  -- at a name q, which is the marked one or another
  marked : (b c : Bool) (t : Bool) {o : Option Bool} → cond t (Some b) o ≡ Some c → ((t ≡ true) × (b ≡ c)) ⊎ ((t ≡ false) × (o ≡ Some c))
  marked b c true h = inl (refl, cc)
  marked b c false h = inr (refl, h)

  pub record Looking {S : Type 0} (m : HashMap (Bor (List ℕ)) Bool S) (known : ℕ) (callers : List Caller) (rest : Option (Bor Expr)) (root : Expression) : Type 0 where
    pub whole : Expression
    pub linked : Linked g known root callers whole
    pub at : IsAt known rest whole
    pub have : KnownHave m g known
    pub looked : (n : List ℕ) → met_at m n ≡ Some false → Looks n callers ⊎ HasNoStrings g (Ident (chars n))

  -- the known names have strings, and the others that are met have none
  pub record Settled {S : Type 0} (m : HashMap (Bor (List ℕ)) Bool S) (known : ℕ) : Type 0 where
    pub have : KnownHave m g known
    pub have_none : (n : List ℕ) → met_at m n ≡ Some false → HasNoStrings g (Ident (chars n))

  -- where one has no strings, none of its callers has
  callers_fail : {known : ℕ} {w v : Expression} {cs : List Caller} {n : List ℕ} → Linked g known w cs v → HasNoStrings g v → Looks n cs → HasNoStrings g (Ident (chars n))
  callers_fail (through k h l) none (it e) = subst (λ x. HasNoStrings g (Ident (chars x))) (sym e) (λ ts s. none_above g l none ts (of_body g h s))
  callers_fail (through k h l) none (later i) = callers_fail l none i
  callers_fail nobody none i = elim i [ ]

  module _ {S : Type 0} {m : HashMap (Bor (List ℕ)) Bool S} {known : ℕ} {callers : List Caller} {root : Expression} where
    pub all_known : (e : Bor Expr) → Looking m known callers (Some e) root → ((g : Grammar) (k : ℕ) → KnownHave m g k → HasStrings g k (expression_of e.now)) → Looking m known callers None root
    all_known e l f = record {
      whole = l.whole;
      linked = l.linked;
      at = record { gives = λ k h u. l.at.gives k h (f g k (λ q i. higher g h (l.have q i))); needed = λ j w. absurd w; fails = λ w. absurd w };
      have = l.have;
      looked = l.looked;
    }

    given_up : {rest : Option (Bor Expr)} (l : Looking m known callers rest root) → HasNoStrings g l.whole → Settled m known
    given_up l none = record {
      have = l.have;
      have_none = λ q h. elim (l.looked q h) as (λ x. HasNoStrings g (Ident (chars q))) [ inl k ↦ callers_fail l.linked none k | inr k ↦ k ];
    }

    pub nothing : (e : Bor Expr) → Looking m known callers (Some e) root
        → ((g : Grammar) → ((q : List ℕ) → met_at m q ≡ Some false → Needs (expression_of e.now) (chars q) → HasNoStrings g (Ident (chars q))) → HasNoStrings g (expression_of e.now)) → Settled m known
    nothing e l f =
        given_up l (l.at.fails (f g (λ q h w. elim (l.looked q h) as (λ x. HasNoStrings g (Ident (chars q)))
        [ inl k ↦ (λ ts s. no_cycle g s the_name (path_from g l.linked k (l.at.needed (chars q) w))) | inr k ↦ k ])))

    pub no_rule : (e : Bor Expr) (bs : List ℕ) (behind : Option (Bor Expr)) → Looking m known callers (Some e) root → FindsName m (expression_of e.now) bs behind → rule_of g (chars bs) ≡ None → Settled m known
    no_rule e bs behind l f h = given_up l (l.at.fails (λ ts s. let d = needed_strings g s f.needed in no_rule_none g h d.0 d.1))

  pub ended : {S : Type 0} {m : HashMap (Bor (List ℕ)) Bool S} {known : ℕ} {rest : Option (Bor Expr)} {root : Expression} → Looking m known [] rest root → Settled m known
  ended l = record {
    have = l.have;
    have_none = λ q h. elim (l.looked q h) as (λ x. HasNoStrings g (Ident (chars q))) [ inl k ↦ nobody_looks k | inr k ↦ k ];
  }
    where
      nobody_looks : {q : List ℕ} {P : Type 0} → Looks q [] → P
      nobody_looks k = elim k [ ]

  pub begins : {S : Type 0} {m n : HashMap (Bor (List ℕ)) Bool S} {known : ℕ} (c : Caller) (body : Bor Expr) (r : Rule) → Settled m known → c.behind ≡ None
      → rule_of g (chars c.name.now) ≡ Some r → r.body ≡ expression_of body.now → Marks m n c.name.now false → Looking n known (c ∷ []) (Some body) (Ident (chars c.name.now))
  begins {known = known} c body r t j h i u = record {
    whole = r.body;
    linked = through (record {
      gives = λ k l s b. s;
      needed = the_name;
      behind_needed = λ k w. absurd (subst (λ x. RestNeeds x k) j w);
      behind_fails = λ w. absurd (subst (RestHasNone g) j w);
    }) h nobody;
    at = record { gives = λ k l s. subst (HasStrings g k) (sym i) s; needed = λ k w. subst (λ x. Needs x k) (sym i) w; fails = λ w. subst (HasNoStrings g) (sym i) w };
    have = λ q l. elim (marked false true (bytes_eq c.name.now q) (sym (u q) ∙ l)) as (λ x. HasStrings g known (Ident (chars q))) [ inl p ↦ cc p.1 | inr p ↦ t.have q p.1 ];
    looked = λ q l. elim (marked false false (bytes_eq c.name.now q) (sym (u q) ∙ l)) as (λ x. Looks q (c ∷ []) ⊎ HasNoStrings g (Ident (chars q)))
        [ inl p ↦ inl (it (sym ((bytes_eq-Decides c.name.now q).0 p.0))) | inr p ↦ inr (t.have_none q p.1) ];
  }

  module _ {S : Type 0} {m n : HashMap (Bor (List ℕ)) Bool S} {known : ℕ} {callers : List Caller} {root : Expression} where
    pub one_deeper : (e body : Bor Expr) (c : Caller) (r : Rule) → Looking m known callers (Some e) root → FindsName m (expression_of e.now) c.name.now c.behind
        → rule_of g (chars c.name.now) ≡ Some r → r.body ≡ expression_of body.now → Marks m n c.name.now false → Looking n known (callers ++ (c ∷ [])) (Some body) root
    one_deeper e body c r l f h i u = record {
      whole = r.body;
      linked = linked_more g c l.linked
          (record {
            gives = λ k j s b. l.at.gives k j (f.gives g k (λ q t. higher g j (l.have q t)) s b);
            needed = l.at.needed _ f.needed;
            behind_needed = λ j w. l.at.needed j (f.behind_needed j w);
            behind_fails = λ w. l.at.fails (f.behind_fails g w);
          })
          h;
      at = record { gives = λ k j s. subst (HasStrings g k) (sym i) s; needed = λ j w. subst (λ x. Needs x j) (sym i) w; fails = λ w. subst (HasNoStrings g) (sym i) w };
      have = λ q t. elim (marked false true (bytes_eq c.name.now q) (sym (u q) ∙ t)) as (λ x. HasStrings g known (Ident (chars q))) [ inl p ↦ cc p.1 | inr p ↦ l.have q p.1 ];
      looked = λ q t. elim (marked false false (bytes_eq c.name.now q) (sym (u q) ∙ t)) as (λ x. Looks q (callers ++ (c ∷ [])) ⊎ HasNoStrings g (Ident (chars q)))
          [ inl p ↦ inl (looks_last callers c (sym ((bytes_eq-Decides c.name.now q).0 p.0))) | inr p ↦ still_looked q (l.looked q p.1) ];
    }
      where
        still_looked : (q : List ℕ) → Looks q callers ⊎ HasNoStrings g (Ident (chars q)) → Looks q (callers ++ (c ∷ [])) ⊎ HasNoStrings g (Ident (chars q))
        still_looked q (inl k) = inl (looks_more c k)
        still_looked q (inr k) = inr k

    pub one_known : (c : Caller) → Looking m known (callers ++ (c ∷ [])) None root → Marks m n c.name.now true → Looking n (known + 1) callers c.behind root
    one_known c l u =
        let i = linked_last g callers c l.linked in
        let body : HasStrings g known i.rule.body = subst (HasStrings g known) i.at (l.at.gives known (omega arith) tt) in
        let here : (k : ℕ) → known + 1 ≤ k → HasStrings g k (Ident (chars c.name.now)) = λ k h. record { strings = body.strings; within = within.StringsWithin.named (omega arith) i.defined body.within } in
        record {
          whole = i.whole;
          linked = more_known g (omega arith) i.linked;
          at = record { gives = λ k h b. i.calls.gives k (omega arith) (here k h) b; needed = i.calls.behind_needed; fails = i.calls.behind_fails };
          have = λ q t. elim (marked true true (bytes_eq c.name.now q) (sym (u q) ∙ t)) as (λ x. HasStrings g (known + 1) (Ident (chars q)))
              [ inl p ↦ subst (λ x. HasStrings g (known + 1) (Ident (chars x))) ((bytes_eq-Decides c.name.now q).0 p.0) (here (known + 1) (omega arith)) | inr p ↦ higher g (omega arith) (l.have q p.1) ];
          looked = λ q t. elim (marked true false (bytes_eq c.name.now q) (sym (u q) ∙ t)) as (λ x. Looks q callers ⊎ HasNoStrings g (Ident (chars q)))
              [ inl p ↦ cc p.1 | inr p ↦ still_looked q (l.looked q p.1) p.0 ];
        }
      where
        not_last : (q : List ℕ) → Looks q callers ⊎ (q ≡ c.name.now) → bytes_eq c.name.now q ≡ false → Looks q callers
        not_last q (inl k) h = k
        not_last q (inr e) h = let t = (bytes_eq-Decides c.name.now q).1 (sym e) in cc

        still_looked : (q : List ℕ) → Looks q (callers ++ (c ∷ [])) ⊎ HasNoStrings g (Ident (chars q)) → bytes_eq c.name.now q ≡ false → Looks q callers ⊎ HasNoStrings g (Ident (chars q))
        still_looked q (inl k) h = inl (not_last q (looks_or_last callers c k) h)
        still_looked q (inr k) h = inr k

-- 1 where something is left
abbrev pub left_over : Option (Bor Expr) → ℕ
left_over None = 0
left_over (Some e) = 1

-- no name that was met is forgotten where another is marked
pub met_still : {S : Type 0} (m n : HashMap (Bor (List ℕ)) Bool S) (bs : List ℕ) (b : Bool) → Marks m n bs b → (q : List ℕ) → (met_at m q ≡ None → ⊥) → met_at n q ≡ None → ⊥
met_still m n bs b u q h i = from (bytes_eq bs q) (sym (u q) ∙ i)
  where
    from : (t : Bool) → cond t (Some b) (met_at m q) ≡ None → ⊥
    from true j = cc
    from false j = h j

pub met_here : {S : Type 0} (m n : HashMap (Bor (List ℕ)) Bool S) (bs : List ℕ) (b : Bool) → Marks m n bs b → met_at n bs ≡ None → ⊥
met_here m n bs b u i = from (bytes_eq bs bs) ((bytes_eq-Decides bs bs).1 refl) (sym (u bs) ∙ i)
  where
    from : (t : Bool) → t ≡ true → cond t (Some b) (met_at m bs) ≡ None → ⊥
    from true h j = cc
    from false h j = cc
