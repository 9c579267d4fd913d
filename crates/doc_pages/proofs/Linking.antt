-- Links to rules.
use Rattle.std.proofs.Common.{◌≡◌, ◌∙◌, ap, refl, subst, sym, ℕ, zero, suc, ◌+◌, ◌<◌, ◌==◌, Bool, true, false, if◌then◌else◌, List, [], ◌∷◌, ◌++◌, Option, Some, None, Ok, Err, OnOk, Result, append_assoc, arith, bytes_eq, codes, length}
use Rattle.std.proofs.lemmas.Grind.{flat_map-append}
use Rattle.std.proofs.lemmas.List.{append-nil, length-map}
use Rattle.std.proofs.lemmas.List.Elements.{All-append, All-cons, All-nil, All-push, All-same}
use Rattle.std.proofs.lemmas.Option.{slice_get_within}
use Rattle.std.proofs.lemmas.Slice.Eq.{bytes_eq-Decides}
use Rattle.std.proofs.lemmas.Str.{IsUtf8-string_bytes}
use Rattle.std.specs.Fmt.{decimal}
use Rattle.std.specs.Global.{Vec}
use Rattle.std.specs.HashMap.{get_by_text}
use Rattle.std.specs.List.{All, flat_map, range_with_len}
use Rattle.std.specs.Map.{lookup}
use Rattle.std.specs.Option.{IfSome, unwrap_or}
use Rattle.std.specs.Prelude.{cond, string_bytes}
use Rattle.std.specs.Str.{IsUtf8, chars}
use Rattle.std.specs.declared.alloc.Global.{Global}
use Rattle.std.specs.declared.string.String.{String}
use Rattle.front_analysis.proofs.Resolved.{Named, absent, named, resolved}
use Rattle.front_analysis.specs.NameMaps.{KnowsRules}
use Rattle.front_analysis.specs.Names.{grammar_of}
use Rattle.front_analysis.specs.declared.names.Names.{Names}
use Rattle.base_ast.specs.Ast.{expression_of, rule_of_code, rules_of}
use Rattle.base_ast.specs.declared.ast.Rule as code
use Rattle.base_ast.specs.declared.ast.Expr.{Expr, Str, Insens, Range, Ident, PeekSlice, PosPred', NegPred', Seq', Choice', Opt', Rep', RepOnce', RepExact', RepMin', RepMax', RepMinMax', Skip, Push', PushLiteral, NodeTag'}
use Rattle.base_language.specs.Language.Expression.{last_place}
use Rattle.base_language.specs.Language.Text.{Text}
use Rattle.doc_diagram.specs.Labels.{leaf_label, shortened}
use Rattle.doc_diagram.specs.Marks.{Mark, Shows, at_least, at_most, between, diagram_marks, link_marks, marks_of, text_marks, token_marks}
use Rattle.doc_pages.specs.Links.{AreFactsBelow, AreNumbersBelow, diagram_links, mark_links, other_rule, part_links, source_links}
use Rattle.doc_pages.specs.declared.facts.RuleFacts.{RuleFacts}
use Rattle.doc_pages.specs.declared.source.SourcePart.{SourcePart}
use Rattle.doc_pages.specs.declared.source.SourcePart.TheVariants as part
use Rattle.doc_markup.specs.Links.{AreLinksWithin, links_of, token_links}
use Rattle.doc_markup.specs.declared.tokens.Markup.{Markup}
use Rattle.doc_markup.specs.declared.tokens.Markup.TheVariants as token
use Rattle.front_spanned.specs.Erasure.{rule_without_spans, rules_without_spans}
use Rattle.front_spanned.specs.Nodes.{rule_view, rule_views}
use Rattle.front_spanned.specs.declared.node.ParserRule.{ParserRule}

-- one number more
pub range_more : (a n j : ℕ) → a + n ≡ j → range_with_len a (suc n) ≡ range_with_len a n ++ j ∷ []
range_more a zero j e = let same : a ≡ j = omega arith in ap (λ k. k ∷ []) same
range_more a (suc n) j e = ap (λ t. a ∷ t) (range_more (a + 1) n j (omega arith))

pub one_link_more : (old links more : List ℕ) (n : ℕ) → links ≡ old ++ range_with_len 0 n → more ≡ links ++ n ∷ []
    → more ≡ old ++ range_with_len 0 (n + 1)
one_link_more old links more n h e =
    let next : suc n ≡ n + 1 = omega arith in
    e ∙ ap (λ t. t ++ n ∷ []) h ∙ append_assoc old (range_with_len 0 n) (n ∷ [])
    ∙ ap (λ t. old ++ t) (sym (range_more 0 n n (omega arith)) ∙ ap (range_with_len 0) next)

-- links are those that are shown
pub links_shown : (ts : List Markup) → links_of ts ≡ flat_map mark_links (marks_of ts)
links_shown [] = refl
links_shown (t ∷ ts) =
    ap (λ x. x ++ links_of ts) (one t) ∙ ap (λ x. flat_map mark_links (token_marks t) ++ x) (links_shown ts)
    ∙ sym (flat_map-append mark_links (token_marks t) (marks_of ts))
  where
    one : (t : Markup) → token_links t ≡ flat_map mark_links (token_marks t)
    one (token.Open x) = refl
    one token.TagEnd = refl
    one token.EmptyTagEnd = refl
    one (token.Close x) = refl
    one (token.Attribute x) = refl
    one token.Quote = refl
    one (token.Class x) = refl
    one token.Namespace = refl
    one token.Style = refl
    one token.LineFeed = refl
    one (token.Command x) = refl
    one (token.Number x) = refl
    one (token.Text x) = refl
    one (token.Label x) = refl
    one (token.RuleName x) = refl
    one (token.Link x) = refl

-- tokens that gain tokens three times
three_links : (a b c d xs ys zs : List Markup) → b ≡ a ++ xs → c ≡ b ++ ys → d ≡ c ++ zs
    → links_of d ≡ links_of a ++ links_of xs ++ links_of ys ++ links_of zs
three_links a b c d xs ys zs e f g =
    ap links_of g ∙ flat_map-append token_links c zs
    ∙ ap (λ t. t ++ links_of zs) (ap links_of f ∙ flat_map-append token_links b ys
    ∙ ap (λ t. t ++ links_of ys) (ap links_of e ∙ flat_map-append token_links a xs))

-- and links only with the second of them
links_between : (a b c d xs ys zs : List Markup) (links : List ℕ) → b ≡ a ++ xs → c ≡ b ++ ys → d ≡ c ++ zs
    → links_of xs ≡ [] → links_of ys ≡ links → links_of zs ≡ [] → links_of d ≡ links_of a ++ links
links_between a b c d xs ys zs links e f g x y z =
    three_links a b c d xs ys zs e f g ∙ ap (λ t. links_of a ++ links_of xs ++ links_of ys ++ t) z
    ∙ append-nil (links_of a ++ links_of xs ++ links_of ys) ∙ ap (λ t. links_of a ++ t ++ links_of ys) x
    ∙ ap (λ t. t ++ links_of ys) (append-nil (links_of a)) ∙ ap (λ t. links_of a ++ t) y

pub ok_links_between : {T E : Type 0} (r : Result T E) (a b c d xs ys zs : List Markup) (links : List ℕ) → b ≡ a ++ xs
    → c ≡ b ++ ys → OnOk r (d ≡ c ++ zs) → links_of xs ≡ [] → links_of ys ≡ links → links_of zs ≡ []
    → OnOk r (links_of d ≡ links_of a ++ links)
ok_links_between (Ok t) a b c d xs ys zs links e f g x y z = links_between a b c d xs ys zs links e f g x y z
ok_links_between (Err t) a b c d xs ys zs links e f g x y z = tt

-- one item more
pub item_more : (a b c d xs ys zs : List Markup) (old : List ℕ) (n : ℕ) → b ≡ a ++ xs → c ≡ b ++ ys → d ≡ c ++ zs
    → links_of xs ≡ [] → links_of ys ≡ n ∷ [] → links_of zs ≡ [] → links_of a ≡ old ++ range_with_len 0 n
    → links_of d ≡ old ++ range_with_len 0 (n + 1)
item_more a b c d xs ys zs old n e f g x y z h =
    one_link_more old (links_of a) (links_of d) n h (links_between a b c d xs ys zs (n ∷ []) e f g x y z)

-- links within a bound
pub within_more : (n : ℕ) (old new : List Markup) (links : List ℕ) → links_of new ≡ links_of old ++ links
    → All (λ r. r < n) links → AreLinksWithin n old → AreLinksWithin n new
within_more n old new links e h k =
    All-same (λ r. r < n) (links_of new) (links_of old ++ links) e (All-append (λ r. r < n) (links_of old) links k h)

pub ok_within_more : {T E Z : Type 0} (r : Result T E) (n : ℕ) (old new : List Markup) (links : List ℕ)
    → OnOk r (links_of new ≡ links_of old ++ links) → All (λ r. r < n) links → (Z → AreLinksWithin n old)
    → OnOk r (Z → AreLinksWithin n new)
ok_within_more (Ok t) n old new links e h before = λ z. within_more n old new links e h (before z)
ok_within_more (Err t) n old new links e h before = tt

-- callers that were taken, or none
pub callers_taken : (n : ℕ) (o : Option (Vec ℕ)) (d v : Vec ℕ) → IfSome o (λ cs. All (λ r. r < n) cs.items)
    → d.items ≡ [] → v ≡ unwrap_or o d → All (λ r. r < n) v.items
callers_taken n None d v h e same =
    All-same (λ r. r < n) v.items [] (ap (λ x. x.items) same ∙ e) (All-nil (λ r. r < n))
callers_taken n (Some cs) d v h e same = All-same (λ r. r < n) v.items cs.items (ap (λ x. x.items) same) h

pub facts_more : (n : ℕ) (fs gs : List RuleFacts) (f : RuleFacts) → gs ≡ fs ++ f ∷ [] → AreFactsBelow n fs
    → All (λ r. r < n) f.callers.items → AreFactsBelow n gs
facts_more n fs gs f e h k =
    All-same (λ g. All (λ r. r < n) g.callers.items) gs (fs ++ f ∷ []) e
    (All-push (λ g. All (λ r. r < n) g.callers.items) fs f h k)

-- there is a rule without spans for each rule
pub erased_length : (rs : List code.Rule) (spanned : List ParserRule) → rules_of rs ≡ rules_without_spans (rule_views spanned)
    → length rs ≡ length spanned
erased_length rs spanned e =
    sym (length-map rs rule_of_code) ∙ ap length e ∙ length-map (rule_views spanned) rule_without_spans
    ∙ length-map spanned rule_view

module _ (n : ℕ) (number_of : List ℕ → Option ℕ) (below : AreNumbersBelow n number_of) where
  abbrev Below : List ℕ → Type 0
  Below rs = All (λ r. r < n) rs

  none : Below []
  none = All-nil (λ r. r < n)

  joined : (ms ns : List Mark) → Below (flat_map mark_links ms) → Below (flat_map mark_links ns)
      → Below (flat_map mark_links (ms ++ ns))
  joined ms ns h k =
      All-same (λ r. r < n) (flat_map mark_links (ms ++ ns)) (flat_map mark_links ms ++ flat_map mark_links ns)
      (flat_map-append mark_links ms ns)
      (All-append (λ r. r < n) (flat_map mark_links ms) (flat_map mark_links ns) h k)

  of_text : (text : List ℕ) → Below (flat_map mark_links (text_marks text))
  of_text text = go (length text == 0)
    where
      go : (b : Bool) → Below (flat_map mark_links (if b then [] else Shows text ∷ []))
      go true = none
      go false = none

  of_call : (name : List ℕ) (o : Option ℕ) → number_of name ≡ o → Below (flat_map mark_links (link_marks o))
  of_call name None e = none
  of_call name (Some r) e = All-cons (λ r. r < n) r [] (below name r e) none

  with_text : (x : Expr) (text : List ℕ) → Below (diagram_links number_of x)
      → Below (flat_map mark_links (diagram_marks number_of x ++ text_marks text))
  with_text x text h = joined (diagram_marks number_of x) (text_marks text) h (of_text text)

  -- a diagram links to rules with such numbers
  pub diagram_below : (e : Expr) → Below (diagram_links number_of e)
  diagram_below (Str s) = of_text (leaf_label (expression_of (Str s)))
  diagram_below (Insens s) = of_text (leaf_label (expression_of (Insens s)))
  diagram_below (Range s t) = of_text (leaf_label (expression_of (Range s t)))
  diagram_below (Ident s) =
      let label = leaf_label (expression_of (Ident s)) in
      joined (link_marks (number_of (string_bytes s))) (text_marks label)
      (of_call (string_bytes s) (number_of (string_bytes s)) refl) (of_text label)
  diagram_below (PeekSlice i j) = of_text (leaf_label (expression_of (PeekSlice i j)))
  diagram_below (PosPred' p x) = with_text x (codes "followed by") (diagram_below x)
  diagram_below (NegPred' p x) = with_text x (codes "not followed by") (diagram_below x)
  diagram_below (Seq' p x q y) = joined (diagram_marks number_of x) (diagram_marks number_of y) (diagram_below x) (diagram_below y)
  diagram_below (Choice' p x q y) = joined (diagram_marks number_of x) (diagram_marks number_of y) (diagram_below x) (diagram_below y)
  diagram_below (Opt' p x) = diagram_below x
  diagram_below (Rep' p x) = diagram_below x
  diagram_below (RepOnce' p x) = diagram_below x
  diagram_below (RepExact' p x m) = with_text x (decimal m ++ codes " times") (diagram_below x)
  diagram_below (RepMin' p x m) = with_text x (at_least m) (diagram_below x)
  diagram_below (RepMax' p x m) = with_text x (at_most m) (diagram_below x)
  diagram_below (RepMinMax' p x m k) = with_text x (between m k) (diagram_below x)
  diagram_below (Skip ss) = of_text (leaf_label (expression_of (Skip ss)))
  diagram_below (Push' p x) = with_text x (codes "PUSH") (diagram_below x)
  diagram_below (PushLiteral s) = of_text (leaf_label (expression_of (PushLiteral s)))
  diagram_below (NodeTag' p x t) = with_text x (codes "#" ++ shortened (string_bytes t)) (diagram_below x)

  of_other : (own : ℕ) (name : List ℕ) (o : Option ℕ) → number_of name ≡ o → Below (other_rule own o)
  of_other own name None e = none
  of_other own name (Some r) e = go (r == own)
    where
      go : (b : Bool) → Below (if b then [] else r ∷ [])
      go true = none
      go false = All-cons (λ r. r < n) r [] (below name r e) none

  of_part : (own : ℕ) (p : SourcePart) → Below (part_links number_of own p)
  of_part own (part.Name name) = of_other own name.now (number_of name.now) refl
  of_part own (part.Other text) = none

  -- and so does a rule's text
  pub source_below : (own : ℕ) (parts : List SourcePart) → Below (source_links number_of own parts)
  source_below own [] = none
  source_below own (p ∷ ps) =
      All-append (λ r. r < n) (part_links number_of own p) (source_links number_of own ps) (of_part own p) (source_below own ps)

-- a name that is found is a text
found_text : (es : List (String Global × ℕ)) (bs : List ℕ) (r : ℕ)
    → lookup (λ k. bytes_eq bs (string_bytes k)) es ≡ Some r → IsUtf8 bs
found_text [] bs r h = absurd (let bad : None ≡ Some r = h in cc)
found_text (e ∷ es) bs r h = go (bytes_eq bs (string_bytes e.0)) refl (λ k. found_text es bs r k) h
  where
    go : (b : Bool) → bytes_eq bs (string_bytes e.0) ≡ b
        → (lookup (λ k. bytes_eq bs (string_bytes k)) es ≡ Some r → IsUtf8 bs)
        → cond b (Some e.1) (lookup (λ k. bytes_eq bs (string_bytes k)) es) ≡ Some r → IsUtf8 bs
    go true q others h = subst IsUtf8 (sym ((bytes_eq-Decides bs (string_bytes e.0)).0 q)) (IsUtf8-string_bytes e.0)
    go false q others h = others h

place_below : (rules : List ParserRule) (name : Text) (r : ℕ) → last_place (grammar_of rules) name ≡ Some r
    → r < length rules
place_below rules name r h = go (last_place (grammar_of rules) name) (resolved rules name) h
  where
    go : (o : Option ℕ) → Named rules name o → o ≡ Some r → r < length rules
    go o (absent e) h = absurd (let bad : None ≡ Some r = h in cc)
    go o (named {r = k} rule at e) h =
        let same : k ≡ r = (let some : Some k ≡ Some r = h in cc) in
        subst (λ i. i < length rules) same (slice_get_within rules k rule at)

-- numbers of rules are below their count
pub numbers_below : (rules : List ParserRule) (names : Names) → KnowsRules rules names
    → AreNumbersBelow (length rules) (get_by_text names.places)
numbers_below rules names known = λ name r e.
    place_below rules (chars name) r (sym (known name (found_text names.places.entries name r e)) ∙ e)
