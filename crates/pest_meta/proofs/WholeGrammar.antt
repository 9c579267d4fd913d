-- Whole texts: a rule alone, and rules on lines of their own.
use Rattle.std.proofs.Common.{◌≡◌, refl, sym, ◌∙◌, ap, subst, ℕ, ◌+◌, List, [], ◌∷◌, ◌++◌, true, codes, Some, All}
use Rattle.std.specs.Str.{chars, IsUtf8}
use Rattle.std.proofs.lemmas.List.Elements.{All-head, All-tail}
use Rattle.base_language.specs.Language.Text.{Text}
use Rattle.base_language.specs.Language.Expression as bare
use Rattle.base_language.specs.Language.Expression.{Expression, Ident, Rule, RuleType, Normal, Silent, Atomic, CompoundAtomic, NonAtomic, Grammar, whitespace, comment}
use Rattle.base_language.specs.Language.State.{State, NonAtomicMode, AtomicMode, Between, Trees, None', Tree, Success, Failure, joined}
use Rattle.base_language.specs.Language.Meaning.{Does, Run, Turns}
use Rattle.base_language.specs.Pieces.MetaRules.{name_of}
use Rattle.base_language.specs.declared.grammar.Rule.TheVariants as is
use Rattle.base_language.proofs.Steps.{joined_assoc}
use Rattle.base_language.specs.Pieces.Saying.{piece}
use Rattle.base_language.proofs.Basics.{first_of_both, second_of_both}
use Rattle.front_grammar.specs.MetaGrammar.{meta_grammar, rule}
use Rattle.front_grammar.specs.Shape.{Lone, Braced}
use Rattle.front_grammar.proofs.Names.{ran_soi, ran_end}
use Rattle.front_spanned.specs.Spanned.{Spanned, SpannedRule}
use Rattle.front_spanned.specs.Erasure.{without_spans, rules_without_spans}
use Rattle.front_reader.specs.Reading as reading
use Rattle.front_reader.specs.Reading.{AnExpression, Reads, ReadsRule, ReadsRules, defined, end_of_input, normal, modified, characters_between}
use Rattle.front_reader.specs.Flaws.{own_flaw}
use Rattle.base_ast.specs.Printing.{Alone, printed}
use Rattle.pest_meta.specs.Nesting.{nested_right, nested_rules}
use Rattle.pest_meta.specs.ReadsBack.{IsWritable, IsWritableRule, is_name, is_name_start, modifier, rule_line, grammar_text, IsReadAs, ReadsBack, GrammarsReadBack}
use Rattle.pest_meta.proofs.PrintedBefore.{printed_before, append-printed_at, more, both, counted}
use Rattle.pest_meta.proofs.Characters.{excluded, solid_when}
use Rattle.pest_meta.proofs.Deriving.{at, Gives, Calls, Skips, str, range, call, neg_pred, seq, seq_first, seq_second, left, right, opt, opt_none, rep, rep_none, turn, turn_none, skips, between, atomic, stays, one_blank, a_line_feed, one_line_feed, fails}
use Rattle.pest_meta.proofs.Parts.{by_brace, IsLeftAt, IsFlawless, flawless_none, flawless_both, flawless_tree, no_flaw, still_left}
use Rattle.pest_meta.proofs.Assembly.{blank_before}
use Rattle.pest_meta.proofs.WrittenBetween.{written_is}
use Rattle.pest_meta.proofs.Names.{name_does, following}
use Rattle.pest_meta.proofs.Induction.{whole_text}

-- at the end nothing is skipped, and there are no rules and no comments
no_blank_at_end : (p : ℕ) → Gives (Run Between (Ident whitespace)) (at p []) Failure
unfolding whitespace comment
no_blank_at_end p = call is.WHITESPACE refl (right (right str str) (call is.newline refl (right str str)))

no_comment_at_end : (p : ℕ) → Gives (Run Between (Ident comment)) (at p []) Failure
unfolding whitespace comment
no_comment_at_end p = call is.COMMENT refl (right (call is.block_comment refl (seq_first (seq_first str))) (call is.line_comment refl (seq_first (seq_first str))))

stays_at_end : (p : ℕ) → Skips (at p []) p []
stays_at_end p = skips (seq (rep_none (no_blank_at_end p)) between (rep_none (seq_first (no_comment_at_end p))))

last_line_feed : (p : ℕ) → Skips (at p (10 ∷ [])) (p + 1) []
last_line_feed p =
    skips (seq (rep (a_line_feed [] p) (turn_none between (no_blank_at_end (p + 1)))) between (rep_none (seq_first (no_comment_at_end (p + 1)))))

no_rule_at_end : (p : ℕ) → Calls is.grammar_rule (at p []) Failure
unfolding whitespace comment
no_rule_at_end p =
    call is.grammar_rule refl (right
    (seq_first (seq_first (seq_first (seq_first (seq_first (call is.identifier refl (seq_first (seq_second (neg_pred str) atomic (right str (call is.alpha refl (right range_fails range_fails)))))))))))
    (call is.line_doc refl (seq_first (seq_first str))))
  where
    range_fails : {a b : ℕ} → Gives (Run AtomicMode (bare.Range (a ∷ []) (b ∷ []))) (at p []) Failure
    range_fails = Rattle.pest_meta.proofs.Deriving.range

no_doc_at_end : (p : ℕ) → Calls is.grammar_doc (at p []) Failure
unfolding whitespace comment
no_doc_at_end p = call is.grammar_doc refl (seq_first (seq_first str))

soi : (t : Text) → Gives (Run NonAtomicMode (Ident (codes "SOI"))) (at 0 t) (Success (at 0 t) None')
soi t = λ z. (ran_soi {classes = z} {p = 0} refl).found

eoi : (p : ℕ) → Gives (Run NonAtomicMode (Ident (codes "EOI"))) (at p []) (Success (at p []) (Lone (codes "EOI") p p None'))
eoi p = λ z. (ran_end {classes = z} {p = 0} refl).found

-- a rule's text before what stands behind it, and that of rules on lines of their own
abbrev pub rule_before : Text → RuleType → Expression → Text → Text
rule_before n ty e K = n ++ (32 ∷ 61 ∷ 32 ∷ (modifier ty ++ (123 ∷ 32 ∷ printed_before Alone e (32 ∷ 125 ∷ K))))

abbrev pub lines_before : Grammar → Text
lines_before [] = []
lines_before (r ∷ rs) = rule_before r.name r.type_of r.body (10 ∷ lines_before rs)

append-rule_line : (r : Rule) (K : Text) → rule_line r ++ K ≡ rule_before r.name r.type_of r.body (10 ∷ K)
append-rule_line r K =
    let m = modifier r.type_of in
    let head = r.name ++ codes " = " ++ m ++ codes "{ " in
    let F : Text → Text = λ L. r.name ++ (32 ∷ 61 ∷ 32 ∷ (m ++ (123 ∷ 32 ∷ L))) in
    more (head ++ printed r.body) (codes " }\n") (λ L. F (printed_before Alone r.body L))
    (both head (printed r.body) F (λ L. printed_before Alone r.body L) (counted r.name (codes " = ") m (codes "{ ") (λ L. r.name ++ L) (λ L. refl)) (append-printed_at Alone r.body)) K

pub all_lines : (rs : Grammar) → grammar_text rs ≡ lines_before rs
all_lines [] = refl
all_lines (r ∷ rs) = append-rule_line r (grammar_text rs) ∙ ap (λ K. rule_before r.name r.type_of r.body (10 ∷ K)) (all_lines rs)

-- a modifier, or none, before a brace
record ModifierAt (text : List ℕ) (ty : RuleType) (p : ℕ) (t : Text) : Type 0 where
  pub place : ℕ
  pub trees : Trees
  pub does : Gives (Run NonAtomicMode (bare.Opt (rule is.modifier))) (at p (modifier ty ++ (123 ∷ t))) (Success (at place (123 ∷ t)) trees)
  pub blank : (q : ℕ) → Skips (at q (32 ∷ (modifier ty ++ (123 ∷ t)))) (q + 1) (modifier ty ++ (123 ∷ t))
  pub flawless : IsFlawless text trees
  pub reads : (i j a b c d e f g h : ℕ) (body : Trees) (x : Spanned) → Reads text AnExpression body x
      → ReadsRule text (Lone (codes "identifier") i j (Lone (codes "assignment_operator") a b (joined trees (Braced c d e f g h body))))
      (Some (record { name = characters_between text i j; span = piece text i j; type_of = ty; body = x }))

modifier_at : (text : List ℕ) (ty : RuleType) (p : ℕ) (t : Text) → ModifierAt text ty p t
unfolding whitespace comment own_flaw
modifier_at text Normal p t = record {
  place = p;
  trees = None';
  does = opt_none (fails is.modifier 123 t p refl);
  blank = λ q. one_blank 123 t q refl;
  flawless = flawless_none text;
  reads = λ i j a b c d e f g h body x r. normal r;
}
modifier_at text Silent p t = record {
  place = p + 1;
  trees = Lone (codes "silent_modifier") p (p + 1) None';
  does = opt (call is.modifier refl (left (left (left (call is.silent_modifier refl str)))));
  blank = λ q. one_blank 95 (123 ∷ t) q refl;
  flawless = flawless_tree text (λ vs. refl) (flawless_none text) (flawless_none text);
  reads = λ i j a b c d e f g h body x r. modified reading.silent r;
}
modifier_at text Atomic p t = record {
  place = p + 1;
  trees = Lone (codes "atomic_modifier") p (p + 1) None';
  does = opt (call is.modifier refl (left (left (right (call is.silent_modifier refl str) (call is.atomic_modifier refl str)))));
  blank = λ q. one_blank 64 (123 ∷ t) q refl;
  flawless = flawless_tree text (λ vs. refl) (flawless_none text) (flawless_none text);
  reads = λ i j a b c d e f g h body x r. modified reading.atomic r;
}
modifier_at text CompoundAtomic p t = record {
  place = p + 1;
  trees = Lone (codes "compound_atomic_modifier") p (p + 1) None';
  does = opt (call is.modifier refl (left (right (right (call is.silent_modifier refl str) (call is.atomic_modifier refl str)) (call is.compound_atomic_modifier refl str))));
  blank = λ q. one_blank 36 (123 ∷ t) q refl;
  flawless = flawless_tree text (λ vs. refl) (flawless_none text) (flawless_none text);
  reads = λ i j a b c d e f g h body x r. modified reading.compound_atomic r;
}
modifier_at text NonAtomic p t = record {
  place = p + 1;
  trees = Lone (codes "non_atomic_modifier") p (p + 1) None';
  does = opt (call is.modifier refl (right
      (right (right (call is.silent_modifier refl str) (call is.atomic_modifier refl str)) (call is.compound_atomic_modifier refl str))
      (call is.non_atomic_modifier refl str)));
  blank = λ q. one_blank 33 (123 ∷ t) q refl;
  flawless = flawless_tree text (λ vs. refl) (flawless_none text) (flawless_none text);
  reads = λ i j a b c d e f g h body x r. modified reading.non_atomic r;
}

-- a rule from p on, before K
record RuleAt (text : List ℕ) (p : ℕ) (n : Text) (ty : RuleType) (e : Expression) (K : Text) : Type 0 where
  pub place : ℕ
  pub inner : Trees
  pub does : Calls is.grammar_rule (at p (rule_before n ty e K)) (Success (at place K) (Tree (codes "grammar_rule") p place inner None'))
  pub stay : Skips (at p (rule_before n ty e K)) p (rule_before n ty e K)
  pub no_doc : Calls is.grammar_doc (at p (rule_before n ty e K)) Failure
  pub said : SpannedRule
  pub reads : ReadsRule text inner (Some said)
  pub name : said.name ≡ n
  pub type_of : said.type_of ≡ ty
  pub body : nested_right (without_spans said.body) ≡ nested_right e
  pub flawless : IsFlawless text (Tree (codes "grammar_rule") p place inner None')

starts_name : (c : ℕ) (n : Text) → is_name (c ∷ n) ≡ true → is_name_start c ≡ true
starts_name c n h = first_of_both _ _ (second_of_both _ _ h)

-- behind a line feed
before_rule : (n : Text) (ty : RuleType) (e : Expression) (K : Text) (q : ℕ) → is_name n ≡ true → Skips (at q (10 ∷ rule_before n ty e K)) (q + 1) (rule_before n ty e K)
before_rule [] ty e K q h = cc
before_rule (c ∷ n) ty e K q h = one_line_feed c _ q (solid_when is_name_start c refl refl (starts_name c n h))

module _ (text : List ℕ) (utf8 : IsUtf8 text) where
  rule_at : (n : Text) (ty : RuleType) (e : Expression) → is_name n ≡ true → IsWritable e → (p : ℕ) (K : Text) → IsLeftAt text p (rule_before n ty e K) → RuleAt text p n ty e K
  unfolding whitespace comment own_flaw
  rule_at [] ty e h w p K here = cc
  rule_at (c ∷ n) ty e h w p K here =
      let E : Text = printed_before Alone e (32 ∷ 125 ∷ K) in
      let T : Text = modifier ty ++ (123 ∷ 32 ∷ E) in
      let i = starts_name c n h in
      let (q, d) = name_does c n (32 ∷ 61 ∷ 32 ∷ T) h (following 32 (61 ∷ 32 ∷ T) refl) p in
      let m = modifier_at text ty (q + 1 + 1 + 1) (32 ∷ E) in
      let named : IsLeftAt text q (32 ∷ 61 ∷ 32 ∷ T) = still_left text d here in
      let at_sign : IsLeftAt text (q + 1) (61 ∷ 32 ∷ T) = still_left text {k = Run NonAtomicMode (bare.Str (32 ∷ []))} str named in
      let behind_sign : IsLeftAt text (q + 1 + 1) (32 ∷ T) = still_left text {k = Run NonAtomicMode (bare.Str (61 ∷ []))} str at_sign in
      let at_modifier : IsLeftAt text (q + 1 + 1 + 1) T = still_left text {k = Run NonAtomicMode (bare.Str (32 ∷ []))} str behind_sign in
      let at_brace : IsLeftAt text m.place (123 ∷ 32 ∷ E) = still_left text m.does at_modifier in
      let behind_brace : IsLeftAt text (m.place + 1) (32 ∷ E) = still_left text {k = Run NonAtomicMode (bare.Str (123 ∷ []))} str at_brace in
      let at_body : IsLeftAt text (m.place + 1 + 1) E = still_left text {k = Run NonAtomicMode (bare.Str (32 ∷ []))} str behind_brace in
      let b = whole_text text utf8 e w (m.place + 1 + 1) (32 ∷ 125 ∷ K) (125 ∷ K) at_body (by_brace K) in
      let opened : Trees = Lone (codes "opening_brace") m.place (m.place + 1) None' in
      let body : Trees = Tree (codes "expression") (m.place + 1 + 1) b.end.position b.inner None' in
      let closed : Trees = Lone (codes "closing_brace") b.place (b.place + 1) None' in
      let rest : Trees = joined (joined (joined m.trees opened) body) closed in
      let same_rest : rest ≡ joined m.trees (joined opened (joined body closed)) = joined_assoc (joined m.trees opened) body closed ∙ joined_assoc m.trees opened (joined body closed) in
      let said : SpannedRule = record { name = characters_between text p q; span = piece text p q; type_of = ty; body = b.said } in
      let around : Trees → Trees = λ us. Lone (codes "identifier") p q (Lone (codes "assignment_operator") (q + 1) (q + 1 + 1) us) in
      record {
        place = b.place + 1;
        inner = around rest;
        does =
            call is.grammar_rule refl (left (seq (seq (seq (seq (seq
            d
            (one_blank 61 (32 ∷ T) q refl) (call is.assignment_operator refl str))
            (m.blank (q + 1 + 1)) m.does)
            (stays 123 (32 ∷ E) m.place refl) (call is.opening_brace refl str))
            (blank_before text b.starts (m.place + 1)) b.does)
            b.after (call is.closing_brace refl str)));
        stay = stays c _ p (solid_when is_name_start c refl refl i);
        no_doc = fails is.grammar_doc c _ p (excluded is_name_start (codes "/") c refl i);
        said = said;
        reads = subst (λ us. ReadsRule text (around us) (Some said)) (sym same_rest) (m.reads p q (q + 1) (q + 1 + 1) m.place (m.place + 1) (m.place + 1 + 1) b.end.position b.place (b.place + 1) b.inner b.said b.reads);
        name = written_is text utf8 p q (c ∷ n) (32 ∷ 61 ∷ 32 ∷ T) here named;
        type_of = refl;
        body = b.says.same;
        flawless =
            flawless_tree text (λ vs. refl)
            (flawless_tree text (λ vs. refl) (flawless_none text)
            (flawless_tree text (λ vs. refl) (flawless_none text)
            (flawless_both text
            (flawless_both text (flawless_both text m.flawless (flawless_tree text (λ vs. refl) (flawless_none text) (flawless_none text))) b.flawless)
            (flawless_tree text (λ vs. refl) (flawless_none text) (flawless_none text)))))
            (flawless_none text);
      }

  -- the rules behind one, up to the end
  record RulesBehind (p : ℕ) (t : Text) (rs : Grammar) : Type 0 where
    pub end : State
    pub trees : Trees
    pub turns : Gives (Turns NonAtomicMode (rule is.grammar_rule)) (at p t) (Success end trees)
    pub place : ℕ
    pub after : Skips end place []
    pub said : List SpannedRule
    pub reads : ReadsRules text (joined trees (Lone (codes "EOI") place place None')) said
    pub same : nested_rules (rules_without_spans said) ≡ nested_rules rs
    pub flawless : IsFlawless text trees

  no_more : (p : ℕ) → RulesBehind p [] []
  no_more p = record {
    end = at p [];
    trees = None';
    turns = turn_none (stays_at_end p) (no_rule_at_end p);
    place = p;
    after = stays_at_end p;
    said = [];
    reads = end_of_input;
    same = refl;
    flawless = flawless_none text;
  }

  one_more : (n m : Text) (t u : RuleType) (a b : Expression) (g h : Grammar) → n ≡ m → t ≡ u → a ≡ b → g ≡ h
      → record { name = n; type_of = t; body = a } ∷ g ≡ record { name = m; type_of = u; body = b } ∷ h
  one_more n m t u a b g h i j k l = rw (i, j, k, l) refl

  rules_behind : (rs : Grammar) → All IsWritableRule rs → (p : ℕ) → IsLeftAt text p (10 ∷ lines_before rs) → RulesBehind p (10 ∷ lines_before rs) rs
  rules_behind [] h p here = record {
    end = at p (10 ∷ []);
    trees = None';
    turns = turn_none (last_line_feed p) (no_rule_at_end (p + 1));
    place = p + 1;
    after = last_line_feed p;
    said = [];
    reads = end_of_input;
    same = refl;
    flawless = flawless_none text;
  }
  rules_behind (r ∷ rs) h p here =
      let writable = All-head IsWritableRule r rs h in
      let K : Text = 10 ∷ lines_before rs in
      let behind : IsLeftAt text (p + 1) (rule_before r.name r.type_of r.body K) = still_left text {k = Run NonAtomicMode (bare.Str (10 ∷ []))} str here in
      let x = rule_at r.name r.type_of r.body writable.0 writable.1 (p + 1) K behind in
      let m = rules_behind rs (All-tail IsWritableRule r rs h) x.place (still_left text x.does behind) in
      record {
        end = m.end;
        trees = Tree (codes "grammar_rule") (p + 1) x.place x.inner m.trees;
        turns = turn (before_rule r.name r.type_of r.body K p writable.0) x.does m.turns;
        place = m.place;
        after = m.after;
        said = x.said ∷ m.said;
        reads = defined x.reads m.reads;
        same = one_more _ _ _ _ _ _ _ _ x.name x.type_of x.body m.same;
        flawless = flawless_both text x.flawless m.flawless;
      }

  -- a rule and those behind it are the whole text
  whole : (n : Text) (ty : RuleType) (e : Expression) (K : Text) (rs : Grammar) → chars text ≡ rule_before n ty e K
      → (x : RuleAt text 0 n ty e K) → RulesBehind x.place K rs → IsReadAs text (record { name = n; type_of = ty; body = e } ∷ rs)
  unfolding whitespace comment own_flaw
  whole n ty e K rs split x m =
      let all : Trees = Tree (codes "grammar_rule") 0 x.place x.inner (joined m.trees (Lone (codes "EOI") m.place m.place None')) in
      let does : Calls is.grammar_rules (at 0 (rule_before n ty e K)) (Success (at m.place []) all) =
      call is.grammar_rules refl (seq (seq (seq (soi _) x.stay (rep_none x.no_doc)) x.stay (rep x.does m.turns)) m.after (eoi m.place)) in
      record {
        trees = all;
        spelled = λ z. (at m.place [], subst (λ t. Does meta_grammar z (Run NonAtomicMode (Ident (name_of is.grammar_rules))) (at 0 t) (Success (at m.place []) all)) (sym split) (does z));
        flawless = no_flaw text (flawless_both text x.flawless (flawless_both text m.flawless (flawless_tree text (λ vs. refl) (flawless_none text) (flawless_none text))));
        said = x.said ∷ m.said;
        read = defined x.reads m.reads;
        same = one_more _ _ _ _ _ _ _ _ x.name x.type_of x.body m.same;
      }

  nothing : chars text ≡ [] → IsReadAs text []
  unfolding whitespace comment own_flaw
  nothing split =
      let all : Trees = Lone (codes "EOI") 0 0 None' in
      let does : Calls is.grammar_rules (at 0 []) (Success (at 0 []) all) =
      call is.grammar_rules refl (seq (seq (seq (soi []) (stays_at_end 0) (rep_none (no_doc_at_end 0))) (stays_at_end 0) (rep_none (no_rule_at_end 0))) (stays_at_end 0) (eoi 0)) in
      record {
        trees = all;
        spelled = λ z. (at 0 [], subst (λ t. Does meta_grammar z (Run NonAtomicMode (Ident (name_of is.grammar_rules))) (at 0 t) (Success (at 0 []) all)) (sym split) (does z));
        flawless = refl;
        said = [];
        read = end_of_input;
        same = refl;
      }

pub reads_back : ReadsBack
reads_back e text h utf8 split =
    let all : chars text ≡ rule_before (codes "x") Normal e [] = split ∙ ap (λ t. 120 ∷ 32 ∷ 61 ∷ 32 ∷ 123 ∷ 32 ∷ t) (append-printed_at Alone e (32 ∷ 125 ∷ [])) in
    let x = rule_at text utf8 (codes "x") Normal e refl h 0 [] (record { front = []; split = all; size = refl }) in
    whole text utf8 (codes "x") Normal e [] [] all x (no_more text utf8 x.place)

pub grammars_read_back : GrammarsReadBack
grammars_read_back [] text h utf8 split = nothing text utf8 split
grammars_read_back (r ∷ rs) text h utf8 split =
    let writable = All-head IsWritableRule r rs h in
    let K : Text = 10 ∷ lines_before rs in
    let all : chars text ≡ rule_before r.name r.type_of r.body K = split ∙ all_lines (r ∷ rs) in
    let here : IsLeftAt text 0 (rule_before r.name r.type_of r.body K) = record { front = []; split = all; size = refl } in
    let x = rule_at text utf8 r.name r.type_of r.body writable.0 writable.1 0 K here in
    whole text utf8 r.name r.type_of r.body K rs all x (rules_behind text utf8 rs (All-tail IsWritableRule r rs h) x.place (still_left text x.does here))
