-- Values that are no nodes.
use Rattle.std.proofs.Common.{◌≡◌, ◌≢◌, ◌≤◌, ◌<◌, ℕ, suc, ℤ, Bool, true, false, Decides, cond, bytes_eq, Option, Some, None, List, [], ◌∷◌, String, Global, length, codes, refl, sym, ap, ◌∙◌, subst, arith}
use Rattle.std.proofs.lemmas.Slice.Eq.{bytes_eq-Decides}
use Rattle.serde_json.specs.Data.{Data, Items, array, item, no_items, string}
use Rattle.serde_json.specs.Find.{as_array, as_str}
use Rattle.serde_json.specs.View.{items_of, items_view}
use Rattle.serde_json.specs.declared.value.Value.{Value}
use Rattle.base_language.specs.Language.Grammar.{EndFits, FitsSigned32, FitsUnsigned32}
use Rattle.format_json.specs.Format.{count_data, end_data, form, form_with, form_with_two, place_data, texts_data}
use Rattle.format_json.specs.Nodes.{HasFittingNumbers, IsNoNode, node_data}
use Rattle.format_json.specs.declared.nodes.JsonNode.{JsonNode}
use Rattle.format_json.specs.declared.nodes.JsonNode.TheVariants as node

-- a node is a list of its form's name and its arguments, two at most
pub record IsForm (d : Data) : Type 0 where
  pub name : List ℕ
  pub arguments : List Data
  pub same : d ≡ array (item (string name) (items_of arguments))
  pub few : length arguments ≤ 2

of_none : (name : List ℕ) → IsForm (form name)
of_none name = record { name = name; arguments = []; same = refl; few = omega arith }

of_one : (name : List ℕ) (x : Data) → IsForm (form_with name x)
of_one name x = record { name = name; arguments = x ∷ []; same = refl; few = omega arith }

of_two : (name : List ℕ) (x y : Data) → IsForm (form_with_two name x y)
of_two name x y = record { name = name; arguments = x ∷ (y ∷ []); same = refl; few = omega arith }

is_form : (n : JsonNode) → IsForm (node_data n)
is_form (node.Str s) = of_one _ _
is_form (node.Insens s) = of_one _ _
is_form (node.Range s t) = of_two _ _ _
is_form (node.Ident s) = of_one _ _
is_form (node.PeekSlice i j) = of_two _ _ _
is_form node.PosPred = of_none _
is_form node.NegPred = of_none _
is_form node.Seq = of_none _
is_form node.Choice = of_none _
is_form node.Opt = of_none _
is_form node.Rep = of_none _
is_form node.RepOnce = of_none _
is_form (node.RepExact n) = of_one _ _
is_form (node.RepMin n) = of_one _ _
is_form (node.RepMax n) = of_one _ _
is_form (node.RepMinMax m n) = of_two _ _ _
is_form (node.Skip ss) = of_one _ _
is_form node.Push = of_none _
is_form (node.PushLiteral s) = of_one _ _
is_form (node.NodeTag s) = of_one _ _
is_form node.RestoreOnErr = of_none _

pub no_list : (d : Data) → as_array d ≡ None → IsNoNode d
no_list d h n fits e =
    let f = is_form n in
    let some : Some (item (string f.name) (items_of f.arguments)) ≡ None = ap as_array (sym f.same ∙ e) ∙ h in
    cc

pub no_name : (d : Data) (ds : Items) → as_str d ≡ None → IsNoNode (array (item d ds))
no_name d ds h n fits e =
    let f = is_form n in
    let same : array (item (string f.name) (items_of f.arguments)) ≡ array (item d ds) = sym f.same ∙ e in
    let first : string f.name ≡ d = cc in
    let some : Some f.name ≡ None = ap as_str first ∙ h in
    cc

abbrev count_of : Items → ℕ
count_of no_items = 0
count_of (item d ds) = suc (count_of ds)

count_of_items : (ds : List Data) → count_of (items_of ds) ≡ length ds
count_of_items [] = refl
count_of_items (d ∷ ds) = ap suc (count_of_items ds)

count_of_values : (vs : List Value) → count_of (items_view vs) ≡ length vs
count_of_values [] = refl
count_of_values (v ∷ vs) = ap suc (count_of_values vs)

pub too_many : (name : List ℕ) (vs : List Value) → 2 < length vs → IsNoNode (array (item (string name) (items_view vs)))
too_many name vs h n fits e =
    let f = is_form n in
    let same : array (item (string f.name) (items_of f.arguments)) ≡ array (item (string name) (items_view vs)) = sym f.same ∙ e in
    let items : items_of f.arguments ≡ items_view vs = cc in
    let counts : length f.arguments ≡ length vs = sym (count_of_items f.arguments) ∙ (ap count_of items ∙ count_of_values vs) in
    absurd (omega (arith, f.few))

-- what a form takes
pub data Kind : Type 0 where
  nothing : Kind
  text : Kind
  count : Kind
  texts : Kind
  range : Kind
  counts : Kind
  slice : Kind
  unknown : Kind

-- without arguments
abbrev pub stands_alone : List ℕ → Kind
stands_alone form = cond (bytes_eq form (codes "pos_pred")) nothing (cond (bytes_eq form (codes "neg_pred")) nothing
    (cond (bytes_eq form (codes "seq")) nothing (cond (bytes_eq form (codes "choice")) nothing
    (cond (bytes_eq form (codes "opt")) nothing (cond (bytes_eq form (codes "rep")) nothing
    (cond (bytes_eq form (codes "rep_once")) nothing (cond (bytes_eq form (codes "push")) nothing
    (cond (bytes_eq form (codes "restore_on_err")) nothing unknown))))))))

-- with one
abbrev pub takes_one : List ℕ → Kind
takes_one form = cond (bytes_eq form (codes "str")) text (cond (bytes_eq form (codes "insens")) text
    (cond (bytes_eq form (codes "ident")) text (cond (bytes_eq form (codes "push_literal")) text
    (cond (bytes_eq form (codes "node_tag")) text (cond (bytes_eq form (codes "rep_exact")) count
    (cond (bytes_eq form (codes "rep_min")) count (cond (bytes_eq form (codes "rep_max")) count
    (cond (bytes_eq form (codes "skip")) texts unknown))))))))

-- with two
abbrev pub takes_two : List ℕ → Kind
takes_two form = cond (bytes_eq form (codes "range")) range (cond (bytes_eq form (codes "rep_min_max")) counts
    (cond (bytes_eq form (codes "peek_slice")) slice unknown))

abbrev IsAlone : Kind → Type 0
IsAlone nothing = Unit {0}
IsAlone _ = ⊥

abbrev IsOne : Kind → Data → Type 0
IsOne text d = (s : List ℕ) × (string s ≡ d)
IsOne count d = (n : ℕ) × FitsUnsigned32 n × (count_data n ≡ d)
IsOne texts d = (ss : List (String Global)) × (texts_data ss ≡ d)
IsOne _ d = ⊥

abbrev AreTwo : Kind → Data → Data → Type 0
AreTwo range c d = (s : List ℕ) × (t : List ℕ) × (string s ≡ c) × (string t ≡ d)
AreTwo counts c d = (m : ℕ) × (n : ℕ) × FitsUnsigned32 m × FitsUnsigned32 n × (count_data m ≡ c) × (count_data n ≡ d)
AreTwo slice c d = (i : ℤ) × (j : Option ℤ) × FitsSigned32 i × EndFits j × (place_data i ≡ c) × (end_data j ≡ d)
AreTwo _ c d = ⊥

alone_by : (name f : List ℕ) → form name ≡ form f → IsAlone (stands_alone name) → IsAlone (stands_alone f)
alone_by name f e h = let same : name ≡ f = cc in subst (λ n. IsAlone (stands_alone n)) same h

one_by : (name f : List ℕ) (x d : Data) → form_with name x ≡ form_with f d → IsOne (takes_one name) x → IsOne (takes_one f) d
one_by name f x d e h =
    let same : name ≡ f = cc in
    let argument : x ≡ d = cc in
    subst (λ n. IsOne (takes_one n) d) same (subst (λ y. IsOne (takes_one name) y) argument h)

two_by : (name f : List ℕ) (x y c d : Data) → form_with_two name x y ≡ form_with_two f c d → AreTwo (takes_two name) x y → AreTwo (takes_two f) c d
two_by name f x y c d e h =
    let same : name ≡ f = cc in
    let first : x ≡ c = cc in
    let second : y ≡ d = cc in
    subst (λ n. AreTwo (takes_two n) c d) same (subst (λ z. AreTwo (takes_two name) c z) second (subst (λ z. AreTwo (takes_two name) z y) first h))

is_alone : (n : JsonNode) (f : List ℕ) → node_data n ≡ form f → IsAlone (stands_alone f)
is_alone node.PosPred f e = alone_by (codes "pos_pred") f e tt
is_alone node.NegPred f e = alone_by (codes "neg_pred") f e tt
is_alone node.Seq f e = alone_by (codes "seq") f e tt
is_alone node.Choice f e = alone_by (codes "choice") f e tt
is_alone node.Opt f e = alone_by (codes "opt") f e tt
is_alone node.Rep f e = alone_by (codes "rep") f e tt
is_alone node.RepOnce f e = alone_by (codes "rep_once") f e tt
is_alone node.Push f e = alone_by (codes "push") f e tt
is_alone node.RestoreOnErr f e = alone_by (codes "restore_on_err") f e tt
is_alone (node.Str s) f e = cc
is_alone (node.Insens s) f e = cc
is_alone (node.Range s t) f e = cc
is_alone (node.Ident s) f e = cc
is_alone (node.PeekSlice i j) f e = cc
is_alone (node.RepExact n) f e = cc
is_alone (node.RepMin n) f e = cc
is_alone (node.RepMax n) f e = cc
is_alone (node.RepMinMax m n) f e = cc
is_alone (node.Skip ss) f e = cc
is_alone (node.PushLiteral s) f e = cc
is_alone (node.NodeTag s) f e = cc

is_one : (n : JsonNode) → HasFittingNumbers n → (f : List ℕ) (d : Data) → node_data n ≡ form_with f d → IsOne (takes_one f) d
is_one (node.Str s) fits f d e = one_by (codes "str") f (string s.now) d e (s.now, refl)
is_one (node.Insens s) fits f d e = one_by (codes "insens") f (string s.now) d e (s.now, refl)
is_one (node.Ident s) fits f d e = one_by (codes "ident") f (string s.now) d e (s.now, refl)
is_one (node.PushLiteral s) fits f d e = one_by (codes "push_literal") f (string s.now) d e (s.now, refl)
is_one (node.NodeTag s) fits f d e = one_by (codes "node_tag") f (string s.now) d e (s.now, refl)
is_one (node.RepExact n) fits f d e = one_by (codes "rep_exact") f (count_data n) d e (n, fits, refl)
is_one (node.RepMin n) fits f d e = one_by (codes "rep_min") f (count_data n) d e (n, fits, refl)
is_one (node.RepMax n) fits f d e = one_by (codes "rep_max") f (count_data n) d e (n, fits, refl)
is_one (node.Skip ss) fits f d e = one_by (codes "skip") f (texts_data ss.items) d e (ss.items, refl)
is_one (node.Range s t) fits f d e = cc
is_one (node.PeekSlice i j) fits f d e = cc
is_one (node.RepMinMax m n) fits f d e = cc
is_one node.PosPred fits f d e = cc
is_one node.NegPred fits f d e = cc
is_one node.Seq fits f d e = cc
is_one node.Choice fits f d e = cc
is_one node.Opt fits f d e = cc
is_one node.Rep fits f d e = cc
is_one node.RepOnce fits f d e = cc
is_one node.Push fits f d e = cc
is_one node.RestoreOnErr fits f d e = cc

are_two : (n : JsonNode) → HasFittingNumbers n → (f : List ℕ) (c d : Data) → node_data n ≡ form_with_two f c d → AreTwo (takes_two f) c d
are_two (node.Range s t) fits f c d e = two_by (codes "range") f (string s.now) (string t.now) c d e (s.now, t.now, refl, refl)
are_two (node.RepMinMax m n) fits f c d e = two_by (codes "rep_min_max") f (count_data m) (count_data n) c d e (m, n, fits.0, fits.1, refl, refl)
are_two (node.PeekSlice i j) fits f c d e = two_by (codes "peek_slice") f (place_data i) (end_data j) c d e (i, j, fits.0, fits.1, refl, refl)
are_two (node.Str s) fits f c d e = cc
are_two (node.Insens s) fits f c d e = cc
are_two (node.Ident s) fits f c d e = cc
are_two (node.PushLiteral s) fits f c d e = cc
are_two (node.NodeTag s) fits f c d e = cc
are_two (node.RepExact n) fits f c d e = cc
are_two (node.RepMin n) fits f c d e = cc
are_two (node.RepMax n) fits f c d e = cc
are_two (node.Skip ss) fits f c d e = cc
are_two node.PosPred fits f c d e = cc
are_two node.NegPred fits f c d e = cc
are_two node.Seq fits f c d e = cc
are_two node.Choice fits f c d e = cc
are_two node.Opt fits f c d e = cc
are_two node.Rep fits f c d e = cc
are_two node.RepOnce fits f c d e = cc
are_two node.Push fits f c d e = cc
are_two node.RestoreOnErr fits f c d e = cc

decided : (t : Bool) (P : Type 0) → Decides t P → (P → ⊥) → t ≡ false
decided true P d h = absurd (h (d.0 refl))
decided false P d h = refl

unlike : (a b : List ℕ) → a ≢ b → bytes_eq a b ≡ false
unlike a b h = decided (bytes_eq a b) (a ≡ b) (bytes_eq-Decides a b) h

-- forms of none of these names
pub none_alone : (f : List ℕ) → f ≢ codes "pos_pred" → f ≢ codes "neg_pred" → f ≢ codes "seq" → f ≢ codes "choice" → f ≢ codes "opt" → f ≢ codes "rep" → f ≢ codes "rep_once" → f ≢ codes "push" → f ≢ codes "restore_on_err" → stands_alone f ≡ unknown
none_alone f h0 h1 h2 h3 h4 h5 h6 h7 h8 = rw (unlike f (codes "pos_pred") h0, unlike f (codes "neg_pred") h1, unlike f (codes "seq") h2, unlike f (codes "choice") h3, unlike f (codes "opt") h4, unlike f (codes "rep") h5, unlike f (codes "rep_once") h6, unlike f (codes "push") h7, unlike f (codes "restore_on_err") h8) refl

pub none_of_one : (f : List ℕ) → f ≢ codes "str" → f ≢ codes "insens" → f ≢ codes "ident" → f ≢ codes "push_literal" → f ≢ codes "node_tag" → f ≢ codes "rep_exact" → f ≢ codes "rep_min" → f ≢ codes "rep_max" → f ≢ codes "skip" → takes_one f ≡ unknown
none_of_one f h0 h1 h2 h3 h4 h5 h6 h7 h8 = rw (unlike f (codes "str") h0, unlike f (codes "insens") h1, unlike f (codes "ident") h2, unlike f (codes "push_literal") h3, unlike f (codes "node_tag") h4, unlike f (codes "rep_exact") h5, unlike f (codes "rep_min") h6, unlike f (codes "rep_max") h7, unlike f (codes "skip") h8) refl

pub none_of_two : (f : List ℕ) → f ≢ codes "range" → f ≢ codes "rep_min_max" → f ≢ codes "peek_slice" → takes_two f ≡ unknown
none_of_two f h0 h1 h2 = rw (unlike f (codes "range") h0, unlike f (codes "rep_min_max") h1, unlike f (codes "peek_slice") h2) refl

-- a form that does not stand alone
pub not_alone : (f : List ℕ) → stands_alone f ≡ unknown → IsNoNode (form f)
not_alone f h n fits e = subst IsAlone h (is_alone n f e)

-- a form that takes no argument, or another one
not_one : (f : List ℕ) (k : Kind) (d : Data) → takes_one f ≡ k → (IsOne k d → ⊥) → IsNoNode (form_with f d)
not_one f k d h none n fits e = none (subst (λ x. IsOne x d) h (is_one n fits f d e))

pub unknown_of_one : (f : List ℕ) (d : Data) → takes_one f ≡ unknown → IsNoNode (form_with f d)
unknown_of_one f d h = not_one f unknown d h (λ x. x)

no_string : (d : Data) (s : List ℕ) → as_str d ≡ None → string s ≡ d → ⊥
no_string d s h e = let some : Some s ≡ None = ap as_str e ∙ h in cc

pub no_text : (f : List ℕ) (d : Data) → takes_one f ≡ text → as_str d ≡ None → IsNoNode (form_with f d)
no_text f d h none = not_one f text d h (λ x. no_string d x.0 none x.1)

pub no_count : (f : List ℕ) (d : Data) → takes_one f ≡ count → ((n : ℕ) → FitsUnsigned32 n → count_data n ≢ d) → IsNoNode (form_with f d)
no_count f d h none = not_one f count d h (λ x. none x.0 x.1 x.2)

pub no_texts : (f : List ℕ) (d : Data) → takes_one f ≡ texts → ((ss : List (String Global)) → texts_data ss ≢ d) → IsNoNode (form_with f d)
no_texts f d h none = not_one f texts d h (λ x. none x.0 x.1)

-- the same of two arguments
not_two : (f : List ℕ) (k : Kind) (c d : Data) → takes_two f ≡ k → (AreTwo k c d → ⊥) → IsNoNode (form_with_two f c d)
not_two f k c d h none n fits e = none (subst (λ x. AreTwo x c d) h (are_two n fits f c d e))

pub unknown_of_two : (f : List ℕ) (c d : Data) → takes_two f ≡ unknown → IsNoNode (form_with_two f c d)
unknown_of_two f c d h = not_two f unknown c d h (λ x. x)

pub no_low : (f : List ℕ) (c d : Data) → takes_two f ≡ range → as_str c ≡ None → IsNoNode (form_with_two f c d)
no_low f c d h none = not_two f range c d h (λ x. no_string c x.0 none x.2)

pub no_high : (f : List ℕ) (c d : Data) → takes_two f ≡ range → as_str d ≡ None → IsNoNode (form_with_two f c d)
no_high f c d h none = not_two f range c d h (λ x. no_string d x.1 none x.3)

pub no_least : (f : List ℕ) (c d : Data) → takes_two f ≡ counts → ((n : ℕ) → FitsUnsigned32 n → count_data n ≢ c) → IsNoNode (form_with_two f c d)
no_least f c d h none = not_two f counts c d h (λ x. none x.0 x.2 x.4)

pub no_greatest : (f : List ℕ) (c d : Data) → takes_two f ≡ counts → ((n : ℕ) → FitsUnsigned32 n → count_data n ≢ d) → IsNoNode (form_with_two f c d)
no_greatest f c d h none = not_two f counts c d h (λ x. none x.1 x.3 x.5)

pub no_start : (f : List ℕ) (c d : Data) → takes_two f ≡ slice → ((i : ℤ) → FitsSigned32 i → place_data i ≢ c) → IsNoNode (form_with_two f c d)
no_start f c d h none = not_two f slice c d h (λ x. none x.0 x.2 x.4)

pub no_end : (f : List ℕ) (c d : Data) → takes_two f ≡ slice → ((j : Option ℤ) → EndFits j → end_data j ≢ d) → IsNoNode (form_with_two f c d)
no_end f c d h none = not_two f slice c d h (λ x. none x.1 x.3 x.5)
