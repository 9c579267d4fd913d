-- Lists of values that are no nodes, or no list of texts.
use Rattle.std.proofs.Common.{◌≡◌, ◌≢◌, ◌≤◌, ◌<◌, ℕ, Option, Some, None, List, [], ◌∷◌, String, Global, map, length, get_or, slice_get, string_bytes, sym, ap, ◌∙◌, subst, arith}
use Rattle.std.proofs.lemmas.Option.{slice_get-get_or, slice_get-map}
use Rattle.std.specs.Option.{option_map}
use Rattle.serde_json.specs.Data.{Data, Items, array, boolean, item, null, number, object, string}
use Rattle.serde_json.specs.Find.{as_array, as_str}
use Rattle.serde_json.specs.View.{items_of, items_view, view}
use Rattle.serde_json.specs.declared.value.Value.{Value}
use Rattle.format_json.specs.Format.{text_data, texts_data}
use Rattle.format_json.specs.Nodes.{IsNoNode}
use Rattle.format_json.proofs.Decoding.{arrays_one}
use Rattle.format_json.proofs.NoNodes.{no_name}

no_text_there : (o : Option (String Global)) (d : Data) → option_map text_data o ≡ Some d → as_str d ≡ None → ⊥
no_text_there None d e none = cc
no_text_there (Some s) d e none =
    let same : text_data s ≡ d = cc in
    let some : Some (string_bytes s) ≡ None = ap as_str same ∙ none in
    cc

-- a list with a value that is no text
pub no_texts_in : (d : Data) (vs : List Value) (i : ℕ) (v : Value) → Some (items_view vs) ≡ as_array d → i < length vs → v ≡ get_or vs i v → as_str (view v) ≡ None → (texts : List (String Global)) → texts_data texts ≢ d
no_texts_in d vs i v list within there none texts e =
    let items : Some (items_of (map text_data texts)) ≡ Some (items_of (map view vs)) = ap as_array e ∙ sym list in
    let inner : items_of (map text_data texts) ≡ items_of (map view vs) = cc in
    let lists : map text_data texts ≡ map view vs = arrays_one (map text_data texts) (map view vs) (ap (λ is. Some (array is)) inner) in
    let place : slice_get vs i ≡ Some v = slice_get-get_or vs i v within ∙ ap Some (sym there) in
    let value : slice_get (map view vs) i ≡ Some (view v) = slice_get-map view vs i ∙ ap (option_map view) place in
    no_text_there (slice_get texts i) (view v) (sym (slice_get-map text_data texts i) ∙ (ap (λ xs. slice_get xs i) lists ∙ value)) none

-- a value that is a list
pub listed : (d : Data) (items : Items) → Some items ≡ as_array d → d ≡ array items
listed null items e = cc
listed (boolean b) items e = cc
listed (number n) items e = cc
listed (string s) items e = cc
listed (object ms) items e = cc
listed (array ds) items e = let same : ds ≡ items = cc in ap array same

-- a list that does not begin with a text
pub unnamed_list : (d : Data) (vs : List Value) (v : Value) → Some (items_view vs) ≡ as_array d → 0 < length vs → v ≡ get_or vs 0 v → as_str (view v) ≡ None → IsNoNode d
unnamed_list d [] v list within there none = absurd (omega arith)
unnamed_list d (x ∷ vs) v list within there none =
    rw (listed d (items_view (x ∷ vs)) list)
    (no_name (view x) (items_view vs) (subst (λ y. as_str (view y) ≡ None) there none))

-- a value that is a text
named : (d : Data) (name : List ℕ) → Some name ≡ as_str d → string name ≡ d
named null name e = cc
named (boolean b) name e = cc
named (number n) name e = cc
named (array ds) name e = cc
named (object ms) name e = cc
named (string s) name e = let same : s ≡ name = cc in ap string (sym same)

-- a list that begins with a text
pub whole_node : (d : Data) (vs rest : List Value) (v : Value) (name : List ℕ) → Some (items_view vs) ≡ as_array d → vs ≡ v ∷ rest → Some name ≡ as_str (view v) → array (item (string name) (items_view rest)) ≡ d
whole_node d vs rest v name list split text =
    ap (λ x. array (item x (items_view rest))) (named (view v) name text) ∙ (ap (λ xs. array (items_view xs)) (sym split) ∙ sym (listed d (items_view vs) list))

-- lists of one and of two
pub one_of : {A : Type 0} (xs : List A) (x : A) → x ≡ get_or xs 0 x → 1 ≤ length xs → length xs < 2 → xs ≡ x ∷ []
one_of [] x first some few = absurd (omega arith)
one_of (y ∷ []) x first some few = ap (λ z. z ∷ []) (sym first)
one_of (y ∷ (z ∷ xs)) x first some few = absurd (omega arith)

pub two_of : {A : Type 0} (xs : List A) (x y : A) → x ≡ get_or xs 0 x → y ≡ get_or xs 1 y → 2 ≤ length xs → length xs < 3 → xs ≡ x ∷ (y ∷ [])
two_of [] x y first second some few = absurd (omega arith)
two_of (v ∷ []) x y first second some few = absurd (omega arith)
two_of (v ∷ (u ∷ [])) x y first second some few = ap (λ z. z ∷ (u ∷ [])) (sym first) ∙ ap (λ z. x ∷ (z ∷ [])) (sym second)
two_of (v ∷ (u ∷ (t ∷ xs))) x y first second some few = absurd (omega arith)
