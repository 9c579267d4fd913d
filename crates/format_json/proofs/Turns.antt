-- What is still to be written, with one expression more, and how much it is.
use Rattle.std.proofs.Common.{◌≡◌, ℕ, ◌+◌, List, [], ◌∷◌, ◌++◌, Bor, map, refl, sym, ap, ◌∙◌, append-nil, append_assoc, arith}
use Rattle.std.proofs.lemmas.List.{map-append}
use Rattle.serde_json.specs.View.{view}
use Rattle.serde_json.specs.declared.value.Value.{Value}
use Rattle.serde_json.specs.Data.{Data}
use Rattle.format_json.specs.Nodes.{heft_now, in_turn, now_in_turn}

pub in_turn_last : {A : Type 0} (nodes : A → List Data) (es : List A) (e : A) → in_turn nodes (es ++ (e ∷ [])) ≡ nodes e ++ in_turn nodes es
in_turn_last nodes [] e = sym (append-nil (nodes e))
in_turn_last nodes (x ∷ es) e = ap (λ t. t ++ nodes x) (in_turn_last nodes es e) ∙ append_assoc (nodes e) (in_turn nodes es) (nodes x)

-- of two more the last one is written first
pub in_turn_last_two : {A : Type 0} (nodes : A → List Data) (es : List A) (e f : A) → in_turn nodes ((es ++ (f ∷ [])) ++ (e ∷ [])) ≡ (nodes e ++ nodes f) ++ in_turn nodes es
in_turn_last_two nodes es e f = in_turn_last nodes (es ++ (f ∷ [])) e ∙ (ap (λ t. nodes e ++ t) (in_turn_last nodes es f) ∙ sym (append_assoc (nodes e) (nodes f) (in_turn nodes es)))

pub now_in_turn_last : {E : Type 0} (nodes : E → List Data) (es : List (Bor E)) (e : Bor E) → now_in_turn nodes (es ++ (e ∷ [])) ≡ nodes e.now ++ now_in_turn nodes es
now_in_turn_last nodes [] e = sym (append-nil (nodes e.now))
now_in_turn_last nodes (x ∷ es) e = ap (λ t. t ++ nodes x.now) (now_in_turn_last nodes es e) ∙ append_assoc (nodes e.now) (now_in_turn nodes es) (nodes x.now)

pub now_in_turn_last_two : {E : Type 0} (nodes : E → List Data) (es : List (Bor E)) (e f : Bor E) → now_in_turn nodes ((es ++ (f ∷ [])) ++ (e ∷ [])) ≡ (nodes e.now ++ nodes f.now) ++ now_in_turn nodes es
now_in_turn_last_two nodes es e f = now_in_turn_last nodes (es ++ (f ∷ [])) e ∙ (ap (λ t. nodes e.now ++ t) (now_in_turn_last nodes es f) ∙ sym (append_assoc (nodes e.now) (nodes f.now) (now_in_turn nodes es)))

pub heft_now_last : {E : Type 0} (heft : E → ℕ) (es : List (Bor E)) (e : Bor E) → heft_now heft (es ++ (e ∷ [])) ≡ heft e.now + heft_now heft es
heft_now_last heft [] e = refl
heft_now_last heft (x ∷ es) e = let rest = heft_now_last heft es e in omega (arith, rest)

-- what a list of them goes by to which some are added
pub ruleset put_last = (now_in_turn_last, now_in_turn_last_two, heft_now_last)

-- one expression that waits is written: its node, with its operands in its place
pub written_on : (values : List Value) (v : Value) (all next ops rest waiting new : List Data) → map view values ++ waiting ≡ all → waiting ≡ next ++ rest → (view v ∷ ops) ≡ next → new ≡ ops ++ rest → map view (values ++ (v ∷ [])) ++ new ≡ all
written_on values v all next ops rest waiting new h i j k =
    ap (λ t. t ++ new) (map-append view values (v ∷ [])) ∙ (append_assoc (map view values) (view v ∷ []) new ∙ (ap (λ t. map view values ++ (view v ∷ t)) k ∙ (ap (λ t. map view values ++ (t ++ rest)) j ∙ (ap (λ t. map view values ++ t) (sym i) ∙ h))))

-- the same if the operands are what is left of it
pub written_next : (old written all next ops rest waiting new : List Data) → old ++ waiting ≡ all → waiting ≡ next ++ rest → written ++ ops ≡ old ++ next → new ≡ ops ++ rest → written ++ new ≡ all
written_next old written all next ops rest waiting new h i k j =
    ap (λ t. written ++ t) j ∙ (sym (append_assoc written ops rest) ∙ (ap (λ t. t ++ rest) k ∙ (append_assoc old next rest ∙ (ap (λ t. old ++ t) (sym i) ∙ h))))

-- a node before its operands, behind what is written
pub written_top : (values : List Value) (v : Value) (d : Data) (ops all : List Data) → view v ≡ d → d ∷ ops ≡ all → map view (values ++ (v ∷ [])) ++ ops ≡ map view values ++ all
written_top values v d ops all h k =
    ap (λ t. t ++ ops) (map-append view values (v ∷ [])) ∙ (append_assoc (map view values) (view v ∷ []) ops ∙ ap (λ t. map view values ++ t) (ap (λ x. x ∷ ops) h ∙ k))
