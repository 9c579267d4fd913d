-- Names and the places of rules.
use Rattle.std.proofs.Common.{◌≡◌, ℕ, ◌+◌, ◌<◌, List, [], ◌∷◌, ◌++◌, Option, Some, None, Bool, true, false, if◌then◌else◌, bytes_eq, length, map, refl, sym, ◌∙◌, ap, arith, get_or, take, slice_get}
use Rattle.std.proofs.lemmas.List.{take_more, length-take-le, map-append, length-map}
use Rattle.base_language.specs.Language.Text.{Text}
use Rattle.base_language.specs.Language.Expression.{Rule, Grammar, rule_of, or_else, last_place}
use Rattle.base_language.proofs.LastPlaces.{last_more, next}
use Rattle.base_ast.specs.Ast.{text_of}
use Rattle.front_restorer.specs.Bodies.{NamedBody, said_by, rule_with, grammar_with}
use Rattle.front_restorer.specs.declared.bodies.Body.{Body}

abbrev rules : List Body → Grammar
rules bs = grammar_with (map said_by bs)

rules-append : (bs ds : List Body) → rules (bs ++ ds) ≡ rules bs ++ rules ds
rules-append bs ds = ap grammar_with (map-append said_by bs ds) ∙ map-append rule_with (map said_by bs) (map said_by ds)

-- one name more was looked at
pub name_step : (bs : List Body) (i : ℕ) (n : Text) (d : Body) (r : Bool) (found after : Option ℕ) → i < length bs → r ≡ bytes_eq (text_of (get_or bs i d).name.now) n → found ≡ last_place (rules (take i bs)) n
    → after ≡ (if r then Some i else found) → after ≡ last_place (rules (take (i + 1) bs)) n
name_step bs i n d r found after h q f g =
    let l : length (rules (take i bs)) ≡ i = length-map (map said_by (take i bs)) rule_with ∙ length-map (take i bs) said_by ∙ length-take-le i bs (omega arith) in
    let b : Bool = bytes_eq (text_of (get_or bs i d).name.now) n in
    g ∙ (ap (λ x. if x then Some i else found) q ∙ (ap (λ z. if b then Some i else z) f
    ∙ (ap (λ m. if b then Some m else last_place (rules (take i bs)) n) (sym l)
    ∙ (sym (last_more (rules (take i bs)) (rule_with (said_by (get_or bs i d))) n)
    ∙ (ap (λ z. last_place z n) (sym (rules-append (take i bs) (get_or bs i d ∷ []))) ∙ ap (λ z. last_place (rules z) n) (sym (take_more bs i d h)))))))

-- a name means no rule, or the last of its name
pub data Named (bs : List NamedBody) (n : Text) : Option ℕ → Type 0 where
  absent : rule_of (grammar_with bs) n ≡ None → Named bs n None
  named : {i : ℕ} (b : NamedBody) → slice_get bs i ≡ Some b → rule_of (grammar_with bs) n ≡ Some (rule_with b) → Named bs n (Some i)

abbrev behind : NamedBody → Text → Option Rule → Option Rule
behind q n z = or_else z (if bytes_eq (rule_with q).name n then Some (rule_with q) else None)

pub resolved : (bs : List NamedBody) (n : Text) → Named bs n (last_place (grammar_with bs) n)
resolved [] n = absent refl
resolved (q ∷ bs) n = go (last_place (grammar_with bs) n) (resolved bs n) (bytes_eq (rule_with q).name n) refl
  where
    go : (o : Option ℕ) → Named bs n o → (b : Bool) → bytes_eq (rule_with q).name n ≡ b → Named (q ∷ bs) n (next b o)
    go o (named b at e) t h = named b at (ap (behind q n) e)
    go o (absent e) true h = named q refl (ap (behind q n) e ∙ ap (λ b. or_else None (if b then Some (rule_with q) else None)) h)
    go o (absent e) false h = absent (ap (behind q n) e ∙ ap (λ b. or_else None (if b then Some (rule_with q) else None)) h)
