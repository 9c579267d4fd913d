-- Which names stand for strings, once all that have a body were looked through.
use Rattle.std.proofs.Common.{◌≡◌, refl, sym, subst, ℕ, List, [], Bool, Option, Some, None, string_bytes, Global}
use Rattle.std.specs.Option.{is_some}
use Rattle.std.specs.List.{All, list_any}
use Rattle.std.specs.Str.{chars, bytes_eq}
use Rattle.std.specs.HashMap.{HashMap, get_by_text}
use Rattle.std.specs.Map.{lookup}
use Rattle.std.specs.declared.string.String.{String}
use Rattle.std.proofs.lemmas.List.Folds.{Any-from_list_any}
use Rattle.std.proofs.lemmas.Slice.Eq.{bytes_eq-Decides}
use denote.Ref.{Bor}
use Rattle.base_language.specs.Language.Expression.{Expression, Ident, Grammar}
use Rattle.base_ast.specs.declared.ast.Expr.{Expr}
use Rattle.front_optimizer.specs.declared.strings.StringNames.{StringNames}
use Rattle.front_optimizer.specs.declared.strings.NameSearch.{NameSearch}
use Rattle.front_optimizer.specs.declared.strings.NameSearch.TheVariants as found
use Rattle.front_optimizer.specs.Bodies.{HoldsBodies, HasNoStrings, FindsNext, IsMet, AreRight, AreAllRight, met_at}
use Rattle.front_optimizer.proofs.NamedStrings.{missing, needed_strings, no_rule_none}

abbrev pub KeyIsMet : StringNames → String Global → Type 0
KeyIsMet names k = IsMet names (string_bytes k)

module _ {S : Type 0} (m : HashMap (String Global) Expr S) (names : StringNames) (ks : List (String Global)) (all : All (KeyIsMet names) ks) where
  no_body_at : (q : String Global) → (o : Option Expr) → is_some o ≡ list_any (λ k. bytes_eq (string_bytes q) (string_bytes k)) ks → met_at names.met (string_bytes q) ≡ None → o ≡ None
  no_body_at q None h i = refl
  no_body_at q (Some x) h i =
      let a = Any-from_list_any (λ k. bytes_eq (string_bytes q) (string_bytes k)) ks (sym h) in
      let same : string_bytes q ≡ string_bytes a.1 = (bytes_eq-Decides (string_bytes q) (string_bytes a.1)).0 a.4 in
      let here : KeyIsMet names a.1 = subst (KeyIsMet names) a.3 (all a.0 a.1 a.2) in
      absurd (here (subst (λ b. met_at names.met b ≡ None) same i))

  pub all_told : ((q : String Global) → is_some (get_by_text m (string_bytes q)) ≡ list_any (λ k. bytes_eq (string_bytes q) (string_bytes k)) ks) → (g : Grammar) → HoldsBodies m g → AreRight names g → AreAllRight names g
  all_told has g held r = record {
    right = r;
    unmet = λ s h. no_rule_none g (missing m g held s (no_body_at s (get_by_text m (string_bytes s)) (has s) h));
  }

-- where a name is met that has no strings, or one that was not met, there are none
pub none_found : (names : StringNames) (e : Expression) (f : NameSearch) → FindsNext names.met e f → (f ≡ found.Strings → ⊥) → (g : Grammar) → AreAllRight names g → HasNoStrings g e
none_found names e found.Nothing f n g t = f g (λ q h w. t.right.have_none q h)
none_found names e found.Strings f n g t = absurd (n refl)
none_found names e (found.Name b behind) f n g t = λ ts s.
    let d = needed_strings g s f.needed in
    let none : HasNoStrings g (Ident (chars b.now)) = subst (λ x. HasNoStrings g (Ident (chars x))) f.spelled.1 (t.unmet f.spelled.0 (subst (λ x. met_at names.met x ≡ None) (sym f.spelled.1) f.is_new)) in
    none d.0 d.1

-- where none is met, nothing is wrong
pub nothing_met : (names : StringNames) → names.met.entries ≡ [] → (g : Grammar) → AreRight names g
nothing_met names h g = record { have = λ q i. none_met q i; have_none = λ q i. none_met q i }
  where
    none_met : {P : Type 0} {b : Bool} (q : List ℕ) → met_at names.met q ≡ Some b → P
    none_met {b = b} q i = let j : lookup {K = Bor (List ℕ)} {X = Bool} (λ (k : Bor (List ℕ)). bytes_eq q k.now) [] ≡ Some b = subst (λ es. lookup (λ (k : Bor (List ℕ)). bytes_eq q k.now) es ≡ Some b) h i in cc
