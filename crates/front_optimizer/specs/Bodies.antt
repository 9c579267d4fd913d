-- The bodies that `skip` looks up, and the strings that it finds.
use Rattle.std.specs.Prelude.{◌≡◌, ℕ, ◌<◌, List, [], ◌∷◌, ◌++◌, Option, Some, None, Bool, true, false, MatchOption, map, string_bytes, ⊤, ◌⊎◌}
use Rattle.std.specs.Option.{option_map}
use Rattle.std.specs.Str.{chars, bytes_eq}
use Rattle.std.specs.HashMap.{HashMap, get_by, get_by_text}
use Rattle.std.specs.declared.alloc.Global.{Global}
use Rattle.std.specs.declared.string.String.{String}
use Rattle.std.specs.declared.vec.Vec.{Vec}
use Rattle.std.specs.Vec.{vec_len}
use denote.Ref.{Bor}
use Rattle.base_language.specs.Language.Text.{Text}
use Rattle.base_language.specs.Language.Expression.{Expression, Str, Ident, NegPred, Seq, Choice, Rep, Skip, Atomic, Rule, Grammar, rule_of}
use Rattle.base_language.specs.Rewritings.Rewriting.{IsLeaf, SkipsUntil, Strings}
use Rattle.base_ast.specs.Ast.{expression_of, text_of}
use Rattle.base_ast.specs.declared.ast.Expr.{Expr}
use Rattle.front_optimizer.specs.Traversals.{AllStay}
use Rattle.front_optimizer.specs.declared.strings.StringNames.{StringNames}
use Rattle.front_optimizer.specs.declared.strings.NameSearch.{NameSearch}
use Rattle.front_optimizer.specs.declared.strings.NameSearch.TheVariants as found

-- the map holds the body of the rule that a name means, for every name
abbrev pub HoldsBodies : {S : Type 0} → HashMap (String Global) Expr S → Grammar → Type 0
HoldsBodies m g = (n : String Global)
    → option_map expression_of (get_by_text m (string_bytes n))
    ≡ option_map (λ (r : Rule). r.body) (rule_of g (text_of n))

-- the step once at a node, where it applies
pub data SkippedHere (g : Grammar) : Expression → Expression → Type 0 where
  skipped : {a b : Expression} → SkipsUntil g Atomic a b → SkippedHere g a b
  stays : {a : Expression} → ((q : Expression) → SkipsUntil g Atomic a q → ⊥) → SkippedHere g a a

-- `(!c ~ n)*`, the only expression that a forward search may replace
abbrev pub IsTurn : Expression → Type 0
IsTurn (Rep (Seq (NegPred c) (Ident n))) = ⊤
IsTurn _ = ⊥

abbrev pub HasNoTurn : Expression → Type 0
HasNoTurn e = AllStay (λ a b. IsTurn a → ⊥) e

-- no Atomic rule has such an expression
abbrev pub HaveNoTurns : Grammar → Type 0
HaveNoTurns [] = ⊤
HaveNoTurns (r ∷ g) = (r.type_of ≡ Atomic → HasNoTurn r.body) × HaveNoTurns g

-- the map holds the bodies of the rules, or `skip` needs none of them
abbrev pub SufficeFor : {S : Type 0} → HashMap (String Global) Expr S → Grammar → Grammar → Type 0
SufficeFor m g rules = HoldsBodies m g ⊎ (HoldsBodies m [] × HaveNoTurns rules)

-- a name whose strings an expression needs
pub data Needs : Expression → Text → Type 0 where
  the_name : {n : Text} → Needs (Ident n) n
  in_first : {x e : Expression} {n : Text} → Needs x n → Needs (Choice x e) n
  in_others : {x e : Expression} {n : Text} → Needs e n → Needs (Choice x e) n

module _ (g : Grammar) where
  -- the strings that an expression denotes, with fewer than so many names nested in each other
  pub data StringsWithin : ℕ → Expression → List Text → Type 0 where
    one : {k : ℕ} {t : Text} → StringsWithin k (Str t) (t ∷ [])
    named : {j k : ℕ} {n : Text} {r : Rule} {ts : List Text} → j < k → rule_of g n ≡ Some r
        → StringsWithin j r.body ts → StringsWithin k (Ident n) ts
    more : {k : ℕ} {x e : Expression} {ts us : List Text} → IsLeaf x → StringsWithin k x ts
        → StringsWithin k e us → StringsWithin k (Choice x e) (ts ++ us)

  pub record HasStrings (k : ℕ) (e : Expression) : Type 0 where
    pub strings : List Text
    pub within : StringsWithin k e strings

  abbrev pub HasNoStrings : Expression → Type 0
  HasNoStrings e = (ts : List Text) → Strings g e ts → ⊥

  -- the expression after a leaf, if there is one, has strings
  abbrev pub RestHas : ℕ → Option (Bor Expr) → Type 0
  RestHas k None = ⊤
  RestHas k (Some e) = HasStrings k (expression_of e.now)

  abbrev pub RestHasNone : Option (Bor Expr) → Type 0
  RestHasNone None = ⊥
  RestHasNone (Some e) = HasNoStrings (expression_of e.now)

abbrev pub RestNeeds : Option (Bor Expr) → Text → Type 0
RestNeeds None n = ⊥
RestNeeds (Some e) n = Needs (expression_of e.now) n

-- the state of a name: true where its strings are known, and false where the search for them goes on
abbrev pub met_at : {S : Type 0} → HashMap (Bor (List ℕ)) Bool S → List ℕ → Option Bool
met_at m n = get_by (λ k. bytes_eq n k.now) m

-- every name that is known has strings
abbrev pub KnownHave : {S : Type 0} → HashMap (Bor (List ℕ)) Bool S → Grammar → ℕ → Type 0
KnownHave m g k = (n : List ℕ) → met_at m n ≡ Some true → HasStrings g k (Ident (chars n))

-- a name is not visited yet; with its strings and those after it, the expression has strings
pub record FindsName {S : Type 0} (m : HashMap (Bor (List ℕ)) Bool S) (e : Expression) (n : List ℕ)
    (behind : Option (Bor Expr)) : Type 0 where
  pub is_new : met_at m n ≡ None
  pub spelled : (s : String Global) × (string_bytes s ≡ n)
  pub needed : Needs e (chars n)
  pub gives : (g : Grammar) (k : ℕ) → KnownHave m g k → HasStrings g k (Ident (chars n))
      → RestHas g k behind → HasStrings g k e
  pub behind_needed : (j : Text) → RestNeeds behind j → Needs e j
  pub behind_fails : (g : Grammar) → RestHasNone g behind → HasNoStrings g e

-- an expression has no strings, unless names that are searched have some; or it has strings; or a name is
-- to be searched
abbrev pub FindsNext : {S : Type 0} → HashMap (Bor (List ℕ)) Bool S → Expression → NameSearch → Type 0
FindsNext m e found.Nothing =
    (g : Grammar) → ((n : List ℕ) → met_at m n ≡ Some false → Needs e (chars n)
    → HasNoStrings g (Ident (chars n))) → HasNoStrings g e
FindsNext m e found.Strings = (g : Grammar) (k : ℕ) → KnownHave m g k → HasStrings g k e
FindsNext m e (found.Name n behind) = FindsName m e n.now behind

-- a leaf and the expression after it
abbrev pub Splits : Expression → Expression → Option (Bor Expr) → Type 0
Splits e first None = (e ≡ first) × ((a b : Expression) → e ≡ Choice a b → ⊥)
Splits e first (Some others) = e ≡ Choice first (expression_of others.now)

-- a name is visited
abbrev pub IsMet : StringNames → List ℕ → Type 0
IsMet names n = met_at names.met n ≡ None → ⊥

-- no name that was visited is forgotten, and one is visited that has a body
pub record HaveMet {S : Type 0} (m : HashMap (String Global) Expr S) (before after : StringNames) (n : List ℕ)
    : Type 0 where
  pub kept : (q : List ℕ) → IsMet before q → IsMet after q
  pub here : (get_by_text m n ≡ None → ⊥) → IsMet after n

-- the known names have strings, and the other visited names have none
pub record AreRight (names : StringNames) (g : Grammar) : Type 0 where
  pub have : KnownHave names.met g (vec_len names.known)
  pub have_none : (n : List ℕ) → met_at names.met n ≡ Some false → HasNoStrings g (Ident (chars n))

-- the known names have strings, and all others have none
pub record AreAllRight (names : StringNames) (g : Grammar) : Type 0 where
  pub right : AreRight names g
  pub unmet : (s : String Global) → met_at names.met (string_bytes s) ≡ None
      → HasNoStrings g (Ident (text_of s))

-- the map holds the bodies of a grammar, and the names with strings are right for it
abbrev pub Serve : {S : Type 0} → HashMap (String Global) Expr S → StringNames → Grammar → Type 0
Serve m names g = HoldsBodies m g × AreAllRight names g

-- the names with strings are right for every grammar whose bodies the map holds
abbrev pub AreRightForAll : {S : Type 0} → HashMap (String Global) Expr S → StringNames → Type 0
AreRightForAll m names = (g : Grammar) → HoldsBodies m g → AreAllRight names g

-- none, or all of them in order
abbrev pub StringsOrNone : Grammar → Expression → Option (Vec (String Global) Global) → Type 0
StringsOrNone g e found = MatchOption found (HasNoStrings g e) (λ ts. Strings g e (map text_of ts.items))

abbrev pub TextsUntil : Grammar → Expression → Option (Vec (String Global) Global) → Type 0
TextsUntil g e found =
    MatchOption found ((q : Expression) → SkipsUntil g Atomic (Rep e) q
    → ⊥) (λ ts. SkipsUntil g Atomic (Rep e) (Skip (map text_of ts.items)))
