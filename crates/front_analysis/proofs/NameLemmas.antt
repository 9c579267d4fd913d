-- The last equal name; empty texts.
use Rattle.std.proofs.Common.{◌≡◌, ℕ, suc, ◌+◌, ◌<◌, List, [], ◌∷◌, ◌++◌, Option, Some, Bool, true, false, if◌then◌else◌, bytes_eq, length, refl, sym, ◌∙◌, ap, arith, ◌==◌, String, Global, string_len, string_bytes, get_or, take}
use Rattle.std.specs.Bool.{Decides}
use Rattle.std.specs.Cmp.{unsigned_Decides}
use Rattle.std.specs.Str.{chars, IsUtf8, IsAscii}
use Rattle.std.proofs.lemmas.Bool.Decides.{same_from_decides}
use Rattle.std.proofs.lemmas.Str.{encodes-chars, IsUtf8-string_bytes, chars-nil, chars-IsAscii, IsUtf8-from_ascii}
use Rattle.std.proofs.Math.Utf8.{encodes}
use Rattle.std.proofs.lemmas.List.{take_more, length-take-le}
use Rattle.base_ast.specs.Ast.{text_of}
use Rattle.base_language.specs.Language.Text.{Text}
use Rattle.base_language.specs.Language.Expression.{last_place}
use Rattle.base_language.proofs.LastPlaces.{last_more}
use Rattle.front_spanned.specs.declared.node.ParserRule.{ParserRule}
use Rattle.std.proofs.lemmas.List.{map-append, length-map}
use Rattle.front_spanned.specs.Nodes.{rule_view, rule_views}
use Rattle.front_spanned.specs.Erasure.{rule_without_spans, rules_without_spans}
use Rattle.std.specs.HashMap.{get_by_text}
use Rattle.front_analysis.specs.NameMaps.{KnowsRules}
use Rattle.front_analysis.specs.Names.{grammar_of, rule_said}
use Rattle.front_analysis.specs.declared.names.Names.{Names}

said_append : (rs qs : List ParserRule) → grammar_of (rs ++ qs) ≡ grammar_of rs ++ grammar_of qs
said_append rs qs = ap (λ z. rules_without_spans z) (map-append rule_view rs qs) ∙ map-append rule_without_spans (rule_views rs) (rule_views qs)

-- one name more was looked at
pub name_step : (rs : List ParserRule) (i : ℕ) (n : Text) (d : ParserRule) (r : Bool) (found after : Option ℕ) → i < length rs → r ≡ bytes_eq (text_of (get_or rs i d).name) n → found ≡ last_place (grammar_of (take i rs)) n
    → after ≡ (if r then Some i else found) → after ≡ last_place (grammar_of (take (i + 1) rs)) n
name_step rs i n d r found after h q f g =
    let l : length (grammar_of (take i rs)) ≡ i = length-map (rule_views (take i rs)) rule_without_spans ∙ length-map (take i rs) rule_view ∙ length-take-le i rs (omega arith) in
    let b : Bool = bytes_eq (text_of (get_or rs i d).name) n in
    g ∙ (ap (λ x. if x then Some i else found) q ∙ (ap (λ z. if b then Some i else z) f
    ∙ (ap (λ m. if b then Some m else last_place (grammar_of (take i rs)) n) (sym l)
    ∙ (sym (last_more (grammar_of (take i rs)) (rule_said (get_or rs i d)) n)
    ∙ (ap (λ z. last_place z n) (sym (said_append (take i rs) (get_or rs i d ∷ []))) ∙ ap (λ z. last_place (grammar_of z) n) (sym (take_more rs i d h)))))))

abbrev pub is_empty_text : Text → Bool
is_empty_text [] = true
is_empty_text (c ∷ t) = false

none_long : (bs : List ℕ) → Decides (length bs == 0) (bs ≡ [])
none_long [] = ((λ h. refl), (λ h. refl))
none_long (b ∷ bs) = ((λ h. absurd (zero_is_no (length bs) ((unsigned_Decides (length (b ∷ bs)) 0).0 h))), (λ h. cc))
  where
    zero_is_no : (n : ℕ) → suc n ≡ 0 → ⊥
    zero_is_no n h = omega arith

empty_decides : (t : List ℕ) → Decides (is_empty_text t) (t ≡ [])
empty_decides [] = ((λ h. refl), (λ h. refl))
empty_decides (c ∷ t) = ((λ h. cc), (λ h. cc))

empty_chars : (bs : List ℕ) → IsUtf8 bs → (length bs == 0) ≡ is_empty_text (chars bs)
empty_chars bs u =
    let d = empty_decides (chars bs) in
    let e : Decides (is_empty_text (chars bs)) (bs ≡ []) = ((λ h. sym (encodes-chars bs u) ∙ ap encodes (d.0 h)), (λ h. d.1 (ap chars h ∙ chars-nil))) in
    same_from_decides _ _ (none_long bs) e

pub empty_text : (s : String Global) → (string_len s == 0) ≡ is_empty_text (text_of s)
empty_text s = ap (λ n. n == 0) s.bytes.ok.0 ∙ empty_chars (string_bytes s) (IsUtf8-string_bytes s)

-- the place of the last rule of a name of ASCII characters
pub ascii_place : (rules : List ParserRule) (names : Names) (n : List ℕ) → KnowsRules rules names → IsAscii n → get_by_text names.places n ≡ last_place (grammar_of rules) n
ascii_place rules names n h a = h n (IsUtf8-from_ascii n a) ∙ ap (last_place (grammar_of rules)) (chars-IsAscii n a)
