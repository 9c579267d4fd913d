-- Starts that no rule has.
use Rattle.std.proofs.Common.{◌≡◌, ◌∙◌, ◌+◌, ◌<◌, ℕ, Bor, List, [], ◌∷◌, ◌++◌, ap, chars, filter, get_or, length, map, not, subst, sym, take}
use Rattle.std.proofs.lemmas.List.{map-append, take_more}
use Rattle.std.specs.List.{AllZip}
use Rattle.base_language.specs.Language.Builtins.{is_one_of}
use Rattle.base_language.specs.Language.Text.{Text}
use Rattle.front_spanned.specs.Nodes.{rule_view, rule_views}
use Rattle.front_spanned.specs.Spanned.{SpannedRule}
use Rattle.front_spanned.specs.declared.node.ParserRule.{ParserRule}
use Rattle.lint_findings.specs.Codes.{warning}
use Rattle.lint_findings.specs.Fragments.{fragment_of}
use Rattle.lint_findings.specs.Reports.{ReportsWarning}
use Rattle.lint_findings.specs.Starts.{is_unknown, place_of}
use Rattle.lint_findings.specs.declared.codes.Code.TheVariants as code
use Rattle.lint_findings.specs.declared.diagnostic.Diagnostic.{Diagnostic}
use Rattle.lint_findings.specs.declared.fragments.Fragment as code_fragment
use Rattle.lint_findings.proofs.Placing.{filter-map}
use Rattle.lint_findings.proofs.Zips.{zip_both}
use Rattle.lint_warnings.specs.Lists.{texts_of}

-- the name of one rule more
pub one_name : (rules : List ParserRule) (i : ℕ) (rule : ParserRule) (name : Bor (List ℕ)) (old new : List (Bor (List ℕ))) → i < length rules → rule ≡ get_or rules i rule → new ≡ old ++ name ∷ [] → chars name.now ≡ (rule_view rule).name
    → texts_of old ≡ map (λ r. r.name) (rule_views (take i rules)) → texts_of new ≡ map (λ r. r.name) (rule_views (take (i + 1) rules))
one_name rules i rule name old new h e n same o =
    let named : SpannedRule → Text = λ r. r.name in
    let more : map named (rule_views (take (i + 1) rules)) ≡ map named (rule_views (take i rules)) ++ (rule_view rule).name ∷ [] =
    ap (λ rs. map named (rule_views rs)) (take_more rules i rule h ∙ ap (λ r. take i rules ++ r ∷ []) (sym e))
    ∙ ap (map named) (map-append rule_view (take i rules) (rule ∷ [])) ∙ map-append named (rule_views (take i rules)) (rule_view rule ∷ []) in
    ap texts_of n ∙ map-append (λ t. chars t.now) old (name ∷ []) ∙ ap (λ t. texts_of old ++ t ∷ []) same ∙ ap (λ ts. ts ++ (rule_view rule).name ∷ []) o ∙ sym more

-- a start is told as unknown
abbrev pub IsTold : List ℕ → code_fragment.Fragment → Diagnostic → Type 0
IsTold text stray d = ReportsWarning (warning code.UnknownStart (place_of text (fragment_of stray))) d

-- one start more
pub one_told : (text : List ℕ) (strays : List code_fragment.Fragment) (i : ℕ) (stray : code_fragment.Fragment) (old new : List Diagnostic) (d : Diagnostic) → i < length strays → stray ≡ get_or strays i stray → new ≡ old ++ d ∷ [] → IsTold text stray d
    → AllZip (IsTold text) (take i strays) old → AllZip (IsTold text) (take (i + 1) strays) new
one_told text strays i stray old new d h e n told before =
    subst (λ ds. AllZip (IsTold text) (take (i + 1) strays) ds) (sym n)
    (subst (λ ss. AllZip (IsTold text) ss (old ++ d ∷ [])) (sym (take_more strays i stray h ∙ ap (λ s. take i strays ++ s ∷ []) (sym e)))
    (zip_both (IsTold text) (take i strays) (stray ∷ []) old (d ∷ []) before (told, tt)))

-- a warning for each
mapped : (text : List ℕ) (strays : List code_fragment.Fragment) (ds : List Diagnostic) → AllZip (IsTold text) strays ds
    → AllZip ReportsWarning (map (warning code.UnknownStart) (map (place_of text) (map fragment_of strays))) ds
mapped text [] [] h = tt
mapped text [] (d ∷ ds) h = absurd h
mapped text (s ∷ ss) [] h = absurd h
mapped text (s ∷ ss) (d ∷ ds) h = (h.0, mapped text ss ds h.1)

pub unknown_told : (text : List ℕ) (rules : List ParserRule) (names : List (Bor (List ℕ))) (starts strays : List code_fragment.Fragment) (ds : List Diagnostic) → texts_of names ≡ map (λ rule. rule.name) (rule_views rules)
    → strays ≡ filter (λ start. not (is_one_of (texts_of names) (chars start.text.now))) starts → AllZip (IsTold text) strays ds
    → AllZip ReportsWarning (map (warning code.UnknownStart) (map (place_of text) (filter (is_unknown (rule_views rules)) (map fragment_of starts)))) ds
unknown_told text rules names starts strays ds e s h =
    let found : map fragment_of strays ≡ filter (is_unknown (rule_views rules)) (map fragment_of starts) =
    ap (map fragment_of) (s ∙ ap (λ (ts : List Text). filter (λ start. not (is_one_of ts (chars start.text.now))) starts) e) ∙ filter-map (is_unknown (rule_views rules)) starts in
    subst (λ fs. AllZip ReportsWarning (map (warning code.UnknownStart) (map (place_of text) fs)) ds) found (mapped text strays ds h)
