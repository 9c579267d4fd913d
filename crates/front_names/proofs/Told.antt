-- Findings about names, and the complaints that they are.
use Rattle.std.proofs.Common.{◌≡◌, ◌∙◌, List, [], ◌∷◌, ◌++◌, ℕ, map, refl, sym, ap, append-nil, append_assoc}
use Rattle.std.proofs.lemmas.List.{map-append}
use Rattle.std.specs.Prelude.{not, ◌&&◌}
use Rattle.base_language.specs.Language.Builtins.{is_one_of}
use Rattle.base_language.specs.Language.Grammar.{keywords}
use Rattle.base_language.specs.Language.State.{Trees}
use Rattle.base_language.specs.Pieces.Saying.{Span, Complaint, piece_of, written}
use Rattle.base_language.specs.declared.runtime.places.Span as code
use Rattle.front_names.specs.GrammarNames.{calls, definitions, name_complaints}
use Rattle.front_names.specs.NameFindings.{complaint_of, told_by}
use Rattle.front_names.specs.Names.{AreIn, complaints, duplicate_complaints, is_builtin, later_places, pest_keyword_complaints, places_of, undefined_calls, undefined_complaints}
use Rattle.front_names.specs.declared.findings.NameFinding.{NameFinding}
use Rattle.front_names.specs.declared.messages.NameProblem.{NameProblem}
use Rattle.front_names.specs.declared.messages.NameProblem.TheVariants as problem_is
use Rattle.front_names.proofs.InText.{calls_in, definitions_in, filtered_in, later_in}

-- one finding more, at the first of the places that are left
pub add_told : (problem : NameProblem) (all : List Complaint) (found : List NameFinding) (x : code.Span) (rest others : List Span) → rest ≡ piece_of x ∷ others
    → all ≡ told_by found ++ complaints problem rest
    → all ≡ told_by (found ++ record { problem = problem; span = x } ∷ []) ++ complaints problem others
add_told problem all found x rest others left a =
    let finding : NameFinding = record { problem = problem; span = x } in
    a ∙ ap (λ l. told_by found ++ complaints problem l) left
    ∙ sym (ap (λ l. l ++ complaints problem others) (map-append complaint_of found (finding ∷ []))
    ∙ append_assoc (told_by found) (complaint_of finding ∷ []) (complaints problem others))

pub nothing_left : (problem : NameProblem) (found : List NameFinding) (rest : List Span) → rest ≡ [] → told_by found ++ complaints problem rest ≡ told_by found
nothing_left problem found rest e = ap (λ l. told_by found ++ complaints problem l) e ∙ append-nil (told_by found)

-- the places of complaints
abbrev pub places_told : List Complaint → List Span
places_told cs = map (λ c. c.span) cs

told_places : (problem : NameProblem) (places : List Span) → places_told (complaints problem places) ≡ places
told_places problem [] = refl
told_places problem (x ∷ places) = ap (λ l. x ∷ l) (told_places problem places)

both_in : (text : List ℕ) (xs ys : List Complaint) → AreIn text (places_told xs) → AreIn text (places_told ys) → AreIn text (places_told (xs ++ ys))
both_in text [] ys h k = k
both_in text (x ∷ xs) ys h k = (h.0, both_in text xs ys h.1 k)

complaints_in : (text : List ℕ) (problem : NameProblem) (places : List Span) → AreIn text places → AreIn text (places_told (complaints problem places))
complaints_in text problem places h = rw (told_places problem places) h

-- what is said about the names of a text's trees is said of pieces of the text
pub complaints_in_text : (text : List ℕ) (trees : Trees) → AreIn text (places_told (name_complaints (definitions text trees) (calls text trees)))
complaints_in_text text trees =
    let ds = definitions text trees in
    let cs = calls text trees in
    let reserved : AreIn text (places_of keywords ds) = filtered_in text (λ place. is_one_of keywords (written place)) ds (definitions_in text trees) in
    let again : AreIn text (later_places [] ds) = later_in text [] ds (definitions_in text trees) in
    let undefined : AreIn text (undefined_calls ds cs) =
    filtered_in text (λ call. not (is_one_of (map written ds) (written call)) && not (is_builtin (written call))) cs (calls_in text trees) in
    both_in text (pest_keyword_complaints ds ++ duplicate_complaints ds) (undefined_complaints ds cs)
    (both_in text (pest_keyword_complaints ds) (duplicate_complaints ds) (complaints_in text problem_is.PestKeyword (places_of keywords ds) reserved) (complaints_in text problem_is.AlreadyDefined (later_places [] ds) again))
    (complaints_in text problem_is.Undefined (undefined_calls ds cs) undefined)

-- the places of findings
pub finding_places : (findings : List NameFinding) → places_told (told_by findings) ≡ map (λ finding. piece_of finding.span) findings
finding_places [] = refl
finding_places (f ∷ findings) = ap (λ l. piece_of f.span ∷ l) (finding_places findings)

-- where there are no findings, there is nothing to say
pub none_told : (findings : List NameFinding) (cs : List Complaint) → told_by findings ≡ cs → findings ≡ [] → cs ≡ []
none_told findings cs e none = sym e ∙ ap told_by none

-- three kinds of findings, one after another
pub three_told : (old one two all : List NameFinding) (xs ys zs : List Complaint) → old ≡ [] → told_by one ≡ told_by old ++ xs → told_by two ≡ told_by one ++ ys → told_by all ≡ told_by two ++ zs
    → told_by all ≡ xs ++ ys ++ zs
three_told old one two all xs ys zs none a b c =
    c ∙ ap (λ l. l ++ zs) (b ∙ ap (λ l. l ++ ys) (a ∙ ap (λ l. told_by l ++ xs) none)) ∙ simp append_assoc
