-- What is so of the grammar that an accepted text spells.
use Rattle.std.proofs.Common.{◌≡◌, ℕ, List, [], subst, sym}
use Rattle.std.specs.Borrow.{Bor}
use Rattle.std.specs.Str.{IsUtf8}
use Rattle.base_language.specs.Language.Expression.{Expression, Grammar}
use Rattle.base_language.specs.Language.Grammar.{FitsItsTypes, IsGrammar}
use Rattle.base_language.specs.Language.CharacterBounds.{HasCharacterBounds}
use Rattle.base_language.specs.Language.KnownNames.{HasKnownNames}
use Rattle.base_language.specs.Language.State.{Trees}
use Rattle.base_language.specs.Language.WellFormed.{InSomeRule, IsPlain}
use Rattle.base_language.proofs.OneOutcome.{same}
use Rattle.base_language.proofs.Termination.{ends}
use Rattle.base_language.proofs.ListingKeepsGrammars.{Finished, finished_grammar, finished_plain, finished_well_formed, wrapped_listing_finishes}
use Rattle.base_language.proofs.SomeRule.{names_readable}
use Rattle.base_language.proofs.StepsKeepGrammars.{grammar_along, plain_along, well_formed_along}
use Rattle.front_names.specs.GrammarNames.{AreWrittenAt, calls, definitions, first_calls}
use Rattle.front_spanned.specs.Erasure.{rules_without_spans}
use Rattle.front_spanned.specs.Spanned.{SpannedRule}
use Rattle.front_reader.proofs.ReadableCounts.{counts_readable}
use Rattle.front_reader.proofs.ReadParts.{parts_so}
use Rattle.front_reader.specs.Reading.{ReadsRules}
use Rattle.front_restorer.specs.Agreeing.{WrappersSuffice}
use Rattle.pest_meta.proofs.Builtins.{builtins_outside}
use Rattle.pest_meta.proofs.Called.{each_is_called}
use Rattle.pest_meta.proofs.CharacterBounds.{answer_bounds, read_bounds}
use Rattle.pest_meta.proofs.Fitting.{AreSound, fits_given, handed_down}
use Rattle.pest_meta.proofs.KnownNames.{answer_known, spelled_known}
use Rattle.pest_meta.proofs.NothingNew.{finished_suffice, steps_suffice}
use Rattle.pest_meta.proofs.Spelled.{spells_once}
use Rattle.pest_meta.proofs.WellNamed.{defined_texts, distinct_read, keeps_any, names_are_texts, no_keyword_read}
use Rattle.pest_meta.proofs.WholeCharacters.{trees_on_characters}
use Rattle.pest_meta.specs.Promises.{AreBuiltinsOf, EndsFromEverywhere, HasOutcomesOf, IsWellFormedGrammar, OfSpelled}
use Rattle.pest_meta.specs.Spelling.{AreReadAsRules, HasTrees, IsAnsweredBy, SpellsGrammar, complaints_in}

module _ (text : List ℕ) (utf8 : IsUtf8 text) (us : Trees) (sound : AreSound text us) (h : complaints_in text us ≡ []) (rs : List SpannedRule) (d : ReadsRules text us rs) where
  fits : (p : Expression) → InSomeRule (rules_without_spans rs) p → FitsItsTypes p
  fits = parts_so text (AreSound text) FitsItsTypes (handed_down text) (fits_given text) d sound

  -- trees without a flaw and without complaints on their names are read as a grammar
  pub is_grammar : IsGrammar (rules_without_spans rs)
  is_grammar = record {
    distinct = distinct_read d (defined_texts text us sound.1) (calls text us) h;
    no_keyword = no_keyword_read d (defined_texts text us sound.1) (calls text us) h;
    names = names_are_texts d (defined_texts text us sound.1);
    readable = counts_readable text d sound.0;
    fits = fits;
  }

-- the names that trees call and do not define are the builtins of the rules
pub read_builtins : (text : List ℕ) (utf8 : IsUtf8 text) (trees : Trees) (rules : Grammar) (builtins : List (Bor (List ℕ)))
    → HasTrees text trees → complaints_in text trees ≡ [] → AreWrittenAt (first_calls (definitions text trees) (calls text trees)) builtins
    → AreReadAsRules text trees rules → AreBuiltinsOf rules builtins
read_builtins text utf8 trees rules builtins h none uses give =
    let on = trees_on_characters text utf8 trees h in
    subst (λ g. AreBuiltinsOf g builtins) (sym give.same) (record {
      outside = builtins_outside give.reads on none builtins uses;
      complete = each_is_called give.reads builtins uses;
    })

module _ (text : List ℕ) (utf8 : IsUtf8 text) (builtins : List (Bor (List ℕ))) (answer : Grammar) (a : IsAnsweredBy text builtins answer) where
  -- a grammar that the text spells is the one that was accepted
  the_same : (g : Grammar) → SpellsGrammar text g → a.spelled ≡ g
  the_same g s = spells_once text a.spelled g (record { trees = a.trees; of_text = a.of_text; give = a.accepted.give }) s

  accepted_is_grammar : IsGrammar a.spelled
  accepted_is_grammar =
      let give = a.accepted.give in
      let sound : AreSound text a.trees = (give.flawless, trees_on_characters text utf8 a.trees a.of_text) in
      subst IsGrammar (sym give.same) (is_grammar text utf8 a.trees sound a.well_named give.read give.reads)

  -- the names that are answered are its builtins
  accepted_builtins : AreBuiltinsOf a.spelled builtins
  accepted_builtins = read_builtins text utf8 a.trees a.spelled builtins a.of_text a.well_named a.uses a.accepted.give

  pub answers_builtins : OfSpelled text (λ g. AreBuiltinsOf g builtins)
  answers_builtins g s = subst (λ h. AreBuiltinsOf h builtins) (the_same g s) accepted_builtins

  pub spells_grammar : OfSpelled text IsWellFormedGrammar
  spells_grammar g s = subst IsWellFormedGrammar (the_same g s) (accepted_is_grammar, a.accepted.well_formed)

  -- the rules that are answered call rules and builtins alone
  pub answers_known : HasKnownNames answer
  answers_known =
      let o = a.optimized in
      answer_known a.spelled o.reached answer o.chain
      (wrapped_listing_finishes o.reached answer o.lists) (spelled_known a.spelled builtins accepted_builtins)

  -- the bounds of their ranges are characters
  pub answers_bounds : HasCharacterBounds answer
  answers_bounds =
      let o = a.optimized in
      answer_bounds a.spelled o.reached answer o.chain
      (wrapped_listing_finishes o.reached answer o.lists)
      (read_bounds text utf8 a.trees a.spelled a.of_text a.accepted.give)

  optimized_outcomes : HasOutcomesOf a.spelled answer
  optimized_outcomes =
      let o = a.optimized in
      let grammar = accepted_is_grammar in
      record {
        reached = o.reached;
        chain = o.chain;
        outcomes = o.outcomes (keeps_any a.spelled grammar.no_keyword);
        grammar = (grammar_along a.spelled o.reached o.chain grammar, well_formed_along a.spelled o.reached o.chain (names_readable a.spelled grammar.readable) a.accepted.well_formed);
        listing = o.lists;
      }

  pub answers_outcomes : OfSpelled text (λ g. HasOutcomesOf g answer)
  answers_outcomes g s = subst (λ h. HasOutcomesOf h answer) (the_same g s) optimized_outcomes

-- a plain well-formed grammar ends
sound_ends : (g : Grammar) → IsWellFormedGrammar g → IsPlain g → EndsFromEverywhere g
sound_ends g h plain classes start =
    let d = ends g classes start.name start.rule start.mode start.state (names_readable g h.0.readable) h.1 plain start.defined in
    (d.0, d.1, λ p e. same g classes e d.1)

finished_sound : (g h : Grammar) → Finished g h → IsWellFormedGrammar g → IsWellFormedGrammar h
finished_sound g h f s = (finished_grammar g h f s.0, finished_well_formed g h f s.1)

pub spelled_ends : (g : Grammar) → IsWellFormedGrammar g → IsPlain g → EndsFromEverywhere g
spelled_ends = sound_ends

pub answer_ends : (g answer : Grammar) → HasOutcomesOf g answer → IsPlain g → EndsFromEverywhere answer
answer_ends g answer o plain =
    let finished = wrapped_listing_finishes o.reached answer o.listing in
    sound_ends answer (finished_sound o.reached answer finished o.grammar) (finished_plain o.reached answer finished (plain_along g o.reached o.chain plain))

-- if wrappers suffice in the spelled rules they suffice in those that are answered
pub answer_suffices : (g answer : Grammar) → HasOutcomesOf g answer → WrappersSuffice g → WrappersSuffice answer
answer_suffices g answer o w =
    finished_suffice o.reached answer (wrapped_listing_finishes o.reached answer o.listing) (steps_suffice g o.reached o.chain w)
