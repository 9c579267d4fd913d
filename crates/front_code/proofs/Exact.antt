-- The exact code of the meta-grammar, body by body; bench/front-code writes this file.
use Rattle.std.proofs.Common.{refl, inl, ◌+◌, List, [], ◌∷◌, true, false}
use Rattle.base_language.specs.Language.Expression.{Ident, comment, whitespace}
use Rattle.base_language.specs.Language.Meaning.{Run, skipped}
use Rattle.base_language.specs.Language.State.{AtomicMode, Between, Classes, CompoundAtomicMode, NonAtomicMode}
use Rattle.base_language.specs.Pieces.MetaRules.{name_of}
use Rattle.base_language.specs.declared.grammar.Rule.{Rule}
use Rattle.base_language.specs.declared.grammar.Rule.TheVariants as rule
use Rattle.front_grammar.specs.MetaGrammar.{body_of, meta_grammar}
use Rattle.matcher_code.specs.Lists.{CodeLists}
use Rattle.matcher_code.specs.declared.code.Op.TheVariants as op
use Rattle.matcher_code.specs.Laid.{IsPoint, Point}
use Rattle.front_code.specs.Codes.{IsCodeOfMetaGrammar, IsExactCode, exact_ops, exact_sets, texts}
use Rattle.front_code.specs.Layouts.{AreLaidAll, also, done, rep_min_max, rep_once, seq}
use Rattle.front_code.specs.Numbers.{number_of}
use Rattle.front_code.proofs.Characters.{one_any, one_called, one_of_two, one_other, one_range, one_text}
use Rattle.front_code.proofs.Flattening.{whole_code}
use Rattle.front_code.proofs.Outside.{outside_choice, outside_seq, outside_set, outside_sub, outside_text, takes_other}
use Rattle.front_code.proofs.Shapes.{Laid, Setting, all_of, at_once, at_point, atomic, behind_all, between, calls, comments, compound, either, end, enters, trivia, has_op, many, maybe, never, one_of, start, tested, tight_atomic, tight_between, tries, turns, within, word}

-- the calls of the rules from outside, and the bodies that are called
pub called : List Point
called =
    record { task = Run NonAtomicMode (Ident (name_of rule.EOI)); label = 3; next = 1; on_fail = 2; rank = 0 }
    ∷ record { task = Run NonAtomicMode (Ident (name_of rule.grammar_rules)); label = 4; next = 1; on_fail = 2; rank = 0 }
    ∷ record { task = Run NonAtomicMode (Ident (name_of rule.grammar_rule)); label = 5; next = 1; on_fail = 2; rank = 0 }
    ∷ record { task = Run NonAtomicMode (Ident (name_of rule.assignment_operator)); label = 6; next = 1; on_fail = 2; rank = 0 }
    ∷ record { task = Run NonAtomicMode (Ident (name_of rule.opening_brace)); label = 7; next = 1; on_fail = 2; rank = 0 }
    ∷ record { task = Run NonAtomicMode (Ident (name_of rule.closing_brace)); label = 8; next = 1; on_fail = 2; rank = 0 }
    ∷ record { task = Run NonAtomicMode (Ident (name_of rule.opening_paren)); label = 9; next = 1; on_fail = 2; rank = 0 }
    ∷ record { task = Run NonAtomicMode (Ident (name_of rule.closing_paren)); label = 10; next = 1; on_fail = 2; rank = 0 }
    ∷ record { task = Run NonAtomicMode (Ident (name_of rule.opening_brack)); label = 11; next = 1; on_fail = 2; rank = 0 }
    ∷ record { task = Run NonAtomicMode (Ident (name_of rule.closing_brack)); label = 12; next = 1; on_fail = 2; rank = 0 }
    ∷ record { task = Run NonAtomicMode (Ident (name_of rule.modifier)); label = 13; next = 1; on_fail = 2; rank = 0 }
    ∷ record { task = Run NonAtomicMode (Ident (name_of rule.silent_modifier)); label = 14; next = 1; on_fail = 2; rank = 0 }
    ∷ record { task = Run NonAtomicMode (Ident (name_of rule.atomic_modifier)); label = 15; next = 1; on_fail = 2; rank = 0 }
    ∷ record { task = Run NonAtomicMode (Ident (name_of rule.compound_atomic_modifier)); label = 16; next = 1; on_fail = 2; rank = 0 }
    ∷ record { task = Run NonAtomicMode (Ident (name_of rule.non_atomic_modifier)); label = 17; next = 1; on_fail = 2; rank = 0 }
    ∷ record { task = Run NonAtomicMode (Ident (name_of rule.tag_id)); label = 18; next = 1; on_fail = 2; rank = 0 }
    ∷ record { task = Run NonAtomicMode (Ident (name_of rule.node_tag)); label = 19; next = 1; on_fail = 2; rank = 0 }
    ∷ record { task = Run NonAtomicMode (Ident (name_of rule.expression)); label = 20; next = 1; on_fail = 2; rank = 0 }
    ∷ record { task = Run NonAtomicMode (Ident (name_of rule.term)); label = 21; next = 1; on_fail = 2; rank = 0 }
    ∷ record { task = Run NonAtomicMode (Ident (name_of rule.node)); label = 22; next = 1; on_fail = 2; rank = 0 }
    ∷ record { task = Run NonAtomicMode (Ident (name_of rule.terminal)); label = 23; next = 1; on_fail = 2; rank = 0 }
    ∷ record { task = Run NonAtomicMode (Ident (name_of rule.prefix_operator)); label = 24; next = 1; on_fail = 2; rank = 0 }
    ∷ record { task = Run NonAtomicMode (Ident (name_of rule.infix_operator)); label = 25; next = 1; on_fail = 2; rank = 0 }
    ∷ record { task = Run NonAtomicMode (Ident (name_of rule.postfix_operator)); label = 26; next = 1; on_fail = 2; rank = 0 }
    ∷ record { task = Run NonAtomicMode (Ident (name_of rule.positive_predicate_operator)); label = 27; next = 1; on_fail = 2; rank = 0 }
    ∷ record { task = Run NonAtomicMode (Ident (name_of rule.negative_predicate_operator)); label = 28; next = 1; on_fail = 2; rank = 0 }
    ∷ record { task = Run NonAtomicMode (Ident (name_of rule.sequence_operator)); label = 29; next = 1; on_fail = 2; rank = 0 }
    ∷ record { task = Run NonAtomicMode (Ident (name_of rule.choice_operator)); label = 30; next = 1; on_fail = 2; rank = 0 }
    ∷ record { task = Run NonAtomicMode (Ident (name_of rule.optional_operator)); label = 31; next = 1; on_fail = 2; rank = 0 }
    ∷ record { task = Run NonAtomicMode (Ident (name_of rule.repeat_operator)); label = 32; next = 1; on_fail = 2; rank = 0 }
    ∷ record { task = Run NonAtomicMode (Ident (name_of rule.repeat_once_operator)); label = 33; next = 1; on_fail = 2; rank = 0 }
    ∷ record { task = Run NonAtomicMode (Ident (name_of rule.repeat_exact)); label = 34; next = 1; on_fail = 2; rank = 0 }
    ∷ record { task = Run NonAtomicMode (Ident (name_of rule.repeat_min)); label = 35; next = 1; on_fail = 2; rank = 0 }
    ∷ record { task = Run NonAtomicMode (Ident (name_of rule.repeat_max)); label = 36; next = 1; on_fail = 2; rank = 0 }
    ∷ record { task = Run NonAtomicMode (Ident (name_of rule.repeat_min_max)); label = 37; next = 1; on_fail = 2; rank = 0 }
    ∷ record { task = Run NonAtomicMode (Ident (name_of rule.number)); label = 38; next = 1; on_fail = 2; rank = 0 }
    ∷ record { task = Run NonAtomicMode (Ident (name_of rule.integer)); label = 39; next = 1; on_fail = 2; rank = 0 }
    ∷ record { task = Run NonAtomicMode (Ident (name_of rule.comma)); label = 40; next = 1; on_fail = 2; rank = 0 }
    ∷ record { task = Run NonAtomicMode (Ident (name_of rule._push)); label = 41; next = 1; on_fail = 2; rank = 0 }
    ∷ record { task = Run NonAtomicMode (Ident (name_of rule._push_literal)); label = 42; next = 1; on_fail = 2; rank = 0 }
    ∷ record { task = Run NonAtomicMode (Ident (name_of rule.peek_slice)); label = 43; next = 1; on_fail = 2; rank = 0 }
    ∷ record { task = Run NonAtomicMode (Ident (name_of rule.identifier)); label = 44; next = 1; on_fail = 2; rank = 0 }
    ∷ record { task = Run NonAtomicMode (Ident (name_of rule.alpha)); label = 45; next = 1; on_fail = 2; rank = 0 }
    ∷ record { task = Run NonAtomicMode (Ident (name_of rule.alpha_num)); label = 46; next = 1; on_fail = 2; rank = 0 }
    ∷ record { task = Run NonAtomicMode (Ident (name_of rule.string)); label = 47; next = 1; on_fail = 2; rank = 0 }
    ∷ record { task = Run NonAtomicMode (Ident (name_of rule.insensitive_string)); label = 48; next = 1; on_fail = 2; rank = 0 }
    ∷ record { task = Run NonAtomicMode (Ident (name_of rule.range)); label = 49; next = 1; on_fail = 2; rank = 0 }
    ∷ record { task = Run NonAtomicMode (Ident (name_of rule.character)); label = 50; next = 1; on_fail = 2; rank = 0 }
    ∷ record { task = Run NonAtomicMode (Ident (name_of rule.inner_str)); label = 51; next = 1; on_fail = 2; rank = 0 }
    ∷ record { task = Run NonAtomicMode (Ident (name_of rule.inner_chr)); label = 52; next = 1; on_fail = 2; rank = 0 }
    ∷ record { task = Run NonAtomicMode (Ident (name_of rule.escape)); label = 53; next = 1; on_fail = 2; rank = 0 }
    ∷ record { task = Run NonAtomicMode (Ident (name_of rule.code)); label = 54; next = 1; on_fail = 2; rank = 0 }
    ∷ record { task = Run NonAtomicMode (Ident (name_of rule.unicode)); label = 55; next = 1; on_fail = 2; rank = 0 }
    ∷ record { task = Run NonAtomicMode (Ident (name_of rule.hex_digit)); label = 56; next = 1; on_fail = 2; rank = 0 }
    ∷ record { task = Run NonAtomicMode (Ident (name_of rule.quote)); label = 57; next = 1; on_fail = 2; rank = 0 }
    ∷ record { task = Run NonAtomicMode (Ident (name_of rule.single_quote)); label = 58; next = 1; on_fail = 2; rank = 0 }
    ∷ record { task = Run NonAtomicMode (Ident (name_of rule.range_operator)); label = 59; next = 1; on_fail = 2; rank = 0 }
    ∷ record { task = Run NonAtomicMode (Ident (name_of rule.newline)); label = 60; next = 1; on_fail = 2; rank = 0 }
    ∷ record { task = Run NonAtomicMode (Ident (name_of rule.WHITESPACE)); label = 61; next = 1; on_fail = 2; rank = 0 }
    ∷ record { task = Run NonAtomicMode (Ident (name_of rule.line_comment)); label = 62; next = 1; on_fail = 2; rank = 0 }
    ∷ record { task = Run NonAtomicMode (Ident (name_of rule.block_comment)); label = 63; next = 1; on_fail = 2; rank = 0 }
    ∷ record { task = Run NonAtomicMode (Ident (name_of rule.COMMENT)); label = 64; next = 1; on_fail = 2; rank = 0 }
    ∷ record { task = Run NonAtomicMode (Ident (name_of rule.space)); label = 65; next = 1; on_fail = 2; rank = 0 }
    ∷ record { task = Run NonAtomicMode (Ident (name_of rule.grammar_doc)); label = 66; next = 1; on_fail = 2; rank = 0 }
    ∷ record { task = Run NonAtomicMode (Ident (name_of rule.line_doc)); label = 67; next = 1; on_fail = 2; rank = 0 }
    ∷ record { task = Run NonAtomicMode (Ident (name_of rule.inner_doc)); label = 68; next = 1; on_fail = 2; rank = 0 }
    ∷ record { task = Run NonAtomicMode (body_of rule.grammar_rules); label = 71; next = 72; on_fail = 0; rank = 0 }
    ∷ record { task = Run NonAtomicMode (body_of rule.grammar_rule); label = 73; next = 74; on_fail = 0; rank = 0 }
    ∷ record { task = Run NonAtomicMode (body_of rule.assignment_operator); label = 75; next = 76; on_fail = 0; rank = 0 }
    ∷ record { task = Run NonAtomicMode (body_of rule.opening_brace); label = 77; next = 78; on_fail = 0; rank = 0 }
    ∷ record { task = Run NonAtomicMode (body_of rule.closing_brace); label = 79; next = 80; on_fail = 0; rank = 0 }
    ∷ record { task = Run NonAtomicMode (body_of rule.opening_paren); label = 81; next = 82; on_fail = 0; rank = 0 }
    ∷ record { task = Run NonAtomicMode (body_of rule.closing_paren); label = 83; next = 84; on_fail = 0; rank = 0 }
    ∷ record { task = Run NonAtomicMode (body_of rule.opening_brack); label = 85; next = 86; on_fail = 0; rank = 0 }
    ∷ record { task = Run NonAtomicMode (body_of rule.closing_brack); label = 87; next = 88; on_fail = 0; rank = 0 }
    ∷ record { task = Run NonAtomicMode (body_of rule.modifier); label = 89; next = 90; on_fail = 0; rank = 0 }
    ∷ record { task = Run NonAtomicMode (body_of rule.silent_modifier); label = 91; next = 92; on_fail = 0; rank = 0 }
    ∷ record { task = Run NonAtomicMode (body_of rule.atomic_modifier); label = 93; next = 94; on_fail = 0; rank = 0 }
    ∷ record { task = Run NonAtomicMode (body_of rule.compound_atomic_modifier); label = 95; next = 96; on_fail = 0; rank = 0 }
    ∷ record { task = Run NonAtomicMode (body_of rule.non_atomic_modifier); label = 97; next = 98; on_fail = 0; rank = 0 }
    ∷ record { task = Run AtomicMode (body_of rule.tag_id); label = 99; next = 100; on_fail = 0; rank = 0 }
    ∷ record { task = Run NonAtomicMode (body_of rule.node_tag); label = 101; next = 102; on_fail = 0; rank = 0 }
    ∷ record { task = Run NonAtomicMode (body_of rule.expression); label = 103; next = 104; on_fail = 0; rank = 0 }
    ∷ record { task = Run NonAtomicMode (body_of rule.term); label = 105; next = 106; on_fail = 0; rank = 0 }
    ∷ record { task = Run NonAtomicMode (body_of rule.node); label = 107; next = 108; on_fail = 0; rank = 0 }
    ∷ record { task = Run NonAtomicMode (body_of rule.terminal); label = 109; next = 110; on_fail = 0; rank = 0 }
    ∷ record { task = Run NonAtomicMode (body_of rule.prefix_operator); label = 111; next = 112; on_fail = 0; rank = 0 }
    ∷ record { task = Run NonAtomicMode (body_of rule.infix_operator); label = 113; next = 114; on_fail = 0; rank = 0 }
    ∷ record { task = Run NonAtomicMode (body_of rule.postfix_operator); label = 115; next = 116; on_fail = 0; rank = 0 }
    ∷ record { task = Run NonAtomicMode (body_of rule.positive_predicate_operator); label = 117; next = 118; on_fail = 0; rank = 0 }
    ∷ record { task = Run NonAtomicMode (body_of rule.negative_predicate_operator); label = 119; next = 120; on_fail = 0; rank = 0 }
    ∷ record { task = Run NonAtomicMode (body_of rule.sequence_operator); label = 121; next = 122; on_fail = 0; rank = 0 }
    ∷ record { task = Run NonAtomicMode (body_of rule.choice_operator); label = 123; next = 124; on_fail = 0; rank = 0 }
    ∷ record { task = Run NonAtomicMode (body_of rule.optional_operator); label = 125; next = 126; on_fail = 0; rank = 0 }
    ∷ record { task = Run NonAtomicMode (body_of rule.repeat_operator); label = 127; next = 128; on_fail = 0; rank = 0 }
    ∷ record { task = Run NonAtomicMode (body_of rule.repeat_once_operator); label = 129; next = 130; on_fail = 0; rank = 0 }
    ∷ record { task = Run NonAtomicMode (body_of rule.repeat_exact); label = 131; next = 132; on_fail = 0; rank = 0 }
    ∷ record { task = Run NonAtomicMode (body_of rule.repeat_min); label = 133; next = 134; on_fail = 0; rank = 0 }
    ∷ record { task = Run NonAtomicMode (body_of rule.repeat_max); label = 135; next = 136; on_fail = 0; rank = 0 }
    ∷ record { task = Run NonAtomicMode (body_of rule.repeat_min_max); label = 137; next = 138; on_fail = 0; rank = 0 }
    ∷ record { task = Run AtomicMode (body_of rule.number); label = 139; next = 140; on_fail = 0; rank = 0 }
    ∷ record { task = Run AtomicMode (body_of rule.integer); label = 141; next = 142; on_fail = 0; rank = 0 }
    ∷ record { task = Run NonAtomicMode (body_of rule.comma); label = 143; next = 144; on_fail = 0; rank = 0 }
    ∷ record { task = Run NonAtomicMode (body_of rule._push); label = 145; next = 146; on_fail = 0; rank = 0 }
    ∷ record { task = Run NonAtomicMode (body_of rule._push_literal); label = 147; next = 148; on_fail = 0; rank = 0 }
    ∷ record { task = Run NonAtomicMode (body_of rule.peek_slice); label = 149; next = 150; on_fail = 0; rank = 0 }
    ∷ record { task = Run AtomicMode (body_of rule.identifier); label = 151; next = 152; on_fail = 0; rank = 0 }
    ∷ record { task = Run NonAtomicMode (body_of rule.alpha); label = 153; next = 154; on_fail = 0; rank = 0 }
    ∷ record { task = Run NonAtomicMode (body_of rule.alpha_num); label = 155; next = 156; on_fail = 0; rank = 0 }
    ∷ record { task = Run CompoundAtomicMode (body_of rule.string); label = 157; next = 158; on_fail = 0; rank = 0 }
    ∷ record { task = Run NonAtomicMode (body_of rule.insensitive_string); label = 159; next = 160; on_fail = 0; rank = 0 }
    ∷ record { task = Run NonAtomicMode (body_of rule.range); label = 161; next = 162; on_fail = 0; rank = 0 }
    ∷ record { task = Run CompoundAtomicMode (body_of rule.character); label = 163; next = 164; on_fail = 0; rank = 0 }
    ∷ record { task = Run AtomicMode (body_of rule.inner_str); label = 165; next = 166; on_fail = 0; rank = 0 }
    ∷ record { task = Run AtomicMode (body_of rule.inner_chr); label = 167; next = 168; on_fail = 0; rank = 0 }
    ∷ record { task = Run AtomicMode (body_of rule.escape); label = 169; next = 170; on_fail = 0; rank = 0 }
    ∷ record { task = Run AtomicMode (body_of rule.code); label = 171; next = 172; on_fail = 0; rank = 0 }
    ∷ record { task = Run AtomicMode (body_of rule.unicode); label = 173; next = 174; on_fail = 0; rank = 0 }
    ∷ record { task = Run AtomicMode (body_of rule.hex_digit); label = 175; next = 176; on_fail = 0; rank = 0 }
    ∷ record { task = Run NonAtomicMode (body_of rule.quote); label = 177; next = 178; on_fail = 0; rank = 0 }
    ∷ record { task = Run NonAtomicMode (body_of rule.single_quote); label = 179; next = 180; on_fail = 0; rank = 0 }
    ∷ record { task = Run NonAtomicMode (body_of rule.range_operator); label = 181; next = 182; on_fail = 0; rank = 0 }
    ∷ record { task = Run NonAtomicMode (body_of rule.newline); label = 183; next = 184; on_fail = 0; rank = 0 }
    ∷ record { task = Run AtomicMode (body_of rule.WHITESPACE); label = 185; next = 186; on_fail = 0; rank = 0 }
    ∷ record { task = Run NonAtomicMode (body_of rule.line_comment); label = 187; next = 188; on_fail = 0; rank = 0 }
    ∷ record { task = Run NonAtomicMode (body_of rule.block_comment); label = 189; next = 190; on_fail = 0; rank = 0 }
    ∷ record { task = Run AtomicMode (body_of rule.COMMENT); label = 191; next = 192; on_fail = 0; rank = 0 }
    ∷ record { task = Run NonAtomicMode (body_of rule.space); label = 193; next = 194; on_fail = 0; rank = 0 }
    ∷ record { task = Run CompoundAtomicMode (body_of rule.grammar_doc); label = 195; next = 196; on_fail = 0; rank = 0 }
    ∷ record { task = Run CompoundAtomicMode (body_of rule.line_doc); label = 197; next = 198; on_fail = 0; rank = 0 }
    ∷ record { task = Run AtomicMode (body_of rule.inner_doc); label = 199; next = 200; on_fail = 0; rank = 0 }
    ∷ record { task = Run Between skipped; label = 207; next = 208; on_fail = 0; rank = 0 }
    ∷ record { task = Run AtomicMode (body_of rule.number); label = 344; next = 345; on_fail = 0; rank = 0 }
    ∷ record { task = Run CompoundAtomicMode (body_of rule.quote); label = 377; next = 378; on_fail = 0; rank = 0 }
    ∷ record { task = Run CompoundAtomicMode (body_of rule.single_quote); label = 387; next = 388; on_fail = 0; rank = 0 }
    ∷ record { task = Run AtomicMode (body_of rule.escape); label = 393; next = 394; on_fail = 0; rank = 0 }
    ∷ record { task = Run AtomicMode (body_of rule.inner_str); label = 395; next = 396; on_fail = 0; rank = 0 }
    ∷ record { task = Run AtomicMode (body_of rule.code); label = 401; next = 402; on_fail = 0; rank = 0 }
    ∷ record { task = Run AtomicMode (body_of rule.unicode); label = 403; next = 404; on_fail = 0; rank = 0 }
    ∷ []

at_grammar_rules_plain_apart : IsPoint called (Run NonAtomicMode (body_of rule.grammar_rules)) 71 72 0
unfolding called
at_grammar_rules_plain_apart = at_point called 66 refl refl

at_grammar_rule_plain : IsPoint called (Run NonAtomicMode (body_of rule.grammar_rule)) 73 74 0
unfolding called
at_grammar_rule_plain = at_point called 67 refl refl

at_assignment_operator_plain : IsPoint called (Run NonAtomicMode (body_of rule.assignment_operator)) 75 76 0
unfolding called
at_assignment_operator_plain = at_point called 68 refl refl

at_opening_brace_plain : IsPoint called (Run NonAtomicMode (body_of rule.opening_brace)) 77 78 0
unfolding called
at_opening_brace_plain = at_point called 69 refl refl

at_closing_brace_plain : IsPoint called (Run NonAtomicMode (body_of rule.closing_brace)) 79 80 0
unfolding called
at_closing_brace_plain = at_point called 70 refl refl

at_opening_paren_plain : IsPoint called (Run NonAtomicMode (body_of rule.opening_paren)) 81 82 0
unfolding called
at_opening_paren_plain = at_point called 71 refl refl

at_closing_paren_plain : IsPoint called (Run NonAtomicMode (body_of rule.closing_paren)) 83 84 0
unfolding called
at_closing_paren_plain = at_point called 72 refl refl

at_opening_brack_plain : IsPoint called (Run NonAtomicMode (body_of rule.opening_brack)) 85 86 0
unfolding called
at_opening_brack_plain = at_point called 73 refl refl

at_closing_brack_plain : IsPoint called (Run NonAtomicMode (body_of rule.closing_brack)) 87 88 0
unfolding called
at_closing_brack_plain = at_point called 74 refl refl

at_modifier_plain_apart : IsPoint called (Run NonAtomicMode (body_of rule.modifier)) 89 90 0
unfolding called
at_modifier_plain_apart = at_point called 75 refl refl

at_silent_modifier_plain : IsPoint called (Run NonAtomicMode (body_of rule.silent_modifier)) 91 92 0
unfolding called
at_silent_modifier_plain = at_point called 76 refl refl

at_atomic_modifier_plain : IsPoint called (Run NonAtomicMode (body_of rule.atomic_modifier)) 93 94 0
unfolding called
at_atomic_modifier_plain = at_point called 77 refl refl

at_compound_atomic_modifier_plain : IsPoint called (Run NonAtomicMode (body_of rule.compound_atomic_modifier)) 95 96 0
unfolding called
at_compound_atomic_modifier_plain = at_point called 78 refl refl

at_non_atomic_modifier_plain : IsPoint called (Run NonAtomicMode (body_of rule.non_atomic_modifier)) 97 98 0
unfolding called
at_non_atomic_modifier_plain = at_point called 79 refl refl

at_tag_id_atomic : IsPoint called (Run AtomicMode (body_of rule.tag_id)) 99 100 0
unfolding called
at_tag_id_atomic = at_point called 80 refl refl

at_node_tag_plain_apart : IsPoint called (Run NonAtomicMode (body_of rule.node_tag)) 101 102 0
unfolding called
at_node_tag_plain_apart = at_point called 81 refl refl

at_expression_plain : IsPoint called (Run NonAtomicMode (body_of rule.expression)) 103 104 0
unfolding called
at_expression_plain = at_point called 82 refl refl

at_term_plain : IsPoint called (Run NonAtomicMode (body_of rule.term)) 105 106 0
unfolding called
at_term_plain = at_point called 83 refl refl

at_node_plain_apart : IsPoint called (Run NonAtomicMode (body_of rule.node)) 107 108 0
unfolding called
at_node_plain_apart = at_point called 84 refl refl

at_terminal_plain_apart : IsPoint called (Run NonAtomicMode (body_of rule.terminal)) 109 110 0
unfolding called
at_terminal_plain_apart = at_point called 85 refl refl

at_prefix_operator_plain_apart : IsPoint called (Run NonAtomicMode (body_of rule.prefix_operator)) 111 112 0
unfolding called
at_prefix_operator_plain_apart = at_point called 86 refl refl

at_infix_operator_plain_apart : IsPoint called (Run NonAtomicMode (body_of rule.infix_operator)) 113 114 0
unfolding called
at_infix_operator_plain_apart = at_point called 87 refl refl

at_postfix_operator_plain_apart : IsPoint called (Run NonAtomicMode (body_of rule.postfix_operator)) 115 116 0
unfolding called
at_postfix_operator_plain_apart = at_point called 88 refl refl

at_positive_predicate_operator_plain : IsPoint called (Run NonAtomicMode (body_of rule.positive_predicate_operator)) 117 118 0
unfolding called
at_positive_predicate_operator_plain = at_point called 89 refl refl

at_negative_predicate_operator_plain : IsPoint called (Run NonAtomicMode (body_of rule.negative_predicate_operator)) 119 120 0
unfolding called
at_negative_predicate_operator_plain = at_point called 90 refl refl

at_sequence_operator_plain : IsPoint called (Run NonAtomicMode (body_of rule.sequence_operator)) 121 122 0
unfolding called
at_sequence_operator_plain = at_point called 91 refl refl

at_choice_operator_plain : IsPoint called (Run NonAtomicMode (body_of rule.choice_operator)) 123 124 0
unfolding called
at_choice_operator_plain = at_point called 92 refl refl

at_optional_operator_plain : IsPoint called (Run NonAtomicMode (body_of rule.optional_operator)) 125 126 0
unfolding called
at_optional_operator_plain = at_point called 93 refl refl

at_repeat_operator_plain : IsPoint called (Run NonAtomicMode (body_of rule.repeat_operator)) 127 128 0
unfolding called
at_repeat_operator_plain = at_point called 94 refl refl

at_repeat_once_operator_plain : IsPoint called (Run NonAtomicMode (body_of rule.repeat_once_operator)) 129 130 0
unfolding called
at_repeat_once_operator_plain = at_point called 95 refl refl

at_repeat_exact_plain : IsPoint called (Run NonAtomicMode (body_of rule.repeat_exact)) 131 132 0
unfolding called
at_repeat_exact_plain = at_point called 96 refl refl

at_repeat_min_plain : IsPoint called (Run NonAtomicMode (body_of rule.repeat_min)) 133 134 0
unfolding called
at_repeat_min_plain = at_point called 97 refl refl

at_repeat_max_plain : IsPoint called (Run NonAtomicMode (body_of rule.repeat_max)) 135 136 0
unfolding called
at_repeat_max_plain = at_point called 98 refl refl

at_repeat_min_max_plain : IsPoint called (Run NonAtomicMode (body_of rule.repeat_min_max)) 137 138 0
unfolding called
at_repeat_min_max_plain = at_point called 99 refl refl

at_number_atomic : IsPoint called (Run AtomicMode (body_of rule.number)) 139 140 0
unfolding called
at_number_atomic = at_point called 100 refl refl

at_integer_atomic : IsPoint called (Run AtomicMode (body_of rule.integer)) 141 142 0
unfolding called
at_integer_atomic = at_point called 101 refl refl

at_comma_plain : IsPoint called (Run NonAtomicMode (body_of rule.comma)) 143 144 0
unfolding called
at_comma_plain = at_point called 102 refl refl

at_push__plain : IsPoint called (Run NonAtomicMode (body_of rule._push)) 145 146 0
unfolding called
at_push__plain = at_point called 103 refl refl

at_push_literal__plain : IsPoint called (Run NonAtomicMode (body_of rule._push_literal)) 147 148 0
unfolding called
at_push_literal__plain = at_point called 104 refl refl

at_peek_slice_plain : IsPoint called (Run NonAtomicMode (body_of rule.peek_slice)) 149 150 0
unfolding called
at_peek_slice_plain = at_point called 105 refl refl

at_identifier_atomic : IsPoint called (Run AtomicMode (body_of rule.identifier)) 151 152 0
unfolding called
at_identifier_atomic = at_point called 106 refl refl

at_alpha_plain_apart : IsPoint called (Run NonAtomicMode (body_of rule.alpha)) 153 154 0
unfolding called
at_alpha_plain_apart = at_point called 107 refl refl

at_alpha_num_plain_apart : IsPoint called (Run NonAtomicMode (body_of rule.alpha_num)) 155 156 0
unfolding called
at_alpha_num_plain_apart = at_point called 108 refl refl

at_string_compound : IsPoint called (Run CompoundAtomicMode (body_of rule.string)) 157 158 0
unfolding called
at_string_compound = at_point called 109 refl refl

at_insensitive_string_plain : IsPoint called (Run NonAtomicMode (body_of rule.insensitive_string)) 159 160 0
unfolding called
at_insensitive_string_plain = at_point called 110 refl refl

at_range_plain : IsPoint called (Run NonAtomicMode (body_of rule.range)) 161 162 0
unfolding called
at_range_plain = at_point called 111 refl refl

at_character_compound : IsPoint called (Run CompoundAtomicMode (body_of rule.character)) 163 164 0
unfolding called
at_character_compound = at_point called 112 refl refl

at_inner_str_atomic : IsPoint called (Run AtomicMode (body_of rule.inner_str)) 165 166 0
unfolding called
at_inner_str_atomic = at_point called 113 refl refl

at_inner_chr_atomic : IsPoint called (Run AtomicMode (body_of rule.inner_chr)) 167 168 0
unfolding called
at_inner_chr_atomic = at_point called 114 refl refl

at_escape_atomic : IsPoint called (Run AtomicMode (body_of rule.escape)) 169 170 0
unfolding called
at_escape_atomic = at_point called 115 refl refl

at_code_atomic : IsPoint called (Run AtomicMode (body_of rule.code)) 171 172 0
unfolding called
at_code_atomic = at_point called 116 refl refl

at_unicode_atomic : IsPoint called (Run AtomicMode (body_of rule.unicode)) 173 174 0
unfolding called
at_unicode_atomic = at_point called 117 refl refl

at_hex_digit_atomic : IsPoint called (Run AtomicMode (body_of rule.hex_digit)) 175 176 0
unfolding called
at_hex_digit_atomic = at_point called 118 refl refl

at_quote_plain : IsPoint called (Run NonAtomicMode (body_of rule.quote)) 177 178 0
unfolding called
at_quote_plain = at_point called 119 refl refl

at_single_quote_plain : IsPoint called (Run NonAtomicMode (body_of rule.single_quote)) 179 180 0
unfolding called
at_single_quote_plain = at_point called 120 refl refl

at_range_operator_plain : IsPoint called (Run NonAtomicMode (body_of rule.range_operator)) 181 182 0
unfolding called
at_range_operator_plain = at_point called 121 refl refl

at_newline_plain_apart : IsPoint called (Run NonAtomicMode (body_of rule.newline)) 183 184 0
unfolding called
at_newline_plain_apart = at_point called 122 refl refl

at_WHITESPACE_atomic_apart : IsPoint called (Run AtomicMode (body_of rule.WHITESPACE)) 185 186 0
unfolding called
at_WHITESPACE_atomic_apart = at_point called 123 refl refl

at_line_comment_plain_apart : IsPoint called (Run NonAtomicMode (body_of rule.line_comment)) 187 188 0
unfolding called
at_line_comment_plain_apart = at_point called 124 refl refl

at_block_comment_plain_apart : IsPoint called (Run NonAtomicMode (body_of rule.block_comment)) 189 190 0
unfolding called
at_block_comment_plain_apart = at_point called 125 refl refl

at_COMMENT_atomic_apart : IsPoint called (Run AtomicMode (body_of rule.COMMENT)) 191 192 0
unfolding called
at_COMMENT_atomic_apart = at_point called 126 refl refl

at_space_plain_apart : IsPoint called (Run NonAtomicMode (body_of rule.space)) 193 194 0
unfolding called
at_space_plain_apart = at_point called 127 refl refl

at_grammar_doc_compound : IsPoint called (Run CompoundAtomicMode (body_of rule.grammar_doc)) 195 196 0
unfolding called
at_grammar_doc_compound = at_point called 128 refl refl

at_line_doc_compound : IsPoint called (Run CompoundAtomicMode (body_of rule.line_doc)) 197 198 0
unfolding called
at_line_doc_compound = at_point called 129 refl refl

at_inner_doc_atomic : IsPoint called (Run AtomicMode (body_of rule.inner_doc)) 199 200 0
unfolding called
at_inner_doc_atomic = at_point called 130 refl refl

at_skipping : IsPoint called (Run Between skipped) 207 208 0
unfolding called
at_skipping = at_point called 131 refl refl

at_number_atomic_apart : IsPoint called (Run AtomicMode (body_of rule.number)) 344 345 0
unfolding called
at_number_atomic_apart = at_point called 132 refl refl

at_quote_compound : IsPoint called (Run CompoundAtomicMode (body_of rule.quote)) 377 378 0
unfolding called
at_quote_compound = at_point called 133 refl refl

at_single_quote_compound : IsPoint called (Run CompoundAtomicMode (body_of rule.single_quote)) 387 388 0
unfolding called
at_single_quote_compound = at_point called 134 refl refl

at_escape_atomic_apart : IsPoint called (Run AtomicMode (body_of rule.escape)) 393 394 0
unfolding called
at_escape_atomic_apart = at_point called 135 refl refl

at_inner_str_atomic_apart : IsPoint called (Run AtomicMode (body_of rule.inner_str)) 395 396 0
unfolding called
at_inner_str_atomic_apart = at_point called 136 refl refl

at_code_atomic_apart : IsPoint called (Run AtomicMode (body_of rule.code)) 401 402 0
unfolding called
at_code_atomic_apart = at_point called 137 refl refl

at_unicode_atomic_apart : IsPoint called (Run AtomicMode (body_of rule.unicode)) 403 404 0
unfolding called
at_unicode_atomic_apart = at_point called 138 refl refl

module _ (classes : Classes) (code : CodeLists) (is : IsExactCode code) where
  abbrev s : Setting
  s = record {
    exact = true;
    ops = exact_ops;
    texts = texts;
    sets = exact_sets;
    called = called;
    classes = classes;
    code = code;
    has = is;
    fail = refl;
  }

  call_of_EOI : Laid s (Run NonAtomicMode (Ident (name_of rule.EOI))) 3 1 2
  unfolding whitespace comment
  call_of_EOI = end s 69 70 tt refl refl refl refl

  call_of_grammar_rules : Laid s (Run NonAtomicMode (Ident (name_of rule.grammar_rules))) 4 1 2
  unfolding whitespace comment
  call_of_grammar_rules = enters s rule.grammar_rules 71 72 at_grammar_rules_plain_apart refl refl refl refl refl

  call_of_grammar_rule : Laid s (Run NonAtomicMode (Ident (name_of rule.grammar_rule))) 5 1 2
  unfolding whitespace comment
  call_of_grammar_rule = calls s rule.grammar_rule 73 74 at_grammar_rule_plain refl refl refl refl refl

  call_of_assignment_operator : Laid s (Run NonAtomicMode (Ident (name_of rule.assignment_operator))) 6 1 2
  unfolding whitespace comment
  call_of_assignment_operator = calls s rule.assignment_operator 75 76 at_assignment_operator_plain refl refl refl refl refl

  call_of_opening_brace : Laid s (Run NonAtomicMode (Ident (name_of rule.opening_brace))) 7 1 2
  unfolding whitespace comment
  call_of_opening_brace = calls s rule.opening_brace 77 78 at_opening_brace_plain refl refl refl refl refl

  call_of_closing_brace : Laid s (Run NonAtomicMode (Ident (name_of rule.closing_brace))) 8 1 2
  unfolding whitespace comment
  call_of_closing_brace = calls s rule.closing_brace 79 80 at_closing_brace_plain refl refl refl refl refl

  call_of_opening_paren : Laid s (Run NonAtomicMode (Ident (name_of rule.opening_paren))) 9 1 2
  unfolding whitespace comment
  call_of_opening_paren = calls s rule.opening_paren 81 82 at_opening_paren_plain refl refl refl refl refl

  call_of_closing_paren : Laid s (Run NonAtomicMode (Ident (name_of rule.closing_paren))) 10 1 2
  unfolding whitespace comment
  call_of_closing_paren = calls s rule.closing_paren 83 84 at_closing_paren_plain refl refl refl refl refl

  call_of_opening_brack : Laid s (Run NonAtomicMode (Ident (name_of rule.opening_brack))) 11 1 2
  unfolding whitespace comment
  call_of_opening_brack = calls s rule.opening_brack 85 86 at_opening_brack_plain refl refl refl refl refl

  call_of_closing_brack : Laid s (Run NonAtomicMode (Ident (name_of rule.closing_brack))) 12 1 2
  unfolding whitespace comment
  call_of_closing_brack = calls s rule.closing_brack 87 88 at_closing_brack_plain refl refl refl refl refl

  call_of_modifier : Laid s (Run NonAtomicMode (Ident (name_of rule.modifier))) 13 1 2
  unfolding whitespace comment
  call_of_modifier = enters s rule.modifier 89 90 at_modifier_plain_apart refl refl refl refl refl

  call_of_silent_modifier : Laid s (Run NonAtomicMode (Ident (name_of rule.silent_modifier))) 14 1 2
  unfolding whitespace comment
  call_of_silent_modifier = calls s rule.silent_modifier 91 92 at_silent_modifier_plain refl refl refl refl refl

  call_of_atomic_modifier : Laid s (Run NonAtomicMode (Ident (name_of rule.atomic_modifier))) 15 1 2
  unfolding whitespace comment
  call_of_atomic_modifier = calls s rule.atomic_modifier 93 94 at_atomic_modifier_plain refl refl refl refl refl

  call_of_compound_atomic_modifier : Laid s (Run NonAtomicMode (Ident (name_of rule.compound_atomic_modifier))) 16 1 2
  unfolding whitespace comment
  call_of_compound_atomic_modifier = calls s rule.compound_atomic_modifier 95 96 at_compound_atomic_modifier_plain refl refl refl refl refl

  call_of_non_atomic_modifier : Laid s (Run NonAtomicMode (Ident (name_of rule.non_atomic_modifier))) 17 1 2
  unfolding whitespace comment
  call_of_non_atomic_modifier = calls s rule.non_atomic_modifier 97 98 at_non_atomic_modifier_plain refl refl refl refl refl

  call_of_tag_id : Laid s (Run NonAtomicMode (Ident (name_of rule.tag_id))) 18 1 2
  unfolding whitespace comment
  call_of_tag_id = calls s rule.tag_id 99 100 at_tag_id_atomic refl refl refl refl refl

  call_of_node_tag : Laid s (Run NonAtomicMode (Ident (name_of rule.node_tag))) 19 1 2
  unfolding whitespace comment
  call_of_node_tag = enters s rule.node_tag 101 102 at_node_tag_plain_apart refl refl refl refl refl

  call_of_expression : Laid s (Run NonAtomicMode (Ident (name_of rule.expression))) 20 1 2
  unfolding whitespace comment
  call_of_expression = calls s rule.expression 103 104 at_expression_plain refl refl refl refl refl

  call_of_term : Laid s (Run NonAtomicMode (Ident (name_of rule.term))) 21 1 2
  unfolding whitespace comment
  call_of_term = calls s rule.term 105 106 at_term_plain refl refl refl refl refl

  call_of_node : Laid s (Run NonAtomicMode (Ident (name_of rule.node))) 22 1 2
  unfolding whitespace comment
  call_of_node = enters s rule.node 107 108 at_node_plain_apart refl refl refl refl refl

  call_of_terminal : Laid s (Run NonAtomicMode (Ident (name_of rule.terminal))) 23 1 2
  unfolding whitespace comment
  call_of_terminal = enters s rule.terminal 109 110 at_terminal_plain_apart refl refl refl refl refl

  call_of_prefix_operator : Laid s (Run NonAtomicMode (Ident (name_of rule.prefix_operator))) 24 1 2
  unfolding whitespace comment
  call_of_prefix_operator = enters s rule.prefix_operator 111 112 at_prefix_operator_plain_apart refl refl refl refl refl

  call_of_infix_operator : Laid s (Run NonAtomicMode (Ident (name_of rule.infix_operator))) 25 1 2
  unfolding whitespace comment
  call_of_infix_operator = enters s rule.infix_operator 113 114 at_infix_operator_plain_apart refl refl refl refl refl

  call_of_postfix_operator : Laid s (Run NonAtomicMode (Ident (name_of rule.postfix_operator))) 26 1 2
  unfolding whitespace comment
  call_of_postfix_operator = enters s rule.postfix_operator 115 116 at_postfix_operator_plain_apart refl refl refl refl refl

  call_of_positive_predicate_operator : Laid s (Run NonAtomicMode (Ident (name_of rule.positive_predicate_operator))) 27 1 2
  unfolding whitespace comment
  call_of_positive_predicate_operator = calls s rule.positive_predicate_operator 117 118 at_positive_predicate_operator_plain refl refl refl refl refl

  call_of_negative_predicate_operator : Laid s (Run NonAtomicMode (Ident (name_of rule.negative_predicate_operator))) 28 1 2
  unfolding whitespace comment
  call_of_negative_predicate_operator = calls s rule.negative_predicate_operator 119 120 at_negative_predicate_operator_plain refl refl refl refl refl

  call_of_sequence_operator : Laid s (Run NonAtomicMode (Ident (name_of rule.sequence_operator))) 29 1 2
  unfolding whitespace comment
  call_of_sequence_operator = calls s rule.sequence_operator 121 122 at_sequence_operator_plain refl refl refl refl refl

  call_of_choice_operator : Laid s (Run NonAtomicMode (Ident (name_of rule.choice_operator))) 30 1 2
  unfolding whitespace comment
  call_of_choice_operator = calls s rule.choice_operator 123 124 at_choice_operator_plain refl refl refl refl refl

  call_of_optional_operator : Laid s (Run NonAtomicMode (Ident (name_of rule.optional_operator))) 31 1 2
  unfolding whitespace comment
  call_of_optional_operator = calls s rule.optional_operator 125 126 at_optional_operator_plain refl refl refl refl refl

  call_of_repeat_operator : Laid s (Run NonAtomicMode (Ident (name_of rule.repeat_operator))) 32 1 2
  unfolding whitespace comment
  call_of_repeat_operator = calls s rule.repeat_operator 127 128 at_repeat_operator_plain refl refl refl refl refl

  call_of_repeat_once_operator : Laid s (Run NonAtomicMode (Ident (name_of rule.repeat_once_operator))) 33 1 2
  unfolding whitespace comment
  call_of_repeat_once_operator = calls s rule.repeat_once_operator 129 130 at_repeat_once_operator_plain refl refl refl refl refl

  call_of_repeat_exact : Laid s (Run NonAtomicMode (Ident (name_of rule.repeat_exact))) 34 1 2
  unfolding whitespace comment
  call_of_repeat_exact = calls s rule.repeat_exact 131 132 at_repeat_exact_plain refl refl refl refl refl

  call_of_repeat_min : Laid s (Run NonAtomicMode (Ident (name_of rule.repeat_min))) 35 1 2
  unfolding whitespace comment
  call_of_repeat_min = calls s rule.repeat_min 133 134 at_repeat_min_plain refl refl refl refl refl

  call_of_repeat_max : Laid s (Run NonAtomicMode (Ident (name_of rule.repeat_max))) 36 1 2
  unfolding whitespace comment
  call_of_repeat_max = calls s rule.repeat_max 135 136 at_repeat_max_plain refl refl refl refl refl

  call_of_repeat_min_max : Laid s (Run NonAtomicMode (Ident (name_of rule.repeat_min_max))) 37 1 2
  unfolding whitespace comment
  call_of_repeat_min_max = calls s rule.repeat_min_max 137 138 at_repeat_min_max_plain refl refl refl refl refl

  call_of_number : Laid s (Run NonAtomicMode (Ident (name_of rule.number))) 38 1 2
  unfolding whitespace comment
  call_of_number = calls s rule.number 139 140 at_number_atomic refl refl refl refl refl

  call_of_integer : Laid s (Run NonAtomicMode (Ident (name_of rule.integer))) 39 1 2
  unfolding whitespace comment
  call_of_integer = calls s rule.integer 141 142 at_integer_atomic refl refl refl refl refl

  call_of_comma : Laid s (Run NonAtomicMode (Ident (name_of rule.comma))) 40 1 2
  unfolding whitespace comment
  call_of_comma = calls s rule.comma 143 144 at_comma_plain refl refl refl refl refl

  call_of_push_ : Laid s (Run NonAtomicMode (Ident (name_of rule._push))) 41 1 2
  unfolding whitespace comment
  call_of_push_ = calls s rule._push 145 146 at_push__plain refl refl refl refl refl

  call_of_push_literal_ : Laid s (Run NonAtomicMode (Ident (name_of rule._push_literal))) 42 1 2
  unfolding whitespace comment
  call_of_push_literal_ = calls s rule._push_literal 147 148 at_push_literal__plain refl refl refl refl refl

  call_of_peek_slice : Laid s (Run NonAtomicMode (Ident (name_of rule.peek_slice))) 43 1 2
  unfolding whitespace comment
  call_of_peek_slice = calls s rule.peek_slice 149 150 at_peek_slice_plain refl refl refl refl refl

  call_of_identifier : Laid s (Run NonAtomicMode (Ident (name_of rule.identifier))) 44 1 2
  unfolding whitespace comment
  call_of_identifier = calls s rule.identifier 151 152 at_identifier_atomic refl refl refl refl refl

  call_of_alpha : Laid s (Run NonAtomicMode (Ident (name_of rule.alpha))) 45 1 2
  unfolding whitespace comment
  call_of_alpha = enters s rule.alpha 153 154 at_alpha_plain_apart refl refl refl refl refl

  call_of_alpha_num : Laid s (Run NonAtomicMode (Ident (name_of rule.alpha_num))) 46 1 2
  unfolding whitespace comment
  call_of_alpha_num = enters s rule.alpha_num 155 156 at_alpha_num_plain_apart refl refl refl refl refl

  call_of_string : Laid s (Run NonAtomicMode (Ident (name_of rule.string))) 47 1 2
  unfolding whitespace comment
  call_of_string = calls s rule.string 157 158 at_string_compound refl refl refl refl refl

  call_of_insensitive_string : Laid s (Run NonAtomicMode (Ident (name_of rule.insensitive_string))) 48 1 2
  unfolding whitespace comment
  call_of_insensitive_string = calls s rule.insensitive_string 159 160 at_insensitive_string_plain refl refl refl refl refl

  call_of_range : Laid s (Run NonAtomicMode (Ident (name_of rule.range))) 49 1 2
  unfolding whitespace comment
  call_of_range = calls s rule.range 161 162 at_range_plain refl refl refl refl refl

  call_of_character : Laid s (Run NonAtomicMode (Ident (name_of rule.character))) 50 1 2
  unfolding whitespace comment
  call_of_character = calls s rule.character 163 164 at_character_compound refl refl refl refl refl

  call_of_inner_str : Laid s (Run NonAtomicMode (Ident (name_of rule.inner_str))) 51 1 2
  unfolding whitespace comment
  call_of_inner_str = calls s rule.inner_str 165 166 at_inner_str_atomic refl refl refl refl refl

  call_of_inner_chr : Laid s (Run NonAtomicMode (Ident (name_of rule.inner_chr))) 52 1 2
  unfolding whitespace comment
  call_of_inner_chr = calls s rule.inner_chr 167 168 at_inner_chr_atomic refl refl refl refl refl

  call_of_escape : Laid s (Run NonAtomicMode (Ident (name_of rule.escape))) 53 1 2
  unfolding whitespace comment
  call_of_escape = calls s rule.escape 169 170 at_escape_atomic refl refl refl refl refl

  call_of_code : Laid s (Run NonAtomicMode (Ident (name_of rule.code))) 54 1 2
  unfolding whitespace comment
  call_of_code = calls s rule.code 171 172 at_code_atomic refl refl refl refl refl

  call_of_unicode : Laid s (Run NonAtomicMode (Ident (name_of rule.unicode))) 55 1 2
  unfolding whitespace comment
  call_of_unicode = calls s rule.unicode 173 174 at_unicode_atomic refl refl refl refl refl

  call_of_hex_digit : Laid s (Run NonAtomicMode (Ident (name_of rule.hex_digit))) 56 1 2
  unfolding whitespace comment
  call_of_hex_digit = calls s rule.hex_digit 175 176 at_hex_digit_atomic refl refl refl refl refl

  call_of_quote : Laid s (Run NonAtomicMode (Ident (name_of rule.quote))) 57 1 2
  unfolding whitespace comment
  call_of_quote = calls s rule.quote 177 178 at_quote_plain refl refl refl refl refl

  call_of_single_quote : Laid s (Run NonAtomicMode (Ident (name_of rule.single_quote))) 58 1 2
  unfolding whitespace comment
  call_of_single_quote = calls s rule.single_quote 179 180 at_single_quote_plain refl refl refl refl refl

  call_of_range_operator : Laid s (Run NonAtomicMode (Ident (name_of rule.range_operator))) 59 1 2
  unfolding whitespace comment
  call_of_range_operator = calls s rule.range_operator 181 182 at_range_operator_plain refl refl refl refl refl

  call_of_newline : Laid s (Run NonAtomicMode (Ident (name_of rule.newline))) 60 1 2
  unfolding whitespace comment
  call_of_newline = enters s rule.newline 183 184 at_newline_plain_apart refl refl refl refl refl

  call_of_WHITESPACE : Laid s (Run NonAtomicMode (Ident (name_of rule.WHITESPACE))) 61 1 2
  unfolding whitespace comment
  call_of_WHITESPACE = enters s rule.WHITESPACE 185 186 at_WHITESPACE_atomic_apart refl refl refl refl refl

  call_of_line_comment : Laid s (Run NonAtomicMode (Ident (name_of rule.line_comment))) 62 1 2
  unfolding whitespace comment
  call_of_line_comment = enters s rule.line_comment 187 188 at_line_comment_plain_apart refl refl refl refl refl

  call_of_block_comment : Laid s (Run NonAtomicMode (Ident (name_of rule.block_comment))) 63 1 2
  unfolding whitespace comment
  call_of_block_comment = enters s rule.block_comment 189 190 at_block_comment_plain_apart refl refl refl refl refl

  call_of_COMMENT : Laid s (Run NonAtomicMode (Ident (name_of rule.COMMENT))) 64 1 2
  unfolding whitespace comment
  call_of_COMMENT = enters s rule.COMMENT 191 192 at_COMMENT_atomic_apart refl refl refl refl refl

  call_of_space : Laid s (Run NonAtomicMode (Ident (name_of rule.space))) 65 1 2
  unfolding whitespace comment
  call_of_space = enters s rule.space 193 194 at_space_plain_apart refl refl refl refl refl

  call_of_grammar_doc : Laid s (Run NonAtomicMode (Ident (name_of rule.grammar_doc))) 66 1 2
  unfolding whitespace comment
  call_of_grammar_doc = calls s rule.grammar_doc 195 196 at_grammar_doc_compound refl refl refl refl refl

  call_of_line_doc : Laid s (Run NonAtomicMode (Ident (name_of rule.line_doc))) 67 1 2
  unfolding whitespace comment
  call_of_line_doc = calls s rule.line_doc 197 198 at_line_doc_compound refl refl refl refl refl

  call_of_inner_doc : Laid s (Run NonAtomicMode (Ident (name_of rule.inner_doc))) 68 1 2
  unfolding whitespace comment
  call_of_inner_doc = calls s rule.inner_doc 199 200 at_inner_doc_atomic refl refl refl refl refl

  grammar_rules_plain_apart : Laid s (Run NonAtomicMode (body_of rule.grammar_rules)) 71 72 0
  unfolding whitespace comment
  grammar_rules_plain_apart = seq 201 202 (seq 203 204 (seq 205 206 (start s tt refl) (trivia s 207 208 at_skipping refl refl) (turns s 206 209 210 211 212 refl (at_once s) refl refl (trivia s 207 208 at_skipping refl refl) (calls s rule.grammar_doc 195 196 at_grammar_doc_compound refl refl refl refl refl) refl)) (trivia s 207 208 at_skipping refl refl) (turns s 204 213 214 215 216 refl (at_once s) refl refl (trivia s 207 208 at_skipping refl refl) (calls s rule.grammar_rule 73 74 at_grammar_rule_plain refl refl refl refl refl) refl)) (trivia s 207 208 at_skipping refl refl) (end s 217 218 tt refl refl refl refl)

  grammar_rule_plain : Laid s (Run NonAtomicMode (body_of rule.grammar_rule)) 73 74 0
  unfolding whitespace comment
  grammar_rule_plain = either s 219 73 219 refl (at_once s) (tries s 220 222 223 221 refl (seq 224 225 (seq 226 227 (seq 228 229 (seq 230 231 (calls s rule.identifier 151 152 at_identifier_atomic refl refl refl refl refl) (trivia s 207 208 at_skipping refl refl) (calls s rule.assignment_operator 75 76 at_assignment_operator_plain refl refl refl refl refl)) (trivia s 207 208 at_skipping refl refl) (maybe s 229 refl (at_once s) (within s rule.modifier refl refl refl (either s 232 229 232 refl (at_once s) (either s 233 229 233 refl (at_once s) (either s 234 229 234 refl (at_once s) (calls s rule.silent_modifier 91 92 at_silent_modifier_plain refl refl refl refl refl) (at_once s) (calls s rule.atomic_modifier 93 94 at_atomic_modifier_plain refl refl refl refl refl)) (at_once s) (calls s rule.compound_atomic_modifier 95 96 at_compound_atomic_modifier_plain refl refl refl refl refl)) (at_once s) (calls s rule.non_atomic_modifier 97 98 at_non_atomic_modifier_plain refl refl refl refl refl))))) (trivia s 207 208 at_skipping refl refl) (calls s rule.opening_brace 77 78 at_opening_brace_plain refl refl refl refl refl)) (trivia s 207 208 at_skipping refl refl) (calls s rule.expression 103 104 at_expression_plain refl refl refl refl refl)) (trivia s 207 208 at_skipping refl refl) (calls s rule.closing_brace 79 80 at_closing_brace_plain refl refl refl refl refl) refl) (at_once s) (calls s rule.line_doc 197 198 at_line_doc_compound refl refl refl refl refl)

  assignment_operator_plain : Laid s (Run NonAtomicMode (body_of rule.assignment_operator)) 75 76 0
  unfolding whitespace comment
  assignment_operator_plain = word s 0 refl refl refl

  opening_brace_plain : Laid s (Run NonAtomicMode (body_of rule.opening_brace)) 77 78 0
  unfolding whitespace comment
  opening_brace_plain = word s 1 refl refl refl

  closing_brace_plain : Laid s (Run NonAtomicMode (body_of rule.closing_brace)) 79 80 0
  unfolding whitespace comment
  closing_brace_plain = word s 2 refl refl refl

  opening_paren_plain : Laid s (Run NonAtomicMode (body_of rule.opening_paren)) 81 82 0
  unfolding whitespace comment
  opening_paren_plain = word s 3 refl refl refl

  closing_paren_plain : Laid s (Run NonAtomicMode (body_of rule.closing_paren)) 83 84 0
  unfolding whitespace comment
  closing_paren_plain = word s 4 refl refl refl

  opening_brack_plain : Laid s (Run NonAtomicMode (body_of rule.opening_brack)) 85 86 0
  unfolding whitespace comment
  opening_brack_plain = word s 5 refl refl refl

  closing_brack_plain : Laid s (Run NonAtomicMode (body_of rule.closing_brack)) 87 88 0
  unfolding whitespace comment
  closing_brack_plain = word s 6 refl refl refl

  modifier_plain_apart : Laid s (Run NonAtomicMode (body_of rule.modifier)) 89 90 0
  unfolding whitespace comment
  modifier_plain_apart = either s 235 89 235 refl (at_once s) (either s 236 89 236 refl (at_once s) (either s 237 89 237 refl (at_once s) (calls s rule.silent_modifier 91 92 at_silent_modifier_plain refl refl refl refl refl) (at_once s) (calls s rule.atomic_modifier 93 94 at_atomic_modifier_plain refl refl refl refl refl)) (at_once s) (calls s rule.compound_atomic_modifier 95 96 at_compound_atomic_modifier_plain refl refl refl refl refl)) (at_once s) (calls s rule.non_atomic_modifier 97 98 at_non_atomic_modifier_plain refl refl refl refl refl)

  silent_modifier_plain : Laid s (Run NonAtomicMode (body_of rule.silent_modifier)) 91 92 0
  unfolding whitespace comment
  silent_modifier_plain = word s 7 refl refl refl

  atomic_modifier_plain : Laid s (Run NonAtomicMode (body_of rule.atomic_modifier)) 93 94 0
  unfolding whitespace comment
  atomic_modifier_plain = word s 8 refl refl refl

  compound_atomic_modifier_plain : Laid s (Run NonAtomicMode (body_of rule.compound_atomic_modifier)) 95 96 0
  unfolding whitespace comment
  compound_atomic_modifier_plain = word s 9 refl refl refl

  non_atomic_modifier_plain : Laid s (Run NonAtomicMode (body_of rule.non_atomic_modifier)) 97 98 0
  unfolding whitespace comment
  non_atomic_modifier_plain = word s 10 refl refl refl

  tag_id_atomic : Laid s (Run AtomicMode (body_of rule.tag_id)) 99 100 0
  unfolding whitespace comment
  tag_id_atomic = seq 238 238 (seq 239 239 (word s 11 refl refl refl) (atomic s) (one_of s 0 (one_of_two s.classes (one_text s.classes 95) (one_called s.classes rule.alpha refl refl refl (one_of_two s.classes (one_range s.classes 97 122) (one_range s.classes 65 90)))) refl refl refl)) (atomic s) (all_of s 1 (one_of_two s.classes (one_text s.classes 95) (one_called s.classes rule.alpha_num refl refl refl (one_of_two s.classes (one_called s.classes rule.alpha refl refl refl (one_of_two s.classes (one_range s.classes 97 122) (one_range s.classes 65 90))) (one_range s.classes 48 57)))) (tight_atomic s) refl refl refl)

  node_tag_plain_apart : Laid s (Run NonAtomicMode (body_of rule.node_tag)) 101 102 0
  unfolding whitespace comment
  node_tag_plain_apart = seq 240 241 (calls s rule.tag_id 99 100 at_tag_id_atomic refl refl refl refl refl) (trivia s 207 208 at_skipping refl refl) (calls s rule.assignment_operator 75 76 at_assignment_operator_plain refl refl refl refl refl)

  expression_plain : Laid s (Run NonAtomicMode (body_of rule.expression)) 103 104 0
  unfolding whitespace comment
  expression_plain = seq 242 243 (seq 244 245 (maybe s 103 refl (at_once s) (calls s rule.choice_operator 123 124 at_choice_operator_plain refl refl refl refl refl)) (trivia s 207 208 at_skipping refl refl) (calls s rule.term 105 106 at_term_plain refl refl refl refl refl)) (trivia s 207 208 at_skipping refl refl) (turns s 243 246 247 248 249 refl (at_once s) refl refl (trivia s 207 208 at_skipping refl refl) (seq 250 251 (within s rule.infix_operator refl refl refl (either s 252 248 252 refl (at_once s) (calls s rule.sequence_operator 121 122 at_sequence_operator_plain refl refl refl refl refl) (at_once s) (calls s rule.choice_operator 123 124 at_choice_operator_plain refl refl refl refl refl))) (trivia s 207 208 at_skipping refl refl) (calls s rule.term 105 106 at_term_plain refl refl refl refl refl)) refl)

  term_plain : Laid s (Run NonAtomicMode (body_of rule.term)) 105 106 0
  unfolding whitespace comment
  term_plain = seq 253 254 (seq 255 256 (seq 257 258 (maybe s 105 refl (at_once s) (within s rule.node_tag refl refl refl (tries s 259 261 262 260 refl (calls s rule.tag_id 99 100 at_tag_id_atomic refl refl refl refl refl) (trivia s 207 208 at_skipping refl refl) (calls s rule.assignment_operator 75 76 at_assignment_operator_plain refl refl refl refl refl) refl))) (trivia s 207 208 at_skipping refl refl) (turns s 258 263 264 265 266 refl (at_once s) refl refl (trivia s 207 208 at_skipping refl refl) (within s rule.prefix_operator refl refl refl (either s 267 265 267 refl (at_once s) (calls s rule.positive_predicate_operator 117 118 at_positive_predicate_operator_plain refl refl refl refl refl) (at_once s) (calls s rule.negative_predicate_operator 119 120 at_negative_predicate_operator_plain refl refl refl refl refl))) refl)) (trivia s 207 208 at_skipping refl refl) (within s rule.node refl refl refl (either s 268 256 268 refl (at_once s) (tries s 269 271 272 270 refl (seq 273 274 (calls s rule.opening_paren 81 82 at_opening_paren_plain refl refl refl refl refl) (trivia s 207 208 at_skipping refl refl) (calls s rule.expression 103 104 at_expression_plain refl refl refl refl refl)) (trivia s 207 208 at_skipping refl refl) (calls s rule.closing_paren 83 84 at_closing_paren_plain refl refl refl refl refl) refl) (at_once s) (within s rule.terminal refl refl refl (either s 275 268 275 refl (at_once s) (either s 276 268 276 refl (at_once s) (either s 277 268 277 refl (at_once s) (either s 278 268 278 refl (at_once s) (either s 279 268 279 refl (at_once s) (either s 280 268 280 refl (at_once s) (calls s rule._push_literal 147 148 at_push_literal__plain refl refl refl refl refl) (at_once s) (calls s rule._push 145 146 at_push__plain refl refl refl refl refl)) (at_once s) (calls s rule.peek_slice 149 150 at_peek_slice_plain refl refl refl refl refl)) (at_once s) (calls s rule.identifier 151 152 at_identifier_atomic refl refl refl refl refl)) (at_once s) (calls s rule.string 157 158 at_string_compound refl refl refl refl refl)) (at_once s) (calls s rule.insensitive_string 159 160 at_insensitive_string_plain refl refl refl refl refl)) (at_once s) (calls s rule.range 161 162 at_range_plain refl refl refl refl refl)))))) (trivia s 207 208 at_skipping refl refl) (turns s 254 281 282 283 284 refl (at_once s) refl refl (trivia s 207 208 at_skipping refl refl) (within s rule.postfix_operator refl refl refl (either s 285 283 285 refl (at_once s) (either s 286 283 286 refl (at_once s) (either s 287 283 287 refl (at_once s) (either s 288 283 288 refl (at_once s) (either s 289 283 289 refl (at_once s) (either s 290 283 290 refl (at_once s) (calls s rule.optional_operator 125 126 at_optional_operator_plain refl refl refl refl refl) (at_once s) (calls s rule.repeat_operator 127 128 at_repeat_operator_plain refl refl refl refl refl)) (at_once s) (calls s rule.repeat_once_operator 129 130 at_repeat_once_operator_plain refl refl refl refl refl)) (at_once s) (calls s rule.repeat_exact 131 132 at_repeat_exact_plain refl refl refl refl refl)) (at_once s) (calls s rule.repeat_min 133 134 at_repeat_min_plain refl refl refl refl refl)) (at_once s) (calls s rule.repeat_max 135 136 at_repeat_max_plain refl refl refl refl refl)) (at_once s) (calls s rule.repeat_min_max 137 138 at_repeat_min_max_plain refl refl refl refl refl))) refl)

  node_plain_apart : Laid s (Run NonAtomicMode (body_of rule.node)) 107 108 0
  unfolding whitespace comment
  node_plain_apart = either s 291 107 291 refl (at_once s) (tries s 292 294 295 293 refl (seq 296 297 (calls s rule.opening_paren 81 82 at_opening_paren_plain refl refl refl refl refl) (trivia s 207 208 at_skipping refl refl) (calls s rule.expression 103 104 at_expression_plain refl refl refl refl refl)) (trivia s 207 208 at_skipping refl refl) (calls s rule.closing_paren 83 84 at_closing_paren_plain refl refl refl refl refl) refl) (at_once s) (within s rule.terminal refl refl refl (either s 298 291 298 refl (at_once s) (either s 299 291 299 refl (at_once s) (either s 300 291 300 refl (at_once s) (either s 301 291 301 refl (at_once s) (either s 302 291 302 refl (at_once s) (either s 303 291 303 refl (at_once s) (calls s rule._push_literal 147 148 at_push_literal__plain refl refl refl refl refl) (at_once s) (calls s rule._push 145 146 at_push__plain refl refl refl refl refl)) (at_once s) (calls s rule.peek_slice 149 150 at_peek_slice_plain refl refl refl refl refl)) (at_once s) (calls s rule.identifier 151 152 at_identifier_atomic refl refl refl refl refl)) (at_once s) (calls s rule.string 157 158 at_string_compound refl refl refl refl refl)) (at_once s) (calls s rule.insensitive_string 159 160 at_insensitive_string_plain refl refl refl refl refl)) (at_once s) (calls s rule.range 161 162 at_range_plain refl refl refl refl refl)))

  terminal_plain_apart : Laid s (Run NonAtomicMode (body_of rule.terminal)) 109 110 0
  unfolding whitespace comment
  terminal_plain_apart = either s 304 109 304 refl (at_once s) (either s 305 109 305 refl (at_once s) (either s 306 109 306 refl (at_once s) (either s 307 109 307 refl (at_once s) (either s 308 109 308 refl (at_once s) (either s 309 109 309 refl (at_once s) (calls s rule._push_literal 147 148 at_push_literal__plain refl refl refl refl refl) (at_once s) (calls s rule._push 145 146 at_push__plain refl refl refl refl refl)) (at_once s) (calls s rule.peek_slice 149 150 at_peek_slice_plain refl refl refl refl refl)) (at_once s) (calls s rule.identifier 151 152 at_identifier_atomic refl refl refl refl refl)) (at_once s) (calls s rule.string 157 158 at_string_compound refl refl refl refl refl)) (at_once s) (calls s rule.insensitive_string 159 160 at_insensitive_string_plain refl refl refl refl refl)) (at_once s) (calls s rule.range 161 162 at_range_plain refl refl refl refl refl)

  prefix_operator_plain_apart : Laid s (Run NonAtomicMode (body_of rule.prefix_operator)) 111 112 0
  unfolding whitespace comment
  prefix_operator_plain_apart = either s 310 111 310 refl (at_once s) (calls s rule.positive_predicate_operator 117 118 at_positive_predicate_operator_plain refl refl refl refl refl) (at_once s) (calls s rule.negative_predicate_operator 119 120 at_negative_predicate_operator_plain refl refl refl refl refl)

  infix_operator_plain_apart : Laid s (Run NonAtomicMode (body_of rule.infix_operator)) 113 114 0
  unfolding whitespace comment
  infix_operator_plain_apart = either s 311 113 311 refl (at_once s) (calls s rule.sequence_operator 121 122 at_sequence_operator_plain refl refl refl refl refl) (at_once s) (calls s rule.choice_operator 123 124 at_choice_operator_plain refl refl refl refl refl)

  postfix_operator_plain_apart : Laid s (Run NonAtomicMode (body_of rule.postfix_operator)) 115 116 0
  unfolding whitespace comment
  postfix_operator_plain_apart = either s 312 115 312 refl (at_once s) (either s 313 115 313 refl (at_once s) (either s 314 115 314 refl (at_once s) (either s 315 115 315 refl (at_once s) (either s 316 115 316 refl (at_once s) (either s 317 115 317 refl (at_once s) (calls s rule.optional_operator 125 126 at_optional_operator_plain refl refl refl refl refl) (at_once s) (calls s rule.repeat_operator 127 128 at_repeat_operator_plain refl refl refl refl refl)) (at_once s) (calls s rule.repeat_once_operator 129 130 at_repeat_once_operator_plain refl refl refl refl refl)) (at_once s) (calls s rule.repeat_exact 131 132 at_repeat_exact_plain refl refl refl refl refl)) (at_once s) (calls s rule.repeat_min 133 134 at_repeat_min_plain refl refl refl refl refl)) (at_once s) (calls s rule.repeat_max 135 136 at_repeat_max_plain refl refl refl refl refl)) (at_once s) (calls s rule.repeat_min_max 137 138 at_repeat_min_max_plain refl refl refl refl refl)

  positive_predicate_operator_plain : Laid s (Run NonAtomicMode (body_of rule.positive_predicate_operator)) 117 118 0
  unfolding whitespace comment
  positive_predicate_operator_plain = word s 12 refl refl refl

  negative_predicate_operator_plain : Laid s (Run NonAtomicMode (body_of rule.negative_predicate_operator)) 119 120 0
  unfolding whitespace comment
  negative_predicate_operator_plain = word s 10 refl refl refl

  sequence_operator_plain : Laid s (Run NonAtomicMode (body_of rule.sequence_operator)) 121 122 0
  unfolding whitespace comment
  sequence_operator_plain = word s 13 refl refl refl

  choice_operator_plain : Laid s (Run NonAtomicMode (body_of rule.choice_operator)) 123 124 0
  unfolding whitespace comment
  choice_operator_plain = word s 14 refl refl refl

  optional_operator_plain : Laid s (Run NonAtomicMode (body_of rule.optional_operator)) 125 126 0
  unfolding whitespace comment
  optional_operator_plain = word s 15 refl refl refl

  repeat_operator_plain : Laid s (Run NonAtomicMode (body_of rule.repeat_operator)) 127 128 0
  unfolding whitespace comment
  repeat_operator_plain = word s 16 refl refl refl

  repeat_once_operator_plain : Laid s (Run NonAtomicMode (body_of rule.repeat_once_operator)) 129 130 0
  unfolding whitespace comment
  repeat_once_operator_plain = word s 17 refl refl refl

  repeat_exact_plain : Laid s (Run NonAtomicMode (body_of rule.repeat_exact)) 131 132 0
  unfolding whitespace comment
  repeat_exact_plain = seq 318 319 (seq 320 321 (calls s rule.opening_brace 77 78 at_opening_brace_plain refl refl refl refl refl) (trivia s 207 208 at_skipping refl refl) (calls s rule.number 139 140 at_number_atomic refl refl refl refl refl)) (trivia s 207 208 at_skipping refl refl) (calls s rule.closing_brace 79 80 at_closing_brace_plain refl refl refl refl refl)

  repeat_min_plain : Laid s (Run NonAtomicMode (body_of rule.repeat_min)) 133 134 0
  unfolding whitespace comment
  repeat_min_plain = seq 322 323 (seq 324 325 (seq 326 327 (calls s rule.opening_brace 77 78 at_opening_brace_plain refl refl refl refl refl) (trivia s 207 208 at_skipping refl refl) (calls s rule.number 139 140 at_number_atomic refl refl refl refl refl)) (trivia s 207 208 at_skipping refl refl) (calls s rule.comma 143 144 at_comma_plain refl refl refl refl refl)) (trivia s 207 208 at_skipping refl refl) (calls s rule.closing_brace 79 80 at_closing_brace_plain refl refl refl refl refl)

  repeat_max_plain : Laid s (Run NonAtomicMode (body_of rule.repeat_max)) 135 136 0
  unfolding whitespace comment
  repeat_max_plain = seq 328 329 (seq 330 331 (seq 332 333 (calls s rule.opening_brace 77 78 at_opening_brace_plain refl refl refl refl refl) (trivia s 207 208 at_skipping refl refl) (calls s rule.comma 143 144 at_comma_plain refl refl refl refl refl)) (trivia s 207 208 at_skipping refl refl) (calls s rule.number 139 140 at_number_atomic refl refl refl refl refl)) (trivia s 207 208 at_skipping refl refl) (calls s rule.closing_brace 79 80 at_closing_brace_plain refl refl refl refl refl)

  repeat_min_max_plain : Laid s (Run NonAtomicMode (body_of rule.repeat_min_max)) 137 138 0
  unfolding whitespace comment
  repeat_min_max_plain = seq 334 335 (seq 336 337 (seq 338 339 (seq 340 341 (calls s rule.opening_brace 77 78 at_opening_brace_plain refl refl refl refl refl) (trivia s 207 208 at_skipping refl refl) (calls s rule.number 139 140 at_number_atomic refl refl refl refl refl)) (trivia s 207 208 at_skipping refl refl) (calls s rule.comma 143 144 at_comma_plain refl refl refl refl refl)) (trivia s 207 208 at_skipping refl refl) (calls s rule.number 139 140 at_number_atomic refl refl refl refl refl)) (trivia s 207 208 at_skipping refl refl) (calls s rule.closing_brace 79 80 at_closing_brace_plain refl refl refl refl refl)

  number_atomic : Laid s (Run AtomicMode (body_of rule.number)) 139 140 0
  unfolding whitespace comment
  number_atomic = rep_once (seq 342 342 (one_of s 2 (one_range s.classes 48 57) refl refl refl) (atomic s) (all_of s 2 (one_range s.classes 48 57) (tight_atomic s) refl refl refl))

  integer_atomic : Laid s (Run AtomicMode (body_of rule.integer)) 141 142 0
  unfolding whitespace comment
  integer_atomic = either s 343 141 343 refl (at_once s) (enters s rule.number 344 345 at_number_atomic_apart refl refl refl refl refl) (at_once s) (seq 346 346 (seq 347 347 (seq 348 348 (word s 18 refl refl refl) (atomic s) (all_of s 3 (one_text s.classes 48) (tight_atomic s) refl refl refl)) (atomic s) (one_of s 4 (one_range s.classes 49 57) refl refl refl)) (atomic s) (maybe s 346 refl (at_once s) (enters s rule.number 344 345 at_number_atomic_apart refl refl refl refl refl)))

  comma_plain : Laid s (Run NonAtomicMode (body_of rule.comma)) 143 144 0
  unfolding whitespace comment
  comma_plain = word s 19 refl refl refl

  push__plain : Laid s (Run NonAtomicMode (body_of rule._push)) 145 146 0
  unfolding whitespace comment
  push__plain = seq 349 350 (seq 351 352 (seq 353 354 (word s 20 refl refl refl) (trivia s 207 208 at_skipping refl refl) (calls s rule.opening_paren 81 82 at_opening_paren_plain refl refl refl refl refl)) (trivia s 207 208 at_skipping refl refl) (calls s rule.expression 103 104 at_expression_plain refl refl refl refl refl)) (trivia s 207 208 at_skipping refl refl) (calls s rule.closing_paren 83 84 at_closing_paren_plain refl refl refl refl refl)

  push_literal__plain : Laid s (Run NonAtomicMode (body_of rule._push_literal)) 147 148 0
  unfolding whitespace comment
  push_literal__plain = seq 355 356 (seq 357 358 (seq 359 360 (word s 21 refl refl refl) (trivia s 207 208 at_skipping refl refl) (calls s rule.opening_paren 81 82 at_opening_paren_plain refl refl refl refl refl)) (trivia s 207 208 at_skipping refl refl) (calls s rule.string 157 158 at_string_compound refl refl refl refl refl)) (trivia s 207 208 at_skipping refl refl) (calls s rule.closing_paren 83 84 at_closing_paren_plain refl refl refl refl refl)

  peek_slice_plain : Laid s (Run NonAtomicMode (body_of rule.peek_slice)) 149 150 0
  unfolding whitespace comment
  peek_slice_plain = seq 361 362 (seq 363 364 (seq 365 366 (seq 367 368 (seq 369 370 (word s 22 refl refl refl) (trivia s 207 208 at_skipping refl refl) (calls s rule.opening_brack 85 86 at_opening_brack_plain refl refl refl refl refl)) (trivia s 207 208 at_skipping refl refl) (maybe s 368 refl (at_once s) (calls s rule.integer 141 142 at_integer_atomic refl refl refl refl refl))) (trivia s 207 208 at_skipping refl refl) (calls s rule.range_operator 181 182 at_range_operator_plain refl refl refl refl refl)) (trivia s 207 208 at_skipping refl refl) (maybe s 364 refl (at_once s) (calls s rule.integer 141 142 at_integer_atomic refl refl refl refl refl))) (trivia s 207 208 at_skipping refl refl) (calls s rule.closing_brack 87 88 at_closing_brack_plain refl refl refl refl refl)

  identifier_atomic : Laid s (Run AtomicMode (body_of rule.identifier)) 151 152 0
  unfolding whitespace comment
  identifier_atomic = seq 371 371 (seq 372 372 (never s 373 374 refl (word s 20 refl refl refl) refl) (atomic s) (one_of s 0 (one_of_two s.classes (one_text s.classes 95) (one_called s.classes rule.alpha refl refl refl (one_of_two s.classes (one_range s.classes 97 122) (one_range s.classes 65 90)))) refl refl refl)) (atomic s) (all_of s 1 (one_of_two s.classes (one_text s.classes 95) (one_called s.classes rule.alpha_num refl refl refl (one_of_two s.classes (one_called s.classes rule.alpha refl refl refl (one_of_two s.classes (one_range s.classes 97 122) (one_range s.classes 65 90))) (one_range s.classes 48 57)))) (tight_atomic s) refl refl refl)

  alpha_plain_apart : Laid s (Run NonAtomicMode (body_of rule.alpha)) 153 154 0
  unfolding whitespace comment
  alpha_plain_apart = one_of s 5 (one_of_two s.classes (one_range s.classes 97 122) (one_range s.classes 65 90)) refl refl refl

  alpha_num_plain_apart : Laid s (Run NonAtomicMode (body_of rule.alpha_num)) 155 156 0
  unfolding whitespace comment
  alpha_num_plain_apart = one_of s 6 (one_of_two s.classes (one_called s.classes rule.alpha refl refl refl (one_of_two s.classes (one_range s.classes 97 122) (one_range s.classes 65 90))) (one_range s.classes 48 57)) refl refl refl

  string_compound : Laid s (Run CompoundAtomicMode (body_of rule.string)) 157 158 0
  unfolding whitespace comment
  string_compound = seq 375 375 (seq 376 376 (calls s rule.quote 377 378 at_quote_compound refl refl refl refl refl) (compound s) (calls s rule.inner_str 165 166 at_inner_str_atomic refl refl refl refl refl)) (compound s) (calls s rule.quote 377 378 at_quote_compound refl refl refl refl refl)

  insensitive_string_plain : Laid s (Run NonAtomicMode (body_of rule.insensitive_string)) 159 160 0
  unfolding whitespace comment
  insensitive_string_plain = seq 379 380 (word s 23 refl refl refl) (trivia s 207 208 at_skipping refl refl) (calls s rule.string 157 158 at_string_compound refl refl refl refl refl)

  range_plain : Laid s (Run NonAtomicMode (body_of rule.range)) 161 162 0
  unfolding whitespace comment
  range_plain = seq 381 382 (seq 383 384 (calls s rule.character 163 164 at_character_compound refl refl refl refl refl) (trivia s 207 208 at_skipping refl refl) (calls s rule.range_operator 181 182 at_range_operator_plain refl refl refl refl refl)) (trivia s 207 208 at_skipping refl refl) (calls s rule.character 163 164 at_character_compound refl refl refl refl refl)

  character_compound : Laid s (Run CompoundAtomicMode (body_of rule.character)) 163 164 0
  unfolding whitespace comment
  character_compound = seq 385 385 (seq 386 386 (calls s rule.single_quote 387 388 at_single_quote_compound refl refl refl refl refl) (compound s) (calls s rule.inner_chr 167 168 at_inner_chr_atomic refl refl refl refl refl)) (compound s) (calls s rule.single_quote 387 388 at_single_quote_compound refl refl refl refl refl)

  inner_str_atomic : Laid s (Run AtomicMode (body_of rule.inner_str)) 165 166 0
  unfolding whitespace comment
  inner_str_atomic = seq 389 389 (all_of s 7 (one_other s.classes ((0, 33) ∷ (35, 91) ∷ (93, 1114111) ∷ []) (tight_atomic s) tt (one_of_two s.classes (one_text s.classes 34) (one_text s.classes 92)) refl refl) (tight_atomic s) refl refl refl) (atomic s) (maybe s 389 refl (at_once s) (tries s 390 392 392 391 refl (enters s rule.escape 393 394 at_escape_atomic_apart refl refl refl refl refl) (atomic s) (enters s rule.inner_str 395 396 at_inner_str_atomic_apart refl refl refl refl refl) refl))

  inner_chr_atomic : Laid s (Run AtomicMode (body_of rule.inner_chr)) 167 168 0
  unfolding whitespace comment
  inner_chr_atomic = either s 397 167 397 refl (at_once s) (enters s rule.escape 393 394 at_escape_atomic_apart refl refl refl refl refl) (at_once s) (one_of s 8 (one_other s.classes ((0, 38) ∷ (40, 91) ∷ (93, 1114111) ∷ []) (tight_atomic s) tt (one_of_two s.classes (one_text s.classes 39) (one_text s.classes 92)) refl refl) refl refl refl)

  escape_atomic : Laid s (Run AtomicMode (body_of rule.escape)) 169 170 0
  unfolding whitespace comment
  escape_atomic = seq 398 398 (word s 24 refl refl refl) (atomic s) (either s 399 398 399 refl (at_once s) (either s 400 398 400 refl (at_once s) (one_of s 9 (one_of_two s.classes (one_of_two s.classes (one_of_two s.classes (one_of_two s.classes (one_of_two s.classes (one_of_two s.classes (one_text s.classes 34) (one_text s.classes 92)) (one_text s.classes 114)) (one_text s.classes 110)) (one_text s.classes 116)) (one_text s.classes 48)) (one_text s.classes 39)) refl refl refl) (at_once s) (enters s rule.code 401 402 at_code_atomic_apart refl refl refl refl refl)) (at_once s) (enters s rule.unicode 403 404 at_unicode_atomic_apart refl refl refl refl refl))

  code_atomic : Laid s (Run AtomicMode (body_of rule.code)) 171 172 0
  unfolding whitespace comment
  code_atomic = seq 405 405 (seq 406 406 (word s 25 refl refl refl) (atomic s) (one_of s 10 (one_called s.classes rule.hex_digit refl refl refl (one_of_two s.classes (one_of_two s.classes (one_range s.classes 48 57) (one_range s.classes 97 102)) (one_range s.classes 65 70))) refl refl refl)) (atomic s) (one_of s 10 (one_called s.classes rule.hex_digit refl refl refl (one_of_two s.classes (one_of_two s.classes (one_range s.classes 48 57) (one_range s.classes 97 102)) (one_range s.classes 65 70))) refl refl refl)

  unicode_atomic : Laid s (Run AtomicMode (body_of rule.unicode)) 173 174 0
  unfolding whitespace comment
  unicode_atomic = seq 407 407 (seq 408 408 (seq 409 409 (word s 26 refl refl refl) (atomic s) (one_of s 11 (one_called s.classes rule.opening_brace refl refl refl (one_text s.classes 123)) refl refl refl)) (atomic s) (rep_min_max (seq 410 410 (one_of s 10 (one_called s.classes rule.hex_digit refl refl refl (one_of_two s.classes (one_of_two s.classes (one_range s.classes 48 57) (one_range s.classes 97 102)) (one_range s.classes 65 70))) refl refl refl) (atomic s) (seq 411 411 (one_of s 10 (one_called s.classes rule.hex_digit refl refl refl (one_of_two s.classes (one_of_two s.classes (one_range s.classes 48 57) (one_range s.classes 97 102)) (one_range s.classes 65 70))) refl refl refl) (atomic s) (seq 412 412 (maybe s 411 refl (at_once s) (one_of s 10 (one_called s.classes rule.hex_digit refl refl refl (one_of_two s.classes (one_of_two s.classes (one_range s.classes 48 57) (one_range s.classes 97 102)) (one_range s.classes 65 70))) refl refl refl)) (atomic s) (seq 413 413 (maybe s 412 refl (at_once s) (one_of s 10 (one_called s.classes rule.hex_digit refl refl refl (one_of_two s.classes (one_of_two s.classes (one_range s.classes 48 57) (one_range s.classes 97 102)) (one_range s.classes 65 70))) refl refl refl)) (atomic s) (seq 414 414 (maybe s 413 refl (at_once s) (one_of s 10 (one_called s.classes rule.hex_digit refl refl refl (one_of_two s.classes (one_of_two s.classes (one_range s.classes 48 57) (one_range s.classes 97 102)) (one_range s.classes 65 70))) refl refl refl)) (atomic s) (maybe s 414 refl (at_once s) (one_of s 10 (one_called s.classes rule.hex_digit refl refl refl (one_of_two s.classes (one_of_two s.classes (one_range s.classes 48 57) (one_range s.classes 97 102)) (one_range s.classes 65 70))) refl refl refl))))))))) (atomic s) (one_of s 12 (one_called s.classes rule.closing_brace refl refl refl (one_text s.classes 125)) refl refl refl)

  hex_digit_atomic : Laid s (Run AtomicMode (body_of rule.hex_digit)) 175 176 0
  unfolding whitespace comment
  hex_digit_atomic = one_of s 10 (one_of_two s.classes (one_of_two s.classes (one_range s.classes 48 57) (one_range s.classes 97 102)) (one_range s.classes 65 70)) refl refl refl

  quote_plain : Laid s (Run NonAtomicMode (body_of rule.quote)) 177 178 0
  unfolding whitespace comment
  quote_plain = word s 27 refl refl refl

  single_quote_plain : Laid s (Run NonAtomicMode (body_of rule.single_quote)) 179 180 0
  unfolding whitespace comment
  single_quote_plain = word s 28 refl refl refl

  range_operator_plain : Laid s (Run NonAtomicMode (body_of rule.range_operator)) 181 182 0
  unfolding whitespace comment
  range_operator_plain = word s 29 refl refl refl

  newline_plain_apart : Laid s (Run NonAtomicMode (body_of rule.newline)) 183 184 0
  unfolding whitespace comment
  newline_plain_apart = either s 415 183 415 refl (at_once s) (word s 30 refl refl refl) (at_once s) (word s 31 refl refl refl)

  WHITESPACE_atomic_apart : Laid s (Run AtomicMode (body_of rule.WHITESPACE)) 185 186 0
  unfolding whitespace comment
  WHITESPACE_atomic_apart = either s 416 185 416 refl (at_once s) (one_of s 13 (one_of_two s.classes (one_text s.classes 32) (one_text s.classes 9)) refl refl refl) (at_once s) (within s rule.newline refl refl refl (either s 417 416 417 refl (at_once s) (word s 30 refl refl refl) (at_once s) (word s 31 refl refl refl)))

  line_comment_plain_apart : Laid s (Run NonAtomicMode (body_of rule.line_comment)) 187 188 0
  unfolding whitespace comment
  line_comment_plain_apart = seq 418 419 (seq 420 421 (word s 32 refl refl refl) (trivia s 207 208 at_skipping refl refl) (never s 422 423 refl (one_of s 14 (one_of_two s.classes (one_text s.classes 47) (one_text s.classes 33)) refl refl refl) refl)) (trivia s 207 208 at_skipping refl refl) (turns s 419 424 425 426 427 refl (at_once s) refl refl (trivia s 207 208 at_skipping refl refl) (seq 428 429 (never s 430 431 refl (within s rule.newline refl refl refl (either s 432 430 432 refl (at_once s) (word s 30 refl refl refl) (at_once s) (word s 31 refl refl refl))) refl) (trivia s 207 208 at_skipping refl refl) (one_of s 15 (one_any s.classes tt) refl refl refl)) refl)

  block_comment_plain_apart : Laid s (Run NonAtomicMode (body_of rule.block_comment)) 189 190 0
  unfolding whitespace comment
  block_comment_plain_apart = seq 433 434 (seq 435 436 (word s 33 refl refl refl) (trivia s 207 208 at_skipping refl refl) (turns s 436 437 438 439 440 refl (at_once s) refl refl (trivia s 207 208 at_skipping refl refl) (either s 441 439 441 refl (at_once s) (enters s rule.block_comment 189 190 at_block_comment_plain_apart refl refl refl refl refl) (at_once s) (seq 442 443 (never s 444 445 refl (word s 34 refl refl refl) refl) (trivia s 207 208 at_skipping refl refl) (one_of s 15 (one_any s.classes tt) refl refl refl))) refl)) (trivia s 207 208 at_skipping refl refl) (word s 34 refl refl refl)

  COMMENT_atomic_apart : Laid s (Run AtomicMode (body_of rule.COMMENT)) 191 192 0
  unfolding whitespace comment
  COMMENT_atomic_apart = either s 446 191 446 refl (at_once s) (comments s 33 34 refl refl refl) (at_once s) (within s rule.line_comment refl refl refl (seq 447 447 (seq 448 448 (word s 32 refl refl refl) (atomic s) (never s 449 450 refl (one_of s 14 (one_of_two s.classes (one_text s.classes 47) (one_text s.classes 33)) refl refl refl) refl)) (atomic s) (many s 451 (op.All 16 451) refl (λ c z. z) (tight_atomic s) refl (behind_all s 16 (takes_other s.classes ((0, 9) ∷ (11, 12) ∷ (14, 1114111) ∷ []) ((10, 10) ∷ (13, 13) ∷ []) (tight_atomic s) tt (outside_sub s.classes ((10, 10) ∷ (13, 13) ∷ []) rule.newline refl refl refl (outside_choice s.classes ((10, 10) ∷ []) ((13, 13) ∷ []) false false (outside_set s.classes (one_text s.classes 10)) (outside_text s.classes))) refl) refl refl refl) (tries s 452 454 454 453 refl (never s 455 456 refl (within s rule.newline refl refl refl (either s 457 455 457 refl (at_once s) (word s 30 refl refl refl) (at_once s) (word s 31 refl refl refl))) refl) (atomic s) (one_of s 15 (one_any s.classes tt) refl refl refl) refl))))

  space_plain_apart : Laid s (Run NonAtomicMode (body_of rule.space)) 193 194 0
  unfolding whitespace comment
  space_plain_apart = one_of s 13 (one_of_two s.classes (one_text s.classes 32) (one_text s.classes 9)) refl refl refl

  grammar_doc_compound : Laid s (Run CompoundAtomicMode (body_of rule.grammar_doc)) 195 196 0
  unfolding whitespace comment
  grammar_doc_compound = seq 458 458 (seq 459 459 (word s 35 refl refl refl) (compound s) (maybe s 459 refl (at_once s) (one_of s 13 (one_called s.classes rule.space refl refl refl (one_of_two s.classes (one_text s.classes 32) (one_text s.classes 9))) refl refl refl))) (compound s) (calls s rule.inner_doc 199 200 at_inner_doc_atomic refl refl refl refl refl)

  line_doc_compound : Laid s (Run CompoundAtomicMode (body_of rule.line_doc)) 197 198 0
  unfolding whitespace comment
  line_doc_compound = seq 460 460 (seq 461 461 (word s 36 refl refl refl) (compound s) (maybe s 461 refl (at_once s) (one_of s 13 (one_called s.classes rule.space refl refl refl (one_of_two s.classes (one_text s.classes 32) (one_text s.classes 9))) refl refl refl))) (compound s) (calls s rule.inner_doc 199 200 at_inner_doc_atomic refl refl refl refl refl)

  inner_doc_atomic : Laid s (Run AtomicMode (body_of rule.inner_doc)) 199 200 0
  unfolding whitespace comment
  inner_doc_atomic = many s 462 (op.All 16 462) refl (λ c z. z) (tight_atomic s) refl (behind_all s 16 (takes_other s.classes ((0, 9) ∷ (11, 12) ∷ (14, 1114111) ∷ []) ((10, 10) ∷ (13, 13) ∷ []) (tight_atomic s) tt (outside_sub s.classes ((10, 10) ∷ (13, 13) ∷ []) rule.newline refl refl refl (outside_choice s.classes ((10, 10) ∷ []) ((13, 13) ∷ []) false false (outside_set s.classes (one_text s.classes 10)) (outside_text s.classes))) refl) refl refl refl) (tries s 463 465 465 464 refl (never s 466 467 refl (within s rule.newline refl refl refl (either s 468 466 468 refl (at_once s) (word s 30 refl refl refl) (at_once s) (word s 31 refl refl refl))) refl) (atomic s) (one_of s 15 (one_any s.classes tt) refl refl refl) refl)

  skipping : Laid s (Run Between skipped) 207 208 0
  unfolding whitespace comment
  skipping = seq 469 469 (many s 470 (op.IsOne 17 470 469) refl (λ c z. z) (tight_between s) refl (inl (tested s 17 (outside_sub s.classes ((32, 32) ∷ (9, 9) ∷ (10, 10) ∷ (13, 13) ∷ []) rule.WHITESPACE refl refl refl (outside_choice s.classes ((32, 32) ∷ (9, 9) ∷ []) ((10, 10) ∷ (13, 13) ∷ []) false false (outside_set s.classes (one_of_two s.classes (one_text s.classes 32) (one_text s.classes 9))) (outside_sub s.classes ((10, 10) ∷ (13, 13) ∷ []) rule.newline refl refl refl (outside_choice s.classes ((10, 10) ∷ []) ((13, 13) ∷ []) false false (outside_set s.classes (one_text s.classes 10)) (outside_text s.classes))))) refl refl refl)) (within s rule.WHITESPACE refl refl refl (either s 471 470 471 refl (at_once s) (one_of s 13 (one_of_two s.classes (one_text s.classes 32) (one_text s.classes 9)) refl refl refl) (at_once s) (within s rule.newline refl refl refl (either s 472 471 472 refl (at_once s) (word s 30 refl refl refl) (at_once s) (word s 31 refl refl refl)))))) (between s) (many s 473 (op.IsOne 18 473 208) refl (λ c z. z) (tight_between s) refl (inl (tested s 18 (outside_seq s.classes ((47, 47) ∷ (47, 47) ∷ []) false (outside_sub s.classes ((47, 47) ∷ (47, 47) ∷ []) rule.COMMENT refl refl refl (outside_choice s.classes ((47, 47) ∷ []) ((47, 47) ∷ []) false false (outside_sub s.classes ((47, 47) ∷ []) rule.block_comment refl refl refl (outside_seq s.classes ((47, 47) ∷ []) false (outside_seq s.classes ((47, 47) ∷ []) false (outside_text s.classes)))) (outside_sub s.classes ((47, 47) ∷ []) rule.line_comment refl refl refl (outside_seq s.classes ((47, 47) ∷ []) false (outside_seq s.classes ((47, 47) ∷ []) false (outside_text s.classes))))))) refl refl refl)) (tries s 474 476 476 475 refl (enters s rule.COMMENT 191 192 at_COMMENT_atomic_apart refl refl refl refl refl) (between s) (many s 477 (op.IsOne 17 477 475) refl (λ c z. z) (tight_between s) refl (inl (tested s 17 (outside_sub s.classes ((32, 32) ∷ (9, 9) ∷ (10, 10) ∷ (13, 13) ∷ []) rule.WHITESPACE refl refl refl (outside_choice s.classes ((32, 32) ∷ (9, 9) ∷ []) ((10, 10) ∷ (13, 13) ∷ []) false false (outside_set s.classes (one_of_two s.classes (one_text s.classes 32) (one_text s.classes 9))) (outside_sub s.classes ((10, 10) ∷ (13, 13) ∷ []) rule.newline refl refl refl (outside_choice s.classes ((10, 10) ∷ []) ((13, 13) ∷ []) false false (outside_set s.classes (one_text s.classes 10)) (outside_text s.classes))))) refl refl refl)) (within s rule.WHITESPACE refl refl refl (either s 478 477 478 refl (at_once s) (one_of s 13 (one_of_two s.classes (one_text s.classes 32) (one_text s.classes 9)) refl refl refl) (at_once s) (within s rule.newline refl refl refl (either s 479 478 479 refl (at_once s) (word s 30 refl refl refl) (at_once s) (word s 31 refl refl refl)))))) refl))

  number_atomic_apart : Laid s (Run AtomicMode (body_of rule.number)) 344 345 0
  unfolding whitespace comment
  number_atomic_apart = rep_once (seq 480 480 (one_of s 2 (one_range s.classes 48 57) refl refl refl) (atomic s) (all_of s 2 (one_range s.classes 48 57) (tight_atomic s) refl refl refl))

  quote_compound : Laid s (Run CompoundAtomicMode (body_of rule.quote)) 377 378 0
  unfolding whitespace comment
  quote_compound = word s 27 refl refl refl

  single_quote_compound : Laid s (Run CompoundAtomicMode (body_of rule.single_quote)) 387 388 0
  unfolding whitespace comment
  single_quote_compound = word s 28 refl refl refl

  escape_atomic_apart : Laid s (Run AtomicMode (body_of rule.escape)) 393 394 0
  unfolding whitespace comment
  escape_atomic_apart = seq 481 481 (word s 24 refl refl refl) (atomic s) (either s 482 481 482 refl (at_once s) (either s 483 481 483 refl (at_once s) (one_of s 9 (one_of_two s.classes (one_of_two s.classes (one_of_two s.classes (one_of_two s.classes (one_of_two s.classes (one_of_two s.classes (one_text s.classes 34) (one_text s.classes 92)) (one_text s.classes 114)) (one_text s.classes 110)) (one_text s.classes 116)) (one_text s.classes 48)) (one_text s.classes 39)) refl refl refl) (at_once s) (enters s rule.code 401 402 at_code_atomic_apart refl refl refl refl refl)) (at_once s) (enters s rule.unicode 403 404 at_unicode_atomic_apart refl refl refl refl refl))

  inner_str_atomic_apart : Laid s (Run AtomicMode (body_of rule.inner_str)) 395 396 0
  unfolding whitespace comment
  inner_str_atomic_apart = seq 484 484 (all_of s 7 (one_other s.classes ((0, 33) ∷ (35, 91) ∷ (93, 1114111) ∷ []) (tight_atomic s) tt (one_of_two s.classes (one_text s.classes 34) (one_text s.classes 92)) refl refl) (tight_atomic s) refl refl refl) (atomic s) (maybe s 484 refl (at_once s) (tries s 485 487 487 486 refl (enters s rule.escape 393 394 at_escape_atomic_apart refl refl refl refl refl) (atomic s) (enters s rule.inner_str 395 396 at_inner_str_atomic_apart refl refl refl refl refl) refl))

  code_atomic_apart : Laid s (Run AtomicMode (body_of rule.code)) 401 402 0
  unfolding whitespace comment
  code_atomic_apart = seq 488 488 (seq 489 489 (word s 25 refl refl refl) (atomic s) (one_of s 10 (one_called s.classes rule.hex_digit refl refl refl (one_of_two s.classes (one_of_two s.classes (one_range s.classes 48 57) (one_range s.classes 97 102)) (one_range s.classes 65 70))) refl refl refl)) (atomic s) (one_of s 10 (one_called s.classes rule.hex_digit refl refl refl (one_of_two s.classes (one_of_two s.classes (one_range s.classes 48 57) (one_range s.classes 97 102)) (one_range s.classes 65 70))) refl refl refl)

  unicode_atomic_apart : Laid s (Run AtomicMode (body_of rule.unicode)) 403 404 0
  unfolding whitespace comment
  unicode_atomic_apart = seq 490 490 (seq 491 491 (seq 492 492 (word s 26 refl refl refl) (atomic s) (one_of s 11 (one_called s.classes rule.opening_brace refl refl refl (one_text s.classes 123)) refl refl refl)) (atomic s) (rep_min_max (seq 493 493 (one_of s 10 (one_called s.classes rule.hex_digit refl refl refl (one_of_two s.classes (one_of_two s.classes (one_range s.classes 48 57) (one_range s.classes 97 102)) (one_range s.classes 65 70))) refl refl refl) (atomic s) (seq 494 494 (one_of s 10 (one_called s.classes rule.hex_digit refl refl refl (one_of_two s.classes (one_of_two s.classes (one_range s.classes 48 57) (one_range s.classes 97 102)) (one_range s.classes 65 70))) refl refl refl) (atomic s) (seq 495 495 (maybe s 494 refl (at_once s) (one_of s 10 (one_called s.classes rule.hex_digit refl refl refl (one_of_two s.classes (one_of_two s.classes (one_range s.classes 48 57) (one_range s.classes 97 102)) (one_range s.classes 65 70))) refl refl refl)) (atomic s) (seq 496 496 (maybe s 495 refl (at_once s) (one_of s 10 (one_called s.classes rule.hex_digit refl refl refl (one_of_two s.classes (one_of_two s.classes (one_range s.classes 48 57) (one_range s.classes 97 102)) (one_range s.classes 65 70))) refl refl refl)) (atomic s) (seq 497 497 (maybe s 496 refl (at_once s) (one_of s 10 (one_called s.classes rule.hex_digit refl refl refl (one_of_two s.classes (one_of_two s.classes (one_range s.classes 48 57) (one_range s.classes 97 102)) (one_range s.classes 65 70))) refl refl refl)) (atomic s) (maybe s 497 refl (at_once s) (one_of s 10 (one_called s.classes rule.hex_digit refl refl refl (one_of_two s.classes (one_of_two s.classes (one_range s.classes 48 57) (one_range s.classes 97 102)) (one_range s.classes 65 70))) refl refl refl))))))))) (atomic s) (one_of s 12 (one_called s.classes rule.closing_brace refl refl refl (one_text s.classes 125)) refl refl refl)

  all_bodies : AreLaidAll true meta_grammar classes code number_of called called
  unfolding called
  all_bodies =
      (also call_of_EOI
      (also call_of_grammar_rules
      (also call_of_grammar_rule
      (also call_of_assignment_operator
      (also call_of_opening_brace
      (also call_of_closing_brace
      (also call_of_opening_paren
      (also call_of_closing_paren
      (also call_of_opening_brack
      (also call_of_closing_brack
      (also call_of_modifier
      (also call_of_silent_modifier
      (also call_of_atomic_modifier
      (also call_of_compound_atomic_modifier
      (also call_of_non_atomic_modifier
      (also call_of_tag_id
      (also call_of_node_tag
      (also call_of_expression
      (also call_of_term
      (also call_of_node
      (also call_of_terminal
      (also call_of_prefix_operator
      (also call_of_infix_operator
      (also call_of_postfix_operator
      (also call_of_positive_predicate_operator
      (also call_of_negative_predicate_operator
      (also call_of_sequence_operator
      (also call_of_choice_operator
      (also call_of_optional_operator
      (also call_of_repeat_operator
      (also call_of_repeat_once_operator
      (also call_of_repeat_exact
      (also call_of_repeat_min
      (also call_of_repeat_max
      (also call_of_repeat_min_max
      (also call_of_number
      (also call_of_integer
      (also call_of_comma
      (also call_of_push_
      (also call_of_push_literal_
      (also call_of_peek_slice
      (also call_of_identifier
      (also call_of_alpha
      (also call_of_alpha_num
      (also call_of_string
      (also call_of_insensitive_string
      (also call_of_range
      (also call_of_character
      (also call_of_inner_str
      (also call_of_inner_chr
      (also call_of_escape
      (also call_of_code
      (also call_of_unicode
      (also call_of_hex_digit
      (also call_of_quote
      (also call_of_single_quote
      (also call_of_range_operator
      (also call_of_newline
      (also call_of_WHITESPACE
      (also call_of_line_comment
      (also call_of_block_comment
      (also call_of_COMMENT
      (also call_of_space
      (also call_of_grammar_doc
      (also call_of_line_doc
      (also call_of_inner_doc
      (also grammar_rules_plain_apart
      (also grammar_rule_plain
      (also assignment_operator_plain
      (also opening_brace_plain
      (also closing_brace_plain
      (also opening_paren_plain
      (also closing_paren_plain
      (also opening_brack_plain
      (also closing_brack_plain
      (also modifier_plain_apart
      (also silent_modifier_plain
      (also atomic_modifier_plain
      (also compound_atomic_modifier_plain
      (also non_atomic_modifier_plain
      (also tag_id_atomic
      (also node_tag_plain_apart
      (also expression_plain
      (also term_plain
      (also node_plain_apart
      (also terminal_plain_apart
      (also prefix_operator_plain_apart
      (also infix_operator_plain_apart
      (also postfix_operator_plain_apart
      (also positive_predicate_operator_plain
      (also negative_predicate_operator_plain
      (also sequence_operator_plain
      (also choice_operator_plain
      (also optional_operator_plain
      (also repeat_operator_plain
      (also repeat_once_operator_plain
      (also repeat_exact_plain
      (also repeat_min_plain
      (also repeat_max_plain
      (also repeat_min_max_plain
      (also number_atomic
      (also integer_atomic
      (also comma_plain
      (also push__plain
      (also push_literal__plain
      (also peek_slice_plain
      (also identifier_atomic
      (also alpha_plain_apart
      (also alpha_num_plain_apart
      (also string_compound
      (also insensitive_string_plain
      (also range_plain
      (also character_compound
      (also inner_str_atomic
      (also inner_chr_atomic
      (also escape_atomic
      (also code_atomic
      (also unicode_atomic
      (also hex_digit_atomic
      (also quote_plain
      (also single_quote_plain
      (also range_operator_plain
      (also newline_plain_apart
      (also WHITESPACE_atomic_apart
      (also line_comment_plain_apart
      (also block_comment_plain_apart
      (also COMMENT_atomic_apart
      (also space_plain_apart
      (also grammar_doc_compound
      (also line_doc_compound
      (also inner_doc_atomic
      (also skipping
      (also number_atomic_apart
      (also quote_compound
      (also single_quote_compound
      (also escape_atomic_apart
      (also inner_str_atomic_apart
      (also code_atomic_apart
      (also unicode_atomic_apart
      done)))))))))))))))))))))))))))))))))))))))))))))))))))))))))))))))))))))))))))))))))))))))))))))))))))))))))))))))))))))))))))))))))))))))))))

  has_call : (r : Rule) → IsPoint called (Run NonAtomicMode (Ident (name_of r))) (number_of (name_of r) + 3) 1 2
  unfolding called
  has_call rule.EOI = at_point called 0 refl refl
  has_call rule.grammar_rules = at_point called 1 refl refl
  has_call rule.grammar_rule = at_point called 2 refl refl
  has_call rule.assignment_operator = at_point called 3 refl refl
  has_call rule.opening_brace = at_point called 4 refl refl
  has_call rule.closing_brace = at_point called 5 refl refl
  has_call rule.opening_paren = at_point called 6 refl refl
  has_call rule.closing_paren = at_point called 7 refl refl
  has_call rule.opening_brack = at_point called 8 refl refl
  has_call rule.closing_brack = at_point called 9 refl refl
  has_call rule.modifier = at_point called 10 refl refl
  has_call rule.silent_modifier = at_point called 11 refl refl
  has_call rule.atomic_modifier = at_point called 12 refl refl
  has_call rule.compound_atomic_modifier = at_point called 13 refl refl
  has_call rule.non_atomic_modifier = at_point called 14 refl refl
  has_call rule.tag_id = at_point called 15 refl refl
  has_call rule.node_tag = at_point called 16 refl refl
  has_call rule.expression = at_point called 17 refl refl
  has_call rule.term = at_point called 18 refl refl
  has_call rule.node = at_point called 19 refl refl
  has_call rule.terminal = at_point called 20 refl refl
  has_call rule.prefix_operator = at_point called 21 refl refl
  has_call rule.infix_operator = at_point called 22 refl refl
  has_call rule.postfix_operator = at_point called 23 refl refl
  has_call rule.positive_predicate_operator = at_point called 24 refl refl
  has_call rule.negative_predicate_operator = at_point called 25 refl refl
  has_call rule.sequence_operator = at_point called 26 refl refl
  has_call rule.choice_operator = at_point called 27 refl refl
  has_call rule.optional_operator = at_point called 28 refl refl
  has_call rule.repeat_operator = at_point called 29 refl refl
  has_call rule.repeat_once_operator = at_point called 30 refl refl
  has_call rule.repeat_exact = at_point called 31 refl refl
  has_call rule.repeat_min = at_point called 32 refl refl
  has_call rule.repeat_max = at_point called 33 refl refl
  has_call rule.repeat_min_max = at_point called 34 refl refl
  has_call rule.number = at_point called 35 refl refl
  has_call rule.integer = at_point called 36 refl refl
  has_call rule.comma = at_point called 37 refl refl
  has_call rule._push = at_point called 38 refl refl
  has_call rule._push_literal = at_point called 39 refl refl
  has_call rule.peek_slice = at_point called 40 refl refl
  has_call rule.identifier = at_point called 41 refl refl
  has_call rule.alpha = at_point called 42 refl refl
  has_call rule.alpha_num = at_point called 43 refl refl
  has_call rule.string = at_point called 44 refl refl
  has_call rule.insensitive_string = at_point called 45 refl refl
  has_call rule.range = at_point called 46 refl refl
  has_call rule.character = at_point called 47 refl refl
  has_call rule.inner_str = at_point called 48 refl refl
  has_call rule.inner_chr = at_point called 49 refl refl
  has_call rule.escape = at_point called 50 refl refl
  has_call rule.code = at_point called 51 refl refl
  has_call rule.unicode = at_point called 52 refl refl
  has_call rule.hex_digit = at_point called 53 refl refl
  has_call rule.quote = at_point called 54 refl refl
  has_call rule.single_quote = at_point called 55 refl refl
  has_call rule.range_operator = at_point called 56 refl refl
  has_call rule.newline = at_point called 57 refl refl
  has_call rule.WHITESPACE = at_point called 58 refl refl
  has_call rule.line_comment = at_point called 59 refl refl
  has_call rule.block_comment = at_point called 60 refl refl
  has_call rule.COMMENT = at_point called 61 refl refl
  has_call rule.space = at_point called 62 refl refl
  has_call rule.grammar_doc = at_point called 63 refl refl
  has_call rule.line_doc = at_point called 64 refl refl
  has_call rule.inner_doc = at_point called 65 refl refl

  pub exact_code : IsCodeOfMetaGrammar true classes code
  exact_code =
      let w = whole_code true meta_grammar classes code number_of called all_bodies in
      record {
        fail = has_op s 0 refl;
        halt = has_op s 1 refl;
        lose = has_op s 2 refl;
        points = w.0;
        laid = w.1;
        entries = λ r. w.2 (Run NonAtomicMode (Ident (name_of r))) (number_of (name_of r) + 3) 1 2 (has_call r);
      }
