-- The fast code of the meta-grammar, body by body; bench/front-code writes this file.
use Rattle.std.proofs.Common.{refl, inl, ◌+◌, List, [], ◌∷◌, true, false}
use Rattle.base_language.specs.Language.Expression.{Ident, comment, whitespace}
use Rattle.base_language.specs.Language.Meaning.{Run}
use Rattle.base_language.specs.Language.State.{AtomicMode, Classes, CompoundAtomicMode, NonAtomicMode}
use Rattle.base_language.specs.Pieces.MetaRules.{name_of}
use Rattle.base_language.specs.declared.grammar.Rule.{Rule}
use Rattle.base_language.specs.declared.grammar.Rule.TheVariants as rule
use Rattle.front_grammar.specs.MetaGrammar.{body_of, meta_grammar}
use Rattle.matcher_code.specs.Lists.{CodeLists}
use Rattle.matcher_code.specs.declared.code.Op.TheVariants as op
use Rattle.matcher_code.specs.Laid.{IsPoint, Point}
use Rattle.front_code.specs.Codes.{IsCodeOfMetaGrammar, IsFastCode, fast_ops, fast_sets, texts}
use Rattle.front_code.specs.Layouts.{AreLaidAll, also, done, rep_min_max, rep_once, seq}
use Rattle.front_code.specs.Numbers.{number_of}
use Rattle.front_code.proofs.Characters.{one_any, one_called, one_of_two, one_other, one_range, one_text}
use Rattle.front_code.proofs.Flattening.{whole_code}
use Rattle.front_code.proofs.Outside.{outside_call, outside_choice, outside_not, outside_seq, outside_set, outside_silent, outside_some, outside_sub, outside_text, takes_other}
use Rattle.front_code.proofs.Shapes.{Laid, Setting, all_of, at_once, at_point, atomic, behind_all, between, calls, comments, compound, either, end, enters, trivia_in_place, has_op, many, maybe, never, noted, one_of, start, tested, tight_atomic, tight_between, tries, turns, within, word}

-- the calls of the rules from outside, and the bodies that are called
pub called : List Point
called =
    record { task = Run NonAtomicMode (Ident (name_of rule.EOI)); label = 3; next = 1; on_fail = 2; rank = 0 }
    ∷ record { task = Run NonAtomicMode (Ident (name_of rule.grammar_rules)); label = 4; next = 1; on_fail = 2; rank = 0 }
    ∷ record { task = Run NonAtomicMode (Ident (name_of rule.grammar_rule)); label = 5; next = 1; on_fail = 2; rank = 0 }
    ∷ record { task = Run NonAtomicMode (Ident (name_of rule.assignment_operator)); label = 6; next = 1; on_fail = 2; rank = 0 }
    ∷ record { task = Run NonAtomicMode (Ident (name_of rule.opening_brace)); label = 7; next = 1; on_fail = 2; rank = 0 }
    ∷ record { task = Run NonAtomicMode (Ident (name_of rule.closing_brace)); label = 8; next = 1; on_fail = 2; rank = 0 }
    ∷ record { task = Run NonAtomicMode (Ident (name_of rule.opening_paren)); label = 9; next = 1; on_fail = 2; rank = 0 }
    ∷ record { task = Run NonAtomicMode (Ident (name_of rule.closing_paren)); label = 10; next = 1; on_fail = 2; rank = 0 }
    ∷ record { task = Run NonAtomicMode (Ident (name_of rule.opening_brack)); label = 11; next = 1; on_fail = 2; rank = 0 }
    ∷ record { task = Run NonAtomicMode (Ident (name_of rule.closing_brack)); label = 12; next = 1; on_fail = 2; rank = 0 }
    ∷ record { task = Run NonAtomicMode (Ident (name_of rule.modifier)); label = 13; next = 1; on_fail = 2; rank = 0 }
    ∷ record { task = Run NonAtomicMode (Ident (name_of rule.silent_modifier)); label = 14; next = 1; on_fail = 2; rank = 0 }
    ∷ record { task = Run NonAtomicMode (Ident (name_of rule.atomic_modifier)); label = 15; next = 1; on_fail = 2; rank = 0 }
    ∷ record { task = Run NonAtomicMode (Ident (name_of rule.compound_atomic_modifier)); label = 16; next = 1; on_fail = 2; rank = 0 }
    ∷ record { task = Run NonAtomicMode (Ident (name_of rule.non_atomic_modifier)); label = 17; next = 1; on_fail = 2; rank = 0 }
    ∷ record { task = Run NonAtomicMode (Ident (name_of rule.tag_id)); label = 18; next = 1; on_fail = 2; rank = 0 }
    ∷ record { task = Run NonAtomicMode (Ident (name_of rule.node_tag)); label = 19; next = 1; on_fail = 2; rank = 0 }
    ∷ record { task = Run NonAtomicMode (Ident (name_of rule.expression)); label = 20; next = 1; on_fail = 2; rank = 0 }
    ∷ record { task = Run NonAtomicMode (Ident (name_of rule.term)); label = 21; next = 1; on_fail = 2; rank = 0 }
    ∷ record { task = Run NonAtomicMode (Ident (name_of rule.node)); label = 22; next = 1; on_fail = 2; rank = 0 }
    ∷ record { task = Run NonAtomicMode (Ident (name_of rule.terminal)); label = 23; next = 1; on_fail = 2; rank = 0 }
    ∷ record { task = Run NonAtomicMode (Ident (name_of rule.prefix_operator)); label = 24; next = 1; on_fail = 2; rank = 0 }
    ∷ record { task = Run NonAtomicMode (Ident (name_of rule.infix_operator)); label = 25; next = 1; on_fail = 2; rank = 0 }
    ∷ record { task = Run NonAtomicMode (Ident (name_of rule.postfix_operator)); label = 26; next = 1; on_fail = 2; rank = 0 }
    ∷ record { task = Run NonAtomicMode (Ident (name_of rule.positive_predicate_operator)); label = 27; next = 1; on_fail = 2; rank = 0 }
    ∷ record { task = Run NonAtomicMode (Ident (name_of rule.negative_predicate_operator)); label = 28; next = 1; on_fail = 2; rank = 0 }
    ∷ record { task = Run NonAtomicMode (Ident (name_of rule.sequence_operator)); label = 29; next = 1; on_fail = 2; rank = 0 }
    ∷ record { task = Run NonAtomicMode (Ident (name_of rule.choice_operator)); label = 30; next = 1; on_fail = 2; rank = 0 }
    ∷ record { task = Run NonAtomicMode (Ident (name_of rule.optional_operator)); label = 31; next = 1; on_fail = 2; rank = 0 }
    ∷ record { task = Run NonAtomicMode (Ident (name_of rule.repeat_operator)); label = 32; next = 1; on_fail = 2; rank = 0 }
    ∷ record { task = Run NonAtomicMode (Ident (name_of rule.repeat_once_operator)); label = 33; next = 1; on_fail = 2; rank = 0 }
    ∷ record { task = Run NonAtomicMode (Ident (name_of rule.repeat_exact)); label = 34; next = 1; on_fail = 2; rank = 0 }
    ∷ record { task = Run NonAtomicMode (Ident (name_of rule.repeat_min)); label = 35; next = 1; on_fail = 2; rank = 0 }
    ∷ record { task = Run NonAtomicMode (Ident (name_of rule.repeat_max)); label = 36; next = 1; on_fail = 2; rank = 0 }
    ∷ record { task = Run NonAtomicMode (Ident (name_of rule.repeat_min_max)); label = 37; next = 1; on_fail = 2; rank = 0 }
    ∷ record { task = Run NonAtomicMode (Ident (name_of rule.number)); label = 38; next = 1; on_fail = 2; rank = 0 }
    ∷ record { task = Run NonAtomicMode (Ident (name_of rule.integer)); label = 39; next = 1; on_fail = 2; rank = 0 }
    ∷ record { task = Run NonAtomicMode (Ident (name_of rule.comma)); label = 40; next = 1; on_fail = 2; rank = 0 }
    ∷ record { task = Run NonAtomicMode (Ident (name_of rule._push)); label = 41; next = 1; on_fail = 2; rank = 0 }
    ∷ record { task = Run NonAtomicMode (Ident (name_of rule._push_literal)); label = 42; next = 1; on_fail = 2; rank = 0 }
    ∷ record { task = Run NonAtomicMode (Ident (name_of rule.peek_slice)); label = 43; next = 1; on_fail = 2; rank = 0 }
    ∷ record { task = Run NonAtomicMode (Ident (name_of rule.identifier)); label = 44; next = 1; on_fail = 2; rank = 0 }
    ∷ record { task = Run NonAtomicMode (Ident (name_of rule.alpha)); label = 45; next = 1; on_fail = 2; rank = 0 }
    ∷ record { task = Run NonAtomicMode (Ident (name_of rule.alpha_num)); label = 46; next = 1; on_fail = 2; rank = 0 }
    ∷ record { task = Run NonAtomicMode (Ident (name_of rule.string)); label = 47; next = 1; on_fail = 2; rank = 0 }
    ∷ record { task = Run NonAtomicMode (Ident (name_of rule.insensitive_string)); label = 48; next = 1; on_fail = 2; rank = 0 }
    ∷ record { task = Run NonAtomicMode (Ident (name_of rule.range)); label = 49; next = 1; on_fail = 2; rank = 0 }
    ∷ record { task = Run NonAtomicMode (Ident (name_of rule.character)); label = 50; next = 1; on_fail = 2; rank = 0 }
    ∷ record { task = Run NonAtomicMode (Ident (name_of rule.inner_str)); label = 51; next = 1; on_fail = 2; rank = 0 }
    ∷ record { task = Run NonAtomicMode (Ident (name_of rule.inner_chr)); label = 52; next = 1; on_fail = 2; rank = 0 }
    ∷ record { task = Run NonAtomicMode (Ident (name_of rule.escape)); label = 53; next = 1; on_fail = 2; rank = 0 }
    ∷ record { task = Run NonAtomicMode (Ident (name_of rule.code)); label = 54; next = 1; on_fail = 2; rank = 0 }
    ∷ record { task = Run NonAtomicMode (Ident (name_of rule.unicode)); label = 55; next = 1; on_fail = 2; rank = 0 }
    ∷ record { task = Run NonAtomicMode (Ident (name_of rule.hex_digit)); label = 56; next = 1; on_fail = 2; rank = 0 }
    ∷ record { task = Run NonAtomicMode (Ident (name_of rule.quote)); label = 57; next = 1; on_fail = 2; rank = 0 }
    ∷ record { task = Run NonAtomicMode (Ident (name_of rule.single_quote)); label = 58; next = 1; on_fail = 2; rank = 0 }
    ∷ record { task = Run NonAtomicMode (Ident (name_of rule.range_operator)); label = 59; next = 1; on_fail = 2; rank = 0 }
    ∷ record { task = Run NonAtomicMode (Ident (name_of rule.newline)); label = 60; next = 1; on_fail = 2; rank = 0 }
    ∷ record { task = Run NonAtomicMode (Ident (name_of rule.WHITESPACE)); label = 61; next = 1; on_fail = 2; rank = 0 }
    ∷ record { task = Run NonAtomicMode (Ident (name_of rule.line_comment)); label = 62; next = 1; on_fail = 2; rank = 0 }
    ∷ record { task = Run NonAtomicMode (Ident (name_of rule.block_comment)); label = 63; next = 1; on_fail = 2; rank = 0 }
    ∷ record { task = Run NonAtomicMode (Ident (name_of rule.COMMENT)); label = 64; next = 1; on_fail = 2; rank = 0 }
    ∷ record { task = Run NonAtomicMode (Ident (name_of rule.space)); label = 65; next = 1; on_fail = 2; rank = 0 }
    ∷ record { task = Run NonAtomicMode (Ident (name_of rule.grammar_doc)); label = 66; next = 1; on_fail = 2; rank = 0 }
    ∷ record { task = Run NonAtomicMode (Ident (name_of rule.line_doc)); label = 67; next = 1; on_fail = 2; rank = 0 }
    ∷ record { task = Run NonAtomicMode (Ident (name_of rule.inner_doc)); label = 68; next = 1; on_fail = 2; rank = 0 }
    ∷ record { task = Run NonAtomicMode (body_of rule.grammar_rules); label = 71; next = 72; on_fail = 0; rank = 0 }
    ∷ record { task = Run NonAtomicMode (body_of rule.grammar_rule); label = 73; next = 74; on_fail = 0; rank = 0 }
    ∷ record { task = Run NonAtomicMode (body_of rule.assignment_operator); label = 75; next = 76; on_fail = 0; rank = 0 }
    ∷ record { task = Run NonAtomicMode (body_of rule.opening_brace); label = 77; next = 78; on_fail = 0; rank = 0 }
    ∷ record { task = Run NonAtomicMode (body_of rule.closing_brace); label = 79; next = 80; on_fail = 0; rank = 0 }
    ∷ record { task = Run NonAtomicMode (body_of rule.opening_paren); label = 81; next = 82; on_fail = 0; rank = 0 }
    ∷ record { task = Run NonAtomicMode (body_of rule.closing_paren); label = 83; next = 84; on_fail = 0; rank = 0 }
    ∷ record { task = Run NonAtomicMode (body_of rule.opening_brack); label = 85; next = 86; on_fail = 0; rank = 0 }
    ∷ record { task = Run NonAtomicMode (body_of rule.closing_brack); label = 87; next = 88; on_fail = 0; rank = 0 }
    ∷ record { task = Run NonAtomicMode (body_of rule.modifier); label = 89; next = 90; on_fail = 0; rank = 0 }
    ∷ record { task = Run NonAtomicMode (body_of rule.silent_modifier); label = 91; next = 92; on_fail = 0; rank = 0 }
    ∷ record { task = Run NonAtomicMode (body_of rule.atomic_modifier); label = 93; next = 94; on_fail = 0; rank = 0 }
    ∷ record { task = Run NonAtomicMode (body_of rule.compound_atomic_modifier); label = 95; next = 96; on_fail = 0; rank = 0 }
    ∷ record { task = Run NonAtomicMode (body_of rule.non_atomic_modifier); label = 97; next = 98; on_fail = 0; rank = 0 }
    ∷ record { task = Run AtomicMode (body_of rule.tag_id); label = 99; next = 100; on_fail = 0; rank = 0 }
    ∷ record { task = Run NonAtomicMode (body_of rule.node_tag); label = 101; next = 102; on_fail = 0; rank = 0 }
    ∷ record { task = Run NonAtomicMode (body_of rule.expression); label = 103; next = 104; on_fail = 0; rank = 0 }
    ∷ record { task = Run NonAtomicMode (body_of rule.term); label = 105; next = 106; on_fail = 0; rank = 0 }
    ∷ record { task = Run NonAtomicMode (body_of rule.node); label = 107; next = 108; on_fail = 0; rank = 0 }
    ∷ record { task = Run NonAtomicMode (body_of rule.terminal); label = 109; next = 110; on_fail = 0; rank = 0 }
    ∷ record { task = Run NonAtomicMode (body_of rule.prefix_operator); label = 111; next = 112; on_fail = 0; rank = 0 }
    ∷ record { task = Run NonAtomicMode (body_of rule.infix_operator); label = 113; next = 114; on_fail = 0; rank = 0 }
    ∷ record { task = Run NonAtomicMode (body_of rule.postfix_operator); label = 115; next = 116; on_fail = 0; rank = 0 }
    ∷ record { task = Run NonAtomicMode (body_of rule.positive_predicate_operator); label = 117; next = 118; on_fail = 0; rank = 0 }
    ∷ record { task = Run NonAtomicMode (body_of rule.negative_predicate_operator); label = 119; next = 120; on_fail = 0; rank = 0 }
    ∷ record { task = Run NonAtomicMode (body_of rule.sequence_operator); label = 121; next = 122; on_fail = 0; rank = 0 }
    ∷ record { task = Run NonAtomicMode (body_of rule.choice_operator); label = 123; next = 124; on_fail = 0; rank = 0 }
    ∷ record { task = Run NonAtomicMode (body_of rule.optional_operator); label = 125; next = 126; on_fail = 0; rank = 0 }
    ∷ record { task = Run NonAtomicMode (body_of rule.repeat_operator); label = 127; next = 128; on_fail = 0; rank = 0 }
    ∷ record { task = Run NonAtomicMode (body_of rule.repeat_once_operator); label = 129; next = 130; on_fail = 0; rank = 0 }
    ∷ record { task = Run NonAtomicMode (body_of rule.repeat_exact); label = 131; next = 132; on_fail = 0; rank = 0 }
    ∷ record { task = Run NonAtomicMode (body_of rule.repeat_min); label = 133; next = 134; on_fail = 0; rank = 0 }
    ∷ record { task = Run NonAtomicMode (body_of rule.repeat_max); label = 135; next = 136; on_fail = 0; rank = 0 }
    ∷ record { task = Run NonAtomicMode (body_of rule.repeat_min_max); label = 137; next = 138; on_fail = 0; rank = 0 }
    ∷ record { task = Run AtomicMode (body_of rule.number); label = 139; next = 140; on_fail = 0; rank = 0 }
    ∷ record { task = Run AtomicMode (body_of rule.integer); label = 141; next = 142; on_fail = 0; rank = 0 }
    ∷ record { task = Run NonAtomicMode (body_of rule.comma); label = 143; next = 144; on_fail = 0; rank = 0 }
    ∷ record { task = Run NonAtomicMode (body_of rule._push); label = 145; next = 146; on_fail = 0; rank = 0 }
    ∷ record { task = Run NonAtomicMode (body_of rule._push_literal); label = 147; next = 148; on_fail = 0; rank = 0 }
    ∷ record { task = Run NonAtomicMode (body_of rule.peek_slice); label = 149; next = 150; on_fail = 0; rank = 0 }
    ∷ record { task = Run AtomicMode (body_of rule.identifier); label = 151; next = 152; on_fail = 0; rank = 0 }
    ∷ record { task = Run NonAtomicMode (body_of rule.alpha); label = 153; next = 154; on_fail = 0; rank = 0 }
    ∷ record { task = Run NonAtomicMode (body_of rule.alpha_num); label = 155; next = 156; on_fail = 0; rank = 0 }
    ∷ record { task = Run CompoundAtomicMode (body_of rule.string); label = 157; next = 158; on_fail = 0; rank = 0 }
    ∷ record { task = Run NonAtomicMode (body_of rule.insensitive_string); label = 159; next = 160; on_fail = 0; rank = 0 }
    ∷ record { task = Run NonAtomicMode (body_of rule.range); label = 161; next = 162; on_fail = 0; rank = 0 }
    ∷ record { task = Run CompoundAtomicMode (body_of rule.character); label = 163; next = 164; on_fail = 0; rank = 0 }
    ∷ record { task = Run AtomicMode (body_of rule.inner_str); label = 165; next = 166; on_fail = 0; rank = 0 }
    ∷ record { task = Run AtomicMode (body_of rule.inner_chr); label = 167; next = 168; on_fail = 0; rank = 0 }
    ∷ record { task = Run AtomicMode (body_of rule.escape); label = 169; next = 170; on_fail = 0; rank = 0 }
    ∷ record { task = Run AtomicMode (body_of rule.code); label = 171; next = 172; on_fail = 0; rank = 0 }
    ∷ record { task = Run AtomicMode (body_of rule.unicode); label = 173; next = 174; on_fail = 0; rank = 0 }
    ∷ record { task = Run AtomicMode (body_of rule.hex_digit); label = 175; next = 176; on_fail = 0; rank = 0 }
    ∷ record { task = Run NonAtomicMode (body_of rule.quote); label = 177; next = 178; on_fail = 0; rank = 0 }
    ∷ record { task = Run NonAtomicMode (body_of rule.single_quote); label = 179; next = 180; on_fail = 0; rank = 0 }
    ∷ record { task = Run NonAtomicMode (body_of rule.range_operator); label = 181; next = 182; on_fail = 0; rank = 0 }
    ∷ record { task = Run NonAtomicMode (body_of rule.newline); label = 183; next = 184; on_fail = 0; rank = 0 }
    ∷ record { task = Run AtomicMode (body_of rule.WHITESPACE); label = 185; next = 186; on_fail = 0; rank = 0 }
    ∷ record { task = Run NonAtomicMode (body_of rule.line_comment); label = 187; next = 188; on_fail = 0; rank = 0 }
    ∷ record { task = Run NonAtomicMode (body_of rule.block_comment); label = 189; next = 190; on_fail = 0; rank = 0 }
    ∷ record { task = Run AtomicMode (body_of rule.COMMENT); label = 191; next = 192; on_fail = 0; rank = 0 }
    ∷ record { task = Run NonAtomicMode (body_of rule.space); label = 193; next = 194; on_fail = 0; rank = 0 }
    ∷ record { task = Run CompoundAtomicMode (body_of rule.grammar_doc); label = 195; next = 196; on_fail = 0; rank = 0 }
    ∷ record { task = Run CompoundAtomicMode (body_of rule.line_doc); label = 197; next = 198; on_fail = 0; rank = 0 }
    ∷ record { task = Run AtomicMode (body_of rule.inner_doc); label = 199; next = 200; on_fail = 0; rank = 0 }
    ∷ record { task = Run AtomicMode (body_of rule.number); label = 986; next = 987; on_fail = 0; rank = 0 }
    ∷ record { task = Run CompoundAtomicMode (body_of rule.quote); label = 1167; next = 1168; on_fail = 0; rank = 0 }
    ∷ record { task = Run CompoundAtomicMode (body_of rule.single_quote); label = 1216; next = 1217; on_fail = 0; rank = 0 }
    ∷ record { task = Run AtomicMode (body_of rule.escape); label = 1223; next = 1224; on_fail = 0; rank = 0 }
    ∷ record { task = Run AtomicMode (body_of rule.inner_str); label = 1225; next = 1226; on_fail = 0; rank = 0 }
    ∷ record { task = Run AtomicMode (body_of rule.code); label = 1234; next = 1235; on_fail = 0; rank = 0 }
    ∷ record { task = Run AtomicMode (body_of rule.unicode); label = 1236; next = 1237; on_fail = 0; rank = 0 }
    ∷ []

at_grammar_rules_plain_apart : IsPoint called (Run NonAtomicMode (body_of rule.grammar_rules)) 71 72 0
unfolding called
at_grammar_rules_plain_apart = at_point called 66 refl refl

at_grammar_rule_plain : IsPoint called (Run NonAtomicMode (body_of rule.grammar_rule)) 73 74 0
unfolding called
at_grammar_rule_plain = at_point called 67 refl refl

at_assignment_operator_plain : IsPoint called (Run NonAtomicMode (body_of rule.assignment_operator)) 75 76 0
unfolding called
at_assignment_operator_plain = at_point called 68 refl refl

at_opening_brace_plain : IsPoint called (Run NonAtomicMode (body_of rule.opening_brace)) 77 78 0
unfolding called
at_opening_brace_plain = at_point called 69 refl refl

at_closing_brace_plain : IsPoint called (Run NonAtomicMode (body_of rule.closing_brace)) 79 80 0
unfolding called
at_closing_brace_plain = at_point called 70 refl refl

at_opening_paren_plain : IsPoint called (Run NonAtomicMode (body_of rule.opening_paren)) 81 82 0
unfolding called
at_opening_paren_plain = at_point called 71 refl refl

at_closing_paren_plain : IsPoint called (Run NonAtomicMode (body_of rule.closing_paren)) 83 84 0
unfolding called
at_closing_paren_plain = at_point called 72 refl refl

at_opening_brack_plain : IsPoint called (Run NonAtomicMode (body_of rule.opening_brack)) 85 86 0
unfolding called
at_opening_brack_plain = at_point called 73 refl refl

at_closing_brack_plain : IsPoint called (Run NonAtomicMode (body_of rule.closing_brack)) 87 88 0
unfolding called
at_closing_brack_plain = at_point called 74 refl refl

at_modifier_plain_apart : IsPoint called (Run NonAtomicMode (body_of rule.modifier)) 89 90 0
unfolding called
at_modifier_plain_apart = at_point called 75 refl refl

at_silent_modifier_plain : IsPoint called (Run NonAtomicMode (body_of rule.silent_modifier)) 91 92 0
unfolding called
at_silent_modifier_plain = at_point called 76 refl refl

at_atomic_modifier_plain : IsPoint called (Run NonAtomicMode (body_of rule.atomic_modifier)) 93 94 0
unfolding called
at_atomic_modifier_plain = at_point called 77 refl refl

at_compound_atomic_modifier_plain : IsPoint called (Run NonAtomicMode (body_of rule.compound_atomic_modifier)) 95 96 0
unfolding called
at_compound_atomic_modifier_plain = at_point called 78 refl refl

at_non_atomic_modifier_plain : IsPoint called (Run NonAtomicMode (body_of rule.non_atomic_modifier)) 97 98 0
unfolding called
at_non_atomic_modifier_plain = at_point called 79 refl refl

at_tag_id_atomic : IsPoint called (Run AtomicMode (body_of rule.tag_id)) 99 100 0
unfolding called
at_tag_id_atomic = at_point called 80 refl refl

at_node_tag_plain_apart : IsPoint called (Run NonAtomicMode (body_of rule.node_tag)) 101 102 0
unfolding called
at_node_tag_plain_apart = at_point called 81 refl refl

at_expression_plain : IsPoint called (Run NonAtomicMode (body_of rule.expression)) 103 104 0
unfolding called
at_expression_plain = at_point called 82 refl refl

at_term_plain : IsPoint called (Run NonAtomicMode (body_of rule.term)) 105 106 0
unfolding called
at_term_plain = at_point called 83 refl refl

at_node_plain_apart : IsPoint called (Run NonAtomicMode (body_of rule.node)) 107 108 0
unfolding called
at_node_plain_apart = at_point called 84 refl refl

at_terminal_plain_apart : IsPoint called (Run NonAtomicMode (body_of rule.terminal)) 109 110 0
unfolding called
at_terminal_plain_apart = at_point called 85 refl refl

at_prefix_operator_plain_apart : IsPoint called (Run NonAtomicMode (body_of rule.prefix_operator)) 111 112 0
unfolding called
at_prefix_operator_plain_apart = at_point called 86 refl refl

at_infix_operator_plain_apart : IsPoint called (Run NonAtomicMode (body_of rule.infix_operator)) 113 114 0
unfolding called
at_infix_operator_plain_apart = at_point called 87 refl refl

at_postfix_operator_plain_apart : IsPoint called (Run NonAtomicMode (body_of rule.postfix_operator)) 115 116 0
unfolding called
at_postfix_operator_plain_apart = at_point called 88 refl refl

at_positive_predicate_operator_plain : IsPoint called (Run NonAtomicMode (body_of rule.positive_predicate_operator)) 117 118 0
unfolding called
at_positive_predicate_operator_plain = at_point called 89 refl refl

at_negative_predicate_operator_plain : IsPoint called (Run NonAtomicMode (body_of rule.negative_predicate_operator)) 119 120 0
unfolding called
at_negative_predicate_operator_plain = at_point called 90 refl refl

at_sequence_operator_plain : IsPoint called (Run NonAtomicMode (body_of rule.sequence_operator)) 121 122 0
unfolding called
at_sequence_operator_plain = at_point called 91 refl refl

at_choice_operator_plain : IsPoint called (Run NonAtomicMode (body_of rule.choice_operator)) 123 124 0
unfolding called
at_choice_operator_plain = at_point called 92 refl refl

at_optional_operator_plain : IsPoint called (Run NonAtomicMode (body_of rule.optional_operator)) 125 126 0
unfolding called
at_optional_operator_plain = at_point called 93 refl refl

at_repeat_operator_plain : IsPoint called (Run NonAtomicMode (body_of rule.repeat_operator)) 127 128 0
unfolding called
at_repeat_operator_plain = at_point called 94 refl refl

at_repeat_once_operator_plain : IsPoint called (Run NonAtomicMode (body_of rule.repeat_once_operator)) 129 130 0
unfolding called
at_repeat_once_operator_plain = at_point called 95 refl refl

at_repeat_exact_plain : IsPoint called (Run NonAtomicMode (body_of rule.repeat_exact)) 131 132 0
unfolding called
at_repeat_exact_plain = at_point called 96 refl refl

at_repeat_min_plain : IsPoint called (Run NonAtomicMode (body_of rule.repeat_min)) 133 134 0
unfolding called
at_repeat_min_plain = at_point called 97 refl refl

at_repeat_max_plain : IsPoint called (Run NonAtomicMode (body_of rule.repeat_max)) 135 136 0
unfolding called
at_repeat_max_plain = at_point called 98 refl refl

at_repeat_min_max_plain : IsPoint called (Run NonAtomicMode (body_of rule.repeat_min_max)) 137 138 0
unfolding called
at_repeat_min_max_plain = at_point called 99 refl refl

at_number_atomic : IsPoint called (Run AtomicMode (body_of rule.number)) 139 140 0
unfolding called
at_number_atomic = at_point called 100 refl refl

at_integer_atomic : IsPoint called (Run AtomicMode (body_of rule.integer)) 141 142 0
unfolding called
at_integer_atomic = at_point called 101 refl refl

at_comma_plain : IsPoint called (Run NonAtomicMode (body_of rule.comma)) 143 144 0
unfolding called
at_comma_plain = at_point called 102 refl refl

at_push__plain : IsPoint called (Run NonAtomicMode (body_of rule._push)) 145 146 0
unfolding called
at_push__plain = at_point called 103 refl refl

at_push_literal__plain : IsPoint called (Run NonAtomicMode (body_of rule._push_literal)) 147 148 0
unfolding called
at_push_literal__plain = at_point called 104 refl refl

at_peek_slice_plain : IsPoint called (Run NonAtomicMode (body_of rule.peek_slice)) 149 150 0
unfolding called
at_peek_slice_plain = at_point called 105 refl refl

at_identifier_atomic : IsPoint called (Run AtomicMode (body_of rule.identifier)) 151 152 0
unfolding called
at_identifier_atomic = at_point called 106 refl refl

at_alpha_plain_apart : IsPoint called (Run NonAtomicMode (body_of rule.alpha)) 153 154 0
unfolding called
at_alpha_plain_apart = at_point called 107 refl refl

at_alpha_num_plain_apart : IsPoint called (Run NonAtomicMode (body_of rule.alpha_num)) 155 156 0
unfolding called
at_alpha_num_plain_apart = at_point called 108 refl refl

at_string_compound : IsPoint called (Run CompoundAtomicMode (body_of rule.string)) 157 158 0
unfolding called
at_string_compound = at_point called 109 refl refl

at_insensitive_string_plain : IsPoint called (Run NonAtomicMode (body_of rule.insensitive_string)) 159 160 0
unfolding called
at_insensitive_string_plain = at_point called 110 refl refl

at_range_plain : IsPoint called (Run NonAtomicMode (body_of rule.range)) 161 162 0
unfolding called
at_range_plain = at_point called 111 refl refl

at_character_compound : IsPoint called (Run CompoundAtomicMode (body_of rule.character)) 163 164 0
unfolding called
at_character_compound = at_point called 112 refl refl

at_inner_str_atomic : IsPoint called (Run AtomicMode (body_of rule.inner_str)) 165 166 0
unfolding called
at_inner_str_atomic = at_point called 113 refl refl

at_inner_chr_atomic : IsPoint called (Run AtomicMode (body_of rule.inner_chr)) 167 168 0
unfolding called
at_inner_chr_atomic = at_point called 114 refl refl

at_escape_atomic : IsPoint called (Run AtomicMode (body_of rule.escape)) 169 170 0
unfolding called
at_escape_atomic = at_point called 115 refl refl

at_code_atomic : IsPoint called (Run AtomicMode (body_of rule.code)) 171 172 0
unfolding called
at_code_atomic = at_point called 116 refl refl

at_unicode_atomic : IsPoint called (Run AtomicMode (body_of rule.unicode)) 173 174 0
unfolding called
at_unicode_atomic = at_point called 117 refl refl

at_hex_digit_atomic : IsPoint called (Run AtomicMode (body_of rule.hex_digit)) 175 176 0
unfolding called
at_hex_digit_atomic = at_point called 118 refl refl

at_quote_plain : IsPoint called (Run NonAtomicMode (body_of rule.quote)) 177 178 0
unfolding called
at_quote_plain = at_point called 119 refl refl

at_single_quote_plain : IsPoint called (Run NonAtomicMode (body_of rule.single_quote)) 179 180 0
unfolding called
at_single_quote_plain = at_point called 120 refl refl

at_range_operator_plain : IsPoint called (Run NonAtomicMode (body_of rule.range_operator)) 181 182 0
unfolding called
at_range_operator_plain = at_point called 121 refl refl

at_newline_plain_apart : IsPoint called (Run NonAtomicMode (body_of rule.newline)) 183 184 0
unfolding called
at_newline_plain_apart = at_point called 122 refl refl

at_WHITESPACE_atomic_apart : IsPoint called (Run AtomicMode (body_of rule.WHITESPACE)) 185 186 0
unfolding called
at_WHITESPACE_atomic_apart = at_point called 123 refl refl

at_line_comment_plain_apart : IsPoint called (Run NonAtomicMode (body_of rule.line_comment)) 187 188 0
unfolding called
at_line_comment_plain_apart = at_point called 124 refl refl

at_block_comment_plain_apart : IsPoint called (Run NonAtomicMode (body_of rule.block_comment)) 189 190 0
unfolding called
at_block_comment_plain_apart = at_point called 125 refl refl

at_COMMENT_atomic_apart : IsPoint called (Run AtomicMode (body_of rule.COMMENT)) 191 192 0
unfolding called
at_COMMENT_atomic_apart = at_point called 126 refl refl

at_space_plain_apart : IsPoint called (Run NonAtomicMode (body_of rule.space)) 193 194 0
unfolding called
at_space_plain_apart = at_point called 127 refl refl

at_grammar_doc_compound : IsPoint called (Run CompoundAtomicMode (body_of rule.grammar_doc)) 195 196 0
unfolding called
at_grammar_doc_compound = at_point called 128 refl refl

at_line_doc_compound : IsPoint called (Run CompoundAtomicMode (body_of rule.line_doc)) 197 198 0
unfolding called
at_line_doc_compound = at_point called 129 refl refl

at_inner_doc_atomic : IsPoint called (Run AtomicMode (body_of rule.inner_doc)) 199 200 0
unfolding called
at_inner_doc_atomic = at_point called 130 refl refl

at_number_atomic_apart : IsPoint called (Run AtomicMode (body_of rule.number)) 986 987 0
unfolding called
at_number_atomic_apart = at_point called 131 refl refl

at_quote_compound : IsPoint called (Run CompoundAtomicMode (body_of rule.quote)) 1167 1168 0
unfolding called
at_quote_compound = at_point called 132 refl refl

at_single_quote_compound : IsPoint called (Run CompoundAtomicMode (body_of rule.single_quote)) 1216 1217 0
unfolding called
at_single_quote_compound = at_point called 133 refl refl

at_escape_atomic_apart : IsPoint called (Run AtomicMode (body_of rule.escape)) 1223 1224 0
unfolding called
at_escape_atomic_apart = at_point called 134 refl refl

at_inner_str_atomic_apart : IsPoint called (Run AtomicMode (body_of rule.inner_str)) 1225 1226 0
unfolding called
at_inner_str_atomic_apart = at_point called 135 refl refl

at_code_atomic_apart : IsPoint called (Run AtomicMode (body_of rule.code)) 1234 1235 0
unfolding called
at_code_atomic_apart = at_point called 136 refl refl

at_unicode_atomic_apart : IsPoint called (Run AtomicMode (body_of rule.unicode)) 1236 1237 0
unfolding called
at_unicode_atomic_apart = at_point called 137 refl refl

module _ (classes : Classes) (code : CodeLists) (is : IsFastCode code) where
  abbrev s : Setting
  s = record {
    exact = false;
    ops = fast_ops;
    texts = texts;
    sets = fast_sets;
    called = called;
    classes = classes;
    code = code;
    has = is;
    fail = refl;
  }

  call_of_EOI : Laid s (Run NonAtomicMode (Ident (name_of rule.EOI))) 3 1 2
  unfolding whitespace comment
  call_of_EOI = end s 69 70 tt refl refl refl refl

  call_of_grammar_rules : Laid s (Run NonAtomicMode (Ident (name_of rule.grammar_rules))) 4 1 2
  unfolding whitespace comment
  call_of_grammar_rules = enters s rule.grammar_rules 71 72 at_grammar_rules_plain_apart refl refl refl refl refl

  call_of_grammar_rule : Laid s (Run NonAtomicMode (Ident (name_of rule.grammar_rule))) 5 1 2
  unfolding whitespace comment
  call_of_grammar_rule = calls s rule.grammar_rule 73 74 at_grammar_rule_plain refl refl refl refl refl

  call_of_assignment_operator : Laid s (Run NonAtomicMode (Ident (name_of rule.assignment_operator))) 6 1 2
  unfolding whitespace comment
  call_of_assignment_operator = calls s rule.assignment_operator 75 76 at_assignment_operator_plain refl refl refl refl refl

  call_of_opening_brace : Laid s (Run NonAtomicMode (Ident (name_of rule.opening_brace))) 7 1 2
  unfolding whitespace comment
  call_of_opening_brace = calls s rule.opening_brace 77 78 at_opening_brace_plain refl refl refl refl refl

  call_of_closing_brace : Laid s (Run NonAtomicMode (Ident (name_of rule.closing_brace))) 8 1 2
  unfolding whitespace comment
  call_of_closing_brace = calls s rule.closing_brace 79 80 at_closing_brace_plain refl refl refl refl refl

  call_of_opening_paren : Laid s (Run NonAtomicMode (Ident (name_of rule.opening_paren))) 9 1 2
  unfolding whitespace comment
  call_of_opening_paren = calls s rule.opening_paren 81 82 at_opening_paren_plain refl refl refl refl refl

  call_of_closing_paren : Laid s (Run NonAtomicMode (Ident (name_of rule.closing_paren))) 10 1 2
  unfolding whitespace comment
  call_of_closing_paren = calls s rule.closing_paren 83 84 at_closing_paren_plain refl refl refl refl refl

  call_of_opening_brack : Laid s (Run NonAtomicMode (Ident (name_of rule.opening_brack))) 11 1 2
  unfolding whitespace comment
  call_of_opening_brack = calls s rule.opening_brack 85 86 at_opening_brack_plain refl refl refl refl refl

  call_of_closing_brack : Laid s (Run NonAtomicMode (Ident (name_of rule.closing_brack))) 12 1 2
  unfolding whitespace comment
  call_of_closing_brack = calls s rule.closing_brack 87 88 at_closing_brack_plain refl refl refl refl refl

  call_of_modifier : Laid s (Run NonAtomicMode (Ident (name_of rule.modifier))) 13 1 2
  unfolding whitespace comment
  call_of_modifier = enters s rule.modifier 89 90 at_modifier_plain_apart refl refl refl refl refl

  call_of_silent_modifier : Laid s (Run NonAtomicMode (Ident (name_of rule.silent_modifier))) 14 1 2
  unfolding whitespace comment
  call_of_silent_modifier = calls s rule.silent_modifier 91 92 at_silent_modifier_plain refl refl refl refl refl

  call_of_atomic_modifier : Laid s (Run NonAtomicMode (Ident (name_of rule.atomic_modifier))) 15 1 2
  unfolding whitespace comment
  call_of_atomic_modifier = calls s rule.atomic_modifier 93 94 at_atomic_modifier_plain refl refl refl refl refl

  call_of_compound_atomic_modifier : Laid s (Run NonAtomicMode (Ident (name_of rule.compound_atomic_modifier))) 16 1 2
  unfolding whitespace comment
  call_of_compound_atomic_modifier = calls s rule.compound_atomic_modifier 95 96 at_compound_atomic_modifier_plain refl refl refl refl refl

  call_of_non_atomic_modifier : Laid s (Run NonAtomicMode (Ident (name_of rule.non_atomic_modifier))) 17 1 2
  unfolding whitespace comment
  call_of_non_atomic_modifier = calls s rule.non_atomic_modifier 97 98 at_non_atomic_modifier_plain refl refl refl refl refl

  call_of_tag_id : Laid s (Run NonAtomicMode (Ident (name_of rule.tag_id))) 18 1 2
  unfolding whitespace comment
  call_of_tag_id = calls s rule.tag_id 99 100 at_tag_id_atomic refl refl refl refl refl

  call_of_node_tag : Laid s (Run NonAtomicMode (Ident (name_of rule.node_tag))) 19 1 2
  unfolding whitespace comment
  call_of_node_tag = enters s rule.node_tag 101 102 at_node_tag_plain_apart refl refl refl refl refl

  call_of_expression : Laid s (Run NonAtomicMode (Ident (name_of rule.expression))) 20 1 2
  unfolding whitespace comment
  call_of_expression = calls s rule.expression 103 104 at_expression_plain refl refl refl refl refl

  call_of_term : Laid s (Run NonAtomicMode (Ident (name_of rule.term))) 21 1 2
  unfolding whitespace comment
  call_of_term = calls s rule.term 105 106 at_term_plain refl refl refl refl refl

  call_of_node : Laid s (Run NonAtomicMode (Ident (name_of rule.node))) 22 1 2
  unfolding whitespace comment
  call_of_node = enters s rule.node 107 108 at_node_plain_apart refl refl refl refl refl

  call_of_terminal : Laid s (Run NonAtomicMode (Ident (name_of rule.terminal))) 23 1 2
  unfolding whitespace comment
  call_of_terminal = enters s rule.terminal 109 110 at_terminal_plain_apart refl refl refl refl refl

  call_of_prefix_operator : Laid s (Run NonAtomicMode (Ident (name_of rule.prefix_operator))) 24 1 2
  unfolding whitespace comment
  call_of_prefix_operator = enters s rule.prefix_operator 111 112 at_prefix_operator_plain_apart refl refl refl refl refl

  call_of_infix_operator : Laid s (Run NonAtomicMode (Ident (name_of rule.infix_operator))) 25 1 2
  unfolding whitespace comment
  call_of_infix_operator = enters s rule.infix_operator 113 114 at_infix_operator_plain_apart refl refl refl refl refl

  call_of_postfix_operator : Laid s (Run NonAtomicMode (Ident (name_of rule.postfix_operator))) 26 1 2
  unfolding whitespace comment
  call_of_postfix_operator = enters s rule.postfix_operator 115 116 at_postfix_operator_plain_apart refl refl refl refl refl

  call_of_positive_predicate_operator : Laid s (Run NonAtomicMode (Ident (name_of rule.positive_predicate_operator))) 27 1 2
  unfolding whitespace comment
  call_of_positive_predicate_operator = calls s rule.positive_predicate_operator 117 118 at_positive_predicate_operator_plain refl refl refl refl refl

  call_of_negative_predicate_operator : Laid s (Run NonAtomicMode (Ident (name_of rule.negative_predicate_operator))) 28 1 2
  unfolding whitespace comment
  call_of_negative_predicate_operator = calls s rule.negative_predicate_operator 119 120 at_negative_predicate_operator_plain refl refl refl refl refl

  call_of_sequence_operator : Laid s (Run NonAtomicMode (Ident (name_of rule.sequence_operator))) 29 1 2
  unfolding whitespace comment
  call_of_sequence_operator = calls s rule.sequence_operator 121 122 at_sequence_operator_plain refl refl refl refl refl

  call_of_choice_operator : Laid s (Run NonAtomicMode (Ident (name_of rule.choice_operator))) 30 1 2
  unfolding whitespace comment
  call_of_choice_operator = calls s rule.choice_operator 123 124 at_choice_operator_plain refl refl refl refl refl

  call_of_optional_operator : Laid s (Run NonAtomicMode (Ident (name_of rule.optional_operator))) 31 1 2
  unfolding whitespace comment
  call_of_optional_operator = calls s rule.optional_operator 125 126 at_optional_operator_plain refl refl refl refl refl

  call_of_repeat_operator : Laid s (Run NonAtomicMode (Ident (name_of rule.repeat_operator))) 32 1 2
  unfolding whitespace comment
  call_of_repeat_operator = calls s rule.repeat_operator 127 128 at_repeat_operator_plain refl refl refl refl refl

  call_of_repeat_once_operator : Laid s (Run NonAtomicMode (Ident (name_of rule.repeat_once_operator))) 33 1 2
  unfolding whitespace comment
  call_of_repeat_once_operator = calls s rule.repeat_once_operator 129 130 at_repeat_once_operator_plain refl refl refl refl refl

  call_of_repeat_exact : Laid s (Run NonAtomicMode (Ident (name_of rule.repeat_exact))) 34 1 2
  unfolding whitespace comment
  call_of_repeat_exact = calls s rule.repeat_exact 131 132 at_repeat_exact_plain refl refl refl refl refl

  call_of_repeat_min : Laid s (Run NonAtomicMode (Ident (name_of rule.repeat_min))) 35 1 2
  unfolding whitespace comment
  call_of_repeat_min = calls s rule.repeat_min 133 134 at_repeat_min_plain refl refl refl refl refl

  call_of_repeat_max : Laid s (Run NonAtomicMode (Ident (name_of rule.repeat_max))) 36 1 2
  unfolding whitespace comment
  call_of_repeat_max = calls s rule.repeat_max 135 136 at_repeat_max_plain refl refl refl refl refl

  call_of_repeat_min_max : Laid s (Run NonAtomicMode (Ident (name_of rule.repeat_min_max))) 37 1 2
  unfolding whitespace comment
  call_of_repeat_min_max = calls s rule.repeat_min_max 137 138 at_repeat_min_max_plain refl refl refl refl refl

  call_of_number : Laid s (Run NonAtomicMode (Ident (name_of rule.number))) 38 1 2
  unfolding whitespace comment
  call_of_number = calls s rule.number 139 140 at_number_atomic refl refl refl refl refl

  call_of_integer : Laid s (Run NonAtomicMode (Ident (name_of rule.integer))) 39 1 2
  unfolding whitespace comment
  call_of_integer = calls s rule.integer 141 142 at_integer_atomic refl refl refl refl refl

  call_of_comma : Laid s (Run NonAtomicMode (Ident (name_of rule.comma))) 40 1 2
  unfolding whitespace comment
  call_of_comma = calls s rule.comma 143 144 at_comma_plain refl refl refl refl refl

  call_of_push_ : Laid s (Run NonAtomicMode (Ident (name_of rule._push))) 41 1 2
  unfolding whitespace comment
  call_of_push_ = calls s rule._push 145 146 at_push__plain refl refl refl refl refl

  call_of_push_literal_ : Laid s (Run NonAtomicMode (Ident (name_of rule._push_literal))) 42 1 2
  unfolding whitespace comment
  call_of_push_literal_ = calls s rule._push_literal 147 148 at_push_literal__plain refl refl refl refl refl

  call_of_peek_slice : Laid s (Run NonAtomicMode (Ident (name_of rule.peek_slice))) 43 1 2
  unfolding whitespace comment
  call_of_peek_slice = calls s rule.peek_slice 149 150 at_peek_slice_plain refl refl refl refl refl

  call_of_identifier : Laid s (Run NonAtomicMode (Ident (name_of rule.identifier))) 44 1 2
  unfolding whitespace comment
  call_of_identifier = calls s rule.identifier 151 152 at_identifier_atomic refl refl refl refl refl

  call_of_alpha : Laid s (Run NonAtomicMode (Ident (name_of rule.alpha))) 45 1 2
  unfolding whitespace comment
  call_of_alpha = enters s rule.alpha 153 154 at_alpha_plain_apart refl refl refl refl refl

  call_of_alpha_num : Laid s (Run NonAtomicMode (Ident (name_of rule.alpha_num))) 46 1 2
  unfolding whitespace comment
  call_of_alpha_num = enters s rule.alpha_num 155 156 at_alpha_num_plain_apart refl refl refl refl refl

  call_of_string : Laid s (Run NonAtomicMode (Ident (name_of rule.string))) 47 1 2
  unfolding whitespace comment
  call_of_string = calls s rule.string 157 158 at_string_compound refl refl refl refl refl

  call_of_insensitive_string : Laid s (Run NonAtomicMode (Ident (name_of rule.insensitive_string))) 48 1 2
  unfolding whitespace comment
  call_of_insensitive_string = calls s rule.insensitive_string 159 160 at_insensitive_string_plain refl refl refl refl refl

  call_of_range : Laid s (Run NonAtomicMode (Ident (name_of rule.range))) 49 1 2
  unfolding whitespace comment
  call_of_range = calls s rule.range 161 162 at_range_plain refl refl refl refl refl

  call_of_character : Laid s (Run NonAtomicMode (Ident (name_of rule.character))) 50 1 2
  unfolding whitespace comment
  call_of_character = calls s rule.character 163 164 at_character_compound refl refl refl refl refl

  call_of_inner_str : Laid s (Run NonAtomicMode (Ident (name_of rule.inner_str))) 51 1 2
  unfolding whitespace comment
  call_of_inner_str = calls s rule.inner_str 165 166 at_inner_str_atomic refl refl refl refl refl

  call_of_inner_chr : Laid s (Run NonAtomicMode (Ident (name_of rule.inner_chr))) 52 1 2
  unfolding whitespace comment
  call_of_inner_chr = calls s rule.inner_chr 167 168 at_inner_chr_atomic refl refl refl refl refl

  call_of_escape : Laid s (Run NonAtomicMode (Ident (name_of rule.escape))) 53 1 2
  unfolding whitespace comment
  call_of_escape = calls s rule.escape 169 170 at_escape_atomic refl refl refl refl refl

  call_of_code : Laid s (Run NonAtomicMode (Ident (name_of rule.code))) 54 1 2
  unfolding whitespace comment
  call_of_code = calls s rule.code 171 172 at_code_atomic refl refl refl refl refl

  call_of_unicode : Laid s (Run NonAtomicMode (Ident (name_of rule.unicode))) 55 1 2
  unfolding whitespace comment
  call_of_unicode = calls s rule.unicode 173 174 at_unicode_atomic refl refl refl refl refl

  call_of_hex_digit : Laid s (Run NonAtomicMode (Ident (name_of rule.hex_digit))) 56 1 2
  unfolding whitespace comment
  call_of_hex_digit = calls s rule.hex_digit 175 176 at_hex_digit_atomic refl refl refl refl refl

  call_of_quote : Laid s (Run NonAtomicMode (Ident (name_of rule.quote))) 57 1 2
  unfolding whitespace comment
  call_of_quote = calls s rule.quote 177 178 at_quote_plain refl refl refl refl refl

  call_of_single_quote : Laid s (Run NonAtomicMode (Ident (name_of rule.single_quote))) 58 1 2
  unfolding whitespace comment
  call_of_single_quote = calls s rule.single_quote 179 180 at_single_quote_plain refl refl refl refl refl

  call_of_range_operator : Laid s (Run NonAtomicMode (Ident (name_of rule.range_operator))) 59 1 2
  unfolding whitespace comment
  call_of_range_operator = calls s rule.range_operator 181 182 at_range_operator_plain refl refl refl refl refl

  call_of_newline : Laid s (Run NonAtomicMode (Ident (name_of rule.newline))) 60 1 2
  unfolding whitespace comment
  call_of_newline = enters s rule.newline 183 184 at_newline_plain_apart refl refl refl refl refl

  call_of_WHITESPACE : Laid s (Run NonAtomicMode (Ident (name_of rule.WHITESPACE))) 61 1 2
  unfolding whitespace comment
  call_of_WHITESPACE = enters s rule.WHITESPACE 185 186 at_WHITESPACE_atomic_apart refl refl refl refl refl

  call_of_line_comment : Laid s (Run NonAtomicMode (Ident (name_of rule.line_comment))) 62 1 2
  unfolding whitespace comment
  call_of_line_comment = enters s rule.line_comment 187 188 at_line_comment_plain_apart refl refl refl refl refl

  call_of_block_comment : Laid s (Run NonAtomicMode (Ident (name_of rule.block_comment))) 63 1 2
  unfolding whitespace comment
  call_of_block_comment = enters s rule.block_comment 189 190 at_block_comment_plain_apart refl refl refl refl refl

  call_of_COMMENT : Laid s (Run NonAtomicMode (Ident (name_of rule.COMMENT))) 64 1 2
  unfolding whitespace comment
  call_of_COMMENT = enters s rule.COMMENT 191 192 at_COMMENT_atomic_apart refl refl refl refl refl

  call_of_space : Laid s (Run NonAtomicMode (Ident (name_of rule.space))) 65 1 2
  unfolding whitespace comment
  call_of_space = enters s rule.space 193 194 at_space_plain_apart refl refl refl refl refl

  call_of_grammar_doc : Laid s (Run NonAtomicMode (Ident (name_of rule.grammar_doc))) 66 1 2
  unfolding whitespace comment
  call_of_grammar_doc = calls s rule.grammar_doc 195 196 at_grammar_doc_compound refl refl refl refl refl

  call_of_line_doc : Laid s (Run NonAtomicMode (Ident (name_of rule.line_doc))) 67 1 2
  unfolding whitespace comment
  call_of_line_doc = calls s rule.line_doc 197 198 at_line_doc_compound refl refl refl refl refl

  call_of_inner_doc : Laid s (Run NonAtomicMode (Ident (name_of rule.inner_doc))) 68 1 2
  unfolding whitespace comment
  call_of_inner_doc = calls s rule.inner_doc 199 200 at_inner_doc_atomic refl refl refl refl refl

  grammar_rules_plain_apart : Laid s (Run NonAtomicMode (body_of rule.grammar_rules)) 71 72 0
  unfolding whitespace comment
  grammar_rules_plain_apart = seq 201 202 (seq 203 204 (seq 205 206 (start s tt refl) (trivia_in_place s (seq 207 207 (many s 208 (op.IsOne 0 208 207) refl (λ c z. z) (tight_between s) refl (inl (tested s 0 (outside_sub s.classes ((32, 32) ∷ (9, 9) ∷ (10, 10) ∷ (13, 13) ∷ []) rule.WHITESPACE refl refl refl (outside_choice s.classes ((32, 32) ∷ (9, 9) ∷ []) ((10, 10) ∷ (13, 13) ∷ []) false false (outside_set s.classes (one_of_two s.classes (one_text s.classes 32) (one_text s.classes 9))) (outside_sub s.classes ((10, 10) ∷ (13, 13) ∷ []) rule.newline refl refl refl (outside_choice s.classes ((10, 10) ∷ []) ((13, 13) ∷ []) false false (outside_set s.classes (one_text s.classes 10)) (outside_text s.classes))))) refl refl refl)) (within s rule.WHITESPACE refl refl refl (either s 209 208 210 refl (at_once s) (one_of s 1 (one_of_two s.classes (one_text s.classes 32) (one_text s.classes 9)) refl refl refl) (tested s 2 (outside_sub s.classes ((10, 10) ∷ (13, 13) ∷ []) rule.newline refl refl refl (outside_choice s.classes ((10, 10) ∷ []) ((13, 13) ∷ []) false false (outside_set s.classes (one_text s.classes 10)) (outside_text s.classes))) refl refl refl) (within s rule.newline refl refl refl (either s 211 210 211 refl (at_once s) (word s 30 refl refl refl) (at_once s) (word s 31 refl refl refl)))))) (between s) (many s 212 (op.IsOne 3 212 206) refl (λ c z. z) (tight_between s) refl (inl (tested s 3 (outside_seq s.classes ((47, 47) ∷ (47, 47) ∷ []) false (outside_sub s.classes ((47, 47) ∷ (47, 47) ∷ []) rule.COMMENT refl refl refl (outside_choice s.classes ((47, 47) ∷ []) ((47, 47) ∷ []) false false (outside_sub s.classes ((47, 47) ∷ []) rule.block_comment refl refl refl (outside_seq s.classes ((47, 47) ∷ []) false (outside_seq s.classes ((47, 47) ∷ []) false (outside_text s.classes)))) (outside_sub s.classes ((47, 47) ∷ []) rule.line_comment refl refl refl (outside_seq s.classes ((47, 47) ∷ []) false (outside_seq s.classes ((47, 47) ∷ []) false (outside_text s.classes))))))) refl refl refl)) (tries s 213 215 215 214 refl (enters s rule.COMMENT 191 192 at_COMMENT_atomic_apart refl refl refl refl refl) (between s) (many s 216 (op.IsOne 0 216 214) refl (λ c z. z) (tight_between s) refl (inl (tested s 0 (outside_sub s.classes ((32, 32) ∷ (9, 9) ∷ (10, 10) ∷ (13, 13) ∷ []) rule.WHITESPACE refl refl refl (outside_choice s.classes ((32, 32) ∷ (9, 9) ∷ []) ((10, 10) ∷ (13, 13) ∷ []) false false (outside_set s.classes (one_of_two s.classes (one_text s.classes 32) (one_text s.classes 9))) (outside_sub s.classes ((10, 10) ∷ (13, 13) ∷ []) rule.newline refl refl refl (outside_choice s.classes ((10, 10) ∷ []) ((13, 13) ∷ []) false false (outside_set s.classes (one_text s.classes 10)) (outside_text s.classes))))) refl refl refl)) (within s rule.WHITESPACE refl refl refl (either s 217 216 218 refl (at_once s) (one_of s 1 (one_of_two s.classes (one_text s.classes 32) (one_text s.classes 9)) refl refl refl) (tested s 2 (outside_sub s.classes ((10, 10) ∷ (13, 13) ∷ []) rule.newline refl refl refl (outside_choice s.classes ((10, 10) ∷ []) ((13, 13) ∷ []) false false (outside_set s.classes (one_text s.classes 10)) (outside_text s.classes))) refl refl refl) (within s rule.newline refl refl refl (either s 219 218 219 refl (at_once s) (word s 30 refl refl refl) (at_once s) (word s 31 refl refl refl)))))) refl)))) (turns s 220 222 223 224 225 refl (noted s 4 221 refl (outside_call s.classes ((47, 47) ∷ []) false rule.grammar_doc refl refl refl (outside_seq s.classes ((47, 47) ∷ []) false (outside_seq s.classes ((47, 47) ∷ []) false (outside_text s.classes)))) refl refl refl refl) refl refl (trivia_in_place s (seq 226 226 (many s 227 (op.IsOne 0 227 226) refl (λ c z. z) (tight_between s) refl (inl (tested s 0 (outside_sub s.classes ((32, 32) ∷ (9, 9) ∷ (10, 10) ∷ (13, 13) ∷ []) rule.WHITESPACE refl refl refl (outside_choice s.classes ((32, 32) ∷ (9, 9) ∷ []) ((10, 10) ∷ (13, 13) ∷ []) false false (outside_set s.classes (one_of_two s.classes (one_text s.classes 32) (one_text s.classes 9))) (outside_sub s.classes ((10, 10) ∷ (13, 13) ∷ []) rule.newline refl refl refl (outside_choice s.classes ((10, 10) ∷ []) ((13, 13) ∷ []) false false (outside_set s.classes (one_text s.classes 10)) (outside_text s.classes))))) refl refl refl)) (within s rule.WHITESPACE refl refl refl (either s 228 227 229 refl (at_once s) (one_of s 1 (one_of_two s.classes (one_text s.classes 32) (one_text s.classes 9)) refl refl refl) (tested s 2 (outside_sub s.classes ((10, 10) ∷ (13, 13) ∷ []) rule.newline refl refl refl (outside_choice s.classes ((10, 10) ∷ []) ((13, 13) ∷ []) false false (outside_set s.classes (one_text s.classes 10)) (outside_text s.classes))) refl refl refl) (within s rule.newline refl refl refl (either s 230 229 230 refl (at_once s) (word s 30 refl refl refl) (at_once s) (word s 31 refl refl refl)))))) (between s) (many s 231 (op.IsOne 3 231 224) refl (λ c z. z) (tight_between s) refl (inl (tested s 3 (outside_seq s.classes ((47, 47) ∷ (47, 47) ∷ []) false (outside_sub s.classes ((47, 47) ∷ (47, 47) ∷ []) rule.COMMENT refl refl refl (outside_choice s.classes ((47, 47) ∷ []) ((47, 47) ∷ []) false false (outside_sub s.classes ((47, 47) ∷ []) rule.block_comment refl refl refl (outside_seq s.classes ((47, 47) ∷ []) false (outside_seq s.classes ((47, 47) ∷ []) false (outside_text s.classes)))) (outside_sub s.classes ((47, 47) ∷ []) rule.line_comment refl refl refl (outside_seq s.classes ((47, 47) ∷ []) false (outside_seq s.classes ((47, 47) ∷ []) false (outside_text s.classes))))))) refl refl refl)) (tries s 232 234 234 233 refl (enters s rule.COMMENT 191 192 at_COMMENT_atomic_apart refl refl refl refl refl) (between s) (many s 235 (op.IsOne 0 235 233) refl (λ c z. z) (tight_between s) refl (inl (tested s 0 (outside_sub s.classes ((32, 32) ∷ (9, 9) ∷ (10, 10) ∷ (13, 13) ∷ []) rule.WHITESPACE refl refl refl (outside_choice s.classes ((32, 32) ∷ (9, 9) ∷ []) ((10, 10) ∷ (13, 13) ∷ []) false false (outside_set s.classes (one_of_two s.classes (one_text s.classes 32) (one_text s.classes 9))) (outside_sub s.classes ((10, 10) ∷ (13, 13) ∷ []) rule.newline refl refl refl (outside_choice s.classes ((10, 10) ∷ []) ((13, 13) ∷ []) false false (outside_set s.classes (one_text s.classes 10)) (outside_text s.classes))))) refl refl refl)) (within s rule.WHITESPACE refl refl refl (either s 236 235 237 refl (at_once s) (one_of s 1 (one_of_two s.classes (one_text s.classes 32) (one_text s.classes 9)) refl refl refl) (tested s 2 (outside_sub s.classes ((10, 10) ∷ (13, 13) ∷ []) rule.newline refl refl refl (outside_choice s.classes ((10, 10) ∷ []) ((13, 13) ∷ []) false false (outside_set s.classes (one_text s.classes 10)) (outside_text s.classes))) refl refl refl) (within s rule.newline refl refl refl (either s 238 237 238 refl (at_once s) (word s 30 refl refl refl) (at_once s) (word s 31 refl refl refl)))))) refl)))) (calls s rule.grammar_doc 195 196 at_grammar_doc_compound refl refl refl refl refl) refl)) (trivia_in_place s (seq 239 239 (many s 240 (op.IsOne 0 240 239) refl (λ c z. z) (tight_between s) refl (inl (tested s 0 (outside_sub s.classes ((32, 32) ∷ (9, 9) ∷ (10, 10) ∷ (13, 13) ∷ []) rule.WHITESPACE refl refl refl (outside_choice s.classes ((32, 32) ∷ (9, 9) ∷ []) ((10, 10) ∷ (13, 13) ∷ []) false false (outside_set s.classes (one_of_two s.classes (one_text s.classes 32) (one_text s.classes 9))) (outside_sub s.classes ((10, 10) ∷ (13, 13) ∷ []) rule.newline refl refl refl (outside_choice s.classes ((10, 10) ∷ []) ((13, 13) ∷ []) false false (outside_set s.classes (one_text s.classes 10)) (outside_text s.classes))))) refl refl refl)) (within s rule.WHITESPACE refl refl refl (either s 241 240 242 refl (at_once s) (one_of s 1 (one_of_two s.classes (one_text s.classes 32) (one_text s.classes 9)) refl refl refl) (tested s 2 (outside_sub s.classes ((10, 10) ∷ (13, 13) ∷ []) rule.newline refl refl refl (outside_choice s.classes ((10, 10) ∷ []) ((13, 13) ∷ []) false false (outside_set s.classes (one_text s.classes 10)) (outside_text s.classes))) refl refl refl) (within s rule.newline refl refl refl (either s 243 242 243 refl (at_once s) (word s 30 refl refl refl) (at_once s) (word s 31 refl refl refl)))))) (between s) (many s 244 (op.IsOne 3 244 204) refl (λ c z. z) (tight_between s) refl (inl (tested s 3 (outside_seq s.classes ((47, 47) ∷ (47, 47) ∷ []) false (outside_sub s.classes ((47, 47) ∷ (47, 47) ∷ []) rule.COMMENT refl refl refl (outside_choice s.classes ((47, 47) ∷ []) ((47, 47) ∷ []) false false (outside_sub s.classes ((47, 47) ∷ []) rule.block_comment refl refl refl (outside_seq s.classes ((47, 47) ∷ []) false (outside_seq s.classes ((47, 47) ∷ []) false (outside_text s.classes)))) (outside_sub s.classes ((47, 47) ∷ []) rule.line_comment refl refl refl (outside_seq s.classes ((47, 47) ∷ []) false (outside_seq s.classes ((47, 47) ∷ []) false (outside_text s.classes))))))) refl refl refl)) (tries s 245 247 247 246 refl (enters s rule.COMMENT 191 192 at_COMMENT_atomic_apart refl refl refl refl refl) (between s) (many s 248 (op.IsOne 0 248 246) refl (λ c z. z) (tight_between s) refl (inl (tested s 0 (outside_sub s.classes ((32, 32) ∷ (9, 9) ∷ (10, 10) ∷ (13, 13) ∷ []) rule.WHITESPACE refl refl refl (outside_choice s.classes ((32, 32) ∷ (9, 9) ∷ []) ((10, 10) ∷ (13, 13) ∷ []) false false (outside_set s.classes (one_of_two s.classes (one_text s.classes 32) (one_text s.classes 9))) (outside_sub s.classes ((10, 10) ∷ (13, 13) ∷ []) rule.newline refl refl refl (outside_choice s.classes ((10, 10) ∷ []) ((13, 13) ∷ []) false false (outside_set s.classes (one_text s.classes 10)) (outside_text s.classes))))) refl refl refl)) (within s rule.WHITESPACE refl refl refl (either s 249 248 250 refl (at_once s) (one_of s 1 (one_of_two s.classes (one_text s.classes 32) (one_text s.classes 9)) refl refl refl) (tested s 2 (outside_sub s.classes ((10, 10) ∷ (13, 13) ∷ []) rule.newline refl refl refl (outside_choice s.classes ((10, 10) ∷ []) ((13, 13) ∷ []) false false (outside_set s.classes (one_text s.classes 10)) (outside_text s.classes))) refl refl refl) (within s rule.newline refl refl refl (either s 251 250 251 refl (at_once s) (word s 30 refl refl refl) (at_once s) (word s 31 refl refl refl)))))) refl)))) (turns s 252 254 255 256 257 refl (noted s 5 253 refl (outside_call s.classes ((95, 95) ∷ (97, 122) ∷ (65, 90) ∷ (47, 47) ∷ []) true rule.grammar_rule refl refl refl (outside_choice s.classes ((95, 95) ∷ (97, 122) ∷ (65, 90) ∷ []) ((47, 47) ∷ []) true true (outside_seq s.classes ((95, 95) ∷ (97, 122) ∷ (65, 90) ∷ []) true (outside_seq s.classes ((95, 95) ∷ (97, 122) ∷ (65, 90) ∷ []) true (outside_seq s.classes ((95, 95) ∷ (97, 122) ∷ (65, 90) ∷ []) true (outside_seq s.classes ((95, 95) ∷ (97, 122) ∷ (65, 90) ∷ []) true (outside_seq s.classes ((95, 95) ∷ (97, 122) ∷ (65, 90) ∷ []) true (outside_call s.classes ((95, 95) ∷ (97, 122) ∷ (65, 90) ∷ []) false rule.identifier refl refl refl (outside_seq s.classes ((95, 95) ∷ (97, 122) ∷ (65, 90) ∷ []) false (outside_not s.classes ((95, 95) ∷ (97, 122) ∷ (65, 90) ∷ []) (tight_atomic s) (outside_set s.classes (one_of_two s.classes (one_text s.classes 95) (one_called s.classes rule.alpha refl refl refl (one_of_two s.classes (one_range s.classes 97 122) (one_range s.classes 65 90))))))))))))) (outside_call s.classes ((47, 47) ∷ []) false rule.line_doc refl refl refl (outside_seq s.classes ((47, 47) ∷ []) false (outside_seq s.classes ((47, 47) ∷ []) false (outside_text s.classes)))))) refl refl refl refl) refl refl (trivia_in_place s (seq 258 258 (many s 259 (op.IsOne 0 259 258) refl (λ c z. z) (tight_between s) refl (inl (tested s 0 (outside_sub s.classes ((32, 32) ∷ (9, 9) ∷ (10, 10) ∷ (13, 13) ∷ []) rule.WHITESPACE refl refl refl (outside_choice s.classes ((32, 32) ∷ (9, 9) ∷ []) ((10, 10) ∷ (13, 13) ∷ []) false false (outside_set s.classes (one_of_two s.classes (one_text s.classes 32) (one_text s.classes 9))) (outside_sub s.classes ((10, 10) ∷ (13, 13) ∷ []) rule.newline refl refl refl (outside_choice s.classes ((10, 10) ∷ []) ((13, 13) ∷ []) false false (outside_set s.classes (one_text s.classes 10)) (outside_text s.classes))))) refl refl refl)) (within s rule.WHITESPACE refl refl refl (either s 260 259 261 refl (at_once s) (one_of s 1 (one_of_two s.classes (one_text s.classes 32) (one_text s.classes 9)) refl refl refl) (tested s 2 (outside_sub s.classes ((10, 10) ∷ (13, 13) ∷ []) rule.newline refl refl refl (outside_choice s.classes ((10, 10) ∷ []) ((13, 13) ∷ []) false false (outside_set s.classes (one_text s.classes 10)) (outside_text s.classes))) refl refl refl) (within s rule.newline refl refl refl (either s 262 261 262 refl (at_once s) (word s 30 refl refl refl) (at_once s) (word s 31 refl refl refl)))))) (between s) (many s 263 (op.IsOne 3 263 256) refl (λ c z. z) (tight_between s) refl (inl (tested s 3 (outside_seq s.classes ((47, 47) ∷ (47, 47) ∷ []) false (outside_sub s.classes ((47, 47) ∷ (47, 47) ∷ []) rule.COMMENT refl refl refl (outside_choice s.classes ((47, 47) ∷ []) ((47, 47) ∷ []) false false (outside_sub s.classes ((47, 47) ∷ []) rule.block_comment refl refl refl (outside_seq s.classes ((47, 47) ∷ []) false (outside_seq s.classes ((47, 47) ∷ []) false (outside_text s.classes)))) (outside_sub s.classes ((47, 47) ∷ []) rule.line_comment refl refl refl (outside_seq s.classes ((47, 47) ∷ []) false (outside_seq s.classes ((47, 47) ∷ []) false (outside_text s.classes))))))) refl refl refl)) (tries s 264 266 266 265 refl (enters s rule.COMMENT 191 192 at_COMMENT_atomic_apart refl refl refl refl refl) (between s) (many s 267 (op.IsOne 0 267 265) refl (λ c z. z) (tight_between s) refl (inl (tested s 0 (outside_sub s.classes ((32, 32) ∷ (9, 9) ∷ (10, 10) ∷ (13, 13) ∷ []) rule.WHITESPACE refl refl refl (outside_choice s.classes ((32, 32) ∷ (9, 9) ∷ []) ((10, 10) ∷ (13, 13) ∷ []) false false (outside_set s.classes (one_of_two s.classes (one_text s.classes 32) (one_text s.classes 9))) (outside_sub s.classes ((10, 10) ∷ (13, 13) ∷ []) rule.newline refl refl refl (outside_choice s.classes ((10, 10) ∷ []) ((13, 13) ∷ []) false false (outside_set s.classes (one_text s.classes 10)) (outside_text s.classes))))) refl refl refl)) (within s rule.WHITESPACE refl refl refl (either s 268 267 269 refl (at_once s) (one_of s 1 (one_of_two s.classes (one_text s.classes 32) (one_text s.classes 9)) refl refl refl) (tested s 2 (outside_sub s.classes ((10, 10) ∷ (13, 13) ∷ []) rule.newline refl refl refl (outside_choice s.classes ((10, 10) ∷ []) ((13, 13) ∷ []) false false (outside_set s.classes (one_text s.classes 10)) (outside_text s.classes))) refl refl refl) (within s rule.newline refl refl refl (either s 270 269 270 refl (at_once s) (word s 30 refl refl refl) (at_once s) (word s 31 refl refl refl)))))) refl)))) (calls s rule.grammar_rule 73 74 at_grammar_rule_plain refl refl refl refl refl) refl)) (trivia_in_place s (seq 271 271 (many s 272 (op.IsOne 0 272 271) refl (λ c z. z) (tight_between s) refl (inl (tested s 0 (outside_sub s.classes ((32, 32) ∷ (9, 9) ∷ (10, 10) ∷ (13, 13) ∷ []) rule.WHITESPACE refl refl refl (outside_choice s.classes ((32, 32) ∷ (9, 9) ∷ []) ((10, 10) ∷ (13, 13) ∷ []) false false (outside_set s.classes (one_of_two s.classes (one_text s.classes 32) (one_text s.classes 9))) (outside_sub s.classes ((10, 10) ∷ (13, 13) ∷ []) rule.newline refl refl refl (outside_choice s.classes ((10, 10) ∷ []) ((13, 13) ∷ []) false false (outside_set s.classes (one_text s.classes 10)) (outside_text s.classes))))) refl refl refl)) (within s rule.WHITESPACE refl refl refl (either s 273 272 274 refl (at_once s) (one_of s 1 (one_of_two s.classes (one_text s.classes 32) (one_text s.classes 9)) refl refl refl) (tested s 2 (outside_sub s.classes ((10, 10) ∷ (13, 13) ∷ []) rule.newline refl refl refl (outside_choice s.classes ((10, 10) ∷ []) ((13, 13) ∷ []) false false (outside_set s.classes (one_text s.classes 10)) (outside_text s.classes))) refl refl refl) (within s rule.newline refl refl refl (either s 275 274 275 refl (at_once s) (word s 30 refl refl refl) (at_once s) (word s 31 refl refl refl)))))) (between s) (many s 276 (op.IsOne 3 276 202) refl (λ c z. z) (tight_between s) refl (inl (tested s 3 (outside_seq s.classes ((47, 47) ∷ (47, 47) ∷ []) false (outside_sub s.classes ((47, 47) ∷ (47, 47) ∷ []) rule.COMMENT refl refl refl (outside_choice s.classes ((47, 47) ∷ []) ((47, 47) ∷ []) false false (outside_sub s.classes ((47, 47) ∷ []) rule.block_comment refl refl refl (outside_seq s.classes ((47, 47) ∷ []) false (outside_seq s.classes ((47, 47) ∷ []) false (outside_text s.classes)))) (outside_sub s.classes ((47, 47) ∷ []) rule.line_comment refl refl refl (outside_seq s.classes ((47, 47) ∷ []) false (outside_seq s.classes ((47, 47) ∷ []) false (outside_text s.classes))))))) refl refl refl)) (tries s 277 279 279 278 refl (enters s rule.COMMENT 191 192 at_COMMENT_atomic_apart refl refl refl refl refl) (between s) (many s 280 (op.IsOne 0 280 278) refl (λ c z. z) (tight_between s) refl (inl (tested s 0 (outside_sub s.classes ((32, 32) ∷ (9, 9) ∷ (10, 10) ∷ (13, 13) ∷ []) rule.WHITESPACE refl refl refl (outside_choice s.classes ((32, 32) ∷ (9, 9) ∷ []) ((10, 10) ∷ (13, 13) ∷ []) false false (outside_set s.classes (one_of_two s.classes (one_text s.classes 32) (one_text s.classes 9))) (outside_sub s.classes ((10, 10) ∷ (13, 13) ∷ []) rule.newline refl refl refl (outside_choice s.classes ((10, 10) ∷ []) ((13, 13) ∷ []) false false (outside_set s.classes (one_text s.classes 10)) (outside_text s.classes))))) refl refl refl)) (within s rule.WHITESPACE refl refl refl (either s 281 280 282 refl (at_once s) (one_of s 1 (one_of_two s.classes (one_text s.classes 32) (one_text s.classes 9)) refl refl refl) (tested s 2 (outside_sub s.classes ((10, 10) ∷ (13, 13) ∷ []) rule.newline refl refl refl (outside_choice s.classes ((10, 10) ∷ []) ((13, 13) ∷ []) false false (outside_set s.classes (one_text s.classes 10)) (outside_text s.classes))) refl refl refl) (within s rule.newline refl refl refl (either s 283 282 283 refl (at_once s) (word s 30 refl refl refl) (at_once s) (word s 31 refl refl refl)))))) refl)))) (end s 284 285 tt refl refl refl refl)

  grammar_rule_plain : Laid s (Run NonAtomicMode (body_of rule.grammar_rule)) 73 74 0
  unfolding whitespace comment
  grammar_rule_plain = either s 286 287 286 refl (noted s 6 288 refl (outside_seq s.classes ((95, 95) ∷ (97, 122) ∷ (65, 90) ∷ []) true (outside_seq s.classes ((95, 95) ∷ (97, 122) ∷ (65, 90) ∷ []) true (outside_seq s.classes ((95, 95) ∷ (97, 122) ∷ (65, 90) ∷ []) true (outside_seq s.classes ((95, 95) ∷ (97, 122) ∷ (65, 90) ∷ []) true (outside_seq s.classes ((95, 95) ∷ (97, 122) ∷ (65, 90) ∷ []) true (outside_call s.classes ((95, 95) ∷ (97, 122) ∷ (65, 90) ∷ []) false rule.identifier refl refl refl (outside_seq s.classes ((95, 95) ∷ (97, 122) ∷ (65, 90) ∷ []) false (outside_not s.classes ((95, 95) ∷ (97, 122) ∷ (65, 90) ∷ []) (tight_atomic s) (outside_set s.classes (one_of_two s.classes (one_text s.classes 95) (one_called s.classes rule.alpha refl refl refl (one_of_two s.classes (one_range s.classes 97 122) (one_range s.classes 65 90))))))))))))) refl refl refl refl) (tries s 289 291 292 290 refl (seq 293 294 (seq 295 296 (seq 297 298 (seq 299 300 (calls s rule.identifier 151 152 at_identifier_atomic refl refl refl refl refl) (trivia_in_place s (seq 301 301 (many s 302 (op.IsOne 0 302 301) refl (λ c z. z) (tight_between s) refl (inl (tested s 0 (outside_sub s.classes ((32, 32) ∷ (9, 9) ∷ (10, 10) ∷ (13, 13) ∷ []) rule.WHITESPACE refl refl refl (outside_choice s.classes ((32, 32) ∷ (9, 9) ∷ []) ((10, 10) ∷ (13, 13) ∷ []) false false (outside_set s.classes (one_of_two s.classes (one_text s.classes 32) (one_text s.classes 9))) (outside_sub s.classes ((10, 10) ∷ (13, 13) ∷ []) rule.newline refl refl refl (outside_choice s.classes ((10, 10) ∷ []) ((13, 13) ∷ []) false false (outside_set s.classes (one_text s.classes 10)) (outside_text s.classes))))) refl refl refl)) (within s rule.WHITESPACE refl refl refl (either s 303 302 304 refl (at_once s) (one_of s 1 (one_of_two s.classes (one_text s.classes 32) (one_text s.classes 9)) refl refl refl) (tested s 2 (outside_sub s.classes ((10, 10) ∷ (13, 13) ∷ []) rule.newline refl refl refl (outside_choice s.classes ((10, 10) ∷ []) ((13, 13) ∷ []) false false (outside_set s.classes (one_text s.classes 10)) (outside_text s.classes))) refl refl refl) (within s rule.newline refl refl refl (either s 305 304 305 refl (at_once s) (word s 30 refl refl refl) (at_once s) (word s 31 refl refl refl)))))) (between s) (many s 306 (op.IsOne 3 306 300) refl (λ c z. z) (tight_between s) refl (inl (tested s 3 (outside_seq s.classes ((47, 47) ∷ (47, 47) ∷ []) false (outside_sub s.classes ((47, 47) ∷ (47, 47) ∷ []) rule.COMMENT refl refl refl (outside_choice s.classes ((47, 47) ∷ []) ((47, 47) ∷ []) false false (outside_sub s.classes ((47, 47) ∷ []) rule.block_comment refl refl refl (outside_seq s.classes ((47, 47) ∷ []) false (outside_seq s.classes ((47, 47) ∷ []) false (outside_text s.classes)))) (outside_sub s.classes ((47, 47) ∷ []) rule.line_comment refl refl refl (outside_seq s.classes ((47, 47) ∷ []) false (outside_seq s.classes ((47, 47) ∷ []) false (outside_text s.classes))))))) refl refl refl)) (tries s 307 309 309 308 refl (enters s rule.COMMENT 191 192 at_COMMENT_atomic_apart refl refl refl refl refl) (between s) (many s 310 (op.IsOne 0 310 308) refl (λ c z. z) (tight_between s) refl (inl (tested s 0 (outside_sub s.classes ((32, 32) ∷ (9, 9) ∷ (10, 10) ∷ (13, 13) ∷ []) rule.WHITESPACE refl refl refl (outside_choice s.classes ((32, 32) ∷ (9, 9) ∷ []) ((10, 10) ∷ (13, 13) ∷ []) false false (outside_set s.classes (one_of_two s.classes (one_text s.classes 32) (one_text s.classes 9))) (outside_sub s.classes ((10, 10) ∷ (13, 13) ∷ []) rule.newline refl refl refl (outside_choice s.classes ((10, 10) ∷ []) ((13, 13) ∷ []) false false (outside_set s.classes (one_text s.classes 10)) (outside_text s.classes))))) refl refl refl)) (within s rule.WHITESPACE refl refl refl (either s 311 310 312 refl (at_once s) (one_of s 1 (one_of_two s.classes (one_text s.classes 32) (one_text s.classes 9)) refl refl refl) (tested s 2 (outside_sub s.classes ((10, 10) ∷ (13, 13) ∷ []) rule.newline refl refl refl (outside_choice s.classes ((10, 10) ∷ []) ((13, 13) ∷ []) false false (outside_set s.classes (one_text s.classes 10)) (outside_text s.classes))) refl refl refl) (within s rule.newline refl refl refl (either s 313 312 313 refl (at_once s) (word s 30 refl refl refl) (at_once s) (word s 31 refl refl refl)))))) refl)))) (calls s rule.assignment_operator 75 76 at_assignment_operator_plain refl refl refl refl refl)) (trivia_in_place s (seq 314 314 (many s 315 (op.IsOne 0 315 314) refl (λ c z. z) (tight_between s) refl (inl (tested s 0 (outside_sub s.classes ((32, 32) ∷ (9, 9) ∷ (10, 10) ∷ (13, 13) ∷ []) rule.WHITESPACE refl refl refl (outside_choice s.classes ((32, 32) ∷ (9, 9) ∷ []) ((10, 10) ∷ (13, 13) ∷ []) false false (outside_set s.classes (one_of_two s.classes (one_text s.classes 32) (one_text s.classes 9))) (outside_sub s.classes ((10, 10) ∷ (13, 13) ∷ []) rule.newline refl refl refl (outside_choice s.classes ((10, 10) ∷ []) ((13, 13) ∷ []) false false (outside_set s.classes (one_text s.classes 10)) (outside_text s.classes))))) refl refl refl)) (within s rule.WHITESPACE refl refl refl (either s 316 315 317 refl (at_once s) (one_of s 1 (one_of_two s.classes (one_text s.classes 32) (one_text s.classes 9)) refl refl refl) (tested s 2 (outside_sub s.classes ((10, 10) ∷ (13, 13) ∷ []) rule.newline refl refl refl (outside_choice s.classes ((10, 10) ∷ []) ((13, 13) ∷ []) false false (outside_set s.classes (one_text s.classes 10)) (outside_text s.classes))) refl refl refl) (within s rule.newline refl refl refl (either s 318 317 318 refl (at_once s) (word s 30 refl refl refl) (at_once s) (word s 31 refl refl refl)))))) (between s) (many s 319 (op.IsOne 3 319 298) refl (λ c z. z) (tight_between s) refl (inl (tested s 3 (outside_seq s.classes ((47, 47) ∷ (47, 47) ∷ []) false (outside_sub s.classes ((47, 47) ∷ (47, 47) ∷ []) rule.COMMENT refl refl refl (outside_choice s.classes ((47, 47) ∷ []) ((47, 47) ∷ []) false false (outside_sub s.classes ((47, 47) ∷ []) rule.block_comment refl refl refl (outside_seq s.classes ((47, 47) ∷ []) false (outside_seq s.classes ((47, 47) ∷ []) false (outside_text s.classes)))) (outside_sub s.classes ((47, 47) ∷ []) rule.line_comment refl refl refl (outside_seq s.classes ((47, 47) ∷ []) false (outside_seq s.classes ((47, 47) ∷ []) false (outside_text s.classes))))))) refl refl refl)) (tries s 320 322 322 321 refl (enters s rule.COMMENT 191 192 at_COMMENT_atomic_apart refl refl refl refl refl) (between s) (many s 323 (op.IsOne 0 323 321) refl (λ c z. z) (tight_between s) refl (inl (tested s 0 (outside_sub s.classes ((32, 32) ∷ (9, 9) ∷ (10, 10) ∷ (13, 13) ∷ []) rule.WHITESPACE refl refl refl (outside_choice s.classes ((32, 32) ∷ (9, 9) ∷ []) ((10, 10) ∷ (13, 13) ∷ []) false false (outside_set s.classes (one_of_two s.classes (one_text s.classes 32) (one_text s.classes 9))) (outside_sub s.classes ((10, 10) ∷ (13, 13) ∷ []) rule.newline refl refl refl (outside_choice s.classes ((10, 10) ∷ []) ((13, 13) ∷ []) false false (outside_set s.classes (one_text s.classes 10)) (outside_text s.classes))))) refl refl refl)) (within s rule.WHITESPACE refl refl refl (either s 324 323 325 refl (at_once s) (one_of s 1 (one_of_two s.classes (one_text s.classes 32) (one_text s.classes 9)) refl refl refl) (tested s 2 (outside_sub s.classes ((10, 10) ∷ (13, 13) ∷ []) rule.newline refl refl refl (outside_choice s.classes ((10, 10) ∷ []) ((13, 13) ∷ []) false false (outside_set s.classes (one_text s.classes 10)) (outside_text s.classes))) refl refl refl) (within s rule.newline refl refl refl (either s 326 325 326 refl (at_once s) (word s 30 refl refl refl) (at_once s) (word s 31 refl refl refl)))))) refl)))) (maybe s 327 refl (noted s 7 328 refl (outside_silent s.classes ((95, 95) ∷ (64, 64) ∷ (36, 36) ∷ (33, 33) ∷ []) rule.modifier refl refl refl (outside_choice s.classes ((95, 95) ∷ (64, 64) ∷ (36, 36) ∷ []) ((33, 33) ∷ []) true true (outside_choice s.classes ((95, 95) ∷ (64, 64) ∷ []) ((36, 36) ∷ []) true true (outside_choice s.classes ((95, 95) ∷ []) ((64, 64) ∷ []) true true (outside_call s.classes ((95, 95) ∷ []) false rule.silent_modifier refl refl refl (outside_set s.classes (one_text s.classes 95))) (outside_call s.classes ((64, 64) ∷ []) false rule.atomic_modifier refl refl refl (outside_set s.classes (one_text s.classes 64)))) (outside_call s.classes ((36, 36) ∷ []) false rule.compound_atomic_modifier refl refl refl (outside_set s.classes (one_text s.classes 36)))) (outside_call s.classes ((33, 33) ∷ []) false rule.non_atomic_modifier refl refl refl (outside_set s.classes (one_text s.classes 33))))) refl refl refl refl) (within s rule.modifier refl refl refl (either s 329 330 342 refl (noted s 8 331 refl (outside_choice s.classes ((95, 95) ∷ (64, 64) ∷ []) ((36, 36) ∷ []) true true (outside_choice s.classes ((95, 95) ∷ []) ((64, 64) ∷ []) true true (outside_call s.classes ((95, 95) ∷ []) false rule.silent_modifier refl refl refl (outside_set s.classes (one_text s.classes 95))) (outside_call s.classes ((64, 64) ∷ []) false rule.atomic_modifier refl refl refl (outside_set s.classes (one_text s.classes 64)))) (outside_call s.classes ((36, 36) ∷ []) false rule.compound_atomic_modifier refl refl refl (outside_set s.classes (one_text s.classes 36)))) refl refl refl refl) (either s 332 333 340 refl (noted s 9 334 refl (outside_choice s.classes ((95, 95) ∷ []) ((64, 64) ∷ []) true true (outside_call s.classes ((95, 95) ∷ []) false rule.silent_modifier refl refl refl (outside_set s.classes (one_text s.classes 95))) (outside_call s.classes ((64, 64) ∷ []) false rule.atomic_modifier refl refl refl (outside_set s.classes (one_text s.classes 64)))) refl refl refl refl) (either s 335 336 338 refl (noted s 10 337 refl (outside_call s.classes ((95, 95) ∷ []) false rule.silent_modifier refl refl refl (outside_set s.classes (one_text s.classes 95))) refl refl refl refl) (calls s rule.silent_modifier 91 92 at_silent_modifier_plain refl refl refl refl refl) (noted s 11 339 refl (outside_call s.classes ((64, 64) ∷ []) false rule.atomic_modifier refl refl refl (outside_set s.classes (one_text s.classes 64))) refl refl refl refl) (calls s rule.atomic_modifier 93 94 at_atomic_modifier_plain refl refl refl refl refl)) (noted s 12 341 refl (outside_call s.classes ((36, 36) ∷ []) false rule.compound_atomic_modifier refl refl refl (outside_set s.classes (one_text s.classes 36))) refl refl refl refl) (calls s rule.compound_atomic_modifier 95 96 at_compound_atomic_modifier_plain refl refl refl refl refl)) (noted s 13 343 refl (outside_call s.classes ((33, 33) ∷ []) false rule.non_atomic_modifier refl refl refl (outside_set s.classes (one_text s.classes 33))) refl refl refl refl) (calls s rule.non_atomic_modifier 97 98 at_non_atomic_modifier_plain refl refl refl refl refl))))) (trivia_in_place s (seq 344 344 (many s 345 (op.IsOne 0 345 344) refl (λ c z. z) (tight_between s) refl (inl (tested s 0 (outside_sub s.classes ((32, 32) ∷ (9, 9) ∷ (10, 10) ∷ (13, 13) ∷ []) rule.WHITESPACE refl refl refl (outside_choice s.classes ((32, 32) ∷ (9, 9) ∷ []) ((10, 10) ∷ (13, 13) ∷ []) false false (outside_set s.classes (one_of_two s.classes (one_text s.classes 32) (one_text s.classes 9))) (outside_sub s.classes ((10, 10) ∷ (13, 13) ∷ []) rule.newline refl refl refl (outside_choice s.classes ((10, 10) ∷ []) ((13, 13) ∷ []) false false (outside_set s.classes (one_text s.classes 10)) (outside_text s.classes))))) refl refl refl)) (within s rule.WHITESPACE refl refl refl (either s 346 345 347 refl (at_once s) (one_of s 1 (one_of_two s.classes (one_text s.classes 32) (one_text s.classes 9)) refl refl refl) (tested s 2 (outside_sub s.classes ((10, 10) ∷ (13, 13) ∷ []) rule.newline refl refl refl (outside_choice s.classes ((10, 10) ∷ []) ((13, 13) ∷ []) false false (outside_set s.classes (one_text s.classes 10)) (outside_text s.classes))) refl refl refl) (within s rule.newline refl refl refl (either s 348 347 348 refl (at_once s) (word s 30 refl refl refl) (at_once s) (word s 31 refl refl refl)))))) (between s) (many s 349 (op.IsOne 3 349 296) refl (λ c z. z) (tight_between s) refl (inl (tested s 3 (outside_seq s.classes ((47, 47) ∷ (47, 47) ∷ []) false (outside_sub s.classes ((47, 47) ∷ (47, 47) ∷ []) rule.COMMENT refl refl refl (outside_choice s.classes ((47, 47) ∷ []) ((47, 47) ∷ []) false false (outside_sub s.classes ((47, 47) ∷ []) rule.block_comment refl refl refl (outside_seq s.classes ((47, 47) ∷ []) false (outside_seq s.classes ((47, 47) ∷ []) false (outside_text s.classes)))) (outside_sub s.classes ((47, 47) ∷ []) rule.line_comment refl refl refl (outside_seq s.classes ((47, 47) ∷ []) false (outside_seq s.classes ((47, 47) ∷ []) false (outside_text s.classes))))))) refl refl refl)) (tries s 350 352 352 351 refl (enters s rule.COMMENT 191 192 at_COMMENT_atomic_apart refl refl refl refl refl) (between s) (many s 353 (op.IsOne 0 353 351) refl (λ c z. z) (tight_between s) refl (inl (tested s 0 (outside_sub s.classes ((32, 32) ∷ (9, 9) ∷ (10, 10) ∷ (13, 13) ∷ []) rule.WHITESPACE refl refl refl (outside_choice s.classes ((32, 32) ∷ (9, 9) ∷ []) ((10, 10) ∷ (13, 13) ∷ []) false false (outside_set s.classes (one_of_two s.classes (one_text s.classes 32) (one_text s.classes 9))) (outside_sub s.classes ((10, 10) ∷ (13, 13) ∷ []) rule.newline refl refl refl (outside_choice s.classes ((10, 10) ∷ []) ((13, 13) ∷ []) false false (outside_set s.classes (one_text s.classes 10)) (outside_text s.classes))))) refl refl refl)) (within s rule.WHITESPACE refl refl refl (either s 354 353 355 refl (at_once s) (one_of s 1 (one_of_two s.classes (one_text s.classes 32) (one_text s.classes 9)) refl refl refl) (tested s 2 (outside_sub s.classes ((10, 10) ∷ (13, 13) ∷ []) rule.newline refl refl refl (outside_choice s.classes ((10, 10) ∷ []) ((13, 13) ∷ []) false false (outside_set s.classes (one_text s.classes 10)) (outside_text s.classes))) refl refl refl) (within s rule.newline refl refl refl (either s 356 355 356 refl (at_once s) (word s 30 refl refl refl) (at_once s) (word s 31 refl refl refl)))))) refl)))) (calls s rule.opening_brace 77 78 at_opening_brace_plain refl refl refl refl refl)) (trivia_in_place s (seq 357 357 (many s 358 (op.IsOne 0 358 357) refl (λ c z. z) (tight_between s) refl (inl (tested s 0 (outside_sub s.classes ((32, 32) ∷ (9, 9) ∷ (10, 10) ∷ (13, 13) ∷ []) rule.WHITESPACE refl refl refl (outside_choice s.classes ((32, 32) ∷ (9, 9) ∷ []) ((10, 10) ∷ (13, 13) ∷ []) false false (outside_set s.classes (one_of_two s.classes (one_text s.classes 32) (one_text s.classes 9))) (outside_sub s.classes ((10, 10) ∷ (13, 13) ∷ []) rule.newline refl refl refl (outside_choice s.classes ((10, 10) ∷ []) ((13, 13) ∷ []) false false (outside_set s.classes (one_text s.classes 10)) (outside_text s.classes))))) refl refl refl)) (within s rule.WHITESPACE refl refl refl (either s 359 358 360 refl (at_once s) (one_of s 1 (one_of_two s.classes (one_text s.classes 32) (one_text s.classes 9)) refl refl refl) (tested s 2 (outside_sub s.classes ((10, 10) ∷ (13, 13) ∷ []) rule.newline refl refl refl (outside_choice s.classes ((10, 10) ∷ []) ((13, 13) ∷ []) false false (outside_set s.classes (one_text s.classes 10)) (outside_text s.classes))) refl refl refl) (within s rule.newline refl refl refl (either s 361 360 361 refl (at_once s) (word s 30 refl refl refl) (at_once s) (word s 31 refl refl refl)))))) (between s) (many s 362 (op.IsOne 3 362 294) refl (λ c z. z) (tight_between s) refl (inl (tested s 3 (outside_seq s.classes ((47, 47) ∷ (47, 47) ∷ []) false (outside_sub s.classes ((47, 47) ∷ (47, 47) ∷ []) rule.COMMENT refl refl refl (outside_choice s.classes ((47, 47) ∷ []) ((47, 47) ∷ []) false false (outside_sub s.classes ((47, 47) ∷ []) rule.block_comment refl refl refl (outside_seq s.classes ((47, 47) ∷ []) false (outside_seq s.classes ((47, 47) ∷ []) false (outside_text s.classes)))) (outside_sub s.classes ((47, 47) ∷ []) rule.line_comment refl refl refl (outside_seq s.classes ((47, 47) ∷ []) false (outside_seq s.classes ((47, 47) ∷ []) false (outside_text s.classes))))))) refl refl refl)) (tries s 363 365 365 364 refl (enters s rule.COMMENT 191 192 at_COMMENT_atomic_apart refl refl refl refl refl) (between s) (many s 366 (op.IsOne 0 366 364) refl (λ c z. z) (tight_between s) refl (inl (tested s 0 (outside_sub s.classes ((32, 32) ∷ (9, 9) ∷ (10, 10) ∷ (13, 13) ∷ []) rule.WHITESPACE refl refl refl (outside_choice s.classes ((32, 32) ∷ (9, 9) ∷ []) ((10, 10) ∷ (13, 13) ∷ []) false false (outside_set s.classes (one_of_two s.classes (one_text s.classes 32) (one_text s.classes 9))) (outside_sub s.classes ((10, 10) ∷ (13, 13) ∷ []) rule.newline refl refl refl (outside_choice s.classes ((10, 10) ∷ []) ((13, 13) ∷ []) false false (outside_set s.classes (one_text s.classes 10)) (outside_text s.classes))))) refl refl refl)) (within s rule.WHITESPACE refl refl refl (either s 367 366 368 refl (at_once s) (one_of s 1 (one_of_two s.classes (one_text s.classes 32) (one_text s.classes 9)) refl refl refl) (tested s 2 (outside_sub s.classes ((10, 10) ∷ (13, 13) ∷ []) rule.newline refl refl refl (outside_choice s.classes ((10, 10) ∷ []) ((13, 13) ∷ []) false false (outside_set s.classes (one_text s.classes 10)) (outside_text s.classes))) refl refl refl) (within s rule.newline refl refl refl (either s 369 368 369 refl (at_once s) (word s 30 refl refl refl) (at_once s) (word s 31 refl refl refl)))))) refl)))) (calls s rule.expression 103 104 at_expression_plain refl refl refl refl refl)) (trivia_in_place s (seq 370 370 (many s 371 (op.IsOne 0 371 370) refl (λ c z. z) (tight_between s) refl (inl (tested s 0 (outside_sub s.classes ((32, 32) ∷ (9, 9) ∷ (10, 10) ∷ (13, 13) ∷ []) rule.WHITESPACE refl refl refl (outside_choice s.classes ((32, 32) ∷ (9, 9) ∷ []) ((10, 10) ∷ (13, 13) ∷ []) false false (outside_set s.classes (one_of_two s.classes (one_text s.classes 32) (one_text s.classes 9))) (outside_sub s.classes ((10, 10) ∷ (13, 13) ∷ []) rule.newline refl refl refl (outside_choice s.classes ((10, 10) ∷ []) ((13, 13) ∷ []) false false (outside_set s.classes (one_text s.classes 10)) (outside_text s.classes))))) refl refl refl)) (within s rule.WHITESPACE refl refl refl (either s 372 371 373 refl (at_once s) (one_of s 1 (one_of_two s.classes (one_text s.classes 32) (one_text s.classes 9)) refl refl refl) (tested s 2 (outside_sub s.classes ((10, 10) ∷ (13, 13) ∷ []) rule.newline refl refl refl (outside_choice s.classes ((10, 10) ∷ []) ((13, 13) ∷ []) false false (outside_set s.classes (one_text s.classes 10)) (outside_text s.classes))) refl refl refl) (within s rule.newline refl refl refl (either s 374 373 374 refl (at_once s) (word s 30 refl refl refl) (at_once s) (word s 31 refl refl refl)))))) (between s) (many s 375 (op.IsOne 3 375 292) refl (λ c z. z) (tight_between s) refl (inl (tested s 3 (outside_seq s.classes ((47, 47) ∷ (47, 47) ∷ []) false (outside_sub s.classes ((47, 47) ∷ (47, 47) ∷ []) rule.COMMENT refl refl refl (outside_choice s.classes ((47, 47) ∷ []) ((47, 47) ∷ []) false false (outside_sub s.classes ((47, 47) ∷ []) rule.block_comment refl refl refl (outside_seq s.classes ((47, 47) ∷ []) false (outside_seq s.classes ((47, 47) ∷ []) false (outside_text s.classes)))) (outside_sub s.classes ((47, 47) ∷ []) rule.line_comment refl refl refl (outside_seq s.classes ((47, 47) ∷ []) false (outside_seq s.classes ((47, 47) ∷ []) false (outside_text s.classes))))))) refl refl refl)) (tries s 376 378 378 377 refl (enters s rule.COMMENT 191 192 at_COMMENT_atomic_apart refl refl refl refl refl) (between s) (many s 379 (op.IsOne 0 379 377) refl (λ c z. z) (tight_between s) refl (inl (tested s 0 (outside_sub s.classes ((32, 32) ∷ (9, 9) ∷ (10, 10) ∷ (13, 13) ∷ []) rule.WHITESPACE refl refl refl (outside_choice s.classes ((32, 32) ∷ (9, 9) ∷ []) ((10, 10) ∷ (13, 13) ∷ []) false false (outside_set s.classes (one_of_two s.classes (one_text s.classes 32) (one_text s.classes 9))) (outside_sub s.classes ((10, 10) ∷ (13, 13) ∷ []) rule.newline refl refl refl (outside_choice s.classes ((10, 10) ∷ []) ((13, 13) ∷ []) false false (outside_set s.classes (one_text s.classes 10)) (outside_text s.classes))))) refl refl refl)) (within s rule.WHITESPACE refl refl refl (either s 380 379 381 refl (at_once s) (one_of s 1 (one_of_two s.classes (one_text s.classes 32) (one_text s.classes 9)) refl refl refl) (tested s 2 (outside_sub s.classes ((10, 10) ∷ (13, 13) ∷ []) rule.newline refl refl refl (outside_choice s.classes ((10, 10) ∷ []) ((13, 13) ∷ []) false false (outside_set s.classes (one_text s.classes 10)) (outside_text s.classes))) refl refl refl) (within s rule.newline refl refl refl (either s 382 381 382 refl (at_once s) (word s 30 refl refl refl) (at_once s) (word s 31 refl refl refl)))))) refl)))) (calls s rule.closing_brace 79 80 at_closing_brace_plain refl refl refl refl refl) refl) (at_once s) (calls s rule.line_doc 197 198 at_line_doc_compound refl refl refl refl refl)

  assignment_operator_plain : Laid s (Run NonAtomicMode (body_of rule.assignment_operator)) 75 76 0
  unfolding whitespace comment
  assignment_operator_plain = word s 0 refl refl refl

  opening_brace_plain : Laid s (Run NonAtomicMode (body_of rule.opening_brace)) 77 78 0
  unfolding whitespace comment
  opening_brace_plain = word s 1 refl refl refl

  closing_brace_plain : Laid s (Run NonAtomicMode (body_of rule.closing_brace)) 79 80 0
  unfolding whitespace comment
  closing_brace_plain = word s 2 refl refl refl

  opening_paren_plain : Laid s (Run NonAtomicMode (body_of rule.opening_paren)) 81 82 0
  unfolding whitespace comment
  opening_paren_plain = word s 3 refl refl refl

  closing_paren_plain : Laid s (Run NonAtomicMode (body_of rule.closing_paren)) 83 84 0
  unfolding whitespace comment
  closing_paren_plain = word s 4 refl refl refl

  opening_brack_plain : Laid s (Run NonAtomicMode (body_of rule.opening_brack)) 85 86 0
  unfolding whitespace comment
  opening_brack_plain = word s 5 refl refl refl

  closing_brack_plain : Laid s (Run NonAtomicMode (body_of rule.closing_brack)) 87 88 0
  unfolding whitespace comment
  closing_brack_plain = word s 6 refl refl refl

  modifier_plain_apart : Laid s (Run NonAtomicMode (body_of rule.modifier)) 89 90 0
  unfolding whitespace comment
  modifier_plain_apart = either s 383 384 383 refl (noted s 8 385 refl (outside_choice s.classes ((95, 95) ∷ (64, 64) ∷ []) ((36, 36) ∷ []) true true (outside_choice s.classes ((95, 95) ∷ []) ((64, 64) ∷ []) true true (outside_call s.classes ((95, 95) ∷ []) false rule.silent_modifier refl refl refl (outside_set s.classes (one_text s.classes 95))) (outside_call s.classes ((64, 64) ∷ []) false rule.atomic_modifier refl refl refl (outside_set s.classes (one_text s.classes 64)))) (outside_call s.classes ((36, 36) ∷ []) false rule.compound_atomic_modifier refl refl refl (outside_set s.classes (one_text s.classes 36)))) refl refl refl refl) (either s 386 387 394 refl (noted s 9 388 refl (outside_choice s.classes ((95, 95) ∷ []) ((64, 64) ∷ []) true true (outside_call s.classes ((95, 95) ∷ []) false rule.silent_modifier refl refl refl (outside_set s.classes (one_text s.classes 95))) (outside_call s.classes ((64, 64) ∷ []) false rule.atomic_modifier refl refl refl (outside_set s.classes (one_text s.classes 64)))) refl refl refl refl) (either s 389 390 392 refl (noted s 10 391 refl (outside_call s.classes ((95, 95) ∷ []) false rule.silent_modifier refl refl refl (outside_set s.classes (one_text s.classes 95))) refl refl refl refl) (calls s rule.silent_modifier 91 92 at_silent_modifier_plain refl refl refl refl refl) (noted s 11 393 refl (outside_call s.classes ((64, 64) ∷ []) false rule.atomic_modifier refl refl refl (outside_set s.classes (one_text s.classes 64))) refl refl refl refl) (calls s rule.atomic_modifier 93 94 at_atomic_modifier_plain refl refl refl refl refl)) (noted s 12 395 refl (outside_call s.classes ((36, 36) ∷ []) false rule.compound_atomic_modifier refl refl refl (outside_set s.classes (one_text s.classes 36))) refl refl refl refl) (calls s rule.compound_atomic_modifier 95 96 at_compound_atomic_modifier_plain refl refl refl refl refl)) (at_once s) (calls s rule.non_atomic_modifier 97 98 at_non_atomic_modifier_plain refl refl refl refl refl)

  silent_modifier_plain : Laid s (Run NonAtomicMode (body_of rule.silent_modifier)) 91 92 0
  unfolding whitespace comment
  silent_modifier_plain = word s 7 refl refl refl

  atomic_modifier_plain : Laid s (Run NonAtomicMode (body_of rule.atomic_modifier)) 93 94 0
  unfolding whitespace comment
  atomic_modifier_plain = word s 8 refl refl refl

  compound_atomic_modifier_plain : Laid s (Run NonAtomicMode (body_of rule.compound_atomic_modifier)) 95 96 0
  unfolding whitespace comment
  compound_atomic_modifier_plain = word s 9 refl refl refl

  non_atomic_modifier_plain : Laid s (Run NonAtomicMode (body_of rule.non_atomic_modifier)) 97 98 0
  unfolding whitespace comment
  non_atomic_modifier_plain = word s 10 refl refl refl

  tag_id_atomic : Laid s (Run AtomicMode (body_of rule.tag_id)) 99 100 0
  unfolding whitespace comment
  tag_id_atomic = seq 396 396 (seq 397 397 (word s 11 refl refl refl) (atomic s) (one_of s 6 (one_of_two s.classes (one_text s.classes 95) (one_called s.classes rule.alpha refl refl refl (one_of_two s.classes (one_range s.classes 97 122) (one_range s.classes 65 90)))) refl refl refl)) (atomic s) (all_of s 14 (one_of_two s.classes (one_text s.classes 95) (one_called s.classes rule.alpha_num refl refl refl (one_of_two s.classes (one_called s.classes rule.alpha refl refl refl (one_of_two s.classes (one_range s.classes 97 122) (one_range s.classes 65 90))) (one_range s.classes 48 57)))) (tight_atomic s) refl refl refl)

  node_tag_plain_apart : Laid s (Run NonAtomicMode (body_of rule.node_tag)) 101 102 0
  unfolding whitespace comment
  node_tag_plain_apart = seq 398 399 (calls s rule.tag_id 99 100 at_tag_id_atomic refl refl refl refl refl) (trivia_in_place s (seq 400 400 (many s 401 (op.IsOne 0 401 400) refl (λ c z. z) (tight_between s) refl (inl (tested s 0 (outside_sub s.classes ((32, 32) ∷ (9, 9) ∷ (10, 10) ∷ (13, 13) ∷ []) rule.WHITESPACE refl refl refl (outside_choice s.classes ((32, 32) ∷ (9, 9) ∷ []) ((10, 10) ∷ (13, 13) ∷ []) false false (outside_set s.classes (one_of_two s.classes (one_text s.classes 32) (one_text s.classes 9))) (outside_sub s.classes ((10, 10) ∷ (13, 13) ∷ []) rule.newline refl refl refl (outside_choice s.classes ((10, 10) ∷ []) ((13, 13) ∷ []) false false (outside_set s.classes (one_text s.classes 10)) (outside_text s.classes))))) refl refl refl)) (within s rule.WHITESPACE refl refl refl (either s 402 401 403 refl (at_once s) (one_of s 1 (one_of_two s.classes (one_text s.classes 32) (one_text s.classes 9)) refl refl refl) (tested s 2 (outside_sub s.classes ((10, 10) ∷ (13, 13) ∷ []) rule.newline refl refl refl (outside_choice s.classes ((10, 10) ∷ []) ((13, 13) ∷ []) false false (outside_set s.classes (one_text s.classes 10)) (outside_text s.classes))) refl refl refl) (within s rule.newline refl refl refl (either s 404 403 404 refl (at_once s) (word s 30 refl refl refl) (at_once s) (word s 31 refl refl refl)))))) (between s) (many s 405 (op.IsOne 3 405 399) refl (λ c z. z) (tight_between s) refl (inl (tested s 3 (outside_seq s.classes ((47, 47) ∷ (47, 47) ∷ []) false (outside_sub s.classes ((47, 47) ∷ (47, 47) ∷ []) rule.COMMENT refl refl refl (outside_choice s.classes ((47, 47) ∷ []) ((47, 47) ∷ []) false false (outside_sub s.classes ((47, 47) ∷ []) rule.block_comment refl refl refl (outside_seq s.classes ((47, 47) ∷ []) false (outside_seq s.classes ((47, 47) ∷ []) false (outside_text s.classes)))) (outside_sub s.classes ((47, 47) ∷ []) rule.line_comment refl refl refl (outside_seq s.classes ((47, 47) ∷ []) false (outside_seq s.classes ((47, 47) ∷ []) false (outside_text s.classes))))))) refl refl refl)) (tries s 406 408 408 407 refl (enters s rule.COMMENT 191 192 at_COMMENT_atomic_apart refl refl refl refl refl) (between s) (many s 409 (op.IsOne 0 409 407) refl (λ c z. z) (tight_between s) refl (inl (tested s 0 (outside_sub s.classes ((32, 32) ∷ (9, 9) ∷ (10, 10) ∷ (13, 13) ∷ []) rule.WHITESPACE refl refl refl (outside_choice s.classes ((32, 32) ∷ (9, 9) ∷ []) ((10, 10) ∷ (13, 13) ∷ []) false false (outside_set s.classes (one_of_two s.classes (one_text s.classes 32) (one_text s.classes 9))) (outside_sub s.classes ((10, 10) ∷ (13, 13) ∷ []) rule.newline refl refl refl (outside_choice s.classes ((10, 10) ∷ []) ((13, 13) ∷ []) false false (outside_set s.classes (one_text s.classes 10)) (outside_text s.classes))))) refl refl refl)) (within s rule.WHITESPACE refl refl refl (either s 410 409 411 refl (at_once s) (one_of s 1 (one_of_two s.classes (one_text s.classes 32) (one_text s.classes 9)) refl refl refl) (tested s 2 (outside_sub s.classes ((10, 10) ∷ (13, 13) ∷ []) rule.newline refl refl refl (outside_choice s.classes ((10, 10) ∷ []) ((13, 13) ∷ []) false false (outside_set s.classes (one_text s.classes 10)) (outside_text s.classes))) refl refl refl) (within s rule.newline refl refl refl (either s 412 411 412 refl (at_once s) (word s 30 refl refl refl) (at_once s) (word s 31 refl refl refl)))))) refl)))) (calls s rule.assignment_operator 75 76 at_assignment_operator_plain refl refl refl refl refl)

  expression_plain : Laid s (Run NonAtomicMode (body_of rule.expression)) 103 104 0
  unfolding whitespace comment
  expression_plain = seq 413 414 (seq 415 416 (maybe s 417 refl (noted s 15 418 refl (outside_call s.classes ((124, 124) ∷ []) false rule.choice_operator refl refl refl (outside_set s.classes (one_text s.classes 124))) refl refl refl refl) (calls s rule.choice_operator 123 124 at_choice_operator_plain refl refl refl refl refl)) (trivia_in_place s (seq 419 419 (many s 420 (op.IsOne 0 420 419) refl (λ c z. z) (tight_between s) refl (inl (tested s 0 (outside_sub s.classes ((32, 32) ∷ (9, 9) ∷ (10, 10) ∷ (13, 13) ∷ []) rule.WHITESPACE refl refl refl (outside_choice s.classes ((32, 32) ∷ (9, 9) ∷ []) ((10, 10) ∷ (13, 13) ∷ []) false false (outside_set s.classes (one_of_two s.classes (one_text s.classes 32) (one_text s.classes 9))) (outside_sub s.classes ((10, 10) ∷ (13, 13) ∷ []) rule.newline refl refl refl (outside_choice s.classes ((10, 10) ∷ []) ((13, 13) ∷ []) false false (outside_set s.classes (one_text s.classes 10)) (outside_text s.classes))))) refl refl refl)) (within s rule.WHITESPACE refl refl refl (either s 421 420 422 refl (at_once s) (one_of s 1 (one_of_two s.classes (one_text s.classes 32) (one_text s.classes 9)) refl refl refl) (tested s 2 (outside_sub s.classes ((10, 10) ∷ (13, 13) ∷ []) rule.newline refl refl refl (outside_choice s.classes ((10, 10) ∷ []) ((13, 13) ∷ []) false false (outside_set s.classes (one_text s.classes 10)) (outside_text s.classes))) refl refl refl) (within s rule.newline refl refl refl (either s 423 422 423 refl (at_once s) (word s 30 refl refl refl) (at_once s) (word s 31 refl refl refl)))))) (between s) (many s 424 (op.IsOne 3 424 416) refl (λ c z. z) (tight_between s) refl (inl (tested s 3 (outside_seq s.classes ((47, 47) ∷ (47, 47) ∷ []) false (outside_sub s.classes ((47, 47) ∷ (47, 47) ∷ []) rule.COMMENT refl refl refl (outside_choice s.classes ((47, 47) ∷ []) ((47, 47) ∷ []) false false (outside_sub s.classes ((47, 47) ∷ []) rule.block_comment refl refl refl (outside_seq s.classes ((47, 47) ∷ []) false (outside_seq s.classes ((47, 47) ∷ []) false (outside_text s.classes)))) (outside_sub s.classes ((47, 47) ∷ []) rule.line_comment refl refl refl (outside_seq s.classes ((47, 47) ∷ []) false (outside_seq s.classes ((47, 47) ∷ []) false (outside_text s.classes))))))) refl refl refl)) (tries s 425 427 427 426 refl (enters s rule.COMMENT 191 192 at_COMMENT_atomic_apart refl refl refl refl refl) (between s) (many s 428 (op.IsOne 0 428 426) refl (λ c z. z) (tight_between s) refl (inl (tested s 0 (outside_sub s.classes ((32, 32) ∷ (9, 9) ∷ (10, 10) ∷ (13, 13) ∷ []) rule.WHITESPACE refl refl refl (outside_choice s.classes ((32, 32) ∷ (9, 9) ∷ []) ((10, 10) ∷ (13, 13) ∷ []) false false (outside_set s.classes (one_of_two s.classes (one_text s.classes 32) (one_text s.classes 9))) (outside_sub s.classes ((10, 10) ∷ (13, 13) ∷ []) rule.newline refl refl refl (outside_choice s.classes ((10, 10) ∷ []) ((13, 13) ∷ []) false false (outside_set s.classes (one_text s.classes 10)) (outside_text s.classes))))) refl refl refl)) (within s rule.WHITESPACE refl refl refl (either s 429 428 430 refl (at_once s) (one_of s 1 (one_of_two s.classes (one_text s.classes 32) (one_text s.classes 9)) refl refl refl) (tested s 2 (outside_sub s.classes ((10, 10) ∷ (13, 13) ∷ []) rule.newline refl refl refl (outside_choice s.classes ((10, 10) ∷ []) ((13, 13) ∷ []) false false (outside_set s.classes (one_text s.classes 10)) (outside_text s.classes))) refl refl refl) (within s rule.newline refl refl refl (either s 431 430 431 refl (at_once s) (word s 30 refl refl refl) (at_once s) (word s 31 refl refl refl)))))) refl)))) (calls s rule.term 105 106 at_term_plain refl refl refl refl refl)) (trivia_in_place s (seq 432 432 (many s 433 (op.IsOne 0 433 432) refl (λ c z. z) (tight_between s) refl (inl (tested s 0 (outside_sub s.classes ((32, 32) ∷ (9, 9) ∷ (10, 10) ∷ (13, 13) ∷ []) rule.WHITESPACE refl refl refl (outside_choice s.classes ((32, 32) ∷ (9, 9) ∷ []) ((10, 10) ∷ (13, 13) ∷ []) false false (outside_set s.classes (one_of_two s.classes (one_text s.classes 32) (one_text s.classes 9))) (outside_sub s.classes ((10, 10) ∷ (13, 13) ∷ []) rule.newline refl refl refl (outside_choice s.classes ((10, 10) ∷ []) ((13, 13) ∷ []) false false (outside_set s.classes (one_text s.classes 10)) (outside_text s.classes))))) refl refl refl)) (within s rule.WHITESPACE refl refl refl (either s 434 433 435 refl (at_once s) (one_of s 1 (one_of_two s.classes (one_text s.classes 32) (one_text s.classes 9)) refl refl refl) (tested s 2 (outside_sub s.classes ((10, 10) ∷ (13, 13) ∷ []) rule.newline refl refl refl (outside_choice s.classes ((10, 10) ∷ []) ((13, 13) ∷ []) false false (outside_set s.classes (one_text s.classes 10)) (outside_text s.classes))) refl refl refl) (within s rule.newline refl refl refl (either s 436 435 436 refl (at_once s) (word s 30 refl refl refl) (at_once s) (word s 31 refl refl refl)))))) (between s) (many s 437 (op.IsOne 3 437 414) refl (λ c z. z) (tight_between s) refl (inl (tested s 3 (outside_seq s.classes ((47, 47) ∷ (47, 47) ∷ []) false (outside_sub s.classes ((47, 47) ∷ (47, 47) ∷ []) rule.COMMENT refl refl refl (outside_choice s.classes ((47, 47) ∷ []) ((47, 47) ∷ []) false false (outside_sub s.classes ((47, 47) ∷ []) rule.block_comment refl refl refl (outside_seq s.classes ((47, 47) ∷ []) false (outside_seq s.classes ((47, 47) ∷ []) false (outside_text s.classes)))) (outside_sub s.classes ((47, 47) ∷ []) rule.line_comment refl refl refl (outside_seq s.classes ((47, 47) ∷ []) false (outside_seq s.classes ((47, 47) ∷ []) false (outside_text s.classes))))))) refl refl refl)) (tries s 438 440 440 439 refl (enters s rule.COMMENT 191 192 at_COMMENT_atomic_apart refl refl refl refl refl) (between s) (many s 441 (op.IsOne 0 441 439) refl (λ c z. z) (tight_between s) refl (inl (tested s 0 (outside_sub s.classes ((32, 32) ∷ (9, 9) ∷ (10, 10) ∷ (13, 13) ∷ []) rule.WHITESPACE refl refl refl (outside_choice s.classes ((32, 32) ∷ (9, 9) ∷ []) ((10, 10) ∷ (13, 13) ∷ []) false false (outside_set s.classes (one_of_two s.classes (one_text s.classes 32) (one_text s.classes 9))) (outside_sub s.classes ((10, 10) ∷ (13, 13) ∷ []) rule.newline refl refl refl (outside_choice s.classes ((10, 10) ∷ []) ((13, 13) ∷ []) false false (outside_set s.classes (one_text s.classes 10)) (outside_text s.classes))))) refl refl refl)) (within s rule.WHITESPACE refl refl refl (either s 442 441 443 refl (at_once s) (one_of s 1 (one_of_two s.classes (one_text s.classes 32) (one_text s.classes 9)) refl refl refl) (tested s 2 (outside_sub s.classes ((10, 10) ∷ (13, 13) ∷ []) rule.newline refl refl refl (outside_choice s.classes ((10, 10) ∷ []) ((13, 13) ∷ []) false false (outside_set s.classes (one_text s.classes 10)) (outside_text s.classes))) refl refl refl) (within s rule.newline refl refl refl (either s 444 443 444 refl (at_once s) (word s 30 refl refl refl) (at_once s) (word s 31 refl refl refl)))))) refl)))) (turns s 445 447 448 449 450 refl (noted s 16 446 refl (outside_seq s.classes ((126, 126) ∷ (124, 124) ∷ []) true (outside_silent s.classes ((126, 126) ∷ (124, 124) ∷ []) rule.infix_operator refl refl refl (outside_choice s.classes ((126, 126) ∷ []) ((124, 124) ∷ []) true true (outside_call s.classes ((126, 126) ∷ []) false rule.sequence_operator refl refl refl (outside_set s.classes (one_text s.classes 126))) (outside_call s.classes ((124, 124) ∷ []) false rule.choice_operator refl refl refl (outside_set s.classes (one_text s.classes 124)))))) refl refl refl refl) refl refl (trivia_in_place s (seq 451 451 (many s 452 (op.IsOne 0 452 451) refl (λ c z. z) (tight_between s) refl (inl (tested s 0 (outside_sub s.classes ((32, 32) ∷ (9, 9) ∷ (10, 10) ∷ (13, 13) ∷ []) rule.WHITESPACE refl refl refl (outside_choice s.classes ((32, 32) ∷ (9, 9) ∷ []) ((10, 10) ∷ (13, 13) ∷ []) false false (outside_set s.classes (one_of_two s.classes (one_text s.classes 32) (one_text s.classes 9))) (outside_sub s.classes ((10, 10) ∷ (13, 13) ∷ []) rule.newline refl refl refl (outside_choice s.classes ((10, 10) ∷ []) ((13, 13) ∷ []) false false (outside_set s.classes (one_text s.classes 10)) (outside_text s.classes))))) refl refl refl)) (within s rule.WHITESPACE refl refl refl (either s 453 452 454 refl (at_once s) (one_of s 1 (one_of_two s.classes (one_text s.classes 32) (one_text s.classes 9)) refl refl refl) (tested s 2 (outside_sub s.classes ((10, 10) ∷ (13, 13) ∷ []) rule.newline refl refl refl (outside_choice s.classes ((10, 10) ∷ []) ((13, 13) ∷ []) false false (outside_set s.classes (one_text s.classes 10)) (outside_text s.classes))) refl refl refl) (within s rule.newline refl refl refl (either s 455 454 455 refl (at_once s) (word s 30 refl refl refl) (at_once s) (word s 31 refl refl refl)))))) (between s) (many s 456 (op.IsOne 3 456 449) refl (λ c z. z) (tight_between s) refl (inl (tested s 3 (outside_seq s.classes ((47, 47) ∷ (47, 47) ∷ []) false (outside_sub s.classes ((47, 47) ∷ (47, 47) ∷ []) rule.COMMENT refl refl refl (outside_choice s.classes ((47, 47) ∷ []) ((47, 47) ∷ []) false false (outside_sub s.classes ((47, 47) ∷ []) rule.block_comment refl refl refl (outside_seq s.classes ((47, 47) ∷ []) false (outside_seq s.classes ((47, 47) ∷ []) false (outside_text s.classes)))) (outside_sub s.classes ((47, 47) ∷ []) rule.line_comment refl refl refl (outside_seq s.classes ((47, 47) ∷ []) false (outside_seq s.classes ((47, 47) ∷ []) false (outside_text s.classes))))))) refl refl refl)) (tries s 457 459 459 458 refl (enters s rule.COMMENT 191 192 at_COMMENT_atomic_apart refl refl refl refl refl) (between s) (many s 460 (op.IsOne 0 460 458) refl (λ c z. z) (tight_between s) refl (inl (tested s 0 (outside_sub s.classes ((32, 32) ∷ (9, 9) ∷ (10, 10) ∷ (13, 13) ∷ []) rule.WHITESPACE refl refl refl (outside_choice s.classes ((32, 32) ∷ (9, 9) ∷ []) ((10, 10) ∷ (13, 13) ∷ []) false false (outside_set s.classes (one_of_two s.classes (one_text s.classes 32) (one_text s.classes 9))) (outside_sub s.classes ((10, 10) ∷ (13, 13) ∷ []) rule.newline refl refl refl (outside_choice s.classes ((10, 10) ∷ []) ((13, 13) ∷ []) false false (outside_set s.classes (one_text s.classes 10)) (outside_text s.classes))))) refl refl refl)) (within s rule.WHITESPACE refl refl refl (either s 461 460 462 refl (at_once s) (one_of s 1 (one_of_two s.classes (one_text s.classes 32) (one_text s.classes 9)) refl refl refl) (tested s 2 (outside_sub s.classes ((10, 10) ∷ (13, 13) ∷ []) rule.newline refl refl refl (outside_choice s.classes ((10, 10) ∷ []) ((13, 13) ∷ []) false false (outside_set s.classes (one_text s.classes 10)) (outside_text s.classes))) refl refl refl) (within s rule.newline refl refl refl (either s 463 462 463 refl (at_once s) (word s 30 refl refl refl) (at_once s) (word s 31 refl refl refl)))))) refl)))) (seq 464 465 (within s rule.infix_operator refl refl refl (either s 466 467 466 refl (noted s 17 468 refl (outside_call s.classes ((126, 126) ∷ []) false rule.sequence_operator refl refl refl (outside_set s.classes (one_text s.classes 126))) refl refl refl refl) (calls s rule.sequence_operator 121 122 at_sequence_operator_plain refl refl refl refl refl) (at_once s) (calls s rule.choice_operator 123 124 at_choice_operator_plain refl refl refl refl refl))) (trivia_in_place s (seq 469 469 (many s 470 (op.IsOne 0 470 469) refl (λ c z. z) (tight_between s) refl (inl (tested s 0 (outside_sub s.classes ((32, 32) ∷ (9, 9) ∷ (10, 10) ∷ (13, 13) ∷ []) rule.WHITESPACE refl refl refl (outside_choice s.classes ((32, 32) ∷ (9, 9) ∷ []) ((10, 10) ∷ (13, 13) ∷ []) false false (outside_set s.classes (one_of_two s.classes (one_text s.classes 32) (one_text s.classes 9))) (outside_sub s.classes ((10, 10) ∷ (13, 13) ∷ []) rule.newline refl refl refl (outside_choice s.classes ((10, 10) ∷ []) ((13, 13) ∷ []) false false (outside_set s.classes (one_text s.classes 10)) (outside_text s.classes))))) refl refl refl)) (within s rule.WHITESPACE refl refl refl (either s 471 470 472 refl (at_once s) (one_of s 1 (one_of_two s.classes (one_text s.classes 32) (one_text s.classes 9)) refl refl refl) (tested s 2 (outside_sub s.classes ((10, 10) ∷ (13, 13) ∷ []) rule.newline refl refl refl (outside_choice s.classes ((10, 10) ∷ []) ((13, 13) ∷ []) false false (outside_set s.classes (one_text s.classes 10)) (outside_text s.classes))) refl refl refl) (within s rule.newline refl refl refl (either s 473 472 473 refl (at_once s) (word s 30 refl refl refl) (at_once s) (word s 31 refl refl refl)))))) (between s) (many s 474 (op.IsOne 3 474 465) refl (λ c z. z) (tight_between s) refl (inl (tested s 3 (outside_seq s.classes ((47, 47) ∷ (47, 47) ∷ []) false (outside_sub s.classes ((47, 47) ∷ (47, 47) ∷ []) rule.COMMENT refl refl refl (outside_choice s.classes ((47, 47) ∷ []) ((47, 47) ∷ []) false false (outside_sub s.classes ((47, 47) ∷ []) rule.block_comment refl refl refl (outside_seq s.classes ((47, 47) ∷ []) false (outside_seq s.classes ((47, 47) ∷ []) false (outside_text s.classes)))) (outside_sub s.classes ((47, 47) ∷ []) rule.line_comment refl refl refl (outside_seq s.classes ((47, 47) ∷ []) false (outside_seq s.classes ((47, 47) ∷ []) false (outside_text s.classes))))))) refl refl refl)) (tries s 475 477 477 476 refl (enters s rule.COMMENT 191 192 at_COMMENT_atomic_apart refl refl refl refl refl) (between s) (many s 478 (op.IsOne 0 478 476) refl (λ c z. z) (tight_between s) refl (inl (tested s 0 (outside_sub s.classes ((32, 32) ∷ (9, 9) ∷ (10, 10) ∷ (13, 13) ∷ []) rule.WHITESPACE refl refl refl (outside_choice s.classes ((32, 32) ∷ (9, 9) ∷ []) ((10, 10) ∷ (13, 13) ∷ []) false false (outside_set s.classes (one_of_two s.classes (one_text s.classes 32) (one_text s.classes 9))) (outside_sub s.classes ((10, 10) ∷ (13, 13) ∷ []) rule.newline refl refl refl (outside_choice s.classes ((10, 10) ∷ []) ((13, 13) ∷ []) false false (outside_set s.classes (one_text s.classes 10)) (outside_text s.classes))))) refl refl refl)) (within s rule.WHITESPACE refl refl refl (either s 479 478 480 refl (at_once s) (one_of s 1 (one_of_two s.classes (one_text s.classes 32) (one_text s.classes 9)) refl refl refl) (tested s 2 (outside_sub s.classes ((10, 10) ∷ (13, 13) ∷ []) rule.newline refl refl refl (outside_choice s.classes ((10, 10) ∷ []) ((13, 13) ∷ []) false false (outside_set s.classes (one_text s.classes 10)) (outside_text s.classes))) refl refl refl) (within s rule.newline refl refl refl (either s 481 480 481 refl (at_once s) (word s 30 refl refl refl) (at_once s) (word s 31 refl refl refl)))))) refl)))) (calls s rule.term 105 106 at_term_plain refl refl refl refl refl)) refl)

  term_plain : Laid s (Run NonAtomicMode (body_of rule.term)) 105 106 0
  unfolding whitespace comment
  term_plain = seq 482 483 (seq 484 485 (seq 486 487 (maybe s 488 refl (noted s 18 489 refl (outside_silent s.classes ((35, 35) ∷ []) rule.node_tag refl refl refl (outside_seq s.classes ((35, 35) ∷ []) true (outside_call s.classes ((35, 35) ∷ []) false rule.tag_id refl refl refl (outside_seq s.classes ((35, 35) ∷ []) false (outside_seq s.classes ((35, 35) ∷ []) false (outside_set s.classes (one_text s.classes 35))))))) refl refl refl refl) (within s rule.node_tag refl refl refl (tries s 490 492 493 491 refl (calls s rule.tag_id 99 100 at_tag_id_atomic refl refl refl refl refl) (trivia_in_place s (seq 494 494 (many s 495 (op.IsOne 0 495 494) refl (λ c z. z) (tight_between s) refl (inl (tested s 0 (outside_sub s.classes ((32, 32) ∷ (9, 9) ∷ (10, 10) ∷ (13, 13) ∷ []) rule.WHITESPACE refl refl refl (outside_choice s.classes ((32, 32) ∷ (9, 9) ∷ []) ((10, 10) ∷ (13, 13) ∷ []) false false (outside_set s.classes (one_of_two s.classes (one_text s.classes 32) (one_text s.classes 9))) (outside_sub s.classes ((10, 10) ∷ (13, 13) ∷ []) rule.newline refl refl refl (outside_choice s.classes ((10, 10) ∷ []) ((13, 13) ∷ []) false false (outside_set s.classes (one_text s.classes 10)) (outside_text s.classes))))) refl refl refl)) (within s rule.WHITESPACE refl refl refl (either s 496 495 497 refl (at_once s) (one_of s 1 (one_of_two s.classes (one_text s.classes 32) (one_text s.classes 9)) refl refl refl) (tested s 2 (outside_sub s.classes ((10, 10) ∷ (13, 13) ∷ []) rule.newline refl refl refl (outside_choice s.classes ((10, 10) ∷ []) ((13, 13) ∷ []) false false (outside_set s.classes (one_text s.classes 10)) (outside_text s.classes))) refl refl refl) (within s rule.newline refl refl refl (either s 498 497 498 refl (at_once s) (word s 30 refl refl refl) (at_once s) (word s 31 refl refl refl)))))) (between s) (many s 499 (op.IsOne 3 499 493) refl (λ c z. z) (tight_between s) refl (inl (tested s 3 (outside_seq s.classes ((47, 47) ∷ (47, 47) ∷ []) false (outside_sub s.classes ((47, 47) ∷ (47, 47) ∷ []) rule.COMMENT refl refl refl (outside_choice s.classes ((47, 47) ∷ []) ((47, 47) ∷ []) false false (outside_sub s.classes ((47, 47) ∷ []) rule.block_comment refl refl refl (outside_seq s.classes ((47, 47) ∷ []) false (outside_seq s.classes ((47, 47) ∷ []) false (outside_text s.classes)))) (outside_sub s.classes ((47, 47) ∷ []) rule.line_comment refl refl refl (outside_seq s.classes ((47, 47) ∷ []) false (outside_seq s.classes ((47, 47) ∷ []) false (outside_text s.classes))))))) refl refl refl)) (tries s 500 502 502 501 refl (enters s rule.COMMENT 191 192 at_COMMENT_atomic_apart refl refl refl refl refl) (between s) (many s 503 (op.IsOne 0 503 501) refl (λ c z. z) (tight_between s) refl (inl (tested s 0 (outside_sub s.classes ((32, 32) ∷ (9, 9) ∷ (10, 10) ∷ (13, 13) ∷ []) rule.WHITESPACE refl refl refl (outside_choice s.classes ((32, 32) ∷ (9, 9) ∷ []) ((10, 10) ∷ (13, 13) ∷ []) false false (outside_set s.classes (one_of_two s.classes (one_text s.classes 32) (one_text s.classes 9))) (outside_sub s.classes ((10, 10) ∷ (13, 13) ∷ []) rule.newline refl refl refl (outside_choice s.classes ((10, 10) ∷ []) ((13, 13) ∷ []) false false (outside_set s.classes (one_text s.classes 10)) (outside_text s.classes))))) refl refl refl)) (within s rule.WHITESPACE refl refl refl (either s 504 503 505 refl (at_once s) (one_of s 1 (one_of_two s.classes (one_text s.classes 32) (one_text s.classes 9)) refl refl refl) (tested s 2 (outside_sub s.classes ((10, 10) ∷ (13, 13) ∷ []) rule.newline refl refl refl (outside_choice s.classes ((10, 10) ∷ []) ((13, 13) ∷ []) false false (outside_set s.classes (one_text s.classes 10)) (outside_text s.classes))) refl refl refl) (within s rule.newline refl refl refl (either s 506 505 506 refl (at_once s) (word s 30 refl refl refl) (at_once s) (word s 31 refl refl refl)))))) refl)))) (calls s rule.assignment_operator 75 76 at_assignment_operator_plain refl refl refl refl refl) refl))) (trivia_in_place s (seq 507 507 (many s 508 (op.IsOne 0 508 507) refl (λ c z. z) (tight_between s) refl (inl (tested s 0 (outside_sub s.classes ((32, 32) ∷ (9, 9) ∷ (10, 10) ∷ (13, 13) ∷ []) rule.WHITESPACE refl refl refl (outside_choice s.classes ((32, 32) ∷ (9, 9) ∷ []) ((10, 10) ∷ (13, 13) ∷ []) false false (outside_set s.classes (one_of_two s.classes (one_text s.classes 32) (one_text s.classes 9))) (outside_sub s.classes ((10, 10) ∷ (13, 13) ∷ []) rule.newline refl refl refl (outside_choice s.classes ((10, 10) ∷ []) ((13, 13) ∷ []) false false (outside_set s.classes (one_text s.classes 10)) (outside_text s.classes))))) refl refl refl)) (within s rule.WHITESPACE refl refl refl (either s 509 508 510 refl (at_once s) (one_of s 1 (one_of_two s.classes (one_text s.classes 32) (one_text s.classes 9)) refl refl refl) (tested s 2 (outside_sub s.classes ((10, 10) ∷ (13, 13) ∷ []) rule.newline refl refl refl (outside_choice s.classes ((10, 10) ∷ []) ((13, 13) ∷ []) false false (outside_set s.classes (one_text s.classes 10)) (outside_text s.classes))) refl refl refl) (within s rule.newline refl refl refl (either s 511 510 511 refl (at_once s) (word s 30 refl refl refl) (at_once s) (word s 31 refl refl refl)))))) (between s) (many s 512 (op.IsOne 3 512 487) refl (λ c z. z) (tight_between s) refl (inl (tested s 3 (outside_seq s.classes ((47, 47) ∷ (47, 47) ∷ []) false (outside_sub s.classes ((47, 47) ∷ (47, 47) ∷ []) rule.COMMENT refl refl refl (outside_choice s.classes ((47, 47) ∷ []) ((47, 47) ∷ []) false false (outside_sub s.classes ((47, 47) ∷ []) rule.block_comment refl refl refl (outside_seq s.classes ((47, 47) ∷ []) false (outside_seq s.classes ((47, 47) ∷ []) false (outside_text s.classes)))) (outside_sub s.classes ((47, 47) ∷ []) rule.line_comment refl refl refl (outside_seq s.classes ((47, 47) ∷ []) false (outside_seq s.classes ((47, 47) ∷ []) false (outside_text s.classes))))))) refl refl refl)) (tries s 513 515 515 514 refl (enters s rule.COMMENT 191 192 at_COMMENT_atomic_apart refl refl refl refl refl) (between s) (many s 516 (op.IsOne 0 516 514) refl (λ c z. z) (tight_between s) refl (inl (tested s 0 (outside_sub s.classes ((32, 32) ∷ (9, 9) ∷ (10, 10) ∷ (13, 13) ∷ []) rule.WHITESPACE refl refl refl (outside_choice s.classes ((32, 32) ∷ (9, 9) ∷ []) ((10, 10) ∷ (13, 13) ∷ []) false false (outside_set s.classes (one_of_two s.classes (one_text s.classes 32) (one_text s.classes 9))) (outside_sub s.classes ((10, 10) ∷ (13, 13) ∷ []) rule.newline refl refl refl (outside_choice s.classes ((10, 10) ∷ []) ((13, 13) ∷ []) false false (outside_set s.classes (one_text s.classes 10)) (outside_text s.classes))))) refl refl refl)) (within s rule.WHITESPACE refl refl refl (either s 517 516 518 refl (at_once s) (one_of s 1 (one_of_two s.classes (one_text s.classes 32) (one_text s.classes 9)) refl refl refl) (tested s 2 (outside_sub s.classes ((10, 10) ∷ (13, 13) ∷ []) rule.newline refl refl refl (outside_choice s.classes ((10, 10) ∷ []) ((13, 13) ∷ []) false false (outside_set s.classes (one_text s.classes 10)) (outside_text s.classes))) refl refl refl) (within s rule.newline refl refl refl (either s 519 518 519 refl (at_once s) (word s 30 refl refl refl) (at_once s) (word s 31 refl refl refl)))))) refl)))) (turns s 520 522 523 524 525 refl (noted s 19 521 refl (outside_silent s.classes ((38, 38) ∷ (33, 33) ∷ []) rule.prefix_operator refl refl refl (outside_choice s.classes ((38, 38) ∷ []) ((33, 33) ∷ []) true true (outside_call s.classes ((38, 38) ∷ []) false rule.positive_predicate_operator refl refl refl (outside_set s.classes (one_text s.classes 38))) (outside_call s.classes ((33, 33) ∷ []) false rule.negative_predicate_operator refl refl refl (outside_set s.classes (one_text s.classes 33))))) refl refl refl refl) refl refl (trivia_in_place s (seq 526 526 (many s 527 (op.IsOne 0 527 526) refl (λ c z. z) (tight_between s) refl (inl (tested s 0 (outside_sub s.classes ((32, 32) ∷ (9, 9) ∷ (10, 10) ∷ (13, 13) ∷ []) rule.WHITESPACE refl refl refl (outside_choice s.classes ((32, 32) ∷ (9, 9) ∷ []) ((10, 10) ∷ (13, 13) ∷ []) false false (outside_set s.classes (one_of_two s.classes (one_text s.classes 32) (one_text s.classes 9))) (outside_sub s.classes ((10, 10) ∷ (13, 13) ∷ []) rule.newline refl refl refl (outside_choice s.classes ((10, 10) ∷ []) ((13, 13) ∷ []) false false (outside_set s.classes (one_text s.classes 10)) (outside_text s.classes))))) refl refl refl)) (within s rule.WHITESPACE refl refl refl (either s 528 527 529 refl (at_once s) (one_of s 1 (one_of_two s.classes (one_text s.classes 32) (one_text s.classes 9)) refl refl refl) (tested s 2 (outside_sub s.classes ((10, 10) ∷ (13, 13) ∷ []) rule.newline refl refl refl (outside_choice s.classes ((10, 10) ∷ []) ((13, 13) ∷ []) false false (outside_set s.classes (one_text s.classes 10)) (outside_text s.classes))) refl refl refl) (within s rule.newline refl refl refl (either s 530 529 530 refl (at_once s) (word s 30 refl refl refl) (at_once s) (word s 31 refl refl refl)))))) (between s) (many s 531 (op.IsOne 3 531 524) refl (λ c z. z) (tight_between s) refl (inl (tested s 3 (outside_seq s.classes ((47, 47) ∷ (47, 47) ∷ []) false (outside_sub s.classes ((47, 47) ∷ (47, 47) ∷ []) rule.COMMENT refl refl refl (outside_choice s.classes ((47, 47) ∷ []) ((47, 47) ∷ []) false false (outside_sub s.classes ((47, 47) ∷ []) rule.block_comment refl refl refl (outside_seq s.classes ((47, 47) ∷ []) false (outside_seq s.classes ((47, 47) ∷ []) false (outside_text s.classes)))) (outside_sub s.classes ((47, 47) ∷ []) rule.line_comment refl refl refl (outside_seq s.classes ((47, 47) ∷ []) false (outside_seq s.classes ((47, 47) ∷ []) false (outside_text s.classes))))))) refl refl refl)) (tries s 532 534 534 533 refl (enters s rule.COMMENT 191 192 at_COMMENT_atomic_apart refl refl refl refl refl) (between s) (many s 535 (op.IsOne 0 535 533) refl (λ c z. z) (tight_between s) refl (inl (tested s 0 (outside_sub s.classes ((32, 32) ∷ (9, 9) ∷ (10, 10) ∷ (13, 13) ∷ []) rule.WHITESPACE refl refl refl (outside_choice s.classes ((32, 32) ∷ (9, 9) ∷ []) ((10, 10) ∷ (13, 13) ∷ []) false false (outside_set s.classes (one_of_two s.classes (one_text s.classes 32) (one_text s.classes 9))) (outside_sub s.classes ((10, 10) ∷ (13, 13) ∷ []) rule.newline refl refl refl (outside_choice s.classes ((10, 10) ∷ []) ((13, 13) ∷ []) false false (outside_set s.classes (one_text s.classes 10)) (outside_text s.classes))))) refl refl refl)) (within s rule.WHITESPACE refl refl refl (either s 536 535 537 refl (at_once s) (one_of s 1 (one_of_two s.classes (one_text s.classes 32) (one_text s.classes 9)) refl refl refl) (tested s 2 (outside_sub s.classes ((10, 10) ∷ (13, 13) ∷ []) rule.newline refl refl refl (outside_choice s.classes ((10, 10) ∷ []) ((13, 13) ∷ []) false false (outside_set s.classes (one_text s.classes 10)) (outside_text s.classes))) refl refl refl) (within s rule.newline refl refl refl (either s 538 537 538 refl (at_once s) (word s 30 refl refl refl) (at_once s) (word s 31 refl refl refl)))))) refl)))) (within s rule.prefix_operator refl refl refl (either s 539 540 539 refl (noted s 20 541 refl (outside_call s.classes ((38, 38) ∷ []) false rule.positive_predicate_operator refl refl refl (outside_set s.classes (one_text s.classes 38))) refl refl refl refl) (calls s rule.positive_predicate_operator 117 118 at_positive_predicate_operator_plain refl refl refl refl refl) (at_once s) (calls s rule.negative_predicate_operator 119 120 at_negative_predicate_operator_plain refl refl refl refl refl))) refl)) (trivia_in_place s (seq 542 542 (many s 543 (op.IsOne 0 543 542) refl (λ c z. z) (tight_between s) refl (inl (tested s 0 (outside_sub s.classes ((32, 32) ∷ (9, 9) ∷ (10, 10) ∷ (13, 13) ∷ []) rule.WHITESPACE refl refl refl (outside_choice s.classes ((32, 32) ∷ (9, 9) ∷ []) ((10, 10) ∷ (13, 13) ∷ []) false false (outside_set s.classes (one_of_two s.classes (one_text s.classes 32) (one_text s.classes 9))) (outside_sub s.classes ((10, 10) ∷ (13, 13) ∷ []) rule.newline refl refl refl (outside_choice s.classes ((10, 10) ∷ []) ((13, 13) ∷ []) false false (outside_set s.classes (one_text s.classes 10)) (outside_text s.classes))))) refl refl refl)) (within s rule.WHITESPACE refl refl refl (either s 544 543 545 refl (at_once s) (one_of s 1 (one_of_two s.classes (one_text s.classes 32) (one_text s.classes 9)) refl refl refl) (tested s 2 (outside_sub s.classes ((10, 10) ∷ (13, 13) ∷ []) rule.newline refl refl refl (outside_choice s.classes ((10, 10) ∷ []) ((13, 13) ∷ []) false false (outside_set s.classes (one_text s.classes 10)) (outside_text s.classes))) refl refl refl) (within s rule.newline refl refl refl (either s 546 545 546 refl (at_once s) (word s 30 refl refl refl) (at_once s) (word s 31 refl refl refl)))))) (between s) (many s 547 (op.IsOne 3 547 485) refl (λ c z. z) (tight_between s) refl (inl (tested s 3 (outside_seq s.classes ((47, 47) ∷ (47, 47) ∷ []) false (outside_sub s.classes ((47, 47) ∷ (47, 47) ∷ []) rule.COMMENT refl refl refl (outside_choice s.classes ((47, 47) ∷ []) ((47, 47) ∷ []) false false (outside_sub s.classes ((47, 47) ∷ []) rule.block_comment refl refl refl (outside_seq s.classes ((47, 47) ∷ []) false (outside_seq s.classes ((47, 47) ∷ []) false (outside_text s.classes)))) (outside_sub s.classes ((47, 47) ∷ []) rule.line_comment refl refl refl (outside_seq s.classes ((47, 47) ∷ []) false (outside_seq s.classes ((47, 47) ∷ []) false (outside_text s.classes))))))) refl refl refl)) (tries s 548 550 550 549 refl (enters s rule.COMMENT 191 192 at_COMMENT_atomic_apart refl refl refl refl refl) (between s) (many s 551 (op.IsOne 0 551 549) refl (λ c z. z) (tight_between s) refl (inl (tested s 0 (outside_sub s.classes ((32, 32) ∷ (9, 9) ∷ (10, 10) ∷ (13, 13) ∷ []) rule.WHITESPACE refl refl refl (outside_choice s.classes ((32, 32) ∷ (9, 9) ∷ []) ((10, 10) ∷ (13, 13) ∷ []) false false (outside_set s.classes (one_of_two s.classes (one_text s.classes 32) (one_text s.classes 9))) (outside_sub s.classes ((10, 10) ∷ (13, 13) ∷ []) rule.newline refl refl refl (outside_choice s.classes ((10, 10) ∷ []) ((13, 13) ∷ []) false false (outside_set s.classes (one_text s.classes 10)) (outside_text s.classes))))) refl refl refl)) (within s rule.WHITESPACE refl refl refl (either s 552 551 553 refl (at_once s) (one_of s 1 (one_of_two s.classes (one_text s.classes 32) (one_text s.classes 9)) refl refl refl) (tested s 2 (outside_sub s.classes ((10, 10) ∷ (13, 13) ∷ []) rule.newline refl refl refl (outside_choice s.classes ((10, 10) ∷ []) ((13, 13) ∷ []) false false (outside_set s.classes (one_text s.classes 10)) (outside_text s.classes))) refl refl refl) (within s rule.newline refl refl refl (either s 554 553 554 refl (at_once s) (word s 30 refl refl refl) (at_once s) (word s 31 refl refl refl)))))) refl)))) (within s rule.node refl refl refl (either s 555 556 555 refl (noted s 21 557 refl (outside_seq s.classes ((40, 40) ∷ []) true (outside_seq s.classes ((40, 40) ∷ []) true (outside_call s.classes ((40, 40) ∷ []) false rule.opening_paren refl refl refl (outside_set s.classes (one_text s.classes 40))))) refl refl refl refl) (tries s 558 560 561 559 refl (seq 562 563 (calls s rule.opening_paren 81 82 at_opening_paren_plain refl refl refl refl refl) (trivia_in_place s (seq 564 564 (many s 565 (op.IsOne 0 565 564) refl (λ c z. z) (tight_between s) refl (inl (tested s 0 (outside_sub s.classes ((32, 32) ∷ (9, 9) ∷ (10, 10) ∷ (13, 13) ∷ []) rule.WHITESPACE refl refl refl (outside_choice s.classes ((32, 32) ∷ (9, 9) ∷ []) ((10, 10) ∷ (13, 13) ∷ []) false false (outside_set s.classes (one_of_two s.classes (one_text s.classes 32) (one_text s.classes 9))) (outside_sub s.classes ((10, 10) ∷ (13, 13) ∷ []) rule.newline refl refl refl (outside_choice s.classes ((10, 10) ∷ []) ((13, 13) ∷ []) false false (outside_set s.classes (one_text s.classes 10)) (outside_text s.classes))))) refl refl refl)) (within s rule.WHITESPACE refl refl refl (either s 566 565 567 refl (at_once s) (one_of s 1 (one_of_two s.classes (one_text s.classes 32) (one_text s.classes 9)) refl refl refl) (tested s 2 (outside_sub s.classes ((10, 10) ∷ (13, 13) ∷ []) rule.newline refl refl refl (outside_choice s.classes ((10, 10) ∷ []) ((13, 13) ∷ []) false false (outside_set s.classes (one_text s.classes 10)) (outside_text s.classes))) refl refl refl) (within s rule.newline refl refl refl (either s 568 567 568 refl (at_once s) (word s 30 refl refl refl) (at_once s) (word s 31 refl refl refl)))))) (between s) (many s 569 (op.IsOne 3 569 563) refl (λ c z. z) (tight_between s) refl (inl (tested s 3 (outside_seq s.classes ((47, 47) ∷ (47, 47) ∷ []) false (outside_sub s.classes ((47, 47) ∷ (47, 47) ∷ []) rule.COMMENT refl refl refl (outside_choice s.classes ((47, 47) ∷ []) ((47, 47) ∷ []) false false (outside_sub s.classes ((47, 47) ∷ []) rule.block_comment refl refl refl (outside_seq s.classes ((47, 47) ∷ []) false (outside_seq s.classes ((47, 47) ∷ []) false (outside_text s.classes)))) (outside_sub s.classes ((47, 47) ∷ []) rule.line_comment refl refl refl (outside_seq s.classes ((47, 47) ∷ []) false (outside_seq s.classes ((47, 47) ∷ []) false (outside_text s.classes))))))) refl refl refl)) (tries s 570 572 572 571 refl (enters s rule.COMMENT 191 192 at_COMMENT_atomic_apart refl refl refl refl refl) (between s) (many s 573 (op.IsOne 0 573 571) refl (λ c z. z) (tight_between s) refl (inl (tested s 0 (outside_sub s.classes ((32, 32) ∷ (9, 9) ∷ (10, 10) ∷ (13, 13) ∷ []) rule.WHITESPACE refl refl refl (outside_choice s.classes ((32, 32) ∷ (9, 9) ∷ []) ((10, 10) ∷ (13, 13) ∷ []) false false (outside_set s.classes (one_of_two s.classes (one_text s.classes 32) (one_text s.classes 9))) (outside_sub s.classes ((10, 10) ∷ (13, 13) ∷ []) rule.newline refl refl refl (outside_choice s.classes ((10, 10) ∷ []) ((13, 13) ∷ []) false false (outside_set s.classes (one_text s.classes 10)) (outside_text s.classes))))) refl refl refl)) (within s rule.WHITESPACE refl refl refl (either s 574 573 575 refl (at_once s) (one_of s 1 (one_of_two s.classes (one_text s.classes 32) (one_text s.classes 9)) refl refl refl) (tested s 2 (outside_sub s.classes ((10, 10) ∷ (13, 13) ∷ []) rule.newline refl refl refl (outside_choice s.classes ((10, 10) ∷ []) ((13, 13) ∷ []) false false (outside_set s.classes (one_text s.classes 10)) (outside_text s.classes))) refl refl refl) (within s rule.newline refl refl refl (either s 576 575 576 refl (at_once s) (word s 30 refl refl refl) (at_once s) (word s 31 refl refl refl)))))) refl)))) (calls s rule.expression 103 104 at_expression_plain refl refl refl refl refl)) (trivia_in_place s (seq 577 577 (many s 578 (op.IsOne 0 578 577) refl (λ c z. z) (tight_between s) refl (inl (tested s 0 (outside_sub s.classes ((32, 32) ∷ (9, 9) ∷ (10, 10) ∷ (13, 13) ∷ []) rule.WHITESPACE refl refl refl (outside_choice s.classes ((32, 32) ∷ (9, 9) ∷ []) ((10, 10) ∷ (13, 13) ∷ []) false false (outside_set s.classes (one_of_two s.classes (one_text s.classes 32) (one_text s.classes 9))) (outside_sub s.classes ((10, 10) ∷ (13, 13) ∷ []) rule.newline refl refl refl (outside_choice s.classes ((10, 10) ∷ []) ((13, 13) ∷ []) false false (outside_set s.classes (one_text s.classes 10)) (outside_text s.classes))))) refl refl refl)) (within s rule.WHITESPACE refl refl refl (either s 579 578 580 refl (at_once s) (one_of s 1 (one_of_two s.classes (one_text s.classes 32) (one_text s.classes 9)) refl refl refl) (tested s 2 (outside_sub s.classes ((10, 10) ∷ (13, 13) ∷ []) rule.newline refl refl refl (outside_choice s.classes ((10, 10) ∷ []) ((13, 13) ∷ []) false false (outside_set s.classes (one_text s.classes 10)) (outside_text s.classes))) refl refl refl) (within s rule.newline refl refl refl (either s 581 580 581 refl (at_once s) (word s 30 refl refl refl) (at_once s) (word s 31 refl refl refl)))))) (between s) (many s 582 (op.IsOne 3 582 561) refl (λ c z. z) (tight_between s) refl (inl (tested s 3 (outside_seq s.classes ((47, 47) ∷ (47, 47) ∷ []) false (outside_sub s.classes ((47, 47) ∷ (47, 47) ∷ []) rule.COMMENT refl refl refl (outside_choice s.classes ((47, 47) ∷ []) ((47, 47) ∷ []) false false (outside_sub s.classes ((47, 47) ∷ []) rule.block_comment refl refl refl (outside_seq s.classes ((47, 47) ∷ []) false (outside_seq s.classes ((47, 47) ∷ []) false (outside_text s.classes)))) (outside_sub s.classes ((47, 47) ∷ []) rule.line_comment refl refl refl (outside_seq s.classes ((47, 47) ∷ []) false (outside_seq s.classes ((47, 47) ∷ []) false (outside_text s.classes))))))) refl refl refl)) (tries s 583 585 585 584 refl (enters s rule.COMMENT 191 192 at_COMMENT_atomic_apart refl refl refl refl refl) (between s) (many s 586 (op.IsOne 0 586 584) refl (λ c z. z) (tight_between s) refl (inl (tested s 0 (outside_sub s.classes ((32, 32) ∷ (9, 9) ∷ (10, 10) ∷ (13, 13) ∷ []) rule.WHITESPACE refl refl refl (outside_choice s.classes ((32, 32) ∷ (9, 9) ∷ []) ((10, 10) ∷ (13, 13) ∷ []) false false (outside_set s.classes (one_of_two s.classes (one_text s.classes 32) (one_text s.classes 9))) (outside_sub s.classes ((10, 10) ∷ (13, 13) ∷ []) rule.newline refl refl refl (outside_choice s.classes ((10, 10) ∷ []) ((13, 13) ∷ []) false false (outside_set s.classes (one_text s.classes 10)) (outside_text s.classes))))) refl refl refl)) (within s rule.WHITESPACE refl refl refl (either s 587 586 588 refl (at_once s) (one_of s 1 (one_of_two s.classes (one_text s.classes 32) (one_text s.classes 9)) refl refl refl) (tested s 2 (outside_sub s.classes ((10, 10) ∷ (13, 13) ∷ []) rule.newline refl refl refl (outside_choice s.classes ((10, 10) ∷ []) ((13, 13) ∷ []) false false (outside_set s.classes (one_text s.classes 10)) (outside_text s.classes))) refl refl refl) (within s rule.newline refl refl refl (either s 589 588 589 refl (at_once s) (word s 30 refl refl refl) (at_once s) (word s 31 refl refl refl)))))) refl)))) (calls s rule.closing_paren 83 84 at_closing_paren_plain refl refl refl refl refl) refl) (at_once s) (within s rule.terminal refl refl refl (either s 590 591 590 refl (noted s 22 592 refl (outside_choice s.classes ((80, 80) ∷ (80, 80) ∷ (80, 80) ∷ (95, 95) ∷ (97, 122) ∷ (65, 90) ∷ (34, 34) ∷ []) ((94, 94) ∷ []) true true (outside_choice s.classes ((80, 80) ∷ (80, 80) ∷ (80, 80) ∷ (95, 95) ∷ (97, 122) ∷ (65, 90) ∷ []) ((34, 34) ∷ []) true true (outside_choice s.classes ((80, 80) ∷ (80, 80) ∷ (80, 80) ∷ []) ((95, 95) ∷ (97, 122) ∷ (65, 90) ∷ []) true true (outside_choice s.classes ((80, 80) ∷ (80, 80) ∷ []) ((80, 80) ∷ []) true true (outside_choice s.classes ((80, 80) ∷ []) ((80, 80) ∷ []) true true (outside_call s.classes ((80, 80) ∷ []) false rule._push_literal refl refl refl (outside_seq s.classes ((80, 80) ∷ []) false (outside_seq s.classes ((80, 80) ∷ []) false (outside_seq s.classes ((80, 80) ∷ []) false (outside_text s.classes))))) (outside_call s.classes ((80, 80) ∷ []) false rule._push refl refl refl (outside_seq s.classes ((80, 80) ∷ []) false (outside_seq s.classes ((80, 80) ∷ []) false (outside_seq s.classes ((80, 80) ∷ []) false (outside_text s.classes)))))) (outside_call s.classes ((80, 80) ∷ []) false rule.peek_slice refl refl refl (outside_seq s.classes ((80, 80) ∷ []) false (outside_seq s.classes ((80, 80) ∷ []) false (outside_seq s.classes ((80, 80) ∷ []) false (outside_seq s.classes ((80, 80) ∷ []) false (outside_seq s.classes ((80, 80) ∷ []) false (outside_text s.classes)))))))) (outside_call s.classes ((95, 95) ∷ (97, 122) ∷ (65, 90) ∷ []) false rule.identifier refl refl refl (outside_seq s.classes ((95, 95) ∷ (97, 122) ∷ (65, 90) ∷ []) false (outside_not s.classes ((95, 95) ∷ (97, 122) ∷ (65, 90) ∷ []) (tight_atomic s) (outside_set s.classes (one_of_two s.classes (one_text s.classes 95) (one_called s.classes rule.alpha refl refl refl (one_of_two s.classes (one_range s.classes 97 122) (one_range s.classes 65 90))))))))) (outside_call s.classes ((34, 34) ∷ []) true rule.string refl refl refl (outside_seq s.classes ((34, 34) ∷ []) true (outside_seq s.classes ((34, 34) ∷ []) true (outside_call s.classes ((34, 34) ∷ []) false rule.quote refl refl refl (outside_set s.classes (one_text s.classes 34))))))) (outside_call s.classes ((94, 94) ∷ []) false rule.insensitive_string refl refl refl (outside_seq s.classes ((94, 94) ∷ []) false (outside_set s.classes (one_text s.classes 94))))) refl refl refl refl) (either s 593 594 616 refl (noted s 23 595 refl (outside_choice s.classes ((80, 80) ∷ (80, 80) ∷ (80, 80) ∷ (95, 95) ∷ (97, 122) ∷ (65, 90) ∷ []) ((34, 34) ∷ []) true true (outside_choice s.classes ((80, 80) ∷ (80, 80) ∷ (80, 80) ∷ []) ((95, 95) ∷ (97, 122) ∷ (65, 90) ∷ []) true true (outside_choice s.classes ((80, 80) ∷ (80, 80) ∷ []) ((80, 80) ∷ []) true true (outside_choice s.classes ((80, 80) ∷ []) ((80, 80) ∷ []) true true (outside_call s.classes ((80, 80) ∷ []) false rule._push_literal refl refl refl (outside_seq s.classes ((80, 80) ∷ []) false (outside_seq s.classes ((80, 80) ∷ []) false (outside_seq s.classes ((80, 80) ∷ []) false (outside_text s.classes))))) (outside_call s.classes ((80, 80) ∷ []) false rule._push refl refl refl (outside_seq s.classes ((80, 80) ∷ []) false (outside_seq s.classes ((80, 80) ∷ []) false (outside_seq s.classes ((80, 80) ∷ []) false (outside_text s.classes)))))) (outside_call s.classes ((80, 80) ∷ []) false rule.peek_slice refl refl refl (outside_seq s.classes ((80, 80) ∷ []) false (outside_seq s.classes ((80, 80) ∷ []) false (outside_seq s.classes ((80, 80) ∷ []) false (outside_seq s.classes ((80, 80) ∷ []) false (outside_seq s.classes ((80, 80) ∷ []) false (outside_text s.classes)))))))) (outside_call s.classes ((95, 95) ∷ (97, 122) ∷ (65, 90) ∷ []) false rule.identifier refl refl refl (outside_seq s.classes ((95, 95) ∷ (97, 122) ∷ (65, 90) ∷ []) false (outside_not s.classes ((95, 95) ∷ (97, 122) ∷ (65, 90) ∷ []) (tight_atomic s) (outside_set s.classes (one_of_two s.classes (one_text s.classes 95) (one_called s.classes rule.alpha refl refl refl (one_of_two s.classes (one_range s.classes 97 122) (one_range s.classes 65 90))))))))) (outside_call s.classes ((34, 34) ∷ []) true rule.string refl refl refl (outside_seq s.classes ((34, 34) ∷ []) true (outside_seq s.classes ((34, 34) ∷ []) true (outside_call s.classes ((34, 34) ∷ []) false rule.quote refl refl refl (outside_set s.classes (one_text s.classes 34))))))) refl refl refl refl) (either s 596 597 614 refl (noted s 24 598 refl (outside_choice s.classes ((80, 80) ∷ (80, 80) ∷ (80, 80) ∷ []) ((95, 95) ∷ (97, 122) ∷ (65, 90) ∷ []) true true (outside_choice s.classes ((80, 80) ∷ (80, 80) ∷ []) ((80, 80) ∷ []) true true (outside_choice s.classes ((80, 80) ∷ []) ((80, 80) ∷ []) true true (outside_call s.classes ((80, 80) ∷ []) false rule._push_literal refl refl refl (outside_seq s.classes ((80, 80) ∷ []) false (outside_seq s.classes ((80, 80) ∷ []) false (outside_seq s.classes ((80, 80) ∷ []) false (outside_text s.classes))))) (outside_call s.classes ((80, 80) ∷ []) false rule._push refl refl refl (outside_seq s.classes ((80, 80) ∷ []) false (outside_seq s.classes ((80, 80) ∷ []) false (outside_seq s.classes ((80, 80) ∷ []) false (outside_text s.classes)))))) (outside_call s.classes ((80, 80) ∷ []) false rule.peek_slice refl refl refl (outside_seq s.classes ((80, 80) ∷ []) false (outside_seq s.classes ((80, 80) ∷ []) false (outside_seq s.classes ((80, 80) ∷ []) false (outside_seq s.classes ((80, 80) ∷ []) false (outside_seq s.classes ((80, 80) ∷ []) false (outside_text s.classes)))))))) (outside_call s.classes ((95, 95) ∷ (97, 122) ∷ (65, 90) ∷ []) false rule.identifier refl refl refl (outside_seq s.classes ((95, 95) ∷ (97, 122) ∷ (65, 90) ∷ []) false (outside_not s.classes ((95, 95) ∷ (97, 122) ∷ (65, 90) ∷ []) (tight_atomic s) (outside_set s.classes (one_of_two s.classes (one_text s.classes 95) (one_called s.classes rule.alpha refl refl refl (one_of_two s.classes (one_range s.classes 97 122) (one_range s.classes 65 90))))))))) refl refl refl refl) (either s 599 600 612 refl (noted s 25 601 refl (outside_choice s.classes ((80, 80) ∷ (80, 80) ∷ []) ((80, 80) ∷ []) true true (outside_choice s.classes ((80, 80) ∷ []) ((80, 80) ∷ []) true true (outside_call s.classes ((80, 80) ∷ []) false rule._push_literal refl refl refl (outside_seq s.classes ((80, 80) ∷ []) false (outside_seq s.classes ((80, 80) ∷ []) false (outside_seq s.classes ((80, 80) ∷ []) false (outside_text s.classes))))) (outside_call s.classes ((80, 80) ∷ []) false rule._push refl refl refl (outside_seq s.classes ((80, 80) ∷ []) false (outside_seq s.classes ((80, 80) ∷ []) false (outside_seq s.classes ((80, 80) ∷ []) false (outside_text s.classes)))))) (outside_call s.classes ((80, 80) ∷ []) false rule.peek_slice refl refl refl (outside_seq s.classes ((80, 80) ∷ []) false (outside_seq s.classes ((80, 80) ∷ []) false (outside_seq s.classes ((80, 80) ∷ []) false (outside_seq s.classes ((80, 80) ∷ []) false (outside_seq s.classes ((80, 80) ∷ []) false (outside_text s.classes)))))))) refl refl refl refl) (either s 602 603 610 refl (noted s 26 604 refl (outside_choice s.classes ((80, 80) ∷ []) ((80, 80) ∷ []) true true (outside_call s.classes ((80, 80) ∷ []) false rule._push_literal refl refl refl (outside_seq s.classes ((80, 80) ∷ []) false (outside_seq s.classes ((80, 80) ∷ []) false (outside_seq s.classes ((80, 80) ∷ []) false (outside_text s.classes))))) (outside_call s.classes ((80, 80) ∷ []) false rule._push refl refl refl (outside_seq s.classes ((80, 80) ∷ []) false (outside_seq s.classes ((80, 80) ∷ []) false (outside_seq s.classes ((80, 80) ∷ []) false (outside_text s.classes)))))) refl refl refl refl) (either s 605 606 608 refl (noted s 27 607 refl (outside_call s.classes ((80, 80) ∷ []) false rule._push_literal refl refl refl (outside_seq s.classes ((80, 80) ∷ []) false (outside_seq s.classes ((80, 80) ∷ []) false (outside_seq s.classes ((80, 80) ∷ []) false (outside_text s.classes))))) refl refl refl refl) (calls s rule._push_literal 147 148 at_push_literal__plain refl refl refl refl refl) (noted s 27 609 refl (outside_call s.classes ((80, 80) ∷ []) false rule._push refl refl refl (outside_seq s.classes ((80, 80) ∷ []) false (outside_seq s.classes ((80, 80) ∷ []) false (outside_seq s.classes ((80, 80) ∷ []) false (outside_text s.classes))))) refl refl refl refl) (calls s rule._push 145 146 at_push__plain refl refl refl refl refl)) (noted s 27 611 refl (outside_call s.classes ((80, 80) ∷ []) false rule.peek_slice refl refl refl (outside_seq s.classes ((80, 80) ∷ []) false (outside_seq s.classes ((80, 80) ∷ []) false (outside_seq s.classes ((80, 80) ∷ []) false (outside_seq s.classes ((80, 80) ∷ []) false (outside_seq s.classes ((80, 80) ∷ []) false (outside_text s.classes))))))) refl refl refl refl) (calls s rule.peek_slice 149 150 at_peek_slice_plain refl refl refl refl refl)) (noted s 6 613 refl (outside_call s.classes ((95, 95) ∷ (97, 122) ∷ (65, 90) ∷ []) false rule.identifier refl refl refl (outside_seq s.classes ((95, 95) ∷ (97, 122) ∷ (65, 90) ∷ []) false (outside_not s.classes ((95, 95) ∷ (97, 122) ∷ (65, 90) ∷ []) (tight_atomic s) (outside_set s.classes (one_of_two s.classes (one_text s.classes 95) (one_called s.classes rule.alpha refl refl refl (one_of_two s.classes (one_range s.classes 97 122) (one_range s.classes 65 90)))))))) refl refl refl refl) (calls s rule.identifier 151 152 at_identifier_atomic refl refl refl refl refl)) (noted s 28 615 refl (outside_call s.classes ((34, 34) ∷ []) true rule.string refl refl refl (outside_seq s.classes ((34, 34) ∷ []) true (outside_seq s.classes ((34, 34) ∷ []) true (outside_call s.classes ((34, 34) ∷ []) false rule.quote refl refl refl (outside_set s.classes (one_text s.classes 34)))))) refl refl refl refl) (calls s rule.string 157 158 at_string_compound refl refl refl refl refl)) (noted s 29 617 refl (outside_call s.classes ((94, 94) ∷ []) false rule.insensitive_string refl refl refl (outside_seq s.classes ((94, 94) ∷ []) false (outside_set s.classes (one_text s.classes 94)))) refl refl refl refl) (calls s rule.insensitive_string 159 160 at_insensitive_string_plain refl refl refl refl refl)) (at_once s) (calls s rule.range 161 162 at_range_plain refl refl refl refl refl)))))) (trivia_in_place s (seq 618 618 (many s 619 (op.IsOne 0 619 618) refl (λ c z. z) (tight_between s) refl (inl (tested s 0 (outside_sub s.classes ((32, 32) ∷ (9, 9) ∷ (10, 10) ∷ (13, 13) ∷ []) rule.WHITESPACE refl refl refl (outside_choice s.classes ((32, 32) ∷ (9, 9) ∷ []) ((10, 10) ∷ (13, 13) ∷ []) false false (outside_set s.classes (one_of_two s.classes (one_text s.classes 32) (one_text s.classes 9))) (outside_sub s.classes ((10, 10) ∷ (13, 13) ∷ []) rule.newline refl refl refl (outside_choice s.classes ((10, 10) ∷ []) ((13, 13) ∷ []) false false (outside_set s.classes (one_text s.classes 10)) (outside_text s.classes))))) refl refl refl)) (within s rule.WHITESPACE refl refl refl (either s 620 619 621 refl (at_once s) (one_of s 1 (one_of_two s.classes (one_text s.classes 32) (one_text s.classes 9)) refl refl refl) (tested s 2 (outside_sub s.classes ((10, 10) ∷ (13, 13) ∷ []) rule.newline refl refl refl (outside_choice s.classes ((10, 10) ∷ []) ((13, 13) ∷ []) false false (outside_set s.classes (one_text s.classes 10)) (outside_text s.classes))) refl refl refl) (within s rule.newline refl refl refl (either s 622 621 622 refl (at_once s) (word s 30 refl refl refl) (at_once s) (word s 31 refl refl refl)))))) (between s) (many s 623 (op.IsOne 3 623 483) refl (λ c z. z) (tight_between s) refl (inl (tested s 3 (outside_seq s.classes ((47, 47) ∷ (47, 47) ∷ []) false (outside_sub s.classes ((47, 47) ∷ (47, 47) ∷ []) rule.COMMENT refl refl refl (outside_choice s.classes ((47, 47) ∷ []) ((47, 47) ∷ []) false false (outside_sub s.classes ((47, 47) ∷ []) rule.block_comment refl refl refl (outside_seq s.classes ((47, 47) ∷ []) false (outside_seq s.classes ((47, 47) ∷ []) false (outside_text s.classes)))) (outside_sub s.classes ((47, 47) ∷ []) rule.line_comment refl refl refl (outside_seq s.classes ((47, 47) ∷ []) false (outside_seq s.classes ((47, 47) ∷ []) false (outside_text s.classes))))))) refl refl refl)) (tries s 624 626 626 625 refl (enters s rule.COMMENT 191 192 at_COMMENT_atomic_apart refl refl refl refl refl) (between s) (many s 627 (op.IsOne 0 627 625) refl (λ c z. z) (tight_between s) refl (inl (tested s 0 (outside_sub s.classes ((32, 32) ∷ (9, 9) ∷ (10, 10) ∷ (13, 13) ∷ []) rule.WHITESPACE refl refl refl (outside_choice s.classes ((32, 32) ∷ (9, 9) ∷ []) ((10, 10) ∷ (13, 13) ∷ []) false false (outside_set s.classes (one_of_two s.classes (one_text s.classes 32) (one_text s.classes 9))) (outside_sub s.classes ((10, 10) ∷ (13, 13) ∷ []) rule.newline refl refl refl (outside_choice s.classes ((10, 10) ∷ []) ((13, 13) ∷ []) false false (outside_set s.classes (one_text s.classes 10)) (outside_text s.classes))))) refl refl refl)) (within s rule.WHITESPACE refl refl refl (either s 628 627 629 refl (at_once s) (one_of s 1 (one_of_two s.classes (one_text s.classes 32) (one_text s.classes 9)) refl refl refl) (tested s 2 (outside_sub s.classes ((10, 10) ∷ (13, 13) ∷ []) rule.newline refl refl refl (outside_choice s.classes ((10, 10) ∷ []) ((13, 13) ∷ []) false false (outside_set s.classes (one_text s.classes 10)) (outside_text s.classes))) refl refl refl) (within s rule.newline refl refl refl (either s 630 629 630 refl (at_once s) (word s 30 refl refl refl) (at_once s) (word s 31 refl refl refl)))))) refl)))) (turns s 631 633 634 635 636 refl (noted s 30 632 refl (outside_silent s.classes ((63, 63) ∷ (42, 42) ∷ (43, 43) ∷ (123, 123) ∷ (123, 123) ∷ (123, 123) ∷ (123, 123) ∷ []) rule.postfix_operator refl refl refl (outside_choice s.classes ((63, 63) ∷ (42, 42) ∷ (43, 43) ∷ (123, 123) ∷ (123, 123) ∷ (123, 123) ∷ []) ((123, 123) ∷ []) true true (outside_choice s.classes ((63, 63) ∷ (42, 42) ∷ (43, 43) ∷ (123, 123) ∷ (123, 123) ∷ []) ((123, 123) ∷ []) true true (outside_choice s.classes ((63, 63) ∷ (42, 42) ∷ (43, 43) ∷ (123, 123) ∷ []) ((123, 123) ∷ []) true true (outside_choice s.classes ((63, 63) ∷ (42, 42) ∷ (43, 43) ∷ []) ((123, 123) ∷ []) true true (outside_choice s.classes ((63, 63) ∷ (42, 42) ∷ []) ((43, 43) ∷ []) true true (outside_choice s.classes ((63, 63) ∷ []) ((42, 42) ∷ []) true true (outside_call s.classes ((63, 63) ∷ []) false rule.optional_operator refl refl refl (outside_set s.classes (one_text s.classes 63))) (outside_call s.classes ((42, 42) ∷ []) false rule.repeat_operator refl refl refl (outside_set s.classes (one_text s.classes 42)))) (outside_call s.classes ((43, 43) ∷ []) false rule.repeat_once_operator refl refl refl (outside_set s.classes (one_text s.classes 43)))) (outside_call s.classes ((123, 123) ∷ []) true rule.repeat_exact refl refl refl (outside_seq s.classes ((123, 123) ∷ []) true (outside_seq s.classes ((123, 123) ∷ []) true (outside_call s.classes ((123, 123) ∷ []) false rule.opening_brace refl refl refl (outside_set s.classes (one_text s.classes 123))))))) (outside_call s.classes ((123, 123) ∷ []) true rule.repeat_min refl refl refl (outside_seq s.classes ((123, 123) ∷ []) true (outside_seq s.classes ((123, 123) ∷ []) true (outside_seq s.classes ((123, 123) ∷ []) true (outside_call s.classes ((123, 123) ∷ []) false rule.opening_brace refl refl refl (outside_set s.classes (one_text s.classes 123)))))))) (outside_call s.classes ((123, 123) ∷ []) true rule.repeat_max refl refl refl (outside_seq s.classes ((123, 123) ∷ []) true (outside_seq s.classes ((123, 123) ∷ []) true (outside_seq s.classes ((123, 123) ∷ []) true (outside_call s.classes ((123, 123) ∷ []) false rule.opening_brace refl refl refl (outside_set s.classes (one_text s.classes 123)))))))) (outside_call s.classes ((123, 123) ∷ []) true rule.repeat_min_max refl refl refl (outside_seq s.classes ((123, 123) ∷ []) true (outside_seq s.classes ((123, 123) ∷ []) true (outside_seq s.classes ((123, 123) ∷ []) true (outside_seq s.classes ((123, 123) ∷ []) true (outside_call s.classes ((123, 123) ∷ []) false rule.opening_brace refl refl refl (outside_set s.classes (one_text s.classes 123)))))))))) refl refl refl refl) refl refl (trivia_in_place s (seq 637 637 (many s 638 (op.IsOne 0 638 637) refl (λ c z. z) (tight_between s) refl (inl (tested s 0 (outside_sub s.classes ((32, 32) ∷ (9, 9) ∷ (10, 10) ∷ (13, 13) ∷ []) rule.WHITESPACE refl refl refl (outside_choice s.classes ((32, 32) ∷ (9, 9) ∷ []) ((10, 10) ∷ (13, 13) ∷ []) false false (outside_set s.classes (one_of_two s.classes (one_text s.classes 32) (one_text s.classes 9))) (outside_sub s.classes ((10, 10) ∷ (13, 13) ∷ []) rule.newline refl refl refl (outside_choice s.classes ((10, 10) ∷ []) ((13, 13) ∷ []) false false (outside_set s.classes (one_text s.classes 10)) (outside_text s.classes))))) refl refl refl)) (within s rule.WHITESPACE refl refl refl (either s 639 638 640 refl (at_once s) (one_of s 1 (one_of_two s.classes (one_text s.classes 32) (one_text s.classes 9)) refl refl refl) (tested s 2 (outside_sub s.classes ((10, 10) ∷ (13, 13) ∷ []) rule.newline refl refl refl (outside_choice s.classes ((10, 10) ∷ []) ((13, 13) ∷ []) false false (outside_set s.classes (one_text s.classes 10)) (outside_text s.classes))) refl refl refl) (within s rule.newline refl refl refl (either s 641 640 641 refl (at_once s) (word s 30 refl refl refl) (at_once s) (word s 31 refl refl refl)))))) (between s) (many s 642 (op.IsOne 3 642 635) refl (λ c z. z) (tight_between s) refl (inl (tested s 3 (outside_seq s.classes ((47, 47) ∷ (47, 47) ∷ []) false (outside_sub s.classes ((47, 47) ∷ (47, 47) ∷ []) rule.COMMENT refl refl refl (outside_choice s.classes ((47, 47) ∷ []) ((47, 47) ∷ []) false false (outside_sub s.classes ((47, 47) ∷ []) rule.block_comment refl refl refl (outside_seq s.classes ((47, 47) ∷ []) false (outside_seq s.classes ((47, 47) ∷ []) false (outside_text s.classes)))) (outside_sub s.classes ((47, 47) ∷ []) rule.line_comment refl refl refl (outside_seq s.classes ((47, 47) ∷ []) false (outside_seq s.classes ((47, 47) ∷ []) false (outside_text s.classes))))))) refl refl refl)) (tries s 643 645 645 644 refl (enters s rule.COMMENT 191 192 at_COMMENT_atomic_apart refl refl refl refl refl) (between s) (many s 646 (op.IsOne 0 646 644) refl (λ c z. z) (tight_between s) refl (inl (tested s 0 (outside_sub s.classes ((32, 32) ∷ (9, 9) ∷ (10, 10) ∷ (13, 13) ∷ []) rule.WHITESPACE refl refl refl (outside_choice s.classes ((32, 32) ∷ (9, 9) ∷ []) ((10, 10) ∷ (13, 13) ∷ []) false false (outside_set s.classes (one_of_two s.classes (one_text s.classes 32) (one_text s.classes 9))) (outside_sub s.classes ((10, 10) ∷ (13, 13) ∷ []) rule.newline refl refl refl (outside_choice s.classes ((10, 10) ∷ []) ((13, 13) ∷ []) false false (outside_set s.classes (one_text s.classes 10)) (outside_text s.classes))))) refl refl refl)) (within s rule.WHITESPACE refl refl refl (either s 647 646 648 refl (at_once s) (one_of s 1 (one_of_two s.classes (one_text s.classes 32) (one_text s.classes 9)) refl refl refl) (tested s 2 (outside_sub s.classes ((10, 10) ∷ (13, 13) ∷ []) rule.newline refl refl refl (outside_choice s.classes ((10, 10) ∷ []) ((13, 13) ∷ []) false false (outside_set s.classes (one_text s.classes 10)) (outside_text s.classes))) refl refl refl) (within s rule.newline refl refl refl (either s 649 648 649 refl (at_once s) (word s 30 refl refl refl) (at_once s) (word s 31 refl refl refl)))))) refl)))) (within s rule.postfix_operator refl refl refl (either s 650 651 650 refl (noted s 31 652 refl (outside_choice s.classes ((63, 63) ∷ (42, 42) ∷ (43, 43) ∷ (123, 123) ∷ (123, 123) ∷ []) ((123, 123) ∷ []) true true (outside_choice s.classes ((63, 63) ∷ (42, 42) ∷ (43, 43) ∷ (123, 123) ∷ []) ((123, 123) ∷ []) true true (outside_choice s.classes ((63, 63) ∷ (42, 42) ∷ (43, 43) ∷ []) ((123, 123) ∷ []) true true (outside_choice s.classes ((63, 63) ∷ (42, 42) ∷ []) ((43, 43) ∷ []) true true (outside_choice s.classes ((63, 63) ∷ []) ((42, 42) ∷ []) true true (outside_call s.classes ((63, 63) ∷ []) false rule.optional_operator refl refl refl (outside_set s.classes (one_text s.classes 63))) (outside_call s.classes ((42, 42) ∷ []) false rule.repeat_operator refl refl refl (outside_set s.classes (one_text s.classes 42)))) (outside_call s.classes ((43, 43) ∷ []) false rule.repeat_once_operator refl refl refl (outside_set s.classes (one_text s.classes 43)))) (outside_call s.classes ((123, 123) ∷ []) true rule.repeat_exact refl refl refl (outside_seq s.classes ((123, 123) ∷ []) true (outside_seq s.classes ((123, 123) ∷ []) true (outside_call s.classes ((123, 123) ∷ []) false rule.opening_brace refl refl refl (outside_set s.classes (one_text s.classes 123))))))) (outside_call s.classes ((123, 123) ∷ []) true rule.repeat_min refl refl refl (outside_seq s.classes ((123, 123) ∷ []) true (outside_seq s.classes ((123, 123) ∷ []) true (outside_seq s.classes ((123, 123) ∷ []) true (outside_call s.classes ((123, 123) ∷ []) false rule.opening_brace refl refl refl (outside_set s.classes (one_text s.classes 123)))))))) (outside_call s.classes ((123, 123) ∷ []) true rule.repeat_max refl refl refl (outside_seq s.classes ((123, 123) ∷ []) true (outside_seq s.classes ((123, 123) ∷ []) true (outside_seq s.classes ((123, 123) ∷ []) true (outside_call s.classes ((123, 123) ∷ []) false rule.opening_brace refl refl refl (outside_set s.classes (one_text s.classes 123)))))))) refl refl refl refl) (either s 653 654 676 refl (noted s 32 655 refl (outside_choice s.classes ((63, 63) ∷ (42, 42) ∷ (43, 43) ∷ (123, 123) ∷ []) ((123, 123) ∷ []) true true (outside_choice s.classes ((63, 63) ∷ (42, 42) ∷ (43, 43) ∷ []) ((123, 123) ∷ []) true true (outside_choice s.classes ((63, 63) ∷ (42, 42) ∷ []) ((43, 43) ∷ []) true true (outside_choice s.classes ((63, 63) ∷ []) ((42, 42) ∷ []) true true (outside_call s.classes ((63, 63) ∷ []) false rule.optional_operator refl refl refl (outside_set s.classes (one_text s.classes 63))) (outside_call s.classes ((42, 42) ∷ []) false rule.repeat_operator refl refl refl (outside_set s.classes (one_text s.classes 42)))) (outside_call s.classes ((43, 43) ∷ []) false rule.repeat_once_operator refl refl refl (outside_set s.classes (one_text s.classes 43)))) (outside_call s.classes ((123, 123) ∷ []) true rule.repeat_exact refl refl refl (outside_seq s.classes ((123, 123) ∷ []) true (outside_seq s.classes ((123, 123) ∷ []) true (outside_call s.classes ((123, 123) ∷ []) false rule.opening_brace refl refl refl (outside_set s.classes (one_text s.classes 123))))))) (outside_call s.classes ((123, 123) ∷ []) true rule.repeat_min refl refl refl (outside_seq s.classes ((123, 123) ∷ []) true (outside_seq s.classes ((123, 123) ∷ []) true (outside_seq s.classes ((123, 123) ∷ []) true (outside_call s.classes ((123, 123) ∷ []) false rule.opening_brace refl refl refl (outside_set s.classes (one_text s.classes 123)))))))) refl refl refl refl) (either s 656 657 674 refl (noted s 33 658 refl (outside_choice s.classes ((63, 63) ∷ (42, 42) ∷ (43, 43) ∷ []) ((123, 123) ∷ []) true true (outside_choice s.classes ((63, 63) ∷ (42, 42) ∷ []) ((43, 43) ∷ []) true true (outside_choice s.classes ((63, 63) ∷ []) ((42, 42) ∷ []) true true (outside_call s.classes ((63, 63) ∷ []) false rule.optional_operator refl refl refl (outside_set s.classes (one_text s.classes 63))) (outside_call s.classes ((42, 42) ∷ []) false rule.repeat_operator refl refl refl (outside_set s.classes (one_text s.classes 42)))) (outside_call s.classes ((43, 43) ∷ []) false rule.repeat_once_operator refl refl refl (outside_set s.classes (one_text s.classes 43)))) (outside_call s.classes ((123, 123) ∷ []) true rule.repeat_exact refl refl refl (outside_seq s.classes ((123, 123) ∷ []) true (outside_seq s.classes ((123, 123) ∷ []) true (outside_call s.classes ((123, 123) ∷ []) false rule.opening_brace refl refl refl (outside_set s.classes (one_text s.classes 123))))))) refl refl refl refl) (either s 659 660 672 refl (noted s 34 661 refl (outside_choice s.classes ((63, 63) ∷ (42, 42) ∷ []) ((43, 43) ∷ []) true true (outside_choice s.classes ((63, 63) ∷ []) ((42, 42) ∷ []) true true (outside_call s.classes ((63, 63) ∷ []) false rule.optional_operator refl refl refl (outside_set s.classes (one_text s.classes 63))) (outside_call s.classes ((42, 42) ∷ []) false rule.repeat_operator refl refl refl (outside_set s.classes (one_text s.classes 42)))) (outside_call s.classes ((43, 43) ∷ []) false rule.repeat_once_operator refl refl refl (outside_set s.classes (one_text s.classes 43)))) refl refl refl refl) (either s 662 663 670 refl (noted s 35 664 refl (outside_choice s.classes ((63, 63) ∷ []) ((42, 42) ∷ []) true true (outside_call s.classes ((63, 63) ∷ []) false rule.optional_operator refl refl refl (outside_set s.classes (one_text s.classes 63))) (outside_call s.classes ((42, 42) ∷ []) false rule.repeat_operator refl refl refl (outside_set s.classes (one_text s.classes 42)))) refl refl refl refl) (either s 665 666 668 refl (noted s 36 667 refl (outside_call s.classes ((63, 63) ∷ []) false rule.optional_operator refl refl refl (outside_set s.classes (one_text s.classes 63))) refl refl refl refl) (calls s rule.optional_operator 125 126 at_optional_operator_plain refl refl refl refl refl) (noted s 37 669 refl (outside_call s.classes ((42, 42) ∷ []) false rule.repeat_operator refl refl refl (outside_set s.classes (one_text s.classes 42))) refl refl refl refl) (calls s rule.repeat_operator 127 128 at_repeat_operator_plain refl refl refl refl refl)) (noted s 38 671 refl (outside_call s.classes ((43, 43) ∷ []) false rule.repeat_once_operator refl refl refl (outside_set s.classes (one_text s.classes 43))) refl refl refl refl) (calls s rule.repeat_once_operator 129 130 at_repeat_once_operator_plain refl refl refl refl refl)) (noted s 39 673 refl (outside_call s.classes ((123, 123) ∷ []) true rule.repeat_exact refl refl refl (outside_seq s.classes ((123, 123) ∷ []) true (outside_seq s.classes ((123, 123) ∷ []) true (outside_call s.classes ((123, 123) ∷ []) false rule.opening_brace refl refl refl (outside_set s.classes (one_text s.classes 123)))))) refl refl refl refl) (calls s rule.repeat_exact 131 132 at_repeat_exact_plain refl refl refl refl refl)) (noted s 39 675 refl (outside_call s.classes ((123, 123) ∷ []) true rule.repeat_min refl refl refl (outside_seq s.classes ((123, 123) ∷ []) true (outside_seq s.classes ((123, 123) ∷ []) true (outside_seq s.classes ((123, 123) ∷ []) true (outside_call s.classes ((123, 123) ∷ []) false rule.opening_brace refl refl refl (outside_set s.classes (one_text s.classes 123))))))) refl refl refl refl) (calls s rule.repeat_min 133 134 at_repeat_min_plain refl refl refl refl refl)) (noted s 39 677 refl (outside_call s.classes ((123, 123) ∷ []) true rule.repeat_max refl refl refl (outside_seq s.classes ((123, 123) ∷ []) true (outside_seq s.classes ((123, 123) ∷ []) true (outside_seq s.classes ((123, 123) ∷ []) true (outside_call s.classes ((123, 123) ∷ []) false rule.opening_brace refl refl refl (outside_set s.classes (one_text s.classes 123))))))) refl refl refl refl) (calls s rule.repeat_max 135 136 at_repeat_max_plain refl refl refl refl refl)) (at_once s) (calls s rule.repeat_min_max 137 138 at_repeat_min_max_plain refl refl refl refl refl))) refl)

  node_plain_apart : Laid s (Run NonAtomicMode (body_of rule.node)) 107 108 0
  unfolding whitespace comment
  node_plain_apart = either s 678 679 678 refl (noted s 21 680 refl (outside_seq s.classes ((40, 40) ∷ []) true (outside_seq s.classes ((40, 40) ∷ []) true (outside_call s.classes ((40, 40) ∷ []) false rule.opening_paren refl refl refl (outside_set s.classes (one_text s.classes 40))))) refl refl refl refl) (tries s 681 683 684 682 refl (seq 685 686 (calls s rule.opening_paren 81 82 at_opening_paren_plain refl refl refl refl refl) (trivia_in_place s (seq 687 687 (many s 688 (op.IsOne 0 688 687) refl (λ c z. z) (tight_between s) refl (inl (tested s 0 (outside_sub s.classes ((32, 32) ∷ (9, 9) ∷ (10, 10) ∷ (13, 13) ∷ []) rule.WHITESPACE refl refl refl (outside_choice s.classes ((32, 32) ∷ (9, 9) ∷ []) ((10, 10) ∷ (13, 13) ∷ []) false false (outside_set s.classes (one_of_two s.classes (one_text s.classes 32) (one_text s.classes 9))) (outside_sub s.classes ((10, 10) ∷ (13, 13) ∷ []) rule.newline refl refl refl (outside_choice s.classes ((10, 10) ∷ []) ((13, 13) ∷ []) false false (outside_set s.classes (one_text s.classes 10)) (outside_text s.classes))))) refl refl refl)) (within s rule.WHITESPACE refl refl refl (either s 689 688 690 refl (at_once s) (one_of s 1 (one_of_two s.classes (one_text s.classes 32) (one_text s.classes 9)) refl refl refl) (tested s 2 (outside_sub s.classes ((10, 10) ∷ (13, 13) ∷ []) rule.newline refl refl refl (outside_choice s.classes ((10, 10) ∷ []) ((13, 13) ∷ []) false false (outside_set s.classes (one_text s.classes 10)) (outside_text s.classes))) refl refl refl) (within s rule.newline refl refl refl (either s 691 690 691 refl (at_once s) (word s 30 refl refl refl) (at_once s) (word s 31 refl refl refl)))))) (between s) (many s 692 (op.IsOne 3 692 686) refl (λ c z. z) (tight_between s) refl (inl (tested s 3 (outside_seq s.classes ((47, 47) ∷ (47, 47) ∷ []) false (outside_sub s.classes ((47, 47) ∷ (47, 47) ∷ []) rule.COMMENT refl refl refl (outside_choice s.classes ((47, 47) ∷ []) ((47, 47) ∷ []) false false (outside_sub s.classes ((47, 47) ∷ []) rule.block_comment refl refl refl (outside_seq s.classes ((47, 47) ∷ []) false (outside_seq s.classes ((47, 47) ∷ []) false (outside_text s.classes)))) (outside_sub s.classes ((47, 47) ∷ []) rule.line_comment refl refl refl (outside_seq s.classes ((47, 47) ∷ []) false (outside_seq s.classes ((47, 47) ∷ []) false (outside_text s.classes))))))) refl refl refl)) (tries s 693 695 695 694 refl (enters s rule.COMMENT 191 192 at_COMMENT_atomic_apart refl refl refl refl refl) (between s) (many s 696 (op.IsOne 0 696 694) refl (λ c z. z) (tight_between s) refl (inl (tested s 0 (outside_sub s.classes ((32, 32) ∷ (9, 9) ∷ (10, 10) ∷ (13, 13) ∷ []) rule.WHITESPACE refl refl refl (outside_choice s.classes ((32, 32) ∷ (9, 9) ∷ []) ((10, 10) ∷ (13, 13) ∷ []) false false (outside_set s.classes (one_of_two s.classes (one_text s.classes 32) (one_text s.classes 9))) (outside_sub s.classes ((10, 10) ∷ (13, 13) ∷ []) rule.newline refl refl refl (outside_choice s.classes ((10, 10) ∷ []) ((13, 13) ∷ []) false false (outside_set s.classes (one_text s.classes 10)) (outside_text s.classes))))) refl refl refl)) (within s rule.WHITESPACE refl refl refl (either s 697 696 698 refl (at_once s) (one_of s 1 (one_of_two s.classes (one_text s.classes 32) (one_text s.classes 9)) refl refl refl) (tested s 2 (outside_sub s.classes ((10, 10) ∷ (13, 13) ∷ []) rule.newline refl refl refl (outside_choice s.classes ((10, 10) ∷ []) ((13, 13) ∷ []) false false (outside_set s.classes (one_text s.classes 10)) (outside_text s.classes))) refl refl refl) (within s rule.newline refl refl refl (either s 699 698 699 refl (at_once s) (word s 30 refl refl refl) (at_once s) (word s 31 refl refl refl)))))) refl)))) (calls s rule.expression 103 104 at_expression_plain refl refl refl refl refl)) (trivia_in_place s (seq 700 700 (many s 701 (op.IsOne 0 701 700) refl (λ c z. z) (tight_between s) refl (inl (tested s 0 (outside_sub s.classes ((32, 32) ∷ (9, 9) ∷ (10, 10) ∷ (13, 13) ∷ []) rule.WHITESPACE refl refl refl (outside_choice s.classes ((32, 32) ∷ (9, 9) ∷ []) ((10, 10) ∷ (13, 13) ∷ []) false false (outside_set s.classes (one_of_two s.classes (one_text s.classes 32) (one_text s.classes 9))) (outside_sub s.classes ((10, 10) ∷ (13, 13) ∷ []) rule.newline refl refl refl (outside_choice s.classes ((10, 10) ∷ []) ((13, 13) ∷ []) false false (outside_set s.classes (one_text s.classes 10)) (outside_text s.classes))))) refl refl refl)) (within s rule.WHITESPACE refl refl refl (either s 702 701 703 refl (at_once s) (one_of s 1 (one_of_two s.classes (one_text s.classes 32) (one_text s.classes 9)) refl refl refl) (tested s 2 (outside_sub s.classes ((10, 10) ∷ (13, 13) ∷ []) rule.newline refl refl refl (outside_choice s.classes ((10, 10) ∷ []) ((13, 13) ∷ []) false false (outside_set s.classes (one_text s.classes 10)) (outside_text s.classes))) refl refl refl) (within s rule.newline refl refl refl (either s 704 703 704 refl (at_once s) (word s 30 refl refl refl) (at_once s) (word s 31 refl refl refl)))))) (between s) (many s 705 (op.IsOne 3 705 684) refl (λ c z. z) (tight_between s) refl (inl (tested s 3 (outside_seq s.classes ((47, 47) ∷ (47, 47) ∷ []) false (outside_sub s.classes ((47, 47) ∷ (47, 47) ∷ []) rule.COMMENT refl refl refl (outside_choice s.classes ((47, 47) ∷ []) ((47, 47) ∷ []) false false (outside_sub s.classes ((47, 47) ∷ []) rule.block_comment refl refl refl (outside_seq s.classes ((47, 47) ∷ []) false (outside_seq s.classes ((47, 47) ∷ []) false (outside_text s.classes)))) (outside_sub s.classes ((47, 47) ∷ []) rule.line_comment refl refl refl (outside_seq s.classes ((47, 47) ∷ []) false (outside_seq s.classes ((47, 47) ∷ []) false (outside_text s.classes))))))) refl refl refl)) (tries s 706 708 708 707 refl (enters s rule.COMMENT 191 192 at_COMMENT_atomic_apart refl refl refl refl refl) (between s) (many s 709 (op.IsOne 0 709 707) refl (λ c z. z) (tight_between s) refl (inl (tested s 0 (outside_sub s.classes ((32, 32) ∷ (9, 9) ∷ (10, 10) ∷ (13, 13) ∷ []) rule.WHITESPACE refl refl refl (outside_choice s.classes ((32, 32) ∷ (9, 9) ∷ []) ((10, 10) ∷ (13, 13) ∷ []) false false (outside_set s.classes (one_of_two s.classes (one_text s.classes 32) (one_text s.classes 9))) (outside_sub s.classes ((10, 10) ∷ (13, 13) ∷ []) rule.newline refl refl refl (outside_choice s.classes ((10, 10) ∷ []) ((13, 13) ∷ []) false false (outside_set s.classes (one_text s.classes 10)) (outside_text s.classes))))) refl refl refl)) (within s rule.WHITESPACE refl refl refl (either s 710 709 711 refl (at_once s) (one_of s 1 (one_of_two s.classes (one_text s.classes 32) (one_text s.classes 9)) refl refl refl) (tested s 2 (outside_sub s.classes ((10, 10) ∷ (13, 13) ∷ []) rule.newline refl refl refl (outside_choice s.classes ((10, 10) ∷ []) ((13, 13) ∷ []) false false (outside_set s.classes (one_text s.classes 10)) (outside_text s.classes))) refl refl refl) (within s rule.newline refl refl refl (either s 712 711 712 refl (at_once s) (word s 30 refl refl refl) (at_once s) (word s 31 refl refl refl)))))) refl)))) (calls s rule.closing_paren 83 84 at_closing_paren_plain refl refl refl refl refl) refl) (at_once s) (within s rule.terminal refl refl refl (either s 713 714 713 refl (noted s 22 715 refl (outside_choice s.classes ((80, 80) ∷ (80, 80) ∷ (80, 80) ∷ (95, 95) ∷ (97, 122) ∷ (65, 90) ∷ (34, 34) ∷ []) ((94, 94) ∷ []) true true (outside_choice s.classes ((80, 80) ∷ (80, 80) ∷ (80, 80) ∷ (95, 95) ∷ (97, 122) ∷ (65, 90) ∷ []) ((34, 34) ∷ []) true true (outside_choice s.classes ((80, 80) ∷ (80, 80) ∷ (80, 80) ∷ []) ((95, 95) ∷ (97, 122) ∷ (65, 90) ∷ []) true true (outside_choice s.classes ((80, 80) ∷ (80, 80) ∷ []) ((80, 80) ∷ []) true true (outside_choice s.classes ((80, 80) ∷ []) ((80, 80) ∷ []) true true (outside_call s.classes ((80, 80) ∷ []) false rule._push_literal refl refl refl (outside_seq s.classes ((80, 80) ∷ []) false (outside_seq s.classes ((80, 80) ∷ []) false (outside_seq s.classes ((80, 80) ∷ []) false (outside_text s.classes))))) (outside_call s.classes ((80, 80) ∷ []) false rule._push refl refl refl (outside_seq s.classes ((80, 80) ∷ []) false (outside_seq s.classes ((80, 80) ∷ []) false (outside_seq s.classes ((80, 80) ∷ []) false (outside_text s.classes)))))) (outside_call s.classes ((80, 80) ∷ []) false rule.peek_slice refl refl refl (outside_seq s.classes ((80, 80) ∷ []) false (outside_seq s.classes ((80, 80) ∷ []) false (outside_seq s.classes ((80, 80) ∷ []) false (outside_seq s.classes ((80, 80) ∷ []) false (outside_seq s.classes ((80, 80) ∷ []) false (outside_text s.classes)))))))) (outside_call s.classes ((95, 95) ∷ (97, 122) ∷ (65, 90) ∷ []) false rule.identifier refl refl refl (outside_seq s.classes ((95, 95) ∷ (97, 122) ∷ (65, 90) ∷ []) false (outside_not s.classes ((95, 95) ∷ (97, 122) ∷ (65, 90) ∷ []) (tight_atomic s) (outside_set s.classes (one_of_two s.classes (one_text s.classes 95) (one_called s.classes rule.alpha refl refl refl (one_of_two s.classes (one_range s.classes 97 122) (one_range s.classes 65 90))))))))) (outside_call s.classes ((34, 34) ∷ []) true rule.string refl refl refl (outside_seq s.classes ((34, 34) ∷ []) true (outside_seq s.classes ((34, 34) ∷ []) true (outside_call s.classes ((34, 34) ∷ []) false rule.quote refl refl refl (outside_set s.classes (one_text s.classes 34))))))) (outside_call s.classes ((94, 94) ∷ []) false rule.insensitive_string refl refl refl (outside_seq s.classes ((94, 94) ∷ []) false (outside_set s.classes (one_text s.classes 94))))) refl refl refl refl) (either s 716 717 739 refl (noted s 23 718 refl (outside_choice s.classes ((80, 80) ∷ (80, 80) ∷ (80, 80) ∷ (95, 95) ∷ (97, 122) ∷ (65, 90) ∷ []) ((34, 34) ∷ []) true true (outside_choice s.classes ((80, 80) ∷ (80, 80) ∷ (80, 80) ∷ []) ((95, 95) ∷ (97, 122) ∷ (65, 90) ∷ []) true true (outside_choice s.classes ((80, 80) ∷ (80, 80) ∷ []) ((80, 80) ∷ []) true true (outside_choice s.classes ((80, 80) ∷ []) ((80, 80) ∷ []) true true (outside_call s.classes ((80, 80) ∷ []) false rule._push_literal refl refl refl (outside_seq s.classes ((80, 80) ∷ []) false (outside_seq s.classes ((80, 80) ∷ []) false (outside_seq s.classes ((80, 80) ∷ []) false (outside_text s.classes))))) (outside_call s.classes ((80, 80) ∷ []) false rule._push refl refl refl (outside_seq s.classes ((80, 80) ∷ []) false (outside_seq s.classes ((80, 80) ∷ []) false (outside_seq s.classes ((80, 80) ∷ []) false (outside_text s.classes)))))) (outside_call s.classes ((80, 80) ∷ []) false rule.peek_slice refl refl refl (outside_seq s.classes ((80, 80) ∷ []) false (outside_seq s.classes ((80, 80) ∷ []) false (outside_seq s.classes ((80, 80) ∷ []) false (outside_seq s.classes ((80, 80) ∷ []) false (outside_seq s.classes ((80, 80) ∷ []) false (outside_text s.classes)))))))) (outside_call s.classes ((95, 95) ∷ (97, 122) ∷ (65, 90) ∷ []) false rule.identifier refl refl refl (outside_seq s.classes ((95, 95) ∷ (97, 122) ∷ (65, 90) ∷ []) false (outside_not s.classes ((95, 95) ∷ (97, 122) ∷ (65, 90) ∷ []) (tight_atomic s) (outside_set s.classes (one_of_two s.classes (one_text s.classes 95) (one_called s.classes rule.alpha refl refl refl (one_of_two s.classes (one_range s.classes 97 122) (one_range s.classes 65 90))))))))) (outside_call s.classes ((34, 34) ∷ []) true rule.string refl refl refl (outside_seq s.classes ((34, 34) ∷ []) true (outside_seq s.classes ((34, 34) ∷ []) true (outside_call s.classes ((34, 34) ∷ []) false rule.quote refl refl refl (outside_set s.classes (one_text s.classes 34))))))) refl refl refl refl) (either s 719 720 737 refl (noted s 24 721 refl (outside_choice s.classes ((80, 80) ∷ (80, 80) ∷ (80, 80) ∷ []) ((95, 95) ∷ (97, 122) ∷ (65, 90) ∷ []) true true (outside_choice s.classes ((80, 80) ∷ (80, 80) ∷ []) ((80, 80) ∷ []) true true (outside_choice s.classes ((80, 80) ∷ []) ((80, 80) ∷ []) true true (outside_call s.classes ((80, 80) ∷ []) false rule._push_literal refl refl refl (outside_seq s.classes ((80, 80) ∷ []) false (outside_seq s.classes ((80, 80) ∷ []) false (outside_seq s.classes ((80, 80) ∷ []) false (outside_text s.classes))))) (outside_call s.classes ((80, 80) ∷ []) false rule._push refl refl refl (outside_seq s.classes ((80, 80) ∷ []) false (outside_seq s.classes ((80, 80) ∷ []) false (outside_seq s.classes ((80, 80) ∷ []) false (outside_text s.classes)))))) (outside_call s.classes ((80, 80) ∷ []) false rule.peek_slice refl refl refl (outside_seq s.classes ((80, 80) ∷ []) false (outside_seq s.classes ((80, 80) ∷ []) false (outside_seq s.classes ((80, 80) ∷ []) false (outside_seq s.classes ((80, 80) ∷ []) false (outside_seq s.classes ((80, 80) ∷ []) false (outside_text s.classes)))))))) (outside_call s.classes ((95, 95) ∷ (97, 122) ∷ (65, 90) ∷ []) false rule.identifier refl refl refl (outside_seq s.classes ((95, 95) ∷ (97, 122) ∷ (65, 90) ∷ []) false (outside_not s.classes ((95, 95) ∷ (97, 122) ∷ (65, 90) ∷ []) (tight_atomic s) (outside_set s.classes (one_of_two s.classes (one_text s.classes 95) (one_called s.classes rule.alpha refl refl refl (one_of_two s.classes (one_range s.classes 97 122) (one_range s.classes 65 90))))))))) refl refl refl refl) (either s 722 723 735 refl (noted s 25 724 refl (outside_choice s.classes ((80, 80) ∷ (80, 80) ∷ []) ((80, 80) ∷ []) true true (outside_choice s.classes ((80, 80) ∷ []) ((80, 80) ∷ []) true true (outside_call s.classes ((80, 80) ∷ []) false rule._push_literal refl refl refl (outside_seq s.classes ((80, 80) ∷ []) false (outside_seq s.classes ((80, 80) ∷ []) false (outside_seq s.classes ((80, 80) ∷ []) false (outside_text s.classes))))) (outside_call s.classes ((80, 80) ∷ []) false rule._push refl refl refl (outside_seq s.classes ((80, 80) ∷ []) false (outside_seq s.classes ((80, 80) ∷ []) false (outside_seq s.classes ((80, 80) ∷ []) false (outside_text s.classes)))))) (outside_call s.classes ((80, 80) ∷ []) false rule.peek_slice refl refl refl (outside_seq s.classes ((80, 80) ∷ []) false (outside_seq s.classes ((80, 80) ∷ []) false (outside_seq s.classes ((80, 80) ∷ []) false (outside_seq s.classes ((80, 80) ∷ []) false (outside_seq s.classes ((80, 80) ∷ []) false (outside_text s.classes)))))))) refl refl refl refl) (either s 725 726 733 refl (noted s 26 727 refl (outside_choice s.classes ((80, 80) ∷ []) ((80, 80) ∷ []) true true (outside_call s.classes ((80, 80) ∷ []) false rule._push_literal refl refl refl (outside_seq s.classes ((80, 80) ∷ []) false (outside_seq s.classes ((80, 80) ∷ []) false (outside_seq s.classes ((80, 80) ∷ []) false (outside_text s.classes))))) (outside_call s.classes ((80, 80) ∷ []) false rule._push refl refl refl (outside_seq s.classes ((80, 80) ∷ []) false (outside_seq s.classes ((80, 80) ∷ []) false (outside_seq s.classes ((80, 80) ∷ []) false (outside_text s.classes)))))) refl refl refl refl) (either s 728 729 731 refl (noted s 27 730 refl (outside_call s.classes ((80, 80) ∷ []) false rule._push_literal refl refl refl (outside_seq s.classes ((80, 80) ∷ []) false (outside_seq s.classes ((80, 80) ∷ []) false (outside_seq s.classes ((80, 80) ∷ []) false (outside_text s.classes))))) refl refl refl refl) (calls s rule._push_literal 147 148 at_push_literal__plain refl refl refl refl refl) (noted s 27 732 refl (outside_call s.classes ((80, 80) ∷ []) false rule._push refl refl refl (outside_seq s.classes ((80, 80) ∷ []) false (outside_seq s.classes ((80, 80) ∷ []) false (outside_seq s.classes ((80, 80) ∷ []) false (outside_text s.classes))))) refl refl refl refl) (calls s rule._push 145 146 at_push__plain refl refl refl refl refl)) (noted s 27 734 refl (outside_call s.classes ((80, 80) ∷ []) false rule.peek_slice refl refl refl (outside_seq s.classes ((80, 80) ∷ []) false (outside_seq s.classes ((80, 80) ∷ []) false (outside_seq s.classes ((80, 80) ∷ []) false (outside_seq s.classes ((80, 80) ∷ []) false (outside_seq s.classes ((80, 80) ∷ []) false (outside_text s.classes))))))) refl refl refl refl) (calls s rule.peek_slice 149 150 at_peek_slice_plain refl refl refl refl refl)) (noted s 6 736 refl (outside_call s.classes ((95, 95) ∷ (97, 122) ∷ (65, 90) ∷ []) false rule.identifier refl refl refl (outside_seq s.classes ((95, 95) ∷ (97, 122) ∷ (65, 90) ∷ []) false (outside_not s.classes ((95, 95) ∷ (97, 122) ∷ (65, 90) ∷ []) (tight_atomic s) (outside_set s.classes (one_of_two s.classes (one_text s.classes 95) (one_called s.classes rule.alpha refl refl refl (one_of_two s.classes (one_range s.classes 97 122) (one_range s.classes 65 90)))))))) refl refl refl refl) (calls s rule.identifier 151 152 at_identifier_atomic refl refl refl refl refl)) (noted s 28 738 refl (outside_call s.classes ((34, 34) ∷ []) true rule.string refl refl refl (outside_seq s.classes ((34, 34) ∷ []) true (outside_seq s.classes ((34, 34) ∷ []) true (outside_call s.classes ((34, 34) ∷ []) false rule.quote refl refl refl (outside_set s.classes (one_text s.classes 34)))))) refl refl refl refl) (calls s rule.string 157 158 at_string_compound refl refl refl refl refl)) (noted s 29 740 refl (outside_call s.classes ((94, 94) ∷ []) false rule.insensitive_string refl refl refl (outside_seq s.classes ((94, 94) ∷ []) false (outside_set s.classes (one_text s.classes 94)))) refl refl refl refl) (calls s rule.insensitive_string 159 160 at_insensitive_string_plain refl refl refl refl refl)) (at_once s) (calls s rule.range 161 162 at_range_plain refl refl refl refl refl)))

  terminal_plain_apart : Laid s (Run NonAtomicMode (body_of rule.terminal)) 109 110 0
  unfolding whitespace comment
  terminal_plain_apart = either s 741 742 741 refl (noted s 22 743 refl (outside_choice s.classes ((80, 80) ∷ (80, 80) ∷ (80, 80) ∷ (95, 95) ∷ (97, 122) ∷ (65, 90) ∷ (34, 34) ∷ []) ((94, 94) ∷ []) true true (outside_choice s.classes ((80, 80) ∷ (80, 80) ∷ (80, 80) ∷ (95, 95) ∷ (97, 122) ∷ (65, 90) ∷ []) ((34, 34) ∷ []) true true (outside_choice s.classes ((80, 80) ∷ (80, 80) ∷ (80, 80) ∷ []) ((95, 95) ∷ (97, 122) ∷ (65, 90) ∷ []) true true (outside_choice s.classes ((80, 80) ∷ (80, 80) ∷ []) ((80, 80) ∷ []) true true (outside_choice s.classes ((80, 80) ∷ []) ((80, 80) ∷ []) true true (outside_call s.classes ((80, 80) ∷ []) false rule._push_literal refl refl refl (outside_seq s.classes ((80, 80) ∷ []) false (outside_seq s.classes ((80, 80) ∷ []) false (outside_seq s.classes ((80, 80) ∷ []) false (outside_text s.classes))))) (outside_call s.classes ((80, 80) ∷ []) false rule._push refl refl refl (outside_seq s.classes ((80, 80) ∷ []) false (outside_seq s.classes ((80, 80) ∷ []) false (outside_seq s.classes ((80, 80) ∷ []) false (outside_text s.classes)))))) (outside_call s.classes ((80, 80) ∷ []) false rule.peek_slice refl refl refl (outside_seq s.classes ((80, 80) ∷ []) false (outside_seq s.classes ((80, 80) ∷ []) false (outside_seq s.classes ((80, 80) ∷ []) false (outside_seq s.classes ((80, 80) ∷ []) false (outside_seq s.classes ((80, 80) ∷ []) false (outside_text s.classes)))))))) (outside_call s.classes ((95, 95) ∷ (97, 122) ∷ (65, 90) ∷ []) false rule.identifier refl refl refl (outside_seq s.classes ((95, 95) ∷ (97, 122) ∷ (65, 90) ∷ []) false (outside_not s.classes ((95, 95) ∷ (97, 122) ∷ (65, 90) ∷ []) (tight_atomic s) (outside_set s.classes (one_of_two s.classes (one_text s.classes 95) (one_called s.classes rule.alpha refl refl refl (one_of_two s.classes (one_range s.classes 97 122) (one_range s.classes 65 90))))))))) (outside_call s.classes ((34, 34) ∷ []) true rule.string refl refl refl (outside_seq s.classes ((34, 34) ∷ []) true (outside_seq s.classes ((34, 34) ∷ []) true (outside_call s.classes ((34, 34) ∷ []) false rule.quote refl refl refl (outside_set s.classes (one_text s.classes 34))))))) (outside_call s.classes ((94, 94) ∷ []) false rule.insensitive_string refl refl refl (outside_seq s.classes ((94, 94) ∷ []) false (outside_set s.classes (one_text s.classes 94))))) refl refl refl refl) (either s 744 745 767 refl (noted s 23 746 refl (outside_choice s.classes ((80, 80) ∷ (80, 80) ∷ (80, 80) ∷ (95, 95) ∷ (97, 122) ∷ (65, 90) ∷ []) ((34, 34) ∷ []) true true (outside_choice s.classes ((80, 80) ∷ (80, 80) ∷ (80, 80) ∷ []) ((95, 95) ∷ (97, 122) ∷ (65, 90) ∷ []) true true (outside_choice s.classes ((80, 80) ∷ (80, 80) ∷ []) ((80, 80) ∷ []) true true (outside_choice s.classes ((80, 80) ∷ []) ((80, 80) ∷ []) true true (outside_call s.classes ((80, 80) ∷ []) false rule._push_literal refl refl refl (outside_seq s.classes ((80, 80) ∷ []) false (outside_seq s.classes ((80, 80) ∷ []) false (outside_seq s.classes ((80, 80) ∷ []) false (outside_text s.classes))))) (outside_call s.classes ((80, 80) ∷ []) false rule._push refl refl refl (outside_seq s.classes ((80, 80) ∷ []) false (outside_seq s.classes ((80, 80) ∷ []) false (outside_seq s.classes ((80, 80) ∷ []) false (outside_text s.classes)))))) (outside_call s.classes ((80, 80) ∷ []) false rule.peek_slice refl refl refl (outside_seq s.classes ((80, 80) ∷ []) false (outside_seq s.classes ((80, 80) ∷ []) false (outside_seq s.classes ((80, 80) ∷ []) false (outside_seq s.classes ((80, 80) ∷ []) false (outside_seq s.classes ((80, 80) ∷ []) false (outside_text s.classes)))))))) (outside_call s.classes ((95, 95) ∷ (97, 122) ∷ (65, 90) ∷ []) false rule.identifier refl refl refl (outside_seq s.classes ((95, 95) ∷ (97, 122) ∷ (65, 90) ∷ []) false (outside_not s.classes ((95, 95) ∷ (97, 122) ∷ (65, 90) ∷ []) (tight_atomic s) (outside_set s.classes (one_of_two s.classes (one_text s.classes 95) (one_called s.classes rule.alpha refl refl refl (one_of_two s.classes (one_range s.classes 97 122) (one_range s.classes 65 90))))))))) (outside_call s.classes ((34, 34) ∷ []) true rule.string refl refl refl (outside_seq s.classes ((34, 34) ∷ []) true (outside_seq s.classes ((34, 34) ∷ []) true (outside_call s.classes ((34, 34) ∷ []) false rule.quote refl refl refl (outside_set s.classes (one_text s.classes 34))))))) refl refl refl refl) (either s 747 748 765 refl (noted s 24 749 refl (outside_choice s.classes ((80, 80) ∷ (80, 80) ∷ (80, 80) ∷ []) ((95, 95) ∷ (97, 122) ∷ (65, 90) ∷ []) true true (outside_choice s.classes ((80, 80) ∷ (80, 80) ∷ []) ((80, 80) ∷ []) true true (outside_choice s.classes ((80, 80) ∷ []) ((80, 80) ∷ []) true true (outside_call s.classes ((80, 80) ∷ []) false rule._push_literal refl refl refl (outside_seq s.classes ((80, 80) ∷ []) false (outside_seq s.classes ((80, 80) ∷ []) false (outside_seq s.classes ((80, 80) ∷ []) false (outside_text s.classes))))) (outside_call s.classes ((80, 80) ∷ []) false rule._push refl refl refl (outside_seq s.classes ((80, 80) ∷ []) false (outside_seq s.classes ((80, 80) ∷ []) false (outside_seq s.classes ((80, 80) ∷ []) false (outside_text s.classes)))))) (outside_call s.classes ((80, 80) ∷ []) false rule.peek_slice refl refl refl (outside_seq s.classes ((80, 80) ∷ []) false (outside_seq s.classes ((80, 80) ∷ []) false (outside_seq s.classes ((80, 80) ∷ []) false (outside_seq s.classes ((80, 80) ∷ []) false (outside_seq s.classes ((80, 80) ∷ []) false (outside_text s.classes)))))))) (outside_call s.classes ((95, 95) ∷ (97, 122) ∷ (65, 90) ∷ []) false rule.identifier refl refl refl (outside_seq s.classes ((95, 95) ∷ (97, 122) ∷ (65, 90) ∷ []) false (outside_not s.classes ((95, 95) ∷ (97, 122) ∷ (65, 90) ∷ []) (tight_atomic s) (outside_set s.classes (one_of_two s.classes (one_text s.classes 95) (one_called s.classes rule.alpha refl refl refl (one_of_two s.classes (one_range s.classes 97 122) (one_range s.classes 65 90))))))))) refl refl refl refl) (either s 750 751 763 refl (noted s 25 752 refl (outside_choice s.classes ((80, 80) ∷ (80, 80) ∷ []) ((80, 80) ∷ []) true true (outside_choice s.classes ((80, 80) ∷ []) ((80, 80) ∷ []) true true (outside_call s.classes ((80, 80) ∷ []) false rule._push_literal refl refl refl (outside_seq s.classes ((80, 80) ∷ []) false (outside_seq s.classes ((80, 80) ∷ []) false (outside_seq s.classes ((80, 80) ∷ []) false (outside_text s.classes))))) (outside_call s.classes ((80, 80) ∷ []) false rule._push refl refl refl (outside_seq s.classes ((80, 80) ∷ []) false (outside_seq s.classes ((80, 80) ∷ []) false (outside_seq s.classes ((80, 80) ∷ []) false (outside_text s.classes)))))) (outside_call s.classes ((80, 80) ∷ []) false rule.peek_slice refl refl refl (outside_seq s.classes ((80, 80) ∷ []) false (outside_seq s.classes ((80, 80) ∷ []) false (outside_seq s.classes ((80, 80) ∷ []) false (outside_seq s.classes ((80, 80) ∷ []) false (outside_seq s.classes ((80, 80) ∷ []) false (outside_text s.classes)))))))) refl refl refl refl) (either s 753 754 761 refl (noted s 26 755 refl (outside_choice s.classes ((80, 80) ∷ []) ((80, 80) ∷ []) true true (outside_call s.classes ((80, 80) ∷ []) false rule._push_literal refl refl refl (outside_seq s.classes ((80, 80) ∷ []) false (outside_seq s.classes ((80, 80) ∷ []) false (outside_seq s.classes ((80, 80) ∷ []) false (outside_text s.classes))))) (outside_call s.classes ((80, 80) ∷ []) false rule._push refl refl refl (outside_seq s.classes ((80, 80) ∷ []) false (outside_seq s.classes ((80, 80) ∷ []) false (outside_seq s.classes ((80, 80) ∷ []) false (outside_text s.classes)))))) refl refl refl refl) (either s 756 757 759 refl (noted s 27 758 refl (outside_call s.classes ((80, 80) ∷ []) false rule._push_literal refl refl refl (outside_seq s.classes ((80, 80) ∷ []) false (outside_seq s.classes ((80, 80) ∷ []) false (outside_seq s.classes ((80, 80) ∷ []) false (outside_text s.classes))))) refl refl refl refl) (calls s rule._push_literal 147 148 at_push_literal__plain refl refl refl refl refl) (noted s 27 760 refl (outside_call s.classes ((80, 80) ∷ []) false rule._push refl refl refl (outside_seq s.classes ((80, 80) ∷ []) false (outside_seq s.classes ((80, 80) ∷ []) false (outside_seq s.classes ((80, 80) ∷ []) false (outside_text s.classes))))) refl refl refl refl) (calls s rule._push 145 146 at_push__plain refl refl refl refl refl)) (noted s 27 762 refl (outside_call s.classes ((80, 80) ∷ []) false rule.peek_slice refl refl refl (outside_seq s.classes ((80, 80) ∷ []) false (outside_seq s.classes ((80, 80) ∷ []) false (outside_seq s.classes ((80, 80) ∷ []) false (outside_seq s.classes ((80, 80) ∷ []) false (outside_seq s.classes ((80, 80) ∷ []) false (outside_text s.classes))))))) refl refl refl refl) (calls s rule.peek_slice 149 150 at_peek_slice_plain refl refl refl refl refl)) (noted s 6 764 refl (outside_call s.classes ((95, 95) ∷ (97, 122) ∷ (65, 90) ∷ []) false rule.identifier refl refl refl (outside_seq s.classes ((95, 95) ∷ (97, 122) ∷ (65, 90) ∷ []) false (outside_not s.classes ((95, 95) ∷ (97, 122) ∷ (65, 90) ∷ []) (tight_atomic s) (outside_set s.classes (one_of_two s.classes (one_text s.classes 95) (one_called s.classes rule.alpha refl refl refl (one_of_two s.classes (one_range s.classes 97 122) (one_range s.classes 65 90)))))))) refl refl refl refl) (calls s rule.identifier 151 152 at_identifier_atomic refl refl refl refl refl)) (noted s 28 766 refl (outside_call s.classes ((34, 34) ∷ []) true rule.string refl refl refl (outside_seq s.classes ((34, 34) ∷ []) true (outside_seq s.classes ((34, 34) ∷ []) true (outside_call s.classes ((34, 34) ∷ []) false rule.quote refl refl refl (outside_set s.classes (one_text s.classes 34)))))) refl refl refl refl) (calls s rule.string 157 158 at_string_compound refl refl refl refl refl)) (noted s 29 768 refl (outside_call s.classes ((94, 94) ∷ []) false rule.insensitive_string refl refl refl (outside_seq s.classes ((94, 94) ∷ []) false (outside_set s.classes (one_text s.classes 94)))) refl refl refl refl) (calls s rule.insensitive_string 159 160 at_insensitive_string_plain refl refl refl refl refl)) (at_once s) (calls s rule.range 161 162 at_range_plain refl refl refl refl refl)

  prefix_operator_plain_apart : Laid s (Run NonAtomicMode (body_of rule.prefix_operator)) 111 112 0
  unfolding whitespace comment
  prefix_operator_plain_apart = either s 769 770 769 refl (noted s 20 771 refl (outside_call s.classes ((38, 38) ∷ []) false rule.positive_predicate_operator refl refl refl (outside_set s.classes (one_text s.classes 38))) refl refl refl refl) (calls s rule.positive_predicate_operator 117 118 at_positive_predicate_operator_plain refl refl refl refl refl) (at_once s) (calls s rule.negative_predicate_operator 119 120 at_negative_predicate_operator_plain refl refl refl refl refl)

  infix_operator_plain_apart : Laid s (Run NonAtomicMode (body_of rule.infix_operator)) 113 114 0
  unfolding whitespace comment
  infix_operator_plain_apart = either s 772 773 772 refl (noted s 17 774 refl (outside_call s.classes ((126, 126) ∷ []) false rule.sequence_operator refl refl refl (outside_set s.classes (one_text s.classes 126))) refl refl refl refl) (calls s rule.sequence_operator 121 122 at_sequence_operator_plain refl refl refl refl refl) (at_once s) (calls s rule.choice_operator 123 124 at_choice_operator_plain refl refl refl refl refl)

  postfix_operator_plain_apart : Laid s (Run NonAtomicMode (body_of rule.postfix_operator)) 115 116 0
  unfolding whitespace comment
  postfix_operator_plain_apart = either s 775 776 775 refl (noted s 31 777 refl (outside_choice s.classes ((63, 63) ∷ (42, 42) ∷ (43, 43) ∷ (123, 123) ∷ (123, 123) ∷ []) ((123, 123) ∷ []) true true (outside_choice s.classes ((63, 63) ∷ (42, 42) ∷ (43, 43) ∷ (123, 123) ∷ []) ((123, 123) ∷ []) true true (outside_choice s.classes ((63, 63) ∷ (42, 42) ∷ (43, 43) ∷ []) ((123, 123) ∷ []) true true (outside_choice s.classes ((63, 63) ∷ (42, 42) ∷ []) ((43, 43) ∷ []) true true (outside_choice s.classes ((63, 63) ∷ []) ((42, 42) ∷ []) true true (outside_call s.classes ((63, 63) ∷ []) false rule.optional_operator refl refl refl (outside_set s.classes (one_text s.classes 63))) (outside_call s.classes ((42, 42) ∷ []) false rule.repeat_operator refl refl refl (outside_set s.classes (one_text s.classes 42)))) (outside_call s.classes ((43, 43) ∷ []) false rule.repeat_once_operator refl refl refl (outside_set s.classes (one_text s.classes 43)))) (outside_call s.classes ((123, 123) ∷ []) true rule.repeat_exact refl refl refl (outside_seq s.classes ((123, 123) ∷ []) true (outside_seq s.classes ((123, 123) ∷ []) true (outside_call s.classes ((123, 123) ∷ []) false rule.opening_brace refl refl refl (outside_set s.classes (one_text s.classes 123))))))) (outside_call s.classes ((123, 123) ∷ []) true rule.repeat_min refl refl refl (outside_seq s.classes ((123, 123) ∷ []) true (outside_seq s.classes ((123, 123) ∷ []) true (outside_seq s.classes ((123, 123) ∷ []) true (outside_call s.classes ((123, 123) ∷ []) false rule.opening_brace refl refl refl (outside_set s.classes (one_text s.classes 123)))))))) (outside_call s.classes ((123, 123) ∷ []) true rule.repeat_max refl refl refl (outside_seq s.classes ((123, 123) ∷ []) true (outside_seq s.classes ((123, 123) ∷ []) true (outside_seq s.classes ((123, 123) ∷ []) true (outside_call s.classes ((123, 123) ∷ []) false rule.opening_brace refl refl refl (outside_set s.classes (one_text s.classes 123)))))))) refl refl refl refl) (either s 778 779 801 refl (noted s 32 780 refl (outside_choice s.classes ((63, 63) ∷ (42, 42) ∷ (43, 43) ∷ (123, 123) ∷ []) ((123, 123) ∷ []) true true (outside_choice s.classes ((63, 63) ∷ (42, 42) ∷ (43, 43) ∷ []) ((123, 123) ∷ []) true true (outside_choice s.classes ((63, 63) ∷ (42, 42) ∷ []) ((43, 43) ∷ []) true true (outside_choice s.classes ((63, 63) ∷ []) ((42, 42) ∷ []) true true (outside_call s.classes ((63, 63) ∷ []) false rule.optional_operator refl refl refl (outside_set s.classes (one_text s.classes 63))) (outside_call s.classes ((42, 42) ∷ []) false rule.repeat_operator refl refl refl (outside_set s.classes (one_text s.classes 42)))) (outside_call s.classes ((43, 43) ∷ []) false rule.repeat_once_operator refl refl refl (outside_set s.classes (one_text s.classes 43)))) (outside_call s.classes ((123, 123) ∷ []) true rule.repeat_exact refl refl refl (outside_seq s.classes ((123, 123) ∷ []) true (outside_seq s.classes ((123, 123) ∷ []) true (outside_call s.classes ((123, 123) ∷ []) false rule.opening_brace refl refl refl (outside_set s.classes (one_text s.classes 123))))))) (outside_call s.classes ((123, 123) ∷ []) true rule.repeat_min refl refl refl (outside_seq s.classes ((123, 123) ∷ []) true (outside_seq s.classes ((123, 123) ∷ []) true (outside_seq s.classes ((123, 123) ∷ []) true (outside_call s.classes ((123, 123) ∷ []) false rule.opening_brace refl refl refl (outside_set s.classes (one_text s.classes 123)))))))) refl refl refl refl) (either s 781 782 799 refl (noted s 33 783 refl (outside_choice s.classes ((63, 63) ∷ (42, 42) ∷ (43, 43) ∷ []) ((123, 123) ∷ []) true true (outside_choice s.classes ((63, 63) ∷ (42, 42) ∷ []) ((43, 43) ∷ []) true true (outside_choice s.classes ((63, 63) ∷ []) ((42, 42) ∷ []) true true (outside_call s.classes ((63, 63) ∷ []) false rule.optional_operator refl refl refl (outside_set s.classes (one_text s.classes 63))) (outside_call s.classes ((42, 42) ∷ []) false rule.repeat_operator refl refl refl (outside_set s.classes (one_text s.classes 42)))) (outside_call s.classes ((43, 43) ∷ []) false rule.repeat_once_operator refl refl refl (outside_set s.classes (one_text s.classes 43)))) (outside_call s.classes ((123, 123) ∷ []) true rule.repeat_exact refl refl refl (outside_seq s.classes ((123, 123) ∷ []) true (outside_seq s.classes ((123, 123) ∷ []) true (outside_call s.classes ((123, 123) ∷ []) false rule.opening_brace refl refl refl (outside_set s.classes (one_text s.classes 123))))))) refl refl refl refl) (either s 784 785 797 refl (noted s 34 786 refl (outside_choice s.classes ((63, 63) ∷ (42, 42) ∷ []) ((43, 43) ∷ []) true true (outside_choice s.classes ((63, 63) ∷ []) ((42, 42) ∷ []) true true (outside_call s.classes ((63, 63) ∷ []) false rule.optional_operator refl refl refl (outside_set s.classes (one_text s.classes 63))) (outside_call s.classes ((42, 42) ∷ []) false rule.repeat_operator refl refl refl (outside_set s.classes (one_text s.classes 42)))) (outside_call s.classes ((43, 43) ∷ []) false rule.repeat_once_operator refl refl refl (outside_set s.classes (one_text s.classes 43)))) refl refl refl refl) (either s 787 788 795 refl (noted s 35 789 refl (outside_choice s.classes ((63, 63) ∷ []) ((42, 42) ∷ []) true true (outside_call s.classes ((63, 63) ∷ []) false rule.optional_operator refl refl refl (outside_set s.classes (one_text s.classes 63))) (outside_call s.classes ((42, 42) ∷ []) false rule.repeat_operator refl refl refl (outside_set s.classes (one_text s.classes 42)))) refl refl refl refl) (either s 790 791 793 refl (noted s 36 792 refl (outside_call s.classes ((63, 63) ∷ []) false rule.optional_operator refl refl refl (outside_set s.classes (one_text s.classes 63))) refl refl refl refl) (calls s rule.optional_operator 125 126 at_optional_operator_plain refl refl refl refl refl) (noted s 37 794 refl (outside_call s.classes ((42, 42) ∷ []) false rule.repeat_operator refl refl refl (outside_set s.classes (one_text s.classes 42))) refl refl refl refl) (calls s rule.repeat_operator 127 128 at_repeat_operator_plain refl refl refl refl refl)) (noted s 38 796 refl (outside_call s.classes ((43, 43) ∷ []) false rule.repeat_once_operator refl refl refl (outside_set s.classes (one_text s.classes 43))) refl refl refl refl) (calls s rule.repeat_once_operator 129 130 at_repeat_once_operator_plain refl refl refl refl refl)) (noted s 39 798 refl (outside_call s.classes ((123, 123) ∷ []) true rule.repeat_exact refl refl refl (outside_seq s.classes ((123, 123) ∷ []) true (outside_seq s.classes ((123, 123) ∷ []) true (outside_call s.classes ((123, 123) ∷ []) false rule.opening_brace refl refl refl (outside_set s.classes (one_text s.classes 123)))))) refl refl refl refl) (calls s rule.repeat_exact 131 132 at_repeat_exact_plain refl refl refl refl refl)) (noted s 39 800 refl (outside_call s.classes ((123, 123) ∷ []) true rule.repeat_min refl refl refl (outside_seq s.classes ((123, 123) ∷ []) true (outside_seq s.classes ((123, 123) ∷ []) true (outside_seq s.classes ((123, 123) ∷ []) true (outside_call s.classes ((123, 123) ∷ []) false rule.opening_brace refl refl refl (outside_set s.classes (one_text s.classes 123))))))) refl refl refl refl) (calls s rule.repeat_min 133 134 at_repeat_min_plain refl refl refl refl refl)) (noted s 39 802 refl (outside_call s.classes ((123, 123) ∷ []) true rule.repeat_max refl refl refl (outside_seq s.classes ((123, 123) ∷ []) true (outside_seq s.classes ((123, 123) ∷ []) true (outside_seq s.classes ((123, 123) ∷ []) true (outside_call s.classes ((123, 123) ∷ []) false rule.opening_brace refl refl refl (outside_set s.classes (one_text s.classes 123))))))) refl refl refl refl) (calls s rule.repeat_max 135 136 at_repeat_max_plain refl refl refl refl refl)) (at_once s) (calls s rule.repeat_min_max 137 138 at_repeat_min_max_plain refl refl refl refl refl)

  positive_predicate_operator_plain : Laid s (Run NonAtomicMode (body_of rule.positive_predicate_operator)) 117 118 0
  unfolding whitespace comment
  positive_predicate_operator_plain = word s 12 refl refl refl

  negative_predicate_operator_plain : Laid s (Run NonAtomicMode (body_of rule.negative_predicate_operator)) 119 120 0
  unfolding whitespace comment
  negative_predicate_operator_plain = word s 10 refl refl refl

  sequence_operator_plain : Laid s (Run NonAtomicMode (body_of rule.sequence_operator)) 121 122 0
  unfolding whitespace comment
  sequence_operator_plain = word s 13 refl refl refl

  choice_operator_plain : Laid s (Run NonAtomicMode (body_of rule.choice_operator)) 123 124 0
  unfolding whitespace comment
  choice_operator_plain = word s 14 refl refl refl

  optional_operator_plain : Laid s (Run NonAtomicMode (body_of rule.optional_operator)) 125 126 0
  unfolding whitespace comment
  optional_operator_plain = word s 15 refl refl refl

  repeat_operator_plain : Laid s (Run NonAtomicMode (body_of rule.repeat_operator)) 127 128 0
  unfolding whitespace comment
  repeat_operator_plain = word s 16 refl refl refl

  repeat_once_operator_plain : Laid s (Run NonAtomicMode (body_of rule.repeat_once_operator)) 129 130 0
  unfolding whitespace comment
  repeat_once_operator_plain = word s 17 refl refl refl

  repeat_exact_plain : Laid s (Run NonAtomicMode (body_of rule.repeat_exact)) 131 132 0
  unfolding whitespace comment
  repeat_exact_plain = seq 803 804 (seq 805 806 (calls s rule.opening_brace 77 78 at_opening_brace_plain refl refl refl refl refl) (trivia_in_place s (seq 807 807 (many s 808 (op.IsOne 0 808 807) refl (λ c z. z) (tight_between s) refl (inl (tested s 0 (outside_sub s.classes ((32, 32) ∷ (9, 9) ∷ (10, 10) ∷ (13, 13) ∷ []) rule.WHITESPACE refl refl refl (outside_choice s.classes ((32, 32) ∷ (9, 9) ∷ []) ((10, 10) ∷ (13, 13) ∷ []) false false (outside_set s.classes (one_of_two s.classes (one_text s.classes 32) (one_text s.classes 9))) (outside_sub s.classes ((10, 10) ∷ (13, 13) ∷ []) rule.newline refl refl refl (outside_choice s.classes ((10, 10) ∷ []) ((13, 13) ∷ []) false false (outside_set s.classes (one_text s.classes 10)) (outside_text s.classes))))) refl refl refl)) (within s rule.WHITESPACE refl refl refl (either s 809 808 810 refl (at_once s) (one_of s 1 (one_of_two s.classes (one_text s.classes 32) (one_text s.classes 9)) refl refl refl) (tested s 2 (outside_sub s.classes ((10, 10) ∷ (13, 13) ∷ []) rule.newline refl refl refl (outside_choice s.classes ((10, 10) ∷ []) ((13, 13) ∷ []) false false (outside_set s.classes (one_text s.classes 10)) (outside_text s.classes))) refl refl refl) (within s rule.newline refl refl refl (either s 811 810 811 refl (at_once s) (word s 30 refl refl refl) (at_once s) (word s 31 refl refl refl)))))) (between s) (many s 812 (op.IsOne 3 812 806) refl (λ c z. z) (tight_between s) refl (inl (tested s 3 (outside_seq s.classes ((47, 47) ∷ (47, 47) ∷ []) false (outside_sub s.classes ((47, 47) ∷ (47, 47) ∷ []) rule.COMMENT refl refl refl (outside_choice s.classes ((47, 47) ∷ []) ((47, 47) ∷ []) false false (outside_sub s.classes ((47, 47) ∷ []) rule.block_comment refl refl refl (outside_seq s.classes ((47, 47) ∷ []) false (outside_seq s.classes ((47, 47) ∷ []) false (outside_text s.classes)))) (outside_sub s.classes ((47, 47) ∷ []) rule.line_comment refl refl refl (outside_seq s.classes ((47, 47) ∷ []) false (outside_seq s.classes ((47, 47) ∷ []) false (outside_text s.classes))))))) refl refl refl)) (tries s 813 815 815 814 refl (enters s rule.COMMENT 191 192 at_COMMENT_atomic_apart refl refl refl refl refl) (between s) (many s 816 (op.IsOne 0 816 814) refl (λ c z. z) (tight_between s) refl (inl (tested s 0 (outside_sub s.classes ((32, 32) ∷ (9, 9) ∷ (10, 10) ∷ (13, 13) ∷ []) rule.WHITESPACE refl refl refl (outside_choice s.classes ((32, 32) ∷ (9, 9) ∷ []) ((10, 10) ∷ (13, 13) ∷ []) false false (outside_set s.classes (one_of_two s.classes (one_text s.classes 32) (one_text s.classes 9))) (outside_sub s.classes ((10, 10) ∷ (13, 13) ∷ []) rule.newline refl refl refl (outside_choice s.classes ((10, 10) ∷ []) ((13, 13) ∷ []) false false (outside_set s.classes (one_text s.classes 10)) (outside_text s.classes))))) refl refl refl)) (within s rule.WHITESPACE refl refl refl (either s 817 816 818 refl (at_once s) (one_of s 1 (one_of_two s.classes (one_text s.classes 32) (one_text s.classes 9)) refl refl refl) (tested s 2 (outside_sub s.classes ((10, 10) ∷ (13, 13) ∷ []) rule.newline refl refl refl (outside_choice s.classes ((10, 10) ∷ []) ((13, 13) ∷ []) false false (outside_set s.classes (one_text s.classes 10)) (outside_text s.classes))) refl refl refl) (within s rule.newline refl refl refl (either s 819 818 819 refl (at_once s) (word s 30 refl refl refl) (at_once s) (word s 31 refl refl refl)))))) refl)))) (calls s rule.number 139 140 at_number_atomic refl refl refl refl refl)) (trivia_in_place s (seq 820 820 (many s 821 (op.IsOne 0 821 820) refl (λ c z. z) (tight_between s) refl (inl (tested s 0 (outside_sub s.classes ((32, 32) ∷ (9, 9) ∷ (10, 10) ∷ (13, 13) ∷ []) rule.WHITESPACE refl refl refl (outside_choice s.classes ((32, 32) ∷ (9, 9) ∷ []) ((10, 10) ∷ (13, 13) ∷ []) false false (outside_set s.classes (one_of_two s.classes (one_text s.classes 32) (one_text s.classes 9))) (outside_sub s.classes ((10, 10) ∷ (13, 13) ∷ []) rule.newline refl refl refl (outside_choice s.classes ((10, 10) ∷ []) ((13, 13) ∷ []) false false (outside_set s.classes (one_text s.classes 10)) (outside_text s.classes))))) refl refl refl)) (within s rule.WHITESPACE refl refl refl (either s 822 821 823 refl (at_once s) (one_of s 1 (one_of_two s.classes (one_text s.classes 32) (one_text s.classes 9)) refl refl refl) (tested s 2 (outside_sub s.classes ((10, 10) ∷ (13, 13) ∷ []) rule.newline refl refl refl (outside_choice s.classes ((10, 10) ∷ []) ((13, 13) ∷ []) false false (outside_set s.classes (one_text s.classes 10)) (outside_text s.classes))) refl refl refl) (within s rule.newline refl refl refl (either s 824 823 824 refl (at_once s) (word s 30 refl refl refl) (at_once s) (word s 31 refl refl refl)))))) (between s) (many s 825 (op.IsOne 3 825 804) refl (λ c z. z) (tight_between s) refl (inl (tested s 3 (outside_seq s.classes ((47, 47) ∷ (47, 47) ∷ []) false (outside_sub s.classes ((47, 47) ∷ (47, 47) ∷ []) rule.COMMENT refl refl refl (outside_choice s.classes ((47, 47) ∷ []) ((47, 47) ∷ []) false false (outside_sub s.classes ((47, 47) ∷ []) rule.block_comment refl refl refl (outside_seq s.classes ((47, 47) ∷ []) false (outside_seq s.classes ((47, 47) ∷ []) false (outside_text s.classes)))) (outside_sub s.classes ((47, 47) ∷ []) rule.line_comment refl refl refl (outside_seq s.classes ((47, 47) ∷ []) false (outside_seq s.classes ((47, 47) ∷ []) false (outside_text s.classes))))))) refl refl refl)) (tries s 826 828 828 827 refl (enters s rule.COMMENT 191 192 at_COMMENT_atomic_apart refl refl refl refl refl) (between s) (many s 829 (op.IsOne 0 829 827) refl (λ c z. z) (tight_between s) refl (inl (tested s 0 (outside_sub s.classes ((32, 32) ∷ (9, 9) ∷ (10, 10) ∷ (13, 13) ∷ []) rule.WHITESPACE refl refl refl (outside_choice s.classes ((32, 32) ∷ (9, 9) ∷ []) ((10, 10) ∷ (13, 13) ∷ []) false false (outside_set s.classes (one_of_two s.classes (one_text s.classes 32) (one_text s.classes 9))) (outside_sub s.classes ((10, 10) ∷ (13, 13) ∷ []) rule.newline refl refl refl (outside_choice s.classes ((10, 10) ∷ []) ((13, 13) ∷ []) false false (outside_set s.classes (one_text s.classes 10)) (outside_text s.classes))))) refl refl refl)) (within s rule.WHITESPACE refl refl refl (either s 830 829 831 refl (at_once s) (one_of s 1 (one_of_two s.classes (one_text s.classes 32) (one_text s.classes 9)) refl refl refl) (tested s 2 (outside_sub s.classes ((10, 10) ∷ (13, 13) ∷ []) rule.newline refl refl refl (outside_choice s.classes ((10, 10) ∷ []) ((13, 13) ∷ []) false false (outside_set s.classes (one_text s.classes 10)) (outside_text s.classes))) refl refl refl) (within s rule.newline refl refl refl (either s 832 831 832 refl (at_once s) (word s 30 refl refl refl) (at_once s) (word s 31 refl refl refl)))))) refl)))) (calls s rule.closing_brace 79 80 at_closing_brace_plain refl refl refl refl refl)

  repeat_min_plain : Laid s (Run NonAtomicMode (body_of rule.repeat_min)) 133 134 0
  unfolding whitespace comment
  repeat_min_plain = seq 833 834 (seq 835 836 (seq 837 838 (calls s rule.opening_brace 77 78 at_opening_brace_plain refl refl refl refl refl) (trivia_in_place s (seq 839 839 (many s 840 (op.IsOne 0 840 839) refl (λ c z. z) (tight_between s) refl (inl (tested s 0 (outside_sub s.classes ((32, 32) ∷ (9, 9) ∷ (10, 10) ∷ (13, 13) ∷ []) rule.WHITESPACE refl refl refl (outside_choice s.classes ((32, 32) ∷ (9, 9) ∷ []) ((10, 10) ∷ (13, 13) ∷ []) false false (outside_set s.classes (one_of_two s.classes (one_text s.classes 32) (one_text s.classes 9))) (outside_sub s.classes ((10, 10) ∷ (13, 13) ∷ []) rule.newline refl refl refl (outside_choice s.classes ((10, 10) ∷ []) ((13, 13) ∷ []) false false (outside_set s.classes (one_text s.classes 10)) (outside_text s.classes))))) refl refl refl)) (within s rule.WHITESPACE refl refl refl (either s 841 840 842 refl (at_once s) (one_of s 1 (one_of_two s.classes (one_text s.classes 32) (one_text s.classes 9)) refl refl refl) (tested s 2 (outside_sub s.classes ((10, 10) ∷ (13, 13) ∷ []) rule.newline refl refl refl (outside_choice s.classes ((10, 10) ∷ []) ((13, 13) ∷ []) false false (outside_set s.classes (one_text s.classes 10)) (outside_text s.classes))) refl refl refl) (within s rule.newline refl refl refl (either s 843 842 843 refl (at_once s) (word s 30 refl refl refl) (at_once s) (word s 31 refl refl refl)))))) (between s) (many s 844 (op.IsOne 3 844 838) refl (λ c z. z) (tight_between s) refl (inl (tested s 3 (outside_seq s.classes ((47, 47) ∷ (47, 47) ∷ []) false (outside_sub s.classes ((47, 47) ∷ (47, 47) ∷ []) rule.COMMENT refl refl refl (outside_choice s.classes ((47, 47) ∷ []) ((47, 47) ∷ []) false false (outside_sub s.classes ((47, 47) ∷ []) rule.block_comment refl refl refl (outside_seq s.classes ((47, 47) ∷ []) false (outside_seq s.classes ((47, 47) ∷ []) false (outside_text s.classes)))) (outside_sub s.classes ((47, 47) ∷ []) rule.line_comment refl refl refl (outside_seq s.classes ((47, 47) ∷ []) false (outside_seq s.classes ((47, 47) ∷ []) false (outside_text s.classes))))))) refl refl refl)) (tries s 845 847 847 846 refl (enters s rule.COMMENT 191 192 at_COMMENT_atomic_apart refl refl refl refl refl) (between s) (many s 848 (op.IsOne 0 848 846) refl (λ c z. z) (tight_between s) refl (inl (tested s 0 (outside_sub s.classes ((32, 32) ∷ (9, 9) ∷ (10, 10) ∷ (13, 13) ∷ []) rule.WHITESPACE refl refl refl (outside_choice s.classes ((32, 32) ∷ (9, 9) ∷ []) ((10, 10) ∷ (13, 13) ∷ []) false false (outside_set s.classes (one_of_two s.classes (one_text s.classes 32) (one_text s.classes 9))) (outside_sub s.classes ((10, 10) ∷ (13, 13) ∷ []) rule.newline refl refl refl (outside_choice s.classes ((10, 10) ∷ []) ((13, 13) ∷ []) false false (outside_set s.classes (one_text s.classes 10)) (outside_text s.classes))))) refl refl refl)) (within s rule.WHITESPACE refl refl refl (either s 849 848 850 refl (at_once s) (one_of s 1 (one_of_two s.classes (one_text s.classes 32) (one_text s.classes 9)) refl refl refl) (tested s 2 (outside_sub s.classes ((10, 10) ∷ (13, 13) ∷ []) rule.newline refl refl refl (outside_choice s.classes ((10, 10) ∷ []) ((13, 13) ∷ []) false false (outside_set s.classes (one_text s.classes 10)) (outside_text s.classes))) refl refl refl) (within s rule.newline refl refl refl (either s 851 850 851 refl (at_once s) (word s 30 refl refl refl) (at_once s) (word s 31 refl refl refl)))))) refl)))) (calls s rule.number 139 140 at_number_atomic refl refl refl refl refl)) (trivia_in_place s (seq 852 852 (many s 853 (op.IsOne 0 853 852) refl (λ c z. z) (tight_between s) refl (inl (tested s 0 (outside_sub s.classes ((32, 32) ∷ (9, 9) ∷ (10, 10) ∷ (13, 13) ∷ []) rule.WHITESPACE refl refl refl (outside_choice s.classes ((32, 32) ∷ (9, 9) ∷ []) ((10, 10) ∷ (13, 13) ∷ []) false false (outside_set s.classes (one_of_two s.classes (one_text s.classes 32) (one_text s.classes 9))) (outside_sub s.classes ((10, 10) ∷ (13, 13) ∷ []) rule.newline refl refl refl (outside_choice s.classes ((10, 10) ∷ []) ((13, 13) ∷ []) false false (outside_set s.classes (one_text s.classes 10)) (outside_text s.classes))))) refl refl refl)) (within s rule.WHITESPACE refl refl refl (either s 854 853 855 refl (at_once s) (one_of s 1 (one_of_two s.classes (one_text s.classes 32) (one_text s.classes 9)) refl refl refl) (tested s 2 (outside_sub s.classes ((10, 10) ∷ (13, 13) ∷ []) rule.newline refl refl refl (outside_choice s.classes ((10, 10) ∷ []) ((13, 13) ∷ []) false false (outside_set s.classes (one_text s.classes 10)) (outside_text s.classes))) refl refl refl) (within s rule.newline refl refl refl (either s 856 855 856 refl (at_once s) (word s 30 refl refl refl) (at_once s) (word s 31 refl refl refl)))))) (between s) (many s 857 (op.IsOne 3 857 836) refl (λ c z. z) (tight_between s) refl (inl (tested s 3 (outside_seq s.classes ((47, 47) ∷ (47, 47) ∷ []) false (outside_sub s.classes ((47, 47) ∷ (47, 47) ∷ []) rule.COMMENT refl refl refl (outside_choice s.classes ((47, 47) ∷ []) ((47, 47) ∷ []) false false (outside_sub s.classes ((47, 47) ∷ []) rule.block_comment refl refl refl (outside_seq s.classes ((47, 47) ∷ []) false (outside_seq s.classes ((47, 47) ∷ []) false (outside_text s.classes)))) (outside_sub s.classes ((47, 47) ∷ []) rule.line_comment refl refl refl (outside_seq s.classes ((47, 47) ∷ []) false (outside_seq s.classes ((47, 47) ∷ []) false (outside_text s.classes))))))) refl refl refl)) (tries s 858 860 860 859 refl (enters s rule.COMMENT 191 192 at_COMMENT_atomic_apart refl refl refl refl refl) (between s) (many s 861 (op.IsOne 0 861 859) refl (λ c z. z) (tight_between s) refl (inl (tested s 0 (outside_sub s.classes ((32, 32) ∷ (9, 9) ∷ (10, 10) ∷ (13, 13) ∷ []) rule.WHITESPACE refl refl refl (outside_choice s.classes ((32, 32) ∷ (9, 9) ∷ []) ((10, 10) ∷ (13, 13) ∷ []) false false (outside_set s.classes (one_of_two s.classes (one_text s.classes 32) (one_text s.classes 9))) (outside_sub s.classes ((10, 10) ∷ (13, 13) ∷ []) rule.newline refl refl refl (outside_choice s.classes ((10, 10) ∷ []) ((13, 13) ∷ []) false false (outside_set s.classes (one_text s.classes 10)) (outside_text s.classes))))) refl refl refl)) (within s rule.WHITESPACE refl refl refl (either s 862 861 863 refl (at_once s) (one_of s 1 (one_of_two s.classes (one_text s.classes 32) (one_text s.classes 9)) refl refl refl) (tested s 2 (outside_sub s.classes ((10, 10) ∷ (13, 13) ∷ []) rule.newline refl refl refl (outside_choice s.classes ((10, 10) ∷ []) ((13, 13) ∷ []) false false (outside_set s.classes (one_text s.classes 10)) (outside_text s.classes))) refl refl refl) (within s rule.newline refl refl refl (either s 864 863 864 refl (at_once s) (word s 30 refl refl refl) (at_once s) (word s 31 refl refl refl)))))) refl)))) (calls s rule.comma 143 144 at_comma_plain refl refl refl refl refl)) (trivia_in_place s (seq 865 865 (many s 866 (op.IsOne 0 866 865) refl (λ c z. z) (tight_between s) refl (inl (tested s 0 (outside_sub s.classes ((32, 32) ∷ (9, 9) ∷ (10, 10) ∷ (13, 13) ∷ []) rule.WHITESPACE refl refl refl (outside_choice s.classes ((32, 32) ∷ (9, 9) ∷ []) ((10, 10) ∷ (13, 13) ∷ []) false false (outside_set s.classes (one_of_two s.classes (one_text s.classes 32) (one_text s.classes 9))) (outside_sub s.classes ((10, 10) ∷ (13, 13) ∷ []) rule.newline refl refl refl (outside_choice s.classes ((10, 10) ∷ []) ((13, 13) ∷ []) false false (outside_set s.classes (one_text s.classes 10)) (outside_text s.classes))))) refl refl refl)) (within s rule.WHITESPACE refl refl refl (either s 867 866 868 refl (at_once s) (one_of s 1 (one_of_two s.classes (one_text s.classes 32) (one_text s.classes 9)) refl refl refl) (tested s 2 (outside_sub s.classes ((10, 10) ∷ (13, 13) ∷ []) rule.newline refl refl refl (outside_choice s.classes ((10, 10) ∷ []) ((13, 13) ∷ []) false false (outside_set s.classes (one_text s.classes 10)) (outside_text s.classes))) refl refl refl) (within s rule.newline refl refl refl (either s 869 868 869 refl (at_once s) (word s 30 refl refl refl) (at_once s) (word s 31 refl refl refl)))))) (between s) (many s 870 (op.IsOne 3 870 834) refl (λ c z. z) (tight_between s) refl (inl (tested s 3 (outside_seq s.classes ((47, 47) ∷ (47, 47) ∷ []) false (outside_sub s.classes ((47, 47) ∷ (47, 47) ∷ []) rule.COMMENT refl refl refl (outside_choice s.classes ((47, 47) ∷ []) ((47, 47) ∷ []) false false (outside_sub s.classes ((47, 47) ∷ []) rule.block_comment refl refl refl (outside_seq s.classes ((47, 47) ∷ []) false (outside_seq s.classes ((47, 47) ∷ []) false (outside_text s.classes)))) (outside_sub s.classes ((47, 47) ∷ []) rule.line_comment refl refl refl (outside_seq s.classes ((47, 47) ∷ []) false (outside_seq s.classes ((47, 47) ∷ []) false (outside_text s.classes))))))) refl refl refl)) (tries s 871 873 873 872 refl (enters s rule.COMMENT 191 192 at_COMMENT_atomic_apart refl refl refl refl refl) (between s) (many s 874 (op.IsOne 0 874 872) refl (λ c z. z) (tight_between s) refl (inl (tested s 0 (outside_sub s.classes ((32, 32) ∷ (9, 9) ∷ (10, 10) ∷ (13, 13) ∷ []) rule.WHITESPACE refl refl refl (outside_choice s.classes ((32, 32) ∷ (9, 9) ∷ []) ((10, 10) ∷ (13, 13) ∷ []) false false (outside_set s.classes (one_of_two s.classes (one_text s.classes 32) (one_text s.classes 9))) (outside_sub s.classes ((10, 10) ∷ (13, 13) ∷ []) rule.newline refl refl refl (outside_choice s.classes ((10, 10) ∷ []) ((13, 13) ∷ []) false false (outside_set s.classes (one_text s.classes 10)) (outside_text s.classes))))) refl refl refl)) (within s rule.WHITESPACE refl refl refl (either s 875 874 876 refl (at_once s) (one_of s 1 (one_of_two s.classes (one_text s.classes 32) (one_text s.classes 9)) refl refl refl) (tested s 2 (outside_sub s.classes ((10, 10) ∷ (13, 13) ∷ []) rule.newline refl refl refl (outside_choice s.classes ((10, 10) ∷ []) ((13, 13) ∷ []) false false (outside_set s.classes (one_text s.classes 10)) (outside_text s.classes))) refl refl refl) (within s rule.newline refl refl refl (either s 877 876 877 refl (at_once s) (word s 30 refl refl refl) (at_once s) (word s 31 refl refl refl)))))) refl)))) (calls s rule.closing_brace 79 80 at_closing_brace_plain refl refl refl refl refl)

  repeat_max_plain : Laid s (Run NonAtomicMode (body_of rule.repeat_max)) 135 136 0
  unfolding whitespace comment
  repeat_max_plain = seq 878 879 (seq 880 881 (seq 882 883 (calls s rule.opening_brace 77 78 at_opening_brace_plain refl refl refl refl refl) (trivia_in_place s (seq 884 884 (many s 885 (op.IsOne 0 885 884) refl (λ c z. z) (tight_between s) refl (inl (tested s 0 (outside_sub s.classes ((32, 32) ∷ (9, 9) ∷ (10, 10) ∷ (13, 13) ∷ []) rule.WHITESPACE refl refl refl (outside_choice s.classes ((32, 32) ∷ (9, 9) ∷ []) ((10, 10) ∷ (13, 13) ∷ []) false false (outside_set s.classes (one_of_two s.classes (one_text s.classes 32) (one_text s.classes 9))) (outside_sub s.classes ((10, 10) ∷ (13, 13) ∷ []) rule.newline refl refl refl (outside_choice s.classes ((10, 10) ∷ []) ((13, 13) ∷ []) false false (outside_set s.classes (one_text s.classes 10)) (outside_text s.classes))))) refl refl refl)) (within s rule.WHITESPACE refl refl refl (either s 886 885 887 refl (at_once s) (one_of s 1 (one_of_two s.classes (one_text s.classes 32) (one_text s.classes 9)) refl refl refl) (tested s 2 (outside_sub s.classes ((10, 10) ∷ (13, 13) ∷ []) rule.newline refl refl refl (outside_choice s.classes ((10, 10) ∷ []) ((13, 13) ∷ []) false false (outside_set s.classes (one_text s.classes 10)) (outside_text s.classes))) refl refl refl) (within s rule.newline refl refl refl (either s 888 887 888 refl (at_once s) (word s 30 refl refl refl) (at_once s) (word s 31 refl refl refl)))))) (between s) (many s 889 (op.IsOne 3 889 883) refl (λ c z. z) (tight_between s) refl (inl (tested s 3 (outside_seq s.classes ((47, 47) ∷ (47, 47) ∷ []) false (outside_sub s.classes ((47, 47) ∷ (47, 47) ∷ []) rule.COMMENT refl refl refl (outside_choice s.classes ((47, 47) ∷ []) ((47, 47) ∷ []) false false (outside_sub s.classes ((47, 47) ∷ []) rule.block_comment refl refl refl (outside_seq s.classes ((47, 47) ∷ []) false (outside_seq s.classes ((47, 47) ∷ []) false (outside_text s.classes)))) (outside_sub s.classes ((47, 47) ∷ []) rule.line_comment refl refl refl (outside_seq s.classes ((47, 47) ∷ []) false (outside_seq s.classes ((47, 47) ∷ []) false (outside_text s.classes))))))) refl refl refl)) (tries s 890 892 892 891 refl (enters s rule.COMMENT 191 192 at_COMMENT_atomic_apart refl refl refl refl refl) (between s) (many s 893 (op.IsOne 0 893 891) refl (λ c z. z) (tight_between s) refl (inl (tested s 0 (outside_sub s.classes ((32, 32) ∷ (9, 9) ∷ (10, 10) ∷ (13, 13) ∷ []) rule.WHITESPACE refl refl refl (outside_choice s.classes ((32, 32) ∷ (9, 9) ∷ []) ((10, 10) ∷ (13, 13) ∷ []) false false (outside_set s.classes (one_of_two s.classes (one_text s.classes 32) (one_text s.classes 9))) (outside_sub s.classes ((10, 10) ∷ (13, 13) ∷ []) rule.newline refl refl refl (outside_choice s.classes ((10, 10) ∷ []) ((13, 13) ∷ []) false false (outside_set s.classes (one_text s.classes 10)) (outside_text s.classes))))) refl refl refl)) (within s rule.WHITESPACE refl refl refl (either s 894 893 895 refl (at_once s) (one_of s 1 (one_of_two s.classes (one_text s.classes 32) (one_text s.classes 9)) refl refl refl) (tested s 2 (outside_sub s.classes ((10, 10) ∷ (13, 13) ∷ []) rule.newline refl refl refl (outside_choice s.classes ((10, 10) ∷ []) ((13, 13) ∷ []) false false (outside_set s.classes (one_text s.classes 10)) (outside_text s.classes))) refl refl refl) (within s rule.newline refl refl refl (either s 896 895 896 refl (at_once s) (word s 30 refl refl refl) (at_once s) (word s 31 refl refl refl)))))) refl)))) (calls s rule.comma 143 144 at_comma_plain refl refl refl refl refl)) (trivia_in_place s (seq 897 897 (many s 898 (op.IsOne 0 898 897) refl (λ c z. z) (tight_between s) refl (inl (tested s 0 (outside_sub s.classes ((32, 32) ∷ (9, 9) ∷ (10, 10) ∷ (13, 13) ∷ []) rule.WHITESPACE refl refl refl (outside_choice s.classes ((32, 32) ∷ (9, 9) ∷ []) ((10, 10) ∷ (13, 13) ∷ []) false false (outside_set s.classes (one_of_two s.classes (one_text s.classes 32) (one_text s.classes 9))) (outside_sub s.classes ((10, 10) ∷ (13, 13) ∷ []) rule.newline refl refl refl (outside_choice s.classes ((10, 10) ∷ []) ((13, 13) ∷ []) false false (outside_set s.classes (one_text s.classes 10)) (outside_text s.classes))))) refl refl refl)) (within s rule.WHITESPACE refl refl refl (either s 899 898 900 refl (at_once s) (one_of s 1 (one_of_two s.classes (one_text s.classes 32) (one_text s.classes 9)) refl refl refl) (tested s 2 (outside_sub s.classes ((10, 10) ∷ (13, 13) ∷ []) rule.newline refl refl refl (outside_choice s.classes ((10, 10) ∷ []) ((13, 13) ∷ []) false false (outside_set s.classes (one_text s.classes 10)) (outside_text s.classes))) refl refl refl) (within s rule.newline refl refl refl (either s 901 900 901 refl (at_once s) (word s 30 refl refl refl) (at_once s) (word s 31 refl refl refl)))))) (between s) (many s 902 (op.IsOne 3 902 881) refl (λ c z. z) (tight_between s) refl (inl (tested s 3 (outside_seq s.classes ((47, 47) ∷ (47, 47) ∷ []) false (outside_sub s.classes ((47, 47) ∷ (47, 47) ∷ []) rule.COMMENT refl refl refl (outside_choice s.classes ((47, 47) ∷ []) ((47, 47) ∷ []) false false (outside_sub s.classes ((47, 47) ∷ []) rule.block_comment refl refl refl (outside_seq s.classes ((47, 47) ∷ []) false (outside_seq s.classes ((47, 47) ∷ []) false (outside_text s.classes)))) (outside_sub s.classes ((47, 47) ∷ []) rule.line_comment refl refl refl (outside_seq s.classes ((47, 47) ∷ []) false (outside_seq s.classes ((47, 47) ∷ []) false (outside_text s.classes))))))) refl refl refl)) (tries s 903 905 905 904 refl (enters s rule.COMMENT 191 192 at_COMMENT_atomic_apart refl refl refl refl refl) (between s) (many s 906 (op.IsOne 0 906 904) refl (λ c z. z) (tight_between s) refl (inl (tested s 0 (outside_sub s.classes ((32, 32) ∷ (9, 9) ∷ (10, 10) ∷ (13, 13) ∷ []) rule.WHITESPACE refl refl refl (outside_choice s.classes ((32, 32) ∷ (9, 9) ∷ []) ((10, 10) ∷ (13, 13) ∷ []) false false (outside_set s.classes (one_of_two s.classes (one_text s.classes 32) (one_text s.classes 9))) (outside_sub s.classes ((10, 10) ∷ (13, 13) ∷ []) rule.newline refl refl refl (outside_choice s.classes ((10, 10) ∷ []) ((13, 13) ∷ []) false false (outside_set s.classes (one_text s.classes 10)) (outside_text s.classes))))) refl refl refl)) (within s rule.WHITESPACE refl refl refl (either s 907 906 908 refl (at_once s) (one_of s 1 (one_of_two s.classes (one_text s.classes 32) (one_text s.classes 9)) refl refl refl) (tested s 2 (outside_sub s.classes ((10, 10) ∷ (13, 13) ∷ []) rule.newline refl refl refl (outside_choice s.classes ((10, 10) ∷ []) ((13, 13) ∷ []) false false (outside_set s.classes (one_text s.classes 10)) (outside_text s.classes))) refl refl refl) (within s rule.newline refl refl refl (either s 909 908 909 refl (at_once s) (word s 30 refl refl refl) (at_once s) (word s 31 refl refl refl)))))) refl)))) (calls s rule.number 139 140 at_number_atomic refl refl refl refl refl)) (trivia_in_place s (seq 910 910 (many s 911 (op.IsOne 0 911 910) refl (λ c z. z) (tight_between s) refl (inl (tested s 0 (outside_sub s.classes ((32, 32) ∷ (9, 9) ∷ (10, 10) ∷ (13, 13) ∷ []) rule.WHITESPACE refl refl refl (outside_choice s.classes ((32, 32) ∷ (9, 9) ∷ []) ((10, 10) ∷ (13, 13) ∷ []) false false (outside_set s.classes (one_of_two s.classes (one_text s.classes 32) (one_text s.classes 9))) (outside_sub s.classes ((10, 10) ∷ (13, 13) ∷ []) rule.newline refl refl refl (outside_choice s.classes ((10, 10) ∷ []) ((13, 13) ∷ []) false false (outside_set s.classes (one_text s.classes 10)) (outside_text s.classes))))) refl refl refl)) (within s rule.WHITESPACE refl refl refl (either s 912 911 913 refl (at_once s) (one_of s 1 (one_of_two s.classes (one_text s.classes 32) (one_text s.classes 9)) refl refl refl) (tested s 2 (outside_sub s.classes ((10, 10) ∷ (13, 13) ∷ []) rule.newline refl refl refl (outside_choice s.classes ((10, 10) ∷ []) ((13, 13) ∷ []) false false (outside_set s.classes (one_text s.classes 10)) (outside_text s.classes))) refl refl refl) (within s rule.newline refl refl refl (either s 914 913 914 refl (at_once s) (word s 30 refl refl refl) (at_once s) (word s 31 refl refl refl)))))) (between s) (many s 915 (op.IsOne 3 915 879) refl (λ c z. z) (tight_between s) refl (inl (tested s 3 (outside_seq s.classes ((47, 47) ∷ (47, 47) ∷ []) false (outside_sub s.classes ((47, 47) ∷ (47, 47) ∷ []) rule.COMMENT refl refl refl (outside_choice s.classes ((47, 47) ∷ []) ((47, 47) ∷ []) false false (outside_sub s.classes ((47, 47) ∷ []) rule.block_comment refl refl refl (outside_seq s.classes ((47, 47) ∷ []) false (outside_seq s.classes ((47, 47) ∷ []) false (outside_text s.classes)))) (outside_sub s.classes ((47, 47) ∷ []) rule.line_comment refl refl refl (outside_seq s.classes ((47, 47) ∷ []) false (outside_seq s.classes ((47, 47) ∷ []) false (outside_text s.classes))))))) refl refl refl)) (tries s 916 918 918 917 refl (enters s rule.COMMENT 191 192 at_COMMENT_atomic_apart refl refl refl refl refl) (between s) (many s 919 (op.IsOne 0 919 917) refl (λ c z. z) (tight_between s) refl (inl (tested s 0 (outside_sub s.classes ((32, 32) ∷ (9, 9) ∷ (10, 10) ∷ (13, 13) ∷ []) rule.WHITESPACE refl refl refl (outside_choice s.classes ((32, 32) ∷ (9, 9) ∷ []) ((10, 10) ∷ (13, 13) ∷ []) false false (outside_set s.classes (one_of_two s.classes (one_text s.classes 32) (one_text s.classes 9))) (outside_sub s.classes ((10, 10) ∷ (13, 13) ∷ []) rule.newline refl refl refl (outside_choice s.classes ((10, 10) ∷ []) ((13, 13) ∷ []) false false (outside_set s.classes (one_text s.classes 10)) (outside_text s.classes))))) refl refl refl)) (within s rule.WHITESPACE refl refl refl (either s 920 919 921 refl (at_once s) (one_of s 1 (one_of_two s.classes (one_text s.classes 32) (one_text s.classes 9)) refl refl refl) (tested s 2 (outside_sub s.classes ((10, 10) ∷ (13, 13) ∷ []) rule.newline refl refl refl (outside_choice s.classes ((10, 10) ∷ []) ((13, 13) ∷ []) false false (outside_set s.classes (one_text s.classes 10)) (outside_text s.classes))) refl refl refl) (within s rule.newline refl refl refl (either s 922 921 922 refl (at_once s) (word s 30 refl refl refl) (at_once s) (word s 31 refl refl refl)))))) refl)))) (calls s rule.closing_brace 79 80 at_closing_brace_plain refl refl refl refl refl)

  repeat_min_max_plain : Laid s (Run NonAtomicMode (body_of rule.repeat_min_max)) 137 138 0
  unfolding whitespace comment
  repeat_min_max_plain = seq 923 924 (seq 925 926 (seq 927 928 (seq 929 930 (calls s rule.opening_brace 77 78 at_opening_brace_plain refl refl refl refl refl) (trivia_in_place s (seq 931 931 (many s 932 (op.IsOne 0 932 931) refl (λ c z. z) (tight_between s) refl (inl (tested s 0 (outside_sub s.classes ((32, 32) ∷ (9, 9) ∷ (10, 10) ∷ (13, 13) ∷ []) rule.WHITESPACE refl refl refl (outside_choice s.classes ((32, 32) ∷ (9, 9) ∷ []) ((10, 10) ∷ (13, 13) ∷ []) false false (outside_set s.classes (one_of_two s.classes (one_text s.classes 32) (one_text s.classes 9))) (outside_sub s.classes ((10, 10) ∷ (13, 13) ∷ []) rule.newline refl refl refl (outside_choice s.classes ((10, 10) ∷ []) ((13, 13) ∷ []) false false (outside_set s.classes (one_text s.classes 10)) (outside_text s.classes))))) refl refl refl)) (within s rule.WHITESPACE refl refl refl (either s 933 932 934 refl (at_once s) (one_of s 1 (one_of_two s.classes (one_text s.classes 32) (one_text s.classes 9)) refl refl refl) (tested s 2 (outside_sub s.classes ((10, 10) ∷ (13, 13) ∷ []) rule.newline refl refl refl (outside_choice s.classes ((10, 10) ∷ []) ((13, 13) ∷ []) false false (outside_set s.classes (one_text s.classes 10)) (outside_text s.classes))) refl refl refl) (within s rule.newline refl refl refl (either s 935 934 935 refl (at_once s) (word s 30 refl refl refl) (at_once s) (word s 31 refl refl refl)))))) (between s) (many s 936 (op.IsOne 3 936 930) refl (λ c z. z) (tight_between s) refl (inl (tested s 3 (outside_seq s.classes ((47, 47) ∷ (47, 47) ∷ []) false (outside_sub s.classes ((47, 47) ∷ (47, 47) ∷ []) rule.COMMENT refl refl refl (outside_choice s.classes ((47, 47) ∷ []) ((47, 47) ∷ []) false false (outside_sub s.classes ((47, 47) ∷ []) rule.block_comment refl refl refl (outside_seq s.classes ((47, 47) ∷ []) false (outside_seq s.classes ((47, 47) ∷ []) false (outside_text s.classes)))) (outside_sub s.classes ((47, 47) ∷ []) rule.line_comment refl refl refl (outside_seq s.classes ((47, 47) ∷ []) false (outside_seq s.classes ((47, 47) ∷ []) false (outside_text s.classes))))))) refl refl refl)) (tries s 937 939 939 938 refl (enters s rule.COMMENT 191 192 at_COMMENT_atomic_apart refl refl refl refl refl) (between s) (many s 940 (op.IsOne 0 940 938) refl (λ c z. z) (tight_between s) refl (inl (tested s 0 (outside_sub s.classes ((32, 32) ∷ (9, 9) ∷ (10, 10) ∷ (13, 13) ∷ []) rule.WHITESPACE refl refl refl (outside_choice s.classes ((32, 32) ∷ (9, 9) ∷ []) ((10, 10) ∷ (13, 13) ∷ []) false false (outside_set s.classes (one_of_two s.classes (one_text s.classes 32) (one_text s.classes 9))) (outside_sub s.classes ((10, 10) ∷ (13, 13) ∷ []) rule.newline refl refl refl (outside_choice s.classes ((10, 10) ∷ []) ((13, 13) ∷ []) false false (outside_set s.classes (one_text s.classes 10)) (outside_text s.classes))))) refl refl refl)) (within s rule.WHITESPACE refl refl refl (either s 941 940 942 refl (at_once s) (one_of s 1 (one_of_two s.classes (one_text s.classes 32) (one_text s.classes 9)) refl refl refl) (tested s 2 (outside_sub s.classes ((10, 10) ∷ (13, 13) ∷ []) rule.newline refl refl refl (outside_choice s.classes ((10, 10) ∷ []) ((13, 13) ∷ []) false false (outside_set s.classes (one_text s.classes 10)) (outside_text s.classes))) refl refl refl) (within s rule.newline refl refl refl (either s 943 942 943 refl (at_once s) (word s 30 refl refl refl) (at_once s) (word s 31 refl refl refl)))))) refl)))) (calls s rule.number 139 140 at_number_atomic refl refl refl refl refl)) (trivia_in_place s (seq 944 944 (many s 945 (op.IsOne 0 945 944) refl (λ c z. z) (tight_between s) refl (inl (tested s 0 (outside_sub s.classes ((32, 32) ∷ (9, 9) ∷ (10, 10) ∷ (13, 13) ∷ []) rule.WHITESPACE refl refl refl (outside_choice s.classes ((32, 32) ∷ (9, 9) ∷ []) ((10, 10) ∷ (13, 13) ∷ []) false false (outside_set s.classes (one_of_two s.classes (one_text s.classes 32) (one_text s.classes 9))) (outside_sub s.classes ((10, 10) ∷ (13, 13) ∷ []) rule.newline refl refl refl (outside_choice s.classes ((10, 10) ∷ []) ((13, 13) ∷ []) false false (outside_set s.classes (one_text s.classes 10)) (outside_text s.classes))))) refl refl refl)) (within s rule.WHITESPACE refl refl refl (either s 946 945 947 refl (at_once s) (one_of s 1 (one_of_two s.classes (one_text s.classes 32) (one_text s.classes 9)) refl refl refl) (tested s 2 (outside_sub s.classes ((10, 10) ∷ (13, 13) ∷ []) rule.newline refl refl refl (outside_choice s.classes ((10, 10) ∷ []) ((13, 13) ∷ []) false false (outside_set s.classes (one_text s.classes 10)) (outside_text s.classes))) refl refl refl) (within s rule.newline refl refl refl (either s 948 947 948 refl (at_once s) (word s 30 refl refl refl) (at_once s) (word s 31 refl refl refl)))))) (between s) (many s 949 (op.IsOne 3 949 928) refl (λ c z. z) (tight_between s) refl (inl (tested s 3 (outside_seq s.classes ((47, 47) ∷ (47, 47) ∷ []) false (outside_sub s.classes ((47, 47) ∷ (47, 47) ∷ []) rule.COMMENT refl refl refl (outside_choice s.classes ((47, 47) ∷ []) ((47, 47) ∷ []) false false (outside_sub s.classes ((47, 47) ∷ []) rule.block_comment refl refl refl (outside_seq s.classes ((47, 47) ∷ []) false (outside_seq s.classes ((47, 47) ∷ []) false (outside_text s.classes)))) (outside_sub s.classes ((47, 47) ∷ []) rule.line_comment refl refl refl (outside_seq s.classes ((47, 47) ∷ []) false (outside_seq s.classes ((47, 47) ∷ []) false (outside_text s.classes))))))) refl refl refl)) (tries s 950 952 952 951 refl (enters s rule.COMMENT 191 192 at_COMMENT_atomic_apart refl refl refl refl refl) (between s) (many s 953 (op.IsOne 0 953 951) refl (λ c z. z) (tight_between s) refl (inl (tested s 0 (outside_sub s.classes ((32, 32) ∷ (9, 9) ∷ (10, 10) ∷ (13, 13) ∷ []) rule.WHITESPACE refl refl refl (outside_choice s.classes ((32, 32) ∷ (9, 9) ∷ []) ((10, 10) ∷ (13, 13) ∷ []) false false (outside_set s.classes (one_of_two s.classes (one_text s.classes 32) (one_text s.classes 9))) (outside_sub s.classes ((10, 10) ∷ (13, 13) ∷ []) rule.newline refl refl refl (outside_choice s.classes ((10, 10) ∷ []) ((13, 13) ∷ []) false false (outside_set s.classes (one_text s.classes 10)) (outside_text s.classes))))) refl refl refl)) (within s rule.WHITESPACE refl refl refl (either s 954 953 955 refl (at_once s) (one_of s 1 (one_of_two s.classes (one_text s.classes 32) (one_text s.classes 9)) refl refl refl) (tested s 2 (outside_sub s.classes ((10, 10) ∷ (13, 13) ∷ []) rule.newline refl refl refl (outside_choice s.classes ((10, 10) ∷ []) ((13, 13) ∷ []) false false (outside_set s.classes (one_text s.classes 10)) (outside_text s.classes))) refl refl refl) (within s rule.newline refl refl refl (either s 956 955 956 refl (at_once s) (word s 30 refl refl refl) (at_once s) (word s 31 refl refl refl)))))) refl)))) (calls s rule.comma 143 144 at_comma_plain refl refl refl refl refl)) (trivia_in_place s (seq 957 957 (many s 958 (op.IsOne 0 958 957) refl (λ c z. z) (tight_between s) refl (inl (tested s 0 (outside_sub s.classes ((32, 32) ∷ (9, 9) ∷ (10, 10) ∷ (13, 13) ∷ []) rule.WHITESPACE refl refl refl (outside_choice s.classes ((32, 32) ∷ (9, 9) ∷ []) ((10, 10) ∷ (13, 13) ∷ []) false false (outside_set s.classes (one_of_two s.classes (one_text s.classes 32) (one_text s.classes 9))) (outside_sub s.classes ((10, 10) ∷ (13, 13) ∷ []) rule.newline refl refl refl (outside_choice s.classes ((10, 10) ∷ []) ((13, 13) ∷ []) false false (outside_set s.classes (one_text s.classes 10)) (outside_text s.classes))))) refl refl refl)) (within s rule.WHITESPACE refl refl refl (either s 959 958 960 refl (at_once s) (one_of s 1 (one_of_two s.classes (one_text s.classes 32) (one_text s.classes 9)) refl refl refl) (tested s 2 (outside_sub s.classes ((10, 10) ∷ (13, 13) ∷ []) rule.newline refl refl refl (outside_choice s.classes ((10, 10) ∷ []) ((13, 13) ∷ []) false false (outside_set s.classes (one_text s.classes 10)) (outside_text s.classes))) refl refl refl) (within s rule.newline refl refl refl (either s 961 960 961 refl (at_once s) (word s 30 refl refl refl) (at_once s) (word s 31 refl refl refl)))))) (between s) (many s 962 (op.IsOne 3 962 926) refl (λ c z. z) (tight_between s) refl (inl (tested s 3 (outside_seq s.classes ((47, 47) ∷ (47, 47) ∷ []) false (outside_sub s.classes ((47, 47) ∷ (47, 47) ∷ []) rule.COMMENT refl refl refl (outside_choice s.classes ((47, 47) ∷ []) ((47, 47) ∷ []) false false (outside_sub s.classes ((47, 47) ∷ []) rule.block_comment refl refl refl (outside_seq s.classes ((47, 47) ∷ []) false (outside_seq s.classes ((47, 47) ∷ []) false (outside_text s.classes)))) (outside_sub s.classes ((47, 47) ∷ []) rule.line_comment refl refl refl (outside_seq s.classes ((47, 47) ∷ []) false (outside_seq s.classes ((47, 47) ∷ []) false (outside_text s.classes))))))) refl refl refl)) (tries s 963 965 965 964 refl (enters s rule.COMMENT 191 192 at_COMMENT_atomic_apart refl refl refl refl refl) (between s) (many s 966 (op.IsOne 0 966 964) refl (λ c z. z) (tight_between s) refl (inl (tested s 0 (outside_sub s.classes ((32, 32) ∷ (9, 9) ∷ (10, 10) ∷ (13, 13) ∷ []) rule.WHITESPACE refl refl refl (outside_choice s.classes ((32, 32) ∷ (9, 9) ∷ []) ((10, 10) ∷ (13, 13) ∷ []) false false (outside_set s.classes (one_of_two s.classes (one_text s.classes 32) (one_text s.classes 9))) (outside_sub s.classes ((10, 10) ∷ (13, 13) ∷ []) rule.newline refl refl refl (outside_choice s.classes ((10, 10) ∷ []) ((13, 13) ∷ []) false false (outside_set s.classes (one_text s.classes 10)) (outside_text s.classes))))) refl refl refl)) (within s rule.WHITESPACE refl refl refl (either s 967 966 968 refl (at_once s) (one_of s 1 (one_of_two s.classes (one_text s.classes 32) (one_text s.classes 9)) refl refl refl) (tested s 2 (outside_sub s.classes ((10, 10) ∷ (13, 13) ∷ []) rule.newline refl refl refl (outside_choice s.classes ((10, 10) ∷ []) ((13, 13) ∷ []) false false (outside_set s.classes (one_text s.classes 10)) (outside_text s.classes))) refl refl refl) (within s rule.newline refl refl refl (either s 969 968 969 refl (at_once s) (word s 30 refl refl refl) (at_once s) (word s 31 refl refl refl)))))) refl)))) (calls s rule.number 139 140 at_number_atomic refl refl refl refl refl)) (trivia_in_place s (seq 970 970 (many s 971 (op.IsOne 0 971 970) refl (λ c z. z) (tight_between s) refl (inl (tested s 0 (outside_sub s.classes ((32, 32) ∷ (9, 9) ∷ (10, 10) ∷ (13, 13) ∷ []) rule.WHITESPACE refl refl refl (outside_choice s.classes ((32, 32) ∷ (9, 9) ∷ []) ((10, 10) ∷ (13, 13) ∷ []) false false (outside_set s.classes (one_of_two s.classes (one_text s.classes 32) (one_text s.classes 9))) (outside_sub s.classes ((10, 10) ∷ (13, 13) ∷ []) rule.newline refl refl refl (outside_choice s.classes ((10, 10) ∷ []) ((13, 13) ∷ []) false false (outside_set s.classes (one_text s.classes 10)) (outside_text s.classes))))) refl refl refl)) (within s rule.WHITESPACE refl refl refl (either s 972 971 973 refl (at_once s) (one_of s 1 (one_of_two s.classes (one_text s.classes 32) (one_text s.classes 9)) refl refl refl) (tested s 2 (outside_sub s.classes ((10, 10) ∷ (13, 13) ∷ []) rule.newline refl refl refl (outside_choice s.classes ((10, 10) ∷ []) ((13, 13) ∷ []) false false (outside_set s.classes (one_text s.classes 10)) (outside_text s.classes))) refl refl refl) (within s rule.newline refl refl refl (either s 974 973 974 refl (at_once s) (word s 30 refl refl refl) (at_once s) (word s 31 refl refl refl)))))) (between s) (many s 975 (op.IsOne 3 975 924) refl (λ c z. z) (tight_between s) refl (inl (tested s 3 (outside_seq s.classes ((47, 47) ∷ (47, 47) ∷ []) false (outside_sub s.classes ((47, 47) ∷ (47, 47) ∷ []) rule.COMMENT refl refl refl (outside_choice s.classes ((47, 47) ∷ []) ((47, 47) ∷ []) false false (outside_sub s.classes ((47, 47) ∷ []) rule.block_comment refl refl refl (outside_seq s.classes ((47, 47) ∷ []) false (outside_seq s.classes ((47, 47) ∷ []) false (outside_text s.classes)))) (outside_sub s.classes ((47, 47) ∷ []) rule.line_comment refl refl refl (outside_seq s.classes ((47, 47) ∷ []) false (outside_seq s.classes ((47, 47) ∷ []) false (outside_text s.classes))))))) refl refl refl)) (tries s 976 978 978 977 refl (enters s rule.COMMENT 191 192 at_COMMENT_atomic_apart refl refl refl refl refl) (between s) (many s 979 (op.IsOne 0 979 977) refl (λ c z. z) (tight_between s) refl (inl (tested s 0 (outside_sub s.classes ((32, 32) ∷ (9, 9) ∷ (10, 10) ∷ (13, 13) ∷ []) rule.WHITESPACE refl refl refl (outside_choice s.classes ((32, 32) ∷ (9, 9) ∷ []) ((10, 10) ∷ (13, 13) ∷ []) false false (outside_set s.classes (one_of_two s.classes (one_text s.classes 32) (one_text s.classes 9))) (outside_sub s.classes ((10, 10) ∷ (13, 13) ∷ []) rule.newline refl refl refl (outside_choice s.classes ((10, 10) ∷ []) ((13, 13) ∷ []) false false (outside_set s.classes (one_text s.classes 10)) (outside_text s.classes))))) refl refl refl)) (within s rule.WHITESPACE refl refl refl (either s 980 979 981 refl (at_once s) (one_of s 1 (one_of_two s.classes (one_text s.classes 32) (one_text s.classes 9)) refl refl refl) (tested s 2 (outside_sub s.classes ((10, 10) ∷ (13, 13) ∷ []) rule.newline refl refl refl (outside_choice s.classes ((10, 10) ∷ []) ((13, 13) ∷ []) false false (outside_set s.classes (one_text s.classes 10)) (outside_text s.classes))) refl refl refl) (within s rule.newline refl refl refl (either s 982 981 982 refl (at_once s) (word s 30 refl refl refl) (at_once s) (word s 31 refl refl refl)))))) refl)))) (calls s rule.closing_brace 79 80 at_closing_brace_plain refl refl refl refl refl)

  number_atomic : Laid s (Run AtomicMode (body_of rule.number)) 139 140 0
  unfolding whitespace comment
  number_atomic = rep_once (seq 983 983 (one_of s 40 (one_range s.classes 48 57) refl refl refl) (atomic s) (all_of s 40 (one_range s.classes 48 57) (tight_atomic s) refl refl refl))

  integer_atomic : Laid s (Run AtomicMode (body_of rule.integer)) 141 142 0
  unfolding whitespace comment
  integer_atomic = either s 984 985 984 refl (tested s 40 (outside_sub s.classes ((48, 57) ∷ []) rule.number refl refl refl (outside_some s.classes ((48, 57) ∷ []) false (outside_set s.classes (one_range s.classes 48 57)))) refl refl refl) (enters s rule.number 986 987 at_number_atomic_apart refl refl refl refl refl) (at_once s) (seq 988 988 (seq 989 989 (seq 990 990 (word s 18 refl refl refl) (atomic s) (all_of s 41 (one_text s.classes 48) (tight_atomic s) refl refl refl)) (atomic s) (one_of s 42 (one_range s.classes 49 57) refl refl refl)) (atomic s) (maybe s 991 refl (tested s 40 (outside_sub s.classes ((48, 57) ∷ []) rule.number refl refl refl (outside_some s.classes ((48, 57) ∷ []) false (outside_set s.classes (one_range s.classes 48 57)))) refl refl refl) (enters s rule.number 986 987 at_number_atomic_apart refl refl refl refl refl)))

  comma_plain : Laid s (Run NonAtomicMode (body_of rule.comma)) 143 144 0
  unfolding whitespace comment
  comma_plain = word s 19 refl refl refl

  push__plain : Laid s (Run NonAtomicMode (body_of rule._push)) 145 146 0
  unfolding whitespace comment
  push__plain = seq 992 993 (seq 994 995 (seq 996 997 (word s 20 refl refl refl) (trivia_in_place s (seq 998 998 (many s 999 (op.IsOne 0 999 998) refl (λ c z. z) (tight_between s) refl (inl (tested s 0 (outside_sub s.classes ((32, 32) ∷ (9, 9) ∷ (10, 10) ∷ (13, 13) ∷ []) rule.WHITESPACE refl refl refl (outside_choice s.classes ((32, 32) ∷ (9, 9) ∷ []) ((10, 10) ∷ (13, 13) ∷ []) false false (outside_set s.classes (one_of_two s.classes (one_text s.classes 32) (one_text s.classes 9))) (outside_sub s.classes ((10, 10) ∷ (13, 13) ∷ []) rule.newline refl refl refl (outside_choice s.classes ((10, 10) ∷ []) ((13, 13) ∷ []) false false (outside_set s.classes (one_text s.classes 10)) (outside_text s.classes))))) refl refl refl)) (within s rule.WHITESPACE refl refl refl (either s 1000 999 1001 refl (at_once s) (one_of s 1 (one_of_two s.classes (one_text s.classes 32) (one_text s.classes 9)) refl refl refl) (tested s 2 (outside_sub s.classes ((10, 10) ∷ (13, 13) ∷ []) rule.newline refl refl refl (outside_choice s.classes ((10, 10) ∷ []) ((13, 13) ∷ []) false false (outside_set s.classes (one_text s.classes 10)) (outside_text s.classes))) refl refl refl) (within s rule.newline refl refl refl (either s 1002 1001 1002 refl (at_once s) (word s 30 refl refl refl) (at_once s) (word s 31 refl refl refl)))))) (between s) (many s 1003 (op.IsOne 3 1003 997) refl (λ c z. z) (tight_between s) refl (inl (tested s 3 (outside_seq s.classes ((47, 47) ∷ (47, 47) ∷ []) false (outside_sub s.classes ((47, 47) ∷ (47, 47) ∷ []) rule.COMMENT refl refl refl (outside_choice s.classes ((47, 47) ∷ []) ((47, 47) ∷ []) false false (outside_sub s.classes ((47, 47) ∷ []) rule.block_comment refl refl refl (outside_seq s.classes ((47, 47) ∷ []) false (outside_seq s.classes ((47, 47) ∷ []) false (outside_text s.classes)))) (outside_sub s.classes ((47, 47) ∷ []) rule.line_comment refl refl refl (outside_seq s.classes ((47, 47) ∷ []) false (outside_seq s.classes ((47, 47) ∷ []) false (outside_text s.classes))))))) refl refl refl)) (tries s 1004 1006 1006 1005 refl (enters s rule.COMMENT 191 192 at_COMMENT_atomic_apart refl refl refl refl refl) (between s) (many s 1007 (op.IsOne 0 1007 1005) refl (λ c z. z) (tight_between s) refl (inl (tested s 0 (outside_sub s.classes ((32, 32) ∷ (9, 9) ∷ (10, 10) ∷ (13, 13) ∷ []) rule.WHITESPACE refl refl refl (outside_choice s.classes ((32, 32) ∷ (9, 9) ∷ []) ((10, 10) ∷ (13, 13) ∷ []) false false (outside_set s.classes (one_of_two s.classes (one_text s.classes 32) (one_text s.classes 9))) (outside_sub s.classes ((10, 10) ∷ (13, 13) ∷ []) rule.newline refl refl refl (outside_choice s.classes ((10, 10) ∷ []) ((13, 13) ∷ []) false false (outside_set s.classes (one_text s.classes 10)) (outside_text s.classes))))) refl refl refl)) (within s rule.WHITESPACE refl refl refl (either s 1008 1007 1009 refl (at_once s) (one_of s 1 (one_of_two s.classes (one_text s.classes 32) (one_text s.classes 9)) refl refl refl) (tested s 2 (outside_sub s.classes ((10, 10) ∷ (13, 13) ∷ []) rule.newline refl refl refl (outside_choice s.classes ((10, 10) ∷ []) ((13, 13) ∷ []) false false (outside_set s.classes (one_text s.classes 10)) (outside_text s.classes))) refl refl refl) (within s rule.newline refl refl refl (either s 1010 1009 1010 refl (at_once s) (word s 30 refl refl refl) (at_once s) (word s 31 refl refl refl)))))) refl)))) (calls s rule.opening_paren 81 82 at_opening_paren_plain refl refl refl refl refl)) (trivia_in_place s (seq 1011 1011 (many s 1012 (op.IsOne 0 1012 1011) refl (λ c z. z) (tight_between s) refl (inl (tested s 0 (outside_sub s.classes ((32, 32) ∷ (9, 9) ∷ (10, 10) ∷ (13, 13) ∷ []) rule.WHITESPACE refl refl refl (outside_choice s.classes ((32, 32) ∷ (9, 9) ∷ []) ((10, 10) ∷ (13, 13) ∷ []) false false (outside_set s.classes (one_of_two s.classes (one_text s.classes 32) (one_text s.classes 9))) (outside_sub s.classes ((10, 10) ∷ (13, 13) ∷ []) rule.newline refl refl refl (outside_choice s.classes ((10, 10) ∷ []) ((13, 13) ∷ []) false false (outside_set s.classes (one_text s.classes 10)) (outside_text s.classes))))) refl refl refl)) (within s rule.WHITESPACE refl refl refl (either s 1013 1012 1014 refl (at_once s) (one_of s 1 (one_of_two s.classes (one_text s.classes 32) (one_text s.classes 9)) refl refl refl) (tested s 2 (outside_sub s.classes ((10, 10) ∷ (13, 13) ∷ []) rule.newline refl refl refl (outside_choice s.classes ((10, 10) ∷ []) ((13, 13) ∷ []) false false (outside_set s.classes (one_text s.classes 10)) (outside_text s.classes))) refl refl refl) (within s rule.newline refl refl refl (either s 1015 1014 1015 refl (at_once s) (word s 30 refl refl refl) (at_once s) (word s 31 refl refl refl)))))) (between s) (many s 1016 (op.IsOne 3 1016 995) refl (λ c z. z) (tight_between s) refl (inl (tested s 3 (outside_seq s.classes ((47, 47) ∷ (47, 47) ∷ []) false (outside_sub s.classes ((47, 47) ∷ (47, 47) ∷ []) rule.COMMENT refl refl refl (outside_choice s.classes ((47, 47) ∷ []) ((47, 47) ∷ []) false false (outside_sub s.classes ((47, 47) ∷ []) rule.block_comment refl refl refl (outside_seq s.classes ((47, 47) ∷ []) false (outside_seq s.classes ((47, 47) ∷ []) false (outside_text s.classes)))) (outside_sub s.classes ((47, 47) ∷ []) rule.line_comment refl refl refl (outside_seq s.classes ((47, 47) ∷ []) false (outside_seq s.classes ((47, 47) ∷ []) false (outside_text s.classes))))))) refl refl refl)) (tries s 1017 1019 1019 1018 refl (enters s rule.COMMENT 191 192 at_COMMENT_atomic_apart refl refl refl refl refl) (between s) (many s 1020 (op.IsOne 0 1020 1018) refl (λ c z. z) (tight_between s) refl (inl (tested s 0 (outside_sub s.classes ((32, 32) ∷ (9, 9) ∷ (10, 10) ∷ (13, 13) ∷ []) rule.WHITESPACE refl refl refl (outside_choice s.classes ((32, 32) ∷ (9, 9) ∷ []) ((10, 10) ∷ (13, 13) ∷ []) false false (outside_set s.classes (one_of_two s.classes (one_text s.classes 32) (one_text s.classes 9))) (outside_sub s.classes ((10, 10) ∷ (13, 13) ∷ []) rule.newline refl refl refl (outside_choice s.classes ((10, 10) ∷ []) ((13, 13) ∷ []) false false (outside_set s.classes (one_text s.classes 10)) (outside_text s.classes))))) refl refl refl)) (within s rule.WHITESPACE refl refl refl (either s 1021 1020 1022 refl (at_once s) (one_of s 1 (one_of_two s.classes (one_text s.classes 32) (one_text s.classes 9)) refl refl refl) (tested s 2 (outside_sub s.classes ((10, 10) ∷ (13, 13) ∷ []) rule.newline refl refl refl (outside_choice s.classes ((10, 10) ∷ []) ((13, 13) ∷ []) false false (outside_set s.classes (one_text s.classes 10)) (outside_text s.classes))) refl refl refl) (within s rule.newline refl refl refl (either s 1023 1022 1023 refl (at_once s) (word s 30 refl refl refl) (at_once s) (word s 31 refl refl refl)))))) refl)))) (calls s rule.expression 103 104 at_expression_plain refl refl refl refl refl)) (trivia_in_place s (seq 1024 1024 (many s 1025 (op.IsOne 0 1025 1024) refl (λ c z. z) (tight_between s) refl (inl (tested s 0 (outside_sub s.classes ((32, 32) ∷ (9, 9) ∷ (10, 10) ∷ (13, 13) ∷ []) rule.WHITESPACE refl refl refl (outside_choice s.classes ((32, 32) ∷ (9, 9) ∷ []) ((10, 10) ∷ (13, 13) ∷ []) false false (outside_set s.classes (one_of_two s.classes (one_text s.classes 32) (one_text s.classes 9))) (outside_sub s.classes ((10, 10) ∷ (13, 13) ∷ []) rule.newline refl refl refl (outside_choice s.classes ((10, 10) ∷ []) ((13, 13) ∷ []) false false (outside_set s.classes (one_text s.classes 10)) (outside_text s.classes))))) refl refl refl)) (within s rule.WHITESPACE refl refl refl (either s 1026 1025 1027 refl (at_once s) (one_of s 1 (one_of_two s.classes (one_text s.classes 32) (one_text s.classes 9)) refl refl refl) (tested s 2 (outside_sub s.classes ((10, 10) ∷ (13, 13) ∷ []) rule.newline refl refl refl (outside_choice s.classes ((10, 10) ∷ []) ((13, 13) ∷ []) false false (outside_set s.classes (one_text s.classes 10)) (outside_text s.classes))) refl refl refl) (within s rule.newline refl refl refl (either s 1028 1027 1028 refl (at_once s) (word s 30 refl refl refl) (at_once s) (word s 31 refl refl refl)))))) (between s) (many s 1029 (op.IsOne 3 1029 993) refl (λ c z. z) (tight_between s) refl (inl (tested s 3 (outside_seq s.classes ((47, 47) ∷ (47, 47) ∷ []) false (outside_sub s.classes ((47, 47) ∷ (47, 47) ∷ []) rule.COMMENT refl refl refl (outside_choice s.classes ((47, 47) ∷ []) ((47, 47) ∷ []) false false (outside_sub s.classes ((47, 47) ∷ []) rule.block_comment refl refl refl (outside_seq s.classes ((47, 47) ∷ []) false (outside_seq s.classes ((47, 47) ∷ []) false (outside_text s.classes)))) (outside_sub s.classes ((47, 47) ∷ []) rule.line_comment refl refl refl (outside_seq s.classes ((47, 47) ∷ []) false (outside_seq s.classes ((47, 47) ∷ []) false (outside_text s.classes))))))) refl refl refl)) (tries s 1030 1032 1032 1031 refl (enters s rule.COMMENT 191 192 at_COMMENT_atomic_apart refl refl refl refl refl) (between s) (many s 1033 (op.IsOne 0 1033 1031) refl (λ c z. z) (tight_between s) refl (inl (tested s 0 (outside_sub s.classes ((32, 32) ∷ (9, 9) ∷ (10, 10) ∷ (13, 13) ∷ []) rule.WHITESPACE refl refl refl (outside_choice s.classes ((32, 32) ∷ (9, 9) ∷ []) ((10, 10) ∷ (13, 13) ∷ []) false false (outside_set s.classes (one_of_two s.classes (one_text s.classes 32) (one_text s.classes 9))) (outside_sub s.classes ((10, 10) ∷ (13, 13) ∷ []) rule.newline refl refl refl (outside_choice s.classes ((10, 10) ∷ []) ((13, 13) ∷ []) false false (outside_set s.classes (one_text s.classes 10)) (outside_text s.classes))))) refl refl refl)) (within s rule.WHITESPACE refl refl refl (either s 1034 1033 1035 refl (at_once s) (one_of s 1 (one_of_two s.classes (one_text s.classes 32) (one_text s.classes 9)) refl refl refl) (tested s 2 (outside_sub s.classes ((10, 10) ∷ (13, 13) ∷ []) rule.newline refl refl refl (outside_choice s.classes ((10, 10) ∷ []) ((13, 13) ∷ []) false false (outside_set s.classes (one_text s.classes 10)) (outside_text s.classes))) refl refl refl) (within s rule.newline refl refl refl (either s 1036 1035 1036 refl (at_once s) (word s 30 refl refl refl) (at_once s) (word s 31 refl refl refl)))))) refl)))) (calls s rule.closing_paren 83 84 at_closing_paren_plain refl refl refl refl refl)

  push_literal__plain : Laid s (Run NonAtomicMode (body_of rule._push_literal)) 147 148 0
  unfolding whitespace comment
  push_literal__plain = seq 1037 1038 (seq 1039 1040 (seq 1041 1042 (word s 21 refl refl refl) (trivia_in_place s (seq 1043 1043 (many s 1044 (op.IsOne 0 1044 1043) refl (λ c z. z) (tight_between s) refl (inl (tested s 0 (outside_sub s.classes ((32, 32) ∷ (9, 9) ∷ (10, 10) ∷ (13, 13) ∷ []) rule.WHITESPACE refl refl refl (outside_choice s.classes ((32, 32) ∷ (9, 9) ∷ []) ((10, 10) ∷ (13, 13) ∷ []) false false (outside_set s.classes (one_of_two s.classes (one_text s.classes 32) (one_text s.classes 9))) (outside_sub s.classes ((10, 10) ∷ (13, 13) ∷ []) rule.newline refl refl refl (outside_choice s.classes ((10, 10) ∷ []) ((13, 13) ∷ []) false false (outside_set s.classes (one_text s.classes 10)) (outside_text s.classes))))) refl refl refl)) (within s rule.WHITESPACE refl refl refl (either s 1045 1044 1046 refl (at_once s) (one_of s 1 (one_of_two s.classes (one_text s.classes 32) (one_text s.classes 9)) refl refl refl) (tested s 2 (outside_sub s.classes ((10, 10) ∷ (13, 13) ∷ []) rule.newline refl refl refl (outside_choice s.classes ((10, 10) ∷ []) ((13, 13) ∷ []) false false (outside_set s.classes (one_text s.classes 10)) (outside_text s.classes))) refl refl refl) (within s rule.newline refl refl refl (either s 1047 1046 1047 refl (at_once s) (word s 30 refl refl refl) (at_once s) (word s 31 refl refl refl)))))) (between s) (many s 1048 (op.IsOne 3 1048 1042) refl (λ c z. z) (tight_between s) refl (inl (tested s 3 (outside_seq s.classes ((47, 47) ∷ (47, 47) ∷ []) false (outside_sub s.classes ((47, 47) ∷ (47, 47) ∷ []) rule.COMMENT refl refl refl (outside_choice s.classes ((47, 47) ∷ []) ((47, 47) ∷ []) false false (outside_sub s.classes ((47, 47) ∷ []) rule.block_comment refl refl refl (outside_seq s.classes ((47, 47) ∷ []) false (outside_seq s.classes ((47, 47) ∷ []) false (outside_text s.classes)))) (outside_sub s.classes ((47, 47) ∷ []) rule.line_comment refl refl refl (outside_seq s.classes ((47, 47) ∷ []) false (outside_seq s.classes ((47, 47) ∷ []) false (outside_text s.classes))))))) refl refl refl)) (tries s 1049 1051 1051 1050 refl (enters s rule.COMMENT 191 192 at_COMMENT_atomic_apart refl refl refl refl refl) (between s) (many s 1052 (op.IsOne 0 1052 1050) refl (λ c z. z) (tight_between s) refl (inl (tested s 0 (outside_sub s.classes ((32, 32) ∷ (9, 9) ∷ (10, 10) ∷ (13, 13) ∷ []) rule.WHITESPACE refl refl refl (outside_choice s.classes ((32, 32) ∷ (9, 9) ∷ []) ((10, 10) ∷ (13, 13) ∷ []) false false (outside_set s.classes (one_of_two s.classes (one_text s.classes 32) (one_text s.classes 9))) (outside_sub s.classes ((10, 10) ∷ (13, 13) ∷ []) rule.newline refl refl refl (outside_choice s.classes ((10, 10) ∷ []) ((13, 13) ∷ []) false false (outside_set s.classes (one_text s.classes 10)) (outside_text s.classes))))) refl refl refl)) (within s rule.WHITESPACE refl refl refl (either s 1053 1052 1054 refl (at_once s) (one_of s 1 (one_of_two s.classes (one_text s.classes 32) (one_text s.classes 9)) refl refl refl) (tested s 2 (outside_sub s.classes ((10, 10) ∷ (13, 13) ∷ []) rule.newline refl refl refl (outside_choice s.classes ((10, 10) ∷ []) ((13, 13) ∷ []) false false (outside_set s.classes (one_text s.classes 10)) (outside_text s.classes))) refl refl refl) (within s rule.newline refl refl refl (either s 1055 1054 1055 refl (at_once s) (word s 30 refl refl refl) (at_once s) (word s 31 refl refl refl)))))) refl)))) (calls s rule.opening_paren 81 82 at_opening_paren_plain refl refl refl refl refl)) (trivia_in_place s (seq 1056 1056 (many s 1057 (op.IsOne 0 1057 1056) refl (λ c z. z) (tight_between s) refl (inl (tested s 0 (outside_sub s.classes ((32, 32) ∷ (9, 9) ∷ (10, 10) ∷ (13, 13) ∷ []) rule.WHITESPACE refl refl refl (outside_choice s.classes ((32, 32) ∷ (9, 9) ∷ []) ((10, 10) ∷ (13, 13) ∷ []) false false (outside_set s.classes (one_of_two s.classes (one_text s.classes 32) (one_text s.classes 9))) (outside_sub s.classes ((10, 10) ∷ (13, 13) ∷ []) rule.newline refl refl refl (outside_choice s.classes ((10, 10) ∷ []) ((13, 13) ∷ []) false false (outside_set s.classes (one_text s.classes 10)) (outside_text s.classes))))) refl refl refl)) (within s rule.WHITESPACE refl refl refl (either s 1058 1057 1059 refl (at_once s) (one_of s 1 (one_of_two s.classes (one_text s.classes 32) (one_text s.classes 9)) refl refl refl) (tested s 2 (outside_sub s.classes ((10, 10) ∷ (13, 13) ∷ []) rule.newline refl refl refl (outside_choice s.classes ((10, 10) ∷ []) ((13, 13) ∷ []) false false (outside_set s.classes (one_text s.classes 10)) (outside_text s.classes))) refl refl refl) (within s rule.newline refl refl refl (either s 1060 1059 1060 refl (at_once s) (word s 30 refl refl refl) (at_once s) (word s 31 refl refl refl)))))) (between s) (many s 1061 (op.IsOne 3 1061 1040) refl (λ c z. z) (tight_between s) refl (inl (tested s 3 (outside_seq s.classes ((47, 47) ∷ (47, 47) ∷ []) false (outside_sub s.classes ((47, 47) ∷ (47, 47) ∷ []) rule.COMMENT refl refl refl (outside_choice s.classes ((47, 47) ∷ []) ((47, 47) ∷ []) false false (outside_sub s.classes ((47, 47) ∷ []) rule.block_comment refl refl refl (outside_seq s.classes ((47, 47) ∷ []) false (outside_seq s.classes ((47, 47) ∷ []) false (outside_text s.classes)))) (outside_sub s.classes ((47, 47) ∷ []) rule.line_comment refl refl refl (outside_seq s.classes ((47, 47) ∷ []) false (outside_seq s.classes ((47, 47) ∷ []) false (outside_text s.classes))))))) refl refl refl)) (tries s 1062 1064 1064 1063 refl (enters s rule.COMMENT 191 192 at_COMMENT_atomic_apart refl refl refl refl refl) (between s) (many s 1065 (op.IsOne 0 1065 1063) refl (λ c z. z) (tight_between s) refl (inl (tested s 0 (outside_sub s.classes ((32, 32) ∷ (9, 9) ∷ (10, 10) ∷ (13, 13) ∷ []) rule.WHITESPACE refl refl refl (outside_choice s.classes ((32, 32) ∷ (9, 9) ∷ []) ((10, 10) ∷ (13, 13) ∷ []) false false (outside_set s.classes (one_of_two s.classes (one_text s.classes 32) (one_text s.classes 9))) (outside_sub s.classes ((10, 10) ∷ (13, 13) ∷ []) rule.newline refl refl refl (outside_choice s.classes ((10, 10) ∷ []) ((13, 13) ∷ []) false false (outside_set s.classes (one_text s.classes 10)) (outside_text s.classes))))) refl refl refl)) (within s rule.WHITESPACE refl refl refl (either s 1066 1065 1067 refl (at_once s) (one_of s 1 (one_of_two s.classes (one_text s.classes 32) (one_text s.classes 9)) refl refl refl) (tested s 2 (outside_sub s.classes ((10, 10) ∷ (13, 13) ∷ []) rule.newline refl refl refl (outside_choice s.classes ((10, 10) ∷ []) ((13, 13) ∷ []) false false (outside_set s.classes (one_text s.classes 10)) (outside_text s.classes))) refl refl refl) (within s rule.newline refl refl refl (either s 1068 1067 1068 refl (at_once s) (word s 30 refl refl refl) (at_once s) (word s 31 refl refl refl)))))) refl)))) (calls s rule.string 157 158 at_string_compound refl refl refl refl refl)) (trivia_in_place s (seq 1069 1069 (many s 1070 (op.IsOne 0 1070 1069) refl (λ c z. z) (tight_between s) refl (inl (tested s 0 (outside_sub s.classes ((32, 32) ∷ (9, 9) ∷ (10, 10) ∷ (13, 13) ∷ []) rule.WHITESPACE refl refl refl (outside_choice s.classes ((32, 32) ∷ (9, 9) ∷ []) ((10, 10) ∷ (13, 13) ∷ []) false false (outside_set s.classes (one_of_two s.classes (one_text s.classes 32) (one_text s.classes 9))) (outside_sub s.classes ((10, 10) ∷ (13, 13) ∷ []) rule.newline refl refl refl (outside_choice s.classes ((10, 10) ∷ []) ((13, 13) ∷ []) false false (outside_set s.classes (one_text s.classes 10)) (outside_text s.classes))))) refl refl refl)) (within s rule.WHITESPACE refl refl refl (either s 1071 1070 1072 refl (at_once s) (one_of s 1 (one_of_two s.classes (one_text s.classes 32) (one_text s.classes 9)) refl refl refl) (tested s 2 (outside_sub s.classes ((10, 10) ∷ (13, 13) ∷ []) rule.newline refl refl refl (outside_choice s.classes ((10, 10) ∷ []) ((13, 13) ∷ []) false false (outside_set s.classes (one_text s.classes 10)) (outside_text s.classes))) refl refl refl) (within s rule.newline refl refl refl (either s 1073 1072 1073 refl (at_once s) (word s 30 refl refl refl) (at_once s) (word s 31 refl refl refl)))))) (between s) (many s 1074 (op.IsOne 3 1074 1038) refl (λ c z. z) (tight_between s) refl (inl (tested s 3 (outside_seq s.classes ((47, 47) ∷ (47, 47) ∷ []) false (outside_sub s.classes ((47, 47) ∷ (47, 47) ∷ []) rule.COMMENT refl refl refl (outside_choice s.classes ((47, 47) ∷ []) ((47, 47) ∷ []) false false (outside_sub s.classes ((47, 47) ∷ []) rule.block_comment refl refl refl (outside_seq s.classes ((47, 47) ∷ []) false (outside_seq s.classes ((47, 47) ∷ []) false (outside_text s.classes)))) (outside_sub s.classes ((47, 47) ∷ []) rule.line_comment refl refl refl (outside_seq s.classes ((47, 47) ∷ []) false (outside_seq s.classes ((47, 47) ∷ []) false (outside_text s.classes))))))) refl refl refl)) (tries s 1075 1077 1077 1076 refl (enters s rule.COMMENT 191 192 at_COMMENT_atomic_apart refl refl refl refl refl) (between s) (many s 1078 (op.IsOne 0 1078 1076) refl (λ c z. z) (tight_between s) refl (inl (tested s 0 (outside_sub s.classes ((32, 32) ∷ (9, 9) ∷ (10, 10) ∷ (13, 13) ∷ []) rule.WHITESPACE refl refl refl (outside_choice s.classes ((32, 32) ∷ (9, 9) ∷ []) ((10, 10) ∷ (13, 13) ∷ []) false false (outside_set s.classes (one_of_two s.classes (one_text s.classes 32) (one_text s.classes 9))) (outside_sub s.classes ((10, 10) ∷ (13, 13) ∷ []) rule.newline refl refl refl (outside_choice s.classes ((10, 10) ∷ []) ((13, 13) ∷ []) false false (outside_set s.classes (one_text s.classes 10)) (outside_text s.classes))))) refl refl refl)) (within s rule.WHITESPACE refl refl refl (either s 1079 1078 1080 refl (at_once s) (one_of s 1 (one_of_two s.classes (one_text s.classes 32) (one_text s.classes 9)) refl refl refl) (tested s 2 (outside_sub s.classes ((10, 10) ∷ (13, 13) ∷ []) rule.newline refl refl refl (outside_choice s.classes ((10, 10) ∷ []) ((13, 13) ∷ []) false false (outside_set s.classes (one_text s.classes 10)) (outside_text s.classes))) refl refl refl) (within s rule.newline refl refl refl (either s 1081 1080 1081 refl (at_once s) (word s 30 refl refl refl) (at_once s) (word s 31 refl refl refl)))))) refl)))) (calls s rule.closing_paren 83 84 at_closing_paren_plain refl refl refl refl refl)

  peek_slice_plain : Laid s (Run NonAtomicMode (body_of rule.peek_slice)) 149 150 0
  unfolding whitespace comment
  peek_slice_plain = seq 1082 1083 (seq 1084 1085 (seq 1086 1087 (seq 1088 1089 (seq 1090 1091 (word s 22 refl refl refl) (trivia_in_place s (seq 1092 1092 (many s 1093 (op.IsOne 0 1093 1092) refl (λ c z. z) (tight_between s) refl (inl (tested s 0 (outside_sub s.classes ((32, 32) ∷ (9, 9) ∷ (10, 10) ∷ (13, 13) ∷ []) rule.WHITESPACE refl refl refl (outside_choice s.classes ((32, 32) ∷ (9, 9) ∷ []) ((10, 10) ∷ (13, 13) ∷ []) false false (outside_set s.classes (one_of_two s.classes (one_text s.classes 32) (one_text s.classes 9))) (outside_sub s.classes ((10, 10) ∷ (13, 13) ∷ []) rule.newline refl refl refl (outside_choice s.classes ((10, 10) ∷ []) ((13, 13) ∷ []) false false (outside_set s.classes (one_text s.classes 10)) (outside_text s.classes))))) refl refl refl)) (within s rule.WHITESPACE refl refl refl (either s 1094 1093 1095 refl (at_once s) (one_of s 1 (one_of_two s.classes (one_text s.classes 32) (one_text s.classes 9)) refl refl refl) (tested s 2 (outside_sub s.classes ((10, 10) ∷ (13, 13) ∷ []) rule.newline refl refl refl (outside_choice s.classes ((10, 10) ∷ []) ((13, 13) ∷ []) false false (outside_set s.classes (one_text s.classes 10)) (outside_text s.classes))) refl refl refl) (within s rule.newline refl refl refl (either s 1096 1095 1096 refl (at_once s) (word s 30 refl refl refl) (at_once s) (word s 31 refl refl refl)))))) (between s) (many s 1097 (op.IsOne 3 1097 1091) refl (λ c z. z) (tight_between s) refl (inl (tested s 3 (outside_seq s.classes ((47, 47) ∷ (47, 47) ∷ []) false (outside_sub s.classes ((47, 47) ∷ (47, 47) ∷ []) rule.COMMENT refl refl refl (outside_choice s.classes ((47, 47) ∷ []) ((47, 47) ∷ []) false false (outside_sub s.classes ((47, 47) ∷ []) rule.block_comment refl refl refl (outside_seq s.classes ((47, 47) ∷ []) false (outside_seq s.classes ((47, 47) ∷ []) false (outside_text s.classes)))) (outside_sub s.classes ((47, 47) ∷ []) rule.line_comment refl refl refl (outside_seq s.classes ((47, 47) ∷ []) false (outside_seq s.classes ((47, 47) ∷ []) false (outside_text s.classes))))))) refl refl refl)) (tries s 1098 1100 1100 1099 refl (enters s rule.COMMENT 191 192 at_COMMENT_atomic_apart refl refl refl refl refl) (between s) (many s 1101 (op.IsOne 0 1101 1099) refl (λ c z. z) (tight_between s) refl (inl (tested s 0 (outside_sub s.classes ((32, 32) ∷ (9, 9) ∷ (10, 10) ∷ (13, 13) ∷ []) rule.WHITESPACE refl refl refl (outside_choice s.classes ((32, 32) ∷ (9, 9) ∷ []) ((10, 10) ∷ (13, 13) ∷ []) false false (outside_set s.classes (one_of_two s.classes (one_text s.classes 32) (one_text s.classes 9))) (outside_sub s.classes ((10, 10) ∷ (13, 13) ∷ []) rule.newline refl refl refl (outside_choice s.classes ((10, 10) ∷ []) ((13, 13) ∷ []) false false (outside_set s.classes (one_text s.classes 10)) (outside_text s.classes))))) refl refl refl)) (within s rule.WHITESPACE refl refl refl (either s 1102 1101 1103 refl (at_once s) (one_of s 1 (one_of_two s.classes (one_text s.classes 32) (one_text s.classes 9)) refl refl refl) (tested s 2 (outside_sub s.classes ((10, 10) ∷ (13, 13) ∷ []) rule.newline refl refl refl (outside_choice s.classes ((10, 10) ∷ []) ((13, 13) ∷ []) false false (outside_set s.classes (one_text s.classes 10)) (outside_text s.classes))) refl refl refl) (within s rule.newline refl refl refl (either s 1104 1103 1104 refl (at_once s) (word s 30 refl refl refl) (at_once s) (word s 31 refl refl refl)))))) refl)))) (calls s rule.opening_brack 85 86 at_opening_brack_plain refl refl refl refl refl)) (trivia_in_place s (seq 1105 1105 (many s 1106 (op.IsOne 0 1106 1105) refl (λ c z. z) (tight_between s) refl (inl (tested s 0 (outside_sub s.classes ((32, 32) ∷ (9, 9) ∷ (10, 10) ∷ (13, 13) ∷ []) rule.WHITESPACE refl refl refl (outside_choice s.classes ((32, 32) ∷ (9, 9) ∷ []) ((10, 10) ∷ (13, 13) ∷ []) false false (outside_set s.classes (one_of_two s.classes (one_text s.classes 32) (one_text s.classes 9))) (outside_sub s.classes ((10, 10) ∷ (13, 13) ∷ []) rule.newline refl refl refl (outside_choice s.classes ((10, 10) ∷ []) ((13, 13) ∷ []) false false (outside_set s.classes (one_text s.classes 10)) (outside_text s.classes))))) refl refl refl)) (within s rule.WHITESPACE refl refl refl (either s 1107 1106 1108 refl (at_once s) (one_of s 1 (one_of_two s.classes (one_text s.classes 32) (one_text s.classes 9)) refl refl refl) (tested s 2 (outside_sub s.classes ((10, 10) ∷ (13, 13) ∷ []) rule.newline refl refl refl (outside_choice s.classes ((10, 10) ∷ []) ((13, 13) ∷ []) false false (outside_set s.classes (one_text s.classes 10)) (outside_text s.classes))) refl refl refl) (within s rule.newline refl refl refl (either s 1109 1108 1109 refl (at_once s) (word s 30 refl refl refl) (at_once s) (word s 31 refl refl refl)))))) (between s) (many s 1110 (op.IsOne 3 1110 1089) refl (λ c z. z) (tight_between s) refl (inl (tested s 3 (outside_seq s.classes ((47, 47) ∷ (47, 47) ∷ []) false (outside_sub s.classes ((47, 47) ∷ (47, 47) ∷ []) rule.COMMENT refl refl refl (outside_choice s.classes ((47, 47) ∷ []) ((47, 47) ∷ []) false false (outside_sub s.classes ((47, 47) ∷ []) rule.block_comment refl refl refl (outside_seq s.classes ((47, 47) ∷ []) false (outside_seq s.classes ((47, 47) ∷ []) false (outside_text s.classes)))) (outside_sub s.classes ((47, 47) ∷ []) rule.line_comment refl refl refl (outside_seq s.classes ((47, 47) ∷ []) false (outside_seq s.classes ((47, 47) ∷ []) false (outside_text s.classes))))))) refl refl refl)) (tries s 1111 1113 1113 1112 refl (enters s rule.COMMENT 191 192 at_COMMENT_atomic_apart refl refl refl refl refl) (between s) (many s 1114 (op.IsOne 0 1114 1112) refl (λ c z. z) (tight_between s) refl (inl (tested s 0 (outside_sub s.classes ((32, 32) ∷ (9, 9) ∷ (10, 10) ∷ (13, 13) ∷ []) rule.WHITESPACE refl refl refl (outside_choice s.classes ((32, 32) ∷ (9, 9) ∷ []) ((10, 10) ∷ (13, 13) ∷ []) false false (outside_set s.classes (one_of_two s.classes (one_text s.classes 32) (one_text s.classes 9))) (outside_sub s.classes ((10, 10) ∷ (13, 13) ∷ []) rule.newline refl refl refl (outside_choice s.classes ((10, 10) ∷ []) ((13, 13) ∷ []) false false (outside_set s.classes (one_text s.classes 10)) (outside_text s.classes))))) refl refl refl)) (within s rule.WHITESPACE refl refl refl (either s 1115 1114 1116 refl (at_once s) (one_of s 1 (one_of_two s.classes (one_text s.classes 32) (one_text s.classes 9)) refl refl refl) (tested s 2 (outside_sub s.classes ((10, 10) ∷ (13, 13) ∷ []) rule.newline refl refl refl (outside_choice s.classes ((10, 10) ∷ []) ((13, 13) ∷ []) false false (outside_set s.classes (one_text s.classes 10)) (outside_text s.classes))) refl refl refl) (within s rule.newline refl refl refl (either s 1117 1116 1117 refl (at_once s) (word s 30 refl refl refl) (at_once s) (word s 31 refl refl refl)))))) refl)))) (maybe s 1118 refl (noted s 43 1119 refl (outside_call s.classes ((48, 57) ∷ (45, 45) ∷ []) false rule.integer refl refl refl (outside_choice s.classes ((48, 57) ∷ []) ((45, 45) ∷ []) false false (outside_sub s.classes ((48, 57) ∷ []) rule.number refl refl refl (outside_some s.classes ((48, 57) ∷ []) false (outside_set s.classes (one_range s.classes 48 57)))) (outside_seq s.classes ((45, 45) ∷ []) false (outside_seq s.classes ((45, 45) ∷ []) false (outside_seq s.classes ((45, 45) ∷ []) false (outside_set s.classes (one_text s.classes 45))))))) refl refl refl refl) (calls s rule.integer 141 142 at_integer_atomic refl refl refl refl refl))) (trivia_in_place s (seq 1120 1120 (many s 1121 (op.IsOne 0 1121 1120) refl (λ c z. z) (tight_between s) refl (inl (tested s 0 (outside_sub s.classes ((32, 32) ∷ (9, 9) ∷ (10, 10) ∷ (13, 13) ∷ []) rule.WHITESPACE refl refl refl (outside_choice s.classes ((32, 32) ∷ (9, 9) ∷ []) ((10, 10) ∷ (13, 13) ∷ []) false false (outside_set s.classes (one_of_two s.classes (one_text s.classes 32) (one_text s.classes 9))) (outside_sub s.classes ((10, 10) ∷ (13, 13) ∷ []) rule.newline refl refl refl (outside_choice s.classes ((10, 10) ∷ []) ((13, 13) ∷ []) false false (outside_set s.classes (one_text s.classes 10)) (outside_text s.classes))))) refl refl refl)) (within s rule.WHITESPACE refl refl refl (either s 1122 1121 1123 refl (at_once s) (one_of s 1 (one_of_two s.classes (one_text s.classes 32) (one_text s.classes 9)) refl refl refl) (tested s 2 (outside_sub s.classes ((10, 10) ∷ (13, 13) ∷ []) rule.newline refl refl refl (outside_choice s.classes ((10, 10) ∷ []) ((13, 13) ∷ []) false false (outside_set s.classes (one_text s.classes 10)) (outside_text s.classes))) refl refl refl) (within s rule.newline refl refl refl (either s 1124 1123 1124 refl (at_once s) (word s 30 refl refl refl) (at_once s) (word s 31 refl refl refl)))))) (between s) (many s 1125 (op.IsOne 3 1125 1087) refl (λ c z. z) (tight_between s) refl (inl (tested s 3 (outside_seq s.classes ((47, 47) ∷ (47, 47) ∷ []) false (outside_sub s.classes ((47, 47) ∷ (47, 47) ∷ []) rule.COMMENT refl refl refl (outside_choice s.classes ((47, 47) ∷ []) ((47, 47) ∷ []) false false (outside_sub s.classes ((47, 47) ∷ []) rule.block_comment refl refl refl (outside_seq s.classes ((47, 47) ∷ []) false (outside_seq s.classes ((47, 47) ∷ []) false (outside_text s.classes)))) (outside_sub s.classes ((47, 47) ∷ []) rule.line_comment refl refl refl (outside_seq s.classes ((47, 47) ∷ []) false (outside_seq s.classes ((47, 47) ∷ []) false (outside_text s.classes))))))) refl refl refl)) (tries s 1126 1128 1128 1127 refl (enters s rule.COMMENT 191 192 at_COMMENT_atomic_apart refl refl refl refl refl) (between s) (many s 1129 (op.IsOne 0 1129 1127) refl (λ c z. z) (tight_between s) refl (inl (tested s 0 (outside_sub s.classes ((32, 32) ∷ (9, 9) ∷ (10, 10) ∷ (13, 13) ∷ []) rule.WHITESPACE refl refl refl (outside_choice s.classes ((32, 32) ∷ (9, 9) ∷ []) ((10, 10) ∷ (13, 13) ∷ []) false false (outside_set s.classes (one_of_two s.classes (one_text s.classes 32) (one_text s.classes 9))) (outside_sub s.classes ((10, 10) ∷ (13, 13) ∷ []) rule.newline refl refl refl (outside_choice s.classes ((10, 10) ∷ []) ((13, 13) ∷ []) false false (outside_set s.classes (one_text s.classes 10)) (outside_text s.classes))))) refl refl refl)) (within s rule.WHITESPACE refl refl refl (either s 1130 1129 1131 refl (at_once s) (one_of s 1 (one_of_two s.classes (one_text s.classes 32) (one_text s.classes 9)) refl refl refl) (tested s 2 (outside_sub s.classes ((10, 10) ∷ (13, 13) ∷ []) rule.newline refl refl refl (outside_choice s.classes ((10, 10) ∷ []) ((13, 13) ∷ []) false false (outside_set s.classes (one_text s.classes 10)) (outside_text s.classes))) refl refl refl) (within s rule.newline refl refl refl (either s 1132 1131 1132 refl (at_once s) (word s 30 refl refl refl) (at_once s) (word s 31 refl refl refl)))))) refl)))) (calls s rule.range_operator 181 182 at_range_operator_plain refl refl refl refl refl)) (trivia_in_place s (seq 1133 1133 (many s 1134 (op.IsOne 0 1134 1133) refl (λ c z. z) (tight_between s) refl (inl (tested s 0 (outside_sub s.classes ((32, 32) ∷ (9, 9) ∷ (10, 10) ∷ (13, 13) ∷ []) rule.WHITESPACE refl refl refl (outside_choice s.classes ((32, 32) ∷ (9, 9) ∷ []) ((10, 10) ∷ (13, 13) ∷ []) false false (outside_set s.classes (one_of_two s.classes (one_text s.classes 32) (one_text s.classes 9))) (outside_sub s.classes ((10, 10) ∷ (13, 13) ∷ []) rule.newline refl refl refl (outside_choice s.classes ((10, 10) ∷ []) ((13, 13) ∷ []) false false (outside_set s.classes (one_text s.classes 10)) (outside_text s.classes))))) refl refl refl)) (within s rule.WHITESPACE refl refl refl (either s 1135 1134 1136 refl (at_once s) (one_of s 1 (one_of_two s.classes (one_text s.classes 32) (one_text s.classes 9)) refl refl refl) (tested s 2 (outside_sub s.classes ((10, 10) ∷ (13, 13) ∷ []) rule.newline refl refl refl (outside_choice s.classes ((10, 10) ∷ []) ((13, 13) ∷ []) false false (outside_set s.classes (one_text s.classes 10)) (outside_text s.classes))) refl refl refl) (within s rule.newline refl refl refl (either s 1137 1136 1137 refl (at_once s) (word s 30 refl refl refl) (at_once s) (word s 31 refl refl refl)))))) (between s) (many s 1138 (op.IsOne 3 1138 1085) refl (λ c z. z) (tight_between s) refl (inl (tested s 3 (outside_seq s.classes ((47, 47) ∷ (47, 47) ∷ []) false (outside_sub s.classes ((47, 47) ∷ (47, 47) ∷ []) rule.COMMENT refl refl refl (outside_choice s.classes ((47, 47) ∷ []) ((47, 47) ∷ []) false false (outside_sub s.classes ((47, 47) ∷ []) rule.block_comment refl refl refl (outside_seq s.classes ((47, 47) ∷ []) false (outside_seq s.classes ((47, 47) ∷ []) false (outside_text s.classes)))) (outside_sub s.classes ((47, 47) ∷ []) rule.line_comment refl refl refl (outside_seq s.classes ((47, 47) ∷ []) false (outside_seq s.classes ((47, 47) ∷ []) false (outside_text s.classes))))))) refl refl refl)) (tries s 1139 1141 1141 1140 refl (enters s rule.COMMENT 191 192 at_COMMENT_atomic_apart refl refl refl refl refl) (between s) (many s 1142 (op.IsOne 0 1142 1140) refl (λ c z. z) (tight_between s) refl (inl (tested s 0 (outside_sub s.classes ((32, 32) ∷ (9, 9) ∷ (10, 10) ∷ (13, 13) ∷ []) rule.WHITESPACE refl refl refl (outside_choice s.classes ((32, 32) ∷ (9, 9) ∷ []) ((10, 10) ∷ (13, 13) ∷ []) false false (outside_set s.classes (one_of_two s.classes (one_text s.classes 32) (one_text s.classes 9))) (outside_sub s.classes ((10, 10) ∷ (13, 13) ∷ []) rule.newline refl refl refl (outside_choice s.classes ((10, 10) ∷ []) ((13, 13) ∷ []) false false (outside_set s.classes (one_text s.classes 10)) (outside_text s.classes))))) refl refl refl)) (within s rule.WHITESPACE refl refl refl (either s 1143 1142 1144 refl (at_once s) (one_of s 1 (one_of_two s.classes (one_text s.classes 32) (one_text s.classes 9)) refl refl refl) (tested s 2 (outside_sub s.classes ((10, 10) ∷ (13, 13) ∷ []) rule.newline refl refl refl (outside_choice s.classes ((10, 10) ∷ []) ((13, 13) ∷ []) false false (outside_set s.classes (one_text s.classes 10)) (outside_text s.classes))) refl refl refl) (within s rule.newline refl refl refl (either s 1145 1144 1145 refl (at_once s) (word s 30 refl refl refl) (at_once s) (word s 31 refl refl refl)))))) refl)))) (maybe s 1146 refl (noted s 43 1147 refl (outside_call s.classes ((48, 57) ∷ (45, 45) ∷ []) false rule.integer refl refl refl (outside_choice s.classes ((48, 57) ∷ []) ((45, 45) ∷ []) false false (outside_sub s.classes ((48, 57) ∷ []) rule.number refl refl refl (outside_some s.classes ((48, 57) ∷ []) false (outside_set s.classes (one_range s.classes 48 57)))) (outside_seq s.classes ((45, 45) ∷ []) false (outside_seq s.classes ((45, 45) ∷ []) false (outside_seq s.classes ((45, 45) ∷ []) false (outside_set s.classes (one_text s.classes 45))))))) refl refl refl refl) (calls s rule.integer 141 142 at_integer_atomic refl refl refl refl refl))) (trivia_in_place s (seq 1148 1148 (many s 1149 (op.IsOne 0 1149 1148) refl (λ c z. z) (tight_between s) refl (inl (tested s 0 (outside_sub s.classes ((32, 32) ∷ (9, 9) ∷ (10, 10) ∷ (13, 13) ∷ []) rule.WHITESPACE refl refl refl (outside_choice s.classes ((32, 32) ∷ (9, 9) ∷ []) ((10, 10) ∷ (13, 13) ∷ []) false false (outside_set s.classes (one_of_two s.classes (one_text s.classes 32) (one_text s.classes 9))) (outside_sub s.classes ((10, 10) ∷ (13, 13) ∷ []) rule.newline refl refl refl (outside_choice s.classes ((10, 10) ∷ []) ((13, 13) ∷ []) false false (outside_set s.classes (one_text s.classes 10)) (outside_text s.classes))))) refl refl refl)) (within s rule.WHITESPACE refl refl refl (either s 1150 1149 1151 refl (at_once s) (one_of s 1 (one_of_two s.classes (one_text s.classes 32) (one_text s.classes 9)) refl refl refl) (tested s 2 (outside_sub s.classes ((10, 10) ∷ (13, 13) ∷ []) rule.newline refl refl refl (outside_choice s.classes ((10, 10) ∷ []) ((13, 13) ∷ []) false false (outside_set s.classes (one_text s.classes 10)) (outside_text s.classes))) refl refl refl) (within s rule.newline refl refl refl (either s 1152 1151 1152 refl (at_once s) (word s 30 refl refl refl) (at_once s) (word s 31 refl refl refl)))))) (between s) (many s 1153 (op.IsOne 3 1153 1083) refl (λ c z. z) (tight_between s) refl (inl (tested s 3 (outside_seq s.classes ((47, 47) ∷ (47, 47) ∷ []) false (outside_sub s.classes ((47, 47) ∷ (47, 47) ∷ []) rule.COMMENT refl refl refl (outside_choice s.classes ((47, 47) ∷ []) ((47, 47) ∷ []) false false (outside_sub s.classes ((47, 47) ∷ []) rule.block_comment refl refl refl (outside_seq s.classes ((47, 47) ∷ []) false (outside_seq s.classes ((47, 47) ∷ []) false (outside_text s.classes)))) (outside_sub s.classes ((47, 47) ∷ []) rule.line_comment refl refl refl (outside_seq s.classes ((47, 47) ∷ []) false (outside_seq s.classes ((47, 47) ∷ []) false (outside_text s.classes))))))) refl refl refl)) (tries s 1154 1156 1156 1155 refl (enters s rule.COMMENT 191 192 at_COMMENT_atomic_apart refl refl refl refl refl) (between s) (many s 1157 (op.IsOne 0 1157 1155) refl (λ c z. z) (tight_between s) refl (inl (tested s 0 (outside_sub s.classes ((32, 32) ∷ (9, 9) ∷ (10, 10) ∷ (13, 13) ∷ []) rule.WHITESPACE refl refl refl (outside_choice s.classes ((32, 32) ∷ (9, 9) ∷ []) ((10, 10) ∷ (13, 13) ∷ []) false false (outside_set s.classes (one_of_two s.classes (one_text s.classes 32) (one_text s.classes 9))) (outside_sub s.classes ((10, 10) ∷ (13, 13) ∷ []) rule.newline refl refl refl (outside_choice s.classes ((10, 10) ∷ []) ((13, 13) ∷ []) false false (outside_set s.classes (one_text s.classes 10)) (outside_text s.classes))))) refl refl refl)) (within s rule.WHITESPACE refl refl refl (either s 1158 1157 1159 refl (at_once s) (one_of s 1 (one_of_two s.classes (one_text s.classes 32) (one_text s.classes 9)) refl refl refl) (tested s 2 (outside_sub s.classes ((10, 10) ∷ (13, 13) ∷ []) rule.newline refl refl refl (outside_choice s.classes ((10, 10) ∷ []) ((13, 13) ∷ []) false false (outside_set s.classes (one_text s.classes 10)) (outside_text s.classes))) refl refl refl) (within s rule.newline refl refl refl (either s 1160 1159 1160 refl (at_once s) (word s 30 refl refl refl) (at_once s) (word s 31 refl refl refl)))))) refl)))) (calls s rule.closing_brack 87 88 at_closing_brack_plain refl refl refl refl refl)

  identifier_atomic : Laid s (Run AtomicMode (body_of rule.identifier)) 151 152 0
  unfolding whitespace comment
  identifier_atomic = seq 1161 1161 (seq 1162 1162 (never s 1163 1164 refl (word s 20 refl refl refl) refl) (atomic s) (one_of s 6 (one_of_two s.classes (one_text s.classes 95) (one_called s.classes rule.alpha refl refl refl (one_of_two s.classes (one_range s.classes 97 122) (one_range s.classes 65 90)))) refl refl refl)) (atomic s) (all_of s 14 (one_of_two s.classes (one_text s.classes 95) (one_called s.classes rule.alpha_num refl refl refl (one_of_two s.classes (one_called s.classes rule.alpha refl refl refl (one_of_two s.classes (one_range s.classes 97 122) (one_range s.classes 65 90))) (one_range s.classes 48 57)))) (tight_atomic s) refl refl refl)

  alpha_plain_apart : Laid s (Run NonAtomicMode (body_of rule.alpha)) 153 154 0
  unfolding whitespace comment
  alpha_plain_apart = one_of s 44 (one_of_two s.classes (one_range s.classes 97 122) (one_range s.classes 65 90)) refl refl refl

  alpha_num_plain_apart : Laid s (Run NonAtomicMode (body_of rule.alpha_num)) 155 156 0
  unfolding whitespace comment
  alpha_num_plain_apart = one_of s 45 (one_of_two s.classes (one_called s.classes rule.alpha refl refl refl (one_of_two s.classes (one_range s.classes 97 122) (one_range s.classes 65 90))) (one_range s.classes 48 57)) refl refl refl

  string_compound : Laid s (Run CompoundAtomicMode (body_of rule.string)) 157 158 0
  unfolding whitespace comment
  string_compound = seq 1165 1165 (seq 1166 1166 (calls s rule.quote 1167 1168 at_quote_compound refl refl refl refl refl) (compound s) (calls s rule.inner_str 165 166 at_inner_str_atomic refl refl refl refl refl)) (compound s) (calls s rule.quote 1167 1168 at_quote_compound refl refl refl refl refl)

  insensitive_string_plain : Laid s (Run NonAtomicMode (body_of rule.insensitive_string)) 159 160 0
  unfolding whitespace comment
  insensitive_string_plain = seq 1169 1170 (word s 23 refl refl refl) (trivia_in_place s (seq 1171 1171 (many s 1172 (op.IsOne 0 1172 1171) refl (λ c z. z) (tight_between s) refl (inl (tested s 0 (outside_sub s.classes ((32, 32) ∷ (9, 9) ∷ (10, 10) ∷ (13, 13) ∷ []) rule.WHITESPACE refl refl refl (outside_choice s.classes ((32, 32) ∷ (9, 9) ∷ []) ((10, 10) ∷ (13, 13) ∷ []) false false (outside_set s.classes (one_of_two s.classes (one_text s.classes 32) (one_text s.classes 9))) (outside_sub s.classes ((10, 10) ∷ (13, 13) ∷ []) rule.newline refl refl refl (outside_choice s.classes ((10, 10) ∷ []) ((13, 13) ∷ []) false false (outside_set s.classes (one_text s.classes 10)) (outside_text s.classes))))) refl refl refl)) (within s rule.WHITESPACE refl refl refl (either s 1173 1172 1174 refl (at_once s) (one_of s 1 (one_of_two s.classes (one_text s.classes 32) (one_text s.classes 9)) refl refl refl) (tested s 2 (outside_sub s.classes ((10, 10) ∷ (13, 13) ∷ []) rule.newline refl refl refl (outside_choice s.classes ((10, 10) ∷ []) ((13, 13) ∷ []) false false (outside_set s.classes (one_text s.classes 10)) (outside_text s.classes))) refl refl refl) (within s rule.newline refl refl refl (either s 1175 1174 1175 refl (at_once s) (word s 30 refl refl refl) (at_once s) (word s 31 refl refl refl)))))) (between s) (many s 1176 (op.IsOne 3 1176 1170) refl (λ c z. z) (tight_between s) refl (inl (tested s 3 (outside_seq s.classes ((47, 47) ∷ (47, 47) ∷ []) false (outside_sub s.classes ((47, 47) ∷ (47, 47) ∷ []) rule.COMMENT refl refl refl (outside_choice s.classes ((47, 47) ∷ []) ((47, 47) ∷ []) false false (outside_sub s.classes ((47, 47) ∷ []) rule.block_comment refl refl refl (outside_seq s.classes ((47, 47) ∷ []) false (outside_seq s.classes ((47, 47) ∷ []) false (outside_text s.classes)))) (outside_sub s.classes ((47, 47) ∷ []) rule.line_comment refl refl refl (outside_seq s.classes ((47, 47) ∷ []) false (outside_seq s.classes ((47, 47) ∷ []) false (outside_text s.classes))))))) refl refl refl)) (tries s 1177 1179 1179 1178 refl (enters s rule.COMMENT 191 192 at_COMMENT_atomic_apart refl refl refl refl refl) (between s) (many s 1180 (op.IsOne 0 1180 1178) refl (λ c z. z) (tight_between s) refl (inl (tested s 0 (outside_sub s.classes ((32, 32) ∷ (9, 9) ∷ (10, 10) ∷ (13, 13) ∷ []) rule.WHITESPACE refl refl refl (outside_choice s.classes ((32, 32) ∷ (9, 9) ∷ []) ((10, 10) ∷ (13, 13) ∷ []) false false (outside_set s.classes (one_of_two s.classes (one_text s.classes 32) (one_text s.classes 9))) (outside_sub s.classes ((10, 10) ∷ (13, 13) ∷ []) rule.newline refl refl refl (outside_choice s.classes ((10, 10) ∷ []) ((13, 13) ∷ []) false false (outside_set s.classes (one_text s.classes 10)) (outside_text s.classes))))) refl refl refl)) (within s rule.WHITESPACE refl refl refl (either s 1181 1180 1182 refl (at_once s) (one_of s 1 (one_of_two s.classes (one_text s.classes 32) (one_text s.classes 9)) refl refl refl) (tested s 2 (outside_sub s.classes ((10, 10) ∷ (13, 13) ∷ []) rule.newline refl refl refl (outside_choice s.classes ((10, 10) ∷ []) ((13, 13) ∷ []) false false (outside_set s.classes (one_text s.classes 10)) (outside_text s.classes))) refl refl refl) (within s rule.newline refl refl refl (either s 1183 1182 1183 refl (at_once s) (word s 30 refl refl refl) (at_once s) (word s 31 refl refl refl)))))) refl)))) (calls s rule.string 157 158 at_string_compound refl refl refl refl refl)

  range_plain : Laid s (Run NonAtomicMode (body_of rule.range)) 161 162 0
  unfolding whitespace comment
  range_plain = seq 1184 1185 (seq 1186 1187 (calls s rule.character 163 164 at_character_compound refl refl refl refl refl) (trivia_in_place s (seq 1188 1188 (many s 1189 (op.IsOne 0 1189 1188) refl (λ c z. z) (tight_between s) refl (inl (tested s 0 (outside_sub s.classes ((32, 32) ∷ (9, 9) ∷ (10, 10) ∷ (13, 13) ∷ []) rule.WHITESPACE refl refl refl (outside_choice s.classes ((32, 32) ∷ (9, 9) ∷ []) ((10, 10) ∷ (13, 13) ∷ []) false false (outside_set s.classes (one_of_two s.classes (one_text s.classes 32) (one_text s.classes 9))) (outside_sub s.classes ((10, 10) ∷ (13, 13) ∷ []) rule.newline refl refl refl (outside_choice s.classes ((10, 10) ∷ []) ((13, 13) ∷ []) false false (outside_set s.classes (one_text s.classes 10)) (outside_text s.classes))))) refl refl refl)) (within s rule.WHITESPACE refl refl refl (either s 1190 1189 1191 refl (at_once s) (one_of s 1 (one_of_two s.classes (one_text s.classes 32) (one_text s.classes 9)) refl refl refl) (tested s 2 (outside_sub s.classes ((10, 10) ∷ (13, 13) ∷ []) rule.newline refl refl refl (outside_choice s.classes ((10, 10) ∷ []) ((13, 13) ∷ []) false false (outside_set s.classes (one_text s.classes 10)) (outside_text s.classes))) refl refl refl) (within s rule.newline refl refl refl (either s 1192 1191 1192 refl (at_once s) (word s 30 refl refl refl) (at_once s) (word s 31 refl refl refl)))))) (between s) (many s 1193 (op.IsOne 3 1193 1187) refl (λ c z. z) (tight_between s) refl (inl (tested s 3 (outside_seq s.classes ((47, 47) ∷ (47, 47) ∷ []) false (outside_sub s.classes ((47, 47) ∷ (47, 47) ∷ []) rule.COMMENT refl refl refl (outside_choice s.classes ((47, 47) ∷ []) ((47, 47) ∷ []) false false (outside_sub s.classes ((47, 47) ∷ []) rule.block_comment refl refl refl (outside_seq s.classes ((47, 47) ∷ []) false (outside_seq s.classes ((47, 47) ∷ []) false (outside_text s.classes)))) (outside_sub s.classes ((47, 47) ∷ []) rule.line_comment refl refl refl (outside_seq s.classes ((47, 47) ∷ []) false (outside_seq s.classes ((47, 47) ∷ []) false (outside_text s.classes))))))) refl refl refl)) (tries s 1194 1196 1196 1195 refl (enters s rule.COMMENT 191 192 at_COMMENT_atomic_apart refl refl refl refl refl) (between s) (many s 1197 (op.IsOne 0 1197 1195) refl (λ c z. z) (tight_between s) refl (inl (tested s 0 (outside_sub s.classes ((32, 32) ∷ (9, 9) ∷ (10, 10) ∷ (13, 13) ∷ []) rule.WHITESPACE refl refl refl (outside_choice s.classes ((32, 32) ∷ (9, 9) ∷ []) ((10, 10) ∷ (13, 13) ∷ []) false false (outside_set s.classes (one_of_two s.classes (one_text s.classes 32) (one_text s.classes 9))) (outside_sub s.classes ((10, 10) ∷ (13, 13) ∷ []) rule.newline refl refl refl (outside_choice s.classes ((10, 10) ∷ []) ((13, 13) ∷ []) false false (outside_set s.classes (one_text s.classes 10)) (outside_text s.classes))))) refl refl refl)) (within s rule.WHITESPACE refl refl refl (either s 1198 1197 1199 refl (at_once s) (one_of s 1 (one_of_two s.classes (one_text s.classes 32) (one_text s.classes 9)) refl refl refl) (tested s 2 (outside_sub s.classes ((10, 10) ∷ (13, 13) ∷ []) rule.newline refl refl refl (outside_choice s.classes ((10, 10) ∷ []) ((13, 13) ∷ []) false false (outside_set s.classes (one_text s.classes 10)) (outside_text s.classes))) refl refl refl) (within s rule.newline refl refl refl (either s 1200 1199 1200 refl (at_once s) (word s 30 refl refl refl) (at_once s) (word s 31 refl refl refl)))))) refl)))) (calls s rule.range_operator 181 182 at_range_operator_plain refl refl refl refl refl)) (trivia_in_place s (seq 1201 1201 (many s 1202 (op.IsOne 0 1202 1201) refl (λ c z. z) (tight_between s) refl (inl (tested s 0 (outside_sub s.classes ((32, 32) ∷ (9, 9) ∷ (10, 10) ∷ (13, 13) ∷ []) rule.WHITESPACE refl refl refl (outside_choice s.classes ((32, 32) ∷ (9, 9) ∷ []) ((10, 10) ∷ (13, 13) ∷ []) false false (outside_set s.classes (one_of_two s.classes (one_text s.classes 32) (one_text s.classes 9))) (outside_sub s.classes ((10, 10) ∷ (13, 13) ∷ []) rule.newline refl refl refl (outside_choice s.classes ((10, 10) ∷ []) ((13, 13) ∷ []) false false (outside_set s.classes (one_text s.classes 10)) (outside_text s.classes))))) refl refl refl)) (within s rule.WHITESPACE refl refl refl (either s 1203 1202 1204 refl (at_once s) (one_of s 1 (one_of_two s.classes (one_text s.classes 32) (one_text s.classes 9)) refl refl refl) (tested s 2 (outside_sub s.classes ((10, 10) ∷ (13, 13) ∷ []) rule.newline refl refl refl (outside_choice s.classes ((10, 10) ∷ []) ((13, 13) ∷ []) false false (outside_set s.classes (one_text s.classes 10)) (outside_text s.classes))) refl refl refl) (within s rule.newline refl refl refl (either s 1205 1204 1205 refl (at_once s) (word s 30 refl refl refl) (at_once s) (word s 31 refl refl refl)))))) (between s) (many s 1206 (op.IsOne 3 1206 1185) refl (λ c z. z) (tight_between s) refl (inl (tested s 3 (outside_seq s.classes ((47, 47) ∷ (47, 47) ∷ []) false (outside_sub s.classes ((47, 47) ∷ (47, 47) ∷ []) rule.COMMENT refl refl refl (outside_choice s.classes ((47, 47) ∷ []) ((47, 47) ∷ []) false false (outside_sub s.classes ((47, 47) ∷ []) rule.block_comment refl refl refl (outside_seq s.classes ((47, 47) ∷ []) false (outside_seq s.classes ((47, 47) ∷ []) false (outside_text s.classes)))) (outside_sub s.classes ((47, 47) ∷ []) rule.line_comment refl refl refl (outside_seq s.classes ((47, 47) ∷ []) false (outside_seq s.classes ((47, 47) ∷ []) false (outside_text s.classes))))))) refl refl refl)) (tries s 1207 1209 1209 1208 refl (enters s rule.COMMENT 191 192 at_COMMENT_atomic_apart refl refl refl refl refl) (between s) (many s 1210 (op.IsOne 0 1210 1208) refl (λ c z. z) (tight_between s) refl (inl (tested s 0 (outside_sub s.classes ((32, 32) ∷ (9, 9) ∷ (10, 10) ∷ (13, 13) ∷ []) rule.WHITESPACE refl refl refl (outside_choice s.classes ((32, 32) ∷ (9, 9) ∷ []) ((10, 10) ∷ (13, 13) ∷ []) false false (outside_set s.classes (one_of_two s.classes (one_text s.classes 32) (one_text s.classes 9))) (outside_sub s.classes ((10, 10) ∷ (13, 13) ∷ []) rule.newline refl refl refl (outside_choice s.classes ((10, 10) ∷ []) ((13, 13) ∷ []) false false (outside_set s.classes (one_text s.classes 10)) (outside_text s.classes))))) refl refl refl)) (within s rule.WHITESPACE refl refl refl (either s 1211 1210 1212 refl (at_once s) (one_of s 1 (one_of_two s.classes (one_text s.classes 32) (one_text s.classes 9)) refl refl refl) (tested s 2 (outside_sub s.classes ((10, 10) ∷ (13, 13) ∷ []) rule.newline refl refl refl (outside_choice s.classes ((10, 10) ∷ []) ((13, 13) ∷ []) false false (outside_set s.classes (one_text s.classes 10)) (outside_text s.classes))) refl refl refl) (within s rule.newline refl refl refl (either s 1213 1212 1213 refl (at_once s) (word s 30 refl refl refl) (at_once s) (word s 31 refl refl refl)))))) refl)))) (calls s rule.character 163 164 at_character_compound refl refl refl refl refl)

  character_compound : Laid s (Run CompoundAtomicMode (body_of rule.character)) 163 164 0
  unfolding whitespace comment
  character_compound = seq 1214 1214 (seq 1215 1215 (calls s rule.single_quote 1216 1217 at_single_quote_compound refl refl refl refl refl) (compound s) (calls s rule.inner_chr 167 168 at_inner_chr_atomic refl refl refl refl refl)) (compound s) (calls s rule.single_quote 1216 1217 at_single_quote_compound refl refl refl refl refl)

  inner_str_atomic : Laid s (Run AtomicMode (body_of rule.inner_str)) 165 166 0
  unfolding whitespace comment
  inner_str_atomic = seq 1218 1218 (all_of s 46 (one_other s.classes ((0, 33) ∷ (35, 91) ∷ (93, 1114111) ∷ []) (tight_atomic s) tt (one_of_two s.classes (one_text s.classes 34) (one_text s.classes 92)) refl refl) (tight_atomic s) refl refl refl) (atomic s) (maybe s 1219 refl (tested s 47 (outside_seq s.classes ((92, 92) ∷ []) false (outside_sub s.classes ((92, 92) ∷ []) rule.escape refl refl refl (outside_seq s.classes ((92, 92) ∷ []) false (outside_set s.classes (one_text s.classes 92))))) refl refl refl) (tries s 1220 1222 1222 1221 refl (enters s rule.escape 1223 1224 at_escape_atomic_apart refl refl refl refl refl) (atomic s) (enters s rule.inner_str 1225 1226 at_inner_str_atomic_apart refl refl refl refl refl) refl))

  inner_chr_atomic : Laid s (Run AtomicMode (body_of rule.inner_chr)) 167 168 0
  unfolding whitespace comment
  inner_chr_atomic = either s 1227 1228 1227 refl (tested s 47 (outside_sub s.classes ((92, 92) ∷ []) rule.escape refl refl refl (outside_seq s.classes ((92, 92) ∷ []) false (outside_set s.classes (one_text s.classes 92)))) refl refl refl) (enters s rule.escape 1223 1224 at_escape_atomic_apart refl refl refl refl refl) (at_once s) (one_of s 48 (one_other s.classes ((0, 38) ∷ (40, 91) ∷ (93, 1114111) ∷ []) (tight_atomic s) tt (one_of_two s.classes (one_text s.classes 39) (one_text s.classes 92)) refl refl) refl refl refl)

  escape_atomic : Laid s (Run AtomicMode (body_of rule.escape)) 169 170 0
  unfolding whitespace comment
  escape_atomic = seq 1229 1229 (word s 24 refl refl refl) (atomic s) (either s 1230 1231 1230 refl (tested s 49 (outside_choice s.classes ((34, 34) ∷ (92, 92) ∷ (114, 114) ∷ (110, 110) ∷ (116, 116) ∷ (48, 48) ∷ (39, 39) ∷ []) ((120, 120) ∷ []) false false (outside_set s.classes (one_of_two s.classes (one_of_two s.classes (one_of_two s.classes (one_of_two s.classes (one_of_two s.classes (one_of_two s.classes (one_text s.classes 34) (one_text s.classes 92)) (one_text s.classes 114)) (one_text s.classes 110)) (one_text s.classes 116)) (one_text s.classes 48)) (one_text s.classes 39))) (outside_sub s.classes ((120, 120) ∷ []) rule.code refl refl refl (outside_seq s.classes ((120, 120) ∷ []) false (outside_seq s.classes ((120, 120) ∷ []) false (outside_set s.classes (one_text s.classes 120)))))) refl refl refl) (either s 1232 1231 1233 refl (at_once s) (one_of s 50 (one_of_two s.classes (one_of_two s.classes (one_of_two s.classes (one_of_two s.classes (one_of_two s.classes (one_of_two s.classes (one_text s.classes 34) (one_text s.classes 92)) (one_text s.classes 114)) (one_text s.classes 110)) (one_text s.classes 116)) (one_text s.classes 48)) (one_text s.classes 39)) refl refl refl) (tested s 51 (outside_sub s.classes ((120, 120) ∷ []) rule.code refl refl refl (outside_seq s.classes ((120, 120) ∷ []) false (outside_seq s.classes ((120, 120) ∷ []) false (outside_set s.classes (one_text s.classes 120))))) refl refl refl) (enters s rule.code 1234 1235 at_code_atomic_apart refl refl refl refl refl)) (at_once s) (enters s rule.unicode 1236 1237 at_unicode_atomic_apart refl refl refl refl refl))

  code_atomic : Laid s (Run AtomicMode (body_of rule.code)) 171 172 0
  unfolding whitespace comment
  code_atomic = seq 1238 1238 (seq 1239 1239 (word s 25 refl refl refl) (atomic s) (one_of s 52 (one_called s.classes rule.hex_digit refl refl refl (one_of_two s.classes (one_of_two s.classes (one_range s.classes 48 57) (one_range s.classes 97 102)) (one_range s.classes 65 70))) refl refl refl)) (atomic s) (one_of s 52 (one_called s.classes rule.hex_digit refl refl refl (one_of_two s.classes (one_of_two s.classes (one_range s.classes 48 57) (one_range s.classes 97 102)) (one_range s.classes 65 70))) refl refl refl)

  unicode_atomic : Laid s (Run AtomicMode (body_of rule.unicode)) 173 174 0
  unfolding whitespace comment
  unicode_atomic = seq 1240 1240 (seq 1241 1241 (seq 1242 1242 (word s 26 refl refl refl) (atomic s) (one_of s 39 (one_called s.classes rule.opening_brace refl refl refl (one_text s.classes 123)) refl refl refl)) (atomic s) (rep_min_max (seq 1243 1243 (one_of s 52 (one_called s.classes rule.hex_digit refl refl refl (one_of_two s.classes (one_of_two s.classes (one_range s.classes 48 57) (one_range s.classes 97 102)) (one_range s.classes 65 70))) refl refl refl) (atomic s) (seq 1244 1244 (one_of s 52 (one_called s.classes rule.hex_digit refl refl refl (one_of_two s.classes (one_of_two s.classes (one_range s.classes 48 57) (one_range s.classes 97 102)) (one_range s.classes 65 70))) refl refl refl) (atomic s) (seq 1245 1245 (maybe s 1244 refl (at_once s) (one_of s 52 (one_called s.classes rule.hex_digit refl refl refl (one_of_two s.classes (one_of_two s.classes (one_range s.classes 48 57) (one_range s.classes 97 102)) (one_range s.classes 65 70))) refl refl refl)) (atomic s) (seq 1246 1246 (maybe s 1245 refl (at_once s) (one_of s 52 (one_called s.classes rule.hex_digit refl refl refl (one_of_two s.classes (one_of_two s.classes (one_range s.classes 48 57) (one_range s.classes 97 102)) (one_range s.classes 65 70))) refl refl refl)) (atomic s) (seq 1247 1247 (maybe s 1246 refl (at_once s) (one_of s 52 (one_called s.classes rule.hex_digit refl refl refl (one_of_two s.classes (one_of_two s.classes (one_range s.classes 48 57) (one_range s.classes 97 102)) (one_range s.classes 65 70))) refl refl refl)) (atomic s) (maybe s 1247 refl (at_once s) (one_of s 52 (one_called s.classes rule.hex_digit refl refl refl (one_of_two s.classes (one_of_two s.classes (one_range s.classes 48 57) (one_range s.classes 97 102)) (one_range s.classes 65 70))) refl refl refl))))))))) (atomic s) (one_of s 53 (one_called s.classes rule.closing_brace refl refl refl (one_text s.classes 125)) refl refl refl)

  hex_digit_atomic : Laid s (Run AtomicMode (body_of rule.hex_digit)) 175 176 0
  unfolding whitespace comment
  hex_digit_atomic = one_of s 52 (one_of_two s.classes (one_of_two s.classes (one_range s.classes 48 57) (one_range s.classes 97 102)) (one_range s.classes 65 70)) refl refl refl

  quote_plain : Laid s (Run NonAtomicMode (body_of rule.quote)) 177 178 0
  unfolding whitespace comment
  quote_plain = word s 27 refl refl refl

  single_quote_plain : Laid s (Run NonAtomicMode (body_of rule.single_quote)) 179 180 0
  unfolding whitespace comment
  single_quote_plain = word s 28 refl refl refl

  range_operator_plain : Laid s (Run NonAtomicMode (body_of rule.range_operator)) 181 182 0
  unfolding whitespace comment
  range_operator_plain = word s 29 refl refl refl

  newline_plain_apart : Laid s (Run NonAtomicMode (body_of rule.newline)) 183 184 0
  unfolding whitespace comment
  newline_plain_apart = either s 1248 183 1248 refl (at_once s) (word s 30 refl refl refl) (at_once s) (word s 31 refl refl refl)

  WHITESPACE_atomic_apart : Laid s (Run AtomicMode (body_of rule.WHITESPACE)) 185 186 0
  unfolding whitespace comment
  WHITESPACE_atomic_apart = either s 1249 185 1249 refl (at_once s) (one_of s 1 (one_of_two s.classes (one_text s.classes 32) (one_text s.classes 9)) refl refl refl) (at_once s) (within s rule.newline refl refl refl (either s 1250 1249 1250 refl (at_once s) (word s 30 refl refl refl) (at_once s) (word s 31 refl refl refl)))

  line_comment_plain_apart : Laid s (Run NonAtomicMode (body_of rule.line_comment)) 187 188 0
  unfolding whitespace comment
  line_comment_plain_apart = seq 1251 1252 (seq 1253 1254 (word s 32 refl refl refl) (trivia_in_place s (seq 1255 1255 (many s 1256 (op.IsOne 0 1256 1255) refl (λ c z. z) (tight_between s) refl (inl (tested s 0 (outside_sub s.classes ((32, 32) ∷ (9, 9) ∷ (10, 10) ∷ (13, 13) ∷ []) rule.WHITESPACE refl refl refl (outside_choice s.classes ((32, 32) ∷ (9, 9) ∷ []) ((10, 10) ∷ (13, 13) ∷ []) false false (outside_set s.classes (one_of_two s.classes (one_text s.classes 32) (one_text s.classes 9))) (outside_sub s.classes ((10, 10) ∷ (13, 13) ∷ []) rule.newline refl refl refl (outside_choice s.classes ((10, 10) ∷ []) ((13, 13) ∷ []) false false (outside_set s.classes (one_text s.classes 10)) (outside_text s.classes))))) refl refl refl)) (within s rule.WHITESPACE refl refl refl (either s 1257 1256 1258 refl (at_once s) (one_of s 1 (one_of_two s.classes (one_text s.classes 32) (one_text s.classes 9)) refl refl refl) (tested s 2 (outside_sub s.classes ((10, 10) ∷ (13, 13) ∷ []) rule.newline refl refl refl (outside_choice s.classes ((10, 10) ∷ []) ((13, 13) ∷ []) false false (outside_set s.classes (one_text s.classes 10)) (outside_text s.classes))) refl refl refl) (within s rule.newline refl refl refl (either s 1259 1258 1259 refl (at_once s) (word s 30 refl refl refl) (at_once s) (word s 31 refl refl refl)))))) (between s) (many s 1260 (op.IsOne 3 1260 1254) refl (λ c z. z) (tight_between s) refl (inl (tested s 3 (outside_seq s.classes ((47, 47) ∷ (47, 47) ∷ []) false (outside_sub s.classes ((47, 47) ∷ (47, 47) ∷ []) rule.COMMENT refl refl refl (outside_choice s.classes ((47, 47) ∷ []) ((47, 47) ∷ []) false false (outside_sub s.classes ((47, 47) ∷ []) rule.block_comment refl refl refl (outside_seq s.classes ((47, 47) ∷ []) false (outside_seq s.classes ((47, 47) ∷ []) false (outside_text s.classes)))) (outside_sub s.classes ((47, 47) ∷ []) rule.line_comment refl refl refl (outside_seq s.classes ((47, 47) ∷ []) false (outside_seq s.classes ((47, 47) ∷ []) false (outside_text s.classes))))))) refl refl refl)) (tries s 1261 1263 1263 1262 refl (enters s rule.COMMENT 191 192 at_COMMENT_atomic_apart refl refl refl refl refl) (between s) (many s 1264 (op.IsOne 0 1264 1262) refl (λ c z. z) (tight_between s) refl (inl (tested s 0 (outside_sub s.classes ((32, 32) ∷ (9, 9) ∷ (10, 10) ∷ (13, 13) ∷ []) rule.WHITESPACE refl refl refl (outside_choice s.classes ((32, 32) ∷ (9, 9) ∷ []) ((10, 10) ∷ (13, 13) ∷ []) false false (outside_set s.classes (one_of_two s.classes (one_text s.classes 32) (one_text s.classes 9))) (outside_sub s.classes ((10, 10) ∷ (13, 13) ∷ []) rule.newline refl refl refl (outside_choice s.classes ((10, 10) ∷ []) ((13, 13) ∷ []) false false (outside_set s.classes (one_text s.classes 10)) (outside_text s.classes))))) refl refl refl)) (within s rule.WHITESPACE refl refl refl (either s 1265 1264 1266 refl (at_once s) (one_of s 1 (one_of_two s.classes (one_text s.classes 32) (one_text s.classes 9)) refl refl refl) (tested s 2 (outside_sub s.classes ((10, 10) ∷ (13, 13) ∷ []) rule.newline refl refl refl (outside_choice s.classes ((10, 10) ∷ []) ((13, 13) ∷ []) false false (outside_set s.classes (one_text s.classes 10)) (outside_text s.classes))) refl refl refl) (within s rule.newline refl refl refl (either s 1267 1266 1267 refl (at_once s) (word s 30 refl refl refl) (at_once s) (word s 31 refl refl refl)))))) refl)))) (never s 1268 1269 refl (one_of s 54 (one_of_two s.classes (one_text s.classes 47) (one_text s.classes 33)) refl refl refl) refl)) (trivia_in_place s (seq 1270 1270 (many s 1271 (op.IsOne 0 1271 1270) refl (λ c z. z) (tight_between s) refl (inl (tested s 0 (outside_sub s.classes ((32, 32) ∷ (9, 9) ∷ (10, 10) ∷ (13, 13) ∷ []) rule.WHITESPACE refl refl refl (outside_choice s.classes ((32, 32) ∷ (9, 9) ∷ []) ((10, 10) ∷ (13, 13) ∷ []) false false (outside_set s.classes (one_of_two s.classes (one_text s.classes 32) (one_text s.classes 9))) (outside_sub s.classes ((10, 10) ∷ (13, 13) ∷ []) rule.newline refl refl refl (outside_choice s.classes ((10, 10) ∷ []) ((13, 13) ∷ []) false false (outside_set s.classes (one_text s.classes 10)) (outside_text s.classes))))) refl refl refl)) (within s rule.WHITESPACE refl refl refl (either s 1272 1271 1273 refl (at_once s) (one_of s 1 (one_of_two s.classes (one_text s.classes 32) (one_text s.classes 9)) refl refl refl) (tested s 2 (outside_sub s.classes ((10, 10) ∷ (13, 13) ∷ []) rule.newline refl refl refl (outside_choice s.classes ((10, 10) ∷ []) ((13, 13) ∷ []) false false (outside_set s.classes (one_text s.classes 10)) (outside_text s.classes))) refl refl refl) (within s rule.newline refl refl refl (either s 1274 1273 1274 refl (at_once s) (word s 30 refl refl refl) (at_once s) (word s 31 refl refl refl)))))) (between s) (many s 1275 (op.IsOne 3 1275 1252) refl (λ c z. z) (tight_between s) refl (inl (tested s 3 (outside_seq s.classes ((47, 47) ∷ (47, 47) ∷ []) false (outside_sub s.classes ((47, 47) ∷ (47, 47) ∷ []) rule.COMMENT refl refl refl (outside_choice s.classes ((47, 47) ∷ []) ((47, 47) ∷ []) false false (outside_sub s.classes ((47, 47) ∷ []) rule.block_comment refl refl refl (outside_seq s.classes ((47, 47) ∷ []) false (outside_seq s.classes ((47, 47) ∷ []) false (outside_text s.classes)))) (outside_sub s.classes ((47, 47) ∷ []) rule.line_comment refl refl refl (outside_seq s.classes ((47, 47) ∷ []) false (outside_seq s.classes ((47, 47) ∷ []) false (outside_text s.classes))))))) refl refl refl)) (tries s 1276 1278 1278 1277 refl (enters s rule.COMMENT 191 192 at_COMMENT_atomic_apart refl refl refl refl refl) (between s) (many s 1279 (op.IsOne 0 1279 1277) refl (λ c z. z) (tight_between s) refl (inl (tested s 0 (outside_sub s.classes ((32, 32) ∷ (9, 9) ∷ (10, 10) ∷ (13, 13) ∷ []) rule.WHITESPACE refl refl refl (outside_choice s.classes ((32, 32) ∷ (9, 9) ∷ []) ((10, 10) ∷ (13, 13) ∷ []) false false (outside_set s.classes (one_of_two s.classes (one_text s.classes 32) (one_text s.classes 9))) (outside_sub s.classes ((10, 10) ∷ (13, 13) ∷ []) rule.newline refl refl refl (outside_choice s.classes ((10, 10) ∷ []) ((13, 13) ∷ []) false false (outside_set s.classes (one_text s.classes 10)) (outside_text s.classes))))) refl refl refl)) (within s rule.WHITESPACE refl refl refl (either s 1280 1279 1281 refl (at_once s) (one_of s 1 (one_of_two s.classes (one_text s.classes 32) (one_text s.classes 9)) refl refl refl) (tested s 2 (outside_sub s.classes ((10, 10) ∷ (13, 13) ∷ []) rule.newline refl refl refl (outside_choice s.classes ((10, 10) ∷ []) ((13, 13) ∷ []) false false (outside_set s.classes (one_text s.classes 10)) (outside_text s.classes))) refl refl refl) (within s rule.newline refl refl refl (either s 1282 1281 1282 refl (at_once s) (word s 30 refl refl refl) (at_once s) (word s 31 refl refl refl)))))) refl)))) (turns s 1252 1283 1284 1285 1286 refl (at_once s) refl refl (trivia_in_place s (seq 1287 1287 (many s 1288 (op.IsOne 0 1288 1287) refl (λ c z. z) (tight_between s) refl (inl (tested s 0 (outside_sub s.classes ((32, 32) ∷ (9, 9) ∷ (10, 10) ∷ (13, 13) ∷ []) rule.WHITESPACE refl refl refl (outside_choice s.classes ((32, 32) ∷ (9, 9) ∷ []) ((10, 10) ∷ (13, 13) ∷ []) false false (outside_set s.classes (one_of_two s.classes (one_text s.classes 32) (one_text s.classes 9))) (outside_sub s.classes ((10, 10) ∷ (13, 13) ∷ []) rule.newline refl refl refl (outside_choice s.classes ((10, 10) ∷ []) ((13, 13) ∷ []) false false (outside_set s.classes (one_text s.classes 10)) (outside_text s.classes))))) refl refl refl)) (within s rule.WHITESPACE refl refl refl (either s 1289 1288 1290 refl (at_once s) (one_of s 1 (one_of_two s.classes (one_text s.classes 32) (one_text s.classes 9)) refl refl refl) (tested s 2 (outside_sub s.classes ((10, 10) ∷ (13, 13) ∷ []) rule.newline refl refl refl (outside_choice s.classes ((10, 10) ∷ []) ((13, 13) ∷ []) false false (outside_set s.classes (one_text s.classes 10)) (outside_text s.classes))) refl refl refl) (within s rule.newline refl refl refl (either s 1291 1290 1291 refl (at_once s) (word s 30 refl refl refl) (at_once s) (word s 31 refl refl refl)))))) (between s) (many s 1292 (op.IsOne 3 1292 1285) refl (λ c z. z) (tight_between s) refl (inl (tested s 3 (outside_seq s.classes ((47, 47) ∷ (47, 47) ∷ []) false (outside_sub s.classes ((47, 47) ∷ (47, 47) ∷ []) rule.COMMENT refl refl refl (outside_choice s.classes ((47, 47) ∷ []) ((47, 47) ∷ []) false false (outside_sub s.classes ((47, 47) ∷ []) rule.block_comment refl refl refl (outside_seq s.classes ((47, 47) ∷ []) false (outside_seq s.classes ((47, 47) ∷ []) false (outside_text s.classes)))) (outside_sub s.classes ((47, 47) ∷ []) rule.line_comment refl refl refl (outside_seq s.classes ((47, 47) ∷ []) false (outside_seq s.classes ((47, 47) ∷ []) false (outside_text s.classes))))))) refl refl refl)) (tries s 1293 1295 1295 1294 refl (enters s rule.COMMENT 191 192 at_COMMENT_atomic_apart refl refl refl refl refl) (between s) (many s 1296 (op.IsOne 0 1296 1294) refl (λ c z. z) (tight_between s) refl (inl (tested s 0 (outside_sub s.classes ((32, 32) ∷ (9, 9) ∷ (10, 10) ∷ (13, 13) ∷ []) rule.WHITESPACE refl refl refl (outside_choice s.classes ((32, 32) ∷ (9, 9) ∷ []) ((10, 10) ∷ (13, 13) ∷ []) false false (outside_set s.classes (one_of_two s.classes (one_text s.classes 32) (one_text s.classes 9))) (outside_sub s.classes ((10, 10) ∷ (13, 13) ∷ []) rule.newline refl refl refl (outside_choice s.classes ((10, 10) ∷ []) ((13, 13) ∷ []) false false (outside_set s.classes (one_text s.classes 10)) (outside_text s.classes))))) refl refl refl)) (within s rule.WHITESPACE refl refl refl (either s 1297 1296 1298 refl (at_once s) (one_of s 1 (one_of_two s.classes (one_text s.classes 32) (one_text s.classes 9)) refl refl refl) (tested s 2 (outside_sub s.classes ((10, 10) ∷ (13, 13) ∷ []) rule.newline refl refl refl (outside_choice s.classes ((10, 10) ∷ []) ((13, 13) ∷ []) false false (outside_set s.classes (one_text s.classes 10)) (outside_text s.classes))) refl refl refl) (within s rule.newline refl refl refl (either s 1299 1298 1299 refl (at_once s) (word s 30 refl refl refl) (at_once s) (word s 31 refl refl refl)))))) refl)))) (seq 1300 1301 (never s 1302 1303 refl (within s rule.newline refl refl refl (either s 1304 1302 1304 refl (at_once s) (word s 30 refl refl refl) (at_once s) (word s 31 refl refl refl))) refl) (trivia_in_place s (seq 1305 1305 (many s 1306 (op.IsOne 0 1306 1305) refl (λ c z. z) (tight_between s) refl (inl (tested s 0 (outside_sub s.classes ((32, 32) ∷ (9, 9) ∷ (10, 10) ∷ (13, 13) ∷ []) rule.WHITESPACE refl refl refl (outside_choice s.classes ((32, 32) ∷ (9, 9) ∷ []) ((10, 10) ∷ (13, 13) ∷ []) false false (outside_set s.classes (one_of_two s.classes (one_text s.classes 32) (one_text s.classes 9))) (outside_sub s.classes ((10, 10) ∷ (13, 13) ∷ []) rule.newline refl refl refl (outside_choice s.classes ((10, 10) ∷ []) ((13, 13) ∷ []) false false (outside_set s.classes (one_text s.classes 10)) (outside_text s.classes))))) refl refl refl)) (within s rule.WHITESPACE refl refl refl (either s 1307 1306 1308 refl (at_once s) (one_of s 1 (one_of_two s.classes (one_text s.classes 32) (one_text s.classes 9)) refl refl refl) (tested s 2 (outside_sub s.classes ((10, 10) ∷ (13, 13) ∷ []) rule.newline refl refl refl (outside_choice s.classes ((10, 10) ∷ []) ((13, 13) ∷ []) false false (outside_set s.classes (one_text s.classes 10)) (outside_text s.classes))) refl refl refl) (within s rule.newline refl refl refl (either s 1309 1308 1309 refl (at_once s) (word s 30 refl refl refl) (at_once s) (word s 31 refl refl refl)))))) (between s) (many s 1310 (op.IsOne 3 1310 1301) refl (λ c z. z) (tight_between s) refl (inl (tested s 3 (outside_seq s.classes ((47, 47) ∷ (47, 47) ∷ []) false (outside_sub s.classes ((47, 47) ∷ (47, 47) ∷ []) rule.COMMENT refl refl refl (outside_choice s.classes ((47, 47) ∷ []) ((47, 47) ∷ []) false false (outside_sub s.classes ((47, 47) ∷ []) rule.block_comment refl refl refl (outside_seq s.classes ((47, 47) ∷ []) false (outside_seq s.classes ((47, 47) ∷ []) false (outside_text s.classes)))) (outside_sub s.classes ((47, 47) ∷ []) rule.line_comment refl refl refl (outside_seq s.classes ((47, 47) ∷ []) false (outside_seq s.classes ((47, 47) ∷ []) false (outside_text s.classes))))))) refl refl refl)) (tries s 1311 1313 1313 1312 refl (enters s rule.COMMENT 191 192 at_COMMENT_atomic_apart refl refl refl refl refl) (between s) (many s 1314 (op.IsOne 0 1314 1312) refl (λ c z. z) (tight_between s) refl (inl (tested s 0 (outside_sub s.classes ((32, 32) ∷ (9, 9) ∷ (10, 10) ∷ (13, 13) ∷ []) rule.WHITESPACE refl refl refl (outside_choice s.classes ((32, 32) ∷ (9, 9) ∷ []) ((10, 10) ∷ (13, 13) ∷ []) false false (outside_set s.classes (one_of_two s.classes (one_text s.classes 32) (one_text s.classes 9))) (outside_sub s.classes ((10, 10) ∷ (13, 13) ∷ []) rule.newline refl refl refl (outside_choice s.classes ((10, 10) ∷ []) ((13, 13) ∷ []) false false (outside_set s.classes (one_text s.classes 10)) (outside_text s.classes))))) refl refl refl)) (within s rule.WHITESPACE refl refl refl (either s 1315 1314 1316 refl (at_once s) (one_of s 1 (one_of_two s.classes (one_text s.classes 32) (one_text s.classes 9)) refl refl refl) (tested s 2 (outside_sub s.classes ((10, 10) ∷ (13, 13) ∷ []) rule.newline refl refl refl (outside_choice s.classes ((10, 10) ∷ []) ((13, 13) ∷ []) false false (outside_set s.classes (one_text s.classes 10)) (outside_text s.classes))) refl refl refl) (within s rule.newline refl refl refl (either s 1317 1316 1317 refl (at_once s) (word s 30 refl refl refl) (at_once s) (word s 31 refl refl refl)))))) refl)))) (one_of s 55 (one_any s.classes tt) refl refl refl)) refl)

  block_comment_plain_apart : Laid s (Run NonAtomicMode (body_of rule.block_comment)) 189 190 0
  unfolding whitespace comment
  block_comment_plain_apart = seq 1318 1319 (seq 1320 1321 (word s 33 refl refl refl) (trivia_in_place s (seq 1322 1322 (many s 1323 (op.IsOne 0 1323 1322) refl (λ c z. z) (tight_between s) refl (inl (tested s 0 (outside_sub s.classes ((32, 32) ∷ (9, 9) ∷ (10, 10) ∷ (13, 13) ∷ []) rule.WHITESPACE refl refl refl (outside_choice s.classes ((32, 32) ∷ (9, 9) ∷ []) ((10, 10) ∷ (13, 13) ∷ []) false false (outside_set s.classes (one_of_two s.classes (one_text s.classes 32) (one_text s.classes 9))) (outside_sub s.classes ((10, 10) ∷ (13, 13) ∷ []) rule.newline refl refl refl (outside_choice s.classes ((10, 10) ∷ []) ((13, 13) ∷ []) false false (outside_set s.classes (one_text s.classes 10)) (outside_text s.classes))))) refl refl refl)) (within s rule.WHITESPACE refl refl refl (either s 1324 1323 1325 refl (at_once s) (one_of s 1 (one_of_two s.classes (one_text s.classes 32) (one_text s.classes 9)) refl refl refl) (tested s 2 (outside_sub s.classes ((10, 10) ∷ (13, 13) ∷ []) rule.newline refl refl refl (outside_choice s.classes ((10, 10) ∷ []) ((13, 13) ∷ []) false false (outside_set s.classes (one_text s.classes 10)) (outside_text s.classes))) refl refl refl) (within s rule.newline refl refl refl (either s 1326 1325 1326 refl (at_once s) (word s 30 refl refl refl) (at_once s) (word s 31 refl refl refl)))))) (between s) (many s 1327 (op.IsOne 3 1327 1321) refl (λ c z. z) (tight_between s) refl (inl (tested s 3 (outside_seq s.classes ((47, 47) ∷ (47, 47) ∷ []) false (outside_sub s.classes ((47, 47) ∷ (47, 47) ∷ []) rule.COMMENT refl refl refl (outside_choice s.classes ((47, 47) ∷ []) ((47, 47) ∷ []) false false (outside_sub s.classes ((47, 47) ∷ []) rule.block_comment refl refl refl (outside_seq s.classes ((47, 47) ∷ []) false (outside_seq s.classes ((47, 47) ∷ []) false (outside_text s.classes)))) (outside_sub s.classes ((47, 47) ∷ []) rule.line_comment refl refl refl (outside_seq s.classes ((47, 47) ∷ []) false (outside_seq s.classes ((47, 47) ∷ []) false (outside_text s.classes))))))) refl refl refl)) (tries s 1328 1330 1330 1329 refl (enters s rule.COMMENT 191 192 at_COMMENT_atomic_apart refl refl refl refl refl) (between s) (many s 1331 (op.IsOne 0 1331 1329) refl (λ c z. z) (tight_between s) refl (inl (tested s 0 (outside_sub s.classes ((32, 32) ∷ (9, 9) ∷ (10, 10) ∷ (13, 13) ∷ []) rule.WHITESPACE refl refl refl (outside_choice s.classes ((32, 32) ∷ (9, 9) ∷ []) ((10, 10) ∷ (13, 13) ∷ []) false false (outside_set s.classes (one_of_two s.classes (one_text s.classes 32) (one_text s.classes 9))) (outside_sub s.classes ((10, 10) ∷ (13, 13) ∷ []) rule.newline refl refl refl (outside_choice s.classes ((10, 10) ∷ []) ((13, 13) ∷ []) false false (outside_set s.classes (one_text s.classes 10)) (outside_text s.classes))))) refl refl refl)) (within s rule.WHITESPACE refl refl refl (either s 1332 1331 1333 refl (at_once s) (one_of s 1 (one_of_two s.classes (one_text s.classes 32) (one_text s.classes 9)) refl refl refl) (tested s 2 (outside_sub s.classes ((10, 10) ∷ (13, 13) ∷ []) rule.newline refl refl refl (outside_choice s.classes ((10, 10) ∷ []) ((13, 13) ∷ []) false false (outside_set s.classes (one_text s.classes 10)) (outside_text s.classes))) refl refl refl) (within s rule.newline refl refl refl (either s 1334 1333 1334 refl (at_once s) (word s 30 refl refl refl) (at_once s) (word s 31 refl refl refl)))))) refl)))) (turns s 1321 1335 1336 1337 1338 refl (at_once s) refl refl (trivia_in_place s (seq 1339 1339 (many s 1340 (op.IsOne 0 1340 1339) refl (λ c z. z) (tight_between s) refl (inl (tested s 0 (outside_sub s.classes ((32, 32) ∷ (9, 9) ∷ (10, 10) ∷ (13, 13) ∷ []) rule.WHITESPACE refl refl refl (outside_choice s.classes ((32, 32) ∷ (9, 9) ∷ []) ((10, 10) ∷ (13, 13) ∷ []) false false (outside_set s.classes (one_of_two s.classes (one_text s.classes 32) (one_text s.classes 9))) (outside_sub s.classes ((10, 10) ∷ (13, 13) ∷ []) rule.newline refl refl refl (outside_choice s.classes ((10, 10) ∷ []) ((13, 13) ∷ []) false false (outside_set s.classes (one_text s.classes 10)) (outside_text s.classes))))) refl refl refl)) (within s rule.WHITESPACE refl refl refl (either s 1341 1340 1342 refl (at_once s) (one_of s 1 (one_of_two s.classes (one_text s.classes 32) (one_text s.classes 9)) refl refl refl) (tested s 2 (outside_sub s.classes ((10, 10) ∷ (13, 13) ∷ []) rule.newline refl refl refl (outside_choice s.classes ((10, 10) ∷ []) ((13, 13) ∷ []) false false (outside_set s.classes (one_text s.classes 10)) (outside_text s.classes))) refl refl refl) (within s rule.newline refl refl refl (either s 1343 1342 1343 refl (at_once s) (word s 30 refl refl refl) (at_once s) (word s 31 refl refl refl)))))) (between s) (many s 1344 (op.IsOne 3 1344 1337) refl (λ c z. z) (tight_between s) refl (inl (tested s 3 (outside_seq s.classes ((47, 47) ∷ (47, 47) ∷ []) false (outside_sub s.classes ((47, 47) ∷ (47, 47) ∷ []) rule.COMMENT refl refl refl (outside_choice s.classes ((47, 47) ∷ []) ((47, 47) ∷ []) false false (outside_sub s.classes ((47, 47) ∷ []) rule.block_comment refl refl refl (outside_seq s.classes ((47, 47) ∷ []) false (outside_seq s.classes ((47, 47) ∷ []) false (outside_text s.classes)))) (outside_sub s.classes ((47, 47) ∷ []) rule.line_comment refl refl refl (outside_seq s.classes ((47, 47) ∷ []) false (outside_seq s.classes ((47, 47) ∷ []) false (outside_text s.classes))))))) refl refl refl)) (tries s 1345 1347 1347 1346 refl (enters s rule.COMMENT 191 192 at_COMMENT_atomic_apart refl refl refl refl refl) (between s) (many s 1348 (op.IsOne 0 1348 1346) refl (λ c z. z) (tight_between s) refl (inl (tested s 0 (outside_sub s.classes ((32, 32) ∷ (9, 9) ∷ (10, 10) ∷ (13, 13) ∷ []) rule.WHITESPACE refl refl refl (outside_choice s.classes ((32, 32) ∷ (9, 9) ∷ []) ((10, 10) ∷ (13, 13) ∷ []) false false (outside_set s.classes (one_of_two s.classes (one_text s.classes 32) (one_text s.classes 9))) (outside_sub s.classes ((10, 10) ∷ (13, 13) ∷ []) rule.newline refl refl refl (outside_choice s.classes ((10, 10) ∷ []) ((13, 13) ∷ []) false false (outside_set s.classes (one_text s.classes 10)) (outside_text s.classes))))) refl refl refl)) (within s rule.WHITESPACE refl refl refl (either s 1349 1348 1350 refl (at_once s) (one_of s 1 (one_of_two s.classes (one_text s.classes 32) (one_text s.classes 9)) refl refl refl) (tested s 2 (outside_sub s.classes ((10, 10) ∷ (13, 13) ∷ []) rule.newline refl refl refl (outside_choice s.classes ((10, 10) ∷ []) ((13, 13) ∷ []) false false (outside_set s.classes (one_text s.classes 10)) (outside_text s.classes))) refl refl refl) (within s rule.newline refl refl refl (either s 1351 1350 1351 refl (at_once s) (word s 30 refl refl refl) (at_once s) (word s 31 refl refl refl)))))) refl)))) (either s 1352 1353 1352 refl (tested s 4 (outside_sub s.classes ((47, 47) ∷ []) rule.block_comment refl refl refl (outside_seq s.classes ((47, 47) ∷ []) false (outside_seq s.classes ((47, 47) ∷ []) false (outside_text s.classes)))) refl refl refl) (enters s rule.block_comment 189 190 at_block_comment_plain_apart refl refl refl refl refl) (at_once s) (seq 1354 1355 (never s 1356 1357 refl (word s 34 refl refl refl) refl) (trivia_in_place s (seq 1358 1358 (many s 1359 (op.IsOne 0 1359 1358) refl (λ c z. z) (tight_between s) refl (inl (tested s 0 (outside_sub s.classes ((32, 32) ∷ (9, 9) ∷ (10, 10) ∷ (13, 13) ∷ []) rule.WHITESPACE refl refl refl (outside_choice s.classes ((32, 32) ∷ (9, 9) ∷ []) ((10, 10) ∷ (13, 13) ∷ []) false false (outside_set s.classes (one_of_two s.classes (one_text s.classes 32) (one_text s.classes 9))) (outside_sub s.classes ((10, 10) ∷ (13, 13) ∷ []) rule.newline refl refl refl (outside_choice s.classes ((10, 10) ∷ []) ((13, 13) ∷ []) false false (outside_set s.classes (one_text s.classes 10)) (outside_text s.classes))))) refl refl refl)) (within s rule.WHITESPACE refl refl refl (either s 1360 1359 1361 refl (at_once s) (one_of s 1 (one_of_two s.classes (one_text s.classes 32) (one_text s.classes 9)) refl refl refl) (tested s 2 (outside_sub s.classes ((10, 10) ∷ (13, 13) ∷ []) rule.newline refl refl refl (outside_choice s.classes ((10, 10) ∷ []) ((13, 13) ∷ []) false false (outside_set s.classes (one_text s.classes 10)) (outside_text s.classes))) refl refl refl) (within s rule.newline refl refl refl (either s 1362 1361 1362 refl (at_once s) (word s 30 refl refl refl) (at_once s) (word s 31 refl refl refl)))))) (between s) (many s 1363 (op.IsOne 3 1363 1355) refl (λ c z. z) (tight_between s) refl (inl (tested s 3 (outside_seq s.classes ((47, 47) ∷ (47, 47) ∷ []) false (outside_sub s.classes ((47, 47) ∷ (47, 47) ∷ []) rule.COMMENT refl refl refl (outside_choice s.classes ((47, 47) ∷ []) ((47, 47) ∷ []) false false (outside_sub s.classes ((47, 47) ∷ []) rule.block_comment refl refl refl (outside_seq s.classes ((47, 47) ∷ []) false (outside_seq s.classes ((47, 47) ∷ []) false (outside_text s.classes)))) (outside_sub s.classes ((47, 47) ∷ []) rule.line_comment refl refl refl (outside_seq s.classes ((47, 47) ∷ []) false (outside_seq s.classes ((47, 47) ∷ []) false (outside_text s.classes))))))) refl refl refl)) (tries s 1364 1366 1366 1365 refl (enters s rule.COMMENT 191 192 at_COMMENT_atomic_apart refl refl refl refl refl) (between s) (many s 1367 (op.IsOne 0 1367 1365) refl (λ c z. z) (tight_between s) refl (inl (tested s 0 (outside_sub s.classes ((32, 32) ∷ (9, 9) ∷ (10, 10) ∷ (13, 13) ∷ []) rule.WHITESPACE refl refl refl (outside_choice s.classes ((32, 32) ∷ (9, 9) ∷ []) ((10, 10) ∷ (13, 13) ∷ []) false false (outside_set s.classes (one_of_two s.classes (one_text s.classes 32) (one_text s.classes 9))) (outside_sub s.classes ((10, 10) ∷ (13, 13) ∷ []) rule.newline refl refl refl (outside_choice s.classes ((10, 10) ∷ []) ((13, 13) ∷ []) false false (outside_set s.classes (one_text s.classes 10)) (outside_text s.classes))))) refl refl refl)) (within s rule.WHITESPACE refl refl refl (either s 1368 1367 1369 refl (at_once s) (one_of s 1 (one_of_two s.classes (one_text s.classes 32) (one_text s.classes 9)) refl refl refl) (tested s 2 (outside_sub s.classes ((10, 10) ∷ (13, 13) ∷ []) rule.newline refl refl refl (outside_choice s.classes ((10, 10) ∷ []) ((13, 13) ∷ []) false false (outside_set s.classes (one_text s.classes 10)) (outside_text s.classes))) refl refl refl) (within s rule.newline refl refl refl (either s 1370 1369 1370 refl (at_once s) (word s 30 refl refl refl) (at_once s) (word s 31 refl refl refl)))))) refl)))) (one_of s 55 (one_any s.classes tt) refl refl refl))) refl)) (trivia_in_place s (seq 1371 1371 (many s 1372 (op.IsOne 0 1372 1371) refl (λ c z. z) (tight_between s) refl (inl (tested s 0 (outside_sub s.classes ((32, 32) ∷ (9, 9) ∷ (10, 10) ∷ (13, 13) ∷ []) rule.WHITESPACE refl refl refl (outside_choice s.classes ((32, 32) ∷ (9, 9) ∷ []) ((10, 10) ∷ (13, 13) ∷ []) false false (outside_set s.classes (one_of_two s.classes (one_text s.classes 32) (one_text s.classes 9))) (outside_sub s.classes ((10, 10) ∷ (13, 13) ∷ []) rule.newline refl refl refl (outside_choice s.classes ((10, 10) ∷ []) ((13, 13) ∷ []) false false (outside_set s.classes (one_text s.classes 10)) (outside_text s.classes))))) refl refl refl)) (within s rule.WHITESPACE refl refl refl (either s 1373 1372 1374 refl (at_once s) (one_of s 1 (one_of_two s.classes (one_text s.classes 32) (one_text s.classes 9)) refl refl refl) (tested s 2 (outside_sub s.classes ((10, 10) ∷ (13, 13) ∷ []) rule.newline refl refl refl (outside_choice s.classes ((10, 10) ∷ []) ((13, 13) ∷ []) false false (outside_set s.classes (one_text s.classes 10)) (outside_text s.classes))) refl refl refl) (within s rule.newline refl refl refl (either s 1375 1374 1375 refl (at_once s) (word s 30 refl refl refl) (at_once s) (word s 31 refl refl refl)))))) (between s) (many s 1376 (op.IsOne 3 1376 1319) refl (λ c z. z) (tight_between s) refl (inl (tested s 3 (outside_seq s.classes ((47, 47) ∷ (47, 47) ∷ []) false (outside_sub s.classes ((47, 47) ∷ (47, 47) ∷ []) rule.COMMENT refl refl refl (outside_choice s.classes ((47, 47) ∷ []) ((47, 47) ∷ []) false false (outside_sub s.classes ((47, 47) ∷ []) rule.block_comment refl refl refl (outside_seq s.classes ((47, 47) ∷ []) false (outside_seq s.classes ((47, 47) ∷ []) false (outside_text s.classes)))) (outside_sub s.classes ((47, 47) ∷ []) rule.line_comment refl refl refl (outside_seq s.classes ((47, 47) ∷ []) false (outside_seq s.classes ((47, 47) ∷ []) false (outside_text s.classes))))))) refl refl refl)) (tries s 1377 1379 1379 1378 refl (enters s rule.COMMENT 191 192 at_COMMENT_atomic_apart refl refl refl refl refl) (between s) (many s 1380 (op.IsOne 0 1380 1378) refl (λ c z. z) (tight_between s) refl (inl (tested s 0 (outside_sub s.classes ((32, 32) ∷ (9, 9) ∷ (10, 10) ∷ (13, 13) ∷ []) rule.WHITESPACE refl refl refl (outside_choice s.classes ((32, 32) ∷ (9, 9) ∷ []) ((10, 10) ∷ (13, 13) ∷ []) false false (outside_set s.classes (one_of_two s.classes (one_text s.classes 32) (one_text s.classes 9))) (outside_sub s.classes ((10, 10) ∷ (13, 13) ∷ []) rule.newline refl refl refl (outside_choice s.classes ((10, 10) ∷ []) ((13, 13) ∷ []) false false (outside_set s.classes (one_text s.classes 10)) (outside_text s.classes))))) refl refl refl)) (within s rule.WHITESPACE refl refl refl (either s 1381 1380 1382 refl (at_once s) (one_of s 1 (one_of_two s.classes (one_text s.classes 32) (one_text s.classes 9)) refl refl refl) (tested s 2 (outside_sub s.classes ((10, 10) ∷ (13, 13) ∷ []) rule.newline refl refl refl (outside_choice s.classes ((10, 10) ∷ []) ((13, 13) ∷ []) false false (outside_set s.classes (one_text s.classes 10)) (outside_text s.classes))) refl refl refl) (within s rule.newline refl refl refl (either s 1383 1382 1383 refl (at_once s) (word s 30 refl refl refl) (at_once s) (word s 31 refl refl refl)))))) refl)))) (word s 34 refl refl refl)

  COMMENT_atomic_apart : Laid s (Run AtomicMode (body_of rule.COMMENT)) 191 192 0
  unfolding whitespace comment
  COMMENT_atomic_apart = either s 1384 191 1384 refl (at_once s) (comments s 33 34 refl refl refl) (at_once s) (within s rule.line_comment refl refl refl (seq 1385 1385 (seq 1386 1386 (word s 32 refl refl refl) (atomic s) (never s 1387 1388 refl (one_of s 54 (one_of_two s.classes (one_text s.classes 47) (one_text s.classes 33)) refl refl refl) refl)) (atomic s) (many s 1389 (op.All 56 1389) refl (λ c z. z) (tight_atomic s) refl (behind_all s 56 (takes_other s.classes ((0, 9) ∷ (11, 12) ∷ (14, 1114111) ∷ []) ((10, 10) ∷ (13, 13) ∷ []) (tight_atomic s) tt (outside_sub s.classes ((10, 10) ∷ (13, 13) ∷ []) rule.newline refl refl refl (outside_choice s.classes ((10, 10) ∷ []) ((13, 13) ∷ []) false false (outside_set s.classes (one_text s.classes 10)) (outside_text s.classes))) refl) refl refl refl) (tries s 1390 1392 1392 1391 refl (never s 1393 1394 refl (within s rule.newline refl refl refl (either s 1395 1393 1395 refl (at_once s) (word s 30 refl refl refl) (at_once s) (word s 31 refl refl refl))) refl) (atomic s) (one_of s 55 (one_any s.classes tt) refl refl refl) refl))))

  space_plain_apart : Laid s (Run NonAtomicMode (body_of rule.space)) 193 194 0
  unfolding whitespace comment
  space_plain_apart = one_of s 1 (one_of_two s.classes (one_text s.classes 32) (one_text s.classes 9)) refl refl refl

  grammar_doc_compound : Laid s (Run CompoundAtomicMode (body_of rule.grammar_doc)) 195 196 0
  unfolding whitespace comment
  grammar_doc_compound = seq 1396 1396 (seq 1397 1397 (word s 35 refl refl refl) (compound s) (maybe s 1397 refl (at_once s) (one_of s 1 (one_called s.classes rule.space refl refl refl (one_of_two s.classes (one_text s.classes 32) (one_text s.classes 9))) refl refl refl))) (compound s) (calls s rule.inner_doc 199 200 at_inner_doc_atomic refl refl refl refl refl)

  line_doc_compound : Laid s (Run CompoundAtomicMode (body_of rule.line_doc)) 197 198 0
  unfolding whitespace comment
  line_doc_compound = seq 1398 1398 (seq 1399 1399 (word s 36 refl refl refl) (compound s) (maybe s 1399 refl (at_once s) (one_of s 1 (one_called s.classes rule.space refl refl refl (one_of_two s.classes (one_text s.classes 32) (one_text s.classes 9))) refl refl refl))) (compound s) (calls s rule.inner_doc 199 200 at_inner_doc_atomic refl refl refl refl refl)

  inner_doc_atomic : Laid s (Run AtomicMode (body_of rule.inner_doc)) 199 200 0
  unfolding whitespace comment
  inner_doc_atomic = many s 1400 (op.All 56 1400) refl (λ c z. z) (tight_atomic s) refl (behind_all s 56 (takes_other s.classes ((0, 9) ∷ (11, 12) ∷ (14, 1114111) ∷ []) ((10, 10) ∷ (13, 13) ∷ []) (tight_atomic s) tt (outside_sub s.classes ((10, 10) ∷ (13, 13) ∷ []) rule.newline refl refl refl (outside_choice s.classes ((10, 10) ∷ []) ((13, 13) ∷ []) false false (outside_set s.classes (one_text s.classes 10)) (outside_text s.classes))) refl) refl refl refl) (tries s 1401 1403 1403 1402 refl (never s 1404 1405 refl (within s rule.newline refl refl refl (either s 1406 1404 1406 refl (at_once s) (word s 30 refl refl refl) (at_once s) (word s 31 refl refl refl))) refl) (atomic s) (one_of s 55 (one_any s.classes tt) refl refl refl) refl)

  number_atomic_apart : Laid s (Run AtomicMode (body_of rule.number)) 986 987 0
  unfolding whitespace comment
  number_atomic_apart = rep_once (seq 1407 1407 (one_of s 40 (one_range s.classes 48 57) refl refl refl) (atomic s) (all_of s 40 (one_range s.classes 48 57) (tight_atomic s) refl refl refl))

  quote_compound : Laid s (Run CompoundAtomicMode (body_of rule.quote)) 1167 1168 0
  unfolding whitespace comment
  quote_compound = word s 27 refl refl refl

  single_quote_compound : Laid s (Run CompoundAtomicMode (body_of rule.single_quote)) 1216 1217 0
  unfolding whitespace comment
  single_quote_compound = word s 28 refl refl refl

  escape_atomic_apart : Laid s (Run AtomicMode (body_of rule.escape)) 1223 1224 0
  unfolding whitespace comment
  escape_atomic_apart = seq 1408 1408 (word s 24 refl refl refl) (atomic s) (either s 1409 1410 1409 refl (tested s 49 (outside_choice s.classes ((34, 34) ∷ (92, 92) ∷ (114, 114) ∷ (110, 110) ∷ (116, 116) ∷ (48, 48) ∷ (39, 39) ∷ []) ((120, 120) ∷ []) false false (outside_set s.classes (one_of_two s.classes (one_of_two s.classes (one_of_two s.classes (one_of_two s.classes (one_of_two s.classes (one_of_two s.classes (one_text s.classes 34) (one_text s.classes 92)) (one_text s.classes 114)) (one_text s.classes 110)) (one_text s.classes 116)) (one_text s.classes 48)) (one_text s.classes 39))) (outside_sub s.classes ((120, 120) ∷ []) rule.code refl refl refl (outside_seq s.classes ((120, 120) ∷ []) false (outside_seq s.classes ((120, 120) ∷ []) false (outside_set s.classes (one_text s.classes 120)))))) refl refl refl) (either s 1411 1410 1412 refl (at_once s) (one_of s 50 (one_of_two s.classes (one_of_two s.classes (one_of_two s.classes (one_of_two s.classes (one_of_two s.classes (one_of_two s.classes (one_text s.classes 34) (one_text s.classes 92)) (one_text s.classes 114)) (one_text s.classes 110)) (one_text s.classes 116)) (one_text s.classes 48)) (one_text s.classes 39)) refl refl refl) (tested s 51 (outside_sub s.classes ((120, 120) ∷ []) rule.code refl refl refl (outside_seq s.classes ((120, 120) ∷ []) false (outside_seq s.classes ((120, 120) ∷ []) false (outside_set s.classes (one_text s.classes 120))))) refl refl refl) (enters s rule.code 1234 1235 at_code_atomic_apart refl refl refl refl refl)) (at_once s) (enters s rule.unicode 1236 1237 at_unicode_atomic_apart refl refl refl refl refl))

  inner_str_atomic_apart : Laid s (Run AtomicMode (body_of rule.inner_str)) 1225 1226 0
  unfolding whitespace comment
  inner_str_atomic_apart = seq 1413 1413 (all_of s 46 (one_other s.classes ((0, 33) ∷ (35, 91) ∷ (93, 1114111) ∷ []) (tight_atomic s) tt (one_of_two s.classes (one_text s.classes 34) (one_text s.classes 92)) refl refl) (tight_atomic s) refl refl refl) (atomic s) (maybe s 1414 refl (tested s 47 (outside_seq s.classes ((92, 92) ∷ []) false (outside_sub s.classes ((92, 92) ∷ []) rule.escape refl refl refl (outside_seq s.classes ((92, 92) ∷ []) false (outside_set s.classes (one_text s.classes 92))))) refl refl refl) (tries s 1415 1417 1417 1416 refl (enters s rule.escape 1223 1224 at_escape_atomic_apart refl refl refl refl refl) (atomic s) (enters s rule.inner_str 1225 1226 at_inner_str_atomic_apart refl refl refl refl refl) refl))

  code_atomic_apart : Laid s (Run AtomicMode (body_of rule.code)) 1234 1235 0
  unfolding whitespace comment
  code_atomic_apart = seq 1418 1418 (seq 1419 1419 (word s 25 refl refl refl) (atomic s) (one_of s 52 (one_called s.classes rule.hex_digit refl refl refl (one_of_two s.classes (one_of_two s.classes (one_range s.classes 48 57) (one_range s.classes 97 102)) (one_range s.classes 65 70))) refl refl refl)) (atomic s) (one_of s 52 (one_called s.classes rule.hex_digit refl refl refl (one_of_two s.classes (one_of_two s.classes (one_range s.classes 48 57) (one_range s.classes 97 102)) (one_range s.classes 65 70))) refl refl refl)

  unicode_atomic_apart : Laid s (Run AtomicMode (body_of rule.unicode)) 1236 1237 0
  unfolding whitespace comment
  unicode_atomic_apart = seq 1420 1420 (seq 1421 1421 (seq 1422 1422 (word s 26 refl refl refl) (atomic s) (one_of s 39 (one_called s.classes rule.opening_brace refl refl refl (one_text s.classes 123)) refl refl refl)) (atomic s) (rep_min_max (seq 1423 1423 (one_of s 52 (one_called s.classes rule.hex_digit refl refl refl (one_of_two s.classes (one_of_two s.classes (one_range s.classes 48 57) (one_range s.classes 97 102)) (one_range s.classes 65 70))) refl refl refl) (atomic s) (seq 1424 1424 (one_of s 52 (one_called s.classes rule.hex_digit refl refl refl (one_of_two s.classes (one_of_two s.classes (one_range s.classes 48 57) (one_range s.classes 97 102)) (one_range s.classes 65 70))) refl refl refl) (atomic s) (seq 1425 1425 (maybe s 1424 refl (at_once s) (one_of s 52 (one_called s.classes rule.hex_digit refl refl refl (one_of_two s.classes (one_of_two s.classes (one_range s.classes 48 57) (one_range s.classes 97 102)) (one_range s.classes 65 70))) refl refl refl)) (atomic s) (seq 1426 1426 (maybe s 1425 refl (at_once s) (one_of s 52 (one_called s.classes rule.hex_digit refl refl refl (one_of_two s.classes (one_of_two s.classes (one_range s.classes 48 57) (one_range s.classes 97 102)) (one_range s.classes 65 70))) refl refl refl)) (atomic s) (seq 1427 1427 (maybe s 1426 refl (at_once s) (one_of s 52 (one_called s.classes rule.hex_digit refl refl refl (one_of_two s.classes (one_of_two s.classes (one_range s.classes 48 57) (one_range s.classes 97 102)) (one_range s.classes 65 70))) refl refl refl)) (atomic s) (maybe s 1427 refl (at_once s) (one_of s 52 (one_called s.classes rule.hex_digit refl refl refl (one_of_two s.classes (one_of_two s.classes (one_range s.classes 48 57) (one_range s.classes 97 102)) (one_range s.classes 65 70))) refl refl refl))))))))) (atomic s) (one_of s 53 (one_called s.classes rule.closing_brace refl refl refl (one_text s.classes 125)) refl refl refl)

  all_bodies : AreLaidAll false meta_grammar classes code number_of called called
  unfolding called
  all_bodies =
      (also call_of_EOI
      (also call_of_grammar_rules
      (also call_of_grammar_rule
      (also call_of_assignment_operator
      (also call_of_opening_brace
      (also call_of_closing_brace
      (also call_of_opening_paren
      (also call_of_closing_paren
      (also call_of_opening_brack
      (also call_of_closing_brack
      (also call_of_modifier
      (also call_of_silent_modifier
      (also call_of_atomic_modifier
      (also call_of_compound_atomic_modifier
      (also call_of_non_atomic_modifier
      (also call_of_tag_id
      (also call_of_node_tag
      (also call_of_expression
      (also call_of_term
      (also call_of_node
      (also call_of_terminal
      (also call_of_prefix_operator
      (also call_of_infix_operator
      (also call_of_postfix_operator
      (also call_of_positive_predicate_operator
      (also call_of_negative_predicate_operator
      (also call_of_sequence_operator
      (also call_of_choice_operator
      (also call_of_optional_operator
      (also call_of_repeat_operator
      (also call_of_repeat_once_operator
      (also call_of_repeat_exact
      (also call_of_repeat_min
      (also call_of_repeat_max
      (also call_of_repeat_min_max
      (also call_of_number
      (also call_of_integer
      (also call_of_comma
      (also call_of_push_
      (also call_of_push_literal_
      (also call_of_peek_slice
      (also call_of_identifier
      (also call_of_alpha
      (also call_of_alpha_num
      (also call_of_string
      (also call_of_insensitive_string
      (also call_of_range
      (also call_of_character
      (also call_of_inner_str
      (also call_of_inner_chr
      (also call_of_escape
      (also call_of_code
      (also call_of_unicode
      (also call_of_hex_digit
      (also call_of_quote
      (also call_of_single_quote
      (also call_of_range_operator
      (also call_of_newline
      (also call_of_WHITESPACE
      (also call_of_line_comment
      (also call_of_block_comment
      (also call_of_COMMENT
      (also call_of_space
      (also call_of_grammar_doc
      (also call_of_line_doc
      (also call_of_inner_doc
      (also grammar_rules_plain_apart
      (also grammar_rule_plain
      (also assignment_operator_plain
      (also opening_brace_plain
      (also closing_brace_plain
      (also opening_paren_plain
      (also closing_paren_plain
      (also opening_brack_plain
      (also closing_brack_plain
      (also modifier_plain_apart
      (also silent_modifier_plain
      (also atomic_modifier_plain
      (also compound_atomic_modifier_plain
      (also non_atomic_modifier_plain
      (also tag_id_atomic
      (also node_tag_plain_apart
      (also expression_plain
      (also term_plain
      (also node_plain_apart
      (also terminal_plain_apart
      (also prefix_operator_plain_apart
      (also infix_operator_plain_apart
      (also postfix_operator_plain_apart
      (also positive_predicate_operator_plain
      (also negative_predicate_operator_plain
      (also sequence_operator_plain
      (also choice_operator_plain
      (also optional_operator_plain
      (also repeat_operator_plain
      (also repeat_once_operator_plain
      (also repeat_exact_plain
      (also repeat_min_plain
      (also repeat_max_plain
      (also repeat_min_max_plain
      (also number_atomic
      (also integer_atomic
      (also comma_plain
      (also push__plain
      (also push_literal__plain
      (also peek_slice_plain
      (also identifier_atomic
      (also alpha_plain_apart
      (also alpha_num_plain_apart
      (also string_compound
      (also insensitive_string_plain
      (also range_plain
      (also character_compound
      (also inner_str_atomic
      (also inner_chr_atomic
      (also escape_atomic
      (also code_atomic
      (also unicode_atomic
      (also hex_digit_atomic
      (also quote_plain
      (also single_quote_plain
      (also range_operator_plain
      (also newline_plain_apart
      (also WHITESPACE_atomic_apart
      (also line_comment_plain_apart
      (also block_comment_plain_apart
      (also COMMENT_atomic_apart
      (also space_plain_apart
      (also grammar_doc_compound
      (also line_doc_compound
      (also inner_doc_atomic
      (also number_atomic_apart
      (also quote_compound
      (also single_quote_compound
      (also escape_atomic_apart
      (also inner_str_atomic_apart
      (also code_atomic_apart
      (also unicode_atomic_apart
      done))))))))))))))))))))))))))))))))))))))))))))))))))))))))))))))))))))))))))))))))))))))))))))))))))))))))))))))))))))))))))))))))))))))))))

  has_call : (r : Rule) → IsPoint called (Run NonAtomicMode (Ident (name_of r))) (number_of (name_of r) + 3) 1 2
  unfolding called
  has_call rule.EOI = at_point called 0 refl refl
  has_call rule.grammar_rules = at_point called 1 refl refl
  has_call rule.grammar_rule = at_point called 2 refl refl
  has_call rule.assignment_operator = at_point called 3 refl refl
  has_call rule.opening_brace = at_point called 4 refl refl
  has_call rule.closing_brace = at_point called 5 refl refl
  has_call rule.opening_paren = at_point called 6 refl refl
  has_call rule.closing_paren = at_point called 7 refl refl
  has_call rule.opening_brack = at_point called 8 refl refl
  has_call rule.closing_brack = at_point called 9 refl refl
  has_call rule.modifier = at_point called 10 refl refl
  has_call rule.silent_modifier = at_point called 11 refl refl
  has_call rule.atomic_modifier = at_point called 12 refl refl
  has_call rule.compound_atomic_modifier = at_point called 13 refl refl
  has_call rule.non_atomic_modifier = at_point called 14 refl refl
  has_call rule.tag_id = at_point called 15 refl refl
  has_call rule.node_tag = at_point called 16 refl refl
  has_call rule.expression = at_point called 17 refl refl
  has_call rule.term = at_point called 18 refl refl
  has_call rule.node = at_point called 19 refl refl
  has_call rule.terminal = at_point called 20 refl refl
  has_call rule.prefix_operator = at_point called 21 refl refl
  has_call rule.infix_operator = at_point called 22 refl refl
  has_call rule.postfix_operator = at_point called 23 refl refl
  has_call rule.positive_predicate_operator = at_point called 24 refl refl
  has_call rule.negative_predicate_operator = at_point called 25 refl refl
  has_call rule.sequence_operator = at_point called 26 refl refl
  has_call rule.choice_operator = at_point called 27 refl refl
  has_call rule.optional_operator = at_point called 28 refl refl
  has_call rule.repeat_operator = at_point called 29 refl refl
  has_call rule.repeat_once_operator = at_point called 30 refl refl
  has_call rule.repeat_exact = at_point called 31 refl refl
  has_call rule.repeat_min = at_point called 32 refl refl
  has_call rule.repeat_max = at_point called 33 refl refl
  has_call rule.repeat_min_max = at_point called 34 refl refl
  has_call rule.number = at_point called 35 refl refl
  has_call rule.integer = at_point called 36 refl refl
  has_call rule.comma = at_point called 37 refl refl
  has_call rule._push = at_point called 38 refl refl
  has_call rule._push_literal = at_point called 39 refl refl
  has_call rule.peek_slice = at_point called 40 refl refl
  has_call rule.identifier = at_point called 41 refl refl
  has_call rule.alpha = at_point called 42 refl refl
  has_call rule.alpha_num = at_point called 43 refl refl
  has_call rule.string = at_point called 44 refl refl
  has_call rule.insensitive_string = at_point called 45 refl refl
  has_call rule.range = at_point called 46 refl refl
  has_call rule.character = at_point called 47 refl refl
  has_call rule.inner_str = at_point called 48 refl refl
  has_call rule.inner_chr = at_point called 49 refl refl
  has_call rule.escape = at_point called 50 refl refl
  has_call rule.code = at_point called 51 refl refl
  has_call rule.unicode = at_point called 52 refl refl
  has_call rule.hex_digit = at_point called 53 refl refl
  has_call rule.quote = at_point called 54 refl refl
  has_call rule.single_quote = at_point called 55 refl refl
  has_call rule.range_operator = at_point called 56 refl refl
  has_call rule.newline = at_point called 57 refl refl
  has_call rule.WHITESPACE = at_point called 58 refl refl
  has_call rule.line_comment = at_point called 59 refl refl
  has_call rule.block_comment = at_point called 60 refl refl
  has_call rule.COMMENT = at_point called 61 refl refl
  has_call rule.space = at_point called 62 refl refl
  has_call rule.grammar_doc = at_point called 63 refl refl
  has_call rule.line_doc = at_point called 64 refl refl
  has_call rule.inner_doc = at_point called 65 refl refl

  pub fast_code : IsCodeOfMetaGrammar false classes code
  fast_code =
      let w = whole_code false meta_grammar classes code number_of called all_bodies in
      record {
        fail = has_op s 0 refl;
        halt = has_op s 1 refl;
        lose = has_op s 2 refl;
        points = w.0;
        laid = w.1;
        entries = λ r. w.2 (Run NonAtomicMode (Ident (name_of r))) (number_of (name_of r) + 3) 1 2 (has_call r);
      }
