-- Calls of silent rules that match one character.
use Rattle.std.proofs.Common.{◌≡◌, refl, ◌∙◌, ap, subst, ℕ, ◌<◌, ◌||◌, Bool, true, false, sym, List, bytes_eq, get_or, length}
use Rattle.base_ast.specs.Ast.{rule_type_of}
use Rattle.base_language.specs.Language.Expression.{Silent, comment, whitespace}
use Rattle.base_language.specs.Language.Matching.{character_outcome}
use Rattle.base_language.specs.Language.Meaning.{Run, body_mode, gives_token, inherited, mode_in}
use Rattle.matcher_code.specs.Failures.{in_silence}
use Rattle.matcher_code.specs.Laid.{HasOutcome}
use Rattle.matcher_code.proofs.Characters.{silent_call_of_set}
use Rattle.matcher_program.specs.declared.form.Form.TheVariants as form
use Rattle.matcher_program.specs.declared.form.Program.{Program}
use Rattle.matcher_program.specs.declared.form.ProgramRule.{ProgramRule}
use Rattle.matcher_program.specs.Programs.{IsRuleOf, name_at, names_of}
use Rattle.matcher_sets.specs.declared.modes.Atomicity.{Atomicity}
use Rattle.matcher_sets.specs.declared.modes.Atomicity.TheVariants as mode
use Rattle.matcher_sets.specs.Differences.{HasRanges}
use Rattle.matcher_sets.specs.Forms.{grammar_in, said}
use Rattle.matcher_sets.specs.Modes.{mode_of}
use Rattle.matcher_sets.proofs.Rules.{made, meant_is}

-- the mode in which a silent rule runs
inner_mode : (b : Bool) (m : Atomicity) → (k : Atomicity) × (mode_of k ≡ inherited b (mode_of m))
inner_mode true m = (mode.Atomic, refl)
inner_mode false mode.NonAtomic = (mode.NonAtomic, refl)
inner_mode false mode.Atomic = (mode.Atomic, refl)
inner_mode false mode.CompoundAtomic = (mode.CompoundAtomic, refl)

pub call_has : (p : Program) (rule : ℕ) (program_rule : ProgramRule) (within : rule < length p.rules.items) (is : program_rule ≡ get_or p.rules.items rule program_rule)
    → IsRuleOf (grammar_in p) (name_at (names_of p.rules.items) rule) rule → rule_type_of program_rule.kind ≡ Silent
    → (ranges : List (ℕ × ℕ)) → HasRanges p program_rule.body ranges → HasRanges p (form.Call rule) ranges
call_has p rule program_rule within is meant silent ranges has classes fits =
    let r = made p rule program_rule within is in
    let x = has classes fits in
    let blank = bytes_eq r.name whitespace || bytes_eq r.name comment in
    record {
      characters = x.characters;
      covers = x.covers;
      holds = λ m.
          let k = inner_mode blank m in
          let e : mode_of k.0 ≡ body_mode r (mode_of m) = k.1 ∙ ap (λ t. mode_in t blank (mode_of m)) (sym silent) in
          silent_call_of_set (grammar_in p) classes (mode_of m) (name_at (names_of p.rules.items) rule) r x.characters (meant_is p rule program_rule within is meant)
          (ap (λ t. gives_token t (mode_of m)) silent)
          (subst (λ z. HasOutcome (grammar_in p) classes (Run z (said p program_rule.body)) (character_outcome x.characters) in_silence) e (x.holds k.0));
    }
