-- What is so of rules that are written out, if it is so of those that are read.
use Rattle.std.proofs.Common.{ℕ, List, Result, IfOk}
use Rattle.std.proofs.lemmas.Result.{IfOk-weaker}
use Rattle.std.specs.Borrow.{Bor}
use Rattle.std.specs.Str.{IsUtf8}
use Rattle.std.specs.declared.alloc.Global.{Global}
use Rattle.std.specs.declared.vec.Vec.{Vec}
use Rattle.base_ast.specs.Optimized.{optimized_rules_of}
use Rattle.base_ast.specs.declared.optimized.OptimizedRule.{OptimizedRule}
use Rattle.base_language.specs.Language.CharacterBounds.{HasCharacterBounds}
use Rattle.base_language.specs.Language.Expression.{Grammar}
use Rattle.base_language.specs.Language.KnownNames.{HasKnownNames}
use Rattle.base_language.specs.Rewritings.Rewriting.{EachBody}
use Rattle.front_optimizer.specs.Written.{AreWrittenOut}
use Rattle.front_spanned.specs.Erasure.{rules_without_spans}
use Rattle.front_spanned.specs.Spanned.{SpannedRule}
use Rattle.pest_meta.specs.WithSpans.{SpellsWithSpans}
use Rattle.pest_meta.proofs.CharacterBounds.{bounds_on, read_bounds}
use Rattle.pest_meta.proofs.KnownNames.{known_on, spelled_known}
use Rattle.pest_meta.proofs.NothingNew.{HasNothingNew, kept_by_unrolling}
use Rattle.pest_meta.proofs.Promised.{read_builtins}

module _ {E : Type 0} (text : List ℕ) (utf8 : IsUtf8 text) (builtins : List (Bor (List ℕ))) (read : List SpannedRule) (answer : Result (Vec OptimizedRule Global) E)
    (s : SpellsWithSpans text builtins read) (out : IfOk answer (λ answer. AreWrittenOut (rules_without_spans read) (optimized_rules_of answer.items))) where
  abbrev rules : Grammar
  rules = rules_without_spans read

  kept_out : (P : Grammar → Type 0) → ((g h : Grammar) → EachBody HasNothingNew g h → P g → P h) → P rules → IfOk answer (λ answer. P (optimized_rules_of answer.items))
  kept_out P keeps x =
      IfOk-weaker answer (λ answer. AreWrittenOut rules (optimized_rules_of answer.items)) (λ answer. P (optimized_rules_of answer.items))
      (λ answer w. kept_by_unrolling P keeps rules (optimized_rules_of answer.items) w x) out

  pub written_known : IfOk answer (λ answer. HasKnownNames (optimized_rules_of answer.items))
  written_known =
      let outside = read_builtins text utf8 s.trees rules builtins s.of_text s.well_named s.uses s.accepted.give in
      kept_out HasKnownNames known_on (spelled_known rules builtins outside)

  pub written_bounds : IfOk answer (λ answer. HasCharacterBounds (optimized_rules_of answer.items))
  written_bounds = kept_out HasCharacterBounds bounds_on (read_bounds text utf8 s.trees rules s.of_text s.accepted.give)
