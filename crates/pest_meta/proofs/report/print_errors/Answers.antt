use Rattle.std.proofs.Common.{◌≡◌, [], length, codes, ◌++◌, take, drop, ◌-◌, refl, ap, ◌∙◌, arith, string_bytes}
use Rattle.std.proofs.lemmas.List.{nil_from_length}
use Rattle.base_language.specs.Pieces.PrintedError.{error_text}
use Rattle.pest_meta.specs.Reports.{empty_line}
use Rattle.pest_meta.proofs.Reporting.{joined}
use Rattle.pest_meta.proofs.report.print_errors.Goals as goal
use Rattle.pest_meta.proofs.report.print_errors.Goals.{in_default, in-len1-up+in_ok-write+else-loop-error-test}

pub returns : goal.returns
returns c = elim c.if-errors-lt1.branch [
  | in_default w ↦
      let none : c.args.errors.now ≡ [] = nil_from_length _ (let n = w.in_default.len_below in omega arith) in
      rw (w.text-is, none) c.in_ok-text.ensures.ok
  | in-len1-up+in_ok-write+else-loop-error-test w ↦
      let errors = c.args.errors.now in
      let others = take (length errors - 1) (drop 1 errors) in
      let first = w.in_ok-write.ensures.bytes ∙ ap (λ t. t ++ error_text w.first-item.result) c.in_ok-text.ensures.ok in
      rw w.text-is
      (joined error_text empty_line (codes "grammar error" ++ empty_line) errors others w.first-item.result w.loop-error.error-index
      (string_bytes w.write.new.self) (string_bytes w.loop-error.text) w.in-len1-up.len_at_least w.first-item.is refl
      w.loop-error-test.false first w.loop-error.invariant)
]
