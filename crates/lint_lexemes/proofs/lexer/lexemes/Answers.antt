use Rattle.std.proofs.Common.{◌≡◌, ◌≤◌, [], ◌∷◌, ◌++◌, append-nil, ap, arith, length, subst, sym}
use Rattle.lint_lexemes.specs.Lexemes.{AreInOrder}
use Rattle.lint_lexemes.specs.declared.lexer.Lexeme.{Lexeme}
use Rattle.lint_lexemes.proofs.InOrder.{lower, one_more}
use Rattle.lint_lexemes.proofs.lexer.lexemes.Goals.{in-Some+in_ok-push, in_default}
use Rattle.lint_lexemes.proofs.lexer.lexemes.Goals as goal

pub loop-start-preserved : goal.loop-start-preserved
loop-start-preserved c =
    let n = length c.args.text.now in
    let bytes = ap length c.as_bytes-bytes.ensures.value in
    let ends : c.scan-class.result.1 ≤ n = omega (arith, bytes, c.scan-class.ensures.within) in
    record {
      within = ends;
      rest = λ more o. elim c.match-class.branch [
        | in-Some+in_ok-push w ↦
            let x : Lexeme = record { class = w.in-Some.class; start = c.loop-start.start; end = c.scan-class.result.1 } in
            let e : c.match-class.lexemes.items ≡ c.loop-start.lexemes.items ++ x ∷ [] = cc (w.in_ok-push.ensures.items) in
            subst (λ l. AreInOrder 0 (l ++ more) n) (sym e) (one_more c.loop-start.next n c.loop-start.lexemes.items more x c.loop-start.invariant.rest c.if-start-next.false c.scan-class.ensures.after o)
        | in_default w ↦
            let e : c.match-class.lexemes.items ≡ c.loop-start.lexemes.items = cc in
            subst (λ l. AreInOrder 0 (l ++ more) n) (sym e) (c.loop-start.invariant.rest more (lower c.scan-class.result.1 c.loop-start.next more n (omega arith) o))
      ];
    }

pub returns : goal.returns
returns c = rw append-nil at (c.loop-start.invariant.rest [] c.loop-start.invariant.within)
