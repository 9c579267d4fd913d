use Rattle.std.proofs.Common.{chars, subst, List, Bor, ℕ}
use Rattle.std.proofs.lemmas.List.{take_all}
use Rattle.base_language.specs.Language.Builtins.{is_one_of}
use Rattle.lint_warnings.specs.Lists.{HasNames, texts_of}
use Rattle.lint_warnings.proofs.Names.{name_more}
use Rattle.lint_warnings.proofs.rules.names_of.Goals as goal

pub loop-name-preserved : goal.loop-name-preserved
loop-name-preserved c = λ other u.
    name_more c.args.names.now c.loop-name.name-index _ (chars other) _ _ c.loop-name-test.true
    (c.in_ok-add_name.ensures other u) (c.loop-name.invariant other u)

pub returns : goal.returns
returns c =
    let P : List (Bor (List ℕ)) → Type 0 = λ names. HasNames (is_one_of (texts_of names)) c.loop-name.set in
    subst P (take_all c.loop-name.name-index c.args.names.now c.loop-name-test.false) c.loop-name.invariant
