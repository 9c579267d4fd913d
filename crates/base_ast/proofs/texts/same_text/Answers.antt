use Rattle.std.proofs.Common.{◌∙◌}
use Rattle.std.proofs.lemmas.Bool.Decides.{Decides-at}
use Rattle.base_ast.specs.Ast.{text_of}
use Rattle.base_language.specs.Rewritings.Equality.{text_eq-Decides}
use Rattle.base_ast.proofs.Characters.{string_eq-text_of}
use Rattle.base_ast.proofs.texts.same_text.Goals as goal

pub returns-clause-computed : goal.returns-clause-computed
returns-clause-computed c = c.eq.ensures ∙ string_eq-text_of c.args.s.now c.args.t.now

pub returns-clause-exact : goal.returns-clause-exact
returns-clause-exact c =
    Decides-at _ _ (c.eq.ensures ∙ string_eq-text_of c.args.s.now c.args.t.now) (text_eq-Decides (text_of c.args.s.now) (text_of c.args.t.now))
