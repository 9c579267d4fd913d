use Rattle.std.proofs.Common.{◌∙◌, map}
use Rattle.std.proofs.lemmas.Bool.Decides.{Decides-at}
use Rattle.base_ast.specs.Ast.{text_of}
use Rattle.base_language.specs.Rewritings.Equality.{texts_eq-Decides}
use Rattle.base_ast.proofs.Characters.{strings_eq-text_of}
use Rattle.base_ast.proofs.texts.same_texts.Goals as goal

pub returns-clause-computed : goal.returns-clause-computed
returns-clause-computed c = c.eq.ensures ∙ strings_eq-text_of c.args.ss.now.items c.args.ts.now.items

pub returns-clause-exact : goal.returns-clause-exact
returns-clause-exact c =
    Decides-at _ _
    (c.eq.ensures ∙ strings_eq-text_of c.args.ss.now.items c.args.ts.now.items)
    (texts_eq-Decides (map text_of c.args.ss.now.items) (map text_of c.args.ts.now.items))
