use Rattle.front_syntax.proofs.Parsing.{fails_at, fails_on_character, refuses, spelled_nodes}
use Rattle.front_syntax.proofs.grammar.match_nodes.Goals as goal

pub returns-in-Some : goal.returns-in-Some
returns-in-Some c = spelled_nodes c.args.rule c.args.text.now _ _ c.in-Some.is c.in_ok-end.ensures

pub returns-in-None : goal.returns-in-None
returns-in-None c =
    refuses c.args.rule c.args.text.now _ c.syntax_error.result (fails_at c.args.rule c.args.text.now _ c.in-None.is c.in_ok-end.ensures) c.syntax_error.ensures

pub syntax_error-requires : goal.syntax_error-requires
syntax_error-requires c =
    fails_on_character c.args.rule c.args.text.now _ c.utf8.text (fails_at c.args.rule c.args.text.now _ c.in-None.is c.in_ok-end.ensures)
