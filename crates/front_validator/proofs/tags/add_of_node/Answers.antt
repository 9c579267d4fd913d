use Rattle.std.proofs.Common.{◌∙◌, ◌++◌, [], ap, append-nil, sym}
use Rattle.std.specs.Option.{option_map}
use Rattle.front_spanned.specs.Nodes.{view, piece_of}
use Rattle.front_spanned.specs.Spanned.{span_of}
use Rattle.front_spanned.proofs.Places.{span_at}
use Rattle.front_analysis.specs.Names.{grammar_of}
use Rattle.base_language.specs.Pieces.Saying.{written}
use Rattle.front_validator.specs.Problems.{message_of}
use Rattle.front_validator.specs.Reporting.{findings_of}
use Rattle.front_validator.specs.Tags.{message_at, told_at}
use Rattle.front_validator.proofs.TagLemmas.{told_more}
use Rattle.front_validator.proofs.tags.add_of_node.Goals as goal

pub returns-in_ok-push : goal.returns-in_ok-push
returns-in_ok-push c =
    let node = c.args.node.now in
    let text = written (piece_of node.span) in
    ap findings_of c.in_ok-push.ensures.items
    ∙ told_more c.args.found.now.items _ (span_of (view node)) (message_at (grammar_of c.args.rules.now) (view node))
    (sym (c.problem_of.ensures text) ∙ ap (option_map (λ p. message_of p text)) c.in-Some.is)
    (span_at (piece_of node.span) node.expr)

pub returns-in_default : goal.returns-in_default
returns-in_default c =
    let node = c.args.node.now in
    let found = findings_of c.args.found.now.items in
    let none = sym (c.problem_of.ensures []) ∙ ap (option_map (λ p. message_of p [])) c.in_default.is in
    sym (ap (λ m. found ++ told_at (span_of (view node)) m) none ∙ append-nil found)
