use Rattle.std.proofs.Common.{◌++◌, ◌≡◌, ◌∙◌, ap, sym, subst, Some, None, string_bytes}
use Rattle.std.specs.Prelude.{IfSome, IfNone}
use Rattle.std.specs.Option.{option_map}
use Rattle.std.proofs.lemmas.Option.{slice_get-get_or, slice_get-map, slice_get_within}
use Rattle.base_language.proofs.Basics.{one_item}
use Rattle.std.specs.List.{join_by}
use Rattle.std.proofs.lemmas.Str.{encodes-chars, IsUtf8-string_bytes}
use Rattle.base_language.specs.Pieces.Saying.{written}
use Rattle.front_names.specs.Messages.{arrow, left_recursion}
use Rattle.front_spanned.specs.Nodes.{rule_view, rule_views, piece_of}
use Rattle.front_validator.specs.LeftRecursion.{arrows}
use Rattle.front_spanned.specs.Spanned.{span_of}
use Rattle.front_spanned.specs.declared.node.ParserRule.{ParserRule}
use Rattle.front_validator.specs.Findings.{not_recursive}
use Rattle.front_validator.specs.Searching.{IsClosing, IsSearchResult, NeverComesBack}
use Rattle.front_validator.specs.declared.recursions.ClosedTrail.{ClosedTrail}
use Rattle.front_validator.proofs.RecursionLemmas.{view_at, told_right}
use Rattle.front_validator.proofs.ReportingLemmas.{span_got}
use Rattle.front_validator.proofs.recursions.recursion_at.Goals as goal

pub returns-in-None-clause-nothing : goal.returns-in-None-clause-nothing
returns-in-None-clause-nothing c =
    let rs = c.args.guide.rules.now in
    let place = c.args.place in
    let roots = c.args.guide.facts.now.table.roots.items in
    let (r, at) = view_at rs place c.requires.inside in
    let none = subst (λ o. IfNone o (IsSearchResult rs roots place None × NeverComesBack rs roots place)) c.in-None.is c.in_ok-find_trail.ensures.none in
    not_recursive at (c.requires.last r at) (none.0 r at)

pub returns-in-None-clause-never : goal.returns-in-None-clause-never
returns-in-None-clause-never c =
    let rs = c.args.guide.rules.now in
    let roots = c.args.guide.facts.now.table.roots.items in
    let none = subst (λ o. IfNone o (IsSearchResult rs roots c.args.place None × NeverComesBack rs roots c.args.place)) c.in-None.is c.in_ok-find_trail.ensures.none in
    none.1

pub returns-in_ok-cycle-in-Some-clause-some : goal.returns-in_ok-cycle-in-Some-clause-some
returns-in_ok-cycle-in-Some-clause-some c =
    let rs = c.args.guide.rules.now in
    let place = c.args.place in
    let roots = c.args.guide.facts.now.table.roots.items in
    let spans = c.args.spans.now in
    let (r, at) = view_at rs place c.requires.inside in
    let closed = c.in-Some.closed in
    let closing = subst (λ o. IfSome o (λ (k : ClosedTrail). IsClosing rs roots place k.call k.trail.items)) c.in-Some.is c.in_ok-find_trail.ensures.some in
    let span = c.index-spans-closed.result in
    let (s, got, same) = span_got rs c.args.guide.facts.now c.requires.guide.facts spans c.requires.spans closed.call closing.call closing.here in
    let one : s ≡ span = one_item got (slice_get-get_or spans closed.call span (slice_get_within spans closed.call s got) ∙ ap Some (sym c.index-spans-closed.is)) in
    let here : piece_of span ≡ span_of closing.call = ap piece_of (sym one) ∙ same in
    let rule = c.index-rules-place.result in
    let first : rule_view rule ≡ r = one_item (slice_get-map rule_view rs place ∙ ap (option_map rule_view) (slice_get-get_or rs place rule c.requires.inside ∙ ap Some (sym c.index-rules-place.is))) at in
    let text = written (piece_of span) in
    let names = c.in_ok-cycle-in-Some.cycle in
    let lent = c.as_str-first.ensures.value ∙ ap (λ (r : ParserRule). string_bytes r.name) (sym c.index-rules-place.is) in
    let last = lent ∙ sym (encodes-chars (string_bytes rule.name) (IsUtf8-string_bytes rule.name)) in
    let message = left_recursion text (join_by string_bytes arrow names.items) in
    told_right rs place r (rule_view rule) closed.trail.items c.as_slice.result.now message (span_of closing.call) (piece_of span) at (c.requires.last r at) (closing.sought r at)
    c.as_slice.ensures.value first here (ap (left_recursion text) (c.in_ok-cycle-in-Some.ensures ∙ ap (λ z. arrows (rule_views rs) c.as_slice.result.now ++ z) last))
