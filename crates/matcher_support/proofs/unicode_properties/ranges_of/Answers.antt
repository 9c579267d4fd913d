use Rattle.std.proofs.Common.{rules, ◌≡◌, ◌∙◌, ap, sym, None, Some, chars}
use Rattle.std.proofs.lemmas.Str.{chars_from_encodes}
use Rattle.std.specs.Prelude.{is_some}
use Rattle.matcher_support.proofs.Ranges.{of_name}
use Rattle.matcher_support.proofs.unicode_properties.ranges_of.Goals as goal
use Rattle.ucd_sets.specs.Lookup.{by_name}
use Rattle.ucd_sets.specs.Loose.{normalize}

pub returns-in-Ok-clause-known : goal.returns-in-Ok-clause-known
returns-in-Ok-clause-known c =
    let letters : c.deref.result.now ≡ chars c.args.name.now = search (rules, chars_from_encodes) in
    let same : c.deref-2.result.now ≡ normalize (chars c.args.name.now) =
    c.deref-2.ensures.value ∙ (c.in_ok-plain.ensures ∙ ap normalize letters) in
    let is : by_name (normalize (chars c.args.name.now)) ≡ Some c.in-Ok.set =
    ap by_name (sym same) ∙ c.in-Ok.ensures.found in
    sym (ap is_some is)

pub returns-in-Ok-clause-ranges : goal.returns-in-Ok-clause-ranges
returns-in-Ok-clause-ranges c =
    let letters : c.deref.result.now ≡ chars c.args.name.now = search (rules, chars_from_encodes) in
    let same : c.deref-2.result.now ≡ normalize (chars c.args.name.now) =
    c.deref-2.ensures.value ∙ (c.in_ok-plain.ensures ∙ ap normalize letters) in
    let is : by_name (normalize (chars c.args.name.now)) ≡ Some c.in-Ok.set =
    ap by_name (sym same) ∙ c.in-Ok.ensures.found in
    of_name (chars c.args.name.now) c.in-Ok.set c.in_ok-ranges-in-Ok.field-0.items is
    c.in_ok-ranges-in-Ok.ensures.members

pub returns-clause-known : goal.returns-clause-known
returns-clause-known c =
    let letters : c.deref.result.now ≡ chars c.args.name.now = search (rules, chars_from_encodes) in
    let same : c.deref-2.result.now ≡ normalize (chars c.args.name.now) =
    c.deref-2.ensures.value ∙ (c.in_ok-plain.ensures ∙ ap normalize letters) in
    let is : by_name (normalize (chars c.args.name.now)) ≡ None =
    ap by_name (sym same) ∙ c.in-Err.ensures.found in
    sym (ap is_some is)
