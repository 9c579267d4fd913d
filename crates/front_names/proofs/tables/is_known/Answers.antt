use Rattle.std.proofs.Common.{◌∙◌, sym, ap, is_some}
use Rattle.base_language.specs.Language.Builtins.{builtin_of, is_one_of}
use Rattle.front_names.proofs.BuiltinLemmas.{named_meaning}
use Rattle.front_names.proofs.Names.{known-else}
use Rattle.front_names.proofs.tables.is_known.Goals as goal

pub returns-in-Some : goal.returns-in-Some
returns-in-Some c = sym (ap (λ n. is_some (builtin_of n)) c.in-Some.ensures.written ∙ ap is_some (named_meaning c.in-Some.field-0))

pub returns-in-None : goal.returns-in-None
returns-in-None c =
    let n = c.args.name.now in
    c.is_among.ensures ∙ ap (λ ns. is_one_of ns n) c.unicode_property_names.ensures ∙ sym (known-else n c.in-None.ensures.unwritten)
