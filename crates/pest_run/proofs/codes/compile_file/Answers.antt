use Rattle.std.proofs.Common.{◌≡◌, List, ℕ, false, true, inl, refl, subst}
use Rattle.front_spanned.specs.Nodes.{rule_views}
use Rattle.pest_meta.specs.WithSpans.{SpellsWithSpans}
use Rattle.pest_run.proofs.codes.compile_file.Goals as goal

pub returns-in_default-clause-tells_unread : goal.returns-in_default-clause-tells_unread
returns-in_default-clause-tells_unread g c = λ three.
    record {
      source = c.args.grammar.now;
      given = inl refl;
      unreadable = λ r. (let no : false ≡ true = c.in_default.ensures.readable.1 r in cc);
      line = c.unreadable.ensures.tells;
    }

pub returns-in-Ok-clause-compiled : goal.returns-in-Ok-clause-compiled
returns-in-Ok-clause-compiled g c =
    let opened = c.in-Ok.opened in
    let P : List ℕ → Type 0 = λ t. SpellsWithSpans t opened.builtins.items (rule_views opened.rules.value.items) in
    c.compile_opened.ensures.compiled c.args.grammar.now.bytes.items (subst P c.in-Some.ensures.text c.in-Ok.ensures.rules)

pub refuse_grammar-requires : goal.refuse_grammar-requires
refuse_grammar-requires g c = c.in-Err.ensures.refused
