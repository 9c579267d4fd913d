use Rattle.base_language.specs.Language.Expression.{Ident}
use Rattle.base_language.specs.Pieces.MetaRules.{name_of}
use Rattle.base_language.proofs.SomeRule.{names_readable}
use Rattle.front_grammar.specs.MetaGrammar.{meta_grammar}
use Rattle.front_grammar.proofs.Lookup.{each_ends}
use Rattle.front_grammar.proofs.laws.each_rule_has_one_outcome.Goals as goal

pub returns : goal.returns
returns c = record {
  has_one = λ classes r m s.
      let w = c.meta_grammar_is_well_formed.ensures in
      each_ends classes m s (λ n q h.
      let counts = names_readable meta_grammar w.counts in
      let d = c.terminates.ensures meta_grammar classes (record { name = n; rule = q; defined = h; mode = m; state = s }) counts w.well_formed w.plain in
      (d.0, d.1)) r;
  only_one = λ classes r m s o p x y. c.one_outcome.ensures meta_grammar classes (Ident (name_of r)) m s o p x y;
}
