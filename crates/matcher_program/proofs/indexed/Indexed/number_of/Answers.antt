use Rattle.std.proofs.Common.{◌≡◌, subst, chars, rules}
use Rattle.std.specs.HashMap.{get_by_text}
use Rattle.base_ast.specs.Optimized.{optimized_rules_of}
use Rattle.matcher_program.specs.Programs.{IsSkippedRule}
use Rattle.matcher_program.proofs.indexed.Indexed.number_of.Goals as goal

pub returns : goal.returns
returns c =
    let found : get_by_text c.args.self.now.numbers c.args.name.now ≡ c.copied.result = search rules in
    subst (IsSkippedRule (optimized_rules_of c.args.self.now.rules.now) (chars c.args.name.now)) found (c.requires c.args.name.now c.utf8.name)
