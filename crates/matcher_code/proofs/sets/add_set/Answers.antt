use Rattle.std.proofs.Common.{rules, arith, ap, ◌∙◌, ◌≡◌, ◌++◌, ◌∷◌, [], ◌*◌, length}
use Rattle.std.proofs.lemmas.Grind.{common_steps}
use Rattle.matcher_code.specs.declared.code.Code.{Code}
use Rattle.matcher_code.specs.Lists.{is_covered, lists_of}
use Rattle.matcher_code.specs.Sets.{IsByteSetOf}
use Rattle.matcher_code.proofs.SetLemmas.{last_mapped, set_added}
use Rattle.matcher_code.proofs.sets.add_set.Goals as goal

pub returns-clause-means : goal.returns-clause-means
returns-clause-means c =
    let byte_sets : c.extend_from_slice.new.self.items ≡ c.args.code.now.byte_sets.items ++ c.in_ok-byte_set.byte_set.items = grind (arith, common_steps) in
    let sets : c.push.new.self.items ≡ c.args.code.now.ranges.items ++ c.new.result ∷ [] = grind (arith, common_steps) in
    let number : c.len-set.result ≡ length c.args.code.now.ranges.items = grind (arith, common_steps) in
    let long : length c.args.code.now.byte_sets.items ≡ c.len-set.result * 256 = grind (arith, common_steps) in
    let told : IsByteSetOf c.args.ranges.items c.in_ok-byte_set.byte_set.items = search rules in
    let new : Code = record {
      ops = c.args.code.now.ops;
      byte_sets = c.extend_from_slice.new.self;
      ranges = c.push.new.self;
      tables = c.args.code.now.tables;
      texts = c.args.code.now.texts;
      lists = c.args.code.now.lists;
    } in
    set_added (lists_of new) c.args.code.now.byte_sets.items c.in_ok-byte_set.byte_set.items c.args.ranges.items c.len-set.result byte_sets long told
    (last_mapped (λ t. is_covered t.ranges.items) c.args.code.now.ranges.items c.push.new.self.items c.new.result c.len-set.result sets number ∙ ap (λ r. is_covered r.items) c.new.ensures)
