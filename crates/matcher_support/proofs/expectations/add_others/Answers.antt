use Rattle.std.proofs.Common.{◌≡◌, ◌-◌, ◌∙◌, ap, sym, [], ◌++◌, ◌==◌, append-nil, arith, add-one, drop, length}
use Rattle.std.specs.Prelude.{string_bytes}
use Rattle.std.proofs.Math.ListN.{drop_of_length-le}
use Rattle.matcher_program.specs.ExpectedNames.{name_texts}
use Rattle.matcher_support.specs.Expectations.{other_names}
use Rattle.matcher_support.proofs.NameLists.{one_more}
use Rattle.matcher_support.proofs.expectations.add_others.Goals as goal

pub loop-name-preserved : goal.loop-name-preserved
loop-name-preserved c =
    let i = c.loop-name.invariant in
    record {
      counted = omega (arith, i.counted, c.loop-name-test.true);
      written = rw add-one (one_more _ c.args.names.now c.loop-name.name-index _ c.loop-name-test.true (c.loop-name.following - 1) (string_bytes c.loop-name.message) (string_bytes c.add_name.new.message) c.name_separator.result.now (omega (arith, i.counted, c.loop-name-test.true)) c.name_separator.ensures c.in_ok-add_name.ensures ∙ i.written);
    }

pub returns : goal.returns
returns c =
    let i = c.loop-name.invariant in
    let d : drop c.loop-name.name-index c.args.names.now ≡ [] = drop_of_length-le c.args.names.now c.loop-name-test.false in
    sym (append-nil _) ∙ (ap (λ xs. string_bytes c.loop-name.message ++ other_names (length c.args.names.now == 1) (name_texts xs)) (sym d) ∙ i.written)
