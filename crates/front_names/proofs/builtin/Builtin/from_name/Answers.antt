use Rattle.std.proofs.Common.{◌≡◌, false, sym, ◌∙◌, ap, bytes_eq}
use Rattle.base_language.specs.Language.Builtins.{is_one_of}
use Rattle.front_names.specs.Builtins.{builtin_names, name_of}
use Rattle.front_names.proofs.BuiltinLemmas.{found_named, next_named, none_left, not_capital, unlisted, unnamed}
use Rattle.front_names.proofs.builtin.Builtin.from_name.Goals as goal

pub returns-then-not-begins_with_capital : goal.returns-then-not-begins_with_capital
returns-then-not-begins_with_capital c =
    let listed = not_capital c.args.name.now (sym c.begins_with_capital.ensures ∙ c.if-not-begins_with_capital.true) in
    record { written = tt; named = tt; unwritten = listed; unnamed = unnamed c.args.name.now c.utf8.name listed }

pub returns-then-eq-clause-named : goal.returns-then-eq-clause-named
returns-then-eq-clause-named c = found_named _ c.name.result.now c.args.name.now c.name.ensures (sym c.eq.ensures ∙ c.if-eq.true)

pub loop-builtin-preserved : goal.loop-builtin-preserved
loop-builtin-preserved c =
    let differs = ap (λ w. bytes_eq w c.args.name.now) (sym c.name.ensures) ∙ (sym c.eq.ensures ∙ c.if-eq.false) in
    c.loop-builtin.invariant ∙ next_named name_of c.all-builtin-items.result.now c.loop-builtin.builtin-index _ c.args.name.now c.loop-builtin-test.true differs

pub returns : goal.returns
returns c =
    let none = c.loop-builtin.invariant ∙ none_left name_of c.all-builtin-items.result.now c.loop-builtin.builtin-index c.args.name.now c.loop-builtin-test.false in
    let listed : is_one_of builtin_names c.args.name.now ≡ false = unlisted c.all-builtin-items.result.now c.args.name.now c.all-builtin-items.ensures none in
    record { written = tt; named = tt; unwritten = listed; unnamed = unnamed c.args.name.now c.utf8.name listed }
