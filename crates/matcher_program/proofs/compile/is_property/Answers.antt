use Rattle.std.proofs.Common.{◌≡◌, true, chars, map, ap, sym, ◌∙◌, ◌||◌, suc, add-one, drop, []}
use Rattle.std.proofs.Math.ListN.{drop_of_length-le}
use Rattle.base_language.specs.Language.Builtins.{is_one_of}
use Rattle.matcher_program.proofs.Compiling.{are_property_names, next_name}
use Rattle.matcher_program.proofs.compile.is_property.Goals as goal

pub returns-then-same : goal.returns-then-same
returns-then-same c =
    let n = chars c.args.name.now in
    let xs = c.unicode_property_names-names.result.now in
    let i = c.loop-property.property-index in
    let e : true ≡ is_one_of (map (λ p. chars p.now) xs) n = sym (c.loop-property.invariant ∙ (next_name xs i _ n c.loop-property-test.true ∙ ap (λ b. b || is_one_of (map (λ p. chars p.now) (drop (suc i) xs)) n) (sym c.same.ensures ∙ c.if-same.true))) in
    e ∙ ap (λ ts. is_one_of ts n) (are_property_names xs c.unicode_property_names-names.ensures)

pub loop-property-preserved : goal.loop-property-preserved
loop-property-preserved c =
    let n = chars c.args.name.now in
    let xs = c.unicode_property_names-names.result.now in
    let i = c.loop-property.property-index in
    rw add-one (c.loop-property.invariant ∙ (next_name xs i _ n c.loop-property-test.true ∙ ap (λ b. b || is_one_of (map (λ p. chars p.now) (drop (suc i) xs)) n) (sym c.same.ensures ∙ c.if-same.false)))

pub returns : goal.returns
returns c =
    let n = chars c.args.name.now in
    let xs = c.unicode_property_names-names.result.now in
    let d : drop c.loop-property.property-index xs ≡ [] = drop_of_length-le xs c.loop-property-test.false in
    sym (c.loop-property.invariant ∙ ap (λ ys. is_one_of (map (λ p. chars p.now) ys) n) d) ∙ ap (λ ts. is_one_of ts n) (are_property_names xs c.unicode_property_names-names.ensures)
