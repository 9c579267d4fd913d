use Rattle.std.proofs.Common.{◌≡◌, chars, drop, map}
use Rattle.base_language.specs.Language.Builtins.{is_one_of}
use Rattle.matcher_program.proofs.compile.is_property.Given as goal

abbrev pub invariant-loop-property : goal.invariant-loop-property
invariant-loop-property l = is_one_of (map (λ p. chars p.now) l.names) (chars l.name) ≡ is_one_of (map (λ p. chars p.now) (drop l.property-index l.names)) (chars l.name)
