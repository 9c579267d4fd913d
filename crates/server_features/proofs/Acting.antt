-- Actions, one diagnostic after another.
use Rattle.std.proofs.Common.{◌≡◌, ◌<◌, ◌-◌, ◌==◌, ◌++◌, ℕ, List, [], ◌∷◌, false, append_assoc, arith, length, refl, subst}
use Rattle.std.proofs.lemmas.List.{length-append}
use Rattle.lint_findings.specs.declared.diagnostic.Diagnostic.{Diagnostic}
use Rattle.server_features.specs.Actions.{AddsAction, AreActionsOf}
use Rattle.server_requests.specs.declared.context.Context.{Context}
use Rattle.server_symbols.specs.declared.tokens.Extent.{Extent}
use Rattle.serde_json.specs.Data.{Data}

module _ (context : Context) (extent : Extent) where
  -- if there is no room
  pub no_room : (diagnostics : List Diagnostic) (room : ℕ) → room ≡ 0 → AreActionsOf context extent room diagnostics []
  no_room [] room e = refl
  no_room (d ∷ ds) room e = rw e refl

  -- one more diagnostic
  pub acts_more : (all after rest : List Diagnostic) (d : Diagnostic) (old new : List Data) → rest ≡ d ∷ after → length old < 20 → AddsAction context extent d old new
      → ((others : List Data) → AreActionsOf context extent (20 - length old) rest others → AreActionsOf context extent 20 all (old ++ others))
      → (others : List Data) → AreActionsOf context extent (20 - length new) after others → AreActionsOf context extent 20 all (new ++ others)
  acts_more all after rest d old new e l (first, is, q) go others h =
      let some : (20 - length old == 0) ≡ false = grind arith in
      let left : 20 - length new ≡ 20 - length old - length first = rw (q, length-append) (omega arith) in
      let step : AreActionsOf context extent (20 - length old) rest (first ++ others) = rw (e, some) (first, others, (first, is, refl), subst (λ n. AreActionsOf context extent n after others) left h, refl) in
      rw (q, append_assoc) (go (first ++ others) step)
