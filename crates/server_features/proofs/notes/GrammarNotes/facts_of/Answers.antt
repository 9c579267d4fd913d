use Rattle.std.proofs.Common.{inr, refl, string_bytes}
use Rattle.std.proofs.Math.Logic.{∥∥₁_map}
use Rattle.std.proofs.lemmas.Result.{IfOk-weaker}
use Rattle.server_features.proofs.Knowing.{stated_facts}
use Rattle.server_features.proofs.notes.GrammarNotes.facts_of.Goals as goal

pub returns-in-Some : goal.returns-in-Some
returns-in-Some c =
    let text = string_bytes c.args.self.now.text in
    let stated = rw c.in-Some.is at c.args.self.now.stated in
    IfOk-weaker c.facts_of.result _ _ (λ facts by. ∥∥₁_map stated (λ s. stated_facts text c.args.name.now c.in-Some.table facts c.utf8.name s by)) c.facts_of.ensures

pub returns-in-None : goal.returns-in-None
returns-in-None c = ∥∥₁_map (rw c.in-None.is at c.args.self.now.stated) (λ none. inr (none, refl))
