-- One change more is applied.
use Rattle.std.proofs.Common.{◌<◌, ◌+◌, ℕ, List, [], None, subst, sym, drop, drop-cons, add-one, get_or, length}
use Rattle.server_protocol.specs.TextChanges.{AreChanged, IsChanged}
use Rattle.server_protocol.specs.declared.changes.Change.{Change}
use Rattle.server_protocol.specs.declared.positions.Encoding.{Encoding}

abbrev pub no_change : Change
no_change = record { range = None; text = record { ref_ptr = (0, 0); now = [] } }

pub change_more : (e : Encoding) (changes : List Change) (i : ℕ) (text next changed : List ℕ) → i < length changes → IsChanged e text (get_or changes i no_change) next → AreChanged e next (drop (i + 1) changes) changed → AreChanged e text (drop i changes) changed
change_more e changes i text next changed l h hs =
    subst (λ cs. AreChanged e text cs changed) (sym (drop-cons changes i no_change l)) (next, h, subst (λ j. AreChanged e next (drop j changes) changed) (add-one i) hs)
