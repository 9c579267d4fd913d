use Rattle.std.proofs.Common.{◌≡◌, ℕ, length}
use Rattle.std.specs.Prelude.{◌||◌, nat_eq}
use Rattle.std.specs.HashSet.{contains}
use Rattle.std.specs.List.{list_any}
use Rattle.server_requests.specs.Calls.{begins_at}
use Rattle.server_requests.proofs.names.starts_of.Given as goal

abbrev pub invariant-loop-definition : goal.invariant-loop-definition
invariant-loop-definition l = (k : ℕ) →
    (contains nat_eq l.starts k || list_any (begins_at k) l.rest) ≡ list_any (begins_at k) l.definitions

abbrev pub decreases-loop-definition : goal.decreases-loop-definition
decreases-loop-definition l = length l.rest
