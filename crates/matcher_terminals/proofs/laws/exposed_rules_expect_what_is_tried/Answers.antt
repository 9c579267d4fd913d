use Rattle.std.proofs.Common.{◌∙◌, ap, map}
use Rattle.base_language.proofs.ExpectedOnce.{one_list}
use Rattle.base_language.proofs.FailurePlaces.{one_place}
use Rattle.base_language.proofs.OneOutcome.{same}
use Rattle.matcher_terminals.specs.Exposed.{exposed}
use Rattle.matcher_terminals.specs.Tried.{label_of}
use Rattle.matcher_terminals.proofs.Exposing.{tells_tried}
use Rattle.matcher_terminals.proofs.laws.exposed_rules_expect_what_is_tried.Goals as goal

pub returns : goal.returns
returns c = λ g classes w n b s o p d e.
    let x = tells_tried g classes w n s o b d in
    record {
      alike = (x.trees, same (exposed g) classes e x.found);
      names = λ at. ap (map label_of) (one_list (exposed g) classes at e x.found) ∙ x.names at;
      same_place = one_place (exposed g) classes e x.found ∙ x.same_place;
    }
