use Rattle.front_spanned.proofs.Walks.{answered_alone}
use Rattle.front_spanned.proofs.node.ParserNode.filter_map_top_down.Goals as goal

pub returns-clause-answers : goal.returns-clause-answers
returns-clause-answers g c =
    (c.walk.new.f, answered_alone _ _ _ _ c.new-answers.result.items c.walk.new.answers.items c.new-answers.ensures.items c.in_ok-walk.ensures.appended)
