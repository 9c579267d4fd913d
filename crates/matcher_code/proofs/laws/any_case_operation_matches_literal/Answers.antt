use Rattle.matcher_code.proofs.AnyCase.{any_case_performs}
use Rattle.matcher_code.proofs.laws.any_case_operation_matches_literal.Goals as goal

pub returns : goal.returns
returns c = any_case_performs
