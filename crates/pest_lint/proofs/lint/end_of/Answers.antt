use Rattle.std.proofs.Common.{Result, Ok, Err, IfOk, String}
use Rattle.std.specs.Prelude.{⊤}
use Rattle.std.specs.declared.alloc.AllocError.{AllocError}
use Rattle.std.specs.declared.alloc.Global.{Global}
use Rattle.pest_lint.proofs.lint.end_of.Goals as goal

-- an end of text is any
any_end : (r : Result (String Global) AllocError) → IfOk r (λ end. ⊤)
any_end (Ok end) = tt
any_end (Err e) = tt

pub returns-in-Text : goal.returns-in-Text
returns-in-Text c = rw c.in-Text.is (any_end c.line.result)
