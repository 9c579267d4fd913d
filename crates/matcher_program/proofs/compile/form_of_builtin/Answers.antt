use Rattle.std.proofs.Common.{refl}
use Rattle.matcher_program.proofs.Compiling.{set_compiles}
use Rattle.matcher_program.proofs.compile.form_of_builtin.Goals as goal

pub returns-in-Set : goal.returns-in-Set
returns-in-Set c = rw c.in-Set.is (set_compiles c.in-Set.set _ c.class_of.ensures)

pub returns-in-Soi : goal.returns-in-Soi
returns-in-Soi c = rw c.in-Soi.is (λ g ps h. record { says = refl; bound = h })

pub returns-in-Eoi : goal.returns-in-Eoi
returns-in-Eoi c = rw c.in-Eoi.is (λ g ps h. record { says = refl; bound = h })

pub returns-in-Newline : goal.returns-in-Newline
returns-in-Newline c = rw c.in-Newline.is (λ g ps h. record { says = refl; bound = h })

pub returns-in-Peek : goal.returns-in-Peek
returns-in-Peek c = rw c.in-Peek.is (λ g ps h. record { says = refl; bound = h })

pub returns-in-Pop : goal.returns-in-Pop
returns-in-Pop c = rw c.in-Pop.is (λ g ps h. record { says = refl; bound = h })

pub returns-in-Drop : goal.returns-in-Drop
returns-in-Drop c = rw c.in-Drop.is (λ g ps h. record { says = refl; bound = h })

pub returns-in-PeekAll : goal.returns-in-PeekAll
returns-in-PeekAll c = rw c.in-PeekAll.is (λ g ps h. record { says = refl; bound = h })

pub returns-in-PopAll : goal.returns-in-PopAll
returns-in-PopAll c = rw c.in-PopAll.is (λ g ps h. record { says = refl; bound = h })
