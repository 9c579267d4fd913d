-- How far the rotations of a form are from their end.
use Rattle.std.specs.Prelude.{ℕ, ◌+◌, ◌*◌}
use Rattle.matcher_program.specs.declared.form.Form.{Form}
use Rattle.matcher_program.specs.declared.form.Form.TheVariants as form

-- the size of a form in which left sides weigh double, so that a rotation makes it lighter
abbrev pub weight : Form → ℕ
weight (form.Set' p a) = weight a + 1
weight (form.PosPred' p a) = weight a + 1
weight (form.NegPred' p a) = weight a + 1
weight (form.Seq' p a q b) = 2 * weight a + weight b + 1
weight (form.Choice' p a q b) = 2 * weight a + weight b + 1
weight (form.Opt' p a) = weight a + 1
weight (form.Rep' p a) = weight a + 1
weight (form.RepOnce' p a) = weight a + 1
weight (form.Push' p a) = weight a + 1
weight (form.Tag' p a t) = weight a + 1
weight (form.Restore' p a) = weight a + 1
weight _ = 1
