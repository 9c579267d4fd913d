-- Texts that are empty, and others.
use Rattle.std.proofs.Common.{◌≡◌, ℕ, List, [], ◌∷◌, true, false, refl}
use Rattle.front_analysis.proofs.NameLemmas.{is_empty_text}
use Rattle.front_analysis.specs.Kinds.{text_kind}
use Rattle.front_analysis.specs.declared.kind_table.NodeKind.TheVariants as is

pub still_text : (t : List ℕ) → is_empty_text t ≡ true → is.Still ≡ text_kind t
still_text [] e = refl
still_text (c ∷ t) e = cc

pub other_text : (t : List ℕ) → is_empty_text t ≡ false → is.Taking ≡ text_kind t
other_text [] e = cc
other_text (c ∷ t) e = refl
