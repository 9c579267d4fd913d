use Rattle.std.proofs.Common.{◌≤◌, ◌*◌}
use Rattle.base_language.specs.Pieces.Landmarks.{AreLandmarks, IsLandmark}
use Rattle.base_language.proofs.runtime.surveys.landmarks.Given as goal

abbrev pub invariant-loop-count : goal.invariant-loop-count
invariant-loop-count l = record {
  landmark : IsLandmark l.text l.landmark;
  before : l.landmark.place ≤ l.count * 256;
  landmarks : AreLandmarks l.text l.landmarks.items;
}
