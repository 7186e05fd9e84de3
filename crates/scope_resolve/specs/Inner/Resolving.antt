-- What the calls between the search and its answer say.
use Rattle.std.specs.Prelude.{ℕ, ◌≡◌, ◌≢◌, ◌<◌, List, length, take, All, Some, codes}
use Rattle.std.specs.List.{slice_get}
use Rattle.mrs_model.specs.Meanings.{Constraint}
use Rattle.scope_model.specs.Frames.{Frame}
use Rattle.scope_model.specs.Readings.{Plugged, IsReading}
use Rattle.scope_model.specs.Answers.{IsQeq, Rises}

-- the first constraint that isn't `qeq` stands here
pub record IsOtherAt (cs : List Constraint) (k : ℕ) : Type 0 where
  pub constraint : Constraint
  pub there : slice_get cs k ≡ Some constraint
  pub other : constraint.rel ≢ codes "qeq"
  pub before : All IsQeq (take k cs)

-- some readings, each once, are more than `max`
pub record AreMore (f : Frame) (max : ℕ) : Type 0 where
  pub some : List Plugged
  pub order : Rises some
  pub are : All (IsReading f) some
  pub more : max < length some
