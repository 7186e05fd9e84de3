-- What is remembered of lines of MRSs.
use Rattle.std.specs.Prelude.{◌≡◌}
use Rattle.mrs_places.specs.Paths.{paths_of}
use Rattle.mrs_lines.specs.Remembered.{MrsSigns}
use Rattle.engine.specs.declared.lent.Engine.{Engine}

-- they are lines by the engine's signs and paths
abbrev pub IsMrsMemoryOf : Engine → MrsSigns → Type 0
IsMrsMemoryOf e lines = lines ≡ record { signs = e.signs.now; paths = paths_of e.paths.now }
