use Rattle.std.proofs.Common.{◌<◌, map, take, vec_len}
use Rattle.mrs_spelling.specs.Conditions.{AllKeep}
use Rattle.mrs_reading.specs.Inner.Built.{IsBuilt, word_at}
use Rattle.mrs_reading.specs.Inner.Reading.{IsRead, piece_at}
use Rattle.mrs_reading.proofs.building.build.Given as goal

abbrev pub invariant-loop-token : goal.invariant-loop-token
invariant-loop-token l =
    IsBuilt (map word_at (take l.token-index l.tokens)) l.building × AllKeep (map word_at (take l.token-index l.tokens)) × (0 < l.token-index → 0 < vec_len l.building.table.vars) × IsRead (map piece_at (take l.token-index l.tokens)) l.building
