-- Work that is joined to other work.
use Rattle.std.specs.Prelude.{List, ◌⊎◌}
use Rattle.fs_model.specs.Claims.{Has}
use Rattle.fs_model.specs.Table.{NodeClaim}

-- the whole holds what is new and what was there, and nothing else
pub record IsJoined (new old whole : List NodeClaim) : Type 0 where
  pub from_new : (c : NodeClaim) → Has c new → Has c whole
  pub from_old : (c : NodeClaim) → Has c old → Has c whole
  pub only : (c : NodeClaim) → Has c whole → Has c new ⊎ Has c old
