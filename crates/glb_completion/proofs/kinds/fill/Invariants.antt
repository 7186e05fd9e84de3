use Rattle.std.proofs.Common.{◌≡◌, take}
use Rattle.glb_completion.specs.Inner.Kinds.{key_of}
use Rattle.glb_completion.proofs.kinds.fill.Given as goal

abbrev pub invariant-loop-place : goal.invariant-loop-place
invariant-loop-place l = l.key.items ≡ key_of l.shared l.row (take l.place-index l.places)
