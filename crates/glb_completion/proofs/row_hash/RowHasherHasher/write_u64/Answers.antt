use Rattle.std.proofs.Common.{◌∙◌, ap, sym}
use Rattle.std.proofs.lemmas.Nat.{from_le_bytes-to_le_bytes_8}
use Rattle.std.specs.Hash.{le_bytes}
use Rattle.glb_completion.specs.Inner.RowHash.{mixed}
use Rattle.glb_completion.proofs.row_hash.RowHasherHasher.write_u64.Goals as goal

pub returns : goal.returns
unfolding le_bytes
returns c = ap (λ s. record { state = s }) (c.mix-self.ensures ∙ ap (mixed c.args.self.now.state) (sym (from_le_bytes-to_le_bytes_8 c.args.i c.ranges.i.fits)))
