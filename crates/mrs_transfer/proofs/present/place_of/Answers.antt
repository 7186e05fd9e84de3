use Rattle.std.proofs.Common.{ℕ, ◌+◌, ◌*◌, ◌%◌, ◌∙◌, drop, sym, ap, arith}
use Rattle.std.proofs.lemmas.List.{at_drop_more}
use Rattle.mrs_transfer.specs.Inner.Present.{place_step, place_from}
use Rattle.mrs_transfer.proofs.present.place_of.Goals as goal

pub loop-byte-preserved : goal.loop-byte-preserved
unfolding place_step
loop-byte-preserved c =
    let bytes = c.as_bytes-byte-items.result.now in
    record {
      within = omega arith;
      place = ap (λ (z : ℕ). place_from ((c.loop-byte.key * 31 + z) % 4096) (drop (c.loop-byte.byte-index + 1) bytes)) c.from.ensures
          ∙ (sym (at_drop_more (place_from c.loop-byte.key) bytes c.loop-byte.byte-index 0 (omega arith)) ∙ c.loop-byte.invariant.place);
    }
