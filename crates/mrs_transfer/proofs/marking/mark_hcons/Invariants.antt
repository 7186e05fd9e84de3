use Rattle.std.specs.Prelude.{map, take}
use Rattle.std.specs.List.{Any}
use Rattle.mrs_model.specs.Valid.{IsEnd}
use Rattle.mrs_model.specs.Views.{hcon_of}
use Rattle.mrs_transfer.specs.Inner.Trimming.{IsMarked}
use Rattle.mrs_transfer.proofs.marking.mark_hcons.Given as goal

abbrev pub invariant-loop-hcon : goal.invariant-loop-hcon
invariant-loop-hcon l = IsMarked (λ v. Any (IsEnd v) (map hcon_of (take l.hcon-index l.hcons))) l.fn.marks l.marks
