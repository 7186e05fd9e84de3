use Rattle.std.specs.Prelude.{◌≡◌, ◌++◌, map, take, drop}
use Rattle.mrs_model.specs.Views.{hcon_of}
use Rattle.mrs_model.specs.Renaming.{renamed_constraint}
use Rattle.mrs_transfer.proofs.renumbering.renumber_hcons.Given as goal

-- those before this one have other numbers
abbrev pub invariant-loop-hcon : goal.invariant-loop-hcon
invariant-loop-hcon l = map hcon_of l.hcons ≡ map (renamed_constraint l.to) (take l.hcon-index (map hcon_of l.fn.hcons)) ++ drop l.hcon-index (map hcon_of l.fn.hcons)
