use Rattle.std.specs.Prelude.{◌≡◌, ◌≤◌, map, take, drop, length, reverse}
use Rattle.mrs_model.specs.Renaming.{renamed_ep}
use Rattle.mrs_model.specs.Views.{predication_of}
use Rattle.mrs_transfer.specs.Inner.Replacing.{placed}
use Rattle.mrs_transfer.proofs.applying.replaced_eps.Given as goal

abbrev pub invariant-loop-ep : goal.invariant-loop-ep
invariant-loop-ep l = record {
  few : length l.rest.items ≤ length l.fn.eps.items;
  front : l.rest.items ≡ take (length l.rest.items) l.fn.eps.items;
  placed : map predication_of (reverse l.backwards.items)
      ≡ placed l.gone l.first (map (renamed_ep l.vars) (map predication_of l.output)) (length l.rest.items) (map predication_of (drop (length l.rest.items) l.fn.eps.items));
}

abbrev pub decreases-loop-ep : goal.decreases-loop-ep
decreases-loop-ep l = length l.rest.items
