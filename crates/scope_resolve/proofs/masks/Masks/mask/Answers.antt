use Rattle.std.proofs.Common.{refl}
use Rattle.scope_resolve.specs.Inner.Filling.{state_of}
use Rattle.scope_resolve.proofs.masks.Masks.mask.Goals as goal

pub returns : goal.returns
returns c = λ f seen plan live.
    let s = state_of c.args.trail.now in
    c.spread.ensures f s seen live (c.go_from_root.ensures f s seen refl plan (c.go_from_labels.ensures f s seen plan (c.go_from_holes.ensures f seen plan (c.go_under_all.ensures f s seen plan (λ l i m. c.widen.ensures l i)))))
