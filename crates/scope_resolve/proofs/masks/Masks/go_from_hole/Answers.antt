use Rattle.std.proofs.Common.{◌∙◌, sym}
use Rattle.scope_resolve.specs.Inner.Filling.{state_of}
use Rattle.scope_resolve.proofs.Masking.{hole_reaches}
use Rattle.scope_resolve.proofs.masks.Masks.go_from_hole.Goals as goal

pub returns-in-Some : goal.returns-in-Some
returns-in-Some c = λ f seen is.
    let r = hole_reaches f c.args.trail.now c.args.link c.in-Some.from is (sym c.in-Some.is ∙ c.label_at.ensures) in
    c.go_along.ensures f (state_of c.args.trail.now) seen r.0 r.1
