use Rattle.std.proofs.Common.{◌∙◌, sym, ap, false}
use Rattle.std.specs.Prelude.{slice_index_or}
use Rattle.scope_resolve.proofs.Sounds.{topped}
use Rattle.scope_resolve.proofs.sounding.is_topped.Goals as goal

pub returns : goal.returns
returns c =
    let m = c.mark_at.ensures ∙ ap (λ ms. slice_index_or ms c.args.net.now.parts.top false) c.deref.ensures.value in
    topped c.args.net.now c.args.trail.now c.requires.net c.requires.going c.is_by_bodies.result (sym m ∙ c.if-not-mark_at.false) c.is_by_bodies.ensures
