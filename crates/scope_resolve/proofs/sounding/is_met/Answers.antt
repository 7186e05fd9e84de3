use Rattle.std.proofs.Common.{◌∙◌, sym, ap, false}
use Rattle.std.specs.Prelude.{slice_index_or}
use Rattle.scope_resolve.proofs.Sounds.{met_from}
use Rattle.scope_resolve.proofs.sounding.is_met.Goals as goal

pub returns-in-Some : goal.returns-in-Some
returns-in-Some c =
    let m = c.mark_at.ensures ∙ ap (λ ms. slice_index_or ms c.args.qeq.right false) c.deref.ensures.value in
    met_from c.args.net.now c.args.trail.now c.requires.net c.requires.going c.requires.full c.args.qeq c.in-Some.from c.is_by_bodies.result (sym m ∙ c.if-not-mark_at.false) c.in-Some.ensures c.is_by_bodies.ensures
