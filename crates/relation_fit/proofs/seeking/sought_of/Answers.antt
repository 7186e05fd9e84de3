use Rattle.std.proofs.Common.{map, subst, arith}
use Rattle.mrs_model.specs.Views.{predication_of, variable_of}
use Rattle.mrs_places.specs.Paths.{paths_of}
use Rattle.relation_fit.specs.Sought.{IsSoughtEp}
use Rattle.relation_fit.proofs.Mapped.{zip_next}
use Rattle.relation_fit.proofs.seeking.sought_of.Goals as goal

pub loop-k-preserved : goal.loop-k-preserved
loop-k-preserved c =
    let types = c.args.types.now in
    let p = paths_of c.args.paths.now in
    let mrs = c.args.mrs.now in
    let x = c.in_ok-sought_ep.field-0 in
    zip_next predication_of (IsSoughtEp types p (map variable_of mrs.vars.items)) mrs.eps.items c.loop-k.k c.index.result.now c.loop-k.eps.items c.push.new.self.items x
    (omega (arith, c.loop-k-test.true, c.len-k-end.ensures, mrs.eps.ok.0)) c.index.ensures c.in_ok-push.ensures.items c.loop-k.invariant
    (subst (λ vs. IsSoughtEp types p (map variable_of vs) (predication_of c.index.result.now) x) c.deref.ensures.value c.in_ok-sought_ep.ensures)
