use Rattle.std.proofs.Common.{◌≡◌, length, map, refl, ap, arith}
use Rattle.std.specs.Prelude.{reverse}
use Rattle.mrs_model.specs.Renaming.{renamed_ep}
use Rattle.mrs_model.specs.Views.{predication_of}
use Rattle.transfer_model.specs.Applying.{has}
use Rattle.mrs_transfer.proofs.Growing.{popped}
use Rattle.mrs_transfer.proofs.Rewritten.{placed_on, placed_end, put_here, none_here}
use Rattle.mrs_transfer.proofs.applying.replaced_eps.Goals as goal

pub loop-ep-preserved-in-Continue-branch-4 : goal.loop-ep-preserved-in-Continue-branch-4
loop-ep-preserved-in-Continue-branch-4 c =
    let new = map (renamed_ep c.args.vars.now) (map predication_of c.args.output.now) in
    let p = popped c.args.eps.items c.loop-ep.rest.items c.pop.new.self.items c.in-Some.ep c.loop-ep.invariant.front c.loop-ep.invariant.few c.in-Some.ensures.items in
    let q : c.in_ok-place.place ≡ length c.pop.new.self.items = omega (arith, c.in_ok-place.ensures, c.len-in-Some.ensures, c.pop.new.self.ok.0) in
    record {
      few = omega (arith, p.1);
      front = p.2;
      placed =
          placed_on c.args.gone.now c.least-first.result new c.args.eps.items c.loop-ep.rest.items c.pop.new.self.items c.loop-ep.backwards.items c.push_left.new.backwards.items c.push_output.new.backwards.items c.in-Some.ep (has c.args.gone.now c.in_ok-place.place)
          c.loop-ep.invariant.few c.loop-ep.invariant.front c.in-Some.ensures.items (ap (has c.args.gone.now) q) c.in_ok-push_left.ensures
          (put_here new (map predication_of (reverse c.push_output.new.backwards.items)) (map predication_of (reverse c.push_left.new.backwards.items)) (length c.pop.new.self.items) c.least-first.result (omega (arith, q, c.if-place-first.true)) c.in_ok-push_output.ensures)
          c.loop-ep.invariant.placed;
    }

pub loop-ep-preserved : goal.loop-ep-preserved
loop-ep-preserved c =
    let new = map (renamed_ep c.args.vars.now) (map predication_of c.args.output.now) in
    let p = popped c.args.eps.items c.loop-ep.rest.items c.pop.new.self.items c.in-Some.ep c.loop-ep.invariant.front c.loop-ep.invariant.few c.in-Some.ensures.items in
    let q : c.in_ok-place.place ≡ length c.pop.new.self.items = omega (arith, c.in_ok-place.ensures, c.len-in-Some.ensures, c.pop.new.self.ok.0) in
    record {
      few = omega (arith, p.1);
      front = p.2;
      placed =
          placed_on c.args.gone.now c.least-first.result new c.args.eps.items c.loop-ep.rest.items c.pop.new.self.items c.loop-ep.backwards.items c.push_left.new.backwards.items c.push_left.new.backwards.items c.in-Some.ep (has c.args.gone.now c.in_ok-place.place)
          c.loop-ep.invariant.few c.loop-ep.invariant.front c.in-Some.ensures.items (ap (has c.args.gone.now) q) c.in_ok-push_left.ensures
          (none_here new (map predication_of (reverse c.push_left.new.backwards.items)) (map predication_of (reverse c.push_left.new.backwards.items)) (length c.pop.new.self.items) c.least-first.result (λ e. omega (arith, e, q, c.if-place-first.false)) refl)
          c.loop-ep.invariant.placed;
    }

pub returns : goal.returns
returns c = (
  c.least-first.result,
  c.least-first.ensures.among,
  c.least-first.ensures.least,
  placed_end c.args.gone.now c.least-first.result (map (renamed_ep c.args.vars.now) (map predication_of c.args.output.now)) c.args.eps.items c.loop-ep.rest.items c.loop-ep.backwards.items c.reverse.new.self.items
      (omega (arith, c.in_default.ensures.cases.0, c.loop-ep.rest.ok.0)) c.reverse.ensures.items c.least-first.ensures.among c.requires.there c.least-first.ensures.least c.loop-ep.invariant.placed,
)
