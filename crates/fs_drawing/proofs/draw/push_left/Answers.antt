use Rattle.std.proofs.Common.{refl, sym, ◌∙◌, subst, arith}
use Rattle.std.proofs.lemmas.List.{take_all}
use Rattle.fs_drawing.specs.Drawing.{leaves_of, AddsLeft}
use Rattle.fs_drawing.proofs.MetLemmas.{ends_none, ends_more, left_none, left_more, left_past, target_has}
use Rattle.fs_drawing.proofs.draw.push_left.Goals as goal

pub loop-arc-init : goal.loop-arc-init
loop-arc-init c = record {
  arcs = left_none c.args.met.now.nodes.items (leaves_of c.args.off c.args.is_root) c.args.row.now c.args.arcs.now.items;
  meets = ends_none c.args.row.now c.args.met.now.nodes.items;
  numbered = c.requires.numbered;
  room = refl;
}

pub place_in-requires-clause-node : goal.place_in-requires-clause-node
place_in-requires-clause-node c =
    omega (arith, c.requires.row _ (target_has (leaves_of c.args.off c.args.is_root) c.args.row.now c.loop-arc.arc-index _ c.loop-arc-test.true refl), c.loop-arc.invariant.room)

pub loop-arc-preserved : goal.loop-arc-preserved
loop-arc-preserved c =
    let left = leaves_of c.args.off c.args.is_root in
    record {
      arcs = left_more left c.args.row.now c.loop-arc.arc-index _ c.loop-arc-test.true refl c.loop-arc.met.nodes.items c.place_in.new.met.nodes.items c.args.arcs.now.items c.loop-arc.arcs.items _
          c.in_ok-place.place (sym c.is_left.ensures ∙ c.if-not-is_left.false) c.in_ok-place.ensures.meets c.in_ok-place.ensures.place c.in_ok-push.ensures.items c.loop-arc.invariant.arcs;
      meets = ends_more left c.args.row.now c.loop-arc.arc-index _ c.loop-arc-test.true refl c.args.met.now.nodes.items c.loop-arc.met.nodes.items c.place_in.new.met.nodes.items
          c.loop-arc.invariant.meets c.in_ok-place.ensures.meets;
      numbered = c.in_ok-place.ensures.numbered;
      room = c.in_ok-place.ensures.room ∙ c.loop-arc.invariant.room;
    }

pub loop-arc-preserved-then-not-is_left : goal.loop-arc-preserved-then-not-is_left
loop-arc-preserved-then-not-is_left c =
    let left = leaves_of c.args.off c.args.is_root in
    record {
      arcs = left_past left c.args.row.now c.loop-arc.arc-index _ c.loop-arc-test.true refl c.loop-arc.met.nodes.items c.args.arcs.now.items c.loop-arc.arcs.items
          (sym c.is_left.ensures ∙ c.if-not-is_left.true) c.loop-arc.invariant.arcs;
      meets = c.loop-arc.invariant.meets;
      numbered = c.loop-arc.invariant.numbered;
      room = c.loop-arc.invariant.room;
    }

pub returns-clause-arcs : goal.returns-clause-arcs
returns-clause-arcs c =
    subst (λ l. AddsLeft c.loop-arc.met.nodes.items (leaves_of c.args.off c.args.is_root) l c.args.arcs.now.items c.loop-arc.arcs.items)
    (take_all c.loop-arc.arc-index c.args.row.now c.loop-arc-test.false) c.loop-arc.invariant.arcs
