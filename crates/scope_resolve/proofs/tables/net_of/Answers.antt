use Rattle.std.proofs.Common.{◌<◌, ◌∙◌, List, map, refl, sym, ap, subst}
use Rattle.std.specs.Prelude.{Contains}
use Rattle.scope_model.specs.declared.Opening.{Opening}
use Rattle.scope_model.specs.States.{AreApart}
use Rattle.scope_model.proofs.Full.{apart}
use Rattle.scope_resolve.specs.Inner.Nets.{frame_in}
use Rattle.scope_resolve.proofs.Owning.{hole_of, body_of, AreOwned, room_for}
use Rattle.scope_resolve.proofs.Netting.{as_marks, as_listed, as_ends, none_right, none_over, right_all, top_over, net_from}
use Rattle.scope_resolve.proofs.tables.net_of.Goals as goal

pub returns-then-not-end_at_labels : goal.returns-then-not-end_at_labels
returns-then-not-end_at_labels c =
    let parts = c.args.parts in
    none_right parts _ _ (as_marks _ _ _ c.in_ok-is_label.ensures c.deref.ensures.value)
    (as_marks _ _ _ c.in_ok-is_hole.ensures (c.deref-3.ensures.value ∙ (c.in_ok-all_holes.ensures ∙ ap (map hole_of) c.deref-2.ensures.value)))
    c.end_at_labels.result c.if-not-end_at_labels.true (as_ends _ _ _ _ _ c.end_at_labels.ensures c.deref-4.ensures.value c.deref-5.ensures.value)

pub returns-then-not-is_top : goal.returns-then-not-is_top
returns-then-not-is_top c =
    let parts = c.args.parts in
    none_over parts _ _ (as_marks _ _ _ c.in_ok-is_label.ensures c.deref.ensures.value)
    (as_marks _ _ _ c.in_ok-is_hole.ensures (c.deref-3.ensures.value ∙ (c.in_ok-all_holes.ensures ∙ ap (map hole_of) c.deref-2.ensures.value)))
    _ _ c.deref-6.ensures.value c.deref-7.ensures.value (c.is_top.ensures.no c.if-not-is_top.true)

pub owners-requires : goal.owners-requires
owners-requires c =
    let os = c.args.parts.openings.items in
    subst (λ (zs : List Opening). (o : Opening) → Contains zs o → o.hole < c.room-room.result) (sym c.deref-11.ensures.value)
    (room_for _ os _ (c.deref-10.ensures.value ∙ (c.in_ok-all_holes.ensures ∙ ap (map hole_of) c.deref-2.ensures.value)) c.room-room.ensures)

pub returns-in-None : goal.returns-in-None
returns-in-None c =
    let never = rw c.in-None.is at c.in_ok-owners.ensures in
    λ p r. never (subst AreApart (sym c.deref-11.ensures.value) (apart (frame_in c.args.parts) p r))

pub returns-in-Some : goal.returns-in-Some
returns-in-Some c =
    let parts = c.args.parts in
    let owned = rw c.in-Some.is at c.in_ok-owners.ensures in
    let labels = as_marks _ _ parts.labels.items c.in_ok-is_label.ensures c.deref.ensures.value in
    let holes = as_marks _ _ (map hole_of parts.openings.items) c.in_ok-is_hole.ensures (c.deref-3.ensures.value ∙ (c.in_ok-all_holes.ensures ∙ ap (map hole_of) c.deref-2.ensures.value)) in (
      net_from _ _ c.requires (subst AreApart c.deref-11.ensures.value owned.0) (subst (AreOwned c.in-Some.owner.items) c.deref-11.ensures.value owned.1)
          (as_marks _ _ _ c.in_ok-is_body.ensures (c.deref-9.ensures.value ∙ (c.in_ok-bodies.ensures ∙ ap (map body_of) c.deref-8.ensures.value)))
          labels holes (as_listed _ _ _ c.in_ok-labels.ensures.has c.deref-12.ensures.value) c.in_ok-labels.ensures.rise
          (as_listed _ _ _ c.in_ok-holes.ensures.has c.deref-13.ensures.value) c.in_ok-holes.ensures.rise
          (right_all parts _ _ labels holes c.end_at_labels.result c.if-not-end_at_labels.false (as_ends _ _ _ _ _ c.end_at_labels.ensures c.deref-4.ensures.value c.deref-5.ensures.value))
          (top_over parts _ _ labels holes _ _ c.deref-6.ensures.value c.deref-7.ensures.value (c.is_top.ensures.yes c.if-not-is_top.false)),
      refl,
    )
