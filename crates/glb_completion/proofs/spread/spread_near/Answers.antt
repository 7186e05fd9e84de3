use Rattle.std.proofs.Common.{ℕ, ◌≡◌, ◌∙◌, ◌<◌, ◌+◌, ◌&&◌, [], false, ap, subst, sym, arith}
use Rattle.std.proofs.lemmas.List.{append-nil}
use Rattle.type_hierarchy.specs.Bits.{has_bit, IsRow}
use Rattle.type_hierarchy.proofs.TypeLemmas.{row_at_is, same_size}
use Rattle.glb_completion.specs.Inner.Growing.{HasNear, IsMet}
use Rattle.glb_completion.proofs.CrossingLemmas.{near_met}
use Rattle.glb_completion.proofs.GrowingLemmas.{row_seen, still_in}
use Rattle.glb_completion.proofs.KindLemmas.{kinds_start}
use Rattle.glb_completion.proofs.SpreadLemmas.{spreading_more, spreading_passed}
use Rattle.glb_completion.proofs.spread.spread_near.Goals as goal

pub common-requires : goal.common-requires
common-requires c =
    let first = c.args.family.now.sets.keys in
    let seen = row_seen first c.as_slice.result.now c.args.at c.index-as_slice-at.result c.deref.result.now c.as_slice.ensures.keys c.requires.at_in c.index-as_slice-at.is c.deref.ensures.value in
    same_size c.args.h.now.written _ _ (subst (IsRow c.args.h.now.written) (sym seen) (row_at_is c.args.h.now.written first c.args.at c.requires.growing.rows c.requires.at_in)) c.requires.crossing_row

pub near-requires-clause-set : goal.near-requires-clause-set
near-requires-clause-set c =
    let first = c.args.family.now.sets.keys in
    let seen = row_seen first c.as_slice.result.now c.args.at c.index-as_slice-at.result c.deref.result.now c.as_slice.ensures.keys c.requires.at_in c.index-as_slice-at.is c.deref.ensures.value in
    subst (IsRow c.args.h.now.written) (sym c.deref-3.ensures.value)
    (c.in_ok-shared.ensures.row c.args.h.now.written (subst (IsRow c.args.h.now.written) (sym seen) (row_at_is c.args.h.now.written first c.args.at c.requires.growing.rows c.requires.at_in)))

pub loop-t-init : goal.loop-t-init
loop-t-init c =
    let h = c.args.h.now in
    let laws = c.count-count.ensures.laws in
    let first = c.args.family.now.sets.keys in
    let seen = row_seen first c.as_slice.result.now c.args.at c.index-as_slice-at.result c.deref.result.now c.as_slice.ensures.keys c.requires.at_in c.index-as_slice-at.is c.deref.ensures.value in
    let passed : (u : ℕ) → u < h.written → has_bit c.in_ok-near.near.items u ≡ false → IsMet h first c.args.at u =
    λ u u_in e. near_met h laws first c.args.family.now.above.items c.args.at u c.args.crossing.now c.in_ok-shared.shared.items c.in_ok-near.near.items c.requires.growing c.requires.at_in u_in c.requires.crossings
    (λ x. c.in_ok-shared.ensures.has x ∙ ap (λ q. has_bit q x && has_bit c.args.crossing.now x) seen) (subst (λ q. HasNear h q c.in_ok-near.near.items) c.deref-3.ensures.value c.in_ok-near.ensures.near) e in
    record {
      spreading = spreading_passed h first first _ c.args.at 0 c.next-t.result c.in_ok-near.near.items c.requires.at_in (omega (arith, c.next-t.ensures.high, c.count-count.ensures.count)) passed
          (λ u low high. subst (λ q. has_bit q u ≡ false) c.deref-4.ensures.value (c.next-t.ensures.none_before u low high))
          (record { growing = c.requires.growing; more = ([], sym (append-nil _)); met = λ u l. absurd (omega arith) });
      within = c.next-t.ensures.high;
      kinds = kinds_start h first c.args.at c.args.crossing.now c.in_ok-shared.shared.items c.in_ok-kinds.kinds.shared.items c.in_ok-kinds.kinds.places.items c.in_ok-kinds.kinds.keys.keys
          (c.in_ok-shared.ensures.row h.written (subst (IsRow h.written) (sym seen) (row_at_is h.written first c.args.at c.requires.growing.rows c.requires.at_in))) c.requires.crossings
          (λ x. c.in_ok-shared.ensures.has x ∙ ap (λ q. has_bit q x && has_bit c.args.crossing.now x) seen) c.in_ok-kinds.ensures.shared c.in_ok-kinds.ensures.places c.in_ok-kinds.ensures.none;
    }

pub meet_kind-requires-clause-at_in : goal.meet_kind-requires-clause-at_in
meet_kind-requires-clause-at_in c = still_in _ c.args.family.now.sets.keys c.args.at c.loop-t.invariant.spreading.more c.requires.at_in

pub loop-t-preserved : goal.loop-t-preserved
loop-t-preserved c =
    let h = c.args.h.now in
    let laws = c.count-count.ensures.laws in
    let first = c.args.family.now.sets.keys in
    let seen = row_seen first c.as_slice.result.now c.args.at c.index-as_slice-at.result c.deref.result.now c.as_slice.ensures.keys c.requires.at_in c.index-as_slice-at.is c.deref.ensures.value in
    let passed : (u : ℕ) → u < h.written → has_bit c.in_ok-near.near.items u ≡ false → IsMet h first c.args.at u =
    λ u u_in e. near_met h laws first c.args.family.now.above.items c.args.at u c.args.crossing.now c.in_ok-shared.shared.items c.in_ok-near.near.items c.requires.growing c.requires.at_in u_in c.requires.crossings
    (λ x. c.in_ok-shared.ensures.has x ∙ ap (λ q. has_bit q x && has_bit c.args.crossing.now x) seen) (subst (λ q. HasNear h q c.in_ok-near.near.items) c.deref-3.ensures.value c.in_ok-near.ensures.near) e in
    record {
      spreading = spreading_passed h first c.meet_kind.new.family.sets.keys c.meet_kind.new.family.above.items c.args.at (c.loop-t.t + 1) c.next-t-in-loop-t.result c.in_ok-near.near.items c.requires.at_in (omega (arith, c.next-t-in-loop-t.ensures.high, c.count-count.ensures.count)) passed
          (λ u low high. subst (λ q. has_bit q u ≡ false) c.deref-in-loop-t.ensures.value (c.next-t-in-loop-t.ensures.none_before u low high))
          (spreading_more h first c.loop-t.family.sets.keys c.loop-t.family.above.items _ _ c.args.at c.loop-t.t c.requires.at_in c.loop-t.invariant.spreading c.in_ok-meet_kind.ensures.growing c.in_ok-meet_kind.ensures.more c.in_ok-meet_kind.ensures.met);
      within = c.next-t-in-loop-t.ensures.high;
      kinds = c.in_ok-meet_kind.ensures.more_kinds;
    }

pub returns : goal.returns
returns c = record {
  growing = c.loop-t.invariant.spreading.growing;
  more = c.loop-t.invariant.spreading.more;
  spread = λ t h. c.loop-t.invariant.spreading.met t (omega (arith, h, c.loop-t-test.false, c.count-count.ensures.count));
  fault = tt;
}
