use Rattle.std.proofs.Common.{◌≡◌, ◌∙◌, ◌<◌, ◌&&◌, ◌||◌, ℕ, length, ap, subst, sym, refl, arith}
use Rattle.std.specs.List.{list_any}
use Rattle.std.specs.Str.{bytes_eq}
use Rattle.std.proofs.lemmas.Result.{on_ok_weaker, MatchResult-weaker}
use Rattle.type_hierarchy.specs.Bits.{has_bit, IsRow}
use Rattle.type_hierarchy.specs.Table.{intersection, set_of}
use Rattle.type_hierarchy.specs.Inner.Tables.{row_items}
use Rattle.type_hierarchy.proofs.TypeLemmas.{row_at_is}
use Rattle.glb_completion.specs.Inner.Growing.{set_at, Adds}
use Rattle.glb_completion.proofs.GrowingLemmas.{is_among, grown, too_many, row_seen, HasGrown}
use Rattle.glb_completion.proofs.SpreadLemmas.{known_met, have_common, disjoint_met, met_of_grown, full_fault}
use Rattle.glb_completion.proofs.spread.meet_with.Goals as goal

pub returns-then-are_disjoint-clause-met : goal.returns-then-are_disjoint-clause-met
returns-then-are_disjoint-clause-met c =
    let seen = row_seen c.args.family.now.sets.keys c.as_slice.result.now c.args.at c.index-as_slice-at.result c.as_slice-set.result.now c.as_slice.ensures.keys c.requires.at_in c.index-as_slice-at.is c.as_slice-set.ensures.value in
    disjoint_met c.args.h.now c.requires.laws c.args.family.now.sets.keys c.args.at c.args.t c.as_slice-set.result.now c.row.result.now c.requires.at_in seen c.row.ensures.members (c.are_disjoint.ensures.0 c.if-are_disjoint.true)

pub returns-then-contains-clause-met : goal.returns-then-contains-clause-met
returns-then-contains-clause-met c =
    let h = c.args.h.now in
    let keys = c.args.family.now.sets.keys in
    let seen = row_seen keys c.as_slice.result.now c.args.at c.index-as_slice-at.result c.as_slice-set.result.now c.as_slice.ensures.keys c.requires.at_in c.index-as_slice-at.is c.as_slice-set.ensures.value in
    let found = is_among keys c.in_ok-common.common.items (ap (λ q. list_any (λ k. bytes_eq q k.items) keys) (sym c.as_slice-2.ensures.value) ∙ sym c.contains.ensures ∙ c.if-contains.true) in
    known_met h c.requires.laws keys c.args.at c.args.t found.0 c.in_ok-common.common.items c.row-2.result.now c.requires.at_in c.requires.t_in found.1 found.2
    (λ x. c.in_ok-common.ensures.has x ∙ ap (λ q. has_bit q x && has_bit c.row-2.result.now x) seen) c.row-2.ensures.members

pub returns : goal.returns
returns c =
    let h = c.args.h.now in
    let keys = c.args.family.now.sets.keys in
    let above = c.args.family.now.above.items in
    let seen = row_seen keys c.as_slice.result.now c.args.at c.index-as_slice-at.result c.as_slice-set.result.now c.as_slice.ensures.keys c.requires.at_in c.index-as_slice-at.is c.as_slice-set.ensures.value in
    let is_row = subst (IsRow h.written) (sym seen) (row_at_is h.written keys c.args.at c.requires.growing.rows c.requires.at_in) in
    let ne = have_common h c.requires.laws keys c.args.at c.args.t c.as_slice-set.result.now c.row.result.now c.are_disjoint.result c.requires.at_in seen is_row c.row.ensures.members c.if-are_disjoint.false c.are_disjoint.ensures.1 in
    let in_above : c.args.at < length above = omega (arith, c.requires.at_in, c.requires.growing.pairs) in
    let t_above : c.args.t < length above = omega (arith, c.requires.t_in, c.requires.growing.enough, c.requires.growing.pairs) in
    let up_at = row_seen above above c.args.at c.index.result.now c.deref.result.now refl in_above c.index.ensures c.deref.ensures.value in
    let up_t = row_seen above above c.args.t c.index-2.result.now c.deref-2.result.now refl t_above c.index-2.ensures c.deref-2.ensures.value in
    let row = c.in_ok-common.ensures.row h.written is_row in
    let more = c.in_ok-more.ensures.row h.written (subst (IsRow h.written) (sym up_at) (row_at_is h.written above c.args.at c.requires.growing.above_rows in_above))
    (subst (IsRow h.written) (sym up_t) (row_at_is h.written above c.args.t c.requires.growing.above_rows t_above)) in
    let has : (x : ℕ) → has_bit c.in_ok-common.common.items x ≡ (has_bit (row_items keys c.args.at) x && has_bit c.row-2.result.now x) =
    λ x. c.in_ok-common.ensures.has x ∙ ap (λ q. has_bit q x && has_bit c.row-2.result.now x) seen in
    let unites : (x : ℕ) → has_bit c.in_ok-more.more.items x ≡ (has_bit (row_items above c.args.at) x || has_bit (row_items above c.args.t) x) =
    λ x. c.in_ok-more.ensures.has x ∙ ap (λ q. has_bit q x || has_bit c.deref-2.result.now x) up_at ∙ ap (λ q. has_bit (row_items above c.args.at) x || has_bit q x) up_t in
    let made : Adds keys above c.add.new.self.sets.keys c.add.new.self.above.items c.in_ok-common.common.items c.in_ok-more.more.items →
    HasGrown h keys above c.add.new.self.sets.keys c.add.new.self.above.items (intersection (set_at h keys c.args.at) (set_of h c.args.t)) =
    λ a. grown h c.requires.laws keys above _ _ c.in_ok-common.common.items c.in_ok-more.more.items c.row-2.result.now c.args.at c.args.t c.requires.growing c.requires.at_in c.requires.t_in row more has c.row-2.ensures.members unites ne a in
    record {
      growing = on_ok_weaker c.add.result (λ a. (made a).growing) c.add.ensures.added;
      more = on_ok_weaker c.add.result (λ a. (made a).starts) c.add.ensures.added;
      met = on_ok_weaker c.add.result (λ a. met_of_grown h keys above _ _ c.args.at c.args.t c.requires.at_in (made a)) c.add.ensures.added;
      fault = MatchResult-weaker c.add.result c.add.ensures.full (λ x p. p)
          (λ e p. full_fault h keys c.in_ok-common.common.items
          (λ new full. too_many h c.requires.laws keys above c.in_ok-common.common.items c.row-2.result.now c.args.at c.args.t c.requires.growing c.requires.at_in c.requires.t_in row has c.row-2.ensures.members ne new full) e p);
    }
