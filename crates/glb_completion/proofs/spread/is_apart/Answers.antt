use Rattle.std.proofs.Common.{◌≡◌, ◌∙◌, Bool, true, false, not, refl, sym, subst, arith}
use Rattle.type_hierarchy.specs.Bits.{IsRow}
use Rattle.type_hierarchy.proofs.SetLemmas.{differ}
use Rattle.type_hierarchy.proofs.TypeLemmas.{row_at_is, same_size}
use Rattle.glb_completion.proofs.CrossingLemmas.{apart_spread, over_spread}
use Rattle.glb_completion.proofs.GrowingLemmas.{row_seen}
use Rattle.glb_completion.proofs.spread.is_apart.Goals as goal

pub are_disjoint-requires : goal.are_disjoint-requires
are_disjoint-requires c =
    let first = c.args.family.now.sets.keys in
    let seen = row_seen first c.as_slice.result.now c.args.at c.index-as_slice-at.result c.deref.result.now c.as_slice.ensures.keys c.requires.at_in c.index-as_slice-at.is c.deref.ensures.value in
    same_size c.args.h.now.written _ _ (subst (IsRow c.args.h.now.written) (sym seen) (row_at_is c.args.h.now.written first c.args.at c.requires.growing.rows c.requires.at_in)) c.requires.crossing_row

lacks : (b : Bool) → not b ≡ true → b ≡ false
lacks true e = absurd (differ false e refl)
lacks false e = refl

pub returns-then-at-count : goal.returns-then-at-count
returns-then-at-count c = λ e.
    over_spread c.args.h.now c.count.ensures.laws c.args.family.now.sets.keys c.args.family.now.above.items c.args.at c.args.crossing.now c.args.over.now c.requires.growing c.requires.at_in
    (omega (arith, c.if-at-count.true, c.count.ensures.count)) c.requires.crossings c.requires.over (sym c.has.ensures ∙ lacks c.has.result e)

pub returns : goal.returns
returns c = λ e.
    let first = c.args.family.now.sets.keys in
    let seen = row_seen first c.as_slice.result.now c.args.at c.index-as_slice-at.result c.deref.result.now c.as_slice.ensures.keys c.requires.at_in c.index-as_slice-at.is c.deref.ensures.value in
    apart_spread c.args.h.now c.count.ensures.laws first c.args.family.now.above.items c.args.at c.deref.result.now c.args.crossing.now c.requires.growing c.requires.at_in c.requires.crossings seen (c.are_disjoint.ensures.0 e)
