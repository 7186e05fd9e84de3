use Rattle.std.proofs.Common.{◌<◌, ◌∙◌, length, false, sym, subst, arith}
use Rattle.std.proofs.lemmas.List.{length-map, get_or_read}
use Rattle.type_hierarchy.specs.Order.{Has}
use Rattle.type_hierarchy.specs.Inner.Reach.{lists}
use Rattle.type_hierarchy.specs.Inner.Ranks.{rank_of}
use Rattle.type_hierarchy.proofs.RowLemmas.{row_is}
use Rattle.type_hierarchy.proofs.RankLemmas.{not_cyclic}
use Rattle.type_hierarchy.proofs.faults.is_cyclic.Goals as goal

pub returns-then-have_ranks_below : goal.returns-then-have_ranks_below
returns-then-have_ranks_below c =
    let list = c.deref.ensures.value ∙ sym (row_is c.args.parents.now c.args.t c.index-parents-t.result c.requires.t_in c.index-parents-t.is) in (
      λ e. absurd cc,
      λ below. absurd (not_cyclic (lists c.args.parents.now) c.args.ranks.now c.args.t (c.requires.ranked c.if-are_ranked.true)
          (λ p h. subst (λ n. rank_of c.args.ranks.now p < n) c.rank.ensures (c.have_ranks_below.ensures c.if-have_ranks_below.true p (subst (Has p) (sym list) h))) below),
    )

pub returns : goal.returns
returns c =
    let reach = c.in_ok-marks.ensures in
    let within : c.args.t < length (lists c.args.parents.now) = omega (arith, c.requires.t_in, length-map c.args.parents.now (λ v. v.items)) in
    let read = get_or_read c.in_ok-marks.marks.items c.args.t c.index.result.now (omega (arith, reach.one_each, within)) c.index.ensures false in (
      λ e. (reach.told c.args.t within).0 (sym read ∙ e),
      λ below. read ∙ (reach.told c.args.t within).1 below,
    )
