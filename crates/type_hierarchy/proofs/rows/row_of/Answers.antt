use Rattle.std.proofs.Common.{◌<◌, ◌∙◌, ap, length, refl, arith}
use Rattle.std.proofs.lemmas.List.{take_all}
use Rattle.type_hierarchy.specs.Table.{has_member}
use Rattle.type_hierarchy.proofs.RowLemmas.{member_more}
use Rattle.type_hierarchy.proofs.rows.row_of.Goals as goal

pub loop-x-init : goal.loop-x-init
loop-x-init c = record { row = c.in_ok-row.ensures.row; has = λ y. c.in_ok-row.ensures.none y }

pub loop-x-preserved : goal.loop-x-preserved
loop-x-preserved c =
    let within : c.loop-x.x-index < length c.args.members.now = omega arith in
    record {
      row = c.mark.ensures.row c.args.count (c.requires c.loop-x.x-index 0 within) c.loop-x.invariant.row;
      has = member_more c.loop-x.row.items _ c.args.members.now c.loop-x.x-index _ within refl c.loop-x.invariant.has c.mark.ensures.has c.mark.ensures.others;
    }

pub mark-requires : goal.mark-requires
mark-requires c =
    let within : c.loop-x.x-index < length c.args.members.now = omega arith in
    omega (arith, c.loop-x.invariant.row.enough, c.requires c.loop-x.x-index 0 within)

pub returns-clause-row : goal.returns-clause-row
returns-clause-row c = c.loop-x.invariant.row

pub returns-clause-has : goal.returns-clause-has
returns-clause-has c = λ x. c.loop-x.invariant.has x ∙ ap (λ l. has_member l x) (take_all _ _ (omega arith))
