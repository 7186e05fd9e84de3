use Rattle.std.proofs.Common.{◌∙◌, ◌<◌, ap, arith, length}
use Rattle.std.proofs.lemmas.List.{take_all}
use Rattle.type_hierarchy.specs.Inner.Tables.{sets_of}
use Rattle.type_hierarchy.specs.Bits.{bits_below}
use Rattle.glb_completion.proofs.GrowingLemmas.{lists_push}
use Rattle.glb_completion.proofs.completion.member_lists.Goals as goal

pub loop-row-preserved : goal.loop-row-preserved
loop-row-preserved c =
    let within : c.loop-row.row-index < length c.args.rows.now = omega arith in
    lists_push c.args.count c.args.rows.now c.loop-row.members.items _ c.loop-row.row-index c.row-item.result c.in_ok-members.field-0 within c.row-item.is
    (c.in_ok-members.ensures ∙ ap (bits_below c.args.count) c.deref.ensures.value) c.loop-row.invariant c.in_ok-push.ensures.items

pub returns : goal.returns
returns c = c.loop-row.invariant ∙ ap (sets_of c.args.count) (take_all _ _ (omega arith))
