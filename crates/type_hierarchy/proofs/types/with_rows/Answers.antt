use Rattle.std.proofs.Common.{◌<◌, ◌∙◌, ◌++◌, All, ap, sym, subst, length, arith}
use Rattle.std.proofs.lemmas.List.{append-nil, take_all}
use Rattle.type_hierarchy.specs.Bits.{IsRow}
use Rattle.type_hierarchy.specs.Inner.Reach.{lists}
use Rattle.type_hierarchy.specs.Inner.Tables.{sets_of}
use Rattle.type_hierarchy.specs.Laws.{IsRising}
use Rattle.type_hierarchy.specs.Table.{has_member}
use Rattle.type_hierarchy.proofs.RowLemmas.{push_all}
use Rattle.type_hierarchy.proofs.FamilyLemmas.{rising_all, row_members, sets_push}
use Rattle.type_hierarchy.proofs.types.with_rows.Goals as goal

pub loop-members-init : goal.loop-members-init
loop-members-init c = record { rows = c.requires.rows; sets = sym (append-nil _) }

pub row_of-requires : goal.row_of-requires
row_of-requires c =
    let within : c.loop-members.members-index < length c.args.added.now = omega arith in
    let rising = subst (λ m. IsRising c.args.written m.items) (sym c.members-item.is) (c.requires.rising c.loop-members.members-index c.members-item.result within) in
    subst (All (λ x. x < c.args.written)) (sym c.deref.ensures.value) (rising_all c.args.written _ rising)

pub loop-members-preserved : goal.loop-members-preserved
loop-members-preserved c =
    let within : c.loop-members.members-index < length c.args.added.now = omega arith in
    let rising = subst (λ m. IsRising c.args.written m.items) (sym c.members-item.is) (c.requires.rising c.loop-members.members-index c.members-item.result within) in
    record {
      rows = push_all (λ row. IsRow c.args.written row.items) c.loop-members.rows.items _ c.in_ok-row_of.field-0 c.loop-members.invariant.rows c.in_ok-row_of.ensures.row c.in_ok-push.ensures.items;
      sets = sets_push c.args.written c.args.rows.items c.loop-members.rows.items _ c.args.added.now c.loop-members.members-index c.members-item.result c.in_ok-row_of.field-0 within c.members-item.is
          (row_members c.args.written c.members-item.result.items _ rising (λ x. c.in_ok-row_of.ensures.has x ∙ ap (λ l. has_member l x) c.deref.ensures.value)) c.loop-members.invariant.sets c.in_ok-push.ensures.items;
    }

pub returns : goal.returns
returns c = record {
  rows = c.loop-members.invariant.rows;
  sets = c.loop-members.invariant.sets ∙ ap (λ l. sets_of c.args.written c.args.rows.items ++ lists l) (take_all _ _ (omega arith));
}
