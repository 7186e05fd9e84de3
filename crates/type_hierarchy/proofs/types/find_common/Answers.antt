use Rattle.std.proofs.Common.{◌∙◌, ◌&&◌, ap, sym, subst}
use Rattle.type_hierarchy.specs.Bits.{has_bit, IsRow}
use Rattle.type_hierarchy.proofs.TypeLemmas.{found_common}
use Rattle.type_hierarchy.proofs.types.find_common.Goals as goal

pub returns : goal.returns
returns c = λ n rows row.
    c.get_index_of.ensures.index
    ∙ found_common n c.args.sets.now.keys _ c.args.x.now c.args.y.now rows (c.retain.ensures.row n (subst (IsRow n) (sym c.copy_from_slice.ensures.after) row))
    (λ z. c.retain.ensures.has z ∙ ap (λ l. has_bit l z && has_bit c.args.y.now z) c.copy_from_slice.ensures.after)
