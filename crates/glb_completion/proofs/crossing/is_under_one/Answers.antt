use Rattle.std.proofs.Common.{◌≡◌, ◌∙◌, ◌<◌, true, length, refl, sym, subst, arith}
use Rattle.type_hierarchy.specs.Bits.{has_bit, IsRow}
use Rattle.type_hierarchy.proofs.TypeLemmas.{row_at_is, same_size}
use Rattle.glb_completion.proofs.GrowingLemmas.{row_seen}
use Rattle.glb_completion.proofs.crossing.is_under_one.Goals as goal

pub is_subset-requires : goal.is_subset-requires
is_subset-requires c =
    let above = c.args.above.now in
    let n = c.requires.rows.0 in
    let p_in : c.last_before-p.result < length above = omega (arith, c.last_before-p.ensures.within, c.requires.x_in) in
    let seen_x = row_seen above above c.args.x c.index-above-x.result c.as_slice-row.result.now refl c.requires.x_in c.index-above-x.is c.as_slice-row.ensures.value in
    let seen_p = row_seen above above c.last_before-p.result c.index-above-p.result c.deref.result.now refl p_in c.index-above-p.is c.deref.ensures.value in
    let upper : IsRow n c.in_ok-upper.upper.items = subst (IsRow n) (sym (c.in_ok-upper.ensures.items ∙ seen_p)) (row_at_is n above c.last_before-p.result c.requires.rows.2 p_in) in
    same_size n _ _ (subst (IsRow n) (sym seen_x) (row_at_is n above c.args.x c.requires.rows.2 c.requires.x_in))
    (subst (IsRow n) (sym c.deref-2.ensures.value) (c.mark.ensures.row n c.requires.rows.1 upper))

pub returns : goal.returns
returns c =
    let above = c.args.above.now in
    let p = c.last_before-p.result in
    let p_in : p < length above = omega (arith, c.last_before-p.ensures.within, c.requires.x_in) in
    let earlier : p < c.args.x = omega (arith, c.last_before-p.ensures.within, c.if-p-x.false) in
    let seen_x = row_seen above above c.args.x c.index-above-x.result c.as_slice-row.result.now refl c.requires.x_in c.index-above-x.is c.as_slice-row.ensures.value in
    let seen_p = row_seen above above p c.index-above-p.result c.deref.result.now refl p_in c.index-above-p.is c.deref.ensures.value in
    λ e. (
      p,
      record {
        earlier = earlier;
        over = subst (λ q. has_bit q p ≡ true) seen_x (c.last_before-p.ensures.member earlier);
        only = λ u other m.
            let in_deref = c.is_subset.ensures e u (subst (λ q. has_bit q u ≡ true) (sym seen_x) m) in
            let in_marked = subst (λ q. has_bit q u ≡ true) c.deref-2.ensures.value in_deref in
            subst (λ q. has_bit q u ≡ true) (c.in_ok-upper.ensures.items ∙ seen_p) (sym (c.mark.ensures.others u other) ∙ in_marked);
      },
    )
