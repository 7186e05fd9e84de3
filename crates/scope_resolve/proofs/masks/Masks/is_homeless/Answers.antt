use Rattle.std.proofs.Common.{◌≡◌, ◌∙◌, sym, ap, subst, false}
use Rattle.std.specs.Prelude.{slice_index_or}
use Rattle.scope_resolve.specs.Inner.Masks.{has}
use Rattle.scope_resolve.specs.declared.hole_set.HoleSet.{HoleSet}
use Rattle.scope_resolve.proofs.Masking.{homeless}
use Rattle.scope_resolve.proofs.masks.Masks.is_homeless.Goals as goal

pub returns : goal.returns
returns c = λ y f s seen is are.
    let m = c.mark_at.ensures ∙ ap (λ ms. slice_index_or ms c.args.label false) c.deref.ensures.value in
    homeless f s c.args.ways.now seen c.args.label c.args.self.now.sets.items is (sym m ∙ c.if-mark_at.false) (λ i. subst (λ (z : HoleSet). has z i ≡ false) c.at.ensures (c.is_empty.ensures.0 y i)) are
