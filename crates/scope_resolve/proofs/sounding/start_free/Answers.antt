use Rattle.std.proofs.Common.{◌∙◌, sym, ap, false}
use Rattle.std.specs.Prelude.{slice_index_or}
use Rattle.scope_resolve.proofs.Sounds.{starts_label, starts_root, starts_none}
use Rattle.scope_resolve.proofs.sounding.start_free.Goals as goal

pub returns-then-mark_at : goal.returns-then-mark_at
returns-then-mark_at c =
    let m = c.mark_at.ensures ∙ ap (λ ms. slice_index_or ms c.args.left false) c.deref.ensures.value in
    starts_label c.args.net.now c.args.trail.now c.requires.net c.requires.going c.requires.full c.args.left c.requires.free (sym m ∙ c.if-mark_at.true)

pub returns-then-left-net : goal.returns-then-left-net
returns-then-left-net c =
    let m = c.mark_at.ensures ∙ ap (λ ms. slice_index_or ms c.args.left false) c.deref.ensures.value in
    starts_root c.args.net.now c.args.trail.now c.requires.net c.requires.going c.requires.full c.args.left c.requires.free (sym m ∙ c.if-mark_at.false) c.if-left-net.true

pub returns : goal.returns
returns c =
    let m = c.mark_at.ensures ∙ ap (λ ms. slice_index_or ms c.args.left false) c.deref.ensures.value in
    starts_none c.args.net.now c.args.trail.now c.requires.net c.requires.going c.requires.full c.args.left c.requires.free (sym m ∙ c.if-mark_at.false) c.if-left-net.false
