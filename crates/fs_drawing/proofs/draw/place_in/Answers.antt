use Rattle.std.proofs.Common.{◌≡◌, inl, inr, length, refl, sym, ◌∙◌, subst, arith}
use Rattle.fs_drawing.specs.Drawing.{IsPlaced}
use Rattle.fs_drawing.proofs.MetLemmas.{placed_old, placed_new, numbered_new}
use Rattle.fs_drawing.proofs.draw.place_in.Goals as goal

pub returns-then-noted-ne0-clause-place : goal.returns-then-noted-ne0-clause-place
returns-then-noted-ne0-clause-place c =
    placed_old c.args.met.now.numbers c.args.met.now.nodes.items c.requires.numbered c.args.n c.get-noted.result c.get-noted.ensures c.if-noted-ne0.true

pub returns-then-noted-ne0-clause-meets : goal.returns-then-noted-ne0-clause-meets
returns-then-noted-ne0-clause-meets c = inl refl

pub returns-clause-place : goal.returns-clause-place
returns-clause-place c =
    let size : c.len-place.result ≡ length c.args.met.now.nodes.items = omega (arith, c.len-place.ensures) in
    subst (λ k. IsPlaced c.push.new.self.items k c.args.n) (sym size)
    (placed_new c.args.met.now.numbers c.args.met.now.nodes.items _ _ c.requires.numbered c.args.n _ (sym c.get-noted.ensures ∙ c.if-noted-ne0.false) (omega (arith, c.len-place.ensures))
    c.in_ok-note.ensures c.in_ok-push.ensures.items)

pub returns-clause-meets : goal.returns-clause-meets
returns-clause-meets c = inr c.in_ok-push.ensures.items

pub returns-clause-numbered : goal.returns-clause-numbered
returns-clause-numbered c =
    numbered_new c.args.met.now.numbers c.args.met.now.nodes.items _ _ c.requires.numbered c.args.n _ (sym c.get-noted.ensures ∙ c.if-noted-ne0.false) (omega (arith, c.len-place.ensures))
    c.in_ok-note.ensures c.in_ok-push.ensures.items

pub returns-clause-room : goal.returns-clause-room
returns-clause-room c = c.in_ok-note.ensures.size
