use Rattle.std.proofs.Common.{◌<◌, ◌+◌, length, subst, arith, ap}
use Rattle.std.proofs.Math.ListN.{set}
use Rattle.fs_drawing.specs.Noting.{Noted}
use Rattle.fs_drawing.specs.Inner.Floors.{all_over}
use Rattle.fs_drawing.proofs.NoteLemmas.{over_size, notes}
use Rattle.fs_drawing.proofs.notes.Notes.note.Goals as goal

pub returns : goal.returns
returns c =
    let floor = c.self.inside.floor in
    let written = c.self.inside.written.items in
    let n_in : c.args.n < length c.self.inside.written.items = omega (arith, c.requires, ap length c.self.view_is, over_size floor written) in
    subst (λ old. Noted c.args.n c.args.number old (all_over floor (set written c.args.n (floor + c.args.number)))) c.self.view_is
    (notes floor c.self.inside.top written c.args.n c.args.number n_in c.self.invariant)
