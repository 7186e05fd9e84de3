use Rattle.std.proofs.Common.{◌≤◌, ◌-◌, length, slice_index, ◌∙◌, ap, arith, vec_len}
use Rattle.fs_drawing.specs.Inner.Floors.{all_over}
use Rattle.fs_drawing.proofs.NoteLemmas.{widened, kept_longer}
use Rattle.fs_drawing.proofs.notes.Notes.widen.Goals as goal

pub returns-in_ok-resize-clause-kept : goal.returns-in_ok-resize-clause-kept
returns-in_ok-resize-clause-kept c = λ n.
    let floor = c.self.inside.floor in
    let written = c.self.inside.written.items in
    let less : length c.self.inside.written.items ≤ c.args.count = omega (arith, c.len.ensures, c.self.inside.written.ok, c.if-len-count.true) in
    let is = widened written c.resize.new.self.items c.args.count (vec_len c.self.inside.written) c.in_ok-resize.ensures.items (omega (arith, c.self.inside.written.ok)) less in
    ap (λ l. slice_index (all_over floor l) n) is ∙ kept_longer floor c.self.inside.top written (c.args.count - length written) c.self.invariant n
    ∙ ap (λ l. slice_index l n) c.self.view_is
