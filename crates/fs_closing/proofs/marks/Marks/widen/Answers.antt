use Rattle.std.proofs.Common.{◌≤◌, ◌-◌, length, ◌∙◌, ap, arith, vec_len}
use Rattle.fs_closing.specs.Marked.{written_at}
use Rattle.fs_closing.specs.Inner.Generations.{all_in}
use Rattle.fs_closing.proofs.GenerationLemmas.{widened, kept_longer}
use Rattle.fs_closing.proofs.marks.Marks.widen.Goals as goal

pub returns-in_ok-resize-clause-kept : goal.returns-in_ok-resize-clause-kept
returns-in_ok-resize-clause-kept c = λ n.
    let g = c.self.inside.generation in
    let marks = c.self.inside.marks.items in
    let less : length c.self.inside.marks.items ≤ c.args.count = omega (arith, c.len.ensures, c.self.inside.marks.ok, c.if-len-count.true) in
    let is = widened marks c.resize.new.self.items c.args.count (vec_len c.self.inside.marks) c.in_ok-resize.ensures.items (omega (arith, c.self.inside.marks.ok)) less in
    ap (λ l. written_at (all_in g l) n) is ∙ kept_longer g marks (c.args.count - length marks) c.self.invariant n
    ∙ ap (λ l. written_at l n) c.self.view_is
