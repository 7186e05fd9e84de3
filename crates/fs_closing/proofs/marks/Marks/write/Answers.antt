use Rattle.std.proofs.Common.{◌<◌, length, subst, arith, ap}
use Rattle.std.proofs.Math.ListN.{set}
use Rattle.fs_closing.specs.Marked.{Writes}
use Rattle.fs_closing.specs.Inner.Generations.{all_in}
use Rattle.fs_closing.proofs.GenerationLemmas.{size_all, writes}
use Rattle.fs_closing.proofs.marks.Marks.write.Goals as goal

pub returns : goal.returns
returns c =
    let g = c.self.inside.generation in
    let marks = c.self.inside.marks.items in
    let n_in : c.args.n < length c.self.inside.marks.items = omega (arith, c.requires, ap length c.self.view_is, size_all g marks) in
    subst (λ old. Writes c.args.n c.args.written old (all_in g (set marks c.args.n (record { generation = g; written = c.args.written })))) c.self.view_is (writes g marks c.args.n c.args.written n_in)
