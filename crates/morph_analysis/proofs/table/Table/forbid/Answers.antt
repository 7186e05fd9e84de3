use Rattle.std.proofs.Common.{arith, ◌∙◌, ◌+◌, ◌*◌, ◌/◌, ◌<◌, length, set, ap, subst}
use Rattle.morph_analysis.proofs.TableLemmas.{but_one, word_within}
use Rattle.morph_analysis.specs.Inner.Bits.{TableTree, cells_by}
use Rattle.morph_analysis.specs.Allowed.{MayBut}
use Rattle.std.proofs.lemmas.List.{get_or_read}
use Rattle.std.specs.Int.{bit_at}
use Rattle.morph_analysis.proofs.table.Table.forbid.Goals as goal

pub returns-clause-but : goal.returns-clause-but
returns-clause-but c =
    let rows = c.self.inside.rows in
    let width = c.self.inside.width in
    let bits = c.self.inside.bits.items in
    let rl : c.args.row < c.self.inside.rows = omega (arith, c.requires.row, ap (λ (t : TableTree). t.rows) c.self.view_is) in
    let pl : c.args.rule < c.self.inside.width = omega (arith, c.requires.rule, ap (λ (t : TableTree). t.width) c.self.view_is) in
    let read = get_or_read bits ((c.args.row * width + c.args.rule) / 64) c.index.result.now (word_within rows width (length bits) c.args.row c.args.rule rl pl c.self.invariant) c.index.ensures 0 in
    subst (λ (t : TableTree). MayBut t.cells c.args.row c.args.rule (cells_by rows width (set bits ((c.args.row * width + c.args.rule) / 64) c.with_bit.result))) c.self.view_is
    (but_one rows width bits c.args.row c.args.rule c.with_bit.result rl pl c.self.invariant c.with_bit.ensures.set (λ k ne. c.with_bit.ensures.others k ne ∙ ap (λ w. bit_at w k) read))
