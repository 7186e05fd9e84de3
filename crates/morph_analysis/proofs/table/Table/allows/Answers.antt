use Rattle.std.proofs.Common.{◌∙◌, ◌+◌, ◌*◌, ◌/◌, inl, inr, not, length, ap}
use Rattle.morph_analysis.proofs.TableLemmas.{word_within, allowed_at, outside_at}
use Rattle.morph_analysis.specs.Inner.Bits.{TableTree}
use Rattle.std.proofs.lemmas.List.{get_or_read}
use Rattle.morph_analysis.proofs.table.Table.allows.Goals.{else-row-self-via-then-row-self+else-rule-self, else-row-self-via-else-row-self}
use Rattle.morph_analysis.proofs.table.Table.allows.Goals as goal

pub returns-then-rule-self : goal.returns-then-rule-self
returns-then-rule-self c =
    let rows = c.self.inside.rows in
    let width = c.self.inside.width in
    let bits = c.self.inside.bits.items in
    let read = get_or_read bits ((c.args.row * width + c.args.rule) / 64) c.index.result.now (word_within rows width (length bits) c.args.row c.args.rule c.if-row-self.true c.if-rule-self.true c.self.invariant) c.index.ensures 0 in
    ap not c.has_bit.ensures ∙ allowed_at rows width bits c.args.row c.args.rule c.index.result.now c.args.self.now.cells c.if-row-self.true c.if-rule-self.true read (ap (λ (t : TableTree). t.cells) c.self.view_is)

pub returns : goal.returns
returns c =
    elim c.else-row-self.branch [
      | else-row-self-via-then-row-self+else-rule-self w ↦ outside_at c.self.inside.rows c.self.inside.width c.self.inside.bits.items c.args.row c.args.rule c.args.self.now.cells (inr w.if-rule-self.false) (ap (λ (t : TableTree). t.cells) c.self.view_is)
      | else-row-self-via-else-row-self w ↦ outside_at c.self.inside.rows c.self.inside.width c.self.inside.bits.items c.args.row c.args.rule c.args.self.now.cells (inl w.if-row-self.false) (ap (λ (t : TableTree). t.cells) c.self.view_is)
    ]
