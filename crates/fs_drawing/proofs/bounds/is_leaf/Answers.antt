use Rattle.std.proofs.Common.{◌++◌, sym, ◌∙◌, ap, arith}
use Rattle.std.proofs.lemmas.List.{nil_from_length}
use Rattle.fs_closing.specs.Cells.{chain}
use Rattle.fs_closing.specs.NodeTable.{own_row}
use Rattle.fs_closing.proofs.ChainLemmas.{chain-none}
use Rattle.fs_drawing.proofs.bounds.is_leaf.Goals as goal

pub returns : goal.returns
returns c = λ _.
    let cells = c.args.nodes.now.cells in
    let own = own_row c.args.nodes.now c.args.n in
    ap (λ p. chain cells p ++ own) (sym c.first_of.ensures ∙ c.if-first_of-ne0.false) ∙ ap (λ l. l ++ own) (chain-none cells)
    ∙ nil_from_length own (omega (arith, c.own_count.ensures, c.if-own_count-ne0.false))
