use Rattle.std.proofs.Common.{◌<◌, length, slice_index_or, refl, sym, ap, arith}
use Rattle.fs_closing.specs.Cells.{no_cell}
use Rattle.fs_closing.specs.Beside.{cells_from}
use Rattle.fs_closing.proofs.HasLemmas.{Has-at}
use Rattle.fs_closing.proofs.BesideLemmas.{row_size, cell_at, no_arc}
use Rattle.fs_closing.proofs.parts.own_cell.Goals as goal

pub overflow_add-result : goal.overflow_add-result
overflow_add-result c =
    let row = cells_from c.args.base c.args.arcs.now in
    let place : c.args.i < length row = omega (arith, c.requires.place, row_size c.args.base c.args.arcs.now row refl) in
    let low = c.requires.small (slice_index_or row c.args.i no_cell) (Has-at row c.args.i no_cell place) in
    let to = ap (λ x. x.to) (cell_at c.args.base c.args.arcs.now row c.args.i no_cell no_arc refl place) in
    omega (arith, low, to)

pub returns : goal.returns
returns c = λ d.
    let row = cells_from c.args.base c.args.arcs.now in
    let place : c.args.i < length row = omega (arith, c.requires.place, row_size c.args.base c.args.arcs.now row refl) in
    sym (cell_at c.args.base c.args.arcs.now row c.args.i d no_arc refl place)
