use Rattle.std.proofs.Common.{◌+◌, sym, ◌∙◌, ap, arith}
use Rattle.std.specs.Option.{option_map}
use Rattle.fs_closing.specs.Cells.{find_arc}
use Rattle.fs_closing.specs.Beside.{row_in}
use Rattle.fs_closing.proofs.ChainLemmas.{find_arc-has}
use Rattle.fs_closing.proofs.BesideLemmas.{home_holds, row_home, find_from}
use Rattle.fs_closing.proofs.parts.own_arc.Goals as goal

pub overflow_sub-n : goal.overflow_sub-n
overflow_sub-n c = (home_holds c.args.n c.args.beside.now c.in_ok-part.part.now (sym c.in_ok-part.ensures)).0

pub arcs-requires : goal.arcs-requires
arcs-requires c = (home_holds c.args.n c.args.beside.now c.in_ok-part.part.now (sym c.in_ok-part.ensures)).1

pub returns-in_err-to : goal.returns-in_err-to
returns-in_err-to c =
    let p = c.in_ok-part.part.now in
    let is = row_home c.args.beside.now c.args.n p c.arcs.result.now (sym c.in_ok-part.ensures) c.arcs.ensures in
    c.from_residual-in_err-to.ensures ∙ ap (option_map (λ m. p.base + m)) c.in_err-to.ensures ∙ sym (find_from p.base c.arcs.result.now c.args.feat)
    ∙ ap (λ l. find_arc l c.args.feat) is

pub overflow_add-result : goal.overflow_add-result
overflow_add-result c =
    let p = c.in_ok-part.part.now in
    let row = row_in c.args.beside.now c.args.n in
    let is = row_home c.args.beside.now c.args.n p c.arcs.result.now (sym c.in_ok-part.ensures) c.arcs.ensures in
    let found = sym (ap (option_map (λ m. p.base + m)) c.in_ok-to.ensures ∙ sym (find_from p.base c.arcs.result.now c.args.feat) ∙ ap (λ l. find_arc l c.args.feat) is) in
    let x = find_arc-has row c.args.feat (p.base + c.in_ok-to.to) found in
    omega (arith, x.3, c.requires.small x.0 x.1)

pub returns : goal.returns
returns c =
    let p = c.in_ok-part.part.now in
    let is = row_home c.args.beside.now c.args.n p c.arcs.result.now (sym c.in_ok-part.ensures) c.arcs.ensures in
    ap (option_map (λ m. p.base + m)) c.in_ok-to.ensures ∙ sym (find_from p.base c.arcs.result.now c.args.feat) ∙ ap (λ l. find_arc l c.args.feat) is
