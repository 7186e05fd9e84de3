use Rattle.std.proofs.Common.{subst}
use Rattle.command_files.specs.Shown.{AreLines, IsPlaceShown, IsFollowed, lines, no_lines}
use Rattle.transfer_commands.specs.Faults.{form_text, IsFormShown}
use Rattle.transfer_commands.proofs.Exits.{form-plain, form-followed}
use Rattle.transfer_commands.proofs.loading.form_told.Goals as goal

pub returns-then-not-verbose : goal.returns-then-not-verbose
returns-then-not-verbose g c =
    form-plain (form_text c.args.name.now c.args.at) (AreLines c.args.verbose (IsFormShown (g.S.Shelf.files c.args.shelf.now) c.args.name.now c.args.at)) no_lines c.form_fault-told.result c.form_fault-told.ensures

pub returns-in-Ok : goal.returns-in-Ok
returns-in-Ok g c =
    let files = g.S.Shelf.files c.args.shelf.now in
    let name = c.args.name.now in
    let shown = subst (λ cause. IsPlaceShown files name (λ text. c.args.at) cause c.in-Ok.lines.items) c.form_cause.ensures c.in-Ok.ensures.shown in
    form-followed (form_text name c.args.at) (AreLines c.args.verbose (IsFormShown files name c.args.at)) no_lines c.form_fault-told.result c.followed.result c.in-Ok.lines.items
    (lines c.in-Ok.lines.items c.if-not-verbose.false shown) c.form_fault-told.ensures (subst (λ l. IsFollowed c.form_fault-told.result l c.followed.result) c.deref.ensures.value c.followed.ensures)

pub returns-in-Err : goal.returns-in-Err
returns-in-Err g c =
    form-plain (form_text c.args.name.now c.args.at) (AreLines c.args.verbose (IsFormShown (g.S.Shelf.files c.args.shelf.now) c.args.name.now c.args.at)) no_lines c.form_fault-told.result c.form_fault-told.ensures
