use Rattle.std.proofs.Common.{subst}
use Rattle.command_files.specs.Shown.{IsFollowed}
use Rattle.transfer_commands.proofs.Exits.{told-plain, told-followed}
use Rattle.transfer_commands.proofs.loading.told.Goals as goal

pub returns-then-not-verbose-clause-told : goal.returns-then-not-verbose-clause-told
returns-then-not-verbose-clause-told g c = told-plain (g.S.Shelf.files c.args.shelf.now) c.args.verbose c.args.fault.now c.fault_of-line.result c.fault_of-line.ensures

pub returns-clause-told : goal.returns-clause-told
returns-clause-told g c =
    told-followed (g.S.Shelf.files c.args.shelf.now) c.args.verbose c.args.fault.now c.fault_of-line.result c.followed.result c.details_of-details.result.items c.if-not-verbose.false
    c.fault_of-line.ensures c.details_of-details.ensures.shown (subst (λ l. IsFollowed c.fault_of-line.result l c.followed.result) c.deref.ensures.value c.followed.ensures)
