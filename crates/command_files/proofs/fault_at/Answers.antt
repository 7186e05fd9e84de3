use Rattle.command_files.proofs.ShownLemmas.{told_alone, told_shown}
use Rattle.command_files.proofs.fault_at.Goals as goal

pub returns-then-not-verbose-clause-told : goal.returns-then-not-verbose-clause-told
returns-then-not-verbose-clause-told g c = told_alone c.args.verbose (g.S.Shelf.files c.args.shelf.now) c.args.name.now c.args.why.now c.line_at-told.result c.line_at-told.ensures

pub returns-in-Ok-clause-told : goal.returns-in-Ok-clause-told
returns-in-Ok-clause-told g c =
    told_shown c.args.verbose (g.S.Shelf.files c.args.shelf.now) c.args.name.now c.args.why.now c.line_at-told.result c.followed.result c.in-Ok.lines.items c.deref.result.now
    c.if-not-verbose.false c.deref.ensures.value c.in-Ok.ensures.shown c.line_at-told.ensures c.followed.ensures

pub returns-in-Err-clause-told : goal.returns-in-Err-clause-told
returns-in-Err-clause-told g c = told_alone c.args.verbose (g.S.Shelf.files c.args.shelf.now) c.args.name.now c.args.why.now c.line_at-told.result c.line_at-told.ensures
