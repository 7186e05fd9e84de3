use Rattle.std.proofs.Common.{true, ap, refl, sym, subst}
use Rattle.grammar_files.specs.Walks.{fault_at}
use Rattle.command_files.specs.FaultTexts.{has_place}
use Rattle.command_files.specs.Shown.{AreShown, lines, no_lines}
use Rattle.transfer_commands.proofs.loading.found_shown.Goals as goal

pub returns-in-Ok-clause-shown : goal.returns-in-Ok-clause-shown
returns-in-Ok-clause-shown g c = lines c.in-Ok.lines.items refl c.in-Ok.ensures.shown

pub returns-in-Ok-clause-still : goal.returns-in-Ok-clause-still
returns-in-Ok-clause-still g c = λ e. c.shown.ensures.still (ap has_place e)

pub returns-in-Err-clause-shown : goal.returns-in-Err-clause-shown
returns-in-Err-clause-shown g c =
    subst (AreShown true (g.S.Shelf.files c.args.shelf.now) (fault_at c.args.file.now c.args.at c.args.why.now)) (sym c.new.ensures.items) no_lines

pub returns-in-Err-clause-still : goal.returns-in-Err-clause-still
returns-in-Err-clause-still g c = λ e. c.shown.ensures.still (ap has_place e)
