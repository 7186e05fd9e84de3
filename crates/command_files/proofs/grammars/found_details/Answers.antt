use Rattle.std.proofs.Common.{◌∙◌, true, [], refl, ap, sym, subst, option_map}
use Rattle.grammar_files.specs.Walks.{fault_at}
use Rattle.fault_details.specs.Further.{has_further}
use Rattle.command_files.specs.FaultTexts.{has_place}
use Rattle.command_files.specs.Grammars.{AreDetails, place}
use Rattle.command_files.specs.Shown.{no_lines}
use Rattle.command_files.specs.Views.{IsMoreOf}
use Rattle.command_files.proofs.FaultLemmas.{details_with}
use Rattle.command_files.proofs.grammars.found_details.Goals as goal

pub returns-in-Ok-clause-details : goal.returns-in-Ok-clause-details
returns-in-Ok-clause-details g c =
    let S = g.S.Shelf in
    let name = c.args.name.now in
    let settings = option_map (λ s. s.now) c.args.settings in
    details_with (S.files c.args.shelf.now) name settings true (fault_at c.args.file.now c.args.at c.args.why.now) c.in-Ok.lines.items c.with_further.result.items refl c.in-Ok.ensures.shown
    (subst (λ files. IsMoreOf files name settings c.args.why.now c.in-Ok.lines.items c.with_further.result.items) c.shown.ensures.same c.with_further.ensures.more)

pub returns-in-Ok-clause-still : goal.returns-in-Ok-clause-still
returns-in-Ok-clause-still g c = λ e. c.with_further.ensures.still (ap has_further e) ∙ c.shown.ensures.still (ap has_place e)

pub returns-in-Err-clause-details : goal.returns-in-Err-clause-details
returns-in-Err-clause-details g c =
    subst (AreDetails true (g.S.Shelf.files c.args.shelf.now) c.args.name.now (option_map (λ s. s.now) c.args.settings) (fault_at c.args.file.now c.args.at c.args.why.now)) (sym c.new.ensures.items)
    (place [] no_lines)

pub returns-in-Err-clause-still : goal.returns-in-Err-clause-still
returns-in-Err-clause-still g c = λ e. c.shown.ensures.still (ap has_place e)
