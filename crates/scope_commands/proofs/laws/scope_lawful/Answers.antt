use Rattle.scope_commands.proofs.OneAnswers.{TextLaws, ReadingLaws}
use Rattle.scope_commands.proofs.ScopeLaws.{scope-laws}
use Rattle.scope_commands.proofs.laws.scope_lawful.Goals as goal

pub returns : goal.returns
returns c =
    let texts : TextLaws = record { one_meaning = c.one_meaning.ensures; all_valid = c.all_valid.ensures; no_fault = c.no_fault.ensures; one_place = c.one_place.ensures } in
    let readings : ReadingLaws = record { one_list = c.one_list.ensures; one_frame = c.one_frame.ensures; over = c.one_answer.ensures.over; other = c.one_answer.ensures.other } in
    scope-laws texts readings
