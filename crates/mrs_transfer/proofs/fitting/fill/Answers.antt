use Rattle.std.proofs.Common.{ap}
use Rattle.std.specs.Prelude.{map, string_bytes}
use Rattle.mrs_model.specs.Views.{variable_of, filler_of}
use Rattle.mrs_transfer.proofs.Filling.{text_yes, text_no}
use Rattle.mrs_transfer.proofs.fitting.fill.Goals as goal

pub returns-in-Text-there-2-clause-yes : goal.returns-in-Text-there-2-clause-yes
returns-in-Text-there-2-clause-yes c =
    text_yes (map variable_of c.args.all.now) (map string_bytes c.args.letters.now) (filler_of c.args.written.now) (filler_of c.args.there.now) (string_bytes c.in-Text.text) (string_bytes c.in-Text-there-2.other) c.args.pairs.now.items c.eq.result
    (ap filler_of c.in-Text.is) (ap filler_of c.in-Text-there-2.is) c.eq.ensures c.requires.pairs

pub returns-in-Text-there-2-clause-no : goal.returns-in-Text-there-2-clause-no
returns-in-Text-there-2-clause-no c =
    text_no (map variable_of c.args.all.now) (map string_bytes c.args.letters.now) (filler_of c.args.written.now) (filler_of c.args.there.now) (string_bytes c.in-Text.text) (string_bytes c.in-Text-there-2.other) c.args.pairs.now.items c.eq.result
    (ap filler_of c.in-Text.is) (ap filler_of c.in-Text-there-2.is) c.eq.ensures
