use Rattle.mrs_model.specs.Views.{meaning_of}
use Rattle.mrs_transfer.proofs.Absent.{HasAbsent, absent_nowhere, on_no}
use Rattle.mrs_transfer.proofs.runs.Reached.least_site.Goals as goal

pub returns-then-not-may_match-clause-none : goal.returns-then-not-may_match-clause-none
returns-then-not-may_match-clause-none g c = λ allows a.
    absent_nowhere allows c.args.number c.args.rule.now (meaning_of c.args.self.now.mrs) c.args.self.now.present.places.items c.requires.present
    (on_no (HasAbsent c.args.self.now.present.places.items c.args.rule.now) c.may_match.result c.if-not-may_match.true c.may_match.ensures)
