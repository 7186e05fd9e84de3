use Rattle.profile_reports.proofs.Counting.{put_has}
use Rattle.profile_reports.proofs.texts.put.Goals as goal

pub returns-clause-has : goal.returns-clause-has
returns-clause-has c = put_has c.args.set.now c.insert.new.self c.args.text c.in_ok-insert.field-0 c.in_ok-insert.ensures.keys c.in_ok-insert.ensures.added
