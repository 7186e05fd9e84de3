use Rattle.std.proofs.Common.{Err, option_map}
use Rattle.grammar_files.specs.Walks.{has_failed, WalksTo}
use Rattle.grammar_files.specs.WalkViews.{walked_of}
use Rattle.fault_details.specs.Further.{never}
use Rattle.fault_details.proofs.Reading.{walk-apart, no-fault}
use Rattle.fault_details.proofs.walked_again.Goals as goal

pub returns-in-Ok-clause-walked : goal.returns-in-Ok-clause-walked
returns-in-Ok-clause-walked g c =
    let S = g.S.Shelf in
    c.walk_without_faults.ensures.walked (S.files c.args.shelf.now) (has_failed (S.faults c.args.shelf.now) (S.faults c.walk.new.shelf) (S.asked c.walk.new.shelf)) never c.args.name.now
    (option_map (λ n. n.now) c.args.settings) (walked_of c.in-Ok.walked) c.in-Ok.ensures.walked

pub returns-in-Err-clause-read : goal.returns-in-Err-clause-read
returns-in-Err-clause-read g c = λ unread told is none x.
    let S = g.S.Shelf in
    let laws = c.walk_without_faults.ensures in
    let files = S.files c.args.shelf.now in
    let name = c.args.name.now in
    let settings = option_map (λ n. n.now) c.args.settings in
    let old = S.faults c.args.shelf.now in
    let new = S.faults c.walk.new.shelf in
    let asked = S.asked c.walk.new.shelf in
    no-fault (λ f. WalksTo files (has_failed old new asked) name settings (Err f)) c.in-Err.fault
    (λ f h. walk-apart c.one_walk.ensures laws.fault laws.shelf files name settings f old new asked h told is none x.0 x.1) (c.lack_in.ensures cc) c.in-Err.ensures.fault
