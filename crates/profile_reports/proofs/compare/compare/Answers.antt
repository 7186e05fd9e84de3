use Rattle.std.proofs.Common.{◌∙◌, not, map, ap}
use Rattle.profile_reports.specs.Texts.{is_among, each_once}
use Rattle.profile_reports.specs.Inner.{has}
use Rattle.profile_reports.proofs.Counting.{count_agree}
use Rattle.profile_reports.proofs.Outcomes.{filled}
use Rattle.profile_reports.proofs.compare.compare.Goals as goal

pub returns : goal.returns
returns c =
    let written = map (λ t. t.items) c.args.written.now in
    let came = map (λ t. t.items) c.args.came.now in
    let set = c.in_ok-set.set in
    let counted = c.in_ok-counted.counted in
    filled c.args.place c.args.got counted.kept counted.lost c.count_gained-gained.result written came
    (c.in_ok-counted.ensures.kept ∙ count_agree (has set) (is_among came) c.in_ok-set.ensures (each_once written))
    (c.in_ok-counted.ensures.lost ∙ count_agree (λ t. not (has set t)) (λ t. not (is_among came t)) (λ t. ap not (c.in_ok-set.ensures t)) (each_once written))
    (c.count_gained-gained.ensures ∙ count_agree (λ t. not (has counted.texts t)) (λ t. not (is_among written t)) (λ t. ap not (c.in_ok-counted.ensures.set t)) came)
