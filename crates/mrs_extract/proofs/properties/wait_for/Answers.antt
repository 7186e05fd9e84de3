use Rattle.std.proofs.Common.{◌≡◌, false, rules}
use Rattle.mrs_places.specs.Paths.{paths_of}
use Rattle.mrs_extract.specs.Extraction.{is_among}
use Rattle.mrs_extract.proofs.Spreading.{waits_one}
use Rattle.mrs_extract.proofs.properties.wait_for.Goals as goal

pub returns : goal.returns
returns c =
    let none : is_among (paths_of c.args.paths.now).skip_properties c.args.arc.feat.0 ≡ false = search rules in
    waits_one (paths_of c.args.paths.now) c.args.arc c.args.depth _ _ none c.in_ok-push.ensures.items
