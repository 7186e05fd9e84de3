use Rattle.std.proofs.Common.{subst}
use Rattle.mrs_places.specs.Paths.{paths_of}
use Rattle.mrs_lines.specs.Remembered.{IsLineIn}
use Rattle.mrs_lines.proofs.memory.LinesOfAsked.same.Goals as goal

pub returns : goal.returns
returns c = λ yes number told h.
    subst (λ f. IsLineIn (record { signs = c.args.self.now.signs.now; paths = paths_of c.args.self.now.paths.now }) f told.items) (c.same.ensures yes) h
