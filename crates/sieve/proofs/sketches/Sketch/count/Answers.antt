use Rattle.std.proofs.Common.{◌∙◌, ap, length, arith}
use Rattle.sieve.specs.Inner.{numbers_of}
use Rattle.sieve.proofs.Lines.{same_length, lines_even}
use Rattle.sieve.proofs.sketches.Sketch.count.Goals as goal

pub returns : goal.returns
returns c =
    let items = c.self.inside.types.items in
    let even = lines_even c.self.inside.paths (numbers_of items) (same_length _ items ∙ c.self.invariant) in
    let seen = ap length c.self.view_is in
    omega (arith, c.len.ensures, c.self.inside.types.ok.0, c.self.invariant, even, seen)
