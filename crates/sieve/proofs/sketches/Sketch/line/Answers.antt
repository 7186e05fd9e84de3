use Rattle.std.proofs.Common.{◌≡◌, ◌∙◌, ap, subst, length, slice_get, Some, arith}
use Rattle.std.specs.Prelude.{option_map}
use Rattle.fs_graph.specs.Facts.{path_of}
use Rattle.sieve.specs.Inner.{numbers_of, line_seen}
use Rattle.sieve.proofs.Lines.{same_length, lines_even, line_at, map_get, got}
use Rattle.sieve.proofs.sketches.Sketch.line.Goals as goal

pub path-requires : goal.path-requires
path-requires c =
    let items = c.self.inside.types.items in
    let even = lines_even c.self.inside.paths (numbers_of items) (same_length _ items ∙ c.self.invariant) in
    let seen = ap length c.self.view_is in
    omega (arith, c.requires, even, seen)

pub index-requires : goal.index-requires
index-requires c =
    let items = c.self.inside.types.items in
    let even = lines_even c.self.inside.paths (numbers_of items) (same_length _ items ∙ c.self.invariant) in
    let seen = ap length c.self.view_is in
    omega (arith, c.requires, even, seen, c.self.invariant, c.self.inside.types.ok.0)

pub returns : goal.returns
returns c =
    let items = c.self.inside.types.items in
    let even = lines_even c.self.inside.paths (numbers_of items) (same_length _ items ∙ c.self.invariant) in
    let seen = ap length c.self.view_is in
    let there_is = got items c.args.k c.index.result.now (omega (arith, c.requires, even, seen, c.self.invariant)) c.index.ensures in
    subst (λ v. slice_get v c.args.k ≡ Some (line_seen (record { path = c.path.result; ty = c.index.result.now }))) c.self.view_is
    (line_at c.self.inside.paths (numbers_of items) c.args.k (path_of c.path.result.now) (option_map (λ t. t.0) c.index.result.now) c.path.ensures (map_get (option_map (λ t. t.0)) items c.args.k c.index.result.now there_is))
