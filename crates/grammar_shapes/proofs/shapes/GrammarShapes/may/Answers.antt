use Rattle.std.proofs.Common.{◌∙◌, ap, subst}
use Rattle.fs_graph.specs.GraphMap.{reader_of}
use Rattle.sieve.specs.Sketches.{sketches_meet, sketch_of, below_place}
use Rattle.sieve.specs.Unifying.{NoneUnify}
use Rattle.grammar_shapes.proofs.shapes.GrammarShapes.may.Goals as goal

pub returns-clause-none : goal.returns-clause-none
returns-clause-none _ c apart =
    c.sketches-sketches.ensures.apart (subst (λ t. NoneUnify t c.sketches-sketches.result.place.now c.sketches-sketches.result.daughter.now) c.types.ensures (c.types_meet.ensures.apart apart))

pub returns-clause-exact : goal.returns-clause-exact
returns-clause-exact _ c r place last at place_at last_at =
    let are = c.sketches-sketches.ensures.exact r place last at place_at last_at in
    c.types_meet.ensures.exact
    ∙ ap (λ t. sketches_meet t c.sketches-sketches.result.place.now c.sketches-sketches.result.daughter.now) c.types.ensures
    ∙ ap (λ a. sketches_meet c.args.self.now.rules.grammar.types a c.sketches-sketches.result.daughter.now) are.0
    ∙ ap (λ b. sketches_meet c.args.self.now.rules.grammar.types (sketch_of (below_place place (reader_of r.structure.now)) c.args.self.now.rules.checks) b) are.1
