use Rattle.std.proofs.Common.{ap}
use Rattle.mrs_places.specs.Paths.{paths_of}
use Rattle.mrs_places.specs.Places.{parts_of}
use Rattle.mrs_extract.proofs.Gathering.{gathered}
use Rattle.mrs_extract.proofs.Named.{all_utf8}
use Rattle.mrs_extract.proofs.Validity.{mrs_valid}
use Rattle.mrs_extract.proofs.extraction.mrs_of.Goals as goal

pub returns-clause-is : goal.returns-clause-is
returns-clause-is c = gathered c.args.graph.now c.args.types.now (paths_of c.args.paths.now) c.args.found.now c.in_ok-numbers.numbers.nodes c.number.new.self.nodes c.number-2.new.self.nodes c.predications.new.numbers.nodes c.handle_constraints.new.numbers.nodes c.individual_constraints.new.numbers.nodes c.nodes-2.result.now
    c.deref.result.now c.deref-2.result.now c.deref-3.result.now c.deref.ensures.value c.deref-2.ensures.value c.deref-3.ensures.value
    (ap (λ s. s.nodes) c.in_ok-numbers.ensures) c.in_ok-top.ensures.noted c.in_ok-index.ensures.noted c.in_ok-eps.ensures.nodes c.in_ok-hcons.ensures.nodes c.in_ok-icons.ensures.nodes c.nodes-2.ensures.nodes _
    c.in_ok-top.ensures.is c.in_ok-index.ensures.is c.in_ok-eps.ensures.are c.in_ok-hcons.ensures.are c.in_ok-icons.ensures.are c.in_ok-vars.ensures

pub returns-clause-valid : goal.returns-clause-valid
returns-clause-valid c = mrs_valid c.args.graph.now c.nodes.ensures.graph c.args.types.now (paths_of c.args.paths.now) c.requires.paths c.requires.of (all_utf8 c.args.paths.now.feats.items) (parts_of c.args.found.now) _ c.requires.inside
    (gathered c.args.graph.now c.args.types.now (paths_of c.args.paths.now) c.args.found.now c.in_ok-numbers.numbers.nodes c.number.new.self.nodes c.number-2.new.self.nodes c.predications.new.numbers.nodes c.handle_constraints.new.numbers.nodes c.individual_constraints.new.numbers.nodes c.nodes-2.result.now
    c.deref.result.now c.deref-2.result.now c.deref-3.result.now c.deref.ensures.value c.deref-2.ensures.value c.deref-3.ensures.value
    (ap (λ s. s.nodes) c.in_ok-numbers.ensures) c.in_ok-top.ensures.noted c.in_ok-index.ensures.noted c.in_ok-eps.ensures.nodes c.in_ok-hcons.ensures.nodes c.in_ok-icons.ensures.nodes c.nodes-2.ensures.nodes _
    c.in_ok-top.ensures.is c.in_ok-index.ensures.is c.in_ok-eps.ensures.are c.in_ok-hcons.ensures.are c.in_ok-icons.ensures.are c.in_ok-vars.ensures)
