use Rattle.std.proofs.Common.{arith, ◌<◌, ◌≤◌, length, map, below_more}
use Rattle.morph_analysis.proofs.NodeLemmas.{adds_then, adds_refl, done_grown}
use Rattle.morph_analysis.specs.Views.{node_of}
use Rattle.morph_analysis.specs.Inner.Growing.{IsDone}
use Rattle.std.proofs.lemmas.List.{length-map}
use Rattle.morph_analysis.proofs.nodes.add_round.Goals as goal

pub loop-place-init : goal.loop-place-init
loop-place-init c = record { adds = adds_refl c.args.spelling.now c.args.distance (map node_of c.args.nodes.now.entries); done = λ p from lt. absurd (omega (arith, from, lt)) }

pub loop-place-preserved : goal.loop-place-preserved
loop-place-preserved c =
    let N0 = map node_of c.args.nodes.now.entries in
    let N1 = map node_of c.loop-place.nodes.entries in
    let N2 = map node_of c.add_stems.new.nodes.entries in
    let step = c.in_ok-add_stems.ensures.adds in
    let within : c.loop-place.place < length (map node_of c.loop-place.nodes.entries) = omega (arith, length-map c.args.nodes.now.entries node_of, c.loop-place-test.true, c.len-end.ensures, c.loop-place.invariant.adds.grows.longer) in
    record {
      adds = adds_then c.args.spelling.now c.args.distance N0 N1 N2 c.loop-place.invariant.adds step;
      done = λ p from below.
          below_more (λ q. c.args.begin ≤ q → IsDone c.args.spelling.now N2 q) c.loop-place.place
          (λ q less first. done_grown c.args.spelling.now N1 N2 q step.grows (omega (arith, within, less)) (c.loop-place.invariant.done q first less))
          (λ first. c.in_ok-add_stems.ensures.done) p below from;
    }
