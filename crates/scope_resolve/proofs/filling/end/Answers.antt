use Rattle.std.proofs.Common.{map}
use Rattle.scope_model.specs.Answers.{plugged_of}
use Rattle.scope_resolve.specs.Inner.Nets.{frame_in}
use Rattle.scope_resolve.specs.Inner.Filling.{path, state_of}
use Rattle.scope_resolve.proofs.Steps.{full_of, unplaced_none}
use Rattle.scope_resolve.proofs.Masking.{never_placed}
use Rattle.scope_resolve.proofs.filling.end.Goals as goal

pub close-requires-clause-full : goal.close-requires-clause-full
close-requires-clause-full c =
    let n = c.args.net.now in
    let t = c.args.trail.now in
    full_of (frame_in n.parts) t.root (path t) c.requires.net.linked.labels (λ l is. (c.requires.seen.placed l is).0 (c.in-None.ensures l ((c.requires.net.labels l).1 is))) c.requires.closed

pub returns-in-Some : goal.returns-in-Some
returns-in-Some c =
    let n = c.args.net.now in
    let t = c.args.trail.now in
    let is = (c.requires.net.labels _).0 c.in-Some.ensures.0 in
    unplaced_none n t c.requires.net c.requires.going c.args.max _ (map plugged_of c.args.out.now.items) is (never_placed (frame_in n.parts) (state_of t) c.args.ways.now c.requires.seen _ is c.in-Some.ensures.1) c.requires.closed
