use Rattle.std.proofs.Common.{arith, ◌≡◌, ◌∙◌, ◌+◌, map, sym, subst}
use Rattle.morph_analysis.proofs.NodeLemmas.{round_more, first_round, all_spelled, no_more}
use Rattle.morph_analysis.specs.Views.{node_of}
use Rattle.morph_analysis.specs.Inner.Growing.{IsGrown, IsPartSpelled}
use Rattle.std.proofs.lemmas.List.{length-map}
use Rattle.morph_analysis.proofs.nodes.spelled.Goals as goal

pub loop-round-init : goal.loop-round-init
loop-round-init c =
    first_round c.args.spelling.now c.args.word.now (map node_of c.node_for.new.nodes.entries) c.in_ok-node_for.field-0
    (subst (λ l. IsGrown 0 c.args.word.now (map node_of l) (map node_of c.node_for.new.nodes.entries)) c.new-nodes.ensures.empty c.in_ok-node_for.ensures.same) c.in_ok-node_for.ensures.node

pub returns-then-begin-end : goal.returns-then-begin-end
returns-then-begin-end c =
    no_more c.args.spelling.now c.args.word.now c.loop-round.round c.args.depth c.loop-round.begin (map node_of c.loop-round.nodes.entries) c.loop-round.invariant
    (omega (arith, c.if-begin-end.true, c.len-end.ensures.len, length-map c.loop-round.nodes.entries node_of))

pub loop-round-preserved : goal.loop-round-preserved
loop-round-preserved c =
    let size = length-map c.loop-round.nodes.entries node_of in
    subst (λ b. IsPartSpelled c.args.spelling.now c.args.word.now (c.loop-round.round + 1) b (map node_of c.add_round.new.nodes.entries)) (size ∙ sym c.len-end.ensures.len)
    (round_more c.args.spelling.now c.args.word.now c.loop-round.round c.loop-round.begin (map node_of c.loop-round.nodes.entries) (map node_of c.add_round.new.nodes.entries) c.loop-round.invariant c.in_ok-add_round.ensures.adds
    (λ place from lt. c.in_ok-add_round.ensures.done place from (omega (arith, size, lt))))

pub returns : goal.returns
returns c =
    let end : c.loop-round.round ≡ c.args.depth = omega arith in
    all_spelled c.args.spelling.now c.args.word.now c.args.depth c.loop-round.begin (map node_of c.loop-round.nodes.entries)
    (subst (λ r. IsPartSpelled c.args.spelling.now c.args.word.now r c.loop-round.begin (map node_of c.loop-round.nodes.entries)) end c.loop-round.invariant)
