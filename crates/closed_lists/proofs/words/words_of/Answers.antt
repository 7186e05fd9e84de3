use Rattle.std.proofs.Common.{◌≡◌, ◌∙◌, ◌<◌, ◌+◌, length, map, take, sym, ap, arith}
use Rattle.std.proofs.lemmas.List.{length-map}
use Rattle.closed_lists.specs.Names.{words_in}
use Rattle.closed_lists.specs.Strings.{string_of}
use Rattle.closed_lists.proofs.ListLemmas.{number_at, numbers_more}
use Rattle.closed_lists.proofs.WordLemmas.{unspoken, spoken_more}
use Rattle.closed_lists.proofs.words.words_of.Goals as goal

pub returns-in_default : goal.returns-in_default
returns-in_default c = λ ws.
    let all = length-map c.args.nodes.now (λ n. n.0) in
    unspoken c.args.types.now c.args.graph.now (map (λ n. n.0) c.args.nodes.now) c.loop-node.node-index _ ws (omega (arith, all, c.loop-node-test.true))
    (number_at c.args.nodes.now c.loop-node.node-index _ c.loop-node-test.true) (c.in_default.ensures ∙ ap (string_of c.args.types.now) c.ty.ensures)

pub loop-node-preserved : goal.loop-node-preserved
loop-node-preserved c =
    spoken_more c.args.types.now c.args.graph.now (map (λ n. n.0) (take c.loop-node.node-index c.args.nodes.now)) (map (λ n. n.0) (take (c.loop-node.node-index + 1) c.args.nodes.now)) _ c.in-Some.text.now
    (words_in c.loop-node.out) (words_in c.add_words.new.out) (numbers_more c.args.nodes.now c.loop-node.node-index _ c.loop-node-test.true)
    (sym (c.in-Some.ensures ∙ ap (string_of c.args.types.now) c.ty.ensures)) c.in_ok-add_words.ensures c.loop-node.invariant
