use Rattle.std.proofs.Common.{arith, ◌≡◌, ◌∙◌, ◌<◌, inl, inr, length, map, string_bytes, refl, sym, subst}
use Rattle.morph_analysis.proofs.NodeLemmas.{stems_step, edge_grown}
use Rattle.morph_analysis.specs.Views.{node_of}
use Rattle.morph_analysis.specs.Inner.Growing.{IsGrown, IsNodeOf, HasEdge}
use Rattle.morph_analysis.specs.Spelled.{node_at}
use Rattle.std.proofs.lemmas.List.{length-map}
use Rattle.morph_analysis.proofs.Lists.{all_taken}
use Rattle.lexicon.specs.Words.{Has}
use Rattle.spelling_rules.specs.Views.{stem_of}
use Rattle.spelling_rules.specs.Forms.{StemTree, HasForm}
use Rattle.morph_analysis.proofs.Lists.{Has-at, Has-next}
use Rattle.morph_analysis.proofs.nodes.add_stems.Goals as goal

pub loop-stem-preserved : goal.loop-stem-preserved
loop-stem-preserved c =
    let N0 = map node_of c.args.nodes.now.entries in
    let lt : c.args.place < length (map node_of c.args.nodes.now.entries) = omega (arith, length-map c.args.nodes.now.entries node_of, c.requires.place) in
    let has : Has (stem_of c.stem-item.result) (map stem_of c.in_ok-stems.stems.items) =
    subst (λ l. Has (stem_of c.stem-item.result) (map stem_of l)) c.deref-stem-items.ensures.value
    (Has-at stem_of c.deref-stem-items.result.now c.loop-stem.stem-index c.stem-item.result (stem_of c.stem-item.result) c.loop-stem-test.true c.stem-item.is refl) in
    let form = c.in_ok-stems.ensures.have (stem_of c.stem-item.result) has in
    let word : string_bytes c.stem-item.result.stem ≡ c.as_str.result.now = sym c.as_str.ensures.value in
    let step = stems_step c.args.spelling.now c.args.distance N0 (map node_of c.loop-stem.nodes.entries) (map node_of c.node_for.new.nodes.entries) (map node_of c.add_edge.new.nodes.entries) c.in_ok-node.node c.stem-item.result.rule c.args.place
    (string_bytes c.stem-item.result.stem) (node_at N0 c.args.place).word c.loop-stem.invariant.adds c.requires.near c.requires.next
    (subst (λ w. IsGrown c.args.distance w (map node_of c.loop-stem.nodes.entries) (map node_of c.node_for.new.nodes.entries)) (sym word) c.in_ok-node.ensures.same)
    (subst (λ w. IsNodeOf (map node_of c.node_for.new.nodes.entries) w c.in_ok-node.node) (sym word) c.in_ok-node.ensures.node) c.in_ok-add_edge.ensures lt refl form.0 form.1 form.2 in
    record {
      adds = step.0;
      edges = λ x h.
          elim (Has-next stem_of c.deref-stem-items.result.now c.loop-stem.stem-index c.stem-item.result x c.loop-stem-test.true c.stem-item.is h) [
            | inl k ↦ edge_grown (map node_of c.loop-stem.nodes.entries) (map node_of c.add_edge.new.nodes.entries) x.stem x.rule c.args.place step.1 (c.loop-stem.invariant.edges x k)
            | inr e ↦ subst (λ (v : StemTree). HasEdge (map node_of c.add_edge.new.nodes.entries) v.stem v.rule c.args.place) (sym e) step.2
          ];
    }

pub returns-clause-done : goal.returns-clause-done
returns-clause-done c = λ rule stem less pos h.
    let lt : c.args.place < length (map node_of c.args.nodes.now.entries) = omega (arith, length-map c.args.nodes.now.entries node_of, c.requires.place) in
    let word : (node_at (map node_of c.loop-stem.nodes.entries) c.args.place).word ≡ (node_at (map node_of c.args.nodes.now.entries) c.args.place).word = c.loop-stem.invariant.adds.grows.words c.args.place lt in
    let has : Has (record { rule = rule; stem = stem }) (map stem_of c.in_ok-stems.stems.items) = c.in_ok-stems.ensures.all (record { rule = rule; stem = stem }) less pos (subst (HasForm c.args.spelling.now rule stem) word h) in
    c.loop-stem.invariant.edges (record { rule = rule; stem = stem })
    (subst (λ l. Has (record { rule = rule; stem = stem }) (map stem_of l)) (sym (all_taken c.deref-stem-items.result.now c.loop-stem.stem-index c.loop-stem-test.false ∙ c.deref-stem-items.ensures.value)) has)
