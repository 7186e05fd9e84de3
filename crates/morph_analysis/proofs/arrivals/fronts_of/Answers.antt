use Rattle.std.proofs.Common.{arith, ◌≡◌, ◌∙◌, ◌+◌, ◌-◌, ◌<◌, ◌++◌, [], ◌∷◌, length, map, drop, string_bytes, sym, ap, subst}
use Rattle.morph_analysis.proofs.ArrivalLemmas.{fronts_none, fronts_more, drop_all}
use Rattle.morph_analysis.specs.LatticeViews.{step_of}
use Rattle.std.proofs.lemmas.List.{length-map}
use denote.Ref.{Bor}
use Rattle.morph_analysis.specs.declared.lattice.Step.{Step}
use Rattle.morph_analysis.specs.Inner.Adding.{AddsThose, Precedes}
use Rattle.morph_analysis.proofs.Lists.{drop_map_at}
use Rattle.morph_analysis.specs.Lattices.{AreFronts}
use Rattle.morph_analysis.proofs.arrivals.fronts_of.Goals as goal

pub loop-left-init : goal.loop-left-init
loop-left-init c = record {
  within = omega arith;
  fronts = subst (λ l. AreFronts (map (λ (s : Bor Step). step_of s.now) c.args.sorted.now) l c.args.node c.push.new.self.items) (sym (drop_all (map string_bytes c.args.words.now) (length c.args.words.now) (omega (arith, length-map c.args.words.now string_bytes))))
      (subst (AreFronts (map (λ (s : Bor Step). step_of s.now) c.args.sorted.now) [] c.args.node) (sym (c.in_ok-push.ensures.items ∙ ap (λ l. l ++ c.args.node ∷ []) c.new-nodes.ensures.items)) (fronts_none (map (λ (s : Bor Step). step_of s.now) c.args.sorted.now) c.args.node));
}

pub loop-left-preserved : goal.loop-left-preserved
loop-left-preserved c =
    let i = c.loop-left.left - 1 in
    let lt : c.loop-left.left - 1 < length c.args.words.now = omega (arith, c.loop-left.invariant.within, c.loop-left-test.true) in
    let next : (c.loop-left.left - 1) + 1 ≡ c.loop-left.left = omega (arith, c.loop-left-test.true) in
    let word = string_bytes c.index-words-left.result in
    let words : drop (c.loop-left.left - 1) (map string_bytes c.args.words.now) ≡ string_bytes c.index-words-left.result ∷ drop c.loop-left.left (map string_bytes c.args.words.now) =
    drop_map_at string_bytes c.args.words.now i c.index-words-left.result lt c.index-words-left.is ∙ ap (λ k. word ∷ drop k (map string_bytes c.args.words.now)) next in
    record {
      within = omega (arith, c.loop-left.invariant.within);
      fronts = subst (λ l. AreFronts (map (λ (s : Bor Step). step_of s.now) c.args.sorted.now) l c.args.node c.in_ok-nodes.nodes.items) (sym words)
          (fronts_more (map (λ (s : Bor Step). step_of s.now) c.args.sorted.now) word (drop c.loop-left.left (map string_bytes c.args.words.now)) c.args.node c.loop-left.nodes.items c.in_ok-nodes.nodes.items c.loop-left.invariant.fronts
          (subst (λ w. AddsThose (Precedes (map (λ (s : Bor Step). step_of s.now) c.args.sorted.now) w c.loop-left.nodes.items) [] c.in_ok-nodes.nodes.items) c.as_str.ensures.value
          (subst (λ l. AddsThose (Precedes (map (λ (s : Bor Step). step_of s.now) c.args.sorted.now) c.as_str.result.now l) [] c.in_ok-nodes.nodes.items) c.deref.ensures.value c.in_ok-nodes.ensures.these)) c.in_ok-nodes.ensures.rising);
    }

pub returns : goal.returns
returns c =
    let zero : c.loop-left.left ≡ 0 = omega (arith, c.loop-left-test.false) in
    subst (λ n. AreFronts (map (λ (s : Bor Step). step_of s.now) c.args.sorted.now) (drop n (map string_bytes c.args.words.now)) c.args.node c.loop-left.nodes.items) zero c.loop-left.invariant.fronts
