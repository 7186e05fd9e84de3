use Rattle.std.proofs.Common.{◌≡◌, ◌≤◌, Option, Some, slice_index_or, arith, subst, sym, ap, ◌∙◌}
use Rattle.fs_model.specs.Claims.{Has}
use Rattle.fs_graph.specs.declared.facts.Feat.{Feat}
use Rattle.fs_graph.specs.declared.graph.GraphArc.{GraphArc}
use Rattle.fs_closing.proofs.HasLemmas.{Has-at}
use Rattle.forced_types.specs.Inner.Sound.{most_of, entry_in}
use Rattle.forced_types.specs.Inner.Search.{IsNear, mark_at}
use Rattle.forced_types.proofs.SoundLemmas.{entry_count}
use Rattle.forced_types.proofs.StepLemmas.{arc_has}
use Rattle.forced_types.proofs.TypeLemmas.{at_every, one_more}
use Rattle.forced_types.proofs.nodes.Nodes.pick.Goals as goal

pub better-best-requires-clause-to : goal.better-best-requires-clause-to
better-best-requires-clause-to c =
    let t = c.args.self.now in
    let d : GraphArc = record { feat = record { 0 = 0 }; to = record { 0 = 0 } } in
    let a = slice_index_or c.arcs-arcs.result.now c.loop-k.k d in
    let has = subst (Has a) c.arcs-arcs.ensures (Has-at c.arcs-arcs.result.now c.loop-k.k d (omega (arith, c.loop-k-test.true))) in
    let inside = ((c.requires.sound.entries.each c.args.n (omega (arith, entry_count t, c.requires.node))).arc_in a has).0 in
    omega (arith, inside, entry_count t)

pub loop-k-preserved : goal.loop-k-preserved
loop-k-preserved c =
    let t = c.args.self.now in
    let marks = c.args.marks.now in
    let d : GraphArc = record { feat = record { 0 = 0 }; to = record { 0 = 0 } } in
    one_more (λ j. IsNear c.args.aim (most_of c.args.given) (mark_at marks (entry_in t (slice_index_or c.arcs-arcs.result.now j d).to.0).up) c.args.length →
    (b : Feat) × (c.better-best.result ≡ Some b) × (b.0 ≤ (slice_index_or c.arcs-arcs.result.now j d).feat.0)) c.loop-k.k
    (λ j h near.
    let b = c.loop-k.invariant j h near in
    let b' = c.better-best.ensures.best b.0 b.1 in
    (b'.0, b'.1, (let low = b.2 in let lower = b'.2 in omega arith))) (c.better-best.ensures.arc)

pub returns : goal.returns
returns c =
    let t = c.args.self.now in
    let marks = c.args.marks.now in
    let d : GraphArc = record { feat = record { 0 = 0 }; to = record { 0 = 0 } } in
    let best : c.loop-k.best ≡ Some c.in_ok-feat.feat = c.in_ok-feat.was in
    let end : c.arc_end.result ≡ Some c.in_ok-to.to = c.in_ok-to.was in
    record {
      arc = sym c.arc_end.ensures.value ∙ end;
      least = λ f m e near.
          let a = arc_has (entry_in t c.args.n).arcs f m e in
          let all = at_every c.arcs-arcs.result.now
          (λ (x : GraphArc). IsNear c.args.aim (most_of c.args.given) (mark_at marks (entry_in t x.to.0).up) c.args.length →
          (b : Feat) × (c.loop-k.best ≡ Some b) × (b.0 ≤ x.feat.0)) d (λ k h. c.loop-k.invariant k (omega (arith, c.loop-k-test.false))) in
          let b = all a.0 (subst (Has a.0) (sym c.arcs-arcs.ensures) a.1)
          (subst (λ x. IsNear c.args.aim (most_of c.args.given) (mark_at marks (entry_in t x).up) c.args.length) (sym a.3) near) in
          let one = same_feat c.loop-k.best b.0 c.in_ok-feat.feat b.1 best in
          let low = b.2 in
          let feat = a.2 in
          omega arith;
    }
  where
    same_feat : (o : Option Feat) (b b' : Feat) → o ≡ Some b → o ≡ Some b' → b.0 ≡ b'.0
    same_feat o b b' x y = let is : b ≡ b' = cc in ap (λ (z : Feat). z.0) is
