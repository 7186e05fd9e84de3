use Rattle.std.proofs.Common.{◌≡◌, ◌+◌, Some, None, drop, slice_index_or, sym, ap, ◌∙◌}
use Rattle.fs_graph.specs.declared.facts.Feat.{Feat}
use Rattle.fs_graph.specs.Facts.{path_of}
use Rattle.fs_graph.specs.GraphMap.{arc_to}
use Rattle.fs_model.proofs.TableLemmas.{walk-step}
use Rattle.fs_closing.proofs.StepLemmas.{path_step}
use Rattle.forced_types.specs.Inner.Sound.{entry_in}
use Rattle.forced_types.specs.Inner.Closed.{table_in, walk_in}
use Rattle.forced_types.proofs.ClosedLemmas.{walk-stop}
use Rattle.forced_types.proofs.nodes.Nodes.follow.Goals as goal

pub returns-in-None : goal.returns-in-None
returns-in-None c =
    let t = c.args.self.now in
    let d : Feat = record { 0 = 0 } in
    let i = c.loop-feat.feat-index in
    let f = (slice_index_or c.args.path.now i d).0 in
    let none : arc_to (entry_in t (entry_in t c.loop-feat.at).up).arcs f ≡ None =
    ap (λ x. arc_to (entry_in t x).arcs f) (sym c.up.ensures) ∙ sym c.arc_end.ensures.value ∙ c.in-None.is in
    sym (c.loop-feat.invariant.walk ∙ ap (walk_in t c.loop-feat.at) (path_step c.args.path.now i d c.loop-feat-test.true)
    ∙ walk-stop t c.loop-feat.at f (drop (i + 1) (path_of c.args.path.now)) none)

pub loop-feat-preserved : goal.loop-feat-preserved
loop-feat-preserved c =
    let t = c.args.self.now in
    let d : Feat = record { 0 = 0 } in
    let i = c.loop-feat.feat-index in
    let f = (slice_index_or c.args.path.now i d).0 in
    let some : arc_to (entry_in t (entry_in t c.loop-feat.at).up).arcs f ≡ Some c.in-Some.to =
    ap (λ x. arc_to (entry_in t x).arcs f) (sym c.up.ensures) ∙ sym c.arc_end.ensures.value ∙ c.in-Some.is in
    record {
      inside = c.in-Some.ensures.end.inside;
      walk = c.loop-feat.invariant.walk ∙ ap (walk_in t c.loop-feat.at) (path_step c.args.path.now i d c.loop-feat-test.true)
          ∙ walk-step (table_in t) c.loop-feat.at c.in-Some.to f (drop (i + 1) (path_of c.args.path.now)) some;
    }
