use Rattle.std.proofs.Common.{◌≡◌, ◌+◌, [], ◌∷◌, drop, slice_index_or, subst, arith}
use Rattle.std.proofs.lemmas.List.{drop_all, length-map}
use Rattle.fs_graph.specs.declared.facts.Feat.{Feat}
use Rattle.fs_graph.specs.Facts.{path_of}
use Rattle.fs_closing.specs.Rules.{system_of}
use Rattle.fs_closing.specs.Work.{work_of}
use Rattle.fs_closing.specs.Keeps.{Turns, deep_of, begin}
use Rattle.fs_closing.proofs.KeepsLemmas.{Turns-on, Refutes-after}
use Rattle.fs_closing.proofs.StepLemmas.{path_step, path_feature}
use Rattle.fs_closing.proofs.closing.reach.Goals as goal

pub go-requires-clause-feat_in : goal.go-requires-clause-feat_in
go-requires-clause-feat_in c =
    let d : Feat = record { 0 = 0 } in
    path_feature c.args.path.now c.loop-feat.feat-index _ d c.loop-feat-test.true c.requires.feats

pub returns-in-None : goal.returns-in-None
returns-in-None c = λ k.
    let d : Feat = record { 0 = 0 } in
    let s = system_of c.args.system.now in
    let x = deep_of c.args.nodes.now in
    let y = deep_of c.loop-feat.nodes in
    let start = begin c.args.node (path_of c.args.path.now) k ∷ work_of c.args.system.now.rules c.args.tasks.now in
    let work = work_of c.args.system.now.rules c.loop-feat.tasks in
    let step = path_step c.args.path.now c.loop-feat.feat-index d c.loop-feat-test.true in
    let before = subst (λ q. Turns s x start y (begin c.loop-feat.at q k ∷ work)) step (c.loop-feat.invariant.leads k) in
    let none = rw c.in-None.is at c.in_ok-to.ensures.leads in
    let f = (slice_index_or c.args.path.now c.loop-feat.feat-index d).0 in
    let rest = drop (c.loop-feat.feat-index + 1) (path_of c.args.path.now) in
    Refutes-after s x y start (begin c.loop-feat.at (f ∷ rest) k ∷ work) before (none k (drop (c.loop-feat.feat-index + 1) (path_of c.args.path.now)))

pub loop-feat-preserved : goal.loop-feat-preserved
loop-feat-preserved c =
    let d : Feat = record { 0 = 0 } in
    let s = system_of c.args.system.now in
    let x = deep_of c.args.nodes.now in
    let y = deep_of c.loop-feat.nodes in
    let work = work_of c.args.system.now.rules c.loop-feat.tasks in
    let step = path_step c.args.path.now c.loop-feat.feat-index d c.loop-feat-test.true in
    let some = rw c.in-Some.is at c.in_ok-to.ensures.leads in
    record {
      leads = λ k.
          let start = begin c.args.node (path_of c.args.path.now) k ∷ work_of c.args.system.now.rules c.args.tasks.now in
          let before = subst (λ q. Turns s x start y (begin c.loop-feat.at q k ∷ work)) step (c.loop-feat.invariant.leads k) in
          let f = (slice_index_or c.args.path.now c.loop-feat.feat-index d).0 in
          let rest = drop (c.loop-feat.feat-index + 1) (path_of c.args.path.now) in
          Turns-on s x y (deep_of c.go.new.nodes) start (begin c.loop-feat.at (f ∷ rest) k ∷ work)
          (begin c.in-Some.to rest k ∷ work_of c.args.system.now.rules c.go.new.tasks) before (some k (drop (c.loop-feat.feat-index + 1) (path_of c.args.path.now)));
      sound = rw c.in-Some.is at c.in_ok-to.ensures.sound;
      node = rw c.in-Some.is at c.in_ok-to.ensures.within;
      more = omega (arith, c.loop-feat.invariant.more, c.in_ok-to.ensures.more);
    }

pub returns : goal.returns
returns c =
    let end : drop c.loop-feat.feat-index (path_of c.args.path.now) ≡ [] =
    drop_all c.loop-feat.feat-index (path_of c.args.path.now) (omega (arith, length-map c.args.path.now (λ f. f.0), c.loop-feat-test.false)) in
    let s = system_of c.args.system.now in (
      (λ k. subst (λ q. Turns s (deep_of c.args.nodes.now) (begin c.args.node (path_of c.args.path.now) k ∷ work_of c.args.system.now.rules c.args.tasks.now)
          (deep_of c.loop-feat.nodes) (begin c.loop-feat.at q k ∷ work_of c.args.system.now.rules c.loop-feat.tasks)) end (c.loop-feat.invariant.leads k)),
      c.loop-feat.invariant.sound,
      c.loop-feat.invariant.node,
      c.loop-feat.invariant.more,
    )
