use Rattle.std.proofs.Common.{[], ◌∷◌, map, take, slice_index_or, ◌∙◌, ap, subst}
use Rattle.std.proofs.lemmas.List.{take_more, map-append}
use Rattle.fs_model.specs.Table.{is_under}
use Rattle.fs_graph.specs.declared.graph.GraphArc.{GraphArc}
use Rattle.fs_closing.specs.Rules.{system_of}
use Rattle.fs_closing.specs.Joined.{IsJoined}
use Rattle.fs_closing.specs.Work.{work_of}
use Rattle.fs_closing.proofs.HasLemmas.{Has-at}
use Rattle.fs_unify.proofs.EnterLemmas.{no_arc, joined_more}
use Rattle.fs_unify.proofs.entering.push_introducers.Goals as goal

pub introducer-requires : goal.introducer-requires
introducer-requires c = c.requires _ (Has-at c.args.arcs.now c.loop-arc.arc-index no_arc c.loop-arc-test.true)

pub loop-arc-preserved : goal.loop-arc-preserved
loop-arc-preserved c =
    let s = system_of c.args.system.now in
    let n = c.args.node in
    let i = c.loop-arc.arc-index in
    let arcs = c.args.arcs.now in
    let a = slice_index_or arcs i no_arc in
    let claim = λ (x : GraphArc). is_under n [] (s.introducer x.feat.0) in
    let more = ap (map claim) (take_more arcs i no_arc c.loop-arc-test.true) ∙ map-append claim (take i arcs) (a ∷ []) in
    let one = subst (λ t. IsJoined (is_under n [] t ∷ []) (work_of c.args.system.now.rules c.loop-arc.tasks) (work_of c.args.system.now.rules c.push_bound.new.self))
    c.introducer.ensures.value (c.in_ok-push_bound.ensures.work c.args.system.now.rules) in
    record {
      joined = joined_more (map claim (take i arcs)) _ (claim a) _ _ _ more c.loop-arc.invariant.joined one;
      ready = λ size rules h old. c.in_ok-push_bound.ensures.ready size _ rules h c.introducer.ensures.within (c.loop-arc.invariant.ready size rules h old);
    }
