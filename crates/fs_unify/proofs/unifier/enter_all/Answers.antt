use Rattle.std.proofs.Common.{◌++◌, [], ◌∷◌, take, sym, ◌∙◌, ap, subst}
use Rattle.std.proofs.lemmas.List.{take_more, take_all}
use Rattle.fs_unify.specs.declared.parts.Placed.{Placed}
use Rattle.fs_unify.specs.Placing.{HasEntered}
use Rattle.fs_unify.proofs.PlaceLemmas.{entered_more, item_has}
use Rattle.fs_unify.proofs.unifier.enter_all.Goals as goal

pub enter-requires-clause-graph : goal.enter-requires-clause-graph
enter-requires-clause-graph c =
    let p = c.index-parts-i.result in
    (c.requires.parts p (item_has c.args.parts.now c.loop-i.i p c.loop-i-test.true c.index-parts-i.is)).graph_in

pub enter-requires-clause-owes : goal.enter-requires-clause-owes
enter-requires-clause-owes c =
    let p = c.index-parts-i.result in
    (c.requires.parts p (item_has c.args.parts.now c.loop-i.i p c.loop-i-test.true c.index-parts-i.is)).owed_in

pub loop-i-preserved : goal.loop-i-preserved
loop-i-preserved c =
    let g = c.args.system.now in
    let parts = c.args.parts.now in
    let i = c.loop-i.i in
    let p = c.index-parts-i.result in
    let h = c.loop-i-test.true in
    let more = take_more parts i p h ∙ ap (λ (x : Placed). take i parts ++ x ∷ []) (sym c.index-parts-i.is) in
    record {
      entered = entered_more g parts (take i parts) _ p c.loop-i.offsets.items c.push.new.self.items c.in_ok-offset.offset c.loop-i.nodes c.loop-i.tasks
          c.enter.new.nodes c.enter.new.tasks more c.in_ok-push.ensures.items c.in_ok-offset.ensures.place
          (item_has parts i p h c.index-parts-i.is) c.laws.ensures c.in_ok-offset.ensures.enters c.in_ok-offset.ensures.flat c.loop-i.invariant.entered;
      sound = c.in_ok-offset.ensures.sound;
    }

pub returns-clause-entered : goal.returns-clause-entered
returns-clause-entered c =
    let parts = c.args.parts.now in
    subst (λ l. HasEntered c.args.system.now parts l c.loop-i.offsets.items c.loop-i.nodes c.loop-i.tasks) (take_all c.loop-i.i parts c.loop-i-test.false)
    c.loop-i.invariant.entered
