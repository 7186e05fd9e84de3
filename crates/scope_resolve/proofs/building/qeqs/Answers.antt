use Rattle.std.proofs.Common.{◌∙◌, ◌∷◌, ◌++◌, [], map, ap₂, ℕ, List}
use Rattle.mrs_model.specs.declared.Hcon.{Hcon}
use Rattle.mrs_model.specs.Views.{hcon_of}
use Rattle.scope_resolve.specs.Inner.Building.{qeq_from}
use Rattle.scope_resolve.proofs.Rows.{map_next, all_rows, qeq_of}
use Rattle.scope_resolve.proofs.building.qeqs.Goals as goal

pub loop-hcon-preserved : goal.loop-hcon-preserved
loop-hcon-preserved c =
    map_next hcon_of (qeq_from c.args.numbers.now) c.args.hcons.now c.loop-hcon.hcon-index c.hcon-item.result c.loop-hcon.out.items _ c.loop-hcon-test.true c.hcon-item.is c.loop-hcon.invariant
    (c.in_ok-push.ensures.items ∙ ap₂ (λ (a b : ℕ). c.loop-hcon.out.items ++ qeq_of a b ∷ []) c.number_at-left.ensures c.number_at-right.ensures)

pub returns : goal.returns
returns c = c.loop-hcon.invariant ∙ all_rows (λ (cs : List Hcon). map (qeq_from c.args.numbers.now) (map hcon_of cs)) c.args.hcons.now c.loop-hcon.hcon-index c.loop-hcon-test.false
