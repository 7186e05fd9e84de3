use Rattle.std.proofs.Common.{ℕ, sym, subst, Vec, Global, arith}
use Rattle.packed_items.specs.Answers.{limits_in}
use Rattle.engine.specs.Views.{speech_of}
use Rattle.side_by_side.specs.Works.{AreGiven}
use Rattle.profile_reports.specs.declared.profiles.ProfileItem.{ProfileItem}
use Rattle.profile_reports.specs.ItemsViews.{item_kept}
use Rattle.profile_reports.specs.declared.ItemResult.{ItemResult}
use Rattle.profile_batch.specs.Results.{IsResultOrGap}
use Rattle.profile_batch.proofs.GivenAt.{within, set-at}
use Rattle.profile_batch.proofs.turns.judge_again.Goals as goal
use Rattle.profile_batch.proofs.turns.judge_again.Goals.{then-eq, else-eq}

pub index-requires : goal.index-requires
index-requires g c =
    let inside = within _ c.args.items.now c.loop-place.results.items c.loop-place.place c.loop-place.invariant c.loop-place-test.true in
    omega (arith, inside)

pub index_mut-requires : goal.index_mut-requires
index_mut-requires g c =
    let inside = within _ c.args.items.now c.loop-place.results.items c.loop-place.place c.loop-place.invariant c.loop-place-test.true in
    omega (arith, inside)

pub loop-place-preserved : goal.loop-place-preserved
loop-place-preserved g c =
    let j = c.args.judge.now in
    let gives : ℕ → ProfileItem → ItemResult → Type 0 = λ place item r. IsResultOrGap (speech_of j.engine) (limits_in j.limits) j.limits.lexical place (item_kept item) r in
    elim c.if-eq.branch [
      | then-eq w ↦
          subst (λ (v : Vec ItemResult Global). AreGiven gives 0 c.args.items.now v.items) (sym w.results-is)
          (set-at gives c.args.items.now c.loop-place.results.items c.loop-place.place w.index-items-place.result w.judged.result c.loop-place.invariant c.loop-place-test.true (sym w.index-items-place.is) w.judged.ensures)
      | else-eq w ↦ subst (λ (v : Vec ItemResult Global). AreGiven gives 0 c.args.items.now v.items) (sym w.results-is) c.loop-place.invariant
    ]
