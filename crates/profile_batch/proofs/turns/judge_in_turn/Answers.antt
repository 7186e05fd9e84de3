use Rattle.std.proofs.Common.{ℕ, ◌+◌, List, [], sym, subst, take, arith}
use Rattle.packed_items.specs.Answers.{limits_in}
use Rattle.engine.specs.Views.{speech_of}
use Rattle.side_by_side.specs.Works.{AreGiven, no_thing}
use Rattle.profile_reports.specs.declared.profiles.ProfileItem.{ProfileItem}
use Rattle.profile_reports.specs.ItemsViews.{item_kept}
use Rattle.profile_reports.specs.declared.ItemResult.{ItemResult}
use Rattle.profile_batch.specs.Results.{IsResultOrGap}
use Rattle.profile_batch.proofs.GivenAt.{long-at, more-at, whole-at}
use Rattle.profile_batch.proofs.turns.judge_in_turn.Goals as goal

pub loop-place-init : goal.loop-place-init
loop-place-init g c =
    let j = c.args.judge.now in
    let gives : ℕ → ProfileItem → ItemResult → Type 0 = λ place item r. IsResultOrGap (speech_of j.engine) (limits_in j.limits) j.limits.lexical place (item_kept item) r in
    record {
      given = subst (λ rs. AreGiven gives 0 [] rs) (sym c.in_ok-results.ensures.items) (no_thing 0);
      room = c.in_ok-results.ensures.capacity;
    }

pub push_reserved-requires : goal.push_reserved-requires
push_reserved-requires g c =
    let long = long-at _ c.args.items.now c.loop-place.results.items c.loop-place.place c.loop-place.invariant.given c.loop-place-test.true in
    let t = c.loop-place-test.true in
    let room = c.loop-place.invariant.room in
    omega (arith, long, t, room)

pub loop-place-preserved : goal.loop-place-preserved
loop-place-preserved g c =
    let j = c.args.judge.now in
    let gives : ℕ → ProfileItem → ItemResult → Type 0 = λ place item r. IsResultOrGap (speech_of j.engine) (limits_in j.limits) j.limits.lexical place (item_kept item) r in
    let place = c.loop-place.place in
    record {
      given = subst (λ rs. AreGiven gives 0 (take (place + 1) c.args.items.now) rs) (sym {A = List ItemResult} c.push_reserved.ensures.items)
          (more-at gives c.args.items.now c.loop-place.results.items place c.index-items-place.result c.judged.result c.loop-place.invariant.given c.loop-place-test.true (sym c.index-items-place.is) c.judged.ensures);
      room = (let room = c.loop-place.invariant.room in let same = c.push_reserved.ensures.capacity in omega (arith, room, same));
    }

pub returns : goal.returns
returns g c = whole-at _ c.args.items.now c.loop-place.results.items c.loop-place.place c.loop-place.invariant.given (omega (arith, c.loop-place-test.false))
