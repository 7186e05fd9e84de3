use Rattle.std.proofs.Common.{◌<◌, ◌^◌, length, map, string_bytes, sym, subst}
use Rattle.packed_items.specs.Answers.{limits_in}
use Rattle.engine.specs.Views.{speech_of}
use Rattle.profile_reports.specs.Profiles.{an_item}
use Rattle.profile_reports.specs.ItemsViews.{item_kept}
use Rattle.profile_batch.specs.Results.{IsResultOrGap}
use Rattle.profile_batch.specs.Views.{trees_of}
use Rattle.profile_batch.proofs.Judged.{long-is, bytes-is, line-is}
use Rattle.profile_batch.proofs.judging.Judge.judged.Goals as goal

pub returns-in-TooLong : goal.returns-in-TooLong
returns-in-TooLong g c =
    let j = c.args.self.now in
    long-is (speech_of j.engine) (limits_in j.limits) j.limits.lexical c.args.place c.args.item.now c.plain-bad.result c.in-TooLong.is c.plain-bad.ensures

pub returns-in-NotUtf8 : goal.returns-in-NotUtf8
returns-in-NotUtf8 g c =
    let j = c.args.self.now in
    bytes-is (speech_of j.engine) (limits_in j.limits) j.limits.lexical c.args.place c.args.item.now c.plain-bad.result c.in-NotUtf8.is c.plain-bad.ensures

pub returns-in-NoItem : goal.returns-in-NoItem
returns-in-NoItem g c =
    let j = c.args.self.now in
    line-is (speech_of j.engine) (limits_in j.limits) j.limits.lexical c.args.place c.args.item.now c.plain-bad.result c.in-NoItem.is c.plain-bad.ensures

pub found-requires-clause-few : goal.found-requires-clause-few
found-requires-clause-few g c κs within =
    subst (λ ts. length ts < 2 ^ 32) (sym c.deref-in-Item.ensures.value) (subst (λ i. trees_of i < 2 ^ 32) c.in-Item.is c.requires.few)

pub returns-in-Item : goal.returns-in-Item
returns-in-Item g c =
    let j = c.args.self.now in
    let is = IsResultOrGap (speech_of j.engine) (limits_in j.limits) j.limits.lexical c.args.place in
    let r = c.found.result in
    let trees = map (λ t. t.items) c.deref-in-Item.result.now in
    subst (λ i. is (item_kept i) r) (sym c.in-Item.is)
    (subst (λ ts. is (an_item c.in-Item.expected (string_bytes c.in-Item.sentence) (map (λ t. t.items) ts)) r) c.deref-in-Item.ensures.value
    (subst (λ s. is (an_item c.in-Item.expected s trees) r) c.deref.ensures (c.found.ensures c.in-Item.expected)))
