use Rattle.std.proofs.Common.{All, rules, ◌≡◌, ◌<◌, ◌≤◌, ◌+◌, ◌*◌, [], ◌∷◌, ap, subst, sym, arith, map, length}
use Rattle.std.proofs.lemmas.List.{nil_from_length}
use Rattle.forest_unpack.specs.Items.{chosen_items, full_values}
use Rattle.forest_unpack.specs.Inner.Classes.{AreFit, classes_at}
use Rattle.forest_unpack.specs.Inner.Memos.{IsNumbered, IsReachedItem, known_in}
use Rattle.forest_unpack.proofs.Grouping.{on_ok}
use Rattle.forest_unpack.proofs.Memos.{learned_same}
use Rattle.forest_unpack.proofs.Products.{all_last, each_next, each_none, each_over, learned_on, list_fit, next_fulls, next_numbered, next_reached, table_on}
use Rattle.forest_unpack.proofs.tallying.+count_all.Goals as goal

pub loop-class-init : goal.loop-class-init
loop-class-init g t c =
    let value = g.F.Fulls.value c.args.by.now.fulls.now in
    let w = g.F.Fulls.wholes c.args.by.now.fulls.now in (
      learned_same value w c.args.memo.now c.requires.memo,
      c.requires.made,
      each_none value w c.args.by.now.rule (full_values value c.args.picked.now.chosen) c.args.picked.now.times (map (classes_at value c.args.by.now.table.now) c.in-Some.more.now) c.counted_at-class-items.result.now c.args.made.now.items,
    )

pub loop-class-preserved : goal.loop-class-preserved
loop-class-preserved g t c =
    let value = g.F.Fulls.value c.args.by.now.fulls.now in
    let w = g.F.Fulls.wholes c.args.by.now.fulls.now in
    let rest = map (classes_at value c.args.by.now.table.now) c.in-Some.more.now in
    let few : c.saturating_mul-times.result ≤ c.args.picked.now.times * c.class-item.result.times = (let e = c.saturating_mul-times.ensures in omega (arith, e)) in (
      learned_on value w c.args.memo.now c.loop-class.memo c.count_all.new.memo c.loop-class.invariant.0 c.in_ok-count_all.ensures.memo,
      c.in_ok-count_all.ensures.made,
      each_next value w c.args.by.now.rule (full_values value c.args.picked.now.chosen) (full_values value c.with-chosen.result) c.args.picked.now.times c.saturating_mul-times.result rest c.counted_at-class-items.result.now c.loop-class.class-index c.class-item.result c.args.made.now.items c.loop-class.made.items c.count_all.new.made.items
          c.loop-class-test.true c.class-item.is (next_fulls value w c.args.picked.now.chosen c.with-chosen.result c.class-item.result.item c.with-chosen.ensures.items) few c.in_ok-count_all.ensures.counts c.loop-class.invariant.2,
    )

pub returns-then-branch-clause-memo : goal.returns-then-branch-clause-memo
returns-then-branch-clause-memo g t c =
    learned_on (g.F.Fulls.value c.args.by.now.fulls.now) (g.F.Fulls.wholes c.args.by.now.fulls.now) c.args.memo.now c.loop-class.memo c.count_all.new.memo c.loop-class.invariant.0 c.in_ok-count_all.ensures.memo

pub returns-then-branch-clause-counts : goal.returns-then-branch-clause-counts
returns-then-branch-clause-counts g t c =
    let value = g.F.Fulls.value c.args.by.now.fulls.now in
    let w = g.F.Fulls.wholes c.args.by.now.fulls.now in
    let rest = map (classes_at value c.args.by.now.table.now) c.in-Some.more.now in
    let e : c.args.rest.now ≡ c.in-Some.host.now ∷ c.in-Some.more.now = search rules in
    let few : c.saturating_mul-times.result ≤ c.args.picked.now.times * c.class-item.result.times = (let s = c.saturating_mul-times.ensures in omega (arith, s)) in
    let next = each_next value w c.args.by.now.rule (full_values value c.args.picked.now.chosen) (full_values value c.with-chosen.result) c.args.picked.now.times c.saturating_mul-times.result rest c.counted_at-class-items.result.now c.loop-class.class-index c.class-item.result c.args.made.now.items c.loop-class.made.items c.count_all.new.made.items
    c.loop-class-test.true c.class-item.is (next_fulls value w c.args.picked.now.chosen c.with-chosen.result c.class-item.result.item c.with-chosen.ensures.items) few c.in_ok-count_all.ensures.counts c.loop-class.invariant.2 in
    each_over value w c.args.by.now.rule (full_values value c.args.picked.now.chosen) c.args.picked.now.times c.args.by.now.table.now c.in-Some.host.now c.in-Some.more.now c.args.rest.now c.counted_at-class-items.result.now (c.loop-class.class-index + 1) c.args.made.now.items c.count_all.new.made.items e c.counted_at-class-items.ensures next

pub returns-clause-counts : goal.returns-clause-counts
returns-clause-counts g t c =
    let value = g.F.Fulls.value c.args.by.now.fulls.now in
    let w = g.F.Fulls.wholes c.args.by.now.fulls.now in
    let e : c.args.rest.now ≡ c.in-Some.host.now ∷ c.in-Some.more.now = search rules in
    each_over value w c.args.by.now.rule (full_values value c.args.picked.now.chosen) c.args.picked.now.times c.args.by.now.table.now c.in-Some.host.now c.in-Some.more.now c.args.rest.now c.counted_at-class-items.result.now c.loop-class.class-index c.args.made.now.items c.loop-class.made.items e c.counted_at-class-items.ensures c.loop-class.invariant.2

pub returns-in_default-clause-counts : goal.returns-in_default-clause-counts
returns-in_default-clause-counts g t c =
    let value = g.F.Fulls.value c.args.by.now.fulls.now in
    let w = g.F.Fulls.wholes c.args.by.now.fulls.now in
    let none : c.args.rest.now ≡ [] = nil_from_length c.args.rest.now (search rules) in
    on_ok c.count_made.result (λ made. all_last value w c.args.by.now.rule (full_values value c.args.picked.now.chosen) c.args.picked.now.times c.args.by.now.table.now c.args.rest.now c.args.made.now.items c.count_made.new.made.items none made) c.count_made.ensures.counts

pub count_made-requires-clause-rule : goal.count_made-requires-clause-rule
count_made-requires-clause-rule g t c =
    let none : c.args.rest.now ≡ [] = nil_from_length c.args.rest.now (search rules) in
    let all : c.args.picked.now.chosen.count + length c.args.rest.now ≡ c.args.picked.now.chosen.count = (let n = ap length none in omega (arith, n)) in
    subst (g.F.Fulls.ruled c.args.by.now.fulls.now c.args.by.now.rule) all c.requires.rule

pub count_all-requires : goal.count_all-requires
count_all-requires g t c =
    let fulls = c.args.by.now.fulls.now in
    let value = g.F.Fulls.value fulls in
    let w = g.F.Fulls.wholes fulls in
    let named = g.F.Fulls.named fulls in
    let table = c.args.by.now.table.now in
    let e : c.args.rest.now ≡ c.in-Some.host.now ∷ c.in-Some.more.now = search rules in
    let long : length c.args.rest.now ≡ length c.in-Some.more.now + 1 = rw e (omega arith) in
    let next = c.with-chosen.ensures.count in
    let grow = c.loop-class.invariant.0.known in
    let fit : AreFit value w named (known_in value c.loop-class.memo) table = table_on value w named (known_in value c.args.memo.now) (known_in value c.loop-class.memo) grow table c.requires.table in
    let all = list_fit value w named (known_in value c.loop-class.memo) table c.in-Some.host.now c.counted_at-class-items.result.now c.counted_at-class-items.ensures fit in
    let numbered : All (IsNumbered value (known_in value c.loop-class.memo)) (chosen_items c.with-chosen.result) =
    next_numbered value w named (known_in value c.args.memo.now) (known_in value c.loop-class.memo) grow c.counted_at-class-items.result.now c.loop-class.class-index c.class-item.result (chosen_items c.args.picked.now.chosen) (chosen_items c.with-chosen.result) all c.loop-class-test.true c.class-item.is c.with-chosen.ensures.items c.requires.numbered in
    let reached : All (IsReachedItem value w named) (chosen_items c.with-chosen.result) =
    next_reached value w named (known_in value c.loop-class.memo) c.counted_at-class-items.result.now c.loop-class.class-index c.class-item.result (chosen_items c.args.picked.now.chosen) (chosen_items c.with-chosen.result) all c.loop-class-test.true c.class-item.is c.with-chosen.ensures.items c.requires.reached in
    let same : c.with-chosen.result.count + length c.in-Some.more.now ≡ c.args.picked.now.chosen.count + length c.args.rest.now = omega (arith, long, next) in
    let rule = subst (g.F.Fulls.ruled fulls c.args.by.now.rule) (sym same) c.requires.rule in
    let few = c.requires.short in
    let short : c.with-chosen.result.count + length c.in-Some.more.now ≤ 4 = omega (arith, same, few) in
    let smaller : length c.in-Some.more.now < length c.args.rest.now = omega (arith, long) in
    search rules
