use Rattle.std.proofs.Common.{All, subst, sym}
use Rattle.forest_unpack.specs.Items.{chosen_items, full_values}
use Rattle.forest_unpack.specs.Inner.Classes.{CountsOf, IsFit}
use Rattle.forest_unpack.specs.Inner.Memos.{known_in}
use Rattle.forest_unpack.proofs.Grouping.{on_ok}
use Rattle.forest_unpack.proofs.Memos.{numbered_on}
use Rattle.forest_unpack.proofs.Products.{learned_on, made_none, made_raised, more_fit}
use Rattle.forest_unpack.proofs.Raising.{fit_on}
use Rattle.forest_unpack.proofs.tallying.count_made.Goals as goal

pub returns-in_default-clause-made : goal.returns-in_default-clause-made
returns-in_default-clause-made g c =
    let fulls = c.args.by.now.fulls.now in
    fit_on (g.F.Fulls.value fulls) (g.F.Fulls.wholes fulls) (g.F.Fulls.named fulls) (known_in (g.F.Fulls.value fulls) c.args.memo.now) (known_in (g.F.Fulls.value fulls) c.find.new.memo) c.in_ok-number.ensures.memo.known c.args.made.now.items c.requires.made

pub returns-in_default-clause-counts : goal.returns-in_default-clause-counts
returns-in_default-clause-counts g c = made_none (g.F.Fulls.value c.args.by.now.fulls.now) (g.F.Fulls.wholes c.args.by.now.fulls.now) c.args.by.now.rule (full_values (g.F.Fulls.value c.args.by.now.fulls.now) c.args.picked.now.chosen) c.args.picked.now.times c.args.made.now.items

pub returns-then-raise_at-clause-made : goal.returns-then-raise_at-clause-made
returns-then-raise_at-clause-made g c =
    let fulls = c.args.by.now.fulls.now in
    let value = g.F.Fulls.value fulls in
    let w = g.F.Fulls.wholes fulls in
    let named = g.F.Fulls.named fulls in
    let fit = fit_on value w named (known_in value c.args.memo.now) (known_in value c.find.new.memo) c.in_ok-number.ensures.memo.known c.args.made.now.items c.requires.made in
    more_fit value w named (known_in value c.find.new.memo) c.in-Some.number c.args.picked.now.times c.args.made.now.items c.raise_at.new.made.items (c.raise_at.ensures.more c.if-raise_at.true) fit

pub returns-then-raise_at-clause-counts : goal.returns-then-raise_at-clause-counts
returns-then-raise_at-clause-counts g c =
    let fulls = c.args.by.now.fulls.now in
    let value = g.F.Fulls.value fulls in
    let w = g.F.Fulls.wholes fulls in
    let named = g.F.Fulls.named fulls in
    let fit = fit_on value w named (known_in value c.args.memo.now) (known_in value c.find.new.memo) c.in_ok-number.ensures.memo.known c.args.made.now.items c.requires.made in
    made_raised value w named (known_in value c.find.new.memo) c.args.by.now.rule (full_values value c.args.picked.now.chosen) c.args.picked.now.times c.in-Some.number c.args.made.now.items c.raise_at.new.made.items (rw c.in-Some.is at c.in_ok-number.ensures.found) (c.raise_at.ensures.more c.if-raise_at.true) fit

pub count_new-requires-clause-numbered : goal.count_new-requires-clause-numbered
count_new-requires-clause-numbered g c =
    let value = g.F.Fulls.value c.args.by.now.fulls.now in
    numbered_on value (known_in value c.args.memo.now) (known_in value c.find.new.memo) c.in_ok-number.ensures.memo.known (chosen_items c.args.picked.now.chosen) c.requires.numbered

pub count_new-requires-clause-made : goal.count_new-requires-clause-made
count_new-requires-clause-made g c =
    let fulls = c.args.by.now.fulls.now in
    let value = g.F.Fulls.value fulls in
    let w = g.F.Fulls.wholes fulls in
    let named = g.F.Fulls.named fulls in
    let fit = fit_on value w named (known_in value c.args.memo.now) (known_in value c.find.new.memo) c.in_ok-number.ensures.memo.known c.args.made.now.items c.requires.made in
    subst (All (IsFit value w named (known_in value c.find.new.memo))) (sym (c.raise_at.ensures.same c.if-raise_at.false)) fit

pub returns-clause-memo : goal.returns-clause-memo
returns-clause-memo g c =
    let value = g.F.Fulls.value c.args.by.now.fulls.now in
    let w = g.F.Fulls.wholes c.args.by.now.fulls.now in
    on_ok c.count_new.result (λ learned. learned_on value w c.args.memo.now c.find.new.memo c.count_new.new.memo c.in_ok-number.ensures.memo learned) c.count_new.ensures.memo

pub returns-clause-counts : goal.returns-clause-counts
returns-clause-counts g c =
    let value = g.F.Fulls.value c.args.by.now.fulls.now in
    let w = g.F.Fulls.wholes c.args.by.now.fulls.now in
    on_ok c.count_new.result (λ counted. subst (λ xs. CountsOf value w c.args.by.now.rule (full_values value c.args.picked.now.chosen) c.args.picked.now.times xs c.count_new.new.made.items) (c.raise_at.ensures.same c.if-raise_at.false) counted) c.count_new.ensures.counts
