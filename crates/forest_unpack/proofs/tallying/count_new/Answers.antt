use Rattle.forest_unpack.specs.Items.{chosen_of, full_values}
use Rattle.forest_unpack.specs.Inner.Memos.{known_in}
use Rattle.forest_unpack.proofs.Memos.{learned_same}
use Rattle.forest_unpack.proofs.Products.{made_none, made_pushed, phrase_fit}
use Rattle.forest_unpack.proofs.Raising.{fit_on}
use Rattle.forest_unpack.proofs.tallying.count_new.Goals as goal

pub returns-then-len-by-clause-memo : goal.returns-then-len-by-clause-memo
returns-then-len-by-clause-memo g c = learned_same (g.F.Fulls.value c.args.by.now.fulls.now) (g.F.Fulls.wholes c.args.by.now.fulls.now) c.args.memo.now c.requires.memo

pub returns-then-len-by-clause-counts : goal.returns-then-len-by-clause-counts
returns-then-len-by-clause-counts g c = made_none (g.F.Fulls.value c.args.by.now.fulls.now) (g.F.Fulls.wholes c.args.by.now.fulls.now) c.args.by.now.rule (full_values (g.F.Fulls.value c.args.by.now.fulls.now) c.args.picked.now.chosen) c.args.picked.now.times c.args.made.now.items

pub returns-in-None-clause-made : goal.returns-in-None-clause-made
returns-in-None-clause-made g c =
    let fulls = c.args.by.now.fulls.now in
    fit_on (g.F.Fulls.value fulls) (g.F.Fulls.wholes fulls) (g.F.Fulls.named fulls) (known_in (g.F.Fulls.value fulls) c.args.memo.now) (known_in (g.F.Fulls.value fulls) c.try_rule.new.memo) c.in_ok-try_rule.ensures.memo.known c.args.made.now.items c.requires.made

pub returns-in-None-clause-counts : goal.returns-in-None-clause-counts
returns-in-None-clause-counts g c = made_none (g.F.Fulls.value c.args.by.now.fulls.now) (g.F.Fulls.wholes c.args.by.now.fulls.now) c.args.by.now.rule (full_values (g.F.Fulls.value c.args.by.now.fulls.now) c.args.picked.now.chosen) c.args.picked.now.times c.args.made.now.items

pub returns-in_ok-push-in-Some-clause-made : goal.returns-in_ok-push-in-Some-clause-made
returns-in_ok-push-in-Some-clause-made g c =
    let fulls = c.args.by.now.fulls.now in
    phrase_fit (g.F.Fulls.value fulls) (g.F.Fulls.wholes fulls) (g.F.Fulls.named fulls) (known_in (g.F.Fulls.value fulls) c.args.memo.now) (known_in (g.F.Fulls.value fulls) c.try_rule.new.memo) c.in_ok-try_rule.ensures.memo.known c.args.by.now.rule (chosen_of (g.F.Fulls.value fulls) c.args.picked.now.chosen) c.in-Some.item c.args.picked.now.times c.args.made.now.items _ c.requires.made c.in_ok-push-in-Some.ensures.items
    (rw c.in-Some.is at c.in_ok-try_rule.ensures.numbered) (rw c.in-Some.is at c.in_ok-try_rule.ensures.made)

pub returns-in_ok-push-in-Some-clause-counts : goal.returns-in_ok-push-in-Some-clause-counts
returns-in_ok-push-in-Some-clause-counts g c =
    let fulls = c.args.by.now.fulls.now in
    made_pushed (g.F.Fulls.value fulls) (g.F.Fulls.wholes fulls) (g.F.Fulls.named fulls) c.args.by.now.rule c.args.picked.now.chosen c.in-Some.item c.args.picked.now.times c.args.made.now.items _ (rw c.in-Some.is at c.in_ok-try_rule.ensures.made) c.in_ok-push-in-Some.ensures.items
