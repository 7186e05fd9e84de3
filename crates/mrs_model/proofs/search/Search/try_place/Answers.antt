use Rattle.std.proofs.Common.{◌∙◌, sym, refl, arith, length, ◌<◌, false, get_or}
use Rattle.std.proofs.lemmas.List.{get_or_read}
use Rattle.std.proofs.lemmas.Bool.{OnTrue_at, OnFalse_at}
use Rattle.std.proofs.lemmas.Option.{slice_get-get_or}
use Rattle.mrs_model.specs.Inner.State.{task_of, element_of}
use Rattle.mrs_model.proofs.KeyLaws.{keys_differ}
use Rattle.mrs_model.proofs.Searching.{knows_used, knows_unjoined, knows_step}
use Rattle.mrs_model.proofs.Going.{item_at, item_read, places_length, places_within, elements_length, reverse_push, forget_back, forget_size}
use Rattle.mrs_model.proofs.search.Search.try_place.Goals as goal

pub returns-then-index-clause-no : goal.returns-then-index-clause-no
returns-then-index-clause-no c =
    let n = elements_length c.args.sides.right.now in
    let lt : c.args.place < length c.args.self.now.used.items = omega (arith, c.requires.searching.even, n, c.requires.place) in
    knows_used (task_of c.args.sides) _ _ _ _ c.args.place c.requires.searching (rw n c.requires.place) (places_within _ _ _ c.requires.item)
    (sym (get_or_read _ _ _ lt c.index.ensures false) ∙ c.if-index.true)

pub returns-then-item-other-clause-no : goal.returns-then-item-other-clause-no
returns-then-item-other-clause-no c =
    let d = c.index-sides-place.result in
    let y = get_or c.args.sides.right.now c.args.place d in
    knows_unjoined (task_of c.args.sides) _ _ _ _ c.args.place _ _ c.requires.searching (item_at c.args.sides.left.now _ _ _ c.requires.item (places_length _)) (item_read c.args.sides.right.now _ d c.requires.place)
    (λ to m a e. keys_differ to (element_of c.args.item) (element_of y) c.args.item.key y.key y.key c.args.item.keyed y.keyed refl c.if-item-other.true e)

pub join-requires-clause-there : goal.join-requires-clause-there
join-requires-clause-there c = c.requires.sides.right c.args.place _ (slice_get-get_or _ _ _ c.requires.place)

pub returns-in_ok-push-clause-yes : goal.returns-in_ok-push-clause-yes
returns-in_ok-push-clause-yes c =
    let n = elements_length c.args.sides.right.now in
    let lt : c.args.place < length c.args.self.now.used.items = omega (arith, c.requires.searching.even, n, c.requires.place) in
    rw (c.in_ok-push.ensures.items, reverse_push, c.requires.mark, c.join.ensures.size)
    (knows_step (task_of c.args.sides) _ _ _ _ _ c.args.place _ _ c.requires.searching (rw n c.requires.place)
    (item_at c.args.sides.left.now _ _ _ c.requires.item (places_length _)) (item_read c.args.sides.right.now _ c.index-sides-place.result c.requires.place)
    (sym (get_or_read _ _ _ lt c.index.ensures false) ∙ c.if-index.false) c.join.ensures.grown (OnTrue_at c.if-branch.true c.in_ok-join.ensures.yes) c.join.ensures.told)

pub returns-else-branch-clause-no : goal.returns-else-branch-clause-no
returns-else-branch-clause-no c =
    let k = knows_unjoined (task_of c.args.sides) _ _ _ _ c.args.place _ _ c.requires.searching (item_at c.args.sides.left.now _ _ _ c.requires.item (places_length _)) (item_read c.args.sides.right.now _ c.index-sides-place.result c.requires.place)
    (OnFalse_at c.if-branch.false c.in_ok-join.ensures.no) in
    rw (forget_back c.forget.new.self _ _ _ _ _ c.forget.ensures c.join.ensures.grown.front c.requires.mark, forget_size c.forget.new.self _ _ c.forget.ensures, c.join.ensures.size) k
