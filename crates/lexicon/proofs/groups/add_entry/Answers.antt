use Rattle.std.proofs.Common.{arith, ◌≡◌, ◌∙◌, ◌<◌, length, map, set, string_bytes, sym, ap}
use Rattle.lexicon.proofs.GroupLemmas.{map-set, group_is}
use Rattle.std.proofs.lemmas.List.{length-map}
use Rattle.lexicon.specs.Groups.{GroupTree, group_of, words_in}
use Rattle.lexicon.specs.Inner.Index.{group_at, with_one, with_entry}
use Rattle.lexicon.proofs.groups.add_entry.Goals as goal

pub returns-in-Some : goal.returns-in-Some
returns-in-Some c =
    let i = c.in-Some.i in
    let n = c.args.number in
    let ws = map string_bytes c.args.words.now in
    let items = c.args.groups.now.items in
    let old = c.index_mut-group.result.now in
    let e = ap (map group_of) c.deref.ensures.value in
    let size : c.in-Some.i < length c.args.groups.now.items = omega (arith, c.in-Some.ensures.0, length-map c.deref.result.now group_of, ap (λ l. length l) c.deref.ensures.value) in
    let here : group_at (map group_of c.args.groups.now.items) c.in-Some.i ≡ group_of c.index_mut-group.result.now = group_is c.args.groups.now.items c.in-Some.i c.index_mut-group.result.now size c.index_mut-group.ensures.value in
    map-set items i _
    ∙ ap (λ l. set (map group_of items) i (let g : GroupTree = record { words = words_in old.words; entries = l } in g)) c.in_ok-push.ensures.items
    ∙ ap (λ g. set (map group_of items) i (with_one n g)) (sym here)
    ∙ sym (ap (with_entry n ws) (sym e) ∙ c.in-Some.ensures.2 n ∙ ap (λ l. set l i (with_one n (group_at l i))) e)
