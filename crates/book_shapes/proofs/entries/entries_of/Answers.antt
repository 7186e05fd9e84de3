use Rattle.std.proofs.Common.{◌<◌, ◌∙◌, ◌+◌, length, map, None, Some, sym, subst, arith}
use Rattle.std.specs.Option.{option_map}
use Rattle.std.proofs.lemmas.List.{length-map}
use Rattle.lexicon.specs.Groups.{given_of, words_in}
use Rattle.closed_lists.specs.Names.{names_of}
use Rattle.constraint_expand.specs.Books.{instance_of}
use Rattle.book_shapes.proofs.PlaceLemmas.{seen_at}
use Rattle.book_shapes.proofs.DaughterLemmas.{readable_at}
use Rattle.book_shapes.proofs.EntryLemmas.{EntriesSoFar, so_far_other, so_far_entry, without_words, words_moved}
use Rattle.book_shapes.proofs.entries.entries_of.Goals as goal
use Rattle.book_shapes.proofs.entries.entries_of.Goals.{then-is_entry+in_ok-words+in-Some+in_ok-add_entry-in-Some, else-is_entry}

pub words_at-requires : goal.words_at-requires
words_at-requires c =
    let b = c.args.book.now in
    let within : c.loop-i.i < length b.instances.items = omega (arith, c.loop-i-test.true, c.len-i-end.ensures, b.instances.ok.0) in
    readable_at b c.loop-i.i c.index-instance.result.now c.types-types.result.now (names_of c.list_names-lists.result) c.path_limit-limit.result c.requires within c.index-instance.ensures c.types-types.ensures c.list_names-lists.ensures
    c.path_limit-limit.ensures.limit

pub returns-in-None : goal.returns-in-None
returns-in-None c =
    let b = c.args.book.now in
    let orth = map (option_map (λ f. f.0)) c.args.orth.now in
    let i = c.loop-i.i in
    let x = c.index-instance.result.now in
    let within : i < length b.instances.items = omega (arith, c.loop-i-test.true, c.len-i-end.ensures, b.instances.ok.0) in
    without_words b orth i (instance_of x) (map given_of c.loop-i.out.items) (seen_at instance_of b.instances.items i x within c.index-instance.ensures) (sym c.is_entry.ensures ∙ c.if-is_entry.true)
    (words_moved b orth (instance_of x) c.types-types.result.now (names_of c.list_names-lists.result) None c.types-types.ensures c.list_names-lists.ensures (rw c.in-None.is at c.in_ok-words.ensures))
    c.loop-i.invariant

pub loop-i-preserved : goal.loop-i-preserved
loop-i-preserved c =
    let b = c.args.book.now in
    let orth = map (option_map (λ f. f.0)) c.args.orth.now in
    let i = c.loop-i.i in
    let x = c.index-instance.result.now in
    let within : i < length b.instances.items = omega (arith, c.loop-i-test.true, c.len-i-end.ensures, b.instances.ok.0) in
    let at = seen_at instance_of b.instances.items i x within c.index-instance.ensures in
    let old = map given_of c.loop-i.out.items in
    elim c.if-is_entry.branch [
      | then-is_entry+in_ok-words+in-Some+in_ok-add_entry-in-Some w ↦
          subst (λ v. EntriesSoFar b orth (i + 1) (map given_of v.items)) (sym w.out-is)
          (so_far_entry b orth i (instance_of x) old (map given_of w.add_entry.new.out.items) (length c.loop-i.out.items) (words_in w.in-Some.words) at (sym c.is_entry.ensures ∙ w.if-is_entry.true)
          (words_moved b orth (instance_of x) c.types-types.result.now (names_of c.list_names-lists.result) (Some (words_in w.in-Some.words)) c.types-types.ensures c.list_names-lists.ensures (rw w.in-Some.is at w.in_ok-words.ensures))
          (sym (length-map c.loop-i.out.items given_of)) w.in_ok-add_entry-in-Some.ensures c.loop-i.invariant)
      | else-is_entry w ↦
          subst (λ v. EntriesSoFar b orth (i + 1) (map given_of v.items)) (sym w.out-is)
          (so_far_other b orth i (instance_of x) old at (sym c.is_entry.ensures ∙ w.if-is_entry.false) c.loop-i.invariant)
    ]
