use Rattle.std.proofs.Common.{map, take, sym, subst}
use Rattle.lexicon.proofs.GroupLemmas.{map_take_next}
use Rattle.lexicon.specs.Inner.Index.{entry_of, IsIndexOf}
use Rattle.lexicon.proofs.groups.index_of.Goals as goal

pub loop-entry-preserved : goal.loop-entry-preserved
loop-entry-preserved c =
    let done = map entry_of (take c.loop-entry.entry-index c.args.entries.now) in
    subst (λ l. IsIndexOf l c.note_entry.new.index.entries) (sym (map_take_next entry_of c.args.entries.now c.loop-entry.entry-index c.entry-item.result c.loop-entry-test.true c.entry-item.is))
    (c.in_ok-note_entry.ensures done c.loop-entry.invariant)
