use Rattle.std.proofs.Common.{ℕ, Some, List, [], ◌∷◌, ◌++◌, ◌≡◌, cond, map, string_bytes, sym, subst}
use Rattle.std.specs.Str.{bytes_eq}
use Rattle.lexicon.specs.Words.{noted}
use Rattle.generate_model.specs.Indexing.{entry_of, list_of}
use Rattle.generate_model.specs.Inner.Adding.{IsAdded}
use Rattle.generate_model.proofs.ListLemmas.{added_keyed}
use Rattle.generate_model.proofs.index.PredicateIndex.add.Goals as goal

pub returns-in_ok-note-in-Some : goal.returns-in_ok-note-in-Some
returns-in_ok-note-in-Some c =
    let old = c.self.inside.keyed.entries in
    let new = c.note.new.notes.entries in
    let apart = c.self.inside.apart.items in
    let more = subst (λ word. (w : List ℕ) → noted new w ≡ noted old w ++ cond (bytes_eq w word) (c.args.number ∷ []) []) c.deref.ensures c.in_ok-note-in-Some.ensures in
    let added = added_keyed old new apart (string_bytes c.in-Some.pred) c.args.number more in
    subst (λ k. IsAdded (entry_of (c.args.number, k)) c.args.self.now (record { keyed = map list_of new; apart = apart })) (sym c.in-Some.is)
    (subst (λ s. IsAdded (entry_of (c.args.number, Some c.in-Some.pred)) s (record { keyed = map list_of new; apart = apart })) c.self.view_is added)
