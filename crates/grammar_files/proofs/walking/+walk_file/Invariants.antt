use Rattle.std.proofs.Common.{◌≡◌, ◌≤◌, ◌<◌, ◌-◌, ◌++◌, ◌∷◌, [], length, map, string_bytes}
use Rattle.std.specs.Vec.Iter.{into_iter_items}
use Rattle.tdl_reader.specs.Views.{statement_of}
use Rattle.grammar_settings.specs.SettingsViews.{names_in}
use Rattle.grammar_files.specs.WalkViews.{walk_of}
use Rattle.grammar_files.proofs.WalkLemmas.{Goes}
use Rattle.grammar_files.proofs.walking.+walk_file.Given as goal

abbrev pub invariant-loop-statement : goal.invariant-loop-statement
invariant-loop-statement g l = record {
  same : g.S.Shelf.files l.shelf ≡ g.S.Shelf.files l.fn.shelf;
  no_fall : g.S.Shelf.faults l.fn.shelf ≤ g.S.Shelf.faults l.shelf;
  within : names_in l.open ≡ names_in l.fn.open ++ string_bytes l.name ∷ [];
  grown : length l.fn.progress.files.items < length l.progress.files.items;
  room : length l.fn.progress.files.items < 1024;
  rest : Goes (g.S.Shelf.files l.fn.shelf) (names_in l.fn.open) (walk_of l.fn.progress) (string_bytes l.name) l.file (walk_of l.progress) (map statement_of (into_iter_items l.statement-iterator));
}

abbrev pub decreases-walk_file : goal.decreases-walk_file
decreases-walk_file g l = 1024 - length l.progress.now.files.items
