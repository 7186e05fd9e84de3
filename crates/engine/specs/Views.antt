-- What contracts see of an engine: the grammar as lines see it.
use Rattle.std.specs.Prelude.{ℕ, List, map, string_bytes}
use Rattle.lexicon.specs.Entries.{EntryTree}
use Rattle.spelling_rules.specs.Trees.{SpellingTree}
use Rattle.tree_model.specs.Signs.{Signs}
use Rattle.lexical_items.specs.Said.{words_said}
use Rattle.book_signs.specs.Trees.{signs_of, entries_of, lexical_rules_of}
use Rattle.mrs_places.specs.Paths.{paths_of}
use Rattle.mrs_lines.specs.Lines.{Semantics}
use Rattle.engine.specs.Speeches.{Speech}
use Rattle.engine.specs.declared.lent.Engine.{Engine}

-- these signs with a lexicon, a spelling, names, and where MRSs stand
abbrev pub speech_with : Signs → List EntryTree → SpellingTree → List (List ℕ) → Semantics → Speech
speech_with signs lexicon spelling names semantics = record { signs = signs; words = words_said (entries_of signs) (lexical_rules_of signs) lexicon spelling; names = names; semantics = semantics }

abbrev pub semantics_in : Engine → Semantics
semantics_in e = record { types = e.signs.now.book.system.types; paths = paths_of e.paths.now }

abbrev pub speech_of : Engine → Speech
speech_of e = speech_with (signs_of e.signs.now) e.grammar.now.lexicon e.grammar.now.spelling (map string_bytes e.grammar.now.names.items) (semantics_in e)
