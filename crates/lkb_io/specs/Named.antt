-- The files that a shelf in memory was given.
use Rattle.std.specs.Prelude.{List, map, string_bytes}
use Rattle.lkb_io.specs.declared.shelves.ShelfFile.{ShelfFile}
use Rattle.lkb_io.specs.Shelves.{NamedFile}

abbrev pub named : ShelfFile → NamedFile
named file = record { name = string_bytes file.name; text = file.text.items }

abbrev pub named_files : List ShelfFile → List NamedFile
named_files files = map named files
