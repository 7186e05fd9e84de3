use Rattle.std.proofs.Common.{◌≡◌, drop}
use Rattle.lkb_io.specs.Shelves.{file_of}
use Rattle.lkb_io.specs.Named.{named_files}
use Rattle.lkb_io.proofs.shelves.find_file.Given as goal

abbrev pub invariant-loop-file : goal.invariant-loop-file
invariant-loop-file l = file_of (named_files (drop l.file-index l.files)) l.name ≡ file_of (named_files l.files) l.name
