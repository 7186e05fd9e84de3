use Rattle.std.proofs.Common.{◌≡◌, ◌≤◌, take}
use Rattle.std.specs.Str.{IsCharBoundary}
use Rattle.grammar_files.specs.FileNames.{folder_of}
use Rattle.grammar_files.proofs.file_names.folder.Given as goal

abbrev pub invariant-loop-i : goal.invariant-loop-i
invariant-loop-i l = record {
  room : l.end ≤ l.i;
  boundary : IsCharBoundary l.name l.end;
  same : folder_of (take l.i l.name) ≡ take l.end l.name;
}
