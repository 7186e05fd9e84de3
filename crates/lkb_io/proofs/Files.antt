-- Looking a file up by its name.
use Rattle.std.proofs.Common.{zero, suc, ◌≡◌, ℕ, ◌<◌, refl, List, [], ◌∷◌, length, drop, get_or, Some, if◌then◌else◌, string_bytes, arith}
use Rattle.std.specs.Str.{bytes_eq}
use Rattle.lkb_io.specs.declared.shelves.ShelfFile.{ShelfFile}
use Rattle.lkb_io.specs.Shelves.{file_of}
use Rattle.lkb_io.specs.Named.{named_files}

pub file_of-at : (files : List ShelfFile) (i : ℕ) (d : ShelfFile) (name : List ℕ) → i < length files → file_of (named_files (drop i files)) name ≡ (if bytes_eq (string_bytes (get_or files i d).name) name then Some (get_or files i d).text.items else file_of (named_files (drop (suc i) files)) name)
file_of-at [] i d name h = absurd (omega (arith, h))
file_of-at (f ∷ fs) zero d name h = refl
file_of-at (f ∷ fs) (suc i) d name h = file_of-at fs i d name (omega (arith, h))
