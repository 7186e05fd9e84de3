-- The lines that show a fault of files, under the flag `--verbose`.
use Rattle.std.specs.Prelude.{◌≡◌, ◌⊎◌, ◌++◌, ℕ, List, [], Bool, true, false, codes}
use Rattle.lkb_io.specs.declared.ShelfCause.{ShelfCause}
use Rattle.lkb_io.specs.declared.ShelfCause.TheVariants.{Missing, Folder, Unreadable}
use Rattle.grammar_settings.specs.Forms.{Name}
use Rattle.grammar_files.specs.declared.fault.Why.{Why}
use Rattle.grammar_files.specs.declared.fault.Why.TheVariants.{Settings, Shelf}
use Rattle.grammar_files.specs.Faults.{FoundFault}
use Rattle.grammar_files.specs.Walks.{Files, IsText}
use Rattle.command_files.specs.FaultTexts.{has_place}
use Rattle.command_files.specs.Causes.{cause_of}
use Rattle.fault_places.specs.Places.{place_text, file_text, line_begin}
use Rattle.endings.specs.declared.Fault.{Fault}
use Rattle.endings.specs.declared.Fault.TheVariants.{Files as FilesFault}

-- why a shelf failed, in plain words
abbrev pub shelf_cause : ShelfCause → List ℕ
shelf_cause Missing = codes "there is no such file"
shelf_cause Folder = codes "it is a folder"
shelf_cause Unreadable = codes "it can't be read"

-- the place that is shown of a file with this text: where settings are at fault, a line was told, and it is shown from its beginning
abbrev pub shown_place : Why → List ℕ → ℕ → ℕ
shown_place Settings text at = line_begin text at
shown_place why text at = at

-- Lines that show a place of a file: its line and its column with this cause, the line of the file, and a mark.
abbrev pub IsPlaceShown : Files → Name → (List ℕ → ℕ) → (cause : List ℕ) → List ℕ → Type 0
IsPlaceShown files file place cause lines = (text : List ℕ) × IsText files file text × (lines ≡ place_text file text (place text) cause)

-- The lines that show a fault: its place, or its file where its cause has none; why the shelf failed is what the shelf says.
pub data IsShown (files : Files) (f : FoundFault) : List ℕ → Type 0 where
  at_place : (lines : List ℕ) → has_place f.why ≡ true → IsPlaceShown files f.file (λ text. shown_place f.why text f.at) (cause_of f.why) lines → IsShown files f lines
  whole_file : has_place f.why ≡ false → (f.why ≡ Shelf → ⊥) → IsShown files f (file_text f.file (cause_of f.why))
  of_shelf : (c : ShelfCause) → f.why ≡ Shelf → IsShown files f (file_text f.file (shelf_cause c))

-- The lines that follow a line that tells a fault: none without the flag, or where memory was wanting for them or the file wasn't read
-- again; and otherwise lines of which P holds.
pub data AreLines (verbose : Bool) (P : List ℕ → Type 0) : List ℕ → Type 0 where
  no_lines : AreLines verbose P []
  lines : (shown : List ℕ) → verbose ≡ true → P shown → AreLines verbose P shown

abbrev pub AreShown : Bool → Files → FoundFault → List ℕ → Type 0
AreShown verbose files f = AreLines verbose (IsShown files f)

-- What is told of a fault is followed by these lines, or by none.
abbrev pub IsFollowed : Fault → List ℕ → Fault → Type 0
IsFollowed (FilesFault text) more (FilesFault told) = (told.items ≡ text.items ++ more) ⊎ (told.items ≡ text.items)
IsFollowed fault more told = told ≡ fault
