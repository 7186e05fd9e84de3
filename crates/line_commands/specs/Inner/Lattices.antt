-- Lines that have no lattice.
use Rattle.std.specs.Prelude.{ℕ, ◌≡◌, Bool, true, List, ◌∷◌, []}
use Rattle.std.specs.Str.{chars, IsUtf8}
use Rattle.morph_analysis.specs.LatticeLines.{IsFirstWrong}
use Rattle.item_reports.specs.Reports.{no_text_line, no_lattice_line}
use Rattle.line_commands.specs.declared.lattices.NoLattice.{NoLattice}
use Rattle.line_commands.specs.declared.lattices.NoLattice.TheVariants as why

-- why a line has none, where it is to write one or not
abbrev pub HasNoLattice : Bool → List ℕ → NoLattice → Type 0
HasNoLattice writes line (why.NoText) = IsUtf8 line → ⊥
HasNoLattice writes line (why.At at) = IsUtf8 line × (writes ≡ true) × IsFirstWrong (chars line) at
HasNoLattice writes line (why.NoMemory) = Unit {0}

-- what is written of it
abbrev pub IsReportWithout : ℕ → NoLattice → List (List ℕ) → Bool → Type 0
IsReportWithout number (why.NoText) lines refused = (lines ≡ no_text_line number ∷ []) × (refused ≡ true)
IsReportWithout number (why.At at) lines refused = (lines ≡ no_lattice_line number at ∷ []) × (refused ≡ true)
IsReportWithout number (why.NoMemory) lines refused = ⊥
