-- The answer to a line that has no lattice, by its lines.
use Rattle.std.proofs.Common.{◌≡◌, ℕ, List, [], ◌∷◌, Bool, true, sym, subst}
use Rattle.morph_analysis.specs.Lattices.{LatticeTree}
use Rattle.item_reports.specs.Reports.{no_text_line, no_lattice_line}
use Rattle.line_commands.specs.declared.lattices.NoLattice.{NoLattice}
use Rattle.line_commands.specs.declared.lattices.NoLattice.TheVariants as why
use Rattle.line_commands.specs.Lines.{IsLineAnswer, no_text, no_lattice}
use Rattle.line_commands.specs.Inner.Lattices.{HasNoLattice, IsReportWithout}

module _ (writes : Bool) (reports : LatticeTree → List (List ℕ) → Bool → Type 0) (number : ℕ) (line : List ℕ) where
  moved : (own other : List (List ℕ)) (b c : Bool) → other ≡ own → c ≡ b → IsLineAnswer writes reports number line own b → IsLineAnswer writes reports number line other c
  moved own other b c e f is = subst (λ d. IsLineAnswer writes reports number line other d) (sym f) (subst (λ ls. IsLineAnswer writes reports number line ls b) (sym e) is)

  pub answered-without : (n : NoLattice) → HasNoLattice writes line n → (lines : List (List ℕ)) (refused : Bool) → IsReportWithout number n lines refused → IsLineAnswer writes reports number line lines refused
  answered-without (why.NoText) h lines refused r = moved (no_text_line number ∷ []) lines true refused r.0 r.1 (no_text h)
  answered-without (why.At at) h lines refused r = moved (no_lattice_line number at ∷ []) lines true refused r.0 r.1 (no_lattice at h.0 h.1 h.2)
  answered-without (why.NoMemory) h lines refused r = absurd r
