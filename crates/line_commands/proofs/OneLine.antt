-- A line has one answer, where its lattice has one report.
use Rattle.std.proofs.Common.{ℕ, ◌≡◌, ◌∷◌, [], List, Bool, true, false, refl, sym, ◌∙◌, ap, subst}
use Rattle.std.specs.Str.{chars}
use Rattle.morph_analysis.specs.Lattices.{LatticeTree}
use Rattle.morph_analysis.specs.LatticeLines.{IsLineOf, IsFirstWrong}
use Rattle.item_reports.specs.Reports.{no_lattice_line}
use Rattle.line_commands.specs.Lines.{IsLatticeOf, IsLineAnswer, no_text, no_lattice, answered}

abbrev pub OneLattice : Type 0
OneLattice = (line : List ℕ) (l m : LatticeTree) → IsLineOf line l → IsLineOf line m → l ≡ m

abbrev pub OneWrong : Type 0
OneWrong = (line : List ℕ) (a b : ℕ) → IsFirstWrong line a → IsFirstWrong line b → a ≡ b

abbrev pub Apart : Type 0
Apart = (line : List ℕ) (l : LatticeTree) (at : ℕ) → IsLineOf line l → IsFirstWrong line at → ⊥

module _ (lattices : OneLattice) (wrongs : OneWrong) (apart : Apart) where
  pub one-lattice : (writes : Bool) (cs : List ℕ) (l m : LatticeTree) → IsLatticeOf writes cs l → IsLatticeOf writes cs m → l ≡ m
  one-lattice false cs l m p q = p ∙ sym q
  one-lattice true cs l m p q = lattices cs l m p q

  pub not-wrong : (writes : Bool) (cs : List ℕ) (l : LatticeTree) (at : ℕ) → writes ≡ true → IsLatticeOf writes cs l → IsFirstWrong cs at → ⊥
  not-wrong false cs l at e p q = cc
  not-wrong true cs l at e p q = apart cs l at p q

  pub one-line : (writes : Bool) (reports : LatticeTree → List (List ℕ) → Bool → Type 0)
      → ((lattice : LatticeTree) (own other : List (List ℕ)) (b c : Bool) → reports lattice own b → reports lattice other c → (own ≡ other) × (b ≡ c))
      → (number : ℕ) (line : List ℕ) (own other : List (List ℕ)) (b c : Bool) → IsLineAnswer writes reports number line own b → IsLineAnswer writes reports number line other c → (own ≡ other) × (b ≡ c)
  one-line writes reports one number line _ _ _ _ (no_text x) (no_text y) = (refl, refl)
  one-line writes reports one number line _ _ _ _ (no_text x) (no_lattice at u w f) = absurd (x u)
  one-line writes reports one number line _ _ _ _ (no_text x) (answered l ls r u k is) = absurd (x u)
  one-line writes reports one number line _ _ _ _ (no_lattice at u w f) (no_text y) = absurd (y u)
  one-line writes reports one number line _ _ _ _ (no_lattice at u w f) (no_lattice on v z g) = (ap (λ n. no_lattice_line number n ∷ []) (wrongs (chars line) at on f g), refl)
  one-line writes reports one number line _ _ _ _ (no_lattice at u w f) (answered l ls r v k is) = absurd (not-wrong writes (chars line) l at w k f)
  one-line writes reports one number line _ _ _ _ (answered l ls r u k is) (no_text y) = absurd (y u)
  one-line writes reports one number line _ _ _ _ (answered l ls r u k is) (no_lattice at v w f) = absurd (not-wrong writes (chars line) l at w k f)
  one-line writes reports one number line _ _ _ _ (answered l ls r u k is) (answered m ms s v j so) =
      one m ls ms r s (subst (λ t. reports t ls r) (one-lattice writes (chars line) l m k j) is) so
