-- How stems are gathered; only private clauses cite it.
use Rattle.std.specs.Prelude.{ℕ, ◌<◌, ◌⊎◌, ◌≡◌, List, [], ◌∷◌, zero, suc, length}
use Rattle.lexicon.specs.Words.{Word, Has, Rises}
use Rattle.spelling_rules.specs.Trees.{SignTree, letter, variable, GroupTree, SpellingTree}
use Rattle.spelling_rules.specs.Forms.{HasForm, StemTree}

abbrev pub IsStem : SpellingTree → ℕ → Word → Word → Type 0
IsStem s rule form stem = (0 < length stem) × HasForm s rule stem form

-- a rising list of stems has one more, where it is a stem
pub record IsKept (s : SpellingTree) (rule : ℕ) (form stem : Word) (old new : List Word) : Type 0 where
  pub rises : Rises old → Rises new
  pub kept : (w : Word) → Has w old → Has w new
  pub added : IsStem s rule form stem → Has stem new
  pub only : (w : Word) → Has w new → Has w old ⊎ ((w ≡ stem) × IsStem s rule form stem)

-- a group by its place
abbrev pub group_at : List GroupTree → ℕ → GroupTree
group_at [] k = record { pattern = []; with = [] }
group_at (g ∷ gs) zero = g
group_at (g ∷ gs) (suc k) = group_at gs k

abbrev pub Empty : Type 0
Empty = ⊥

-- a stem with its rule
abbrev pub stem_under : ℕ → Word → StemTree
stem_under rule stem = record { rule = rule; stem = stem }

-- a sign of a pattern, if it is a variable
abbrev pub IsFound : List SignTree → SignTree → Type 0
IsFound pattern (letter c) = Unit {0}
IsFound pattern (variable name members) = Has (variable name members) pattern
