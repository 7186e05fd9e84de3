-- What the code finds when it undoes a group; only private clauses cite it.
use Rattle.std.specs.Prelude.{ℕ, ◌≡◌, ◌==◌, ◌||◌, ◌++◌, Bool, true, false, List, [], ◌∷◌, map, if◌then◌else◌}
use Rattle.std.specs.List.{flat_map}
use Rattle.lexicon.specs.Words.{Word, Has}
use Rattle.spelling_rules.specs.Trees.{SignTree, letter, variable, SpellingTree}
use Rattle.spelling_rules.specs.Forms.{HasForm}
use Rattle.spelling_rules.specs.Inner.Rewriting.{is_variable, value_in}

abbrev pub occurs : ℕ → List SignTree → Bool
occurs name [] = false
occurs name (s ∷ more) = is_variable name s || occurs name more

-- the letters for which a sign of a pattern may stand, where other signs spell these letters
abbrev pub options : List SignTree → List ℕ → SignTree → List ℕ
options with part (letter c) = c ∷ []
options with part (variable name members) = if occurs name with then value_in with part name ∷ [] else members

-- letters with one more
abbrev pub longer : List ℕ → List ℕ → List (List ℕ)
longer filled letters = map (λ c. filled ++ c ∷ []) letters

-- the letters for which a pattern may stand
abbrev pub fillings : List SignTree → List ℕ → List (List ℕ) → List SignTree → List (List ℕ)
fillings with part done [] = done
fillings with part done (s ∷ ss) = fillings with part (flat_map (λ filled. longer filled (options with part s)) done) ss

-- a list that has all stems of a form, and perhaps others
abbrev pub HasStems : SpellingTree → ℕ → Word → List Word → Type 0
HasStems s rule form words = (stem : Word) → HasForm s rule stem form → Has stem words
