-- Lines that write a lattice.
use Rattle.std.specs.Prelude.{ℕ, ◌≡◌, ◌⊎◌, ◌<◌, ◌≤◌, ◌+◌, ◌*◌, ◌-◌, ◌==◌, ◌&&◌, not, Bool, true, false, List, [], ◌∷◌, ◌++◌, filter, length, encode_utf8_all}
use Rattle.std.specs.Char.{is_whitespace, is_ascii_digit}
use Rattle.std.specs.Str.{bytes_eq}
use Rattle.caseless.specs.Caseless.{default_case_fold}
use Rattle.lexicon.specs.Words.{Has, Each}
use Rattle.morph_analysis.specs.Lattices.{StepTree, LatticeTree}

-- the number that digits make after a number
abbrev pub value_of : ℕ → List ℕ → ℕ
value_of n [] = n
value_of n (d ∷ ds) = value_of (10 * n + (d - 48)) ds

-- 1 to 5 digits make a number of at most 65,534
pub record IsNumber (digits : List ℕ) (n : ℕ) : Type 0 where
  pub some : 0 < length digits
  pub few : length digits ≤ 5
  pub digits_are : Each (λ d. is_ascii_digit d ≡ true) digits
  pub is : n ≡ value_of 0 digits
  pub within : n ≤ 65534

-- An item `FROM:TO:WORD` writes a step; its word is folded.
pub record Writes (item : List ℕ) (s : StepTree) : Type 0 where
  pub first : List ℕ
  pub second : List ℕ
  pub word : List ℕ
  pub split : item ≡ first ++ 58 ∷ (second ++ 58 ∷ word)
  pub from : IsNumber first s.from
  pub to : IsNumber second s.to
  pub forward : s.from < s.to
  pub some : 0 < length word
  pub folded : s.word ≡ encode_utf8_all (default_case_fold word)

-- an item: a maximal run without white space, and the byte at which it begins
pub record ItemTree : Type 0 where
  pub at : ℕ
  pub letters : List ℕ

abbrev pub StopsBefore : List ℕ → Type 0
StopsBefore [] = Unit {0}
StopsBefore (c ∷ cs) = is_whitespace c ≡ true

-- the items of characters, where the first has this place in bytes
pub data Items : ℕ → List ℕ → List ItemTree → Type 0 where
  ends : (at : ℕ) → Items at [] []
  blank : (at c : ℕ) (rest : List ℕ) (items : List ItemTree) → is_whitespace c ≡ true → Items (at + length (encode_utf8_all (c ∷ []))) rest items → Items at (c ∷ rest) items
  item : (at : ℕ) (cs run rest : List ℕ) (items : List ItemTree) → cs ≡ run ++ rest → 0 < length run → Each (λ c. is_whitespace c ≡ false) run → StopsBefore rest → Items (at + length (encode_utf8_all run)) rest items
      → Items at cs (record { at = at; letters = run } ∷ items)

abbrev pub same_step : StepTree → StepTree → Bool
same_step s t = (s.from == t.from) && ((s.to == t.to) && bytes_eq s.word t.word)

-- each step once, where it stands first
abbrev pub once : List StepTree → List StepTree
once [] = []
once (s ∷ ss) = s ∷ filter (λ t. not (same_step s t)) (once ss)

-- the items in turn write these steps
pub data AllWrite : List ItemTree → List StepTree → Type 0 where
  no_more : AllWrite [] []
  one_more : (i : ItemTree) (is : List ItemTree) (s : StepTree) (ss : List StepTree) → Writes i.letters s → AllWrite is ss → AllWrite (i ∷ is) (s ∷ ss)

-- the greatest node to which a step goes, or 0 for none
pub record IsEnd (ss : List StepTree) (end : ℕ) : Type 0 where
  pub bound : (s : StepTree) → Has s ss → s.to ≤ end
  pub met : (end ≡ 0) ⊎ ((s : StepTree) × Has s ss × (s.to ≡ end))

-- what a line writes
pub record IsLineOf (line : List ℕ) (l : LatticeTree) : Type 0 where
  pub items : List ItemTree
  pub written : List StepTree
  pub split : Items 0 line items
  pub each : AllWrite items written
  pub steps : l.steps ≡ once written
  pub end : IsEnd written l.end

-- the byte of the first item that writes no step
pub record IsFirstWrong (line : List ℕ) (at : ℕ) : Type 0 where
  pub before : List ItemTree
  pub wrong : ItemTree
  pub after : List ItemTree
  pub written : List StepTree
  pub split : Items 0 line (before ++ wrong ∷ after)
  pub right : AllWrite before written
  pub not_so : (s : StepTree) → Writes wrong.letters s → ⊥
  pub is : at ≡ wrong.at
