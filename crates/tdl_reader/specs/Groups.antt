-- What groups of spelling rules and letter sets say, and their form (DELPH-IN TDL).
use Rattle.std.specs.Prelude.{◌≡◌, ℕ, ◌<◌, not, false, ◌==◌, List, [], ◌∷◌, ◌++◌, length, codes}
use Rattle.std.specs.List.{AllPass}
use Rattle.std.specs.Char.{is_whitespace, is_not_whitespace}
use Rattle.caseless.specs.Caseless.{default_case_fold}
use Rattle.tdl_reader.specs.Trees.{SetTree, SignTree, one_char, one_of, GroupTree}

-- white space, or nothing
abbrev pub IsWhite : List ℕ → Type 0
IsWhite cs = AllPass is_whitespace cs

-- white space
abbrev pub IsGap : List ℕ → Type 0
IsGap cs = (0 < length cs) × IsWhite cs

-- a run without white space
abbrev pub IsRun : List ℕ → Type 0
IsRun cs = (0 < length cs) × AllPass is_not_whitespace cs

-- what stands between a group's parentheses
pub record IsInside (cs inner : List ℕ) : Type 0 where
  pub first : ℕ
  pub last : ℕ
  pub split : cs ≡ first ∷ (inner ++ last ∷ [])

-- a character folds to this one alone
abbrev pub Folds : ℕ → ℕ → Type 0
Folds c d = default_case_fold (c ∷ []) ≡ d ∷ []

-- each character in turn folds to one
pub data AllFold : List ℕ → List ℕ → Type 0 where
  none_folds : AllFold [] []
  one_folds : (c d : ℕ) (cs ds : List ℕ) → Folds c d → AllFold cs ds → AllFold (c ∷ cs) (d ∷ ds)

-- the letter set of a name: the last that was defined
pub record IsNamed (sets : List SetTree) (name : ℕ) (s : SetTree) : Type 0 where
  pub before : List SetTree
  pub after : List SetTree
  pub split : sets ≡ before ++ s ∷ after
  pub is : s.name ≡ name
  pub last : AllPass (λ r. not (r.name == name)) after

-- The signs of a run: `!` and a character is a variable of that letter set; every other character stands for itself, and so does a last `!`.
pub data AreSigns (sets : List SetTree) : List ℕ → List SignTree → Type 0 where
  no_signs : AreSigns sets [] []
  itself : (c d : ℕ) (cs : List ℕ) (signs : List SignTree) → (c == 33) ≡ false → Folds c d → AreSigns sets cs signs → AreSigns sets (c ∷ cs) (one_char d ∷ signs)
  variable : (c d : ℕ) (s : SetTree) (cs : List ℕ) (signs : List SignTree) → Folds c d → IsNamed sets d s → AreSigns sets cs signs → AreSigns sets (33 ∷ c ∷ cs) (one_of s ∷ signs)
  last_mark : AreSigns sets (33 ∷ []) (one_char 33 ∷ [])

-- a pattern: `*` alone is the empty one
pub data IsPattern (sets : List SetTree) : List ℕ → List SignTree → Type 0 where
  empty : IsPattern sets (42 ∷ []) []
  of_signs : (cs : List ℕ) (signs : List SignTree) → (cs ≡ 42 ∷ [] → ⊥) → AreSigns sets cs signs → IsPattern sets cs signs

-- a variable of this name is among the signs
pub data HasVariable (name : ℕ) : List SignTree → Type 0 where
  here : (s : SetTree) (signs : List SignTree) → s.name ≡ name → HasVariable name (one_of s ∷ signs)
  later : (x : SignTree) (signs : List SignTree) → HasVariable name signs → HasVariable name (x ∷ signs)

-- A group `(p r)` of a spelling rule: two runs, by the letter sets that are defined; each variable of r occurs in p.
pub record IsGroup (sets : List SetTree) (cs : List ℕ) (g : GroupTree) : Type 0 where
  pub left : List ℕ
  pub p : List ℕ
  pub between : List ℕ
  pub r : List ℕ
  pub right : List ℕ
  pub inside : IsInside cs (left ++ (p ++ (between ++ (r ++ right))))
  pub left_white : IsWhite left
  pub p_run : IsRun p
  pub gap : IsGap between
  pub r_run : IsRun r
  pub right_white : IsWhite right
  pub pattern : IsPattern sets p g.pattern
  pub with : IsPattern sets r g.with
  pub bound : (name : ℕ) → HasVariable name g.with → HasVariable name g.pattern

-- A letter set `(letter-set (!c bcd))`: `!` and one character, and its members. White space may stand after each parenthesis, before each closing one, and before the inner one.
pub record IsLetterSet (cs : List ℕ) (s : SetTree) : Type 0 where
  pub left : List ℕ
  pub before : List ℕ
  pub within : List ℕ
  pub name : ℕ
  pub between : List ℕ
  pub members : List ℕ
  pub after : List ℕ
  pub right : List ℕ
  pub inside : IsInside cs (left ++ (codes "letter-set" ++ (before ++ 40 ∷ (within ++ 33 ∷ name ∷ (between ++ (members ++ (after ++ 41 ∷ right)))))))
  pub left_white : IsWhite left
  pub before_white : IsWhite before
  pub within_white : IsWhite within
  pub name_black : is_whitespace name ≡ false
  pub gap : IsGap between
  pub members_run : IsRun members
  pub after_white : IsWhite after
  pub right_white : IsWhite right
  pub names : Folds name s.name
  pub folds : AllFold members s.members

-- what a group says by its form; out of form it says nothing, which is a fault
pub data Says (sets : List SetTree) (cs : List ℕ) : GroupTree → Type 0 where
  by_form : (g : GroupTree) → IsGroup sets cs g → Says sets cs g
  formless : ((g : GroupTree) → IsGroup sets cs g → ⊥) → Says sets cs (record { pattern = []; with = [] })

pub data SaysSet (cs : List ℕ) : SetTree → Type 0 where
  set_by_form : (s : SetTree) → IsLetterSet cs s → SaysSet cs s
  set_formless : ((s : SetTree) → IsLetterSet cs s → ⊥) → SaysSet cs (record { name = 0; members = [] })
