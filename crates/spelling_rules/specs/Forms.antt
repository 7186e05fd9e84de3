-- The forms of a stem under a lexical rule (DELPH-IN TDL: morphological rules).
use Rattle.std.specs.Prelude.{ℕ, zero, suc, ◌≡◌, ◌<◌, ◌⊎◌, ◌&&◌, ◌==◌, not, Bool, true, false, List, [], ◌∷◌, ◌++◌, map, filter, length, encode_utf8_all}
use Rattle.std.specs.Str.{bytes_eq}
use Rattle.std.specs.declared.cmp.Ordering.TheVariants.{Less}
use Rattle.lexicon.specs.Words.{Word, Has, Each, Rises, compared}
use Rattle.spelling_rules.specs.Trees.{SignTree, letter, variable, GroupTree, RuleTree, LineTree, SpellingTree}

-- what a sign stands for, where each variable has a value
abbrev pub stands_for : (ℕ → ℕ) → SignTree → ℕ
stands_for value (letter c) = c
stands_for value (variable name members) = value name

-- each variable's value is a member of its set
abbrev pub Suits : (ℕ → ℕ) → List SignTree → Type 0
Suits value [] = Unit {0}
Suits value (letter c ∷ more) = Suits value more
Suits value (variable name members ∷ more) = Has (value name) members × Suits value more

-- letters before an end, or after a beginning
abbrev pub joined : Bool → List ℕ → List ℕ → List ℕ
joined true rest part = rest ++ part
joined false rest part = part ++ rest

-- A group makes a form of a stem: the end of the stem, or its beginning, is the pattern under some values of the variables, and what stands in its place takes them too.
pub record Rewrites (suffix : Bool) (g : GroupTree) (stem form : Word) : Type 0 where
  pub value : ℕ → ℕ
  pub rest : List ℕ
  pub suits : Suits value g.pattern
  pub from : stem ≡ encode_utf8_all (joined suffix rest (map (stands_for value) g.pattern))
  pub to : form ≡ encode_utf8_all (joined suffix rest (map (stands_for value) g.with))

-- no group of these matches the stem
abbrev pub NoneMatches : Bool → List GroupTree → Word → Type 0
NoneMatches suffix groups stem = Each (λ g. (form : Word) → Rewrites suffix g stem form → ⊥) groups

-- the last written group that matches makes this form
pub record IsMadeByLast (suffix : Bool) (groups : List GroupTree) (stem form : Word) : Type 0 where
  pub before : List GroupTree
  pub group : GroupTree
  pub after : List GroupTree
  pub split : groups ≡ before ++ group ∷ after
  pub makes : Rewrites suffix group stem form
  pub last : NoneMatches suffix after stem

-- what the lines for a rule and a stem give, in order
abbrev pub listed_forms : List LineTree → ℕ → Word → List Word
listed_forms lines rule stem = map (λ l. l.form) (filter (λ l. (l.rule == rule) && bytes_eq stem l.stem) lines)

-- each word once, where it stands first
abbrev pub once : List Word → List Word
once [] = []
once (x ∷ xs) = x ∷ filter (λ y. not (bytes_eq x y)) (once xs)

-- The regular forms: the stem where the rule has no groups; otherwise what the last group that matches makes, unless it is empty.
pub data AreRegular (rule : RuleTree) (stem : Word) : List Word → Type 0 where
  itself : rule.groups ≡ [] → AreRegular rule stem (stem ∷ [])
  made : (form : Word) → IsMadeByLast rule.suffix rule.groups stem form → 0 < length form → AreRegular rule stem (form ∷ [])
  emptied : IsMadeByLast rule.suffix rule.groups stem [] → AreRegular rule stem []
  unmatched : 0 < length rule.groups → NoneMatches rule.suffix rule.groups stem → AreRegular rule stem []

-- The forms: those of the irregular lines, where there is one, and otherwise the regular ones.
pub data AreFormsBy (rule : RuleTree) (listed : List Word) (stem : Word) : List Word → Type 0 where
  irregular : 0 < length listed → AreFormsBy rule listed stem (once listed)
  regular : (forms : List Word) → listed ≡ [] → AreRegular rule stem forms → AreFormsBy rule listed stem forms

-- a rule by its number
abbrev pub rule_at : List RuleTree → ℕ → RuleTree
rule_at [] n = record { suffix = true; groups = [] }
rule_at (r ∷ rs) zero = r
rule_at (r ∷ rs) (suc n) = rule_at rs n

abbrev pub AreForms : SpellingTree → ℕ → Word → List Word → Type 0
AreForms s rule stem forms = AreFormsBy (rule_at s.rules rule) (listed_forms s.lines rule stem) stem forms

-- one of the forms of a stem is this one
abbrev pub HasForm : SpellingTree → ℕ → Word → Word → Type 0
HasForm s rule stem form = (forms : List Word) × AreForms s rule stem forms × Has form forms

-- The stems of a form: exactly the nonempty ones whose forms hold it, each once, in byte order.
pub record AreStems (s : SpellingTree) (rule : ℕ) (form : Word) (stems : List Word) : Type 0 where
  pub have : (stem : Word) → Has stem stems → (0 < length stem) × HasForm s rule stem form
  pub all : (stem : Word) → 0 < length stem → HasForm s rule stem form → Has stem stems
  pub rise : Rises stems

-- a stem under a rule, by the rule's number
pub record StemTree : Type 0 where
  pub rule : ℕ
  pub stem : Word

-- one comes before another: its rule does, or they have one rule, and its stem comes first in byte order
abbrev pub IsBefore : StemTree → StemTree → Type 0
IsBefore x y = (x.rule < y.rule) ⊎ ((x.rule ≡ y.rule) × (compared x.stem y.stem ≡ Less))

-- each comes before those that follow it
abbrev pub AreInOrder : List StemTree → Type 0
AreInOrder [] = Unit {0}
AreInOrder (x ∷ xs) = Each (IsBefore x) xs × AreInOrder xs

-- The stems of a form under the first rules: for each of them exactly its stems, each once, rule by rule and in byte order.
pub record AreStemsUnder (s : SpellingTree) (count : ℕ) (form : Word) (stems : List StemTree) : Type 0 where
  pub have : (x : StemTree) → Has x stems → (x.rule < count) × (0 < length x.stem) × HasForm s x.rule x.stem form
  pub all : (x : StemTree) → x.rule < count → 0 < length x.stem → HasForm s x.rule x.stem form → Has x stems
  pub order : AreInOrder stems

-- the stems of a form under all rules
abbrev pub AreAllStems : SpellingTree → Word → List StemTree → Type 0
AreAllStems s form stems = AreStemsUnder s (length s.rules) form stems
