-- The words of commands.
use Rattle.std.proofs.Common.{◌≡◌, ◌∙◌, sym, ap, refl, subst, ℕ, zero, suc, List, [], ◌∷◌, ◌++◌, length, Option, None, Some, Bool, true, false, ◌||◌, ◌&&◌, drop, map, get_or, take, ◌-◌, ◌<◌, ◌≤◌, inl, inr, ◌⊎◌, codes, if◌then◌else◌, arith}
use Rattle.std.proofs.lemmas.Slice.Eq.{bytes_eq-Decides}
use Rattle.std.proofs.lemmas.List.{take_all}
use Rattle.std.specs.List.{list_all}
use Rattle.std.specs.Str.{bytes_eq}
use Rattle.command_line.specs.Words.{OptionName, Workers, Edges, Readings, Lexical, Unary, Empty, Settings, Mrs, Lattice, Verbose, Value, in_range, name, nothing, is_name, word_of, value_of, IsValue, Item, positional, option as an_option, words_of, AreItems, Task, parse, chart, explain, generate, types, expand, check, self_test, scope, batch, transfer, name_word, command_word, places_of, HasNames}
use Rattle.command_line.specs.declared.tasks.CommandName.{CommandName}
use Rattle.command_line.specs.declared.tasks.CommandName.TheVariants as named
use Rattle.command_line.specs.Inner.Reading.{IsWord, of_option, of_name, AreWords, no_word, a_word, is_option_word, is_word, command_named, places_by, places_in, names_in, task_by}

-- words that pass
pub or-parts : (a b : Bool) → (a || b) ≡ true → (a ≡ true) ⊎ (b ≡ true)
or-parts true b e = inl refl
or-parts false b e = inr e

option-word : (w : List ℕ) (o : OptionName) → bytes_eq w (word_of o) ≡ true → IsWord w
option-word w o e = subst IsWord (sym ((bytes_eq-Decides w (word_of o)).0 e)) (of_option o)

of-options : (w : List ℕ) → is_option_word w ≡ true → IsWord w
of-options w e = elim (or-parts (bytes_eq w (word_of Workers)) _ e) [
  | inl h ↦ option-word w Workers h
  | inr e1 ↦
      elim (or-parts (bytes_eq w (word_of Edges)) _ e1) [
        | inl h ↦ option-word w Edges h
        | inr e2 ↦
            elim (or-parts (bytes_eq w (word_of Readings)) _ e2) [
              | inl h ↦ option-word w Readings h
              | inr e3 ↦
                  elim (or-parts (bytes_eq w (word_of Lexical)) _ e3) [
                    | inl h ↦ option-word w Lexical h
                    | inr e4 ↦
                        elim (or-parts (bytes_eq w (word_of Unary)) _ e4) [
                          | inl h ↦ option-word w Unary h
                          | inr e5 ↦
                              elim (or-parts (bytes_eq w (word_of Empty)) _ e5) [
                                | inl h ↦ option-word w Empty h
                                | inr e6 ↦
                                    elim (or-parts (bytes_eq w (word_of Settings)) _ e6) [
                                      | inl h ↦ option-word w Settings h
                                      | inr e7 ↦
                                          elim (or-parts (bytes_eq w (word_of Mrs)) _ e7) [
                                            | inl h ↦ option-word w Mrs h
                                            | inr e8 ↦ elim (or-parts (bytes_eq w (word_of Lattice)) (bytes_eq w (word_of Verbose)) e8) [ inl h ↦ option-word w Lattice h | inr h ↦ option-word w Verbose h ]
                                          ]
                                    ]
                              ]
                        ]
                  ]
            ]
      ]
]

of-word : (w : List ℕ) → is_word w ≡ true → IsWord w
of-word w e = elim (or-parts (is_name w) (is_option_word w) e) [ inl h ↦ of_name w h | inr h ↦ of-options w h ]

pub of-words : (ws : List (List ℕ)) → list_all is_word ws ≡ true → AreWords ws
of-words [] e = no_word
of-words (w ∷ ws) e = by_word (is_word w) refl e (of-words ws)
  where
    by_word : (t : Bool) → is_word w ≡ t → (t && list_all is_word ws) ≡ true → (list_all is_word ws ≡ true → AreWords ws) → AreWords (w ∷ ws)
    by_word true h f go = a_word w ws (of-word w h) (go f)
    by_word false h f go = cc

word-passes : (o : OptionName) → is_word (word_of o) ≡ true
word-passes Workers = refl
word-passes Edges = refl
word-passes Readings = refl
word-passes Lexical = refl
word-passes Unary = refl
word-passes Empty = refl
word-passes Settings = refl
word-passes Mrs = refl
word-passes Lattice = refl
word-passes Verbose = refl

name-passes : (w : List ℕ) → is_name w ≡ true → is_word w ≡ true
name-passes w h = rw h refl

with-value : (v : Value) (vs ws : List (List ℕ)) → IsValue v vs → list_all is_word ws ≡ true → list_all is_word (vs ++ ws) ≡ true
with-value (in_range least greatest) (w ∷ []) ws h e = rw (name-passes w h.0) e
with-value name (w ∷ []) ws h e = rw (name-passes w h) e
with-value nothing [] ws h e = e
with-value v vs ws h e = absurd h

-- the words of items pass
pub items-pass : (items : List Item) → AreItems items → list_all is_word (words_of items) ≡ true
items-pass [] are = refl
items-pass (positional w ∷ items) are = rw (name-passes w are.0) (items-pass items are.1)
items-pass (an_option o vs ∷ items) are = rw (word-passes o) (with-value (value_of o) vs (words_of items) are.0 (items-pass items are.1))

-- the command of a word
pub task-named : (t : Task) (n : CommandName) → command_named (command_word t) ≡ Some n → places_of t ≡ places_in (places_by n)
task-named (parse g) n e = let same : named.Parse ≡ n = cc in ap (λ x. places_in (places_by x)) same
task-named (chart g) n e = let same : named.Chart ≡ n = cc in ap (λ x. places_in (places_by x)) same
task-named (explain g) n e = let same : named.Explain ≡ n = cc in ap (λ x. places_in (places_by x)) same
task-named (generate g) n e = let same : named.Generate ≡ n = cc in ap (λ x. places_in (places_by x)) same
task-named (types g) n e = let same : named.Types ≡ n = cc in ap (λ x. places_in (places_by x)) same
task-named (expand g x) n e = let same : named.Expand ≡ n = cc in ap (λ x. places_in (places_by x)) same
task-named (check g) n e = let same : named.Check ≡ n = cc in ap (λ x. places_in (places_by x)) same
task-named (self_test a b) n e = let same : named.SelfTest ≡ n = cc in ap (λ x. places_in (places_by x)) same
task-named scope n e = let same : named.Scope ≡ n = cc in ap (λ x. places_in (places_by x)) same
task-named (batch g p) n e = let same : named.Batch ≡ n = cc in ap (λ x. places_in (places_by x)) same
task-named (transfer r) n e = let same : named.Transfer ≡ n = cc in ap (λ x. places_in (places_by x)) same

pub no-task : (t : Task) → command_named (command_word t) ≡ None → ⊥
no-task (parse g) e = cc
no-task (chart g) e = cc
no-task (explain g) e = cc
no-task (generate g) e = cc
no-task (types g) e = cc
no-task (expand g x) e = cc
no-task (check g) e = cc
no-task (self_test a b) e = cc
no-task scope e = cc
no-task (batch g p) e = cc
no-task (transfer r) e = cc

pick : (b : Bool) (w : List ℕ) (p n : CommandName) (rest : Option CommandName) → (b ≡ true → w ≡ name_word p) → (rest ≡ Some n → w ≡ name_word n) → (if b then Some p else rest) ≡ Some n → w ≡ name_word n
pick true w p n rest h k e = let same : p ≡ n = cc in h refl ∙ ap name_word same
pick false w p n rest h k e = k e

pub named-word : (w : List ℕ) (n : CommandName) → command_named w ≡ Some n → w ≡ name_word n
named-word w n =
    pick (bytes_eq w (codes "parse")) w named.Parse n _ (bytes_eq-Decides w (codes "parse")).0
    (pick (bytes_eq w (codes "chart")) w named.Chart n _ (bytes_eq-Decides w (codes "chart")).0
    (pick (bytes_eq w (codes "explain")) w named.Explain n _ (bytes_eq-Decides w (codes "explain")).0
    (pick (bytes_eq w (codes "generate")) w named.Generate n _ (bytes_eq-Decides w (codes "generate")).0
    (pick (bytes_eq w (codes "types")) w named.Types n _ (bytes_eq-Decides w (codes "types")).0
    (pick (bytes_eq w (codes "expand")) w named.Expand n _ (bytes_eq-Decides w (codes "expand")).0
    (pick (bytes_eq w (codes "check")) w named.Check n _ (bytes_eq-Decides w (codes "check")).0
    (pick (bytes_eq w (codes "self-test")) w named.SelfTest n _ (bytes_eq-Decides w (codes "self-test")).0
    (pick (bytes_eq w (codes "scope")) w named.Scope n _ (bytes_eq-Decides w (codes "scope")).0
    (pick (bytes_eq w (codes "batch")) w named.Batch n _ (bytes_eq-Decides w (codes "batch")).0
    (pick (bytes_eq w (codes "transfer")) w named.Transfer n None (bytes_eq-Decides w (codes "transfer")).0 (λ e. cc)))))))))))

same-word : (n : CommandName) (a b : List ℕ) → name_word n ≡ command_word (task_by n a b)
same-word named.Parse a b = refl
same-word named.Chart a b = refl
same-word named.Explain a b = refl
same-word named.Generate a b = refl
same-word named.Types a b = refl
same-word named.Expand a b = refl
same-word named.Check a b = refl
same-word named.SelfTest a b = refl
same-word named.Scope a b = refl
same-word named.Batch a b = refl
same-word named.Transfer a b = refl

pub word-is : (w : List ℕ) (n : CommandName) (a b : List ℕ) → command_named w ≡ Some n → w ≡ command_word (task_by n a b)
word-is w n a b e = named-word w n e ∙ same-word n a b

pub places-are-by : (n : CommandName) (a b : List ℕ) → places_of (task_by n a b) ≡ places_in (places_by n)
places-are-by named.Parse a b = refl
places-are-by named.Chart a b = refl
places-are-by named.Explain a b = refl
places-are-by named.Generate a b = refl
places-are-by named.Types a b = refl
places-are-by named.Expand a b = refl
places-are-by named.Check a b = refl
places-are-by named.SelfTest a b = refl
places-are-by named.Scope a b = refl
places-are-by named.Batch a b = refl
places-are-by named.Transfer a b = refl

pub has-names : (n : CommandName) (a b : List ℕ) → HasNames (task_by n a b) (names_in (places_by n) a b)
has-names named.Parse a b = refl
has-names named.Chart a b = refl
has-names named.Explain a b = refl
has-names named.Generate a b = refl
has-names named.Types a b = refl
has-names named.Expand a b = refl
has-names named.Check a b = refl
has-names named.SelfTest a b = (a, b, refl, refl, refl)
has-names named.Scope a b = refl
has-names named.Batch a b = refl
has-names named.Transfer a b = refl

-- the words from one on
pub words-at : {X : Type 0} (f : X → List ℕ) (xs : List X) (i : ℕ) (x : X) → i < length xs → get_or xs i x ≡ x → list_all is_word (drop i (map f xs)) ≡ (is_word (f x) && list_all is_word (drop (suc i) (map f xs)))
words-at f (y ∷ xs) zero x less e = ap (λ z. is_word (f z) && list_all is_word (map f xs)) e
words-at f (y ∷ xs) (suc i) x less e = words-at f xs i x (omega (arith, less)) e
words-at f [] i x less e = absurd (omega (arith, less))

-- the first word and those after it
pub first-word : {X : Type 0} (f : X → List ℕ) (xs : List X) (x : X) → 1 ≤ length xs → x ≡ get_or xs 0 x → map f xs ≡ f x ∷ map f (take (length xs - 1) (drop 1 xs))
first-word f [] x more e = absurd (omega (arith, more))
first-word f (y ∷ xs) x more e = let rest : take (length (y ∷ xs) - 1) xs ≡ xs = take_all (length (y ∷ xs) - 1) xs (omega arith) in
    ap (λ z. f z ∷ map f xs) (sym e) ∙ ap (λ zs. f x ∷ map f zs) (sym rest)
