-- The nodes of a tree, their order, and what each is made of.
use Rattle.std.specs.Prelude.{ℕ, suc, ◌≡◌, ◌<◌, List, [], ◌∷◌, ◌++◌, Option, Some, slice_get}
use Rattle.derivation.specs.Trees.{Derivation, Daughters, lexical, phrase, first}
use Rattle.derivation.specs.Order.{outermost}
use Rattle.tree_model.specs.Structures.{Structure}
use Rattle.tree_model.specs.Mothers.{Rule}
use Rattle.tree_model.specs.Signs.{Signs, Instance}
use Rattle.tree_model.specs.Trees.{Full, Fulls}

-- the way from the root to a node: a daughter's number, from 1, for each step
abbrev pub Place : Type 0
Place = List ℕ

-- the daughter after so many others
pub data IsDaughterAt : Daughters → ℕ → Derivation → Type 0 where
  daughter_here : {d : Derivation} {ds : Daughters} → IsDaughterAt (first d ds) 0 d
  daughter_later : {d e : Derivation} {ds : Daughters} {n : ℕ} → IsDaughterAt ds n d → IsDaughterAt (first e ds) (suc n) d

-- The daughter of a node by its number. A lexical rule has one, the lexical tree within it, with the words of the whole: no structure looks at them.
pub data IsDaughter : Derivation → ℕ → Derivation → Type 0 where
  within_rule : {entry : ℕ} {words : List (List ℕ)} {nodes : Option (ℕ × ℕ)} (rules : List ℕ) (rule : ℕ) →
      IsDaughter (lexical entry (rules ++ rule ∷ []) words nodes) 1 (lexical entry rules words nodes)
  below_phrase : {rule n : ℕ} {ds : Daughters} {d : Derivation} → IsDaughterAt ds n d → IsDaughter (phrase rule ds) (suc n) d

-- at a place of a tree stands a node, with all that is below it
pub data StandsAt : Derivation → Place → Derivation → Type 0 where
  at_root : {t : Derivation} → StandsAt t [] t
  at_daughter : {t d u : Derivation} {n : ℕ} {place : Place} → IsDaughter t n d → StandsAt d place u → StandsAt t (n ∷ place) u

-- the instance of a node: its rule, or its entry
abbrev pub instance_of : Derivation → ℕ
instance_of (lexical entry rules words nodes) = outermost entry rules
instance_of (phrase rule ds) = rule

-- daughters before mothers, from the left
pub data ComesBefore : Place → Place → Type 0 where
  before_mother : {n : ℕ} {p : Place} → ComesBefore (n ∷ p) []
  before_right : {n m : ℕ} {p q : Place} → n < m → ComesBefore (n ∷ p) (m ∷ q)
  before_within : {n : ℕ} {p q : Place} → ComesBefore p q → ComesBefore (n ∷ p) (n ∷ q)

-- What a node is made of: the instance that it names, and the structures of its daughters, of which an entry has none.
pub data IsMadeOf (g : Signs) : Derivation → Rule → List Structure → Type 0 where
  made_of_entry : {entry : ℕ} {words : List (List ℕ)} {nodes : Option (ℕ × ℕ)} (i : Instance) → slice_get g.instances entry ≡ Some i →
      IsMadeOf g (lexical entry [] words nodes) i.rule []
  made_of_lexical : {entry : ℕ} {words : List (List ℕ)} {nodes : Option (ℕ × ℕ)} (rules : List ℕ) (rule : ℕ) (i : Instance) (f : Structure) →
      slice_get g.instances rule ≡ Some i → Full g (lexical entry rules words nodes) f → IsMadeOf g (lexical entry (rules ++ rule ∷ []) words nodes) i.rule (f ∷ [])
  made_of_phrase : {rule : ℕ} {ds : Daughters} (i : Instance) (fs : List Structure) → slice_get g.instances rule ≡ Some i → Fulls g ds fs →
      IsMadeOf g (phrase rule ds) i.rule fs
