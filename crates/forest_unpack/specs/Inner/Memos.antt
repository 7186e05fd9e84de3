-- What is known of full structures while lists are made; only private clauses cite it.
use Rattle.std.specs.Prelude.{◌≡◌, ℕ, ◌+◌, ◌↔◌, IsTrue, Bool, Option, Some, None, All, List, [], ◌∷◌, map, slice_get}
use Rattle.std.proofs.Common.{Vec, Global}
use Rattle.std.specs.Arc.{arc_value}
use Rattle.chart_model.specs.Tuples.{on_list}
use Rattle.tree_model.specs.Readings.{Wholes}
use Rattle.forest_unpack.specs.declared.item.Item.{Item}
use Rattle.forest_unpack.specs.declared.memo.Answer.{Answer}
use Rattle.forest_unpack.specs.declared.memo.Memo.{Memo}
use Rattle.forest_unpack.specs.declared.memo.Question.{Question}
use Rattle.forest_unpack.specs.Reached.{IsReached}

-- these numbers are those of these values
abbrev pub AreNamed : {V : Type 0} → List V → List ℕ → List V → Type 0
AreNamed known [] [] = Unit {0}
AreNamed known [] (v ∷ vs) = ⊥
AreNamed known (n ∷ ns) [] = ⊥
AreNamed known (n ∷ ns) (v ∷ vs) = (slice_get known n ≡ Some v) × AreNamed known ns vs

-- what was known stays known, by its number
abbrev pub Extends : {V : Type 0} → List V → List V → Type 0
Extends {V} old new = (n : ℕ) (v : V) → slice_get old n ≡ Some v → slice_get new n ≡ Some v

-- the numbers of the daughters that a question is about
abbrev pub daughters_of : Question → List ℕ
daughters_of q = on_list q.a (on_list q.b (on_list q.c (on_list q.d [])))

module _ {C V : Type 0} (w : Wholes V C) (known : List V) where
  -- the number of a full structure under the rule over these, or none, where they have none
  abbrev pub IsFound : ℕ → List V → Option ℕ → Type 0
  IsFound rule vs None = (v : V) → w.full rule vs v → ⊥
  IsFound rule vs (Some n) = (v : V) × (slice_get known n ≡ Some v) × w.full rule vs v

  -- what is answered to a question is right
  pub record IsRight (answer : Answer) : Type 0 where
    pub values : List V
    pub are : AreNamed known (daughters_of answer.question) values
    pub found : IsFound answer.question.rule values answer.made

module _ {X T C W : Type 0} where
  abbrev pub fulls_in : Memo X T C W → List T
  fulls_in memo = map arc_value memo.known.items

module _ {X T C W V : Type 0} (value : T → V) where
  -- the values of the known full structures, by number
  abbrev pub known_in : Memo X T C W → List V
  known_in memo = map value (fulls_in memo)

  -- the number of the item is that of its full structure
  abbrev pub IsNumbered : List V → Item X T C W → Type 0
  IsNumbered known item = slice_get known item.number ≡ Some (value (arc_value item.full))

  module _ (w : Wholes V C) where
    -- all answers are right
    abbrev pub IsMemo : Memo X T C W → Type 0
    IsMemo memo = All (IsRight w (known_in memo)) memo.answers.items

    -- all answers are right, and what was known stays known
    pub record Learned (old new : Memo X T C W) : Type 0 where
      pub memo : IsMemo new
      pub known : Extends (known_in old) (known_in new)

    -- all answers are right, and the items of the lists that were made have their numbers
    pub record IsReady (now : Memo X T C W) (table : List (Option (Vec (Item X T C W) Global))) : Type 0 where
      pub memo : IsMemo now
      pub lists : (h : ℕ) (made : Vec (Item X T C W) Global) → slice_get table h ≡ Some (Some made) → All (IsNumbered (known_in now)) made.items

    -- the same of a later memo, and what was known stays known
    pub record StaysReady (old new : Memo X T C W) (table : List (Option (Vec (Item X T C W) Global))) : Type 0 where
      pub ready : IsReady new table
      pub known : Extends (known_in old) (known_in new)

module _ {X T C W V : Type 0} (value : T → V) (w : Wholes V C) (named : ℕ → Type 0) where
  -- the item's full structure is that of a leaf or under a rule
  abbrev pub IsReachedItem : Item X T C W → Type 0
  IsReachedItem item = IsReached w named (value (arc_value item.full))

  -- so it is in each list that was made
  abbrev pub AreReached : List (Option (Vec (Item X T C W) Global)) → Type 0
  AreReached table = (h : ℕ) (made : Vec (Item X T C W) Global) → slice_get table h ≡ Some (Some made) → All IsReachedItem made.items

-- what was found out of known full structures: whether trees of them and of this cover are asked for
abbrev pub AreAccepted : {C V : Type 0} → Wholes V C → List V → C → List (Option Bool) → Type 0
AreAccepted {C} {V} w known c told = (n : ℕ) (yes : Bool) (v : V) → slice_get told n ≡ Some (Some yes) → slice_get known n ≡ Some v → IsTrue yes ↔ w.accepted v c

-- how many places are left, on the way back from this one
abbrev pub places_left : Option ℕ → ℕ
places_left None = 0
places_left (Some place) = place + 1
