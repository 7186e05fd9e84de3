-- Trees of a grammar: their full structures, their leaves and their covers.
use Rattle.std.specs.Prelude.{ℕ, ◌≡◌, List, [], ◌∷◌, length, Option, Some, slice_get}
use Rattle.fs_model.specs.Claims.{Claim}
use Rattle.fs_model.specs.Sources.{Told}
use Rattle.fs_model.specs.Closure.{Closure, AreConsistent}
use Rattle.derivation.specs.Trees.{Derivation, Daughters, lexical, phrase, no_more, first}
use Rattle.tree_model.specs.Structures.{Structure, Says}
use Rattle.tree_model.specs.Mothers.{IsFull}
use Rattle.tree_model.specs.Signs.{Signs, Instance, a_phrase_rule, a_root, rule_system}
use Rattle.tree_model.specs.Lexical.{FullLexical}

-- a phrase rule makes this full structure of its daughters'
pub record IsPhrase (g : Signs) (rule : ℕ) (fs : List Structure) (f : Structure) : Type 0 where
  pub instance : Instance
  pub at : slice_get g.instances rule ≡ Some instance
  pub kind : instance.kind ≡ a_phrase_rule
  pub arity : length fs ≡ length instance.rule.places
  pub full : IsFull (rule_system g) instance.rule fs f

mutual
  -- the full structure of a tree, where it exists
  pub data Full (g : Signs) : Derivation → Structure → Type 0 where
    full_lexical : {entry : ℕ} {rules : List ℕ} {words : List (List ℕ)} {nodes : Option (ℕ × ℕ)} {f : Structure} → FullLexical g entry rules f → Full g (lexical entry rules words nodes) f
    full_phrase : {rule : ℕ} {ds : Daughters} {f : Structure} (fs : List Structure) → Fulls g ds fs → IsPhrase g rule fs f → Full g (phrase rule ds) f

  pub data Fulls (g : Signs) : Daughters → List Structure → Type 0 where
    no_fulls : Fulls g no_more []
    more_fulls : {d : Derivation} {ds : Daughters} {f : Structure} {fs : List Structure} → Full g d f → Fulls g ds fs → Fulls g (first d ds) (f ∷ fs)

mutual
  -- each lexical tree of a tree is one of these
  pub data LeavesAre (leaf : Derivation → Type 0) : Derivation → Type 0 where
    leaf_is : {entry : ℕ} {rules : List ℕ} {words : List (List ℕ)} {nodes : Option (ℕ × ℕ)} → leaf (lexical entry rules words nodes) → LeavesAre leaf (lexical entry rules words nodes)
    leaves_are : {rule : ℕ} {ds : Daughters} → AllLeavesAre leaf ds → LeavesAre leaf (phrase rule ds)

  pub data AllLeavesAre (leaf : Derivation → Type 0) : Daughters → Type 0 where
    no_leaves : AllLeavesAre leaf no_more
    more_leaves : {d : Derivation} {ds : Daughters} → LeavesAre leaf d → AllLeavesAre leaf ds → AllLeavesAre leaf (first d ds)

-- some root unifies with the structure
pub data Both (g : Signs) (i : Instance) (f : Structure) : Claim → Type 0 where
  of_root : (c : Claim) → Told i.rule.facts c → Both g i f c
  of_full : (c : Claim) → Says g.paths f c → Both g i f c

pub record IsRooted (g : Signs) (f : Structure) : Type 0 where
  pub place : ℕ
  pub root : Instance
  pub at : slice_get g.instances place ≡ Some root
  pub kind : root.kind ≡ a_root
  pub unifies : AreConsistent g.system (Closure g.system (Both g root f))

mutual
  -- the tree has this cover: a lexical tree by itself, a phrase by what its rule makes of its daughters' covers
  pub data Covered {C : Type 0} (of_leaf : Derivation → C → Type 0) (covers : ℕ → List C → Option C) : Derivation → C → Type 0 where
    covered_lexical : {entry : ℕ} {rules : List ℕ} {words : List (List ℕ)} {nodes : Option (ℕ × ℕ)} {c : C} → of_leaf (lexical entry rules words nodes) c → Covered of_leaf covers (lexical entry rules words nodes) c
    covered_phrase : {rule : ℕ} {ds : Daughters} {c : C} (cs : List C) → AllCovered of_leaf covers ds cs → covers rule cs ≡ Some c → Covered of_leaf covers (phrase rule ds) c

  pub data AllCovered {C : Type 0} (of_leaf : Derivation → C → Type 0) (covers : ℕ → List C → Option C) : Daughters → List C → Type 0 where
    no_covers : AllCovered of_leaf covers no_more []
    more_covers : {d : Derivation} {ds : Daughters} {c : C} {cs : List C} → Covered of_leaf covers d c → AllCovered of_leaf covers ds cs → AllCovered of_leaf covers (first d ds) (c ∷ cs)
