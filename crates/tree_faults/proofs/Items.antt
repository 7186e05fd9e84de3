-- Daughters as the program has them, and what comes next by them.
use Rattle.std.specs.Prelude.{ℕ, ◌≡◌, ◌<◌, ◌++◌, List, [], Option, Some, String, length, map, replicate, get_or, slice_get, option_map, string_bytes}
use Rattle.std.proofs.Common.{sym, ◌∙◌, ap, subst, Vec, Global}
use Rattle.std.specs.Arc.{arc_value}
use Rattle.std.specs.declared.sync.Arc.{Arc}
use Rattle.std.proofs.lemmas.Option.{slice_get-map, slice_get-get_or}
use Rattle.derivation.specs.Trees.{Derivation, lexical, phrase}
use Rattle.derivation.specs.Views.{derivation_of, in_order}
use Rattle.derivation.specs.declared.Tree.{Tree}
use Rattle.derivation.specs.declared.Tree.TheVariants.{Lexical, Phrase}
use Rattle.derivation.proofs.Rows.{derivation_of-Lexical, derivation_of-Phrase}
use Rattle.tree_model.specs.Lexical.{Word, Words, Spells}
use Rattle.tree_model.specs.Trees.{LeavesAre, leaf_is}
use Rattle.tree_faults.specs.Spelled.{IsSpelled, AreSpelled, FailsWithin, leaf_here, IsFirstMisspelled}
use Rattle.tree_faults.specs.Nodes.{Place}
use Rattle.tree_faults.specs.declared.opened.Opened.{Opened}
use Rattle.tree_faults.specs.declared.endings.LeafFault.{LeafFault}
use Rattle.tree_faults.specs.declared.misspelled.Next.TheVariants.{Down, Spelled, Fault}
use Rattle.tree_faults.specs.Inner.Chains.{tree_of, IsNext}
use Rattle.tree_faults.specs.Inner.Walks.{daughters_in, open_of, Follows}
use Rattle.tree_faults.proofs.Walked.{next_leaves, no_leaf}

-- the daughter at hand
pub next_is : (o : Opened) (item : Tree) → slice_get o.daughters.now o.passed ≡ Some item → IsNext open_of o (derivation_of item)
next_is o item at = slice_get-map derivation_of o.daughters.now o.passed ∙ ap (option_map derivation_of) at

pub item_next : (o : Opened) (item : Tree) → o.passed < length o.daughters.now → item ≡ get_or o.daughters.now o.passed item → IsNext open_of o (derivation_of item)
item_next o item low at = next_is o item (slice_get-get_or o.daughters.now o.passed item low ∙ ap Some (sym at))

-- so many steps from nowhere
pub within_new : (empty place : List ℕ) (depth : ℕ) → empty ≡ [] → place ≡ empty ++ replicate depth 1 → place ≡ replicate depth 1
within_new empty place depth none is = is ∙ ap (λ l. l ++ replicate depth 1) none

one_leaf : {P : Derivation → Type 0} {entry : ℕ} {rules : List ℕ} {said : List Word} {nodes : Option (ℕ × ℕ)} → LeavesAre P (lexical entry rules said nodes) → P (lexical entry rules said nodes)
one_leaf (leaf_is x) = x

-- a lexical tree
module _ (entry : ℕ) (rules : Arc (Vec ℕ Global) Global) (words : Arc (Vec (String Global) Global) Global) (nodes : Option (ℕ × ℕ)) (item : Tree) (is : item ≡ Lexical entry rules words nodes) where
  abbrev there : Derivation
  there = lexical entry (arc_value rules).items (map string_bytes (arc_value words).items) nodes

  item_is : derivation_of item ≡ there
  item_is = ap derivation_of is ∙ derivation_of-Lexical entry rules words nodes

  pub leaf_has : (P : Derivation → Type 0) → LeavesAre P (derivation_of item) → P there
  leaf_has P h = one_leaf {P = P} (subst (LeavesAre P) item_is h)

  module _ (w : Words) (read : List ℕ) (said : List (String Global)) (same : read ≡ (arc_value rules).items) (heard : said ≡ (arc_value words).items) where
    pub leaf_spelled : Spells w entry read (map string_bytes said) → AreSpelled w (derivation_of item)
    leaf_spelled s =
        let x : IsSpelled w there = subst (λ vs. Spells w entry (arc_value rules).items (map string_bytes vs)) heard (subst (λ rs. Spells w entry rs (map string_bytes said)) same s) in
        subst (AreSpelled w) (sym item_is) (leaf_is x)

    fails_there : (place : Place) (instance : ℕ) → FailsWithin w entry read (map string_bytes said) place instance → FailsWithin w entry (arc_value rules).items (map string_bytes (arc_value words).items) place instance
    fails_there place instance f =
        subst (λ vs. FailsWithin w entry (arc_value rules).items (map string_bytes vs) place instance) heard (subst (λ rs. FailsWithin w entry rs (map string_bytes said) place instance) same f)

    pub spelled_follows : (o : Opened) → IsNext open_of o (derivation_of item) → Spells w entry read (map string_bytes said) → Follows w o Spelled
    spelled_follows o next s = (derivation_of item, next, leaf_spelled s)

    pub fault_follows : (o : Opened) (fault : LeafFault) → IsNext open_of o (derivation_of item) → FailsWithin w entry read (map string_bytes said) (replicate fault.depth 1) fault.instance → Follows w o (Fault fault)
    fault_follows o fault next f = record {
      entry = entry;
      rules = (arc_value rules).items;
      said = map string_bytes (arc_value words).items;
      nodes = nodes;
      next = subst (IsNext open_of o) item_is next;
      fails = fails_there (replicate fault.depth 1) fault.instance f;
    }

    -- a whole tree that is one
    pub leaf_misspelled : (place : Place) (depth instance : ℕ) → place ≡ replicate depth 1 → FailsWithin w entry read (map string_bytes said) (replicate depth 1) instance → IsFirstMisspelled w (derivation_of item) place instance
    leaf_misspelled place depth instance is f = subst (λ t. IsFirstMisspelled w t place instance) (sym item_is) (record {
      entry = entry;
      rules = (arc_value rules).items;
      said = map string_bytes (arc_value words).items;
      nodes = nodes;
      top = [];
      leaf = leaf_here;
      before = λ q other at c. no_leaf w at c;
      inner = replicate depth 1;
      fails = fails_there (replicate depth 1) instance f;
      place_is = is;
    })

-- a daughter that is a lexical tree
pub leaf_at : (P : Derivation → Type 0) (o : Opened) (entry : ℕ) (rules : Arc (Vec ℕ Global) Global) (words : Arc (Vec (String Global) Global) Global) (nodes : Option (ℕ × ℕ)) (item : Tree) → item ≡ Lexical entry rules words nodes →
    IsNext open_of o (derivation_of item) → LeavesAre P (tree_of open_of o) → P (lexical entry (arc_value rules).items (map string_bytes (arc_value words).items) nodes)
leaf_at P o entry rules words nodes item is next h = leaf_has entry rules words nodes item is P (next_leaves P o (derivation_of item) next h)

-- a phrase
module _ (rule words : ℕ) (daughters : Arc (Vec Tree Global) Global) (item : Tree) (read : List Tree) (is : item ≡ Phrase rule words daughters) (same : read ≡ (arc_value daughters).items) where
  pub phrase_is : derivation_of item ≡ phrase rule (in_order (map derivation_of read))
  phrase_is = ap derivation_of is ∙ derivation_of-Phrase rule words daughters ∙ ap (λ ts. phrase rule (in_order (map derivation_of ts))) (sym same)

  pub down_follows : (w : Words) (o new : Opened) → IsNext open_of o (derivation_of item) → new.rule ≡ rule → new.daughters.now ≡ read → new.passed ≡ 0 → Follows w o (Down new)
  down_follows w o new next r d none =
      let here : tree_of open_of new ≡ phrase rule (in_order (map derivation_of read)) = ap (λ x. phrase x (in_order (daughters_in new))) r ∙ ap (λ ts. phrase rule (in_order (map derivation_of ts))) d in
      (subst (IsNext open_of o) (phrase_is ∙ sym here) next, none)
