-- Trees that realize an MRS.
use Rattle.std.specs.Prelude.{ℕ, ◌≡◌, ◌≤◌, ◌+◌, true, Option, Some, None, List, [], ◌++◌, slice_get}
use Rattle.generate_model.specs.Bags.{SameBag, LiesIn, empties, distinct, counted, bound_of}
use Rattle.derivation.specs.Trees.{Derivation, Daughters, lexical, phrase, no_more, first}
use Rattle.chart_model.specs.declared.counts.Counts.{Counts}
use Rattle.chart_model.specs.Sums.{counts_join, counts_size}
use Rattle.chart_model.specs.Lists.{all_within}
use Rattle.tree_model.specs.Structures.{Structure}
use Rattle.tree_model.specs.Signs.{Signs, Instance, a_phrase_rule}
use Rattle.tree_model.specs.Lexical.{Word, Words, Spells, FullLexical, rule_count}
use Rattle.tree_model.specs.Trees.{Full, LeavesAre, IsRooted}
use Rattle.tree_model.specs.Items.{Item}
use Rattle.generate_model.specs.Covers.{counts_all, same_counts, IsCount}

-- What is asked for: the input's predicates, whether the MRS of a structure is the input's up to renamed variables, and what
-- predicates stand in a structure, and at a rule of its own, by its place.
pub record Asked : Type 1 where
  pub bag : List Word
  pub means : Structure → Type 0
  pub says : Structure → List Word → Type 0
  pub gives : ℕ → List Word → Type 0

-- a lexical tree, with the words that it spells
pub record IsLexicalTree (g : Signs) (words : Words) (t : Derivation) : Type 0 where
  pub entry : ℕ
  pub rules : List ℕ
  pub said : List Word
  pub is : t ≡ lexical entry rules said None
  pub spells : Spells words entry rules said
  pub structure : Structure
  pub full : FullLexical g entry rules structure

abbrev pub IsLeaf : Signs → Words → ℕ → Derivation → Type 0
IsLeaf g words most t = IsLexicalTree g words t × (rule_count t ≤ most)

mutual
  -- the leaves and phrase rules of the tree together contribute these predicates, and so many of its leaves contribute none
  pub data Contributes (g : Signs) (asked : Asked) : Derivation → List Word → ℕ → Type 0 where
    leaf_contributes : {entry : ℕ} {rules : List ℕ} {words : List Word} {nodes : Option (ℕ × ℕ)} {f : Structure} (ws : List Word) → Full g (lexical entry rules words nodes) f → asked.says f ws →
        Contributes g asked (lexical entry rules words nodes) ws (empties ws)
    rule_contributes : {rule : ℕ} {ds : Daughters} {n : ℕ} (ws vs : List Word) → asked.gives rule ws → AllContribute g asked ds vs n → Contributes g asked (phrase rule ds) (ws ++ vs) n

  pub data AllContribute (g : Signs) (asked : Asked) : Daughters → List Word → ℕ → Type 0 where
    none_contribute : AllContribute g asked no_more [] 0
    more_contribute : {d : Derivation} {ds : Daughters} {m n : ℕ} (ws vs : List Word) → Contributes g asked d ws m → AllContribute g asked ds vs n → AllContribute g asked (first d ds) (ws ++ vs) (m + n)

-- the tree realizes what is asked for, with lexical trees of at most so many rules and at most so many empty words
pub record IsRealization (g : Signs) (words : Words) (asked : Asked) (most_rules most_empty : ℕ) (t : Derivation) : Type 0 where
  pub leaves : LeavesAre (IsLeaf g words most_rules) t
  pub structure : Structure
  pub full : Full g t structure
  pub rooted : IsRooted g structure
  pub means : asked.means structure
  pub contributed : List Word
  pub empty : ℕ
  pub contributes : Contributes g asked t contributed empty
  pub whole : SameBag contributed asked.bag
  pub few : empty ≤ most_empty

-- The item that this is. The covers have a place for each predicate that is asked for, once.
module _ (g : Signs) (words : Words) (asked : Asked) (most_rules most_empty : ℕ) (own : ℕ → Option Counts) where
  abbrev pub bound : Counts
  bound = bound_of asked.bag most_empty

  -- what a lexical tree covers
  pub record IsCovering (t : Derivation) (c : Counts) : Type 0 where
    pub structure : Structure
    pub full : Full g t structure
    pub contributed : List Word
    pub says : asked.says structure contributed
    pub is : counted (distinct asked.bag) contributed (empties contributed) ≡ Some c

  -- the leaves: lexical trees whose cover is within the bound
  pub record IsGenLeaf (t : Derivation) : Type 0 where
    pub leaf : IsLeaf g words most_rules t
    pub cover : Counts
    pub covering : IsCovering t cover
    pub within : all_within cover.of bound.of ≡ true
    pub few : cover.empty ≤ bound.empty

  pub record IsGenAccepted (f : Structure) (c : Counts) : Type 0 where
    pub rooted : IsRooted g f
    pub means : asked.means f
    pub whole : c.of ≡ bound.of

  -- a lexical tree of one rule too many whose bag lies within the input's
  pub record IsGenTooDeep : Type 0 where
    pub tree : Derivation
    pub is : IsLexicalTree g words tree
    pub deep : rule_count tree ≡ most_rules + 1
    pub structure : Structure
    pub full : Full g tree structure
    pub contributed : List Word
    pub says : asked.says structure contributed
    pub lies : LiesIn contributed asked.bag

  abbrev pub gen_item : Item Counts
  gen_item =
      record {
        leaf = IsGenLeaf;
        of_leaf = IsCovering;
        covers = λ rule cs. counts_all bound (own rule) cs;
        same = same_counts;
        join = counts_join bound;
        size = counts_size;
        proper = IsCount bound;
        accepted = IsGenAccepted;
        too_deep = IsGenTooDeep;
      }

-- the predicates of structures and rules are told, one list each, and `own` counts those of rules
pub record IsTold (g : Signs) (asked : Asked) (own : ℕ → Option Counts) : Type 0 where
  pub one_says : (f : Structure) (ws vs : List Word) → asked.says f ws → asked.says f vs → ws ≡ vs
  pub one_gives : (rule : ℕ) (ws vs : List Word) → asked.gives rule ws → asked.gives rule vs → ws ≡ vs
  pub owns : (rule : ℕ) (i : Instance) → slice_get g.instances rule ≡ Some i → i.kind ≡ a_phrase_rule → (ws : List Word) × asked.gives rule ws × (own rule ≡ counted (distinct asked.bag) ws 0)
