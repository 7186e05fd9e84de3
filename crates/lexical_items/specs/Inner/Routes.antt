-- Entries under lexical rules, by number, with the words to which they lead an entry's last one.
use Rattle.std.specs.Prelude.{ℕ, ◌≡◌, ◌<◌, ◌⊎◌, List, [], ◌∷◌, ◌++◌, Option, Some, None, length, map, string_bytes}
use Rattle.std.specs.Arc.{arc_value}
use Rattle.lexicon.specs.Words.{Word, Has, Rises}
use Rattle.lexicon.specs.Entries.{EntryTree}
use Rattle.spelling_rules.specs.Trees.{SpellingTree}
use Rattle.derivation.specs.Trees.{lexical}
use Rattle.tree_model.specs.Structures.{Structure}
use Rattle.tree_model.specs.Signs.{Signs}
use Rattle.tree_model.specs.Lexical.{FullLexical}
use Rattle.morph_analysis.specs.Chains.{Leads, Spells}
use Rattle.lexical_items.specs.Places.{place_in}
use Rattle.lexical_items.specs.Inflected.{WordTree}
pub use Rattle.lexical_items.specs.Forms.{OfWords, AreFormsOf}
use Rattle.lexical_items.specs.Inner.Keyed.{AreOf}
use Rattle.lexical_items.specs.declared.route.Route.{Route}

pub record RouteTree : Type 0 where
  pub entry : ℕ
  pub rules : List ℕ
  pub ends : List Word
  pub full : Structure

abbrev pub route_seen : {T : Type 0} → (T → Structure) → Route T → RouteTree
route_seen value r = record { entry = r.entry; rules = r.rules.items; ends = map string_bytes r.ends.items; full = value (arc_value r.full) }

abbrev pub listed : {A : Type 0} → Option A → List A
listed None = []
listed (Some x) = x ∷ []

-- by which entry and rules a route is known
pub record Key : Type 0 where
  pub entry : ℕ
  pub rules : List ℕ

abbrev pub key_of : RouteTree → Key
key_of r = record { entry = r.entry; rules = r.rules }

-- with one rule more
abbrev pub above : RouteTree → ℕ → Key
above r rule = record { entry = r.entry; rules = r.rules ++ rule ∷ [] }

-- by which a tree is known
pub record TreeKey : Type 0 where
  pub key : Key
  pub end : Word

-- words came to a rising list
pub record Puts (P : Word → Type 0) (old new : List Word) : Type 0 where
  pub rises : Rises old → Rises new
  pub kept : (x : Word) → Has x old → Has x new
  pub added : (x : Word) → P x → Has x new
  pub only : (x : Word) → Has x new → Has x old ⊎ P x

module _ (lexicon : List EntryTree) (s : SpellingTree) where
  -- rules lead the last word of an entry to this word
  pub record Ends (k : Key) (end : Word) : Type 0 where
    pub front : List Word
    pub stem : Word
    pub is_entry : Has (record { number = k.entry; words = front ++ stem ∷ [] }) lexicon
    pub leads : Leads s k.rules stem end

  module _ (g : Signs) (entries rules : List ℕ) where
    -- an entry under rules that has a full structure and a word
    pub record IsChain (k : Key) : Type 0 where
      pub entry_in : k.entry < length entries
      pub structure : Structure
      pub full : FullLexical g (place_in entries k.entry) (map (place_in rules) k.rules) structure
      pub end : Word
      pub ends : Ends k end

    pub record IsRoute (k : Key) (r : RouteTree) : Type 0 where
      pub entry_is : r.entry ≡ k.entry
      pub rules_is : r.rules ≡ k.rules
      pub entry_in : k.entry < length entries
      pub full : FullLexical g (place_in entries k.entry) (map (place_in rules) k.rules) r.full
      pub rises : Rises r.ends
      pub some : 0 < length r.ends
      pub have : (w : Word) → Has w r.ends → Ends k w
      pub all : (w : Word) → Ends k w → Has w r.ends

    -- an entry under no rules
    pub record IsFirst (below : ℕ) (k : Key) : Type 0 where
      pub chain : IsChain k
      pub under : k.entry < below
      pub none : k.rules ≡ []

    -- a route with one rule more, of the first ones
    pub record IsAbove (r : RouteTree) (below : ℕ) (k : Key) : Type 0 where
      pub chain : IsChain k
      pub rule : ℕ
      pub under : rule < below
      pub is : k ≡ above r rule

    abbrev pub IsOver : List RouteTree → ℕ → Key → Type 0
    IsOver rs below k = (r : RouteTree) × Has r rs × IsAbove r below k

    -- under exactly so many rules; under fewer
    pub record IsDeep (depth : ℕ) (k : Key) : Type 0 where
      pub chain : IsChain k
      pub deep : length k.rules ≡ depth

    pub record IsBelow (depth : ℕ) (k : Key) : Type 0 where
      pub chain : IsChain k
      pub low : length k.rules < depth

    abbrev pub AreRoutes : (Key → Type 0) → List RouteTree → Type 0
    AreRoutes D rs = AreOf IsRoute D rs

    -- the tree of an entry under rules, with one of the words to which they lead
    pub record IsTree (k : TreeKey) (x : WordTree) : Type 0 where
      pub entry_in : k.key.entry < length entries
      pub said : List Word
      pub spells : Spells lexicon s k.key.entry k.key.rules said
      pub front : List Word
      pub last : said ≡ front ++ k.end ∷ []
      pub is : x.tree ≡ lexical (place_in entries k.key.entry) (map (place_in rules) k.key.rules) said None
      pub full : FullLexical g (place_in entries k.key.entry) (map (place_in rules) k.key.rules) x.full

    -- of one of the first words of a route
    pub record IsOfRoute (r : RouteTree) (ends : List Word) (k : TreeKey) : Type 0 where
      pub key_is : k.key ≡ key_of r
      pub end_in : Has k.end ends

    abbrev pub IsOfRoutes : List RouteTree → TreeKey → Type 0
    IsOfRoutes rs k = (r : RouteTree) × Has r rs × IsOfRoute r r.ends k
