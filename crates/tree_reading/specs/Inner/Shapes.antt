-- What the text of a tree shows of it: names, words and nodes.
use Rattle.std.specs.Prelude.{ℕ, suc, ◌≡◌, ◌⊎◌, ◌<◌, true, List, [], ◌∷◌, ◌++◌, Option, Some, slice_get}
use Rattle.derivation.specs.Trees.{Derivation, Daughters, lexical, phrase, no_more, first}
use Rattle.derivation.specs.Text.{name_of, words_text, nodes_text}
use Rattle.tree_reading.specs.declared.Part.TheVariants.{Entry, LexicalRule, PhraseRule}
use Rattle.tree_reading.specs.Grammars.{TreeGrammar, IsName, AreWords, AreNodes}

abbrev pub Begins : ℕ → List ℕ → Type 0
Begins x [] = ⊥
Begins x (y ∷ ys) = y ≡ x

mutual
  pub data Shape : Type 0 where
    leaf : (name : List ℕ) (words : List (List ℕ)) (nodes : Option (ℕ × ℕ)) → Shape
    node : (name : List ℕ) (below : Shapes) → Shape

  pub data Shapes : Type 0 where
    none : Shapes
    more : Shape → Shapes → Shapes

abbrev pub count : Shapes → ℕ
count none = 0
count (more s ss) = suc (count ss)

abbrev pub joined : Shapes → Shapes → Shapes
joined none ts = ts
joined (more s ss) ts = more s (joined ss ts)

abbrev pub round : List ℕ → List ℕ → List ℕ
round name within = (40 ∷ name) ++ within ++ 41 ∷ []

abbrev mutual
  pub text : Shape → List ℕ
  text (leaf name words nodes) = round name (words_text words ++ nodes_text true nodes)
  text (node name below) = round name (texts below)

  pub texts : Shapes → List ℕ
  texts none = []
  texts (more s ss) = (32 ∷ text s) ++ texts ss

abbrev pub wrapped : List (List ℕ) → List ℕ → Shape → Shape
wrapped names [] s = s
wrapped names (rule ∷ rules) s = wrapped names rules (node (name_of names rule) (more s none))

abbrev mutual
  pub shape : List (List ℕ) → Derivation → Shape
  shape names (lexical entry rules words nodes) = wrapped names rules (leaf (name_of names entry) words nodes)
  shape names (phrase rule daughters) = node (name_of names rule) (shapes names daughters)

  pub shapes : List (List ℕ) → Daughters → Shapes
  shapes names no_more = none
  shapes names (first d ds) = more (shape names d) (shapes names ds)

-- the shape of a lexical tree over the grammar
abbrev pub IsLexical : TreeGrammar → Shape → Type 0
IsLexical g (leaf name words nodes) = ((e : ℕ) × (slice_get g.parts e ≡ Some Entry) × (name_of g.names e ≡ name)) × AreWords words × AreNodes nodes
IsLexical g (node name none) = ⊥
IsLexical g (node name (more s none)) = ((r : ℕ) × (slice_get g.parts r ≡ Some LexicalRule) × (name_of g.names r ≡ name)) × IsLexical g s
IsLexical g (node name (more s (more t ss))) = ⊥

-- some phrase rule of this name and so many daughters
abbrev pub IsPhraseRule : TreeGrammar → List ℕ → ℕ → Type 0
IsPhraseRule g name n = (r : ℕ) × (slice_get g.parts r ≡ Some (PhraseRule n)) × (name_of g.names r ≡ name)

-- the shape of a tree over the grammar
abbrev mutual
  pub IsShape : TreeGrammar → Shape → Type 0
  IsShape g (leaf name words nodes) = IsLexical g (leaf name words nodes)
  IsShape g (node name below) = IsLexical g (node name below) ⊎ (IsPhraseRule g name (count below) × (0 < count below) × AreShapes g below)

  pub AreShapes : TreeGrammar → Shapes → Type 0
  AreShapes g none = Unit {0}
  AreShapes g (more s ss) = IsShape g s × AreShapes g ss

-- names, words and nodes as they must be for a text to be read
abbrev mutual
  pub IsPlain : Shape → Type 0
  IsPlain (leaf name words nodes) = IsName name × AreWords words × AreNodes nodes
  IsPlain (node name below) = IsName name × ArePlain below

  pub ArePlain : Shapes → Type 0
  ArePlain none = Unit {0}
  ArePlain (more s ss) = IsPlain s × ArePlain ss
