-- A text is that of one preferred tree.
use Rattle.std.proofs.Common.{◌≡◌, ℕ, true, List, [], ◌∷◌, ◌++◌, Option, Some, refl, sym, ap, subst, ◌∙◌, append_assoc, append-nil, arith}
use Rattle.std.specs.List.{slice_get, All}
use Rattle.std.proofs.lemmas.List.Elements.{All-head, All-tail}
use Rattle.derivation.specs.Trees.{Derivation, Daughters, lexical, phrase, no_more, first}
use Rattle.derivation.specs.Text.{name_of, text_of}
use Rattle.tree_reading.specs.declared.Part.TheVariants.{Entry, LexicalRule, PhraseRule}
use Rattle.tree_reading.specs.Grammars.{TreeGrammar, IsNamedWell, IsNamedApart, IsOver, AreOver, count_daughters}
use Rattle.tree_reading.specs.Texts.{IsTreeOf, IsPreferred, ArePreferred}
use Rattle.tree_reading.specs.Inner.Shapes.{Shape, leaf, node, none, more, text, shape, shapes, wrapped, IsLexical, Begins}
use Rattle.tree_reading.proofs.Decoding.{decode}
use Rattle.tree_reading.proofs.Framing.{shape_plain}
use Rattle.tree_reading.proofs.Overs.{text_is, over_shape, lexical_over}
use Rattle.tree_reading.proofs.Making.{lexical_only}
use Rattle.tree_reading.proofs.Firsts.{stripped, tree_opens}

-- one rule more
abbrev extended : Derivation → ℕ → Derivation
extended (lexical e rs ws ns) r = lexical e (rs ++ r ∷ []) ws ns
extended (phrase q ds) r = phrase q ds

-- the lexical trees of a shape
abbrev IsLexicalOf : TreeGrammar → Shape → Derivation → Type 0
IsLexicalOf g (leaf n ws ns) t = (e : ℕ) × (slice_get g.parts e ≡ Some Entry) × (name_of g.names e ≡ n) × (t ≡ lexical e [] ws ns)
IsLexicalOf g (node n none) t = ⊥
IsLexicalOf g (node n (more s none)) t = (r : ℕ) × (u : Derivation) × (slice_get g.parts r ≡ Some LexicalRule) × (name_of g.names r ≡ n) × IsLexicalOf g s u × (t ≡ extended u r)
IsLexicalOf g (node n (more s (more a b))) t = ⊥

one_lexical : (g : TreeGrammar) → IsNamedApart g → (s : Shape) (a b : Derivation) → IsLexicalOf g s a → IsLexicalOf g s b → a ≡ b
one_lexical g apart (leaf n ws ns) a b h k =
    let same = apart h.0 k.0 Entry Entry h.1 k.1 tt (h.2 ∙ sym k.2) in h.3 ∙ ap (λ e. lexical e [] ws ns) same ∙ sym k.3
one_lexical g apart (node n none) a b h k = absurd h
one_lexical g apart (node n (more s none)) a b h k =
    let same = apart h.0 k.0 LexicalRule LexicalRule h.2 k.2 tt (h.3 ∙ sym k.3) in
    let below = one_lexical g apart s h.1 k.1 h.4 k.4 in
    h.5 ∙ ap (λ r. extended h.1 r) same ∙ ap (λ u. extended u k.0) below ∙ sym k.5
one_lexical g apart (node n (more s (more c d))) a b h k = absurd h

wrapped_of : (g : TreeGrammar) (rules : List ℕ) (s : Shape) (e : ℕ) (rs : List ℕ) (ws : List (List ℕ)) (ns : Option (ℕ × ℕ)) → All (λ r. slice_get g.parts r ≡ Some LexicalRule) rules → IsLexicalOf g s (lexical e rs ws ns) →
    IsLexicalOf g (wrapped g.names rules s) (lexical e (rs ++ rules) ws ns)
wrapped_of g [] s e rs ws ns all h = subst (λ t. IsLexicalOf g s (lexical e t ws ns)) (sym (append-nil rs)) h
wrapped_of g (r ∷ rules) s e rs ws ns all h =
    let here : IsLexicalOf g (node (name_of g.names r) (more s none)) (lexical e (rs ++ r ∷ []) ws ns) = (r, lexical e rs ws ns, All-head (λ r. slice_get g.parts r ≡ Some LexicalRule) r rules all, refl, h, refl) in
    subst (λ t. IsLexicalOf g (wrapped g.names (r ∷ rules) s) (lexical e t ws ns)) (append_assoc rs (r ∷ []) rules)
    (wrapped_of g rules (node (name_of g.names r) (more s none)) e (rs ++ r ∷ []) ws ns (All-tail (λ r. slice_get g.parts r ≡ Some LexicalRule) r rules all) here)

lexical_of : (g : TreeGrammar) (e : ℕ) (rules : List ℕ) (ws : List (List ℕ)) (ns : Option (ℕ × ℕ)) → IsOver g (lexical e rules ws ns) → IsLexicalOf g (shape g.names (lexical e rules ws ns)) (lexical e rules ws ns)
lexical_of g e rules ws ns h = wrapped_of g rules (leaf (name_of g.names e) ws ns) e [] ws ns h.1 (e, h.0, refl, refl)

-- a phrase of a lexical tree's shape isn't preferred
no_phrase : (g : TreeGrammar) (e : ℕ) (rules : List ℕ) (ws : List (List ℕ)) (ns : Option (ℕ × ℕ)) (r : ℕ) (ds : Daughters) → IsOver g (lexical e rules ws ns) → IsPreferred g (phrase r ds) →
    shape g.names (lexical e rules ws ns) ≡ shape g.names (phrase r ds) → ⊥
no_phrase g e rules ws ns r ds over preferred same =
    let l = lexical_only g (phrase r ds) preferred (subst (IsLexical g) same (lexical_over g e rules ws ns over)) in
    let clash : phrase r ds ≡ lexical l.entry l.rules l.words l.nodes = l.is in cc

mutual
  pub one_tree : (g : TreeGrammar) → IsNamedApart g → (a b : Derivation) → IsOver g a → IsOver g b → IsPreferred g a → IsPreferred g b → shape g.names a ≡ shape g.names b → a ≡ b
  one_tree g apart (lexical e rules ws ns) (lexical f others vs ms) oa ob pa pb same =
      one_lexical g apart (shape g.names (lexical f others vs ms)) (lexical e rules ws ns) (lexical f others vs ms)
      (subst (λ s. IsLexicalOf g s (lexical e rules ws ns)) same (lexical_of g e rules ws ns oa)) (lexical_of g f others vs ms ob)
  one_tree g apart (lexical e rules ws ns) (phrase r ds) oa ob pa pb same = absurd (no_phrase g e rules ws ns r ds oa pb same)
  one_tree g apart (phrase r ds) (lexical e rules ws ns) oa ob pa pb same = absurd (no_phrase g e rules ws ns r ds ob pa (sym same))
  one_tree g apart (phrase r ds) (phrase q es) oa ob pa pb same =
      let names : name_of g.names r ≡ name_of g.names q = cc in
      let below : shapes g.names ds ≡ shapes g.names es = cc in
      let rule = apart r q (PhraseRule (count_daughters ds)) (PhraseRule (count_daughters es)) oa.0 ob.0 tt names in
      ap (λ k. phrase k ds) rule ∙ ap (λ k. phrase q k) (one_trees g apart ds es oa.2 ob.2 pa.1 pb.1 below)

  one_trees : (g : TreeGrammar) → IsNamedApart g → (a b : Daughters) → AreOver g a → AreOver g b → ArePreferred g a → ArePreferred g b → shapes g.names a ≡ shapes g.names b → a ≡ b
  one_trees g apart no_more no_more oa ob pa pb same = refl
  one_trees g apart no_more (first e es) oa ob pa pb same = cc
  one_trees g apart (first d ds) no_more oa ob pa pb same = cc
  one_trees g apart (first d ds) (first e es) oa ob pa pb same =
      let a : shape g.names d ≡ shape g.names e = cc in
      let b : shapes g.names ds ≡ shapes g.names es = cc in
      ap (λ k. first k ds) (one_tree g apart d e oa.0 ob.0 pa.0 pb.0 a) ∙ ap (λ k. first e k) (one_trees g apart ds es oa.1 ob.1 pa.1 pb.1 b)

opens_unblank : (bytes : List ℕ) → Begins 40 bytes → Begins 32 bytes → ⊥
opens_unblank [] a b = a
opens_unblank (x ∷ xs) a b = omega (arith, a, b)

pub one_tree_of : (g : TreeGrammar) (line : List ℕ) (a b : Derivation) → IsNamedWell g → IsNamedApart g → IsTreeOf g line a → IsTreeOf g line b → a ≡ b
one_tree_of g line a b well apart h k =
    let u = text_of g.names true a in
    let v = text_of g.names true b in
    let opens = tree_opens g.names a in
    let texts : u ≡ v = stripped h.0.blanks k.0.blanks u v h.0.blank k.0.blank (opens_unblank u opens) (tree_opens g.names b) (sym h.0.is ∙ k.0.is) in
    let row : text (shape g.names a) ++ [] ≡ text (shape g.names b) ++ [] = ap (λ t. t ++ []) (text_is g.names a ∙ texts ∙ sym (text_is g.names b)) in
    let same = decode (shape g.names a) (shape g.names b) [] [] (shape_plain g well (shape g.names a) (over_shape g a h.0.over)) (shape_plain g well (shape g.names b) (over_shape g b k.0.over)) row in
    one_tree g apart a b h.0.over k.0.over h.1 k.1 same.0
