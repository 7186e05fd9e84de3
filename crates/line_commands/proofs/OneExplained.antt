-- What is told of a line is one.
use Rattle.std.proofs.Common.{ℕ, ◌≡◌, ◌∷◌, [], List, Bool, true, false, sym, ◌∙◌, ap, subst}
use Rattle.std.specs.Prelude.{take}
use Rattle.std.specs.Str.{IsUtf8, IsValidUpTo}
use Rattle.std.proofs.lemmas.Str.{utf8_valid_len-IsValidUpTo}
use Rattle.fs_model.specs.Claims.{IsOrder}
use Rattle.type_hierarchy.specs.Table.{TypeTable}
use Rattle.derivation.specs.Trees.{Derivation}
use Rattle.tree_model.specs.Signs.{Signs}
use Rattle.tree_model.specs.Lexical.{Words}
use Rattle.tree_reading.specs.Grammars.{TreeGrammar, IsNamedWell, IsNamedApart}
use Rattle.tree_reading.specs.Texts.{IsTreeOf, IsFirstFault, Writes}
use Rattle.tree_faults.specs.Explained.{Licensed, Clashes, GoesTooFar, Misspelled, Unrooted, IsExplained}
use Rattle.tree_faults.specs.Laws.{ExplainedAreOne}
use Rattle.tree_faults.specs.Lines.{LineExplained, NoTree, Tree, IsNoTree, in_text, in_front, after_tree, IsLineExplained, no_tree, a_tree, line_text, is_refused}
use Rattle.tree_names.specs.TreeGrammars.{tree_grammar}
use Rattle.mrs_lines.specs.Laws.{MrsLinesAreOne}
use Rattle.engine.specs.Speeches.{Speech}
use Rattle.line_commands.specs.Explaining.{IsFollowedBy, IsExplainLine}

-- the laws of the texts of trees
abbrev pub OneTree : Type 0
OneTree = (g : TreeGrammar) (line : List ℕ) (a b : Derivation) → IsNamedWell g → IsNamedApart g → IsTreeOf g line a → IsTreeOf g line b → a ≡ b

abbrev pub TreeOrFault : Type 0
TreeOrFault = (g : TreeGrammar) (line : List ℕ) (tree : Derivation) (at : ℕ) → Writes g line tree → IsFirstFault g line at → ⊥

abbrev pub OneTreeFault : Type 0
OneTreeFault = (g : TreeGrammar) (line : List ℕ) (at other : ℕ) → IsFirstFault g line at → IsFirstFault g line other → at ≡ other

-- the longest front that is UTF-8 is one
one-front : (line : List ℕ) (n m : ℕ) → IsValidUpTo line n → IsValidUpTo line m → n ≡ m
one-front line n m p q = sym (utf8_valid_len-IsValidUpTo line n p) ∙ utf8_valid_len-IsValidUpTo line m q

module _ (trees : OneTree) (apart : TreeOrFault) (faults : OneTreeFault) (names : TreeGrammar) (line : List ℕ) where
  fronts-apart : (n m at : ℕ) (tree : Derivation) → IsValidUpTo line n → IsValidUpTo line m → IsFirstFault names (take n line) at → Writes names (take m line) tree → ⊥
  fronts-apart n m at tree p q f w = apart names (take m line) tree at w (subst (λ k. IsFirstFault names (take k line) at) (one-front line n m p q) f)

  one-fault : (a b : ℕ) → IsNoTree names line a → IsNoTree names line b → a ≡ b
  one-fault _ _ (in_text a u f) (in_text b v g) = faults names line a b f g
  one-fault _ _ (in_text a u f) (in_front n b odd v g) = absurd (odd u)
  one-fault _ _ (in_text a u f) (after_tree n tree odd v w) = absurd (odd u)
  one-fault _ _ (in_front n a odd v f) (in_text b u g) = absurd (odd u)
  one-fault _ _ (in_front n a odd v f) (in_front m b so w g) = faults names (take m line) a b (subst (λ k. IsFirstFault names (take k line) a) (one-front line n m v w) f) g
  one-fault _ _ (in_front n a odd v f) (after_tree m tree so w g) = absurd (fronts-apart n m a tree v w f g)
  one-fault _ _ (after_tree n tree odd v w) (in_text b u g) = absurd (odd u)
  one-fault _ _ (after_tree n tree odd v w) (in_front m b so x g) = absurd (fronts-apart m n b tree x v g w)
  one-fault _ _ (after_tree n tree odd v w) (after_tree m other so x y) = one-front line n m v x

  no-fault : (at : ℕ) (tree : Derivation) → IsNoTree names line at → IsUtf8 line → IsTreeOf names line tree → ⊥
  no-fault _ tree (in_text at u f) v t = apart names line tree at t.0 f
  no-fault _ tree (in_front n at odd v f) u t = odd u
  no-fault _ tree (after_tree n other odd v w) u t = odd u

  module _ (g : Signs) (words : Words) (order : IsOrder g.system) (explanations : ExplainedAreOne) (well : IsNamedWell names) (differ : IsNamedApart names) where
    one-told : (a b : LineExplained) → IsLineExplained g words names line a → IsLineExplained g words names line b → a ≡ b
    one-told _ _ (no_tree a f) (no_tree b h) = ap NoTree (one-fault a b f h)
    one-told _ _ (no_tree a f) (a_tree t e u is x) = absurd (no-fault a t f u is)
    one-told _ _ (a_tree t e u is x) (no_tree b f) = absurd (no-fault b t f u is)
    one-told _ _ (a_tree t e u is x) (a_tree s d v so y) =
        let same = trees names line t s well differ is so in
        let told = explanations g words s order e d (subst (λ z. IsExplained g words z e) same x) y in
        λ k. Tree (same k) (told k)

module _ (mrss : MrsLinesAreOne) (s : Speech) (order : IsOrder s.signs.system) where
  -- what follows is one
  one-followed : (mrs : Bool) (x : LineExplained) (own other : List (List ℕ)) → IsFollowedBy mrs s x own → IsFollowedBy mrs s x other → own ≡ other
  one-followed false x own other p q = p ∙ sym q
  one-followed true (NoTree at) own other p q = p ∙ sym q
  one-followed true (Tree t Licensed) own other p q = p.2 ∙ ap (λ l. l ∷ []) (mrss s.signs order s.semantics t p.0 q.0 p.1 q.1) ∙ sym q.2
  one-followed true (Tree t (Clashes place instance path a b)) own other p q = p ∙ sym q
  one-followed true (Tree t (GoesTooFar place instance path)) own other p q = p ∙ sym q
  one-followed true (Tree t (Misspelled place instance)) own other p q = p ∙ sym q
  one-followed true (Tree t Unrooted) own other p q = p ∙ sym q

  -- and so is the answer to a line
  pub one-explained : OneTree → TreeOrFault → OneTreeFault → ExplainedAreOne → IsNamedWell (tree_grammar s.signs s.names) → IsNamedApart (tree_grammar s.signs s.names)
      → (types : TypeTable) (feats : List (List ℕ)) (mrs : Bool) (number : ℕ) (line : List ℕ) (own other : List (List ℕ)) (b c : Bool)
      → IsExplainLine types feats s mrs number line own b → IsExplainLine types feats s mrs number line other c → (own ≡ other) × (b ≡ c)
  one-explained trees apart faults explanations well differ types feats mrs number line own other b c x y =
      let same : x.explained ≡ y.explained = one-told trees apart faults (tree_grammar s.signs s.names) line s.signs s.words order explanations well differ x.explained y.explained x.is y.is in
      let rest : x.rest ≡ y.rest = one-followed mrs y.explained x.rest y.rest (subst (λ z. IsFollowedBy mrs s z x.rest) same x.followed) y.followed in
      (x.lines_are ∙ (λ k. line_text types feats s.names number (same k) ∷ rest k) ∙ sym y.lines_are, x.refused_is ∙ ap is_refused same ∙ sym y.refused_is)
