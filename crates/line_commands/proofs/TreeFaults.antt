-- Why a line writes no tree.
use Rattle.std.proofs.Common.{ℕ, ◌≡◌, List, ◌⊎◌, inl, inr, Result, Ok, Err, sym, subst}
use Rattle.std.specs.Prelude.{take, IfErr}
use Rattle.std.specs.Str.{IsUtf8, IsValidUpTo}
use Rattle.tree_reading.specs.Grammars.{TreeGrammar}
use Rattle.derivation.specs.Trees.{Derivation}
use Rattle.tree_reading.specs.Texts.{Writes, IsTreeOf, IsFirstFault}
use Rattle.tree_reading.specs.declared.TreeFault.{TreeFault}
use Rattle.tree_reading.specs.declared.TreeFault.TheVariants as why
use Rattle.tree_faults.specs.Lines.{IsNoTree, in_text, in_front, after_tree}
use Rattle.line_commands.specs.Inner.Trees.{IsFaultOf}

-- what the reader of trees tells of a text
abbrev ReadFault : TreeGrammar → List ℕ → TreeFault → Type 0
ReadFault names text e = (e ≡ why.NoMemory) ⊎ ((at : ℕ) × (e ≡ why.At at) × IsFirstFault names text at)

module _ (names : TreeGrammar) (line : List ℕ) where
  pub fault-in-text : IsUtf8 line → (e : TreeFault) → ReadFault names line e → IsFaultOf names line e
  fault-in-text u e (inl n) = subst (IsFaultOf names line) (sym n) tt
  fault-in-text u e (inr f) = subst (IsFaultOf names line) (sym f.1) (in_text f.0 u f.2)

  pub text-faults : {T : Type 0} (r : Result T TreeFault) (text : List ℕ) → text ≡ line → IsUtf8 line → IfErr r (ReadFault names text) → IfErr r (IsFaultOf names line)
  text-faults (Ok t) text is u h = tt
  text-faults (Err e) text is u h = fault-in-text u e (subst (λ s. ReadFault names s e) is h)

  pub fault-in-front : (IsUtf8 line → ⊥) → (n : ℕ) → IsValidUpTo line n → (front : List ℕ) → front ≡ take n line → (e : TreeFault) → ReadFault names front e → IsFaultOf names line e
  fault-in-front odd n valid front is e (inl f) = subst (IsFaultOf names line) (sym f) tt
  fault-in-front odd n valid front is e (inr f) = subst (IsFaultOf names line) (sym f.1) (in_front n f.0 odd valid (subst (λ t. IsFirstFault names t f.0) is f.2))

  -- the front writes a tree, and the line goes on
  pub end-of-front : (IsUtf8 line → ⊥) → (n : ℕ) → IsValidUpTo line n → (front : List ℕ) → front ≡ take n line → (tree : Derivation) → IsTreeOf names front tree → IsNoTree names line n
  end-of-front odd n valid front is tree h = after_tree n tree odd valid (subst (λ t. Writes names t tree) is h.0)
