-- Trees that are picked one after another.
use Rattle.std.specs.Prelude.{ℕ, ◌≡◌, ◌<◌, ◌+◌, Bool, List, [], ◌∷◌, ◌++◌, map, length, drop}
use Rattle.std.proofs.Common.{get_or, sym, ◌∙◌, ap, subst, append_assoc, arith, suc}
use Rattle.std.proofs.Math.Seq.{drop-cons}
use Rattle.std.proofs.lemmas.List.{map-append}
use Rattle.generate_model.specs.Bags.{BagTree}
use Rattle.generated_leaves.specs.Told.{ToldWord}
use Rattle.generated_leaves.specs.Leaves.{WordLeaf}
use Rattle.generated_leaves.specs.Inner.Picking.{leaf_at, fit_at, kept, picked, is_deep, some_deep}
use Rattle.generated_leaves.specs.declared.leaves.Fit.{Fit}
use Rattle.generated_leaves.specs.declared.leaves.Fit.TheVariants.{Not, Deep, Leaf}

drop_at : {T : Type 0} (xs : List T) (i : ℕ) (x : T) → i < length xs → x ≡ get_or xs i x → drop i xs ≡ x ∷ drop (i + 1) xs
drop_at xs i x lt e =
    let s : suc i ≡ i + 1 = omega arith in
    drop-cons xs i x lt ∙ ap (λ y. y ∷ drop (suc i) xs) (sym e) ∙ ap (λ k. x ∷ drop k xs) s

module _ (b : BagTree) (most empty : ℕ) where
  left_of : {T : Type 0} (seen : T → ToldWord) (told : List T) (i : ℕ) (one : T) (f : Fit) (acc all : List WordLeaf) → i < length told → one ≡ get_or told i one → fit_at b most empty (seen one) ≡ f →
      acc ++ picked b most empty (map seen (drop i told)) ≡ all → acc ++ kept b most empty f (seen one) (picked b most empty (map seen (drop (i + 1) told))) ≡ all
  left_of seen told i one f acc all lt e is inv =
      let s : acc ++ picked b most empty (map seen (one ∷ drop (i + 1) told)) ≡ all = subst (λ l. acc ++ picked b most empty (map seen l) ≡ all) (drop_at told i one lt e) inv in
      subst (λ k. acc ++ kept b most empty k (seen one) (picked b most empty (map seen (drop (i + 1) told))) ≡ all) is s

  pub pick_not : {T : Type 0} (seen : T → ToldWord) (told : List T) (i : ℕ) (one : T) (acc all : List WordLeaf) → i < length told → one ≡ get_or told i one → fit_at b most empty (seen one) ≡ Not →
      acc ++ picked b most empty (map seen (drop i told)) ≡ all → acc ++ picked b most empty (map seen (drop (i + 1) told)) ≡ all
  pick_not seen told i one acc all lt e is inv = left_of seen told i one Not acc all lt e is inv

  pub pick_leaf : {T U : Type 0} (seen : T → ToldWord) (shown : U → WordLeaf) (told : List T) (i : ℕ) (one : T) (out next : List U) (leaf : U) (all : List WordLeaf) → i < length told → one ≡ get_or told i one →
      fit_at b most empty (seen one) ≡ Leaf → next ≡ out ++ leaf ∷ [] → shown leaf ≡ leaf_at b (seen one) →
      map shown out ++ picked b most empty (map seen (drop i told)) ≡ all → map shown next ++ picked b most empty (map seen (drop (i + 1) told)) ≡ all
  pick_leaf seen shown told i one out next leaf all lt e is more same inv =
      let rest = picked b most empty (map seen (drop (i + 1) told)) in
      let s : map shown out ++ leaf_at b (seen one) ∷ rest ≡ all = left_of seen told i one Leaf (map shown out) all lt e is inv in
      ap (λ l. map shown l ++ rest) more ∙ ap (λ l. l ++ rest) (map-append shown out (leaf ∷ [])) ∙ append_assoc (map shown out) (shown leaf ∷ []) rest ∙ ap (λ l. map shown out ++ l ∷ rest) same ∙ s

  pub flat_on : {T : Type 0} (seen : T → ToldWord) (told : List T) (i : ℕ) (one : T) (f : Fit) (all : Bool) → i < length told → one ≡ get_or told i one → fit_at b most empty (seen one) ≡ f → (is_deep f ≡ is_deep Not) →
      some_deep b most empty (map seen (drop i told)) ≡ all → some_deep b most empty (map seen (drop (i + 1) told)) ≡ all
  flat_on seen told i one Not all lt e is flat inv =
      let s : some_deep b most empty (map seen (one ∷ drop (i + 1) told)) ≡ all = subst (λ l. some_deep b most empty (map seen l) ≡ all) (drop_at told i one lt e) inv in
      rw is at s
  flat_on seen told i one Deep all lt e is flat inv = absurd (cc)
  flat_on seen told i one Leaf all lt e is flat inv =
      let s : some_deep b most empty (map seen (one ∷ drop (i + 1) told)) ≡ all = subst (λ l. some_deep b most empty (map seen l) ≡ all) (drop_at told i one lt e) inv in
      rw is at s
