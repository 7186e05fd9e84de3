-- A graph whose rows lack the arcs that a cut cuts off is what the cut keeps.
use Rattle.std.specs.Prelude.{ℕ, ◌≡◌, ◌≢◌, ◌<◌, ◌&&◌, not, if◌then◌else◌, Bool, true, false, Option, Some, None, [], ◌∷◌}
use Rattle.std.specs.List.{list_all}
use Rattle.std.proofs.Common.{refl, sym, ◌∙◌, ap, arith}
use Rattle.fs_model.specs.Claims.{Path}
use Rattle.fs_model.specs.Table.{walk}
use Rattle.fs_graph.specs.GraphMap.{GraphMap, table_of, reader_of, type_at}
use Rattle.tree_model.specs.Cuts.{Cut, has_feature, is_kept}
use Rattle.tree_model.specs.Views.{IsKeptOf}

abbrev pub is_clear : Cut → ℕ → Bool
is_clear cut f = not (has_feature cut.anywhere f)

-- the same nodes and types, without the arcs that the cut cuts off
pub record IsBared (cut : Cut) (g plan : GraphMap) : Type 0 where
  pub types : (n : ℕ) → type_at plan n ≡ type_at g n
  pub root : (f : ℕ) → (table_of plan).arc 0 f ≡ (if is_kept cut (f ∷ []) then (table_of g).arc 0 f else None)
  pub others : (n f : ℕ) → n ≢ 0 → (table_of plan).arc n f ≡ (if is_clear cut f then (table_of g).arc n f else None)

either_none : (b : Bool) (o : Option ℕ) → o ≡ None → None ≡ (if b then o else None)
either_none true o e = sym e
either_none false o e = refl

module _ (cut : Cut) (g plan : GraphMap) (bared : IsBared cut g plan) (height : ℕ → ℕ) (falls : (n f m : ℕ) → (table_of g).arc n f ≡ Some m → height m < height n) where
  below_root : (n : ℕ) → height n < height 0 → n ≢ 0
  below_root n h e = let z = ap height e in absurd (omega (arith, h, z))

  walk_below : (p : Path) (n : ℕ) → height n < height 0 → walk (table_of plan) n p ≡ (if list_all (is_clear cut) p then walk (table_of g) n p else None)
  walk_below [] n h = refl
  walk_below (f ∷ p) n h = by_clear (is_clear cut f) refl ((table_of g).arc n f) refl (λ m e. walk_below p m (let z = falls n f m e in omega (arith, z, h)))
    where
      by_clear : (b : Bool) → is_clear cut f ≡ b → (o : Option ℕ) → (table_of g).arc n f ≡ o → ((m : ℕ) → (table_of g).arc n f ≡ Some m → walk (table_of plan) m p ≡ (if list_all (is_clear cut) p then walk (table_of g) m p else None)) →
          walk (table_of plan) n (f ∷ p) ≡ (if list_all (is_clear cut) (f ∷ p) then walk (table_of g) n (f ∷ p) else None)
      by_clear false q o e go =
          let a : (table_of plan).arc n f ≡ None = bared.others n f (below_root n h) ∙ rw q refl in
          let l : walk (table_of plan) n (f ∷ p) ≡ None = rw (walk, a) refl in
          let r : list_all (is_clear cut) (f ∷ p) ≡ false = rw q refl in
          l ∙ rw r refl
      by_clear true q None e go =
          let a : (table_of plan).arc n f ≡ None = bared.others n f (below_root n h) ∙ rw (q, e) refl in
          let l : walk (table_of plan) n (f ∷ p) ≡ None = rw (walk, a) refl in
          let k : walk (table_of g) n (f ∷ p) ≡ None = rw (walk, e) refl in
          l ∙ either_none (list_all (is_clear cut) (f ∷ p)) (walk (table_of g) n (f ∷ p)) k
      by_clear true q (Some m) e go =
          let a : (table_of plan).arc n f ≡ Some m = bared.others n f (below_root n h) ∙ rw (q, e) refl in
          let l : walk (table_of plan) n (f ∷ p) ≡ walk (table_of plan) m p = rw (walk, a) refl in
          let k : walk (table_of g) n (f ∷ p) ≡ walk (table_of g) m p = rw (walk, e) refl in
          let r : list_all (is_clear cut) (f ∷ p) ≡ list_all (is_clear cut) p = rw q refl in
          l ∙ go m e ∙ rw (k, r) refl

  -- the first arc leads below the root, and what it begins with is kept where its feature and the rest are
  kept_more : (f : ℕ) (p : Path) → is_kept cut (f ∷ p) ≡ (is_kept cut (f ∷ []) && list_all (is_clear cut) p)
  kept_more f p = by_parts (not (has_feature cut.at_root f)) (is_clear cut f) (list_all (is_clear cut) p)
    where
      by_parts : (a b c : Bool) → (a && (b && c)) ≡ ((a && (b && true)) && c)
      by_parts true true c = refl
      by_parts true false c = refl
      by_parts false b c = refl

  walk_root : (p : Path) → walk (table_of plan) 0 p ≡ (if is_kept cut p then walk (table_of g) 0 p else None)
  walk_root [] = refl
  walk_root (f ∷ p) = by_kept (is_kept cut (f ∷ [])) refl ((table_of g).arc 0 f) refl
    where
      by_kept : (b : Bool) → is_kept cut (f ∷ []) ≡ b → (o : Option ℕ) → (table_of g).arc 0 f ≡ o →
          walk (table_of plan) 0 (f ∷ p) ≡ (if is_kept cut (f ∷ p) then walk (table_of g) 0 (f ∷ p) else None)
      by_kept false q o e =
          let a : (table_of plan).arc 0 f ≡ None = bared.root f ∙ rw q refl in
          let l : walk (table_of plan) 0 (f ∷ p) ≡ None = rw (walk, a) refl in
          let r : is_kept cut (f ∷ p) ≡ false = kept_more f p ∙ rw q refl in
          l ∙ rw r refl
      by_kept true q None e =
          let a : (table_of plan).arc 0 f ≡ None = bared.root f ∙ rw (q, e) refl in
          let l : walk (table_of plan) 0 (f ∷ p) ≡ None = rw (walk, a) refl in
          let k : walk (table_of g) 0 (f ∷ p) ≡ None = rw (walk, e) refl in
          l ∙ either_none (is_kept cut (f ∷ p)) (walk (table_of g) 0 (f ∷ p)) k
      by_kept true q (Some m) e =
          let a : (table_of plan).arc 0 f ≡ Some m = bared.root f ∙ rw (q, e) refl in
          let l : walk (table_of plan) 0 (f ∷ p) ≡ walk (table_of plan) m p = rw (walk, a) refl in
          let k : walk (table_of g) 0 (f ∷ p) ≡ walk (table_of g) m p = rw (walk, e) refl in
          let r : is_kept cut (f ∷ p) ≡ list_all (is_clear cut) p = kept_more f p ∙ rw q refl in
          l ∙ walk_below p m (falls 0 f m e) ∙ rw (k, r) refl

  -- read by paths, the bared graph is what the cut keeps
  pub bared_kept : IsKeptOf cut (reader_of g) (reader_of plan)
  bared_kept = record {
    there = λ p n h. (n, walk_root p ∙ h);
    there_back = λ p n h. (n, sym (walk_root p) ∙ h);
    equal = λ p q n m h k l. let z : n ≡ m = (let y = sym h ∙ (sym (walk_root p) ∙ l) in cc) in walk_root q ∙ k ∙ ap Some z;
    equal_back = λ p q n m h k l. let z : n ≡ m = (let y = sym h ∙ (walk_root p ∙ l) in cc) in sym (walk_root q) ∙ k ∙ ap Some z;
    types = λ p n m h k. let z : n ≡ m = (let y = sym h ∙ (sym (walk_root p) ∙ k) in cc) in ap (type_at g) z ∙ sym (bared.types m);
  }
