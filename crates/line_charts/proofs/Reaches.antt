-- What lexical trees reach, and what they cover.
use Rattle.std.proofs.Common.{ℕ, zero, suc, ◌≡◌, ◌<◌, ◌≤◌, ◌+◌, ◌⊎◌, inl, inr, Bool, true, false, ◌==◌, if◌then◌else◌, Option, Some, None, List, [], ◌∷◌, ◌++◌, length, map, take, drop, get_or, refl, sym, ◌∙◌, ap, subst, arith, length-append}
use Rattle.std.proofs.lemmas.Bool.Decides.{Decides-eqb}
use Rattle.std.specs.List.{filter_map, cons_option}
use Rattle.lexicon.specs.Words.{Word, Has}
use Rattle.chart_model.specs.At.{At}
use Rattle.derivation.specs.Trees.{Derivation, lexical, phrase}
use Rattle.tree_model.specs.Signs.{Signs}
use Rattle.tree_model.specs.Lexical.{Words}
use Rattle.tree_model.specs.Lattices as parse
use Rattle.tree_model.specs.Licensed.{IsLeaf}
use Rattle.morph_analysis.specs.Lattices.{StepTree, LatticeTree, Carries, stays, goes, HaveSame, IsValid}
use Rattle.morph_analysis.proofs.Lists.{Each-at}
use Rattle.morph_analysis.proofs.StepLemmas.{carries_same}
use Rattle.lexical_items.specs.Listed.{Lexeme, AreLexemes}
use Rattle.lexical_items.specs.Seen.{step_seen, lattice_seen}
use Rattle.lexical_items.proofs.Lists.{has_at, at_has, at_map, at_unmap}
use Rattle.lexical_items.proofs.Spelled.{carried, uncarried}
use Rattle.line_charts.specs.Unknown.{Covers, IsKnown, AreUnknown, unknown_none, unknown_passed, unknown_here}
use Rattle.line_charts.specs.Inner.Reaches.{ReachTree, with_count, reach_in, reaches_in, IsStep, IsWithin, IsTold, AreOutside, outside_none, outside_passed, outside_here, GoForward}

-- ---- lists

split_at : (xs : List Word) (k : ℕ) (x : Word) → k < length xs → get_or xs k [] ≡ x → xs ≡ take k xs ++ x ∷ drop (k + 1) xs
split_at [] k x lt e = absurd (omega arith)
split_at (y ∷ ys) zero x lt e = ap (λ z. z ∷ ys) e
split_at (y ∷ ys) (suc k) x lt e =
    ap (λ zs. y ∷ zs) (split_at ys k x (omega arith) e)
    ∙ ap (λ n. y ∷ (take k ys ++ x ∷ drop n (y ∷ ys))) (let n : suc (k + 1) ≡ suc k + 1 = omega arith in n)

at_split : (front : List Word) (w : Word) (back : List Word) → get_or (front ++ w ∷ back) (length front) [] ≡ w
at_split [] w back = refl
at_split (x ∷ front) w back = at_split front w back

take_split : (front back : List Word) → take (length front) (front ++ back) ≡ front
take_split [] back = refl
take_split (x ∷ front) back = ap (λ zs. x ∷ zs) (take_split front back)

drop_split : (front : List Word) (w : Word) (back : List Word) → drop (length front + 1) (front ++ w ∷ back) ≡ back
drop_split [] w back = refl
drop_split (x ∷ front) w back =
    ap (λ n. drop n (x ∷ (front ++ w ∷ back))) (let n : suc (length front) + 1 ≡ suc (length front + 1) = omega arith in n) ∙ drop_split front w back

-- only one word stands there
alone : (front : List Word) (w : Word) (back : List Word) → length (front ++ w ∷ back) ≡ 1 → (front ≡ []) × (back ≡ [])
alone [] w [] e = (refl, refl)
alone [] w (x ∷ back) e = absurd (omega (arith, e))
alone (x ∷ front) w back e = absurd (omega (arith, e, length-append front (w ∷ back)))

has_cons : {B : Type 0} (o : Option B) (y : B) (ys : List B) → Has y (cons_option o ys) → (o ≡ Some y) ⊎ Has y ys
has_cons None y ys h = inr h
has_cons (Some z) y ys (inl e) = inl (ap Some (sym e))
has_cons (Some z) y ys (inr h) = inr h

cons_first : {B : Type 0} (o : Option B) (y : B) (ys : List B) → o ≡ Some y → Has y (cons_option o ys)
cons_first o y ys e = subst (λ p. Has y (cons_option p ys)) (sym e) (inl refl)

cons_later : {B : Type 0} (o : Option B) (y : B) (ys : List B) → Has y ys → Has y (cons_option o ys)
cons_later None y ys h = h
cons_later (Some z) y ys h = inr h

has_filter_map : {A B : Type 0} (f : A → Option B) (y : B) (xs : List A) → Has y (filter_map f xs) → (x : A) × Has x xs × (f x ≡ Some y)
has_filter_map f y [] h = absurd h
has_filter_map f y (x ∷ xs) h =
    elim (has_cons (f x) y (filter_map f xs) h) [
      | inl e ↦ (x, inl refl, e)
      | inr k ↦ (let r = has_filter_map f y xs k in (r.0, inr r.1, r.2))
    ]

filter_map_has : {A B : Type 0} (f : A → Option B) (y : B) (x : A) (xs : List A) → Has x xs → f x ≡ Some y → Has y (filter_map f xs)
filter_map_has f y x [] h e = absurd h
filter_map_has f y x (z ∷ xs) (inl q) e = cons_first (f z) y (filter_map f xs) (subst (λ v. f v ≡ Some y) q e)
filter_map_has f y x (z ∷ xs) (inr h) e = cons_later (f z) y (filter_map f xs) (filter_map_has f y x xs h e)

-- ---- what a tree reaches

kept_is : {A : Type 0} (b : Bool) (x y : A) → (if b then Some x else None) ≡ Some y → x ≡ y
kept_is true x y e = cc
kept_is false x y e = cc

left_is : {A : Type 0} (b : Bool) (x y : A) → (if b then None else Some x) ≡ Some y → x ≡ y
left_is true x y e = cc
left_is false x y e = cc

counted_is : (single : Bool) (q r : ReachTree) → with_count single q ≡ Some r → q ≡ r
counted_is true q r e = kept_is (length q.words == 1) q r e
counted_is false q r e = left_is (length q.words == 1) q r e

reached : (single : Bool) (d : Derivation) (r : ReachTree) → reach_in single d ≡ Some r →
    (entry : ℕ) × (rules : List ℕ) × (d ≡ lexical entry rules r.words (Some (r.from, r.to)))
reached single (lexical entry rules words (Some n)) r e =
    let q : ReachTree = record { from = n.0; to = n.1; words = words } in
    (entry, rules, ap (λ (t : ReachTree). lexical entry rules t.words (Some (t.from, t.to))) (counted_is single q r e))
reached single (lexical entry rules words None) r e = absurd (cc)
reached single (phrase rule ds) r e = absurd (cc)

reaches_one : (r : ReachTree) → length r.words ≡ 1 → with_count true r ≡ Some r
reaches_one r e = let yes = (Decides-eqb (length r.words) 1).1 e in rw yes refl

reaches_other : (r : ReachTree) → (length r.words == 1) ≡ false → with_count false r ≡ Some r
reaches_other r other = rw other refl

-- ---- what a step is to a tree

nothing : {lattice : parse.Lattice} {a b : ℕ} → parse.Carries lattice a [] b → a ≡ b
nothing parse.carries_none = refl

step_covers : (l : LatticeTree) (entry : ℕ) (rules : List ℕ) (r : ReachTree) (s : StepTree) → IsStep r s →
    Covers (lattice_seen l) (lexical entry rules r.words (Some (r.from, r.to))) (step_seen s)
step_covers l entry rules r s p = record {
  entry = entry;
  rules = rules;
  front = [];
  back = [];
  from = s.from;
  to = s.to;
  is = λ i. lexical entry rules (p.word i) (Some (p.from i, p.to i));
  before = parse.carries_none;
  after = parse.carries_none;
}

within_covers : (l : LatticeTree) (arr : List StepTree) → HaveSame arr l.steps → (entry : ℕ) (rules : List ℕ) (r : ReachTree) (s : StepTree) → IsWithin arr r s →
    Covers (lattice_seen l) (lexical entry rules r.words (Some (r.from, r.to))) (step_seen s)
within_covers l arr same entry rules r s (k, p) = record {
  entry = entry;
  rules = rules;
  front = take k r.words;
  back = drop (k + 1) r.words;
  from = r.from;
  to = r.to;
  is = ap (λ ws. lexical entry rules ws (Some (r.from, r.to))) (split_at r.words k s.word p.below p.word);
  before = carried l (carries_same arr l.steps r.from (take k r.words) s.from same.there p.before);
  after = carried l (carries_same arr l.steps s.to (drop (k + 1) r.words) r.to same.there p.after);
}

covers_within : (l : LatticeTree) (arr : List StepTree) → HaveSame arr l.steps → (from to : ℕ) (front back : List Word) (s : StepTree) →
    parse.Carries (lattice_seen l) from front s.from → parse.Carries (lattice_seen l) s.to back to →
    IsWithin arr (record { from = from; to = to; words = front ++ s.word ∷ back }) s
covers_within l arr same from to front back s before after = (
  length front,
  record {
    below = omega (arith, length-append front (s.word ∷ back));
    word = at_split front s.word back;
    before = subst (λ ws. Carries arr from ws s.from) (sym (take_split front (s.word ∷ back))) (carries_same l.steps arr from front s.from same.back (uncarried l before));
    after = subst (λ ws. Carries arr s.to ws to) (sym (drop_split front s.word back)) (carries_same l.steps arr s.to back to same.back (uncarried l after));
  },
)

covers_step : (l : LatticeTree) (from to : ℕ) (front back : List Word) (s : StepTree) → length (front ++ s.word ∷ back) ≡ 1 →
    parse.Carries (lattice_seen l) from front s.from → parse.Carries (lattice_seen l) s.to back to →
    IsStep (record { from = from; to = to; words = front ++ s.word ∷ back }) s
covers_step l from to front back s one before after =
    let none = alone front s.word back one in
    record {
      from = nothing (subst (λ ws. parse.Carries (lattice_seen l) from ws s.from) none.0 before);
      to = sym (nothing (subst (λ ws. parse.Carries (lattice_seen l) s.to ws to) none.1 after));
      word = λ i. none.0 i ++ s.word ∷ none.1 i;
    }

-- ---- all trees

-- the trees of lexemes
trees_at : {X : Type 0} (see : X → Lexeme) (ts : List X) (d : Derivation) → Has d (map (λ t. (see t).tree) ts) → (n : ℕ) × (x : Lexeme) × At (map see ts) n x × (x.tree ≡ d)
trees_at see ts d h =
    let a = has_at d (map (λ t. (see t).tree) ts) h in
    let b = at_unmap (λ t. (see t).tree) ts a.0 d a.1 in
    (a.0, see b.0, at_map see b.1, b.2)

at_trees : {X : Type 0} (see : X → Lexeme) (ts : List X) (n : ℕ) (x : Lexeme) → At (map see ts) n x → Has x.tree (map (λ t. (see t).tree) ts)
at_trees see ts n x a =
    let b = at_unmap see ts n x a in
    subst (λ (y : Lexeme). Has y.tree (map (λ t. (see t).tree) ts)) b.2 (at_has (at_map (λ t. (see t).tree) b.1))

module _ (g : Signs) (words : Words) (l : LatticeTree) (most : ℕ) (arr : List StepTree) (same : HaveSame arr l.steps) {X : Type 0} (see : X → Lexeme) (ts : List X) (are : AreLexemes g words (lattice_seen l) most (map see ts)) (ones longs : List ReachTree) where
  -- a tree of these that covers a step
  known_by : (single : Bool) (r : ReachTree) (s : StepTree) → Has r (reaches_in single (map (λ t. (see t).tree) ts)) →
      ((entry : ℕ) (rules : List ℕ) → Covers (lattice_seen l) (lexical entry rules r.words (Some (r.from, r.to))) (step_seen s)) → IsKnown g words (lattice_seen l) most (step_seen s)
  known_by single r s h covers =
      let found = has_filter_map (reach_in single) r (map (λ t. (see t).tree) ts) h in
      let is = reached single found.0 r found.2 in
      let at = trees_at see ts found.0 found.1 in
      (found.0, subst (IsLeaf g words (lattice_seen l) most) at.3 (are.each at.0 at.1 at.2).leaf, subst (λ d. Covers (lattice_seen l) d (step_seen s)) (sym is.2) (covers is.0 is.1))

  module _ (ones_are : (r : ReachTree) → Has r ones → Has r (reaches_in true (map (λ t. (see t).tree) ts))) (longs_are : (r : ReachTree) → Has r longs → Has r (reaches_in false (map (λ t. (see t).tree) ts))) where
    pub told_known : (s : StepTree) → IsTold arr ones longs s → IsKnown g words (lattice_seen l) most (step_seen s)
    told_known s (inl (r, h, p)) = known_by true r s (ones_are r h) (λ entry rules. step_covers l entry rules r s p)
    told_known s (inr (r, h, p)) = known_by false r s (longs_are r h) (λ entry rules. within_covers l arr same entry rules r s p)

  module _ (are_ones : (r : ReachTree) → Has r (reaches_in true (map (λ t. (see t).tree) ts)) → Has r ones) (are_longs : (r : ReachTree) → Has r (reaches_in false (map (λ t. (see t).tree) ts)) → Has r longs) where
    told_by : (s : StepTree) (d : Derivation) (from to : ℕ) (front back : List Word) (entry : ℕ) (rules : List ℕ) → Has d (map (λ t. (see t).tree) ts) → d ≡ lexical entry rules (front ++ s.word ∷ back) (Some (from, to)) →
        parse.Carries (lattice_seen l) from front s.from → parse.Carries (lattice_seen l) s.to back to → (b : Bool) → (length (front ++ s.word ∷ back) == 1) ≡ b → IsTold arr ones longs s
    told_by s d from to front back entry rules h is before after true e =
        let r : ReachTree = record { from = from; to = to; words = front ++ s.word ∷ back } in
        let one = (Decides-eqb (length (front ++ s.word ∷ back)) 1).0 e in
        inl (r, are_ones r (filter_map_has (reach_in true) r d (map (λ t. (see t).tree) ts) h (ap (reach_in true) is ∙ reaches_one r one)), covers_step l from to front back s one before after)
    told_by s d from to front back entry rules h is before after false e =
        let r : ReachTree = record { from = from; to = to; words = front ++ s.word ∷ back } in
        inr (r, are_longs r (filter_map_has (reach_in false) r d (map (λ t. (see t).tree) ts) h (ap (reach_in false) is ∙ reaches_other r e)), covers_within l arr same from to front back s before after)

    pub known_told : (s : StepTree) → IsKnown g words (lattice_seen l) most (step_seen s) → IsTold arr ones longs s
    known_told s (d, leaf, c) =
        let found = are.all d leaf in
        let h : Has d (map (λ t. (see t).tree) ts) = subst (λ t. Has t (map (λ t. (see t).tree) ts)) found.3 (at_trees see ts found.0 found.1 found.2) in
        told_by s d c.from c.to c.front c.back c.entry c.rules h c.is c.before c.after (length (c.front ++ s.word ∷ c.back) == 1) refl

-- ---- lists of steps

pub outside_unknown : (g : Signs) (words : Words) (lattice : parse.Lattice) (most : ℕ) (P : StepTree → Type 0) → ((s : StepTree) → P s → IsKnown g words lattice most (step_seen s)) → ((s : StepTree) → IsKnown g words lattice most (step_seen s) → P s) →
    {ss us : List StepTree} → AreOutside P ss us → AreUnknown g words lattice most (map step_seen ss) (map step_seen us)
outside_unknown g words lattice most P to back outside_none = unknown_none
outside_unknown g words lattice most P to back (outside_passed s p more) = unknown_passed (step_seen s) (to s p) (outside_unknown g words lattice most P to back more)
outside_unknown g words lattice most P to back (outside_here s never more) = unknown_here (step_seen s) (λ k. never (back s k)) (outside_unknown g words lattice most P to back more)

pub map_twice : {A B C : Type 0} (f : B → C) (h : A → B) (xs : List A) → map f (map h xs) ≡ map (λ x. f (h x)) xs
map_twice f h [] = refl
map_twice f h (x ∷ xs) = ap (λ zs. f (h x) ∷ zs) (map_twice f h xs)

-- ---- nodes

carries_forward : (steps : List StepTree) (a b : ℕ) (ws : List Word) → GoForward steps → Carries steps a ws b → a ≤ b
carries_forward steps a b _ ahead (stays n) = omega arith
carries_forward steps a b _ ahead (goes s ws to h more) = let lt = ahead s h in let le = carries_forward steps s.to to ws ahead more in omega (arith, lt, le)

pub within_nodes : (steps : List StepTree) (r : ReachTree) (s : StepTree) → GoForward steps → IsWithin steps r s → (r.from ≤ s.from) × (s.to ≤ r.to)
within_nodes steps r s ahead (k, p) =
    (carries_forward steps r.from s.from (take k r.words) ahead p.before, carries_forward steps s.to r.to (drop (k + 1) r.words) ahead p.after)

pub valid_forward : (l : LatticeTree) (arr : List StepTree) → HaveSame arr l.steps → IsValid l → GoForward arr
valid_forward l arr same valid s h = (Each-at (λ x. (x.from < x.to) × (x.to ≤ l.end)) s l.steps valid (same.there s h)).0
