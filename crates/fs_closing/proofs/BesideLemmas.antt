-- What nodes have from the graphs that they come from.
use Rattle.std.proofs.Common.{ℕ, suc, ◌≡◌, ◌≢◌, ◌≤◌, ◌<◌, ◌+◌, ◌-◌, ◌==◌, ◌⊎◌, inl, inr, Bool, true, false, cond, nat_le, nat_lt, Option, Some, None, List, [], ◌∷◌, ◌++◌, length, map, find, slice_index_or, refl, sym, ◌∙◌, ap, subst, arith, eq-eqb}
use Rattle.std.specs.Option.{option_map, option_or}
use Rattle.std.proofs.lemmas.Bool.{ne_eqb, leb-true, ltb-true, and_parts, and_from, le-leb, lt-ltb}
use Rattle.std.proofs.lemmas.List.{get_or-map, length-map}
use Rattle.std.proofs.lemmas.List.Folds.{find-append}
use Rattle.fs_model.specs.Claims.{Has, here, there}
use Rattle.fs_graph.specs.declared.graph.GraphArc.{GraphArc}
use Rattle.fs_graph.specs.GraphMap.{arcs_at, arc_to, Rises}
use Rattle.fs_closing.specs.declared.cells.Cell.{Cell}
use Rattle.fs_closing.specs.declared.parts.Based.{Based}
use Rattle.fs_closing.specs.Cells.{find_arc, AreOnce}
use Rattle.fs_closing.specs.Beside.{cells_from, holds, home, row_from, row_in, ArePlaced}

-- what is found passes the test, and is an element
pub find_passes : {X : Type 0} (test : X → Bool) (xs : List X) (x : X) → find test xs ≡ Some x → (test x ≡ true) × Has x xs
find_passes test [] x e = absurd (let d : None ≡ Some x = e in cc)
find_passes test (y ∷ ys) x e = go (test y) refl e (find_passes test ys x)
  where
    go : (b : Bool) → test y ≡ b → cond (test y) (Some y) (find test ys) ≡ Some x → (find test ys ≡ Some x → (test x ≡ true) × Has x ys) →
        (test x ≡ true) × Has x (y ∷ ys)
    go true is e' rest =
        let d : Some y ≡ Some x = ap (λ b. cond b (Some y) (find test ys)) (sym is) ∙ e' in
        let q : y ≡ x = cc in
        (ap test (sym q) ∙ is, subst (λ z. Has z (y ∷ ys)) q here)
    go false is e' rest =
        let r = rest (ap (λ b. cond b (Some y) (find test ys)) (sym is) ∙ e') in (r.0, there r.1)

pub holds_parts : (n : ℕ) (p : Based) → holds n p ≡ true → (p.base ≤ n) × (n - p.base < length p.graph.now.types)
holds_parts n p e =
    let both = and_parts (nat_le p.base n) (nat_lt (n - p.base) (length p.graph.now.types)) e in
    (leb-true p.base n both.0, ltb-true (n - p.base) (length p.graph.now.types) both.1)

-- the graph of a node has it
pub home_holds : (n : ℕ) (parts : List Based) (p : Based) → home n parts ≡ Some p →
    (p.base ≤ n) × (n - p.base < length p.graph.now.types) × Has p parts
home_holds n parts p e =
    let f = find_passes (holds n) parts p e in let h = holds_parts n p f.0 in (h.0, h.1, f.1)

-- no graph has a node beyond all
pub home_none : (parts : List Based) (size : ℕ) → ArePlaced parts size → (n : ℕ) → size ≤ n → home n parts ≡ None
home_none parts size placed n h = go (home n parts) refl
  where
    go : (o : Option Based) → home n parts ≡ o → home n parts ≡ None
    go None e = e
    go (Some p) e =
        let x = home_holds n parts p e in let y = placed p x.2 in absurd (omega (arith, x.0, x.1, y.1, h))

-- a graph whose nodes come after all others
module _ (parts : List Based) (size : ℕ) (placed : ArePlaced parts size) (p : Based) (base_is : p.base ≡ size) where
  home_more : (n : ℕ) → home n (parts ++ p ∷ []) ≡ option_or (home n parts) (cond (holds n p) (Some p) None)
  home_more n = find-append (holds n) parts (p ∷ [])

  pub home_old : (n : ℕ) → n < size → home n (parts ++ p ∷ []) ≡ home n parts
  home_old n h = home_more n ∙ go (home n parts) (holds n p) refl
    where
      go : (o : Option Based) (b : Bool) → holds n p ≡ b → option_or o (cond (holds n p) (Some p) None) ≡ o
      go (Some q) b e = refl
      go None true e = let x = holds_parts n p e in absurd (omega (arith, x.0, base_is, h))
      go None false e = ap (λ b. cond b (Some p) None) e

  pub home_new : (n : ℕ) → size ≤ n → n - size < length p.graph.now.types → home n (parts ++ p ∷ []) ≡ Some p
  home_new n low high =
      let none = home_none parts size placed n low in
      let from : p.base ≤ n = omega (arith, base_is) in
      let end : n - p.base < length p.graph.now.types = omega (arith, base_is, high) in
      let is : holds n p ≡ true = and_from _ _ (le-leb p.base n from) (lt-ltb (n - p.base) (length p.graph.now.types) end) in
      home_more n ∙ ap (λ o. option_or o (cond (holds n p) (Some p) None)) none ∙ ap (λ b. cond b (Some p) None) is

  pub home_past : (n : ℕ) → size ≤ n → length p.graph.now.types ≤ n - size → home n (parts ++ p ∷ []) ≡ None
  home_past n low high =
      home_more n ∙ ap (λ o. option_or o (cond (holds n p) (Some p) None)) (home_none parts size placed n low) ∙ go (holds n p) refl
    where
      go : (b : Bool) → holds n p ≡ b → cond (holds n p) (Some p) None ≡ None
      go true e = let x = holds_parts n p e in absurd (omega (arith, x.1, base_is, high))
      go false e = ap (λ b. cond b (Some p) None) e

-- the arcs of a node, as code reads them
pub row_home : (parts : List Based) (n : ℕ) (p : Based) (arcs : List GraphArc) → home n parts ≡ Some p → arcs ≡ arcs_at p.graph.now (n - p.base) →
    cells_from p.base arcs ≡ row_in parts n
row_home parts n p arcs is e = ap (cells_from p.base) e ∙ sym (ap (row_from n) is)

pub row_none : (parts : List Based) (n : ℕ) → home n parts ≡ None → row_in parts n ≡ []
row_none parts n is = ap (row_from n) is

-- a look-up in a row
pub find_from : (base : ℕ) (arcs : List GraphArc) (f : ℕ) → find_arc (cells_from base arcs) f ≡ option_map (λ m. base + m) (arc_to arcs f)
find_from base [] f = refl
find_from base (a ∷ arcs) f = go (a.feat.0 == f) refl (find_from base arcs f)
  where
    go : (b : Bool) → (a.feat.0 == f) ≡ b → find_arc (cells_from base arcs) f ≡ option_map (λ m. base + m) (arc_to arcs f) →
        find_arc (cells_from base (a ∷ arcs)) f ≡ option_map (λ m. base + m) (arc_to (a ∷ arcs) f)
    go true is rest =
        ap (λ b. option_map (λ (x : Cell). x.to) (cond b (Some (record { feat = a.feat.0; to = base + a.to.0; next = 0 })) (find (λ x. x.feat == f) (cells_from base arcs)))) is
        ∙ sym (ap (λ b. option_map (λ m. base + m) (option_map (λ (x : GraphArc). x.to.0) (cond b (Some a) (find (λ x. x.feat.0 == f) arcs)))) is)
    go false is rest =
        ap (λ b. option_map (λ (x : Cell). x.to) (cond b (Some (record { feat = a.feat.0; to = base + a.to.0; next = 0 })) (find (λ x. x.feat == f) (cells_from base arcs)))) is
        ∙ rest
        ∙ sym (ap (λ b. option_map (λ m. base + m) (option_map (λ (x : GraphArc). x.to.0) (cond b (Some a) (find (λ x. x.feat.0 == f) arcs)))) is)

rises_rest : (x : GraphArc) (xs : List GraphArc) → Rises (x ∷ xs) → Rises xs
rises_rest x xs r i j a b = r (suc i) (suc j) (omega arith) (omega arith)

abbrev pub no_arc : GraphArc
no_arc = record { feat = record { 0 = 0 }; to = record { 0 = 0 } }

has_index : (a d : GraphArc) (xs : List GraphArc) → Has a xs → (k : ℕ) × (k < length xs) × (slice_index_or xs k d ≡ a)
has_index a d [] h = elim h [ ]
has_index a d (x ∷ xs) h = go (first a x xs h) (has_index a d xs)
  where
    first : (a x : GraphArc) (xs : List GraphArc) → Has a (x ∷ xs) → (a ≡ x) ⊎ Has a xs
    first a _ xs here = inl refl
    first a x xs (there i) = inr i

    go : (a ≡ x) ⊎ Has a xs → (Has a xs → (k : ℕ) × (k < length xs) × (slice_index_or xs k d ≡ a)) →
        (k : ℕ) × (k < length (x ∷ xs)) × (slice_index_or (x ∷ xs) k d ≡ a)
    go (inl e) rest = (0, omega arith, sym e)
    go (inr i) rest = let r = rest i in (suc r.0, omega (arith, r.1), r.2)

-- where arcs rise, each is the one that a look-up finds
pub rises_found : (arcs : List GraphArc) (a : GraphArc) → Rises arcs → Has a arcs → arc_to arcs a.feat.0 ≡ Some a.to.0
rises_found [] a r h = elim h [ ]
rises_found (x ∷ arcs) a r h = go (first a x arcs h) (λ i. rises_found arcs a (rises_rest x arcs r) i)
  where
    first : (a x : GraphArc) (xs : List GraphArc) → Has a (x ∷ xs) → (a ≡ x) ⊎ Has a xs
    first a _ xs here = inl refl
    first a x xs (there i) = inr i

    go : (a ≡ x) ⊎ Has a arcs → (Has a arcs → arc_to arcs a.feat.0 ≡ Some a.to.0) → arc_to (x ∷ arcs) a.feat.0 ≡ Some a.to.0
    go (inl e) rest =
        ap (λ b. option_map (λ y. y.to.0) (cond b (Some x) (find (λ y. y.feat.0 == a.feat.0) arcs))) (eq-eqb x.feat.0 a.feat.0 (ap (λ y. y.feat.0) (sym e)))
        ∙ ap (λ y. Some y.to.0) (sym e)
    go (inr i) rest =
        let k = has_index a no_arc arcs i in
        let less = r 0 (suc k.0) (omega arith) (omega (arith, k.1)) in
        let at = get_or-map (λ (a : GraphArc). a.feat.0) arcs k.0 no_arc 0 k.1 in
        let apart : x.feat.0 ≢ a.feat.0 = λ e. omega (arith, less, at, ap (λ y. y.feat.0) k.2, e) in
        ap (λ b. option_map (λ y. y.to.0) (cond b (Some x) (find (λ y. y.feat.0 == a.feat.0) arcs))) (ne_eqb x.feat.0 a.feat.0 apart) ∙ rest i

-- no feature of a row comes before its first one
none_below : (arcs : List GraphArc) (f : ℕ) → ((k : ℕ) → k < length arcs → f < slice_index_or (map (λ a. a.feat.0) arcs) k 0) → arc_to arcs f ≡ None
none_below [] f h = refl
none_below (a ∷ arcs) f h =
    let low = h 0 (omega arith) in
    ap (λ b. option_map (λ (x : GraphArc). x.to.0) (cond b (Some a) (find (λ x. x.feat.0 == f) arcs))) (ne_eqb a.feat.0 f (λ e. omega arith))
    ∙ none_below arcs f (λ k i. h (suc k) (omega arith))

pub once_from : (base : ℕ) (arcs : List GraphArc) → Rises arcs → AreOnce (cells_from base arcs)
once_from base [] r = tt
once_from base (a ∷ arcs) r = (
  find_from base arcs a.feat.0 ∙ ap (option_map (λ m. base + m)) (none_below arcs a.feat.0 (λ k h. r 0 (suc k) (omega arith) (omega arith))),
  once_from base arcs (rises_rest a arcs r),
)

-- the cell at a place of a row
pub row_size : (base : ℕ) (arcs : List GraphArc) (row : List Cell) → cells_from base arcs ≡ row → length arcs ≡ length row
row_size base arcs row is = sym (length-map arcs (λ (a : GraphArc). record { feat = a.feat.0; to = base + a.to.0; next = 0 })) ∙ ap length is

pub cell_at : (base : ℕ) (arcs : List GraphArc) (row : List Cell) (i : ℕ) (d : Cell) (a : GraphArc) → cells_from base arcs ≡ row → i < length row →
    slice_index_or row i d ≡ record { feat = (slice_index_or arcs i a).feat.0; to = base + (slice_index_or arcs i a).to.0; next = 0 }
cell_at base arcs row i d a is h =
    ap (λ l. slice_index_or l i d) (sym is)
    ∙ get_or-map (λ (x : GraphArc). record { feat = x.feat.0; to = base + x.to.0; next = 0 }) arcs i a d (omega (arith, row_size base arcs row is))
