-- The cells of a node.
use Rattle.std.proofs.Common.{ℕ, ◌≡◌, ◌≢◌, ◌≤◌, ◌<◌, ◌+◌, ◌-◌, ◌==◌, ◌⊎◌, inl, inr, Bool, true, false, cond, Some, None, List, [], ◌∷◌, ◌++◌, length, slice_index_or, find, reverse, refl, sym, ◌∙◌, ap, subst, arith, eq-eqb}
use Rattle.std.proofs.lemmas.Bool.{cases_lt, ne_eqb, eqb-true}
use Rattle.std.proofs.Math.ListN.{get_or-append}
use Rattle.std.proofs.Math.Seq.{get_or-append_seam}
use Rattle.std.proofs.lemmas.List.{reverse-append, reverse-reverse, length-reverse}
use Rattle.std.specs.Option.{option_map}
use Rattle.fs_model.specs.Claims.{Has, here, there}
use Rattle.fs_model.proofs.StepLemmas.{same_or_other}
use Rattle.fs_closing.specs.declared.cells.Cell.{Cell}
use Rattle.fs_closing.proofs.HasLemmas.{Has-of_reverse, Has-at}
use Rattle.fs_closing.specs.Cells.{chain_back, chain, find_arc, no_cell, PlacesFall, AreOnce}

back_here : (c : Cell) (r : List Cell) → chain_back (c ∷ r) (length r + 1) ≡ c ∷ chain_back r c.next
back_here c r =
    ap (λ b. elim b [ true ↦ c ∷ chain_back r c.next | false ↦ chain_back r (length r + 1) ]) (eq-eqb (length r + 1) (length r + 1) refl)

back_past : (c : Cell) (r : List Cell) (p : ℕ) → p ≤ length r → chain_back (c ∷ r) p ≡ chain_back r p
back_past c r p h = ap (λ b. elim b [ true ↦ c ∷ chain_back r c.next | false ↦ chain_back r p ]) (ne_eqb p (length r + 1) (λ e. omega arith))

snoc : (cells : List Cell) (c : Cell) → reverse (cells ++ c ∷ []) ≡ c ∷ reverse cells
snoc cells c = reverse-append cells (c ∷ [])

-- a cell at the end leaves the chains from earlier places as they were
pub chain-push_old : (cells : List Cell) (c : Cell) (p : ℕ) → p ≤ length cells → chain (cells ++ c ∷ []) p ≡ chain cells p
chain-push_old cells c p h = ap (λ r. chain_back r p) (snoc cells c) ∙ back_past c (reverse cells) p (omega (arith, length-reverse cells))

pub chain-push_new : (cells : List Cell) (c : Cell) (p : ℕ) → p ≡ length cells + 1 → chain (cells ++ c ∷ []) p ≡ c ∷ chain cells c.next
chain-push_new cells c p is =
    ap (λ r. chain_back r p) (snoc cells c)
    ∙ ap (chain_back (c ∷ reverse cells)) (let e : p ≡ length (reverse cells) + 1 = omega (arith, length-reverse cells) in e)
    ∙ back_here c (reverse cells)

back_none : (r : List Cell) → chain_back r 0 ≡ []
back_none [] = refl
back_none (c ∷ r) = back_past c r 0 (omega arith) ∙ back_none r

pub chain-none : (cells : List Cell) → chain cells 0 ≡ []
chain-none cells = back_none (reverse cells)

back_step : (r : List Cell) (k : ℕ) (x : Cell) → k < length r → x ≡ slice_index_or (reverse r) k no_cell → x.next ≤ k →
    chain_back r (k + 1) ≡ x ∷ chain_back r x.next
back_step [] k x h is low = absurd (omega arith)
back_step (c ∷ r) k x h is low = go (cases_lt k (length r)) (back_step r k x)
  where
    here_or : slice_index_or (reverse (c ∷ r)) k no_cell ≡ slice_index_or (reverse r ++ c ∷ []) k no_cell
    here_or = ap (λ l. slice_index_or l k no_cell) (reverse-append (c ∷ []) r)

    go : (k < length r) ⊎ (length r ≤ k) →
        (k < length r → x ≡ slice_index_or (reverse r) k no_cell → x.next ≤ k → chain_back r (k + 1) ≡ x ∷ chain_back r x.next) →
        chain_back (c ∷ r) (k + 1) ≡ x ∷ chain_back (c ∷ r) x.next
    go (inl a) rest =
        let old : slice_index_or (reverse (c ∷ r)) k no_cell ≡ slice_index_or (reverse r) k no_cell =
        here_or ∙ get_or-append (reverse r) (c ∷ []) no_cell k (omega (arith, length-reverse r)) in
        back_past c r (k + 1) (omega arith) ∙ rest a (is ∙ old) low ∙ ap (λ l. x ∷ l) (sym (back_past c r x.next (omega arith)))
    go (inr a) _ =
        let at_end : k ≡ length (reverse r) = omega (arith, length-reverse r) in
        let x_is : x ≡ c = is ∙ here_or ∙ ap (λ i. slice_index_or (reverse r ++ c ∷ []) i no_cell) at_end ∙ get_or-append_seam (reverse r) c [] no_cell in
        let place : k + 1 ≡ length r + 1 = omega arith in
        ap (chain_back (c ∷ r)) place ∙ back_here c r ∙ ap (λ y. y ∷ chain_back r y.next) (sym x_is)
        ∙ ap (λ l. x ∷ l) (sym (back_past c r x.next (omega arith)))

pub chain-step : (cells : List Cell) (k : ℕ) (x : Cell) → k < length cells → x ≡ slice_index_or cells k no_cell → x.next ≤ k →
    chain cells (k + 1) ≡ x ∷ chain cells x.next
chain-step cells k x h is low =
    back_step (reverse cells) k x (omega (arith, length-reverse cells))
    (is ∙ ap (λ l. slice_index_or l k no_cell) (sym (reverse-reverse cells))) low

-- a look-up goes one cell on
pub find_arc-here : (c : Cell) (cells : List Cell) (f : ℕ) → c.feat ≡ f → find_arc (c ∷ cells) f ≡ Some c.to
find_arc-here c cells f e = ap (λ b. option_map (λ x. x.to) (cond b (Some c) (find (λ x. x.feat == f) cells))) (eq-eqb c.feat f e)

pub find_arc-past : (c : Cell) (cells : List Cell) (f : ℕ) → c.feat ≢ f → find_arc (c ∷ cells) f ≡ find_arc cells f
find_arc-past c cells f e = ap (λ b. option_map (λ x. x.to) (cond b (Some c) (find (λ x. x.feat == f) cells))) (ne_eqb c.feat f e)

-- the two ways on in a look-up
pub look_here : (cells : List Cell) (place f : ℕ) (c : Cell) → place ≢ 0 → place ≤ length cells → PlacesFall cells →
    c ≡ slice_index_or cells (place - 1) no_cell → c.feat ≡ f → find_arc (chain cells place) f ≡ Some c.to
look_here cells place f c some within falls is e =
    let low : c.next ≤ place - 1 = subst (λ y. y.next ≤ place - 1) (sym is) (falls (place - 1) (omega arith)) in
    let p : place ≡ place - 1 + 1 = omega arith in
    ap (λ q. find_arc (chain cells q) f) p ∙ ap (λ l. find_arc l f) (chain-step cells (place - 1) c (omega arith) is low)
    ∙ find_arc-here c (chain cells c.next) f e

pub look_past : (cells : List Cell) (place f : ℕ) (c : Cell) → place ≢ 0 → place ≤ length cells → PlacesFall cells →
    c ≡ slice_index_or cells (place - 1) no_cell → c.feat ≢ f →
    (find_arc (chain cells c.next) f ≡ find_arc (chain cells place) f) × (c.next < place) × (c.next ≤ length cells)
look_past cells place f c some within falls is e =
    let low : c.next ≤ place - 1 = subst (λ y. y.next ≤ place - 1) (sym is) (falls (place - 1) (omega arith)) in
    let p : place ≡ place - 1 + 1 = omega arith in (
      sym (ap (λ q. find_arc (chain cells q) f) p ∙ ap (λ l. find_arc l f) (chain-step cells (place - 1) c (omega arith) is low)
          ∙ find_arc-past c (chain cells c.next) f e),
      omega arith,
      omega arith,
    )

pub look_none : (cells : List Cell) (f place : ℕ) → place ≡ 0 → find_arc (chain cells place) f ≡ None
look_none cells f place e = ap (λ p. find_arc (chain cells p) f) e ∙ ap (λ l. find_arc l f) (chain-none cells)

-- what a look-up finds is listed
pub find_arc-has : (cells : List Cell) (f m : ℕ) → find_arc cells f ≡ Some m → (c : Cell) × Has c cells × (c.feat ≡ f) × (c.to ≡ m)
find_arc-has [] f m e = absurd (let h : None ≡ Some m = e in cc)
find_arc-has (a ∷ cells) f m e = go (a.feat == f) refl e (find_arc-has cells f m)
  where
    go : (b : Bool) → (a.feat == f) ≡ b → option_map (λ x. x.to) (cond (a.feat == f) (Some a) (find (λ x. x.feat == f) cells)) ≡ Some m →
        (find_arc cells f ≡ Some m → (c : Cell) × Has c cells × (c.feat ≡ f) × (c.to ≡ m)) →
        (c : Cell) × Has c (a ∷ cells) × (c.feat ≡ f) × (c.to ≡ m)
    go true is e' rest =
        let found : Some a.to ≡ Some m = ap (λ b. option_map (λ x. x.to) (cond b (Some a) (find (λ x. x.feat == f) cells))) (sym is) ∙ e' in
        (a, here, eqb-true a.feat f is, (let h : a.to ≡ m = cc in h))
    go false is e' rest =
        let r = rest (ap (λ b. option_map (λ x. x.to) (cond b (Some a) (find (λ x. x.feat == f) cells))) (sym is) ∙ e') in
        (r.0, there r.1, r.2, r.3)

-- where a feature isn't found in the first list, it is sought in the second one
pub find_right : (xs ys : List Cell) (f : ℕ) → find_arc xs f ≡ None → find_arc (xs ++ ys) f ≡ find_arc ys f
find_right [] ys f e = refl
find_right (x ∷ xs) ys f e = go (same_or_other x.feat f) (find_right xs ys f)
  where
    go : (x.feat ≡ f) ⊎ (x.feat ≢ f) → (find_arc xs f ≡ None → find_arc (xs ++ ys) f ≡ find_arc ys f) → find_arc (x ∷ (xs ++ ys)) f ≡ find_arc ys f
    go (inl d) rest = absurd (let h : Some x.to ≡ None = sym (find_arc-here x xs f d) ∙ e in cc)
    go (inr d) rest = find_arc-past x (xs ++ ys) f d ∙ rest (sym (find_arc-past x xs f d) ∙ e)

pub find_left : (xs ys : List Cell) (f m : ℕ) → find_arc xs f ≡ Some m → find_arc (xs ++ ys) f ≡ Some m
find_left [] ys f m e = absurd (let h : None ≡ Some m = e in cc)
find_left (x ∷ xs) ys f m e = go (same_or_other x.feat f) (find_left xs ys f m)
  where
    go : (x.feat ≡ f) ⊎ (x.feat ≢ f) → (find_arc xs f ≡ Some m → find_arc (xs ++ ys) f ≡ Some m) → find_arc (x ∷ (xs ++ ys)) f ≡ Some m
    go (inl d) rest = find_arc-here x (xs ++ ys) f d ∙ sym (find_arc-here x xs f d) ∙ e
    go (inr d) rest = find_arc-past x (xs ++ ys) f d ∙ rest (sym (find_arc-past x xs f d) ∙ e)

-- the cells from a place on are cells of the list
back_has : (r : List Cell) (p : ℕ) (c : Cell) → Has c (chain_back r p) → Has c r
back_has [] p c h = elim h [ ]
back_has (a ∷ r) p c h = go (p == length r + 1) refl h (back_has r a.next c) (back_has r p c)
  where
    first : (c a : Cell) (xs ys : List Cell) → Has c (a ∷ xs) → (Has c xs → Has c ys) → Has c (a ∷ ys)
    first c _ xs ys here f = here
    first c a xs ys (there i) f = there (f i)

    go : (b : Bool) → (p == length r + 1) ≡ b → Has c (chain_back (a ∷ r) p) → (Has c (chain_back r a.next) → Has c r) → (Has c (chain_back r p) → Has c r) →
        Has c (a ∷ r)
    go true is i one two =
        first c a (chain_back r a.next) r
        (subst (Has c) (ap (λ b. elim b [ true ↦ a ∷ chain_back r a.next | false ↦ chain_back r p ]) is) i) one
    go false is i one two =
        there (two (subst (Has c) (ap (λ b. elim b [ true ↦ a ∷ chain_back r a.next | false ↦ chain_back r p ]) is) i))

pub chain-has : (cells : List Cell) (p : ℕ) (c : Cell) → Has c (chain cells p) → Has c cells
chain-has cells p c h = Has-of_reverse c cells (back_has (reverse cells) p c h)

-- the cell at a place comes first of those from there on
pub chain_at : (cells : List Cell) (place : ℕ) (c : Cell) → place ≢ 0 → place ≤ length cells → PlacesFall cells →
    c ≡ slice_index_or cells (place - 1) no_cell → (chain cells place ≡ c ∷ chain cells c.next) × (c.next < place) × Has c cells
chain_at cells place c some within falls is =
    let low : c.next ≤ place - 1 = subst (λ y. y.next ≤ place - 1) (sym is) (falls (place - 1) (omega arith)) in
    let p : place ≡ place - 1 + 1 = omega arith in (
      ap (chain cells) p ∙ chain-step cells (place - 1) c (omega arith) is low,
      omega arith,
      subst (λ y. Has y cells) (sym is) (Has-at cells (place - 1) no_cell (omega arith)),
    )

-- where no feature comes twice, each arc is the one that a look-up finds
pub found_of_once : (cells : List Cell) → AreOnce cells → (c : Cell) → Has c cells → find_arc cells c.feat ≡ Some c.to
found_of_once [] once c h = elim h [ ]
found_of_once (a ∷ cells) once c h = go h (found_of_once cells once.1 c)
  where
    first : (c a : Cell) (xs : List Cell) → Has c (a ∷ xs) → (c ≡ a) ⊎ Has c xs
    first c _ xs here = inl refl
    first c a xs (there i) = inr i

    go : Has c (a ∷ cells) → (Has c cells → find_arc cells c.feat ≡ Some c.to) → find_arc (a ∷ cells) c.feat ≡ Some c.to
    go i rest = which (first c a cells i)
      where
        which : (c ≡ a) ⊎ Has c cells → find_arc (a ∷ cells) c.feat ≡ Some c.to
        which (inl e) = find_arc-here a cells c.feat (ap (λ x. x.feat) (sym e)) ∙ ap (λ x. Some x.to) (sym e)
        which (inr i) =
            find_arc-past a cells c.feat
            (λ e. let d : None ≡ Some c.to = sym once.0 ∙ ap (find_arc cells) e ∙ rest i in cc) ∙ rest i
