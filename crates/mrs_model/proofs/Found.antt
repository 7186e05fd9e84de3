-- A renaming of MRSs is a solution of the search, and what a finished search has found is one.
use Rattle.std.proofs.Common.{◌≡◌, ℕ, suc, zero, ◌+◌, ◌<◌, ◌≤◌, ◌∙◌, ◌⊎◌, inl, inr, List, [], ◌∷◌, ◌++◌, map, length, length-append, get_or, slice_index, refl, ap, sym, subst, arith, Some, Bool}
use Rattle.std.specs.List.{slice_get, All, Any}
use Rattle.std.specs.List.Sorted.{IsPermutation}
use Rattle.std.proofs.lemmas.List.{get_or-map}
use Rattle.std.proofs.lemmas.List.Elements.{All-map, All-append}
use Rattle.std.proofs.lemmas.List.Sorted.{IsPermutation-map, IsPermutation-trans, IsPermutation-sym, length_permutation, All-permutation}
use Rattle.std.proofs.lemmas.Option.{slice_get-get_or, slice_get_within, get_or_from_slice_get}
use Rattle.mrs_model.specs.declared.bindings.Pair.{Pair}
use Rattle.mrs_model.specs.declared.keyed.Keyed.{Keyed}
use Rattle.mrs_model.specs.declared.search.Step.{Step}
use Rattle.mrs_model.specs.Meanings.{Variable, Predication, Meaning}
use Rattle.mrs_model.specs.Valid.{IsValid, IsPredication}
use Rattle.mrs_model.specs.Renaming.{IsVariableMap, IsRenaming, AreEqual, renamed_ep, unspanned, renamed_constraint}
use Rattle.mrs_model.specs.Inner.Bindings.{Binds, Agrees}
use Rattle.mrs_model.specs.Inner.Elements.{Element, an_ep, an_hcon, an_icon, elements, renamed, IsIn}
use Rattle.mrs_model.specs.Inner.Search.{Task, Solves, places, Leads}
use Rattle.mrs_model.specs.Inner.State.{Knows, HaveSameCounts, IsOfVars, element_of, elements_of}
use Rattle.mrs_model.proofs.Bags.{Placed, placed_of, permutation_of, any_of_bag}
use Rattle.mrs_model.proofs.Ends.{binds_agrees}
use Rattle.mrs_model.proofs.Rows.{length_rows}
use Rattle.mrs_model.proofs.Equal.{renaming_bag, renaming_of, stands_in_elements, an_element}
use Rattle.mrs_model.proofs.Finishing.{AreApart, leads_kept, leads_given, leads_bound, placed_all, agrees_all, map_of_all}

-- the variables of top and of index
abbrev pub two : Meaning → Meaning → List Pair
two a b = record { left = a.top; right = b.top } ∷ record { left = a.index; right = b.index } ∷ []

-- what is searched for two MRSs: the elements of the first in some order
pub record IsTask (a b : Meaning) (t : Task) : Type 0 where
  pub left : IsPermutation (elements a) t.left
  pub right : t.right ≡ elements b
  pub vars : t.vars ≡ a.vars
  pub other_vars : t.other_vars ≡ b.vars
  pub given : t.given ≡ two a b

pub agrees_two : (to : List ℕ) (p q : Pair) → slice_index to p.left ≡ p.right → slice_index to q.left ≡ q.right → Agrees to (p ∷ q ∷ [])
agrees_two to p q e f zero l = e
agrees_two to p q e f (suc zero) l = f
agrees_two to p q e f (suc (suc i)) l = absurd (omega arith)

pub same_counts_of : (a b : Meaning) → AreEqual a b → HaveSameCounts a b
same_counts_of a b (to, r) = record {
  vars = r.vars.onto;
  eps = sym (length_rows unspanned b.eps) ∙ length_permutation _ _ r.eps ∙ length_rows (renamed_ep to) a.eps;
  hcons = length_permutation _ _ r.hcons ∙ length_rows (renamed_constraint to) a.hcons;
  icons = length_permutation _ _ r.icons ∙ length_rows (renamed_constraint to) a.icons;
}

length_elements : (m : Meaning) → length (elements m) ≡ length m.eps + (length m.hcons + length m.icons)
length_elements m =
    length-append (map (λ e. an_ep (unspanned e)) m.eps) (map an_hcon m.hcons ++ map an_icon m.icons)
    ∙ rw (length_rows (λ e. an_ep (unspanned e)) m.eps, length-append (map an_hcon m.hcons) (map an_icon m.icons), length_rows an_hcon m.hcons, length_rows an_icon m.icons) refl

pub even_elements : (a b : Meaning) (t : Task) → IsTask a b t → HaveSameCounts a b → length t.right ≡ length t.left
even_elements a b t is same =
    let e = length_permutation (elements a) t.left is.left in
    let r = ap length is.right in
    let p = length_elements a in
    let q = length_elements b in
    let x = same.eps in
    let y = same.hcons in
    let z = same.icons in
    omega (arith, e, r, p, q, x, y, z)

-- a renaming puts each element somewhere
bag_of : (a b : Meaning) (t : Task) (to : List ℕ) → IsTask a b t → IsRenaming a b to → IsPermutation (map (renamed to) t.left) t.right
bag_of a b t to is r =
    subst (λ (l : List Element). IsPermutation (map (renamed to) t.left) l) (sym is.right)
    (IsPermutation-trans (map (renamed to) t.left) (map (renamed to) (elements a)) (elements b)
    (IsPermutation-map (renamed to) t.left (elements a) (IsPermutation-sym (elements a) t.left is.left)) (renaming_bag a b to r))

there : (to : List ℕ) (xs ys : List Element) (p : Placed an_element (map (renamed to) xs) ys) (k : ℕ) (x y : Element) → slice_get xs k ≡ Some x → slice_get ys (p.place k) ≡ Some y → renamed to x ≡ y
there to xs ys p k x y ex ey =
    let l = slice_get_within xs k x ex in
    let n = length_rows (renamed to) xs in
    let s = p.same k (omega (arith, n, l)) in
    ap (renamed to) (sym (get_or_from_slice_get xs k x an_element ex)) ∙ sym (get_or-map (renamed to) xs k an_element an_element l) ∙ sym s ∙ get_or_from_slice_get ys (p.place k) y an_element ey

pub solves_of : (a b : Meaning) (t : Task) → IsTask a b t → AreEqual a b → (to : List ℕ) × (place : ℕ → ℕ) × Solves t to place
solves_of a b t is (to, r) =
    let p = placed_of an_element (map (renamed to) t.left) t.right (bag_of a b t to is r) in
    let n = length_rows (renamed to) t.left in (
      to,
      p.place,
      record {
        vars = rw (is.vars, is.other_vars) r.vars;
        given = rw is.given (agrees_two to (record { left = a.top; right = b.top }) (record { left = a.index; right = b.index }) r.top r.index);
        within = λ k l. p.within k (omega (arith, n, l));
        apart = λ j k lt l e. (let z = p.apart j k (omega (arith, n, lt, l)) (omega (arith, n, l)) e in omega (arith, z, lt));
        renamed_there = λ k x y ex ey. there to t.left t.right p k x y ex ey;
      },
    )

pub none_equal : (a b : Meaning) (t : Task) → IsTask a b t → ((to : List ℕ) (place : ℕ → ℕ) → Solves t to place → ⊥) → AreEqual a b → ⊥
none_equal a b t is none eq = let w = solves_of a b t is eq in none w.0 w.1 w.2

pub none_begun : (a b : Meaning) → ((to : List ℕ) → IsVariableMap a.vars b.vars to → Agrees to (two a b) → ⊥) → AreEqual a b → ⊥
none_begun a b none (to, r) = none to r.vars (agrees_two to (record { left = a.top; right = b.top }) (record { left = a.index; right = b.index }) r.top r.index)

-- a pair of the given ones
given_top : (a b : Meaning) (t : Task) (steps : List Step) (pairs : List Pair) → IsTask a b t → Leads t steps pairs → Binds pairs a.top b.top
given_top a b t steps pairs is leads =
    let h = leads_given t steps pairs leads 0 (rw is.given (omega arith)) in rw is.given at h

given_index : (a b : Meaning) (t : Task) (steps : List Step) (pairs : List Pair) → IsTask a b t → Leads t steps pairs → Binds pairs a.index b.index
given_index a b t steps pairs is leads =
    let h = leads_given t steps pairs leads 1 (rw is.given (omega arith)) in rw is.given at h

-- each variable is bound
in_element : (t : Task) (steps : List Step) (pairs : List Pair) (v : ℕ) → Leads t steps pairs → length t.left ≤ length (places steps) → Any (IsIn v) t.left → (w : ℕ) × Binds pairs v w
in_element t steps pairs v leads full (k, x, l, e, h) =
    leads_bound t steps pairs leads k v x (omega (arith, full, l)) (subst (λ (z : Element). slice_get t.left k ≡ Some z) e (slice_get-get_or t.left k x l)) h

standing_bound : (a b : Meaning) (t : Task) (steps : List Step) (pairs : List Pair) (v : ℕ) → IsTask a b t → Leads t steps pairs → length t.left ≤ length (places steps)
    → (a.top ≡ v) ⊎ ((a.index ≡ v) ⊎ Any (IsIn v) (elements a)) → (w : ℕ) × Binds pairs v w
standing_bound a b t steps pairs v is leads full (inl e) = (b.top, subst (λ (z : ℕ). Binds pairs z b.top) e (given_top a b t steps pairs is leads))
standing_bound a b t steps pairs v is leads full (inr (inl e)) = (b.index, subst (λ (z : ℕ). Binds pairs z b.index) e (given_index a b t steps pairs is leads))
standing_bound a b t steps pairs v is leads full (inr (inr h)) = in_element t steps pairs v leads full (any_of_bag (IsIn v) (elements a) t.left is.left h)

pub all_bound : (a b : Meaning) (t : Task) (steps : List Step) (used : List Bool) (pairs : List Pair) (size next : ℕ) → IsTask a b t → IsValid a → Knows t steps used pairs size next → length t.left ≤ length (places steps)
    → (v : ℕ) → v < size → (w : ℕ) × Binds pairs v w
all_bound a b t steps used pairs size next is valid k full v l =
    let n = ap length is.vars in
    let s = k.size_is in
    standing_bound a b t steps pairs v is k.leads full (stands_in_elements a v (valid.standing v (omega (arith, n, s, l))))

pub found : (a b : Meaning) (t : Task) (steps : List Step) (used : List Bool) (pairs : List Pair) (size next : ℕ) (to : List ℕ) → IsTask a b t → HaveSameCounts a b → Knows t steps used pairs size next
    → length t.left ≤ length (places steps) → AreApart pairs size → length to ≡ size → ((v : ℕ) → v < size → Binds pairs v (slice_index to v)) → IsRenaming a b to
found a b t steps used pairs size next to is same k full apart every each =
    let agrees = agrees_all pairs to size apart each in
    let n = ap length is.vars in
    let m = ap length is.other_vars in
    let q = same.vars in
    let vars : IsVariableMap t.vars t.other_vars to = map_of_all t.vars t.other_vars pairs to size apart (leads_kept t steps pairs k.leads) k.size_is (omega (arith, n, m, q)) every each in
    let bag = permutation_of an_element (map (renamed to) t.left) t.right (placed_all t steps pairs to an_element k.leads agrees (even_elements a b t is same) full) in
    let whole : IsPermutation (map (renamed to) (elements a)) (elements b) =
    IsPermutation-trans (map (renamed to) (elements a)) (map (renamed to) t.left) (elements b) (IsPermutation-map (renamed to) (elements a) t.left is.left)
    (subst (λ (l : List Element). IsPermutation (map (renamed to) t.left) l) is.right bag) in
    renaming_of a b to (rw (is.vars, is.other_vars) at vars)
    (binds_agrees to pairs a.top b.top agrees (given_top a b t steps pairs is k.leads))
    (binds_agrees to pairs a.index b.index agrees (given_index a b t steps pairs is k.leads)) whole

-- elements are of their variables
pub unspanned_of : (n : ℕ) (e : Predication) → IsPredication n e → IsOfVars n (an_ep (unspanned e))
unspanned_of n e p = record { pred = p.pred; label = p.label; args = p.args; order = p.order }

eps_of_vars : (n : ℕ) (es : List Predication) → All (IsPredication n) es → All (IsOfVars n) (map (λ e. an_ep (unspanned e)) es)
eps_of_vars n es h = All-map (IsOfVars n) (λ e. an_ep (unspanned e)) es (λ k d l. unspanned_of n (get_or es k d) (h k d l))

pub all_of_vars : (m : Meaning) → IsValid m → All (IsOfVars (length m.vars)) (elements m)
all_of_vars m v =
    let n = length m.vars in
    All-append (IsOfVars n) (map (λ e. an_ep (unspanned e)) m.eps) (map an_hcon m.hcons ++ map an_icon m.icons) (eps_of_vars n m.eps v.eps)
    (All-append (IsOfVars n) (map an_hcon m.hcons) (map an_icon m.icons) (All-map (IsOfVars n) an_hcon m.hcons v.hcons) (All-map (IsOfVars n) an_icon m.icons v.icons))

pub item_of_vars : (n : ℕ) (xs : List Keyed) → All (IsOfVars n) (elements_of xs) → (k : ℕ) (x : Keyed) → slice_get xs k ≡ Some x → IsOfVars n (element_of x)
item_of_vars n xs h k x e =
    let l = slice_get_within xs k x e in
    let r = length_rows element_of xs in
    let g : get_or (elements_of xs) k (element_of x) ≡ element_of x = get_or-map element_of xs k x (element_of x) l ∙ ap element_of (get_or_from_slice_get xs k x x e) in
    subst (IsOfVars n) g (h k (element_of x) (omega (arith, r, l)))

-- what is searched, as the code makes it
pub is_task : (a b : Meaning) (items seen here left there right : List Keyed) (vs ws : List Variable) → elements_of items ≡ elements a → seen ≡ items → IsPermutation (elements_of seen) (elements_of here) → left ≡ here
    → elements_of there ≡ elements b → right ≡ there → vs ≡ a.vars → ws ≡ b.vars → IsTask a b (record { left = elements_of left; right = elements_of right; vars = vs; other_vars = ws; given = two a b })
is_task a b items seen here left there right vs ws e1 e2 p e4 e5 e6 e7 e8 = record {
  left = subst (λ (l : List Keyed). IsPermutation (elements a) (elements_of l)) (sym e4)
      (subst (λ (l : List Element). IsPermutation l (elements_of here)) e1 (subst (λ (l : List Keyed). IsPermutation (elements_of l) (elements_of here)) e2 p));
  right = ap elements_of e6 ∙ e5;
  vars = e7;
  other_vars = e8;
  given = refl;
}

pub sides_of_vars : (a b : Meaning) (t : Task) (n : ℕ) → IsTask a b t → IsValid a → IsValid b → HaveSameCounts a b → n ≡ length a.vars → All (IsOfVars n) t.left × All (IsOfVars n) t.right
sides_of_vars a b t n is va vb same e =
    let l = All-permutation (IsOfVars (length a.vars)) (elements a) t.left is.left (all_of_vars a va) in
    let r = all_of_vars b vb in
    let f : length b.vars ≡ n = same.vars ∙ sym e in
    (subst (λ (k : ℕ). All (IsOfVars k) t.left) (sym e) l, subst (λ (es : List Element). All (IsOfVars n) es) (sym is.right) (subst (λ (k : ℕ). All (IsOfVars k) (elements b)) f r))
