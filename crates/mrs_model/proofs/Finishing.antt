-- What a finished search has found: a map of all variables, and a place for each element.
use Rattle.std.proofs.Common.{◌≡◌, ◌≢◌, ℕ, ◌<◌, ◌≤◌, ◌∙◌, ◌⊎◌, inl, inr, List, [], ◌∷◌, map, length, get_or, slice_index, refl, sym, subst, arith, Some}
use Rattle.std.specs.List.{slice_get}
use Rattle.std.proofs.lemmas.List.{get_or-map}
use Rattle.std.proofs.lemmas.Option.{slice_get-get_or, slice_get_within}
use Rattle.mrs_model.specs.declared.bindings.Pair.{Pair}
use Rattle.mrs_model.specs.declared.search.Step.{Step}
use Rattle.mrs_model.specs.Meanings.{Variable}
use Rattle.mrs_model.specs.Renaming.{IsVariableMap}
use Rattle.mrs_model.specs.Inner.Bindings.{lefts, rights, Binds, Agrees, Keep}
use Rattle.mrs_model.specs.Inner.Elements.{Element, renamed, IsIn}
use Rattle.mrs_model.specs.Inner.Search.{Task, places, IsAt, Leads, begins, goes_on}
use Rattle.mrs_model.proofs.Searching.{leads_joined, same_or_other}
use Rattle.mrs_model.proofs.Ends.{binds_on}
use Rattle.mrs_model.proofs.Rows.{length_rows}
use Rattle.mrs_model.proofs.Bags.{Placed}

-- no variable stands in two pairs, and each is within
pub record AreApart (pairs : List Pair) (size : ℕ) : Type 0 where
  pub left : (x w y : ℕ) → Binds pairs x y → Binds pairs w y → x ≡ w
  pub right : (x y z : ℕ) → Binds pairs x y → Binds pairs x z → y ≡ z
  pub within : (x y : ℕ) → Binds pairs x y → (x < size) × (y < size)

pub leads_kept : (t : Task) (steps : List Step) (pairs : List Pair) → Leads t steps pairs → Keep t.vars t.other_vars pairs
leads_kept t [] pairs (begins _ b) = b.kept
leads_kept t (_ ∷ _) _ (goes_on steps pairs new c x y before is_x is_y fresh grown joined told) = grown.kept (leads_kept t steps pairs before)

-- the given pairs are bound
pub leads_given : (t : Task) (steps : List Step) (pairs : List Pair) → Leads t steps pairs → (i : ℕ) → i < length t.given
    → Binds pairs (slice_index (lefts t.given) i) (slice_index (rights t.given) i)
leads_given t [] pairs (begins _ b) i l = b.bound i l
leads_given t (_ ∷ _) _ (goes_on steps pairs new c x y before is_x is_y fresh grown joined told) i l =
    binds_on t.vars t.other_vars pairs new _ _ grown (leads_given t steps pairs before i l)

same_element : (xs : List Element) (k n : ℕ) (x y : Element) → k ≡ n → slice_get xs k ≡ Some x → slice_get xs n ≡ Some y → y ≡ x
same_element xs k n x y s e f = let g : slice_get xs n ≡ Some x = rw s at e in cc

-- so are the variables of each element that has a place
pub leads_bound : (t : Task) (steps : List Step) (pairs : List Pair) → Leads t steps pairs → (k v : ℕ) (x : Element) → k < length (places steps) → slice_get t.left k ≡ Some x → IsIn v x
    → (w : ℕ) × Binds pairs v w
leads_bound t [] pairs (begins _ b) k v x l e h = absurd (omega arith)
leads_bound t (_ ∷ _) _ (goes_on steps pairs new c x' y' before is_x is_y fresh grown joined told) k v x l e h =
    elim (same_or_other k (length (places steps))) [
      | inl s ↦ (let p : x' ≡ x = same_element t.left k (length (places steps)) x x' s e is_x in joined.bound v (subst (IsIn v) (sym p) h))
      | inr n ↦ (let w = leads_bound t steps pairs before k v x (omega arith) e h in (w.0, binds_on t.vars t.other_vars pairs new v w.0 grown w.1))
    ]

abbrev place_by : {k n : ℕ} → (k ≡ n) ⊎ (k ≢ n) → ℕ → ℕ → ℕ
place_by (inl e) d m = d
place_by (inr n) d m = m

-- the place of the k-th element
abbrev pub place_at : List ℕ → ℕ → ℕ
place_at [] k = 0
place_at (d ∷ ds) k = place_by (same_or_other k (length ds)) d (place_at ds k)

at_here : (k n d m : ℕ) (ds : List ℕ) (s : (k ≡ n) ⊎ (k ≢ n)) → n ≡ length ds → (k ≢ n → IsAt ds k m) → IsAt (d ∷ ds) k (place_by s d m)
at_here k n d m ds (inl e) f h = inl (e ∙ f, refl)
at_here k n d m ds (inr ne) f h = inr (h ne)

pub is_at : (ds : List ℕ) (k : ℕ) → k < length ds → IsAt ds k (place_at ds k)
is_at [] k l = absurd (omega arith)
is_at (d ∷ ds) k l = at_here k (length ds) d (place_at ds k) ds (same_or_other k (length ds)) refl (λ ne. is_at ds k (omega arith))

at_below : (ds : List ℕ) (k c : ℕ) → IsAt ds k c → k < length ds
at_below [] k c at = absurd at
at_below (d ∷ ds) k c (inl (e, f)) = omega arith
at_below (d ∷ ds) k c (inr at) = let l = at_below ds k c at in omega arith

-- an element at each place that a step has
leads_within : (t : Task) (steps : List Step) (pairs : List Pair) → Leads t steps pairs → (k c : ℕ) → IsAt (places steps) k c → c < length t.right
leads_within t [] pairs (begins _ b) k c at = absurd at
leads_within t (_ ∷ _) _ (goes_on steps pairs new d x y before is_x is_y fresh grown joined told) k c (inl (e, f)) = subst (λ (z : ℕ). z < length t.right) f (slice_get_within t.right d y is_y)
leads_within t (_ ∷ _) _ (goes_on steps pairs new d x y before is_x is_y fresh grown joined told) k c (inr at) = leads_within t steps pairs before k c at

-- no place is had twice
leads_apart : (t : Task) (steps : List Step) (pairs : List Pair) → Leads t steps pairs → (j k c : ℕ) → IsAt (places steps) j c → IsAt (places steps) k c → j ≡ k
leads_apart t [] pairs (begins _ b) j k c p q = absurd p
leads_apart t (_ ∷ _) _ (goes_on steps pairs new d x y before is_x is_y fresh grown joined told) j k c (inl (e, f)) (inl (g, h)) = e ∙ sym g
leads_apart t (_ ∷ _) _ (goes_on steps pairs new d x y before is_x is_y fresh grown joined told) j k c (inl (e, f)) (inr q) = absurd (fresh k (subst (λ (z : ℕ). IsAt (places steps) k z) (sym f) q))
leads_apart t (_ ∷ _) _ (goes_on steps pairs new d x y before is_x is_y fresh grown joined told) j k c (inr p) (inl (g, h)) = absurd (fresh j (subst (λ (z : ℕ). IsAt (places steps) j z) (sym h) p))
leads_apart t (_ ∷ _) _ (goes_on steps pairs new d x y before is_x is_y fresh grown joined told) j k c (inr p) (inr q) = leads_apart t steps pairs before j k c p q

-- where each element has a place, the bag of what the map makes of the elements is that of the others
pub placed_all : (t : Task) (steps : List Step) (pairs : List Pair) (to : List ℕ) (d : Element) → Leads t steps pairs → Agrees to pairs → length t.right ≡ length t.left → length t.left ≤ length (places steps)
    → Placed d (map (renamed to) t.left) t.right
placed_all t steps pairs to d leads a even full =
    let n = length_rows (renamed to) t.left in
    let cs = places steps in
    let at : (k : ℕ) → k < length (map (renamed to) t.left) → IsAt cs k (place_at cs k) = λ k l. is_at cs k (omega (arith, n, full, l)) in
    record {
      even = even ∙ sym n;
      place = λ k. place_at cs k;
      within = λ k l. leads_within t steps pairs leads k (place_at cs k) (at k l);
      apart = λ j k lj lk e. leads_apart t steps pairs leads j k (place_at cs k) (subst (λ (z : ℕ). IsAt cs j z) e (at j lj)) (at k lk);
      same = λ k l.
          let lk : k < length t.left = omega (arith, n, l) in
          let in' = leads_within t steps pairs leads k (place_at cs k) (at k l) in
          let e = leads_joined t steps pairs leads to a k (place_at cs k) (get_or t.left k d) (get_or t.right (place_at cs k) d) (at k l) (slice_get-get_or t.left k d lk) (slice_get-get_or t.right (place_at cs k) d in') in
          sym e ∙ sym (get_or-map (renamed to) t.left k d d lk);
    }

-- the map that is read off the pairs
pub agrees_all : (pairs : List Pair) (to : List ℕ) (size : ℕ) → AreApart pairs size → ((x : ℕ) → x < size → Binds pairs x (slice_index to x)) → Agrees to pairs
agrees_all pairs to size apart each = λ i l.
    let b : Binds pairs (slice_index (lefts pairs) i) (slice_index (rights pairs) i) = (i, l, refl, refl) in
    let w = apart.within _ _ b in
    apart.right _ _ _ (each _ w.0) b

kept_at : (a b : List Variable) (pairs : List Pair) (v w : ℕ) → Keep a b pairs → Binds pairs v w → slice_get b w ≡ slice_get a v
kept_at a b pairs v w keep (i, l, e, f) = rw (← e, ← f) (keep i l)

pub map_of_all : (a b : List Variable) (pairs : List Pair) (to : List ℕ) (size : ℕ) → AreApart pairs size → Keep a b pairs → size ≡ length a → length b ≡ length a → length to ≡ size
    → ((x : ℕ) → x < size → Binds pairs x (slice_index to x)) → IsVariableMap a b to
map_of_all a b pairs to size apart keep is even every each = record {
  every = every ∙ is;
  onto = even;
  within = λ v l. (let w = apart.within _ _ (each v (omega (arith, every, l))) in omega (arith, is, even, w.1));
  one_to_one = λ v w lv lw e. apart.left v w (slice_index to w) (subst (λ (z : ℕ). Binds pairs v z) e (each v (omega (arith, every, lv)))) (each w (omega (arith, every, lw)));
  kept = λ v l. kept_at a b pairs v (slice_index to v) keep (each v (omega (arith, every, l)));
}
