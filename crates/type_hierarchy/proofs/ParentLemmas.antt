-- Parents by number.
use Rattle.std.proofs.Common.{ℕ, suc, ◌≡◌, ◌≤◌, ◌<◌, ◌+◌, ◌⊎◌, inl, inr, Bool, true, false, List, [], ◌∷◌, ◌++◌, length, map, take, slice_index_or, Vec, sym, ◌∙◌, ap, subst, arith}
use Rattle.std.specs.Global.{Global}
use Rattle.std.specs.List.{list_any}
use Rattle.std.specs.Str.{bytes_eq}
use Rattle.std.proofs.lemmas.List.{take_more, map-append, append_assoc}
use Rattle.std.proofs.lemmas.Bool.{cases_lt}
use Rattle.type_hierarchy.specs.declared.decl.TypeFault.{TypeFault}
use Rattle.type_hierarchy.specs.declared.decl.TypeFault.TheVariants.{Duplicate, Unknown, Cycle, Reserved, TooMany, NoMemory}
use Rattle.type_hierarchy.specs.Decls.{Name, Declared, bare, at_place, is_type, types_of, names_of, parent_names, number_of}
use Rattle.type_hierarchy.specs.Faults.{IsUnknown}
use Rattle.type_hierarchy.specs.Inner.Parents.{is_known, parent_at, AllKnown, IsUnknownOf, IsUnknownFault, implied}
use Rattle.type_hierarchy.specs.Inner.Reach.{lists}
use Rattle.std.specs.Prelude.{position, unwrap_or, Some, None}
use Rattle.type_hierarchy.proofs.ListLemmas.{list_any-map, any_at}
use Rattle.type_hierarchy.proofs.SetLemmas.{bool_cases, or_cases, position_some, position_at}

differ : (b : Bool) → b ≡ true → b ≡ false → ⊥
differ b e f = cc

pub known_is : (top text : Name) (ds : List Declared) (names : List Name) (n : Name) → names ≡ names_of top text ds →
    is_known names n ≡ is_type top text ds n
known_is top text ds names n e = ap (λ ns. is_known ns n) e ∙ list_any-map (bytes_eq n) (λ d. d.name) (types_of top text ds)

pub none_unknown : (top text : Name) (ds : List Declared) (names : List Name) (n : ℕ) → names ≡ names_of top text ds →
    ((k : ℕ) → k < n → AllKnown names (at_place ds k)) → (k i : ℕ) → k < n → IsUnknown top text ds k i → ⊥
none_unknown top text ds names n e known k i h u =
    differ _ (sym (known_is top text ds names _ e) ∙ known k h i u.1) u.2

pub unknown_fault : (top text : Name) (ds : List Declared) (names : List Name) (k : ℕ) (d : Declared) → names ≡ names_of top text ds → k < length ds → at_place ds k ≡ d →
    ((j : ℕ) → j < k → AllKnown names (at_place ds j)) → (e : TypeFault) → IsUnknownOf names d e → IsUnknownFault top text ds e
unknown_fault top text ds names k d same within here known NoMemory h = tt
unknown_fault top text ds names k d same within here known (Duplicate _) h = absurd h
unknown_fault top text ds names k d same within here known (Cycle _) h = absurd h
unknown_fault top text ds names k d same within here known (Reserved _) h = absurd h
unknown_fault top text ds names k d same within here known (TooMany _) h = absurd h
unknown_fault top text ds names k d same within here known (Unknown name parent) h = record {
  place = k;
  parent_place = h.place;
  is_unknown = (
    within,
    subst (λ x. h.place < length x.parents) (sym here) h.within,
    sym (known_is top text ds names _ same) ∙ ap (λ x. is_known names (parent_at x h.place)) here ∙ h.is_unknown,
  );
  none_before = λ j i less u. none_unknown top text ds names k same known j i less u;
  first_parent = λ i less u. differ _ (ap (λ x. is_known names (parent_at x i)) here ∙ h.known_before i less) (known_is top text ds names _ same ∙ u.2);
  name_is = h.name_is ∙ ap (λ x. x.name) (sym here);
  parent_is = h.parent_is ∙ ap (λ x. parent_at x h.place) (sym here);
}

-- one more declaration
pub implied_push : (names : List Name) (top : Name) (us : List (List ℕ)) (ds : List Declared) (i : ℕ) (d : Declared) (parents new : List (Vec ℕ Global)) (v : Vec ℕ Global) →
    i < length ds → at_place ds i ≡ d → lists parents ≡ us ++ implied names top (take i ds) → new ≡ parents ++ v ∷ [] →
    v.items ≡ map (number_of names) (parent_names top d) → lists new ≡ us ++ implied names top (take (i + 1) ds)
implied_push names top us ds i d parents new v h here is grown e =
    ap lists grown ∙ map-append (λ x. x.items) parents (v ∷ []) ∙ ap (λ l. l ++ v.items ∷ []) is ∙ append_assoc us (implied names top (take i ds)) (v.items ∷ [])
    ∙ ap (λ l. us ++ l) (ap (λ n. implied names top (take i ds) ++ n ∷ []) (e ∙ ap (λ x. map (number_of names) (parent_names top x)) (sym here))
    ∙ sym (ap (implied names top) (take_more ds i (bare []) h) ∙ map-append (λ x. map (number_of names) (parent_names top x)) (take i ds) (at_place ds i ∷ [])))

pub known_more : (names : List Name) (ds : List Declared) (i : ℕ) (d : Declared) → at_place ds i ≡ d → AllKnown names d →
    ((k : ℕ) → k < i → AllKnown names (at_place ds k)) → (k : ℕ) → k < i + 1 → AllKnown names (at_place ds k)
known_more names ds i d here now old k h = go (cases_lt k i)
  where
    go : (k < i) ⊎ (i ≤ k) → AllKnown names (at_place ds k)
    go (inl a) = old k a
    go (inr a) = let same : k ≡ i = omega arith in subst (AllKnown names) (sym (ap (at_place ds) same ∙ here)) now

-- the parents of one declaration
pub known_push : (names : List Name) (d : Declared) (i : ℕ) (p : Name) → parent_at d i ≡ p → is_known names p ≡ true →
    ((j : ℕ) → j < i → is_known names (parent_at d j) ≡ true) → (j : ℕ) → j < i + 1 → is_known names (parent_at d j) ≡ true
known_push names d i p here now old j h = go (cases_lt j i)
  where
    go : (j < i) ⊎ (i ≤ j) → is_known names (parent_at d j) ≡ true
    go (inl a) = old j a
    go (inr a) = let same : j ≡ i = omega arith in ap (λ k. is_known names (parent_at d k)) same ∙ ap (is_known names) here ∙ now

pub found_known : (names : List Name) (p : Name) (m : ℕ) → position (bytes_eq p) names ≡ Some m → is_known names p ≡ true
found_known names p m e = let f = position_some (bytes_eq p) names m [] e in any_at (bytes_eq p) names m [] f.0 f.1

any_index : (p : Name) (names : List Name) → list_any (bytes_eq p) names ≡ true → (i : ℕ) × (i < length names) × (bytes_eq p (slice_index_or names i []) ≡ true)
any_index p [] e = cc
any_index p (n ∷ names) e = go (λ k. any_index p names k) (or_cases (bytes_eq p n) _ e)
  where
    go : (list_any (bytes_eq p) names ≡ true → (i : ℕ) × (i < length names) × (bytes_eq p (slice_index_or names i []) ≡ true)) →
        (bytes_eq p n ≡ true) ⊎ (list_any (bytes_eq p) names ≡ true) → (i : ℕ) × (i < length (n ∷ names)) × (bytes_eq p (slice_index_or (n ∷ names) i []) ≡ true)
    go ih (inl f) = (0, omega arith, f)
    go ih (inr f) = let r = ih f in (suc r.0, omega (arith, r.1), r.2)

pub missing_unknown : (names : List Name) (p : Name) → position (bytes_eq p) names ≡ None → is_known names p ≡ false
missing_unknown names p e = go (bool_cases (is_known names p))
  where
    none_some : (m : ℕ) → None ≡ Some m → ⊥
    none_some m k = cc

    go : (is_known names p ≡ true) ⊎ (is_known names p ≡ false) → is_known names p ≡ false
    go (inl k) =
        let i = any_index p names k in
        let f = position_at (bytes_eq p) names i.0 [] i.1 i.2 in
        absurd (none_some f.0 (sym e ∙ f.1))
    go (inr k) = k

pub numbers_push : (names : List Name) (d : Declared) (i m : ℕ) (p : Name) (first old new : List ℕ) → i < length d.parents → parent_at d i ≡ p → position (bytes_eq p) names ≡ Some m →
    old ≡ first ++ map (number_of names) (take i d.parents) → new ≡ old ++ m ∷ [] → new ≡ first ++ map (number_of names) (take (i + 1) d.parents)
numbers_push names d i m p first old new h here found is grown =
    grown ∙ ap (λ l. l ++ m ∷ []) is ∙ append_assoc first (map (number_of names) (take i d.parents)) (m ∷ [])
    ∙ ap (λ l. first ++ l) (ap (λ x. map (number_of names) (take i d.parents) ++ x ∷ []) (sym (ap (number_of names) here ∙ ap (λ o. unwrap_or o 0) found))
    ∙ sym (ap (map (number_of names)) (take_more d.parents i [] h) ∙ map-append (number_of names) (take i d.parents) (parent_at d i ∷ [])))
