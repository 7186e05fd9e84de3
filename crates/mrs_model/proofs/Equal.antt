-- From bags of elements to the three bags of an MRS, and back.
use Rattle.std.proofs.Common.{◌≡◌, ℕ, suc, ◌∙◌, ◌⊎◌, inl, inr, List, [], ◌∷◌, ◌++◌, append-nil, map, length-append, slice_index, refl, ap, sym, arith}
use Rattle.std.specs.List.{flat_map, Any}
use Rattle.std.specs.List.Sorted.{IsPermutation}
use Rattle.std.proofs.lemmas.List.Sorted.{IsPermutation-append, IsPermutation-map}
use Rattle.mrs_model.specs.Meanings.{Predication, Constraint, Meaning}
use Rattle.mrs_model.specs.Valid.{Stands}
use Rattle.mrs_model.specs.Renaming.{IsVariableMap, IsRenaming, renamed_ep, unspanned, renamed_constraint}
use Rattle.mrs_model.specs.Inner.Elements.{Element, an_ep, an_hcon, an_icon, elements, renamed, IsIn}
use Rattle.std.proofs.lemmas.List.Concat.{flat_map-append}
use Rattle.std.proofs.Math.ListN.{get_or-append}
use Rattle.mrs_model.proofs.Bags.{picked}
use Rattle.mrs_model.proofs.Rows.{any_rows}

-- the elements of one kind
abbrev pub the_ep : Element → List Predication
the_ep (an_ep e) = e ∷ []
the_ep (an_hcon c) = []
the_ep (an_icon c) = []

abbrev pub the_hcon : Element → List Constraint
the_hcon (an_ep e) = []
the_hcon (an_hcon c) = c ∷ []
the_hcon (an_icon c) = []

abbrev pub the_icon : Element → List Constraint
the_icon (an_ep e) = []
the_icon (an_hcon c) = []
the_icon (an_icon c) = c ∷ []

-- the elements of three lists
abbrev pub three : List Predication → List Constraint → List Constraint → List Element
three es hs is = map an_ep es ++ (map an_hcon hs ++ map an_icon is)

pub map_both : {X Y : Type 0} (f : X → Y) (xs ys : List X) → map f (xs ++ ys) ≡ map f xs ++ map f ys
map_both f [] ys = refl
map_both f (x ∷ xs) ys = ap (λ l. f x ∷ l) (map_both f xs ys)

pub map_twice : {X Y Z : Type 0} (f : X → Y) (g : Y → Z) (xs : List X) → map g (map f xs) ≡ map (λ x. g (f x)) xs
map_twice f g [] = refl
map_twice f g (x ∷ xs) = ap (λ l. g (f x) ∷ l) (map_twice f g xs)

pub elements_three : (m : Meaning) → elements m ≡ three (map unspanned m.eps) m.hcons m.icons
elements_three m = ap (λ l. l ++ (map an_hcon m.hcons ++ map an_icon m.icons)) (sym (map_twice unspanned an_ep m.eps))

renamed_eps : (to : List ℕ) (es : List Predication) → map (renamed to) (map (λ e. an_ep (unspanned e)) es) ≡ map an_ep (map (renamed_ep to) es)
renamed_eps to [] = refl
renamed_eps to (e ∷ es) = ap (λ l. an_ep (renamed_ep to e) ∷ l) (renamed_eps to es)

renamed_hcons : (to : List ℕ) (cs : List Constraint) → map (renamed to) (map an_hcon cs) ≡ map an_hcon (map (renamed_constraint to) cs)
renamed_hcons to [] = refl
renamed_hcons to (c ∷ cs) = ap (λ l. an_hcon (renamed_constraint to c) ∷ l) (renamed_hcons to cs)

renamed_icons : (to : List ℕ) (cs : List Constraint) → map (renamed to) (map an_icon cs) ≡ map an_icon (map (renamed_constraint to) cs)
renamed_icons to [] = refl
renamed_icons to (c ∷ cs) = ap (λ l. an_icon (renamed_constraint to c) ∷ l) (renamed_icons to cs)

pub renamed_three : (to : List ℕ) (m : Meaning) → map (renamed to) (elements m) ≡ three (map (renamed_ep to) m.eps) (map (renamed_constraint to) m.hcons) (map (renamed_constraint to) m.icons)
renamed_three to m =
    map_both (renamed to) (map (λ e. an_ep (unspanned e)) m.eps) (map an_hcon m.hcons ++ map an_icon m.icons)
    ∙ rw (renamed_eps to m.eps, map_both (renamed to) (map an_hcon m.hcons) (map an_icon m.icons), renamed_hcons to m.hcons, renamed_icons to m.icons) refl

none_picked : {X : Type 0} (pick : Element → List X) (make : Constraint → Element) → ((c : Constraint) → pick (make c) ≡ []) → (cs : List Constraint) → flat_map pick (map make cs) ≡ []
none_picked pick make none [] = refl
none_picked pick make none (c ∷ cs) = rw (none c, none_picked pick make none cs) refl

all_picked : {X : Type 0} (pick : Element → List X) (make : X → Element) → ((x : X) → pick (make x) ≡ x ∷ []) → (xs : List X) → flat_map pick (map make xs) ≡ xs
all_picked pick make one [] = refl
all_picked pick make one (x ∷ xs) = rw (one x, all_picked pick make one xs) refl

none_of_eps : {X : Type 0} (pick : Element → List X) → ((e : Predication) → pick (an_ep e) ≡ []) → (es : List Predication) → flat_map pick (map an_ep es) ≡ []
none_of_eps pick none [] = refl
none_of_eps pick none (e ∷ es) = rw (none e, none_of_eps pick none es) refl

parts_of : {X : Type 0} (pick : Element → List X) (es : List Predication) (hs is : List Constraint) → flat_map pick (three es hs is) ≡ flat_map pick (map an_ep es) ++ (flat_map pick (map an_hcon hs) ++ flat_map pick (map an_icon is))
parts_of pick es hs is = flat_map-append pick (map an_ep es) (map an_hcon hs ++ map an_icon is) ∙ ap (λ l. flat_map pick (map an_ep es) ++ l) (flat_map-append pick (map an_hcon hs) (map an_icon is))

pub eps_three : (es : List Predication) (hs is : List Constraint) → flat_map the_ep (three es hs is) ≡ es
eps_three es hs is = parts_of the_ep es hs is ∙ rw (all_picked the_ep an_ep (λ e. refl) es, none_picked the_ep an_hcon (λ c. refl) hs, none_picked the_ep an_icon (λ c. refl) is) (append-nil es)

pub hcons_three : (es : List Predication) (hs is : List Constraint) → flat_map the_hcon (three es hs is) ≡ hs
hcons_three es hs is = parts_of the_hcon es hs is ∙ rw (none_of_eps the_hcon (λ e. refl) es, all_picked the_hcon an_hcon (λ c. refl) hs, none_picked the_hcon an_icon (λ c. refl) is) (append-nil hs)

pub icons_three : (es : List Predication) (hs is : List Constraint) → flat_map the_icon (three es hs is) ≡ is
icons_three es hs is = parts_of the_icon es hs is ∙ rw (none_of_eps the_icon (λ e. refl) es, none_picked the_icon an_hcon (λ c. refl) hs, all_picked the_icon an_icon (λ c. refl) is) refl

pub an_element : Element
an_element = an_hcon (record { left = 0; rel = []; right = 0 })

-- the three bags of equal bags of elements
pub three_bags : (es fs : List Predication) (hs is ks ls : List Constraint) → IsPermutation (three es hs is) (three fs ks ls) → IsPermutation es fs × (IsPermutation hs ks × IsPermutation is ls)
three_bags es fs hs is ks ls p =
    let e = picked the_ep an_element (three es hs is) (three fs ks ls) p in
    let h = picked the_hcon an_element (three es hs is) (three fs ks ls) p in
    let i = picked the_icon an_element (three es hs is) (three fs ks ls) p in
    (rw (eps_three es hs is, eps_three fs ks ls) at e, (rw (hcons_three es hs is, hcons_three fs ks ls) at h, rw (icons_three es hs is, icons_three fs ks ls) at i))

pub one_bag : (es fs : List Predication) (hs is ks ls : List Constraint) → IsPermutation es fs → IsPermutation hs ks → IsPermutation is ls → IsPermutation (three es hs is) (three fs ks ls)
one_bag es fs hs is ks ls e h i =
    IsPermutation-append (map an_ep es) (map an_ep fs) (map an_hcon hs ++ map an_icon is) (map an_hcon ks ++ map an_icon ls) (IsPermutation-map an_ep es fs e)
    (IsPermutation-append (map an_hcon hs) (map an_hcon ks) (map an_icon is) (map an_icon ls) (IsPermutation-map an_hcon hs ks h) (IsPermutation-map an_icon is ls i))

-- elements of a renaming, as one bag
pub renaming_bag : (a b : Meaning) (to : List ℕ) → IsRenaming a b to → IsPermutation (map (renamed to) (elements a)) (elements b)
renaming_bag a b to r = rw (renamed_three to a, elements_three b) (one_bag _ _ _ _ _ _ r.eps r.hcons r.icons)

pub renaming_of : (a b : Meaning) (to : List ℕ) → IsVariableMap a.vars b.vars to → slice_index to a.top ≡ b.top → slice_index to a.index ≡ b.index → IsPermutation (map (renamed to) (elements a)) (elements b) → IsRenaming a b to
renaming_of a b to m t i p =
    let q = rw (renamed_three to a, elements_three b) at p in
    let w = three_bags _ _ _ _ _ _ q in
    record { vars = m; top = t; index = i; eps = w.0; hcons = w.1.0; icons = w.1.1 }

-- where a variable stands
any_front : {X : Type 0} (P : X → Type 0) (xs ys : List X) → Any P xs → Any P (xs ++ ys)
any_front P xs ys (k, x, l, e, p) = (k, x, (let n = length-append xs ys in omega (arith, n, l)), get_or-append xs ys x k l ∙ e, p)

any_back : {X : Type 0} (P : X → Type 0) (xs ys : List X) → Any P ys → Any P (xs ++ ys)
any_back P [] ys h = h
any_back P (z ∷ xs) ys h = let (k, x, l, e, p) = any_back P xs ys h in (suc k, x, omega arith, e, p)

pub stands_in_elements : (m : Meaning) (v : ℕ) → Stands m v → (m.top ≡ v) ⊎ ((m.index ≡ v) ⊎ Any (IsIn v) (elements m))
stands_in_elements m v (inl e) = inl e
stands_in_elements m v (inr (inl e)) = inr (inl e)
stands_in_elements m v (inr (inr (inl h))) = inr (inr (any_front (IsIn v) (map (λ e. an_ep (unspanned e)) m.eps) (map an_hcon m.hcons ++ map an_icon m.icons) (any_rows (λ e. an_ep (unspanned e)) (IsIn v) m.eps h)))
stands_in_elements m v (inr (inr (inr (inl h)))) =
    inr (inr (any_back (IsIn v) (map (λ e. an_ep (unspanned e)) m.eps) (map an_hcon m.hcons ++ map an_icon m.icons) (any_front (IsIn v) (map an_hcon m.hcons) (map an_icon m.icons) (any_rows an_hcon (IsIn v) m.hcons h))))
stands_in_elements m v (inr (inr (inr (inr h)))) =
    inr (inr (any_back (IsIn v) (map (λ e. an_ep (unspanned e)) m.eps) (map an_hcon m.hcons ++ map an_icon m.icons) (any_back (IsIn v) (map an_hcon m.hcons) (map an_icon m.icons) (any_rows an_icon (IsIn v) m.icons h))))
