-- Equality up to renaming is reflexive, symmetric and transitive.
use Rattle.std.proofs.Common.{◌≡◌, ℕ, ◌<◌, ◌∙◌, List, [], ◌∷◌, ◌++◌, map, length, get_or, slice_index, refl, ap, sym, subst, arith, None}
use Rattle.std.specs.List.{slice_get, All, range_with_len}
use Rattle.std.specs.List.Sorted.{IsPermutation}
use Rattle.std.proofs.lemmas.List.{get_or-map}
use Rattle.std.proofs.lemmas.List.Elements.{All-map, All-append, All-head, All-tail}
use Rattle.std.proofs.lemmas.List.FromFn.{length-range_with_len, get_or-range_with_len}
use Rattle.std.proofs.lemmas.List.Sorted.{IsPermutation-map, IsPermutation-trans, IsPermutation-sym, IsPermutation-refl}
use Rattle.mrs_model.specs.Meanings.{Variable, Filler, of_var, of_text, Argument, Predication, Constraint, Meaning}
use Rattle.mrs_model.specs.Valid.{IsValid, IsFiller, IsArgument, IsPredication, IsConstraint}
use Rattle.mrs_model.specs.Renaming.{IsVariableMap, AreEqual, IsOneToOne, unspanned, renamed_filler, renamed_argument}
use Rattle.mrs_model.specs.Inner.Elements.{Element, an_ep, an_hcon, an_icon, elements, renamed}
use Rattle.mrs_model.specs.Inner.State.{IsOfVars}
use Rattle.mrs_model.proofs.Bags.{Placed, placed_of, permutation_of}
use Rattle.mrs_model.proofs.Rows.{length_rows}
use Rattle.mrs_model.proofs.Equal.{renaming_bag, renaming_of, map_twice}
use Rattle.mrs_model.proofs.Found.{unspanned_of}

-- what a function on variables makes of an element
abbrev moved_filler : (ℕ → ℕ) → Filler → Filler
moved_filler f (of_var v) = of_var (f v)
moved_filler f (of_text t) = of_text t

abbrev moved_argument : (ℕ → ℕ) → Argument → Argument
moved_argument f a = record { role = a.role; filler = moved_filler f a.filler }

abbrev moved : (ℕ → ℕ) → Element → Element
moved f (an_ep e) = an_ep (record { pred = e.pred; label = f e.label; args = map (moved_argument f) e.args; span = None })
moved f (an_hcon c) = an_hcon (record { left = f c.left; rel = c.rel; right = f c.right })
moved f (an_icon c) = an_icon (record { left = f c.left; rel = c.rel; right = f c.right })

renamed_filler_is : (to : List ℕ) (x : Filler) → moved_filler (λ v. slice_index to v) x ≡ renamed_filler to x
renamed_filler_is to (of_var v) = refl
renamed_filler_is to (of_text t) = refl

renamed_arguments_is : (to : List ℕ) (xs : List Argument) → map (renamed_argument to) xs ≡ map (moved_argument (λ v. slice_index to v)) xs
renamed_arguments_is to [] = refl
renamed_arguments_is to (a ∷ xs) = rw (renamed_arguments_is to xs, renamed_filler_is to a.filler) refl

fillers_same : (f g : ℕ → ℕ) (n : ℕ) (x : Filler) → ((v : ℕ) → v < n → f v ≡ g v) → IsFiller n x → moved_filler f x ≡ moved_filler g x
fillers_same f g n (of_var v) h l = ap of_var (h v l)
fillers_same f g n (of_text t) h l = refl

arguments_same : (f g : ℕ → ℕ) (n : ℕ) (xs : List Argument) → ((v : ℕ) → v < n → f v ≡ g v) → All (IsArgument n) xs → map (moved_argument f) xs ≡ map (moved_argument g) xs
arguments_same f g n [] h l = refl
arguments_same f g n (a ∷ xs) h l = rw (fillers_same f g n a.filler h (All-head (IsArgument n) a xs l).filler, arguments_same f g n xs h (All-tail (IsArgument n) a xs l)) refl

-- functions that agree on the variables
same_moved : (f g : ℕ → ℕ) (n : ℕ) (x : Element) → ((v : ℕ) → v < n → f v ≡ g v) → IsOfVars n x → moved f x ≡ moved g x
same_moved f g n (an_ep e) h l = rw (h e.label l.label, arguments_same f g n e.args h l.args) refl
same_moved f g n (an_hcon c) h l = rw (h c.left l.left, h c.right l.right) refl
same_moved f g n (an_icon c) h l = rw (h c.left l.left, h c.right l.right) refl

-- with no condition, where the function is the map
moved_all : (to : List ℕ) (x : Element) → renamed to x ≡ moved (λ v. slice_index to v) x
moved_all to (an_ep e) = rw (renamed_arguments_is to e.args) refl
moved_all to (an_hcon c) = refl
moved_all to (an_icon c) = refl

-- a renaming acts as a function that agrees with it on the variables
moved_is : (to : List ℕ) (f : ℕ → ℕ) (n : ℕ) (x : Element) → ((v : ℕ) → v < n → slice_index to v ≡ f v) → IsOfVars n x → renamed to x ≡ moved f x
moved_is to f n x h l = moved_all to x ∙ same_moved (λ v. slice_index to v) f n x h l

twice_filler : (f g : ℕ → ℕ) (x : Filler) → moved_filler g (moved_filler f x) ≡ moved_filler (λ v. g (f v)) x
twice_filler f g (of_var v) = refl
twice_filler f g (of_text t) = refl

twice_arguments : (f g : ℕ → ℕ) (xs : List Argument) → map (moved_argument g) (map (moved_argument f) xs) ≡ map (moved_argument (λ v. g (f v))) xs
twice_arguments f g [] = refl
twice_arguments f g (a ∷ xs) = rw (twice_filler f g a.filler, twice_arguments f g xs) refl

twice : (f g : ℕ → ℕ) (x : Element) → moved g (moved f x) ≡ moved (λ v. g (f v)) x
twice f g (an_ep e) = rw (twice_arguments f g e.args) refl
twice f g (an_hcon c) = refl
twice f g (an_icon c) = refl

still_filler : (x : Filler) → moved_filler (λ v. v) x ≡ x
still_filler (of_var v) = refl
still_filler (of_text t) = refl

still_arguments : (xs : List Argument) → map (moved_argument (λ v. v)) xs ≡ xs
still_arguments [] = refl
still_arguments (a ∷ xs) = rw (still_filler a.filler, still_arguments xs) refl

still_ep : (e : Predication) → moved (λ v. v) (an_ep (unspanned e)) ≡ an_ep (unspanned e)
still_ep e = rw (still_arguments e.args) refl

-- what holds of each element of a valid MRS
each_element : (P : Element → Type 0) (m : Meaning) → IsValid m → ((e : Predication) → IsPredication (length m.vars) e → P (an_ep (unspanned e))) → ((c : Constraint) → IsConstraint (length m.vars) c → P (an_hcon c))
    → ((c : Constraint) → IsConstraint (length m.vars) c → P (an_icon c)) → All P (elements m)
each_element P m v e h i =
    All-append P (map (λ x. an_ep (unspanned x)) m.eps) (map an_hcon m.hcons ++ map an_icon m.icons) (All-map P (λ x. an_ep (unspanned x)) m.eps (λ k d l. e (get_or m.eps k d) (v.eps k d l)))
    (All-append P (map an_hcon m.hcons) (map an_icon m.icons) (All-map P an_hcon m.hcons (λ k d l. h (get_or m.hcons k d) (v.hcons k d l))) (All-map P an_icon m.icons (λ k d l. i (get_or m.icons k d) (v.icons k d l))))

map_each : (f g : Element → Element) (xs : List Element) → All (λ x. f x ≡ g x) xs → map f xs ≡ map g xs
map_each f g [] h = refl
map_each f g (x ∷ xs) h = rw (All-head (λ y. f y ≡ g y) x xs h, map_each f g xs (All-tail (λ y. f y ≡ g y) x xs h)) refl

map_still : (f : Element → Element) (xs : List Element) → All (λ x. f x ≡ x) xs → map f xs ≡ xs
map_still f [] h = refl
map_still f (x ∷ xs) h = rw (All-head (λ y. f y ≡ y) x xs h, map_still f xs (All-tail (λ y. f y ≡ y) x xs h)) refl

-- the map that leaves each variable
abbrev identity : ℕ → List ℕ
identity n = range_with_len 0 n

identity_at : (n v : ℕ) → v < n → slice_index (identity n) v ≡ v
identity_at n v l = get_or-range_with_len 0 n v 0 l ∙ omega arith

identity_map : (vars : List Variable) → IsVariableMap vars vars (identity (length vars))
identity_map vars =
    let n = length vars in
    let e = length-range_with_len 0 n in
    record {
      every = e;
      onto = refl;
      within = λ v l. (let p = identity_at n v (omega (arith, e, l)) in omega (arith, e, l, p));
      one_to_one = λ v w lv lw q. sym (identity_at n v (omega (arith, e, lv))) ∙ q ∙ identity_at n w (omega (arith, e, lw));
      kept = λ v l. rw (identity_at n v (omega (arith, e, l))) refl;
    }

pub reflexive : (m : Meaning) → IsValid m → AreEqual m m
reflexive m v =
    let n = length m.vars in
    let to = identity n in
    let at = identity_at n in
    let all : All (λ x. renamed to x ≡ x) (elements m) = each_element (λ x. renamed to x ≡ x) m v
    (λ e p. moved_is to (λ w. w) n (an_ep (unspanned e)) at (unspanned_of n e p) ∙ still_ep e) (λ c p. moved_is to (λ w. w) n (an_hcon c) at p) (λ c p. moved_is to (λ w. w) n (an_icon c) at p) in (
      to,
      renaming_of m m to (identity_map m.vars) (at m.top v.top) (at m.index v.index)
          (subst (λ (l : List Element). IsPermutation (map (renamed to) (elements m)) l) (map_still (renamed to) (elements m) all) (IsPermutation-refl (map (renamed to) (elements m)))),
    )

-- one map after another
abbrev then : List ℕ → List ℕ → List ℕ
then to more = map (λ v. slice_index more v) to

then_at : (to more : List ℕ) (v : ℕ) → v < length to → slice_index (then to more) v ≡ slice_index more (slice_index to v)
then_at to more v l = get_or-map (λ w. slice_index more w) to v 0 0 l

then_map : (a b c : List Variable) (to more : List ℕ) → IsVariableMap a b to → IsVariableMap b c more → IsVariableMap a c (then to more)
then_map a b c to more p q =
    let n = length_rows (λ w. slice_index more w) to in
    let e = p.every in
    let o = p.onto in
    let f = q.every in
    let at : (v : ℕ) → v < length (then to more) → slice_index (then to more) v ≡ slice_index more (slice_index to v) = λ v l. then_at to more v (omega (arith, n, l)) in
    let in' : (v : ℕ) → v < length (then to more) → slice_index to v < length more = λ v l. (let w = p.within v (omega (arith, n, l)) in omega (arith, w, f)) in
    record {
      every = n ∙ e;
      onto = q.onto ∙ o;
      within = λ v l. rw (at v l) (q.within (slice_index to v) (in' v l));
      one_to_one = λ v w lv lw h. p.one_to_one v w (omega (arith, n, lv)) (omega (arith, n, lw)) (q.one_to_one (slice_index to v) (slice_index to w) (in' v lv) (in' w lw) (sym (at v lv) ∙ h ∙ at w lw));
      kept = λ v l. rw (at v l) (q.kept (slice_index to v) (in' v l) ∙ p.kept v (omega (arith, n, l)));
    }

both : (to more t : List ℕ) (n : ℕ) (x : Element) → ((v : ℕ) → v < n → slice_index t v ≡ slice_index more (slice_index to v)) → IsOfVars n x → renamed t x ≡ renamed more (renamed to x)
both to more t n x at l =
    moved_is t (λ v. slice_index more (slice_index to v)) n x at l
    ∙ sym (twice (λ v. slice_index to v) (λ v. slice_index more v) x)
    ∙ ap (moved (λ v. slice_index more v)) (sym (moved_all to x)) ∙ sym (moved_all more (renamed to x))

pub transitive : (a b c : Meaning) → IsValid a → AreEqual a b → AreEqual b c → AreEqual a c
transitive a b c va (to, r) (more, s) =
    let n = length a.vars in
    let e = r.vars.every in
    let o = r.vars.onto in
    let t = then to more in
    let f = λ (v : ℕ). slice_index more (slice_index to v) in
    let at : (v : ℕ) → v < n → slice_index t v ≡ f v = λ v l. then_at to more v (omega (arith, e, l)) in
    let step : (x : Element) → IsOfVars n x → renamed t x ≡ renamed more (renamed to x) = λ x l. both to more t n x at l in
    let all : All (λ x. renamed t x ≡ renamed more (renamed to x)) (elements a) = each_element (λ x. renamed t x ≡ renamed more (renamed to x)) a va
    (λ x p. step (an_ep (unspanned x)) (unspanned_of n x p)) (λ x p. step (an_hcon x) p) (λ x p. step (an_icon x) p) in
    let whole : map (renamed t) (elements a) ≡ map (renamed more) (map (renamed to) (elements a)) = map_each (renamed t) (λ x. renamed more (renamed to x)) (elements a) all ∙ sym (map_twice (renamed to) (renamed more) (elements a)) in
    let bag = IsPermutation-trans (map (renamed more) (map (renamed to) (elements a))) (map (renamed more) (elements b)) (elements c)
    (IsPermutation-map (renamed more) (map (renamed to) (elements a)) (elements b) (renaming_bag a b to r)) (renaming_bag b c more s) in (
      t,
      renaming_of a c t (then_map a.vars b.vars c.vars to more r.vars s.vars) (at a.top va.top ∙ ap (λ v. slice_index more v) r.top ∙ s.top) (at a.index va.index ∙ ap (λ v. slice_index more v) r.index ∙ s.index)
          (subst (λ (l : List Element). IsPermutation l (elements c)) (sym whole) bag),
    )

-- the inverse of a map of variables
abbrev place_of_all : (n : ℕ) (to : List ℕ) → length to ≡ n → ((v : ℕ) → v < length to → slice_index to v < n) → IsOneToOne to → Placed 0 (identity n) to
place_of_all n to e within one =
    let l = length-range_with_len 0 n in
    placed_of 0 (identity n) to (IsPermutation-sym to (identity n) (permutation_of 0 to (identity n) (record {
      even = l ∙ sym e;
      place = λ k. slice_index to k;
      within = λ k h. (let w = within k h in omega (arith, w, l));
      apart = one;
      same = λ k h. identity_at n (slice_index to k) (within k h);
    })))

abbrev inverse : (n : ℕ) (to : List ℕ) → Placed 0 (identity n) to → List ℕ
inverse n to p = map p.place (identity n)

inverse_at : (n : ℕ) (to : List ℕ) (p : Placed 0 (identity n) to) (w : ℕ) → w < n → slice_index (inverse n to p) w ≡ p.place w
inverse_at n to p w l =
    let e = length-range_with_len 0 n in
    get_or-map p.place (identity n) w 0 0 (omega (arith, e, l)) ∙ ap p.place (identity_at n w l)

there_again : (n : ℕ) (to : List ℕ) (p : Placed 0 (identity n) to) (w : ℕ) → w < n → slice_index to (slice_index (inverse n to p) w) ≡ w
there_again n to p w l =
    let e = length-range_with_len 0 n in
    ap (λ v. slice_index to v) (inverse_at n to p w l) ∙ p.same w (omega (arith, e, l)) ∙ identity_at n w l

inverse_map : (a b : List Variable) (to : List ℕ) (p : Placed 0 (identity (length b)) to) → IsVariableMap a b to → IsVariableMap b a (inverse (length b) to p)
inverse_map a b to p m =
    let n = length b in
    let e = length-range_with_len 0 n in
    let l = length_rows p.place (identity n) in
    let o = m.onto in
    let v = m.every in
    let inv = inverse n to p in
    let in' : (w : ℕ) → w < length inv → slice_index inv w < length to = λ w h. (let q = inverse_at n to p w (omega (arith, l, e, h)) in let r = p.within w (omega (arith, l, e, h)) in omega (arith, q, r)) in
    record {
      every = l ∙ e;
      onto = sym o;
      within = λ w h. (let q = in' w h in omega (arith, q, v));
      one_to_one = λ w x hw hx q. sym (there_again n to p w (omega (arith, l, e, hw))) ∙ ap (λ z. slice_index to z) q ∙ there_again n to p x (omega (arith, l, e, hx));
      kept = λ w h. sym (m.kept (slice_index inv w) (in' w h)) ∙ ap (λ z. slice_get b z) (there_again n to p w (omega (arith, l, e, h)));
    }

round : (to inv : List ℕ) (n : ℕ) (x : Element) → ((v : ℕ) → v < n → slice_index inv (slice_index to v) ≡ v) → IsOfVars n x → renamed inv (renamed to x) ≡ moved (λ v. v) x
round to inv n x back l =
    moved_all inv (renamed to x) ∙ ap (moved (λ v. slice_index inv v)) (moved_all to x) ∙ twice (λ v. slice_index to v) (λ v. slice_index inv v) x
    ∙ same_moved (λ v. slice_index inv (slice_index to v)) (λ v. v) n x back l

pub symmetric : (a b : Meaning) → IsValid a → IsValid b → AreEqual a b → AreEqual b a
symmetric a b va vb (to, r) =
    let n = length b.vars in
    let m = r.vars in
    let e = m.every in
    let o = m.onto in
    let p = place_of_all n to (e ∙ sym o) m.within m.one_to_one in
    let inv = inverse n to p in
    let im = inverse_map a.vars b.vars to p m in
    let ie = im.every in
    let back : (v : ℕ) → v < length a.vars → slice_index inv (slice_index to v) ≡ v = λ v l.
    (let h : v < length to = omega (arith, e, l) in
    let w = m.within v h in
    let i = im.within (slice_index to v) (omega (arith, ie, w)) in
    m.one_to_one (slice_index inv (slice_index to v)) v (omega (arith, i, e)) h (there_again n to p (slice_index to v) w)) in
    let step : (x : Element) → IsOfVars (length a.vars) x → renamed inv (renamed to x) ≡ moved (λ v. v) x = λ x l. round to inv (length a.vars) x back l in
    let all : All (λ x. renamed inv (renamed to x) ≡ x) (elements a) = each_element (λ x. renamed inv (renamed to x) ≡ x) a va
    (λ x q. step (an_ep (unspanned x)) (unspanned_of (length a.vars) x q) ∙ still_ep x) (λ x q. step (an_hcon x) q) (λ x q. step (an_icon x) q) in
    let whole : map (renamed inv) (map (renamed to) (elements a)) ≡ elements a = map_twice (renamed to) (renamed inv) (elements a) ∙ map_still (λ x. renamed inv (renamed to x)) (elements a) all in
    let bag = IsPermutation-map (renamed inv) (elements b) (map (renamed to) (elements a)) (IsPermutation-sym (map (renamed to) (elements a)) (elements b) (renaming_bag a b to r)) in (
      inv,
      renaming_of b a inv im (ap (λ z. slice_index inv z) (sym r.top) ∙ back a.top va.top) (ap (λ z. slice_index inv z) (sym r.index) ∙ back a.index va.index)
          (subst (λ (l : List Element). IsPermutation (map (renamed inv) (elements b)) l) whole bag),
    )
