-- What a structure says, as a list.
use Rattle.std.specs.Prelude.{ℕ, ◌≡◌, ◌==◌, Bool, true, false, Option, Some, None, List, [], ◌∷◌, ◌++◌, map}
use Rattle.std.proofs.Common.{refl, ap, sym, ◌∙◌, subst, eqb-true, eq-eqb}
use Rattle.fs_model.specs.Claims.{Path, Claim, same, below, System, Has, here, there}
use Rattle.fs_model.specs.Closure.{Closure, given_claim}
use Rattle.fs_model.specs.Sources.{Reader, Told, told_claim, told_part, IsSameStructure}
use Rattle.tree_model.specs.Structures.{Structure, pairs_of, Beside, beside_here, beside_there, Says, says_type, says_equal}
use Rattle.tree_model.specs.Cuts.{Cut, Trims}
use Rattle.tree_model.specs.Views.{view_type, same_node, view, IsInside, source_of}
use Rattle.tree_model.specs.Said.{type_claims, equal_claims, source_said, rule_alone, rule_said, SaidIsSays, SaidCloses, SaidTrims, SaidIsConsistent, SameViews}
use Rattle.tree_model.proofs.Closures.{grows, falls, keeps_more, trimmed_grows, has_append_left, has_append_right}
use Rattle.tree_model.proofs.ViewLemmas.{says_tells, tells_says, at_root, shows_same}

type_back : (ps : List Path) (ts : List (Option ℕ)) {c : Claim} → Has c (type_claims ps ts) → (p : Path) × (t : ℕ) × Beside p (Some t) ps ts × (c ≡ below p t)
type_back [] ts h = elim h [ ]
type_back (p ∷ ps) [] h = elim h [ ]
type_back (p ∷ ps) (None ∷ ts) h = let z = type_back ps ts h in (z.0, z.1, beside_there z.2, z.3)
type_back (p ∷ ps) (Some t ∷ ts) here = (p, t, beside_here, refl)
type_back (p ∷ ps) (Some t ∷ ts) (there h) = let z = type_back ps ts h in (z.0, z.1, beside_there z.2, z.3)

type_there : (p : Path) (t : ℕ) (ps : List Path) (ts : List (Option ℕ)) → Beside p (Some t) ps ts → Has (below p t) (type_claims ps ts)
type_there p t [] ts h = elim h [ ]
type_there p t (q ∷ ps) [] h = elim h [ ]
type_there p t (_ ∷ ps) (Some _ ∷ ts) beside_here = here
type_there p t (q ∷ ps) (None ∷ ts) (beside_there h) = type_there p t ps ts h
type_there p t (q ∷ ps) (Some u ∷ ts) (beside_there h) = there (type_there p t ps ts h)

equal_back : (ps : List (Path × Path)) (bs : List Bool) {c : Claim} → Has c (equal_claims ps bs) → (pq : Path × Path) × Beside pq true ps bs × (c ≡ same pq.0 pq.1)
equal_back [] bs h = elim h [ ]
equal_back (p ∷ ps) [] h = elim h [ ]
equal_back (p ∷ ps) (false ∷ bs) h = let z = equal_back ps bs h in (z.0, beside_there z.1, z.2)
equal_back (p ∷ ps) (true ∷ bs) here = (p, beside_here, refl)
equal_back (p ∷ ps) (true ∷ bs) (there h) = let z = equal_back ps bs h in (z.0, beside_there z.1, z.2)

equal_there : (pq : Path × Path) (ps : List (Path × Path)) (bs : List Bool) → Beside pq true ps bs → Has (same pq.0 pq.1) (equal_claims ps bs)
equal_there pq [] bs h = elim h [ ]
equal_there pq (q ∷ ps) [] h = elim h [ ]
equal_there pq (_ ∷ ps) (true ∷ bs) beside_here = here
equal_there pq (q ∷ ps) (false ∷ bs) (beside_there h) = equal_there pq ps bs h
equal_there pq (q ∷ ps) (true ∷ bs) (beside_there h) = there (equal_there pq ps bs h)

one_of : {R : Type 0} (xs : List Claim) {ys : List Claim} {c : Claim} → (Has c xs → R) → (Has c ys → R) → Has c (xs ++ ys) → R
one_of [] k l h = l h
one_of (y ∷ xs) k l here = k here
one_of (y ∷ xs) k l (there h) = one_of xs (λ x. k (there x)) l h

said_to : (ps : List Path) (m : Structure) (c : Claim) → Told (source_said ps m) c → Says ps m c
said_to ps m c (told_claim _ h) = one_of (type_claims ps m.types) typed paired h
  where
    typed : Has c (type_claims ps m.types) → Says ps m c
    typed k = let z = type_back ps m.types k in subst (Says ps m) (sym z.3) (says_type z.0 z.1 z.2)

    paired : Has c (equal_claims (pairs_of ps) m.equal) → Says ps m c
    paired k = let z = equal_back (pairs_of ps) m.equal k in subst (Says ps m) (sym z.2) (says_equal z.0.0 z.0.1 z.1)
said_to ps m _ (told_part part c h a) = elim h [ ]

said_has : (ps : List Path) (m : Structure) (c : Claim) → Says ps m c → Has c (source_said ps m).claims
said_has ps m _ (says_type p t b) = has_append_left (equal_claims (pairs_of ps) m.equal) (type_there p t ps m.types b)
said_has ps m _ (says_equal p q b) = has_append_right (type_claims ps m.types) (equal_there (p, q) (pairs_of ps) m.equal b)

pub said_is_says : SaidIsSays
said_is_says ps m c = (said_to ps m c, λ a. told_claim c (said_has ps m c a))

module _ (s : System) (ps : List Path) (r : Reader) (places : List Path) (rs : List Reader) where
  to_said : IsInside ps r → (c : Claim) → Told (source_of (rule_alone r places) rs) c → Closure s (Told (source_of (rule_said ps r places) rs)) c
  to_said inside c (told_claim _ h) = elim h [ ]
  to_said inside _ (told_part part c here a) =
      subst (Closure s (Told (source_of (rule_said ps r places) rs))) (sym (at_root c))
      (grows s (λ d y. given_claim d (told_claim d (said_has ps (view ps r) d y))) (tells_says s ps r inside c a))
  to_said inside _ (told_part part c (there h) a) = given_claim _ (told_part part c h a)

  from_said : (c : Claim) → Told (source_of (rule_said ps r places) rs) c → Closure s (Told (source_of (rule_alone r places) rs)) c
  from_said c (told_claim _ h) =
      let y = says_tells s ps r c (said_to ps (view ps r) c (told_claim c h)) in
      given_claim c (subst (Told (source_of (rule_alone r places) rs)) (at_root c) (told_part (record { place = []; reader = r }) c here y))
  from_said _ (told_part part c h a) = given_claim _ (told_part part c (there h) a)

  pub alone_said : IsInside ps r → {c : Claim} → Closure s (Told (source_of (rule_alone r places) rs)) c → Closure s (Told (source_of (rule_said ps r places) rs)) c
  alone_said inside a = grows s (to_said inside) a

  pub said_alone : {c : Claim} → Closure s (Told (source_of (rule_said ps r places) rs)) c → Closure s (Told (source_of (rule_alone r places) rs)) c
  said_alone a = grows s from_said a

pub said_closes : SaidCloses
said_closes s ps r places rs inside c = (λ a. alone_said s ps r places rs inside a, λ a. said_alone s ps r places rs a)

pub said_is_consistent : SaidIsConsistent
said_is_consistent s ps r places rs inside =
    (λ ok. falls s (λ c a. said_alone s ps r places rs a) ok, λ ok. falls s (λ c a. alone_said s ps r places rs inside a) ok)

trims_grows : (s : System) (cuts : List Cut) {G H : Claim → Type 0} → ((c : Claim) → G c → H c) → (c : Claim) → Trims s cuts G c → Trims s cuts H c
trims_grows s [] k c a = k c a
trims_grows s (cut ∷ cuts) k c a = trims_grows s cuts (λ d y. trimmed_grows s k y) c a

pub said_trims : SaidTrims
said_trims s ps r places rs inside cuts last None refused = λ ok. refused ((said_is_consistent s ps r places rs inside).1 ok)
said_trims s ps r places rs inside cuts last (Some graph) made = (
  (said_is_consistent s ps r places rs inside).0 made.0,
  shows_same s graph
      (λ c a. keeps_more (trims_grows s cuts (λ d y. alone_said s ps r places rs inside y)) a)
      (λ c a. keeps_more (trims_grows s cuts (λ d y. said_alone s ps r places rs y)) a) made.1,
)

map_same : {A B : Type 0} (f h : A → B) → ((a : A) → f a ≡ h a) → (xs : List A) → map f xs ≡ map h xs
map_same f h k [] = refl
map_same f h k (x ∷ xs) = rw (k x, map_same f h k xs) refl

module _ (a b : Reader) (is : IsSameStructure a b) where
  type_same : (p : Path) → view_type a (a.node_at p) ≡ view_type b (b.node_at p)
  type_same p = by_nodes (a.node_at p) (b.node_at p) refl refl
    where
      by_nodes : (o v : Option ℕ) → a.node_at p ≡ o → b.node_at p ≡ v → view_type a o ≡ view_type b v
      by_nodes None None e f = refl
      by_nodes None (Some m) e f = absurd (let z = is.there_back p m f in let y = z.1 in cc)
      by_nodes (Some n) None e f = absurd (let z = is.there p n e in let y = z.1 in cc)
      by_nodes (Some n) (Some m) e f = ap Some (is.types p n m e f)

  equal_same : (pq : Path × Path) → same_node (a.node_at pq.0) (a.node_at pq.1) ≡ same_node (b.node_at pq.0) (b.node_at pq.1)
  equal_same pq = by_nodes (a.node_at pq.0) (a.node_at pq.1) (b.node_at pq.0) (b.node_at pq.1) refl refl refl refl
    where
      by_tests : (n m k l : ℕ) → a.node_at pq.0 ≡ Some n → a.node_at pq.1 ≡ Some m → b.node_at pq.0 ≡ Some k → b.node_at pq.1 ≡ Some l → (x y : Bool) → (n == m) ≡ x → (k == l) ≡ y → (n == m) ≡ (k == l)
      by_tests n m k l e f g h true true i j = i ∙ sym j
      by_tests n m k l e f g h false false i j = i ∙ sym j
      by_tests n m k l e f g h true false i j =
          let z = is.equal pq.0 pq.1 n k e (f ∙ ap Some (sym (eqb-true n m i))) g in
          absurd (let y = eq-eqb k l (let w : k ≡ l = cc in w) in cc)
      by_tests n m k l e f g h false true i j =
          let z = is.equal_back pq.0 pq.1 k n g (h ∙ ap Some (sym (eqb-true k l j))) e in
          absurd (let y = eq-eqb n m (let w : n ≡ m = cc in w) in cc)

      by_nodes : (o v x y : Option ℕ) → a.node_at pq.0 ≡ o → a.node_at pq.1 ≡ v → b.node_at pq.0 ≡ x → b.node_at pq.1 ≡ y → same_node o v ≡ same_node x y
      by_nodes (Some n) (Some m) (Some k) (Some l) e f g h = by_tests n m k l e f g h (n == m) (k == l) refl refl
      by_nodes None v None y e f g h = refl
      by_nodes None v (Some k) y e f g h = absurd (let z = is.there_back pq.0 k g in let w = z.1 in cc)
      by_nodes (Some n) v None y e f g h = absurd (let z = is.there pq.0 n e in let w = z.1 in cc)
      by_nodes (Some n) None (Some k) None e f g h = refl
      by_nodes (Some n) None (Some k) (Some l) e f g h = absurd (let z = is.there_back pq.1 l h in let w = z.1 in cc)
      by_nodes (Some n) (Some m) (Some k) None e f g h = absurd (let z = is.there pq.1 m f in let w = z.1 in cc)

pub same_views : SameViews
same_views ps a b is =
    rw (
      map_same (λ p. view_type a (a.node_at p)) (λ p. view_type b (b.node_at p)) (type_same a b is) ps,
      map_same (λ (pq : Path × Path). same_node (a.node_at pq.0) (a.node_at pq.1)) (λ (pq : Path × Path). same_node (b.node_at pq.0) (b.node_at pq.1)) (equal_same a b is) (pairs_of ps),
    ) refl
