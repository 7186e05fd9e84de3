-- Nodes that are variables, with their numbers.
use Rattle.std.proofs.Common.{◌≡◌, ◌≢◌, ℕ, zero, suc, ◌+◌, ◌<◌, ◌≤◌, ◌∙◌, Bool, true, false, List, [], ◌∷◌, ◌++◌, length, length-append, append_assoc, get_or, set, refl, ap, sym, subst, arith, below_more, Some, map, take}
use Rattle.std.specs.Prelude.{◌==◌, ◌||◌, All, filter, not}
use Rattle.std.specs.List.{slice_get, list_any, AllZip, flat_map}
use Rattle.std.proofs.lemmas.Bool.{eqb-true, eq-eqb}
use Rattle.std.proofs.lemmas.List.{get_or-set_same, get_or-set_other, length-set, append-nil}
use Rattle.std.proofs.lemmas.Option.{slice_get-get_or}
use Rattle.std.proofs.lemmas.Grind.{get_or_default_zero, flat_map-append}
use Rattle.std.proofs.Math.ListN.{get_or-append}
use Rattle.std.proofs.Math.Seq.{get_or-append_seam}
use Rattle.fs_graph.specs.declared.graph.GraphArc.{GraphArc}
use Rattle.fs_graph.specs.GraphMap.{GraphMap, type_at}
use Rattle.type_hierarchy.specs.Table.{TypeTable}
use Rattle.mrs_model.specs.Meanings.{Filler, of_var, of_text, Argument, Predication, Constraint}
use Rattle.mrs_places.specs.Paths.{Paths, feature_of}
use Rattle.mrs_places.specs.declared.lists.Element.{Element}
use Rattle.mrs_places.specs.Places.{pair_of, pairs_of, IsPairIn}
use Rattle.mrs_places.specs.declared.paths.MrsFeat.{MrsFeat}
use Rattle.mrs_places.specs.Looking.{Pair, is_number}
use Rattle.mrs_extract.specs.Extraction.{is_among, is_role, Is, IsFillerOf, IsArgumentAt, AreRolesAt, IsPredicationAt, IsConstraintAt, is_string, type_name, role_arcs, noted, all_noted}
use Rattle.mrs_extract.specs.Inner.Made.{NumberTree, AreSlots, AreMade, PutsRoles, filler_nodes, roles_among, nodes_among}
use Rattle.mrs_model.specs.declared.Role.{Role}
use Rattle.mrs_model.specs.Views.{argument_of}

-- a node among the noted ones
pub not_among : (n : ℕ) (ns : List ℕ) → ((j : ℕ) → j < length ns → get_or ns j 0 ≢ n) → list_any (λ m. m == n) ns ≡ false
not_among n [] none = refl
not_among n (m ∷ ms) none = by_test (m == n) refl (not_among n ms (λ j h. none (suc j) (omega (arith, h))))
  where
    by_test : (b : Bool) → (m == n) ≡ b → list_any (λ k. k == n) ms ≡ false → list_any (λ k. k == n) (m ∷ ms) ≡ false
    by_test true e rest = absurd (none 0 (omega arith) (eqb-true m n e))
    by_test false e rest = rw e rest

pub nowhere : (n : ℕ) (ns : List ℕ) → list_any (λ m. m == n) ns ≡ false → (j : ℕ) → j < length ns → get_or ns j 0 ≢ n
nowhere n [] e j lt q = absurd (omega (arith, lt))
nowhere n (m ∷ ms) e zero lt q =
    let yes : (m == n) ≡ true = eq-eqb m n q in
    let z : list_any (λ k. k == n) (m ∷ ms) ≡ true = rw yes refl in
    let w : true ≡ false = sym z ∙ e in
    absurd (cc)
nowhere n (m ∷ ms) e (suc j) lt q = nowhere n ms (tail_of (m == n) refl) j (omega (arith, lt)) q
  where
    tail_of : (b : Bool) → (m == n) ≡ b → list_any (λ k. k == n) ms ≡ false
    tail_of true t = let z : list_any (λ k. k == n) (m ∷ ms) ≡ true = rw t refl in let w : true ≡ false = sym z ∙ e in absurd (cc)
    tail_of false f = let z : list_any (λ k. k == n) (m ∷ ms) ≡ list_any (λ k. k == n) ms = rw f refl in sym z ∙ e

-- what the code reads: a slot, and what stands at that place
pub found_at : (b : NumberTree) (nodes slots : List ℕ) (n at known : ℕ) → record { nodes = nodes; size = length slots } ≡ b → at < length nodes → known ≡ get_or nodes at known → known ≡ n → Is b.nodes n at
found_at b nodes slots n at known e h k q = subst (λ (z : NumberTree). Is z.nodes n at) e (slice_get-get_or nodes at known h ∙ ap Some (sym k ∙ q))

slot_is : (nodes slots : List ℕ) (n at j : ℕ) → AreSlots nodes slots → get_or slots n 0 ≡ at → j < length nodes → get_or nodes j 0 ≡ n → at ≡ j
slot_is nodes slots n at j s p h f =
    let k = s.placed j h in
    let r : get_or slots n 0 ≡ j = subst (λ (z : ℕ). get_or slots z 0 ≡ j) f k in
    sym p ∙ r

pub past_at : (b : NumberTree) (nodes slots : List ℕ) (n at : ℕ) → record { nodes = nodes; size = length slots } ≡ b → AreSlots nodes slots → n < b.size → at ≡ get_or slots n at → length nodes ≤ at → list_any (λ m. m == n) b.nodes ≡ false
past_at b nodes slots n at e s l a h =
    let lt : n < length slots = subst (λ (z : NumberTree). n < z.size) (sym e) l in
    let p : get_or slots n 0 ≡ at = sym (a ∙ get_or_default_zero slots n at lt) in
    subst (λ (z : NumberTree). list_any (λ m. m == n) z.nodes ≡ false) e (not_among n nodes (λ j q f. (let r = slot_is nodes slots n at j s p q f in omega (arith, r, h, q))))

pub other_at : (b : NumberTree) (nodes slots : List ℕ) (n at known : ℕ) → record { nodes = nodes; size = length slots } ≡ b → AreSlots nodes slots → n < b.size → at ≡ get_or slots n at → at < length nodes → known ≡ get_or nodes at known → known ≢ n
    → list_any (λ m. m == n) b.nodes ≡ false
other_at b nodes slots n at known e s l a h k d =
    let lt : n < length slots = subst (λ (z : NumberTree). n < z.size) (sym e) l in
    let p : get_or slots n 0 ≡ at = sym (a ∙ get_or_default_zero slots n at lt) in
    subst (λ (z : NumberTree). list_any (λ m. m == n) z.nodes ≡ false) e
    (not_among n nodes (λ j q f. (let r = slot_is nodes slots n at j s p q f in d (k ∙ get_or_default_zero nodes at known h ∙ subst (λ (z : ℕ). get_or nodes z 0 ≡ n) (sym r) f))))

-- one more
pub slots_more : (b : NumberTree) (nodes slots : List ℕ) (n k : ℕ) → k ≡ length nodes → record { nodes = nodes; size = length slots } ≡ b → AreSlots nodes slots → n < b.size → list_any (λ m. m == n) b.nodes ≡ false → AreSlots (nodes ++ n ∷ []) (set slots n k)
slots_more b nodes slots n k c e s l none =
    let lt : n < length slots = subst (λ (z : NumberTree). n < z.size) (sym e) l in
    let free : list_any (λ m. m == n) nodes ≡ false = subst (λ (z : NumberTree). list_any (λ m. m == n) z.nodes ≡ false) (sym e) none in
    let m : length (nodes ++ n ∷ []) ≡ length nodes + 1 = length-append nodes (n ∷ []) in
    record {
      within = λ i h. rw (length-set slots n k) (below_more (λ j. get_or (nodes ++ n ∷ []) j 0 < length slots) (length nodes)
          (λ j q. rw (get_or-append nodes (n ∷ []) 0 j q) (s.within j q)) (rw (get_or-append_seam nodes n [] 0) lt) i (omega (arith, m, h)));
      placed = λ i h. below_more (λ j. get_or (set slots n k) (get_or (nodes ++ n ∷ []) j 0) 0 ≡ j) (length nodes)
          (λ j q. rw (get_or-append nodes (n ∷ []) 0 j q, get_or-set_other slots n (get_or nodes j 0) k 0 (nowhere n nodes free j q)) (s.placed j q))
          (rw (get_or-append_seam nodes n [] 0, get_or-set_same slots n k 0 lt) c) i (omega (arith, m, h));
    }

pub is_last : (nodes : List ℕ) (n k : ℕ) → k ≡ length nodes → Is (nodes ++ n ∷ []) n k
is_last [] n k e = rw e refl
is_last (m ∷ ms) n k e = rw e (is_last ms n (length ms) refl)

pub noted_new : (nodes : List ℕ) (n : ℕ) → list_any (λ m. m == n) nodes ≡ false → noted nodes n ≡ nodes ++ n ∷ []
noted_new nodes n e = rw e refl

or_true : (b : Bool) → (b || true) ≡ true
or_true true = refl
or_true false = refl

pub noted_old : (nodes : List ℕ) (n v : ℕ) → Is nodes n v → noted nodes n ≡ nodes
noted_old nodes n v is = by_test (list_any (λ m. m == n) nodes) refl
  where
    there : (ns : List ℕ) (k : ℕ) → slice_get ns k ≡ Some n → list_any (λ m. m == n) ns ≡ true
    there [] k s = absurd (cc)
    there (m ∷ ms) zero s = let q : m ≡ n = cc in rw (eq-eqb m n q) refl
    there (m ∷ ms) (suc k) s = rw (there ms k s) (or_true (m == n))

    by_test : (b : Bool) → list_any (λ m. m == n) nodes ≡ b → noted nodes n ≡ nodes
    by_test true e = rw e refl
    by_test false e = let w : true ≡ false = sym (there nodes v is) ∙ e in absurd (cc)

-- numbers stay as more nodes come
pub all_noted_append : (nodes xs ys : List ℕ) → all_noted nodes (xs ++ ys) ≡ all_noted (all_noted nodes xs) ys
all_noted_append nodes [] ys = refl
all_noted_append nodes (x ∷ xs) ys = all_noted_append (noted nodes x) xs ys

pub record Grows (old new : List ℕ) : Type 0 where
  pub more : List ℕ
  pub is : new ≡ old ++ more

pub noted_grows : (nodes : List ℕ) (n : ℕ) → Grows nodes (noted nodes n)
noted_grows nodes n = by_test (list_any (λ m. m == n) nodes) refl
  where
    by_test : (b : Bool) → list_any (λ m. m == n) nodes ≡ b → Grows nodes (noted nodes n)
    by_test true e = record { more = []; is = rw e (sym (append-nil nodes)) }
    by_test false e = record { more = n ∷ []; is = rw e refl }

pub grows_more : (a b c : List ℕ) → Grows a b → Grows b c → Grows a c
grows_more a b c f g = record { more = f.more ++ g.more; is = g.is ∙ ap (λ l. l ++ g.more) f.is ∙ append_assoc a f.more g.more }

pub all_noted_grows : (nodes ns : List ℕ) → Grows nodes (all_noted nodes ns)
all_noted_grows nodes [] = record { more = []; is = sym (append-nil nodes) }
all_noted_grows nodes (n ∷ ns) = grows_more nodes (noted nodes n) (all_noted (noted nodes n) ns) (noted_grows nodes n) (all_noted_grows (noted nodes n) ns)

is_within : (ns more : List ℕ) (n k : ℕ) → slice_get ns k ≡ Some n → slice_get (ns ++ more) k ≡ Some n
is_within [] more n k e = absurd (cc)
is_within (m ∷ ms) more n zero e = e
is_within (m ∷ ms) more n (suc k) e = is_within ms more n k e

pub is_later : (old new : List ℕ) (n v : ℕ) → Grows old new → Is old n v → Is new n v
is_later old new n v g is = subst (λ l. Is l n v) (sym g.is) (is_within old g.more n v is)

filler_later : (old new : List ℕ) (b : Bool) (text : List ℕ) (n : ℕ) (f : Filler) → Grows old new → IsFillerOf old b text n f → IsFillerOf new b text n f
filler_later old new true text n f g h = h
filler_later old new false text n (of_var v) g h = is_later old new n v g h
filler_later old new false text n (of_text t) g h = h

pub argument_later : (g : GraphMap) (types : TypeTable) (p : Paths) (old new : List ℕ) → Grows old new → (a : GraphArc) (x : Argument) → IsArgumentAt g types p old a x → IsArgumentAt g types p new a x
argument_later g types p old new grows a x h = record { role = h.role; filler = filler_later old new (is_string types (type_at g a.to.0)) (type_name types (type_at g a.to.0)) a.to.0 x.filler grows h.filler }

pub zip_by : {A B : Type 0} (R S : A → B → Type 0) → ((x : A) (y : B) → R x y → S x y) → (xs : List A) (ys : List B) → AllZip R xs ys → AllZip S xs ys
zip_by R S f [] [] h = tt
zip_by R S f [] (y ∷ ys) h = absurd h
zip_by R S f (x ∷ xs) [] h = absurd h
zip_by R S f (x ∷ xs) (y ∷ ys) h = (f x y h.0, zip_by R S f xs ys h.1)

pub zip_more : {A B : Type 0} (R : A → B → Type 0) (xs : List A) (ys : List B) (x : A) (y : B) → AllZip R xs ys → R x y → AllZip R (xs ++ x ∷ []) (ys ++ y ∷ [])
zip_more R [] [] x y h r = (r, tt)
zip_more R [] (b ∷ bs) x y h r = absurd h
zip_more R (a ∷ as_) [] x y h r = absurd h
zip_more R (a ∷ as_) (b ∷ bs) x y h r = (h.0, zip_more R as_ bs x y h.1 r)

pub roles_later : (g : GraphMap) (types : TypeTable) (p : Paths) (old new : List ℕ) → Grows old new → (n : ℕ) (args : List Argument) → AreRolesAt g types p old n args → AreRolesAt g types p new n args
roles_later g types p old new grows n args h = record {
  by_arc = h.by_arc;
  each = zip_by (IsArgumentAt g types p old) (IsArgumentAt g types p new) (argument_later g types p old new grows) (role_arcs g p n) h.by_arc h.each;
  same = h.same;
  order = h.order;
}

pub predication_later : (g : GraphMap) (types : TypeTable) (p : Paths) (old new : List ℕ) → Grows old new → (at : Pair) (e : Predication) → IsPredicationAt g types p old at e → IsPredicationAt g types p new at e
predication_later g types p old new grows at e h = record { pred = h.pred; label = is_later old new at.two e.label grows h.label; args = roles_later g types p old new grows at.at e.args h.args; span = h.span }

pub constraint_later : (g : GraphMap) (types : TypeTable) (p : Paths) (old new : List ℕ) → Grows old new → (at : Pair) (c : Constraint) → IsConstraintAt g types p old at c → IsConstraintAt g types p new at c
constraint_later g types p old new grows at c h = record { left = is_later old new at.one c.left grows h.left; rel = h.rel; right = is_later old new at.two c.right grows h.right }

-- elements of a list, one after the other
pub made_none : {B : Type 0} (R : List ℕ → Pair → B → Type 0) (f : Pair → List ℕ) (before : List ℕ) (ys : List B) → ys ≡ [] → AreMade R f before before [] ys
made_none R f before ys e = subst (AreMade R f before before []) (sym e) (record { nodes_are = refl; each = tt })

pub made_more : {B : Type 0} (R : List ℕ → Pair → B → Type 0) (f : Pair → List ℕ) → ((old new : List ℕ) → Grows old new → (x : Pair) (y : B) → R old x y → R new x y)
    → (before old new : List ℕ) (xs : List Pair) (ys : List B) (x : Pair) (y : B) → new ≡ all_noted old (f x) → R new x y → AreMade R f before old xs ys → AreMade R f before new (xs ++ x ∷ []) (ys ++ y ∷ [])
made_more R f later before old new xs ys x y e r h = record {
  nodes_are = e ∙ ap (λ l. all_noted l (f x)) h.nodes_are ∙ sym (all_noted_append before (flat_map f xs) (f x))
      ∙ ap (all_noted before) (sym (flat_map-append f xs (x ∷ []) ∙ ap (λ l. flat_map f xs ++ l) (append-nil (f x))));
  each = zip_more (R new) xs ys x y (zip_by (R old) (R new) (later old new (subst (Grows old) (sym e) (all_noted_grows old (f x)))) xs ys h.each) r;
}

pub pair_at : (es : List Element) (k : ℕ) (d : Element) → k < length es → take (k + 1) (pairs_of es) ≡ take k (pairs_of es) ++ pair_of (get_or es k d) ∷ []
pair_at [] k d lt = absurd (omega (arith, lt))
pair_at (e ∷ es) zero d lt = refl
pair_at (e ∷ es) (suc k) d lt =
    let q : suc k + 1 ≡ suc (k + 1) = omega arith in
    ap (λ (j : ℕ). take j (pairs_of (e ∷ es))) q ∙ ap (λ l. pair_of e ∷ l) (pair_at es k d (omega (arith, lt)))

pub pair_in : (size : ℕ) (es : List Element) (k : ℕ) (d : Element) → All (IsPairIn size) (pairs_of es) → k < length es → IsPairIn size (pair_of (get_or es k d))
pair_in size [] k d all lt = absurd (omega (arith, lt))
pair_in size (e ∷ es) zero d all lt = all 0 (pair_of e) (omega arith)
pair_in size (e ∷ es) (suc k) d all lt = pair_in size es k d (λ j x l. all (suc j) x (omega (arith, l))) (omega (arith, lt))

map_last : {A B : Type 0} (f : A → B) (xs : List A) (x : A) → map f (xs ++ x ∷ []) ≡ map f xs ++ f x ∷ []
map_last f [] x = refl
map_last f (y ∷ xs) x = ap (λ l. f y ∷ l) (map_last f xs x)

pub made_next : {B C : Type 0} (R : List ℕ → Pair → B → Type 0) (f : Pair → List ℕ) → ((old new : List ℕ) → Grows old new → (x : Pair) (y : B) → R old x y → R new x y)
    → (before old new : List ℕ) (es : List Element) (k : ℕ) (d : Element) (view : C → B) (cs more : List C) (c : C) → k < length es → more ≡ cs ++ c ∷ [] → new ≡ all_noted old (f (pair_of (get_or es k d)))
    → R new (pair_of (get_or es k d)) (view c) → AreMade R f before old (take k (pairs_of es)) (map view cs) → AreMade R f before new (take (k + 1) (pairs_of es)) (map view more)
made_next R f later before old new es k d view cs more c lt e n r h =
    subst (λ ys. AreMade R f before new (take (k + 1) (pairs_of es)) ys) (sym (ap (map view) e ∙ map_last view cs c))
    (subst (λ xs. AreMade R f before new xs (map view cs ++ view c ∷ [])) (sym (pair_at es k d lt))
    (made_more R f later before old new (take k (pairs_of es)) (map view cs) (pair_of (get_or es k d)) (view c) n r h))

-- the roles of arcs, one arc after the other
roles_split : (p : Paths) (as_ bs : List GraphArc) → roles_among p (as_ ++ bs) ≡ roles_among p as_ ++ roles_among p bs
roles_split p [] bs = refl
roles_split p (a ∷ as_) bs = by_test (is_role p a.feat.0) refl (roles_split p as_ bs)
  where
    by_test : (b : Bool) → is_role p a.feat.0 ≡ b → roles_among p (as_ ++ bs) ≡ roles_among p as_ ++ roles_among p bs → roles_among p (a ∷ (as_ ++ bs)) ≡ roles_among p (a ∷ as_) ++ roles_among p bs
    by_test true e h = rw e (ap (λ l. a ∷ l) h)
    by_test false e h = rw e h

map_split : {A B : Type 0} (f : A → B) (xs ys : List A) → map f (xs ++ ys) ≡ map f xs ++ map f ys
map_split f [] ys = refl
map_split f (x ∷ xs) ys = ap (λ l. f x ∷ l) (map_split f xs ys)

filter_split : (q : ℕ → Bool) (xs ys : List ℕ) → filter q (xs ++ ys) ≡ filter q xs ++ filter q ys
filter_split q [] ys = refl
filter_split q (x ∷ xs) ys = by_test (q x) refl (filter_split q xs ys)
  where
    by_test : (b : Bool) → q x ≡ b → filter q (xs ++ ys) ≡ filter q xs ++ filter q ys → filter q (x ∷ (xs ++ ys)) ≡ filter q (x ∷ xs) ++ filter q ys
    by_test true e h = rw e (ap (λ l. x ∷ l) h)
    by_test false e h = rw e h

nodes_split : (g : GraphMap) (types : TypeTable) (p : Paths) (as_ bs : List GraphArc) → nodes_among g types p (as_ ++ bs) ≡ nodes_among g types p as_ ++ nodes_among g types p bs
nodes_split g types p as_ bs =
    ap (λ l. filter (λ m. not (is_string types (type_at g m))) (map (λ a. a.to.0) l)) (roles_split p as_ bs)
    ∙ ap (filter (λ m. not (is_string types (type_at g m)))) (map_split (λ a. a.to.0) (roles_among p as_) (roles_among p bs))
    ∙ filter_split (λ m. not (is_string types (type_at g m))) (map (λ a. a.to.0) (roles_among p as_)) (map (λ a. a.to.0) (roles_among p bs))

zip_append : {A B : Type 0} (R : A → B → Type 0) (xs us : List A) (ys vs : List B) → AllZip R xs ys → AllZip R us vs → AllZip R (xs ++ us) (ys ++ vs)
zip_append R [] us [] vs z h = h
zip_append R [] us (y ∷ ys) vs z h = absurd z
zip_append R (x ∷ xs) us [] vs z h = absurd z
zip_append R (x ∷ xs) us (y ∷ ys) vs z h = (z.0, zip_append R xs us ys vs z.1 h)

take_one : {A : Type 0} (xs : List A) (k : ℕ) (d : A) → k < length xs → take (k + 1) xs ≡ take k xs ++ get_or xs k d ∷ []
take_one [] k d lt = absurd (omega (arith, lt))
take_one (x ∷ xs) zero d lt = refl
take_one (x ∷ xs) (suc k) d lt =
    let q : suc k + 1 ≡ suc (k + 1) = omega arith in
    ap (λ (j : ℕ). take j (x ∷ xs)) q ∙ ap (λ l. x ∷ l) (take_one xs k d (omega (arith, lt)))

module _ (g : GraphMap) (types : TypeTable) (p : Paths) (arcs : List GraphArc) (k : ℕ) (d : GraphArc) (lt : k < length arcs) (before old new : List ℕ)
    (noted_are : new ≡ all_noted old (nodes_among g types p (get_or arcs k d ∷ []))) where
  pub nodes_next : old ≡ all_noted before (nodes_among g types p (take k arcs)) → new ≡ all_noted before (nodes_among g types p (take (k + 1) arcs))
  nodes_next e =
      noted_are ∙ ap (λ l. all_noted l (nodes_among g types p (get_or arcs k d ∷ []))) e
      ∙ sym (all_noted_append before (nodes_among g types p (take k arcs)) (nodes_among g types p (get_or arcs k d ∷ [])))
      ∙ ap (all_noted before) (sym (nodes_split g types p (take k arcs) (get_or arcs k d ∷ [])) ∙ ap (nodes_among g types p) (sym (take_one arcs k d lt)))

  pub roles_next : (xs ys : List Argument) → AllZip (IsArgumentAt g types p old) (roles_among p (take k arcs)) xs → PutsRoles g types p new (get_or arcs k d ∷ []) xs ys → AllZip (IsArgumentAt g types p new) (roles_among p (take (k + 1) arcs)) ys
  roles_next xs ys z h =
      let grows : Grows old new = subst (Grows old) (sym noted_are) (all_noted_grows old (nodes_among g types p (get_or arcs k d ∷ []))) in
      let first = zip_by (IsArgumentAt g types p old) (IsArgumentAt g types p new) (argument_later g types p old new grows) (roles_among p (take k arcs)) xs z in
      subst (λ zs. AllZip (IsArgumentAt g types p new) (roles_among p (take (k + 1) arcs)) zs) (sym h.is)
      (subst (λ ls. AllZip (IsArgumentAt g types p new) ls (xs ++ h.more)) (sym (roles_split p (take k arcs) (get_or arcs k d ∷ [])) ∙ ap (roles_among p) (sym (take_one arcs k d lt)))
      (zip_append (IsArgumentAt g types p new) (roles_among p (take k arcs)) (roles_among p (get_or arcs k d ∷ [])) xs h.more first h.each))

-- a feature among those of the settings
pub among_found : (feats : List MrsFeat) (k f : ℕ) (x : MrsFeat) → k < length feats → x ≡ get_or feats k x → is_number (feature_of x).number f ≡ true → is_among (map feature_of feats) f ≡ true
among_found [] k f x lt q e = absurd (omega (arith, lt))
among_found (y ∷ ys) zero f x lt q e = rw (subst (λ z. is_number (feature_of z).number f ≡ true) q e) refl
among_found (y ∷ ys) (suc k) f x lt q e = rw (among_found ys k f x (omega (arith, lt)) q e) (or_true (is_number (feature_of y).number f))

-- the role of one arc
pub one_node : (g : GraphMap) (types : TypeTable) (p : Paths) (a : GraphArc) → is_role p a.feat.0 ≡ true → filler_nodes g types a.to.0 ≡ nodes_among g types p (a ∷ [])
one_node g types p a e = rw e (by_string (is_string types (type_at g a.to.0)) refl)
  where
    by_string : (b : Bool) → is_string types (type_at g a.to.0) ≡ b → filler_nodes g types a.to.0 ≡ filter (λ m. not (is_string types (type_at g m))) (a.to.0 ∷ [])
    by_string true s = rw s refl
    by_string false s = rw s refl

pub put_one : (g : GraphMap) (types : TypeTable) (p : Paths) (nodes : List ℕ) (a : GraphArc) (old new : List Role) (r : Role) → is_role p a.feat.0 ≡ true → new ≡ old ++ r ∷ [] → IsArgumentAt g types p nodes a (argument_of r)
    → PutsRoles g types p nodes (a ∷ []) (map argument_of old) (map argument_of new)
put_one g types p nodes a old new r e n h = record {
  more = argument_of r ∷ [];
  is = ap (map argument_of) n ∙ map_last argument_of old r;
  each = subst (λ arcs. AllZip (IsArgumentAt g types p nodes) arcs (argument_of r ∷ [])) (let z : a ∷ [] ≡ roles_among p (a ∷ []) = rw e refl in z) (h, tt);
}
