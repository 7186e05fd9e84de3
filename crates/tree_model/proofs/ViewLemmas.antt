-- What a body of `apply` proves of its graphs, and what the definitions say of their structures.
use Rattle.std.specs.Prelude.{ℕ, ◌≡◌, ◌==◌, Bool, true, false, Option, Some, None, List, [], ◌∷◌, ◌++◌, map}
use Rattle.std.proofs.Common.{refl, ap, sym, ◌∙◌, subst, eqb-true, eq-eqb}
use Rattle.fs_model.specs.Claims.{Path, Claim, exists_at, same, below, at, System, Has, here, there}
use Rattle.fs_model.specs.Sources.{Reader, Tells, tells_exists, tells_same, tells_below, Part, Told, told_claim, told_part, Subsumes, IsGraphOf}
use Rattle.fs_model.specs.Closure.{Closure, given_claim, below_exists, IsConsistent}
use Rattle.tree_model.specs.Structures.{Structure, pairs_of, Along, along_none, along_more, Beside, beside_here, beside_there, all_along, over_type, over_equal, over, Says, says_type, says_equal, IsTypeAt, IsEqualAt, IsStructureOf}
use Rattle.tree_model.specs.Mothers.{Rule, RuleSystem, Parts, of_rule, of_daughter, Meant, Whole, Applies, IsFull, IsShape, IsAbstract, daughters_cut, restrictors_cut}
use Rattle.tree_model.specs.Views.{view_type, same_node, view, IsInside, Shows, IsTrimmed, parts_at, source_of, source_alone, AllInside, inside_none, inside_more}
use Rattle.tree_model.proofs.Overs.{both, joined}
use Rattle.tree_model.proofs.Closures.{grows, moved, falls, keeps_more, trimmed_grows, has_pair, has_append_left, has_append_right}

-- claims that hold together are shown by the same graphs
pub shows_same : (s : System) {G H : Claim → Type 0} (r : Reader) → ((c : Claim) → G c → H c) → ((c : Claim) → H c → G c) → Shows s G r → Shows s H r
shows_same s {G} {H} r to back is = record {
  paths = λ p. (λ a. (is.paths p).0 (back _ a), λ a. to _ ((is.paths p).1 a));
  equalities = λ p q. (λ a. (is.equalities p q).0 (back _ a), λ a. to _ ((is.equalities p q).1 a));
  types_there = λ p n e. to _ (is.types_there p n e);
  types_above = λ p n t e a. is.types_above p n t e (back _ a);
}

-- the graph of a closure shows the closure
pub graph_shows : (s : System) {G : Claim → Type 0} (r : Reader) → IsGraphOf s G r → Shows s (Closure s G) r
graph_shows s r is = record { paths = is.paths; equalities = is.equalities; types_there = is.types_there; types_above = is.types_above }

along_map : {A B : Type 0} {R : A → B → Type 0} (f : A → B) → ((a : A) → R a (f a)) → (xs : List A) → Along R xs (map f xs)
along_map f r [] = along_none
along_map f r (x ∷ xs) = along_more (r x) (along_map f r xs)

beside_map : {A B : Type 0} (f : A → B) {a : A} {xs : List A} → Has a xs → Beside a (f a) xs (map f xs)
beside_map f here = beside_here
beside_map f (there h) = beside_there (beside_map f h)

beside_is : {A B : Type 0} (f : A → B) {a : A} {b : B} (xs : List A) → Beside a b xs (map f xs) → b ≡ f a
beside_is f [] h = elim h [ ]
beside_is f (x ∷ xs) beside_here = refl
beside_is f (x ∷ xs) (beside_there h) = beside_is f xs h

module _ (s : System) (ps : List Path) where
  -- the view of a graph is the structure of what it shows
  pub viewed : {G : Claim → Type 0} (r : Reader) → Shows s G r → IsInside ps r → IsStructureOf s ps G (view ps r)
  viewed {G} r is inside = record {
    types = along_map (λ p. view_type r (r.node_at p)) (λ p. type_by p (r.node_at p) refl) ps;
    equal = along_map (λ (pq : Path × Path). same_node (r.node_at pq.0) (r.node_at pq.1)) (λ pq. equal_by pq (same_node (r.node_at pq.0) (r.node_at pq.1)) refl) (pairs_of ps);
    inside = λ p a. let z = (is.paths p).0 a in inside p z.0 z.1;
  }
    where
      type_by : (p : Path) (o : Option ℕ) → r.node_at p ≡ o → IsTypeAt s G p (view_type r o)
      type_by p None e = λ a. let z = (is.paths p).0 a in let y = z.1 in cc
      type_by p (Some n) e = (is.types_there p n e, λ u a. is.types_above p n u e a)

      nodes : (o v : Option ℕ) → same_node o v ≡ true → (n : ℕ) × (o ≡ Some n) × (v ≡ Some n)
      nodes None v h = absurd (cc)
      nodes (Some n) None h = absurd (cc)
      nodes (Some n) (Some m) h = (n, refl, ap Some (sym (eqb-true n m h)))

      equal_by : (pq : Path × Path) (b : Bool) → same_node (r.node_at pq.0) (r.node_at pq.1) ≡ b → IsEqualAt G pq b
      equal_by pq false e = λ a. let z = (is.equalities pq.0 pq.1).0 a in
          let y : same_node (r.node_at pq.0) (r.node_at pq.1) ≡ true = rw (z.1, z.2) (eq-eqb z.0 z.0 refl) in cc
      equal_by pq true e = (is.equalities pq.0 pq.1).1 (nodes (r.node_at pq.0) (r.node_at pq.1) e)

  -- what the view says is what the graph tells, and the other way round
  pub says_tells : (r : Reader) (c : Claim) → Says ps (view ps r) c → Tells r c
  says_tells r _ (says_type p t b) = by_node (r.node_at p) refl (beside_is (λ p. view_type r (r.node_at p)) ps b)
    where
      by_node : (o : Option ℕ) → r.node_at p ≡ o → Some t ≡ view_type r (r.node_at p) → Tells r (below p t)
      by_node None e h = absurd (let y : view_type r (r.node_at p) ≡ None = rw e refl in cc)
      by_node (Some n) e h = let y : view_type r (r.node_at p) ≡ Some (r.type_of n) = rw e refl in let z : r.type_of n ≡ t = cc in subst (λ x. Tells r (below p x)) z (tells_below p n e)
  says_tells r _ (says_equal p q b) = by_node (r.node_at p) (r.node_at q) refl refl (sym (beside_is (λ (pq : Path × Path). same_node (r.node_at pq.0) (r.node_at pq.1)) (pairs_of ps) b))
    where
      by_node : (o v : Option ℕ) → r.node_at p ≡ o → r.node_at q ≡ v → same_node (r.node_at p) (r.node_at q) ≡ true → Tells r (same p q)
      by_node None v e f h = absurd (let y : same_node (r.node_at p) (r.node_at q) ≡ false = rw e refl in cc)
      by_node (Some n) None e f h = absurd (let y : same_node (r.node_at p) (r.node_at q) ≡ false = rw (e, f) refl in cc)
      by_node (Some n) (Some m) e f h =
          let y : same_node (r.node_at p) (r.node_at q) ≡ (n == m) = rw (e, f) refl in
          tells_same p q n e (f ∙ ap Some (sym (eqb-true n m (sym y ∙ h))))

  pub tells_says : (r : Reader) → IsInside ps r → (c : Claim) → Tells r c → Closure s (Says ps (view ps r)) c
  tells_says r inside c a = by_tell c a
    where
      typed : (p : Path) (n : ℕ) → r.node_at p ≡ Some n → Closure s (Says ps (view ps r)) (below p (r.type_of n))
      typed p n e =
          let b = beside_map (λ p. view_type r (r.node_at p)) (inside p n e) in
          let y : view_type r (r.node_at p) ≡ Some (r.type_of n) = rw e refl in
          given_claim _ (says_type p (r.type_of n) (subst (λ o. Beside p o ps (map (λ p. view_type r (r.node_at p)) ps)) y b))

      by_tell : (c : Claim) → Tells r c → Closure s (Says ps (view ps r)) c
      by_tell _ (tells_exists p n e) = below_exists p (r.type_of n) (typed p n e)
      by_tell _ (tells_below p n e) = typed p n e
      by_tell _ (tells_same p q n e f) =
          let test : Path × Path → Bool = λ pq. same_node (r.node_at pq.0) (r.node_at pq.1) in
          let b = beside_map (λ (pq : Path × Path). same_node (r.node_at pq.0) (r.node_at pq.1)) (has_pair (inside p n e) (inside q n f)) in
          let y : same_node (r.node_at p) (r.node_at q) ≡ true = rw (e, f) (eq-eqb n n refl) in
          given_claim _ (says_equal p q (subst (λ o. Beside (p, q) o (pairs_of ps) (map (λ (pq : Path × Path). same_node (r.node_at pq.0) (r.node_at pq.1)) (pairs_of ps))) y b))

pub at_root : (c : Claim) → at [] c ≡ c
at_root (exists_at p) = refl
at_root (same p q) = refl
at_root (below p t) = refl

-- a graph alone claims what it claims
pub alone_to : (r : Reader) (c : Claim) → Told (source_alone r) c → Tells r c
alone_to r c (told_claim _ h) = elim h [ ]
alone_to r _ (told_part part c here a) = subst (Tells r) (sym (at_root c)) a
alone_to r _ (told_part part c (there h) a) = elim h [ ]

pub alone_back : (r : Reader) (c : Claim) → Tells r c → Told (source_alone r) c
alone_back r c a = subst (Told (source_alone r)) (at_root c) (told_part (record { place = []; reader = r }) c here a)

module _ (g : RuleSystem) where
  graph_at : {place : Path} {m : Structure} {places : List Path} {ms : List Structure} → Beside place m places ms → (rs : List Reader) → ms ≡ map (view g.paths) rs → (r : Reader) × Beside place r places rs × (view g.paths r ≡ m)
  graph_at beside_here [] e = absurd (cc)
  graph_at beside_here (r ∷ rs) e = (r, beside_here, cc)
  graph_at (beside_there h) [] e = absurd (cc)
  graph_at (beside_there {ys = ms} h) (r ∷ rs) e = let z = graph_at h rs (let y : ms ≡ map (view g.paths) rs = cc in y) in (z.0, beside_there z.1, z.2)

  graph_beside : {place : Path} {m : Structure} {places : List Path} (rs : List Reader) → Beside place m places (map (view g.paths) rs) → (r : Reader) × Beside place r places rs × (view g.paths r ≡ m)
  graph_beside rs h = graph_at h rs refl

  view_beside : {place : Path} {r : Reader} {places : List Path} {rs : List Reader} → AllInside g.paths rs → Beside place r places rs → IsInside g.paths r × Beside place (view g.paths r) places (map (view g.paths) rs)
  view_beside inside_none h = elim h [ ]
  view_beside (inside_more i is) beside_here = (i, beside_here)
  view_beside (inside_more i is) (beside_there h) = let z = view_beside is h in (z.0, beside_there z.1)

  beside_part : (places : List Path) (rs : List Reader) {part : Part} → Has part (parts_at places rs) → Beside part.place part.reader places rs
  beside_part [] rs h = elim h [ ]
  beside_part (p ∷ ps) [] h = elim h [ ]
  beside_part (p ∷ ps) (r ∷ rs) (here) = beside_here
  beside_part (p ∷ ps) (r ∷ rs) (there h) = beside_there (beside_part ps rs h)

  part_beside : {place : Path} {r : Reader} {places : List Path} {rs : List Reader} → Beside place r places rs → Has (record { place = place; reader = r }) (parts_at places rs)
  part_beside beside_here = here
  part_beside (beside_there h) = there (part_beside h)

  has_either : {A : Type 0} {R : Type 0} {x : A} (xs : List A) {ys : List A} → (Has x xs → R) → (Has x ys → R) → Has x (xs ++ ys) → R
  has_either [] k l h = l h
  has_either (y ∷ xs) k l here = k here
  has_either (y ∷ xs) k l (there h) = has_either xs (λ x. k (there x)) l h

  -- the parts as graphs and the parts as structures have one closure
  pub parts_to : (rule : Rule) (rs : List Reader) → AllInside g.paths rs → (c : Claim) → Told (source_of rule rs) c → Whole g rule (map (view g.paths) rs) c
  parts_to rule rs all c (told_claim _ h) = given_claim c (of_rule c (told_claim c h))
  parts_to rule rs all _ (told_part part c h a) = has_either rule.facts.parts of_facts of_graphs h
    where
      of_facts : Has part rule.facts.parts → Whole g rule (map (view g.paths) rs) (at part.place c)
      of_facts k = given_claim _ (of_rule _ (told_part part c k a))

      of_graphs : Has part (parts_at rule.places rs) → Whole g rule (map (view g.paths) rs) (at part.place c)
      of_graphs k =
          let z = view_beside all (beside_part rule.places rs k) in
          moved g.system part.place (λ d y. given_claim _ (of_daughter part.place (view g.paths part.reader) d z.1 y)) (tells_says g.system g.paths part.reader z.0 c a)

  in_source : (rule : Rule) (rs : List Reader) (c : Claim) → Told rule.facts c → Told (source_of rule rs) c
  in_source rule rs c (told_claim _ h) = told_claim c h
  in_source rule rs _ (told_part part c h a) = told_part part c (has_append_left (parts_at rule.places rs) h) a

  pub parts_back : (rule : Rule) (rs : List Reader) → (c : Claim) → Parts g.paths rule (map (view g.paths) rs) c → Closure g.system (Told (source_of rule rs)) c
  parts_back rule rs c (of_rule _ h) = given_claim c (in_source rule rs c h)
  parts_back rule rs _ (of_daughter place m c h a) =
      let z = graph_beside rs h in
      given_claim _ (told_part (record { place = place; reader = z.0 }) c (has_append_right rule.facts.parts (part_beside z.1)) (says_tells g.system g.paths z.0 c (subst (λ x. Says g.paths x c) (sym z.2) a)))

  -- the same closures
  whole_to : (rule : Rule) (rs : List Reader) → AllInside g.paths rs → (c : Claim) → Closure g.system (Told (source_of rule rs)) c → Whole g rule (map (view g.paths) rs) c
  whole_to rule rs all c a = grows g.system (parts_to rule rs all) a

  whole_back : (rule : Rule) (rs : List Reader) → (c : Claim) → Whole g rule (map (view g.paths) rs) c → Closure g.system (Told (source_of rule rs)) c
  whole_back rule rs c a = grows g.system (parts_back rule rs) a

  -- a body of `apply` that answers a graph made a shape
  pub trimmed_shape : (rule : Rule) (rs : List Reader) (r : Reader) → AllInside g.paths rs → IsInside g.paths r →
      IsTrimmed g.system (source_of rule rs) (daughters_cut g ∷ []) (restrictors_cut g) (Some r) → IsShape g rule (map (view g.paths) rs) (view g.paths r)
  trimmed_shape rule rs r all inside made =
      let shown = shows_same g.system r
      (λ c a. keeps_more (λ d y. trimmed_grows g.system (whole_to rule rs all) y) a)
      (λ c a. keeps_more (λ d y. trimmed_grows g.system (whole_back rule rs) y) a) made.1 in
      (falls g.system (whole_back rule rs) made.0, viewed g.system g.paths r shown inside)

  -- one of `mother` that does made a full structure
  pub trimmed_full : (rule : Rule) (rs : List Reader) (r : Reader) → AllInside g.paths rs → IsInside g.paths r →
      IsTrimmed g.system (source_of rule rs) [] (daughters_cut g) (Some r) → IsFull g rule (map (view g.paths) rs) (view g.paths r)
  trimmed_full rule rs r all inside made =
      let shown = shows_same g.system r (λ c a. keeps_more (whole_to rule rs all) a) (λ c a. keeps_more (whole_back rule rs) a) made.1 in
      (falls g.system (whole_back rule rs) made.0, viewed g.system g.paths r shown inside)

  -- and one that answers none showed that the rule doesn't apply; `rs` may be a beginning of the tuple, as in `fits`
  pub none_applies : (rule : Rule) (rs : List Reader) → AllInside g.paths rs → (IsConsistent g.system (Told (source_of rule rs)) → ⊥) → Applies g rule (map (view g.paths) rs) → ⊥
  none_applies rule rs all refused ok = refused (falls g.system (whole_to rule rs all) ok)

  meant_to : (r : Reader) → IsInside g.paths r → (c : Claim) → Closure g.system (Told (source_alone r)) c → Meant g (view g.paths r) c
  meant_to r inside c a = grows g.system (λ d x. tells_says g.system g.paths r inside d (alone_to r d x)) a

  meant_back : (r : Reader) → (c : Claim) → Meant g (view g.paths r) c → Closure g.system (Told (source_alone r)) c
  meant_back r c a = grows g.system (λ d x. given_claim d (alone_back r d (says_tells g.system g.paths r d x))) a

  -- the shape of a full structure, for leaves
  pub trimmed_abstract : (full r : Reader) → IsInside g.paths full → IsInside g.paths r →
      IsTrimmed g.system (source_alone full) [] (restrictors_cut g) (Some r) → IsAbstract g (Meant g (view g.paths full)) (view g.paths r)
  trimmed_abstract full r inside shape made =
      viewed g.system g.paths r (shows_same g.system r (λ c a. keeps_more (meant_to full inside) a) (λ c a. keeps_more (meant_back full) a) made.1) shape

over_parts : (s : System) (x y : Structure) → over s x y ≡ true → (all_along (over_type s) x.types y.types ≡ true) × (all_along over_equal x.equal y.equal ≡ true)
over_parts s x y h = both h

module _ {A B : Type 0} (test : B → B → Bool) (f h : A → B) where
  all_to : (xs : List A) → all_along test (map f xs) (map h xs) ≡ true → {a : A} → Has a xs → test (f a) (h a) ≡ true
  all_to [] e k = elim k [ ]
  all_to (x ∷ xs) e here = (both e).0
  all_to (x ∷ xs) e (there k) = all_to xs (both e).1 k

  all_from : (xs : List A) → ((a : A) → test (f a) (h a) ≡ true) → all_along test (map f xs) (map h xs) ≡ true
  all_from [] k = refl
  all_from (x ∷ xs) k = joined (k x) (all_from xs k)

-- the test on views is subsumption of graphs
module _ (s : System) (ps : List Path) (a b : Reader) where
  type_of_test : (o v : Option ℕ) (n : ℕ) → o ≡ Some n → over_type s (view_type a o) (view_type b v) ≡ true → (m : ℕ) × (v ≡ Some m) × (s.is_below (b.type_of m) (a.type_of n) ≡ true)
  type_of_test None v n e h = absurd (cc)
  type_of_test (Some k) None n e h = absurd (cc)
  type_of_test (Some k) (Some m) n e h = (m, refl, let z : k ≡ n = cc in subst (λ x. s.is_below (b.type_of m) (a.type_of x) ≡ true) z h)

  equal_of_test : (o v x y : Option ℕ) (n m : ℕ) → o ≡ Some n → v ≡ Some n → x ≡ Some m → over_equal (same_node o v) (same_node x y) ≡ true → y ≡ Some m
  equal_of_test None v x y n m e f d h = absurd (cc)
  equal_of_test (Some k) None x y n m e f d h = absurd (cc)
  equal_of_test (Some k) (Some l) None y n m e f d h = absurd (cc)
  equal_of_test (Some k) (Some l) (Some i) None n m e f d h =
      let z : k ≡ l = let u : k ≡ n = cc in let v : l ≡ n = cc in cc in
      absurd (let y = eq-eqb k l z in let w : over_equal (k == l) false ≡ false = rw y refl in cc)
  equal_of_test (Some k) (Some l) (Some i) (Some j) n m e f d h =
      let z : k ≡ l = let u : k ≡ n = cc in let v : l ≡ n = cc in cc in
      let y : over_equal (k == l) (i == j) ≡ (i == j) = rw (eq-eqb k l z) refl in
      let w : i ≡ j = eqb-true i j (sym y ∙ h) in
      ap Some (sym w) ∙ d

  pub over_subsumes : IsInside ps a → over s (view ps a) (view ps b) ≡ true → Subsumes s a b
  over_subsumes inside h = record {
    paths = λ p n e. let z = type_of_test (a.node_at p) (b.node_at p) n e (at_path p n e) in (z.0, z.1);
    equalities = λ p q n m e f d. equal_of_test (a.node_at p) (a.node_at q) (b.node_at p) (b.node_at q) n m e f d (at_pair p q n e f);
    types = λ p n m e d.
        let z = type_of_test (a.node_at p) (b.node_at p) n e (at_path p n e) in
        let y : z.0 ≡ m = let x = z.1 in cc in
        subst (λ k. s.is_below (b.type_of k) (a.type_of n) ≡ true) y z.2;
  }
    where
      at_path : (p : Path) (n : ℕ) → a.node_at p ≡ Some n → over_type s (view_type a (a.node_at p)) (view_type b (b.node_at p)) ≡ true
      at_path p n e = all_to (over_type s) (λ q. view_type a (a.node_at q)) (λ q. view_type b (b.node_at q)) ps (over_parts s (view ps a) (view ps b) h).0 (inside p n e)

      at_pair : (p q : Path) (n : ℕ) → a.node_at p ≡ Some n → a.node_at q ≡ Some n → over_equal (same_node (a.node_at p) (a.node_at q)) (same_node (b.node_at p) (b.node_at q)) ≡ true
      at_pair p q n e f =
          all_to over_equal (λ (pq : Path × Path). same_node (a.node_at pq.0) (a.node_at pq.1)) (λ (pq : Path × Path). same_node (b.node_at pq.0) (b.node_at pq.1)) (pairs_of ps) (over_parts s (view ps a) (view ps b) h).1 (has_pair (inside p n e) (inside q n f))

  pub subsumes_over : Subsumes s a b → over s (view ps a) (view ps b) ≡ true
  subsumes_over is =
      joined (all_from (over_type s) (λ q. view_type a (a.node_at q)) (λ q. view_type b (b.node_at q)) ps (λ p. by_type p (a.node_at p) (b.node_at p) refl refl))
      (all_from over_equal (λ (pq : Path × Path). same_node (a.node_at pq.0) (a.node_at pq.1)) (λ (pq : Path × Path). same_node (b.node_at pq.0) (b.node_at pq.1)) (pairs_of ps) (λ pq. by_pair pq.0 pq.1 (a.node_at pq.0) (a.node_at pq.1) refl refl))
    where
      by_type : (p : Path) (o v : Option ℕ) → a.node_at p ≡ o → b.node_at p ≡ v → over_type s (view_type a o) (view_type b v) ≡ true
      by_type p None v e f = refl
      by_type p (Some n) None e f = absurd (let z = is.paths p n e in let y = z.1 in cc)
      by_type p (Some n) (Some m) e f = is.types p n m e f

      by_pair : (p q : Path) (o v : Option ℕ) → a.node_at p ≡ o → a.node_at q ≡ v → over_equal (same_node o v) (same_node (b.node_at p) (b.node_at q)) ≡ true
      by_pair p q None v e f = refl
      by_pair p q (Some n) None e f = refl
      by_pair p q (Some n) (Some m) e f = by_test (n == m) refl
        where
          by_test : (t : Bool) → (n == m) ≡ t → over_equal (n == m) (same_node (b.node_at p) (b.node_at q)) ≡ true
          by_test false g = rw g refl
          by_test true g =
              let i : m ≡ n = sym (eqb-true n m g) in
              let z = is.paths p n e in
              let y = is.equalities p q n z.0 e (f ∙ ap Some i) z.1 in
              rw (g, z.1, y) (eq-eqb z.0 z.0 refl)
