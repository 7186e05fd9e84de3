-- A graph that shows a table is the table's structure.
use Rattle.std.proofs.Common.{ℕ, ◌≡◌, ◌≢◌, ◌≤◌, ◌<◌, ◌==◌, ◌&&◌, ◌||◌, ◌⊎◌, inl, inr, not, if◌then◌else◌, Bool, true, false, Option, Some, None, List, [], ◌∷◌, ◌++◌, length, slice_index, refl, sym, ◌∙◌, ap, subst, arith}
use Rattle.std.specs.List.{list_any}
use Rattle.std.specs.Option.{option_map}
use Rattle.std.proofs.lemmas.Bool.{ne_eqb}
use Rattle.std.proofs.lemmas.List.{length-map, length_push}
use Rattle.fs_model.specs.Claims.{Path, Claim, below, System, IsOrder}
use Rattle.fs_model.specs.Closure.{Closure, IsConsistent}
use Rattle.fs_model.specs.Sources.{Reader, Source, IsSameStructure, Told, IsGraphOf, IsUnified}
use Rattle.fs_model.specs.Table.{Table, IsTable, walk}
use Rattle.fs_model.specs.Numbering.{seen}
use Rattle.fs_model.proofs.StepLemmas.{same_or_other}
use Rattle.fs_model.proofs.TableLemmas.{walk-live, walk-append, walk-step, Table-structure, Table-typed}
use Rattle.fs_model.proofs.AnswerLemmas.{walk_clash, cycle_clash}
use Rattle.type_hierarchy.specs.declared.types.Ty.{Ty}
use Rattle.fs_graph.specs.declared.graph.GraphArc.{GraphArc}
use Rattle.fs_graph.specs.GraphMap.{GraphMap, table_of, reader_of}
use Rattle.fs_graph.specs.Inside.{graph_map}
use Rattle.fs_graph.specs.Orders.{ArePlan, IsReached, ReachesItself, IsOrdering, IsLongest}
use Rattle.fs_graph.specs.Facts.{path_of}
use Rattle.fs_drawing.specs.declared.draw.Off.{Off}
use Rattle.fs_drawing.specs.declared.draw.Picture.{Picture}
use Rattle.fs_drawing.specs.Cutting.{is_one_of, is_cut_off, without, IsLeftOf, IsUnifiedWithout}
use Rattle.fs_drawing.specs.Drawing.{leaves, leaves_of, IsPicture, IsPictureIn, BoundsPaths, Answers, AnswersWithout}
use Rattle.fs_closing.specs.Keeps.{Deep, Stands}

or_false : (a b : Bool) → (a || b) ≡ false → (a ≡ false) × (b ≡ false)
or_false false b e = (refl, e)
or_false true b e = absurd cc

both_false : (a b : Bool) → a ≡ false → b ≡ false → (a || b) ≡ false
both_false false b e d = d
both_false true b e d = absurd cc

-- a picture
module _ (t : Table) (ok : IsTable t) (left : Bool → ℕ → Bool) (node_of : ℕ → ℕ) (g : GraphMap) (shows : IsPicture t left node_of g) where
  -- an arc of the picture is an arc of the table that is left
  arc_shown : (k f j : ℕ) → k < length g.types → (table_of g).arc k f ≡ Some j → (m : ℕ) × (t.arc (node_of k) f ≡ Some m) × (t.live m ≡ node_of j) × (left (node_of k == 0) f ≡ true)
  arc_shown k f j h is = by_left (left (node_of k == 0) f) refl (t.arc (node_of k) f) refl
    where
      by_left : (b : Bool) → left (node_of k == 0) f ≡ b → (o : Option ℕ) → t.arc (node_of k) f ≡ o →
          (m : ℕ) × (t.arc (node_of k) f ≡ Some m) × (t.live m ≡ node_of j) × (left (node_of k == 0) f ≡ true)
      by_left b q o e = go b q o e (sym (ap (option_map node_of) is) ∙ shows.arcs k f h ∙ ap (λ c. if c then option_map t.live (t.arc (node_of k) f) else None) q
          ∙ ap (λ x. if b then option_map t.live x else None) e)
        where
          go : (b : Bool) → left (node_of k == 0) f ≡ b → (o : Option ℕ) → t.arc (node_of k) f ≡ o → Some (node_of j) ≡ (if b then option_map t.live o else None) →
              (m : ℕ) × (t.arc (node_of k) f ≡ Some m) × (t.live m ≡ node_of j) × (left (node_of k == 0) f ≡ true)
          go false q o e d = absurd cc
          go true q None e d = absurd cc
          go true q (Some m) e d = (m, e, (let x : t.live m ≡ node_of j = cc in x), q)

  -- an arc of the table that is left is an arc of the picture
  arc_drawn : (k f m : ℕ) → k < length g.types → left (node_of k == 0) f ≡ true → t.arc (node_of k) f ≡ Some m →
      (j : ℕ) × ((table_of g).arc k f ≡ Some j) × (node_of j ≡ t.live m)
  arc_drawn k f m h q e = go ((table_of g).arc k f) refl
    where
      all : option_map node_of ((table_of g).arc k f) ≡ Some (t.live m)
      all = shows.arcs k f h ∙ ap (λ c. if c then option_map t.live (t.arc (node_of k) f) else None) q ∙ ap (option_map t.live) e

      go : (o : Option ℕ) → (table_of g).arc k f ≡ o → (j : ℕ) × ((table_of g).arc k f ≡ Some j) × (node_of j ≡ t.live m)
      go None is = absurd (let x : None ≡ Some (t.live m) = sym (ap (option_map node_of) is) ∙ all in cc)
      go (Some j) is = (j, is, (let x : Some (node_of j) ≡ Some (t.live m) = sym (ap (option_map node_of) is) ∙ all in let y : node_of j ≡ t.live m = cc in y))

  -- walks of the picture are walks of the table
  walk_shown : (p : Path) (k j : ℕ) → k < length g.types → walk (table_of g) k p ≡ Some j → (walk t (node_of k) p ≡ Some (node_of j)) × (j < length g.types)
  walk_shown [] k j h e =
      let same : k ≡ j = cc in
      (ap Some (shows.lives k h) ∙ ap (λ z. Some (node_of z)) same, subst (λ z. z < length g.types) same h)
  walk_shown (f ∷ p) k j h e = go ((table_of g).arc k f) refl e (λ m. walk_shown p m j)
    where
      go : (o : Option ℕ) → (table_of g).arc k f ≡ o → elim o as (λ _. Option ℕ) [ None ↦ None | Some m ↦ walk (table_of g) m p ] ≡ Some j →
          ((m : ℕ) → m < length g.types → walk (table_of g) m p ≡ Some j → (walk t (node_of m) p ≡ Some (node_of j)) × (j < length g.types)) →
          (walk t (node_of k) (f ∷ p) ≡ Some (node_of j)) × (j < length g.types)
      go None is e' rest = absurd cc
      go (Some m) is e' rest =
          let a = arc_shown k f m h is in
          let r = rest m (shows.arc_in k f m h is) e' in (
            walk-step t (node_of k) a.0 f p (ap (λ z. t.arc z f) (shows.lives k h) ∙ a.1) ∙ sym (walk-live t ok a.0 p) ∙ ap (λ z. walk t z p) a.2 ∙ r.0,
            r.1,
          )

  module _ (filled : 0 < length g.types) where
    pub root_shown : (p : Path) (j : ℕ) → walk (table_of g) 0 p ≡ Some j → (walk t 0 p ≡ Some (node_of j)) × (j < length g.types)
    root_shown p j e = let r = walk_shown p 0 j filled e in (ap (λ z. walk t z p) (sym shows.root) ∙ r.0, r.1)

    pub cycle_shown : (n : ℕ) → IsReached g n → ReachesItself g n →
        ((p : Path) × (walk t 0 p ≡ Some (node_of n))) × ((q : Path) × (q ≢ []) × (walk t (node_of n) q ≡ Some (node_of n)))
    cycle_shown n (p, e) (q, apart, d) =
        let a = root_shown p n e in
        ((p, a.0), (q, apart, (walk_shown q n n a.1 d).0))

-- two graphs that are one structure are a structure of the same claims
pub structure_same : (s : System) (g : Claim → Type 0) (a b : Reader) → IsGraphOf s g a → IsSameStructure a b → IsGraphOf s g b
structure_same s g a b x e = record {
  paths = λ p. ((λ c. let n = (x.paths p).0 c in e.there p n.0 n.1), (λ m. (x.paths p).1 (e.there_back p m.0 m.1)));
  equalities = λ p q. (
    (λ c.
        let n = (x.equalities p q).0 c in
        let m = e.there p n.0 n.1 in
        (m.0, m.1, e.equal p q n.0 m.0 n.1 n.2 m.1)),
    (λ m.
        let n = e.there_back p m.0 m.1 in
        (x.equalities p q).1 (n.0, n.1, e.equal_back p q m.0 n.0 m.1 m.2 n.1)),
  );
  types_there = λ p m d.
      let n = e.there_back p m d in
      subst (λ t. Closure s g (below p t)) (e.types p n.0 m n.1 d) (x.types_there p n.0 n.1);
  types_above = λ p m t d c.
      let n = e.there_back p m d in
      subst (λ u. s.is_below u t ≡ true) (e.types p n.0 m n.1 d) (x.types_above p n.0 t n.1 c);
}

-- an arc that isn't cut off is left at a node that some arc leads to
abbrev IsLeftOn : Table → List ℕ → List ℕ → Type 0
IsLeftOn t at_root anywhere = (q : Path) (n f : ℕ) → q ≢ [] → walk t 0 q ≡ Some n → is_one_of anywhere f ≡ false → leaves at_root anywhere (n == 0) f ≡ true

-- the root isn't such a node where it doesn't reach itself
left_below : (t : Table) (at_root anywhere : List ℕ) → ((q : Path) → q ≢ [] → walk t 0 q ≡ Some 0 → ⊥) → IsLeftOn t at_root anywhere
left_below t at_root anywhere never q n f some e clear = go (same_or_other n 0)
  where
    go : (n ≡ 0) ⊎ (n ≢ 0) → leaves at_root anywhere (n == 0) f ≡ true
    go (inl z) = absurd (never q some (e ∙ ap Some z))
    go (inr z) = ap (λ b. leaves at_root anywhere b f) (ne_eqb n 0 z) ∙ ap (λ b. not (false || b)) clear

-- and where no feature is cut off, all arcs are left
left_all : (t : Table) → IsLeftOn t [] []
left_all t q n f some e clear = go (n == 0)
  where
    go : (b : Bool) → leaves [] [] b f ≡ true
    go true = refl
    go false = refl

-- the picture without features that are cut off
module _ (t : Table) (ok : IsTable t) (at_root anywhere : List ℕ) (node_of : ℕ → ℕ) (g : GraphMap) (shows : IsPicture t (leaves at_root anywhere) node_of g)
    (filled : 0 < length g.types) (left_on : IsLeftOn t at_root anywhere) where
  clear_any : (b : Bool) (f : ℕ) → leaves at_root anywhere b f ≡ true → is_one_of anywhere f ≡ false
  clear_any b f e = go (b && is_one_of at_root f) (is_one_of anywhere f) e
    where
      go : (x y : Bool) → not (x || y) ≡ true → y ≡ false
      go false false e = refl
      go false true e = absurd cc
      go true y e = absurd cc

  clear_root : (f : ℕ) → leaves at_root anywhere true f ≡ true → is_one_of at_root f ≡ false
  clear_root f e = go (is_one_of at_root f) (is_one_of anywhere f) e
    where
      go : (x y : Bool) → not (x || y) ≡ true → x ≡ false
      go false y e = refl
      go true y e = absurd cc

  -- no path of the picture is cut off
  walk_clear : (p : Path) (k j : ℕ) → k < length g.types → walk (table_of g) k p ≡ Some j → list_any (is_one_of anywhere) p ≡ false
  walk_clear [] k j h e = refl
  walk_clear (f ∷ p) k j h e = go ((table_of g).arc k f) refl e (λ m. walk_clear p m j)
    where
      go : (o : Option ℕ) → (table_of g).arc k f ≡ o → elim o as (λ _. Option ℕ) [ None ↦ None | Some m ↦ walk (table_of g) m p ] ≡ Some j →
          ((m : ℕ) → m < length g.types → walk (table_of g) m p ≡ Some j → list_any (is_one_of anywhere) p ≡ false) → list_any (is_one_of anywhere) (f ∷ p) ≡ false
      go None is e' rest = absurd cc
      go (Some m) is e' rest =
          let a = arc_shown t ok (leaves at_root anywhere) node_of g shows k f m h is in
          both_false (is_one_of anywhere f) (list_any (is_one_of anywhere) p) (clear_any (node_of k == 0) f a.3) (rest m (shows.arc_in k f m h is) e')

  root_clear : (p : Path) (j : ℕ) → walk (table_of g) 0 p ≡ Some j → is_cut_off at_root anywhere p ≡ false
  root_clear [] j e = refl
  root_clear (f ∷ p) j e = both_false (is_one_of at_root f) (list_any (is_one_of anywhere) (f ∷ p)) first (walk_clear (f ∷ p) 0 j filled e)
    where
      go : (o : Option ℕ) → (table_of g).arc 0 f ≡ o → elim o as (λ _. Option ℕ) [ None ↦ None | Some m ↦ walk (table_of g) m p ] ≡ Some j → is_one_of at_root f ≡ false
      go None is e' = absurd cc
      go (Some m) is e' =
          let a = arc_shown t ok (leaves at_root anywhere) node_of g shows 0 f m filled is in
          clear_root f (ap (λ z. leaves at_root anywhere (z == 0) f) (sym shows.root) ∙ a.3)

      first : is_one_of at_root f ≡ false
      first = go ((table_of g).arc 0 f) refl e

  pushed : (q : Path) (f : ℕ) → q ++ f ∷ [] ≢ []
  pushed q f e = absurd (let l = ap length e in let p = length_push q f in omega (arith, l, p))

  -- a path of the table that isn't cut off is a path of the picture
  walk_drawn : (p q : Path) (k n m : ℕ) → k < length g.types → node_of k ≡ n → q ≢ [] → walk t 0 q ≡ Some n → list_any (is_one_of anywhere) p ≡ false →
      walk t n p ≡ Some m → (j : ℕ) × (j < length g.types) × (walk (table_of g) k p ≡ Some j) × (node_of j ≡ m)
  walk_drawn [] q k n m h is some at clear e =
      let lives : t.live n ≡ n = subst (λ z. t.live z ≡ z) is (shows.lives k h) in
      let same : t.live n ≡ m = cc in
      (k, h, refl, is ∙ sym lives ∙ same)
  walk_drawn (f ∷ p) q k n m h is some at clear e = go (t.arc (t.live n) f) refl e (λ j x. walk_drawn p (q ++ f ∷ []) j x m)
    where
      lives : t.live n ≡ n
      lives = subst (λ z. t.live z ≡ z) is (shows.lives k h)

      split : (is_one_of anywhere f ≡ false) × (list_any (is_one_of anywhere) p ≡ false)
      split = or_false (is_one_of anywhere f) (list_any (is_one_of anywhere) p) clear

      go : (o : Option ℕ) → t.arc (t.live n) f ≡ o → elim o as (λ _. Option ℕ) [ None ↦ None | Some x ↦ walk t x p ] ≡ Some m →
          ((j x : ℕ) → j < length g.types → node_of j ≡ x → q ++ f ∷ [] ≢ [] → walk t 0 (q ++ f ∷ []) ≡ Some x → list_any (is_one_of anywhere) p ≡ false →
          walk t x p ≡ Some m → (i : ℕ) × (i < length g.types) × (walk (table_of g) j p ≡ Some i) × (node_of i ≡ m)) →
          (j : ℕ) × (j < length g.types) × (walk (table_of g) k (f ∷ p) ≡ Some j) × (node_of j ≡ m)
      go None arc e' rest = absurd cc
      go (Some x) arc e' rest =
          let here_arc : t.arc (node_of k) f ≡ Some x = ap (λ z. t.arc z f) (is ∙ sym lives) ∙ arc in
          let left = ap (λ z. leaves at_root anywhere (z == 0) f) is ∙ left_on q n f some at split.0 in
          let d = arc_drawn t ok (leaves at_root anywhere) node_of g shows k f x h left here_arc in
          let further : walk t 0 (q ++ f ∷ []) ≡ Some (t.live x) = walk-append t ok 0 n q (f ∷ []) at ∙ walk-step t n x f [] arc in
          let r = rest d.0 (t.live x) (shows.arc_in k f d.0 h d.1) d.2 (pushed q f) further split.1 (walk-live t ok x p ∙ e') in
          (r.0, r.1, walk-step (table_of g) k d.0 f p d.1 ∙ r.2, r.3)

  root_drawn : (p : Path) (m : ℕ) → is_cut_off at_root anywhere p ≡ false → walk t 0 p ≡ Some m → (j : ℕ) × (j < length g.types) × (walk (table_of g) 0 p ≡ Some j) × (node_of j ≡ m)
  root_drawn [] m clear e =
      let lives : t.live 0 ≡ 0 = subst (λ z. t.live z ≡ z) shows.root (shows.lives 0 filled) in
      let same : t.live 0 ≡ m = cc in
      (0, filled, refl, shows.root ∙ sym lives ∙ same)
  root_drawn (f ∷ p) m clear e = go (t.arc (t.live 0) f) refl e
    where
      lives : t.live 0 ≡ 0
      lives = subst (λ z. t.live z ≡ z) shows.root (shows.lives 0 filled)

      off : (is_one_of at_root f ≡ false) × ((is_one_of anywhere f || list_any (is_one_of anywhere) p) ≡ false)
      off = or_false (is_one_of at_root f) (is_one_of anywhere f || list_any (is_one_of anywhere) p) clear

      split : (is_one_of anywhere f ≡ false) × (list_any (is_one_of anywhere) p ≡ false)
      split = or_false (is_one_of anywhere f) (list_any (is_one_of anywhere) p) off.1

      go : (o : Option ℕ) → t.arc (t.live 0) f ≡ o → elim o as (λ _. Option ℕ) [ None ↦ None | Some x ↦ walk t x p ] ≡ Some m →
          (j : ℕ) × (j < length g.types) × (walk (table_of g) 0 (f ∷ p) ≡ Some j) × (node_of j ≡ m)
      go None arc e' = absurd cc
      go (Some x) arc e' =
          let here_arc : t.arc (node_of 0) f ≡ Some x = ap (λ z. t.arc z f) (shows.root ∙ sym lives) ∙ arc in
          let left = ap (λ z. leaves at_root anywhere (z == 0) f) shows.root ∙ ap (λ b. not (b || is_one_of anywhere f)) off.0 ∙ ap (λ b. not (false || b)) split.0 in
          let d = arc_drawn t ok (leaves at_root anywhere) node_of g shows 0 f x filled left here_arc in
          let first : walk t 0 (f ∷ []) ≡ Some (t.live x) = walk-step t 0 x f [] arc in
          let r = walk_drawn p (f ∷ []) d.0 (t.live x) m (shows.arc_in 0 f d.0 filled d.1) d.2 (pushed [] f) first split.1 (walk-live t ok x p ∙ e') in
          (r.0, r.1, walk-step (table_of g) 0 d.0 f p d.1 ∙ r.2, r.3)

  abbrev rest : Reader
  rest = without at_root anywhere (seen t)

  of_rest : (p : Path) (n : ℕ) → (without at_root anywhere (seen t)).node_at p ≡ Some n → (is_cut_off at_root anywhere p ≡ false) × (walk t 0 p ≡ Some n)
  of_rest p n e = go (is_cut_off at_root anywhere p) refl
    where
      go : (b : Bool) → is_cut_off at_root anywhere p ≡ b → (is_cut_off at_root anywhere p ≡ false) × (walk t 0 p ≡ Some n)
      go true q = absurd (let x : None ≡ Some n = sym (ap (λ b. if b then None else walk t 0 p) q) ∙ e in cc)
      go false q = (q, sym (ap (λ b. if b then None else walk t 0 p) q) ∙ e)

  to_rest : (p : Path) (n : ℕ) → is_cut_off at_root anywhere p ≡ false → walk t 0 p ≡ Some n → (without at_root anywhere (seen t)).node_at p ≡ Some n
  to_rest p n q e = ap (λ b. if b then None else walk t 0 p) q ∙ e

  shown : (p : Path) (j : ℕ) → walk (table_of g) 0 p ≡ Some j → (walk t 0 p ≡ Some (node_of j)) × (j < length g.types)
  shown p j e = root_shown t ok (leaves at_root anywhere) node_of g shows filled p j e

  -- one node of the table has one place
  one_place : (p q : Path) (n j : ℕ) → (without at_root anywhere (seen t)).node_at p ≡ Some n → (without at_root anywhere (seen t)).node_at q ≡ Some n →
      walk (table_of g) 0 p ≡ Some j → walk (table_of g) 0 q ≡ Some j
  one_place p q n j a b c =
      let at_p = of_rest p n a in
      let at_q = of_rest q n b in
      let d = root_drawn q n at_q.0 at_q.1 in
      let s = shown p j c in
      let same : Some n ≡ Some (node_of j) = sym at_p.1 ∙ s.0 in
      let e : n ≡ node_of j = cc in
      d.2 ∙ ap Some (shows.apart d.0 j d.1 s.1 (d.3 ∙ e))

  one_node : (p q : Path) (n j : ℕ) → walk (table_of g) 0 p ≡ Some j → walk (table_of g) 0 q ≡ Some j → (without at_root anywhere (seen t)).node_at p ≡ Some n →
      (without at_root anywhere (seen t)).node_at q ≡ Some n
  one_node p q n j a b c =
      let s = shown p j a in
      let r = shown q j b in
      let at_p = of_rest p n c in
      to_rest q n (root_clear q j b) (r.0 ∙ sym s.0 ∙ at_p.1)

  pub picture_left : IsLeftOf at_root anywhere (seen t) (reader_of g)
  picture_left = record {
    there = λ p n e. let a = of_rest p n e in let d = root_drawn p n a.0 a.1 in (d.0, d.2);
    there_back = λ p j e. (node_of j, to_rest p (node_of j) (root_clear p j e) (shown p j e).0);
    equal = λ p q n j a b c. one_place p q n j a b c;
    equal_back = λ p q j n a b c. one_node p q n j a b c;
    types = λ p n j a b.
        let s = shown p j b in
        let x : Some n ≡ Some (node_of j) = sym (of_rest p n a).1 ∙ s.0 in
        let e : n ≡ node_of j = cc in
        ap t.type_of e ∙ sym (shows.types j s.1);
  }

  pub path_drawn : (p : Path) (m : ℕ) → is_cut_off at_root anywhere p ≡ false → walk t 0 p ≡ Some m → (j : ℕ) × (walk (table_of g) 0 p ≡ Some j)
  path_drawn p m clear e = let d = root_drawn p m clear e in (d.0, d.2)

-- where no feature is cut off, no path is
clear_all : (p : Path) → list_any (is_one_of []) p ≡ false
clear_all [] = refl
clear_all (f ∷ p) = clear_all p

nothing_off : (p : Path) → is_cut_off [] [] p ≡ false
nothing_off [] = refl
nothing_off (f ∷ p) = clear_all (f ∷ p)

same_on : {a b c : Reader} → IsSameStructure a b → IsSameStructure b c → IsSameStructure a c
same_on x y = record {
  there = λ p n h. let m = x.there p n h in y.there p m.0 m.1;
  there_back = λ p n h. let m = y.there_back p n h in x.there_back p m.0 m.1;
  equal = λ p q n k h i j. let m = x.there p n h in y.equal p q m.0 k m.1 (x.equal p q n m.0 h i m.1) j;
  equal_back = λ p q n k h i j. let m = y.there_back p n h in x.equal_back p q m.0 k m.1 (y.equal_back p q n m.0 h i m.1) j;
  types = λ p n k h j. let m = x.there p n h in x.types p n m.0 h m.1 ∙ y.types p m.0 k m.1 j;
}

-- rows of arcs have a root
pub filled_plan : (types : List Ty) (starts : List ℕ) (arcs : List GraphArc) → ArePlan types starts arcs → 0 < length (graph_map types starts arcs).types
filled_plan types starts arcs plan = let s = length-map types (λ (y : Ty). y.0) in let f = plan.filled in omega (arith, s, f)

-- what nodes without work stand for is inconsistent where the longest path of a picture is too long
pub answer_longest : (x : Deep) (limit : ℕ) (left : Bool → ℕ → Bool) (node_of : ℕ → ℕ) (plan : GraphMap) (longest : ℕ) → 0 < length plan.types →
    IsPicture x.table left node_of plan → IsLongest plan longest → limit < longest → Answers x limit None
answer_longest x limit left node_of plan longest filled shows l long s source w o is st consistent =
    let r = l.reached in
    let a = root_shown x.table st.closes.table left node_of plan shows filled r.0 r.1 r.2 in
    walk_clash s o (Told source) x.table w r.0 (node_of r.1) st.closes a.0 (let q = r.3 in omega (arith, q, long, is)) consistent

-- and where a node of a picture reaches itself
pub answer_cycle : (x : Deep) (limit : ℕ) (left : Bool → ℕ → Bool) (node_of : ℕ → ℕ) (plan : GraphMap) (n : ℕ) → 0 < length plan.types →
    IsPicture x.table left node_of plan → IsReached plan n → ReachesItself plan n → Answers x limit None
answer_cycle x limit left node_of plan n filled shows reached itself s source w o is st consistent =
    let a = cycle_shown x.table st.closes.table left node_of plan shows filled n reached itself in
    cycle_clash s o (Told source) x.table w a.0.0 a.1.0 (node_of n) st.closes a.0.1 a.1.1 a.1.2 consistent

-- what nodes without work stand for is consistent where no walk is longer than the limit
pub consistent_closed : (x : Deep) (limit : ℕ) → BoundsPaths x.table limit → (s : System) (source : Source) (w : ℕ → Path) → IsOrder s → s.path_limit ≡ limit →
    Stands s (Told source) x [] w → IsConsistent s (Told source)
consistent_closed x limit short s source w o is st =
    let t = x.table in
    let c = st.closes in
    let structure_is = Table-structure s o (Told source) t c.table c.filled w c.sound c.complete in
    record {
      typed = λ p u v a b. Table-typed s o (Told source) t c.table c.filled c.complete p u v a b;
      bounded = λ p a.
          let end = (structure_is.paths p).0 a in
          subst (λ k. length p ≤ k) (sym is) (short p end.0 end.1);
    }

-- a graph in the order of a picture is what is left of the answer
pub answer_left : (x : Deep) (limit : ℕ) (off : Off) (node_of : ℕ → ℕ) (plan graph : GraphMap) → x.table.live 0 ≡ 0 → 0 < length plan.types → BoundsPaths x.table limit →
    IsPicture x.table (leaves_of off) node_of plan → IsOrdering plan graph → AnswersWithout x limit off (Some (reader_of graph))
answer_left x limit off node_of plan graph root filled bounds shows order s source w o is st =
    let t = x.table in
    let c = st.closes in
    let consistent = consistent_closed x limit bounds s source w o is st in
    let structure_is = Table-structure s o (Told source) t c.table c.filled w c.sound c.complete in
    record {
      whole = seen x.table;
      unified = (consistent, structure_is);
      is_left = same_on (picture_left x.table c.table (path_of off.at_root.now) (path_of off.anywhere.now) node_of plan shows filled
          (left_below x.table (path_of off.at_root.now) (path_of off.anywhere.now)
          (λ q some e. cycle_clash s o (Told source) x.table w [] q 0 c (ap Some root) some e consistent))) order.same;
    }

-- where no feature is cut off, a picture has all paths
pub path_whole : (t : Table) → IsTable t → (at_root anywhere : List ℕ) (node_of : ℕ → ℕ) (plan : GraphMap) → at_root ≡ [] → anywhere ≡ [] →
    0 < length plan.types → IsPicture t (leaves at_root anywhere) node_of plan → (p : Path) (n : ℕ) → walk t 0 p ≡ Some n → (j : ℕ) × (walk (table_of plan) 0 p ≡ Some j)
path_whole t ok at_root anywhere node_of plan a b filled shows p n e =
    let all = subst (λ z. IsPicture t (leaves [] z) node_of plan) b (subst (λ z. IsPicture t (leaves z anywhere) node_of plan) a shows) in
    path_drawn t ok [] [] node_of plan all filled (left_all t) p n (nothing_off p) e

pub picture_bounds : (t : Table) → IsTable t → (limit : ℕ) (at_root anywhere : List ℕ) (node_of : ℕ → ℕ) (plan : GraphMap) (longest : ℕ) → at_root ≡ [] → anywhere ≡ [] →
    0 < length plan.types → IsPicture t (leaves at_root anywhere) node_of plan → IsLongest plan longest → longest ≤ limit → BoundsPaths t limit
picture_bounds t ok limit at_root anywhere node_of plan longest a b filled shows l short p n e =
    let d = path_whole t ok at_root anywhere node_of plan a b filled shows p n e in
    let within = l.bounds p d.0 d.1 in
    omega (arith, within, short)

pub picture_bounds_in : (t : Table) → IsTable t → (limit : ℕ) (off : Off) (p : Picture) → path_of off.at_root.now ≡ [] → path_of off.anywhere.now ≡ [] →
    IsPictureIn t (leaves_of off) limit p → BoundsPaths t limit
picture_bounds_in t ok limit off p a b is =
    picture_bounds t ok limit (path_of off.at_root.now) (path_of off.anywhere.now) (slice_index p.met.nodes.items) (graph_map p.types.items p.starts.items p.arcs.items)
    p.order.longest a b (filled_plan p.types.items p.starts.items p.arcs.items is.plan) is.shows is.order.longest is.short

without_none : (r : Reader) → IsSameStructure r (without [] [] r)
without_none r = record {
  there = λ p n e. (n, sym (is p) ∙ e);
  there_back = λ p n e. (n, is p ∙ e);
  equal = λ p q n m a b c. let x : Some n ≡ Some m = sym a ∙ is p ∙ c in sym (is q) ∙ b ∙ x;
  equal_back = λ p q n m a b c. let x : Some n ≡ Some m = sym a ∙ sym (is p) ∙ c in is q ∙ b ∙ x;
  types = λ p n m a b. let x : Some n ≡ Some m = sym a ∙ is p ∙ b in let e : n ≡ m = cc in ap r.type_of e;
}
  where
    is : (p : Path) → r.node_at p ≡ (without [] [] r).node_at p
    is p = sym (ap (λ b. if b then None else r.node_at p) (nothing_off p))

unified_whole : (s : System) (source : Source) (o : Option Reader) → IsUnifiedWithout s source [] [] o → IsUnified s source o
unified_whole s source None u = u
unified_whole s source (Some r) u = (u.unified.0, structure_same s (Told source) u.whole r u.unified.1 (same_on (without_none u.whole) u.is_left))

pub answers_whole : (x : Deep) (limit : ℕ) (off : Off) (o : Option Reader) → path_of off.at_root.now ≡ [] → path_of off.anywhere.now ≡ [] → AnswersWithout x limit off o →
    Answers x limit o
answers_whole x limit off o a b answers s source w order is st =
    unified_whole s source o (subst (λ z. IsUnifiedWithout s source [] z o) b (subst (λ z. IsUnifiedWithout s source z (path_of off.anywhere.now) o) a (answers s source w order is st)))

-- no answer is one without features too
pub answers_none : (x : Deep) (limit : ℕ) (off : Off) → Answers x limit None → AnswersWithout x limit off None
answers_none x limit off none s source w o is st = none s source w o is st
