-- Parts that enter one by one, and are put at their paths.
use Rattle.std.proofs.Common.{ℕ, zero, suc, ◌≡◌, ◌<◌, ◌+◌, ◌⊎◌, inl, inr, List, [], ◌∷◌, ◌++◌, length, map, drop, slice_index_or, refl, sym, ◌∙◌, ap, subst, arith, length-append}
use Rattle.std.proofs.lemmas.List.{map-append, length-map}
use Rattle.fs_model.specs.Claims.{Path, IsBare, Has}
use Rattle.fs_model.specs.Sources.{Part, Told}
use Rattle.fs_model.specs.Table.{NodeClaim, is_same}
use Rattle.fs_graph.specs.Facts.{path_of}
use Rattle.fs_graph.specs.GraphMap.{IsGraph}
use Rattle.fs_closing.specs.declared.nodes.Nodes.{Nodes}
use Rattle.fs_closing.specs.declared.tasks.Tasks.{Tasks}
use Rattle.fs_unify.specs.declared.parts.Placed.{Placed}
use Rattle.fs_closing.specs.NodeTable.{table_of, AreFlat}
use Rattle.fs_closing.specs.Joined.{IsJoined}
use Rattle.fs_closing.specs.Rules.{Grammar, system_of}
use Rattle.fs_closing.specs.Work.{work_of}
use Rattle.fs_unify.specs.Entering.{Entered, EntersOwing}
use Rattle.fs_unify.specs.Placing.{placed, part_of, part_in, source_of, source_in, joints, HasEntered}
use Rattle.fs_closing.proofs.HasLemmas.{Has-left, Has-right, Has-either, Has-one, Has-map, Has-at}
use Rattle.fs_unify.proofs.PartModel.{extended, Entered-more, Entered-none, Owed-beside, root_of_part, closes_entered}
use Rattle.fs_closing.specs.Keeps.{deep_of, Stands}
use Rattle.fs_model.specs.Steps.{Starts}

joints_push : (ps : List Part) (os : List ℕ) (p : Part) (o : ℕ) → length os ≡ length ps → joints (ps ++ p ∷ []) (os ++ o ∷ []) ≡ joints ps os ++ is_same 0 p.place o [] ∷ []
joints_push [] [] p o e = refl
joints_push [] (x ∷ os) p o e = absurd (omega arith)
joints_push (q ∷ ps) [] p o e = absurd (omega arith)
joints_push (q ∷ ps) (x ∷ os) p o e = ap (λ l. is_same 0 q.place x [] ∷ l) (joints_push ps os p o (omega arith))

-- one more claim at the end of some
joined_at_end : (y : NodeClaim) (xs work : List NodeClaim) → IsJoined (y ∷ []) (xs ++ work) ((xs ++ y ∷ []) ++ work)
joined_at_end y xs work = record {
  from_new = λ c h. Has-left c (xs ++ y ∷ []) work (Has-right c xs (y ∷ []) h);
  from_old = λ c h. from_old c (Has-either c xs work h);
  only = λ c h. only c (Has-either c (xs ++ y ∷ []) work h);
}
  where
    from_old : (c : NodeClaim) → Has c xs ⊎ Has c work → Has c ((xs ++ y ∷ []) ++ work)
    from_old c (inl h) = Has-left c (xs ++ y ∷ []) work (Has-left c xs (y ∷ []) h)
    from_old c (inr h) = Has-right c (xs ++ y ∷ []) work h

    only : (c : NodeClaim) → Has c (xs ++ y ∷ []) ⊎ Has c work → Has c (y ∷ []) ⊎ Has c (xs ++ work)
    only c (inr h) = inr (Has-right c xs work h)
    only c (inl h) = go (Has-either c xs (y ∷ []) h)
      where
        go : Has c xs ⊎ Has c (y ∷ []) → Has c (y ∷ []) ⊎ Has c (xs ++ work)
        go (inl i) = inr (Has-left c xs work i)
        go (inr i) = inl i

pub entered_more : (g : Grammar) (all first first' : List Placed) (p : Placed) (offsets offsets' : List ℕ) (o : ℕ) (nodes : Nodes) (tasks : Tasks) (nodes' : Nodes) (tasks' : Tasks) →
    first' ≡ first ++ p ∷ [] → offsets' ≡ offsets ++ o ∷ [] → o ≡ nodes.size → Has p all → IsGraph p.graph.now →
    EntersOwing (system_of g) p.graph.now (table_of nodes) (work_of g.rules tasks) (table_of nodes') (work_of g.rules tasks') →
    (AreFlat nodes → AreFlat nodes') → HasEntered g all first offsets nodes tasks → HasEntered g all first' offsets' nodes' tasks'
entered_more g all first first' p offsets offsets' o nodes tasks nodes' tasks' is is_offsets is_o has graph enters flat old = record {
  even = ap length is_offsets ∙ length-append offsets (o ∷ []) ∙ ap (λ n. n + 1) old.even ∙ sym (ap length is ∙ length-append first (p ∷ []));
  inside = λ k h. inside k (Has-either k offsets (o ∷ []) (subst (Has k) is_offsets h));
  flat = flat old.flat;
  paths = last.0;
  entered = subst (λ l. Entered (system_of g) (source_in all) (map part_in first') (table_of nodes') (l ++ work_of g.rules tasks') last.0) (sym all_joints) last.1;
}
  where
    js : List NodeClaim
    js = joints (map part_in first) offsets

    parts_are : map part_in first' ≡ map part_in first ++ part_in p ∷ []
    parts_are = ap (map part_in) is ∙ map-append part_in first (p ∷ [])

    even_parts : length offsets ≡ length (map part_in first)
    even_parts = old.even ∙ sym (length-map first part_in)

    all_joints : joints (map part_in first') offsets' ≡ joints (map part_in first) offsets ++ is_same 0 (path_of p.place.items) nodes.size [] ∷ []
    all_joints =
        ap (λ l. joints l offsets') parts_are ∙ ap (joints (map part_in first ++ part_in p ∷ [])) (is_offsets ∙ ap (λ n. offsets ++ n ∷ []) is_o)
        ∙ joints_push (map part_in first) offsets (part_in p) nodes.size even_parts

    inside : (k : ℕ) → Has k offsets ⊎ Has k (o ∷ []) → k < nodes'.size
    inside k (inl h) = omega (arith, old.inside k h, enters.enters.size_is, enters.carries.more)
    inside k (inr h) = omega (arith, Has-one k o h, is_o, enters.enters.size_is, graph.numbered.filled, enters.carries.more)

    alone : Entered (system_of g) (source_in all) (map part_in first') enters.alone
        ((joints (map part_in first) offsets ++ is_same 0 (path_of p.place.items) nodes.size [] ∷ []) ++ enters.forced)
        (extended old.paths nodes.size (path_of p.place.items) graph.least)
    alone =
        let e = is_same 0 (path_of p.place.items) nodes.size [] in
        let more = joints (map part_in first) offsets ++ e ∷ [] in
        Entered-more (system_of g) (source_in all) (path_of p.place.items) p.graph.now graph (Has-map part_in p all has) (table_of nodes) enters.alone enters.enters
        (joints (map part_in first) offsets ++ work_of g.rules tasks) (more ++ work_of g.rules tasks) (more ++ enters.forced)
        (joined_at_end e (joints (map part_in first) offsets) (work_of g.rules tasks))
        (Owed-beside (system_of g) nodes.size p.graph.now more (work_of g.rules tasks) enters.forced enters.owed)
        old.paths (map part_in first) old.entered (map part_in first') parts_are

    last : (w : ℕ → Path) × Entered (system_of g) (source_in all) (map part_in first') (table_of nodes')
        ((joints (map part_in first) offsets ++ is_same 0 (path_of p.place.items) nodes.size [] ∷ []) ++ work_of g.rules tasks') w
    last =
        enters.carries.entered (joints (map part_in first) offsets ++ is_same 0 (path_of p.place.items) nodes.size [] ∷ []) (source_in all) (map part_in first')
        (extended old.paths nodes.size (path_of p.place.items) graph.least) alone

-- the claim of the next part
pub joints_step : (parts : List Placed) (offsets : List ℕ) (i : ℕ) (d : Placed) → length offsets ≡ length parts → i < length parts →
    joints (drop i (map part_in parts)) (drop i offsets)
    ≡ is_same 0 (path_of (slice_index_or parts i d).place.items) (slice_index_or offsets i 0) [] ∷ joints (drop (i + 1) (map part_in parts)) (drop (i + 1) offsets)
joints_step parts offsets i d e h = go parts offsets i e h ∙ later
  where
    go : (parts : List Placed) (offsets : List ℕ) (i : ℕ) → length offsets ≡ length parts → i < length parts →
        joints (drop i (map part_in parts)) (drop i offsets)
        ≡ is_same 0 (path_of (slice_index_or parts i d).place.items) (slice_index_or offsets i 0) [] ∷ joints (drop (suc i) (map part_in parts)) (drop (suc i) offsets)
    go [] offsets i e h = absurd (omega arith)
    go (p ∷ parts) [] i e h = absurd (omega arith)
    go (p ∷ parts) (o ∷ offsets) zero e h =
        ap (λ l. is_same 0 (path_of p.place.items) o [] ∷ l) (ap (λ l. joints l (drop 0 offsets)) (none (map part_in parts)))
      where
        none : {X : Type 0} (xs : List X) → xs ≡ drop 0 xs
        none [] = refl
        none (x ∷ xs) = refl
    go (p ∷ parts) (o ∷ offsets) (suc i) e h = go parts offsets i (omega arith) (omega arith)

    later : is_same 0 (path_of (slice_index_or parts i d).place.items) (slice_index_or offsets i 0) [] ∷ joints (drop (suc i) (map part_in parts)) (drop (suc i) offsets)
        ≡ is_same 0 (path_of (slice_index_or parts i d).place.items) (slice_index_or offsets i 0) [] ∷ joints (drop (i + 1) (map part_in parts)) (drop (i + 1) offsets)
    later =
        let n : suc i ≡ i + 1 = omega arith in
        ap (λ j. is_same 0 (path_of (slice_index_or parts i d).place.items) (slice_index_or offsets i 0) [] ∷ joints (drop j (map part_in parts)) (drop j offsets)) n

pub item_has : {X : Type 0} (xs : List X) (i : ℕ) (d : X) → i < length xs → d ≡ slice_index_or xs i d → Has d xs
item_has xs i d h is = subst (λ x. Has x xs) (sym is) (Has-at xs i d h)

-- the root alone
pub begun : (g : Grammar) (all : List Placed) (p : Placed) (offsets : List ℕ) (one : Nodes) (tasks : Tasks) → IsBare (system_of g) → Starts (system_of g) (table_of one) →
    AreFlat one → Has p all → IsGraph p.graph.now → offsets ≡ [] → work_of g.rules tasks ≡ [] → HasEntered g all [] offsets one tasks
begun g all p offsets one tasks bare starts flat has graph none no_work = record {
  even = ap length none;
  inside = λ o h. let i = subst (Has o) none h in elim i [ ];
  flat = flat;
  paths = λ _. [];
  entered = subst (λ l. Entered (system_of g) (source_in all) [] (table_of one) l (λ _. [])) (sym no_work)
      (Entered-none (system_of g) (source_in all) (table_of one) bare starts
      (root_of_part (system_of g) (source_in all) (path_of p.place.items) p.graph.now graph (Has-map part_in p all has)));
}

-- nodes that all parts entered stand for them
pub entered_stands : (g : Grammar) (all : List Placed) (offsets : List ℕ) (nodes : Nodes) (tasks : Tasks) (e : HasEntered g all all offsets nodes tasks) →
    Stands (system_of g) (Told (source_in all)) (deep_of nodes) (joints (map part_in all) offsets ++ work_of g.rules tasks) e.paths
entered_stands g all offsets nodes tasks e = record {
  closes = closes_entered (system_of g) (source_in all) (table_of nodes) (joints (map part_in all) offsets ++ work_of g.rules tasks) e.paths refl e.entered;
  deep = λ n h. omega (arith, e.flat n);
}

-- the parts as callers see them
pub source_seen : (parts : List Placed) → source_in parts ≡ source_of (map placed parts)
source_seen parts = ap (λ l. record { claims = []; parts = l }) (seen parts)
  where
    seen : (parts : List Placed) → map part_in parts ≡ map part_of (map placed parts)
    seen [] = refl
    seen (p ∷ parts) = ap (λ l. part_in p ∷ l) (seen parts)
