-- An element that fits no elementary predication isn't one, however specific it gets.
use Rattle.std.specs.Prelude.{ℕ, ◌≡◌, ◌≢◌, ◌+◌, ◌-◌, ◌<◌, ◌≤◌, ◌⊎◌, ◌==◌, ◌&&◌, ◌||◌, not, nat_lt, if◌then◌else◌, Bool, true, false, Option, Some, None, List, [], ◌∷◌, ◌++◌, length, map, slice_get, codes, All, Contains}
use Rattle.std.proofs.Common.{refl, sym, ◌∙◌, ap, subst, arith, zero, suc, inl, inr, ⊎_elim, append-nil, eq-eqb}
use Rattle.std.specs.List.{Any, list_any, list_all}
use Rattle.std.proofs.lemmas.Bool.{cases_lt, eqb-true, lt-ltb}
use Rattle.std.proofs.lemmas.List.Folds.{list_any-from_Any}
use Rattle.type_hierarchy.specs.declared.types.Ty.{Ty}
use Rattle.type_hierarchy.specs.Table.{TypeTable, count_of, completed_count, set_of, is_subset, is_set_below, is_below}
use Rattle.fs_model.specs.Claims.{Path, Claim, exists_at, same, below, System, IsOrder}
use Rattle.fs_model.specs.Closure.{below_exists, same_sym, same_trans}
use Rattle.fs_model.specs.Table.{walk}
use Rattle.fs_model.proofs.TableLemmas.{walk-append, walk-prefix}
use Rattle.fs_graph.specs.declared.facts.Feat.{Feat}
use Rattle.fs_graph.specs.Facts.{path_of}
use Rattle.fs_graph.specs.declared.graph.GraphArc.{GraphArc}
use Rattle.fs_graph.specs.GraphMap.{GraphMap, IsGraph, table_of, node_at, type_at, arc_to, arcs_at, arc_named, reader_of}
use Rattle.tree_model.specs.Structures.{Structure}
use Rattle.tree_model.specs.Mothers.{Meant}
use Rattle.tree_model.specs.Signs.{Signs, rule_system}
use Rattle.chart_model.specs.declared.counts.Counts.{Counts}
use Rattle.mrs_model.specs.Meanings.{Property, Variable, Filler, of_var, of_text, Argument, Predication, Meaning}
use Rattle.mrs_places.specs.Paths.{Feature, Paths}
use Rattle.mrs_places.specs.Looking.{step}
use Rattle.mrs_extract.specs.Asked.{ArePaths}
use Rattle.mrs_extract.specs.Extraction.{is_string, type_name, feature_name, IsVariableAt, IsValueAt, IsPropertyAt}
use Rattle.mrs_extract.specs.Inner.Routes.{joined, numbers_of}
use Rattle.mrs_extract.proofs.Lists.{In, in_of, firm_of, firm_arc, all_at}
use Rattle.generate_model.specs.Threads.{times, Reaches}
use Rattle.generate_model.specs.Embedding.{Embeds}
use Rattle.generate_model.specs.Threading.{Hopeless}
use Rattle.generate_model.specs.Contributions.{Input, Means}
use Rattle.generate_model.proofs.Threaded.{appended}
use Rattle.relation_fit.specs.declared.seeking.Named.{Named}
use Rattle.relation_fit.specs.declared.seeking.SoughtProp.{SoughtProp}
use Rattle.relation_fit.specs.declared.seeking.SoughtValue.{SoughtValue}
use Rattle.relation_fit.specs.declared.seeking.SoughtValue.TheVariants.{Text, Var}
use Rattle.relation_fit.specs.declared.seeking.SoughtRole.{SoughtRole}
use Rattle.relation_fit.specs.declared.seeking.SoughtEp.{SoughtEp}
use Rattle.relation_fit.specs.Lists.{RelList}
use Rattle.relation_fit.specs.Fits.{IsAskedOf, IsPartOf, SameBelow}
use Rattle.relation_fit.specs.Sought.{IsPredicate, IsText, IsValue, AreNamed, IsSoughtProp, IsSoughtValue, IsSoughtRole, IsSoughtEp, AreSought}
use Rattle.relation_fit.specs.Tests.{is_under, may_be, end_fits, prop_fits, value_fits, filler_fits, role_fits, pred_fits, ep_fits, element_fits, cell_fits, misfits, misfits_between, has_misfit}
use Rattle.relation_fit.proofs.Nodes.{some_one, node_inside}
use Rattle.relation_fit.proofs.Chains.{Chain, chain_of, no_return}
use Rattle.relation_fit.proofs.Over.{Over, over_path, over_arc, over_step, over_type}
use Rattle.relation_fit.proofs.Joined.{one_feature, joined_one, Led, led}
use Rattle.relation_fit.proofs.Predications.{IsFilled, Tells, zip_fore, CellTold, cell_told}

both_true : (a b : Bool) → a ≡ true → b ≡ true → (a && b) ≡ true
both_true true b e f = f
both_true false b e f = e

either_true : (a b : Bool) → b ≡ true → (a || b) ≡ true
either_true true b e = refl
either_true false b e = e

all_true : {A : Type 0} (f : A → Bool) (xs : List A) → ((x : A) → In x xs → f x ≡ true) → list_all f xs ≡ true
all_true f [] h = refl
all_true f (x ∷ xs) h = both_true (f x) (list_all f xs) (h x (inl refl)) (all_true f xs (λ y k. h y (inr k)))

any_true : {A : Type 0} (f : A → Bool) (xs : List A) (x : A) → In x xs → f x ≡ true → list_any f xs ≡ true
any_true f [] x h e = absurd h
any_true f (y ∷ xs) x (inl q) e = ap (λ b. b || list_any f xs) (ap f (sym q) ∙ e)
any_true f (y ∷ xs) x (inr h) e = either_true (f y) (list_any f xs) (any_true f xs x h e)

-- a type that may be named so
named_may : (types : TypeTable) (P : ℕ → Type 0) (named : Named) (u t : ℕ) → AreNamed types P named → P u → is_below types u t ≡ true → may_be types named t ≡ true
named_may types P named u t are p le = by_case (are u p)
  where
    by_case : (named.any ≡ true) ⊎ ((u < count_of types) × Any (λ x. x.0 ≡ u) named.types.items) → may_be types named t ≡ true
    by_case (inl e) = ap (λ b. b || list_any (λ x. is_under types x.0 t) named.types.items) e
    by_case (inr (lt, a)) =
        either_true named.any (list_any (λ x. is_under types x.0 t) named.types.items)
        (list_any-from_Any (λ x. is_under types x.0 t) named.types.items
        (a.0, a.1, a.2, a.3, subst (λ n. is_under types n t ≡ true) (sym a.4) (both_true (nat_lt u (count_of types)) (is_below types u t) (lt-ltb u (count_of types) lt) le)))

-- above what is no string is no string
above_completed : (types : TypeTable) (u t : ℕ) → is_string types u ≡ false → is_below types u t ≡ true → nat_lt t (completed_count types) ≡ true
above_completed types u t s e = by_test (nat_lt u (completed_count types)) refl
  where
    left : (a b : Bool) → (a && b) ≡ true → a ≡ true
    left true b q = refl
    left false b q = q

    by_test : (b : Bool) → nat_lt u (completed_count types) ≡ b → nat_lt t (completed_count types) ≡ true
    by_test true q =
        left (nat_lt t (completed_count types)) (is_subset (set_of types u) (set_of types t)) (sym (ap (λ b. if b then is_set_below types u t else ((u == t) || is_set_below types types.string_type t)) q) ∙ e)
    by_test false q = absurd (let y : true ≡ false = sym (ap not q) ∙ s in cc)

no_arcs : (arcs : List GraphArc) → ((f k : ℕ) → arc_to arcs f ≡ Some k → ⊥) → (length arcs == 0) ≡ true
no_arcs [] h = refl
no_arcs (a ∷ arcs) h = absurd (h a.feat.0 a.to.0 (rw (eq-eqb a.feat.0 a.feat.0 refl) refl))

module _ (types : TypeTable) (p : Paths) (named : ArePaths types p) (v u : GraphMap) (iv : IsGraph v) (iu : IsGraph u) where
  module _ (vars : List Variable) where
    -- a property
    prop_true : (n m : ℕ) → m < length u.types → Over types v n u m → (x : Variable) → IsVariableAt u types p m x → (q : SoughtProp) → IsSoughtProp types p x q → prop_fits types v n q ≡ true
    prop_true n m lm o x var q is = by_end (walk (table_of v) n (path_of q.path.items)) refl
      where
        no_handle : x.sort ≢ codes "h"
        no_handle e = let c : Contains [] is.prop = subst (λ ps. Contains ps is.prop) (var.handle e) is.has in let l = c.1 in absurd (omega (arith, l))

        way : Led u iu types p m is.prop.name is.prop.value
        way = led u iu types p m is.prop.name is.prop.value lm ((var.props no_handle is.prop).0 is.has)

        one_way : numbers_of q.path.items ≡ way.path
        one_way = joined_one types p named (numbers_of q.path.items) way.path (subst (λ k. 0 < k) (sym (count q.path.items)) is.filled) way.filled is.inside (is.name ∙ sym way.named)
          where
            count : (fs : List Feat) → length (numbers_of fs) ≡ length fs
            count [] = refl
            count (f ∷ fs) = ap suc (count fs)

        by_end : (e : Option ℕ) → walk (table_of v) n (path_of q.path.items) ≡ e → end_fits types v q.value e ≡ true
        by_end None e = refl
        by_end (Some k) e =
            let z = over_path types v u iv iu n m o (path_of q.path.items) k e in
            let there : walk (table_of u) m (path_of q.path.items) ≡ Some way.end = ap (walk (table_of u) m) one_way ∙ way.leads in
            let end : z.0 ≡ way.end = some_one z.1 there in
            let over : Over types v k u way.end = subst (Over types v k u) end z.2 in
            both_true (length (arcs_at v k) == 0) (may_be types q.value (type_at v k))
            (no_arcs (arcs_at v k) (λ f j a. (let y = over_arc types v u iv iu k way.end f j over a in
            let none : None ≡ Some y.0 = sym (ap (λ l. arc_to l f) way.is_value.bare) ∙ y.1 in cc)))
            (named_may types (IsValue types is.prop.value) q.value (type_at u way.end) (type_at v k) is.value (way.is_value.typed, sym way.is_value.named) (over_type types v u iv iu k way.end over))

    -- what fills a role
    value_true : (n m : ℕ) → m < length u.types → Over types v n u m → (f : Filler) → IsFilled u types p vars m f → (x : SoughtValue) → IsSoughtValue types p vars f x → value_fits types v n x ≡ true
    value_true n m lm o (of_text text) h (Text x) is = named_may types (IsText types text) x (type_at u m) (type_at v n) is (h.0, sym h.1) (over_type types v u iv iu n m o)
    value_true n m lm o (of_text text) h (Var props) is = absurd is
    value_true n m lm o (of_var w) h (Text x) is = absurd is
    value_true n m lm o (of_var w) h (Var props) is =
        let same : h.var ≡ is.0 = some_var h.var is.0 (sym h.at ∙ is.1) in
        both_true (nat_lt (type_at v n) (completed_count types)) (list_all (prop_fits types v n) props.items)
        (above_completed types (type_at u m) (type_at v n) h.no_text (over_type types v u iv iu n m o))
        (all_true (prop_fits types v n) props.items (λ q k. prop_true n m lm o is.0 (subst (IsVariableAt u types p m) same h.is) q (all_at (IsSoughtProp types p is.0) props.items q is.2 k)))
      where
        some_var : (x y : Variable) → Some x ≡ Some y → x ≡ y
        some_var x y e = cc

    module _ (n m : ℕ) (lm : m < length u.types) (o : Over types v n u m) (e : Predication) (t : Tells u types p vars m e) where
      role_true : (r : SoughtRole) → IsSoughtRole types p vars e.args r → role_fits types v n r ≡ true
      role_true r is = by_arc (arc_to (arcs_at v n) r.feat.0) refl
        where
          by_arc : (a : Option ℕ) → arc_to (arcs_at v n) r.feat.0 ≡ a → filler_fits types v r.value a ≡ true
          by_arc None q = refl
          by_arc (Some k) q =
              let z = over_arc types v u iv iu n m r.feat.0 k o q in
              let w = t.role is.arg (in_of e.args is.arg is.has) in
              let f : r.feat.0 ≡ w.0.feat.0 = one_feature types p named r.feat.0 w.0.feat.0 is.inside (is.named ∙ w.2) in
              let there : arc_to (arcs_at u m) r.feat.0 ≡ Some w.0.to.0 = ap (arc_to (arcs_at u m)) f ∙ firm_arc (arcs_at u m) w.0 (firm_of (arcs_at u m) (iu.rises m lm)) w.1 in
              let s : z.0 ≡ w.0.to.0 = some_one z.1 there in
              value_true k w.0.to.0 (iu.numbered.table.arc_in m r.feat.0 w.0.to.0 lm there) (subst (Over types v k u) s z.2) is.arg.filler w.3 r.value is.value

      ep_true : (x : SoughtEp) → IsSoughtEp types p vars e x → ep_fits types v p n x ≡ true
      ep_true x is =
          both_true (pred_fits types v x.pred (step v n p.pred)) (list_all (role_fits types v n) x.roles.items) (by_step (step v n p.pred) refl)
          (all_true (role_fits types v n) x.roles.items (λ r k. role_true r (all_at (IsSoughtRole types p vars e.args) x.roles.items r is.roles k)))
        where
          by_step : (a : Option ℕ) → step v n p.pred ≡ a → pred_fits types v x.pred a ≡ true
          by_step None q = refl
          by_step (Some k) q =
              let z = over_step types v u iv iu n m k p.pred o q in
              let s : z.0 ≡ t.named = some_one z.1 t.pred_at in
              named_may types (IsPredicate types e.pred) x.pred (type_at u t.named) (type_at v k) is.pred t.pred (over_type types v u iv iu k t.named (subst (Over types v k u) s z.2))

  -- the element of a cell that is over one of a structure that means the input
  cell_true : (meaning : Meaning) (eps : List SoughtEp) → AreSought types p meaning eps → (c d : ℕ) → d < length u.types → Over types v c u d → (m : ℕ) → step u d p.first ≡ Some m →
      (e : Predication) → In e meaning.eps → Tells u types p meaning.vars m e → cell_fits types v p eps c ≡ true
  cell_true meaning eps are c d ld o m first e h t = by_step (step v c p.first) refl
    where
      inside : m < length u.types
      inside = by_number p.first.number refl
        where
          by_number : (a : Option ℕ) → p.first.number ≡ a → m < length u.types
          by_number None q = absurd (let z : None ≡ Some m = ap (arc_named u d) (sym q) ∙ first in cc)
          by_number (Some f) q = iu.numbered.table.arc_in d f m ld (ap (arc_named u d) (sym q) ∙ first)

      by_step : (a : Option ℕ) → step v c p.first ≡ a → element_fits types v p eps a ≡ true
      by_step None q = refl
      by_step (Some n) q =
          let z = over_step types v u iv iu c d n p.first o q in
          let s : z.0 ≡ m = some_one z.1 first in
          let x = zip_fore (IsSoughtEp types p meaning.vars) meaning.eps eps are e h in
          any_true (ep_fits types v p n) eps x.0 x.1 (ep_true meaning.vars n m inside (subst (Over types v n u) s z.2) e t x.0 x.2)

-- what the walk has seen
module _ (types : TypeTable) (p : Paths) (eps : List SoughtEp) (g : GraphMap) (rest end : ℕ) where
  pub record Seen (node : ℕ) (before : Bool) : Type 0 where
    pub count : ℕ
    pub reached : walk (table_of g) node (times rest count) ≡ Some end
    pub misfit : (before ≡ true) ⊎ ((j : ℕ) × (j < count) × (c : ℕ) × (walk (table_of g) node (times rest j) ≡ Some c) × (cell_fits types g p eps c ≡ false))

  seen_of : (k node : ℕ) (before : Bool) → misfits types g p eps rest end k node before ≡ true → Seen node before
  seen_of zero node before h = absurd (let z : false ≡ true = h in cc)
  seen_of (suc k) node before h = by_end (node == end) refl (λ to b z. seen_of k to b z)
    where
      on : (to : ℕ) → arc_to (arcs_at g node) rest ≡ Some to → Seen to (before || not (cell_fits types g p eps node)) → Seen node before
      on to a s = record { count = suc s.count; reached = along (times rest s.count) ∙ s.reached; misfit = by_misfit s.misfit }
        where
          along : (q : Path) → walk (table_of g) node (rest ∷ q) ≡ walk (table_of g) to q
          along q = ap (λ o. elim o as (λ _. Option ℕ) [ None ↦ None | Some m ↦ walk (table_of g) m q ]) a

          here_or : (b f : Bool) → before ≡ b → cell_fits types g p eps node ≡ f → (b || not f) ≡ true → (before ≡ true) ⊎ ((j : ℕ) × (j < suc s.count) × (c : ℕ) × (walk (table_of g) node (times rest j) ≡ Some c) × (cell_fits types g p eps c ≡ false))
          here_or true f q w z = inl q
          here_or false true q w z = absurd (let y : false ≡ true = z in cc)
          here_or false false q w z = inr (0, omega arith, node, refl, w)

          by_misfit : ((before || not (cell_fits types g p eps node)) ≡ true) ⊎ ((j : ℕ) × (j < s.count) × (c : ℕ) × (walk (table_of g) to (times rest j) ≡ Some c) × (cell_fits types g p eps c ≡ false)) →
              (before ≡ true) ⊎ ((j : ℕ) × (j < suc s.count) × (c : ℕ) × (walk (table_of g) node (times rest j) ≡ Some c) × (cell_fits types g p eps c ≡ false))
          by_misfit (inl z) = here_or before (cell_fits types g p eps node) refl refl z
          by_misfit (inr x) = let l = x.1 in inr (suc x.0, omega (arith, l), x.2, along (times rest x.0) ∙ x.3, x.4)

      by_arc : (o : Option ℕ) → arc_to (arcs_at g node) rest ≡ o → elim o as (λ _. Bool) [ None ↦ false | Some to ↦ misfits types g p eps rest end k to (before || not (cell_fits types g p eps node)) ] ≡ true →
          ((to : ℕ) (b : Bool) → misfits types g p eps rest end k to b ≡ true → Seen to b) → Seen node before
      by_arc None a z again = absurd (let y : false ≡ true = z in cc)
      by_arc (Some to) a z again = on to a (again to (before || not (cell_fits types g p eps node)) z)

      by_end : (b : Bool) → (node == end) ≡ b → ((to : ℕ) (c : Bool) → misfits types g p eps rest end k to c ≡ true → Seen to c) → Seen node before
      by_end true q again = record { count = 0; reached = ap Some (eqb-true node end q); misfit = inl (rw q at h) }
      by_end false q again = by_arc (arc_to (arcs_at g node) rest) refl (rw q at h) again

-- where the test is true
pub record Misfit (types : TypeTable) (p : Paths) (eps : List SoughtEp) (g : GraphMap) (l : RelList) : Type 0 where
  pub start : ℕ
  pub start_is : node_at g l.ends.start ≡ Some start
  pub end : ℕ
  pub end_is : node_at g l.ends.end ≡ Some end
  pub count : ℕ
  pub reached : walk (table_of g) start (times l.rest count) ≡ Some end
  pub at : ℕ
  pub inside : at < count
  pub cell : ℕ
  pub cell_is : walk (table_of g) start (times l.rest at) ≡ Some cell
  pub unfit : cell_fits types g p eps cell ≡ false

pub misfit_of : (types : TypeTable) (p : Paths) (eps : List SoughtEp) (g : GraphMap) (l : RelList) → has_misfit types g p eps l ≡ true → Misfit types p eps g l
misfit_of types p eps g l h = by_ends (node_at g l.ends.end) refl (node_at g l.ends.start) refl h
  where
    by_seen : (start end : ℕ) → node_at g l.ends.end ≡ Some end → node_at g l.ends.start ≡ Some start → (s : Seen types p eps g l.rest end start false) →
        (false ≡ true) ⊎ ((j : ℕ) × (j < s.count) × (c : ℕ) × (walk (table_of g) start (times l.rest j) ≡ Some c) × (cell_fits types g p eps c ≡ false)) → Misfit types p eps g l
    by_seen start end e f s (inl z) = absurd (cc)
    by_seen start end e f s (inr x) = record { start = start; start_is = f; end = end; end_is = e; count = s.count; reached = s.reached; at = x.0; inside = x.1; cell = x.2; cell_is = x.3; unfit = x.4 }

    by_ends : (a : Option ℕ) → node_at g l.ends.end ≡ a → (b : Option ℕ) → node_at g l.ends.start ≡ b → misfits_between types g p eps l.rest a b ≡ true → Misfit types p eps g l
    by_ends None e b f z = absurd (let y : false ≡ true = z in cc)
    by_ends (Some end) e None f z = absurd (let y : false ≡ true = z in cc)
    by_ends (Some end) e (Some start) f z = let s = seen_of types p eps g l.rest end (length g.types) start false z in by_seen start end e f s s.misfit

-- a structure of which the test is true is hopeless
module _ (g : Signs) (input : Input) (l : RelList) (asked : IsAskedOf g input l) (named : ArePaths input.types input.paths) (eps : List SoughtEp) (sought : AreSought input.types input.paths input.meaning eps)
    (graph : GraphMap) (is : IsGraph graph) (v : Structure) (part : IsPartOf (Meant (rule_system g) v) (reader_of graph)) (fault : Misfit input.types input.paths eps graph l) where
  on_walk : (q : Path) (k : ℕ) → walk (table_of graph) fault.start q ≡ Some k → node_at graph (l.ends.start ++ q) ≡ Some k
  on_walk q k e = walk-append (table_of graph) is.numbered.table 0 fault.start l.ends.start q fault.start_is ∙ e

  module _ (n m before : ℕ) (u : Structure) (rv : Reaches (Meant (rule_system g) v) l.rest l.ends n) (ru : Reaches (Meant (rule_system g) u) l.rest l.ends m) (low : before + n ≤ m) (em : Embeds (rule_system g) l.rest l.ends n before v u) (a : Means g input u) where
    abbrev gu : GraphMap
    gu = a.graph

    -- the list ends where the walk found its end, or later
    no_further : n < fault.count → ⊥
    no_further lt =
        let d = fault.count - n in
        let k = fault.count - n - 1 in
        let front = l.ends.start ++ times l.rest n in
        let back = l.ends.start ++ times l.rest fault.count in
        let path = l.ends.start ++ times l.rest (before + n) in
        let split : front ++ times l.rest d ≡ back = appended g.system (λ (c : Claim). Unit {0}) l.rest l.ends.start n d ∙ ap (λ i. l.ends.start ++ times l.rest i) (omega (arith, lt)) in
        let ends = part.equal back l.ends.end fault.end (on_walk (times l.rest fault.count) fault.end fault.reached) fault.end_is in
        let turn : Meant (rule_system g) v (same front back) = same_trans front l.ends.end back rv (same_sym back l.ends.end ends) in
        let shown : Meant (rule_system g) v (same (front ++ []) (front ++ times l.rest d)) =
        subst (λ q. Meant (rule_system g) v (same q (front ++ times l.rest d))) (sym (append-nil front)) (subst (λ q. Meant (rule_system g) v (same front q)) (sym split) turn) in
        let x = (a.is.shows.equalities (path ++ []) (path ++ times l.rest d)).0 (em.equal n n [] (times l.rest d) (omega arith) (omega arith) shown) in
        let at : node_at gu path ≡ Some x.0 = ap (node_at gu) (sym (append-nil path)) ∙ x.1 in
        let round : walk (table_of gu) x.0 (times l.rest d) ≡ Some x.0 = sym (walk-append (table_of gu) a.is.graph_is.numbered.table 0 x.0 path (times l.rest d) at) ∙ x.2 in
        let long : d ≡ suc k = omega (arith, lt) in
        no_return gu a.is.graph_is l.rest (subst (λ j. Chain gu a.is.graph_is l.rest x.0 j x.0) long (chain_of gu a.is.graph_is l.rest d x.0 x.0 round)) (node_inside gu a.is.graph_is path x.0 at) refl

    here : fault.at < n
    here = ⊎_elim (λ lt. absurd (no_further lt)) (λ le. (let i = fault.inside in omega (arith, le, i))) (cases_lt n fault.count)

    abbrev path : Path
    path = l.ends.start ++ times l.rest fault.at

    abbrev place : Path
    place = l.ends.start ++ times l.rest (before + fault.at)

    told : CellTold input gu place
    told = cell_told g asked.order input asked.same_below l asked.list asked.apart u a m ru (before + fault.at) (let h = here in omega (arith, h, low))

    over : Over input.types graph fault.cell gu told.cell
    over q k e =
        let at = on_walk (times l.rest fault.at) fault.cell fault.cell_is in
        let there : node_at graph (path ++ q) ≡ Some k = walk-append (table_of graph) is.numbered.table 0 fault.cell path q at ∙ e in
        let up = em.typed fault.at q (type_at graph k) (let h = here in omega (arith, h)) (part.typed (path ++ q) k there) in
        let x = (a.is.shows.paths (place ++ q)).0 (below_exists (place ++ q) (type_at graph k) up) in
        let le = a.is.shows.types_above (place ++ q) x.0 (type_at graph k) x.1 up in
        (x.0, sym (walk-append (table_of gu) a.is.graph_is.numbered.table 0 told.cell place q told.cell_is) ∙ x.1, sym (asked.same_below (type_at gu x.0) (type_at graph k)) ∙ le)

    clash : ⊥
    clash =
        let fits = cell_true input.types input.paths named graph gu is a.is.graph_is input.meaning eps sought fault.cell told.cell (node_inside gu a.is.graph_is place told.cell told.cell_is) over told.element told.element_is told.ep told.among told.tells in
        let z : false ≡ true = sym fault.unfit ∙ fits in
        cc

  pub misfit_hopeless : Hopeless {C = Counts} (rule_system g) l.rest l.ends (λ u c. Means g input u) v
  misfit_hopeless n m before u c rv ru low em a = clash n m before u rv ru low em a

-- the same of the test itself
pub misfit_told : (g : Signs) (input : Input) (l : RelList) → IsAskedOf g input l → ArePaths input.types input.paths → (eps : List SoughtEp) → AreSought input.types input.paths input.meaning eps →
    (graph : GraphMap) → IsGraph graph → (v : Structure) → IsPartOf (Meant (rule_system g) v) (reader_of graph) → (types : TypeTable) (p : Paths) → input.types ≡ types → input.paths ≡ p → has_misfit types graph p eps l ≡ true →
    Hopeless {C = Counts} (rule_system g) l.rest l.ends (λ u c. Means g input u) v
misfit_told g input l asked named eps sought graph is v part types p e f told =
    misfit_hopeless g input l asked named eps sought graph is v part
    (misfit_of input.types input.paths eps graph l (subst (λ t. has_misfit t graph input.paths eps l ≡ true) (sym e) (subst (λ q. has_misfit types graph q eps l ≡ true) (sym f) told)))
