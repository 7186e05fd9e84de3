-- A constraint that enters at a node, whatever other work there is.
use Rattle.std.proofs.Common.{ℕ, ◌≡◌, ◌≤◌, ◌<◌, ◌+◌, ◌-◌, ◌⊎◌, inl, inr, List, [], ◌∷◌, ◌++◌, length, append-nil, sym, ◌∙◌, ap, subst, arith, length-append, Option, None, Some}
use Rattle.std.proofs.lemmas.Bool.{cases_lt}
use Rattle.type_hierarchy.specs.Table.{meet_of}
use Rattle.fs_model.specs.Claims.{Path, exists_at, below, System, Has, here, there}
use Rattle.fs_model.specs.Closure.{Closure, introduced}
use Rattle.fs_model.specs.Sources.{Told, IsGraphOf}
use Rattle.fs_model.specs.Table.{NodeClaim, is_same, is_under, Stated, by_node, by_arc, by_merge, by_type, by_work, Follows, stated, under_same, under_both, under_higher, read}
use Rattle.fs_model.specs.Steps.{InTable}
use Rattle.fs_model.proofs.StepLemmas.{Follows-grows, Closes-rework, first_feature}
use Rattle.fs_graph.specs.GraphMap.{GraphMap, IsGraph, reader_of}
use Rattle.fs_closing.specs.Constraints.{type_source, IsConstraint, IsUnderBy}
use Rattle.fs_closing.specs.declared.tasks.Tasks.{Tasks}
use Rattle.std.specs.Prelude.{MatchOption}
use Rattle.fs_closing.specs.declared.nodes.Nodes.{Nodes}
use Rattle.fs_closing.specs.Keeps.{Deep, Turns, Refutes, Leads, Clashes, deep_of, begin}
use Rattle.fs_closing.specs.Work.{AreReady, work_of}
use Rattle.fs_closing.specs.NodeSteps.{EntersTable}
use Rattle.fs_closing.specs.Rules.{Grammar, system_of}
use Rattle.fs_closing.proofs.HasLemmas.{Has-left}
use Rattle.fs_closing.proofs.GraftLemmas.{extended, con_deeper, grafted_old, grafted_new, Closes-grafts}
use Rattle.fs_closing.proofs.KeepsLemmas.{begin_before, begin_node, Turns-on, Refutes-after}
use Rattle.fs_closing.proofs.StepLemmas.{turn_one, refute_one}
use Rattle.fs_closing.proofs.ReadLemmas.{follows_read}

-- what follows from work follows beside other work
pub follows_beside : (s : System) (x : Deep) (work extra : List NodeClaim) (c : NodeClaim) → Follows s x.table work c → Follows s x.table (work ++ extra) c
follows_beside s x work extra c h = Follows-grows s x.table x.table work (work ++ extra) kept c h
  where
    kept : (d : NodeClaim) → Stated x.table work d → Follows s x.table (work ++ extra) d
    kept _ (by_node n i) = stated _ (by_node n i)
    kept _ (by_arc n f m i l e) = stated _ (by_arc n f m i l e)
    kept _ (by_merge n i) = stated _ (by_merge n i)
    kept _ (by_type n i l) = stated _ (by_type n i l)
    kept _ (by_work d i) = stated _ (by_work d (Has-left d work extra i))

-- The graph of a type's constraint enters, and its root is to be a node that is at or below the type.
pub Turns-grafts : (s : System) (x y : Deep) (g : GraphMap) (graph : IsGraph g) (v n : ℕ) (work : List NodeClaim) →
    IsGraphOf s (Told (type_source v)) (reader_of g) → EntersTable g x.table y.table → ((k : ℕ) → k < x.table.size → y.depth k ≡ x.depth k) →
    y.depth x.table.size ≡ x.depth n → ((k : ℕ) → 0 < k → k < length g.types → y.depth (x.table.size + k) ≡ x.depth n + 1) → n < x.table.size →
    Follows s x.table work (is_under n [] v) → Turns s x work y (is_same n [] x.table.size [] ∷ work)
Turns-grafts s x y g graph v n work is enters d_old d_root d_inner n_in under extra source w old = (
  extended w x.table.size (w n) graph.least,
  record {
    closes = Closes-grafts s source g graph v is x.table y.table enters (work ++ extra) w old.closes n n_in said;
    deep = deep;
  },
)
  where
    said : Closure s (Told source) (below (w n) v)
    said =
        subst (λ p. Closure s (Told source) (below p v)) (append-nil (w n))
        (follows_read s (Told source) x.table (work ++ extra) w old.closes.sound _ (follows_beside s x work extra _ under))

    inner : (j : ℕ) → j < length g.types → (0 < j) ⊎ (j ≤ 0) → y.depth (x.table.size + j) ≤ length (extended w x.table.size (w n) graph.least (x.table.size + j))
    inner j h (inl pos) =
        omega (
          arith,
          d_inner j pos h,
          old.deep n n_in,
          con_deeper s g graph v is j pos h,
          ap length (grafted_new w x.table.size (w n) graph.least j),
          length-append (w n) (graph.least j),
        )
    inner j h (inr none) =
        let z : j ≡ 0 = omega arith in
        let at : x.table.size + j ≡ x.table.size = omega arith in
        omega (
          arith,
          ap y.depth at,
          d_root,
          old.deep n n_in,
          ap length (grafted_new w x.table.size (w n) graph.least j),
          length-append (w n) (graph.least j),
        )

    deep : (k : ℕ) → k < y.table.size → y.depth k ≤ length (extended w x.table.size (w n) graph.least k)
    deep k h = go (cases_lt k x.table.size)
      where
        go : (k < x.table.size) ⊎ (x.table.size ≤ k) → y.depth k ≤ length (extended w x.table.size (w n) graph.least k)
        go (inl a) = omega (arith, d_old k a, old.deep k a, ap length (grafted_old w x.table.size (w n) graph.least k a))
        go (inr a) =
            let e : x.table.size + (k - x.table.size) ≡ k = omega arith in
            let i : k - x.table.size < length g.types = omega (arith, enters.size_is, h) in
            subst (λ m. y.depth m ≤ length (extended w x.table.size (w n) graph.least m)) e (inner (k - x.table.size) i (cases_lt 0 (k - x.table.size)))

-- the same at the node that another one was merged into, where this one is to be put under a type
pub Turns-grafts_under : (g : Grammar) (x y : Deep) (h : GraphMap) (graph : IsGraph h) (v node n ty : ℕ) (work : List NodeClaim) →
    IsConstraint g v h → EntersTable h x.table y.table → ((k : ℕ) → k < x.table.size → y.depth k ≡ x.depth k) →
    y.depth x.table.size ≡ x.depth n → ((k : ℕ) → 0 < k → k < length h.types → y.depth (x.table.size + k) ≡ x.depth n + 1) →
    node < x.table.size → n < x.table.size → n ≡ x.table.live node → x.table.live n ≡ n → IsUnderBy g x.table (x.table.live node) ty v →
    Turns (system_of g) x (is_under node [] ty ∷ work) y (is_same n [] x.table.size [] ∷ is_under node [] ty ∷ work)
Turns-grafts_under g x y h graph v node n ty work is enters d_old d_root d_inner node_in n_in is_n stays by =
    Turns-grafts (system_of g) x y h graph v n (is_under node [] ty ∷ work) is.structure enters d_old d_root d_inner n_in
    (under_higher n by.met v [] (under_both n (x.table.type_of n) ty by.met [] typed claimed meets) by.below)
  where
    claims : List NodeClaim
    claims = is_under node [] ty ∷ work

    merged : Follows (system_of g) x.table (is_under node [] ty ∷ work) (is_same node [] n [])
    merged = subst (λ k. Follows (system_of g) x.table (is_under node [] ty ∷ work) (is_same node [] k [])) (sym is_n) (stated _ (by_merge node node_in))

    claimed : Follows (system_of g) x.table (is_under node [] ty ∷ work) (is_under n [] ty)
    claimed = under_same node n ty [] [] merged (stated _ (by_work _ here))

    typed : Follows (system_of g) x.table (is_under node [] ty ∷ work) (is_under n [] (x.table.type_of n))
    typed = stated _ (by_type n n_in stays)

    meets : meet_of g.types (x.table.type_of n) ty ≡ Some by.met
    meets = ap (λ k. meet_of g.types (x.table.type_of k) ty) is_n ∙ by.met_is

-- a claim on a path that begins with a feature puts the node under its introducer
pub Turns-introduces : (s : System) (x : Deep) (n f : ℕ) (p : Path) (c : NodeClaim) (work : List NodeClaim) →
    Turns s x (begin n (f ∷ p) c ∷ work) x (is_under n [] (s.introducer f) ∷ begin n (f ∷ p) c ∷ work)
Turns-introduces s x n f p c work extra source w old = (
  w,
  record {
    closes = Closes-rework s (Told source) x.table _ _ w old.closes range (λ d h. stated _ (by_work _ (there h))) says;
    deep = old.deep;
  },
)
  where
    range : (d : NodeClaim) → Has d (is_under n [] (s.introducer f) ∷ begin n (f ∷ p) c ∷ (work ++ extra)) → InTable x.table.size d
    range _ here = begin_node x.table.size n (f ∷ p) c (old.closes.in_table _ here)
    range d (there h) = old.closes.in_table d h

    first : Closure s (Told source) (read w (begin n (f ∷ p) c)) → Closure s (Told source) (exists_at (w n ++ f ∷ []))
    first h = first_feature s (Told source) w n f (begin n p c) (subst (λ d. Closure s (Told source) (read w d)) (sym (begin_before n f n p c)) h)

    says : (d : NodeClaim) → Has d (is_under n [] (s.introducer f) ∷ begin n (f ∷ p) c ∷ (work ++ extra)) → Closure s (Told source) (read w d)
    says _ here =
        subst (λ q. Closure s (Told source) (below q (s.introducer f))) (sym (append-nil (w n)))
        (introduced (w n) f (first (old.closes.sound.stated_in _ (by_work _ here))))
    says d (there h) = old.closes.sound.stated_in _ (by_work _ h)

-- tasks stay in range where nodes are added
pub ready_wider : (size size' types rules : ℕ) (tasks : Tasks) → size ≤ size' → AreReady size types rules tasks → AreReady size' types rules tasks
ready_wider size size' types rules tasks grows r = record {
  pairs = λ x h. let y = r.pairs x h in (omega (arith, y.0, grows), omega (arith, y.1, grows));
  bounds = λ x h. let y = r.bounds x h in (omega (arith, y.0, grows), y.1);
  entries = λ x h. let y = r.entries x h in (omega (arith, y.0, grows), y.1);
}

-- the first claim of a path goes one arc on, once the node is under the feature's introducer
pub introduced_on : (s : System) (x y z : Deep) (n f : ℕ) (p : Path) (c : NodeClaim) (work work' last : List NodeClaim) →
    Turns s x (is_under n [] (s.introducer f) ∷ work) y work' → Turns s y (begin n (f ∷ p) c ∷ work') z last → Turns s x (begin n (f ∷ p) c ∷ work) z last
introduced_on s x y z n f p c work work' last bound on =
    Turns-on s x y z (begin n (f ∷ p) c ∷ work) (begin n (f ∷ p) c ∷ work') last
    (turn_one s x x y (begin n (f ∷ p) c ∷ work) (is_under n [] (s.introducer f)) (begin n (f ∷ p) c ∷ []) work work' (Turns-introduces s x n f p c work) bound) on

pub introduced_clash : (s : System) (x y : Deep) (n f : ℕ) (p : Path) (c : NodeClaim) (work work' : List NodeClaim) →
    Turns s x (is_under n [] (s.introducer f) ∷ work) y work' → Refutes s y (begin n (f ∷ p) c ∷ work') → Refutes s x (begin n (f ∷ p) c ∷ work)
introduced_clash s x y n f p c work work' bound clash =
    Refutes-after s x y (begin n (f ∷ p) c ∷ work) (begin n (f ∷ p) c ∷ work')
    (turn_one s x x y (begin n (f ∷ p) c ∷ work) (is_under n [] (s.introducer f)) (begin n (f ∷ p) c ∷ []) work work' (Turns-introduces s x n f p c work) bound) clash

pub unintroduced : (s : System) (x : Deep) (n f : ℕ) (p : Path) (c : NodeClaim) (work : List NodeClaim) →
    Refutes s x (is_under n [] (s.introducer f) ∷ work) → Refutes s x (begin n (f ∷ p) c ∷ work)
unintroduced s x n f p c work clash =
    refute_one s x x (begin n (f ∷ p) c ∷ work) (is_under n [] (s.introducer f)) (begin n (f ∷ p) c ∷ []) work (Turns-introduces s x n f p c work) clash

-- one arc on from a node that was put under the feature's introducer
pub go_on : (g : Grammar) (x y z : Nodes) (n f : ℕ) (tasks tasks' last : Tasks) (o : Option ℕ) →
    Leads g x (is_under n [] ((system_of g).introducer f) ∷ work_of g.rules tasks) y (work_of g.rules tasks') →
    MatchOption o ((c : NodeClaim) (p : Path) → Clashes g y (begin n (f ∷ p) c ∷ work_of g.rules tasks'))
    (λ m. (c : NodeClaim) (p : Path) → Leads g y (begin n (f ∷ p) c ∷ work_of g.rules tasks') z (begin m p c ∷ work_of g.rules last)) →
    MatchOption o ((c : NodeClaim) (p : Path) → Clashes g x (begin n (f ∷ p) c ∷ work_of g.rules tasks))
    (λ m. (c : NodeClaim) (p : Path) → Leads g x (begin n (f ∷ p) c ∷ work_of g.rules tasks) z (begin m p c ∷ work_of g.rules last))
go_on g x y z n f tasks tasks' last None bound h =
    λ c p. introduced_clash (system_of g) (deep_of x) (deep_of y) n f p c (work_of g.rules tasks) (work_of g.rules tasks') bound (h c p)
go_on g x y z n f tasks tasks' last (Some m) bound h =
    λ c p. introduced_on (system_of g) (deep_of x) (deep_of y) (deep_of z) n f p c (work_of g.rules tasks) (work_of g.rules tasks')
    (begin m p c ∷ work_of g.rules last) bound (h c p)
