-- The first node, facts at it, and the answer.
use Rattle.std.proofs.Common.{ℕ, suc, ◌≡◌, ◌≢◌, ◌≤◌, ◌<◌, ◌+◌, ◌-◌, ◌⊎◌, inl, inr, Bool, true, false, Option, Some, None, List, [], ◌∷◌, ◌++◌, length, map, drop, slice_index_or, append-nil, refl, sym, ◌∙◌, ap, subst, arith}
use Rattle.std.proofs.lemmas.Bool.{cases_lt}
use Rattle.std.proofs.Math.Seq.{drop-cons}
use Rattle.fs_model.specs.Claims.{Path, Claim, exists_at, same, below, System, IsOrder, IsBare, Has, here}
use Rattle.fs_model.specs.Closure.{Closure, IsConsistent, given_claim, same_exists, below_exists, prefix}
use Rattle.fs_model.specs.Sources.{Reader, Source, Told, told_claim, told_part, Tells, tells_exists, tells_same, tells_below, IsGraphOf, IsUnified}
use Rattle.fs_model.specs.Table.{Table, NodeClaim, from}
use Rattle.fs_model.specs.Steps.{Starts}
use Rattle.fs_model.proofs.ClosureLemmas.{closure_grows}
use Rattle.fs_model.proofs.Ends.{Closes-starts}
use Rattle.fs_model.proofs.StepLemmas.{same_or_other}
use Rattle.fs_closing.specs.declared.nodes.Nodes.{Nodes}
use Rattle.fs_closing.specs.declared.tasks.Tasks.{Tasks}
use Rattle.fs_closing.specs.NodeTable.{table_of, depth_of, IsWhole, IsWithin, AreFlat}
use Rattle.fs_closing.specs.NodeSteps.{AddsNode, AddsDepth, EntersDepth}
use Rattle.fs_closing.specs.Rules.{Grammar, system_of}
use Rattle.fs_closing.specs.Work.{work_of}
use Rattle.fs_unify.specs.Given.{facts_source, StandsFor, StandsForSome, Gathers, Decides, Settles, SettlesWithout}
use Rattle.fs_drawing.specs.Drawing.{Answers, AnswersWithout, BoundsPaths}
use Rattle.fs_drawing.specs.Bounding.{Decided}
use Rattle.fs_drawing.specs.declared.draw.Off.{Off}
use Rattle.fs_unify.specs.Entering.{IsGraphIn, IsWellFormed}
use Rattle.fs_unify.specs.Placing.{IsAnswerIn}
use Rattle.fs_drawing.proofs.DrawLemmas.{consistent_closed}
use Rattle.std.specs.Prelude.{IfSome, IsTrue, ◌↔◌}
use Rattle.std.specs.Option.{option_map}
use Rattle.fs_graph.specs.GraphMap.{GraphMap, reader_of}
use Rattle.type_hierarchy.specs.Table.{count_of}
use Rattle.fs_closing.specs.Keeps.{Deep, deep_of, Stands, Leads, Clashes, StepsTo}
use Rattle.fs_closing.proofs.HasLemmas.{Has-map, Has-of_map}
pub use Rattle.fs_closing.proofs.OrderLemmas.{order_of_laws}

-- one node of the top type
pub starts_one : (s : System) (t t' : Table) → t.size ≡ 0 → s.top ≡ 0 → AddsNode 0 t t' → Starts s t'
starts_one s t t' none top adds = record {
  size_is = omega (arith, adds.size_is);
  live_is = λ k. adds.live_new k (omega arith);
  arc_is = λ f. ap (λ n. t'.arc n f) (sym none) ∙ adds.arc_new f;
  type_is = ap t'.type_of (sym none) ∙ adds.type_new ∙ sym top;
}

-- the root exists where something is given
root_there : (s : System) (g : Claim → Type 0) (c : Claim) → Closure s g c → Closure s g (exists_at [])
root_there s g (exists_at p) h = prefix [] p h
root_there s g (same p q) h = prefix [] p (same_exists p q h)
root_there s g (below p t) h = prefix [] p (below_exists p t h)

told_only : (claims : List Claim) (c : Claim) → Told (facts_source claims) c → Has c claims
told_only claims _ (told_claim c h) = h
told_only claims _ (told_part part c h i) = elim h [ ]

first_of_list : (claims : List Claim) → 0 < length claims → (c : Claim) × Has c claims
first_of_list [] h = absurd (omega arith)
first_of_list (c ∷ claims) h = (c, here)

pub stands_one : (s : System) (claims : List Claim) (x : Deep) → IsBare s → 0 < length claims → Starts s x.table → ((n : ℕ) → n < 1 → x.depth n ≡ 0) →
    Stands s (Told (facts_source claims)) x (map (from 0) claims) (λ _. [])
stands_one s claims x bare some starts flat = record {
  closes = Closes-starts s (Told (facts_source claims)) x.table starts root bare (map (from 0) claims)
      (λ c h. Has-map (from 0) c claims (told_only claims c h))
      (λ k h. let r = Has-of_map (from 0) k claims h in (r.0, told_claim r.0 r.1, r.2));
  deep = λ n h. omega (arith, flat n (omega (arith, starts.size_is)));
}
  where
    root : Closure s (Told (facts_source claims)) (exists_at [])
    root = let c = first_of_list claims some in root_there s (Told (facts_source claims)) c.0 (given_claim c.0 (told_claim c.0 c.1))

-- with no other work beside it
pub padded : (s : System) (g : Claim → Type 0) (x : Deep) (work : List NodeClaim) (w : ℕ → Path) → Stands s g x work w → Stands s g x (work ++ []) w
padded s g x work w st = subst (λ l. Stands s g x l w) (sym (append-nil work)) st

pub unpadded : (s : System) (g : Claim → Type 0) (x : Deep) (work : List NodeClaim) (w : ℕ → Path) → Stands s g x (work ++ []) w → Stands s g x work w
unpadded s g x work w st = subst (λ l. Stands s g x l w) (append-nil work) st

pub stands_beside : (s : System) (g : Claim → Type 0) (x : Deep) (work none : List NodeClaim) (w : ℕ → Path) → none ≡ [] → Stands s g x work w →
    Stands s g x (work ++ none) w
stands_beside s g x work none w is st = subst (λ l. Stands s g x (work ++ l) w) (sym is) (padded s g x work w st)

-- where nodes stand for a source, what comes after a step does, or shows that the source is inconsistent
pub gathers : (g : Grammar) (source : Source) (one : Nodes) (work : List NodeClaim) (two : Nodes) (tasks : Tasks) (w : ℕ → Path) (b : Bool) →
    Stands (system_of g) (Told source) (deep_of one) work w → StepsTo g one work two tasks b → Gathers g source two tasks b
gathers g source one work two tasks w true st p =
    let r = p.0 [] source w (padded (system_of g) (Told source) (deep_of one) work w st) in
    (record { paths = r.0; stands = unpadded (system_of g) (Told source) (deep_of two) (work_of g.rules tasks) r.0 r.1 }, p.1)
gathers g source one work two tasks w false st clash = λ ok. clash [] source w (padded (system_of g) (Told source) (deep_of one) work w st) ok

-- nodes that were closed stand for the same
pub closed_stands : (g : Grammar) (nodes : Nodes) (tasks : Tasks) (nodes' : Nodes) (source : Source) → StandsFor g source nodes tasks →
    Leads g nodes (work_of g.rules tasks) nodes' [] → (w : ℕ → Path) × Stands (system_of g) (Told source) (deep_of nodes') [] w
closed_stands g nodes tasks nodes' source st leads =
    leads [] source st.paths (padded (system_of g) (Told source) (deep_of nodes) (work_of g.rules tasks) st.paths st.stands)

pub closed_filled : (g : Grammar) (nodes : Nodes) (tasks : Tasks) (nodes' : Nodes) → StandsForSome g nodes tasks → Leads g nodes (work_of g.rules tasks) nodes' [] →
    0 < nodes'.size
closed_filled g nodes tasks nodes' some leads = (closed_stands g nodes tasks nodes' some.0 some.1 leads).1.closes.filled

pub decides_none : (g : Grammar) (nodes : Nodes) (tasks : Tasks) (nodes' : Nodes) → IsOrder (system_of g) → Leads g nodes (work_of g.rules tasks) nodes' [] →
    Answers (deep_of nodes') g.path_limit None → Decides g nodes tasks nodes' false
decides_none g nodes tasks nodes' order leads none source st ok =
    let r = closed_stands g nodes tasks nodes' source st leads in
    none (system_of g) source r.0 order refl r.1 ok

pub decides_clash : (g : Grammar) (nodes : Nodes) (tasks : Tasks) (nodes' : Nodes) → Clashes g nodes (work_of g.rules tasks) → Decides g nodes tasks nodes' false
decides_clash g nodes tasks nodes' clash source st ok =
    clash [] source st.paths (padded (system_of g) (Told source) (deep_of nodes) (work_of g.rules tasks) st.paths st.stands) ok

-- closed nodes, whose paths were looked at
pub decides_closed : (g : Grammar) (nodes : Nodes) (tasks : Tasks) (nodes' : Nodes) (limit : ℕ) (b : Bool) → IsOrder (system_of g) → limit ≡ g.path_limit →
    Leads g nodes (work_of g.rules tasks) nodes' [] → IsWhole nodes' → IsWithin (count_of g.types) (length g.introducers) nodes' → 0 < nodes'.size →
    Decided nodes' limit b → Decides g nodes tasks nodes' b
decides_closed g nodes tasks nodes' limit false order is leads whole within filled none =
    decides_none g nodes tasks nodes' order leads (subst (λ l. Answers (deep_of nodes') l None) is none)
decides_closed g nodes tasks nodes' limit true order is leads whole within filled bounds = (leads, whole, within, subst (BoundsPaths (table_of nodes')) is bounds, filled)

-- the test alone
pub decided : (g : Grammar) (nodes : Nodes) (tasks : Tasks) (nodes' : Nodes) (source : Source) (b : Bool) → IsOrder (system_of g) → StandsFor g source nodes tasks →
    Decides g nodes tasks nodes' b → IsTrue b ↔ IsConsistent (system_of g) (Told source)
decided g nodes tasks nodes' source true order st d = (
  λ _.
      let r = closed_stands g nodes tasks nodes' source st d.0 in
      consistent_closed (deep_of nodes') g.path_limit d.3 (system_of g) source r.0 order refl r.1,
  λ _. refl,
)
decided g nodes tasks nodes' source false order st d = (λ e. absurd cc, λ ok. absurd (d source st ok))

pub settles_by : (g : Grammar) (nodes : Nodes) (tasks : Tasks) (nodes' : Nodes) (o : Option Reader) → IsOrder (system_of g) →
    Leads g nodes (work_of g.rules tasks) nodes' [] → Answers (deep_of nodes') g.path_limit o → Settles g nodes tasks o
settles_by g nodes tasks nodes' o order leads answers source st =
    let r = closed_stands g nodes tasks nodes' source st leads in
    answers (system_of g) source r.0 order refl r.1

pub settles_without_by : (g : Grammar) (nodes : Nodes) (tasks : Tasks) (nodes' : Nodes) (off : Off) (o : Option Reader) → IsOrder (system_of g) →
    Leads g nodes (work_of g.rules tasks) nodes' [] → AnswersWithout (deep_of nodes') g.path_limit off o → SettlesWithout g nodes tasks off o
settles_without_by g nodes tasks nodes' off o order leads answers source st =
    let r = closed_stands g nodes tasks nodes' source st leads in
    answers (system_of g) source r.0 order refl r.1

-- the types and features of an answer
pub inside_at : (o : Option GraphMap) (nodes : Nodes) (types feats : ℕ) → IsWithin types feats nodes →
    IfSome o (λ g. (ts fs : ℕ) → IsWithin ts fs nodes → IsGraphIn ts fs g) → IfSome o (IsGraphIn types feats)
inside_at None nodes types feats within h = h
inside_at (Some g) nodes types feats within h = h types feats within

-- one claim of several at the root
pub claims_step : (claims : List Claim) (i : ℕ) (d : Claim) → i < length claims →
    map (from 0) (drop i claims) ≡ from 0 (slice_index_or claims i d) ∷ map (from 0) (drop (i + 1) claims)
claims_step claims i d h =
    ap (map (from 0)) (drop-cons claims i d h)
    ∙ ap (λ j. from 0 (slice_index_or claims i d) ∷ map (from 0) (drop j claims)) (let e : suc i ≡ i + 1 = omega arith in e)

-- a node of depth 0 is added where no depth is above 0
pub flat_added : (nodes nodes' : Nodes) → AddsDepth 0 nodes nodes' → AreFlat nodes → AreFlat nodes'
flat_added nodes nodes' adds flat n = go (same_or_other n nodes.size)
  where
    go : (n ≡ nodes.size) ⊎ (n ≢ nodes.size) → depth_of nodes' n ≡ 0
    go (inl e) = ap (depth_of nodes') e ∙ adds.here
    go (inr e) = adds.others n e ∙ flat n

-- a graph whose nodes are said to need no features
pub flat_entered : (count : ℕ) (nodes nodes' : Nodes) → EntersDepth 0 0 count nodes nodes' → AreFlat nodes → AreFlat nodes'
flat_entered count nodes nodes' d flat n = go (cases_lt n nodes.size)
  where
    new : (k : ℕ) → (k < count) ⊎ (count ≤ k) → (0 < k) ⊎ (k ≤ 0) → depth_of nodes' (nodes.size + k) ≡ 0
    new k (inr past) z = d.past (nodes.size + k) (omega arith)
    new k (inl h) (inl pos) = d.inner k pos h
    new k (inl h) (inr z) = let e : nodes.size + k ≡ nodes.size = omega arith in ap (λ i. depth_of nodes' i) e ∙ d.root (omega arith)

    go : (n < nodes.size) ⊎ (nodes.size ≤ n) → depth_of nodes' n ≡ 0
    go (inl h) = d.others n h ∙ flat n
    go (inr h) =
        let e : nodes.size + (n - nodes.size) ≡ n = omega arith in
        subst (λ i. depth_of nodes' i ≡ 0) e (new (n - nodes.size) (cases_lt (n - nodes.size) count) (cases_lt 0 (n - nodes.size)))

-- the structure of a closure is well-formed
pub well_formed : (s : System) (g : Claim → Type 0) (r : Reader) → IsGraphOf s g r → IsWellFormed s r
well_formed s g r x = record {
  paths = λ p. ((λ c. (x.paths p).0 (back _ c)), (λ m. given_claim _ (tells_exists p m.0 m.1)));
  equalities = λ p q. ((λ c. (x.equalities p q).0 (back _ c)), (λ m. given_claim _ (tells_same p q m.0 m.1 m.2)));
  types_there = λ p n e. given_claim _ (tells_below p n e);
  types_above = λ p n t e c. x.types_above p n t e (back _ c);
}
  where
    said : (c : Claim) → Tells r c → Closure s g c
    said _ (tells_exists p n e) = (x.paths p).1 (n, e)
    said _ (tells_same p q n e d) = (x.equalities p q).1 (n, e, d)
    said _ (tells_below p n e) = x.types_there p n e

    back : (c : Claim) → Closure s (Tells r) c → Closure s g c
    back c h = closure_grows s (Tells r) g said c h

-- what is known of an answer
pub known_some : (g : Grammar) (source : Source) (o : Option GraphMap) → IsUnified (system_of g) source (option_map reader_of o) →
    IfSome o (IsGraphIn (count_of g.types) (length g.introducers)) → IfSome o (IsAnswerIn g)
known_some g source None u i = i
known_some g source (Some graph) u i = record { graph_in = i; well_formed = well_formed (system_of g) (Told source) (reader_of graph) u.1 }
