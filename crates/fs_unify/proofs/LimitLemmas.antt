-- Closings within a limit on paths.
use Rattle.std.proofs.Common.{ℕ, ◌≡◌, ◌<◌, ◌⊎◌, inl, inr, Bool, true, false, Option, Some, None, List, [], length, slice_index, slice_index_or, subst, refl, sym}
use Rattle.std.specs.Prelude.{IfSome}
use Rattle.std.specs.Option.{option_map}
use Rattle.type_hierarchy.specs.Table.{count_of}
use Rattle.fs_model.specs.Claims.{Path, Claim, System, IsOrder}
use Rattle.fs_model.specs.Closure.{same_exists}
use Rattle.fs_model.specs.Sources.{Reader, Source, Told, IsUnified}
use Rattle.fs_model.specs.Table.{Table, NodeClaim, Stated, by_node, by_arc, by_merge, by_type, by_work, IsSound}
use Rattle.fs_model.proofs.TableLemmas.{from_root, Table-structure}
use Rattle.type_hierarchy.specs.declared.types.Ty.{Ty}
use Rattle.fs_graph.specs.declared.graph.GraphArc.{GraphArc}
use Rattle.fs_graph.specs.Facts.{path_of}
use Rattle.fs_graph.specs.GraphMap.{GraphMap, reader_of, table_of as graph_table}
use Rattle.fs_graph.specs.Inside.{graph_map}
use Rattle.fs_graph.specs.Orders.{ArePlan}
use Rattle.fs_closing.specs.declared.nodes.Nodes.{Nodes}
use Rattle.fs_closing.specs.declared.tasks.Tasks.{Tasks}
use Rattle.fs_closing.specs.declared.closing.Progress.{Progress}
use Rattle.fs_closing.specs.declared.closing.Progress.TheVariants.{Stepped, Clashed, Ended}
use Rattle.fs_closing.specs.NodeTable.{table_of, at_of, own_type, own_row, IsWhole}
use Rattle.fs_closing.specs.Rules.{Grammar, system_of}
use Rattle.fs_closing.specs.Work.{work_of}
use Rattle.fs_closing.specs.Keeps.{Deep, deep_of, Stands, Leads, AreSound, Closed, ClosedTo}
use Rattle.fs_closing.proofs.KeepsLemmas.{Turns-on, Refutes-after}
use Rattle.fs_unify.specs.Entering.{IsGraphIn}
use Rattle.fs_unify.specs.Placing.{IsAnswerIn}
use Rattle.fs_unify.specs.Given.{StandsFor, StandsForSome, Gathers}
use Rattle.fs_closing.proofs.MarkLemmas.{table_whole}
use Rattle.fs_drawing.specs.declared.draw.Picture.{Picture}
use Rattle.fs_drawing.specs.declared.draw.Off.{Off}
use Rattle.fs_drawing.specs.Drawing.{leaves_of, Answers, IsPicture}
use Rattle.fs_unify.specs.Limits.{HasMorePaths, IsUnifiedWithin}
use Rattle.fs_drawing.specs.Counting.{LeadsMore, Counts}
use Rattle.fs_unify.specs.Counting.{Exceeds, AnswersWithin, SettlesWithin}
use Rattle.fs_drawing.proofs.DrawLemmas.{filled_plan}
use Rattle.fs_unify.proofs.GivenLemmas.{well_formed, padded, unpadded, closed_stands, decides_clash}
use Rattle.fs_drawing.proofs.FewLemmas.{counts_shown}

-- the rows of a picture, as they are lent, are a plan
pub laid_plan : (p : Picture) (starts : List ℕ) (arcs : List GraphArc) → starts ≡ p.starts.items → arcs ≡ p.arcs.items →
    ArePlan p.types.items p.starts.items p.arcs.items → (types : List Ty) × ArePlan types starts arcs
laid_plan p starts arcs s a plan =
    (p.types.items, subst (λ z. ArePlan p.types.items z arcs) (sym s) (subst (λ z. ArePlan p.types.items p.starts.items z) (sym a) plan))

-- and the paths along them are those of the nodes, where nothing is cut off
pub laid_count : (nodes : Nodes) → IsWhole nodes → (off : Off) → path_of off.at_root.now ≡ [] → path_of off.anywhere.now ≡ [] → (p : Picture) (starts : List ℕ)
    (arcs : List GraphArc) → starts ≡ p.starts.items → arcs ≡ p.arcs.items → ArePlan p.types.items p.starts.items p.arcs.items →
    IsPicture (table_of nodes) (leaves_of off) (slice_index p.met.nodes.items) (graph_map p.types.items p.starts.items p.arcs.items) → (limit : ℕ) (few : Bool) →
    ((types : List Ty) → ArePlan types starts arcs → Counts (graph_table (graph_map types starts arcs)) limit few) → Counts (table_of nodes) limit few
laid_count nodes whole off no_root nowhere p starts arcs s a plan shows limit few counts =
    let moved = subst (λ z. ArePlan p.types.items z arcs) (sym s) (subst (λ z. ArePlan p.types.items p.starts.items z) (sym a) plan) in
    let here = subst (λ z. Counts (graph_table (graph_map p.types.items p.starts.items z)) limit few) a
    (subst (λ z. Counts (graph_table (graph_map p.types.items z arcs)) limit few) s (counts p.types.items moved)) in
    let ok = table_whole (at_of nodes) (own_type nodes) (own_row nodes) nodes.cells nodes.merges nodes.size whole.stands in
    counts_shown (table_of nodes) ok off no_root nowhere (slice_index p.met.nodes.items) (graph_map p.types.items p.starts.items p.arcs.items)
    (filled_plan p.types.items p.starts.items p.arcs.items plan) shows limit few here

-- what a table says by itself it says beside its work
beside_work : (t : Table) (work : List NodeClaim) (c : NodeClaim) → Stated t [] c → Stated t work c
beside_work t work _ (by_node n h) = by_node n h
beside_work t work _ (by_arc n f m h l e) = by_arc n f m h l e
beside_work t work _ (by_merge n h) = by_merge n h
beside_work t work _ (by_type n h l) = by_type n h l
beside_work t work _ (by_work c h) = elim h [ ]

-- the paths of a table are in the closure, whatever work is left
pub stands_more : (s : System) (given : Claim → Type 0) (x : Deep) (work : List NodeClaim) (w : ℕ → Path) (limit : ℕ) → Stands s given x work w →
    LeadsMore x.table limit → HasMorePaths s given limit
stands_more s given x work w limit st m =
    let c = st.closes in
    let sound : IsSound s given x.table [] w =
    record { root = c.sound.root; stated_in = λ k h. c.sound.stated_in k (beside_work x.table work k h) } in
    record {
      paths = m.paths;
      apart = m.apart;
      exist = λ i h.
          let r = m.lead i h in
          same_exists (slice_index_or m.paths i []) (w r.0) (from_root s given x.table c.table c.filled w sound r.0 (slice_index_or m.paths i []) r.1);
      more = m.more;
    }

-- those of a table without work are all that are there
pub closed_few : (s : System) → IsOrder s → (source : Source) (x : Deep) (w : ℕ → Path) (limit : ℕ) → Stands s (Told source) x [] w →
    Counts x.table limit true → HasMorePaths s (Told source) limit → ⊥
closed_few s order source x w limit st few m =
    let c = st.closes in
    let structure_is = Table-structure s order (Told source) x.table c.table c.filled w c.sound c.complete in
    few (record {
      paths = m.paths;
      apart = m.apart;
      lead = λ i h. (structure_is.paths (slice_index_or m.paths i [])).0 (m.exist i h);
      more = m.more;
    })

-- nodes to which others lead stand for the same
pub led : (g : Grammar) (nodes : Nodes) (tasks : Tasks) (nodes' : Nodes) (tasks' : Tasks) (source : Source) → StandsFor g source nodes tasks →
    Leads g nodes (work_of g.rules tasks) nodes' (work_of g.rules tasks') →
    (w : ℕ → Path) × Stands (system_of g) (Told source) (deep_of nodes') (work_of g.rules tasks') w
led g nodes tasks nodes' tasks' source st leads =
    let r = leads [] source st.paths (padded (system_of g) (Told source) (deep_of nodes) (work_of g.rules tasks) st.paths st.stands) in
    (r.0, unpadded (system_of g) (Told source) (deep_of nodes') (work_of g.rules tasks') r.0 r.1)

pub led_filled : (g : Grammar) (nodes : Nodes) (tasks : Tasks) (nodes' : Nodes) (tasks' : Tasks) → StandsForSome g nodes tasks →
    Leads g nodes (work_of g.rules tasks) nodes' (work_of g.rules tasks') → 0 < nodes'.size
led_filled g nodes tasks nodes' tasks' some leads = (led g nodes tasks nodes' tasks' some.0 some.1 leads).1.closes.filled

-- more of a closing, by what it came to
pub went_on : (g : Grammar) (start : Nodes) (first : Tasks) (nodes : Nodes) (tasks : Tasks) (nodes' : Nodes) (tasks' : Tasks) (o : Progress) → o ≡ Stepped →
    Leads g start (work_of g.rules first) nodes (work_of g.rules tasks) → ClosedTo g nodes tasks nodes' tasks' o →
    Leads g start (work_of g.rules first) nodes' (work_of g.rules tasks') × AreSound g nodes' tasks'
went_on g start first nodes tasks nodes' tasks' o is before r =
    let p = subst (ClosedTo g nodes tasks nodes' tasks') is r in
    (Turns-on (system_of g) (deep_of start) (deep_of nodes) (deep_of nodes') (work_of g.rules first) (work_of g.rules tasks) (work_of g.rules tasks') before p.0, p.1)

pub met_clash : (g : Grammar) (start : Nodes) (first : Tasks) (nodes : Nodes) (tasks : Tasks) (nodes' : Nodes) (tasks' : Tasks) (o : Progress) → o ≡ Clashed →
    Leads g start (work_of g.rules first) nodes (work_of g.rules tasks) → ClosedTo g nodes tasks nodes' tasks' o → Closed g start first nodes' false
met_clash g start first nodes tasks nodes' tasks' o is before r =
    Refutes-after (system_of g) (deep_of start) (deep_of nodes) (work_of g.rules first) (work_of g.rules tasks) before (subst (ClosedTo g nodes tasks nodes' tasks') is r)

pub came_to_end : (g : Grammar) (start : Nodes) (first : Tasks) (nodes : Nodes) (tasks : Tasks) (nodes' : Nodes) (tasks' : Tasks) (o : Progress) → o ≡ Ended →
    Leads g start (work_of g.rules first) nodes (work_of g.rules tasks) → ClosedTo g nodes tasks nodes' tasks' o → Closed g start first nodes' true
came_to_end g start first nodes tasks nodes' tasks' o is before r =
    let p = subst (ClosedTo g nodes tasks nodes' tasks') is r in
    (Turns-on (system_of g) (deep_of start) (deep_of nodes) (deep_of nodes') (work_of g.rules first) (work_of g.rules tasks) [] before p.0, p.1, p.2)

-- paths of nodes with work are paths of what they stand for
pub exceeds : (g : Grammar) (limit : ℕ) (nodes : Nodes) (tasks : Tasks) (nodes' : Nodes) (tasks' : Tasks) (few : Bool) → few ≡ false →
    Leads g nodes (work_of g.rules tasks) nodes' (work_of g.rules tasks') → Counts (table_of nodes') limit few → Exceeds g limit nodes tasks
exceeds g limit nodes tasks nodes' tasks' few is leads m source st =
    let r = led g nodes tasks nodes' tasks' source st leads in
    stands_more (system_of g) (Told source) (deep_of nodes') (work_of g.rules tasks') r.0 limit r.1 (subst (Counts (table_of nodes') limit) is m)

-- the answer of closed nodes: none where it isn't drawn, or there are more paths
pub none_drawn : (x : Deep) (longest limit : ℕ) → Answers x longest None → AnswersWithin x longest limit None
none_drawn x longest limit none s source w order is st = inl (none s source w order is st)

pub none_counted : (x : Deep) (longest limit : ℕ) (few : Bool) → few ≡ false → Counts x.table limit few → AnswersWithin x longest limit None
none_counted x longest limit few is m s source w order same st = inr (stands_more s (Told source) x [] w limit st (subst (Counts x.table limit) is m))

pub some_counted : (x : Deep) (longest limit : ℕ) (r : Reader) (few : Bool) → few ≡ true → Counts x.table limit few → Answers x longest (Some r) →
    AnswersWithin x longest limit (Some r)
some_counted x longest limit r few is m some s source w order same st =
    (some s source w order same st, closed_few s order source x w limit st (subst (Counts x.table limit) is m))

-- and for all that nodes with tasks stand for
pub settles_closed : (g : Grammar) (limit : ℕ) (nodes : Nodes) (tasks : Tasks) (nodes' : Nodes) (o : Option Reader) → IsOrder (system_of g) →
    Closed g nodes tasks nodes' true → AnswersWithin (deep_of nodes') g.path_limit limit o → SettlesWithin g limit nodes tasks o
settles_closed g limit nodes tasks nodes' o order closed answers source st =
    let r = closed_stands g nodes tasks nodes' source st closed.0 in
    answers (system_of g) source r.0 order refl r.1

pub settles_clashed : (g : Grammar) (limit : ℕ) (nodes : Nodes) (tasks : Tasks) (nodes' : Nodes) → Closed g nodes tasks nodes' false → SettlesWithin g limit nodes tasks None
settles_clashed g limit nodes tasks nodes' clash source st = inl (decides_clash g nodes tasks nodes' clash source st)

pub settles_exceeded : (g : Grammar) (limit : ℕ) (nodes : Nodes) (tasks : Tasks) → Exceeds g limit nodes tasks → SettlesWithin g limit nodes tasks None
settles_exceeded g limit nodes tasks more source st = inr (more source st)

-- an answer within the limit is well-formed
pub known_few : (g : Grammar) (limit : ℕ) (source : Source) (o : Option GraphMap) → IsUnifiedWithin (system_of g) limit source (option_map reader_of o) →
    IfSome o (IsGraphIn (count_of g.types) (length g.introducers)) → IfSome o (IsAnswerIn g)
known_few g limit source None u i = i
known_few g limit source (Some graph) u i = record { graph_in = i; well_formed = well_formed (system_of g) (Told source) (reader_of graph) u.0.1 }
