-- Facts that other facts tell are no work.
use Rattle.std.proofs.Common.{ℕ, ◌≡◌, ◌<◌, ◌+◌, ◌==◌, Decides, Bool, true, Some, List, ◌∷◌, ◌++◌, length, slice_index_or, sym, ap, subst, arith, eq-eqb}
use Rattle.std.proofs.lemmas.Bool.{eqb-true}
use Rattle.fs_model.specs.Claims.{Path, Claim, exists_at, same, below, System, Has, here, there}
use Rattle.fs_model.specs.Closure.{Closure, same_exists}
use Rattle.fs_model.specs.Sources.{Told}
use Rattle.fs_model.specs.Table.{Table, NodeClaim, is_there, is_same, from, by_work, Follows, stated, there_left, there_under, there_before, same_itself, same_back, read}
use Rattle.fs_model.specs.Steps.{InTable}
use Rattle.fs_model.proofs.StepLemmas.{Closes-rework, Closes-drop}
use Rattle.fs_graph.specs.declared.facts.Feat.{Feat}
use Rattle.fs_closing.specs.declared.nodes.Nodes.{Nodes}
use Rattle.fs_closing.specs.declared.tasks.Tasks.{Tasks}
use Rattle.fs_closing.specs.declared.tasks.Entry.{Entry}
use Rattle.fs_closing.specs.Joined.{IsJoined}
use Rattle.fs_closing.specs.Rules.{Grammar, no_rule, system_of}
use Rattle.fs_closing.specs.Work.{entry_claims, work_of}
use Rattle.fs_closing.specs.Keeps.{Deep, Turns, deep_of, Leads, StepsTo, Reaches}
use Rattle.fs_closing.specs.Inner.Told.{IsTold}
use Rattle.fs_closing.proofs.HasLemmas.{Has-left}
use Rattle.fs_closing.proofs.KeepsLemmas.{Turns-order}
use Rattle.fs_closing.proofs.StepLemmas.{steps_after, entry_step, entry_same}
use Rattle.fs_closing.proofs.ClosingLemmas.{apply_exists}

-- `==` of features
abbrev pub feat_eq : Feat → Feat → Bool
feat_eq a b = a.0 == b.0

pub feat_eq-Decides : (a b : Feat) → Decides (feat_eq a b) (a ≡ b)
feat_eq-Decides a b = (
  λ e. ap (λ z. record { 0 = z }) (eqb-true a.0 b.0 e),
  λ e. eq-eqb a.0 b.0 (ap (λ f. f.0) e),
)

told_follows : (s : System) (t : Table) (work : List NodeClaim) (n : ℕ) (c d : Claim) → IsTold c d → Has (from n d) work → Follows s t work (from n c)
told_follows s t work n (exists_at p) (exists_at q) told h =
    there_before n p told.0 (subst (λ x. Follows s t work (is_there n x)) told.1 (stated _ (by_work _ h)))
told_follows s t work n (exists_at p) (same o q) told h =
    there_before n p told.0 (subst (λ x. Follows s t work (is_there n x)) told.1 (there_left n n q o (same_back n n o q (stated _ (by_work _ h)))))
told_follows s t work n (exists_at p) (below q u) told h =
    there_before n p told.0 (subst (λ x. Follows s t work (is_there n x)) told.1 (there_under n u q (stated _ (by_work _ h))))
told_follows s t work n (same p q) d told h = absurd told
told_follows s t work n (below p u) d told h = absurd told

-- a fact that another one tells is no work where that one is
pub Turns-told : (s : System) (x : Deep) (n : ℕ) (c d : Claim) (work : List NodeClaim) → IsTold c d → Has (from n d) work →
    Turns s x (from n c ∷ work) x work
Turns-told s x n c d work told h extra g w old = (
  w,
  record {
    closes = Closes-drop s (Told g) x.table (from n c) (work ++ extra) w
        (told_follows s x.table (work ++ extra) n c d told (Has-left (from n d) work extra h)) old.closes;
    deep = old.deep;
  },
)

-- that a path is equal to itself says that it is there
Turns-itself_there : (s : System) (x : Deep) (n : ℕ) (p : Path) (work : List NodeClaim) →
    Turns s x (is_same n p n p ∷ work) x (is_there n p ∷ work)
Turns-itself_there s x n p work extra g w old = (
  w,
  record {
    closes = Closes-rework s (Told g) x.table (is_same n p n p ∷ (work ++ extra)) (is_there n p ∷ (work ++ extra)) w old.closes ranges keeps says;
    deep = old.deep;
  },
)
  where
    ranges : (d : NodeClaim) → Has d (is_there n p ∷ (work ++ extra)) → InTable x.table.size d
    ranges _ here = (old.closes.in_table _ here).0
    ranges d (there h) = old.closes.in_table d (there h)

    keeps : (d : NodeClaim) → Has d (is_same n p n p ∷ (work ++ extra)) → Follows s x.table (is_there n p ∷ (work ++ extra)) d
    keeps _ here = same_itself n p (stated _ (by_work _ here))
    keeps d (there h) = stated _ (by_work _ (there h))

    says : (d : NodeClaim) → Has d (is_there n p ∷ (work ++ extra)) → Closure s (Told g) (read w d)
    says _ here = same_exists _ _ (old.closes.sound.stated_in _ (by_work _ here))
    says d (there h) = old.closes.sound.stated_in _ (by_work _ (there h))

-- two paths that are one, of which the first was reached
pub apply_itself : (g : Grammar) (nodes : Nodes) (tasks : Tasks) (n : ℕ) (p q : Path) (nodes' : Nodes) (tasks' : Tasks) (m : ℕ) → p ≡ q →
    Reaches g nodes tasks n p nodes' tasks' (Some m) → StepsTo g nodes (is_same n p n q ∷ work_of g.rules tasks) nodes' tasks' true
apply_itself g nodes tasks n p q nodes' tasks' m is r =
    subst (λ x. StepsTo g nodes (is_same n p n x ∷ work_of g.rules tasks) nodes' tasks' true) is
    (steps_after g nodes nodes nodes' (is_same n p n p ∷ work_of g.rules tasks) (is_there n p ∷ work_of g.rules tasks) tasks' true
    (Turns-itself_there (system_of g) (deep_of nodes) n p (work_of g.rules tasks)) (apply_exists g nodes tasks n p nodes' tasks' m r))

-- the next claim of a rule isn't work where the one behind it tells it
pub entry_told : (g : Grammar) (nodes : Nodes) (entry : Entry) (d : Claim) (claims : List Claim) (work pushed : List NodeClaim) →
    claims ≡ (slice_index_or g.rules entry.rule no_rule).claims →
    (entry.from + 1 < length claims) × IsTold (slice_index_or claims entry.from d) (slice_index_or claims (entry.from + 1) d) →
    IsJoined (entry_claims g.rules (record { node = entry.node; rule = entry.rule; from = entry.from + 1 })) work pushed →
    Leads g nodes (entry_claims g.rules entry ++ work) nodes pushed
entry_told g nodes entry d claims work pushed is told joined =
    Turns-order (system_of g) (deep_of nodes) (deep_of nodes) (entry_claims g.rules entry ++ work) (from entry.node (slice_index_or (slice_index_or g.rules entry.rule no_rule).claims entry.from d) ∷ pushed) pushed pushed
    (entry_same (from entry.node (slice_index_or (slice_index_or g.rules entry.rule no_rule).claims entry.from d)) (entry_claims g.rules (record { node = entry.node; rule = entry.rule; from = entry.from + 1 })) (entry_claims g.rules entry) work pushed (entry_step g.rules entry.node entry.rule entry.from d inside) joined)
    (Turns-told (system_of g) (deep_of nodes) entry.node (slice_index_or (slice_index_or g.rules entry.rule no_rule).claims entry.from d) (slice_index_or (slice_index_or g.rules entry.rule no_rule).claims (entry.from + 1) d) pushed
    (subst (λ l. IsTold (slice_index_or l entry.from d) (slice_index_or l (entry.from + 1) d)) is told.1) (joined.from_new _ behind))
    (record { into = λ c h. h; back = λ c h. h })
  where
    inside : entry.from < length (slice_index_or g.rules entry.rule no_rule).claims
    inside = let l = ap length is in omega (arith, told.0, l)

    inside_next : entry.from + 1 < length (slice_index_or g.rules entry.rule no_rule).claims
    inside_next = let l = ap length is in omega (arith, told.0, l)

    behind : Has (from entry.node (slice_index_or (slice_index_or g.rules entry.rule no_rule).claims (entry.from + 1) d))
        (entry_claims g.rules (record { node = entry.node; rule = entry.rule; from = entry.from + 1 }))
    behind = subst (Has (from entry.node (slice_index_or (slice_index_or g.rules entry.rule no_rule).claims (entry.from + 1) d)))
        (sym (entry_step g.rules entry.node entry.rule (entry.from + 1) d inside_next)) here
