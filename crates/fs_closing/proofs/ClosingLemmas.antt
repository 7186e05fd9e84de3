-- The tasks of a closing, and its turns.
use Rattle.std.proofs.Common.{ℕ, ◌≡◌, ◌<◌, Bool, true, Option, Some, List, [], ◌∷◌, ◌++◌, length, map, slice_index_or, sym, ◌∙◌, ap, subst, arith}
use Rattle.std.proofs.lemmas.List.{get_or-map, length-map}
use Rattle.std.specs.Prelude.{flat_map}
use Rattle.fs_model.specs.Claims.{Claim, Has}
use Rattle.fs_model.specs.Table.{NodeClaim, is_there, from}
use Rattle.fs_graph.specs.declared.facts.Fact.{Fact}
use Rattle.fs_graph.specs.declared.facts.Feat.{Feat}
use Rattle.fs_graph.specs.Facts.{path_of, claim_of, claims_of}
use Rattle.fs_model.specs.Claims.{Path}
use Rattle.fs_closing.specs.declared.nodes.Nodes.{Nodes}
use Rattle.fs_closing.specs.declared.tasks.Tasks.{Tasks}
use Rattle.fs_closing.specs.declared.closing.Progress.{Progress}
use Rattle.fs_closing.specs.declared.closing.Progress.TheVariants.{Stepped, Clashed, Ended}
use Rattle.type_hierarchy.specs.Table.{count_of}
use Rattle.fs_closing.specs.NodeTable.{IsWhole, IsWithin}
use Rattle.fs_closing.specs.Joined.{IsJoined}
use Rattle.fs_closing.specs.Rules.{Rule, Grammar, system_of}
use Rattle.fs_closing.specs.Work.{pair_claim, bound_claim, entry_claims, work_of, AreSameTasks}
use Rattle.fs_closing.specs.Keeps.{deep_of, AreSound, Leads, Clashes, StepsTo, Reaches, Progresses}
use Rattle.fs_closing.proofs.HasLemmas.{Has-map, Has-at}
use Rattle.fs_closing.proofs.KeepsLemmas.{Turns-on, Refutes-after, same_turned, joined_same}
use Rattle.fs_closing.proofs.StepLemmas.{Turns-there, steps_order}

pub reaches_by : (g : Grammar) (nodes : Nodes) (tasks : Tasks) (n : ℕ) (p p' : List Feat) (nodes' : Nodes) (tasks' : Tasks) (o o' : Option ℕ) → p ≡ p' → o ≡ o' →
    Reaches g nodes tasks n (path_of p) nodes' tasks' o → Reaches g nodes tasks n (path_of p') nodes' tasks' o'
reaches_by g nodes tasks n p p' nodes' tasks' o o' is d r =
    subst (λ q. Reaches g nodes tasks n (path_of q) nodes' tasks' o') is (subst (λ x. Reaches g nodes tasks n (path_of p) nodes' tasks' x) d r)

pub steps_by : (g : Grammar) (nodes : Nodes) (n : ℕ) (k k' : Claim) (work : List NodeClaim) (nodes' : Nodes) (tasks' : Tasks) (b : Bool) → k ≡ k' →
    StepsTo g nodes (from n k' ∷ work) nodes' tasks' b → StepsTo g nodes (from n k ∷ work) nodes' tasks' b
steps_by g nodes n k k' work nodes' tasks' b e r = subst (λ x. StepsTo g nodes (from n x ∷ work) nodes' tasks' b) (sym e) r

pub apply_exists : (g : Grammar) (nodes : Nodes) (tasks : Tasks) (n : ℕ) (p : Path) (nodes' : Nodes) (tasks' : Tasks) (m : ℕ) →
    Reaches g nodes tasks n p nodes' tasks' (Some m) → StepsTo g nodes (is_there n p ∷ work_of g.rules tasks) nodes' tasks' true
apply_exists g nodes tasks n p nodes' tasks' m r = (
  Turns-on (system_of g) (deep_of nodes) (deep_of nodes') (deep_of nodes') (is_there n p ∷ work_of g.rules tasks) (is_there m [] ∷ work_of g.rules tasks')
      (work_of g.rules tasks') (r.0 (is_there 0 [])) (Turns-there (system_of g) (deep_of nodes') m (work_of g.rules tasks')),
  r.1,
)

-- a fact by its place
pub fact_at : (facts : List Fact) (i : ℕ) (d : Fact) (claims : List Claim) (e : Claim) → claims_of facts ≡ claims → i < length facts →
    d ≡ slice_index_or facts i d → (claim_of d ≡ slice_index_or claims i e) × (i < length claims)
fact_at facts i d claims e is h at = (
  ap claim_of at ∙ sym (get_or-map claim_of facts i d e h) ∙ ap (λ l. slice_index_or l i e) is,
  omega (arith, ap length is, length-map facts claim_of),
)

pub fact_has : (facts : List Fact) (i : ℕ) (d : Fact) → i < length facts → d ≡ slice_index_or facts i d → Has (claim_of d) (claims_of facts)
fact_has facts i d h at = Has-map claim_of d facts (subst (λ x. Has x facts) (sym at) (Has-at facts i d h))

pub same_work : (rules : List Rule) (old new : Tasks) → AreSameTasks old new → work_of rules new ≡ work_of rules old
same_work rules old new e =
    ap (λ l. map pair_claim l ++ (map bound_claim new.bounds.items ++ flat_map (entry_claims rules) new.entries.items)) e.pairs
    ∙ ap (λ l. map pair_claim old.pairs.items ++ (map bound_claim l ++ flat_map (entry_claims rules) new.entries.items)) e.bounds
    ∙ ap (λ l. map pair_claim old.pairs.items ++ (map bound_claim old.bounds.items ++ flat_map (entry_claims rules) l)) e.entries

pub stepped : (g : Grammar) (nodes : Nodes) (old mid new : Tasks) (claims : List NodeClaim) (nodes' : Nodes) (tasks' : Tasks) (b : Bool) →
    work_of g.rules mid ≡ work_of g.rules old → IsJoined claims (work_of g.rules new) (work_of g.rules mid) →
    StepsTo g nodes (claims ++ work_of g.rules new) nodes' tasks' b → StepsTo g nodes (work_of g.rules old) nodes' tasks' b
stepped g nodes old mid new claims nodes' tasks' b is joined r =
    subst (λ w. StepsTo g nodes w nodes' tasks' b) is
    (steps_order g nodes (work_of g.rules mid) (claims ++ work_of g.rules new) nodes' tasks' b
    (same_turned (claims ++ work_of g.rules new) (work_of g.rules mid) (joined_same claims (work_of g.rules new) (work_of g.rules mid) joined)) r)

pub no_work : (rules : List Rule) (tasks : Tasks) → tasks.pairs.items ≡ [] → tasks.bounds.items ≡ [] → tasks.entries.items ≡ [] → work_of rules tasks ≡ []
no_work rules tasks a b c =
    ap (λ l. map pair_claim l ++ (map bound_claim tasks.bounds.items ++ flat_map (entry_claims rules) tasks.entries.items)) a
    ∙ ap (λ l. map bound_claim l ++ flat_map (entry_claims rules) tasks.entries.items) b
    ∙ ap (λ l. flat_map (entry_claims rules) l) c

pub closing_on : (g : Grammar) (start : Nodes) (work : List NodeClaim) (nodes : Nodes) (tasks : Tasks) (nodes' : Nodes) (tasks' : Tasks) (o : Progress) → o ≡ Stepped →
    Leads g start work nodes (work_of g.rules tasks) → Progresses g nodes tasks nodes' tasks' o →
    Leads g start work nodes' (work_of g.rules tasks') × AreSound g nodes' tasks'
closing_on g start work nodes tasks nodes' tasks' o is before r =
    let p = subst (Progresses g nodes tasks nodes' tasks') is r in
    (Turns-on (system_of g) (deep_of start) (deep_of nodes) (deep_of nodes') work (work_of g.rules tasks) (work_of g.rules tasks') before p.0, p.1)

pub closing_clashed : (g : Grammar) (start : Nodes) (work : List NodeClaim) (nodes : Nodes) (tasks : Tasks) (nodes' : Nodes) (tasks' : Tasks) (o : Progress) → o ≡ Clashed →
    Leads g start work nodes (work_of g.rules tasks) → Progresses g nodes tasks nodes' tasks' o → Clashes g start work
closing_clashed g start work nodes tasks nodes' tasks' o is before r =
    Refutes-after (system_of g) (deep_of start) (deep_of nodes) work (work_of g.rules tasks) before (subst (Progresses g nodes tasks nodes' tasks') is r)

pub closing_ended : (g : Grammar) (start : Nodes) (work : List NodeClaim) (nodes : Nodes) (tasks : Tasks) (nodes' : Nodes) (tasks' : Tasks) (o : Progress) → o ≡ Ended →
    Leads g start work nodes (work_of g.rules tasks) → AreSound g nodes tasks → Progresses g nodes tasks nodes' tasks' o →
    Leads g start work nodes' [] × IsWhole nodes' × IsWithin (count_of g.types) (length g.introducers) nodes'
closing_ended g start work nodes tasks nodes' tasks' o is before sound r =
    let p = subst (Progresses g nodes tasks nodes' tasks') is r in (
      subst (λ n. Leads g start work n []) (sym p.1) (subst (λ w. Leads g start work nodes w) p.0 before),
      subst IsWhole (sym p.1) sound.whole,
      subst (IsWithin (count_of g.types) (length g.introducers)) (sym p.1) sound.within,
    )
