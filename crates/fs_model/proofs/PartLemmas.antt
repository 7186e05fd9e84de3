-- A graph that enters a table at a place.
use Rattle.std.proofs.Common.{ℕ, ◌≡◌, ◌<◌, Option, Some, None, List, [], ◌∷◌, ◌++◌, refl, sym, ◌∙◌, ap, subst}
use Rattle.fs_model.specs.Claims.{Path, Claim, at, System, Has}
use Rattle.fs_model.specs.Sources.{Reader, Tells, tells_exists, tells_same, tells_below}
use Rattle.fs_model.specs.Table.{Table, IsTable, NodeClaim, is_same, is_under, from, by_arc, by_merge, by_type, by_work, Follows, stated, there_left, same_back, same_on, same_further, under_same, walk}
use Rattle.fs_model.specs.Steps.{StandsIn}
use Rattle.fs_model.proofs.TableLemmas.{walk-step, walk_ends}
use Rattle.fs_model.proofs.StepLemmas.{past, arc_follows}

-- a path is equal to the node at which its walk ends
pub walk_follows : (s : System) (t : Table) (work : List NodeClaim) → IsTable t → (n k : ℕ) (p : Path) → n < t.size → walk t n p ≡ Some k →
    Follows s t work (is_same n p k [])
walk_follows s t work ok n k [] h e =
    let l : t.live n ≡ k = cc in
    subst (λ x. Follows s t work (is_same n [] x [])) l (stated _ (by_merge n h))
walk_follows s t work ok n k (f ∷ p) h e = go (t.arc (t.live n) f) refl (λ m. walk_follows s t work ok m k p)
  where
    go : (o : Option ℕ) → t.arc (t.live n) f ≡ o → ((m : ℕ) → m < t.size → walk t m p ≡ Some k → Follows s t work (is_same m p k [])) →
        Follows s t work (is_same n (f ∷ p) k [])
    go None is rest =
        let stops : None ≡ walk t n (f ∷ p) = ap (λ o. elim o as (λ _. Option ℕ) [ None ↦ None | Some i ↦ walk t i p ]) (sym is) in
        absurd cc
    go (Some m) is rest =
        let in_table = ok.arc_in (t.live n) f m (ok.live_in n h) is in
        let on = rest m in_table (sym (walk-step t n m f p is) ∙ e) in
        let arc = arc_follows s t work n (t.live n) f m (stated _ (by_merge n h)) (stated _ (by_arc (t.live n) f m (ok.live_in n h) (ok.live_twice n) is)) in
        same_on n m k (f ∷ p) p [] (past s t work n f m p arc (there_left _ _ _ _ on)) on

module _ (s : System) (t : Table) (work : List NodeClaim) (r : Reader) (place : Path) (entry : ℕ) (to : ℕ → ℕ) (ok : IsTable t) (h : entry < t.size)
    (stands : StandsIn t r entry to) (placed : Has (is_same 0 place entry []) work) where
  reached : (p : Path) (n : ℕ) → r.node_at p ≡ Some n → Follows s t work (is_same 0 (place ++ p) (to n) [])
  reached p n e =
      let on = walk_follows s t work ok entry (to n) p h (stands.paths p n e) in
      let placed' : Follows s t work (is_same 0 place entry []) = stated _ (by_work _ placed) in
      let further = same_further entry 0 [] place p (same_back 0 entry place [] placed') (there_left _ _ _ _ on) in
      same_on 0 entry (to n) (place ++ p) p [] (same_back entry 0 p (place ++ p) further) on

  pub part_follows : (c : Claim) → Tells r c → Follows s t work (from 0 (at place c))
  part_follows _ (tells_exists p n e) = there_left _ _ _ _ (reached p n e)
  part_follows _ (tells_same p q n e d) = same_on _ _ _ _ _ _ (reached p n e) (same_back _ _ _ _ (reached q n d))
  part_follows _ (tells_below p n e) =
      let ends = walk_ends t ok entry (to n) p h (stands.paths p n e) in
      under_same (to n) 0 (r.type_of n) [] (place ++ p) (same_back _ _ _ _ (reached p n e))
      (subst (λ x. Follows s t work (is_under (to n) [] x)) (stands.types p n e) (stated _ (by_type (to n) ends.0 ends.1)))
