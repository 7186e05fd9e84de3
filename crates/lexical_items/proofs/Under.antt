-- What lexical rules make of a full structure, from the inside out.
use Rattle.std.specs.Prelude.{ℕ, ◌≡◌, List, [], ◌∷◌, ◌++◌, Some, None, slice_get}
use Rattle.std.proofs.Common.{refl, sym, subst}
use Rattle.fs_model.specs.Claims.{IsOrder}
use Rattle.tree_model.specs.Structures.{Structure}
use Rattle.tree_model.specs.Mothers.{IsFull}
use Rattle.tree_model.proofs.Closures.{closure_ends, kept_ends}
use Rattle.tree_model.specs.Signs.{Signs, Instance, rule_system}
use Rattle.tree_model.specs.Lexical.{FullUnder, under_none, under_next, IsEntry, IsUnderRule, FullLexical}
use Rattle.tree_model.specs.Trees.{full_lexical}
use Rattle.tree_model.proofs.Once.{one_structure, one}

pub under_more : {g : Signs} {d e f : Structure} {ps : List ℕ} {p : ℕ} → FullUnder g d ps e → IsUnderRule g p e f → FullUnder g d (ps ++ p ∷ []) f
under_more under_none y = under_next y under_none
under_more (under_next x more) y = under_next x (under_more more y)

module _ (g : Signs) (o : IsOrder g.system) where
  one_instance : (place : ℕ) {i j : Instance} → slice_get g.instances place ≡ Some i → slice_get g.instances place ≡ Some j → i ≡ j
  one_instance place a b = cc

  one_rule : {p : ℕ} {d a b : Structure} → IsUnderRule g p d a → IsUnderRule g p d b → a ≡ b
  one_rule {d = d} {b = b} x y =
      let z : IsFull (rule_system g) x.instance.rule (d ∷ []) b = subst (λ (k : Instance). IsFull (rule_system g) k.rule (d ∷ []) b) (sym (one_instance _ x.at y.at)) y.full in
      one_structure g o (kept_ends (closure_ends g.system)) x.full.1 z.1

  one_under : {d e : Structure} {ps : List ℕ} {a b : Structure} → d ≡ e → FullUnder g d ps a → FullUnder g e ps b → a ≡ b
  one_under h under_none under_none = h
  one_under h (under_next x xs) (under_next {e = m} {rule = p} y ys) = one_under (one_rule x (subst (λ z. IsUnderRule g p z m) (sym h) y)) xs ys

  -- what the rules before one make
  pub record Split (d : Structure) (ps : List ℕ) (p : ℕ) : Type 0 where
    pub inner : Structure
    pub before : FullUnder g d ps inner
    pub outer : Structure
    pub under : IsUnderRule g p inner outer

  pub split : {d f : Structure} {zs : List ℕ} (ps : List ℕ) (p : ℕ) (qs : List ℕ) → FullUnder g d zs f → zs ≡ ps ++ p ∷ qs → Split d ps p
  split [] p qs under_none e = absurd (cc)
  split {d = d} [] p qs (under_next {e = m} {rule = r} x more) e =
      let q : r ≡ p = cc in
      record { inner = d; before = under_none; outer = m; under = subst (λ i. IsUnderRule g i d m) q x }
  split (r ∷ ps) p qs under_none e = absurd (cc)
  split {d = d} (r ∷ ps) p qs (under_next {e = m} {rule = s} {rules = ss} x more) e =
      let q : s ≡ r = cc in
      let t : ss ≡ ps ++ p ∷ qs = cc in
      let z = split ps p qs more t in
      record { inner = z.inner; before = under_next (subst (λ i. IsUnderRule g i d m) q x) z.before; outer = z.outer; under = z.under }

  -- where a rule makes nothing of what those before it make, there is no full structure
  pub stuck : {d e f : Structure} {zs : List ℕ} (ps : List ℕ) (p : ℕ) (qs : List ℕ) → FullUnder g d ps e → ((u : Structure) → IsUnderRule g p e u → ⊥) → zs ≡ ps ++ p ∷ qs → FullUnder g d zs f → ⊥
  stuck ps p qs x none e h =
      let z = split ps p qs h e in
      none z.outer (subst (λ u. IsUnderRule g p u z.outer) (one_under refl z.before x) z.under)

  -- what an entry's structure comes to is what its own comes to
  pub from_entry : {p : ℕ} {d f : Structure} {ps : List ℕ} → IsEntry g p d → FullLexical g p ps f → FullUnder g d ps f
  from_entry {p = p} {f = f} {ps = ps} x h =
      subst (λ z. FullUnder g z ps f) (one g o (full_lexical {words = []} {nodes = None} (h.0, h.1, under_none)) (full_lexical {words = []} {nodes = None} (_, x, under_none))) h.2
