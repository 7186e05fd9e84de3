-- Constraints that a type system knows.
use Rattle.std.proofs.Common.{ℕ, ◌≡◌, ◌≢◌, ◌≤◌, ◌<◌, ◌+◌, ◌-◌, ◌⊎◌, inl, inr, List, [], ◌∷◌, ◌++◌, length, slice_index_or, sym, ◌∙◌, ap, subst, arith, length-append}
use Rattle.std.proofs.Math.ListN.{get_or-append}
use Rattle.std.proofs.Math.Seq.{get_or-append_seam}
use Rattle.type_hierarchy.specs.Table.{count_of}
use Rattle.fs_model.specs.Claims.{Has}
use Rattle.fs_model.proofs.StepLemmas.{same_or_other}
use Rattle.fs_closing.specs.declared.constraint.Constraint.{Constraint}
use Rattle.fs_closing.specs.Constraints.{IsConstraint}
use Rattle.fs_closing.specs.Inner.Known.{AreKnown}
use Rattle.fs_closing.specs.Rules.{Grammar}
use Rattle.fs_closing.proofs.HasLemmas.{Has-at, Has-either, Has-one}

-- nothing is known of types at first
pub knows_none : (g : Grammar) (starts : List ℕ) → length starts ≡ count_of g.types → ((t : ℕ) → slice_index_or starts t 0 ≡ 0) → AreKnown g [] starts
knows_none g starts size none = record {
  each = size;
  graphs = λ x h. elim h [ ];
  start_in = λ t. omega (arith, none t);
  start_is = λ t k d e. absurd (omega (arith, e, none t));
}

-- one more is known, of a type
pub knows_more : (g : Grammar) (known known' : List Constraint) (starts starts' : List ℕ) (x : Constraint) → AreKnown g known starts → known' ≡ known ++ x ∷ [] →
    x.ty < count_of g.types → IsConstraint g x.ty x.graph → slice_index_or starts' x.ty 0 ≡ length known + 1 →
    ((t : ℕ) → t ≢ x.ty → slice_index_or starts' t 0 ≡ slice_index_or starts t 0) → length starts' ≡ length starts → AreKnown g known' starts'
knows_more g known known' starts starts' x old is within here at others size = record {
  each = size ∙ old.each;
  graphs = λ y h. graphs y (Has-either y known (x ∷ []) (subst (Has y) is h));
  start_in = λ t. start_in t (same_or_other t x.ty);
  start_is = λ t k d e. start_is t k d e (same_or_other t x.ty);
}
  where
    longer : length known' ≡ length known + 1
    longer = ap length is ∙ length-append known (x ∷ [])

    graphs : (y : Constraint) → Has y known ⊎ Has y (x ∷ []) → IsConstraint g y.ty y.graph
    graphs y (inl h) = old.graphs y h
    graphs y (inr h) = subst (λ (z : Constraint). IsConstraint g z.ty z.graph) (sym (Has-one y x h)) here

    start_in : (t : ℕ) → (t ≡ x.ty) ⊎ (t ≢ x.ty) → slice_index_or starts' t 0 ≤ length known'
    start_in t (inl e) = omega (arith, ap (λ i. slice_index_or starts' i 0) e, at, longer)
    start_in t (inr e) = omega (arith, others t e, old.start_in t, longer)

    start_is : (t k : ℕ) (d : Constraint) → slice_index_or starts' t 0 ≡ k + 1 → (t ≡ x.ty) ⊎ (t ≢ x.ty) → (slice_index_or known' k d).ty ≡ t
    start_is t k d e (inl same) =
        let here' : k ≡ length known = omega (arith, ap (λ i. slice_index_or starts' i 0) same, at, e) in
        ap (λ l. (slice_index_or l k d).ty) is ∙ ap (λ i. (slice_index_or (known ++ x ∷ []) i d).ty) here'
        ∙ ap (λ (y : Constraint). y.ty) (get_or-append_seam known x [] d) ∙ sym same
    start_is t k d e (inr apart) =
        let before = sym (others t apart) ∙ e in
        let low : k < length known = omega (arith, old.start_in t, before) in
        ap (λ l. (slice_index_or l k d).ty) is ∙ ap (λ (y : Constraint). y.ty) (get_or-append known (x ∷ []) d k low) ∙ old.start_is t k d before

-- the constraint at a type's place
pub knows_at : (g : Grammar) (known : List Constraint) (starts : List ℕ) (t behind : ℕ) (x : Constraint) → AreKnown g known starts → behind ≡ slice_index_or starts t 0 →
    behind ≢ 0 → x ≡ slice_index_or known (behind - 1) x → (x.ty ≡ t) × IsConstraint g t x.graph
knows_at g known starts t behind x all is some here =
    let one : slice_index_or starts t 0 ≡ behind - 1 + 1 = omega (arith, is, some) in
    let low : behind - 1 < length known = omega (arith, all.start_in t, one) in
    let ty : x.ty ≡ t = ap (λ (y : Constraint). y.ty) here ∙ all.start_is t (behind - 1) x one in
    let con = subst (λ (y : Constraint). IsConstraint g y.ty y.graph) (sym here) (all.graphs _ (Has-at known (behind - 1) x low)) in
    (ty, subst (λ u. IsConstraint g u x.graph) ty con)
