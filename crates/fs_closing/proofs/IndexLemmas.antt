-- What the index keeps.
use Rattle.std.proofs.Common.{ℕ, ◌≡◌, ◌≢◌, ◌≤◌, ◌+◌, ◌&&◌, nat_eq, cond, ◌⊎◌, inl, inr, Option, Some, None, List, [], ◌∷◌, ◌++◌, length, slice_index_or, refl, sym, ◌∙◌, ap, subst, arith, eq-eqb}
use Rattle.std.proofs.lemmas.Bool.{ne_eqb}
use Rattle.std.proofs.lemmas.List.{length-append}
use Rattle.std.specs.Option.{option_or}
use Rattle.fs_model.proofs.StepLemmas.{same_or_other}
use Rattle.fs_closing.specs.declared.cells.Cell.{Cell}
use Rattle.fs_closing.specs.declared.index.Index.{Index}
use Rattle.fs_closing.specs.declared.index.Part.{Part}
use Rattle.fs_closing.specs.Cells.{chain, find_arc}
use Rattle.fs_closing.specs.Inner.Indexes.{IsPart, AreParts, HaveIndex, arc_in, part_in}
use Rattle.fs_closing.proofs.ChainLemmas.{chain-push_old, chain-push_new, find_arc-here, find_arc-past}

-- a cell more at the end
part_pushed : (cells : List Cell) (c : Cell) (arcs : ℕ → Option ℕ) (p : Part) → IsPart cells arcs p → IsPart (cells ++ c ∷ []) arcs p
part_pushed cells c arcs p is =
    let more : length cells ≤ length (cells ++ c ∷ []) = omega (arith, length-append cells (c ∷ [])) in
    record {
      first_in = omega (arith, is.first_in, more);
      rest_in = omega (arith, is.rest_in, more);
      finds = λ f. ap (λ l. find_arc l f) (chain-push_old cells c p.first is.first_in) ∙ is.finds f
          ∙ ap (λ l. option_or (arcs f) (find_arc l f)) (sym (chain-push_old cells c p.rest is.rest_in));
    }

pub parts_pushed : (cells : List Cell) (c : Cell) (arcs : ℕ → ℕ → Option ℕ) (parts : ℕ → Option Part) → AreParts cells arcs parts →
    AreParts (cells ++ c ∷ []) arcs parts
parts_pushed cells c arcs parts are = record {
  none = are.none;
  some = λ n p e. part_pushed cells c (arcs n) p (are.some n p e);
}

pub index_pushed : (cells : List Cell) (c : Cell) (indexes : List Index) → HaveIndex cells indexes → HaveIndex (cells ++ c ∷ []) indexes
index_pushed cells c indexes have d some =
    parts_pushed cells c (arc_in (slice_index_or indexes 0 d)) (part_in (slice_index_or indexes 0 d)) (have d some)

-- an arc of a node gets into the index
module _ (cells : List Cell) (arcs arcs' : ℕ → ℕ → Option ℕ) (parts parts' : ℕ → Option Part) (n : ℕ) (c : Cell) (p : Part) where
  module _ (are : AreParts cells arcs parts) (had : parts n ≡ Some p) (next : p.first ≡ c.next) (arc_here : arcs' n c.feat ≡ Some c.to)
      (arc_past : (f : ℕ) → f ≢ c.feat → arcs' n f ≡ arcs n f) (arc_other : (k f : ℕ) → k ≢ n → arcs' k f ≡ arcs k f)
      (here : parts' n ≡ Some (record { first = length cells + 1; rest = p.rest })) (others : (k : ℕ) → k ≢ n → parts' k ≡ parts k) where
    was : IsPart cells (arcs n) p
    was = are.some n p had

    longer : length (cells ++ c ∷ []) ≡ length cells + 1
    longer = length-append cells (c ∷ [])

    now : chain (cells ++ c ∷ []) (length cells + 1) ≡ c ∷ chain cells p.first
    now = chain-push_new cells c (length cells + 1) refl ∙ ap (λ q. c ∷ chain cells q) (sym next)

    finds : (f : ℕ) → (c.feat ≡ f) ⊎ (c.feat ≢ f) →
        find_arc (c ∷ chain cells p.first) f ≡ option_or (arcs' n f) (find_arc (chain (cells ++ c ∷ []) p.rest) f)
    finds f (inl e) =
        find_arc-here c (chain cells p.first) f e
        ∙ ap (λ o. option_or o (find_arc (chain (cells ++ c ∷ []) p.rest) f)) (sym (ap (arcs' n) (sym e) ∙ arc_here))
    finds f (inr e) =
        find_arc-past c (chain cells p.first) f e ∙ was.finds f
        ∙ ap (λ o. option_or o (find_arc (chain cells p.rest) f)) (sym (arc_past f (λ d. e (sym d))))
        ∙ ap (λ l. option_or (arcs' n f) (find_arc l f)) (sym (chain-push_old cells c p.rest was.rest_in))

    grown : IsPart (cells ++ c ∷ []) (arcs' n) (record { first = length cells + 1; rest = p.rest })
    grown = record {
      first_in = omega (arith, longer);
      rest_in = omega (arith, longer, was.rest_in);
      finds = λ f. ap (λ l. find_arc l f) now ∙ finds f (same_or_other c.feat f);
    }

    which_none : (k f : ℕ) → parts' k ≡ None → (k ≡ n) ⊎ (k ≢ n) → arcs' k f ≡ None
    which_none k f e (inl i) =
        absurd (let d : Some (record { first = length cells + 1; rest = p.rest }) ≡ None = sym here ∙ ap parts' (sym i) ∙ e in cc)
    which_none k f e (inr i) = arc_other k f i ∙ are.none k f (sym (others k i) ∙ e)

    old_some : (k : ℕ) (q : Part) → k ≢ n → IsPart cells (arcs k) q → IsPart (cells ++ c ∷ []) (arcs' k) q
    old_some k q i is =
        let moved = part_pushed cells c (arcs k) q is in
        record {
          first_in = moved.first_in;
          rest_in = moved.rest_in;
          finds = λ f. moved.finds f ∙ ap (λ o. option_or o (find_arc (chain (cells ++ c ∷ []) q.rest) f)) (sym (arc_other k f i));
        }

    which_some : (k : ℕ) (q : Part) → parts' k ≡ Some q → (k ≡ n) ⊎ (k ≢ n) → IsPart (cells ++ c ∷ []) (arcs' k) q
    which_some k q e (inl i) =
        let d : Some (record { first = length cells + 1; rest = p.rest }) ≡ Some q = sym here ∙ ap parts' (sym i) ∙ e in
        let is : record { first = length cells + 1; rest = p.rest } ≡ q = cc in
        subst (λ m. IsPart (cells ++ c ∷ []) (arcs' m) q) (sym i) (subst (IsPart (cells ++ c ∷ []) (arcs' n)) is grown)
    which_some k q e (inr i) = old_some k q i (are.some k q (sym (others k i) ∙ e))

    pub parts_grown : AreParts (cells ++ c ∷ []) arcs' parts'
    parts_grown = record {
      none = λ k f e. which_none k f e (same_or_other k n);
      some = λ k q e. which_some k q e (same_or_other k n);
    }

-- what an insertion changes
pub arcs_inserted : (arcs arcs' : ℕ → ℕ → Option ℕ) (n f to : ℕ) → ((k g : ℕ) → arcs' k g ≡ cond (nat_eq n k && nat_eq f g) (Some to) (arcs k g)) →
    (arcs' n f ≡ Some to) × ((g : ℕ) → g ≢ f → arcs' n g ≡ arcs n g) × ((k g : ℕ) → k ≢ n → arcs' k g ≡ arcs k g)
arcs_inserted arcs arcs' n f to is = (
  is n f ∙ ap (λ b. cond (b && nat_eq f f) (Some to) (arcs n f)) (eq-eqb n n refl) ∙ ap (λ b. cond b (Some to) (arcs n f)) (eq-eqb f f refl),
  λ g e. is n g ∙ ap (λ b. cond (b && nat_eq f g) (Some to) (arcs n g)) (eq-eqb n n refl) ∙ ap (λ b. cond b (Some to) (arcs n g)) (ne_eqb f g (λ d. e (sym d))),
  λ k g e. is k g ∙ ap (λ b. cond (b && nat_eq f g) (Some to) (arcs k g)) (ne_eqb n k (λ d. e (sym d))),
)

pub parts_inserted : (parts parts' : ℕ → Option Part) (n : ℕ) (p : Part) → ((k : ℕ) → parts' k ≡ cond (nat_eq n k) (Some p) (parts k)) →
    (parts' n ≡ Some p) × ((k : ℕ) → k ≢ n → parts' k ≡ parts k)
parts_inserted parts parts' n p is = (
  is n ∙ ap (λ b. cond b (Some p) (parts n)) (eq-eqb n n refl),
  λ k e. is k ∙ ap (λ b. cond b (Some p) (parts k)) (ne_eqb n k (λ d. e (sym d))),
)
