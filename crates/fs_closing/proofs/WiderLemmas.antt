-- Tables with more nodes.
use Rattle.std.proofs.Common.{ℕ, ◌≡◌, ◌≤◌, ◌<◌, ◌+◌, ◌^◌, ◌⊎◌, inl, inr, Option, Some, None, List, [], ◌++◌, length, refl, sym, ◌∙◌, ap, subst, arith}
use Rattle.std.proofs.lemmas.Bool.{cases_lt}
use Rattle.fs_model.specs.Claims.{Has}
use Rattle.fs_model.specs.Table.{Table}
use Rattle.fs_model.specs.Steps.{Links, Grows}
use Rattle.fs_closing.specs.declared.marks.Written.{Written}
use Rattle.fs_closing.specs.declared.cells.Cell.{Cell}
use Rattle.fs_closing.specs.Cells.{chain, find_arc, AreOnce}
use Rattle.fs_closing.specs.Marked.{next_by, type_by, first_by, chase}
use Rattle.fs_closing.specs.NodeTable.{arcs_in, table_from, AreWhole, AreWithin}
use Rattle.fs_closing.specs.NodeSteps.{AddsNode}
use Rattle.fs_closing.proofs.ForwardLemmas.{chase_same, chase_stays, Rises-same}
use Rattle.fs_closing.proofs.ChainLemmas.{chain-none}
use Rattle.fs_closing.proofs.MarkLemmas.{read_same}

-- what is written leaves forwards and added arcs as they were, and the old nodes keep their own arcs
module _ (at at' : ℕ → Option Written) (own own' : ℕ → List Cell) (cells : List Cell) (merges size : ℕ) (whole : AreWhole at own cells merges size)
    (next_same : (k : ℕ) → next_by k (at' k) ≡ next_by k (at k)) (first_same : (k : ℕ) → first_by (at' k) ≡ first_by (at k))
    (own_old : (k : ℕ) → k < size → own' k ≡ own k) where
  pub row_wider_old : (k : ℕ) → k < size → arcs_in at' own' cells k ≡ arcs_in at own cells k
  row_wider_old k h = ap (λ p. chain cells p ++ own' k) (first_same k) ∙ ap (λ l. chain cells (first_by (at k)) ++ l) (own_old k h)

  first_past : (k : ℕ) → size ≤ k → first_by (at' k) ≡ 0
  first_past k h = first_same k ∙ ap first_by (whole.unwritten k h)

  pub row_wider_new : (k : ℕ) → size ≤ k → arcs_in at' own' cells k ≡ own' k
  row_wider_new k h = ap (λ p. chain cells p ++ own' k) (first_past k h) ∙ ap (λ l. l ++ own' k) (chain-none cells)

  next_past : (k : ℕ) → size ≤ k → next_by k (at k) ≡ k
  next_past k h = ap (next_by k) (whole.unwritten k h)

  pub live_wider : (k : ℕ) → chase (λ n. next_by n (at' n)) merges k ≡ chase (λ n. next_by n (at n)) merges k
  live_wider = chase_same (λ n. next_by n (at n)) (λ n. next_by n (at' n)) next_same merges

  pub live_wider_new : (k : ℕ) → size ≤ k → chase (λ n. next_by n (at' n)) merges k ≡ k
  live_wider_new k h = live_wider k ∙ chase_stays (λ n. next_by n (at n)) merges k (next_past k h)

  pub whole_wider : (size' : ℕ) → size ≤ size' → size' < 2 ^ 32 → ((k : ℕ) → size ≤ k → k < size' → AreOnce (own' k)) →
      ((n : ℕ) (c : Cell) → Has c (own' n) → c.to < size') → ((n : ℕ) → size' ≤ n → own' n ≡ []) → ((n : ℕ) → size' ≤ n → at' n ≡ None) →
      AreWhole at' own' cells merges size'
  whole_wider size' more small once_new own_in own_none unwritten = record {
    small = small;
    few = whole.few;
    unwritten = unwritten;
    root = next_same 0 ∙ whole.root;
    rises = Rises-same (λ n. next_by n (at n)) (λ n. next_by n (at' n)) merges next_same whole.rises;
    forward_in = λ k h. forward_in k h (cases_lt k size);
    places = whole.places;
    first_in = λ k h. first_in k (cases_lt k size);
    once = λ k h. once k h (cases_lt k size);
    to_in = λ c h. omega (arith, whole.to_in c h, more);
    own_in = own_in;
    own_none = own_none;
  }
    where
      forward_in : (k : ℕ) → k < size' → (k < size) ⊎ (size ≤ k) → next_by k (at' k) < size'
      forward_in k h (inl a) = omega (arith, next_same k, whole.forward_in k a, more)
      forward_in k h (inr a) = subst (λ y. y < size') (sym (next_same k ∙ next_past k a)) h

      first_in : (k : ℕ) → (k < size) ⊎ (size ≤ k) → first_by (at' k) ≤ length cells
      first_in k (inl a) = subst (λ y. y ≤ length cells) (sym (first_same k)) (whole.first_in k a)
      first_in k (inr a) = subst (λ y. y ≤ length cells) (sym (first_past k a)) (omega arith)

      once : (k : ℕ) → k < size' → (k < size) ⊎ (size ≤ k) → AreOnce (arcs_in at' own' cells k)
      once k h (inl a) = subst AreOnce (sym (row_wider_old k a)) (whole.once k a)
      once k h (inr a) = subst AreOnce (sym (row_wider_new k a)) (once_new k a h)

-- a node is made after all others
module _ (at at' : ℕ → Option Written) (own_type own_type' : ℕ → ℕ) (own own' : ℕ → List Cell) (cells : List Cell) (merges size : ℕ)
    (whole : AreWhole at own cells merges size) (w : Written) (here : at' size ≡ Some w) (others : (k : ℕ) → (k ≡ size → ⊥) → at' k ≡ at k)
    (own_same : (k : ℕ) → own' k ≡ own k) (type_same : (k : ℕ) → own_type' k ≡ own_type k) (forward_is : w.forward ≡ size) (first_is : w.first ≡ 0) where
  none_here : at size ≡ None
  none_here = whole.unwritten size (omega arith)

  next_made : (k : ℕ) → next_by k (at' k) ≡ next_by k (at k)
  next_made = read_same at at' size w here others next_by (forward_is ∙ sym (ap (next_by size) none_here))

  first_made : (k : ℕ) → first_by (at' k) ≡ first_by (at k)
  first_made = read_same at at' size w here others (λ _. first_by) (first_is ∙ sym (ap first_by none_here))

  own_old : (k : ℕ) → k < size → own' k ≡ own k
  own_old k h = own_same k

  pub table_added : AddsNode w.ty (table_from at own_type own cells merges size) (table_from at' own_type' own' cells merges (size + 1))
  table_added = record {
    size_is = refl;
    live_old = λ k h. live_wider at at' own own' cells merges size whole next_made first_made own_old k;
    live_new = live_wider_new at at' own own' cells merges size whole next_made first_made own_old;
    arc_old = λ k g h. ap (λ r. find_arc r g) (row_wider_old at at' own own' cells merges size whole next_made first_made own_old k h);
    arc_new = λ g.
        ap (λ r. find_arc r g)
        (row_wider_new at at' own own' cells merges size whole next_made first_made own_old size (omega arith) ∙ own_same size ∙ whole.own_none size (omega arith));
    type_old = λ k h. ap (type_by (own_type' k)) (others k (λ e. omega (arith, e, h))) ∙ ap (λ t. type_by t (at k)) (type_same k);
    type_new = ap (type_by (own_type' size)) here;
  }

  pub whole_added : size + 1 < 2 ^ 32 → AreWhole at' own' cells merges (size + 1)
  whole_added room =
      whole_wider at at' own own' cells merges size whole next_made first_made own_old (size + 1) (omega arith) room
      (λ k low high. subst AreOnce (sym (own_same k ∙ whole.own_none k low)) tt)
      (λ n c h. omega (arith, whole.own_in n c (subst (Has c) (own_same n) h)))
      (λ n h. own_same n ∙ whole.own_none n (omega arith))
      (λ n h. others n (λ e. omega (arith, e, h)) ∙ whole.unwritten n (omega arith))

  pub within_added : (a b : ℕ) → w.ty < a → AreWithin a b (λ k. type_by (own_type k) (at k)) own cells size →
      AreWithin a b (λ k. type_by (own_type' k) (at' k)) own' cells (size + 1)
  within_added a b low old = record {
    type_in = λ k h. type_in k (cases_lt k size) h;
    feat_in = old.feat_in;
    own_feat = λ n c h. old.own_feat n c (subst (Has c) (own_same n) h);
  }
    where
      type_in : (k : ℕ) → (k < size) ⊎ (size ≤ k) → k < size + 1 → type_by (own_type' k) (at' k) < a
      type_in k (inl i) h = subst (λ x. x < a) (sym (table_added.type_old k i)) (old.type_in k i)
      type_in k (inr i) h =
          let e : size ≡ k = omega arith in
          subst (λ j. type_by (own_type' j) (at' j) < a) e (subst (λ x. x < a) (sym table_added.type_new) low)

-- a node and then an arc to it
pub grows_by : (ty : ℕ) (t t1 t2 : Table) (n f to : ℕ) → AddsNode ty t t1 → Links t1 t2 n f to → n < t.size → to ≡ t.size → Grows ty t t2 n f
grows_by ty t t1 t2 n f to adds links h is = record {
  size_is = links.size_is ∙ adds.size_is;
  live_old = λ k i. links.live_is k ∙ adds.live_old k i;
  live_new = λ k i. links.live_is k ∙ adds.live_new k i;
  arc_here = links.arc_here ∙ ap Some is;
  arc_old = λ k g i d. links.arc_old k g (wider k i) d ∙ adds.arc_old k g i;
  arc_new = λ g. links.arc_old t.size g (omega (arith, adds.size_is)) (inl (λ e. omega arith)) ∙ adds.arc_new g;
  type_old = λ k i. links.type_is k (wider k i) ∙ adds.type_old k i;
  type_new = links.type_is t.size (omega (arith, adds.size_is)) ∙ adds.type_new;
}
  where
    wider : (k : ℕ) → k < t.size → k < t1.size
    wider k i = omega (arith, adds.size_is)

-- no nodes
pub whole_empty : (at : ℕ → Option Written) (own : ℕ → List Cell) → ((n : ℕ) → at n ≡ None) → ((n : ℕ) → own n ≡ []) → AreWhole at own [] 0 0
whole_empty at own none bare = record {
  small = omega arith;
  few = omega arith;
  unwritten = λ n h. none n;
  root = ap (next_by 0) (none 0);
  rises = record { time = λ n. 0; bounded = λ n e. absurd (e (ap (next_by n) (none n))); later = λ n e d. absurd (e (ap (next_by n) (none n))) };
  forward_in = λ n h. absurd (omega arith);
  places = λ k h. absurd (omega arith);
  first_in = λ n h. absurd (omega arith);
  once = λ n h. absurd (omega arith);
  to_in = λ c h. elim h [ ];
  own_in = λ n c h. elim (subst (Has c) (bare n) h) [ ];
  own_none = λ n h. bare n;
}

pub within_empty : (types feats : ℕ) (type_of : ℕ → ℕ) (own : ℕ → List Cell) → ((n : ℕ) → own n ≡ []) → AreWithin types feats type_of own [] 0
within_empty types feats type_of own bare = record {
  type_in = λ n h. absurd (omega arith);
  feat_in = λ c h. elim h [ ];
  own_feat = λ n c h. elim (subst (Has c) (bare n) h) [ ];
}
