-- Tables after something is written at a node.
use Rattle.std.proofs.Common.{ℕ, suc, ◌≡◌, ◌≢◌, ◌≤◌, ◌<◌, ◌+◌, ◌^◌, ◌⊎◌, inl, inr, Option, Some, None, List, [], ◌∷◌, ◌++◌, length, refl, sym, ◌∙◌, ap, subst, arith, length-append}
use Rattle.fs_model.specs.Claims.{Has}
use Rattle.fs_model.specs.Table.{IsTable}
use Rattle.fs_model.specs.Steps.{Links}
use Rattle.fs_model.proofs.StepLemmas.{same_or_other}
use Rattle.std.specs.Prelude.{IfSome}
use Rattle.fs_closing.specs.declared.marks.Written.{Written}
use Rattle.fs_closing.specs.declared.cells.Cell.{Cell}
use Rattle.fs_closing.specs.Cells.{chain, find_arc, no_cell, AreOnce}
use Rattle.fs_closing.specs.Marked.{next_by, type_by, first_by, chase}
use Rattle.fs_closing.specs.NodeTable.{arcs_in, table_from, AreWhole, AreWithin}
use Rattle.fs_closing.specs.NodeSteps.{Retypes, Unites}
use Rattle.fs_closing.proofs.HasLemmas.{each_push, Has-either}
use Rattle.fs_closing.proofs.ForwardLemmas.{chase_same, chase_stays, Rises-same, Rises-set, live_set, live_twice, live_in, live_next}
use Rattle.fs_closing.proofs.ChainLemmas.{chain-push_old, chain-push_new, find_arc-here, find_arc-past, find_arc-has, chain-has}
use Rattle.fs_closing.proofs.ListLemmas.{push_all}

-- what is read of a node that is written to, and of the others
module _ (at at' : ℕ → Option Written) (n : ℕ) (w : Written) (here : at' n ≡ Some w) (others : (k : ℕ) → k ≢ n → at' k ≡ at k) where
  -- as before at the others, and as what is written says here
  pub read_same : {X : Type 0} (F : ℕ → Option Written → X) → F n (Some w) ≡ F n (at n) → (k : ℕ) → F k (at' k) ≡ F k (at k)
  read_same F e k = go (same_or_other k n)
    where
      go : (k ≡ n) ⊎ (k ≢ n) → F k (at' k) ≡ F k (at k)
      go (inl q) = subst (λ i. F i (at' i) ≡ F i (at i)) (sym q) (ap (F n) here ∙ e)
      go (inr q) = ap (F k) (others k q)

  pub read_other : {X : Type 0} (F : ℕ → Option Written → X) (k : ℕ) → k ≢ n → F k (at' k) ≡ F k (at k)
  read_other F k q = ap (F k) (others k q)

  pub read_here : {X : Type 0} (F : ℕ → Option Written → X) → F n (at' n) ≡ F n (Some w)
  read_here F = ap (F n) here

-- a node gets a type
module _ (at at' : ℕ → Option Written) (own_type : ℕ → ℕ) (own : ℕ → List Cell) (cells : List Cell) (merges size : ℕ) (whole : AreWhole at own cells merges size)
    (n : ℕ) (w : Written) (h : n < size) (here : at' n ≡ Some w) (others : (k : ℕ) → k ≢ n → at' k ≡ at k)
    (forward_is : w.forward ≡ next_by n (at n)) (first_is : w.first ≡ first_by (at n)) where
  next_kept : (k : ℕ) → next_by k (at' k) ≡ next_by k (at k)
  next_kept = read_same at at' n w here others next_by forward_is

  first_kept : (k : ℕ) → first_by (at' k) ≡ first_by (at k)
  first_kept = read_same at at' n w here others (λ _. first_by) first_is

  row_kept : (k : ℕ) → arcs_in at' own cells k ≡ arcs_in at own cells k
  row_kept k = ap (λ p. chain cells p ++ own k) (first_kept k)

  pub live_retyped : (k : ℕ) → chase (λ m. next_by m (at' m)) merges k ≡ chase (λ m. next_by m (at m)) merges k
  live_retyped = chase_same (λ m. next_by m (at m)) (λ m. next_by m (at' m)) next_kept merges

  pub table_retyped : Retypes (table_from at own_type own cells merges size) (table_from at' own_type own cells merges size) n w.ty
  table_retyped = record {
    size_is = refl;
    live_is = live_retyped;
    arc_is = λ k g. ap (λ r. find_arc r g) (row_kept k);
    type_here = read_here at at' n w here others (λ k. type_by (own_type k));
    type_other = read_other at at' n w here others (λ k. type_by (own_type k));
  }

  pub whole_retyped : AreWhole at' own cells merges size
  whole_retyped = record {
    small = whole.small;
    few = whole.few;
    unwritten = λ k i. others k (λ e. omega (arith, e, h, i)) ∙ whole.unwritten k i;
    root = next_kept 0 ∙ whole.root;
    rises = Rises-same (λ m. next_by m (at m)) (λ m. next_by m (at' m)) merges next_kept whole.rises;
    forward_in = λ k i. subst (λ x. x < size) (sym (next_kept k)) (whole.forward_in k i);
    places = whole.places;
    first_in = λ k i. subst (λ x. x ≤ length cells) (sym (first_kept k)) (whole.first_in k i);
    once = λ k i. subst AreOnce (sym (row_kept k)) (whole.once k i);
    to_in = whole.to_in;
    own_in = whole.own_in;
    own_none = whole.own_none;
  }

  pub within_retyped : (a b : ℕ) → w.ty < a → AreWithin a b (λ k. type_by (own_type k) (at k)) own cells size →
      AreWithin a b (λ k. type_by (own_type k) (at' k)) own cells size
  within_retyped a b low old = record {
    type_in = λ k i. go k i (same_or_other k n);
    feat_in = old.feat_in;
    own_feat = old.own_feat;
  }
    where
      go : (k : ℕ) → k < size → (k ≡ n) ⊎ (k ≢ n) → type_by (own_type k) (at' k) < a
      go k i (inl e) = subst (λ j. type_by (own_type j) (at' j) < a) (sym e) (subst (λ x. x < a) (sym table_retyped.type_here) low)
      go k i (inr e) = subst (λ x. x < a) (sym (table_retyped.type_other k e)) (old.type_in k i)

-- a node gets an arc, whose cell comes before those that it has
module _ (at at' : ℕ → Option Written) (own_type : ℕ → ℕ) (own : ℕ → List Cell) (cells : List Cell) (merges size : ℕ) (whole : AreWhole at own cells merges size)
    (n f to p : ℕ) (w : Written) (h : n < size) (to_in : to < size) (here : at' n ≡ Some w) (others : (k : ℕ) → k ≢ n → at' k ≡ at k)
    (p_is : p ≡ first_by (at n)) (forward_is : w.forward ≡ next_by n (at n)) (type_is : w.ty ≡ type_by (own_type n) (at n)) (first_is : w.first ≡ length cells + 1)
    (empty : find_arc (arcs_in at own cells n) f ≡ None) where
  abbrev pub new_cell : Cell
  new_cell = record { feat = f; to = to; next = p }

  next_linked : (k : ℕ) → next_by k (at' k) ≡ next_by k (at k)
  next_linked = read_same at at' n w here others next_by forward_is

  type_linked : (k : ℕ) → type_by (own_type k) (at' k) ≡ type_by (own_type k) (at k)
  type_linked = read_same at at' n w here others (λ k. type_by (own_type k)) type_is

  first_here : first_by (at' n) ≡ length cells + 1
  first_here = ap first_by here ∙ first_is

  row_here : (k : ℕ) → k ≡ n → arcs_in at' own (cells ++ new_cell ∷ []) k ≡ new_cell ∷ arcs_in at own cells k
  row_here k e =
      ap (λ l. l ++ own k)
      (chain-push_new cells new_cell (first_by (at' k)) (ap (λ i. first_by (at' i)) e ∙ first_here)
      ∙ ap (λ i. new_cell ∷ chain cells i) (p_is ∙ ap (λ i. first_by (at i)) (sym e)))

  row_other : (k : ℕ) → k < size → k ≢ n → arcs_in at' own (cells ++ new_cell ∷ []) k ≡ arcs_in at own cells k
  row_other k i e =
      ap (λ l. l ++ own k)
      (ap (λ o. chain (cells ++ new_cell ∷ []) (first_by o)) (others k e) ∙ chain-push_old cells new_cell (first_by (at k)) (whole.first_in k i))

  pub live_linked : (k : ℕ) → chase (λ m. next_by m (at' m)) merges k ≡ chase (λ m. next_by m (at m)) merges k
  live_linked = chase_same (λ m. next_by m (at m)) (λ m. next_by m (at' m)) next_linked merges

  pub table_linked : Links (table_from at own_type own cells merges size) (table_from at' own_type own (cells ++ new_cell ∷ []) merges size) n f to
  table_linked = record {
    size_is = refl;
    live_is = live_linked;
    arc_here = ap (λ l. find_arc l f) (row_here n refl) ∙ find_arc-here new_cell _ f refl;
    arc_old = arc_old;
    type_is = λ k _. type_linked k;
  }
    where
      arc_old : (k g : ℕ) → k < size → (k ≢ n) ⊎ (g ≢ f) →
          find_arc (arcs_in at' own (cells ++ new_cell ∷ []) k) g ≡ find_arc (arcs_in at own cells k) g
      arc_old k g i (inl e) = ap (λ l. find_arc l g) (row_other k i e)
      arc_old k g i (inr e) = go (same_or_other k n)
        where
          go : (k ≡ n) ⊎ (k ≢ n) → find_arc (arcs_in at' own (cells ++ new_cell ∷ []) k) g ≡ find_arc (arcs_in at own cells k) g
          go (inl q) = ap (λ l. find_arc l g) (row_here k q) ∙ find_arc-past new_cell _ g (λ d. e (sym d))
          go (inr q) = ap (λ l. find_arc l g) (row_other k i q)

  pub whole_linked : length cells + 1 < 2 ^ 32 → AreWhole at' own (cells ++ new_cell ∷ []) merges size
  whole_linked room = record {
    small = whole.small;
    few = omega (arith, length-append cells (new_cell ∷ []));
    unwritten = λ k i. others k (λ e. omega (arith, e, h, i)) ∙ whole.unwritten k i;
    root = next_linked 0 ∙ whole.root;
    rises = Rises-same (λ m. next_by m (at m)) (λ m. next_by m (at' m)) merges next_linked whole.rises;
    forward_in = λ k i. subst (λ x. x < size) (sym (next_linked k)) (whole.forward_in k i);
    places = λ k a. push_all (λ i c. c.next ≤ i) cells new_cell no_cell whole.places (subst (λ x. x ≤ length cells) (sym p_is) (whole.first_in n h)) k
        (omega (arith, length-append cells (new_cell ∷ [])));
    first_in = λ k i. first_in k i (same_or_other k n);
    once = λ k i. once k i (same_or_other k n);
    to_in = each_push (λ c. c.to < size) cells _ new_cell refl whole.to_in to_in;
    own_in = whole.own_in;
    own_none = whole.own_none;
  }
    where
      first_in : (k : ℕ) → k < size → (k ≡ n) ⊎ (k ≢ n) → first_by (at' k) ≤ length (cells ++ new_cell ∷ [])
      first_in k i (inl e) = omega (arith, ap (λ j. first_by (at' j)) e, first_here, length-append cells (new_cell ∷ []))
      first_in k i (inr e) = omega (arith, ap first_by (others k e), whole.first_in k i, length-append cells (new_cell ∷ []))

      once : (k : ℕ) → k < size → (k ≡ n) ⊎ (k ≢ n) → AreOnce (arcs_in at' own (cells ++ new_cell ∷ []) k)
      once k i (inl e) = subst AreOnce (ap (λ j. new_cell ∷ arcs_in at own cells j) (sym e) ∙ sym (row_here k e)) (empty, whole.once n h)
      once k i (inr e) = subst AreOnce (sym (row_other k i e)) (whole.once k i)

  pub within_linked : (a b : ℕ) → f < b → AreWithin a b (λ k. type_by (own_type k) (at k)) own cells size →
      AreWithin a b (λ k. type_by (own_type k) (at' k)) own (cells ++ new_cell ∷ []) size
  within_linked a b low old = record {
    type_in = λ k i. subst (λ x. x < a) (sym (type_linked k)) (old.type_in k i);
    feat_in = each_push (λ c. c.feat < b) cells _ new_cell refl old.feat_in low;
    own_feat = old.own_feat;
  }

-- a live node is forwarded to another one, which gets a type
module _ (at between at' : ℕ → Option Written) (own_type : ℕ → ℕ) (own : ℕ → List Cell) (cells : List Cell) (merges size : ℕ)
    (whole : AreWhole at own cells merges size) (a b : ℕ) (gone joined : Written) (a_in : a < size) (b_in : b < size) (apart : a ≢ b) (no_root : b ≢ 0)
    (a_stays : chase (λ m. next_by m (at m)) merges a ≡ a) (b_stays : chase (λ m. next_by m (at m)) merges b ≡ b)
    (here_b : between b ≡ Some gone) (others_b : (k : ℕ) → k ≢ b → between k ≡ at k) (here_a : at' a ≡ Some joined) (others_a : (k : ℕ) → k ≢ a → at' k ≡ between k)
    (forward_b : gone.forward ≡ a) (type_b : gone.ty ≡ type_by (own_type b) (at b)) (first_b : gone.first ≡ first_by (at b))
    (forward_a : joined.forward ≡ next_by a (at a)) (first_a : joined.first ≡ first_by (at a)) where
  at_a : between a ≡ at a
  at_a = others_b a apart

  -- what neither of the two changes
  pub same_after : {X : Type 0} (F : ℕ → Option Written → X) → F a (Some joined) ≡ F a (at a) → F b (Some gone) ≡ F b (at b) → (k : ℕ) → F k (at' k) ≡ F k (at k)
  same_after F x y k =
      read_same between at' a joined here_a others_a F (x ∙ ap (F a) (sym at_a)) k ∙ read_same at between b gone here_b others_b F y k

  first_joined : (k : ℕ) → first_by (at' k) ≡ first_by (at k)
  first_joined = same_after (λ _. first_by) first_a first_b

  row_joined : (k : ℕ) → arcs_in at' own cells k ≡ arcs_in at own cells k
  row_joined k = ap (λ p. chain cells p ++ own k) (first_joined k)

  next_after : (k : ℕ) → next_by k (at' k) ≡ next_by k (between k)
  next_after = read_same between at' a joined here_a others_a next_by (forward_a ∙ ap (next_by a) (sym at_a))

  next_b : next_by b (at' b) ≡ a
  next_b = next_after b ∙ ap (next_by b) here_b ∙ forward_b

  next_other : (k : ℕ) → k ≢ b → next_by k (at' k) ≡ next_by k (at k)
  next_other k e = next_after k ∙ ap (next_by k) (others_b k e)

  a_next : next_by a (at a) ≡ a
  a_next = live_next (λ m. next_by m (at m)) merges whole.rises a a_stays

  b_next : next_by b (at b) ≡ b
  b_next = live_next (λ m. next_by m (at m)) merges whole.rises b b_stays

  moves : (k : ℕ) → (chase (λ m. next_by m (at m)) merges k ≡ b → chase (λ m. next_by m (at' m)) (suc merges) k ≡ a)
      × (chase (λ m. next_by m (at m)) merges k ≢ b → chase (λ m. next_by m (at' m)) (suc merges) k ≡ chase (λ m. next_by m (at m)) merges k)
  moves = live_set (λ m. next_by m (at m)) merges whole.rises (λ m. next_by m (at' m)) a b apart a_next b_next next_b next_other

  pub table_united : Unites (table_from at own_type own cells merges size) (table_from at' own_type own cells (suc merges) size) a b joined.ty
  table_united = record {
    size_is = refl;
    live_b = λ k. (moves k).0;
    live_other = λ k. (moves k).1;
    arc_is = λ k g _. ap (λ r. find_arc r g) (row_joined k);
    type_here = ap (type_by (own_type a)) here_a;
    type_other = λ k _ e. ap (type_by (own_type k)) (others_a k e)
        ∙ read_same at between b gone here_b others_b (λ k. type_by (own_type k)) type_b k;
  }

  pub whole_united : AreWhole at' own cells (suc merges) size
  whole_united = record {
    small = whole.small;
    few = whole.few;
    unwritten = λ k i. others_a k (λ e. omega (arith, e, a_in, i)) ∙ others_b k (λ e. omega (arith, e, b_in, i)) ∙ whole.unwritten k i;
    root = next_other 0 (λ e. no_root (sym e)) ∙ whole.root;
    rises = Rises-set (λ m. next_by m (at m)) merges whole.rises (λ m. next_by m (at' m)) a b apart a_next b_next next_b next_other;
    forward_in = λ k i. forward_in k i (same_or_other k b);
    places = whole.places;
    first_in = λ k i. subst (λ x. x ≤ length cells) (sym (first_joined k)) (whole.first_in k i);
    once = λ k i. subst AreOnce (sym (row_joined k)) (whole.once k i);
    to_in = whole.to_in;
    own_in = whole.own_in;
    own_none = whole.own_none;
  }
    where
      forward_in : (k : ℕ) → k < size → (k ≡ b) ⊎ (k ≢ b) → next_by k (at' k) < size
      forward_in k i (inl e) = subst (λ x. next_by x (at' x) < size) (sym e) (subst (λ x. x < size) (sym next_b) a_in)
      forward_in k i (inr e) = subst (λ x. x < size) (sym (next_other k e)) (whole.forward_in k i)

  pub within_united : (types feats : ℕ) → joined.ty < types → AreWithin types feats (λ k. type_by (own_type k) (at k)) own cells size →
      AreWithin types feats (λ k. type_by (own_type k) (at' k)) own cells size
  within_united types feats low old = record {
    type_in = λ k i. go k i (same_or_other k a);
    feat_in = old.feat_in;
    own_feat = old.own_feat;
  }
    where
      go : (k : ℕ) → k < size → (k ≡ a) ⊎ (k ≢ a) → type_by (own_type k) (at' k) < types
      go k i (inl e) = subst (λ j. type_by (own_type j) (at' j) < types) (sym e) (subst (λ x. x < types) (sym table_united.type_here) low)
      go k i (inr e) = subst (λ x. x < types) (sym (table_united.type_other k i e)) (old.type_in k i)

-- where an arc leads is a node
pub arc_within : (at : ℕ → Option Written) (own : ℕ → List Cell) (cells : List Cell) (merges size : ℕ) → AreWhole at own cells merges size → (n f m : ℕ) →
    find_arc (arcs_in at own cells n) f ≡ Some m → m < size
arc_within at own cells merges size whole n f m e =
    let x = find_arc-has (arcs_in at own cells n) f m e in
    subst (λ i. i < size) x.3 (go x.0 (Has-either x.0 (chain cells (first_by (at n))) (own n) x.1))
  where
    go : (c : Cell) → Has c (chain cells (first_by (at n))) ⊎ Has c (own n) → c.to < size
    go c (inl h) = whole.to_in c (chain-has cells (first_by (at n)) c h)
    go c (inr h) = whole.own_in n c h

pub arc_within_some : (at : ℕ → Option Written) (own : ℕ → List Cell) (cells : List Cell) (merges size : ℕ) → AreWhole at own cells merges size → (n f : ℕ)
    (o : Option ℕ) → o ≡ find_arc (arcs_in at own cells n) f → IfSome o (λ m. m < size)
arc_within_some at own cells merges size whole n f None e = tt
arc_within_some at own cells merges size whole n f (Some m) e = arc_within at own cells merges size whole n f m (sym e)

-- what is whole is a table, whose root stands for itself
pub table_whole : (at : ℕ → Option Written) (own_type : ℕ → ℕ) (own : ℕ → List Cell) (cells : List Cell) (merges size : ℕ) → AreWhole at own cells merges size →
    IsTable (table_from at own_type own cells merges size)
table_whole at own_type own cells merges size whole = record {
  live_in = live_in (λ m. next_by m (at m)) merges whole.rises size whole.forward_in;
  live_twice = live_twice (λ m. next_by m (at m)) merges whole.rises;
  arc_in = λ n f m h e. arc_within at own cells merges size whole n f m e;
}

pub root_lives : (at : ℕ → Option Written) (own : ℕ → List Cell) (cells : List Cell) (merges size : ℕ) → AreWhole at own cells merges size →
    chase (λ m. next_by m (at m)) merges 0 ≡ 0
root_lives at own cells merges size whole = chase_stays (λ m. next_by m (at m)) merges 0 whole.root
