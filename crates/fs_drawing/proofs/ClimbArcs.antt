-- Arcs that a visit for the lengths of paths passes.
use Rattle.std.proofs.Common.{ℕ, suc, ◌≡◌, ◌≤◌, ◌<◌, ◌+◌, ◌⊎◌, inl, inr, Option, Some, None, List, [], ◌∷◌, ◌++◌, length, drop, slice_index_or, refl, sym, ◌∙◌, ap, subst, arith}
use Rattle.std.proofs.Math.Seq.{drop-cons}
use Rattle.std.proofs.lemmas.List.{drop_all}
use Rattle.fs_model.specs.Claims.{Path, Has, here, there}
use Rattle.fs_model.specs.Table.{Table, IsTable, walk}
use Rattle.fs_model.proofs.TableLemmas.{walk-live, walk-step}
use Rattle.fs_closing.specs.declared.cells.Cell.{Cell}
use Rattle.fs_closing.specs.declared.nodes.Nodes.{Nodes}
use Rattle.fs_closing.specs.Cells.{chain, no_cell}
use Rattle.fs_closing.specs.NodeTable.{at_of, own_row, own_type, first_of, row_of, table_of, IsWhole}
use Rattle.fs_closing.proofs.ChainLemmas.{chain-none, found_of_once}
use Rattle.fs_closing.proofs.HasLemmas.{Has-left, Has-right, Has-either, Has-one}
use Rattle.fs_closing.proofs.MarkLemmas.{table_whole}
use Rattle.fs_drawing.specs.declared.bounds.Open.{Open}
use Rattle.fs_drawing.specs.Inner.Climbing.{IsLower, IsAttained, IsPassing, IsTop, IsNext, WaitsAdded, Waits, IsAbove, AreAbove}

-- open nodes, each of which reaches those after it
pub above_push : (t : Table) (xs : List Open) (z : Open) → AreAbove t xs → ((x : Open) → Has x xs → IsAbove t x.node z.node) → AreAbove t (xs ++ z ∷ [])
above_push t [] z a all = ((λ y h. elim h [ ]), tt)
above_push t (x ∷ xs) z a all = ((λ y h. after y (Has-either y xs (z ∷ []) h)), above_push t xs z a.1 (λ w h. all w (there h)))
  where
    after : (y : Open) → Has y xs ⊎ Has y (z ∷ []) → IsAbove t x.node y.node
    after y (inl h) = a.0 y h
    after y (inr h) = subst (λ (w : Open). IsAbove t x.node w.node) (sym (Has-one y z h)) (all x here)

pub above_front : (t : Table) (xs : List Open) (z : Open) → AreAbove t (xs ++ z ∷ []) → AreAbove t xs
above_front t [] z a = tt
above_front t (x ∷ xs) z a = ((λ y h. a.0 y (Has-left y xs (z ∷ []) h)), above_front t xs z a.1)

pub above_last : (t : Table) (xs : List Open) (z : Open) → AreAbove t (xs ++ z ∷ []) → (x : Open) → Has x xs → IsAbove t x.node z.node
above_last t [] z a x h = elim h [ ]
above_last t (_ ∷ xs) z a x here = a.0 z (Has-right z xs (z ∷ []) here)
above_last t (_ ∷ xs) z a x (there h) = above_last t xs z a.1 x h

first_or_rest : (c d : Cell) (xs : List Cell) → Has c (d ∷ xs) → (c ≡ d) ⊎ Has c xs
first_or_rest c _ xs here = inl refl
first_or_rest c d xs (there h) = inr h

-- the arcs that a node has from its graph, from one on
pub own_split : (cells own : List Cell) (i : ℕ) (c : Cell) → i < length own → c ≡ slice_index_or own i no_cell →
    chain cells 0 ++ drop i own ≡ c ∷ (chain cells 0 ++ drop (i + 1) own)
own_split cells own i c h is =
    let none = chain-none cells in
    let next : suc i ≡ i + 1 = omega arith in
    ap (λ l. l ++ drop i own) none ∙ drop-cons own i no_cell h ∙ ap (λ x. x ∷ drop (suc i) own) (sym is) ∙ ap (λ j. c ∷ drop j own) next
    ∙ ap (λ l. c ∷ (l ++ drop (i + 1) own)) (sym none)

pub own_end : (cells own : List Cell) (i : ℕ) → length own ≤ i → chain cells 0 ++ drop i own ≡ []
own_end cells own i h = ap (λ l. l ++ drop i own) (chain-none cells) ∙ drop_all i own h

-- what was found among the arcs that were added
pub waits_some : (nodes : Nodes) (noted : ℕ → ℕ) (x : Open) (o : Option ℕ) (to : ℕ) → o ≡ Some to → WaitsAdded nodes noted x o → Waits nodes noted x o
waits_some nodes noted x None to e w = absurd cc
waits_some nodes noted x (Some m) to e w = w

pub waits_none : (nodes : Nodes) (noted : ℕ → ℕ) (x : Open) (o : Option ℕ) → o ≡ None → WaitsAdded nodes noted x o → IsPassing nodes noted x × (x.place ≡ 0)
waits_none nodes noted x None e w = w
waits_none nodes noted x (Some m) e w = absurd cc

drop_zero : (xs : List Cell) → drop 0 xs ≡ xs
drop_zero [] = refl
drop_zero (x ∷ xs) = refl

module _ (nodes : Nodes) (whole : IsWhole nodes) where
  abbrev t : Table
  t = table_of nodes

  ok : IsTable (table_of nodes)
  ok = table_whole (at_of nodes) (own_type nodes) (own_row nodes) nodes.cells nodes.merges nodes.size whole.stands

  -- the arcs of a node are those of the table
  pub walk_on : (n : ℕ) → n < nodes.size → t.live n ≡ n → (c : Cell) → Has c (row_of nodes n) → (p : Path) → walk t n (c.feat ∷ p) ≡ walk t (t.live c.to) p
  walk_on n h lives c has p =
      walk-step t n c.to c.feat p (ap (λ z. t.arc z c.feat) lives ∙ found_of_once (row_of nodes n) (whole.stands.once n h) c has)
      ∙ sym (walk-live t ok c.to p)

  -- a node none of whose arcs was passed
  pub opened_passing : (n place : ℕ) → n < nodes.size → place ≡ first_of nodes n → (noted : ℕ → ℕ) →
      IsPassing nodes noted (record { node = n; place = place; own = 0; high = 0 })
  opened_passing n place h is noted = record {
    place_in = omega (arith, is, whole.stands.first_in n h);
    left = λ c i. subst (Has c) all i;
    passed = λ c i. inl (subst (Has c) (sym all) i);
    attained = inl refl;
  }
    where
      all : chain nodes.cells place ++ drop 0 (own_row nodes n) ≡ row_of nodes n
      all = ap (λ l. chain nodes.cells place ++ l) (drop_zero (own_row nodes n)) ∙ ap (λ p. chain nodes.cells p ++ own_row nodes n) is

  -- one arc more was passed
  pub passes : (noted : ℕ → ℕ) (n place own high place' own' high' : ℕ) (c : Cell) → IsPassing nodes noted (record { node = n; place = place; own = own; high = high }) →
      chain nodes.cells place ++ drop own (own_row nodes n) ≡ c ∷ (chain nodes.cells place' ++ drop own' (own_row nodes n)) → place' ≤ length nodes.cells →
      2 ≤ noted (t.live c.to) → high ≤ high' → noted (t.live c.to) < high' + 2 → (high' ≡ high) ⊎ (noted (t.live c.to) ≡ high' + 1) →
      IsPassing nodes noted (record { node = n; place = place'; own = own'; high = high' })
  passes noted n place own high place' own' high' c p split within done more low which = record {
    place_in = within;
    left = λ d h. p.left d (subst (Has d) (sym split) (there h));
    passed = λ d h. passed d (p.passed d h);
    attained = attained which p.attained;
  }
    where
      here_is : Has c (row_of nodes n)
      here_is = p.left c (subst (Has c) (sym split) here)

      left : (d : Cell) → (d ≡ c) ⊎ Has d (chain nodes.cells place' ++ drop own' (own_row nodes n)) →
          Has d (chain nodes.cells place' ++ drop own' (own_row nodes n)) ⊎ IsLower noted (t.live d.to) high'
      left d (inl e) = inr (subst (λ (x : Cell). IsLower noted (t.live x.to) high') (sym e) (done, low))
      left d (inr h) = inl h

      passed : (d : Cell) → Has d (chain nodes.cells place ++ drop own (own_row nodes n)) ⊎ IsLower noted (t.live d.to) high →
          Has d (chain nodes.cells place' ++ drop own' (own_row nodes n)) ⊎ IsLower noted (t.live d.to) high'
      passed d (inl h) = left d (first_or_rest d c (chain nodes.cells place' ++ drop own' (own_row nodes n)) (subst (Has d) split h))
      passed d (inr l) = let a = l.0 in let b = l.1 in inr (a, omega (arith, b, more))

      attained : (high' ≡ high) ⊎ (noted (t.live c.to) ≡ high' + 1) → IsAttained nodes noted n high → IsAttained nodes noted n high'
      attained (inl e) o = subst (IsAttained nodes noted n) (sym e) o
      attained (inr e) o = inr (c, here_is, e, omega (arith, e, done))

  -- no arc is left
  pub passed_all : (noted : ℕ → ℕ) (n place own high place' own' : ℕ) → IsPassing nodes noted (record { node = n; place = place; own = own; high = high }) →
      chain nodes.cells place ++ drop own (own_row nodes n) ≡ [] → chain nodes.cells place' ++ drop own' (own_row nodes n) ≡ [] → place' ≤ length nodes.cells →
      IsPassing nodes noted (record { node = n; place = place'; own = own'; high = high }) × IsTop nodes noted n high
  passed_all noted n place own high place' own' p none none' within = (
    record {
      place_in = within;
      left = λ c h. elim (subst (Has c) none' h) [ ];
      passed = λ c h. inr (lower c (p.passed c h));
      attained = p.attained;
    },
    record { lower = λ c h. lower c (p.passed c h); attained = p.attained },
  )
    where
      lower : (c : Cell) → Has c (chain nodes.cells place ++ drop own (own_row nodes n)) ⊎ IsLower noted (t.live c.to) high → IsLower noted (t.live c.to) high
      lower c (inl h) = elim (subst (Has c) none h) [ ]
      lower c (inr l) = l

  -- the next arc leads to a node that isn't done with
  pub next_is : (noted : ℕ → ℕ) (n place own high to : ℕ) (c : Cell) (rest : List Cell) → IsPassing nodes noted (record { node = n; place = place; own = own; high = high }) →
      chain nodes.cells place ++ drop own (own_row nodes n) ≡ c ∷ rest → to ≡ t.live c.to → to < nodes.size → noted to ≤ 1 → IsNext nodes noted n to
  next_is noted n place own high to c rest p split is within low = (c, p.left c (subst (Has c) (sym split) here), is, within, low)
