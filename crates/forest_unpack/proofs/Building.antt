-- A skeleton and a plan, from the rows of a finished chart.
use Rattle.std.specs.Prelude.{◌≡◌, ℕ, ◌+◌, ◌*◌, ◌<◌, ◌≤◌, true, is_some, option_map, Option, Some, None, List, [], ◌∷◌, length, map, refl}
use Rattle.std.proofs.Common.{get_or, ap, subst, sym, ◌∙◌, arith, zero, suc}
use Rattle.chart_model.specs.Calculus.{Calculus, Laws, Along, along_none, along_more}
use Rattle.chart_model.specs.At.{At, here, there, at_one, at_below}
use Rattle.chart_model.specs.Chart as chart
use Rattle.chart_model.specs.Chart.{OfWhole, is_free, all_free}
use Rattle.chart_model.specs.Finished.{IsComplete}
use Rattle.chart_model.specs.Grown.{LeadsTo}
use Rattle.chart_model.proofs.Gather.{free_at, at_free}
use Rattle.chart_model.proofs.Trees.{leads_one}
use Rattle.chart_core.specs.declared.Row.{Row}
use Rattle.chart_core.specs.declared.RowId.{RowId}
use Rattle.chart_core.specs.View.{into_of, row_of, rows_of, number_of}
use Rattle.tree_model.specs.Readings.{Wholes}
use Rattle.tree_model.specs.Lists as model
use Rattle.tree_model.proofs.Members.{has_map}
use Rattle.forest_unpack.specs.Plans.{rank_at, AreLower, Fits, IsPlan}
use Rattle.forest_unpack.specs.Keeping.{Asked}
use Rattle.forest_unpack.specs.Ranks.{rank_in, rank_by}
use Rattle.forest_unpack.specs.Groups.{IsTold}
use Rattle.forest_unpack.specs.Inner.Members.{AreMembers}
use Rattle.forest_unpack.specs.Asking.{AreAsked}
use Rattle.forest_unpack.specs.Skeletons.{hosts_in, HasRow, IsSkeleton}
use Rattle.forest_unpack.proofs.Telling.{at_mapped, row_at, source_at, told_group}
use Rattle.forest_unpack.proofs.Grounding.{rank_of, falls}
use Rattle.forest_unpack.proofs.Filling.{length_map}

module _ {A B : Type 0} (R : A → B → Type 0) where
  pub record Behind (xs : List A) (y : B) : Type 0 where
    pub source : A
    pub has : model.Has source xs
    pub related : R source y

  behind_there : {x : A} {xs : List A} {y : B} → Behind xs y → Behind (x ∷ xs) y
  behind_there b = record { source = b.source; has = model.has_there b.has; related = b.related }

  -- what stands on the right has one on the left
  along_has : {xs : List A} {ys : List B} {y : B} → Along R xs ys → model.Has y ys → Behind xs y
  along_has along_none h = elim h [ ]
  along_has (along_more {x = x} r rest) model.has_here = record { source = x; has = model.has_here; related = r }
  along_has (along_more r rest) (model.has_there h) = behind_there (along_has rest h)

has_at : {A : Type 0} {x : A} {xs : List A} → model.Has x xs → (j : ℕ) × At xs j x
has_at model.has_here = (zero, here)
has_at (model.has_there h) = let r = has_at h in (suc r.0, there r.1)

pub has_index : {A : Type 0} (xs : List A) (i : ℕ) (d : A) → i < length xs → model.Has (get_or xs i d) xs
has_index [] i d low = absurd (omega (arith, low))
has_index (x ∷ xs) zero d low = model.has_here
has_index (x ∷ xs) (suc i) d low = model.has_there (has_index xs i d (omega (arith, low)))

-- the default doesn't matter
same_below : {A : Type 0} (zs : List A) (n : ℕ) (a b : A) → n < length zs → get_or zs n a ≡ get_or zs n b
same_below [] n a b low = absurd (omega (arith, low))
same_below (z ∷ zs) zero a b low = refl
same_below (z ∷ zs) (suc n) a b low = same_below zs n a b (omega (arith, low))

pub index_same : {A : Type 0} (xs : List A) (j : ℕ) (x : A) → j < length xs → get_or xs j x ≡ get_or xs j (get_or xs j x)
index_same xs j x low = same_below xs j x (get_or xs j x) low

at_get_or : {A : Type 0} {xs : List A} {i : ℕ} {x : A} (d : A) → At xs i x → get_or xs i d ≡ x
at_get_or d here = refl
at_get_or d (there a) = at_get_or d a

module _ {M C : Type 0} (leaves : List (chart.Leaf M C)) (ch : chart.Chart M C) where
  -- a whole row that is described
  pub record WholeAt (i rule : ℕ) (ds : List ℕ) : Type 0 where
    pub row : chart.Row M C
    pub at : At ch.rows i row
    pub kind : row.kind ≡ OfWhole rule
    pub live : all_free ch.into row.daughters ≡ true
    pub daughters : row.daughters ≡ ds

  whole_at : (i : ℕ) (g : model.GroupRow) (rule : ℕ) (ds : List ℕ) → model.Describes leaves ch i g → g ≡ model.a_whole rule ds → WholeAt i rule ds
  whole_at i _ rule ds (model.describes_leaf l leaf at) e = absurd (cc)
  whole_at i _ rule ds (model.describes_whole j q row at kind live) e =
      let same : q ≡ rule = cc in
      let daughters : row.daughters ≡ ds = cc in
      record { row = row; at = at; kind = kind ∙ ap OfWhole same; live = live; daughters = daughters }

  pub record LeafAt (i name : ℕ) : Type 0 where
    pub leaf : chart.Leaf M C
    pub at : At leaves i leaf
    pub name_is : leaf.name ≡ name

  leaf_at : (i : ℕ) (g : model.GroupRow) (name : ℕ) → model.Describes leaves ch i g → g ≡ model.a_leaf name → LeafAt i name
  leaf_at i _ name (model.describes_leaf l leaf at) e = record { leaf = leaf; at = at; name_is = cc }
  leaf_at i _ name (model.describes_whole j q row at kind live) e = absurd (cc)

is_none_number : (o : Option RowId) → number_of o ≡ None → o ≡ None
is_none_number None e = refl
is_none_number (Some id) e = absurd (cc)

module _ {X T C W B M V : Type 0} (k : Calculus M C) (laws : Laws k) (limits : chart.Limits) (narrow : limits.unary ≤ 32) (leaves : List (chart.Leaf M C)) (meaning : T → M)
    (rows : List (Row X T C W B)) (ch : chart.Chart M C) (rows_are : ch.rows ≡ rows_of meaning rows) (into_is : ch.into ≡ into_of rows) (complete : IsComplete k limits leaves ch)
    (proper : (i : ℕ) (row : chart.Row M C) (m : M) → At ch.rows i row → row.shape ≡ Some m → k.proper row.cover)
    (w : Wholes V C) (extent : C → ℕ) (sizes : (c : C) → k.size c ≡ extent c)
    (ranks : List ℕ) (ranks_are : ranks ≡ map (rank_by extent) rows)
    (asked : List (Asked C)) (asked_are : AreAsked w rows (length rows) asked) where
  told : (h : ℕ) (ts : List model.GroupRow) → IsTold rows h ts → model.IsToldGroup leaves ch h ts
  told h ts is = told_group k limits leaves meaning rows ch rows_are into_is complete h ts is

  rank_shape : (o : Option T) (m : M) (n l : ℕ) → option_map meaning o ≡ Some m → rank_in o n l ≡ n * 64 + l
  rank_shape None m n l e = absurd (cc)
  rank_shape (Some t) m n l e = refl

  -- the rank of a row with a shape
  ranked : (j : ℕ) (row : chart.Row M C) (m : M) → At ch.rows j row → row.shape ≡ Some m → rank_at ranks j ≡ rank_of k laws limits narrow leaves ch complete proper row
  ranked j row m at shape =
      let s = source_at k limits leaves meaning rows ch rows_are into_is complete at in
      let of_row = rank_shape s.source.shape m (extent s.source.cover) s.source.level (ap (λ (r : chart.Row M C). r.shape) s.is ∙ shape) in
      ap (λ rs. rank_at rs j) ranks_are ∙ at_get_or 0 (at_mapped (rank_by extent) s.at) ∙ of_row
      ∙ ap (λ n. n * 64 + s.source.level) (sym (sizes s.source.cover))
      ∙ ap (λ (r : chart.Row M C). k.size r.cover * 64 + r.level) s.is

  -- a daughter of a row of a group has a lower rank than its host
  drops : (h i rule d : ℕ) (ds : List ℕ) → WholeAt leaves ch i rule ds → LeadsTo ch.into i h → model.Has d ds → (rank_at ranks d < rank_at ranks h) × (d < length rows)
  drops h i rule d ds r leads has =
      let hd = subst (model.Has d) (sym r.daughters) has in
      let whole = complete.tuples.no_other i rule r.row r.at r.kind r.live in
      let place = has_at hd in
      let down = whole.low.hosts place.0 d place.1 in
      let o = complete.tuples.one_row rule r.row.daughters whole in
      let same : r.row ≡ o.row = at_one (subst (λ z. At ch.rows z r.row) (o.once i r.row r.at r.kind refl) r.at) o.at in
      let last = complete.reps i r.row o.is.shape r.at (ap (λ (q : chart.Row M C). q.shape) same ∙ o.is.shape_is) in
      let e : last.end ≡ h = leads_one last.leads leads in
      let host_at : At ch.rows h last.host = subst (λ n. At ch.rows n last.host) e last.at in
      let under = falls k laws limits narrow leaves ch complete proper i h d rule r.row last.host down.0 r.at r.kind r.live leads host_at hd down.2 in
      let a = ranked d down.0 down.1 down.2 down.3 in
      let b = ranked h last.host last.shape host_at last.shape_is in
      let inside = at_below down.2 in
      (omega (arith, under, a, b), omega (arith, inside, ap length rows_are, length_map (row_of meaning) rows))

  grounded : (h : ℕ) (ts : List model.GroupRow) → IsTold rows h ts → (row : model.GroupRow) (rule : ℕ) (ds : List ℕ) (d : ℕ) → model.Has row ts → row ≡ model.a_whole rule ds → model.Has d ds → rank_at ranks d < rank_at ranks h
  grounded h ts of row rule ds d has is hd =
      let t = told h ts of in
      let b = along_has (model.Describes leaves ch) t.told_of has in
      (drops h b.source rule d ds (whole_at leaves ch b.source row rule ds b.related is) (t.are.each b.source b.has) hd).0

  host_row : (a : Asked C) → model.Has a asked → HasRow ch a
  host_row a has =
      let live = (asked_are.each a has).1 in
      record { row = row_of meaning live.row; at = row_at k limits leaves meaning rows ch rows_are into_is complete live.at; cover = live.cover }

  host_free : (h : ℕ) → model.Has h (hosts_in asked) → is_free ch.into h ≡ true
  host_free h has =
      let a = has_map (λ (b : Asked C). b.host) asked has in
      let live = (asked_are.each a.source a.has).1 in
      let at : At (into_of rows) a.source.host (number_of live.row.into) = at_mapped (λ (row : Row X T C W B). number_of row.into) live.at in
      let none : At (into_of rows) a.source.host None = subst (λ o. At (into_of rows) a.source.host o) (ap number_of live.into) at in
      subst (λ n. is_free ch.into n ≡ true) a.is (subst (λ into. is_free into a.source.host ≡ true) (sym into_is) (at_free (into_of rows) a.source.host none))

  some_shape : (o : Option T) (m : M) → option_map meaning o ≡ Some m → is_some o ≡ true
  some_shape None m e = absurd (cc)
  some_shape (Some t) m e = refl

  host_there : (h : ℕ) (row : chart.Row M C) (m : M) (v : V) → At ch.rows h row → row.shape ≡ Some m → is_free ch.into h ≡ true → w.accepted v row.cover → model.Has h (hosts_in asked)
  host_there h row m v at shape free ok =
      let s = source_at k limits leaves meaning rows ch rows_are into_is complete at in
      let none : At (into_of rows) h None = free_at (into_of rows) h (subst (λ into. is_free into h ≡ true) into_is free) in
      let same : number_of s.source.into ≡ None = at_one (at_mapped (λ (r : Row X T C W B). number_of r.into) s.at) none in
      asked_are.all h row.cover v (at_below s.at)
      (record { row = s.source; at = s.at; shape = some_shape s.source.shape m (ap (λ (r : chart.Row M C). r.shape) s.is ∙ shape); into = is_none_number s.source.into same; cover = ap (λ (r : chart.Row M C). r.cover) s.is }) ok

  pub skeleton : IsSkeleton w leaves ch rows ranks asked
  skeleton =
      record {
        told = told;
        grounded = grounded;
        rows = host_row;
        hosts = record { each = host_free; all = host_there; differ = asked_are.differ };
      }

  module _ (named : ℕ → Type 0) (ruled : ℕ → ℕ → Type 0) (names : (l : ℕ) (leaf : chart.Leaf M C) → At leaves l leaf → named leaf.name) (rules : (rule : ℕ) → rule < k.rules → ruled rule (k.arity rule)) where
    lowers : (h i rule : ℕ) (all : List ℕ) → WholeAt leaves ch i rule all → LeadsTo ch.into i h → (ds : List ℕ) → ((d : ℕ) → model.Has d ds → model.Has d all) → AreLower (length rows) ranks h ds
    lowers h i rule all r leads [] within = tt
    lowers h i rule all r leads (d ∷ ds) within =
        let one = drops h i rule d all r leads (within d model.has_here) in
        (one.1, one.0, lowers h i rule all r leads ds (λ e has. within e (model.has_there has)))

    fits : (h i : ℕ) (row : model.GroupRow) → model.Describes leaves ch i row → LeadsTo ch.into i h → Fits named ruled (length rows) ranks h row
    fits h i (model.a_leaf name) is leads =
        let r = leaf_at leaves ch i (model.a_leaf name) name is refl in
        subst named r.name_is (names i r.leaf r.at)
    fits h i (model.a_whole rule ds) is leads =
        let r = whole_at leaves ch i (model.a_whole rule ds) rule ds is refl in
        let whole = complete.tuples.no_other i rule r.row r.at r.kind r.live in
        let count : length ds ≡ k.arity rule = ap length (sym r.daughters) ∙ whole.whole in
        let four = (laws.one_to_four rule whole.rule_is).1 in
        (subst (ruled rule) (sym count) (rules rule whole.rule_is), omega (arith, count, four), lowers h i rule ds r leads ds (λ d has. has))

    pub plan : (last before : List (Option ℕ)) → AreMembers rows (length rows) last before → IsPlan named ruled rows last before ranks
    plan last before are =
        record {
          members = are;
          fits = λ h ts is row has.
              let t = told h ts is in
              let b = along_has (model.Describes leaves ch) t.told_of has in
              fits h b.source row b.related (t.are.each b.source b.has);
        }
