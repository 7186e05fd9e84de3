-- What was counted of hosts, and summed over them.
use Rattle.std.specs.Prelude.{◌≡◌, ℕ, ◌<◌, ◌≤◌, ◌+◌, All, Option, Some, List, [], ◌∷◌, length, map, slice_get, slice_set, refl}
use Rattle.std.proofs.Common.{Vec, Global, ap, subst, sym, ◌∙◌, arith, drop, get_or, zero, suc}
use Rattle.std.proofs.lemmas.List.{drop_more}
use Rattle.std.proofs.lemmas.List.Elements.{All-head, All-tail, All-nil}
use Rattle.chart_model.specs.Calculus.{Calculus}
use Rattle.chart_model.specs.Chart as chart
use Rattle.chart_model.specs.Finished.{IsComplete}
use Rattle.chart_core.specs.declared.Row.{Row}
use Rattle.tree_model.specs.Counts as counts
use Rattle.tree_model.proofs.Tallies.{Tallied, tallied_none}
use Rattle.tree_model.proofs.Hosts.{host_counted}
use Rattle.tree_model.proofs.Summed.{sums_are}
use Rattle.tree_model.specs.Forest.{AreApart}
use Rattle.tree_model.specs.Readings.{Wholes, AreMoreThan}
use Rattle.tree_model.specs.Lists as model
use Rattle.tree_model.proofs.Ordered.{contains_has}
use Rattle.forest_unpack.specs.declared.collecting.Wanted.{Wanted}
use Rattle.forest_unpack.specs.declared.rows.GroupRow.{GroupRow}
use Rattle.forest_unpack.specs.declared.tallies.Class.{Class}
use Rattle.forest_unpack.specs.Groups.{IsTold}
use Rattle.forest_unpack.specs.Keeping.{Asked, asked_of, cover_in, host_in}
use Rattle.forest_unpack.specs.Plans.{Fits, IsPlan, row_of}
use Rattle.forest_unpack.specs.Skeletons.{IsSkeleton}
use Rattle.forest_unpack.specs.Inner.Classes.{AreAllCounted, AreFit, AreToldGroups, IsCounting, IsFit, classes_at, classes_of, list_of, listed}
use Rattle.forest_unpack.specs.Inner.Memos.{IsReachedItem}
use Rattle.forest_unpack.proofs.Arranging.{arranged}
use Rattle.forest_unpack.proofs.Filling.{has_mapped}

-- what stands from the ith on
dropped : {A : Type 0} (xs : List A) (i : ℕ) (x : A) → i < length xs → x ≡ get_or xs i x → drop i xs ≡ x ∷ drop (i + 1) xs
dropped xs i x low at = drop_more xs i x low ∙ ap (λ z. z ∷ drop (i + 1) xs) (sym at)

-- so it is at each place where one place was set
set_each : {A : Type 0} (P : ℕ → Option A → Type 0) (xs : List A) (n : ℕ) (x : A) → P n (Some x) → ((h : ℕ) → P h (slice_get xs h)) → (h : ℕ) → P h (slice_get (slice_set xs n x) h)
set_each P [] n x p all h = all h
set_each P (y ∷ ys) zero x p all zero = p
set_each P (y ∷ ys) zero x p all (suc h) = all (suc h)
set_each P (y ∷ ys) (suc n) x p all zero = all zero
set_each P (y ∷ ys) (suc n) x p all (suc h) = set_each (λ k o. P (suc k) o) ys n x p (λ k. all (suc k)) h

-- a row of what is told of a group
pub group_fits : {X T C W B : Type 0} (named : ℕ → Type 0) (ruled : ℕ → ℕ → Type 0) (made : List (Row X T C W B)) (last before : List (Option ℕ)) (ranks : List ℕ) → IsPlan named ruled made last before ranks → (host : ℕ) (group : List GroupRow) → IsTold made host (map row_of group) → (i : ℕ) (row : GroupRow) → i < length group → row ≡ get_or group i row → Fits named ruled (length made) ranks host (row_of row)
group_fits named ruled made last before ranks plan host group told i row low at = plan.fits host (map row_of group) told (row_of row) (has_mapped row_of group i row low at)

-- of one class, and of others
one_more : {C V : Type 0} (w : Wholes V C) (c : C) {d : counts.Class V} {cs : List (counts.Class V)} {n m : ℕ} → counts.Accepts w c (d ∷ []) n → counts.Accepts w c cs m → counts.Accepts w c (d ∷ cs) (n + m)
one_more w c {d = d} {cs = cs} {m = m} counts.accepts_none a = let e : m ≡ 0 + m = omega arith in subst (counts.Accepts w c (d ∷ cs)) e (counts.accepts_less a)
one_more w c {d = d} {cs = cs} {m = m} (counts.accepts_less counts.accepts_none) a = let e : m ≡ 0 + m = omega arith in subst (counts.Accepts w c (d ∷ cs)) e (counts.accepts_less a)
one_more w c {d = d} {cs = cs} {m = m} (counts.accepts_more ok counts.accepts_none) a = let e : d.times + m ≡ d.times + 0 + m = omega arith in subst (counts.Accepts w c (d ∷ cs)) e (counts.accepts_more ok a)

pub one_asked : {C V : Type 0} (w : Wholes V C) (c : C) (d : counts.Class V) → w.accepted d.full c → counts.Accepts w c (d ∷ []) d.times
one_asked w c d ok = let e : d.times + 0 ≡ d.times = omega arith in subst (counts.Accepts w c (d ∷ [])) e (counts.accepts_more ok counts.accepts_none)

empty : {X T C W : Type 0} (table : List (Vec (Class X T C W) Global)) → All (λ (v : Vec (Class X T C W) Global). v.items ≡ []) table → (h : ℕ) → listed table h ≡ []
empty [] none h = refl
empty (x ∷ xs) none zero = All-head (λ v. v.items ≡ []) x xs none
empty (x ∷ xs) none (suc h) = empty xs (All-tail (λ v. v.items ≡ []) x xs none) h

module _ {X T C W V : Type 0} (value : T → V) (w : Wholes V C) where
  -- what the rows from the ith on give completes what was counted so far
  abbrev pub RowsOf : (ℕ → List (counts.Class V)) → List GroupRow → ℕ → List (Class X T C W) → Type 0
  RowsOf table group i now = (last : List (counts.Class V)) → counts.CountsRows w table (map row_of (drop i group)) (classes_of value now) last → counts.CountsRows w table (map row_of group) [] last

  pub rows_none : (table : ℕ → List (counts.Class V)) (group : List GroupRow) (made : List (Class X T C W)) → made ≡ [] → RowsOf table group 0 made
  rows_none table group made none last more = subst (λ zs. counts.CountsRows w table (map row_of group) (classes_of value zs) last) none more

  pub rows_next : (table : ℕ → List (counts.Class V)) (group : List GroupRow) (i : ℕ) (row : GroupRow) (now new : List (Class X T C W)) → i < length group → row ≡ get_or group i row → counts.CountsRow w table (row_of row) (classes_of value now) (classes_of value new) → RowsOf table group i now → RowsOf table group (i + 1) new
  rows_next table group i row now new low at one before last more =
      before last (subst (λ zs. counts.CountsRows w table (map row_of zs) (classes_of value now) last) (sym (dropped group i row low at)) (counts.rows_more one more))

  pub rows_over : {Y S D U B : Type 0} (made : List (Row Y S D U B)) (table : List (Vec (Class X T C W) Global)) (host : ℕ) (group : List GroupRow) (i : ℕ) (now : List (Class X T C W)) → IsTold made host (map row_of group) → RowsOf (classes_at value table) group i now → IsCounting value w made table host now
  rows_over made table host group i now told before = record { told = map row_of group; is = told; counted = before (classes_of value now) counts.rows_stop }

  module _ (named : ℕ → Type 0) where
    -- one more host's classes
    pub set_fit : (known : List V) (table after : List (Vec (Class X T C W) Global)) (host : ℕ) (made : Vec (Class X T C W) Global) → after ≡ slice_set table host made → AreFit value w named known table → All (IsFit value w named known) made.items → AreFit value w named known after
    set_fit known table after host made is fit all =
        subst (AreFit value w named known) (sym is) (set_each (λ h o. All (IsFit value w named known) (list_of o)) table host made all fit)

    pub class_reached : (known : List V) (classes : List (Class X T C W)) (i : ℕ) (class : Class X T C W) → All (IsFit value w named known) classes → i < length classes → class ≡ get_or classes i class → IsReachedItem value w named class.item
    class_reached known classes i class all low at = (subst (IsFit value w named known) (sym at) (all i class low)).1

    pub none_fit : (known : List V) (made : List (Class X T C W)) → made ≡ [] → All (IsFit value w named known) made
    none_fit known made none = subst (All (IsFit value w named known)) (sym none) (All-nil (IsFit value w named known))

    -- no classes yet
    pub empty_fit : (known : List V) (table : List (Vec (Class X T C W) Global)) → All (λ (v : Vec (Class X T C W) Global). v.items ≡ []) table → AreFit value w named known table
    empty_fit known table none h = subst (All (IsFit value w named known)) (sym (empty table none h)) (All-nil (IsFit value w named known))

  module _ {M : Type 0} (leaves : List (chart.Leaf M C)) (ch : chart.Chart M C) where
    pub empty_counted : (table : List (Vec (Class X T C W) Global)) → All (λ (v : Vec (Class X T C W) Global). v.items ≡ []) table → AreAllCounted value w leaves ch table
    empty_counted table none h = subst (λ cs. Tallied cs (model.IsIn w leaves ch h)) (sym (ap (classes_of value) (empty table none h))) (tallied_none (model.IsIn w leaves ch h))

  module _ {M : Type 0} (k : Calculus M C) (limits : chart.Limits) (leaves : List (chart.Leaf M C)) (ch : chart.Chart M C) (complete : IsComplete k limits leaves ch) (apart : AreApart k w leaves) where
    -- one more host was counted
    pub set_counted : {Y S U B : Type 0} (rows : List (Row Y S C U B)) → AreToldGroups leaves ch rows → (table seen after : List (Vec (Class X T C W) Global)) (host : ℕ) (made : Vec (Class X T C W) Global) → seen ≡ table → after ≡ slice_set table host made → IsCounting value w rows seen host made.items → AreAllCounted value w leaves ch table → AreAllCounted value w leaves ch after
    set_counted rows told table seen after host made same is c counted =
        let here = subst (λ t. counts.CountsRows w (classes_at value t) c.told [] (classes_of value made.items)) same c.counted in
        let one : Tallied (classes_of value made.items) (model.IsIn w leaves ch host) = host_counted k w limits leaves ch complete apart (classes_at value table) counted host c.told (classes_of value made.items) (told host c.told c.is) here in
        subst (AreAllCounted value w leaves ch) (sym is) (set_each (λ h o. Tallied (classes_of value (list_of o)) (model.IsIn w leaves ch h)) table host made one counted)

    -- more trees are asked for than a number
    pub more_are : {Y S U B : Type 0} (rows : List (Row Y S C U B)) (ranks : List ℕ) (asked : List (Asked C)) → IsSkeleton w leaves ch rows ranks asked → (table : List (Vec (Class X T C W) Global)) → AreAllCounted value w leaves ch table → (sum max : ℕ) → counts.Sums w host_in cover_in (classes_at value table) asked 0 sum → max < sum → AreMoreThan k w limits leaves max
    more_are rows ranks asked skeleton table counted sum max sums many =
        let s = sums_are k w limits leaves ch complete apart host_in cover_in (classes_at value table) counted sums skeleton.hosts.differ (λ a h. let r = skeleton.rows a h in record { row = r.row; at = r.at; is = r.cover }) in
        let r = arranged s.some s.differ in
        record {
          some = r.all;
          many = omega (arith, many, s.many, r.count);
          each = λ t c. s.each t (r.each t (contains_has r.all t c));
          in_order = r.rises;
        }

  module _ (c : C) (classes : List (Class X T C W)) where
    -- what is asked for of the classes from the ith on completes the sum so far
    abbrev pub SumOf : ℕ → ℕ → Type 0
    SumOf i sum = (k : ℕ) × (sum ≤ k) × ((m : ℕ) → counts.Accepts w c (classes_of value (drop i classes)) m → counts.Accepts w c (classes_of value classes) (k + m))

    pub sum_none : SumOf 0 0
    sum_none = (0, omega arith, λ m a. let e : m ≡ 0 + m = omega arith in subst (counts.Accepts w c (classes_of value classes)) e a)

    pub sum_more : (i sum new : ℕ) (class : Class X T C W) (more : ℕ) → i < length classes → class ≡ get_or classes i class → counts.Accepts w c (classes_of value (class ∷ [])) more → new ≤ sum + more → SumOf i sum → SumOf (i + 1) new
    sum_more i sum new class more low at one few s = (s.0 + more, (let n = s.1 in omega (arith, few, n)), λ m a. next m a)
      where
        next : (m : ℕ) → counts.Accepts w c (classes_of value (drop (i + 1) classes)) m → counts.Accepts w c (classes_of value classes) (s.0 + more + m)
        next m a =
            let e : s.0 + (more + m) ≡ s.0 + more + m = omega arith in
            subst (counts.Accepts w c (classes_of value classes)) e (s.2 (more + m) (subst (λ zs. counts.Accepts w c (classes_of value zs) (more + m)) (sym (dropped classes i class low at)) (one_more w c one a)))

    pub sum_over : (i sum : ℕ) → SumOf i sum → (n : ℕ) × (sum ≤ n) × counts.Accepts w c (classes_of value classes) n
    sum_over i sum s = (s.0 + 0, (let n = s.1 in omega (arith, n)), s.2 0 counts.accepts_none)

  module _ (table : List (Vec (Class X T C W) Global)) (wanted : List (Wanted X T C W)) where
    -- what is asked for of the hosts from the ith on completes the sum so far
    abbrev pub SumsOf : ℕ → ℕ → Type 0
    SumsOf i sum = (last : ℕ) → counts.Sums w host_in cover_in (classes_at value table) (map asked_of (drop i wanted)) sum last → counts.Sums w host_in cover_in (classes_at value table) (map asked_of wanted) 0 last

    pub sums_none : SumsOf 0 0
    sums_none last more = more

    pub sums_next : (i sum new : ℕ) (want : Wanted X T C W) (m : ℕ) → i < length wanted → want ≡ get_or wanted i want → counts.Accepts w want.cover.now (classes_at value table want.host) m → new ≤ sum + m → SumsOf i sum → SumsOf (i + 1) new
    sums_next i sum new want m low at accepts few before last more =
        before last (subst (λ zs. counts.Sums w host_in cover_in (classes_at value table) (map asked_of zs) sum last) (sym (dropped wanted i want low at)) (counts.sums_more accepts few more))

    -- a host's classes
    pub sums_more : (i sum new : ℕ) (want : Wanted X T C W) (classes : List (Class X T C W)) (more : ℕ) → i < length wanted → want ≡ get_or wanted i want → classes ≡ listed table want.host → ((n : ℕ) × (more ≤ n) × counts.Accepts w want.cover.now (classes_of value classes) n) → new ≤ sum + more → SumsOf i sum → SumsOf (i + 1) new
    sums_more i sum new want classes more low at same accepts few before =
        let n = accepts.1 in
        sums_next i sum new want accepts.0 low at (subst (λ cs. counts.Accepts w want.cover.now (classes_of value cs) accepts.0) same accepts.2) (omega (arith, few, n)) before

    pub sums_over : (i sum : ℕ) → SumsOf i sum → counts.Sums w host_in cover_in (classes_at value table) (map asked_of wanted) 0 sum
    sums_over i sum before = before sum counts.sums_stop
