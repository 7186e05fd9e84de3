-- No mother over a late daughter comes early.
use Rattle.std.specs.Prelude.{◌≡◌, ℕ, ◌+◌, ◌<◌, ◌≤◌, ◌^◌, Option, Some, None, List, [], ◌∷◌, length, refl}
use Rattle.std.proofs.Common.{zero, suc, ap, subst, sym, ◌∙◌, arith, inl, inr, length-append}
use Rattle.std.proofs.lemmas.Bool.{cases_lt}
use Rattle.chart_model.specs.Calculus.{Calculus, Laws}
use Rattle.chart_model.specs.At.{At, here, there, to_get}
use Rattle.chart_model.specs.Chart.{Kind, OfLeaf, OfPartial, OfWhole, Row, Task, Chart, Leaf, Limits, before, daughters, daughters_of_row, covers_at, levels_at, level_above}
use Rattle.chart_model.specs.Classes.{Class, class_covers}
use Rattle.chart_model.specs.Limits.{AreProper}
use Rattle.chart_model.specs.Ordered.{IsFrom, GivesMother, LateDaughter, IsLate}
use Rattle.chart_model.proofs.Complete.{RowOk, partial_ok, Facts}
use Rattle.chart_model.proofs.Gather
use Rattle.chart_model.proofs.Pairing
use Rattle.chart_model.proofs.Steps.{Tuple_of, tuple_of, low_ds}
use Rattle.chart_model.proofs.Sizes.{at_contains, length-covers, member_proper, members_proper, daughter_size, level_bound}

pub from_size : (n l size level : ℕ) → IsFrom n l size level → n ≤ size
from_size n l size level (inl p) = omega arith
from_size n l size level (inr p) = omega (arith, p.0)

-- what is larger, or as large and at least as high, comes as late
pub from_up : (n l s v size level : ℕ) → IsFrom n l s v → s ≤ size → (size ≡ s → v ≤ level) → IsFrom n l size level
from_up n l s v size level (inl p) up high = inl (omega arith)
from_up n l s v size level (inr p) up high = elim (cases_lt s size) [ inl q ↦ inl (omega (arith, p.0)) | inr q ↦ let e : size ≡ s = omega arith in let h = high e in inr (omega (arith, p.0), omega (arith, p.1)) ]

module _ {M C : Type 0} where
  from_covers : (cs : List (Class M C)) (j : ℕ) (x : C) → At (class_covers cs) j x → (c : Class M C) × At cs j c × (c.cover ≡ x)
  from_covers [] j x a = elim a [ ]
  from_covers (c ∷ cs) zero x (here) = (c, here, refl)
  from_covers (c ∷ cs) (suc j) x (there a) = let r = from_covers cs j x a in (r.0, there r.1, r.2)

module _ {M C : Type 0} (k : Calculus M C) (limits : Limits) (leaves : List (Leaf M C)) where
  at_covers_of : (rows : List (Row M C)) (ds : List ℕ) (j d : ℕ) (row : Row M C) → ((j d : ℕ) → At ds j d → Pairing.LowHost k limits rows d) → At ds j d → At rows d row → At (covers_at rows ds) j row.cover
  at_covers_of rows [] j d row low a b = elim a [ ]
  at_covers_of rows (_ ∷ ds) zero d row low (here) b = rw (to_get b) here
  at_covers_of rows (x ∷ ds) (suc j) d row low (there a) b = rw (to_get (low 0 x here).at) (there (at_covers_of rows ds j d row (λ i e c. low (suc i) e (there c)) a b))

  module _ (laws : Laws k) (proper : AreProper k limits leaves) (ch : Chart M C) (facts : Facts k limits leaves ch) where
    abbrev pub AreLowHosts : List ℕ → Type 0
    AreLowHosts ds = (j d : ℕ) → At ds j d → Pairing.LowHost k limits ch.rows d

    tuple : (ds : List ℕ) → AreLowHosts ds → Tuple_of k limits leaves ch.rows ds
    tuple ds low = tuple_of k limits leaves ch.rows facts.members ds low

    -- the cover of a whole tuple may stand in a chart
    pub tuple_proper : (rule : ℕ) (ds : List ℕ) (c : C) → rule < k.rules → AreLowHosts ds → length ds ≡ k.arity rule → k.covers rule (covers_at ch.rows ds) ≡ Some c → k.proper c
    tuple_proper rule ds c r_ok low len cov =
        let t = tuple ds low in
        laws.proper_mother rule (class_covers t.classes) c (omega (arith, t.counted, len, length-covers t.classes, (laws.one_to_four rule r_ok).0)) (omega (arith, t.counted, len, length-covers t.classes)) (members_proper k limits leaves laws proper t.classes t.members) (rw t.covers at cov)

    -- a daughter's cover in a tuple of classes
    daughter_at : (ds : List ℕ) (low : AreLowHosts ds) (j d : ℕ) (row : Row M C) → At ds j d → At ch.rows d row → At (class_covers (tuple ds low).classes) j row.cover
    daughter_at ds low j d row a b = subst (λ cs. At cs j row.cover) (tuple ds low).covers (at_covers_of ch.rows ds j d row low a b)

    no_larger : (rule : ℕ) (ds : List ℕ) (c : C) → AreLowHosts ds → length ds ≡ k.arity rule → k.covers rule (covers_at ch.rows ds) ≡ Some c → (j d : ℕ) (row : Row M C) → At ds j d → At ch.rows d row → k.size row.cover ≤ k.size c
    no_larger rule ds c low len cov j d row a b =
        let t = tuple ds low in
        let f = from_covers t.classes j row.cover (daughter_at ds low j d row a b) in
        let l = daughter_size k limits leaves laws proper rule t.classes c (t.counted ∙ len) t.members (rw t.covers at cov) j f.0 f.1 in
        omega (arith, ap k.size f.2)

    smaller : (rule : ℕ) (ds : List ℕ) (c : C) → AreLowHosts ds → length ds ≡ k.arity rule → 1 < length ds → k.covers rule (covers_at ch.rows ds) ≡ Some c → (j d : ℕ) (row : Row M C) → At ds j d → At ch.rows d row → k.size row.cover < k.size c
    smaller rule ds c low len two cov j d row a b =
        let t = tuple ds low in
        laws.larger rule (class_covers t.classes) c row.cover (omega (arith, t.counted, length-covers t.classes)) (length-covers t.classes ∙ t.counted ∙ len) (members_proper k limits leaves laws proper t.classes t.members) (rw t.covers at cov) (at_contains (daughter_at ds low j d row a b))

    -- the mother of a whole tuple with a late daughter isn't early
    pub mother_late : (n l rule : ℕ) (ds : List ℕ) (c : C) → AreLowHosts ds → length ds ≡ k.arity rule → k.covers rule (covers_at ch.rows ds) ≡ Some c → LateDaughter k ch n l ds → IsFrom n l (k.size c) (level_above (levels_at ch.rows ds))
    mother_late n l rule [] c low len cov late = elim late.at [ ]
    mother_late n l rule (d ∷ e ∷ ds) c low len cov late =
        let s = smaller rule (d ∷ e ∷ ds) c low len (omega arith) cov late.place late.number late.row late.at late.row_at in
        let f = from_size n l (k.size late.row.cover) (late.row.level + 1) late.late in
        inl (omega arith)
    mother_late n l rule (d ∷ []) c low len cov late =
        let s = no_larger rule (d ∷ []) c low len cov late.place late.number late.row late.at late.row_at in
        let same : late.number ≡ d = only late.place late.number late.at in
        let level : level_above (levels_at ch.rows (d ∷ [])) ≡ late.row.level + 1 = rw (to_get (subst (λ i. At ch.rows i late.row) same late.row_at)) refl in
        from_up n l (k.size late.row.cover) (late.row.level + 1) (k.size c) (level_above (levels_at ch.rows (d ∷ []))) late.late s (λ q. omega (arith, level))
      where
        only : (i x : ℕ) → At (d ∷ []) i x → x ≡ d
        only zero x (here) = refl
        only (suc i) x (there a) = elim a [ ]

    pub low_task : (t : ℕ) (task : Task) → At ch.tasks t task → AreLowHosts (daughters ch.rows task)
    low_task t task a = low_ds k limits leaves laws leaves ch facts t task a

    -- a task with a late daughter is late
    pub late_by : (n l t : ℕ) (task : Task) → At ch.tasks t task → LateDaughter k ch n l (daughters ch.rows task) → IsLate k ch n l task
    late_by n l t task a late =
        record {
          mother = λ size level m.
              let f = mother_late n l task.rule (daughters ch.rows task) m.cover (low_task t task a) m.whole m.covers late in
              subst (λ v. IsFrom n l size v) (sym m.level_is) (subst (λ s. IsFrom n l s (level_above (levels_at ch.rows (daughters ch.rows task)))) (sym m.size_is) f);
          front = λ short. late;
        }

    -- a task that gives a mother from n and l on is late
    pub late_mother : (n l size level : ℕ) (task : Task) → GivesMother k ch task size level → IsFrom n l size level → IsLate k ch n l task
    late_mother n l size level task m from =
        record {
          mother = λ s v x.
              let c : x.cover ≡ m.cover = let p = x.covers in let q = m.covers in cc in
              let e : size ≡ s = m.size_is ∙ ap k.size (sym c) ∙ sym x.size_is in
              let f : level ≡ v = m.level_is ∙ sym x.level_is in
              subst (λ z. IsFrom n l s z) f (subst (λ z. IsFrom n l z level) e from);
          front = λ short. absurd (let w = m.whole in omega arith);
        }

    -- the host of a task is the last of its daughters
    pub host_at : (task : Task) → At (daughters ch.rows task) (length (before ch.rows task.partial)) task.host
    host_at task = subst (λ i. At (daughters ch.rows task) i task.host) (omega arith) (Gather.at_behind (before ch.rows task.partial) (task.host ∷ []) 0 task.host here)

    -- each task is late from the beginning on
    pub late_start : (l t : ℕ) (task : Task) → At ch.tasks t task → IsLate k ch 0 l task
    late_start l t task a =
        let low = low_task t task a (length (before ch.rows task.partial)) task.host (host_at task) in
        let size = laws.has_size low.row.cover (member_proper k limits leaves laws proper _ (facts.members task.host low.row low.m low.at low.shape)) in
        late_by 0 l t task a (record { place = length (before ch.rows task.partial); number = task.host; at = host_at task; row = low.row; row_at = low.at; late = inl size.0 })

    -- a task has one daughter to four, and no more than its rule
    pub task_short : (t : ℕ) (task : Task) → At ch.tasks t task → (0 < length (daughters ch.rows task)) × (length (daughters ch.rows task) ≤ k.arity task.rule) × (length (daughters ch.rows task) ≤ 4)
    task_short t task a = (omega (arith, length-append (before ch.rows task.partial) (task.host ∷ [])), short, omega (arith, (laws.one_to_four task.rule ok.rule).1, short))
      where
        ok : Pairing.TaskOk k limits ch.rows task
        ok = facts.pairing.task_ok t task a

        of_row : (row : Row M C) (kind : Kind) → row.kind ≡ kind → row.kind ≡ OfPartial task.rule → RowOk k limits leaves ch.rows row kind → length row.daughters < k.arity task.rule
        of_row row (OfLeaf name) e f o = absurd (cc)
        of_row row (OfWhole q) e f o = absurd (cc)
        of_row row (OfPartial q) e f (partial_ok _ q_ok small c none) = let z : q ≡ task.rule = cc in subst (λ x. length row.daughters < k.arity x) z small

        of_front : (p : Option ℕ) → Pairing.Front k limits ch.rows task.rule p → length (before ch.rows p) < k.arity task.rule
        of_front None f = (laws.one_to_four task.rule ok.rule).0
        of_front (Some q) (Pairing.front _ row at kind) = subst (λ xs. length xs < k.arity task.rule) (sym (ap daughters_of_row (to_get at))) (of_row row row.kind refl kind (facts.row_ok q row at))

        short : length (daughters ch.rows task) ≤ k.arity task.rule
        short = omega (arith, length-append (before ch.rows task.partial) (task.host ∷ []), of_front task.partial ok.front)

    -- the mother of a task has a size below 2^32, and a level of at most one above the limit
    pub mother_bounds : (t : ℕ) (task : Task) (size level : ℕ) → At ch.tasks t task → GivesMother k ch task size level → (0 < size) × (size < 2 ^ 32) × (level ≤ limits.unary + 1)
    mother_bounds t task size level a m =
        let low = low_task t task a in
        let s = laws.has_size m.cover (tuple_proper task.rule (daughters ch.rows task) m.cover (facts.pairing.task_ok t task a).rule low m.whole m.covers) in
        let u = tuple (daughters ch.rows task) low in
        let v = level_bound k limits leaves u.classes u.members in
        (let z = s.0 in omega (arith, m.size_is), let z = s.1 in omega (arith, m.size_is), omega (arith, m.level_is, u.levels, v))
