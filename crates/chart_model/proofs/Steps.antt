-- Each step keeps the five facts.
use Rattle.std.specs.Prelude.{◌≡◌, ℕ, ◌+◌, ◌<◌, Bool, true, false, Option, Some, None, List, [], ◌∷◌, ◌++◌, length, map, refl, slice_get, slice_set, nat_le, if◌then◌else◌}
use Rattle.std.proofs.Common.{zero, suc, ap, subst, sym, ◌∙◌, arith, length-append, append_assoc, append-nil, inl, inr, leb-true, le-leb}
use Rattle.std.proofs.lemmas.List.{length-set}
use Rattle.chart_model.specs.Calculus.{Calculus, Laws}
use Rattle.chart_model.specs.Chart.{Kind, OfLeaf, OfPartial, OfWhole, Row, Task, Chart, Leaf, Limits, with_done, with_outcome, Fits, Makes, Fails, Outcome, tasks_of_partial, tasks_of_host, peer_over, whole_row, has_peer, frosted, rule_tasks, gather, host_task, with_host, with_frost, step, leaf_row, opened, empty, Replay, with_whole, Entry, IsRight, replayed, daughters, before, daughters_of_row, all_free, covers_at, shapes_at, levels_at, level_above}
use Rattle.chart_model.specs.Below.{Follows, IsRun}
use Rattle.chart_model.specs.Classes.{Class, Member, of_leaf, of_rule, Members, no_members, more_members, class_covers, class_shapes, class_level}
use Rattle.chart_model.proofs.Complete.{RowOk, leaf_ok, partial_ok, whole_ok, HasRow, Answer, has_row, no_cover, none_applies, LeafRow, FactsOf, rule_of}
use Rattle.chart_model.specs.At.{At, here, there, at_below, at_one, at_append, at_last, to_get, from_get, at_found, Snoc, old, new, at_snoc}
use Rattle.chart_model.proofs.Standing
use Rattle.chart_model.proofs.Gather
use Rattle.chart_model.proofs.Gather.{left, right}
use Rattle.chart_model.proofs.Pairing

module _ {A : Type 0} where
  pub get_more : (xs ys : List A) (i : ℕ) → i < length xs → slice_get (xs ++ ys) i ≡ slice_get xs i
  get_more xs ys i l = let x = at_found xs i l in to_get (at_append ys x.1) ∙ sym (to_get x.1)

  pub set_at : (xs : List A) (t s : ℕ) (v x : A) → At (slice_set xs t v) s x → Gather.Either (At xs s x) ((s ≡ t) × (v ≡ x))
  set_at [] t s v x a = Gather.left a
  set_at (y ∷ xs) zero zero v x (here) = Gather.right (refl, refl)
  set_at (y ∷ xs) zero (suc s) v x (there a) = Gather.left (there a)
  set_at (y ∷ xs) (suc t) zero v x (here) = Gather.left here
  set_at (y ∷ xs) (suc t) (suc s) v x (there a) = elim (set_at xs t s v x a) [ left b ↦ Gather.left (there b) | right b ↦ Gather.right (ap suc b.0, b.1) ]

pub at_single : {A : Type 0} (x : A) (i : ℕ) (y : A) → At (x ∷ []) i y → x ≡ y
at_single x zero y (here) = refl
at_single x (suc i) y (there b) = elim b [ ]

no_place : (added : List Task) (s p : ℕ) → At (map (λ _. None) added) s (Some p) → ⊥
no_place [] s p a = elim a [ ]
no_place (t ∷ added) zero p a = elim a [ ]
no_place (t ∷ added) (suc s) p (there a) = no_place added s p a

module _ {M C : Type 0} (rows more : List (Row M C)) where
  pub covers-more : (ds : List ℕ) → ((j d : ℕ) → At ds j d → d < length rows) → covers_at (rows ++ more) ds ≡ covers_at rows ds
  covers-more [] h = refl
  covers-more (d ∷ ds) h = rw (get_more rows more d (h 0 d here), covers-more ds (λ j e a. h (suc j) e (there a))) refl

  shapes-more : (ds : List ℕ) → ((j d : ℕ) → At ds j d → d < length rows) → shapes_at (rows ++ more) ds ≡ shapes_at rows ds
  shapes-more [] h = refl
  shapes-more (d ∷ ds) h = rw (get_more rows more d (h 0 d here), shapes-more ds (λ j e a. h (suc j) e (there a))) refl

module _ {M C : Type 0} (k : Calculus M C) (limits : Limits) (leaves : List (Leaf M C)) where
  pub levels-more : (rows more : List (Row M C)) (ds : List ℕ) → ((j d : ℕ) → At ds j d → d < length rows) → levels_at (rows ++ more) ds ≡ levels_at rows ds
  levels-more rows more [] h = refl
  levels-more rows more (d ∷ ds) h = rw (get_more rows more d (h 0 d here), levels-more rows more ds (λ j e a. h (suc j) e (there a))) refl

  row_ok_more : (rows more : List (Row M C)) (row : Row M C) → ((j d : ℕ) → At row.daughters j d → d < length rows) → (kind : Kind) → RowOk k limits leaves rows row kind → RowOk k limits leaves (rows ++ more) row kind
  row_ok_more rows more row h kind (leaf_ok name l leaf c) = leaf_ok name l leaf c
  row_ok_more rows more row h kind (partial_ok rule r short c n) = partial_ok rule r short (rw (covers-more rows more row.daughters h) c) n
  row_ok_more rows more row h kind (whole_ok rule m r full c s a l) = whole_ok rule m r full (rw (covers-more rows more row.daughters h) c) s (rw (shapes-more rows more row.daughters h) a) (rw (levels-more rows more row.daughters h) l)

  has_more : (rows more : List (Row M C)) (rule : ℕ) (ds : List ℕ) → HasRow k limits leaves rows rule ds → HasRow k limits leaves (rows ++ more) rule ds
  has_more rows more rule ds r = record { number = r.number; row = r.row; at = at_append more r.at; kind = r.kind; daughters_are = r.daughters_are }

  answer_more : (rows more : List (Row M C)) (rule : ℕ) (ds : List ℕ) → ((j d : ℕ) → At ds j d → d < length rows) → Answer k limits leaves rows rule ds → Answer k limits leaves (rows ++ more) rule ds
  answer_more rows more rule ds h (has_row r) = has_row (has_more rows more rule ds r)
  answer_more rows more rule ds h (no_cover c) = no_cover (rw (covers-more rows more ds h) c)
  answer_more rows more rule ds h (none_applies n) = none_applies (rw (shapes-more rows more ds h) n)

  -- what a task puts together stands among the rows
  pub task_range : (rows : List (Row M C)) (task : Task) → Pairing.TaskOk k limits rows task → ((i : ℕ) (row : Row M C) (j d : ℕ) → At rows i row → At row.daughters j d → d < length rows) → (j d : ℕ) → At (daughters rows task) j d → d < length rows
  task_range rows task ok range j d a = of_sides (Gather.split_at (before rows task.partial) (task.host ∷ []) j d a)
    where
      of_front : (p : Option ℕ) → Pairing.Front k limits rows task.rule p → (i : ℕ) → At (before rows p) i d → d < length rows
      of_front None f i b = elim b [ ]
      of_front (Some q) (Pairing.front _ row at kind) i b = range q row i d at (subst (λ xs. At xs i d) (ap daughters_of_row (to_get at)) b)

      of_host : (i : ℕ) → At (task.host ∷ []) i d → d < length rows
      of_host i b = let l : task.host < length rows = at_below ok.host.at in subst (λ h. h < length rows) (at_single task.host i d b) l

      of_sides : Gather.Either (At (before rows task.partial) j d) (Gather.Behind (before rows task.partial) (task.host ∷ []) j d) → d < length rows
      of_sides (left b) = of_front task.partial ok.front j b
      of_sides (right b) = of_host b.place b.at

  pub daughters_more : (rows more : List (Row M C)) (task : Task) → Pairing.TaskOk k limits rows task → daughters (rows ++ more) task ≡ daughters rows task
  daughters_more rows more task ok = ap (λ xs. xs ++ task.host ∷ []) (of_front task.partial ok.front)
    where
      of_front : (p : Option ℕ) → Pairing.Front k limits rows task.rule p → before (rows ++ more) p ≡ before rows p
      of_front None f = refl
      of_front (Some q) (Pairing.front _ row at kind) = ap daughters_of_row (get_more rows more q (at_below at))

  -- no place is taken away by a frost, so what is live was live
  abbrev pub Thaws : List (Row M C) → List (Option ℕ) → List (Option ℕ) → Type 0
  Thaws rows into next = (i : ℕ) → i < length rows → At next i None → At into i None

  -- each done task was done, or has a row now
  pub record DoneBy (ch : Chart M C) (rows : List (Row M C)) (next : List (Option ℕ)) : Type 0 where
    pub made : (s p : ℕ) → At next s (Some p) → s < length ch.tasks
    pub by : (s p : ℕ) (u : Task) → At next s (Some p) → At ch.tasks s u → Gather.Either (At ch.done s (Some p)) (HasRow k limits leaves rows u.rule (daughters ch.rows u))

  module _ (entered : List (Leaf M C)) (ch : Chart M C) (facts : FactsOf k limits leaves entered ch) (w : Row M C) (into done : List (Option ℕ)) (added : List Task) (made places : ℕ) where
    abbrev pub next_chart : Chart M C
    next_chart = record { rows = ch.rows ++ w ∷ []; into = into; tasks = ch.tasks ++ added; done = done; made = made; places = places }

    -- the facts after the row w is there
    pub facts_row : Thaws ch.rows ch.into into → DoneBy ch (ch.rows ++ w ∷ []) done → length done ≡ length (ch.tasks ++ added) → Standing.Standing k (ch.rows ++ w ∷ []) into → Pairing.Pairing k limits (ch.rows ++ w ∷ []) into (ch.tasks ++ added) → RowOk k limits leaves ch.rows w w.kind → ((j d : ℕ) → At w.daughters j d → Pairing.LowHost k limits ch.rows d) → ((m : M) → w.shape ≡ Some m → Member k limits leaves (record { cover = w.cover; level = w.level; shape = m })) → FactsOf k limits leaves entered next_chart
    facts_row thaw done_by same standing pairing ok low member =
        record {
          standing = standing;
          pairing = pairing;
          same_done = same;
          row_ok = λ i row a. of_row i row (at_snoc ch.rows w i row a);
          answered = λ s p u a b live. of_task s p u (Gather.split_at ch.tasks added s u a) b live;
          leaf_row = λ l leaf c. let r = facts.leaf_row l leaf c in record { number = r.number; row = r.row; at = at_append (w ∷ []) r.at; shape = r.shape; cover = r.cover; level = r.level };
          low_daughters = λ i row j d a b. of_low i row j d (at_snoc ch.rows w i row a) b;
          members = λ i row m a e. of_member i row m (at_snoc ch.rows w i row a) e;
        }
      where
        of_row : (i : ℕ) (row : Row M C) → Snoc ch.rows w i row → RowOk k limits leaves (ch.rows ++ w ∷ []) row row.kind
        of_row i row (old a) = row_ok_more ch.rows (w ∷ []) row (λ j d b. facts.pairing.in_range i row j d a b) row.kind (facts.row_ok i row a)
        of_row i row (new q e) = subst (λ r. RowOk k limits leaves (ch.rows ++ w ∷ []) r r.kind) e (row_ok_more ch.rows (w ∷ []) w (λ j d b. at_below (low j d b).at) w.kind ok)

        of_low : (i : ℕ) (row : Row M C) (j d : ℕ) → Snoc ch.rows w i row → At row.daughters j d → Pairing.LowHost k limits (ch.rows ++ w ∷ []) d
        of_low i row j d (old a) b = Pairing.low_more k limits ch.rows w d (facts.low_daughters i row j d a b)
        of_low i row j d (new q e) b = Pairing.low_more k limits ch.rows w d (low j d (subst (λ (r : Row M C). At r.daughters j d) (sym e) b))

        of_member : (i : ℕ) (row : Row M C) (m : M) → Snoc ch.rows w i row → row.shape ≡ Some m → Member k limits leaves (record { cover = row.cover; level = row.level; shape = m })
        of_member i row m (old a) e = facts.members i row m a e
        of_member i row m (new q f) e = subst (λ (r : Row M C). Member k limits leaves (record { cover = r.cover; level = r.level; shape = m })) f (member m (ap (λ (r : Row M C). r.shape) f ∙ e))

        of_task : (s p : ℕ) (u : Task) → Gather.Either (At ch.tasks s u) (Gather.Behind ch.tasks added s u) → At done s (Some p) → ((j d : ℕ) → At (daughters (ch.rows ++ w ∷ []) u) j d → At into d None) → Answer k limits leaves (ch.rows ++ w ∷ []) u.rule (daughters (ch.rows ++ w ∷ []) u)
        of_task s p u (right a) b live = absurd (let x : s < length ch.tasks = done_by.made s p b in omega (arith, a.number))
        of_task s p u (left a) b live =
            let ok_u = facts.pairing.task_ok s u a in
            let e = daughters_more ch.rows (w ∷ []) u ok_u in
            let range = task_range ch.rows u ok_u facts.pairing.in_range in
            subst (Answer k limits leaves (ch.rows ++ w ∷ []) u.rule) (sym e)
            (elim (done_by.by s p u b a) [
              | left c ↦ answer_more ch.rows (w ∷ []) u.rule (daughters ch.rows u) range (facts.answered s p u a c (λ j d x. thaw d (range j d x) (live j d (subst (λ xs. At xs j d) (sym e) x))))
              | right r ↦ has_row r
            ])

  -- the classes of a tuple of hosts
  pub record Tuple_of (rows : List (Row M C)) (ds : List ℕ) : Type 0 where
    pub classes : List (Class M C)
    pub covers : covers_at rows ds ≡ class_covers classes
    pub shapes : shapes_at rows ds ≡ class_shapes classes
    pub levels : level_above (levels_at rows ds) ≡ class_level classes
    pub first : levels_at rows ds ≡ map (λ (c : Class M C). c.level) classes
    pub counted : length classes ≡ length ds
    pub members : Members k limits leaves classes

  class_level_is : (cs : List (Class M C)) → level_above (map (λ (c : Class M C). c.level) cs) ≡ class_level cs
  class_level_is [] = refl
  class_level_is (c ∷ []) = refl
  class_level_is (c ∷ d ∷ cs) = refl

  pub tuple_of : (rows : List (Row M C)) → ((i : ℕ) (row : Row M C) (m : M) → At rows i row → row.shape ≡ Some m → Member k limits leaves (record { cover = row.cover; level = row.level; shape = m })) → (ds : List ℕ) → ((j d : ℕ) → At ds j d → Pairing.LowHost k limits rows d) → Tuple_of rows ds
  tuple_of rows members [] low = record { classes = []; covers = refl; shapes = refl; levels = refl; first = refl; counted = refl; members = no_members }
  tuple_of rows members (d ∷ ds) low =
      let l = low 0 d here in
      let r = tuple_of rows members ds (λ j e a. low (suc j) e (there a)) in
      let c : Class M C = record { cover = l.row.cover; level = l.row.level; shape = l.m } in
      let first : levels_at rows (d ∷ ds) ≡ map (λ (c : Class M C). c.level) (c ∷ r.classes) = rw (to_get l.at, r.first) refl in
      record {
        classes = c ∷ r.classes;
        covers = rw (to_get l.at, r.covers) refl;
        shapes = rw (to_get l.at, l.shape, r.shapes) refl;
        levels = ap level_above first ∙ class_level_is (c ∷ r.classes);
        first = first;
        counted = ap suc r.counted;
        members = more_members c r.classes (members d l.row l.m l.at l.shape) l.level r.members;
      }

  -- the mother of a tuple of members is a member
  pub mother_member : (rows : List (Row M C)) → ((i : ℕ) (row : Row M C) (m : M) → At rows i row → row.shape ≡ Some m → Member k limits leaves (record { cover = row.cover; level = row.level; shape = m })) → (ds : List ℕ) → ((j d : ℕ) → At ds j d → Pairing.LowHost k limits rows d) → (rule : ℕ) (c : C) (m : M) → rule < k.rules → length ds ≡ k.arity rule → k.covers rule (covers_at rows ds) ≡ Some c → k.mother rule (shapes_at rows ds) m → Member k limits leaves (record { cover = c; level = level_above (levels_at rows ds); shape = m })
  mother_member rows members ds low rule c m r_ok full cov app =
      let t = tuple_of rows members ds low in
      subst (λ l. Member k limits leaves (record { cover = c; level = l; shape = m })) (sym t.levels)
      (of_rule rule t.classes c m r_ok (t.counted ∙ full) t.members (rw t.covers at cov) (rw t.shapes at app))

  -- what a frost leaves free was free
  thaw_frost : (rows : List (Row M C)) (into : List (Option ℕ)) (test : Row M C → Bool) (n : ℕ) → length into ≡ length rows → Thaws rows into (frosted k test n rows into ++ None ∷ [])
  thaw_frost rows into test n same i l a = of_snoc (at_snoc (frosted k test n rows into) None i None a)
    where
      of_frost : Standing.Frost k test n rows into i None → At into i None
      of_frost (Standing.written r e b) = absurd (cc)
      of_frost (Standing.frozen row b c t e) = absurd (cc)
      of_frost (Standing.stays row b c t e) = c
      of_frost (Standing.beyond q) = absurd (omega arith)

      of_snoc : Snoc (frosted k test n rows into) None i None → At into i None
      of_snoc (old b) = of_frost (Standing.at_frost k test n rows into i None b)
      of_snoc (new q e) = absurd (omega (arith, q, Standing.length-frosted k test n rows into))

  module _ (laws : Laws k) (entered : List (Leaf M C)) (ch : Chart M C) (facts : FactsOf k limits leaves entered ch) (t : ℕ) (task : Task) (at : At ch.tasks t task) where
    abbrev pub marked : List (Option ℕ)
    marked = slice_set ch.done t (Some ch.places)

    task_ok : Pairing.TaskOk k limits ch.rows task
    task_ok = facts.pairing.task_ok t task at

    pub low_ds : (j d : ℕ) → At (daughters ch.rows task) j d → Pairing.LowHost k limits ch.rows d
    low_ds j d a = of_sides (Gather.split_at (before ch.rows task.partial) (task.host ∷ []) j d a)
      where
        of_front : (p : Option ℕ) → Pairing.Front k limits ch.rows task.rule p → (i : ℕ) → At (before ch.rows p) i d → Pairing.LowHost k limits ch.rows d
        of_front None f i b = elim b [ ]
        of_front (Some q) (Pairing.front _ row r_at kind) i b = facts.low_daughters q row i d r_at (subst (λ xs. At xs i d) (ap daughters_of_row (to_get r_at)) b)

        of_sides : Gather.Either (At (before ch.rows task.partial) j d) (Gather.Behind (before ch.rows task.partial) (task.host ∷ []) j d) → Pairing.LowHost k limits ch.rows d
        of_sides (left b) = of_front task.partial task_ok.front j b
        of_sides (right b) = subst (Pairing.LowHost k limits ch.rows) (at_single task.host b.place d b.at) task_ok.host

    range_ds : (j d : ℕ) → At (daughters ch.rows task) j d → d < length ch.rows
    range_ds j d a = at_below (low_ds j d a).at

    -- nothing but the mark changes
    pub facts_done : (((j d : ℕ) → At (daughters ch.rows task) j d → At ch.into d None) → Answer k limits leaves ch.rows task.rule (daughters ch.rows task)) → FactsOf k limits leaves entered (with_done ch t)
    facts_done answer =
        record {
          standing = facts.standing;
          pairing = facts.pairing;
          same_done = length-set ch.done t (Some ch.places) ∙ facts.same_done;
          row_ok = facts.row_ok;
          answered = λ s p u a b live. of_side s p u a (set_at ch.done t s (Some ch.places) (Some p) b) live;
          leaf_row = facts.leaf_row;
          low_daughters = facts.low_daughters;
          members = facts.members;
        }
      where
        of_side : (s p : ℕ) (u : Task) → At ch.tasks s u → Gather.Either (At ch.done s (Some p)) ((s ≡ t) × (Some ch.places ≡ Some p)) → ((j d : ℕ) → At (daughters ch.rows u) j d → At ch.into d None) → Answer k limits leaves ch.rows u.rule (daughters ch.rows u)
        of_side s p u a (left b) live = facts.answered s p u a b live
        of_side s p u a (right q) live =
            let e : task ≡ u = at_one at (subst (λ i. At ch.tasks i u) q.0 a) in
            subst (λ (v : Task). Answer k limits leaves ch.rows v.rule (daughters ch.rows v)) e (answer (λ j d b. live j d (subst (λ (v : Task). At (daughters ch.rows v) j d) e b)))

    row_by : (w : Row M C) (added : List Task) → rule_of w.kind ≡ Some task.rule → w.daughters ≡ daughters ch.rows task → DoneBy ch (ch.rows ++ w ∷ []) (marked ++ map (λ _. None) added)
    row_by w added rule ds = record { made = λ s p a. made_of s p (Gather.split_at marked (map (λ _. None) added) s (Some p) a); by = λ s p u a b. by_of s p u (Gather.split_at marked (map (λ _. None) added) s (Some p) a) b }
      where
        made_of : (s p : ℕ) → Gather.Either (At marked s (Some p)) (Gather.Behind marked (map (λ _. None) added) s (Some p)) → s < length ch.tasks
        made_of s p (left a) = let l : s < length marked = at_below a in omega (arith, length-set ch.done t (Some ch.places), facts.same_done)
        made_of s p (right b) = absurd (no_place added b.place p b.at)

        by_set : (s p : ℕ) (u : Task) → Gather.Either (At ch.done s (Some p)) ((s ≡ t) × (Some ch.places ≡ Some p)) → At ch.tasks s u → Gather.Either (At ch.done s (Some p)) (HasRow k limits leaves (ch.rows ++ w ∷ []) u.rule (daughters ch.rows u))
        by_set s p u (left a) b = left a
        by_set s p u (right q) b =
            let e : task ≡ u = at_one at (subst (λ i. At ch.tasks i u) q.0 b) in
            right (subst (λ (v : Task). HasRow k limits leaves (ch.rows ++ w ∷ []) v.rule (daughters ch.rows v)) e (record { number = length ch.rows; row = w; at = at_last ch.rows w; kind = rule; daughters_are = ds }))

        by_of : (s p : ℕ) (u : Task) → Gather.Either (At marked s (Some p)) (Gather.Behind marked (map (λ _. None) added) s (Some p)) → At ch.tasks s u → Gather.Either (At ch.done s (Some p)) (HasRow k limits leaves (ch.rows ++ w ∷ []) u.rule (daughters ch.rows u))
        by_of s p u (left a) b = by_set s p u (set_at ch.done t s (Some ch.places) (Some p) a) b
        by_of s p u (right x) b = absurd (no_place added x.place p x.at)

    same_of : (added : List Task) → length (marked ++ map (λ _. None) added) ≡ length (ch.tasks ++ added)
    same_of added = omega (arith, length-append marked (map (λ _. None) added), length-append ch.tasks added, length-set ch.done t (Some ch.places), facts.same_done, nones added)
      where
        none_of : Task → Option ℕ
        none_of _ = None

        nones : (xs : List Task) → length (map none_of xs) ≡ length xs
        nones [] = refl
        nones (x ∷ xs) = ap suc (nones xs)

    -- a partial row
    pub facts_fits : (c : C) → length (daughters ch.rows task) < k.arity task.rule → k.covers task.rule (covers_at ch.rows (daughters ch.rows task)) ≡ Some c → FactsOf k limits leaves entered (with_outcome k limits (with_done ch t) task (Fits c))
    facts_fits c short cov =
        let w : Row M C = record { kind = OfPartial task.rule; daughters = daughters ch.rows task; cover = c; level = 0; shape = None } in
        let added = tasks_of_partial k limits ch.rows ch.into (length ch.rows) task.rule c in
        facts_row entered ch facts w (ch.into ++ None ∷ []) (marked ++ map (λ _. None) added) added ch.made (ch.places + 1)
        (Pairing.thaw_one k limits ch.rows ch.into None facts.standing.same_length)
        (row_by w added refl refl) (same_of added)
        (Standing.standing_partial k ch.rows ch.into w refl facts.standing)
        (Pairing.pairing_partial k limits ch.rows ch.into ch.tasks w task.rule facts.standing.same_length task_ok.rule refl refl range_ds facts.pairing)
        (partial_ok task.rule task_ok.rule short cov refl)
        low_ds
        (λ m e. absurd (cc))

    module _ (c : C) (m : M) (full : length (daughters ch.rows task) ≡ k.arity task.rule) (cov : k.covers task.rule (covers_at ch.rows (daughters ch.rows task)) ≡ Some c) (app : k.mother task.rule (shapes_at ch.rows (daughters ch.rows task)) m) where
      abbrev pub the_row : Row M C
      the_row = whole_row k limits (with_done ch t) task c m

      row_is_ok : RowOk k limits leaves ch.rows the_row (OfWhole task.rule)
      row_is_ok = whole_ok task.rule m task_ok.rule full cov refl app refl

      is_member : (n : M) → Some m ≡ Some n → Member k limits leaves (record { cover = c; level = level_above (levels_at ch.rows (daughters ch.rows task)); shape = n })
      is_member n e = let z : m ≡ n = cc in subst (λ x. Member k limits leaves (record { cover = c; level = level_above (levels_at ch.rows (daughters ch.rows task)); shape = x })) z (mother_member ch.rows facts.members (daughters ch.rows task) low_ds task.rule c m task_ok.rule full cov app)

      no_partial : (rule : ℕ) → the_row.kind ≡ OfPartial rule → ⊥
      no_partial rule e = cc

      -- a row that is packed
      facts_packed : (r : ℕ) → peer_over k limits (with_done ch t) the_row m ≡ Some r → FactsOf k limits leaves entered (record (with_done ch t) { rows = ch.rows ++ the_row ∷ []; into = ch.into ++ Some r ∷ []; tasks = ch.tasks ++ []; done = marked ++ [] })
      facts_packed r first =
          facts_row entered ch facts the_row (ch.into ++ Some r ∷ []) (marked ++ []) [] ch.made (ch.places + 1)
          (Pairing.thaw_one k limits ch.rows ch.into (Some r) facts.standing.same_length)
          (row_by the_row [] refl refl) (same_of [])
          (Standing.standing_packed k laws ch.rows ch.into the_row m r refl first facts.standing)
          (subst (Pairing.Pairing k limits (ch.rows ++ the_row ∷ []) (ch.into ++ Some r ∷ [])) (sym (append-nil ch.tasks)) (Pairing.pairing_packed k limits ch.rows ch.into ch.tasks the_row r facts.standing.same_length no_partial range_ds facts.pairing))
          row_is_ok low_ds is_member

      abbrev pub cold : List (Option ℕ)
      cold = frosted k (has_peer k (k.over m) the_row.cover the_row.level) (length ch.rows) ch.rows ch.into

      rule_is_ok : (i : ℕ) (row : Row M C) (rule : ℕ) → At (ch.rows ++ the_row ∷ []) i row → row.kind ≡ OfPartial rule → rule < k.rules
      rule_is_ok i row rule a e = of_snoc (at_snoc ch.rows the_row i row a)
        where
          of_kind : (kind : Kind) → row.kind ≡ kind → RowOk k limits leaves ch.rows row kind → rule < k.rules
          of_kind (OfLeaf name) f o = absurd (cc)
          of_kind (OfWhole q) f o = absurd (cc)
          of_kind (OfPartial q) f (partial_ok _ q_ok short cv n) = let z : q ≡ rule = cc in subst (λ x. x < k.rules) z q_ok

          of_snoc : Snoc ch.rows the_row i row → rule < k.rules
          of_snoc (old b) = of_kind row.kind refl (facts.row_ok i row b)
          of_snoc (new p f) = absurd (let z = ap (λ (r : Row M C). r.kind) f in cc)

      host_pairing : (b : Bool) → nat_le the_row.level limits.unary ≡ b → Pairing.Pairing k limits (ch.rows ++ the_row ∷ []) (cold ++ None ∷ []) (ch.tasks ++ (if b then rule_tasks (length ch.rows) 0 k.rules ++ gather k (host_task k cold c (length ch.rows)) 0 ch.rows else []))
      host_pairing true e =
          Pairing.pairing_low k limits ch.rows ch.into cold ch.tasks the_row (omega (arith, Standing.length-frosted k (has_peer k (k.over m) the_row.cover the_row.level) (length ch.rows) ch.rows ch.into, facts.standing.same_length)) (thaw_frost ch.rows ch.into (has_peer k (k.over m) the_row.cover the_row.level) (length ch.rows) facts.standing.same_length) no_partial m refl range_ds facts.pairing rule_is_ok (leb-true the_row.level limits.unary e)
      host_pairing false e =
          subst (Pairing.Pairing k limits (ch.rows ++ the_row ∷ []) (cold ++ None ∷ [])) (sym (append-nil ch.tasks))
          (Pairing.pairing_high k limits ch.rows ch.into cold ch.tasks the_row (omega (arith, Standing.length-frosted k (has_peer k (k.over m) the_row.cover the_row.level) (length ch.rows) ch.rows ch.into, facts.standing.same_length)) (thaw_frost ch.rows ch.into (has_peer k (k.over m) the_row.cover the_row.level) (length ch.rows) facts.standing.same_length) no_partial m refl range_ds facts.pairing (λ l. let z = le-leb the_row.level limits.unary l in absurd (cc)))

      -- a row that becomes a host
      facts_host : peer_over k limits (with_done ch t) the_row m ≡ None → FactsOf k limits leaves entered (with_host k limits (with_frost k limits (with_done ch t) the_row m) the_row)
      facts_host first =
          facts_row entered ch facts the_row (cold ++ None ∷ []) (marked ++ map (λ _. None) (tasks_of_host k limits ch.rows cold (length ch.rows) c the_row.level)) (tasks_of_host k limits ch.rows cold (length ch.rows) c the_row.level) (ch.made + 1) (ch.places + 1)
          (thaw_frost ch.rows ch.into (has_peer k (k.over m) the_row.cover the_row.level) (length ch.rows) facts.standing.same_length)
          (row_by the_row (tasks_of_host k limits ch.rows cold (length ch.rows) c the_row.level) refl refl) (same_of (tasks_of_host k limits ch.rows cold (length ch.rows) c the_row.level))
          (Standing.standing_host k laws ch.rows ch.into the_row m refl first facts.standing)
          (host_pairing (nat_le the_row.level limits.unary) refl)
          row_is_ok low_ds is_member

      pub facts_by : (o : Option ℕ) → peer_over k limits (with_done ch t) the_row m ≡ o → FactsOf k limits leaves entered (with_outcome k limits (with_done ch t) task (Makes c m))
      facts_by (Some r) e =
          rw e
          (subst (λ ts. FactsOf k limits leaves entered (record (with_done ch t) { rows = ch.rows ++ the_row ∷ []; into = ch.into ++ Some r ∷ []; tasks = ts })) (append-nil ch.tasks)
          (subst (λ ds. FactsOf k limits leaves entered (record (with_done ch t) { rows = ch.rows ++ the_row ∷ []; into = ch.into ++ Some r ∷ []; tasks = ch.tasks ++ []; done = ds })) (append-nil marked)
          (facts_packed r e)))
      facts_by None e = rw e (facts_host e)

    facts_outcome : (o : Outcome M C) → IsRight k limits task.rule (length (daughters ch.rows task)) (covers_at ch.rows (daughters ch.rows task)) (shapes_at ch.rows (daughters ch.rows task)) o → FactsOf k limits leaves entered (with_outcome k limits (with_done ch t) task o)
    facts_outcome Fails right_is = facts_done (λ live. elim right_is [ inl n ↦ no_cover n | inr n ↦ none_applies n ])
    facts_outcome (Fits c) right_is = facts_fits c right_is.0 right_is.1
    facts_outcome (Makes c m) right_is = facts_by c m right_is.0 right_is.1 right_is.2 (peer_over k limits (with_done ch t) (whole_row k limits (with_done ch t) task c m) m) refl

    pub facts_at : (o : Outcome M C) (b : Bool) → all_free ch.into (daughters ch.rows task) ≡ b → (b ≡ true → IsRight k limits task.rule (length (daughters ch.rows task)) (covers_at ch.rows (daughters ch.rows task)) (shapes_at ch.rows (daughters ch.rows task)) o) → FactsOf k limits leaves entered (if b then with_outcome k limits (with_done ch t) task o else with_done ch t)
    facts_at o true e right_is = facts_outcome o (right_is refl)
    facts_at o false e right_is = facts_done (λ live. absurd (let z = Gather.at_all_free ch.into (daughters ch.rows task) live in cc))

  -- a step keeps the facts
  pub facts_step : (laws : Laws k) (entered : List (Leaf M C)) (ch : Chart M C) → FactsOf k limits leaves entered ch → (e : Entry M C) → Follows k limits ch e → FactsOf k limits leaves entered (step k limits ch e)
  facts_step laws entered ch facts e follows =
      rw (follows.made, follows.pending)
      (facts_at laws entered ch facts e.task follows.task (from_get ch.tasks e.task follows.task follows.made) e.outcome (all_free ch.into (daughters ch.rows follows.task)) refl (λ b. follows.right b))

  pub facts_replayed : (laws : Laws k) (entered : List (Leaf M C)) (ch : Chart M C) (es : List (Entry M C)) → FactsOf k limits leaves entered ch → IsRun k limits ch es → FactsOf k limits leaves entered (replayed k limits ch es)
  facts_replayed laws entered ch [] facts run = facts
  facts_replayed laws entered ch (e ∷ es) facts run = facts_replayed laws entered (step k limits ch e) es (facts_step laws entered ch facts e run.0) run.1

  -- a row of a leaf
  module _ (laws : Laws k) (entered : List (Leaf M C)) (ch : Chart M C) (facts : FactsOf k limits leaves entered ch) (number : ℕ) (leaf : Leaf M C) (leaf_at : At leaves number leaf) where
    abbrev pub of_the_leaf : Row M C
    of_the_leaf = leaf_row k limits leaf

    abbrev pub leaf_cold : List (Option ℕ)
    leaf_cold = frosted k (has_peer k (k.over leaf.shape) leaf.cover 0) (length ch.rows) ch.rows ch.into

    old_done : (rows : List (Row M C)) (added : List Task) → DoneBy ch rows (ch.done ++ map (λ _. None) added)
    old_done rows added = record { made = λ s p a. (of_old s p (Gather.split_at ch.done (map (λ _. None) added) s (Some p) a)).0; by = λ s p u a b. left (of_old s p (Gather.split_at ch.done (map (λ _. None) added) s (Some p) a)).1 }
      where
        of_old : (s p : ℕ) → Gather.Either (At ch.done s (Some p)) (Gather.Behind ch.done (map (λ _. None) added) s (Some p)) → (s < length ch.tasks) × At ch.done s (Some p)
        of_old s p (left a) = (let l : s < length ch.done = at_below a in omega (arith, facts.same_done), a)
        of_old s p (right b) = absurd (no_place added b.place p b.at)

    leaf_count : (added : List Task) → length (ch.done ++ map (λ _. None) added) ≡ length (ch.tasks ++ added)
    leaf_count added = omega (arith, length-append ch.done (map (λ _. None) added), length-append ch.tasks added, facts.same_done, nones added)
      where
        none_of : Task → Option ℕ
        none_of _ = None

        nones : (xs : List Task) → length (map none_of xs) ≡ length xs
        nones [] = refl
        nones (x ∷ xs) = ap suc (nones xs)

    leaf_ok_row : RowOk k limits leaves ch.rows of_the_leaf (OfLeaf leaf.name)
    leaf_ok_row = leaf_ok leaf.name number leaf leaf_at

    leaf_member : (n : M) → Some leaf.shape ≡ Some n → Member k limits leaves (record { cover = leaf.cover; level = 0; shape = n })
    leaf_member n e = let z : leaf.shape ≡ n = cc in subst (λ x. Member k limits leaves (record { cover = leaf.cover; level = 0; shape = x })) z (of_leaf number leaf leaf_at)

    leaf_partial : (rule : ℕ) → of_the_leaf.kind ≡ OfPartial rule → ⊥
    leaf_partial rule e = cc

    leaf_range : (j d : ℕ) → At of_the_leaf.daughters j d → d < length ch.rows
    leaf_range j d a = elim a [ ]

    leaf_low : (j d : ℕ) → At of_the_leaf.daughters j d → Pairing.LowHost k limits ch.rows d
    leaf_low j d a = elim a [ ]

    leaf_rule : (i : ℕ) (row : Row M C) (rule : ℕ) → At (ch.rows ++ of_the_leaf ∷ []) i row → row.kind ≡ OfPartial rule → rule < k.rules
    leaf_rule i row rule a e = of_snoc (at_snoc ch.rows of_the_leaf i row a)
      where
        of_kind : (kind : Kind) → row.kind ≡ kind → RowOk k limits leaves ch.rows row kind → rule < k.rules
        of_kind (OfLeaf name) f o = absurd (cc)
        of_kind (OfWhole q) f o = absurd (cc)
        of_kind (OfPartial q) f (partial_ok _ q_ok short cv n) = let z : q ≡ rule = cc in subst (λ x. x < k.rules) z q_ok

        of_snoc : Snoc ch.rows of_the_leaf i row → rule < k.rules
        of_snoc (old b) = of_kind row.kind refl (facts.row_ok i row b)
        of_snoc (new p f) = absurd (let z = ap (λ (r : Row M C). r.kind) f in cc)

    with_new : (next : Chart M C) → next.rows ≡ ch.rows ++ of_the_leaf ∷ [] → FactsOf k limits leaves entered next → FactsOf k limits leaves (entered ++ leaf ∷ []) next
    with_new next e f = record { standing = f.standing; pairing = f.pairing; same_done = f.same_done; row_ok = f.row_ok; answered = f.answered; leaf_row = λ l x a. of_snoc l x (at_snoc entered leaf l x a); low_daughters = f.low_daughters; members = f.members }
      where
        of_snoc : (l : ℕ) (x : Leaf M C) → Snoc entered leaf l x → LeafRow k limits leaves next.rows x
        of_snoc l x (old a) = f.leaf_row l x a
        of_snoc l x (new p q) = subst (LeafRow k limits leaves next.rows) q (record { number = length ch.rows; row = of_the_leaf; at = subst (λ rs. At rs (length ch.rows) of_the_leaf) (sym e) (at_last ch.rows of_the_leaf); shape = refl; cover = refl; level = refl })

    leaf_packed : (r : ℕ) → peer_over k limits ch of_the_leaf leaf.shape ≡ Some r → FactsOf k limits leaves entered (record ch { rows = ch.rows ++ of_the_leaf ∷ []; into = ch.into ++ Some r ∷ []; tasks = ch.tasks ++ []; done = ch.done ++ [] })
    leaf_packed r first =
        facts_row entered ch facts of_the_leaf (ch.into ++ Some r ∷ []) (ch.done ++ []) [] ch.made ch.places
        (Pairing.thaw_one k limits ch.rows ch.into (Some r) facts.standing.same_length)
        (old_done (ch.rows ++ of_the_leaf ∷ []) []) (leaf_count [])
        (Standing.standing_packed k laws ch.rows ch.into of_the_leaf leaf.shape r refl first facts.standing)
        (subst (Pairing.Pairing k limits (ch.rows ++ of_the_leaf ∷ []) (ch.into ++ Some r ∷ [])) (sym (append-nil ch.tasks)) (Pairing.pairing_packed k limits ch.rows ch.into ch.tasks of_the_leaf r facts.standing.same_length leaf_partial leaf_range facts.pairing))
        leaf_ok_row leaf_low leaf_member

    leaf_host : peer_over k limits ch of_the_leaf leaf.shape ≡ None → FactsOf k limits leaves entered (with_host k limits (with_frost k limits ch of_the_leaf leaf.shape) of_the_leaf)
    leaf_host first =
        facts_row entered ch facts of_the_leaf (leaf_cold ++ None ∷ []) (ch.done ++ map (λ _. None) (tasks_of_host k limits ch.rows leaf_cold (length ch.rows) leaf.cover 0)) (tasks_of_host k limits ch.rows leaf_cold (length ch.rows) leaf.cover 0) (ch.made + 1) ch.places
        (thaw_frost ch.rows ch.into (has_peer k (k.over leaf.shape) leaf.cover 0) (length ch.rows) facts.standing.same_length)
        (old_done (ch.rows ++ of_the_leaf ∷ []) (tasks_of_host k limits ch.rows leaf_cold (length ch.rows) leaf.cover 0)) (leaf_count (tasks_of_host k limits ch.rows leaf_cold (length ch.rows) leaf.cover 0))
        (Standing.standing_host k laws ch.rows ch.into of_the_leaf leaf.shape refl first facts.standing)
        (rw (le-leb 0 limits.unary (omega arith)) (Pairing.pairing_low k limits ch.rows ch.into leaf_cold ch.tasks of_the_leaf (omega (arith, Standing.length-frosted k (has_peer k (k.over leaf.shape) leaf.cover 0) (length ch.rows) ch.rows ch.into, facts.standing.same_length)) (thaw_frost ch.rows ch.into (has_peer k (k.over leaf.shape) leaf.cover 0) (length ch.rows) facts.standing.same_length) leaf_partial leaf.shape refl leaf_range facts.pairing leaf_rule (omega arith)))
        leaf_ok_row leaf_low leaf_member

    leaf_by : (o : Option ℕ) → peer_over k limits ch of_the_leaf leaf.shape ≡ o → FactsOf k limits leaves (entered ++ leaf ∷ []) (with_whole k limits ch of_the_leaf leaf.shape)
    leaf_by (Some r) e =
        rw e
        (with_new (record ch { rows = ch.rows ++ of_the_leaf ∷ []; into = ch.into ++ Some r ∷ [] }) refl
        (subst (λ ts. FactsOf k limits leaves entered (record ch { rows = ch.rows ++ of_the_leaf ∷ []; into = ch.into ++ Some r ∷ []; tasks = ts })) (append-nil ch.tasks)
        (subst (λ ds. FactsOf k limits leaves entered (record ch { rows = ch.rows ++ of_the_leaf ∷ []; into = ch.into ++ Some r ∷ []; tasks = ch.tasks ++ []; done = ds })) (append-nil ch.done)
        (leaf_packed r e))))
    leaf_by None e = rw e (with_new (with_host k limits (with_frost k limits ch of_the_leaf leaf.shape) of_the_leaf) refl (leaf_host e))

    pub facts_leaf : FactsOf k limits leaves (entered ++ leaf ∷ []) (with_whole k limits ch of_the_leaf leaf.shape)
    facts_leaf = leaf_by (peer_over k limits ch of_the_leaf leaf.shape) refl

  facts_opened : (laws : Laws k) (entered rest : List (Leaf M C)) (ch : Chart M C) → FactsOf k limits leaves entered ch → entered ++ rest ≡ leaves → FactsOf k limits leaves leaves (opened k limits ch rest)
  facts_opened laws entered [] ch facts e = subst (λ xs. FactsOf k limits leaves xs ch) (sym (append-nil entered) ∙ e) facts
  facts_opened laws entered (leaf ∷ rest) ch facts e =
      facts_opened laws (entered ++ leaf ∷ []) rest (with_whole k limits ch (leaf_row k limits leaf) leaf.shape)
      (facts_leaf laws entered ch facts (length entered) leaf (subst (λ xs. At xs (length entered) leaf) e (subst (λ i. At (entered ++ leaf ∷ rest) i leaf) (omega arith) (Gather.at_behind entered (leaf ∷ rest) 0 leaf here))))
      (append_assoc entered (leaf ∷ []) rest ∙ e)

  pub facts_empty : FactsOf k limits leaves [] (empty k limits)
  facts_empty =
      record {
        standing = Standing.standing_empty k;
        pairing = record { task_ok = λ t x a. elim a [ ]; with_rule = λ r h l low f. elim f [ ]; with_partial = λ r p h row part low f j. elim f [ ]; once = λ i j x a b. elim a [ ]; in_range = λ i row j d a b. elim a [ ] };
        same_done = refl;
        row_ok = λ i row a. elim a [ ];
        answered = λ t p x a b live. elim a [ ];
        leaf_row = λ l x a. elim a [ ];
        low_daughters = λ i row j d a b. elim a [ ];
        members = λ i row m a e. elim a [ ];
      }

  pub facts_of_run : Laws k → (history : List (Entry M C)) → IsRun k limits (opened k limits (empty k limits) leaves) history → FactsOf k limits leaves leaves (Replay k limits leaves history)
  facts_of_run laws history run = facts_replayed laws leaves (opened k limits (empty k limits) leaves) history (facts_opened laws [] leaves (empty k limits) facts_empty refl) run
