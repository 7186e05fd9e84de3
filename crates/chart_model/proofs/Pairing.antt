-- The third fact: each pair of a live partial, or a rule, and a live host has one task.
use Rattle.std.specs.Prelude.{◌≡◌, ℕ, ◌+◌, ◌<◌, ◌≤◌, ◌&&◌, Bool, true, false, Option, Some, None, List, [], ◌∷◌, ◌++◌, length, refl, is_some, nat_le, if◌then◌else◌}
use Rattle.std.proofs.Common.{ap, subst, sym, ◌∙◌, arith, leb-true, le-leb, length-append}
use Rattle.chart_model.specs.Calculus.{Calculus}
use Rattle.chart_model.specs.Chart.{Kind, OfLeaf, OfPartial, OfWhole, Row, Task, Limits, gather, rule_tasks, is_free, all_free, host_task, partial_task, tasks_of_partial}
use Rattle.chart_model.specs.At.{At, at_below, at_one, at_append, at_last, Snoc, old, new, at_snoc}
use Rattle.chart_model.proofs.Gather
use Rattle.chart_model.proofs.Gather.{left, right}

module _ {M C : Type 0} (k : Calculus M C) (limits : Limits) where
  -- row h is a host of level at most the limit
  pub record LowHost (rows : List (Row M C)) (h : ℕ) : Type 0 where
    pub row : Row M C
    pub at : At rows h row
    pub m : M
    pub shape : row.shape ≡ Some m
    pub level : row.level ≤ limits.unary

  pub data Front (rows : List (Row M C)) (rule : ℕ) : Option ℕ → Type 0 where
    no_front : Front rows rule None
    front : (p : ℕ) (row : Row M C) → At rows p row → row.kind ≡ OfPartial rule → Front rows rule (Some p)

  pub record TaskOk (rows : List (Row M C)) (task : Task) : Type 0 where
    pub rule : task.rule < k.rules
    pub host : LowHost rows task.host
    pub front : Front rows task.rule task.partial

  pub record LivePartial (rows : List (Row M C)) (into : List (Option ℕ)) (rule p : ℕ) (row : Row M C) : Type 0 where
    pub at : At rows p row
    pub kind : row.kind ≡ OfPartial rule
    pub live : (j d : ℕ) → At row.daughters j d → At into d None

  pub record Pairing (rows : List (Row M C)) (into : List (Option ℕ)) (tasks : List Task) : Type 0 where
    pub task_ok : (t : ℕ) (task : Task) → At tasks t task → TaskOk rows task
    pub with_rule : (rule h : ℕ) → rule < k.rules → LowHost rows h → At into h None → (t : ℕ) × At tasks t (record { rule = rule; partial = None; host = h })
    pub with_partial : (rule p h : ℕ) (row : Row M C) → LivePartial rows into rule p row → (low : LowHost rows h) → At into h None → is_some (k.join row.cover low.row.cover) ≡ true → (t : ℕ) × At tasks t (record { rule = rule; partial = Some p; host = h })
    pub once : Gather.Once tasks
    -- what the rows point to stands before them
    pub in_range : (i : ℕ) (row : Row M C) (j d : ℕ) → At rows i row → At row.daughters j d → d < length rows

  pub low_more : (rows : List (Row M C)) (w : Row M C) (h : ℕ) → LowHost rows h → LowHost (rows ++ w ∷ []) h
  low_more rows w h l = record { row = l.row; at = at_append (w ∷ []) l.at; m = l.m; shape = l.shape; level = l.level }

  ok_more : (rows : List (Row M C)) (w : Row M C) (task : Task) → TaskOk rows task → TaskOk (rows ++ w ∷ []) task
  ok_more rows w task o = record { rule = o.rule; host = low_more rows w task.host o.host; front = front_more task.rule task.partial o.front }
    where
      front_more : (rule : ℕ) (p : Option ℕ) → Front rows rule p → Front (rows ++ w ∷ []) rule p
      front_more rule None f = no_front
      front_more rule (Some q) (front p row a e) = front p row (at_append (w ∷ []) a) e

  -- a host among the rows with one more is an old one or the new one
  pub record OldLow (rows : List (Row M C)) (h : ℕ) (row : Row M C) : Type 0 where
    pub low : LowHost rows h
    pub is : low.row ≡ row

  old_low : (rows : List (Row M C)) (w : Row M C) (h : ℕ) (l : LowHost (rows ++ w ∷ []) h) → Snoc rows w h l.row → Gather.Either (OldLow rows h l.row) ((h ≡ length rows) × (w ≡ l.row))
  old_low rows w h l (old a) = Gather.left (record { low = record { row = l.row; at = a; m = l.m; shape = l.shape; level = l.level }; is = refl })
  old_low rows w h l (new p e) = Gather.right (p, e)

  range_more : (rows : List (Row M C)) (w : Row M C) → ((i : ℕ) (row : Row M C) (j d : ℕ) → At rows i row → At row.daughters j d → d < length rows) → ((j d : ℕ) → At w.daughters j d → d < length rows) → (i : ℕ) (row : Row M C) (j d : ℕ) → At (rows ++ w ∷ []) i row → At row.daughters j d → d < length (rows ++ w ∷ [])
  range_more rows w old_range new_range i row j d a b = of_snoc (at_snoc rows w i row a)
    where
      of_snoc : Snoc rows w i row → d < length (rows ++ w ∷ [])
      of_snoc (old p) = let z : d < length rows = old_range i row j d p b in simp length-append (omega arith)
      of_snoc (new p e) = let z : d < length rows = new_range j d (subst (λ (r : Row M C). At r.daughters j d) (sym e) b) in simp length-append (omega arith)

  -- a live partial among the rows with one more, which has no representative, is an old one or the new one
  pub data OldPartial (rows : List (Row M C)) (into : List (Option ℕ)) (w : Row M C) (rule p : ℕ) (row : Row M C) : Type 0 where
    old_partial : LivePartial rows into rule p row → OldPartial rows into w rule p row
    new_partial : p ≡ length rows → w ≡ row → OldPartial rows into w rule p row

  old_live : (rows : List (Row M C)) (into cold : List (Option ℕ)) (w : Row M C) (v : Option ℕ) (rule p : ℕ) (row : Row M C) → ((i : ℕ) → i < length rows → At (cold ++ v ∷ []) i None → At into i None) → ((i : ℕ) (row : Row M C) (j d : ℕ) → At rows i row → At row.daughters j d → d < length rows) → LivePartial (rows ++ w ∷ []) (cold ++ v ∷ []) rule p row → OldPartial rows into w rule p row
  old_live rows into cold w v rule p row thaw range l = of_snoc (at_snoc rows w p row l.at)
    where
      of_snoc : Snoc rows w p row → OldPartial rows into w rule p row
      of_snoc (old a) = old_partial (record { at = a; kind = l.kind; live = λ j d b. thaw d (range p row j d a b) (l.live j d b) })
      of_snoc (new q e) = new_partial q e

  -- nothing is thawed by one more place
  pub thaw_one : (rows : List (Row M C)) (into : List (Option ℕ)) (v : Option ℕ) → length into ≡ length rows → (i : ℕ) → i < length rows → At (into ++ v ∷ []) i None → At into i None
  thaw_one rows into v e i l a = of_snoc (at_snoc into v i None a)
    where
      of_snoc : Snoc into v i None → At into i None
      of_snoc (old b) = b
      of_snoc (new p q) = absurd (omega arith)

  pub pairing_packed : (rows : List (Row M C)) (into : List (Option ℕ)) (tasks : List Task) (w : Row M C) (r : ℕ) → length into ≡ length rows → ((rule : ℕ) → w.kind ≡ OfPartial rule → ⊥) → ((j d : ℕ) → At w.daughters j d → d < length rows) → Pairing rows into tasks → Pairing (rows ++ w ∷ []) (into ++ Some r ∷ []) tasks
  pairing_packed rows into tasks w r e whole range p =
      record {
        task_ok = λ t task a. ok_more rows w task (p.task_ok t task a);
        with_rule = λ rule h l low f. of_rule rule h l low f (old_low rows w h low (at_snoc rows w h low.row low.at));
        with_partial = λ rule q h row part low f j. of_pair rule q h row part low f j (old_live rows into into w (Some r) rule q row (thaw_one rows into (Some r) e) p.in_range part) (old_low rows w h low (at_snoc rows w h low.row low.at));
        once = p.once;
        in_range = range_more rows w p.in_range range;
      }
    where
      gone : (h : ℕ) → h ≡ length rows → At (into ++ Some r ∷ []) h None → ⊥
      gone h q f = let z : Some r ≡ None = at_one (at_last into (Some r)) (subst (λ i. At (into ++ Some r ∷ []) i None) (q ∙ sym e) f) in cc

      of_rule : (rule h : ℕ) → rule < k.rules → (low : LowHost (rows ++ w ∷ []) h) → At (into ++ Some r ∷ []) h None → Gather.Either (OldLow rows h low.row) ((h ≡ length rows) × (w ≡ low.row)) → (t : ℕ) × At tasks t (record { rule = rule; partial = None; host = h })
      of_rule rule h l low f (Gather.left o) = p.with_rule rule h l o.low (thaw_one rows into (Some r) e h (at_below o.low.at) f)
      of_rule rule h l low f (Gather.right o) = absurd (gone h o.0 f)

      of_pair : (rule q h : ℕ) (row : Row M C) → LivePartial (rows ++ w ∷ []) (into ++ Some r ∷ []) rule q row → (low : LowHost (rows ++ w ∷ []) h) → At (into ++ Some r ∷ []) h None → is_some (k.join row.cover low.row.cover) ≡ true → OldPartial rows into w rule q row → Gather.Either (OldLow rows h low.row) ((h ≡ length rows) × (w ≡ low.row)) → (t : ℕ) × At tasks t (record { rule = rule; partial = Some q; host = h })
      of_pair rule q h row part low f j (old_partial l) (Gather.left o) = p.with_partial rule q h row l o.low (thaw_one rows into (Some r) e h (at_below o.low.at) f) (subst (λ (x : Row M C). is_some (k.join row.cover x.cover) ≡ true) (sym o.is) j)
      of_pair rule q h row part low f j (new_partial b c) o = absurd (whole rule (ap (λ (x : Row M C). x.kind) c ∙ part.kind))
      of_pair rule q h row part low f j l (Gather.right o) = absurd (gone h o.0 f)

  -- what is known where the test of a new task held
  pub record PartialTask (into : List (Option ℕ)) (rule : ℕ) (cover : C) (n i : ℕ) (row : Row M C) (task : Task) : Type 0 where
    pub shape : is_some row.shape ≡ true
    pub free : is_free into i ≡ true
    pub level : nat_le row.level limits.unary ≡ true
    pub joins : is_some (k.join cover row.cover) ≡ true
    pub is : record { rule = rule; partial = Some n; host = i } ≡ task

  pub partial_task_is : (into : List (Option ℕ)) (rule : ℕ) (cover : C) (n i : ℕ) (row : Row M C) (task : Task) → partial_task k limits.unary into rule cover n i row ≡ Some task → PartialTask into rule cover n i row task
  partial_task_is into rule cover n i row task h = by_tests (is_some row.shape) (is_free into i) (nat_le row.level limits.unary) (is_some (k.join cover row.cover)) refl refl refl refl h
    where
      made : Task
      made = record { rule = rule; partial = Some n; host = i }

      by_tests : (a b c d : Bool) → is_some row.shape ≡ a → is_free into i ≡ b → nat_le row.level limits.unary ≡ c → is_some (k.join cover row.cover) ≡ d → (if a && b && c && d then Some made else None) ≡ Some task → PartialTask into rule cover n i row task
      by_tests true true true true p q r s e = record { shape = p; free = q; level = r; joins = s; is = cc }
      by_tests true true true false p q r s e = absurd (cc)
      by_tests true true false d p q r s e = absurd (cc)
      by_tests true false c d p q r s e = absurd (cc)
      by_tests false b c d p q r s e = absurd (cc)

  some_there : {A : Type 0} (o : Option A) → is_some o ≡ true → (x : A) × (o ≡ Some x)
  some_there None h = absurd (cc)
  some_there (Some x) h = (x, refl)

  pair_path : (a b c d : ℕ) → a ≡ b → c ≡ d → ◌≡◌ {A = ℕ × ℕ} (a, c) (b, d)
  pair_path a b c d p q = cc

  -- a partial of an old task is an old row
  old_front : (rows : List (Row M C)) (rule : ℕ) (partial : Option ℕ) (n : ℕ) → length rows ≤ n → partial ≡ Some n → Front rows rule partial → ⊥
  old_front rows rule None n l e f = absurd (cc)
  old_front rows rule (Some q) n l e (front p row a kind) = let z : q ≡ n = cc in let y : q < length rows = at_below a in omega arith

  -- a new partial
  pub pairing_partial : (rows : List (Row M C)) (into : List (Option ℕ)) (tasks : List Task) (w : Row M C) (rule : ℕ) → length into ≡ length rows → rule < k.rules → w.kind ≡ OfPartial rule → w.shape ≡ None → ((j d : ℕ) → At w.daughters j d → d < length rows) → Pairing rows into tasks → Pairing (rows ++ w ∷ []) (into ++ None ∷ []) (tasks ++ tasks_of_partial k limits rows into (length rows) rule w.cover)
  pairing_partial rows into tasks w rule e rule_ok kind no_shape range p =
      record {
        task_ok = λ t task a. ok_of t task (Gather.split_at tasks added t task a);
        with_rule = λ r h l low f. of_rule r h l low f (old_low rows w h low (at_snoc rows w h low.row low.at));
        with_partial = λ r q h row part low f j. of_pair r q h row part low f j (old_live rows into into w None r q row (thaw_one rows into None e) p.in_range part) (old_low rows w h low (at_snoc rows w h low.row low.at));
        once = Gather.once_append tasks added p.once (Gather.gather_once k test (λ i j a b task x y. let u = (partial_task_is into rule w.cover n i a task x).is in let v = (partial_task_is into rule w.cover n j b task y).is in ap (λ (t : Task). t.host) (u ∙ sym v)) 0 rows) apart;
        in_range = range_more rows w p.in_range range;
      }
    where
      n : ℕ
      n = length rows

      cold : List (Option ℕ)
      cold = into ++ None ∷ []

      test : ℕ → Row M C → Option Task
      test = partial_task k limits.unary into rule w.cover (length rows)

      added : List Task
      added = gather k (partial_task k limits.unary into rule w.cover (length rows)) 0 rows

      ok_of : (t : ℕ) (task : Task) → Gather.Either (At tasks t task) (Gather.Behind tasks added t task) → TaskOk (rows ++ w ∷ []) task
      ok_of t task (Gather.left a) = ok_more rows w task (p.task_ok t task a)
      ok_of t task (Gather.right b) = of_from (Gather.gather_is k test 0 rows b.place task b.at)
        where
          of_from : Gather.From k test 0 rows task → TaskOk (rows ++ w ∷ []) task
          of_from r =
              let q = partial_task_is into rule w.cover n r.place r.row task (Gather.from_zero k test rows task r) in
              let m = some_there r.row.shape q.shape in
              subst (λ x. TaskOk (rows ++ w ∷ []) x) q.is
              (record { rule = rule_ok; host = record { row = r.row; at = at_append (w ∷ []) r.at; m = m.0; shape = m.1; level = leb-true r.row.level limits.unary q.level }; front = front n w (at_last rows w) kind })

      of_rule : (r h : ℕ) → r < k.rules → (low : LowHost (rows ++ w ∷ []) h) → At cold h None → Gather.Either (OldLow rows h low.row) ((h ≡ length rows) × (w ≡ low.row)) → (t : ℕ) × At (tasks ++ added) t (record { rule = r; partial = None; host = h })
      of_rule r h l low f (Gather.left o) = let g = p.with_rule r h l o.low (thaw_one rows into None e h (at_below o.low.at) f) in (g.0, at_append added g.1)
      of_rule r h l low f (Gather.right o) = absurd (let z = low.shape in let y = ap (λ (x : Row M C). x.shape) (o.1) in cc)

      of_pair : (r q h : ℕ) (row : Row M C) → LivePartial (rows ++ w ∷ []) cold r q row → (low : LowHost (rows ++ w ∷ []) h) → At cold h None → is_some (k.join row.cover low.row.cover) ≡ true → OldPartial rows into w r q row → Gather.Either (OldLow rows h low.row) ((h ≡ length rows) × (w ≡ low.row)) → (t : ℕ) × At (tasks ++ added) t (record { rule = r; partial = Some q; host = h })
      of_pair r q h row part low f j (old_partial l) (Gather.left o) =
          let g = p.with_partial r q h row l o.low (thaw_one rows into None e h (at_below o.low.at) f) (subst (λ (x : Row M C). is_some (k.join row.cover x.cover) ≡ true) (sym o.is) j) in
          (g.0, at_append added g.1)
      of_pair r q h row part low f j (new_partial b c) (Gather.left o) =
          let joins : is_some (k.join w.cover o.low.row.cover) ≡ true = rw (ap (λ (x : Row M C). x.cover) c, ap (λ (x : Row M C). x.cover) o.is) j in
          let same : rule ≡ r = let z = ap (λ (x : Row M C). x.kind) c in let y = part.kind in cc in
          let gives : partial_task k limits.unary into rule w.cover n h o.low.row ≡ Some (record { rule = rule; partial = Some n; host = h }) =
          rw (o.low.shape, Gather.at_free into h (thaw_one rows into None e h (at_below o.low.at) f), le-leb o.low.row.level limits.unary o.low.level, joins) refl in
          let g = Gather.gather_has k test 0 rows h o.low.row (record { rule = rule; partial = Some n; host = h }) o.low.at (subst (λ i. test i o.low.row ≡ Some (record { rule = rule; partial = Some n; host = h })) (omega arith) gives) in
          (length tasks + g.0, subst (λ x. At (tasks ++ added) (length tasks + g.0) (record { rule = x.0; partial = Some x.1; host = h })) (pair_path rule r n q same (sym b)) (Gather.at_behind tasks added g.0 (record { rule = rule; partial = Some n; host = h }) g.1))
      of_pair r q h row part low f j l (Gather.right o) = absurd (let z = low.shape in let y = ap (λ (x : Row M C). x.shape) (o.1) in cc)

      apart : (s t : ℕ) (x : Task) → At tasks s x → At added t x → ⊥
      apart s t x a b = of_from (Gather.gather_is k test 0 rows t x b) (p.task_ok s x a).front
        where
          of_from : Gather.From k test 0 rows x → Front rows x.rule x.partial → ⊥
          of_from r f =
              let q = ap (λ (t : Task). t.partial) (partial_task_is into rule w.cover n r.place r.row x (Gather.from_zero k test rows x r)).is in
              old_front rows x.rule x.partial (length rows) (omega arith) (sym q) f

  pub record HostTask (into : List (Option ℕ)) (cover : C) (n i : ℕ) (row : Row M C) (task : Task) : Type 0 where
    pub rule : ℕ
    pub kind : row.kind ≡ OfPartial rule
    pub live : all_free into row.daughters ≡ true
    pub joins : is_some (k.join row.cover cover) ≡ true
    pub is : record { rule = rule; partial = Some i; host = n } ≡ task

  pub host_task_is : (into : List (Option ℕ)) (cover : C) (n i : ℕ) (row : Row M C) (task : Task) → host_task k into cover n i row ≡ Some task → HostTask into cover n i row task
  host_task_is into cover n i row task h = by_kind row.kind refl h
    where
      by_tests : (rule : ℕ) (a b : Bool) → row.kind ≡ OfPartial rule → all_free into row.daughters ≡ a → is_some (k.join row.cover cover) ≡ b → (if a && b then Some (record { rule = rule; partial = Some i; host = n }) else None) ≡ Some task → HostTask into cover n i row task
      by_tests rule true true x p q e = record { rule = rule; kind = x; live = p; joins = q; is = cc }
      by_tests rule true false x p q e = absurd (cc)
      by_tests rule false b x p q e = absurd (cc)

      by_kind : (kind : Kind) → row.kind ≡ kind → host_task k into cover n i row ≡ Some task → HostTask into cover n i row task
      by_kind (OfLeaf name) e g = absurd (let z : host_task k into cover n i row ≡ None = rw e refl in cc)
      by_kind (OfWhole rule) e g = absurd (let z : host_task k into cover n i row ≡ None = rw e refl in cc)
      by_kind (OfPartial rule) e g = by_tests rule (all_free into row.daughters) (is_some (k.join row.cover cover)) e refl refl (rw e at g)

  -- a new host, before which some rows are frosted
  module _ (rows : List (Row M C)) (into cold : List (Option ℕ)) (tasks : List Task) (w : Row M C) (same_length : length cold ≡ length rows) (thaw : (i : ℕ) → i < length rows → At (cold ++ None ∷ []) i None → At into i None) (whole : (rule : ℕ) → w.kind ≡ OfPartial rule → ⊥) (m : M) (shape : w.shape ≡ Some m) (range : (j d : ℕ) → At w.daughters j d → d < length rows) (p : Pairing rows into tasks) where
    abbrev pub test : ℕ → Row M C → Option Task
    test = host_task k cold w.cover (length rows)

    abbrev pub rule_part : List Task
    rule_part = rule_tasks (length rows) 0 k.rules

    abbrev pub pair_part : List Task
    pair_part = gather k (host_task k cold w.cover (length rows)) 0 rows

    abbrev pub new_tasks : List Task
    new_tasks = rule_tasks (length rows) 0 k.rules ++ gather k (host_task k cold w.cover (length rows)) 0 rows

    -- an old partial or the new row, which is none
    partial_side : (rule q : ℕ) (row : Row M C) → LivePartial (rows ++ w ∷ []) (cold ++ None ∷ []) rule q row → LivePartial rows into rule q row
    partial_side rule q row part = of_side (old_live rows into cold w None rule q row thaw p.in_range part)
      where
        of_side : OldPartial rows into w rule q row → LivePartial rows into rule q row
        of_side (old_partial l) = l
        of_side (new_partial b c) = absurd (whole rule (ap (λ (x : Row M C). x.kind) c ∙ part.kind))

    thaw_cold : (i : ℕ) → i < length rows → At (cold ++ None ∷ []) i None → At cold i None
    thaw_cold i l a = thaw_one rows cold None same_length i l a

    host_side : (h : ℕ) (low : LowHost (rows ++ w ∷ []) h) → Gather.Either (OldLow rows h low.row) ((h ≡ length rows) × (w ≡ low.row))
    host_side h low = old_low rows w h low (at_snoc rows w h low.row low.at)

    pub pairing_high : (w.level ≤ limits.unary → ⊥) → Pairing (rows ++ w ∷ []) (cold ++ None ∷ []) tasks
    pairing_high high =
        record {
          task_ok = λ t task a. ok_more rows w task (p.task_ok t task a);
          with_rule = λ r h l low f. elim (host_side h low) [ left o ↦ p.with_rule r h l o.low (thaw h (at_below o.low.at) f) | right o ↦ absurd (too_high h low o.1) ];
          with_partial = λ r q h row part low f j. elim (host_side h low) [ left o ↦ p.with_partial r q h row (partial_side r q row part) o.low (thaw h (at_below o.low.at) f) (subst (λ (x : Row M C). is_some (k.join row.cover x.cover) ≡ true) (sym o.is) j) | right o ↦ absurd (too_high h low o.1) ];
          once = p.once;
          in_range = range_more rows w p.in_range range;
        }
      where
        too_high : (h : ℕ) (low : LowHost (rows ++ w ∷ []) h) → w ≡ low.row → ⊥
        too_high h low e = high (subst (λ (x : Row M C). x.level ≤ limits.unary) (sym e) low.level)

    -- what a new task is
    pub record NewOk (task : Task) : Type 0 where
      pub rule : task.rule < k.rules
      pub host : task.host ≡ length rows
      pub front : Front (rows ++ w ∷ []) task.rule task.partial

    new_ok : (rule_ok : (i : ℕ) (row : Row M C) (rule : ℕ) → At (rows ++ w ∷ []) i row → row.kind ≡ OfPartial rule → rule < k.rules) (t : ℕ) (task : Task) → At new_tasks t task → NewOk task
    new_ok rule_ok t task a = of_part (Gather.split_at rule_part pair_part t task a)
      where
        of_rules : (task : Task) → Gather.IsRuleTask (length rows) 0 k.rules t task → NewOk task
        of_rules task r = record { rule = omega (arith, r.below); host = r.host; front = subst (Front (rows ++ w ∷ []) task.rule) (sym r.partial) no_front }

        of_part : Gather.Either (At rule_part t task) (Gather.Behind rule_part pair_part t task) → NewOk task
        of_part (Gather.left b) = let r = Gather.rule_is (length rows) 0 k.rules t task b in record { rule = omega (arith, r.below); host = r.host; front = subst (Front (rows ++ w ∷ []) task.rule) (sym r.partial) no_front }
        of_part (Gather.right b) =
            let r = Gather.gather_is k test 0 rows b.place task b.at in
            let q = host_task_is cold w.cover (length rows) r.place r.row task (Gather.from_zero k test rows task r) in
            subst NewOk q.is (record { rule = rule_ok r.place r.row q.rule (at_append (w ∷ []) r.at) q.kind; host = refl; front = front r.place r.row (at_append (w ∷ []) r.at) q.kind })

    pub pairing_low : ((i : ℕ) (row : Row M C) (rule : ℕ) → At (rows ++ w ∷ []) i row → row.kind ≡ OfPartial rule → rule < k.rules) → w.level ≤ limits.unary → Pairing (rows ++ w ∷ []) (cold ++ None ∷ []) (tasks ++ new_tasks)
    pairing_low rule_ok low_level =
        record {
          task_ok = λ t task a. elim (Gather.split_at tasks new_tasks t task a) [ left b ↦ ok_more rows w task (p.task_ok t task b) | right b ↦ ok_new task (new_ok rule_ok b.place task b.at) ];
          with_rule = λ r h l low f. of_rule r h l low f (host_side h low);
          with_partial = λ r q h row part low f j. of_pair r q h row part low f j (host_side h low);
          once = Gather.once_append tasks new_tasks p.once (Gather.once_append rule_part pair_part (Gather.rule_once (length rows) 0 k.rules) pair_once rule_pair) (λ s t x a b. let o = (p.task_ok s x a).host in let l : x.host < length rows = at_below o.at in omega (arith, (new_ok rule_ok t x b).host));
          in_range = range_more rows w p.in_range range;
        }
      where
        ok_new : (task : Task) → NewOk task → TaskOk (rows ++ w ∷ []) task
        ok_new task o = record { rule = o.rule; host = subst (LowHost (rows ++ w ∷ [])) (sym o.host) (record { row = w; at = at_last rows w; m = m; shape = shape; level = low_level }); front = o.front }

        pair_once : Gather.Once pair_part
        pair_once = Gather.gather_once k test (λ i j a b task x y. let u = (host_task_is cold w.cover (length rows) i a task x).is in let v = (host_task_is cold w.cover (length rows) j b task y).is in let z = ap (λ (t : Task). t.partial) (u ∙ sym v) in cc) 0 rows

        rule_pair : (s t : ℕ) (x : Task) → At rule_part s x → At pair_part t x → ⊥
        rule_pair s t x a b =
            let r = Gather.gather_is k test 0 rows t x b in
            let q = (host_task_is cold w.cover (length rows) r.place r.row x (Gather.from_zero k test rows x r)).is in
            let z = ap (λ (t : Task). t.partial) q in
            let y = (Gather.rule_is (length rows) 0 k.rules s x a).partial in
            cc

        of_rule : (r h : ℕ) → r < k.rules → (low : LowHost (rows ++ w ∷ []) h) → At (cold ++ None ∷ []) h None → Gather.Either (OldLow rows h low.row) ((h ≡ length rows) × (w ≡ low.row)) → (t : ℕ) × At (tasks ++ new_tasks) t (record { rule = r; partial = None; host = h })
        of_rule r h l low f (Gather.left o) = let g = p.with_rule r h l o.low (thaw h (at_below o.low.at) f) in (g.0, at_append new_tasks g.1)
        of_rule r h l low f (Gather.right o) =
            let g = Gather.rule_has (length rows) 0 k.rules r (omega arith) (omega arith) in
            (length tasks + g.0, subst (λ x. At (tasks ++ new_tasks) (length tasks + g.0) (record { rule = r; partial = None; host = x })) (sym o.0) (Gather.at_behind tasks new_tasks g.0 (record { rule = r; partial = None; host = length rows }) (at_append pair_part g.1)))

        of_pair : (r q h : ℕ) (row : Row M C) → LivePartial (rows ++ w ∷ []) (cold ++ None ∷ []) r q row → (low : LowHost (rows ++ w ∷ []) h) → At (cold ++ None ∷ []) h None → is_some (k.join row.cover low.row.cover) ≡ true → Gather.Either (OldLow rows h low.row) ((h ≡ length rows) × (w ≡ low.row)) → (t : ℕ) × At (tasks ++ new_tasks) t (record { rule = r; partial = Some q; host = h })
        of_pair r q h row part low f j (Gather.left o) =
            let g = p.with_partial r q h row (partial_side r q row part) o.low (thaw h (at_below o.low.at) f) (subst (λ (x : Row M C). is_some (k.join row.cover x.cover) ≡ true) (sym o.is) j) in
            (g.0, at_append new_tasks g.1)
        of_pair r q h row part low f j (Gather.right o) =
            let l = partial_side r q row part in
            let joins : is_some (k.join row.cover w.cover) ≡ true = rw (ap (λ (x : Row M C). x.cover) o.1) j in
            let gives : host_task k cold w.cover (length rows) q row ≡ Some (record { rule = r; partial = Some q; host = length rows }) =
            rw (part.kind, Gather.at_all_free cold row.daughters (λ j d a. thaw_cold d (p.in_range q row j d l.at a) (part.live j d a)), joins) refl in
            let g = Gather.gather_has k test 0 rows q row (record { rule = r; partial = Some q; host = length rows }) l.at (subst (λ i. test i row ≡ Some (record { rule = r; partial = Some q; host = length rows })) (omega arith) gives) in
            let a = Gather.at_behind rule_part pair_part g.0 (record { rule = r; partial = Some q; host = length rows }) g.1 in
            (length tasks + (length rule_part + g.0), subst (λ x. At (tasks ++ new_tasks) (length tasks + (length rule_part + g.0)) (record { rule = r; partial = Some q; host = x })) (sym o.0) (Gather.at_behind tasks new_tasks (length rule_part + g.0) (record { rule = r; partial = Some q; host = length rows }) a))
