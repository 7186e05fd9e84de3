-- Where nothing is pending, the live hosts are the packed classes.
use Rattle.std.specs.Prelude.{◌≡◌, ℕ, ◌+◌, ◌<◌, ◌≤◌, true, Option, Some, None, List, [], ◌∷◌, ◌++◌, length, refl, is_some, slice_get}
use Rattle.std.proofs.Common.{zero, suc, ap, subst, sym, ◌∙◌, arith, length-append, append_assoc, append-nil}
use Rattle.chart_model.specs.Calculus.{Calculus, Laws, AllOver, none, more, NoneApplies}
use Rattle.chart_model.specs.Tuples.{on_list}
use Rattle.chart_model.specs.Chart.{Kind, OfLeaf, OfPartial, OfWhole, Row, Task, Chart, Leaf, Limits, daughters, cover_of, shape_of, covers_at, shapes_at, level_of, levels_at, level_above}
use Rattle.chart_model.specs.Classes.{Class, Member, of_leaf, of_rule, Members, no_members, more_members, IsPacked, IsHost, HostsAreClasses, class_covers, class_shapes, class_level}
use Rattle.chart_model.specs.At.{At, here, there, at_below, at_one, to_get, from_get, at_found}
use Rattle.chart_model.specs.Grown.{LeadsTo, ends, goes}
use Rattle.chart_model.specs.Finished.{NothingPending}
use Rattle.chart_model.proofs.Standing
use Rattle.chart_model.proofs.Gather
use Rattle.chart_model.proofs.Pairing

module _ {M C : Type 0} (k : Calculus M C) where
  -- row j is a live host of this cover and level that subsumes m
  pub record LiveOver (rows : List (Row M C)) (into : List (Option ℕ)) (cover : C) (level : ℕ) (m : M) (j : ℕ) : Type 0 where
    pub row : Row M C
    pub at : At rows j row
    pub free : At into j None
    pub shape : M
    pub shape_is : row.shape ≡ Some shape
    pub over : k.over shape m ≡ true
    pub cover_is : row.cover ≡ cover
    pub level_is : row.level ≡ level

  pub record Led (rows : List (Row M C)) (into : List (Option ℕ)) (cover : C) (level : ℕ) (m : M) (i : ℕ) : Type 0 where
    pub end : ℕ
    pub leads : LeadsTo into i end
    pub live : LiveOver rows into cover level m end

  module _ (laws : Laws k) (rows : List (Row M C)) (into : List (Option ℕ)) (st : Standing.Standing k rows into) where
    led_on : (i r : ℕ) (row : Row M C) (m : M) → At into i (Some r) → row.shape ≡ Some m → (rep : Standing.Rep k rows into row r) → Led rows into rep.rep.cover rep.rep.level rep.general r → Led rows into row.cover row.level m i
    led_on i r row m a e rep l =
        record {
          end = l.end;
          leads = goes a l.leads;
          live = record {
            row = l.live.row;
            at = l.live.at;
            free = l.live.free;
            shape = l.live.shape;
            shape_is = l.live.shape_is;
            over = laws.transitive l.live.shape rep.general m l.live.over (let z : rep.special ≡ m = let y = rep.row_shape in cc in subst (λ s. k.over rep.general s ≡ true) z rep.over);
            cover_is = l.live.cover_is ∙ rep.cover;
            level_is = l.live.level_is ∙ rep.level;
          };
        }

    led_here : (i : ℕ) (row : Row M C) (m : M) → At rows i row → row.shape ≡ Some m → At into i None → Led rows into row.cover row.level m i
    led_here i row m a e f = record { end = i; leads = ends f; live = record { row = row; at = a; free = f; shape = m; shape_is = e; over = laws.reflexive m; cover_is = refl; level_is = refl } }

    host_led : (fuel i : ℕ) (row : Row M C) (m : M) → length rows ≤ i + fuel → At rows i row → row.shape ≡ Some m → ((s : ℕ) → At into i (Some s) → i < s) → (v : Option ℕ) → At into i v → Led rows into row.cover row.level m i
    host_led fuel i row m l a e host None f = led_here i row m a e f
    host_led zero i row m l a e host (Some r) f = absurd (let z : i < length rows = at_below a in omega arith)
    host_led (suc fuel) i row m l a e host (Some r) f =
        let rep = st.reps i r row a f in
        let up : i < r = host r f in
        let v = at_found into r (let z : r < length rows = at_below rep.at in omega (arith, st.same_length)) in
        led_on i r row m f e rep (host_led fuel r rep.rep rep.general (omega arith) rep.at rep.rep_shape rep.host v.0 v.1)

    led_by : (i : ℕ) (row : Row M C) (m : M) → At rows i row → row.shape ≡ Some m → (v : Option ℕ) → At into i v → Led rows into row.cover row.level m i
    led_by i row m a e None f = led_here i row m a e f
    led_by i row m a e (Some r) f =
        let rep = st.reps i r row a f in
        let v = at_found into r (let z : r < length rows = at_below rep.at in omega (arith, st.same_length)) in
        led_on i r row m f e rep (host_led (length rows) r rep.rep rep.general (omega arith) rep.at rep.rep_shape rep.host v.0 v.1)

    -- the last representative of a leaf or whole row is a live host of its cover and level that subsumes it
    pub led : (i : ℕ) (row : Row M C) (m : M) → At rows i row → row.shape ≡ Some m → Led rows into row.cover row.level m i
    led i row m a e = let v = at_found into i (let z : i < length rows = at_below a in omega (arith, st.same_length)) in led_by i row m a e v.0 v.1

abbrev pub rule_of : Kind → Option ℕ
rule_of (OfLeaf name) = None
rule_of (OfPartial rule) = Some rule
rule_of (OfWhole rule) = Some rule

on_list-append : {A : Type 0} (o : Option A) (xs ys : List A) → on_list o (xs ++ ys) ≡ on_list o xs ++ ys
on_list-append None xs ys = refl
on_list-append (Some x) xs ys = refl

module _ {M C : Type 0} (k : Calculus M C) (limits : Limits) (leaves : List (Leaf M C)) where
  pub data RowOk (rows : List (Row M C)) (row : Row M C) : Kind → Type 0 where
    leaf_ok : (name l : ℕ) (leaf : Leaf M C) → At leaves l leaf → RowOk rows row (OfLeaf name)
    partial_ok : (rule : ℕ) → rule < k.rules → length row.daughters < k.arity rule → k.covers rule (covers_at rows row.daughters) ≡ Some row.cover → row.shape ≡ None → RowOk rows row (OfPartial rule)
    whole_ok : (rule : ℕ) (m : M) → rule < k.rules → length row.daughters ≡ k.arity rule → k.covers rule (covers_at rows row.daughters) ≡ Some row.cover → row.shape ≡ Some m → k.mother rule (shapes_at rows row.daughters) m → row.level ≡ level_above (levels_at rows row.daughters) → RowOk rows row (OfWhole rule)

  -- a row with this rule and these daughters
  pub record HasRow (rows : List (Row M C)) (rule : ℕ) (ds : List ℕ) : Type 0 where
    pub number : ℕ
    pub row : Row M C
    pub at : At rows number row
    pub kind : rule_of row.kind ≡ Some rule
    pub daughters_are : row.daughters ≡ ds

  pub data Answer (rows : List (Row M C)) (rule : ℕ) (ds : List ℕ) : Type 0 where
    has_row : HasRow rows rule ds → Answer rows rule ds
    no_cover : k.covers rule (covers_at rows ds) ≡ None → Answer rows rule ds
    none_applies : NoneApplies k rule (shapes_at rows ds) → Answer rows rule ds

  pub record LeafRow (rows : List (Row M C)) (leaf : Leaf M C) : Type 0 where
    pub number : ℕ
    pub row : Row M C
    pub at : At rows number row
    pub shape : row.shape ≡ Some leaf.shape
    pub cover : row.cover ≡ leaf.cover
    pub level : row.level ≡ 0

  -- the five facts, where these leaves have been entered
  pub record FactsOf (entered : List (Leaf M C)) (ch : Chart M C) : Type 0 where
    pub standing : Standing.Standing k ch.rows ch.into
    pub pairing : Pairing.Pairing k limits ch.rows ch.into ch.tasks
    pub same_done : length ch.done ≡ length ch.tasks
    pub row_ok : (i : ℕ) (row : Row M C) → At ch.rows i row → RowOk ch.rows row row.kind
    pub answered : (t place : ℕ) (task : Task) → At ch.tasks t task → At ch.done t (Some place) → ((j d : ℕ) → At (daughters ch.rows task) j d → At ch.into d None) → Answer ch.rows task.rule (daughters ch.rows task)
    pub leaf_row : (l : ℕ) (leaf : Leaf M C) → At entered l leaf → LeafRow ch.rows leaf
    pub low_daughters : (i : ℕ) (row : Row M C) (j d : ℕ) → At ch.rows i row → At row.daughters j d → Pairing.LowHost k limits ch.rows d
    pub members : (i : ℕ) (row : Row M C) (m : M) → At ch.rows i row → row.shape ≡ Some m → Member k limits leaves (record { cover = row.cover; level = row.level; shape = m })

  abbrev pub Facts : Chart M C → Type 0
  Facts ch = FactsOf leaves ch

  covers-append : (rows : List (Row M C)) (a b : List ℕ) → covers_at rows (a ++ b) ≡ covers_at rows a ++ covers_at rows b
  covers-append rows [] b = refl
  covers-append rows (x ∷ a) b = rw (covers-append rows a b) (on_list-append (cover_of (slice_get rows x)) (covers_at rows a) (covers_at rows b))

  shapes-append : (rows : List (Row M C)) (a b : List ℕ) → shapes_at rows (a ++ b) ≡ shapes_at rows a ++ shapes_at rows b
  shapes-append rows [] b = refl
  shapes-append rows (x ∷ a) b = rw (shapes-append rows a b) (on_list-append (shape_of (slice_get rows x)) (shapes_at rows a) (shapes_at rows b))

  -- these rows are live hosts of the covers and levels of the classes, and subsume them
  pub data Hosts (rows : List (Row M C)) (into : List (Option ℕ)) : List ℕ → List (Class M C) → Type 0 where
    no_hosts : Hosts rows into [] []
    more_hosts : {hs : List ℕ} {ds : List (Class M C)} (h : ℕ) (d : Class M C) → LiveOver k rows into d.cover d.level d.shape h → d.level ≤ limits.unary → Hosts rows into hs ds → Hosts rows into (h ∷ hs) (d ∷ ds)

  cover_of_live : (rows : List (Row M C)) (into : List (Option ℕ)) (d : Class M C) (h : ℕ) → LiveOver k rows into d.cover d.level d.shape h → cover_of (slice_get rows h) ≡ Some d.cover
  cover_of_live rows into d h l = rw (to_get l.at, l.cover_is) refl

  shape_of_live : (rows : List (Row M C)) (into : List (Option ℕ)) (d : Class M C) (h : ℕ) (l : LiveOver k rows into d.cover d.level d.shape h) → shape_of (slice_get rows h) ≡ Some l.shape
  shape_of_live rows into d h l = rw (to_get l.at, l.shape_is) refl

  pub hosts_length : (rows : List (Row M C)) (into : List (Option ℕ)) {hs : List ℕ} {ds : List (Class M C)} → Hosts rows into hs ds → length hs ≡ length ds
  hosts_length rows into no_hosts = refl
  hosts_length rows into (more_hosts h d l u rest) = ap suc (hosts_length rows into rest)

  pub hosts_covers : (rows : List (Row M C)) (into : List (Option ℕ)) {hs : List ℕ} {ds : List (Class M C)} → Hosts rows into hs ds → covers_at rows hs ≡ class_covers ds
  hosts_covers rows into no_hosts = refl
  hosts_covers rows into (more_hosts h d l u rest) = rw (cover_of_live rows into d h l, hosts_covers rows into rest) refl

  pub hosts_shapes : (rows : List (Row M C)) (into : List (Option ℕ)) {hs : List ℕ} {ds : List (Class M C)} → Hosts rows into hs ds → AllOver k.over (shapes_at rows hs) (class_shapes ds)
  hosts_shapes rows into no_hosts = none
  hosts_shapes rows into (more_hosts h d l u rest) = rw (shape_of_live rows into d h l) (more l.over (hosts_shapes rows into rest))

  -- each is a live host of level at most the limit
  pub data Low (rows : List (Row M C)) (into : List (Option ℕ)) : List ℕ → Type 0 where
    no_low : Low rows into []
    more_low : {hs : List ℕ} (h : ℕ) → Pairing.LowHost k limits rows h → At into h None → Low rows into hs → Low rows into (h ∷ hs)

  pub hosts_low : (rows : List (Row M C)) (into : List (Option ℕ)) {hs : List ℕ} {ds : List (Class M C)} → Hosts rows into hs ds → Low rows into hs
  hosts_low rows into no_hosts = no_low
  hosts_low rows into (more_hosts h d l u rest) = more_low h (record { row = l.row; at = l.at; m = l.shape; shape = l.shape_is; level = omega (arith, l.level_is) }) l.free (hosts_low rows into rest)

  low_split : (rows : List (Row M C)) (into : List (Option ℕ)) (j d : ℕ) {hs : List ℕ} → Low rows into hs → At hs j d → At into d None
  low_split rows into j d no_low a = elim a [ ]
  low_split rows into zero d (more_low h l f rest) (here) = f
  low_split rows into (suc j) d (more_low h l f rest) (there a) = low_split rows into j d rest a

  low_covers : (rows : List (Row M C)) (into : List (Option ℕ)) {hs : List ℕ} → Low rows into hs → length (covers_at rows hs) ≡ length hs
  low_covers rows into no_low = refl
  low_covers rows into (more_low h l f rest) = rw (to_get l.at) (ap suc (low_covers rows into rest))

  low_shapes : (rows : List (Row M C)) (into : List (Option ℕ)) {hs : List ℕ} → Low rows into hs → length (shapes_at rows hs) ≡ length hs
  low_shapes rows into no_low = refl
  low_shapes rows into (more_low h l f rest) = rw (to_get l.at, l.shape) (ap suc (low_shapes rows into rest))

  low_snoc : (rows : List (Row M C)) (into : List (Option ℕ)) (h : ℕ) {hs : List ℕ} → Low rows into hs → Pairing.LowHost k limits rows h → At into h None → Low rows into (hs ++ h ∷ [])
  low_snoc rows into h no_low l f = more_low h l f no_low
  low_snoc rows into h (more_low g k f rest) l e = more_low g k f (low_snoc rows into h rest l e)

  low_append : (rows : List (Row M C)) (into : List (Option ℕ)) (gs : List ℕ) {hs : List ℕ} → Low rows into hs → Low rows into gs → Low rows into (hs ++ gs)
  low_append rows into gs no_low l = l
  low_append rows into gs (more_low g k f rest) l = more_low g k f (low_append rows into gs rest l)

  -- a whole row of these daughters
  pub record WholeRow (rows : List (Row M C)) (rule : ℕ) (ds : List ℕ) : Type 0 where
    pub number : ℕ
    pub row : Row M C
    pub at : At rows number row
    pub kind : row.kind ≡ OfWhole rule
    pub daughters_are : row.daughters ≡ ds

  -- each task that puts together a beginning of this tuple, or the whole of it, is done
  abbrev pub TasksAreDone : Chart M C → ℕ → List ℕ → Type 0
  TasksAreDone ch rule ds = (t : ℕ) (task : Task) (rest : List ℕ) → At ch.tasks t task → task.rule ≡ rule → daughters ch.rows task ++ rest ≡ ds → (place : ℕ) × At ch.done t (Some place)

  pub all_due : (ch : Chart M C) → NothingPending ch → (rule : ℕ) (ds : List ℕ) → TasksAreDone ch rule ds
  all_due ch all_done rule ds = λ t task rest a e f. all_done t task a

  module _ (laws : Laws k) (ch : Chart M C) (facts : Facts ch) where
    -- the daughters of a tuple so far, all live
    pub record Tuple_so_far (rule : ℕ) (ds : List ℕ) : Type 0 where
      pub t : ℕ
      pub task : Task
      pub at : At ch.tasks t task
      pub rule_is : task.rule ≡ rule
      pub daughters_are : daughters ch.rows task ≡ ds

    answer_of : (rule : ℕ) (ds rest : List ℕ) → TasksAreDone ch rule (ds ++ rest) → Tuple_so_far rule ds → ((j d : ℕ) → At ds j d → At ch.into d None) → Answer ch.rows rule ds
    answer_of rule ds rest due s live =
        let p = due s.t s.task rest s.at s.rule_is (ap (λ xs. xs ++ rest) s.daughters_are) in
        let a = facts.answered s.t p.0 s.task s.at p.1 (λ j d b. live j d (subst (λ xs. At xs j d) s.daughters_are b)) in
        subst (λ xs. Answer ch.rows rule xs) s.daughters_are (subst (λ r. Answer ch.rows r (daughters ch.rows s.task)) s.rule_is a)

    -- a tuple to which the rule applies
    pub record Applies (rule : ℕ) (ds : List ℕ) : Type 0 where
      pub cover : C
      pub covers : k.covers rule (covers_at ch.rows ds) ≡ Some cover
      pub apply : k.applies rule (shapes_at ch.rows ds)
      pub whole : length ds ≡ k.arity rule

    -- what has an answer and begins a tuple that has a mother has a row
    row_of : (rule : ℕ) (ds rest : List ℕ) → 0 < length ds → Low ch.rows ch.into ds → Low ch.rows ch.into rest → Applies rule (ds ++ rest) → Answer ch.rows rule ds → HasRow ch.rows rule ds
    row_of rule ds rest l low tail a (has_row r) = r
    row_of rule ds rest l low tail a (none_applies n) =
        absurd (n (shapes_at ch.rows rest) (omega (arith, length-append (shapes_at ch.rows ds) (shapes_at ch.rows rest), low_shapes ch.rows ch.into low, low_shapes ch.rows ch.into tail, a.whole, length-append ds rest)) (subst (k.applies rule) (shapes-append ch.rows ds rest) a.apply))
    row_of rule ds [] l low tail a (no_cover n) = absurd (let z : ds ++ [] ≡ ds = append-nil ds in let y = subst (λ xs. k.covers rule (covers_at ch.rows xs) ≡ Some a.cover) z a.covers in cc)
    row_of rule ds (_ ∷ rest) l low (more_low h lh f ml) a (no_cover n) =
        let e : k.covers rule (covers_at ch.rows ds ++ covers_at ch.rows (h ∷ rest)) ≡ Some a.cover = rw (← covers-append ch.rows ds (h ∷ rest)) a.covers in
        let z = laws.prefixes rule (covers_at ch.rows ds) lh.row.cover (covers_at ch.rows rest) a.cover (omega (arith, low_covers ch.rows ch.into low)) (omega (arith, length-append (covers_at ch.rows ds) (lh.row.cover ∷ covers_at ch.rows rest), low_covers ch.rows ch.into low, low_covers ch.rows ch.into ml, a.whole, length-append ds (h ∷ rest))) (rw (to_get lh.at) at e) in
        absurd (let y = z.1 in cc)

    -- a row of a tuple with nothing after it is whole
    ended : (rule : ℕ) (ds : List ℕ) → length ds ≡ k.arity rule → (r : HasRow ch.rows rule ds) (kind : Kind) → r.row.kind ≡ kind → RowOk ch.rows r.row kind → WholeRow ch.rows rule ds
    ended rule ds l r (OfLeaf name) e o = absurd (let z = r.kind in let y = ap rule_of e in cc)
    ended rule ds l r (OfPartial q) e (partial_ok _ q_ok short c n) = absurd (let y : q ≡ rule = let z = r.kind in let x = ap rule_of e in cc in let w : length ds < k.arity rule = subst (λ xs. length xs < k.arity rule) r.daughters_are (subst (λ x. length r.row.daughters < k.arity x) y short) in omega arith)
    ended rule ds l r (OfWhole q) e o = record { number = r.number; row = r.row; at = r.at; kind = (let y : q ≡ rule = let z = r.kind in let x = ap rule_of e in cc in e ∙ ap OfWhole y); daughters_are = r.daughters_are }

    -- a row of a tuple that goes on is a partial
    pub record PartialRow (rule : ℕ) (ds : List ℕ) : Type 0 where
      pub number : ℕ
      pub row : Row M C
      pub at : At ch.rows number row
      pub kind : row.kind ≡ OfPartial rule
      pub daughters_are : row.daughters ≡ ds
      pub covers : k.covers rule (covers_at ch.rows ds) ≡ Some row.cover

    goes_on : (rule : ℕ) (ds : List ℕ) → length ds < k.arity rule → (r : HasRow ch.rows rule ds) (kind : Kind) → r.row.kind ≡ kind → RowOk ch.rows r.row kind → PartialRow rule ds
    goes_on rule ds l r (OfLeaf name) e o = absurd (let z = r.kind in let y = ap rule_of e in cc)
    goes_on rule ds l r (OfWhole q) e (whole_ok _ m q_ok full c n a lv) = absurd (let y : q ≡ rule = let z = r.kind in let x = ap rule_of e in cc in let w : length ds ≡ k.arity rule = subst (λ xs. length xs ≡ k.arity rule) r.daughters_are (subst (λ x. length r.row.daughters ≡ k.arity x) y full) in omega arith)
    goes_on rule ds l r (OfPartial q) e (partial_ok _ q_ok short c n) =
        let y : q ≡ rule = let z = r.kind in let x = ap rule_of e in cc in
        record { number = r.number; row = r.row; at = r.at; kind = e ∙ ap OfPartial y; daughters_are = r.daughters_are; covers = subst (λ x. k.covers x (covers_at ch.rows ds) ≡ Some r.row.cover) y (subst (λ xs. k.covers q (covers_at ch.rows xs) ≡ Some r.row.cover) r.daughters_are c) }

    grow : (rule : ℕ) (ds rest : List ℕ) → TasksAreDone ch rule (ds ++ rest) → 0 < length ds → Low ch.rows ch.into ds → Low ch.rows ch.into rest → Applies rule (ds ++ rest) → Tuple_so_far rule ds → WholeRow ch.rows rule (ds ++ rest)
    grow rule ds [] due l low no_low a s =
        let r = row_of rule ds [] l low no_low a (answer_of rule ds [] due s (λ j d b. low_split ch.rows ch.into j d low b)) in
        subst (WholeRow ch.rows rule) (sym (append-nil ds)) (ended rule ds (ap length (sym (append-nil ds)) ∙ a.whole) r r.row.kind refl (facts.row_ok r.number r.row r.at))
    grow rule ds (_ ∷ rest) due l low (more_low h lh f ml) a s =
        let r = row_of rule ds (h ∷ rest) l low (more_low h lh f ml) a (answer_of rule ds (h ∷ rest) due s (λ j d b. low_split ch.rows ch.into j d low b)) in
        let p = goes_on rule ds (omega (arith, a.whole, length-append ds (h ∷ rest))) r r.row.kind refl (facts.row_ok r.number r.row r.at) in
        let e : k.covers rule (covers_at ch.rows ds ++ covers_at ch.rows (h ∷ rest)) ≡ Some a.cover = rw (← covers-append ch.rows ds (h ∷ rest)) a.covers in
        let z = laws.prefixes rule (covers_at ch.rows ds) lh.row.cover (covers_at ch.rows rest) a.cover (omega (arith, low_covers ch.rows ch.into low)) (omega (arith, length-append (covers_at ch.rows ds) (lh.row.cover ∷ covers_at ch.rows rest), low_covers ch.rows ch.into low, low_covers ch.rows ch.into ml, a.whole, length-append ds (h ∷ rest))) (rw (to_get lh.at) at e) in
        let same : z.0 ≡ p.row.cover = let y = z.1 in let x = p.covers in cc in
        let joins : is_some (k.join p.row.cover lh.row.cover) ≡ true = subst (λ c. is_some (k.join c lh.row.cover) ≡ true) same z.2 in
        let t = facts.pairing.with_partial rule p.number h p.row (record { at = p.at; kind = p.kind; live = λ j d b. low_split ch.rows ch.into j d low (subst (λ xs. At xs j d) p.daughters_are b) }) lh f joins in
        let next : Tuple_so_far rule (ds ++ h ∷ []) = record { t = t.0; task = record { rule = rule; partial = Some p.number; host = h }; at = t.1; rule_is = refl; daughters_are = rw (to_get p.at, p.daughters_are) refl } in
        let w = grow rule (ds ++ h ∷ []) rest (subst (TasksAreDone ch rule) (sym (append_assoc ds (h ∷ []) rest)) due) (omega (arith, length-append ds (h ∷ []))) (low_snoc ch.rows ch.into h low lh f) ml (subst (Applies rule) (sym (append_assoc ds (h ∷ []) rest)) a) next in
        subst (WholeRow ch.rows rule) (append_assoc ds (h ∷ []) rest) w

    level_of_live : (d : Class M C) (h : ℕ) → LiveOver k ch.rows ch.into d.cover d.level d.shape h → level_of (slice_get ch.rows h) ≡ Some d.level
    level_of_live d h l = rw (to_get l.at, l.level_is) refl

    pub hosts_level : {hs : List ℕ} {ds : List (Class M C)} → Hosts ch.rows ch.into hs ds → level_above (levels_at ch.rows hs) ≡ class_level ds
    hosts_level no_hosts = refl
    hosts_level (more_hosts h d l u no_hosts) = rw (level_of_live d h l) refl
    hosts_level (more_hosts h d l u (more_hosts g e q v rest)) = rw (level_of_live d h l, level_of_live e g q) refl

    -- the hosts of a tuple have a whole row
    pub whole_of : (rule : ℕ) (hs : List ℕ) → TasksAreDone ch rule hs → rule < k.rules → Low ch.rows ch.into hs → Applies rule hs → WholeRow ch.rows rule hs
    whole_of rule [] due r_ok low a = absurd (let z = (laws.one_to_four rule r_ok).0 in omega (arith, a.whole))
    whole_of rule (_ ∷ rest) due r_ok (more_low h lh f ml) a =
        let t = facts.pairing.with_rule rule h r_ok lh f in
        grow rule (h ∷ []) rest due (omega arith) (more_low h lh f no_low) ml a (record { t = t.0; task = record { rule = rule; partial = None; host = h }; at = t.1; rule_is = refl; daughters_are = refl })

    pub record Found (c : Class M C) : Type 0 where
      pub host : ℕ
      pub live : LiveOver k ch.rows ch.into c.cover c.level c.shape host

    -- the live host to which row i leads
    pub record FoundAt (c : Class M C) (i : ℕ) : Type 0 where
      pub host : ℕ
      pub live : LiveOver k ch.rows ch.into c.cover c.level c.shape host
      pub leads : LeadsTo ch.into i host

    found_of : (c : Class M C) (i : ℕ) → FoundAt c i → Found c
    found_of c i f = record { host = f.host; live = f.live }

    pub from_row : (rule : ℕ) (hs : List ℕ) (ds : List (Class M C)) (c : C) (m : M) → Hosts ch.rows ch.into hs ds → k.covers rule (class_covers ds) ≡ Some c → ((n : M) → k.mother rule (shapes_at ch.rows hs) n → k.over n m ≡ true) → (w : WholeRow ch.rows rule hs) (kind : Kind) → w.row.kind ≡ kind → RowOk ch.rows w.row kind → FoundAt (record { cover = c; level = class_level ds; shape = m }) w.number
    from_row rule hs ds c m hosts cov over w (OfLeaf name) e o = absurd (let z = w.kind in cc)
    from_row rule hs ds c m hosts cov over w (OfPartial q) e o = absurd (let z = w.kind in cc)
    from_row rule hs ds c m hosts cov over w (OfWhole q) e (whole_ok _ v q_ok full covers shape apply level) =
        let same : q ≡ rule = let z = w.kind in cc in
        let l = led k laws ch.rows ch.into facts.standing w.number w.row v w.at shape in
        let vm : k.over v m ≡ true =
        over v (subst (λ xs. k.mother rule (shapes_at ch.rows xs) v) w.daughters_are (subst (λ x. k.mother x (shapes_at ch.rows w.row.daughters) v) same apply)) in
        let cc_is : w.row.cover ≡ c =
        let y : k.covers rule (covers_at ch.rows hs) ≡ Some w.row.cover = subst (λ xs. k.covers rule (covers_at ch.rows xs) ≡ Some w.row.cover) w.daughters_are (subst (λ x. k.covers x (covers_at ch.rows w.row.daughters) ≡ Some w.row.cover) same covers) in
        let z = hosts_covers ch.rows ch.into hosts in cc in
        let lv : w.row.level ≡ class_level ds = level ∙ ap (λ xs. level_above (levels_at ch.rows xs)) w.daughters_are ∙ hosts_level hosts in
        record {
          host = l.end;
          leads = l.leads;
          live = record {
            row = l.live.row;
            at = l.live.at;
            free = l.live.free;
            shape = l.live.shape;
            shape_is = l.live.shape_is;
            over = laws.transitive l.live.shape v m l.live.over vm;
            cover_is = l.live.cover_is ∙ cc_is;
            level_is = l.live.level_is ∙ lv;
          };
        }

    pub from_leaf : (leaf : Leaf M C) (r : LeafRow ch.rows leaf) → FoundAt (record { cover = leaf.cover; level = 0; shape = leaf.shape }) r.number
    from_leaf leaf r =
        let l = led k laws ch.rows ch.into facts.standing r.number r.row leaf.shape r.at r.shape in
        record { host = l.end; leads = l.leads; live = record { row = l.live.row; at = l.live.at; free = l.live.free; shape = l.live.shape; shape_is = l.live.shape_is; over = l.live.over; cover_is = l.live.cover_is ∙ r.cover; level_is = l.live.level_is ∙ r.level } }

    pub record FoundAll (ds : List (Class M C)) : Type 0 where
      pub hs : List ℕ
      pub hosts : Hosts ch.rows ch.into hs ds

    as_member : (c : Class M C) (j : ℕ) (l : LiveOver k ch.rows ch.into c.cover c.level c.shape j) → Member k limits leaves (record c { shape = l.shape })
    as_member c j l = subst (λ v. Member k limits leaves (record { cover = c.cover; level = v; shape = l.shape })) l.level_is (subst (λ v. Member k limits leaves (record { cover = v; level = l.row.level; shape = l.shape })) l.cover_is (facts.members j l.row l.shape l.at l.shape_is))

    host_member : (c : Class M C) (i : ℕ) → IsHost k limits leaves ch c i → Member k limits leaves c
    host_member c i h = subst (λ v. Member k limits leaves (record { cover = c.cover; level = v; shape = c.shape })) h.level (subst (λ v. Member k limits leaves (record { cover = v; level = h.row.level; shape = c.shape })) h.cover (facts.members i h.row c.shape (from_get ch.rows i h.row h.at) h.shape))

    -- a live host that subsumes the shape of a live host of its cover and level has that shape
    same_host : (c : Class M C) (i j : ℕ) → IsHost k limits leaves ch c i → (m : M) → (l : LiveOver k ch.rows ch.into c.cover c.level m j) → k.over l.shape c.shape ≡ true → l.shape ≡ c.shape
    same_host c i j h m l o =
        let e : j ≡ i = facts.standing.apart j i l.row h.row l.shape c.shape l.at (from_get ch.rows i h.row h.at) l.free (Gather.free_at ch.into i h.free) l.shape_is h.shape (l.cover_is ∙ sym h.cover) (l.level_is ∙ sym h.level) o in
        let z : l.row ≡ h.row = at_one (subst (λ n. At ch.rows n l.row) e l.at) (from_get ch.rows i h.row h.at) in
        let y = ap (λ (x : Row M C). x.shape) z in
        let u = l.shape_is in
        let v = h.shape in
        cc

    -- classes whose making depends on such classes alone, where the tasks of each tuple that makes one are done
    pub record Closed (In : Class M C → Type 0) : Type 0 where
      pub daughters_too : (rule : ℕ) (ds : List (Class M C)) (c : C) (m : M) → rule < k.rules → length ds ≡ k.arity rule → Members k limits leaves ds → k.covers rule (class_covers ds) ≡ Some c → In (record { cover = c; level = class_level ds; shape = m }) → (i : ℕ) (d : Class M C) → At ds i d → In d
      pub due : (rule : ℕ) (ds : List (Class M C)) (c : C) (m : M) (hs : List ℕ) → rule < k.rules → length ds ≡ k.arity rule → k.covers rule (class_covers ds) ≡ Some c → In (record { cover = c; level = class_level ds; shape = m }) → Hosts ch.rows ch.into hs ds → TasksAreDone ch rule hs

    module _ (In : Class M C → Type 0) (closed : Closed In) where
      mutual
        -- each member of the set has a live host that subsumes it
        pub complete : (c : Class M C) → In c → Member k limits leaves c → Found c
        complete c is (of_leaf l leaf a) = found_of (record { cover = leaf.cover; level = 0; shape = leaf.shape }) (facts.leaf_row l leaf a).number (from_leaf leaf (facts.leaf_row l leaf a))
        complete c is (of_rule rule ds cover m r_ok len members cov app) =
            let f = completes ds members (closed.daughters_too rule ds cover m r_ok len members cov is) in
            let up = hosts_shapes ch.rows ch.into f.hosts in
            let a : Applies rule f.hs = record { cover = cover; covers = rw (hosts_covers ch.rows ch.into f.hosts) cov; apply = laws.falls rule (shapes_at ch.rows f.hs) (class_shapes ds) up (laws.has_mother rule (class_shapes ds) m app); whole = hosts_length ch.rows ch.into f.hosts ∙ len } in
            let w = whole_of rule f.hs (closed.due rule ds cover m f.hs r_ok len cov is f.hosts) r_ok (hosts_low ch.rows ch.into f.hosts) a in
            found_of (record { cover = cover; level = class_level ds; shape = m }) w.number (from_row rule f.hs ds cover m f.hosts cov (λ n mother. laws.monotone rule (shapes_at ch.rows f.hs) (class_shapes ds) n m up mother app) w w.row.kind refl (facts.row_ok w.number w.row w.at))

        pub completes : (ds : List (Class M C)) → Members k limits leaves ds → ((i : ℕ) (d : Class M C) → At ds i d → In d) → FoundAll ds
        completes ds no_members is = record { hs = []; hosts = no_hosts }
        completes ds (more_members d rest m l ms) is =
            let f = complete d (is 0 d here) m in
            let g = completes rest ms (λ i e a. is (suc i) e (there a)) in
            record { hs = f.host ∷ g.hs; hosts = more_hosts f.host d f.live l g.hosts }

      -- the live hosts of such classes are the packed ones among them, one for each
      pub sound_in : ((c : Class M C) (m : M) → In c → In (record c { shape = m })) → (c : Class M C) (i : ℕ) → In c → IsHost k limits leaves ch c i → IsPacked k limits leaves c
      sound_in same c i is h =
          record {
            member = host_member c i h;
            least = λ m member over.
                let f = complete (record c { shape = m }) (same c m is) member in
                let o = laws.transitive f.live.shape m c.shape f.live.over over in
                let e = same_host c i f.host h m f.live o in
                laws.antisymmetric m c.shape over (subst (λ x. k.over x m ≡ true) e f.live.over);
          }

      pub found_in : (c : Class M C) → In c → IsPacked k limits leaves c → (i : ℕ) × IsHost k limits leaves ch c i
      found_in c is p =
          let f = complete c is p.member in
          let e = p.least f.live.shape (as_member c f.host f.live) f.live.over in
          (f.host, record { row = f.live.row; at = to_get f.live.at; free = Gather.at_free ch.into f.host f.live.free; shape = f.live.shape_is ∙ ap Some e; cover = f.live.cover_is; level = f.live.level_is })

    pub host_once : (c : Class M C) (i j : ℕ) → IsHost k limits leaves ch c i → IsHost k limits leaves ch c j → i ≡ j
    host_once c i j h g = facts.standing.apart i j h.row g.row c.shape c.shape (from_get ch.rows i h.row h.at) (from_get ch.rows j g.row g.at) (Gather.free_at ch.into i h.free) (Gather.free_at ch.into j g.free) h.shape g.shape (h.cover ∙ sym g.cover) (h.level ∙ sym g.level) (laws.reflexive c.shape)

    abbrev pub Any : Class M C → Type 0
    Any c = Unit {0}

    any_closed : NothingPending ch → Closed Any
    any_closed all_done = record { daughters_too = λ rule ds c m r len ms cov is i d a. tt; due = λ rule ds c m hs r len cov is hosts. all_due ch all_done rule hs }

    -- the live hosts are the packed classes, one for each
    pub hosts_are_classes : NothingPending ch → HostsAreClasses k limits leaves ch
    hosts_are_classes all_done =
        record {
          sound = λ c i h. sound_in Any (any_closed all_done) (λ c m is. tt) c i tt h;
          found = λ c p. found_in Any (any_closed all_done) c tt p;
          once = host_once;
        }
