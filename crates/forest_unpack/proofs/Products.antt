-- What rules make of classes, from one call to the next.
use Rattle.std.specs.Prelude.{◌≡◌, ℕ, ◌<◌, ◌≤◌, ◌+◌, ◌*◌, All, Some, List, [], ◌∷◌, ◌++◌, length, map, slice_get}
use Rattle.std.proofs.Common.{Vec, Global, ap, subst, sym, ◌∙◌, arith, drop, get_or}
use Rattle.std.proofs.lemmas.List.{drop_more}
use Rattle.std.proofs.lemmas.List.Elements.{All-push}
use Rattle.std.proofs.lemmas.Nat.{mul-le}
use Rattle.std.specs.Arc.{arc_value}
use Rattle.tree_model.specs.Counts as counts
use Rattle.tree_model.specs.Readings.{Wholes}
use Rattle.tree_model.specs.Lists as model
use Rattle.forest_unpack.specs.declared.chosen.Chosen.{Chosen}
use Rattle.forest_unpack.specs.declared.item.Item.{Item}
use Rattle.forest_unpack.specs.declared.memo.Memo.{Memo}
use Rattle.forest_unpack.specs.declared.rows.GroupRow.{GroupRow}
use Rattle.forest_unpack.specs.declared.rows.GroupRow.TheVariants as rows
use Rattle.forest_unpack.specs.declared.tallies.Class.{Class}
use Rattle.forest_unpack.specs.Items.{IsMadeOf, chosen_items, chosen_of, full_values, item_of, items_of}
use Rattle.forest_unpack.specs.Plans.{Fits, row_of}
use Rattle.forest_unpack.specs.Reached.{IsReached, reached_leaf, reached_phrase}
use Rattle.forest_unpack.specs.Inner.Classes.{AreFit, CountsAllOf, CountsOf, IsFit, IsMore, class_of, classes_at, classes_of, listed}
use Rattle.forest_unpack.specs.Inner.Memos.{Extends, IsFound, IsMemo, IsNumbered, IsReachedItem, Learned, known_in}
use Rattle.forest_unpack.proofs.Adding.{map_append}
use Rattle.forest_unpack.proofs.Memos.{extends_on, memo_on, numbered_push}
use Rattle.forest_unpack.proofs.Raising.{fit_on, pushed_gains, raised_fit, raised_gains, ways_push}

gains_wider : {V : Type 0} {v : V} {n m : ℕ} {old new : List (counts.Class V)} → n ≤ m → counts.Gains v n old new → counts.Gains v m old new
gains_wider low counts.gains_none = counts.gains_none
gains_wider low (counts.gains_new times few) = counts.gains_new times (omega (arith, low, few))
gains_wider low (counts.gains_more i before times at few) = counts.gains_more i before times at (omega (arith, low, few))

pub leaf_named : (named : ℕ → Type 0) (ruled : ℕ → ℕ → Type 0) (hosts : ℕ) (ranks : List ℕ) (host : ℕ) (row : GroupRow) (name : ℕ) → row ≡ rows.Leaf name → Fits named ruled hosts ranks host (row_of row) → named name
leaf_named named ruled hosts ranks host row name is fits = subst (λ r. Fits named ruled hosts ranks host (row_of r)) is fits

few_ways : {V : Type 0} (picked : List (counts.Class V)) (c : counts.Class V) (times ways : ℕ) → times ≤ counts.ways picked → ways ≤ times * c.times → ways ≤ counts.ways (picked ++ c ∷ [])
few_ways picked c times ways few low =
    let p : times * c.times ≤ counts.ways picked * c.times = mul-le times c.times (counts.ways picked) c.times few (omega arith) in
    let q = ways_push picked c in
    subst (λ n. ways ≤ n) (sym q) (omega (arith, low, p))

module _ {X T C W V : Type 0} (value : T → V) (w : Wholes V C) where
  pub learned_on : (a b c : Memo X T C W) → Learned value w a b → Learned value w b c → Learned value w a c
  learned_on a b c f g = record { memo = g.memo; known = extends_on (known_in value a) (known_in value b) (known_in value c) f.known g.known }

  -- one more full structure was numbered
  pub number_learned : (old new : Memo X T C W) → IsMemo value w old → new.answers.items ≡ old.answers.items → Extends (known_in value old) (known_in value new) → Learned value w old new
  number_learned old new right same grow = record { memo = memo_on value w old new same grow right; known = grow }

  -- what is counted of the classes from the ith on completes what was counted so far
  abbrev pub EachOf : ℕ → List V → ℕ → List (List (counts.Class V)) → List (Class X T C W) → ℕ → List (Class X T C W) → List (Class X T C W) → Type 0
  EachOf rule fulls times rest classes i old now =
      (picked : List (counts.Class V)) → counts.fulls_of picked ≡ fulls → times ≤ counts.ways picked → (last : List (counts.Class V)) →
      counts.CountsEach w rule picked (classes_of value (drop i classes)) rest (classes_of value now) last → counts.CountsEach w rule picked (classes_of value classes) rest (classes_of value old) last

  pub made_none : (rule : ℕ) (fulls : List V) (times : ℕ) (old : List (Class X T C W)) → CountsOf value w rule fulls times old old
  made_none rule fulls times old picked e few = counts.counts_none

  pub each_none : (rule : ℕ) (fulls : List V) (times : ℕ) (rest : List (List (counts.Class V))) (classes old : List (Class X T C W)) → EachOf rule fulls times rest classes 0 old old
  each_none rule fulls times rest classes old picked e few last more = more

  module _ (named : ℕ → Type 0) where
    pub made_raised : (known : List V) (rule : ℕ) (fulls : List V) (times number : ℕ) (old new : List (Class X T C W)) → IsFound w known rule fulls (Some number) → IsMore number times old new → All (IsFit value w named known) old → CountsOf value w rule fulls times old new
    made_raised known rule fulls times number old new found more all picked e few =
        counts.counts_some found.0 (classes_of value new) (subst (λ vs. w.full rule vs found.0) (sym e) found.2) (gains_wider few (raised_gains value w named known more.place times number old new found.0 more.raised more.at all found.1))

    pub made_pushed : (rule : ℕ) (chosen : Chosen X T C W) (item : Item X T C W) (times : ℕ) (old new : List (Class X T C W)) → IsMadeOf value w rule (chosen_of value chosen) (Some item) → new ≡ old ++ record { item = item; times = times } ∷ [] → CountsOf value w rule (full_values value chosen) times old new
    made_pushed rule chosen item times old new made is picked e few =
        let one : Class X T C W = record { item = item; times = times } in
        let same : times ≤ times = omega arith in
        counts.counts_some (value (arc_value item.full)) (classes_of value new) (subst (λ vs. w.full rule vs (value (arc_value item.full))) (sym e) made.0) (gains_wider few (pushed_gains value w named times old new one is same))

    pub more_fit : (known : List V) (number times : ℕ) (old new : List (Class X T C W)) → IsMore number times old new → All (IsFit value w named known) old → All (IsFit value w named known) new
    more_fit known number times old new more all = raised_fit value w named known more.place times old new more.raised all

    push_fit : (old new : List V) → Extends old new → (made more : List (Class X T C W)) (one : Class X T C W) → All (IsFit value w named old) made → more ≡ made ++ one ∷ [] → IsFit value w named new one → All (IsFit value w named new) more
    push_fit old new grow made more one all is fit = subst (All (IsFit value w named new)) (sym is) (All-push (IsFit value w named new) made one (fit_on value w named old new grow made all) fit)

    -- the class of a phrase
    pub phrase_fit : (old new : List V) → Extends old new → (rule : ℕ) (parts : List (model.Item V)) (item : Item X T C W) (times : ℕ) (made more : List (Class X T C W)) → All (IsFit value w named old) made → more ≡ made ++ record { item = item; times = times } ∷ [] → IsNumbered value new item → IsMadeOf value w rule parts (Some item) → All (IsFit value w named new) more
    phrase_fit old new grow rule parts item times made more all is numbered so = push_fit old new grow made more (record { item = item; times = times }) all is (numbered, reached_phrase rule (map (λ part. part.full) parts) (value (arc_value item.full)) so.0)

    -- the class of a leaf
    pub leaf_fit : (old new : List V) → Extends old new → (name : ℕ) (item : Item X T C W) (times : ℕ) (made more : List (Class X T C W)) → All (IsFit value w named old) made → more ≡ made ++ record { item = item; times = times } ∷ [] → IsNumbered value new item → named name → value (arc_value item.full) ≡ w.leaf_full name → All (IsFit value w named new) more
    leaf_fit old new grow name item times made more all is numbered so same = push_fit old new grow made more (record { item = item; times = times }) all is (numbered, subst (IsReached w named) (sym same) (reached_leaf name so))

    -- what fits still does where more is known
    pub table_on : (old new : List V) → Extends old new → (table : List (Vec (Class X T C W) Global)) → AreFit value w named old table → AreFit value w named new table
    table_on old new grow table fit h = fit_on value w named old new grow (listed table h) (fit h)

    -- the classes of a host
    pub list_fit : (known : List V) (table : List (Vec (Class X T C W) Global)) (host : ℕ) (classes : List (Class X T C W)) → classes ≡ listed table host → AreFit value w named known table → All (IsFit value w named known) classes
    list_fit known table host classes is fit = subst (All (IsFit value w named known)) (sym is) (fit host)

    one_fit : (known : List V) (classes : List (Class X T C W)) (i : ℕ) (class : Class X T C W) → All (IsFit value w named known) classes → i < length classes → class ≡ get_or classes i class → IsFit value w named known class
    one_fit known classes i class all low at = subst (IsFit value w named known) (sym at) (all i class low)

    -- one more daughter chosen
    pub next_reached : (known : List V) (classes : List (Class X T C W)) (i : ℕ) (class : Class X T C W) (front next : List (Item X T C W)) → All (IsFit value w named known) classes → i < length classes → class ≡ get_or classes i class → next ≡ front ++ class.item ∷ [] → All (IsReachedItem value w named) front → All (IsReachedItem value w named) next
    next_reached known classes i class front next all low at is before =
        subst (All (IsReachedItem value w named)) (sym is) (All-push (IsReachedItem value w named) front class.item before (one_fit known classes i class all low at).1)

    pub next_numbered : (old known : List V) → Extends old known → (classes : List (Class X T C W)) (i : ℕ) (class : Class X T C W) (front next : List (Item X T C W)) → All (IsFit value w named known) classes → i < length classes → class ≡ get_or classes i class → next ≡ front ++ class.item ∷ [] → All (IsNumbered value old) front → All (IsNumbered value known) next
    next_numbered old known grow classes i class front next all low at is before = numbered_push value old known grow front next class.item before is (one_fit known classes i class all low at).0

    pub leaf_raised : (known : List V) (row : GroupRow) (name number : ℕ) (v : V) (table : ℕ → List (counts.Class V)) (old new : List (Class X T C W)) → row ≡ rows.Leaf name → slice_get known number ≡ Some v → v ≡ w.leaf_full name → IsMore number 1 old new → All (IsFit value w named known) old → counts.CountsRow w table (row_of row) (classes_of value old) (classes_of value new)
    leaf_raised known row name number v table old new is knows same more all =
        subst (λ r. counts.CountsRow w table (row_of r) (classes_of value old) (classes_of value new)) (sym is) (counts.row_leaf name (subst (λ z. counts.Gains z 1 (classes_of value old) (classes_of value new)) same (raised_gains value w named known more.place 1 number old new v more.raised more.at all knows)))

    pub leaf_pushed : (row : GroupRow) (name : ℕ) (item : Item X T C W) (table : ℕ → List (counts.Class V)) (old new : List (Class X T C W)) → row ≡ rows.Leaf name → value (arc_value item.full) ≡ w.leaf_full name → new ≡ old ++ record { item = item; times = 1 } ∷ [] → counts.CountsRow w table (row_of row) (classes_of value old) (classes_of value new)
    leaf_pushed row name item table old new is same pushed =
        let few : 1 ≤ 1 = omega arith in
        subst (λ r. counts.CountsRow w table (row_of r) (classes_of value old) (classes_of value new)) (sym is) (counts.row_leaf name (subst (λ z. counts.Gains z 1 (classes_of value old) (classes_of value new)) same (pushed_gains value w named 1 old new (record { item = item; times = 1 }) pushed few)))

  -- the full structures of daughters, with one more
  pub next_fulls : (chosen next : Chosen X T C W) (item : Item X T C W) → chosen_items next ≡ chosen_items chosen ++ item ∷ [] → full_values value next ≡ full_values value chosen ++ value (arc_value item.full) ∷ []
  next_fulls chosen next item is =
      let full : model.Item V → V = λ part. part.full in
      ap (λ zs. map full (items_of value zs)) is ∙ ap (map full) (map_append (item_of value) (chosen_items chosen) (item ∷ [])) ∙ map_append full (items_of value (chosen_items chosen)) (item_of value item ∷ [])

  pub no_fulls : (chosen : Chosen X T C W) → chosen_items chosen ≡ [] → full_values value chosen ≡ []
  no_fulls chosen none = ap (λ zs. map (λ (part : model.Item V). part.full) (items_of value zs)) none

  -- one more class
  pub each_next : (rule : ℕ) (fulls next : List V) (times ways : ℕ) (rest : List (List (counts.Class V))) (classes : List (Class X T C W)) (i : ℕ) (class : Class X T C W) (old now new : List (Class X T C W)) → i < length classes → class ≡ get_or classes i class → next ≡ fulls ++ value (arc_value class.item.full) ∷ [] → ways ≤ times * class.times → CountsAllOf value w rule next ways rest now new → EachOf rule fulls times rest classes i old now → EachOf rule fulls times rest classes (i + 1) old new
  each_next rule fulls next times ways rest classes i class old now new low at is few all before picked e fit last more =
      let c : counts.Class V = class_of value class in
      let front : counts.fulls_of (picked ++ c ∷ []) ≡ next = map_append (λ (d : counts.Class V). d.full) picked (c ∷ []) ∙ ap (λ zs. zs ++ c.full ∷ []) e ∙ sym is in
      let one = all (picked ++ c ∷ []) front (few_ways picked c times ways fit few) in
      let cut : drop i classes ≡ class ∷ drop (i + 1) classes = drop_more classes i class low ∙ ap (λ z. z ∷ drop (i + 1) classes) (sym at) in
      before picked e fit last (subst (λ zs. counts.CountsEach w rule picked (classes_of value zs) rest (classes_of value now) last) (sym cut) (counts.each_more one more))

  -- the classes of the first further host, as far as they were gone through
  pub each_over : (rule : ℕ) (fulls : List V) (times : ℕ) (table : List (Vec (Class X T C W) Global)) (host : ℕ) (more rest : List ℕ) (classes : List (Class X T C W)) (i : ℕ) (old now : List (Class X T C W)) → rest ≡ host ∷ more → classes ≡ listed table host → EachOf rule fulls times (map (classes_at value table) more) classes i old now → CountsAllOf value w rule fulls times (map (classes_at value table) rest) old now
  each_over rule fulls times table host more rest classes i old now is same each picked e few =
      let there : classes_of value classes ≡ classes_at value table host = ap (classes_of value) same in
      let one = each picked e few (classes_of value now) counts.each_stops in
      let first = subst (λ cs. counts.CountsEach w rule picked cs (map (classes_at value table) more) (classes_of value old) (classes_of value now)) there one in
      subst (λ ds. counts.CountsAll w rule picked (map (classes_at value table) ds) (classes_of value old) (classes_of value now)) (sym is) (counts.one_picked first)

  -- no further host
  pub all_last : (rule : ℕ) (fulls : List V) (times : ℕ) (table : List (Vec (Class X T C W) Global)) (rest : List ℕ) (old new : List (Class X T C W)) → rest ≡ [] → CountsOf value w rule fulls times old new → CountsAllOf value w rule fulls times (map (classes_at value table) rest) old new
  all_last rule fulls times table rest old new is made picked e few =
      subst (λ ds. counts.CountsAll w rule picked (map (classes_at value table) ds) (classes_of value old) (classes_of value new)) (sym is) (counts.all_picked (made picked e few))

  pub whole_counts : (row : GroupRow) (rule : ℕ) (daughters : Vec ℕ Global) (ds : List ℕ) (fulls : List V) (table : List (Vec (Class X T C W) Global)) (old new : List (Class X T C W)) → row ≡ rows.Whole rule daughters → ds ≡ daughters.items → fulls ≡ [] → CountsAllOf value w rule fulls 1 (map (classes_at value table) ds) old new → counts.CountsRow w (classes_at value table) (row_of row) (classes_of value old) (classes_of value new)
  whole_counts row rule daughters ds fulls table old new is same none all =
      let few : 1 ≤ 1 = omega arith in
      let made = subst (λ zs. counts.CountsAll w rule [] (map (classes_at value table) zs) (classes_of value old) (classes_of value new)) same (all [] (sym none) few) in
      subst (λ r. counts.CountsRow w (classes_at value table) (row_of r) (classes_of value old) (classes_of value new)) (sym is) (counts.row_whole rule daughters.items made)
