-- Lists on their way, each waiting for the one behind it.
use Rattle.std.specs.Prelude.{◌≡◌, ℕ, ◌+◌, ◌-◌, ◌*◌, ◌<◌, ◌≤◌, Bool, true, false, is_some, MatchOption, Option, Some, None, All, List, [], ◌∷◌, ◌++◌, length, map, slice_set, refl}
use Rattle.std.proofs.Common.{Vec, Global, ap, subst, sym, ◌∙◌, arith, length-append, get_or, take, zero, suc}
use Rattle.std.proofs.Math.Nat.{add-mul}
use Rattle.chart_core.specs.declared.Row.{Row}
use Rattle.tree_model.specs.Readings.{Wholes}
use Rattle.tree_model.specs.Lists as model
use Rattle.forest_unpack.specs.declared.item.Item.{Item}
use Rattle.forest_unpack.specs.declared.listing.Making.{Making}
use Rattle.forest_unpack.specs.declared.memo.Memo.{Memo}
use Rattle.forest_unpack.specs.declared.rows.GroupRow.{GroupRow}
use Rattle.forest_unpack.specs.Groups.{IsTold}
use Rattle.forest_unpack.specs.Items.{items_of, list_at, IsListed, IsMade, AllListed}
use Rattle.forest_unpack.specs.Plans.{row_of, rank_at, AreLower, Fits, IsPlan, IsGathered, GatherAll, Gave, Grows, all_none}
use Rattle.forest_unpack.specs.declared.sifting.LeftOut.{LeftOut}
use Rattle.forest_unpack.specs.Sifted.{AreGathered, IsSifted}
use Rattle.forest_unpack.specs.Inner.Memos.{Extends, IsNumbered, StaysReady, known_in}
use Rattle.forest_unpack.specs.Inner.Making.{daughters_in, unlisted_in, left_of, AreMaking, AreUnder, IsBegun, IsLacked, IsLower, IsMaking, IsRoot, Stepped}
use Rattle.forest_unpack.proofs.Filling.{has_mapped, get_map, length_map, one_more, all_rows, some_rows}
use Rattle.forest_unpack.proofs.Growing.{all_grows, fresh_at, grows_same, made_at, put_list, set_other, weaker}
use Rattle.forest_unpack.proofs.Memos.{numbered_on, numbered_none, put_ready}

-- sums of products
positive : (n : ℕ) → 0 < n + 1
positive n = omega arith

less_made : (a b most n : ℕ) → b ≡ a + (most + 2) → n ≤ most → a - n < b - (n + 1)
less_made a b most n e few = omega (arith, e, few)

less_waits : (b most n : ℕ) → most + 2 ≤ b → n ≤ most → b - (n + 2) < b - (n + 1)
less_waits b most n wide few = omega (arith, wide, few)

once : (k : ℕ) → 1 * k ≡ k
once k = omega arith

more_than : (b a k : ℕ) → b ≡ a + k → k ≤ b
more_than b a k e = omega (arith, e)

next_is : (v : ℕ) → v + 1 ≡ suc v
next_is v = omega arith

product : (u v most : ℕ) → v + 1 ≡ u → u * (most + 2) ≡ v * (most + 2) + (most + 2)
product u v most e = sym (ap (λ z. z * (most + 2)) e) ∙ add-mul v 1 (most + 2) ∙ ap (λ z. v * (most + 2) + z) (once (most + 2))

wide : (u most : ℕ) → 0 < u → most + 2 ≤ u * (most + 2)
wide zero most low = absurd (omega (arith, low))
wide (suc v) most low = more_than (suc v * (most + 2)) (v * (most + 2)) (most + 2) (product (suc v) v most (next_is v))

-- each daughter of a row that fits a host is a host of a lower rank
lower_has : (hosts : ℕ) (ranks : List ℕ) (host : ℕ) (ds : List ℕ) → AreLower hosts ranks host ds → (d : ℕ) → model.Has d ds → (d < hosts) × (rank_at ranks d < rank_at ranks host)
lower_has hosts ranks host [] low d has = elim has [ ]
lower_has hosts ranks host (x ∷ ds) low _ model.has_here = (low.0, low.1)
lower_has hosts ranks host (x ∷ ds) low d (model.has_there has) = lower_has hosts ranks host ds low.2 d has

pub daughters_low : (named : ℕ → Type 0) (ruled : ℕ → ℕ → Type 0) (hosts : ℕ) (ranks : List ℕ) (host : ℕ) (row : model.GroupRow) → Fits named ruled hosts ranks host row → (d : ℕ) → model.Has d (daughters_in row) → (d < hosts) × (rank_at ranks d < rank_at ranks host)
daughters_low named ruled hosts ranks host (model.a_leaf name) fits d has = elim has [ ]
daughters_low named ruled hosts ranks host (model.a_whole rule ds) fits d has = lower_has hosts ranks host ds fits.2 d has

module _ {X T C W : Type 0} where
  -- how many hosts have no list, where one more has
  set_unlisted : (table : List (Option (Vec (Item X T C W) Global))) (host : ℕ) (made : Vec (Item X T C W) Global) → host < length table → (IsListed table host → ⊥) → unlisted_in (slice_set table host (Some made)) + 1 ≡ unlisted_in table
  set_unlisted [] host made low free = absurd (omega (arith, low))
  set_unlisted (None ∷ xs) zero made low free = refl
  set_unlisted (Some m ∷ xs) zero made low free = absurd (free tt)
  set_unlisted (None ∷ xs) (suc n) made low free = ap (λ n. n + 1) (set_unlisted xs n made (omega (arith, low)) free)
  set_unlisted (Some m ∷ xs) (suc n) made low free = set_unlisted xs n made (omega (arith, low)) free

  one_unlisted : (table : List (Option (Vec (Item X T C W) Global))) (host : ℕ) → host < length table → (IsListed table host → ⊥) → 0 < unlisted_in table
  one_unlisted [] host low free = absurd (omega (arith, low))
  one_unlisted (None ∷ xs) zero low free = positive (unlisted_in xs)
  one_unlisted (Some m ∷ xs) zero low free = absurd (free tt)
  one_unlisted (None ∷ xs) (suc n) low free = positive (unlisted_in xs)
  one_unlisted (Some m ∷ xs) (suc n) low free = one_unlisted xs n (omega (arith, low)) free

  longer : (lists : List (Making X T C W)) (list : Making X T C W) → length (lists ++ list ∷ []) ≡ length lists + 1
  longer lists list = length-append lists (list ∷ [])

  module _ (table : List (Option (Vec (Item X T C W) Global))) (lists : List (Making X T C W)) (list : Making X T C W) (host : ℕ) (low : host < length table) (free : IsListed table host → ⊥) (most : ℕ) (short : length (lists ++ list ∷ []) ≤ most + 1) where
    few : length lists ≤ most
    few = let one = longer lists list in omega (arith, short, one)

    -- a list was made
    pub falls_made : (made : Vec (Item X T C W) Global) → left_of most (slice_set table host (Some made)) lists < left_of most table (lists ++ list ∷ [])
    falls_made made =
        let v = unlisted_in (slice_set table host (Some made)) in
        let p = product (unlisted_in table) v most (set_unlisted table host made low free) in
        let less = less_made (v * (most + 2)) (unlisted_in table * (most + 2)) most (length lists) p few in
        subst (λ n. left_of most (slice_set table host (Some made)) lists < unlisted_in table * (most + 2) - n) (sym (longer lists list)) less

    -- one more list has to wait
    pub falls_waits : (again needed : Making X T C W) → left_of most table ((lists ++ again ∷ []) ++ needed ∷ []) < left_of most table (lists ++ list ∷ [])
    falls_waits again needed =
        let first = longer lists again in
        let second = longer (lists ++ again ∷ []) needed in
        let two : length ((lists ++ again ∷ []) ++ needed ∷ []) ≡ length lists + 2 = omega (arith, first, second) in
        let less = less_waits (unlisted_in table * (most + 2)) most (length lists) (wide (unlisted_in table) most (one_unlisted table host low free)) few in
        let wider = subst (λ n. unlisted_in table * (most + 2) - (length lists + 2) < unlisted_in table * (most + 2) - n) (sym (longer lists list)) less in
        subst (λ n. unlisted_in table * (most + 2) - n < left_of most table (lists ++ list ∷ [])) (sym two) wider

  -- the outermost list
  pub root_waits : (table : List (Option (Vec (Item X T C W) Global))) (root : ℕ) (lists : List (Making X T C W)) (list again needed : Making X T C W) → again.host ≡ list.host → IsRoot table root (lists ++ list ∷ []) → IsRoot table root ((lists ++ again ∷ []) ++ needed ∷ [])
  root_waits table root [] list again needed e is = e ∙ is
  root_waits table root (x ∷ xs) list again needed e is = is

  pub root_made : (old new : List (Option (Vec (Item X T C W) Global))) (root : ℕ) (lists : List (Making X T C W)) (list : Making X T C W) → IsListed new list.host → IsRoot old root (lists ++ list ∷ []) → IsRoot new root lists
  root_made old new root [] list there is = subst (IsListed new) is there
  root_made old new root (x ∷ xs) list there is = is

module _ {X T C W : Type 0} (ranks : List ℕ) where
  -- all have higher ranks
  abbrev pub AreOver : ℕ → List (Making X T C W) → Type 0
  AreOver rank [] = Unit {0}
  AreOver rank (list ∷ lists) = (rank < rank_at ranks list.host) × AreOver rank lists

  under_front : (rank : ℕ) (lists : List (Making X T C W)) (list : Making X T C W) → AreUnder ranks rank (lists ++ list ∷ []) → AreUnder ranks rank lists
  under_front rank [] list under = tt
  under_front rank (x ∷ xs) list under = (under.0, under_front rank xs list under.1)

  under_last : (rank : ℕ) (lists : List (Making X T C W)) (list : Making X T C W) → AreUnder ranks rank (lists ++ list ∷ []) → rank_at ranks list.host < rank
  under_last rank [] list under = under.0
  under_last rank (x ∷ xs) list under = under_last rank xs list under.1

  under_more : (rank : ℕ) (lists : List (Making X T C W)) (list : Making X T C W) → AreUnder ranks rank lists → rank_at ranks list.host < rank → AreUnder ranks rank (lists ++ list ∷ [])
  under_more rank [] list under low = (low, tt)
  under_more rank (x ∷ xs) list under low = (under.0, under_more rank xs list under.1 low)

  over_more : (rank : ℕ) (lists : List (Making X T C W)) (list : Making X T C W) → AreOver rank lists → rank < rank_at ranks list.host → AreOver rank (lists ++ list ∷ [])
  over_more rank [] list over low = (low, tt)
  over_more rank (x ∷ xs) list over low = (over.0, over_more rank xs list over.1 low)

  over_lower : (rank below : ℕ) (lists : List (Making X T C W)) → below < rank → AreOver rank lists → AreOver below lists
  over_lower rank below [] low over = tt
  over_lower rank below (x ∷ xs) low over = (let first = over.0 in omega (arith, low, first), over_lower rank below xs low over.1)

module _ {X T C W V Y S D U B : Type 0} (value : T → V) (w : Wholes V C) (rows : List (Row Y S D U B)) where
  module _ (cut : Bool) (known : List V) (table : List (Option (Vec (Item X T C W) Global))) (ranks : List ℕ) where
    -- the lists that wait, and the one behind them
    front : (lists : List (Making X T C W)) (list : Making X T C W) → AreMaking value w cut rows known table ranks (lists ++ list ∷ []) → AreMaking value w cut rows known table ranks lists
    front [] list are = tt
    front (x ∷ xs) list are = (are.0, under_front ranks (rank_at ranks x.host) xs list are.1, front xs list are.2)

    pub last : (lists : List (Making X T C W)) (list : Making X T C W) → AreMaking value w cut rows known table ranks (lists ++ list ∷ []) → IsMaking value w cut rows known table list
    last [] list are = are.0
    last (x ∷ xs) list are = last xs list are.2

    over : (lists : List (Making X T C W)) (list : Making X T C W) → AreMaking value w cut rows known table ranks (lists ++ list ∷ []) → AreOver ranks (rank_at ranks list.host) lists
    over [] list are = tt
    over (x ∷ xs) list are = (under_last ranks (rank_at ranks x.host) xs list are.1, over xs list are.2)

    more : (lists : List (Making X T C W)) (list : Making X T C W) → AreMaking value w cut rows known table ranks lists → AreOver ranks (rank_at ranks list.host) lists → IsMaking value w cut rows known table list → AreMaking value w cut rows known table ranks (lists ++ list ∷ [])
    more [] list are above is = (is, tt, tt)
    more (x ∷ xs) list are above is = (are.0, under_more ranks (rank_at ranks x.host) xs list are.1 above.0, more xs list are.2 above.1 is)

    bounded : (list : Making X T C W) (lists : List (Making X T C W)) → AreUnder ranks (rank_at ranks list.host) lists → AreMaking value w cut rows known table ranks lists → length lists ≤ rank_at ranks list.host
    bounded list [] under are = omega arith
    bounded list (x ∷ xs) under are = let low = under.0 in let rest = bounded x xs are.1 are.2 in omega (arith, low, rest)

    -- no more lists are on their way than ranks are up to that of the outermost
    pub few_wait : (root : ℕ) (lists : List (Making X T C W)) → AreMaking value w cut rows known table ranks lists → IsRoot table root lists → length lists ≤ rank_at ranks root + 1
    few_wait root [] are is = omega arith
    few_wait root (x ∷ xs) are is =
        let all = bounded x xs are.1 are.2 in
        let same = ap (rank_at ranks) is in
        omega (arith, all, same)

    -- the first list
    pub one_waits : (list : Making X T C W) (lists : List (Making X T C W)) → lists ≡ [] ++ list ∷ [] → IsMaking value w cut rows known table list → AreMaking value w cut rows known table ranks lists
    one_waits list lists e is = subst (AreMaking value w cut rows known table ranks) (sym e) (is, tt, tt)

  -- a list that was begun is on its way
  pub begun : (cut : Bool) (known : List V) (table : List (Option (Vec (Item X T C W) Global))) (host : ℕ) (list : Making X T C W) → host < length rows → (IsListed table host → ⊥) → IsBegun rows host list → IsMaking value w cut rows known table list
  begun cut known table host list low free is = record {
    host = subst (λ h. h < length rows) (sym is.host_is) low;
    told = subst (λ h. IsTold rows h (map row_of list.group.items)) (sym is.host_is) is.told;
    gone = subst (λ n. n ≤ length list.group.items) (sym is.next) (omega arith);
    gave = subst (λ n. GatherAll w cut (list_at value table) (IsListed table) (take n (map row_of list.group.items)) (items_of value list.made.items)) (sym is.next)
        (subst (λ zs. GatherAll w cut (list_at value table) (IsListed table) [] (items_of value zs)) (sym is.made) all_none);
    numbered = numbered_none value known list.made.items is.made;
    unlisted = λ there. free (subst (IsListed table) is.host_is there);
  }

  module _ (c d : Bool) (go : c ≡ true → d ≡ true) (old new : List V) (grow : Extends old new) where
    -- a list stays on its way while a table grows elsewhere
    making_on : (table after : List (Option (Vec (Item X T C W) Global))) → Grows value table after → (list : Making X T C W) → (IsListed after list.host → ⊥) → IsMaking value w c rows old table list → IsMaking value w d rows new after list
    making_on table after grows list free is = record {
      host = is.host;
      told = is.told;
      gone = is.gone;
      gave = all_grows value w c d go table after grows is.gave;
      numbered = numbered_on value old new grow list.made.items is.numbered;
      unlisted = free;
    }

    lists_on : (table after : List (Option (Vec (Item X T C W) Global))) → Grows value table after → (ranks : List ℕ) (rank : ℕ) → ((h : ℕ) → rank < rank_at ranks h → (IsListed table h → ⊥) → IsListed after h → ⊥) → (lists : List (Making X T C W)) → AreOver ranks rank lists → AreMaking value w c rows old table ranks lists → AreMaking value w d rows new after ranks lists
    lists_on table after grows ranks rank free [] above are = tt
    lists_on table after grows ranks rank free (x ∷ xs) above are = (
      making_on table after grows x (free x.host above.0 (are.0).unlisted) are.0,
      are.1,
      lists_on table after grows ranks rank free xs above.1 are.2,
    )

    -- one more row was gone through
    pub row_gone : (table : List (Option (Vec (Item X T C W) Global))) (list : Making X T C W) (row : GroupRow) (made : Vec (Item X T C W) Global) → list.next < length list.group.items → row ≡ get_or list.group.items list.next row → IsMaking value w c rows old table list →
        Gave value w d table row list.made.items made.items → All (IsNumbered value new) made.items → IsMaking value w d rows new table (record { host = list.host; group = list.group; next = list.next + 1; made = made; most = list.most })
    row_gone table list row made low at is gave numbered = record {
      host = is.host;
      told = is.told;
      gone = omega (arith, low);
      gave = one_more value w c d go table table (grows_same value table) (map row_of list.group.items) list.next row list.made.items made.items (omega (arith, low, length_map row_of list.group.items)) (get_map row_of list.group.items list.next row at) is.gave gave;
      numbered = numbered;
      unlisted = is.unlisted;
    }

    -- a list that doesn't change
    pub list_same : (table : List (Option (Vec (Item X T C W) Global))) (list : Making X T C W) → IsMaking value w c rows old table list → IsMaking value w d rows new table list
    list_same table list is = making_on table table (grows_same value table) list is.unlisted is

    module _ (table : List (Option (Vec (Item X T C W) Global))) (ranks : List ℕ) (lists : List (Making X T C W)) (list : Making X T C W) (are : AreMaking value w c rows old table ranks (lists ++ list ∷ [])) where
      -- the list goes on to wait, and the one that it waits for stands behind it
      pub lists_wait : (again needed : Making X T C W) → again.host ≡ list.host → IsMaking value w d rows new table again → IsMaking value w d rows new table needed → rank_at ranks needed.host < rank_at ranks list.host → AreMaking value w d rows new table ranks ((lists ++ again ∷ []) ++ needed ∷ [])
      lists_wait again needed same is next lower =
          let above = over c old table ranks lists list are in
          let kept = lists_on table table (grows_same value table) ranks (rank_at ranks list.host) (λ h low free there. free there) lists above (front c old table ranks lists list are) in
          let back = more d new table ranks lists again kept (subst (λ h. AreOver ranks (rank_at ranks h) lists) (sym same) above) is in
          let below = over_more ranks (rank_at ranks needed.host) lists again (over_lower ranks (rank_at ranks list.host) (rank_at ranks needed.host) lists lower above) (subst (λ h. rank_at ranks needed.host < rank_at ranks h) (sym same) lower) in
          more d new table ranks (lists ++ again ∷ []) needed back below next

      -- the list was made, and those that wait go on
      pub lists_made : (host : ℕ) (made : Vec (Item X T C W) Global) → host ≡ list.host → host < length table → Grows value table (slice_set table host (Some made)) → AreMaking value w d rows new (slice_set table host (Some made)) ranks lists
      lists_made host made same low grows =
          let above = subst (λ h. AreOver ranks (rank_at ranks h) lists) (sym same) (over c old table ranks lists list are) in
          lists_on table (slice_set table host (Some made)) grows ranks (rank_at ranks host) elsewhere lists above (front c old table ranks lists list are)
        where
          elsewhere : (h : ℕ) → rank_at ranks host < rank_at ranks h → (IsListed table h → ⊥) → IsListed (slice_set table host (Some made)) h → ⊥
          elsewhere h over free there =
              let apart : h ≡ host → ⊥ = λ e. let same = ap (rank_at ranks) e in absurd (omega (arith, over, same)) in
              free (subst IsMade (set_other value table host made h apart) there)

  module _ (left_out : LeftOut) (c d : Bool) (go : c ≡ true → d ≡ true) (old new : Memo X T C W) (table : List (Option (Vec (Item X T C W) Global))) (ranks : List ℕ) (lists : List (Making X T C W)) (list again : Making X T C W)
      (are : AreMaking value w c rows (known_in value old) table ranks (lists ++ list ∷ [])) (gathered : AreGathered value w left_out c rows table) (ready : StaysReady value w old new table)
      (same : again.host ≡ list.host) (is : IsMaking value w d rows (known_in value new) table again) (counted : length table ≡ length rows) where
    within : again.host < length table
    within = let inside = is.host in omega (arith, inside, counted)

    -- the list was made, and this is left of it
    pub stepped_made : (kept : Vec (Item X T C W) Global) → IsGathered value w d rows table again.host (items_of value again.made.items) → IsSifted left_out (items_of value again.made.items) (items_of value kept.items) → All (IsNumbered value (known_in value new)) kept.items → Stepped value w left_out rows ranks c d old new table (slice_set table again.host (Some kept)) (lists ++ list ∷ []) lists
    stepped_made kept whole sifted numbered =
        let put = put_list value w left_out d rows table again.host kept within is.unlisted (weaker value w left_out c d go rows table gathered) (record { all = items_of value again.made.items; gathered = whole; sifted = sifted }) in
        record {
          grows = put.grows;
          ready = put_ready value w old new table again.host kept ready numbered;
          cut = go;
          gathered = put.gathered;
          lists_are = lists_made c d go (known_in value old) (known_in value new) ready.known table ranks lists list are again.host kept same within put.grows;
          root = λ root at. root_made table (slice_set table again.host (Some kept)) root lists list (subst (IsListed (slice_set table again.host (Some kept))) same put.there) at;
          falls = λ most short. falls_made table lists list again.host within is.unlisted most short kept;
        }

    -- the list waits for one that was begun
    pub stepped_waits : (d_host : ℕ) (needed : Making X T C W) → IsLower (length rows) ranks table again.host d_host → IsBegun rows d_host needed → Stepped value w left_out rows ranks c d old new table table (lists ++ list ∷ []) ((lists ++ again ∷ []) ++ needed ∷ [])
    stepped_waits d_host needed lower fresh =
        let next = begun d (known_in value new) table d_host needed lower.there lower.unlisted fresh in
        let under = subst (λ h. rank_at ranks h < rank_at ranks list.host) (sym fresh.host_is) (subst (λ h. rank_at ranks d_host < rank_at ranks h) same lower.lower) in
        record {
          grows = grows_same value table;
          ready = ready;
          cut = go;
          gathered = weaker value w left_out c d go rows table gathered;
          lists_are = lists_wait c d go (known_in value old) (known_in value new) ready.known table ranks lists list are again needed same is next under;
          root = λ root at. root_waits table root lists list again needed same at;
          falls = λ most short. falls_waits table lists list again.host within is.unlisted most short again needed;
        }

  -- all rows were gone through
  pub whole : (cut : Bool) (known : List V) (table : List (Option (Vec (Item X T C W) Global))) (list : Making X T C W) → length list.group.items ≤ list.next → IsMaking value w cut rows known table list → IsGathered value w cut rows table list.host (items_of value list.made.items)
  whole cut known table list over is = record {
    told = map row_of list.group.items;
    is = is.told;
    gather = all_rows value w cut table (map row_of list.group.items) list.next (items_of value list.made.items) (let low = is.gone in omega (arith, over, low, length_map row_of list.group.items)) is.gave;
  }

  -- the list is full
  pub full : (cut : Bool) (known : List V) (table : List (Option (Vec (Item X T C W) Global))) (list : Making X T C W) → IsMaking value w cut rows known table list → IsGathered value w true rows table list.host (items_of value list.made.items)
  full cut known table list is = record {
    told = map row_of list.group.items;
    is = is.told;
    gather = some_rows value w cut table (map row_of list.group.items) list.next (items_of value list.made.items) is.gave;
  }

  -- the row at which a list stands fits its host
  pub row_fits : (named : ℕ → Type 0) (ruled : ℕ → ℕ → Type 0) (last before : List (Option ℕ)) (ranks : List ℕ) → IsPlan named ruled rows last before ranks → (cut : Bool) (known : List V) (table : List (Option (Vec (Item X T C W) Global))) (list : Making X T C W) (row : GroupRow) → IsMaking value w cut rows known table list → list.next < length list.group.items → row ≡ get_or list.group.items list.next row → Fits named ruled (length rows) ranks list.host (row_of row)
  row_fits named ruled last before ranks plan cut known table list row is low at = plan.fits list.host (map row_of list.group.items) is.told (row_of row) (has_mapped row_of list.group.items list.next row low at)

  -- the daughter for which a list waits
  pub waits_for : (named : ℕ → Type 0) (ruled : ℕ → ℕ → Type 0) (ranks : List ℕ) (table : List (Option (Vec (Item X T C W) Global))) (host d : ℕ) (row : model.GroupRow) → Fits named ruled (length rows) ranks host row → IsLacked table d (daughters_in row) → IsLower (length rows) ranks table host d
  waits_for named ruled ranks table host d row fits lacked =
      let low = daughters_low named ruled (length rows) ranks host row fits d lacked.one in
      record { there = low.0; lower = low.1; unlisted = lacked.unlisted }

module _ {X T C W : Type 0} (table : List (Option (Vec (Item X T C W) Global))) (host : ℕ) (more hosts : List ℕ) (e : hosts ≡ host ∷ more) where
  -- hosts from the left, and whether they have lists
  pub first_low : ((d : ℕ) → model.Has d hosts → d < length table) → host < length table
  first_low low = low host (subst (model.Has host) (sym e) model.has_here)

  pub rest_low : ((d : ℕ) → model.Has d hosts → d < length table) → (d : ℕ) → model.Has d more → d < length table
  rest_low low d has = low d (subst (model.Has d) (sym e) (model.has_there has))

  pub first_lacks : (x : Option (Vec (Item X T C W) Global)) → host < length table → x ≡ get_or table host x → is_some x ≡ false → IsLacked table host hosts
  first_lacks x low at none = record { one = subst (model.Has host) (sym e) model.has_here; unlisted = fresh_at table host x low at none }

  pub rest_lacks : (x : Option (Vec (Item X T C W) Global)) → host < length table → x ≡ get_or table host x → is_some x ≡ true → (r : Option ℕ) → MatchOption r (AllListed table more) (λ d. IsLacked table d more) → MatchOption r (AllListed table hosts) (λ d. IsLacked table d hosts)
  rest_lacks x low at there None all = subst (AllListed table) (sym e) (made_at table host x low at there, all)
  rest_lacks x low at there (Some d) lacked = record { one = subst (model.Has d) (sym e) (model.has_there lacked.one); unlisted = lacked.unlisted }
