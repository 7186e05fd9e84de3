-- In a finished chart within the limits, the rows under a live host are what makes the members of its class.
use Rattle.std.specs.Prelude.{◌≡◌, ℕ, ◌+◌, ◌≤◌, true, Some, List, [], ◌∷◌, length, refl, slice_get}
use Rattle.std.proofs.Common.{zero, suc, ap, subst, sym, ◌∙◌, arith, inl, inr}
use Rattle.std.proofs.lemmas.Bool.{cases_lt}
use Rattle.chart_model.specs.Calculus.{Calculus, Laws, Along, along_none, along_more, one_mother}
use Rattle.chart_model.specs.At.{At, here, there, at_found, at_one, from_get, to_get}
use Rattle.chart_model.specs.Chart.{OfLeaf, OfWhole, Row, Chart, Leaf, Limits, all_free, cover_of, shape_of, level_of, covers_at, shapes_at, levels_at, level_above, leaf_row}
use Rattle.chart_model.specs.Classes.{Class, Member, of_leaf, of_rule, Members, no_members, more_members, IsHost, class_covers, class_shapes, class_level}
use Rattle.chart_model.specs.Limits.{IsLowClass, IsLimitAnswer, Within}
use Rattle.chart_model.specs.Finished.{IsComplete, IsWhole, IsMother, AreLow}
use Rattle.chart_model.proofs.Gather.{both_free}
use Rattle.packed_forests.specs.Makers.{IsOwnLeaf, IsOwnTuple, AreLowClasses}
use Rattle.packed_forests.specs.Rows.{Counts, IsMadeBy, AreItsMakers, RowsAreMakers}

module _ {M C : Type 0} (k : Calculus M C) (limits : Limits) (leaves : List (Leaf M C)) where
  level_low : (ds : List (Class M C)) → Members k limits leaves ds → class_level ds ≤ limits.unary + 1
  level_low _ no_members = omega arith
  level_low _ (more_members d [] m l ms) = omega (arith, l)
  level_low _ (more_members d (e ∷ rest) m l ms) = omega arith

  -- a daughter is low, so a mother is at most one level above the limit
  member_low : (c : Class M C) → Member k limits leaves c → c.level ≤ limits.unary + 1
  member_low _ (of_leaf l leaf a) = omega arith
  member_low _ (of_rule rule ds c m r len ms cov app) = level_low ds ms

  pub low_member : IsLimitAnswer k limits leaves Within → (c : Class M C) → Member k limits leaves c → c.level ≤ limits.unary
  low_member within c m =
      let most = member_low c m in
      elim (cases_lt limits.unary c.level) [
        | inl over ↦ absurd (within (k.size c.cover) (inl (record { top = c; member = m; level = omega (arith, most, over); size = omega arith })))
        | inr low ↦ low
      ]

  low_next : (c : Class M C) (ds : List (Class M C)) → IsLowClass k limits leaves c → AreLowClasses k limits leaves ds → AreLowClasses k limits leaves (c ∷ ds)
  low_next c ds l low zero d (here) = l
  low_next c ds l low (suc j) d (there a) = low j d a

  module _ (ch : Chart M C) where
    abbrev Hosts : List (Class M C) → List ℕ → Type 0
    Hosts ds hs = Along (IsHost k limits leaves ch) ds hs

    host_cover : (d : Class M C) (h : ℕ) → IsHost k limits leaves ch d h → cover_of (slice_get ch.rows h) ≡ Some d.cover
    host_cover d h is = rw (is.at, is.cover) refl

    host_shape : (d : Class M C) (h : ℕ) → IsHost k limits leaves ch d h → shape_of (slice_get ch.rows h) ≡ Some d.shape
    host_shape d h is = rw (is.at, is.shape) refl

    host_level : (d : Class M C) (h : ℕ) → IsHost k limits leaves ch d h → level_of (slice_get ch.rows h) ≡ Some d.level
    host_level d h is = rw (is.at, is.level) refl

    covers_are : {ds : List (Class M C)} {hs : List ℕ} → Hosts ds hs → covers_at ch.rows hs ≡ class_covers ds
    covers_are along_none = refl
    covers_are (along_more {x = d} {y = h} is rest) = rw (host_cover d h is, covers_are rest) refl

    shapes_are : {ds : List (Class M C)} {hs : List ℕ} → Hosts ds hs → shapes_at ch.rows hs ≡ class_shapes ds
    shapes_are along_none = refl
    shapes_are (along_more {x = d} {y = h} is rest) = rw (host_shape d h is, shapes_are rest) refl

    levels_are : {ds : List (Class M C)} {hs : List ℕ} → Hosts ds hs → level_above (levels_at ch.rows hs) ≡ class_level ds
    levels_are along_none = refl
    levels_are (along_more {x = d} {y = h} is along_none) = rw (host_level d h is) refl
    levels_are (along_more {x = d} {y = h} is (along_more {x = e} {y = g} also rest)) = rw (host_level d h is, host_level e g also) refl

    length_is : {ds : List (Class M C)} {hs : List ℕ} → Hosts ds hs → length ds ≡ length hs
    length_is along_none = refl
    length_is (along_more is rest) = ap suc (length_is rest)

    free_all : {ds : List (Class M C)} {hs : List ℕ} → Hosts ds hs → all_free ch.into hs ≡ true
    free_all along_none = refl
    free_all (along_more is rest) = rw is.free (free_all rest)

    low_host : {ds : List (Class M C)} {hs : List ℕ} → Hosts ds hs → AreLowClasses k limits leaves ds → (j d : ℕ) → At hs j d → (row : Row M C) × (m : M) × At ch.rows d row × (row.shape ≡ Some m) × (row.level ≤ limits.unary)
    low_host along_none low j d a = elim a [ ]
    low_host (along_more {x = c} is rest) low zero d (here) = let l = low zero c here in (is.row, c.shape, from_get ch.rows d is.row is.at, is.shape, omega (arith, l.level, is.level))
    low_host (along_more is rest) low (suc j) d (there a) = low_host rest (λ i e b. low (suc i) e (there b)) j d a

    are_low : {ds : List (Class M C)} {hs : List ℕ} → Hosts ds hs → AreLowClasses k limits leaves ds → AreLow k limits leaves ch hs
    are_low hosts low = record { live = free_all hosts; hosts = low_host hosts low }

    live_by : (row : Row M C) (rule : ℕ) → Counts k ch row → row.kind ≡ OfWhole rule → all_free ch.into row.daughters ≡ true
    live_by row rule (inl l) e = absurd (let z = l.1 in cc)
    live_by row rule (inr w) e = w.2

    module _ (laws : Laws k) (complete : IsComplete k limits leaves ch) (within : IsLimitAnswer k limits leaves Within) where
      pub low_class : (c : Class M C) (h : ℕ) → IsHost k limits leaves ch c h → IsLowClass k limits leaves c
      low_class c h is = let p = complete.hosts.sound c h is in record { packed = p; level = low_member within c p.member }

      hosts_for : (ds : List (Class M C)) → AreLowClasses k limits leaves ds → (hs : List ℕ) × Hosts ds hs
      hosts_for [] low = ([], along_none)
      hosts_for (d ∷ ds) low =
          let f = complete.hosts.found d (low zero d here).packed in
          let r = hosts_for ds (λ j e a. low (suc j) e (there a)) in
          (f.0 ∷ r.0, along_more f.1 r.1)

      classes_for : (hs : List ℕ) → AreLow k limits leaves ch hs → (ds : List (Class M C)) × Hosts ds hs × AreLowClasses k limits leaves ds
      classes_for [] low = ([], along_none, λ j d a. elim a [ ])
      classes_for (h ∷ hs) low =
          let f = low.hosts zero h here in
          let free = both_free ch.into h hs low.live in
          let c : Class M C = record { cover = f.0.cover; level = f.0.level; shape = f.1 } in
          let is : IsHost k limits leaves ch c h = record { row = f.0; at = to_get f.2; free = free.0; shape = f.3; cover = refl; level = refl } in
          let r = classes_for hs (record { live = free.1; hosts = λ j d a. low.hosts (suc j) d (there a) }) in
          (c ∷ r.0, along_more is r.1, low_next c r.0 (low_class c h is) r.2)

      -- a whole row over live hosts is the one that its rule gives for them
      mother_of : (i rule : ℕ) (row : Row M C) → At ch.rows i row → row.kind ≡ OfWhole rule → IsWhole k limits leaves ch rule row.daughters → IsMother k limits leaves ch rule row.daughters row
      mother_of i rule row at kind whole =
          let one = complete.tuples.one_row rule row.daughters whole in
          let number : i ≡ one.number = one.once i row at kind refl in
          let same : one.row ≡ row = at_one (subst (λ n. At ch.rows n one.row) (sym number) one.at) at in
          subst (IsMother k limits leaves ch rule row.daughters) same one.is

      module _ (c : Class M C) (h : ℕ) (is : IsHost k limits leaves ch c h) where
        host_same : (i : ℕ) (m : IsMadeBy k ch h i) → m.host ≡ is.row
        host_same i m = at_one m.host_at (from_get ch.rows h is.row is.at)

        own_over : (i : ℕ) (m : IsMadeBy k ch h i) → k.over c.shape m.special ≡ true
        own_over i m =
            let f = ap (λ (r : Row M C). r.shape) (host_same i m) in
            let g = m.general_is in
            let s = is.shape in
            let z : m.general ≡ c.shape = cc in
            subst (λ v. k.over v m.special ≡ true) z m.over

        own_cover : (i : ℕ) (m : IsMadeBy k ch h i) → m.row.cover ≡ c.cover
        own_cover i m = m.cover ∙ ap (λ (r : Row M C). r.cover) (host_same i m) ∙ is.cover

        own_level : (i : ℕ) (m : IsMadeBy k ch h i) → m.row.level ≡ c.level
        own_level i m = m.level ∙ ap (λ (r : Row M C). r.level) (host_same i m) ∙ is.level

        as_leaf : (i name : ℕ) (row : Row M C) → IsMadeBy k ch h i → At ch.rows i row → row.kind ≡ OfLeaf name → IsOwnLeaf k limits leaves c i × ((leaf : Leaf M C) → At leaves i leaf → leaf.name ≡ name)
        as_leaf i name row m at kind =
            let l = at_found leaves i (complete.leaf_rows.no_other i name row at kind) in
            let same : m.row ≡ leaf_row k limits l.0 = at_one m.at (complete.leaf_rows.row_is i l.0 l.1) in
            let f = ap (λ (r : Row M C). r.shape) same in
            let s = m.special_is in
            let z : m.special ≡ l.0.shape = cc in (
              record {
                leaf = l.0;
                at = l.1;
                cover = sym (ap (λ (r : Row M C). r.cover) same) ∙ own_cover i m;
                level = sym (own_level i m) ∙ ap (λ (r : Row M C). r.level) same;
                over = subst (λ v. k.over c.shape v ≡ true) z (own_over i m);
              },
              named,
            )
          where
            named : (leaf : Leaf M C) → At leaves i leaf → leaf.name ≡ name
            named leaf a =
                let same : row ≡ leaf_row k limits leaf = at_one at (complete.leaf_rows.row_is i leaf a) in
                let f = ap (λ (r : Row M C). r.kind) same in
                cc

        as_tuple : (i rule : ℕ) (row : Row M C) → IsMadeBy k ch h i → At ch.rows i row → row.kind ≡ OfWhole rule → (ds : List (Class M C)) × Hosts ds row.daughters × IsOwnTuple k limits leaves c rule ds
        as_tuple i rule row m at kind =
            let same : m.row ≡ row = at_one m.at at in
            let whole = complete.tuples.no_other i rule row at kind (live_by row rule (subst (Counts k ch) same m.counts) kind) in
            let mother = mother_of i rule row at kind whole in
            let r = classes_for row.daughters whole.low in
            let f = ap (λ (r : Row M C). r.shape) same in
            let s = m.special_is in
            let t = mother.shape_is in
            let z : m.special ≡ mother.shape = cc in (
              r.0,
              r.1,
              record {
                rule_is = whole.rule_is;
                whole = length_is r.1 ∙ whole.whole;
                low = r.2;
                cover = subst (λ cs. k.covers rule cs ≡ Some row.cover) (covers_are r.1) mother.cover ∙ ap Some (sym (ap (λ (r : Row M C). r.cover) same) ∙ own_cover i m);
                level = sym (own_level i m) ∙ ap (λ (r : Row M C). r.level) same ∙ mother.level ∙ levels_are r.1;
                shape = mother.shape;
                mother = subst (λ ms. k.mother rule ms mother.shape) (shapes_are r.1) mother.mother;
                over = subst (λ v. k.over c.shape v ≡ true) z (own_over i m);
              },
            )

        of_own_leaf : (l : ℕ) → IsOwnLeaf k limits leaves c l → IsMadeBy k ch h l × ((row : Row M C) × At ch.rows l row × ((name : ℕ) × (row.kind ≡ OfLeaf name)))
        of_own_leaf l own =
            let at = complete.leaf_rows.row_is l own.leaf own.at in (
              record {
                host = is.row;
                host_at = from_get ch.rows h is.row is.at;
                row = leaf_row k limits own.leaf;
                at = at;
                counts = inl (own.leaf.name, refl);
                general = c.shape;
                general_is = is.shape;
                special = own.leaf.shape;
                special_is = refl;
                over = own.over;
                cover = own.cover ∙ sym is.cover;
                level = sym own.level ∙ sym is.level;
              },
              (leaf_row k limits own.leaf, at, (own.leaf.name, refl)),
            )

        whole_of : (rule : ℕ) (ds : List (Class M C)) (hs : List ℕ) → IsOwnTuple k limits leaves c rule ds → Hosts ds hs → IsWhole k limits leaves ch rule hs
        whole_of rule ds hs own hosts =
            record {
              rule_is = own.rule_is;
              low = are_low hosts own.low;
              whole = sym (length_is hosts) ∙ own.whole;
              cover = c.cover;
              covers = subst (λ cs. k.covers rule cs ≡ Some c.cover) (sym (covers_are hosts)) own.cover;
              applies = subst (k.applies rule) (sym (shapes_are hosts)) (laws.has_mother rule (class_shapes ds) own.shape own.mother);
            }

        made_by : (rule i : ℕ) (ds : List (Class M C)) (hs : List ℕ) (row : Row M C) → IsOwnTuple k limits leaves c rule ds → Hosts ds hs → At ch.rows i row → IsMother k limits leaves ch rule hs row → IsMadeBy k ch h i
        made_by rule i ds hs row own hosts at mother =
            let mother_too = subst (λ ms. k.mother rule ms mother.shape) (shapes_are hosts) mother.mother in
            let same : mother.shape ≡ own.shape = one_mother k laws rule (class_shapes ds) mother.shape own.shape mother_too own.mother in
            let covers = subst (λ cs. k.covers rule cs ≡ Some row.cover) (covers_are hosts) mother.cover in
            let also = own.cover in
            let cover : row.cover ≡ c.cover = cc in
            record {
              host = is.row;
              host_at = from_get ch.rows h is.row is.at;
              row = row;
              at = at;
              counts = inr (rule, mother.kind, subst (λ xs. all_free ch.into xs ≡ true) (sym mother.daughters_are) (free_all hosts));
              general = c.shape;
              general_is = is.shape;
              special = mother.shape;
              special_is = mother.shape_is;
              over = subst (λ v. k.over c.shape v ≡ true) (sym same) own.over;
              cover = cover ∙ sym is.cover;
              level = mother.level ∙ levels_are hosts ∙ sym own.level ∙ sym is.level;
            }

        of_own_tuple : (rule : ℕ) (ds : List (Class M C)) → IsOwnTuple k limits leaves c rule ds → (i : ℕ) × (row : Row M C) × IsMadeBy k ch h i × At ch.rows i row × (row.kind ≡ OfWhole rule) × Hosts ds row.daughters
        of_own_tuple rule ds own =
            let f = hosts_for ds own.low in
            let one = complete.tuples.one_row rule f.0 (whole_of rule ds f.0 own f.1) in
            (one.number, one.row, made_by rule one.number ds f.0 one.row own f.1 one.at one.is, one.at, one.is.kind, subst (λ hs. Hosts ds hs) (sym one.is.daughters_are) f.1)

        pub its_makers : AreItsMakers k limits leaves ch c h
        its_makers = record { of_leaf = as_leaf; of_tuple = as_tuple; leaf_row = of_own_leaf; tuple_row = of_own_tuple }

pub rows_are_makers : {M C : Type 0} (k : Calculus M C) → Laws k → RowsAreMakers k
rows_are_makers k laws limits leaves ch complete within c h is = (low_class k limits leaves ch laws complete within c h is, its_makers k limits leaves ch laws complete within c h is)
