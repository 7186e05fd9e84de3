-- What stands in a group with a full structure is a reading.
use Rattle.std.specs.Prelude.{◌≡◌, ℕ, ◌≤◌, Some, List, [], ◌∷◌, map, length, refl}
use Rattle.std.proofs.Common.{ap, subst, sym, ◌∙◌, suc, zero, arith}
use Rattle.chart_model.specs.Calculus.{Calculus}
use Rattle.chart_model.specs.At.{At, here, there, at_one, to_get}
use Rattle.chart_model.specs.Chart.{Chart, Leaf, Limits, Row, leaf_row, covers_at, levels_at, level_above}
use Rattle.chart_model.specs.Classes.{Class, class_covers, class_shapes, class_level}
use Rattle.chart_model.specs.Finished.{IsComplete}
use Rattle.chart_model.specs.Grown.{Tree, Trees, LeadsTo, Stands, stands_leaf, stands_phrase, AllStand, none_stand, more_stand}
use Rattle.chart_model.proofs.Trees.{leads_one}
use Rattle.derivation.specs.Trees as derived
use Rattle.tree_model.specs.Readings.{Wholes, IsReading, reading_leaf, reading_phrase, AreReadings, no_readings, more_readings}
use Rattle.tree_model.specs.Lists.{IsFullOf, full_leaf, full_phrase, AreFullOf, no_full, more_full}

module _ {V C : Type 0} where
  abbrev pub levels_in : List (Class V C) → List ℕ
  levels_in cs = map (λ c. c.level) cs

  pub level_is : (cs : List (Class V C)) → class_level cs ≡ level_above (levels_in cs)
  level_is [] = refl
  level_is (c ∷ []) = refl
  level_is (c ∷ d ∷ cs) = refl

  abbrev pub class_of : C → ℕ → V → Class V C
  class_of c l v = record { cover = c; level = l; shape = v }

  class_same : (c d : C) (l m : ℕ) (v : V) → c ≡ d → l ≡ m → class_of c l v ≡ class_of d m v
  class_same c d l m v e f = rw (e, f) refl

module _ {M C V : Type 0} (k : Calculus M C) (w : Wholes V C) (limits : Limits) (leaves : List (Leaf M C)) (ch : Chart M C) (complete : IsComplete k limits leaves ch) where
  record ReadAll (ts : derived.Daughters) (vs : List V) (hs : List ℕ) : Type 0 where
    cs : List (Class V C)
    readings : AreReadings k w limits leaves ts cs
    covers : class_covers cs ≡ covers_at ch.rows hs
    levels : levels_in cs ≡ levels_at ch.rows hs
    shapes : class_shapes cs ≡ vs
    counted : length cs ≡ length hs

  abbrev IsLow : ℕ → Type 0
  IsLow d = (row : Row M C) × (m : M) × At ch.rows d row × (row.shape ≡ Some m) × (row.level ≤ limits.unary)

  -- the host at the end of a row's representatives
  record Ended (i h : ℕ) (row host : Row M C) : Type 0 where
    cover : host.cover ≡ row.cover
    level : host.level ≡ row.level

  ended : (i h : ℕ) (row host : Row M C) (m : M) → At ch.rows i row → row.shape ≡ Some m → LeadsTo ch.into i h → At ch.rows h host → Ended i h row host
  ended i h row host m at shape leads bt =
      let last = complete.reps i row m at shape in
      let e : h ≡ last.end = leads_one leads last.leads in
      let f : host ≡ last.host = at_one (subst (λ n. At ch.rows n host) e bt) last.at in
      record { cover = ap (λ r. r.cover) f ∙ last.cover; level = ap (λ r. r.level) f ∙ last.level }

  read_more : (t : derived.Derivation) (ts : derived.Daughters) (v : V) (vs : List V) (d : ℕ) (hs : List ℕ) (row : Row M C) → At ch.rows d row → row.level ≤ limits.unary → IsReading k w limits leaves t (record { cover = row.cover; level = row.level; shape = v }) → ReadAll ts vs hs → ReadAll (derived.first t ts) (v ∷ vs) (d ∷ hs)
  read_more t ts v vs d hs row at low one rest = record {
    cs = record { cover = row.cover; level = row.level; shape = v } ∷ rest.cs;
    readings = more_readings t ts (record { cover = row.cover; level = row.level; shape = v }) rest.cs one low rest.readings;
    covers = rw (to_get at) (ap (λ zs. row.cover ∷ zs) rest.covers);
    levels = rw (to_get at) (ap (λ zs. row.level ∷ zs) rest.levels);
    shapes = ap (λ zs. v ∷ zs) rest.shapes;
    counted = omega (arith, rest.counted);
  }

  mutual
    pub read : {t : Tree} {i h : ℕ} {d : derived.Derivation} {v : V} → Stands leaves ch t i h → IsFullOf w leaves t d v → (host : Row M C) → At ch.rows h host → IsReading k w limits leaves d (record { cover = host.cover; level = host.level; shape = v })
    read {h = h} (stands_leaf l_ok leads) (full_leaf l leaf at) host bt =
        let e = ended l h (leaf_row k limits leaf) host leaf.shape (complete.leaf_rows.row_is l leaf at) refl leads bt in
        subst (IsReading k w limits leaves (w.leaf_tree leaf.name)) (class_same leaf.cover host.cover 0 host.level (w.leaf_full leaf.name) (sym e.cover) (sym e.level)) (reading_leaf l leaf at)
    read {i = i} {h = h} (stands_phrase row rt kind live ss leads) (full_phrase rule ts ds vs v fs f) host bt =
        let whole = complete.tuples.no_other i rule row rt kind live in
        let o = complete.tuples.one_row rule row.daughters whole in
        let n : i ≡ o.number = o.once i row rt kind refl in
        let same : row ≡ o.row = at_one (subst (λ z. At ch.rows z row) n rt) o.at in
        let e = ended i h row host o.is.shape rt (ap (λ r. r.shape) same ∙ o.is.shape_is) leads bt in
        let all = read_all ss fs whole.low.hosts in
        let cover : k.covers rule (class_covers all.cs) ≡ Some host.cover = rw all.covers (o.is.cover ∙ ap (λ r. Some r.cover) (sym same) ∙ ap Some (sym e.cover)) in
        let level : class_level all.cs ≡ host.level = level_is all.cs ∙ ap level_above all.levels ∙ sym o.is.level ∙ ap (λ r. r.level) (sym same) ∙ sym e.level in
        subst (IsReading k w limits leaves (derived.phrase (w.place rule) ds)) (class_same host.cover host.cover (class_level all.cs) host.level v refl level)
        (reading_phrase rule ds all.cs host.cover v whole.rule_is (all.counted ∙ whole.whole) all.readings cover (subst (λ zs. w.full rule zs v) (sym all.shapes) f))

    read_all : {ts : Trees} {hs : List ℕ} {ds : derived.Daughters} {vs : List V} → AllStand leaves ch ts hs → AreFullOf w leaves ts ds vs → ((j d : ℕ) → At hs j d → IsLow d) → ReadAll ds vs hs
    read_all none_stand no_full low = record { cs = []; readings = no_readings; covers = refl; levels = refl; shapes = refl; counted = refl }
    read_all (more_stand {d = h} {ds = hs} s ss) (more_full t ts d ds v vs f fs) low =
        let l = low zero h here in
        read_more d ds v vs h hs l.0 l.2 l.4 (read s f l.0 l.2) (read_all ss fs (λ j e a. low (suc j) e (there a)))
