-- No hopeless structure lies in a reading that is asked for.
use Rattle.std.specs.Prelude.{◌≡◌, List, [], ◌∷◌, length}
use Rattle.std.proofs.Common.{refl, sym, ◌∙◌, ap, suc}
use Rattle.fs_model.specs.Claims.{Has, here, there}
use Rattle.chart_model.specs.Calculus.{Calculus}
use Rattle.chart_model.specs.Chart.{Leaf, Limits}
use Rattle.chart_model.specs.Classes.{Class, class_shapes}
use Rattle.derivation.specs.Trees.{Derivation, Daughters}
use Rattle.tree_model.specs.Readings.{Wholes, IsReading, reading_leaf, reading_phrase, AreReadings, no_readings, more_readings}
use Rattle.generate_model.specs.Pruning.{pruned, Prunes, PruningIsExact}

shapes_length : {V C : Type 0} (ds : List (Class V C)) → length ds ≡ length (class_shapes ds)
shapes_length [] = refl
shapes_length (d ∷ ds) = ap suc (shapes_length ds)

module _ {M C V : Type 0} (k : Calculus M C) (w : Wholes V C) (limits : Limits) (leaves : List (Leaf M C)) (fit hopeless dropped : V → Type 0) (p : Prunes k w leaves fit hopeless dropped) where
  mutual
    fits : {t : Derivation} {c : Class V C} → IsReading k w limits leaves t c → fit c.shape
    fits (reading_leaf l leaf at) = p.leaf_fit l leaf at
    fits (reading_phrase rule ts ds c v below arity all covers full) = p.keeps_fit rule (class_shapes ds) v (sym (shapes_length ds) ∙ arity) (all_fit all) full

    all_fit : {ts : Daughters} {ds : List (Class V C)} → AreReadings k w limits leaves ts ds → (u : V) → Has u (class_shapes ds) → fit u
    all_fit (no_readings) u h = elim h [ ]
    all_fit (more_readings t ts d ds r l all) u here = fits r
    all_fit (more_readings t ts d ds r l all) u (there h) = all_fit all u h

  mutual
    keeps : {t : Derivation} {c : Class V C} → IsReading k w limits leaves t c → (hopeless c.shape → ⊥) → IsReading k (pruned w dropped) limits leaves t c
    keeps (reading_leaf l leaf at) h = reading_leaf l leaf at
    keeps (reading_phrase rule ts ds c v below arity all covers full) h =
        reading_phrase rule ts ds c v below arity (all_keep all (λ u m n. h (p.spreads rule (class_shapes ds) v u (sym (shapes_length ds) ∙ arity) (all_fit all) full m n))) covers (
          full,
          (λ d. h (p.drops v (p.keeps_fit rule (class_shapes ds) v (sym (shapes_length ds) ∙ arity) (all_fit all) full) d)),
          (λ u m d. h (p.spreads rule (class_shapes ds) v u (sym (shapes_length ds) ∙ arity) (all_fit all) full m (p.drops u (all_fit all u m) d))),
        )

    all_keep : {ts : Daughters} {ds : List (Class V C)} → AreReadings k w limits leaves ts ds → ((u : V) → Has u (class_shapes ds) → hopeless u → ⊥) → AreReadings k (pruned w dropped) limits leaves ts ds
    all_keep (no_readings) h = no_readings
    all_keep (more_readings t ts d ds r l all) h = more_readings t ts d ds (keeps r (h d.shape here)) l (all_keep all (λ u m. h u (there m)))

  mutual
    back : {t : Derivation} {c : Class V C} → IsReading k (pruned w dropped) limits leaves t c → IsReading k w limits leaves t c
    back (reading_leaf l leaf at) = reading_leaf l leaf at
    back (reading_phrase rule ts ds c v below arity all covers full) = reading_phrase rule ts ds c v below arity (all_back all) covers full.0

    all_back : {ts : Daughters} {ds : List (Class V C)} → AreReadings k (pruned w dropped) limits leaves ts ds → AreReadings k w limits leaves ts ds
    all_back (no_readings) = no_readings
    all_back (more_readings t ts d ds r l all) = more_readings t ts d ds (back r) l (all_back all)

pub pruning_is_exact : PruningIsExact
pruning_is_exact M C V k w limits leaves fit hopeless dropped p t = (
  λ a. record { class = a.class; reading = back k w limits leaves fit hopeless dropped p a.reading; accepted = a.accepted },
  λ a. record { class = a.class; reading = keeps k w limits leaves fit hopeless dropped p a.reading (λ h. p.refused a.class.shape a.class.cover (fits k w limits leaves fit hopeless dropped p a.reading) h a.accepted); accepted = a.accepted },
)
