-- Hosts whose trees may be asked for.
use Rattle.std.specs.Prelude.{◌≡◌, ℕ, ◌<◌, true, is_some, None, List, map}
use Rattle.chart_model.specs.At.{At}
use Rattle.chart_core.specs.declared.Row.{Row}
use Rattle.tree_model.specs.Readings.{Wholes}
use Rattle.tree_model.specs.Lists as model
use Rattle.forest_unpack.specs.Keeping.{Asked}

module _ {X T C W B : Type 0} (rows : List (Row X T C W B)) where
  -- row h is a live host of this cover
  pub record IsLive (h : ℕ) (c : C) : Type 0 where
    pub row : Row X T C W B
    pub at : At rows h row
    pub shape : is_some row.shape ≡ true
    pub into : row.into ≡ None
    pub cover : row.cover ≡ c

module _ {X T C W B V : Type 0} (w : Wholes V C) (rows : List (Row X T C W B)) where
  -- of the first n rows, live hosts, each once, and all whose cover is asked for
  pub record AreAsked (n : ℕ) (asked : List (Asked C)) : Type 0 where
    pub each : (a : Asked C) → model.Has a asked → (a.host < n) × IsLive rows a.host a.cover
    pub all : (h : ℕ) (c : C) (v : V) → h < n → IsLive rows h c → w.accepted v c → model.Has h (map (λ a. a.host) asked)
    pub differ : model.AllDiffer (map (λ a. a.host) asked)
