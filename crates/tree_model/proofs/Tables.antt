-- A table of lists, each made from those of the daughters, holds groups.
use Rattle.std.specs.Prelude.{◌≡◌, ℕ, ◌+◌, ◌<◌, Bool, List}
use Rattle.std.proofs.Common.{zero, suc, arith}
use Rattle.chart_model.specs.Calculus.{Calculus}
use Rattle.chart_model.specs.Chart.{Chart, Leaf, Limits}
use Rattle.chart_model.specs.Finished.{IsComplete}
use Rattle.tree_model.specs.Readings.{Wholes}
use Rattle.tree_model.specs.Forest.{AreApart}
use Rattle.tree_model.specs.Lists.{Has, has_here, has_there, Item, IsGroup, GroupRow, a_whole, Gives, gives_leaf, gives_whole, Gather, gather_none, gather_stops, gather_more, IsToldGroup, AreGrounded}
use Rattle.tree_model.proofs.Groups.{group_is}

module _ {C V : Type 0} (w : Wholes V C) (cut : Bool) (table : ℕ → List (Item V)) (listed also : ℕ → Type 0) where
  narrow_row : {row : GroupRow} {xs : List (Item V)} → ((rule : ℕ) (ds : List ℕ) (d : ℕ) → row ≡ a_whole rule ds → Has d ds → also d) → Gives w cut table listed row xs → Gives w cut table (λ d. listed d × also d) row xs
  narrow_row more (gives_leaf name) = gives_leaf name
  narrow_row more (gives_whole rule ds made there m) = gives_whole rule ds made (λ d h. (there d h, more rule ds d (λ i. a_whole rule ds) h)) m

  narrow : {rows : List GroupRow} {items : List (Item V)} → ((row : GroupRow) → Has row rows → (rule : ℕ) (ds : List ℕ) (d : ℕ) → row ≡ a_whole rule ds → Has d ds → also d) → Gather w cut table listed rows items → Gather w cut table (λ d. listed d × also d) rows items
  narrow more gather_none = gather_none
  narrow more (gather_stops rows e) = gather_stops rows e
  narrow more (gather_more row rows xs ys given rest) = gather_more row rows xs ys (narrow_row (more row has_here) given) (narrow (λ r h. more r (has_there h)) rest)

module _ {M C V : Type 0} (k : Calculus M C) (w : Wholes V C) (limits : Limits) (leaves : List (Leaf M C)) (ch : Chart M C) (complete : IsComplete k limits leaves ch) (apart : AreApart k w leaves) (told : ℕ → List GroupRow) (rank : ℕ → ℕ) (grounded : AreGrounded told rank) (are_told : (h : ℕ) → IsToldGroup leaves ch h (told h)) (cut : Bool) (table : ℕ → List (Item V)) (listed : ℕ → Type 0) (gathered : (h : ℕ) → listed h → Gather w cut table listed (told h) (table h)) where
  groups_below : (n : ℕ) (h : ℕ) → rank h < n → listed h → IsGroup w leaves ch cut h (table h)
  groups_below zero h low made = absurd (omega (arith, low))
  groups_below (suc n) h low made =
      group_is k w limits leaves ch complete apart cut table (λ d. listed d × (rank d < rank h)) (λ d both. groups_below n d (omega (arith, low, both.1)) both.0) h (told h) (table h) (are_told h)
      (narrow w cut table listed (λ d. rank d < rank h) (λ row has rule ds d e a. grounded h row rule ds d has e a) (gathered h made))

  -- each list that was made is the group of its host
  pub listed_groups : (h : ℕ) → listed h → IsGroup w leaves ch cut h (table h)
  listed_groups h made = groups_below (rank h + 1) h (omega arith) made
