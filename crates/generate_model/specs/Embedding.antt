-- The relations of a daughter stay among those of a mother whose rule appends them.
use Rattle.std.specs.Prelude.{ℕ, ◌≡◌, ◌+◌, ◌≤◌, true, List, ◌++◌}
use Rattle.fs_model.specs.Claims.{Path, exists_at, same, below}
use Rattle.tree_model.specs.Structures.{Structure, Beside}
use Rattle.tree_model.specs.Cuts.{is_kept}
use Rattle.tree_model.specs.Mothers.{Rule, RuleSystem, IsFull, Whole, Meant, daughters_cut}
use Rattle.generate_model.specs.Threads.{times, Open, Reaches, Threads, Stands, total}

-- the elements of one structure's list are those of the other's, from a number of cells on: paths, equalities and types that the one has
-- the other has too
pub record Embeds (g : RuleSystem) (rest : ℕ) (l : Open) (n before : ℕ) (v u : Structure) : Type 0 where
  pub exists : (j : ℕ) (q : Path) → j ≤ n → Meant g v (exists_at ((l.start ++ times rest j) ++ q)) → Meant g u (exists_at ((l.start ++ times rest (before + j)) ++ q))
  pub equal : (i j : ℕ) (p q : Path) → i ≤ n → j ≤ n → Meant g v (same ((l.start ++ times rest i) ++ p) ((l.start ++ times rest j) ++ q)) →
      Meant g u (same ((l.start ++ times rest (before + i)) ++ p) ((l.start ++ times rest (before + j)) ++ q))
  pub typed : (j : ℕ) (q : Path) (t : ℕ) → j ≤ n → Meant g v (below ((l.start ++ times rest j) ++ q) t) → Meant g u (below ((l.start ++ times rest (before + j)) ++ q) t)

-- a list at a place
abbrev pub moved_to : Path → Open → Open
moved_to place l = record { start = place ++ l.start; end = place ++ l.end }

-- no path of the list is cut off with the daughters
pub record IsOutside (g : RuleSystem) (l : Open) : Type 0 where
  pub start : (q : Path) → is_kept (daughters_cut g) (l.start ++ q) ≡ true
  pub end : is_kept (daughters_cut g) l.end ≡ true

-- Where a rule, over these daughters, threads lists from its list's beginning to its end, the mother's list reaches its end, and the
-- elements of each daughter whose list is among them stay.
abbrev pub DaughtersEmbed : Type 0
DaughtersEmbed = (g : RuleSystem) (rest : ℕ) (l : Open) → IsOutside g l → (rule : Rule) (fs : List Structure) (f : Structure) → IsFull g rule fs f → (ls : List (Open × ℕ)) → Threads (Whole g rule fs) rest l.start ls l.end →
    Reaches (Meant g f) rest l (total ls)
    × ((place : Path) (d : Structure) (n before : ℕ) → Beside place d rule.places fs → Stands (moved_to place l) n before ls → Embeds g rest l n before d f)
