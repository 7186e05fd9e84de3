-- The trees that a grammar licenses for a lattice, and the item that asks for them.
use Rattle.std.specs.Prelude.{ℕ, ◌≡◌, ◌≤◌, ◌+◌, ◌↔◌, List, Some}
use Rattle.chart_model.specs.declared.span.Span.{Span}
use Rattle.chart_model.specs.Spans.{span_join, span_size, join_all, same_span, is_span}
use Rattle.derivation.specs.Trees.{Derivation, lexical}
use Rattle.tree_model.specs.Structures.{Structure}
use Rattle.tree_model.specs.Signs.{Signs}
use Rattle.tree_model.specs.Lexical.{Word, Words, Spells, FullLexical, rule_count}
use Rattle.tree_model.specs.Trees.{Full, LeavesAre, IsRooted}
use Rattle.tree_model.specs.Items.{Item, IsItem, IsWanted}
use Rattle.tree_model.specs.Lattices.{Lattice, Carries, Spans}

pub record IsLexicalTree (g : Signs) (words : Words) (lattice : Lattice) (t : Derivation) : Type 0 where
  pub entry : ℕ
  pub rules : List ℕ
  pub said : List Word
  pub from : ℕ
  pub to : ℕ
  pub is : t ≡ lexical entry rules said (Some (from, to))
  pub spells : Spells words entry rules said
  pub carried : Carries lattice from said to
  pub structure : Structure
  pub full : FullLexical g entry rules structure

abbrev pub IsLeaf : Signs → Words → Lattice → ℕ → Derivation → Type 0
IsLeaf g words lattice most t = IsLexicalTree g words lattice t × (rule_count t ≤ most)

pub record IsLicensed (g : Signs) (words : Words) (lattice : Lattice) (most : ℕ) (t : Derivation) : Type 0 where
  pub leaves : LeavesAre (IsLeaf g words lattice most) t
  pub spans : Spans t 0 lattice.end
  pub structure : Structure
  pub full : Full g t structure
  pub rooted : IsRooted g structure

pub record IsTooDeep (g : Signs) (words : Words) (lattice : Lattice) (most : ℕ) : Type 0 where
  pub tree : Derivation
  pub is : IsLexicalTree g words lattice tree
  pub deep : rule_count tree ≡ most + 1

abbrev pub parse_item : Signs → Words → Lattice → ℕ → Item Span
parse_item g words lattice most =
    record {
      leaf = IsLeaf g words lattice most;
      of_leaf = λ t c. Spans t c.from c.to;
      covers = λ _ cs. join_all cs;
      same = same_span;
      join = span_join;
      size = span_size;
      proper = is_span;
      accepted = λ f c. (c.from ≡ 0) × (c.to ≡ lattice.end) × IsRooted g f;
      too_deep = IsTooDeep g words lattice most;
    }

-- It is an item, and the trees that it asks for are those that are licensed.
abbrev pub LicensedAreWanted : Type 0
LicensedAreWanted = (g : Signs) (words : Words) (lattice : Lattice) (most : ℕ) → IsItem (parse_item g words lattice most) × ((t : Derivation) → IsWanted g (parse_item g words lattice most) t ↔ IsLicensed g words lattice most t)
