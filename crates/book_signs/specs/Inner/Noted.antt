-- The places of instances by their kinds; only private clauses cite it.
use Rattle.std.specs.Prelude.{ℕ, ◌≡◌, ◌++◌, List, [], ◌∷◌}
use Rattle.tree_model.specs.Signs.{Kind, is_phrase_rule}
use Rattle.book_signs.specs.Trees.{is_entry, is_lexical_rule, is_root, places_where}
use Rattle.book_signs.specs.declared.kinds.Kinds.{Kinds}

-- an instance of a kind comes to those that were noted
pub record Notes (place : ℕ) (kind : Kind) (old new : Kinds) : Type 0 where
  pub entries : new.entries.items ≡ old.entries.items ++ places_where is_entry place (kind ∷ [])
  pub lexical_rules : new.lexical_rules.items ≡ old.lexical_rules.items ++ places_where is_lexical_rule place (kind ∷ [])
  pub phrase_rules : new.phrase_rules.items ≡ old.phrase_rules.items ++ places_where is_phrase_rule place (kind ∷ [])
  pub roots : new.roots.items ≡ old.roots.items ++ places_where is_root place (kind ∷ [])

-- what was noted, with what is still to come from a place on, is what there is
pub record AreNoted (kinds : List Kind) (place : ℕ) (rest : List Kind) (noted : Kinds) : Type 0 where
  pub entries : noted.entries.items ++ places_where is_entry place rest ≡ places_where is_entry 0 kinds
  pub lexical_rules : noted.lexical_rules.items ++ places_where is_lexical_rule place rest ≡ places_where is_lexical_rule 0 kinds
  pub phrase_rules : noted.phrase_rules.items ++ places_where is_phrase_rule place rest ≡ places_where is_phrase_rule 0 kinds
  pub roots : noted.roots.items ++ places_where is_root place rest ≡ places_where is_root 0 kinds

-- these are the places of all instances by their kinds
pub record AreKinds (kinds : List Kind) (noted : Kinds) : Type 0 where
  pub entries : noted.entries.items ≡ places_where is_entry 0 kinds
  pub lexical_rules : noted.lexical_rules.items ≡ places_where is_lexical_rule 0 kinds
  pub phrase_rules : noted.phrase_rules.items ≡ places_where is_phrase_rule 0 kinds
  pub roots : noted.roots.items ≡ places_where is_root 0 kinds
