-- What a table of rules is seen as, and what it keeps.
use Rattle.std.specs.Prelude.{◌≡◌, List, All, Vec, map}
use Rattle.std.specs.Global.{Global}
use Rattle.fs_model.specs.Claims.{Path}
use Rattle.fs_graph.specs.GraphMap.{reader_of}
use Rattle.fs_closing.specs.Rules.{Grammar}
use Rattle.fs_unify.specs.Owing.{OwedRules, ListsOwed}
use Rattle.fs_trim.specs.Cutting.{owed_of}
use Rattle.tree_model.specs.Cuts.{Cut}
use Rattle.sieve.specs.Sketches.{TypeAt, sketch_of, below_place}
use Rattle.grammar_shapes.specs.declared.phrase_rule.PhraseRule.{PhraseRule}
use Rattle.grammar_shapes.specs.Ruled.{places_of, IsRuleIn, AreClosed}

-- rules of a type system, with the paths at which types are compared, what a mother loses and what an abstract structure lacks,
-- and what each owes then
pub record RuleList : Type 0 where
  pub grammar : Grammar
  pub rules : List PhraseRule
  pub checks : List Path
  pub daughters : Cut
  pub restrictors : Cut
  pub fulls_owe : OwedRules
  pub shapes_owe : OwedRules

-- the sketch of what a rule has at a place
abbrev pub sketch_at : List Path → PhraseRule → Path → List TypeAt
sketch_at checks r place = sketch_of (below_place place (reader_of r.structure.now)) checks

-- the sketches of what a rule has at each of its places
abbrev pub rule_sketches : List Path → PhraseRule → List (List TypeAt)
rule_sketches checks r = map (sketch_at checks r) (places_of r)

-- the sketches of a rule, one for each place
abbrev pub row_of : Vec (List TypeAt) Global → List (List TypeAt)
row_of row = row.items

pub record IsRuleTable (g : Grammar) (rules : List PhraseRule) (checks : List Path) (sketches : List (Vec (List TypeAt) Global))
    (daughters restrictors : Cut) (fulls_owe shapes_owe : OwedRules) : Type 0 where
  pub rules_in : All (IsRuleIn g) rules
  pub closed : AreClosed g rules
  pub sketched : map row_of sketches ≡ map (rule_sketches checks) rules
  pub fulls : ListsOwed g (owed_of daughters) fulls_owe
  pub shapes : ListsOwed g (owed_of restrictors) shapes_owe
