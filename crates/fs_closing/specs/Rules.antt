-- What closure needs of a grammar: types, introducers, facts of types, and the limit on paths.
use Rattle.std.specs.Prelude.{ℕ, ◌<◌, ◌==◌, nat_lt, Bool, true, false, List, [], ◌∷◌, ◌++◌, All, length, filter, slice_index_or}
use Rattle.std.specs.List.{range_with_len}
use Rattle.fs_model.specs.Claims.{Claim, exists_at, same, below, System, Has}
use Rattle.type_hierarchy.specs.Table.{TypeTable, count_of, is_below, meet_of}

-- the facts of a type
pub record Rule : Type 0 where
  pub ty : ℕ
  pub claims : List Claim

abbrev pub no_rule : Rule
no_rule = record { ty = 0; claims = [] }

pub record Grammar : Type 0 where
  pub types : TypeTable
  pub introducers : List ℕ
  pub rules : List Rule
  pub path_limit : ℕ

abbrev pub facts_in : List Rule → ℕ → List Claim
facts_in [] t = []
facts_in (r ∷ rules) t = elim (r.ty == t) [ true ↦ r.claims ++ facts_in rules t | false ↦ facts_in rules t ]

-- the top type is number 0
abbrev pub system_of : Grammar → System
system_of g =
    record {
      is_below = is_below g.types;
      meet = meet_of g.types;
      top = 0;
      introducer = λ f. slice_index_or g.introducers f 0;
      facts_of = facts_in g.rules;
      path_limit = g.path_limit;
    }

-- a rule that has facts
abbrev pub has_facts : Rule → Bool
has_facts r = nat_lt 0 (length r.claims)

-- the places of the rules that have facts
abbrev pub rules_with_facts : List Rule → List ℕ
rules_with_facts rules = filter (λ j. has_facts (slice_index_or rules j no_rule)) (range_with_len 0 (length rules))

-- the places of those whose type is at or above a type
abbrev pub rules_above : TypeTable → List Rule → ℕ → List ℕ
rules_above types rules t = filter (λ j. is_below types t (slice_index_or rules j no_rule).ty) (rules_with_facts rules)

-- two lists have the same members
pub record HaveSame (xs ys : List ℕ) : Type 0 where
  pub to : (j : ℕ) → Has j xs → Has j ys
  pub back : (j : ℕ) → Has j ys → Has j xs

-- a claim speaks of features and types that are there
abbrev pub IsClaimIn : ℕ → ℕ → Claim → Type 0
IsClaimIn types feats (exists_at p) = All (λ f. f < feats) p
IsClaimIn types feats (same p q) = All (λ f. f < feats) p × All (λ f. f < feats) q
IsClaimIn types feats (below p t) = All (λ f. f < feats) p × (t < types)

-- the types of rules are there
abbrev pub HaveTypesIn : ℕ → List Rule → Type 0
HaveTypesIn types rules = (j : ℕ) → j < length rules → (slice_index_or rules j no_rule).ty < types

-- no type and no feature is out of range
pub record IsGrammar (g : Grammar) : Type 0 where
  pub some : 0 < count_of g.types
  pub introducers : (f : ℕ) → f < length g.introducers → slice_index_or g.introducers f 0 < count_of g.types
  pub rule_types : HaveTypesIn (count_of g.types) g.rules
  pub claims : (j : ℕ) (c : Claim) → j < length g.rules → Has c (slice_index_or g.rules j no_rule).claims →
      IsClaimIn (count_of g.types) (length g.introducers) c
