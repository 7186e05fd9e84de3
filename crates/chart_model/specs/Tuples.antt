-- Tuples of daughters as lists.
use Rattle.std.specs.Prelude.{◌≡◌, ℕ, ◌<◌, ◌≤◌, Option, Some, None, List, [], ◌∷◌, length, map, All}
use Rattle.chart_model.specs.Calculus.{Calculus}
use Rattle.chart_model.specs.declared.covers.Part.{Part}
use Rattle.chart_model.specs.declared.covers.Tuple.{Tuple}

-- what stands in front of a list
abbrev pub on_list : {A : Type 0} → Option A → List A → List A
on_list None xs = xs
on_list (Some x) xs = x ∷ xs

abbrev pub parts_of : {T C : Type 0} → Tuple T C → List (Part T C)
parts_of t = on_list t.a (on_list t.b (on_list t.c (on_list t.d [])))

abbrev pub shapes_of : {T C : Type 0} → Tuple T C → List T
shapes_of t = map (λ p. p.shape) (parts_of t)

abbrev pub covers_of : {T C : Type 0} → Tuple T C → List C
covers_of t = map (λ p. p.cover) (parts_of t)

abbrev pub NoGap : {A : Type 0} → Option A → Option A → Type 0
NoGap (Some x) next = Unit {0}
NoGap None next = next ≡ None

-- the tuple has its number of daughters, from `a` on
pub record IsTuple {T C : Type 0} (t : Tuple T C) : Type 0 where
  pub counted : length (parts_of t) ≡ t.count
  pub from_a : NoGap t.a t.b
  pub from_b : NoGap t.b t.c
  pub from_c : NoGap t.c t.d

-- daughters that a rule may take: at least one, and at most as many as it has
pub record IsFor {T M C : Type 0} (k : Calculus M C) (belongs : T → Type 0) (rule : ℕ) (t : Tuple T C) : Type 0 where
  pub rule_is : rule < k.rules
  pub tuple : IsTuple t
  pub some : 0 < t.count
  pub short : t.count ≤ k.arity rule
  pub shapes : All belongs (shapes_of t)
  pub covers : All k.proper (covers_of t)
