-- Stretches of a line, from one node to another.
use Rattle.std.specs.Prelude.{ℕ, ◌-◌, ◌+◌, ◌*◌, ◌%◌, ◌^◌, ◌<◌, ◌==◌, if◌then◌else◌, Bool, Option, Some, None, List, [], ◌∷◌}
use Rattle.std.specs.Ordering.{nat_cmp, then_cmp, on, is_eq}
use Rattle.chart_model.specs.Calculus.{Calculus}
use Rattle.chart_model.specs.declared.span.Span.{Span}

-- two spans join where the left one ends at the right one's beginning
abbrev pub span_join : Span → Span → Option Span
span_join a b = if a.to == b.from then Some (record { from = a.from; to = b.to }) else None

abbrev pub span_size : Span → ℕ
span_size a = a.to - a.from

-- a number that few spans share
abbrev pub span_cell : Span → ℕ
span_cell a = (a.from % 65536) * 65536 + a.to % 65536

-- a span of the nodes that there are, which isn't empty
abbrev pub is_span : Span → Type 0
is_span s = (s.from < s.to) × (s.to < 2 ^ 32)

-- whether the order tells that two spans are one
abbrev pub same_span : Span → Span → Bool
same_span a b = is_eq (then_cmp (on (λ (s : Span). s.from) nat_cmp) (on (λ (s : Span). s.to) nat_cmp) a b)

-- the join of a span, where there is one, with more to its right
abbrev pub join_next : Option Span → List Span → Option Span
join_next None cs = None
join_next (Some c) [] = Some c
join_next (Some c) (d ∷ ds) = join_next (span_join c d) ds

-- the join of all, from left to right; none of no spans
abbrev pub join_all : List Span → Option Span
join_all [] = None
join_all (c ∷ cs) = join_next (Some c) cs

-- a grammar over spans: a mother covers what her daughters cover, from end to end, whatever the rules are
abbrev pub over_spans : {M : Type 0} → ℕ → (ℕ → ℕ) → (M → M → Bool) → (ℕ → List M → Type 0) → (ℕ → List M → M → Type 0) → Calculus M Span
over_spans rules arity over applies mother =
    record {
      rules = rules;
      arity = arity;
      over = over;
      applies = applies;
      mother = mother;
      covers = λ _ cs. join_all cs;
      same = same_span;
      join = span_join;
      size = span_size;
      proper = is_span;
    }
