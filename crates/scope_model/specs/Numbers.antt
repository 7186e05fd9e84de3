-- An MRS in the numbers that its text gives its variables.
use Rattle.std.specs.Prelude.{ℕ, map}
use Rattle.mrs_model.specs.Meanings.{Filler, of_var, of_text, Argument, Predication, Constraint, Meaning}
use Rattle.mrs_text.specs.Written.{variable_at, order_of, number_of}

-- by what `to` makes of each variable
abbrev pub moved_filler : (ℕ → ℕ) → Filler → Filler
moved_filler to (of_var v) = of_var (to v)
moved_filler to (of_text t) = of_text t

abbrev pub moved_argument : (ℕ → ℕ) → Argument → Argument
moved_argument to a = record { role = a.role; filler = moved_filler to a.filler }

abbrev pub moved_ep : (ℕ → ℕ) → Predication → Predication
moved_ep to e = record { pred = e.pred; label = to e.label; args = map (moved_argument to) e.args; span = e.span }

abbrev pub moved_constraint : (ℕ → ℕ) → Constraint → Constraint
moved_constraint to c = record { left = to c.left; rel = c.rel; right = to c.right }

-- the same MRS, whose variables have the numbers of its text
abbrev pub in_order : Meaning → Meaning
in_order m = record {
  top = number_of m m.top;
  index = number_of m m.index;
  vars = map (variable_at m.vars) (order_of m);
  eps = map (moved_ep (number_of m)) m.eps;
  hcons = map (moved_constraint (number_of m)) m.hcons;
  icons = map (moved_constraint (number_of m)) m.icons;
}
