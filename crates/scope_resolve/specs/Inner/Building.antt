-- The frame of an MRS, made from the MRS and the numbers of its variables.
use Rattle.std.specs.Prelude.{ℕ, ◌≡◌, ◌<◌, ◌+◌, ◌==◌, ◌&&◌, not, if◌then◌else◌, Bool, false, List, [], ◌∷◌, ◌++◌, length, slice_index, Option, Some, None, codes}
use Rattle.std.specs.List.{flat_map}
use Rattle.std.specs.Str.{bytes_eq}
use Rattle.mrs_model.specs.Meanings.{Variable, Filler, of_var, of_text, Argument, Predication, Constraint, Meaning}
use Rattle.mrs_text.specs.Written.{variable_at, number_of}
use Rattle.scope_model.specs.declared.Opening.{Opening}
use Rattle.scope_model.specs.declared.Quantifier.{Quantifier}
use Rattle.scope_model.specs.declared.Binding.{Binding}
use Rattle.scope_model.specs.declared.Qeq.{Qeq}
use Rattle.scope_model.specs.Frames.{variable_in, at_role}

-- a number for each variable
pub record AreNumbers (m : Meaning) (ns : List ℕ) : Type 0 where
  pub size : length ns ≡ length m.vars
  pub each : (v : ℕ) → v < length ns → slice_index ns v ≡ number_of m v

abbrev pub is_handle_in : List Variable → ℕ → Bool
is_handle_in vars v = bytes_eq (variable_at vars v).sort (codes "h")

-- the number of a handle
abbrev pub handle_of : List Variable → List ℕ → Option ℕ → Option ℕ
handle_of vars ns None = None
handle_of vars ns (Some v) = if is_handle_in vars v then Some (slice_index ns v) else None

abbrev pub opening_with : ℕ → Option ℕ → List Opening
opening_with label None = []
opening_with label (Some h) = record { label = label; hole = h } ∷ []

abbrev pub openings_with : List Variable → List ℕ → ℕ → List Argument → List Opening
openings_with vars ns label args = flat_map (λ a. opening_with label (handle_of vars ns (variable_in a.filler))) args

abbrev pub openings_from : List Variable → List ℕ → Predication → List Opening
openings_from vars ns e = openings_with vars ns (slice_index ns e.label) e.args

abbrev pub number_at : List ℕ → Option ℕ → Option ℕ
number_at ns None = None
number_at ns (Some v) = Some (slice_index ns v)

abbrev pub quantifier_by : List ℕ → Predication → Option ℕ → Option ℕ → Option Quantifier
quantifier_by ns e (Some r) (Some b) = Some (record { label = slice_index ns e.label; rstr = r; body = b; bound = number_at ns (at_role (codes "arg0") e.args) })
quantifier_by ns e (Some r) None = None
quantifier_by ns e None b = None

abbrev pub quantifier_from : List Variable → List ℕ → Predication → Option Quantifier
quantifier_from vars ns e = quantifier_by ns e (handle_of vars ns (at_role (codes "rstr") e.args)) (handle_of vars ns (at_role (codes "body") e.args))

abbrev pub is_number : List ℕ → ℕ → Filler → Bool
is_number ns x (of_var v) = slice_index ns v == x
is_number ns x (of_text t) = false

abbrev pub has_number : List ℕ → ℕ → List Argument → Bool
has_number ns x [] = false
has_number ns x (a ∷ args) = if is_number ns x a.filler then is_number ns x a.filler else has_number ns x args

-- the binding by a predication, which is the quantifier's own or another one
abbrev pub binding_of : List ℕ → Quantifier → ℕ → Bool → Predication → List Binding
binding_of ns q x is_own e = if (not is_own && has_number ns x e.args) then record { rstr = q.rstr; body = q.body; label = slice_index ns e.label } ∷ [] else []

-- the bindings of a quantifier by the predications from a place on
abbrev pub bindings_with : List ℕ → Quantifier → ℕ → ℕ → ℕ → List Predication → List Binding
bindings_with ns q x own at [] = []
bindings_with ns q x own at (e ∷ es) = binding_of ns q x (at == own) e ++ bindings_with ns q x own (at + 1) es

abbrev pub bindings_by : List ℕ → Quantifier → Option ℕ → ℕ → List Predication → List Binding
bindings_by ns q None own es = []
bindings_by ns q (Some x) own es = bindings_with ns q x own 0 es

abbrev pub bindings_of_quantifier : List ℕ → Option Quantifier → ℕ → List Predication → List Binding
bindings_of_quantifier ns None own es = []
bindings_of_quantifier ns (Some q) own es = bindings_by ns q q.bound own es

abbrev pub bindings_from : List Variable → List ℕ → List Predication → ℕ → List Predication → List Binding
bindings_from vars ns all at [] = []
bindings_from vars ns all at (e ∷ es) = bindings_of_quantifier ns (quantifier_from vars ns e) at all ++ bindings_from vars ns all (at + 1) es

abbrev pub label_from : List ℕ → Predication → ℕ
label_from ns e = slice_index ns e.label

abbrev pub qeq_from : List ℕ → Constraint → Qeq
qeq_from ns c = record { left = slice_index ns c.left; right = slice_index ns c.right }
