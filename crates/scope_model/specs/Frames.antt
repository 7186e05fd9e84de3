-- What the readings of an MRS are made of (Copestake, Flickinger, Pollard and Sag 2005): labels, holes, quantifiers and constraints.
use Rattle.std.specs.Prelude.{ℕ, ◌+◌, ◌==◌, ◌&&◌, not, if◌then◌else◌, Bool, false, List, [], ◌∷◌, map, Option, Some, None, codes}
use Rattle.std.specs.List.{flat_map}
use Rattle.std.specs.Str.{bytes_eq}
use Rattle.mrs_model.specs.Meanings.{Filler, of_var, of_text, Argument, Predication, Constraint, Meaning}
use Rattle.mrs_text.specs.Written.{variable_at}
use Rattle.scope_model.specs.declared.Opening.{Opening}
use Rattle.scope_model.specs.declared.Quantifier.{Quantifier}
use Rattle.scope_model.specs.declared.Binding.{Binding}
use Rattle.scope_model.specs.declared.Qeq.{Qeq}

pub record Frame : Type 0 where
  pub top : ℕ
  -- the label of each elementary predication, in order of writing
  pub labels : List ℕ
  pub openings : List Opening
  pub quantifiers : List Quantifier
  pub bindings : List Binding
  pub qeqs : List Qeq

-- the variable is of sort `h`
abbrev pub is_handle : Meaning → ℕ → Bool
is_handle m v = bytes_eq (variable_at m.vars v).sort (codes "h")

abbrev pub handles_in : Meaning → Filler → List ℕ
handles_in m (of_var v) = if is_handle m v then v ∷ [] else []
handles_in m (of_text t) = []

abbrev pub openings_in : Meaning → Predication → List Opening
openings_in m e = flat_map (λ a. map (λ h. record { label = e.label; hole = h }) (handles_in m a.filler)) e.args

abbrev pub variable_in : Filler → Option ℕ
variable_in (of_var v) = Some v
variable_in (of_text t) = None

-- the variable at a role, where one is there
abbrev pub at_role : List ℕ → List Argument → Option ℕ
at_role role [] = None
at_role role (a ∷ args) = if bytes_eq a.role role then variable_in a.filler else at_role role args

abbrev pub hole_at : Meaning → Option ℕ → Option ℕ
hole_at m None = None
hole_at m (Some v) = if is_handle m v then Some v else None

abbrev pub quantifier_with : Predication → Option ℕ → Option ℕ → Option Quantifier
quantifier_with e (Some r) (Some b) = Some (record { label = e.label; rstr = r; body = b; bound = at_role (codes "arg0") e.args })
quantifier_with e (Some r) None = None
quantifier_with e None b = None

-- an elementary predication with roles RSTR and BODY of sort `h` is a quantifier
abbrev pub quantifier_of : Meaning → Predication → Option Quantifier
quantifier_of m e = quantifier_with e (hole_at m (at_role (codes "rstr") e.args)) (hole_at m (at_role (codes "body") e.args))

abbrev pub listed : {A : Type 0} → Option A → List A
listed None = []
listed (Some x) = x ∷ []

abbrev pub is_variable : ℕ → Filler → Bool
is_variable x (of_var v) = v == x
is_variable x (of_text t) = false

abbrev pub has_variable : ℕ → List Argument → Bool
has_variable x [] = false
has_variable x (a ∷ args) = if is_variable x a.filler then is_variable x a.filler else has_variable x args

-- each elementary predication with its place
abbrev pub placed : ℕ → List Predication → List (ℕ × Predication)
placed n [] = []
placed n (e ∷ es) = (n, e) ∷ placed (n + 1) es

abbrev pub bindings_of : Quantifier → Option ℕ → ℕ → List (ℕ × Predication) → List Binding
bindings_of q None own es = []
bindings_of q (Some x) own es = flat_map (λ s. if (not (s.0 == own) && has_variable x s.1.args) then record { rstr = q.rstr; body = q.body; label = s.1.label } ∷ [] else []) es

abbrev pub bindings_at : Meaning → List (ℕ × Predication) → ℕ × Predication → List Binding
bindings_at m es s = flat_map (λ q. bindings_of q q.bound s.0 es) (listed (quantifier_of m s.1))

abbrev pub frame_of : Meaning → Frame
frame_of m = record {
  top = m.top;
  labels = map (λ e. e.label) m.eps;
  openings = flat_map (openings_in m) m.eps;
  quantifiers = flat_map (λ e. listed (quantifier_of m e)) m.eps;
  bindings = flat_map (bindings_at m (placed 0 m.eps)) (placed 0 m.eps);
  qeqs = map (λ c. record { left = c.left; right = c.right }) m.hcons;
}
