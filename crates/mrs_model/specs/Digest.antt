-- Numbers made of the names, relations and texts of an MRS. No renaming changes them, so MRSs with different numbers aren't equal.
use Rattle.std.specs.Prelude.{ℕ, ◌+◌, ◌*◌, ◌%◌, ◌^◌, List, [], ◌∷◌}
use Rattle.std.specs.List.{sum_by}
use Rattle.mrs_model.specs.Meanings.{Property, Variable, Filler, of_var, of_text, Argument, Predication, Constraint, Meaning}

unfoldable pub key_step : ℕ → ℕ → ℕ
key_step key byte = ((key * 1099511628211) % 2 ^ 64 + byte) % 2 ^ 64

abbrev pub text_key : ℕ → List ℕ → ℕ
text_key key [] = key
text_key key (b ∷ bs) = text_key (key_step key b) bs

abbrev pub filler_key : ℕ → Filler → ℕ
filler_key key (of_var v) = key_step key 256
filler_key key (of_text t) = text_key (key_step key 257) t

abbrev pub argument_key : ℕ → Argument → ℕ
argument_key key a = filler_key (text_key key a.role) a.filler

abbrev pub arguments_key : ℕ → List Argument → ℕ
arguments_key key [] = key
arguments_key key (a ∷ rest) = arguments_key (argument_key key a) rest

abbrev pub ep_key : Predication → ℕ
ep_key e = arguments_key (text_key 1 e.pred) e.args

abbrev pub hcon_key : Constraint → ℕ
hcon_key c = text_key 2 c.rel

abbrev pub icon_key : Constraint → ℕ
icon_key c = text_key 3 c.rel

abbrev pub props_key : ℕ → List Property → ℕ
props_key key [] = key
props_key key (p ∷ rest) = props_key (text_key (text_key key p.name) p.value) rest

abbrev pub variable_key : Variable → ℕ
variable_key v = props_key (text_key 4 v.sort) v.props

-- the sum of all keys, in which no order of elements is seen
abbrev pub digest_of : Meaning → ℕ
digest_of m = (((sum_by variable_key m.vars % 2 ^ 64 + sum_by ep_key m.eps % 2 ^ 64) % 2 ^ 64 + sum_by hcon_key m.hcons % 2 ^ 64) % 2 ^ 64 + sum_by icon_key m.icons % 2 ^ 64) % 2 ^ 64
