-- The text that is written, step by step, with the tokens that each step has.
use Rattle.std.proofs.Common.{◌≡◌, ℕ, ◌∙◌, ◌&&◌, nat_lt, if◌then◌else◌, List, [], ◌∷◌, ◌++◌, refl, ap, sym, append_assoc, length, codes, Option, Some, None, decimal}
use Rattle.std.specs.List.{flat_map, list_all}
use Rattle.std.specs.Str.{chars}
use Rattle.mrs_model.specs.declared.Extent.{Extent}
use Rattle.mrs_model.specs.Meanings.{Property, Variable, Filler, of_var, of_text, Argument, Predication, Constraint, Meaning}
use Rattle.mrs_spelling.specs.declared.kinds.Kind.{Kind}
use Rattle.mrs_spelling.specs.declared.kinds.Kind.TheVariants.{Top, Index, PropName, PropValue, PredRun, PredText, Link, Role, Filler as FillerKind, OpensText, Text, EpEnd, High, HandleRel, Low, Left, VariableRel, Right}
use Rattle.mrs_reading.specs.Meaning.{Piece}
use Rattle.mrs_text.specs.Signs.{in_pred}
use Rattle.mrs_text.specs.Written.{Part, bytes, escaped, quoted, upper, pred_text, span_text, filler_part, argument_parts, ep_parts, constraint_parts, list_parts, icons_parts, parts, variable_text, variable_at, place_of, seen_after, text_after}
use Rattle.mrs_text.proofs.Writing.{parts_split}

-- some bytes with their tokens, or a variable of this kind
pub data Step : Type 0 where
  say : List ℕ → List Piece → Step
  at : Kind → ℕ → Step

abbrev pub told : List Variable → List ℕ → List Step → List ℕ
told vars seen [] = []
told vars seen (say bs ps ∷ ss) = bs ++ told vars seen ss
told vars seen (at k v ∷ ss) = variable_text (place_of v seen) (length seen) (variable_at vars v) ++ told vars (seen_after (place_of v seen) seen v) ss

abbrev pub number_of : Option ℕ → ℕ → ℕ
number_of (Some n) next = n
number_of None next = next

abbrev pub property_pieces : Property → List Piece
property_pieces p = record { kind = PropName; text = upper p.name } ∷ record { kind = PropValue; text = p.value } ∷ []

abbrev pub given_pieces : Option ℕ → List Property → List Piece
given_pieces (Some n) ps = []
given_pieces None ps = flat_map property_pieces ps

abbrev pub variable_pieces : Kind → Option ℕ → ℕ → Variable → List Piece
variable_pieces k o next v = record { kind = k; text = v.sort ++ decimal (number_of o next) } ∷ given_pieces o v.props

abbrev pub pieces : List Variable → List ℕ → List Step → List Piece
pieces vars seen [] = []
pieces vars seen (say bs ps ∷ ss) = ps ++ pieces vars seen ss
pieces vars seen (at k v ∷ ss) = variable_pieces k (place_of v seen) (length seen) (variable_at vars v) ++ pieces vars (seen_after (place_of v seen) seen v) ss

abbrev pub filler_step : Filler → Step
filler_step (of_var v) = at FillerKind v
filler_step (of_text t) = say (quoted t) (record { kind = OpensText; text = 34 ∷ [] } ∷ record { kind = Text; text = flat_map escaped t } ∷ [])

abbrev pub role_step : Argument → Step
role_step a = say ((32 ∷ upper a.role) ++ 58 ∷ 32 ∷ []) (record { kind = Role; text = upper a.role } ∷ [])

abbrev pub args_then : List Argument → List Step → List Step
args_then [] tail = tail
args_then (a ∷ xs) tail = role_step a ∷ filler_step a.filler ∷ args_then xs tail

abbrev pub pred_piece : List ℕ → Piece
pred_piece pred = if (nat_lt 0 (length pred) && list_all in_pred (chars pred)) then record { kind = PredRun; text = pred } else record { kind = PredText; text = flat_map escaped pred }

abbrev pub link_pieces : Option Extent → List Piece
link_pieces None = []
link_pieces (Some e) = record { kind = Link; text = decimal e.from ++ 58 ∷ decimal e.to } ∷ []

-- the label as a role, and the others
abbrev pub roles_of : Predication → List Argument
roles_of e = record { role = codes "lbl"; filler = of_var e.label } ∷ e.args

abbrev pub ep_then : Predication → List Step → List Step
ep_then e tail =
    say (codes " [ " ++ (pred_text e.pred ++ span_text e.span)) (pred_piece e.pred ∷ link_pieces e.span)
    ∷ args_then (roles_of e) (say (codes " ]") (record { kind = EpEnd; text = 93 ∷ [] } ∷ []) ∷ tail)

abbrev pub eps_then : List Predication → List Step → List Step
eps_then [] tail = tail
eps_then (e ∷ es) tail = ep_then e (eps_then es tail)

abbrev pub constraint_then : Kind → Kind → Kind → Constraint → List Step → List Step
constraint_then one rel two c tail = say (32 ∷ []) [] ∷ at one c.left ∷ say ((32 ∷ c.rel) ++ 32 ∷ []) (record { kind = rel; text = c.rel } ∷ []) ∷ at two c.right ∷ tail

abbrev pub constraints_then : Kind → Kind → Kind → List Constraint → List Step → List Step
constraints_then one rel two [] tail = tail
constraints_then one rel two (c ∷ cs) tail = constraint_then one rel two c (constraints_then one rel two cs tail)

abbrev pub list_then : List ℕ → Kind → Kind → Kind → List Constraint → List Step → List Step
list_then word one rel two cs tail = say ((32 ∷ word) ++ codes ": <") [] ∷ constraints_then one rel two cs (say (codes " >") [] ∷ tail)

abbrev pub icons_then : List Constraint → List Step → List Step
icons_then [] tail = tail
icons_then (c ∷ cs) tail = list_then (codes "ICONS") Left VariableRel Right (c ∷ cs) tail

abbrev pub last_step : List Step
last_step = say (codes " ]") [] ∷ []

abbrev pub ending_steps : Meaning → List Step
ending_steps m = list_then (codes "HCONS") High HandleRel Low m.hcons (icons_then m.icons last_step)

abbrev pub steps : Meaning → List Step
steps m = say (codes "[ TOP: ") [] ∷ at Top m.top ∷ say (codes " INDEX: ") [] ∷ at Index m.index ∷ say (codes " RELS: <") [] ∷ eps_then m.eps (say (codes " >") [] ∷ ending_steps m)

-- the steps tell the text that is written
abbrev pub Tells : List Variable → List Step → List Part → Type 0
Tells vars ss ps = (seen : List ℕ) → told vars seen ss ≡ text_after vars seen ps

filler_tell : (vars : List Variable) (f : Filler) (tail : List Step) (rest : List Part) → Tells vars tail rest → Tells vars (filler_step f ∷ tail) (filler_part f ∷ rest)
filler_tell vars (of_var v) tail rest h seen = ap (λ z. variable_text (place_of v seen) (length seen) (variable_at vars v) ++ z) (h (seen_after (place_of v seen) seen v))
filler_tell vars (of_text t) tail rest h seen = ap (λ z. quoted t ++ z) (h seen)

args_tell : (vars : List Variable) (xs : List Argument) (tail : List Step) (rest : List Part) → Tells vars tail rest → Tells vars (args_then xs tail) (flat_map argument_parts xs ++ rest)
args_tell vars [] tail rest h seen = h seen
args_tell vars (a ∷ xs) tail rest h seen = ap (λ z. ((32 ∷ upper a.role) ++ 58 ∷ 32 ∷ []) ++ z) (filler_tell vars a.filler (args_then xs tail) (flat_map argument_parts xs ++ rest) (args_tell vars xs tail rest h) seen)

ep_tell : (vars : List Variable) (e : Predication) (tail : List Step) (rest : List Part) → Tells vars tail rest → Tells vars (ep_then e tail) (ep_parts e ++ rest)
ep_tell vars e tail rest h seen =
    let a = codes " [ " ++ (pred_text e.pred ++ span_text e.span) in
    let s = seen_after (place_of e.label seen) seen e.label in
    let t = variable_text (place_of e.label seen) (length seen) (variable_at vars e.label) in
    let k : told vars s (args_then e.args (say (codes " ]") (record { kind = EpEnd; text = 93 ∷ [] } ∷ []) ∷ tail)) ≡ text_after vars s (flat_map argument_parts e.args ++ (bytes (codes " ]") ∷ rest)) =
    args_tell vars e.args (say (codes " ]") (record { kind = EpEnd; text = 93 ∷ [] } ∷ []) ∷ tail) (bytes (codes " ]") ∷ rest) (λ z. ap (λ l. codes " ]" ++ l) (h z)) s in
    let j : text_after vars s (flat_map argument_parts e.args ++ (bytes (codes " ]") ∷ rest)) ≡ text_after vars s ((flat_map argument_parts e.args ++ bytes (codes " ]") ∷ []) ++ rest) =
    ap (text_after vars s) (sym (append_assoc (flat_map argument_parts e.args) (bytes (codes " ]") ∷ []) rest)) in
    sym (append_assoc a (codes " LBL: ") (t ++ told vars s (args_then e.args (say (codes " ]") (record { kind = EpEnd; text = 93 ∷ [] } ∷ []) ∷ tail)))) ∙ ap (λ z. (a ++ codes " LBL: ") ++ (t ++ z)) (k ∙ j)

eps_tell : (vars : List Variable) (es : List Predication) (tail : List Step) (rest : List Part) → Tells vars tail rest → Tells vars (eps_then es tail) (flat_map ep_parts es ++ rest)
eps_tell vars [] tail rest h seen = h seen
eps_tell vars (e ∷ es) tail rest h seen =
    ep_tell vars e (eps_then es tail) (flat_map ep_parts es ++ rest) (eps_tell vars es tail rest h) seen ∙ ap (text_after vars seen) (sym (append_assoc (ep_parts e) (flat_map ep_parts es) rest))

constraints_tell : (vars : List Variable) (one rel two : Kind) (cs : List Constraint) (tail : List Step) (rest : List Part) → Tells vars tail rest → Tells vars (constraints_then one rel two cs tail) (flat_map constraint_parts cs ++ rest)
constraints_tell vars one rel two [] tail rest h seen = h seen
constraints_tell vars one rel two (c ∷ cs) tail rest h seen =
    let s = seen_after (place_of c.left seen) seen c.left in
    ap (λ z. (32 ∷ []) ++ (variable_text (place_of c.left seen) (length seen) (variable_at vars c.left) ++ (((32 ∷ c.rel) ++ 32 ∷ []) ++ (variable_text (place_of c.right s) (length s) (variable_at vars c.right) ++ z))))
    (constraints_tell vars one rel two cs tail rest h (seen_after (place_of c.right s) s c.right))

list_tell : (vars : List Variable) (word : List ℕ) (one rel two : Kind) (cs : List Constraint) (tail : List Step) (rest : List Part) → Tells vars tail rest → Tells vars (list_then word one rel two cs tail) (list_parts word cs ++ rest)
list_tell vars word one rel two cs tail rest h seen =
    ap (λ z. ((32 ∷ word) ++ codes ": <") ++ z) (constraints_tell vars one rel two cs (say (codes " >") [] ∷ tail) (bytes (codes " >") ∷ rest) (λ z. ap (λ l. codes " >" ++ l) (h z)) seen
    ∙ ap (text_after vars seen) (sym (append_assoc (flat_map constraint_parts cs) (bytes (codes " >") ∷ []) rest)))

icons_tell : (vars : List Variable) (cs : List Constraint) (tail : List Step) (rest : List Part) → Tells vars tail rest → Tells vars (icons_then cs tail) (icons_parts cs ++ rest)
icons_tell vars [] tail rest h seen = h seen
icons_tell vars (c ∷ cs) tail rest h seen = list_tell vars (codes "ICONS") Left VariableRel Right (c ∷ cs) tail rest h seen

last_tell : (vars : List Variable) → Tells vars last_step (bytes (codes " ]") ∷ [])
last_tell vars seen = refl

pub steps_tell : (m : Meaning) → Tells m.vars (steps m) (parts m)
steps_tell m seen =
    let s = seen_after (place_of m.top seen) seen m.top in
    let u = seen_after (place_of m.index s) s m.index in
    let e = list_tell m.vars (codes "HCONS") High HandleRel Low m.hcons (icons_then m.icons last_step) (icons_parts m.icons ++ bytes (codes " ]") ∷ []) (icons_tell m.vars m.icons last_step (bytes (codes " ]") ∷ []) (last_tell m.vars)) in
    let k = eps_tell m.vars m.eps (say (codes " >") [] ∷ ending_steps m) (bytes (codes " >") ∷ (list_parts (codes "HCONS") m.hcons ++ (icons_parts m.icons ++ bytes (codes " ]") ∷ []))) (λ z. ap (λ l. codes " >" ++ l) (e z)) u in
    ap (λ z. codes "[ TOP: " ++ (variable_text (place_of m.top seen) (length seen) (variable_at m.vars m.top) ++ (codes " INDEX: " ++ (variable_text (place_of m.index s) (length s) (variable_at m.vars m.index) ++ (codes " RELS: <" ++ z))))) k
    ∙ ap (text_after m.vars seen) (parts_split m)
