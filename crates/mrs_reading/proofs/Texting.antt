-- What the texts of tokens are made of.
use Rattle.std.proofs.Common.{◌≡◌, ℕ, ◌∙◌, ◌<◌, ◌⊎◌, inl, inr, Bool, true, false, ◌&&◌, List, [], ◌∷◌, ◌++◌, refl, ap, sym, subst, append-nil, length, codes, arith}
use Rattle.std.specs.List.{Contains, All}
use Rattle.std.proofs.lemmas.List.Elements.{Contains-append_cases, Contains-push_cases, All-nil, All-cons, All-head, All-tail}
use lib.Utf8.{scalar, scalars}
use Rattle.mrs_spelling.specs.declared.kinds.Kind.{Kind}
use Rattle.mrs_spelling.specs.declared.kinds.Kind.TheVariants.{Top, Index, PropName, PropValue, Role, Filler, High, HandleRel, Low, Left, VariableRel, Right}
use Rattle.mrs_spelling.specs.Forms.{Class, letter, digit, in_name, has, Form, nothing, sign, seq, many, either, token}
use Rattle.mrs_spelling.specs.Grammar.{run, word, name, quoted, property, properties, var, text, role, pred, link, ep, constraint, constraints, passed_over, beginning, relations, ending, mrs}
use Rattle.mrs_spelling.specs.Reading.{Tok, Outcome, done, stuck, Reads, reads_nothing, sign_yes, sign_no, seq_stop, seq_go, many_none, many_stop, many_go, either_yes, either_no, token_yes, token_no}
use Rattle.mrs_spelling.proofs.Moving.{moved, joined}
use Rattle.mrs_reading.proofs.Predicated.{nothing_in}

-- some texts one after another
data Repeats (P : List ℕ → Type 0) : List ℕ → Type 0 where
  no_more : Repeats P []
  one_more : (u v : List ℕ) → P u → Repeats P v → Repeats P (u ++ v)

-- the texts of a form
abbrev Within : Form → List ℕ → Type 0
Within nothing s = s ≡ []
Within (sign x) s = (c : ℕ) × (s ≡ c ∷ []) × (has x c ≡ true)
Within (seq p q) s = (u : List ℕ) × (v : List ℕ) × (s ≡ u ++ v) × Within p u × Within q v
Within (many x p) s = Repeats (Within p) s
Within (either x p q) s = Within p s ⊎ Within q s
Within (token k p) s = Within p s

-- a form was read whole
record Spelt (r : Form) (b d : List ℕ) : Type 0 where
  pub read : List ℕ
  pub before : d ≡ b ++ read
  pub within : Within r read

spelt : (r : Form) (b cs : List ℕ) (es : List Tok) (o : Outcome) (d rest : List ℕ) → Reads r b cs es o d rest → o ≡ done → Spelt r b d
spelt _ _ _ _ _ _ _ (reads_nothing b cs) e = record { read = []; before = sym (append-nil b); within = refl }
spelt _ _ _ _ _ _ _ (sign_yes x b cs c h) e = record { read = c ∷ []; before = refl; within = (c, refl, h) }
spelt _ _ _ _ _ _ _ (sign_no x b cs h) e = absurd (cc)
spelt _ _ _ _ _ _ _ (seq_stop p q b cs d rest es h) e = absurd (cc)
spelt _ _ _ _ _ _ _ (seq_go p q b cs m mid d rest es fs o h k) e =
    let u = spelt p b cs es done m mid h refl in
    let v = spelt q m mid fs o d rest k e in
    record { read = u.read ++ v.read; before = joined b m d u.read v.read u.before v.before; within = (u.read, v.read, refl, u.within, v.within) }
spelt _ _ _ _ _ _ _ (many_none x p b cs h) e = record { read = []; before = sym (append-nil b); within = no_more }
spelt _ _ _ _ _ _ _ (many_stop x p b cs d rest es t h) e = absurd (cc)
spelt _ _ _ _ _ _ _ (many_go x p b cs m mid d rest es fs o t h k) e =
    let u = spelt p b cs es done m mid h refl in
    let v = spelt (many x p) m mid fs o d rest k e in
    record { read = u.read ++ v.read; before = joined b m d u.read v.read u.before v.before; within = one_more u.read v.read u.within v.within }
spelt _ _ _ _ _ _ _ (either_yes x p q b cs d rest es o t h) e = let u = spelt p b cs es o d rest h e in record { read = u.read; before = u.before; within = inl u.within }
spelt _ _ _ _ _ _ _ (either_no x p q b cs d rest es o t h) e = let u = spelt q b cs es o d rest h e in record { read = u.read; before = u.before; within = inr u.within }
spelt _ _ _ _ _ _ _ (token_yes k p b cs s rest es h) e = let u = spelt p b cs es done (b ++ s) rest h refl in record { read = u.read; before = u.before; within = u.within }
spelt _ _ _ _ _ _ _ (token_no k p b cs d rest es h) e = absurd (cc)

both_true : (a b : Bool) → (a && b) ≡ true → (a ≡ true) × (b ≡ true)
both_true true true e = (refl, refl)
both_true true false e = absurd (cc)
both_true false b e = absurd (cc)

scalars_front : (xs ys : List ℕ) → scalars (xs ++ ys) ≡ true → scalars xs ≡ true
scalars_front [] ys e = refl
scalars_front (x ∷ xs) ys e = let w = both_true (scalar x) (scalars (xs ++ ys)) e in ap (λ z. z && scalars xs) w.0 ∙ scalars_front xs ys w.1

scalars_back : (xs ys : List ℕ) → scalars (xs ++ ys) ≡ true → scalars ys ≡ true
scalars_back [] ys e = e
scalars_back (x ∷ xs) ys e = scalars_back xs ys (both_true (scalar x) (scalars (xs ++ ys)) e).1

cancel : (b s t : List ℕ) → b ++ s ≡ b ++ t → s ≡ t
cancel [] s t e = e
cancel (c ∷ b) s t e = cancel b s t (cc)

-- each token of the form has such a text
abbrev Makes : (Kind → List ℕ → Type 0) → Form → Type 0
Makes P nothing = Unit {0}
Makes P (sign x) = Unit {0}
Makes P (seq p q) = Makes P p × Makes P q
Makes P (many x p) = Makes P p
Makes P (either x p q) = Makes P p × Makes P q
Makes P (token k p) = Makes P p × ((s : List ℕ) → scalars s ≡ true → Within p s → P k s)

made : (P : Kind → List ℕ → Type 0) (r : Form) (b cs : List ℕ) (es : List Tok) (o : Outcome) (d rest : List ℕ) → Reads r b cs es o d rest → scalars cs ≡ true → Makes P r → (e : Tok) → Contains es e → P e.kind e.text
made P _ _ _ _ _ _ _ (reads_nothing b cs) s m e c = absurd (nothing_in e c)
made P _ _ _ _ _ _ _ (sign_yes x b cs a h) s m e c = absurd (nothing_in e c)
made P _ _ _ _ _ _ _ (sign_no x b cs h) s m e c = absurd (nothing_in e c)
made P _ _ _ _ _ _ _ (seq_stop p q b cs d rest es h) s m e c = made P p b cs es stuck d rest h s m.0 e c
made P _ _ _ _ _ _ _ (seq_go p q b cs m1 mid d rest es fs o h k) s m e c = elim (Contains-append_cases es fs e c) [
  | inl x ↦ made P p b cs es done m1 mid h s m.0 e x
  | inr x ↦ made P q m1 mid fs o d rest k (let u = moved p b cs es done m1 mid h in scalars_back u.read mid (ap scalars (sym u.is) ∙ s)) m.1 e x
]
made P _ _ _ _ _ _ _ (many_none x p b cs h) s m e c = absurd (nothing_in e c)
made P _ _ _ _ _ _ _ (many_stop x p b cs d rest es t h) s m e c = made P p b cs es stuck d rest h s m e c
made P _ _ _ _ _ _ _ (many_go x p b cs m1 mid d rest es fs o t h k) s m e c = elim (Contains-append_cases es fs e c) [
  | inl y ↦ made P p b cs es done m1 mid h s m e y
  | inr y ↦ made P (many x p) m1 mid fs o d rest k (let u = moved p b cs es done m1 mid h in scalars_back u.read mid (ap scalars (sym u.is) ∙ s)) m e y
]
made P _ _ _ _ _ _ _ (either_yes x p q b cs d rest es o t h) s m e c = made P p b cs es o d rest h s m.0 e c
made P _ _ _ _ _ _ _ (either_no x p q b cs d rest es o t h) s m e c = made P q b cs es o d rest h s m.1 e c
made P _ _ _ _ _ _ _ (token_yes k p b cs a rest es h) s m e c = elim (Contains-push_cases es (record { kind = k; text = a; at = b }) e c) [
  | inl x ↦ made P p b cs es done (b ++ a) rest h s m.0 e x
  | inr x ↦ subst (λ (z : Tok). P z.kind z.text) x (m.1 a
      (let u = moved p b cs es done (b ++ a) rest h in scalars_front a rest (ap scalars (ap (λ z. z ++ rest) (cancel b a u.read u.before) ∙ sym u.is) ∙ s))
      (let v = spelt p b cs es done (b ++ a) rest h refl in subst (Within p) (sym (cancel b a v.read v.before)) v.within))
]
made P _ _ _ _ _ _ _ (token_no k p b cs d rest es h) s m e c = made P p b cs es stuck d rest h s m.0 e c

-- a run of the class
pub record IsRun (x : Class) (s : List ℕ) : Type 0 where
  pub scalar : scalars s ≡ true
  pub some : 0 < length s
  pub signs : All (λ c. has x c ≡ true) s

-- it begins with a letter
pub record HasLetter (s : List ℕ) : Type 0 where
  pub first : ℕ
  pub rest : List ℕ
  pub is : s ≡ first ∷ rest
  pub is_letter : has letter first ≡ true

all_joined : (x : Class) (u v : List ℕ) → All (λ c. has x c ≡ true) u → All (λ c. has x c ≡ true) v → All (λ c. has x c ≡ true) (u ++ v)
all_joined x [] v h k = k
all_joined x (c ∷ u) v h k = All-cons (λ z. has x z ≡ true) c (u ++ v) (All-head (λ z. has x z ≡ true) c u h) (all_joined x u v (All-tail (λ z. has x z ≡ true) c u h) k)

sign_all : (x : Class) (s : List ℕ) → Within (sign x) s → All (λ c. has x c ≡ true) s
sign_all x s h = subst (All (λ c. has x c ≡ true)) (sym h.1) (All-cons (λ z. has x z ≡ true) h.0 [] h.2 (All-nil (λ z. has x z ≡ true)))

repeats_all : (x : Class) (s : List ℕ) → Repeats (Within (sign x)) s → All (λ c. has x c ≡ true) s
repeats_all x _ no_more = All-nil (λ z. has x z ≡ true)
repeats_all x _ (one_more u v h k) = all_joined x u v (sign_all x u h) (repeats_all x v k)

run_is : (x : Class) (s : List ℕ) → scalars s ≡ true → Within (run x) s → IsRun x s
run_is x s e h = record {
  scalar = e;
  some = subst (λ (z : List ℕ). 0 < length z) (sym (h.2 ∙ ap (λ z. z ++ h.1) h.3.1)) (omega arith);
  signs = subst (All (λ c. has x c ≡ true)) (sym h.2) (all_joined x h.0 h.1 (sign_all x h.0 h.3) (repeats_all x h.1 h.4));
}

var_is : (s : List ℕ) → Within (seq (run letter) (run digit)) s → HasLetter s
var_is s h =
    let w = h.3 in
    record { first = w.3.0; rest = w.1 ++ h.1; is = h.2 ∙ ap (λ z. z ++ h.1) (w.2 ∙ ap (λ z. z ++ w.1) w.3.1); is_letter = w.3.2 }

-- what is wanted of the text of a token
abbrev pub Wanted : Kind → List ℕ → Type 0
Wanted PropName s = IsRun in_name s
Wanted PropValue s = IsRun in_name s
Wanted Role s = IsRun in_name s
Wanted HandleRel s = IsRun in_name s
Wanted VariableRel s = IsRun in_name s
Wanted Top s = HasLetter s
Wanted Index s = HasLetter s
Wanted Filler s = HasLetter s
Wanted High s = HasLetter s
Wanted Low s = HasLetter s
Wanted Left s = HasLetter s
Wanted Right s = HasLetter s
Wanted _ s = Unit {0}

word_makes : (cs : List ℕ) → Makes Wanted (word cs)
word_makes [] = tt
word_makes (c ∷ cs) = (tt, word_makes cs)

name_makes : (k : Kind) → ((s : List ℕ) → IsRun in_name s → Wanted k s) → Makes Wanted (name k)
name_makes k f = (((tt, tt), λ s e h. f s (run_is in_name s e h)), tt)

property_makes : Makes Wanted property
property_makes = (name_makes PropName (λ s h. h), (word_makes (codes ":"), name_makes PropValue (λ s h. h)))

properties_makes : Makes Wanted properties
properties_makes = (word_makes (codes "["), ((tt, tt), (tt, (property_makes, word_makes (codes "]")))))

var_makes : (k : Kind) → ((s : List ℕ) → HasLetter s → Wanted k s) → Makes Wanted (var k)
var_makes k f = ((((tt, tt), (tt, tt)), λ s e h. f s (var_is s h)), (tt, (properties_makes, tt)))

quoted_makes : Makes Wanted quoted
quoted_makes = ((tt, tt), tt)

text_makes : Makes Wanted text
text_makes = ((tt, λ s e h. tt), ((quoted_makes, λ s e h. tt), word_makes (codes "\"")))

role_makes : Makes Wanted role
role_makes = (name_makes Role (λ s h. h), (word_makes (codes ":"), (text_makes, var_makes Filler (λ s h. h))))

pred_makes : Makes Wanted pred
pred_makes = ((tt, ((quoted_makes, λ s e h. tt), tt)), ((tt, tt), λ s e h. tt))

link_makes : Makes Wanted link
link_makes = ((tt, ((tt, λ s e h. tt), tt)), tt)

ep_makes : Makes Wanted ep
ep_makes = (word_makes (codes "["), (pred_makes, (link_makes, (tt, (role_makes, ((tt, λ s e h. tt), tt))))))

constraint_makes : (left rel right : Kind) → ((s : List ℕ) → HasLetter s → Wanted left s) → ((s : List ℕ) → IsRun in_name s → Wanted rel s) → ((s : List ℕ) → HasLetter s → Wanted right s) → Makes Wanted (constraint left rel right)
constraint_makes left rel right f g h = (var_makes left f, (((tt, tt), λ s e w. g s (run_is in_name s e w)), ((tt, tt), var_makes right h)))

constraints_makes : (left rel right : Kind) → ((s : List ℕ) → HasLetter s → Wanted left s) → ((s : List ℕ) → IsRun in_name s → Wanted rel s) → ((s : List ℕ) → HasLetter s → Wanted right s) → Makes Wanted (constraints left rel right)
constraints_makes left rel right f g h = (word_makes (codes ":"), (word_makes (codes "<"), (constraint_makes left rel right f g h, word_makes (codes ">"))))

passed_makes : Makes Wanted passed_over
passed_makes = (((tt, (tt, word_makes (codes ">"))), tt), ((tt, (quoted_makes, word_makes (codes "\""))), tt))

beginning_makes : Makes Wanted beginning
beginning_makes = (word_makes (codes "["), (passed_makes, ((word_makes (codes "LTOP"), word_makes (codes "TOP")), (word_makes (codes ":"), (var_makes Top (λ s h. h), (word_makes (codes "INDEX"), (word_makes (codes ":"), var_makes Index (λ s h. h))))))))

relations_makes : Makes Wanted relations
relations_makes = (word_makes (codes "RELS"), (word_makes (codes ":"), (word_makes (codes "<"), (ep_makes, word_makes (codes ">")))))

ending_makes : Makes Wanted ending
ending_makes = (
  ((word_makes (codes "HCONS"), constraints_makes High HandleRel Low (λ s h. h) (λ s h. h) (λ s h. h)), tt),
  (((word_makes (codes "ICONS"), constraints_makes Left VariableRel Right (λ s h. h) (λ s h. h) (λ s h. h)), tt), word_makes (codes "]")),
)

-- the text of each token of a line
pub texts : (cs : List ℕ) (es : List Tok) (o : Outcome) (d rest : List ℕ) → Reads mrs [] cs es o d rest → scalars cs ≡ true → (e : Tok) → Contains es e → Wanted e.kind e.text
texts cs es o d rest h s e c = made Wanted mrs [] cs es o d rest h s (beginning_makes, (relations_makes, ending_makes)) e c
