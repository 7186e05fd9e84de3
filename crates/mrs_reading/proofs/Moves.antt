-- How the stages of a text follow one another.
use Rattle.std.specs.Prelude.{Option}
use Rattle.std.proofs.Common.{◌≡◌, ◌∙◌, ◌⊎◌, inl, inr, Bool, true, false, List, [], ◌∷◌, None, Some, refl, ap, sym}
use Rattle.std.specs.List.{Contains}
use Rattle.std.proofs.lemmas.Bool.{false≢true}
use Rattle.std.proofs.lemmas.List.Elements.{Contains-append_right, Contains-append_left, Contains-append_cases, Contains-push_cases, Contains-push}
use Rattle.mrs_spelling.specs.declared.kinds.Kind.{Kind}
use Rattle.mrs_spelling.specs.declared.kinds.Kind.TheVariants.{Top, Index, PropName, PropValue, PredRun, PredText, Link, Role, Filler, OpensText, Text, EpEnd, High, HandleRel, Low, Left, VariableRel, Right}
use Rattle.mrs_reading.specs.Meaning.{Piece, emitted, is_top, is_index}
use Rattle.mrs_reading.specs.Inner.Stages.{Stage, begun, topped, outside, in_ep, at_role, at_text, at_high, at_handle_rel, at_left, at_variable_rel, step, same_stage, only_after, stage_after, kinds_in}
use Rattle.mrs_reading.specs.Inner.Predications.{root}
use Rattle.mrs_reading.proofs.Staging.{only_told, same_told, none_after}
use Rattle.mrs_reading.proofs.Predicated.{named_root, valued_root, nothing_in}

abbrev pub in_list : Kind → Bool
in_list PropName = true
in_list PropValue = true
in_list _ = false

-- the stages that a token outside of property lists leads from and to
abbrev pub from : Kind → Stage
from Top = begun
from Index = topped
from Link = in_ep
from Role = in_ep
from Filler = at_role
from OpensText = at_role
from Text = at_text
from EpEnd = in_ep
from HandleRel = at_high
from Low = at_handle_rel
from VariableRel = at_left
from Right = at_variable_rel
from _ = outside

abbrev pub to : Kind → Stage
to Top = topped
to PredRun = in_ep
to PredText = in_ep
to Link = in_ep
to Role = at_role
to Filler = in_ep
to OpensText = at_text
to Text = in_ep
to High = at_high
to HandleRel = at_handle_rel
to Left = at_left
to VariableRel = at_variable_rel
to _ = outside

pub data Moves (s t : Stage) (k : Kind) : Type 0 where
  stays : root t ≡ root s → in_list k ≡ true → Moves s t k
  goes : s ≡ from k → t ≡ to k → in_list k ≡ false → Moves s t k

goes_by : (s t : Stage) (k : Kind) → in_list k ≡ false → only_after (same_stage s (from k)) (to k) ≡ Some t → Moves s t k
goes_by s t k e h = let w = only_told (same_stage s (from k)) (to k) t h in goes (same_told s (from k) w.0) (sym w.1) e

pub moves : (s t : Stage) (k : Kind) → step s k ≡ Some t → Moves s t k
moves s t PropName h = stays (named_root s t h) refl
moves s t PropValue h = stays (valued_root s t h) refl
moves s t Top h = goes_by s t Top refl h
moves s t Index h = goes_by s t Index refl h
moves s t PredRun h = goes_by s t PredRun refl h
moves s t PredText h = goes_by s t PredText refl h
moves s t Link h = goes_by s t Link refl h
moves s t Role h = goes_by s t Role refl h
moves s t Filler h = goes_by s t Filler refl h
moves s t OpensText h = goes_by s t OpensText refl h
moves s t Text h = goes_by s t Text refl h
moves s t EpEnd h = goes_by s t EpEnd refl h
moves s t High h = goes_by s t High refl h
moves s t HandleRel h = goes_by s t HandleRel refl h
moves s t Low h = goes_by s t Low refl h
moves s t Left h = goes_by s t Left refl h
moves s t VariableRel h = goes_by s t VariableRel refl h
moves s t Right h = goes_by s t Right refl h

-- the first token, and those after it
pub record Splits (s : Stage) (p : Piece) (ps : List Piece) (u : Stage) : Type 0 where
  pub next : Stage
  pub first : step s p.kind ≡ Some next
  pub others : stage_after (Some next) (kinds_in ps) ≡ Some u

pub splits : (s : Stage) (p : Piece) (ps : List Piece) (u : Stage) → stage_after (Some s) (kinds_in (p ∷ ps)) ≡ Some u → Splits s p ps u
splits s p ps u h = by (step s p.kind) refl h
  where
    by : (o : Option Stage) → step s p.kind ≡ o → stage_after o (kinds_in ps) ≡ Some u → Splits s p ps u
    by None f g = let w : None ≡ Some u = sym (none_after (kinds_in ps)) ∙ g in absurd (cc)
    by (Some t) f g = record { next = t; first = f; others = g }

-- what is the first one or among the others
pub first_or_other : {A : Type 0} (x : A) (xs : List A) (y : A) → Contains (x ∷ xs) y → (x ≡ y) ⊎ Contains xs y
first_or_other x xs y h = elim (Contains-append_cases (x ∷ []) xs y h) [
  | inl a ↦ (elim (Contains-push_cases [] x y a) [ inl b ↦ absurd (nothing_in y b) | inr b ↦ inl b ])
  | inr a ↦ inr a
]

pub is_first : {A : Type 0} (x : A) (xs : List A) → Contains (x ∷ xs) x
is_first x xs = Contains-append_left (x ∷ []) xs x (Contains-push [] x)

pub is_other : {A : Type 0} (x : A) (xs : List A) (y : A) → Contains xs y → Contains (x ∷ xs) y
is_other x xs y h = Contains-append_right (x ∷ []) xs y h

-- what holds of all that tokens give, by what holds at each stage
pub emitted_all : {C A : Type 0} (next : C → Piece → C) (gives : C → Piece → List A) (Fine : Piece → Type 0) (I : Stage → C → Type 0) (P : A → Type 0)
    → ((s t : Stage) (c : C) (p : Piece) → Fine p → step s p.kind ≡ Some t → I s c → I t (next c p) × ((x : A) → Contains (gives c p) x → P x))
    → (ps : List Piece) (s u : Stage) (c : C) → ((p : Piece) → Contains ps p → Fine p) → stage_after (Some s) (kinds_in ps) ≡ Some u → I s c → (x : A) → Contains (emitted next gives c ps) x → P x
emitted_all next gives Fine I P f [] s u c fine h i x k = absurd (nothing_in x k)
emitted_all next gives Fine I P f (p ∷ ps) s u c fine h i x k =
    let w = splits s p ps u h in
    let v = f s w.next c p (fine p (is_first p ps)) w.first i in
    elim (Contains-append_cases (gives c p) (emitted next gives (next c p) ps) x k) [
      | inl a ↦ v.1 x a
      | inr a ↦ emitted_all next gives Fine I P f ps w.next u (next c p) (λ q d. fine q (is_other p ps q d)) w.others v.0 x a
    ]

-- a token that stands only where the stage is early, and ends that
pub record IsOnce (mark : Kind → Bool) (early : Stage → Bool) : Type 0 where
  pub ends : (k : Kind) → mark k ≡ true → early (to k) ≡ false
  pub outside_lists : (k : Kind) → mark k ≡ true → in_list k ≡ false
  pub begins : (k : Kind) → mark k ≡ true → early (from k) ≡ true
  pub stays_late : (k : Kind) → early (from k) ≡ false → early (to k) ≡ false

from_root : (k : Kind) → root (from k) ≡ from k
from_root Top = refl
from_root Index = refl
from_root Link = refl
from_root Role = refl
from_root Filler = refl
from_root OpensText = refl
from_root Text = refl
from_root EpEnd = refl
from_root HandleRel = refl
from_root Low = refl
from_root VariableRel = refl
from_root Right = refl
from_root _ = refl

to_root : (k : Kind) → root (to k) ≡ to k
to_root Top = refl
to_root PredRun = refl
to_root PredText = refl
to_root Link = refl
to_root Role = refl
to_root Filler = refl
to_root OpensText = refl
to_root Text = refl
to_root High = refl
to_root HandleRel = refl
to_root Left = refl
to_root VariableRel = refl
to_root _ = refl

pub root_from : (s : Stage) (k : Kind) → s ≡ from k → root s ≡ from k
root_from s k e = ap root e ∙ from_root k

pub root_to : (t : Stage) (k : Kind) → t ≡ to k → root t ≡ to k
root_to t k e = ap root e ∙ to_root k

module _ (mark : Kind → Bool) (early : Stage → Bool) (once : IsOnce mark early) where
  late_on : (s t : Stage) (k : Kind) → early (root s) ≡ false → Moves s t k → early (root t) ≡ false
  late_on s t k e (stays r l) = ap early r ∙ e
  late_on s t k e (goes a b l) = ap early (root_to t k b) ∙ once.stays_late k (ap early (sym (root_from s k a)) ∙ e)

  mark_early : (s t : Stage) (k : Kind) → mark k ≡ true → Moves s t k → (early (root s) ≡ true) × (early (root t) ≡ false)
  mark_early s t k m (stays r l) = absurd (false≢true (sym (once.outside_lists k m) ∙ l))
  mark_early s t k m (goes a b l) = (ap early (root_from s k a) ∙ once.begins k m, ap early (root_to t k b) ∙ once.ends k m)

  none_late : (ps : List Piece) (s u : Stage) → early (root s) ≡ false → stage_after (Some s) (kinds_in ps) ≡ Some u → (q : Piece) → Contains ps q → mark q.kind ≡ true → ⊥
  none_late [] s u e h q c m = nothing_in q c
  none_late (p ∷ ps) s u e h q c m =
      let w = splits s p ps u h in
      let v = moves s w.next p.kind w.first in
      elim (first_or_other p ps q c) [
        | inl a ↦ false≢true (sym e ∙ (mark_early s w.next p.kind (ap (λ (z : Piece). mark z.kind) a ∙ m) v).0)
        | inr a ↦ none_late ps w.next u (late_on s w.next p.kind e v) w.others q a m
      ]

  -- so it stands once
  pub same_piece_of : (ps : List Piece) (s u : Stage) → stage_after (Some s) (kinds_in ps) ≡ Some u → (q r : Piece) → Contains ps q → Contains ps r → mark q.kind ≡ true → mark r.kind ≡ true → q ≡ r
  same_piece_of [] s u h q r c d m n = absurd (nothing_in q c)
  same_piece_of (p ∷ ps) s u h q r c d m n =
      let w = splits s p ps u h in
      let v = moves s w.next p.kind w.first in
      elim (first_or_other p ps q c) [
        | inl a ↦ (elim (first_or_other p ps r d) [
          | inl b ↦ sym a ∙ b
          | inr b ↦ absurd (none_late ps w.next u (mark_early s w.next p.kind (ap (λ (z : Piece). mark z.kind) a ∙ m) v).1 w.others r b n)
        ])
        | inr a ↦ (elim (first_or_other p ps r d) [
          | inl b ↦ absurd (none_late ps w.next u (mark_early s w.next p.kind (ap (λ (z : Piece). mark z.kind) b ∙ n) v).1 w.others q a m)
          | inr b ↦ same_piece_of ps w.next u w.others q r a b m n
        ])
      ]

abbrev is_begun : Stage → Bool
is_begun begun = true
is_begun _ = false

abbrev before_index : Stage → Bool
before_index begun = true
before_index topped = true
before_index _ = false

top_ends : (k : Kind) → is_top k ≡ true → is_begun (to k) ≡ false
top_ends Top e = refl
top_ends _ e = absurd (cc)

top_outside : (k : Kind) → is_top k ≡ true → in_list k ≡ false
top_outside Top e = refl
top_outside _ e = absurd (cc)

top_begins : (k : Kind) → is_top k ≡ true → is_begun (from k) ≡ true
top_begins Top e = refl
top_begins _ e = absurd (cc)

top_late : (k : Kind) → is_begun (from k) ≡ false → is_begun (to k) ≡ false
top_late Top e = refl
top_late PredRun e = refl
top_late PredText e = refl
top_late Link e = refl
top_late Role e = refl
top_late Filler e = refl
top_late OpensText e = refl
top_late Text e = refl
top_late High e = refl
top_late HandleRel e = refl
top_late Left e = refl
top_late VariableRel e = refl
top_late _ e = refl

index_ends : (k : Kind) → is_index k ≡ true → before_index (to k) ≡ false
index_ends Index e = refl
index_ends _ e = absurd (cc)

index_outside : (k : Kind) → is_index k ≡ true → in_list k ≡ false
index_outside Index e = refl
index_outside _ e = absurd (cc)

index_begins : (k : Kind) → is_index k ≡ true → before_index (from k) ≡ true
index_begins Index e = refl
index_begins _ e = absurd (cc)

index_late : (k : Kind) → before_index (from k) ≡ false → before_index (to k) ≡ false
index_late Top e = absurd (cc)
index_late PredRun e = refl
index_late PredText e = refl
index_late Link e = refl
index_late Role e = refl
index_late Filler e = refl
index_late OpensText e = refl
index_late Text e = refl
index_late High e = refl
index_late HandleRel e = refl
index_late Left e = refl
index_late VariableRel e = refl
index_late _ e = refl

-- the top and the index stand once
pub one_top : (ps : List Piece) (u : Stage) → stage_after (Some begun) (kinds_in ps) ≡ Some u → (q r : Piece) → Contains ps q → Contains ps r → is_top q.kind ≡ true → is_top r.kind ≡ true → q ≡ r
one_top ps u h = same_piece_of is_top is_begun (record { ends = top_ends; outside_lists = top_outside; begins = top_begins; stays_late = top_late }) ps begun u h

pub one_index : (ps : List Piece) (u : Stage) → stage_after (Some begun) (kinds_in ps) ≡ Some u → (q r : Piece) → Contains ps q → Contains ps r → is_index q.kind ≡ true → is_index r.kind ≡ true → q ≡ r
one_index ps u h = same_piece_of is_index before_index (record { ends = index_ends; outside_lists = index_outside; begins = index_begins; stays_late = index_late }) ps begun u h
