-- Where the variables of a text stand, and what its names are.
use Rattle.std.specs.Prelude.{Option}
use Rattle.std.proofs.Common.{◌≡◌, ◌∙◌, ◌⊎◌, inl, inr, Bool, true, false, ℕ, List, [], ◌∷◌, map, None, Some, IfSome, refl, ap, sym, subst}
use Rattle.std.specs.List.{Contains}
use Rattle.std.proofs.lemmas.Bool.{false≢true}
use Rattle.std.proofs.lemmas.Option.{same_Some}
use Rattle.std.proofs.lemmas.List.Elements.{Contains-append_right, Contains-append_left, Contains-append_cases}
use Rattle.mrs_model.specs.Texts.{IsName}
use Rattle.mrs_spelling.specs.declared.kinds.Kind.{Kind}
use Rattle.mrs_spelling.specs.declared.kinds.Kind.TheVariants.{Top, PropName, PropValue, PredRun, PredText, Link, Role, Filler, OpensText, Text, EpEnd, High, HandleRel, Left, VariableRel}
use Rattle.mrs_spelling.specs.Conditions.{Context, Given, gives, after_kind, given_after}
use Rattle.mrs_reading.specs.Meaning.{Piece, low, as_word, emitted, Known, known_by, known_after, ended_by, ended_at, nothing_known, predications, filled_by, filling_of, Filling}
use Rattle.mrs_reading.specs.Inner.Stages.{Stage, begun, outside, in_ep, at_role, named, step, stage_after, kinds_in, valued_after}
use Rattle.mrs_reading.specs.Inner.Predications.{root, in_body}
use Rattle.mrs_reading.proofs.Predicated.{nothing_in}
use Rattle.mrs_reading.proofs.Moves.{in_list, from, to, Moves, stays, goes, moves, splits, first_or_other, is_first, is_other, emitted_all, root_from, root_to}

-- what fills the roles of the elementary predications

abbrev ends_body : Kind → Bool
ends_body EpEnd = true
ends_body _ = false

-- the stage stays inside, where the token doesn't end it
inside_on : (k : Kind) → in_body (from k) ≡ true → ends_body k ≡ false → in_body (to k) ≡ true
inside_on Link e f = refl
inside_on Role e f = refl
inside_on Filler e f = refl
inside_on OpensText e f = refl
inside_on Text e f = refl
inside_on EpEnd e f = absurd (cc)
inside_on _ e f = absurd (cc)

fills_stay : (k : Kind) (c : Known) (p : Piece) (f : Filling) → (in_body (from k) ≡ true) ⊎ (in_list k ≡ true) → ends_body k ≡ false → Contains c.fills f → Contains (known_by k c p).fills f
fills_stay PredRun c p f (inl e) n h = absurd (cc)
fills_stay PredRun c p f (inr e) n h = absurd (cc)
fills_stay PredText c p f (inl e) n h = absurd (cc)
fills_stay PredText c p f (inr e) n h = absurd (cc)
fills_stay Filler c p f e n h = Contains-append_left c.fills (filling_of c.role p) f h
fills_stay Text c p f e n h = Contains-append_left c.fills (filling_of c.role p) f h
fills_stay EpEnd c p f e n h = absurd (cc)
fills_stay _ c p f e n h = h

record Goes (s t : Stage) (k : Kind) : Type 0 where
  pub still : in_body (root t) ≡ true
  pub how : (in_body (from k) ≡ true) ⊎ (in_list k ≡ true)

body_on : (s t : Stage) (k : Kind) → in_body (root s) ≡ true → ends_body k ≡ false → Moves s t k → Goes s t k
body_on s t k e f (stays r l) = record { still = ap in_body r ∙ e; how = inr l }
body_on s t k e f (goes a b l) = let g : in_body (from k) ≡ true = ap in_body (sym (root_from s k a)) ∙ e in record { still = ap in_body (root_to t k b) ∙ inside_on k g f; how = inl g }

-- a predication that ends later has this filling
pub record Later (c : Known) (ps : List Piece) (f : Filling) : Type 0 where
  pub known : Known
  pub there : Contains (emitted known_after ended_at c ps) known
  pub fills : Contains known.fills f

ended_here : (k : Kind) (c : Known) → ends_body k ≡ true → ended_by k c ≡ c ∷ []
ended_here EpEnd c e = refl
ended_here _ c e = absurd (cc)

later_on : (c : Known) (p : Piece) (ps : List Piece) (f : Filling) → Later (known_after c p) ps f → Later c (p ∷ ps) f
later_on c p ps f h = record { known = h.known; there = Contains-append_right (ended_at c p) (emitted known_after ended_at (known_after c p) ps) h.known h.there; fills = h.fills }

filling_later : (ps : List Piece) (s : Stage) (c : Known) (f : Filling) → stage_after (Some s) (kinds_in ps) ≡ Some outside → in_body (root s) ≡ true → Contains c.fills f → Later c ps f
filling_later [] s c f h e k = absurd (let q : s ≡ outside = same_Some s outside h in false≢true (ap (λ (z : Stage). in_body (root z)) (sym q) ∙ e))
filling_later (p ∷ ps) s c f h e k =
    let w = splits s p ps outside h in
    by (ends_body p.kind) refl w.next (moves s w.next p.kind w.first) (λ u v. filling_later ps w.next (known_after c p) f w.others u v)
  where
    by : (b : Bool) → ends_body p.kind ≡ b → (t : Stage) → Moves s t p.kind → (in_body (root t) ≡ true → Contains (known_after c p).fills f → Later (known_after c p) ps f) → Later c (p ∷ ps) f
    by true g t m o = record {
      known = c;
      there = Contains-append_left (ended_at c p) (emitted known_after ended_at (known_after c p) ps) c (subst (λ (l : List Known). Contains l c) (sym (ended_here p.kind c g)) (is_first c []));
      fills = k;
    }
    by false g t m o =
        let u = body_on s t p.kind e g m in
        later_on c p ps f (o u.still (fills_stay p.kind c p f u.how g k))

-- a token that fills a role
pub record Placed (c : Known) (ps : List Piece) (q : Piece) : Type 0 where
  pub filling : Filling
  pub by : filling.by ≡ q
  pub later : Later c ps filling

abbrev pub Waits : Stage → Known → Type 0
Waits s c = root s ≡ at_role → (r : List ℕ) × (c.role ≡ Some r)

waits_by : (k : Kind) (c : Known) (p : Piece) → to k ≡ at_role → (r : List ℕ) × ((known_by k c p).role ≡ Some r)
waits_by Role c p e = (low p, refl)
waits_by Top c p e = absurd (cc)
waits_by PredRun c p e = absurd (cc)
waits_by PredText c p e = absurd (cc)
waits_by Link c p e = absurd (cc)
waits_by Filler c p e = absurd (cc)
waits_by OpensText c p e = absurd (cc)
waits_by Text c p e = absurd (cc)
waits_by High c p e = absurd (cc)
waits_by HandleRel c p e = absurd (cc)
waits_by Left c p e = absurd (cc)
waits_by VariableRel c p e = absurd (cc)
waits_by _ c p e = absurd (cc)

list_keeps : (k : Kind) (c : Known) (p : Piece) → in_list k ≡ true → known_by k c p ≡ c
list_keeps PropName c p e = refl
list_keeps PropValue c p e = refl
list_keeps _ c p e = absurd (cc)

waits_on : (s t : Stage) (c : Known) (p : Piece) (k : Kind) → Waits s c → Moves s t k → Waits t (known_by k c p)
waits_on s t c p k w (stays r l) e = subst (λ (z : Known). (r : List ℕ) × (z.role ≡ Some r)) (sym (list_keeps k c p l)) (w (sym r ∙ e))
waits_on s t c p k w (goes a b l) e = waits_by k c p (sym (root_to t k b) ∙ e)

filler_goes : (k : Kind) → k ≡ Filler → (from k ≡ at_role) × (to k ≡ in_ep) × (in_list k ≡ false)
filler_goes k e = (ap from e, ap to e, ap in_list e)

filler_move : (s t : Stage) (k : Kind) → k ≡ Filler → Moves s t k → (root s ≡ at_role) × (root t ≡ in_ep)
filler_move s t k e (stays r l) = absurd (let w = filler_goes k e in false≢true (sym w.2 ∙ l))
filler_move s t k e (goes a b l) = let w = filler_goes k e in (root_from s k a ∙ w.0, root_to t k b ∙ w.1)

filled_with : (c : Known) (p : Piece) (r : List ℕ) → c.role ≡ Some r → Contains (filled_by c p).fills (record { role = r; by = p })
filled_with c p r e = Contains-append_right c.fills (filling_of c.role p) (record { role = r; by = p }) (subst (λ (z : Option (List ℕ)). Contains (filling_of z p) (record { role = r; by = p })) (sym e) (is_first (record { role = r; by = p }) []))

pub filler_placed : (ps : List Piece) (s : Stage) (c : Known) → stage_after (Some s) (kinds_in ps) ≡ Some outside → Waits s c → (q : Piece) → Contains ps q → q.kind ≡ Filler → Placed c ps q
filler_placed [] s c h w q k e = absurd (nothing_in q k)
filler_placed (p ∷ ps) s c h w q k e =
    let v = splits s p ps outside h in
    let m = moves s v.next p.kind v.first in
    elim (first_or_other p ps q k) [
      | inl a ↦ here v.next v.others m a
      | inr a ↦ (let u = filler_placed ps v.next (known_after c p) v.others (waits_on s v.next c p p.kind w m) q a e in record { filling = u.filling; by = u.by; later = later_on c p ps u.filling u.later })
    ]
  where
    here : (t : Stage) → stage_after (Some t) (kinds_in ps) ≡ Some outside → Moves s t p.kind → p ≡ q → Placed c (p ∷ ps) q
    here t o m a =
        let f : p.kind ≡ Filler = ap (λ (z : Piece). z.kind) a ∙ e in
        let g = filler_move s t p.kind f m in
        let r = w g.0 in
        let n : known_after c p ≡ filled_by c p = ap (λ (z : Kind). known_by z c p) f in
        record {
          filling = record { role = r.0; by = p };
          by = a;
          later = later_on c p ps (record { role = r.0; by = p }) (filling_later ps t (known_after c p) (record { role = r.0; by = p }) o (ap in_body g.1)
              (subst (λ (z : Known). Contains z.fills (record { role = r.0; by = p })) (sym n) (filled_with c p r.0 r.1)));
        }

-- the roles have names
pub record HasNames (c : Known) : Type 0 where
  pub role : IfSome c.role IsName
  pub fills : (f : Filling) → Contains c.fills f → IsName f.role

none_named : HasNames nothing_known
none_named = record { role = tt; fills = λ f k. absurd (nothing_in f k) }

filled_named : (o : Option (List ℕ)) (p : Piece) (f : Filling) → IfSome o IsName → Contains (filling_of o p) f → IsName f.role
filled_named None p f h k = absurd (nothing_in f k)
filled_named (Some r) p f h k = elim (first_or_other (record { role = r; by = p }) [] f k) [ inl e ↦ subst (λ (z : Filling). IsName z.role) e h | inr e ↦ absurd (nothing_in f e) ]

fill_names : (c : Known) (p : Piece) → HasNames c → HasNames (filled_by c p)
fill_names c p h = record { role = tt; fills = λ f k. elim (Contains-append_cases c.fills (filling_of c.role p) f k) [ inl a ↦ h.fills f a | inr a ↦ filled_named c.role p f h.role a ] }

names_on : (k : Kind) (c : Known) (p : Piece) → (k ≡ Role → IsName (low p)) → HasNames c → HasNames (known_by k c p)
names_on PredRun c p n h = record { role = tt; fills = λ f k. absurd (nothing_in f k) }
names_on PredText c p n h = record { role = tt; fills = λ f k. absurd (nothing_in f k) }
names_on Link c p n h = record { role = h.role; fills = h.fills }
names_on Role c p n h = record { role = n refl; fills = h.fills }
names_on Filler c p n h = fill_names c p h
names_on Text c p n h = fill_names c p h
names_on EpEnd c p n h = none_named
names_on _ c p n h = h

ended_named : (k : Kind) (c : Known) → HasNames c → (x : Known) → Contains (ended_by k c) x → HasNames x
ended_named EpEnd c h x k = elim (first_or_other c [] x k) [ inl e ↦ subst HasNames e h | inr e ↦ absurd (nothing_in x e) ]
ended_named _ c h x k = absurd (nothing_in x k)

pub roles_named : (ps : List Piece) (u : Stage) → ((p : Piece) → Contains ps p → p.kind ≡ Role → IsName (low p)) → stage_after (Some begun) (kinds_in ps) ≡ Some u → (c : Known) → Contains (predications ps) c → HasNames c
roles_named ps u fine h c k =
    emitted_all known_after ended_at (λ p. p.kind ≡ Role → IsName (low p)) (λ s d. HasNames d) HasNames (λ s t d p f e i. (names_on p.kind d p f i, λ x j. ended_named p.kind d i x j)) ps begun u nothing_known fine h none_named c k

-- the names and values of properties
abbrev pub is_named : Stage → Bool
is_named (named s) = true
is_named _ = false

named_to : (k : Kind) → is_named (to k) ≡ false
named_to Top = refl
named_to PredRun = refl
named_to PredText = refl
named_to Link = refl
named_to Role = refl
named_to Filler = refl
named_to OpensText = refl
named_to Text = refl
named_to High = refl
named_to HandleRel = refl
named_to Left = refl
named_to VariableRel = refl
named_to _ = refl

value_named : (s t : Stage) → valued_after s ≡ Some t → is_named s ≡ true
value_named (named s) t e = refl
value_named _ t e = absurd (cc)

pub record IsGivenName (g : Given) : Type 0 where
  pub name : IsName g.name
  pub value : IsName g.value

not_named : (s t : Stage) (k : Kind) → in_list k ≡ false → Moves s t k → is_named t ≡ true → ⊥
not_named s t k n (stays r l) e = false≢true (sym n ∙ l)
not_named s t k n (goes a b l) e = false≢true (sym (named_to k) ∙ ap is_named (sym b) ∙ e)

name_on : (s t : Stage) (c : Context) (k : Kind) (text : List ℕ) → (in_list k ≡ true → IsName text) → step s k ≡ Some t → (is_named s ≡ true → IsName c.name) → is_named t ≡ true → IsName (after_kind c k text).name
name_on s t c PropName text f h i e = f refl
name_on s t c PropValue text f h i e = i (value_named s t h)
name_on s t c k text f h i e = absurd (not_named s t k refl (moves s t k h) e)

given_by : (s t : Stage) (c : Context) (k : Kind) (text : List ℕ) → (in_list k ≡ true → IsName text) → step s k ≡ Some t → (is_named s ≡ true → IsName c.name) → (g : Given) → Contains (gives c k text) g → IsGivenName g
given_by s t c PropValue text f h i g k = elim (first_or_other (record { key = c.key; name = c.name; value = text }) [] g k) [ inl e ↦ subst IsGivenName e (record { name = i (value_named s t h); value = f refl }) | inr e ↦ absurd (nothing_in g e) ]
given_by s t c _ text f h i g k = absurd (nothing_in g k)

pub given_named : (ps : List Piece) (s u : Stage) (c : Context) → ((p : Piece) → Contains ps p → in_list p.kind ≡ true → IsName (low p)) → stage_after (Some s) (kinds_in ps) ≡ Some u → (is_named s ≡ true → IsName c.name)
    → (g : Given) → Contains (given_after c (map as_word ps)) g → IsGivenName g
given_named [] s u c fine h i g k = absurd (nothing_in g k)
given_named (p ∷ ps) s u c fine h i g k =
    let w = splits s p ps u h in
    let f = fine p (is_first p ps) in
    elim (Contains-append_cases (gives c p.kind (low p)) (given_after (after_kind c p.kind (low p)) (map as_word ps)) g k) [
      | inl a ↦ given_by s w.next c p.kind (low p) f w.first i g a
      | inr a ↦ given_named ps w.next u (after_kind c p.kind (low p)) (λ q d. fine q (is_other p ps q d)) w.others (name_on s w.next c p.kind (low p) f w.first i) g a
    ]
