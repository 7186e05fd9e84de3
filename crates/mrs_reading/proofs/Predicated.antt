-- What is read of elementary predications, token by token.
use Rattle.std.proofs.Common.{◌≡◌, ◌≢◌, ℕ, zero, suc, ◌∙◌, ◌<◌, ◌⊎◌, inl, inr, Bool, true, false, List, [], ◌∷◌, ◌++◌, Option, Some, None, MatchOption, option_to_list, map, refl, ap, sym, subst, append-nil, length, get_or, codes, arith}
use Rattle.std.specs.Str.{str_to_ascii_lowercase}
use Rattle.std.proofs.lemmas.Bool.{false≢true}
use Rattle.std.specs.List.{AllZip, Contains}
use Rattle.std.proofs.lemmas.Option.{same_Some}
use Rattle.std.proofs.lemmas.List.{map-append, get_or-map, length-map}
use Rattle.std.proofs.lemmas.List.Elements.{Contains-append_left, Contains-append_right, Contains-push, Contains-push_cases}
use Rattle.mrs_model.specs.declared.Extent.{Extent}
use Rattle.mrs_model.specs.Meanings.{Filler as Filled, of_var, of_text, Argument, Predication}
use Rattle.mrs_spelling.specs.declared.kinds.Kind.{Kind}
use Rattle.mrs_spelling.specs.declared.kinds.Kind.TheVariants.{Top, Index, PropName, PropValue, PredRun, PredText, Link, Role, Filler, OpensText, Text, EpEnd, High, HandleRel, Low, Left, VariableRel, Right}
use Rattle.mrs_reading.specs.Meaning.{Piece, low, Is, Normal, Spans, plain, bare_text, IsPredOf, IsSpanOf, Filling, filling_of, Known, nothing_known, begun_with, filled_by, known_by, known_after, ended_by, ended_at, predications, after_all, IsFilledBy, by_variable, by_text, IsArgumentOf, HasArgument, AreArgumentsOf, IsPredicationOf}
use Rattle.mrs_reading.specs.Inner.Stages.{Stage, begun, topped, outside, in_ep, at_role, at_text, at_high, at_handle_rel, at_left, at_variable_rel, named, step, same_stage, only_after, named_after, valued_after}
use Rattle.mrs_reading.specs.Inner.Tables.{IsAdded}
use Rattle.mrs_reading.specs.Inner.Predications.{root, in_body, IsBody, IsOpen, ArePredications, IsNew, IsSpanned, IsArgumentAdded, IsFilled, label, argument, FillsLast}
use Rattle.mrs_reading.proofs.Tabled.{get_front, inserted}
use Rattle.mrs_reading.proofs.Rising.{rise_added}
use Rattle.mrs_reading.proofs.Staging.{only_told, same_told}
use Rattle.mrs_reading.proofs.Linked.{after_more, emitted_more, zip_more, zip_weaker}

-- members of lists
pub contains_map : {A B : Type 0} (f : A → B) (xs : List A) (x : A) → Contains xs x → Contains (map f xs) (f x)
contains_map f xs x h =
    let m = length-map xs f in
    let l = h.1 in
    (h.0, omega (arith, m, l), get_or-map f xs h.0 x (f x) h.1 ∙ ap f h.2)

found_in : {A B : Type 0} (f : A → B) (xs : List A) (y : B) (k : ℕ) → k < length xs → get_or (map f xs) k y ≡ y → (x : A) × Contains xs x × (f x ≡ y)
found_in f [] y k l e = absurd (omega (arith, l))
found_in f (x ∷ xs) y zero l e = (x, Contains-append_left (x ∷ []) xs x (Contains-push [] x), e)
found_in f (x ∷ xs) y (suc k) l e = let w = found_in f xs y k (omega (arith, l)) e in (w.0, Contains-append_right (x ∷ []) xs w.0 w.1, w.2)

pub map_contains : {A B : Type 0} (f : A → B) (xs : List A) (y : B) → Contains (map f xs) y → (x : A) × Contains xs x × (f x ≡ y)
map_contains f xs y h = let m = length-map xs f in let l = h.1 in found_in f xs y h.0 (omega (arith, m, l)) h.2

pub nothing_in : {A : Type 0} (x : A) → Contains [] x → ⊥
nothing_in x h = absurd (let l = h.1 in omega (arith, l))

-- more variables
filled_grown : (keys more : List (List ℕ)) (p : Piece) (f : Filled) → IsFilledBy keys p f → IsFilledBy (keys ++ more) p f
filled_grown keys more p _ (by_variable n e i) = by_variable n e (get_front keys more n (low p) i)
filled_grown keys more p _ (by_text t e i) = by_text t e i

args_grown : (keys more : List (List ℕ)) (fills : List Filling) (args : List Argument) → AreArgumentsOf keys fills args → AreArgumentsOf (keys ++ more) fills args
args_grown keys more fills args h = record {
  order = h.order;
  each = λ a c. let w = h.each a c in record { filling = w.filling; there = w.there; role = w.role; other = w.other; filler = filled_grown keys more w.filling.by a.filler w.filler };
  all = λ f c n. let w = h.all f c n in record { argument = w.argument; there = w.there; role = w.role; filler = filled_grown keys more f.by w.argument.filler w.filler };
}

predication_grown : (keys more : List (List ℕ)) (c : Known) (e : Predication) → IsPredicationOf keys c e → IsPredicationOf (keys ++ more) c e
predication_grown keys more c e h = record {
  piece = h.piece;
  first = h.first;
  pred = h.pred;
  span = h.span;
  label = record { filling = h.label.filling; there = h.label.there; role = h.label.role; same = λ f d r. get_front keys more e.label (low f.by) (h.label.same f d r) };
  args = args_grown keys more c.fills e.args h.args;
}

body_grown : (keys more : List (List ℕ)) (c : Known) (current : Option Predication) (roles : List (List ℕ)) → IsBody keys c current roles → IsBody (keys ++ more) c current roles
body_grown keys more c current roles h = record {
  ep = h.ep;
  is = h.is;
  piece = h.piece;
  first = h.first;
  pred = h.pred;
  span = h.span;
  label = λ f d e. get_front keys more h.ep.label (low f.by) (h.label f d e);
  args = args_grown keys more c.fills h.ep.args h.args;
  names = h.names;
  fresh = h.fresh;
}

pub predications_grown : (keys more : List (List ℕ)) (ps : List Piece) (s : Stage) (list : List Predication) (current : Option Predication) (roles : List (List ℕ)) → ArePredications keys ps s list current roles → ArePredications (keys ++ more) ps s list current roles
predications_grown keys more ps s list current roles h = record {
  done = zip_weaker (IsPredicationOf keys) (IsPredicationOf (keys ++ more)) (predications ps) list (λ c e. predication_grown keys more c e) h.done;
  last = record {
    body = λ e. body_grown keys more (after_all known_after nothing_known ps) current roles (h.last.body e);
    free = h.last.free;
    waiting = h.last.waiting;
    texted = h.last.texted;
  };
}

-- the arguments after one role more
args_kept : (keys : List (List ℕ)) (fills : List Filling) (f : Filling) (args : List Argument) → f.role ≡ codes "lbl" → AreArgumentsOf keys fills args → AreArgumentsOf keys (fills ++ f ∷ []) args
args_kept keys fills f args e h = record {
  order = h.order;
  each = λ a c. let w = h.each a c in record { filling = w.filling; there = Contains-append_left fills (f ∷ []) w.filling w.there; role = w.role; other = w.other; filler = w.filler };
  all = λ g c n. elim (Contains-push_cases fills f g c) [ inl d ↦ h.all g d n | inr d ↦ absurd (n (ap (λ (z : Filling). z.role) (sym d) ∙ e)) ];
}

args_more : (keys : List (List ℕ)) (fills : List Filling) (f : Filling) (args new : List Argument) (x : Argument) → f.role ≡ x.role → x.role ≢ codes "lbl" → IsFilledBy keys f.by x.filler → IsAdded (λ (a : Argument). a.role) args x new
    → (Contains (map (λ (g : Filling). g.role) fills) f.role → ⊥) → AreArgumentsOf keys fills args → AreArgumentsOf keys (fills ++ f ∷ []) new
args_more keys fills f args new x e n i a fresh h = record {
  order = rise_added (λ (b : Argument). b.role) args x new a (λ y c d. fresh (let w = h.each y c in subst (Contains (map (λ (g : Filling). g.role) fills)) (w.role ∙ d ∙ sym e) (contains_map (λ (g : Filling). g.role) fills w.filling w.there))) h.order;
  each = λ b c. elim ((inserted args a.place x b).0 (subst (λ (l : List Argument). Contains l b) a.is c)) [
    | inl d ↦ (let w = h.each b d in record { filling = w.filling; there = Contains-append_left fills (f ∷ []) w.filling w.there; role = w.role; other = w.other; filler = w.filler })
    | inr d ↦ subst (IsArgumentOf keys (fills ++ f ∷ [])) d (record { filling = f; there = Contains-push fills f; role = e; other = n; filler = i })
  ];
  all = λ g c m. elim (Contains-push_cases fills f g c) [
    | inl d ↦ (let w = h.all g d m in record { argument = w.argument; there = subst (λ (l : List Argument). Contains l w.argument) (sym a.is) ((inserted args a.place x w.argument).1 (inl w.there)); role = w.role; filler = w.filler })
    | inr d ↦ subst (HasArgument keys new) d (record { argument = x; there = subst (λ (l : List Argument). Contains l x) (sym a.is) ((inserted args a.place x x).1 (inr refl)); role = sym e; filler = i })
  ];
}

-- stages
stage_from : (s t from to : Stage) → only_after (same_stage s from) to ≡ Some t → (s ≡ from) × (to ≡ t)
stage_from s t from to h = let w = only_told (same_stage s from) to t h in (same_told s from w.0, w.1)

step_kind : (s t : Stage) (k m : Kind) → k ≡ m → step s k ≡ Some t → step s m ≡ Some t
step_kind s t k m e h = ap (step s) (sym e) ∙ h

known_kind : (c : Known) (p : Piece) (k : Kind) → p.kind ≡ k → known_after c p ≡ known_by k c p
known_kind c p k e = ap (λ (z : Kind). known_by z c p) e

open_as : (keys : List (List ℕ)) (s t : Stage) (c d : Known) (current : Option Predication) (roles : List (List ℕ)) → s ≡ t → d ≡ c → IsOpen keys s c current roles → IsOpen keys t d current roles
open_as keys s t c d current roles e f h = subst (λ (z : Known). IsOpen keys t z current roles) (sym f) (subst (λ (z : Stage). IsOpen keys z c current roles) e h)

-- a predicate
open_begun : (keys : List (List ℕ)) (p : Piece) (current : Option Predication) (roles : List (List ℕ)) (pred : List ℕ) → IsNew pred current → ((q : List ℕ) → Normal pred q → IsPredOf p q) → roles ≡ [] → IsOpen keys in_ep (begun_with p) current roles
open_begun keys p current roles pred n f e = record {
  body = λ _. record {
    ep = n.ep;
    is = n.is;
    piece = p;
    first = refl;
    pred = f n.ep.pred n.pred;
    span = n.span;
    label = λ g c. absurd (nothing_in g c);
    args = subst (AreArgumentsOf keys []) (sym n.args) (record { order = λ k l. absurd (omega (arith, l)); each = λ a c. absurd (nothing_in a c); all = λ g c. absurd (nothing_in g c) });
    names = e;
    fresh = λ r g. absurd (cc);
  };
  free = λ _. refl;
  waiting = λ g. absurd (cc);
  texted = λ g. absurd (cc);
}

pub read_pred : (keys : List (List ℕ)) (s t : Stage) (c : Known) (p : Piece) (current : Option Predication) (roles : List (List ℕ)) (pred : List ℕ) → (p.kind ≡ PredRun) ⊎ (p.kind ≡ PredText) → step s p.kind ≡ Some t → IsNew pred current
    → ((q : List ℕ) → Normal pred q → IsPredOf p q) → roles ≡ [] → IsOpen keys t (known_after c p) current roles
read_pred keys s t c p current roles pred (inl k) h n f e =
    let w = stage_from s t outside in_ep (step_kind s t p.kind PredRun k h) in
    open_as keys in_ep t (begun_with p) (known_after c p) current roles w.1 (known_kind c p PredRun k) (open_begun keys p current roles pred n f e)
read_pred keys s t c p current roles pred (inr k) h n f e =
    let w = stage_from s t outside in_ep (step_kind s t p.kind PredText k h) in
    open_as keys in_ep t (begun_with p) (known_after c p) current roles w.1 (known_kind c p PredText k) (open_begun keys p current roles pred n f e)

-- the mark behind it
span_is : (p : Piece) (o : Option Extent) → MatchOption o ((e : Extent) → Spans p.text e → ⊥) (Spans p.text) → IsSpanOf (Some p) o
span_is p o h = h

pub read_mark : (keys : List (List ℕ)) (s t : Stage) (c : Known) (p : Piece) (current after : Option Predication) (roles : List (List ℕ)) → p.kind ≡ Link → step s p.kind ≡ Some t → ((ep : Predication) → current ≡ Some ep → IsSpanned p.text ep after)
    → IsOpen keys s c current roles → IsOpen keys t (known_after c p) after roles
read_mark keys s t c p current after roles k h m o =
    let w = stage_from s t in_ep in_ep (step_kind s t p.kind Link k h) in
    let r : root s ≡ in_ep = ap root w.0 in
    let b = o.body (ap in_body r) in
    let n = m b.ep b.is in
    open_as keys in_ep t (known_by Link c p) (known_after c p) after roles w.1 (known_kind c p Link k) (record {
      body = λ _. record {
        ep = record b.ep { span = n.span };
        is = n.is;
        piece = b.piece;
        first = b.first;
        pred = b.pred;
        span = span_is p n.span n.told;
        label = b.label;
        args = b.args;
        names = b.names;
        fresh = b.fresh;
      };
      free = λ _. o.free r;
      waiting = λ g. absurd (cc);
      texted = λ g. absurd (cc);
    })

-- a role
pub read_role : (keys : List (List ℕ)) (s t : Stage) (c : Known) (p : Piece) (current : Option Predication) (roles new : List (List ℕ)) → p.kind ≡ Role → step s p.kind ≡ Some t → new ≡ roles ++ low p ∷ [] → (Contains roles (low p) → ⊥)
    → IsOpen keys s c current roles → IsOpen keys t (known_after c p) current new
read_role keys s t c p current roles new k h e n o =
    let w = stage_from s t in_ep at_role (step_kind s t p.kind Role k h) in
    let r : root s ≡ in_ep = ap root w.0 in
    let b = o.body (ap in_body r) in
    let q : roles ≡ map (λ (f : Filling). f.role) c.fills = b.names ∙ ap (λ (z : Option (List ℕ)). map (λ (f : Filling). f.role) c.fills ++ option_to_list z) (o.free r) ∙ append-nil (map (λ (f : Filling). f.role) c.fills) in
    open_as keys at_role t (known_by Role c p) (known_after c p) current new w.1 (known_kind c p Role k) (record {
      body = λ _. record {
        ep = b.ep;
        is = b.is;
        piece = b.piece;
        first = b.first;
        pred = b.pred;
        span = b.span;
        label = b.label;
        args = b.args;
        names = e ∙ ap (λ z. z ++ low p ∷ []) q;
        fresh = λ m f d. n (subst (Contains roles) (sym (same_Some (low p) m f)) (subst (λ (z : List (List ℕ)). Contains z m) (sym q) d));
      };
      free = λ g. absurd (cc);
      waiting = λ _. (low p, refl);
      texted = λ g. absurd (cc);
    })

-- the quote that opens a text
pub read_quote : (keys : List (List ℕ)) (s t : Stage) (c : Known) (p : Piece) (current : Option Predication) (roles : List (List ℕ)) → p.kind ≡ OpensText → step s p.kind ≡ Some t → ((before : List (List ℕ)) → roles ≡ before ++ codes "lbl" ∷ [] → ⊥)
    → IsOpen keys s c current roles → IsOpen keys t (known_after c p) current roles
read_quote keys s t c p current roles k h n o =
    let w = stage_from s t at_role at_text (step_kind s t p.kind OpensText k h) in
    let r : root s ≡ at_role = ap root w.0 in
    let b = o.body (ap in_body r) in
    let v = o.waiting r in
    let q : roles ≡ map (λ (f : Filling). f.role) c.fills ++ v.0 ∷ [] = b.names ∙ ap (λ (z : Option (List ℕ)). map (λ (f : Filling). f.role) c.fills ++ option_to_list z) v.1 in
    open_as keys at_text t c (known_after c p) current roles w.1 (known_kind c p OpensText k) (record {
      body = λ _. b;
      free = λ g. absurd (cc);
      waiting = λ g. absurd (cc);
      texted = λ _. (v.0, v.1, λ g. n (map (λ (f : Filling). f.role) c.fills) (q ∙ ap (λ z. map (λ (f : Filling). f.role) c.fills ++ z ∷ []) g));
    })

-- what is known where the role r was filled
abbrev known_with : Known → List Filling → Known
known_with c fs = record { pred = c.pred; mark = c.mark; fills = fs; role = None }

filled_known : (c : Known) (p : Piece) (r : List ℕ) → c.role ≡ Some r → filled_by c p ≡ known_with c (c.fills ++ record { role = r; by = p } ∷ [])
filled_known c p r e = ap (λ (z : Option (List ℕ)). known_with c (c.fills ++ filling_of z p)) e

abbrev fills_with : Known → Piece → List ℕ → Known
fills_with c p r = record { pred = c.pred; mark = c.mark; fills = c.fills ++ record { role = r; by = p } ∷ []; role = None }

names_filled : (c : Known) (p : Piece) (r : List ℕ) (roles : List (List ℕ)) → roles ≡ map (λ (f : Filling). f.role) c.fills ++ r ∷ [] → roles ≡ map (λ (f : Filling). f.role) (c.fills ++ record { role = r; by = p } ∷ []) ++ []
names_filled c p r roles e = e ∙ sym (map-append (λ (f : Filling). f.role) c.fills (record { role = r; by = p } ∷ [])) ∙ sym (append-nil (map (λ (f : Filling). f.role) (c.fills ++ record { role = r; by = p } ∷ [])))

-- an argument more
body_argument : (keys : List (List ℕ)) (c : Known) (p : Piece) (r : List ℕ) (f : Filled) (current after : Option Predication) (new : Predication) (roles : List (List ℕ)) (b : IsBody keys c current roles) → after ≡ Some new → c.role ≡ Some r → r ≢ codes "lbl"
    → IsFilledBy keys p f → IsArgumentAdded r f b.ep new → roles ≡ map (λ (g : Filling). g.role) c.fills ++ r ∷ [] → IsBody keys (fills_with c p r) after roles
body_argument keys c p r f current after new roles b e k n i a q = record {
  ep = new;
  is = e;
  piece = b.piece;
  first = b.first;
  pred = subst (IsPredOf b.piece) (sym a.pred) b.pred;
  span = subst (IsSpanOf c.mark) (sym a.span) b.span;
  label = λ g d m. elim (Contains-push_cases c.fills (record { role = r; by = p }) g d) [ inl x ↦ subst (Is keys g.by) (sym a.label) (b.label g x m) | inr x ↦ absurd (n (ap (λ (z : Filling). z.role) x ∙ m)) ];
  args = args_more keys c.fills (record { role = r; by = p }) b.ep.args new.args (record { role = r; filler = f }) refl n i a.args (λ d. b.fresh r k d) b.args;
  names = names_filled c p r roles q;
  fresh = λ m g. absurd (cc);
}

-- the label
body_label : (keys : List (List ℕ)) (c : Known) (p : Piece) (r : List ℕ) (n : ℕ) (current after : Option Predication) (roles : List (List ℕ)) (b : IsBody keys c current roles) → after ≡ Some (record b.ep { label = n }) → c.role ≡ Some r → r ≡ codes "lbl"
    → Is keys p n → roles ≡ map (λ (g : Filling). g.role) c.fills ++ r ∷ [] → IsBody keys (fills_with c p r) after roles
body_label keys c p r n current after roles b e k l i q = record {
  ep = record b.ep { label = n };
  is = e;
  piece = b.piece;
  first = b.first;
  pred = b.pred;
  span = b.span;
  label = λ g d m. elim (Contains-push_cases c.fills (record { role = r; by = p }) g d) [
    | inl x ↦ absurd (b.fresh r k (subst (Contains (map (λ (z : Filling). z.role) c.fills)) (m ∙ sym l) (contains_map (λ (z : Filling). z.role) c.fills g x)))
    | inr x ↦ subst (λ (z : Filling). Is keys z.by n) x i
  ];
  args = args_kept keys c.fills (record { role = r; by = p }) b.ep.args l b.args;
  names = names_filled c p r roles q;
  fresh = λ m g. absurd (cc);
}

open_filled : (keys : List (List ℕ)) (c : Known) (p : Piece) (r : List ℕ) (current : Option Predication) (roles : List (List ℕ)) → c.role ≡ Some r → IsBody keys (fills_with c p r) current roles → IsOpen keys in_ep (filled_by c p) current roles
open_filled keys c p r current roles k b = subst (λ (z : Known). IsOpen keys in_ep z current roles) (sym (filled_known c p r k)) (record { body = λ _. b; free = λ _. refl; waiting = λ g. absurd (cc); texted = λ g. absurd (cc) })

body_variable : (keys : List (List ℕ)) (c : Known) (p : Piece) (r : List ℕ) (n : ℕ) (current after : Option Predication) (new : Predication) (roles : List (List ℕ)) (b : IsBody keys c current roles) → p.kind ≡ Filler → after ≡ Some new → c.role ≡ Some r → Is keys p n
    → IsFilled r n b.ep new → roles ≡ map (λ (g : Filling). g.role) c.fills ++ r ∷ [] → IsBody keys (fills_with c p r) after roles
body_variable keys c p r n current after _ roles b m e k i (label l) q = body_label keys c p r n current after roles b e k l i q
body_variable keys c p r n current after _ roles b m e k i (argument new l a) q = body_argument keys c p r (of_var n) current after new roles b e k l (by_variable n m i) a q

pub read_variable : (keys : List (List ℕ)) (s t : Stage) (c : Known) (p : Piece) (n : ℕ) (current after : Option Predication) (roles : List (List ℕ)) → p.kind ≡ Filler → step s p.kind ≡ Some t → Is keys p n
    → FillsLast current roles after (λ r old new. IsFilled r n old new) → IsOpen keys s c current roles → IsOpen keys t (known_after c p) after roles
read_variable keys s t c p n current after roles k h i f o =
    let w = stage_from s t at_role in_ep (step_kind s t p.kind Filler k h) in
    let r : root s ≡ at_role = ap root w.0 in
    let b = o.body (ap in_body r) in
    let v = o.waiting r in
    let q : roles ≡ map (λ (g : Filling). g.role) c.fills ++ v.0 ∷ [] = b.names ∙ ap (λ (z : Option (List ℕ)). map (λ (g : Filling). g.role) c.fills ++ option_to_list z) v.1 in
    let x = f.filled b.ep (map (λ (g : Filling). g.role) c.fills) v.0 b.is q in
    open_as keys in_ep t (filled_by c p) (known_after c p) after roles w.1 (known_kind c p Filler k) (open_filled keys c p v.0 after roles v.1 (body_variable keys c p v.0 n current after x.0 roles b k x.1 v.1 i x.2 q))

pub read_text : (keys : List (List ℕ)) (s t : Stage) (c : Known) (p : Piece) (current after : Option Predication) (roles : List (List ℕ)) → p.kind ≡ Text → step s p.kind ≡ Some t
    → FillsLast current roles after (λ r old new. IsArgumentAdded r (of_text (plain p.text)) old new) → IsOpen keys s c current roles → IsOpen keys t (known_after c p) after roles
read_text keys s t c p current after roles k h f o =
    let w = stage_from s t at_text in_ep (step_kind s t p.kind Text k h) in
    let r : root s ≡ at_text = ap root w.0 in
    let b = o.body (ap in_body r) in
    let v = o.texted r in
    let q : roles ≡ map (λ (g : Filling). g.role) c.fills ++ v.0 ∷ [] = b.names ∙ ap (λ (z : Option (List ℕ)). map (λ (g : Filling). g.role) c.fills ++ option_to_list z) v.1 in
    let x = f.filled b.ep (map (λ (g : Filling). g.role) c.fills) v.0 b.is q in
    open_as keys in_ep t (filled_by c p) (known_after c p) after roles w.1 (known_kind c p Text k)
    (open_filled keys c p v.0 after roles v.1 (body_argument keys c p v.0 (of_text (plain p.text)) current after x.0 roles b x.1 v.1 v.2 (by_text (plain p.text) k refl) x.2 q))

-- the closing bracket
pub ended : (keys : List (List ℕ)) (c : Known) (current : Option Predication) (roles : List (List ℕ)) (b : IsBody keys c current roles) → c.role ≡ None → Contains roles (codes "lbl") → IsPredicationOf keys c b.ep
ended keys c current roles b e l =
    let q : roles ≡ map (λ (g : Filling). g.role) c.fills = b.names ∙ ap (λ (z : Option (List ℕ)). map (λ (g : Filling). g.role) c.fills ++ option_to_list z) e ∙ append-nil (map (λ (g : Filling). g.role) c.fills) in
    let w = map_contains (λ (g : Filling). g.role) c.fills (codes "lbl") (subst (λ (z : List (List ℕ)). Contains z (codes "lbl")) q l) in record {
      piece = b.piece;
      first = b.first;
      pred = b.pred;
      span = b.span;
      label = record { filling = w.0; there = w.1; role = w.2; same = b.label };
      args = b.args;
    }

open_outside : (keys : List (List ℕ)) (c : Known) (current : Option Predication) (roles : List (List ℕ)) (t : Stage) → in_body (root t) ≡ false → IsOpen keys t c current roles
open_outside keys c current roles t e = record {
  body = λ g. absurd (cc);
  free = λ g. absurd (let q : in_body (root t) ≡ true = ap in_body g in cc);
  waiting = λ g. absurd (let q : in_body (root t) ≡ true = ap in_body g in cc);
  texted = λ g. absurd (let q : in_body (root t) ≡ true = ap in_body g in cc);
}

-- other tokens
open_root : (keys : List (List ℕ)) (c : Known) (current : Option Predication) (roles : List (List ℕ)) (s t : Stage) → root t ≡ root s → IsOpen keys s c current roles → IsOpen keys t c current roles
open_root keys c current roles s t e o = record { body = λ g. o.body (ap in_body (sym e) ∙ g); free = λ g. o.free (sym e ∙ g); waiting = λ g. o.waiting (sym e ∙ g); texted = λ g. o.texted (sym e ∙ g) }

pub named_root : (s t : Stage) → named_after s ≡ Some t → root t ≡ root s
named_root begun t e = absurd (cc)
named_root (named s) t e = absurd (cc)
named_root topped t e = ap root (sym (same_Some (named topped) t e))
named_root outside t e = ap root (sym (same_Some (named outside) t e))
named_root in_ep t e = ap root (sym (same_Some (named in_ep) t e))
named_root at_role t e = ap root (sym (same_Some (named at_role) t e))
named_root at_text t e = ap root (sym (same_Some (named at_text) t e))
named_root at_high t e = ap root (sym (same_Some (named at_high) t e))
named_root at_handle_rel t e = ap root (sym (same_Some (named at_handle_rel) t e))
named_root at_left t e = ap root (sym (same_Some (named at_left) t e))
named_root at_variable_rel t e = ap root (sym (same_Some (named at_variable_rel) t e))

pub valued_root : (s t : Stage) → valued_after s ≡ Some t → root t ≡ root s
valued_root (named s) t e = ap root (sym (same_Some s t e))
valued_root _ t e = absurd (cc)

only_outside : (b : Bool) (u t : Stage) → in_body (root u) ≡ false → only_after b u ≡ Some t → in_body (root t) ≡ false
only_outside b u t e h = let w = only_told b u t h in ap (λ (z : Stage). in_body (root z)) (sym w.1) ∙ e

-- kinds of tokens that elementary predications are made of
abbrev pub in_predications : Kind → Bool
in_predications PredRun = true
in_predications PredText = true
in_predications Link = true
in_predications Role = true
in_predications Filler = true
in_predications OpensText = true
in_predications Text = true
in_predications EpEnd = true
in_predications _ = false

open_other : (keys : List (List ℕ)) (s t : Stage) (k : Kind) (c : Known) (p : Piece) (current : Option Predication) (roles : List (List ℕ)) → in_predications k ≡ false → step s k ≡ Some t → IsOpen keys s c current roles → IsOpen keys t (known_by k c p) current roles
open_other keys s t PropName c p current roles e h o = open_root keys c current roles s t (named_root s t h) o
open_other keys s t PropValue c p current roles e h o = open_root keys c current roles s t (valued_root s t h) o
open_other keys s t Top c p current roles e h o = open_outside keys c current roles t (only_outside (same_stage s begun) topped t refl h)
open_other keys s t Index c p current roles e h o = open_outside keys c current roles t (only_outside (same_stage s topped) outside t refl h)
open_other keys s t High c p current roles e h o = open_outside keys c current roles t (only_outside (same_stage s outside) at_high t refl h)
open_other keys s t HandleRel c p current roles e h o = open_outside keys c current roles t (only_outside (same_stage s at_high) at_handle_rel t refl h)
open_other keys s t Low c p current roles e h o = open_outside keys c current roles t (only_outside (same_stage s at_handle_rel) outside t refl h)
open_other keys s t Left c p current roles e h o = open_outside keys c current roles t (only_outside (same_stage s outside) at_left t refl h)
open_other keys s t VariableRel c p current roles e h o = open_outside keys c current roles t (only_outside (same_stage s at_left) at_variable_rel t refl h)
open_other keys s t Right c p current roles e h o = open_outside keys c current roles t (only_outside (same_stage s at_variable_rel) outside t refl h)
open_other keys s t _ c p current roles e h o = absurd (cc)

pub read_other : (keys : List (List ℕ)) (s t : Stage) (c : Known) (p : Piece) (current : Option Predication) (roles : List (List ℕ)) → in_predications p.kind ≡ false → step s p.kind ≡ Some t → IsOpen keys s c current roles → IsOpen keys t (known_after c p) current roles
read_other keys s t c p current roles e h o = open_other keys s t p.kind c p current roles e h o

-- one token more
not_ended : (k : Kind) (c : Known) → k ≢ EpEnd → ended_by k c ≡ []
not_ended EpEnd c n = absurd (n refl)
not_ended _ c n = refl

pub token_more : (keys : List (List ℕ)) (ps : List Piece) (p : Piece) (s t : Stage) (list list2 : List Predication) (current after : Option Predication) (roles roles2 : List (List ℕ)) → p.kind ≢ EpEnd → list2 ≡ list
    → (IsOpen keys s (after_all known_after nothing_known ps) current roles → IsOpen keys t (known_after (after_all known_after nothing_known ps) p) after roles2)
    → ArePredications keys ps s list current roles → ArePredications keys (ps ++ p ∷ []) t list2 after roles2
token_more keys ps p s t list list2 current after roles roles2 n e f h =
    let c = after_all known_after nothing_known ps in
    let l : predications (ps ++ p ∷ []) ≡ predications ps = emitted_more known_after ended_at nothing_known ps p ∙ ap (λ z. predications ps ++ z) (not_ended p.kind c n) ∙ append-nil (predications ps) in record {
      done = subst (λ (z : List Known). AllZip (IsPredicationOf keys) z list2) (sym l) (subst (AllZip (IsPredicationOf keys) (predications ps)) (sym e) h.done);
      last = subst (λ (z : Known). IsOpen keys t z after roles2) (sym (after_more known_after nothing_known ps p)) (f h.last);
    }

pub end_more : (keys : List (List ℕ)) (ps : List Piece) (p : Piece) (s t : Stage) (list list2 : List Predication) (current after : Option Predication) (roles roles2 : List (List ℕ)) → p.kind ≡ EpEnd → step s p.kind ≡ Some t → Contains roles (codes "lbl")
    → ((ep : Predication) → current ≡ Some ep → list2 ≡ list ++ ep ∷ []) → ArePredications keys ps s list current roles → ArePredications keys (ps ++ p ∷ []) t list2 after roles2
end_more keys ps p s t list list2 current after roles roles2 k h l f o =
    let c = after_all known_after nothing_known ps in
    let w = stage_from s t in_ep outside (step_kind s t p.kind EpEnd k h) in
    let r : root s ≡ in_ep = ap root w.0 in
    let b = o.last.body (ap in_body r) in
    let g : predications (ps ++ p ∷ []) ≡ predications ps ++ c ∷ [] = emitted_more known_after ended_at nothing_known ps p ∙ ap (λ (z : Kind). predications ps ++ ended_by z c) k in record {
      done = subst (λ (z : List Known). AllZip (IsPredicationOf keys) z list2) (sym g) (subst (AllZip (IsPredicationOf keys) (predications ps ++ c ∷ [])) (sym (f b.ep b.is))
          (zip_more (IsPredicationOf keys) (predications ps) list c b.ep o.done (ended keys c current roles b (o.last.free r) l)));
      last = open_outside keys (after_all known_after nothing_known (ps ++ p ∷ [])) after roles2 t (ap (λ (z : Stage). in_body (root z)) (sym w.1));
    }

pub none_read : (keys : List (List ℕ)) (list : List Predication) (current : Option Predication) (roles : List (List ℕ)) → list ≡ [] → ArePredications keys [] begun list current roles
none_read keys list current roles e = record { done = subst (AllZip (IsPredicationOf keys) []) (sym e) tt; last = open_outside keys nothing_known current roles begun refl }

pub not_in_predications : (k : Kind) → k ≢ PredRun → k ≢ PredText → k ≢ Link → k ≢ Role → k ≢ Filler → k ≢ OpensText → k ≢ Text → k ≢ EpEnd → in_predications k ≡ false
not_in_predications PredRun a b c d e f g h = absurd (a refl)
not_in_predications PredText a b c d e f g h = absurd (b refl)
not_in_predications Link a b c d e f g h = absurd (c refl)
not_in_predications Role a b c d e f g h = absurd (d refl)
not_in_predications Filler a b c d e f g h = absurd (e refl)
not_in_predications OpensText a b c d e f g h = absurd (f refl)
not_in_predications Text a b c d e f g h = absurd (g refl)
not_in_predications EpEnd a b c d e f g h = absurd (h refl)
not_in_predications _ a b c d e f g h = refl

-- which predicate a token is
pub run_pred : (p : Piece) (q : List ℕ) → p.kind ≡ PredRun → Normal (str_to_ascii_lowercase p.text) q → IsPredOf p q
run_pred p q e h = subst (λ (k : Kind). Normal (str_to_ascii_lowercase (bare_text k p.text)) q) (sym e) h

pub text_pred : (p : Piece) (q : List ℕ) → p.kind ≡ PredText → Normal (str_to_ascii_lowercase (plain p.text)) q → IsPredOf p q
text_pred p q e h = subst (λ (k : Kind). Normal (str_to_ascii_lowercase (bare_text k p.text)) q) (sym e) h

abbrev pub is_end : Kind → Bool
is_end EpEnd = true
is_end _ = false

pub not_end : (k : Kind) → is_end k ≡ false → k ≢ EpEnd
not_end k e f = false≢true (sym e ∙ ap is_end f)

pub same_roles : (keys : List (List ℕ)) (t : Stage) (c : Known) (current : Option Predication) (roles new : List (List ℕ)) → new ≡ roles → IsOpen keys t c current roles → IsOpen keys t c current new
same_roles keys t c current roles new e o = subst (IsOpen keys t c current) (sym e) o

pub same_current : (keys : List (List ℕ)) (t : Stage) (c : Known) (current after : Option Predication) (roles : List (List ℕ)) → after ≡ current → IsOpen keys t c current roles → IsOpen keys t c after roles
same_current keys t c current after roles e o = subst (λ (z : Option Predication). IsOpen keys t c z roles) (sym e) o
