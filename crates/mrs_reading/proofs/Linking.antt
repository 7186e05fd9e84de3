-- The ends and the relations of the constraints of a text.
use Rattle.std.proofs.Common.{◌≡◌, ◌∙◌, inl, inr, Bool, true, false, if◌then◌else◌, List, [], ◌∷◌, Some, refl, ap, sym, subst}
use Rattle.std.specs.List.{Contains}
use Rattle.std.proofs.lemmas.Bool.{false≢true}
use Rattle.std.proofs.lemmas.Option.{same_Some}
use Rattle.std.proofs.lemmas.List.Elements.{Contains-append_right, Contains-append_left}
use Rattle.mrs_model.specs.Texts.{IsName}
use Rattle.mrs_spelling.specs.declared.kinds.Kind.{Kind}
use Rattle.mrs_spelling.specs.declared.kinds.Kind.TheVariants.{PropName, PropValue, High, HandleRel, Low, Left, VariableRel, Right}
use Rattle.mrs_reading.specs.Meaning.{Piece, low, emitted, Ends, ends_after, Linked, link_at, no_ends, links, is_high, is_handle_rel, is_low, is_left, is_variable_rel, is_right}
use Rattle.mrs_reading.specs.Inner.Stages.{Stage, begun, outside, at_high, at_handle_rel, at_left, at_variable_rel, stage_after, kinds_in}
use Rattle.mrs_reading.specs.Inner.Predications.{root}
use Rattle.mrs_reading.proofs.Predicated.{nothing_in}
use Rattle.mrs_reading.proofs.Moves.{in_list, from, to, Moves, stays, goes, moves, splits, first_or_other, is_first, emitted_all, root_from, root_to}
use Rattle.mrs_reading.proofs.Linked.{ends_first, ends_rel, ends_same}

-- constraints, by the kinds of their tokens and the stages between the first and the second

pub record AreEnds (first rel second : Kind → Bool) (waits told : Stage → Bool) : Type 0 where
  pub opens : (k : Kind) → first k ≡ true → (in_list k ≡ false) × (waits (to k) ≡ true)
  pub closes : (k : Kind) → second k ≡ true → (in_list k ≡ false) × (waits (from k) ≡ true) × (told (from k) ≡ true)
  pub goes_on : (k : Kind) → waits (from k) ≡ true → second k ≡ false → (first k ≡ false) × (waits (to k) ≡ true)
  pub waited : (k : Kind) → waits (to k) ≡ true → first k ≡ false → waits (from k) ≡ true
  pub said : (k : Kind) → told (to k) ≡ true → rel k ≡ false → told (from k) ≡ true
  pub lists : (k : Kind) → in_list k ≡ true → (first k ≡ false) × (second k ≡ false) × (rel k ≡ false)
  pub none : waits outside ≡ false
  pub none_first : (waits begun ≡ false) × (told begun ≡ false)

-- a constraint has this first variable
pub record Linking (first rel second : Kind → Bool) (c : Ends) (ps : List Piece) (q : Piece) : Type 0 where
  pub link : Linked
  pub there : Contains (emitted (ends_after first rel) (link_at second) c ps) link
  pub first_is : link.ends.first ≡ Some q

-- a constraint has a first variable, and its relation is a name
pub record IsWhole (l : Linked) : Type 0 where
  pub first_there : (f : Piece) × (l.ends.first ≡ Some f)
  pub rel_named : IsName l.ends.rel

module _ (first rel second : Kind → Bool) (waits told : Stage → Bool) (ends : AreEnds first rel second waits told) where
  linking_on : (c : Ends) (p : Piece) (ps : List Piece) (q : Piece) → Linking first rel second (ends_after first rel c p) ps q → Linking first rel second c (p ∷ ps) q
  linking_on c p ps q h = record { link = h.link; there = Contains-append_right (link_at second c p) (emitted (ends_after first rel) (link_at second) (ends_after first rel c p) ps) h.link h.there; first_is = h.first_is }

  first_kept : (c : Ends) (p : Piece) → first p.kind ≡ false → (ends_after first rel c p).first ≡ c.first
  first_kept c p e = by (rel p.kind) refl
    where
      by : (b : Bool) → rel p.kind ≡ b → (ends_after first rel c p).first ≡ c.first
      by true f = ap (λ (z : Ends). z.first) (ends_rel first rel c p e f)
      by false f = ap (λ (z : Ends). z.first) (ends_same first rel c p e f)

  rel_kept : (c : Ends) (p : Piece) → rel p.kind ≡ false → (ends_after first rel c p).rel ≡ c.rel
  rel_kept c p f = by (first p.kind) refl
    where
      by : (b : Bool) → first p.kind ≡ b → (ends_after first rel c p).rel ≡ c.rel
      by true e = ap (λ (z : Ends). z.rel) (ends_first first rel c p e)
      by false e = ap (λ (z : Ends). z.rel) (ends_same first rel c p e f)

  linked_here : (c : Ends) (p : Piece) → second p.kind ≡ true → link_at second c p ≡ record { ends = c; second = p } ∷ []
  linked_here c p e = ap (λ (z : Bool). if z then record { ends = c; second = p } ∷ [] else []) e

  wait_on : (s t : Stage) (k : Kind) → waits (root s) ≡ true → second k ≡ false → Moves s t k → (first k ≡ false) × (waits (root t) ≡ true)
  wait_on s t k e f (stays r l) = ((ends.lists k l).0, ap waits r ∙ e)
  wait_on s t k e f (goes a b l) = let w = ends.goes_on k (ap waits (sym (root_from s k a)) ∙ e) f in (w.0, ap waits (root_to t k b) ∙ w.1)

  open_on : (s t : Stage) (k : Kind) → first k ≡ true → Moves s t k → waits (root t) ≡ true
  open_on s t k e (stays r l) = absurd (false≢true (sym (ends.opens k e).0 ∙ l))
  open_on s t k e (goes a b l) = ap waits (root_to t k b) ∙ (ends.opens k e).1

  link_later : (ps : List Piece) (s : Stage) (c : Ends) (q : Piece) → stage_after (Some s) (kinds_in ps) ≡ Some outside → waits (root s) ≡ true → c.first ≡ Some q → Linking first rel second c ps q
  link_later [] s c q h e f = absurd (let g : s ≡ outside = same_Some s outside h in false≢true (sym ends.none ∙ ap (λ (z : Stage). waits (root z)) (sym g) ∙ e))
  link_later (p ∷ ps) s c q h e f =
      let w = splits s p ps outside h in
      by (second p.kind) refl w.next (moves s w.next p.kind w.first) (λ u v. link_later ps w.next (ends_after first rel c p) q w.others u v)
    where
      by : (b : Bool) → second p.kind ≡ b → (t : Stage) → Moves s t p.kind → (waits (root t) ≡ true → (ends_after first rel c p).first ≡ Some q → Linking first rel second (ends_after first rel c p) ps q) → Linking first rel second c (p ∷ ps) q
      by true g t m o = record {
        link = record { ends = c; second = p };
        there = Contains-append_left (link_at second c p) (emitted (ends_after first rel) (link_at second) (ends_after first rel c p) ps) (record { ends = c; second = p })
            (subst (λ (l : List Linked). Contains l (record { ends = c; second = p })) (sym (linked_here c p g)) (is_first (record { ends = c; second = p }) []));
        first_is = f;
      }
      by false g t m o =
          let u = wait_on s t p.kind e g m in
          linking_on c p ps q (o u.1 (first_kept c p u.0 ∙ f))

  -- each first variable is that of a constraint
  pub first_linked : (ps : List Piece) (s : Stage) (c : Ends) → stage_after (Some s) (kinds_in ps) ≡ Some outside → (q : Piece) → Contains ps q → first q.kind ≡ true → Linking first rel second c ps q
  first_linked [] s c h q k e = absurd (nothing_in q k)
  first_linked (p ∷ ps) s c h q k e =
      let w = splits s p ps outside h in
      let m = moves s w.next p.kind w.first in
      elim (first_or_other p ps q k) [
        | inl a ↦ (let f : first p.kind ≡ true = ap (λ (z : Piece). first z.kind) a ∙ e in
            linking_on c p ps q (link_later ps w.next (ends_after first rel c p) q w.others (open_on s w.next p.kind f m) (ap (λ (z : Ends). z.first) (ends_first first rel c p f) ∙ ap Some a)))
        | inr a ↦ linking_on c p ps q (first_linked ps w.next (ends_after first rel c p) w.others q a e)
      ]

  -- each second variable is that of one
  pub second_linked : (ps : List Piece) (c : Ends) (q : Piece) → Contains ps q → second q.kind ≡ true → (l : Linked) × Contains (emitted (ends_after first rel) (link_at second) c ps) l × (l.second ≡ q)
  second_linked [] c q k e = absurd (nothing_in q k)
  second_linked (p ∷ ps) c q k e = elim (first_or_other p ps q k) [
    | inl a ↦ (let f : second p.kind ≡ true = ap (λ (z : Piece). second z.kind) a ∙ e in (
      record { ends = c; second = p },
      Contains-append_left (link_at second c p) (emitted (ends_after first rel) (link_at second) (ends_after first rel c p) ps) (record { ends = c; second = p })
          (subst (λ (l : List Linked). Contains l (record { ends = c; second = p })) (sym (linked_here c p f)) (is_first (record { ends = c; second = p }) [])),
      a,
    ))
    | inr a ↦ (let w = second_linked ps (ends_after first rel c p) q a e in (w.0, Contains-append_right (link_at second c p) (emitted (ends_after first rel) (link_at second) (ends_after first rel c p) ps) w.0 w.1, w.2))
  ]

  -- what is known at each stage
  record Stand (s : Stage) (c : Ends) : Type 0 where
    pub first_there : waits (root s) ≡ true → (f : Piece) × (c.first ≡ Some f)
    pub rel_named : told (root s) ≡ true → IsName c.rel

  was_waiting : (s t : Stage) (k : Kind) → waits (root t) ≡ true → first k ≡ false → Moves s t k → waits (root s) ≡ true
  was_waiting s t k e f (stays r l) = ap waits (sym r) ∙ e
  was_waiting s t k e f (goes a b l) = ap waits (root_from s k a) ∙ ends.waited k (ap waits (sym (root_to t k b)) ∙ e) f

  was_told : (s t : Stage) (k : Kind) → told (root t) ≡ true → rel k ≡ false → Moves s t k → told (root s) ≡ true
  was_told s t k e f (stays r l) = ap told (sym r) ∙ e
  was_told s t k e f (goes a b l) = ap told (root_from s k a) ∙ ends.said k (ap told (sym (root_to t k b)) ∙ e) f

  at_second : (s t : Stage) (k : Kind) → second k ≡ true → Moves s t k → (waits (root s) ≡ true) × (told (root s) ≡ true)
  at_second s t k e (stays r l) = absurd (false≢true (sym (ends.closes k e).0 ∙ l))
  at_second s t k e (goes a b l) = let w = ends.closes k e in (ap waits (root_from s k a) ∙ w.1, ap told (root_from s k a) ∙ w.2)

  first_on : (s t : Stage) (c : Ends) (p : Piece) → Stand s c → Moves s t p.kind → waits (root t) ≡ true → (f : Piece) × ((ends_after first rel c p).first ≡ Some f)
  first_on s t c p i m e = by (first p.kind) refl
    where
      by : (b : Bool) → first p.kind ≡ b → (f : Piece) × ((ends_after first rel c p).first ≡ Some f)
      by true g = (p, ap (λ (z : Ends). z.first) (ends_first first rel c p g))
      by false g = let w = i.first_there (was_waiting s t p.kind e g m) in (w.0, first_kept c p g ∙ w.1)

  rel_on : (s t : Stage) (c : Ends) (p : Piece) → (rel p.kind ≡ true → (IsName (low p)) × (first p.kind ≡ false)) → Stand s c → Moves s t p.kind → told (root t) ≡ true → IsName (ends_after first rel c p).rel
  rel_on s t c p n i m e = by (rel p.kind) refl
    where
      by : (b : Bool) → rel p.kind ≡ b → IsName (ends_after first rel c p).rel
      by true g = let w = n g in subst IsName (sym (ap (λ (z : Ends). z.rel) (ends_rel first rel c p w.1 g))) w.0
      by false g = subst IsName (sym (rel_kept c p g)) (i.rel_named (was_told s t p.kind e g m))

  link_whole : (s t : Stage) (c : Ends) (p : Piece) → Stand s c → Moves s t p.kind → (x : Linked) → Contains (link_at second c p) x → IsWhole x
  link_whole s t c p i m x k = by (second p.kind) refl
    where
      by : (b : Bool) → second p.kind ≡ b → IsWhole x
      by true g =
          let w = at_second s t p.kind g m in
          elim (first_or_other (record { ends = c; second = p }) [] x (subst (λ (l : List Linked). Contains l x) (linked_here c p g) k)) [
            | inl e ↦ subst IsWhole e (record { first_there = i.first_there w.0; rel_named = i.rel_named w.1 })
            | inr e ↦ absurd (nothing_in x e)
          ]
      by false g = absurd (nothing_in x (subst (λ (l : List Linked). Contains l x) (ap (λ (z : Bool). if z then record { ends = c; second = p } ∷ [] else []) g) k))

  pub links_whole : (ps : List Piece) (u : Stage) → ((p : Piece) → Contains ps p → rel p.kind ≡ true → (IsName (low p)) × (first p.kind ≡ false)) → stage_after (Some begun) (kinds_in ps) ≡ Some u → (l : Linked) → Contains (links first rel second ps) l → IsWhole l
  links_whole ps u fine h l k =
      emitted_all (ends_after first rel) (link_at second) (λ p. rel p.kind ≡ true → (IsName (low p)) × (first p.kind ≡ false)) Stand IsWhole
      (λ s t c p f e i. let m = moves s t p.kind e in (record { first_there = first_on s t c p i m; rel_named = rel_on s t c p f i m }, link_whole s t c p i m))
      ps begun u no_ends fine h (record { first_there = λ e. absurd (false≢true (sym ends.none_first.0 ∙ e)); rel_named = λ e. absurd (false≢true (sym ends.none_first.1 ∙ e)) }) l k

-- the two kinds of constraints
abbrev pub waits_handle : Stage → Bool
waits_handle at_high = true
waits_handle at_handle_rel = true
waits_handle _ = false

abbrev pub told_handle : Stage → Bool
told_handle at_handle_rel = true
told_handle _ = false

abbrev pub waits_left : Stage → Bool
waits_left at_left = true
waits_left at_variable_rel = true
waits_left _ = false

abbrev pub told_left : Stage → Bool
told_left at_variable_rel = true
told_left _ = false

handle_opens : (k : Kind) → is_high k ≡ true → (in_list k ≡ false) × (waits_handle (to k) ≡ true)
handle_opens High e = (refl, refl)
handle_opens _ e = absurd (cc)

handle_closes : (k : Kind) → is_low k ≡ true → (in_list k ≡ false) × (waits_handle (from k) ≡ true) × (told_handle (from k) ≡ true)
handle_closes Low e = (refl, refl, refl)
handle_closes _ e = absurd (cc)

handle_goes_on : (k : Kind) → waits_handle (from k) ≡ true → is_low k ≡ false → (is_high k ≡ false) × (waits_handle (to k) ≡ true)
handle_goes_on HandleRel e f = (refl, refl)
handle_goes_on _ e f = absurd (cc)

handle_waited : (k : Kind) → waits_handle (to k) ≡ true → is_high k ≡ false → waits_handle (from k) ≡ true
handle_waited HandleRel e f = refl
handle_waited _ e f = absurd (cc)

handle_said : (k : Kind) → told_handle (to k) ≡ true → is_handle_rel k ≡ false → told_handle (from k) ≡ true
handle_said HandleRel e f = absurd (cc)
handle_said _ e f = absurd (cc)

handle_lists : (k : Kind) → in_list k ≡ true → (is_high k ≡ false) × (is_low k ≡ false) × (is_handle_rel k ≡ false)
handle_lists PropName e = (refl, refl, refl)
handle_lists PropValue e = (refl, refl, refl)
handle_lists _ e = absurd (cc)

pub handle_ends : AreEnds is_high is_handle_rel is_low waits_handle told_handle
handle_ends = record { opens = handle_opens; closes = handle_closes; goes_on = handle_goes_on; waited = handle_waited; said = handle_said; lists = handle_lists; none = refl; none_first = (refl, refl) }

left_opens : (k : Kind) → is_left k ≡ true → (in_list k ≡ false) × (waits_left (to k) ≡ true)
left_opens Left e = (refl, refl)
left_opens _ e = absurd (cc)

left_closes : (k : Kind) → is_right k ≡ true → (in_list k ≡ false) × (waits_left (from k) ≡ true) × (told_left (from k) ≡ true)
left_closes Right e = (refl, refl, refl)
left_closes _ e = absurd (cc)

left_goes_on : (k : Kind) → waits_left (from k) ≡ true → is_right k ≡ false → (is_left k ≡ false) × (waits_left (to k) ≡ true)
left_goes_on VariableRel e f = (refl, refl)
left_goes_on _ e f = absurd (cc)

left_waited : (k : Kind) → waits_left (to k) ≡ true → is_left k ≡ false → waits_left (from k) ≡ true
left_waited VariableRel e f = refl
left_waited _ e f = absurd (cc)

left_said : (k : Kind) → told_left (to k) ≡ true → is_variable_rel k ≡ false → told_left (from k) ≡ true
left_said VariableRel e f = absurd (cc)
left_said _ e f = absurd (cc)

left_lists : (k : Kind) → in_list k ≡ true → (is_left k ≡ false) × (is_right k ≡ false) × (is_variable_rel k ≡ false)
left_lists PropName e = (refl, refl, refl)
left_lists PropValue e = (refl, refl, refl)
left_lists _ e = absurd (cc)

pub left_ends : AreEnds is_left is_variable_rel is_right waits_left told_left
left_ends = record { opens = left_opens; closes = left_closes; goes_on = left_goes_on; waited = left_waited; said = left_said; lists = left_lists; none = refl; none_first = (refl, refl) }
