-- The constraints that the tokens tell.
use Rattle.std.proofs.Common.{◌≡◌, ℕ, ◌∙◌, ◌<◌, Bool, true, false, List, [], ◌∷◌, ◌++◌, map, refl, ap, sym, length, codes, nat_lt, ◌&&◌, if◌then◌else◌, decimal, Option, Some, None}
use Rattle.std.specs.List.{All, AllZip, flat_map, list_all}
use Rattle.std.specs.Str.{chars, str_to_ascii_lowercase}
use Rattle.std.proofs.lemmas.List.Elements.{All-head, All-tail}
use Rattle.mrs_model.specs.declared.Extent.{Extent}
use Rattle.mrs_text.specs.Signs.{in_pred as is_in_pred}
use Rattle.mrs_text.specs.Written.{upper, escaped}
use Rattle.mrs_model.specs.Meanings.{Variable, Argument, Filler as Filled, of_var, of_text, Predication, Constraint}
use Rattle.mrs_model.specs.Valid.{IsConstraint}
use Rattle.mrs_spelling.specs.declared.kinds.Kind.{Kind}
use Rattle.mrs_spelling.specs.declared.kinds.Kind.TheVariants.{PredRun, PredText, Link, Role, Filler, OpensText, Text, EpEnd}
use Rattle.mrs_reading.specs.Meaning.{Piece, Is, Ends, Linked, ends_after, link_at, emitted, IsConstraintOf}
use Rattle.mrs_text.specs.Stored.{IsStoredConstraint}
use Rattle.mrs_text.proofs.Uppers.{lower_name}
use Rattle.mrs_text.proofs.Steps.{Step, say, filler_step, args_then, pred_piece, link_pieces, roles_of, eps_then, constraints_then}
use Rattle.mrs_text.proofs.Ranks.{key, bare}

-- what passes over tokens of kinds that it doesn't look at
module _ {C A : Type 0} (next : C → Piece → C) (gives : C → Piece → List A) (vars : List Variable) (order : List ℕ) where
  abbrev pub Ignores : Kind → Type 0
  Ignores k = (c : C) (t : List ℕ) → (next c (record { kind = k; text = t }) ≡ c) × (gives c (record { kind = k; text = t }) ≡ [])

  pub past_one : (k : Kind) (c : C) (t : List ℕ) (rest : List Piece) → Ignores k → emitted next gives c (record { kind = k; text = t } ∷ rest) ≡ emitted next gives c rest
  past_one k c t rest i =
      let p : Piece = record { kind = k; text = t } in
      ap (λ z. z ++ emitted next gives (next c p) rest) (i c t).1 ∙ ap (λ d. emitted next gives d rest) (i c t).0

  pub past_constraints : (one rel_kind two : Kind) → Ignores one → Ignores rel_kind → Ignores two → (c : C) (cs : List Constraint) (tail : List Step) → emitted next gives c (bare vars order (constraints_then one rel_kind two cs tail)) ≡ emitted next gives c (bare vars order tail)
  past_constraints one rel_kind two i j k c [] tail = refl
  past_constraints one rel_kind two i j k c (x ∷ cs) tail =
      let rest = bare vars order (constraints_then one rel_kind two cs tail) in
      let q : Piece = record { kind = two; text = key vars order x.right } in
      let r : Piece = record { kind = rel_kind; text = x.rel } in
      past_one one c (key vars order x.left) (r ∷ q ∷ rest) i ∙ past_one rel_kind c x.rel (q ∷ rest) j ∙ past_one two c (key vars order x.right) rest k ∙ past_constraints one rel_kind two i j k c cs tail

  -- elementary predications, too
  pub record Apart : Type 0 where
    pub at_run : Ignores PredRun
    pub at_quoted : Ignores PredText
    pub at_link : Ignores Link
    pub at_role : Ignores Role
    pub at_filler : Ignores Filler
    pub at_open : Ignores OpensText
    pub at_text : Ignores Text
    pub at_end : Ignores EpEnd

  past_filler : Apart → (f : Filled) (c : C) (tail : List Step) → emitted next gives c (bare vars order (filler_step f ∷ tail)) ≡ emitted next gives c (bare vars order tail)
  past_filler a (of_var v) c tail = past_one Filler c (key vars order v) (bare vars order tail) a.at_filler
  past_filler a (of_text t) c tail = past_one OpensText c (34 ∷ []) (record { kind = Text; text = flat_map escaped t } ∷ bare vars order tail) a.at_open ∙ past_one Text c (flat_map escaped t) (bare vars order tail) a.at_text

  past_args : Apart → (xs : List Argument) (c : C) (tail : List Step) → emitted next gives c (bare vars order (args_then xs tail)) ≡ emitted next gives c (bare vars order tail)
  past_args a [] c tail = refl
  past_args a (x ∷ xs) c tail = past_one Role c (upper x.role) (bare vars order (filler_step x.filler ∷ args_then xs tail)) a.at_role ∙ past_filler a x.filler c (args_then xs tail) ∙ past_args a xs c tail

  past_pred : Apart → (p : List ℕ) (c : C) (rest : List Piece) → emitted next gives c (pred_piece p ∷ rest) ≡ emitted next gives c rest
  past_pred a p c rest = by (nat_lt 0 (length p) && list_all is_in_pred (chars p))
    where
      by : (b : Bool) → emitted next gives c ((if b then record { kind = PredRun; text = p } else record { kind = PredText; text = flat_map escaped p }) ∷ rest) ≡ emitted next gives c rest
      by true = past_one PredRun c p rest a.at_run
      by false = past_one PredText c (flat_map escaped p) rest a.at_quoted

  past_link : Apart → (o : Option Extent) (c : C) (rest : List Piece) → emitted next gives c (link_pieces o ++ rest) ≡ emitted next gives c rest
  past_link a None c rest = refl
  past_link a (Some e) c rest = past_one Link c (decimal e.from ++ 58 ∷ decimal e.to) rest a.at_link

  pub past_eps : Apart → (es : List Predication) (c : C) (tail : List Step) → emitted next gives c (bare vars order (eps_then es tail)) ≡ emitted next gives c (bare vars order tail)
  past_eps a [] c tail = refl
  past_eps a (e ∷ es) c tail =
      let closing = say (codes " ]") (record { kind = EpEnd; text = 93 ∷ [] } ∷ []) ∷ eps_then es tail in
      let rest = bare vars order (args_then (roles_of e) closing) in
      past_pred a e.pred c (link_pieces e.span ++ rest) ∙ past_link a e.span c rest ∙ past_args a (roles_of e) c closing ∙ past_one EpEnd c (93 ∷ []) (bare vars order (eps_then es tail)) a.at_end ∙ past_eps a es c tail

module _ (vars : List Variable) (order : List ℕ) (first rel second : Kind → Bool) (one rel_kind two : Kind)
    (f1 : first one ≡ true) (s1 : second one ≡ false) (f2 : first rel_kind ≡ false) (r2 : rel rel_kind ≡ true) (s2 : second rel_kind ≡ false) (f3 : first two ≡ false) (r3 : rel two ≡ false) (s3 : second two ≡ true) where
  abbrev link_of : Constraint → Linked
  link_of c = record { ends = record { first = Some (record { kind = one; text = key vars order c.left }); rel = str_to_ascii_lowercase c.rel }; second = record { kind = two; text = key vars order c.right } }

  abbrev linked_by : Ends → List Piece → List Linked
  linked_by c ps = emitted (ends_after first rel) (link_at second) c ps

  one_told : (c : Constraint) (d : Ends) (rest : List Piece) → linked_by d (record { kind = one; text = key vars order c.left } ∷ record { kind = rel_kind; text = c.rel } ∷ record { kind = two; text = key vars order c.right } ∷ rest)
      ≡ link_of c ∷ linked_by (link_of c).ends rest
  one_told c d rest = rw (f1, s1, f2, r2, s2, f3, r3, s3) refl

  -- the links, and what is known at the end doesn't matter where no second variable comes
  pub links_told : (d : Ends) (cs : List Constraint) (tail : List Step) → ((e : Ends) → linked_by e (bare vars order tail) ≡ []) → linked_by d (bare vars order (constraints_then one rel_kind two cs tail)) ≡ map link_of cs
  links_told d [] tail n = n d
  links_told d (c ∷ cs) tail n = one_told c d (bare vars order (constraints_then one rel_kind two cs tail)) ∙ ap (λ z. link_of c ∷ z) (links_told (link_of c).ends cs tail n)

  pub constraints_are : (keys : List (List ℕ)) → ((k : Kind) (v : ℕ) → v < length vars → Is keys (record { kind = k; text = key vars order v }) v) → (cs : List Constraint) → All (IsConstraint (length vars)) cs → All IsStoredConstraint cs
      → AllZip (IsConstraintOf keys) (map link_of cs) cs
  constraints_are keys there [] h s = tt
  constraints_are keys there (c ∷ cs) h s =
      let a = All-head (IsConstraint (length vars)) c cs h in (
        record { left = there one c.left a.left; rel = sym (lower_name c.rel a.rel (All-head IsStoredConstraint c cs s)); right = there two c.right a.right },
        constraints_are keys there cs (All-tail (IsConstraint (length vars)) c cs h) (All-tail IsStoredConstraint c cs s),
      )
