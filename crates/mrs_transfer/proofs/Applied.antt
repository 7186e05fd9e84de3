-- The application of a rule of the program at a site.
use Rattle.std.proofs.Common.{ℕ, ◌≡◌, ◌<◌, ◌≤◌, ◌∙◌, List, ◌++◌, length, take, sym, subst, ap, arith}
use Rattle.std.specs.Prelude.{Result, IfOk, All, Contains, MatchOption, map, string_bytes}
use Rattle.std.specs.List.{slice_get}
use Rattle.std.proofs.lemmas.List.{length-map, length-take-le, take-append-drop}
use Rattle.std.proofs.lemmas.List.Elements.{All-take}
use Rattle.std.proofs.lemmas.Result.{IfOk-weaker}
use Rattle.mrs_model.specs.declared.Ep.{Ep}
use Rattle.mrs_model.specs.declared.Mrs.{Mrs}
use Rattle.mrs_model.specs.Meanings.{Variable, Predication, Meaning}
use Rattle.mrs_model.specs.Renaming.{renamed_ep}
use Rattle.mrs_model.specs.Valid.{IsPredication, IsValid}
use Rattle.mrs_model.specs.Views.{predication_of, meaning_of}
use Rattle.transfer_model.specs.declared.Rule.{Rule as DeclaredRule}
use Rattle.transfer_model.specs.Sites.{Site, IsSite, Fits}
use Rattle.transfer_model.specs.Applying.{removed, numbers, variables_at, new_variable, replaced, rewritten, IsShaped, IsTrimmed, IsApplied}
use Rattle.transfer_model.specs.Views.{element_of, rule_of, IsHeld}
use Rattle.mrs_transfer.proofs.Zips.{zip_length}
use Rattle.mrs_transfer.proofs.Shaped.{places_there, variables_length, shaped}
use Rattle.mrs_transfer.proofs.Rewritten.{with_parts, rewritten_is}

module _ (m : Meaning) (rule : DeclaredRule) (s : Site) (valid : IsValid m) (held : IsHeld rule) (site : IsSite m (rule_of rule) s) where
  pub inputs_length : length (rule_of rule).input ≡ rule.inputs
  inputs_length =
      let n : length (map element_of rule.elements.items) ≡ length rule.elements.items = length-map rule.elements.items element_of in
      length-take-le rule.inputs (map element_of rule.elements.items) (omega (arith, n, held.inputs))

  pub inputs_there : rule.inputs ≤ length s.places
  inputs_there =
      let n : length (map element_of rule.elements.items) ≡ length rule.elements.items = length-map rule.elements.items element_of in
      let k : length ((rule_of rule).input ++ (rule_of rule).context) ≡ length s.places = zip_length (λ x p. MatchOption (slice_get m.eps p) ⊥ (Fits s.vars x)) ((rule_of rule).input ++ (rule_of rule).context) s.places site.elements in
      let e : length ((rule_of rule).input ++ (rule_of rule).context) ≡ length (map element_of rule.elements.items) = ap length (take-append-drop rule.inputs (map element_of rule.elements.items)) in
      omega (arith, n, k, e, held.inputs)

  pub gone_is : take rule.inputs s.places ≡ removed (rule_of rule) s
  gone_is = ap (λ (n : ℕ). take n s.places) (sym inputs_length)

  pub gone_some : 0 < length (take rule.inputs s.places)
  gone_some = omega (arith, length-take-le rule.inputs s.places inputs_there, held.rule.some, inputs_length)

  pub gone_there : All (λ p. p < length m.eps) (take rule.inputs s.places)
  gone_there = All-take (λ p. p < length m.eps) rule.inputs s.places (places_there m s.vars ((rule_of rule).input ++ (rule_of rule).context) s.places site.elements)

  pub corefs_are : (old vars : List ℕ) (n count : ℕ) → old ≡ s.vars → n ≡ length m.vars → count ≡ length rule.output_letters.items → vars ≡ old ++ numbers n count → vars ≡ variables_at m (rule_of rule) s
  corefs_are old vars n count o q k e =
      e ∙ (ap (λ (zs : List ℕ). zs ++ numbers n count) o ∙ (ap (λ (z : ℕ). s.vars ++ numbers z count) q ∙ ap (λ (z : ℕ). s.vars ++ numbers (length m.vars) z) (k ∙ sym (length-map rule.output_letters.items string_bytes))))

  output_fits : (vars : List ℕ) → vars ≡ variables_at m (rule_of rule) s → All (IsPredication (length vars)) (map predication_of rule.output.items)
  output_fits vars e = subst (λ (n : ℕ). All (IsPredication n) (map predication_of rule.output.items)) (sym (ap length e ∙ variables_length m (rule_of rule) s 0 valid held.rule site)) held.rule.output

  pub output_fits_at : (vars seen : List ℕ) (output : List Ep) → vars ≡ variables_at m (rule_of rule) s → seen ≡ vars → output ≡ rule.output.items → All (IsPredication (length seen)) (map predication_of output)
  output_fits_at vars seen output e w o =
      subst (λ (es : List Ep). All (IsPredication (length seen)) (map predication_of es)) (sym o)
      (subst (λ (ns : List ℕ). All (IsPredication (length ns)) (map predication_of rule.output.items)) (sym w) (output_fits vars e))

  pub eps_are : (places vars seen : List ℕ) (output : List Ep) (es : List Predication) (first : ℕ) → places ≡ s.places → seen ≡ vars → output ≡ rule.output.items
      → es ≡ replaced (take rule.inputs places) first (map (renamed_ep seen) (map predication_of output)) m.eps → es ≡ replaced (take rule.inputs s.places) first (map (renamed_ep vars) (rule_of rule).output) m.eps
  eps_are places vars seen output es first p w o e =
      e
      ∙ (ap (λ (ps : List ℕ). replaced (take rule.inputs ps) first (map (renamed_ep seen) (map predication_of output)) m.eps) p
      ∙ (ap (λ (ns : List ℕ). replaced (take rule.inputs s.places) first (map (renamed_ep ns) (map predication_of output)) m.eps) w
      ∙ ap (λ (xs : List Ep). replaced (take rule.inputs s.places) first (map (renamed_ep vars) (map predication_of xs)) m.eps) o))

  module _ (first : ℕ) (vs : List Variable) (es : List Predication) (vars : List ℕ) (variables : vs ≡ m.vars ++ map new_variable (rule_of rule).output_letters) (corefs : vars ≡ variables_at m (rule_of rule) s)
      (eps : es ≡ replaced (take rule.inputs s.places) first (map (renamed_ep vars) (rule_of rule).output) m.eps) where
    is_rewritten : with_parts m vs es ≡ rewritten m (rule_of rule) s first
    is_rewritten = rewritten_is m (rule_of rule) s first vs es (take rule.inputs s.places) vars variables gone_is corefs eps

    pub parts_shaped : IsShaped (with_parts m vs es)
    parts_shaped = subst IsShaped (sym is_rewritten) (shaped m (rule_of rule) s first valid held.rule site)

    one_applied : (next : Meaning) (kept : List ℕ) → Contains (take rule.inputs s.places) first → All (λ p. first ≤ p) (take rule.inputs s.places) → IsTrimmed (with_parts m vs es) next kept → IsApplied m (rule_of rule) s next
    one_applied next kept among least trimmed = record {
      first = first;
      is_removed = subst (λ (ps : List ℕ). Contains ps first) gone_is among;
      comes_first = subst (λ (ps : List ℕ). All (λ p. first ≤ p) ps) gone_is least;
      kept = kept;
      trimmed = subst (λ (a : Meaning). IsTrimmed a next kept) is_rewritten trimmed;
    }

    pub parts_applied : {E : Type 0} (r : Result Mrs E) → Contains (take rule.inputs s.places) first → All (λ p. first ≤ p) (take rule.inputs s.places)
        → IfOk r (λ next. (kept : List ℕ) × IsTrimmed (with_parts m vs es) (meaning_of next) kept) → IfOk r (λ next. IsApplied m (rule_of rule) s (meaning_of next))
    parts_applied r among least h =
        IfOk-weaker r (λ next. (kept : List ℕ) × IsTrimmed (with_parts m vs es) (meaning_of next) kept) (λ next. IsApplied m (rule_of rule) s (meaning_of next)) (λ next t. one_applied (meaning_of next) t.0 among least t.1) h
