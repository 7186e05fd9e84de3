-- The types of what was walked are one table, or one fault.
use Rattle.std.proofs.Common.{ℕ, ◌≡◌, ◌≤◌, ◌<◌, ◌^◌, ◌-◌, ◌⊎◌, inl, inr, Bool, true, false, List, [], length, min, slice_get, slice_index_or, Option, Some, String, refl, sym, ◌∙◌, ap, subst, arith}
use Rattle.std.specs.Global.{Global}
use Rattle.std.specs.List.{find}
use Rattle.std.specs.Str.{bytes_eq}
use Rattle.std.specs.String.{string_bytes}
use Rattle.std.proofs.lemmas.Bool.{cases_lt}
use Rattle.std.proofs.lemmas.Option.{same_Some}
use Rattle.grammar_files.specs.Placings.{PlacedTree}
use Rattle.type_hierarchy.specs.declared.decl.TypeFault.{TypeFault}
use Rattle.type_hierarchy.specs.declared.decl.TypeFault.TheVariants.{Duplicate, Unknown, Cycle, Reserved, TooMany, NoMemory}
use Rattle.type_hierarchy.specs.Decls.{Declared, at_place}
use Rattle.type_hierarchy.specs.Faults.{IsFirst, IsUnknown, NamesFirst, NamesFirstUnknown, IsFaultOf, IsFaultless, most_types}
use Rattle.type_hierarchy.specs.Table.{TypeTable}
use Rattle.glb_completion.specs.Completion.{IsCompletionOf, HasTooMany}
use Rattle.grammar_files.specs.declared.fault.Why.TheVariants.{Typing}
use Rattle.grammar_files.specs.Faults.{FoundFault}
use Rattle.grammar_settings.specs.Forms.{Name}
use Rattle.grammar_files.specs.Environments.{place_of}
use Rattle.grammar_types.specs.Typings.{statement_at, name_written, decls_in, strings_in, type_definitions, file_name, fault_of, IsRepeat, IsNamed, StandsAt, IsWritten, AreTypesOf, IsTypesFault, repeats, unsettled, too_many, IsSameTypeFault, IsSameFault}
use Rattle.grammar_files.specs.Walks.{WalkedTree}
use Rattle.grammar_types.proofs.SettleTables.{one_hierarchy, one_completion, not_too_many}

pub one_first : (P : ℕ → Type 0) (k j : ℕ) → IsFirst P k → IsFirst P j → k ≡ j
one_first P k j a b = go (cases_lt k j) (cases_lt j k)
  where
    go : (k < j) ⊎ (j ≤ k) → (j < k) ⊎ (k ≤ j) → k ≡ j
    go (inl l) m = absurd (b.1 k l a.0)
    go (inr l) (inl m) = absurd (a.1 j m b.0)
    go (inr l) (inr m) = omega arith

first_name : (ds : List Declared) (P : ℕ → Type 0) (a b : Name) → NamesFirst ds P a → NamesFirst ds P b → a ≡ b
first_name ds P a b x y = x.2 ∙ ap (λ k. (at_place ds k).name) (one_first P x.0 y.0 x.1 y.1) ∙ sym y.2

unknown_place : (top text : Name) (ds : List Declared) (a p b q : Name) → (x : NamesFirstUnknown top text ds a p) → (y : NamesFirstUnknown top text ds b q) → x.place ≡ y.place
unknown_place top text ds a p b q x y = go (cases_lt x.place y.place) (cases_lt y.place x.place)
  where
    go : (x.place < y.place) ⊎ (y.place ≤ x.place) → (y.place < x.place) ⊎ (x.place ≤ y.place) → x.place ≡ y.place
    go (inl l) m = absurd (y.none_before x.place x.parent_place l x.is_unknown)
    go (inr l) (inl m) = absurd (x.none_before y.place y.parent_place m y.is_unknown)
    go (inr l) (inr m) = omega arith

unknown_parent : (top text : Name) (ds : List Declared) (a p b q : Name) → (x : NamesFirstUnknown top text ds a p) → (y : NamesFirstUnknown top text ds b q) → x.parent_place ≡ y.parent_place
unknown_parent top text ds a p b q x y = go (cases_lt x.parent_place y.parent_place) (cases_lt y.parent_place x.parent_place)
  where
    same : x.place ≡ y.place
    same = unknown_place top text ds a p b q x y

    go : (x.parent_place < y.parent_place) ⊎ (y.parent_place ≤ x.parent_place) → (y.parent_place < x.parent_place) ⊎ (x.parent_place ≤ y.parent_place) → x.parent_place ≡ y.parent_place
    go (inl l) m = absurd (y.first_parent x.parent_place l (subst (λ k. IsUnknown top text ds k x.parent_place) same x.is_unknown))
    go (inr l) (inl m) = absurd (x.first_parent y.parent_place m (subst (λ k. IsUnknown top text ds k y.parent_place) (sym same) y.is_unknown))
    go (inr l) (inr m) = omega arith

unknown_names : (top text : Name) (ds : List Declared) (a p b q : Name) → NamesFirstUnknown top text ds a p → NamesFirstUnknown top text ds b q → (a ≡ b) × (p ≡ q)
unknown_names top text ds a p b q x y =
    let k = unknown_place top text ds a p b q x y in
    let i = unknown_parent top text ds a p b q x y in (
      x.name_is ∙ ap (λ n. (at_place ds n).name) k ∙ sym y.name_is,
      x.parent_is ∙ ap (λ n. slice_index_or (at_place ds n).parents x.parent_place []) k ∙ ap (λ n. slice_index_or (at_place ds y.place).parents n []) i ∙ sym y.parent_is,
    )

has_unknown : (top text : Name) (ds : List Declared) (a p : Name) (A : Type 0) → NamesFirstUnknown top text ds a p → ((k i : ℕ) → IsUnknown top text ds k i → ⊥) → A
has_unknown top text ds a p A x none = absurd (none x.place x.parent_place x.is_unknown)

has_first : (ds : List Declared) (P : ℕ → Type 0) (a : Name) (A : Type 0) → NamesFirst ds P a → ((k : ℕ) → P k → ⊥) → A
has_first ds P a A x none = absurd (none x.0 x.1.0)

named_once : (ds : List PlacedTree) (a b : Name) (p q : PlacedTree) → a ≡ b → IsNamed ds a p → IsNamed ds b q → p ≡ q
named_once ds a b p q e x y = same_Some p q (sym x ∙ ap (λ n. find (λ d. bytes_eq n (name_written d.statement)) ds) e ∙ y)

-- declarations have one fault, and it stands at one definition
one_type_fault : (top text : Name) (ds : List Declared) (ps : List PlacedTree) (f g : TypeFault) (p q : PlacedTree) → IsFaultOf top text ds f → IsFaultOf top text ds g →
    StandsAt ps f p → StandsAt ps g q → (p ≡ q) × IsSameTypeFault f g
one_type_fault top text ds ps (Duplicate a) g p q x y s t = absurd s
one_type_fault top text ds ps NoMemory g p q x y s t = absurd s
one_type_fault top text ds ps (Unknown a m) (Duplicate b) p q x y s t = absurd t
one_type_fault top text ds ps (Unknown a m) (Unknown b n) p q x y s t =
    let e = unknown_names top text ds (string_bytes a) (string_bytes m) (string_bytes b) (string_bytes n) x.1 y.1 in
    (named_once ps (string_bytes a) (string_bytes b) p q e.0 s t, e)
one_type_fault top text ds ps (Unknown a m) (Cycle b) p q x y s t = has_unknown top text ds _ _ _ x.1 y.1
one_type_fault top text ds ps (Unknown a m) (Reserved b) p q x y s t = has_unknown top text ds _ _ _ x.1 y.1
one_type_fault top text ds ps (Unknown a m) (TooMany n) p q x y s t = has_unknown top text ds _ _ _ x.1 y.1
one_type_fault top text ds ps (Unknown a m) NoMemory p q x y s t = absurd t
one_type_fault top text ds ps (Cycle a) (Duplicate b) p q x y s t = absurd t
one_type_fault top text ds ps (Cycle a) (Unknown b n) p q x y s t = has_unknown top text ds _ _ _ y.1 x.1
one_type_fault top text ds ps (Cycle a) (Cycle b) p q x y s t =
    let e = first_name ds _ (string_bytes a) (string_bytes b) x.2 y.2 in (named_once ps (string_bytes a) (string_bytes b) p q e s t, e)
one_type_fault top text ds ps (Cycle a) (Reserved b) p q x y s t = has_first ds _ _ _ x.2 y.2
one_type_fault top text ds ps (Cycle a) (TooMany n) p q x y s t = has_first ds _ _ _ x.2 y.2
one_type_fault top text ds ps (Cycle a) NoMemory p q x y s t = absurd t
one_type_fault top text ds ps (Reserved a) (Duplicate b) p q x y s t = absurd t
one_type_fault top text ds ps (Reserved a) (Unknown b n) p q x y s t = has_unknown top text ds _ _ _ y.1 x.1
one_type_fault top text ds ps (Reserved a) (Cycle b) p q x y s t = has_first ds _ _ _ y.2 x.2
one_type_fault top text ds ps (Reserved a) (Reserved b) p q x y s t =
    let e = first_name ds _ (string_bytes a) (string_bytes b) x.3 y.3 in (named_once ps (string_bytes a) (string_bytes b) p q e s t, e)
one_type_fault top text ds ps (Reserved a) (TooMany n) p q x y s t = has_first ds _ _ _ x.3 y.3
one_type_fault top text ds ps (Reserved a) NoMemory p q x y s t = absurd t
one_type_fault top text ds ps (TooMany m) (Duplicate b) p q x y s t = absurd t
one_type_fault top text ds ps (TooMany m) (Unknown b n) p q x y s t = has_unknown top text ds _ _ _ y.1 x.1
one_type_fault top text ds ps (TooMany m) (Cycle b) p q x y s t = has_first ds _ _ _ y.2 x.2
one_type_fault top text ds ps (TooMany m) (Reserved b) p q x y s t = has_first ds _ _ _ y.3 x.3
one_type_fault top text ds ps (TooMany m) (TooMany n) p q x y s t = (same_Some p q (sym s ∙ t), x.5 ∙ sym y.5)
one_type_fault top text ds ps (TooMany m) NoMemory p q x y s t = absurd t

-- declarations with a fault aren't without one
not_faultless : (top text : Name) (ds : List Declared) (ps : List PlacedTree) (f : TypeFault) (p : PlacedTree) → IsFaultOf top text ds f → StandsAt ps f p → IsFaultless top text ds → ⊥
not_faultless top text ds ps (Duplicate a) p x s l = s
not_faultless top text ds ps (Unknown a m) p x s l = has_unknown top text ds _ _ ⊥ x.1 l.no_unknown
not_faultless top text ds ps (Cycle a) p x s l = has_first ds _ _ ⊥ x.2 l.no_cycle
not_faultless top text ds ps (Reserved a) p x s l = has_first ds _ _ ⊥ x.3 l.no_reserved
not_faultless top text ds ps (TooMany m) p x s l = absurd (omega (arith, x.4, l.few))
not_faultless top text ds ps NoMemory p x s l = s

same_place : (w : WalkedTree) (p q : PlacedTree) (a b : TypeFault) → p ≡ q → IsSameTypeFault a b → IsSameFault (fault_of w p (Typing a)) (fault_of w q (Typing b))
same_place w p q a b e s = (ap (λ r. file_name w r.file) e, ap (λ r. place_of r.statement) e, s)

pub one_fault : (w : WalkedTree) (f g : FoundFault) → IsTypesFault w f → IsTypesFault w g → IsSameFault f g
one_fault w f g (repeats k a x e) (repeats j b y d) =
    let same : k ≡ j = one_first (IsRepeat w.statements) k j x y in
    same_place w (statement_at w.statements k) (statement_at w.statements j) (Duplicate a) (Duplicate b) (ap (statement_at w.statements) same)
    (e ∙ ap (λ n. name_written (statement_at w.statements n).statement) same ∙ sym d)
one_fault w f g (repeats k a x e) (unsettled fault p once is stands) = absurd (once k x.0)
one_fault w f g (repeats k a x e) (too_many h is many) = absurd (is.no_repeat k x.0)
one_fault w f g (unsettled fault p once is stands) (repeats k a x e) = absurd (once k x.0)
one_fault w f g (unsettled fault p once is stands) (unsettled other q again are at) =
    let e = one_type_fault w.settings.top_type w.settings.string_type (decls_in w.statements) (type_definitions w.statements) fault other p q is are stands at in
    same_place w p q fault other e.0 e.1
one_fault w f g (unsettled fault p once is stands) (too_many h are many) =
    absurd (not_faultless w.settings.top_type w.settings.string_type (decls_in w.statements) (type_definitions w.statements) fault p is stands are.faultless)
one_fault w f g (too_many h is many) (repeats k a x e) = absurd (is.no_repeat k x.0)
one_fault w f g (too_many h are many) (unsettled fault p once is stands) =
    absurd (not_faultless w.settings.top_type w.settings.string_type (decls_in w.statements) (type_definitions w.statements) fault p is stands are.faultless)
one_fault w f g (too_many h is many) (too_many h' are more) = (refl, refl, refl)

one_written : (w : WalkedTree) (h g : TypeTable) → IsWritten w h → IsWritten w g → h ≡ g
one_written w h g a b = one_hierarchy w.settings.top_type w.settings.string_type (decls_in w.statements) h g a.hierarchy b.hierarchy a.rising b.rising

pub one_table : (w : WalkedTree) (t u : TypeTable) → AreTypesOf w t → AreTypesOf w u → t ≡ u
one_table w t u a b = one_completion b.0 (strings_in w.statements) t u (subst (λ h. IsCompletionOf h (strings_in w.statements) t) (one_written w a.0 b.0 a.1 b.1) a.2) b.2

pub not_both : (w : WalkedTree) (t : TypeTable) (f : FoundFault) → AreTypesOf w t → IsTypesFault w f → ⊥
not_both w t f a (repeats k n x e) = a.1.no_repeat k x.0
not_both w t f a (unsettled fault p once is stands) =
    not_faultless w.settings.top_type w.settings.string_type (decls_in w.statements) (type_definitions w.statements) fault p is stands a.1.faultless
not_both w t f a (too_many h is many) = not_too_many a.0 (strings_in w.statements) t a.2 (subst HasTooMany (one_written w h a.0 is a.1) many)
