-- A fault of the types that are defined stands at one of their definitions.
use Rattle.std.proofs.Common.{ℕ, zero, suc, ◌≡◌, ◌<◌, ◌⊎◌, inl, inr, Bool, true, false, cond, List, [], ◌∷◌, length, map, filter, take, get_or, Option, Some, refl, sym, ◌∙◌, ap, arith}
use Rattle.std.specs.List.{find, list_any}
use Rattle.std.specs.Str.{bytes_eq}
use Rattle.std.specs.String.{string_bytes}
use Rattle.std.proofs.lemmas.List.{get_or-map, length-map, take-map}
use Rattle.std.proofs.lemmas.Option.{slice_get-get_or}
use Rattle.tdl_reader.specs.declared.Status.TheVariants.{TypeDef}
use Rattle.grammar_files.specs.Placings.{PlacedTree}
use Rattle.grammar_files.specs.Statements.{defines_type}
use Rattle.type_hierarchy.specs.declared.decl.TypeFault.{TypeFault}
use Rattle.type_hierarchy.specs.declared.decl.TypeFault.TheVariants.{Duplicate, Unknown, Cycle, Reserved, TooMany, NoMemory}
use Rattle.type_hierarchy.specs.Decls.{bare, at_place}
use Rattle.type_hierarchy.specs.Faults.{IsDuplicate, NamesFirst, IsFaultOf, most_types}
use Rattle.type_hierarchy.proofs.ListLemmas.{list_any-map}
use Rattle.grammar_settings.specs.Forms.{Name}
use Rattle.grammar_types.specs.Typings.{no_statement, statement_at, name_written, defines_under, names_under, type_definitions, has_name, declared_in, decls_in, IsNamed, StandsAt, HasNoRepeat}
use Rattle.grammar_types.proofs.SettleLists.{bools, bytes_eq-refl}

-- where one passes a test, a search finds one
found_at : {X : Type 0} (q : X → Bool) (xs : List X) (k : ℕ) (d : X) → k < length xs → q (get_or xs k d) ≡ true → (x : X) × (find q xs ≡ Some x)
found_at q [] k d h e = absurd (omega arith)
found_at q (x ∷ xs) zero d h e = (x, ap (λ b. cond b (Some x) (find q xs)) e)
found_at {X = X} q (x ∷ xs) (suc k) d h e = go (bools (q x)) (found_at q xs k d (omega (arith, h)) e)
  where
    go : (q x ≡ true) ⊎ (q x ≡ false) → (y : X) × (find q xs ≡ Some y) → (y : X) × (find q (x ∷ xs) ≡ Some y)
    go (inl t) r = (x, ap (λ b. cond b (Some x) (find q xs)) t)
    go (inr f) r = (r.0, ap (λ b. cond b (Some x) (find q xs)) f ∙ r.1)

-- the place among all of the one at a place among those that pass a test
pub record Stands {X : Type 0} (f : X → Bool) (xs kept : List X) (k : ℕ) (d : X) : Type 0 where
  pub place : ℕ
  pub inside : place < length xs
  pub passes : f (get_or xs place d) ≡ true
  pub same : get_or kept k d ≡ get_or xs place d
  pub before : take k kept ≡ filter f (take place xs)

pub stands_at : {X : Type 0} (f : X → Bool) (xs : List X) (k : ℕ) (d : X) → k < length (filter f xs) → Stands f xs (filter f xs) k d
stands_at f [] k d h = absurd (omega arith)
stands_at {X = X} f (x ∷ xs) k d h = go k (f x) refl (λ j g. stands_at f xs j d g) h
  where
    go : (k : ℕ) (b : Bool) → f x ≡ b → ((j : ℕ) → j < length (filter f xs) → Stands f xs (filter f xs) j d) → k < length (cond b (x ∷ filter f xs) (filter f xs))
        → Stands f (x ∷ xs) (cond b (x ∷ filter f xs) (filter f xs)) k d
    go zero true e later h = record { place = 0; inside = omega arith; passes = e; same = refl; before = refl }
    go (suc k) true e later h =
        let r = later k (omega (arith, h)) in
        record {
          place = suc r.place;
          inside = omega (arith, r.inside);
          passes = r.passes;
          same = r.same;
          before = ap (λ l. x ∷ l) r.before ∙ sym (ap (λ b. cond b (x ∷ filter f (take r.place xs)) (filter f (take r.place xs))) e);
        }
    go k false e later h =
        let r = later k h in
        record {
          place = suc r.place;
          inside = omega (arith, r.inside);
          passes = r.passes;
          same = r.same;
          before = r.before ∙ sym (ap (λ b. cond b (x ∷ filter f (take r.place xs)) (filter f (take r.place xs))) e);
        }

-- a declaration's place among the definitions of types
pub within : (ps : List PlacedTree) (k : ℕ) → k < length (decls_in ps) → k < length (type_definitions ps)
within ps k h = omega (arith, h, length-map (type_definitions ps) (declared_in ps))

pub name_at : (ps : List PlacedTree) (k : ℕ) → k < length (decls_in ps) → (at_place (decls_in ps) k).name ≡ name_written (get_or (type_definitions ps) k no_statement).statement
name_at ps k h = ap (λ d. d.name) (get_or-map (declared_in ps) (type_definitions ps) k no_statement (bare []) (within ps k h))

-- the name of a declaration is that of a definition
named : (ps : List PlacedTree) (k : ℕ) (n : Name) → k < length (decls_in ps) → n ≡ (at_place (decls_in ps) k).name → (p : PlacedTree) × IsNamed (type_definitions ps) n p
named ps k n h e =
    found_at (λ d. bytes_eq n (name_written d.statement)) (type_definitions ps) k no_statement (within ps k h) (bytes_eq-refl n _ (e ∙ name_at ps k h))

-- a declaration that repeats a name is a definition that does
pub not_duplicate : (ps : List PlacedTree) (k : ℕ) → HasNoRepeat ps → IsDuplicate (decls_in ps) k → ⊥
not_duplicate ps k once d = once r.place (TypeDef, refl, (r.inside, r.passes, has))
  where
    r : Stands defines_type ps (type_definitions ps) k no_statement
    r = stands_at defines_type ps k no_statement (within ps k d.0)

    n : Name
    n = (at_place (decls_in ps) k).name

    named_so : Name → PlacedTree → Bool
    named_so m p = bytes_eq m (name_written p.statement)

    name_is : n ≡ name_written (statement_at ps r.place).statement
    name_is = name_at ps k d.0 ∙ ap (λ p. name_written p.statement) r.same

    earlier : list_any (named_so n) (take k (type_definitions ps)) ≡ true
    earlier =
        sym (list_any-map (λ e. bytes_eq n e.name) (declared_in ps) (take k (type_definitions ps)))
        ∙ ap (list_any (λ e. bytes_eq n e.name)) (sym (take-map (declared_in ps) k (type_definitions ps))) ∙ d.1

    has : has_name (names_under TypeDef (take r.place ps)) (name_written (statement_at ps r.place).statement) ≡ true
    has =
        ap (has_name (names_under TypeDef (take r.place ps))) (sym name_is)
        ∙ list_any-map (bytes_eq n) (λ p. name_written p.statement) (filter defines_type (take r.place ps))
        ∙ ap (list_any (named_so n)) (sym r.before) ∙ earlier

first_named : (ps : List PlacedTree) (P : ℕ → Type 0) (n : Name) → NamesFirst (decls_in ps) P n → ((k : ℕ) → P k → k < length (decls_in ps)) → (p : PlacedTree) × IsNamed (type_definitions ps) n p
first_named ps P n x inside = named ps x.0 n (inside x.0 x.1.0) x.2

pub has_place : (top text : Name) (ps : List PlacedTree) (fault : TypeFault) → HasNoRepeat ps → IsFaultOf top text (decls_in ps) fault → (fault ≡ NoMemory → ⊥)
    → (p : PlacedTree) × StandsAt (type_definitions ps) fault p
has_place top text ps (Duplicate name) once is real = absurd (not_duplicate ps is.0 once is.1.0)
has_place top text ps (Unknown name parent) once is real = named ps is.1.place (string_bytes name) is.1.is_unknown.0 is.1.name_is
has_place top text ps (Cycle name) once is real = first_named ps _ (string_bytes name) is.2 (λ k x. x.0)
has_place top text ps (Reserved name) once is real = first_named ps _ (string_bytes name) is.3 (λ k x. x.0)
has_place top text ps (TooMany count) once is real =
    (get_or (type_definitions ps) most_types no_statement, slice_get-get_or (type_definitions ps) most_types no_statement (within ps most_types is.4))
has_place top text ps NoMemory once is real = absurd (real refl)
