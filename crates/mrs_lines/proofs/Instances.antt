-- The names of a grammar's instances.
use Rattle.std.proofs.Common.{ℕ, zero, suc, ◌≡◌, ◌+◌, ◌<◌, ◌||◌, Bool, true, false, cond, List, [], ◌∷◌, ◌++◌, length, length-append, map, take, filter, slice_get, Option, Some, Ok, append_assoc, refl, sym, ◌∙◌, ap, subst, arith}
use Rattle.std.specs.Prelude.{All, nat_lt, option_map}
use Rattle.std.specs.List.{AllZip}
use Rattle.std.specs.Str.{bytes_eq}
use Rattle.std.proofs.lemmas.Bool.{and_parts, true≢false, ltb-true, ltb-false}
use Rattle.std.proofs.lemmas.List.{map-append}
use Rattle.std.proofs.lemmas.List.Elements.{All-nil, All-cons, filter-append}
use Rattle.std.proofs.lemmas.List.Folds.{list_any-append}
use Rattle.std.proofs.lemmas.Option.{none-some, same_Some, slice_get-map}
use Rattle.tdl_reader.specs.declared.Status.{Status}
use Rattle.tdl_reader.specs.declared.Status.TheVariants.{TypeDef, Entry, LexRule, Rule, Root, Other}
use Rattle.grammar_files.specs.Names.{has_name}
use Rattle.grammar_files.specs.Placings.{PlacedTree}
use Rattle.grammar_files.specs.Statements.{is_status, is_define, is_of_instances, is_heeded, defines_instance, name_of, instances_in, statement_at}
use Rattle.type_hierarchy.specs.Decls.{Name}
use Rattle.type_hierarchy.proofs.NameLemmas.{bytes_eq-refl}
use Rattle.constraint_expand.specs.Books.{InstanceMap}
use Rattle.grammar_types.specs.Typings.{defines_under, definitions_under, names_under, HasNoRepeat}
use Rattle.book_shapes.specs.Shapes.{instances_of}
use Rattle.grammar_files.specs.Walks.{Files}
use Rattle.grammar_files.specs.Reads.{ReadTree}
use Rattle.grammar_load.specs.Loaded.{GrammarTree, IsGrammarOf}
use Rattle.grammar_load.specs.Loads.{Loads, loads, Makes, makes}
use Rattle.mrs_lines.specs.Fitting.{IsInstanceName, AreNamedApart}
use Rattle.mrs_lines.proofs.Names.{unmarked}
use Rattle.mrs_lines.proofs.Types.{defined_named}
use Rattle.mrs_lines.proofs.Walked.{AllPlaced, WalkedNamed, read_named}

-- The name of each instance is one.
instances_named : (ps : List PlacedTree) → AllPlaced ps → All IsInstanceName (map name_of (filter defines_instance ps))
instances_named [] h = All-nil IsInstanceName
instances_named (p ∷ ps) h = go (defines_instance p) refl (instances_named ps h.1)
  where
    go : (b : Bool) → defines_instance p ≡ b → All IsInstanceName (map name_of (filter defines_instance ps)) → All IsInstanceName (map name_of (cond b (p ∷ filter defines_instance ps) (filter defines_instance ps)))
    go true e more = All-cons IsInstanceName (name_of p) (map name_of (filter defines_instance ps)) (unmarked (name_of p) (defined_named p.statement h.0 (and_parts (is_define p.statement) (is_of_instances p.status) e).0)) more
    go false e more = more

-- An instance is a definition under its status, which is heeded.
same_status : (s : Status) → is_status s s ≡ true
same_status TypeDef = refl
same_status Entry = refl
same_status LexRule = refl
same_status Rule = refl
same_status Root = refl
same_status Other = refl

heeded : (s : Status) → is_of_instances s ≡ true → is_heeded s ≡ true
heeded TypeDef e = refl
heeded Entry e = refl
heeded LexRule e = refl
heeded Rule e = refl
heeded Root e = refl
heeded Other e = absurd (true≢false (sym e))

under_own : (p : PlacedTree) → defines_instance p ≡ true → defines_under p.status p ≡ true
under_own p e = rw ((and_parts (is_define p.statement) (is_of_instances p.status) e).0, same_status p.status) refl

-- a definition under a status that stands before, with a name
abbrev Stands : Status → Name → List PlacedTree → Type 0
Stands s n front = has_name (names_under s front) n ≡ true

names_more : (s : Status) (n : Name) (front : List PlacedTree) (p : PlacedTree) →
    has_name (names_under s (front ++ p ∷ [])) n ≡ (has_name (names_under s front) n || has_name (names_under s (p ∷ [])) n)
names_more s n front p =
    ap (λ ds. has_name (map name_of ds) n) (filter-append (defines_under s) front (p ∷ []))
    ∙ ap (λ ns. has_name ns n) (map-append name_of (definitions_under s front) (definitions_under s (p ∷ [])))
    ∙ list_any-append (bytes_eq n) (names_under s front) (names_under s (p ∷ []))

stands_more : (s : Status) (n : Name) (front : List PlacedTree) (p : PlacedTree) → Stands s n front → Stands s n (front ++ p ∷ [])
stands_more s n front p h = names_more s n front p ∙ ap (λ b. b || has_name (names_under s (p ∷ [])) n) h

or_true : (a b : Bool) → b ≡ true → (a || b) ≡ true
or_true true b e = refl
or_true false b e = e

stands_last : (front : List PlacedTree) (p : PlacedTree) → defines_instance p ≡ true → Stands p.status (name_of p) (front ++ p ∷ [])
stands_last front p e = names_more p.status (name_of p) front p ∙ or_true (has_name (names_under p.status front) (name_of p)) _ (last (defines_under p.status p) (under_own p e))
  where
    last : (b : Bool) → b ≡ true → has_name (map name_of (cond b (p ∷ []) [])) (name_of p) ≡ true
    last true f = rw (bytes_eq-refl (name_of p)) refl
    last false f = absurd (true≢false (sym f))

take_front : (front rest : List PlacedTree) → take (length front) (front ++ rest) ≡ front
take_front [] rest = refl
take_front (p ∷ front) rest = ap (λ l. p ∷ l) (take_front front rest)

at_front : (front : List PlacedTree) (p : PlacedTree) (rest : List PlacedTree) → statement_at (front ++ p ∷ rest) (length front) ≡ p
at_front [] p rest = refl
at_front (q ∷ front) p rest = at_front front p rest

-- what stands twice is a repeat
stands_once : (front : List PlacedTree) (p : PlacedTree) (rest : List PlacedTree) → HasNoRepeat (front ++ p ∷ rest) → defines_instance p ≡ true → Stands p.status (name_of p) front → ⊥
stands_once front p rest none e h =
    let here = at_front front p rest in
    let within : length front < length (front ++ p ∷ rest) = omega (arith, length-append front (p ∷ rest)) in
    let under : defines_under p.status (statement_at (front ++ p ∷ rest) (length front)) ≡ true = ap (defines_under p.status) here ∙ under_own p e in
    let before : has_name (names_under p.status (take (length front) (front ++ p ∷ rest))) (name_of (statement_at (front ++ p ∷ rest) (length front))) ≡ true
    = (λ i. has_name (names_under p.status (take_front front (p ∷ rest) i)) (name_of (here i))) ∙ h in
    none (length front) (p.status, heeded p.status (and_parts (is_define p.statement) (is_of_instances p.status) e).1, (within, under, before))

-- the front goes on
onwards : (front : List PlacedTree) (p : PlacedTree) (rest : List PlacedTree) → HasNoRepeat (front ++ p ∷ rest) → HasNoRepeat ((front ++ p ∷ []) ++ rest)
onwards front p rest none = subst HasNoRepeat (sym (append_assoc front (p ∷ []) rest)) none

-- no instance among the rest has the status and the name of one before
none_later : (rest front : List PlacedTree) → HasNoRepeat (front ++ rest) → (j : ℕ) (q : PlacedTree) → slice_get (filter defines_instance rest) j ≡ Some q → Stands q.status (name_of q) front → ⊥
none_later [] front none j q e h = none-some q e
none_later (p ∷ rest) front none j q e h =
    go (defines_instance p) refl j e (λ k f. none_later rest (front ++ p ∷ []) (onwards front p rest none) k q f (stands_more q.status (name_of q) front p h))
  where
    go : (b : Bool) → defines_instance p ≡ b → (j : ℕ) → slice_get (cond b (p ∷ filter defines_instance rest) (filter defines_instance rest)) j ≡ Some q
        → ((k : ℕ) → slice_get (filter defines_instance rest) k ≡ Some q → ⊥) → ⊥
    go true d zero f later = let same : p ≡ q = same_Some p q f in stands_once front p rest none d (subst (λ (x : PlacedTree). Stands x.status (name_of x) front) (sym same) h)
    go true d (suc j) f later = later j f
    go false d j f later = later j f

-- one and a later one
not_before : (rest front : List PlacedTree) → HasNoRepeat (front ++ rest) → (i j : ℕ) (p q : PlacedTree) → i < j → slice_get (filter defines_instance rest) i ≡ Some p → slice_get (filter defines_instance rest) j ≡ Some q →
    p.status ≡ q.status → name_of p ≡ name_of q → ⊥
not_before [] front none i j p q l e f s n = none-some p e
not_before (x ∷ rest) front none i j p q l e f s n =
    go (defines_instance x) refl i j l e f (λ a b l e f. not_before rest (front ++ x ∷ []) (onwards front x rest none) a b p q l e f s n)
  where
    first : defines_instance x ≡ true → x ≡ p → (j : ℕ) → slice_get (filter defines_instance rest) j ≡ Some q → ⊥
    first d same j f =
        let own : Stands p.status (name_of p) (front ++ x ∷ []) = subst (λ (y : PlacedTree). Stands y.status (name_of y) (front ++ x ∷ [])) same (stands_last front x d) in
        none_later rest (front ++ x ∷ []) (onwards front x rest none) j q f ((λ k. has_name (names_under (sym s k) (front ++ x ∷ [])) (sym n k)) ∙ own)

    go : (b : Bool) → defines_instance x ≡ b → (i j : ℕ) → i < j → slice_get (cond b (x ∷ filter defines_instance rest) (filter defines_instance rest)) i ≡ Some p
        → slice_get (cond b (x ∷ filter defines_instance rest) (filter defines_instance rest)) j ≡ Some q
        → ((a b : ℕ) → a < b → slice_get (filter defines_instance rest) a ≡ Some p → slice_get (filter defines_instance rest) b ≡ Some q → ⊥) → ⊥
    go true d i zero l e f later = omega (arith, l)
    go true d zero (suc j) l e f later = first d (same_Some x p e) j f
    go true d (suc i) (suc j) l e f later = later i j (omega (arith, l)) e f
    go false d i j l e f later = later i j l e f

-- the statement of the instance at a place
pub record IsPlacedAt {A B : Type 0} (R : A → B → Type 0) (xs : List A) (i : ℕ) (y : B) : Type 0 where
  pub element : A
  pub at : slice_get xs i ≡ Some element
  pub holds : R element y

pub placed_at : {A B : Type 0} (R : A → B → Type 0) (xs : List A) (ys : List B) → AllZip R xs ys → (i : ℕ) (y : B) → slice_get ys i ≡ Some y → IsPlacedAt R xs i y
placed_at R [] [] h i y e = absurd (none-some y e)
placed_at R [] (z ∷ ys) h i y e = absurd h
placed_at R (x ∷ xs) [] h i y e = absurd h
placed_at R (x ∷ xs) (z ∷ ys) h zero y e = record { element = x; at = refl; holds = subst (R x) (same_Some z y e) h.0 }
placed_at R (x ∷ xs) (z ∷ ys) h (suc i) y e = let p = placed_at R xs ys h.1 i y e in record { element = p.element; at = p.at; holds = p.holds }

name_at_place : (ps : List PlacedTree) (i : ℕ) (p : PlacedTree) → slice_get ps i ≡ Some p → slice_get (map name_of ps) i ≡ Some (name_of p)
name_at_place ps i p e = slice_get-map name_of ps i ∙ ap (option_map name_of) e

-- Statements whose names are given once, and instances of theirs.
module _ (ps : List PlacedTree) (is : List InstanceMap) (R : PlacedTree → InstanceMap → Type 0) (none : HasNoRepeat ps) (zipped : AllZip R (instances_in ps) is)
    (statuses : (p : PlacedTree) (i : InstanceMap) → R p i → i.status ≡ p.status) where
  apart : AreNamedApart is (map name_of (instances_in ps))
  apart i j x y a b s n = go (nat_lt i j) (nat_lt j i) refl refl
    where
      one : IsPlacedAt R (instances_in ps) i x
      one = placed_at R (instances_in ps) is zipped i x a

      other : IsPlacedAt R (instances_in ps) j y
      other = placed_at R (instances_in ps) is zipped j y b

      statuses_same : one.element.status ≡ other.element.status
      statuses_same = sym (statuses one.element x one.holds) ∙ s ∙ statuses other.element y other.holds

      names_same : name_of one.element ≡ name_of other.element
      names_same = same_Some (name_of one.element) (name_of other.element) (sym (name_at_place (instances_in ps) i one.element one.at) ∙ n ∙ name_at_place (instances_in ps) j other.element other.at)

      go : (c d : Bool) → nat_lt i j ≡ c → nat_lt j i ≡ d → i ≡ j
      go true d e f = absurd (not_before ps [] none i j one.element other.element (ltb-true i j e) one.at other.at statuses_same names_same)
      go false true e f = absurd (not_before ps [] none j i other.element one.element (ltb-true j i f) other.at one.at (sym statuses_same) (sym names_same))
      go false false e f = let u = ltb-false i j e in let v = ltb-false j i f in omega (arith, u, v)

module _ (r : ReadTree) (g : GrammarTree) (walked : WalkedNamed r.walked) (of : IsGrammarOf r g) where
  plain_of_grammar : All IsInstanceName g.names
  plain_of_grammar = subst (All IsInstanceName) (sym of.names) (instances_named r.walked.statements walked.statements)

  apart_of_grammar : AreNamedApart (instances_of g.book) g.names
  apart_of_grammar = subst (AreNamedApart (instances_of g.book)) (sym of.names)
      (apart r.walked.statements (instances_of g.book) _ of.book.settled.1.no_repeat of.book.expanded.instances (λ p i h. h.status))

made : (r : ReadTree) (g : GrammarTree) → Makes r (Ok g) → IsGrammarOf r g
made r _ (makes g is) = is

module _ (files : Files) (fails : Name → Bool) (top : Name) (settings : Option Name) where
  pub loaded_names_are : (g : GrammarTree) → Loads files fails top settings (Ok g) → All IsInstanceName g.names
  loaded_names_are g (loads r _ read m) = plain_of_grammar r g (read_named files fails top settings r read) (made r g m)

  pub loaded_apart : (g : GrammarTree) → Loads files fails top settings (Ok g) → AreNamedApart (instances_of g.book) g.names
  loaded_apart g (loads r _ read m) = apart_of_grammar r g (read_named files fails top settings r read) (made r g m)
