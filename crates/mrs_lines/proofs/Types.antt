-- The names of types that aren't strings.
use Rattle.std.proofs.Common.{ℕ, zero, suc, ◌≡◌, ◌+◌, ◌<◌, ◌≤◌, ◌^◌, Bool, true, false, cond, List, [], ◌∷◌, ◌++◌, length, map, slice_index_or, length-append, refl, sym, ◌∙◌, ap, subst, arith}
use Rattle.std.specs.Prelude.{filter, not}
use Rattle.std.specs.List.{range_with_len}
use Rattle.std.proofs.lemmas.Bool.{and_parts, true≢false}
use Rattle.std.proofs.lemmas.List.{length-map}
use Rattle.std.proofs.lemmas.List.FromFn.{length-range_with_len}
use Rattle.tdl_reader.specs.Trees.{StatementTree, defines, adds, begins, ends, includes, letters}
use Rattle.grammar_files.specs.Placings.{PlacedTree}
use Rattle.grammar_files.specs.Statements.{is_define, is_of_types, name_written, defines_type}
use Rattle.type_hierarchy.specs.Decls.{Name, Declared, bare, is_defined, names_of}
use Rattle.type_hierarchy.specs.Table.{TypeTable, completed_count, count_of, glb_name}
use Rattle.grammar_files.specs.Walks.{WalkedTree}
use Rattle.grammar_types.specs.Typings.{AreTypesOf, declared_in, decls_in, strings_in}
use Rattle.mrs_lines.proofs.Names.{IsTdlName}
use Rattle.mrs_lines.proofs.Plain.{glb_named}
use Rattle.mrs_lines.proofs.Statements.{AllNames, StatementNamed}
use Rattle.mrs_lines.proofs.Walked.{AllPlaced, WalkedNamed}

all_both : (ns ms : List Name) → AllNames ns → AllNames ms → AllNames (ns ++ ms)
all_both [] ms h k = k
all_both (n ∷ ns) ms h k = (h.0, all_both ns ms h.1 k)

pub name_at : (ns ms : List Name) (k : ℕ) → AllNames ns → k < length ns → IsTdlName (slice_index_or (ns ++ ms) k [])
name_at [] ms k h l = absurd (omega (arith, l))
name_at (n ∷ ns) ms zero h l = h.0
name_at (n ∷ ns) ms (suc k) h l = name_at ns ms k h.1 (omega (arith, l))

pub defined_named : (s : StatementTree) → StatementNamed s → is_define s ≡ true → IsTdlName (name_written s)
defined_named (defines name at affix b) h e = h.0
defined_named (adds name at b) h e = absurd (true≢false (sym e))
defined_named (begins status at) h e = absurd (true≢false (sym e))
defined_named (ends instance at) h e = absurd (true≢false (sym e))
defined_named (includes file at) h e = absurd (true≢false (sym e))
defined_named (letters set at) h e = absurd (true≢false (sym e))

names_in : List Declared → List Name
names_in ds = map (λ d. d.name) ds

decls_named : (all ps : List PlacedTree) → AllPlaced ps → AllNames (map (λ d. d.name) (map (declared_in all) (filter defines_type ps)))
decls_named all [] h = tt
decls_named all (p ∷ ps) h = go (defines_type p) refl (decls_named all ps h.1)
  where
    go : (b : Bool) → defines_type p ≡ b → AllNames (map (λ d. d.name) (map (declared_in all) (filter defines_type ps)))
        → AllNames (map (λ d. d.name) (map (declared_in all) (cond b (p ∷ filter defines_type ps) (filter defines_type ps))))
    go true e more = (defined_named p.statement h.0 (and_parts (is_define p.statement) (is_of_types p.status) e).0, more)
    go false e more = more

kept_named : (test : Declared → Bool) (ds rest : List Declared) → AllNames (map (λ d. d.name) ds) → AllNames (map (λ d. d.name) rest) → AllNames (map (λ d. d.name) (filter test ds ++ rest))
kept_named test [] rest h k = k
kept_named test (d ∷ ds) rest h k = go (test d) (kept_named test ds rest h.1 k)
  where
    go : (b : Bool) → AllNames (map (λ e. e.name) (filter test ds ++ rest)) → AllNames (map (λ e. e.name) (cond b (d ∷ filter test ds) (filter test ds) ++ rest))
    go true more = (h.0, more)
    go false more = more

written_named : (top text : Name) (ds : List Declared) → IsTdlName top → IsTdlName text → AllNames (map (λ d. d.name) ds) → AllNames (names_of top text ds)
written_named top text ds a b h = kept_named (λ d. not (is_defined ds d.name)) (bare top ∷ bare text ∷ []) ds (a, (b, tt)) h

added_named : (from count : ℕ) → from + count < 2 ^ 64 → AllNames (map glb_name (range_with_len from count))
added_named from zero l = tt
added_named from (suc count) l = (glb_named from (omega (arith, l)), added_named (from + 1) count (omega (arith, l)))

pub types_named : (w : WalkedTree) (types : TypeTable) → WalkedNamed w → AreTypesOf w types → (t : ℕ) → t < completed_count types → IsTdlName (slice_index_or types.names t [])
types_named w types named are t l =
    let h = are.0 in
    let c = are.2 in
    let glbs : List Name = map glb_name (range_with_len 1 (length c.added)) in
    let written : AllNames h.names = subst AllNames (sym are.1.hierarchy.names_are)
    (written_named w.settings.top_type w.settings.string_type (decls_in w.statements) named.settings.top_type named.settings.string_type (decls_named w.statements w.statements named.statements)) in
    let few : length h.sets + length c.added ≤ 65535 = subst (λ n. n ≤ 65535) (length-append h.sets c.added) c.few in
    let all : AllNames (h.names ++ glbs) = all_both h.names glbs written (added_named 1 (length c.added) (omega (arith, few))) in
    let size : length (h.names ++ glbs) ≡ length h.names + length c.added
    = length-append h.names glbs ∙ ap (λ n. length h.names + n) (length-map (range_with_len 1 (length c.added)) glb_name ∙ length-range_with_len 1 (length c.added)) in
    let count : completed_count types ≡ length h.sets + length c.added = ap completed_count c.table_is ∙ length-append h.sets c.added in
    let even = are.1.hierarchy.one_each in
    let names : types.names ≡ (h.names ++ glbs) ++ strings_in w.statements = ap (λ (u : TypeTable). u.names) c.table_is in
    subst (λ ns. IsTdlName (slice_index_or ns t [])) (sym names) (name_at (h.names ++ glbs) (strings_in w.statements) t all (omega (arith, l, size, count, even)))

-- there are at least as many types as those that aren't strings
pub completed_within : (w : WalkedTree) (types : TypeTable) → AreTypesOf w types → completed_count types ≤ count_of types
completed_within w types are =
    let h = are.0 in
    let c = are.2 in
    let count : completed_count types ≡ length h.sets + length c.added = ap completed_count c.table_is ∙ length-append h.sets c.added in
    let rest : List Name = map glb_name (range_with_len 1 (length c.added)) in
    let size : count_of types ≡ length h.names + length rest + length (strings_in w.statements)
    = ap count_of c.table_is ∙ length-append (h.names ++ rest) (strings_in w.statements) ∙ ap (λ n. n + length (strings_in w.statements)) (length-append h.names rest) in
    let added : length rest ≡ length c.added = length-map (range_with_len 1 (length c.added)) glb_name ∙ length-range_with_len 1 (length c.added) in
    let even = are.1.hierarchy.one_each in
    omega (arith, count, size, added, even)
