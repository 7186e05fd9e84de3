-- The counts of instances, and the report of `check`.
use Rattle.std.proofs.Common.{ℕ, suc, ◌≡◌, ◌-◌, ◌+◌, true, false, cond, List, [], ◌∷◌, length, map, Bool, refl, sym, ◌∙◌, ap, string_bytes}
use Rattle.std.specs.List.{AllZip}
use Rattle.std.specs.Prelude.{filter}
use Rattle.std.specs.Fmt.{decimal}
use Rattle.std.proofs.lemmas.List.{length-map}
use Rattle.type_hierarchy.specs.Decls.{texts}
use Rattle.tdl_reader.specs.declared.Status.{Status}
use Rattle.tdl_reader.specs.declared.Status.TheVariants.{Entry, LexRule, Rule, Root}
use Rattle.type_hierarchy.specs.Table.{completed_count}
use Rattle.grammar_files.specs.Statements.{is_status}
use Rattle.fs_unify.specs.Rules.{Grammar}
use Rattle.constraint_expand.specs.declared.books.Book.{Book}
use Rattle.constraint_expand.specs.Books.{InstanceMap}
use Rattle.book_shapes.specs.Shapes.{instances_of}
use Rattle.grammar_load.specs.Outcomes.{IsSameInstance, IsSameBook}
use Rattle.grammar_commands.specs.Checks.{count_of, check_text, check_line}

counts-same : (s : Status) (is js : List InstanceMap) → AllZip IsSameInstance is js → count_of s is ≡ count_of s js
counts-same s [] [] z = refl
counts-same s [] (j ∷ js) z = absurd z
counts-same s (i ∷ is) [] z = absurd z
counts-same s (i ∷ is) (j ∷ js) z = by_status (is_status s i.status) (is_status s j.status) (ap (is_status s) z.0.status) (counts-same s is js z.1)
  where
    by_status : (a b : Bool) → a ≡ b → count_of s is ≡ count_of s js → length (cond a (i ∷ filter (λ i. is_status s i.status) is) (filter (λ i. is_status s i.status) is)) ≡ length (cond b (j ∷ filter (λ i. is_status s i.status) js) (filter (λ i. is_status s i.status) js))
    by_status true true e h = ap suc h
    by_status false false e h = h
    by_status true false e h = cc
    by_status false true e h = cc

feats-same : (b c : Book) → texts b.feats.items ≡ texts c.feats.items → length b.feats.items ≡ length c.feats.items
feats-same b c e = sym (length-map b.feats.items string_bytes) ∙ ap length e ∙ length-map c.feats.items string_bytes

pub check-same : (b c : Book) → IsSameBook b c → check_line b ≡ check_line c
check-same b c same =
    let ty = b.system.types in
    let un = c.system.types in
    let is = instances_of b in
    let js = instances_of c in
    let n = length b.feats.items in
    let m = length c.feats.items in
    let e = λ (s : Status). counts-same s is js same.instances in
    ap (λ (s : Grammar). check_text s.types.written (completed_count s.types - s.types.written) n (count_of Entry is) (count_of LexRule is) (count_of Rule is) (count_of Root is)) same.system
    ∙ ap (λ k. check_text un.written (completed_count un - un.written) k (count_of Entry is) (count_of LexRule is) (count_of Rule is) (count_of Root is)) (feats-same b c same.features)
    ∙ ap (λ k. check_text un.written (completed_count un - un.written) m k (count_of LexRule is) (count_of Rule is) (count_of Root is)) (e Entry)
    ∙ ap (λ k. check_text un.written (completed_count un - un.written) m (count_of Entry js) k (count_of Rule is) (count_of Root is)) (e LexRule)
    ∙ ap (λ k. check_text un.written (completed_count un - un.written) m (count_of Entry js) (count_of LexRule js) k (count_of Root is)) (e Rule)
    ∙ ap (λ k. check_text un.written (completed_count un - un.written) m (count_of Entry js) (count_of LexRule js) (count_of Rule js) k) (e Root)
