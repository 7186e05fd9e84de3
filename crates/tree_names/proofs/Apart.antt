-- The names of a grammar's instances are those of trees, and told apart.
use Rattle.std.proofs.Common.{ℕ, ◌≡◌, ◌<◌, List, [], length, Some, sym, ◌∙◌, ap, subst}
use Rattle.std.specs.Prelude.{slice_get, map}
use Rattle.std.specs.List.{AllZip}
use Rattle.std.proofs.lemmas.List.{length-map}
use Rattle.std.proofs.lemmas.Option.{slice_get-get_or, unwrap_or-slice_get, slice_get_within}
use Rattle.derivation.specs.Text.{name_of}
use Rattle.constraint_expand.specs.declared.books.Book.{Book}
use Rattle.constraint_expand.specs.Books.{InstanceMap}
use Rattle.book_shapes.specs.Shapes.{instances_of}
use Rattle.tree_model.specs.Signs.{Instance, Signs}
use Rattle.book_signs.specs.Signed.{kind_of, IsSignOf, IsSignsOf}
use Rattle.book_signs.proofs.SignLemmas.{zip_lengths}
use Rattle.grammar_load.specs.Conditions.{IsLoaded}
use Rattle.grammar_load.specs.Loaded.{GrammarTree}
use Rattle.mrs_lines.specs.Fitting.{AreNamedApart, IsWellNamed}
use Rattle.mrs_lines.proofs.Instances.{placed_at}
use Rattle.tree_reading.specs.declared.Part.{Part}
use Rattle.tree_reading.specs.Grammars.{IsSameKind, IsNamedWell, IsNamedApart}
use Rattle.tree_names.specs.TreeGrammars.{part_by, part_of, tree_grammar}
use Rattle.tree_names.proofs.Parts.{part_there, one_status}

name_there : (names : List (List ℕ)) (i : ℕ) → i < length names → slice_get names i ≡ Some (name_of names i)
name_there names i l = slice_get-get_or names i [] l ∙ ap Some (sym (unwrap_or-slice_get names i []))

-- the instance of the book that a part is of
record IsPartOf (b : Book) (i : ℕ) (p : Part) : Type 0 where
  instance : InstanceMap
  at : slice_get (instances_of b) i ≡ Some instance
  count : ℕ
  is : part_by (kind_of instance.status) count ≡ p

module _ (b : Book) (is : List Instance) (signs : AllZip (IsSignOf b) (instances_of b) is) where
  part_in : (i : ℕ) (p : Part) → slice_get (map part_of is) i ≡ Some p → IsPartOf b i p
  part_in i p e =
      let t = part_there is i p e in
      let u = placed_at (IsSignOf b) (instances_of b) is signs i t.instance t.at in
      record {
        instance = u.element;
        at = u.at;
        count = length t.instance.rule.places;
        is = ap (λ k. part_by k (length t.instance.rule.places)) (sym u.holds.kind) ∙ t.part;
      }

  module _ (names : List (List ℕ)) (each : length names ≡ length (instances_of b)) (apart : AreNamedApart (instances_of b) names) where
    told_apart : (i j : ℕ) (p q : Part) → slice_get (map part_of is) i ≡ Some p → slice_get (map part_of is) j ≡ Some q → IsSameKind p q → name_of names i ≡ name_of names j → i ≡ j
    told_apart i j p q a c k n =
        let x = part_in i p a in
        let y = part_in j q c in
        let same : IsSameKind (part_by (kind_of x.instance.status) x.count) (part_by (kind_of y.instance.status) y.count)
        = subst (λ r. IsSameKind r (part_by (kind_of y.instance.status) y.count)) (sym x.is) (subst (λ r. IsSameKind p r) (sym y.is) k) in
        let li : i < length names = subst (λ m. i < m) (sym each) (slice_get_within (instances_of b) i x.instance x.at) in
        let lj : j < length names = subst (λ m. j < m) (sym each) (slice_get_within (instances_of b) j y.instance y.at) in
        apart i j x.instance y.instance x.at y.at (one_status x.instance.status y.instance.status x.count y.count same) (name_there names i li ∙ ap Some n ∙ sym (name_there names j lj))

-- of a grammar that is loaded
module _ (g : GrammarTree) (s : Signs) (loaded : IsLoaded g) (named : IsWellNamed g) (is : IsSignsOf g.book s) where
  pub named_well : IsNamedWell (tree_grammar s g.names)
  named_well = (loaded.named ∙ zip_lengths (IsSignOf g.book) (instances_of g.book) s.instances is.instances ∙ sym (length-map s.instances part_of), named.names)

  pub named_apart : IsNamedApart (tree_grammar s g.names)
  named_apart = told_apart g.book s.instances is.instances g.names loaded.named named.apart
