-- The parts of a grammar's instances, as they are made.
use Rattle.std.proofs.Common.{ℕ, ◌≡◌, ◌+◌, ◌≤◌, List, [], ◌∷◌, ◌++◌, length, map, take, slice_get, get_or, Option, Some, None, refl, sym, ◌∙◌, ap, subst, arith}
use Rattle.std.specs.Prelude.{option_map}
use Rattle.std.proofs.lemmas.List.{map_more, take_all, length-map}
use Rattle.std.proofs.lemmas.Option.{none-some, same_Some, slice_get_within, get_or_from_slice_get}
use Rattle.fs_model.specs.Claims.{Path}
use Rattle.constraint_expand.specs.declared.books.Book.{Book}
use Rattle.constraint_expand.specs.Books.{InstanceMap, instance_of}
use Rattle.book_shapes.specs.Shapes.{instances_of}
use Rattle.tree_model.specs.Mothers.{Rule}
use Rattle.tree_model.specs.Signs.{Kind, an_entry, a_lexical_rule, a_phrase_rule, a_root, another, Instance, Signs}
use Rattle.book_signs.specs.Signed.{kind_of, IsSignOf, IsSignsOf}
use Rattle.book_signs.specs.Trees.{places_at, HasArity, HaveArities}
use Rattle.book_signs.proofs.SignLemmas.{zip_at, zip_lengths}
use Rattle.tree_reading.specs.declared.Part.{Part}
use Rattle.tree_names.specs.TreeGrammars.{part_by, part_of}

-- the instance whose places are read
record IsReadAt (g : Signs) (place : ℕ) (places : List Path) : Type 0 where
  sign : Instance
  at : slice_get g.instances place ≡ Some sign
  places_are : sign.rule.places ≡ places

read_at : (g : Signs) (place : ℕ) (places : List Path) → places_at g place ≡ Some places → IsReadAt g place places
read_at g place places e = go (slice_get g.instances place) refl
  where
    go : (o : Option Instance) → slice_get g.instances place ≡ o → IsReadAt g place places
    go None h = absurd (none-some places (sym (ap (λ o. option_map (λ (r : Rule). r.places) (option_map (λ (i : Instance). i.rule) o)) h) ∙ e))
    go (Some s) h =
        record {
          sign = s;
          at = h;
          places_are = same_Some s.rule.places places (sym (ap (λ o. option_map (λ (r : Rule). r.places) (option_map (λ (i : Instance). i.rule) o)) h) ∙ e);
        }

pub part_made : (b : Book) (g : Signs) → IsSignsOf b g → (place : ℕ) (i : InstanceMap) (places : List Path) → slice_get (instances_of b) place ≡ Some i → places_at g place ≡ Some places →
    option_map part_of (slice_get g.instances place) ≡ Some (part_by (kind_of i.status) (length places))
part_made b g is place i places a e =
    let r = read_at g place places e in
    let s = zip_at (IsSignOf b) (instances_of b) g.instances place i r.sign is.instances a r.at in
    ap (option_map part_of) r.at ∙ (λ k. Some (part_by (s.kind k) (length (r.places_are k))))

few_by : (k : Kind) (n : ℕ) → HasArity k n → n ≤ 4
few_by an_entry n h = omega (arith, h)
few_by a_lexical_rule n h = omega (arith, h)
few_by a_phrase_rule n h = h.1
few_by a_root n h = omega (arith, h)
few_by another n h = omega (arith, h)

-- a rule has few daughters
pub few_places : (g : Signs) → HaveArities g → (place : ℕ) (places : List Path) → places_at g place ≡ Some places → length places ≤ 4
few_places g arities place places e =
    let r = read_at g place places e in
    subst (λ ps. length ps ≤ 4) r.places_are (few_by r.sign.kind (length r.sign.rule.places) (arities place r.sign r.at))

-- as many instances in the signs as in the book
pub as_many : (b : Book) (g : Signs) → IsSignsOf b g → length g.instances ≡ length b.instances.items
as_many b g is = sym (zip_lengths (IsSignOf b) (instances_of b) g.instances is.instances) ∙ length-map b.instances.items instance_of

-- one more part
pub parts_next : (is : List Instance) (i : ℕ) (old new : List Part) (p : Part) → new ≡ old ++ p ∷ [] → option_map part_of (slice_get is i) ≡ Some p → old ≡ map part_of (take i is) → new ≡ map part_of (take (i + 1) is)
parts_next is i old new p n e h = go (slice_get is i) refl
  where
    go : (o : Option Instance) → slice_get is i ≡ o → new ≡ map part_of (take (i + 1) is)
    go None f = absurd (none-some p (sym (ap (option_map part_of) f) ∙ e))
    go (Some s) f =
        let here : part_of (get_or is i s) ≡ p = ap part_of (get_or_from_slice_get is i s s f) ∙ same_Some (part_of s) p (sym (ap (option_map part_of) f) ∙ e) in
        n ∙ (λ k. h k ++ sym here k ∷ []) ∙ sym (map_more part_of is i s (slice_get_within is i s f))

pub parts_whole : (is : List Instance) (n : ℕ) (parts : List Part) → length is ≤ n → parts ≡ map part_of (take n is) → parts ≡ map part_of is
parts_whole is n parts l h = h ∙ ap (map part_of) (take_all n is l)
