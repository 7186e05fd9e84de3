-- What the parts of a grammar say of its instances.
use Rattle.std.proofs.Common.{ℕ, zero, suc, ◌≡◌, List, [], ◌∷◌, map, slice_get, Some, refl}
use Rattle.std.proofs.lemmas.Option.{none-some, same_Some}
use Rattle.tdl_reader.specs.declared.Status.{Status}
use Rattle.tdl_reader.specs.declared.Status.TheVariants.{TypeDef, Entry as entry, LexRule, Rule, Root, Other as other}
use Rattle.tree_model.specs.Signs.{Kind, an_entry, a_lexical_rule, a_phrase_rule, a_root, another, Instance}
use Rattle.book_signs.specs.Signed.{kind_of}
use Rattle.tree_reading.specs.declared.Part.{Part}
use Rattle.tree_reading.specs.declared.Part.TheVariants.{Entry, LexicalRule, PhraseRule, Other}
use Rattle.tree_reading.specs.Grammars.{IsSameKind}
use Rattle.tree_names.specs.TreeGrammars.{part_by, part_of}

-- the instance at a place is this part
pub record IsPartAt (is : List Instance) (place : ℕ) (p : Part) : Type 0 where
  pub instance : Instance
  pub at : slice_get is place ≡ Some instance
  pub part : part_of instance ≡ p

pub part_there : (is : List Instance) (place : ℕ) (p : Part) → slice_get (map part_of is) place ≡ Some p → IsPartAt is place p
part_there [] place p e = absurd (none-some p e)
part_there (i ∷ is) zero p e = record { instance = i; at = refl; part = same_Some (part_of i) p e }
part_there (i ∷ is) (suc place) p e = let t = part_there is place p e in record { instance = t.instance; at = t.at; part = t.part }

pub of_entry : (k : Kind) (n : ℕ) → part_by k n ≡ Entry → k ≡ an_entry
of_entry an_entry n e = refl
of_entry a_lexical_rule n e = absurd (let z : LexicalRule ≡ Entry = e in cc)
of_entry a_phrase_rule n e = absurd (let z : PhraseRule n ≡ Entry = e in cc)
of_entry a_root n e = absurd (let z : Other ≡ Entry = e in cc)
of_entry another n e = absurd (let z : Other ≡ Entry = e in cc)

pub of_lexical_rule : (k : Kind) (n : ℕ) → part_by k n ≡ LexicalRule → k ≡ a_lexical_rule
of_lexical_rule an_entry n e = absurd (let z : Entry ≡ LexicalRule = e in cc)
of_lexical_rule a_lexical_rule n e = refl
of_lexical_rule a_phrase_rule n e = absurd (let z : PhraseRule n ≡ LexicalRule = e in cc)
of_lexical_rule a_root n e = absurd (let z : Other ≡ LexicalRule = e in cc)
of_lexical_rule another n e = absurd (let z : Other ≡ LexicalRule = e in cc)

-- of a phrase rule also the number of its daughters
pub of_phrase_rule : (k : Kind) (n m : ℕ) → part_by k n ≡ PhraseRule m → (k ≡ a_phrase_rule) × (n ≡ m)
of_phrase_rule an_entry n m e = absurd (let z : Entry ≡ PhraseRule m = e in cc)
of_phrase_rule a_lexical_rule n m e = absurd (let z : LexicalRule ≡ PhraseRule m = e in cc)
of_phrase_rule a_phrase_rule n m e = (refl, (let z : PhraseRule n ≡ PhraseRule m = e in cc))
of_phrase_rule a_root n m e = absurd (let z : Other ≡ PhraseRule m = e in cc)
of_phrase_rule another n m e = absurd (let z : Other ≡ PhraseRule m = e in cc)

-- parts of one kind are of one status
pub one_status : (s t : Status) (n m : ℕ) → IsSameKind (part_by (kind_of s) n) (part_by (kind_of t) m) → s ≡ t
one_status TypeDef t n m h = absurd h
one_status entry TypeDef n m h = absurd h
one_status entry entry n m h = refl
one_status entry LexRule n m h = absurd h
one_status entry Rule n m h = absurd h
one_status entry Root n m h = absurd h
one_status entry other n m h = absurd h
one_status LexRule TypeDef n m h = absurd h
one_status LexRule entry n m h = absurd h
one_status LexRule LexRule n m h = refl
one_status LexRule Rule n m h = absurd h
one_status LexRule Root n m h = absurd h
one_status LexRule other n m h = absurd h
one_status Rule TypeDef n m h = absurd h
one_status Rule entry n m h = absurd h
one_status Rule LexRule n m h = absurd h
one_status Rule Rule n m h = refl
one_status Rule Root n m h = absurd h
one_status Rule other n m h = absurd h
one_status Root t n m h = absurd h
one_status other t n m h = absurd h
