-- Files that are read once more.
use Rattle.std.proofs.Common.{ℕ, ◌≡◌, ◌≢◌, ◌^◌, ◌-◌, ◌&&◌, nat_lt, min, Bool, true, false, List, Option, None, Some, Result, Ok, Err, IfOk, Vec, string_bytes, refl, sym, ap, subst, ◌∙◌}
use Rattle.std.specs.Str.{bytes_eq}
use Rattle.std.proofs.lemmas.Bool.Decides.{Decides-ltb}
use Rattle.lkb_io.specs.Outside.{HasRisen}
use Rattle.type_hierarchy.specs.Table.{TypeTable}
use Rattle.grammar_files.specs.declared.expand_fault.ExpandFault.{ExpandFault}
use Rattle.grammar_files.specs.declared.expand_fault.ExpandFault.TheVariants.{NoStructure}
use Rattle.std.specs.Prelude.{String}
use Rattle.std.specs.Global.{Global}
use Rattle.grammar_settings.specs.Forms.{Name}
use Rattle.grammar_files.specs.declared.fault.Why.{Why}
use Rattle.grammar_files.specs.declared.fault.Why.TheVariants.{Shelf, Expand, Typing, TooManyTypes, Arity, Orthography}
use Rattle.grammar_files.specs.declared.fault.LoadFault.{LoadFault}
use Rattle.grammar_files.specs.declared.fault.LoadFault.TheVariants.{NoMemory, Found}
use Rattle.grammar_files.specs.Faults.{FoundFault, IsFaultBy}
use Rattle.grammar_files.specs.Walks.{Files, WalkedTree, WalksTo, has_failed, fault_at}
use Rattle.grammar_types.specs.Typings.{AreTypesOf, IsTypesFault, repeats, unsettled, too_many}
use Rattle.grammar_load.specs.Expanding.{names_by}
use Rattle.grammar_files.specs.Reads.{ReadTree, ReadsTo, reads}
use Rattle.grammar_load.specs.Loads.{IsShapeFault, of_arity, of_words, Makes, untyped, unexpanded, misshapen}
use Rattle.constraint_expand.specs.Faults.{IsFaultOf}
use Rattle.fault_places.specs.declared.Lack.{Lack}
use Rattle.fault_places.specs.Places.{set_in}
use Rattle.fault_details.specs.Further.{never, IsFurtherLine, IsFurther, one_line}
use Rattle.fault_details.specs.Views.{CannotLack, FaultIsMade}
use Rattle.fault_details.specs.Inner.{IsNoStructureAt}

and-first : (a b : Bool) → (a && b) ≡ true → a ≡ true
and-first true b e = refl
and-first false b e = absurd cc

-- the shelf fails only where its count rose
pub risen : (old new : ℕ) (asked : Option Name) (name : Name) → has_failed old new asked name ≡ true → HasRisen old new
risen old new None name e = absurd cc
risen old new (Some a) name e = (Decides-ltb (min old (2 ^ 64 - 2)) new).0 (and-first (nat_lt (min old (2 ^ 64 - 2)) new) (bytes_eq a name) e)

abbrev pub OneWalk : Type 0
OneWalk = (files : Name → Option (List ℕ)) (top : Name) (settings : Option Name) (r q : Result WalkedTree FoundFault) → WalksTo (Some files) never top settings r → WalksTo (Some files) never top settings q → r ≡ q

abbrev pub Calm : Type 0
Calm = (files : Files) (fails other : Name → Bool) (top : Name) (settings : Option Name) (f : FoundFault) → (f.why ≡ Shelf → ⊥) → WalksTo files fails top settings (Err f) → WalksTo files other top settings (Err f)

abbrev pub AtShelf : Type 0
AtShelf = (files : Files) (fails : Name → Bool) (top : Name) (settings : Option Name) (f : FoundFault) → WalksTo files fails top settings (Err f) → f.why ≡ Shelf → fails f.file ≡ true

-- told files that say something have no fault where the shelf counts none
pub walk-apart : OneWalk → Calm → AtShelf → (files : Files) (top : Name) (settings : Option Name) (f : FoundFault) (old new : ℕ) (asked : Option Name)
    → WalksTo files (has_failed old new asked) top settings (Err f) → (told : Name → Option (List ℕ)) → files ≡ Some told → (HasRisen old new → ⊥)
    → (w : WalkedTree) → WalksTo (Some told) never top settings (Ok w) → ⊥
walk-apart one calm shelf files top settings f old new asked h told is none w walks =
    let own = calm files (has_failed old new asked) never top settings f (λ e. none (risen old new asked f.file (shelf files (has_failed old new asked) top settings f h e))) h in
    let fault : WalksTo (Some told) never top settings (Err f) = subst (λ x. WalksTo x never top settings (Err f)) is own in
    let same : Err f ≡ Ok w = one told top settings (Err f) (Ok w) fault walks in
    absurd cc

-- a fault that can't be
pub no-fault : (P : FoundFault → Type 0) (e : LoadFault) → ((f : FoundFault) → P f → ⊥) → e ≢ NoMemory → IsFaultBy P e → ⊥
no-fault P NoMemory none own x = own refl
no-fault P (Found file at why) none own x = none (fault_at (string_bytes file) at why) x

-- what is read was walked
pub walks-of : (files : Files) (fails : Name → Bool) (top : Name) (settings : Option Name) (r : ReadTree) → ReadsTo files fails top settings (Ok r) → WalksTo files fails top settings (Ok r.walked)
walks-of files fails top settings _ (reads w bytes walks irregular) = walks

-- what was read twice is the same
pub same-walk : OneWalk → (files : Files) (told : Name → Option (List ℕ)) → files ≡ Some told → (top : Name) (settings : Option Name) (w v : WalkedTree)
    → WalksTo files never top settings (Ok w) → WalksTo (Some told) never top settings (Ok v) → v ≡ w
same-walk one files told is top settings w v a b =
    let same : Ok v ≡ Ok w = one told top settings (Ok v) (Ok w) b (subst (λ x. WalksTo x never top settings (Ok w)) is a) in
    cc

-- the types over which a definition has no structure
pub record IsMadeSo (w : WalkedTree) (k : ℕ) : Type 0 where
  pub types : TypeTable
  pub typed : AreTypesOf w types
  pub lacks : IsNoStructureAt w (names_by w.settings) types k

no-typing : (w : WalkedTree) (f : FoundFault) (e : ExpandFault) → IsTypesFault w f → f.why ≡ Expand e → ⊥
no-typing w _ e (repeats k name first same) is = let no : Typing _ ≡ Expand e = is in absurd cc
no-typing w _ e (unsettled fault p none a at) is = let no : Typing fault ≡ Expand e = is in absurd cc
no-typing w _ e (too_many h written many) is = let no : TooManyTypes ≡ Expand e = is in absurd cc

pub made-so : (r : ReadTree) (f : FoundFault) (name : String Global) (k : ℕ) → f.why ≡ Expand (NoStructure name k) → Makes r (Err f) → IsMadeSo r.walked k
made-so r f name k is (untyped _ a) = absurd (no-typing r.walked f (NoStructure name k) a is)
made-so r f name k is (unexpanded _ a) =
    let why : Expand a.fault ≡ Expand (NoStructure name k) = sym (ap (λ (g : FoundFault). g.why) a.found) ∙ is in
    let fault : a.fault ≡ NoStructure name k = cc in
    record {
      types = a.types;
      typed = a.settled;
      lacks = record { name = name; fault = subst (IsFaultOf a.types (names_by r.walked.settings) r.walked.statements) fault a.first };
    }
made-so r f name k is (misshapen b _ book a) = absurd (no-shape b f a is)
  where
    no-shape : (b : _) (f : FoundFault) → IsShapeFault r.walked b f → f.why ≡ Expand (NoStructure name k) → ⊥
    no-shape b _ (of_arity place within first) e = let no : Arity ≡ Expand (NoStructure name k) = e in absurd cc
    no-shape b _ (of_words place have within first) e = let no : Orthography ≡ Expand (NoStructure name k) = e in absurd cc

-- what a first fault is made of was walked
pub cannot-walk : (files : Files) (old new : ℕ) (name : Name) (settings : Option Name) (why : Why) → CannotLack files old new (λ told. (w : WalkedTree) × WalksTo (Some told) never name settings (Ok w))
    → CannotLack files old new (λ told. FaultIsMade told name settings why)
cannot-walk files old new name settings why x told is none made = x told is none (made.read.walked, walks-of (Some told) never name settings made.read made.reads)

-- the line of what was walked, of the files
pub further-of : (files : Files) (name : Name) (settings : Option Name) (why : Why) (w : WalkedTree) → WalksTo files never name settings (Ok w)
    → (r : Result (Vec ℕ Global) Lack) → IfOk r (λ v. (line : List ℕ) × IsFurtherLine w why line × (v.items ≡ set_in line)) → IfOk r (λ v. IsFurther files name settings why v.items)
further-of files name settings why w walks (Ok v) x = subst (IsFurther files name settings why) (sym x.2) (one_line w x.0 walks x.1)
further-of files name settings why w walks (Err e) x = tt

-- no line of what was walked, of told files
pub cannot-tell : OneWalk → (files : Files) (old new : ℕ) (name : Name) (settings : Option Name) (why : Why) (w : WalkedTree) → WalksTo files never name settings (Ok w)
    → ((r : ReadTree) (f : FoundFault) → r.walked ≡ w → f.why ≡ why → Makes r (Err f) → ⊥) → CannotLack files old new (λ told. FaultIsMade told name settings why)
cannot-tell one files old new name settings why w walks x told is none made =
    x made.read made.fault (same-walk one files told is name settings w made.read.walked walks (walks-of (Some told) never name settings made.read made.reads)) made.why_is made.made
