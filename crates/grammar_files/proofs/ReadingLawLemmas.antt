-- One outcome, and always one.
use Rattle.std.proofs.Common.{◌≡◌, ℕ, ◌<◌, ◌≤◌, ◌⊎◌, inl, inr, Bool, true, false, List, [], length, Option, Some, None, Result, Ok, Err, refl, ap, sym, ◌∙◌, subst, arith}
use Rattle.std.proofs.lemmas.Bool.{cases_lt}
use Rattle.lkb_io.specs.Shelves.{IsLong}
use Rattle.grammar_settings.specs.Forms.{Name}
use Rattle.grammar_files.specs.declared.fault.Why.TheVariants.{Shelf, TooLong}
use Rattle.grammar_files.specs.Faults.{FoundFault}
use Rattle.grammar_files.specs.Walks.{IsText, IsTooLong, fault_at, WalkedTree, WalksTo}
use Rattle.grammar_files.specs.Reads.{AreIrregular, no_file, fails_there, too_long, text, ReadTree, ReadsTo, unwalked, without_forms, reads}

false-true : {B : Type 0} → false ≡ true → B
false-true e = cc

same_text : (f : Name → Option (List ℕ)) (name : Name) (a b : List ℕ) → IsText (Some f) name a → IsText (Some f) name b → a ≡ b
same_text f name a b p q = let e : Some a ≡ Some b = sym p.0 ∙ q.0 in cc

long_text : (f : Name → Option (List ℕ)) (name : Name) (a : List ℕ) → IsTooLong (Some f) name → IsText (Some f) name a → ⊥
long_text f name a l t = let long : IsLong (Some a) = subst IsLong t.0 l in omega (arith, long, t.1)

irregular_one : (f : Name → Option (List ℕ)) (n m : Option Name) (r q : Result (List ℕ) FoundFault) → AreIrregular (Some f) (λ _. false) n r → AreIrregular (Some f) (λ _. false) m q → n ≡ m → r ≡ q
irregular_one f n m r q no_file no_file e = refl
irregular_one f n m r q no_file (fails_there a k) e = false-true k
irregular_one f n m r q no_file (too_long a l) e = absurd (let z : None ≡ Some a = e in cc)
irregular_one f n m r q no_file (text a bs is) e = absurd (let z : None ≡ Some a = e in cc)
irregular_one f n m r q (fails_there a k) y e = false-true k
irregular_one f n m r q (too_long a l) no_file e = absurd (let z : Some a ≡ None = e in cc)
irregular_one f n m r q (too_long a l) (fails_there b k) e = false-true k
irregular_one f n m r q (too_long a l) (too_long b k) e = let z : a ≡ b = (let y : Some a ≡ Some b = e in cc) in ap (λ x. Err (fault_at x 0 TooLong)) z
irregular_one f n m r q (too_long a l) (text b bs is) e = let z : a ≡ b = (let y : Some a ≡ Some b = e in cc) in absurd (long_text f b bs (subst (IsTooLong (Some f)) z l) is)
irregular_one f n m r q (text a bs is) no_file e = absurd (let z : Some a ≡ None = e in cc)
irregular_one f n m r q (text a bs is) (fails_there b k) e = false-true k
irregular_one f n m r q (text a bs is) (too_long b k) e = let z : a ≡ b = (let y : Some a ≡ Some b = e in cc) in absurd (long_text f b bs k (subst (λ x. IsText (Some f) x bs) z is))
irregular_one f n m r q (text a bs is) (text b cs js) e = let z : a ≡ b = (let y : Some a ≡ Some b = e in cc) in ap Ok (same_text f b bs cs (subst (λ x. IsText (Some f) x bs) z is) js)

-- a top name and settings have one outcome of the walk
abbrev OneWalk : (Name → Option (List ℕ)) → Name → Option Name → Type 0
OneWalk f top settings = (r q : Result WalkedTree FoundFault) → WalksTo (Some f) (λ _. false) top settings r → WalksTo (Some f) (λ _. false) top settings q → r ≡ q

trees : {B : Type 0} (w : WalkedTree) (f : FoundFault) → Ok w ≡ Err f → B
trees w f e = cc

texts : {B : Type 0} (w : List ℕ) (f : FoundFault) → Ok w ≡ Err f → B
texts w f e = cc

same_walked : (v w : WalkedTree) (x y : Result WalkedTree FoundFault) → x ≡ Ok v → y ≡ Ok w → x ≡ y → v ≡ w
same_walked v w x y p q e = let z : Ok v ≡ y = sym p ∙ e in let k : Ok v ≡ Ok w = z ∙ q in cc

same_bytes : (v w : List ℕ) (x y : Result (List ℕ) FoundFault) → x ≡ Ok v → y ≡ Ok w → x ≡ y → v ≡ w
same_bytes v w x y p q e = let z : Ok v ≡ y = sym p ∙ e in let k : Ok v ≡ Ok w = z ∙ q in cc

same_fault : {T : Type 0} (f g : FoundFault) (x y : Result T FoundFault) → x ≡ Err f → y ≡ Err g → x ≡ y → f ≡ g
same_fault f g x y p q e = let z : Err f ≡ y = sym p ∙ e in let k : Err f ≡ Err g = z ∙ q in cc

pub read_one : (f : Name → Option (List ℕ)) (top : Name) (settings : Option Name) (r q : Result ReadTree FoundFault) → OneWalk f top settings → ReadsTo (Some f) (λ _. false) top settings r → ReadsTo (Some f) (λ _. false) top settings q → r ≡ q
read_one f top settings r q one (unwalked g i) (unwalked h k) = ap Err (same_fault g h (Err g) (Err h) refl refl (one (Err g) (Err h) i k))
read_one f top settings r q one (unwalked g i) (without_forms w h k a) = trees w g (one (Ok w) (Err g) k i)
read_one f top settings r q one (unwalked g i) (reads w bs k a) = trees w g (one (Ok w) (Err g) k i)
read_one f top settings r q one (without_forms w g i a) (unwalked h k) = trees w h (one (Ok w) (Err h) i k)
read_one f top settings r q one (without_forms w g i a) (without_forms v h k b) =
    let e = same_walked w v (Ok w) (Ok v) refl refl (one (Ok w) (Ok v) i k) in
    ap Err (same_fault g h (Err g) (Err h) refl refl (irregular_one f w.settings.irregular_file v.settings.irregular_file (Err g) (Err h) a b (ap (λ (x : WalkedTree). x.settings.irregular_file) e)))
read_one f top settings r q one (without_forms w g i a) (reads v bs k b) =
    let e = same_walked w v (Ok w) (Ok v) refl refl (one (Ok w) (Ok v) i k) in
    texts bs g (sym (irregular_one f w.settings.irregular_file v.settings.irregular_file (Err g) (Ok bs) a b (ap (λ (x : WalkedTree). x.settings.irregular_file) e)))
read_one f top settings r q one (reads w bs i a) (unwalked h k) = trees w h (one (Ok w) (Err h) i k)
read_one f top settings r q one (reads w bs i a) (without_forms v h k b) =
    let e = same_walked w v (Ok w) (Ok v) refl refl (one (Ok w) (Ok v) i k) in
    texts bs h (irregular_one f w.settings.irregular_file v.settings.irregular_file (Ok bs) (Err h) a b (ap (λ (x : WalkedTree). x.settings.irregular_file) e))
read_one f top settings r q one (reads w bs i a) (reads v cs k b) =
    let e = same_walked w v (Ok w) (Ok v) refl refl (one (Ok w) (Ok v) i k) in
    let g = same_bytes bs cs (Ok bs) (Ok cs) refl refl (irregular_one f w.settings.irregular_file v.settings.irregular_file (Ok bs) (Ok cs) a b (ap (λ (x : WalkedTree). x.settings.irregular_file) e)) in
    ap (λ x. let t : ReadTree = record { walked = x; irregular = bs } in Ok t) e ∙ ap (λ x. let t : ReadTree = record { walked = v; irregular = x } in Ok t) g

abbrev FormsOne : (Name → Option (List ℕ)) → (Name → Bool) → Option Name → Type 0
FormsOne f fails name = (r : Result (List ℕ) FoundFault) × AreIrregular (Some f) fails name r

irregular_each : (f : Name → Option (List ℕ)) (fails : Name → Bool) → ((name : Name) → f name ≡ None → fails name ≡ true) → (name : Option Name) → FormsOne f fails name
irregular_each f fails missing None = (Ok [], no_file)
irregular_each f fails missing (Some name) = go (f name) refl
  where
    sized : (bytes : List ℕ) → f name ≡ Some bytes → (67108864 < length bytes) ⊎ (length bytes ≤ 67108864) → FormsOne f fails (Some name)
    sized bytes e (inl l) = (Err (fault_at name 0 TooLong), too_long name (subst IsLong (sym e) l))
    sized bytes e (inr l) = (Ok bytes, text name bytes (e, l))

    go : (o : Option (List ℕ)) → f name ≡ o → FormsOne f fails (Some name)
    go None e = (Err (fault_at name 0 Shelf), fails_there name (missing name e))
    go (Some bytes) e = sized bytes e (cases_lt 67108864 (length bytes))

abbrev ReadOne : (Name → Option (List ℕ)) → (Name → Bool) → Name → Option Name → Type 0
ReadOne f fails top settings = (r : Result ReadTree FoundFault) × ReadsTo (Some f) fails top settings r

pub read_each : (f : Name → Option (List ℕ)) (fails : Name → Bool) (top : Name) (settings : Option Name) → ((name : Name) → f name ≡ None → fails name ≡ true) → (r : Result WalkedTree FoundFault) × WalksTo (Some f) fails top settings r → ReadOne f fails top settings
read_each f fails top settings missing walk = go walk.0 walk.1
  where
    forms : (w : WalkedTree) (r : Result (List ℕ) FoundFault) → WalksTo (Some f) fails top settings (Ok w) → AreIrregular (Some f) fails w.settings.irregular_file r → ReadOne f fails top settings
    forms w (Err e) i a = (Err e, without_forms w e i a)
    forms w (Ok bytes) i a = (Ok (record { walked = w; irregular = bytes }), reads w bytes i a)

    go : (r : Result WalkedTree FoundFault) → WalksTo (Some f) fails top settings r → ReadOne f fails top settings
    go (Err e) i = (Err e, unwalked e i)
    go (Ok w) i = let a = irregular_each f fails missing w.settings.irregular_file in forms w a.0 i a.1
