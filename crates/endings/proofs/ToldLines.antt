-- What is told of lines, one after the other.
use Rattle.std.proofs.Common.{zero, suc, ◌≡◌, ℕ, ◌+◌, ◌<◌, ◌≤◌, ◌∙◌, sym, ap, refl, subst, List, [], ◌∷◌, ◌++◌, ◌||◌, length, take, drop, map, get_or, Option, None, Some, Bool, true, false, Vec, Global, Err, append_assoc, append-nil, arith, set}
use Rattle.std.specs.List.{concat}
use Rattle.std.proofs.lemmas.List.Folds.{concat-append}
use Rattle.lkb_io.specs.Outside.{Adds, AddsFront}
use Rattle.lkb_io.proofs.Told.{Adds-more}
use Rattle.side_by_side.specs.Works.{AreGiven, no_thing, a_thing}
use Rattle.endings.specs.declared.lines.Answer.{Answer}
use Rattle.endings.specs.declared.Stop.{Stop}
use Rattle.endings.specs.declared.Stop.TheVariants.{Read, TooLong, TooMany, Write, Gaps, NoMemory}
use Rattle.endings.specs.Reports.{AreAnswers, no_line, a_line, OrNoMemory, answered, no_memory, no_memory_line}
use Rattle.endings.specs.Inner.Batches.{AreTold, none_told, one_told, one_gap, IsTold, IsToldPut, IsFlag, told_lines, lines_of_all, is_one_refused, is_one_wanting}
use Rattle.endings.proofs.Exits.{or-assoc}
use Rattle.endings.proofs.PieceLemmas.{AddsFront-first, AddsFront-second}

abbrev pub Answers : Type 1
Answers = ℕ → List ℕ → List (List ℕ) → Bool → Type 0

abbrev items : Vec ℕ Global → List ℕ
items v = v.items

-- ---- what was given of lines is told of them

abbrev Notes : Type 1
Notes = ℕ → List ℕ → List ℕ → Type 0

pub given-told : (answers : Answers) (notes : Notes) (number place n : ℕ) (lines : List (Vec ℕ Global)) (told : List (Option Answer)) → n ≡ number + place
    → AreGiven (λ k line a. IsTold answers notes (number + k) line.items a) place lines told → AreTold answers n (map items lines) (lines_of_all n told) (is_one_refused told) (is_one_wanting told)
given-told answers notes number _ n _ _ e (no_thing place) = none_told n
given-told answers notes number _ n _ _ e (a_thing place line lines (Some a) told h rest) =
    one_told n line.items (map items lines) (map items a.report.lines.items) (lines_of_all (suc n) told) a.report.refused (is_one_refused told) (is_one_wanting told)
    (subst (λ k. answers k line.items (map items a.report.lines.items) a.report.refused) (sym e) h.0)
    (given-told answers notes number (suc place) (suc n) lines told (omega (arith, e)) rest)
given-told answers notes number _ n _ _ e (a_thing place line lines None told h rest) =
    one_gap n line.items (map items lines) (lines_of_all (suc n) told) (is_one_refused told) (is_one_wanting told)
    (given-told answers notes number (suc place) (suc n) lines told (omega (arith, e)) rest)

-- ---- what is told of some lines and then of others

pub AreTold-append : (answers : Answers) (n : ℕ) (lines pieces : List (List ℕ)) (refused wanting : Bool) (m : ℕ) (after own : List (List ℕ)) (later lacking : Bool)
    → AreTold answers n lines pieces refused wanting → m ≡ n + length lines → AreTold answers m after own later lacking → AreTold answers n (lines ++ after) (pieces ++ own) (refused || later) (wanting || lacking)
AreTold-append answers _ _ _ _ _ m after own later lacking (none_told n) e a =
    let same : m ≡ n = omega (arith, e) in
    subst (λ k. AreTold answers k after own later lacking) same a
AreTold-append answers _ _ _ _ _ m after own later lacking (one_told n l ls first rest b c w h k) e a =
    subst (λ p. AreTold answers n (l ∷ (ls ++ after)) p ((b || c) || later) (w || lacking)) (sym (append_assoc first rest own))
    (subst (λ r. AreTold answers n (l ∷ (ls ++ after)) (first ++ (rest ++ own)) r (w || lacking)) (sym (or-assoc b c later))
    (one_told n l (ls ++ after) first (rest ++ own) b (c || later) (w || lacking) h
    (AreTold-append answers (suc n) ls rest c w m after own later lacking k (omega (arith, e)) a)))
AreTold-append answers _ _ _ _ _ m after own later lacking (one_gap n l ls rest c w k) e a =
    one_gap n l (ls ++ after) (rest ++ own) (c || later) (w || lacking) (AreTold-append answers (suc n) ls rest c w m after own later lacking k (omega (arith, e)) a)

-- ---- with gaps and without

told-is : (answers : Answers) (n : ℕ) (lines pieces : List (List ℕ)) (refused wanting : Bool) → AreTold answers n lines pieces refused wanting → wanting ≡ false → AreAnswers answers n lines pieces refused
told-is answers _ _ _ _ _ (none_told n) e = no_line n
told-is answers _ _ _ _ _ (one_told n l ls first rest b c w h k) e = a_line n l ls first rest b c h (told-is answers (suc n) ls rest c w k e)
told-is answers _ _ _ _ _ (one_gap n l ls rest c w k) e = cc

-- where memory was wanting for none, the lines have their answers
pub told-report : (answers : Answers) (n : ℕ) (lines pieces : List (List ℕ)) (refused : Bool) → AreTold answers n lines pieces refused false → AreAnswers answers n lines pieces refused
told-report answers n lines pieces refused a = told-is answers n lines pieces refused false a refl

pub told-gaps : (answers : Answers) (n : ℕ) (lines pieces : List (List ℕ)) (refused wanting : Bool) → AreTold answers n lines pieces refused wanting → AreAnswers (OrNoMemory answers) n lines pieces wanting
told-gaps answers _ _ _ _ _ (none_told n) = no_line n
told-gaps answers _ _ _ _ _ (one_told n l ls first rest b c w h k) = a_line n l ls first rest false w (answered first b h) (told-gaps answers (suc n) ls rest c w k)
told-gaps answers _ _ _ _ _ (one_gap n l ls rest c w k) = a_line n l ls (no_memory_line n ∷ []) rest true w no_memory (told-gaps answers (suc n) ls rest c w k)

gaps-are : (answers : Answers) (n : ℕ) (lines pieces : List (List ℕ)) (wanting : Bool) → AreAnswers (OrNoMemory answers) n lines pieces wanting → wanting ≡ false → (refused : Bool) × AreAnswers answers n lines pieces refused
gaps-are answers _ _ _ _ (no_line n) e = (false, no_line n)
gaps-are answers _ _ _ _ (a_line n l ls _ rest _ w (answered own b h) k) e = let r = gaps-are answers (suc n) ls rest w k e in (b || r.0, a_line n l ls own rest b r.0 h r.1)
gaps-are answers _ _ _ _ (a_line n l ls _ rest _ w no_memory k) e = cc

-- a report with gaps that has none is the report
pub no-gap : (answers : Answers) (n : ℕ) (lines pieces : List (List ℕ)) → AreAnswers (OrNoMemory answers) n lines pieces false → (refused : Bool) × AreAnswers answers n lines pieces refused
no-gap answers n lines pieces a = gaps-are answers n lines pieces false a refl

-- ---- where nothing is known of the lines

pub gaps-only : (answers : Answers) (n : ℕ) (lines : List (List ℕ)) → (pieces : List (List ℕ)) × (refused : Bool) × (wanting : Bool) × AreTold answers n lines pieces refused wanting
gaps-only answers n [] = ([], false, false, none_told n)
gaps-only answers n (line ∷ lines) = let r = gaps-only answers (suc n) lines in (no_memory_line n ∷ r.0, r.1, true, one_gap n line lines r.0 r.1 r.2 r.3)

-- ---- the lines that are written, up to a place

split : (n m : ℕ) (told : List (Option Answer)) (i : ℕ) (a : Option Answer) → i < length told → get_or told i a ≡ a → m ≡ n + i
    → lines_of_all n told ≡ lines_of_all n (take i told) ++ (told_lines m a ++ lines_of_all (suc m) (drop (suc i) told))
split n m [] i a h e k = absurd (omega (arith, h))
split n m (b ∷ told) zero a h e k =
    let same : m ≡ n = omega (arith, k) in
    subst (λ j. lines_of_all n (b ∷ told) ≡ told_lines j a ++ lines_of_all (suc j) told) (sym same) (ap (λ x. told_lines n x ++ lines_of_all (suc n) told) e)
split n m (b ∷ told) (suc i) a h e k =
    ap (λ t. told_lines n b ++ t) (split (suc n) m told i a (omega (arith, h)) e (omega (arith, k)))
    ∙ sym (append_assoc (told_lines n b) (lines_of_all (suc n) (take i told)) (told_lines m a ++ lines_of_all (suc m) (drop (suc i) told)))

more : (n m : ℕ) (told : List (Option Answer)) (i : ℕ) (a : Option Answer) → i < length told → get_or told i a ≡ a → m ≡ n + i → lines_of_all n (take (suc i) told) ≡ lines_of_all n (take i told) ++ told_lines m a
more n m [] i a h e k = absurd (omega (arith, h))
more n m (b ∷ told) zero a h e k =
    let same : m ≡ n = omega (arith, k) in
    append-nil (told_lines n b) ∙ ap (λ x. told_lines n x) e ∙ sym (ap (λ j. told_lines j a) same)
more n m (b ∷ told) (suc i) a h e k =
    ap (λ t. told_lines n b ++ t) (more (suc n) m told i a (omega (arith, h)) e (omega (arith, k)))
    ∙ sym (append_assoc (told_lines n b) (lines_of_all (suc n) (take i told)) (told_lines m a))

-- one line more is told
pub told-more : (n m : ℕ) (told : List (Option Answer)) (i : ℕ) (a : Option Answer) (x y z : Option (List ℕ)) → i < length told → get_or told i a ≡ a → m ≡ n + i
    → Adds x y (concat (lines_of_all n (take i told))) → Adds y z (concat (told_lines m a)) → Adds x z (concat (lines_of_all n (take (suc i) told)))
told-more n m told i a x y z h e k before own =
    subst (Adds x z) (sym (ap concat (more n m told i a h e k) ∙ concat-append (lines_of_all n (take i told)) (told_lines m a)))
    (Adds-more x y z (concat (lines_of_all n (take i told))) (concat (told_lines m a)) before own)

-- all lines before this one were told, and a front of this one
pub told-front : (n m : ℕ) (told : List (Option Answer)) (i : ℕ) (a : Option Answer) (x y z : Option (List ℕ)) → i < length told → get_or told i a ≡ a → m ≡ n + i
    → Adds x y (concat (lines_of_all n (take i told))) → AddsFront y z (concat (told_lines m a)) → AddsFront x z (concat (lines_of_all n told))
told-front n m told i a x y z h e k before front =
    let rest = lines_of_all (suc m) (drop (suc i) told) in
    let done = lines_of_all n (take i told) in
    subst (AddsFront x z) (sym (ap concat (split n m told i a h e k) ∙ concat-append done (told_lines m a ++ rest) ∙ ap (λ t. concat done ++ t) (concat-append (told_lines m a) rest)))
    (AddsFront-second x y z (concat done) (concat (told_lines m a) ++ concat rest) before (AddsFront-first y z (concat (told_lines m a)) (concat rest) front))

-- ---- an answer in place of another

pub given-set : {T O : Type 0} (gives : ℕ → T → O → Type 0) (n : ℕ) (xs : List T) (ys : List O) (i : ℕ) (x : T) (y : O) (k : ℕ) → AreGiven gives n xs ys → i < length xs → get_or xs i x ≡ x → k ≡ n + i → gives k x y
    → AreGiven gives n xs (set ys i y)
given-set gives _ _ _ i x y k (no_thing n) h e m g = absurd (omega (arith, h))
given-set gives _ _ _ zero x y k (a_thing n t ts o os given rest) h e m g =
    let same : k ≡ n = omega (arith, m) in
    a_thing n t ts y os (subst (λ s. gives n s y) (sym e) (subst (λ j. gives j x y) same g)) rest
given-set gives _ _ _ (suc i) x y k (a_thing n t ts o os given rest) h e m g = a_thing n t ts o (set os i y) given (given-set gives (suc n) ts os i x y k rest (omega (arith, h)) e (omega (arith, m)) g)

-- one more of what is given
pub given-more : {T O : Type 0} (gives : ℕ → T → O → Type 0) (n : ℕ) (xs : List T) (ys : List O) (i : ℕ) (x : T) (y : O) (k : ℕ) → AreGiven gives n (take i xs) ys → i < length xs → get_or xs i x ≡ x → k ≡ n + i → gives k x y
    → AreGiven gives n (take (suc i) xs) (ys ++ y ∷ [])
given-more gives n [] ys i x y k given h e m g = absurd (omega (arith, h))
given-more gives n (t ∷ ts) _ zero x y k (no_thing _) h e m g =
    let same : k ≡ n = omega (arith, m) in
    a_thing n t [] y [] (subst (λ s. gives n s y) (sym e) (subst (λ j. gives j x y) same g)) (no_thing (suc n))
given-more gives n (t ∷ ts) _ (suc i) x y k (a_thing _ _ _ o os given rest) h e m g =
    a_thing n t (take (suc i) ts) o (os ++ y ∷ []) given (given-more gives (suc n) ts os i x y k rest (omega (arith, h)) e (omega (arith, m)) g)

pub given-length : {T O : Type 0} (gives : ℕ → T → O → Type 0) (n : ℕ) (xs : List T) (ys : List O) → AreGiven gives n xs ys → length xs ≡ length ys
given-length gives _ _ _ (no_thing n) = refl
given-length gives _ _ _ (a_thing n t ts o os given rest) = let e = given-length gives (suc n) ts os rest in omega (arith, e)

-- ---- a stop of what is put

pub flag-any : (stop : Stop) (before wanting later : Bool) → later ≡ (before || wanting) → IsFlag {X = Bool} (Err stop) before wanting later
flag-any Read before wanting later e = e
flag-any TooLong before wanting later e = e
flag-any TooMany before wanting later e = e
flag-any Write before wanting later e = e
flag-any Gaps before wanting later e = e
flag-any NoMemory before wanting later e = cc

pub put-as : (X : Type 0) (text : List ℕ) (old new : Option (List ℕ)) (faults_old faults_new : ℕ) (stop : Stop) → IsToldPut {X = X} text old new faults_old faults_new (Err stop) → IsToldPut {X = Bool} text old new faults_old faults_new (Err stop)
put-as X text old new faults_old faults_new Read p = p
put-as X text old new faults_old faults_new TooLong p = p
put-as X text old new faults_old faults_new TooMany p = p
put-as X text old new faults_old faults_new Write p = p
put-as X text old new faults_old faults_new Gaps p = p
put-as X text old new faults_old faults_new NoMemory p = p

-- a stop at one line
pub put-front : (n : ℕ) (told : List (Option Answer)) (i : ℕ) (a : Option Answer) (x y z : Option (List ℕ)) (faults_old faults_mid faults_new : ℕ) (stop : Stop) → i < length told → get_or told i a ≡ a
    → Adds x y (concat (lines_of_all n (take i told))) → faults_old ≤ faults_mid → IsToldPut {X = Unit {0}} (concat (told_lines (n + i) a)) y z faults_mid faults_new (Err stop) → IsToldPut {X = Unit {0}} (concat (lines_of_all n told)) x z faults_old faults_new (Err stop)
put-front n told i a x y z faults_old faults_mid faults_new Read h e before le p = absurd p
put-front n told i a x y z faults_old faults_mid faults_new TooLong h e before le p = absurd p
put-front n told i a x y z faults_old faults_mid faults_new TooMany h e before le p = absurd p
put-front n told i a x y z faults_old faults_mid faults_new Write h e before le p = (told-front n (n + i) told i a x y z h e refl before p.0, (let risen = p.1 in omega (arith, risen, le)))
put-front n told i a x y z faults_old faults_mid faults_new Gaps h e before le p = absurd p
put-front n told i a x y z faults_old faults_mid faults_new NoMemory h e before le p = told-front n (n + i) told i a x y z h e refl before p
