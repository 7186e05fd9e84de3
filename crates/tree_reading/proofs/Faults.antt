-- Where reading of a tree stops, no tree's text goes on.
use Rattle.std.proofs.Common.{◌≡◌, ℕ, suc, Bool, false, List, [], ◌∷◌, ◌++◌, length, take, drop, None, refl, sym, ap, subst, ◌∙◌, append_assoc, ◌≤◌, ◌⊎◌, inl, inr, arith, length-append, length-take}
use Rattle.std.specs.List.{All}
use Rattle.std.proofs.lemmas.Bool.{false≢true}
use Rattle.std.proofs.lemmas.List.{take-append-drop}
use Rattle.std.proofs.lemmas.List.Elements.{All-head, All-tail, All-take}
use Rattle.std.proofs.lemmas.Option.{slice_get_within}
use Rattle.derivation.specs.Text.{name_of}
use Rattle.tree_reading.specs.declared.uses.Uses.{Uses}
use Rattle.tree_reading.specs.Grammars.{TreeGrammar, IsName, IsNamedWell, HasEntry, ends_name}
use Rattle.tree_reading.specs.Inner.Shapes.{Shape, text, IsShape, Begins}
use Rattle.tree_reading.specs.Inner.Frames.{Frame, AreFrames, IsReady, front, is_wide}
use Rattle.tree_reading.specs.Inner.Uses.{AreUses}
use Rattle.tree_reading.specs.Inner.Near.{IsNear, IsUsable, IsShared}
use Rattle.tree_reading.specs.Inner.Stops.{Fails, IsAlike, IsCut, IsText}
use Rattle.tree_reading.proofs.Runs.{rests, run_within, run_splits}
use Rattle.tree_reading.proofs.Decoding.{begins_text}
use Rattle.tree_reading.proofs.Framing.{daughter}
use Rattle.tree_reading.proofs.Going.{Goes, complete_front, goes_along}
use Rattle.tree_reading.proofs.Naming.{IsUse, naming, goes_usable, goes_uses, goes_entry, no_use, no_rule, usable_of}
use Rattle.tree_reading.proofs.Lifting.{alike_begins}

-- what is done goes on, and nothing goes on as the text does
pub record Stands (g : TreeGrammar) (done tail : List ℕ) : Type 0 where
  pub goes : Goes g done
  pub stops : (more : List ℕ) → IsAlike tail more → (s : Shape) → IsShape g s → done ++ more ≡ text s → ⊥

pub fails : (g : TreeGrammar) (whole done tail : List ℕ) (left : ℕ) → whole ≡ done ++ tail → length tail ≡ left → Stands g done tail → Fails (IsText g) (IsText g) whole left
fails g whole done tail left is size h =
    record {
      done = done;
      tail = tail;
      is = is;
      left_is = size;
      goes = (h.goes.rest, (h.goes.shape, h.goes.is_shape, h.goes.is));
      stops = λ more alike k. h.stops more alike k.0 k.1 k.2;
    }

-- no parenthesis stands where one must
ready_still : (fs : List Frame) (rest more : List ℕ) → IsReady fs rest → (Begins 40 rest → ⊥) → IsReady fs more
ready_still [] rest more ready shut = tt
ready_still (f ∷ fs) rest more ready shut = λ e. absurd (shut (ready e))

pub stop_open : (g : TreeGrammar) → IsNamedWell g → HasEntry g → (fs : List Frame) (rest : List ℕ) → AreFrames g fs → IsReady fs rest → (Begins 40 rest → ⊥) → Stands g (front fs) rest
stop_open g well entry fs rest frames ready shut =
    record {
      goes = complete_front g entry fs frames;
      stops = λ more alike s is e.
          let d = daughter g well fs s more is frames (ready_still fs rest more ready shut) e in
          shut (alike_begins 40 rest more alike (subst (Begins 40) (sym d.is) (begins_text d.sub d.rest)));
    }

-- the name that a daughter has, where a parenthesis is read
pub record Named (g : TreeGrammar) (wide : Bool) (bytes : List ℕ) : Type 0 where
  pub name : List ℕ
  pub after : List ℕ
  pub is_name : IsName name
  pub is : bytes ≡ name ++ 32 ∷ after
  pub using : IsUse g wide name after

ready_opened : (fs : List Frame) (bytes : List ℕ) → IsReady fs (40 ∷ bytes)
ready_opened [] bytes = tt
ready_opened (f ∷ fs) bytes = λ e. refl

pub name_there : (g : TreeGrammar) → IsNamedWell g → (fs : List Frame) (s : Shape) (bytes : List ℕ) → IsShape g s → AreFrames g fs → front fs ++ (40 ∷ bytes) ≡ text s → Named g (is_wide fs) bytes
name_there g well fs s bytes is frames e =
    let d = daughter g well fs s (40 ∷ bytes) is frames (ready_opened fs bytes) e in
    let n = naming g well (is_wide fs) d.sub d.rest d.allowed in
    record { name = n.name; after = n.after; is_name = n.is_name; is = rests _ _ _ _ (d.is ∙ n.is); using = n.using }

past : (fs : List Frame) (bytes more : List ℕ) → (front fs ++ (40 ∷ bytes)) ++ more ≡ front fs ++ (40 ∷ (bytes ++ more))
past fs bytes more = append_assoc (front fs) (40 ∷ bytes) more

-- what follows a whole name
cut_name : (m rest u more : List ℕ) → All (λ b. ends_name b ≡ false) m → IsCut rest → IsAlike rest more → more ≡ m ++ 32 ∷ u → (m ≡ []) × Begins 32 rest
cut_name [] [] u more all cut alike e = absurd (subst (IsAlike []) e alike)
cut_name [] (y ∷ rest) u more all cut alike e = (refl, subst (IsAlike (y ∷ rest)) e alike)
cut_name (c ∷ m) [] u more all cut alike e = absurd (subst (IsAlike []) e alike)
cut_name (c ∷ m) (y ∷ rest) u more all cut alike e =
    let same : y ≡ c = subst (IsAlike (y ∷ rest)) e alike in
    absurd (false≢true (sym (All-head (λ b. ends_name b ≡ false) c m all) ∙ ap ends_name (sym same) ∙ cut))

tail_all : (w m : List ℕ) → All (λ b. ends_name b ≡ false) (w ++ m) → All (λ b. ends_name b ≡ false) m
tail_all [] m all = all
tail_all (c ∷ w) m all = tail_all w m (All-tail (λ b. ends_name b ≡ false) c (w ++ m) all)

-- a name that goes on without a blank
pub stop_blank : (g : TreeGrammar) → IsNamedWell g → HasEntry g → (fs : List Frame) (name rest : List ℕ) (uses : Uses) → AreFrames g fs → All (λ b. ends_name b ≡ false) name → IsCut rest → (Begins 32 rest → ⊥) →
    AreUses g (is_wide fs) name uses → ((uses.entry ≡ None) × (uses.rules.lexical ≡ None) × (uses.rules.phrase ≡ None) → ⊥) → Stands g (front fs ++ (40 ∷ name)) rest
stop_blank g well entry fs name rest uses frames all cut shut are some =
    record {
      goes = goes_along g (front fs ++ (40 ∷ name)) (32 ∷ []) (front fs ++ (40 ∷ (name ++ 32 ∷ []))) (past fs name (32 ∷ [])) (goes_uses g entry fs frames name uses are some);
      stops = λ more alike s is e.
          let n = name_there g well fs s (name ++ more) is frames (sym (past fs name more) ∙ e) in
          let w = run_within ends_name name n.name 32 more n.after all refl n.is in
          shut (cut_name w.0 rest n.after more (tail_all name w.0 (subst (All (λ b. ends_name b ≡ false)) w.1 n.is_name.1)) cut alike w.2).1;
    }

-- a name and a blank, with something else behind them
by_use : (g : TreeGrammar) (wide : Bool) (name after rest more : List ℕ) (uses : Uses) → AreUses g wide name uses → (Begins 34 rest → uses.entry ≡ None) → (Begins 40 rest → (uses.rules.lexical ≡ None) × (uses.rules.phrase ≡ None)) →
    IsAlike rest more → more ≡ after → IsUse g wide name after → ⊥
by_use g wide name after rest more uses are none_e none_r alike e (inl h) =
    let q = none_e (alike_begins 34 rest more alike (subst (Begins 34) (sym (e ∙ h.1.1)) refl)) in
    are.no_entry q h.0.0 h.0.1 h.0.2
by_use g wide name after rest more uses are none_e none_r alike e (inr h) =
    let q = none_r (alike_begins 40 rest more alike (subst (Begins 40) (sym e) h.1)) in
    no_rule g wide name uses.rules are.rules q.0 q.1 h.0

pub stop_begun : (g : TreeGrammar) → IsNamedWell g → HasEntry g → (fs : List Frame) (name rest : List ℕ) (uses : Uses) → AreFrames g fs → IsName name → AreUses g (is_wide fs) name uses →
    ((uses.entry ≡ None) × (uses.rules.lexical ≡ None) × (uses.rules.phrase ≡ None) → ⊥) → (Begins 34 rest → uses.entry ≡ None) → (Begins 40 rest → (uses.rules.lexical ≡ None) × (uses.rules.phrase ≡ None)) →
    Stands g (front fs ++ (40 ∷ (name ++ 32 ∷ []))) rest
stop_begun g well entry fs name rest uses frames is_name are some none_e none_r =
    record {
      goes = goes_uses g entry fs frames name uses are some;
      stops = λ more alike s is e.
          let n = name_there g well fs s ((name ++ 32 ∷ []) ++ more) is frames (sym (past fs (name ++ 32 ∷ []) more) ∙ e) in
          let k = run_splits ends_name name n.name 32 32 more n.after is_name.1 n.is_name.1 refl refl (sym (append_assoc name (32 ∷ []) more) ∙ n.is) in
          by_use g (is_wide fs) name n.after rest more uses are none_e none_r alike k.2 (subst (λ t. IsUse g (is_wide fs) t n.after) (sym k.0) n.using);
    }

-- a name that is none
take_next : (a : List ℕ) (b : ℕ) (bs : List ℕ) (n : ℕ) → length a ≡ n → take (suc n) (a ++ b ∷ bs) ≡ a ++ b ∷ []
take_next [] b bs n size = ap (λ k. take (suc k) (b ∷ bs)) (sym size)
take_next (c ∷ a) b bs n size = ap (λ k. take (suc k) (c ∷ (a ++ b ∷ bs))) (sym size) ∙ ap (λ t. c ∷ t) (take_next a b bs (length a) refl)

shared_more : (name m a bs cs : List ℕ) (b n : ℕ) → name ≡ a ++ b ∷ bs → m ≡ a ++ b ∷ cs → length a ≡ n → IsShared name m (suc n)
shared_more name m a bs cs b n e f size = (
  omega (arith, ap length e, length-append a (b ∷ bs), size),
  omega (arith, ap length f, length-append a (b ∷ cs), size),
  ap (λ t. take (suc n) t) e ∙ take_next a b bs n size ∙ sym (ap (λ t. take (suc n) t) f ∙ take_next a b cs n size),
)

near_stops : (g : TreeGrammar) (wide : Bool) (name m rest after more t w : List ℕ) (n : ℕ) (uses : Uses) → drop n name ≡ t → n ≤ length name → IsName m → All (λ b. ends_name b ≡ false) name → IsCut rest → IsNear g wide name n →
    AreUses g wide name uses → uses.entry ≡ None → uses.rules.lexical ≡ None → uses.rules.phrase ≡ None → IsUse g wide m after → m ≡ take n name ++ w → more ≡ w ++ 32 ∷ after → IsAlike (t ++ rest) more → ⊥
near_stops g wide name m rest after more [] w n uses cut_at le is_name all cut near are e l p using front_is tail_is alike =
    let h = cut_name w rest after more (tail_all (take n name) w (subst (All (λ b. ends_name b ≡ false)) front_is is_name.1)) cut alike tail_is in
    let whole : m ≡ name = front_is ∙ ap (λ t. take n name ++ t) (h.0 ∙ sym cut_at) ∙ take-append-drop n name in
    no_use g wide name after uses are e l p (subst (λ t. IsUse g wide t after) whole using)
near_stops g wide name m rest after more (b ∷ bs) [] n uses cut_at le is_name all cut near are e l p using front_is tail_is alike =
    let same : b ≡ 32 = subst (IsAlike ((b ∷ bs) ++ rest)) tail_is alike in
    let whole : name ≡ take n name ++ b ∷ bs = sym (take-append-drop n name) ∙ ap (λ t. take n name ++ t) cut_at in
    let low : ends_name b ≡ false = All-head (λ b. ends_name b ≡ false) b bs (tail_all (take n name) (b ∷ bs) (subst (All (λ b. ends_name b ≡ false)) whole all)) in
    false≢true (sym low ∙ ap ends_name same)
near_stops g wide name m rest after more (b ∷ bs) (c ∷ cs) n uses cut_at le is_name all cut near are e l p using front_is tail_is alike =
    let same : b ≡ c = subst (IsAlike ((b ∷ bs) ++ rest)) tail_is alike in
    let whole : name ≡ take n name ++ b ∷ bs = sym (take-append-drop n name) ∙ ap (λ t. take n name ++ t) cut_at in
    let u = usable_of g wide m after using in
    let size : length (take n name) ≡ n = omega (arith, length-take n name, le) in
    let shared = shared_more name m (take n name) bs cs b n whole (front_is ∙ ap (λ t. take n name ++ t ∷ cs) (sym same)) size in
    omega (arith, near.most u.0 (suc n) (slice_get_within g.parts u.0 u.1.0 u.1.1) u.1 (subst (λ t. IsShared name t (suc n)) (sym u.2) shared))

near_goes : (g : TreeGrammar) → HasEntry g → (fs : List Frame) (name : List ℕ) (n : ℕ) → AreFrames g fs → (n ≡ 0) ⊎ ((place : ℕ) × IsUsable g (is_wide fs) place × IsShared name (name_of g.names place) n) →
    Goes g (front fs ++ (40 ∷ take n name))
near_goes g entry fs name n frames (inl h) =
    let some = name_of g.names entry.0 in
    subst (λ k. Goes g (front fs ++ (40 ∷ take k name))) (sym h)
    (goes_along g (front fs ++ (40 ∷ [])) (some ++ 32 ∷ []) (front fs ++ (40 ∷ (some ++ 32 ∷ []))) (past fs [] (some ++ 32 ∷ [])) (goes_entry g entry fs frames some (entry.0, entry.1, refl)))
near_goes g entry fs name n frames (inr h) =
    let other = name_of g.names h.0 in
    let row : (take n name ++ drop n other) ++ 32 ∷ [] ≡ other ++ 32 ∷ [] = ap (λ t. (t ++ drop n other) ++ 32 ∷ []) h.2.2 ∙ ap (λ t. t ++ 32 ∷ []) (take-append-drop n other) in
    goes_along g (front fs ++ (40 ∷ take n name)) (drop n other ++ 32 ∷ []) (front fs ++ (40 ∷ (other ++ 32 ∷ [])))
    (past fs (take n name) (drop n other ++ 32 ∷ []) ∙ ap (λ t. front fs ++ (40 ∷ t)) (sym (append_assoc (take n name) (drop n other) (32 ∷ [])) ∙ row))
    (goes_usable g entry fs frames h.0 h.1)

pub stop_near : (g : TreeGrammar) → IsNamedWell g → HasEntry g → (fs : List Frame) (name rest : List ℕ) (n : ℕ) (uses : Uses) → AreFrames g fs → All (λ b. ends_name b ≡ false) name → IsCut rest → IsNear g (is_wide fs) name n →
    AreUses g (is_wide fs) name uses → uses.entry ≡ None → uses.rules.lexical ≡ None → uses.rules.phrase ≡ None → Stands g (front fs ++ (40 ∷ take n name)) (drop n name ++ rest)
stop_near g well entry fs name rest n uses frames all cut near are e l p =
    record {
      goes = near_goes g entry fs name n frames near.some;
      stops = λ more alike s is q.
          let d = name_there g well fs s (take n name ++ more) is frames (sym (past fs (take n name) more) ∙ q) in
          let w = run_within ends_name (take n name) d.name 32 more d.after (All-take (λ b. ends_name b ≡ false) n name all) refl d.is in
          near_stops g (is_wide fs) name d.name rest d.after more (drop n name) w.0 n uses refl near.within d.is_name all cut near are e l p d.using w.1 w.2 alike;
    }
