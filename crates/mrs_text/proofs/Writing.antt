-- Parts that are written one after the other.
use Rattle.std.proofs.Common.{◌≡◌, ℕ, zero, suc, ◌+◌, ◌<◌, ◌≤◌, ◌∙◌, List, [], ◌∷◌, ◌++◌, append_assoc, append-nil, map, length, get_or, take, refl, ap, sym, subst, arith, Some, None, ◌==◌, false, codes}
use Rattle.std.specs.List.{flat_map, All}
use Rattle.std.proofs.lemmas.List.Elements.{All-head, All-tail}
use Rattle.std.proofs.lemmas.List.{take_more}
use Rattle.mrs_model.specs.declared.Icon.{Icon}
use Rattle.mrs_model.specs.Views.{icon_of}
use Rattle.mrs_model.specs.Meanings.{Variable, Meaning}
use Rattle.mrs_text.specs.Written.{Part, bytes, variable, ep_parts, list_parts, icons_parts, parts, place_of, seen_after, seen_all, text_after, variable_text, variable_at}
use Rattle.mrs_text.specs.Inner.Writing.{Known, IsWritten, first_parts}

pub seen_all-append : (seen : List ℕ) (ps qs : List Part) → seen_all seen (ps ++ qs) ≡ seen_all (seen_all seen ps) qs
seen_all-append seen [] qs = refl
seen_all-append seen (bytes b ∷ ps) qs = seen_all-append seen ps qs
seen_all-append seen (variable v ∷ ps) qs = seen_all-append (seen_after (place_of v seen) seen v) ps qs

pub text_after-append : (vars : List Variable) (seen : List ℕ) (ps qs : List Part) → text_after vars seen (ps ++ qs) ≡ text_after vars seen ps ++ text_after vars (seen_all seen ps) qs
text_after-append vars seen [] qs = refl
text_after-append vars seen (bytes b ∷ ps) qs = ap (λ l. b ++ l) (text_after-append vars seen ps qs) ∙ sym (append_assoc b (text_after vars seen ps) (text_after vars (seen_all seen ps) qs))
text_after-append vars seen (variable v ∷ ps) qs =
    let s = seen_after (place_of v seen) seen v in
    let t = variable_text (place_of v seen) (length seen) (variable_at vars v) in
    ap (λ l. t ++ l) (text_after-append vars s ps qs) ∙ sym (append_assoc t (text_after vars s ps) (text_after vars (seen_all s ps) qs))

-- one after the other
pub written_on : (vars : List Variable) (ps qs : List Part) (s t u : Known) (a b c : List ℕ) → IsWritten vars ps s a t b → IsWritten vars qs t b u c → IsWritten vars (ps ++ qs) s a u c
written_on vars ps qs s t u a b c w x = record {
  text = x.text ∙ rw (w.text, w.order, text_after-append vars s.order ps qs) (append_assoc a (text_after vars s.order ps) (text_after vars (seen_all s.order ps) qs));
  order = x.order ∙ rw w.order (sym (seen_all-append s.order ps qs));
}

pub written_none : (vars : List Variable) (s : Known) (a : List ℕ) → IsWritten vars [] s a s a
written_none vars s a = record { text = sym (append-nil a); order = refl }

pub written_bytes : (vars : List Variable) (s : Known) (a b bs : List ℕ) → b ≡ a ++ bs → IsWritten vars (bytes bs ∷ []) s a s b
written_bytes vars s a b bs e = record { text = e ∙ ap (λ l. a ++ l) (sym (append-nil bs)); order = refl }

last_parts : {X Y : Type 0} (f : X → Y) (pieces : Y → List Part) (xs : List X) (x : X) → flat_map pieces (map f (xs ++ x ∷ [])) ≡ flat_map pieces (map f xs) ++ pieces (f x)
last_parts f pieces [] x = append-nil (pieces (f x))
last_parts f pieces (y ∷ xs) x = ap (λ l. pieces (f y) ++ l) (last_parts f pieces xs x) ∙ sym (append_assoc (pieces (f y)) (flat_map pieces (map f xs)) (pieces (f x)))

-- the parts of one more element
pub parts_more : {X Y : Type 0} (f : X → Y) (pieces : Y → List Part) (xs : List X) (k : ℕ) (x : X) → k < length xs → x ≡ get_or xs k x
    → flat_map pieces (map f (take (k + 1) xs)) ≡ flat_map pieces (map f (take k xs)) ++ pieces (f x)
parts_more f pieces xs k x l e =
    ap (λ ys. flat_map pieces (map f ys)) (take_more xs k x l) ∙ rw (← e) (last_parts f pieces (take k xs) x)

pub written_more : {X Y : Type 0} (vars : List Variable) (f : X → Y) (pieces : Y → List Part) (xs : List X) (k : ℕ) (x : X) (s t u : Known) (a b c : List ℕ) → k < length xs → x ≡ get_or xs k x
    → IsWritten vars (flat_map pieces (map f (take k xs))) s a t b → IsWritten vars (pieces (f x)) t b u c → IsWritten vars (flat_map pieces (map f (take (k + 1) xs))) s a u c
written_more vars f pieces xs k x s t u a b c l e w v =
    subst (λ (ps : List Part). IsWritten vars ps s a u c) (sym (parts_more f pieces xs k x l e)) (written_on vars (flat_map pieces (map f (take k xs))) (pieces (f x)) s t u a b c w v)

-- where all are written
pub written_all : {X Y : Type 0} (vars : List Variable) (f : X → Y) (pieces : Y → List Part) (xs : List X) (k : ℕ) (s t : Known) (a b : List ℕ) → take k xs ≡ xs
    → IsWritten vars (flat_map pieces (map f (take k xs))) s a t b → IsWritten vars (flat_map pieces (map f xs)) s a t b
written_all {X} vars f pieces xs k s t a b e w = subst (λ (ys : List X). IsWritten vars (flat_map pieces (map f ys)) s a t b) e w

-- a variable
pub written_known : (vars : List Variable) (v n : ℕ) (s : Known) (a b : List ℕ) → place_of v s.order ≡ Some n → b ≡ a ++ variable_text (Some n) (length s.order) (variable_at vars v) → IsWritten vars (variable v ∷ []) s a s b
written_known vars v n s a b e t = record { text = t ∙ rw e (ap (λ l. a ++ l) (sym (append-nil _))); order = rw e refl }

pub written_new : (vars : List Variable) (v : ℕ) (s u : Known) (a b : List ℕ) → place_of v s.order ≡ None → b ≡ a ++ variable_text None (length s.order) (variable_at vars v) → u.order ≡ s.order ++ v ∷ []
    → IsWritten vars (variable v ∷ []) s a u b
written_new vars v s u a b e t o = record { text = t ∙ rw e (ap (λ l. a ++ l) (sym (append-nil _))); order = rw e o }

-- what holds of what each row stands for
pub all_at : {X Y : Type 0} (f : X → Y) (P : Y → Type 0) (xs : List X) (k : ℕ) (x : X) → All P (map f xs) → k < length xs → x ≡ get_or xs k x → P (f x)
all_at f P [] k x h l e = absurd (omega arith)
all_at {X} f P (y ∷ xs) zero x h l e = subst (λ (z : X). P (f z)) (sym e) (All-head P (f y) (map f xs) h)
all_at f P (y ∷ xs) (suc k) x h l e = all_at f P xs k x (All-tail P (f y) (map f xs) h) (omega arith) e

pub rows_length : {X Y : Type 0} (f : X → Y) (xs : List X) → length (map f xs) ≡ length xs
rows_length f [] = refl
rows_length f (x ∷ xs) = ap suc (rows_length f xs)

pub take_whole : {X : Type 0} (xs : List X) (k : ℕ) → length xs ≤ k → take k xs ≡ xs
take_whole [] zero l = refl
take_whole [] (suc k) l = refl
take_whole (x ∷ xs) zero l = absurd (omega arith)
take_whole (x ∷ xs) (suc k) l = ap (λ ys. x ∷ ys) (take_whole xs k (omega arith))

-- the same variables and parts
pub written_same : (vars ws : List Variable) (ps qs : List Part) (s t : Known) (a b : List ℕ) → vars ≡ ws → ps ≡ qs → IsWritten vars ps s a t b → IsWritten ws qs s a t b
written_same vars ws ps qs s t a b e f w = subst (λ (us : List Variable). IsWritten us qs s a t b) e (subst (λ (rs : List Part). IsWritten vars rs s a t b) f w)

-- individual constraints, where there are some
pub written_icons : (vars : List Variable) (xs : List Icon) (s t : Known) (a b : List ℕ) → (length xs == 0) ≡ false → IsWritten vars (list_parts (codes "ICONS") (map icon_of xs)) s a t b → IsWritten vars (icons_parts (map icon_of xs)) s a t b
written_icons vars [] s t a b e w = absurd (cc)
written_icons vars (x ∷ xs) s t a b e w = w

-- all parts, one list after the other
pub parts_split : (m : Meaning) → first_parts m ++ (flat_map ep_parts m.eps ++ ((bytes (codes " >") ∷ []) ++ (list_parts (codes "HCONS") m.hcons ++ (icons_parts m.icons ++ bytes (codes " ]") ∷ [])))) ≡ parts m
parts_split m = simp append_assoc
