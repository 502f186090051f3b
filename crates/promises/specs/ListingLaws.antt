-- What is written tells what it is of: the lines of a listing from its bytes, and of these the items and the equations' lines.
use Rattle.std.specs.Prelude.{◌≡◌, ℕ, zero, suc, ◌+◌, ◌/◌, ◌%◌, ◌^◌, ◌≤◌, ◌<◌, Bool, not, ◌&&◌, ◌||◌, eqb, ltb, length}
use Rattle.std.proofs.Math.Path.{refl, ap}
use Rattle.std.proofs.Common.{sym, ap₂, subst, ◌∙◌, arith, true≢false, eqb-true, ltb-true, ltb-false, le-leb, length-append}
use Rattle.std.proofs.Math.Logic.{⊎_elim}
use Prim.Native.String.{String}
use Rattle.std.proofs.Math.Bool.{true, false}
use Rattle.std.proofs.lemmas.Bool.{false≢true, eqb-false, lt-leb}
use mathlib.Core.List.Memᴰ
use mathlib.Core.List.{List, [], ◌∷◌, ◌++◌, map, map-id, Memᴰ, append_assoc, append_cancel_left, append_cancel_right}
use Rattle.meaning.specs.Laws.{by_cases}
use Rattle.meaning.specs.Lists.{pick, before, each}
use Rattle.meaning.specs.Names.{bytes, byte, Name, same, member, words}
use Rattle.meaning.specs.Tokens.{is_in, is_symbol, is_word}
use Rattle.meaning.specs.Written.{digits, decimal, numbered, sort_text, function_type_text, shape_text, shape_rank, between_marks, type_text, section_text, declared_text, origin_text}
use Rattle.meaning.specs.Origins.{Section, export_section, hidden_section, parameter_section, Declared, declared_sort, declared_function, declared_variable, Origin, same_origin, Sort, visible_sort, hidden_sort, Shape, sort_shape, function_shape, variable_shape, Item}
use Rattle.meaning.specs.Normal.{Slot, same_slot}
use Rattle.meaning.specs.Listing.{Line, line_text, lines_text, kind_key, listing_keys}
use Rattle.meaning.specs.OrderLaws.{Every, same_equal}
use Rattle.laws.specs.Decides.{both_true, origins_decided}
use Rattle.laws.specs.EveryLaws.{every_so, every_append, every_map, every_member}

-- ---- tests

pub not_so : (c : Bool) → not c ≡ true → c ≡ false
not_so true e = absurd (false≢true e)
not_so false e = refl

-- one that passes is not one that does not
pub passes_apart : (p : ℕ → Bool) (b c : ℕ) → p b ≡ true → p c ≡ false → eqb b c ≡ false
passes_apart p b c h k = go (eqb b c) refl
  where
    go : (q : Bool) → eqb b c ≡ q → q ≡ false
    go true e = absurd (true≢false (sym h ∙ ap p (eqb-true b c e) ∙ k))
    go false e = refl

abbrev pub all_pass : {A : Type 0} → (A → Bool) → List A → Bool
all_pass p [] = true
all_pass p (x ∷ xs) = p x && all_pass p xs

abbrev pub Within : {A : Type 0} → (A → Bool) → List A → Type 0
Within p xs = Every (λ x. p x ≡ true) xs

pub within_by : {A : Type 0} (p : A → Bool) (xs : List A) → all_pass p xs ≡ true → Within p xs
within_by p [] e = tt
within_by p (x ∷ xs) e = let r = both_true (p x) (all_pass p xs) e in (r.0, within_by p xs r.1)

-- a name among some is one of them
pub member_found : (w : Name) (ws : List Name) → member w ws ≡ true → Memᴰ w ws
unfolding member pick
member_found w [] e = absurd (false≢true e)
member_found w (v ∷ ws) e = go (same w v) refl e (member_found w ws)
  where
    go : (b : Bool) → same w v ≡ b → pick b true (member w ws) ≡ true → (member w ws ≡ true → Memᴰ w ws) → Memᴰ w (v ∷ ws)
    go true q e i = Memᴰ.head (same_equal w v q)
    go false q e i = Memᴰ.tail (i e)

-- what each of some names passes, one among them does
pub among_so : (p : Name → Bool) (w : Name) (ks : List Name) → Within p ks → member w ks ≡ true → p w ≡ true
among_so p w ks h m = every_member (λ k. p k ≡ true) ks h w (member_found w ks m)

-- ---- a run and what follows it

pub first_of : {A : Type 0} {x y : A} {xs ys : List A} → x ∷ xs ≡ y ∷ ys → x ≡ y
first_of e = cc

pub rest_of : {A : Type 0} {x y : A} {xs ys : List A} → x ∷ xs ≡ y ∷ ys → xs ≡ ys
rest_of e = cc

-- lists that begin differently
pub apart : {X : Type 0} {b c : ℕ} {s t : List ℕ} → eqb b c ≡ false → b ∷ s ≡ c ∷ t → X
apart {b} {c} d e = absurd (eqb-false b c d (first_of e))

pub not_empty : {A X : Type 0} {x : A} {xs : List A} → [] ≡ x ∷ xs → X
not_empty e = let z : ◌≡◌ {A = ℕ} 0 1 = cc in absurd (omega arith)

-- all of a run pass the test, and what follows does not begin with one that does
abbrev pub StartsOutside : {A : Type 0} → (A → Bool) → List A → Type 0
StartsOutside p [] = Unit {0}
StartsOutside p (x ∷ xs) = p x ≡ false

pub starts : {A X : Type 0} (p : A → Bool) (us : List A) (x : A) (xs : List A) → StartsOutside p us → us ≡ x ∷ xs → p x ≡ true → X
starts p [] x xs o e q = not_empty e
starts p (u ∷ us) x xs o e q = absurd (true≢false (sym q ∙ ap p (sym (first_of e)) ∙ o))

-- the run can be told from what follows
pub told_run : {A : Type 0} (p : A → Bool) (xs ys us vs : List A) → Within p xs → Within p ys → StartsOutside p us → StartsOutside p vs
    → xs ++ us ≡ ys ++ vs → (xs ≡ ys) × (us ≡ vs)
told_run p [] [] us vs h k o q e = (refl, e)
told_run p [] (y ∷ ys) us vs h k o q e = starts p us y (ys ++ vs) o e k.0
told_run p (x ∷ xs) [] us vs h k o q e = starts p vs x (xs ++ us) q (sym e) h.0
told_run p (x ∷ xs) (y ∷ ys) us vs h k o q e =
    let r = told_run p xs ys us vs h.1 k.1 o q (rest_of e) in (ap₂ ◌∷◌ (first_of e) r.0, r.1)

-- where what is told of the items tells something of them, what is told of all tells it of all
pub told_map : {A B C : Type 0} (P Q : A → Type 0) (f g : A → B) (h k : A → C) → ((x y : A) → P x → Q y → f x ≡ g y → h x ≡ k y) → (xs ys : List A)
    → Every P xs → Every Q ys → map f xs ≡ map g ys → map h xs ≡ map k ys
told_map P Q f g h k told [] [] p q e = refl
told_map P Q f g h k told [] (y ∷ ys) p q e = not_empty e
told_map P Q f g h k told (x ∷ xs) [] p q e = not_empty (sym e)
told_map P Q f g h k told (x ∷ xs) (y ∷ ys) p q e =
    ap₂ ◌∷◌ (told x y p.0 q.0 (first_of e)) (told_map P Q f g h k told xs ys p.1 q.1 (rest_of e))

-- ---- lines from bytes

abbrev pub not_byte : ℕ → ℕ → Bool
not_byte c b = not (eqb b c)

-- a key has no `=` and no LF
abbrev pub key_letter : ℕ → Bool
key_letter b = not_byte (byte "=") b && not_byte (byte "\n") b

-- a line that stays a line: its key is one of the listing's, and its value has no LF
pub record PlainLine (l : Line) : Type 0 where
  pub key : member l.key listing_keys ≡ true
  pub value : Within (not_byte (byte "\n")) l.value

pub key_letters : (l : Line) → PlainLine l → Within key_letter l.key
unfolding listing_keys words pick
key_letters l h =
    within_by key_letter l.key (among_so (all_pass key_letter) l.key listing_keys (within_by (all_pass key_letter) listing_keys refl) h.key)

-- what holds of each of three keys holds of an item's
pub by_kind : (P : List ℕ → Type 0) (s f v : String) → P (bytes s) → P (bytes f) → P (bytes v) → (shape : Shape) → P (kind_key s f v shape)
unfolding kind_key
by_kind P s f v a b c sort_shape = a
by_kind P s f v a b c (function_shape t) = b
by_kind P s f v a b c (variable_shape r) = c

line_then : (l : Line) (s : List ℕ) → line_text l ++ s ≡ l.key ++ (byte "=" ∷ (l.value ++ (byte "\n" ∷ s)))
unfolding line_text
line_then l s = simp append_assoc

no_line : {X : Type 0} (l : Line) (s : List ℕ) → [] ≡ line_text l ++ s → X
no_line {X} l s e = go l.key (e ∙ line_then l s)
  where
    go : (u : List ℕ) → [] ≡ u ++ (byte "=" ∷ (l.value ++ (byte "\n" ∷ s))) → X
    go [] e = not_empty e
    go (b ∷ u) e = not_empty e

-- the bytes tell the lines
pub told_lines : (ls ls' : List Line) → Every PlainLine ls → Every PlainLine ls' → lines_text ls ≡ lines_text ls' → ls ≡ ls'
unfolding lines_text each
told_lines [] [] h k e = refl
told_lines [] (l ∷ ls) h k e = no_line l (lines_text ls) e
told_lines (l ∷ ls) [] h k e = no_line l (lines_text ls) (sym e)
told_lines (l ∷ ls) (l' ∷ ls') h k e =
    let s = lines_text ls in
    let s' = lines_text ls' in
    let a =
    told_run key_letter l.key l'.key (byte "=" ∷ (l.value ++ (byte "\n" ∷ s))) (byte "=" ∷ (l'.value ++ (byte "\n" ∷ s')))
    (key_letters l h.0) (key_letters l' k.0) refl refl (sym (line_then l s) ∙ e ∙ line_then l' s') in
    let b =
    told_run (not_byte (byte "\n")) l.value l'.value (byte "\n" ∷ s) (byte "\n" ∷ s') h.0.value k.0.value refl refl
    (rest_of a.1) in
    let here : l ≡ l' = λ i. record { key = a.0 i; value = b.0 i } in
    ap₂ ◌∷◌ here (told_lines ls ls' h.1 k.1 (rest_of b.1))

-- ---- names and types

-- what stands in an identifier, and in an operator with its underlines
unfoldable pub in_name : ℕ → Bool
in_name b = is_word b || (is_symbol b || is_in (bytes "._") b)

-- and in a written sort, which is a name or `{k}`
unfoldable pub in_sort : ℕ → Bool
in_sort b = in_name b || is_in (bytes "{}") b

abbrev pub NonEmpty : {A : Type 0} → List A → Type 0
NonEmpty [] = ⊥
NonEmpty (x ∷ xs) = Unit {0}

-- a name as identifiers and operators are
pub record Plain (w : Name) : Type 0 where
  pub letters : Within in_name w
  pub some_letter : NonEmpty w

pub record WrittenSort (w : List ℕ) : Type 0 where
  pub letters : Within in_sort w
  pub some_letter : NonEmpty w

pub plain_sort : (w : Name) → Plain w → WrittenSort w
unfolding in_sort
plain_sort w h = record { letters = every_so _ _ w (λ b e. rw e) h.letters; some_letter = h.some_letter }

-- inputs with `#` between them and `->` after: the first run of letters, and what follows it
abbrev first_run : List (List ℕ) → List ℕ
first_run [] = bytes "-"
first_run (x ∷ []) = x ++ bytes "-"
first_run (x ∷ y ∷ ys) = x

abbrev after_run : List (List ℕ) → List ℕ → List ℕ
after_run [] z = byte ">" ∷ z
after_run (x ∷ []) z = byte ">" ∷ z
after_run (x ∷ y ∷ ys) z = byte "#" ∷ (between_marks (bytes "#") (y ∷ ys) ++ (bytes "->" ++ z))

split_run : (i : List (List ℕ)) (z : List ℕ) → between_marks (bytes "#") i ++ (bytes "->" ++ z) ≡ first_run i ++ after_run i z
unfolding between_marks
split_run [] z = refl
split_run (x ∷ []) z = sym (append_assoc x (bytes "-") (byte ">" ∷ z))
split_run (x ∷ y ∷ ys) z = append_assoc x (byte "#" ∷ between_marks (bytes "#") (y ∷ ys)) (bytes "->" ++ z)

run_letters : (i : List (List ℕ)) → Every WrittenSort i → Within in_sort (first_run i)
unfolding in_sort in_name is_word pick is_in
run_letters [] h = (refl, tt)
run_letters (x ∷ []) h = every_append _ x (bytes "-") h.0.letters (refl, tt)
run_letters (x ∷ y ∷ ys) h = h.0.letters

after_letters : (i : List (List ℕ)) (z : List ℕ) → StartsOutside in_sort (after_run i z)
unfolding in_sort in_name is_word pick is_in
after_letters [] z = refl
after_letters (x ∷ []) z = refl
after_letters (x ∷ y ∷ ys) z = refl

no_input : {X : Type 0} (x : List ℕ) → WrittenSort x → bytes "-" ≡ x ++ bytes "-" → X
no_input x h e = absurd (subst NonEmpty (sym (append_cancel_right [] x (bytes "-") e)) h.some_letter)

told_runs : (i j : List (List ℕ)) (z z' : List ℕ) → Every WrittenSort i → Every WrittenSort j
    → between_marks (bytes "#") i ++ (bytes "->" ++ z) ≡ between_marks (bytes "#") j ++ (bytes "->" ++ z')
    → (first_run i ≡ first_run j) × (after_run i z ≡ after_run j z')
told_runs i j z z' h k e =
    told_run in_sort (first_run i) (first_run j) (after_run i z) (after_run j z') (run_letters i h) (run_letters j k) (after_letters i z)
    (after_letters j z') (sym (split_run i z) ∙ e ∙ split_run j z')

pub told_inputs : (i j : List (List ℕ)) (z z' : List ℕ) → Every WrittenSort i → Every WrittenSort j
    → between_marks (bytes "#") i ++ (bytes "->" ++ z) ≡ between_marks (bytes "#") j ++ (bytes "->" ++ z') → (i ≡ j) × (z ≡ z')
told_inputs [] [] z z' h k e = (refl, rest_of (told_runs [] [] z z' h k e).1)
told_inputs [] (y ∷ []) z z' h k e = no_input y k.0 (told_runs [] (y ∷ []) z z' h k e).0
told_inputs [] (y ∷ y' ∷ ys) z z' h k e = apart refl (told_runs [] (y ∷ y' ∷ ys) z z' h k e).1
told_inputs (x ∷ []) [] z z' h k e = no_input x h.0 (sym (told_runs (x ∷ []) [] z z' h k e).0)
told_inputs (x ∷ []) (y ∷ []) z z' h k e =
    let r = told_runs (x ∷ []) (y ∷ []) z z' h k e in (ap (◌∷ []) (append_cancel_right x y (bytes "-") r.0), rest_of r.1)
told_inputs (x ∷ []) (y ∷ y' ∷ ys) z z' h k e = apart refl (told_runs (x ∷ []) (y ∷ y' ∷ ys) z z' h k e).1
told_inputs (x ∷ x' ∷ xs) [] z z' h k e = apart refl (sym (told_runs (x ∷ x' ∷ xs) [] z z' h k e).1)
told_inputs (x ∷ x' ∷ xs) (y ∷ []) z z' h k e = apart refl (sym (told_runs (x ∷ x' ∷ xs) (y ∷ []) z z' h k e).1)
told_inputs (x ∷ x' ∷ xs) (y ∷ y' ∷ ys) z z' h k e =
    let r = told_runs (x ∷ x' ∷ xs) (y ∷ y' ∷ ys) z z' h k e in
    let more = told_inputs (x' ∷ xs) (y' ∷ ys) z z' h.1 k.1 (rest_of r.1) in
    (ap₂ ◌∷◌ r.0 more.0, more.1)

-- ---- origins

abbrev pub PlainSection : Section → Type 0
PlainSection export_section = Unit {0}
PlainSection hidden_section = Unit {0}
PlainSection (parameter_section p) = Plain p

abbrev pub PlainDeclared : Declared → Type 0
PlainDeclared (declared_sort a) = Plain a
PlainDeclared (declared_function f i o) = Plain f × Every Plain i × Plain o
PlainDeclared (declared_variable v s) = Plain v × Plain s

-- all names of an origin are plain
pub record PlainOrigin (o : Origin) : Type 0 where
  pub home : Plain o.home
  pub section : PlainSection o.section
  pub declared : PlainDeclared o.declared

told_section : (s t : Section) → section_text s ≡ section_text t → s ≡ t
unfolding section_text
told_section export_section export_section e = refl
told_section export_section hidden_section e = apart refl e
told_section export_section (parameter_section q) e = apart refl e
told_section hidden_section export_section e = apart refl e
told_section hidden_section hidden_section e = refl
told_section hidden_section (parameter_section q) e = apart refl e
told_section (parameter_section p) export_section e = apart refl e
told_section (parameter_section p) hidden_section e = apart refl e
told_section (parameter_section p) (parameter_section q) e = ap parameter_section (append_cancel_left (bytes "parameter ") p q e)

-- a name and its declared type
told_function : (f g : Name) (i j : List Name) (o p : Name) → Plain f → Plain g → Every Plain i → Every Plain j
    → f ++ type_text i o ≡ g ++ type_text j p → (f ≡ g) × (i ≡ j) × (o ≡ p)
unfolding type_text in_name is_word pick is_in
told_function f g i j o p hf hg hi hj e =
    let a = told_run in_name f g (type_text i o) (type_text j p) hf.letters hg.letters refl refl e in
    let b = told_inputs i j o p (every_so Plain WrittenSort i plain_sort hi) (every_so Plain WrittenSort j plain_sort hj) (rest_of a.1) in
    (a.0, b.0, b.1)

told_declared : (d d' : Declared) → PlainDeclared d → PlainDeclared d' → declared_text d ≡ declared_text d' → d ≡ d'
unfolding declared_text
told_declared (declared_sort a) (declared_sort b) h k e = ap declared_sort (append_cancel_left (bytes "sort,") a b e)
told_declared (declared_sort a) (declared_function g j p) h k e = apart refl e
told_declared (declared_sort a) (declared_variable w t) h k e = apart refl e
told_declared (declared_function f i o) (declared_sort b) h k e = apart refl e
told_declared (declared_function f i o) (declared_function g j p) h k e =
    let r = told_function f g i j o p h.0 k.0 h.1 k.1 (append_cancel_left (bytes "function,") _ _ e) in
    λ x. declared_function (r.0 x) (r.1 x) (r.2 x)
told_declared (declared_function f i o) (declared_variable w t) h k e = apart refl e
told_declared (declared_variable v s) (declared_sort b) h k e = apart refl e
told_declared (declared_variable v s) (declared_function g j p) h k e = apart refl e
told_declared (declared_variable v s) (declared_variable w t) h k e =
    let r = told_function v w [] [] s t h.0 k.0 tt tt (append_cancel_left (bytes "variable,") _ _ e) in
    λ x. declared_variable (r.0 x) (r.2 x)

in_section : ℕ → Bool
in_section b = in_name b || eqb b (byte " ")

section_letters : (s : Section) → PlainSection s → Within in_section (section_text s)
unfolding section_text in_section in_name is_word pick is_in
section_letters export_section h = within_by in_section (bytes "export") refl
section_letters hidden_section h = within_by in_section (bytes "hidden") refl
section_letters (parameter_section p) h =
    every_append _ (bytes "parameter ") p (within_by in_section (bytes "parameter ") refl)
    (every_so _ (λ b. in_section b ≡ true) p (λ b q. rw q) h.letters)

-- an origin can be told from how it is written
pub told_origin : (o p : Origin) → PlainOrigin o → PlainOrigin p → origin_text o ≡ origin_text p → o ≡ p
unfolding origin_text in_name is_word in_section pick is_in
told_origin o p h k e =
    let a = told_run in_name o.home p.home _ _ h.home.letters k.home.letters refl refl (rest_of e) in
    let b =
    told_run in_section (section_text o.section) (section_text p.section) _ _ (section_letters o.section h.section)
    (section_letters p.section k.section) refl refl (rest_of a.1) in
    let c = append_cancel_right (declared_text o.declared) (declared_text p.declared) (bytes "]") (rest_of b.1) in
    let sections = told_section o.section p.section b.0 in
    let declareds = told_declared o.declared p.declared h.declared k.declared c in
    λ x. record { home = a.0 x; section = sections x; declared = declareds x }

-- ---- numbers

told_last : (xs ys : List ℕ) (a b : ℕ) → xs ++ (a ∷ []) ≡ ys ++ (b ∷ []) → (xs ≡ ys) × (a ≡ b)
told_last [] [] a b e = (refl, first_of e)
told_last [] (y ∷ ys) a b e = absurd (omega (arith, simp length-append at (ap length e)))
told_last (x ∷ xs) [] a b e = absurd (omega (arith, simp length-append at (ap length e)))
told_last (x ∷ xs) (y ∷ ys) a b e = let r = told_last xs ys a b (rest_of e) in (ap₂ ◌∷◌ (first_of e) r.0, r.1)

some_digit : (n k : ℕ) → 1 ≤ length (digits (suc n) k)
unfolding digits
some_digit n k =
    by_cases (λ (s : List ℕ). 1 ≤ length s) _ _ _ (λ e. omega arith)
    (λ e. simp length-append (omega arith))

-- one digit against more
more_digits : {X : Type 0} (n k l c : ℕ) → ltb l 10 ≡ false → l < 10 ^ suc n → c ∷ [] ≡ digits n (l / 10) ++ (k ∷ []) → X
more_digits zero k l c h b e = absurd (omega (arith, ltb-false l 10 h))
more_digits (suc n) k l c h b e =
    absurd (omega (arith, some_digit n (l / 10), simp length-append at (ap length e)))

told_digits : (n k l : ℕ) → k < 10 ^ n → l < 10 ^ n → digits n k ≡ digits n l → k ≡ l
unfolding digits pick
told_digits zero k l b c e = omega arith
told_digits (suc n) k l b c e = go (ltb k 10) (ltb l 10) refl refl e (told_digits n (k / 10) (l / 10) (omega arith) (omega arith))
  where
    go : (p q : Bool) → ltb k 10 ≡ p → ltb l 10 ≡ q
        → pick p ((48 + k) ∷ []) (digits n (k / 10) ++ ((48 + k % 10) ∷ [])) ≡ pick q ((48 + l) ∷ []) (digits n (l / 10) ++ ((48 + l % 10) ∷ []))
        → (digits n (k / 10) ≡ digits n (l / 10) → k / 10 ≡ l / 10) → k ≡ l
    go true true p q e i = omega (arith, first_of e)
    go true false p q e i = more_digits n (48 + l % 10) l (48 + k) q c e
    go false true p q e i = more_digits n (48 + k % 10) k (48 + l) p b (sym e)
    go false false p q e i =
        let r = told_last (digits n (k / 10)) (digits n (l / 10)) (48 + k % 10) (48 + l % 10) e in omega (arith, i r.0, r.1)

pub told_number : (k l : ℕ) → k < 10 ^ 10 → l < 10 ^ 10 → numbered k ≡ numbered l → k ≡ l
unfolding numbered decimal
told_number k l b c e = told_digits 10 k l b c (append_cancel_right (digits 10 k) (digits 10 l) (bytes "}") (rest_of e))

digit_letter : (d : ℕ) → d < 10 → in_sort (48 + d) ≡ true
unfolding in_sort in_name is_word pick is_in
digit_letter d h = rw (lt-leb 97 (48 + d) (omega arith), lt-leb 65 (48 + d) (omega arith), le-leb 48 (48 + d) (omega arith), le-leb (48 + d) 57 (omega arith))

digits_letters : (n k : ℕ) → Within in_sort (digits n k)
unfolding digits
digits_letters zero k = tt
digits_letters (suc n) k =
    by_cases (Within in_sort) _ _ _ (λ e. (digit_letter k (ltb-true k 10 e), tt))
    (λ e. every_append _ (digits n (k / 10)) _ (digits_letters n (k / 10)) (digit_letter (k % 10) (omega arith), tt))

pub number_written : (k : ℕ) → WrittenSort (numbered k)
unfolding numbered decimal in_sort in_name is_word pick is_in
number_written k = record { letters = (refl, every_append _ (digits 10 k) (bytes "}") (digits_letters 10 k) (refl, tt)); some_letter = tt }

-- ---- the tests for "one" decide equality

pub slot_equal : (p q : Slot) → same_slot p q ≡ true → p ≡ q
unfolding same_slot
slot_equal p q e =
    let r = both_true _ _ e in
    let names = same_equal p.name q.name r.0 in
    let homes = same_equal p.home q.home r.1 in
    λ x. record { name = names x; home = homes x }

-- ---- sorts and types of items, where `hidden` are the hidden items in order

abbrev pub origins_of : List Item → List Origin
origins_of is = map (λ (i : Item). i.origin) is

-- a visible sort's name is plain, a hidden sort is among the hidden items
abbrev pub SortIn : List Item → Sort → Type 0
SortIn hidden (visible_sort a) = Plain a
SortIn hidden (hidden_sort o) = Memᴰ o (origins_of hidden)

abbrev pub ShapeIn : List Item → Shape → Type 0
ShapeIn hidden sort_shape = Unit {0}
ShapeIn hidden (function_shape t) = Every (SortIn hidden) t.inputs × SortIn hidden t.output
ShapeIn hidden (variable_shape s) = SortIn hidden s

-- where the first to pass the one test stands at the place of the first to pass the other, it passes both
module _ {A : Type 0} (p q : A → Bool) where
  pub passes_both : (xs : List A) (a b : A) → Memᴰ a xs → p a ≡ true → Memᴰ b xs → q b ≡ true → before p xs ≡ before q xs
      → (x : A) × (p x ≡ true) × (q x ≡ true)
  unfolding before pick
  passes_both [] a b m f k g e = elim m [ ]
  passes_both (x ∷ xs) a b m f k g e = go (p x) (q x) refl refl e (passes_both xs a b)
    where
      later : (r : A → Bool) (c : A) → r x ≡ false → r c ≡ true → Memᴰ c (x ∷ xs) → Memᴰ c xs
      later r c n y m = ⊎_elim (λ (h : c ≡ x). absurd (false≢true (sym n ∙ ap r (sym h) ∙ y))) (λ k. k) (Memᴰ.cases_cons m)

      go : (s t : Bool) → p x ≡ s → q x ≡ t → pick s 0 (suc (before p xs)) ≡ pick t 0 (suc (before q xs))
          → (Memᴰ a xs → p a ≡ true → Memᴰ b xs → q b ≡ true → before p xs ≡ before q xs → (y : A) × (p y ≡ true) × (q y ≡ true))
          → (y : A) × (p y ≡ true) × (q y ≡ true)
      go true true s t e i = (x, s, t)
      go true false s t e i = absurd (omega arith)
      go false true s t e i = absurd (omega arith)
      go false false s t e i = i (later p a s f m) f (later q b t g k) g (omega arith)

pub before_map : {A B : Type 0} (f : A → B) (p : B → Bool) (xs : List A) → before (λ (x : A). p (f x)) xs ≡ before p (map f xs)
unfolding before
before_map f p [] = refl
before_map f p (x ∷ xs) = ap (λ (k : ℕ). pick (p (f x)) 0 (suc k)) (before_map f p xs)

-- the place of an origin among those of the items tells the origin
told_before : (is : List Item) (o p : Origin) → Memᴰ o (origins_of is) → Memᴰ p (origins_of is)
    → before (λ (i : Item). same_origin o i.origin) is ≡ before (λ (i : Item). same_origin p i.origin) is → o ≡ p
told_before is o p m k e =
    let at = before_map (λ (i : Item). i.origin) in
    let r = passes_both (same_origin o) (same_origin p) (origins_of is) o p m (origins_decided.self o) k (origins_decided.self p)
    (sym (at _ is) ∙ e ∙ at _ is) in
    origins_decided.equal o r.0 r.1 ∙ sym (origins_decided.equal p r.0 r.2)

pub before_most : {A : Type 0} (p : A → Bool) (xs : List A) → before p xs ≤ length xs
unfolding before
before_most p [] = omega arith
before_most p (x ∷ xs) = let r = before_most p xs in by_cases (λ (k : ℕ). k ≤ suc (length xs)) _ _ _ (λ e. omega arith) (λ e. omega arith)

module _ (hidden : List Item) (few : length hidden + 1 < 10 ^ 10) where
  sort_written : (s : Sort) → SortIn hidden s → WrittenSort (sort_text hidden s)
  unfolding sort_text
  sort_written (visible_sort a) h = plain_sort a h
  sort_written (hidden_sort o) h = number_written _

  -- a name does not begin with a brace
  pub no_name : {X : Type 0} (a : Name) (k : ℕ) → Plain a → a ≡ numbered k → X
  unfolding numbered in_name is_word pick is_in
  no_name a k h e = absurd (false≢true (subst (Within in_name) e h.letters).0)

  told_sort : (s t : Sort) → SortIn hidden s → SortIn hidden t → sort_text hidden s ≡ sort_text hidden t → s ≡ t
  unfolding sort_text
  told_sort (visible_sort a) (visible_sort b) h k e = ap visible_sort e
  told_sort (visible_sort a) (hidden_sort p) h k e = no_name a _ h e
  told_sort (hidden_sort o) (visible_sort b) h k e = no_name b _ k (sym e)
  told_sort (hidden_sort o) (hidden_sort p) h k e =
      let a = before_most (λ (i : Item). same_origin o i.origin) hidden in
      let b = before_most (λ (i : Item). same_origin p i.origin) hidden in
      ap hidden_sort (told_before hidden o p h k (omega (arith, told_number _ _ (omega arith) (omega arith) e)))

  sorts_written : (ss : List Sort) → Every (SortIn hidden) ss → Every WrittenSort (map (sort_text hidden) ss)
  sorts_written ss h = every_map (SortIn hidden) WrittenSort (sort_text hidden) sort_written ss h

  told_sorts : (ss ts : List Sort) → Every (SortIn hidden) ss → Every (SortIn hidden) ts
      → map (sort_text hidden) ss ≡ map (sort_text hidden) ts → ss ≡ ts
  told_sorts ss ts h k e =
      sym (map-id ss) ∙ told_map (SortIn hidden) (SortIn hidden) _ _ (λ (s : Sort). s) (λ (s : Sort). s) told_sort ss ts h k e ∙ map-id ts

  -- what follows an item's name tells its type
  pub told_shape : (s t : Shape) → ShapeIn hidden s → ShapeIn hidden t → shape_rank s ≡ shape_rank t
      → shape_text hidden s ≡ shape_text hidden t → s ≡ t
  unfolding shape_rank shape_text function_type_text type_text
  told_shape sort_shape sort_shape h k r e = refl
  told_shape sort_shape (function_shape u) h k r e = absurd (omega arith)
  told_shape sort_shape (variable_shape v) h k r e = absurd (omega arith)
  told_shape (function_shape t) sort_shape h k r e = absurd (omega arith)
  told_shape (function_shape t) (function_shape u) h k r e =
      let a = told_inputs _ _ _ _ (sorts_written t.inputs h.0) (sorts_written u.inputs k.0) (rest_of e) in
      let inputs = told_sorts t.inputs u.inputs h.0 k.0 a.0 in
      let output = told_sort t.output u.output h.1 k.1 a.1 in
      λ x. function_shape (record { inputs = inputs x; output = output x })
  told_shape (function_shape t) (variable_shape v) h k r e = absurd (omega arith)
  told_shape (variable_shape s) sort_shape h k r e = absurd (omega arith)
  told_shape (variable_shape s) (function_shape u) h k r e = absurd (omega arith)
  told_shape (variable_shape s) (variable_shape v) h k r e = ap variable_shape (told_sort s v h k (rest_of e))

-- ---- written forms hold no line feed

pub record OneLine (s : List ℕ) : Type 0 where
  pub within : Within (not_byte (byte "\n")) s

letter_in_line : (b : ℕ) → in_sort b ≡ true → not_byte (byte "\n") b ≡ true
unfolding in_sort in_name is_word pick is_in
letter_in_line b h = rw (passes_apart in_sort b (byte "\n") h refl)

sort_in_line : (w : List ℕ) → WrittenSort w → OneLine w
sort_in_line w h = record { within = every_so _ (λ b. not_byte (byte "\n") b ≡ true) w letter_in_line h.letters }

pub plain_in_line : (w : Name) → Plain w → OneLine w
plain_in_line w h = sort_in_line w (plain_sort w h)

pub in_line_then : (s : List ℕ) {t : List ℕ} → OneLine s → OneLine t → OneLine (s ++ t)
in_line_then s {t} h k = record { within = every_append _ s t h.within k.within }

-- a quoted text, then another
pub quoted : (q : String) {t : List ℕ} → all_pass (not_byte (byte "\n")) (bytes q) ≡ true → OneLine t → OneLine (bytes q ++ t)
quoted q e k = in_line_then (bytes q) (record { within = within_by _ (bytes q) e }) k

pub nothing : OneLine []
nothing = record { within = tt }

pub marks_in_line : (m : List ℕ) (xs : List (List ℕ)) → OneLine m → Every OneLine xs → OneLine (between_marks m xs)
unfolding between_marks
marks_in_line m [] h k = nothing
marks_in_line m (x ∷ []) h k = k.0
marks_in_line m (x ∷ y ∷ ys) h k = in_line_then x k.0 (in_line_then m h (marks_in_line m (y ∷ ys) h k.1))

pub mark_in_line : (b : ℕ) → not_byte (byte "\n") b ≡ true → OneLine (b ∷ [])
mark_in_line b e = record { within = (e, tt) }

type_in_line : (i : List (List ℕ)) (o : List ℕ) → Every OneLine i → OneLine o → OneLine (type_text i o)
unfolding type_text
type_in_line i o h k =
    quoted ":" refl (in_line_then (between_marks (bytes "#") i) (marks_in_line (bytes "#") i (mark_in_line (byte "#") refl) h) (quoted "->" refl k))

section_in_line : (s : Section) → PlainSection s → OneLine (section_text s)
unfolding section_text
section_in_line export_section h = quoted "export" refl nothing
section_in_line hidden_section h = quoted "hidden" refl nothing
section_in_line (parameter_section p) h = quoted "parameter " refl (plain_in_line p h)

declared_in_line : (d : Declared) → PlainDeclared d → OneLine (declared_text d)
unfolding declared_text
declared_in_line (declared_sort a) h = quoted "sort," refl (plain_in_line a h)
declared_in_line (declared_function f i o) h =
    quoted "function," refl
    (in_line_then f (plain_in_line f h.0) (type_in_line i o (every_so Plain OneLine i plain_in_line h.1) (plain_in_line o h.2)))
declared_in_line (declared_variable v s) h =
    quoted "variable," refl (in_line_then v (plain_in_line v h.0) (type_in_line [] s tt (plain_in_line s h.1)))

pub origin_in_line : (o : Origin) → PlainOrigin o → OneLine (origin_text o)
unfolding origin_text
origin_in_line o h =
    quoted "[" refl
    (in_line_then o.home (plain_in_line o.home h.home)
    (quoted "," refl (in_line_then (section_text o.section) (section_in_line o.section h.section)
    (quoted "," refl (in_line_then (declared_text o.declared) (declared_in_line o.declared h.declared) (quoted "]" refl nothing))))))

pub number_in_line : (k : ℕ) → OneLine (numbered k)
number_in_line k = sort_in_line (numbered k) (number_written k)

sort_text_in_line : (hidden : List Item) (s : Sort) → SortIn hidden s → OneLine (sort_text hidden s)
unfolding sort_text
sort_text_in_line hidden (visible_sort a) h = plain_in_line a h
sort_text_in_line hidden (hidden_sort o) h = number_in_line _

pub shape_in_line : (hidden : List Item) (s : Shape) → ShapeIn hidden s → OneLine (shape_text hidden s)
unfolding shape_text function_type_text
shape_in_line hidden sort_shape h = nothing
shape_in_line hidden (function_shape t) h =
    type_in_line _ _ (every_map _ OneLine (sort_text hidden) (sort_text_in_line hidden) t.inputs h.0) (sort_text_in_line hidden t.output h.1)
shape_in_line hidden (variable_shape s) h = quoted ":" refl (sort_text_in_line hidden s h)
