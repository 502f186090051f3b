-- The ways through the code, one law each: b, r and x are callees' answers.
use mathlib.Core.Path.{◌≡◌, refl, sym, ◌∙◌}
use mathlib.Core.Bool.{Bool, true, false}
use mathlib.Core.List.{List}
use Prim.Native.Nat.{ℕ, zero, suc, ◌+◌, ◌-◌, ◌*◌, ◌/◌, ◌%◌, ◌<◌, ◌≤◌, max}
use lib.Dec.{leb}
use lib.ListN.{get_or}
use native.Mathlib.Omega.{arith}
use native.Mathlib.Numerals.{add-one}
use borrow.Author.Rules.{rules}
use borrow.Author.Tests.{lt-ltb, le-ltb, eq-eqb, ne_eqb, leb-true, leb-false}
use Rattle.meaning.specs.Lists.{pick}
use Rattle.meaning.specs.Names.{Name, same}
use Rattle.meaning.specs.Origins as meant
use Rattle.meaning.specs.Origins.{visible_sort}
use Rattle.text_names.specs.Word.{name_of}
use Rattle.form_rows.specs.Entries.{role_at, word_at, name_at}
use Rattle.form_rows.specs.Rows.{hidden_origin, sort_of, row_size}
use Rattle.own_repeats.specs.Scans.{found, first_of}
use Rattle.own_repeats.proofs.Cases.{one_left, on, done, found_none, found_here, found_on}
use Rattle.own_declarations.specs.Sorts.{is_named, is_row, place_of, declares_at, declares_seen, hidden_place, is_seen, is_inside, resolved_in}
use Rattle.own_declarations.specs.Spelled.{first_found}
use Rattle.own_declarations.specs.declared.Own.{Own}

-- ---- the sort that a name means

first_none : (p : ℕ → Bool) (i e : ℕ) → e ≤ i → first_of p i (e - i) ≡ i
unfolding first_of
first_none p i e h = let z : e - i ≡ 0 = omega arith in rw z

module _ (p : ℕ → Bool) (i e : ℕ) where
  pub first_none_from : (a : ℕ) → (a ≤ e → i ≤ e) → e ≤ i → first_of p a (e - a) ≡ first_of p i (e - i) → max a e ≡ first_of p a (e - a)
  first_none_from a to_end h inv = go (leb a e) refl
    where
      go : (q : Bool) → leb a e ≡ q → max a e ≡ first_of p a (e - a)
      go true q = let l = leb-true a e q in let k = to_end l in let m : max a e ≡ i = omega arith in m ∙ sym (inv ∙ first_none p i e h)
      go false q = let l = leb-false a e q in let m : max a e ≡ a = omega arith in m ∙ sym (first_none p a e (omega arith))

  module _ (b : Bool) (h : i < e) (f : b ≡ p i) where
    pub first_here : b ≡ true → first_of p i (e - i) ≡ i
    unfolding first_of pick
    first_here q = rw (one_left i e h, ← f, q)

    pub first_on : b ≡ false → first_of p i (e - i) ≡ first_of p (i + 1) (e - (i + 1))
    unfolding first_of pick
    first_on q = rw (one_left i e h, ← f, q, add-one i)

pub found_start : (p : ℕ → Bool) (n : ℕ) → found p 0 n ≡ found p 0 (n - 0)
found_start p n = let z : n - 0 ≡ n = omega arith in rw z

module _ (text tape : List ℕ) (role : ℕ) (w i r : ℕ) (e : r ≡ role_at tape i) where
  pub named_there : (x : ℕ) (b : Bool) → r ≡ role → x ≡ word_at tape i → b ≡ same (name_of text w) (name_of text x) → b ≡ is_named text tape role (name_of text w) i
  unfolding is_named pick
  named_there x b q f g = rw (← e, eq-eqb r role q, ← f) g

  pub named_not : (r ≡ role → ⊥) → false ≡ is_named text tape role (name_of text w) i
  unfolding is_named pick
  named_not q = rw (← e, ne_eqb r role q)

module _ (text m : List ℕ) (b kind : ℕ) (w i r : ℕ) (e : r ≡ get_or m (b + i * row_size + 2) 0) where
  pub row_there : (x : ℕ) (y : Bool) → r ≡ kind → x ≡ get_or m (b + i * row_size + 1) 0 → y ≡ same (name_of text w) (name_of text x) → y ≡ is_row text m b kind (name_of text w) i
  unfolding is_row pick
  row_there x y q f g = rw (← e, eq-eqb r kind q, ← f) g

  pub row_not : (r ≡ kind → ⊥) → false ≡ is_row text m b kind (name_of text w) i
  unfolding is_row pick
  row_not q = rw (← e, ne_eqb r kind q)

-- one that passes one of two tests is found where either is passed
found_either : (p q both : ℕ → Bool) → ((i : ℕ) → both i ≡ pick (p i) true (q i)) → (i c : ℕ) → pick (found p i c) true (found q i c) ≡ found both i c
unfolding found pick
found_either p q both h i zero = refl
found_either p q both h i (suc c) = rw (h i, ← found_either p q both h (suc i) c) (go (p i) (q i) (found p (suc i) c) (found q (suc i) c))
  where
    go : (a b x y : Bool) → pick (pick a true x) true (pick b true y) ≡ pick (pick a true b) true (pick x true y)
    go true b x y = refl
    go false true true y = refl
    go false true false y = refl
    go false false x y = refl

pub declares_told : (text tape : List ℕ) (own : Own) (n : Name) (r : Bool) → r ≡ found (declares_at text tape n) own.from (own.end - own.from)
    → r ≡ declares_seen text tape own n
unfolding declares_seen declares_at place_of
declares_told text tape own n r h =
    let a = own.from in
    let c = own.end - own.from in
    rw (first_found text tape (is_named text tape 3 n) c a own.end refl, first_found text tape (is_named text tape 5 n) c a own.end refl)
    (h ∙ sym (found_either (is_named text tape 3 n) (is_named text tape 5 n) (declares_at text tape n) (λ i. refl) a c))

module _ (text tape : List ℕ) (own : Own) (w x : ℕ) where
  pub hidden_found : x ≡ first_of (is_named text tape 7 (name_of text w)) own.from (own.end - own.from) → x ≡ hidden_place text tape own (name_of text w)
  unfolding hidden_place place_of
  hidden_found e = e

module _ (text tape m : List ℕ) (own : Own) (n : Name) (d : ℕ) (e : d ≡ hidden_place text tape own n) where
  pub inside_hidden : d < own.end → true ≡ is_inside text tape m own n
  unfolding is_inside pick
  inside_hidden h = rw (← e, lt-ltb d own.end h) (go (is_seen text tape m own n))
    where
      go : (b : Bool) → true ≡ pick b true true
      go true = refl
      go false = refl

  pub inside_seen : (b : Bool) → own.end ≤ d → b ≡ is_seen text tape m own n → b ≡ is_inside text tape m own n
  unfolding is_inside pick
  inside_seen b h f = rw (← e, le-ltb d own.end h, ← f) (go b)
    where
      go : (b : Bool) → b ≡ pick b true false
      go true = refl
      go false = refl

-- a visible sort's word, and a hidden one's
sort_visible : (text tape : List ℕ) (w : ℕ) → sort_of text tape (w * 2) ≡ visible_sort (name_of text w)
unfolding sort_of pick
sort_visible text tape w =
    let a : w * 2 % 2 ≡ 0 = omega arith in
    let b : w * 2 / 2 ≡ w = omega arith in
    rw (a, b)

sort_hidden : (text tape : List ℕ) (d : ℕ) → sort_of text tape (d * 2 + 1) ≡ meant.hidden_sort (hidden_origin text tape d)
unfolding sort_of pick
sort_hidden text tape d =
    let a : (d * 2 + 1) % 2 ≡ 1 = omega arith in
    let b : (d * 2 + 1) / 2 ≡ d = omega arith in
    rw (a, b)

module _ (text tape m : List ℕ) (own : Own) (w : ℕ) (b : Bool) (e : b ≡ is_seen text tape m own (name_of text w)) where
  pub resolved_seen : b ≡ true → sort_of text tape (w * 2) ≡ resolved_in text tape m own (name_of text w)
  unfolding resolved_in pick
  resolved_seen q = sort_visible text tape w ∙ rw (← e, q)

  module _ (d : ℕ) (q : b ≡ false) (f : d ≡ hidden_place text tape own (name_of text w)) where
    pub resolved_hidden : d < own.end → sort_of text tape (d * 2 + 1) ≡ resolved_in text tape m own (name_of text w)
    unfolding resolved_in pick
    resolved_hidden h = sort_hidden text tape d ∙ rw (← e, q, ← f, lt-ltb d own.end h)

    pub resolved_other : own.end ≤ d → sort_of text tape (w * 2) ≡ resolved_in text tape m own (name_of text w)
    unfolding resolved_in pick
    resolved_other h = sort_visible text tape w ∙ rw (← e, q, ← f, le-ltb d own.end h)

pub resolved_there : (text tape m : List ℕ) (own : Own) (i x r : ℕ) → x ≡ get_or tape i 0
    → sort_of text tape r ≡ resolved_in text tape m own (name_of text (x / 32)) → sort_of text tape r ≡ resolved_in text tape m own (name_at text tape i)
resolved_there text tape m own i x r e h = rw (← e) h

pub ruleset cases = (
  on,
  done,
  found_none,
  found_here,
  found_on,
  first_none_from,
  first_here,
  first_on,
  found_start,
  named_there,
  named_not,
  row_there,
  row_not,
  hidden_found,
  declares_told,
  inside_seen,
  inside_hidden,
  resolved_seen,
  resolved_hidden,
  resolved_other,
  resolved_there,
  rules,
)
