-- Laws of what is compared, one for each way through the code, in the code's terms: r is an answer, `more` the tape of the other text.
use mathlib.Core.Path.{◌≡◌, refl, sym, ap, ◌∙◌}
use mathlib.Core.Bool.{Bool, true, false}
use mathlib.Core.List.{List}
use Prim.Native.Nat.{ℕ, zero, suc, ◌+◌, ◌-◌, ◌/◌, ◌%◌, ◌<◌, ◌≤◌}
use native.Mathlib.Omega.{arith}
use native.Mathlib.Numerals.{add-one}
use lib.ListN.{get_or}
use borrow.Author.Rules.{rules}
use borrow.Author.Tests.{eq-eqb, ne_eqb}
use Rattle.meaning.specs.Lists.{pick, agree}
use Rattle.meaning.specs.Names.{same}
use Rattle.text_names.specs.Word.{name_of}
use Rattle.tape.specs.Tape.{spelled}
use Rattle.form_rows.specs.Entries.{role_at}
use Rattle.ask_alike.specs.Alike.{same_entry, entry_at, entries_from, section_role, run_size}

-- ---- entries of two tapes

module _ (text tape other more : List ℕ) where
  module _ (i j v w : ℕ) (e : v ≡ get_or tape i 0) (f : w ≡ get_or more j 0) where
    pub entry_told : (r : Bool) → v % 32 ≡ w % 32 → r ≡ same (name_of text (v / 32)) (name_of other (w / 32))
        → r ≡ same_entry (entry_at text tape i) (entry_at other more j)
    unfolding same_entry spelled pick
    entry_told r h g = rw (← e, ← f, eq-eqb (v % 32) (w % 32) h) g

    pub entry_apart : (v % 32 ≡ w % 32 → ⊥) → false ≡ same_entry (entry_at text tape i) (entry_at other more j)
    unfolding same_entry spelled pick
    entry_apart h = rw (← e, ← f, ne_eqb (v % 32) (w % 32) h)

  -- n entries from i on, and m from j on
  abbrev pub Alike : ℕ → ℕ → ℕ → ℕ → Bool
  Alike i n j m = agree same_entry (entries_from text tape i n) (entries_from other more j m)

  -- those before p and q are the same, and `left` are left
  pub record Comparing (i j n p q left : ℕ) : Type 0 where
    pub first_end : p + left ≡ i + n
    pub second_end : q + left ≡ j + n
    pub rest : Alike i n j n ≡ Alike p left q left

  pub compare_none : (i j n : ℕ) → Comparing i j n i j n
  compare_none i j n = record { first_end = refl; second_end = refl; rest = refl }

  module _ (i j n p q left : ℕ) (h : Comparing i j n p q left) where
    pub compare_end : left ≤ 0 → true ≡ Alike i n j n
    unfolding entries_from agree
    compare_end l = let z : left ≡ 0 = omega arith in sym (h.rest ∙ rw z)

    module _ (r : Bool) (l : 0 < left) (t : r ≡ same_entry (entry_at text tape p) (entry_at other more q)) where
      one_more : Alike p left q left ≡ pick r (Alike (p + 1) (left - 1) (q + 1) (left - 1)) false
      unfolding entries_from agree
      one_more =
          let s : left ≡ suc (left - 1) = omega arith in
          ap (λ (k : ℕ). Alike p k q k) s ∙ rw (← t, add-one p, add-one q)

      pub compare_on : (fewer : ℕ) → left ≡ suc fewer → r ≡ true → Comparing i j n (p + 1) (q + 1) fewer
      unfolding pick
      compare_on fewer e u =
          let m : left - 1 ≡ fewer = omega (arith, e) in
          record { first_end = omega (arith, h.first_end, e); second_end = omega (arith, h.second_end, e); rest = h.rest ∙ one_more ∙ rw (u, m) }

      pub compare_off : r ≡ false → false ≡ Alike i n j n
      unfolding pick
      compare_off u = sym (h.rest ∙ one_more ∙ rw u)

  pub runs_apart : (i n j m : ℕ) → (n ≡ m → ⊥) → false ≡ Alike i n j m
  unfolding entries_from agree pick
  runs_apart i zero j zero h = absurd (h refl)
  runs_apart i zero j (suc m) h = refl
  runs_apart i (suc n) j zero h = refl
  runs_apart i (suc n) j (suc m) h = rw (← runs_apart (suc i) n (suc j) m (λ q. h (ap suc q))) (go (same_entry (entry_at text tape i) (entry_at other more j)))
    where
      go : (b : Bool) → false ≡ pick b false false
      go true = refl
      go false = refl

  pub runs_told : (i n j m : ℕ) (r : Bool) → n ≡ m → r ≡ Alike i n j n → r ≡ Alike i n j m
  runs_told i n j m r h e = e ∙ ap (λ (k : ℕ). Alike i n j k) h

  pub sizes_told : (i n a j m b : ℕ) (r : Bool) → n ≡ a → m ≡ b → r ≡ Alike i n j m → r ≡ Alike i a j b
  sizes_told i n a j m b r e f h = rw (← e, ← f) h

-- ---- the entries of a section from i on: those up to j are counted

pub record Counted (s : ℕ) (tape : List ℕ) (i end j : ℕ) : Type 0 where
  pub from : i ≤ j
  pub top : j - i ≤ end - i
  pub rest : run_size s tape i (end - i) ≡ j - i + run_size s tape j (end - j)

pub count_none : (s : ℕ) (tape : List ℕ) (i end : ℕ) → Counted s tape i end i
count_none s tape i end = record { from = omega arith; top = omega arith; rest = omega arith }

module _ (s : ℕ) (tape : List ℕ) (i end j : ℕ) (h : Counted s tape i end j) where
  pub count_end : end ≤ j → (r : ℕ) → r ≡ end - i → r ≡ run_size s tape i (end - i)
  unfolding run_size
  count_end l r e =
      let z : end - j ≡ 0 = omega arith in
      let none : run_size s tape j (end - j) ≡ 0 = rw z in
      omega (arith, h.rest, h.top, e)

  module _ (r : ℕ) (b : Bool) (e : r ≡ role_at tape j) (f : b ≡ section_role s r) (l : j < end) where
    one_counted : run_size s tape j (end - j) ≡ pick b (suc (run_size s tape (j + 1) (end - (j + 1)))) 0
    unfolding run_size
    one_counted =
        let z : end - j ≡ suc (end - (j + 1)) = omega arith in
        rw (z, f, e, add-one j)

    pub count_on : b ≡ true → Counted s tape i end (j + 1)
    unfolding pick
    count_on q =
        let more : run_size s tape j (end - j) ≡ suc (run_size s tape (j + 1) (end - (j + 1))) = one_counted ∙ rw q in
        record { from = omega (arith, h.from); top = omega (arith, h.from, l); rest = omega (arith, h.from, h.rest) }

    pub count_stop : b ≡ false → j - i ≡ run_size s tape i (end - i)
    unfolding pick
    count_stop q =
        let none : run_size s tape j (end - j) ≡ 0 = one_counted ∙ rw q in
        omega (arith, h.rest)

pub ruleset cases = (entry_told, entry_apart, compare_none, compare_end, compare_on, compare_off, runs_apart, runs_told, sizes_told, rules)

pub ruleset sections = (count_none, count_end, count_on, count_stop, rules)
