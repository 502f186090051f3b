-- The cases of the definitions, one for each way through the code, in the code's terms: e and k are where line and key end, n is the key's number.
use mathlib.Core.Path.{◌≡◌}
use mathlib.Core.Bool.{true, false}
use mathlib.Core.List.{List}
use Prim.Native.Nat.{ℕ, ◌+◌, ◌<◌, ◌≤◌}
use native.Mathlib.Omega.{arith}
use lib.ListN.{length, get_or, drop}
use borrow.Author.Tests.{eq-eqb, ne_eqb, lt-ltb, le-ltb}
use Rattle.meaning.specs.Lists.{pick}
use Rattle.meaning.specs.Names.{slice}
use Rattle.meaning.specs.Tokens.{run_end}
use Rattle.meaning.specs.Answer.{in_line}
use Rattle.meaning.specs.Reader.{in_key}
use Rattle.text_names.proofs.Runs.{front}
use Rattle.reader.specs.declared.Line.{Line}
use Rattle.reader.specs.declared.Line.TheVariants.{Keyed, End, Bad}
use Rattle.reader.specs.declared.Places.{Places}
use Rattle.reader.specs.declared.Step.{Step}
use Rattle.reader.specs.Places.{key_number, places_at, LineRead, place_after, step_at}
use Rattle.reader.specs.Means.{line_read}

-- where a line and a key go on
module _ (s : List ℕ) (i : ℕ) where
  pub line_on : (get_or s i 0 ≡ 10 → ⊥) → in_line (drop i s) ≡ true
  unfolding pick
  line_on h = rw (front, ne_eqb (get_or s i 0) 10 h)

  pub line_off : get_or s i 0 ≡ 10 → in_line (drop i s) ≡ false
  unfolding pick
  line_off h = rw (front, h)

  pub key_on : (get_or s i 0 ≡ 10 → ⊥) → (get_or s i 0 ≡ 61 → ⊥) → in_key (drop i s) ≡ true
  key_on h g = rw (front, ne_eqb (get_or s i 0) 10 h, ne_eqb (get_or s i 0) 61 g)

  pub key_off_line : get_or s i 0 ≡ 10 → in_key (drop i s) ≡ false
  key_off_line h = rw (front, h)

  pub key_off_mark : get_or s i 0 ≡ 61 → in_key (drop i s) ≡ false
  key_off_mark h = rw (front, h)

-- what stands at a place
module _ (s : List ℕ) (at : ℕ) where
  pub line_past : length s < at → LineRead s at (Bad at)
  unfolding places_at pick
  line_past h = line_read s at (Bad at) (rw (lt-ltb (length s) at h))

  pub line_none : at ≡ length s → LineRead s at End
  unfolding places_at pick
  line_none h = line_read s at End (rw (le-ltb (length s) at (omega arith), eq-eqb at (length s) h))

  module _ (p : at ≤ length s) (q : at ≡ length s → ⊥) (e : ℕ) (he : e ≡ run_end in_line s at) where
    pub line_open : length s ≤ e → LineRead s at (Bad at)
    unfolding places_at pick
    line_open l =
        line_read s at (Bad at) (rw (le-ltb (length s) at p, ne_eqb at (length s) q, ← he, le-ltb e (length s) l))

    module _ (l : e < length s) (k : ℕ) (hk : k ≡ run_end in_key s at) where
      pub line_unmarked : e ≤ k → LineRead s at (Bad at)
      unfolding places_at pick
      line_unmarked m =
          line_read s at (Bad at)
          (rw (le-ltb (length s) at p, ne_eqb at (length s) q, ← he, ← hk, lt-ltb e (length s) l, le-ltb k e m))

      module _ (m : k < e) (n : ℕ) (hn : n ≡ key_number (slice s at k)) where
        pub line_unknown : n ≡ 0 → LineRead s at (Bad at)
        unfolding places_at pick
        line_unknown z =
            line_read s at (Bad at)
            (rw (le-ltb (length s) at p, ne_eqb at (length s) q, ← he, ← hk, ← hn, lt-ltb e (length s) l, lt-ltb k e m, eq-eqb n 0 z))

        pub line_keyed : (n ≡ 0 → ⊥)
            → LineRead s at (Keyed (record { number = n; mark = k; value = k + 1; end = e; next = e + 1 }))
        unfolding places_at pick
        line_keyed z =
            line_read s at (Keyed (record { number = n; mark = k; value = k + 1; end = e; next = e + 1 }))
            (rw (le-ltb (length s) at p, ne_eqb at (length s) q, ← he, ← hk, ← hn, lt-ltb e (length s) l, lt-ltb k e m, ne_eqb n 0 z))

-- the place after each
pub after_keyed : (l : Line) (p : Places) (at : ℕ) → l ≡ Keyed p → p.next ≡ place_after l at
unfolding place_after
after_keyed l p at h = rw h

pub after_end : (l : Line) (at : ℕ) → l ≡ End → at ≡ place_after l at
unfolding place_after
after_end l at h = rw h

pub after_bad : (l : Line) (place at : ℕ) → l ≡ Bad place → place ≡ place_after l at
unfolding place_after
after_bad l place at h = rw h

-- a step: the line, and the place after it
pub stepped : (s : List ℕ) (at : ℕ) (r : Line) (next : ℕ) → LineRead s at r → next ≡ place_after r at
    → ◌≡◌ {A = Step} (record { line = r; cursor = record { at = next } }) (step_at s at)
unfolding step_at
stepped s at r next h g = rw (g, h.placed)
