-- Entries of two texts on one tape: those of the customer's text are what they were, and those of the library are so once they are moved.
use Rattle.std.specs.Prelude.{◌≡◌, ℕ, ◌+◌, ◌-◌, ◌*◌, ◌/◌, ◌%◌, ◌^◌, ◌<◌, ◌≤◌, List, [], ◌∷◌, ◌++◌, map, length, refl}
use Rattle.std.proofs.Math.Path.{ap}
use Rattle.std.proofs.Common.{◌∙◌, append_assoc}
use native.Mathlib.Omega.{arith}
use Rattle.meaning.specs.OrderLaws.{Every}
use Rattle.meaning.specs.Lists.{each}
use Rattle.meaning.specs.Syntax.{Module}
use Rattle.text_names.specs.Word.{name_of}
use Rattle.text_names.specs.Joint.{joint, name_in_library, name_in_text}
use Rattle.tape.specs.Tape.{Entry, entry, spelled, flat_module, flat_modules}
use Rattle.read_meaning.specs.Matches.{Lies}
use Rattle.read_both.specs.Both.{shifted}

-- a place of a text that is read, and how far it is moved
low : (e l by : ℕ) → e / 32 / 256 ≤ l → l ≤ 32768 → by ≤ 268435456 → e + by < 2 ^ 32
low e l by h k b = omega arith

small : (a : ℕ) → a < 2 ^ 32 → a % 2 ^ 32 ≡ a
small a h = omega arith

module _ (library text : List ℕ) where
  pub in_text : (e : ℕ) → Lies text e → spelled (joint library text) e ≡ spelled text e
  unfolding spelled
  in_text e h = ap (entry (e % 32)) (name_in_text library text (e / 32) h)

  pub all_in_text : (es : List ℕ) → Every (Lies text) es → map (spelled (joint library text)) es ≡ map (spelled text) es
  all_in_text [] h = refl
  all_in_text (e ∷ es) h = λ i. in_text e h.0 i ∷ all_in_text es h.1 i

  -- an entry moved by the text's length: its role, and its word
  role_kept : (e l : ℕ) → (e + l * 8192) % 32 ≡ e % 32
  role_kept e l = omega arith

  word_moved : (e l : ℕ) → (e + l * 8192) / 32 ≡ e / 32 + l * 256
  word_moved e l = omega arith

  in_library : (e : ℕ) → Lies library e → length text ≤ 32768 → length library ≤ 32768
      → spelled (joint library text) (shifted (length text * 8192) e) ≡ spelled library e
  unfolding spelled shifted
  in_library e h l k =
      let w = e / 32 in
      let n = length text in
      let bound : e / 32 / 256 ≤ length library = omega (arith, h) in
      let fits : e + n * 8192 < 2 ^ 32 = low e (length library) (n * 8192) bound k (omega arith) in
      let plain : (e + n * 8192) % 2 ^ 32 ≡ e + n * 8192 = small (e + n * 8192) fits in
      let behind : n ≤ (w + n * 256) / 256 = omega arith in
      let back : w + n * 256 - n * 256 ≡ w = omega arith in
      rw (plain, role_kept e n, word_moved e n)
      (ap (entry (e % 32)) (name_in_library library text (w + n * 256) behind ∙ ap (name_of library) back))

  pub all_in_library : (es : List ℕ) → Every (Lies library) es → length text ≤ 32768 → length library ≤ 32768
      → map (spelled (joint library text)) (map (shifted (length text * 8192)) es) ≡ map (spelled library) es
  all_in_library [] h l k = refl
  all_in_library (e ∷ es) h l k = λ i. in_library e h.0 l k i ∷ all_in_library es h.1 l k i

pub flat_both : (ls ms : List Module) → flat_modules ls ++ flat_modules ms ≡ flat_modules (ls ++ ms)
unfolding flat_modules each
flat_both [] ms = refl
flat_both (l ∷ ls) ms = append_assoc (flat_module l) (flat_modules ls) (flat_modules ms) ∙ ap (λ (es : List Entry). flat_module l ++ es) (flat_both ls ms)
