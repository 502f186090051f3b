-- Names of two texts as one, which `text_bytes` joins.
unfoldable pub use Rattle.text_bytes.specs.Joint.{joint}
use Rattle.std.specs.Prelude.{◌≡◌, List, ◌++◌, drop}
use Rattle.std.proofs.Common.{sym, ◌∙◌}
use Rattle.std.proofs.Math.Path.{ap}
use Prim.Native.Nat.{ℕ, ◌+◌, ◌-◌, ◌*◌, ◌/◌, ◌%◌, ◌≤◌, min}
use native.Mathlib.Omega.{arith}
use Rattle.std.proofs.Math.ListN.{length, take, length-append, length-drop}
use Rattle.std.proofs.Math.Seq.{take-append-le, drop-append-add}
use Rattle.std.proofs.lemmas.List.{drop-append-le}
use Rattle.meaning.specs.Numbers.{name_size}
use Rattle.text_spelling.specs.Word.{in_form, token_of, name_of, word_parts}

-- a word moved by n places
module _ (w n : ℕ) (h : n ≤ w / 256) where
  moved_place : (w - n * 256) / 256 ≡ w / 256 - n
  moved_place = omega arith

  moved_low : (w - n * 256) % 256 ≡ w % 256
  moved_low = omega arith

  moved_form : (w - n * 256) / 64 % 4 ≡ w / 64 % 4
  moved_form = omega (arith, moved_low, word_parts (w - n * 256), word_parts w)

  moved_size : (w - n * 256) % 64 ≡ w % 64
  moved_size = rest (sym (word_parts (w - n * 256)) ∙ moved_low ∙ word_parts w) moved_form
    where
      rest : {f g r s : ℕ} → f * 64 + r ≡ g * 64 + s → f ≡ g → r ≡ s
      rest e i = omega (arith, e, i)

module _ (library text : List ℕ) where
  pub joint_length : length (joint library text) ≡ length text + length library
  unfolding joint
  joint_length = length-append text library

  -- a name of the text is the same name of both
  pub name_in_text : (w : ℕ) → w / 256 + min (w % 64) name_size ≤ length text → name_of (joint library text) w ≡ name_of text w
  unfolding joint name_of token_of
  name_in_text w h =
      let k = min (w % 64) name_size in
      ap (in_form (w / 64 % 4))
      (ap (take k) (drop-append-le (w / 256) text library (omega arith)) ∙ take-append-le k (drop (w / 256) text) library (omega (arith, length-drop (w / 256) text)))

  -- a name of the library is that of both whose place is moved by the text's length
  pub name_in_library : (w : ℕ) → length text ≤ w / 256 → name_of (joint library text) w ≡ name_of library (w - length text * 256)
  unfolding joint name_of token_of
  name_in_library w h =
      let s = w / 256 in
      let place : s ≡ length text + (s - length text) = omega arith in
      rw (moved_size w (length text) h, moved_place w (length text) h, moved_form w (length text) h)
      (ap (in_form (w / 64 % 4))
      (ap (λ (i : ℕ). take (min (w % 64) name_size) (drop i (text ++ library))) place
      ∙ ap (take (min (w % 64) name_size)) (drop-append-add text library (s - length text))))
