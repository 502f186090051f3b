-- Laws of names of two texts, in the code's terms: t is the text, l the library behind it, w a word.
use mathlib.Core.Path.{◌≡◌, sym, ◌∙◌}
use mathlib.Core.Bool.{Bool, true}
use mathlib.Core.List.{List}
use Prim.Native.Nat.{ℕ, ◌+◌, ◌-◌, ◌*◌, ◌/◌, ◌%◌, ◌≤◌, min}
use native.Mathlib.Omega.{arith}
use lib.ListN.{length, take, drop}
use lib.Seq.{take-length}
use borrow.Author.Rules.{rules}
use borrow.Author.Tests.{leb-true, lt-ltb}
use mir.Syntax.{w32}
use mir.Val.{Fits}
use Rattle.std.proofs.Common.{Option, Some}
use Rattle.std.specs.declared.cmp.Ordering.{Ordering}
use Rattle.std.specs.Ordering.{ordering_index}
use Rattle.meaning.specs.Lists.{pick}
use Rattle.meaning.specs.Names.{same}
use Rattle.text_names.specs.Word.{token_of, name_of, plain_name}
use Rattle.text_spelling.specs.Word.{word_parts}
use Rattle.text_runs.specs.Orders.{compared}
use Rattle.text_runs.specs.Runs.{Seen}
use Rattle.text_runs.specs.Codes.{seen_index, seen_told}
use Rattle.text_names.specs.Joint.{joint, name_in_library, name_in_text}
use Rattle.text_seams.specs.Sides.{has_room, have_room, both_behind}
use Rattle.text_places.proofs.Places.{first_true, second_true, same_words, alone}
use Rattle.text_names.proofs.Auto.{told}
use Rattle.text_names.proofs.Compared.{not_after_told}

-- the same names are level
pub level_told : (x y : List ℕ) (s : Bool) → s ≡ same x y → s ≡ true → 1 ≡ compared x y
unfolding compared pick
level_told x y s e h = rw (← e, h)

-- ---- where they stand

module _ (n w : ℕ) (h : has_room n w ≡ true) where
  short : w % 256 ≤ 40
  unfolding has_room
  short = leb-true (w % 256) 40 (first_true _ _ h)

  within : w / 256 + 40 ≤ n
  unfolding has_room
  within = leb-true (w / 256 + 40) n (second_true _ _ h)

-- what the two tests tell of each of the names
module _ (n a b : ℕ) (q : Bool) (y : q ≡ true) where
  module _ (e : q ≡ have_room n a b) where
    first_room : has_room n a ≡ true
    unfolding have_room
    first_room = first_true _ _ (sym e ∙ y)

    second_room : has_room n b ≡ true
    unfolding have_room
    second_room = second_true _ _ (sym e ∙ y)

    pub first_within : a / 256 + a % 256 ≤ n
    first_within = omega (arith, short n a first_room, within n a first_room)

    pub second_within : b / 256 + b % 256 ≤ n
    second_within = omega (arith, short n b second_room, within n b second_room)

  pub first_behind : q ≡ both_behind n a b → n * 256 ≤ a
  unfolding both_behind
  first_behind e = omega (arith, leb-true n (a / 256) (first_true _ _ (sym e ∙ y)))

  pub behind_fits : q ≡ both_behind n a b → Fits w32 a → Fits w32 n
  behind_fits e h = omega (arith, h, first_behind e)

  pub moved_fits : q ≡ both_behind n a b → Fits w32 a → Fits w32 (n * 256)
  moved_fits e h = omega (arith, h, first_behind e)

  pub second_behind : q ≡ both_behind n a b → n * 256 ≤ b
  unfolding both_behind
  second_behind e = omega (arith, leb-true n (b / 256) (second_true _ _ (sym e ∙ y)))

module _ (l t : List ℕ) where
  text_part : (w : ℕ) → has_room (length t) w ≡ true → take (w / 256 + w % 256 - w / 256) (drop (w / 256) t) ≡ name_of (joint l t) w
  unfolding token_of
  text_part w h =
      let few = short (length t) w h in
      let size : w / 256 + w % 256 - w / 256 ≡ min (w % 64) 40 = omega (arith, few, word_parts w) in
      let here = name_in_text l t w (omega (arith, within (length t) w h)) in
      rw size (sym (here ∙ plain_name t w (lt-ltb (w % 256) 64 (omega (arith, few)))))

  library_name : (w : ℕ) → length t * 256 ≤ w → name_of l (w - length t * 256) ≡ name_of (joint l t) w
  library_name w h = sym (name_in_library l t w (omega arith))

  module _ (a b : ℕ) (q : Bool) (y : q ≡ true) where
    module _ (e : q ≡ have_room (length t) a b) where
      first_part : take (a / 256 + a % 256 - a / 256) (drop (a / 256) t) ≡ name_of (joint l t) a
      first_part = text_part a (first_room (length t) a b q y e)

      second_part : take (b / 256 + b % 256 - b / 256) (drop (b / 256) t) ≡ name_of (joint l t) b
      second_part = text_part b (second_room (length t) a b q y e)

      pub here_seen : (r : Option Ordering)
          → Seen (take (a / 256 + a % 256 - a / 256) (drop (a / 256) t)) (take (b / 256 + b % 256 - b / 256) (drop (b / 256) t)) (seen_index r)
          → (o : Ordering) → r ≡ Some o → ordering_index o ≡ compared (name_of (joint l t) a) (name_of (joint l t) b)
      here_seen r h o z = rw (← first_part, ← second_part) (seen_told _ _ r o h z)

      pub here_same : (r : Bool) → r ≡ same (take (a / 256 + a % 256 - a / 256) (drop (a / 256) t)) (take (b / 256 + b % 256 - b / 256) (drop (b / 256) t))
          → r ≡ same (name_of (joint l t) a) (name_of (joint l t) b)
      here_same r h = rw (first_part, second_part) at h

    pub there_seen : q ≡ both_behind (length t) a b → (r : Option Ordering)
        → Seen (name_of l (a - length t * 256)) (name_of l (b - length t * 256)) (seen_index r)
        → (o : Ordering) → r ≡ Some o → ordering_index o ≡ compared (name_of (joint l t) a) (name_of (joint l t) b)
    there_seen e r h o z =
        rw (← library_name a (first_behind (length t) a b q y e), ← library_name b (second_behind (length t) a b q y e)) (seen_told _ _ r o h z)

    pub there_same : q ≡ both_behind (length t) a b → (r : Bool) → r ≡ same (name_of l (a - length t * 256)) (name_of l (b - length t * 256))
        → r ≡ same (name_of (joint l t) a) (name_of (joint l t) b)
    there_same e r h =
        rw (library_name a (first_behind (length t) a b q y e), library_name b (second_behind (length t) a b q y e)) at h

  -- the texts handed on as parts that are all of them
  whole : (s : List ℕ) → take (length s - 0) (drop 0 s) ≡ s
  whole s = let n : length s - 0 ≡ length s = omega arith in rw n (take-length s)

  module _ (a b : ℕ) where
    pub elsewhere_compared : (r : ℕ)
        → r ≡ compared (name_of (joint (take (length l - 0) (drop 0 l)) (take (length t - 0) (drop 0 t))) a)
        (name_of (joint (take (length l - 0) (drop 0 l)) (take (length t - 0) (drop 0 t))) b)
        → r ≡ compared (name_of (joint l t) a) (name_of (joint l t) b)
    elsewhere_compared r e = rw (whole l, whole t) at e

    pub elsewhere_same : (r : Bool)
        → r ≡ same (name_of (joint (take (length l - 0) (drop 0 l)) (take (length t - 0) (drop 0 t))) a)
        (name_of (joint (take (length l - 0) (drop 0 l)) (take (length t - 0) (drop 0 t))) b)
        → r ≡ same (name_of (joint l t) a) (name_of (joint l t) b)
    elsewhere_same r e = rw (whole l, whole t) at e

-- ---- a text with none behind it

pub alone_called : (s t asked : List ℕ) (w : ℕ) (r : Bool) → r ≡ same (name_of (joint (take (0 - 0) (drop 0 s)) t) w) asked → r ≡ same (name_of t w) asked
alone_called s t asked w r h = rw (alone s t) at h

pub alone_compared : (t : List ℕ) (a b r : ℕ)
    → r ≡ compared (name_of (joint (take (0 - 0) (drop 0 t)) t) a) (name_of (joint (take (0 - 0) (drop 0 t)) t) b)
    → r ≡ compared (name_of t a) (name_of t b)
alone_compared t a b r h = rw (alone t t) at h

-- what the answers for these functions hand to `search`
pub ruleset cases = (first_within, second_within, first_behind, behind_fits, moved_fits, second_behind, here_seen, here_same, there_seen, there_same, elsewhere_compared, elsewhere_same, level_told, same_words, not_after_told, told, rules)
