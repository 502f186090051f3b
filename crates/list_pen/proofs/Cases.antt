-- One law for each way through the code, in the code's terms; those of digits are apart.
use mathlib.Core.Path.{◌≡◌, sym, ap, ◌∙◌}
use mathlib.Core.List.{List, [], ◌∷◌, ◌++◌}
use Prim.Native.Nat.{ℕ, ◌+◌, ◌-◌, ◌/◌, ◌%◌, ◌<◌, ◌≤◌, min}
use native.Mathlib.Numerals.{add-one}
use native.Mathlib.Omega.{arith}
use borrow.Author.Rules.{rules}
use lib.ListN.{length, get_or, take, drop, drop_of_length-le, length-drop}
use lib.Seq.{drop-cons, take-nil, take_all, drop-append-le, drop-append-add, take-append-le, take-append-add}
use Rattle.meaning.specs.Written.{digits, decimal}
use Rattle.meaning.specs.Names.{bytes}
use Rattle.meaning.specs.Numbers.{name_size}
use Rattle.text_names.specs.Word.{token_of, name_of, leading, trailing, name_parts}
use Rattle.text_names.specs.Joint.{joint}
use Rattle.list_pen.specs.Pen.{Pen, pen, written, part}
use Rattle.list_pen.proofs.Laws.{by_order, written_append, then}

-- a loop that writes the bytes: it is at i, the next place is t, the list is o
pub record Copying (l : ℕ) (bs : List ℕ) (at : ℕ) (o₀ : List ℕ) (i t : ℕ) (o : List ℕ) : Type 0 where
  pub sized : length o ≡ length o₀
  pub comes : written l bs (pen at o₀) ≡ written l (drop i bs) (pen t o)

module _ (l : ℕ) (bs : List ℕ) where
  module _ (at : ℕ) (o₀ : List ℕ) (i t : ℕ) (o : List ℕ) (v : Copying l bs at o₀ i t o) where
    pub copy_again : (r : ℕ) (o' : List ℕ) → i < length bs → length o' ≡ length o → pen r o' ≡ written l (get_or bs i 0 ∷ []) (pen t o)
        → Copying l bs at o₀ (i + 1) r o'
    unfolding written
    copy_again r o' h k e = record { sized = k ∙ v.sized; comes = v.comes ∙ rw (drop-cons bs i 0, e, add-one i) }

    pub copy_end : length bs ≤ i → pen t o ≡ written l bs (pen at o₀)
    unfolding written
    copy_end h = sym (v.comes ∙ rw (drop_of_length-le bs h))

-- the part of a text, where its ends are brought into the text
module _ (s : List ℕ) (start size first n : ℕ) (f : first ≡ min start (length s)) (e : n ≡ min size (length s - first)) where
  part_within : start ≤ length s → take n (drop start s) ≡ part s start size
  part_within h =
      let long : length (drop start s) ≡ length s - start = length-drop start s in
      by_order size (length s - start)
      (λ i. ap (λ (m : ℕ). take m (drop start s)) (omega arith))
      (λ i. take_all n (drop start s) (omega arith) ∙ sym (take_all size (drop start s) (omega arith)))

  part_past : length s ≤ start → take n (drop first s) ≡ part s start size
  part_past h =
      let past : length s ≤ first = omega arith in
      ap (take n) (drop_of_length-le s past) ∙ take-nil n ∙ sym (ap (take size) (drop_of_length-le s h) ∙ take-nil size)

  pub part_cut : take n (drop first s) ≡ part s start size
  part_cut =
      by_order start (length s)
      (λ h. ap (λ (m : ℕ). take n (drop m s)) (omega arith) ∙ part_within (omega arith))
      part_past

-- what is written of the part, once its bytes are
pub part_done : (l : ℕ) (s : List ℕ) (start size first n : ℕ) (p q : Pen) → first ≡ min start (length s) → n ≡ min size (length s - first)
    → q ≡ written l (take (first + n - first) (drop first s)) p → q ≡ written l (part s start size) p
part_done l s start size first n p q f e h =
    let whole : first + n - first ≡ n = omega arith in
    h ∙ ap (λ (bs : List ℕ). written l bs p) (ap (λ (m : ℕ). take m (drop first s)) whole ∙ part_cut s start size first n f e)

-- the token of a name of the text a and the library b behind it: it starts at w / 256 and may have k bytes
module _ (l : ℕ) (a b : List ℕ) (w k : ℕ) (p : Pen) (e : k ≡ min (w % 64) name_size) where
  module _ (h : w / 256 < length a) (q : Pen) (f : q ≡ written l (part a (w / 256) k) p) where
    pub token_left : k ≤ length a - w / 256 → q ≡ written l (token_of (joint b a) w) p
    unfolding token_of joint
    token_left z =
        let long : length (drop (w / 256) a) ≡ length a - w / 256 = length-drop (w / 256) a in
        f ∙ ap (λ (xs : List ℕ). written l xs p)
        (sym (ap (λ (n : ℕ). take n (drop (w / 256) (a ++ b))) (sym e) ∙ ap (take k) (drop-append-le (w / 256) a b (omega arith))
        ∙ take-append-le k (drop (w / 256) a) b (omega (arith, long))))

    pub token_over : (r : Pen) → length a - w / 256 < k → r ≡ written l (part b 0 (k - (length a - w / 256))) q → r ≡ written l (token_of (joint b a) w) p
    unfolding token_of joint
    token_over r z g =
        let m = length a - w / 256 in
        let size : min (w % 64) name_size ≡ m + (k - m) = omega arith in
        let long : length (drop (w / 256) a) ≡ m = length-drop (w / 256) a in
        let front : part a (w / 256) k ≡ drop (w / 256) a = take_all k (drop (w / 256) a) (omega arith) in
        g ∙ ap (written l (take (k - m) b)) (f ∙ ap (λ (xs : List ℕ). written l xs p) front)
        ∙ sym (written_append l (drop (w / 256) a) (take (k - m) b) p)
        ∙ ap (λ (xs : List ℕ). written l xs p)
        (sym (ap (λ (n : ℕ). take n (drop (w / 256) (a ++ b))) size ∙ ap (take (m + (k - m))) (drop-append-le (w / 256) a b (omega arith))
        ∙ ap (λ (n : ℕ). take (n + (k - m)) (drop (w / 256) a ++ b)) (sym long) ∙ take-append-add (drop (w / 256) a) b (k - m)))

  pub token_right : (q : Pen) → length a ≤ w / 256 → q ≡ written l (part b (w / 256 - length a) k) p → q ≡ written l (token_of (joint b a) w) p
  unfolding token_of joint
  token_right q h f =
      let place : w / 256 ≡ length a + (w / 256 - length a) = omega arith in
      f ∙ ap (λ (xs : List ℕ). written l xs p)
      (ap (λ (n : ℕ). part b (w / 256 - length a) n) e ∙ sym (ap (λ (i : ℕ). take (min (w % 64) name_size) (drop i (a ++ b))) place ∙ ap (take (min (w % 64) name_size)) (drop-append-add a b (w / 256 - length a))))

-- the name w of a text: i underlines, its token, j underlines
pub name_done : (l : ℕ) (text : List ℕ) (w i j : ℕ) (p q r s : Pen) → i ≡ leading w → q ≡ written l (part (bytes "_") 0 i) p → r ≡ written l (token_of text w) q
    → j ≡ trailing w → s ≡ written l (part (bytes "_") 0 j) r → s ≡ written l (name_of text w) p
name_done l text w i j p q r s e f g h k =
    let behind = then l (token_of text w) (take j (bytes "_")) q r s g k in
    then l (take i (bytes "_")) (token_of text w ++ take j (bytes "_")) p q s f behind
    ∙ ap (λ (xs : List ℕ). written l xs p) (rw (e, h) (sym (name_parts text w)))

pub number_done : (l n : ℕ) (p q : Pen) → q ≡ written l (digits 10 n) p → q ≡ written l (decimal n) p
unfolding decimal
number_done l n p q e = e

-- what the answers of this crate hand to `search`, but for those of digits and of tokens
pub ruleset cases = (copy_again, copy_end, part_done, name_done, number_done, rules)
