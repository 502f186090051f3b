-- One law for each way through the code.
use mathlib.Core.Path.{◌≡◌, refl, sym, ap, ◌∙◌}
use Prim.Native.Nat.{ℕ, zero, suc, ◌+◌, ◌-◌, ◌<◌, ◌≤◌}
use native.Mathlib.Omega.{arith}
use mathlib.Core.Bool.{Bool, false}
use mathlib.Core.List.{List, [], ◌++◌}
use borrow.Author.Rules.{rules}
use lib.ListN.{length, drop, replicate, length-replicate}
use Rattle.meaning.specs.Numbers.{asked_absent, lent_short}
use Rattle.meaning.specs.Checks.{lone}
use Rattle.meaning.specs.Reached.{short_or_blank}
use Rattle.meaning.specs.Answer.{refusal, unread}
use Rattle.text_names.specs.Word.{name_of, name_short}
use Rattle.form.specs.declared.Culprit.{Culprit}
use Rattle.form.specs.Verdicts.{culprit_of}
use Rattle.list_pen.specs.Pen.{pen, written}
use Rattle.list_pen.proofs.Laws.{laid, reached}
use Rattle.answer.specs.declared.Name.{Name}
use Rattle.answer.specs.Answers.{told_size, held, told, told_listed}
use Rattle.answer.specs.Told.{short_name, long_name, refusal_held, refusal_told, unread_held, unread_told}

-- ---- names

abbrev zeros : List ℕ
zeros = replicate told_size 0

drop_zeros : (k m : ℕ) → drop {A = ℕ} m (replicate k 0) ≡ replicate (k - m) 0
drop_zeros zero zero = refl
drop_zeros zero (suc m) = let z : zero - suc m ≡ zero = omega arith in rw z
drop_zeros (suc k) zero = let z : suc k - zero ≡ suc k = omega arith in rw z
drop_zeros (suc k) (suc m) = let z : suc k - suc m ≡ k - m = omega arith in rw z (drop_zeros k m)

pub is_blank : record { bytes = zeros; length = 0 } ≡ held []
unfolding held
is_blank = refl

name_held : (n b : List ℕ) (k : ℕ) → length n ≤ told_size → pen k b ≡ written 43 n (pen 0 zeros) → record { bytes = b; length = k } ≡ held n
unfolding held
name_held n b k h e =
    let bytes = laid 43 0 k n zeros b (omega (arith, length-replicate {A = ℕ} told_size 0)) (omega arith) (omega (arith, length-replicate {A = ℕ} told_size 0)) e in
    let size = reached 43 0 k n zeros b (omega arith) e in
    let z : 0 + length n ≡ length n = omega arith in
    λ i. record {
      bytes = (bytes ∙ ap (λ (m : ℕ). n ++ drop m zeros) z ∙ ap (λ (r : List ℕ). n ++ r) (drop_zeros told_size (length n))) i;
      length = (size ∙ z) i;
    }

pub short_held : (n b : List ℕ) (k : ℕ) → length n ≤ 40 → pen k b ≡ written 43 n (pen 0 zeros) → record { bytes = b; length = k } ≡ held (short_or_blank n)
short_held n b k h e = name_held n b k (omega arith) e ∙ ap held (sym (short_name n h))

pub long_blank : (n : List ℕ) (r : Name) → 40 < length n → r ≡ held [] → r ≡ held (short_or_blank n)
long_blank n r h e = e ∙ ap held (sym (long_name n h))

pub word_held : (text b : List ℕ) (w k : ℕ) → pen k b ≡ written 43 (name_of text w) (pen 0 zeros) → record { bytes = b; length = k } ≡ held (name_of text w)
word_held text b w k e = name_held (name_of text w) b k (name_short text w) e

-- a name that is held, by its size
module _ (n : List ℕ) (r : Name) (k : ℕ) (e : r ≡ held n) (f : k ≡ r.length) where
  size_told : k ≡ length n
  unfolding held
  size_told = f ∙ ap (λ (x : Name). x.length) e

  pub held_long : (none : Name) → 40 < k → none ≡ held [] → none ≡ held (short_or_blank n)
  held_long none h g = g ∙ ap held (sym (long_name n (omega (arith, size_told))))

  pub held_short : k ≤ 40 → r ≡ held (short_or_blank n)
  held_short h = e ∙ ap held (sym (short_name n (omega (arith, size_told))))

-- ---- answers

blank_so : held [] ≡ held (short_or_blank [])
blank_so = ap held (sym (short_name [] (omega arith)))

pub is_listed : (modules size : ℕ) (none : Name) → none ≡ held []
    → record { number = 0; modules = modules; evaluating = none; culprit = none; actual = none; at = 0; in_library = false; listing = size }
    ≡ told_listed modules size
unfolding told_listed
is_listed modules size none e = rw e

pub is_unread : (in_library : Bool) (number at : ℕ) (none : Name) → none ≡ held []
    → unread_held in_library number none none none at ≡ told (unread in_library number at)
is_unread in_library number at none e =
    (λ i. unread_held in_library number ((e ∙ blank_so) i) (e i) (e i) at) ∙ sym (unread_told in_library number at)

pub is_absent : (asked : List ℕ) (name none : Name) → name ≡ held (short_or_blank asked) → none ≡ held []
    → refusal_held 6 0 name name none 0 ≡ told (refusal asked_absent 0 asked (lone (short_or_blank asked)) 0)
is_absent asked name none e f =
    (λ i. refusal_held 6 0 (e i) (e i) (f i) 0) ∙ sym (refusal_told asked_absent 0 asked (lone (short_or_blank asked)) 0)

pub is_refused : (text : List ℕ) (number modules m : ℕ) (c : Culprit) (evaluating name actual : Name) → evaluating ≡ held (short_or_blank (name_of text m))
    → name ≡ held (name_of text c.name) → actual ≡ held (name_of text c.actual)
    → refusal_held number modules evaluating name actual 0 ≡ told (refusal number modules (name_of text m) (culprit_of text c) 0)
unfolding culprit_of
is_refused text number modules m c evaluating name actual e f g =
    (λ i. refusal_held number modules (e i) (f i) (g i) 0)
    ∙ sym (refusal_told number modules (name_of text m) (culprit_of text c) 0)

pub is_short : (asked : List ℕ) (modules : ℕ) (evaluating none : Name) → evaluating ≡ held (short_or_blank asked) → none ≡ held []
    → refusal_held 19 modules evaluating none none 0 ≡ told (refusal lent_short modules asked (lone []) 0)
is_short asked modules evaluating none e f =
    (λ i. refusal_held 19 modules (e i) (f i) (f i) 0) ∙ sym (refusal_told lent_short modules asked (lone []) 0)

pub ruleset cases = (is_blank, short_held, long_blank, word_held, held_long, held_short, is_listed, is_unread, is_absent, is_refused, is_short, rules)
