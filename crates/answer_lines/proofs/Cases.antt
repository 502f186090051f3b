-- One law for each way through the code, in the code's terms.
use mathlib.Core.Path.{◌≡◌}
use mathlib.Core.Bool.{Bool, true, false}
use mathlib.Core.List.{List, ◌++◌}
use Prim.Native.Nat.{ℕ, ◌<◌, ◌≤◌}
use native.Mathlib.Omega.{arith}
use borrow.Author.Rules.{rules}
use borrow.Author.Tests.{eq-eqb, ne_eqb, le-leb, lt-leb}
use lib.ListN.{take}
use Rattle.meaning.specs.Lists.{pick}
use Rattle.meaning.specs.Names.{bytes}
use Rattle.meaning.specs.Written.{digits, decimal}
use Rattle.meaning.specs.Answer as Meaning
use Rattle.list_pen.specs.Pen.{Pen, pen, written}
use Rattle.list_pen.proofs.Laws.{then}
use Rattle.answer.specs.declared.Name.{Name}
use Rattle.answer.specs.declared.Answer.{Answer}
use Rattle.answer_lines.specs.Lines.{line_of, spelled, actual_text, marked_place, refusal_text, answer_text}

-- ---- lines: p is where the pen stands before, q after

module _ (l : ℕ) (p q : Pen) where
  pub line_done : (key value : List ℕ) (a b c : Pen) → a ≡ written l key p → b ≡ written l (bytes "=") a → c ≡ written l value b
      → q ≡ written l (bytes "\n") c → q ≡ written l (line_of key value) p
  unfolding line_of
  line_done key value a b c e f g h =
      then l key (bytes "=" ++ (value ++ bytes "\n")) p a q e
      (then l (bytes "=") (value ++ bytes "\n") a b q f (then l value (bytes "\n") b c q g h))

  pub number_done : (key : List ℕ) (n : ℕ) (a b c : Pen) → a ≡ written l key p → b ≡ written l (bytes "=") a → c ≡ written l (digits 10 n) b
      → q ≡ written l (bytes "\n") c → q ≡ written l (line_of key (decimal n)) p
  unfolding decimal
  number_done key n a b c e f g h = line_done key (digits 10 n) a b c e f g h

  pub name_done : (key : List ℕ) (n : Name) → q ≡ written l (line_of key (take n.length n.bytes)) p → q ≡ written l (line_of key (spelled n)) p
  unfolding spelled
  name_done key n e = e

  pub place_marked : (b : Bool) (n : ℕ) (a c : Pen) → b ≡ true → a ≡ written l (bytes "at=library:") p → c ≡ written l (digits 10 n) a
      → q ≡ written l (bytes "\n") c → q ≡ written l (line_of (bytes "at") (marked_place b n)) p
  unfolding marked_place decimal line_of pick
  place_marked b n a c y e f g = rw y (then l (bytes "at=library:") (digits 10 n ++ bytes "\n") p a q e (then l (digits 10 n) (bytes "\n") a c q f g))

  pub place_plain : (b : Bool) (n : ℕ) → b ≡ false → q ≡ written l (line_of (bytes "at") (decimal n)) p
      → q ≡ written l (line_of (bytes "at") (marked_place b n)) p
  unfolding marked_place pick
  place_plain b n y e = rw y e

  pub actual_done : (k : ℕ) (n : Name) → 22 ≤ k → k ≤ 27 → q ≡ written l (line_of (bytes "actual") (spelled n)) p → q ≡ written l (actual_text k n) p
  unfolding Meaning.tells_actual actual_text pick
  actual_done k n h g e = rw (le-leb 22 k h, le-leb k 27 g) e

  pub refusal_done : (r : Answer) (a b c : Pen) → a ≡ written l (line_of (bytes "module") (spelled r.evaluating)) p
      → b ≡ written l (line_of (bytes "name") (spelled r.culprit)) a → c ≡ written l (actual_text r.number r.actual) b
      → q ≡ written l (line_of (bytes "at") (marked_place r.in_library r.at)) c → q ≡ written l (refusal_text r) p
  unfolding refusal_text
  refusal_done r a b c e f g h = then l _ _ p a q e (then l _ _ a b q f (then l _ _ b c q g h))

  module _ (r : Answer) (output : List ℕ) (a b : Pen) (first : a ≡ written l (line_of (bytes "answer") (decimal r.number)) p)
      (second : b ≡ written l (line_of (bytes "modules") (decimal r.modules)) a) where
    pub answer_accepted : r.number ≡ 0 → q ≡ written l (take r.listing output) b → q ≡ written l (answer_text r output) p
    unfolding answer_text pick
    answer_accepted z g = rw (eq-eqb r.number 0 z) (then l _ _ p a q first (then l _ _ a b q second g))

    pub answer_refused : (r.number ≡ 0 → ⊥) → q ≡ written l (refusal_text r) b → q ≡ written l (answer_text r output) p
    unfolding answer_text pick
    answer_refused z g = rw (ne_eqb r.number 0 z) (then l _ _ p a q first (then l _ _ a b q second g))

-- 22 to 27 tell the actual name
module _ (l k : ℕ) (n : Name) (at : ℕ) (page : List ℕ) where
  actual_untold : Meaning.tells_actual k ≡ false → pen at page ≡ written l (actual_text k n) (pen at page)
  unfolding actual_text written pick
  actual_untold e = rw e

  pub actual_below : k < 22 → pen at page ≡ written l (actual_text k n) (pen at page)
  unfolding Meaning.tells_actual pick
  actual_below h = actual_untold (rw (lt-leb 22 k h))

  pub actual_above : 27 < k → pen at page ≡ written l (actual_text k n) (pen at page)
  unfolding Meaning.tells_actual pick
  actual_above h = actual_untold (rw (le-leb 22 k (omega (arith, h)), lt-leb k 27 h))

pub ruleset cases = (line_done, number_done, name_done, actual_below, actual_above, actual_done, place_marked, place_plain, refusal_done, answer_accepted, answer_refused, rules)
