-- Two plain names compared where they stand in the text: a from x up to n, and b from y up to m.
use mathlib.Core.Path.{◌≡◌}
use mathlib.Core.Bool.{Bool, true}
use mathlib.Core.List.{List}
use Prim.Native.Nat.{ℕ, ◌+◌, ◌-◌, ◌/◌, min}
use lib.ListN.{length, take, drop}
use borrow.Author.Rules.{rules}
use Rattle.text_names.specs.Word.{token_of, name_of}
use Rattle.text_runs.specs.Runs.{Seen}
use Rattle.text_places.specs.Plain.{are_plain}
use Rattle.text_places.proofs.Places.{token_within, first, second}

module _ (text : List ℕ) (a b x y n m : ℕ) (q : Bool) (p : q ≡ are_plain a b) (h : q ≡ true)
    (s : x ≡ min (a / 256) (length text)) (t : y ≡ min (b / 256) (length text))
    (e : n ≡ min (a / 256) (length text) + length (token_of text a)) (f : m ≡ min (b / 256) (length text) + length (token_of text b)) where
  pub seen_parts : (k : ℕ) → Seen (take (n - x) (drop x text)) (take (m - y) (drop y text)) k → Seen (name_of text a) (name_of text b) k
  seen_parts k g = rw (first text a b x y n m q p h s t e f, second text a b x y n m q p h s t e f) at g

pub ruleset cases = (token_within, seen_parts, rules)
