-- Reading the text of lines, line by line, gives exactly these lines in order, and then the end.
use Rattle.std.specs.Prelude.{◌≡◌, refl, ℕ, suc, ◌+◌, ◌-◌, ◌<◌, ◌≤◌, Bool, true, false, not, ◌||◌, eqb, get_or, drop}
use Rattle.std.proofs.Math.Path.{sym, ap}
use Rattle.std.proofs.Common.{◌∙◌, arith, length-drop, take_at, drop-drop, eq-eqb, ne_eqb, lt-ltb, le-leb}
use mathlib.Core.List.{List, [], ◌∷◌, ◌++◌, append_assoc}
use Rattle.std.proofs.Math.ListN.{length, length-append}
use Rattle.std.proofs.Math.Seq.{drop-append_seam}
use Rattle.meaning.specs.Lists.{pick, each}
use Rattle.meaning.specs.Names.{bytes, byte, slice, member}
use Rattle.meaning.specs.Tokens.{run, run_end}
use Rattle.meaning.specs.OrderLaws.{Every}
use Rattle.meaning.specs.Listing.{Line, line_text, lines_text, listing_keys}
use Rattle.meaning.specs.Answer.{in_line}
use Rattle.meaning.specs.Reader.{a_line, at_end, in_key, line_at}
use Rattle.laws.specs.Decides.{both_true}
use Rattle.laws.specs.EveryLaws.{every_so, every_append}
use Rattle.text_names.proofs.Runs.{run_from}
use Rattle.promises.specs.ListingLaws.{Within, not_byte, key_letter, PlainLine, key_letters, not_so}

-- reading on from a place gives these lines in order, and then the end
unfoldable pub Gives : List ℕ → ℕ → List Line → Type 0
Gives text at [] = line_at text at ≡ at_end
Gives text at (l ∷ ls) =
    let next = at + length (line_text l) in
    (line_at text at ≡ a_line l.key l.value next) × Gives text next ls

-- ---- runs of bytes

-- a run goes over bytes that pass, and stops at one that does not
run_over : (t : ℕ → Bool) (v : List ℕ) (b : ℕ) (rest : List ℕ) → Within t v → t b ≡ false → run (λ s. t (get_or s 0 0)) (v ++ (b ∷ rest)) ≡ length v
unfolding run pick
run_over t [] b rest h g = rw g
run_over t (x ∷ v) b rest h g = rw h.0 (ap suc (run_over t v b rest h.1 g))

-- what goes on in a key, and in a line
abbrev key_goes_on : ℕ → Bool
key_goes_on b = not (eqb b (byte "\n") || eqb b (byte "="))

abbrev line_goes_on : ℕ → Bool
line_goes_on b = pick (eqb b (byte "\n")) false true

key_over : (l : Line) → PlainLine l → Within key_goes_on l.key
key_over l p = every_so _ _ l.key go (key_letters l p)
  where
    go : (b : ℕ) → key_letter b ≡ true → key_goes_on b ≡ true
    go b q = let r = both_true (not_byte (byte "=") b) _ q in rw (not_so (eqb b (byte "=")) r.0, not_so (eqb b (byte "\n")) r.1)

line_over : (l : Line) → PlainLine l → Within line_goes_on (l.key ++ (byte "=" ∷ l.value))
unfolding pick
line_over l p =
    every_append _ l.key (byte "=" ∷ l.value)
    (every_so _ _ l.key (λ b q. go b (both_true (not_byte (byte "=") b) _ q).1) (key_letters l p))
    (refl, every_so _ _ l.value go p.value)
  where
    go : (b : ℕ) → not_byte (byte "\n") b ≡ true → line_goes_on b ≡ true
    go b f = rw (not_so (eqb b (byte "\n")) f)

-- ---- one line

-- past what stands in front
drop_past : (text : List ℕ) (at k : ℕ) (front rest : List ℕ) → drop at text ≡ front ++ rest → k ≡ at + length front → drop k text ≡ rest
drop_past text at k front rest h e = rw (e, ← drop-drop (length front) at text, h) (drop-append_seam front rest)

-- a line whose key ends at k and which ends at e
keyed : (text : List ℕ) (at k e : ℕ) → k ≡ run_end in_key text at → e ≡ run_end in_line text at → k < e → e < length text
    → member (slice text at k) listing_keys ≡ true → line_at text at ≡ a_line (slice text at k) (slice text (k + 1) e) (e + 1)
unfolding line_at pick
keyed text at k e hk he l m h =
    let f = run_from in_key text at k hk in
    rw (← hk, ← he, ne_eqb at (length text) (λ z. omega arith), h, lt-ltb k e l, lt-ltb e (length text) m, le-leb at (length text) (omega arith))

pub line_size : (l : Line) → length (line_text l) ≡ length l.key + length l.value + 2
unfolding line_text
line_size l = omega (arith, length-append l.key (byte "=" ∷ (l.value ++ bytes "\n")), length-append l.value (bytes "\n"))

module _ (text : List ℕ) (at : ℕ) (l : Line) (rest : List ℕ) (within : at ≤ length text) (h : drop at text ≡ line_text l ++ rest) where
  key_first : drop at text ≡ l.key ++ (byte "=" ∷ (l.value ++ (byte "\n" ∷ rest)))
  unfolding line_text
  key_first = h ∙ append_assoc l.key _ rest ∙ ap (λ (s : List ℕ). l.key ++ (byte "=" ∷ s)) (append_assoc l.value _ rest)

  pub text_size : length text ≡ at + (length (line_text l) + length rest)
  text_size = omega (arith, length-drop at text, ap length h, length-append (line_text l) rest)

  -- the line at `at` is l
  pub line_given : PlainLine l → line_at text at ≡ a_line l.key l.value (at + length (line_text l))
  unfolding run_end pick
  line_given r =
      let n = length l.key in
      let m = length l.value in
      let k = at + n in
      let e = k + 1 + m in
      let marked : run in_key (drop at text) ≡ n = rw key_first (run_over key_goes_on l.key (byte "=") _ (key_over l r) refl) in
      let ended : run in_line (drop at text) ≡ length (l.key ++ (byte "=" ∷ l.value)) =
      rw (key_first ∙ sym (append_assoc l.key (byte "=" ∷ l.value) (byte "\n" ∷ rest)))
      (run_over line_goes_on (l.key ++ (byte "=" ∷ l.value)) (byte "\n") rest (line_over l r) refl) in
      let key_there : slice text at k ≡ l.key = rw key_first (take_at l.key _ (k - at) (omega arith)) in
      let size = length-append l.key (byte "=" ∷ []) in
      let value_there : slice text (k + 1) e ≡ l.value =
      rw (drop_past text at (k + 1) (l.key ++ (byte "=" ∷ [])) (l.value ++ (byte "\n" ∷ rest))
      (key_first ∙ sym (append_assoc l.key (byte "=" ∷ []) (l.value ++ (byte "\n" ∷ rest)))) (omega arith))
      (take_at l.value (byte "\n" ∷ rest) (e - (k + 1)) (omega arith)) in
      let next : e + 1 ≡ at + length (line_text l) = omega (arith, line_size l) in
      let there = keyed text at k e (omega arith) (omega (arith, length-append l.key (byte "=" ∷ l.value))) (omega arith)
      (omega (arith, text_size, line_size l)) (rw key_there r.key) in
      there ∙ rw (key_there, value_there, next)

-- ---- all of them

pub lines_past : (text : List ℕ) (at : ℕ) (l : Line) (ls : List Line) → drop at text ≡ lines_text (l ∷ ls)
    → drop (at + length (line_text l)) text ≡ lines_text ls
unfolding lines_text each
lines_past text at l ls h = drop_past text at (at + length (line_text l)) (line_text l) (lines_text ls) h refl

pub lines_from : (ls : List Line) (text : List ℕ) (at : ℕ) → at ≤ length text → drop at text ≡ lines_text ls → Every PlainLine ls → Gives text at ls
unfolding Gives lines_text each line_at pick
lines_from [] text at p h r =
    let e : at ≡ length text = omega (arith, length-drop at text, ap length h) in
    rw (eq-eqb at (length text) e)
lines_from (l ∷ ls) text at p h r = (
  line_given text at l (lines_text ls) p h r.0,
  lines_from ls text (at + length (line_text l)) (omega (arith, text_size text at l (lines_text ls) p h)) (lines_past text at l ls h) r.1,
)
