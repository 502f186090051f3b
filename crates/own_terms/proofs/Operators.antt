-- One law for each way through the loop over operators that stand one behind the other.
use mathlib.Core.Path.{◌≡◌, refl, sym, ap, ◌∙◌}
use mathlib.Core.Bool.{Bool, true, false}
use mathlib.Core.List.{List, [], ◌∷◌}
use Prim.Native.Nat.{ℕ, zero, suc, ◌+◌, ◌-◌, ◌*◌, ◌/◌, ◌%◌, ◌^◌, ◌<◌, ◌≤◌}
use native.Mathlib.Numerals.{add-one}
use native.Mathlib.Nat.{add-zero, sub-zero, pow-suc, pow-le-pow_right}
use native.Mathlib.Omega.{arith}
use borrow.Author.Rules.{rules}
use borrow.Author.Tests.{eq-eqb, ne_eqb, lt-ltb, le-ltb, ltb-true, ltb-false, eqb-true, eqb-false}
use lib.Dec.{eqb, ltb}
use lib.Pow.{pow_pos}
use lib.ListN.{length, get_or}
use Rattle.meaning.specs.Lists.{pick}
use Rattle.tape.specs.Tape.{head_role, prefix_role, infix_role}
use Rattle.form_rows.specs.Entries.{role_at}
use Rattle.form.specs.Memory.{part}
use Rattle.own_finding.specs.declared.Known.{Known}
use Rattle.own_finding.specs.Arguments.{arguments_of, closers_of, ends_at}
use Rattle.own_terms.specs.Typing.{no_sorts, args_by, term_at, args_at, operated, operated_row, operands_at, Row, halvings, Ended, Operators, known_of, At, Room}
use Rattle.own_terms.proofs.Cases.{term_args}

-- ---- how many operands the operator at i has

module _ (t i q : ℕ) (w : List ℕ) where
  pub operands_past : t ≤ i → 0 ≡ operands_at t i q w
  unfolding operands_at pick
  operands_past h = rw (le-ltb i t h)

  module _ (h : i < t) where
    pub operands_full : length w ≤ q → 0 ≡ operands_at t i q w
    unfolding operands_at pick
    operands_full g = rw (lt-ltb i t h, le-ltb q (length w) g)

    module _ (g : q < length w) (role c : ℕ) (e : role ≡ role_at (part w 0 t) i) (f : c ≡ closers_of role) where
      pub operands_counted : (a : ℕ) → c ≡ 0 → a ≡ arguments_of role → a ≡ operands_at t i q w
      unfolding operands_at pick
      operands_counted a z y = rw (lt-ltb i t h, lt-ltb q (length w) g, ← e, ← f, eq-eqb c 0 z) y

      pub operands_closed : (c ≡ 0 → ⊥) → 0 ≡ operands_at t i q w
      unfolding operands_at pick
      operands_closed z = rw (lt-ltb i t h, lt-ltb q (length w) g, ← e, ← f, ne_eqb c 0 z)

few_operands : (role : ℕ) → closers_of role ≡ 0 → arguments_of role ≤ 2
unfolding closers_of arguments_of pick
few_operands role e = go (eqb role head_role) (eqb role prefix_role) (eqb role infix_role) e
  where
    go : (x y z : Bool) → ◌≡◌ {A = ℕ} (pick x 1 0) 0 → pick x 9 (pick y 1 (pick z 2 0)) ≤ 2
    go true y z e = absurd (omega arith)
    go false true z e = omega arith
    go false false true e = omega arith
    go false false false e = omega arith

-- an operator stands at i
record Operator (t i q : ℕ) (w : List ℕ) (a : ℕ) : Type 0 where
  entry : i < t
  place : q < length w
  counted : closers_of (role_at (part w 0 t) i) ≡ 0
  operands : a ≡ arguments_of (role_at (part w 0 t) i)
  some : a ≡ 0 → ⊥

operator_there : (t i q : ℕ) (w : List ℕ) (a : ℕ) → a ≡ operands_at t i q w → (a ≡ 0 → ⊥) → Operator t i q w a
operator_there t i q w a e y = go (ltb i t) (ltb q (length w)) (eqb (closers_of role) 0) refl refl refl
  where
    role : ℕ
    role = role_at (part w 0 t) i

    go : (x z c : Bool) → ltb i t ≡ x → ltb q (length w) ≡ z → eqb (closers_of role) 0 ≡ c → Operator t i q w a
    go false z c h g f = absurd (y (e ∙ sym (operands_past t i q w (ltb-false i t h))))
    go true false c h g f = absurd (y (e ∙ sym (operands_full t i q w (ltb-true i t h) (ltb-false q (length w) g))))
    go true true false h g f =
        absurd (y (e ∙ sym (operands_closed t i q w (ltb-true i t h) (ltb-true q (length w) g) role _ refl refl (eqb-false (closers_of role) 0 f))))
    go true true true h g f =
        let c = eqb-true (closers_of role) 0 f in
        record {
          entry = ltb-true i t h;
          place = ltb-true q (length w) g;
          counted = c;
          operands = e ∙ sym (operands_counted t i q w (ltb-true i t h) (ltb-true q (length w) g) role _ refl refl _ c refl);
          some = y;
        }

-- ---- the term that begins with an operator

module _ (text : List ℕ) (k : Known) where
  args_first : (d i q : ℕ) (w : List ℕ) (a word more : ℕ) → a ≡ suc more → word % 2 ≡ more
      → operated text k d word i q (term_at text k d (i + 1) (q + 1) w) ≡ args_at text k d i q 0 a (i + 1) (q + 1) 0 no_sorts w
  unfolding operated args_by ends_at pick
  args_first d i q w a word more e b = rw (e, b, ne_eqb (suc more) 0 (λ z. omega arith))

  term_operated : (d i q : ℕ) (w : List ℕ) (a word : ℕ) → (d ≡ 0 → ⊥) → Operator k.tape i q w a → word % 2 ≡ a - 1
      → operated text k (d - 1) word i q (term_at text k (d - 1) (i + 1) (q + 1) w) ≡ term_at text k d i q w
  unfolding arguments_of pick
  term_operated d i q w a word z o b =
      let role = role_at (part w 0 k.tape) i in
      let some = o.some in
      term_args text k d i q w z o.entry o.place role refl (λ x. some (o.operands ∙ ap arguments_of x)) a o.operands 0 _ (sym o.counted) some
      (args_first (d - 1) i q w a word (a - 1) (omega arith) b)

-- ---- the row

pub doubled : (n : ℕ) → 2 ^ (n + 1) ≡ 2 ^ n * 2
doubled n = rw (add-one n, pow-suc 2 n)

pub halved : (most n word : ℕ) → n ≤ most → 2 ^ n ≤ word → word < 2 ^ (n + 1) → halvings most word ≡ n
unfolding halvings pick
halved zero n word m l b = omega arith
halved (suc most) zero word m l b = rw (le-ltb 1 word (omega arith))
halved (suc most) (suc n) word m l b =
    let some : 0 < 2 ^ n = pow_pos n in
    let p = pow-suc 2 n in
    let more : 1 < word = omega (arith, l, p, some) in
    rw (lt-ltb 1 word more, ← add-one n, halved most n (word / 2) (omega arith) (omega (arith, l, p)) (omega (arith, b, p, doubled n, doubled (suc n))))

pub halved_some : (most word : ℕ) → 1 < word → 0 < halvings (suc most) word
unfolding halvings pick
halved_some most word h = rw (lt-ltb 1 word h) (omega arith)

row_start : (k : Known) (d i q : ℕ) (w : List ℕ) → i < 2 ^ 64 → q < 2 ^ 64 → Row k d i q w 0 1
unfolding operated_row
row_start k d i q w h g = record {
  within = omega arith;
  few = omega arith;
  low = omega arith;
  bits = omega arith;
  entry = omega arith;
  place = omega arith;
  same = λ text. rw (sub-zero d, add-zero i, add-zero q);
}

module _ (k : Known) (d i q : ℕ) (w : List ℕ) (n word : ℕ) (row : Row k d i q w n word) where
  row_word : (n ≡ 63 → ⊥) → word < 2 ^ 63
  row_word f =
      let less : n + 1 ≤ 63 = omega (arith, row.few) in
      let p : 2 ^ (n + 1) ≤ 2 ^ 63 = pow-le-pow_right (omega arith) less in
      omega (arith, row.bits)

  module _ (a : ℕ) (o : Operator k.tape (i + n) (q + n) w a) where
    row_longer : (more : ℕ) → more ≡ word * 2 + (a - 1) → n < d → (n ≡ 63 → ⊥) → k.tape ≤ length w → length w < 2 ^ 64 → Row k d i q w (n + 1) more
    unfolding operated_row
    row_longer more m l f h g =
        let two = few_operands (role_at (part w 0 k.tape) (i + n)) o.counted in
        let depth : d - (n + 1) ≡ d - n - 1 = omega arith in
        let entry : i + (n + 1) ≡ i + n + 1 = omega arith in
        let place : q + (n + 1) ≡ q + n + 1 = omega arith in
        let half : more / 2 ≡ word = omega (arith, o.operands) in
        let bit : more % 2 ≡ a - 1 = omega (arith, o.operands) in
        record {
          within = omega arith;
          few = omega (arith, row.few);
          low = rw (doubled n) (omega (arith, row.low));
          bits = rw (doubled (n + 1)) (omega (arith, row.bits, o.operands));
          entry = omega (arith, o.entry);
          place = omega (arith, o.place);
          same = λ text.
              row.same text
              ∙ rw (depth, entry, place, add-one n, half, term_operated text k (d - n) (i + n) (q + n) w a more (λ z. omega arith) o bit);
        }

-- n operators from the words p₀ on are gone over, and the words are p
pub record Going (p₀ : List ℕ) (i q : ℕ) (w : List ℕ) (n word : ℕ) (p : List ℕ) : Type 0 where
  pub row : Row (known_of p₀) (get_or p₀ 7 0) i q w n word
  pub left : At (known_of p₀) (get_or p₀ 5 0) (get_or p₀ 6 0) (get_or p₀ 7 0 - n) p

pub going_first : (p : List ℕ) (i q : ℕ) (w : List ℕ) → Room p w → i < 2 ^ 64 → q < 2 ^ 64 → Going p i q w 0 1 p
going_first p i q w l h g = record {
  row = row_start (known_of p) (get_or p 7 0) i q w h g;
  left = record { long = l.words.long; known = refl; next_at = refl; free_at = refl; deep = sym (sub-zero (get_or p 7 0)) };
}

module _ (p₀ : List ℕ) (i q : ℕ) (w : List ℕ) (n word : ℕ) (p : List ℕ) (v : Going p₀ i q w n word p) where
  abbrev words : List ℕ
  words = (i + n) ∷ (q + n) ∷ word ∷ []

  stands : Ended (known_of p₀) (get_or p 7 0) words w → Operators p₀ i q w words p w
  stands e = record { n = n; stand = v.row; entry = refl; place = refl; left = v.left; ended = e; kept = refl }

  pub row_long : length p ≡ 10
  row_long = v.left.long

  module _ (a : ℕ) (e : a ≡ operands_at (get_or p₀ 0 0) (i + n) (q + n) w) where
    pub row_stops : a ≡ 0 → Operators p₀ i q w words p w
    unfolding known_of
    row_stops y = stands (record { none = λ f z. sym e ∙ y })

    module _ (y : a ≡ 0 → ⊥) (f : n ≡ 63 → ⊥) where
      pub row_fits : word * 2 + (a - 1) < 2 ^ 64
      row_fits =
          let o = operator_there (get_or p₀ 0 0) (i + n) (q + n) w a e y in
          omega (
            arith,
            o.operands,
            few_operands (role_at (part w 0 (get_or p₀ 0 0)) (i + n)) o.counted,
            row_word (known_of p₀) (get_or p₀ 7 0) i q w n word v.row f,
          )

      pub row_again : (more : ℕ) (p' : List ℕ) → more ≡ word * 2 + (a - 1) → 0 < get_or p 7 0 → Room p₀ w
          → At (known_of p) (get_or p 5 0) (get_or p 6 0) (get_or p 7 0 - 1) p' → Going p₀ i q w (n + 1) more p'
      unfolding known_of
      row_again more p' m l h t =
          let o = operator_there (get_or p₀ 0 0) (i + n) (q + n) w a e y in
          let deep = v.left.deep in
          let less : n < get_or p₀ 7 0 = omega (arith, deep, l) in
          record {
            row = row_longer (known_of p₀) (get_or p₀ 7 0) i q w n word v.row a o more m less f h.tape h.fits;
            left = record {
              long = t.long;
              known = t.known ∙ v.left.known;
              next_at = t.next_at ∙ v.left.next_at;
              free_at = t.free_at ∙ v.left.free_at;
              deep = omega (arith, t.deep, deep);
            };
          }

-- what the answers on the way to the first operand hand to `search`
pub ruleset onward = (going_first, row_stops, row_fits, rules)
