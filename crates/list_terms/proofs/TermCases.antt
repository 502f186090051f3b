-- One law for each way through the code that writes terms and equations, in the code's terms.
use mathlib.Core.Path.{◌≡◌, refl, ap, ◌∙◌}
use mathlib.Core.Logic.{⊎_elim}
use mathlib.Core.List.{List, [], ◌∷◌, ◌++◌, append-nil, append_assoc}
use Prim.Native.Nat.{ℕ, zero, suc, ◌+◌, ◌-◌, ◌*◌, ◌/◌, ◌%◌, ◌<◌, ◌≤◌}
use native.Mathlib.Numerals.{sub-one}
use native.Mathlib.Nat.{eq-or-lt_of_le, sub-zero}
use native.Mathlib.Omega.{arith}
use borrow.Author.Rules.{rules}
use borrow.Author.Tests.{eq-eqb, ne_eqb, lt-ltb, le-ltb}
use lib.Dec.{eqb-suc-zero}
use lib.ListN.{length, get_or}
use Rattle.meaning.specs.Lists.{pick}
use Rattle.meaning.specs.Names.{bytes}
use Rattle.meaning.specs.Written.{numbered}
use Rattle.text_names.specs.Word.{name_of}
use Rattle.form_rows.specs.Rows.{row_size}
use Rattle.form.specs.declared.EquationRow.{EquationRow}
use Rattle.list_pen.specs.Pen.{Pen, pen, written}
use Rattle.list_pen.proofs.Laws.{then}
use Rattle.list_terms.specs.declared.Printed.{Printed}
use Rattle.list_terms.specs.Terms.{Spelt, spelt, node_text, item_at, alone, opened, listed, term_by, term_at, sides_at, when_at, rule_at, equation_at}
use Rattle.list_terms.specs.Terms.{followed, heads_at, down_at, closed, back_at, Shown, Applied}

-- only a node has arguments
pub node_there : (w : List ℕ) (i : ℕ) → 0 < get_or w i 0 % 16 → i < length w
node_there [] i e = omega arith
node_there (x ∷ xs) zero e = omega arith
node_there (x ∷ xs) (suc i) e = let h = node_there xs i e in omega arith

-- one more item has arguments
pub applied_again : (w : List ℕ) (i n : ℕ) → Applied w i n → (get_or w (i + n) 0 % 16 ≡ 0 → ⊥) → Applied w i (n + 1)
applied_again w i n e h m y = ⊎_elim (λ z. rw z h) (λ z. e m z) (eq-or-lt_of_le {n = m} {m = n} (omega arith))

-- the item at a node
module _ (l : ℕ) (text w : List ℕ) (b v : ℕ) (p q : Pen) where
  pub item_visible : (n : ℕ) → v / 16 % 2 ≡ 0 → n ≡ get_or w (b + v / 32 * row_size + 1) 0 → q ≡ written l (name_of text n) p
      → q ≡ written l (node_text text w b v) p
  unfolding node_text pick
  item_visible n z e f = rw (eq-eqb (v / 16 % 2) 0 z, ← e) f

  pub item_hidden : (v / 16 % 2 ≡ 0 → ⊥) → q ≡ written l (numbered (v / 32 + 1)) p → q ≡ written l (node_text text w b v) p
  unfolding node_text pick
  item_hidden z f = rw (ne_eqb (v / 16 % 2) 0 z) f

-- a list, whatever is listed: k from node i on. The loop is at node j with m left, the next place is t, the output is o
pub record Listing (l : ℕ) (one : ℕ → Spelt) (at : ℕ) (o₀ : List ℕ) (k i m j t : ℕ) (o : List ℕ) : Type 0 where
  pub size : length o ≡ length o₀
  pub goes_on : (r : Printed) (o' : List ℕ) → Shown l t (listed one m j) o r o' → Shown l at (listed one k i) o₀ r o'

module _ (l : ℕ) (one : ℕ → Spelt) (at : ℕ) (o₀ : List ℕ) (k i : ℕ) where
  module _ (m j t : ℕ) (o : List ℕ) (v : Listing l one at o₀ k i m j t o) where
    pub listing_none : m ≤ 0 → Shown l at (listed one k i) o₀ (record { at = t; next = j }) o
    unfolding listed written
    listing_none h =
        let z : m ≡ 0 = omega arith in
        v.goes_on (record { at = t; next = j }) o (rw z (record { node = refl; content = refl }))

    module _ (r : Printed) (o₁ : List ℕ) (h : Shown l t (one j) o r o₁) (y : 0 < m) where
      pub listing_last : m - 1 ≡ 0 → Shown l at (listed one k i) o₀ r o₁
      unfolding listed pick
      listing_last z = let x : m ≡ 1 = omega arith in v.goes_on r o₁ (rw x h)

      pub listing_again : (t' : ℕ) (o₂ : List ℕ) → (m - 1 ≡ 0 → ⊥) → length o₂ ≡ length o → pen t' o₂ ≡ written l (44 ∷ []) (pen r.at o₁)
          → Listing l one at o₀ k i (m - 1) r.next t' o₂
      unfolding listed pick
      listing_again t' o₂ z s e = record {
        size = s ∙ v.size;
        goes_on = λ q o₃ f.
            let x : m ≡ suc (m - 1) = omega arith in
            let g = rw h.node at f in
            let rest = (listed one (m - 1) (one j).next).bytes in
            v.goes_on q o₃ (rw (x, ne_eqb (m - 1) 0 z)
            (record {
              node = g.node;
              content =
                  then l (one j).bytes (44 ∷ rest) (pen t o) (pen r.at o₁) (pen q.at o₃) h.content
                  (then l (44 ∷ []) rest (pen r.at o₁) (pen t' o₂) (pen q.at o₃) e g.content);
            }));
      }

-- a list that a bracket ends is the first of it, and what follows
listed_closed : (one : ℕ → Spelt) (n i : ℕ)
    → let a = listed one (suc n) i in followed a (alone 41 a.next) ≡ followed (one i) (closed one n (one i).next)
unfolding listed closed followed alone pick
listed_closed one zero i = refl
listed_closed one (suc n) i =
    let t = one i in
    let a = listed one (suc n) t.next in
    rw (eqb-suc-zero n, append_assoc t.bytes (44 ∷ a.bytes) (41 ∷ []))
    (ap (λ (s : Spelt). spelt (t.bytes ++ (bytes "," ++ s.bytes)) s.next) (listed_closed one n t.next))

-- terms
module _ (text w : List ℕ) (b : ℕ) where
  item_next : (i : ℕ) → (get_or w i 0 % 16 ≡ 0 → ⊥) → (item_at text w b i).next ≡ i + 1
  unfolding item_at pick
  item_next i e = rw (lt-ltb i (length w) (node_there w i (omega arith)))

  -- the arguments stand one less deep
  term_any : (d i : ℕ) → (d ≡ 0 → ⊥) → term_at text w b d i ≡ term_by text w b (listed (term_at text w b (d - 1))) i
  unfolding term_at
  term_any zero i z = absurd (z refl)
  term_any (suc d) i z = rw sub-one

  pub term_leaf : (d i : ℕ) → (d ≡ 0 → ⊥) → get_or w i 0 % 16 ≡ 0 → item_at text w b i ≡ term_at text w b d i
  unfolding term_by item_at pick
  term_leaf d i z e = rw (term_any d i z, eq-eqb (get_or w i 0 % 16) 0 e)

  -- an item with its bracket, its first argument, and what follows that
  term_closed : (d i : ℕ) → (d ≡ 0 → ⊥) → (get_or w i 0 % 16 ≡ 0 → ⊥)
      → let t = term_at text w b (d - 1) (i + 1) in
      term_at text w b d i ≡ followed (opened (item_at text w b i)) (followed t (closed (term_at text w b (d - 1)) (get_or w i 0 % 16 - 1) t.next))
  unfolding term_by item_at opened followed alone pick
  term_closed d i z e =
      let there = lt-ltb i (length w) (node_there w i (omega arith)) in
      let name = node_text text w b (get_or w i 0) in
      let one = term_at text w b (d - 1) in
      let more : suc (get_or w i 0 % 16 - 1) ≡ get_or w i 0 % 16 = omega arith in
      let rest = followed (one (i + 1)) (closed one (get_or w i 0 % 16 - 1) (one (i + 1)).next) in
      let inner = listed one (get_or w i 0 % 16) (i + 1) in
      let h : followed inner (alone 41 inner.next) ≡ rest = rw more at (listed_closed one (get_or w i 0 % 16 - 1) (i + 1)) in
      rw (term_any d i z, there, ne_eqb (get_or w i 0 % 16) 0 e, append_assoc name (40 ∷ []) rest.bytes)
      (ap (λ (s : Spelt). spelt (name ++ (bytes "(" ++ s.bytes)) s.next) h)

  -- first arguments stand straight behind their items
  pub heads_next : (i n : ℕ) → Applied w i n → (heads_at text w b n i).next ≡ i + n
  unfolding heads_at followed opened
  heads_next i zero e = omega arith
  heads_next i (suc n) e =
      let h = heads_next i n (λ m y. e m (omega arith)) in
      rw h (item_next (i + n) (e n (omega arith)) ∙ omega arith)

  -- down and back is the term, however many brackets are open in between
  pub down_back : (d i n : ℕ) → n ≤ d → Applied w i n
      → let a = down_at text w b d n i in term_at text w b d i ≡ followed a (back_at text w b d n i a.next)
  unfolding down_at back_at heads_at followed opened
  down_back d i zero y e = rw (sub-zero, append-nil)
  down_back d i (suc n) y e =
      let fewer : Applied w i n = λ m x. e m (omega arith) in
      let here = e n (omega arith) in
      let next = heads_next i n fewer in
      let less : d - suc n ≡ d - n - 1 = omega arith in
      let h = rw (next, term_closed (d - n) (i + n) (omega arith) here) at (down_back d i n (omega arith) fewer) in
      rw (next, item_next (i + n) here, less) (simp append_assoc (simp append_assoc at h))

  module _ (l at i : ℕ) (o : List ℕ) where
    pub item_there : (v t : ℕ) (o' : List ℕ) → i < length w → v ≡ get_or w i 0 → pen t o' ≡ written l (node_text text w b v) (pen at o)
        → Shown l at (item_at text w b i) o (record { at = t; next = i + 1 }) o'
    unfolding item_at pick
    item_there v t o' h f g = rw (lt-ltb i (length w) h, ← f) (record { node = refl; content = g })

    pub item_past : length w ≤ i → Shown l at (item_at text w b i) o (record { at = at; next = i }) o
    unfolding item_at written pick
    item_past h = rw (le-ltb i (length w) h) (record { node = refl; content = refl })

module _ (l : ℕ) (text w : List ℕ) (b d at : ℕ) (o : List ℕ) where
  -- two terms
  pub sides_done : (i : ℕ) (r q : Printed) (t : ℕ) (o₁ o₂ o₃ : List ℕ) → Shown l at (term_at text w b d i) o r o₁ → pen t o₂ ≡ written l (61 ∷ []) (pen r.at o₁)
      → Shown l t (term_at text w b d r.next) o₂ q o₃ → Shown l at (sides_at text w b d i) o q o₃
  unfolding sides_at
  sides_done i r q t o₁ o₂ o₃ h e f =
      let v = rw h.node at f in
      let right = (term_at text w b d (term_at text w b d i).next).bytes in
      record {
        node = v.node;
        content =
            then l (term_at text w b d i).bytes (61 ∷ right) (pen at o) (pen r.at o₁) (pen q.at o₃) h.content
            (then l (61 ∷ []) right (pen r.at o₁) (pen t o₂) (pen q.at o₃) e v.content);
      }

  pub when_none : (i k : ℕ) → k ≡ 0 → pen at o ≡ written l (when_at text w b d k i) (pen at o)
  unfolding when_at pick written
  when_none i k z = rw (eq-eqb k 0 z)

  pub when_some : (i k : ℕ) (t : ℕ) (r : Printed) (o₁ o₂ : List ℕ) → (k ≡ 0 → ⊥) → pen t o₁ ≡ written l (bytes " when ") (pen at o)
      → Shown l t (listed (sides_at text w b d) k i) o₁ r o₂ → pen r.at o₂ ≡ written l (when_at text w b d k i) (pen at o)
  unfolding when_at pick
  when_some i k t r o₁ o₂ z e h =
      rw (ne_eqb k 0 z) (then l (bytes " when ") (listed (sides_at text w b d) k i).bytes (pen at o) (pen t o₁) (pen r.at o₂) e h.content)

  pub rule_done : (i k : ℕ) (r : Printed) (o₁ : List ℕ) (q : Pen) → Shown l at (sides_at text w b d i) o r o₁ → q ≡ written l (when_at text w b d k r.next) (pen r.at o₁)
      → q ≡ written l (rule_at text w b d k i) (pen at o)
  unfolding rule_at
  rule_done i k r o₁ q h e =
      let s = sides_at text w b d i in
      then l s.bytes (when_at text w b d k s.next) (pen at o) (pen r.at o₁) q h.content (rw h.node at e)

pub equation_done : (l : ℕ) (text w : List ℕ) (b n : ℕ) (row : EquationRow) (p a c e q : Pen) → a ≡ written l (bytes "[") p → c ≡ written l (name_of text row.tag) a
    → e ≡ written l (bytes "] ") c → q ≡ written l (rule_at text w b row.count row.conditions (n + row.start)) e → q ≡ written l (equation_at text w b n row) p
unfolding equation_at
equation_done l text w b n row p a c e q f g h k =
    let rule = rule_at text w b row.count row.conditions (n + row.start) in
    let name = name_of text row.tag in
    then l (bytes "[") (name ++ (bytes "] " ++ rule)) p a q f (then l name (bytes "] " ++ rule) a c q g (then l (bytes "] ") rule c e q h k))

pub ruleset terms = (item_visible, item_hidden, item_there, item_past, listing_none, listing_last, listing_again, sides_done, when_none, when_some, rule_done, equation_done, rules)
