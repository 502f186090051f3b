-- Laws of equations: one found among a form's, one absorbed, and all of a form's.
use mathlib.Core.Path.{◌≡◌, refl, sym, ap, ◌∙◌}
use mathlib.Core.Bool.{Bool, true, false}
use mathlib.Core.List.{List}
use Prim.Native.Nat.{ℕ, suc, ◌+◌, ◌-◌, ◌*◌, ◌<◌, ◌≤◌}
use native.Mathlib.Numerals.{add-one}
use native.Mathlib.Nat.{sub-zero}
use native.Mathlib.Omega.{arith}
use lib.ListN.{length}
use lib.Seq.{sets}
use borrow.Author.Rules.{rules}
use borrow.Author.Tests.{lt-ltb, le-ltb, eq-eqb, ne_eqb}
use Rattle.meaning.specs.Lists.{pick}
use Rattle.form.specs.declared.Form.{Form}
use Rattle.form.specs.declared.EquationRow.{EquationRow}
use Rattle.form.specs.Forms.{equation_row_at, equation_words, equation_size}
use Rattle.unite_nodes.specs.declared.Notes.{Notes}
use Rattle.unite_nodes.specs.Joined.{copied, same_run, same_equation, has_equation, with_counts, Out, out, settled, joined_row, joined}

-- ---- `same_equation`

module _ (text : List ℕ) (t : ℕ) (w : List ℕ) (f : Form) (q r : EquationRow) where
  pub one_home : (q.home ≡ r.home → ⊥) → false ≡ same_equation text t w f q r
  unfolding same_equation pick
  one_home h = rw (ne_eqb q.home r.home h)

  module _ (h : q.home ≡ r.home) where
    pub one_position : (q.position ≡ r.position → ⊥) → false ≡ same_equation text t w f q r
    unfolding same_equation pick
    one_position p = rw (eq-eqb q.home r.home h, ne_eqb q.position r.position p)

    module _ (p : q.position ≡ r.position) where
      pub one_count : (q.count ≡ r.count → ⊥) → false ≡ same_equation text t w f q r
      unfolding same_equation pick
      one_count c = rw (eq-eqb q.home r.home h, eq-eqb q.position r.position p, ne_eqb q.count r.count c)

      pub one_run : (x : Bool) → q.count ≡ r.count
          → x ≡ same_run text t w f.visible f.hidden (f.nodes + f.node_count) (f.nodes + r.start) q.count → x ≡ same_equation text t w f q r
      unfolding same_equation pick
      one_run x c e = rw (eq-eqb q.home r.home h, eq-eqb q.position r.position p, eq-eqb q.count r.count c) e

-- ---- `is_equation`, `has_equation`

pub row_told : (text : List ℕ) (t : ℕ) (w : List ℕ) (f : Form) (q r : EquationRow) (i : ℕ) (b : Bool) → r ≡ equation_row_at w (f.equations + i * equation_size)
    → b ≡ same_equation text t w f q r → b ≡ same_equation text t w f q (equation_row_at w (f.equations + i * equation_size))
row_told text t w f q r i b e g = g ∙ ap (same_equation text t w f q) e

pub record Seeking (text : List ℕ) (t : ℕ) (w : List ℕ) (f : Form) (q : EquationRow) (n i : ℕ) : Type 0 where
  pub inside : i ≤ n
  pub comes : has_equation text t w f q i (n - i) ≡ has_equation text t w f q 0 n

module _ (text : List ℕ) (t : ℕ) (w : List ℕ) (f : Form) (q : EquationRow) (n : ℕ) where
  pub seek_start : Seeking text t w f q n 0
  seek_start = record { inside = omega arith; comes = rw sub-zero }

  module _ (i : ℕ) (inv : Seeking text t w f q n i) where
    module _ (b : Bool) (h : i < n) (e : b ≡ same_equation text t w f q (equation_row_at w (f.equations + i * equation_size))) where
      step : has_equation text t w f q i (n - i) ≡ pick b true (has_equation text t w f q (suc i) (n - (i + 1)))
      unfolding has_equation
      step = let l : n - i ≡ suc (n - (i + 1)) = omega arith in ap (has_equation text t w f q i) l ∙ rw (← e)

      pub seek_again : b ≡ false → Seeking text t w f q n (i + 1)
      unfolding pick
      seek_again g = record {
        inside = omega arith;
        comes = ap (λ (k : ℕ). has_equation text t w f q k (n - (i + 1))) (add-one i) ∙ sym (step ∙ rw g) ∙ inv.comes;
      }

      pub seek_found : b ≡ true → true ≡ has_equation text t w f q 0 n
      unfolding pick
      seek_found g = sym (step ∙ rw g) ∙ inv.comes

    pub seek_end : n ≤ i → false ≡ has_equation text t w f q 0 n
    unfolding has_equation
    seek_end h = let l : n - i ≡ 0 = omega arith in ap (has_equation text t w f q i) (sym l) ∙ inv.comes

-- ---- `settle`

module _ (text : List ℕ) (t : ℕ) (w : List ℕ) (f : Form) (q : EquationRow) (b : Bool) (e : b ≡ has_equation text t w f q 0 f.equation_count) where
  pub settle_found : b ≡ true → out f w ≡ settled text t w f q
  unfolding settled pick
  settle_found h = rw (← e, h)

  pub settle_new : (w' : List ℕ) (r : Form) → b ≡ false → w' ≡ sets w (f.equations + f.equation_count * equation_size) (equation_words q f.node_count)
      → r ≡ with_counts f (f.equation_count + 1) (f.node_count + q.count) → out r w' ≡ settled text t w f q
  unfolding settled pick
  settle_new w' r h ew er = rw (← e, h, ew, er)

-- ---- `absorb_row`, `absorb_equation`

module _ (text : List ℕ) (t : ℕ) (w : List ℕ) (g : Form) (q : EquationRow) (o : Notes) (f : Form) where
  pub row_full : o.equation_room ≤ f.equation_count → out f w ≡ joined_row text t w g q o f
  unfolding joined_row pick
  row_full h = rw (le-ltb f.equation_count o.equation_room h)

  module _ (h : f.equation_count < o.equation_room) where
    pub nodes_full : o.node_room < f.node_count + q.count → out f w ≡ joined_row text t w g q o f
    unfolding joined_row pick
    nodes_full l = rw (lt-ltb f.equation_count o.equation_room h, lt-ltb o.node_room (f.node_count + q.count) l)

    pub row_settled : (w₁ w₂ : List ℕ) (r : Form) → f.node_count + q.count ≤ o.node_room
        → w₁ ≡ copied w o.visible o.hidden (g.nodes + q.start) (f.nodes + f.node_count) q.count → out r w₂ ≡ settled text t w₁ f q
        → out r w₂ ≡ joined_row text t w g q o f
    unfolding joined_row pick
    row_settled w₁ w₂ r l e x =
        rw (lt-ltb f.equation_count o.equation_room h, le-ltb o.node_room (f.node_count + q.count) l, ← e) x

pub row_joined : (text : List ℕ) (t : ℕ) (w w' : List ℕ) (g : Form) (q : EquationRow) (k : ℕ) (o : Notes) (f r : Form) → q ≡ equation_row_at w (g.equations + k * equation_size)
    → out r w' ≡ joined_row text t w g q o f → out r w' ≡ joined_row text t w g (equation_row_at w (g.equations + k * equation_size)) o f
row_joined text t w w' g q k o f r e x = x ∙ ap (λ (p : EquationRow). joined_row text t w g p o f) e

-- ---- `absorb_equations`

pub record Joining (text : List ℕ) (t : ℕ) (w₀ : List ℕ) (g : Form) (n : ℕ) (o : Notes) (f : Form) (w : List ℕ) (h : Form) (k : ℕ) : Type 0 where
  pub inside : k ≤ n
  pub sized : length w ≡ length w₀
  pub comes : joined text t w g k (n - k) o h ≡ joined text t w₀ g 0 n o f

module _ (text : List ℕ) (t : ℕ) (w₀ : List ℕ) (g : Form) (n : ℕ) (o : Notes) (f : Form) where
  pub join_start : Joining text t w₀ g n o f w₀ f 0
  join_start = record { inside = omega arith; sized = refl; comes = rw sub-zero }

  module _ (w : List ℕ) (h : Form) (k : ℕ) (inv : Joining text t w₀ g n o f w h k) where
    pub join_tape : t ≤ length w₀ → t ≤ length w
    join_tape l = rw inv.sized l

    pub join_again : (w' : List ℕ) (r : Form) → k < n → length w' ≡ length w
        → out r w' ≡ joined_row text t w g (equation_row_at w (g.equations + k * equation_size)) o h → Joining text t w₀ g n o f w' r (k + 1)
    unfolding joined
    join_again w' r l s x =
        let c : n - k ≡ suc (n - (k + 1)) = omega arith in
        let step : joined text t w g k (n - k) o h ≡ joined text t w' g (suc k) (n - (k + 1)) o r =
        ap (λ (m : ℕ). joined text t w g k m o h) c ∙ sym (ap (λ (y : Out). joined text t y.work g (suc k) (n - (k + 1)) o y.form) x) in
        record {
          inside = omega arith;
          sized = s ∙ inv.sized;
          comes = ap (λ (i : ℕ). joined text t w' g i (n - (k + 1)) o r) (add-one k) ∙ sym step ∙ inv.comes;
        }

    pub join_end : n ≤ k → out h w ≡ joined text t w₀ g 0 n o f
    unfolding joined
    join_end l = let c : n - k ≡ 0 = omega arith in sym (ap (λ (m : ℕ). joined text t w g k m o h) c) ∙ inv.comes

pub ruleset equations = (one_home, one_position, one_count, one_run, row_told)

pub ruleset settling = (seek_start, seek_again, seek_found, seek_end, settle_found, settle_new, row_full, nodes_full, row_settled, row_joined)

pub ruleset joining = (join_start, join_tape, join_again, join_end)

pub ruleset turns = (equations, settling, joining, rules)
