-- Laws of runs of nodes: compared, put under other rows, and copied.
use mathlib.Core.Path.{◌≡◌, sym, ap, ◌∙◌}
use mathlib.Core.Bool.{Bool, true, false}
use mathlib.Core.List.{List}
use Prim.Native.Nat.{ℕ, suc, ◌+◌, ◌-◌, ◌*◌, ◌/◌, ◌%◌, ◌<◌, ◌≤◌}
use Rattle.std.proofs.Common.{add-zero}
use native.Mathlib.Nat.{sub-zero}
use native.Mathlib.Omega.{arith}
use lib.ListN.{get_or, set}
use borrow.Author.Rules.{rules}
use borrow.Author.Tests.{lt-ltb, le-ltb}
use Rattle.meaning.specs.Lists.{pick}
use Rattle.form.specs.Memory.{part}
use Rattle.form.specs.Forms.{node_in}
use Rattle.form.specs.Flat.{same_node}
use Rattle.unite_nodes.specs.Joined.{renoded, renode, copied, same_at, same_run}

-- ---- `same_node_at`

pub node_at_told : (text : List ℕ) (t : ℕ) (w : List ℕ) (visible hidden a b u v : ℕ) (r : Bool) → u ≡ get_or w a 0 → v ≡ get_or w b 0
    → r ≡ same_node (node_in text (part w 0 t) w visible hidden u) (node_in text (part w 0 t) w visible hidden v) → r ≡ same_at text t w visible hidden a b
unfolding same_at
node_at_told text t w visible hidden a b u v r e f g = rw (← e, ← f) g

-- ---- `same_nodes`: the first k nodes are the same

pub record Running (text : List ℕ) (t : ℕ) (w : List ℕ) (visible hidden a b c k : ℕ) : Type 0 where
  pub inside : k ≤ c
  pub comes : same_run text t w visible hidden (a + k) (b + k) (c - k) ≡ same_run text t w visible hidden a b c

module _ (text : List ℕ) (t : ℕ) (w : List ℕ) (visible hidden a b c : ℕ) where
  pub run_start : Running text t w visible hidden a b c 0
  run_start = record { inside = omega arith; comes = simp (add-zero, sub-zero) }

  module _ (k : ℕ) (inv : Running text t w visible hidden a b c k) where
    module _ (h : k < c) (r : Bool) (e : r ≡ same_at text t w visible hidden (a + k) (b + k)) where
      step : same_run text t w visible hidden (a + k) (b + k) (c - k) ≡ pick r (same_run text t w visible hidden (a + (k + 1)) (b + (k + 1)) (c - (k + 1))) false
      unfolding same_run
      step =
          let l : c - k ≡ suc (c - (k + 1)) = omega arith in
          let p : a + (k + 1) ≡ suc (a + k) = omega arith in
          let q : b + (k + 1) ≡ suc (b + k) = omega arith in
          ap (same_run text t w visible hidden (a + k) (b + k)) l ∙ rw (← e, p, q)

      pub run_again : r ≡ true → Running text t w visible hidden a b c (k + 1)
      unfolding pick
      run_again f = record { inside = omega arith; comes = sym (step ∙ rw f) ∙ inv.comes }

      pub run_other : r ≡ false → false ≡ same_run text t w visible hidden a b c
      unfolding pick
      run_other f = sym (step ∙ rw f) ∙ inv.comes

    pub run_end : c ≤ k → true ≡ same_run text t w visible hidden a b c
    unfolding same_run
    run_end h = let l : c - k ≡ 0 = omega arith in ap (same_run text t w visible hidden (a + k) (b + k)) (sym l) ∙ inv.comes

-- ---- `renoded`, `renode`, `copy_node`

pub row_small : (v r : ℕ) → r < 65536 → r * 32 + v % 32 ≡ renoded v r
unfolding renoded pick
row_small v r h = rw (lt-ltb r 65536 h)

pub row_large : (v r : ℕ) → 65536 ≤ r → 0 ≡ renoded v r
unfolding renoded pick
row_large v r h = rw (le-ltb r 65536 h)

module _ (w : List ℕ) (visible hidden v r x : ℕ) (e : x ≡ renoded v r) where
  pub renode_visible : v % 32 < 16 → r ≡ get_or w (visible + v / 32) 0 → x ≡ renode w visible hidden v
  unfolding renode pick
  renode_visible h f = rw (lt-ltb (v % 32) 16 h, ← f) e

  pub renode_hidden : 16 ≤ v % 32 → r ≡ get_or w (hidden + v / 32) 0 → x ≡ renode w visible hidden v
  unfolding renode pick
  renode_hidden h f = rw (le-ltb (v % 32) 16 h, ← f) e

pub node_copied : (w w' : List ℕ) (visible hidden a b v u : ℕ) → v ≡ get_or w a 0 → u ≡ renode w visible hidden v → w' ≡ set w b u
    → w' ≡ set w b (renode w visible hidden (get_or w a 0))
node_copied w w' visible hidden a b v u e f g = rw (← e, ← f) g

-- ---- `copy_nodes`: the first k nodes are copied

pub record Copying (w₀ : List ℕ) (visible hidden a b c : ℕ) (w : List ℕ) (k : ℕ) : Type 0 where
  pub inside : k ≤ c
  pub comes : copied w visible hidden (a + k) (b + k) (c - k) ≡ copied w₀ visible hidden a b c

module _ (w₀ : List ℕ) (visible hidden a b c : ℕ) where
  pub copy_start : Copying w₀ visible hidden a b c w₀ 0
  copy_start = record { inside = omega arith; comes = simp (add-zero, sub-zero) }

  module _ (w : List ℕ) (k : ℕ) (inv : Copying w₀ visible hidden a b c w k) where
    pub copy_again : (w' : List ℕ) → k < c → w' ≡ set w (b + k) (renode w visible hidden (get_or w (a + k) 0))
        → Copying w₀ visible hidden a b c w' (k + 1)
    unfolding copied
    copy_again w' h e =
        let l : c - k ≡ suc (c - (k + 1)) = omega arith in
        let p : a + (k + 1) ≡ suc (a + k) = omega arith in
        let q : b + (k + 1) ≡ suc (b + k) = omega arith in
        let step : copied w visible hidden (a + k) (b + k) (c - k) ≡ copied w' visible hidden (a + (k + 1)) (b + (k + 1)) (c - (k + 1)) =
        ap (copied w visible hidden (a + k) (b + k)) l ∙ rw (e, p, q) in
        record { inside = omega arith; comes = sym step ∙ inv.comes }

    pub copy_end : c ≤ k → w ≡ copied w₀ visible hidden a b c
    unfolding copied
    copy_end h = let l : c - k ≡ 0 = omega arith in sym (ap (copied w visible hidden (a + k) (b + k)) l) ∙ inv.comes

pub ruleset rows = (node_at_told, run_start, run_again, run_other, run_end, row_small, row_large, renode_visible, renode_hidden)

pub ruleset copies = (node_copied, copy_start, copy_again, copy_end)

pub ruleset runs = (rows, copies, rules)
