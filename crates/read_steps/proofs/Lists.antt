-- Laws of loops over lists of the grammar, for any item. A loop began at the answer r₀ with the tape t₀, where w was to be read; it is at r with
-- the tape t, and i of the n items that may come have been read.
use mathlib.Core.Path.{◌≡◌, refl, sym, ◌∙◌}
use mathlib.Core.Bool.{Bool, true, false}
use mathlib.Core.List.{List}
use Prim.Native.Nat.{ℕ, suc, ◌+◌, ◌-◌, ◌<◌, ◌≤◌}
use native.Mathlib.Omega.{arith}
use borrow.Author.Rules.{rules}
use Rattle.meaning.specs.Grammar.{is}
use Rattle.read_steps.specs.Model.{Reading, out, Writer, onward, ◌>>◌, stay, refuse, unexpected, if_next, too_many, step, separated, many}
use Rattle.read_steps.specs.Steps.{still, next_passes}
use Rattle.read_steps.proofs.Laws.{then, then_still, stays, quietly, next_yes, next_no, step_quiet, refuse_quiet, unexpected_quiet}

-- what was to be read at first comes to what is to be read now
pub record Comes (w v : Writer) (r₀ : Reading) (t₀ : List ℕ) (r : Reading) (t : List ℕ) : Type 0 where
  pub comes : onward r₀ t₀ w ≡ onward r t v

pub begins_loop : (w : Writer) (r : Reading) (t : List ℕ) → Comes w w r t r t
begins_loop w r t = record { comes = refl }

pub one_less : (n i : ℕ) → i < n → n - i ≡ suc (n - (i + 1))
one_less n i z = omega arith

pub none_left : (n i : ℕ) → n ≤ i → n - i ≡ 0
none_left n i z = omega arith

module _ (w : Writer) (r₀ : Reading) (t₀ : List ℕ) (s : List ℕ) (n i : ℕ) (begins : ℕ → Bool) (item : Writer) (r : Reading) (t : List ℕ) where
  -- ---- items with a mark between them: q and u come of the item
  module _ (comma : ℕ) (v : Comes w (separated s (n - i) comma begins item) r₀ t₀ r t) where
    abbrev rest : Writer
    rest = separated s (n - (i + 1)) comma begins item

    module _ (z : i < n) (q : Reading) (u : List ℕ) (h : out q u ≡ onward r t item) (b : Bool) (e : b ≡ next_passes (is comma) q) where
      pub separated_again : (a : Reading) → b ≡ true → a ≡ still (step s) q → Comes w (separated s (n - (i + 1)) comma begins item) r₀ t₀ a u
      unfolding separated
      separated_again a y g = record { comes = v.comes ∙ sym go }
        where
          go : onward a u rest ≡ onward r t (separated s (n - i) comma begins item)
          go =
              rw (one_less n i z)
              (then r q t u (onward a u rest) item (if_next (is comma) (step s >> rest) stay) h
              (next_yes (is comma) (step s >> rest) stay q b e u (onward a u rest) y
              (then_still q a u (onward a u rest) (step s) rest (step_quiet s) g refl)))

      pub separated_ends : b ≡ false → out q u ≡ onward r₀ t₀ w
      unfolding separated
      separated_ends y = go ∙ sym v.comes
        where
          go : out q u ≡ onward r t (separated s (n - i) comma begins item)
          go =
              rw (one_less n i z)
              (then r q t u (out q u) item (if_next (is comma) (step s >> rest) stay) h
              (next_no (is comma) (step s >> rest) stay q b e u (out q u) y (stays q u)))

    module _ (z : n ≤ i) (b : Bool) (e : b ≡ next_passes begins r) (q : Reading) where
      pub separated_full : b ≡ true → q ≡ still (refuse 4) r → out q t ≡ onward r₀ t₀ w
      unfolding separated too_many
      separated_full y h = go ∙ sym v.comes
        where
          go : out q t ≡ onward r t (separated s (n - i) comma begins item)
          go = rw (none_left n i z) (next_yes begins (refuse 4) unexpected r b e t (out q t) y (quietly r q t (refuse 4) (refuse_quiet 4) h))

      pub separated_bad : b ≡ false → q ≡ still unexpected r → out q t ≡ onward r₀ t₀ w
      unfolding separated too_many
      separated_bad y h = go ∙ sym v.comes
        where
          go : out q t ≡ onward r t (separated s (n - i) comma begins item)
          go = rw (none_left n i z) (next_no begins (refuse 4) unexpected r b e t (out q t) y (quietly r q t unexpected unexpected_quiet h))

  -- ---- items for as long as one begins
  module _ (v : Comes w (many s (n - i) begins item) r₀ t₀ r t) (b : Bool) (e : b ≡ next_passes begins r) where
    abbrev others : Writer
    others = many s (n - (i + 1)) begins item

    module _ (z : i < n) where
      pub many_again : (q : Reading) (u : List ℕ) → b ≡ true → out q u ≡ onward r t item → Comes w (many s (n - (i + 1)) begins item) r₀ t₀ q u
      unfolding many
      many_again q u y h = record { comes = v.comes ∙ sym go }
        where
          go : onward q u others ≡ onward r t (many s (n - i) begins item)
          go = rw (one_less n i z) (next_yes begins (item >> others) stay r b e t (onward q u others) y (then r q t u (onward q u others) item others h refl))

      pub many_ends : b ≡ false → out r t ≡ onward r₀ t₀ w
      unfolding many
      many_ends y = go ∙ sym v.comes
        where
          go : out r t ≡ onward r t (many s (n - i) begins item)
          go = rw (one_less n i z) (next_no begins (item >> others) stay r b e t (out r t) y (stays r t))

    module _ (z : n ≤ i) where
      pub many_full : (q : Reading) → b ≡ true → q ≡ still (refuse 4) r → out q t ≡ onward r₀ t₀ w
      unfolding many
      many_full q y h = go ∙ sym v.comes
        where
          go : out q t ≡ onward r t (many s (n - i) begins item)
          go = rw (none_left n i z) (next_yes begins (refuse 4) stay r b e t (out q t) y (quietly r q t (refuse 4) (refuse_quiet 4) h))

      pub many_stops : b ≡ false → out r t ≡ onward r₀ t₀ w
      unfolding many
      many_stops y = go ∙ sym v.comes
        where
          go : out r t ≡ onward r t (many s (n - i) begins item)
          go = rw (none_left n i z) (next_no begins (refuse 4) stay r b e t (out r t) y (stays r t))

-- what the answers of loops hand to `search`
pub ruleset loops = (begins_loop, separated_again, separated_ends, separated_full, separated_bad, many_again, many_ends, many_full, many_stops, rules)
