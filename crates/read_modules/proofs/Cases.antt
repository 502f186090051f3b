-- The cases of modules, one for each way through the code: a, q and u come of callees, b is what a test said.
use Rattle.std.proofs.Common.{◌≡◌, ℕ, ◌+◌, ◌-◌, ◌/◌, ◌%◌, ◌<◌, ◌≤◌, Bool, true, false, ◌||◌, List, [], ◌∷◌, Ok, Err, refl, sym, ap, ◌∙◌, rules, eq-eqb, ne_eqb}
use Rattle.std.specs.List.{list_any}
use Rattle.meaning.specs.Lists.{pick, any}
use Rattle.meaning.specs.Names.{Name, same, member}
use Rattle.meaning.specs.Grammar.{is}
use Rattle.text_names.specs.Word.{name_of}
use Rattle.read_steps.specs.declared.Place.{Place}
use Rattle.read_steps.specs.declared.Misread.{Misread}
use Rattle.read_steps.specs.Model.{Reading, out, Writer, onward, stay, refuse, unexpected, if_next, too_many, declares, taken, name, fresh_name, a_module, modules}
use Rattle.read_steps.specs.Steps.{still, next_passes, next_in, twice}
use Rattle.read_steps.proofs.Laws.{then, quietly, stays, next_yes, next_no, refuse_quiet, unexpected_quiet}
use Rattle.read_steps.proofs.Cases.{refused_onward}
use Rattle.read_steps.proofs.Lists.{Comes, begins_loop, one_less, none_left}

-- ---- earlier modules

module _ (s : List ℕ) (w e : ℕ) where
  pub declares_yes : (b : Bool) → e % 32 ≡ 1 → b ≡ same (name_of s w) (name_of s (e / 32)) → b ≡ declares s w e
  unfolding declares pick
  declares_yes b k h = rw (eq-eqb (e % 32) 1 k) h

  pub declares_no : (e % 32 ≡ 1 → ⊥) → false ≡ declares s w e
  unfolding declares pick
  declares_no k = rw (ne_eqb (e % 32) 1 k)

or_pick : (a b : Bool) → (a || b) ≡ pick a true b
unfolding pick
or_pick true b = refl
or_pick false b = refl

-- the entries asked one by one
pub taken_any : (s : List ℕ) (w : ℕ) (es : List ℕ) → list_any (declares s w) es ≡ any (declares s w) es
unfolding any
taken_any s w [] = refl
taken_any s w (e ∷ es) = ap (λ (b : Bool). declares s w e || b) (taken_any s w es) ∙ or_pick (declares s w e) (any (declares s w) es)

-- ---- a name that no earlier module has

pub twice_refused : (r a : Reading) (m : Misread) → a ≡ Err m → Err m ≡ twice r a
unfolding twice
twice_refused r a m e = rw e

pub twice_done : (r a : Reading) (p : Place) (z : Reading) → a ≡ Ok p → z ≡ still (refuse 5) r → z ≡ twice r a
unfolding twice
twice_done r a p z e h = rw e h

-- the name is read; b says that an earlier module has it, and d that one of the library has
decides : Bool → Bool → Place → Writer
decides b d p q x = pick b (refuse 5 p x) (pick d (refuse 5 p x) (out (Ok q) x))

module _ (s : List ℕ) (ns : List Name) (r : Reading) (p : Place) (e : r ≡ Ok p) (t : List ℕ) (w : ℕ) (g : w ≡ next_in 0 r) (b : Bool) (f : b ≡ taken s w p.entries t) (d : Bool) (l : d ≡ member (name_of s w) ns) (a : Reading) (u : List ℕ) (h : out a u ≡ onward r t (name s 1)) where
  fresh_any : onward r t (fresh_name s ns) ≡ onward a u (decides b d p)
  unfolding onward next_in fresh_name decides
  fresh_any =
      let named : out a u ≡ onward (Ok p) t (name s 1) = rw e at h in
      let word : w ≡ next_in 0 (Ok p) = rw e at g in
      rw (e, ← named, f, l, word)

  pub fresh_twice : (z : Reading) → b ≡ true → z ≡ twice r a → out z u ≡ onward r t (fresh_name s ns)
  unfolding onward still decides pick twice refuse
  fresh_twice z y k = rw fresh_any (go a k)
    where
      go : (a : Reading) → z ≡ twice r a → out z u ≡ onward a u (decides b d p)
      go (Err x) k = rw k
      go (Ok q) k = rw (k, e, y)

  pub fresh_known : (z : Reading) → b ≡ false → d ≡ true → z ≡ twice r a → out z u ≡ onward r t (fresh_name s ns)
  unfolding onward still decides pick twice refuse
  fresh_known z y x k = rw fresh_any (go a k)
    where
      go : (a : Reading) → z ≡ twice r a → out z u ≡ onward a u (decides b d p)
      go (Err x) k = rw k
      go (Ok q) k = rw (k, e, y, x)

  pub fresh_done : b ≡ false → d ≡ false → out a u ≡ onward r t (fresh_name s ns)
  unfolding onward decides pick
  fresh_done y x = rw fresh_any (go a)
    where
      go : (a : Reading) → out a u ≡ onward a u (decides b d p)
      go (Err x) = refl
      go (Ok q) = rw (y, x)

-- ---- modules, of which i of n have been read

module _ (w : Writer) (r₀ : Reading) (t₀ : List ℕ) (s : List ℕ) (ns : List Name) (n i : ℕ) (r : Reading) (t : List ℕ)
    (v : Comes w (modules s (n - i) ns) r₀ t₀ r t) where
  module _ (z : i < n) (q : Reading) (u : List ℕ) (h : out q u ≡ onward r t (a_module s ns)) (b : Bool) (e : b ≡ next_passes (is 0) q) where
    abbrev rest : Writer
    rest = modules s (n - (i + 1)) ns

    pub modules_again : b ≡ false → Comes w (modules s (n - (i + 1)) ns) r₀ t₀ q u
    unfolding modules
    modules_again y = record { comes = v.comes ∙ sym go }
      where
        go : onward q u rest ≡ onward r t (modules s (n - i) ns)
        go =
            rw (one_less n i z)
            (then r q t u (onward q u rest) (a_module s ns) (if_next (is 0) stay rest) h (next_no (is 0) stay rest q b e u (onward q u rest) y refl))

    pub modules_end : b ≡ true → out q u ≡ onward r₀ t₀ w
    unfolding modules
    modules_end y = go ∙ sym v.comes
      where
        go : out q u ≡ onward r t (modules s (n - i) ns)
        go =
            rw (one_less n i z)
            (then r q t u (out q u) (a_module s ns) (if_next (is 0) stay rest) h (next_yes (is 0) stay rest q b e u (out q u) y (stays q u)))

  module _ (z : n ≤ i) (q : Reading) (b : Bool) (e : b ≡ next_passes (is 137) r) where
    pub modules_full : b ≡ true → q ≡ still (refuse 4) r → out q t ≡ onward r₀ t₀ w
    unfolding modules too_many
    modules_full y h = go ∙ sym v.comes
      where
        go : out q t ≡ onward r t (modules s (n - i) ns)
        go = rw (none_left n i z) (next_yes (is 137) (refuse 4) unexpected r b e t (out q t) y (quietly r q t (refuse 4) (refuse_quiet 4) h))

    pub modules_bad : b ≡ false → q ≡ still unexpected r → out q t ≡ onward r₀ t₀ w
    unfolding modules too_many
    modules_bad y h = go ∙ sym v.comes
      where
        go : out q t ≡ onward r t (modules s (n - i) ns)
        go = rw (none_left n i z) (next_no (is 137) (refuse 4) unexpected r b e t (out q t) y (quietly r q t unexpected unexpected_quiet h))

-- what the answers of `read_modules` hand to `search`, and what all others do
pub ruleset rounds = (begins_loop, modules_again, modules_end, modules_full, modules_bad, rules)

pub ruleset cases = (declares_yes, declares_no, twice_refused, twice_done, fresh_twice, fresh_known, fresh_done, refused_onward, rules)
