-- One law for each way through the code.
use mathlib.Core.Path.{◌≡◌, refl, sym, ap, subst, ◌∙◌}
use mathlib.Core.Bool.{Bool, true, false, false≢true}
use mathlib.Core.List.{List}
use Prim.Native.Nat.{ℕ, zero, suc, ◌-◌, ◌<◌, ◌≤◌}
use native.Mathlib.Nat.{not-suc-le-zero}
use native.Mathlib.Numerals.{sub-one}
use native.Mathlib.Omega.{arith}
use lib.Dec.{eqb}
use lib.ListN.{length, take, drop}
use borrow.Author.Rules.{rules}
use borrow.Author.Tests.{eq-eqb, ne_eqb}
use Rattle.types.specs.declared.Token.{Token}
use Rattle.types.specs.declared.Part.{Part}
use Rattle.meaning.specs.Laws.{by_cases}
use Rattle.meaning.specs.Lists.{pick}
use Rattle.meaning.specs.Names.{Name, slice, same}
use Rattle.meaning.specs.Numbers.{text_size}
use Rattle.meaning.specs.Tokens.{module_key, token_at}
use Rattle.meaning.specs.Texts.{two_texts, ends_part, part_end, part, no_part, part_from, part_of, fetched, part_bytes}
use Rattle.text_tokens.proofs.Bounds.{token_after, token_forward, token_within}

-- ---- where a part ends

pub ends_module : (k : ℕ) → k ≡ 137 → true ≡ ends_part k
unfolding ends_part
ends_module k e = rw (eq-eqb k 137 e)

pub ends_text : (k : ℕ) → (k ≡ 137 → ⊥) → k ≡ 0 → true ≡ ends_part k
unfolding ends_part
ends_text k n e = rw (ne_eqb k 137 n, eq-eqb k 0 e)

pub ends_bad : (k : ℕ) (b : Bool) → (k ≡ 137 → ⊥) → (k ≡ 0 → ⊥) → b ≡ eqb k 4 → b ≡ ends_part k
unfolding ends_part
ends_bad k b n m e = rw (ne_eqb k 137 n, ne_eqb k 0 m) e

module _ (s : List ℕ) (l i : ℕ) where
  module _ (z : 0 < l) (t : Token) (f : t ≡ token_at s i) (b : Bool) (e : b ≡ ends_part t.kind) where
    pub part_on : b ≡ false → part_end s l i ≡ part_end s (l - 1) t.end
    unfolding part_end pick
    part_on y = go l z
      where
        go : (l : ℕ) → 0 < l → part_end s l i ≡ part_end s (l - 1) t.end
        go zero z = absurd (not-suc-le-zero z)
        go (suc n) z = rw (sub-one, ← f, ← e, y)

    pub part_stop : b ≡ true → part_end s l i ≡ i
    unfolding part_end pick
    part_stop y = go l z
      where
        go : (l : ℕ) → 0 < l → part_end s l i ≡ i
        go zero z = absurd (not-suc-le-zero z)
        go (suc n) z = rw (← f, ← e, y)

  pub part_spent : l ≤ 0 → part_end s l i ≡ i
  unfolding part_end
  part_spent z = go l z
    where
      go : (l : ℕ) → l ≤ 0 → part_end s l i ≡ i
      go zero z = refl
      go (suc n) z = absurd (not-suc-le-zero z)

-- a part ends behind what begins it, within the text
part_within : (s : List ℕ) (n i : ℕ) → i ≤ length s → part_end s n i ≤ length s
unfolding part_end
part_within s zero i h = h
part_within s (suc n) i h =
    let more = part_within s n (token_at s i).end (token_within s i (token_at s i) refl h) in
    by_cases (λ (e : ℕ). e ≤ length s) (ends_part (token_at s i).kind) _ _ (λ y. h) (λ y. more)

part_forward : (s : List ℕ) (n i : ℕ) → i ≤ part_end s n i
unfolding part_end
part_forward s zero i = omega arith
part_forward s (suc n) i =
    let t = token_at s i in
    let more = part_forward s n t.end in
    by_cases (λ (e : ℕ). i ≤ e) (ends_part t.kind) _ _ (λ y. omega arith) (λ y. omega (arith, token_after s i t refl, token_forward s i t refl, more))

-- ---- the part of a module

-- what is left to be looked at is from i on, where at most l modules stand
pub record Looking (s : List ℕ) (b : Bool) (w : Name) (i l : ℕ) : Type 0 where
  pub within : i ≤ length s
  pub same_part : part_of s b w ≡ part_from s b w l i

pub looking_first : (s : List ℕ) (b : Bool) (w : Name) → Looking s b w 0 64
unfolding part_of
looking_first s b w = record { within = omega arith; same_part = refl }

module _ (s : List ℕ) (b : Bool) (w : Name) (l i : ℕ) (v : Looking s b w i l) where
  module _ (z : 0 < l) (t : Token) (f : t ≡ token_at s i) where
    pub not_there : (r : Part) → (t.kind ≡ 137 → ⊥) → r ≡ no_part → r ≡ part_of s b w
    unfolding part_from pick
    not_there r n x = x ∙ sym (v.same_part ∙ go l z)
      where
        go : (l : ℕ) → 0 < l → part_from s b w l i ≡ no_part
        go zero z = absurd (not-suc-le-zero z)
        go (suc k) z = rw (← f, ne_eqb t.kind 137 n)

    module _ (k : t.kind ≡ 137) (u : Token) (g : u ≡ token_at s t.end) where
      first_within : t.end ≤ length s
      first_within = token_within s i t f v.within

      pub name_forward : u.start ≤ u.end
      name_forward = token_forward s t.end u g

      pub name_within : u.end ≤ length s
      name_within = token_within s t.end u g first_within

      module _ (e : ℕ) (h : e ≡ part_end s 32768 u.end) (q : Bool) (x : q ≡ same w (take (u.end - u.start) (drop u.start s))) where
        pub found : q ≡ true → ◌≡◌ {A = Part} (record { marked = b; start = t.start; end = e }) (part_of s b w)
        unfolding part part_from pick text_size
        found y = sym (v.same_part ∙ go l z)
          where
            go : (l : ℕ) → 0 < l → part_from s b w l i ≡ part b t.start e
            go zero z = absurd (not-suc-le-zero z)
            go (suc n) z = rw (← f, eq-eqb t.kind 137 k, ← g, ← h, ← x, y)

        pub looking_on : q ≡ false → Looking s b w e (l - 1)
        unfolding part_from pick text_size
        looking_on y = record { within = rw h (part_within s 32768 u.end name_within); same_part = v.same_part ∙ go l z }
          where
            go : (l : ℕ) → 0 < l → part_from s b w l i ≡ part_from s b w (l - 1) e
            go zero z = absurd (not-suc-le-zero z)
            go (suc n) z = rw (sub-one, ← f, eq-eqb t.kind 137 k, ← g, ← h, ← x, y)

  pub none_left : (r : Part) → l ≤ 0 → r ≡ no_part → r ≡ part_of s b w
  unfolding part_from
  none_left r z x = x ∙ sym (v.same_part ∙ go l z)
    where
      go : (l : ℕ) → l ≤ 0 → part_from s b w l i ≡ no_part
      go zero z = refl
      go (suc n) z = absurd (not-suc-le-zero z)

pub nothing : ◌≡◌ {A = Part} (record { marked = false; start = 0; end = 0 }) no_part
unfolding part
nothing = refl

-- ---- of either text

module _ (library text : List ℕ) (w : Name) (l : Part) (e : l ≡ part_of library true w) where
  pub of_library : l.marked ≡ true → l ≡ fetched (two_texts library text) w
  unfolding fetched two_texts pick
  of_library y = rw (← e, y)

  pub of_text : (r : Part) → l.marked ≡ false → r ≡ part_of text false w → r ≡ fetched (two_texts library text) w
  unfolding fetched two_texts pick
  of_text r y q = rw (← e, y) q

-- ---- a part lies within its text

record Within (s : List ℕ) (p : Part) : Type 0 where
  pub forward : p.start ≤ p.end
  pub inside : p.end ≤ length s

none_within : (s : List ℕ) → Within s no_part
unfolding part
none_within s = record { forward = omega arith; inside = omega arith }

from_within : (s : List ℕ) (b : Bool) (w : Name) (n i : ℕ) → i ≤ length s → Within s (part_from s b w n i)
unfolding part_from part
from_within s b w zero i h = none_within s
from_within s b w (suc n) i h =
    let t = token_at s i in
    let u = token_at s t.end in
    let e = part_end s text_size u.end in
    let past = token_within s t.end u refl (token_within s i t refl h) in
    let ends = part_within s text_size u.end past in
    let starts : t.start ≤ e = omega (arith, part_forward s text_size u.end, token_forward s i t refl, token_after s t.end u refl, token_forward s t.end u refl) in
    by_cases (Within s) (eqb t.kind module_key) _ _
    (λ y. by_cases (Within s) (same w (slice s u.start u.end)) _ _ (λ z. record { forward = starts; inside = ends }) (λ z. from_within s b w n e ends))
    (λ y. none_within s)

unmarked : (s : List ℕ) (w : Name) (n i : ℕ) → (part_from s false w n i).marked ≡ false
unfolding part_from part
unmarked s w zero i = refl
unmarked s w (suc n) i =
    let t = token_at s i in
    let u = token_at s t.end in
    by_cases (λ (p : Part). p.marked ≡ false) (eqb t.kind module_key) _ _
    (λ y. by_cases (λ (p : Part). p.marked ≡ false) (same w (slice s u.start u.end)) _ _ (λ z. refl)
    (λ z. unmarked s w n (part_end s text_size u.end))) (λ y. refl)

module _ (library text : List ℕ) (w : Name) (p : Part) (e : p ≡ fetched (two_texts library text) w) where
  chosen : (b : Bool) → (part_of library true w).marked ≡ b → p ≡ pick b (part_of library true w) (part_of text false w)
  unfolding fetched two_texts
  chosen b y = e ∙ rw y

  lies_in_library : p.marked ≡ true → Within library p
  unfolding part_of pick
  lies_in_library y = go (part_of library true w).marked refl
    where
      go : (b : Bool) → (part_of library true w).marked ≡ b → Within library p
      go true q = subst (Within library) (sym (chosen true q)) (from_within library true w 64 0 (omega arith))
      go false q = absurd (false≢true (sym (ap (λ (r : Part). r.marked) (chosen false q) ∙ unmarked text w 64 0) ∙ y))

  lies_in_text : p.marked ≡ false → Within text p
  unfolding part_of pick
  lies_in_text y = go (part_of library true w).marked refl
    where
      go : (b : Bool) → (part_of library true w).marked ≡ b → Within text p
      go true q = absurd (false≢true (sym y ∙ ap (λ (r : Part). r.marked) (chosen true q) ∙ q))
      go false q = subst (Within text) (sym (chosen false q)) (from_within text false w 64 0 (omega arith))

  pub forward : p.start ≤ p.end
  forward = go p.marked refl
    where
      go : (b : Bool) → p.marked ≡ b → p.start ≤ p.end
      go true y = (lies_in_library y).forward
      go false y = (lies_in_text y).forward

  module _ (y : p.marked ≡ true) where
    pub library_ends : p.end ≤ length library
    library_ends = (lies_in_library y).inside

    pub library_bytes : take (p.end - p.start) (drop p.start library) ≡ part_bytes (two_texts library text) (fetched (two_texts library text) w)
    unfolding part_bytes two_texts pick
    library_bytes = rw (← e, y)

  module _ (y : p.marked ≡ false) where
    pub text_ends : p.end ≤ length text
    text_ends = (lies_in_text y).inside

    pub text_bytes : take (p.end - p.start) (drop p.start text) ≡ part_bytes (two_texts library text) (fetched (two_texts library text) w)
    unfolding part_bytes two_texts pick
    text_bytes = rw (← e, y)

pub ruleset cases = (ends_module, ends_text, ends_bad, part_on, part_stop, part_spent, looking_first, not_there, name_forward, name_within, found, looking_on, none_left, nothing, of_library, of_text, forward, library_ends, library_bytes, text_ends, text_bytes, rules)
