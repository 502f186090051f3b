-- What a level of a term is lent, in words: what is known, the two places, the depth and a name's places, the room in the memory, and an answer as a number.
use mathlib.Core.Path.{◌≡◌, refl, sym, ap, ◌∙◌}
use mathlib.Core.List.{List, [], ◌∷◌}
use Prim.Native.Nat.{ℕ, zero, suc, ◌+◌, ◌-◌, ◌*◌, ◌^◌, ◌<◌, ◌≤◌}
use native.Mathlib.Numerals.{add-one, sub-one}
use native.Mathlib.Omega.{arith}
use borrow.Author.Rules.{rules}
use lib.ListN.{length, get_or, set, length-set}
use lib.Seq.{get_or-set_same, get_or-set_other}
use Rattle.own_finding.specs.declared.Known.{Known}
use Rattle.std.specs.Prelude.{Some, None}
use Rattle.own_terms.specs.declared.Sorted.{Sorted}
use Rattle.own_terms.specs.Typing.{Out, out, operators_in, known_of, Words, At, AtName, Room, answered, Told, Typed, Lent, Stays, Reached, Answer, of_sort}
use Rattle.own_terms.proofs.Cases.{stays_on}

-- ---- what is known

pub known_at : (k : Known) (i q d : ℕ) → At k i q d (k.tape ∷ k.base ∷ k.count ∷ k.visible ∷ k.hidden ∷ i ∷ q ∷ d ∷ 0 ∷ 0 ∷ [])
unfolding known_of
known_at k i q d = record { long = refl; known = refl; next_at = refl; free_at = refl; deep = refl }

module _ (known : Known) (k : List ℕ) (e : known ≡ known_of k) where
  pub known_tape : (n : ℕ) → get_or k 0 0 ≤ n → known.tape ≤ n
  unfolding known_of
  known_tape n h = rw e h

  pub known_count : Words k → known.count ≤ 65536
  unfolding known_of
  known_count h = rw e h.count

  pub known_row : (v : ℕ) → v < known.count → Words k → v < 65536
  known_row v l h = let c = known_count h in omega arith

  pub known_hidden : Words k → known.hidden ≤ 65536
  unfolding known_of
  known_hidden h = rw e h.hidden

pub room_known : (known : Known) (i q d : ℕ) (p w : List ℕ) → At known i q d p → known.tape ≤ length w → length w < 2 ^ 64 → d < 2 ^ 64
    → known.base < 2 ^ 32 → known.count ≤ 65536 → known.visible < 2 ^ 32 → known.hidden ≤ 65536 → Room p w
unfolding known_of
room_known known i q d p w e t f m b c v h =
    let same = e.known in
    record {
      words = record {
        long = e.long;
        base = rw (← same) at b;
        count = rw (← same) at c;
        visible = rw (← same) at v;
        hidden = rw (← same) at h;
        small = rw e.deep m;
      };
      tape = rw (← same) at t;
      fits = f;
    }

-- ---- the words at other places, at another depth, and at a name

known_same : (p : List ℕ) (j v : ℕ) → 4 < j → known_of (set p j v) ≡ known_of p
unfolding known_of
known_same p j v h =
    let other : (m : ℕ) → m < 5 → get_or (set p j v) m 0 ≡ get_or p m 0 = λ m l. get_or-set_other p j m v 0 (λ e. omega arith) in
    λ z. record {
      tape = other 0 (omega arith) z;
      base = other 1 (omega arith) z;
      count = other 2 (omega arith) z;
      visible = other 3 (omega arith) z;
      hidden = other 4 (omega arith) z;
    }

module _ (p : List ℕ) (l : length p ≡ 10) where
  pub moved : (next free : ℕ) (p' : List ℕ) → p' ≡ set (set p 5 next) 6 free → At (known_of p) next free (get_or p 7 0) p'
  moved next free p' e =
      let first = set p 5 next in
      let size = length-set p 5 next in
      rw e
      (record {
        long = length-set first 6 free ∙ size ∙ l;
        known = known_same first 6 free (omega arith) ∙ known_same p 5 next (omega arith);
        next_at = get_or-set_other first 6 5 free 0 (λ e. omega arith) ∙ get_or-set_same p 5 next 0 (omega arith);
        free_at = get_or-set_same first 6 free 0 (omega (arith, size));
        deep = get_or-set_other first 6 7 free 0 (λ e. omega arith) ∙ get_or-set_other p 5 7 next 0 (λ e. omega arith);
      })

  pub deepened : (d : ℕ) (p' : List ℕ) → p' ≡ set p 7 d → At (known_of p) (get_or p 5 0) (get_or p 6 0) d p'
  deepened d p' e =
      rw e
      (record {
        long = length-set p 7 d ∙ l;
        known = known_same p 7 d (omega arith);
        next_at = get_or-set_other p 7 5 d 0 (λ e. omega arith);
        free_at = get_or-set_other p 7 6 d 0 (λ e. omega arith);
        deep = get_or-set_same p 7 d 0 (omega arith);
      })

  pub pointed : (i q : ℕ) (p' : List ℕ) → p' ≡ set (set p 8 i) 9 q → AtName p i q p'
  pointed i q p' e =
      let first = set p 8 i in
      let size = length-set p 8 i in
      let other : (j : ℕ) → j < 8 → get_or (set first 9 q) j 0 ≡ get_or p j 0
      = λ j h. get_or-set_other first 9 j q 0 (λ e. omega arith) ∙ get_or-set_other p 8 j i 0 (λ e. omega arith) in
      rw e
      (record {
        left = record {
          long = length-set first 9 q ∙ size ∙ l;
          known = known_same first 9 q (omega arith) ∙ known_same p 8 i (omega arith);
          next_at = other 5 (omega arith);
          free_at = other 6 (omega arith);
          deep = other 7 (omega arith);
        };
        entry = get_or-set_other first 9 8 q 0 (λ e. omega arith) ∙ get_or-set_same p 8 i 0 (omega arith);
        place = get_or-set_same first 9 q 0 (omega (arith, size));
      })

-- ---- the room in the memory

pub room_on : (p : List ℕ) (w u : Lent) → Stays w u → Room p w.now → Room p u.now
room_on p w u s h = record { words = h.words; tape = omega (arith, h.tape, s.size); fits = omega (arith, h.fits, s.size) }

-- of other words of what is known
pub room_as : (p p' w : List ℕ) → length p' ≡ 10 → known_of p' ≡ known_of p → get_or p' 7 0 < 2 ^ 64 → Room p w → Room p' w
unfolding known_of
room_as p p' w l e d h = record {
  words = record {
    long = l;
    base = rw (ap (λ (x : Known). x.base) e) h.words.base;
    count = rw (ap (λ (x : Known). x.count) e) h.words.count;
    visible = rw (ap (λ (x : Known). x.visible) e) h.words.visible;
    hidden = rw (ap (λ (x : Known). x.hidden) e) h.words.hidden;
    small = d;
  };
  tape = rw (ap (λ (x : Known). x.tape) e) h.tape;
  fits = h.fits;
}

pub room_at : (p w : List ℕ) (i q d : ℕ) (p' : List ℕ) → At (known_of p) i q d p' → d ≤ get_or p 7 0 → Room p w → Room p' w
room_at p w i q d p' e m h = room_as p p' w e.long e.known (rw e.deep (omega (arith, h.words.small))) h

pub room_pointed : (p w : List ℕ) (i q : ℕ) (p' : List ℕ) → AtName p i q p' → Room p w → Room p' w
room_pointed p w i q p' e h = room_at p w (get_or p 5 0) (get_or p 6 0) (get_or p 7 0) p' e.left (omega arith) h

pub room_long : (p w : List ℕ) → Room p w → length p ≡ 10
room_long p w h = h.words.long

module _ (k : Known) (i q d : ℕ) (p : List ℕ) (e : At k i q d p) where
  pub at_some : (d ≡ 0 → ⊥) → get_or p 7 0 ≡ 0 → ⊥
  at_some y z = y (sym e.deep ∙ z)

  pub at_less : (row : List ℕ) (t : ℕ) → (d + operators_in row) * 3 + 1 ≡ t → get_or p 7 0 * 3 < t
  at_less row t x = rw e.deep (omega arith)

-- ---- an answer as a number

pub tell_ill : (a : Answer) (k : Known) (d : ℕ) (p : List ℕ) → a ≡ None → Told a k d 0 p
unfolding answered
tell_ill a k d p e = record { same = sym e; fits = omega arith; stands = λ z. absurd (z refl) }

pub tell_sorted : (a : Answer) (x : Sorted) (k : Known) (d : ℕ) (p : List ℕ) → a ≡ Some x → x.sort < 2 ^ 32 → At k x.next x.free d p → Told a k d (x.sort + 1) p
unfolding answered
tell_sorted a x k d p e h t = record {
  same = rw (add-one x.sort, t.next_at, t.free_at) (sym e);
  fits = omega arith;
  stands = λ z. record { long = t.long; known = t.known; next_at = refl; free_at = refl; deep = t.deep };
}

pub typed_as : (o : Out) (k : Known) (d : ℕ) (a : Answer) (u : List ℕ) (r : ℕ) (p : List ℕ) → out a u ≡ o → Told a k d r p → Typed o k d r p u
typed_as o k d a u r p e t = rw (← e) (record { told = t; memory = refl })

pub reached_ill : (o : Out) (k : Known) (d : ℕ) (w : Lent) (p : List ℕ) (u : Lent) → Stays w u → out None u.now ≡ o → Reached o k d w 0 p u
reached_ill o k d w p u s e = record { stays = s; typed = typed_as o k d None u.now 0 p e (tell_ill None k d p refl) }

pub reached_as : (o o' : Out) (k : Known) (d : ℕ) (w : Lent) (r : ℕ) (p : List ℕ) (u : Lent) → o ≡ o' → Reached o k d w r p u → Reached o' k d w r p u
reached_as o o' k d w r p u e h = rw (← e) h

pub reached_on : (o : Out) (k : Known) (d : ℕ) (w x : Lent) (r : ℕ) (p : List ℕ) (u : Lent) → Stays w x → Reached o k d x r p u → Reached o k d w r p u
reached_on o k d w x r p u s h = record { stays = stays_on w x u s h.stays; typed = h.typed }

module _ (o : Out) (k : Known) (d : ℕ) (w : Lent) (r : ℕ) (p : List ℕ) (u : Lent) (h : Reached o k d w r p u) where
  pub reached_out : out (answered r (get_or p 5 0) (get_or p 6 0)) u.now ≡ o
  reached_out = λ z. out (h.typed.told.same z) (h.typed.memory z)

  pub reached_fits : r ≤ 4294967296
  reached_fits = h.typed.told.fits

  module _ (y : r ≡ 0 → ⊥) where
    pub reached_at : At k (get_or p 5 0) (get_or p 6 0) d p
    reached_at = h.typed.told.stands y

    pub reached_long : length p ≡ 10
    reached_long = reached_at.long

    pub reached_room : (p₀ : List ℕ) → k ≡ known_of p₀ → d ≤ get_or p₀ 7 0 → Room p₀ w.now → Room p u.now
    reached_room p₀ e m l = room_as p₀ p u.now reached_long (reached_at.known ∙ e) (rw reached_at.deep (omega (arith, l.words.small))) (room_on p₀ w u h.stays l)

pub answered_sorted : (r next free : ℕ) → (r ≡ 0 → ⊥) → answered r next free ≡ of_sort (r - 1) next free
unfolding answered
answered_sorted zero next free y = absurd (y refl)
answered_sorted (suc s) next free y = rw sub-one

pub answered_ill : (r next free : ℕ) → r ≡ 0 → answered r next free ≡ None
unfolding answered
answered_ill r next free e = rw e

-- what the words of a level hand to `search`
pub ruleset worded = (known_at, known_tape, known_count, known_row, known_hidden, room_known, moved, deepened, pointed, room_at, room_pointed, room_long, tell_ill, tell_sorted, rules)
