-- A name with its arguments, in the words of a level.
use mathlib.Core.Path.{◌≡◌, refl, ap, ◌∙◌}
use mathlib.Core.Bool.{Bool, true, false}
use mathlib.Core.List.{List}
use Prim.Native.Nat.{ℕ, ◌+◌, ◌-◌, ◌*◌, ◌^◌, ◌<◌, ◌≤◌}
use native.Mathlib.Omega.{arith}
use borrow.Author.Tests.{lt-ltb, le-ltb}
use lib.ListN.{length, get_or, set}
use denote.Ref.{at_last}
use Rattle.meaning.specs.Lists.{pick}
use Rattle.form.specs.Memory.{part}
use Rattle.own_finding.specs.declared.Known.{Known}
use Rattle.own_finding.specs.Arguments.{ends_at}
use Rattle.std.specs.Prelude.{None}
use Rattle.own_terms.specs.Typing.{Out, out, settled, variable_at, no_sorts, alone_at, applied_at, term_at, args_at, known_of, At, AtName, Room, answered, Told, Typed, Lent, Reached, Read, item_at, Answer}
use Rattle.own_terms.proofs.Cases.{stays_on, end_fits, Arguing, args_again, args_end, args_done, args_many, args_ill}
use Rattle.own_terms.proofs.Words.{room_on, room_at, typed_as, reached_ill, reached_as, reached_on, reached_out, reached_at, reached_long, answered_sorted, answered_ill, worded}

-- ---- a name

module _ (text p₀ : List ℕ) (i q n : ℕ) (sorts : List ℕ) (next free : ℕ) (w : List ℕ) (alone : Bool) (known : Known) (a : Answer) (u : List ℕ) (d r : ℕ) (p : List ℕ)
    (v : ℕ) (e : known ≡ known_of p₀) (t : Told a (known_of p₀) d r p) (h : v ≡ variable_at text known alone i w) where
  abbrev item : Out
  item = item_at text (known_of p₀) alone i q n sorts next free w

  pub item_variable : v < known.count → out a u ≡ settled known q v n next free w → Typed item (known_of p₀) d r p u
  unfolding item_at pick
  item_variable l f = typed_as item (known_of p₀) d a u r p (rw (← e, ← h, lt-ltb v known.count l) f) t

  pub item_function : known.count ≤ v → out a u ≡ applied_at text known i q n sorts next free w → Typed item (known_of p₀) d r p u
  unfolding item_at pick
  item_function l f = typed_as item (known_of p₀) d a u r p (rw (← e, ← h, le-ltb v known.count l) f) t

pub leaf_nine : (sorts : List ℕ) → sorts ≡ no_sorts → length sorts ≡ 9
leaf_nine sorts e = rw e refl

pub leaf_told : (text : List ℕ) (k : Known) (i q d : ℕ) (sorts p₁ p₂ : List ℕ) (w : Lent) (r : ℕ) (p : List ℕ) (u : Lent) → sorts ≡ no_sorts
    → At k (i + 1) (q + 1) d p₁ → AtName p₁ i q p₂
    → Reached (item_at text (known_of p₂) true (get_or p₂ 8 0) (get_or p₂ 9 0) 0 sorts (get_or p₂ 5 0) (get_or p₂ 6 0) w.now) (known_of p₂) (get_or p₂ 7 0) w r p u
    → Reached (alone_at text k i q w.now) k d w r p u
unfolding item_at variable_at alone_at pick
leaf_told text k i q d sorts p₁ p₂ w r p u e t m h =
    rw (e, m.entry, m.place, m.left.known ∙ t.known, m.left.next_at ∙ t.next_at, m.left.free_at ∙ t.free_at, m.left.deep ∙ t.deep) at h

pub named_told : (text p₀ : List ℕ) (i q n : ℕ) (sorts p₁ : List ℕ) (w : Lent) (r : ℕ) (p : List ℕ) (u : Lent) → AtName p₀ i q p₁
    → Reached (item_at text (known_of p₁) false (get_or p₁ 8 0) (get_or p₁ 9 0) n sorts (get_or p₁ 5 0) (get_or p₁ 6 0) w.now) (known_of p₁) (get_or p₁ 7 0) w r p u
    → Reached (applied_at text (known_of p₀) i q n sorts (get_or p₀ 5 0) (get_or p₀ 6 0) w.now) (known_of p₀) (get_or p₀ 7 0) w r p u
unfolding item_at variable_at pick
named_told text p₀ i q n sorts p₁ w r p u m h =
    let k = known_of p₀ in
    rw (m.entry, m.place, m.left.known, m.left.next_at, m.left.free_at, m.left.deep, le-ltb k.count k.count (omega arith)) at h

-- ---- the arguments, n of which are there; what reads where they end leaves the memory as it is

-- the words are p, and what is wanted is what is wanted from here
pub record Deep (text p₀ : List ℕ) (head place : ℕ) (w₀ : Lent) (n : ℕ) (sorts p : List ℕ) (w : Lent) : Type 0 where
  pub left : At (known_of p₀) (get_or p 5 0) (get_or p 6 0) (get_or p₀ 7 0) p
  pub arguing : Arguing text (known_of p₀) (get_or p₀ 7 0 - 1) head place 1 9 (get_or p₀ 5 0) (get_or p₀ 6 0) 0 no_sorts w₀ (9 - n) (get_or p 5 0) (get_or p 6 0) n sorts w

module _ (text p₀ : List ℕ) (head place : ℕ) (w₀ : Lent) where
  abbrev k : Known
  k = known_of p₀

  abbrev d : ℕ
  d = get_or p₀ 7 0

  abbrev wanted : Out
  wanted = args_at text k (d - 1) head place 1 9 (get_or p₀ 5 0) (get_or p₀ 6 0) 0 no_sorts w₀.now

  module _ (n : ℕ) (sorts p : List ℕ) (w : Lent) (inv : Deep text p₀ head place w₀ n sorts p w) where
    abbrev i : ℕ
    i = get_or p 5 0

    abbrev q : ℕ
    q = get_or p 6 0

    abbrev arguing : Arguing text k (d - 1) head place 1 9 (get_or p₀ 5 0) (get_or p₀ 6 0) 0 no_sorts w₀ (9 - n) i q n sorts w
    arguing = inv.arguing

    pub deep_room : Room p₀ w₀.now → Room p w.now
    deep_room f = room_at p₀ w.now i q d p inv.left (omega arith) (room_on p₀ w₀ w arguing.stays f)

    pub deep_tape : Room p₀ w₀.now → get_or p 0 0 ≤ length w.now
    deep_tape f = (deep_room f).tape

    pub deep_nine : length sorts ≡ 9
    deep_nine = arguing.nine

    pub deep_few : n ≤ 9
    deep_few = omega (arith, arguing.few)

    pub deep_whole : length p ≡ 10
    deep_whole = inv.left.long

    pub deep_falls : (p₁ : List ℕ) (t : ℕ) → At (known_of p) i q (get_or p 7 0 - 1) p₁ → (d ≡ 0 → ⊥) → d * 3 ≡ t → get_or p₁ 7 0 * 3 + 2 < t
    deep_falls p₁ t e y x = omega (arith, e.deep, inv.left.deep)

    module _ (b : Bool) (w' : List ℕ) (e : Read (ends_at (part w.now 0 (get_or p 0 0)) 1 (9 - n) i) w.now b w') where
      told : b ≡ ends_at (part w.now 0 (get_or p₀ 0 0)) 1 (9 - n) i
      unfolding known_of
      told = rw (ap (λ (x : Known). x.tape) inv.left.known) at e.value

      pub deep_still : Room p₀ w₀.now → Room p w'
      deep_still f = rw e.kept (deep_room f)

      pub deep_fits : b ≡ true → Room p₀ w₀.now → i + 1 < 2 ^ 64
      unfolding known_of
      deep_fits z f = end_fits k w.now (9 - n) i b told z (deep_room f).fits

      pub deep_done : (end : ℕ) (p₁ : List ℕ) (r : ℕ) (p' : List ℕ) (u : Lent) → b ≡ true → end ≡ i + 1 → At (known_of p) end q (get_or p 7 0) p₁
          → Reached (applied_at text (known_of p₁) head place n sorts (get_or p₁ 5 0) (get_or p₁ 6 0) w') (known_of p₁) (get_or p₁ 7 0) (at_last w w') r p' u
          → Reached wanted k d w₀ r p' u
      unfolding known_of
      deep_done end p₁ r p' u z f t h =
          let o = applied_at text k head place n sorts (i + 1) q w.now in
          reached_as o wanted k d w₀ r p' u
          (args_end text k (d - 1) head place 1 9 (get_or p₀ 5 0) (get_or p₀ 6 0) 0 no_sorts w₀ (9 - n) i q n sorts w arguing o
          (args_done text k (d - 1) head place 1 i q n sorts w.now (9 - n) b o told z refl))
          (reached_on o k d w₀ w r p' u arguing.stays
          (rw (t.known ∙ inv.left.known, t.next_at ∙ f, t.free_at, t.deep ∙ inv.left.deep, e.kept) at h))

      module _ (z : b ≡ false) where
        pub deep_many : (p' : List ℕ) → n ≡ 9 → Reached wanted k d w₀ 0 p' (at_last w w')
        unfolding known_of
        deep_many p' y =
            rw e.kept
            (reached_ill wanted k d w₀ p' w arguing.stays
            (args_end text k (d - 1) head place 1 9 (get_or p₀ 5 0) (get_or p₀ 6 0) 0 no_sorts w₀ (9 - n) i q n sorts w arguing (out None w.now)
            (args_many text k (d - 1) head place 1 i q n sorts w.now (9 - n) b told z (omega arith))))

        -- the argument is typed a level deeper
        module _ (y : n ≡ 9 → ⊥) (p₁ : List ℕ) (t : At (known_of p) i q (get_or p 7 0 - 1) p₁) (r : ℕ) (p₂ : List ℕ) (u : Lent)
            (h : Reached (term_at text (known_of p₁) (get_or p₁ 7 0) (get_or p₁ 5 0) (get_or p₁ 6 0) w') (known_of p₁) (get_or p₁ 7 0) (at_last w w') r p₂ u) where
          abbrev answer : Answer
          answer = answered r (get_or p₂ 5 0) (get_or p₂ 6 0)

          further_on : Reached (term_at text k (d - 1) i q w.now) k (d - 1) w r p₂ u
          further_on =
              let deep : get_or p₁ 7 0 ≡ d - 1 = t.deep ∙ ap (λ (x : ℕ). x - 1) inv.left.deep in
              rw (t.known ∙ inv.left.known, t.next_at, t.free_at, deep, e.kept) at h

          more_fit : 9 - n ≡ 0 → ⊥
          more_fit x = omega (arith, arguing.few)

          pub deep_ill : r ≡ 0 → Reached wanted k d w₀ 0 p₂ u
          unfolding known_of
          deep_ill x =
              reached_ill wanted k d w₀ p₂ u (stays_on w₀ w u arguing.stays further_on.stays)
              (args_end text k (d - 1) head place 1 9 (get_or p₀ 5 0) (get_or p₀ 6 0) 0 no_sorts w₀ (9 - n) i q n sorts w arguing (out None u.now)
              (args_ill text k (d - 1) head place 1 i q n sorts w.now (9 - n) b told z answer u.now (reached_out _ k (d - 1) w r p₂ u further_on) more_fit
              (answered_ill r (get_or p₂ 5 0) (get_or p₂ 6 0) x)))

          module _ (x : r ≡ 0 → ⊥) where
            pub deep_long : length p₂ ≡ 10
            deep_long = reached_long _ k (d - 1) w r p₂ u further_on x

            pub deep_again : (p₃ more : List ℕ) → (d ≡ 0 → ⊥) → At (known_of p₂) (get_or p₂ 5 0) (get_or p₂ 6 0) (get_or p₂ 7 0 + 1) p₃ → more ≡ set sorts n (r - 1)
                → Deep text p₀ head place w₀ (n + 1) more p₃ u
            unfolding known_of
            deep_again p₃ more g s m =
                let less : 9 - (n + 1) ≡ 9 - n - 1 = omega arith in
                let back = reached_at _ k (d - 1) w r p₂ u further_on x in
                record {
                  left = record { long = s.long; known = s.known ∙ back.known; next_at = refl; free_at = refl; deep = omega (arith, s.deep, back.deep) };
                  arguing = rw (less, s.next_at, s.free_at)
                      (args_again text k (d - 1) head place 1 9 (get_or p₀ 5 0) (get_or p₀ 6 0) 0 no_sorts w₀ (9 - n) i q n sorts w arguing b answer u
                      (r - 1) (get_or p₂ 5 0) (get_or p₂ 6 0) more told z more_fit
                      (reached_out _ k (d - 1) w r p₂ u further_on)
                      (answered_sorted r (get_or p₂ 5 0) (get_or p₂ 6 0) x)
                      further_on.stays
                      m);
                }

-- what a name and its arguments hand to `search`
pub ruleset argued = (worded, item_variable, item_function, leaf_nine, leaf_told, named_told)
