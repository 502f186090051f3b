-- One law for each way through a level of a term, in its words.
use mathlib.Core.Path.{◌≡◌, refl, sym, ap, ◌∙◌}
use mathlib.Core.List.{List}
use Prim.Native.Nat.{ℕ, ◌+◌, ◌-◌, ◌<◌, ◌≤◌}
use native.Mathlib.Omega.{arith}
use borrow.Author.Tests.{ne_eqb}
use lib.ListN.{length, get_or}
use denote.Ref.{at_last}
use Rattle.meaning.specs.Lists.{pick}
use Rattle.tape.specs.Tape.{alone_role, head_role}
use Rattle.form_rows.specs.Entries.{role_at}
use Rattle.form.specs.Memory.{part}
use Rattle.own_finding.specs.declared.Known.{Known}
use Rattle.own_finding.specs.Arguments.{arguments_of, closers_of}
use Rattle.std.specs.Prelude.{None}
use Rattle.own_terms.specs.Typing.{Out, out, no_sorts, alone_at, term_at, args_at, operands_at, operators_in, returned, Ended, Operators, known_of, At, Room, answered, Lent, Reached, Read, Answer, of_sort}
use Rattle.own_terms.proofs.Operators.{operands_counted}
use Rattle.own_terms.proofs.Cases.{stays_here, term_deep, term_past, term_full, term_alone, term_args, term_other}
use Rattle.own_terms.proofs.Words.{reached_ill, reached_as, reached_on, reached_out, reached_at, answered_sorted, answered_ill}
use Rattle.own_terms.proofs.Arguments.{argued}
use Rattle.own_terms.proofs.Row.{row_ill, returned_as, row_total, rowed}

-- ---- the term

-- what reads leaves the memory as it is
module _ (v : ℕ) (w : List ℕ) (r : ℕ) (w' : List ℕ) (e : Read v w r w') where
  pub read_room : (p : List ℕ) → Room p w → Room p w'
  read_room p h = rw e.kept h

module _ (text p : List ℕ) (i q : ℕ) (w : Lent) where
  abbrev kt : Known
  kt = known_of p

  abbrev dt : ℕ
  dt = get_or p 7 0

  abbrev sought : Out
  sought = term_at text kt dt i q w.now

  pub deep_none : (p' : List ℕ) → dt ≡ 0 → Reached sought kt dt w 0 p' w
  deep_none p' z = reached_ill sought kt dt w p' w (stays_here w) (term_deep text kt dt i q w.now z)

  module _ (z : dt ≡ 0 → ⊥) where
    pub deep_past : (p' : List ℕ) → get_or p 0 0 ≤ i → Reached sought kt dt w 0 p' w
    unfolding known_of
    deep_past p' h = reached_ill sought kt dt w p' w (stays_here w) (term_past text kt dt i q w.now z h)

    module _ (h : i < get_or p 0 0) where
      pub deep_full : (p' : List ℕ) → length w.now ≤ q → Reached sought kt dt w 0 p' w
      unfolding known_of
      deep_full p' g = reached_ill sought kt dt w p' w (stays_here w) (term_full text kt dt i q w.now z h g)

      module _ (g : q < length w.now) (role : ℕ) (w' : List ℕ) (e : Read (role_at (part w.now 0 (get_or p 0 0)) i) w.now role w') where
        pub deep_leaf : (r : ℕ) (p' : List ℕ) (u : Lent) → role ≡ alone_role → Reached (alone_at text kt i q w') kt dt (at_last w w') r p' u
            → Reached sought kt dt w r p' u
        unfolding known_of
        deep_leaf r p' u y t =
            let o = alone_at text kt i q w.now in
            reached_as o sought kt dt w r p' u (term_alone text kt dt i q w.now z h g role e.value o y refl) (rw e.kept at t)

        module _ (x : role ≡ alone_role → ⊥) where
          headed : (o : Out) → role ≡ head_role → o ≡ args_at text kt (dt - 1) i q 1 9 (i + 1) (q + 1) 0 no_sorts w.now → o ≡ sought
          unfolding known_of arguments_of closers_of pick
          headed o y =
              term_args text kt dt i q w.now z h g role e.value x 9 (ap arguments_of (sym y)) 1 o (ap closers_of (sym y)) (λ f. omega arith)

          pub deep_args : (p₁ : List ℕ) (r : ℕ) (p' : List ℕ) (u : Lent) → role ≡ head_role → At kt (i + 1) (q + 1) dt p₁
              → Reached (args_at text (known_of p₁) (get_or p₁ 7 0 - 1) i q 1 9 (get_or p₁ 5 0) (get_or p₁ 6 0) 0 no_sorts w') (known_of p₁) (get_or p₁ 7 0)
              (at_last w w') r p' u
              → Reached sought kt dt w r p' u
          deep_args p₁ r p' u y a t =
              let o = args_at text kt (dt - 1) i q 1 9 (i + 1) (q + 1) 0 no_sorts w.now in
              reached_as o sought kt dt w r p' u
              (headed o y refl)
              (rw (a.known, a.next_at, a.free_at, a.deep, e.kept) at t)

          pub deep_other : (p' row : List ℕ) → (role ≡ head_role → ⊥) → get_or row 2 0 ≤ 1 → i ≡ get_or row 0 0 → q ≡ get_or row 1 0
              → Ended kt dt row w.now → Reached sought kt dt w 0 p' (at_last w w')
          unfolding known_of closers_of pick
          deep_other p' row y f e₀ e₁ m =
              let c : 0 ≡ closers_of role = rw (ne_eqb role head_role y) in
              let a = operands_counted (get_or p 0 0) i q w.now h g role 0 e.value c (arguments_of role) refl refl in
              let none : operands_at (get_or p 0 0) i q w.now ≡ 0 = rw (e₀, e₁) (m.none f z) in
              let ill = term_other text kt dt i q w.now z h g role e.value x (arguments_of role) refl (a ∙ none) in
              rw e.kept (reached_ill sought kt dt w p' w (stays_here w) ill)

-- a row of operators, and what is behind it
module _ (text p : List ℕ) (w : Lent) (row p₁ w' : List ℕ) (o : Operators p (get_or p 5 0) (get_or p 6 0) w.now row p₁ w') (first : ℕ) (p₂ : List ℕ) (u : Lent)
    (t : Reached (term_at text (known_of p₁) (get_or p₁ 7 0) (get_or row 0 0) (get_or row 1 0) w') (known_of p₁) (get_or p₁ 7 0) (at_last w w') first p₂ u) where
  abbrev kr : Known
  kr = known_of p

  abbrev behind : Out
  behind = term_at text kr (get_or p₁ 7 0) (get_or row 0 0) (get_or row 1 0) w.now

  abbrev entire : Out
  entire = term_at text kr (get_or p 7 0) (get_or p 5 0) (get_or p 6 0) w.now

  primary : Reached behind kr (get_or p₁ 7 0) w first p₂ u
  primary = rw (o.kept, o.left.known) at t

  same : returned text kr (get_or p₁ 7 0) row behind ≡ entire
  same =
      let n = o.n in
      let stand = o.stand in
      let deep : get_or p₁ 7 0 + n ≡ get_or p 7 0 = omega (arith, o.left.deep, stand.within) in
      let entry : get_or row 0 0 - n ≡ get_or p 5 0 = omega (arith, o.entry) in
      let place : get_or row 1 0 - n ≡ get_or p 6 0 = omega (arith, o.place) in
      returned_as text kr (get_or p₁ 7 0) row n stand.few stand.low stand.bits behind
      ∙ rw (deep, entry, place, o.left.deep, o.entry, o.place) (sym (stand.same text))

  came : returned text kr (get_or p₁ 7 0) row (out (answered first (get_or p₂ 5 0) (get_or p₂ 6 0)) u.now) ≡ entire
  came = ap (λ (x : Out). returned text kr (get_or p₁ 7 0) row x) (reached_out _ kr (get_or p₁ 7 0) w first p₂ u primary) ∙ same

  pub deep_sunk : first ≡ 0 → Reached entire kr (get_or p 7 0) w 0 p₂ u
  unfolding returned
  deep_sunk z =
      let ill = ap (λ (a : Answer). returned text kr (get_or p₁ 7 0) row (out a u.now)) (answered_ill first (get_or p₂ 5 0) (get_or p₂ 6 0) z) in
      reached_ill entire kr (get_or p 7 0) w p₂ u primary.stays (sym (row_ill text kr _ _ _ (operators_in row) (get_or row 2 0) u.now) ∙ sym ill ∙ came)

  pub deep_row : (r : ℕ) (p' : List ℕ) (v : Lent) → (first ≡ 0 → ⊥)
      → Reached (returned text (known_of p₂) (get_or p₂ 7 0) row (out (answered first (get_or p₂ 5 0) (get_or p₂ 6 0)) u.now)) (known_of p₂)
      (get_or p₂ 7 0 + operators_in row) u r p' v
      → Reached entire kr (get_or p 7 0) w r p' v
  deep_row r p' v y h =
      let at = reached_at _ kr (get_or p₁ 7 0) w first p₂ u primary y in
      let total = row_total p (get_or p 5 0) (get_or p 6 0) w.now row p₁ w' o in
      reached_as _ entire kr (get_or p 7 0) w r p' v came
      (reached_on _ kr (get_or p 7 0) w u r p' v primary.stays (rw (at.known, at.deep, total) at h))

-- the memory comes back as the reference that is handed back shows it, since both have one name
module _ (text : List ℕ) (known : Known) (d i q : ℕ) (p₀ : List ℕ) (w : Lent) (r : ℕ) (p : List ℕ) (w' : Lent) (u : List ℕ) (f : w.ghost_name ≡ w'.ghost_name → u ≡ w'.now)
    (e : At known i q d p₀)
    (h : Reached (term_at text (known_of p₀) (get_or p₀ 7 0) (get_or p₀ 5 0) (get_or p₀ 6 0) w.now) (known_of p₀) (get_or p₀ 7 0) w r p w') where
  came_back : out (answered r (get_or p 5 0) (get_or p 6 0)) u ≡ term_at text known d i q w.now
  came_back = rw (f (sym (ap (λ x. x.ghost_name) h.stays.same)), ← e.known, ← e.next_at, ← e.free_at, ← e.deep) (reached_out _ (known_of p₀) (get_or p₀ 7 0) w r p w' h)

  pub whole_ill : r ≡ 0 → out None u ≡ term_at text known d i q w.now
  whole_ill z = ap (λ (a : Answer). out a u) (sym (answered_ill r (get_or p 5 0) (get_or p 6 0) z)) ∙ came_back

  pub whole_sorted : (r ≡ 0 → ⊥) → out (of_sort (r - 1) (get_or p 5 0) (get_or p 6 0)) u ≡ term_at text known d i q w.now
  whole_sorted z = ap (λ (a : Answer). out a u) (sym (answered_sorted r (get_or p 5 0) (get_or p 6 0) z)) ∙ came_back

-- what the answers of a level hand to `search`
pub ruleset deeper = (argued, rowed, deep_none, deep_past, deep_full, deep_leaf, deep_args, deep_other)
