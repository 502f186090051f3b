-- An operator, and a row of them from the last to the first, in the words of a level; what is kept of the row.
use mathlib.Core.Path.{◌≡◌, refl, sym, ap, ◌∙◌}
use mathlib.Core.List.{List, []}
use Prim.Native.Nat.{ℕ, zero, suc, ◌+◌, ◌-◌, ◌*◌, ◌/◌, ◌%◌, ◌^◌, ◌<◌, ◌≤◌}
use native.Mathlib.Nat.{add-zero, pow-suc}
use native.Mathlib.Omega.{arith}
use lib.ListN.{length, get_or, set}
use lib.Pow.{pow_pos}
use Rattle.meaning.specs.Lists.{pick}
use Rattle.own_finding.specs.declared.Known.{Known}
use Rattle.own_finding.specs.Arguments.{ends_at}
use Rattle.std.specs.Prelude.{None}
use Rattle.own_terms.specs.Typing.{Out, out, no_sorts, applied_at, further, args_by, term_at, operated, operated_row, operators_in, returned, Backed, stepped, shortened, Ended, Operators, known_of, At, Room, answered, Told, Lent, Stays, Reached, Answer, of_sort}
use Rattle.own_terms.proofs.Operators.{doubled, halved, halved_some}
use Rattle.own_terms.proofs.Cases.{stays_here, stays_on}
use Rattle.own_terms.proofs.Words.{room_on, room_as, room_at, typed_as, reached_ill, reached_as, reached_on, reached_out, reached_at, reached_long, answered_sorted, answered_ill}

-- ---- an operator

module _ (text : List ℕ) (k : Known) (d i q word first next free : ℕ) (w : List ℕ) (y : first ≡ 0 → ⊥) where
  operated_one : word % 2 ≡ 0 → applied_at text k i q 1 (set no_sorts 0 (first - 1)) next free w ≡ operated text k d word i q (out (answered first next free) w)
  unfolding operated further args_by ends_at pick
  operated_one b = rw (answered_sorted first next free y, b, add-zero next)

  -- the second operand came out so
  module _ (b : word % 2 ≡ 0 → ⊥) (a : Answer) (u : List ℕ) (e : out a u ≡ term_at text k d next free w) where
    operated_two : further (args_by k (term_at text k d) (applied_at text k i q) 0 0) 1 (set no_sorts 0 (first - 1)) a u
        ≡ operated text k d word i q (out (answered first next free) w)
    unfolding operated further args_by ends_at pick
    operated_two = let odd : word % 2 ≡ 1 = omega arith in rw (answered_sorted first next free y, odd, ← e)

    operated_ill : a ≡ None → out None u ≡ operated text k d word i q (out (answered first next free) w)
    unfolding further
    operated_ill x = rw x at operated_two

    operated_both : (t next' free' : ℕ) → a ≡ of_sort t next' free'
        → applied_at text k i q 2 (set (set no_sorts 0 (first - 1)) 1 t) next' free' u ≡ operated text k d word i q (out (answered first next free) w)
    unfolding further args_by ends_at pick
    operated_both t next' free' x = rw (x, add-zero next') at operated_two

module _ (text p : List ℕ) (i q word first : ℕ) (w : Lent) (y : first ≡ 0 → ⊥) where
  abbrev kn : Known
  kn = known_of p

  abbrev dp : ℕ
  dp = get_or p 7 0

  abbrev combined : Out
  combined = operated text kn dp word i q (out (answered first (get_or p 5 0) (get_or p 6 0)) w.now)

  pub operator_prefix : (more : List ℕ) (r : ℕ) (p' : List ℕ) (u : Lent) → word % 2 ≡ 0 → more ≡ set no_sorts 0 (first - 1)
      → Reached (applied_at text kn i q 1 more (get_or p 5 0) (get_or p 6 0) w.now) kn dp w r p' u → Reached combined kn dp w r p' u
  operator_prefix more r p' u b m h =
      reached_as _ combined kn dp w r p' u (operated_one text kn dp i q word first (get_or p 5 0) (get_or p 6 0) w.now y b) (rw m at h)

  module _ (b : word % 2 ≡ 0 → ⊥) (second : ℕ) (p' : List ℕ) (u : Lent)
      (h : Reached (term_at text kn dp (get_or p 5 0) (get_or p 6 0) w.now) kn dp w second p' u) where
    pub operator_ill : second ≡ 0 → Reached combined kn dp w 0 p' u
    operator_ill x =
        reached_ill combined kn dp w p' u h.stays
        (operated_ill text kn dp i q word first (get_or p 5 0) (get_or p 6 0) w.now y b _ u.now (reached_out _ kn dp w second p' u h)
        (answered_ill second (get_or p' 5 0) (get_or p' 6 0) x))

    pub operator_infix : (more : List ℕ) (r : ℕ) (p'' : List ℕ) (v : Lent) → (second ≡ 0 → ⊥) → more ≡ set (set no_sorts 0 (first - 1)) 1 (second - 1)
        → Reached (applied_at text (known_of p') i q 2 more (get_or p' 5 0) (get_or p' 6 0) u.now) (known_of p') (get_or p' 7 0) u r p'' v
        → Reached combined kn dp w r p'' v
    operator_infix more r p'' v x m g =
        let back = reached_at _ kn dp w second p' u h x in
        let o = applied_at text kn i q 2 (set (set no_sorts 0 (first - 1)) 1 (second - 1)) (get_or p' 5 0) (get_or p' 6 0) u.now in
        reached_as o combined kn dp w r p'' v
        (operated_both text kn dp i q word first (get_or p 5 0) (get_or p 6 0) w.now y b _ u.now (reached_out _ kn dp w second p' u h)
        (second - 1) (get_or p' 5 0) (get_or p' 6 0)
        (answered_sorted second (get_or p' 5 0) (get_or p' 6 0) x))
        (reached_on o kn dp w u r p'' v h.stays (rw (m, back.known, back.deep) at g))

-- ---- the operators, from the last to the first

few_left : (n word : ℕ) → 2 ^ n ≤ word → word ≤ 1 → n ≡ 0
few_left zero word l h = refl
few_left (suc n) word l h = let some = pow_pos n in absurd (omega (arith, l, pow-suc 2 n, some))

more_left : (n word : ℕ) → word < 2 ^ (n + 1) → 1 < word → 0 < n
more_left zero word b h = absurd (omega arith)
more_left (suc n) word b h = omega arith

pub row_ill : (text : List ℕ) (k : Known) (d i q n word : ℕ) (w : List ℕ) → operated_row text k d i q n word (out None w) ≡ out None w
unfolding operated_row operated further
row_ill text k d i q zero word w = refl
row_ill text k d i q (suc n) word w = row_ill text k d i q n (word / 2) w

before_last : (i n : ℕ) → i - 1 - n ≡ i - suc n
before_last i n = omega arith

last_place : (i n : ℕ) → suc n ≤ i → i - suc n + n ≡ i - 1
last_place i n h = omega arith

deep_last : (d n : ℕ) → d + suc n - n - 1 ≡ d
deep_last d n = omega arith

-- the last one is typed first
row_last : (text : List ℕ) (k : Known) (d i q n word : ℕ) (o : Out) → 0 < n → n ≤ i → n ≤ q
    → operated_row text k (d + n) (i - n) (q - n) n word o
    ≡ operated_row text k (d + 1 + (n - 1)) (i - 1 - (n - 1)) (q - 1 - (n - 1)) (n - 1) (word / 2) (operated text k d word (i - 1) (q - 1) o)
unfolding operated_row
row_last text k d i q zero word o h g f = absurd (omega arith)
row_last text k d i q (suc n) word o h g f =
    let one : suc n - 1 ≡ n = omega arith in
    let total : d + 1 + n ≡ d + suc n = omega arith in
    rw (one, total, before_last i n, before_last q n, deep_last d n, last_place i n g, last_place q n f)

-- ---- the row, as it is kept

module _ (text : List ℕ) (k : Known) (d : ℕ) (row : List ℕ) (n : ℕ) (f : n ≤ 63) (l : 2 ^ n ≤ get_or row 2 0) (b : get_or row 2 0 < 2 ^ (n + 1)) where
  counted : operators_in row ≡ n
  counted = halved 64 n (get_or row 2 0) (omega arith) l b

  pub returned_as : (o : Out) → returned text k d row o ≡ operated_row text k (d + n) (get_or row 0 0 - n) (get_or row 1 0 - n) n (get_or row 2 0) o
  unfolding returned
  returned_as o = rw counted

pub onward_less : (d : ℕ) (row : List ℕ) (t : ℕ) (p' : List ℕ) (k : Known) (i q : ℕ) → 1 < get_or row 2 0 → (d + operators_in row) * 3 + 1 ≡ t → At k i q d p'
    → get_or p' 7 0 * 3 + 3 < t
onward_less d row t p' k i q h e a = rw a.deep (omega (arith, halved_some 63 (get_or row 2 0) h))

module _ (p : List ℕ) (i q : ℕ) (w row p' w' : List ℕ) (o : Operators p i q w row p' w') where
  row_count : operators_in row ≡ o.n
  row_count = counted [] (known_of p) 0 row o.n o.stand.few o.stand.low o.stand.bits

  pub row_total : get_or p' 7 0 + operators_in row ≡ get_or p 7 0
  row_total = omega (arith, row_count, o.left.deep, o.stand.within)

  pub row_ended : Ended (known_of p') (get_or p' 7 0) row w'
  row_ended = rw (o.kept, o.left.known) o.ended

  pub row_room : Room p w → Room p' w'
  row_room h = rw o.kept (room_at p w _ _ _ p' o.left (omega arith) h)

  pub row_less : (t : ℕ) → get_or p 7 0 * 3 + 2 ≡ t → (get_or p' 7 0 + operators_in row) * 3 + 1 < t
  row_less t e = omega (arith, row_total)

  -- the term behind the row came out so
  module _ (x : Lent) (first : ℕ) (p₂ : List ℕ) (u : Lent) (c : Out)
      (h : Reached c (known_of p') (get_or p' 7 0) x first p₂ u) (y : first ≡ 0 → ⊥) where
    back : At (known_of p') (get_or p₂ 5 0) (get_or p₂ 6 0) (get_or p' 7 0) p₂
    back = reached_at c (known_of p') (get_or p' 7 0) x first p₂ u h y

    pub row_backed : Room p w → Backed (get_or p₂ 7 0) row
    row_backed l = record {
      left = o.n;
      few = o.stand.few;
      low = o.stand.low;
      bits = o.stand.bits;
      entry = omega (arith, o.entry);
      place = omega (arith, o.place);
      total = omega (arith, back.deep, row_total, row_count, l.words.small);
    }

    pub row_back_less : (t : ℕ) → get_or p 7 0 * 3 + 2 ≡ t → (get_or p₂ 7 0 + operators_in row) * 3 + 1 < t
    row_back_less t e = omega (arith, back.deep, row_total)

-- the words are p, and what is wanted is what is wanted from here
pub record Returning (text p₀ row₀ : List ℕ) (first : ℕ) (w₀ : Lent) (row : List ℕ) (sort : ℕ) (p : List ℕ) (w : Lent) : Type 0 where
  pub stays : Stays w₀ w
  pub back : Backed (get_or p 7 0) row
  pub left : At (known_of p₀) (get_or p 5 0) (get_or p 6 0) (get_or p₀ 7 0 + operators_in row₀ - back.left) p
  pub total : back.left ≤ operators_in row₀
  pub some : sort ≡ 0 → ⊥
  pub fits : sort ≤ 4294967296
  pub rest : returned text (known_of p₀) (get_or p₀ 7 0) row₀ (out (answered first (get_or p₀ 5 0) (get_or p₀ 6 0)) w₀.now)
      ≡ returned text (known_of p₀) (get_or p 7 0) row (out (answered sort (get_or p 5 0) (get_or p 6 0)) w.now)

module _ (text p₀ row₀ : List ℕ) (first : ℕ) (w₀ : Lent) where
  abbrev kb : Known
  kb = known_of p₀

  abbrev whole : ℕ
  whole = get_or p₀ 7 0 + operators_in row₀

  abbrev regained : Out
  regained = returned text kb (get_or p₀ 7 0) row₀ (out (answered first (get_or p₀ 5 0) (get_or p₀ 6 0)) w₀.now)

  pub back_open : (first ≡ 0 → ⊥) → first ≤ 4294967296 → length p₀ ≡ 10 → Backed (get_or p₀ 7 0) row₀ → Returning text p₀ row₀ first w₀ row₀ first p₀ w₀
  back_open y h l b =
      let n = counted text kb (get_or p₀ 7 0) row₀ b.left b.few b.low b.bits in
      record {
        stays = stays_here w₀;
        back = b;
        left = record { long = l; known = refl; next_at = refl; free_at = refl; deep = omega (arith, n) };
        total = omega (arith, n);
        some = y;
        fits = h;
        rest = refl;
      }

  module _ (row : List ℕ) (sort : ℕ) (p : List ℕ) (w : Lent) (inv : Returning text p₀ row₀ first w₀ row sort p w) where
    abbrev left : ℕ
    left = inv.back.left

    abbrev held : Out
    held = out (answered sort (get_or p 5 0) (get_or p 6 0)) w.now

    rest_as : (o : Out) → returned text kb (get_or p 7 0) row o
        ≡ operated_row text kb (get_or p 7 0 + left) (get_or row 0 0 - left) (get_or row 1 0 - left) left (get_or row 2 0) o
    rest_as = returned_as text kb (get_or p 7 0) row left inv.back.few inv.back.low inv.back.bits

    pub back_room : Room p₀ w₀.now → Room p w.now
    back_room h =
        room_as p₀ p w.now inv.left.long inv.left.known (omega (arith, inv.back.total)) (room_on p₀ w₀ w inv.stays h)

    pub back_some : sort ≡ 0 → ⊥
    back_some = inv.some

    pub back_fits : sort ≤ 4294967296
    back_fits = inv.fits

    pub back_end : get_or row 2 0 ≤ 1 → Reached regained kb whole w₀ sort p w
    unfolding operated_row
    back_end h =
        let a = answered sort (get_or p 5 0) (get_or p 6 0) in
        let none = few_left left (get_or row 2 0) inv.back.low h in
        let deep : get_or p 7 0 ≡ whole = omega (arith, inv.left.deep, none) in
        let at : At kb (get_or p 5 0) (get_or p 6 0) whole p =
        record { long = inv.left.long; known = inv.left.known; next_at = refl; free_at = refl; deep = deep } in
        let told : Told a kb whole sort p = record { same = refl; fits = inv.fits; stands = λ z. at } in
        record { stays = inv.stays; typed = typed_as regained kb whole a w.now sort p (sym (inv.rest ∙ rest_as (out a w.now) ∙ rw none)) told }

    module _ (h : 1 < get_or row 2 0) where
      some_left : 0 < left
      some_left = more_left left (get_or row 2 0) inv.back.bits h

      pub back_less : (t : ℕ) → whole * 3 + 1 ≡ t → get_or p 7 0 * 3 + 3 < t
      back_less t x = omega (arith, some_left, inv.left.deep, inv.total)

      unfoldable shorter : Backed (get_or p 7 0 + 1) (shortened (stepped row))
      unfolding stepped shortened
      shorter =
          let onward : left ≡ left - 1 + 1 = omega (arith, some_left) in
          let low : 2 ^ (left - 1 + 1) ≤ get_or row 2 0 = rw (← onward) inv.back.low in
          let bits : get_or row 2 0 < 2 ^ (left - 1 + 1 + 1) = rw (← onward) inv.back.bits in
          record {
            left = left - 1;
            few = omega (arith, inv.back.few);
            low = omega (arith, low, doubled (left - 1));
            bits = omega (arith, bits, doubled (left - 1 + 1));
            entry = omega (arith, inv.back.entry);
            place = omega (arith, inv.back.place);
            total = omega (arith, some_left, inv.back.total);
          }

      -- the last operator came out so
      module _ (row' : List ℕ) (e : row' ≡ stepped row) (r : ℕ) (p' : List ℕ) (u : Lent)
          (t : Reached (operated text (known_of p) (get_or p 7 0) (get_or row' 2 0) (get_or row' 0 0) (get_or row' 1 0) held) (known_of p) (get_or p 7 0) w r p' u) where
        typed : Reached (operated text kb (get_or p 7 0) (get_or row 2 0) (get_or row 0 0 - 1) (get_or row 1 0 - 1) held) kb (get_or p 7 0) w r p' u
        unfolding stepped
        typed = rw (e, inv.left.known) at t

        pub back_ill : r ≡ 0 → Reached regained kb whole w₀ 0 p' u
        back_ill z =
            let ill = reached_out _ kb (get_or p 7 0) w r p' u typed in
            let sunk = ap (λ (a : Answer). out a u.now) (sym (answered_ill r (get_or p' 5 0) (get_or p' 6 0) z)) ∙ ill in
            reached_ill regained kb whole w₀ p' u (stays_on w₀ w u inv.stays t.stays)
            (sym
            (inv.rest
            ∙ rest_as held
            ∙ row_last text kb (get_or p 7 0) (get_or row 0 0) (get_or row 1 0) left (get_or row 2 0) held some_left inv.back.entry inv.back.place
            ∙ ap (λ (o : Out). operated_row text kb (get_or p 7 0 + 1 + (left - 1)) (get_or row 0 0 - 1 - (left - 1)) (get_or row 1 0 - 1 - (left - 1)) (left - 1)
            (get_or row 2 0 / 2) o) (sym sunk)
            ∙ row_ill text kb _ _ _ (left - 1) (get_or row 2 0 / 2) u.now))

        module _ (y : r ≡ 0 → ⊥) where
          pub back_long : length p' ≡ 10
          back_long = reached_long _ kb (get_or p 7 0) w r p' u typed y

          module _ (row'' : List ℕ) (e' : row'' ≡ shortened row') where
            pub back_fewer : get_or row'' 2 0 < get_or row 2 0
            unfolding stepped shortened
            back_fewer = rw (e', e) (omega arith)

            pub back_again : (p'' : List ℕ) → At (known_of p') (get_or p' 5 0) (get_or p' 6 0) (get_or p' 7 0 + 1) p''
                → Returning text p₀ row₀ first w₀ row'' r p'' u
            unfolding stepped shortened shorter
            back_again p'' s = rw (e', e) again
              where
                again : Returning text p₀ row₀ first w₀ (shortened (stepped row)) r p'' u
                again =
                    let b = shorter in
                    let at = reached_at _ kb (get_or p 7 0) w r p' u typed y in
                    let deep : get_or p'' 7 0 ≡ get_or p 7 0 + 1 = omega (arith, s.deep, at.deep) in
                    record {
                      stays = stays_on w₀ w u inv.stays t.stays;
                      back = rw deep b;
                      left = record {
                        long = s.long;
                        known = s.known ∙ at.known;
                        next_at = refl;
                        free_at = refl;
                        deep = omega (arith, deep, inv.left.deep, inv.total, some_left);
                      };
                      total = omega (arith, inv.total);
                      some = y;
                      fits = t.typed.told.fits;
                      rest = inv.rest
                          ∙ rest_as held
                          ∙ row_last text kb (get_or p 7 0) (get_or row 0 0) (get_or row 1 0) left (get_or row 2 0) held some_left inv.back.entry inv.back.place
                          ∙ sym (returned_as text kb (get_or p 7 0 + 1) (shortened (stepped row)) (left - 1) b.few b.low b.bits _)
                          ∙ ap (λ (o : Out). returned text kb (get_or p 7 0 + 1) (shortened (stepped row)) o) (sym (reached_out _ kb (get_or p 7 0) w r p' u typed))
                          ∙ rw (deep, s.next_at, s.free_at);
                    }

-- what a row of operators hands to `search`
pub ruleset rowed = (operator_prefix, operator_ill)
