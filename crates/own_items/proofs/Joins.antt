-- The ways through joining a module's own visible items, one law each: b is a test's answer, r a number of rows.
use mathlib.Core.Path.{◌≡◌, refl, sym, ap, ◌∙◌}
use mathlib.Core.Bool.{Bool, true, false}
use mathlib.Core.List.{List, [], ◌∷◌}
use Prim.Native.Nat.{ℕ, suc, ◌+◌, ◌-◌, ◌*◌, ◌<◌, ◌≤◌}
use native.Mathlib.Numerals.{add-one}
use native.Mathlib.Omega.{arith}
use borrow.Author.Rules.{rules}
use lib.ListN.{length}
use Rattle.meaning.specs.Lists.{pick, any, union}
use Rattle.meaning.specs.Origins.{Item, one_item}
use Rattle.form_rows.specs.declared.Row.{Row}
use Rattle.form_rows.specs.Rows.{item_of, row_size}
use Rattle.form.specs.Memory.{part, Same, Kept}
use Rattle.form.specs.Forms.{items_at}
use Rattle.form.specs.FormLaws.{kept_all, kept_wider, kept_then, kept_same, tape_same, length_items}
use Rattle.form_walks.specs.Lists.{found, none_found}
use Rattle.unite_items.specs.ListLaws.{union_then}
use Rattle.unite_items.specs.Absorb.{Placed}
use Rattle.unite_items.specs.Turns.{Space}
use Rattle.own_declarations.specs.Sorts.{Ready}
use Rattle.own_declarations.specs.Items.{own_item, OwnRow, is_own, own_count, own_items, Roomy}
use Rattle.own_declarations.specs.Frames.{item_same, count_short}
use Rattle.own_declarations.specs.declared.Own.{Own}
use Rattle.own_items.specs.Joined.{RowRoom, JoinedOne, Joined}

-- ---- one item

pub item_space : (text tape w : List ℕ) (t : ℕ) (own : Own) (base k d : ℕ) (x : Row) → Ready w t own → RowRoom (length w) base k
    → OwnRow text tape w own d x → Space (length w) t base k x
item_space text tape w t own base k d x h l o = record { tape = h.tape; row = o.fits; room = l.room }

module _ (text tape w w' : List ℕ) (own : Own) (base k d at : ℕ) (x : Row) (o : OwnRow text tape w own d x)
    (p : Placed text tape w base k (item_of text tape x) at w') where
  abbrev xs : List Item
  xs = items_at text tape w base k

  abbrev new : Item
  new = own_item text tape w own d

  placed : Placed text tape w base k new at w'
  placed = rw o.item at p

  pub join_found : at < k → JoinedOne text tape w own base k d k w'
  unfolding pick
  join_found h =
      let spot = placed.row in
      let there : any (one_item new) xs ≡ true = found (one_item new) xs (omega (arith, spot, length_items text tape w base k)) in
      record { items = rw there at placed.items; grows = omega arith; few = omega arith; kept = p.kept }

  pub join_new : k ≤ at → JoinedOne text tape w own base k d (k + 1) w'
  unfolding pick
  join_new h =
      let spot = placed.row in
      let none : any (one_item new) xs ≡ false = none_found (one_item new) xs (omega (arith, spot, length_items text tape w base k)) in
      record { items = rw none at placed.items; grows = omega arith; few = omega arith; kept = p.kept }

-- ---- all items: those before i are joined, k rows are there

pub record Joining (text : List ℕ) (t : ℕ) (own : Own) (base n : ℕ) (w₀ w : List ℕ) (k i : ℕ) : Type 0 where
  pub ready : Ready w₀ t own
  pub roomy : Roomy t own false base n w₀
  pub begun : n ≤ k
  pub left : k + own_count (part w₀ 0 t) false i (own.end - i) ≤ n + own_count (part w₀ 0 t) false own.from (own.end - own.from)
  pub kept : Kept (base + n * row_size) (base + (n + own_count (part w₀ 0 t) false own.from (own.end - own.from)) * row_size) w₀ w
  pub so_far :
      union one_item (items_at text (part w₀ 0 t) w base k) (own_items text (part w₀ 0 t) w₀ own false i (own.end - i))
      ≡ union one_item (items_at text (part w₀ 0 t) w₀ base n) (own_items text (part w₀ 0 t) w₀ own false own.from (own.end - own.from))

pub joining_start : (text : List ℕ) (t : ℕ) (own : Own) (base n : ℕ) (w : List ℕ) → Ready w t own → Roomy t own false base n w
    → Joining text t own base n w w n own.from
joining_start text t own base n w h l =
    record { ready = h; roomy = l; begun = omega arith; left = omega arith; kept = kept_all _ _ w; so_far = refl }

module _ (text : List ℕ) (t : ℕ) (own : Own) (base n : ℕ) (w₀ w : List ℕ) (k i : ℕ) (g : Joining text t own base n w₀ w k i) where
  pub joining_ready : Ready w t own
  joining_ready = record { tape = omega (arith, g.kept.size, g.ready.tape); small = g.ready.small }

  same_tape : part w 0 t ≡ part w₀ 0 t
  same_tape = tape_same w₀ w t g.kept.size (λ j h l. g.kept.below j (omega (arith, g.roomy.behind)))

  pub joining_end : own.end ≤ i → Joined text t own base n w₀ w k
  unfolding own_count own_items union
  joining_end h =
      let z : own.end - i ≡ 0 = omega arith in
      let few : k + 0 ≤ n + own_count (part w₀ 0 t) false own.from (own.end - own.from) = rw z at g.left in
      record { kept = g.kept; grows = g.begun; few = omega (arith, few); items = rw z at g.so_far }

  module _ (b : Bool) (e : b ≡ is_own (part w 0 t) false i) (h : i < own.end) where
    one_less : own.end - i ≡ suc (own.end - (i + 1))
    one_less = omega arith

    own_there : is_own (part w₀ 0 t) false i ≡ b
    own_there = sym (e ∙ ap (λ (x : List ℕ). is_own x false i) same_tape)

    pub joining_skip : b ≡ false → Joining text t own base n w₀ w k (i + 1)
    unfolding own_count own_items pick
    joining_skip q = record {
      ready = g.ready;
      roomy = g.roomy;
      begun = g.begun;
      left = rw (one_less, own_there ∙ q, ← add-one i) at g.left;
      kept = g.kept;
      so_far = rw (one_less, own_there ∙ q, ← add-one i) at g.so_far;
    }

    module _ (q : b ≡ true) where
      counted : k + suc (own_count (part w₀ 0 t) false (i + 1) (own.end - (i + 1))) ≤ n + own_count (part w₀ 0 t) false own.from (own.end - own.from)
      unfolding own_count pick
      counted = rw (one_less, own_there ∙ q, ← add-one i) at g.left

      pub joining_room : RowRoom (length w) base k
      joining_room = record {
        few = omega (arith, counted, count_short (part w₀ 0 t) false own.from (own.end - own.from), g.ready.small, g.roomy.few);
        room = omega (arith, counted, g.roomy.room, g.kept.size);
      }

      pub joining_on : (w' : List ℕ) (r : ℕ) → JoinedOne text (part w 0 t) w own base k i r w' → Joining text t own base n w₀ w' r (i + 1)
      unfolding own_items pick
      joining_on w' r p =
          let c = counted in
          let more = own_items text (part w₀ 0 t) w₀ own false (i + 1) (own.end - (i + 1)) in
          let end = base + (n + own_count (part w₀ 0 t) false own.from (own.end - own.from)) * row_size in
          let stays : Same own.rows (own.rows + own.count * row_size) w₀ w =
          kept_same (base + n * row_size) end own.rows (own.rows + own.count * row_size) w₀ w g.roomy.apart g.kept in
          let here : own_item text (part w₀ 0 t) w own i ≡ own_item text (part w₀ 0 t) w₀ own i = item_same text (part w₀ 0 t) w₀ w own stays i in
          let all : items_at text (part w₀ 0 t) w' base r ≡ union one_item (items_at text (part w₀ 0 t) w base k) (own_item text (part w₀ 0 t) w₀ own i ∷ []) =
          rw here at (rw same_tape at p.items) in
          let old : union one_item (items_at text (part w₀ 0 t) w base k) (own_item text (part w₀ 0 t) w₀ own i ∷ more)
          ≡ union one_item (items_at text (part w₀ 0 t) w₀ base n) (own_items text (part w₀ 0 t) w₀ own false own.from (own.end - own.from)) =
          rw (one_less, own_there ∙ q, ← add-one i) at g.so_far in
          record {
            ready = g.ready;
            roomy = g.roomy;
            begun = omega (arith, g.begun, p.grows);
            left = omega (arith, c, p.few);
            kept = kept_then (base + n * row_size) end w₀ w w' g.kept
                (kept_wider (base + k * row_size) (base + k * row_size + row_size) (base + n * row_size) end w w' (omega (arith, g.begun)) (omega (arith, c))
                p.kept);
            so_far =
                ap (λ (x : List Item). union one_item x more) all
                ∙ union_then one_item (items_at text (part w₀ 0 t) w base k) (own_item text (part w₀ 0 t) w₀ own i ∷ []) more
                ∙ old;
          }

pub ruleset joins = (item_space, join_found, join_new, joining_start, joining_ready, joining_end, joining_skip, joining_room, rules)
