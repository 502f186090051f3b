-- The ways through storing parameters, one law each: x is a role or a name's word, y the word of the module's name.
use mathlib.Core.Path.{◌≡◌, refl, sym, ap, ◌∙◌}
use mathlib.Core.List.{List, [], ◌∷◌, ◌++◌, append-nil, append_assoc}
use mathlib.Core.Logic.{inl}
use Prim.Native.Nat.{ℕ, suc, ◌+◌, ◌-◌, ◌*◌, ◌<◌, ◌≤◌}
use native.Mathlib.Numerals.{add-one}
use native.Mathlib.Omega.{arith}
use borrow.Author.Rules.{rules}
use borrow.Author.Tests.{eq-eqb, ne_eqb}
use lib.ListN.{length, set}
use lib.Seq.{get_or-set_same, get_or-set_other}
use Rattle.meaning.specs.Lists.{pick}
use Rattle.form_rows.specs.Entries.{role_at, word_at, home_at}
use Rattle.form.specs.Memory.{part, Kept}
use Rattle.form.specs.Forms.{slot_at, slots_at, slot_size}
use Rattle.form.specs.FormLaws.{kept_all, kept_wider, kept_then, kept_set, kept_same, slots_same, slots_grow, tape_same}
use Rattle.own_declarations.specs.Sorts.{Ready}
use Rattle.own_declarations.specs.declared.Own.{Own}
use Rattle.own_items.specs.Parameters.{declared_slot, declared_slots, SlotPut, SlotsRoom, SlotsAppended}

pub slot_put : (t place i x y : ℕ) (w w₁ w' : List ℕ) → x ≡ word_at (part w 0 t) i → y ≡ home_at (part w 0 t) i → w₁ ≡ set w place x
    → w' ≡ set w₁ (place + 1) y → SlotPut t place i w w'
slot_put t place i x y w w₁ w' e f p q =
    let first = kept_wider place (place + 1) place (place + slot_size) w w₁ (omega arith) (omega arith) (rw p (kept_set w place x)) in
    let second = kept_wider (place + 1) (place + 1 + 1) place (place + slot_size) w₁ w' (omega arith) (omega arith) (rw q (kept_set w₁ (place + 1) y)) in
    record {
      name = λ h. rw (q, get_or-set_other w₁ (place + 1) place y 0 (omega arith), p, get_or-set_same w place x 0 h) e;
      home = λ h. rw (q, get_or-set_same w₁ (place + 1) y 0 (omega (arith, first.size))) f;
      kept = kept_then place (place + slot_size) w w₁ w' first second;
    }

-- the parameters declared before i are those from n up to k
pub record Naming (t from end base n : ℕ) (w₀ w : List ℕ) (k i : ℕ) : Type 0 where
  pub tape : t ≤ length w₀
  pub small : end ≤ 1073741824
  pub room : SlotsRoom (length w₀) t from end base n
  pub begun : n ≤ k
  pub left : k + (end - i) ≤ n + (end - from)
  pub kept : Kept (base + n * slot_size) (base + k * slot_size) w₀ w
  pub so_far :
      (text : List ℕ) → slots_at text w base k ++ declared_slots text (part w₀ 0 t) i (end - i)
      ≡ slots_at text w₀ base n ++ declared_slots text (part w₀ 0 t) (from) (end - from)

pub naming_start : (t : ℕ) (own : Own) (base n : ℕ) (w : List ℕ) → Ready w t own → SlotsRoom (length w) t own.from own.end base n
    → Naming t own.from own.end base n w w n own.from
naming_start t own base n w h l = record {
  tape = h.tape;
  small = h.small;
  room = l;
  begun = omega arith;
  left = omega arith;
  kept = kept_all _ _ w;
  so_far = λ text. refl;
}

module _ (t from end base n : ℕ) (w₀ w : List ℕ) (k i : ℕ) (g : Naming t from end base n w₀ w k i) where
  same_tape : part w 0 t ≡ part w₀ 0 t
  same_tape = tape_same w₀ w t g.kept.size (λ j h l. g.kept.below j (omega (arith, g.room.behind)))

  pub naming_end : end ≤ i → SlotsAppended t from end base n w₀ w k
  unfolding declared_slots
  naming_end h =
      let z : end - i ≡ 0 = omega arith in
      record { kept = g.kept; grows = g.begun; few = omega (arith, g.left); slots = λ text. rw (z, append-nil) at (g.so_far text) }

  module _ (x : ℕ) (e : x ≡ role_at (part w 0 t) i) (h : i < end) where
    one_less : end - i ≡ suc (end - (i + 1))
    one_less = omega arith

    role_there : role_at (part w₀ 0 t) i ≡ x
    role_there = sym (e ∙ ap (λ (y : List ℕ). role_at y i) same_tape)

    pub naming_skip : (x ≡ 2 → ⊥) → Naming t from end base n w₀ w k (i + 1)
    unfolding declared_slots pick
    naming_skip q = record {
      tape = g.tape;
      small = g.small;
      room = g.room;
      begun = g.begun;
      left = omega (arith, g.left);
      kept = g.kept;
      so_far = λ text. rw (one_less, role_there, ne_eqb x 2 q, ← add-one i) at (g.so_far text);
    }

    pub naming_put : x ≡ 2 → (w' : List ℕ) → SlotPut t (base + k * slot_size) i w w' → Naming t from end base n w₀ w' (k + 1) (i + 1)
    unfolding declared_slots declared_slot slot_at pick
    naming_put q w' p =
        let inside : base + k * slot_size + 1 < length w = omega (arith, g.left, g.room.room, g.kept.size) in
        let name = rw same_tape at (p.name (omega arith)) in
        let home = rw same_tape at (p.home inside) in
        let all : (text : List ℕ) → slots_at text w' base (k + 1) ≡ slots_at text w base k ++ (declared_slot text (part w₀ 0 t) i ∷ []) = λ text.
        let front : slots_at text w' base k ≡ slots_at text w base k =
        slots_same w w' text base k (kept_same (base + k * slot_size) (base + k * slot_size + slot_size) base (base + k * slot_size) w w' (inl (omega arith))
        p.kept) in
        rw (add-one k, slots_grow text w' base k, front, name, home) in
        let old : (text : List ℕ) → slots_at text w base k ++ (declared_slot text (part w₀ 0 t) i ∷ declared_slots text (part w₀ 0 t) (i + 1) (end - (i + 1)))
        ≡ slots_at text w₀ base n ++ declared_slots text (part w₀ 0 t) (from) (end - from) = λ text.
        rw (one_less, role_there, eq-eqb x 2 q, ← add-one i) at (g.so_far text) in
        record {
          tape = g.tape;
          small = g.small;
          room = g.room;
          begun = omega (arith, g.begun);
          left = omega (arith, g.left);
          kept = kept_then (base + n * slot_size) (base + (k + 1) * slot_size) w₀ w w'
              (kept_wider (base + n * slot_size) (base + k * slot_size) (base + n * slot_size) (base + (k + 1) * slot_size) w₀ w (omega arith) (omega arith)
              g.kept)
              (kept_wider (base + k * slot_size) (base + k * slot_size + slot_size) (base + n * slot_size) (base + (k + 1) * slot_size) w w'
              (omega (arith, g.begun)) (omega arith) p.kept);
          so_far = λ text. rw (all text, append_assoc) (old text);
        }

pub ruleset naming = (slot_put, naming_start, naming_end, rules)
