-- Laws of uniting parameters: of the first k of g's those that are none of f's stand behind f's own, and what they are held against stays.
use mathlib.Core.Path.{◌≡◌, refl, sym, ap, ◌∙◌, subst}
use mathlib.Core.Logic.{inl}
use mathlib.Core.Bool.{Bool, true, false, not}
use mathlib.Core.List.{List, [], ◌∷◌, ◌++◌, append-nil, append_assoc}
use Prim.Native.Nat.{ℕ, ◌+◌, ◌*◌, ◌≤◌, ◌<◌}
use native.Mathlib.Omega.{arith}
use native.Mathlib.Numerals.{add-one}
use lib.ListN.{length}
use borrow.Author.Rules.{rules}
use Rattle.meaning.specs.Lists.{pick, keep}
use Rattle.meaning.specs.Normal.{Slot, Visible, is_parameter_of}
use Rattle.form_rows.specs.Rows.{row_size}
use Rattle.form.specs.declared.Form.{Form}
use Rattle.form.specs.Memory.{part, Kept}
use Rattle.form.specs.Forms.{slot_at, slots_at, visible_at, slot_size}
use Rattle.form.specs.FormLaws.{Apart, kept_all, kept_wider, kept_then, kept_same, slot_same, slots_grow, tape_same}
use Rattle.form_walks.specs.Lists.{keep_append}
use Rattle.clause_checks.specs.KeptParameters.{SlotCopied, copied_behind}
use Rattle.unite.specs.Rooms.{SlotsRoom, SlotRoom}
use Rattle.unite.specs.United.{with_items, other_slots, SlotUnited, SlotsUnited}
use Rattle.unite.specs.Standing.{visible_same}

-- ---- one parameter

module _ (text : List ℕ) (t : ℕ) (w : List ℕ) (g f : Form) (k n : ℕ) (one : Bool)
    (e : one ≡ is_parameter_of (visible_at text (part w 0 t) w f) (visible_at text (part w 0 t) w g) (slot_at text w (g.parameters + k * slot_size))) where
  pub slot_one : one ≡ true → SlotUnited text t w g f k n n w
  unfolding keep pick
  slot_one h = record {
    slots = sym (rw (← e, h) (append-nil (slots_at text w f.parameters n)));
    few = omega arith;
    grows = omega arith;
    kept = kept_all (f.parameters + n * slot_size) (f.parameters + (n + 1) * slot_size) w;
  }

  pub slot_other : (w' : List ℕ) → one ≡ false → SlotCopied (g.parameters + k * slot_size) (f.parameters + n * slot_size) w w'
      → SlotUnited text t w g f k n (n + 1) w'
  unfolding keep pick
  slot_other w' h c = record {
    slots = rw (← e, h) (copied_behind text w w' (g.parameters + k * slot_size) f.parameters n c);
    few = omega arith;
    grows = omega arith;
    kept = kept_wider _ _ _ _ w w' (omega arith) (omega arith) c.kept;
  }

-- ---- all parameters

module _ (text : List ℕ) (t : ℕ) (w₀ : List ℕ) (g f : Form) where
  abbrev low : ℕ
  low = f.parameters + f.parameter_count * slot_size

  abbrev high : ℕ
  high = f.parameters + (f.parameter_count + g.parameter_count) * slot_size

  abbrev others : Visible → Visible → List Slot → List Slot
  others a b = keep (λ (q : Slot). not (is_parameter_of a b q))

  abbrev own : Visible
  own = visible_at text (part w₀ 0 t) w₀ f

  abbrev source : Visible
  source = visible_at text (part w₀ 0 t) w₀ g

  pub record Uniting (w : List ℕ) (n k : ℕ) : Type 0 where
    pub inside : k ≤ g.parameter_count
    pub have : f.parameter_count ≤ n
    pub few : n ≤ f.parameter_count + k
    pub slots : slots_at text w f.parameters n
        ≡ slots_at text w₀ f.parameters f.parameter_count ++ others own source (slots_at text w₀ g.parameters k)
    pub kept : Kept low high w₀ w

  pub uniting_start : Uniting w₀ f.parameter_count 0
  unfolding slots_at keep
  uniting_start = record {
    inside = omega arith;
    have = omega arith;
    few = omega arith;
    slots = sym (append-nil (slots_at text w₀ f.parameters f.parameter_count));
    kept = kept_all low high w₀;
  }

  pub uniting_end : (w : List ℕ) (n k : ℕ) (r : Form) → g.parameter_count ≤ k → Uniting w n k
      → r ≡ with_items f n f.visible_count f.hidden_count → SlotsUnited text t w₀ g f r w
  unfolding with_items other_slots visible_at
  uniting_end w n k r h inv e =
      let whole : k ≡ g.parameter_count = omega (arith, inv.inside) in
      let first = slots_at text w₀ f.parameters f.parameter_count in
      let all = inv.slots ∙ ap (λ (j : ℕ). first ++ others own source (slots_at text w₀ g.parameters j)) whole in
      rw e (record { form = refl; few = omega (arith, inv.few); grows = inv.have; slots = all; kept = inv.kept })

  module _ (room : SlotsRoom (length w₀) t g f) (w : List ℕ) (n k : ℕ) (inv : Uniting w n k) (h : k < g.parameter_count) where
    pub uniting_room : SlotRoom (length w) t g f k n
    uniting_room = record {
      all = subst (λ (size : ℕ). SlotsRoom size t g f) (sym inv.kept.size) room;
      turn = h;
      have = inv.have;
      few = inv.few;
    }

    -- what parameters are held against stays
    held : (z : Form) → Apart low high z.parameters (z.parameters + z.parameter_count * slot_size)
        → Apart low high z.visible (z.visible + z.visible_count * row_size) → visible_at text (part w 0 t) w z ≡ visible_at text (part w₀ 0 t) w₀ z
    held z p q =
        let tape = tape_same w₀ w t inv.kept.size (λ i u v. inv.kept.below i (omega (arith, room.tape))) in
        ap (λ (z_tape : List ℕ). visible_at text z_tape w z) tape
        ∙ visible_same text (part w₀ 0 t) w₀ w z (kept_same low high _ _ w₀ w p inv.kept) (kept_same low high _ _ w₀ w q inv.kept)

    pub uniting_again : (w' : List ℕ) (r : ℕ) → SlotUnited text t w g f k n r w' → Uniting w' r (k + 1)
    uniting_again w' r turn = record {
      inside = omega arith;
      have = omega (arith, inv.have, turn.grows);
      few = omega (arith, inv.few, turn.few);
      slots = more;
      kept = kept_then low high w₀ w w' inv.kept
          (kept_wider _ _ low high w w' (omega (arith, inv.have)) (omega (arith, inv.few)) turn.kept);
    }
      where
        own_held : visible_at text (part w 0 t) w f ≡ own
        own_held = held f (inl (omega arith)) room.own_rows

        source_held : visible_at text (part w 0 t) w g ≡ source
        source_held = held g room.source room.source_rows

        there : slot_at text w (g.parameters + k * slot_size) ≡ slot_at text w₀ (g.parameters + k * slot_size)
        there = slot_same w₀ w text _ (λ i u v. kept_same low high _ _ w₀ w room.source inv.kept i (omega arith) (omega arith))

        first : List Slot
        first = slots_at text w₀ f.parameters f.parameter_count

        more : slots_at text w' f.parameters r ≡ first ++ others own source (slots_at text w₀ g.parameters (k + 1))
        more =
            turn.slots
            ∙ (λ i. inv.slots i ++ others (own_held i) (source_held i) (there i ∷ []))
            ∙ append_assoc first _ _
            ∙ ap (first ++◌)
            (sym (keep_append (λ (q : Slot). not (is_parameter_of own source q)) (slots_at text w₀ g.parameters k) _)
            ∙ ap (others own source) (sym (ap (slots_at text w₀ g.parameters) (add-one k) ∙ slots_grow text w₀ g.parameters k)))

pub ruleset slots = (slot_one, slot_other, rules)

pub ruleset unitings = (uniting_start, uniting_room, uniting_again, uniting_end, rules)
