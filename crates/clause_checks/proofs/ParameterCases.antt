-- Laws of the parameters that are left, in the code's terms: of the first k those that are not called p have been stored.
use mathlib.Core.Path.{◌≡◌, refl, sym, ap, ap₂, ◌∙◌}
use Prim.Native.Nat.{ℕ, ◌+◌, ◌*◌, ◌≤◌, ◌<◌}
use mathlib.Core.Bool.{Bool, true, false, not}
use mathlib.Core.List.{List, [], ◌∷◌, ◌++◌, append-nil}
use native.Mathlib.Omega.{arith}
use native.Mathlib.Numerals.{add-one}
use lib.ListN.{length, get_or, set, length-set}
use lib.Seq.{get_or-set_same, get_or-set_other}
use borrow.Author.Rules.{rules}
use Rattle.meaning.specs.Lists.{pick, keep}
use Rattle.meaning.specs.Names.{same}
use Rattle.meaning.specs.Normal.{Slot}
use Rattle.text_names.specs.Word.{name_of}
use Rattle.form.specs.Memory.{Kept}
use Rattle.form.specs.Forms.{slot_at, slots_at, slot_size}
use Rattle.form.specs.FormLaws.{kept_all, kept_wider, kept_then, kept_set, kept_same, slot_same, slots_grow}
use Rattle.form_walks.specs.Lists.{keep_append}
use Rattle.clause_checks.specs.KeptParameters.{but, SlotRoom, SlotCopied, copied_behind, SlotKept, KeepRoom, SlotsKept}

-- ---- a parameter's two words

pub slot_stored : (w w₁ w' : List ℕ) (a b x y : ℕ) → SlotRoom (length w) a b → x ≡ get_or w a 0 → y ≡ get_or w (a + 1) 0
    → w₁ ≡ set w b x → w' ≡ set w₁ (b + 1) y → SlotCopied a b w w'
slot_stored w w₁ w' a b x y room e f g h = record {
  name = rw (h, g) (get_or-set_other (set w b x) (b + 1) b y 0 (omega arith) ∙ get_or-set_same w b x 0 (omega (arith, room.room)) ∙ e);
  home = rw (h, g) (get_or-set_same (set w b x) (b + 1) y 0 (omega (arith, room.room, length-set w b x)) ∙ f);
  kept =
      rw (h, g)
      (kept_then b (b + slot_size) w (set w b x) (set (set w b x) (b + 1) y)
      (kept_wider b (b + 1) b (b + slot_size) w (set w b x) (omega arith) (omega arith) (kept_set w b x))
      (kept_wider (b + 1) (b + 1 + 1) b (b + slot_size) (set w b x) (set (set w b x) (b + 1) y) (omega arith) (omega arith) (kept_set (set w b x) (b + 1) y)));
}

-- ---- one parameter

module _ (text w : List ℕ) (i p d n x : ℕ) (e : x ≡ get_or w i 0) (b : Bool) (f : b ≡ same (name_of text p) (name_of text x)) where
  -- whether it is called p
  called : b ≡ same (name_of text p) (slot_at text w i).name
  unfolding slot_at
  called = rw (← e) f

  pub slot_dropped : b ≡ true → SlotKept text w w i p d n n
  unfolding but keep pick
  slot_dropped h = record {
    slots = sym (rw (← called, h) (append-nil (slots_at text w d n)));
    few = omega arith;
    kept = kept_all (d + n * slot_size) (d + n * slot_size + slot_size) w;
  }

  pub slot_behind : (w' : List ℕ) → b ≡ false → SlotCopied i (d + n * slot_size) w w' → SlotKept text w w' i p d n (n + 1)
  unfolding but keep pick
  slot_behind w' h c = record { slots = rw (← called, h) (copied_behind text w w' i d n c); few = omega arith; kept = c.kept }

-- ---- all parameters

module _ (text w₀ : List ℕ) (g c p d : ℕ) where
  pub record Keeping (w : List ℕ) (n k : ℕ) : Type 0 where
    pub inside : k ≤ c
    pub slots : slots_at text w d n ≡ but (name_of text p) (slots_at text w₀ g k)
    pub few : n ≤ k
    pub kept : Kept d (d + c * slot_size) w₀ w

  pub keeping_start : Keeping w₀ 0 0
  unfolding slots_at but keep
  keeping_start = record { inside = omega arith; slots = refl; few = omega arith; kept = kept_all d (d + c * slot_size) w₀ }

  pub keeping_end : (w : List ℕ) (n k : ℕ) → c ≤ k → Keeping w n k → SlotsKept text w₀ w g c p d n
  keeping_end w n k h inv =
      let whole : k ≡ c = omega (arith, inv.inside) in
      record { slots = inv.slots ∙ ap (λ (j : ℕ). but (name_of text p) (slots_at text w₀ g j)) whole; few = omega (arith, inv.few); kept = inv.kept }

  module _ (room : KeepRoom (length w₀) g c d) (w : List ℕ) (n k : ℕ) (inv : Keeping w n k) (h : k < c) where
    pub keeping_few : n < 65536
    keeping_few = omega (arith, room.few, inv.few)

    pub keeping_room : g < 4294967296 → d < 4294967296 → SlotRoom (length w) (g + k * slot_size) (d + n * slot_size)
    keeping_room l m =
        let few = inv.few in
        let most = room.few in
        record { room = omega (arith, room.room, inv.kept.size); source = omega arith; target = omega arith }

    pub keeping_again : (w' : List ℕ) (r : ℕ) → SlotKept text w w' (g + k * slot_size) p d n r → Keeping w' r (k + 1)
    unfolding but
    keeping_again w' r turn = record { inside = omega arith; slots = more; few = omega (arith, inv.few, turn.few); kept = kept_now }
      where
        kept_now : Kept d (d + c * slot_size) w₀ w'
        kept_now =
            let few = inv.few in
            kept_then d (d + c * slot_size) w₀ w w' inv.kept
            (kept_wider (d + n * slot_size) (d + n * slot_size + slot_size) d (d + c * slot_size) w w' (omega arith) (omega arith) turn.kept)

        there : slot_at text w (g + k * slot_size) ≡ slot_at text w₀ (g + k * slot_size)
        there =
            slot_same w₀ w text (g + k * slot_size)
            (λ i l m. kept_same d (d + c * slot_size) g (g + c * slot_size) w₀ w room.apart inv.kept i (omega arith) (omega arith))

        more : slots_at text w' d r ≡ but (name_of text p) (slots_at text w₀ g (k + 1))
        more =
            turn.slots
            ∙ ap₂ (λ (ps : List Slot) (q : Slot). ps ++ but (name_of text p) (q ∷ [])) inv.slots there
            ∙ sym (ap (λ (j : ℕ). but (name_of text p) (slots_at text w₀ g j)) (add-one k) ∙ ap (but (name_of text p)) (slots_grow text w₀ g k)
            ∙ keep_append (λ (q : Slot). not (same (name_of text p) q.name)) (slots_at text w₀ g k) (slot_at text w₀ (g + k * slot_size) ∷ []))

pub ruleset slots = (slot_stored, slot_dropped, slot_behind, rules)

pub ruleset keepings = (keeping_start, keeping_few, keeping_room, keeping_again, keeping_end, rules)
