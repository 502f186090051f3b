-- A parameter copied, the parameters that are left of a normal form's, and what this leaves of the memory.
use Rattle.std.specs.Prelude.{◌≡◌, ℕ, ◌+◌, ◌*◌, ◌^◌, ◌≤◌, not, List, [], ◌∷◌, ◌++◌, get_or}
use Rattle.std.proofs.Common.{ap, ap₂, ◌∙◌, inl, arith, add-one}
use Rattle.meaning.specs.Lists.{keep}
use Rattle.meaning.specs.Names.{Name, same}
use Rattle.meaning.specs.Normal.{Slot}
use Rattle.text_names.specs.Word.{name_of}
use Rattle.form.specs.Memory.{Kept}
use Rattle.form.specs.Forms.{slot_at, slots_at, slot_size}
use Rattle.form.specs.FormLaws.{Apart, kept_same, slots_same, slots_grow}

-- all parameters but those of one name
unfoldable pub but : Name → List Slot → List Slot
but p slots = keep (λ (q : Slot). not (same p q.name)) slots

-- room for a parameter at b, which is read at a
pub record SlotRoom (size a b : ℕ) : Type 0 where
  pub room : b + slot_size ≤ size
  pub source : a ≤ 2 ^ 40
  pub target : b ≤ 2 ^ 40

-- the two words of the parameter at a stand at b too
pub record SlotCopied (a b : ℕ) (w w' : List ℕ) : Type 0 where
  pub name : get_or w' b 0 ≡ get_or w a 0
  pub home : get_or w' (b + 1) 0 ≡ get_or w (a + 1) 0
  pub kept : Kept b (b + slot_size) w w'

copied_slot : (text w w' : List ℕ) (a b : ℕ) → SlotCopied a b w w' → slot_at text w' b ≡ slot_at text w a
unfolding slot_at
copied_slot text w w' a b c =
    let name = ap (name_of text) c.name in
    let home = ap (name_of text) c.home in
    λ i. record { name = name i; home = home i }

-- one that is copied behind the n at d is the last of them
pub copied_behind : (text w w' : List ℕ) (a d n : ℕ) → SlotCopied a (d + n * slot_size) w w'
    → slots_at text w' d (n + 1) ≡ slots_at text w d n ++ (slot_at text w a ∷ [])
copied_behind text w w' a d n c =
    ap (slots_at text w' d) (add-one n) ∙ slots_grow text w' d n
    ∙ ap₂ (λ (ps : List Slot) (p : Slot). ps ++ (p ∷ []))
    (slots_same w w' text d n (kept_same (d + n * slot_size) (d + n * slot_size + slot_size) d (d + n * slot_size) w w' (inl (omega arith)) c.kept))
    (copied_slot text w w' a (d + n * slot_size) c)

-- the parameter at place i went behind the n at d, unless it is called p
pub record SlotKept (text w w' : List ℕ) (i p d n r : ℕ) : Type 0 where
  pub slots : slots_at text w' d r ≡ slots_at text w d n ++ but (name_of text p) (slot_at text w i ∷ [])
  pub few : r ≤ n + 1
  pub kept : Kept (d + n * slot_size) (d + n * slot_size + slot_size) w w'

-- room at d for the c parameters at g, apart from them
pub record KeepRoom (size g c d : ℕ) : Type 0 where
  pub few : c ≤ 65536
  pub room : d + c * slot_size ≤ size
  pub apart : Apart d (d + c * slot_size) g (g + c * slot_size)

-- the r parameters at d are those of the c at g that are not called p
pub record SlotsKept (text w w' : List ℕ) (g c p d r : ℕ) : Type 0 where
  pub slots : slots_at text w' d r ≡ but (name_of text p) (slots_at text w g c)
  pub few : r ≤ c
  pub kept : Kept d (d + c * slot_size) w w'
