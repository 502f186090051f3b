-- Laws of one turn: a row is moved, placed and noted; or it is left out.
use mathlib.Core.Path.{◌≡◌, refl, sym, ap, ◌∙◌}
use mathlib.Core.Logic.{◌⊎◌, inl, inr, ⊎_elim}
use Prim.Native.Nat.{ℕ, ◌+◌, ◌*◌, ◌≤◌, ◌<◌}
use mathlib.Core.Bool.{Bool, true, false, false≢true}
use mathlib.Core.List.{List, [], ◌∷◌}
use native.Mathlib.Omega.{arith}
use lib.ListN.{length, get_or, set}
use lib.Seq.{get_or-set_same, get_or-append_seam}
use borrow.Author.Rules.{rules}
use mir.Syntax.{w32}
use mir.Val.{Fits}
use Rattle.meaning.specs.Lists.{pick, any, before, union}
use Rattle.meaning.specs.Origins.{Item, one_item}
use Rattle.laws.specs.Decides.{items_decided}
use Rattle.form_sections.specs.SectionLaws.{section_is_word}
use Rattle.form_rows.specs.declared.Row.{Row}
use Rattle.form_rows.specs.Rows.{item_of, row_at, row_size}
use Rattle.form_rows.specs.RowLaws.{length_words}
use Rattle.form.specs.Memory.{Kept}
use Rattle.form.specs.Forms.{items_at}
use Rattle.form.specs.FormLaws.{kept_set, kept_same, kept_is_two, kept_two_swap, kept_two_then, items_same, length_items}
use Rattle.clause_translation.specs.declared.Mode.{Mode}
use Rattle.clause_translation.specs.Translation.{moved_in}
use Rattle.clause_translation.specs.Moved.{MovedRow}
use Rattle.form_walks.specs.Lists.{before_within, found, none_found, found_passes}
use Rattle.unite_items.specs.ListLaws.{union_found, union_new}
use Rattle.unite_items.specs.Absorb.{Placed, taken}
use Rattle.unite_items.specs.Turns.{Space, Place, Taken, TurnRoom, Turned}

-- ---- `take_row`

-- a moved row is a row where the old one was
pub moved_space : (text tape w : List ℕ) (m : Mode) (visible : Bool) (size t d n place : ℕ) (x y : Row) → Place size t d n place x
    → MovedRow text tape w m visible x y → Space size t d n y
moved_space text tape w m visible size t d n place x y room mv = record {
  tape = room.space.tape;
  row = record {
    standing_word = rw mv.standing room.space.row.standing_word;
    section_word = rw mv.origin room.space.row.section_word;
    nine = mv.size;
  };
  room = room.space.room;
}

module _ (text tape w w₁ w₂ : List ℕ) (t : ℕ) (m : Mode) (visible : Bool) (x y : Row) (d n place at : ℕ)
    (room : Place (length w) t d n place x) (mv : MovedRow text tape w m visible x y)
    (p : Placed text tape w d n (item_of text tape y) at w₁) (l : w₂ ≡ set w₁ place at) where
  abbrev xs : List Item
  xs = items_at text tape w d n

  abbrev old : Item
  old = item_of text tape x

  abbrev new : Item
  new = moved_in text tape w m visible old

  placed : Placed text tape w d n new at w₁
  placed = rw mv.item at p

  note_kept : Kept place (place + 1) w₁ w₂
  note_kept = rw l (kept_set w₁ place at)

  noted_at : get_or w₂ place 0 ≡ at
  noted_at =
      let inside : place < length w₁ = omega (arith, p.kept.size, room.word) in
      rw l (get_or-set_same w₁ place at 0 inside)

  rows_kept : (r : ℕ) → r ≤ n + 1 → items_at text tape w₂ d r ≡ items_at text tape w₁ d r
  rows_kept r h =
      let off : (d + r * row_size ≤ place) ⊎ (place + 1 ≤ d) = ⊎_elim (λ a. inr (omega arith)) (λ a. inl (omega arith)) room.apart in
      items_same w₁ w₂ text tape d r (kept_same place (place + 1) d (d + r * row_size) w₁ w₂ off note_kept)

  taking : (r : ℕ) → n ≤ r → r ≤ n + 1 → at < r → items_at text tape w₁ d r ≡ union one_item xs (new ∷ [])
      → ((z : Item) → get_or (union one_item xs (new ∷ [])) at z ≡ new) → Taken text tape w m visible old d n place r w₂
  taking r a b c items note =
      let same = rows_kept r b ∙ items in
      record {
        items = same;
        grows = a;
        few = b;
        noted = rw noted_at c;
        note = λ z. rw (noted_at, same) (note z);
        kept = kept_two_then (d + n * row_size) (d + n * row_size + row_size) place (place + 1) w w₁ w₂ (kept_is_two (d + n * row_size) (d + n * row_size + row_size) place (place + 1) w w₁ p.kept)
            (kept_two_swap place (place + 1) (d + n * row_size) (d + n * row_size + row_size) w₁ w₂ (kept_is_two place (place + 1) (d + n * row_size) (d + n * row_size + row_size) w₁ w₂ note_kept));
      }

  pub take_found : at < n → Taken text tape w m visible old d n place n w₂
  unfolding pick
  take_found h =
      let len : length xs ≡ n = length_items text tape w d n in
      let spot = placed.row in
      let inside : before (one_item new) xs < length xs = omega arith in
      let there : any (one_item new) xs ≡ true = found (one_item new) xs inside in
      let items = rw there at placed.items in
      taking n (omega arith) (omega arith) h items
      (λ z. ap (λ (us : List Item). get_or us at z) (union_found one_item xs new there)
      ∙ sym (items_decided.equal new (get_or xs at z) (rw spot (found_passes (one_item new) z xs inside))))

  pub take_new : n ≤ at → Taken text tape w m visible old d n place (n + 1) w₂
  unfolding pick
  take_new h =
      let len : length xs ≡ n = length_items text tape w d n in
      let spot = placed.row in
      let all : before (one_item new) xs ≤ length xs = before_within (one_item new) xs in
      let none : any (one_item new) xs ≡ false = none_found (one_item new) xs (omega arith) in
      let items = rw none at placed.items in
      let last : at ≡ length xs = omega arith in
      taking (n + 1) (omega arith) (omega arith) (omega arith) items
      (λ z. rw (last, union_new one_item xs new none) (get_or-append_seam xs new [] z))

-- ---- `absorb_row`

-- what is read of a memory of words is a row
pub turn_place : (w : List ℕ) (t s k d n o : ℕ) (x : Row) → TurnRoom (length w) t k d n o → x ≡ row_at w (s + k * row_size)
    → ((i : ℕ) → Fits w32 (get_or w i 0)) → Place (length w) t d n (o + k) x
unfolding row_at
turn_place w t s k d n o x room e fits = record {
  space = record {
    tape = room.tape;
    row = rw e (record {
      standing_word = section_is_word (get_or w (s + k * row_size) 0) (omega (arith, fits (s + k * row_size)));
      section_word = section_is_word (get_or w (s + k * row_size + 4) 0) (omega (arith, fits (s + k * row_size + 4)));
      nine = length_words w (s + k * row_size + 6) 9;
    });
    room = room.room;
  };
  few = room.few;
  word = room.word;
  apart = room.apart;
}

module _ (text tape w : List ℕ) (m : Mode) (visible drop : Bool) (s k d n o : ℕ) (x : Row) (b : Bool) (e : x ≡ row_at w (s + k * row_size))
    (f : b ≡ taken text drop m.parameter (item_of text tape x)) where
  pub turn_taken : (r : ℕ) (w' : List ℕ) → b ≡ true → Taken text tape w m visible (item_of text tape x) d n (o + k) r w'
      → Turned text tape w m visible drop s k d n o r w'
  turn_taken r w' q h =
      let yes : taken text drop m.parameter (item_of text tape (row_at w (s + k * row_size))) ≡ true = rw (← e, ← f) q in
      record {
        left = λ no. absurd (false≢true (sym no ∙ yes));
        stays = λ no. absurd (false≢true (sym no ∙ yes));
        takes = λ u. rw (← e) h;
      }

  pub turn_left : b ≡ false → Turned text tape w m visible drop s k d n o n w
  turn_left q =
      let no : taken text drop m.parameter (item_of text tape (row_at w (s + k * row_size))) ≡ false = rw (← e, ← f) q in
      record { left = λ u. refl; stays = λ u. refl; takes = λ yes. absurd (false≢true (sym no ∙ yes)) }

pub ruleset turns = (moved_space, take_found, take_new, turn_taken, turn_left, rules)
