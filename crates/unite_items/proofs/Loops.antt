-- Laws of the loop over a source: after k rows the table has n, at most as many as fit, and the notes up to k say where each went.
use mathlib.Core.Path.{◌≡◌, refl, sym, ap, ap₂, subst, ◌∙◌}
use mathlib.Core.Logic.{inl, inr, ⊎_elim}
use Prim.Native.Nat.{ℕ, ◌+◌, ◌-◌, ◌*◌, ◌≤◌, ◌<◌}
use mathlib.Core.Bool.{Bool, true, false, false≢true}
use mathlib.Core.List.{List, [], ◌∷◌, ◌++◌, map, map-append, append-nil}
use native.Mathlib.Omega.{arith}
use native.Mathlib.Numerals.{add-one}
use lib.Dec.{eqb}
use lib.ListN.{length, get_or, take}
use lib.Seq.{take_all}
use borrow.Author.Rules.{rules}
use borrow.Author.Tests.{eqb-true, eqb-false}
use Rattle.meaning.specs.Lists.{keep, union}
use Rattle.meaning.specs.Origins.{Item, one_item}
use Rattle.form_rows.specs.Rows.{item_of, row_at, row_size}
use Rattle.form.specs.Memory.{part, KeptTwo}
use Rattle.form.specs.Forms.{items_at}
use Rattle.form.specs.FormLaws.{kept_two_same, kept_two_then, items_same, tape_same, items_grow, items_split, length_items, item_at}
use Rattle.form.specs.FullLists.{take_union}
use Rattle.clause_translation.specs.declared.Mode.{Mode}
use Rattle.clause_translation.specs.Translation.{moved_in}
use Rattle.clause_translation.specs.MovedLaws.{moved_apart}
use Rattle.form_walks.specs.Lists.{keep_append}
use Rattle.unite_items.specs.ListLaws.{union_then, union_stays, map_keep_more, keep_taken, keep_left}
use Rattle.unite_items.specs.Absorb.{Absorbed, AbsorbedWithin, taken}
use Rattle.unite_items.specs.Turns.{Taken, TurnRoom, Turned, RoomWithin}
use Rattle.form_rows.specs.RowLaws.{row_same}

kept_all : (a e b f : ℕ) (w : List ℕ) → KeptTwo a e b f w w
kept_all a e b f w = record { size = refl; kept = λ i p q. refl }

kept_wider : (a e b f a' e' b' f' : ℕ) (w w' : List ℕ) → a' ≤ a → e ≤ e' → b' ≤ b → f ≤ f' → KeptTwo a e b f w w' → KeptTwo a' e' b' f' w w'
kept_wider a e b f a' e' b' f' w w' h l m n k = record {
  size = k.size;
  kept = λ i p q. k.kept i (⊎_elim (λ u. inl (omega arith)) (λ u. inr (omega arith)) p) (⊎_elim (λ u. inl (omega arith)) (λ u. inr (omega arith)) q);
}

module _ (text w₀ : List ℕ) (t : ℕ) (m : Mode) (visible drop : Bool) (s ns d nd o cap : ℕ) where
  abbrev tape : List ℕ
  tape = part w₀ 0 t

  -- a source item, whether it is taken, and what it becomes
  abbrev old : ℕ → Item
  old i = item_of text tape (row_at w₀ (s + i * row_size))

  abbrev wanted : Item → Bool
  wanted = taken text drop m.parameter

  abbrev new : Item → Item
  new = moved_in text tape w₀ m visible

  abbrev come : ℕ → List Item
  come k = map new (keep wanted (items_at text tape w₀ s k))

  pub record Absorbing (w : List ℕ) (n k : ℕ) : Type 0 where
    pub inside : k ≤ ns
    pub items : items_at text tape w d n ≡ union one_item (items_at text tape w₀ d nd) (come k)
    pub grows : nd ≤ n
    pub few : n ≤ nd + k
    pub within : n ≤ cap
    pub noted : (i : ℕ) → i < k → wanted (old i) ≡ true → get_or w (o + i) 0 < n
    pub notes : (i : ℕ) (z : Item) → i < k → wanted (old i) ≡ true → get_or (items_at text tape w d n) (get_or w (o + i) 0) z ≡ new (old i)
    pub kept : KeptTwo (d + nd * row_size) (d + cap * row_size) o (o + ns) w₀ w
    pub kept_few : KeptTwo (d + nd * row_size) (d + (nd + ns) * row_size) o (o + ns) w₀ w

  pub absorb_start : nd ≤ cap → Absorbing w₀ nd 0
  unfolding items_at keep union
  absorb_start fits = record {
    inside = omega arith;
    items = refl;
    grows = omega arith;
    few = omega arith;
    within = fits;
    noted = λ i h. absurd (omega arith);
    notes = λ i z h. absurd (omega arith);
    kept = kept_all (d + nd * row_size) (d + cap * row_size) o (o + ns) w₀;
    kept_few = kept_all (d + nd * row_size) (d + (nd + ns) * row_size) o (o + ns) w₀;
  }

  -- one row more
  come_more : (k : ℕ) → come (k + 1) ≡ come k ++ map new (keep wanted (old k ∷ []))
  come_more k = rw (add-one k, items_grow text tape w₀ s k) (map_keep_more wanted new (old k) (items_at text tape w₀ s k))

  module _ (room : RoomWithin (length w₀) t m s ns d cap o) (w : List ℕ) (n k : ℕ) (inv : Absorbing w n k) where
    pub absorb_room : k < ns → n < cap → TurnRoom (length w) t k d n o
    absorb_room h l =
        let size = inv.kept.size in
        record {
          tape = omega (arith, room.tape_table, room.table);
          few = omega (arith, room.few);
          room = omega (arith, room.table);
          word = omega (arith, room.note);
          apart = ⊎_elim (λ u. inl (omega arith)) (λ u. inr (omega arith)) room.table_note;
        }

    -- what lies apart from the table and from the note is as it was
    tape_stays : part w 0 t ≡ tape
    tape_stays =
        tape_same w₀ w t inv.kept.size
        (kept_two_same (d + nd * row_size) (d + cap * row_size) o (o + ns) 0 t w₀ w (inl (omega (arith, room.tape_table))) (inl room.tape_note) inv.kept)

    source_stays : k < ns → row_at w (s + k * row_size) ≡ row_at w₀ (s + k * row_size)
    source_stays h =
        row_same w₀ w (s + k * row_size)
        (kept_two_same (d + nd * row_size) (d + cap * row_size) o (o + ns) (s + k * row_size) (s + k * row_size + row_size) w₀ w
        (⊎_elim (λ u. inl (omega arith)) (λ u. inr (omega arith)) room.table_source)
        (⊎_elim (λ u. inl (omega arith)) (λ u. inr (omega arith)) room.note_source) inv.kept)

    mode_stays : items_at text tape w m.visible m.count ≡ items_at text tape w₀ m.visible m.count
    mode_stays =
        items_same w₀ w text tape m.visible m.count
        (kept_two_same (d + nd * row_size) (d + cap * row_size) o (o + ns) m.visible (m.visible + m.count * row_size) w₀ w
        (⊎_elim (λ u. inl (omega arith)) (λ u. inr u) room.table_mode) room.note_mode inv.kept)

    -- ---- a row that is left out

    left_out : (wanted (old k) ≡ false) → k < ns → Absorbing w n (k + 1)
    left_out q h =
        let few = inv.few in
        record {
          inside = omega arith;
          items = inv.items
              ∙ ap (union one_item (items_at text tape w₀ d nd))
              (sym (come_more k ∙ ap (λ (r : List Item). come k ++ r) (keep_left wanted new (old k) q) ∙ append-nil (come k)));
          grows = inv.grows;
          few = omega arith;
          within = inv.within;
          noted = λ i l takes. inv.noted i (earlier i l takes) takes;
          notes = λ i z l takes. inv.notes i z (earlier i l takes) takes;
          kept = inv.kept;
          kept_few = inv.kept_few;
        }
      where
        earlier : (i : ℕ) → i < k + 1 → wanted (old i) ≡ true → i < k
        earlier i l takes = by (eqb i k) refl
          where
            by : (b : Bool) → eqb i k ≡ b → i < k
            by true e = absurd (false≢true (sym q ∙ ap (λ (j : ℕ). wanted (old j)) (sym (eqb-true i k e)) ∙ takes))
            by false e = let other = eqb-false i k e in omega arith

    -- ---- a row that is taken

    module _ (w' : List ℕ) (n' : ℕ) (h : k < ns) (free : n < cap) (takes : wanted (old k) ≡ true) (x : Item) (same : x ≡ old k)
        (tk : Taken text tape w m visible x d n (o + k) n' w') where
      becomes : moved_in text tape w m visible x ≡ new (old k)
      becomes = moved_apart text tape w₀ w m mode_stays visible x ∙ ap new same

      items_now : items_at text tape w' d n' ≡ union one_item (items_at text tape w d n) (new (old k) ∷ [])
      items_now = tk.items ∙ ap (λ (y : Item). union one_item (items_at text tape w d n) (y ∷ [])) becomes

      note_stays : (i : ℕ) → i < k → get_or w' (o + i) 0 ≡ get_or w (o + i) 0
      note_stays i l =
          tk.kept.kept (o + i) (⊎_elim (λ u. inl (omega arith)) (λ u. inr (omega arith)) room.table_note) (inl (omega arith))

      noted_now : (i : ℕ) → i < k + 1 → wanted (old i) ≡ true → (b : Bool) → eqb i k ≡ b → get_or w' (o + i) 0 < n'
      noted_now i l q true e = let at : i ≡ k = eqb-true i k e in rw at tk.noted
      noted_now i l q false e =
          let other = eqb-false i k e in
          let before : i < k = omega arith in
          omega (arith, note_stays i before, inv.noted i before q, tk.grows)

      notes_now : (i : ℕ) (z : Item) → i < k + 1 → wanted (old i) ≡ true → (b : Bool) → eqb i k ≡ b
          → get_or (items_at text tape w' d n') (get_or w' (o + i) 0) z ≡ new (old i)
      notes_now i z l q true e = let at : i ≡ k = eqb-true i k e in rw at (tk.note z ∙ becomes)
      notes_now i z l q false e =
          let other = eqb-false i k e in
          let before : i < k = omega arith in
          let inside : get_or w (o + i) 0 < length (items_at text tape w d n) = omega (arith, inv.noted i before q, length_items text tape w d n) in
          ap₂ (λ (us : List Item) (j : ℕ). get_or us j z) items_now (note_stays i before)
          ∙ union_stays one_item z (items_at text tape w d n) (new (old k) ∷ []) (get_or w (o + i) 0) inside ∙ inv.notes i z before q

      taken_in : Absorbing w' n' (k + 1)
      taken_in =
          let few = inv.few in
          let grows = inv.grows in
          let more : come (k + 1) ≡ come k ++ (new (old k) ∷ []) = come_more k ∙ ap (λ (r : List Item). come k ++ r) (keep_taken wanted new (old k) takes) in
          record {
            inside = omega arith;
            items = items_now ∙ ap (λ (us : List Item). union one_item us (new (old k) ∷ [])) inv.items
                ∙ union_then one_item (items_at text tape w₀ d nd) (come k) (new (old k) ∷ []) ∙ ap (union one_item (items_at text tape w₀ d nd)) (sym more);
            grows = omega (arith, tk.grows);
            few = omega (arith, tk.few);
            within = omega (arith, tk.few);
            noted = λ i l q. noted_now i l q (eqb i k) refl;
            notes = λ i z l q. notes_now i z l q (eqb i k) refl;
            kept = kept_two_then (d + nd * row_size) (d + cap * row_size) o (o + ns) w₀ w w' inv.kept
                (kept_wider (d + n * row_size) (d + n * row_size + row_size) (o + k) (o + k + 1) (d + nd * row_size) (d + cap * row_size) o (o + ns) w w'
                (omega arith) (omega arith) (omega arith) (omega arith) tk.kept);
            kept_few = kept_two_then (d + nd * row_size) (d + (nd + ns) * row_size) o (o + ns) w₀ w w' inv.kept_few
                (kept_wider (d + n * row_size) (d + n * row_size + row_size) (o + k) (o + k + 1) (d + nd * row_size) (d + (nd + ns) * row_size) o (o + ns) w w'
                (omega arith) (omega arith) (omega arith) (omega arith) tk.kept);
          }

    -- ---- either

    pub absorb_again : (w' : List ℕ) (n' : ℕ) → k < ns → n < cap → Turned text (part w 0 t) w m visible drop s k d n o n' w' → Absorbing w' n' (k + 1)
    absorb_again w' n' h free turned = by (wanted (old k)) refl
      where
        same : item_of text (part w 0 t) (row_at w (s + k * row_size)) ≡ old k
        same = ap₂ (item_of text) tape_stays (source_stays h)

        by : (b : Bool) → wanted (old k) ≡ b → Absorbing w' n' (k + 1)
        by true takes =
            taken_in w' n' h free takes (item_of text (part w 0 t) (row_at w (s + k * row_size))) same
            (subst (λ (u : List ℕ). Taken text u w m visible (item_of text (part w 0 t) (row_at w (s + k * row_size))) d n (o + k) n' w') tape_stays
            (turned.takes (ap wanted same ∙ takes)))
        by false q =
            let e : n' ≡ n = turned.left (ap wanted same ∙ q) in
            let f : w' ≡ w = turned.stays (ap wanted same ∙ q) in
            rw (e, f) (left_out q h)

    all_come : ns ≤ k → Absorbed text tape w₀ m visible drop s ns d nd o n w
    all_come h =
        let all : k ≡ ns = omega (arith, inv.inside) in
        let few = inv.few in
        record {
          items = inv.items ∙ ap (λ (j : ℕ). union one_item (items_at text tape w₀ d nd) (come j)) all;
          grows = inv.grows;
          few = omega arith;
          noted = λ i x l q. inv.noted i (omega arith) (ap wanted (sym (item_at text tape w₀ s ns i x l)) ∙ q);
          notes = λ i x l q.
              inv.notes i x (omega arith) (ap wanted (sym (item_at text tape w₀ s ns i x l)) ∙ q) ∙ ap new (sym (item_at text tape w₀ s ns i x l));
          kept = inv.kept_few;
        }

    pub absorb_end : ns ≤ k → AbsorbedWithin text tape w₀ m visible drop s ns d nd o cap n w
    absorb_end h =
        let x = all_come h in
        let many : length (items_at text tape w d n) ≡ n = length_items text tape w d n in
        record {
          items = sym (take_all cap (items_at text tape w d n) (omega (arith, inv.within))) ∙ ap (take cap) x.items;
          grows = inv.grows;
          within = inv.within;
          kept = inv.kept;
          whole = λ p. x;
        }

    -- ---- the table is full

    abbrev rest : List Item
    rest = map new (keep wanted (items_at text tape w₀ (s + k * row_size) (ns - k)))

    come_all : k < ns → come ns ≡ come k ++ rest
    come_all h =
        let e : ns ≡ k + (ns - k) = omega arith in
        ap come e ∙ ap (λ (xs : List Item). map new (keep wanted xs)) (items_split text tape w₀ s k (ns - k))
        ∙ ap (map new) (keep_append wanted (items_at text tape w₀ s k) (items_at text tape w₀ (s + k * row_size) (ns - k)))
        ∙ map-append new (keep wanted (items_at text tape w₀ s k)) (keep wanted (items_at text tape w₀ (s + k * row_size) (ns - k)))

    pub absorb_full : k < ns → cap ≤ n → AbsorbedWithin text tape w₀ m visible drop s ns d nd o cap n w
    absorb_full h l =
        let had = items_at text tape w₀ d nd in
        let many : length (items_at text tape w d n) ≡ n = length_items text tape w d n in
        let full : cap ≤ length (union one_item had (come k)) = omega (arith, ap length inv.items) in
        record {
          items = inv.items ∙ sym (take_all cap (union one_item had (come k)) (omega (arith, inv.within, ap length inv.items)))
              ∙ sym (take_union one_item cap (union one_item had (come k)) rest full)
              ∙ ap (take cap) (union_then one_item had (come k) rest ∙ ap (union one_item had) (sym (come_all h)));
          grows = inv.grows;
          within = inv.within;
          kept = inv.kept;
          whole = λ p. ⊎_elim (λ u. absurd (omega arith)) (λ u. absurd (omega (arith, inv.few))) p;
        }

-- ---- `absorb_items`: there is room for all

pub absorb_whole : (text tape w : List ℕ) (m : Mode) (visible drop : Bool) (s ns d nd o r : ℕ) (w' : List ℕ)
    → AbsorbedWithin text tape w m visible drop s ns d nd o (nd + ns) r w' → Absorbed text tape w m visible drop s ns d nd o r w'
absorb_whole text tape w m visible drop s ns d nd o r w' x = x.whole (inr (omega arith))

pub ruleset loops = (absorb_start, absorb_room, absorb_again, absorb_end, absorb_full, absorb_whole, rules)
