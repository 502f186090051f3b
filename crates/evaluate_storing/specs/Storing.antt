-- A normal form is stored: what changes, and what the module's row of the table stands for then.
use Rattle.std.specs.Prelude.{◌≡◌, ◌⊎◌, ℕ, ◌+◌, ◌*◌, ◌≤◌, ◌<◌, List, ◌∷◌, length, get_or}
use Rattle.std.proofs.Common.{sym, subst, ◌∙◌, ⊎_elim, arith}
use Rattle.std.proofs.Math.Logic.{inl, inr}
use Rattle.std.proofs.lemmas.List.Edits.{sets}
use Rattle.meaning.specs.Names.{Name}
use Rattle.meaning.specs.Numbers.{module_limit}
use Rattle.meaning.specs.Normal.{Normal}
use Rattle.meaning.specs.Evaluate.{Evaluated}
use Rattle.meaning.specs.Written.{in_order}
use Rattle.form.specs.declared.Form.{Form}
use Rattle.form.specs.Memory.{part, Kept}
use Rattle.form.specs.Forms.{Stands, form_size}
use Rattle.form.specs.Blocks.{Fits}
use Rattle.form.specs.FormLaws.{kept_sets, tape_same}
use Rattle.form_frames.specs.Changes.{still_stands}
use Rattle.form_layout.specs.Layout.{table_start}
use Rattle.form_keeping.specs.Keeping.{form_words, form_back}
use Rattle.list_keeping.specs.Kept.{order_place}
use Rattle.list_keeping.specs.Nodes.{Distinct}
use Rattle.list_keeping.specs.Keeps.{Keeps}
use Rattle.form_keeping.specs.Environment.{Between, below_outside, kept_form, TableBelow, number_of, EnvStands}
use Rattle.form_keeping.specs.Growing.{Grown, RowThere, table_end}
use Rattle.form_keeping.proofs.Growing.{table_more, env_more}
use Rattle.evaluate_storing.specs.Places.{form_space, place_form, placed_form, placed_between, scratch_start, scratch_room, scratch_behind, StoreRoom, tape_below}

-- the form f was stored as module k's, from the cursor c up to r: but for that, for the module's row and for what is behind the table all stays,
-- and the row stands for the normal form in order of whatever f stood for, if no two hidden items are one
pub record Stored (text : List ℕ) (t k : ℕ) (f : Form) (c r : ℕ) (w w' : List ℕ) : Type 0 where
  pub cursor : r ≡ c + form_space f
  pub grown : Grown c r k w w'
  pub behind : (i : ℕ) → scratch_start + scratch_room ≤ i → get_or w' i 0 ≡ get_or w i 0
  pub row : RowThere c r k w'
  pub tape : part w' 0 t ≡ part w 0 t
  pub stored : (n : Normal) → Stands text (part w 0 t) w f n → Distinct n.hidden.items → Stands text (part w' 0 t) w' (kept_form w' k) (in_order n)

placed_fits : (f : Form) (c : ℕ) → Fits f → Fits (place_form f c)
unfolding place_form
placed_fits f c x = omega arith

module _ (text : List ℕ) (t k : ℕ) (f : Form) (c r : ℕ) (g : Form) (w u w' : List ℕ) (room : StoreRoom (length w) t k f c)
    (keeps : Keeps text t f (place_form f c) scratch_start g w u) (put : w' ≡ sets u (table_start + k * form_size) (form_words g))
    (next : r ≡ c + form_space f) where
  abbrev b : ℕ
  b = table_start + k * form_size

  inside : b + form_size ≤ table_end
  inside = omega (arith, room.number)

  written : Kept b (b + 10) u w'
  unfolding form_words
  written = rw put (kept_sets (form_words g) u b)

  ordered : (i : ℕ) → (i < c) ⊎ (c + form_space f ≤ i) → (i < scratch_start) ⊎ (scratch_start + scratch_room ≤ i) → get_or u i 0 ≡ get_or w i 0
  unfolding place_form order_place
  ordered i p q =
      let x = room.made.fits in
      keeps.kept.kept i (⊎_elim (λ h. inl h) (λ h. inr (omega arith)) p)
      (⊎_elim (λ h. inl h) (λ h. inr (omega (arith, x.parameters, x.items, x.equations))) q)

  is_placed : g ≡ place_form f c
  is_placed = keeps.form ∙ placed_form f c

  row_back : kept_form w' k ≡ g
  row_back = rw put (form_back u b g (omega (arith, keeps.kept.size, inside, room.laid.table)))

  row_is : kept_form w' k ≡ place_form f c
  row_is = row_back ∙ is_placed

  below : (i : ℕ) → i < c → get_or w' i 0 ≡ get_or w i 0
  below i h = written.below i (omega (arith, room.space)) ∙ ordered i (inl h) (inl (omega (arith, room.space, scratch_behind)))

  size : length w' ≡ length w
  size = written.size ∙ keeps.kept.size

  pub store_done : Stored text t k f c r w w'
  store_done = record {
    cursor = next;
    grown = record {
      size = size;
      below = below;
      between = λ i h l. written.below i l ∙ ordered i (inr (omega (arith, next))) (inl (omega (arith, inside, scratch_behind)));
      rows = λ i h l.
          written.above i (omega arith) ∙ ordered i (inr (omega (arith, room.space))) (inl (omega (arith, scratch_behind)));
    };
    behind = λ i h.
        written.above i (omega (arith, inside, scratch_behind)) ∙ ordered i (inr (omega (arith, room.space, scratch_behind))) (inr h);
    row = record {
      fits = subst Fits (sym row_is) (placed_fits f c room.made.fits);
      between = subst (Between c r) (sym row_is) (subst (λ (e : ℕ). Between c e (place_form f c)) (sym next) (placed_between f c));
    };
    tape = tape_same w w' t size (λ i h l. below i (omega (arith, room.start, tape_below (length w) t k f c room)));
    stored = λ n stands distinct.
        subst (λ (h : Form). Stands text (part w' 0 t) w' h (in_order n)) (sym row_back)
        (still_stands {t = t} (omega (arith, room.start, room.space, tape_below (length w) t k f c room)) written
        (below_outside b (b + 10) c (c + form_space f) g (omega (arith, room.space))
        (subst (Between c (c + form_space f)) (sym is_placed) (placed_between f c)))
        (keeps.meant n stands distinct));
  }

-- ---- the modules evaluated so far

module _ (text : List ℕ) (t k : ℕ) (f : Form) (c r : ℕ) (w w' : List ℕ) (room : StoreRoom (length w) t k f c) (stored : Stored text t k f c r w w')
    (below : TableBelow w c) where
  end : r ≤ table_start
  end = omega (arith, stored.cursor, room.space)

  order : c ≤ r
  order = omega (arith, stored.cursor)

  pub stored_table : TableBelow w' r
  stored_table = table_more c r k w w' room.start order end stored.grown stored.row below

  -- the module x, number k, is evaluated too
  pub stored_env : (ds : List Name) (env : List Evaluated) (x : Name) (n : Normal) → number_of ds x ≡ k → k < length ds
      → ((y : Name) → number_of ds y ≤ module_limit) → Stands text (part w 0 t) w f n → Distinct n.hidden.items → EnvStands text (part w 0 t) w ds env
      → EnvStands text (part w' 0 t) w' ds (record { name = x; normal = in_order n } ∷ env)
  stored_env ds env x n number found few stands distinct all =
      env_more c r k w w' room.start order end stored.grown text t ds env x (in_order n) (tape_below (length w) t k f c room) number found few below
      (stored.stored n stands distinct) all
