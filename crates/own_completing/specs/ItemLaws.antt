-- The items stage: a module's own items joined to what it imports, and checked. And both stages where the layout has them.
use Rattle.std.specs.Prelude.{◌≡◌, refl, List, ℕ, ◌+◌, ◌≤◌, length, Ok, Err}
use Rattle.std.proofs.Common.{sym, ◌∙◌, subst, subst₂, inl, inr}
use Rattle.std.proofs.Math.Path.{ap}
use native.Mathlib.Omega.{arith}
use Rattle.meaning.specs.Syntax.{Module}
use Rattle.meaning.specs.Normal.{Visible, Normal}
use Rattle.meaning.specs.Checks.{stop}
use Rattle.form.specs.declared.Form.{Form}
use Rattle.form.specs.declared.Block.{Block}
use Rattle.form.specs.declared.Refusal.{Refusal}
use Rattle.form.specs.Memory.{part, Kept}
use Rattle.form.specs.Forms.{visible_at, Stands}
use Rattle.form.specs.Blocks.{Outside}
use Rattle.form.specs.Verdicts.{Verdict, Made, culprit_of, told}
use Rattle.form_frames.specs.Changes.{onward, wider, around, outside, still_stands, still_stands_two}
use Rattle.own_declarations.specs.Sorts.{Ready}
use Rattle.own_declarations.specs.ItemLaws.{few_inputs}
use Rattle.own_declarations.specs.declared.Own.{Own}
use Rattle.own_items.specs.declared.OwnRows.{OwnRows}
use Rattle.own_items.specs.Joined.{OwnRoom, OwnStands, OwnMade}
use Rattle.own_items.specs.Checking.{CheckRoom, OwnChecked}
use Rattle.own_items.specs.JoinLaws.{own_stands_kept}
use Rattle.form_layout.specs.Layout.{block_at, joining_block, first_block, second_block}
use Rattle.own_completing.specs.declared.Totals.{Totals}
use Rattle.own_completing.specs.Completed.{items_checked, own_of, Rooms, Counted, CompleteRoom, KeptDone, Given, Prepared, ItemsStand, ItemsJoined, EquationsJoined}

module _ (t : ℕ) (own : Own) (f : Form) (b : Block) (scratch : ℕ) where
  -- ---- places

  module _ (size : ℕ) (room : Rooms size t own f b scratch) where
    own_room : OwnRoom size t own f.parameters f.parameter_count
    own_room = record {
      few_names = omega arith;
      few_rows = omega arith;
      behind_names = omega arith;
      behind_rows = omega arith;
      names = omega arith;
      rows = omega arith;
      apart = inr (omega arith);
    }

  module _ (text : List ℕ) (w : List ℕ) (room : Rooms (length w) t own f b scratch) where
    own_ready : Ready w t own
    own_ready = record { tape = omega (arith, room.laid); small = omega (arith, room.tape, room.short_tape) }

    -- ---- after the items

    module _ (counts : OwnRows) (w₁ : List ℕ) (x : OwnMade text t own f.parameters f.parameter_count w w₁ counts) where
      counted : Counted own f counts
      counted = omega arith

      items_size : length w₁ ≡ length w
      items_size = x.kept.size

      ready_still : Ready w₁ t own
      ready_still = record { tape = omega (arith, room.laid, items_size); small = own_ready.small }

      names_few : counts.parameter_count ≤ 32776
      names_few = omega (arith, x.few_names, room)

      rows_few : counts.visible_count + counts.hidden_count ≤ 33280
      rows_few = omega (arith, x.few_rows, room)

      check_room : CheckRoom (length w₁) t own f.parameters counts b.order
      check_room =
          let laid = room.laid in
          let lies = room.there.lies in
          record {
            imported = x.rows_grow;
            place = omega (arith, laid, lies.visible, room.rows, rows_few);
            laid = record {
              tape = omega (arith, laid);
              parameters = inl (omega (arith, laid, lies.parameters, names_few));
              rows = inl (omega (arith, laid, lies.visible, room.rows, rows_few));
              place = omega (arith, laid, lies.visible, room.rows);
              room = omega (arith, laid, names_few, rows_few, items_size);
            };
          }

      -- ---- after the checks

      items_kept : Kept b.low (scratch + 131072) w w₁
      items_kept = around (omega (arith, room)) (omega (arith, room)) x.kept

      imported_items : (n : Normal) → Stands text (part w 0 t) w f n → Stands text (part w₁ 0 t) w₁ f n
      imported_items n s =
          still_stands_two {t = t} (omega (arith, room)) (omega (arith, room)) x.kept (outside (omega (arith, room))) (outside (omega (arith, room))) s

      joined_there : (m : Module) (n : Normal) → Given text t w own.from own.end f m n
          → OwnStands text (part w₁ 0 t) w₁ own f.parameters counts m n.visible
      unfolding visible_at
      joined_there m n g =
          x.meant m n.visible
          (record {
            end = g.whole;
            entries = g.entries;
            rows = rw (room.rows, room.count) (ap (λ (u : Visible). u.items) g.imported.visible);
          })
          (ap (λ (u : Visible). u.parameters) g.imported.visible) (few_inputs m g.limited)

      module _ (v : Verdict) (w₂ : List ℕ) (y : OwnChecked text t own f.parameters counts b.order w₁ w₂ v) where
        checks_high : b.order + (counts.parameter_count + (counts.visible_count + counts.hidden_count)) ≤ scratch + 131072
        checks_high = omega (arith, room.laid, names_few, rows_few, room.behind)

        both_kept : Kept b.low (scratch + 131072) w w₂
        both_kept = onward items_kept (wider (omega (arith, room.laid, checks_high)) y.kept)

        verdict_meant : (m : Module) (n : Normal) → Given text t w own.from own.end f m n → items_checked m n ≡ told text v
        verdict_meant m n g = sym (y.verdict m n.visible (joined_there m n g) (few_inputs m g.limited))

        order_outside : Outside b.order (b.order + (counts.parameter_count + (counts.visible_count + counts.hidden_count))) f
        order_outside = outside (omega (arith, room))

        prepared : (m : Module) (n : Normal) → Given text t w own.from own.end f m n → Prepared text t w₂ own f counts m n
        prepared m n g =
            let laid = room.laid in
            let lies = room.there.lies in
            let behind : t ≤ b.order = omega (arith, laid) in
            record {
              imported = still_stands behind y.kept order_outside (imported_items n g.imported);
              joined = own_stands_kept text w₁ w₂ t _ _ y.kept behind own f.parameters counts m n.visible x.rows_grow
                  (inl (omega (arith, laid, lies.parameters, names_few))) (inl (omega (arith, laid, lies.visible, room.rows, rows_few)))
                  (joined_there m n g);
              limited = g.limited;
              seen = g.seen;
            }

        stopped : (z : Refusal) → v ≡ Err z → (m : Module) (n : Normal) → Given text t w own.from own.end f m n
            → items_checked m n ≡ stop z.number (culprit_of text z.culprit)
        unfolding told
        stopped z e m n g = verdict_meant m n g ∙ ap (told text) e

        standing : v ≡ Ok tt → (m : Module) (n : Normal) → Given text t w own.from own.end f m n → ItemsStand text t w₂ own f counts m n
        unfolding told
        standing e m n g = record { checked = verdict_meant m n g ∙ ap (told text) e; prepared = prepared m n g }

-- ---- where the layout has it

module _ (t from end : ℕ) (f : Form) (own : Own) (b : Block) (eo : own ≡ own_of from end f) (eb : b ≡ joining_block) where
  scratch_high : first_block.low + 131072 ≤ second_block.high
  unfolding first_block second_block block_at
  scratch_high = omega arith

  rooms_laid : (size : ℕ) → CompleteRoom size t from end f → Rooms size t own f b first_block.low
  unfolding own_of joining_block first_block block_at
  rooms_laid size room =
      rw (eo, eb) (record {
        laid = room.laid.joining;
        enough_equations = omega arith;
        behind = omega arith;
        scratch_room = omega (arith, scratch_high, room.laid.second.within);
        small = omega arith;
        there = room.there;
        rows = refl;
        count = refl;
        tape = room.tape;
        short_tape = room.short_tape;
        few_entries = room.few_entries;
      })

  pub items_room : (size : ℕ) → CompleteRoom size t from end f → OwnRoom size t own f.parameters f.parameter_count
  items_room size room = own_room t own f b first_block.low size (rooms_laid size room)

  module _ (text w : List ℕ) (room : CompleteRoom (length w) t from end f) where
    abbrev rooms : Rooms (length w) t own f b first_block.low
    rooms = rooms_laid (length w) room

    pub items_ready : Ready w t own
    items_ready = own_ready t own f b first_block.low text w rooms

    module _ (counts : OwnRows) (w₁ : List ℕ) (x : OwnMade text t own f.parameters f.parameter_count w w₁ counts) where
      pub checks_ready : Ready w₁ t own
      checks_ready = ready_still t own f b first_block.low text w rooms counts w₁ x

      pub checks_room : CheckRoom (length w₁) t own f.parameters counts b.order
      checks_room = check_room t own f b first_block.low text w rooms counts w₁ x

      module _ (v : Verdict) (w₂ : List ℕ) (y : OwnChecked text t own f.parameters counts b.order w₁ w₂ v) where
        kept_laid : Kept joining_block.low second_block.high w w₂
        kept_laid =
            wider (omega (arith, scratch_high, ap (λ (z : Block). z.low) eb)) (both_kept t own f b first_block.low text w rooms counts w₁ x v w₂ y)

        given_there : (m : Module) (n : Normal) → Given text t w from end f m n → Given text t w own.from own.end f m n
        unfolding own_of
        given_there m n g = rw eo g

        pub items_refused : (z : Refusal) → v ≡ Err z → ItemsJoined text t w from end f (Err z) w₂
        items_refused z e = record {
          kept = kept_laid;
          counted = tt;
          meant = λ m n g. stopped t own f b first_block.low text w rooms counts w₁ x v w₂ y z e m n (given_there m n g);
        }

        pub items_fine : v ≡ Ok tt → ItemsJoined text t w from end f (Ok counts) w₂
        items_fine e = record {
          kept = kept_laid;
          counted = subst (λ (u : Own). Counted u f counts) eo (counted t own f b first_block.low text w rooms counts w₁ x);
          meant = λ m n g.
              subst (λ (u : Own). ItemsStand text t w₂ u f counts m n) eo
              (standing t own f b first_block.low text w rooms counts w₁ x v w₂ y e m n (given_there m n g));
        }

  module _ (c : Block) (ec : c ≡ first_block) where
    pub rooms_there : (size : ℕ) → CompleteRoom size t from end f → Rooms size t own f b c.low
    rooms_there size room = rw ec (rooms_laid size room)

    pub counted_there : (counts : OwnRows) → Counted (own_of from end f) f counts → Counted own f counts
    counted_there counts few = subst (λ (u : Own). Counted u f counts) (sym eo) few

    kept_high : (r : Made) (w w' : List ℕ) → KeptDone joining_block.low (c.low + 131072) w w' r
        → KeptDone joining_block.low second_block.high w w' r
    kept_high (Ok h) w w' k = wider (omega (arith, scratch_high, ap (λ (z : Block). z.low) ec)) k
    kept_high (Err z) w w' k = tt

    pub equations_laid : (text w : List ℕ) (home : ℕ) (counts : OwnRows) (totals : Totals) (r : Made) (w' : List ℕ)
        → EquationsJoined text t w home own f counts b (c.low + 131072) totals r w'
        → EquationsJoined text t w home (own_of from end f) f counts joining_block second_block.high totals r w'
    equations_laid text w home counts totals r w' x =
        let y = subst₂ (λ (u : Own) (z : Block). EquationsJoined text t w home u f counts z (c.low + 131072) totals r w') eo eb x in
        record {
          made_in = y.made_in;
          right = y.right;
          made = λ m n total q p. let made = y.made m n total q p in record { makes = made.makes; kept = kept_high r w w' made.kept };
        }
