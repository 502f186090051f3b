-- The way through all of a module's own parameters and items: w₁, w₂ and w₃ are the memories after the parameters, the visible items and the
-- hidden ones, r, s and u the numbers of parameters, of visible rows and of all rows.
use mathlib.Core.Path.{◌≡◌, sym, ap, ◌∙◌}
use mathlib.Core.Bool.{true, false}
use mathlib.Core.List.{List, ◌++◌, append_cancel_left}
use mathlib.Core.Logic.{inl, inr, ⊎_elim}
use Prim.Native.Nat.{ℕ, ◌+◌, ◌-◌, ◌*◌, ◌≤◌}
use native.Mathlib.Omega.{arith}
use borrow.Author.Rules.{rules}
use lib.ListN.{length}
use Rattle.meaning.specs.Syntax.{Module}
use Rattle.meaning.specs.Origins.{Item}
use Rattle.meaning.specs.Normal.{Visible}
use Rattle.meaning.specs.Own.{own_hidden_items}
use Rattle.meaning.specs.Evaluate.{seen_sorts, joined_visible}
use Rattle.form_rows.specs.Rows.{row_size}
use Rattle.form.specs.Memory.{part, Same, Kept, KeptTwo}
use Rattle.form.specs.Forms.{slots_at, items_at, slot_size}
use Rattle.form.specs.FormLaws.{kept_wider, kept_then, kept_same, kept_is_two, kept_two_swap, kept_two_then, slots_same}
use Rattle.form.specs.FormLaws.{items_split}
use Rattle.own_declarations.specs.Sorts.{Ready}
use Rattle.own_declarations.specs.Items.{own_count, own_items, Roomy, Appended}
use Rattle.own_declarations.specs.DeclarationLaws.{Stands}
use Rattle.own_declarations.specs.ItemLaws.{FewInputs, hidden_items}
use Rattle.own_declarations.specs.Frames.{count_short, counts_short}
use Rattle.own_declarations.specs.declared.Own.{Own}
use Rattle.own_items.specs.Parameters.{SlotsAppended}
use Rattle.own_items.specs.Joined.{Joined, OwnRoom, OwnStands, OwnMade}
use Rattle.own_items.specs.JoinLaws.{tape_kept, items_kept, stands_kept, visible_joined, parameters_joined}

module _ (text : List ℕ) (t : ℕ) (own : Own) (q n : ℕ) (w : List ℕ) (ready : Ready w t own) (room : OwnRoom (length w) t own q n) where
  -- how many entries the module has
  abbrev size : ℕ
  size = own.end - own.from

  module _ (w₁ : List ℕ) (r : ℕ) (named : SlotsAppended t own.from own.end q n w w₁ r) where
    tape₁ : part w₁ 0 t ≡ part w 0 t
    tape₁ = tape_kept text w w₁ t (q + n * slot_size) (q + r * slot_size) named.kept room.behind_names

    pub whole_ready : Ready w₁ t own
    whole_ready = record { tape = omega (arith, named.kept.size, ready.tape); small = ready.small }

    pub whole_visible : Roomy t own false own.rows own.count w₁
    whole_visible =
        let c = count_short (part w₁ 0 t) false own.from size in
        record {
          few = omega (arith, room.few_rows);
          behind = room.behind_rows;
          room = omega (arith, c, room.rows, named.kept.size);
          apart = inl (omega arith);
        }

    module _ (w₂ : List ℕ) (s : ℕ) (joined : Joined text t own own.rows own.count w₁ w₂ s) where
      tape₂ : part w₂ 0 t ≡ part w₁ 0 t
      tape₂ = tape_kept text w₁ w₂ t (own.rows + own.count * row_size) _ joined.kept room.behind_rows

      few₂ : s ≤ own.count + own_count (part w₂ 0 t) false own.from size
      few₂ = rw tape₂ joined.few

      pub whole_ready_behind : Ready w₂ t own
      whole_ready_behind = record { tape = omega (arith, joined.kept.size, whole_ready.tape); small = ready.small }

      pub whole_hidden : Roomy t own true own.rows s w₂
      whole_hidden =
          let c = counts_short (part w₂ 0 t) own.from size in
          record {
            few = omega (arith, few₂, c, room.few_rows, ready.small);
            behind = omega (arith, room.behind_rows, joined.grows);
            room = omega (arith, few₂, c, room.rows, named.kept.size, joined.kept.size);
            apart = inl (omega (arith, joined.grows));
          }

      module _ (w₃ : List ℕ) (u : ℕ) (appended : Appended text t own true own.rows s w₂ w₃ u) where
        -- the numbers of rows
        few₃ : u ≤ own.count + size
        few₃ = omega (arith, few₂, counts_short (part w₂ 0 t) own.from size, appended.count)

        -- what joining and appending change
        abbrev low : ℕ
        low = own.rows + own.count * row_size

        abbrev high : ℕ
        high = own.rows + (own.count + size) * row_size

        behind₃ : t ≤ own.rows + s * row_size
        behind₃ = omega (arith, room.behind_rows, joined.grows)

        visible_kept : Kept low high w₁ w₂
        visible_kept =
            kept_wider low (own.rows + (own.count + own_count (part w₁ 0 t) false own.from size) * row_size) low high w₁ w₂ (omega arith)
            (omega (arith, count_short (part w₁ 0 t) false own.from size)) joined.kept

        hidden_kept : Kept low high w₂ w₃
        hidden_kept =
            kept_wider (own.rows + s * row_size) (own.rows + u * row_size) low high w₂ w₃ (omega (arith, joined.grows)) (omega (arith, few₃))
            appended.kept

        rows_kept : Kept low high w₁ w₃
        rows_kept = kept_then low high w₁ w₂ w₃ visible_kept hidden_kept

        names_two : KeptTwo (q + n * slot_size) (q + (n + size) * slot_size) low high w w₁
        names_two =
            kept_is_two (q + n * slot_size) (q + (n + size) * slot_size) low high w w₁
            (kept_wider (q + n * slot_size) (q + r * slot_size) (q + n * slot_size) (q + (n + size) * slot_size) w w₁ (omega arith) (omega (arith, named.few))
            named.kept)

        all_kept : KeptTwo (q + n * slot_size) (q + (n + size) * slot_size) low high w w₃
        all_kept =
            kept_two_then (q + n * slot_size) (q + (n + size) * slot_size) low high w w₁ w₃ names_two
            (kept_two_swap low high (q + n * slot_size) (q + (n + size) * slot_size) w₁ w₃
            (kept_is_two low high (q + n * slot_size) (q + (n + size) * slot_size) w₁ w₃ rows_kept))

        names_stay : Same q (q + r * slot_size) w₁ w₃
        names_stay =
            kept_same low high q (q + r * slot_size) w₁ w₃
            (⊎_elim (λ x. inr (omega arith)) (λ x. inl (omega (arith, named.few))) room.apart) rows_kept

        module _ (m : Module) (v : Visible) (stands : Stands text (part w 0 t) w own m v) (imported : slots_at text w q n ≡ v.parameters)
            (few : FewInputs m) where
          stands₁ : Stands text (part w₁ 0 t) w₁ own m v
          stands₁ =
              stands_kept text w w₁ t (q + n * slot_size) (q + r * slot_size) named.kept room.behind_names own m v
              (⊎_elim (λ x. inl (omega arith)) (λ x. inr (omega (arith, named.few))) room.apart) stands

          stands₂ : Stands text (part w₂ 0 t) w₂ own m v
          stands₂ = stands_kept text w₁ w₂ t low high visible_kept room.behind_rows own m v (inl (omega arith)) stands₁

          stands₃ : Stands text (part w₃ 0 t) w₃ own m v
          stands₃ = stands_kept text w₂ w₃ t low high hidden_kept room.behind_rows own m v (inl (omega arith)) stands₂

          front : items_at text (part w₃ 0 t) w₃ own.rows s ≡ items_at text (part w₂ 0 t) w₂ own.rows s
          front = items_kept text w₂ w₃ t (own.rows + s * row_size) (own.rows + u * row_size) appended.kept behind₃ own.rows s (inl (omega arith))

          tape₃ : part w₃ 0 t ≡ part w₂ 0 t
          tape₃ = tape_kept text w₂ w₃ t low high hidden_kept room.behind_rows

          visible_there : items_at text (part w₃ 0 t) w₃ own.rows s ≡ (joined_visible m v).items
          visible_there = front ∙ rw tape₂ (visible_joined text t own w₁ m v stands₁ w₂ s few joined)

          -- the rows behind the visible ones
          hidden_there : items_at text (part w₃ 0 t) w₃ (own.rows + s * row_size) (u - s) ≡ own_hidden_items m (seen_sorts m v)
          hidden_there =
              let z : s + (u - s) ≡ u = omega (arith, appended.count) in
              let xs = items_at text (part w₃ 0 t) w₃ own.rows s in
              let ys = items_at text (part w₃ 0 t) w₃ (own.rows + s * row_size) (u - s) in
              let split : items_at text (part w₃ 0 t) w₃ own.rows u ≡ xs ++ ys = rw z at (items_split text (part w₃ 0 t) w₃ own.rows s (u - s)) in
              let added : items_at text (part w₃ 0 t) w₃ own.rows u ≡ xs ++ own_items text (part w₂ 0 t) w₂ own true own.from size =
              ap (λ (x : List ℕ). items_at text x w₃ own.rows u) tape₃
              ∙ appended.items
              ∙ ap (λ (x : List Item). x ++ own_items text (part w₂ 0 t) w₂ own true own.from size) (sym front) in
              append_cancel_left xs ys (own_items text (part w₂ 0 t) w₂ own true own.from size) (sym split ∙ added)
              ∙ hidden_items text (part w₂ 0 t) w₂ own m v stands₂ few

          all_stands : OwnStands text (part w₃ 0 t) w₃ own q (record { parameter_count = r; visible_count = s; hidden_count = u - s }) m v
          all_stands = record {
            imported = stands₃;
            parameters = slots_same w₁ w₃ text q r names_stay ∙ parameters_joined text t own w m v stands w₁ q n r imported named;
            visible = visible_there;
            hidden = hidden_there;
          }

        pub whole_made : OwnMade text t own q n w w₃ (record { parameter_count = r; visible_count = s; hidden_count = u - s })
        whole_made = record {
          kept = all_kept;
          names_grow = named.grows;
          few_names = named.few;
          rows_grow = joined.grows;
          few_rows = omega (arith, few₃, appended.count);
          meant = λ m v stands imported few. all_stands m v stands imported few;
        }

pub ruleset whole = (whole_ready, whole_visible, rules)
