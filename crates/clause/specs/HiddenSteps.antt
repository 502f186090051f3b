-- The hidden items and the equations of a binding: the room for them, and what the form stands for then. None of the equations is left out.
use Rattle.std.specs.Prelude.{◌≡◌, true, ℕ, ◌+◌, ◌*◌, ◌≤◌, length}
use Rattle.std.proofs.Common.{sym, ◌∙◌, subst, inl, inr, arith}
use Rattle.std.proofs.Math.Path.{ap, transport}
use mathlib.Core.List.{List, map}
use Rattle.std.proofs.Math.ListN.{length-map}
use Rattle.meaning.specs.Names.{Name}
use Rattle.meaning.specs.Numbers.{equation_room}
use Rattle.meaning.specs.Origins.{FunctionType, one_equation}
use Rattle.meaning.specs.Normal.{Hidden, Normal, unite_hidden, unite, move_equation}
use Rattle.form_rows.specs.Rows.{row_size}
use Rattle.form.specs.declared.Form.{Form}
use Rattle.form.specs.declared.Block.{Block}
use Rattle.form.specs.Memory.{part, Kept}
use Rattle.form.specs.Forms.{Stands}
use Rattle.form.specs.FormLaws.{Apart, kept_same, kept_two_same}
use Rattle.form.specs.FullLists.{length_union}
use Rattle.form_frames.specs.Changes.{onward, around, apart_in, outside_in, tape_kept, still_stands}
use Rattle.clause_translation.specs.declared.Mode.{Mode}
use Rattle.unite_nodes.specs.Joined.{with_counts}
use Rattle.unite_nodes.specs.Found.{Noted}
use Rattle.unite_nodes.specs.Pointed.{noted_stays}
use Rattle.unite.specs.Rooms.{HiddenRoom}
use Rattle.unite.specs.United.{empty_in, with_items, hidden_onto, moved_onto, sorts, functions, HiddenUnited}
use Rattle.unite.specs.InBlock.{hidden_room_in}
use Rattle.unite.specs.Corollaries.{united_as_is, hidden_stands}
use Rattle.unite_checks.specs.Checked.{CheckRoom}
use Rattle.clause.specs.Rooms.{as_is, StepRoom, SeenRoom}
use Rattle.clause.specs.Binding.{HiddenBound}
use Rattle.clause.specs.Places.{Laid, Counts, block_laid, mode_apart, own_step, InsideBlock, seen_inside, inside_more}
use Rattle.clause.specs.VisibleSteps.{as_is_kind, as_is_apart, sorts_as_is, functions_as_is}

module _ (text : List ℕ) (t : ℕ) (w : List ℕ) (m : Mode) (g actual f : Form) (b : Block) (given : SeenRoom (length w) t m g actual f b) where
  abbrev room : StepRoom (length w) t m g actual b
  room = given.step

  abbrev laid : Laid (length w) t b
  laid = block_laid (length w) t b room.room.own.room

  abbrev fit : Counts g actual
  fit = (room.room.own.fits, room.room.fits)

  open b use {low, high, visible_notes as notes}

  table_apart : Apart low high m.visible (m.visible + m.count * row_size)
  table_apart = mode_apart (length w) t m g b (own_step (length w) t m g actual b room)

  inside : InsideBlock b f
  inside = seen_inside g actual b fit f given.seen

  no_hidden : f.hidden_count ≡ 0
  unfolding with_items
  no_hidden = ap (λ (z : Form). z.hidden_count) given.seen.form

  no_equations : f.equation_count ≡ 0
  unfolding with_items empty_in
  no_equations = ap (λ (z : Form). z.equation_count) given.seen.form

  pub own_hidden_room : HiddenRoom (length w) t m g f b notes
  own_hidden_room =
      hidden_room_in laid inside m g notes _ (outside_in (omega (arith, laid, fit)) room.room.own.outside)
      (apart_in (omega (arith, laid, fit)) table_apart)
      (omega arith) (omega (arith, no_hidden, fit)) (omega (arith, no_hidden, fit)) (omega (arith, fit)) room.room.own.nodes
      (inr (omega (arith, laid))) (inl (omega (arith, laid, fit)))

  module _ (own : Form) (w₁ : List ℕ) (x : HiddenUnited text t w m g f b notes own w₁) where
    own_hidden : own.hidden_count ≤ g.hidden_count
    own_hidden = omega (arith, x.few, no_hidden)

    own_inside : InsideBlock b own
    own_inside = inside_more b f own inside x.form (omega (arith, own_hidden, fit)) x.equations x.nodes

    own_kept : Kept low high w w₁
    own_kept = around (omega (arith, inside.lies, laid)) (omega (arith, laid, fit)) x.kept

    same_visible : own.visible ≡ f.visible
    same_visible = own_inside.lies.visible ∙ sym inside.lies.visible

    same_count : own.visible_count ≡ f.visible_count
    unfolding with_items with_counts
    same_count = ap (λ (z : Form). z.visible_count) x.form

    module _ (o : Mode) (plain : o ≡ as_is) where
      pub actual_hidden_room : HiddenRoom (length w₁) t o actual own b (notes + 1024)
      actual_hidden_room =
          rw own_kept.size (hidden_room_in laid own_inside o actual (notes + 1024) _ (outside_in (omega (arith, laid, fit)) room.room.outside)
          (as_is_apart _ _ o plain) (omega arith) (omega (arith, own_hidden, fit)) (omega (arith, own_hidden, fit)) (omega (arith, fit)) room.room.nodes
          (inr (omega (arith, laid))) (inl (omega (arith, laid, fit))))

      module _ (r : Form) (w₂ : List ℕ) (y : HiddenUnited text t w₁ o actual own b (notes + 1024) r w₂) where
        last_inside : InsideBlock b r
        last_inside = inside_more b own r own_inside y.form (omega (arith, y.few, own_hidden, fit)) y.equations y.nodes

        last_kept : Kept low high w₁ w₂
        last_kept = around (omega (arith, own_inside.lies, laid)) (omega (arith, laid, fit)) y.kept

        both_kept : Kept low high w w₂
        both_kept = onward own_kept last_kept

        check : CheckRoom (length w₂) t r b
        check =
            let i = last_inside in
            rw both_kept.size (record {
              names = 16;
              rows = 1024;
              hidden_rows = 1024;
              sources = 2048;
              laid = laid;
              lies = i.lies;
              parameters = i.parameters;
              visible = i.visible;
              hidden = i.hidden;
              few_rows = omega arith;
              few_hidden = omega arith;
              equations = i.equations;
              nodes = i.nodes;
            })

        -- ---- what the form stands for

        abbrev σ : Name → Name
        σ = sorts text t w m

        abbrev φ : Name → FunctionType → Name
        φ = functions text t w m

        tape₁ : part w₁ 0 t ≡ part w 0 t
        tape₁ = tape_kept laid.tape own_kept

        -- the actual form's notes stay, and lead to rows that stay
        noted_then : Noted (sorts text t w as_is) (functions text t w as_is) text (part w 0 t) w true (notes + 1024) actual.visible actual.visible_count
            f.visible f.visible_count
            → Noted (sorts text t w₁ o) (functions text t w₁ o) text (part w₁ 0 t) w₁ true (notes + 1024) actual.visible actual.visible_count
            own.visible own.visible_count
        noted_then n =
            let e = inside.lies in
            let f_rows = inside.visible in
            let at = sorts_as_is text (part w₁ 0 t) (part w 0 t) w₁ w o plain in
            let by = functions_as_is text (part w₁ 0 t) (part w 0 t) w₁ w o plain in
            let stays = noted_stays _ _ text (part w 0 t) w w₁ true (notes + 1024) actual.visible actual.visible_count f.visible f.visible_count
            (kept_two_same _ _ _ _ _ _ w w₁ (inr (omega (arith, e, laid))) (inl (omega (arith, laid, fit))) x.kept)
            (kept_same low high _ _ w w₁ room.room.outside.visible own_kept)
            (kept_two_same _ _ _ _ _ _ w w₁ (inl (omega (arith, e, f_rows, laid))) (inl (omega (arith, e, f_rows, laid))) x.kept) n in
            transport (λ i. Noted (sym at i) (sym by i) text (sym tape₁ i) w₁ true (notes + 1024) actual.visible actual.visible_count
            (sym same_visible i) (sym same_count i)) stays

        -- all as it is
        actual_united : (h : Hidden) (a : Normal) → hidden_onto (sorts text t w₁ o) (functions text t w₁ o) h a.hidden ≡ unite_hidden h a.hidden
        unfolding moved_onto unite
        actual_united h a =
            ap (λ (n : Normal). n.hidden) (united_as_is text (part w₁ 0 t) w₁ o (record { visible = a.visible; hidden = h }) a (as_is_kind o plain))

        -- no more equations came than g has
        own_equations : (n to : Normal) → Stands text (part w 0 t) w g n → Stands text (part w 0 t) w f to
            → Noted σ φ text (part w 0 t) w true notes g.visible g.visible_count f.visible f.visible_count
            → own.equation_count ≤ equation_room
        unfolding hidden_onto
        own_equations n to s z own_noted =
            let few = room.room.own.fits.equations in
            let room_left = room.room.own.room.equations_room in
            let first = hidden_stands text t w m g f b own w₁ (omega (arith, no_equations, few, room_left)) n to s z notes x own_noted in
            let moved = map (move_equation σ φ) n.hidden.equations in
            let total = length_union one_equation to.hidden.equations moved in
            let same = length-map n.hidden.equations (move_equation σ φ) in
            omega (arith, first.equation_count, total, same, s.equation_count, z.equation_count, no_equations, few)

        both_stand : (n a to : Normal) → Stands text (part w 0 t) w g n → Stands text (part w 0 t) w actual a → Stands text (part w 0 t) w f to
            → Noted σ φ text (part w 0 t) w true notes g.visible g.visible_count f.visible f.visible_count
            → Noted (sorts text t w as_is) (functions text t w as_is) text (part w 0 t) w true (notes + 1024) actual.visible actual.visible_count
            f.visible f.visible_count
            → Stands text (part w₂ 0 t) w₂ r (record { visible = to.visible; hidden = unite_hidden (hidden_onto σ φ to.hidden n.hidden) a.hidden })
        both_stand n a to s u z own_noted actual_noted =
            let room_left = room.room.own.room.equations_room in
            let few = room.room.own.fits.equations in
            let first = hidden_stands text t w m g f b own w₁ (omega (arith, no_equations, few, room_left)) n to s z notes x own_noted in
            let then = still_stands laid.tape own_kept room.room.outside u in
            let last = hidden_stands text t w₁ o actual own b r w₂ (omega (arith, own_equations n to s z own_noted, room.room.fits.equations, room_left)) a
            (record { visible = to.visible; hidden = hidden_onto σ φ to.hidden n.hidden }) then first (notes + 1024) y (noted_then actual_noted) in
            subst (λ (h : Hidden). Stands text (part w₂ 0 t) w₂ r (record { visible = to.visible; hidden = h }))
            (actual_united (hidden_onto σ φ to.hidden n.hidden) a) last

        pub hidden_bound : HiddenBound text t w m g actual f b r w₂
        hidden_bound = record { check = check; kept = both_kept; stands = both_stand }
