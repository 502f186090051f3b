-- From the room that a renaming or a union has to what the code asks for, and from what the code leaves to the meaning.
use Rattle.std.specs.Prelude.{◌≡◌, refl, ℕ, length, Ok, Err}
use Rattle.std.proofs.Math.Path.{sym, ap}
use Rattle.std.proofs.Common.{◌∙◌, subst, inl, arith}
use mathlib.Core.List.{List, []}
use Rattle.meaning.specs.Numbers.{bad_renaming}
use Rattle.meaning.specs.Normal.{Visible, Normal, empty, unite, move}
use Rattle.meaning.specs.Checks.{unless, checked}
use Rattle.meaning.specs.Clauses.{renaming, wrong_renaming, rename}
use Rattle.form.specs.declared.Form.{Form}
use Rattle.form.specs.declared.Block.{Block}
use Rattle.form.specs.declared.Refusal.{Refusal}
use Rattle.form.specs.Memory.{part}
use Rattle.form.specs.Forms.{visible_at, Stands}
use Rattle.form.specs.FormLaws.{kept_all}
use Rattle.form.specs.Blocks.{MadeThere}
use Rattle.form.specs.Verdicts.{Verdict, Made, culprit_of, told}
use Rattle.form_frames.specs.Changes.{onward}
use Rattle.clause_translation.specs.declared.Mode.{Mode}
use Rattle.clause_pairs.specs.Pairs.{pairs_at}
use Rattle.unite_items.specs.Turns.{Room}
use Rattle.unite.specs.Rooms.{SlotsRoom, HiddenRoom, UniteRoom}
use Rattle.unite.specs.United.{empty_in, moved_onto, sorts, functions, SeenUnited, HiddenUnited, United}
use Rattle.unite.specs.Whole.{slots_room, visible_room, hidden_room, united}
use Rattle.unite.specs.Standing.{empty_stands}
use Rattle.unite.specs.Corollaries.{moved_by_renaming, united_as_is, united_stands}
use Rattle.unite_checks.specs.Made.{makes_as, refused_makes, stops, goes_on}
use Rattle.unite_checks.specs.Checked.{CheckRoom, CheckedForm}
use Rattle.unite_checks.specs.Steps.{BlockRoom, MakeRoom, Renamed, RenamedForm, JoinRoom, JoinedForm}
use Rattle.clause.specs.Either.{Renames, ClauseRight, NoteStep, NotesMade}

-- the modes of a renaming and of a union
abbrev renaming_mode : ℕ → Mode
renaming_mode pairs = record { kind = 1; pairs = pairs; parameter = 0; visible = 0; count = 0 }

pub rename_mode : (pairs : ℕ) → Renames (renaming_mode pairs)
rename_mode pairs = record { kind = refl; table = refl; count = refl }

abbrev as_it_is : Mode
as_it_is = record { kind = 0; pairs = 0; parameter = 0; visible = 0; count = 0 }

-- ---- room

nothing_there : (b : Block) → MadeThere b (empty_in b)
unfolding empty_in
nothing_there b = omega arith

-- what is made of one form is made of it and of nothing
onto_nothing : (size t : ℕ) (g e : Form) (b : Block) → MakeRoom size t g b → e ≡ empty_in b → JoinRoom size t g e b
onto_nothing size t g e b c h = record {
  room = c.room;
  outside = c.outside;
  fits = c.fits;
  nodes = c.nodes;
  there = subst (MadeThere b) (sym h) (nothing_there b);
}

unite_room : (size t : ℕ) (z : Mode) (g f : Form) (b : Block) → z.visible ≡ 0 → z.count ≡ 0 → JoinRoom size t g f b → UniteRoom size t z g f b
unite_room size t z g f b at none c =
    let m = c.room in
    let x = c.fits in
    let y = c.there.fits in
    record {
      names = m.names;
      rows = m.rows;
      hidden_rows = m.hidden_rows;
      sources = m.sources;
      laid = m.laid;
      inside = omega (arith, c.there, m);
      outside = c.outside;
      mode = inl (omega (arith, at, none));
      parameters = omega (arith, x.parameters, y.parameters, m.names_room);
      visible = omega (arith, x.items, y.items, m.rows_room);
      hidden = omega (arith, x.items, y.items, m.hidden_room);
      visible_source = omega (arith, x.items, m.sources_room);
      hidden_source = omega (arith, x.items, m.sources_room);
      few_parameters = omega (arith, x.parameters, y.parameters);
      few_visible = omega (arith, x.items, y.items);
      few_hidden = omega (arith, x.items, y.items);
      source_nodes = c.nodes;
    }

pub join_unite : (size t : ℕ) (g f : Form) (b : Block) → JoinRoom size t g f b → UniteRoom size t as_it_is g f b
join_unite size t g f b c = unite_room size t as_it_is g f b refl refl c

-- what two forms that fit make together is checked in the block
module _ (text : List ℕ) (t : ℕ) (w w₁ : List ℕ) (m : Mode) (g f u : Form) (b : Block) (x : United text t w m g f b u w₁) where
  pub join_check : JoinRoom (length w) t g f b → CheckRoom (length w₁) t u b
  join_check c =
      let d = subst (λ (s : ℕ). BlockRoom s t b) (sym x.kept.size) c.room in
      record {
        names = d.names;
        rows = d.rows;
        hidden_rows = d.hidden_rows;
        sources = d.sources;
        laid = d.laid;
        lies = x.lies;
        parameters = omega (arith, x.names, c.fits.parameters, c.there.fits.parameters, d.names_room);
        visible = omega (arith, x.visible, c.fits.items, c.there.fits.items, d.rows_room);
        hidden = omega (arith, x.hidden, c.fits.items, c.there.fits.items, d.hidden_room);
        few_rows = d.few_rows;
        few_hidden = d.few_hidden;
        equations = x.equations;
        nodes = x.nodes;
      }

-- ---- renaming

module _ (text : List ℕ) (t : ℕ) (w : List ℕ) (m : Mode) (g e : Form) (b : Block) (c : MakeRoom (length w) t g b) (z : Renames m)
    (h : e ≡ empty_in b) where
  together : JoinRoom (length w) t g e b
  together = onto_nothing (length w) t g e b c h

  room : UniteRoom (length w) t m g e b
  room = unite_room (length w) t m g e b z.table z.count together

  no_binding : m.kind ≡ 2 → ⊥
  no_binding k = omega (arith, k, z.kind)

  pub make_slots : SlotsRoom (length w) t g e
  make_slots = slots_room text t w m g e b room

  pub make_visible : Room (length w) t m g.visible g.visible_count e.visible e.visible_count b.visible_notes
  make_visible = visible_room text t w m g e b room

  module _ (seen : Form) (w₂ : List ℕ) (x : SeenUnited text t w m g e b.visible_notes seen w₂) where
    pub make_notes : NoteStep (length w₂) t m seen b.visible_notes
    make_notes = record { binds = λ k. absurd (no_binding k) }

    module _ (w₃ : List ℕ) (q : NotesMade text t w₂ m seen b.visible_notes w₃) where
      still : SeenUnited text t w m g e b.visible_notes seen w₃
      still = subst (SeenUnited text t w m g e b.visible_notes seen) (sym (q.renames no_binding)) x

      pub make_hidden : HiddenRoom (length w₃) t m g seen b b.visible_notes
      make_hidden = hidden_room text t w m g e b room seen w₃ still

      module _ (u : Form) (w₄ : List ℕ) (k : HiddenUnited text t w₃ m g seen b b.visible_notes u w₄) where
        all : United text t w m g e b u w₄
        all = united text t w m g e b room seen w₃ still u w₄ k

        pub make_check : CheckRoom (length w₄) t u b
        make_check = join_check text t w w₄ m g e u b all together

        pub renamed_made : (r : Made) (w₅ : List ℕ) → CheckedForm text t w₄ u b r w₅ → RenamedForm text t w m.pairs g b r w₅
        renamed_made r w₅ d = record {
          kept = onward all.kept d.kept;
          made_in = d.made_in;
          made = λ n s.
              makes_as text (part w₅ 0 t) w₅ r (checked (moved_onto (sorts text t w m) (functions text t w m) empty n))
              (checked (move (renaming (pairs_at text (part w 0 t) m.pairs)) (λ f v. renaming (pairs_at text (part w 0 t) m.pairs) f) n))
              (ap checked (sym (moved_by_renaming text (part w 0 t) w m n z.kind)))
              (d.made _ (united_stands text t w m g e b u w₄
              (omega (arith, together.there.fits.equations, c.fits.equations, c.room.equations_room)) n empty s
              (subst (λ (f : Form). Stands text (part w 0 t) w f empty) (sym h) (empty_stands text (part w 0 t) w b)) all));
        }

module _ (text : List ℕ) (t : ℕ) (w w₁ : List ℕ) (pairs : ℕ) (g : Form) (b : Block) (v : Verdict)
    (q : ClauseRight text t w (renaming_mode pairs) g g v) where
  names_meant : (n : Normal) → Stands text (part w 0 t) w g n
      → unless bad_renaming (wrong_renaming n.visible.items [] (pairs_at text (part w 0 t) pairs)) ≡ told text v
  unfolding visible_at
  names_meant n s =
      ap (λ (u : Visible). unless bad_renaming (wrong_renaming u.items [] (pairs_at text (part w 0 t) pairs))) (sym s.visible) ∙ sym (q.renames (λ k. omega (arith, k)))

  pub rename_stop : (x : Refusal) → v ≡ Err x → Renamed text t w pairs g b (Err x) w
  unfolding rename told
  rename_stop x e = record {
    kept = kept_all b.low b.high w;
    made_in = tt;
    made = λ n s. refused_makes text (part w 0 t) w x (rename (pairs_at text (part w 0 t) pairs) n)
        (stops _ _ x.number (culprit_of text x.culprit) (names_meant n s ∙ ap (told text) e));
  }

  pub rename_fine : (r : Made) → v ≡ Ok tt → RenamedForm text t w pairs g b r w₁ → Renamed text t w pairs g b r w₁
  unfolding rename told
  rename_fine r e d = record {
    kept = d.kept;
    made_in = d.made_in;
    made = λ n s. makes_as text (part w₁ 0 t) w₁ r _ (rename (pairs_at text (part w 0 t) pairs) n) (goes_on _ _ (names_meant n s ∙ ap (told text) e)) (d.made n s);
  }

-- ---- union

pub join_made : (text : List ℕ) (t : ℕ) (w w₁ w₂ : List ℕ) (g f u : Form) (b : Block) (r : Made) → JoinRoom (length w) t g f b
    → United text t w as_it_is g f b u w₁ → CheckedForm text t w₁ u b r w₂ → JoinedForm text t w g f b r w₂
join_made text t w w₁ w₂ g f u b r c x d =
    let m = as_it_is in
    record {
      kept = onward x.kept d.kept;
      made_in = d.made_in;
      made = λ from to s z.
          makes_as text (part w₂ 0 t) w₂ r (checked (moved_onto (sorts text t w m) (functions text t w m) to from)) (checked (unite to from))
          (ap checked (sym (united_as_is text (part w 0 t) w m to from refl)))
          (d.made _ (united_stands text t w m g f b u w₁
          (omega (arith, c.fits.equations, c.there.fits.equations, c.room.equations_room)) from to s z x));
    }
