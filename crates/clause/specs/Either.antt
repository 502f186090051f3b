-- What a step asks and leaves that renamings and bindings have in common: a clause's mode tells which it is.
use Rattle.std.specs.Prelude.{◌≡◌, refl, List, [], ℕ}
use Rattle.meaning.specs.Numbers.{bad_renaming}
use Rattle.meaning.specs.Checks.{unless}
use Rattle.meaning.specs.Clauses.{wrong_renaming}
use Rattle.form.specs.declared.Form.{Form}
use Rattle.form.specs.Memory.{part}
use Rattle.form.specs.Forms.{items_at}
use Rattle.form.specs.Verdicts.{Verdict, told}
use Rattle.clause_translation.specs.declared.Mode.{Mode}
use Rattle.clause_pairs.specs.Pairs.{pairs_at}
use Rattle.clause_checks.specs.Notes.{NoteRoom, FormalsNoted}
use Rattle.clause.specs.Binding.{pairs_checked}

-- the mode of a renaming, which has no table
pub record Renames (m : Mode) : Type 0 where
  pub kind : m.kind ≡ 1
  pub table : m.visible ≡ 0
  pub count : m.count ≡ 0

pub record NoteStep (size t : ℕ) (m : Mode) (y : Form) (notes : ℕ) : Type 0 where
  pub binds : m.kind ≡ 2 → NoteRoom size t m y notes

pub note_step : (size t : ℕ) (m : Mode) (y : Form) (notes : ℕ) → NoteStep size t m y notes → m.kind ≡ 2 → NoteRoom size t m y notes
note_step size t m y notes x k = x.binds k

module _ (text : List ℕ) (t : ℕ) (w : List ℕ) (m : Mode) (y : Form) (notes : ℕ) where
  pub record NotesMade (w' : List ℕ) : Type 0 where
    pub binds : m.kind ≡ 2 → FormalsNoted text (part w 0 t) w w' m y notes
    pub renames : (m.kind ≡ 2 → ⊥) → w' ≡ w

  pub notes_binding : (w' : List ℕ) → m.kind ≡ 2 → FormalsNoted text (part w 0 t) w w' m y notes → NotesMade w'
  notes_binding w' k e = record { binds = λ h. e; renames = λ h. absurd (h k) }

  pub notes_renaming : (m.kind ≡ 2 → ⊥) → NotesMade w
  notes_renaming k = record { binds = λ h. absurd (k h); renames = λ h. refl }

module _ (text : List ℕ) (t : ℕ) (w : List ℕ) (m : Mode) (g actual : Form) where
  pub record ClauseRight (r : Verdict) : Type 0 where
    pub binds : m.kind ≡ 2 → told text r ≡ pairs_checked text (part w 0 t) w m actual
    pub renames : (m.kind ≡ 2 → ⊥)
        → told text r
        ≡ unless bad_renaming (wrong_renaming (items_at text (part w 0 t) w g.visible g.visible_count) [] (pairs_at text (part w 0 t) m.pairs))

  -- ---- the ways through

  pub right_binding : (r : Verdict) → m.kind ≡ 2 → told text r ≡ pairs_checked text (part w 0 t) w m actual → ClauseRight r
  right_binding r k e = record { binds = λ h. e; renames = λ h. absurd (h k) }

  pub right_renaming : (r : Verdict) → (m.kind ≡ 2 → ⊥)
      → told text r
      ≡ unless bad_renaming (wrong_renaming (items_at text (part w 0 t) w g.visible g.visible_count) [] (pairs_at text (part w 0 t) m.pairs))
      → ClauseRight r
  right_renaming r k e = record { binds = λ h. absurd (k h); renames = λ h. e }
