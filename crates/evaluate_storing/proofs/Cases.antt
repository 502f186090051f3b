-- One law for each way through the code.
use mathlib.Core.Path.{◌≡◌, refl}
use mathlib.Core.List.{List}
use Prim.Native.Nat.{ℕ, ◌+◌, ◌*◌}
use borrow.Author.Rules.{rules}
use lib.Seq.{sets}
use Rattle.form.specs.declared.Form.{Form}
use Rattle.form.specs.Forms.{form_size}
use Rattle.form_layout.specs.Layout.{table_start}
use Rattle.form_keeping.specs.Keeping.{form_words}
use Rattle.list_keeping.specs.Kept.{KeepRoom, order_place}
use Rattle.list_keeping.specs.Keeps.{Keeps}
use Rattle.evaluate_storing.specs.Places.{place_form, scratch_start, space_small, keep_room}
use Rattle.evaluate_storing.specs.Storing.{store_done}

pub is_scratch : 1025672 ≡ scratch_start
unfolding scratch_start
is_scratch = refl

pub keep_there : (size t : ℕ) (f place : Form) (c scratch : ℕ) → place ≡ place_form f c → scratch ≡ scratch_start
    → KeepRoom size t f (place_form f c) scratch_start (order_place f scratch_start) → KeepRoom size t f place scratch (order_place f scratch)
keep_there size t f place c scratch e d room = rw (e, d) room

pub kept_there : (text : List ℕ) (t : ℕ) (f place : Form) (c scratch : ℕ) (r : Form) (w w' : List ℕ) → place ≡ place_form f c → scratch ≡ scratch_start
    → Keeps text t f place scratch r w w' → Keeps text t f (place_form f c) scratch_start r w w'
kept_there text t f place c scratch r w w' e d keeps = rw (← e, ← d) keeps

pub row_written : (w w' : List ℕ) (table k : ℕ) (f : Form) → table ≡ table_start → w' ≡ sets w (table + k * form_size) (form_words f)
    → w' ≡ sets w (table_start + k * form_size) (form_words f)
row_written w w' table k f e put = rw (← e) put

pub ruleset cases = (row_written, is_scratch, keep_there, kept_there, space_small, keep_room, store_done, rules)
