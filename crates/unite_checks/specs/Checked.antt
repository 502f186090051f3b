-- What the checks after a clause or a union ask of places, and what comes of them (meaning/specs/Checks.antt, `checked`).
use Rattle.std.specs.Prelude.{◌≡◌, refl, Bool, true, false, ◌&&◌, List, [], ℕ, zero, suc, ◌+◌, ◌≤◌, leb, Ok, Err}
use Rattle.std.proofs.Math.Path.{sym, ap}
use Rattle.std.proofs.Common.{◌∙◌, inl, arith, leb-true}
use Rattle.std.proofs.lemmas.Bool.{false≢true}
use Rattle.std.proofs.Math.ListN.{length}
use Rattle.meaning.specs.Lists.{pick}
use Rattle.meaning.specs.Numbers.{parameter_room, item_room, equation_room, no_room}
use Rattle.meaning.specs.Normal.{Visible, Normal}
use Rattle.meaning.specs.Checks.{fine, stop, ◌>>◌, Check, needs, consistent, size, fits, room, checked}
use Rattle.form.specs.declared.Form.{Form}
use Rattle.form.specs.declared.Block.{Block}
use Rattle.form.specs.declared.Refusal.{Refusal}
use Rattle.form.specs.Memory.{part, Kept}
use Rattle.form.specs.Forms.{slots_at, visible_at, Stands, slot_size}
use Rattle.form.specs.FormLaws.{length_items}
use Rattle.form.specs.Blocks.{BlockLaid, Lies, Fits, Makes, MadeIn}
use Rattle.form.specs.Verdicts.{Verdict, Made, refusal, culprit_of, nobody_of, told}
use Rattle.form_frames.specs.Changes.{wider, outside, still_stands}
use Rattle.unite_checks.specs.Consistent.{nobody, Laid, Checked}
use Rattle.unite_checks.specs.Made.{makes_as, stops, goes_on}

-- the form lies in the block, which has room for what it has
pub record CheckRoom (size t : ℕ) (f : Form) (b : Block) : Type 0 where
  pub names : ℕ
  pub rows : ℕ
  pub hidden_rows : ℕ
  pub sources : ℕ
  pub laid : BlockLaid size t b names rows hidden_rows sources
  pub lies : Lies b f
  pub parameters : f.parameter_count ≤ names
  pub visible : f.visible_count ≤ rows
  pub hidden : f.hidden_count ≤ hidden_rows
  pub few_rows : rows ≤ 65536
  pub few_hidden : hidden_rows ≤ 65536
  pub equations : f.equation_count ≤ b.equation_room
  pub nodes : f.node_count ≤ b.node_room

-- the form, or 18
unfoldable pub enough : Form → Bool
enough f = leb f.parameter_count parameter_room && leb (f.visible_count + f.hidden_count) item_room && leb f.equation_count equation_room

unfoldable pub fitting : Form → Made
fitting f = pick (enough f) (Ok f) (Err (refusal no_room nobody))

pub record CheckedForm (text : List ℕ) (t : ℕ) (w : List ℕ) (f : Form) (b : Block) (r : Made) (w' : List ℕ) : Type 0 where
  pub kept : Kept b.low b.high w w'
  pub made_in : MadeIn b r
  pub made : (n : Normal) → Stands text (part w 0 t) w f n → Makes text (part w' 0 t) w' r (checked n)

-- ---- what the form has is what the normal form has

pub length_slots : (text w : List ℕ) (b c : ℕ) → length (slots_at text w b c) ≡ c
unfolding slots_at
length_slots text w b zero = refl
length_slots text w b (suc c) = ap suc (length_slots text w (b + slot_size) c)

pub and_true : (a b : Bool) → (a && b) ≡ true → (a ≡ true) × (b ≡ true)
and_true true b e = (refl, e)
and_true false b e = absurd (false≢true e)

pub enough_fits : (f : Form) → enough f ≡ true → Fits f
unfolding enough
enough_fits f e =
    let last = and_true _ _ e in
    let front = and_true _ _ last.0 in
    record {
      parameters = leb-true f.parameter_count parameter_room front.0;
      items = leb-true (f.visible_count + f.hidden_count) item_room front.1;
      equations = leb-true f.equation_count equation_room last.1;
    }

fitting_in : (b : Block) (f : Form) → Lies b f → f.node_count ≤ b.node_room → MadeIn b (fitting f)
unfolding fitting pick
fitting_in b f l nodes = go (enough f) refl
  where
    go : (c : Bool) → enough f ≡ c → MadeIn b (pick c (Ok f) (Err (refusal no_room nobody)))
    go true e = record { lies = l; fits = enough_fits f e; nodes = nodes }
    go false e = tt

fitting_made : (text tape w : List ℕ) (f : Form) (n : Normal) → Stands text tape w f n → Makes text tape w (fitting f) (fits (enough f) >> fine n)
unfolding fitting fits needs pick ◌>>◌
fitting_made text tape w f n s = go (enough f)
  where
    go : (c : Bool) → Makes text tape w (pick c (Ok f) (Err (refusal no_room nobody))) (fits c >> fine n)
    go true = s
    go false = (refl, nobody_of text)

module _ (size t : ℕ) (f : Form) (b : Block) (c : CheckRoom size t f b) where
  tape_order : t ≤ b.order
  tape_order = omega arith

  pub order_laid : Laid size t f.parameters f.parameter_count f.visible f.visible_count b.order
  order_laid =
      record { tape = tape_order; parameters = inl (omega arith); rows = inl (omega arith); place = omega arith; room = omega arith }

  module _ (text w w' : List ℕ) (v : Verdict) (k : Checked text w w' t f.parameters f.parameter_count f.visible f.visible_count b.order v) where
    narrow : Kept b.order b.high w w'
    narrow = wider (omega arith) k.kept

    block_kept : Kept b.low b.high w w'
    block_kept = wider (omega arith) narrow

    -- 15, 10, 11
    verdict_meant : (n : Normal) → Stands text (part w 0 t) w f n → consistent n.visible [] ≡ told text v
    unfolding visible_at
    verdict_meant n s = ap (λ (u : Visible). consistent u []) (sym s.visible) ∙ sym k.verdict

    pub checked_stop : (x : Refusal) → v ≡ Err x → CheckedForm text t w f b (Err x) w'
    unfolding checked told
    checked_stop x e = record {
      kept = block_kept;
      made_in = tt;
      made = λ n s.
          makes_as text (part w' 0 t) w' (Err x) (stop x.number (culprit_of text x.culprit)) (checked n)
          (stops (consistent n.visible []) (room n >> fine n) x.number (culprit_of text x.culprit) (verdict_meant n s ∙ ap (told text) e)) (refl, refl);
    }

    -- 18
    room_meant : (n : Normal) → Stands text (part w 0 t) w f n → room n ≡ fits (enough f)
    unfolding room size visible_at enough
    room_meant n s =
        let names : length n.visible.parameters ≡ f.parameter_count =
        ap (λ (u : Visible). length u.parameters) (sym s.visible) ∙ length_slots text w f.parameters f.parameter_count in
        let items : length n.visible.items ≡ f.visible_count =
        ap (λ (u : Visible). length u.items) (sym s.visible) ∙ length_items text (part w 0 t) w f.visible f.visible_count in
        let hidden : length n.hidden.items ≡ f.hidden_count =
        ap length (sym s.hidden) ∙ length_items text (part w 0 t) w f.hidden f.hidden_count in
        rw (names, items, hidden, ← s.equation_count)

    pub checked_fine : (r : Made) → v ≡ Ok tt → r ≡ fitting f → CheckedForm text t w f b r w'
    unfolding checked told
    checked_fine r e q =
        rw q (record {
          kept = block_kept;
          made_in = fitting_in b f c.lies c.nodes;
          made = λ n s.
              makes_as text (part w' 0 t) w' (fitting f) (fits (enough f) >> fine n) (checked n)
              (goes_on (consistent n.visible []) (room n >> fine n) (verdict_meant n s ∙ ap (told text) e) ∙ ap (λ (o : Check). o >> fine n) (room_meant n s))
              (fitting_made text (part w' 0 t) w' f n (still_stands tape_order narrow (outside (omega (arith, c))) s));
        })
