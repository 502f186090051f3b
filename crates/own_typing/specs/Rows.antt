-- What the equations of a module typed in memory mean: the first that the meaning refuses is told by its tag; and else each has its row,
-- and its nodes stand where the row says.
use Rattle.std.specs.Prelude.{◌≡◌, Bool, true, false, ℕ, suc, ◌+◌, ◌-◌, ◌*◌, ◌<◌, ◌≤◌, ltb, get_or, None}
use Rattle.std.proofs.Math.Path.{refl, sym, ap, subst}
use Rattle.std.proofs.Common.{◌∙◌, lt-ltb, ltb-true, ltb-false}
use Rattle.std.proofs.Math.Option.{Option, none, some}
use mathlib.Core.List.{List, [], ◌∷◌, map}
use native.Mathlib.Omega.{arith}
use Rattle.std.proofs.Math.ListN.{length}
use Rattle.std.proofs.lemmas.List.{length-map}
use Rattle.std.proofs.lemmas.List.Edits.{sets}
use Rattle.meaning.specs.Lists.{pick}
use Rattle.meaning.specs.Syntax.{Equation, conditions_of}
use Rattle.meaning.specs.Origins.{ResolvedSides, ResolvedEquation}
use Rattle.meaning.specs.OrderLaws.{Every}
use Rattle.meaning.specs.Checks.{Outcome, fine, stop, equation_nodes}
use Rattle.meaning.specs.Typing.{typed_sides, typed_conditions, made_equation}
use Rattle.meaning.specs.Names.{Name}
use Rattle.text_names.specs.Word.{name_of}
use Rattle.form_rows.specs.Entries.{word_at, name_at}
use Rattle.form.specs.Memory.{Kept}
use Rattle.form.specs.FormLaws.{kept_sets}
use Rattle.form.specs.Forms.{flat_equation, equation_words, equation_size}
use Rattle.form.specs.FlatMoves.{equation_count}
use Rattle.own_finding.specs.declared.Known.{Known}
use Rattle.own_typing.specs.declared.Module.{Module}
use Rattle.own_terms.specs.Typing.{tape_in, items_in}
use Rattle.own_typing.specs.Equations.{Pass, begins_at, equation_at, span, row_of, stored, after_equation, turn_at, Passed, of_sides}
use Rattle.own_terms.specs.Meant.{Spells, Layout, node_here, Pointed, tape_stays, sets_kept}
use Rattle.own_typing.specs.Chosen.{Stand, stand_stays, stand_sets}
use Rattle.own_typing.specs.Equated.{WellEquation, AgreeEquation, equation_entries, equation_typed}
use Rattle.tape.specs.Tape as on_tape

-- each of the words that stand from q on
stand_every : (P : ℕ → Type 0) (vs : List ℕ) (q : ℕ) (w : List ℕ) → Stand q vs w → Every P vs → (j : ℕ) → q ≤ j → j < q + length vs → P (get_or w j 0)
stand_every P [] q w s h j a b = absurd (omega arith)
stand_every P (v ∷ vs) q w s h j a b = go (ltb q j) refl (λ c. stand_every P vs (suc q) w s.1 h.1 j c (omega arith))
  where
    go : (t : Bool) → ltb q j ≡ t → (q < j → P (get_or w j 0)) → P (get_or w j 0)
    go true e more = more (ltb-true q j e)
    go false e more = let z : j ≡ q = omega (arith, a, ltb-false q j e) in rw (z, s.0) h.0

module _ (text : List ℕ) (k : Known) (w₀ : List ℕ) (m : Module) where
  -- the row at b is that of the equation r, and its words stand among the nodes, which go up to `end`
  pub record RowStands (r : ResolvedEquation) (b end : ℕ) (w : List ℕ) : Type 0 where
    pub tag : ℕ
    pub start : ℕ
    pub words : List ℕ
    pub row : Stand b (r.module_number ∷ r.position ∷ tag ∷ length r.conditions ∷ start ∷ length words ∷ []) w
    pub tagged : name_of text tag ≡ r.tag
    pub stand : Stand (m.nodes + start) words w
    pub nodes : map (node_here text k w₀) words ≡ flat_equation r
    pub pointed : Every (Pointed text k w₀) words
    pub within : m.nodes + start + length words ≤ end

  -- a turn of the loop leaves the equation's row and nodes, and all below its row as it was
  pub record WellTurn (r : ResolvedEquation) (position i size q q₀ e₀ : ℕ) (w : List ℕ) (o : Pass) : Type 0 where
    pub free : ℕ
    pub answer : o.answer ≡ of_sides (length r.conditions) (i + size) free
    pub kept : Kept q₀ e₀ w₀ o.memory
    pub counted : free ≡ q + equation_nodes r
    pub room : free ≤ q + (size + size)
    pub row : RowStands r (m.rows + position * equation_size) free o.memory
    pub pointed : (j : ℕ) → q ≤ j → j < free → Pointed text k w₀ (get_or o.memory j 0)
    pub tape : tape_in k o.memory ≡ tape_in k w₀
    pub below : (j : ℕ) → j < m.rows + position * equation_size → get_or o.memory j 0 ≡ get_or w j 0
    pub between : (j : ℕ) → m.rows + position * equation_size + 6 ≤ j → j < q → get_or o.memory j 0 ≡ get_or w j 0

  abbrev pub AgreeTurn : Outcome ResolvedEquation → ℕ → ℕ → ℕ → ℕ → ℕ → ℕ → List ℕ → Pass → Type 0
  AgreeTurn (stop number culprit) position i size q q₀ e₀ w o = o.answer ≡ None
  AgreeTurn (fine r) position i size q q₀ e₀ w o = WellTurn r position i size q q₀ e₀ w o

  -- an equation has as many words as nodes
  sized : (vs : List ℕ) (r : ResolvedEquation) → map (node_here text k w₀) vs ≡ flat_equation r → length vs ≡ equation_nodes r
  sized vs r e = sym (length-map vs (node_here text k w₀)) ∙ ap length e ∙ equation_count r

  pub span_is : (a b : ℕ) → a - b < 4294967295 → span a b ≡ a - b
  unfolding span pick
  span_is a b h = rw (lt-ltb (a - b) 4294967295 h)

  module _ (q₀ e₀ : ℕ) (l : Layout text k w₀ q₀ e₀) (size_of_memory : e₀ < 4294967295) where
    wrong_turn : (position i q : ℕ) (r : Passed) (w : List ℕ) → r ≡ None → (after_equation k m position i q r w).answer ≡ None
    unfolding after_equation
    wrong_turn position i q r w h = rw h

    -- rows stand in front of the nodes
    stored_turn : (r : ResolvedEquation) (position i size q : ℕ) (w : List ℕ) (o : Pass) → WellEquation text k w₀ r i size q q₀ e₀ w o → q₀ ≤ m.rows
        → m.rows + position * equation_size + 6 ≤ m.nodes → m.nodes ≤ q → q + (size + size) ≤ e₀ → r.module_number ≡ m.home → r.position ≡ position → name_at text (tape_in k w₀) i ≡ r.tag
        → WellTurn r position i size q q₀ e₀ w (after_equation k m position i q o.answer o.memory)
    unfolding after_equation stored equation_words row_of
    stored_turn r position i size q w o h x y z v e f g =
        let b = m.rows + position * equation_size in
        let u = o.memory in
        let s₁ : span q m.nodes ≡ q - m.nodes = span_is q m.nodes (omega (arith, size_of_memory)) in
        let s₂ : span (q + length h.words) q ≡ length h.words = span_is (q + length h.words) q (omega (arith, h.room, size_of_memory)) ∙ omega arith in
        let tag = word_at (tape_in k u) i in
        let vs = m.home ∷ position ∷ tag ∷ length r.conditions ∷ span q m.nodes ∷ span (q + length h.words) q ∷ [] in
        let wanted : vs ≡ (r.module_number ∷ r.position ∷ tag ∷ length r.conditions ∷ (q - m.nodes) ∷ length h.words ∷ []) = λ z. sym e z ∷ sym f z ∷ tag ∷ length r.conditions ∷ s₁ z ∷ s₂ z ∷ [] in
        let fr = kept_sets vs u b in
        let there : m.nodes + (q - m.nodes) ≡ q = omega arith in
        let stands = stand_stays h.words q u (sets u b vs) (λ j a d. fr.above j (omega arith)) h.stand in
        rw h.answer
        (record {
          free = q + length h.words;
          answer = refl;
          kept = sets_kept text k w₀ q₀ e₀ l u h.kept b vs (omega arith) (omega (arith, h.room));
          counted = rw (sized h.words r h.nodes);
          room = omega (arith, h.room);
          row = record {
            tag = tag;
            start = q - m.nodes;
            words = h.words;
            row = subst (λ (xs : List ℕ). Stand b xs (sets u b vs)) wanted (stand_sets vs b u (omega (arith, h.kept.size, l.inside)));
            tagged = ap (λ (t : List ℕ). name_at text t i) (tape_stays text k w₀ q₀ e₀ l u h.kept) ∙ g;
            stand = rw there stands;
            nodes = h.nodes;
            pointed = h.pointed;
            within = omega arith;
          };
          pointed = λ j a d. stand_every (Pointed text k w₀) h.words q (sets u b vs) stands h.pointed j a d;
          tape = tape_stays text k w₀ q₀ e₀ l (sets u b vs) (sets_kept text k w₀ q₀ e₀ l u h.kept b vs (omega arith) (omega (arith, h.room)));
          below = λ j a. fr.below j a ∙ h.below j (omega arith);
          between = λ j a d. fr.above j (omega arith) ∙ h.below j d;
        })

    turn_made : (c : Option ResolvedSides) (ks : Option (List ResolvedSides)) (tag : Name) (position i size q : ℕ) (w : List ℕ) (o : Pass)
        → AgreeEquation text k w₀ (made_equation m.home position tag c ks) i size q q₀ e₀ w o → q₀ ≤ m.rows → m.rows + position * equation_size + 6 ≤ m.nodes → m.nodes ≤ q
        → q + (size + size) ≤ e₀ → name_at text (tape_in k w₀) i ≡ tag
        → AgreeTurn (made_equation m.home position tag c ks) position i size q q₀ e₀ w (after_equation k m position i q o.answer o.memory)
    unfolding made_equation
    turn_made none ks tag position i size q w o h x y z v g = wrong_turn position i q o.answer o.memory h
    turn_made (some c) none tag position i size q w o h x y z v g = wrong_turn position i q o.answer o.memory h
    turn_made (some c) (some ks) tag position i size q w o h x y z v g =
        stored_turn (record { module_number = m.home; position = position; tag = tag; conclusion = c; conditions = ks }) position i size q w o h x y z v refl refl g

    -- one turn of the loop over a module's equations
    pub turn_typed : (e : Equation) (position i q : ℕ) (w : List ℕ) → i < k.tape → Spells text k w₀ i (on_tape.flat_equation e) → Kept q₀ e₀ w₀ w
        → q₀ ≤ m.rows → m.rows + position * equation_size + 6 ≤ m.nodes → m.nodes ≤ q
        → q + (length (on_tape.flat_equation e) + length (on_tape.flat_equation e)) ≤ e₀ → i + length (on_tape.flat_equation e) ≤ m.end
        → begins_at (tape_in k w₀) (i + length (on_tape.flat_equation e)) m.end ≡ false
        → AgreeTurn (made_equation m.home position e.tag (typed_sides (items_in text k w₀) e.conclusion) (typed_conditions (items_in text k w₀) (conditions_of e)))
        position i (length (on_tape.flat_equation e)) q q₀ e₀ w (turn_at text k m position i q w)
    unfolding turn_at
    turn_typed e position i q w h s kept x y z v a f =
        turn_made (typed_sides (items_in text k w₀) e.conclusion) (typed_conditions (items_in text k w₀) (conditions_of e)) e.tag position i
        (length (on_tape.flat_equation e)) q w (equation_at text k m.end i q w)
        (equation_typed text k w₀ q₀ e₀ l m.end m.home position e i q w h s kept (omega arith) v a f) x y z v
        (rw (equation_entries e) at s).2
