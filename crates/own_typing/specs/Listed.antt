-- What all equations of a module typed in memory mean: the outcome is that of the meaning, and each equation has its row.
use Rattle.std.specs.Prelude.{◌≡◌, Bool, true, false, ltb, get_or, Err}
use Rattle.std.proofs.Math.Path.{refl, sym, ap}
use Rattle.std.proofs.Common.{◌∙◌, add-zero, arith, lt-ltb, le-ltb, ltb-true, ltb-false}
use Rattle.std.proofs.Math.Option.{Option, none, some}
use mathlib.Core.List.{List, [], ◌∷◌}
use Prim.Native.Nat.{ℕ, zero, suc, ◌+◌, ◌*◌, ◌<◌, ◌≤◌}
use Rattle.std.proofs.Math.ListN.{length, length-append}
use Rattle.meaning.specs.Lists.{pick, each, sum}
use Rattle.meaning.specs.Names.{Name}
use Rattle.meaning.specs.Numbers.{ill_typed}
use Rattle.meaning.specs.Syntax.{Equation, conditions_of}
use Rattle.meaning.specs.Origins.{ResolvedSides, ResolvedEquation}
use Rattle.meaning.specs.Checks.{Culprit, lone, Outcome, fine, stop, ◌>>=◌, equation_nodes}
use Rattle.meaning.specs.Typing.{typed_sides, typed_conditions, made_equation, typed_equations}
use Rattle.text_names.specs.Word.{name_of}
use Rattle.tape.specs.Tape as on_tape
use Rattle.form_rows.specs.Entries.{word_at, name_at}
use Rattle.form.specs.Memory.{Kept}
use Rattle.form.specs.Forms.{equation_size}
use Rattle.own_finding.specs.declared.Known.{Known}
use Rattle.own_typing.specs.declared.Module.{Module}
use Rattle.own_terms.specs.Typing.{tape_in, items_in, is_opening}
use Rattle.own_typing.specs.Equations.{Pass, begins_at, turn_at, Told, told, after_turn, equations_from, of_equations}
use Rattle.own_terms.specs.Meant.{Spells, spells_front, spells_back, Layout, Pointed, tape_stays}
use Rattle.own_typing.specs.Chosen.{stand_stays}
use Rattle.own_typing.specs.Equated.{equation_entries}
use Rattle.own_typing.specs.Rows.{RowStands, AgreeTurn, turn_typed}

module _ (text : List ℕ) (k : Known) (w₀ : List ℕ) (m : Module) where
  -- the rows from a position on are those of the equations
  abbrev pub RowsStand : List ResolvedEquation → ℕ → ℕ → List ℕ → Type 0
  RowsStand [] position end w = Unit {0}
  RowsStand (r ∷ rs) position end w = RowStands text k w₀ m r (m.rows + position * equation_size) end w × RowsStand rs (position + 1) end w

  pub record AllTyped (rs : List ResolvedEquation) (position q q₀ e₀ : ℕ) (w : List ℕ) (o : Told) : Type 0 where
    pub free : ℕ
    pub answer : o.answer ≡ of_equations (position + length rs) free
    pub kept : Kept q₀ e₀ w₀ o.memory
    pub rows : RowsStand rs position free o.memory
    pub counted : free ≡ q + sum equation_nodes rs
    pub inside : free ≤ e₀
    pub pointed : (j : ℕ) → q ≤ j → j < free → Pointed text k w₀ (get_or o.memory j 0)
    pub below : (j : ℕ) → j < m.rows + position * equation_size → get_or o.memory j 0 ≡ get_or w j 0
    pub stays : (j : ℕ) → m.nodes ≤ j → j < q → get_or o.memory j 0 ≡ get_or w j 0

  -- the tag of the first that is ill typed
  pub record Stopped (number : ℕ) (culprit : Culprit) (o : Told) : Type 0 where
    pub tag : ℕ
    pub answer : o.answer ≡ Err tag
    pub numbered : number ≡ ill_typed
    pub named : lone (name_of text tag) ≡ culprit

  abbrev pub AgreeAll : Outcome (List ResolvedEquation) → ℕ → ℕ → ℕ → ℕ → List ℕ → Told → Type 0
  AgreeAll (stop number culprit) position q q₀ e₀ w o = Stopped number culprit o
  AgreeAll (fine rs) position q q₀ e₀ w o = AllTyped rs position q q₀ e₀ w o

  -- a row and its nodes stay where later ones are written behind them
  row_stays : (r : ResolvedEquation) (b free end : ℕ) (w u : List ℕ) → RowStands text k w₀ m r b free w → free ≤ end
      → ((j : ℕ) → j < b + 6 → get_or u j 0 ≡ get_or w j 0) → ((j : ℕ) → m.nodes ≤ j → j < free → get_or u j 0 ≡ get_or w j 0) → RowStands text k w₀ m r b end u
  row_stays r b free end w u s h x y = record {
    tag = s.tag;
    start = s.start;
    words = s.words;
    row = stand_stays (r.module_number ∷ r.position ∷ s.tag ∷ length r.conditions ∷ s.start ∷ length s.words ∷ []) b w u (λ j a c. x j c) s.row;
    tagged = s.tagged;
    stand = stand_stays s.words (m.nodes + s.start) w u (λ j a c. y j (omega arith) (omega (arith, s.within))) s.stand;
    nodes = s.nodes;
    pointed = s.pointed;
    within = omega (arith, s.within);
  }

  module _ (q₀ e₀ : ℕ) (l : Layout text k w₀ q₀ e₀) (size_of_memory : e₀ < 4294967295) where
    -- an equation and those behind it
    one_more : (c : Option ResolvedSides) (ks : Option (List ResolvedSides)) (name : Name) (rest : Outcome (List ResolvedEquation)) (left position i size q tag : ℕ) (w : List ℕ) (o : Pass)
        → AgreeTurn text k w₀ m (made_equation m.home position name c ks) position i size q q₀ e₀ w o → m.rows + position * equation_size + 6 ≤ m.nodes → m.nodes ≤ q → name_of text tag ≡ name
        → ((free : ℕ) (u : List ℕ) → Kept q₀ e₀ w₀ u → q ≤ free → free ≤ q + (size + size)
        → AgreeAll rest (position + 1) free q₀ e₀ u (equations_from text k m left (position + 1) (i + size) free u))
        → AgreeAll (made_equation m.home position name c ks >>= (λ x. rest >>= (λ xs. fine (x ∷ xs)))) position q q₀ e₀ w
        (after_turn (equations_from text k m left) position tag o.answer o.memory)
    unfolding made_equation after_turn ◌>>=◌ sum
    one_more none ks name rest left position i size q tag w o h y x e more = rw h (record { tag = tag; answer = refl; numbered = refl; named = ap lone e })
    one_more (some c) none name rest left position i size q tag w o h y x e more = rw h (record { tag = tag; answer = refl; numbered = refl; named = ap lone e })
    one_more (some c) (some ks) name rest left position i size q tag w o h y x e more = rw h.answer (go rest (more h.free o.memory h.kept (omega (arith, h.counted)) h.room))
      where
        r : ResolvedEquation
        r = record { module_number = m.home; position = position; tag = name; conclusion = c; conditions = ks }

        go : (rest : Outcome (List ResolvedEquation)) → AgreeAll rest (position + 1) h.free q₀ e₀ o.memory (equations_from text k m left (position + 1) (i + size) h.free o.memory)
            → AgreeAll (rest >>= (λ xs. fine (r ∷ xs))) position q q₀ e₀ w (equations_from text k m left (position + 1) (i + size) h.free o.memory)
        go (stop number culprit) a = a
        go (fine rs) a =
            let s : position + 1 + length rs ≡ position + suc (length rs) = omega arith in
            record {
              free = a.free;
              answer = a.answer ∙ ap (λ (n : ℕ). of_equations n a.free) s;
              kept = a.kept;
              rows = (row_stays r (m.rows + position * equation_size) h.free a.free o.memory _ h.row (omega (arith, a.counted)) (λ j b. a.below j (omega arith)) a.stays, a.rows);
              counted = omega (arith, a.counted, h.counted);
              inside = a.inside;
              pointed = λ j b d. by_place j b d (ltb j h.free) refl;
              below = λ j b. a.below j (omega arith) ∙ h.below j b;
              stays = λ j b d. a.stays j b (omega (arith, h.counted)) ∙ h.between j (omega arith) d;
            }
          where
            by_place : (j : ℕ) → q ≤ j → j < a.free → (t : Bool) → ltb j h.free ≡ t
                → Pointed text k w₀ (get_or (equations_from text k m left (position + 1) (i + size) h.free o.memory).memory j 0)
            by_place j b d true e = let z = ltb-true j h.free e in rw (a.stays j (omega arith) z) (h.pointed j b z)
            by_place j b d false e = a.pointed j (ltb-false j h.free e) d

    all_done : (left position i q : ℕ) (w : List ℕ) → m.end ≤ i → equations_from text k m (suc left) position i q w ≡ told (of_equations position q) w
    unfolding equations_from pick
    all_done left position i q w h = rw (le-ltb i m.end h)

    all_more : (left position i q : ℕ) (w : List ℕ) → i < m.end
        → equations_from text k m (suc left) position i q w
        ≡ after_turn (equations_from text k m left) position (word_at (tape_in k w) i) (turn_at text k m position i q w).answer (turn_at text k m position i q w).memory
    unfolding equations_from pick
    all_more left position i q w h = rw (lt-ltb i m.end h)

    -- behind an equation stands the next one's tag, or the end
    quiet : (es : List Equation) (i : ℕ) → Spells text k w₀ i (each on_tape.flat_equation es) → i + length (each on_tape.flat_equation es) ≡ m.end
        → begins_at (tape_in k w₀) i m.end ≡ false
    unfolding each begins_at is_opening pick
    quiet [] i s h = rw (le-ltb i m.end (omega arith))
    quiet (e ∷ es) i s h =
        let t = rw (equation_entries e) at s in
        let d = length-append (on_tape.flat_equation e) (each on_tape.flat_equation es) in
        let c = ap length (equation_entries e) in
        rw (lt-ltb i m.end (omega (arith, d, c)), t.1)

    pub equations_typed : (es : List Equation) (left position i q : ℕ) (w : List ℕ) → length es < left → Spells text k w₀ i (each on_tape.flat_equation es) → Kept q₀ e₀ w₀ w
        → q₀ ≤ m.rows → m.rows + (position + length es) * equation_size ≤ m.nodes → m.nodes ≤ q
        → q + (length (each on_tape.flat_equation es) + length (each on_tape.flat_equation es)) ≤ e₀ → i + length (each on_tape.flat_equation es) ≡ m.end → m.end ≤ k.tape
        → AgreeAll (typed_equations (items_in text k w₀) m.home position es) position q q₀ e₀ w (equations_from text k m left position i q w)
    unfolding each typed_equations sum
    equations_typed [] zero position i q w h s kept x y z v a b = absurd (omega arith)
    equations_typed [] (suc left) position i q w h s kept x y z v a b =
        rw (all_done left position i q w (omega arith))
        (record { free = q; answer = ap (λ (n : ℕ). of_equations n q) (sym (add-zero position)); kept = kept; rows = tt; counted = sym (add-zero q); inside = omega arith; pointed = λ j c d. absurd (omega arith); below = λ j c. refl; stays = λ j c d. refl })
    equations_typed (e ∷ es) zero position i q w h s kept x y z v a b = absurd (omega arith)
    equations_typed (e ∷ es) (suc left) position i q w h s kept x y z v a b =
        let f = on_tape.flat_equation e in
        let g = each on_tape.flat_equation es in
        let d = length-append f g in
        let c = ap length (equation_entries e) in
        let front = spells_front text k w₀ f g i s in
        let back = spells_back text k w₀ f g i s in
        let t = rw (equation_entries e) at front in
        let tag : name_of text (word_at (tape_in k w) i) ≡ e.tag = ap (λ (u : List ℕ). name_at text u i) (tape_stays text k w₀ q₀ e₀ l w kept) ∙ t.2 in
        rw (all_more left position i q w (omega (arith, d, c, a)))
        (one_more (typed_sides (items_in text k w₀) e.conclusion) (typed_conditions (items_in text k w₀) (conditions_of e)) e.tag
        (typed_equations (items_in text k w₀) m.home (position + 1) es) left position i (length f) q (word_at (tape_in k w) i) w (turn_at text k m position i q w)
        (turn_typed text k w₀ m q₀ e₀ l size_of_memory e position i q w t.0 front kept x (omega (arith, y)) z (omega (arith, d, v)) (omega (arith, d, a)) (quiet es (i + length f) back (omega (arith, d, a))))
        (omega (arith, y))
        z
        tag
        (λ free u stays lo hi.
        equations_typed es left (position + 1) (i + length f) free u (omega (arith, h)) back stays x (omega (arith, y)) (omega (arith, z, lo)) (omega (arith, d, v, hi)) (omega (arith, d, a)) b))
