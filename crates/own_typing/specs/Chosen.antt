-- What one pass over the sides of an equation means: all of them are typed, and the nodes of those that are chosen stand one behind the other.
use Rattle.std.specs.Prelude.{◌≡◌, refl, Bool, eqb, get_or, set, None}
use Rattle.std.proofs.Math.Path.{sym, ap, ap₂}
use Rattle.std.proofs.Common.{◌∙◌, add-zero, length-set, get_or-set_same}
use Rattle.std.proofs.Math.Bool.{true, false}
use Rattle.std.proofs.Math.Option.{Option, none, some}
use mathlib.Core.List.{List, [], ◌∷◌, ◌++◌, map, map-append, append_assoc}
use Prim.Native.Nat.{ℕ, zero, suc, ◌+◌, ◌<◌, ◌≤◌}
use native.Mathlib.Omega.{arith}
use borrow.Author.Tests.{lt-ltb}
use Rattle.std.proofs.Math.ListN.{length, length-append}
use Rattle.std.proofs.Math.Seq.{sets}
use Rattle.meaning.specs.Lists.{pick, each}
use Rattle.meaning.specs.OrderLaws.{Every}
use Rattle.meaning.specs.Syntax.{Sides}
use Rattle.meaning.specs.Origins.{ResolvedSides}
use Rattle.meaning.specs.Typing.{typed_sides}
use Rattle.laws.specs.EveryLaws.{every_append}
use Rattle.tape.specs.Tape.{Entry, entry}
use Rattle.tape.specs.Tape as on_tape
use Rattle.form_rows.specs.Entries.{role_at}
use Rattle.form.specs.Memory.{Kept}
use Rattle.form.specs.FormLaws.{kept_sets}
use Rattle.form.specs.Forms.{flat_sides}
use Rattle.own_finding.specs.declared.Known.{Known}
use Rattle.own_terms.specs.Typing.{Out, tape_in, items_in, Answer}
use Rattle.own_typing.specs.Equations.{Pass, passed, sides_at, begins_at, after_sides, sides_from, of_sides}
use Rattle.own_terms.specs.Meant.{Spells, spells_front, spells_back, Layout, node_here, Pointed, tape_stays, sets_kept, begins}
use Rattle.own_typing.specs.Sides.{WellSides, AgreeSides, sides_typed}

-- two sides, and the role of the entry behind them
pub record Mark : Type 0 where
  pub role : ℕ
  pub sides : Sides

unfoldable pub flat_mark : Mark → List Entry
flat_mark m = on_tape.flat_sides m.role m.sides

-- all are typed, and those that are chosen are left
unfoldable pub joined_chosen : Bool → Option ResolvedSides → Option (List ResolvedSides) → Option (List ResolvedSides)
joined_chosen t none ss = none
joined_chosen t (some s) none = none
joined_chosen t (some s) (some ss) = some (pick t (s ∷ ss) ss)

-- the words stand in memory from q on
abbrev pub Stand : ℕ → List ℕ → List ℕ → Type 0
Stand q [] w = Unit {0}
Stand q (v ∷ vs) w = (get_or w q 0 ≡ v) × Stand (suc q) vs w

-- words that stand still do where nothing from q up to q + length has changed
pub stand_stays : (vs : List ℕ) (q : ℕ) (w u : List ℕ) → ((i : ℕ) → q ≤ i → i < q + length vs → get_or u i 0 ≡ get_or w i 0) → Stand q vs w → Stand q vs u
stand_stays [] q w u h s = tt
stand_stays (v ∷ vs) q w u h s = (h q (omega arith) (omega arith) ∙ s.0, stand_stays vs (suc q) w u (λ i a b. h i (omega arith) (omega arith)) s.1)

pub stand_append : (vs us : List ℕ) (q : ℕ) (w : List ℕ) → Stand q vs w → Stand (q + length vs) us w → Stand q (vs ++ us) w
stand_append [] us q w s t = rw (add-zero q) at t
stand_append (v ∷ vs) us q w s t =
    let e : q + suc (length vs) ≡ suc q + length vs = omega arith in
    (s.0, stand_append vs us (suc q) w s.1 (rw e at t))

-- words that were stored stand there
pub stand_sets : (vs : List ℕ) (q : ℕ) (w : List ℕ) → q + length vs ≤ length w → Stand q vs (sets w q vs)
stand_sets [] q w h = tt
stand_sets (v ∷ vs) q w h =
    ((kept_sets vs (set w q v) (suc q)).below q (omega arith) ∙ get_or-set_same w q v 0 (omega arith), stand_sets vs (suc q) (set w q v) (omega (arith, length-set w q v)))

module _ (text : List ℕ) (k : Known) (w₀ : List ℕ) (role : ℕ) where
  unfoldable pub chosen : List Mark → Option (List ResolvedSides)
  chosen [] = some []
  chosen (m ∷ ms) = joined_chosen (eqb m.role role) (typed_sides (items_in text k w₀) m.sides) (chosen ms)

  -- the sides of `size` entries from i on: the chosen ones are ss, after the n that are there
  pub record Chosen (ss : List ResolvedSides) (i size q n q₀ e₀ : ℕ) (w : List ℕ) (o : Pass) : Type 0 where
    pub words : List ℕ
    pub answer : o.answer ≡ of_sides (n + length ss) (i + size) (q + length words)
    pub kept : Kept q₀ e₀ w₀ o.memory
    pub below : (j : ℕ) → j < q → get_or o.memory j 0 ≡ get_or w j 0
    pub stand : Stand q words o.memory
    pub nodes : map (node_here text k w₀) words ≡ each flat_sides ss
    pub pointed : Every (Pointed text k w₀) words
    pub room : length words ≤ size

  abbrev pub AgreeChosen : Option (List ResolvedSides) → ℕ → ℕ → ℕ → ℕ → ℕ → ℕ → List ℕ → Pass → Type 0
  AgreeChosen none i size q n q₀ e₀ w o = o.answer ≡ None
  AgreeChosen (some ss) i size q n q₀ e₀ w o = Chosen ss i size q n q₀ e₀ w o

  module _ (q₀ e₀ : ℕ) (l : Layout text k w₀ q₀ e₀) (end : ℕ) where
    wrong_still : (more : ℕ → ℕ → ℕ → List ℕ → Pass) (q n : ℕ) (r : Answer) (w : List ℕ) → r ≡ None → (after_sides k role more q n r w).answer ≡ None
    unfolding after_sides
    wrong_still more q n r w h = rw h

    -- two sides that are typed, and those behind their entry
    module _ (left i sz size q n mark : ℕ) (w : List ℕ) (kept : Kept q₀ e₀ w₀ w) (x : q₀ ≤ q) (y : q + sz ≤ e₀) (s : ResolvedSides) (o : Out)
        (h : WellSides text k w₀ s i sz q w o) where
      abbrev Later : Option (List ResolvedSides) → Type 0
      Later r =
          (p c : ℕ) (u : List ℕ) → Kept q₀ e₀ w₀ u → q ≤ p → p ≤ q + sz
          → AgreeChosen r (i + sz + 1) size p c q₀ e₀ u (sides_from text k role end left (i + sz + 1) p c u)

      keep_one : (r : Option (List ResolvedSides)) → Later r
          → AgreeChosen (joined_chosen true (some s) r) i (sz + 1 + size) q n q₀ e₀ w (sides_from text k role end left (i + sz + 1) (q + length h.words) (n + 1) (sets w q h.words))
      unfolding joined_chosen each pick
      keep_one none rest = rest (q + length h.words) (n + 1) (sets w q h.words) (sets_kept text k w₀ q₀ e₀ l w kept q h.words x (omega (arith, h.room))) (omega arith) (omega (arith, h.room))
      keep_one (some ss) rest =
          let u = sets w q h.words in
          let f = kept_sets h.words w q in
          let stays = sets_kept text k w₀ q₀ e₀ l w kept q h.words x (omega (arith, h.room)) in
          let r = rest (q + length h.words) (n + 1) u stays (omega arith) (omega (arith, h.room)) in
          let e₁ : n + 1 + length ss ≡ n + suc (length ss) = omega arith in
          let e₂ : i + sz + 1 + size ≡ i + (sz + 1 + size) = omega arith in
          let e₃ : q + length h.words + length r.words ≡ q + length (h.words ++ r.words) = omega (arith, length-append h.words r.words) in
          record {
            words = h.words ++ r.words;
            answer = r.answer ∙ (λ z. of_sides (e₁ z) (e₂ z) (e₃ z));
            kept = r.kept;
            below = λ j a. r.below j (omega arith) ∙ f.below j a;
            stand =
                stand_append h.words r.words q _
                (stand_stays h.words q u _ (λ j a b. r.below j b) (stand_sets h.words q w (omega (arith, h.room, kept.size, l.inside))))
                r.stand;
            nodes = map-append (node_here text k w₀) h.words r.words ∙ ap₂ ◌++◌ h.nodes r.nodes;
            pointed = every_append (Pointed text k w₀) h.words r.words h.pointed r.pointed;
            room = omega (arith, length-append h.words r.words, h.room, r.room);
          }

      drop_one : (r : Option (List ResolvedSides)) → Later r
          → AgreeChosen (joined_chosen false (some s) r) i (sz + 1 + size) q n q₀ e₀ w (sides_from text k role end left (i + sz + 1) q n (sets w q h.words))
      unfolding joined_chosen pick
      drop_one none rest = rest q n (sets w q h.words) (sets_kept text k w₀ q₀ e₀ l w kept q h.words x (omega (arith, h.room))) (omega arith) (omega arith)
      drop_one (some ss) rest =
          let f = kept_sets h.words w q in
          let r = rest q n (sets w q h.words) (sets_kept text k w₀ q₀ e₀ l w kept q h.words x (omega (arith, h.room))) (omega arith) (omega arith) in
          let e₂ : i + sz + 1 + size ≡ i + (sz + 1 + size) = omega arith in
          record {
            words = r.words;
            answer = r.answer ∙ (λ z. of_sides (n + length ss) (e₂ z) (q + length r.words));
            kept = r.kept;
            below = λ j a. r.below j a ∙ f.below j a;
            stand = r.stand;
            nodes = r.nodes;
            pointed = r.pointed;
            room = omega (arith, r.room);
          }

      step_one : (r : Option (List ResolvedSides)) → Later r → i + sz < k.tape → role_at (tape_in k w₀) (i + sz) ≡ mark
          → AgreeChosen (joined_chosen (eqb mark role) (some s) r) i (sz + 1 + size) q n q₀ e₀ w
          (after_sides k role (sides_from text k role end left) q n o.answer o.memory)
      unfolding after_sides pick
      step_one r rest a e =
          let stays = sets_kept text k w₀ q₀ e₀ l w kept q h.words x (omega (arith, h.room)) in
          rw (h.same, lt-ltb (i + sz) k.tape a, tape_stays text k w₀ q₀ e₀ l (sets w q h.words) stays, e) (go (eqb mark role))
        where
          go : (t : Bool)
              → AgreeChosen (joined_chosen t (some s) r) i (sz + 1 + size) q n q₀ e₀ w
              (pick t (sides_from text k role end left (i + sz + 1) (q + length h.words) (n + 1) (sets w q h.words)) (sides_from text k role end left (i + sz + 1) q n (sets w q h.words)))
          go true = keep_one r rest
          go false = drop_one r rest

    -- ---- the pass over all sides

    mark_split : (m : Mark) (es : List Entry)
        → flat_mark m ++ es ≡ (on_tape.flat_term m.sides.left ++ on_tape.flat_term m.sides.right) ++ (entry m.role [] ∷ es)
    unfolding flat_mark on_tape.flat_sides
    mark_split m es =
        let a = on_tape.flat_term m.sides.left in
        let b = on_tape.flat_term m.sides.right in
        append_assoc a (b ++ (entry m.role [] ∷ [])) es ∙ ap (λ (r : List Entry). a ++ r) (append_assoc b (entry m.role [] ∷ []) es) ∙ sym (append_assoc a b (entry m.role [] ∷ es))

    pub mark_size : (m : Mark) (es : List Entry)
        → length (flat_mark m ++ es) ≡ length (on_tape.flat_term m.sides.left) + length (on_tape.flat_term m.sides.right) + 1 + length es
    mark_size m es =
        let a = on_tape.flat_term m.sides.left in
        let b = on_tape.flat_term m.sides.right in
        ap length (mark_split m es) ∙ omega (arith, length-append (a ++ b) (entry m.role [] ∷ es), length-append a b)

    goes : (left i q n : ℕ) (w : List ℕ) → begins_at (tape_in k w) i end ≡ true
        → sides_from text k role end (suc left) i q n w ≡ after_sides k role (sides_from text k role end left) q n (sides_at text k i q w).answer (sides_at text k i q w).memory
    unfolding sides_from pick
    goes left i q n w h = rw h

    ends : (left i q n : ℕ) (w : List ℕ) → begins_at (tape_in k w) i end ≡ false → sides_from text k role end (suc left) i q n w ≡ passed (of_sides n i q) w
    unfolding sides_from pick
    ends left i q n w h = rw h

    begins_here : (m : Mark) (es : List Entry) (i : ℕ) → Spells text k w₀ i (flat_mark m ++ es) → i < end → begins_at (tape_in k w₀) i end ≡ true
    unfolding begins_at flat_mark on_tape.flat_sides pick
    begins_here m es i s h =
        let b = begins m.sides.left in
        let s' = rw b.same at s in
        rw (lt-ltb i end h, s'.1) b.opens

    first_step : (a : Option ResolvedSides) (r : Option (List ResolvedSides)) (left i sz size q n mark : ℕ) (w : List ℕ) → Kept q₀ e₀ w₀ w → q₀ ≤ q → q + sz ≤ e₀
        → AgreeSides text k w₀ a i sz q w (sides_at text k i q w) → i + sz < k.tape → role_at (tape_in k w₀) (i + sz) ≡ mark
        → ((p c : ℕ) (u : List ℕ) → Kept q₀ e₀ w₀ u → q ≤ p → p ≤ q + sz → AgreeChosen r (i + sz + 1) size p c q₀ e₀ u (sides_from text k role end left (i + sz + 1) p c u))
        → AgreeChosen (joined_chosen (eqb mark role) a r) i (sz + 1 + size) q n q₀ e₀ w
        (after_sides k role (sides_from text k role end left) q n (sides_at text k i q w).answer (sides_at text k i q w).memory)
    unfolding joined_chosen
    first_step none r left i sz size q n mark w kept x y h a e rest =
        wrong_still (sides_from text k role end left) q n (sides_at text k i q w).answer (sides_at text k i q w).memory h
    first_step (some s) r left i sz size q n mark w kept x y h a e rest =
        step_one left i sz size q n mark w kept x y s (sides_at text k i q w) h r rest a e

    pub pass_typed : (ms : List Mark) (left i q n : ℕ) (w : List ℕ) → length ms < left → i ≤ k.tape → Spells text k w₀ i (each flat_mark ms) → Kept q₀ e₀ w₀ w
        → q₀ ≤ q → q + length (each flat_mark ms) ≤ e₀ → i + length (each flat_mark ms) ≤ end → begins_at (tape_in k w₀) (i + length (each flat_mark ms)) end ≡ false
        → AgreeChosen (chosen ms) i (length (each flat_mark ms)) q n q₀ e₀ w (sides_from text k role end left i q n w)
    unfolding each chosen
    pass_typed [] zero i q n w h g s kept x y z e = absurd (omega arith)
    pass_typed [] (suc left) i q n w h g s kept x y z e =
        let f : begins_at (tape_in k w) i end ≡ false = rw (tape_stays text k w₀ q₀ e₀ l w kept) (rw (add-zero i) at e) in
        rw (ends left i q n w f)
        (record {
          words = [];
          answer = λ j. of_sides (sym (add-zero n) j) (sym (add-zero i) j) (sym (add-zero q) j);
          kept = kept;
          below = λ j a. refl;
          stand = tt;
          nodes = refl;
          pointed = tt;
          room = omega arith;
        })
    pass_typed (m ∷ ms) zero i q n w h g s kept x y z e = absurd (omega arith)
    pass_typed (m ∷ ms) (suc left) i q n w h g s kept x y z e =
        let a = on_tape.flat_term m.sides.left in
        let b = on_tape.flat_term m.sides.right in
        let es = each flat_mark ms in
        let c = length-append a b in
        let d = mark_size m es in
        let t = rw (mark_split m es) at s in
        let front = spells_front text k w₀ (a ++ b) (entry m.role [] ∷ es) i t in
        let back = rw c at (spells_back text k w₀ (a ++ b) (entry m.role [] ∷ es) i t) in
        let v : i + (length a + length b) + 1 ≡ suc (i + (length a + length b)) = omega arith in
        let u : i + (length a + length b + 1 + length es) ≡ i + (length a + length b) + 1 + length es = omega arith in
        let f : begins_at (tape_in k w) i end ≡ true = rw (tape_stays text k w₀ q₀ e₀ l w kept) (begins_here m es i s (omega (arith, d, z))) in
        rw (goes left i q n w f, d)
        (first_step (typed_sides (items_in text k w₀) m.sides) (chosen ms) left i (length a + length b) (length es) q n m.role w kept x (omega (arith, d, y))
        (sides_typed text k w₀ q₀ e₀ l m.sides i q w g front kept x (omega (arith, d, y)))
        back.0
        back.1
        (λ p c' w' kept' x' y'.
        pass_typed ms left (i + (length a + length b) + 1) p c' w' (omega arith) (rw v back.0) (rw v back.3) kept' (omega arith) (omega (arith, d, y)) (omega (arith, d, z))
        (rw u at (rw d at e))))
