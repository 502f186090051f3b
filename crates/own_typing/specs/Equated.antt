-- What an equation typed in memory means: where the entries spell it, it is wrong where the meaning refuses it, and else its nodes stand
-- in memory, the conclusion's and then the conditions'.
use Rattle.std.specs.Prelude.{◌≡◌, Bool, eqb, get_or, None}
use Rattle.std.proofs.Math.Path.{refl, ap, ap₂}
use Rattle.std.proofs.Common.{sym, ◌∙◌}
use Rattle.std.proofs.Math.Bool.{true, false}
use Rattle.std.proofs.Math.Option.{Option, none, some}
use mathlib.Core.List.{List, [], ◌∷◌, ◌++◌, map, map-append, append-nil}
use Prim.Native.Nat.{ℕ, suc, ◌+◌, ◌<◌, ◌≤◌}
use native.Mathlib.Omega.{arith}
use Rattle.std.proofs.Math.ListN.{length, length-append}
use Rattle.meaning.specs.Lists.{pick, each}
use Rattle.meaning.specs.OrderLaws.{Every}
use Rattle.meaning.specs.Names.{Name}
use Rattle.meaning.specs.Syntax.{Sides, Equation, conditions_of}
use Rattle.meaning.specs.Origins.{ResolvedSides, ResolvedEquation, Item}
use Rattle.meaning.specs.Checks.{Outcome, fine, stop}
use Rattle.meaning.specs.Typing.{typed_sides, typed_conditions, joined_sides, made_equation}
use Rattle.laws.specs.EveryLaws.{every_append}
use Rattle.tape.specs.Tape.{Entry, entry, tag_role, condition_role, conclusion_role}
use Rattle.form.specs.Memory.{Kept}
use Rattle.form.specs.Forms.{flat_sides, flat_equation}
use Rattle.form_walks.specs.Lists.{each_append}
use Rattle.own_finding.specs.declared.Known.{Known}
use Rattle.own_terms.specs.Typing.{tape_in, items_in}
use Rattle.own_typing.specs.Equations.{Pass, begins_at, sides_from, after_conclusion, equation_at, of_sides}
use Rattle.own_terms.specs.Meant.{Spells, Layout, node_here, Pointed}
use Rattle.own_typing.specs.Sides.{spells_size}
use Rattle.own_typing.specs.Chosen.{Mark, flat_mark, mark_size, joined_chosen, Stand, stand_stays, stand_append, chosen, Chosen, AgreeChosen, pass_typed}
use Rattle.tape.specs.Tape as on_tape

-- ---- the entries of an equation

abbrev marked : ℕ → Sides → Mark
marked role s = record { role = role; sides = s }

-- the sides of an equation in text order
abbrev pub marks_of : Equation → List Mark
marks_of e = map (marked condition_role) e.before ++ (marked conclusion_role e.conclusion ∷ map (marked condition_role) e.after)

each_marked : (ss : List Sides) → each flat_mark (map (marked condition_role) ss) ≡ each (on_tape.flat_sides condition_role) ss
unfolding each flat_mark
each_marked [] = refl
each_marked (s ∷ ss) = ap (λ (r : List Entry). on_tape.flat_sides condition_role s ++ r) (each_marked ss)

pub equation_entries : (e : Equation) → on_tape.flat_equation e ≡ entry tag_role e.tag ∷ each flat_mark (marks_of e)
unfolding on_tape.flat_equation each flat_mark
equation_entries e =
    ap (λ (r : List Entry). entry tag_role e.tag ∷ r)
    (sym
    (each_append flat_mark (map (marked condition_role) e.before) (marked conclusion_role e.conclusion ∷ map (marked condition_role) e.after)
    ∙ ap₂ (λ (a b : List Entry). a ++ (on_tape.flat_sides conclusion_role e.conclusion ++ b)) (each_marked e.before) (each_marked e.after)))

-- ---- what is chosen of them

-- conditions in front of what is chosen: they are chosen too, or are only typed
put : Bool → Option (List ResolvedSides) → Option (List ResolvedSides) → Option (List ResolvedSides)
put t none r = none
put false (some b) r = r
put true (some b) none = none
put true (some b) (some r) = some (b ++ r)

put_none : (t : Bool) (r : Option (List ResolvedSides)) → r ≡ put t (some []) r
unfolding put
put_none false r = refl
put_none true none = refl
put_none true (some r) = refl

module _ (text : List ℕ) (k : Known) (w₀ : List ℕ) where
  abbrev known : List Item
  known = items_in text k w₀

  chosen_behind : (role : ℕ) (t : Bool) → eqb condition_role role ≡ t → (ss : List Sides) (ms : List Mark)
      → chosen text k w₀ role (map (marked condition_role) ss ++ ms) ≡ put t (typed_conditions known ss) (chosen text k w₀ role ms)
  unfolding chosen typed_conditions put joined_chosen joined_sides pick
  chosen_behind role t q [] ms = put_none t (chosen text k w₀ role ms)
  chosen_behind role t q (s ∷ ss) ms =
      rw q (ap (joined_chosen t (typed_sides known s)) (chosen_behind role t q ss ms) ∙ go t (typed_sides known s) (typed_conditions known ss) (chosen text k w₀ role ms))
    where
      go : (t : Bool) (a : Option ResolvedSides) (b r : Option (List ResolvedSides)) → joined_chosen t a (put t b r) ≡ put t (joined_sides a b) r
      go t none b r = refl
      go t (some a) none r = refl
      go false (some a) (some b) none = refl
      go false (some a) (some b) (some r) = refl
      go true (some a) (some b) none = refl
      go true (some a) (some b) (some r) = refl

  conditions_append : (xs ys : List Sides) → typed_conditions known (xs ++ ys) ≡ put true (typed_conditions known xs) (typed_conditions known ys)
  unfolding typed_conditions put joined_sides
  conditions_append [] ys = put_none true (typed_conditions known ys)
  conditions_append (x ∷ xs) ys = ap (joined_sides (typed_sides known x)) (conditions_append xs ys) ∙ go (typed_sides known x) (typed_conditions known xs) (typed_conditions known ys)
    where
      go : (a : Option ResolvedSides) (b r : Option (List ResolvedSides)) → joined_sides a (put true b r) ≡ put true (joined_sides a b) r
      go none b r = refl
      go (some a) none r = refl
      go (some a) (some b) none = refl
      go (some a) (some b) (some r) = refl

  choice : (role : ℕ) (t : Bool) → eqb condition_role role ≡ t → (e : Equation)
      → chosen text k w₀ role (marks_of e)
      ≡ put t (typed_conditions known e.before)
      (joined_chosen (eqb conclusion_role role) (typed_sides known e.conclusion) (put t (typed_conditions known e.after) (some [])))
  unfolding chosen
  choice role t q e =
      chosen_behind role t q e.before (marked conclusion_role e.conclusion ∷ map (marked condition_role) e.after)
      ∙ ap (λ (r : Option (List ResolvedSides)). put t (typed_conditions known e.before) (joined_chosen (eqb conclusion_role role) (typed_sides known e.conclusion) r))
      (ap (chosen text k w₀ role) (sym (append-nil (map (marked condition_role) e.after))) ∙ chosen_behind role t q e.after [])

  -- ---- the equation

  -- the equation of `size` entries from i on is r: its words stand from q on
  pub record WellEquation (r : ResolvedEquation) (i size q q₀ e₀ : ℕ) (w : List ℕ) (o : Pass) : Type 0 where
    pub words : List ℕ
    pub answer : o.answer ≡ of_sides (length r.conditions) (i + size) (q + length words)
    pub kept : Kept q₀ e₀ w₀ o.memory
    pub below : (j : ℕ) → j < q → get_or o.memory j 0 ≡ get_or w j 0
    pub stand : Stand q words o.memory
    pub nodes : map (node_here text k w₀) words ≡ flat_equation r
    pub pointed : Every (Pointed text k w₀) words
    pub room : length words ≤ size + size

  abbrev pub AgreeEquation : Outcome ResolvedEquation → ℕ → ℕ → ℕ → ℕ → ℕ → List ℕ → Pass → Type 0
  AgreeEquation (stop number culprit) i size q q₀ e₀ w o = o.answer ≡ None
  AgreeEquation (fine r) i size q q₀ e₀ w o = WellEquation r i size q q₀ e₀ w o

  module _ (q₀ e₀ : ℕ) (l : Layout text k w₀ q₀ e₀) (end home at : ℕ) (tag : Name) (i m q : ℕ) (w : List ℕ) (x : q₀ ≤ q) (y : q + (m + m) ≤ e₀) (o : Pass) where
    -- the second pass, after one that left the place p and the memory u
    abbrev Second : Option (List ResolvedSides) → Type 0
    Second r =
        (p : ℕ) (u : List ℕ) → Kept q₀ e₀ w₀ u → q ≤ p → p ≤ q + m
        → AgreeChosen text k w₀ condition_role r (i + 1) m p 0 q₀ e₀ u (sides_from text k condition_role end k.tape (i + 1) p 0 u)

    wrong_first : o.answer ≡ None → (after_conclusion text k end i o.answer o.memory).answer ≡ None
    unfolding after_conclusion
    wrong_first h = rw h

    both_passes : (c : ResolvedSides) (ks : List ResolvedSides) → Chosen text k w₀ conclusion_role (c ∷ []) (i + 1) m q 0 q₀ e₀ w o → Second (some ks)
        → WellEquation (record { module_number = home; position = at; tag = tag; conclusion = c; conditions = ks }) i (m + 1) q q₀ e₀ w (after_conclusion text k end i o.answer o.memory)
    unfolding after_conclusion flat_equation each
    both_passes c ks h rest =
        let g = rest (q + length h.words) o.memory h.kept (omega arith) (omega (arith, h.room)) in
        let e₁ : 0 + length ks ≡ length ks = omega arith in
        let e₂ : i + 1 + m ≡ i + (m + 1) = omega arith in
        let e₃ : q + length h.words + length g.words ≡ q + length (h.words ++ g.words) = omega (arith, length-append h.words g.words) in
        rw h.answer
        (record {
          words = h.words ++ g.words;
          answer = g.answer ∙ (λ z. of_sides (e₁ z) (e₂ z) (e₃ z));
          kept = g.kept;
          below = λ j a. g.below j (omega arith) ∙ h.below j a;
          stand = stand_append h.words g.words q _ (stand_stays h.words q o.memory _ (λ j a b. g.below j b) h.stand) g.stand;
          nodes =
              map-append (node_here text k w₀) h.words g.words
              ∙ ap₂ ◌++◌ (h.nodes ∙ append-nil (flat_sides c)) g.nodes;
          pointed = every_append (Pointed text k w₀) h.words g.words h.pointed g.pointed;
          room = omega (arith, length-append h.words g.words, h.room, g.room);
        })

    combined : (b : Option (List ResolvedSides)) (c : Option ResolvedSides) (a : Option (List ResolvedSides))
        → AgreeChosen text k w₀ conclusion_role (put false b (joined_chosen true c (put false a (some [])))) (i + 1) m q 0 q₀ e₀ w o
        → Second (put true b (joined_chosen false c (put true a (some []))))
        → AgreeEquation (made_equation home at tag c (put true b a)) i (m + 1) q q₀ e₀ w (after_conclusion text k end i o.answer o.memory)
    unfolding put joined_chosen made_equation pick
    combined none none a h rest = wrong_first h
    combined none (some c) a h rest = wrong_first h
    combined (some b) none a h rest = wrong_first h
    combined (some b) (some c) none h rest = wrong_first h
    combined (some b) (some c) (some a) h rest = both_passes c (b ++ a) h (rw (append-nil a) at rest)

  module _ (q₀ e₀ : ℕ) (l : Layout text k w₀ q₀ e₀) (end : ℕ) where
    marks_few : (ms : List Mark) → length ms ≤ length (each flat_mark ms)
    unfolding each
    marks_few [] = omega arith
    marks_few (m ∷ ms) = omega (arith, mark_size text k w₀ condition_role q₀ e₀ l end m (each flat_mark ms), marks_few ms)

    -- the equation whose tag is at i, where no term follows it before the end
    pub equation_typed : (home at : ℕ) (e : Equation) (i q : ℕ) (w : List ℕ) → i < k.tape → Spells text k w₀ i (on_tape.flat_equation e) → Kept q₀ e₀ w₀ w
        → q₀ ≤ q → q + (length (on_tape.flat_equation e) + length (on_tape.flat_equation e)) ≤ e₀ → i + length (on_tape.flat_equation e) ≤ end
        → begins_at (tape_in k w₀) (i + length (on_tape.flat_equation e)) end ≡ false
        → AgreeEquation (made_equation home at e.tag (typed_sides known e.conclusion) (typed_conditions known (conditions_of e)))
        i (length (on_tape.flat_equation e)) q q₀ e₀ w (equation_at text k end i q w)
    unfolding equation_at conditions_of
    equation_typed home at e i q w h s kept x y z f =
        let ms = marks_of e in
        let es = each flat_mark ms in
        let m = length es in
        let size : length (on_tape.flat_equation e) ≡ m + 1 = ap length (equation_entries e) ∙ omega arith in
        let t = (rw (equation_entries e) at s).3 in
        let on : i + 1 ≡ suc i = omega arith in
        let next : i + (m + 1) ≡ i + 1 + m = omega arith in
        let fits = spells_size text k w₀ es (suc i) h t in
        let few = marks_few ms in
        let quiet = rw next at (rw size at f) in
        let first_pass =
        pass_typed text k w₀ conclusion_role q₀ e₀ l end ms k.tape (i + 1) q 0 w (omega (arith, few, fits)) (omega arith) (rw on t) kept x (omega (arith, size, y)) (omega (arith, size, z)) quiet in
        let second_pass : Second q₀ e₀ l end home at e.tag i m q w x (omega (arith, size, y)) (sides_from text k conclusion_role end k.tape (i + 1) q 0 w) (chosen text k w₀ condition_role ms) =
        λ p u stays a b.
        pass_typed text k w₀ condition_role q₀ e₀ l end ms k.tape (i + 1) p 0 u (omega (arith, few, fits)) (omega arith) (rw on t) stays (omega arith) (omega (arith, size, y)) (omega (arith, size, z)) quiet in
        rw (size, conditions_append e.before e.after)
        (combined q₀ e₀ l end home at e.tag i m q w x (omega (arith, size, y)) (sides_from text k conclusion_role end k.tape (i + 1) q 0 w)
        (typed_conditions known e.before) (typed_sides known e.conclusion) (typed_conditions known e.after)
        (rw (choice conclusion_role false refl e) at first_pass)
        (rw (choice condition_role true refl e) at second_pass))
