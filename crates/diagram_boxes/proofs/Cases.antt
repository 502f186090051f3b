-- One law for each way through the code, in the code's terms: r, b and w are callees' answers.
use mathlib.Core.Path.{◌≡◌, refl, ap, ◌∙◌}
use mathlib.Core.Bool.{Bool, true, false}
use mathlib.Core.List.{List, [], ◌∷◌, ◌++◌, map}
use Prim.Native.Nat.{ℕ, suc, ◌+◌, ◌-◌, ◌<◌, ◌≤◌}
use native.Mathlib.Omega.{arith}
use native.Mathlib.Numerals.{add-one}
use borrow.Author.Rules.{rules}
use borrow.Author.Tests.{eq-eqb, ne_eqb, lt-ltb, le-ltb}
use lib.ListN.{length, get_or}
use Rattle.meaning.specs.Lists.{pick}
use Rattle.meaning.specs.Names.{bytes}
use Rattle.text_names.specs.Word.{name_of}
use Rattle.form_rows.specs.Entries.{role_at, word_at}
use Rattle.modules.specs.Modules.{Heads, picked}
use Rattle.modules.proofs.Cases.{picked_none, picked_other, picked_here}
use Rattle.diagram_meaning.specs.Diagram.{box_line, parameter_line, bind_line}
use Rattle.diagram_lines.specs.Sheet.{Drawing, drawing, drew, named_line}
use Rattle.diagram_lines.specs.Laws.{Going, drew_then, going_start, going_on, going_by, going_end}
use Rattle.diagram_boxes.specs.Boxes.{is_parameter, bindings_from, box_lines}

-- ---- parameters: those from j on are to be drawn

abbrev pub Parameters : (l : ℕ) (text tape : List ℕ) (d a end at₀ lines₀ : ℕ) (o₀ : List ℕ) (j at lines : ℕ) (o : List ℕ) → Type 0
Parameters l text tape d a end at₀ lines₀ o₀ j at lines o =
    Going l (map (parameter_line d) (picked is_parameter text tape a (end - a))) at₀ lines₀ o₀ (map (parameter_line d) (picked is_parameter text tape j (end - j))) at lines o

module _ (l : ℕ) (text tape : List ℕ) (d a end at₀ lines₀ : ℕ) (o₀ : List ℕ) where
  pub parameters_start : Parameters l text tape d a end at₀ lines₀ o₀ a at₀ lines₀ o₀
  parameters_start = going_start l (map (parameter_line d) (picked is_parameter text tape a (end - a))) at₀ lines₀ o₀

  module _ (j at lines : ℕ) (o : List ℕ) (v : Parameters l text tape d a end at₀ lines₀ o₀ j at lines o) where
    pub parameters_end : end ≤ j → drawing at lines o ≡ drew l (map (parameter_line d) (picked is_parameter text tape a (end - a))) (drawing at₀ lines₀ o₀)
    parameters_end h = going_end l _ at₀ lines₀ o₀ _ at lines o v (ap (map (parameter_line d)) (picked_none is_parameter text tape j end h))

    pub sized : length o ≡ length o₀
    sized = v.sized

    module _ (h : j < end) (r : ℕ) (e : r ≡ role_at tape j) (b : Bool) (f : b ≡ is_parameter r) where
      pub parameters_other : b ≡ false → Parameters l text tape d a end at₀ lines₀ o₀ (j + 1) at lines o
      parameters_other q = going_by l _ at₀ lines₀ o₀ _ at lines o v _ (ap (map (parameter_line d)) (picked_other is_parameter text tape j end h r e b f q))

      pub parameters_here : b ≡ true → (w at' lines' : ℕ) (o' : List ℕ) → w ≡ word_at tape j → length o' ≡ length o
          → drawing at' lines' o' ≡ drew l (named_line (bytes "parameter") d (name_of text w) ∷ []) (drawing at lines o)
          → Parameters l text tape d a end at₀ lines₀ o₀ (j + 1) at' lines' o'
      unfolding named_line parameter_line
      parameters_here q w at' lines' o' g k i =
          going_on l _ at₀ lines₀ o₀ _ at lines o v (parameter_line d (name_of text w) ∷ []) _ at' lines' o' k
          (ap (map (parameter_line d)) (picked_here is_parameter text tape j end h r e b f q w g)) i

-- ---- bindings

abbrev pub Bindings : (l : ℕ) (text tape : List ℕ) (d q a end at₀ lines₀ : ℕ) (o₀ : List ℕ) (p j at lines : ℕ) (o : List ℕ) → Type 0
Bindings l text tape d q a end at₀ lines₀ o₀ p j at lines o =
    Going l (map (bind_line d) (bindings_from text tape q a (end - a))) at₀ lines₀ o₀ (map (bind_line d) (bindings_from text tape p j (end - j))) at lines o

module _ (text tape : List ℕ) (p j end : ℕ) where
  bindings_none : end ≤ j → bindings_from text tape p j (end - j) ≡ []
  unfolding bindings_from
  bindings_none h = let z : end - j ≡ 0 = omega arith in rw z

  module _ (h : j < end) (r : ℕ) (e : r ≡ role_at tape j) where
    less : end - j ≡ suc (end - (j + 1))
    less = omega arith

    bindings_low : r < 12 → bindings_from text tape p j (end - j) ≡ []
    unfolding bindings_from pick
    bindings_low k = rw (less, ← e, lt-ltb r 12 k)

    bindings_high : 12 ≤ r → 16 < r → bindings_from text tape p j (end - j) ≡ []
    unfolding bindings_from pick
    bindings_high k i = rw (less, ← e, le-ltb r 12 k, lt-ltb 16 r i)

    module _ (k : 12 ≤ r) (i : r ≤ 16) where
      bindings_bound : r ≡ 13 → (w : ℕ) → w ≡ word_at tape j → bindings_from text tape p j (end - j) ≡ bindings_from text tape w (j + 1) (end - (j + 1))
      unfolding bindings_from pick
      bindings_bound q w g = rw (less, ← e, le-ltb r 12 k, le-ltb 16 r i, eq-eqb r 13 q, g, add-one j)

      bindings_actual : (r ≡ 13 → ⊥) → r ≡ 16 → (m : ℕ) → m ≡ word_at tape j
          → bindings_from text tape p j (end - j) ≡ record { parameter = name_of text p; actual = name_of text m } ∷ bindings_from text tape p (j + 1) (end - (j + 1))
      unfolding bindings_from pick
      bindings_actual n q m g = rw (less, ← e, le-ltb r 12 k, le-ltb 16 r i, ne_eqb r 13 n, eq-eqb r 16 q, g, add-one j)

      bindings_other : (r ≡ 13 → ⊥) → (r ≡ 16 → ⊥) → bindings_from text tape p j (end - j) ≡ bindings_from text tape p (j + 1) (end - (j + 1))
      unfolding bindings_from pick
      bindings_other n q = rw (less, ← e, le-ltb r 12 k, le-ltb 16 r i, ne_eqb r 13 n, ne_eqb r 16 q, add-one j)

module _ (l : ℕ) (text tape : List ℕ) (d q a end at₀ lines₀ : ℕ) (o₀ : List ℕ) where
  pub binds_start : Bindings l text tape d q a end at₀ lines₀ o₀ q a at₀ lines₀ o₀
  binds_start = going_start l (map (bind_line d) (bindings_from text tape q a (end - a))) at₀ lines₀ o₀

  module _ (p j at lines : ℕ) (o : List ℕ) (v : Bindings l text tape d q a end at₀ lines₀ o₀ p j at lines o) where
    abbrev Done : Type 0
    Done = drawing at lines o ≡ drew l (map (bind_line d) (bindings_from text tape q a (end - a))) (drawing at₀ lines₀ o₀)

    done : bindings_from text tape p j (end - j) ≡ [] → Done
    done z = going_end l _ at₀ lines₀ o₀ _ at lines o v (ap (map (bind_line d)) z)

    pub binds_sized : length o ≡ length o₀
    binds_sized = v.sized

    pub binds_end : end ≤ j → Done
    binds_end h = done (bindings_none text tape p j end h)

    module _ (h : j < end) (r : ℕ) (e : r ≡ role_at tape j) where
      pub binds_low : r < 12 → Done
      binds_low k = done (bindings_low text tape p j end h r e k)

      pub binds_high : 12 ≤ r → 16 < r → Done
      binds_high k i = done (bindings_high text tape p j end h r e k i)

      module _ (k : 12 ≤ r) (i : r ≤ 16) where
        pub binds_bound : r ≡ 13 → (w : ℕ) → w ≡ word_at tape j → Bindings l text tape d q a end at₀ lines₀ o₀ w (j + 1) at lines o
        binds_bound x w g = going_by l _ at₀ lines₀ o₀ _ at lines o v _ (ap (map (bind_line d)) (bindings_bound text tape p j end h r e k i x w g))

        pub binds_other : (r ≡ 13 → ⊥) → (r ≡ 16 → ⊥) → Bindings l text tape d q a end at₀ lines₀ o₀ p (j + 1) at lines o
        binds_other x y = going_by l _ at₀ lines₀ o₀ _ at lines o v _ (ap (map (bind_line d)) (bindings_other text tape p j end h r e k i x y))

        pub binds_actual : (r ≡ 13 → ⊥) → r ≡ 16 → (m at' lines' : ℕ) (o' : List ℕ) → m ≡ word_at tape j → length o' ≡ length o
            → drawing at' lines' o' ≡ drew l (bind_line d (record { parameter = name_of text p; actual = name_of text m }) ∷ []) (drawing at lines o)
            → Bindings l text tape d q a end at₀ lines₀ o₀ p (j + 1) at' lines' o'
        binds_actual x y m at' lines' o' g s t =
            going_on l _ at₀ lines₀ o₀ _ at lines o v (bind_line d (record { parameter = name_of text p; actual = name_of text m }) ∷ []) _ at' lines' o' s
            (ap (map (bind_line d)) (bindings_actual text tape p j end h r e k i x y m g)) t

-- ---- a box

pub box_drawn : (l : ℕ) (text tape : List ℕ) (h : Heads) (d k a end w from to : ℕ) (s t u r : Drawing) → w ≡ word_at tape (get_or h.places k 0)
    → from ≡ get_or h.places k 0 → to ≡ get_or h.places (k + 1) 0
    → t ≡ drew l (named_line (bytes "box") d (name_of text w) ∷ []) s → u ≡ drew l (map (parameter_line d) (picked is_parameter text tape from (to - from))) t
    → r ≡ drew l (map (bind_line d) (bindings_from text tape 0 a (end - a))) u → r ≡ drew l (box_lines text tape h d k a end) s
unfolding box_lines named_line box_line
box_drawn l text tape h d k a end w from to s t u r ew ef et e f g =
    let inner = map (bind_line d) (bindings_from text tape 0 a (end - a)) in
    let params = map (parameter_line d) (picked is_parameter text tape from (to - from)) in
    drew_then l (box_line d (name_of text w) ∷ []) (params ++ inner) s t r e (drew_then l params inner t u r f g)
    ∙ rw (ew, ef, et) refl

pub ruleset cases = (rules)

pub ruleset parameters = (parameters_start, parameters_end, sized, parameters_other, parameters_here, rules)

pub ruleset binds = (binds_start, binds_sized, binds_end, binds_low, binds_high, binds_bound, binds_other, binds_actual, rules)

pub ruleset boxes = (box_drawn, rules)
