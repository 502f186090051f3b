-- The sets of numbers say what the names say, where no two modules have one name: which modules are reached (meaning/specs/Reached.antt),
-- and which stand earlier.
use Rattle.std.specs.Prelude.{◌≡◌, Bool, eqb, ltb, get_or}
use Rattle.std.proofs.Math.Path.{refl, sym, ap}
use Rattle.std.proofs.Common.{◌∙◌, add-one, ne_eqb, eqb-true, lt-ltb, ltb-true, ltb-false, length-drop}
use Prim.Native.Nat.{ℕ, zero, suc, ◌+◌, ◌<◌, ◌≤◌}
use native.Mathlib.Omega.{arith}
use Rattle.std.proofs.Math.Bool.{true, false}
use Rattle.std.proofs.lemmas.Bool.{false≢true, eqb-false}
use mathlib.Core.List.{List, [], ◌∷◌, ◌++◌}
use Rattle.std.proofs.Math.ListN.{length, drop}
use Rattle.std.proofs.lemmas.List.{length-map}
use Rattle.meaning.specs.Lists.{pick, before}
use Rattle.meaning.specs.Names.{Name, same, member}
use Rattle.meaning.specs.OrderLaws.{same_self, same_equal}
use Rattle.meaning.specs.Syntax.{Module}
use Rattle.meaning.specs.Evaluate.{named_by}
use Rattle.meaning.specs.Reached.{Placed, wanted, reached_among, module_names}
use Rattle.laws.specs.Distinct.{Fresh}
use Rattle.module_set.specs.ModuleSet.{nothing, added, either}
use Rattle.modules.specs.Modules.{with_named, turned, gathered}
use Rattle.form_walks.specs.Lists.{found_passes}

-- ---- truth values

pub or_false : (a : Bool) → pick a true false ≡ a
unfolding pick
or_false true = refl
or_false false = refl

or_three : (a b c : Bool) → pick (pick (pick a true false) true b) true c ≡ pick b true (pick a true c)
unfolding pick
or_three true true c = refl
or_three true false c = refl
or_three false true c = refl
or_three false false c = refl

pub or_other : (a b : Bool) → pick a true b ≡ pick b true a
unfolding pick
or_other true true = refl
or_other true false = refl
or_other false true = refl
or_other false false = refl

-- ---- numbers of distinct names

-- each name is the first of its like
abbrev pub Distinct : List Name → Type 0
Distinct ds = (j : ℕ) → j < length ds → before (same (get_or ds j [])) ds ≡ j

-- a name has number j where it is the name of number j
module _ (ds : List Name) (d : Distinct ds) (j : ℕ) (l : j < length ds) where
  pub number_same : (w : Name) → eqb j (before (same w) ds) ≡ same (get_or ds j []) w
  number_same w = go (same (get_or ds j []) w) refl (eqb j (before (same w) ds)) refl
    where
      go : (b : Bool) → same (get_or ds j []) w ≡ b → (c : Bool) → eqb j (before (same w) ds) ≡ c → c ≡ b
      go true e true f = refl
      go false e false f = refl
      go true e false f =
          let same_name : get_or ds j [] ≡ w = same_equal (get_or ds j []) w e in
          absurd (eqb-false j (before (same w) ds) f (sym (d j l) ∙ ap (λ (v : Name). before (same v) ds) same_name))
      go false e true f =
          let number : j ≡ before (same w) ds = eqb-true j (before (same w) ds) f in
          let passes : same w (get_or ds j []) ≡ true = rw number (found_passes (same w) [] ds (omega arith)) in
          let name : w ≡ get_or ds j [] = same_equal w (get_or ds j []) passes in
          absurd (false≢true (sym e ∙ ap (same (get_or ds j [])) name ∙ same_self (get_or ds j [])))

-- a name that is found has its number
pub found_name : (ds : List Name) (w : Name) → before (same w) ds < length ds → get_or ds (before (same w) ds) [] ≡ w
found_name ds w l = sym (same_equal w (get_or ds (before (same w) ds) []) (found_passes (same w) [] ds l))

-- two numbers have two names
pub names_apart : (ds : List Name) → Distinct ds → (i j : ℕ) → i < length ds → j < length ds → (i ≡ j → ⊥) → same (get_or ds i []) (get_or ds j []) ≡ false
names_apart ds d i j l m h = sym (number_same ds d i l (get_or ds j [])) ∙ rw (d j m) (ne_eqb i j h)

fresh_out : (taken : List Name) (ms : List Module) → Fresh taken ms → (j : ℕ) → j < length ms → member (get_or (module_names ms) j []) taken ≡ false
unfolding module_names member pick
fresh_out taken [] f j l = absurd (omega arith)
fresh_out taken (m ∷ ms) f zero l = f.0
fresh_out taken (m ∷ ms) f (suc j) l = go (same (get_or (module_names ms) j []) m.name) (fresh_out (m.name ∷ taken) ms f.1 j (omega arith))
  where
    go : (b : Bool) → pick b true (member (get_or (module_names ms) j []) taken) ≡ false → member (get_or (module_names ms) j []) taken ≡ false
    go true e = absurd (false≢true (sym e))
    go false e = e

fresh_numbers : (taken : List Name) (ms : List Module) → Fresh taken ms → (j : ℕ) → j < length ms → before (same (get_or (module_names ms) j [])) (module_names ms) ≡ j
unfolding module_names member before pick
fresh_numbers taken [] f j l = absurd (omega arith)
fresh_numbers taken (m ∷ ms) f zero l = rw (same_self m.name)
fresh_numbers taken (m ∷ ms) f (suc j) l =
    go (same (get_or (module_names ms) j []) m.name) (fresh_out (m.name ∷ taken) ms f.1 j (omega arith)) (fresh_numbers (m.name ∷ taken) ms f.1 j (omega arith))
  where
    v : Name
    v = get_or (module_names ms) j []

    go : (b : Bool) → pick b true (member v taken) ≡ false → before (same v) (module_names ms) ≡ j → pick b 0 (suc (before (same v) (module_names ms))) ≡ suc j
    go true e n = absurd (false≢true (sym e))
    go false e n = ap suc n

pub names_number : (ms : List Module) → length (module_names ms) ≡ length ms
unfolding module_names
names_number ms = length-map ms (λ (m : Module). m.name)

-- the modules of a text that is read have distinct names
pub names_distinct : (ms : List Module) → Fresh [] ms → Distinct (module_names ms)
names_distinct ms f j l = fresh_numbers [] ms f j (omega (arith, names_number ms))

-- ---- the numbers that a module names

-- no number from k on
pub named_below : (ds : List Name) (k : ℕ) (set : ℕ → Bool) (ws : List Name) (j : ℕ) → k ≤ j → with_named ds k set ws j ≡ set j
unfolding with_named added pick
named_below ds k set [] j h = refl
named_below ds k set (w ∷ ws) j h = go (ltb (before (same w) ds) k) refl (named_below ds k (added (before (same w) ds) set) ws j h) (named_below ds k set ws j h)
  where
    p : ℕ
    p = before (same w) ds

    other : ltb p k ≡ true → added p set j ≡ set j
    other e = let l : p < k = ltb-true p k e in rw (ne_eqb j p (λ f. omega arith))

    go : (b : Bool) → ltb p k ≡ b → with_named ds k (added p set) ws j ≡ added p set j → with_named ds k set ws j ≡ set j
        → pick b (with_named ds k (added p set) ws) (with_named ds k set ws) j ≡ set j
    go true e f g = f ∙ other e
    go false e f g = g

-- number j is named where its name is
module _ (ds : List Name) (d : Distinct ds) (k j : ℕ) (h : j < k) (few : k ≤ 64) (l : j < length ds) where
  pub named_member : (set : ℕ → Bool) (ws : List Name) → with_named ds k set ws j ≡ pick (set j) true (member (get_or ds j []) ws)
  unfolding with_named added member pick
  named_member set [] = sym (or_false (set j))
  named_member set (w ∷ ws) =
      go (ltb (before (same w) ds) k) refl (named_member (added (before (same w) ds) set) ws) (named_member set ws)
    where
      p : ℕ
      p = before (same w) ds

      v : Name
      v = get_or ds j []

      go : (b : Bool) → ltb p k ≡ b → with_named ds k (added p set) ws j ≡ pick (added p set j) true (member v ws)
          → with_named ds k set ws j ≡ pick (set j) true (member v ws)
          → pick b (with_named ds k (added p set) ws) (with_named ds k set ws) j ≡ pick (set j) true (pick (same v w) true (member v ws))
      go true e f g =
          let low : p < k = ltb-true p k e in
          f ∙ rw (lt-ltb p 64 (omega arith), number_same ds d j l w) (or_three (same v w) (set j) (member v ws))
      go false e f g =
          let high : k ≤ p = ltb-false p k e in
          let other : same v w ≡ false = sym (number_same ds d j l w) ∙ ne_eqb j p (λ i. omega arith) in
          rw other g

-- ---- what is gathered

module _ (named : ℕ → ℕ → Bool) (below : (i j : ℕ) → i ≤ j → named i j ≡ false) (set : ℕ → Bool) (j : ℕ) where
  -- to turn number i says nothing new of number j behind it
  turned_behind : (later : ℕ → Bool) (i : ℕ) → i ≤ j → turned named later i j ≡ later j
  unfolding turned either pick
  turned_behind later i h = go (later i)
    where
      go : (b : Bool) → pick b (either later (named i)) later j ≡ later j
      go true = rw (below i j h) (or_false (later j))
      go false = refl

  -- whether number j is in is settled when those behind it have been turned
  settled : (c i e : ℕ) → i + c ≤ suc j → gathered named set i (c + e) j ≡ gathered named set (i + c) e j
  unfolding gathered
  settled zero i e h =
      let y : 0 + e ≡ e = omega arith in
      let z : i + 0 ≡ i = omega arith in
      rw (y, z)
  settled (suc c) i e h =
      let y : suc c + e ≡ suc (c + e) = omega arith in
      let z : i + suc c ≡ suc i + c = omega arith in
      rw (y, z) (turned_behind (gathered named set (suc i) (c + e)) i (omega arith) ∙ settled c (suc i) e (omega arith))

-- ---- modules by number

drop_next : {A : Type 0} (i : ℕ) (xs ys : List A) (y : A) → drop i xs ≡ y ∷ ys → drop (suc i) xs ≡ ys
drop_next zero [] ys y e = let z : ◌≡◌ {A = ℕ} 0 1 = cc in absurd (omega arith)
drop_next zero (x ∷ xs) ys y e = cc
drop_next (suc i) [] ys y e = let z : ◌≡◌ {A = ℕ} 0 1 = cc in absurd (omega arith)
drop_next (suc i) (x ∷ xs) ys y e = drop_next i xs ys y e

pub name_by_number : (i : ℕ) (ms ys : List Module) (y : Module) → drop i ms ≡ y ∷ ys → get_or (module_names ms) i [] ≡ y.name
unfolding module_names
name_by_number zero [] ys y e = let z : ◌≡◌ {A = ℕ} 0 1 = cc in absurd (omega arith)
name_by_number zero (x ∷ ms) ys y e = let z : x ≡ y = cc in ap (λ (m : Module). m.name) z
name_by_number (suc i) [] ys y e = let z : ◌≡◌ {A = ℕ} 0 1 = cc in absurd (omega arith)
name_by_number (suc i) (x ∷ ms) ys y e = name_by_number i ms ys y e

pub member_append : (v : Name) (xs ys : List Name) → member v (xs ++ ys) ≡ pick (member v xs) true (member v ys)
unfolding member pick
member_append v [] ys = refl
member_append v (x ∷ xs) ys = go (same v x) (member_append v xs ys)
  where
    go : (b : Bool) → member v (xs ++ ys) ≡ pick (member v xs) true (member v ys)
        → pick b true (member v (xs ++ ys)) ≡ pick (pick b true (member v xs)) true (member v ys)
    go true e = refl
    go false e = e

pub drop_some : {A : Type 0} (i : ℕ) (xs ys : List A) (y : A) → drop i xs ≡ y ∷ ys → length xs ≡ suc i + length ys
drop_some i xs ys y e = omega (arith, length-drop i xs, ap length e)

-- ---- the reached modules

-- those of the modules that a set of numbers has, the first being number k
unfoldable pub chosen : (ℕ → Bool) → ℕ → List Name → List Module → List Placed
chosen set k earlier [] = []
chosen set k earlier (m ∷ ms) =
    let later = chosen set (k + 1) (m.name ∷ earlier) ms in
    let here : List Placed = record { self = m; number = k; earlier = earlier } ∷ later in
    pick (set k) here later

-- the modules that each names, by numbers
pub record Naming (ms : List Module) (named : ℕ → ℕ → Bool) : Type 0 where
  pub below : (i j : ℕ) → i ≤ j → named i j ≡ false
  pub tells : (i j : ℕ) (y : Module) (ys : List Module) → drop i ms ≡ y ∷ ys → j < i → named i j ≡ member (get_or (module_names ms) j []) (named_by y)

-- the number of the asked name alone
abbrev pub alone : Name → List Module → (ℕ → Bool)
alone asked ms = added (before (same asked) (module_names ms)) nothing

module _ (ms : List Module) (d : Distinct (module_names ms)) (few : length ms ≤ 64) (named : ℕ → ℕ → Bool) (n : Naming ms named) (asked : Name) where
  -- a name is wanted by the modules from number i on where its number is gathered from them
  wanted_numbers : (ys : List Module) (i : ℕ) → drop i ms ≡ ys → i ≤ length ms → (j : ℕ) → j < i
      → member (get_or (module_names ms) j []) (wanted asked ys) ≡ gathered named (alone asked ms) i (length ys) j
  unfolding wanted gathered turned either added nothing member pick
  wanted_numbers [] i e h j l = rw (← number_same (module_names ms) d j (omega (arith, names_number ms)) asked) (go (eqb j k) refl)
    where
      k : ℕ
      k = before (same asked) (module_names ms)

      go : (b : Bool) → eqb j k ≡ b → pick b true false ≡ pick (pick b (ltb k 64) false) true false
      go true f = let z : j ≡ k = eqb-true j k f in rw (lt-ltb k 64 (omega arith))
      go false f = refl
  wanted_numbers (y ∷ ys) i e h j l =
      let next : drop (suc i) ms ≡ ys = drop_next i ms ys y e in
      let within : suc i ≤ length ms = omega (arith, drop_some i ms ys y e) in
      let here : member y.name (wanted asked ys) ≡ gathered named (alone asked ms) (suc i) (length ys) i =
      ap (λ (v : Name). member v (wanted asked ys)) (sym (name_by_number i ms ys y e)) ∙ wanted_numbers ys (suc i) next within i (omega arith) in
      rw here (go (gathered named (alone asked ms) (suc i) (length ys) i) (wanted_numbers ys (suc i) next within j (omega arith)))
    where
      v : Name
      v = get_or (module_names ms) j []

      later : ℕ → Bool
      later = gathered named (alone asked ms) (suc i) (length ys)

      go : (b : Bool) → member v (wanted asked ys) ≡ later j
          → member v (pick b (named_by y ++ wanted asked ys) (wanted asked ys)) ≡ pick b (either later (named i)) later j
      go true f = member_append v (named_by y) (wanted asked ys) ∙ rw (f, n.tells i j y ys e l) (or_other (member v (named_by y)) (later j))
      go false f = f

  -- a module from number i on is reached where its number is
  pub reached_numbers : (ys : List Module) (i : ℕ) (earlier : List Name) → drop i ms ≡ ys
      → reached_among asked i earlier ys ≡ chosen (gathered named (alone asked ms) 0 (length ms)) i earlier ys
  unfolding reached_among chosen
  reached_numbers [] i earlier e = refl
  reached_numbers (y ∷ ys) i earlier e =
      let next : drop (suc i) ms ≡ ys = drop_next i ms ys y e in
      let number : length ms ≡ suc i + length ys = drop_some i ms ys y e in
      let there : drop (i + 1) ms ≡ ys = ap (λ (k : ℕ). drop k ms) (add-one i) ∙ next in
      let z : 0 + suc i ≡ suc i = omega arith in
      let test : member y.name (wanted asked ys) ≡ gathered named (alone asked ms) 0 (length ms) i =
      ap (λ (v : Name). member v (wanted asked ys)) (sym (name_by_number i ms ys y e))
      ∙ wanted_numbers ys (suc i) next (omega arith) i (omega arith)
      ∙ ap (λ (k : ℕ). gathered named (alone asked ms) k (length ys) i) (sym z)
      ∙ sym (settled named n.below (alone asked ms) i (suc i) 0 (length ys) (omega arith))
      ∙ ap (λ (c : ℕ). gathered named (alone asked ms) 0 c i) (sym number) in
      rw (test, reached_numbers ys (i + 1) (y.name ∷ earlier) there)
