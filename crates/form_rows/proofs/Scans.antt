-- Laws of places on the tape and of scans over it, in the code's terms: j is the place where a scan is, r the role there.
use mathlib.Core.Path.{◌≡◌, refl, sym, ◌∙◌}
use mathlib.Core.Bool.{Bool, true, false}
use mathlib.Core.List.{List}
use Prim.Native.Nat.{ℕ, zero, suc, ◌+◌, ◌-◌, ◌<◌, ◌≤◌, max}
use native.Mathlib.Omega.{arith}
use native.Mathlib.Numerals.{add-one}
use lib.Dec.{eqb}
use lib.ListN.{get_or, set, length, get_or-eq_default}
use lib.Seq.{set_out}
use borrow.Author.Tests.{eq-eqb, ne_eqb}
use mir.Syntax.{w32}
use mir.Val.{Fits}
use Rattle.meaning.specs.Lists.{pick}
use Rattle.meaning.specs.Names.{same}
use Rattle.meaning.specs.OrderLaws.{same_self}
use Rattle.text_names.specs.Word.{name_of}
use Rattle.tape.specs.Tape.{module_role, parameter_role, input_role, variable_role, variable_sort}
use Rattle.form_sections.specs.declared.Section.{Section}
use Rattle.form_sections.specs.declared.Section.TheVariants.{Export, Hidden, Parameter}
use Rattle.form_rows.specs.Entries.{role_at, word_at, name_at, last_with, next_with, inputs_from, is_function_role, is_parameter_role, is_export_role, arity_at, sort_place, home_at, section_at, origin_at}
use Rattle.form_rows.specs.RowLaws.{inputs_short}
use Rattle.form_rows.specs.Kinds.{kind_at}
use Rattle.form_rows.specs.declared.Origin.{Origin}

pub past_end : (t : List ℕ) (i : ℕ) → length t ≤ i → 0 ≡ get_or t i 0
past_end t i h = sym (get_or-eq_default t 0 h)

pub put_past : (t : List ℕ) (i v : ℕ) → length t ≤ i → t ≡ set t i v
put_past t i v h = sym (set_out t i v h)

-- one word is one name
pub one_word : (text : List ℕ) (a b : ℕ) → a ≡ b → true ≡ same (name_of text a) (name_of text b)
one_word text a b e = rw (e, same_self (name_of text b))

pub names_there : (text tape : List ℕ) (i j x y : ℕ) (r : Bool) → x ≡ word_at tape i → y ≡ word_at tape j
    → r ≡ same (name_of text x) (name_of text y) → r ≡ same (name_at text tape i) (name_at text tape j)
names_there text tape i j x y r a b h = rw (← a, ← b) h

-- ---- back to the last place with a role, forward to the next

-- the place is one below what is left
module _ (role : ℕ) (t : List ℕ) (j r : ℕ) (e : r ≡ role_at t (j - 1 + 1)) where
  pub last_here : 0 < j → r ≡ role → last_with role t j ≡ j - 1 + 1
  unfolding last_with pick
  last_here h q = go j h e
    where
      go : (k : ℕ) → 0 < k → r ≡ role_at t (k - 1 + 1) → last_with role t k ≡ k - 1 + 1
      go zero h f = omega arith
      go (suc k) h f =
          let s : suc k - 1 + 1 ≡ suc k = omega arith in
          rw (s, eq-eqb (role_at t (suc k)) role (sym (rw s at f) ∙ q))

  pub last_on : 0 < j → (r ≡ role → ⊥) → last_with role t j ≡ last_with role t (j - 1)
  unfolding last_with pick
  last_on h q = go j h e
    where
      go : (k : ℕ) → 0 < k → r ≡ role_at t (k - 1 + 1) → last_with role t k ≡ last_with role t (k - 1)
      go zero h f = refl
      go (suc k) h f =
          let s : suc k - 1 ≡ k = omega arith in
          let n : suc k - 1 + 1 ≡ suc k = omega arith in
          rw (s, ne_eqb (role_at t (suc k)) role (λ u. q (rw n at f ∙ u)))

pub last_none : (role : ℕ) (t : List ℕ) (j : ℕ) → j ≤ 0 → last_with role t j ≡ 0
unfolding last_with
last_none role t j h = let z : j ≡ 0 = omega arith in rw z

next_within : (role : ℕ) (t : List ℕ) (c i : ℕ) → next_with role t i c ≤ i + c
unfolding next_with pick
next_within role t zero i = omega arith
next_within role t (suc c) i = go (eqb (role_at t i) role) (next_within role t c (suc i))
  where
    go : (b : Bool) → next_with role t (suc i) c ≤ suc i + c → pick b i (next_with role t (suc i) c) ≤ i + suc c
    go true h = omega arith
    go false h = omega arith

module _ (role : ℕ) (t : List ℕ) (j end : ℕ) where
  -- one place more, where one is left
  one_left : j < end → end - j ≡ suc (end - (j + 1))
  one_left h = omega arith

  module _ (r : ℕ) (e : r ≡ role_at t j) (h : j < end) where
    pub next_here : r ≡ role → next_with role t j (end - j) ≡ j
    unfolding next_with pick
    next_here q = rw (one_left h, eq-eqb (role_at t j) role (sym e ∙ q))

    pub next_on : (r ≡ role → ⊥) → next_with role t j (end - j) ≡ next_with role t (j + 1) (end - (j + 1))
    unfolding next_with pick
    next_on q = rw (one_left h, ne_eqb (role_at t j) role (λ u. q (e ∙ u)), add-one)

  -- none has the role: the scan ends behind the last place, or where it began if there is none
  pub next_none : (i m : ℕ) → next_with role t i (end - i) ≡ next_with role t j (end - j) → i ≤ j → end ≤ j → m ≡ max i end → m ≡ next_with role t i (end - i)
  unfolding next_with
  next_none i m e h l f =
      let z : end - j ≡ 0 = omega arith in
      let s : next_with role t j (end - j) ≡ j = rw z in
      omega (arith, next_within role t (end - i) i)

-- ---- inputs from i on: those up to j are counted

pub record Counted (t : List ℕ) (i end j : ℕ) : Type 0 where
  from : i ≤ j
  rest : inputs_from t i (end - i) ≡ j - i + inputs_from t j (end - j)

pub count_none : (t : List ℕ) (i end : ℕ) → Counted t i end i
count_none t i end = record { from = omega arith; rest = omega arith }

module _ (t : List ℕ) (i end j : ℕ) (h : Counted t i end j) where
  pub count_within : i ≤ j
  count_within = h.from

  pub count_end : end ≤ j → end - i ≡ inputs_from t i (end - i)
  unfolding inputs_from
  count_end l =
      let z : end - j ≡ 0 = omega arith in
      let s : inputs_from t j (end - j) ≡ 0 = rw z in
      omega (arith, h.rest, inputs_short t i (end - i))

  module _ (r : ℕ) (e : r ≡ role_at t j) (l : j < end) where
    pub count_on : r ≡ input_role → Counted t i end (j + 1)
    unfolding inputs_from pick
    count_on q =
        let s : inputs_from t j (end - j) ≡ suc (inputs_from t (j + 1) (end - (j + 1))) =
        rw (one_left 0 t j end l, eq-eqb (role_at t j) input_role (sym e ∙ q), add-one) in
        record { from = omega arith; rest = omega arith }

    pub count_stop : (r ≡ input_role → ⊥) → j - i ≡ inputs_from t i (end - i)
    unfolding inputs_from pick
    count_stop q =
        let s : inputs_from t j (end - j) ≡ 0 =
        rw (one_left 0 t j end l, ne_eqb (role_at t j) input_role (λ u. q (e ∙ u))) in
        omega arith

-- ---- a declaration at d: its number of inputs, its sort, and where it is from

pub arity_fits : (t : List ℕ) (d n : ℕ) → n ≡ inputs_from t (d + 1) (d + 1 + 8 - (d + 1)) → Fits w32 n
arity_fits t d n e = omega (arith, inputs_short t (d + 1) (d + 1 + 8 - (d + 1)))

pub kind_fits : (t : List ℕ) (d n : ℕ) → n ≡ arity_at t d → Fits w32 (n + 2)
unfolding arity_at
kind_fits t d n e = omega (arith, inputs_short t (d + 1) 8)

pub arity_counted : (t : List ℕ) (d n : ℕ) → n ≡ inputs_from t (d + 1) (d + 1 + 8 - (d + 1)) → n ≡ arity_at t d
unfolding arity_at
arity_counted t d n e = let s : d + 1 + 8 - (d + 1) ≡ 8 = omega arith in rw s at e

module _ (t : List ℕ) (d r : ℕ) (p : Bool) (e : r ≡ role_at t d) (f : p ≡ is_function_role r) where
  pub kind_function : (n : ℕ) → p ≡ true → n ≡ arity_at t d → n + 2 ≡ kind_at t d
  unfolding kind_at pick
  kind_function n q g = rw (← e, ← f, q, ← g)

  pub kind_variable : p ≡ false → r ≡ variable_role → 1 ≡ kind_at t d
  unfolding kind_at pick
  kind_variable q g = rw (← e, ← f, q, eq-eqb r variable_role g)

  pub kind_sort : p ≡ false → (r ≡ variable_role → ⊥) → 0 ≡ kind_at t d
  unfolding kind_at pick
  kind_sort q g = rw (← e, ← f, q, ne_eqb r variable_role g)

pub sort_found : (t : List ℕ) (d i : ℕ) → i ≡ next_with variable_sort t d (length t - d) → i ≡ sort_place t d
unfolding sort_place
sort_found t d i e = e

pub home_found : (t : List ℕ) (d i w : ℕ) → i ≡ last_with module_role t d → w ≡ word_at t i → w ≡ home_at t d
unfolding home_at
home_found t d i w e f = rw (← e) f

module _ (t : List ℕ) (d r : ℕ) (p : Bool) (e : r ≡ role_at t d) (f : p ≡ is_parameter_role r) where
  pub section_parameter : (i w : ℕ) → p ≡ true → i ≡ last_with parameter_role t d → w ≡ word_at t i → Parameter w ≡ section_at t d
  unfolding section_at pick
  section_parameter i w q g h = rw (← e, ← f, q, ← g, ← h)

  module _ (x : Bool) (g : x ≡ is_export_role r) (q : p ≡ false) where
    pub section_export : x ≡ true → Export ≡ section_at t d
    unfolding section_at pick
    section_export h = rw (← e, ← f, ← g, q, h)

    pub section_hidden : x ≡ false → Hidden ≡ section_at t d
    unfolding section_at pick
    section_hidden h = rw (← e, ← f, ← g, q, h)

pub origin_found : (t : List ℕ) (d w : ℕ) (s : Section) → w ≡ home_at t d → s ≡ section_at t d
    → ◌≡◌ {A = Origin} (record { home = w; section = s; place = d }) (origin_at t d)
unfolding origin_at
origin_found t d w s e f = rw (e, f)
