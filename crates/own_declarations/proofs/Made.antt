-- The ways through making rows, one law each: s are nine sorts, v a sort's word, b a test's answer.
use mathlib.Core.Path.{◌≡◌, refl, sym, ap, ◌∙◌}
use mathlib.Core.Bool.{Bool, true, false}
use mathlib.Core.List.{List, [], ◌∷◌, ◌++◌, map, map-append, append-nil, append_assoc}
use mathlib.Core.Logic.{inl}
use Prim.Native.Nat.{ℕ, suc, ◌+◌, ◌-◌, ◌*◌, ◌<◌, ◌≤◌}
use native.Mathlib.Numerals.{add-one, add-two}
use native.Mathlib.Omega.{arith}
use borrow.Author.Rules.{rules}
use borrow.Author.Tests.{ltb-true, ltb-false, ne_eqb}
use mir.Syntax.{w32}
use mir.Val.{Fits}
use lib.Dec.{eqb, ltb}
use lib.ListN.{length, get_or, set, take, drop, length-set, length-take, get_or-eq_default}
use lib.Seq.{sets, take-suc-set, take-set-le, get_or-set_same, get_or-take, get_or-drop}
use Rattle.meaning.specs.Lists.{pick}
use Rattle.tape.specs.Tape.{parameter_role, variable_role}
use Rattle.form_sections.specs.declared.Section.TheVariants.{Export, Hidden, Parameter}
use Rattle.form_sections.specs.SectionLaws.{IsWord}
use Rattle.form_rows.specs.Entries.{role_at, word_at, name_at, last_with, inputs_from, is_function_role, is_parameter_role, is_export_role, arity_at, section_at, origin_at, sort_place}
use Rattle.form_rows.specs.Kinds.{kind_at}
use Rattle.form_rows.specs.Rows.{sort_of, type_of, shape_of, item_of, row_at, row_words, row_size}
use Rattle.form_rows.specs.RowLaws.{row_back, inputs_short}
use Rattle.form_rows.specs.declared.Origin.{Origin}
use Rattle.form_rows.specs.declared.Row.{Row}
use Rattle.form.specs.Memory.{part, Same, Kept}
use Rattle.form.specs.Forms.{items_at}
use Rattle.form.specs.FormLaws.{kept_all, kept_wider, kept_then, kept_sets, kept_same, items_same, tape_same, items_grow}
use Rattle.own_declarations.specs.Sorts.{Ready, resolved_in}
use Rattle.own_declarations.specs.Items.{resolved_at, resolved_from, own_shape, own_item, InputSorts, OwnSorts, OwnRow, is_own, own_count, own_items, Roomy, Put, Appended}
use Rattle.own_declarations.specs.Frames.{item_same, count_short}
use Rattle.own_declarations.specs.declared.Own.{Own}

-- ---- sorts

-- the sorts of the first i of n inputs
pub record Gathering (text tape w : List ℕ) (own : Own) (d n : ℕ) (s : List ℕ) (i : ℕ) : Type 0 where
  pub nine : length s ≡ 9
  pub few : n ≤ 8
  pub within : i ≤ n
  pub so_far : map (sort_of text tape) (take i s) ++ resolved_from text tape w own (d + 1 + i) (n - i) ≡ resolved_from text tape w own (d + 1) n

module _ (text tape w : List ℕ) (own : Own) (d n : ℕ) (s : List ℕ) where
  pub gather_start : length s ≡ 9 → n ≤ 8 → Gathering text tape w own d n s 0
  gather_start l h =
      let z : d + 1 + 0 ≡ d + 1 = omega arith in
      let m : n - 0 ≡ n = omega arith in
      record { nine = l; few = h; within = omega arith; so_far = rw (z, m) }

  module _ (i : ℕ) (g : Gathering text tape w own d n s i) where
    pub gather_size : length s ≡ 9
    gather_size = g.nine

    pub gather_on : (v : ℕ) (s' : List ℕ) → i < n → sort_of text tape v ≡ resolved_in text tape w own (name_at text tape (d + 1 + i)) → s' ≡ set s i v
        → Gathering text tape w own d n s' (i + 1)
    unfolding resolved_from resolved_at
    gather_on v s' h e q =
        let m : n - i ≡ suc (n - (i + 1)) = omega arith in
        let j : suc (d + 1 + i) ≡ d + 1 + (i + 1) = omega arith in
        let k : i < length s = omega (arith, g.nine, g.few) in
        let first : map (sort_of text tape) (take (i + 1) s') ≡ map (sort_of text tape) (take i s) ++ (sort_of text tape v ∷ []) =
        rw (q, add-one i, take-suc-set s i v k) (map-append (sort_of text tape) (take i s) (v ∷ [])) in
        let old : map (sort_of text tape) (take i s) ++ (resolved_in text tape w own (name_at text tape (d + 1 + i)) ∷ resolved_from text tape w own (d + 1 + (i + 1)) (n - (i + 1)))
        ≡ resolved_from text tape w own (d + 1) n = rw (m, j) at g.so_far in
        record { nine = ap length q ∙ simp length-set g.nine; few = g.few; within = omega arith; so_far = rw (first, append_assoc, e) old }

    pub gather_end : n ≤ i → InputSorts text tape w own d n s
    unfolding resolved_from
    gather_end h =
        let m : n - i ≡ 0 = omega arith in
        let z : i ≡ n = omega (arith, g.within) in
        record { nine = g.nine; inputs = rw (m, append-nil, z) at g.so_far }

  pub sorts_function : (v : ℕ) (s' : List ℕ) → n ≤ 8 → InputSorts text tape w own d n s → sort_of text tape v ≡ resolved_in text tape w own (name_at text tape (d + 1 + n))
      → s' ≡ set s 8 v → OwnSorts text tape w own d (n + 2) s'
  unfolding shape_of type_of own_shape resolved_at pick
  sorts_function v s' h g e q =
      let k : 8 < length s = omega (arith, g.nine) in
      let m : n + 2 - 2 ≡ n = omega arith in
      record {
        nine = ap length q ∙ simp length-set g.nine;
        shape = rw (ne_eqb (n + 2) 0 (λ z. omega arith), ne_eqb (n + 2) 1 (λ z. omega arith), m, q, take-set-le n s 8 v h, get_or-set_same s 8 v 0 k, g.inputs, e, add-two n);
      }

  pub sorts_variable : (v i : ℕ) → n ≡ 1 → i ≡ sort_place tape d → sort_of text tape v ≡ resolved_in text tape w own (name_at text tape i)
      → length s ≡ 9 → get_or s 8 0 ≡ v → OwnSorts text tape w own d n s
  unfolding shape_of own_shape resolved_at pick
  sorts_variable v i z f e l q = record { nine = l; shape = rw (z, q, e, f) }

  pub sorts_none : n ≤ 1 → (n ≡ 1 → ⊥) → length s ≡ 9 → OwnSorts text tape w own d n s
  unfolding shape_of own_shape pick
  sorts_none h q l = let z : n ≡ 0 = omega arith in record { nine = l; shape = rw z }

  pub sorts_some : 1 < n → OwnSorts text tape w own d (n - 2 + 2) s → OwnSorts text tape w own d n s
  sorts_some h g = let z : n - 2 + 2 ≡ n = omega arith in rw z at g

-- ---- rows

pub kind_short : (t : List ℕ) (d k : ℕ) → k ≡ kind_at t d → k ≤ 10
unfolding kind_at arity_at pick
kind_short t d k e = rw e (go (is_function_role (role_at t d)) (eqb (role_at t d) variable_role) (inputs_short t (d + 1) 8))
  where
    go : (b v : Bool) → inputs_from t (d + 1) 8 ≤ 8 → pick b (inputs_from t (d + 1) 8 + 2) (pick v 1 0) ≤ 10
    go true v h = omega arith
    go false true h = omega arith
    go false false h = omega arith

-- words of the tape are words
part_fits : (w : List ℕ) (t : ℕ) → ((i : ℕ) → Fits w32 (get_or w i 0)) → (i : ℕ) → get_or (part w 0 t) i 0 < 4294967296
part_fits w t f i = go (ltb i (t - 0)) refl
  where
    go : (b : Bool) → ltb i (t - 0) ≡ b → get_or (part w 0 t) i 0 < 4294967296
    go true e =
        let h : i < t - 0 = ltb-true i (t - 0) e in
        rw (get_or-take (t - 0) (drop 0 w) i 0 h, get_or-drop 0 w i 0) (omega (arith, f (0 + i)))
    go false e =
        let h : t - 0 ≤ i = ltb-false i (t - 0) e in
        let l : length (part w 0 t) ≤ i = omega (arith, length-take (t - 0) (drop 0 w)) in
        rw (get_or-eq_default (part w 0 t) 0 l) (omega arith)

section_fits : (tape : List ℕ) → ((i : ℕ) → get_or tape i 0 < 4294967296) → (d : ℕ) → IsWord (section_at tape d)
unfolding section_at pick
section_fits tape f d = go (is_parameter_role (role_at tape d)) (is_export_role (role_at tape d))
  where
    go : (p x : Bool) → IsWord (pick p (Parameter (word_at tape (last_with parameter_role tape d))) (pick x Export Hidden))
    go true x = omega (arith, f (last_with parameter_role tape d))
    go false true = tt
    go false false = tt

pub row_made : (text w : List ℕ) (t : ℕ) (own : Own) (d kind name : ℕ) (o : Origin) (s : List ℕ) → ((i : ℕ) → Fits w32 (get_or w i 0))
    → kind ≡ kind_at (part w 0 t) d → OwnSorts text (part w 0 t) w own d kind s → name ≡ word_at (part w 0 t) d → o ≡ origin_at (part w 0 t) d
    → OwnRow text (part w 0 t) w own d (record { standing = o.section; name = name; kind = kind; origin = o; sorts = s })
unfolding item_of own_item origin_at
row_made text w t own d kind name o s f e g h q =
    let k : IsWord o.section = rw q (section_fits (part w 0 t) (part_fits w t f) d) in
    record {
      fits = record { standing_word = k; section_word = k; nine = g.nine };
      item = rw (g.shape, e, h, q);
    }

pub row_put : (text w w' : List ℕ) (t : ℕ) (own : Own) (base k d : ℕ) (r : Row) → OwnRow text (part w 0 t) w own d r
    → w' ≡ sets w (base + k * row_size) (row_words r) → Put text t own base k d w w'
unfolding row_words
row_put text w w' t own base k d r g q =
    let b = base + k * row_size in
    let l : length (row_words r) ≤ row_size = omega (arith, g.fits.nine) in
    record {
      kept = rw q (kept_wider b (b + length (row_words r)) b (b + row_size) w (sets w b (row_words r)) (omega arith) (omega arith)
          (kept_sets (row_words r) w b));
      item = λ h. rw (q, row_back w b r g.fits h) g.item;
    }

-- ---- all items: those before i are the rows from n up to k

pub record Appending (text : List ℕ) (t : ℕ) (own : Own) (hidden : Bool) (base n : ℕ) (w₀ w : List ℕ) (k i : ℕ) : Type 0 where
  pub ready : Ready w₀ t own
  pub roomy : Roomy t own hidden base n w₀
  pub begun : n ≤ k
  pub left : k + own_count (part w₀ 0 t) hidden i (own.end - i) ≡ n + own_count (part w₀ 0 t) hidden own.from (own.end - own.from)
  pub kept : Kept (base + n * row_size) (base + k * row_size) w₀ w
  pub so_far :
      items_at text (part w₀ 0 t) w base k ++ own_items text (part w₀ 0 t) w₀ own hidden i (own.end - i)
      ≡ items_at text (part w₀ 0 t) w₀ base n ++ own_items text (part w₀ 0 t) w₀ own hidden own.from (own.end - own.from)

pub append_start : (text : List ℕ) (t : ℕ) (own : Own) (hidden : Bool) (base n : ℕ) (w : List ℕ) → Ready w t own → Roomy t own hidden base n w
    → Appending text t own hidden base n w w n own.from
append_start text t own hidden base n w h l = record { ready = h; roomy = l; begun = omega arith; left = refl; kept = kept_all _ _ w; so_far = refl }

module _ (text : List ℕ) (t : ℕ) (own : Own) (hidden : Bool) (base n : ℕ) (w₀ w : List ℕ) (k i : ℕ) (g : Appending text t own hidden base n w₀ w k i) where
  pub append_ready : Ready w t own
  append_ready = record { tape = omega (arith, g.kept.size, g.ready.tape); small = g.ready.small }

  pub append_long : length w ≡ length w₀
  append_long = g.kept.size

  pub append_part : t ≤ length w
  append_part = append_ready.tape

  same_tape : part w 0 t ≡ part w₀ 0 t
  same_tape = tape_same w₀ w t g.kept.size (λ j h l. g.kept.below j (omega (arith, g.roomy.behind)))

  pub append_end : own.end ≤ i → Appended text t own hidden base n w₀ w k
  unfolding own_count own_items
  append_end h =
      let z : own.end - i ≡ 0 = omega arith in
      let c : k + 0 ≡ n + own_count (part w₀ 0 t) hidden own.from (own.end - own.from) = rw z at g.left in
      record { kept = g.kept; count = omega (arith, c); items = rw (z, append-nil) at g.so_far }

  module _ (b : Bool) (e : b ≡ is_own (part w 0 t) hidden i) (h : i < own.end) where
    one_less : own.end - i ≡ suc (own.end - (i + 1))
    one_less = omega arith

    own_there : is_own (part w₀ 0 t) hidden i ≡ b
    own_there = sym (e ∙ ap (λ (x : List ℕ). is_own x hidden i) same_tape)

    pub append_skip : b ≡ false → Appending text t own hidden base n w₀ w k (i + 1)
    unfolding own_count own_items pick
    append_skip q = record {
      ready = g.ready;
      roomy = g.roomy;
      begun = g.begun;
      left = rw (one_less, own_there ∙ q, ← add-one i) at g.left;
      kept = g.kept;
      so_far = rw (one_less, own_there ∙ q, ← add-one i) at g.so_far;
    }

    module _ (q : b ≡ true) where
      counted : k + suc (own_count (part w₀ 0 t) hidden (i + 1) (own.end - (i + 1))) ≡ n + own_count (part w₀ 0 t) hidden own.from (own.end - own.from)
      unfolding own_count pick
      counted = rw (one_less, own_there ∙ q, ← add-one i) at g.left

      pub append_fits : Fits w32 (k + 1)
      append_fits = omega (arith, counted, count_short (part w₀ 0 t) hidden own.from (own.end - own.from), g.ready.small, g.roomy.few)

      pub append_put : (w' : List ℕ) → Put text t own base k i w w' → Appending text t own hidden base n w₀ w' (k + 1) (i + 1)
      unfolding own_items pick
      append_put w' p =
          let c = counted in
          let room : base + k * row_size + row_size ≤ length w = omega (arith, c, g.roomy.room, g.kept.size) in
          let stays : Same own.rows (own.rows + own.count * row_size) w₀ w =
          kept_same (base + n * row_size) (base + (n + own_count (part w₀ 0 t) hidden own.from (own.end - own.from)) * row_size) own.rows (own.rows + own.count * row_size) w₀ w g.roomy.apart
          (kept_wider (base + n * row_size) (base + k * row_size) (base + n * row_size) (base + (n + own_count (part w₀ 0 t) hidden own.from (own.end - own.from)) * row_size) w₀ w (omega arith) (omega (arith, c)) g.kept) in
          let here : item_of text (part w₀ 0 t) (row_at w' (base + k * row_size)) ≡ own_item text (part w₀ 0 t) w₀ own i =
          rw same_tape at (p.item room) ∙ item_same text (part w₀ 0 t) w₀ w own stays i in
          let front : items_at text (part w₀ 0 t) w' base k ≡ items_at text (part w₀ 0 t) w base k =
          items_same w w' text (part w₀ 0 t) base k
          (kept_same (base + k * row_size) (base + k * row_size + row_size) base (base + k * row_size) w w' (inl (omega arith)) p.kept) in
          let all : items_at text (part w₀ 0 t) w' base (k + 1) ≡ items_at text (part w₀ 0 t) w base k ++ (own_item text (part w₀ 0 t) w₀ own i ∷ []) =
          rw (add-one k, items_grow text (part w₀ 0 t) w' base k, front, here) in
          let old : items_at text (part w₀ 0 t) w base k ++ (own_item text (part w₀ 0 t) w₀ own i ∷ own_items text (part w₀ 0 t) w₀ own hidden (i + 1) (own.end - (i + 1)))
          ≡ items_at text (part w₀ 0 t) w₀ base n ++ own_items text (part w₀ 0 t) w₀ own hidden own.from (own.end - own.from) =
          rw (one_less, own_there ∙ q, ← add-one i) at g.so_far in
          record {
            ready = g.ready;
            roomy = g.roomy;
            begun = omega (arith, g.begun);
            left = omega (arith, c);
            kept = kept_then (base + n * row_size) (base + (k + 1) * row_size) w₀ w w'
                (kept_wider (base + n * row_size) (base + k * row_size) (base + n * row_size) (base + (k + 1) * row_size) w₀ w (omega arith) (omega arith)
                g.kept)
                (kept_wider (base + k * row_size) (base + k * row_size + row_size) (base + n * row_size) (base + (k + 1) * row_size) w w'
                (omega (arith, g.begun)) (omega arith) p.kept);
            so_far = rw (all, append_assoc) old;
          }

pub ruleset making = (gather_start, gather_size, gather_on, gather_end, sorts_function, sorts_variable, sorts_none, sorts_some, kind_short, row_made, row_put, append_start, append_ready, append_long, append_part, append_end, append_skip, append_fits, append_put, rules)
