-- A tape that spells modules: what a diagram shows of module k there is what it shows of the module.
use Rattle.std.specs.Prelude.{◌≡◌, List, [], ◌∷◌, ◌++◌, map, take, drop}
use Rattle.std.proofs.Math.Path.{refl, sym, ap}
use Rattle.std.proofs.Common.{◌∙◌, drop-cons}
use Prim.Native.Nat.{ℕ, zero, suc, ◌+◌, ◌-◌, ◌<◌, ◌≤◌}
use native.Mathlib.Omega.{arith}
use Rattle.std.proofs.Math.ListN.{length, length-map, length-take, length-drop}
use Rattle.meaning.specs.Names.{Name}
use Rattle.meaning.specs.Syntax.{Parameter, Module}
use Rattle.text_names.specs.Word.{name_of, no_name}
use Rattle.tape.specs.Tape.{Entry, flat_module, flat_modules, spelled}
use Rattle.form_rows.specs.Entries.{word_at, name_at}
use Rattle.form_walks.specs.Flat.{names_with}
use Rattle.modules.specs.Modules.{Heads, picked}
use Rattle.modules.specs.ModuleLaws.{Spells, begin, end, module_entries}
use Rattle.diagram_meaning.specs.Diagram.{expressions_of}
use Rattle.diagram_boxes.specs.Boxes.{is_parameter, bindings_from, expressions_from, begin_of, end_of}
use Rattle.diagram_boxes.specs.Flat.{bindings_in, expressions_in, flat_parameters, flat_expressions}

-- ---- words and entries

module _ (text tape : List ℕ) where
  bindings_entries : (q i c : ℕ) → i + c ≤ length tape → bindings_from text tape q i c ≡ bindings_in (name_of text q) (map (spelled text) (take c (drop i tape)))
  unfolding bindings_from bindings_in spelled
  bindings_entries q i zero h = refl
  bindings_entries q i (suc c) h =
      let l : i < length tape = omega arith in
      let bound = bindings_entries (word_at tape i) (suc i) c (omega arith) in
      let other = bindings_entries q (suc i) c (omega arith) in
      rw (drop-cons tape i 0 l, bound, other)

  expressions_entries : (i c : ℕ) → i + c ≤ length tape → expressions_from text tape i c ≡ expressions_in (map (spelled text) (take c (drop i tape)))
  unfolding expressions_from expressions_in spelled
  expressions_entries i zero h = refl
  expressions_entries i (suc c) h =
      let l : i < length tape = omega arith in
      let more = expressions_entries (suc i) c (omega arith) in
      let bound = bindings_entries 0 (suc i) c (omega arith) ∙ ap (λ (q : Name). bindings_in q (map (spelled text) (take c (drop (suc i) tape)))) (no_name text) in
      rw (drop-cons tape i 0 l, more, bound)

  parameters_entries : (i c : ℕ) → i + c ≤ length tape → picked is_parameter text tape i c ≡ names_with is_parameter (map (spelled text) (take c (drop i tape)))
  unfolding picked names_with spelled
  parameters_entries i zero h = refl
  parameters_entries i (suc c) h =
      let l : i < length tape = omega arith in
      let more = parameters_entries (suc i) c (omega arith) in
      rw (drop-cons tape i 0 l, more)

-- ---- module m, which is number length xs

module _ (text tape : List ℕ) (n : ℕ) (ms : List Module) (h : Heads) (s : Spells text tape n ms h) (xs : List Module) (m : Module) (ys : List Module)
    (e : ms ≡ xs ++ (m ∷ ys)) where
  abbrev a : ℕ
  a = length (flat_modules xs)

  abbrev c : ℕ
  c = length (flat_module m)

  begins : begin_of h (length xs) ≡ a
  begins = begin text tape n ms h s xs m ys e

  ends : end_of h (length xs) ≡ a + c
  ends = end text tape n ms h s xs m ys e

  spell : map (spelled text) (take c (drop a tape)) ≡ flat_module m
  spell = module_entries text tape n ms h s xs m ys e

  inside : a + c ≤ length tape
  unfolding flat_module
  inside =
      let size : length (map (spelled text) (take c (drop a tape))) ≡ c = ap length spell in
      omega (arith, size, length-map (take c (drop a tape)) (spelled text), length-take c (drop a tape), length-drop a tape)

  size : end_of h (length xs) - begin_of h (length xs) ≡ c
  size = omega (arith, begins, ends)

  pub module_expressions : expressions_from text tape (begin_of h (length xs)) (end_of h (length xs) - begin_of h (length xs)) ≡ expressions_of m
  module_expressions =
      rw (size, begins) (expressions_entries text tape a c inside ∙ ap expressions_in spell ∙ flat_expressions m)

  pub module_parameters : picked is_parameter text tape (begin_of h (length xs)) (end_of h (length xs) - begin_of h (length xs))
      ≡ map (λ (p : Parameter). p.name) m.parameters
  module_parameters =
      rw (size, begins) (parameters_entries text tape a c inside ∙ ap (names_with is_parameter) spell ∙ flat_parameters m)

  first_name : List Entry → Name
  first_name [] = []
  first_name (x ∷ es) = x.name

  pub module_name : name_at text tape (begin_of h (length xs)) ≡ m.name
  unfolding flat_module spelled first_name
  module_name =
      let l : a < length tape = omega (arith, inside) in
      ap (name_at text tape) begins ∙ sym (rw (drop-cons tape a 0 l) refl) ∙ ap first_name spell
