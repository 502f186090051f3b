-- A module that a tape spells: its entries, its name, its parameters, exports and imports, and how other modules stand to it.
use Rattle.std.specs.Prelude.{◌≡◌, ℕ, suc, ◌+◌, ◌-◌, ◌<◌, ◌≤◌, Bool, true, false, leb, take, drop}
use Rattle.std.proofs.Math.Path.{refl, ap}
use Rattle.std.proofs.Common.{sym, ◌∙◌, take-append-drop, take_at, drop_at}
use native.Mathlib.Omega.{arith}
use Rattle.std.proofs.Math.Bool.{not, ◌&&◌}
use mathlib.Core.List.{List, [], ◌∷◌, ◌++◌}
use Rattle.std.proofs.Math.ListN.{length, length-append, length-map}
use Rattle.std.proofs.Math.Seq.{length-take-le}
use borrow.Author.Tests.{lt-ltb, leb-true, leb-false}
use Rattle.meaning.specs.Lists.{pick, each, before}
use Rattle.meaning.specs.Names.{Name, same, member}
use Rattle.meaning.specs.Syntax.{Module}
use Rattle.meaning.specs.Evaluate.{named_by, missing, too_late}
use Rattle.meaning.specs.Reached.{Placed, module_names}
use Rattle.tape.specs.Roles.{all_signature, all_parameters, each_import}
use Rattle.tape.specs.Tape.{Entry, entry, flat_signature, flat_parameter, flat_import, flat_group, flat_equation, flat_module, flat_modules, spelled, entries, module_role, export_sort, export_function, hidden_sort, hidden_function}
use Rattle.ask_tape.specs.Parts.{Passing, Ends}
use Rattle.ask_tape.specs.Told.{head_ends, exports_end, imports_end}
use Rattle.form_rows.specs.Entries.{name_at}
use Rattle.ask_alike.specs.Alike.{entries_from, between, declaring, section_role, run_size, the_parameters, the_exports, the_imports}
use Rattle.ask_alike.specs.AlikeLaws.{entries_part, first_entries, last_entries, OfSection, BehindSection, run_length}
use Rattle.modules.specs.Modules.{declared, named_in, Heads}
use Rattle.form_walks.specs.Lists.{each_append}
use Rattle.modules.specs.ModuleLaws.{Spells, heads_number, declared_names, begin, end}
use Rattle.modules.specs.Members.{member_found, member_absent, member_early, member_late}
use Rattle.modules.specs.ReachedLaws.{names_number, drop_some}
use Rattle.modules.specs.Meant.{Earlier, named_there}
use Rattle.ask_objections.specs.Objections.{place, module_entries, body_start, section_from, section_start, section_entries, standing}

-- x is a module of ms with its number, and its earlier names are those of the modules before it
pub record PlacedIn (ms : List Module) (x : Placed) : Type 0 where
  pub later : List Module
  pub here : drop x.number ms ≡ x.self ∷ later
  pub before : Earlier (module_names ms) x.number x.earlier

behind_section : (s : ℕ) (es : List Entry) → Ends (section_role s) es → BehindSection s es
behind_section s [] h = tt
behind_section s (e ∷ es) h = h

name_of_first : (e f : Entry) → e ∷ [] ≡ f ∷ [] → e.name ≡ f.name
name_of_first e f q = cc

module _ (text tape : List ℕ) (t : ℕ) (ms : List Module) (h : Heads) (s : Spells text tape t ms h) (x : Placed) (p : PlacedIn ms x) where
  abbrev k : ℕ
  k = x.number

  abbrev m : Module
  m = x.self

  -- where it begins, and how many entries it has
  abbrev from : ℕ
  from = length (flat_modules (take k ms))

  abbrev size : ℕ
  size = length (flat_module m)

  -- ---- its entries

  before_it : length (take k ms) ≡ k
  before_it = length-take-le k ms (omega (arith, drop_some k ms p.later m p.here))

  split : ms ≡ take k ms ++ (m ∷ p.later)
  split = sym (take-append-drop k ms) ∙ ap (λ (r : List Module). take k ms ++ r) p.here

  begins : place h k ≡ from
  begins = ap (place h) (sym before_it) ∙ begin text tape t ms h s (take k ms) m p.later split

  ends : place h (k + 1) ≡ from + size
  ends = ap (λ (j : ℕ). place h (j + 1)) (sym before_it) ∙ end text tape t ms h s (take k ms) m p.later split

  whole : entries text t tape ≡ flat_modules (take k ms) ++ (flat_module m ++ flat_modules p.later)
  unfolding flat_modules each
  whole = s.says ∙ ap (each flat_module) split ∙ each_append flat_module (take k ms) (m ∷ p.later)

  inside : from + size ≤ t
  unfolding entries
  inside =
      omega (
        arith,
        length-take-le t tape s.within,
        length-map (take t tape) (spelled text),
        ap length whole,
        length-append (flat_modules (take k ms)) (flat_module m ++ flat_modules p.later),
        length-append (flat_module m) (flat_modules p.later),
      )

  spelled_there : entries_from text tape from size ≡ flat_module m
  spelled_there =
      entries_part text tape t from size inside s.within
      ∙ ap (λ (es : List Entry). take size (drop from es)) whole
      ∙ ap (take size) (drop_at (flat_modules (take k ms)) _ from refl)
      ∙ take_at (flat_module m) (flat_modules p.later) size refl

  pub module_spelled : module_entries text tape h k ≡ flat_module m
  unfolding module_entries
  module_spelled =
      let left : from + size - from ≡ size = omega arith in
      rw (begins, ends, left) spelled_there

  -- its name stands at its first
  pub name_spelled : name_at text tape (place h k) ≡ m.name
  unfolding entries_from flat_module spelled
  name_spelled = rw begins (name_of_first _ _ (first_entries text tape from size (entry module_role m.name ∷ []) _ spelled_there))

  -- ---- its sections

  -- the entries from a section on
  abbrev FromSection : ℕ → List Entry → Type 0
  FromSection i es = entries_from text tape (section_start tape h k i) (place h (k + 1) - section_start tape h k i) ≡ es

  module _ (i : ℕ) (xs ys : List Entry) (q : FromSection i (xs ++ ys)) (o : OfSection i xs) (b : BehindSection i ys) where
    abbrev start : ℕ
    start = section_start tape h k i

    abbrev left : ℕ
    left = place h (k + 1) - start

    number : run_size i tape start left ≡ length xs
    number = run_length text tape i start left xs ys q o b

    section_is : section_entries text tape h k i ≡ xs
    unfolding section_entries
    section_is = rw number (first_entries text tape start left xs ys q)

    section_on : FromSection (suc i) ys
    unfolding section_start section_from
    section_on =
        let less : place h (k + 1) - (start + length xs) ≡ left - length xs = omega arith in
        rw (number, less) (last_entries text tape start left xs ys q)

  abbrev after_imports : List Entry
  after_imports = flat_signature hidden_sort hidden_function m.hidden ++ (each flat_group m.groups ++ each flat_equation m.equations)

  abbrev after_exports : List Entry
  after_exports = each flat_import m.imports ++ after_imports

  abbrev after_parameters : List Entry
  after_parameters = flat_signature export_sort export_function m.exports ++ after_exports

  parameters_from : FromSection 0 (each flat_parameter m.parameters ++ after_parameters)
  unfolding section_start section_from body_start flat_module pick
  parameters_from =
      let some : from < from + size = omega arith in
      let less : from + size - (from + 1) ≡ size - 1 = omega arith in
      rw (begins, ends, lt-ltb from (from + size) some, less) (last_entries text tape from size (entry module_role m.name ∷ []) _ spelled_there)

  parameters_of : OfSection the_parameters (each flat_parameter m.parameters)
  unfolding section_role declaring between pick
  parameters_of = all_parameters (Passing (section_role the_parameters)) refl refl refl refl refl m.parameters

  parameters_end : BehindSection the_parameters after_parameters
  unfolding section_role declaring between pick
  parameters_end = behind_section the_parameters after_parameters (head_ends (section_role the_parameters) m refl refl refl refl refl refl refl refl)

  exports_of : OfSection the_exports (flat_signature export_sort export_function m.exports)
  unfolding section_role declaring between pick
  exports_of = all_signature (Passing (section_role the_exports)) 5 6 refl refl refl refl m.exports

  exports_behind : BehindSection the_exports after_exports
  unfolding section_role declaring between pick
  exports_behind = behind_section the_exports after_exports (exports_end (section_role the_exports) m refl refl refl refl refl refl)

  imports_of : OfSection the_imports (each flat_import m.imports)
  unfolding section_role declaring between pick
  imports_of = each_import (Passing (section_role the_imports)) refl refl refl refl refl refl m.imports

  imports_behind : BehindSection the_imports after_imports
  unfolding section_role declaring between pick
  imports_behind = behind_section the_imports after_imports (imports_end (section_role the_imports) m refl refl refl refl refl)

  exports_from : FromSection 1 after_parameters
  exports_from = section_on 0 (each flat_parameter m.parameters) after_parameters parameters_from parameters_of parameters_end

  imports_from : FromSection 2 after_exports
  imports_from = section_on 1 (flat_signature export_sort export_function m.exports) after_exports exports_from exports_of exports_behind

  pub parameters_spelled : section_entries text tape h k the_parameters ≡ each flat_parameter m.parameters
  parameters_spelled = section_is 0 (each flat_parameter m.parameters) after_parameters parameters_from parameters_of parameters_end

  pub exports_spelled : section_entries text tape h k the_exports ≡ flat_signature export_sort export_function m.exports
  exports_spelled = section_is 1 (flat_signature export_sort export_function m.exports) after_exports exports_from exports_of exports_behind

  pub imports_spelled : section_entries text tape h k the_imports ≡ each flat_import m.imports
  imports_spelled = section_is 2 (each flat_import m.imports) after_imports imports_from imports_of imports_behind

  -- ---- the modules that it names

  pub names_spelled : named_in text tape h k ≡ named_by m
  names_spelled = named_there text tape t ms h s k m p.later p.here

  -- a name stands nowhere, too late or before it, as it is missing, late or neither
  pub stands_as : (w : Name)
      → standing h.count k (before (same w) (declared text tape h))
      ≡ pick (missing (module_names ms) w) 0 (pick (too_late (module_names ms) x.earlier w) 1 2)
  unfolding standing missing too_late not ◌&&◌ pick
  stands_as w = rw (declared_names text tape t ms h s, count_so, p.before w) (go (leb (length ds) n) refl)
    where
      ds : List Name
      ds = module_names ms

      n : ℕ
      n = before (same w) ds

      count_so : h.count ≡ length ds
      count_so = heads_number text tape t ms h s ∙ sym (names_number ms)

      late : (b : Bool) → leb k n ≡ b → n < length ds → ◌≡◌ {A = ℕ} (pick b 1 2) (pick (not (member w (take k ds))) 1 2)
      late true e l = rw (member_late w ds k (leb-true k n e))
      late false e l = rw (member_early w ds k (leb-false k n e) l)

      go : (b : Bool) → leb (length ds) n ≡ b
          → ◌≡◌ {A = ℕ} (pick b 0 (pick (leb k n) 1 2)) (pick (not (member w ds)) 0 (pick (member w ds && not (member w (take k ds))) 1 2))
      go true e = rw (member_absent w ds (leb-true (length ds) n e))
      go false e =
          let l : n < length ds = leb-false (length ds) n e in
          rw (member_found w ds l) (late (leb k n) refl l)
