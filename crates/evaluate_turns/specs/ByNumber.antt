-- The module with a number: that there is one, its name on the tape, and where it begins and ends there.
use Rattle.std.specs.Prelude.{◌≡◌, refl, ℕ, zero, suc, ◌+◌, ◌-◌, ◌≤◌, ◌<◌, take, drop}
use Rattle.std.proofs.Math.Path.{sym, ap}
use Rattle.std.proofs.Common.{subst, ◌∙◌, drop-drop, length-take-le}
use native.Mathlib.Omega.{arith}
use mathlib.Core.List.{List, [], ◌∷◌, ◌++◌}
use Rattle.std.proofs.Math.ListN.{length, get_or, length-append}
use Rattle.std.proofs.lemmas.List.{length-map}
use Rattle.meaning.specs.Lists.{each, before}
use Rattle.meaning.specs.Names.{Name, same}
use Rattle.meaning.specs.OrderLaws.{Every, every_middle}
use Rattle.meaning.specs.Syntax.{Module}
use Rattle.meaning.specs.Reached.{module_names}
use Rattle.laws.specs.Distinct.{Fresh}
use Rattle.tape.specs.Tape.{flat_module, flat_modules, spelled, entries}
use Rattle.form_rows.specs.Entries.{name_at}
use Rattle.modules.specs.Modules.{names_of, declared, Heads}
use Rattle.modules.specs.ModuleLaws.{Spells, heads_number, declared_names}
use Rattle.modules.specs.ReachedLaws.{names_distinct, names_number, name_by_number, drop_some}
use Rattle.evaluate_module.specs.Heads.{split, begins_there, ends_there}
use Rattle.form_walks.specs.Lists.{each_append}

-- the module with number k, and those behind it
pub record ModuleAt (ms : List Module) (k : ℕ) : Type 0 where
  pub self : Module
  pub later : List Module
  pub here : drop k ms ≡ self ∷ later

pub module_at : (ms : List Module) (k : ℕ) → k < length ms → ModuleAt ms k
module_at [] k l = absurd (omega arith)
module_at (m ∷ ms) zero l = record { self = m; later = ms; here = refl }
module_at (m ∷ ms) (suc k) l =
    let x = module_at ms k (omega arith) in
    record { self = x.self; later = x.later; here = x.here }

pub drop_later : (k : ℕ) (ms ys : List Module) (m : Module) → drop k ms ≡ m ∷ ys → drop (k + 1) ms ≡ ys
drop_later k ms ys m e = sym (drop-drop 1 k ms) ∙ ap (drop 1) e

pub name_there : (text tape places : List ℕ) (c k j : ℕ) → j < c → get_or (names_of text tape places k c) j [] ≡ name_at text tape (get_or places (k + j) 0)
unfolding names_of
name_there text tape places zero k j l = absurd (omega arith)
name_there text tape places (suc c) k zero l = let z : k ≡ k + 0 = omega arith in ap (λ (i : ℕ). name_at text tape (get_or places i 0)) z
name_there text tape places (suc c) k (suc j) l =
    let z : suc k + j ≡ k + suc j = omega arith in
    name_there text tape places c (suc k) j (omega arith) ∙ ap (λ (i : ℕ). name_at text tape (get_or places i 0)) z

module _ (text tape : List ℕ) (n : ℕ) (ms : List Module) (h : Heads) (s : Spells text tape n ms h) where
  module _ (k : ℕ) (m : Module) (ys : List Module) (e : drop k ms ≡ m ∷ ys) where
    -- the name that stands where module k begins is its own
    pub own_name : name_at text tape (get_or h.places k 0) ≡ m.name
    unfolding declared
    own_name =
        let l : k < h.count = omega (arith, drop_some k ms ys m e, heads_number text tape n ms h s) in
        let z : 0 + k ≡ k = omega arith in
        ap (λ (i : ℕ). name_at text tape (get_or h.places i 0)) (sym z)
        ∙ sym (name_there text tape h.places h.count 0 k l)
        ∙ ap (λ (ds : List Name). get_or ds k []) (declared_names text tape n ms h s)
        ∙ name_by_number k ms ys m e

    -- the number of its name is its own
    pub own_number : Fresh [] ms → before (same m.name) (declared text tape h) ≡ k
    own_number f =
        ap (before (same m.name)) (declared_names text tape n ms h s)
        ∙ ap (λ (v : Name). before (same v) (module_names ms)) (sym (name_by_number k ms ys m e))
        ∙ names_distinct ms f k (omega (arith, drop_some k ms ys m e, names_number ms))

    entries_number : n ≡ length (flat_modules (take k ms)) + (length (flat_module m) + length (flat_modules ys))
    unfolding entries flat_modules each
    entries_number =
        sym (length-take-le n tape s.within)
        ∙ sym (length-map (take n tape) (spelled text))
        ∙ ap length (s.says ∙ ap (each flat_module) (split ms ys k m e) ∙ each_append flat_module (take k ms) (m ∷ ys))
        ∙ length-append (each flat_module (take k ms)) (flat_module m ++ each flat_module ys)
        ∙ ap (λ (c : ℕ). length (each flat_module (take k ms)) + c) (length-append (flat_module m) (each flat_module ys))

  -- the places of the modules rise, up to the end of the tape
  pub places_ordered : (j : ℕ) → j < h.count → get_or h.places j 0 ≤ get_or h.places (j + 1) 0
  places_ordered j l =
      let x = module_at ms j (omega (arith, heads_number text tape n ms h s)) in
      omega (arith, ends_there ms x.later j x.self x.here text tape n h s)

  pub places_within : (j : ℕ) → j < h.count → get_or h.places (j + 1) 0 ≤ n
  places_within j l =
      let x = module_at ms j (omega (arith, heads_number text tape n ms h s)) in
      let first = begins_there ms x.later j x.self x.here text tape n h s in
      omega (arith, first, ends_there ms x.later j x.self x.here text tape n h s, entries_number j x.self x.later x.here)

  -- each module has few entries
  pub places_few : Every (λ (m : Module). length (flat_module m) ≤ 32768) ms → (j : ℕ) → j < h.count
      → get_or h.places (j + 1) 0 - get_or h.places j 0 ≤ 32768
  places_few f j l =
      let x = module_at ms j (omega (arith, heads_number text tape n ms h s)) in
      let few : length (flat_module x.self) ≤ 32768 =
      every_middle (λ (m : Module). length (flat_module m) ≤ 32768) (take j ms) x.later x.self
      (subst (Every (λ (m : Module). length (flat_module m) ≤ 32768)) (split ms x.later j x.self x.here) f) in
      omega (arith, few, ends_there ms x.later j x.self x.here text tape n h s)
