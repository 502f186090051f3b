-- A tape that says what was read, with its heads: the name that stands at a module's head is its name in the meaning (ask_decision/specs/Decide.antt).
use Rattle.std.specs.Prelude.{◌≡◌}
use Rattle.std.proofs.Math.Path.{refl, sym, ap}
use Rattle.std.proofs.Common.{◌∙◌, arith, get_or-take}
use Prim.Native.Nat.{ℕ, zero, suc, ◌<◌, ◌≤◌}
use mathlib.Core.List.{List, [], ◌∷◌, map}
use Rattle.std.proofs.Math.ListN.{length, get_or, take, get_or-eq_default}
use Rattle.std.proofs.Math.Seq.{length-take-le}
use Rattle.meaning.specs.Names.{Name}
use Rattle.meaning.specs.Syntax.{Module}
use Rattle.meaning.specs.Texts.{Texts, Reading, read_texts}
use Rattle.meaning.specs.Reached.{module_names}
use Rattle.text_names.specs.Word.{name_of}
use Rattle.form_rows.specs.Entries.{word_at, name_at}
use Rattle.answer.specs.declared.Name as Held
use Rattle.answer.specs.Answers.{held}
use Rattle.ask_decision.specs.Decide.{names_read, module_called}
use Rattle.modules.specs.Modules.{HeadsOf, declared, Heads}
use Rattle.modules.specs.ModuleLaws.{Spells, heads_number, declared_names, names_by_number}
use Rattle.modules.specs.ReachedLaws.{names_number}
use Rattle.ask_names.specs.Steps.{Spoken}

module _ (x : Reading) (text tape : List ℕ) (spoken : Spoken x text tape) (h : Heads) (heads : HeadsOf tape (length tape) h) where
  pub spells : Spells text tape (length tape) spoken.modules h
  spells = record { within = omega arith; says = spoken.said; few = spoken.few; begun = heads }

  pub count_so : h.count ≡ length (module_names spoken.modules)
  count_so = heads_number text tape (length tape) spoken.modules h spells ∙ sym (names_number spoken.modules)

-- the name of a module by its number
module _ (t : Texts) (text tape : List ℕ) (spoken : Spoken (read_texts t) text tape) (h : Heads) (heads : HeadsOf tape (length tape) h) (k : ℕ)
    (r : Held.Name) where
  abbrev all : List Module
  all = spoken.modules

  names_so : module_called t k ≡ get_or (module_names all) k []
  unfolding module_called names_read
  names_so = ap (λ (x : Reading). get_or (names_read x) k []) spoken.read_so

  pub name_absent : (count : ℕ) → count ≡ h.count → count ≤ k → r ≡ held [] → r ≡ held (module_called t k)
  name_absent count c l e =
      let few : length (module_names all) ≤ k = omega (arith, c, l, count_so (read_texts t) text tape spoken h heads) in
      e ∙ ap held (sym (names_so ∙ get_or-eq_default (module_names all) [] few))

  pub name_there : (w count : ℕ) → count ≡ h.count → k < count → w ≡ word_at tape (get_or h.places k 0) → r ≡ held (name_of text w)
      → r ≡ held (module_called t k)
  unfolding declared
  name_there w count c below e f =
      let l : k < h.count = omega (arith, c, below) in
      let places = take h.count h.places in
      let in_it : length places ≡ h.count = length-take-le h.count h.places (omega (arith, heads.few, heads.size)) in
      let named_so : get_or (module_names all) k [] ≡ name_at text tape (get_or h.places k 0) =
      ap (λ (ds : List Name). get_or ds k []) (sym (declared_names text tape (length tape) all h (spells (read_texts t) text tape spoken h heads))
      ∙ names_by_number text tape h.places 0 h.count (omega (arith, heads.few, heads.size)))
      ∙ mapped (name_at text tape) places k (omega (arith, l, in_it))
      ∙ ap (name_at text tape) (get_or-take h.count h.places k 0 l) in
      f ∙ ap held (ap (name_of text) e ∙ sym (names_so ∙ named_so))
    where
      mapped : (g : ℕ → Name) (xs : List ℕ) (i : ℕ) → i < length xs → get_or (map g xs) i [] ≡ g (get_or xs i 0)
      mapped g [] i l = absurd (omega arith)
      mapped g (x ∷ xs) zero l = refl
      mapped g (x ∷ xs) (suc i) l = mapped g xs i (omega arith)
