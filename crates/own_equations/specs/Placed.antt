-- Where a module's equations begin among its entries: at the first tag.
use Rattle.std.specs.Prelude.{◌≡◌}
use Rattle.std.proofs.Math.Path.{refl}
use Rattle.std.proofs.Common.{ap, ◌∙◌, length-append}
use mathlib.Core.List.{List, [], ◌∷◌, ◌++◌, append_assoc}
use Prim.Native.Nat.{ℕ, suc, ◌+◌, ◌-◌, ◌*◌, ◌<◌, ◌≤◌}
use native.Mathlib.Omega.{arith}
use borrow.Author.Tests.{ne_eqb}
use Rattle.std.proofs.Math.ListN.{length}
use Rattle.meaning.specs.Lists.{pick, each}
use Rattle.meaning.specs.Syntax.{Equation, Module}
use Rattle.tape.specs.Roles.{All, all_append, all_signature, all_parameters, all_imports, all_groups}
use Rattle.tape.specs.Tape.{Entry, entry, module_role, export_sort, export_function, hidden_sort, hidden_function, tag_role, condition_role, conclusion_role, flat_signature, flat_parameter, flat_import, flat_group, flat_term, flat_sides, flat_equation, flat_module, flat_modules, entries}
use Rattle.form_rows.specs.Entries.{next_with}
use Rattle.form.specs.Forms.{equation_size}
use Rattle.own_declarations.specs.Spelled.{Spells, spells_front, spells_behind, entries_spelled}
use Rattle.own_finding.specs.declared.Known.{Known}
use Rattle.own_terms.specs.Typing.{tape_in}
use Rattle.own_terms.specs.Meant.{begins}
use Rattle.form_walks.specs.Lists.{each_append}
use Rattle.own_terms.specs.Meant as typer

-- a module's entries in front of its equations
unfoldable pub in_front : Module → List Entry
in_front m =
    entry module_role m.name
    ∷ (each flat_parameter m.parameters
    ++ (flat_signature export_sort export_function m.exports
    ++ (each flat_import m.imports ++ (flat_signature hidden_sort hidden_function m.hidden ++ each flat_group m.groups))))

pub module_split : (m : Module) → flat_module m ≡ in_front m ++ each flat_equation m.equations
unfolding flat_module in_front
module_split m = simp append_assoc

-- no tag stands among them
front_low : (m : Module) → All (λ (r : ℕ). r < 19) (in_front m)
unfolding in_front
front_low m = (
  omega arith,
  all_append P (each flat_parameter m.parameters) _ (all_parameters P (omega arith) (omega arith) (omega arith) (omega arith) (omega arith) m.parameters)
      (all_append P (flat_signature export_sort export_function m.exports) _
      (all_signature P export_sort export_function (omega arith) (omega arith) (omega arith) (omega arith) m.exports)
      (all_append P (each flat_import m.imports) _ (all_imports P (λ r h l. omega arith) m.imports)
      (all_append P (flat_signature hidden_sort hidden_function m.hidden) (each flat_group m.groups)
      (all_signature P hidden_sort hidden_function (omega arith) (omega arith) (omega arith) (omega arith) m.hidden)
      (all_groups P (omega arith) (omega arith) m.groups)))),
)
  where
    P : ℕ → Type 0
    P r = r < 19

-- a module's entries, where the tape spells those of all modules
pub module_spelled : (text tape : List ℕ) (n : ℕ) (xs ys : List Module) (m : Module) → entries text n tape ≡ flat_modules (xs ++ (m ∷ ys))
    → Spells text tape (length (flat_modules xs)) (flat_module m)
unfolding flat_modules each
module_spelled text tape n xs ys m e =
    let all = rw (e, each_append flat_module xs (m ∷ ys)) at (entries_spelled text tape n) in
    let place : 0 + length (each flat_module xs) ≡ length (each flat_module xs) = omega arith in
    spells_front text tape (flat_module m) (each flat_module ys) (length (each flat_module xs))
    (rw place at (spells_behind text tape (each flat_module xs) (flat_module m ++ each flat_module ys) 0 all))

-- ---- an equation has four entries at the least: its tag, two terms, and what they are

equation_entries : (e : Equation) → 4 ≤ length (flat_equation e)
unfolding flat_equation flat_sides
equation_entries e =
    let l = begins e.conclusion.left in
    let r = begins e.conclusion.right in
    let a = each (flat_sides condition_role) e.before in
    let b = each (flat_sides condition_role) e.after in
    let x = flat_term e.conclusion.left in
    let y = flat_term e.conclusion.right in
    let mark = entry conclusion_role [] ∷ [] in
    let sides = length-append x (y ++ mark) ∙ ap (λ (n : ℕ). length x + n) (length-append y mark) in
    omega (arith, length-append a ((x ++ (y ++ mark)) ++ b), length-append (x ++ (y ++ mark)) b, sides, ap length l.same, ap length r.same)

pub equations_size : (es : List Equation) → 4 * length es ≤ length (each flat_equation es)
unfolding each
equations_size [] = omega arith
equations_size (e ∷ es) = omega (arith, equation_entries e, equations_size es, length-append (flat_equation e) (each flat_equation es))

pub record EquationsRoom (m : Module) (i end : ℕ) : Type 0 where
  pub entries : length (each flat_equation m.equations) ≡ end - i
  pub rows : length m.equations * equation_size ≤ 2 * (end - i)

-- ---- on the tape

module _ (text tape : List ℕ) where
  next_over : (es : List Entry) (i c : ℕ) → All (λ (r : ℕ). r < 19) es → Spells text tape i es
      → next_with tag_role tape i (length es + c) ≡ next_with tag_role tape (i + length es) c
  unfolding next_with pick
  next_over [] i c l s = let e : i + 0 ≡ i = omega arith in let d : 0 + c ≡ c = omega arith in rw (e, d)
  next_over (x ∷ es) i c l s =
      let n : suc (length es) + c ≡ suc (length es + c) = omega arith in
      let e : i + suc (length es) ≡ suc i + length es = omega arith in
      rw (n, s.0, ne_eqb x.role 19 (λ q. let z = l.0 in omega arith), e) (next_over es (suc i) c l.1 s.2)

  next_there : (es : List Equation) (i : ℕ) → Spells text tape i (each flat_equation es) → next_with tag_role tape i (length (each flat_equation es)) ≡ i
  unfolding next_with each flat_equation pick
  next_there [] i s = refl
  next_there (e ∷ es) i s = rw s.0

  module _ (m : Module) (a : ℕ) (s : Spells text tape a (flat_module m)) where
    -- the entries of the equations
    pub equations_spelled : Spells text tape (a + length (in_front m)) (each flat_equation m.equations)
    equations_spelled = spells_behind text tape (in_front m) (each flat_equation m.equations) a (rw (module_split m) at s)

    pub equations_begin : (end : ℕ) → a + length (flat_module m) ≡ end → next_with tag_role tape a (end - a) ≡ a + length (in_front m)
    equations_begin end e =
        let es = each flat_equation m.equations in
        let n : end - a ≡ length (in_front m) + length es = omega (arith, ap length (module_split m), length-append (in_front m) es) in
        rw n
        (next_over (in_front m) a (length es) (front_low m) (spells_front text tape (in_front m) es a (rw (module_split m) at s))
        ∙ next_there m.equations (a + length (in_front m)) equations_spelled)

    -- how many entries the equations have from their first tag on, and that twice as many words hold their rows
    pub equations_room : (end : ℕ) → a + length (flat_module m) ≡ end → EquationsRoom m (next_with tag_role tape a (end - a)) end
    equations_room end e =
        let es = each flat_equation m.equations in
        let n = ap length (module_split m) ∙ length-append (in_front m) es in
        rw (equations_begin end e) (record { entries = omega (arith, n); rows = omega (arith, n, equations_size m.equations) })

-- what stands on the tape, as the typer reads it
pub typer_spelled : (text : List ℕ) (k : Known) (w : List ℕ) (es : List Entry) (i : ℕ) → Spells text (tape_in k w) i es → i + length es ≤ k.tape
    → typer.Spells text k w i es
typer_spelled text k w [] i s h = tt
typer_spelled text k w (e ∷ es) i s h = (omega arith, s.0, s.1, typer_spelled text k w es (suc i) s.2 (omega arith))
