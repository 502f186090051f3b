-- A module's own form in memory, as the code makes it, and that it stands for what the meaning makes of the module's equations.
use Rattle.std.specs.Prelude.{◌≡◌, refl, List, ℕ, ◌+◌, ◌-◌, ◌≤◌, length}
use Rattle.std.proofs.Common.{ap, ◌∙◌, arith, length-append}
use Rattle.meaning.specs.Lists.{each}
use Rattle.meaning.specs.Names.{Name}
use Rattle.meaning.specs.Syntax.{Module, variables_of}
use Rattle.meaning.specs.Origins.{hidden_section, ResolvedEquation}
use Rattle.meaning.specs.OrderLaws.{Every}
use Rattle.meaning.specs.Normal.{Visible, Normal}
use Rattle.meaning.specs.Checks.{fine, ◌>>=◌}
use Rattle.meaning.specs.Own.{own_sort, own_function, own_variable, own_hidden_items}
use Rattle.meaning.specs.Evaluate.{own_equations}
use Rattle.laws.specs.EveryLaws.{every_all}
use Rattle.laws.specs.OwnItems.{section_made, hidden_every}
use Rattle.invariants.specs.Limits.{NodesWithin}
use Rattle.tape.specs.Tape.{tag_role, flat_equation, flat_module}
use Rattle.form_rows.specs.Entries.{next_with}
use Rattle.form.specs.declared.Form.{Form}
use Rattle.form.specs.Verdicts.{Made}
use Rattle.form.specs.Memory.{part}
use Rattle.own_declarations.specs.Spelled.{Spells}
use Rattle.own_typing.specs.Equations.{equations_from}
use Rattle.own_terms.specs.Meant.{visibly}
use Rattle.own_typing.specs.Typed.{known_in, module_in, own_made, Seen, Unseen, OwnLaid, OwnTyped, own_typed}
use Rattle.own_equations.specs.Placed.{in_front, module_split, equations_spelled, equations_begin, typer_spelled, equations_size}

-- the answer, and the memory as it is then
pub record Owned : Type 0 where
  pub answer : Made
  pub memory : List ℕ

abbrev pub owned : Made → List ℕ → Owned
owned r w = record { answer = r; memory = w }

unfoldable pub own_at : List ℕ → ℕ → Form → ℕ → ℕ → ℕ → List ℕ → Owned
own_at text t f home from end w =
    let i = next_with tag_role (part w 0 t) from (end - from) in
    let o = equations_from text (known_in t f) (module_in f home end) t 0 i f.nodes w in
    owned (own_made f o.answer) o.memory

-- ---- M's own hidden items stand hidden

own_unseen : (m : Module) (seen : List Name) → Every Unseen (own_hidden_items m seen)
unfolding own_sort own_function own_variable visibly
own_unseen m seen =
    hidden_every Unseen m seen (section_made Unseen m seen hidden_section (λ a. refl) (λ f. refl) m.hidden) (every_all _ (λ v. refl) (variables_of m))

-- ---- the form

-- the visible part v, and M's own hidden part with the equations
unfoldable pub own_form : Module → List Name → Visible → List ResolvedEquation → Normal
own_form m seen v rs = record { visible = v; hidden = record { items = own_hidden_items m seen; equations = rs } }

-- module number `home` has the entries from `from` up to `end`, and no equation has more nodes than a text's may have
pub own_equations_stand : (text : List ℕ) (t : ℕ) (f : Form) (home from end high : ℕ) (w : List ℕ) (m : Module) (seen : List Name) (v : Visible)
    → OwnLaid text t f v (own_hidden_items m seen) (length m.equations) (length (each flat_equation m.equations)) high w → Every Seen v.items
    → Spells text (part w 0 t) from (flat_module m) → from + length (flat_module m) ≡ end → end ≤ t → Every NodesWithin m.equations
    → (r : Made) (w' : List ℕ) → owned r w' ≡ own_at text t f home from end w
    → OwnTyped text t f high w w' r (own_equations home m seen v >>= (λ rs. fine (own_form m seen v rs)))
unfolding own_at own_equations own_form in_front
own_equations_stand text t f home from end high w m seen v laid visible s e h small r w' q =
    let es = m.equations in
    let size = ap length (module_split m) ∙ length-append (in_front m) (each flat_equation es) in
    let i = equations_begin text (part w 0 t) m from s end e in
    let at = equations_spelled text (part w 0 t) m from s in
    let o = equations_from text (known_in t f) (module_in f home end) t 0 (from + length (in_front m)) f.nodes w in
    let made =
    own_typed text t f v (own_hidden_items m seen) (length es) (length (each flat_equation es)) high home end w laid visible (own_unseen m seen) es
    (from + length (in_front m)) refl refl
    (omega (arith, size, equations_size es)) (typer_spelled text (known_in t f) w (each flat_equation es) (from + length (in_front m)) at (omega (arith, size)))
    (omega (arith, size)) h small o refl in
    let from_place : ℕ → Owned =
    λ j. let a = equations_from text (known_in t f) (module_in f home end) t 0 j f.nodes w in owned (own_made f a.answer) a.memory in
    let same = q ∙ ap from_place i in
    rw (ap (λ (x : Owned). x.answer) same, ap (λ (x : Owned). x.memory) same) made
