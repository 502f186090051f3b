-- Typing of equations in memory, as the code goes. The sides of an equation are gone through twice: first the conclusion's nodes are kept,
-- then the conditions'.
use Rattle.std.specs.Prelude.{ℕ, zero, suc, ◌+◌, ◌-◌, ◌*◌, Bool, false, List, eqb, ltb, Option, Some, None, Result, Ok, Err}
use Rattle.std.proofs.lemmas.List.Edits.{sets}
use Rattle.meaning.specs.Lists.{pick}
use Rattle.meaning.specs.Origins.{same_sort}
use Rattle.tape.specs.Tape.{condition_role, conclusion_role}
use Rattle.form_rows.specs.Entries.{role_at, word_at}
use Rattle.form_rows.specs.Rows.{sort_of}
use Rattle.own_finding.specs.declared.Known.{Known}
use Rattle.form.specs.declared.EquationRow.{EquationRow}
use Rattle.form.specs.Forms.{equation_words, equation_size}
use Rattle.own_typing.specs.declared.Module.{Module}
use Rattle.own_typing.specs.declared.Equated.{Equated}
use Rattle.own_typing.specs.declared.Counted.{Counted}
use Rattle.own_terms.specs.Typing.{Answer, of_sort, Out, out, tape_in, is_opening, term_at}

-- ---- two sides of one sort; what follows is the entry that says what they are

unfoldable pub right_checked : List ℕ → Known → ℕ → Answer → List ℕ → Out
right_checked text k s None w = out None w
right_checked text k s (Some a) w =
    pick (same_sort (sort_of text (tape_in k w) s) (sort_of text (tape_in k w) a.sort)) (out (of_sort s a.next a.free) w) (out None w)

unfoldable pub right_at : List ℕ → Known → ℕ → ℕ → ℕ → List ℕ → Out
right_at text k s i q w = let o = term_at text k k.tape i q w in right_checked text k s o.answer o.memory

unfoldable pub left_checked : List ℕ → Known → Answer → List ℕ → Out
left_checked text k None w = out None w
left_checked text k (Some a) w = right_at text k a.sort a.next a.free w

unfoldable pub sides_at : List ℕ → Known → ℕ → ℕ → List ℕ → Out
sides_at text k i q w = let o = term_at text k k.tape i q w in left_checked text k o.answer o.memory

-- ---- the sides of an equation

-- how many sides were kept, the entry behind the last and the place behind their nodes; none where some are ill typed
abbrev pub Passed : Type 0
Passed = Option Counted

abbrev pub of_sides : ℕ → ℕ → ℕ → Passed
of_sides count next free = Some (record { count = count; next = next; free = free })

-- the answer, and the memory as it is then
pub record Pass : Type 0 where
  pub answer : Passed
  pub memory : List ℕ

abbrev pub passed : Passed → List ℕ → Pass
passed r w = record { answer = r; memory = w }

-- a term begins at i, before the end
unfoldable pub begins_at : List ℕ → ℕ → ℕ → Bool
begins_at tape i end = pick (ltb i end) (is_opening (role_at tape i)) false

-- after two sides: they are kept where their entry has the role
unfoldable pub after_sides : Known → ℕ → (ℕ → ℕ → ℕ → List ℕ → Pass) → ℕ → ℕ → Answer → List ℕ → Pass
after_sides k role more q n None w = passed None w
after_sides k role more q n (Some a) w =
    let kept = more (a.next + 1) a.free (n + 1) w in
    let dropped = more (a.next + 1) q n w in
    pick (ltb a.next k.tape) (pick (eqb (role_at (tape_in k w) a.next) role) kept dropped) (passed None w)

-- the sides from i on, n of them kept so far
unfoldable pub sides_from : List ℕ → Known → ℕ → ℕ → ℕ → ℕ → ℕ → ℕ → List ℕ → Pass
sides_from text k role end zero i q n w = passed None w
sides_from text k role end (suc left) i q n w =
    let o = sides_at text k i q w in
    let more = after_sides k role (sides_from text k role end left) q n o.answer o.memory in
    pick (begins_at (tape_in k w) i end) more (passed (of_sides n i q) w)

-- ---- an equation whose tag is at i: its conclusion, and then its conditions, which are counted

unfoldable pub after_conclusion : List ℕ → Known → ℕ → ℕ → Passed → List ℕ → Pass
after_conclusion text k end i None w = passed None w
after_conclusion text k end i (Some a) w = sides_from text k condition_role end k.tape (i + 1) a.free 0 w

unfoldable pub equation_at : List ℕ → Known → ℕ → ℕ → ℕ → List ℕ → Pass
equation_at text k end i q w =
    let o = sides_from text k conclusion_role end k.tape (i + 1) q 0 w in after_conclusion text k end i o.answer o.memory

-- ---- the equations of a module, each with its row of eight words

-- a - b as a word
unfoldable pub span : ℕ → ℕ → ℕ
span a b = pick (ltb (a - b) 4294967295) (a - b) 0

-- the row of the equation with the tag's word, whose nodes stand from q up to `free`
unfoldable pub row_of : Module → ℕ → ℕ → ℕ → ℕ → ℕ → EquationRow
row_of m position tag conditions q free = record {
  home = m.home;
  position = position;
  tag = tag;
  conditions = conditions;
  start = span q m.nodes;
  count = span free q;
}

-- the row stored, of the equation whose tag is at i
unfoldable pub stored : Known → Module → ℕ → ℕ → ℕ → ℕ → ℕ → List ℕ → List ℕ
stored k m position i q n free w =
    let row = row_of m position (word_at (tape_in k w) i) n q free in sets w (m.rows + position * equation_size) (equation_words row row.start)

-- an equation that is typed has its row written
unfoldable pub after_equation : Known → Module → ℕ → ℕ → ℕ → Passed → List ℕ → Pass
after_equation k m position i q None w = passed None w
after_equation k m position i q (Some a) w = passed (Some a) (stored k m position i q a.count a.free w)

unfoldable pub turn_at : List ℕ → Known → Module → ℕ → ℕ → ℕ → List ℕ → Pass
turn_at text k m position i q w =
    let o = equation_at text k m.end i q w in after_equation k m position i q o.answer o.memory

-- how many equations there are and the place behind their nodes, or the tag of the first that is ill typed; and the memory as it is then
pub record Told : Type 0 where
  pub answer : Result Equated ℕ
  pub memory : List ℕ

abbrev pub told : Result Equated ℕ → List ℕ → Told
told r w = record { answer = r; memory = w }

abbrev pub of_equations : ℕ → ℕ → Result Equated ℕ
of_equations count free = Ok (record { count = count; free = free })

-- after an equation with the tag's word
unfoldable pub after_turn : (ℕ → ℕ → ℕ → List ℕ → Told) → ℕ → ℕ → Passed → List ℕ → Told
after_turn more position tag None w = told (Err tag) w
after_turn more position tag (Some a) w = more (position + 1) a.next a.free w

-- the equations from i on, at most `left`
unfoldable pub equations_from : List ℕ → Known → Module → ℕ → ℕ → ℕ → ℕ → List ℕ → Told
equations_from text k m zero position i q w = told (of_equations position q) w
equations_from text k m (suc left) position i q w =
    let o = turn_at text k m position i q w in
    let more = after_turn (equations_from text k m left) position (word_at (tape_in k w) i) o.answer o.memory in
    pick (ltb i m.end) more (told (of_equations position q) w)
