-- What speaks against keeping, in terms of two tapes (ask_decision/specs/Decide.antt): of module k on the old tape and module k' on the new one.
-- All of it is total, whatever the tapes and their heads say.
use Rattle.std.specs.Prelude as Code
use Rattle.std.specs.Prelude.{ℕ, zero, suc, ◌+◌, ◌-◌, Bool, true, List, [], Some, None, eqb, ltb, leb, get_or}
use Rattle.std.proofs.Math.Option.{Option, none, some}
use Rattle.meaning.specs.Lists.{pick, agree, before, or_else, first_some}
use Rattle.meaning.specs.Names.{Name, same}
use Rattle.text_names.specs.Word.{name_of}
use Rattle.tape.specs.Tape.{Entry}
use Rattle.form_rows.specs.Entries.{name_at}
use Rattle.ask_decision.specs.Reasons.{reached_otherwise, asked_changed, parameters_changed, exports_changed, imports_changed, named_otherwise}
use Rattle.ask_decision.specs.Decide as Meaning
use Rattle.ask_decision.specs.Decide.{why, objection}
use Rattle.ask_alike.specs.Alike.{same_entry, entries_from, the_parameters, the_exports, the_imports, run_size}
use Rattle.modules.specs.Modules.{declared, named_in, Heads}
use Rattle.ask_objections.specs.declared.Why.{Why}

-- ---- what an answer says; text is the old texts, other the new ones

unfoldable pub why_of : List ℕ → List ℕ → Why → Meaning.Why
why_of text other w = why w.reason (name_of text w.by) (name_of (pick w.new_name other text) w.name)

unfoldable pub told : List ℕ → List ℕ → Code.Option Why → Option Meaning.Why
told text other None = none
told text other (Some w) = some (why_of text other w)

-- ---- a module of one tape

-- where module k begins, and where it ends
abbrev pub place : Heads → ℕ → ℕ
place h k = get_or h.places k 0

abbrev pub named : List ℕ → List ℕ → Heads → ℕ → Name
named text tape h k = name_at text tape (place h k)

unfoldable pub module_entries : List ℕ → List ℕ → Heads → ℕ → List Entry
module_entries text tape h k = entries_from text tape (place h k) (place h (k + 1) - place h k)

-- the place behind its head, where it has one
unfoldable pub body_start : Heads → ℕ → ℕ
body_start h k = pick (ltb (place h k) (place h (k + 1))) (place h k + 1) (place h k)

-- where a section begins: the first at place i, each other behind the one before
unfoldable pub section_from : List ℕ → ℕ → ℕ → ℕ → ℕ
section_from tape i end zero = i
section_from tape i end (suc s) = let j = section_from tape i end s in j + run_size s tape j (end - j)

unfoldable pub section_start : List ℕ → Heads → ℕ → ℕ → ℕ
section_start tape h k s = section_from tape (body_start h k) (place h (k + 1)) s

unfoldable pub section_entries : List ℕ → List ℕ → Heads → ℕ → ℕ → List Entry
section_entries text tape h k s =
    let i = section_start tape h k s in entries_from text tape i (run_size s tape i (place h (k + 1) - i))

-- how number p of `count` modules stands to module k: 0 is no module, 1 stands too late, 2 before it
unfoldable pub standing : ℕ → ℕ → ℕ → ℕ
standing count k p = pick (leb count p) 0 (pick (leb k p) 1 2)

-- ---- a module of the one tape and its counterpart on the other

module _ (text tape : List ℕ) (h : Heads) (other new : List ℕ) (h' : Heads) where
  unfoldable pub otherwise_at : ℕ → ℕ → Option Meaning.Why
  otherwise_at k k' =
      objection (same (named text tape h k) (named other new h' k')) (why reached_otherwise (named text tape h k) (named other new h' k'))

  unfoldable pub itself_at : Name → ℕ → ℕ → Option Meaning.Why
  itself_at asked k k' =
      let unchanged = agree same_entry (module_entries text tape h k) (module_entries other new h' k') in
      objection (pick (same (named text tape h k) asked) unchanged true) (why asked_changed (named text tape h k) [])

  -- a section, whose reason is told where it is another
  unfoldable pub section_at : ℕ → ℕ → ℕ → ℕ → Option Meaning.Why
  section_at s reason k k' =
      objection (agree same_entry (section_entries text tape h k s) (section_entries other new h' k' s)) (why reason (named text tape h k) [])

  unfoldable pub shown_at : ℕ → ℕ → Option Meaning.Why
  shown_at k k' =
      let imports = section_at the_imports imports_changed k k' in
      let exports = or_else (section_at the_exports exports_changed k k') imports in
      or_else (section_at the_parameters parameters_changed k k') exports

  -- the module called w stands to one as to the other
  unfoldable pub used_alike : ℕ → ℕ → Name → Bool
  used_alike k k' w =
      eqb (standing h.count k (before (same w) (declared text tape h))) (standing h'.count k' (before (same w) (declared other new h')))

  unfoldable pub name_objection : ℕ → ℕ → Name → Option Meaning.Why
  name_objection k k' w = objection (used_alike k k' w) (why named_otherwise (named text tape h k) w)

  unfoldable pub names_at : ℕ → ℕ → Option Meaning.Why
  names_at k k' = first_some (name_objection k k') (named_in text tape h k)

  unfoldable pub objection_at : Name → ℕ → ℕ → ℕ → Option Meaning.Why
  objection_at asked pass k k' =
      let names = names_at k k' in
      let shown = pick (eqb pass 2) (shown_at k k') names in
      let itself = pick (eqb pass 1) (itself_at asked k k') shown in
      pick (eqb pass 0) (otherwise_at k k') itself
