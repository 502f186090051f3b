-- Which modules to ask again: from the old specification and the new, whether a stored visible part of the asked module is kept after asking
-- some modules of the new one, or the asked module itself has to be asked, and why.
use Rattle.std.specs.Prelude.{ℕ, Bool, true, false, not, List, [], ◌∷◌, map, ltb, length, get_or}
use Rattle.std.proofs.Math.Option.{Option, none, some}
use Rattle.meaning.specs.Lists.{pick, agree, or_else, first_some}
use Rattle.meaning.specs.Names.{Name, same, member}
use Rattle.meaning.specs.Numbers.{memory_size}
use Rattle.meaning.specs.Syntax.{Module}
use Rattle.meaning.specs.Evaluate.{named_by, missing, too_late}
use Rattle.meaning.specs.Reached.{Placed, reached, module_names, short_or_blank}
use Rattle.meaning.specs.Texts.{Texts, Reading, all_read, refused_in, read_texts}
use Rattle.meaning.specs.Answer.{memory_after}
use Rattle.ask_decision.specs.Same.{same_signature, same_parameter, same_import, same_module}
use Rattle.ask_decision.specs.Reasons.{absent_before, absent_now, reached_otherwise, asked_changed, parameters_changed, exports_changed, imports_changed, named_otherwise}

-- ---- why the asked module has to be asked again

-- the reason's number and the module concerned. With 3 that is the one that the old specification reaches there, and `name` the one that the
-- new reaches; with 8 `name` is the module name that is used; with the others it is blank
pub record Why : Type 0 where
  pub reason : ℕ
  pub by : Name
  pub name : Name

abbrev pub why : ℕ → Name → Name → Why
why reason by name = record { reason = reason; by = by; name = name }

-- Reasons are looked for in the order 1, 2, 3, 4, then 5 to 7 together, then 8. Of these that of the first reached module in text order is told;
-- of 5 to 7 for one module the least, and of 8 for one module that of the first name in text order

-- what is said where a test fails
unfoldable pub objection : Bool → Why → Option Why
objection passed w = pick passed none (some w)

-- a reached module and its counterpart have one name
unfoldable pub otherwise : Placed → Placed → Option Why
otherwise x x' = objection (same x.self.name x'.self.name) (why reached_otherwise x.self.name x'.self.name)

-- the asked module is the same
unfoldable pub itself_changed : Name → Placed → Placed → Option Why
itself_changed asked x x' =
    let unchanged = same_module x.self x'.self in
    objection (pick (same x.self.name asked) unchanged true) (why asked_changed x.self.name [])

-- a module has the same parameters, exports and imports
unfoldable pub shown_changed : Placed → Placed → Option Why
shown_changed x x' =
    let m = x.self in
    let m' = x'.self in
    let imports = objection (agree same_import m.imports m'.imports) (why imports_changed m.name []) in
    let exports = or_else (objection (same_signature m.exports m'.exports) (why exports_changed m.name [])) imports in
    or_else (objection (agree same_parameter m.parameters m'.parameters) (why parameters_changed m.name [])) exports

unfoldable pub alike : Bool → Bool → Bool
alike true b = b
alike false b = not b

-- a module name that it uses is missing in both specifications or in neither, and too late in both or in neither; d and d' are all modules' names
unfoldable pub name_changed : List Name → List Name → Placed → Placed → Name → Option Why
name_changed d d' x x' w =
    let late = alike (too_late d x.earlier w) (too_late d' x'.earlier w) in
    objection (pick (alike (missing d w) (missing d' w)) late false) (why named_otherwise x.self.name w)

unfoldable pub names_changed : List Name → List Name → Placed → Placed → Option Why
names_changed d d' x x' = first_some (name_changed d d' x x') (named_by x.self)

-- the first objection to a reached module and its counterpart, pair by pair
unfoldable pub in_pairs : (Placed → Placed → Option Why) → List Placed → List Placed → Option Why
in_pairs f [] [] = none
in_pairs f [] (x' ∷ xs') = some (why reached_otherwise [] x'.self.name)
in_pairs f (x ∷ xs) [] = some (why reached_otherwise x.self.name [])
in_pairs f (x ∷ xs) (x' ∷ xs') = let r = in_pairs f xs xs' in or_else (f x x') r

-- of the modules reached in the old specification, and in the new
unfoldable pub against : Name → List Name → List Name → List Placed → List Placed → Option Why
against asked d d' xs xs' =
    let used = in_pairs (names_changed d d') xs xs' in
    let shown = or_else (in_pairs shown_changed xs xs') used in
    let itself = or_else (in_pairs (itself_changed asked) xs xs') shown in
    or_else (in_pairs otherwise xs xs') itself

-- ---- the decision

pub data Decision : Type 0 where
  -- too little working memory is lent
  memory_short : Decision
  -- one of the two is not read, the new one where `in_new` says so: the refusal, and its place
  not_read : (in_new in_library : Bool) (number place : ℕ) → Decision
  -- ask the module itself
  ask_again : Why → Decision
  -- keep the stored part once these modules of the new specification are answered 0: their numbers, ascending
  keep_after : List ℕ → Decision

-- the modules of the new specification that are not as their counterparts of the old, in text order
unfoldable pub changed : List Placed → List Placed → List Placed
changed [] xs' = []
changed (x ∷ xs) [] = []
changed (x ∷ xs) (x' ∷ xs') =
    let r = changed xs xs' in
    let more = x' ∷ r in
    pick (same_module x.self x'.self) r more

unfoldable pub numbers : List Placed → List ℕ
numbers xs = map (λ (x : Placed). x.number) xs

unfoldable pub unless_against : Option Why → List ℕ → Decision
unless_against none zs = keep_after zs
unless_against (some w) zs = ask_again w

unfoldable pub to_ask : Name → List Module → List Module → Decision
to_ask asked ms ms' =
    let old = reached asked ms in
    let new = reached asked ms' in
    let r = unless_against (against asked (module_names ms) (module_names ms') old new) (numbers (changed old new)) in
    let now = pick (member asked (module_names ms')) r (ask_again (why absent_now (short_or_blank asked) [])) in
    pick (member asked (module_names ms)) now (ask_again (why absent_before (short_or_blank asked) []))

-- the old specification is looked at first
unfoldable pub of_readings : Name → Reading → Reading → Decision
of_readings asked (all_read ms) (all_read ms') = to_ask asked ms ms'
of_readings asked (all_read ms) (refused_in in_library number place) = not_read true in_library number place
of_readings asked (refused_in in_library number place) r' = not_read false in_library number place

unfoldable pub decide : Name → Texts → Texts → Decision
decide asked old new = of_readings asked (read_texts old) (read_texts new)

-- the name of a module by its number; blank where there is none
unfoldable pub names_read : Reading → List Name
names_read (all_read ms) = module_names ms
names_read (refused_in in_library number place) = []

unfoldable pub module_called : Texts → ℕ → Name
module_called t k = get_or (names_read (read_texts t)) k []

-- ---- a call that decides: before all else, the memory may be too short; it is zero afterwards

pub record Deciding : Type 0 where
  pub decision : Decision
  pub memory : List ℕ

unfoldable pub deciding : (memory : List ℕ) → Name → Texts → Texts → Deciding
deciding memory asked old new =
    let r = decide asked old new in
    record { decision = pick (ltb (length memory) memory_size) memory_short r; memory = memory_after memory }

-- opens every definition of this file
unfoldable pub decide_opened : Unit {0}
unfolding objection otherwise itself_changed shown_changed alike name_changed names_changed in_pairs against changed numbers unless_against to_ask of_readings decide names_read module_called deciding
decide_opened = tt
