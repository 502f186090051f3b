-- Two sets of modules by their numbers, walked upwards in pairs, in terms of two tapes (ask_decision/specs/Decide.antt). All of it is total,
-- whatever the tapes and their heads say.
use Rattle.std.specs.Prelude.{ℕ, zero, suc, Bool, List, [], ◌∷◌}
use Rattle.std.proofs.Math.Option.{Option, none, some}
use Rattle.meaning.specs.Lists.{pick, agree, or_else}
use Rattle.meaning.specs.Names.{Name}
use Rattle.module_set.specs.ModuleSet.{added}
use Rattle.modules.specs.Modules.{Heads}
use Rattle.ask_alike.specs.Alike.{same_entry}
use Rattle.ask_decision.specs.Reasons.{reached_otherwise}
use Rattle.ask_decision.specs.Decide.{Why, why}
use Rattle.ask_objections.specs.Objections.{named, module_entries, objection_at}

-- ---- sets by numbers

-- those of c modules from number i on that a set has, ascending
unfoldable pub members : (ℕ → Bool) → ℕ → ℕ → List ℕ
members set i zero = []
members set i (suc c) = let more = members set (suc i) c in pick (set i) (i ∷ more) more

-- the first of them; the number behind all c where there is none
unfoldable pub next_member : (ℕ → Bool) → ℕ → ℕ → ℕ
next_member set i zero = i
next_member set i (suc c) = let more = next_member set (suc i) c in pick (set i) i more

-- a set with number j, where it is not so
unfoldable pub with_unless : Bool → ℕ → (ℕ → Bool) → (ℕ → Bool)
with_unless so j set = pick so set (added j set)

-- a set with all these
unfoldable pub with_all : (ℕ → Bool) → List ℕ → (ℕ → Bool)
with_all set [] = set
with_all set (j ∷ js) = with_all (added j set) js

-- ---- pairs

-- the first objection to a number and its counterpart; n and n' are the modules' names
unfoldable pub pairs_at : (ℕ → ℕ → Option Why) → (ℕ → Name) → (ℕ → Name) → List ℕ → List ℕ → Option Why
pairs_at f n n' [] [] = none
pairs_at f n n' [] (j ∷ js) = some (why reached_otherwise [] (n' j))
pairs_at f n n' (i ∷ is) [] = some (why reached_otherwise (n i) [])
pairs_at f n n' (i ∷ is) (j ∷ js) = let r = pairs_at f n n' is js in or_else (f i j) r

-- the counterparts of which it is not so
unfoldable pub changed_pairs : (ℕ → ℕ → Bool) → List ℕ → List ℕ → List ℕ
changed_pairs so [] js = []
changed_pairs so (i ∷ is) [] = []
changed_pairs so (i ∷ is) (j ∷ js) =
    let r = changed_pairs so is js in
    let more = j ∷ r in
    pick (so i j) r more

-- the first objection of c passes from number i on
unfoldable pub pass_by_pass : (ℕ → Option Why) → ℕ → ℕ → Option Why
pass_by_pass f i zero = none
pass_by_pass f i (suc c) = let r = pass_by_pass f (suc i) c in or_else (f i) r

-- ---- of the modules of two tapes

module _ (text tape : List ℕ) (h : Heads) (other new : List ℕ) (h' : Heads) where
  -- module k is its counterpart, entry by entry
  abbrev pub same_at : ℕ → ℕ → Bool
  same_at k k' = agree same_entry (module_entries text tape h k) (module_entries other new h' k')

  unfoldable pub in_pairs_at : Name → (ℕ → Bool) → (ℕ → Bool) → ℕ → Option Why
  in_pairs_at asked set set' pass =
      pairs_at (objection_at text tape h other new h' asked pass) (named text tape h) (named other new h')
      (members set 0 h.count)
      (members set' 0 h'.count)

  unfoldable pub against_at : Name → (ℕ → Bool) → (ℕ → Bool) → Option Why
  against_at asked set set' = pass_by_pass (in_pairs_at asked set set') 0 4

  unfoldable pub changed_at : (ℕ → Bool) → (ℕ → Bool) → List ℕ
  changed_at set set' = changed_pairs same_at (members set 0 h.count) (members set' 0 h'.count)
