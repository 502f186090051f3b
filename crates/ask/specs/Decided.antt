-- The decision as the code has it, and the meaning's (ask_decision/specs/Decide.antt).
use Rattle.std.specs.Prelude.{◌≡◌, refl, ℕ, ◌^◌, ◌<◌, Bool, true, false, List, [], ◌∷◌, eqb}
use Rattle.std.proofs.Common.{sym, ap, ◌∙◌}
use Rattle.meaning.specs.Lists.{pick}
use Rattle.meaning.specs.Numbers.{lent_short}
use Rattle.answer.specs.declared.Name.{Name}
use Rattle.answer.specs.Answers.{held}
use Rattle.ask_decision.specs.Decide as Meaning
use Rattle.ask_decision.specs.Decide.{memory_short, not_read, ask_again, keep_after, Deciding}
use Rattle.module_set.specs.ModuleSet.{holds, mask_fixed}
use Rattle.ask.specs.declared.Decision.{Decision}

-- is the number one of these?
unfoldable pub listed : List ℕ → ℕ → Bool
listed [] k = false
listed (n ∷ ns) k = pick (eqb k n) true (listed ns k)

-- ---- the decision as a struct

-- one without a reason
abbrev pub nameless_struct : (answer set : ℕ) (in_new in_library : Bool) (number place : ℕ) → Decision
nameless_struct answer set in_new in_library number place = record {
  answer = answer;
  set = set;
  reason = 0;
  by = held [];
  name = held [];
  in_new = in_new;
  in_library = in_library;
  number = number;
  place = place;
}

abbrev pub ask_struct : (reason : ℕ) (by name : Name) → Decision
ask_struct reason by name = record {
  answer = 1;
  set = 0;
  reason = reason;
  by = by;
  name = name;
  in_new = false;
  in_library = false;
  number = 0;
  place = 0;
}

-- what the code has of a decision, where these are the modules to ask first
unfoldable pub told : ℕ → Meaning.Decision → Decision
told set memory_short = nameless_struct lent_short 0 false false 0 0
told set (not_read in_new in_library number place) = nameless_struct 2 0 in_new in_library number place
told set (ask_again w) = ask_struct w.reason (held w.by) (held w.name)
told set (keep_after ns) = nameless_struct 0 set false false 0 0

-- the set has exactly these numbers
pub record SetOf (set : ℕ) (ns : List ℕ) : Type 0 where
  pub fits : set < 2 ^ 64
  pub so : holds set ≡ listed ns

-- the set is that of the modules to ask first, where there are such
abbrev pub AsksFirst : ℕ → Meaning.Decision → Type 0
AsksFirst set memory_short = Unit {0}
AsksFirst set (not_read in_new in_library number place) = Unit {0}
AsksFirst set (ask_again w) = Unit {0}
AsksFirst set (keep_after ns) = SetOf set ns

pub record Tells (r : Decision) (d : Meaning.Decision) : Type 0 where
  pub so : r ≡ told r.set d
  pub first : AsksFirst r.set d

-- what a call gives: the decision, and the memory afterwards
pub record Decided (r : Decision) (memory : List ℕ) (d : Deciding) : Type 0 where
  pub decision : Tells r d.decision
  pub memory_so : memory ≡ d.memory

-- two results that it allows coincide
same_told : (a b : ℕ) (d : Meaning.Decision) → AsksFirst a d → AsksFirst b d → told a d ≡ told b d
unfolding told
same_told a b memory_short h l = refl
same_told a b (not_read in_new in_library number place) h l = refl
same_told a b (ask_again w) h l = refl
same_told a b (keep_after ns) h l =
    ap (λ (set : ℕ). nameless_struct 0 set false false 0 0) (mask_fixed a b h.fits l.fits (h.so ∙ sym l.so))

tells_coincide : (r q : Decision) (d : Meaning.Decision) → Tells r d → Tells q d → r ≡ q
tells_coincide r q d t u = t.so ∙ same_told r.set q.set d t.first u.first ∙ sym u.so

pub decided_coincide : (r q : Decision) (w v : List ℕ) (d : Deciding) → Decided r w d → Decided q v d → (r ≡ q) × (w ≡ v)
decided_coincide r q w v d t u = (tells_coincide r q d.decision t.decision u.decision, t.memory_so ∙ sym u.memory_so)
