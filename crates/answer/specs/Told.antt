-- What the answers are as structs: names that are held, and refusals.
use Rattle.std.specs.Prelude.{◌≡◌, refl, ℕ, ◌<◌, ◌≤◌, Bool, false, List, [], length}
use Rattle.std.proofs.Common.{arith, le-leb}
use Rattle.std.proofs.lemmas.Bool.{lt-leb}
use Rattle.meaning.specs.Lists.{pick, each}
use Rattle.meaning.specs.Names as Names
use Rattle.meaning.specs.Numbers.{name_size}
use Rattle.meaning.specs.Checks.{Culprit}
use Rattle.meaning.specs.Reached.{short_or_blank}
use Rattle.meaning.specs.Listing.{lines_text}
use Rattle.meaning.specs.Answer.{refusal, unread, within, output_after}
use Rattle.answer.specs.declared.Name.{Name}
use Rattle.answer.specs.declared.Answer.{Answer}
use Rattle.answer.specs.Answers.{held, told}

-- ---- names

pub short_name : (n : Names.Name) → length n ≤ name_size → short_or_blank n ≡ n
unfolding short_or_blank pick
short_name n h = rw (le-leb (length n) name_size h)

pub long_name : (n : Names.Name) → name_size < length n → short_or_blank n ≡ []
unfolding short_or_blank pick
long_name n h = rw (lt-leb (length n) name_size h)

-- ---- refusals

-- a module's name and a culprit's two that are held already
abbrev pub refusal_held : ℕ → ℕ → Name → Name → Name → ℕ → Answer
refusal_held number modules m c a at = record {
  number = number;
  modules = modules;
  evaluating = m;
  culprit = c;
  actual = a;
  at = at;
  in_library = false;
  listing = 0;
}

pub refusal_told : (number modules : ℕ) (m : Names.Name) (c : Culprit) (at : ℕ)
    → told (refusal number modules m c at) ≡ refusal_held number modules (held (short_or_blank m)) (held c.name) (held c.actual) at
unfolding told refusal lines_text each
refusal_told number modules m c at = refl

-- 1 to 5, with names that are held already
abbrev pub unread_held : Bool → ℕ → Name → Name → Name → ℕ → Answer
unread_held in_library number m c a at = record {
  number = number;
  modules = 0;
  evaluating = m;
  culprit = c;
  actual = a;
  at = at;
  in_library = in_library;
  listing = 0;
}

pub unread_told : (in_library : Bool) (number at : ℕ)
    → told (unread in_library number at) ≡ unread_held in_library number (held (short_or_blank [])) (held []) (held []) at
unfolding told unread lines_text each
unread_told in_library number at = refl

pub unread_within : (n : ℕ) (asked : Names.Name) (in_library : Bool) (number at : ℕ) → within n asked (unread in_library number at) ≡ unread in_library number at
unfolding within unread lines_text each pick
unread_within n asked in_library number at = rw (le-leb 0 n (omega arith))

pub unread_leaves : (in_library : Bool) (number at : ℕ) (o : List ℕ) → output_after (unread in_library number at) o ≡ o
unfolding output_after unread lines_text each
unread_leaves in_library number at o = refl

-- a refusal needs no room, and leaves the output
pub refusal_within : (n : ℕ) (asked : Names.Name) (number modules : ℕ) (m : Names.Name) (c : Culprit) (at : ℕ)
    → within n asked (refusal number modules m c at) ≡ refusal number modules m c at
unfolding within refusal lines_text each pick
refusal_within n asked number modules m c at = rw (le-leb 0 n (omega arith))

pub refusal_leaves : (number modules : ℕ) (m : Names.Name) (c : Culprit) (at : ℕ) (o : List ℕ) → output_after (refusal number modules m c at) o ≡ o
unfolding output_after refusal lines_text each
refusal_leaves number modules m c at o = refl
