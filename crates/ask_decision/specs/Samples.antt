-- The decision on small specifications, computed; and two edits through which a part is held, with one module asked after each
-- (proofs/Samples.antt).
use Rattle.std.specs.Prelude.{◌≡◌, refl, ℕ, true, false, List, [], ◌∷◌}
use Rattle.meaning.specs.Names.{bytes}
use Rattle.meaning.specs.Numbers.{memory_size, program_output, no_token_there, not_allowed, clashing}
use Rattle.meaning.specs.Texts.{Texts, two_texts}
use Rattle.meaning.specs.Answer.{listing, answer}
use Rattle.meaning.specs.Opened.{all_opened}
use Rattle.promises.specs.VisiblePart.{visible_part}
use Rattle.promises_instances.specs.Instance.{modules_in, asked}
use Rattle.ask_decision.specs.Same.{same_opened}
use Rattle.ask_decision.specs.Reasons.{absent_before, absent_now, reached_otherwise, asked_changed, parameters_changed, exports_changed, imports_changed, named_otherwise}
use Rattle.ask_decision.specs.Decide.{Decision, why, not_read, ask_again, keep_after, decide, module_called, decide_opened}

unfoldable pub samples_opened : Unit {0}
unfolding all_opened same_opened decide_opened modules_in asked
samples_opened = tt

-- ---- M2 is asked. It reaches M1, which reaches M0

unfoldable pub first_texts : Texts
first_texts = two_texts (bytes "module M0 begin exports begin sorts A end sorts H end M0") (bytes "module M1 begin imports M0 functions f : A -> A end M1 module M2 begin imports M1 { renamed by [ A -> C ] } end M2")

-- M0 stands in the customer's text and hides other things, and before it stands a module that is not reached
unfoldable pub second_texts : Texts
second_texts = two_texts [] (bytes "module M9 begin imports M8 end M9 module M0 begin exports begin sorts A end sorts K functions k : -> K end M0 module M1 begin imports M0 functions f : A -> A end M1 module M2 begin imports M1 { renamed by [ A -> C ] } end M2")

-- M1 hides other things too
unfoldable pub third_texts : Texts
third_texts = two_texts [] (bytes "module M0 begin exports begin sorts A end sorts K functions k : -> K end M0 module M1 begin imports M0 variables x : -> A equations [e] x = x end M1 module M2 begin imports M1 { renamed by [ A -> C ] } end M2")

-- M1 is unchanged, and is not asked
pub samples_decided :
    (decide asked first_texts second_texts ≡ keep_after (1 ∷ []))
    × (module_called second_texts 1 ≡ bytes "M0")
    × (decide asked second_texts third_texts ≡ keep_after (1 ∷ []))
    × (decide asked first_texts third_texts ≡ keep_after (0 ∷ 1 ∷ []))
    × (decide asked second_texts second_texts ≡ keep_after [])
unfolding samples_opened first_texts second_texts third_texts
samples_decided = (refl, refl, refl, refl, refl)

-- ---- why to ask, from the first specification to one of these texts alone

abbrev from_first : List ℕ → Decision
from_first text = decide asked first_texts (two_texts [] text)

-- in the fourth the exports of M0 changed too, but M2's own change is told first
pub reasons_say :
    (from_first (bytes "module M0 begin end M0") ≡ ask_again (why absent_now (bytes "M2") []))
    × (decide (bytes "M9") first_texts second_texts ≡ ask_again (why absent_before (bytes "M9") []))
    × (from_first (bytes "module M1 begin imports M0 functions f : A -> A end M1 module M0 begin exports begin sorts A end sorts H end M0 module M2 begin imports M1 { renamed by [ A -> C ] } end M2")
    ≡ ask_again (why reached_otherwise (bytes "M0") (bytes "M1")))
    × (from_first (bytes "module M0 begin exports begin sorts A, B end sorts H end M0 module M1 begin imports M0 functions f : A -> A end M1 module M2 begin imports M1 { renamed by [ A -> C ] } sorts C end M2")
    ≡ ask_again (why asked_changed (bytes "M2") []))
    × (from_first (bytes "module M0 begin exports begin sorts A end sorts H end M0 module M1 begin parameters P begin sorts A end P imports M0 functions f : A -> A end M1 module M2 begin imports M1 { renamed by [ A -> C ] } end M2")
    ≡ ask_again (why parameters_changed (bytes "M1") []))
    × (from_first (bytes "module M0 begin exports begin sorts A, B end sorts H end M0 module M1 begin imports M0 functions f : A -> A end M1 module M2 begin imports M1 { renamed by [ A -> C ] } end M2")
    ≡ ask_again (why exports_changed (bytes "M0") []))
    × (from_first (bytes "module M0 begin exports begin sorts A end sorts H end M0 module M1 begin imports M0, M0 functions f : A -> A end M1 module M2 begin imports M1 { renamed by [ A -> C ] } end M2")
    ≡ ask_again (why imports_changed (bytes "M1") []))
unfolding samples_opened first_texts second_texts
reasons_say = (refl, refl, refl, refl, refl, refl, refl)

-- ---- a module name that M2 uses: missing, too late, earlier

unfoldable pub missing_text : List ℕ
missing_text = bytes "module M2 begin imports M1 end M2"

unfoldable pub late_text : List ℕ
late_text = bytes "module M2 begin imports M1 end M2 module M1 begin end M1"

-- one that stands earlier in one of the two is reached there
pub names_say :
    (decide asked (two_texts [] missing_text) (two_texts [] late_text) ≡ ask_again (why named_otherwise (bytes "M2") (bytes "M1")))
    × (decide asked (two_texts [] late_text) (two_texts (bytes "module M1 begin end M1") missing_text)
    ≡ ask_again (why reached_otherwise (bytes "M2") (bytes "M1")))
unfolding samples_opened missing_text late_text
names_say = (refl, refl)

-- ---- not read: the old one is looked at first

pub unread_say :
    (decide asked (two_texts (bytes "modul") missing_text) (two_texts [] (bytes ".")) ≡ not_read false true not_allowed 0)
    × (decide asked (two_texts [] missing_text) (two_texts [] (bytes " .")) ≡ not_read true false no_token_there 1)
unfolding samples_opened missing_text
unread_say = (refl, refl)

-- ---- the answers of the modules that it names matter: M1 hides a sort that clashes with its own, and both are refused by 10

unfoldable pub clashing_texts : Texts
clashing_texts = two_texts [] (bytes "module M0 begin exports begin sorts A end sorts H end M0 module M1 begin imports M0 sorts A end M1 module M2 begin imports M1 { renamed by [ A -> C ] } end M2")

pub says_keep_but_refused :
    (decide asked first_texts clashing_texts ≡ keep_after (1 ∷ []))
    × (((answer memory_size program_output (bytes "M1") clashing_texts).number ≡ clashing)
    × ((answer memory_size program_output asked clashing_texts).number ≡ clashing))
unfolding samples_opened first_texts clashing_texts
says_keep_but_refused = (refl, (refl, refl))

-- ---- M2 was asked of the first specification only; M0 of the second, M1 of the third

abbrev pub stored : List ℕ
stored = visible_part (listing (answer memory_size program_output asked first_texts))
