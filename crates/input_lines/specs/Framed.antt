-- What follows the first line (meaning/specs/Answer.antt): the customer's text alone, a library and that text behind it, or a library that is too long.
use Rattle.std.specs.Prelude.{◌≡◌, ℕ, ◌≤◌, true, false, List, [], length, drop}
use Rattle.meaning.specs.Names.{slice}
use Rattle.meaning.specs.Texts.{two_texts}
use Rattle.meaning.specs.Answer as Meaning
use Rattle.input_lines.specs.declared.Framing.{Framing}
use Rattle.input_lines.specs.declared.Framing.TheVariants.{Alone, TooLong, Both}

pub record BothFramed (rest : List ℕ) (from to : ℕ) : Type 0 where
  pub short : Meaning.library_too_long rest ≡ false
  pub texts : Meaning.texts_in rest ≡ two_texts (slice rest from to) (drop to rest)
  pub forward : from ≤ to
  pub within : to ≤ length rest

pub record AloneFramed (rest : List ℕ) : Type 0 where
  pub short : Meaning.library_too_long rest ≡ false
  pub texts : Meaning.texts_in rest ≡ two_texts [] rest

abbrev pub Framed : List ℕ → Framing → Type 0
Framed rest Alone = AloneFramed rest
Framed rest TooLong = Meaning.library_too_long rest ≡ true
Framed rest (Both from to) = BothFramed rest from to
