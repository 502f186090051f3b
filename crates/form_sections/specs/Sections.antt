-- Sections as words. Every word stands for a section, so nothing has to be known of the memory.
use Rattle.std.specs.Prelude.{ℕ, ◌+◌, ◌-◌, eqb, ltb}
use Rattle.meaning.specs.Lists.{pick}
use Rattle.form_sections.specs.declared.Section.{Section}
use Rattle.form_sections.specs.declared.Section.TheVariants.{Export, Hidden, Parameter}

-- a section as one word: 0, 1, and a parameter's name from 2 up
unfoldable pub section_word : Section → ℕ
section_word Export = 0
section_word Hidden = 1
section_word (Parameter p) = pick (ltb p 4294967294) (p + 2) 1

unfoldable pub word_section : ℕ → Section
word_section w = pick (eqb w 0) Export (pick (eqb w 1) Hidden (Parameter (w - 2)))
