-- `form_sections::word_section` meets its contract.
-- Assumes nothing.
use Rattle.meaning.specs.Lists.{pick}
use Rattle.form_sections.specs.Sections.{word_section}
use Rattle.form_sections.proofs.Cases.{tests}
use Rattle.form_sections.proofs.word_section.Goals as goal

pub returns-in-0 : goal.returns-in-0
unfolding word_section pick
returns-in-0 c = search tests

pub returns-in-1 : goal.returns-in-1
unfolding word_section pick
returns-in-1 c = search tests

pub returns-in_default : goal.returns-in_default
unfolding word_section pick
returns-in_default c = search tests
