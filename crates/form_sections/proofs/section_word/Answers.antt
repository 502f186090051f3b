-- `form_sections::section_word` meets its contract.
-- Assumes nothing.
use Rattle.meaning.specs.Lists.{pick}
use Rattle.form_sections.specs.Sections.{section_word}
use Rattle.form_sections.proofs.Cases.{parameter_word, tests}
use borrow.Author.Rules.{rules}
use Rattle.form_sections.proofs.section_word.Goals as goal

pub returns-in-Export : goal.returns-in-Export
unfolding section_word pick
returns-in-Export c = search tests

pub returns-in-Hidden : goal.returns-in-Hidden
unfolding section_word pick
returns-in-Hidden c = search tests

pub returns-in-Parameter : goal.returns-in-Parameter
returns-in-Parameter c = search (parameter_word, rules)
