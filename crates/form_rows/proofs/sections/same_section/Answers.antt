-- `form_rows::sections::same_section` meets its contract: but for two parameters, the sections compute.
-- Assumes nothing.
use Rattle.meaning.specs.Origins.{same_section}
use Rattle.form_rows.specs.Rows.{section_of}
use Rattle.form_rows.proofs.Told.{parameters_told}
use borrow.Author.Rules.{rules}
use Rattle.form_rows.proofs.sections.same_section.Goals as goal

pub returns-in-Export-Export : goal.returns-in-Export-Export
unfolding same_section section_of
returns-in-Export-Export c = search rules

pub returns-in-Hidden-Hidden : goal.returns-in-Hidden-Hidden
unfolding same_section section_of
returns-in-Hidden-Hidden c = search rules

pub returns-in_default : goal.returns-in_default
unfolding same_section section_of
returns-in_default c = search rules

pub returns-in_default-2 : goal.returns-in_default-2
unfolding same_section section_of
returns-in_default-2 c = search rules

pub returns-in_default-3 : goal.returns-in_default-3
unfolding same_section section_of
returns-in_default-3 c = search rules

pub returns-in-Parameter-Parameter : goal.returns-in-Parameter-Parameter
returns-in-Parameter-Parameter c = search (parameters_told, rules)
