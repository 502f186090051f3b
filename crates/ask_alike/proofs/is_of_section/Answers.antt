-- `ask_alike::is_of_section` meets its contract.
-- Assumes nothing.
use Rattle.ask_alike.specs.Alike.{section_role}
use Rattle.laws_choices.specs.Choices.{choices}
use Rattle.ask_alike.proofs.is_of_section.Goals as goal

pub returns-then-section-eq-PARAMETERS : goal.returns-then-section-eq-PARAMETERS
unfolding section_role
returns-then-section-eq-PARAMETERS c = search choices

pub returns-then-section-eq-EXPORTS : goal.returns-then-section-eq-EXPORTS
unfolding section_role
returns-then-section-eq-EXPORTS c = search choices

pub returns : goal.returns
unfolding section_role
returns c = search choices
