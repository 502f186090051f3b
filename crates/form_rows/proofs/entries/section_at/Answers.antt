-- `form_rows::entries::section_at` meets its contract.
-- Assumes nothing.
use Rattle.form_rows.proofs.Scans.{section_parameter, section_export, section_hidden}
use borrow.Author.Rules.{rules}
use Rattle.form_rows.proofs.entries.section_at.Goals as goal

pub returns-then-is_parameter_role : goal.returns-then-is_parameter_role
returns-then-is_parameter_role c = search (section_parameter, rules)

pub returns-then-is_export_role : goal.returns-then-is_export_role
returns-then-is_export_role c = search (section_export, rules)

pub returns : goal.returns
returns c = search (section_hidden, rules)
