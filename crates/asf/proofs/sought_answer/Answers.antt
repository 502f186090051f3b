-- `asf::sought_answer` meets its contract. Assumes nothing.
use Rattle.asf.proofs.Cases.{form_held, short_answered, unread_answered, absent_answered, refused_answered, form_answered}
use borrow.Author.Rules.{rules}
use Rattle.asf.proofs.sought_answer.Goals as goal

pub list_module-requires : goal.list_module-requires
list_module-requires c = search (form_held, rules)

pub returns-in-Err-Short : goal.returns-in-Err-Short
returns-in-Err-Short c = search (short_answered, rules)

pub returns-in-Err-Unread : goal.returns-in-Err-Unread
returns-in-Err-Unread c = search (unread_answered, rules)

pub returns-in-Err-Absent : goal.returns-in-Err-Absent
returns-in-Err-Absent c = search (absent_answered, rules)

pub returns-in-Err-Refused : goal.returns-in-Err-Refused
returns-in-Err-Refused c = search (refused_answered, rules)

pub returns-in-Ok : goal.returns-in-Ok
returns-in-Ok c = search (form_answered, rules)
