-- The laws for each way through the code.
use borrow.Author.Rules.{rules}
use Rattle.clause.specs.Renaming.{join_unite, join_check, make_slots, make_visible, make_notes, rename_mode, rename_stop, rename_fine, join_made}

pub ruleset cases = (join_unite, join_check, make_slots, make_visible, make_notes, rename_mode, rename_stop, rename_fine, join_made, rules)
