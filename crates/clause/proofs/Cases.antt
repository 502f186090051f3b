-- The ways through a binding.
use borrow.Author.Rules.{rules}
use Rattle.clause.specs.Either.{note_step, notes_binding, notes_renaming, right_binding, right_renaming}
use Rattle.clause.specs.OwnSteps.{keep_room, own_room, own_bound}
use Rattle.clause.specs.VisibleSteps.{slots_room, actual_room, rows_bound, note_asked}
use Rattle.clause.specs.HiddenSteps.{own_hidden_room, actual_hidden_room, hidden_bound}
use Rattle.clause.specs.Outcomes.{pairs_stop, pairs_fine, mode_binds, mode_kind, tape_within, no_parameter, wrong_pairs, right_pairs}

-- ---- what is made step by step

pub ruleset own = (keep_room, own_room, own_bound, rules)

pub ruleset rows = (slots_room, actual_room, rows_bound, rules)

pub ruleset hidden = (own_hidden_room, actual_hidden_room, hidden_bound, rules)

pub ruleset whole = (note_asked, rules)

pub ruleset either = (note_step, notes_binding, notes_renaming, right_binding, right_renaming, rules)

-- ---- how it ends

pub ruleset ends = (pairs_stop, pairs_fine, mode_binds, mode_kind, tape_within, no_parameter, wrong_pairs, right_pairs, rules)
