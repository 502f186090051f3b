-- The forms that are made anew, and what is made of them.
use borrow.Author.Rules.{rules}
use Rattle.own_completing.specs.Said.{nodes_few, said_many, said_few, said_joined, joined_refused, joined_done, made_room}

pub ruleset forms = (nodes_few, said_many, said_few, said_joined, joined_refused, joined_done, made_room, rules)
