-- One law for each way through the code.
use borrow.Author.Rules.{rules}
use Rattle.answer_listing.specs.Listed.{listed_within, hidden_few, listed_answered, long_answered}

pub ruleset cases = (listed_within, hidden_few, listed_answered, long_answered, rules)
