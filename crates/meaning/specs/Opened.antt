-- The whole definition opened, so that it computes.
use Rattle.meaning.specs.Lists.{lists_opened}
use Rattle.meaning.specs.Names.{names_opened}
use Rattle.meaning.specs.Numbers.{numbers_opened}
use Rattle.meaning.specs.Tokens.{tokens_opened}
use Rattle.meaning.specs.Syntax.{syntax_opened}
use Rattle.meaning.specs.Grammar.{grammar_opened}
use Rattle.meaning.specs.Origins.{origins_opened}
use Rattle.meaning.specs.Normal.{normal_opened}
use Rattle.meaning.specs.Written.{written_opened}
use Rattle.meaning.specs.Checks.{checks_opened}
use Rattle.meaning.specs.Clauses.{clauses_opened}
use Rattle.meaning.specs.Own.{own_opened}
use Rattle.meaning.specs.Typing.{typing_opened}
use Rattle.meaning.specs.Evaluate.{evaluate_opened}
use Rattle.meaning.specs.Reached.{reached_opened}
use Rattle.meaning.specs.Listing.{listing_opened}
use Rattle.meaning.specs.Texts.{texts_opened}
use Rattle.meaning.specs.Answer.{answer_opened}
use Rattle.meaning.specs.Reader.{reader_opened}

unfoldable pub all_opened : Unit {0}
unfolding lists_opened names_opened numbers_opened tokens_opened syntax_opened grammar_opened origins_opened normal_opened written_opened checks_opened clauses_opened own_opened typing_opened evaluate_opened reached_opened listing_opened texts_opened answer_opened reader_opened
all_opened = tt
