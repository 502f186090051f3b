-- The whole definition opened, so that it computes.
use Rattle.meaning.specs.Opened as Meaning
use Rattle.diagram_meaning.specs.Diagram.{diagram_opened}
use Rattle.diagram_meaning.specs.Answer.{diagram_answer_opened}

unfoldable pub all_opened : Unit {0}
unfolding Meaning.all_opened diagram_opened diagram_answer_opened
all_opened = tt
