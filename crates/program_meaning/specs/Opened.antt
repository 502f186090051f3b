-- The whole definition opened, so that it computes.
use Rattle.diagram_meaning.specs.Opened as Diagrams
use Rattle.program_meaning.specs.Program.{program_opened}

unfoldable pub all_opened : Unit {0}
unfolding Diagrams.all_opened program_opened
all_opened = tt
