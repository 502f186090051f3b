-- What is lent is what `asfnorm` is said to lend.
use Rattle.meaning.specs.Answer.{asfnorm}
use Rattle.meaning.specs.Numbers.{memory_size, program_output}
use Rattle.responding.specs.Program.{asfnorm_with}
use Rattle.asfnorm.proofs.respond_to.Goals as goal

pub returns : goal.returns
unfolding asfnorm asfnorm_with memory_size program_output
returns g c = rw (c.as_mut_slice.ensures.len, c.in_ok-work.ensures.len) at c.respond_with.ensures
