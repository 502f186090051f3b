use Rattle.own_completing.proofs.Forms.{forms}
use Rattle.own_completing.proofs.said.join_said.Goals as goal

pub fitting_all-requires : goal.fitting_all-requires
fitting_all-requires c = search forms

pub returns-then-few_nodes : goal.returns-then-few_nodes
returns-then-few_nodes c = search forms
