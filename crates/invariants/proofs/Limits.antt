-- What is read is within its limits (document 01, "The text"): modules and their names, inputs of a function, pairs of a clause, nodes of an
-- equation.
use Rattle.std.specs.Prelude.{◌≡◌, List}
use Rattle.meaning.specs.Syntax.{Signature, Clause, renamed_by, bound_by, Module}
use Rattle.meaning.specs.OrderLaws.{Every}
use Rattle.meaning.specs.Texts.{Texts, all_read, read_texts}
use Rattle.laws.specs.EveryLaws.{every_so}
use Rattle.laws.specs.Reading.{Any, ReadSignature, ReadClause, ReadModule}
use Rattle.laws.proofs.Reading.{modules_read}
use Rattle.invariants.specs.Limits.{InputsWithin, PairsWithin, NodesWithin, Limited, Short, short}

signature_within : (g : Signature) → ReadSignature Short Any g → Every InputsWithin g.functions
signature_within g h = every_so _ InputsWithin g.functions (λ f k. k.inputs.few) h.functions

clause_within : (c : Clause) → ReadClause Short Any c → PairsWithin c
clause_within (renamed_by rs) h = h.few
clause_within (bound_by p rs m) h = h.few

module_within : (m : Module) → ReadModule Short Any m → Limited m
module_within m h = record {
  name = h.name;
  parameters = every_so _ _ m.parameters (λ p k. signature_within p.signature k.signature) h.parameters;
  exports = signature_within m.exports h.exports;
  hidden = signature_within m.hidden h.hidden;
  imports = h.imports.few;
  clauses = every_so _ _ m.imports (λ i k. every_so _ PairsWithin i.clauses clause_within k) h.imports.each_one;
  equations = every_so _ NodesWithin m.equations (λ e k. k.nodes) h.equations;
}

pub limits_read : (t : Texts) (ms : List Module) → read_texts t ≡ all_read ms → Every Limited ms
limits_read t ms e = every_so _ Limited ms module_within (modules_read Short Any short t ms e)
