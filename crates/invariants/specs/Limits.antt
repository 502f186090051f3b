-- What is read is within its limits (document 01, "The text"): modules and their names, inputs of a function, pairs of a clause, nodes of an
-- equation.
use Rattle.std.specs.Prelude.{◌≡◌, ℕ, ◌+◌, ◌-◌, ◌≤◌, List, [], length, drop}
use Rattle.std.proofs.Common.{ap, ◌∙◌, arith, length-append, length-take, leb-true}
use Rattle.meaning.specs.Names.{Name}
use Rattle.meaning.specs.Numbers.{name_size, module_limit, import_limit, pair_limit, argument_limit, node_limit}
use Rattle.meaning.specs.Syntax.{Function, Parameter, Clause, renamed_by, bound_by, Import, Equation, Module}
use Rattle.meaning.specs.Tokens.{token_at}
use Rattle.meaning.specs.OrderLaws.{Every}
use Rattle.meaning.specs.Grammar.{State, done, read}
use Rattle.meaning.specs.Texts.{Texts, all_read, read_texts}
use Rattle.meaning.specs.TextsLaws.{Parts, by_library}
use Rattle.meaning.proofs.TextsLaws.{read_parts}
use Rattle.laws.specs.Reading.{Any, Named, source_equation}
use Rattle.laws.proofs.Reading.{text_read}

-- ---- the limits

abbrev pub InputsWithin : Function → Type 0
InputsWithin f = length f.inputs ≤ argument_limit

abbrev pub PairsWithin : Clause → Type 0
PairsWithin (renamed_by rs) = length rs ≤ pair_limit
PairsWithin (bound_by p rs a) = length rs ≤ pair_limit

abbrev pub NodesWithin : Equation → Type 0
NodesWithin e = source_equation e ≤ node_limit

pub record Limited (m : Module) : Type 0 where
  pub name : length m.name ≤ name_size
  pub parameters : Every (λ (p : Parameter). Every InputsWithin p.signature.functions) m.parameters
  pub exports : Every InputsWithin m.exports.functions
  pub hidden : Every InputsWithin m.hidden.functions
  pub imports : length m.imports ≤ import_limit
  pub clauses : Every (λ (i : Import). Every PairsWithin i.clauses) m.imports
  pub equations : Every NodesWithin m.equations

-- ---- what is read is within them

-- of names only the size is asked
abbrev pub Short : Name → Type 0
Short w = length w ≤ name_size

pub short : (text : List ℕ) → Named Short Any text
short text = record {
  token = λ i e f.
      let t = token_at text i in
      omega (arith, length-take (t.end - t.start) (drop t.start text), leb-true (t.end - t.start) name_size f);
  as_plain = λ w h. tt;
  as_prefix = λ w h. tt;
  as_infix = λ w h. tt;
}

pub text_few : (text : List ℕ) (n : ℕ) (taken : List Name) (ms : List Module) (s : State) → read text n taken ≡ done ms s → length ms ≤ n
text_few text n taken ms s e = (text_read Short Any text (short text) n taken ms s e).few

-- ---- both texts

-- the modules of both are at most 64
pub modules_few : (t : Texts) (ms : List Module) → read_texts t ≡ all_read ms → length ms ≤ module_limit
modules_few t ms e = go (read_parts t ms e)
  where
    go : Parts t ms → length ms ≤ module_limit
    go p =
        let ls = p.library_modules in
        let cs = p.customer_modules in
        let l : length ls ≤ module_limit =
        by_library (λ (ms : List Module). length ms ≤ module_limit) (omega arith) p (λ s q. text_few t.library module_limit [] ls s q) in
        let c : length cs ≤ module_limit - length ls = text_few t.customer _ _ cs p.state p.customer_read in
        let e : length ms ≡ length ls + length cs = ap (λ (xs : List Module). length xs) p.sequence ∙ length-append ls cs in
        omega (arith, l, c, e)
