-- Parts of the rules of terms that are functions of their own in the code.
use Rattle.std.specs.Prelude.{ℕ, Bool, List}
use Rattle.meaning.specs.Lists.{pick}
use Rattle.meaning.specs.Names.{byte}
use Rattle.meaning.specs.Numbers.{argument_limit}
use Rattle.meaning.specs.Tokens.{operator}
use Rattle.meaning.specs.Grammar.{is, begins_term}
use Rattle.read_steps.specs.Model.{Writer, ◌>>◌, stay, if_next, step, expect, mark, separated, term_name, prefixed, joins, operands, in_brackets, primary, term}
use Rattle.tape.specs.Tape.{close_role}

-- the next token, an operator as a prefix one and any other without an entry
unfoldable pub token_alone : List ℕ → Writer
token_alone text = if_next (is operator) (prefixed text) (step text)

-- the next token: between two operands an operator, which joins the entries from `start` on
unfoldable pub token_in : List ℕ → ℕ → Bool → Writer
token_in text start between = pick between (joins text start) (token_alone text)

-- the bracket that closes arguments, and the entry of their end
unfoldable pub arguments_end : List ℕ → Writer
arguments_end text = expect text (byte ")") >> mark close_role

-- a primary, and operators, each with the primary that it joins to the entries from `start` on
unfoldable pub operands_from : List ℕ → ℕ → ℕ → Writer
operands_from text start d = primary text d >> operands text start (primary text d)

-- a name, with its arguments if it has some, in which d more brackets may be open
unfoldable pub named : List ℕ → ℕ → Writer
named text d =
    term_name text >> if_next (is (byte "(")) (in_brackets text (separated text argument_limit (byte ",") begins_term (term text d)) >> mark close_role) stay
