-- The grammar as it writes the tape: the rules of meaning/specs/Grammar.antt, line for line, where a rule leaves its entries in place of a
-- result. Rules have the names that they have there.
use Rattle.std.specs.Prelude.{ℕ, zero, suc, ◌+◌, ◌-◌, ◌*◌, ◌/◌, ◌%◌, Bool, false, List, Result, Ok, Err, eqb, leb, ltb, length, get_or, set, take, replicate}
use Rattle.types.specs.declared.Token.{Token}
use Rattle.meaning.specs.Lists.{pick, any}
use Rattle.meaning.specs.Names.{byte, Name, same, member}
use Rattle.meaning.specs.Numbers.{text_size, name_size, import_limit, binding_limit, pair_limit, argument_limit, condition_limit, bracket_limit, node_limit, no_token_there, not_allowed, other_end, over_size, module_twice}
use Rattle.meaning.specs.Tokens.{end_of_text, arrow, implies, no_token, operator, begin_key, bound_key, by_key, end_key, equations_key, exports_key, functions_key, imports_key, module_key, parameters_key, renamed_key, sorts_key, to_key, variables_key, when_key, token_at}
use Rattle.meaning.specs.Grammar.{is, is_name, begins_function, begins_term}
use Rattle.text_names.specs.Word.{plain_form, prefix_form, infix_form, name_of}
use Rattle.read_steps.specs.declared.Place.{Place}
use Rattle.read_steps.specs.declared.Misread.{Misread}
use Rattle.tape.specs.Tape.{module_role, parameter_role, parameter_sort, parameter_function, export_sort, export_function, hidden_sort, hidden_function, input_role, output_role, import_role, renamed_role, bound_role, old_role, new_role, actual_role, variable_role, variable_sort, tag_role, alone_role, head_role, close_role, condition_role, conclusion_role, prefix_role, infix_role}

-- where reading is; or the refusal that it ended with
abbrev pub Reading : Type 0
Reading = Result Place Misread

abbrev pub misread : ℕ → ℕ → Reading
misread k q = Err (record { number = k; place = q })

-- the answer, and the tape as it is then
pub record Out : Type 0 where
  pub answer : Reading
  pub tape : List ℕ

abbrev pub out : Reading → List ℕ → Out
out r t = record { answer = r; tape = t }

abbrev pub place : Token → ℕ → ℕ → Place
place t k n = record { token = t; nodes = k; entries = n }

-- reads from a place on, and writes the tape
abbrev pub Writer : Type 0
Writer = Place → List ℕ → Out

-- what a writer does after an answer: nothing, where that is a refusal
unfoldable pub onward : Reading → List ℕ → Writer → Out
onward (Err e) t w = out (Err e) t
onward (Ok p) t w = w p t

infixl 20 ◌>>◌
unfoldable pub ◌>>◌ : Writer → Writer → Writer
◌>>◌ f g = λ p t. let o = f p t in onward o.answer o.tape g

unfoldable pub stay : Writer
stay = λ p t. out (Ok p) t

-- refused, at the next token
unfoldable pub refuse : ℕ → Writer
refuse number = λ p t. out (misread number p.token.start) t

-- the token may not stand here: 2, or 1 where there is none
unfoldable pub unexpected : Writer
unexpected = λ p t. out (misread (pick (eqb p.token.kind no_token) no_token_there not_allowed) p.token.start) t

-- `f` where the next token's kind passes the test, `g` where it does not
unfoldable pub if_next : (ℕ → Bool) → Writer → Writer → Writer
if_next test f g = λ p t. let yes = f p t in let otherwise = g p t in pick (test p.token.kind) yes otherwise

-- one item more than there may be: 4 at its first token, where that token may begin one
unfoldable pub too_many : (ℕ → Bool) → Writer
too_many begins = if_next begins (refuse over_size) unexpected

-- ---- entries

-- the word of a name in a form: its token's place and size
unfoldable pub word_in : ℕ → Token → ℕ
word_in form t = t.start % 65536 * 256 + form * 64 + (t.end - t.start) % 64

-- of a plain name
abbrev pub word : Token → ℕ
word t = word_in plain_form t

-- the tape with a word more, where there is room
unfoldable pub written : ℕ → Writer
written w = λ p t. pick (ltb p.entries (length t)) (out (Ok (place p.token p.nodes (p.entries + 1))) (set t p.entries w)) (out (Ok p) t)

-- a name's word with a role, behind what is written
abbrev pub as_entry : ℕ → ℕ → Writer
as_entry role = λ w. written (w * 32 + role)

-- the tape with the word w at i, and the n - 1 words from there on moved up by one
unfoldable pub pushed : ℕ → ℕ → ℕ → List ℕ → List ℕ
pushed zero i w t = t
pushed (suc n) i w t = pushed n (suc i) (get_or t i 0) (set t i w)

-- the tape with a word more before those from `start` on, where there is room
unfoldable pub inserted : ℕ → ℕ → Writer
inserted start w =
    λ p t. pick (ltb p.entries (length t))
    (out (Ok (place p.token p.nodes (p.entries + 1))) (pushed (p.entries + 1 - start) start w t))
    (out (Ok p) t)

-- an entry without a name
unfoldable pub mark : ℕ → Writer
mark role = written role

-- a rule that needs to know how many entries there are
unfoldable pub with_entries : (ℕ → Writer) → Writer
with_entries f = λ p t. f p.entries p t

-- a rule that needs the word of the name that is next
unfoldable pub with_word : (ℕ → Writer) → Writer
with_word f = λ p t. f (word p.token) p t

-- is this the entry of a module with that name?
unfoldable pub declares : List ℕ → ℕ → ℕ → Bool
declares text w e = let named = same (name_of text w) (name_of text (e / 32)) in pick (eqb (e % 32) module_role) named false

-- does one of the first n entries declare a module with that name?
unfoldable pub taken : List ℕ → ℕ → ℕ → List ℕ → Bool
taken text w n t = any (declares text w) (take n t)

-- what two terms are: a condition, where a comma or an implication follows
unfoldable pub by_next : Writer
by_next = if_next (is (byte ",")) (mark condition_role) (if_next (is implies) (mark condition_role) (mark conclusion_role))

-- an equation begins with no node
unfoldable pub no_nodes : Writer
no_nodes = λ p t. out (Ok (place p.token 0 p.entries)) t

-- a name or an operator in a term, which is one node of the equation
unfoldable pub counted : Writer → Writer
counted f = λ p t. let yes = f (place p.token (suc p.nodes) p.entries) t in pick (leb node_limit p.nodes) (refuse over_size p t) yes

-- a refusal leaves zeros
unfoldable pub wiped : Reading → List ℕ → Out
wiped (Ok p) t = out (Ok p) t
wiped (Err e) t = out (Err e) (replicate (length t) 0)

module _ (text : List ℕ) where
  -- ---- single tokens

  -- the token that is next, passed over
  unfoldable pub step : Writer
  step = λ p t. out (Ok (place (token_at text p.token.end) p.nodes p.entries)) t

  unfoldable pub expect : ℕ → Writer
  expect k = if_next (is k) step unexpected

  -- the token that is next, of bounded size, written and passed over; f writes it, given its word in a form
  unfoldable pub short_name : ℕ → (ℕ → Writer) → Writer
  short_name form f =
      λ p t. let yes = (f (word_in form p.token) >> step) p t in
      pick (leb (p.token.end - p.token.start) name_size) yes (refuse over_size p t)

  unfoldable pub name : ℕ → Writer
  name role = if_next is_name (short_name plain_form (as_entry role)) unexpected

  -- an operator without its underlines
  unfoldable pub bare_operator : ℕ → (ℕ → Writer) → Writer
  bare_operator form f = if_next (is operator) (short_name form f) unexpected

  -- is the token the name of that word?
  unfoldable pub is_word_of : ℕ → Token → Bool
  is_word_of w t = pick (leb (t.end - t.start) name_size) (same (name_of text w) (name_of text (word t))) false

  -- the name after `end`: that of the module or the parameter that it closes
  unfoldable pub that_name : ℕ → Writer
  that_name w = λ p t. pick (is_word_of w p.token) (step p t) (refuse other_end p t)

  unfoldable pub this_name : ℕ → Writer
  this_name w = if_next is_name (that_name w) unexpected

  -- ---- lists

  -- one item and more, with the mark between them, at most n
  unfoldable pub separated : ℕ → ℕ → (ℕ → Bool) → Writer → Writer
  separated zero comma begins item = too_many begins
  separated (suc n) comma begins item = do
    item
    if_next (is comma) (λ p t. (step >> separated n comma begins item) p t) stay

  -- items for as long as one begins, at most n
  unfoldable pub many : ℕ → (ℕ → Bool) → Writer → Writer
  many zero begins item = if_next begins (refuse over_size) stay
  many (suc n) begins item =
      if_next begins
      (do
        item
        many n begins item)
      stay

  -- one item and more
  unfoldable pub some_of : ℕ → (ℕ → Bool) → Writer → Writer
  some_of n begins item = if_next begins (many n begins item) unexpected

  -- what stands after a keyword, if the keyword does
  unfoldable pub optional : ℕ → Writer → Writer
  optional key f = if_next (is key) (step >> f) stay

  -- ---- declarations

  unfoldable pub names : ℕ → ℕ → ℕ → Writer
  names n comma role = separated n comma is_name (name role)

  unfoldable pub input_type : Writer
  input_type = if_next (is arrow) stay (names argument_limit (byte "#") input_role)

  unfoldable pub prefix_operator : ℕ → Writer
  prefix_operator role = do
    bare_operator prefix_form (as_entry role)
    expect (byte "_")

  unfoldable pub infix_operator : ℕ → Writer
  infix_operator role = do
    expect (byte "_")
    bare_operator infix_form (as_entry role)
    expect (byte "_")

  unfoldable pub one_input : Writer
  one_input = name input_role

  unfoldable pub two_inputs : Writer
  two_inputs = do
    name input_role
    expect (byte "#")
    name input_role

  unfoldable pub function_by : Writer → Writer
  function_by inputs = do
    expect (byte ":")
    inputs
    expect arrow
    name output_role

  unfoldable pub function : ℕ → Writer
  function role =
      if_next (is operator) (prefix_operator role >> function_by one_input)
      (if_next (is (byte "_")) (infix_operator role >> function_by two_inputs) (name role >> function_by input_type))

  unfoldable pub signature : ℕ → ℕ → Writer
  signature sort_role function_role = do
    optional sorts_key (names text_size (byte ",") sort_role)
    optional functions_key (some_of text_size begins_function (function function_role))

  -- a signature between `begin` and `end`
  unfoldable pub enclosed : ℕ → ℕ → Writer
  enclosed sort_role function_role = do
    expect begin_key
    signature sort_role function_role
    expect end_key

  unfoldable pub parameter : Writer
  parameter =
      with_word
      (λ w. do
        name parameter_role
        enclosed parameter_sort parameter_function
        this_name w)

  unfoldable pub parameters : Writer
  parameters = separated text_size (byte ",") is_name parameter

  unfoldable pub exports : Writer
  exports = enclosed export_sort export_function

  -- ---- imports

  unfoldable pub function_name : ℕ → Writer
  function_name role = if_next (is operator) (prefix_operator role) (if_next (is (byte "_")) (infix_operator role) (name role))

  unfoldable pub pair : Writer
  pair = do
    function_name old_role
    expect arrow
    function_name new_role

  unfoldable pub pairs : Writer
  pairs = do
    expect (byte "[")
    separated pair_limit (byte ",") begins_function pair
    expect (byte "]")

  unfoldable pub renamed : Writer
  renamed = do
    expect renamed_key
    mark renamed_role
    expect by_key
    pairs

  unfoldable pub bound : Writer
  bound = do
    name bound_role
    expect bound_key
    expect by_key
    pairs
    expect to_key
    name actual_role

  unfoldable pub perhaps_renamed : Writer
  perhaps_renamed = if_next (is renamed_key) renamed stay

  -- renamed, and perhaps bindings; or bindings, and perhaps renamed
  unfoldable pub modifier : Writer
  modifier =
      if_next (is renamed_key)
      (do
        renamed
        many binding_limit is_name bound)
      (do
        some_of binding_limit is_name bound
        perhaps_renamed)

  unfoldable pub modified : Writer
  modified = do
    modifier
    expect (byte "}")

  unfoldable pub import_expression : Writer
  import_expression = do
    name import_role
    optional (byte "{") modified

  unfoldable pub imports : Writer
  imports = separated import_limit (byte ",") is_name import_expression

  -- ---- variables

  unfoldable pub variable_group : Writer
  variable_group = do
    names text_size (byte ",") variable_role
    expect (byte ":")
    expect arrow
    name variable_sort

  unfoldable pub variables : Writer
  variables = some_of text_size is_name variable_group

  -- ---- terms and equations

  -- what a name in a term is, by the token after it
  unfoldable pub node_role : Token → ℕ
  node_role t = pick (eqb (token_at text t.end).kind (byte "(")) head_role alone_role

  unfoldable pub term_name : Writer
  term_name = if_next is_name (λ p t. counted (name (node_role p.token)) p t) unexpected

  unfoldable pub term_operator : ℕ → (ℕ → Writer) → Writer
  term_operator form f = if_next (is operator) (counted (bare_operator form f)) unexpected

  -- a primary, given how to read what begins at an open bracket: the arguments of a name, or a bracketed term
  unfoldable pub primary_by : Writer → Writer → Writer
  primary_by arguments inner =
      if_next (is (byte "(")) inner
      (do
        term_name
        if_next (is (byte "(")) arguments stay)

  -- a prefix operator's own entry, if one stands there
  unfoldable pub prefixed : Writer
  prefixed = if_next (is operator) (term_operator prefix_form (as_entry prefix_role)) stay

  -- an infix operator's, before what it joins to what follows: the entries from `start` on
  unfoldable pub joins : ℕ → Writer
  joins start = term_operator infix_form (λ w. inserted start (w * 32 + infix_role))

  unfoldable pub operand : ℕ → Writer → Writer
  operand start primary = do
    joins start
    primary

  unfoldable pub operands : ℕ → Writer → Writer
  operands start primary = many node_limit (is operator) (operand start primary)

  unfoldable pub term_by : Writer → Writer
  term_by primary =
      with_entries
      (λ start. do
        prefixed
        primary
        operands start primary)

  unfoldable pub in_brackets : Writer → Writer
  in_brackets f = do
    expect (byte "(")
    f
    expect (byte ")")

  -- terms hold term lists and term lists hold terms: a primary in which d more brackets may be open, and such a term
  unfoldable pub primary : ℕ → Writer
  primary zero = primary_by (refuse over_size) (refuse over_size)
  primary (suc d) =
      primary_by (in_brackets (separated argument_limit (byte ",") begins_term (term_by (primary d))) >> mark close_role)
      (in_brackets (term_by (primary d)))

  unfoldable pub term : ℕ → Writer
  term d = term_by (primary d)

  -- two terms, and what they are
  unfoldable pub sides : Writer → Writer
  sides marked = do
    term bracket_limit
    expect (byte "=")
    term bracket_limit
    marked

  -- the conclusion that an implication leads to
  unfoldable pub implied : Writer
  implied = do
    expect implies
    sides (mark conclusion_role)

  -- the conditions that follow a conclusion
  unfoldable pub conditional : Writer
  conditional = optional when_key (separated condition_limit (byte ",") begins_term (sides (mark condition_role)))

  -- `conclusion`, `conclusion when conditions`, or `conditions => conclusion`: after the first sides, the list's other ones and what follows
  unfoldable pub equation_after : Writer
  equation_after =
      if_next (is (byte ","))
      (do
        step
        separated (condition_limit - 1) (byte ",") begins_term (sides by_next)
        implied)
      (if_next (is implies) implied conditional)

  unfoldable pub equation : Writer
  equation = do
    no_nodes
    expect (byte "[")
    name tag_role
    expect (byte "]")
    sides by_next
    equation_after

  unfoldable pub equations : Writer
  equations = some_of text_size (is (byte "[")) equation

  -- ---- modules

  -- a name that no earlier module has, of this text or of those before it, which are called so
  unfoldable pub fresh_name : List Name → Writer
  fresh_name before =
      λ p t. let o = name module_role p t in
      onward o.answer o.tape
      (λ q u. pick (taken text (word p.token) p.entries t) (refuse module_twice p u)
      (pick (member (name_of text (word p.token)) before) (refuse module_twice p u) (out (Ok q) u)))

  -- what a module declares before its hidden section, and from there on
  unfoldable pub front : Writer
  front = do
    optional parameters_key parameters
    optional exports_key exports
    optional imports_key imports

  unfoldable pub back : Writer
  back = do
    signature hidden_sort hidden_function
    optional variables_key variables
    optional equations_key equations

  -- from its name on, whose word is w
  unfoldable pub module_named : List Name → ℕ → Writer
  module_named before w = do
    fresh_name before
    expect begin_key
    front
    back
    expect end_key
    this_name w

  unfoldable pub a_module : List Name → Writer
  a_module before = do
    expect module_key
    with_word (module_named before)

  -- the modules to the end of the text, at most n more
  unfoldable pub modules : ℕ → List Name → Writer
  modules zero before = too_many (is module_key)
  modules (suc n) before = do
    a_module before
    if_next (is end_of_text) stay (λ p t. modules n before p t)

  -- a text that is too long is refused before it is read
  unfoldable pub read : ℕ → List Name → List ℕ → Out
  read n before t =
      let o = modules n before (place (token_at text 0) 0 0) t in
      let r = wiped o.answer o.tape in
      pick (leb (length text) text_size) r (wiped (misread over_size text_size) t)

-- opens every definition of this file
unfoldable pub model_opened : Unit {0}
unfolding onward ◌>>◌ stay refuse unexpected if_next too_many word_in written pushed inserted mark with_entries with_word declares taken by_next no_nodes counted wiped step expect short_name name bare_operator is_word_of that_name this_name separated many some_of optional names input_type prefix_operator infix_operator one_input two_inputs function_by function signature enclosed parameter parameters exports function_name pair pairs renamed bound perhaps_renamed modifier modified import_expression imports variable_group variables node_role term_name term_operator primary_by prefixed joins operand operands term_by in_brackets primary term sides implied conditional equation_after equation equations fresh_name front back module_named a_module modules read
model_opened = tt
