-- The grammar (document 01, "The text"; 02, request Two; 004, section 2.1): from a text to its modules, or its leftmost offence with the
-- smaller number at one place: refusals 1 to 5.
use Rattle.std.specs.Prelude.{ℕ, zero, suc, ◌-◌, Bool, ◌||◌, List, [], ◌∷◌, ◌++◌, eqb, leb, length}
use Rattle.types.specs.declared.Token.{Token}
use Rattle.meaning.specs.Lists.{pick}
use Rattle.meaning.specs.Names.{byte, slice, Name, same, prefix_name, infix_name, member}
use Rattle.meaning.specs.Numbers.{text_size, name_size, import_limit, binding_limit, pair_limit, argument_limit, condition_limit, bracket_limit, node_limit, no_token_there, not_allowed, other_end, over_size, module_twice}
use Rattle.meaning.specs.Tokens.{end_of_text, ident, arrow, implies, no_token, operator, begin_key, bound_key, by_key, end_key, equations_key, exports_key, functions_key, imports_key, module_key, parameters_key, renamed_key, sorts_key, to_key, variables_key, when_key, token_at}
use Rattle.meaning.specs.Syntax.{Function, Signature, Parameter, Pair, Clause, renamed_by, bound_by, Import, VariableGroup, Term, node, terms, Operand, joined_left, Sides, Equation, Module}

-- where reading is: the token that is next, and how many nodes of the equation have been read
pub record State : Type 0 where
  pub token : Token
  pub nodes : ℕ

-- what was read and where reading is then, or the refusal's number and place
pub data Result (A : Type 0) : Type 0 where
  done : A → State → Result A
  refused : ℕ → ℕ → Result A

abbrev pub Parser : Type 0 → Type 0
Parser A = State → Result A

-- what comes after a step, if the step is done
unfoldable pub after : {A B : Type 0} → Result A → (A → State → Result B) → Result B
after (done a s) f = f a s
after (refused k p) f = refused k p

infixl 20 ◌>>=◌
infixl 20 ◌>>◌
unfoldable pub ◌>>=◌ : {A B : Type 0} → Parser A → (A → Parser B) → Parser B
◌>>=◌ m f = λ s. after (m s) f

unfoldable pub ◌>>◌ : {A B : Type 0} → Parser A → Parser B → Parser B
◌>>◌ m f = λ s. after (m s) (λ a t. f t)

unfoldable pub return : {A : Type 0} → A → Parser A
return a = λ s. done a s

-- refused, at the next token
unfoldable pub refuse : {A : Type 0} → ℕ → Parser A
refuse n = λ s. refused n s.token.start

-- the token may not stand here: 2, or 1 where there is none
unfoldable pub unexpected : {A : Type 0} → Parser A
unexpected = λ s. refused (pick (eqb s.token.kind no_token) no_token_there not_allowed) s.token.start

-- `p` where the next token's kind passes the test, `q` where it does not
unfoldable pub if_next : {A : Type 0} → (ℕ → Bool) → Parser A → Parser A → Parser A
if_next test p q = λ s. let yes = p s in let otherwise = q s in pick (test s.token.kind) yes otherwise

abbrev pub is : ℕ → ℕ → Bool
is k = λ kind. eqb kind k

abbrev pub is_name : ℕ → Bool
is_name kind = eqb kind ident

-- a plain name, or an operator with its underlines
unfoldable pub begins_function : ℕ → Bool
begins_function kind = eqb kind ident || eqb kind operator || eqb kind (byte "_")

unfoldable pub begins_term : ℕ → Bool
begins_term kind = eqb kind ident || eqb kind operator || eqb kind (byte "(")

-- one item more than there may be: 4 at its first token, where that token may begin one
unfoldable pub too_many : {A : Type 0} → (ℕ → Bool) → Parser A
too_many begins = if_next begins (refuse over_size) unexpected

unfoldable pub empty_signature : Signature
empty_signature = record { sorts = []; functions = [] }

-- Where document 01 bounds no list, `text_size` does as well: an item takes a byte at the least, so that bound is never met.
module _ (text : List ℕ) where
  -- ---- single tokens

  -- the token that is next, passed over
  unfoldable pub step : Parser Token
  step = λ s. done s.token (record { token = token_at text s.token.end; nodes = s.nodes })

  unfoldable pub expect : ℕ → Parser Token
  expect k = if_next (is k) step unexpected

  abbrev pub spelled : Token → Name
  spelled t = slice text t.start t.end

  -- a name, of bounded size
  unfoldable pub short_name : Parser Name
  short_name = λ s. pick (leb (s.token.end - s.token.start) name_size) ((step >>= λ t. return (spelled t)) s) (refuse over_size s)

  unfoldable pub name : Parser Name
  name = if_next is_name short_name unexpected

  -- an operator without its underlines: the size is its own
  unfoldable pub bare_operator : Parser Name
  bare_operator = if_next (is operator) short_name unexpected

  -- the name after `end`: that of the module or the parameter that it closes
  unfoldable pub that_name : Name → Parser Token
  that_name n = λ s. pick (same n (spelled s.token)) (step s) (refuse other_end s)

  unfoldable pub this_name : Name → Parser Token
  this_name n = if_next is_name (that_name n) unexpected

  -- ---- lists

  -- one item and more, with the mark between them, at most n
  unfoldable pub separated : {A : Type 0} → ℕ → ℕ → (ℕ → Bool) → Parser A → Parser (List A)
  separated zero mark begins item = too_many begins
  separated (suc n) mark begins item = do
    a ← item
    more ← if_next (is mark) (λ s. (step >> separated n mark begins item) s) (return [])
    return (a ∷ more)

  -- items for as long as one begins, at most n
  unfoldable pub many : {A : Type 0} → ℕ → (ℕ → Bool) → Parser A → Parser (List A)
  many zero begins item = if_next begins (refuse over_size) (return [])
  many (suc n) begins item =
      if_next begins
      (do
        a ← item
        more ← many n begins item
        return (a ∷ more))
      (return [])

  -- one item and more
  unfoldable pub some_of : {A : Type 0} → ℕ → (ℕ → Bool) → Parser A → Parser (List A)
  some_of n begins item = if_next begins (many n begins item) unexpected

  -- what stands after a keyword, if the keyword does
  unfoldable pub optional : {A : Type 0} → ℕ → A → Parser A → Parser A
  optional key default p = if_next (is key) (step >> p) (return default)

  -- ---- declarations

  unfoldable pub sort_list : Parser (List Name)
  sort_list = separated text_size (byte ",") is_name name

  unfoldable pub input_type : Parser (List Name)
  input_type = if_next (is arrow) (return []) (separated argument_limit (byte "#") is_name name)

  -- `-_`
  unfoldable pub prefix_operator : Parser Name
  prefix_operator = do
    o ← bare_operator
    expect (byte "_")
    return (prefix_name o)

  -- `_+_`
  unfoldable pub infix_operator : Parser Name
  infix_operator = do
    expect (byte "_")
    o ← bare_operator
    expect (byte "_")
    return (infix_name o)

  unfoldable pub one_input : Parser (List Name)
  one_input = do
    a ← name
    return (a ∷ [])

  unfoldable pub two_inputs : Parser (List Name)
  two_inputs = do
    a ← name
    expect (byte "#")
    b ← name
    return (a ∷ b ∷ [])

  -- `: A # B -> C` after a function's name, given how its inputs are read
  unfoldable pub function_by : Parser (List Name) → Name → Parser Function
  function_by inputs f = do
    expect (byte ":")
    i ← inputs
    expect arrow
    o ← name
    return (record { name = f; inputs = i; output = o })

  -- a prefix operator has one input, an infix one has two
  unfoldable pub function : Parser Function
  function =
      if_next (is operator) (prefix_operator >>= function_by one_input)
      (if_next (is (byte "_")) (infix_operator >>= function_by two_inputs) (name >>= function_by input_type))

  unfoldable pub signature : Parser Signature
  signature = do
    s ← optional sorts_key [] sort_list
    f ← optional functions_key [] (some_of text_size begins_function function)
    return (record { sorts = s; functions = f })

  unfoldable pub parameter : Parser Parameter
  parameter = do
    p ← name
    expect begin_key
    s ← signature
    expect end_key
    this_name p
    return (record { name = p; signature = s })

  unfoldable pub exports : Parser Signature
  exports = do
    expect begin_key
    s ← signature
    expect end_key
    return s

  -- ---- imports

  unfoldable pub function_name : Parser Name
  function_name = if_next (is operator) prefix_operator (if_next (is (byte "_")) infix_operator name)

  unfoldable pub pair : Parser Pair
  pair = do
    a ← function_name
    expect arrow
    b ← function_name
    return (record { old = a; new = b })

  unfoldable pub pairs : Parser (List Pair)
  pairs = do
    expect (byte "[")
    r ← separated pair_limit (byte ",") begins_function pair
    expect (byte "]")
    return r

  unfoldable pub renamed : Parser Clause
  renamed = do
    expect renamed_key
    expect by_key
    r ← pairs
    return (renamed_by r)

  unfoldable pub bound : Parser Clause
  bound = do
    p ← name
    expect bound_key
    expect by_key
    r ← pairs
    expect to_key
    m ← name
    return (bound_by p r m)

  unfoldable pub perhaps_renamed : Parser (List Clause)
  perhaps_renamed = if_next (is renamed_key) (renamed >>= λ r. return (r ∷ [])) (return [])

  -- renamed, and perhaps bindings; or bindings, and perhaps renamed
  unfoldable pub modifier : Parser (List Clause)
  modifier =
      if_next (is renamed_key)
      (do
        r ← renamed
        b ← many binding_limit is_name bound
        return (r ∷ b))
      (do
        b ← some_of binding_limit is_name bound
        r ← perhaps_renamed
        return (b ++ r))

  unfoldable pub modifier_end : List Clause → Parser (List Clause)
  modifier_end c = expect (byte "}") >> return c

  unfoldable pub import_expression : Parser Import
  import_expression = do
    m ← name
    c ← optional (byte "{") [] (modifier >>= modifier_end)
    return (record { name = m; clauses = c })

  unfoldable pub imports : Parser (List Import)
  imports = separated import_limit (byte ",") is_name import_expression

  -- ---- variables

  unfoldable pub variable_group : Parser VariableGroup
  variable_group = do
    v ← separated text_size (byte ",") is_name name
    expect (byte ":")
    expect arrow
    s ← name
    return (record { names = v; sort = s })

  unfoldable pub variables : Parser (List VariableGroup)
  variables = some_of text_size is_name variable_group

  -- ---- terms and equations

  -- a name or an operator in a term, which is one node of the equation
  unfoldable pub counted : Parser Name → Parser Name
  counted p = λ s. pick (leb node_limit s.nodes) (refuse over_size s) (p (record { token = s.token; nodes = suc s.nodes }))

  unfoldable pub term_name : Parser Name
  term_name = if_next is_name (counted name) unexpected

  unfoldable pub term_operator : Parser Name
  term_operator = if_next (is operator) (counted bare_operator) unexpected

  -- a primary, given how to read what begins at an open bracket: the arguments of a name, or a bracketed term
  unfoldable pub primary_by : Parser (List Term) → Parser Term → Parser Term
  primary_by arguments inner =
      if_next (is (byte "(")) inner
      (do
        f ← term_name
        a ← if_next (is (byte "(")) arguments (return [])
        return (node f (terms a)))

  -- `- a`
  unfoldable pub prefixed : Parser Term → Parser Term
  prefixed primary = do
    o ← term_operator
    a ← primary
    return (node (prefix_name o) (terms (a ∷ [])))

  -- `+ b`
  unfoldable pub operand : Parser Term → Parser Operand
  operand primary = do
    o ← term_operator
    b ← primary
    return (record { operator = o; right = b })

  -- <term> ::= [ <term> <operator> ] <primary> | <operator> <primary>: a primary, or a prefix operator and one; then, for as long as there
  -- are operators, each joins a primary to what stands on its left. Their number is bounded by the nodes, so that bound is never met first
  unfoldable pub term_by : Parser Term → Parser Term
  term_by primary = do
    t ← if_next (is operator) (prefixed primary) primary
    os ← many node_limit (is operator) (operand primary)
    return (joined_left t os)

  unfoldable pub in_brackets : {A : Type 0} → Parser A → Parser A
  in_brackets p = do
    expect (byte "(")
    a ← p
    expect (byte ")")
    return a

  -- terms hold term lists and term lists hold terms: a term in which d more brackets may be open. A term is `depth_limit` deep at the most, and a
  -- name outside brackets is 1 already, so `bracket_limit` brackets may be open at once
  unfoldable pub term : ℕ → Parser Term
  term zero = term_by (primary_by (refuse over_size) (refuse over_size))
  term (suc d) =
      term_by (primary_by (in_brackets (separated argument_limit (byte ",") begins_term (term d))) (in_brackets (term d)))

  unfoldable pub sides : Parser Sides
  sides = do
    l ← term bracket_limit
    expect (byte "=")
    r ← term bracket_limit
    return (record { left = l; right = r })

  unfoldable pub sides_list : Parser (List Sides)
  sides_list = separated condition_limit (byte ",") begins_term sides

  -- the conclusion that an implication leads to
  unfoldable pub implied : Name → List Sides → Parser Equation
  implied tag es = do
    expect implies
    c ← sides
    return (record { tag = tag; before = es; conclusion = c; after = [] })

  -- the conditions that follow a conclusion
  unfoldable pub conditional : Name → Sides → Parser Equation
  conditional tag e = do
    w ← optional when_key [] sides_list
    return (record { tag = tag; before = []; conclusion = e; after = w })

  -- `conclusion`, `conclusion when conditions`, or `conditions => conclusion`: several sides, or an implication after one, are conditions. There
  -- is one at the least: the first clause is never reached
  unfoldable pub equation_after : Name → List Sides → Parser Equation
  equation_after tag [] = implied tag []
  equation_after tag (e ∷ []) = if_next (is implies) (implied tag (e ∷ [])) (conditional tag e)
  equation_after tag (e ∷ f ∷ es) = implied tag (e ∷ f ∷ es)

  unfoldable pub no_nodes : Parser Token
  no_nodes = λ s. done s.token (record { token = s.token; nodes = 0 })

  unfoldable pub equation : Parser Equation
  equation = do
    no_nodes
    expect (byte "[")
    t ← name
    expect (byte "]")
    es ← sides_list
    equation_after t es

  -- ---- modules

  -- a name that no earlier module has
  unfoldable pub fresh_name : List Name → Parser Name
  fresh_name taken = λ s. after (name s) (λ n t. pick (member n taken) (refuse module_twice s) (done n t))

  unfoldable pub a_module : List Name → Parser Module
  a_module taken = do
    expect module_key
    n ← fresh_name taken
    expect begin_key
    p ← optional parameters_key [] (separated text_size (byte ",") is_name parameter)
    e ← optional exports_key empty_signature exports
    i ← optional imports_key [] imports
    h ← signature
    v ← optional variables_key [] variables
    r ← optional equations_key [] (some_of text_size (is (byte "[")) equation)
    expect end_key
    this_name n
    return (record { name = n; parameters = p; exports = e; imports = i; hidden = h; groups = v; equations = r })

  -- the modules to the end of the text, at most n more
  unfoldable pub modules : ℕ → List Name → Parser (List Module)
  modules zero taken = too_many (is module_key)
  modules (suc n) taken = do
    m ← a_module taken
    ms ← if_next (is end_of_text) (return []) (λ s. modules n (m.name ∷ taken) s)
    return (m ∷ ms)

  -- the whole text: at most n modules, none called by a name taken. A text that is too long is refused before it is read
  unfoldable pub read : ℕ → List Name → Result (List Module)
  read n taken =
      let r = modules n taken (record { token = token_at text 0; nodes = 0 }) in
      pick (leb (length text) text_size) r (refused over_size text_size)

-- opens every definition of this file
unfoldable pub grammar_opened : Unit {0}
unfolding after ◌>>=◌ ◌>>◌ return refuse unexpected if_next begins_function begins_term too_many empty_signature step expect short_name name bare_operator that_name this_name separated many some_of optional sort_list input_type prefix_operator infix_operator one_input two_inputs function_by function signature parameter exports function_name pair pairs renamed bound perhaps_renamed modifier modifier_end import_expression imports variable_group variables counted term_name term_operator primary_by prefixed operand term_by in_brackets term sides sides_list implied conditional equation_after no_nodes equation fresh_name a_module modules read
grammar_opened = tt
