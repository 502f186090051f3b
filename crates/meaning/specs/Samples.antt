-- What the program's output does not show, computed: the listing reader, what is lent, readings that look right, and the order of names.
use Rattle.std.specs.Prelude.{◌≡◌, refl, ℕ, true, false, [], ◌∷◌, ◌++◌, map, ltb}
use Prim.Native.String.{String}
use Rattle.meaning.specs.Lists.{pick}
use Rattle.meaning.specs.Names.{bytes, Name, bytes_not_after, not_after, words}
use Rattle.meaning.specs.Numbers.{memory_size, no_token_there, not_allowed, clashing, bad_renaming, bad_parameter, lent_short, bad_line, formal_absent, formal_twice, actual_absent, other_kind, other_type, formal_unpaired}
use Rattle.meaning.specs.Tokens.{begin_key, bound_key, by_key, end_key, equations_key, exports_key, functions_key, imports_key, module_key, parameters_key, renamed_key, sorts_key, to_key, variables_key, when_key, keywords, word_kind}
use Rattle.meaning.specs.Checks.{lone}
use Rattle.meaning.specs.Texts.{Texts, two_texts}
use Rattle.meaning.specs.Answer.{Answer, listing, refusal, answer, asfnorm}
use Rattle.meaning.specs.Reader.{a_line, at_end, refused_line, line_at}
use Rattle.meaning.specs.Opened.{all_opened}

-- ---- the keywords' kinds are numbered in the order of their table

keyword_kinds :
    map word_kind (words keywords)
    ≡ begin_key ∷ bound_key ∷ by_key ∷ end_key ∷ equations_key ∷ exports_key ∷ functions_key ∷ imports_key ∷ module_key ∷ parameters_key
    ∷ renamed_key ∷ sorts_key ∷ to_key ∷ variables_key ∷ when_key ∷ []
unfolding all_opened
keyword_kinds = refl

-- ---- the listing reader

first_line : line_at (bytes "sort=A\nend=M\n") 0 ≡ a_line (bytes "sort") (bytes "A") 7
unfolding all_opened
first_line = refl

next_line : line_at (bytes "sort=A\nend=M\n") 7 ≡ a_line (bytes "end") (bytes "M") 13
unfolding all_opened
next_line = refl

the_end : line_at (bytes "sort=A\nend=M\n") 13 ≡ at_end
unfolding all_opened
the_end = refl

past_the_end : line_at (bytes "sort=A\nend=M\n") 14 ≡ refused_line bad_line 14
unfolding all_opened
past_the_end = refl

unknown_key : line_at (bytes "sorts=A\n") 0 ≡ refused_line bad_line 0
unfolding all_opened
unknown_key = refl

no_equals : line_at (bytes "end=M\nsort\nend=M\n") 6 ≡ refused_line bad_line 6
unfolding all_opened
no_equals = refl

no_line_feed : line_at (bytes "end=M") 0 ≡ refused_line bad_line 0
unfolding all_opened
no_line_feed = refl

first_equals : line_at (bytes "equation=[e] a=b\n") 0 ≡ a_line (bytes "equation") (bytes "[e] a=b") 17
unfolding all_opened
first_equals = refl

-- ---- what is lent, whatever the memory's size

short_memory : (memory output : ℕ) (asked : Name) (t : Texts) → ltb memory memory_size ≡ true → answer memory output asked t ≡ refusal lent_short 0 asked (lone []) 0
unfolding answer pick
short_memory memory output asked t e = rw e

exact_output : listing (answer memory_size 15 (bytes "M") (two_texts [] (bytes "module M begin end M"))) ≡ bytes "module=M\nend=M\n"
unfolding all_opened
exact_output = refl

short_output : answer memory_size 14 (bytes "M") (two_texts [] (bytes "module M begin end M")) ≡ refusal lent_short 1 (bytes "M") (lone []) 0
unfolding all_opened
short_output = refl

-- ---- readings that look right

-- a section is no string: a parameter called `hidden` is not the hidden section
hidden_parameter : answer memory_size 0 (bytes "M") (two_texts [] (bytes "module M begin parameters hidden begin sorts A end hidden sorts A end M")) ≡ refusal clashing 1 (bytes "M") (lone (bytes "A")) 0
unfolding all_opened
hidden_parameter = refl

-- an actual name keeps its own origin
actual_origin :
    listing
    (answer memory_size 99 (bytes "N") (two_texts [] (bytes "module L begin parameters P begin sorts X end P end L module B begin exports begin sorts Y end end B module N begin imports L { P bound by [ X -> Y ] to B } end N")))
    ≡ bytes "module=N\nsort=Y\norigin=[B,export,sort,Y]\nend=N\n"
unfolding all_opened
actual_origin = refl

-- a hidden function of a module that is imported under two renamings is two functions
two_instances :
    listing
    (answer memory_size 999 (bytes "N") (two_texts [] (bytes "module B begin exports begin sorts A end functions g : A -> A end B module N begin imports B { renamed by [ A -> C ] }, B { renamed by [ A -> D ] } end N")))
    ≡ bytes "module=N\nsort=C\norigin=[B,export,sort,A]\nsort=D\norigin=[B,export,sort,A]\nhidden-function={1}:C->C\norigin=[B,hidden,function,g:A->A]\nhidden-function={2}:D->D\norigin=[B,hidden,function,g:A->A]\nend=N\n"
unfolding all_opened
two_instances = refl

-- imported hidden items never clash: B and C hide a sort each that the other exports
hidden_names :
    listing
    (answer memory_size 999 (bytes "N") (two_texts [] (bytes "module B begin exports begin sorts A end sorts S end B module C begin exports begin sorts S end sorts A end C module N begin imports B, C end N")))
    ≡ bytes "module=N\nsort=A\norigin=[B,export,sort,A]\nsort=S\norigin=[C,export,sort,S]\nhidden-sort={1}\norigin=[B,hidden,sort,S]\nhidden-sort={2}\norigin=[C,hidden,sort,A]\nend=N\n"
unfolding all_opened
hidden_names = refl

-- a renaming takes its pairs at once: two names are exchanged
names_exchanged :
    listing (answer memory_size 99 (bytes "N") (two_texts [] (bytes "module B begin exports begin sorts A, B end end B module N begin imports B { renamed by [ A -> B, B -> A ] } end N")))
    ≡ bytes "module=N\nsort=A\norigin=[B,export,sort,B]\nsort=B\norigin=[B,export,sort,A]\nend=N\n"
unfolding all_opened
names_exchanged = refl

-- ---- the order of names

-- the first comes before the second
abbrev Before : String → String → Type 0
Before a b = (not_after (bytes a) (bytes b) ≡ true) × (not_after (bytes b) (bytes a) ≡ false)

-- runs of digits are numbers
by_number : Before "role9" "role10" × Before "a01" "a2" × Before "x9y" "x10a" × Before "999999999999999999999999999999999999999" "1000000000000000000000000000000000000000"
    × Before "1234567890123456789012345678901234567890" "1234567890123456789012345678901234567891"
unfolding all_opened
by_number = ((refl, refl), (refl, refl), (refl, refl), (refl, refl), (refl, refl))

-- equal numbers go by their leading zeros, at that run
by_zeros : Before "a1b" "a01b" × Before "a1z" "a01b" × Before "0" "00" × Before "00" "000" × Before "000" "1" × Before "1" "01"
unfolding all_opened
by_zeros = ((refl, refl), (refl, refl), (refl, refl), (refl, refl), (refl, refl), (refl, refl))

-- the end comes before anything, a run before any other byte
by_kind : Before "a" "a1" × Before "a" "a-b" × Before "a1" "a-" × Before "a7" "a'" × Before "7" "A"
unfolding all_opened
by_kind = ((refl, refl), (refl, refl), (refl, refl), (refl, refl), (refl, refl))

-- types, origins and equations go by bytes
by_bytes_alone : (bytes_not_after (bytes "A10") (bytes "A9") ≡ true) × (not_after (bytes "A10") (bytes "A9") ≡ false)
unfolding all_opened
by_bytes_alone = (refl, refl)

-- ---- operators (document 02, request Two)

-- infix joins to the left and is weaker than prefix; a listing has the underlines and prints applications in prefix form
joins_left :
    listing
    (answer memory_size 999 (bytes "M") (two_texts [] (bytes "module M begin exports begin sorts A functions a:->A _ + _:A#A->A _.b._:A#A->A end functions -_:A->A equations [e] -a + a .b. a = a + (- a) end M")))
    ≡ bytes "module=M\nsort=A\norigin=[M,export,sort,A]\nfunction=_+_:A#A->A\norigin=[M,export,function,_+_:A#A->A]\nfunction=_.b._:A#A->A\norigin=[M,export,function,_.b._:A#A->A]\nfunction=a:->A\norigin=[M,export,function,a:->A]\nhidden-function={1}:A->A\norigin=[M,hidden,function,-_:A->A]\nequation=[e] _.b._(_+_({1}(a),a),a)=_+_(a,{1}(a))\nend=M\n"
unfolding all_opened
joins_left = refl

-- after an operator comes a primary
no_second_operator : answer memory_size 0 (bytes "M") (two_texts [] (bytes "module M begin equations [e] a + - b = a end M")) ≡ refusal not_allowed 0 [] (lone []) 33
unfolding all_opened
no_second_operator = refl

-- a lone hyphen before > is the arrow; a longer run that ends so is one operator, and the > behind it is no token
no_arrow : answer memory_size 0 (bytes "M") (two_texts [] (bytes "module M begin equations [e]a+->a=a end M")) ≡ refusal no_token_there 0 [] (lone []) 31
unfolding all_opened
no_arrow = refl

-- two hyphens after layout are a comment, elsewhere an operator
hyphens :
    listing
    (answer memory_size 999 (bytes "M") (two_texts [] (bytes "module M begin exports begin sorts A functions--_:A->A a:->A end equations [e](--a)=a --a\n end M")))
    ≡ bytes "module=M\nsort=A\norigin=[M,export,sort,A]\nfunction=--_:A->A\norigin=[M,export,function,--_:A->A]\nfunction=a:->A\norigin=[M,export,function,a:->A]\nequation=[e] --_(a)=a\nend=M\n"
unfolding all_opened
hyphens = refl

-- and after a comment's closing hyphens they are no token
closing_hyphens : answer memory_size 0 (bytes "M") (two_texts [] (bytes "module M --c---- begin end M")) ≡ refusal no_token_there 0 [] (lone []) 14
unfolding all_opened
closing_hyphens = refl

-- an operator has its number of arguments, in every instance that it renames
wrong_number :
    answer memory_size 0 (bytes "N") (two_texts [] (bytes "module M begin exports begin sorts A functions h:A#A->A h:A->A end end M module N begin imports M { renamed by [h->_*_] } end N"))
    ≡ refusal bad_renaming 2 (bytes "N") (lone (bytes "h")) 0
unfolding all_opened
wrong_number = refl

-- and is no sort
operator_for_sort :
    answer memory_size 0 (bytes "N") (two_texts [] (bytes "module M begin exports begin sorts A end end M module N begin imports M { renamed by [A->*_] } end N"))
    ≡ refusal bad_renaming 2 (bytes "N") (lone (bytes "A")) 0
unfolding all_opened
operator_for_sort = refl

-- ---- a parameter that arrives twice (document 02, request Seven)

-- by two imports of one module it is one
parameter_twice :
    listing
    (answer memory_size 999 (bytes "N") (two_texts [] (bytes "module L begin parameters P begin sorts X functions x : -> X end P end L module A begin imports L end A module B begin imports L end B module N begin imports A, B end N")))
    ≡ bytes "module=N\nparameter=P\nparameter-sort=X\norigin=[L,parameter P,sort,X]\nparameter-function=x:->X\norigin=[L,parameter P,function,x:->X]\nend=N\n"
unfolding all_opened
parameter_twice = refl

-- and by a binding, where the actual module brings it too
parameter_bound :
    listing
    (answer memory_size 999 (bytes "N") (two_texts [] (bytes "module L begin parameters P begin sorts X end P end L module A begin exports begin sorts Y end imports L end A module B begin parameters Q begin sorts Z end Q imports L end B module N begin imports B { Q bound by [ Z -> Y ] to A } end N")))
    ≡ bytes "module=N\nsort=Y\norigin=[A,export,sort,Y]\nparameter=P\nparameter-sort=X\norigin=[L,parameter P,sort,X]\nend=N\n"
unfolding all_opened
parameter_bound = refl

-- renamed on one way only, it is two
parameter_renamed :
    answer memory_size 0 (bytes "N") (two_texts [] (bytes "module L begin parameters P begin sorts X end P end L module A begin imports L { renamed by [ X -> Y ] } end A module N begin imports A, L end N"))
    ≡ refusal bad_parameter 3 (bytes "N") (lone (bytes "P")) 0
unfolding all_opened
parameter_renamed = refl

-- bound on one way and open on the other, it is open
parameter_open :
    listing
    (answer memory_size 999 (bytes "N") (two_texts [] (bytes "module L begin parameters P begin sorts X end P end L module C begin exports begin sorts Y end end C module A begin imports L { P bound by [ X -> Y ] to C } end A module N begin imports A, L end N")))
    ≡ bytes "module=N\nsort=Y\norigin=[C,export,sort,Y]\nparameter=P\nparameter-sort=X\norigin=[L,parameter P,sort,X]\nend=N\n"
unfolding all_opened
parameter_open = refl

-- a sort of its types has two origins
parameter_sorts :
    answer memory_size 0 (bytes "N") (two_texts [] (bytes "module L begin parameters P begin functions f : Z -> Z end P, Q begin sorts Z end Q end L module C begin exports begin sorts Y end end C module D begin exports begin sorts Y end end D module N begin imports L { Q bound by [ Z -> Y ] to C }, L { Q bound by [ Z -> Y ] to D } end N"))
    ≡ refusal bad_parameter 4 (bytes "N") (lone (bytes "P")) 0
unfolding all_opened
parameter_sorts = refl

-- without sorts and functions, the module that declares it tells
parameter_empty :
    listing
    (answer memory_size 99 (bytes "N") (two_texts [] (bytes "module L begin parameters P begin end P end L module A begin imports L end A module N begin imports A, L end N")))
    ≡ bytes "module=N\nparameter=P\nend=N\n"
unfolding all_opened
parameter_empty = refl

parameters_empty :
    answer memory_size 0 (bytes "N") (two_texts [] (bytes "module L begin parameters P begin end P end L module A begin parameters P begin end P end A module N begin imports A, L end N"))
    ≡ refusal bad_parameter 3 (bytes "N") (lone (bytes "P")) 0
unfolding all_opened
parameters_empty = refl

-- M's own is never an imported one
parameter_own :
    answer memory_size 0 (bytes "N") (two_texts [] (bytes "module L begin parameters P begin sorts X end P end L module N begin parameters P begin sorts X end P imports L end N"))
    ≡ refusal bad_parameter 2 (bytes "N") (lone (bytes "P")) 0
unfolding all_opened
parameter_own = refl

-- ---- which binding mistake (document 02, request Five)

-- what is told of a binding by these pairs: P has the formals X and f : X -> X, and the actual module Y, g : Y -> Y and c : -> Y
abbrev bound_by_pairs : String → Answer
bound_by_pairs pairs =
    answer memory_size 99 (bytes "N")
    (two_texts [] (bytes "module L begin parameters P begin sorts X functions f : X -> X end P end L module B begin exports begin sorts Y functions g : Y -> Y c : -> Y end end B module N begin imports L { P bound by [" ++ bytes pairs ++ bytes "] to B } end N"))

abbrev mistake : ℕ → String → String → Answer
mistake number formal actual = refusal number 3 (bytes "N") (record { name = bytes formal; actual = bytes actual }) 0

-- each pair here would get the next number too
mistakes : (bound_by_pairs "Z->W" ≡ mistake formal_absent "Z" "W") × (bound_by_pairs "X->Y,X->W" ≡ mistake formal_twice "X" "W")
    × (bound_by_pairs "X->Y,f->W" ≡ mistake actual_absent "f" "W") × (bound_by_pairs "X->Y,f->Y" ≡ mistake other_kind "f" "Y")
    × (bound_by_pairs "X->Y,f->c" ≡ mistake other_type "f" "c") × (bound_by_pairs "X->Y" ≡ mistake formal_unpaired "f" "")
unfolding all_opened
mistakes = (refl, refl, refl, refl, refl, refl)

-- the pairs in text order, whatever their numbers; a formal sort without a good pair is 26 at its function
first_pair_told : (bound_by_pairs "f->c,Z->W" ≡ mistake other_type "f" "c") × (bound_by_pairs "f->g,X->W" ≡ mistake other_type "f" "g")
unfolding all_opened
first_pair_told = (refl, refl)

mistake_printed :
    asfnorm (bytes "normalise=N\nmodule L begin parameters P begin sorts X end P end L module N begin imports L { P bound by [ X -> Y ] to L } end N")
    ≡ bytes "answer=24\nmodules=2\nmodule=N\nname=X\nactual=Y\nat=0\n"
unfolding all_opened
mistake_printed = refl
