-- Typing in memory, as the code goes: the entries of a term from i on, and its nodes from place q on. A node is written behind its
-- arguments' nodes, at the place kept for it in front of them.
use Rattle.std.specs.Prelude.{ℕ, zero, suc, ◌+◌, ◌-◌, ◌*◌, ◌/◌, ◌%◌, ◌^◌, ◌<◌, ◌≤◌, ◌≡◌, Bool, true, List, [], ◌∷◌, map, eqb, ltb, length, get_or, set, take, replicate, Option, Some, None}
use denote.Ref.{MutBor, at_last}
use Rattle.meaning.specs.Lists.{pick, before}
use Rattle.meaning.specs.Origins.{Item}
use Rattle.tape.specs.Tape.{alone_role, head_role, prefix_role, infix_role}
use Rattle.form_rows.specs.Entries.{role_at, name_at}
use Rattle.form_rows.specs.Rows.{sort_of, row_at, row_size}
use Rattle.form.specs.Memory.{part}
use Rattle.form.specs.Forms.{items_at}
use Rattle.own_finding.specs.declared.Known.{Known}
use Rattle.own_finding.specs.Known.{variable_called, function_called}
use Rattle.own_finding.specs.Arguments.{node_word, arguments_of, closers_of, ends_at}
use Rattle.own_terms.specs.declared.Sorted.{Sorted}

-- what comes of a term: its sort, the entry behind it and the place behind its nodes; none where it is ill typed
abbrev pub Answer : Type 0
Answer = Option Sorted

abbrev pub of_sort : ℕ → ℕ → ℕ → Answer
of_sort sort next free = Some (record { sort = sort; next = next; free = free })

-- the answer, and the memory as it is then
pub record Out : Type 0 where
  pub answer : Answer
  pub memory : List ℕ

abbrev pub out : Answer → List ℕ → Out
out r w = record { answer = r; memory = w }

-- the tape, and the known items
abbrev pub tape_in : Known → List ℕ → List ℕ
tape_in k w = part w 0 k.tape

abbrev pub items_in : List ℕ → Known → List ℕ → List Item
items_in text k w = items_at text (tape_in k w) w k.base k.count

-- the node at q is of the item of a row
unfoldable pub settled : Known → ℕ → ℕ → ℕ → ℕ → ℕ → List ℕ → Out
settled k q row n next free w = out (of_sort (get_or (row_at w (k.base + row * row_size)).sorts 8 0) next free) (set w q (node_word k row n))

-- the row that is found, or none
unfoldable pub resolved : Known → ℕ → ℕ → ℕ → ℕ → ℕ → List ℕ → Out
resolved k q row n next free w = pick (ltb row k.count) (settled k q row n next free w) (out None w)

abbrev pub no_sorts : List ℕ
no_sorts = replicate 9 0

-- the row of the name at i: a variable, and a function that takes the first n sorts
unfoldable pub variable_row : List ℕ → Known → ℕ → List ℕ → ℕ
variable_row text k i w = before (variable_called (name_at text (tape_in k w) i)) (items_in text k w)

unfoldable pub function_row : List ℕ → Known → ℕ → List ℕ → ℕ → List ℕ → ℕ
function_row text k i sorts n w =
    before (function_called (name_at text (tape_in k w) i) (map (sort_of text (tape_in k w)) (take n sorts))) (items_in text k w)

-- the name at i whose arguments have the first n sorts; what follows stands at `next`, and `free` is the place behind their nodes
unfoldable pub applied_at : List ℕ → Known → ℕ → ℕ → ℕ → List ℕ → ℕ → ℕ → List ℕ → Out
applied_at text k i q n sorts next free w = resolved k q (function_row text k i sorts n w) n next free w

-- the name at i with no argument: a variable, or else a constant
unfoldable pub alone_at : List ℕ → Known → ℕ → ℕ → List ℕ → Out
alone_at text k i q w =
    let v = variable_row text k i w in
    let constant = applied_at text k i q 0 no_sorts (i + 1) (q + 1) w in
    pick (ltb v k.count) (settled k q v 0 (i + 1) (q + 1) w) constant

-- after an argument: its sort is put behind the others
unfoldable pub further : (ℕ → ℕ → ℕ → List ℕ → List ℕ → Out) → ℕ → List ℕ → Answer → List ℕ → Out
further more n sorts None w = out None w
further more n sorts (Some a) w = more a.next a.free (n + 1) (set sorts n a.sort) w

-- the arguments from i on, at most `left`, each typed by `term`, up to what closes them; n sorts are there
unfoldable pub args_by : Known → (ℕ → ℕ → List ℕ → Out) → (ℕ → List ℕ → ℕ → ℕ → List ℕ → Out) → ℕ → ℕ → ℕ → ℕ → ℕ → List ℕ → List ℕ → Out
args_by k term apply closers zero i q n sorts w = pick (ends_at (tape_in k w) closers 0 i) (apply n sorts (i + closers) q w) (out None w)
args_by k term apply closers (suc left) i q n sorts w =
    let o = term i q w in
    let more = further (args_by k term apply closers left) n sorts o.answer o.memory in
    pick (ends_at (tape_in k w) closers (suc left) i) (apply n sorts (i + closers) q w) more

-- an entry of the role begins a term
unfoldable pub is_opening : ℕ → Bool
is_opening role = pick (eqb role alone_role) true (pick (eqb role head_role) true (pick (eqb role prefix_role) true (eqb role infix_role)))

-- the term at i, whose arguments are typed by `args`, so many of them and closed by so many entries
unfoldable pub term_by : List ℕ → Known → (ℕ → ℕ → ℕ → ℕ → List ℕ → Out) → ℕ → ℕ → List ℕ → Out
term_by text k args i q w =
    let role = role_at (tape_in k w) i in
    let a = args (closers_of role) (arguments_of role) i q w in
    let t = pick (eqb role alone_role) (alone_at text k i q w) (pick (eqb (arguments_of role) 0) (out None w) a) in
    pick (ltb i k.tape) (pick (ltb q (length w)) t (out None w)) (out None w)

-- the term at i, down to a depth
unfoldable pub term_at : List ℕ → Known → ℕ → ℕ → ℕ → List ℕ → Out
term_at text k zero i q w = out None w
term_at text k (suc depth) i q w =
    term_by text k (λ closers left j p v. args_by k (term_at text k depth) (applied_at text k j p) closers left (j + 1) (p + 1) 0 no_sorts v) i q w

abbrev pub args_at : List ℕ → Known → ℕ → ℕ → ℕ → ℕ → ℕ → ℕ → ℕ → ℕ → List ℕ → List ℕ → Out
args_at text k depth head place closers left i q n sorts w = args_by k (term_at text k depth) (applied_at text k head place) closers left i q n sorts w

-- ---- the words that a level of a term is lent

-- what is known, of five words, of which four are no longer than a word of memory; behind them are two places and a depth, and the places of a name
unfoldable pub known_of : List ℕ → Known
known_of p = record { tape = get_or p 0 0; base = get_or p 1 0; count = get_or p 2 0; visible = get_or p 3 0; hidden = get_or p 4 0 }

pub record Words (p : List ℕ) : Type 0 where
  pub long : length p ≡ 10
  pub base : get_or p 1 0 < 4294967296
  pub count : get_or p 2 0 ≤ 65536
  pub visible : get_or p 3 0 < 4294967296
  pub hidden : get_or p 4 0 ≤ 65536
  pub small : get_or p 7 0 < 2 ^ 64

-- the words are those of what is known, the places and the depth
pub record At (k : Known) (next free depth : ℕ) (p : List ℕ) : Type 0 where
  pub long : length p ≡ 10
  pub known : known_of p ≡ k
  pub next_at : get_or p 5 0 ≡ next
  pub free_at : get_or p 6 0 ≡ free
  pub deep : get_or p 7 0 ≡ depth

-- the words, but that they point at a name: its entry, and the place of its node
pub record AtName (p : List ℕ) (i q : ℕ) (p' : List ℕ) : Type 0 where
  pub left : At (known_of p) (get_or p 5 0) (get_or p 6 0) (get_or p 7 0) p'
  pub entry : get_or p' 8 0 ≡ i
  pub place : get_or p' 9 0 ≡ q

-- the tape is in the memory, whose places are words
pub record Room (p w : List ℕ) : Type 0 where
  pub words : Words p
  pub tape : get_or p 0 0 ≤ length w
  pub fits : length w < 2 ^ 64

-- ---- operators that stand one behind the other: their first operands are gone over, and they are typed from the last to the first

-- the operator at i whose first operand came out so; a second one follows where it is infix, which the lowest bit of the word tells
unfoldable pub operated : List ℕ → Known → ℕ → ℕ → ℕ → ℕ → Out → Out
operated text k depth word i q o = further (args_by k (term_at text k depth) (applied_at text k i q) 0 (word % 2)) 0 no_sorts o.answer o.memory

-- the n operators from i on, the first of which stands at the depth; what is behind them came out so
unfoldable pub operated_row : List ℕ → Known → ℕ → ℕ → ℕ → ℕ → ℕ → Out → Out
operated_row text k depth i q zero word o = o
operated_row text k depth i q (suc n) word o = operated_row text k depth i q n (word / 2) (operated text k (depth - n - 1) word (i + n) (q + n) o)

-- how many operands the operator at i has, if there is room for its node at q; 0 where none stands
unfoldable pub operands_at : ℕ → ℕ → ℕ → List ℕ → ℕ
operands_at t i q w =
    let role = role_at (part w 0 t) i in
    pick (ltb i t) (pick (ltb q (length w)) (pick (eqb (closers_of role) 0) (arguments_of role) 0) 0) 0

-- n operators stand from i on, and a word of n bits behind its highest one tells which are infix: typed so, they are the term
pub record Row (k : Known) (depth i q : ℕ) (w : List ℕ) (n word : ℕ) : Type 0 where
  pub within : n ≤ depth
  pub few : n ≤ 63
  pub low : 2 ^ n ≤ word
  pub bits : word < 2 ^ (n + 1)
  pub entry : i + n < 2 ^ 64
  pub place : q + n < 2 ^ 64
  pub same : (text : List ℕ) → term_at text k depth i q w ≡ operated_row text k depth i q n word (term_at text k (depth - n) (i + n) (q + n) w)

-- how many bits the word has behind its highest one
unfoldable pub halvings : ℕ → ℕ → ℕ
halvings zero word = 0
halvings (suc most) word = pick (ltb 1 word) (halvings most (word / 2) + 1) 0

abbrev pub operators_in : List ℕ → ℕ
operators_in row = halvings 64 (get_or row 2 0)

-- a row is kept as three words: the entry and the place behind it, and the word that tells which are infix; what is behind it, at the depth, came out so
unfoldable pub returned : List ℕ → Known → ℕ → List ℕ → Out → Out
returned text k depth row o =
    let n = operators_in row in
    operated_row text k (depth + n) (get_or row 0 0 - n) (get_or row 1 0 - n) n (get_or row 2 0) o

-- so many operators are left of it
pub record Backed (depth : ℕ) (row : List ℕ) : Type 0 where
  pub left : ℕ
  pub few : left ≤ 63
  pub low : 2 ^ left ≤ get_or row 2 0
  pub bits : get_or row 2 0 < 2 ^ (left + 1)
  pub entry : left ≤ get_or row 0 0
  pub place : left ≤ get_or row 1 0
  pub total : depth + left < 2 ^ 64

-- at its last operator; and without that one
unfoldable pub stepped : List ℕ → List ℕ
stepped row = (get_or row 0 0 - 1) ∷ (get_or row 1 0 - 1) ∷ get_or row 2 0 ∷ []

unfoldable pub shortened : List ℕ → List ℕ
shortened row = get_or row 0 0 ∷ get_or row 1 0 ∷ (get_or row 2 0 / 2) ∷ []

-- where no operator is in the row, none is behind it
pub record Ended (k : Known) (depth : ℕ) (row w : List ℕ) : Type 0 where
  pub none : get_or row 2 0 ≤ 1 → (depth ≡ 0 → ⊥) → operands_at k.tape (get_or row 0 0) (get_or row 1 0) w ≡ 0

-- the operators of the row stand in the memory w, which stays; the words p become p', which have the depth behind the row
pub record Operators (p : List ℕ) (i q : ℕ) (w row p' w' : List ℕ) : Type 0 where
  pub n : ℕ
  pub stand : Row (known_of p) (get_or p 7 0) i q w n (get_or row 2 0)
  pub entry : get_or row 0 0 ≡ i + n
  pub place : get_or row 1 0 ≡ q + n
  pub left : At (known_of p) (get_or p 5 0) (get_or p 6 0) (get_or p 7 0 - n) p'
  pub ended : Ended (known_of p) (get_or p' 7 0) row w
  pub kept : w' ≡ w

-- ---- what a level of a term gives back: a number, and words

-- an answer of a number, which is one more than the sort, and of the two places; 0 is none
unfoldable pub answered : ℕ → ℕ → ℕ → Answer
answered zero next free = None
answered (suc s) next free = of_sort s next free

-- where there is an answer, what is known and the depth stand in the words
pub record Told (a : Answer) (k : Known) (depth r : ℕ) (p : List ℕ) : Type 0 where
  pub same : answered r (get_or p 5 0) (get_or p 6 0) ≡ a
  pub fits : r ≤ 4294967296
  pub stands : (r ≡ 0 → ⊥) → At k (get_or p 5 0) (get_or p 6 0) depth p

-- what comes out, so told
pub record Typed (o : Out) (k : Known) (depth r : ℕ) (p w : List ℕ) : Type 0 where
  pub told : Told o.answer k depth r p
  pub memory : w ≡ o.memory

-- a reference to the memory; and one of them is the other at another time
abbrev pub Lent : Type 0
Lent = MutBor (List ℕ)

pub record Stays (w w' : Lent) : Type 0 where
  pub same : w' ≡ at_last w w'.now
  pub size : length w'.now ≡ length w.now

-- what comes out where the memory was lent by w: it is now as w' lends it
pub record Reached (o : Out) (k : Known) (depth : ℕ) (w : Lent) (r : ℕ) (p : List ℕ) (w' : Lent) : Type 0 where
  pub stays : Stays w w'
  pub typed : Typed o k depth r p w'.now

-- what was read of the memory w, which stays
pub record Read {A : Type 0} (v : A) (w : List ℕ) (r : A) (w' : List ℕ) : Type 0 where
  pub value : r ≡ v
  pub kept : w' ≡ w

-- the row of the variable that the name at i is, if it stands alone
unfoldable pub variable_at : List ℕ → Known → Bool → ℕ → List ℕ → ℕ
variable_at text k alone i w = pick alone (variable_row text k i w) k.count

-- the name at i: a variable if it stands alone, or else a function of the first n sorts
unfoldable pub item_at : List ℕ → Known → Bool → ℕ → ℕ → ℕ → List ℕ → ℕ → ℕ → List ℕ → Out
item_at text k alone i q n sorts next free w =
    let v = variable_at text k alone i w in
    let function = applied_at text k i q n sorts next free w in
    pick (ltb v k.count) (settled k q v n next free w) function
