-- How numbers, origins, types and terms are written, and the order of a normal form that follows from it (document 01, "The listing").
use Rattle.std.specs.Prelude.{ℕ, zero, suc, ◌+◌, ◌/◌, ◌%◌, Bool, ◌&&◌, List, [], ◌∷◌, ◌++◌, map, eqb, leb, ltb}
use Rattle.meaning.specs.Lists.{pick, before, sorted}
use Rattle.meaning.specs.Names.{bytes, same, bytes_not_after, not_after, by_name, by_bytes, by_two}
use Rattle.meaning.specs.Origins.{Section, export_section, hidden_section, parameter_section, Declared, declared_sort, declared_function, declared_variable, Origin, same_origin, Sort, visible_sort, hidden_sort, FunctionType, Head, visible_head, hidden_head, ResolvedTerm, var, app, ResolvedTerms, none_left, ◌and_then◌, ResolvedSides, ResolvedEquation, Shape, sort_shape, function_shape, variable_shape, same_shape, Item}
use Rattle.meaning.specs.Normal.{Slot, Visible, Hidden, Normal, sorts_among}

-- ---- numbers

-- a number's digits, at most n of them: what has more is not written
unfoldable pub digits : ℕ → ℕ → List ℕ
digits zero k = []
digits (suc n) k = let more = digits n (k / 10) ++ ((48 + k % 10) ∷ []) in pick (ltb k 10) ((48 + k) ∷ []) more

-- every number that is told is below 2 ^ 32, so ten digits are enough
unfoldable pub decimal : ℕ → List ℕ
decimal k = digits 10 k

-- ---- forms: `f:A#B->C`, `a:->A`, `f(a,b)`

-- texts with a mark between them
unfoldable pub between_marks : List ℕ → List (List ℕ) → List ℕ
between_marks m [] = []
between_marks m (x ∷ []) = x
between_marks m (x ∷ y ∷ ys) = x ++ (m ++ between_marks m (y ∷ ys))

unfoldable pub type_text : List (List ℕ) → List ℕ → List ℕ
type_text i o = bytes ":" ++ (between_marks (bytes "#") i ++ (bytes "->" ++ o))

-- arguments, if there are any
unfoldable pub argument_text : List (List ℕ) → List ℕ
argument_text [] = []
argument_text (x ∷ xs) = bytes "(" ++ (between_marks (bytes ",") (x ∷ xs) ++ bytes ")")

-- ---- origins, with types as declared; a parameter section is written `parameter P`

unfoldable pub section_text : Section → List ℕ
section_text export_section = bytes "export"
section_text hidden_section = bytes "hidden"
section_text (parameter_section p) = bytes "parameter " ++ p

unfoldable pub declared_text : Declared → List ℕ
declared_text (declared_sort a) = bytes "sort," ++ a
declared_text (declared_function f i o) = bytes "function," ++ (f ++ type_text i o)
declared_text (declared_variable v s) = bytes "variable," ++ (v ++ type_text [] s)

unfoldable pub origin_text : Origin → List ℕ
origin_text o =
    bytes "[" ++ (o.home ++ (bytes "," ++ (section_text o.section ++ (bytes "," ++ (declared_text o.declared ++ bytes "]")))))

-- ---- hidden items are written `{k}`, k from 1 through all hidden sorts, functions and variables together: its place among them in order

unfoldable pub numbered : ℕ → List ℕ
numbered k = bytes "{" ++ (decimal k ++ bytes "}")

-- a sort, where `hidden` are the hidden items in order, or at the least the hidden sorts
unfoldable pub sort_text : List Item → Sort → List ℕ
sort_text hidden (visible_sort a) = a
sort_text hidden (hidden_sort o) = numbered (before (λ (i : Item). same_origin o i.origin) hidden + 1)

unfoldable pub function_type_text : List Item → FunctionType → List ℕ
function_type_text hidden t = type_text (map (sort_text hidden) t.inputs) (sort_text hidden t.output)

-- what follows an item's name
unfoldable pub shape_text : List Item → Shape → List ℕ
shape_text hidden sort_shape = []
shape_text hidden (function_shape t) = function_type_text hidden t
shape_text hidden (variable_shape s) = bytes ":" ++ sort_text hidden s

-- where `hidden` are the hidden items in order
module _ (hidden : List Item) where
  unfoldable pub head_text : Head → List ℕ
  head_text (visible_head f t) = f
  head_text (hidden_head o t) =
      numbered (before (λ (i : Item). same_origin o i.origin && same_shape (function_shape t) i.shape) hidden + 1)

  unfoldable pub variable_text : Origin → Sort → List ℕ
  variable_text o s =
      numbered (before (λ (i : Item). same_origin o i.origin && same_shape (variable_shape s) i.shape) hidden + 1)

  unfoldable mutual
    pub term_text : ResolvedTerm → List ℕ
    term_text (var o s) = variable_text o s
    term_text (app f xs) = head_text f ++ argument_text (term_texts xs)

    pub term_texts : ResolvedTerms → List (List ℕ)
    term_texts none_left = []
    term_texts (x and_then xs) = term_text x ∷ term_texts xs

  unfoldable pub sides_text : ResolvedSides → List ℕ
  sides_text e = term_text e.left ++ (bytes "=" ++ term_text e.right)

  -- ` when a=b,c=d` for both source forms
  unfoldable pub conditions_text : List ResolvedSides → List ℕ
  conditions_text [] = []
  conditions_text (c ∷ cs) = bytes " when " ++ between_marks (bytes ",") (map sides_text (c ∷ cs))

  unfoldable pub equation_text : ResolvedEquation → List ℕ
  equation_text e = bytes "[" ++ (e.tag ++ (bytes "] " ++ (sides_text e.conclusion ++ conditions_text e.conditions)))

  -- equations go by module order, position, then bytes
  unfoldable pub equation_order : ResolvedEquation → ResolvedEquation → Bool
  equation_order a b =
      let by_line = bytes_not_after (equation_text a) (equation_text b) in
      let by_position = pick (eqb a.position b.position) by_line (leb a.position b.position) in
      pick (eqb a.module_number b.module_number) by_position (leb a.module_number b.module_number)

-- ---- a normal form in order

-- sorts, then functions, then variables
unfoldable pub shape_rank : Shape → ℕ
shape_rank sort_shape = 0
shape_rank (function_shape t) = 1
shape_rank (variable_shape s) = 2

-- exported or inherited items first, then the parameters' by the parameters' names. No hidden item is asked
unfoldable pub standing_text : Section → List ℕ
standing_text export_section = []
standing_text hidden_section = []
standing_text (parameter_section p) = p

-- visible items ascend by name, then by the bytes of their type
unfoldable pub visible_order : Item → Item → Bool
visible_order a b =
    let by_name_and_type = by_two not_after (λ (i : Item). i.name) (λ (i : Item). shape_text [] i.shape) a b in
    let by_rank = pick (eqb (shape_rank a.shape) (shape_rank b.shape)) by_name_and_type (leb (shape_rank a.shape) (shape_rank b.shape)) in
    let by_standing = not_after (standing_text a.standing) (standing_text b.standing) in
    pick (same (standing_text a.standing) (standing_text b.standing)) by_rank by_standing

-- and so do parameters
unfoldable pub visible_in_order : Visible → Visible
visible_in_order v = record { parameters = by_name (λ (p : Slot). p.name) v.parameters; items = sorted visible_order v.items }

-- hidden ones ascend by the bytes of their origin, then type, in which `sorts` are the hidden sorts in order
unfoldable pub hidden_order : List Item → Item → Item → Bool
hidden_order sorts a b =
    let by_origin_and_type = by_two bytes_not_after (λ (i : Item). origin_text i.origin) (λ (i : Item). shape_text sorts i.shape) a b in
    pick (eqb (shape_rank a.shape) (shape_rank b.shape)) by_origin_and_type (leb (shape_rank a.shape) (shape_rank b.shape))

unfoldable pub hidden_in_order : Hidden → Hidden
hidden_in_order h =
    let sorts = by_bytes (λ (i : Item). origin_text i.origin) (sorts_among h.items) in
    let items = sorted (hidden_order sorts) h.items in
    record { items = items; equations = sorted (equation_order items) h.equations }

unfoldable pub in_order : Normal → Normal
in_order n = record { visible = visible_in_order n.visible; hidden = hidden_in_order n.hidden }

-- opens every definition of this file
unfoldable pub written_opened : Unit {0}
unfolding digits decimal between_marks type_text argument_text section_text declared_text origin_text numbered sort_text function_type_text shape_text head_text variable_text term_text sides_text conditions_text equation_text equation_order shape_rank standing_text visible_order visible_in_order hidden_order hidden_in_order in_order
written_opened = tt
