-- What the words of nodes are written as, whatever they hold. A node is 32 times its row, 16 more for a hidden item, and its number of
-- arguments; nodes stand in prefix order. The visible items stand from place b of the memory w on.
use Rattle.std.specs.Prelude.{◌≡◌, ℕ, zero, suc, ◌+◌, ◌-◌, ◌*◌, ◌/◌, ◌%◌, ◌<◌, ◌≤◌, List, [], ◌∷◌, ◌++◌, eqb, ltb, length, get_or}
use denote.Ref.{MutBor, at_last}
use Rattle.meaning.specs.Lists.{pick}
use Rattle.meaning.specs.Names.{bytes}
use Rattle.meaning.specs.Written.{numbered}
use Rattle.text_names.specs.Word.{name_of}
use Rattle.form_rows.specs.Rows.{row_size}
use Rattle.form.specs.declared.EquationRow.{EquationRow}
use Rattle.list_pen.specs.Pen.{pen, written}
use Rattle.list_terms.specs.declared.Printed.{Printed}

-- a visible item is written by its name, a hidden one by its number
unfoldable pub node_text : List ℕ → List ℕ → ℕ → ℕ → List ℕ
node_text text w b v =
    let name = name_of text (get_or w (b + v / 32 * row_size + 1) 0) in let number = numbered (v / 32 + 1) in pick (eqb (v / 16 % 2) 0) name number

-- bytes, and the node that comes after those they are of
pub record Spelt : Type 0 where
  pub bytes : List ℕ
  pub next : ℕ

abbrev pub spelt : List ℕ → ℕ → Spelt
spelt bs n = record { bytes = bs; next = n }

-- the item at node i, and the node behind it; nothing where no node is
unfoldable pub item_at : List ℕ → List ℕ → ℕ → ℕ → Spelt
item_at text w b i = let item = spelt (node_text text w b (get_or w i 0)) (i + 1) in pick (ltb i (length w)) item (spelt [] i)

-- a byte before node i
unfoldable pub alone : ℕ → ℕ → Spelt
alone b i = spelt (b ∷ []) i

-- with the bracket before its arguments
unfoldable pub opened : Spelt → Spelt
opened s = spelt (s.bytes ++ bytes "(") s.next

-- n of them from node i on, each spelt by `one`, with commas between
unfoldable pub listed : (ℕ → Spelt) → ℕ → ℕ → Spelt
listed one zero i = spelt [] i
listed one (suc n) i =
    let t = one i in
    let a = listed one n t.next in
    pick (eqb n 0) t (spelt (t.bytes ++ (bytes "," ++ a.bytes)) a.next)

-- the term at node i, whose arguments are spelt by `arguments`; nothing where no node is
unfoldable pub term_by : List ℕ → List ℕ → ℕ → (ℕ → ℕ → Spelt) → ℕ → Spelt
term_by text w b arguments i =
    let v = get_or w i 0 in
    let name = node_text text w b v in
    let a = arguments (v % 16) (i + 1) in
    let t = pick (eqb (v % 16) 0) (spelt name (i + 1)) (spelt (name ++ (bytes "(" ++ (a.bytes ++ bytes ")"))) a.next) in
    pick (ltb i (length w)) t (spelt [] i)

-- the term at node i, down to a depth
unfoldable pub term_at : List ℕ → List ℕ → ℕ → ℕ → ℕ → Spelt
term_at text w b zero i = spelt [] i
term_at text w b (suc depth) i = term_by text w b (listed (term_at text w b depth)) i

-- ---- the same term by a loop down the first arguments, each straight behind its item, and one back

-- one behind the other
unfoldable pub followed : Spelt → Spelt → Spelt
followed s t = spelt (s.bytes ++ t.bytes) t.next

-- the items of n nodes from i on, each with the bracket before its arguments
unfoldable pub heads_at : List ℕ → List ℕ → ℕ → ℕ → ℕ → Spelt
heads_at text w b zero i = spelt [] i
heads_at text w b (suc n) i = let a = heads_at text w b n i in followed a (opened (item_at text w b a.next))

-- the way down: n brackets, and the term in the last
unfoldable pub down_at : List ℕ → List ℕ → ℕ → ℕ → ℕ → ℕ → Spelt
down_at text w b depth n i = let a = heads_at text w b n i in followed a (term_at text w b (depth - n) a.next)

-- what follows an item's first argument: n more from node i on, each spelt by `one` behind a comma, and the closing bracket
unfoldable pub closed : (ℕ → Spelt) → ℕ → ℕ → Spelt
closed one zero i = spelt (bytes ")") i
closed one (suc n) i = let t = one i in let a = closed one n t.next in spelt (bytes "," ++ (t.bytes ++ a.bytes)) a.next

-- the way back: from node j on, what follows the first arguments of the items of n nodes from i on, the last item's first
unfoldable pub back_at : List ℕ → List ℕ → ℕ → ℕ → ℕ → ℕ → ℕ → Spelt
back_at text w b depth zero i j = spelt [] j
back_at text w b depth (suc n) i j =
    let a = closed (term_at text w b (depth - n - 1)) (get_or w (i + n) 0 % 16 - 1) j in followed a (back_at text w b depth n i a.next)

-- two terms
unfoldable pub sides_at : List ℕ → List ℕ → ℕ → ℕ → ℕ → Spelt
sides_at text w b depth i =
    let l = term_at text w b depth i in
    let r = term_at text w b depth l.next in
    spelt (l.bytes ++ (bytes "=" ++ r.bytes)) r.next

-- n conditions
unfoldable pub when_at : List ℕ → List ℕ → ℕ → ℕ → ℕ → ℕ → List ℕ
when_at text w b depth n i = let some = bytes " when " ++ (listed (sides_at text w b depth) n i).bytes in pick (eqb n 0) [] some

-- what follows an equation's tag
unfoldable pub rule_at : List ℕ → List ℕ → ℕ → ℕ → ℕ → ℕ → List ℕ
rule_at text w b depth n i = let s = sides_at text w b depth i in s.bytes ++ when_at text w b depth n s.next

-- an equation whose form's nodes stand from place a on; no term is deeper than it has nodes
unfoldable pub equation_at : List ℕ → List ℕ → ℕ → ℕ → EquationRow → List ℕ
equation_at text w b a r =
    bytes "[" ++ (name_of text r.tag ++ (bytes "] " ++ rule_at text w b r.count r.conditions (a + r.start)))

-- s was written from `at` on: r tells the places that come next, o' is what became of o
pub record Shown (limit at : ℕ) (s : Spelt) (o : List ℕ) (r : Printed) (o' : List ℕ) : Type 0 where
  pub node : r.next ≡ s.next
  pub content : pen r.at o' ≡ written limit s.bytes (pen at o)

-- the next place of the output and the next node, of four places: those two, the limit and where the visible rows are
abbrev pub reached : List ℕ → Printed
reached p = record { at = get_or p 0 0; next = get_or p 1 0 }

-- a reference to the output
abbrev pub Lent : Type 0
Lent = MutBor (List ℕ)

-- s was written at the places p: they became p', the output that o lends became o', by the same reference
pub record Placed (s : Spelt) (p : List ℕ) (o : Lent) (p' : List ℕ) (o' : Lent) : Type 0 where
  pub same : o' ≡ at_last o o'.now
  pub limit : get_or p' 2 0 ≡ get_or p 2 0
  pub visible : get_or p' 3 0 ≡ get_or p 3 0
  pub shown : Shown (get_or p 2 0) (get_or p 0 0) s o.now (reached p') o'.now

-- the items of n nodes from i on have arguments
abbrev pub Applied : List ℕ → ℕ → ℕ → Type 0
Applied w i n = (m : ℕ) → m < n → get_or w (i + m) 0 % 16 ≡ 0 → ⊥

-- the way down was written at the places p, where n items with arguments have their brackets open
pub record Headed (text w : List ℕ) (depth n : ℕ) (p : List ℕ) (o : Lent) (p' : List ℕ) (o' : Lent) : Type 0 where
  pub within : n ≤ depth
  pub applied : Applied w (get_or p 1 0) n
  pub placed : Placed (down_at text w (get_or p 3 0) depth n (get_or p 1 0)) p o p' o'
