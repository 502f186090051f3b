-- The listing of a normal form in order, line by line, and its visible lines (document 01, "The listing").
use Rattle.std.specs.Prelude.{ℕ, ◌+◌, Bool, true, false, List, [], ◌∷◌, ◌++◌, map, take}
use Prim.Native.String.{String}
use Rattle.meaning.specs.Lists.{pick, keep, before, each}
use Rattle.meaning.specs.Names.{bytes, Name, same, member, words}
use Rattle.meaning.specs.Origins.{Section, export_section, hidden_section, parameter_section, Origin, ResolvedEquation, Shape, sort_shape, function_shape, variable_shape, Item}
use Rattle.meaning.specs.Normal.{Visible, Hidden, Normal, slot_names, formals}
use Rattle.meaning.specs.Written.{origin_text, numbered, shape_text, equation_text}

-- ---- the keys in the order of the listing, and `origin`, which follows each sort, function and variable

unfoldable pub listing_keys : List Name
listing_keys =
    words
    (bytes "module sort function parameter parameter-sort parameter-function hidden-sort hidden-function variable equation end origin")

-- ---- lines `key=value`, each ended by LF

pub record Line : Type 0 where
  pub key : List ℕ
  pub value : List ℕ

abbrev pub line : String → List ℕ → Line
line k v = record { key = bytes k; value = v }

unfoldable pub line_text : Line → List ℕ
line_text l = l.key ++ (bytes "=" ++ (l.value ++ bytes "\n"))

unfoldable pub lines_text : List Line → List ℕ
lines_text ls = each line_text ls

-- each sort, function and variable line is followed by its origin
unfoldable pub origin_line : Origin → Line
origin_line o = line "origin" (origin_text o)

-- ---- items: a key for each kind, the name or number, and what follows it. No variable is visible, exported or formal

unfoldable pub kind_key : String → String → String → Shape → List ℕ
kind_key s f v sort_shape = bytes s
kind_key s f v (function_shape t) = bytes f
kind_key s f v (variable_shape r) = bytes v

abbrev pub item_line : List ℕ → List ℕ → List Item → Shape → Line
item_line key called hidden shape = record { key = key; value = called ++ shape_text hidden shape }

unfoldable pub exported_lines : Item → List Line
exported_lines i =
    item_line (kind_key "sort" "function" "variable" i.shape) i.name [] i.shape ∷ origin_line i.origin ∷ []

unfoldable pub formal_lines : Item → List Line
formal_lines i =
    item_line (kind_key "parameter-sort" "parameter-function" "variable" i.shape) i.name [] i.shape
    ∷ origin_line i.origin ∷ []

-- exported or inherited items, then each parameter with its own
unfoldable pub is_exported : Section → Bool
is_exported export_section = true
is_exported hidden_section = false
is_exported (parameter_section p) = false

unfoldable pub parameter_lines : Visible → Name → List Line
parameter_lines v p = line "parameter" p ∷ each formal_lines (formals p v)

unfoldable pub visible_lines : Visible → List Line
visible_lines v =
    each exported_lines (keep (λ (i : Item). is_exported i.standing) v.items) ++ each (parameter_lines v) (slot_names v.parameters)

-- hidden items, from number k on
unfoldable pub hidden_item_lines : List Item → ℕ → List Item → List Line
hidden_item_lines hidden k [] = []
hidden_item_lines hidden k (i ∷ is) =
    item_line (kind_key "hidden-sort" "hidden-function" "variable" i.shape) (numbered k) hidden i.shape
    ∷ origin_line i.origin ∷ hidden_item_lines hidden (k + 1) is

unfoldable pub equation_line : List Item → ResolvedEquation → Line
equation_line hidden e = line "equation" (equation_text hidden e)

unfoldable pub hidden_lines : Hidden → List Line
hidden_lines h = hidden_item_lines h.items 1 h.items ++ map (equation_line h.items) h.equations

-- ---- the listing

unfoldable pub listing_lines : Name → Normal → List Line
listing_lines m n = line "module" m ∷ (visible_lines n.visible ++ (hidden_lines n.hidden ++ (line "end" m ∷ [])))

-- ---- the visible lines: those whose key stands before `hidden-sort` in this order, with the origins that follow them

unfoldable pub visible_keys : List Name
visible_keys = take (before (same (bytes "hidden-sort")) listing_keys) listing_keys

-- `kept` says whether the line before is one
unfoldable pub shown : Bool → List Line → List Line
shown kept [] = []
shown kept (l ∷ ls) =
    let keeps = pick (same l.key (bytes "origin")) kept (member l.key visible_keys) in
    let more = shown keeps ls in
    let here = l ∷ more in
    pick keeps here more

-- opens every definition of this file
unfoldable pub listing_opened : Unit {0}
unfolding listing_keys line_text lines_text origin_line kind_key exported_lines formal_lines is_exported parameter_lines visible_lines hidden_item_lines equation_line hidden_lines listing_lines visible_keys shown
listing_opened = tt
