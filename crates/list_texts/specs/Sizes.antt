-- How many bytes origins and types are written with at most: names have at most forty-two, and there are at most nine sorts in a type.
use Rattle.std.specs.Prelude.{◌≡◌, refl, Bool, true, false, List, [], ◌∷◌, ◌++◌, map, ℕ, zero, suc, ◌+◌, ◌*◌, ◌/◌, ◌%◌, ◌-◌, ◌≤◌, eqb, ltb, length, take, get_or}
use Rattle.std.proofs.Common.{ap, arith, length-append, length-take}
use Rattle.std.proofs.lemmas.List.{length-map}
use Rattle.meaning.specs.Lists.{pick}
use Rattle.meaning.specs.Names.{bytes}
use Rattle.meaning.specs.Origins.{Item, visible_sort, hidden_sort, sort_shape, function_shape, variable_shape, declared_sort, declared_function, declared_variable}
use Rattle.meaning.specs.Written.{digits, decimal, between_marks, type_text, section_text, declared_text, origin_text, numbered, sort_text, function_type_text, shape_text}
use Rattle.meaning.specs.OrderLaws.{Every}
use Rattle.text_names.specs.Word.{name_of, name_short}
use Rattle.tape.specs.Tape.{variable_role}
use Rattle.form_sections.specs.declared.Section.{Section}
use Rattle.form_sections.specs.declared.Section.TheVariants.{Export, Hidden, Parameter}
use Rattle.form_rows.specs.declared.Origin.{Origin}
use Rattle.form_rows.specs.Entries.{role_at, name_at, names_from, inputs_from, is_function_role, arity_at, sort_place, declared_at}
use Rattle.form_rows.specs.Rows.{section_of, origin_of, hidden_origin, sort_of, type_of, shape_of}

-- ---- texts one after the other

joined : (a b : List ℕ) (n m : ℕ) → length a ≤ n → length b ≤ m → length (a ++ b) ≤ n + m
joined a b n m h k = omega (arith, length-append a b)

-- xs of at most c bytes each, with one byte between
marked : (x : ℕ) (xs : List (List ℕ)) (c : ℕ) → Every (λ (y : List ℕ). length y ≤ c) xs → length (between_marks (x ∷ []) xs) ≤ length xs * suc c
unfolding between_marks
marked x [] c h = omega arith
marked x (y ∷ []) c h = omega (arith, h.0)
marked x (y ∷ z ∷ zs) c h =
    let r = marked x (z ∷ zs) c h.1 in
    omega (arith, h.0, r, length-append y ((x ∷ []) ++ between_marks (x ∷ []) (z ∷ zs)), length-append (x ∷ []) (between_marks (x ∷ []) (z ∷ zs)))

-- ---- names and numbers

name_at_size : (text tape : List ℕ) (i : ℕ) → length (name_at text tape i) ≤ 42
name_at_size text tape i = name_short text _

digits_size : (n k : ℕ) → length (digits n k) ≤ n
unfolding digits pick
digits_size zero k = omega arith
digits_size (suc n) k = go (ltb k 10) (digits_size n (k / 10))
  where
    go : (b : Bool) → length (digits n (k / 10)) ≤ n → length (pick b ((48 + k) ∷ []) (digits n (k / 10) ++ ((48 + k % 10) ∷ []))) ≤ suc n
    go true h = omega arith
    go false h = omega (arith, length-append (digits n (k / 10)) ((48 + k % 10) ∷ []))

pub numbered_size : (k : ℕ) → length (numbered k) ≤ 42
unfolding numbered decimal
numbered_size k =
    let h = joined (bytes "{") (digits 10 k ++ bytes "}") 1 11 (omega arith) (joined (digits 10 k) (bytes "}") 10 1 (digits_size 10 k)
    (omega arith)) in omega arith

-- ---- origins

section_size : (text : List ℕ) (s : Section) → length (section_text (section_of text s)) ≤ 52
unfolding section_text section_of
section_size text Export = omega arith
section_size text Hidden = omega arith
section_size text (Parameter p) = joined (bytes "parameter ") (name_of text p) 10 42 (omega arith) (name_short text p)

inputs_few : (tape : List ℕ) (i c : ℕ) → inputs_from tape i c ≤ c
unfolding inputs_from pick
inputs_few tape i zero = omega arith
inputs_few tape i (suc c) = go (eqb (role_at tape i) _) (inputs_few tape (suc i) c)
  where
    go : (b : Bool) → inputs_from tape (suc i) c ≤ c → pick b (suc (inputs_from tape (suc i) c)) 0 ≤ suc c
    go true h = omega arith
    go false h = omega arith

names_length : (text tape : List ℕ) (i c : ℕ) → length (names_from text tape i c) ≡ c
unfolding names_from
names_length text tape i zero = refl
names_length text tape i (suc c) = ap suc (names_length text tape (suc i) c)

names_sizes : (text tape : List ℕ) (i c : ℕ) → Every (λ (y : List ℕ). length y ≤ 42) (names_from text tape i c)
unfolding names_from
names_sizes text tape i zero = tt
names_sizes text tape i (suc c) = (name_at_size text tape i, names_sizes text tape (suc i) c)

-- at most nine sorts of at most forty-two bytes
type_size : (i : List (List ℕ)) (o : List ℕ) → length i ≤ 9 → Every (λ (y : List ℕ). length y ≤ 42) i → length o ≤ 42
    → length (type_text i o) ≤ 432
unfolding type_text
type_size i o h e k =
    let inputs : length (between_marks (bytes "#") i) ≤ 387 = let m = marked 35 i 42 e in omega arith in
    joined (bytes ":") (between_marks (bytes "#") i ++ (bytes "->" ++ o)) 1 431 (omega arith)
    (joined (between_marks (bytes "#") i) (bytes "->" ++ o) 387 44 inputs (joined (bytes "->") o 2 42 (omega arith) k))

declared_size : (text tape : List ℕ) (d : ℕ) → length (declared_text (declared_at text tape d)) ≤ 483
unfolding declared_at arity_at declared_text pick
declared_size text tape d = go (is_function_role (role_at tape d)) (eqb (role_at tape d) variable_role)
  where
    few : length (names_from text tape (d + 1) (arity_at tape d)) ≤ 9
    few = omega (arith, inputs_few tape (d + 1) 8, names_length text tape (d + 1) (arity_at tape d))

    go : (f v : Bool) → length (declared_text (pick f
        (declared_function (name_at text tape d) (names_from text tape (d + 1) (arity_at tape d)) (name_at text tape (d + 1 + arity_at tape d)))
        (pick v (declared_variable (name_at text tape d) (name_at text tape (sort_place tape d))) (declared_sort (name_at text tape d))))) ≤ 483
    go true v =
        let i = names_from text tape (d + 1) (arity_at tape d) in
        let o = name_at text tape (d + 1 + arity_at tape d) in
        let t = type_size i o few (names_sizes text tape (d + 1) (arity_at tape d)) (name_at_size text tape (d + 1 + arity_at tape d)) in
        joined (bytes "function,") (name_at text tape d ++ type_text i o) 9 474 (omega arith)
        (joined (name_at text tape d) (type_text i o) 42 432 (name_at_size text tape d) t)
    go false true =
        let s = name_at text tape (sort_place tape d) in
        let t = type_size [] s (omega arith) tt (name_at_size text tape (sort_place tape d)) in
        joined (bytes "variable,") (name_at text tape d ++ type_text [] s) 9 474 (omega arith)
        (joined (name_at text tape d) (type_text [] s) 42 432 (name_at_size text tape d) t)
    go false false =
        let h = joined (bytes "sort,") (name_at text tape d) 5 42 (omega arith) (name_at_size text tape d) in omega arith

pub origin_size : (text tape : List ℕ) (o : Origin) → length (origin_text (origin_of text tape o)) ≤ 4096
unfolding origin_text origin_of
origin_size text tape o =
    let home = name_of text o.home in
    let section = section_text (section_of text o.section) in
    let declared = declared_text (declared_at text tape o.place) in
    let last = joined declared (bytes "]") 483 1 (declared_size text tape o.place) (omega arith) in
    let third = joined section (bytes "," ++ (declared ++ bytes "]")) 52 485 (section_size text o.section)
    (joined (bytes ",") (declared ++ bytes "]") 1 484 (omega arith) last) in
    let second = joined home (bytes "," ++ (section ++ (bytes "," ++ (declared ++ bytes "]")))) 42 538 (name_short text o.home)
    (joined (bytes ",") (section ++ (bytes "," ++ (declared ++ bytes "]"))) 1 537 (omega arith) third) in
    let all = joined (bytes "[") (home ++ (bytes "," ++ (section ++ (bytes "," ++ (declared ++ bytes "]"))))) 1 580 (omega arith) second in
    omega arith

-- ---- types

sort_size : (text tape : List ℕ) (hidden : List Item) (w : ℕ) → length (sort_text hidden (sort_of text tape w)) ≤ 42
unfolding sort_of sort_text pick
sort_size text tape hidden w = go (eqb (w % 2) 0)
  where
    go : (b : Bool) → length (sort_text hidden (pick b (visible_sort (name_of text (w / 2))) (hidden_sort (hidden_origin text tape (w / 2))))) ≤ 42
    go true = name_short text (w / 2)
    go false = numbered_size _

sorts_sizes : (text tape : List ℕ) (hidden : List Item) (ws : List ℕ) → Every (λ (y : List ℕ). length y ≤ 42)
    (map (sort_text hidden) (map (sort_of text tape) ws))
sorts_sizes text tape hidden [] = tt
sorts_sizes text tape hidden (w ∷ ws) = (sort_size text tape hidden w, sorts_sizes text tape hidden ws)

pub shape_size : (text tape : List ℕ) (hidden : List Item) (kind : ℕ) (sorts : List ℕ) → length sorts ≡ 9
    → length (shape_text hidden (shape_of text tape kind sorts)) ≤ 4096
unfolding shape_of shape_text function_type_text type_of pick
shape_size text tape hidden kind sorts nine = go (eqb kind 0) (eqb kind 1)
  where
    few : length (map (sort_text hidden) (map (sort_of text tape) (take (kind - 2) sorts))) ≤ 9
    few = omega (
      arith,
      length-map (map (sort_of text tape) (take (kind - 2) sorts)) (sort_text hidden),
      length-map (take (kind - 2) sorts) (sort_of text tape),
      length-take (kind - 2) sorts,
    )

    go : (p q : Bool) → length (shape_text hidden (pick p sort_shape
        (pick q (variable_shape (sort_of text tape (get_or sorts 8 0))) (function_shape (type_of text tape (kind - 2) sorts))))) ≤ 4096
    go true q = omega arith
    go false true =
        let h = joined (bytes ":") (sort_text hidden (sort_of text tape (get_or sorts 8 0))) 1 42 (omega arith)
        (sort_size text tape hidden (get_or sorts 8 0)) in omega arith
    go false false =
        let h = type_size (map (sort_text hidden) (map (sort_of text tape) (take (kind - 2) sorts))) (sort_text hidden (sort_of text tape (get_or sorts 8 0))) few
        (sorts_sizes text tape hidden (take (kind - 2) sorts)) (sort_size text tape hidden (get_or sorts 8 0)) in
        omega arith
