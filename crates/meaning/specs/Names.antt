-- Bytes and names (document 01, "The text"; 02, request Two): a name is a list of bytes. What is written is ordered by its bytes, names by their
-- runs of digits as numbers and their other bytes (document 02, Twelve).
use Rattle.std.specs.Prelude.{ℕ, ◌+◌, ◌-◌, ◌*◌, ◌^◌, Bool, true, false, ◌&&◌, List, [], ◌∷◌, ◌++◌, eqb, leb, take, drop, get_or}
use Prim.Native.Char.{Char, code}
use Prim.Native.String.{String}
use Rattle.std.proofs.Math.Option.{Option, none, some}
use Rattle.meaning.specs.Lists.{pick, any, sorted}

-- a quoted text's bytes: quoted texts are ASCII, where a character is a byte
abbrev pub bytes : String → List ℕ
bytes String.[] = []
bytes (String.◌∷◌ c s) = code c ∷ bytes s

-- a character's byte
abbrev pub byte : Char → ℕ
byte c = code c

-- the bytes of a text from one place up to another
abbrev pub slice : List ℕ → ℕ → ℕ → List ℕ
slice text i e = take (e - i) (drop i text)

abbrev pub Name : Type 0
Name = List ℕ

-- two names are the same bytes
unfoldable pub same : Name → Name → Bool
same [] [] = true
same [] (y ∷ ys) = false
same (x ∷ xs) [] = false
same (x ∷ xs) (y ∷ ys) = let r = same xs ys in pick (eqb x y) r false

-- ---- the order of bytes: the first text is not after the second, byte by byte, a shorter one before its extensions

unfoldable pub bytes_not_after : List ℕ → List ℕ → Bool
bytes_not_after [] ys = true
bytes_not_after (x ∷ xs) [] = false
bytes_not_after (x ∷ xs) (y ∷ ys) = let r = bytes_not_after xs ys in pick (eqb x y) r (leb x y)

-- ---- the order of names

-- a run of digits, as the number that it is and by how many digits it has; or one other byte
pub data Element : Type 0 where
  run : ℕ → ℕ → Element
  other : ℕ → Element

unfoldable pub is_digit : ℕ → Bool
is_digit b = leb 48 b && leb b 57

-- a digit more in front
unfoldable pub led_by : ℕ → List Element → List Element
led_by d [] = run d 1 ∷ []
led_by d (run n k ∷ es) = run (d * 10 ^ k + n) (k + 1) ∷ es
led_by d (other b ∷ es) = run d 1 ∷ other b ∷ es

-- a name's elements, each run as long as it goes
unfoldable pub elements : Name → List Element
elements [] = []
elements (b ∷ bs) = let more = elements bs in let led = led_by (b - 48) more in pick (is_digit b) led (other b ∷ more)

-- what is compared of them, from the left: a run comes before any other byte; runs go by their numbers and, of equal numbers, the one with fewer
-- leading zeros first; other bytes by value
unfoldable pub weights : List Element → List ℕ
weights [] = []
weights (run n k ∷ es) = 0 ∷ n ∷ k ∷ weights es
weights (other b ∷ es) = 1 ∷ b ∷ weights es

-- the first name is not after the second
unfoldable pub not_after : Name → Name → Bool
not_after v w = bytes_not_after (weights (elements v)) (weights (elements w))

-- ---- an operator's name has its underlines, as listings write it: `-_` and `_+_` are two names

unfoldable pub prefix_name : Name → Name
prefix_name o = o ++ bytes "_"

unfoldable pub infix_name : Name → Name
infix_name o = bytes "_" ++ (o ++ bytes "_")

-- an identifier has no underline, and neither has an operator without its own
unfoldable pub is_operator : Name → Bool
is_operator w = any (λ (b : ℕ). eqb b (byte "_")) w

unfoldable pub is_infix : Name → Bool
is_infix w = eqb (get_or w 0 0) (byte "_")

-- ---- names among names

unfoldable pub member : Name → List Name → Bool
member w [] = false
member w (x ∷ xs) = let r = member w xs in pick (same w x) true r

unfoldable pub lesser : Name → Option Name → Option Name
lesser x none = some x
lesser x (some y) = pick (not_after x y) (some x) (some y)

-- the least of the names, where there are any
unfoldable pub least : List Name → Option Name
least [] = none
least (x ∷ xs) = lesser x (least xs)

-- ---- by these orders

-- in the order of what they are called
abbrev pub by_name : {A : Type 0} → (A → Name) → List A → List A
by_name called xs = sorted (λ a b. not_after (called a) (called b)) xs

-- in the order of the bytes that they are written as
abbrev pub by_bytes : {A : Type 0} → (A → List ℕ) → List A → List A
by_bytes text xs = sorted (λ a b. bytes_not_after (text a) (text b)) xs

-- by one order of the first text, then by the bytes of the second
unfoldable pub by_two : {A : Type 0} → (List ℕ → List ℕ → Bool) → (A → List ℕ) → (A → List ℕ) → A → A → Bool
by_two first f g a b =
    let then_second = bytes_not_after (g a) (g b) in
    let by_first = first (f a) (f b) in
    pick (same (f a) (f b)) then_second by_first

-- the words that single spaces part
abbrev pub on_front : ℕ → List (List ℕ) → List (List ℕ)
on_front b [] = (b ∷ []) ∷ []
on_front b (w ∷ ws) = (b ∷ w) ∷ ws

unfoldable pub words : List ℕ → List (List ℕ)
words [] = [] ∷ []
words (b ∷ s) = let r = words s in let more = on_front b r in pick (eqb b 32) ([] ∷ r) more

-- opens every definition of this file
unfoldable pub names_opened : Unit {0}
unfolding same bytes_not_after is_digit led_by elements weights not_after prefix_name infix_name is_operator is_infix member lesser least by_two words
names_opened = tt
