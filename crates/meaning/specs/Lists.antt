-- Choices and lists, for all that follows. A choice goes by `pick`; what recurses is bound by `let`, since a call's arguments are
-- computed before the call and a `let` waits until it is wanted.
use Rattle.std.specs.Prelude.{ℕ, suc, ◌+◌, Bool, true, false, not, List, [], ◌∷◌, ◌++◌}
use Rattle.std.proofs.Math.Option.{Option, none, some}

-- the first where the test passes, the second where it fails
unfoldable pub pick {ℓ} : {A : Type ℓ} → Bool → A → A → A
pick true x y = x
pick false x y = y

-- ---- what a test finds

-- those that pass
unfoldable pub keep : {A : Type 0} → (A → Bool) → List A → List A
keep p [] = []
keep p (x ∷ xs) = let r = keep p xs in let s = x ∷ r in pick (p x) s r

-- one passes
unfoldable pub any : {A : Type 0} → (A → Bool) → List A → Bool
any p [] = false
any p (x ∷ xs) = let r = any p xs in pick (p x) true r

-- the first that passes
unfoldable pub first : {A : Type 0} → (A → Bool) → List A → Option A
first p [] = none
first p (x ∷ xs) = let r = first p xs in pick (p x) (some x) r

-- how many stand before the first that passes
unfoldable pub before : {A : Type 0} → (A → Bool) → List A → ℕ
before p [] = 0
before p (x ∷ xs) = let r = suc (before p xs) in pick (p x) 0 r

unfoldable pub or_else : {A : Type 0} → Option A → Option A → Option A
or_else (some a) b = some a
or_else none b = b

-- the first answer that there is
unfoldable pub first_some : {A B : Type 0} → (A → Option B) → List A → Option B
first_some f [] = none
first_some f (x ∷ xs) = let r = first_some f xs in or_else (f x) r

unfoldable pub none_in : {A : Type 0} → List A → Bool
none_in [] = true
none_in (x ∷ xs) = false

-- ---- what is made of each

-- what f gives for each, one after the other
unfoldable pub each : {A B : Type 0} → (A → List B) → List A → List B
each f [] = []
each f (x ∷ xs) = f x ++ each f xs

unfoldable pub sum : {A : Type 0} → (A → ℕ) → List A → ℕ
sum f [] = 0
sum f (x ∷ xs) = f x + sum f xs

-- ---- which are one

-- equal length, and the items agree in turn
unfoldable pub agree : {A : Type 0} → (A → A → Bool) → List A → List A → Bool
agree e [] [] = true
agree e [] (y ∷ ys) = false
agree e (x ∷ xs) [] = false
agree e (x ∷ xs) (y ∷ ys) = let r = agree e xs ys in pick (e x y) r false

-- each of xs agrees with one of ys
unfoldable pub all_among : {A : Type 0} → (A → A → Bool) → List A → List A → Bool
all_among e xs ys = not (any (λ x. not (any (e x) ys)) xs)

-- xs, and then each of ys that is not there yet
unfoldable pub union : {A : Type 0} → (A → A → Bool) → List A → List A → List A
union e xs [] = xs
union e xs (y ∷ ys) = let here = union e xs ys in let new = union e (xs ++ (y ∷ [])) ys in pick (any (e y) xs) here new

-- the first that is bad or met before, as it is told: each is asked beside what is kept of those before it
unfoldable pub first_bad : {A B C : Type 0} → (A → C) → (A → B) → (List B → A → Bool) → List B → List A → Option C
first_bad told kept bad met [] = none
first_bad told kept bad met (x ∷ xs) = let r = first_bad told kept bad (kept x ∷ met) xs in pick (bad met x) (some (told x)) r

-- the first that agrees with an earlier one
unfoldable pub repeated : {A C : Type 0} → (A → C) → (A → A → Bool) → List A → List A → Option C
repeated told e met xs = first_bad told (λ x. x) (λ earlier x. any (e x) earlier) met xs

-- ---- order

-- a's place in an ordered list: after all that are not after it
unfoldable pub place_in : {A : Type 0} → (A → A → Bool) → A → List A → List A
place_in le a [] = a ∷ []
place_in le a (x ∷ xs) = let r = place_in le a xs in let s = x ∷ r in pick (le x a) s (a ∷ x ∷ xs)

-- each of a list, put in its place in an ordered one
unfoldable pub sorted_onto : {A : Type 0} → (A → A → Bool) → List A → List A → List A
sorted_onto le ordered [] = ordered
sorted_onto le ordered (x ∷ xs) = sorted_onto le (place_in le x ordered) xs

abbrev pub sorted : {A : Type 0} → (A → A → Bool) → List A → List A
sorted le xs = sorted_onto le [] xs

-- opens every definition of this file
unfoldable pub lists_opened : Unit {0}
unfolding pick keep any first before or_else first_some none_in each sum agree all_among union first_bad repeated place_in sorted_onto
lists_opened = tt
