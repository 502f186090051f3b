-- What the code answers where it compares, as the numbers of the definitions: 0 for `Less`, 1 for `Equal` and 2 for `Greater`, as `ordering_index` has it.
use Rattle.std.specs.Prelude.{◌≡◌, refl, Bool, true, false, eqb, List, [], ◌∷◌, ℕ, ◌<◌, Option, Some, None}
use Rattle.std.specs.declared.cmp.Ordering.{Ordering}
use Rattle.std.specs.declared.cmp.Ordering.TheVariants.{Less, Equal, Greater}
use Rattle.std.specs.Ordering.{ordering_index, ordering_then, nat_cmp, is_eq, is_ne, is_lt}
use Rattle.std.specs.Cmp.Lexicographic.{slice_cmp}
use Rattle.std.proofs.Common.{sym, ap, ◌∙◌, arith, lt-ltb, le-ltb, eq-eqb, ne_eqb}
use Rattle.std.proofs.lemmas.Bool.{false≢true}
use Rattle.meaning.specs.Lists.{pick}
use Rattle.meaning.specs.Names.{same, bytes_not_after}
use Rattle.text_runs.specs.Orders.{compared, bytes_compared}
use Rattle.text_runs.specs.Runs.{by_size, Seen}
use Rattle.text_runs.specs.RunLaws.{in_cases, size_less, size_more, size_level, bytes_step}

-- 3 where nothing is seen at once
unfoldable pub seen_index : Option Ordering → ℕ
seen_index None = 3
seen_index (Some o) = ordering_index o

-- the same of elements, where those that are the same run have 4
unfoldable pub decided_index : Option Ordering → ℕ
decided_index None = 3
decided_index (Some Less) = 0
decided_index (Some Equal) = 4
decided_index (Some Greater) = 2

-- ---- no two answers have one number

pub index_same : (o p : Ordering) → ordering_index o ≡ ordering_index p → o ≡ p
index_same Less Less e = refl
index_same Less Equal e = absurd (omega (arith, e))
index_same Less Greater e = absurd (omega (arith, e))
index_same Equal Less e = absurd (omega (arith, e))
index_same Equal Equal e = refl
index_same Equal Greater e = absurd (omega (arith, e))
index_same Greater Less e = absurd (omega (arith, e))
index_same Greater Equal e = absurd (omega (arith, e))
index_same Greater Greater e = refl

pub index_apart : (o : Ordering) → is_ne o ≡ true → ordering_index o ≡ 1 → ⊥
index_apart Less e f = omega (arith, f)
index_apart Equal e f = false≢true e
index_apart Greater e f = omega (arith, f)

pub index_level : (o : Ordering) → is_ne o ≡ false → ordering_index o ≡ 1
index_level Less e = absurd (false≢true (sym e))
index_level Equal e = refl
index_level Greater e = absurd (false≢true (sym e))

pub index_eq : (o : Ordering) (t : Bool) → t ≡ is_eq o → t ≡ true → ordering_index o ≡ 1
index_eq Less t e h = absurd (false≢true (sym e ∙ h))
index_eq Equal t e h = refl
index_eq Greater t e h = absurd (false≢true (sym e ∙ h))

pub index_ne : (o : Ordering) (t : Bool) → t ≡ is_eq o → t ≡ false → ordering_index o ≡ 1 → ⊥
index_ne Less t e h f = omega (arith, f)
index_ne Equal t e h f = false≢true (sym h ∙ e)
index_ne Greater t e h f = omega (arith, f)

pub index_lt : (o : Ordering) → eqb (ordering_index o) 0 ≡ is_lt o
index_lt Less = refl
index_lt Equal = refl
index_lt Greater = refl

-- ---- what is seen at once is so

pub index_few : (o : Ordering) → ordering_index o < 3
index_few Less = omega arith
index_few Equal = omega arith
index_few Greater = omega arith

pub seen_told : (xs ys : List ℕ) (r : Option Ordering) (o : Ordering) → Seen xs ys (seen_index r) → r ≡ Some o → ordering_index o ≡ compared xs ys
unfolding seen_index
seen_told xs ys r o h e = sym ((rw e at h).told (index_few o))

pub seen_not : (xs ys : List ℕ) → Seen xs ys (seen_index None)
unfolding seen_index
seen_not xs ys = record { told = λ q. absurd (omega (arith, q)) }

-- ---- numbers and texts in order

pub then_told : (n m : ℕ) (o : Ordering) → ordering_index (ordering_then (nat_cmp n m) o) ≡ by_size n m (ordering_index o)
then_told n m o =
    in_cases n m
    (λ h. rw (lt-ltb n m h, size_less h))
    (λ h. rw (le-ltb n m (omega arith), ne_eqb n m (λ e. omega arith), size_more h))
    (λ h. rw (le-ltb n m (omega arith), eq-eqb n m h, size_level h))

pub size_told : (n m : ℕ) → ordering_index (nat_cmp n m) ≡ by_size n m 1
size_told n m =
    in_cases n m
    (λ h. rw (lt-ltb n m h, size_less h))
    (λ h. rw (le-ltb n m (omega arith), ne_eqb n m (λ e. omega arith), size_more h))
    (λ h. rw (le-ltb n m (omega arith), eq-eqb n m h, size_level h))

pub slices_told : (a b : List ℕ) → ordering_index (slice_cmp nat_cmp a b) ≡ bytes_compared a b
unfolding bytes_compared same bytes_not_after pick
slices_told [] [] = refl
slices_told [] (y ∷ b) = refl
slices_told (x ∷ a) [] = refl
slices_told (x ∷ a) (y ∷ b) = then_told x y (slice_cmp nat_cmp a b) ∙ ap (by_size x y) (slices_told a b) ∙ sym (bytes_step x y a b)
