-- What is told by comparing: entries that are the same are equal, entries from a place on are a part of all the tape's, and a section goes as far as
-- its roles do.
use Rattle.std.specs.Prelude.{◌≡◌, Bool, true, false, eqb, drop}
use Rattle.std.proofs.Math.Path.{refl, ap, ap₂}
use Rattle.std.proofs.Common.{sym, ◌∙◌, drop-cons, get_or-take, eqb-true, eq-eqb}
use Prim.Native.Nat.{ℕ, zero, suc, ◌+◌, ◌-◌, ◌≤◌}
use native.Mathlib.Omega.{arith}
use Rattle.std.proofs.lemmas.Bool.{false≢true}
use mathlib.Core.List.{List, [], ◌∷◌, ◌++◌}
use Rattle.std.proofs.Math.ListN.{length, take, length-map, get_or-map}
use Rattle.std.proofs.Math.Seq.{length-take-le}
use Rattle.meaning.specs.Lists.{pick, agree}
use Rattle.meaning.specs.Names.{same}
use Rattle.meaning.specs.OrderLaws.{same_self, same_equal, Every}
use Rattle.laws.specs.Decides.{Decides, agree_decided}
use Rattle.tape.specs.Tape.{Entry, spelled, entries}
use Rattle.ask_alike.specs.Alike.{same_entry, entries_from, section_role, run_size}

-- ---- entries that are the same

pub entries_decided : Decides same_entry
unfolding same_entry pick
entries_decided = record { self = self; equal = equal }
  where
    self : (e : Entry) → same_entry e e ≡ true
    self e = rw (eq-eqb e.role e.role refl) (same_self e.name)

    equal : (e f : Entry) → same_entry e f ≡ true → e ≡ f
    equal e f h = go (eqb e.role f.role) refl h
      where
        go : (b : Bool) → eqb e.role f.role ≡ b → pick b (same e.name f.name) false ≡ true → e ≡ f
        go true q h = rw (eqb-true e.role f.role q, same_equal e.name f.name h)
        go false q h = absurd (false≢true h)

-- runs of entries that agree are equal
pub runs_decided : Decides (agree same_entry)
runs_decided = agree_decided entries_decided

-- ---- lists of entries that are equal

first_same : {x y : Entry} {xs ys : List Entry} → x ∷ xs ≡ y ∷ ys → x ≡ y
first_same e = cc

rest_same : {x y : Entry} {xs ys : List Entry} → x ∷ xs ≡ y ∷ ys → xs ≡ ys
rest_same e = cc

no_entry : {X : Type 0} {x : Entry} {xs : List Entry} → ◌≡◌ {A = List Entry} [] (x ∷ xs) → X
no_entry e = let z : ◌≡◌ {A = ℕ} 0 1 = cc in absurd (omega arith)

-- ---- entries from a place on

module _ (text tape : List ℕ) where
  -- where they lie within the first t, they are a part of these
  pub entries_part : (t i n : ℕ) → i + n ≤ t → t ≤ length tape → entries_from text tape i n ≡ take n (drop i (entries text t tape))
  unfolding entries_from entries
  entries_part t i zero h l = refl
  entries_part t i (suc n) h l =
      let size : length (entries text t tape) ≡ t = length-map (take t tape) (spelled text) ∙ length-take-le t tape l in
      rw (drop-cons (entries text t tape) i (spelled text 0) (omega arith), entries_part t (suc i) n (omega arith) l)
      (ap (λ (e : Entry). e ∷ take n (drop (suc i) (entries text t tape)))
      (sym (get_or-map (spelled text) (take t tape) i 0 ∙ ap (spelled text) (get_or-take t tape i 0 (omega arith)))))

  -- n entries that are first xs and then ys
  pub first_entries : (i n : ℕ) (xs ys : List Entry) → entries_from text tape i n ≡ xs ++ ys → entries_from text tape i (length xs) ≡ xs
  unfolding entries_from
  first_entries i n [] ys e = refl
  first_entries i zero (x ∷ xs) ys e = no_entry e
  first_entries i (suc n) (x ∷ xs) ys e = ap₂ ◌∷◌ (first_same e) (first_entries (suc i) n xs ys (rest_same e))

  pub last_entries : (i n : ℕ) (xs ys : List Entry) → entries_from text tape i n ≡ xs ++ ys → entries_from text tape (i + length xs) (n - length xs) ≡ ys
  unfolding entries_from
  last_entries i n [] ys e =
      let here : i + 0 ≡ i = omega arith in
      let all : n - 0 ≡ n = omega arith in
      rw (here, all) e
  last_entries i zero (x ∷ xs) ys e = no_entry e
  last_entries i (suc n) (x ∷ xs) ys e =
      let on : i + suc (length xs) ≡ suc i + length xs = omega arith in
      let left : suc n - suc (length xs) ≡ n - length xs = omega arith in
      rw (on, left) (last_entries (suc i) n xs ys (rest_same e))

-- ---- sections

-- every role is one of the section
abbrev pub OfSection : ℕ → List Entry → Type 0
OfSection s es = Every (λ (e : Entry). section_role s e.role ≡ true) es

-- the first, if there is one, has no role of the section
abbrev pub BehindSection : ℕ → List Entry → Type 0
BehindSection s [] = Unit {0}
BehindSection s (e ∷ es) = section_role s e.role ≡ false

module _ (text tape : List ℕ) (s : ℕ) where
  no_run : (i n : ℕ) (ys : List Entry) → entries_from text tape i n ≡ ys → BehindSection s ys → run_size s tape i n ≡ 0
  unfolding entries_from run_size spelled pick
  no_run i zero ys e h = refl
  no_run i (suc n) [] e h = no_entry (sym e)
  no_run i (suc n) (y ∷ ys) e h = rw (ap (λ (x : Entry). section_role s x.role) (first_same e) ∙ h)

  -- a section's entries are those up to the first that is of another
  pub run_length : (i n : ℕ) (xs ys : List Entry) → entries_from text tape i n ≡ xs ++ ys → OfSection s xs → BehindSection s ys
      → run_size s tape i n ≡ length xs
  unfolding entries_from run_size spelled pick
  run_length i n [] ys e h k = no_run i n ys e k
  run_length i zero (x ∷ xs) ys e h k = no_entry e
  run_length i (suc n) (x ∷ xs) ys e h k =
      rw (ap (λ (z : Entry). section_role s z.role) (first_same e) ∙ h.0) (ap suc (run_length (suc i) n xs ys (rest_same e) h.1 k))
