-- What the heads of a tape say, where the tape spells modules: how many there are, their names, and what each one names.
use Rattle.std.specs.Prelude.{◌≡◌, Bool, take, drop}
use Rattle.std.proofs.Math.Path.{refl, sym, ap}
use Rattle.std.proofs.Common.{◌∙◌, drop-cons, take-suc, take_all, take-take, take_at, drop_at, length-take-le, get_or-take}
use Prim.Native.Nat.{ℕ, zero, suc, ◌+◌, ◌-◌, ◌<◌, ◌≤◌}
use native.Mathlib.Omega.{arith}
use Rattle.std.proofs.Math.Bool.{true, false}
use mathlib.Core.List.{List, [], ◌∷◌, ◌++◌, map, append-nil, append_assoc}
use Rattle.std.proofs.Math.ListN.{length, get_or, length-append}
use Rattle.std.proofs.lemmas.List.{length-map}
use Rattle.meaning.specs.Lists.{pick, each}
use Rattle.meaning.specs.Names.{Name}
use Rattle.meaning.specs.Syntax.{Module}
use Rattle.meaning.specs.Evaluate.{named_by}
use Rattle.meaning.specs.Reached.{module_names}
use Rattle.tape.specs.Roles.{behind_name}
use Rattle.tape.specs.Tape.{Entry, flat_module, flat_modules, spelled, entries}
use Rattle.form_rows.specs.Entries.{role_at, name_at}
use Rattle.form_walks.specs.Lists.{each_append}
use Rattle.form_walks.specs.Flat.{names_with}
use Rattle.modules.specs.Modules.{is_module, names_module, places_from, HeadsOf, names_of, declared, picked, named_in, Heads}
use Rattle.modules.specs.Roles.{no_head_body, head_names, named_names}

-- ---- parts of lists

map_take : {A B : Type 0} (f : A → B) (c : ℕ) (l : List A) → map f (take c l) ≡ take c (map f l)
map_take f zero l = refl
map_take f (suc c) [] = refl
map_take f (suc c) (x ∷ l) = ap (λ r. f x ∷ r) (map_take f c l)

map_drop : {A B : Type 0} (f : A → B) (c : ℕ) (l : List A) → map f (drop c l) ≡ drop c (map f l)
map_drop f zero l = refl
map_drop f (suc c) [] = refl
map_drop f (suc c) (x ∷ l) = map_drop f c l

part_take : {A : Type 0} (c a n : ℕ) (l : List A) → a + c ≤ n → take c (drop a (take n l)) ≡ take c (drop a l)
part_take c zero n l h = take-take c n l (omega arith)
part_take c (suc a) zero l h = absurd (omega arith)
part_take c (suc a) (suc n) [] h = refl
part_take c (suc a) (suc n) (x ∷ l) h = part_take c a n l (omega arith)

-- ---- the tape by its entries

-- the places of the modules, the first entry's being i
starts : ℕ → List Entry → List ℕ
starts i [] = []
starts i (e ∷ es) = let more = starts (suc i) es in pick (is_module e.role) (i ∷ more) more

module _ (text tape : List ℕ) where
  picked_entries : (p : ℕ → Bool) (i c : ℕ) → i + c ≤ length tape → picked p text tape i c ≡ names_with p (map (spelled text) (take c (drop i tape)))
  unfolding picked names_with spelled
  picked_entries p i zero h = refl
  picked_entries p i (suc c) h =
      let l : i < length tape = omega arith in
      let more = picked_entries p (suc i) c (omega arith) in
      rw (drop-cons tape i 0 l, more)

  places_entries : (i c : ℕ) → i + c ≤ length tape → places_from tape i c ≡ starts i (map (spelled text) (take c (drop i tape)))
  unfolding places_from starts spelled
  places_entries i zero h = refl
  places_entries i (suc c) h =
      let l : i < length tape = omega arith in
      let more = places_entries (suc i) c (omega arith) in
      rw (drop-cons tape i 0 l, more)

  -- the names at the heads
  names_at_places : (i c : ℕ) → map (name_at text tape) (places_from tape i c) ≡ picked is_module text tape i c
  unfolding places_from picked pick
  names_at_places i zero = refl
  names_at_places i (suc c) = go (is_module (role_at tape i)) (names_at_places (suc i) c)
    where
      go : (b : Bool) → map (name_at text tape) (places_from tape (suc i) c) ≡ picked is_module text tape (suc i) c
          → map (name_at text tape) (pick b (i ∷ places_from tape (suc i) c) (places_from tape (suc i) c))
          ≡ pick b (name_at text tape i ∷ picked is_module text tape (suc i) c) (picked is_module text tape (suc i) c)
      go true e = ap (λ (l : List Name). name_at text tape i ∷ l) e
      go false e = e

  -- the names by number are those at the places
  pub names_by_number : (places : List ℕ) (k c : ℕ) → k + c ≤ length places → names_of text tape places k c ≡ map (name_at text tape) (take c (drop k places))
  unfolding names_of
  names_by_number places k zero h = refl
  names_by_number places k (suc c) h =
      let l : k < length places = omega arith in
      let more = names_by_number places (suc k) c (omega arith) in
      rw (drop-cons places k 0 l, more)

-- ---- the places of modules laid flat

starts_append : (i : ℕ) (xs ys : List Entry) → starts i (xs ++ ys) ≡ starts i xs ++ starts (i + length xs) ys
unfolding starts pick
starts_append i [] ys = let z : i ≡ i + 0 = omega arith in ap (λ (k : ℕ). starts k ys) z
starts_append i (x ∷ xs) ys =
    let z : suc i + length xs ≡ i + suc (length xs) = omega arith in
    go (is_module x.role) (starts_append (suc i) xs ys ∙ ap (λ (k : ℕ). starts (suc i) xs ++ starts k ys) z)
  where
    go : (b : Bool) → starts (suc i) (xs ++ ys) ≡ starts (suc i) xs ++ starts (i + suc (length xs)) ys
        → pick b (i ∷ starts (suc i) (xs ++ ys)) (starts (suc i) (xs ++ ys)) ≡ pick b (i ∷ starts (suc i) xs) (starts (suc i) xs) ++ starts (i + suc (length xs)) ys
    go true e = ap (λ (l : List ℕ). i ∷ l) e
    go false e = e

starts_none : (i : ℕ) (es : List Entry) → names_with is_module es ≡ [] → starts i es ≡ []
unfolding starts names_with pick
starts_none i [] e = refl
starts_none i (x ∷ es) e = go (is_module x.role) e (starts_none (suc i) es)
  where
    go : (b : Bool) → pick b (x.name ∷ names_with is_module es) (names_with is_module es) ≡ [] → (names_with is_module es ≡ [] → starts (suc i) es ≡ [])
        → pick b (i ∷ starts (suc i) es) (starts (suc i) es) ≡ []
    go true e f = let z : ◌≡◌ {A = ℕ} 0 1 = cc in absurd (omega arith)
    go false e f = f e

starts_module : (i : ℕ) (m : Module) → starts i (flat_module m) ≡ i ∷ []
unfolding starts flat_module behind_name is_module pick
starts_module i m = ap (λ (l : List ℕ). i ∷ l) (starts_none (suc i) (behind_name m) (no_head_body m))

-- where each module begins, and behind them where the last one ends
bounds : ℕ → List Module → List ℕ
bounds i [] = i ∷ []
bounds i (m ∷ ms) = i ∷ bounds (i + length (flat_module m)) ms

length_bounds : (i : ℕ) (ms : List Module) → length (bounds i ms) ≡ suc (length ms)
unfolding bounds
length_bounds i [] = refl
length_bounds i (m ∷ ms) = ap suc (length_bounds (i + length (flat_module m)) ms)

starts_bounds : (i : ℕ) (ms : List Module) → starts i (flat_modules ms) ++ ((i + length (flat_modules ms)) ∷ []) ≡ bounds i ms
unfolding starts flat_modules each bounds
starts_bounds i [] = let z : i + 0 ≡ i = omega arith in ap (λ (k : ℕ). k ∷ []) z
starts_bounds i (m ∷ ms) =
    let size : i + length (flat_module m ++ each flat_module ms) ≡ i + length (flat_module m) + length (each flat_module ms) =
    omega (arith, length-append (flat_module m) (each flat_module ms)) in
    rw (starts_append i (flat_module m), starts_module i m, size) (ap (λ (l : List ℕ). i ∷ l) (starts_bounds (i + length (flat_module m)) ms))

bounds_first : (i : ℕ) (ms : List Module) → get_or (bounds i ms) 0 0 ≡ i
unfolding bounds
bounds_first i [] = refl
bounds_first i (m ∷ ms) = refl

bounds_at : (i : ℕ) (xs ys : List Module) → get_or (bounds i (xs ++ ys)) (length xs) 0 ≡ i + length (flat_modules xs)
unfolding bounds flat_modules each
bounds_at i [] ys = bounds_first i ys ∙ omega arith
bounds_at i (x ∷ xs) ys = bounds_at (i + length (flat_module x)) xs ys ∙ omega (arith, length-append (flat_module x) (each flat_module xs))

-- ---- a tape that spells at most 64 modules, and its heads

pub record Spells (text tape : List ℕ) (n : ℕ) (ms : List Module) (h : Heads) : Type 0 where
  pub within : n ≤ length tape
  pub says : entries text n tape ≡ flat_modules ms
  pub few : length ms ≤ 64
  pub begun : HeadsOf tape n h

module _ (text tape : List ℕ) (n : ℕ) (ms : List Module) (h : Heads) (s : Spells text tape n ms h) where
  whole : map (spelled text) (take n tape) ≡ flat_modules ms
  unfolding entries
  whole = s.says

  places_whole : places_from tape 0 n ≡ starts 0 (flat_modules ms)
  places_whole = places_entries text tape 0 n (omega (arith, s.within)) ∙ ap (starts 0) whole

  end_whole : n ≡ length (flat_modules ms)
  end_whole = sym (length-take-le n tape s.within) ∙ sym (length-map (take n tape) (spelled text)) ∙ ap length whole

  starts_number : length (starts 0 (flat_modules ms)) ≡ length ms
  starts_number =
      omega (arith, ap length (starts_bounds 0 ms) ∙ length_bounds 0 ms, length-append (starts 0 (flat_modules ms)) ((0 + length (flat_modules ms)) ∷ []))

  heads_whole : take h.count h.places ≡ places_from tape 0 n
  heads_whole =
      let few : length (places_from tape 0 n) ≤ 64 = omega (arith, ap length places_whole, starts_number, s.few) in
      s.begun.begun ∙ take_all 64 (places_from tape 0 n) few

  -- there are as many heads as modules
  pub heads_number : h.count ≡ length ms
  heads_number =
      let within : h.count ≤ length h.places = omega (arith, s.begun.few, s.begun.size) in
      sym (length-take-le h.count h.places within) ∙ ap length heads_whole ∙ ap length places_whole ∙ starts_number

  -- the names declared are those of the modules
  pub declared_names : declared text tape h ≡ module_names ms
  unfolding declared
  declared_names =
      names_by_number text tape h.places 0 h.count (omega (arith, s.begun.few, s.begun.size))
      ∙ ap (map (name_at text tape)) heads_whole
      ∙ names_at_places text tape 0 n
      ∙ picked_entries text tape is_module 0 n (omega (arith, s.within))
      ∙ ap (names_with is_module) whole
      ∙ head_names ms

  heads_bounds : take (suc h.count) h.places ≡ bounds 0 ms
  heads_bounds =
      let within : h.count < length h.places = omega (arith, s.begun.few, s.begun.size) in
      let end : get_or h.places h.count 0 ≡ 0 + length (flat_modules ms) = s.begun.ended ∙ end_whole ∙ omega arith in
      take-suc h.places h.count 0 within
      ∙ ap (λ (l : List ℕ). l ++ (get_or h.places h.count 0 ∷ [])) (heads_whole ∙ places_whole)
      ∙ ap (λ (e : ℕ). starts 0 (flat_modules ms) ++ (e ∷ [])) end
      ∙ starts_bounds 0 ms

  -- a module begins where those before it end
  begins : (xs ys : List Module) → ms ≡ xs ++ ys → get_or h.places (length xs) 0 ≡ length (flat_modules xs)
  begins xs ys e =
      let l : length xs < suc h.count = omega (arith, heads_number, ap length e, length-append xs ys) in
      sym (get_or-take (suc h.count) h.places (length xs) 0 l)
      ∙ ap (λ (r : List ℕ). get_or r (length xs) 0) (heads_bounds ∙ ap (bounds 0) e)
      ∙ bounds_at 0 xs ys
      ∙ omega arith

  module _ (xs : List Module) (m : Module) (ys : List Module) (e : ms ≡ xs ++ (m ∷ ys)) where
    -- where module m, which is number length xs, begins and ends
    pub begin : get_or h.places (length xs) 0 ≡ length (flat_modules xs)
    begin = begins xs (m ∷ ys) e

    pub end : get_or h.places (length xs + 1) 0 ≡ length (flat_modules xs) + length (flat_module m)
    unfolding flat_modules each
    end =
        let number : length (xs ++ (m ∷ [])) ≡ length xs + 1 = length-append xs (m ∷ []) in
        let size : length (each flat_module (xs ++ (m ∷ []))) ≡ length (each flat_module xs) + length (flat_module m) =
        ap length (each_append flat_module xs (m ∷ []))
        ∙ length-append (each flat_module xs) (flat_module m ++ [])
        ∙ ap (λ (l : List Entry). length (each flat_module xs) + length l) (append-nil (flat_module m)) in
        ap (λ (k : ℕ). get_or h.places k 0) (sym number) ∙ begins (xs ++ (m ∷ [])) ys (e ∙ sym (append_assoc xs (m ∷ []) ys)) ∙ size

    parts : flat_modules ms ≡ flat_modules xs ++ (flat_module m ++ flat_modules ys)
    unfolding flat_modules each
    parts = ap (each flat_module) e ∙ each_append flat_module xs (m ∷ ys)

    inside : length (flat_modules xs) + length (flat_module m) ≤ n
    inside =
        omega (
          arith,
          end_whole,
          ap length parts,
          length-append (flat_modules xs) (flat_module m ++ flat_modules ys),
          length-append (flat_module m) (flat_modules ys),
        )

    -- its entries spell it
    pub module_entries : map (spelled text) (take (length (flat_module m)) (drop (length (flat_modules xs)) tape)) ≡ flat_module m
    module_entries =
        let a = length (flat_modules xs) in
        let c = length (flat_module m) in
        ap (map (spelled text)) (sym (part_take c a n tape inside))
        ∙ map_take (spelled text) c (drop a (take n tape))
        ∙ ap (take c) (map_drop (spelled text) a (take n tape) ∙ ap (drop a) (whole ∙ parts) ∙ drop_at (flat_modules xs) _ a refl)
        ∙ take_at (flat_module m) (flat_modules ys) c refl

    -- the names of modules among its entries are those that it names
    pub named_modules : named_in text tape h (length xs) ≡ named_by m
    unfolding named_in
    named_modules =
        let a = length (flat_modules xs) in
        let c = length (flat_module m) in
        let size : a + c - a ≡ c = omega arith in
        rw (begin, end, size)
        (picked_entries text tape names_module a c (omega (arith, s.within, inside)) ∙ ap (names_with names_module) module_entries ∙ named_names m)
