-- Theorems from places of the tape and rows of the memory to the meaning: `m` is the module that the entries spell, `v` what it sees of what
-- it imports.
use Rattle.std.specs.Prelude.{◌≡◌, Bool, List, [], ◌∷◌, ◌++◌, ℕ, zero, suc, ◌+◌, ◌-◌, ◌<◌, ◌≤◌, eqb}
use Rattle.std.proofs.Math.Path.{refl, ap}
use Rattle.std.proofs.Common.{◌∙◌, append-nil, arith, ltb-true}
use Rattle.std.proofs.Math.Bool.{true, false}
use Rattle.std.proofs.lemmas.Bool.{false≢true}
use Rattle.std.proofs.Math.Dec.{ltb}
use Rattle.std.proofs.Math.ListN.{length}
use Rattle.meaning.specs.Lists.{pick, each}
use Rattle.meaning.specs.Names.{Name, same, member}
use Rattle.meaning.specs.OrderLaws.{same_equal}
use Rattle.meaning.specs.Syntax.{Parameter, Module}
use Rattle.meaning.specs.Origins as meant
use Rattle.meaning.specs.Origins.{visible_sort, declared_sort}
use Rattle.meaning.specs.Normal.{Visible, sort_names}
use Rattle.meaning.specs.Own.{resolved}
use Rattle.meaning.specs.Evaluate.{seen_sorts}
use Rattle.text_names.specs.Word.{name_of}
use Rattle.tape.specs.Tape.{flat_module, hidden_sort}
use Rattle.form_rows.specs.Entries.{role_at, name_at, home_at}
use Rattle.form_walks.specs.Flat.{names_with}
use Rattle.form_rows.specs.Rows.{hidden_origin}
use Rattle.form.specs.Forms.{items_at}
use Rattle.own_repeats.specs.Scans.{first_of}
use Rattle.own_declarations.specs.Sorts.{is_named, place_of, declares_seen, hidden_place, is_seen, is_inside, resolved_in}
use Rattle.own_declarations.specs.RowNames.{sorts_found}
use Rattle.own_declarations.specs.Spelled.{Spells, is_role, names_module, place_found, home_there}
use Rattle.own_declarations.specs.declared.Own.{Own}

-- the entries of `own` spell the module, and its rows stand for what is visible
pub record Stands (text tape w : List ℕ) (own : Own) (m : Module) (v : Visible) : Type 0 where
  pub end : own.end ≡ own.from + length (flat_module m)
  pub entries : Spells text tape own.from (flat_module m)
  pub rows : items_at text tape w own.rows own.count ≡ v.items

-- ---- lists

pub member_append : (n : Name) (xs ys : List Name) → member n (xs ++ ys) ≡ pick (member n xs) true (member n ys)
unfolding member pick
member_append n [] ys = refl
member_append n (x ∷ xs) ys = rw (member_append n xs ys) (go (same n x))
  where
    go : (b : Bool) → pick b true (pick (member n xs) true (member n ys)) ≡ pick (pick b true (member n xs)) true (member n ys)
    go true = refl
    go false = refl

first_passes : (p : ℕ → Bool) (c i : ℕ) → first_of p i c < i + c → p (first_of p i c) ≡ true
unfolding first_of pick
first_passes p zero i h = absurd (omega arith)
first_passes p (suc c) i h = go (p i) refl h (λ l. first_passes p c (suc i) (omega arith))
  where
    go : (b : Bool) → p i ≡ b → pick b i (first_of p (suc i) c) < i + suc c → (first_of p (suc i) c < i + suc c → p (first_of p (suc i) c) ≡ true)
        → p (pick b i (first_of p (suc i) c)) ≡ true
    go true e l k = e
    go false e l k = k l

first_from : (p : ℕ → Bool) (c i : ℕ) → i ≤ first_of p i c
unfolding first_of pick
first_from p zero i = omega arith
first_from p (suc c) i = go (p i) (first_from p c (suc i))
  where
    go : (b : Bool) → suc i ≤ first_of p (suc i) c → i ≤ pick b i (first_of p (suc i) c)
    go true h = omega arith
    go false h = omega arith

-- a test that passes only for the name
called : (b : Bool) (x y : Name) → pick b (same x y) false ≡ true → x ≡ y
unfolding pick
called true x y e = same_equal x y e
called false x y e = absurd (false≢true e)

-- ---- the sorts that a module declares

parameter_sorts : (m : Module) → names_with (is_role 3) (flat_module m) ≡ each (λ (p : Parameter). p.signature.sorts) m.parameters
unfolding pick
parameter_sorts m = names_module 3 (record { odd = refl; more = omega arith; less = omega arith }) m ∙ append-nil _

export_sorts : (m : Module) → names_with (is_role 5) (flat_module m) ≡ m.exports.sorts
unfolding pick
export_sorts m = names_module 5 (record { odd = refl; more = omega arith; less = omega arith }) m ∙ append-nil _

hidden_sorts : (m : Module) → names_with (is_role 7) (flat_module m) ≡ m.hidden.sorts
unfolding pick
hidden_sorts m = names_module 7 (record { odd = refl; more = omega arith; less = omega arith }) m

-- ---- what sort a name means

module _ (text tape w : List ℕ) (own : Own) (m : Module) (v : Visible) (s : Stands text tape w own m v) (n : Name) where
  -- a visible sort has the name
  pub seen_told : is_seen text tape w own n ≡ member n (seen_sorts m v)
  unfolding is_seen declares_seen seen_sorts sort_names
  seen_told =
      rw (
        sorts_found text tape w own.rows own.count n,
        s.rows,
        place_found text tape own 3 n (flat_module m) s.end s.entries,
        place_found text tape own 5 n (flat_module m) s.end s.entries,
        parameter_sorts m,
        export_sorts m,
        member_append n (sort_names v),
        member_append n (each (λ (p : Parameter). p.signature.sorts) m.parameters),
      )

  hidden_told : ltb (hidden_place text tape own n) own.end ≡ member n m.hidden.sorts
  unfolding hidden_place
  hidden_told = place_found text tape own 7 n (flat_module m) s.end s.entries ∙ ap (member n) (hidden_sorts m)

  -- a visible sort or the module's hidden one
  pub inside_told : is_inside text tape w own n ≡ member n (seen_sorts m v ++ m.hidden.sorts)
  unfolding is_inside
  inside_told = rw (seen_told, hidden_told, member_append n (seen_sorts m v))

  -- the hidden sort that is found is the module's of the name
  hidden_there : hidden_place text tape own n < own.end
      → hidden_origin text tape (hidden_place text tape own n) ≡ record { home = m.name; section = meant.hidden_section; declared = declared_sort n }
  unfolding hidden_origin hidden_place place_of is_named
  hidden_there h =
      let d = hidden_place text tape own n in
      let z : own.end - own.from ≡ length (flat_module m) = omega (arith, s.end) in
      let from : own.from ≤ d = first_from (is_named text tape 7 n) (own.end - own.from) own.from in
      let passed : is_named text tape 7 n d ≡ true = first_passes (is_named text tape 7 n) (own.end - own.from) own.from (omega (arith, s.end)) in
      let home : name_of text (home_at tape d) ≡ m.name = home_there text tape m own.from d s.entries from (omega (arith, s.end)) in
      let name : n ≡ name_at text tape d = called (eqb (role_at tape d) hidden_sort) n (name_at text tape d) passed in
      rw (home, ← name)

  -- what the module's text means by the name
  pub resolved_told : resolved_in text tape w own n ≡ resolved m (seen_sorts m v) n
  unfolding resolved_in resolved pick
  resolved_told = rw (seen_told, ← hidden_told) (go (ltb (hidden_place text tape own n) own.end) refl)
    where
      go : (b : Bool) → ltb (hidden_place text tape own n) own.end ≡ b
          → pick (member n (seen_sorts m v)) (visible_sort n) (pick b (meant.hidden_sort (hidden_origin text tape (hidden_place text tape own n))) (visible_sort n))
          ≡ pick (member n (seen_sorts m v)) (visible_sort n)
          (pick b (meant.hidden_sort (record { home = m.name; section = meant.hidden_section; declared = declared_sort n })) (visible_sort n))
      go true e = rw (hidden_there (ltb-true (hidden_place text tape own n) own.end e))
      go false e = refl
