-- Clauses and import expressions as they stand on the tape: where they end, and their pairs.
use Rattle.std.specs.Prelude.{◌≡◌, refl, Bool, true, eqb, leb, ltb, get_or}
use Rattle.std.proofs.Common.{sym, ◌∙◌, ltb-true, ltb-false, leb-true, leb-false}
use Rattle.std.proofs.Math.Path.{ap, subst}
use Rattle.std.proofs.Math.Bool.{false}
use Rattle.std.proofs.lemmas.Bool.{false≢true}
use Prim.Native.Nat.{ℕ, zero, suc, ◌+◌, ◌%◌, ◌≤◌}
use native.Mathlib.Omega.{arith}
use mathlib.Core.List.{List, [], ◌∷◌, ◌++◌}
use Rattle.std.proofs.Math.ListN.{length, length-append}
use Rattle.meaning.specs.Lists.{pick, each}
use Rattle.meaning.specs.Numbers.{pair_limit}
use Rattle.meaning.specs.OrderLaws.{Every}
use Rattle.meaning.specs.Syntax.{Pair, Clause, renamed_by, bound_by, Import}
use Rattle.tape.specs.Roles.{All, all_append}
use Rattle.tape.specs.Tape.{Entry, entry, flat_pair, flat_clause, flat_import, import_role, renamed_role, bound_role, old_role, actual_role}
use Rattle.form_rows.specs.Entries.{role_at, name_at}
use Rattle.own_declarations.specs.Spelled.{Spells, spells_front, spells_behind}
use Rattle.clause_pairs.specs.Pairs.{pairs_from}

-- ---- runs of entries: those of a clause behind its first have roles from 14 up to 16, those of an import expression from 12

unfoldable pub runs : ℕ → ℕ → Bool
runs least r = pick (ltb r least) false (ltb r 17)

-- the first of c places from i on whose role is not of the run; the place behind them if all are
unfoldable pub run_end : ℕ → List ℕ → ℕ → ℕ → ℕ
run_end least tape i zero = i
run_end least tape i (suc c) = let more = run_end least tape (suc i) c in pick (runs least (role_at tape i)) more i

module _ (text tape : List ℕ) (least : ℕ) where
  -- entries of the run, and then one that is not
  pub run_over : (es : List Entry) (c i : ℕ) → length es ≤ c → All (λ r. runs least r ≡ true) es → Spells text tape i es
      → runs least (role_at tape (i + length es)) ≡ false → run_end least tape i c ≡ i + length es
  unfolding run_end pick
  run_over [] zero i h a s q = omega arith
  run_over (e ∷ es) zero i h a s q = absurd (omega arith)
  run_over [] (suc c) i h a s q =
      let z : i + 0 ≡ i = omega arith in
      rw (ap (λ (j : ℕ). runs least (role_at tape j)) (sym z) ∙ q) (sym z)
  run_over (e ∷ es) (suc c) i h a s q =
      let z : suc i + length es ≡ i + suc (length es) = omega arith in
      rw (ap (runs least) s.0 ∙ a.0)
      (run_over es c (suc i) (omega arith) a.1 s.2 (ap (λ (j : ℕ). runs least (role_at tape j)) z ∙ q) ∙ z)

-- behind the tape is no entry
get_d_past : (xs : List ℕ) (i : ℕ) → length xs ≤ i → get_or xs i 0 ≡ 0
get_d_past [] i h = refl
get_d_past (x ∷ xs) zero h = absurd (omega arith)
get_d_past (x ∷ xs) (suc i) h = get_d_past xs i (omega arith)

pub no_entry : (tape : List ℕ) (i : ℕ) → length tape ≤ i → role_at tape i ≡ 0
no_entry tape i h = ap (λ (v : ℕ). v % 32) (get_d_past tape i h)

-- so what is spelled with roles of a run is on the tape
pub spelled_within : (text tape : List ℕ) (least : ℕ) (es : List Entry) (i : ℕ) → runs least 0 ≡ false → i ≤ length tape → All (λ r. runs least r ≡ true) es
    → Spells text tape i es → i + length es ≤ length tape
spelled_within text tape least [] i z h a s = omega arith
spelled_within text tape least (e ∷ es) i z h a s = go (leb (length tape) i) refl (λ l. spelled_within text tape least es (suc i) z l a.1 s.2)
  where
    go : (b : Bool) → leb (length tape) i ≡ b → (suc i ≤ length tape → suc i + length es ≤ length tape) → i + suc (length es) ≤ length tape
    go true q more = absurd (false≢true (sym z ∙ ap (runs least) (sym (no_entry tape i (leb-true (length tape) i q)) ∙ s.0) ∙ a.0))
    go false q more =
        let rest = more (leb-false (length tape) i q) in
        omega (arith, rest)

-- ---- the entries of pairs and clauses

pairs_inner : (ps : List Pair) → All (λ r. runs 14 r ≡ true) (each flat_pair ps)
unfolding each flat_pair runs pick
pairs_inner [] = tt
pairs_inner (p ∷ ps) = (refl, (refl, pairs_inner ps))

-- what stands behind a clause's first entry
unfoldable pub inner : Clause → List Entry
inner (renamed_by ps) = each flat_pair ps
inner (bound_by p ps m) = each flat_pair ps ++ (entry actual_role m ∷ [])

unfoldable pub first_entry : Clause → Entry
first_entry (renamed_by ps) = entry renamed_role []
first_entry (bound_by p ps m) = entry bound_role p

pub clause_entries : (c : Clause) → flat_clause c ≡ first_entry c ∷ inner c
unfolding flat_clause first_entry inner
clause_entries (renamed_by ps) = refl
clause_entries (bound_by p ps m) = refl

pub clause_inner : (c : Clause) → All (λ r. runs 14 r ≡ true) (inner c)
unfolding inner runs pick
clause_inner (renamed_by ps) = pairs_inner ps
clause_inner (bound_by p ps m) = all_append (λ (r : ℕ). runs 14 r ≡ true) (each flat_pair ps) (entry actual_role m ∷ []) (pairs_inner ps) (refl, tt)

-- ---- pairs are read back

-- pairs, and then an entry that is no old name
pub pairs_told : (text tape : List ℕ) (ps : List Pair) (c i : ℕ) → length ps ≤ c → Spells text tape i (each flat_pair ps)
    → eqb (role_at tape (i + length (each flat_pair ps))) 14 ≡ false → pairs_from text tape i c ≡ ps
unfolding pairs_from each flat_pair pick
pairs_told text tape [] zero i h s q = refl
pairs_told text tape [] (suc c) i h s q =
    let z : i + 0 ≡ i = omega arith in
    rw (ap (λ (j : ℕ). eqb (role_at tape j) old_role) (sym z) ∙ q)
pairs_told text tape (p ∷ ps) zero i h s q = absurd (omega arith)
pairs_told text tape (p ∷ ps) (suc c) i h s q =
    let z : i + 2 + length (each flat_pair ps) ≡ i + suc (suc (length (each flat_pair ps))) = omega arith in
    let e : suc (suc i) ≡ i + 2 = omega arith in
    let f : suc i ≡ i + 1 = omega arith in
    let more = pairs_told text tape ps c (i + 2) (omega arith) (subst (λ (j : ℕ). Spells text tape j (each flat_pair ps)) e s.2.2)
    (ap (λ (j : ℕ). eqb (role_at tape j) old_role) z ∙ q) in
    rw (ap (λ (r : ℕ). eqb r old_role) s.0, more) (λ j. record { old = s.1 j; new = (ap (name_at text tape) (sym f) ∙ s.2.1) j } ∷ ps)

-- ---- a clause at place i

-- no more pairs than a clause may have
abbrev pub FewPairs : Clause → Type 0
FewPairs (renamed_by ps) = length ps ≤ pair_limit
FewPairs (bound_by p ps m) = length ps ≤ pair_limit

-- the clause stands there, and behind it an entry that is none of its
pub record ClauseAt (text tape : List ℕ) (i : ℕ) (c : Clause) : Type 0 where
  pub first : role_at tape i ≡ (first_entry c).role
  pub name : name_at text tape i ≡ (first_entry c).name
  pub inside : Spells text tape (i + 1) (inner c)
  pub few : FewPairs c
  pub after : runs 14 (role_at tape (i + 1 + length (inner c))) ≡ false

-- the clauses stand there, and behind them an entry that is of no clause
pub record ClausesAt (text tape : List ℕ) (i : ℕ) (cs : List Clause) : Type 0 where
  pub entries : Spells text tape i (each flat_clause cs)
  pub few : Every FewPairs cs
  pub after : runs 12 (role_at tape (i + length (each flat_clause cs))) ≡ false

-- a longer run has the roles of a shorter
run_wider : (least more r : ℕ) → more ≤ least → runs least r ≡ true → runs more r ≡ true
unfolding runs pick
run_wider least more r l e = go (ltb r least) refl (ltb r more) refl e
  where
    go : (a : Bool) → ltb r least ≡ a → (b : Bool) → ltb r more ≡ b → pick a false (ltb r 17) ≡ true → pick b false (ltb r 17) ≡ true
    go false p false q h = h
    go true p false q h = absurd (false≢true h)
    go false p true q h = absurd (omega (arith, ltb-false r least p, ltb-true r more q))
    go true p true q h = h

run_less : (least more r : ℕ) → more ≤ least → runs more r ≡ false → runs least r ≡ false
run_less least more r l e = go (runs least r) refl
  where
    go : (b : Bool) → runs least r ≡ b → b ≡ false
    go true p = absurd (false≢true (sym e ∙ run_wider least more r l p))
    go false p = refl

-- the first entry of a clause is none of the clause before
starts : (c : Clause) → runs 14 (first_entry c).role ≡ false
unfolding first_entry runs pick
starts (renamed_by ps) = refl
starts (bound_by p ps m) = refl

import_starts : runs 12 11 ≡ false
unfolding runs pick
import_starts = refl

module _ (text tape : List ℕ) (i : ℕ) (c : Clause) (cs : List Clause) (s : ClausesAt text tape i (c ∷ cs)) where
  split : each flat_clause (c ∷ cs) ≡ first_entry c ∷ (inner c ++ each flat_clause cs)
  unfolding each
  split = ap (λ (es : List Entry). es ++ each flat_clause cs) (clause_entries c)

  here : Spells text tape i (first_entry c ∷ (inner c ++ each flat_clause cs))
  here = subst (Spells text tape i) split s.entries

  place : suc i ≡ i + 1
  place = omega arith

  behind : Spells text tape (i + 1 + length (inner c)) (each flat_clause cs)
  behind = spells_behind text tape (inner c) (each flat_clause cs) (i + 1)
      (subst (λ (j : ℕ). Spells text tape j (inner c ++ each flat_clause cs)) place here.2)

  ends : i + length (each flat_clause (c ∷ cs)) ≡ i + 1 + length (inner c) + length (each flat_clause cs)
  ends = omega (arith, ap length split, length-append (inner c) (each flat_clause cs))

  pub clause_there : ClauseAt text tape i c
  unfolding each
  clause_there = record {
    first = here.0;
    name = here.1;
    inside = spells_front text tape (inner c) (each flat_clause cs) (i + 1)
        (subst (λ (j : ℕ). Spells text tape j (inner c ++ each flat_clause cs)) place here.2);
    few = s.few.0;
    after = go cs behind (ap (λ (j : ℕ). runs 12 (role_at tape j)) (sym ends) ∙ s.after);
  }
    where
      go : (ds : List Clause) → Spells text tape (i + 1 + length (inner c)) (each flat_clause ds)
          → runs 12 (role_at tape (i + 1 + length (inner c) + length (each flat_clause ds))) ≡ false
          → runs 14 (role_at tape (i + 1 + length (inner c))) ≡ false
      go [] b q =
          let z : i + 1 + length (inner c) + 0 ≡ i + 1 + length (inner c) = omega arith in
          run_less 14 12 _ (omega arith) (ap (λ (j : ℕ). runs 12 (role_at tape j)) (sym z) ∙ q)
      go (d ∷ ds) b q =
          let more = subst (Spells text tape (i + 1 + length (inner c))) (ap (λ (es : List Entry). es ++ each flat_clause ds) (clause_entries d)) b in
          ap (runs 14) more.0 ∙ starts d

  pub clauses_behind : ClausesAt text tape (i + 1 + length (inner c)) cs
  clauses_behind = record { entries = behind; few = s.few.1; after = ap (λ (j : ℕ). runs 12 (role_at tape j)) (sym ends) ∙ s.after }

-- ---- import expressions

inner_run : (es : List Entry) → All (λ r. runs 14 r ≡ true) es → All (λ r. runs 12 r ≡ true) es
inner_run [] h = tt
inner_run (e ∷ es) h = (run_wider 14 12 e.role (omega arith) h.0, inner_run es h.1)

first_run : (c : Clause) → runs 12 (first_entry c).role ≡ true
unfolding first_entry runs pick
first_run (renamed_by ps) = refl
first_run (bound_by p ps m) = refl

pub clauses_run : (cs : List Clause) → All (λ r. runs 12 r ≡ true) (each flat_clause cs)
unfolding each
clauses_run [] = tt
clauses_run (c ∷ cs) =
    all_append (λ (r : ℕ). runs 12 r ≡ true) (flat_clause c) (each flat_clause cs)
    (subst (All (λ (r : ℕ). runs 12 r ≡ true)) (sym (clause_entries c)) (first_run c, inner_run (inner c) (clause_inner c))) (clauses_run cs)

-- the import expression stands there, and behind it an entry that is none of its
pub record ImportAt (text tape : List ℕ) (i : ℕ) (x : Import) : Type 0 where
  pub first : role_at tape i ≡ import_role
  pub name : name_at text tape i ≡ x.name
  pub clauses : ClausesAt text tape (i + 1) x.clauses

-- the import expressions stand there, and behind them an entry that is none of theirs
pub record ImportsAt (text tape : List ℕ) (i : ℕ) (is : List Import) : Type 0 where
  pub entries : Spells text tape i (each flat_import is)
  pub few : Every (λ (x : Import). Every FewPairs x.clauses) is
  pub after : runs 11 (role_at tape (i + length (each flat_import is))) ≡ false

-- where the import expression's clauses end
abbrev pub import_end : ℕ → Import → ℕ
import_end i x = i + 1 + length (each flat_clause x.clauses)

module _ (text tape : List ℕ) (i : ℕ) (x : Import) (is : List Import) (s : ImportsAt text tape i (x ∷ is)) where
  import_place : suc i ≡ i + 1
  import_place = omega arith

  import_here : Spells text tape i (entry import_role x.name ∷ (each flat_clause x.clauses ++ each flat_import is))
  unfolding each flat_import
  import_here = s.entries

  inside_import : Spells text tape (i + 1) (each flat_clause x.clauses ++ each flat_import is)
  inside_import = subst (λ (j : ℕ). Spells text tape j (each flat_clause x.clauses ++ each flat_import is)) import_place import_here.2

  behind_import : Spells text tape (import_end i x) (each flat_import is)
  behind_import = spells_behind text tape (each flat_clause x.clauses) (each flat_import is) (i + 1) inside_import

  import_ends : i + length (each flat_import (x ∷ is)) ≡ import_end i x + length (each flat_import is)
  unfolding each flat_import
  import_ends = omega (arith, length-append (each flat_clause x.clauses) (each flat_import is))

  pub import_there : ImportAt text tape i x
  unfolding each flat_import
  import_there = record {
    first = import_here.0;
    name = import_here.1;
    clauses = record {
      entries = spells_front text tape (each flat_clause x.clauses) (each flat_import is) (i + 1) inside_import;
      few = s.few.0;
      after = go is behind_import (ap (λ (j : ℕ). runs 11 (role_at tape j)) (sym import_ends) ∙ s.after);
    };
  }
    where
      go : (ys : List Import) → Spells text tape (import_end i x) (each flat_import ys)
          → runs 11 (role_at tape (import_end i x + length (each flat_import ys))) ≡ false → runs 12 (role_at tape (import_end i x)) ≡ false
      go [] b q =
          let z : import_end i x + 0 ≡ import_end i x = omega arith in
          run_less 12 11 _ (omega arith) (ap (λ (j : ℕ). runs 11 (role_at tape j)) (sym z) ∙ q)
      go (y ∷ ys) b q = ap (runs 12) b.0 ∙ import_starts

  pub imports_behind : ImportsAt text tape (import_end i x) is
  imports_behind = record { entries = behind_import; few = s.few.1; after = ap (λ (j : ℕ). runs 11 (role_at tape j)) (sym import_ends) ∙ s.after }
