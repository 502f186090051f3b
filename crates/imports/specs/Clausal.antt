-- What the clauses of an import expression ask of the memory, and what comes of them (meaning/specs/Evaluate.antt, `clause`, `clauses`).
use Rattle.std.specs.Prelude.{◌≡◌, Bool, not, ℕ, zero, suc, ◌+◌, ◌-◌, ◌≤◌, ◌<◌, leb, ltb, drop, Ok, Err}
use Rattle.std.proofs.Math.Path.{refl, subst}
use Rattle.std.proofs.Common.{sym, ap, ◌∙◌, arith, le_trans, length-append, length-take}
use Rattle.std.proofs.Math.Bool.{true, false}
use Rattle.std.proofs.lemmas.Bool.{false≢true}
use mathlib.Core.List.{List, [], ◌∷◌}
use Rattle.std.proofs.Math.Dec.{eqb}
use Rattle.std.proofs.Math.ListN.{length}
use borrow.Author.Tests.{eqb-true, leb-true, leb-false, eq-eqb, ne_eqb}
use Rattle.meaning.specs.Lists.{pick, before, each}
use Rattle.meaning.specs.Names.{Name, same}
use Rattle.meaning.specs.Numbers.{module_limit}
use Rattle.meaning.specs.Syntax.{Pair, Clause, renamed_by, bound_by}
use Rattle.meaning.specs.Normal.{Normal}
use Rattle.meaning.specs.Checks.{fine}
use Rattle.meaning.specs.Clauses.{rename, bind}
use Rattle.meaning.specs.Evaluate.{Evaluated, normal_of, clause, clauses}
use Rattle.text_names.specs.Word.{name_of}
use Rattle.tape.specs.Tape.{entry, flat_pair, renamed_role, bound_role, old_role, actual_role}
use Rattle.form_rows.specs.Entries.{role_at, word_at, name_at}
use Rattle.form.specs.declared.Form.{Form}
use Rattle.form.specs.declared.Block.{Block}
use Rattle.form.specs.declared.Refusal.{Refusal}
use Rattle.form.specs.Memory.{part, Kept}
use Rattle.form.specs.Forms.{Stands}
use Rattle.form.specs.FormLaws.{kept_all}
use Rattle.form.specs.Blocks.{BlockLaid, Outside, Fits, Makes, MadeThere, MadeIn}
use Rattle.form.specs.Verdicts.{Made, culprit_of}
use Rattle.form_frames.specs.Changes.{onward, wider, tape_kept}
use Rattle.clause_pairs.specs.Pairs.{pairs_at}
use Rattle.modules.specs.Modules.{declared, Heads}
use Rattle.modules.specs.Modules.{names_of as names_of_places}
use Rattle.own_declarations.specs.Spelled.{Spells, spells_front, spells_behind}
use Rattle.form_layout.specs.Layout.{block_at, joining_block, first_block, second_block, kept_start, table_start, tape_end, Laid}
use Rattle.unite_checks.specs.Made.{makes_as, refused_outcome, refused_makes, done_outcome, then_stops, then_goes_on}
use Rattle.unite_checks.specs.Steps.{BlockRoom, MakeRoom, Renamed, Bound}
use Rattle.clause.specs.Rooms.{BindRoom}
use Rattle.form_keeping.specs.Environment.{Between, above_outside, below_outside, made_between, kept_form}
use Rattle.form_keeping.specs.Environment.{TableRight, number_of, EnvStands, table_stays, env_stays}
use Rattle.imports.specs.Spelling.{runs, run_end, run_over, inner, first_entry, clause_inner, pairs_told}
use Rattle.imports.specs.Spelling.{ClauseAt, ClausesAt, clause_there, clauses_behind, no_entry, spelled_within}

-- ---- room

-- the memory is laid out, the tape is within its part, and the table of kept forms is right
pub record Ground (w : List ℕ) (t : ℕ) (h : Heads) : Type 0 where
  pub laid : Laid (length w) t
  pub tape : t ≤ tape_end
  pub table : TableRight w
  pub heads : h.count ≤ module_limit

-- g lies outside the block, which is for clauses
pub record ClauseRoom (w : List ℕ) (t : ℕ) (h : Heads) (i : ℕ) (g : Form) (b : Block) : Type 0 where
  pub ground : Ground w t h
  pub room : MakeRoom (length w) t g b
  pub below : b.high ≤ kept_start
  pub place : i < 131072

-- the blocks of clauses in turn
unfoldable pub turn_block : Bool → Block
turn_block first = pick first first_block second_block

-- g may be the source of a clause in the block whose turn it is, and of a union
pub record Source (size : ℕ) (g : Form) : Type 0 where
  pub fits : Fits g
  pub nodes : g.nodes + g.node_count ≤ size
  pub joining : Outside joining_block.low joining_block.high g

pub record ClausesRoom (w : List ℕ) (t : ℕ) (h : Heads) (i : ℕ) (g : Form) (first : Bool) : Type 0 where
  pub ground : Ground w t h
  pub source : Source (length w) g
  pub outside : Outside (turn_block first).low (turn_block first).high g
  pub place : i < 131072

unfoldable pub starts_clause : List ℕ → ℕ → Bool
starts_clause tape i = pick (eqb (role_at tape i) renamed_role) true (eqb (role_at tape i) bound_role)

-- ---- what comes of them

module _ (text : List ℕ) (t : ℕ) (w : List ℕ) (h : Heads) where
  abbrev pub tape_of : List ℕ
  tape_of = part w 0 t

  abbrev pub names_of : List Name
  names_of = declared text (part w 0 t) h

  -- the form of the module named at i
  abbrev pub form_named : ℕ → Form
  form_named i = kept_form w (number_of names_of (name_at text tape_of i))

  pub record BoundAt (i last : ℕ) (g : Form) (b : Block) (r : Made) (w' : List ℕ) : Type 0 where
    pub kept : Kept b.low b.high w w'
    pub made_in : MadeIn b r
    pub made : (n a : Normal) → Stands text tape_of w g n → Stands text tape_of w (form_named last) a
        → Makes text (part w' 0 t) w' r (bind (name_at text tape_of i) (pairs_at text tape_of (i + 1)) n a)

  pub record ClauseMade (i end : ℕ) (g : Form) (b : Block) (r : Made) (w' : List ℕ) : Type 0 where
    pub kept : Kept b.low b.high w w'
    pub made_in : MadeIn b r
    pub made : (c : Clause) (env : List Evaluated) (n : Normal) → ClauseAt text tape_of i c → end ≡ i + 1 + length (inner c)
        → EnvStands text tape_of w names_of env → Stands text tape_of w g n → Makes text (part w' 0 t) w' r (clause env c n)

  abbrev pub Sourced : ℕ → Made → Type 0
  Sourced size (Ok f) = Source size f
  Sourced size (Err x) = Unit {0}

  pub record ClausesMade (left i : ℕ) (g : Form) (r : Made) (w' : List ℕ) : Type 0 where
    pub kept : Kept first_block.low second_block.high w w'
    pub source : Sourced (length w) r
    pub made : (cs : List Clause) (env : List Evaluated) (n : Normal) → ClausesAt text tape_of i cs → length cs ≤ left
        → EnvStands text tape_of w names_of env → Stands text tape_of w g n → Makes text (part w' 0 t) w' r (clauses env cs n)

-- ---- names have numbers within the table

length_names : (text tape places : List ℕ) (k c : ℕ) → length (names_of_places text tape places k c) ≡ c
unfolding names_of_places
length_names text tape places k zero = refl
length_names text tape places k (suc c) = ap suc (length_names text tape places (suc k) c)

before_within : {A : Type 0} (p : A → Bool) (xs : List A) → before p xs ≤ length xs
unfolding before pick
before_within p [] = omega arith
before_within p (x ∷ xs) = go (p x) (before_within p xs)
  where
    go : (b : Bool) → before p xs ≤ length xs → pick b 0 (suc (before p xs)) ≤ suc (length xs)
    go true h = omega arith
    go false h = omega arith

pub number_within : (text tape : List ℕ) (h : Heads) → h.count ≤ module_limit → (x : Name) → number_of (declared text tape h) x ≤ module_limit
unfolding declared
number_within text tape h l x =
    let n = before_within (same x) (names_of_places text tape h.places 0 h.count) in
    let m = length_names text tape h.places 0 h.count in
    omega (arith, l, n, m)

-- ---- what changes below the kept forms leaves them, and the modules evaluated so far

pub kept_table : (size t : ℕ) → Laid size t → kept_start ≤ table_start
kept_table size t l = omega (arith, l.kept_table)

module _ (text : List ℕ) (t : ℕ) (w w' : List ℕ) (h : Heads) (d : Ground w t h) (low high : ℕ) (behind : t ≤ low) (below : high ≤ kept_start)
    (kept : Kept low high w w') where
  pub ground_stays : Ground w' t h
  ground_stays = record {
    laid = subst (λ (n : ℕ). Laid n t) (sym kept.size) d.laid;
    tape = d.tape;
    table = table_stays low high table_start w w' (le_trans below (kept_table (length w) t d.laid)) kept d.table;
    heads = d.heads;
  }

  pub evaluated_stay : (env : List Evaluated) → EnvStands text (part w 0 t) w (names_of text t w h) env
      → EnvStands text (part w' 0 t) w' (names_of text t w' h) env
  evaluated_stay env v =
      subst (λ (u : List ℕ). EnvStands text (part w' 0 t) w' (declared text u h) env) (sym (tape_kept behind kept))
      (env_stays text t low high w w' (names_of text t w h) env behind below (kept_table (length w) t d.laid) kept
      (number_within text (part w 0 t) h d.heads) d.table v)

-- ---- the form of a module that is named

module _ (text : List ℕ) (t : ℕ) (w : List ℕ) (h : Heads) (d : Ground w t h) (i : ℕ) where
  named_within : number_of (names_of text t w h) (name_at text (tape_of text t w h) i) ≤ module_limit
  named_within = number_within text (part w 0 t) h d.heads (name_at text (part w 0 t) i)

  pub named_between : Between kept_start table_start (form_named text t w h i)
  named_between = d.table.between _ named_within

  pub named_fits : Fits (form_named text t w h i)
  named_fits = d.table.fits _ named_within

  pub named_nodes : (form_named text t w h i).nodes + (form_named text t w h i).node_count ≤ length w
  named_nodes = omega (arith, named_between.nodes_end, d.laid.table)

-- ---- a binding

pub bind_room : (text : List ℕ) (t : ℕ) (w : List ℕ) (h : Heads) (i last : ℕ) (g a : Form) (b : Block) → ClauseRoom w t h i g b
    → a ≡ kept_form w (number_of (declared text (part w 0 t) h) (name_at text (part w 0 t) last)) → BindRoom (length w) t g a b
bind_room text t w h i last g a b c e =
    rw e (record {
      own = c.room;
      outside = above_outside b.low b.high kept_start table_start (form_named text t w h last) c.below (named_between text t w h c.ground last);
      fits = named_fits text t w h c.ground last;
      nodes = named_nodes text t w h c.ground last;
    })

pub bound_at : (text : List ℕ) (t : ℕ) (w w' : List ℕ) (h : Heads) (i last p : ℕ) (g a : Form) (b : Block) (r : Made) → p ≡ word_at (part w 0 t) i
    → a ≡ kept_form w (number_of (declared text (part w 0 t) h) (name_at text (part w 0 t) last)) → Bound text t w p (i + 1) g a b r w'
    → BoundAt text t w h i last g b r w'
bound_at text t w w' h i last p g a b r e f x = record {
  kept = x.kept;
  made_in = x.made_in;
  made = λ n k s z.
      subst (λ (q : ℕ). Makes text (part w' 0 t) w' r (bind (name_of text q) (pairs_at text (part w 0 t) (i + 1)) n k)) e
      (x.made n k s (subst (λ (q : Form). Stands text (part w 0 t) w q k) (sym f) z));
}

-- ---- one clause

no_other : (tape : List ℕ) (i : ℕ) (k : ℕ) → role_at tape i ≡ k → eqb k 12 ≡ false → eqb (role_at tape i) renamed_role ≡ true → false ≡ true
no_other tape i k e f q = sym (ap (λ (r : ℕ). eqb r renamed_role) e ∙ f) ∙ q

-- an entry that is not of the inner run is no old name
no_old : (r : ℕ) → runs 14 r ≡ false → eqb r old_role ≡ false
unfolding runs pick
no_old r e = go (eqb r old_role) refl
  where
    go : (b : Bool) → eqb r old_role ≡ b → b ≡ false
    go true q = absurd (false≢true (sym e ∙ ap (λ (k : ℕ). pick (ltb k 14) false (ltb k 17)) (eqb-true r 14 q)))
    go false q = refl

module _ (text : List ℕ) (t : ℕ) (w w' : List ℕ) (h : Heads) (i end : ℕ) (g : Form) (b : Block) (r : Made) where
  pub clause_renames : (role : ℕ) → role ≡ role_at (part w 0 t) i → role ≡ renamed_role → Renamed text t w (i + 1) g b r w'
      → ClauseMade text t w h i end g b r w'
  unfolding clause first_entry inner
  clause_renames role at is x = record { kept = x.kept; made_in = x.made_in; made = go }
    where
      q : eqb (role_at (part w 0 t) i) 12 ≡ true
      q = eq-eqb (role_at (part w 0 t) i) 12 (sym at ∙ is)

      go : (c : Clause) (env : List Evaluated) (n : Normal) → ClauseAt text (part w 0 t) i c → end ≡ i + 1 + length (inner c)
          → EnvStands text (part w 0 t) w (names_of text t w h) env → Stands text (part w 0 t) w g n → Makes text (part w' 0 t) w' r (clause env c n)
      go (renamed_by ps) env n k e v s =
          subst (λ (qs : List Pair). Makes text (part w' 0 t) w' r (rename qs n))
          (pairs_told text (part w 0 t) ps 32 (i + 1) k.few k.inside (no_old _ k.after)) (x.made n s)
      go (bound_by p ps m) env n k e v s = absurd (false≢true (no_other (part w 0 t) i 13 k.first refl q))

  pub clause_binds : (role : ℕ) → role ≡ role_at (part w 0 t) i → (role ≡ renamed_role → ⊥) → BoundAt text t w h i (end - 1) g b r w'
      → ClauseMade text t w h i end g b r w'
  unfolding clause first_entry inner
  clause_binds role at other x = record { kept = x.kept; made_in = x.made_in; made = go }
    where
      q : eqb (role_at (part w 0 t) i) 12 ≡ false
      q = ne_eqb (role_at (part w 0 t) i) 12 (λ is. other (at ∙ is))

      go : (c : Clause) (env : List Evaluated) (n : Normal) → ClauseAt text (part w 0 t) i c → end ≡ i + 1 + length (inner c)
          → EnvStands text (part w 0 t) w (names_of text t w h) env → Stands text (part w 0 t) w g n → Makes text (part w' 0 t) w' r (clause env c n)
      go (renamed_by ps) env n k e v s = absurd (false≢true (sym q ∙ ap (λ (j : ℕ). eqb j 12) k.first))
      go (bound_by p ps m) env n k e v s =
          let pairs = each flat_pair ps in
          let last : Spells text (part w 0 t) (i + 1 + length pairs) (entry actual_role m ∷ []) =
          spells_behind text (part w 0 t) pairs (entry actual_role m ∷ []) (i + 1) k.inside in
          let at : end - 1 ≡ i + 1 + length pairs = omega (arith, e, length-append pairs (entry actual_role m ∷ [])) in
          let named : name_at text (part w 0 t) (end - 1) ≡ m = ap (name_at text (part w 0 t)) at ∙ last.1 in
          let pairs_are = pairs_told text (part w 0 t) ps 32 (i + 1) k.few
          (spells_front text (part w 0 t) pairs (entry actual_role m ∷ []) (i + 1) k.inside) (ap (λ (j : ℕ). eqb j 14) last.0) in
          let actual : Stands text (part w 0 t) w (form_named text t w h (end - 1)) (normal_of env m) =
          subst (λ (x : Name). Stands text (part w 0 t) w (kept_form w (number_of (names_of text t w h) x)) (normal_of env m)) (sym named) (v.stands m) in
          subst (λ (z : Name). Makes text (part w' 0 t) w' r (bind z ps n (normal_of env m))) k.name
          (subst (λ (qs : List Pair). Makes text (part w' 0 t) w' r (bind (name_at text (part w 0 t) i) qs n (normal_of env m)))
          pairs_are (x.made n (normal_of env m) s actual))

-- ---- the blocks of clauses

-- a block with room for two forms that fit
pub block_room : {names rows hidden_rows sources : ℕ} (size t : ℕ) (b : Block) → BlockLaid size t b names rows hidden_rows sources
    → (16 ≤ names) × (names ≤ 65536) × (1024 ≤ rows) × (rows ≤ 65536) × (1024 ≤ hidden_rows) × (hidden_rows ≤ 65536) × (2048 ≤ sources)
    → b.equation_room ≡ 512 → BlockRoom size t b
block_room {names} {rows} {hidden_rows} {sources} size t b l many e = record {
  names = names;
  rows = rows;
  hidden_rows = hidden_rows;
  sources = sources;
  laid = l;
  names_room = many.0;
  few_names = many.1;
  rows_room = many.2;
  few_rows = many.3;
  hidden_room = many.4;
  few_hidden = many.5;
  sources_room = many.6;
  equations_room = omega (arith, e);
}

first_equations : first_block.equation_room ≡ 512
unfolding first_block block_at
first_equations = refl

second_equations : second_block.equation_room ≡ 512
unfolding second_block block_at
second_equations = refl

-- a block of clauses lies behind the one where imports are united, and in front of the kept forms
pub record TurnLaid (size t : ℕ) (b : Block) : Type 0 where
  pub laid : BlockLaid size t b 16 1024 1024 2048
  pub room : b.equation_room ≡ 512
  pub behind : joining_block.high ≤ b.low
  pub first : first_block.low ≤ b.low
  pub last : b.high ≤ second_block.high
  pub below : b.high ≤ kept_start

pub turn_laid : (size t : ℕ) (first : Bool) → Laid size t → TurnLaid size t (turn_block first)
unfolding turn_block pick
turn_laid size t true l = omega (arith, l, first_equations)
turn_laid size t false l = omega (arith, l, second_equations)

pub turn_room : (w : List ℕ) (t : ℕ) (h : Heads) (i : ℕ) (g : Form) (first : Bool) (b : Block) → b ≡ turn_block first
    → ClausesRoom w t h i g first → ClauseRoom w t h i g b
turn_room w t h i g first b e c =
    let l = turn_laid (length w) t first c.ground.laid in
    rw e (record {
      ground = c.ground;
      room = record {
        room = block_room (length w) t (turn_block first) l.laid (omega arith) l.room;
        outside = c.outside;
        fits = c.source.fits;
        nodes = c.source.nodes;
      };
      below = l.below;
      place = c.place;
    })

-- what was made in the block whose turn it is
pub turn_made : (text : List ℕ) (t : ℕ) (w w' : List ℕ) (h : Heads) (i end : ℕ) (g : Form) (first : Bool) (b : Block) (r : Made) → b ≡ turn_block first
    → ClauseMade text t w h i end g b r w' → ClauseMade text t w h i end g (turn_block first) r w'
turn_made text t w w' h i end g first b r e x = subst (λ (q : Block). ClauseMade text t w h i end g q r w') e x

-- ---- all clauses

other_block : (size t : ℕ) (first : Bool) (f : Form) → Laid size t → Between (turn_block first).low (turn_block first).high f
    → Outside (turn_block (not first)).low (turn_block (not first)).high f
unfolding turn_block pick
other_block size t true f l m = below_outside second_block.low second_block.high first_block.low first_block.high f l.first_second m
other_block size t false f l m = above_outside first_block.low first_block.high second_block.low second_block.high f l.first_second m

-- a form made in a block of clauses
module _ (size t : ℕ) (first : Bool) (f : Form) (l : Laid size t) (m : MadeThere (turn_block first) f) where
  made_there : Between (turn_block first).low (turn_block first).high f
  made_there =
      let q = turn_laid size t first l in
      made_between size t (turn_block first) 16 1024 1024 2048 f q.laid (omega arith) (omega arith) (omega arith) (omega (arith, q.room)) m

  pub made_source : Source size f
  made_source =
      let q = turn_laid size t first l in
      record {
        fits = m.fits;
        nodes = le_trans made_there.nodes_end q.laid.within;
        joining = above_outside joining_block.low joining_block.high (turn_block first).low (turn_block first).high f q.behind made_there;
      }

  pub made_outside : Outside (turn_block (not first)).low (turn_block (not first)).high f
  made_outside = other_block size t first f l made_there

-- a clause that begins at a place has the place on the tape
pub starts_within : (tape : List ℕ) (i : ℕ) → starts_clause tape i ≡ true → i < length tape
unfolding starts_clause pick
starts_within tape i e = go (leb (length tape) i) refl
  where
    go : (b : Bool) → leb (length tape) i ≡ b → i < length tape
    go true q = absurd (false≢true (ap (λ (r : ℕ). pick (eqb r renamed_role) true (eqb r bound_role)) (sym (no_entry tape i (leb-true (length tape) i q))) ∙ e))
    go false q = leb-false (length tape) i q

pub run_bounds : (least : ℕ) (tape : List ℕ) (c i : ℕ) → (i ≤ run_end least tape i c) × (run_end least tape i c ≤ i + c)
unfolding run_end pick
run_bounds least tape zero i = omega arith
run_bounds least tape (suc c) i = go (runs least (role_at tape i)) (run_bounds least tape c (suc i))
  where
    go : (b : Bool) → (suc i ≤ run_end least tape (suc i) c) × (run_end least tape (suc i) c ≤ suc i + c)
        → (i ≤ pick b (run_end least tape (suc i) c) i) × (pick b (run_end least tape (suc i) c) i ≤ i + suc c)
    go true h = omega arith
    go false h = omega arith

-- where the clause at i ends
module _ (text tape : List ℕ) (i : ℕ) (c : Clause) (k : ClauseAt text tape i c) where
  pub clause_ends : i < length tape → run_end 14 tape (i + 1) (length tape - (i + 1)) ≡ i + 1 + length (inner c)
  unfolding runs pick
  clause_ends h =
      let within : i + 1 + length (inner c) ≤ length tape = spelled_within text tape 14 (inner c) (i + 1) refl (omega arith) (clause_inner c) k.inside in
      run_over text tape 14 (inner c) (length tape - (i + 1)) (i + 1) (omega (arith, within)) (clause_inner c) k.inside k.after

-- no clause begins behind the last
none_starts : (r : ℕ) → runs 12 r ≡ false → pick (eqb r renamed_role) true (eqb r bound_role) ≡ false
unfolding runs pick
none_starts r e = go (eqb r renamed_role) refl (eqb r bound_role) refl
  where
    go : (a : Bool) → eqb r renamed_role ≡ a → (b : Bool) → eqb r bound_role ≡ b → pick a true b ≡ false
    go true p b q = absurd (false≢true (sym e ∙ ap (λ (k : ℕ). pick (ltb k 12) false (ltb k 17)) (eqb-true r 12 p)))
    go false p true q = absurd (false≢true (sym e ∙ ap (λ (k : ℕ). pick (ltb k 12) false (ltb k 17)) (eqb-true r 13 q)))
    go false p false q = refl

first_starts : (c : Clause) → pick (eqb (first_entry c).role 12) true (eqb (first_entry c).role 13) ≡ true
unfolding first_entry pick
first_starts (renamed_by ps) = refl
first_starts (bound_by p ps m) = refl

-- a clause begins where there are clauses, and only there
pub none_there : (text tape : List ℕ) (i : ℕ) → ClausesAt text tape i [] → starts_clause tape i ≡ false
unfolding starts_clause each
none_there text tape i s =
    let z : i + 0 ≡ i = omega arith in
    none_starts (role_at tape i) (ap (λ (j : ℕ). runs 12 (role_at tape j)) (sym z) ∙ s.after)

pub one_there : (text tape : List ℕ) (i : ℕ) (c : Clause) (cs : List Clause) → ClausesAt text tape i (c ∷ cs) → starts_clause tape i ≡ true
unfolding starts_clause
one_there text tape i c cs s =
    ap (λ (r : ℕ). pick (eqb r renamed_role) true (eqb r bound_role)) (clause_there text tape i c cs s).first ∙ first_starts c

-- ---- places

pub short_tape : (w : List ℕ) (t : ℕ) → t ≤ tape_end → length (part w 0 t) ≤ 65536
unfolding tape_end
short_tape w t l = omega (arith, length-take (t - 0) (drop 0 w))

pub tape_short : (w : List ℕ) (t : ℕ) (h : Heads) (i : ℕ) (g : Form) (first : Bool) → ClausesRoom w t h i g first → length (part w 0 t) ≤ 65536
tape_short w t h i g first c = short_tape w t c.ground.tape

pub end_positive : (least : ℕ) (tape : List ℕ) (i c end : ℕ) → end ≡ run_end least tape (i + 1) c → 1 ≤ end
end_positive least tape i c end e = omega (arith, run_bounds least tape c (i + 1))

-- the end of a run on the tape is small
pub end_small : (least : ℕ) (w : List ℕ) (t i end : ℕ) → end ≡ run_end least (part w 0 t) (i + 1) (length (part w 0 t) - (i + 1))
    → i < length (part w 0 t) → t ≤ tape_end → end < 131072
end_small least w t i end e h l = omega (arith, run_bounds least (part w 0 t) (length (part w 0 t) - (i + 1)) (i + 1), short_tape w t l)

module _ (text : List ℕ) (t : ℕ) (w : List ℕ) (h : Heads) (left i : ℕ) (g : Form) where
  -- there are no clauses, or none is looked at
  done_here : (cs : List Clause) → cs ≡ [] → (env : List Evaluated) (n : Normal) → Stands text (part w 0 t) w g n
      → Makes text (part w 0 t) w (Ok g) (clauses env cs n)
  unfolding clauses
  done_here cs e env n s = makes_as text (part w 0 t) w (Ok g) (fine n) (clauses env cs n) (ap (λ (ds : List Clause). clauses env ds n) e) s

  clauses_spent : (first : Bool) → left ≤ 0 → ClausesRoom w t h i g first → ClausesMade text t w h left i g (Ok g) w
  clauses_spent first e c = record {
    kept = kept_all first_block.low second_block.high w;
    source = c.source;
    made = λ cs env n k l v s. done_here cs (empty cs (le_trans l e)) env n s;
  }
    where
      empty : (cs : List Clause) → length cs ≤ 0 → cs ≡ []
      empty [] l = refl
      empty (d ∷ cs) l = absurd (omega arith)

  clauses_over : (first b : Bool) → b ≡ starts_clause (part w 0 t) i → b ≡ false → ClausesRoom w t h i g first → ClausesMade text t w h left i g (Ok g) w
  clauses_over first b told over c = record {
    kept = kept_all first_block.low second_block.high w;
    source = c.source;
    made = λ cs env n k l v s. done_here cs (empty cs k) env n s;
  }
    where
      empty : (cs : List Clause) → ClausesAt text (part w 0 t) i cs → cs ≡ []
      empty [] k = refl
      empty (d ∷ cs) k = absurd (false≢true (sym over ∙ told ∙ one_there text (part w 0 t) i d cs k))

  module _ (first b : Bool) (end : ℕ) (w₁ : List ℕ) (r : Made) (told : b ≡ starts_clause (part w 0 t) i) (goes : b ≡ true)
      (at : end ≡ run_end 14 (part w 0 t) (i + 1) (length (part w 0 t) - (i + 1)))
      (c : ClausesRoom w t h i g first) (x : ClauseMade text t w h i end g (turn_block first) r w₁) where
    starts : starts_clause (part w 0 t) i ≡ true
    starts = sym told ∙ goes

    laid : Laid (length w) t
    laid = c.ground.laid

    wide : Kept first_block.low second_block.high w w₁
    wide = wider (omega (arith, turn_laid (length w) t first laid)) x.kept

    -- the first of the clauses
    at_first : (d : Clause) (cs : List Clause) (env : List Evaluated) (n : Normal) → ClausesAt text (part w 0 t) i (d ∷ cs)
        → EnvStands text (part w 0 t) w (names_of text t w h) env → Stands text (part w 0 t) w g n → Makes text (part w₁ 0 t) w₁ r (clause env d n)
    at_first d cs env n k v s =
        let there = clause_there text (part w 0 t) i d cs k in
        x.made d env n there (at ∙ clause_ends text (part w 0 t) i d there (starts_within (part w 0 t) i starts)) v s

    clauses_refused : (y : Refusal) → r ≡ Err y → ClausesMade text t w h left i g (Err y) w₁
    unfolding clauses
    clauses_refused y e = record { kept = wide; source = tt; made = go }
      where
        go : (cs : List Clause) (env : List Evaluated) (n : Normal) → ClausesAt text (part w 0 t) i cs → length cs ≤ left
            → EnvStands text (part w 0 t) w (names_of text t w h) env → Stands text (part w 0 t) w g n
            → Makes text (part w₁ 0 t) w₁ (Err y) (clauses env cs n)
        go [] env n k l v s = absurd (false≢true (sym (none_there text (part w 0 t) i k) ∙ starts))
        go (d ∷ cs) env n k l v s =
            let m = subst (λ (z : Made). Makes text (part w₁ 0 t) w₁ z (clause env d n)) e (at_first d cs env n k v s) in
            refused_makes text (part w₁ 0 t) w₁ y (clauses env (d ∷ cs) n)
            (then_stops (clause env d n) (λ (z : Normal). clauses env cs z) y.number (culprit_of text y.culprit) (refused_outcome text (part w₁ 0 t) w₁ y (clause env d n) m))

    -- the clauses behind it, of the form that it made
    module _ (f : Form) (e : r ≡ Ok f) where
      there : MadeThere (turn_block first) f
      there = subst (MadeIn (turn_block first)) e x.made_in

      block_laid : TurnLaid (length w) t (turn_block first)
      block_laid = turn_laid (length w) t first laid

      next_room : (next : Bool) → next ≡ not first → ClausesRoom w₁ t h end f next
      next_room next e =
          let ground = ground_stays text t w w₁ h c.ground _ _ block_laid.laid.tape block_laid.below x.kept in
          rw e (record {
            ground = ground;
            source = made_source (length w₁) t first f ground.laid there;
            outside = made_outside (length w₁) t first f ground.laid there;
            place = end_small 14 w t i end at (starts_within (part w 0 t) i starts) c.ground.tape;
          })

      end_there : (d : Clause) (cs : List Clause) → ClausesAt text (part w 0 t) i (d ∷ cs) → end ≡ i + 1 + length (inner d)
      end_there d cs k = at ∙ clause_ends text (part w 0 t) i d (clause_there text (part w 0 t) i d cs k) (starts_within (part w 0 t) i starts)

      clauses_next : (d : Clause) (cs : List Clause) → ClausesAt text (part w 0 t) i (d ∷ cs) → ClausesAt text (part w₁ 0 t) end cs
      clauses_next d cs k =
          subst (λ (u : List ℕ). ClausesAt text u end cs) (sym (tape_kept block_laid.laid.tape x.kept))
          (subst (λ (j : ℕ). ClausesAt text (part w 0 t) j cs) (sym (end_there d cs k)) (clauses_behind text (part w 0 t) i d cs k))

      clauses_more : (r₂ : Made) (w₂ : List ℕ) → ClausesMade text t w₁ h (left - 1) end f r₂ w₂ → ClausesMade text t w h left i g r₂ w₂
      unfolding clauses
      clauses_more r₂ w₂ y = record {
        kept = onward wide y.kept;
        source = subst (λ (n : ℕ). Sourced text t w₁ h n r₂) x.kept.size y.source;
        made = go;
      }
        where
          go : (cs : List Clause) (env : List Evaluated) (n : Normal) → ClausesAt text (part w 0 t) i cs → length cs ≤ left
              → EnvStands text (part w 0 t) w (names_of text t w h) env → Stands text (part w 0 t) w g n → Makes text (part w₂ 0 t) w₂ r₂ (clauses env cs n)
          go [] env n k l v s = absurd (false≢true (sym (none_there text (part w 0 t) i k) ∙ starts))
          go (d ∷ cs) env n k l v s =
              let o = done_outcome text (part w₁ 0 t) w₁ f (clause env d n)
              (subst (λ (z : Made). Makes text (part w₁ 0 t) w₁ z (clause env d n)) e (at_first d cs env n k v s)) in
              makes_as text (part w₂ 0 t) w₂ r₂ (clauses env cs o.normal) (clauses env (d ∷ cs) n)
              (then_goes_on (clause env d n) (λ (z : Normal). clauses env cs z) o.normal o.outcome)
              (y.made cs env o.normal (clauses_next d cs k) (omega arith)
              (evaluated_stay text t w w₁ h c.ground _ _ block_laid.laid.tape block_laid.below x.kept env v) o.stands)

-- ---- the loop: what is made from here on is what is made from the start

pub record ClausesGoing (text : List ℕ) (t : ℕ) (w₀ : List ℕ) (h : Heads) (all start : ℕ) (source : Form) (left i : ℕ) (g : Form)
    (first : Bool) (w : List ℕ) : Type 0 where
  pub size : length w ≡ length w₀
  pub room : ClausesRoom w t h i g first
  pub goes_on : (r : Made) (w' : List ℕ) → ClausesMade text t w h left i g r w' → ClausesMade text t w₀ h all start source r w'

module _ (text : List ℕ) (t : ℕ) (w₀ : List ℕ) (h : Heads) (all start : ℕ) (source : Form) where
  pub clauses_start : (first : Bool) → ClausesRoom w₀ t h start source first → ClausesGoing text t w₀ h all start source all start source first w₀
  clauses_start first c = record { size = refl; room = c; goes_on = λ r w' x. x }

  module _ (left i : ℕ) (g : Form) (first : Bool) (w : List ℕ) (v : ClausesGoing text t w₀ h all start source left i g first w) where
    pub clauses_ended : left ≤ 0 → ClausesMade text t w₀ h all start source (Ok g) w
    clauses_ended e = v.goes_on (Ok g) w (clauses_spent text t w h left i g first e v.room)

    pub clauses_none : (b : Bool) → b ≡ starts_clause (part w 0 t) i → b ≡ false → ClausesMade text t w₀ h all start source (Ok g) w
    clauses_none b told over = v.goes_on (Ok g) w (clauses_over text t w h left i g first b told over v.room)

    module _ (b : Bool) (end : ℕ) (w₁ : List ℕ) (r : Made) (told : b ≡ starts_clause (part w 0 t) i) (goes : b ≡ true)
        (at : end ≡ run_end 14 (part w 0 t) (i + 1) (length (part w 0 t) - (i + 1))) (x : ClauseMade text t w h i end g (turn_block first) r w₁) where
      pub clauses_stop : (y : Refusal) → r ≡ Err y → ClausesMade text t w₀ h all start source (Err y) w₁
      clauses_stop y e = v.goes_on (Err y) w₁ (clauses_refused text t w h left i g first b end w₁ r told goes at v.room x y e)

      pub clauses_again : (f : Form) (next : Bool) → r ≡ Ok f → next ≡ not first → ClausesGoing text t w₀ h all start source (left - 1) end f next w₁
      clauses_again f next e o = record {
        size = x.kept.size ∙ v.size;
        room = next_room text t w h left i g first b end w₁ r told goes at v.room x f e next o;
        goes_on = λ r₂ w₂ y. v.goes_on r₂ w₂ (clauses_more text t w h left i g first b end w₁ r told goes at v.room x f e r₂ w₂ y);
      }
