-- The import expressions of a module, and their results united with what there is so far (meaning/specs/Evaluate.antt, `expressions`, `united`).
use Rattle.std.specs.Prelude.{◌≡◌, refl, Bool, true, false, ℕ, ◌+◌, ◌-◌, ◌≤◌, ◌<◌, leb, Ok, Err}
use Rattle.std.proofs.Common.{sym, ap, ◌∙◌, arith, le_trans, leb-true, leb-false}
use Rattle.std.proofs.Math.Path.{subst}
use Rattle.std.proofs.lemmas.Bool.{false≢true}
use mathlib.Core.List.{List, [], ◌∷◌}
use Rattle.std.proofs.Math.ListN.{length}
use Rattle.meaning.specs.Lists.{pick, each}
use Rattle.meaning.specs.Names.{Name}
use Rattle.meaning.specs.OrderLaws.{Every}
use Rattle.meaning.specs.Syntax.{Clause, Import}
use Rattle.meaning.specs.Normal.{Normal, empty, unite}
use Rattle.meaning.specs.Checks.{Outcome, fine, stop, ◌>>=◌, checked}
use Rattle.meaning.specs.Evaluate.{Evaluated, normal_of, clauses, expressions, united, imported}
use Rattle.tape.specs.Tape.{flat_clause, import_role}
use Rattle.form_rows.specs.Entries.{role_at, name_at}
use Rattle.form.specs.declared.Form.{Form}
use Rattle.form.specs.declared.Block.{Block}
use Rattle.form.specs.declared.Refusal.{Refusal}
use Rattle.form.specs.Memory.{part, Kept}
use Rattle.form.specs.Forms.{Stands}
use Rattle.form.specs.FormLaws.{kept_all}
use Rattle.form.specs.Blocks.{Makes, MadeThere, MadeIn}
use Rattle.form.specs.Verdicts.{Made, refusal, culprit_of}
use Rattle.form_frames.specs.Changes.{onward, wider, tape_kept, still_stands}
use Rattle.modules.specs.Modules.{declared, Heads}
use Rattle.form_layout.specs.Layout.{block_at, joining_block, first_block, second_block, kept_start, table_start, Laid}
use Rattle.unite_checks.specs.Made.{makes_as, refused_outcome, refused_makes, done_outcome, then_stops, then_goes_on}
use Rattle.unite_checks.specs.Steps.{BlockRoom, JoinRoom, JoinedForm}
use Rattle.form_keeping.specs.Environment.{Between, above_outside, below_outside, made_between, kept_form, number_of, EnvStands}
use Rattle.imports.specs.Spelling.{runs, run_end, run_over, clauses_run, ClausesAt, ImportAt}
use Rattle.imports.specs.Spelling.{ImportsAt, import_there, imports_behind, no_entry, spelled_within}
use Rattle.imports.specs.Clausal.{Ground, Source, ClausesRoom, Sourced, ClausesMade, block_room, ground_stays, evaluated_stay}
use Rattle.imports.specs.Clausal.{turn_block, turn_laid, named_between, named_fits, named_nodes, short_tape, end_small}

-- ---- room

pub record ImportRoom (w : List ℕ) (t : ℕ) (h : Heads) (i : ℕ) : Type 0 where
  pub ground : Ground w t h
  pub place : i + 1 < 131072

pub record UnionRoom (size t : ℕ) (g : Form) (so_far : Made) : Type 0 where
  pub laid : Laid size t
  pub source : Source size g
  pub there : MadeIn joining_block so_far

pub record ImportsRoom (w : List ℕ) (t : ℕ) (h : Heads) (i : ℕ) (so_far : Made) : Type 0 where
  pub ground : Ground w t h
  pub there : MadeIn joining_block so_far
  pub place : i < 131072

-- ---- what comes of them

-- no more clauses than are looked at
abbrev pub FewClauses : Import → Type 0
FewClauses x = length x.clauses ≤ 32768

-- results united with an outcome, from left to right
unfoldable pub onto : Outcome Normal → List Normal → Outcome Normal
onto o ns = o >>= λ n. united n ns

module _ (text : List ℕ) (t : ℕ) (w : List ℕ) where
  -- a refusal so far stays
  pub record UnionMade (g : Form) (so_far r : Made) (w' : List ℕ) : Type 0 where
    pub kept : Kept joining_block.low joining_block.high w w'
    pub made_in : MadeIn joining_block r
    pub made : (k : Normal) (o : Outcome Normal) → Stands text (part w 0 t) w g k → Makes text (part w 0 t) w so_far o
        → Makes text (part w' 0 t) w' r (o >>= λ n. checked (unite n k))

module _ (text : List ℕ) (t : ℕ) (w : List ℕ) (h : Heads) where
  pub record ExpressionMade (i : ℕ) (r : Made) (w' : List ℕ) : Type 0 where
    pub kept : Kept first_block.low second_block.high w w'
    pub source : Sourced text t w h (length w) r
    pub made : (x : Import) (env : List Evaluated) → ImportAt text (part w 0 t) i x → FewClauses x
        → EnvStands text (part w 0 t) w (declared text (part w 0 t) h) env
        → Makes text (part w' 0 t) w' r (clauses env x.clauses (normal_of env x.name))

  -- an expression's refusal comes before one of a union: those so far wait
  pub record ImportsMade (left i : ℕ) (so_far r : Made) (w' : List ℕ) : Type 0 where
    pub kept : Kept joining_block.low second_block.high w w'
    pub made_in : MadeIn joining_block r
    pub made : (is : List Import) (env : List Evaluated) (o : Outcome Normal) → ImportsAt text (part w 0 t) i is → length is ≤ left → Every FewClauses is
        → EnvStands text (part w 0 t) w (declared text (part w 0 t) h) env → Makes text (part w 0 t) w so_far o
        → Makes text (part w' 0 t) w' r (expressions env is >>= onto o)

-- ---- one expression

pub expression_room : (text : List ℕ) (t : ℕ) (w : List ℕ) (h : Heads) (i : ℕ) (g : Form) → ImportRoom w t h i
    → g ≡ kept_form w (number_of (declared text (part w 0 t) h) (name_at text (part w 0 t) i)) → ClausesRoom w t h (i + 1) g true
expression_room text t w h i g c e =
    let l = turn_laid (length w) t true c.ground.laid in
    let m = named_between text t w h c.ground i in
    let f = kept_form w (number_of (declared text (part w 0 t) h) (name_at text (part w 0 t) i)) in
    rw e (record {
      ground = c.ground;
      source = record {
        fits = named_fits text t w h c.ground i;
        nodes = named_nodes text t w h c.ground i;
        joining = above_outside joining_block.low joining_block.high kept_start table_start f
            (omega (arith, l)) m;
      };
      outside = above_outside (turn_block true).low (turn_block true).high kept_start table_start f l.below m;
      place = c.place;
    })

pub expression_made : (text : List ℕ) (t : ℕ) (w w' : List ℕ) (h : Heads) (i : ℕ) (g : Form) (r : Made)
    → g ≡ kept_form w (number_of (declared text (part w 0 t) h) (name_at text (part w 0 t) i))
    → ClausesMade text t w h 32768 (i + 1) g r w' → ExpressionMade text t w h i r w'
expression_made text t w w' h i g r e y = record {
  kept = y.kept;
  source = y.source;
  made = λ x env k l v.
      let named = e ∙ ap (λ (z : Name). kept_form w (number_of (declared text (part w 0 t) h) z)) k.name in
      y.made x.clauses env (normal_of env x.name) k.clauses l v
      (subst (λ (f : Form). Stands text (part w 0 t) w f (normal_of env x.name)) (sym named) (v.stands x.name));
}

-- ---- the block where imports are united

joining_equations : joining_block.equation_room ≡ 512
unfolding joining_block block_at
joining_equations = refl

joining_room : (size t : ℕ) → Laid size t → BlockRoom size t joining_block
joining_room size t l = block_room size t joining_block l.joining (omega arith) joining_equations

joined_between : (size t : ℕ) (f : Form) → Laid size t → MadeThere joining_block f → Between joining_block.low joining_block.high f
joined_between size t f l m =
    made_between size t joining_block 32776 33280 1024 33280 f l.joining (omega arith) (omega arith) (omega arith) (omega (arith, joining_equations)) m

-- ---- one union

pub join_room : (size t : ℕ) (g f : Form) (b : Block) (so_far : Made) → b ≡ joining_block → so_far ≡ Ok f → UnionRoom size t g so_far → JoinRoom size t g f b
join_room size t g f b so_far e q c =
    rw e (record {
      room = joining_room size t c.laid;
      outside = c.source.joining;
      fits = c.source.fits;
      nodes = c.source.nodes;
      there = subst (MadeIn joining_block) q c.there;
    })

pub union_waits : (text : List ℕ) (t : ℕ) (w : List ℕ) (g : Form) (so_far : Made) (x : Refusal) → so_far ≡ Err x → UnionMade text t w g so_far (Err x) w
union_waits text t w g so_far x e = record {
  kept = kept_all joining_block.low joining_block.high w;
  made_in = tt;
  made = λ n o s m.
      refused_makes text (part w 0 t) w x (o >>= λ u. checked (unite u n))
      (then_stops o (λ (u : Normal). checked (unite u n)) x.number (culprit_of text x.culprit)
      (refused_outcome text (part w 0 t) w x o (subst (λ (z : Made). Makes text (part w 0 t) w z o) e m)));
}

pub union_joins : (text : List ℕ) (t : ℕ) (w w' : List ℕ) (g f : Form) (b : Block) (so_far r : Made) → b ≡ joining_block → so_far ≡ Ok f
    → JoinedForm text t w g f b r w' → UnionMade text t w g so_far r w'
union_joins text t w w' g f b so_far r e q y =
    let j : JoinedForm text t w g f joining_block r w' = subst (λ (z : Block). JoinedForm text t w g f z r w') e y in
    record {
      kept = j.kept;
      made_in = j.made_in;
      made = λ n o s m.
          let d = done_outcome text (part w 0 t) w f o (subst (λ (z : Made). Makes text (part w 0 t) w z o) q m) in
          makes_as text (part w' 0 t) w' r (checked (unite d.normal n)) (o >>= λ u. checked (unite u n))
          (then_goes_on o (λ (u : Normal). checked (unite u n)) d.normal d.outcome) (j.made n d.normal s d.stands);
    }

-- ---- outcomes

onto_none : (env : List Evaluated) (o : Outcome Normal) → (expressions env [] >>= onto o) ≡ o
unfolding expressions onto united ◌>>=◌
onto_none env (fine n) = refl
onto_none env (stop k x) = refl

-- from the empty normal form on: what the module imports
pub all_imported : (env : List Evaluated) (is : List Import) → (expressions env is >>= onto (fine empty)) ≡ imported env is
unfolding imported onto ◌>>=◌
all_imported env is = refl

onto_one : (e : Outcome (List Normal)) (o : Outcome Normal) (k : Normal)
    → ((e >>= λ ns. fine (k ∷ ns)) >>= onto o) ≡ (e >>= onto (o >>= λ n. checked (unite n k)))
unfolding onto united ◌>>=◌
onto_one (stop j x) o k = refl
onto_one (fine ns) (stop j x) k = refl
onto_one (fine ns) (fine n) k = refl

-- ---- where the expression at i ends

import_run : runs 11 11 ≡ true
unfolding runs pick
import_run = refl

pub import_within : (tape : List ℕ) (i : ℕ) → role_at tape i ≡ import_role → i < length tape
import_within tape i e = go (leb (length tape) i) refl
  where
    differ : (role : ℕ) → role ≡ 0 → role ≡ import_role → ⊥
    differ role p q = omega (arith, p, q)

    go : (b : Bool) → leb (length tape) i ≡ b → i < length tape
    go true q = absurd (differ (role_at tape i) (no_entry tape i (leb-true (length tape) i q)) e)
    go false q = leb-false (length tape) i q

clauses_end : (text tape : List ℕ) (i : ℕ) (cs : List Clause) → ClausesAt text tape (i + 1) cs → i < length tape
    → run_end 12 tape (i + 1) (length tape - (i + 1)) ≡ i + 1 + length (each flat_clause cs)
unfolding runs pick
clauses_end text tape i cs k h =
    let within = spelled_within text tape 12 (each flat_clause cs) (i + 1) refl (omega arith) (clauses_run cs) k.entries in
    run_over text tape 12 (each flat_clause cs) (length tape - (i + 1)) (i + 1) (omega (arith, within)) (clauses_run cs) k.entries k.after

none_imported : (text tape : List ℕ) (i : ℕ) → ImportsAt text tape i [] → role_at tape i ≡ import_role → ⊥
unfolding each
none_imported text tape i s e =
    let z : i + 0 ≡ i = omega arith in
    false≢true (sym (ap (λ (j : ℕ). runs 11 (role_at tape j)) (sym z) ∙ s.after) ∙ ap (runs 11) e ∙ import_run)

pub imports_tape : (w : List ℕ) (t : ℕ) (h : Heads) (i : ℕ) (so_far : Made) → ImportsRoom w t h i so_far → length (part w 0 t) ≤ 65536
imports_tape w t h i so_far c = short_tape w t c.ground.tape

pub import_room : (w : List ℕ) (t : ℕ) (h : Heads) (i : ℕ) (so_far : Made) (role : ℕ) → role ≡ role_at (part w 0 t) i → role ≡ import_role
    → ImportsRoom w t h i so_far
    → ImportRoom w t h i
import_room w t h i so_far role told goes c =
    let short = short_tape w t c.ground.tape in
    let here = import_within (part w 0 t) i (sym told ∙ goes) in
    record { ground = c.ground; place = omega (arith, short, here) }

-- ---- all expressions

module _ (text : List ℕ) (t : ℕ) (w : List ℕ) (h : Heads) (i : ℕ) (so_far : Made) where
  nothing_more : (is : List Import) → is ≡ [] → (env : List Evaluated) (o : Outcome Normal) → Makes text (part w 0 t) w so_far o
      → Makes text (part w 0 t) w so_far (expressions env is >>= onto o)
  nothing_more is e env o m =
      makes_as text (part w 0 t) w so_far o (expressions env is >>= onto o)
      (ap (λ (js : List Import). expressions env js >>= onto o) e ∙ onto_none env o) m

  imports_spent : (left : ℕ) → left ≤ 0 → ImportsRoom w t h i so_far → ImportsMade text t w h left i so_far so_far w
  imports_spent left e c = record {
    kept = kept_all joining_block.low second_block.high w;
    made_in = c.there;
    made = λ is env o k l f v m. nothing_more is (none is (le_trans l e)) env o m;
  }
    where
      none : (is : List Import) → length is ≤ 0 → is ≡ []
      none [] l = refl
      none (x ∷ is) l = absurd (omega arith)

  imports_over : (left role : ℕ) → role ≡ role_at (part w 0 t) i → (role ≡ import_role → ⊥) → ImportsRoom w t h i so_far
      → ImportsMade text t w h left i so_far so_far w
  imports_over left role told other c = record {
    kept = kept_all joining_block.low second_block.high w;
    made_in = c.there;
    made = λ is env o k l f v m. nothing_more is (none is k) env o m;
  }
    where
      none : (is : List Import) → ImportsAt text (part w 0 t) i is → is ≡ []
      none [] k = refl
      none (x ∷ is) k = absurd (other (told ∙ (import_there text (part w 0 t) i x is k).first))

  module _ (role : ℕ) (told : role ≡ role_at (part w 0 t) i) (goes : role ≡ import_role) (c : ImportsRoom w t h i so_far) where
    there_is : i < length (part w 0 t)
    there_is = import_within (part w 0 t) i (sym told ∙ goes)

    laid : Laid (length w) t
    laid = c.ground.laid

    joining_low : joining_block.low ≤ first_block.low
    joining_low = omega (arith, laid)

    second_high : joining_block.high ≤ second_block.high
    second_high = omega (arith, laid)

    module _ (end : ℕ) (w₁ : List ℕ) (r : Made) (at : end ≡ run_end 12 (part w 0 t) (i + 1) (length (part w 0 t) - (i + 1)))
        (x : ExpressionMade text t w h i r w₁) where
      wide : Kept joining_block.low second_block.high w w₁
      wide = wider (omega (arith, joining_low)) x.kept

      imports_refused : (left : ℕ) (y : Refusal) → r ≡ Err y → ImportsMade text t w h left i so_far (Err y) w₁
      unfolding expressions
      imports_refused left y e = record { kept = wide; made_in = tt; made = go }
        where
          go : (is : List Import) (env : List Evaluated) (o : Outcome Normal) → ImportsAt text (part w 0 t) i is → length is ≤ left → Every FewClauses is
              → EnvStands text (part w 0 t) w (declared text (part w 0 t) h) env → Makes text (part w 0 t) w so_far o
              → Makes text (part w₁ 0 t) w₁ (Err y) (expressions env is >>= onto o)
          go [] env o k l f v m = absurd (none_imported text (part w 0 t) i k (sym told ∙ goes))
          go (z ∷ is) env o k l f v m =
              let one = clauses env z.clauses (normal_of env z.name) in
              let s = subst (λ (q : Made). Makes text (part w₁ 0 t) w₁ q one) e (x.made z env (import_there text (part w 0 t) i z is k) f.0 v) in
              refused_makes text (part w₁ 0 t) w₁ y (expressions env (z ∷ is) >>= onto o)
              (then_stops (expressions env (z ∷ is)) (onto o) y.number (culprit_of text y.culprit)
              (then_stops one (λ (n : Normal). expressions env is >>= λ ns. fine (n ∷ ns)) y.number (culprit_of text y.culprit)
              (refused_outcome text (part w₁ 0 t) w₁ y one s)))

      -- what there is so far is not touched by the expression
      so_far_stays : (q : Made) (o : Outcome Normal) → MadeIn joining_block q → Makes text (part w 0 t) w q o → Makes text (part w₁ 0 t) w₁ q o
      so_far_stays (Ok f) (fine n) i m =
          still_stands laid.first.tape x.kept
          (below_outside first_block.low second_block.high joining_block.low joining_block.high f laid.joining_first
          (joined_between (length w) t f laid i)) m
      so_far_stays (Ok f) (stop k y) i m = absurd m
      so_far_stays (Err y) (fine n) i m = absurd m
      so_far_stays (Err y) (stop k z) i m = m

      -- its result, and the union with it
      module _ (g : Form) (e : r ≡ Ok g) where
        size : length w₁ ≡ length w
        size = x.kept.size

        pub union_room : UnionRoom (length w₁) t g so_far
        union_room = record {
          laid = subst (λ (n : ℕ). Laid n t) (sym size) laid;
          source = subst (λ (n : ℕ). Source n g) (sym size) (subst (Sourced text t w h (length w)) e x.source);
          there = c.there;
        }

        module _ (u : Made) (w₂ : List ℕ) (y : UnionMade text t w₁ g so_far u w₂) where
          both : Kept joining_block.low second_block.high w w₂
          both = onward wide (wider (omega (arith, second_high)) y.kept)

          next_imports : ImportsRoom w₂ t h end u
          next_imports = record {
            ground = ground_stays text t w w₂ h c.ground _ _ laid.joining.tape laid.second_kept both;
            there = y.made_in;
            place = end_small 12 w t i end at there_is c.ground.tape;
          }

          behind : (z : Import) (is : List Import) → ImportsAt text (part w 0 t) i (z ∷ is) → ImportsAt text (part w₂ 0 t) end is
          behind z is k =
              let ends = at ∙ clauses_end text (part w 0 t) i z.clauses (import_there text (part w 0 t) i z is k).clauses there_is in
              subst (λ (p : List ℕ). ImportsAt text p end is) (sym (tape_kept laid.joining.tape both))
              (subst (λ (j : ℕ). ImportsAt text (part w 0 t) j is) (sym ends) (imports_behind text (part w 0 t) i z is k))

          imports_more : (left : ℕ) (r₃ : Made) (w₃ : List ℕ) → ImportsMade text t w₂ h (left - 1) end u r₃ w₃
              → ImportsMade text t w h left i so_far r₃ w₃
          unfolding expressions
          imports_more left r₃ w₃ s = record {
            kept = onward both s.kept;
            made_in = s.made_in;
            made = go;
          }
            where
              go : (is : List Import) (env : List Evaluated) (o : Outcome Normal) → ImportsAt text (part w 0 t) i is → length is ≤ left → Every FewClauses is
                  → EnvStands text (part w 0 t) w (declared text (part w 0 t) h) env → Makes text (part w 0 t) w so_far o
                  → Makes text (part w₃ 0 t) w₃ r₃ (expressions env is >>= onto o)
              go [] env o k l f v m = absurd (none_imported text (part w 0 t) i k (sym told ∙ goes))
              go (z ∷ is) env o k l f v m =
                  let one = clauses env z.clauses (normal_of env z.name) in
                  let d = done_outcome text (part w₁ 0 t) w₁ g one
                  (subst (λ (q : Made). Makes text (part w₁ 0 t) w₁ q one) e (x.made z env (import_there text (part w 0 t) i z is k) f.0 v)) in
                  let joined = y.made d.normal o d.stands (so_far_stays so_far o c.there m) in
                  let next : Normal → Outcome (List Normal) = λ n. expressions env is >>= λ ns. fine (n ∷ ns) in
                  makes_as text (part w₃ 0 t) w₃ r₃ (expressions env is >>= onto (o >>= λ n. checked (unite n d.normal)))
                  (expressions env (z ∷ is) >>= onto o)
                  (ap (λ (q : Outcome (List Normal)). q >>= onto o) (then_goes_on one next d.normal d.outcome)
                  ∙ onto_one (expressions env is) o d.normal)
                  (s.made is env (o >>= λ n. checked (unite n d.normal)) (behind z is k) (omega arith) f.1
                  (evaluated_stay text t w w₂ h c.ground _ _ laid.joining.tape laid.second_kept both env v) joined)

-- ---- the loop: what is made from here on is what is made from the start

pub record ImportsGoing (text : List ℕ) (t : ℕ) (w₀ : List ℕ) (h : Heads) (all start : ℕ) (given : Made) (left i : ℕ) (so_far : Made)
    (w : List ℕ) : Type 0 where
  pub size : length w ≡ length w₀
  pub room : ImportsRoom w t h i so_far
  pub goes_on : (r : Made) (w' : List ℕ) → ImportsMade text t w h left i so_far r w' → ImportsMade text t w₀ h all start given r w'

module _ (text : List ℕ) (t : ℕ) (w₀ : List ℕ) (h : Heads) (all start : ℕ) (given : Made) where
  pub imports_start : ImportsRoom w₀ t h start given → ImportsGoing text t w₀ h all start given all start given w₀
  imports_start c = record { size = refl; room = c; goes_on = λ r w' x. x }

  module _ (left i : ℕ) (so_far : Made) (w : List ℕ) (v : ImportsGoing text t w₀ h all start given left i so_far w) where
    pub imports_ended : left ≤ 0 → ImportsMade text t w₀ h all start given so_far w
    imports_ended e = v.goes_on so_far w (imports_spent text t w h i so_far left e v.room)

    pub imports_none : (role : ℕ) → role ≡ role_at (part w 0 t) i → (role ≡ import_role → ⊥) → ImportsMade text t w₀ h all start given so_far w
    imports_none role told other = v.goes_on so_far w (imports_over text t w h i so_far left role told other v.room)

    module _ (role : ℕ) (told : role ≡ role_at (part w 0 t) i) (goes : role ≡ import_role) (end : ℕ) (w₁ : List ℕ) (r : Made)
        (at : end ≡ run_end 12 (part w 0 t) (i + 1) (length (part w 0 t) - (i + 1))) (x : ExpressionMade text t w h i r w₁) where
      pub imports_stop : (y : Refusal) → r ≡ Err y → ImportsMade text t w₀ h all start given (Err y) w₁
      imports_stop y e =
          v.goes_on (Err y) w₁ (imports_refused text t w h i so_far role told goes v.room end w₁ r at x left y e)

      pub imports_again : (g : Form) (u : Made) (w₂ : List ℕ) → r ≡ Ok g → UnionMade text t w₁ g so_far u w₂
          → ImportsGoing text t w₀ h all start given (left - 1) end u w₂
      imports_again g u w₂ e y = record {
        size = y.kept.size ∙ x.kept.size ∙ v.size;
        room = next_imports text t w h i so_far role told goes v.room end w₁ r at x g e u w₂ y;
        goes_on = λ r₃ w₃ s. v.goes_on r₃ w₃ (imports_more text t w h i so_far role told goes v.room end w₁ r at x g e u w₂ y left r₃ w₃ s);
      }
