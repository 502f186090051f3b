-- No import goes in a circle (document 02, Nine): step 1 lets a module name only modules that stand earlier, so it is not among those
-- reached from the ones that it names. Evaluating once had a test for this, with the number 20. The test stands here for these statements
-- alone: with it every answer is what it is without it, and none is 20.
use Rattle.std.specs.Prelude.{◌≡◌, refl, ◌⊎◌, ℕ, ◌+◌, Bool, true, false, length}
use Rattle.std.proofs.Math.Path.{sym, ap, subst}
use Rattle.std.proofs.Common.{◌∙◌, inl, inr, ⊎_elim}
use mathlib.Core.List.{List, [], ◌∷◌, ◌++◌, map, append_assoc}
use Rattle.std.proofs.lemmas.List.{length-map}
use Rattle.meaning.specs.Laws.{by_cases}
use Rattle.meaning.specs.Lists.{pick}
use Rattle.meaning.specs.Names.{bytes, Name, same, member}
use Rattle.meaning.specs.Syntax.{Signature, Import, Module}
use Rattle.meaning.specs.Normal.{Normal, empty}
use Rattle.meaning.specs.Checks.{lone, Outcome, fine, stop, ◌>>◌, Check, Size, ◌>>=◌}
use Rattle.meaning.specs.Evaluate.{Evaluated, named_by, names_right, declared_once, imported, joined_own, evaluate}
use Rattle.meaning.specs.Reached.{wanted, Placed, reached_among, reached, Ended, normalised, end_or, total_of, in_turn, module_names, normalise}
use Rattle.meaning.specs.Texts.{Texts, Reading, all_read, refused_in, read_texts}
use Rattle.meaning.specs.Answer.{Answer, of_read, answer}
use Rattle.laws.specs.Distinct.{Fresh, read_fresh}
use Rattle.meaning.specs.Opened.{all_opened}
use Rattle.meaning.specs.OrderLaws.{Every}
use Rattle.promises.specs.Members.{clear, found_later, member_here, member_left, member_right, differ, Inside, inside_more, inside_later, inside_cons, outside, no_name, member_more, member_split, member_either, only_itself}
use Rattle.promises.specs.Demand.{placed_among, all_placed}
use Rattle.promises.specs.Alone.{earlier_names}
use Rattle.promises.specs.Library.{names_both, not_both}
use Rattle.promises.specs.Given.{never_twenty, in_cycle}
use Rattle.promises.specs.OldBinding.{normalise_by, of_read_by, answer_by}

-- ---- what a module's names reach

abbrev pub names_of : List Placed → List Name
names_of xs = map (λ (x : Placed). x.self.name) xs

-- what the names that a module uses reach stands earlier than it, and so is never the module
pub record InNoCircle (ms : List Module) (x : Placed) : Type 0 where
  pub earlier_only : (w : Name) → member w (named_by x.self) ≡ true → Inside (names_of (reached w ms)) x.earlier
  pub not_itself : (w : Name) → member w (named_by x.self) ≡ true → member x.self.name (names_of (reached w ms)) ≡ false

-- a module that stands earlier reaches none from here on
none_reached : (w : Name) (k : ℕ) (e taken : List Name) (ms : List Module) → Fresh taken ms → member w taken ≡ true → reached_among w k e ms ≡ []
unfolding reached_among member pick
none_reached w k e taken [] f h = refl
none_reached w k e taken (m ∷ ms) f h =
    let still = found_later (same w m.name) _ h in
    let p : member m.name (wanted w ms) ≡ false =
    ap (member m.name) (only_itself w (m.name ∷ taken) ms f.1 still) ∙ ap (λ (b : Bool). pick b true false) (differ m.name w taken f.0 h) in
    rw p (none_reached w (k + 1) (m.name ∷ e) (m.name ∷ taken) ms f.1 still)

one_reached : (w : Name) (k : ℕ) (e names : List Name) (m : Module) (ms : List Module)
    → Inside (names_of (reached_among w (k + 1) (m.name ∷ e) ms)) names → Inside (names_of (reached_among w k e (m ∷ ms))) (m.name ∷ names)
unfolding reached_among
one_reached w k e names m ms h =
    by_cases (λ (xs : List Placed). Inside (names_of xs) (m.name ∷ names)) _ _ _
    (λ b. inside_more m.name _ names h) (λ b. inside_later m.name _ names h)

-- what it reaches is among those up to here
reached_before : (w : Name) (us vs : List Module) (k : ℕ) (e taken : List Name) → Fresh taken (us ++ vs)
    → (member w taken ≡ true) ⊎ (member w (module_names us) ≡ true) → Inside (names_of (reached_among w k e (us ++ vs))) (module_names us)
unfolding module_names member pick
reached_before w [] vs k e taken f (inl h) = λ v q. clear (sym q ∙ ap (λ (xs : List Placed). member v (names_of xs)) (none_reached w k e taken vs f h))
reached_before w [] vs k e taken f (inr h) = clear (sym h)
reached_before w (u ∷ us) vs k e taken f h =
    one_reached w k e (module_names us) u (us ++ vs) (reached_before w us vs (k + 1) (u.name ∷ e) (u.name ∷ taken) f.1
    (⊎_elim (λ h. inl (found_later (same w u.name) _ h))
    (λ h. ⊎_elim (λ p. inl (ap (λ (v : Name). member v (u.name ∷ taken)) p ∙ member_here u.name taken)) inr
    (member_either w u.name (module_names us) h)) h))

-- the last name may be put first
last_first : (v : Name) (vs ws : List Name) → Inside vs ws → Inside (vs ++ (v ∷ [])) (v ∷ ws)
last_first v vs ws h w q = ⊎_elim (λ b. member_right w (v ∷ []) ws (h w b)) (member_more w (v ∷ []) [] ws (λ z. no_name w z)) (member_split w vs (v ∷ []) q)

module _ (ms : List Module) (fresh : Fresh [] ms) where
  -- us stand before the modules from here on, and e are their names
  placed_in_no_circle : (us : List Module) (k : ℕ) (e : List Name) (rest : List Module) → ms ≡ us ++ rest → Inside e (module_names us)
      → Inside (module_names us) e
      → Every (λ x. names_right (module_names ms) x.earlier (named_by x.self) ≡ fine tt → InNoCircle ms x) (placed_among k e rest)
  unfolding placed_among module_names reached
  placed_in_no_circle us k e [] s i j = tt
  placed_in_no_circle us k e (m ∷ rest) s i j = (
    λ passed. record {
      earlier_only = λ w h. before w (earlier passed w h);
      not_itself = λ w h. outside (names_of (reached w ms)) e m.name (before w (earlier passed w h)) new;
    },
    placed_in_no_circle (us ++ (m ∷ [])) (k + 1) (m.name ∷ e) rest (s ∙ sym (append_assoc us (m ∷ []) rest)) onward back,
  )
    where
      fresh_split : Fresh [] (us ++ (m ∷ rest))
      fresh_split = subst (Fresh []) s fresh

      earlier : names_right (module_names ms) e (named_by m) ≡ fine tt → (w : Name) → member w (named_by m) ≡ true → member w e ≡ true
      earlier = earlier_names (module_names ms) e (named_by m)

      before : (w : Name) → member w e ≡ true → Inside (names_of (reached w ms)) e
      before w h v q =
          j v (reached_before w us (m ∷ rest) 0 [] [] fresh_split (inr (i w h)) v
          (subst (λ (xs : List Module). member v (names_of (reached w xs)) ≡ true) s q))

      new : member m.name e ≡ false
      new = outside e (module_names us) m.name i (not_both m.name [] us (m ∷ rest) fresh_split (member_here m.name _))

      onward : Inside (m.name ∷ e) (module_names (us ++ (m ∷ [])))
      onward =
          subst (Inside (m.name ∷ e)) (sym (names_both us (m ∷ [])))
          (inside_cons m.name e _ (member_right m.name (module_names us) _ (member_here m.name []))
          (λ v q. member_left v (module_names us) _ (i v q)))

      back : Inside (module_names (us ++ (m ∷ []))) (m.name ∷ e)
      back = subst (λ (ns : List Name). Inside ns (m.name ∷ e)) (sym (names_both us (m ∷ []))) (last_first m.name (module_names us) e j)

-- each module of a specification that passes step 1 is in no circle of imports
pub no_circle : (texts : Texts) (ms : List Module) → read_texts texts ≡ all_read ms
    → Every (λ x. names_right (module_names ms) x.earlier (named_by x.self) ≡ fine tt → InNoCircle ms x) (all_placed ms)
unfolding all_placed module_names
no_circle texts ms e = placed_in_no_circle ms (read_fresh texts ms e) [] 0 [] ms refl (λ v q. q) (λ v q. q)

-- ---- the test as it was

-- a module evaluated, and the modules that it names
pub record Naming : Type 0 where
  pub evaluated : Evaluated
  pub names : List Name

abbrev pub without_names : List Naming → List Evaluated
without_names env = map (λ (e : Naming). e.evaluated) env

-- the names of the modules that the names reach, among those evaluated, the latest first
unfoldable pub reached_from : List Name → List Naming → List Name
reached_from wanted [] = []
reached_from wanted (e ∷ es) =
    let yes = e.evaluated.name ∷ reached_from (e.names ++ wanted) es in
    let no_more = reached_from wanted es in
    pick (member e.evaluated.name wanted) yes no_more

-- M is among the modules reached from those that it names
unfoldable pub acyclic : List Naming → Module → Check
acyclic env m = pick (member m.name (reached_from (named_by m) env)) (stop in_cycle (lone m.name)) (fine tt)

-- the four steps for M, with the test right after step 1
unfoldable pub evaluate_tested : List Name → List Name → ℕ → Size → List Naming → Module → Outcome Normal
evaluate_tested declared earlier home total env m = do
  names_right declared earlier (named_by m)
  acyclic env m
  declared_once m
  n ← imported (without_names env) m.imports
  joined_own home total m n

unfoldable pub in_turn_tested : List Name → List Naming → Normal → List Placed → Ended
in_turn_tested declared env last [] = normalised (length env) last
in_turn_tested declared env last (x ∷ xs) =
    let m = x.self in
    end_or (length env + 1) m.name
    (λ n. in_turn_tested declared (record { evaluated = record { name = m.name; normal = n }; names = named_by m } ∷ env) n xs)
    (evaluate_tested declared x.earlier x.number (total_of (without_names env)) env m)

abbrev pub turns_tested : List Name → List Placed → Ended
turns_tested declared xs = in_turn_tested declared [] empty xs

abbrev pub answer_tested : ℕ → ℕ → Name → Texts → Answer
answer_tested = answer_by turns_tested

-- of modules that no text gives, it finds the cycle: M names A, and A, evaluated before, names M, evaluated before
unfoldable cyclic : Module
cyclic =
    let none : Signature = record { sorts = []; functions = [] } in
    let imports : List Import = record { name = bytes "A"; clauses = [] } ∷ [] in
    record { name = bytes "M"; parameters = []; exports = none; imports = imports; hidden = none; groups = []; equations = [] }

in_a_cycle :
    acyclic (record { evaluated = record { name = bytes "A"; normal = empty }; names = bytes "M" ∷ [] }
    ∷ record { evaluated = record { name = bytes "M"; normal = empty }; names = [] } ∷ []) cyclic ≡ stop in_cycle (lone (bytes "M"))
unfolding all_opened cyclic acyclic reached_from
in_a_cycle = refl

-- ---- with it and without it

abbrev names_in : List Evaluated → List Name
names_in env = map (λ (e : Evaluated). e.name) env

-- a name that is reached is the name of a module evaluated
reached_inside : (ws : List Name) (env : List Naming) → Inside (reached_from ws env) (names_in (without_names env))
unfolding reached_from
reached_inside ws [] v = λ q. q
reached_inside ws (x ∷ env) v =
    by_cases (λ (r : List Name). member v r ≡ true → member v (names_in (without_names (x ∷ env))) ≡ true) (member x.evaluated.name ws) _ _
    (λ b. member_more v (x.evaluated.name ∷ []) _ _ (reached_inside (x.names ++ ws) env v))
    (λ b q. member_right v (x.evaluated.name ∷ []) _ (reached_inside ws env v q))

-- where no module evaluated before has the module's name, there is no cycle
no_cycle : (env : List Naming) (m : Module) → member m.name (names_in (without_names env)) ≡ false → acyclic env m ≡ fine tt
unfolding acyclic pick
no_cycle env m e = rw (outside (reached_from (named_by m) env) (names_in (without_names env)) m.name (reached_inside (named_by m) env) e)

evaluate_same : (declared earlier : List Name) (home : ℕ) (total : Size) (env : List Naming) (m : Module)
    → member m.name (names_in (without_names env)) ≡ false
    → evaluate_tested declared earlier home total env m ≡ evaluate declared earlier home total (without_names env) m
unfolding evaluate_tested evaluate ◌>>◌
evaluate_same declared earlier home total env m e = rw (no_cycle env m e)

module _ (declared : List Name) (asked : Name) where
  -- those evaluated are earlier modules, and no module has the name of an earlier one
  turns_same : (ms : List Module) (k : ℕ) (e : List Name) (env : List Naming) (last : Normal) → Fresh e ms → Inside (names_in (without_names env)) e
      → in_turn_tested declared env last (reached_among asked k e ms) ≡ in_turn declared (without_names env) last (reached_among asked k e ms)
  unfolding reached_among in_turn_tested in_turn
  turns_same [] k e env last f i = ap (λ (n : ℕ). normalised n last) (sym (length-map env _))
  turns_same (m ∷ ms) k e env last f i =
      by_cases (λ (xs : List Placed). in_turn_tested declared env last xs ≡ in_turn declared (without_names env) last xs) _ _ _
      (λ b. go (λ n. turns_same ms (k + 1) (m.name ∷ e) (with_m n) n f.1 (inside_more m.name _ e i)))
      (λ b. turns_same ms (k + 1) (m.name ∷ e) env last f.1 (inside_later m.name _ e i))
    where
      with_m : Normal → List Naming
      with_m n = record { evaluated = record { name = m.name; normal = n }; names = named_by m } ∷ env

      rest : List Placed
      rest = reached_among asked (k + 1) (m.name ∷ e) ms

      here : Placed
      here = record { self = m; number = k; earlier = e }

      go : ((n : Normal) → in_turn_tested declared (with_m n) n rest ≡ in_turn declared (without_names (with_m n)) n rest)
          → in_turn_tested declared env last (here ∷ rest) ≡ in_turn declared (without_names env) last (here ∷ rest)
      go later =
          let alone = outside (names_in (without_names env)) e m.name i f.0 in
          rw (evaluate_same declared e k (total_of (without_names env)) env m alone, length-map)
          (λ j. end_or (length env + 1) m.name (λ n. later n j) (evaluate declared e k (total_of (without_names env)) (without_names env) m))

read_same : (asked : Name) (texts : Texts) (r : Reading) → read_texts texts ≡ r → of_read_by turns_tested asked r ≡ of_read asked r
unfolding of_read_by of_read normalise_by normalise reached
read_same asked texts (all_read ms) e = rw (turns_same (module_names ms) asked ms 0 [] [] empty (read_fresh texts ms e) (λ v q. q))
read_same asked texts (refused_in in_library number at) e = refl

-- whatever the texts, the name and what is lent: the answer with the test is the answer
pub test_of_no_account : (memory_lent output_lent : ℕ) (asked : Name) (texts : Texts)
    → answer_tested memory_lent output_lent asked texts ≡ answer memory_lent output_lent asked texts
unfolding answer_by answer
test_of_no_account memory_lent output_lent asked texts = rw (read_same asked texts (read_texts texts) refl)

-- ---- 20 is never given

pub never_in_cycle : (memory_lent output_lent : ℕ) (asked : Name) (texts : Texts) → (answer memory_lent output_lent asked texts).number ≡ in_cycle → ⊥
never_in_cycle memory_lent output_lent asked texts e = never_twenty memory_lent output_lent asked texts e
