-- The decision is exact: it keeps where the premises of demand 3 hold but for acceptance, and nowhere else, and it names the modules that changed.
use Rattle.std.specs.Prelude.{◌≡◌, refl, ℕ, false}
use Rattle.std.proofs.Math.Path.{sym}
use Rattle.std.proofs.Common.{ap, ◌∙◌, arith}
use Rattle.std.proofs.Math.Bool.{Bool, true}
use Rattle.std.proofs.Math.Option.{Option, none, some}
use mathlib.Core.List.{List, [], ◌∷◌}
use Rattle.meaning.specs.Lists.{pick, or_else, first_some}
use Rattle.meaning.specs.Names.{Name, same, member}
use Rattle.meaning.specs.Syntax.{Module}
use Rattle.meaning.specs.Evaluate.{named_by, missing, too_late}
use Rattle.meaning.specs.Reached.{Placed, reached, module_names}
use Rattle.meaning.specs.Laws.{by_cases}
use Rattle.meaning.specs.Texts.{Texts, Reading, all_read, refused_in, read_texts}
use Rattle.meaning.specs.OrderLaws.{Every, same_self, same_equal}
use Rattle.promises.specs.Members.{clear, both_true}
use Rattle.promises.specs.Demand.{InTurn, Counterparts}
use Rattle.promises.specs.TwoCalls.{in_turn_so, both_in_turn}
use Rattle.laws.specs.Decides.{Decides, names_decided}
use Rattle.ask_decision.specs.Same.{same_module, signatures_decided, parameters_decided, imports_decided, modules_decided}
use Rattle.ask_decision.specs.Again.{Keeping}
use Rattle.ask_decision.specs.Decide.{Why, objection, otherwise, itself_changed, shown_changed, alike, name_changed, names_changed, in_pairs, against, ask_again, keep_after, changed, numbers, unless_against, to_ask, of_readings, decide}
use Rattle.ask_decision.specs.Exact.{Iff, Kept}

nothing_said : {A X : Type 0} (a : A) → some a ≡ none → X
nothing_said a e = let z : ◌≡◌ {A = ℕ} 0 1 = cc in absurd (omega arith)

passes : (b : Bool) (w : Why) → Iff (objection b w ≡ none) (b ≡ true)
unfolding objection pick
passes true w = (λ e. refl, λ e. refl)
passes false w = (λ e. nothing_said w e, λ e. clear (sym e))

both_none : {A : Type 0} (a b : Option A) → Iff (or_else a b ≡ none) ((a ≡ none) × (b ≡ none))
unfolding or_else
both_none none b = (λ e. (refl, e), λ h. h.1)
both_none (some a) b = (λ e. nothing_said a e, λ h. nothing_said a h.0)

decided_none : {A : Type 0} {e : A → A → Bool} → Decides e → (a b : A) (w : Why) → Iff (objection (e a b) w ≡ none) (a ≡ b)
decided_none {e = e} d a b w = (λ h. d.equal a b ((passes (e a b) w).0 h), λ p. (passes (e a b) w).1 (sym (ap (e a) p) ∙ d.self a))

tests_agree : (a b : Bool) → Iff (alike a b ≡ true) (a ≡ b)
unfolding alike
tests_agree true b = (λ e. sym e, λ e. sym e)
tests_agree false true = (λ e. clear (sym e), λ e. clear (sym e))
tests_agree false false = (λ e. refl, λ e. refl)

module _ (asked : Name) (ms ms' : List Module) (x x' : Placed) where
  abbrev d : List Name
  d = module_names ms

  abbrev d' : List Name
  d' = module_names ms'

  itself_none : Iff (itself_changed asked x x' ≡ none) (x.self.name ≡ asked → x.self ≡ x'.self)
  unfolding itself_changed pick
  itself_none = (
    λ h p. modules_decided.equal x.self x'.self
        (sym (ap (λ (b : Bool). pick b unchanged true) (ap (λ (w : Name). same w asked) p ∙ same_self asked)) ∙ (passes _ _).0 h),
    λ h. (passes _ _).1 (by_cases (λ (b : Bool). b ≡ true) (same x.self.name asked) unchanged true
        (λ q. sym (ap (same_module x.self) (h (same_equal x.self.name asked q))) ∙ modules_decided.self x.self) (λ q. refl)),
  )
    where
      unchanged : Bool
      unchanged = same_module x.self x'.self

  names_none : (ws : List Name) → Iff (first_some (name_changed d d' x x') ws ≡ none)
      (Every (λ w. missing d w ≡ missing d' w) ws × Every (λ w. too_late d x.earlier w ≡ too_late d' x'.earlier w) ws)
  unfolding first_some name_changed pick
  names_none [] = (λ h. (tt, tt), λ h. refl)
  names_none (w ∷ ws) =
      let later = names_none ws in (
        λ h. let a = (both_none (name_changed d d' x x' w) _).0 h in
            let b = both_true _ _ ((passes _ _).0 a.0) in
            let l = later.0 a.1 in
            (((tests_agree _ _).0 b.0, l.0), ((tests_agree _ _).0 b.1, l.1)),
        λ h. (both_none _ _).1 ((passes _ _).1 (rw ((tests_agree _ _).1 h.0.0, (tests_agree _ _).1 h.1.0)), later.1 (h.0.1, h.1.1)),
      )

  -- no reason stands against keeping where they are counterparts
  counterparts : Iff ((otherwise x x' ≡ none) × ((itself_changed asked x x' ≡ none) × ((shown_changed x x' ≡ none) × (names_changed d d' x x' ≡ none))))
      (Counterparts asked ms ms' x x')
  unfolding otherwise shown_changed names_changed
  counterparts = (
    λ h. let a = (both_none _ _).0 h.1.1.0 in
        let b = (both_none _ _).0 a.1 in
        let c = (names_none (named_by x.self)).0 h.1.1.1 in
        record {
          alike = record {
            name = (decided_none names_decided _ _ _).0 h.0;
            parameters = (decided_none parameters_decided _ _ _).0 a.0;
            exports = (decided_none signatures_decided _ _ _).0 b.0;
            imports = (decided_none imports_decided _ _ _).0 b.1;
          };
          asked_same = itself_none.0 h.1.0;
          both_missing = c.0;
          both_late = c.1;
        },
    λ c. let exports = (decided_none signatures_decided _ _ _).1 c.alike.exports in
        let imports = (decided_none imports_decided _ _ _).1 c.alike.imports in
        let shown = (both_none _ _).1 ((decided_none parameters_decided _ _ _).1 c.alike.parameters, (both_none _ _).1 (exports, imports)) in
        let names = (names_none (named_by x.self)).1 (c.both_missing, c.both_late) in
        ((decided_none names_decided _ _ _).1 c.alike.name, (itself_none.1 c.asked_same, (shown, names))),
  )

pairs_none : (f : Placed → Placed → Option Why) (xs xs' : List Placed) → Iff (in_pairs f xs xs' ≡ none) (InTurn (λ x x'. f x x' ≡ none) xs xs')
unfolding in_pairs
pairs_none f [] [] = (λ h. tt, λ h. refl)
pairs_none f [] (x' ∷ xs') = (λ h. nothing_said _ h, λ h. absurd h)
pairs_none f (x ∷ xs) [] = (λ h. nothing_said _ h, λ h. absurd h)
pairs_none f (x ∷ xs) (x' ∷ xs') =
    let later = pairs_none f xs xs' in
    (λ h. let k = (both_none (f x x') _).0 h in (k.0, later.0 k.1), λ h. (both_none _ _).1 (h.0, later.1 h.1))

none_against : (asked : Name) (ms ms' : List Module) (xs xs' : List Placed)
    → Iff (against asked (module_names ms) (module_names ms') xs xs' ≡ none) (InTurn (Counterparts asked ms ms') xs xs')
unfolding against
none_against asked ms ms' xs xs' = (
  λ h. let a = (both_none _ _).0 h in
      let b = (both_none _ _).0 a.1 in
      let c = (both_none _ _).0 b.1 in
      in_turn_so _ _ (λ x x'. (counterparts asked ms ms' x x').0) xs xs'
      (both_in_turn _ _ xs xs' ((pairs_none _ xs xs').0 a.0) (both_in_turn _ _ xs xs' ((pairs_none _ xs xs').0 b.0)
      (both_in_turn _ _ xs xs' ((pairs_none _ xs xs').0 c.0) ((pairs_none _ xs xs').0 c.1)))),
  λ h. let unsaid : (f : Placed → Placed → Option Why) → ((x x' : Placed) → Counterparts asked ms ms' x x' → f x x' ≡ none) → in_pairs f xs xs' ≡ none =
      λ f k. (pairs_none f xs xs').1 (in_turn_so _ _ k xs xs' h) in
      let shown = unsaid _ (λ x x' c. ((counterparts asked ms ms' x x').1 c).1.1.0) in
      let used = unsaid _ (λ x x' c. ((counterparts asked ms ms' x x').1 c).1.1.1) in
      let itself = unsaid _ (λ x x' c. ((counterparts asked ms ms' x x').1 c).1.0) in
      (both_none _ _).1 (unsaid _ (λ x x' c. ((counterparts asked ms ms' x x').1 c).0), (both_none _ _).1 (itself, (both_none _ _).1 (shown, used))),
)

-- a decision to keep: the premises hold, and those to ask are the changed ones
pub keeps : (asked : Name) (ms ms' : List Module) (zs : List ℕ) → to_ask asked ms ms' ≡ keep_after zs
    → Keeping asked ms ms' × (numbers (changed (reached asked ms) (reached asked ms')) ≡ zs)
unfolding to_ask pick unless_against
keeps asked ms ms' zs e = go (member asked (module_names ms)) (member asked (module_names ms')) objections _ _ refl refl refl e
  where
    objections : Option Why
    objections = against asked (module_names ms) (module_names ms') (reached asked ms) (reached asked ms')

    ns : List ℕ
    ns = numbers (changed (reached asked ms) (reached asked ms'))

    go : (b b' : Bool) (o : Option Why) (u u' : Why) → member asked (module_names ms) ≡ b → member asked (module_names ms') ≡ b' → objections ≡ o
        → pick b (pick b' (unless_against o ns) (ask_again u')) (ask_again u) ≡ keep_after zs → Keeping asked ms ms' × (ns ≡ zs)
    go true true none u u' p p' q e =
        (record { stands = p; stands' = p'; same_order = (none_against asked ms ms' (reached asked ms) (reached asked ms')).0 q }, cc)
    go true true (some w) u u' p p' q e = let z : ◌≡◌ {A = ℕ} 0 1 = cc in absurd (omega arith)
    go true false o u u' p p' q e = let z : ◌≡◌ {A = ℕ} 0 1 = cc in absurd (omega arith)
    go false b' o u u' p p' q e = let z : ◌≡◌ {A = ℕ} 0 1 = cc in absurd (omega arith)

-- and it keeps wherever they hold
pub kept_always : (asked : Name) (ms ms' : List Module) → Keeping asked ms ms'
    → to_ask asked ms ms' ≡ keep_after (numbers (changed (reached asked ms) (reached asked ms')))
unfolding to_ask pick unless_against
kept_always asked ms ms' k = rw (k.stands, k.stands', (none_against asked ms ms' (reached asked ms) (reached asked ms')).1 k.same_order)

-- a decision to keep: both are read, the premises hold, and those to ask are the changed ones
pub decided : (asked : Name) (old new : Texts) (zs : List ℕ) → decide asked old new ≡ keep_after zs → Kept asked old new zs
unfolding decide of_readings
decided asked old new zs e = go (read_texts old) (read_texts new) refl refl e
  where
    go : (r r' : Reading) → read_texts old ≡ r → read_texts new ≡ r' → of_readings asked r r' ≡ keep_after zs → Kept asked old new zs
    go (all_read ms) (all_read ms') p p' e =
        let k = keeps asked ms ms' zs e in
        record { modules = ms; modules' = ms'; read_as = record { reads = p }; read_as' = record { reads = p' }; keeping = k.0; named = k.1 }
    go (all_read ms) (refused_in l n i) p p' e = let z : ◌≡◌ {A = ℕ} 0 1 = cc in absurd (omega arith)
    go (refused_in l n i) r' p p' e = let z : ◌≡◌ {A = ℕ} 0 1 = cc in absurd (omega arith)

-- and where that is so, it is the decision
pub exactly : (asked : Name) (old new : Texts) (zs : List ℕ) → Kept asked old new zs → decide asked old new ≡ keep_after zs
unfolding decide of_readings
exactly asked old new zs k = rw (k.read_as.reads, k.read_as'.reads) (kept_always asked k.modules k.modules' k.keeping ∙ ap keep_after k.named)
