-- A module's own parameters are new: each that it imports is declared by a module that stands before it, and no two modules have one name. So
-- M's own are joined as any union joins them: `own_united`.
use Rattle.std.specs.Prelude.{◌≡◌, refl, ℕ, ◌+◌, Bool, true, false, not, ◌&&◌}
use Rattle.std.proofs.Common.{sym, ap, ◌∙◌, true≢false}
use mathlib.Core.List.{List, [], ◌∷◌, ◌++◌}
use Rattle.meaning.specs.Laws.{by_cases}
use Rattle.meaning.specs.Lists.{pick, keep, any, union}
use Rattle.meaning.specs.Names.{Name, same, member}
use Rattle.meaning.specs.Syntax.{Parameter, Module}
use Rattle.meaning.specs.Origins.{one_item}
use Rattle.meaning.specs.Normal.{Slot, Visible, Normal, same_slot, same_formals, is_parameter_of, unite_visible}
use Rattle.meaning.specs.Checks.{fine, Size}
use Rattle.meaning.specs.Own.{own_slot, own_visible}
use Rattle.meaning.specs.Evaluate.{Evaluated, imported, seen_sorts, joined_visible, evaluate}
use Rattle.meaning.specs.Reached.{Placed, reached_among, reached, total_of, module_names}
use Rattle.meaning.specs.Texts.{Texts, all_read, read_texts}
use Rattle.laws.specs.Distinct.{Fresh, read_fresh}
use Rattle.meaning.specs.OrderLaws.{Every}
use Rattle.laws.specs.Decides.{both_true}
use Rattle.laws.specs.EveryLaws.{any_found, every_made, every_member, every_so}
use Rattle.laws.specs.Outcomes.{Gives, gives_of}
use Rattle.laws.specs.Walk.{any_imports, EnvironmentOf, imported_gives, evaluated_gives}
use Rattle.laws.specs.Piecewise.{Slots, slots_keep, own_slots}
use Rattle.promises.specs.Members.{differ, found_later, member_here}

-- ---- what holds of the parameters of all modules evaluated holds of those of what is made of them

module _ (P : Slot → Type 0) (env : List Evaluated) (kept : EnvironmentOf (Slots P) env) where
  evaluated_slots : (declared earlier : List Name) (home : ℕ) (total : Size) (m : Module) → ((p : Parameter) → P (record { name = p.name; home = m.name }))
      → Gives (Slots P) (evaluate declared earlier home total env m)
  evaluated_slots declared earlier home total m own =
      evaluated_gives (slots_keep P) (Slots P) declared earlier home total env m kept (any_imports m.imports) (λ n h es r. own_slots P m n es own h)

-- ---- M's own, where none that is imported is declared by a module of its name

kept_all : {A : Type 0} (p : A → Bool) (xs : List A) → Every (λ x. p x ≡ true) xs → keep p xs ≡ xs
unfolding keep pick
kept_all p [] h = refl
kept_all p (x ∷ xs) h = rw h.0 (ap (x ∷◌) (kept_all p xs h.1))

another : (v b : Visible) (q : Slot) → Every (λ p. same q.home p.home ≡ false) v.parameters → not (is_parameter_of v b q) ≡ true
unfolding is_parameter_of same_slot
another v b q h = go (any (same_slot q) v.parameters) refl
  where
    go : (t : Bool) → any (same_slot q) v.parameters ≡ t → not (t && same_formals q.name v b) ≡ true
    go true e =
        let r = any_found (same_slot q) v.parameters e in
        let one = both_true (same q.name r.0.name) (same q.home r.0.home) r.2 in
        absurd (true≢false (sym one.1 ∙ every_member (λ p. same q.home p.home ≡ false) v.parameters h r.0 r.1))
    go false e = refl

pub own_new : (m : Module) (v : Visible) → Every (λ p. same m.name p.home ≡ false) v.parameters
    → joined_visible m v ≡ unite_visible v (own_visible m (seen_sorts m v))
unfolding joined_visible unite_visible own_visible own_slot
own_new m v h =
    let own = own_visible m (seen_sorts m v) in
    let new = kept_all _ own.parameters (every_made _ (own_slot m (seen_sorts m v)) (λ p. another v own _ h) m.parameters) in
    λ i. record { parameters = v.parameters ++ sym new i; items = union one_item v.items own.items }

-- ---- and none is, of the modules of texts that are read

-- of each module evaluated in turn, accepted or refused: what it imports is united with its own
abbrev pub OwnUnited : List Name → List Evaluated → List Placed → Type 0
OwnUnited declared env [] = Unit {0}
OwnUnited declared env (x ∷ xs) =
    ((n : Normal) → imported env x.self.imports ≡ fine n
    → joined_visible x.self n.visible ≡ unite_visible n.visible (own_visible x.self (seen_sorts x.self n.visible)))
    × ((n : Normal) → evaluate declared x.earlier x.number (total_of env) env x.self ≡ fine n
    → OwnUnited declared (record { name = x.self.name; normal = n } ∷ env) xs)

-- a parameter is declared by one of these modules
abbrev HomeIn : List Name → Slot → Type 0
HomeIn ws p = member p.home ws ≡ true

homes_later : (w : Name) (ws : List Name) (env : List Evaluated) → EnvironmentOf (Slots (HomeIn ws)) env → EnvironmentOf (Slots (HomeIn (w ∷ ws))) env
unfolding member
homes_later w ws env h =
    every_so (λ e. Slots (HomeIn ws) e.normal) (λ e. Slots (HomeIn (w ∷ ws)) e.normal) env
    (λ e i. every_so (HomeIn ws) (HomeIn (w ∷ ws)) e.normal.visible.parameters (λ p j. found_later (same p.home w) _ j) i) h

module _ (declared : List Name) (asked : Name) where
  turns_united : (ms : List Module) (k : ℕ) (earlier : List Name) (env : List Evaluated) → Fresh earlier ms → EnvironmentOf (Slots (HomeIn earlier)) env
      → OwnUnited declared env (reached_among asked k earlier ms)
  unfolding reached_among
  turns_united [] k earlier env f h = tt
  turns_united (m ∷ ms) k earlier env f h =
      let wider = homes_later m.name earlier env h in
      by_cases (OwnUnited declared env) _ _ _
      (λ b. (
        λ n e. own_new m n.visible (every_so (HomeIn earlier) _ n.visible.parameters (λ p i. differ m.name p.home earlier f.0 i)
            (gives_of (Slots (HomeIn earlier)) _ n (imported_gives (slots_keep (HomeIn earlier)) env h m.imports (any_imports m.imports)) e)),
        λ n e. turns_united ms (k + 1) (m.name ∷ earlier) (record { name = m.name; normal = n } ∷ env) f.1 (
          gives_of (Slots (HomeIn (m.name ∷ earlier))) _ n
              (evaluated_slots (HomeIn (m.name ∷ earlier)) env wider declared earlier k (total_of env) m (λ p. member_here m.name earlier)) e,
          wider,
        ),
      ))
      (λ b. turns_united ms (k + 1) (m.name ∷ earlier) env f.1 wider)

pub own_united : (asked : Name) (texts : Texts) (ms : List Module) → read_texts texts ≡ all_read ms
    → OwnUnited (module_names ms) [] (reached asked ms)
unfolding reached
own_united asked texts ms e = turns_united (module_names ms) asked ms 0 [] [] (read_fresh texts ms e) tt
