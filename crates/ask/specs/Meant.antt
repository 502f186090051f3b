-- From one step of a decision to the next: what is told of two tapes is the decision of the meaning (ask_decision/specs/Decide.antt).
use Rattle.std.specs.Prelude.{◌≡◌, ℕ, ◌<◌, ◌≤◌, Bool, true, false, List, [], length}
use Rattle.std.proofs.Math.Path.{refl, sym, subst}
use Rattle.std.proofs.Common.{ap, ◌∙◌, arith}
use Rattle.std.proofs.Math.Option.{Option, none, some}
use Rattle.meaning.specs.Lists.{pick, before, or_else}
use Rattle.meaning.specs.Names.{Name, same, member}
use Rattle.meaning.specs.OrderLaws.{Every}
use Rattle.meaning.specs.Syntax.{Module}
use Rattle.laws.specs.Distinct.{Fresh}
use Rattle.meaning.specs.Texts.{Texts, Reading, read_texts}
use Rattle.meaning.specs.Reached.{Placed, reached, module_names, short_or_blank}
use Rattle.ask_decision.specs.Reasons.{absent_before, absent_now}
use Rattle.ask_decision.specs.Decide as Meaning
use Rattle.ask_decision.specs.Decide.{Why, why, in_pairs, against, changed, numbers, ask_again, unless_against, to_ask, of_readings, decide}
use Rattle.modules.specs.Modules.{HeadsOf, declared, reached_set, Heads}
use Rattle.modules.specs.ModuleLaws.{Spells, heads_number, declared_names}
use Rattle.modules.specs.Members.{member_found, member_absent}
use Rattle.modules.specs.ReachedLaws.{chosen}
use Rattle.modules.specs.Meant.{none_earlier, asked_number, reached_modules}
use Rattle.ask_objections.specs.Objections.{named, objection_at}
use Rattle.ask_objections.specs.Spelled.{PlacedIn, name_spelled}
use Rattle.ask_objections.specs.Meant.{objection_of, module_meant, objection_meant}
use Rattle.ask_walk.specs.Walk.{members, pairs_at, changed_pairs, pass_by_pass, same_at, in_pairs_at, against_at, changed_at}
use Rattle.ask_names.specs.Steps.{Spoken}
use Rattle.ask_names.specs.Meant.{spells, count_so}
use Rattle.ask.specs.declared.Decision.{Decision}
use Rattle.ask.specs.Decided.{Tells}
use Rattle.ask.specs.Numbered.{chosen_members, chosen_placed, pairs_meant, changed_meant}

-- ---- the modules that the asked one reaches on a tape

module _ (text tape : List ℕ) (t : ℕ) (ms : List Module) (h : Heads) (s : Spells text tape t ms h) (f : Fresh [] ms) (asked : Name) (k : ℕ)
    (e : k ≡ before (same asked) (module_names ms)) where
  chosen_so : reached asked ms ≡ chosen (reached_set text tape h k) 0 [] ms
  chosen_so = reached_modules text tape t ms h s f asked ∙ ap (λ (i : ℕ). chosen (reached_set text tape h i) 0 [] ms) (sym e)

  reached_placed : Every (PlacedIn ms) (reached asked ms)
  reached_placed =
      subst (Every (PlacedIn ms)) (sym chosen_so) (chosen_placed (reached_set text tape h k) ms ms 0 [] refl (none_earlier (module_names ms)))

  reached_members : members (reached_set text tape h k) 0 h.count ≡ numbers (reached asked ms)
  reached_members =
      ap (members (reached_set text tape h k) 0) (heads_number text tape t ms h s)
      ∙ sym (chosen_members (reached_set text tape h k) ms 0 [])
      ∙ ap numbers (sym chosen_so)

-- ---- on two tapes

module _
    (text tape : List ℕ) (t : ℕ) (ms : List Module) (h : Heads) (s : Spells text tape t ms h) (f : Fresh [] ms)
    (other new : List ℕ) (t' : ℕ) (ms' : List Module) (h' : Heads) (s' : Spells other new t' ms' h') (f' : Fresh [] ms')
    (asked : Name) (k k' : ℕ) (e : k ≡ before (same asked) (module_names ms)) (e' : k' ≡ before (same asked) (module_names ms'))
  where
    abbrev set : ℕ → Bool
    set = reached_set text tape h k

    abbrev set' : ℕ → Bool
    set' = reached_set other new h' k'

    abbrev xs : List Placed
    xs = reached asked ms

    abbrev xs' : List Placed
    xs' = reached asked ms'

    placed : Every (PlacedIn ms) xs
    placed = reached_placed text tape t ms h s f asked k e

    placed' : Every (PlacedIn ms') xs'
    placed' = reached_placed other new t' ms' h' s' f' asked k' e'

    pass_meant : (pass : ℕ)
        → in_pairs_at text tape h other new h' asked set set' pass ≡ in_pairs (objection_of asked (module_names ms) (module_names ms') pass) xs xs'
    unfolding in_pairs_at
    pass_meant pass =
        (λ i. pairs_at (objection_at text tape h other new h' asked pass) (named text tape h) (named other new h')
        (reached_members text tape t ms h s f asked k e i)
        (reached_members other new t' ms' h' s' f' asked k' e' i))
        ∙ pairs_meant ms ms' (objection_at text tape h other new h' asked pass) (named text tape h) (named other new h') _
        (λ x x' p p'. objection_meant text tape t ms h s other new t' ms' h' s' x x' p p' asked pass)
        (λ x p. name_spelled text tape t ms h s x p)
        (λ x p. name_spelled other new t' ms' h' s' x p)
        xs
        xs'
        placed
        placed'

    or_none : (o : Option Why) → or_else o none ≡ o
    unfolding or_else
    or_none none = refl
    or_none (some w) = refl

    against_meant : against_at text tape h other new h' asked set set' ≡ against asked (module_names ms) (module_names ms') xs xs'
    unfolding against_at pass_by_pass against objection_of pick
    against_meant = rw (pass_meant 0, pass_meant 1, pass_meant 2, pass_meant 3, or_none)

    changed_so : changed_at text tape h other new h' set set' ≡ numbers (changed xs xs')
    unfolding changed_at
    changed_so =
        (λ i. changed_pairs (same_at text tape h other new h')
        (reached_members text tape t ms h s f asked k e i)
        (reached_members other new t' ms' h' s' f' asked k' e' i))
        ∙ changed_meant ms ms' (same_at text tape h other new h')
        (λ x x' p p'. module_meant text tape t ms h s other new t' ms' h' s' x x' p p')
        xs
        xs'
        placed
        placed'

    pub walk_meant : unless_against (against_at text tape h other new h' asked set set') (changed_at text tape h other new h' set set')
        ≡ unless_against (against asked (module_names ms) (module_names ms') xs xs') (numbers (changed xs xs'))
    walk_meant = λ i. unless_against (against_meant i) (changed_so i)

-- ---- both are read, each onto its tape

-- a tape that says what was read, with its heads and the number of the asked name
module _
    (x : Reading) (text tape : List ℕ) (spoken : Spoken x text tape) (h : Heads) (heads : HeadsOf tape (length tape) h) (asked : Name) (k : ℕ)
    (e : k ≡ before (λ (w : Name). same w asked) (declared text tape h))
  where
    number_so : k ≡ before (same asked) (module_names spoken.modules)
    number_so =
        e
        ∙ asked_number asked (declared text tape h)
        ∙ ap (before (same asked)) (declared_names text tape (length tape) spoken.modules h (spells x text tape spoken h heads))

    is_there : (count : ℕ) → count ≡ h.count → k < count → member asked (module_names spoken.modules) ≡ true
    is_there count c l = member_found asked (module_names spoken.modules) (omega (arith, c, l, count_so x text tape spoken h heads, number_so))

    is_absent : (count : ℕ) → count ≡ h.count → count ≤ k → member asked (module_names spoken.modules) ≡ false
    is_absent count c l = member_absent asked (module_names spoken.modules) (omega (arith, c, l, count_so x text tape spoken h heads, number_so))

module _
    (old : Texts) (text tape : List ℕ) (spoken : Spoken (read_texts old) text tape) (h : Heads) (heads : HeadsOf tape (length tape) h)
    (now : Texts) (other new : List ℕ) (spoken' : Spoken (read_texts now) other new) (h' : Heads) (heads' : HeadsOf new (length new) h')
    (asked : Name) (k k' : ℕ) (e : k ≡ before (λ (w : Name). same w asked) (declared text tape h))
    (e' : k' ≡ before (λ (w : Name). same w asked) (declared other new h')) (r : Decision)
  where
    abbrev ms : List Module
    ms = spoken.modules

    abbrev ms' : List Module
    ms' = spoken'.modules

    both_read : decide asked old now ≡ to_ask asked ms ms'
    unfolding decide of_readings
    both_read = rw (spoken.read_so, spoken'.read_so)

    pub before_decided : (count : ℕ) → count ≡ h.count → count ≤ k → Tells r (ask_again (why absent_before (short_or_blank asked) []))
        → Tells r (decide asked old now)
    unfolding to_ask pick
    before_decided count c l t =
        let so : decide asked old now ≡ ask_again (why absent_before (short_or_blank asked) []) =
        both_read ∙ rw (is_absent (read_texts old) text tape spoken h heads asked k e count c l) in
        subst (Tells r) (sym so) t

    module _ (count : ℕ) (c : count ≡ h.count) (l : k < count) where
      there : member asked (module_names ms) ≡ true
      there = is_there (read_texts old) text tape spoken h heads asked k e count c l

      pub now_decided : (count' : ℕ) → count' ≡ h'.count → count' ≤ k' → Tells r (ask_again (why absent_now (short_or_blank asked) []))
          → Tells r (decide asked old now)
      unfolding to_ask pick
      now_decided count' c' l' t =
          let so : decide asked old now ≡ ask_again (why absent_now (short_or_blank asked) []) =
          both_read ∙ rw (there, is_absent (read_texts now) other new spoken' h' heads' asked k' e' count' c' l') in
          subst (Tells r) (sym so) t

      abbrev walked : Meaning.Decision
      walked =
          unless_against (against_at text tape h other new h' asked (reached_set text tape h k) (reached_set other new h' k'))
          (changed_at text tape h other new h' (reached_set text tape h k) (reached_set other new h' k'))

      pub reached_decided : (count' : ℕ) → count' ≡ h'.count → k' < count' → Tells r walked → Tells r (decide asked old now)
      unfolding to_ask pick
      reached_decided count' c' l' t =
          let x = read_texts old in
          let x' = read_texts now in
          let so = walk_meant text tape (length tape) ms h (spells x text tape spoken h heads) spoken.fresh
          other new (length new) ms' h' (spells x' other new spoken' h' heads') spoken'.fresh
          asked k k' (number_so x text tape spoken h heads asked k e) (number_so x' other new spoken' h' heads' asked k' e') in
          subst (Tells r) (so ∙ sym (both_read ∙ rw (there, is_there x' other new spoken' h' heads' asked k' e' count' c' l'))) t
