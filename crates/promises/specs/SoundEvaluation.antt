-- Clauses, own declarations, typing and a whole call keep what is needed to tell an accepted normal form.
use Rattle.std.specs.Prelude.{◌≡◌, ℕ, ◌+◌, Bool, true, false, not, ◌&&◌, leb, length}
use Rattle.std.proofs.Math.Path.{refl}
use Rattle.std.proofs.Common.{sym, subst, inl, inr, arith, lit<, leb-true}
use mathlib.Core.List.Memᴰ
use mathlib.Core.List.Permᴰ
use mathlib.Core.List.{List, [], ◌++◌, map}
use Rattle.std.proofs.Math.Dec.{lit≤}
use Rattle.meaning.specs.Laws.{by_cases}
use Rattle.meaning.specs.Lists.{pick, keep, union, sorted_onto}
use Rattle.meaning.specs.Names.{Name, same, member}
use Rattle.meaning.specs.Origins.{visible_sort, Section, export_section, parameter_section, hidden_section, Declared, declared_sort, declared_function, is_sort, one_item, one_equation, Item, ResolvedEquation, in_parameter}
use Rattle.meaning.specs.Checks.{lone, fine, Size, size, fits, room}
use Rattle.meaning.specs.Own.{resolved, function_type, own_sort, own_function, own_section, own_slot, own_visible, own_variable, own_hidden_items, available_sorts}
use Rattle.meaning.specs.Syntax.{Function, Signature, group_variables, variables_of, Clause, renamed_by, bound_by, Import, Module}
use Rattle.meaning.specs.Evaluate.{Evaluated, normal_of, clause, expressions, seen_sorts, joined_visible, own_checks, own_equations, joined_hidden, evaluate}
use Rattle.meaning.specs.Clauses.{without_visible, without}
use Rattle.meaning.specs.Normal.{Visible, nothing_visible, nothing_hidden, empty, unite_hidden, Slot, Normal, sorts_among}
use Rattle.meaning.specs.Written.{shape_rank, visible_in_order, hidden_in_order, in_order}
use Rattle.meaning.specs.Listing.{lines_text, listing_lines}
use Rattle.promises.specs.ListingLaws.{member_found, Plain, PlainSection, PlainDeclared, PlainOrigin, SortIn}
use Rattle.meaning.specs.Numbers.{asked_absent, parameter_room, item_room}
use Rattle.meaning.specs.Reached.{reached_among, reached, normalised, refused_at, in_turn, module_names, short_or_blank, normalise}
use Rattle.meaning.specs.OrderLaws.{rearranged_every, rearranged_length, rearranged_member, Every, Pairwise}
use Rattle.laws.specs.EveryLaws.{every_so, every_append, every_kept, every_keep, every_map, every_member, every_union, member_keep, member_map_to, every_of, every_each}
use Rattle.laws.specs.Outcomes.{Gives, both_fine, gives_of}
use Rattle.laws.specs.Walk.{ClauseNames, EnvironmentOf, Evaluates, Keeps, call_gives, clause_gives, expressions_give, module_gives, normal_had, reached_every, with_own, RightOwn}
use Rattle.laws.specs.Reading.{ReadClause, ReadFunction, ReadGroup, ReadModule, ReadParameter, ReadSignature}
use Rattle.laws.specs.OwnItems.{hidden_every, section_every, section_made, visible_every, declared_name}
use Rattle.promises.specs.SameListing.{ItemsTold, same_ordered}
use Rattle.promises.specs.Told.{EquationLines, Few, SameListed, Sound, SoundHidden, SoundVisible, Stands, StandsIn, told_by_bytes}
use Rattle.promises.specs.Sound.{HasSort, all_stand, all_wider, move_sound, parameters_once, sort_had, sound_told, together, together_sound, union_left, union_right, unite_sound}
use Rattle.promises.specs.WellTyped.{TypedEquation, WellTyped, in_order_typed, move_typed, typed_wider, unite_typed}
use Rattle.promises.specs.Public.{shown_only, own_shown}
use Rattle.promises.specs.TypedBinding.{bound_typed}
use Rattle.promises.specs.TypedOwn.{InReach, equation_in_line, equations_typed}
use Rattle.promises.specs.TermsTold.{OneOutput, one_output}
use Rattle.meaning.specs.OutcomeLaws.{needs_fine}
use Rattle.laws.specs.Decides.{both_true}

-- what evaluating keeps: the items are sound and the equations well typed
pub record Whole (n : Normal) : Type 0 where
  pub sound : Sound n
  pub typed : WellTyped n

-- its equations are written in one line each
pub equation_lines : (n : Normal) → Whole n → EquationLines n
equation_lines n w =
    let names = every_so SoundVisible (λ i. Plain i.name) n.visible.items (λ i h. h.name) w.sound.visible in
    every_so _ _ n.hidden.equations (equation_in_line n.visible.items n.hidden.items names) w.typed

-- ---- clauses

-- what stands outside the parameter p stands where it did without it
still_stands : (p : Name) (ps : List Slot) (home : Name) (s : Section) → StandsIn ps home s → not (in_parameter p s) ≡ true
    → StandsIn (keep (λ (q : Slot). not (same p q.name)) ps) home s
unfolding in_parameter
still_stands p ps home export_section h e = tt
still_stands p ps home hidden_section h e = h
still_stands p ps home (parameter_section q) h e = member_keep (λ (r : Slot). not (same p r.name)) ps _ h e

without_sound : (p : Name) (n : Normal) → Sound n → Sound (without p n)
unfolding without without_visible
without_sound p n s = record {
  parameters = every_keep (λ q. Plain q.name) _ n.visible.parameters s.parameters;
  standing =
      every_so (λ (i : Item). Stands n.visible.parameters i × (not (in_parameter p i.standing) ≡ true))
      (Stands (keep (λ (q : Slot). not (same p q.name)) n.visible.parameters))
      (keep (λ (i : Item). not (in_parameter p i.standing)) n.visible.items)
      (λ i h. still_stands p n.visible.parameters i.origin.home i.standing h.0 h.1)
      (every_kept (Stands n.visible.parameters) (λ (i : Item). not (in_parameter p i.standing)) n.visible.items s.standing);
  visible = every_keep SoundVisible (λ (i : Item). not (in_parameter p i.standing)) n.visible.items s.visible;
  hidden = s.hidden;
}

empty_whole : Whole empty
unfolding empty nothing_visible nothing_hidden
empty_whole = record { sound = record { parameters = tt; standing = tt; visible = tt; hidden = tt }; typed = tt }

pub whole_keeps : Keeps Plain Whole
whole_keeps = record {
  nothing = empty_whole;
  moved = λ σ φ c n w. record { sound = move_sound σ φ c.sorts c.functions n w.sound; typed = move_typed σ φ n w.typed };
  bound = λ p rs n actual c r w w'. record {
    sound = unite_sound _ actual (move_sound _ _ c.sorts c.functions (without p n) (without_sound p n w.sound)) w'.sound;
    typed = bound_typed p rs n actual r.right r.all w.typed w'.typed;
  };
  united = λ a b w w'. record { sound = unite_sound a b w.sound w'.sound; typed = unite_typed a b w.typed w'.typed };
}

-- the new names of a clause are plain
abbrev pub PlainClause : Clause → Type 0
PlainClause c = ClauseNames Plain c

-- the normal forms of the modules evaluated
abbrev pub WholeEnv : List Evaluated → Type 0
WholeEnv env = EnvironmentOf Whole env

pub normal_of_whole : (env : List Evaluated) (w : Name) → WholeEnv env → Whole (normal_of env w)
normal_of_whole env w h = normal_had whole_keeps env h w

module _ (env : List Evaluated) (whole : WholeEnv env) where
  pub clause_whole : (c : Clause) (n : Normal) → PlainClause c → Whole n → Gives Whole (clause env c n)
  clause_whole = clause_gives whole_keeps env whole

  pub expressions_whole : (is : List Import) → Every (λ i. Every PlainClause i.clauses) is → Gives (Every Whole) (expressions env is)
  expressions_whole = expressions_give whole_keeps env whole

-- ---- M's own declarations

-- what is read, its names plain
abbrev pub PlainModule : Module → Type 0
PlainModule m = ReadModule Plain Plain m

clause_plain : (c : Clause) → ReadClause Plain Plain c → PlainClause c
clause_plain (renamed_by rs) h = every_so _ _ rs (λ r k. k.1) h.each_one
clause_plain (bound_by p rs m) h = every_so _ _ rs (λ r k. k.1) h.each_one

pub imports_plain : (m : Module) → PlainModule m → Every (λ i. Every PlainClause i.clauses) m.imports
imports_plain m h = every_so _ _ m.imports (λ i k. every_so _ PlainClause i.clauses clause_plain k) h.imports.each_one

module _ (m : Module) (plain : PlainModule m) (seen : List Name) where
  declared_plain : (f : Function) → ReadFunction Plain Plain f → PlainDeclared (declared_function f.name f.inputs f.output)
  declared_plain f p = (p.name, p.inputs.each_one, p.output)

  shown_resolved : (s : Name) → Plain s → SortIn [] (resolved (shown_only m) seen s)
  unfolding resolved member pick
  shown_resolved s p = by_cases (SortIn []) (member s seen) (visible_sort s) (visible_sort s) (λ e. p) (λ e. p)

  shown_section_sound : (s : Section) → PlainSection s → (g : Signature) → ReadSignature Plain Plain g
      → Every SoundVisible (own_section (shown_only m) seen s g)
  unfolding own_sort own_function function_type shape_rank
  shown_section_sound s h g k =
      section_every SoundVisible (shown_only m) seen Plain (ReadFunction Plain Plain) s
      (λ a p. record { standing = refl; kind = lit≤ tt; name = p; shape = tt; origin = record { home = plain.name; section = h; declared = p } })
      (λ f p. record {
        standing = refl;
        kind = lit≤ tt;
        name = p.name;
        shape = (every_map Plain _ (resolved (shown_only m) seen) shown_resolved f.inputs p.inputs.each_one, shown_resolved f.output p.output);
        origin = record { home = plain.name; section = h; declared = declared_plain f p };
      })
      g k.sorts k.functions

  -- after 13 no type of M's own visible items has a hidden sort
  own_visible_sound : available_sorts m seen ≡ fine tt → Every SoundVisible (own_visible m seen).items
  own_visible_sound e =
      subst (λ (v : Visible). Every SoundVisible v.items) (sym (own_shown m seen e))
      (visible_every SoundVisible (shown_only m) seen
      (every_so _ _ m.parameters (λ p q. shown_section_sound (parameter_section p.name) q.name p.signature q.signature) plain.parameters)
      (shown_section_sound export_section tt m.exports plain.exports))

  own_section_stands : (ps : List Slot) (s : Section) → StandsIn ps m.name s → (g : Signature) → Every (Stands ps) (own_section m seen s g)
  unfolding own_sort own_function
  own_section_stands ps s h g = section_made (Stands ps) m seen s (λ a. h) (λ f. h) g

  own_visible_stands : Every (Stands (own_visible m seen).parameters) (own_visible m seen).items
  unfolding own_visible own_slot
  own_visible_stands =
      let ps = map (own_slot m seen) m.parameters in
      visible_every (Stands ps) m seen
      (every_of _ m.parameters (λ q k. own_section_stands ps (parameter_section q.name) (member_map_to (own_slot m seen) k) q.signature))
      (own_section_stands ps export_section tt m.exports)

  -- a name of M's own hidden sorts is one of its hidden items
  own_sort_there : (s : Name) → member s m.hidden.sorts ≡ true
      → HasSort (record { home = m.name; section = hidden_section; declared = declared_sort s }) (own_hidden_items m seen)
  unfolding own_hidden_items own_section own_sort is_sort
  own_sort_there s e = (
    own_sort m seen hidden_section s,
    Memᴰ.append_left _ (Memᴰ.append_left _ (member_map_to (own_sort m seen hidden_section) (member_found s m.hidden.sorts e))),
    refl,
    refl,
  )

  resolved_hidden : (s : Name) → Plain s → SortIn (sorts_among (own_hidden_items m seen)) (resolved m seen s)
  unfolding resolved
  resolved_hidden s p =
      by_cases (SortIn (sorts_among (own_hidden_items m seen))) _ _ _ (λ e. p)
      (λ e. by_cases (SortIn (sorts_among (own_hidden_items m seen))) _ _ _ (λ f. sort_had (own_hidden_items m seen) _ (own_sort_there s f)) (λ f. p))

  own_hidden_sound : Every (SoundHidden (own_hidden_items m seen)) (own_hidden_items m seen)
  unfolding own_sort own_function own_variable function_type declared_name variables_of group_variables
  own_hidden_sound =
      let good : Item → Type 0 = SoundHidden (own_hidden_items m seen) in
      let here : (d : Declared) → PlainDeclared d → PlainOrigin (record { home = m.name; section = hidden_section; declared = d }) =
      λ d p. record { home = plain.name; section = tt; declared = p } in
      hidden_every good m seen
      (section_every good m seen Plain (ReadFunction Plain Plain) hidden_section
      (λ a p. record { standing = refl; name = refl; shape = tt; origin = here _ p })
      (λ f p. record {
        standing = refl;
        name = refl;
        shape = (every_map Plain _ (resolved m seen) resolved_hidden f.inputs p.inputs.each_one, resolved_hidden f.output p.output);
        origin = here _ (declared_plain f p);
      })
      m.hidden plain.hidden.sorts plain.hidden.functions)
      (every_each (λ v. good (own_variable m seen v)) (ReadGroup Plain Plain) group_variables
      (λ g h. every_map Plain _ _ (λ x p. record { standing = refl; name = refl; shape = resolved_hidden _ h.sort; origin = here _ (p, h.sort) }) g.names
      h.names) m.groups plain.groups)

-- ---- one module, and a whole call

in_order_sound : (n : Normal) → Sound n → Sound (in_order n)
in_order_sound n s =
    let d = same_ordered n in
    let is = n.hidden.items in
    let js = (in_order n).hidden.items in
    record {
      parameters = rearranged_every (λ p. Plain p.name) d.parameters s.parameters;
      standing = rearranged_every _ d.items (all_stand _ _ n.visible.items (λ p m. rearranged_member d.parameters m) s.standing);
      visible = rearranged_every SoundVisible d.items s.visible;
      hidden =
          rearranged_every (SoundHidden js) d.hidden_items
          (all_wider is js is (λ o h. (h.0, rearranged_member d.hidden_items h.1, h.2, h.3)) s.hidden);
    }

-- a normal form that is accepted: put in order from one whose items are told; sound and well typed; its parameters of different names, its
-- visible functions of one name and input type of one type (11); and not too large
pub record Accepted (k : Normal) : Type 0 where
  pub found : Normal
  pub ordered : k ≡ in_order found
  pub told : ItemsTold found
  pub whole : Whole k
  pub parameters : Pairwise (λ p q. same p.name q.name ≡ false) k.visible.parameters
  pub outputs : OneOutput k.visible.items
  pub few : Few k

pub fits_fine : (b : Bool) → fits b ≡ fine tt → b ≡ true
unfolding fits
fits_fine b e = needs_fine _ _ b e

room_few : (n : Normal) → room n ≡ fine tt → Few n
unfolding room size
room_few n e =
    let items = length n.visible.items + length n.hidden.items in
    let r = both_true (leb (length n.visible.parameters) parameter_room && leb items item_room) _ (fits_fine _ e) in
    omega (arith, leb-true items item_room (both_true (leb (length n.visible.parameters) parameter_room) (leb items item_room) r.0).1)

module _ (m : Module) (plain : PlainModule m) (n : Normal) (whole : Whole n) where
  abbrev own_seen : List Name
  own_seen = seen_sorts m n.visible

  own_part : List ResolvedEquation → Normal
  own_part es = record { visible = own_visible m own_seen; hidden = record { items = own_hidden_items m own_seen; equations = es } }

  abbrev all_of : List ResolvedEquation → Normal
  all_of es = with_own m n es

  all_sound : (es : List ResolvedEquation) → available_sorts m own_seen ≡ fine tt → Sound (all_of es)
  unfolding own_part own_visible own_slot joined_visible joined_hidden together
  all_sound es a =
      let new = every_map (ReadParameter Plain Plain) (λ p. Plain p.name) (own_slot m own_seen) (λ q h. h.name) m.parameters plain.parameters in
      together_sound n (own_part es) (own_visible m own_seen).parameters new (λ q k. Memᴰ.append_right n.visible.parameters k) whole.sound (record {
        parameters = new;
        standing = own_visible_stands m plain own_seen;
        visible = own_visible_sound m plain own_seen a;
        hidden = own_hidden_sound m plain own_seen;
      })

  abbrev all_visible : List Item
  all_visible = (joined_visible m n.visible).items

  abbrev all_hidden : List Item
  all_hidden = union one_item n.hidden.items (own_hidden_items m own_seen)

  -- the items in reach of M's text
  known_reach : available_sorts m own_seen ≡ fine tt
      → Every (InReach (joined_visible m n.visible).parameters all_visible all_hidden) (all_visible ++ own_hidden_items m own_seen)
  known_reach a =
      let own = own_hidden_items m own_seen in
      let s = all_sound [] a in
      every_append _ all_visible own
      (every_of _ all_visible (λ i k. inl (
        k,
        every_member (Stands (joined_visible m n.visible).parameters) all_visible s.standing i k,
        (every_member SoundVisible all_visible s.visible i k).kind,
      )))
      (every_of _ own (λ i k. inr (
        union_right n.hidden.items own i k,
        (every_member (SoundHidden own) own (own_hidden_sound m plain own_seen) i k).standing,
      )))

  abbrev OwnTyped : ResolvedEquation → Type 0
  OwnTyped e = TypedEquation all_visible all_hidden e

  own_typed : available_sorts m own_seen ≡ fine tt → (home : ℕ) → Gives (Every OwnTyped) (own_equations home m own_seen (joined_visible m n.visible))
  unfolding own_equations
  own_typed a home = equations_typed _ all_visible all_hidden _ (known_reach a) home 0 m.equations
      (every_so _ _ m.equations (λ e k. k.tag) plain.equations)

  all_whole : (es : List ResolvedEquation) → Every OwnTyped es → available_sorts m own_seen ≡ fine tt → Whole (all_of es)
  unfolding joined_visible joined_hidden unite_hidden
  all_whole es d a =
      let vs = n.visible.items in
      let is = n.hidden.items in
      record {
        sound = all_sound es a;
        typed =
            every_union OwnTyped one_equation n.hidden.equations es
            (typed_wider vs is all_visible all_hidden (union_left vs (own_visible m own_seen).items) (union_left is (own_hidden_items m own_seen))
            n.hidden.equations whole.typed) d;
      }

  all_accepted : (home : ℕ) (es : List ResolvedEquation) → RightOwn home m n es → Accepted (in_order (all_of es))
  unfolding own_checks in_order
  all_accepted home es r =
      let c = both_fine _ _ r.right in
      let available = (both_fine _ _ c.1).0 in
      let w = all_whole es (gives_of (Every OwnTyped) _ es (own_typed available home) r.equations) available in
      let few = room_few (all_of es) r.fits in
      let own = own_hidden_items m own_seen in
      let d = Permᴰ.symm (same_ordered (all_of es)).items in
      record {
        found = all_of es;
        ordered = refl;
        told = sound_told (all_of es) own c.0 w.sound few;
        whole = record { sound = in_order_sound (all_of es) w.sound; typed = in_order_typed (all_of es) w.typed };
        parameters = parameters_once (joined_visible m n.visible) own c.0;
        outputs = λ a b t u p q. one_output (joined_visible m n.visible) own c.0 a b t u (rearranged_member d p) (rearranged_member d q);
        few = omega (arith, few, rearranged_length (same_ordered (all_of es)).hidden_items);
      }

empty_accepted : Accepted empty
unfolding empty nothing_visible nothing_hidden in_order visible_in_order hidden_in_order sorts_among keep sorted_onto
empty_accepted = record {
  found = empty;
  ordered = refl;
  told = record { parameters = λ p q m. elim m [ ]; visible = λ a b m. elim m [ ]; hidden = λ a b m. elim m [ ] };
  whole = empty_whole;
  parameters = tt;
  outputs = λ a b t u m. elim m [ ];
  few = lit< tt;
}

accepted_evaluates : Evaluates Plain PlainModule Whole Accepted
accepted_evaluates = record {
  steps = whole_keeps;
  imports = imports_plain;
  own = λ home m plain n whole. all_accepted m plain n whole home;
  nothing = empty_accepted;
  weaker = λ n a. a.whole;
}

-- what evaluating a module accepts
pub evaluated_accepted : (declared earlier : List Name) (home : ℕ) (total : Size) (env : List Evaluated) (m : Module) → PlainModule m → WholeEnv env
    → Gives Accepted (evaluate declared earlier home total env m)
evaluated_accepted = module_gives accepted_evaluates

pub reached_plain : (asked : Name) (k : ℕ) (earlier : List Name) (ms : List Module) → Every PlainModule ms
    → Every (λ x. PlainModule x.self) (reached_among asked k earlier ms)
reached_plain = reached_every PlainModule

named_plain : (w : Name) (ms : List Module) → Every PlainModule ms → member w (module_names ms) ≡ true → Plain w
unfolding module_names
named_plain w ms h e =
    every_member Plain (map (λ (m : Module). m.name) ms) (every_map PlainModule Plain (λ (m : Module). m.name) (λ m p. p.name) ms h) w
    (member_found w (map (λ (m : Module). m.name) ms) e)

-- a call that is accepted
pub record AcceptedCall (asked : Name) (n : Normal) : Type 0 where
  pub name : Plain asked
  pub normal : Accepted n

pub call_accepted : (asked : Name) (ms : List Module) (count : ℕ) (n : Normal) → Every PlainModule ms → normalise asked ms ≡ normalised count n
    → AcceptedCall asked n
unfolding normalise pick
call_accepted asked ms count n plain e =
    record { name = go (member asked (module_names ms)) refl e; normal = call_gives accepted_evaluates asked ms count n plain e }
  where
    go : (b : Bool) → member asked (module_names ms) ≡ b
        → pick b (in_turn (module_names ms) [] empty (reached asked ms)) (refused_at asked_absent 0 asked (lone (short_or_blank asked))) ≡ normalised count n
        → Plain asked
    go true q e = named_plain asked ms plain q
    go false q e = let z : ◌≡◌ {A = ℕ} 0 1 = cc in absurd (omega arith)

-- two accepted normal forms with one listing have the same visible items, parameters of the same names, the same hidden items, and the same
-- equations as written
pub one_normal_form : (asked asked' : Name) (n n' : Normal) → AcceptedCall asked n → AcceptedCall asked' n'
    → lines_text (listing_lines asked n) ≡ lines_text (listing_lines asked' n') → SameListed asked asked' n n'
one_normal_form asked asked' n n' a a' e =
    let w = a.normal.whole in
    let w' = a'.normal.whole in
    told_by_bytes asked asked' n n' a.name a'.name w.sound w'.sound (equation_lines n w) (equation_lines n' w') a.normal.few e
