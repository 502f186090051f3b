-- Accepted normal forms: an equation can be told from its line, a form from its items and equations in whatever order, and the visible part
-- from its exported items and those of each parameter, which also tell the module that declares it.
use Rattle.std.specs.Prelude.{◌≡◌, refl, ℕ, Bool, true, false}
use Rattle.std.proofs.Math.Path.{sym, ap}
use Rattle.std.proofs.Common.{ap₂, subst, ◌∙◌}
use Rattle.std.proofs.lemmas.Bool.{false≢true}
use mathlib.Core.List.Permᴰ
use mathlib.Core.List.{List, [], ◌∷◌, ◌++◌, map, Memᴰ}
use Rattle.meaning.specs.Lists.{pick, keep, any, none_in, each}
use Rattle.meaning.specs.Names.{Name, same}
use Rattle.meaning.specs.Origins.{Section, export_section, hidden_section, parameter_section, Item, ResolvedEquation, in_parameter}
use Rattle.meaning.specs.Normal.{Slot, Visible, Normal, slot_names, formals}
use Rattle.meaning.specs.Written.{equation_text, hidden_in_order, in_order}
use Rattle.meaning.specs.Listing.{is_exported}
use Rattle.meaning.specs.OrderLaws.{Every, Pairwise, Rearranged, rearranged_member, same_equal, same_self}
use Rattle.laws.specs.EveryLaws.{every_so, kept_member, any_passes, every_member, member_map_to, every_made, every_map, every_of}
use Rattle.promises.specs.ListingLaws.{Plain, told_map}
use Rattle.promises.specs.SameListing.{EquationsTold, SameNormal, items_in_order, one_order, visible_items_one}
use Rattle.promises.specs.SameListing.{same_ordered}
use Rattle.promises.specs.Told.{SameListed, SoundVisible, Stands, StandsIn, every_named, exported_of}
use Rattle.promises.specs.Sound.{once_told}
use Rattle.promises.specs.Parts.{Apart, parted}
use Rattle.promises.specs.WellTyped.{TypedEquation}
use Rattle.promises.specs.TermsTold.{content, told_equation}
use Rattle.promises.specs.SoundEvaluation.{Accepted}

-- ---- equations

module _ (k : Normal) (a : Accepted k) where
  abbrev IsTyped : ResolvedEquation → Type 0
  IsTyped e = TypedEquation k.visible.items k.hidden.items e

  -- an equation of k, and one over the same items, with one written line say the same
  line_told : (e f : ResolvedEquation) → IsTyped e → IsTyped f → equation_text k.hidden.items e ≡ equation_text k.hidden.items f
      → content e ≡ content f
  line_told e f d d' =
      told_equation k.visible.items k.hidden.items
      (every_so SoundVisible (λ i. Plain i.name) k.visible.items (λ i h. h.name) a.whole.sound.visible) a.few a.outputs e f d.tag
      d'.tag d d'

  -- equations of one module, position and written line are one
  pub accepted_equations_told : EquationsTold k.hidden.items k.hidden.equations
  unfolding content
  accepted_equations_told e f m l home position text =
      let es = k.hidden.equations in
      let typed : (x : ResolvedEquation) → Memᴰ x es → IsTyped x = every_member IsTyped es a.whole.typed in
      let said = line_told e f (typed e m) (typed f l) text in
      λ x. record { module_number = home x; position = position x; tag = (said x).tag; conclusion = (said x).conclusion; conditions = (said x).conditions }

  -- two lists of equations over the same items with the same written lines say the same
  lines_told : (es fs : List ResolvedEquation) → Every IsTyped es → Every IsTyped fs
      → map (equation_text k.hidden.items) es ≡ map (equation_text k.hidden.items) fs → map content es ≡ map content fs
  lines_told = told_map IsTyped IsTyped _ _ content content line_told

-- ---- one form, in whatever order its items and equations were found

pub same_then : (a b c : Normal) → SameNormal a b → SameNormal b c → SameNormal a c
same_then a b c s t = record {
  parameters = Permᴰ.trans s.parameters t.parameters;
  items = Permᴰ.trans s.items t.items;
  hidden_items = Permᴰ.trans s.hidden_items t.hidden_items;
  equations = Permᴰ.trans s.equations t.equations;
}

pub same_itself : (n : Normal) → SameNormal n n
same_itself n = record {
  parameters = Permᴰ.refl n.visible.parameters;
  items = Permᴰ.refl n.visible.items;
  hidden_items = Permᴰ.refl n.hidden.items;
  equations = Permᴰ.refl n.hidden.equations;
}

-- an accepted form and what it was found as
pub found_same : (k : Normal) (a : Accepted k) → SameNormal a.found k
found_same k a = subst (SameNormal a.found) (sym a.ordered) (same_ordered a.found)

found_told : (k : Normal) (a : Accepted k) → EquationsTold (items_in_order a.found.hidden.items) a.found.hidden.equations
unfolding in_order hidden_in_order
found_told k a e f m l =
    let told = subst (λ (x : Normal). EquationsTold x.hidden.items x.hidden.equations) a.ordered (accepted_equations_told k a) in
    let d = (same_ordered a.found).equations in
    told e f (rearranged_member d m) (rearranged_member d l)

-- a normal form with the items and equations of an accepted one, found in whatever order, is that one when put in order
pub accepted_one_order : (k n : Normal) → Accepted k → SameNormal k n → k ≡ in_order n
accepted_one_order k n a s = a.ordered ∙ one_order a.found n (same_then a.found k n (found_same k a) s) a.told (found_told k a)

-- ---- the visible part

-- where an item stands: exported or inherited, or in a parameter
exported : Item → Bool
exported i = is_exported i.standing

inside : Name → Item → Bool
inside p i = in_parameter p i.standing

places : List Name → List (Item → Bool)
places ps = exported ∷ map inside ps

exported_apart : (p : Name) (s : Section) → is_exported s ≡ true → in_parameter p s ≡ false
unfolding is_exported in_parameter
exported_apart p export_section e = refl
exported_apart p hidden_section e = refl
exported_apart p (parameter_section q) e = absurd (false≢true e)

parameters_apart : (p q : Name) → same p q ≡ false → (s : Section) → in_parameter p s ≡ true → in_parameter q s ≡ false
unfolding in_parameter
parameters_apart p q d export_section e = refl
parameters_apart p q d hidden_section e = refl
parameters_apart p q d (parameter_section r) e = go (same q r) refl
  where
    go : (b : Bool) → same q r ≡ b → b ≡ false
    go true f = absurd (false≢true (sym d ∙ ap (same p) (same_equal q r f) ∙ e))
    go false f = refl

insides_apart : (ps : List Name) → Pairwise (λ p q. same p q ≡ false) ps → Pairwise Apart (map inside ps)
unfolding inside
insides_apart [] h = tt
insides_apart (p ∷ ps) h =
    (every_map _ (Apart (inside p)) inside (λ q k i e. parameters_apart p q k i.standing e) ps h.0, insides_apart ps h.1)

places_apart : (ps : List Name) → Pairwise (λ p q. same p q ≡ false) ps → Pairwise Apart (places ps)
unfolding places exported inside
places_apart ps h = (every_made (Apart exported) inside (λ q i e. exported_apart q i.standing e) ps, insides_apart ps h)

stands_somewhere : (ps : List Slot) (i : Item) → Stands ps i → any (λ (t : Item → Bool). t i) (places (slot_names ps)) ≡ true
unfolding places exported inside is_exported in_parameter slot_names
stands_somewhere ps i h = go i.standing refl h
  where
    passes : (t : Item → Bool) → Memᴰ t (places (slot_names ps)) → t i ≡ true → any (λ (u : Item → Bool). u i) (places (slot_names ps)) ≡ true
    passes = any_passes (λ (u : Item → Bool). u i) (places (slot_names ps))

    go : (s : Section) → i.standing ≡ s → StandsIn ps i.origin.home s → any (λ (t : Item → Bool). t i) (places (slot_names ps)) ≡ true
    go export_section q h = passes exported (Memᴰ.head refl) (ap is_exported q)
    go hidden_section q h = absurd h
    go (parameter_section p) q h =
        passes (inside p) (Memᴰ.tail (member_map_to inside (member_map_to (λ (r : Slot). r.name) h))) (ap (in_parameter p) q ∙ same_self p)

parts : Visible → List Name → List Item
parts v ps = each (λ (t : Item → Bool). keep t v.items) (places ps)

names_once : (ps : List Slot) → Pairwise (λ p q. same p.name q.name ≡ false) ps → Pairwise (λ p q. same p q ≡ false) (slot_names ps)
unfolding slot_names
names_once [] h = tt
names_once (p ∷ ps) h = (every_named (λ q. same p.name q ≡ false) ps h.0, names_once ps h.1)

items_parted : (v : Visible) → Every (Stands v.parameters) v.items → Pairwise (λ p q. same p.name q.name ≡ false) v.parameters
    → Rearranged v.items (parts v (slot_names v.parameters))
unfolding parts
items_parted v stand once =
    let ps = slot_names v.parameters in
    parted (places ps) v.items (every_so (Stands v.parameters) _ v.items (stands_somewhere v.parameters) stand)
    (places_apart ps (names_once v.parameters once))

parts_one : (v v' : Visible) (ps : List Name) → exported_of v ≡ exported_of v' → Every (λ p. formals p v ≡ formals p v') ps → parts v ps ≡ parts v' ps
unfolding parts places exported inside formals each
parts_one v v' ps e h = ap₂ ◌++◌ e (later ps h)
  where
    later : (qs : List Name) → Every (λ p. formals p v ≡ formals p v') qs
        → each (λ (t : Item → Bool). keep t v.items) (map inside qs) ≡ each (λ (t : Item → Bool). keep t v'.items) (map inside qs)
    later [] k = refl
    later (q ∷ qs) k = ap₂ ◌++◌ k.0 (later qs k.1)

-- the items of a parameter come from the module that declares it
pub formal_home : (k : Normal) → Accepted k → (p : Slot) → Memᴰ p k.visible.parameters → (i : Item) → Memᴰ i (formals p.name k.visible)
    → p.home ≡ i.origin.home
unfolding formals in_parameter
formal_home k a p m i l =
    let r = kept_member (λ (j : Item). in_parameter p.name j.standing) k.visible.items l in
    go i.standing r.1 (every_member (Stands k.visible.parameters) k.visible.items a.whole.sound.standing i r.0)
  where
    go : (s : Section) → in_parameter p.name s ≡ true → StandsIn k.visible.parameters i.origin.home s → p.home ≡ i.origin.home
    go export_section e h = absurd (false≢true e)
    go hidden_section e h = absurd h
    go (parameter_section q) e h =
        ap (λ (x : Slot). x.home) (once_told k.visible.parameters a.parameters p _ m h (same_equal p.name q e))

-- a parameter as far as a listing tells it: where no item tells the module that declares it, without that
unfoldable pub told_slot : Visible → Slot → Slot
told_slot v p = pick (none_in (formals p.name v)) (record { name = p.name; home = [] }) p

told_alike : (is : List Item) (p q : Slot) → p.name ≡ q.name → ((i : Item) → Memᴰ i is → p.home ≡ i.origin.home)
    → ((i : Item) → Memᴰ i is → q.home ≡ i.origin.home)
    → pick (none_in is) (record { name = p.name; home = [] }) p ≡ pick (none_in is) (record { name = q.name; home = [] }) q
unfolding pick none_in
told_alike [] p q e h h' = λ x. record { name = e x; home = [] }
told_alike (i ∷ is) p q e h h' =
    let homes = h i (Memᴰ.head refl) ∙ sym (h' i (Memᴰ.head refl)) in λ x. record { name = e x; home = homes x }

module _ (asked asked' : Name) (k k' : Normal) (a : Accepted k) (a' : Accepted k') (s : SameListed asked asked' k k') where
  items_rearranged : Rearranged k.visible.items k'.visible.items
  items_rearranged =
      let here = items_parted k.visible a.whole.sound.standing a.parameters in
      let there = items_parted k'.visible a'.whole.sound.standing a'.parameters in
      let same_parts = parts_one k.visible k'.visible (slot_names k.visible.parameters) s.exported s.inside in
      let q = same_parts ∙ ap (parts k'.visible) s.parameters in
      Permᴰ.trans (subst (Rearranged k.visible.items) q here) (Permᴰ.symm there)

  -- two accepted forms with one listing have the same visible items
  pub one_visible : k.visible.items ≡ k'.visible.items
  unfolding in_order
  one_visible =
      let still = ap (λ (n : Normal). n.visible.items) (accepted_one_order k k a (same_itself k)) in
      let still' = ap (λ (n : Normal). n.visible.items) (accepted_one_order k' k' a' (same_itself k')) in
      let d = Permᴰ.symm (found_same k a).items in
      still ∙ visible_items_one k.visible k'.visible items_rearranged (λ x y m l. a.told.visible x y (rearranged_member d m) (rearranged_member d l))
      ∙ sym still'

  one_slot : (p q : Slot) → Memᴰ p k.visible.parameters → Memᴰ q k'.visible.parameters → p.name ≡ q.name
      → told_slot k.visible p ≡ told_slot k'.visible q
  unfolding told_slot formals
  one_slot p q m m' e =
      let items : formals q.name k'.visible ≡ formals p.name k.visible =
      λ x. keep (λ (i : Item). in_parameter (sym e x) i.standing) (sym one_visible x) in
      rw items (told_alike (formals p.name k.visible) p q e (formal_home k a p m) (λ i l. formal_home k' a' q m' i (rw items l)))

  -- the same parameters, but for the module of one without items
  pub one_parameters : map (told_slot k.visible) k.visible.parameters ≡ map (told_slot k'.visible) k'.visible.parameters
  unfolding slot_names
  one_parameters =
      let ps = k.visible.parameters in
      let qs = k'.visible.parameters in
      told_map (λ p. Memᴰ p ps) (λ q. Memᴰ q qs) (λ (p : Slot). p.name) (λ (q : Slot). q.name) _ _ (λ p q m m' e. one_slot p q m m' e) ps qs
      (every_of _ ps (λ p m. m)) (every_of _ qs (λ q m. m)) s.parameters

  -- and equations that say the same, in the same order
  pub one_content : map content k.hidden.equations ≡ map content k'.hidden.equations
  one_content =
      let es = k.hidden.equations in
      let fs = k'.hidden.equations in
      let over : List Item → List Item → Type 0 = λ vs is. Every (TypedEquation vs is) fs in
      let typed = subst (λ (vs : List Item). over vs k'.hidden.items) (sym one_visible) a'.whole.typed in
      let written : List Item → List (List ℕ) = λ is. map (equation_text is) fs in
      lines_told k a es fs a.whole.typed (subst (over k.visible.items) (sym s.hidden) typed) (s.equations ∙ ap written (sym s.hidden))
