-- What is visible stands visibly and is no variable, whatever is evaluated: renaming, binding, union and order keep it so.
use Rattle.std.specs.Prelude.{◌≡◌, true, false, List, ℕ}
use Rattle.std.proofs.Math.Path.{refl}
use Rattle.meaning.specs.Names.{Name}
use Rattle.meaning.specs.Syntax.{Signature, Import, Module}
use Rattle.meaning.specs.Origins.{Section, export_section, parameter_section, FunctionType, Shape, sort_shape, function_shape, variable_shape, Item, one_item}
use Rattle.meaning.specs.Normal.{Visible, Normal, move_shape, move_item}
use Rattle.meaning.specs.Checks.{Size}
use Rattle.meaning.specs.Own.{own_sort, own_function, own_section, own_visible}
use Rattle.meaning.specs.Typing.{is_variable}
use Rattle.meaning.specs.OrderLaws.{Every}
use Rattle.meaning.specs.Evaluate.{Evaluated, imported, seen_sorts, joined_visible, evaluate}
use Rattle.laws.specs.EveryLaws.{every_all, every_union}
use Rattle.laws.specs.Outcomes.{Gives}
use Rattle.laws.specs.OwnItems.{section_made, visible_every}
use Rattle.laws.specs.Walk.{AnyName, any_imports, EnvironmentOf, imported_gives, Evaluates, module_gives}
use Rattle.laws.specs.Piecewise.{AllVisible, visible_evaluates}
use Rattle.own_terms.specs.Meant.{visibly}
use Rattle.own_typing.specs.Typed.{Seen}

abbrev pub AllSeen : Normal → Type 0
AllSeen n = AllVisible Seen n

-- the modules evaluated so far
abbrev pub SeenAmong : List Evaluated → Type 0
SeenAmong env = EnvironmentOf AllSeen env

moved_seen : (σ : Name → Name) (φ : Name → FunctionType → Name) (i : Item) → Seen i → Seen (move_item σ φ i)
unfolding move_item move_shape is_variable
moved_seen σ φ i s = record { standing = s.standing; variable = go i.shape s.variable }
  where
    go : (x : Shape) → is_variable x ≡ false → is_variable (move_shape σ φ x) ≡ false
    go sort_shape h = refl
    go (function_shape t) h = refl
    go (variable_shape r) h = h

module _ (m : Module) (seen : List Name) where
  section_seen : (s : Section) → visibly s ≡ true → (g : Signature) → Every Seen (own_section m seen s g)
  unfolding own_sort own_function is_variable
  section_seen s h g =
      section_made Seen m seen s (λ a. record { standing = h; variable = refl }) (λ f. record { standing = h; variable = refl }) g

  own_seen : Every Seen (own_visible m seen).items
  unfolding visibly
  own_seen =
      visible_every Seen m seen (every_all _ (λ p. section_seen (parameter_section p.name) refl p.signature) m.parameters)
      (section_seen export_section refl m.exports)

-- the visible part in which M's equations are typed
pub joined_seen : (m : Module) (v : Visible) → Every Seen v.items → Every Seen (joined_visible m v).items
unfolding joined_visible
joined_seen m v h = every_union Seen one_item v.items (own_visible m (seen_sorts m v)).items h (own_seen m (seen_sorts m v))

seen_evaluates : Evaluates AnyName (λ m. Unit {0}) AllSeen AllSeen
seen_evaluates = visible_evaluates Seen (λ m h. any_imports m.imports) (λ σ φ c. moved_seen σ φ) (λ m h seen. own_seen m seen)

module _ (env : List Evaluated) (h : SeenAmong env) where
  pub imported_seen : (is : List Import) → Gives AllSeen (imported env is)
  imported_seen is = imported_gives seen_evaluates.steps env h is (any_imports is)

  pub evaluated_seen : (declared earlier : List Name) (home : ℕ) (total : Size) (m : Module) → Gives AllSeen (evaluate declared earlier home total env m)
  evaluated_seen declared earlier home total m = module_gives seen_evaluates declared earlier home total env m tt h
