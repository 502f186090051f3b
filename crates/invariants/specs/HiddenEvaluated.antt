-- The hidden items of every normal form that comes up in evaluating are sound: after each clause, each union, each module, and at the end.
use Rattle.std.specs.Prelude.{ℕ, List}
use Rattle.meaning.specs.Names.{Name}
use Rattle.meaning.specs.Syntax.{Import, Module}
use Rattle.meaning.specs.Origins.{ResolvedEquation}
use Rattle.meaning.specs.Normal.{Visible, Normal, unite_hidden}
use Rattle.meaning.specs.Checks.{Size}
use Rattle.meaning.specs.Clauses.{without}
use Rattle.meaning.specs.Own.{own_hidden_items}
use Rattle.meaning.specs.Evaluate.{Evaluated, imported, seen_sorts, joined_visible, joined_hidden, evaluate}
use Rattle.meaning.specs.Reached.{normalise}
use Rattle.laws.specs.EveryLaws.{every_any}
use Rattle.laws.specs.Outcomes.{Gives, Ends}
use Rattle.laws.specs.Walk.{AnyName, any_imports, Keeps, keeps, EnvironmentOf, imported_gives, with_own, Evaluates, module_gives, call_ends}
use Rattle.invariants.specs.HiddenItems.{HiddenSound, empty_sound, united_sound, moved_sound, ordered_sound, items_joined, items_own}

without_sound : (p : Name) (n : Normal) → HiddenSound n → HiddenSound (without p n)
unfolding without
without_sound p n h = h

-- with M's own joined, before it is put in order
pub joined_sound : (m : Module) (n : Normal) (v : Visible) (es : List ResolvedEquation) → HiddenSound n
    → HiddenSound (record { visible = v; hidden = joined_hidden m (seen_sorts m n.visible) n.hidden es })
unfolding joined_hidden unite_hidden
joined_sound m n v es h =
    items_joined n.hidden.items (own_hidden_items m (seen_sorts m n.visible)) h (items_own m (seen_sorts m n.visible))

hidden_keeps : Keeps AnyName HiddenSound
hidden_keeps = keeps empty_sound (λ σ φ c. moved_sound σ φ) without_sound united_sound

hidden_evaluates : Evaluates AnyName (λ m. Unit {0}) HiddenSound HiddenSound
hidden_evaluates = record {
  steps = hidden_keeps;
  imports = λ m h. any_imports m.imports;
  own = λ home m h n k es r. ordered_sound (with_own m n es) (joined_sound m n (joined_visible m n.visible) es k);
  nothing = empty_sound;
  weaker = λ n h. h;
}

abbrev pub SoundEnvironment : List Evaluated → Type 0
SoundEnvironment env = EnvironmentOf HiddenSound env

pub imported_sound : (env : List Evaluated) → SoundEnvironment env → (is : List Import) → Gives HiddenSound (imported env is)
imported_sound env k is = imported_gives hidden_keeps env k is (any_imports is)

pub evaluated_sound : (declared earlier : List Name) (home : ℕ) (total : Size) (env : List Evaluated) (m : Module) → SoundEnvironment env
    → Gives HiddenSound (evaluate declared earlier home total env m)
evaluated_sound declared earlier home total env m k = module_gives hidden_evaluates declared earlier home total env m tt k

pub normalise_sound : (asked : Name) (ms : List Module) → Ends HiddenSound (normalise asked ms)
normalise_sound asked ms = call_ends hidden_evaluates asked ms (every_any ms)
