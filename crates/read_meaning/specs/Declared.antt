-- Which modules a tape declares: of the entries of a module only the first, its name's, has a module's role.
use Rattle.std.specs.Prelude.{◌≡◌, refl, ℕ, Bool, true, false, List, [], ◌∷◌, ◌++◌, map, eqb, take}
use Rattle.std.proofs.Common.{ap, ◌∙◌, arith, ne_eqb}
use Rattle.meaning.specs.Lists.{pick, any}
use Rattle.meaning.specs.Names.{Name, same, member}
use Rattle.meaning.specs.Syntax.{Module}
use Rattle.text_names.specs.Word.{name_of}
use Rattle.tape.specs.Tape.{Entry, entries, spelled, module_role, flat_module}
use Rattle.tape.specs.Roles.{All, behind_name, all_behind}
use Rattle.read_steps.specs.Model.{declares, taken}

-- is this the entry of a module of that name?
unfoldable pub is_module : Name → Entry → Bool
is_module n e = pick (eqb e.role module_role) (same n e.name) false

-- the entries declare the modules of these names
pub record Declared (names : List Name) (es : List Entry) : Type 0 where
  pub told : (n : Name) → any (is_module n) es ≡ member n names

-- ---- as the model asks

any_entries : (text : List ℕ) (w : ℕ) (ws : List ℕ) → any (declares text w) ws ≡ any (is_module (name_of text w)) (map (spelled text) ws)
unfolding any declares is_module spelled
any_entries text w [] = refl
any_entries text w (e ∷ ws) = rw (any_entries text w ws)

pub taken_told : (text : List ℕ) (names : List Name) (w n : ℕ) (m : Name) (t : List ℕ) → Declared names (entries text n t)
    → name_of text w ≡ m → taken text w n t ≡ member m names
unfolding taken entries
taken_told text names w n m t d e = any_entries text w (take n t) ∙ d.told (name_of text w) ∙ ap (λ k. member k names) e

any_append : {A : Type 0} (p : A → Bool) (xs ys : List A) → any p (xs ++ ys) ≡ pick (any p xs) true (any p ys)
unfolding any pick
any_append p [] ys = refl
any_append p (x ∷ xs) ys = rw (any_append p xs ys) (go (p x) (any p xs) (any p ys))
  where
    go : (a b c : Bool) → pick a true (pick b true c) ≡ pick (pick a true b) true c
    go true b c = refl
    go false b c = refl

-- ---- entries that declare no module

none_declared : (n : Name) (es : List Entry) → All (λ (r : ℕ). eqb r module_role ≡ false) es → any (is_module n) es ≡ false
unfolding any is_module pick
none_declared n [] h = refl
none_declared n (e ∷ es) h = rw h.0 (none_declared n es h.1)

-- ---- a module more

module_told : (m : Module) (n : Name) → any (is_module n) (flat_module m) ≡ same n m.name
unfolding any is_module flat_module behind_name pick
module_told m n =
    rw (none_declared n (behind_name m) (all_behind (λ (r : ℕ). eqb r module_role ≡ false) (λ r h. ne_eqb r module_role (λ e. omega arith)) m))
    (go (same n m.name))
  where
    go : (b : Bool) → pick b true false ≡ b
    go true = refl
    go false = refl

pub one_more : (names : List Name) (es : List Entry) (m : Module) → Declared names es → Declared (m.name ∷ names) (es ++ flat_module m)
unfolding member pick
one_more names es m d = record {
  told = λ n. any_append (is_module n) es (flat_module m) ∙ rw (d.told n, module_told m n) (go (member n names) (same n m.name));
}
  where
    go : (a b : Bool) → pick a true b ≡ pick b true a
    go true true = refl
    go true false = refl
    go false true = refl
    go false false = refl

pub none_yet : (text t : List ℕ) → Declared [] (entries text 0 t)
unfolding entries any member
none_yet text t = record { told = λ n. refl }
