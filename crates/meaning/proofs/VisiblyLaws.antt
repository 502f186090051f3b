-- The evaluation of a module over visible parts alone mirrors the definition's.
use Rattle.std.specs.Prelude.{refl, ℕ, List, [], ◌∷◌, map}
use Rattle.meaning.specs.Names.{Name, member}
use Rattle.meaning.specs.Syntax.{Pair, Clause, Import, Module, renamed_by, bound_by}
use Rattle.meaning.specs.Normal.{Normal, empty, slot_names, unite, move}
use Rattle.meaning.specs.Written.{in_order}
use Rattle.meaning.specs.Checks.{Size, room, total_room, checked}
use Rattle.meaning.specs.Clauses.{rename, without, bound_to, bind}
use Rattle.meaning.specs.Evaluate.{Evaluated, named_by, names_right, normal_of, clause, clauses, expressions, united, imported, seen_sorts, joined_visible, own_equations, joined_own, evaluate}
use Rattle.meaning.specs.OutcomeLaws.{Mirrors, mirror_then, mirror_room, mirror_pick, mirror_bind, mirror_told}
use Rattle.meaning.specs.VisiblyLaws.{checked_visibly, rename_visibly, bound_visibly, bind_visibly, seen_of, clause_visibly, clauses_visibly, expressions_visibly, united_visibly, imported_visibly, joined_visibly, evaluate_visibly, visible_half, visible_of_env, visible_halfs, equations_told}

checked_mirrors : (n : Normal) → Mirrors visible_half (checked n) (checked_visibly n.visible)
unfolding checked checked_visibly room
checked_mirrors n = mirror_then visible_half _ _ _ (mirror_room visible_half _ _ _ refl)

rename_mirrors : (rs : List Pair) (n : Normal) → Mirrors visible_half (rename rs n) (rename_visibly rs n.visible)
unfolding rename rename_visibly move
rename_mirrors rs n = mirror_then visible_half _ _ _ (checked_mirrors _)

bound_mirrors : (p : Name) (rs : List Pair) (n actual : Normal)
    → Mirrors visible_half (bound_to p rs n actual) (bound_visibly p rs n.visible actual.visible)
unfolding bound_to bound_visibly without move unite
bound_mirrors p rs n actual = mirror_then visible_half _ _ _ (mirror_then visible_half _ _ _ (checked_mirrors _))

bind_mirrors : (p : Name) (rs : List Pair) (n actual : Normal)
    → Mirrors visible_half (bind p rs n actual) (bind_visibly p rs n.visible actual.visible)
unfolding bind bind_visibly
bind_mirrors p rs n actual = mirror_pick visible_half (member p (slot_names n.visible.parameters)) _ _ _ _ (bound_mirrors p rs n actual)

clause_mirrors : (env : List Evaluated) (c : Clause) (n : Normal)
    → Mirrors visible_half (clause env c n) (clause_visibly (map seen_of env) c n.visible)
unfolding clause clause_visibly
clause_mirrors env (renamed_by rs) n = rename_mirrors rs n
clause_mirrors env (bound_by p rs m) n = rw visible_of_env (bind_mirrors p rs n (normal_of env m))

clauses_mirror : (env : List Evaluated) (cs : List Clause) (n : Normal)
    → Mirrors visible_half (clauses env cs n) (clauses_visibly (map seen_of env) cs n.visible)
unfolding clauses clauses_visibly
clauses_mirror env [] n = refl
clauses_mirror env (c ∷ cs) n =
    mirror_bind visible_half visible_half _ _ _ _ (clause_mirrors env c n) (λ k. clauses_mirror env cs k)

expressions_mirror : (env : List Evaluated) (is : List Import)
    → Mirrors visible_halfs (expressions env is) (expressions_visibly (map seen_of env) is)
unfolding expressions expressions_visibly
expressions_mirror env [] = refl
expressions_mirror env (i ∷ is) =
    rw visible_of_env
    (mirror_bind visible_half visible_halfs _ _ _ _ (clauses_mirror env i.clauses (normal_of env i.name))
    (λ k. mirror_bind visible_halfs visible_halfs _ _ _ _ (expressions_mirror env is) (λ ks. refl)))

united_mirrors : (n : Normal) (ns : List Normal) → Mirrors visible_half (united n ns) (united_visibly n.visible (visible_halfs ns))
unfolding united united_visibly unite
united_mirrors n [] = refl
united_mirrors n (k ∷ ks) = mirror_bind visible_half visible_half _ _ _ _ (checked_mirrors (unite n k)) (λ u. united_mirrors u ks)

imported_mirrors : (env : List Evaluated) (is : List Import) → Mirrors visible_half (imported env is) (imported_visibly (map seen_of env) is)
unfolding imported imported_visibly empty
imported_mirrors env is = mirror_bind visible_halfs visible_half _ _ _ _ (expressions_mirror env is) (λ ns. united_mirrors empty ns)

joined_mirrors : (number : ℕ) (total : Size) (m : Module) (n : Normal)
    → Mirrors visible_half (joined_own number total m n) (joined_visibly m n.visible)
unfolding joined_own joined_visibly room total_room in_order
joined_mirrors number total m n =
    mirror_then visible_half _ _ _
    (rw (equations_told 0 number)
    (mirror_told visible_half (own_equations number m (seen_sorts m n.visible) (joined_visible m n.visible)) _ _
    (λ rs. mirror_room visible_half _ _ _ (mirror_room visible_half _ _ _ refl))))

pub evaluate_mirrors : (declared earlier : List Name) (number : ℕ) (total : Size) (env : List Evaluated) (m : Module)
    → Mirrors visible_half (evaluate declared earlier number total env m) (evaluate_visibly (names_right declared earlier (named_by m)) (map seen_of env) m)
unfolding evaluate evaluate_visibly
evaluate_mirrors declared earlier number total env m =
    mirror_then visible_half _ _ _ (mirror_then visible_half _ _ _
    (mirror_bind visible_half visible_half _ _ _ _ (imported_mirrors env m.imports) (λ n. joined_mirrors number total m n)))
