-- What two texts mean for the modules in them: how the sequence is divided is of no account from 6 up, and a library module that names a
-- customer's is refused with 8.
use Rattle.std.specs.Prelude.{◌≡◌, refl, ℕ, true, false, List, [], ◌∷◌, ◌++◌}
use Rattle.std.proofs.Common.{sym, ap, subst, ◌∙◌, ⊎_elim}
use Rattle.meaning.specs.Lists.{pick}
use Rattle.meaning.specs.Names.{Name, member}
use Rattle.meaning.specs.Numbers.{named_late}
use Rattle.meaning.specs.Syntax.{Module}
use Rattle.meaning.specs.Checks.{lone, stop}
use Rattle.meaning.specs.Evaluate.{missing, too_late, names_right}
use Rattle.meaning.specs.Reached.{module_names}
use Rattle.laws.specs.Distinct.{Fresh, read_fresh}
use Rattle.meaning.specs.Texts.{Texts, all_read, read_texts}
use Rattle.meaning.specs.TextsLaws.{Parts}
use Rattle.meaning.specs.Answer.{answer}
use Rattle.promises.specs.Members.{member_right, Inside, outside, refuted, no_name, member_here, member_either}

-- the same modules in the same order, divided otherwise: the answer is the same
pub divided_otherwise : (texts texts' : Texts) (ms : List Module) → read_texts texts ≡ all_read ms → read_texts texts' ≡ all_read ms
    → (memory output : ℕ) (asked : Name) → answer memory output asked texts ≡ answer memory output asked texts'
unfolding answer
divided_otherwise texts texts' ms e e' memory output asked = rw (e, e')

-- a name that a later module has is none of those before it
not_before : (v : Name) (taken : List Name) (ms : List Module) → Fresh taken ms → member v (module_names ms) ≡ true → member v taken ≡ false
unfolding module_names
not_before v taken [] f h = no_name v h
not_before v taken (m ∷ ms) f h =
    refuted (member v taken) (λ q.
    ⊎_elim (λ p. sym q ∙ ap (λ (w : Name). member w taken) p ∙ f.0)
    (λ g. sym (member_right v (m.name ∷ []) taken q) ∙ not_before v (m.name ∷ taken) ms f.1 g) (member_either v m.name _ h))

pub names_both : (ls ms : List Module) → module_names (ls ++ ms) ≡ module_names ls ++ module_names ms
unfolding module_names
names_both [] ms = refl
names_both (l ∷ ls) ms = ap (λ (ns : List Name). l.name ∷ ns) (names_both ls ms)

-- so no module of the library has the name of a customer's
pub not_both : (v : Name) (taken : List Name) (ls cs : List Module) → Fresh taken (ls ++ cs) → member v (module_names cs) ≡ true
    → member v (module_names ls) ≡ false
unfolding module_names
not_both v taken [] cs f h = refuted _ (λ q. no_name v q)
not_both v taken (l ∷ ls) cs f h =
    let all = ap (member v) (names_both ls cs) ∙ member_right v (module_names ls) (module_names cs) h in
    refuted _ (λ q.
    ⊎_elim (λ p. sym (ap (λ (w : Name). member w (l.name ∷ taken)) p ∙ member_here l.name taken) ∙ not_before v (l.name ∷ taken) (ls ++ cs) f.1 all)
    (λ g. sym g ∙ not_both v (l.name ∷ taken) ls cs f.1 h) (member_either v l.name _ q))

-- a module of the library has only modules of the library before it, so a customer's name is 8 there
pub library_names_late : (texts : Texts) (ms : List Module) → read_texts texts ≡ all_read ms → (p : Parts texts ms) (earlier : List Name)
    → Inside earlier (module_names p.library_modules) → (w : Name) (ws : List Name) → member w (module_names p.customer_modules) ≡ true
    → names_right (module_names ms) earlier (w ∷ ws) ≡ stop named_late (lone w)
unfolding names_right missing too_late pick
library_names_late texts ms e p earlier inside w ws h =
    let ls = p.library_modules in
    let cs = p.customer_modules in
    let there : member w (module_names ms) ≡ true =
    ap (λ (xs : List Module). member w (module_names xs)) p.sequence ∙ ap (member w) (names_both ls cs)
    ∙ member_right w (module_names ls) (module_names cs) h in
    let late : member w earlier ≡ false =
    outside earlier (module_names ls) w inside
    (not_both w [] ls cs (subst (Fresh []) p.sequence (read_fresh texts ms e)) h) in
    rw (there, late)
