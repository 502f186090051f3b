-- Each premise of demand 3 matters: for each, two texts that meet all the others and get different answers or different visible parts.
use Rattle.std.specs.Prelude.{◌≡◌, refl, ℕ, true, false, List, [], ◌++◌, eqb}
use Rattle.std.proofs.Common.{arith}
use Rattle.meaning.specs.Lists.{pick}
use Rattle.meaning.specs.Names.{bytes, Name, same, member}
use Rattle.meaning.specs.Numbers.{memory_size, program_output}
use Rattle.meaning.specs.Syntax.{Module}
use Rattle.meaning.specs.Written.{decimal}
use Rattle.meaning.specs.Evaluate.{named_by, missing, too_late}
use Rattle.meaning.specs.Texts.{Texts, two_texts, all_read, read_texts}
use Rattle.meaning.specs.Reached.{Placed, reached, module_names}
use Rattle.meaning.specs.Answer.{listing, answer}
use Rattle.meaning.specs.Opened.{all_opened}
use Rattle.meaning.specs.OrderLaws.{Every}
use Rattle.promises.specs.VisiblePart.{visible_part, visible_part_opened}
use Rattle.promises.specs.Demand.{InTurn, InTheCall, Comparable}
use Rattle.promises.specs.TwoCalls.{in_turn_so}
use Rattle.promises_instances.specs.Instance.{modules_in, asked, not_m1}

-- ---- the premises but one

pub data Premise : Type 0 where
  nothing same_parameters same_exports same_imports asked_unchanged names_found same_modules others_accepted : Premise

unfoldable pub place : Premise → ℕ
place nothing = 0
place same_parameters = 1
place same_exports = 2
place same_imports = 3
place asked_unchanged = 4
place names_found = 5
place same_modules = 6
place others_accepted = 7

-- the premise P, which stands at p, unless it is the one left out
abbrev pub But : Premise → Premise → Type 0 → Type 0
But left_out p P = pick (eqb (place left_out) (place p)) (Unit {0}) P

-- the name, the parameters, the exports, the imports; the asked module; the names that are missing, and those that are late
abbrev pub CounterpartsBut : Premise → Name → List Module → List Module → Placed → Placed → Type 0
CounterpartsBut left_out asked ms ms' x x' =
    (x.self.name ≡ x'.self.name)
    × But left_out same_parameters (x.self.parameters ≡ x'.self.parameters)
    × But left_out same_exports (x.self.exports ≡ x'.self.exports)
    × But left_out same_imports (x.self.imports ≡ x'.self.imports)
    × But left_out asked_unchanged (x.self.name ≡ asked → x.self ≡ x'.self)
    × But left_out names_found (Every (λ w. missing (module_names ms) w ≡ missing (module_names ms') w) (named_by x.self))
    × But left_out names_found (Every (λ w. too_late (module_names ms) x.earlier w ≡ too_late (module_names ms') x'.earlier w) (named_by x.self))

-- both are read; the asked module stands in both; the modules that it reaches correspond; the others are accepted in both
abbrev pub ComparableBut : Premise → Name → Texts → Texts → List Module → List Module → Type 0
ComparableBut left_out asked texts texts' ms ms' =
    (read_texts texts ≡ all_read ms)
    × (read_texts texts' ≡ all_read ms')
    × (member asked (module_names ms) ≡ true)
    × (member asked (module_names ms') ≡ true)
    × But left_out same_modules (InTurn (CounterpartsBut left_out asked ms ms') (reached asked ms) (reached asked ms'))
    × But left_out others_accepted (InTheCall asked ms)
    × But left_out others_accepted (InTheCall asked ms')

-- where nothing is left out, these are the premises
pub nothing_left_out : (asked : Name) (texts texts' : Texts) (ms ms' : List Module) → ComparableBut nothing asked texts texts' ms ms'
    → Comparable InTheCall asked texts texts' ms ms'
unfolding pick place
nothing_left_out asked texts texts' ms ms' c = record {
  read_as = record { reads = c.0 };
  read_as' = record { reads = c.1 };
  stands = c.2;
  stands' = c.3;
  same_order =
      in_turn_so _ _ (λ x x' h. record {
        alike = record { name = h.0; parameters = h.1; exports = h.2; imports = h.3 };
        asked_same = h.4;
        both_missing = h.5;
        both_late = h.6;
      }) (reached asked ms) (reached asked ms') c.4;
  accepted = c.5;
  accepted' = c.6;
}

-- ---- two texts that show that a premise matters

-- an answer's number, its culprit's name, and the visible part of its listing
unfoldable pub told : Texts → List ℕ
told texts =
    let r = answer memory_size program_output asked texts in
    decimal r.number ++ (bytes " " ++ (r.culprit.name ++ (bytes "\n" ++ visible_part (listing r))))

-- the other premises hold, and this is told of the one and of the other, which is not the same
abbrev pub Matters : Premise → Texts → Texts → List ℕ → List ℕ → Type 0
Matters p texts texts' result result' =
    ComparableBut p asked texts texts' (modules_in (read_texts texts)) (modules_in (read_texts texts'))
    × (told texts ≡ result)
    × (told texts' ≡ result')
    × (same result result' ≡ false)

-- opens what all of them compute by
unfoldable pub matters_opened : Unit {0}
unfolding all_opened visible_part_opened modules_in place asked told
matters_opened = tt

-- nor is M0 asked
not_m0 : {X : Type 0} → bytes "M0" ≡ bytes "M2" → X
not_m0 e = let z : ◌≡◌ {A = ℕ} 48 50 = cc in absurd (omega arith)

-- a parameter of an imported module
pub parameters_matter : Matters same_parameters
    (two_texts [] (bytes "module M1 begin parameters P begin sorts X end P end M1 module M2 begin imports M1 end M2"))
    (two_texts [] (bytes "module M1 begin parameters P begin sorts Y end P end M1 module M2 begin imports M1 end M2"))
    (bytes "0 \nmodule=M2\nparameter=P\nparameter-sort=X\norigin=[M1,parameter P,sort,X]\n")
    (bytes "0 \nmodule=M2\nparameter=P\nparameter-sort=Y\norigin=[M1,parameter P,sort,Y]\n")
unfolding matters_opened
parameters_matter = (
  (refl, refl, refl, refl, ((refl, tt, refl, refl, not_m1, tt, tt), ((refl, tt, refl, refl, λ e. refl, (refl, tt), (refl, tt)), tt)), tt, tt),
  refl,
  refl,
  refl,
)

-- an export of an imported module
pub exports_matter : Matters same_exports
    (two_texts [] (bytes "module M1 begin exports begin sorts A end end M1 module M2 begin imports M1 end M2"))
    (two_texts [] (bytes "module M1 begin exports begin sorts B end end M1 module M2 begin imports M1 end M2"))
    (bytes "0 \nmodule=M2\nsort=A\norigin=[M1,export,sort,A]\n")
    (bytes "0 \nmodule=M2\nsort=B\norigin=[M1,export,sort,B]\n")
unfolding matters_opened
exports_matter = (
  (refl, refl, refl, refl, ((refl, refl, tt, refl, not_m1, tt, tt), ((refl, refl, tt, refl, λ e. refl, (refl, tt), (refl, tt)), tt)), tt, tt),
  refl,
  refl,
  refl,
)

-- an import of an imported module: the same module under another name
pub imports_matter : Matters same_imports
    (two_texts [] (bytes "module M0 begin exports begin sorts A end end M0 module M1 begin imports M0 end M1 module M2 begin imports M1 end M2"))
    (two_texts [] (bytes "module M0 begin exports begin sorts A end end M0 module M1 begin imports M0 { renamed by [ A -> B ] } end M1 module M2 begin imports M1 end M2"))
    (bytes "0 \nmodule=M2\nsort=A\norigin=[M0,export,sort,A]\n")
    (bytes "0 \nmodule=M2\nsort=B\norigin=[M0,export,sort,A]\n")
unfolding matters_opened
imports_matter = (
  (refl, refl, refl, refl, ((refl, refl, refl, tt, not_m0, tt, tt), ((refl, refl, refl, tt, not_m1, (refl, tt), (refl, tt)), ((refl, refl, refl, tt, λ e. refl, (refl, tt), (refl, tt)), tt))), tt, tt),
  refl,
  refl,
  refl,
)

-- a hidden function of the asked module itself: its own hidden names clash with visible ones
pub asked_matters : Matters asked_unchanged
    (two_texts [] (bytes "module M1 begin exports begin sorts A functions f : A -> A end end M1 module M2 begin imports M1 functions g : A -> A end M2"))
    (two_texts [] (bytes "module M1 begin exports begin sorts A functions f : A -> A end end M1 module M2 begin imports M1 functions f : A -> A end M2"))
    (bytes "0 \nmodule=M2\nsort=A\norigin=[M1,export,sort,A]\nfunction=f:A->A\norigin=[M1,export,function,f:A->A]\n")
    (bytes "10 f\n")
unfolding matters_opened
asked_matters =
    ((refl, refl, refl, refl, ((refl, refl, refl, refl, tt, tt, tt), ((refl, refl, refl, refl, tt, (refl, tt), (refl, tt)), tt)), tt, refl), refl, refl, refl)

-- a name that is missing in the one and late in the other
pub names_matter : Matters names_found
    (two_texts [] (bytes "module M2 begin imports M1 end M2"))
    (two_texts [] (bytes "module M2 begin imports M1 end M2 module M1 begin end M1"))
    (bytes "7 M1\n")
    (bytes "8 M1\n")
unfolding matters_opened
names_matter = ((refl, refl, refl, refl, ((refl, refl, refl, refl, λ e. refl, tt, tt), tt), refl, refl), refl, refl, refl)

-- the order of the modules: in the second text M1 stands after M2, and is not reached
pub order_matters : Matters same_modules
    (two_texts [] (bytes "module M1 begin end M1 module M2 begin imports M1 end M2"))
    (two_texts [] (bytes "module M2 begin imports M1 end M2 module M1 begin end M1"))
    (bytes "0 \nmodule=M2\n")
    (bytes "8 M1\n")
unfolding matters_opened
order_matters = ((refl, refl, refl, refl, tt, tt, refl), refl, refl, refl)

-- an imported module that is not accepted: its own hidden sort clashes with its exported one
pub acceptance_matters : Matters others_accepted
    (two_texts [] (bytes "module M1 begin exports begin sorts A end sorts B end M1 module M2 begin imports M1 end M2"))
    (two_texts [] (bytes "module M1 begin exports begin sorts A end sorts A end M1 module M2 begin imports M1 end M2"))
    (bytes "0 \nmodule=M2\nsort=A\norigin=[M1,export,sort,A]\n")
    (bytes "10 A\n")
unfolding matters_opened
acceptance_matters = (
  (refl, refl, refl, refl, ((refl, refl, refl, refl, not_m1, tt, tt), ((refl, refl, refl, refl, λ e. refl, (refl, tt), (refl, tt)), tt)), tt, tt),
  refl,
  refl,
  refl,
)
