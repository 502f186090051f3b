-- The tape: what a text says as entries in text order, the syntax tree laid flat. An entry says what stands there and has a name, or none.
use Rattle.std.specs.Prelude.{ℕ, zero, suc, ◌/◌, ◌%◌, List, [], ◌∷◌, ◌++◌, map, eqb, take}
use Rattle.meaning.specs.Lists.{pick, each}
use Rattle.meaning.specs.Names.{Name, is_operator}
use Rattle.meaning.specs.Syntax.{Function, Signature, Parameter, Pair, Clause, renamed_by, bound_by, Import, VariableGroup, Term, node, Terms, no_terms, ◌then◌, Sides, Equation, Module}
use Rattle.text_names.specs.Word.{name_of}

pub record Entry : Type 0 where
  pub role : ℕ
  pub name : Name

abbrev pub entry : ℕ → Name → Entry
entry r n = record { role = r; name = n }

-- ---- what stands at an entry; 0 is no entry

abbrev pub module_role : ℕ
module_role = 1

abbrev pub parameter_role : ℕ
parameter_role = 2

-- the sorts and functions of the three sections; after a function its inputs and its output
abbrev pub parameter_sort : ℕ
parameter_sort = 3

abbrev pub parameter_function : ℕ
parameter_function = 4

abbrev pub export_sort : ℕ
export_sort = 5

abbrev pub export_function : ℕ
export_function = 6

abbrev pub hidden_sort : ℕ
hidden_sort = 7

abbrev pub hidden_function : ℕ
hidden_function = 8

abbrev pub input_role : ℕ
input_role = 9

abbrev pub output_role : ℕ
output_role = 10

-- the module of an import expression; after it the clauses
abbrev pub import_role : ℕ
import_role = 11

-- a renaming, which has no name; after it its pairs
abbrev pub renamed_role : ℕ
renamed_role = 12

-- a binding's parameter; after it its pairs and the actual module
abbrev pub bound_role : ℕ
bound_role = 13

abbrev pub old_role : ℕ
old_role = 14

abbrev pub new_role : ℕ
new_role = 15

abbrev pub actual_role : ℕ
actual_role = 16

-- a variable; after those that share it, their sort
abbrev pub variable_role : ℕ
variable_role = 17

abbrev pub variable_sort : ℕ
variable_sort = 18

-- an equation's tag; after it, for each sides, two terms and what the sides are
abbrev pub tag_role : ℕ
tag_role = 19

-- in a term: a name without brackets; a name with arguments, which follow, and what closes them
abbrev pub alone_role : ℕ
alone_role = 20

abbrev pub head_role : ℕ
head_role = 21

abbrev pub close_role : ℕ
close_role = 22

-- after the two terms of a condition, and of a conclusion
abbrev pub condition_role : ℕ
condition_role = 23

abbrev pub conclusion_role : ℕ
conclusion_role = 24

-- in a term: an operator with its one argument, or its two, which follow; nothing closes them, so that there are no more entries than tokens
abbrev pub prefix_role : ℕ
prefix_role = 25

abbrev pub infix_role : ℕ
infix_role = 26

-- ---- the syntax laid flat

unfoldable pub flat_function : ℕ → Function → List Entry
flat_function role f = entry role f.name ∷ (map (entry input_role) f.inputs ++ (entry output_role f.output ∷ []))

unfoldable pub flat_signature : ℕ → ℕ → Signature → List Entry
flat_signature sort_role function_role s = map (entry sort_role) s.sorts ++ each (flat_function function_role) s.functions

unfoldable pub flat_parameter : Parameter → List Entry
flat_parameter p = entry parameter_role p.name ∷ flat_signature parameter_sort parameter_function p.signature

unfoldable pub flat_pair : Pair → List Entry
flat_pair p = entry old_role p.old ∷ (entry new_role p.new ∷ [])

unfoldable pub flat_clause : Clause → List Entry
flat_clause (renamed_by ps) = entry renamed_role [] ∷ each flat_pair ps
flat_clause (bound_by p ps m) = entry bound_role p ∷ (each flat_pair ps ++ (entry actual_role m ∷ []))

unfoldable pub flat_import : Import → List Entry
flat_import i = entry import_role i.name ∷ each flat_clause i.clauses

unfoldable pub flat_group : VariableGroup → List Entry
flat_group g = map (entry variable_role) g.names ++ (entry variable_sort g.sort ∷ [])

-- the role of a name with n arguments
unfoldable pub role_with : Name → ℕ → ℕ
role_with f n = pick (is_operator f) (pick (eqb n 1) prefix_role (pick (eqb n 2) infix_role head_role)) head_role

-- what closes them
unfoldable pub closing : ℕ → List Entry
closing role = pick (eqb role head_role) (entry close_role [] ∷ []) []

-- a name and the entries of its n arguments
unfoldable pub flat_node : Name → ℕ → List Entry → List Entry
flat_node f zero es = entry alone_role f ∷ []
flat_node f (suc n) es = entry (role_with f (suc n)) f ∷ (es ++ closing (role_with f (suc n)))

unfoldable pub how_many : Terms → ℕ
how_many no_terms = 0
how_many (t then ts) = suc (how_many ts)

unfoldable mutual
  pub flat_term : Term → List Entry
  flat_term (node f ts) = flat_node f (how_many ts) (flat_terms ts)

  pub flat_terms : Terms → List Entry
  flat_terms no_terms = []
  flat_terms (t then ts) = flat_term t ++ flat_terms ts

unfoldable pub flat_sides : ℕ → Sides → List Entry
flat_sides role s = flat_term s.left ++ (flat_term s.right ++ (entry role [] ∷ []))

unfoldable pub flat_equation : Equation → List Entry
flat_equation e =
    entry tag_role e.tag
    ∷ (each (flat_sides condition_role) e.before
    ++ (flat_sides conclusion_role e.conclusion ++ each (flat_sides condition_role) e.after))

unfoldable pub flat_module : Module → List Entry
flat_module m =
    entry module_role m.name
    ∷ (each flat_parameter m.parameters
    ++ (flat_signature export_sort export_function m.exports
    ++ (each flat_import m.imports
    ++ (flat_signature hidden_sort hidden_function m.hidden
    ++ (each flat_group m.groups ++ each flat_equation m.equations)))))

unfoldable pub flat_modules : List Module → List Entry
flat_modules ms = each flat_module ms

-- ---- words of the tape: 32 times the name's word, and the role

unfoldable pub spelled : List ℕ → ℕ → Entry
spelled text w = record { role = w % 32; name = name_of text (w / 32) }

-- the first n words of a tape
unfoldable pub entries : List ℕ → ℕ → List ℕ → List Entry
entries text n tape = map (spelled text) (take n tape)

-- opens every definition of this file
unfoldable pub tape_opened : Unit {0}
unfolding flat_function flat_signature flat_parameter flat_pair flat_clause flat_import flat_group role_with closing flat_node how_many flat_term flat_terms flat_sides flat_equation flat_module flat_modules spelled entries
tape_opened = tt
