-- The rules of declarations, imports and variables, line by line.
use Rattle.std.specs.Prelude.{◌≡◌, ℕ, true, ltb}
use Rattle.std.proofs.Math.Path.{refl, sym}
use Rattle.std.proofs.Common.{ap, ◌∙◌}
use mathlib.Core.List.{List, [], ◌∷◌, ◌++◌, map, append-nil, append_assoc}
use Rattle.meaning.specs.Lists.{pick, each}
use Rattle.meaning.specs.Names.{byte, Name}
use Rattle.meaning.specs.Numbers.{text_size, import_limit, binding_limit, pair_limit, argument_limit}
use Rattle.meaning.specs.Tokens.{arrow, operator, begin_key, bound_key, by_key, end_key, functions_key, renamed_key, sorts_key, to_key}
use Rattle.meaning.specs.Grammar.{Parser, ◌>>=◌, is, is_name, begins_function}
use Rattle.meaning.specs.Grammar
use Rattle.tape.specs.Tape.{Entry, entry, parameter_role, parameter_sort, parameter_function, export_sort, export_function, input_role, output_role, import_role, renamed_role, bound_role, old_role, new_role, actual_role, variable_role, variable_sort}
use Rattle.tape.specs.Tape.{flat_function, flat_signature, flat_parameter, flat_pair, flat_clause, flat_import, flat_group}
use Rattle.text_names.specs.Word.{prefix_form, infix_form, in_form}
use Rattle.read_steps.specs.Model.{Writer, ◌>>◌}
use Rattle.read_steps.specs.Model
use Rattle.read_meaning.specs.Matches.{Reads, means}
use Rattle.read_meaning.specs.Lines.{either, grouped, stay_meant, last, closing, line, pass}
use Rattle.read_meaning.specs.Steps.{expect_meant, expect_more, mark_first, name_meant, operator_meant, with_name, this_name_meant}
use Rattle.read_meaning.specs.Lists.{separated_meant, many_meant, some_of_meant, optional_meant, names_meant}

each_append : {A : Type 0} (f : A → List Entry) (xs ys : List A) → each f (xs ++ ys) ≡ each f xs ++ each f ys
unfolding each
each_append f [] ys = refl
each_append f (x ∷ xs) ys = ap (λ es. f x ++ es) (each_append f xs ys) ∙ sym (append_assoc (f x) (each f xs) (each f ys))

module _ {text : List ℕ} where
  -- ---- declarations

  input_type_meant : Reads text 0 0 (Model.input_type text) (Grammar.input_type text) (means (map (entry input_role)))
  unfolding Model.input_type Grammar.input_type
  input_type_meant = either (is arrow) (stay_meant [] (λ s. refl)) (names_meant argument_limit (byte "#") input_role refl)

  prefix_operator_meant : (role : ℕ) → ltb role 32 ≡ true
      → Reads text 0 0 (Model.prefix_operator text role) (Grammar.prefix_operator text) (means λ f. entry role f ∷ [])
  unfolding Model.prefix_operator Grammar.prefix_operator in_form pick
  prefix_operator_meant role h =
      line (operator_meant prefix_form role refl h) (λ o. closing _ (expect_meant (byte "_")) (λ s. append-nil _))

  infix_operator_meant : (role : ℕ) → ltb role 32 ≡ true
      → Reads text 0 0 (Model.infix_operator text role) (Grammar.infix_operator text) (means λ f. entry role f ∷ [])
  unfolding Model.infix_operator Grammar.infix_operator in_form pick
  infix_operator_meant role h =
      pass (expect_meant (byte "_"))
      (line (operator_meant infix_form role refl h) (λ o. closing _ (expect_meant (byte "_")) (λ s. append-nil _)))

  one_input_meant : Reads text 0 0 (Model.one_input text) (Grammar.one_input text) (means (map (entry input_role)))
  unfolding Model.one_input Grammar.one_input
  one_input_meant = last _ (name_meant input_role refl) (λ a s. refl)

  two_inputs_meant : Reads text 0 0 (Model.two_inputs text) (Grammar.two_inputs text) (means (map (entry input_role)))
  unfolding Model.two_inputs Grammar.two_inputs
  two_inputs_meant =
      line (name_meant input_role refl) (λ a. pass (expect_meant (byte "#")) (last _ (name_meant input_role refl) (λ b s. refl)))

  -- a function's name, and what it takes and gives
  named_function : (role : ℕ) {W X : Writer} {N : Parser Name} {P : Parser (List Name)} → Reads text 0 0 W N (means λ f. entry role f ∷ [])
      → Reads text 0 0 X P (means (map (entry input_role)))
      → Reads text 0 0 (W >> Model.function_by text X) (N >>= Grammar.function_by text P) (means (flat_function role))
  unfolding Model.function_by Grammar.function_by flat_function
  named_function role d e =
      line d (λ f.
      pass (expect_meant (byte ":"))
      (line e (λ i.
      pass (expect_meant arrow)
      (last _ (name_meant output_role refl) (λ o s. refl)))))

  function_meant : (role : ℕ) → ltb role 32 ≡ true
      → Reads text 0 0 (Model.function text role) (Grammar.function text) (means (flat_function role))
  unfolding Model.function Grammar.function
  function_meant role h =
      either (is operator) (named_function role (prefix_operator_meant role h) one_input_meant)
      (either (is (byte "_")) (named_function role (infix_operator_meant role h) two_inputs_meant)
      (named_function role (name_meant role h) input_type_meant))

  pub signature_meant : (sort_role function_role : ℕ) → ltb sort_role 32 ≡ true → ltb function_role 32 ≡ true
      → Reads text 0 0 (Model.signature text sort_role function_role) (Grammar.signature text) (means (flat_signature sort_role function_role))
  unfolding Model.signature Grammar.signature Grammar.sort_list flat_signature each
  signature_meant sort_role function_role h k =
      line (optional_meant sorts_key [] refl (names_meant text_size (byte ",") sort_role h)) (λ ss.
      last _ (optional_meant functions_key [] refl (some_of_meant begins_function (function_meant function_role k) text_size)) (λ fs s. refl))

  parameter_meant : Reads text 0 0 (Model.parameter text) (Grammar.parameter text) (means flat_parameter)
  unfolding Model.parameter Grammar.parameter Model.enclosed flat_parameter
  parameter_meant =
      with_name parameter_role refl (λ w p e.
      grouped _ _ _
      (pass (expect_meant begin_key)
      (grouped _ _ _
      (line (signature_meant parameter_sort parameter_function refl refl) (λ s.
      pass (expect_meant end_key)
      (closing _ (this_name_meant w p e) (λ v. rw append-nil)))))))

  pub parameters_meant : Reads text 0 0 (Model.parameters text) (Grammar.separated text text_size (byte ",") is_name (Grammar.parameter text))
      (means (each flat_parameter))
  unfolding Model.parameters
  parameters_meant = separated_meant is_name parameter_meant text_size (byte ",")

  pub exports_meant : Reads text 0 0 (Model.exports text) (Grammar.exports text) (means (flat_signature export_sort export_function))
  unfolding Model.exports Grammar.exports Model.enclosed
  exports_meant =
      pass (expect_meant begin_key)
      (line (signature_meant export_sort export_function refl refl) (λ s.
      closing _ (expect_meant end_key) (λ v. append-nil _)))

  -- ---- imports

  function_name_meant : (role : ℕ) → ltb role 32 ≡ true
      → Reads text 0 0 (Model.function_name text role) (Grammar.function_name text) (means λ f. entry role f ∷ [])
  unfolding Model.function_name Grammar.function_name
  function_name_meant role h =
      either (is operator) (prefix_operator_meant role h) (either (is (byte "_")) (infix_operator_meant role h) (name_meant role h))

  pair_meant : Reads text 0 0 (Model.pair text) (Grammar.pair text) (means flat_pair)
  unfolding Model.pair Grammar.pair flat_pair
  pair_meant =
      line (function_name_meant old_role refl) (λ a. pass (expect_meant arrow) (last _ (function_name_meant new_role refl) (λ b s. refl)))

  pairs_meant : Reads text 0 0 (Model.pairs text) (Grammar.pairs text) (means (each flat_pair))
  unfolding Model.pairs Grammar.pairs
  pairs_meant =
      pass (expect_meant (byte "["))
      (line (separated_meant begins_function pair_meant pair_limit (byte ",")) (λ r.
      closing _ (expect_meant (byte "]")) (λ s. append-nil _)))

  renamed_meant : Reads text 0 0 (Model.renamed text) (Grammar.renamed text) (means flat_clause)
  unfolding Model.renamed Grammar.renamed flat_clause
  renamed_meant =
      pass (expect_more renamed_key refl refl)
      (mark_first renamed_role refl
      (pass (expect_meant by_key)
      (last _ pairs_meant (λ r s. refl))))

  bound_meant : Reads text 0 0 (Model.bound text) (Grammar.bound text) (means flat_clause)
  unfolding Model.bound Grammar.bound flat_clause
  bound_meant =
      line (name_meant bound_role refl) (λ p.
      pass (expect_meant bound_key)
      (pass (expect_meant by_key)
      (line pairs_meant (λ r.
      pass (expect_meant to_key)
      (last _ (name_meant actual_role refl) (λ m s. refl))))))

  perhaps_renamed_meant : Reads text 0 0 (Model.perhaps_renamed text) (Grammar.perhaps_renamed text) (means (each flat_clause))
  unfolding Model.perhaps_renamed Grammar.perhaps_renamed each
  perhaps_renamed_meant = either (is renamed_key) (last _ renamed_meant (λ r s. sym (append-nil _))) (stay_meant [] (λ s. refl))

  modifier_meant : Reads text 0 0 (Model.modifier text) (Grammar.modifier text) (means (each flat_clause))
  unfolding Model.modifier Grammar.modifier each
  modifier_meant =
      either (is renamed_key)
      (line renamed_meant (λ r. last _ (many_meant is_name bound_meant binding_limit) (λ b s. refl)))
      (line (some_of_meant is_name bound_meant binding_limit) (λ b.
      last _ perhaps_renamed_meant (λ r s. sym (each_append flat_clause b r))))

  import_meant : Reads text 0 0 (Model.import_expression text) (Grammar.import_expression text) (means flat_import)
  unfolding Model.import_expression Model.modified Grammar.import_expression Grammar.modifier_end flat_import each
  import_meant =
      line (name_meant import_role refl) (λ m.
      last _ (optional_meant (byte "{") [] refl (line modifier_meant (λ c. closing _ (expect_meant (byte "}")) (λ s. append-nil _)))) (λ c s. refl))

  pub imports_meant : Reads text 0 0 (Model.imports text) (Grammar.imports text) (means (each flat_import))
  unfolding Model.imports Grammar.imports
  imports_meant = separated_meant is_name import_meant import_limit (byte ",")

  -- ---- variables

  group_meant : Reads text 0 0 (Model.variable_group text) (Grammar.variable_group text) (means flat_group)
  unfolding Model.variable_group Grammar.variable_group flat_group
  group_meant =
      line (names_meant text_size (byte ",") variable_role refl) (λ v.
      pass (expect_meant (byte ":"))
      (pass (expect_meant arrow)
      (last _ (name_meant variable_sort refl) (λ o s. refl))))

  pub variables_meant : Reads text 0 0 (Model.variables text) (Grammar.variables text) (means (each flat_group))
  unfolding Model.variables Grammar.variables
  variables_meant = some_of_meant is_name group_meant text_size
