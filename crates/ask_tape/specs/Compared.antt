-- What is compared on two tapes: entries by their roles and names. It tells whether two modules are the same, and whether their parts are.
use Rattle.std.specs.Prelude.{◌≡◌, refl, Bool, true, false, List}
use Rattle.std.proofs.Common.{sym, ap, ◌∙◌}
use Rattle.meaning.specs.Lists.{each, agree}
use Rattle.meaning.specs.Syntax.{Signature, Parameter, Import, Module}
use Rattle.laws.specs.Decides.{Decides}
use Rattle.ask_decision.specs.Same.{same_signature, same_parameter, same_import, same_module, signatures_decided, parameters_decided, imports_decided, modules_decided}
use Rattle.tape.specs.Tape.{Entry, flat_signature, flat_parameter, flat_import, flat_module, export_sort, export_function}
use Rattle.ask_alike.specs.Alike.{same_entry}
use Rattle.ask_alike.specs.AlikeLaws.{runs_decided}
use Rattle.ask_tape.specs.Told.{exports_told, parameters_told, imports_told, module_told}

-- two tests that decide one thing are one
one_test : (b c : Bool) → (b ≡ true → c ≡ true) → (c ≡ true → b ≡ true) → b ≡ c
one_test true c h k = sym (h refl)
one_test false true h k = k refl
one_test false false h k = refl

module _ {A : Type 0} (flat : A → List Entry) (test : A → A → Bool) (d : Decides test) (told : (a b : A) → flat a ≡ flat b → a ≡ b) where
  compared : (a b : A) → agree same_entry (flat a) (flat b) ≡ test a b
  compared a b =
      one_test (agree same_entry (flat a) (flat b)) (test a b)
      (λ h. sym (ap (test a) (told a b (runs_decided.equal _ _ h))) ∙ d.self a)
      (λ h. sym (ap (λ (c : A). agree same_entry (flat a) (flat c)) (d.equal a b h)) ∙ runs_decided.self (flat a))

pub modules_compared : (a b : Module) → agree same_entry (flat_module a) (flat_module b) ≡ same_module a b
modules_compared = compared flat_module same_module modules_decided module_told

pub exports_compared : (a b : Signature)
    → agree same_entry (flat_signature export_sort export_function a) (flat_signature export_sort export_function b) ≡ same_signature a b
exports_compared = compared (flat_signature export_sort export_function) same_signature signatures_decided exports_told

pub imports_compared : (as' bs : List Import) → agree same_entry (each flat_import as') (each flat_import bs) ≡ agree same_import as' bs
imports_compared = compared (each flat_import) (agree same_import) imports_decided imports_told

pub parameters_compared : (as' bs : List Parameter) → agree same_entry (each flat_parameter as') (each flat_parameter bs) ≡ agree same_parameter as' bs
parameters_compared = compared (each flat_parameter) (agree same_parameter) parameters_decided parameters_told
