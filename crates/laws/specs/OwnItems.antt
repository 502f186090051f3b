-- M's own declarations item by item: what holds of each sort, function and variable as an item holds of M's own items.
use Rattle.std.specs.Prelude.{List, map}
use Rattle.meaning.specs.Lists.{each}
use Rattle.meaning.specs.Names.{Name}
use Rattle.meaning.specs.Syntax.{Function, Signature, Parameter, Module, variables_of}
use Rattle.meaning.specs.Origins.{Section, export_section, hidden_section, parameter_section, Declared, declared_sort, declared_function, declared_variable, Item}
use Rattle.meaning.specs.Own.{own_sort, own_function, own_section, own_visible, own_variable, own_hidden_items}
use Rattle.meaning.specs.OrderLaws.{Every}
use Rattle.laws.specs.EveryLaws.{every_append, every_map, every_each, every_any}

-- the name under which an item was declared
unfoldable pub declared_name : Declared → Name
declared_name (declared_sort a) = a
declared_name (declared_function f i o) = f
declared_name (declared_variable v s) = v

module _ (P : Item → Type 0) (m : Module) (seen : List Name) where
  -- of a section's sorts with A and functions with F
  pub section_every : (A : Name → Type 0) (F : Function → Type 0) (s : Section) → ((a : Name) → A a → P (own_sort m seen s a))
      → ((f : Function) → F f → P (own_function m seen s f)) → (g : Signature) → Every A g.sorts → Every F g.functions
      → Every P (own_section m seen s g)
  unfolding own_section
  section_every A F s p q g h k =
      every_append P (map (own_sort m seen s) g.sorts) (map (own_function m seen s) g.functions)
      (every_map A P (own_sort m seen s) p g.sorts h) (every_map F P (own_function m seen s) q g.functions k)

  -- of whatever is declared
  pub section_made : (s : Section) → ((a : Name) → P (own_sort m seen s a)) → ((f : Function) → P (own_function m seen s f)) → (g : Signature)
      → Every P (own_section m seen s g)
  section_made s p q g = section_every (λ a. Unit {0}) (λ f. Unit {0}) s (λ a u. p a) (λ f u. q f) g (every_any g.sorts) (every_any g.functions)

  abbrev pub formal_items : Parameter → List Item
  formal_items p = own_section m seen (parameter_section p.name) p.signature

  pub visible_every : Every (λ p. Every P (formal_items p)) m.parameters → Every P (own_section m seen export_section m.exports)
      → Every P (own_visible m seen).items
  unfolding own_visible
  visible_every h k =
      every_append P (each formal_items m.parameters) (own_section m seen export_section m.exports)
      (every_each P (λ p. Every P (formal_items p)) formal_items (λ p q. q) m.parameters h) k

  pub hidden_every : Every P (own_section m seen hidden_section m.hidden) → Every (λ v. P (own_variable m seen v)) (variables_of m)
      → Every P (own_hidden_items m seen)
  unfolding own_hidden_items
  hidden_every h k =
      every_append P (own_section m seen hidden_section m.hidden) (map (own_variable m seen) (variables_of m)) h
      (every_map (λ v. P (own_variable m seen v)) P (own_variable m seen) (λ v q. q) (variables_of m) k)
