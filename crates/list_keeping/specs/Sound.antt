-- Hidden items that are sound, as those of every module are: no two have one origin and one shape.
use Rattle.std.specs.Prelude.{◌≡◌, false, List, [], ◌∷◌}
use Rattle.std.proofs.Common.{sym, ap, ◌∙◌}
use Rattle.std.proofs.lemmas.Bool.{false≢true}
use Rattle.meaning.specs.Names.{Name}
use Rattle.meaning.specs.Origins.{hidden_section, Origin, Item, one_item}
use Rattle.meaning.specs.OrderLaws.{Every, Pairwise}
use Rattle.laws.specs.Decides.{items_decided}
use Rattle.list_keeping.specs.Nodes.{Distinct}

-- they stand in the hidden section, are called what they were declared as, and no two are one
pub record HiddenSound (called : Origin → Name) (is : List Item) : Type 0 where
  pub standing : Every (λ (i : Item). i.standing ≡ hidden_section) is
  pub named : Every (λ (i : Item). i.name ≡ called i.origin) is
  pub apart : Pairwise (λ (a b : Item). one_item a b ≡ false) is

module _ (called : Origin → Name) where
  two : (a b : Item) → a.standing ≡ hidden_section → b.standing ≡ hidden_section → a.name ≡ called a.origin → b.name ≡ called b.origin
      → one_item a b ≡ false → a.origin ≡ b.origin → a.shape ≡ b.shape → ⊥
  two a b s r n m e origins shapes =
      let standings = s ∙ sym r in
      let names = n ∙ ap called origins ∙ sym m in
      let same : a ≡ b = λ i. record { standing = standings i; name = names i; shape = shapes i; origin = origins i } in
      false≢true (sym e ∙ ap (one_item a) (sym same) ∙ items_decided.self a)

  from_all : (a : Item) (is : List Item) → a.standing ≡ hidden_section → a.name ≡ called a.origin → Every (λ (i : Item). i.standing ≡ hidden_section) is
      → Every (λ (i : Item). i.name ≡ called i.origin) is → Every (λ (b : Item). one_item a b ≡ false) is
      → Every (λ (b : Item). a.origin ≡ b.origin → a.shape ≡ b.shape → ⊥) is
  from_all a [] s n ss ns es = tt
  from_all a (i ∷ is) s n ss ns es = (two a i s ss.0 n ns.0 es.0, from_all a is s n ss.1 ns.1 es.1)

  pub sound_distinct : (is : List Item) → HiddenSound called is → Distinct is
  sound_distinct [] h = tt
  sound_distinct (i ∷ is) h = (
    from_all i is h.standing.0 h.named.0 h.standing.1 h.named.1 h.apart.0,
    sound_distinct is (record { standing = h.standing.1; named = h.named.1; apart = h.apart.1 }),
  )
