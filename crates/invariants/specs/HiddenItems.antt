-- Hidden items stand in the hidden section and are called as declared, and no two are one: so it is of M's own, and so it stays when normal
-- forms are united, moved and put in order.
use Rattle.std.specs.Prelude.{◌≡◌, false, List, [], ◌∷◌, ◌++◌, map}
use Rattle.std.proofs.Math.Path.{refl}
use Rattle.std.proofs.Common.{sym, ◌∙◌}
use Rattle.meaning.specs.Laws.{by_cases}
use Rattle.meaning.specs.Lists.{any, union}
use Rattle.meaning.specs.Names.{Name}
use Rattle.meaning.specs.Syntax.{Module, variables_of}
use Rattle.meaning.specs.Origins.{hidden_section, FunctionType, Item, one_item}
use Rattle.meaning.specs.Normal.{Normal, nothing_hidden, empty, unite_hidden, unite, move_hidden_item, move_hidden, move}
use Rattle.meaning.specs.Written.{hidden_in_order, in_order}
use Rattle.meaning.specs.Own.{own_sort, own_function, own_variable, own_hidden_items}
use Rattle.meaning.specs.OrderLaws.{Every, Pairwise, rearranged_every, sorted_rearranged, pairwise_rearranged, any_none}
use Rattle.laws.specs.Decides.{items_decided, symmetric}
use Rattle.laws.specs.EveryLaws.{every_all, every_append, every_map}
use Rattle.laws.specs.OwnItems.{section_made, hidden_every}
use Rattle.laws.specs.OwnItems.{declared_name}

pub record HiddenItem (i : Item) : Type 0 where
  pub standing : i.standing ≡ hidden_section
  pub name : i.name ≡ declared_name i.origin.declared

abbrev pub Different : Item → Item → Type 0
Different a b = one_item a b ≡ false

pub record HiddenItems (items : List Item) : Type 0 where
  pub every : Every HiddenItem items
  pub distinct : Pairwise Different items

abbrev pub HiddenSound : Normal → Type 0
HiddenSound n = HiddenItems n.hidden.items

-- ---- lists

different_symmetric : (a b : Item) → Different a b → Different b a
different_symmetric a b h = sym (symmetric items_decided a b) ∙ h

-- one more, that none is one with
one_more : (xs : List Item) (y : Item) → Pairwise Different xs → Every (Different y) xs → Pairwise Different (xs ++ (y ∷ []))
one_more [] y h k = (tt, tt)
one_more (x ∷ xs) y h k = (every_append (Different x) xs (y ∷ []) h.0 (different_symmetric y x k.0, tt), one_more xs y h.1 k.1)

-- ---- united, whatever is united to them

pub items_joined : (xs ys : List Item) → HiddenItems xs → Every HiddenItem ys → HiddenItems (union one_item xs ys)
unfolding union
items_joined xs [] h k = h
items_joined xs (y ∷ ys) h k =
    by_cases HiddenItems (any (one_item y) xs) (union one_item xs ys) (union one_item (xs ++ (y ∷ [])) ys) (λ e. items_joined xs ys h k.1)
    (λ e. items_joined (xs ++ (y ∷ [])) ys (record {
      every = every_append HiddenItem xs (y ∷ []) h.every (k.0, tt);
      distinct = one_more xs y h.distinct (any_none (one_item y) xs e);
    }) k.1)

no_items : HiddenItems []
no_items = record { every = tt; distinct = tt }

pub empty_sound : HiddenSound empty
unfolding empty nothing_hidden
empty_sound = no_items

pub united_sound : (a b : Normal) → HiddenSound a → HiddenSound b → HiddenSound (unite a b)
unfolding unite unite_hidden
united_sound a b h k = items_joined a.hidden.items b.hidden.items h k.every

-- ---- moved

pub moved_sound : (σ : Name → Name) (φ : Name → FunctionType → Name) (n : Normal) → HiddenSound n → HiddenSound (move σ φ n)
unfolding move move_hidden move_hidden_item
moved_sound σ φ n h =
    items_joined [] (map (move_hidden_item σ φ) n.hidden.items) no_items
    (every_map HiddenItem HiddenItem (move_hidden_item σ φ) (λ i k. record { standing = k.standing; name = k.name }) n.hidden.items h.every)

-- ---- in another order

pub ordered_sound : (n : Normal) → HiddenSound n → HiddenSound (in_order n)
unfolding in_order hidden_in_order
ordered_sound n h =
    let d = sorted_rearranged _ n.hidden.items in
    record { every = rearranged_every HiddenItem d h.every; distinct = pairwise_rearranged Different different_symmetric d h.distinct }

-- ---- M's own

module _ (m : Module) (seen : List Name) where
  pub items_own : Every HiddenItem (own_hidden_items m seen)
  unfolding own_sort own_function own_variable declared_name
  items_own =
      hidden_every HiddenItem m seen
      (section_made HiddenItem m seen hidden_section (λ a. record { standing = refl; name = refl }) (λ f. record { standing = refl; name = refl }) m.hidden)
      (every_all _ (λ v. record { standing = refl; name = refl }) (variables_of m))
