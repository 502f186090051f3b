-- The lines in front of a normal form's listing are its visible lines.
use Rattle.std.specs.Prelude.{◌≡◌, refl, Bool, true, false, List, [], ◌∷◌, ◌++◌, map}
use Rattle.std.proofs.Common.{sym, ap, ◌∙◌}
use Prim.Native.String.{String}
use Rattle.meaning.specs.Lists.{pick, each, before}
use Rattle.meaning.specs.Names.{bytes, Name, same, member, words}
use Rattle.meaning.specs.Tokens.{number_in}
use Rattle.meaning.specs.Origins.{Item, ResolvedEquation}
use Rattle.meaning.specs.Normal.{Visible, Hidden, Normal, slot_names, formals}
use Rattle.meaning.specs.OrderLaws.{Every}
use Rattle.meaning.specs.Listing.{Line, line, exported_lines, formal_lines, is_exported, parameter_lines, visible_lines, hidden_item_lines, equation_line, hidden_lines, listing_lines, visible_keys, shown, listing_keys}
use Rattle.laws.specs.EveryLaws.{every_append, every_keep, every_each}
use Rattle.promises.specs.ListingLaws.{Plain, Within, all_pass, within_by, among_so, by_kind}
use Rattle.promises.specs.Told.{SoundVisible, Sound, exported_of, keyed, formals_sound, items_keyed, every_named}
use Rattle.promises.specs.Lines.{listing_shown}
use Rattle.reader.specs.Places.{key_number}
use Rattle.reader.specs.Visible.{in_front}
use Rattle.reader_promises.specs.Front.{leading}

-- opens what keys are tested by
unfoldable keys_opened : Unit {0}
unfolding listing_keys visible_keys words member same pick number_in key_number in_front before
keys_opened = tt

abbrev front_keys : String
front_keys = "module sort function parameter parameter-sort parameter-function origin"

-- ---- lines of these keys

front_so : (p : Name → Bool) → all_pass p (words (bytes front_keys)) ≡ true → (l : Line) → keyed front_keys l ≡ true → p l.key ≡ true
unfolding keyed
front_so p e l h = among_so p l.key (words (bytes front_keys)) (within_by p (words (bytes front_keys)) e) h

leading_front : (ls rest : List Line) → Within (keyed front_keys) ls → leading rest ≡ [] → leading (ls ++ rest) ≡ ls
unfolding leading keys_opened
leading_front [] rest h e = e
leading_front (l ∷ ls) rest h e =
    ap (λ (b : Bool). pick b (l ∷ leading (ls ++ rest)) []) (front_so (λ (k : Name). in_front (key_number k)) refl l h.0)
    ∙ ap (l ∷◌) (leading_front ls rest h.1 e)

-- they are shown after one that is
shown_front : (ls : List Line) → Within (keyed front_keys) ls → shown true ls ≡ ls
unfolding shown keys_opened
shown_front [] h = refl
shown_front (l ∷ ls) h =
    ap (λ (b : Bool). pick b (l ∷ shown b ls) (shown b ls))
    (front_so (λ (k : Name). pick (same k (bytes "origin")) true (member k visible_keys)) refl l h.0)
    ∙ ap (l ∷◌) (shown_front ls h.1)

visible_front : (v : Visible) → Every Plain (slot_names v.parameters) → Every SoundVisible v.items → Within (keyed front_keys) (visible_lines v)
unfolding visible_lines parameter_lines exported_lines formal_lines keyed keys_opened
visible_front v g h =
    let Fronts : Line → Type 0 = λ l. keyed front_keys l ≡ true in
    every_append Fronts (each exported_lines (exported_of v)) (each (parameter_lines v) (slot_names v.parameters))
    (items_keyed front_keys "sort" "function" refl refl refl (exported_of v)
    (every_keep SoundVisible (λ (i : Item). is_exported i.standing) v.items h))
    (every_each Fronts Plain (parameter_lines v)
    (λ p q. (refl, items_keyed front_keys "parameter-sort" "parameter-function" refl refl refl (formals p v) (formals_sound p v h)))
    (slot_names v.parameters) g)

-- ---- none of the lines behind leads

stops : (l : Line) (ls : List Line) → in_front (key_number l.key) ≡ false → leading (l ∷ ls) ≡ []
unfolding leading pick
stops l ls e = rw e

back_leads : (m : Name) (h : Hidden) → leading (hidden_lines h ++ (line "end" m ∷ [])) ≡ []
unfolding hidden_lines hidden_item_lines equation_line keys_opened
back_leads m h = go h.items h.equations
  where
    go : (is : List Item) (es : List ResolvedEquation)
        → leading ((hidden_item_lines h.items 1 is ++ map (equation_line h.items) es) ++ (line "end" m ∷ [])) ≡ []
    go [] [] = stops _ _ refl
    go [] (e ∷ es) = stops _ _ refl
    go (i ∷ is) es =
        stops _ _ (by_kind (λ k. in_front (key_number k) ≡ false) "hidden-sort" "hidden-function" "variable" refl refl refl i.shape)

pub listing_settled : (m : Name) (n : Normal) → Sound n → leading (listing_lines m n) ≡ shown false (listing_lines m n)
unfolding listing_lines shown keyed keys_opened
listing_settled m n s =
    let front = visible_front n.visible (every_named Plain n.visible.parameters s.parameters) s.visible in
    leading_front (line "module" m ∷ visible_lines n.visible) _ (refl, front) (back_leads m n.hidden)
    ∙ sym (listing_shown m n ∙ ap (line "module" m ∷◌) (shown_front (visible_lines n.visible) front))
